-- What is answered ok has its line.
use Rattle.pua_tool.proofs.Common.{◌≡◌, ◌∙◌, ◌++◌, ℕ, List, ap, refl, Some, CallTable, World, ProcessState, kept_at}
use Rattle.pua_tool.proofs.Common.{[], ◌∷◌, arith, None, subst, sym, Result}
use Rattle.std.proofs.Common.{append_assoc, inl, inr, lit<, ◌⊎◌, zero, suc, Bool, true, false}
use Rattle.std.proofs.lemmas.Bool.{and_parts, false≢true}
use Rattle.std.specs.List.{AllByRecursion, Contains, list_any}
use Rattle.std.specs.Prelude.{◌&&◌, ◌||◌, codes, find, if◌then◌else◌, IsTrue, not, unwrap_or, Ok, Err}
use Rattle.pua_path.specs.declared.errno.Errno.{Errno}
use Rattle.pua_calls.specs.Calls.{about_rules}
use Rattle.pua_calls.specs.Promises.{no_promises, promises_of}
use Rattle.pua_calls.specs.Tables.{NamesNoError}
use Rattle.pua_ever.specs.Through.{AreWithin}
use Rattle.pua_calls.specs.declared.call.Call.{Call}
use Rattle.pua_calls.specs.declared.rules.Rules.{Rules}
use Rattle.pua_policy.specs.States.{start}
use Rattle.pua_policy.specs.Verdict.{is_allowed, object_named, verdict_on}
use Rattle.pua_policy.specs.declared.answer.Verdict.{Verdict}
use Rattle.pua_policy.specs.declared.answer.Verdict.TheVariants.{Allowed, Failed, Death}
use Rattle.pua_script.specs.OpeningLaws.{Accounted, by_verdict, by_opening, OkaysAreAccounted}
use Rattle.pua_script.specs.Openings.{Opening, holds_named, is_opening, opening_of, openings, opens_call}
use Rattle.pua_objects.specs.Laws.{HasShownLine, StartsAreIn}
use Rattle.pua_texts.specs.ObjectLines.{heading_now}
use Rattle.pua_texts.specs.Openings.{opening_line, opening_text}
use Rattle.pua_texts.specs.RootLines.{root_line}
use Rattle.pua_texts.specs.States.{HasOpening, OpeningsArePrinted, head_lines, heading_line, kept_lines, own_lines}
use Rattle.pua_tool.specs.Listed.{AreOkaysListed, HasLine, IsListComplete}

-- an allowed call, by the test
pub allowed_by : (v : Verdict) → IsTrue (is_allowed v) → v ≡ Allowed
allowed_by Allowed e = refl
allowed_by (Failed errno) e = absurd (false≢true e)
allowed_by Death e = absurd (false≢true e)

-- a line of a state, in a text that begins with it behind a front
pub in_text : (heading own veils : List ℕ) (o : Opening) (front more text : List ℕ) →
    text ≡ front ++ (((heading ++ own) ++ veils) ++ more) → HasOpening own o → HasLine text (codes "opening " ++ opening_text o)
in_text heading own veils o front more text is has = (
  front ++ heading ++ has.0,
  has.1 ++ veils ++ more,
  is ∙ ap (λ own. front ++ (((heading ++ own) ++ veils) ++ more)) has.2
      ∙ parts front heading has.0 (opening_line o) has.1 veils more,
)
  where
    parts : (f hd b line c v m : List ℕ) → f ++ (((hd ++ (b ++ line ++ c)) ++ v) ++ m) ≡ (f ++ hd ++ b) ++ line ++ (c ++ v ++ m)
    parts f hd b line c v m = search (append_assoc)

-- which rules know of openings
pub opened_by_rules : (table : CallTable) (h : ProcessState) (call : Call) (path : List ℕ) (o : Opening) (rules : Rules) →
    table.whose ≡ rules → opening_of table h call path ≡ Some o → (about_rules rules).has_openings ≡ true
opened_by_rules table h call path o rules whose is =
    ap (λ (r : Rules). (about_rules r).has_openings) (sym whose) ∙ by (about_rules table.whose).has_openings is
  where
    by : (b : Bool) → (if b && not h.ended
        then find (is_opening (unwrap_or h.promises no_promises) call path) openings else None) ≡ Some o → b ≡ true
    by true e = refl
    by false e = cc

-- an opening that a set of promises gives
some_of : (test : Opening → Bool) (rows : List Opening) → list_any test rows ≡ true → (o : Opening) × Contains rows o × (test o ≡ true)
some_of test [] e = absurd (false≢true e)
some_of test (row ∷ rows) e = by (test row) refl (some_of test rows) e
  where
    by : (b : Bool) → test row ≡ b → (list_any test rows ≡ true → (o : Opening) × Contains rows o × (test o ≡ true)) →
        (b || list_any test rows) ≡ true → (o : Opening) × Contains (row ∷ rows) o × (test o ≡ true)
    by true is more e = (row, (zero, omega arith, refl), is)
    by false is more e = let found = more e in (found.0, (suc found.1.0, omega (arith, found.1.1), found.1.2), found.2)

pub opening_held : (set : ℕ) (call : Call) (path : List ℕ) → list_any (is_opening set call path) openings ≡ true →
    (o : Opening) × Contains openings o × (opens_call call path o ≡ true) × (holds_named set (promises_of o.promise) ≡ true)
opening_held set call path may =
    let found = some_of (is_opening set call path) openings may in
    let parts = and_parts (opens_call call path found.0) (holds_named set (promises_of found.0.promise)) found.2 in
    (found.0, found.1, parts.0, parts.1)

-- no promise of an opening is `error`
abbrev NoError : Result ℕ Errno → Type 0
NoError (Ok set) = NamesNoError set
NoError (Err errno) = Unit {0}

none_names_error : AllByRecursion (λ (o : Opening). NoError (promises_of o.promise)) openings
none_names_error = ((lit< tt, refl), ((lit< tt, refl), ((lit< tt, refl), ((lit< tt, refl), ((lit< tt, refl), ((lit< tt, refl), ((lit< tt, refl), ((lit< tt, refl), ((lit< tt, refl), ((lit< tt, refl), ((lit< tt, refl), ((lit< tt, refl), ((lit< tt, refl), ((lit< tt, refl), tt))))))))))))))

each_of : (P : Opening → Type 0) (rows : List Opening) → AllByRecursion P rows → (o : Opening) → Contains rows o → P o
each_of P [] all o (k, low, is) = absurd (omega (arith, low))
each_of P (row ∷ rows) all o (zero, low, is) = subst P is all.0
each_of P (row ∷ rows) all o (suc k, low, is) = each_of P rows all.1 o (k, omega (arith, low), is)

-- and where promises are within others, so is it
pub named_within : (a b : ℕ) → AreWithin a b → (o : Opening) → Contains openings o → holds_named a (promises_of o.promise) ≡ true →
    holds_named b (promises_of o.promise) ≡ true
named_within a b within o there = by (promises_of o.promise) (each_of (λ (o : Opening). NoError (promises_of o.promise)) openings none_names_error o there)
  where
    by : (wanted : Result ℕ Errno) → NoError wanted → holds_named a wanted ≡ true → holds_named b wanted ≡ true
    by (Ok set) sound e = within set sound e
    by (Err errno) sound e = absurd (false≢true e)

module _ (accounted : OkaysAreAccounted) (printed : OpeningsArePrinted) (starts : StartsAreIn) where
  pub okays_listed : (rules : Rules) (table : CallTable) (w : World) (process : ℕ) (h : ProcessState) (front more text : List ℕ) →
      table.whose ≡ rules → kept_at w process ≡ Some h → IsListComplete table w.tree h →
      text ≡ front ++ (head_lines w.tree (heading_now rules process) h ++ more) → AreOkaysListed table w process h text
  okays_listed rules table w process h front more text whose here complete is call path told =
      by (accounted table w process call path h here told)
    where
      by : Accounted table w.tree h call path → HasShownLine w.tree table h call (object_named w.tree h call path)
          ⊎ ((o : Opening) × IsTrue (opens_call call path o) × HasLine text (codes "opening " ++ opening_text o))
      by (by_verdict allowed) = inl (complete (start h) call path (starts.own w.tree h) (allowed_by (verdict_on w.tree table h call path) allowed))
      by (by_opening o opened) =
          let head = heading_now rules process in
          let line = printed.now head (root_line w.tree h) table h call path o whose refl opened in
          inr (o, line.0, in_text (heading_line head) (own_lines head (root_line w.tree h) h) (kept_lines w.tree h) o front more text is line.1)
