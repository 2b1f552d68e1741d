-- The list that is printed, over a listing and a script as a command reads them, and the list of the objects of now in it.
use Rattle.pua_ever.proofs.Common.{◌≡◌, ℕ, List, [], ◌∷◌, Bool, true, false, cond, map, refl, ap, subst, ◌∙◌, inl, Option, Some}
use Rattle.pua_ever.proofs.Common.{None, Ok, ◌&&◌, ◌||◌, filter, and_parts, and_from, nat_lt, length, Tree, WellFormed}
use Rattle.pua_ever.proofs.Common.{CallTable, calls, rule_of, Call, ProcessState, veils, may_any, cover_fault}
use Rattle.pua_ever.proofs.Common.{or_fault, if_promised, allowed_unless, object_fault, is_allowed, cover_in, IsMissing}
use Rattle.pua_ever.proofs.Common.{Subject, At, Others, Item, items, NoCallNeedsError, IsWithin, verdicts_within, May, Among, among_map}
use Rattle.pua_ever.proofs.Common.{map_among, among_filter, filter_among, contained, among_contained, ever, has_ever_calls}
use Rattle.pua_policy.specs.States.{with_both, held_for_exec}
use Rattle.pua_policy.specs.declared.answer.May.TheVariants.{Yes, Enosys, Death}
use Rattle.pua_policy.specs.declared.answer.Verdict.{Verdict}
use Rattle.std.specs.List.{Contains}
use Rattle.std.specs.Prelude.{IsTrue}
use Rattle.pua_calls.specs.TmpTable.{tmp_table}
use Rattle.pua_calls.proofs.ForCallers.{tmp_table_needs_no_error}
use Rattle.pua_tree.specs.Listing.{listing}
use Rattle.pua_calls.specs.declared.rules.Rules.{Rules}
use Rattle.pua_script.specs.Bytes.{IsByteTree, are_in_bytes}
use Rattle.pua_script.specs.Scripts.{script_by}
use Rattle.pua_script.specs.Requests.{Asked}
use Rattle.pua_script.specs.Family.{is_exec, none_done}
use Rattle.pua_script.specs.Laws.{IsConfined}
use Rattle.pua_script.specs.Replay.{new_world, world_after, kept_at}
use Rattle.pua_script.proofs.ForCallers.{replays_keep_trees, replays_keep_byte_trees, listings_list_byte_trees, scripts_ask_in_bytes, may_yes}
use Rattle.pua_objects.specs.Objects.{Line, line_of, calls_on, subject_verdict, is_named_by}
use Rattle.pua_objects.specs.Objects as now
use Rattle.pua_objects.proofs.ForCallers.{some_of}
use Rattle.pua_ever.proofs.Common.{EverLine}
use Rattle.pua_ever.specs.Laws.{EditsNeedC, MembersEdit, IsWithinEver, IsWithinLines}
use Rattle.pua_ever.specs.Through.{is_promised_by, is_promised_by_one, can_come, let_through, ever_through, has_exec, ever_lasting, is_bounded}
use Rattle.pua_ever.specs.Through.{is_confined_through, EverLastsAfterRead, NowWithinLasting}
use Rattle.pua_ever.proofs.Now.{within_ever, within_too}
use Rattle.pua_ever.proofs.VeilPlacesGiven.{replays_keep_places, new_places}
use Rattle.pua_ever.proofs.Holding.{goes, along_now, may_holds}
use Rattle.pua_ever.proofs.Through.{within_both, ever_lasts, no_line}
use Rattle.pua_ever.proofs.NoExec.{without_exec_beside}

pub ever_lasts_after_read : EverLastsAfterRead
ever_lasts_after_read table sound needs rules tree_bytes script_bytes t first asks listed scripted bytes process now given here bound edits member
    belongs =
    let w = world_after table (new_world t) first in
    let said = scripts_ask_in_bytes rules script_bytes first scripted in
    let tree : IsByteTree t = listings_list_byte_trees tree_bytes t listed in
    let left = replays_keep_byte_trees table (new_world t) first tree said in
    let places = replays_keep_places table needs (new_world t) first (replays_keep_trees table (new_world t) first tree said)
    (new_places t) in
    ever_lasts table sound needs w asks process now given here bound (places process now here)
    (replays_keep_trees table w asks left bytes) edits member belongs

-- where no line has exec, none of theirs can succeed
pub none_starts_after_read : (table : CallTable) → NoCallNeedsError table → EditsNeedC table →
    (rules : Rules) (tree_bytes script_bytes : List ℕ) (t : Tree) (first asks : List Asked) →
    listing tree_bytes ≡ Ok t → script_by rules script_bytes ≡ Ok first → IsTrue (are_in_bytes asks) →
    let w = world_after table (new_world t) first in
    (process : ℕ) (now : ProcessState) → kept_at w process ≡ Some now → IsConfined now → has_exec (ever w.tree (tmp_table table) now) ≡ false →
    MembersEdit table w asks (process ∷ []) → IsTrue (none_done is_exec table w asks (process ∷ []))
none_starts_after_read table sound needs rules tree_bytes script_bytes t first asks listed scripted bytes process now here confined quiet edits =
    let w = world_after table (new_world t) first in
    let said = scripts_ask_in_bytes rules script_bytes first scripted in
    let tree : IsByteTree t = listings_list_byte_trees tree_bytes t listed in
    let left = replays_keep_byte_trees table (new_world t) first tree said in
    let places = replays_keep_places table needs (new_world t) first (replays_keep_trees table (new_world t) first tree said)
    (new_places t) in
    without_exec_beside table sound needs w asks process now here confined (places process now here)
    (replays_keep_trees table w asks left bytes) edits (no_line w.tree (tmp_table table) now quiet)

module _ (t : Tree) (well : WellFormed t) (table : CallTable) (sound : NoCallNeedsError table) (h : ProcessState) (given : ℕ)
    (within : IsWithin (with_both h given) h) where
  abbrev both : ProcessState
  both = with_both h given

  allowed_if : (m n : May) (v : Verdict) → (m ≡ Yes → n ≡ Yes) → is_allowed (if_promised m v) ≡ true → is_allowed (if_promised n v) ≡ true
  allowed_if Yes n v more e = ap (λ x. is_allowed (if_promised x v)) (more refl) ∙ e
  allowed_if Enosys n v more e = cc
  allowed_if Death n v more e = cc

  -- what is allowed now is allowed to who holds both
  allowed_too : (c : Call) (subject : Subject) → is_allowed (subject_verdict t table h c subject) ≡ true →
      is_allowed (subject_verdict t table both c subject) ≡ true
  allowed_too c (At object) e = verdicts_within both h within table sound t c (Ok object) e
  allowed_too c (Others dir) e =
      allowed_if (may_any h (rule_of table c).alternatives) (may_any both (rule_of table c).alternatives)
      (allowed_unless (or_fault (cover_fault (cover_in t both dir) (rule_of table c).perms) (object_fault table.whose t c IsMissing)))
      (may_yes both h within (rule_of table c).alternatives (sound.calls c)) e

  -- and its promises are held
  promised_now : (c : Call) (subject : Subject) → is_allowed (subject_verdict t table h c subject) ≡ true →
      is_promised_by_one table h given c ≡ true
  promised_now c subject e = ap (λ b. b || is_promised_by table given c)
      (may_holds h (rule_of table c).alternatives (yes subject e))
    where
      is_yes : (m : May) (v : Verdict) → is_allowed (if_promised m v) ≡ true → m ≡ Yes
      is_yes Yes v e = refl
      is_yes Enosys v e = cc
      is_yes Death v e = cc

      yes : (subject : Subject) → is_allowed (subject_verdict t table h c subject) ≡ true → may_any h (rule_of table c).alternatives ≡ Yes
      yes (At object) e = is_yes (may_any h (rule_of table c).alternatives) _ e
      yes (Others dir) e = is_yes (may_any h (rule_of table c).alternatives) _ e

  calls_too : (subject : Subject) (c : Call) → Among (calls_on t table h subject) c →
      Among (calls_on t table both subject) c × (is_promised_by_one table h given c ≡ true)
  calls_too subject c a =
      let test = filter_among (λ c. is_named_by t c subject && is_allowed (subject_verdict t table h c subject)) calls c a in
      let parts = and_parts (is_named_by t c subject) (is_allowed (subject_verdict t table h c subject)) test.1 in (
        among_filter (λ c. is_named_by t c subject && is_allowed (subject_verdict t table both c subject)) calls c
            (and_from (is_named_by t c subject) _ parts.0 (allowed_too c subject parts.1)) test.0,
        promised_now c subject parts.1,
      )

  item_too : (item : Item) → Among (items t (veils h)) item → now.has_calls (line_of t table h item) ≡ true →
      IsWithinLines (ever_through t table h given) (line_of t table h item)
  item_too item a some =
      let wide : Line = line_of t table both item in
      let is = among_filter now.has_calls (map (line_of t table both) (items t (veils both))) wide
      (still (calls_on t table h item.subject) some refl) (among_map (line_of t table both) (items t (veils both)) item a) in
      let later : IsWithinEver t table both wide = within_ever t table both well wide
      (contained (filter now.has_calls (map (line_of t table both) (items t (veils both)))) wide is) in
      let passes = is_promised_by_one table h given in
      let line = let_through passes later.later in
      let lines = map (let_through passes) (ever t table both) in
      let kept : (c : Call) → Among (calls_on t table h item.subject) c → Among line.calls c = λ c b.
      let two = calls_too item.subject c b in
      among_filter (λ c. can_come passes later.later.thing && passes c) later.later.calls c
      (ap (λ thing. can_come passes thing && passes c) later.about ∙ two.1)
      (among_contained later.later.calls c (later.allows c (contained (calls_on t table both item.subject) c two.0))) in
      record {
        later = line;
        listed = contained (filter has_ever_calls lines) line (among_filter has_ever_calls lines line
            (some_kept (calls_on t table h item.subject) some line.calls kept)
            (among_map (let_through passes) (ever t table both) later.later
            (among_contained (ever t table both) later.later later.listed)));
        word = later.word;
        about = later.about;
        allows = λ c b. contained line.calls c (kept c (among_contained (calls_on t table h item.subject) c b));
      }
    where
      some_kept : (cs : List Call) → nat_lt 0 (length cs) ≡ true → (ks : List Call) → ((c : Call) → Among cs c → Among ks c) →
          nat_lt 0 (length ks) ≡ true
      some_kept [] some ks all = cc
      some_kept (c ∷ cs) some ks all = some_of ks c (all c (inl refl))

      still : (cs : List Call) → nat_lt 0 (length cs) ≡ true → cs ≡ calls_on t table h item.subject →
          nat_lt 0 (length (calls_on t table both item.subject)) ≡ true
      still [] some is = cc
      still (c ∷ cs) some is = some_of (calls_on t table both item.subject) c
          (calls_too item.subject c (subst (λ l. Among l c) is (inl refl))).0

  pub within_through : (line : Line) → Among (now.objects t table h) line → IsWithinLines (ever_through t table h given) line
  within_through line there =
      let a = filter_among now.has_calls (map (line_of t table h) (items t (veils h))) line there in
      let from = map_among (line_of t table h) (items t (veils h)) line a.0 in
      let P : Line → Type 0 = λ line. now.has_calls line ≡ true → IsWithinLines (ever_through t table h given) line in
      subst P from.2 (item_too from.0 from.1) a.1

abbrev lines_by : Tree → CallTable → ProcessState → Bool → Option ℕ → List EverLine
lines_by t table h some None = ever t table h
lines_by t table h some (Some given) = cond some (ever_through t table h given) (ever t table h)

within_lasting : (t : Tree) (table : CallTable) → NoCallNeedsError table → (h : ProcessState) → WellFormed t →
    (line : Line) → Contains (now.objects t table h) line → IsWithinLines (ever_lasting t table h) line
within_lasting t table sound h well line there = by (held_for_exec h) refl
  where
    plain : IsWithinLines (ever t table h) line
    plain = within_ever t table h well line there

    chosen : (given : ℕ) → held_for_exec h ≡ Some given → (a b c : Bool) → is_bounded table given ≡ b → is_confined_through h given ≡ c →
        IsWithinLines (lines_by t table h a (cond (b && c) (Some given) None)) line
    chosen given set a false c bounded confined = plain
    chosen given set a true false bounded confined = plain
    chosen given set false true true bounded confined = plain
    chosen given set true true true bounded confined =
        within_through t well table sound h given
        (within_both h given table sound bounded h (goes table sound h given bounded h (along_now table sound h given bounded set confined))) line (among_contained _ line there)

    by : (o : Option ℕ) → held_for_exec h ≡ o → IsWithinLines (ever_lasting t table h) line
    by None set = rw set plain
    by (Some given) set =
        rw set (chosen given set (has_exec (ever t table h)) (is_bounded table given) (is_confined_through h given) refl refl)

pub now_within_lasting : NowWithinLasting
now_within_lasting t table sound h well line there =
    within_too t table h (ever_lasting t (tmp_table table) h)
    (λ more here. within_lasting t (tmp_table table) (tmp_table_needs_no_error table sound) h well more here) line there
