-- What is answered ok to one of those that act together, each with a list of its own.
use Rattle.pua_tool.proofs.Common.{◌≡◌, ◌≢◌, ◌∙◌, ◌∷◌, [], ℕ, List, ◌++◌, ap, map, refl, sym, subst, Option, Some, None, flat_map, with_end}
use Rattle.pua_tool.proofs.Common.{CallTable, Tree, Asked, World, ProcessState, kept_at, world_after}
use Rattle.std.proofs.Common.{◌⊎◌, inl, inr, Bool, true, false, filter, append_assoc}
use Rattle.std.proofs.lemmas.Bool.{and_from, and_parts, true≢false}
use Rattle.std.specs.List.{Contains}
use Rattle.std.specs.Prelude.{◌&&◌, bit_or, codes, if◌then◌else◌, IsTrue, not, unwrap_or}
use Rattle.pua_tree.proofs.ForCallers.{same_Some}
use Rattle.pua_calls.specs.Calls.{about_rules, calls}
use Rattle.pua_calls.specs.Promises.{no_promises, promises_of}
use Rattle.pua_calls.specs.TmpTable.{tmp_table}
use Rattle.pua_calls.specs.declared.call.Call.{Call}
use Rattle.pua_calls.specs.declared.call.Call.TheVariants as call
use Rattle.pua_calls.specs.declared.rules.Rules.{Rules}
use Rattle.pua_policy.specs.States.{held_set, is_ended, veils, start}
use Rattle.pua_policy.specs.Verdict.{is_allowed, object_named, verdict_of, verdict_on}
use Rattle.pua_policy.specs.declared.answer.Verdict.TheVariants.{Allowed}
use Rattle.pua_script.specs.Bytes.{are_in_bytes, is_in_bytes}
use Rattle.pua_script.specs.Family.{family, family_then, is_done, is_exec, is_member, none_done}
use Rattle.pua_script.specs.Laws.{IsConfined}
use Rattle.pua_script.specs.OpeningLaws.{Accounted, by_verdict, by_opening, may_open, OkaysAreAccounted, OpeningsAreHeld, OpeningsNarrow}
use Rattle.pua_script.specs.Openings.{Opening, holds_named, openings, opens_call}
use Rattle.pua_script.specs.Replay.{apply}
use Rattle.pua_script.specs.Tightening.{NoCallNeedsError, Tightens}
use Rattle.pua_script.specs.declared.request.Action.{Action}
use Rattle.pua_script.proofs.ForCallers.{families_narrow, tmp_table_allows}
use Rattle.pua_audit.specs.Reach.{Word}
use Rattle.pua_objects.proofs.ForCallers.{Among, among_contained, among_either, filter_among, map_among}
use Rattle.pua_objects.specs.Objects.{Subject, items}
use Rattle.pua_ever.specs.Ever.{EverLine, Thing, Stands, Comes, all_new, has_ever_calls}
use Rattle.pua_ever.specs.Laws.{ForeseesIn, IsForeseenIn}
use Rattle.pua_ever.specs.Through.{bound_of, FamiliesGoAlong, HoldsOne}
use Rattle.pua_ever.specs.declared.lasting_list.ExecBound.{ExecBound}
use Rattle.pua_ever.specs.declared.lasting_list.ExecBound.TheVariants.{Never, Bounded, Open}
use Rattle.pua_ever.proofs.ForCallers.{bound_parts, execs_then}
use Rattle.pua_jointly.specs.Jointly.{GroupsEdit, groups_then, joint_line, joint_lines, joint_subjects}
use Rattle.pua_texts.specs.BesideLines.{Beside, beside_heading, beside_list, beside_living, beside_own}
use Rattle.pua_texts.specs.EverLines.{ever_lines, heading_ever}
use Rattle.pua_texts.specs.Openings.{opening_line, opening_text}
use Rattle.pua_texts.specs.RootLines.{root_line}
use Rattle.pua_texts.specs.States.{HasOpening, OpeningsArePrinted, exec_line, held_lines, kept_lines, opening_set, openings_told, receives_told}
use Rattle.pua_texts.specs.States.{unveiled_line}
use Rattle.pua_tool.specs.BesideWritten.{AreOkaysBeside, IsForeseenBeside, NoneStarts, alone}
use Rattle.pua_tool.specs.Listed.{HasLine}
use Rattle.pua_tool.proofs.EverTextForesees.{within_one}
use Rattle.pua_tool.proofs.Okays.{allowed_by, in_text, named_within, opened_by_rules, opening_held}

-- ---- what was done was done behind some of the requests

record DoneBehind (kind : Action → Bool) (table : CallTable) (w : World) (asks : List Asked) (members : List ℕ) : Type 0 where
  before : List Asked
  ask : Asked
  after : List Asked
  are : asks ≡ before ++ ask ∷ after
  done : is_done kind table (world_after table w before) ask (family table w before members) ≡ true

done_behind : (kind : Action → Bool) (table : CallTable) (w : World) (asks : List Asked) (members : List ℕ) →
    none_done kind table w asks members ≡ false → DoneBehind kind table w asks members
done_behind kind table w [] members e = absurd (true≢false e)
done_behind kind table w (ask ∷ asks) members e =
    by (is_done kind table w ask members) refl e
    (done_behind kind table (apply table w ask).1 asks (family_then table w ask members))
  where
    by : (b : Bool) → is_done kind table w ask members ≡ b →
        (not b && none_done kind table (apply table w ask).1 asks (family_then table w ask members)) ≡ false →
        (none_done kind table (apply table w ask).1 asks (family_then table w ask members) ≡ false →
        DoneBehind kind table (apply table w ask).1 asks (family_then table w ask members)) →
        DoneBehind kind table w (ask ∷ asks) members
    by true is e later = record { before = []; ask = ask; after = asks; are = refl; done = is }
    by false is e later =
        let rest = later e in record {
          before = ask ∷ rest.before;
          ask = rest.ask;
          after = rest.after;
          are = ap (λ more. ask ∷ more) rest.are;
          done = rest.done;
        }

-- requests before others are as all of them
bytes_before : (before after : List Asked) → are_in_bytes (before ++ after) ≡ true → are_in_bytes before ≡ true
bytes_before [] after bytes = refl
bytes_before (ask ∷ before) after bytes =
    let parts = and_parts (is_in_bytes ask.action) (are_in_bytes (before ++ after)) bytes in
    and_from (is_in_bytes ask.action) (are_in_bytes before) parts.0 (bytes_before before after parts.1)

edit_before : {X : Type 0} (table : CallTable) (before after : List Asked) (w : World) (groups : List (X × List ℕ)) →
    GroupsEdit table w (before ++ after) groups → GroupsEdit table w before groups
edit_before table [] after w groups edit = tt
edit_before table (ask ∷ before) after w groups edit =
    (edit.0, edit_before table before after (apply table w ask).1 (groups_then table w ask groups) edit.1)

-- ---- a call of a line passes the test

tested : (test : Thing → Call → Bool) (line : EverLine) (word : List (List ℕ)) (thing : Thing) → joint_line test word thing ≡ line →
    (one : Call) → Contains line.calls one → test line.thing one ≡ true
tested test line word thing is one there =
    subst (λ (l : EverLine). Contains l.calls one → test l.thing one ≡ true) is
    (λ there. (filter_among (test thing) calls one (among_contained (filter (test thing) calls) one there)).1) there

module _ (t : Tree) (a : ProcessState) (test : Thing → Call → Bool) where
  abbrev subjects : List (Word × Subject)
  subjects = flat_map (joint_subjects a) (items t (veils a))

  abbrev standing : List EverLine
  standing = map (λ (about : Word × Subject). joint_line test about.0 (Stands about.1)) subjects

  abbrev coming : List EverLine
  coming = map (λ new. joint_line test [] (Comes new)) all_new

  pub calls_tested : (line : EverLine) → Contains (joint_lines t a test) line → (one : Call) → Contains line.calls one →
      test line.thing one ≡ true
  calls_tested line listed one there =
      by (among_either standing coming line
      (filter_among has_ever_calls (standing ++ coming) line (among_contained (joint_lines t a test) line listed)).0)
    where
      by : Among standing line ⊎ Among coming line → test line.thing one ≡ true
      by (inl here) =
          let from = map_among (λ (about : Word × Subject). joint_line test about.0 (Stands about.1)) subjects line here in
          tested test line from.0.0 (Stands from.0.1) from.2 one there
      by (inr here) =
          let from = map_among (λ new. joint_line test [] (Comes new)) all_new line here in
          tested test line [] (Comes from.0) from.2 one there

-- ---- a line of an opening stands in the list

module _ (rules : Rules) (t : Tree) (b : Beside) (lives : is_ended b.process ≡ false) (lines : List EverLine) (list : List ℕ)
    (is : list ≡ beside_list rules t b lines) where
  told_own : (o : Opening) → HasOpening (openings_told rules (heading_ever rules b.own 0).time b.process) o → HasOpening (beside_own rules (root_line t b.process) b) o
  told_own o has =
      let alive = with_end (codes "process alive") in
      let held = held_lines rules b.process in
      let execs = exec_line b.execs in
      let receives = receives_told rules (heading_ever rules b.own 0).time b.process in
      let root = root_line t b.process in (
        alive ++ held ++ execs ++ receives ++ root ++ has.0,
        has.1 ++ unveiled_line b.process,
        ap (λ (ended : Bool). if ended then with_end (codes "process ended") else beside_living rules root b) lives
            ∙ ap (λ told. alive ++ held ++ (execs ++ receives ++ root ++ told ++ unveiled_line b.process)) has.2
            ∙ parts alive held execs receives root has.0 (opening_line o) has.1 (unveiled_line b.process),
      )
    where
      parts : (a p e f r b line c u : List ℕ) →
          a ++ p ++ (e ++ f ++ r ++ (b ++ line ++ c) ++ u) ≡ (a ++ p ++ e ++ f ++ r ++ b) ++ line ++ (c ++ u)
      parts a p e f r b line c u = search (append_assoc)

  pub in_list : (o : Opening) → HasOpening (openings_told rules (heading_ever rules b.own 0).time b.process) o → HasLine list (codes "opening " ++ opening_text o)
  in_list o has =
      in_text (beside_heading b) (beside_own rules (root_line t b.process) b) (kept_lines t b.process) o [] (ever_lines t lines) list is (told_own o has)

-- ---- what is answered ok

module _ (table : CallTable) (sound : NoCallNeedsError table) (w : World) (m : ℕ × ProcessState) (more : List (ℕ × ProcessState))
    (execs : ExecBound) (lines : List EverLine) (complete : IsForeseenBeside table w (m ∷ more) m execs lines) where
  abbrev h : ProcessState
  h = m.1

  abbrev Held : List Asked → Type 0
  Held asks = (execs ≢ Open) ⊎ NoneStarts table w asks (m ∷ more)

  -- what is allowed by the table is so by the one by which the list goes
  wider : (t : Tree) (last : ProcessState) (one : Call) (path : List ℕ) → verdict_on t table last one path ≡ Allowed →
      verdict_on t (tmp_table table) last one path ≡ Allowed
  wider t last one path allowed =
      let named = object_named t last one path in
      allowed_by (verdict_of t (tmp_table table) last one named) (tmp_table_allows table t last one named (ap is_allowed allowed))

  -- where no line has exec, none of theirs starts a program
  none_starts : (asks : List Asked) → are_in_bytes asks ≡ true → Held asks → GroupsEdit table w asks (alone (m ∷ more)) →
      ((line : EverLine) → Contains lines line → Contains line.calls call.Exec → ⊥) →
      none_done is_exec table w asks (m.0 ∷ []) ≡ true
  none_starts asks bytes (inr none) edit never = none.0
  none_starts asks bytes (inl shut) edit never = by (none_done is_exec table w asks (m.0 ∷ [])) refl
    where
      impossible : DoneBehind is_exec table w asks (m.0 ∷ []) → ⊥
      impossible d =
          let u = world_after table w d.before in
          let parts = and_parts (is_member (family table w d.before (m.0 ∷ [])) d.ask.process) _ d.done in
          let did = and_parts (is_exec d.ask.action) _ parts.1 in
          let asker =
          complete d.before (bytes_before d.before (d.ask ∷ d.after) (ap are_in_bytes (sym d.are) ∙ bytes)) (inl shut)
          (edit_before table d.before (d.ask ∷ d.after) w (alone (m ∷ more))
          (subst (λ (asks : List Asked). GroupsEdit table w asks (alone (m ∷ more))) d.are edit)) d.ask.process parts.0 in
          let exec = execs_then table u d.ask asker.0 asker.1 did.0 did.1 in
          let seen = asker.2 (start asker.0) call.Exec exec.path (wider u.tree asker.0 call.Exec exec.path exec.allowed) in
          never seen.line seen.listed seen.allows

      by : (b : Bool) → none_done is_exec table w asks (m.0 ∷ []) ≡ b → none_done is_exec table w asks (m.0 ∷ []) ≡ true
      by true is = is
      by false is = absurd (impossible (done_behind is_exec table w asks (m.0 ∷ []) is))

  module _ (accounted : OkaysAreAccounted) (opened_by_held : OpeningsAreHeld) (narrow : OpeningsNarrow) (along : FamiliesGoAlong)
      (printed : OpeningsArePrinted) (rules : Rules) (whose : table.whose ≡ rules) (here : kept_at w m.0 ≡ Some h) (confined : IsConfined h)
      (own : ExecBound) (opens : own ≡ Open → execs ≡ Open) (bounds : own ≡ Bounded → bound_of table h ≢ None)
      (never : own ≡ Never → (line : EverLine) → Contains lines line → Contains line.calls call.Exec → ⊥) (list : List ℕ)
      (has_line : (o : Opening) → HasOpening (openings_told rules (heading_ever rules own 0).time h) o → HasLine list (codes "opening " ++ opening_text o)) where
    abbrev HasItsLine : Call → List ℕ → Type 0
    HasItsLine one path = (o : Opening) × IsTrue (opens_call one path o) × HasLine list (codes "opening " ++ opening_text o)

    -- a promise that opens it is among those that have lines
    line_of : (about_rules rules).has_openings ≡ true → (one : Call) (path : List ℕ) (o : Opening) → Contains openings o →
        opens_call one path o ≡ true → holds_named (opening_set (heading_ever rules own 0).time h) (promises_of o.promise) ≡ true → HasItsLine one path
    line_of by_these one path o there opened has = (o, opened, has_line o (printed.told rules (heading_ever rules own 0).time h o by_these there has))

    module _ (asks : List Asked) (bytes : are_in_bytes asks ≡ true) (held : Held asks) (edit : GroupsEdit table w asks (alone (m ∷ more)))
        (one : ℕ) (belongs : is_member (family table w asks (m.0 ∷ [])) one ≡ true) (last : ProcessState)
        (kept : kept_at (world_after table w asks) one ≡ Some last) (asked : Call) (path : List ℕ)
        (by_these : (about_rules rules).has_openings ≡ true) (may : may_open last asked path ≡ true) where
      -- without an exec the promises are those of the process
      by_own : none_done is_exec table w asks (m.0 ∷ []) ≡ true → opening_set (heading_ever rules own 0).time h ≡ held_set h → HasItsLine asked path
      by_own none set =
          let later = families_narrow table w asks m.0 h here confined none one belongs in
          let same : later.0 ≡ last = same_Some later.0 last (sym later.1 ∙ kept) in
          let found = opening_held (held_set h) asked path (narrow h last (subst (λ g. Tightens h g) same later.2.tightens) asked path may) in
          line_of by_these asked path found.0 found.1 found.2
          (ap (λ (promises : ℕ). holds_named promises (promises_of found.0.promise)) set ∙ found.3)

      -- through execs they are among those, or among those that it hands down
      by_handed : (handed : ℕ) → bound_of table h ≡ Some handed → own ≡ Bounded → HasItsLine asked path
      by_handed handed bound is =
          let later = along table sound w asks m.0 h handed here bound one belongs in
          let same : later.0 ≡ last = same_Some later.0 last (sym later.1 ∙ kept) in
          let either : HoldsOne table h handed last = subst (HoldsOne table h handed) same later.2.promises in
          let found = opening_held (held_set last) asked path may in
          let set : opening_set (heading_ever rules own 0).time h ≡ bit_or (held_set h) handed =
          ap (λ (x : ExecBound). opening_set (heading_ever rules x 0).time h) is
          ∙ ap (λ (o : Option ℕ). bit_or (held_set h) (unwrap_or o no_promises)) (bound_parts table h handed bound).set in
          line_of by_these asked path found.0 found.1 found.2
          (ap (λ (promises : ℕ). holds_named promises (promises_of found.0.promise)) set
          ∙ named_within (held_set last) (bit_or (held_set h) handed) (within_one table h last handed either) found.0 found.1 found.3)

      has_its_line : HasItsLine asked path
      has_its_line = by own refl
        where
          starts_none : own ≡ Open → Held asks → none_done is_exec table w asks (m.0 ∷ []) ≡ true
          starts_none is (inl shut) = absurd (shut (opens is))
          starts_none is (inr none) = none.0

          bounded : own ≡ Bounded → (bound : Option ℕ) → bound_of table h ≡ bound → HasItsLine asked path
          bounded is None at = absurd (bounds is at)
          bounded is (Some handed) at = by_handed handed at is

          by : (x : ExecBound) → own ≡ x → HasItsLine asked path
          by Never is = by_own (none_starts asks bytes held edit (never is)) (ap (λ (x : ExecBound). opening_set (heading_ever rules x 0).time h) is)
          by Open is = by_own (starts_none is held) (ap (λ (x : ExecBound). opening_set (heading_ever rules x 0).time h) is)
          by Bounded is = bounded is (bound_of table h) refl

    pub okays : AreOkaysBeside table w (m ∷ more) m execs lines list
    okays asks bytes held edit one belongs asked path told =
        let later = complete asks bytes held edit one belongs in (
          later.0,
          later.1,
          by later.0 later.1 later.2 (accounted table (world_after table w asks) one asked path later.0 later.1 told),
        )
      where
        by : (last : ProcessState) → kept_at (world_after table w asks) one ≡ Some last →
            ForeseesIn lines w.tree (tmp_table table) h (world_after table w asks).tree last →
            Accounted table (world_after table w asks).tree last asked path →
            IsForeseenIn lines w.tree h (world_after table w asks).tree asked (object_named (world_after table w asks).tree last asked path)
            ⊎ HasItsLine asked path
        by last kept foresees (by_verdict allowed) =
            let u = (world_after table w asks).tree in
            inl (foresees (start last) asked path
            (allowed_by (verdict_on u (tmp_table table) last asked path)
            (tmp_table_allows table u last asked (object_named u last asked path) allowed)))
        by last kept foresees (by_opening o opened) =
            inr (has_its_line asks bytes held edit one belongs last kept asked path (opened_by_rules table last asked path o rules whose opened)
            (opened_by_held table last asked path o opened))
