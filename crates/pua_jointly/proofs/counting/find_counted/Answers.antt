use Rattle.pua_jointly.proofs.Common.{◌≡◌, ◌<◌, ◌∙◌, ap, length, List, map, Option, ProcessState, refl, same_Some, Some, subst, sym, Tree, CallTable, ℕ}
use Rattle.std.specs.Prelude.{IfSome, slice_get}
use Rattle.std.specs.List.{AllByRecursion, Contains}
use Rattle.std.proofs.Common.{set}
use Rattle.std.proofs.lemmas.Option.{slice_get_read}
use Rattle.pua_ever.specs.declared.lasting_list.ExecBound.TheVariants.{Never}
use Rattle.pua_jointly.specs.JointFound.{AreFacts}
use Rattle.pua_jointly.specs.JointPrograms.{Acting, HasExec, HasProgram, IsNextStarting, acting_of, crew_by, kept_of, process_of, starting}
use Rattle.pua_jointly.specs.declared.counting.Actor.{Actor}
use Rattle.pua_jointly.proofs.JointCounting.{AreSoFar, acting_got, acting_set, each_in_crew, fewer_silent, kept_set, program_at, programs_set, silent}
use Rattle.pua_jointly.proofs.JointCounting.{same_processes_of, silent_parts, so_far_all, so_far_first, so_far_more}
use Rattle.pua_jointly.proofs.counting.find_counted.Goals as goal

-- what is so of the place that was found
found_at : (P : ℕ → Type 0) (o : Option ℕ) (at : ℕ) → o ≡ Some at → IfSome o P → P at
found_at P o at is = subst (λ (o : Option ℕ). IfSome o P) is

pub loop-facts-init : goal.loop-facts-init
loop-facts-init g c =
    let t : Tree = g.T.FileTree.content c.args.tree.now in
    let table : CallTable = c.args.table.now in
    let actors : List Actor = c.args.actors.now in
    let is : c.in_ok-told.told.items ≡ actors = c.in_ok-told.ensures.items in
    record {
      so = λ silent. subst (λ (ms : List Actor). AreSoFar t table (map process_of actors) (map acting_of ms)) (sym is)
          (subst (λ (hs : List ProcessState). AreSoFar t table hs (map acting_of actors)) (same_processes_of actors)
          (so_far_first t table (map acting_of actors) (silent_parts table actors silent).1));
      programs = λ silent. subst (AllByRecursion (HasProgram table)) (sym is) (silent_parts table actors silent).0;
      facts = subst (λ (ms : List Actor). AllByRecursion (HasProgram table) ms → AreFacts t table (crew_by table (map acting_of ms)) c.in_ok-facts.facts)
          c.deref.ensures.value c.in_ok-facts.ensures;
      kept = ap (map kept_of) is;
    }

pub loop-facts-preserved : goal.loop-facts-preserved
loop-facts-preserved g c =
    let t : Tree = g.T.FileTree.content c.args.tree.now in
    let table : CallTable = c.args.table.now in
    let hs : List ProcessState = map process_of c.args.actors.now in
    let told : List Actor = c.loop-facts.told.items in
    let lent : List Actor = c.deref-in-loop-facts.result.now in
    let is : lent ≡ told = c.deref-in-loop-facts.ensures.value in
    let at : ℕ = c.in-Some.at in
    let inv = c.loop-facts.invariant in
    let more : List Actor = set told at c.starting.result in
    let one : Actor = c.index.result.now in
    let low : at < length told =
    subst (λ (ms : List Actor). at < length ms) is
    (found_at (λ (i : ℕ). i < length lent) c.in_ok-at.field-0 at c.in-Some.is c.in_ok-at.ensures.within) in
    let here : slice_get told at ≡ Some one = slice_get_read told _ at one refl low c.index.ensures in
    let now : more ≡ set told at (starting one) = ap (set told at) c.starting.ensures in
    record {
      so = λ silent.
          let programs = inv.programs silent in
          let has = program_at table told at one here programs in
          let crew : List ProcessState = crew_by table (map acting_of told) in
          let next : IsNextStarting t table crew (map acting_of told) (Some at) =
          subst (IsNextStarting t table crew (map acting_of told)) c.in-Some.is
          (subst (λ (ms : List Actor). IsNextStarting t table crew (map acting_of ms) c.in_ok-at.field-0) is
          (c.in_ok-at.ensures.next t crew (inv.facts programs)
          (subst (AllByRecursion (λ (m : Actor). Contains crew (process_of m))) (sym is) (each_in_crew table told)))) in
          let got = acting_got told at next.one next.here in
          let same : acting_of one ≡ next.one = ap acting_of (same_Some one got.0 (sym here ∙ got.1)) ∙ got.2 in
          subst (λ (ms : List Actor). AreSoFar t table hs (map acting_of ms)) (sym now)
          (subst (AreSoFar t table hs) (sym (acting_set table told at one here has))
          (so_far_more t table (acting_of one) (ap (λ (m : Acting). m.execs) same ∙ next.said) hs (map acting_of told) at (inv.so silent)
          (next.here ∙ ap Some (sym same)) (subst (λ (m : Acting). HasExec t table crew m.process) (sym same) next.exec)));
      programs = λ silent.
          let programs = inv.programs silent in
          subst (AllByRecursion (HasProgram table)) (sym now) (programs_set table told at one (program_at table told at one here programs) programs);
      facts = subst (λ (ms : List Actor). AllByRecursion (HasProgram table) ms → AreFacts t table (crew_by table (map acting_of ms)) c.in_ok-facts-2.facts)
          c.deref-in-Some.ensures.value c.in_ok-facts-2.ensures;
      kept = ap (map kept_of) now ∙ kept_set told at one here ∙ inv.kept;
    }

pub loop-facts-smaller : goal.loop-facts-smaller
loop-facts-smaller g c =
    let told : List Actor = c.loop-facts.told.items in
    let lent : List Actor = c.deref-in-loop-facts.result.now in
    let is : lent ≡ told = c.deref-in-loop-facts.ensures.value in
    let at : ℕ = c.in-Some.at in
    let one : Actor = c.index.result.now in
    let low : at < length told =
    subst (λ (ms : List Actor). at < length ms) is
    (found_at (λ (i : ℕ). i < length lent) c.in_ok-at.field-0 at c.in-Some.is c.in_ok-at.ensures.within) in
    let here : slice_get told at ≡ Some one = slice_get_read told _ at one refl low c.index.ensures in
    let none : one.execs ≡ Never =
    found_at (λ (i : ℕ). (m : Actor) → slice_get lent i ≡ Some m → m.execs ≡ Never) c.in_ok-at.field-0 at c.in-Some.is c.in_ok-at.ensures.silent one
    (ap (λ (ms : List Actor). slice_get ms at) is ∙ here) in
    subst (λ (m : Actor). silent (set told at m) < silent told) (sym c.starting.ensures) (fewer_silent told at one here none)

pub returns-clause-acting : goal.returns-clause-acting
returns-clause-acting g c = λ silent.
    let t : Tree = g.T.FileTree.content c.args.tree.now in
    let table : CallTable = c.args.table.now in
    let told : List Actor = c.loop-facts.told.items in
    let lent : List Actor = c.deref-in-loop-facts.result.now in
    let is : lent ≡ told = c.deref-in-loop-facts.ensures.value in
    let inv = c.loop-facts.invariant in
    let crew : List ProcessState = crew_by table (map acting_of told) in
    let next : IsNextStarting t table crew (map acting_of told) c.in_ok-at.field-0 =
    subst (λ (ms : List Actor). IsNextStarting t table crew (map acting_of ms) c.in_ok-at.field-0) is
    (c.in_ok-at.ensures.next t crew (inv.facts (inv.programs silent))
    (subst (AllByRecursion (λ (m : Actor). Contains crew (process_of m))) (sym is) (each_in_crew table told))) in
    so_far_all t table (map process_of c.args.actors.now) (map acting_of told) (inv.so silent)
    (subst (IsNextStarting t table crew (map acting_of told)) c.in_default.is next)

pub returns-clause-facts : goal.returns-clause-facts
returns-clause-facts g c = λ silent. c.loop-facts.invariant.facts (c.loop-facts.invariant.programs silent)

pub returns-clause-programs : goal.returns-clause-programs
returns-clause-programs g c = λ silent. c.loop-facts.invariant.programs silent

pub returns-clause-kept : goal.returns-clause-kept
returns-clause-kept g c = c.loop-facts.invariant.kept
