use Rattle.pua_ever.proofs.Common.{◌≡◌, [], true, false, sym, subst, ◌∙◌}
use Rattle.std.proofs.lemmas.Result.{err_from_is_err_and}
use Rattle.std.specs.Option.{option_copied}
use Rattle.pua_ever.specs.EverList.{AreEverTold}
use Rattle.pua_ever.specs.LastingList.{IsBoundedExecOf}
use Rattle.pua_ever.specs.ShownForEver.{shown_ever}
use Rattle.pua_ever.specs.Through.{has_exec}
use Rattle.pua_ever.proofs.ShownChosen.{shown_bounded, shown_unbounded, shown_unstarted, shown_starts_bounded, shown_starts_none, shown_starts_open}
use Rattle.pua_ever.proofs.lasting_list.list_lasting.Goals as goal

pub returns-then-not-some_exec-clause-list : goal.returns-then-not-some_exec-clause-list
returns-then-not-some_exec-clause-list g c = λ whose.
    let h = c.args.process.now in
    let t = g.T.FileTree.content c.args.tree.now in
    let table = c.args.table.now in
    let told = c.in_ok-rows.ensures.rows in
    let none : has_exec (shown_ever t table h) ≡ false =
    sym (c.some_exec.ensures t (shown_ever t table h) (subst (λ rows. AreEverTold t [] rows (shown_ever t table h) []) (sym c.as_slice.ensures.value) told))
    ∙ c.if-not-some_exec.true in
    record {
      rows = subst (λ lines. AreEverTold t [] c.in_ok-rows.rows.items lines []) (sym (shown_unstarted t table h none)) told;
      execs = sym (shown_starts_none t table h none);
      items = c.in_ok-rows.ensures.items;
    }

pub returns-in_default-clause-list : goal.returns-in_default-clause-list
returns-in_default-clause-list g c = λ whose.
    let h = c.args.process.now in
    let t = g.T.FileTree.content c.args.tree.now in
    let table = c.args.table.now in
    let told = c.in_ok-rows.ensures.rows in
    let unbound = subst (λ o. IsBoundedExecOf table h (option_copied o)) c.in_default.is whose in
    let some : has_exec (shown_ever t table h) ≡ true =
    sym (c.some_exec.ensures t (shown_ever t table h) (subst (λ rows. AreEverTold t [] rows (shown_ever t table h) []) (sym c.as_slice.ensures.value) told))
    ∙ c.if-not-some_exec.false in
    record {
      rows = subst (λ lines. AreEverTold t [] c.in_ok-rows.rows.items lines []) (sym (shown_unbounded t table h unbound)) told;
      execs = sym (shown_starts_open t table h some unbound);
      items = c.in_ok-rows.ensures.items;
    }

pub returns-clause-list : goal.returns-clause-list
returns-clause-list g c = λ whose.
    let h = c.args.process.now in
    let t = g.T.FileTree.content c.args.tree.now in
    let table = c.args.table.now in
    let told = c.in_ok-rows.ensures.rows in
    let here = subst (λ o. IsBoundedExecOf table h (option_copied o)) c.in-Some.is whose in
    let some : has_exec (shown_ever t table h) ≡ true =
    sym (c.some_exec.ensures t (shown_ever t table h) (subst (λ rows. AreEverTold t [] rows (shown_ever t table h) []) (sym c.as_slice.ensures.value) told))
    ∙ c.if-not-some_exec.false in
    record {
      rows = subst (λ lines. AreEverTold t [] c.in_ok-through.through.items lines [])
          (sym (shown_bounded t table h here.given here.bound some)) (c.in_ok-through.ensures.rows h here);
      execs = sym (shown_starts_bounded t table h here.given some here.bound);
      items = c.in_ok-through.ensures.items h here;
    }

-- ---- what refuses the list

pub returns-in_err-rows-clause-refused : goal.returns-in_err-rows-clause-refused
returns-in_err-rows-clause-refused g c =
    let p = err_from_is_err_and c.from_residual.result c.from_residual.ensures.1 in
    rw (p.1, p.2) (λ whose. c.in_err-rows.ensures.refused)

pub returns-then-not-some_exec-clause-refused : goal.returns-then-not-some_exec-clause-refused
returns-then-not-some_exec-clause-refused g c = λ whose. c.in_ok-rows.ensures.refused

pub returns-in_default-clause-refused : goal.returns-in_default-clause-refused
returns-in_default-clause-refused g c = λ whose. c.in_ok-rows.ensures.refused

pub returns-in_err-through-clause-refused : goal.returns-in_err-through-clause-refused
returns-in_err-through-clause-refused g c =
    let p = err_from_is_err_and c.from_residual-in_err-through.result c.from_residual-in_err-through.ensures.1 in
    rw (p.1, p.2) (λ whose.
    let here = subst (λ o. IsBoundedExecOf c.args.table.now c.args.process.now (option_copied o)) c.in-Some.is whose in
    let none = c.in_ok-rows.ensures.refused in
    none ∙ sym (c.in_err-through.ensures.unrefused c.args.process.now here none))

pub returns-clause-refused : goal.returns-clause-refused
returns-clause-refused g c = λ whose. c.in_ok-rows.ensures.refused
