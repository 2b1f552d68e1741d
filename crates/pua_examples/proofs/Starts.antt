-- A list for ever of which no row has exec.
use Rattle.std.proofs.Common.{◌≡◌, List, [], false, sym, subst, ap, ◌∙◌}
use Rattle.std.specs.List.{list_any}
use Rattle.pua_tree.specs.Tree.{Tree}
use Rattle.pua_calls.specs.Promises.{holds, creating}
use Rattle.pua_calls.specs.Calls.{CallTable}
use Rattle.pua_calls.specs.CallSets.{has}
use Rattle.pua_calls.specs.Tables.{NoCallNeedsError}
use Rattle.pua_calls.specs.TmpTable.{tmp_table}
use Rattle.pua_calls.specs.declared.call.Call.TheVariants.{Exec}
use Rattle.pua_policy.specs.States.{ProcessState}
use Rattle.pua_script.proofs.ForCallers.{tmp_perms}
use Rattle.pua_ever.proofs.ForCallers.{exec_told, no_line}
use Rattle.pua_ever.specs.Ever.{ever}
use Rattle.pua_ever.specs.EverList.{AreEverTold}
use Rattle.pua_ever.specs.Laws.{EditsNeedC, NoLineHasExec, WithoutExec}
use Rattle.pua_ever.specs.declared.list.EverRow.{EverRow}
use Rattle.pua_examples.specs.Calling.{NeverStarts}

-- where no row has exec, no line has
pub none_has_exec : (t : Tree) (table : CallTable) (h : ProcessState) (rows : List EverRow) → AreEverTold t [] rows (ever t table h) [] →
    list_any (λ row. has row.line.calls Exec) rows ≡ false → NoLineHasExec t table h
none_has_exec t table h rows told none = no_line t table h (sym (exec_told t [] rows (ever t table h) told) ∙ none)

-- the table by which lists for ever go asks the same permissions
edits_too : (table : CallTable) → EditsNeedC (tmp_table table) → EditsNeedC table
edits_too table needs = record {
  calls = λ c changes. ap (λ perms. holds perms creating) (sym (tmp_perms table c)) ∙ needs.calls c changes;
  rename_old = needs.rename_old;
  rename_new = needs.rename_new;
  link_new = needs.link_new;
}

-- so no exec of the family is answered ok
pub never_starts : WithoutExec → (t : Tree) (process : ProcessState) (table : CallTable) → NoCallNeedsError table →
    EditsNeedC (tmp_table table) → NoLineHasExec t (tmp_table table) process → NeverStarts t process table
never_starts law t process table sound needs never w asks number same here confined places trees alone =
    law table sound (edits_too table needs) w asks number process here confined (places number process here) trees alone
    (subst (λ u. NoLineHasExec u (tmp_table table) process) (sym same) never)
