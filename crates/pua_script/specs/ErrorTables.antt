-- Why no call of a table may need `error`: it is the one promise that a locked process can still take.
use Rattle.std.specs.Prelude.{◌≡◌, [], ◌∷◌, Some, None, codes, refl}
use Rattle.pua_tree.specs.Tree.{empty_tree}
use Rattle.pua_calls.specs.Promises.{error}
use Rattle.pua_calls.specs.Calls.{CallTable, standard_table}
use Rattle.pua_calls.specs.TableTexts.{with_rule}
use Rattle.pua_policy.specs.States.{ProcessState, state_after, Pledged, Locked, new_process}
use Rattle.pua_policy.specs.Verdict.{verdict_on, is_allowed}
use Rattle.pua_calls.specs.declared.call.Call.TheVariants.{Stat}
use Rattle.std.specs.Prelude.{true, false}
use Rattle.pua_script.specs.Replay.{world_after, kept_at}
use Rattle.pua_script.specs.declared.request.Action.TheVariants.{Pledge}
use Rattle.pua_script.specs.declared.request.Given.TheVariants.{Good, Null}

-- a table by which stat needs `error`
abbrev pub error_table : CallTable
error_table = with_rule standard_table Stat (record { alternatives = error ∷ []; perms = 0 })

abbrev pub locked_process : ProcessState
locked_process = state_after Locked new_process

abbrev pub pledged_error : ProcessState
pledged_error = state_after (Pledged (Some error) None) locked_process

-- after the lock a first pledge of `error` allows what was not allowed before it
pub record ErrorTables : Type 0 where
  pub before : is_allowed (verdict_on empty_tree error_table locked_process Stat (codes "/")) ≡ false
  pub after : is_allowed (verdict_on empty_tree error_table pledged_error Stat (codes "/")) ≡ true
  pub asked : kept_at (world_after error_table (record { tree = empty_tree; processes = (1, locked_process) ∷ [] })
      (record { process = 1; action = Pledge (Good error) Null } ∷ [])) 1 ≡ Some pledged_error

pub error_tables : ErrorTables
error_tables = record { before = refl; after = refl; asked = refl }
