-- What many proofs of this crate name, from where it stands.
pub use Rattle.std.proofs.Common.{◌&&◌, ◌++◌, ◌+◌, ◌<◌, ◌||◌, ◌∙◌, ◌∷◌, ◌≡◌, ◌≢◌, ◌≤◌, ◌⊎◌, [], ap, arith, Bool, cond, eqb, false, inl, inr}
pub use Rattle.std.proofs.Common.{length, List, lit<, map, nat_eq, not, refl, rules, subst, suc, sym, take, true, zero, ℕ}
pub use Rattle.std.proofs.lemmas.Bool.{and_from, and_parts, eq-eqb, eqb-true, false≢true, le-leb, lt-ltb, not-true, true≢false}
pub use Rattle.std.proofs.lemmas.Option.{same_Some}
pub use Rattle.std.specs.Cmp.{nat_cmp_total}
pub use Rattle.std.specs.FinMap.{nat_cmp-IsAntisymmetric}
pub use Rattle.std.specs.List.{AllByRecursion, list_all, list_any}
pub use Rattle.std.specs.Ordering.{nat_cmp}
pub use Rattle.std.specs.Prelude.{◌==◌, Err, filter, is_some, IsOk, IsTrue, nat_le, nat_lt, None, Ok, Option, option_map, Result, Some}
pub use Rattle.std.specs.Str.Lines.{lines}
pub use Rattle.pua_calls.specs.Calls.{CallTable, ending_of, last_of, PairRule, rule_of}
pub use Rattle.pua_calls.specs.Promises.{holds, proc, unveil}
pub use Rattle.pua_calls.specs.declared.call.Call.{Call}
pub use Rattle.pua_path.specs.Fits.{node_named, spot_named}
pub use Rattle.pua_path.specs.Paths.{is_absolute, parts_of, path_fault, text_errno}
pub use Rattle.pua_path.specs.Resolution.{most_links, resolution_of_text, resolve_parts}
pub use Rattle.pua_path.specs.declared.errno.Errno.{Errno}
pub use Rattle.pua_path.specs.declared.errno.Errno.TheVariants.{EAGAIN, EINVAL, ENOENT, ENOSPC}
pub use Rattle.pua_path.specs.declared.found.Found.{Found}
pub use Rattle.pua_path.specs.declared.found.Found.TheVariants.{Slot, Whole}
pub use Rattle.pua_path.specs.declared.found.Last.{Last}
pub use Rattle.pua_path.specs.declared.text.Ending.{Ending}
pub use Rattle.pua_path.specs.declared.text.Ending.TheVariants.{Dot, Dropped}
pub use Rattle.pua_path.specs.declared.traced.PathTextFault.TheVariants.{LongComponent, LongText, NulInText}
pub use Rattle.pua_policy.specs.States.{Ended, Event, Filed, has_error, held_set, is_pledged, ProcessState, is_ended, is_locked, Locked, may_any, Moved, Pledged}
pub use Rattle.pua_policy.specs.States.{state_after, Unveiled, start, working_dir}
pub use Rattle.pua_policy.specs.Verdict.{cover, cover_fault, object_fault, object_named, object_of, or_fault, place_of}
pub use Rattle.pua_policy.specs.declared.open_file.OpenFile.{OpenFile}
pub use Rattle.pua_policy.specs.declared.answer.Cover.{Cover}
pub use Rattle.pua_policy.specs.declared.answer.Cover.TheVariants.{All}
pub use Rattle.pua_policy.specs.declared.answer.May.{May}
pub use Rattle.pua_policy.specs.declared.answer.May.TheVariants.{Yes}
pub use Rattle.pua_policy.specs.declared.answer.Refusal.{Refusal}
pub use Rattle.pua_policy.specs.declared.answer.Refusal.TheVariants.{Failed, Killed}
pub use Rattle.pua_tree.proofs.ForCallers.{None≢Some, put_elsewhere, put_here, sound_from}
pub use Rattle.pua_tree.specs.Edits.{add, cut, cut_found, has_name_room, has_room, is_full_dir, is_full_dir_there, is_inside, is_same_node}
pub use Rattle.pua_tree.specs.Edits.{shift, shift_found, tie, with_new, with_row, with_row_moved, without_row, without_unnamed}
pub use Rattle.pua_tree.specs.Names.{has_byte, is_target}
pub use Rattle.pua_tree.specs.Steps.{◌>>=◌}
pub use Rattle.pua_tree.specs.Tree.{above, climb, is_dir, is_empty, is_living, look, Node, node_at, Spot, target_fits, Tree, WellFormed}
pub use Rattle.pua_tree.specs.declared.fault.TreeFault.{TreeFault}
pub use Rattle.pua_tree.specs.declared.node.Kind.{Kind}
pub use Rattle.pua_script.specs.Bytes.{is_bytes, is_in_bytes}
pub use Rattle.pua_script.specs.Confinement.{has_c, object_in, UncoveredStay}
pub use Rattle.pua_script.specs.Decide.{AddEvent, AddNode, asker_of, BeginProgram, Change, CopyAs, CutRow, decide, decide_link, TakeFile}
pub use Rattle.pua_script.specs.Decide.{decide_rename, Decision, fault_if, if_may, inside_fault, is_whole, kinds_fault, NoChange, shifting}
pub use Rattle.pua_script.specs.Decide.{ShiftRow, TieRow}
pub use Rattle.pua_script.specs.Family.{HasKept, is_chdir, is_chroot, is_done, is_exec, is_member}
pub use Rattle.pua_script.specs.Futures.{AreDone}
pub use Rattle.pua_script.specs.Guards.{IsShift}
pub use Rattle.pua_script.specs.Judged.{NameFits}
pub use Rattle.pua_script.specs.Laws.{IsConfined}
pub use Rattle.pua_script.specs.Limits.{most_processes}
pub use Rattle.pua_script.specs.Replay.{answer_and_world, answer_to, apply, change_effect, come_of, Copies, edit_effect, edited_tree}
pub use Rattle.pua_script.specs.Replay.{Effect, effect, Fails, kept_at, Kills, Leaves, left_by, put_at, sent_by, take_effect, World, world_after}
pub use Rattle.pua_script.specs.Requests.{Asked}
pub use Rattle.pua_script.specs.Scripts.{request_by, request_of_fields}
pub use Rattle.pua_script.specs.Worlds.{process_at, tree_left, WorldState}
pub use Rattle.pua_script.specs.declared.answer.Answer.{Answer}
pub use Rattle.pua_script.specs.declared.answer.Answer.TheVariants.{Gone, Okay}
pub use Rattle.pua_script.specs.declared.fault.WorldFault.{WorldFault}
pub use Rattle.pua_script.specs.declared.granted.Granted.{Granted}
pub use Rattle.pua_script.specs.declared.request.Action.{Action}
pub use Rattle.pua_script.specs.declared.request.Action.TheVariants.{Fork, Link, OnPath, Rename, Symlink, Unveil}
