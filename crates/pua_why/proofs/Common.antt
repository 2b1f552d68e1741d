-- What many proofs of this crate name, from where it stands.
pub use Rattle.std.proofs.Common.{◌++◌, ◌+◌, ◌∙◌, ◌∷◌, ◌≡◌, [], ap, append-nil, append_assoc, arith, Bool, drop, Err, false, length, List}
pub use Rattle.std.proofs.Common.{map, None, Ok, Option, refl, Result, rules, Some, string_bytes, subst, suc, sym, take, true, ℕ}
pub use Rattle.std.proofs.lemmas.Result.{on_ok_weaker}
pub use Rattle.std.specs.List.{list_any}
pub use Rattle.std.specs.Prelude.{◌||◌, codes, decimal, if◌then◌else◌, is_some, nat_le, not, option_map}
pub use Rattle.pua_calls.specs.Calls.{CallTable, PairRule, rule_of}
pub use Rattle.pua_calls.specs.Promises.{holds, lacking, unveil}
pub use Rattle.pua_calls.specs.declared.call.Call.{Call}
pub use Rattle.pua_path.specs.Fits.{node_named, spot_named}
pub use Rattle.pua_path.specs.Traces.{PathTrace, text_fault, trace_of_text}
pub use Rattle.pua_path.specs.declared.found.Found.{Found}
pub use Rattle.pua_path.specs.declared.found.Found.TheVariants.{Slot, Whole}
pub use Rattle.pua_path.specs.declared.found.Last.TheVariants.{Followed}
pub use Rattle.pua_path.specs.declared.text.Ending.{Ending}
pub use Rattle.pua_path.specs.declared.traced.PathFault.{PathFault}
pub use Rattle.pua_path.specs.declared.traced.PathTextFault.{PathTextFault}
pub use Rattle.pua_policy.specs.States.{ProcessState, is_ended, is_locked, perms_kept, start}
pub use Rattle.pua_policy.specs.Misfits.{misfit}
pub use Rattle.pua_policy.specs.Reasons.{covering, HasEnded, Holds, Lacks, Promising, promising}
pub use Rattle.pua_policy.specs.Verdict.{object_of, or_fault}
pub use Rattle.pua_policy.specs.declared.place.Place.{Place}
pub use Rattle.pua_policy.specs.declared.reason.Covering.TheVariants.{By, InView}
pub use Rattle.pua_script.specs.Decide.{AddEvent, adding, AddNode, BeginProgram, Change, change_by, CopyAs, CutRow, fault_if, link_node}
pub use Rattle.pua_script.specs.Decide.{TakeFile}
pub use Rattle.pua_script.specs.Decide.{New, NoChange, Old, on_named, Outcome, pair_by, shifting, ShiftRow, Side, Sole, TieRow}
pub use Rattle.pua_script.specs.Decide.{unless_failed, unless_refused}
pub use Rattle.pua_script.specs.Limits.{most_processes}
pub use Rattle.pua_script.specs.Replay.{change_effect, come_of, edit_effect, edited_tree, kept_at, World}
pub use Rattle.pua_script.specs.declared.answer.Answer.{Answer}
pub use Rattle.pua_script.specs.declared.request.Action.TheVariants.{Chroot, Close, Exit, Fchdir, Fork, Hold, Link, Lock, OnPath, Pledge, Rename}
pub use Rattle.pua_script.specs.declared.request.Action.TheVariants.{Symlink, Take, Unveil, Uses, Comment}
pub use Rattle.pua_tree.specs.Edits.{add, cut, shift, tie}
pub use Rattle.pua_tree.specs.LentRows.{lent_entry}
pub use Rattle.pua_tree.specs.Tree.{climb, Spot, Tree}
pub use Rattle.pua_tree.specs.declared.fault.TreeFault.{TreeFault}
pub use Rattle.pua_why.specs.Checked.{refused_by}
pub use Rattle.pua_why.specs.Facts.{call_trace, Fact, facts_named, facts_promised, facts_under, Follows, name_trace, Needs}
pub use Rattle.pua_why.specs.Laws.{decision_of}
pub use Rattle.pua_why.specs.Reasons.{change_or_fault, Fault, faults, faults_of, IsLocked, LacksLetters, no_room, NoProcessLeft}
pub use Rattle.pua_why.specs.Reasons.{NumberTaken, outcome_fault, place_beyond, room_fault, told_path, uncovered_fault, Unfit}
pub use Rattle.pua_why.specs.Reasons.{unpromised_fault}
pub use Rattle.pua_why.specs.Seen.{fact_seen, fault_seen, side_seen}
pub use Rattle.pua_why.specs.Texts.{dir_names, joined_words, names_to, slashed_names}
unfoldable pub use Rattle.pua_why.specs.Texts.{promises_text}
