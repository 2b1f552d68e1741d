-- What many proofs of this crate name, from where it stands.
pub use Rattle.std.proofs.Common.{◌++◌, ◌<◌, ◌∙◌, ◌∷◌, ◌≡◌, ◌≢◌, ◌≤◌, ◌⊎◌, [], ap, arith, Bool, cond, false, inl, inr, length, List, map}
pub use Rattle.std.proofs.Common.{refl, rules, subst, suc, sym, take, tests, true, zero, ℕ}
pub use Rattle.std.proofs.lemmas.Bool.{and_from, and_parts, eq-eqb, eqb-true, false≢true, not-true, or_left, or_right}
pub use Rattle.std.proofs.lemmas.Iterator.{items_from_collect, YieldsList-from_slice}
pub use Rattle.std.proofs.lemmas.Iterator.Consumers.{YieldsList-from_filter_map}
pub use Rattle.std.proofs.lemmas.List.Folds.{list_any-append}
pub use Rattle.std.specs.Cmp.{nat_cmp_total}
pub use Rattle.std.specs.FinMap.{nat_cmp-IsAntisymmetric}
pub use Rattle.std.specs.List.{list_all, list_any}
pub use Rattle.std.specs.Option.{option_eq}
pub use Rattle.std.specs.Ordering.{nat_cmp}
pub use Rattle.std.specs.Prelude.{◌&&◌, ◌==◌, ◌||◌, Err, filter, filter_map, flat_map, if◌then◌else◌, is_none, is_some, nat_le, nat_lt}
pub use Rattle.std.specs.Prelude.{None, not, Ok, Option, option_map, Result, Some}
pub use Rattle.pua_audit.specs.Reach.{Word}
pub use Rattle.pua_calls.specs.CallSets.{has, is_kept, keeps_link}
pub use Rattle.pua_calls.specs.Calls.{calls, CallTable, execpromises_by, rule_of}
pub use Rattle.pua_calls.specs.declared.call.Call.{Call}
pub use Rattle.pua_objects.proofs.ForCallers.{allowed_is, Among, among_contained, among_filter, among_filter_map, among_left, among_map}
pub use Rattle.pua_objects.proofs.ForCallers.{among_right, contained, covers_descend, filter_among, map_among, named_within_text}
pub use Rattle.pua_objects.specs.Items.{subject_given, SubjectFits}
pub use Rattle.pua_objects.specs.Laws.{own_or}
pub use Rattle.pua_objects.specs.Objects.{At, cover_in, Item, items, Others, Subject}
pub use Rattle.pua_path.proofs.ForCallers.{above_lives, resolutions_fit}
pub use Rattle.pua_path.specs.Fits.{is_link_kind}
pub use Rattle.pua_path.specs.declared.errno.Errno.TheVariants.{EAGAIN}
pub use Rattle.pua_path.specs.declared.found.Found.{Found}
pub use Rattle.pua_path.specs.declared.found.Found.TheVariants.{Slot, Whole}
pub use Rattle.pua_path.specs.declared.found.Last.TheVariants.{Followed}
pub use Rattle.pua_path.specs.declared.found.Way.{Way}
pub use Rattle.pua_path.specs.declared.found.Way.TheVariants.{Dot, DotDot, Named, Top}
pub use Rattle.pua_policy.proofs.ForCallers.{same_place_is}
pub use Rattle.pua_policy.specs.States.{has_veil, ProcessState, may_any, perms_kept, same_place, SameVeils, start, state_after, veils}
pub use Rattle.pua_policy.specs.Objects.{object_seen}
pub use Rattle.pua_policy.specs.Verdict.{allowed_unless, cover, cover_fault, covered_verdict, FoundFits, if_promised, is_allowed}
pub use Rattle.pua_policy.specs.Verdict.{IsDir, IsMissing, Object, object_fault, object_of_kind, or_fault, verdict_of}
pub use Rattle.pua_policy.specs.declared.answer.Cover.{Cover}
pub use Rattle.pua_policy.specs.declared.answer.Cover.TheVariants.{All, Only}
pub use Rattle.pua_policy.specs.declared.answer.May.{May}
pub use Rattle.pua_policy.specs.declared.place.Place.{Place}
pub use Rattle.pua_script.proofs.Entries.{found_here, found_put}
pub use Rattle.pua_script.proofs.ForCallers.{by_going, first_tree, IsWithin, Members, members_then, verdicts_within}
pub use Rattle.pua_script.specs.Confinement.{has_c, TreesAlong, UncoveredStay}
pub use Rattle.pua_script.specs.Decide.{Change, change_by, CopyAs}
pub use Rattle.pua_script.specs.Family.{family_then, is_done, is_exec, is_member, members_alone, none_done}
pub use Rattle.pua_script.specs.Guards.{IsDecided}
pub use Rattle.pua_script.specs.Limits.{most_processes}
pub use Rattle.pua_script.specs.Replay.{apply, change_effect, Copies, Fails, kept_at, World, world_after}
pub use Rattle.pua_script.specs.Requests.{Asked}
pub use Rattle.pua_script.specs.Tightening.{NoCallNeedsError}
pub use Rattle.pua_script.specs.Worlds.{tree_left}
pub use Rattle.pua_script.specs.declared.request.Action.{Action}
pub use Rattle.pua_script.specs.declared.request.Action.TheVariants.{Close, Exit, Fchdir, Fork, Hold, Link, Lock, OnPath, Pledge, Rename, Symlink, Take, Unveil, Uses, Comment}
pub use Rattle.pua_tree.proofs.ForCallers.{exact_spots, None≢Some, Reaches, row_of, row_says, same_dir, same_Some, Some≢None, sound_from}
pub use Rattle.pua_tree.proofs.ForCallers.{spots_total}
pub use Rattle.pua_tree.specs.Tree.{above, climb, empty_tree, has_no_row, is_dir, is_dir_kind, is_empty, is_living, is_mount, kind_at, look}
pub use Rattle.pua_tree.specs.Tree.{Node, node_at, Spot, spot_cmp, Tree, WellFormed}
pub use Rattle.pua_tree.specs.declared.node.Kind.{Kind}
pub use Rattle.pua_ever.specs.Ever.{all_new, can_empty, can_leave, can_link, can_make, can_yield, Comes, dir_covers, directories, ever, ever_line, EverLine}
pub use Rattle.pua_ever.specs.Ever.{file_covers, has_c_outside, has_ever_calls, is_allowed_under, is_below, is_ever_allowed, is_free}
pub use Rattle.pua_ever.specs.Ever.{is_named_way, is_yes, lasting_dir, is_made_by, may_edit, name_covers, New, new_line, NewDir, NewFifo, NewFile}
pub use Rattle.pua_ever.specs.Ever.{NewLink, NewOthers, NewSock, own_spot, removable_dir, row_cover, some_dir_moves, Stands, subjects_of}
pub use Rattle.pua_ever.specs.Ever.{can_move, may_rename, open_covers}
pub use Rattle.pua_ever.specs.EverLines.{both_of, ever_lines_of, made_left}
pub use Rattle.pua_ever.specs.Laws.{EditsNeedC, VeilsStand}
pub use Rattle.pua_ever.specs.Destinations.{dir_destination, entrance_cover, HaveSame, held_dir, name_destination, opened_dir}
pub use Rattle.pua_ever.specs.Prospects.{AreOnFreed}
