-- What many proofs of this crate name, from where it stands.
pub use Rattle.std.proofs.Common.{◌++◌, ◌<◌, ◌∙◌, ◌∷◌, ◌≡◌, ◌≢◌, ◌≤◌, ◌⊎◌, [], ap, arith, Bool, cond, false, inl, inr, length, List, map}
pub use Rattle.std.proofs.Common.{refl, subst, suc, sym, take, true, zero, ℕ}
pub use Rattle.std.proofs.lemmas.Bool.{and_from, and_parts, eq-eqb, eqb-true, false≢true, or_left, or_right}
pub use Rattle.std.specs.List.{list_any}
pub use Rattle.std.specs.Option.{option_eq}
pub use Rattle.std.specs.Prelude.{◌&&◌, ◌==◌, ◌||◌, flat_map, if◌then◌else◌, is_some, None, not, Option, option_map, Some}
pub use Rattle.pua_calls.specs.CallSets.{has, keeps_link}
pub use Rattle.pua_calls.specs.Calls.{CallTable}
pub use Rattle.pua_calls.specs.declared.call.Call.{Call}
pub use Rattle.pua_objects.proofs.ForCallers.{Among, among_contained, among_left, among_map, among_right, contained, map_among}
pub use Rattle.pua_objects.specs.Items.{subject_given}
pub use Rattle.pua_objects.specs.Objects.{At, Others, Subject}
pub use Rattle.pua_path.specs.declared.found.Found.TheVariants.{Slot, Whole}
pub use Rattle.pua_path.specs.declared.found.Way.{Way}
pub use Rattle.pua_policy.proofs.ForCallers.{same_place_is}
pub use Rattle.pua_policy.specs.States.{has_veil, ProcessState, perms_kept, same_place, veils}
pub use Rattle.pua_policy.specs.Verdict.{covered_verdict, is_allowed, IsMissing, Object, object_of_kind}
pub use Rattle.pua_policy.specs.declared.answer.Cover.{Cover}
pub use Rattle.pua_policy.specs.declared.answer.Cover.TheVariants.{All, Only}
pub use Rattle.pua_policy.specs.declared.place.Place.{Place}
pub use Rattle.pua_script.specs.Confinement.{has_c}
pub use Rattle.pua_script.specs.Replay.{apply, World}
pub use Rattle.pua_script.specs.Requests.{Asked}
pub use Rattle.pua_script.specs.Tightening.{NoCallNeedsError}
pub use Rattle.pua_tree.proofs.ForCallers.{exact_spots, None≢Some, Reaches, row_of, row_says, same_Some, Some≢None, sound_from, spots_total}
pub use Rattle.pua_tree.specs.Tree.{above, empty_tree, is_dir, is_dir_kind, kind_at, look, Spot, spot_cmp, Tree, WellFormed}
pub use Rattle.pua_tree.specs.declared.node.Kind.{Kind}
pub use Rattle.pua_ever.specs.Ever.{all_new, Comes, is_below, lasting_dir, New, NewDir, NewFifo, NewFile, NewLink, NewOthers, NewSock, own_spot}
pub use Rattle.pua_ever.specs.Ever.{removable_dir, Stands, can_move}
pub use Rattle.pua_ever.specs.EverLines.{both_of, made_left}
pub use Rattle.pua_ever.specs.Laws.{VeilsStand}
