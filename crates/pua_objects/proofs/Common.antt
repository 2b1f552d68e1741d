-- What many proofs of this crate name, from where it stands.
pub use Rattle.std.proofs.Common.{◌++◌, ◌+◌, ◌-◌, ◌<◌, ◌==◌, ◌∙◌, ◌∷◌, ◌≡◌, ◌≢◌, ◌≤◌, [], ap, append-nil, arith, Bool, Bor, cond, drop}
pub use Rattle.std.proofs.Common.{false, inl, inr, length, List, map, refl, rules, subst, suc, sym, take, true, zero, ℕ}
pub use Rattle.std.proofs.lemmas.Bool.{and_parts, eq-eqb, eqb-true}
pub use Rattle.std.proofs.lemmas.List.{length-map, length-reverse}
pub use Rattle.std.specs.List.{AllByRecursion, list_all, list_any}
pub use Rattle.std.specs.Ordering.{nat_cmp}
pub use Rattle.std.specs.Prelude.{◌&&◌, ◌||◌, Err, filter, filter_map, flat_map, if◌then◌else◌, is_none, is_some, nat_lt, None, not, Ok}
pub use Rattle.std.specs.Prelude.{Option, reverse, Some}
pub use Rattle.std.specs.declared.cmp.Ordering.{Ordering}
pub use Rattle.std.specs.declared.cmp.Ordering.TheVariants.{Equal, Greater, Less}
pub use Rattle.pua_audit.specs.Laws.{Rises}
pub use Rattle.pua_audit.specs.Reach.{Word}
pub use Rattle.pua_calls.specs.Calls.{calls, CallTable, last_of, rule_of}
pub use Rattle.pua_calls.specs.declared.call.Call.{Call}
pub use Rattle.pua_path.specs.Fits.{FoundFits}
pub use Rattle.pua_path.specs.Paths.{path_fault}
pub use Rattle.pua_path.specs.declared.found.Found.{Found}
pub use Rattle.pua_path.specs.declared.found.Found.TheVariants.{Slot, Whole}
pub use Rattle.pua_path.specs.declared.found.Last.{Last}
pub use Rattle.pua_path.specs.declared.found.Last.TheVariants.{Followed, Kept}
pub use Rattle.pua_path.specs.declared.found.Way.{Way}
pub use Rattle.pua_path.specs.declared.found.Way.TheVariants.{Named, Top}
pub use Rattle.pua_policy.proofs.ForCallers.{covers_descend}
pub use Rattle.pua_policy.specs.States.{ProcessState, perms_kept, veils}
pub use Rattle.pua_policy.specs.Verdict.{if_promised, is_allowed, is_link, is_link_kind, object_of, verdict}
pub use Rattle.pua_policy.specs.declared.answer.Cover.{Cover}
pub use Rattle.pua_policy.specs.declared.answer.Cover.TheVariants.{All}
pub use Rattle.pua_policy.specs.declared.answer.Verdict.TheVariants.{Allowed}
pub use Rattle.pua_policy.specs.declared.place.Place.{Place}
pub use Rattle.pua_tree.proofs.ForCallers.{climb_ends, exact_spots, row_says, Sound, sound_from}
pub use Rattle.pua_tree.specs.Tree.{is_dir, look, name_cmp, Spot, spot_cmp, Tree, WellFormed}
pub use Rattle.pua_tree.specs.declared.node.Kind.{Kind}
pub use Rattle.pua_objects.specs.Items.{IsItemOn}
pub use Rattle.pua_objects.specs.Objects.{At, calls_on, cover_in, entries, has_calls, is_named_by, Item, items, items_at, items_below, Line}
pub use Rattle.pua_objects.specs.Objects.{line_of, name_at, names_in, Others, Subject, subject_of, subject_verdict, veiled_in}
pub use Rattle.pua_objects.specs.Lines.{lines_of}
pub use Rattle.pua_objects.specs.Spots.{AreAtNames, AreInOrder, AreSpots, names_at, spot_now, veil_spot}
pub use Rattle.pua_objects.specs.Walk.{IsBelow, items_to_come, others_item}
