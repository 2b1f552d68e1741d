-- What many proofs of this crate name, from where it stands.
pub use Rattle.std.proofs.Common.{◌+◌, ◌∙◌, ◌∷◌, ◌≡◌, ◌≢◌, [], ap, arith, Bool, false, length, List, map, refl, rules, subst, sym, true, ℕ}
pub use Rattle.std.proofs.lemmas.Bool.{and_parts, eq-eqb, eqb-true}
pub use Rattle.std.specs.List.{list_any}
pub use Rattle.std.specs.Prelude.{◌||◌, if◌then◌else◌, None, Option, Some, unwrap_or}
pub use Rattle.pua_calls.specs.Calls.{rule_of}
pub use Rattle.pua_calls.specs.Promises.{holds}
pub use Rattle.pua_calls.specs.declared.call.Call.{Call}
pub use Rattle.pua_path.specs.declared.errno.Errno.{Errno}
pub use Rattle.pua_path.specs.declared.found.Found.{Found}
pub use Rattle.pua_path.specs.declared.found.Found.TheVariants.{Slot, Whole}
pub use Rattle.pua_path.specs.declared.found.Way.{Way}
pub use Rattle.pua_tree.specs.Tree.{above, climb, is_dir, Tree, WellFormed}
pub use Rattle.pua_policy.specs.States.{Ended, Filed, has_veil, is_ended, Locked, meet, Moved, Pledged, ProcessState, state_after}
pub use Rattle.pua_policy.specs.States.{same_place, Unveiled, veil_at, with_veil}
pub use Rattle.pua_policy.specs.Laws.{places_over}
pub use Rattle.pua_policy.specs.Reasons.{cover_of, covering_at, first_veiled}
pub use Rattle.pua_policy.specs.Verdict.{allowed_unless, cover, cover_fault, if_promised, nearest}
pub use Rattle.pua_policy.specs.contracts.place.PlacePartialEq.TheImpl.{ghosts}
pub use Rattle.pua_policy.specs.declared.answer.Cover.TheVariants.{All, Only}
pub use Rattle.pua_policy.specs.declared.place.Place.{Place}
pub use Rattle.pua_policy.specs.declared.place.Place.TheVariants.{Dir}
