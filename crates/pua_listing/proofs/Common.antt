-- What many proofs of this crate name, from where it stands.
pub use Rattle.std.proofs.Common.{◌&&◌, ◌++◌, ◌+◌, ◌-◌, ◌<◌, ◌==◌, ◌^◌, ◌||◌, ◌∙◌, ◌∷◌, ◌≡◌, ◌≢◌, ◌≤◌, ◌⊎◌, [], ap, append-nil, append_assoc}
pub use Rattle.std.proofs.Common.{arith, Bool, cond, eqb, false, inl, inr, length, List, map, None, not, Option, option_map, refl, Some}
pub use Rattle.std.proofs.Common.{subst, suc, sym, T, true, zero, ℕ}
pub use Rattle.std.proofs.lemmas.Bool.{and_from, and_parts, eq-eqb, eqb-false, eqb-true, false≢true, ne_eqb, not-true, or_cases, true≢false}
pub use Rattle.std.specs.List.{filter, list_all, list_any}
pub use Rattle.pua_tree.specs.Tree.{is_dir, is_living, Spot, spot_cmp, Tree, WellFormed}
pub use Rattle.pua_tree.proofs.ForCallers.{exact_spots, Sound, spots_total}
pub use Rattle.pua_listing.specs.Order.{Row, rows_under, rows_from, in_order}
pub use Rattle.pua_listing.proofs.Counting.{count, one}
