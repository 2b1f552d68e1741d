-- What many proofs of this crate name, from where it stands.
pub use Rattle.std.proofs.Common.{◌&&◌, ◌*◌, ◌++◌, ◌+◌, ◌-◌, ◌<◌, ◌==◌, ◌^◌, ◌||◌, ◌∙◌, ◌∷◌, ◌≡◌, ◌≢◌, ◌≤◌, ◌⊎◌, [], ap, append-nil}
pub use Rattle.std.proofs.Common.{append_assoc, arith, Bool, cond, count_by, drop, eq-eqb, eqb, eqb-true, Err, false, get_or, inl, inr}
pub use Rattle.std.proofs.Common.{is_some, leb, length, List, ltb, map, nat_le, nat_lt, None, not, Ok, Option, option_map, refl, replicate}
pub use Rattle.std.proofs.Common.{Result, reverse, rules, Some, subst, suc, sym, T, take, tests, true, true≢false, unwrap_or, zero, ℕ}
pub use Rattle.std.proofs.lemmas.Bool.{and_from, and_parts, cond-false, cond-true, eqb-false, false≢true, le-leb, le-ltb, leb-true, lt-ltb}
pub use Rattle.std.proofs.lemmas.Bool.{ltb-false, ltb-true, ne_eqb, not-true, or_cases}
pub use Rattle.std.proofs.lemmas.Bool.Decides.{same_from_decides}
pub use Rattle.std.proofs.lemmas.Fn.{always_returns_same}
pub use Rattle.std.proofs.lemmas.List.{length-append, map-append, reverse-append, take_all, take_at}
pub use Rattle.std.proofs.lemmas.List.Folds.{sum_by-zero}
pub use Rattle.std.proofs.lemmas.Result.{err_from_is_err_and}
pub use Rattle.std.specs.Bool.{passes}
pub use Rattle.std.specs.Cmp.{Equal-is, IsTotalOrder, nat_cmp_total, tied_itself}
pub use Rattle.std.specs.FinMap.{find, is_sorted, nat_cmp-IsAntisymmetric, put}
pub use Rattle.std.specs.FinMap.Entries.{below_all, by_order, find-put, is_sorted-put, is_sorted-where_key, same_entries, where_key}
pub use Rattle.std.specs.List.{cons_option, list_all, list_any, onto_first, slice_split}
pub use Rattle.std.specs.Map.{keys_of, lookup}
pub use Rattle.std.specs.Ordering.{eq_by_cmp, is_eq, is_lt, nat_cmp, ordering_then}
pub use Rattle.std.specs.Prelude.{IfSome, IsSome, IsTrue, option_and_then}
pub use Rattle.std.specs.declared.cmp.Ordering.{Ordering}
pub use Rattle.std.specs.declared.cmp.Ordering.TheVariants.{Equal, Greater, Less}
pub use Rattle.indexmap.specs.IndexMap.{index_map_len}
pub use Rattle.slab.specs.Slab.{Slab}
pub use lib.Pointwise.{bytes_decides}
pub use Rattle.pua_tree.specs.Edits.{with_row, with_row_moved, without_row, without_unnamed}
pub use Rattle.pua_tree.specs.Grammar.{entries_fit, entry_fits, made_fits}
pub use Rattle.pua_tree.specs.LentRows.{lent_entry, lent_spot}
pub use Rattle.pua_tree.specs.Lines.{line_read}
pub use Rattle.pua_tree.specs.ListTree.{held_tree, node_entry, row_entry}
pub use Rattle.pua_tree.specs.Listing.{Entry, entry_of, hard_node_in, is_earlier_dir, is_earlier_other, is_taken, last_number}
pub use Rattle.pua_tree.specs.Listing.{line_of_fields, listing_line, ListingLine, node_of, number_in, only_if, parent_in, tree_of}
pub use Rattle.pua_tree.specs.Names.{has_byte, is_name, is_target, padded_name, same_bytes}
pub use Rattle.pua_tree.specs.Reading.{Enters, entry_at, entry_said, Follows, Gathers, grown_by, tree_with}
pub use Rattle.pua_tree.specs.Slots.{AreConsistent, held_in_slots, held_nodes, held_rows, in_order, made_of, names_of, node_in, row_at}
pub use Rattle.pua_tree.specs.Slots.{rows_in, slot_of, with_entry}
pub use Rattle.pua_tree.specs.Spelling.{bytes_spelled, decimal_value, fields, is_field, is_plain, name_of, name_of_bytes, number_within}
pub use Rattle.pua_tree.specs.Spelling.{with_front}
pub use Rattle.pua_tree.specs.Tree.{above, climb_within, distinct_names, is_dir, is_dir_kind, is_living, kind_at, look, name_cmp, Node}
pub use Rattle.pua_tree.specs.Tree.{row_fits, Spot, spot_cmp, target_fits, Tree, WellFormed}
pub use Rattle.pua_tree.specs.Writes.{room_after}
pub use Rattle.pua_tree.specs.declared.fault.ListingFault.{ListingFault}
pub use Rattle.pua_tree.specs.declared.list.ListRow.{ListRow}
pub use Rattle.pua_tree.specs.declared.node.Kind.{Kind}
pub use Rattle.pua_tree.specs.declared.node.Kind.TheVariants.{Dir, File, Known, Link, Prog}
pub use Rattle.pua_tree.specs.declared.slots.SlotNode.{SlotNode}
pub use Rattle.pua_tree.specs.declared.slots.Slots.{Slots}
