-- What many proofs of this crate name, from where it stands.
pub use Rattle.std.proofs.Common.{◌++◌, ◌+◌, ◌-◌, ◌<◌, ◌∙◌, ◌∷◌, ◌≡◌, ◌≤◌, [], ap, append-nil, append_assoc, arith, Bool, cond, drop, Err}
pub use Rattle.std.proofs.Common.{false, get_or, length, List, map, Ok, refl, rules, slice_index_or, string_bytes, subst, suc, sym, take}
pub use Rattle.std.proofs.Common.{take_all, true, ℕ}
pub use Rattle.std.proofs.Math.ListN.{drop_of_length-le}
pub use Rattle.std.proofs.lemmas.List.{drop_more, length-map, map-append, take_more}
pub use Rattle.std.proofs.lemmas.Result.{err_from_is_err_and}
pub use Rattle.std.specs.Borrow.{Bor}
pub use Rattle.std.specs.Option.{option_map_or}
pub use Rattle.std.specs.Prelude.{◌==◌, bit_or, codes, filter, flat_map, if◌then◌else◌, None, Option, option_map, reverse, Some}
pub use Rattle.pua_audit.specs.Reach.{from_root, printed_path, Word}
pub use Rattle.pua_audit.specs.declared.base.Base.TheVariants.{Root}
pub use Rattle.pua_calls.specs.CallSets.{calls_in, has}
pub use Rattle.pua_calls.specs.Calls.{call_name, calls, CallTable}
pub use Rattle.pua_calls.specs.Promises.{perm_letters}
pub use Rattle.pua_calls.specs.declared.call.Call.{Call}
pub use Rattle.pua_calls.specs.declared.call.Call.TheVariants.{Stat}
pub use Rattle.pua_io.specs.declared.sink.PutFault.{PutFault}
pub use Rattle.pua_objects.specs.Items.{subject_given}
pub use Rattle.pua_objects.specs.Lines.{kind_word, lines_of}
pub use Rattle.pua_objects.specs.Objects.{with_commas}
pub use Rattle.pua_policy.specs.States.{ProcessState, veils}
pub use Rattle.pua_policy.specs.declared.place.Place.{Place}
pub use Rattle.pua_script.specs.Replay.{kept_at}
pub use Rattle.pua_since.specs.Dates.{veil_date, veils_at}
pub use Rattle.pua_tree.specs.Spelling.{spelling}
pub use Rattle.pua_tree.specs.Tree.{is_dir, Tree}
pub use Rattle.pua_why.specs.Columns.{resting_on}
pub use Rattle.pua_texts.specs.Blocks.{Passes}
pub use Rattle.pua_texts.specs.EverLines.{ever_lines}
pub use Rattle.pua_texts.specs.KeptPaths.{IsKept, KeptPathState}
pub use Rattle.pua_texts.specs.Lines.{pair_lines, with_end}
pub use Rattle.pua_texts.specs.ObjectLines.{lists_of}
pub use Rattle.pua_texts.specs.States.{or_equals, path_or_hyphen, place_dir, place_names, veil_lines}
pub use Rattle.pua_texts.specs.VeilDates.{veil_dates}
pub use Rattle.pua_texts.specs.WhyLines.{ServedScript, why_lists_of, world_left}
pub use Rattle.pua_texts.specs.WhyLists.{covering_behind, veils_behind}
