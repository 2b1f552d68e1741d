-- What many proofs of this crate name, from where it stands.
pub use Rattle.std.proofs.Common.{◌&&◌, ◌*◌, ◌++◌, ◌+◌, ◌-◌, ◌<◌, ◌==◌, ◌^◌, ◌||◌, ◌∙◌, ◌∷◌, ◌≡◌, ◌≢◌, ◌≤◌, [], add-one, ap, append-nil}
pub use Rattle.std.proofs.Common.{append_assoc, arith, Bool, codes, cond, drop, false, get_or, inl, inr, length, List, ltb, map, min}
pub use Rattle.std.proofs.Common.{nat_eq, nat_le, nat_lt, None, not, Option, option_map, refl, reverse, rules, Some, subst, suc, sym, take}
pub use Rattle.std.proofs.Common.{true, vec_capacity, zero, ℕ}
pub use Rattle.std.proofs.Math.Bool.{and-false}
pub use Rattle.std.proofs.lemmas.Bool.{and_parts, cases_eq, cases_lt, eq-eqb, eqb-true, false≢true, le-leb, lt-leb, ne_eqb, or_left}
pub use Rattle.std.proofs.lemmas.Bool.{or_right}
pub use Rattle.std.proofs.lemmas.Grind.{common_steps, flat_map-append}
pub use Rattle.std.proofs.lemmas.List.{get_or_read, length-append, length-map, map-append, take_all}
pub use Rattle.std.proofs.lemmas.Nat.{mul-le}
pub use Rattle.std.proofs.lemmas.Slice.Eq.{bytes_eq-Decides}
pub use Rattle.std.specs.Cmp.{tied_itself}
pub use Rattle.std.specs.Cmp.Lexicographic.{nat_list_cmp_total}
pub use Rattle.std.specs.FinMap.{nat_cmp-IsAntisymmetric}
pub use Rattle.std.specs.FinMap.Entries.{by_order}
pub use Rattle.std.specs.HashMap.{get_by}
pub use Rattle.std.specs.List.{AllByRecursion, cons_option, list_all, list_any, range_with_len, slice_split}
unfoldable pub use Rattle.std.specs.List.{IsDistinct}
pub use Rattle.std.specs.Ordering.{eq_by_cmp, is_lt, nat_cmp, ordering_reverse}
pub use Rattle.std.specs.Prelude.{bytes_eq, Err, filter, filter_map, find, flat_map, IfOk, IfSome, if◌then◌else◌, IsTrue, Ok}
pub use Rattle.std.specs.Prelude.{option_to_list, Result}
pub use Rattle.std.specs.Result.{result_ok}
pub use Rattle.std.specs.Set.{unique_keys}
pub use Rattle.std.specs.declared.cmp.Ordering.TheVariants.{Equal, Greater, Less}
pub use Rattle.indexmap.specs.IndexSet.{insert_key}
pub use Rattle.pua_calls.specs.CallSets.{bit_of, has, keeps_link}
pub use Rattle.pua_calls.specs.Calls.{calls, CallTable, last_of, rule_of}
pub use Rattle.pua_calls.specs.declared.call.Call.{Call}
pub use Rattle.pua_calls.specs.declared.call.Call.TheVariants.{Rmdir, Stat}
pub use Rattle.pua_path.specs.Bounds.{part_cost}
pub use Rattle.pua_path.specs.Fits.{FoundsFit, StandsAsNamed}
pub use Rattle.pua_path.specs.Laws.{steps}
pub use Rattle.pua_path.specs.Limits.{most_links}
pub use Rattle.pua_path.specs.Paths.{is_absolute, part_of}
pub use Rattle.pua_path.specs.Resolution.{follow, last, rooted, RootedTree}
pub use Rattle.pua_path.specs.declared.errno.Errno.{Errno}
pub use Rattle.pua_path.specs.declared.found.Found.{Found}
pub use Rattle.pua_path.specs.declared.found.Found.TheVariants.{Slot, Whole}
pub use Rattle.pua_path.specs.declared.found.Last.{Last}
pub use Rattle.pua_path.specs.declared.found.Last.TheVariants.{Followed, Kept}
pub use Rattle.pua_path.specs.declared.found.Part.{Part}
pub use Rattle.pua_path.specs.declared.found.Way.TheVariants.{Top}
pub use Rattle.pua_path.specs.declared.text.Ending.{Ending}
pub use Rattle.pua_policy.specs.Descent.{cover_in}
pub use Rattle.pua_policy.specs.States.{ProcessState, is_ended, may_any, perms_kept, veil_at}
pub use Rattle.pua_policy.specs.Verdict.{cover, is_allowed, IsMissing, verdict_of}
pub use Rattle.pua_policy.specs.declared.place.Place.{Place}
pub use Rattle.pua_steps.proofs.ForCallers.{all_joined, all_pushed}
pub use Rattle.pua_steps.specs.Calls.{has_call}
unfoldable pub use Rattle.pua_steps.specs.Calls.{calls_of}
pub use Rattle.pua_steps.specs.Limits.{call_count}
pub use Rattle.pua_steps.specs.Reached.{live_count}
pub use Rattle.pua_steps.specs.Within.{IsPair}
pub use Rattle.pua_steps.specs.declared.state.State.{State}
pub use Rattle.pua_steps.specs.declared.steps.Entry.{Entry}
pub use Rattle.pua_steps.specs.declared.steps.Steps.{Steps}
pub use Rattle.pua_steps.specs.declared.visit.Visit.{Visit}
pub use Rattle.pua_tree.proofs.ForCallers.{is_byte, other_word, same_Some}
pub use Rattle.pua_tree.specs.LentRows.{lent_entry}
pub use Rattle.pua_tree.specs.Names.{is_name, same_bytes}
pub use Rattle.pua_tree.specs.Spelling.{is_plain, name_of, spelling}
pub use Rattle.pua_tree.specs.Steps.{◌>>=◌}
pub use Rattle.pua_tree.specs.Tree.{above, distinct_names, is_dir, name_cmp, Spot, Tree, WellFormed, with_name}
pub use Rattle.pua_audit.specs.Alphabets.{with_names}
pub use Rattle.pua_audit.specs.Begin.{candidates_from, longest, word_of_path, word_of_pieces, word_within}
pub use Rattle.pua_audit.specs.Bounds.{letter_cost, object_cost, row_cost}
pub use Rattle.pua_audit.specs.Coming.{pairs_at}
pub use Rattle.pua_audit.specs.Covers.{AreCovered, DirectoriesState}
pub use Rattle.pua_audit.specs.Entries.{allowed_far, allowed_kept, allowed_near, allowed_within, found_of, leads_to, links_of}
pub use Rattle.pua_audit.specs.Graphs.{AreApart, HasJudgedVisits, IsKnown, IsRight, named_in, pair_in_letters, pair_in_numbers}
pub use Rattle.pua_audit.specs.Graphs.{AnswersAsJudge}
pub use Rattle.pua_audit.specs.Judge.{base_dir, Below, is_letter, Judge, judge_for, judge_of, JudgeState, reach_along, Start, state_of}
pub use Rattle.pua_audit.specs.Judge.{seen_by, WordEnd}
unfoldable pub use Rattle.pua_audit.specs.Judge.{allowed_at}
pub use Rattle.pua_audit.specs.Laws.{IsAudited, Rises}
pub use Rattle.pua_audit.specs.Live.{live_states, passed_states, same_stage, shorter, Stage, stage_after}
pub use Rattle.pua_audit.specs.Reach.{from_root, is_reached, Pair, pair_cmp, pairs, path_of, reach, rest_after, Scope, Word, words}
pub use Rattle.pua_audit.specs.Ready.{judge_in, lent_path, scope_in}
unfoldable pub use Rattle.pua_audit.specs.Ready.{word_of}
pub use Rattle.pua_audit.specs.Rows.{AreLiving, AreNumbers, IsEntryFor, IsGrown, IsJudgedRow}
pub use Rattle.pua_audit.specs.Spots.{AreApartFrom, AreAtLetters, IsApart, IsNamed, IsNowhere, IsUnmarked}
pub use Rattle.pua_audit.specs.Starting.{AreLetters}
pub use Rattle.pua_audit.specs.Table.{IsLetter, IsTableOf}
pub use Rattle.pua_audit.specs.declared.base.Base.{Base}
pub use Rattle.pua_audit.specs.declared.base.Base.TheVariants.{Cwd, Root}
pub use Rattle.pua_audit.specs.declared.fault.AuditFault.{AuditFault}
pub use Rattle.pua_audit.specs.declared.table.spots.LetterSpot.{LetterSpot}
pub use Rattle.pua_audit.specs.declared.terms.Terms.{Terms}
