-- What many proofs of this crate name, from where it stands.
pub use Rattle.std.proofs.Common.{◌++◌, ◌+◌, ◌<◌, ◌∙◌, ◌∷◌, ◌≡◌, ◌≢◌, ◌≤◌, [], ap, append-nil, append_assoc, arith, Bool, cond, drop, Err}
pub use Rattle.std.proofs.Common.{false, flat_map, get_or, inl, inr, length, List, map, None, Ok, Option, refl, Result, rules, set, Some}
pub use Rattle.std.proofs.Common.{string_bytes, subst, suc, sym, take, true, zero, ℕ}
pub use Rattle.std.proofs.lemmas.Bool.{eqb-true, false≢true}
pub use Rattle.std.proofs.lemmas.List.{take_all}
pub use Rattle.std.proofs.lemmas.Option.{slice_get_within}
pub use Rattle.std.specs.Borrow.{Bor}
pub use Rattle.std.specs.Option.{option_eq, option_map_or}
pub use Rattle.std.specs.Prelude.{◌&&◌, ◌==◌, ◌⊎◌, if◌then◌else◌, is_some, not, slice_get}
pub use Rattle.std.specs.Slice.Iter.{iter_rest}
pub use lib.Pointwise.{bytes_decides}
pub use Rattle.pua_calls.specs.Calls.{CallTable}
pub use Rattle.pua_calls.specs.declared.call.Call.{Call}
pub use Rattle.pua_path.specs.Traces.{PathTrace, trace_of_text}
pub use Rattle.pua_path.specs.declared.found.Found.{Found}
pub use Rattle.pua_path.specs.declared.text.Ending.{Ending}
pub use Rattle.pua_path.specs.declared.traced.PathFault.{PathFault}
pub use Rattle.pua_policy.specs.States.{ProcessState, perms_kept, start}
pub use Rattle.pua_policy.specs.declared.answer.Refusal.{Refusal}
pub use Rattle.pua_policy.specs.declared.place.Place.{Place}
pub use Rattle.pua_script.proofs.ForCallers.{by_request, one_request_more}
pub use Rattle.pua_script.specs.AnswerTexts.{with_end}
pub use Rattle.pua_script.specs.Decide.{Change, change_by, CopyAs, decide, NoChange}
pub use Rattle.pua_script.specs.Family.{is_okay}
pub use Rattle.pua_script.specs.Replay.{answer_to, answers_to, apply, Copies, Effect, Fails, kept_at, Kills, Leaves, left_by, World}
pub use Rattle.pua_script.specs.Replay.{world_after}
pub use Rattle.pua_script.specs.Requests.{Asked}
pub use Rattle.pua_script.specs.Scripts.{requests_of}
pub use Rattle.pua_script.specs.Worlds.{apply_to, state_after_all, world_of, WorldState}
pub use Rattle.pua_script.specs.declared.answer.Answer.{Answer}
pub use Rattle.pua_script.specs.declared.answer.Answer.TheVariants.{Failed, Gone, Killed, Okay}
pub use Rattle.pua_script.specs.declared.request.Action.{Action}
pub use Rattle.pua_script.specs.declared.request.Action.TheVariants.{Chroot, Close, Exit, Fchdir, Fork, Hold, Link, Lock, OnPath, Pledge, Rename}
pub use Rattle.pua_script.specs.declared.request.Action.TheVariants.{Symlink, Take, Unveil, Uses, Comment}
pub use Rattle.pua_tree.specs.Names.{same_bytes}
pub use Rattle.pua_tree.specs.Tree.{Spot, Tree}
pub use Rattle.pua_why.specs.Facts.{Fact, facts_of}
pub use Rattle.pua_why.specs.Reasons.{Ended, Fault, reason}
pub use Rattle.pua_why.specs.Seen.{fact_seen}
pub use Rattle.pua_why.specs.Since.{came_from, forebear, parent_by, since, Test}
pub use Rattle.pua_why.specs.Texts.{answer_words, date_of, reason_since, reason_tail}
pub use Rattle.pua_since.specs.Changes.{has_changed, has_forked}
pub use Rattle.pua_since.specs.Concerns.{TouchesOnly}
pub use Rattle.pua_since.specs.Dates.{AreFactsAt, ArePlacesOf, AreVeilsAt, fact_line, IsFactAt, IsRequestAt, IsVeilAt, veil_seen, veil_told}
pub use Rattle.pua_since.specs.Dates.{veils_at, with_number}
pub use Rattle.pua_since.specs.Watched.{AreServed, AreWatched, forebear_by, fork_seen, forks_done, forks_left, is_told}
pub use Rattle.pua_since.specs.Watched.{IsKeptThrough, IsSameTopic, IsToldOf, IsWatched, kept_in, line_at, made_by}
pub use Rattle.pua_since.specs.declared.touched.Touched.{Touched}
pub use Rattle.pua_since.specs.declared.watch.Question.{Question}
pub use Rattle.pua_since.specs.declared.watch.Told.{Told}
pub use Rattle.pua_since.specs.declared.watch.Watch.{Watch}
pub use Rattle.pua_since.specs.declared.watches.Watches.{Watches}
