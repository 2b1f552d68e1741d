-- What many proofs of this crate name, from where it stands.
pub use Rattle.std.proofs.Common.{◌&&◌, ◌*◌, ◌++◌, ◌+◌, ◌-◌, ◌<◌, ◌==◌, ◌^◌, ◌||◌, ◌∙◌, ◌∷◌, ◌≡◌, ◌≤◌, [], ap, append-nil, append_assoc}
pub use Rattle.std.proofs.Common.{arith, bit_and, Bool, cond, count_ones, drop, false, filter, get_or, inl, inr, length, length-append}
pub use Rattle.std.proofs.Common.{List, map, max, min, mul-le-mul_right, nat_le, nat_lt, None, not, Option, option_map, refl, rules, set}
pub use Rattle.std.proofs.Common.{Some, subst, suc, suc-mul, sym, take, true, vec_capacity, zero, ℕ}
pub use Rattle.std.proofs.Math.Bool.{or-false}
pub use Rattle.std.proofs.Math.ListN.{drop_of_length-le}
pub use Rattle.std.proofs.lemmas.Bool.{and_parts, cases_Bool, cases_eq, cases_lt, eq-eqb, eqb-true, le-leb, le-ltb, lt-leb, lt-ltb, ne_eqb}
pub use Rattle.std.proofs.lemmas.Grind.{common_steps}
pub use Rattle.std.proofs.lemmas.List.{drop_more, get_or_default, length-map, length_push, map-append}
pub use Rattle.std.proofs.lemmas.Nat.Bits.{bit_at_above}
pub use Rattle.std.specs.Int.{bit_at}
pub use Rattle.std.specs.List.{AllByRecursion, range_with_len}
pub use Rattle.std.specs.Prelude.{flat_map, IfSome, option_to_list}
pub use mir.Syntax.{w32}
pub use Rattle.pua_steps.specs.Calls.{has_call}
unfoldable pub use Rattle.pua_steps.specs.Calls.{calls_of}
pub use Rattle.pua_steps.specs.Graph.{Graph, Pair, some_pair, Word}
unfoldable pub use Rattle.pua_steps.specs.Graph.{alone, below, cons, rows}
pub use Rattle.pua_steps.specs.Limits.{call_count}
pub use Rattle.pua_steps.specs.Lists.{AreListsOf, is_useful, IsListAt, IsLonger, IsOpen, span_of, within}
unfoldable pub use Rattle.pua_steps.specs.Lists.{list_of, narrow_of, rest_of}
pub use Rattle.pua_steps.specs.Live.{bound_of, entrance, IsBound, IsSized}
unfoldable pub use Rattle.pua_steps.specs.Live.{live_of}
pub use Rattle.pua_steps.specs.Order.{IsSplit, pairs_after}
pub use Rattle.pua_steps.specs.Reached.{AreSets, has_state, lands_from, lands_some, total}
unfoldable pub use Rattle.pua_steps.specs.Reached.{states_after}
pub use Rattle.pua_steps.specs.Ready.{AreOpen, IsCounted, IsReady, IsSameWalk, rests_of, trail}
unfoldable pub use Rattle.pua_steps.specs.Ready.{looks}
unfoldable pub use Rattle.pua_steps.specs.Resuming.{to_give}
pub use Rattle.pua_steps.specs.Table.{end_of, entries_at, first_of, has_gap, IsEntry, IsState, IsTable, IsVisit, missing_at, missing_visit}
pub use Rattle.pua_steps.specs.Table.{Rising}
unfoldable pub use Rattle.pua_steps.specs.Table.{gap, graph_of, visit_of, visits_from}
pub use Rattle.pua_steps.specs.Trail.{Live, on_word, pairs_of, TrailEvent}
unfoldable pub use Rattle.pua_steps.specs.Trail.{ahead, branches, deeper, pending, under, under_all, with_calls}
pub use Rattle.pua_steps.specs.declared.frame.Frame.{Frame}
pub use Rattle.pua_steps.specs.declared.lists.Lists.{Lists}
pub use Rattle.pua_steps.specs.declared.lists.Span.{Span}
pub use Rattle.pua_steps.specs.declared.state.State.{State}
pub use Rattle.pua_steps.specs.declared.steps.Entry.{Entry}
pub use Rattle.pua_steps.specs.declared.steps.Row.{Row}
pub use Rattle.pua_steps.specs.declared.steps.Steps.{Steps}
pub use Rattle.pua_steps.specs.declared.visit.Visit.{Visit}
pub use Rattle.pua_steps.specs.declared.walk.Walk.{Walk}
