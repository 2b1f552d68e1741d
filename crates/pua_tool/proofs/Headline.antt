-- What is quoted is about what is left of histories.
use Rattle.pua_tool.proofs.Common.{◌≡◌, ◌∙◌, ℕ, List, refl, sym, ap, Option, Some, None, Tree, CallTable, ProcessState, Asked, World}
use Rattle.pua_tool.proofs.Common.{kept_at, new_world, world_after}
use Rattle.std.specs.Prelude.{nat_eq, option_map}
use Rattle.std.specs.Map.{lookup}
use Rattle.std.proofs.lemmas.Map.Made.{lookup-map_values}
use Rattle.pua_tree.proofs.ForCallers.{same_Some, None≢Some}
use Rattle.pua_policy.specs.History.{History, state_of}
use Rattle.pua_script.specs.Pasts.{Past, new_past, left_of, past_after, KeepsPasts}
use Rattle.pua_tool.specs.Headline.{IsOfHistories, history_in, state_in}

kept : (past : Past) (process : ℕ) → kept_at (left_of past) process ≡ option_map state_of (lookup (nat_eq process) past.histories)
kept past process = lookup-map_values state_of (nat_eq process) past.histories

left : (now : ProcessState) (o : Option History) → option_map state_of o ≡ Some now → (h : History) × (o ≡ Some h) × (now ≡ state_of h)
left now None is = absurd (None≢Some now is)
left now (Some h) is = (h, refl, sym (same_Some (state_of h) now is))

states : KeepsPasts → (table : CallTable) (t : Tree) (asks : List Asked) (process : ℕ) →
    kept_at (world_after table (new_world t) asks) process ≡ state_in table t asks process
states pasts table t asks process =
    ap (λ (w : World). kept_at w process) (pasts.goes_on table (new_past t) asks) ∙ kept (past_after table (new_past t) asks) process

pub of_histories : KeepsPasts → IsOfHistories
of_histories pasts = record {
  states = states pasts;
  trees = λ table t asks. ap (λ (w : World). w.tree) (pasts.goes_on table (new_past t) asks);
  answers = λ table t asks. pasts.answers table (new_past t) asks;
  histories = λ table t asks process now is. left now (history_in table t asks process) (sym (states pasts table t asks process) ∙ is);
  kept = kept;
  further = pasts;
}
