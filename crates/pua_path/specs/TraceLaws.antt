-- What is true of traces.
use Rattle.std.specs.Prelude.{◌≡◌, ℕ, ◌+◌, ◌≤◌, List, [], ◌∷◌, length, Result, Ok, Err}
use Rattle.pua_tree.specs.Tree.{Tree, Spot}
use Rattle.pua_path.specs.Resolution.{RootedTree, Linked, Plain, Nothing, standing_at, resolve_parts, resolution_of_text}
use Rattle.pua_path.specs.declared.text.Ending.{Ending}
use Rattle.pua_path.specs.declared.found.Part.{Part}
use Rattle.pua_path.specs.declared.found.Start.{Start}
use Rattle.pua_path.specs.declared.found.Last.{Last}
use Rattle.pua_path.specs.declared.found.Way.{Way}
use Rattle.pua_path.specs.declared.found.Found.{Found}
use Rattle.pua_path.specs.declared.traced.Stop.{Stop}
use Rattle.pua_path.specs.declared.traced.Stop.TheVariants.{NoEntry, NoDirectory, LinkBeyond}
use Rattle.pua_path.specs.Traces.{Trace, trace_parts, resolved_as, trace_of_text, object_or_errno}

-- a trace answers as the resolution does
abbrev pub TracesAnswer : Type 0
TracesAnswer = (t : RootedTree) (mode : Last) (links dir : ℕ) (way : Way) (ps : List Part) →
    resolved_as (trace_parts links t mode dir way ps).outcome ≡ resolve_parts links t mode dir way ps

abbrev pub TextTracesAnswer : Type 0
TextTracesAnswer = (t : Tree) (from : Start) (ending : Ending) (text : List ℕ) (mode : Last) →
    object_or_errno (trace_of_text t from ending text mode).outcome ≡ resolution_of_text t from ending text mode

-- what stands where it stops is what the stop says
abbrev pub StopHolds : Tree → Stop → Type 0
StopHolds t (NoEntry spot) = standing_at t spot.0 spot.1 ≡ Nothing
StopHolds t (NoDirectory spot) = (x : ℕ) × (standing_at t spot.0 spot.1 ≡ Plain x)
StopHolds t (LinkBeyond spot) = (x : ℕ) × (target : List ℕ) × (standing_at t spot.0 spot.1 ≡ Linked x target)

-- what stands at each link that was followed is a link
abbrev pub IsLinkAt : Tree → Spot → Type 0
IsLinkAt t spot = (x : ℕ) × (target : List ℕ) × (standing_at t spot.0 spot.1 ≡ Linked x target)

abbrev pub AreLinks : Tree → List Spot → Type 0
AreLinks t [] = Unit {0}
AreLinks t (spot ∷ spots) = IsLinkAt t spot × AreLinks t spots

-- the links left are those that may be followed without those that were
abbrev pub CountsLinks : ℕ → Trace → Type 0
CountsLinks links trace = by trace.outcome
  where
    by : Result (Found × ℕ) Stop → Type 0
    by (Ok found) = length trace.links + found.1 ≡ links
    by (Err (LinkBeyond spot)) = length trace.links ≡ links
    by (Err stop) = length trace.links ≤ links

-- a stop holds where the trace says
abbrev pub OutcomeHolds : Tree → Result (Found × ℕ) Stop → Type 0
OutcomeHolds t (Ok found) = Unit {0}
OutcomeHolds t (Err stop) = StopHolds t stop

pub record TraceHolds (t : Tree) (links : ℕ) (trace : Trace) : Type 0 where
  pub stop : OutcomeHolds t trace.outcome
  pub are_links : AreLinks t trace.links
  pub count : CountsLinks links trace

abbrev pub TracesHold : Type 0
TracesHold = (t : RootedTree) (mode : Last) (links dir : ℕ) (way : Way) (ps : List Part) →
    TraceHolds t.tree links (trace_parts links t mode dir way ps)
