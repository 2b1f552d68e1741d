-- How a path goes: what it names or where it stops, and the links that were followed by then.
use Rattle.std.specs.Prelude.{ℕ, zero, suc, not, if◌then◌else◌, List, [], ◌∷◌, ◌++◌, Option, Some, None, Result, Ok, Err}
use Rattle.pua_tree.specs.Tree.{Tree, Spot}
use Rattle.pua_path.specs.Limits.{most_links}
pub use Rattle.pua_path.specs.Paths.{text_errno, text_fault}
use Rattle.pua_path.specs.Paths.{parts_of}
use Rattle.pua_path.specs.Resolution.{Resolved, RootedTree, above_in, Directory, Linked, Plain, Nothing, standing_at, is_followed, start_of}
use Rattle.pua_path.specs.Resolution.{starts, seen_from}
use Rattle.pua_path.specs.declared.errno.Errno.{Errno}
use Rattle.pua_path.specs.declared.errno.Errno.TheVariants.{ENOENT, ENOTDIR, ELOOP}
use Rattle.pua_path.specs.declared.text.Ending.{Ending}
use Rattle.pua_path.specs.declared.text.Ending.TheVariants as ending
use Rattle.pua_path.specs.declared.found.Part.{Part}
use Rattle.pua_path.specs.declared.found.Part.TheVariants as parts
use Rattle.pua_path.specs.declared.found.Start.{Start}
use Rattle.pua_path.specs.declared.found.Last.{Last}
use Rattle.pua_path.specs.declared.found.Way.{Way}
use Rattle.pua_path.specs.declared.found.Way.TheVariants.{Named, Dot, DotDot, Top}
use Rattle.pua_path.specs.declared.found.Found.{Found}
use Rattle.pua_path.specs.declared.found.Found.TheVariants.{Whole, Slot}
use Rattle.pua_path.specs.declared.traced.Stop.{Stop}
use Rattle.pua_path.specs.declared.traced.Stop.TheVariants.{NoEntry, NoDirectory, LinkBeyond}
use Rattle.pua_path.specs.declared.traced.PathTextFault.{PathTextFault}
use Rattle.pua_path.specs.declared.traced.PathFault.{PathFault}
use Rattle.pua_path.specs.declared.traced.PathFault.TheVariants.{InText, NoStart, Stops}

-- where parts lead no further: at a name with nothing there, with no directory there though a part is left, or with one link too many
abbrev pub stop_errno : Stop → Errno
stop_errno (NoEntry spot) = ENOENT
stop_errno (NoDirectory spot) = ENOTDIR
stop_errno (LinkBeyond spot) = ELOOP

abbrev pub stop_spot : Stop → Spot
stop_spot (NoEntry spot) = spot
stop_spot (NoDirectory spot) = spot
stop_spot (LinkBeyond spot) = spot

-- the links followed, in their order, and what was found with the links left then, or where it stopped
pub record Trace : Type 0 where
  pub links : List Spot
  pub outcome : Result (Found × ℕ) Stop

abbrev pub at_once : Result (Found × ℕ) Stop → Trace
at_once outcome = record { links = []; outcome = outcome }

-- behind links that were followed before
abbrev pub after_links : List Spot → Trace → Trace
after_links spots further = record { links = spots ++ further.links; outcome = further.outcome }

-- what is no directory is found where no part is left
abbrev pub slot_or_stop : List Part → Found → Stop → ℕ → Trace
slot_or_stop [] found stop links = at_once (Ok (found, links))
slot_or_stop (part ∷ rest) found stop links = at_once (Err stop)

-- as `walk` goes, with the name of the link that it follows
abbrev pub walk_traced : RootedTree → Last → ℕ → (Spot → List ℕ → List Part → Trace) → ℕ → Way → List Part → Trace
walk_traced t mode links follow dir way [] = at_once (Ok (Whole dir way, links))
walk_traced t mode links follow dir way (parts.Dot ∷ rest) = walk_traced t mode links follow dir Dot rest
walk_traced t mode links follow dir way (parts.DotDot ∷ rest) = walk_traced t mode links follow (above_in t dir) DotDot rest
walk_traced t mode links follow dir way (parts.Name name ∷ rest) = elim (standing_at t.tree dir name) [
  | Directory x ↦ walk_traced t mode links follow x (Named dir name) rest
  | Linked x target ↦ if is_followed mode rest then follow (dir, name) target rest else at_once (Ok (Slot dir name (Some x), links))
  | Plain x ↦ slot_or_stop rest (Slot dir name (Some x)) (NoDirectory (dir, name)) links
  | Nothing ↦ slot_or_stop rest (Slot dir name None) (NoEntry (dir, name)) links
]

-- as `resolve_parts` goes
abbrev pub trace_parts : ℕ → RootedTree → Last → ℕ → Way → List Part → Trace
trace_parts zero t mode dir way parts = walk_traced t mode 0 (λ spot target rest. at_once (Err (LinkBeyond spot))) dir way parts
trace_parts (suc links) t mode dir way parts =
    walk_traced t mode (suc links)
    (λ spot target rest. after_links (spot ∷ []) (trace_parts links t mode (start_of t.root target spot.0) Top (parts_of ending.Dot target
    ++ rest))) dir way parts

-- the outcome, by its errno
abbrev pub resolved_as : Result (Found × ℕ) Stop → Resolved
resolved_as (Ok found) = Ok found
resolved_as (Err stop) = Err (stop_errno stop)

-- why a path names nothing: its text, a directory to start at that was removed, or where it stops
abbrev pub path_errno : PathFault → Errno
path_errno (InText fault) = text_errno fault
path_errno NoStart = ENOENT
path_errno (Stops stop) = stop_errno stop

-- the links that a path followed, and what it names or why it names nothing
pub record PathTrace : Type 0 where
  pub links : List Spot
  pub outcome : Result Found PathFault

abbrev pub named_or_stopped : Result (Found × ℕ) Stop → Result Found PathFault
named_or_stopped (Ok found) = Ok found.0
named_or_stopped (Err stop) = Err (Stops stop)

abbrev pub fails_in : PathFault → PathTrace
fails_in fault = record { links = []; outcome = Err fault }

abbrev pub as_path_trace : Trace → PathTrace
as_path_trace trace = record { links = trace.links; outcome = named_or_stopped trace.outcome }

-- the trace of a text without fault, which computes each link's further trace twice and so is unfolded by hand
unfoldable pub trace_from : Tree → Start → Ending → List ℕ → Last → PathTrace
trace_from t from ending text mode =
    if not (starts t from text) then fails_in NoStart
    else as_path_trace (trace_parts most_links (seen_from t from) mode (start_of from.root text from.dir) Top (parts_of ending text))

-- and of any text
abbrev pub trace_of_text : Tree → Start → Ending → List ℕ → Last → PathTrace
trace_of_text t from ending text mode = after (text_fault text)
  where
    after : Option PathTextFault → PathTrace
    after (Some fault) = fails_in (InText fault)
    after None = trace_from t from ending text mode

-- what a path named, or the errno of why it named nothing
abbrev pub object_or_errno : Result Found PathFault → Result Found Errno
object_or_errno (Ok found) = Ok found
object_or_errno (Err fault) = Err (path_errno fault)
