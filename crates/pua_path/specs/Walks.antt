-- A resolution on its way: what stands at a name, and how one part leads on to the next.
use Rattle.std.specs.Prelude.{◌≡◌, nat_lt, ℕ, ◌+◌, ◌*◌, ◌≤◌, Bool, if◌then◌else◌, List, [], ◌∷◌, length, Option, Some, None, Result, Ok}
use Rattle.std.specs.Prelude.{Err, IsTrue}
use Rattle.pua_tree.specs.Tree.{Tree, Spot, is_dir}
use Rattle.pua_path.specs.Paths.{parts_of}
use Rattle.pua_path.specs.Remaining.{Remaining}
use Rattle.pua_path.specs.Resolution.{Resolved, rooted, Standing, Directory, Linked, Plain, Nothing, resolve_parts}
use Rattle.pua_path.specs.Bounds.{most_parts}
use Rattle.pua_path.specs.Traces.{Trace, at_once, after_links, trace_parts}
use Rattle.pua_path.specs.declared.errno.Errno.{Errno}
use Rattle.pua_path.specs.declared.errno.Errno.TheVariants.{ENOENT, ENOTDIR}
use Rattle.pua_path.specs.declared.text.Ending.TheVariants.{Dot}
use Rattle.pua_path.specs.declared.found.Part.{Part}
use Rattle.pua_path.specs.declared.found.Last.{Last}
use Rattle.pua_path.specs.declared.found.Found.{Found}
use Rattle.pua_path.specs.declared.found.Found.TheVariants.{Whole, Slot}
use Rattle.pua_path.specs.declared.found.Way.{Way}
use Rattle.pua_path.specs.declared.found.Way.TheVariants as ways
use Rattle.pua_path.specs.declared.lent.LentFound.{LentFound}
use Rattle.pua_path.specs.declared.lent.LentFound.TheVariants as lent
use Rattle.pua_path.specs.declared.lent.LentWay.{LentWay}
use Rattle.pua_path.specs.declared.lent.LentWay.TheVariants as lent_ways
use Rattle.pua_path.specs.declared.resolver.Nameless.{Nameless}
use Rattle.pua_path.specs.declared.resolver.Nameless.TheVariants as nameless
use Rattle.pua_path.specs.declared.resolver.Resolving.{Resolving}
use Rattle.pua_path.specs.declared.resolver.Standing as seen
use Rattle.pua_path.specs.declared.resolver.Standing.TheVariants as see
use Rattle.pua_path.specs.declared.traced.Stop.{Stop}
use Rattle.pua_path.specs.declared.traced.Stop.TheVariants.{NoEntry, NoDirectory, LinkBeyond}

-- what was seen at a name
abbrev pub standing_seen : seen.Standing → Standing
standing_seen (see.Directory x) = Directory x
standing_seen (see.Linked x target) = Linked x target.bytes.now
standing_seen (see.Plain x) = Plain x
standing_seen see.Nothing = Nothing

-- a link's target in a tree: its parts are few
abbrev pub HasFewParts : Tree → List ℕ → Type 0
HasFewParts t target = length (parts_of Dot target) ≤ most_parts t

-- what was seen in a tree: a directory that lives, or a link's target there
abbrev pub IsSeenIn : Tree → seen.Standing → Type 0
IsSeenIn t (see.Directory x) = IsTrue (is_dir t x)
IsSeenIn t (see.Linked x target) = HasFewParts t target.bytes.now
IsSeenIn t (see.Plain x) = Unit {0}
IsSeenIn t see.Nothing = Unit {0}

-- how a directory was named by no name
abbrev pub way_of : Nameless → Way
way_of nameless.Dot = ways.Dot
way_of nameless.DotDot = ways.DotDot
way_of nameless.Top = ways.Top

-- how a directory was named, and what a path names, the name being lent
abbrev pub way_seen : LentWay → Way
way_seen (lent_ways.Named parent name) = ways.Named parent name.bytes.now
way_seen lent_ways.Dot = ways.Dot
way_seen lent_ways.DotDot = ways.DotDot
way_seen lent_ways.Top = ways.Top

abbrev pub found_seen : LentFound → Found
found_seen (lent.Whole dir way) = Whole dir (way_seen way)
found_seen (lent.Slot dir name x) = Slot dir name.bytes.now x

abbrev pub founds_seen : Result LentFound Errno → Result Found Errno
founds_seen (Ok found) = Ok (found_seen found)
founds_seen (Err errno) = Err errno

-- the same with the links that are left
abbrev pub resolved_seen : Result (LentFound × ℕ) Errno → Resolved
resolved_seen (Ok (found, left)) = Ok (found_seen found, left)
resolved_seen (Err errno) = Err errno

abbrev pub all_found : Result (Option LentFound) Errno → Result (Option Found) Errno
all_found (Ok None) = Ok None
all_found (Ok (Some found)) = Ok (Some (found_seen found))
all_found (Err errno) = Err errno

-- a part ends the resolution, or leaves it to the further parts
abbrev pub goes_on : Result (Option Found) Errno → ℕ → Resolved → Resolved
goes_on (Ok None) left further = further
goes_on (Ok (Some found)) left further = Ok (found, left)
goes_on (Err errno) left further = Err errno

-- the stop at a name, by its errno
abbrev pub stop_at : Spot → Errno → Stop
stop_at spot ENOENT = NoEntry spot
stop_at spot ENOTDIR = NoDirectory spot
stop_at spot _ = LinkBeyond spot

-- the same of a trace: a part at this name follows a link or none, and ends the trace or leaves it to the further parts
abbrev pub traced_on : Spot → Bool → Result (Option Found) Errno → ℕ → Trace → Trace
traced_on spot linked (Ok None) left further = after_links (if linked then spot ∷ [] else []) further
traced_on spot linked (Ok (Some found)) left further = at_once (Ok (found, left))
traced_on spot linked (Err errno) left further = at_once (Err (stop_at spot errno))

-- where a resolution on its way comes to: by the parts that it has left, and with one more before them
abbrev pub walk_end : Tree → Last → Resolving → Resolved
walk_end t mode walk = resolve_parts walk.rest.left (rooted t walk.root) mode walk.here (way_of walk.way) walk.rest.parts

abbrev pub walk_end_by : Part → Tree → Last → Resolving → Resolved
walk_end_by part t mode walk = resolve_parts walk.rest.left (rooted t walk.root) mode walk.here (way_of walk.way) (part ∷ walk.rest.parts)

-- the same of its trace
abbrev pub walk_trace : Tree → Last → Resolving → Trace
walk_trace t mode walk = trace_parts walk.rest.left (rooted t walk.root) mode walk.here (way_of walk.way) walk.rest.parts

abbrev pub walk_trace_by : Part → Tree → Last → Resolving → Trace
walk_trace_by part t mode walk = trace_parts walk.rest.left (rooted t walk.root) mode walk.here (way_of walk.way) (part ∷ walk.rest.parts)

-- one part leads from a walk to an answer, or to the walk that is left
abbrev pub LeadsOn : Tree → Last → Part → Resolving → Result (Option LentFound) Errno → Resolving → Type 0
LeadsOn t mode part old answer new = walk_end_by part t mode old ≡ goes_on (all_found answer) new.rest.left (walk_end t mode new)

-- and its trace so, where these bytes are the part's name
abbrev pub TracesOn : Tree → Last → Part → List ℕ → Resolving → Result (Option LentFound) Errno → Resolving → Type 0
TracesOn t mode part name old answer new =
    walk_trace_by part t mode old ≡ traced_on (old.here, name) (nat_lt new.rest.left old.rest.left) (all_found answer) new.rest.left
    (walk_trace t mode new)

-- the parts that are left, and those that links can still add
abbrev pub potential : Tree → Remaining → ℕ
potential t rest = length rest.parts + most_parts t * rest.left

abbrev pub potential_of : Tree → Resolving → ℕ
potential_of t walk = potential t walk.rest
