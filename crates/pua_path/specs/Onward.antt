-- What one part leads to.
use Rattle.std.specs.Prelude.{ℕ, zero, suc, Bool, true, not, ◌++◌, if◌then◌else◌, List, Some, None, Result, Ok, Err}
use Rattle.std.specs.Prelude.{IsTrue}
use Rattle.pua_tree.specs.Names.{is_name}
use Rattle.pua_tree.specs.Tree.{Tree}
use Rattle.pua_tree.specs.Steps.{◌>>=◌}
use Rattle.pua_path.specs.Paths.{parts_of}
use Rattle.pua_path.specs.Resolution.{Resolved, RootedTree, above_in, Standing, Directory, Linked, Plain, Nothing, standing_at}
use Rattle.pua_path.specs.Resolution.{start_of, resolve_parts}
use Rattle.pua_path.specs.Walks.{HasFewParts, found_seen, way_of}
use Rattle.pua_path.specs.declared.errno.Errno.{Errno}
use Rattle.pua_path.specs.declared.errno.Errno.TheVariants.{ENOENT, ENOTDIR, ELOOP}
use Rattle.pua_path.specs.declared.text.Ending.TheVariants.{Dot}
use Rattle.pua_path.specs.declared.found.Part.{Part}
use Rattle.pua_path.specs.declared.found.Part.TheVariants as parts
use Rattle.pua_path.specs.declared.found.Last.{Last}
use Rattle.pua_path.specs.declared.found.Last.TheVariants.{Followed, Kept}
use Rattle.pua_path.specs.declared.found.Found.{Found}
use Rattle.pua_path.specs.declared.found.Found.TheVariants.{Whole, Slot}
use Rattle.pua_path.specs.declared.found.Way.{Way}
use Rattle.pua_path.specs.declared.found.Way.TheVariants as ways
use Rattle.pua_path.specs.declared.resolver.Onward as declared
use Rattle.pua_path.specs.declared.resolver.Onward.TheVariants as onward

-- to a directory, which was named so; to a link that is followed, by its target; to what the path names; or no further
pub data Onward : Type 0 where
  Goes : ℕ → Way → Onward
  Follows : List ℕ → Onward
  Ends : Found → Onward
  Fails : Errno → Onward

-- a link is followed by the call's rule, and before any further part
abbrev pub is_followed_at : Last → Bool → Bool
is_followed_at Followed last = true
is_followed_at Kept last = not last

-- what is no directory is found where no part is left
abbrev pub ends_or : Bool → Found → Errno → Onward
ends_or last found errno = if last then Ends found else Fails errno

-- by what stands at a name; how a directory was named is asked where no part is left alone
abbrev pub onward_at : Last → ℕ → List ℕ → Bool → Standing → Onward
onward_at mode dir name last (Directory x) = if last then Ends (Whole x (ways.Named dir name)) else Goes x ways.Top
onward_at mode dir name last (Linked x target) = if is_followed_at mode last then Follows target else Ends (Slot dir name (Some x))
onward_at mode dir name last (Plain x) = ends_or last (Slot dir name (Some x)) ENOTDIR
onward_at mode dir name last Nothing = ends_or last (Slot dir name None) ENOENT

-- by a part
abbrev pub onward_by : RootedTree → Last → ℕ → Part → Bool → Onward
onward_by t mode dir parts.Dot last = Goes dir ways.Dot
onward_by t mode dir parts.DotDot last = Goes (above_in t dir) ways.DotDot
onward_by t mode dir (parts.Name name) last = onward_at mode dir name last (standing_at t.tree dir name)

-- what comes of following a link, with so many links left before it
abbrev pub followed : ℕ → RootedTree → Last → ℕ → List ℕ → List Part → Resolved
followed zero t mode from target rest = Err ELOOP
followed (suc links) t mode from target rest =
    resolve_parts links t mode (start_of t.root target from) ways.Top (parts_of Dot target ++ rest)

-- what was found, apart from the links left
abbrev pub found_alone : Resolved → Result Found Errno
found_alone resolved = resolved >>= λ found. Ok found.0

-- the same of a part, its names and targets lent
abbrev pub onward_seen : declared.Onward → Onward
onward_seen (onward.Directory dir way) = Goes dir (way_of way)
onward_seen (onward.Link target) = Follows target.bytes.now
onward_seen (onward.Found found) = Ends (found_seen found)
onward_seen (onward.Nowhere errno) = Fails errno

-- a link's target has no more parts than the tree's longest
abbrev pub FollowsFew : Tree → declared.Onward → Type 0
FollowsFew t (onward.Link target) = HasFewParts t target.bytes.now
FollowsFew t _ = Unit {0}

-- bytes that lead to no directory, or by a link, are a name
abbrev pub IsByName : List ℕ → declared.Onward → Type 0
IsByName name (onward.Link target) = IsTrue (is_name name)
IsByName name (onward.Nowhere errno) = IsTrue (is_name name)
IsByName name _ = Unit {0}
