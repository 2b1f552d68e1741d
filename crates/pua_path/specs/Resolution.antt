-- What a path names in a tree.
use Rattle.std.specs.Prelude.{ℕ, zero, suc, ◌-◌, Bool, true, false, not, ◌&&◌, ◌||◌, ◌==◌, if◌then◌else◌, List, [], ◌∷◌, ◌++◌, Option, Some, None}
use Rattle.std.specs.Prelude.{Result, Ok, Err, unwrap_or}
use Rattle.pua_tree.specs.Tree.{Tree, Node, look, node_at, is_dir, parent}
use Rattle.pua_tree.specs.Steps.{◌>>=◌}
pub use Rattle.pua_path.specs.Limits.{most_links}
use Rattle.pua_path.specs.Paths.{parts_of, is_absolute, path_fault}
use Rattle.pua_tree.specs.declared.node.Kind.{Kind}
use Rattle.pua_tree.specs.declared.node.Kind.TheVariants as kinds
use Rattle.pua_path.specs.declared.errno.Errno.{Errno}
use Rattle.pua_path.specs.declared.errno.Errno.TheVariants.{ENOENT, ENOTDIR, ELOOP}
use Rattle.pua_path.specs.declared.text.Ending.{Ending}
use Rattle.pua_path.specs.declared.text.Ending.TheVariants as ending
use Rattle.pua_path.specs.declared.found.Part.{Part}
use Rattle.pua_path.specs.declared.found.Part.TheVariants as parts
use Rattle.pua_path.specs.declared.found.Start.{Start}
use Rattle.pua_path.specs.declared.found.Last.{Last}
use Rattle.pua_path.specs.declared.found.Last.TheVariants.{Followed, Kept}
use Rattle.pua_path.specs.declared.found.Way.{Way}
use Rattle.pua_path.specs.declared.found.Way.TheVariants.{Named, Dot, DotDot, Top}
use Rattle.pua_path.specs.declared.found.Found.{Found}
use Rattle.pua_path.specs.declared.found.Found.TheVariants.{Whole, Slot}

-- what was found, and how many links may still be followed
abbrev pub Resolved : Type 0
Resolved = Result (Found × ℕ) Errno

-- a tree, and the directory in it where a text that begins with a slash starts
pub record RootedTree : Type 0 where
  pub tree : Tree
  pub root : ℕ

abbrev pub rooted : Tree → ℕ → RootedTree
rooted t root = record { tree = t; root = root }

-- the directory above a directory; the root is above itself, and node 0 is above what has no parent
abbrev pub above_in : RootedTree → ℕ → ℕ
above_in t dir = if not (t.root == 0) && (dir == t.root) then t.root else unwrap_or (parent t.tree dir) 0

-- what stands at a name
pub data Standing : Type 0 where
  Directory : ℕ → Standing
  Linked : ℕ → List ℕ → Standing
  Plain : ℕ → Standing
  Nothing : Standing

abbrev pub standing_of : ℕ → Option Node → Standing
standing_of x None = Nothing
standing_of x (Some node) = by_kind node.kind
  where
    by_kind : Kind → Standing
    by_kind kinds.Dir = Directory x
    by_kind kinds.Link = Linked x (unwrap_or node.target [])
    by_kind _ = Plain x

abbrev pub standing_at : Tree → ℕ → List ℕ → Standing
standing_at t dir name = standing_in (look t dir name)
  where
    standing_in : Option ℕ → Standing
    standing_in None = Nothing
    standing_in (Some x) = standing_of x (node_at t x)

-- a link is followed by the call's rule, and before any further part
abbrev pub is_followed : Last → List Part → Bool
is_followed Followed rest = true
is_followed Kept [] = false
is_followed Kept (part ∷ rest) = true

-- what is no directory is found where no part is left
abbrev pub slot_or : List Part → Found → Errno → ℕ → Resolved
slot_or [] found errno links = Ok (found, links)
slot_or (part ∷ rest) found errno links = Err errno

-- the parts one after another, up to the first link that is followed: `follow` tells the rest from its directory, target and further parts
abbrev pub walk : RootedTree → Last → ℕ → (ℕ → List ℕ → List Part → Resolved) → ℕ → Way → List Part → Resolved
walk t mode links follow dir way [] = Ok (Whole dir way, links)
walk t mode links follow dir way (parts.Dot ∷ rest) = walk t mode links follow dir Dot rest
walk t mode links follow dir way (parts.DotDot ∷ rest) = walk t mode links follow (above_in t dir) DotDot rest
walk t mode links follow dir way (parts.Name name ∷ rest) = elim (standing_at t.tree dir name) [
  | Directory x ↦ walk t mode links follow x (Named dir name) rest
  | Linked x target ↦ if is_followed mode rest then follow dir target rest else Ok (Slot dir name (Some x), links)
  | Plain x ↦ slot_or rest (Slot dir name (Some x)) ENOTDIR links
  | Nothing ↦ slot_or rest (Slot dir name None) ENOENT links
]

-- the root, or the directory that the text is relative to
abbrev pub start_of : ℕ → List ℕ → ℕ → ℕ
start_of root text dir = if is_absolute text then root else dir

-- what parts name from a directory, while so many links may be followed; a link's target takes its place in front of the rest
abbrev pub resolve_parts : ℕ → RootedTree → Last → ℕ → Way → List Part → Resolved
resolve_parts zero t mode dir way parts = walk t mode 0 (λ from target rest. Err ELOOP) dir way parts
resolve_parts (suc links) t mode dir way parts =
    walk t mode (suc links)
    (λ from target rest. resolve_parts links t mode (start_of t.root target from) Top (parts_of ending.Dot target ++ rest)) dir way parts

-- from this directory, where the root is node 0
abbrev pub from_top : ℕ → Start
from_top dir = record { root = 0; dir = dir }

-- a root that was not removed; node 0 never is
abbrev pub has_root : Tree → ℕ → Bool
has_root t root = (root == 0) || is_dir t root

-- the directory where a text starts was not removed
abbrev pub starts : Tree → Start → List ℕ → Bool
starts t from text = if is_absolute text then has_root t from.root else is_dir t from.dir

-- the tree as paths from there see it. Where the root was removed, a link whose target begins with a slash leads on from node 0
abbrev pub seen_from : Tree → Start → RootedTree
seen_from t from = rooted t (if has_root t from.root then from.root else 0)

-- what a text without fault names from a root and a directory, of which it needs the one where it starts to be there
abbrev pub resolution : Tree → Start → Ending → List ℕ → Last → Result Found Errno
resolution t from ending text mode =
    if not (starts t from text) then Err ENOENT
    else (resolve_parts most_links (seen_from t from) mode (start_of from.root text from.dir) Top (parts_of ending text)
    >>= λ found. Ok found.0)

-- the same after the text's own faults
abbrev pub resolution_of_text : Tree → Start → Ending → List ℕ → Last → Result Found Errno
resolution_of_text t from ending text mode = after (path_fault text)
  where
    after : Option Errno → Result Found Errno
    after (Some errno) = Err errno
    after None = resolution t from ending text mode

-- the directory found and the links followed by then
abbrev pub dir_with_links : Found × ℕ → Result (ℕ × ℕ) Errno
dir_with_links (Whole dir way, links) = Ok (dir, most_links - links)
dir_with_links (Slot dir name _, links) = Err ENOTDIR

-- one part that another follows: the directory to which it leads, and the links followed by then
abbrev pub step : RootedTree → ℕ → ℕ → Part → Result (ℕ × ℕ) Errno
step t dir used part = resolve_parts (most_links - used) t Followed dir Top (part ∷ parts.Dot ∷ []) >>= dir_with_links

-- the last part
abbrev pub last : RootedTree → ℕ → ℕ → Part → Last → Result Found Errno
last t dir used part mode = resolve_parts (most_links - used) t mode dir Top (part ∷ []) >>= λ found. Ok found.0

-- what was found, and the links followed by then
abbrev pub found_with_links : Found × ℕ → Result (Found × ℕ) Errno
found_with_links (found, left) = Ok (found, most_links - left)

-- the last part, followed, where no link was followed before it
abbrev pub follow : RootedTree → ℕ → Part → Result (Found × ℕ) Errno
follow t dir part = resolve_parts most_links t Followed dir Top (part ∷ []) >>= found_with_links
