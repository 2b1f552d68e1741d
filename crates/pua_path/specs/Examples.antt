-- Worked rows on resolution over the example tree, and paths that meet many links.
use Rattle.std.specs.Prelude.{◌≡◌, false, [], ◌∷◌, Some, None, Ok, Err, codes, refl}
use Rattle.pua_tree.specs.Tree.{Tree, empty_tree}
use Rattle.pua_tree.specs.Examples.{example_tree}
use Rattle.pua_tree.specs.declared.node.Kind.TheVariants.{Dir, File, Link}
use Rattle.pua_path.specs.Resolution.{from_top, rooted, resolution, step, last, follow}
use Rattle.pua_path.specs.Traces.{trace_from, trace_of_text}
use Rattle.pua_path.specs.declared.errno.Errno.TheVariants.{ENOENT, ENOTDIR, ELOOP}
use Rattle.pua_path.specs.declared.text.Ending.TheVariants as ending
use Rattle.pua_path.specs.declared.found.Part.TheVariants as part
use Rattle.pua_path.specs.declared.found.Last.TheVariants.{Followed, Kept}
use Rattle.pua_path.specs.declared.found.Way.TheVariants.{Named, Dot, DotDot, Top}
use Rattle.pua_path.specs.declared.found.Found.TheVariants.{Whole, Slot}
use Rattle.pua_path.specs.declared.traced.Stop.TheVariants.{NoEntry, NoDirectory, LinkBeyond}
use Rattle.pua_path.specs.declared.traced.PathTextFault.TheVariants.{EmptyText, NulInText}
use Rattle.pua_path.specs.declared.traced.PathFault.TheVariants.{InText, NoStart, Stops}

-- a file, and a link to it whose target ends in a slash
abbrev pub tree_of_slash : Tree
tree_of_slash = record empty_tree {
  rows = ((0, codes "f"), 1) ∷ ((0, codes "l"), 2) ∷ [];
  nodes = (0, record { kind = Dir; target = None; mount = false }) ∷ (1, record { kind = File; target = None; mount = false }) ∷ (
    2,
    record { kind = Link; target = Some (codes "f/"); mount = false },
  ) ∷ [];
  next = 3;
}

-- a directory with a link whose target begins with a slash, and a file beside the directory
abbrev pub tree_of_root : Tree
tree_of_root = record empty_tree {
  rows = ((0, codes "d"), 1) ∷ ((0, codes "f"), 3) ∷ ((1, codes "l"), 2) ∷ [];
  nodes = (0, record { kind = Dir; target = None; mount = false }) ∷ (1, record { kind = Dir; target = None; mount = false }) ∷ (
    2,
    record { kind = Link; target = Some (codes "/f"); mount = false },
  ) ∷ (3, record { kind = File; target = None; mount = false }) ∷ [];
  next = 4;
}

-- what texts name in the example tree, from the root
pub record ResolutionRows : Type 0 where
  pub root : resolution example_tree (from_top 0) ending.Dot (codes "/") Followed ≡ Ok (Whole 0 Top)
  pub followed_link : resolution example_tree (from_top 0) ending.Dot (codes "/t") Followed ≡ Ok (Whole 3 (Named 0 (codes "tmp")))
  pub kept_link : resolution example_tree (from_top 0) ending.Dot (codes "/t") Kept ≡ Ok (Slot 0 (codes "t") (Some 4))
  pub slash_follows : resolution example_tree (from_top 0) ending.Dot (codes "/t/") Kept ≡ Ok (Whole 3 Dot)
  pub dropped_slash : resolution example_tree (from_top 0) ending.Dropped (codes "/t/") Kept ≡ Ok (Slot 0 (codes "t") (Some 4))
  pub parent_of_target : resolution example_tree (from_top 0) ending.Dot (codes "/tmp/up/..") Followed ≡ Ok (Whole 0 DotDot)
  pub missing : resolution example_tree (from_top 0) ending.Dot (codes "/tmp/up/x") Followed ≡ Ok (Slot 1 (codes "x") None)
  pub through_file : resolution example_tree (from_top 0) ending.Dot (codes "/etc/passwd/x") Followed ≡ Err ENOTDIR
  pub through_missing : resolution example_tree (from_top 0) ending.Dot (codes "/no/x") Followed ≡ Err ENOENT
  pub endless : resolution example_tree (from_top 0) ending.Dot (codes "/tmp/self") Followed ≡ Err ELOOP
  pub endless_kept : resolution example_tree (from_top 0) ending.Dot (codes "/tmp/self") Kept ≡ Ok (Slot 3 (codes "self") (Some 6))
  -- a slash at the end of a link's target asks for a directory, whatever the path's own ending
  pub slash_of_target : resolution tree_of_slash (from_top 0) ending.Dropped (codes "/l") Followed ≡ Err ENOTDIR

-- one part after another
pub record StepRows : Type 0 where
  pub first : step (rooted example_tree 0) 0 0 (part.Name (codes "t")) ≡ Ok (3, 1)
  pub second : step (rooted example_tree 0) 3 1 (part.Name (codes "up")) ≡ Ok (1, 2)
  pub third : last (rooted example_tree 0) 1 2 (part.Name (codes "passwd")) Followed ≡ Ok (Slot 1 (codes "passwd") (Some 2))
  -- the links that were followed before count
  pub last_link : last (rooted example_tree 0) 0 31 (part.Name (codes "t")) Followed ≡ Ok (Whole 3 (Named 0 (codes "tmp")))
  pub link_beyond : last (rooted example_tree 0) 0 32 (part.Name (codes "t")) Followed ≡ Err ELOOP
  pub followed : follow (rooted example_tree 0) 0 (part.Name (codes "t")) ≡ Ok (Whole 3 (Named 0 (codes "tmp")), 1)
  -- node 0 is above what is no directory, be it a program's node or none
  pub above_program : follow (rooted example_tree 0) 7 part.DotDot ≡ Ok (Whole 0 DotDot, 0)
  pub above_nothing : follow (rooted example_tree 1) 9 part.DotDot ≡ Ok (Whole 0 DotDot, 0)

-- what paths name where the root is a directory of the tree
pub record RootRows : Type 0 where
  pub absolute : resolution example_tree (record { root = 1; dir = 0 }) ending.Dot (codes "/passwd") Followed
      ≡ Ok (Slot 1 (codes "passwd") (Some 2))
  -- the root is above itself
  pub above_root : resolution example_tree (record { root = 1; dir = 0 }) ending.Dot (codes "/../..") Followed ≡ Ok (Whole 1 DotDot)
  pub relative_above : resolution example_tree (record { root = 1; dir = 1 }) ending.Dot (codes "..") Followed ≡ Ok (Whole 1 DotDot)
  -- from outside of it a path climbs to the top, and comes in
  pub outside : resolution example_tree (record { root = 1; dir = 3 }) ending.Dot (codes "../etc/..") Followed ≡ Ok (Whole 1 DotDot)
  pub link_within : resolution example_tree (record { root = 3; dir = 3 }) ending.Dot (codes "/up") Followed ≡ Ok (Slot 3 (codes "etc") None)
  -- a link whose target begins with a slash starts at the root
  pub absolute_link : resolution tree_of_root (from_top 0) ending.Dot (codes "/d/l") Followed ≡ Ok (Slot 0 (codes "f") (Some 3))
  pub rooted_link : resolution tree_of_root (record { root = 1; dir = 0 }) ending.Dot (codes "d/l") Followed ≡ Ok (Slot 1 (codes "f") None)
  pub removed : resolution example_tree (record { root = 9; dir = 0 }) ending.Dot (codes "/tmp") Followed ≡ Err ENOENT
  pub removed_relative : resolution example_tree (record { root = 9; dir = 0 }) ending.Dot (codes "tmp") Followed
      ≡ Ok (Whole 3 (Named 0 (codes "tmp")))

-- how texts go, from the root and from elsewhere
pub record TraceRows : Type 0 where
  pub two_links : trace_of_text example_tree (from_top 0) ending.Dot (codes "/t/up/passwd") Followed
      ≡ record { links = (0, codes "t") ∷ (3, codes "up") ∷ []; outcome = Ok (Slot 1 (codes "passwd") (Some 2)) }
  pub kept : trace_of_text example_tree (from_top 0) ending.Dot (codes "/t") Kept ≡ record { links = []; outcome = Ok (Slot 0 (codes "t") (Some 4)) }
  pub through_file : trace_of_text example_tree (from_top 0) ending.Dot (codes "/tmp/up/passwd/x") Followed
      ≡ record { links = (3, codes "up") ∷ []; outcome = Err (Stops (NoDirectory (1, codes "passwd"))) }
  pub through_missing : trace_of_text example_tree (from_top 3) ending.Dot (codes "up/no/x") Followed
      ≡ record { links = (3, codes "up") ∷ []; outcome = Err (Stops (NoEntry (1, codes "no"))) }
  pub endless : (trace_of_text example_tree (from_top 0) ending.Dot (codes "/tmp/self") Followed).outcome ≡ Err (Stops (LinkBeyond (3, codes "self")))
  pub empty : trace_of_text example_tree (from_top 0) ending.Dot [] Followed ≡ record { links = []; outcome = Err (InText EmptyText) }
  pub nul : trace_of_text example_tree (from_top 0) ending.Dot (97 ∷ 0 ∷ []) Followed ≡ record { links = []; outcome = Err (InText NulInText) }
  pub removed : trace_of_text example_tree (from_top 9) ending.Dot (codes "x") Followed ≡ record { links = []; outcome = Err NoStart }

pub resolution_rows : ResolutionRows
resolution_rows = record {
  root = refl;
  followed_link = refl;
  kept_link = refl;
  slash_follows = refl;
  dropped_slash = refl;
  parent_of_target = refl;
  missing = refl;
  through_file = refl;
  through_missing = refl;
  endless = refl;
  endless_kept = refl;
  slash_of_target = refl;
}

pub step_rows : StepRows
step_rows = record {
  first = refl;
  second = refl;
  third = refl;
  last_link = refl;
  link_beyond = refl;
  followed = refl;
  above_program = refl;
  above_nothing = refl;
}

pub root_rows : RootRows
root_rows = record {
  absolute = refl;
  above_root = refl;
  relative_above = refl;
  outside = refl;
  link_within = refl;
  absolute_link = refl;
  rooted_link = refl;
  removed = refl;
  removed_relative = refl;
}

pub trace_rows : TraceRows
unfolding trace_from
trace_rows = record {
  two_links = refl;
  kept = refl;
  through_file = refl;
  through_missing = refl;
  endless = refl;
  empty = refl;
  nul = refl;
  removed = refl;
}
