-- Worked rows on lists for ever that are cut at a root, in the tree of the rows through execs.
use Rattle.std.specs.Prelude.{◌≡◌, ◌+◌, ℕ, List, [], ◌∷◌, ◌++◌, map, Option, Some, None, codes, refl}
use Rattle.pua_tree.specs.Tree.{Tree}
use Rattle.pua_tree.specs.declared.node.Kind.{Kind}
use Rattle.pua_tree.specs.declared.node.Kind.TheVariants.{Dir, File}
use Rattle.pua_calls.specs.Promises.{rpath, cpath, exec, id, reading, creating, executing}
use Rattle.pua_calls.specs.Calls.{standard_table}
use Rattle.pua_policy.specs.States.{ProcessState}
use Rattle.pua_ever.specs.Ever.{ever_line_text}
use Rattle.pua_ever.specs.ShownForEver.{execs_shown, shown_lasting}
use Rattle.pua_ever.specs.declared.lasting_list.ExecBound.TheVariants as told
use Rattle.pua_policy.specs.declared.place.Place.TheVariants as place
use Rattle.pua_ever.specs.ThroughExamples.{directory, file, handing_none, program, started_tree, starting, veils_with}

abbrev pub lines_shown : ProcessState → List (List ℕ)
lines_shown h = map (ever_line_text started_tree) (shown_lasting started_tree standard_table h)

-- with this root, and this working directory
abbrev pub rooted_at : ℕ → ℕ → ProcessState → ProcessState
rooted_at root dir h = record h { start = record { root = root; dir = dir } }

-- who makes names, and whose root is `/out`
abbrev pub makes : ℕ → ProcessState
makes dir = rooted_at 2 dir (handing_none cpath)

-- a node is open, which is of this kind
abbrev pub with_open : ℕ → Kind → ProcessState → ProcessState
with_open x kind h = record h { files = (5, record { node = x; kind = kind; letters = reading }) ∷ [] }

abbrev pub other_out_and_new : List (List ℕ)
other_out_and_new =
    codes "other /out mkdir,symlink"
    ∷ codes "dir new rmdir"
    ∷ codes "other new mkdir,symlink"
    ∷ codes "link new unlink"
    ∷ []

abbrev pub below_out : List (List ℕ)
below_out = codes "dir /out rmdir" ∷ other_out_and_new

abbrev pub in_and_dir_out : List (List ℕ)
in_and_dir_out =
    codes "dir /in rmdir"
    ∷ codes "other /in mkdir,symlink"
    ∷ codes "file /in/s unlink"
    ∷ codes "dir /out rmdir"
    ∷ []

abbrev pub everywhere : List (List ℕ)
everywhere = in_and_dir_out ++ other_out_and_new

-- the name of the root has a veil of its own
abbrev pub naming_root : ℕ → ProcessState
naming_root dir = record (makes dir) { veils = (place.Slot 0 (codes "out"), creating) ∷ veils_with executing }

-- who starts a program, which holds what is given; the program stands outside
abbrev pub starts_outside : ℕ → ProcessState
starts_outside given = rooted_at 2 2 (starting executing (rpath + exec) given)

-- the same tree with a program in `/out`, which has rxc
abbrev pub rooted_tree : Tree
rooted_tree = record started_tree {
  rows = ((0, codes "in"), 1) ∷ ((0, codes "out"), 2) ∷ ((0, codes "p"), 4) ∷ ((1, codes "s"), 3) ∷ ((2, codes "q"), 5) ∷ [];
  nodes = (0, directory) ∷ (1, directory) ∷ (2, directory) ∷ (3, file) ∷ (4, program) ∷ (5, program) ∷ [];
  next = 6;
}

abbrev pub lines_rooted : ProcessState → List (List ℕ)
lines_rooted h = map (ever_line_text rooted_tree) (shown_lasting rooted_tree standard_table h)

-- who can start that, which holds what is given
abbrev pub starts_inside : Option ℕ → ProcessState
starts_inside given = record (starts_outside 0) {
  execpromises = given;
  veils = (place.Dir 1, creating) ∷ (place.Dir 2, reading + executing + creating) ∷ (place.Slot 0 (codes "p"), executing) ∷ [];
}

abbrev pub started_below : List (List ℕ)
started_below =
    codes "dir /out stat,lstat,open-r,rmdir,chdir"
    ∷ codes "other /out mkdir,symlink"
    ∷ codes "prog /out/q stat,lstat,open-r,unlink,exec"
    ∷ []

abbrev pub started_new : List (List ℕ)
started_new =
    codes "dir new stat,lstat,open-r,rmdir,chdir"
    ∷ codes "other new mkdir,symlink"
    ∷ codes "link new lstat,readlink,unlink"
    ∷ []

pub record EnclosedRows : Type 0 where
  -- what is at or below the root of who lacks `id`, and what is made there
  pub cut : lines_shown (makes 2) ≡ below_out
  -- all of it, if the root can be changed, or the working directory is outside
  pub changes_root : lines_shown (rooted_at 2 2 (handing_none (cpath + id))) ≡ everywhere
  pub works_outside : lines_shown (makes 0) ≡ everywhere
  -- or a directory is open that is outside; one that is inside and a file lead nowhere else
  pub open_outside : lines_shown (with_open 1 Dir (makes 2)) ≡ everywhere
  pub open_inside : lines_shown (with_open 2 Dir (makes 2)) ≡ below_out
  pub open_file : lines_shown (with_open 3 File (makes 2)) ≡ below_out
  -- a working directory that was removed leads nowhere, and a root that was removed encloses nothing
  pub works_nowhere : lines_shown (makes 9) ≡ below_out
  pub no_root : lines_shown (rooted_at 9 2 (handing_none cpath)) ≡ everywhere
  -- at node 0 nothing is left out
  pub whole_tree : lines_shown (rooted_at 0 2 (handing_none cpath)) ≡ everywhere
  -- a veil on the name of the root is outside of it, with that name
  pub own_name : lines_shown (naming_root 2) ≡ below_out
  pub own_name_whole : lines_shown (naming_root 0) ≡ in_and_dir_out ++ codes "missing /out mkdir,symlink" ∷ other_out_and_new
  -- what stands outside is never started
  pub starts_none : lines_shown (starts_outside cpath) ≡ codes "dir /out stat,lstat,open-r,chdir" ∷ []
  pub told_none : execs_shown started_tree standard_table (starts_outside cpath) ≡ told.Never
  -- what is started inside may change no root either
  pub starts : lines_rooted (starts_inside (Some cpath)) ≡ started_below ++ started_new
  pub told_bounded : execs_shown rooted_tree standard_table (starts_inside (Some cpath)) ≡ told.Bounded
  pub starts_changing : lines_rooted (starts_inside (Some (cpath + id))) ≡
      codes "dir /in rmdir"
      ∷ codes "other /in mkdir,symlink"
      ∷ codes "file /in/s stat,lstat,open-r,unlink"
      ∷ started_below ++ codes "prog /p exec" ∷ started_new
  -- what is started may do anything where nothing bounds it: the list holds until then
  pub starts_any : lines_rooted (starts_inside None) ≡
      codes "dir /out stat,lstat,open-r,chdir" ∷ codes "prog /out/q stat,lstat,open-r,exec" ∷ []
  pub told_open : execs_shown rooted_tree standard_table (starts_inside None) ≡ told.Open

pub enclosed_rows : EnclosedRows
enclosed_rows = record {
  cut = refl;
  changes_root = refl;
  works_outside = refl;
  open_outside = refl;
  open_inside = refl;
  open_file = refl;
  works_nowhere = refl;
  no_root = refl;
  whole_tree = refl;
  own_name = refl;
  own_name_whole = refl;
  starts_none = refl;
  told_none = refl;
  starts = refl;
  told_bounded = refl;
  starts_changing = refl;
  starts_any = refl;
  told_open = refl;
}
