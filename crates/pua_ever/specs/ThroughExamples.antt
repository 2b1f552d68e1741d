-- Worked rows on what can ever be touched through execs.
use Rattle.std.specs.Prelude.{◌≡◌, ◌+◌, ℕ, true, false, List, [], ◌∷◌, map, Some, None, codes, refl}
use Rattle.pua_tree.specs.Tree.{Tree, Node, empty_tree}
use Rattle.pua_tree.specs.declared.node.Kind.TheVariants.{Dir, File, Prog}
use Rattle.pua_calls.specs.Promises.{rpath, wpath, cpath, fattr, exec, proc, unveil, reading, writing, executing, creating}
use Rattle.pua_calls.specs.Calls.{CallTable, standard_table, openbsd_table}
use Rattle.pua_policy.specs.States.{ProcessState, new_process}
use Rattle.pua_policy.specs.declared.place.Place.{Place}
use Rattle.pua_policy.specs.declared.place.Place.TheVariants as place
use Rattle.pua_ever.specs.Ever.{ever, ever_line_text}
use Rattle.pua_ever.specs.Through.{ever_lasting, execs_of}
use Rattle.pua_ever.specs.declared.lasting_list.ExecBound.TheVariants as told

abbrev pub directory : Node
directory = record { kind = Dir; target = None; mount = false }

abbrev pub file : Node
file = record { kind = File; target = None; mount = false }

abbrev pub program : Node
program = record { kind = Prog; target = None; mount = false }

-- `/in` has c, `/out` has rc, and the program `/p` the letters
abbrev pub started_tree : Tree
started_tree = record empty_tree {
  rows = ((0, codes "in"), 1) ∷ ((0, codes "out"), 2) ∷ ((0, codes "p"), 4) ∷ ((1, codes "s"), 3) ∷ [];
  nodes = (0, directory) ∷ (1, directory) ∷ (2, directory) ∷ (3, file) ∷ (4, program) ∷ [];
  next = 5;
}

-- the veils, of which that of the program has these letters
abbrev pub veils_with : ℕ → List (Place × ℕ)
veils_with letters = (place.Dir 1, creating) ∷ (place.Dir 2, reading + creating) ∷ (place.Slot 0 (codes "p"), letters) ∷ []

abbrev pub starting : ℕ → ℕ → ℕ → ProcessState
starting letters held given = record new_process {
  promises = Some held;
  execpromises = Some given;
  veils = veils_with letters;
  locked = true;
}

-- who reads, and starts what moves
abbrev pub reads : ProcessState
reads = starting executing (rpath + exec + proc) cpath

abbrev pub lines_now : CallTable → ProcessState → List (List ℕ)
lines_now table h = map (ever_line_text started_tree) (ever started_tree table h)

abbrev pub lines_lasting : CallTable → ProcessState → List (List ℕ)
lines_lasting table h = map (ever_line_text started_tree) (ever_lasting started_tree table h)

abbrev pub alone : List (List ℕ)
alone = codes "dir /out stat,lstat,open-r,chdir" ∷ codes "prog /p exec" ∷ []

abbrev pub together : List (List ℕ)
together =
    codes "dir /in rmdir"
    ∷ codes "other /in mkdir,symlink"
    ∷ codes "file /in/s stat,lstat,open-r,unlink"
    ∷ codes "dir /out stat,lstat,open-r,rmdir,chdir"
    ∷ codes "other /out mkdir,symlink"
    ∷ codes "prog /p exec"
    ∷ codes "dir new stat,lstat,open-r,rmdir,chdir"
    ∷ codes "other new mkdir,symlink"
    ∷ codes "link new lstat,readlink,unlink"
    ∷ []

-- by OpenBSD's rules rename asks `r` of the old name, so nothing is moved out of `/in`
abbrev pub together_by_openbsd : List (List ℕ)
together_by_openbsd =
    codes "dir /in rmdir"
    ∷ codes "other /in mkdir,symlink"
    ∷ codes "file /in/s unlink"
    ∷ codes "dir /out stat,lstat,open-r,rmdir,chdir"
    ∷ codes "other /out mkdir,symlink"
    ∷ codes "prog /p exec"
    ∷ codes "dir new stat,lstat,open-r,rmdir,chdir"
    ∷ codes "other new mkdir,symlink"
    ∷ codes "link new lstat,readlink,unlink"
    ∷ []

-- who holds promises, and hands none down
abbrev pub handing_none : ℕ → ProcessState
handing_none held = record (starting executing held 0) { execpromises = None }

-- who can write no program, and starts what can: `/out` has rwxc
abbrev pub writes : ProcessState
writes = record new_process {
  promises = Some (rpath + exec + proc);
  execpromises = Some (wpath + cpath);
  veils = (place.Dir 2, reading + writing + executing + creating) ∷ (place.Slot 0 (codes "p"), executing) ∷ [];
  locked = true;
}

-- `/in` has x, and the file in it is open for reading to who starts what holds this
abbrev pub holds_open : ℕ → ProcessState
holds_open given = record new_process {
  promises = Some exec;
  execpromises = Some given;
  veils = (place.Dir 1, executing) ∷ (place.Slot 0 (codes "p"), executing) ∷ [];
  locked = true;
  files = (5, record { node = 3; kind = File; letters = reading }) ∷ [];
}

-- who can put no veil, and isn't locked
abbrev pub unlocked : ℕ → ProcessState
unlocked given = record (starting executing (rpath + exec + proc) given) { locked = false }

pub record ThroughRows : Type 0 where
  -- by itself it can move nothing
  pub reads_alone : lines_now standard_table reads ≡ alone
  -- what it starts moves `/in/s` to `/out`, and it reads it there, which neither does by itself
  pub reads_and_moves : lines_lasting standard_table reads ≡ together
  -- where nothing can be started, the list is that of the process itself
  pub none_to_start : lines_lasting standard_table (starting reading (rpath + exec + proc) cpath) ≡
      codes "dir /out stat,lstat,open-r,chdir" ∷ codes "prog /p stat,lstat,open-r" ∷ []
  -- a program that can start another is bounded where its execpromises stay
  pub starts_again : lines_lasting openbsd_table (starting executing (rpath + exec + proc) (cpath + exec)) ≡ together_by_openbsd
  pub starts_again_unset : lines_lasting standard_table (starting executing (rpath + exec + proc) (cpath + exec)) ≡ alone
  -- nothing is bounded without execpromises
  pub nothing_given : lines_lasting openbsd_table (handing_none (rpath + exec + proc)) ≡ alone
  -- nor where a program that is started can put veils
  pub unveils_later : lines_lasting standard_table (unlocked (cpath + unveil)) ≡ alone
  pub unveils_never : lines_lasting standard_table (unlocked cpath) ≡ together
  -- create needs two promises, of which each has one: none of them makes a file
  pub two_halves : lines_lasting standard_table (starting executing (rpath + wpath + exec + proc) cpath) ≡ together
  -- what it starts writes a file, which it can start then, once its mode lets it
  pub starts_what_is_made : lines_lasting standard_table writes ≡
      codes "dir /out stat,lstat,open-r,rmdir,chdir"
      ∷ codes "other /out create,mkdir,symlink"
      ∷ codes "prog /p exec"
      ∷ codes "dir new stat,lstat,open-r,rmdir,chdir"
      ∷ codes "other new create,mkdir,symlink"
      ∷ codes "file new stat,lstat,open-r,open-w,create,unlink,exec"
      ∷ codes "link new lstat,readlink,unlink"
      ∷ []
  -- what it starts sets the mode of what is open, which it can start then
  pub mode_of_open : lines_lasting standard_table (holds_open fattr) ≡ codes "file /in/s exec" ∷ codes "prog /p exec" ∷ []
  pub no_mode_of_open : lines_lasting standard_table (holds_open cpath) ≡ codes "prog /p exec" ∷ []
  -- what lists say of execs
  pub told_bounded : execs_of started_tree standard_table reads ≡ told.Bounded
  pub told_open : execs_of started_tree standard_table (starting executing (rpath + exec + proc) (cpath + exec)) ≡ told.Open
  pub told_never : execs_of started_tree standard_table (starting reading (rpath + exec + proc) cpath) ≡ told.Never

pub through_rows : ThroughRows
through_rows = record {
  reads_alone = refl;
  reads_and_moves = refl;
  none_to_start = refl;
  starts_again = refl;
  starts_again_unset = refl;
  nothing_given = refl;
  unveils_later = refl;
  unveils_never = refl;
  two_halves = refl;
  starts_what_is_made = refl;
  mode_of_open = refl;
  no_mode_of_open = refl;
  told_bounded = refl;
  told_open = refl;
  told_never = refl;
}
