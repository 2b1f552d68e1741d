-- Worked rows on what several processes can ever touch together, in the tree of the rows through execs.
use Rattle.std.specs.Prelude.{◌≡◌, ◌+◌, ℕ, List, [], ◌∷◌, Some, None, codes, refl}
use Rattle.pua_tree.specs.declared.node.Kind.TheVariants.{File}
use Rattle.pua_calls.specs.Promises.{rpath, wpath, cpath, fattr, exec, unveil, reading, writing, executing}
use Rattle.pua_calls.specs.Calls.{standard_table}
use Rattle.pua_policy.specs.States.{ProcessState}
use Rattle.pua_policy.specs.declared.open_file.OpenFile.{OpenFile}
use Rattle.pua_ever.specs.Together.{joined}
use Rattle.pua_ever.specs.ThroughExamples.{starting, unlocked, handing_none, holds_open, reads, alone, together, lines_lasting}

abbrev pub lines_together : ProcessState → List ProcessState → List (List ℕ)
lines_together h more = lines_lasting standard_table (joined standard_table h more)

abbrev pub moved_and_read : List (List ℕ)
moved_and_read =
    codes "dir /in rmdir"
    ∷ codes "other /in mkdir,symlink"
    ∷ codes "file /in/s stat,lstat,open-r,unlink"
    ∷ codes "dir /out stat,lstat,open-r,rmdir,chdir"
    ∷ codes "other /out mkdir,symlink"
    ∷ codes "dir new stat,lstat,open-r,rmdir,chdir"
    ∷ codes "other new mkdir,symlink"
    ∷ codes "link new lstat,readlink,unlink"
    ∷ []

-- `/in` has x, and these are open to who holds this and hands nothing down
abbrev pub opened : ℕ → List (ℕ × OpenFile) → ProcessState
opened held files = record (holds_open 0) { promises = Some held; execpromises = None; files = files }

-- the file in `/in`, under these letters
abbrev pub file_in : ℕ → OpenFile
file_in letters = record { node = 3; kind = File; letters = letters }

-- who can start a program and has no file, and who has one and can start nothing
abbrev pub starts_none_open : ProcessState
starts_none_open = opened exec []

abbrev pub has_open : ℕ → ℕ → ProcessState
has_open held letters = opened held ((5, file_in letters) ∷ [])

abbrev pub program_alone : List (List ℕ)
program_alone = codes "prog /p exec" ∷ []

abbrev pub file_and_program : List (List ℕ)
file_and_program = codes "file /in/s exec" ∷ codes "prog /p exec" ∷ []

pub record TogetherRows : Type 0 where
  -- the one can only read, the other can only move
  pub reader : lines_together (handing_none rpath) [] ≡ codes "dir /out stat,lstat,open-r,chdir" ∷ []
  pub mover : lines_together (handing_none cpath) [] ≡
      codes "dir /in rmdir"
      ∷ codes "other /in mkdir,symlink"
      ∷ codes "file /in/s unlink"
      ∷ codes "dir /out rmdir"
      ∷ codes "other /out mkdir,symlink"
      ∷ codes "dir new rmdir"
      ∷ codes "other new mkdir,symlink"
      ∷ codes "link new unlink"
      ∷ []
  -- together what the one moves the other reads, in either order
  pub both : lines_together (handing_none rpath) (handing_none cpath ∷ []) ≡ moved_and_read
  pub turned : lines_together (handing_none cpath) (handing_none rpath ∷ []) ≡ moved_and_read
  -- what the one starts moves what the other reads, which can start nothing, and has no execpromises
  pub started : lines_together (starting executing exec cpath) (handing_none rpath ∷ []) ≡ together
  -- what is handed down by one that can start nothing counts for nothing
  pub idle : lines_together (starting executing rpath (wpath + cpath)) (starting executing exec cpath ∷ []) ≡ together
  -- nothing is bounded where one that can start a program has no execpromises
  pub unbounded : lines_together (handing_none rpath) (handing_none exec ∷ []) ≡ alone
  -- nor where one isn't locked, and a program that is started can put veils
  pub unlocked_one : lines_together reads (unlocked (cpath + unveil) ∷ []) ≡ alone
  -- of a single one the list is its own
  pub single : lines_together reads [] ≡ together
  -- what one has open to write another starts, in either order; what is open to read alone stays no program
  pub none_open : lines_together starts_none_open [] ≡ program_alone
  pub writes_starts_none : lines_together (has_open rpath writing) [] ≡ []
  pub opened_by_second : lines_together starts_none_open (has_open rpath writing ∷ []) ≡ file_and_program
  pub opened_by_first : lines_together (has_open rpath writing) (starts_none_open ∷ []) ≡ file_and_program
  pub opened_to_read : lines_together starts_none_open (has_open rpath reading ∷ []) ≡ program_alone
  -- but where one sets modes
  pub mode_set_by_other : lines_together starts_none_open (has_open rpath reading ∷ opened fattr [] ∷ []) ≡ file_and_program
  -- by the same number another file is open, and by another number the same with fewer letters: no letter is lost
  pub same_number : lines_together (opened exec ((5, record (file_in writing) { node = 4 }) ∷ [])) (has_open rpath writing ∷ []) ≡ file_and_program
  pub letters_of_both : lines_together (has_open rpath writing) (opened exec ((6, file_in reading) ∷ []) ∷ []) ≡ file_and_program

pub together_rows : TogetherRows
together_rows = record {
  reader = refl;
  mover = refl;
  both = refl;
  turned = refl;
  started = refl;
  idle = refl;
  unbounded = refl;
  unlocked_one = refl;
  single = refl;
  none_open = refl;
  writes_starts_none = refl;
  opened_by_second = refl;
  opened_by_first = refl;
  opened_to_read = refl;
  mode_set_by_other = refl;
  same_number = refl;
  letters_of_both = refl;
}
