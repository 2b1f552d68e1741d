-- What a list shows of a process by its root: where its paths can't leave the root, now or for ever, what is at or below it.
use Rattle.std.specs.Prelude.{◌≡◌, ⊤, ℕ, Bool, true, not, ◌&&◌, ◌||◌, ◌==◌, if◌then◌else◌, List, filter}
use Rattle.std.specs.List.{list_all}
use Rattle.pua_tree.specs.Tree.{Tree, is_dir, is_within}
use Rattle.pua_path.specs.declared.found.Found.TheVariants.{Whole, Slot}
use Rattle.pua_calls.specs.Calls.{CallTable}
use Rattle.pua_calls.specs.Promises.{holds, id}
use Rattle.pua_policy.specs.States.{ProcessState, held_set, is_directory, root_dir, working_dir}
use Rattle.pua_policy.specs.declared.open_file.OpenFile.{OpenFile}
use Rattle.pua_objects.specs.Objects.{Subject, At, Others, Line, objects}
use Rattle.pua_objects.specs.declared.roots.Shown.{Shown}
use Rattle.pua_objects.specs.declared.roots.Shown.TheVariants.{All, Below}

-- a living directory is the root or stands below it; what is no living directory leads nowhere
abbrev pub stays_in : Tree → ℕ → ℕ → Bool
stays_in t root dir = not (is_dir t dir) || is_within t dir root

-- a descriptor leads nowhere else: its file is no directory, or a directory that stays in it
abbrev pub is_held_inside : Tree → ℕ → OpenFile → Bool
is_held_inside t root file = not (is_directory file) || stays_in t root file.node

abbrev pub files_stay : Tree → ℕ → List (ℕ × OpenFile) → Bool
files_stay t root files = list_all (λ held. is_held_inside t root held.1) files

-- the root lives, and the working directory and each directory that a descriptor stands for stay in it
abbrev pub is_enclosed : Tree → ProcessState → Bool
is_enclosed t h =
    is_dir t (root_dir h)
    && (stays_in t (root_dir h) (working_dir h) && files_stay t (root_dir h) h.files)

-- and the promise isn't held by which the root could be changed. Who never pledged holds it; and who pledged can take no directory from
-- another process
abbrev pub is_enclosed_for_ever : Tree → ProcessState → Bool
is_enclosed_for_ever t h = is_enclosed t h && not (holds (held_set h) id)

-- all, or where the process is enclosed what is at or below its root; below node 0 is all
abbrev pub shown_of : Tree → ProcessState → Shown
shown_of t h = if not (root_dir h == 0) && is_enclosed t h then Below (root_dir h) else All

-- the same of a list for ever
abbrev pub shown_for_ever : Tree → ProcessState → Shown
shown_for_ever t h = if holds (held_set h) id then All else shown_of t h

-- what is shown is by the root of a process
abbrev pub IsByRoot : ProcessState → Shown → Type 0
IsByRoot h All = ⊤
IsByRoot h (Below root) = root ≡ root_dir h

-- the directory in which a subject stands, or which it is
abbrev pub dir_of : Subject → ℕ
dir_of (At (Whole dir way)) = dir
dir_of (At (Slot dir name x)) = dir
dir_of (Others dir) = dir

abbrev pub shows : Tree → Shown → Subject → Bool
shows t All subject = true
shows t (Below root) subject = is_within t (dir_of subject) root

abbrev pub is_shown : Tree → ProcessState → Subject → Bool
is_shown t h subject = shows t (shown_of t h) subject

-- the lines of a list of what is allowed now
abbrev pub shown_objects : Tree → CallTable → ProcessState → List Line
shown_objects t table h = filter (λ line. is_shown t h line.subject) (objects t table h)
