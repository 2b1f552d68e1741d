-- Worked rows on what processes with veils of their own can ever touch together, in the tree of the rows through execs.
use Rattle.std.specs.Prelude.{◌≡◌, ◌+◌, ℕ, true, false, List, [], ◌∷◌, Some, None, codes}
use Rattle.pua_path.specs.declared.found.Found.TheVariants.{Slot, Whole}
use Rattle.pua_path.specs.declared.found.Way.TheVariants.{Named}
use Rattle.pua_calls.specs.Promises.{rpath, wpath, cpath, fattr, exec, recvfd, sendfd, unix, reading, writing, executing, creating}
use Rattle.pua_calls.specs.Calls.{openbsd_table, standard_table}
use Rattle.pua_calls.specs.declared.call.Call.TheVariants as call
use Rattle.pua_tree.specs.Tree.{Tree}
use Rattle.pua_tree.specs.declared.node.Kind.TheVariants.{File}
use Rattle.pua_policy.specs.States.{ProcessState, new_process}
use Rattle.pua_policy.specs.declared.place.Place.TheVariants as place
use Rattle.pua_objects.specs.Objects.{At}
use Rattle.pua_ever.specs.Ever.{NewLink, Thing, Stands, is_turned_held}
use Rattle.pua_ever.specs.ThroughExamples.{directory, file, program, started_tree}
use Rattle.pua_ever.specs.declared.lasting_list.ExecBound.TheVariants.{Bounded, Never, Open}
use Rattle.pua_jointly.specs.JointRefusals.{first_refusal}
use Rattle.pua_jointly.specs.JointPrograms.{agents_by, started_of, worst}
use Rattle.pua_jointly.specs.Jointly.{Can, Free, IsJointlyAllowed, IsJointlyListed, Maker, Old, Row, Seat, StandsAt, StandsIn, as_started, seat_device, sends_to_set}
use Rattle.pua_ever.specs.declared.refusal.EverRefusal.TheVariants.{CanUnveil}

-- who moves from /in to /out and reads nothing, and who reads in /out and sees nothing else
abbrev pub mover : ProcessState
mover = record new_process {
  promises = Some cpath;
  veils = (place.Dir 1, creating) ∷ (place.Dir 2, creating) ∷ [];
  locked = true;
}

abbrev pub reader : ProcessState
reader = record new_process { promises = Some rpath; veils = (place.Dir 2, reading) ∷ []; locked = true }

abbrev pub crew : List ProcessState
crew = mover ∷ reader ∷ []

-- who writes in /out, and who executes there: by itself, the first starts nothing, and the second writes nothing
abbrev pub writer : ProcessState
writer = record new_process { promises = Some wpath; veils = (place.Dir 2, writing) ∷ []; locked = true }

abbrev pub runner : ProcessState
runner = record new_process { promises = Some exec; veils = (place.Dir 2, executing) ∷ []; locked = true }

abbrev pub three : List ProcessState
three = mover ∷ writer ∷ runner ∷ []

-- who has the file in /in open for reading, under no letter, and sets modes by this promise
abbrev pub opener : ℕ → ProcessState
opener promise = record new_process {
  promises = Some promise;
  veils = (place.Slot 0 (codes "p"), 0) ∷ [];
  locked = true;
  files = (5, record { node = 3; kind = File; letters = reading }) ∷ [];
}

abbrev pub opened : List ProcessState
opened = mover ∷ opener fattr ∷ runner ∷ []

-- who sets the mode of what it is sent, and sees nothing; who reads in /in and sends what it has open; and who executes there
abbrev pub setter : ProcessState
setter = record new_process { promises = Some (recvfd + fattr); veils = (place.Slot 0 (codes "p"), 0) ∷ []; locked = true }

abbrev pub sender : ProcessState
sender = record new_process { promises = Some (rpath + sendfd); veils = (place.Dir 1, reading) ∷ []; locked = true }

abbrev pub executer : ProcessState
executer = record runner { veils = (place.Dir 1, executing) ∷ [] }

abbrev pub sending : List ProcessState
sending = opener sendfd ∷ setter ∷ executer ∷ []

abbrev pub opening : List ProcessState
opening = sender ∷ setter ∷ executer ∷ []

-- who may take /p away, and who binds a socket there once it is gone: it holds no promise to take a name away
abbrev pub remover : ProcessState
remover = record new_process { promises = Some cpath; veils = (place.Slot 0 (codes "p"), creating) ∷ []; locked = true }

abbrev pub binder : ProcessState
binder = record new_process { promises = Some unix; veils = (place.Slot 0 (codes "p"), writing + creating) ∷ []; locked = true }

-- who moves from /in to the name k in /out alone, of which the reader has no veil
abbrev pub placer : ProcessState
placer = record new_process {
  promises = Some cpath;
  veils = (place.Dir 1, creating) ∷ (place.Slot 2 (codes "k"), creating) ∷ [];
  locked = true;
}

-- who executes there too, and hands down a promise
abbrev pub starter : ProcessState
starter = record runner { execpromises = Some rpath }

-- the file s in /in
abbrev pub file_in : Thing
file_in = Stands (At (Slot 1 (codes "s") (Some 3)))

-- the same tree, where another file system is mounted on /out
abbrev pub mounted_tree : Tree
mounted_tree = record started_tree {
  nodes = (0, directory) ∷ (1, directory) ∷ (2, record directory { mount = true }) ∷ (3, file) ∷ (4, program) ∷ [];
}

-- and where one is mounted on /in/s
abbrev pub mounted_in_tree : Tree
mounted_in_tree = record started_tree {
  nodes = (0, directory) ∷ (1, directory) ∷ (2, directory) ∷ (3, record directory { mount = true }) ∷ (4, program) ∷ [];
}

-- the directories /in and /out
abbrev pub in_dir : Thing
in_dir = Stands (At (Whole 1 (Named 0 (codes "in"))))

abbrev pub out_dir : Thing
out_dir = Stands (At (Whole 2 (Named 0 (codes "out"))))

pub record JointlyRows : Type 0 where
  -- the reader comes to read what the mover brings, which has no promise to read it
  pub brought : IsJointlyAllowed started_tree standard_table crew reader file_in call.OpenRead
  pub unread : IsJointlyAllowed started_tree standard_table crew mover file_in call.OpenRead → ⊥
  -- and one starts what another made a program, where a third brought it
  pub turned : IsJointlyListed started_tree standard_table three runner file_in call.Exec
  -- or what another one has open, and could alone not start
  pub held : IsJointlyListed started_tree standard_table opened runner file_in call.Exec
  pub held_by_fattr : is_turned_held (opener fattr) 3 ≡ true
  pub held_by_another : is_turned_held (opener rpath) 3 ≡ false
  -- or what another one has open, or opens, and sends to one that sets its mode
  pub sent : IsJointlyListed started_tree openbsd_table sending executer file_in call.Exec
  pub opened_and_sent : IsJointlyListed started_tree openbsd_table opening executer file_in call.Exec
  pub unsent : sends_to_set openbsd_table (setter ∷ []) (opener rpath) ≡ false
  pub unreceived : sends_to_set openbsd_table (opener fattr ∷ []) (opener sendfd) ≡ false
  pub unset : sends_to_set openbsd_table (opener recvfd ∷ []) (opener sendfd) ≡ false
  pub unknown : sends_to_set standard_table (setter ∷ []) (opener sendfd) ≡ false
  -- one uses a name that another one frees, and alone could not
  pub freed : IsJointlyAllowed started_tree openbsd_table (remover ∷ binder ∷ []) binder (Stands (At (Slot 0 (codes "p") None))) call.Bind
  -- one reads what another put at a name that it has a veil on, which the first hasn't
  pub placed : IsJointlyAllowed started_tree standard_table (placer ∷ reader ∷ []) reader file_in call.OpenRead
  -- a directory that is moved comes under the veils over where it stands then
  pub followed : IsJointlyAllowed started_tree standard_table crew reader in_dir call.OpenRead
  -- who can put veils still is named by its place
  pub second : first_refusal standard_table 0 (mover ∷ new_process ∷ []) ≡ Some (1, CanUnveil)
  -- what is started holds what was handed down, under the same veils; nothing bounded is, where nothing was
  pub started : started_of standard_table starter ≡ Some (as_started starter rpath)
  pub unbounded : started_of standard_table runner ≡ None
  -- it counts where that is said
  pub counts : agents_by standard_table (record { process = starter; execs = Bounded }) ≡ starter ∷ as_started starter rpath ∷ []
  pub silent : agents_by standard_table (record { process = starter; execs = Never }) ≡ starter ∷ []
  -- one alone makes the lists of all open
  pub all_open : worst (record { process = starter; execs = Bounded } ∷ record { process = runner; execs = Open } ∷ []) ≡ Open
  -- where another file system is mounted on /out, nobody brings the file there, whoever helps
  pub stays : (all : List ProcessState) (d : Seat) (name : List ℕ) →
      Can mounted_tree standard_table all (StandsAt (Row (1, codes "s")) d name) → seat_device mounted_tree d ≡ 0
  pub apart : (all : List ProcessState) (name : List ℕ) →
      Can mounted_tree standard_table all (StandsAt (Row (1, codes "s")) (Old 2) name) → ⊥
  -- the link that is made there is moved there, and only there
  pub made : Can mounted_tree standard_table crew (StandsAt (Maker NewLink (mover, 2)) (Old 2) (codes "n"))
  pub made_moved : Can mounted_tree standard_table crew (StandsAt (Maker NewLink (mover, 2)) (Old 2) (codes "m"))
  pub made_apart : (all : List ProcessState) (name : List ℕ) →
      Can mounted_tree standard_table all (StandsAt (Maker NewLink (mover, 2)) (Old 1) name) → ⊥
  -- and the directory /in stays out of it
  pub out_of_it : (all : List ProcessState) → Can mounted_tree standard_table all (StandsIn (Old 1) (Old 2)) → ⊥
  -- nobody takes the mount point away, nor a directory above one, which the mover takes where none is mounted
  pub kept : (all : List ProcessState) → Can mounted_tree standard_table all (Free (Old 0) (codes "out")) → ⊥
  pub mounted : (all : List ProcessState) → IsJointlyAllowed mounted_tree standard_table all mover out_dir call.Rmdir → ⊥
  pub above_it : (all : List ProcessState) → IsJointlyAllowed mounted_in_tree standard_table all mover in_dir call.Rmdir → ⊥
  pub removed : IsJointlyAllowed started_tree standard_table crew mover out_dir call.Rmdir
