-- Worked rows on small reaches.
use Rattle.std.specs.Prelude.{◌≡◌, ◌+◌, ℕ, false, List, [], ◌∷◌, ◌++◌, map, length, Option, Some, None, Result, Ok, Err, codes, refl}
use Rattle.pua_tree.specs.Tree.{Tree, empty_tree}
use Rattle.pua_tree.specs.Examples.{example_tree}
use Rattle.pua_tree.specs.declared.node.Kind.TheVariants.{Dir, File, Link}
use Rattle.pua_calls.specs.Promises.{cpath, dpath, fattr, unix, reading, writing, executing, creating}
use Rattle.pua_calls.specs.Calls.{CallTable, standard_table, openbsd_table, call_name}
use Rattle.pua_calls.specs.TableTexts.{with_rule}
use Rattle.pua_calls.specs.declared.call.Call.TheVariants.{Stat}
use Rattle.pua_policy.specs.States.{ProcessState, state_after, Pledged, Unveiled, Locked, Moved, ToDir, ToRoot, Ended, new_process}
use Rattle.pua_audit.specs.Reach.{Pair, printed_path}
use Rattle.pua_audit.specs.Begin.{Beginning, beginning, still_to_come}
use Rattle.pua_audit.specs.Live.{live_states}
use Rattle.pua_policy.specs.declared.place.Place.TheVariants.{Slot, Dir as Directory}
use Rattle.pua_audit.specs.declared.base.Base.{Base}
use Rattle.pua_audit.specs.declared.base.Base.TheVariants.{Root, Cwd}
use Rattle.pua_audit.specs.declared.fault.AuditFault.{AuditFault}
use Rattle.pua_audit.specs.declared.fault.AuditFault.TheVariants.{BadCandidate, BadResume, LimitTooLarge}

-- the printed path and the call of each pair
abbrev pub printed_pair : Base → Pair → List ℕ
printed_pair base pair = printed_path base pair.0 ++ 32 ∷ call_name pair.1

abbrev pub printed_beginning : Base → Result Beginning AuditFault → List (List ℕ)
printed_beginning base (Ok b) = map (printed_pair base) (still_to_come b)
printed_beginning base (Err fault) = []

-- the lines of an audit
abbrev pub lines_from : Base → Tree → ProcessState → List (List ℕ) → ℕ → Option (List ℕ) → List (List ℕ)
lines_from base t h candidates limit after = printed_beginning base (beginning t standard_table h base candidates limit after)

-- the lines of an audit from the root
abbrev pub lines_from_root : Tree → ProcessState → List (List ℕ) → ℕ → Option (List ℕ) → List (List ℕ)
lines_from_root t h candidates limit after = lines_from Root t h candidates limit after

-- the number of live states of that audit
abbrev pub live_in : Result Beginning AuditFault → ℕ
live_in (Ok b) = length (live_states b.scope)
live_in (Err fault) = 0

abbrev pub live_from_root : Tree → ProcessState → List (List ℕ) → ℕ → ℕ
live_from_root t h candidates limit = live_in (beginning t standard_table h Root candidates limit None)

abbrev pub one_promise : ProcessState
one_promise = state_after (Pledged (Some cpath) None) new_process

abbrev pub two_promises : ProcessState
two_promises = state_after (Pledged (Some (unix + dpath)) None) new_process

abbrev pub one_veil : ProcessState
one_veil = state_after Locked (state_after (Unveiled (Slot 1 (codes "passwd")) reading) new_process)

-- one chmod for each path to a file
abbrev pub one_written_file : ProcessState
one_written_file = state_after (Pledged (Some fattr) None) (state_after (Unveiled (Slot 0 (codes "f")) writing) new_process)

-- a link to its own directory, and one that goes through it 31 times, so that it follows 32 links
abbrev pub tree_of_32_links : Tree
tree_of_32_links = record empty_tree {
  rows = ((0, codes "f"), 1) ∷ ((0, codes "k"), 2) ∷ ((0, codes "l"), 3) ∷ [];
  nodes = (0, record { kind = Dir; target = None; mount = false }) ∷ (1, record { kind = File; target = None; mount = false }) ∷ (
    2,
    record { kind = Link; target = Some (codes "."); mount = false },
  )
      ∷ (3, record { kind = Link; target = Some (codes "k/k/k/k/k/k/k/k/k/k/k/k/k/k/k/k/k/k/k/k/k/k/k/k/k/k/k/k/k/k/k"); mount = false }) ∷ [];
  next = 4;
}

-- a file in a directory to which a link leads too
abbrev pub tree_of_two_paths : Tree
tree_of_two_paths = record empty_tree {
  rows = ((0, codes "d"), 1) ∷ ((0, codes "l"), 2) ∷ ((1, codes "f"), 3) ∷ [];
  nodes = (0, record { kind = Dir; target = None; mount = false }) ∷ (1, record { kind = Dir; target = None; mount = false }) ∷ (
    2,
    record { kind = Link; target = Some (codes "d"); mount = false },
  ) ∷ (3, record { kind = File; target = None; mount = false }) ∷ [];
  next = 4;
}

-- stat asks for nothing
abbrev pub free_stat : CallTable
free_stat = with_rule standard_table Stat (record { alternatives = 0 ∷ []; perms = 0 })

pub record ReachRows : Type 0 where
  pub root : lines_from_root empty_tree new_process [] 0 None ≡ codes "/ stat" ∷ codes "/ lstat" ∷ codes "/ open-r" ∷ codes "/ chmod"
      ∷ codes "/ chdir" ∷ []
  pub above_root : lines_from_root empty_tree new_process [] 1 None ≡ codes "/ stat" ∷ codes "/ lstat" ∷ codes "/ open-r" ∷ codes "/ chmod"
      ∷ codes "/ chdir" ∷ codes "/.. stat" ∷ codes "/.. lstat" ∷ codes "/.. open-r" ∷ codes "/.. chmod" ∷ codes "/.. chdir" ∷ []
  pub missing_name : lines_from_root empty_tree one_promise (codes "a" ∷ []) 2 None ≡ codes "/../a mkdir" ∷ codes "/../a symlink"
      ∷ codes "/a mkdir" ∷ codes "/a symlink" ∷ []
  pub resumed : lines_from_root empty_tree one_promise (codes "a" ∷ []) 2 (Some (codes "symlink:/../a")) ≡ codes "/a mkdir"
      ∷ codes "/a symlink" ∷ []
  pub spelled : lines_from_root empty_tree one_promise (codes "a\\040b" ∷ []) 1 None ≡ codes "/a\\040b mkdir" ∷ codes "/a\\040b symlink"
      ∷ []
  -- letters are in the order of their bytes, and not of how these are spelled
  pub in_order_of_bytes : lines_from_root empty_tree one_promise (codes "A" ∷ codes "\\040" ∷ []) 1 None ≡ codes "/\\040 mkdir"
      ∷ codes "/\\040 symlink" ∷ codes "/A mkdir" ∷ codes "/A symlink" ∷ []
  pub one_file : lines_from_root example_tree one_veil [] 2 None ≡ codes "/etc/passwd stat" ∷ codes "/etc/passwd lstat"
      ∷ codes "/etc/passwd open-r" ∷ []
  pub from_working_directory : lines_from Cwd example_tree (state_after (Moved (ToDir 1)) one_veil) [] 1 None ≡ codes "passwd stat"
      ∷ codes "passwd lstat" ∷ codes "passwd open-r" ∷ []
  pub ended_process : lines_from Root empty_tree (state_after Ended new_process) [] 1 None ≡ []
  pub bad_candidate : beginning empty_tree standard_table new_process Root (codes "a" ∷ codes "a/b" ∷ []) 1 None ≡ Err (BadCandidate 2)
  pub resume_beyond_limit : beginning empty_tree standard_table new_process Root (codes "a" ∷ []) 1 (Some (codes "stat:/a/a"))
      ≡ Err BadResume
  pub resumed_within_a_path : lines_from_root empty_tree new_process [] 0 (Some (codes "lstat:/")) ≡ codes "/ open-r" ∷ codes "/ chmod"
      ∷ codes "/ chdir" ∷ []
  pub limit_of_16 : beginning empty_tree standard_table new_process Root [] 16 (Some (codes "stat:")) ≡ Err BadResume
  pub limit_of_17 : beginning empty_tree standard_table new_process Root [] 17 (Some (codes "stat:")) ≡ Err LimitTooLarge
  pub by_another_table : printed_beginning Root (beginning empty_tree free_stat (state_after (Pledged (Some 0) None) new_process) Root [] 0 None)
      ≡ codes "/ stat" ∷ []
  -- a text names a call of the table alone
  pub further_calls : printed_beginning Root (beginning empty_tree openbsd_table two_promises Root (codes "a" ∷ []) 1 None)
      ≡ codes "/a bind" ∷ codes "/a mknod" ∷ []
  pub resumed_after_bind : printed_beginning Root (beginning empty_tree openbsd_table two_promises Root (codes "a" ∷ []) 1
      (Some (codes "bind:/a"))) ≡ codes "/a mknod" ∷ []
  pub no_such_call : beginning empty_tree standard_table two_promises Root (codes "a" ∷ []) 1 (Some (codes "bind:/a")) ≡ Err BadResume
  pub through_a_link : lines_from_root tree_of_two_paths (state_after (Unveiled (Slot 1 (codes "f")) reading) new_process) [] 2 None ≡
      codes "/d/f stat" ∷ codes "/d/f lstat" ∷ codes "/d/f open-r" ∷ codes "/l/f stat" ∷ codes "/l/f lstat" ∷ codes "/l/f open-r" ∷ []
  -- what leads to the file after at most 32 links: /k/l/f and /l/k/f follow 33
  pub after_32_links : lines_from_root tree_of_32_links one_written_file [] 3 None ≡
      codes "/../../f chmod" ∷ codes "/../f chmod" ∷ codes "/../k/f chmod" ∷ codes "/../l/f chmod" ∷ codes "/f chmod"
      ∷ codes "/k/../f chmod" ∷ codes "/k/f chmod" ∷ codes "/k/k/f chmod" ∷ codes "/l/../f chmod" ∷ codes "/l/f chmod" ∷ []
  pub link_itself : lines_from_root example_tree (state_after (Unveiled (Slot 0 (codes "t")) reading) new_process) [] 1 None ≡ codes "/t lstat"
      ∷ codes "/t readlink" ∷ []
  pub where_a_link_leads : lines_from_root example_tree (state_after (Unveiled (Directory 3) reading) new_process) [] 1 None ≡
      codes "/t stat" ∷ codes "/t open-r" ∷ codes "/t chdir" ∷ codes "/tmp stat" ∷ codes "/tmp lstat" ∷ codes "/tmp open-r"
      ∷ codes "/tmp chdir" ∷ []
  pub program : lines_from_root example_tree (state_after (Unveiled (Directory 3) executing) new_process) [] 2 None ≡ codes "/t/sh exec"
      ∷ codes "/tmp/sh exec" ∷ []
  pub veiled_missing_name : lines_from_root example_tree (state_after (Unveiled (Slot 1 (codes "a")) creating) (state_after (Unveiled (Directory 1) reading) new_process)) (codes "a" ∷ []) 2 None ≡
      codes "/../etc stat" ∷ codes "/../etc lstat" ∷ codes "/../etc open-r" ∷ codes "/../etc chdir"
      ∷ codes "/etc stat" ∷ codes "/etc lstat" ∷ codes "/etc open-r" ∷ codes "/etc chdir" ∷ codes "/etc/a mkdir" ∷ codes "/etc/a symlink"
      ∷ codes "/etc/passwd stat" ∷ codes "/etc/passwd lstat" ∷ codes "/etc/passwd open-r" ∷ codes "/t/up stat" ∷ codes "/t/up open-r"
      ∷ codes "/t/up chdir"
      ∷ codes "/tmp/up stat" ∷ codes "/tmp/up open-r" ∷ codes "/tmp/up chdir" ∷ []
  pub live_in_root : live_from_root empty_tree one_promise (codes "a" ∷ []) 2 ≡ 2
  pub live_over_file : live_from_root example_tree one_veil [] 2 ≡ 2

-- reaches of a process whose root is a directory of the tree
pub record RootRows : Type 0 where
  -- paths are spelled by its root, which is above itself
  pub from_root : lines_from_root example_tree (state_after (Moved (ToRoot 1)) one_veil) [] 2 None ≡ codes "/../passwd stat"
      ∷ codes "/../passwd lstat" ∷ codes "/../passwd open-r" ∷ codes "/passwd stat" ∷ codes "/passwd lstat" ∷ codes "/passwd open-r" ∷ []
  -- a directory outside of it leads in
  pub from_outside : lines_from Cwd example_tree (state_after (Moved (ToRoot 1)) one_veil) [] 2 None ≡ codes "etc/passwd stat"
      ∷ codes "etc/passwd lstat" ∷ codes "etc/passwd open-r" ∷ []
  pub removed : lines_from_root example_tree (state_after (Moved (ToRoot 9)) new_process) [] 1 None ≡ []

pub reach_rows : ReachRows
reach_rows = record {
  root = refl;
  above_root = refl;
  missing_name = refl;
  resumed = refl;
  spelled = refl;
  in_order_of_bytes = refl;
  one_file = refl;
  from_working_directory = refl;
  ended_process = refl;
  bad_candidate = refl;
  resume_beyond_limit = refl;
  resumed_within_a_path = refl;
  limit_of_16 = refl;
  limit_of_17 = refl;
  by_another_table = refl;
  further_calls = refl;
  resumed_after_bind = refl;
  no_such_call = refl;
  through_a_link = refl;
  after_32_links = refl;
  link_itself = refl;
  where_a_link_leads = refl;
  program = refl;
  veiled_missing_name = refl;
  live_in_root = refl;
  live_over_file = refl;
}

pub root_rows : RootRows
root_rows = record { from_root = refl; from_outside = refl; removed = refl }
