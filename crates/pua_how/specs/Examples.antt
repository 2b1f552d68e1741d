-- Worked rows on what is asked about, and on ways to it.
use Rattle.std.specs.Prelude.{◌≡◌, ◌+◌, ℕ, true, false, [], ◌∷◌, Some, None, codes, refl}
use Rattle.std.specs.Fmt.{digits}
use Rattle.pua_tree.specs.Tree.{Tree, Node, empty_tree}
use Rattle.pua_tree.specs.declared.node.Kind.TheVariants.{Dir, File}
use Rattle.pua_path.specs.Resolution.{from_top}
use Rattle.pua_path.specs.declared.found.Found.TheVariants.{Whole, Slot}
use Rattle.pua_path.specs.declared.found.Start.{Start}
use Rattle.pua_path.specs.declared.found.Way.TheVariants.{DotDot}
use Rattle.pua_calls.specs.Promises.{rpath, wpath, cpath, tmppath, reading, writing, creating}
use Rattle.pua_calls.specs.Calls.{standard_table, openbsd_table}
use Rattle.pua_calls.specs.TmpTable.{tmp_table}
use Rattle.pua_calls.specs.declared.call.Call.TheVariants as call
use Rattle.pua_calls.specs.declared.rules.Rules.TheVariants.{Standard}
use Rattle.pua_policy.specs.States.{ProcessState, new_process}
use Rattle.pua_policy.specs.declared.place.Place.TheVariants as place
use Rattle.pua_script.specs.Requests.{Asked}
use Rattle.pua_script.specs.Replay.{World}
use Rattle.pua_path.specs.declared.errno.Errno.TheVariants.{EACCES}
use Rattle.pua_script.specs.declared.answer.Answer.TheVariants.{Failed, Okay}
use Rattle.pua_script.specs.declared.request.Action.{Action}
use Rattle.pua_script.specs.declared.request.Action.TheVariants.{OnPath, Link}
use Rattle.pua_objects.specs.declared.kind.ObjectKind.TheVariants as kind
use Rattle.pua_objects.specs.Objects as objects
use Rattle.pua_ever.specs.Ever.{Stands, Comes, NewLink}
use Rattle.pua_ever.specs.ShownForEver.{shown_lasting}
use Rattle.pua_ever.specs.Through.{ever_lasting}
use Rattle.pua_how.specs.PathQuestion.{Standing, Making, path_question, targets_of}
use Rattle.pua_how.specs.Targets.{is_listed, is_of, target_about}
use Rattle.pua_how.specs.Steps.{comes, step_text}
use Rattle.pua_how.specs.Ways.{IsWay}
use Rattle.pua_how.specs.declared.step.At.{At}
use Rattle.pua_how.specs.declared.step.At.TheVariants as at
use Rattle.pua_how.specs.declared.step.Dir.TheVariants as dir
use Rattle.pua_how.specs.declared.step.Step.TheVariants as step
use Rattle.pua_how.specs.declared.target.Target.{Target}
use Rattle.pua_how.specs.declared.target.Target.TheVariants as target

abbrev directory : Node
directory = record { kind = Dir; target = None; mount = false }

abbrev file : Node
file = record { kind = File; target = None; mount = false }

-- `/etc/conf` may be read, and `/run/pid` read, written and replaced
abbrev pub pid_tree : Tree
pid_tree = record empty_tree {
  rows = ((0, codes "etc"), 1) ∷ ((0, codes "run"), 3) ∷ ((1, codes "conf"), 2) ∷ ((3, codes "pid"), 4) ∷ [];
  nodes = (0, directory) ∷ (1, directory) ∷ (2, file) ∷ (3, directory) ∷ (4, file) ∷ [];
  next = 5;
}

-- the same once `/run/pid` was made anew
abbrev pub made_tree : Tree
made_tree = record empty_tree {
  rows = ((0, codes "etc"), 1) ∷ ((0, codes "run"), 3) ∷ ((1, codes "conf"), 2) ∷ ((3, codes "pid"), 5) ∷ [];
  nodes = (0, directory) ∷ (1, directory) ∷ (2, file) ∷ (3, directory) ∷ (5, file) ∷ [];
  next = 6;
}

abbrev pub pid_now : ProcessState
pid_now = record new_process {
  promises = Some (rpath + wpath + cpath);
  veils =
      (place.Slot 1 (codes "conf"), reading) ∷ (place.Slot 3 (codes "pid"), reading + writing + creating) ∷ [];
  locked = true;
}

-- what a path named is what is asked about: a node by whichever name, a missing name by its veil or as a further one
pub record OfRows : Type 0 where
  pub by_another_name : is_of pid_tree pid_now (target.Node 2) (Slot 3 (codes "new") (Some 2)) ≡ true
  pub another_node : is_of pid_tree pid_now (target.Node 2) (Slot 1 (codes "conf") (Some 5)) ≡ false
  pub dir_by_dots : is_of pid_tree pid_now (target.Directory 1) (Whole 1 DotDot) ≡ true
  pub not_above : is_of pid_tree pid_now (target.Directory 1) (Whole 0 DotDot) ≡ false
  pub veiled : is_of pid_tree pid_now (target.Name 3 (codes "pid")) (Slot 3 (codes "pid") None) ≡ true
  pub taken : is_of pid_tree pid_now (target.Name 3 (codes "pid")) (Slot 3 (codes "pid") (Some 4)) ≡ false
  pub further : is_of pid_tree pid_now (target.Others 3) (Slot 3 (codes "x") None) ≡ true
  pub veiled_is_no_further : is_of pid_tree pid_now (target.Others 3) (Slot 3 (codes "pid") None) ≡ false
  pub made_before : is_of pid_tree pid_now (target.NewDirectory 4) (Whole 3 DotDot) ≡ false
  pub made_file : is_of made_tree pid_now (target.NewFile 4) (Slot 3 (codes "pid") (Some 5)) ≡ true
  pub made_no_link : is_of made_tree pid_now (target.NewLink 4) (Slot 3 (codes "pid") (Some 5)) ≡ false
  pub made_later : is_of made_tree pid_now (target.NewFile 4) (Slot 1 (codes "conf") (Some 2)) ≡ false

pub of_rows : OfRows
of_rows = record {
  by_another_name = refl;
  another_node = refl;
  dir_by_dots = refl;
  not_above = refl;
  veiled = refl;
  taken = refl;
  further = refl;
  veiled_is_no_further = refl;
  made_before = refl;
  made_file = refl;
  made_no_link = refl;
  made_later = refl;
}

abbrev pub pid_world : World
pid_world = record { tree = pid_tree; processes = (1, pid_now) ∷ [] }

-- `/tmp/x`, and a process that has the promise tmppath alone
abbrev pub tmp_tree : Tree
tmp_tree = record empty_tree {
  rows = ((0, codes "tmp"), 1) ∷ ((1, codes "x"), 2) ∷ [];
  nodes = (0, directory) ∷ (1, directory) ∷ (2, file) ∷ [];
  next = 3;
}

abbrev pub tmp_now : ProcessState
tmp_now = record new_process { promises = Some tmppath; locked = true }

abbrev pub tmp_world : World
tmp_world = record { tree = tmp_tree; processes = (1, tmp_now) ∷ [] }

abbrev one : Action → Asked
one action = record { process = 1; action = action }

-- ways: by OpenBSD's rules a file that may only be read comes to a name that may be written, and a promise opens what the list for ever
-- has; a name is freed
pub record WayRows : Type 0 where
  pub linked : IsWay openbsd_table pid_world 1 call.OpenWrite (target.Node 2)
      (one (OnPath call.Unlink (codes "/run/pid")) ∷ one (Link (codes "/etc/conf") (codes "/run/pid"))
      ∷ one (OnPath call.OpenWrite (codes "/run/pid")) ∷ [])
  pub opened : IsWay openbsd_table tmp_world 1 call.Unlink (target.Node 2) (one (OnPath call.Unlink (codes "/tmp/x")) ∷ [])
  pub freed : IsWay standard_table pid_world 1 call.Create (target.Name 3 (codes "pid"))
      (one (OnPath call.Unlink (codes "/run/pid")) ∷ one (OnPath call.Create (codes "/run/pid")) ∷ [])
  pub at_once : IsWay standard_table pid_world 1 call.OpenRead (target.Node 2) (one (OnPath call.OpenRead (codes "/etc/conf")) ∷ [])
  -- no way is a request that is refused, or another process's
  pub refused : IsWay standard_table pid_world 1 call.OpenWrite (target.Node 2) (one (OnPath call.OpenWrite (codes "/etc/conf")) ∷ []) → ⊥
  pub of_another : (target : Target) → IsWay standard_table pid_world 2 call.OpenRead target (one (OnPath call.OpenRead (codes "/etc/conf")) ∷ []) → ⊥

no_answer : Failed EACCES ≡ Okay → ⊥
no_answer e = cc

no_process : ◌≡◌ {A = ℕ} 1 2 → ⊥
no_process e = cc

pub way_rows : WayRows
way_rows = record {
  linked = record {
    first = one (OnPath call.Unlink (codes "/run/pid")) ∷ one (Link (codes "/etc/conf") (codes "/run/pid")) ∷ [];
    last = one (OnPath call.OpenWrite (codes "/run/pid"));
    parts = refl;
    own = (refl, (refl, (refl, tt)));
    granted = (refl, (refl, (refl, tt)));
    quiet = (refl, (refl, tt));
    text = codes "/run/pid";
    called = refl;
    reaches = record {
      now = pid_now;
      kept = refl;
      object = Slot 3 (codes "pid") (Some 2);
      named = refl;
      asked = refl;
      allowed = refl;
    };
  };
  opened = record {
    first = [];
    last = one (OnPath call.Unlink (codes "/tmp/x"));
    parts = refl;
    own = (refl, tt);
    granted = (refl, tt);
    quiet = tt;
    text = codes "/tmp/x";
    called = refl;
    reaches = record { now = tmp_now; kept = refl; object = Slot 1 (codes "x") (Some 2); named = refl; asked = refl; allowed = refl };
  };
  freed = record {
    first = one (OnPath call.Unlink (codes "/run/pid")) ∷ [];
    last = one (OnPath call.Create (codes "/run/pid"));
    parts = refl;
    own = (refl, (refl, tt));
    granted = (refl, (refl, tt));
    quiet = (refl, tt);
    text = codes "/run/pid";
    called = refl;
    reaches = record { now = pid_now; kept = refl; object = Slot 3 (codes "pid") None; named = refl; asked = refl; allowed = refl };
  };
  at_once = record {
    first = [];
    last = one (OnPath call.OpenRead (codes "/etc/conf"));
    parts = refl;
    own = (refl, tt);
    granted = (refl, tt);
    quiet = tt;
    text = codes "/etc/conf";
    called = refl;
    reaches = record { now = pid_now; kept = refl; object = Slot 1 (codes "conf") (Some 2); named = refl; asked = refl; allowed = refl };
  };
  refused = λ way. no_answer way.granted.0;
  of_another = λ target way. no_process way.own.0;
}

-- the lines of steps, and whether steps come to a call: a name is freed, and made
abbrev pid_name : At
pid_name = at.Name (dir.Standing 3) (codes "pid")

abbrev conf_name : At
conf_name = at.Name (dir.Standing 1) (codes "conf")

-- paths that start by this root and from this directory
abbrev starts_at : ℕ → ℕ → Start
starts_at root dir = record { root = root; dir = dir }

-- `/run`, and beside it `/runs`
abbrev near_tree : Tree
near_tree = record empty_tree {
  rows = ((0, codes "run"), 1) ∷ ((0, codes "runs"), 2) ∷ ((2, codes "in"), 3) ∷ [];
  nodes = (0, directory) ∷ (1, directory) ∷ (2, directory) ∷ (3, directory) ∷ [];
  next = 4;
}

-- who has `/run` as its root, and stands in it or outside
abbrev rooted_world : World
rooted_world = record { tree = pid_tree; processes = (1, record pid_now { start = starts_at 3 3 }) ∷ [] }

abbrev open_world : World
open_world = record { tree = pid_tree; processes = (1, record pid_now { start = starts_at 3 1 }) ∷ [] }

pub record StepRows : Type 0 where
  pub line : step_text pid_tree (from_top 0) 1 0 (step.Link conf_name pid_name) ≡ codes "1 link /etc/conf /run/pid"
  pub in_what_was_made : step_text pid_tree (from_top 0) 1 3 (step.On call.Symlink (at.Name dir.Made (codes "x"))) ≡ codes "1 symlink target /run/x"
  -- from a root of its own, and from the working directory to what isn't below that
  pub from_root : step_text pid_tree (starts_at 3 0) 1 0 (step.Link conf_name pid_name) ≡ codes "1 link ../etc/conf /pid"
  pub the_root : step_text pid_tree (starts_at 3 0) 1 0 (step.On call.Chdir (at.Directory 3)) ≡ codes "1 chdir /"
  pub above_the_root : step_text pid_tree (starts_at 3 1) 1 0 (step.On call.Chdir (at.Directory 0)) ≡ codes "1 chdir ../"
  pub another_name : step_text near_tree (starts_at 1 3) 1 0 (step.On call.Stat (at.Name (dir.Standing 2) (codes "x"))) ≡ codes "1 stat ../../runs/x"
  pub chrooted : comes Standard standard_table 1 call.OpenRead (target.Node 4) (step.On call.OpenRead pid_name ∷ []) rooted_world 0 ≡ true
  pub closed : comes Standard standard_table 1 call.OpenRead (target.Node 2) (step.On call.OpenRead conf_name ∷ []) rooted_world 0 ≡ false
  pub left_open : comes Standard standard_table 1 call.OpenRead (target.Node 2) (step.On call.OpenRead conf_name ∷ []) open_world 0 ≡ true
  pub freed : comes Standard standard_table 1 call.Create (target.Name 3 (codes "pid")) (step.On call.Unlink pid_name ∷ step.On call.Create pid_name ∷ [])
      pid_world 0 ≡ true
  pub not_freed : comes Standard standard_table 1 call.Create (target.Name 3 (codes "pid")) (step.On call.Create pid_name ∷ []) pid_world 0 ≡ false
  pub refused : comes Standard standard_table 1 call.OpenWrite (target.Node 2) (step.On call.OpenWrite conf_name ∷ []) pid_world 0 ≡ false
  pub another_call : comes Standard standard_table 1 call.OpenRead (target.Node 2) (step.On call.Stat conf_name ∷ []) pid_world 0 ≡ false
  pub no_step : comes Standard standard_table 1 call.OpenRead (target.Node 2) [] pid_world 0 ≡ false

pub step_rows : StepRows
unfolding digits
step_rows = record {
  line = refl;
  in_what_was_made = refl;
  from_root = refl;
  the_root = refl;
  above_the_root = refl;
  another_name = refl;
  chrooted = refl;
  closed = refl;
  left_open = refl;
  freed = refl;
  not_freed = refl;
  refused = refl;
  another_call = refl;
  no_step = refl;
}

-- the root is `/run`, and this the working directory
abbrev pub run_rooted : ℕ → ProcessState
run_rooted dir = record pid_now { start = record { root = 3; dir = dir } }

-- lines of the list for ever about it that have a call: by OpenBSD's rules the file can come to be written, by a further name, and
-- by the standard ones it can't; a name with a veil can come to be free; tmppath lets a file go. And what lines are about
pub record ListedRows : Type 0 where
  pub by_link : is_listed (ever_lasting pid_tree openbsd_table pid_now) (target.Node 2) call.OpenWrite ≡ true
  pub without_link : is_listed (ever_lasting pid_tree standard_table pid_now) (target.Node 2) call.OpenWrite ≡ false
  pub of_the_name : is_listed (ever_lasting pid_tree standard_table pid_now) (target.Name 3 (codes "pid")) call.Create ≡ true
  pub of_no_name : is_listed (ever_lasting pid_tree standard_table pid_now) (target.Others 3) call.Create ≡ false
  pub by_tmppath : is_listed (ever_lasting tmp_tree (tmp_table openbsd_table) tmp_now) (target.Node 2) call.Unlink ≡ true
  -- where `/run` is the root of who lacks `id`, nothing outside of it ever comes, and what is inside does
  pub below_root : is_listed (shown_lasting pid_tree openbsd_table (run_rooted 3)) (target.Node 4) call.OpenWrite ≡ true
  pub outside_root : is_listed (shown_lasting pid_tree openbsd_table (run_rooted 3)) (target.Node 2) call.OpenRead ≡ false
  pub open_root : is_listed (shown_lasting pid_tree openbsd_table (run_rooted 0)) (target.Node 2) call.OpenRead ≡ true
  pub what_stands : target_about 4 (Stands (objects.At (Slot 3 (codes "pid") (Some 4)))) ≡ target.Node 4
  pub what_is_freed : target_about 4 (Stands (objects.At (Slot 3 (codes "pid") None))) ≡ target.Name 3 (codes "pid")
  pub what_comes : target_about 4 (Comes NewLink) ≡ target.NewLink 4

pub listed_rows : ListedRows
listed_rows = record {
  by_link = refl;
  without_link = refl;
  of_the_name = refl;
  of_no_name = refl;
  by_tmppath = refl;
  below_root = refl;
  outside_root = refl;
  open_root = refl;
  what_stands = refl;
  what_is_freed = refl;
  what_comes = refl;
}

-- what paths ask about
pub record AskedRows : Type 0 where
  pub root : path_question (codes "/") ≡ Some (Standing [])
  pub names : path_question (codes "/etc/conf") ≡ Some (Standing (codes "etc" ∷ codes "conf" ∷ []))
  pub made : path_question (codes "new") ≡ Some Making
  pub relative : path_question (codes "etc") ≡ None
  pub dots : path_question (codes "/etc/../etc") ≡ None
  pub slash_behind : path_question (codes "/etc/") ≡ None
  pub nothing : path_question [] ≡ None
  pub directory : targets_of pid_tree pid_now 4 (Standing (codes "run" ∷ [])) None ≡ target.Directory 3 ∷ target.Others 3 ∷ []
  pub veiled_file : targets_of pid_tree pid_now 4 (Standing (codes "run" ∷ codes "pid" ∷ [])) None
      ≡ target.Node 4 ∷ target.Name 3 (codes "pid") ∷ []
  pub of_kind : targets_of pid_tree pid_now 4 (Standing (codes "run" ∷ codes "pid" ∷ [])) (Some kind.Missing)
      ≡ target.Name 3 (codes "pid") ∷ []
  pub further : targets_of pid_tree pid_now 4 (Standing (codes "run" ∷ codes "x" ∷ [])) None ≡ target.Others 3 ∷ []
  pub behind_a_file : targets_of pid_tree pid_now 4 (Standing (codes "etc" ∷ codes "conf" ∷ codes "x" ∷ [])) None ≡ []

pub asked_rows : AskedRows
asked_rows = record {
  root = refl;
  names = refl;
  made = refl;
  relative = refl;
  dots = refl;
  slash_behind = refl;
  nothing = refl;
  directory = refl;
  veiled_file = refl;
  of_kind = refl;
  further = refl;
  behind_a_file = refl;
}
