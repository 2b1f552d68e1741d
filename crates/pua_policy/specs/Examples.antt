-- Worked rows on covers and verdicts over the example tree.
use Rattle.std.specs.Prelude.{◌≡◌, ◌+◌, ◌-◌, ◌^◌, true, false, [], ◌∷◌, Some, None, Ok, Err, codes, map, filter, refl}
use Rattle.pua_tree.specs.Tree.{empty_tree}
use Rattle.pua_tree.specs.Examples.{example_tree}
use Rattle.pua_tree.specs.declared.node.Kind.TheVariants as kind
use Rattle.pua_tree.specs.declared.node.Kind.TheVariants.{Known}
use Rattle.pua_tree.specs.declared.node.FileType.TheVariants.{Plain, Fifo, Dev}
use Rattle.pua_calls.specs.Promises.{promises_of, perms_of, lacking, reading, writing, rpath, wpath, error, cpath, fattr}
use Rattle.pua_calls.specs.Calls.{call_count, calls, execpromises_by, standard_table, openbsd_table}
use Rattle.pua_calls.specs.declared.rules.Rules.TheVariants.{Standard, Openbsd}
use Rattle.pua_calls.specs.CallSets.{calls_in, keeps_link}
use Rattle.pua_policy.specs.Objects.{object_seen}
use Rattle.pua_policy.specs.States.{Pledged, Unveiled, Locked, Ended}
use Rattle.pua_policy.specs.History.{History, new_history, state_of, held_set, held_for_exec, pledge_fault, unveil_fault, veils, may_any}
use Rattle.pua_policy.specs.History.{pledged_set, after_exec}
use Rattle.pua_policy.specs.Misfits.{misfit}
use Rattle.pua_policy.specs.Reasons.{Holds, HasEnded, Lacks, promising, covering}
use Rattle.pua_policy.specs.Verdict.{cover, verdict_on, object_of, object_fault, rmdir_fault, IsDir, Is, IsFile, IsSock, IsProg, IsLink, IsMissing}
use Rattle.pua_path.specs.declared.errno.Errno.TheVariants.{EACCES, EPERM, EINVAL, ENOENT, EBUSY, EEXIST, ENOTDIR, EISDIR, ENOTEMPTY}
use Rattle.pua_path.specs.declared.errno.Errno.TheVariants.{ENOTSOCK, EOPNOTSUPP, EADDRINUSE}
use Rattle.pua_path.specs.declared.found.Way.TheVariants as way
use Rattle.pua_path.specs.declared.found.Found.TheVariants as found
use Rattle.pua_calls.specs.declared.call.Call.TheVariants.{Stat, Lstat, Readlink, Mkdir, Rmdir, Unlink, Symlink, Exec, Chmod, Bind, Mknod, Chown}
use Rattle.pua_calls.specs.declared.call.Call.TheVariants.{CreateBoth, Fchmod, Fchown}
use Rattle.pua_policy.specs.declared.object.Object.TheVariants as see
use Rattle.pua_policy.specs.declared.place.Place.TheVariants.{Dir, Slot}
use Rattle.pua_policy.specs.declared.reason.Covering.TheVariants.{InView, NoneOver, By}
use Rattle.pua_calls.specs.declared.fits.Misfit.TheVariants.{Exists, IsDirectory, IsNoFile, IsNoDirectory, IsNoLink, IsNoProgram}
use Rattle.pua_calls.specs.declared.fits.Misfit.TheVariants.{IsNotEmpty, ByDotDot, IsNoSocket, InUse}
use Rattle.pua_policy.specs.declared.answer.UnveilFault.TheVariants.{NotPermitted}
use Rattle.pua_policy.specs.declared.answer.Cover.TheVariants.{Only}
use Rattle.pua_policy.specs.declared.answer.May.TheVariants as may
use Rattle.pua_policy.specs.declared.answer.Verdict.TheVariants.{Allowed, Failed, Death}

-- veils on the root, on a directory in it and on a file
abbrev pub three_veils : History
three_veils = Unveiled (Slot 1 (codes "passwd")) (reading + writing) ∷ Unveiled (Dir 3) 0 ∷ Unveiled (Dir 0) reading ∷ new_history

pub record CoverRows : Type 0 where
  pub beneath_root : cover example_tree (state_of three_veils) (found.Whole 1 (way.Named 0 (codes "etc"))) ≡ Only reading
  pub beneath_nearer : cover example_tree (state_of three_veils) (found.Slot 3 (codes "sh") (Some 7)) ≡ Only 0
  pub own : cover example_tree (state_of three_veils) (found.Slot 1 (codes "passwd") (Some 2)) ≡ Only (reading + writing)
  pub missing : cover example_tree (state_of three_veils) (found.Slot 1 (codes "x") None) ≡ Only reading
  pub own_alone : cover example_tree (state_of (Unveiled (Slot 1 (codes "passwd")) writing ∷ three_veils)) (found.Slot 1 (codes "passwd") (Some 2))
      ≡ Only writing
  -- no veil is kept over it
  pub own_without_others : cover example_tree (state_of (Unveiled (Slot 1 (codes "passwd")) writing ∷ new_history))
      (found.Slot 1 (codes "passwd") (Some 2)) ≡ Only writing
  pub increase : unveil_fault three_veils (Dir 3) reading ≡ Some NotPermitted
  pub locked : unveil_fault (Locked ∷ three_veils) (Dir 0) 0 ≡ Some NotPermitted
  pub reduction : unveil_fault three_veils (Dir 0) 0 ≡ None
  pub replaced : veils (Unveiled (Dir 0) 0 ∷ three_veils) ≡ (Dir 0, 0) ∷ (Dir 3, 0) ∷ (Slot 1 (codes "passwd"), reading + writing) ∷ []

pub cover_rows : CoverRows
cover_rows = record {
  beneath_root = refl;
  beneath_nearer = refl;
  own = refl;
  missing = refl;
  own_alone = refl;
  own_without_others = refl;
  increase = refl;
  locked = refl;
  reduction = refl;
  replaced = refl;
}

-- a veil on the root and none of its permissions on a directory
abbrev pub root_veiled : History
root_veiled = Unveiled (Dir 3) 0 ∷ Unveiled (Dir 0) reading ∷ new_history

-- a pledge that keeps `error`, and one that is narrowed by it
abbrev pub with_error : History
with_error = Pledged (Some (rpath + error)) None ∷ Pledged None (Some rpath) ∷ new_history

abbrev pub narrowed_history : History
narrowed_history = Pledged (Some (rpath + wpath)) (Some wpath) ∷ with_error

pub record VerdictRows : Type 0 where
  pub veiled : verdict_on example_tree standard_table (state_of root_veiled) Stat (codes "/tmp/sh") ≡ Failed EACCES
  pub unveiled : verdict_on example_tree standard_table (state_of root_veiled) Stat (codes "/etc") ≡ Allowed
  -- something stands there too
  pub cover_before_kind : verdict_on example_tree standard_table (state_of root_veiled) Mkdir (codes "/tmp/sh") ≡ Failed EACCES
  pub exec_increase : pledge_fault Standard (Pledged None (Some rpath) ∷ new_history) None (Some (rpath + wpath)) ≡ Some EPERM
  pub first_promises : pledge_fault Standard (Pledged None (Some rpath) ∷ new_history) (Some (rpath + error)) None ≡ None
  pub under_error : pledge_fault Standard with_error (Some (rpath + wpath)) (Some wpath) ≡ None
  -- by OpenBSD's rules `error` lets the promises alone ask for more
  pub promises_under_error : pledge_fault Openbsd with_error (Some (rpath + wpath)) (Some rpath) ≡ None
  pub exec_under_error : pledge_fault Openbsd with_error (Some rpath) (Some wpath) ≡ Some EPERM
  pub promises : held_set narrowed_history ≡ rpath
  pub execpromises : held_for_exec narrowed_history ≡ Some 0
  pub lacking : may_any narrowed_history (wpath ∷ []) ≡ may.Death
  pub keywords : promises_of (codes "stdio,rpath,error,rpath") ≡ Ok (2 ^ 25 + rpath + error)
  pub unknown_keyword : promises_of (codes "stdio,zpath") ≡ Err EINVAL
  pub letters : perms_of (codes "wrr") ≡ Ok (reading + writing)
  pub unknown_letter : perms_of (codes "q") ≡ Err EINVAL

pub verdict_rows : VerdictRows
verdict_rows = record {
  veiled = refl;
  unveiled = refl;
  cover_before_kind = refl;
  exec_increase = refl;
  first_promises = refl;
  under_error = refl;
  promises_under_error = refl;
  exec_under_error = refl;
  promises = refl;
  execpromises = refl;
  lacking = refl;
  keywords = refl;
  unknown_keyword = refl;
  letters = refl;
  unknown_letter = refl;
}

-- the last check, call by call and object by object
pub record LastCheckRows : Type 0 where
  pub directory : map (λ call. object_fault Standard example_tree call (IsDir 1 (way.Named 0 (codes "etc")))) calls
      ≡ None ∷ None ∷ Some EINVAL ∷ None ∷ Some EISDIR ∷ Some EISDIR ∷ Some EISDIR ∷ Some EEXIST ∷ Some ENOTEMPTY ∷ Some EPERM ∷ Some EEXIST
      ∷ None ∷ None ∷ Some EACCES ∷ Some ENOTSOCK ∷ Some EADDRINUSE ∷ Some EEXIST ∷ None ∷ Some EISDIR ∷ None ∷ None ∷ []
  pub file : map (λ call. object_fault Standard example_tree call IsFile) calls
      ≡ None ∷ None ∷ Some EINVAL ∷ None ∷ None ∷ None ∷ None ∷ Some EEXIST ∷ Some ENOTDIR ∷ None ∷ Some EEXIST ∷ None ∷ Some ENOTDIR
      ∷ Some EACCES ∷ None ∷ Some EADDRINUSE ∷ Some EEXIST ∷ None ∷ None ∷ None ∷ None ∷ []
  pub socket : map (λ call. object_fault Standard example_tree call IsSock) calls
      ≡ None ∷ None ∷ Some EINVAL ∷ Some EOPNOTSUPP ∷ Some EOPNOTSUPP ∷ Some EOPNOTSUPP ∷ Some EOPNOTSUPP ∷ Some EEXIST ∷ Some ENOTDIR ∷ None
      ∷ Some EEXIST ∷ None ∷ Some ENOTDIR ∷ Some EACCES ∷ None ∷ Some EADDRINUSE ∷ Some EEXIST ∷ None ∷ Some EOPNOTSUPP ∷ Some EOPNOTSUPP
      ∷ Some EOPNOTSUPP ∷ []
  -- of another known type; it is one row, which each of the three has
  pub no_socket : map (λ call. object_fault Standard example_tree call (Is (Known Plain))) calls
      ≡ None ∷ None ∷ Some EINVAL ∷ None ∷ None ∷ None ∷ None ∷ Some EEXIST ∷ Some ENOTDIR ∷ None ∷ Some EEXIST ∷ None ∷ Some ENOTDIR
      ∷ Some EACCES ∷ Some ENOTSOCK ∷ Some EADDRINUSE ∷ Some EEXIST ∷ None ∷ None ∷ None ∷ None ∷ []
  pub fifo : map (λ call. object_fault Standard example_tree call (Is (Known Fifo))) calls
      ≡ map (λ call. object_fault Standard example_tree call (Is (Known Plain))) calls
  pub device : map (λ call. object_fault Standard example_tree call (Is (Known Dev))) calls
      ≡ map (λ call. object_fault Standard example_tree call (Is (Known Plain))) calls
  pub program : map (λ call. object_fault Standard example_tree call IsProg) calls
      ≡ None ∷ None ∷ Some EINVAL ∷ None ∷ None ∷ None ∷ None ∷ Some EEXIST ∷ Some ENOTDIR ∷ None ∷ Some EEXIST ∷ None ∷ Some ENOTDIR ∷ None
      ∷ Some ENOTSOCK ∷ Some EADDRINUSE ∷ Some EEXIST ∷ None ∷ None ∷ None ∷ None ∷ []
  pub link : map (λ call. object_fault Standard example_tree call IsLink) (filter keeps_link calls)
      ≡ None ∷ None ∷ Some EEXIST ∷ Some ENOTDIR ∷ None ∷ Some EEXIST ∷ Some EADDRINUSE ∷ Some EEXIST ∷ []
  pub missing_name : map (λ call. object_fault Standard example_tree call IsMissing) calls
      ≡ Some ENOENT ∷ Some ENOENT ∷ Some ENOENT ∷ Some ENOENT ∷ Some ENOENT ∷ Some ENOENT ∷ None ∷ None ∷ Some ENOENT ∷ Some ENOENT ∷ None
      ∷ Some ENOENT ∷ Some ENOENT ∷ Some ENOENT ∷ Some ENOENT ∷ None ∷ None ∷ Some ENOENT ∷ None ∷ Some ENOENT ∷ Some ENOENT ∷ []
  pub by_dot : rmdir_fault Standard example_tree 1 way.Dot ≡ Some EINVAL
  pub by_dots : rmdir_fault Standard example_tree 1 way.DotDot ≡ Some EINVAL
  -- OpenBSD's rules look at the directory that `..` names; only the root can be empty
  pub openbsd_by_dots : rmdir_fault Openbsd example_tree 1 way.DotDot ≡ Some ENOTEMPTY
  pub openbsd_above_nothing : rmdir_fault Openbsd empty_tree 0 way.DotDot ≡ Some EINVAL
  pub openbsd_by_dot : rmdir_fault Openbsd example_tree 1 way.Dot ≡ Some EINVAL
  pub at_top : rmdir_fault Standard example_tree 0 way.Top ≡ Some EBUSY
  pub empty_directory : rmdir_fault Standard empty_tree 0 (way.Named 0 (codes "d")) ≡ None

pub last_check_rows : LastCheckRows
last_check_rows = record {
  directory = refl;
  file = refl;
  socket = refl;
  no_socket = refl;
  fifo = refl;
  device = refl;
  program = refl;
  link = refl;
  missing_name = refl;
  by_dot = refl;
  by_dots = refl;
  openbsd_by_dots = refl;
  openbsd_above_nothing = refl;
  openbsd_by_dot = refl;
  at_top = refl;
  empty_directory = refl;
}

-- sets of calls, and directories as a verdict sees them
pub record SetRows : Type 0 where
  pub first_and_last : calls_in (2 ^ 0 + 2 ^ (call_count - 1)) ≡ Stat ∷ Fchown ∷ []
  pub no_calls : calls_in 0 ≡ []
  pub all_calls : calls_in (2 ^ call_count - 1) ≡ calls
  pub on_links : filter keeps_link calls ≡ Lstat ∷ Readlink ∷ Mkdir ∷ Rmdir ∷ Unlink ∷ Symlink ∷ Bind ∷ Mknod ∷ []
  pub link : object_seen example_tree (object_of example_tree (found.Slot 3 (codes "up") (Some 5))) ≡ see.Node kind.Link
  pub with_rows : object_seen example_tree (IsDir 1 (way.Named 0 (codes "etc"))) ≡ see.Node kind.Dir
  pub without_rows : object_seen empty_tree (IsDir 0 (way.Named 0 (codes "d"))) ≡ see.Removable
  pub by_dot : object_seen empty_tree (IsDir 0 way.Dot) ≡ see.Node kind.Dir

pub set_rows : SetRows
set_rows = record {
  first_and_last = refl;
  no_calls = refl;
  all_calls = refl;
  on_links = refl;
  link = refl;
  with_rows = refl;
  without_rows = refl;
  by_dot = refl;
}

-- why something is allowed or not
pub record ReasonRows : Type 0 where
  pub lacks : lacking (reading + 4) (reading + writing + 8) ≡ writing + 8
  pub first_held : promising (state_of narrowed_history) (wpath ∷ rpath ∷ 0 ∷ []) ≡ Holds rpath
  pub none_held : promising (state_of with_error) (wpath ∷ (rpath + wpath) ∷ []) ≡ Lacks true (wpath ∷ wpath ∷ [])
  pub no_error : promising (state_of narrowed_history) (wpath ∷ []) ≡ Lacks false (wpath ∷ [])
  pub ended : promising (state_of (Ended ∷ narrowed_history)) (rpath ∷ []) ≡ HasEnded
  pub in_view : covering example_tree (state_of new_history) (found.Whole 1 (way.Named 0 (codes "etc"))) ≡ InView
  pub own_veil : covering example_tree (state_of three_veils) (found.Slot 1 (codes "passwd") (Some 2)) ≡ By (Slot 1 (codes "passwd"))
      (reading + writing)
  pub nearer_veil : covering example_tree (state_of three_veils) (found.Slot 3 (codes "sh") (Some 7)) ≡ By (Dir 3) 0
  pub root_veil : covering example_tree (state_of three_veils) (found.Slot 1 (codes "x") None) ≡ By (Dir 0) reading
  pub none_over : covering example_tree (state_of (Unveiled (Dir 3) reading ∷ new_history)) (found.Whole 1 (way.Named 0 (codes "etc"))) ≡ NoneOver
  pub directory : map (λ call. misfit Standard example_tree call (IsDir 1 (way.Named 0 (codes "etc")))) calls
      ≡ None ∷ None ∷ Some IsNoLink ∷ None ∷ Some IsDirectory ∷ Some IsDirectory ∷ Some IsDirectory ∷ Some Exists ∷ Some IsNotEmpty
      ∷ Some IsNoFile ∷ Some Exists ∷ None ∷ None ∷ Some IsNoProgram ∷ Some IsNoSocket ∷ Some InUse
      ∷ Some Exists ∷ None ∷ Some IsDirectory ∷ None ∷ None ∷ []
  pub file : map (λ call. misfit Standard example_tree call IsFile) (Rmdir ∷ Unlink ∷ Exec ∷ Bind ∷ Mknod ∷ Chown ∷ CreateBoth ∷ Fchmod ∷ Fchown ∷ [])
      ≡ Some IsNoDirectory ∷ None ∷ Some IsNoProgram ∷ Some InUse ∷ Some Exists ∷ None ∷ None ∷ None ∷ None ∷ []

pub reason_rows : ReasonRows
reason_rows = record {
  lacks = refl;
  first_held = refl;
  none_held = refl;
  no_error = refl;
  ended = refl;
  in_view = refl;
  own_veil = refl;
  nearer_veil = refl;
  root_veil = refl;
  none_over = refl;
  directory = refl;
  file = refl;
}

abbrev pub fattr_alone : History
fattr_alone = Pledged (Some fattr) None ∷ new_history

abbrev pub both_for_exec : History
both_for_exec = Pledged None (Some (rpath + cpath)) ∷ new_history

-- where OpenBSD's rules answer otherwise than the standard ones
pub record RuleRows : Type 0 where
  pub chmod : verdict_on example_tree openbsd_table (state_of fattr_alone) Chmod (codes "/etc") ≡ Death
  pub standard_chmod : verdict_on example_tree standard_table (state_of fattr_alone) Chmod (codes "/etc") ≡ Allowed
  -- what is not empty is named, and the errno says so
  pub parent_misfit : misfit Openbsd example_tree Rmdir (IsDir 1 way.DotDot) ≡ Some IsNotEmpty
  pub standard_parent_misfit : misfit Standard example_tree Rmdir (IsDir 1 way.DotDot) ≡ Some ByDotDot
  pub parent : verdict_on example_tree openbsd_table (state_of new_history) Rmdir (codes "/etc/..") ≡ Failed ENOTEMPTY
  pub standard_parent : verdict_on example_tree standard_table (state_of new_history) Rmdir (codes "/etc/..") ≡ Failed EINVAL
  -- execpromises stay after an exec, for the next one
  pub exec_promises : pledged_set (after_exec (execpromises_by Openbsd) both_for_exec) ≡ Some (rpath + cpath)
  pub exec_stay : held_for_exec (after_exec (execpromises_by Openbsd) both_for_exec) ≡ Some (rpath + cpath)
  pub standard_exec_promises : pledged_set (after_exec (execpromises_by Standard) both_for_exec) ≡ Some (rpath + cpath)
  pub standard_exec_unset : held_for_exec (after_exec (execpromises_by Standard) both_for_exec) ≡ None
  pub none_given : after_exec (execpromises_by Openbsd) new_history ≡ new_history

pub rule_rows : RuleRows
rule_rows = record {
  chmod = refl;
  standard_chmod = refl;
  parent_misfit = refl;
  standard_parent_misfit = refl;
  parent = refl;
  standard_parent = refl;
  exec_promises = refl;
  exec_stay = refl;
  standard_exec_promises = refl;
  standard_exec_unset = refl;
  none_given = refl;
}
