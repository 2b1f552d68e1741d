-- Worked rows on scripts: a listing's lines, a script's lines, and the answers.
use Rattle.std.specs.Prelude.{◌≡◌, ℕ, ◌+◌, Bool, true, false, List, [], ◌∷◌, ◌++◌, Some, None, option_map, unwrap_or, Result, Ok, Err}
use Rattle.std.specs.Prelude.{codes, refl, replicate}
use Rattle.pua_tree.specs.Examples.{text_of_lines}
use Rattle.pua_tree.specs.Listing.{listing}
use Rattle.pua_tree.specs.Tree.{Tree}
use Rattle.pua_tree.specs.declared.node.Kind.TheVariants as kind
use Rattle.pua_calls.specs.Promises.{reading, writing}
use Rattle.pua_calls.specs.Calls.{CallTable, standard_table, openbsd_table}
use Rattle.pua_calls.specs.declared.rules.Rules.TheVariants.{Openbsd}
use Rattle.pua_script.specs.Requests.{Asked, comment}
use Rattle.pua_script.specs.Scripts.{request_by, script, script_by}
use Rattle.pua_policy.specs.States.{ProcessState}
use Rattle.pua_policy.specs.declared.open_file.OpenFile.{OpenFile}
use Rattle.pua_script.specs.Replay.{answers_to, kept_at, new_world, told, world_after}
use Rattle.pua_script.specs.Family.{is_exec, none_done}
use Rattle.pua_tree.specs.declared.fault.ListingFault.{ListingFault}
use Rattle.pua_path.specs.declared.errno.Errno.TheVariants.{EPERM, ENOENT, EBADF, EACCES, EAGAIN, EBUSY, EEXIST, ENOTDIR, EISDIR, EINVAL}
use Rattle.pua_path.specs.declared.errno.Errno.TheVariants.{ELOOP, ENAMETOOLONG, ENOTEMPTY, ENOSYS, ENOTSOCK, EOPNOTSUPP, EADDRINUSE, EXDEV}
use Rattle.pua_calls.specs.declared.call.Call.TheVariants as call
use Rattle.pua_script.specs.declared.request.Action.TheVariants.{OnPath, Exit}
use Rattle.pua_script.specs.declared.answer.Answer.{Answer}
use Rattle.pua_script.specs.declared.answer.Answer.TheVariants.{Okay, Failed, Killed, Gone}
use Rattle.pua_script.specs.declared.fault.ScriptFault.{ScriptFault}
use Rattle.pua_script.specs.declared.fault.ScriptFault.TheVariants.{BadLine, BadCall, BadPath, BadList}

-- the answers of a script over a listing, where both are accepted
abbrev pub answers_by : CallTable → Result Tree ListingFault → Result (List Asked) ScriptFault → List Answer
answers_by table (Ok t) (Ok asks) = answers_to table (new_world t) asks
answers_by table _ _ = []

abbrev pub answers_over : Result Tree ListingFault → Result (List Asked) ScriptFault → List Answer
answers_over tree asks = answers_by standard_table tree asks

abbrev pub answers_of : List (List ℕ) → List (List ℕ) → List Answer
answers_of tree lines = answers_over (listing (text_of_lines tree)) (script (text_of_lines lines))

-- whether no member of the family of process 1 did an exec that was answered ok
abbrev pub no_exec_over : Result Tree ListingFault → Result (List Asked) ScriptFault → Bool
no_exec_over (Ok t) (Ok asks) = none_done is_exec standard_table (new_world t) asks (1 ∷ [])
no_exec_over _ _ = true

abbrev pub has_no_exec : List (List ℕ) → List (List ℕ) → Bool
has_no_exec tree lines = no_exec_over (listing (text_of_lines tree)) (script (text_of_lines lines))

-- the root alone, and the example tree
abbrev pub root_alone : List (List ℕ)
root_alone = codes "tree 1" ∷ codes "0 dir" ∷ []

abbrev pub example : List (List ℕ)
example = codes "tree 1" ∷ codes "0 dir" ∷ codes "1 dir 0 etc" ∷ codes "2 file 1 passwd" ∷ codes "3 dir 0 tmp" ∷ codes "4 link 0 t tmp"
    ∷ codes "5 link 3 up ../etc" ∷ codes "6 link 3 self self" ∷ codes "7 prog 3 sh" ∷ []

-- a directory with files and a directory in which something stands, and a file
abbrev pub ordered_tree : List (List ℕ)
ordered_tree = root_alone ++ codes "1 dir 0 d" ∷ codes "2 file 1 f" ∷ codes "3 file 1 g" ∷ codes "4 file 0 f" ∷ codes "5 dir 1 e"
    ∷ codes "6 file 5 x" ∷ []

-- what is checked first of two things that are wrong with a rename, for each two that follow on one another
pub record RenameRows : Type 0 where
  pub promise_before_old_path : answers_of ordered_tree (codes "1 pledge stdio,error -" ∷ codes "1 rename /no/x /y" ∷ []) ≡ Okay
      ∷ Failed ENOSYS ∷ []
  pub old_path_before_new_path : answers_of ordered_tree (codes "1 rename /f/x /no/x" ∷ []) ≡ Failed ENOTDIR ∷ []
  pub new_path_before_old_cover : answers_of ordered_tree (codes "1 unveil /d rwc" ∷ codes "1 rename /f /d/f/x" ∷ []) ≡ Okay
      ∷ Failed ENOTDIR ∷ []
  pub old_cover_before_new_cover : answers_of ordered_tree (codes "1 unveil /d rwc" ∷ codes "1 unveil /d/f r" ∷ codes "1 rename /d/f /x"
      ∷ []) ≡ Okay ∷ Okay ∷ Failed EACCES ∷ []
  pub new_cover_before_missing : answers_of ordered_tree (codes "1 unveil /d rwc" ∷ codes "1 unveil /d/g r" ∷ codes "1 rename /d/no /d/g"
      ∷ []) ≡ Okay ∷ Okay ∷ Failed EACCES ∷ []
  pub missing_before_dots : answers_of ordered_tree (codes "1 rename /no /d/." ∷ []) ≡ Failed ENOENT ∷ []
  pub dots_before_top : answers_of ordered_tree (codes "1 rename / /d/." ∷ codes "1 rename /d/.. /" ∷ []) ≡ Failed EINVAL ∷ Failed EINVAL
      ∷ []
  pub top_before_same : answers_of ordered_tree (codes "1 rename / /" ∷ []) ≡ Failed EBUSY ∷ []
  pub same_before_kinds : answers_of ordered_tree (codes "1 rename /d /d" ∷ []) ≡ Okay ∷ []
  pub inside_before_kinds : answers_of ordered_tree (codes "1 rename /d /d/e" ∷ codes "1 rename /d /d/f" ∷ []) ≡ Failed EINVAL
      ∷ Failed EINVAL ∷ []
  pub not_directory_before_empty : answers_of ordered_tree (codes "1 rename /f /d" ∷ codes "1 rename /d/e /f" ∷ []) ≡ Failed EISDIR
      ∷ Failed ENOTDIR ∷ []

pub rename_rows : RenameRows
rename_rows = record {
  promise_before_old_path = refl;
  old_path_before_new_path = refl;
  new_path_before_old_cover = refl;
  old_cover_before_new_cover = refl;
  new_cover_before_missing = refl;
  missing_before_dots = refl;
  dots_before_top = refl;
  top_before_same = refl;
  same_before_kinds = refl;
  inside_before_kinds = refl;
  not_directory_before_empty = refl;
}

-- the same of a link
pub record LinkRows : Type 0 where
  pub promise_before_old_path : answers_of ordered_tree (codes "1 pledge stdio,error -" ∷ codes "1 link /no/x /y" ∷ []) ≡ Okay
      ∷ Failed ENOSYS ∷ []
  pub old_path_before_new_path : answers_of ordered_tree (codes "1 link /f/x /no/x" ∷ []) ≡ Failed ENOTDIR ∷ []
  pub new_path_before_old_cover : answers_of ordered_tree (codes "1 unveil /d rwc" ∷ codes "1 link /f /d/f/x" ∷ []) ≡ Okay ∷ Failed ENOTDIR
      ∷ []
  pub old_cover_before_new_cover : answers_of ordered_tree (codes "1 unveil /d rwc" ∷ codes "1 unveil /d/f r" ∷ codes "1 link /d/f /x" ∷ [])
      ≡ Okay ∷ Okay ∷ Failed EACCES ∷ []
  pub new_cover_before_missing : answers_of ordered_tree (codes "1 unveil /d rwc" ∷ codes "1 unveil /d/g r" ∷ codes "1 link /d/no /d/g"
      ∷ []) ≡ Okay ∷ Okay ∷ Failed EACCES ∷ []
  pub missing_before_there : answers_of ordered_tree (codes "1 link /no /f" ∷ []) ≡ Failed ENOENT ∷ []
  pub directory_before_there : answers_of ordered_tree (codes "1 link /d /f" ∷ codes "1 link / /f" ∷ []) ≡ Failed EPERM ∷ Failed EPERM ∷ []
  pub there : answers_of ordered_tree (codes "1 link /f /d" ∷ codes "1 link /f /d/." ∷ codes "1 link /f /f" ∷ []) ≡ Failed EEXIST
      ∷ Failed EEXIST ∷ Failed EEXIST ∷ []
  -- a slash at the end is a part `.` of either path
  pub final_slash : answers_of ordered_tree (codes "1 link /f/ /new" ∷ codes "1 link /f /new/" ∷ codes "1 link /f /new" ∷ [])
      ≡ Failed ENOTDIR ∷ Failed ENOENT ∷ Okay ∷ []

pub link_rows : LinkRows
link_rows = record {
  promise_before_old_path = refl;
  old_path_before_new_path = refl;
  new_path_before_old_cover = refl;
  old_cover_before_new_cover = refl;
  new_cover_before_missing = refl;
  missing_before_there = refl;
  directory_before_there = refl;
  there = refl;
  final_slash = refl;
}

-- the answers where rename and link need something else
abbrev pub answers_by_openbsd : List (List ℕ) → List (List ℕ) → List Answer
answers_by_openbsd tree lines = answers_by openbsd_table (listing (text_of_lines tree)) (script_by Openbsd (text_of_lines lines))

-- two directories, of which a process may read the one, and make names in the other
abbrev pub read_and_made : List (List ℕ)
read_and_made = codes "1 unveil /d r" ∷ codes "1 unveil /d/e rwc" ∷ codes "1 link /d/f /d/e/g" ∷ []

-- a process that may make and remove names in a directory, and not read
abbrev pub made_alone : List (List ℕ)
made_alone = codes "1 unveil /d wc" ∷ codes "1 rename /d/f /d/h" ∷ []

-- a link to a file, and a dangling one
abbrev pub file_linked : List (List ℕ)
file_linked = root_alone ++ codes "1 file 0 f" ∷ codes "2 link 0 l f" ∷ codes "3 link 0 no x" ∷ []

abbrev pub link_linked : List (List ℕ)
link_linked = codes "1 link /l /g" ∷ codes "1 readlink /g" ∷ codes "1 link /no /h" ∷ []

-- a file that is protected from writing, and a directory of the same tree in which names may be made
abbrev pub aliases_and_spool : List (List ℕ)
aliases_and_spool = root_alone ++ codes "1 dir 0 mail" ∷ codes "2 file 1 aliases" ∷ codes "3 dir 0 spool" ∷ []

abbrev pub aliases_written : List (List ℕ)
aliases_written = codes "1 unveil /mail r" ∷ codes "1 unveil /spool rwc" ∷ codes "1 unveil - -" ∷ codes "1 open-w /mail/aliases"
    ∷ codes "1 link /mail/aliases /spool/a" ∷ codes "1 open-w /spool/a" ∷ []

-- a component that is too long: in a directory that isn't there, in a file, in a directory, in the working directory; and of two paths
abbrev pub long_name : List ℕ
long_name = replicate 256 97

abbrev pub long_names : List (List ℕ)
long_names = (codes "1 stat /no/" ++ long_name) ∷ (codes "1 unveil /f/" ++ (long_name ++ codes " r"))
    ∷ (codes "1 mkdir /d/" ++ long_name) ∷ (codes "1 create " ++ long_name) ∷ (codes "1 rename /f /no/" ++ long_name) ∷ []

-- by the rules of OpenBSD and the standard ones: rename and link need what the table says of them, promises before paths
pub record PairRows : Type 0 where
  pub letters_of_link : answers_by_openbsd ordered_tree read_and_made ≡ Okay ∷ Okay ∷ Okay ∷ []
  pub standard_letters_of_link : answers_of ordered_tree read_and_made ≡ Okay ∷ Okay ∷ Failed EACCES ∷ []
  pub letters_of_rename : answers_by_openbsd ordered_tree made_alone ≡ Okay ∷ Failed EACCES ∷ []
  pub standard_letters_of_rename : answers_of ordered_tree made_alone ≡ Okay ∷ Okay ∷ []
  pub followed : answers_by_openbsd file_linked link_linked ≡ Okay ∷ Failed EINVAL ∷ Failed ENOENT ∷ []
  pub kept : answers_of file_linked link_linked ≡ Okay ∷ Okay ∷ Okay ∷ []
  pub promises_of_old : answers_by_openbsd ordered_tree (codes "1 pledge stdio,cpath,error -" ∷ codes "1 rename /no/x /y"
      ∷ codes "1 link /no/x /y" ∷ []) ≡ Okay ∷ Failed ENOSYS ∷ Failed ENOSYS ∷ []
  pub standard_promises_of_old : answers_of ordered_tree (codes "1 pledge stdio,cpath,error -" ∷ codes "1 rename /no/x /y"
      ∷ codes "1 link /no/x /y" ∷ []) ≡ Okay ∷ Failed ENOENT ∷ Failed ENOENT ∷ []
  pub promises_of_new : answers_by_openbsd ordered_tree (codes "1 pledge stdio,rpath -" ∷ codes "1 link /no/x /y" ∷ []) ≡ Okay ∷ Killed ∷ []
  -- what may be read alone is written by the name that it was given
  pub aliases : answers_by_openbsd aliases_and_spool aliases_written ≡ Okay ∷ Okay ∷ Okay ∷ Failed EACCES ∷ Okay ∷ Okay ∷ []
  pub standard_aliases : answers_of aliases_and_spool aliases_written ≡ Okay ∷ Okay ∷ Okay ∷ Failed EACCES ∷ Failed EACCES ∷ Failed ENOENT
      ∷ []
  -- another table changes nothing of the order of further checks
  pub directory_linked : answers_by_openbsd example (codes "1 link /t /u" ∷ codes "1 rename /etc /tmp" ∷ []) ≡ Failed EPERM
      ∷ Failed ENOTEMPTY ∷ []
  -- but that what is no directory isn't renamed by a path with a slash at its end
  pub slash_of_rename : answers_by_openbsd ordered_tree (codes "1 rename /f/ /y" ∷ codes "1 rename /f /y/" ∷ codes "1 rename /d/ /y/" ∷ [])
      ≡ Failed ENOTDIR ∷ Failed ENOTDIR ∷ Okay ∷ []
  pub standard_slash_of_rename : answers_of ordered_tree (codes "1 rename /f/ /y" ∷ codes "1 rename /y /f/" ∷ []) ≡ Okay ∷ Okay ∷ []
  pub dots_before_slash : answers_by_openbsd ordered_tree (codes "1 rename /f/ /d/." ∷ codes "1 rename /no/ /y" ∷ []) ≡ Failed EINVAL
      ∷ Failed ENOENT ∷ []
  pub slash_before_same : answers_by_openbsd ordered_tree (codes "1 rename /f /f/" ∷ codes "1 rename /f/ /d" ∷ []) ≡ Failed ENOTDIR
      ∷ Failed ENOTDIR ∷ []
  -- a component that is too long is judged where it stands
  pub long_where_they_stand : answers_by_openbsd ordered_tree long_names ≡ Failed ENOENT ∷ Failed ENOTDIR ∷ Failed ENAMETOOLONG
      ∷ Failed ENAMETOOLONG ∷ Failed ENOENT ∷ []
  pub standard_long : answers_of ordered_tree long_names ≡ Failed ENAMETOOLONG ∷ Failed ENAMETOOLONG ∷ Failed ENAMETOOLONG
      ∷ Failed ENAMETOOLONG ∷ Failed ENAMETOOLONG ∷ []

pub pair_rows : PairRows
pair_rows = record {
  letters_of_link = refl;
  standard_letters_of_link = refl;
  letters_of_rename = refl;
  standard_letters_of_rename = refl;
  followed = refl;
  kept = refl;
  promises_of_old = refl;
  standard_promises_of_old = refl;
  promises_of_new = refl;
  aliases = refl;
  standard_aliases = refl;
  directory_linked = refl;
  slash_of_rename = refl;
  standard_slash_of_rename = refl;
  dots_before_slash = refl;
  slash_before_same = refl;
  long_where_they_stand = refl;
  standard_long = refl;
}

-- a file system with another one in it, and directories and files on it and beside it
abbrev pub mounted_tree : List (List ℕ)
mounted_tree = codes "tree 3" ∷ codes "0 dir" ∷ codes "1 mount 0 m" ∷ codes "2 dir 1 d" ∷ codes "3 file 2 f" ∷ codes "4 file 1 g"
    ∷ codes "5 file 0 h" ∷ codes "6 dir 0 e" ∷ codes "7 mount 1 n" ∷ codes "8 dir 0 x" ∷ []

-- what stays on its file system, and what is no longer removed
pub record MountRows : Type 0 where
  -- the mount is found on the climb, wherever it is above
  pub climbed : answers_of mounted_tree (codes "1 rename /m/d/f /f" ∷ codes "1 rename /h /m/d/h" ∷ codes "1 rename /m/d /e"
      ∷ codes "1 rename /m/d/f /m/f" ∷ codes "1 rename /m/d /m/x" ∷ codes "1 rename /e /x/e" ∷ []) ≡ Failed EXDEV ∷ Failed EXDEV
      ∷ Failed EXDEV ∷ Okay ∷ Okay ∷ Okay ∷ []
  -- a mount point is on its own file system, and its name on another
  pub own : answers_of mounted_tree (codes "1 rename /m /x/m" ∷ codes "1 rename /m/n /m/d/n" ∷ codes "1 rename /m/d /m/n"
      ∷ codes "1 rename /e /m" ∷ codes "1 rename /m /m/d/x" ∷ codes "1 rename /h /m" ∷ []) ≡ Failed EXDEV ∷ Failed EXDEV ∷ Failed EXDEV
      ∷ Failed EXDEV ∷ Failed EINVAL ∷ Failed EXDEV ∷ []
  pub linked : answers_of mounted_tree (codes "1 link /m/g /g" ∷ codes "1 link /h /m/g" ∷ codes "1 link /m /x/m" ∷ codes "1 link /m/g /m/d/g"
      ∷ codes "1 link /h /m/n/h" ∷ []) ≡ Failed EXDEV ∷ Failed EEXIST ∷ Failed EPERM ∷ Okay ∷ Failed EXDEV ∷ []
  -- that a file system is mounted there comes before what stands in it
  pub removed : answers_of mounted_tree (codes "1 rmdir /m" ∷ codes "1 rmdir /m/n" ∷ codes "1 unlink /m/n" ∷ codes "1 unlink /m/d"
      ∷ codes "1 rmdir /m/d" ∷ codes "1 rmdir /e" ∷ []) ≡ Failed EBUSY ∷ Failed EBUSY ∷ Failed EBUSY ∷ Failed EPERM ∷ Failed ENOTEMPTY
      ∷ Okay ∷ []

pub mount_rows : MountRows
mount_rows = record { climbed = refl; own = refl; linked = refl; removed = refl }

-- a file that may be a socket, a link to it, and a program
abbrev pub socket_tree : List (List ℕ)
socket_tree = root_alone ++ codes "1 dir 0 run" ∷ codes "2 link 1 cur s" ∷ codes "3 file 1 s" ∷ codes "4 prog 1 p" ∷ []

-- the calls that OpenBSD's rules alone have
pub record SocketRows : Type 0 where
  -- a file may be a socket, and nothing else is one; a link is followed
  pub connected : answers_by_openbsd socket_tree (codes "1 pledge unix -" ∷ codes "1 connect /run/s" ∷ codes "1 connect /run/cur"
      ∷ codes "1 connect /run" ∷ codes "1 connect /run/p" ∷ codes "1 connect /run/x" ∷ codes "1 connect /run/s/" ∷ []) ≡ Okay ∷ Okay ∷ Okay
      ∷ Failed ENOTSOCK ∷ Failed ENOTSOCK ∷ Failed ENOENT ∷ Failed ENOTDIR ∷ []
  -- bind makes a name, and takes none; a link is kept, and what is made is removed by cpath
  pub bound : answers_by_openbsd socket_tree (codes "1 pledge unix -" ∷ codes "1 bind /run/new" ∷ codes "1 connect /run/new"
      ∷ codes "1 bind /run/new" ∷ codes "1 bind /run/cur" ∷ codes "1 bind /run/x/y" ∷ codes "1 unlink /run/new" ∷ []) ≡ Okay ∷ Okay ∷ Okay
      ∷ Failed EADDRINUSE ∷ Failed EADDRINUSE ∷ Failed ENOENT ∷ Killed ∷ []
  -- what is bound is a socket, what mknod makes is none, and neither is a file that is created
  pub of_types : answers_by_openbsd socket_tree (codes "1 bind /b" ∷ codes "1 connect /b" ∷ codes "1 open-r /b" ∷ codes "1 create /b"
      ∷ codes "1 chmod /b" ∷ codes "1 mknod /f" ∷ codes "1 open-rw /f" ∷ codes "1 connect /f" ∷ codes "1 create /c" ∷ codes "1 open-w /c"
      ∷ codes "1 connect /c" ∷ codes "1 exec /c" ∷ []) ≡ Okay ∷ Okay ∷ Failed EOPNOTSUPP ∷ Failed EOPNOTSUPP ∷ Okay ∷ Okay ∷ Okay
      ∷ Failed ENOTSOCK ∷ Okay ∷ Okay ∷ Failed ENOTSOCK ∷ Failed EACCES ∷ []
  -- connect needs `w`, bind `c`
  pub by_letters : answers_by_openbsd socket_tree (codes "1 unveil /run rw" ∷ codes "1 unveil /run/c rc" ∷ codes "1 connect /run/s"
      ∷ codes "1 bind /run/x" ∷ codes "1 bind /run/c" ∷ codes "1 connect /run/c" ∷ codes "1 connect /x" ∷ []) ≡ Okay ∷ Okay ∷ Okay
      ∷ Failed EACCES ∷ Okay ∷ Failed EACCES ∷ Failed ENOENT ∷ []
  -- mknod makes a file where nothing stands, by dpath and `c` alone; a link is kept
  pub made : answers_by_openbsd socket_tree (codes "1 pledge dpath,error -" ∷ codes "1 mknod /run/new" ∷ codes "1 mknod /run/new"
      ∷ codes "1 mknod /run" ∷ codes "1 mknod /run/cur" ∷ codes "1 mknod /x/y" ∷ codes "1 create /run/z" ∷ codes "1 bind /run/z" ∷ []) ≡ Okay
      ∷ Okay ∷ Failed EEXIST ∷ Failed EEXIST ∷ Failed EEXIST ∷ Failed ENOENT ∷ Failed ENOSYS ∷ Failed ENOSYS ∷ []
  -- chown needs rpath, and chown or fattr; a link is followed, and each kind has an owner
  pub owned : answers_by_openbsd socket_tree (codes "1 fork 2" ∷ codes "1 pledge rpath,chown -" ∷ codes "1 chown /run" ∷ codes "1 chown /run/cur"
      ∷ codes "1 chown /run/p" ∷ codes "1 chown /run/x" ∷ codes "2 pledge rpath,fattr,error -" ∷ codes "2 chown /run/s"
      ∷ codes "2 pledge fattr,error -" ∷ codes "2 chown /run/s" ∷ codes "1 pledge rpath -" ∷ codes "1 chown /run/s" ∷ []) ≡ Okay ∷ Okay ∷ Okay
      ∷ Okay ∷ Okay ∷ Failed ENOENT ∷ Okay ∷ Okay ∷ Okay ∷ Failed ENOSYS ∷ Okay ∷ Killed ∷ []
  -- mknod needs `c`, chown `w`
  pub further_letters : answers_by_openbsd socket_tree (codes "1 unveil /run rw" ∷ codes "1 unveil /run/c rc" ∷ codes "1 chown /run/s"
      ∷ codes "1 mknod /run/x" ∷ codes "1 mknod /run/c" ∷ codes "1 chown /run/c" ∷ []) ≡ Okay ∷ Okay ∷ Okay ∷ Failed EACCES ∷ Okay
      ∷ Failed EACCES ∷ []
  -- and connect and bind need unix, whatever else is held
  pub connect_by_others : answers_by_openbsd socket_tree (codes "1 pledge rpath,wpath,cpath,error -" ∷ codes "1 connect /run/s"
      ∷ codes "1 bind /run/x" ∷ []) ≡ Okay ∷ Failed ENOSYS ∷ Failed ENOSYS ∷ []
  -- by the standard rules there is no such call, and so no path of one
  pub no_call : script (text_of_lines (codes "1 connect \\x" ∷ [])) ≡ Err (BadCall 1)
  pub no_path : script_by Openbsd (text_of_lines (codes "1 connect \\x" ∷ [])) ≡ Err (BadPath 1)
  pub no_further_call : script (text_of_lines (codes "1 mknod /x" ∷ [])) ≡ Err (BadCall 1)

pub socket_rows : SocketRows
socket_rows = record {
  connected = refl;
  of_types = refl;
  bound = refl;
  by_letters = refl;
  made = refl;
  owned = refl;
  further_letters = refl;
  connect_by_others = refl;
  no_call = refl;
  no_path = refl;
  no_further_call = refl;
}

-- calls without a path, which OpenBSD's rules alone have
abbrev pub read_by_openbsd : List ℕ → Result (List Asked) ScriptFault
read_by_openbsd line = script_by Openbsd (text_of_lines (line ∷ []))

pub record UsesRows : Type 0 where
  -- one that has pledged nothing may make each; one promise of several is enough, and without any of them the process ends
  pub decided : answers_by_openbsd root_alone (codes "1 uses inet|vmm" ∷ codes "1 pledge stdio,unix -" ∷ codes "1 uses inet|unix"
      ∷ codes "1 uses unix" ∷ codes "1 uses inet|dns" ∷ codes "1 uses unix" ∷ []) ≡ Okay ∷ Okay ∷ Okay ∷ Okay ∷ Killed ∷ Gone ∷ []
  -- under `error` it lives, and what was asked for is not given to it
  pub under_error : answers_by_openbsd root_alone (codes "1 pledge stdio,error -" ∷ codes "1 uses id" ∷ codes "1 uses id"
      ∷ codes "1 uses id|stdio" ∷ codes "2 uses stdio" ∷ []) ≡ Okay ∷ Failed ENOSYS ∷ Failed ENOSYS ∷ Okay ∷ Gone ∷ []
  -- veils and the lock of veils are not asked
  pub unveiled : answers_by_openbsd root_alone (codes "1 unveil - -" ∷ codes "1 uses settime" ∷ codes "1 stat /" ∷ []) ≡ Okay ∷ Okay
      ∷ Okay ∷ []
  -- by the standard rules there is no such call
  pub standard : script (text_of_lines (codes "1 uses inet" ∷ [])) ≡ Err (BadCall 1)
  pub no_field : read_by_openbsd (codes "1 uses") ≡ Err (BadCall 1)
  pub two_fields : read_by_openbsd (codes "1 uses inet unix") ≡ Err (BadCall 1)
  -- each is a keyword, none `error`, and none stands twice
  pub unknown : read_by_openbsd (codes "1 uses inet|zpath") ≡ Err (BadList 1)
  pub error : read_by_openbsd (codes "1 uses inet|error") ≡ Err (BadList 1)
  pub twice : read_by_openbsd (codes "1 uses inet|unix|inet") ≡ Err (BadList 1)
  pub comma : read_by_openbsd (codes "1 uses inet,unix") ≡ Err (BadList 1)
  pub empty_first : read_by_openbsd (codes "1 uses |inet") ≡ Err (BadList 1)
  pub empty_last : read_by_openbsd (codes "1 uses inet|") ≡ Err (BadList 1)
  pub null : read_by_openbsd (codes "1 uses -") ≡ Err (BadList 1)
  pub nothing : read_by_openbsd (codes "1 uses =") ≡ Err (BadList 1)
  pub escaped : read_by_openbsd (codes "1 uses in\\145t") ≡ Err (BadList 1)

pub uses_rows : UsesRows
uses_rows = record {
  decided = refl;
  under_error = refl;
  unveiled = refl;
  standard = refl;
  no_field = refl;
  two_fields = refl;
  unknown = refl;
  error = refl;
  twice = refl;
  comma = refl;
  empty_first = refl;
  empty_last = refl;
  null = refl;
  nothing = refl;
  escaped = refl;
}

-- files that promises open, and a file beside them
abbrev pub opened_tree : List (List ℕ)
opened_tree = root_alone ++ codes "1 dir 0 dev" ∷ codes "2 file 1 tty" ∷ codes "3 dir 0 etc" ∷ codes "4 file 3 resolv.conf"
    ∷ codes "5 file 3 passwd" ∷ codes "6 dir 0 tmp" ∷ codes "7 file 6 x" ∷ codes "8 dir 0 usr" ∷ codes "9 dir 8 share"
    ∷ codes "10 dir 9 zoneinfo" ∷ codes "11 file 10 UTC" ∷ []

-- a directory in which one with a file stands, and a program
abbrev pub spool : List (List ℕ)
spool = codes "tree 1" ∷ codes "0 dir" ∷ codes "1 dir 0 spool" ∷ codes "2 dir 1 new" ∷ codes "3 file 2 a" ∷ codes "4 prog 0 sh" ∷ []

-- what a process has open after a script
abbrev pub files_over : Result Tree ListingFault → Result (List Asked) ScriptFault → ℕ → List (ℕ × OpenFile)
files_over (Ok t) (Ok asks) process =
    unwrap_or (option_map (λ (p : ProcessState). p.files) (kept_at (world_after openbsd_table (new_world t) asks) process)) []
files_over _ _ process = []

abbrev pub open_by_openbsd : ℕ → List (List ℕ) → List (ℕ × OpenFile)
open_by_openbsd process lines = files_over (listing (text_of_lines spool)) (script_by Openbsd (text_of_lines lines)) process

pub record FileRows : Type 0 where
  -- an open that is kept is answered as the open alone, and a descriptor that stands for nothing can't be closed
  pub held : answers_by_openbsd spool (codes "1 hold 3 open-r /spool/new/a" ∷ codes "1 hold 4 open-w /spool"
      ∷ codes "1 hold 1023 open-rw /none" ∷ codes "1 close 3" ∷ codes "1 close 3" ∷ codes "1 close 4" ∷ []) ≡ Okay ∷ Failed EISDIR
      ∷ Failed ENOENT ∷ Okay ∷ Failed EBADF ∷ Failed EBADF ∷ []
  -- it needs what the open needs
  pub promised : answers_by_openbsd spool (codes "1 pledge stdio,rpath -" ∷ codes "1 hold 3 open-r /spool/new/a"
      ∷ codes "1 hold 3 open-w /spool/new/a" ∷ codes "1 close 3" ∷ []) ≡ Okay ∷ Okay ∷ Killed ∷ Gone ∷ []
  -- fchdir asks no promise and no veil; what paths name from there the veils judge
  pub entered : answers_by_openbsd spool (codes "1 hold 3 open-r /spool/new" ∷ codes "1 hold 4 open-r /sh" ∷ codes "1 unveil /sh r"
      ∷ codes "1 unveil - -" ∷ codes "1 pledge stdio,rpath -" ∷ codes "1 fchdir 3" ∷ codes "1 stat a" ∷ codes "1 stat ../../sh"
      ∷ codes "1 fchdir 4" ∷ codes "1 fchdir 5" ∷ []) ≡ Okay ∷ Okay ∷ Okay ∷ Okay ∷ Okay ∷ Okay ∷ Failed ENOENT ∷ Okay ∷ Failed ENOTDIR
      ∷ Failed EBADF ∷ []
  -- a fork copies descriptors, an exec keeps them, and each process closes its own
  pub copied : answers_by_openbsd spool (codes "1 hold 3 open-r /spool/new/a" ∷ codes "1 fork 2" ∷ codes "2 exec /sh" ∷ codes "1 close 3"
      ∷ codes "2 close 3" ∷ codes "2 close 3" ∷ []) ≡ Okay ∷ Okay ∷ Okay ∷ Okay ∷ Okay ∷ Failed EBADF ∷ []
  -- an exec keeps them with execpromises too
  pub kept : answers_by_openbsd spool (codes "1 hold 3 open-r /spool" ∷ codes "1 pledge - stdio,rpath" ∷ codes "1 exec /sh"
      ∷ codes "1 fchdir 3" ∷ codes "1 stat new" ∷ codes "1 mkdir x" ∷ []) ≡ Okay ∷ Okay ∷ Okay ∷ Okay ∷ Okay ∷ Killed ∷ []
  -- a close is of its number alone, whatever else stands for the same node
  pub closed : answers_by_openbsd spool (codes "1 hold 3 open-r /sh" ∷ codes "1 hold 4 open-r /sh" ∷ codes "1 hold 5 open-r /sh"
      ∷ codes "1 close 4" ∷ codes "1 close 4" ∷ codes "1 close 3" ∷ codes "1 close 5" ∷ []) ≡ Okay ∷ Okay ∷ Okay ∷ Okay ∷ Failed EBADF
      ∷ Okay ∷ Okay ∷ []
  -- a hold closes what its number stood for, and one that is refused doesn't
  pub held_again : answers_by_openbsd spool (codes "1 hold 3 open-r /sh" ∷ codes "1 hold 3 open-r /spool" ∷ codes "1 fchdir 3"
      ∷ codes "1 hold 3 open-r /no" ∷ codes "1 fchdir 3" ∷ codes "1 hold 3 open-w /sh" ∷ codes "1 fchdir 3" ∷ []) ≡ Okay ∷ Okay ∷ Okay
      ∷ Failed ENOENT ∷ Okay ∷ Okay ∷ Failed ENOTDIR ∷ []
  -- what is open is so with the letters of the call, whatever the veils leave, in the order of the numbers
  pub lettered : open_by_openbsd 1 (codes "1 unveil / rwx" ∷ codes "1 hold 7 open-rw /sh" ∷ codes "1 hold 3 open-r /sh"
      ∷ codes "1 hold 0 open-w /spool/new/a" ∷ codes "1 hold 4 open-r /spool" ∷ codes "1 hold 5 open-w /spool" ∷ [])
      ≡ (0, record { node = 3; kind = kind.File; letters = writing }) ∷ (3, record { node = 4; kind = kind.Prog; letters = reading })
      ∷ (4, record { node = 1; kind = kind.Dir; letters = reading })
      ∷ (7, record { node = 4; kind = kind.Prog; letters = reading + writing }) ∷ []
  -- it stays open when its names go, and a removed directory is one
  pub outlives : answers_by_openbsd spool (codes "1 hold 3 open-r /spool/new/a" ∷ codes "1 hold 4 open-r /spool/new"
      ∷ codes "1 unlink /spool/new/a" ∷ codes "1 rename /spool/new /n" ∷ codes "1 close 3" ∷ codes "1 fchdir 4" ∷ codes "1 create x"
      ∷ codes "1 unlink /n/x" ∷ codes "1 rmdir /n" ∷ codes "1 fchdir 4" ∷ codes "1 stat ." ∷ []) ≡ Okay ∷ Okay ∷ Okay ∷ Okay ∷ Okay ∷ Okay
      ∷ Okay ∷ Okay ∷ Okay ∷ Okay ∷ Failed ENOENT ∷ []
  -- where a promise opens a path by itself, a hold is answered as the open
  pub opened : answers_by_openbsd opened_tree (codes "1 unveil /tmp r" ∷ codes "1 pledge stdio,dns -"
      ∷ codes "1 hold 3 open-r /etc/resolv.conf" ∷ codes "1 close 3" ∷ codes "1 hold 3 open-w /etc/resolv.conf" ∷ []) ≡ Okay ∷ Okay ∷ Okay
      ∷ Okay ∷ Killed ∷ []
  -- with stdio alone fchdir and close are answered
  pub unasked : answers_by_openbsd spool (codes "1 hold 3 open-r /spool" ∷ codes "1 unveil /sh x" ∷ codes "1 pledge stdio -"
      ∷ codes "1 fchdir 3" ∷ codes "1 close 3" ∷ []) ≡ Okay ∷ Okay ∷ Okay ∷ Okay ∷ Okay ∷ []
  -- what another process sends is taken: by one with recvfd from one with sendfd, and no directory where one of both was pledged
  pub taken : answers_by_openbsd spool (codes "1 hold 3 open-r /spool/new/a" ∷ codes "1 hold 4 open-r /spool" ∷ codes "1 fork 2"
      ∷ codes "2 close 3" ∷ codes "2 take 0 1 4" ∷ codes "2 take 3 1 3" ∷ codes "2 close 3" ∷ codes "1 pledge stdio,sendfd -"
      ∷ codes "2 take 5 1 4" ∷ codes "2 take 5 1 3" ∷ codes "2 take 5 1 9" ∷ codes "2 take 5 9 3" ∷ codes "1 pledge stdio -"
      ∷ codes "2 take 5 1 3" ∷ codes "2 pledge stdio -" ∷ codes "2 take 5 1 3" ∷ []) ≡ Okay ∷ Okay ∷ Okay ∷ Okay ∷ Okay ∷ Okay ∷ Okay
      ∷ Okay ∷ Failed EINVAL ∷ Okay ∷ Failed EBADF ∷ Failed EBADF ∷ Okay ∷ Failed EPERM ∷ Okay ∷ Killed ∷ []
  -- from one that has ended nothing is taken
  pub taken_late : answers_by_openbsd spool (codes "1 fork 2" ∷ codes "1 hold 3 open-r /sh" ∷ codes "1 exit" ∷ codes "2 take 3 1 3" ∷ [])
      ≡ Okay ∷ Okay ∷ Okay ∷ Failed EBADF ∷ []
  -- nor is a directory taken where the taker alone was pledged, nor anything without recvfd, under `error` too
  pub taken_pledged : answers_by_openbsd spool (codes "1 fork 2" ∷ codes "1 hold 4 open-r /spool" ∷ codes "2 pledge stdio,recvfd,error -"
      ∷ codes "2 take 5 1 4" ∷ codes "2 pledge stdio,error -" ∷ codes "1 hold 4 open-r /sh" ∷ codes "2 take 5 1 4" ∷ codes "2 close 5"
      ∷ []) ≡ Okay ∷ Okay ∷ Okay ∷ Failed EINVAL ∷ Okay ∷ Okay ∷ Failed ENOSYS ∷ Failed EBADF ∷ []
  -- it stands for the same file with the same letters, whatever the taker's veils leave, and the sender keeps its own
  pub taken_as : open_by_openbsd 2 (codes "1 fork 2" ∷ codes "1 hold 3 open-rw /sh" ∷ codes "2 unveil /spool r" ∷ codes "2 take 9 1 3"
      ∷ []) ≡ (9, record { node = 4; kind = kind.Prog; letters = reading + writing }) ∷ []
  pub taken_of : open_by_openbsd 1 (codes "1 fork 2" ∷ codes "1 hold 3 open-rw /sh" ∷ codes "2 take 9 1 3" ∷ [])
      ≡ (3, record { node = 4; kind = kind.Prog; letters = reading + writing }) ∷ []
  -- by the standard rules there are no such lines
  pub standard_hold : script (text_of_lines (codes "1 hold 3 open-r /" ∷ [])) ≡ Err (BadCall 1)
  pub standard_close : script (text_of_lines (codes "1 close 3" ∷ [])) ≡ Err (BadCall 1)
  pub standard_fchdir : script (text_of_lines (codes "1 fchdir 3" ∷ [])) ≡ Err (BadCall 1)
  pub standard_take : script (text_of_lines (codes "1 take 3 1 3" ∷ [])) ≡ Err (BadCall 1)
  -- a descriptor is 0 to 1023, and a hold opens and makes nothing
  pub above : read_by_openbsd (codes "1 close 1024") ≡ Err (BadCall 1)
  pub above_held : read_by_openbsd (codes "1 hold 1024 open-r /") ≡ Err (BadCall 1)
  pub above_taken : read_by_openbsd (codes "1 take 1024 1 3") ≡ Err (BadCall 1)
  pub above_theirs : read_by_openbsd (codes "1 take 3 1 1024") ≡ Err (BadCall 1)
  pub below : read_by_openbsd (codes "1 fchdir -1") ≡ Err (BadCall 1)
  pub no_open : read_by_openbsd (codes "1 hold 3 create /a") ≡ Err (BadCall 1)
  pub no_path : read_by_openbsd (codes "1 hold 3 open-r") ≡ Err (BadCall 1)
  pub bad_path : read_by_openbsd (codes "1 hold 3 open-r /\\000") ≡ Err (BadPath 1)
  pub two_numbers : read_by_openbsd (codes "1 close 3 4") ≡ Err (BadCall 1)
  pub no_process : read_by_openbsd (codes "1 take 3 0 4") ≡ Err (BadCall 1)
  pub four : read_by_openbsd (codes "1 take 3 1 4 5") ≡ Err (BadCall 1)

pub record RootRows : Type 0 where
  -- absolute texts start at the root, `..` at it leads to it, and the working directory stays outside until a chdir
  pub rooted : answers_by_openbsd spool (codes "1 chroot /spool" ∷ codes "1 stat /new/a" ∷ codes "1 stat /sh" ∷ codes "1 stat sh"
      ∷ codes "1 chdir /" ∷ codes "1 stat ../sh" ∷ codes "1 stat ../new" ∷ codes "1 stat sh" ∷ []) ≡ Okay ∷ Okay ∷ Failed ENOENT ∷ Okay
      ∷ Okay ∷ Failed ENOENT ∷ Okay ∷ Failed ENOENT ∷ []
  -- what is open outside leads out again
  pub leads_out : answers_by_openbsd spool (codes "1 hold 3 open-r /" ∷ codes "1 chroot /spool" ∷ codes "1 chdir /" ∷ codes "1 stat sh"
      ∷ codes "1 fchdir 3" ∷ codes "1 stat sh" ∷ codes "1 stat /sh" ∷ []) ≡ Okay ∷ Okay ∷ Okay ∷ Failed ENOENT ∷ Okay ∷ Okay
      ∷ Failed ENOENT ∷ []
  -- its promise is id, its letter that of a chdir, and it needs a directory
  pub promised : answers_by_openbsd spool (codes "1 pledge stdio,rpath,error -" ∷ codes "1 chroot /spool" ∷ codes "1 fork 2" ∷ [])
      ≡ Okay ∷ Failed ENOSYS ∷ Failed ENOSYS ∷ []
  pub identity : answers_by_openbsd spool (codes "1 pledge stdio,id -" ∷ codes "1 chroot /spool" ∷ codes "1 pledge stdio -"
      ∷ codes "1 chroot /new" ∷ []) ≡ Okay ∷ Okay ∷ Okay ∷ Killed ∷ []
  pub veiled : answers_by_openbsd spool (codes "1 unveil /spool/new r" ∷ codes "1 chroot /spool" ∷ codes "1 chroot /spool/new" ∷ [])
      ≡ Okay ∷ Failed ENOENT ∷ Okay ∷ []
  pub no_directory : answers_by_openbsd spool (codes "1 chroot /sh" ∷ codes "1 chroot /x" ∷ []) ≡ Failed ENOTDIR ∷ Failed ENOENT ∷ []
  -- a fork has the root, and an exec keeps it
  pub inherited : answers_by_openbsd spool (codes "1 fork 3" ∷ codes "1 chroot /spool" ∷ codes "1 fork 2" ∷ codes "2 stat /new"
      ∷ codes "2 stat /sh" ∷ codes "3 stat /sh" ∷ codes "2 exec sh" ∷ codes "2 stat /new" ∷ []) ≡ Okay ∷ Okay ∷ Okay ∷ Okay ∷ Failed ENOENT
      ∷ Okay ∷ Okay ∷ Okay ∷ []
  -- below a root that was removed nothing is named
  pub removed : answers_by_openbsd spool (codes "1 fork 2" ∷ codes "1 unlink /spool/new/a" ∷ codes "2 chroot /spool/new"
      ∷ codes "1 rmdir /spool/new" ∷ codes "2 stat /" ∷ codes "2 stat sh" ∷ []) ≡ Okay ∷ Okay ∷ Okay ∷ Okay ∷ Failed ENOENT ∷ Okay ∷ []
  -- by the standard rules there is no such line
  pub standard_chroot : script (text_of_lines (codes "1 chroot /" ∷ [])) ≡ Err (BadCall 1)
  pub no_path : read_by_openbsd (codes "1 chroot") ≡ Err (BadCall 1)
  pub bad_path : read_by_openbsd (codes "1 chroot /\\000") ≡ Err (BadPath 1)

pub root_rows : RootRows
root_rows = record {
  rooted = refl;
  leads_out = refl;
  promised = refl;
  identity = refl;
  veiled = refl;
  no_directory = refl;
  inherited = refl;
  removed = refl;
  standard_chroot = refl;
  no_path = refl;
  bad_path = refl;
}

pub file_rows : FileRows
file_rows = record {
  held = refl;
  promised = refl;
  entered = refl;
  copied = refl;
  kept = refl;
  closed = refl;
  held_again = refl;
  lettered = refl;
  outlives = refl;
  opened = refl;
  unasked = refl;
  taken = refl;
  taken_late = refl;
  taken_pledged = refl;
  taken_as = refl;
  taken_of = refl;
  standard_hold = refl;
  standard_close = refl;
  standard_fchdir = refl;
  standard_take = refl;
  above = refl;
  above_held = refl;
  above_taken = refl;
  above_theirs = refl;
  below = refl;
  no_open = refl;
  no_path = refl;
  bad_path = refl;
  two_numbers = refl;
  no_process = refl;
  four = refl;
}

abbrev pub exits : Asked
exits = record { process = 1; action = Exit }

abbrev pub looks : List ℕ → Asked
looks path = record { process = 1; action = OnPath call.Stat path }

pub record CommentRows : Type 0 where
  -- a comment is a line that nobody asks on, so each request stays on the line of its number
  pub alone : read_by_openbsd (codes "# x") ≡ Ok (comment ∷ [])
  pub bare : read_by_openbsd (codes "#") ≡ Ok (comment ∷ [])
  pub behind_blanks : read_by_openbsd (codes "  # x") ≡ Ok (comment ∷ [])
  pub hashes : read_by_openbsd (codes "## 1 exit") ≡ Ok (comment ∷ [])
  -- any bytes may stand in it
  pub any_bytes : request_by Openbsd 1 (35 ∷ 0 ∷ 9 ∷ 255 ∷ []) ≡ Ok comment
  pub empty : read_by_openbsd [] ≡ Ok (comment ∷ [])
  pub blanks : read_by_openbsd (codes "  ") ≡ Ok (comment ∷ [])
  -- each line ends in LF or CRLF
  pub returns : script_by Openbsd (13 ∷ 10 ∷ codes "# x" ++ 13 ∷ 10 ∷ codes "1 exit # x" ++ 13 ∷ 10 ∷ [])
      ≡ Ok (comment ∷ comment ∷ exits ∷ [])
  -- a carriage return that ends no line is no blank
  pub return_within : request_by Openbsd 1 (13 ∷ []) ≡ Err (BadLine 1)
  -- nor is a tab
  pub tab : request_by Openbsd 1 (9 ∷ []) ≡ Err (BadLine 1)
  -- behind a request, with any number of blanks before it
  pub behind : read_by_openbsd (codes "1 exit # control.c:89") ≡ Ok (exits ∷ [])
  pub far_behind : read_by_openbsd (codes "1 exit   #x") ≡ Ok (exits ∷ [])
  -- which is the one place for more than one, or for one at the end
  pub blank_last : read_by_openbsd (codes "1 exit ") ≡ Err (BadLine 1)
  -- without a blank before it a `#` is part of a field
  pub in_word : read_by_openbsd (codes "1 exit#") ≡ Err (BadCall 1)
  pub in_path : read_by_openbsd (codes "1 stat /a#b") ≡ Ok (looks (codes "/a#b") ∷ [])
  pub in_dot : read_by_openbsd (codes "1 stat ./#b") ≡ Ok (looks (codes "./#b") ∷ [])
  -- it is a visible byte, which is never spelled by digits
  pub spelled : read_by_openbsd (codes "1 stat \\043") ≡ Err (BadPath 1)
  -- what it cuts off is missing
  pub cut : read_by_openbsd (codes "1 stat #/a") ≡ Err (BadCall 1)
  pub number_alone : read_by_openbsd (codes "1 # exit") ≡ Err (BadCall 1)
  -- lines count on, and nobody's line is answered as that of a process that was never made
  pub counted : script_by Openbsd (text_of_lines (codes "# x" ∷ [] ∷ codes "1 stat" ∷ [])) ≡ Err (BadCall 3)
  pub answered : answers_by_openbsd root_alone (codes "# x" ∷ codes "1 stat /" ∷ [] ∷ codes "1 exit" ∷ []) ≡ Gone ∷ Okay ∷ Gone ∷ Okay ∷ []
  -- and it is told of no line on which nobody asks
  pub told : told (comment ∷ exits ∷ []) (Gone ∷ Okay ∷ []) ≡ None ∷ Some Okay ∷ []
  -- by the standard rules neither comments nor blank lines are read
  pub standard : script (text_of_lines (codes "# x" ∷ [])) ≡ Err (BadLine 1)
  pub standard_blank : script (text_of_lines ([] ∷ [])) ≡ Err (BadLine 1)
  pub standard_behind : script (text_of_lines (codes "1 exit # x" ∷ [])) ≡ Err (BadCall 1)

pub comment_rows : CommentRows
comment_rows = record {
  alone = refl;
  bare = refl;
  behind_blanks = refl;
  hashes = refl;
  any_bytes = refl;
  empty = refl;
  blanks = refl;
  returns = refl;
  return_within = refl;
  tab = refl;
  behind = refl;
  far_behind = refl;
  blank_last = refl;
  in_word = refl;
  in_path = refl;
  in_dot = refl;
  spelled = refl;
  cut = refl;
  number_alone = refl;
  counted = refl;
  answered = refl;
  told = refl;
  standard = refl;
  standard_blank = refl;
  standard_behind = refl;
}

abbrev pub openings_of : List (List ℕ) → List Answer
openings_of lines = answers_by_openbsd opened_tree lines

-- what is answered where a promise opens a text
pub record OpeningRows : Type 0 where
  -- it is answered ok without the promise that the call needs, and only for the calls and the texts of a row
  pub opened : openings_of (codes "1 pledge stdio,dns -" ∷ codes "1 open-r /etc/resolv.conf" ∷ codes "1 stat /etc/resolv.conf" ∷ []) ≡ Okay ∷ Okay ∷ Okay ∷ []
  pub another_call : openings_of (codes "1 pledge stdio,dns -" ∷ codes "1 open-rw /etc/resolv.conf" ∷ []) ≡ Okay ∷ Killed ∷ []
  pub beside : openings_of (codes "1 pledge dns,error -" ∷ codes "1 open-r /etc/resolv.conf.bak" ∷ codes "1 open-r /etc/resolv"
      ∷ codes "1 open-r /etc" ∷ codes "1 open-r /etc/resolv.conf/x" ∷ codes "1 open-r /x/etc/resolv.conf" ∷ codes "1 open-r etc/resolv.conf" ∷ []) ≡
      Okay ∷ Failed ENOSYS ∷ Failed ENOSYS ∷ Failed ENOSYS ∷ Failed ENOSYS ∷ Failed ENOSYS ∷ Failed ENOSYS ∷ []
  pub another_promise : openings_of (codes "1 pledge stdio,getpw -" ∷ codes "1 open-r /etc/resolv.conf" ∷ []) ≡ Okay ∷ Killed ∷ []
  -- one that was never pledged has no opening, and the standard rules know none
  pub unpledged : openings_of (codes "1 unveil /tmp r" ∷ codes "1 open-r /etc/resolv.conf" ∷ codes "1 pledge dns -"
      ∷ codes "1 open-r /etc/resolv.conf" ∷ []) ≡ Okay ∷ Failed ENOENT ∷ Okay ∷ Okay ∷ []
  pub standard : answers_of opened_tree (codes "1 pledge stdio,dns -" ∷ codes "1 open-r /etc/resolv.conf" ∷ []) ≡ Okay ∷ Killed ∷ []
  -- texts are compared in their canonical form, before a link is followed or a name looked up
  pub canonical : openings_of (codes "1 pledge stdio,dns -" ∷ codes "1 open-r /etc//./resolv.conf" ∷ codes "1 open-r /tmp/../etc/resolv.conf"
      ∷ codes "1 open-r /../etc/resolv.conf" ∷ []) ≡ Okay ∷ Okay ∷ Okay ∷ Okay ∷ []
  pub slash_at_end : openings_of (codes "1 pledge stdio,dns -" ∷ codes "1 open-r /etc/resolv.conf/" ∷ codes "1 open-r /no/../etc/resolv.conf" ∷ []) ≡
      Okay ∷ Failed ENOTDIR ∷ Failed ENOENT ∷ []
  pub below : openings_of (codes "1 pledge stdio,error -" ∷ codes "1 open-r /usr/share/zoneinfo/UTC" ∷ codes "1 open-r /usr/share/zoneinfo/../zoneinfo/UTC"
      ∷ codes "1 open-r /usr/share/zoneinfo/" ∷ codes "1 open-r /usr/share/zoneinfo" ∷ codes "1 open-r /usr/share/zoneinfo/../x"
      ∷ codes "1 open-r /usr/share/zoneinfo/../../../etc/passwd" ∷ []) ≡
      Okay ∷ Okay ∷ Okay ∷ Failed ENOSYS ∷ Failed ENOSYS ∷ Failed ENOSYS ∷ Failed ENOSYS ∷ []
  -- path and kind are judged as ever, and the process lives
  pub missing : openings_of (codes "1 pledge stdio,dns -" ∷ codes "1 open-r /etc/hosts" ∷ codes "1 open-r /etc/resolv.conf" ∷ []) ≡
      Okay ∷ Failed ENOENT ∷ Okay ∷ []
  -- past the veils, and where the veils are asked
  pub past_veils : openings_of (codes "1 unveil /tmp r" ∷ codes "1 pledge rpath,dns -" ∷ codes "1 open-r /etc/resolv.conf"
      ∷ codes "1 open-r /etc/passwd" ∷ []) ≡ Okay ∷ Okay ∷ Okay ∷ Failed ENOENT ∷ []
  pub past_letters : openings_of (codes "1 unveil /etc w" ∷ codes "1 pledge rpath,dns -" ∷ codes "1 stat /etc/resolv.conf"
      ∷ codes "1 stat /etc/passwd" ∷ []) ≡ Okay ∷ Okay ∷ Okay ∷ Failed EACCES ∷ []
  pub by_veils : openings_of (codes "1 unveil /dev/tty r" ∷ codes "1 pledge tty -" ∷ codes "1 open-r /dev/tty"
      ∷ codes "1 open-rw /dev/tty" ∷ codes "1 stat /dev/tty" ∷ []) ≡ Okay ∷ Okay ∷ Okay ∷ Failed EACCES ∷ Killed ∷ []
  pub uncovered : openings_of (codes "1 unveil /etc r" ∷ codes "1 pledge rpath,tty -" ∷ codes "1 open-r /dev/tty" ∷ []) ≡
      Okay ∷ Okay ∷ Failed ENOENT ∷ []
  -- tmppath makes and takes away files below /tmp by itself, and nothing else there, nor elsewhere
  pub made : openings_of (codes "1 pledge rpath,tmppath,error -" ∷ codes "1 create /tmp/y" ∷ codes "1 stat /tmp/y" ∷ codes "1 create-rw /tmp/z"
      ∷ codes "1 stat /etc/../tmp//z" ∷ codes "1 open-w /tmp/y" ∷ codes "1 mkdir /tmp/d" ∷ codes "1 create /y" ∷ codes "1 create /tmp/../y" ∷ []) ≡
      Okay ∷ Okay ∷ Okay ∷ Okay ∷ Okay ∷ Failed ENOSYS ∷ Failed ENOSYS ∷ Failed ENOSYS ∷ Failed ENOSYS ∷ []
  pub taken : openings_of (codes "1 pledge rpath,tmppath,error -" ∷ codes "1 unlink /tmp/x" ∷ codes "1 stat /tmp/x" ∷ codes "1 unlink /tmp/x"
      ∷ codes "1 unlink /tmp" ∷ codes "1 unlink /etc/passwd" ∷ []) ≡
      Okay ∷ Okay ∷ Failed ENOENT ∷ Failed ENOENT ∷ Failed ENOSYS ∷ Failed ENOSYS ∷ []
  pub made_by_veils : openings_of (codes "1 unveil /tmp rc" ∷ codes "1 pledge tmppath -" ∷ codes "1 create /tmp/y" ∷ codes "1 unlink /tmp/x"
      ∷ codes "1 create /y" ∷ []) ≡ Okay ∷ Okay ∷ Failed EACCES ∷ Okay ∷ Killed ∷ []
  pub not_made : openings_of (codes "1 unveil /etc rwc" ∷ codes "1 pledge tmppath -" ∷ codes "1 create /tmp/y" ∷ []) ≡
      Okay ∷ Okay ∷ Failed ENOENT ∷ []
  -- an ended process has none
  pub ended : openings_of (codes "1 pledge stdio,dns -" ∷ codes "1 mkdir /x" ∷ codes "1 open-r /etc/resolv.conf" ∷ []) ≡
      Okay ∷ Killed ∷ Gone ∷ []

pub opening_rows : OpeningRows
opening_rows = record {
  opened = refl;
  another_call = refl;
  beside = refl;
  another_promise = refl;
  unpledged = refl;
  standard = refl;
  canonical = refl;
  slash_at_end = refl;
  below = refl;
  missing = refl;
  past_veils = refl;
  past_letters = refl;
  by_veils = refl;
  uncovered = refl;
  made = refl;
  taken = refl;
  made_by_veils = refl;
  not_made = refl;
  ended = refl;
}

pub record ReplayRows : Type 0 where
  -- a link to itself is not followed without end
  pub link_loops : answers_of example (codes "1 stat /tmp/self" ∷ codes "1 lstat /tmp/self" ∷ []) ≡ Failed ELOOP ∷ Okay ∷ []
  -- a directory that is made again is another node, so its veil is gone
  pub directory_made_again : answers_of (root_alone ++ codes "1 dir 0 d" ∷ []) (codes "1 fork 2" ∷ codes "1 unveil /d rwc"
      ∷ codes "1 unveil - -" ∷ codes "2 rmdir /d" ∷ codes "2 mkdir /d" ∷ codes "1 stat /d" ∷ []) ≡ Okay ∷ Okay ∷ Okay ∷ Okay ∷ Okay
      ∷ Failed ENOENT ∷ []
  -- a file's veil stays at its name
  pub file_made_again : answers_of (root_alone ++ codes "1 file 0 f" ∷ []) (codes "1 fork 2" ∷ codes "1 unveil /f rw" ∷ codes "2 unlink /f"
      ∷ codes "1 stat /f" ∷ codes "2 create /f" ∷ codes "1 stat /f" ∷ []) ≡ Okay ∷ Okay ∷ Okay ∷ Failed ENOENT ∷ Okay ∷ Okay ∷ []
  -- under `error` a request is narrowed to what was held
  pub narrowed_under_error : answers_of root_alone (codes "1 pledge stdio,rpath,error -" ∷ codes "1 mkdir /a"
      ∷ codes "1 pledge stdio,wpath,error -" ∷ codes "1 stat /" ∷ []) ≡ Okay ∷ Failed ENOSYS ∷ Okay ∷ Failed ENOSYS ∷ []
  -- without `error` a restricted call ends the process
  pub killed : answers_of root_alone (codes "1 pledge = -" ∷ codes "1 stat /" ∷ codes "1 exit" ∷ []) ≡ Okay ∷ Killed ∷ Gone ∷ []
  -- a pledge that asks for more, or names an unknown keyword, changes nothing
  pub refused_pledges : answers_of root_alone (codes "1 pledge stdio,rpath -" ∷ codes "1 pledge stdio,rpath,wpath -"
      ∷ codes "1 pledge stdio,zpath -" ∷ codes "1 stat /" ∷ []) ≡ Okay ∷ Failed EPERM ∷ Failed EINVAL ∷ Okay ∷ []
  -- only the nearest veil counts
  pub nearest_veil : answers_of example (codes "1 unveil / r" ∷ codes "1 unveil /tmp =" ∷ codes "1 stat /tmp/sh" ∷ codes "1 stat /etc" ∷ [])
      ≡ Okay ∷ Okay ∷ Failed EACCES ∷ Okay ∷ []
  -- renames and removals in their order of checks
  pub renames : answers_of example (codes "1 rename /tmp /tmp/x" ∷ codes "1 rename /etc /tmp" ∷ codes "1 rename /etc/passwd /tmp/sh"
      ∷ codes "1 stat /etc/passwd" ∷ codes "1 rmdir /etc" ∷ codes "1 rmdir /tmp/." ∷ codes "1 rmdir /" ∷ codes "1 rmdir /t/"
      ∷ codes "1 unlink /t/" ∷ []) ≡ Failed EINVAL ∷ Failed ENOTEMPTY ∷ Okay ∷ Failed ENOENT ∷ Okay ∷ Failed EINVAL ∷ Failed EBUSY
      ∷ Failed ENOTDIR ∷ Failed EPERM ∷ []
  -- with execpromises the veils stay
  pub exec_with_promises : answers_of example (codes "1 unveil /tmp rx" ∷ codes "1 pledge stdio,rpath,exec stdio,rpath"
      ∷ codes "1 exec /tmp/sh" ∷ codes "1 stat /etc" ∷ codes "1 stat /tmp" ∷ codes "1 chmod /tmp" ∷ []) ≡ Okay ∷ Okay ∷ Okay ∷ Failed ENOENT
      ∷ Okay ∷ Killed ∷ []
  -- without execpromises the veils are dropped
  pub exec_without_promises : answers_of example (codes "1 unveil /tmp rx" ∷ codes "1 stat /etc" ∷ codes "1 exec /tmp/sh"
      ∷ codes "1 stat /etc" ∷ []) ≡ Okay ∷ Failed ENOENT ∷ Okay ∷ Okay ∷ []
  -- a relative path fails where the working directory was removed
  pub working_directory_removed : answers_of (root_alone ++ codes "1 dir 0 d" ∷ []) (codes "1 chdir /d" ∷ codes "1 rmdir /d"
      ∷ codes "1 stat ." ∷ codes "1 stat .." ∷ codes "1 stat /" ∷ []) ≡ Okay ∷ Okay ∷ Failed ENOENT ∷ Failed ENOENT ∷ Okay ∷ []
  -- create goes through a dangling link, and mkdir does not
  pub dangling_link : answers_of (root_alone ++ codes "1 link 0 l x" ∷ []) (codes "1 mkdir /l" ∷ codes "1 create /l" ∷ codes "1 lstat /x"
      ∷ codes "1 unlink /l" ∷ codes "1 stat /x" ∷ []) ≡ Failed EEXIST ∷ Okay ∷ Okay ∷ Okay ∷ Okay ∷ []
  -- the lock before the letters
  pub lock_before_letters : answers_of root_alone (codes "1 unveil - -" ∷ codes "1 unveil / q" ∷ []) ≡ Okay ∷ Failed EPERM ∷ []
  -- the promise before the lock
  pub promise_before_lock : answers_of root_alone (codes "1 unveil - -" ∷ codes "1 pledge stdio,rpath,error -" ∷ codes "1 unveil / r" ∷ [])
      ≡ Okay ∷ Okay ∷ Failed ENOSYS ∷ []
  -- of a symlink the target before the path, and the promise before both
  pub symlinks : answers_of example (codes "1 symlink = /etc/passwd/x" ∷ codes "1 pledge stdio,error -" ∷ codes "1 symlink = /x" ∷ [])
      ≡ Failed ENOENT ∷ Okay ∷ Failed ENOSYS ∷ []
  -- an unknown keyword in either argument before a promise that is not held
  pub unknown_before_increase : answers_of root_alone (codes "1 pledge stdio,rpath -" ∷ codes "1 pledge stdio,wpath zpath" ∷ []) ≡ Okay
      ∷ Failed EINVAL ∷ []
  -- unveil's checks in their order
  pub unveils : answers_of example (codes "1 unveil /etc r" ∷ codes "1 unveil /etc rw" ∷ codes "1 unveil /etc/passwd rw"
      ∷ codes "1 unveil /etc q" ∷ codes "1 unveil /no/x r" ∷ codes "1 unveil - -" ∷ codes "1 unveil /tmp r" ∷ codes "1 unveil - -" ∷ [])
      ≡ Okay ∷ Failed EPERM ∷ Okay ∷ Failed EINVAL ∷ Failed ENOENT ∷ Okay ∷ Failed EPERM ∷ Okay ∷ []
  -- a directory's veil goes with its node
  pub veil_moves : answers_of (root_alone ++ codes "1 dir 0 d" ∷ codes "2 file 1 f" ∷ []) (codes "1 fork 2" ∷ codes "1 unveil /d r"
      ∷ codes "2 rename /d /e" ∷ codes "1 stat /e/f" ∷ codes "1 stat /d" ∷ codes "1 unveil /e rw" ∷ []) ≡ Okay ∷ Okay ∷ Okay ∷ Okay
      ∷ Failed ENOENT ∷ Failed EPERM ∷ []
  -- so does one that was put by a relative path
  pub relative_veil_moves : answers_of (root_alone ++ codes "1 dir 0 d" ∷ codes "2 file 1 f" ∷ []) (codes "1 fork 2" ∷ codes "1 unveil d r"
      ∷ codes "2 rename d e" ∷ codes "1 stat e/f" ∷ codes "1 stat d" ∷ []) ≡ Okay ∷ Okay ∷ Okay ∷ Okay ∷ Failed ENOENT ∷ []
  -- a name's veil does not cover a directory
  pub name_becomes_directory : answers_of root_alone (codes "1 fork 2" ∷ codes "1 unveil /f rwc" ∷ codes "2 mkdir /f" ∷ codes "1 stat /f"
      ∷ codes "2 rmdir /f" ∷ codes "1 create /f" ∷ []) ≡ Okay ∷ Okay ∷ Okay ∷ Failed ENOENT ∷ Okay ∷ Okay ∷ []
  -- processes that were never made, and faults of a text
  pub gone_and_long : answers_of root_alone (codes "2 stat /" ∷ codes "1 fork 1" ∷ codes "1 stat ="
      ∷ codes "1 stat /aaaaaaaaaaaaaaaaaaaaaaaaaaaaaaaaaaaaaaaaaaaaaaaaaaaaaaaaaaaaaaaaaaaaaaaaaaaaaaaaaaaaaaaaaaaaaaaaaaaaaaaaaaaaaaaaaaaaaaaaaaaaaaaaaaaaaaaaaaaaaaaaaaaaaaaaaaaaaaaaaaaaaaaaaaaaaaaaaaaaaaaaaaaaaaaaaaaaaaaaaaaaaaaaaaaaaaaaaaaaaaaaaaaaaaaaaaaaaaaaaaaaaaaaaaaaaaaa" ∷ []) ≡ Gone ∷ Failed EAGAIN ∷ Failed ENOENT ∷ Failed ENAMETOOLONG ∷ []
  -- calls that fail under `error` leave the process alive
  pub error_then_unveil : answers_of example (codes "1 unveil /etc r" ∷ codes "1 pledge stdio,rpath,error -" ∷ codes "1 unveil /tmp r"
      ∷ codes "1 pledge stdio,rpath,wpath,error -" ∷ codes "1 open-w /etc/passwd" ∷ codes "1 unveil - -" ∷ codes "1 stat /etc" ∷ []) ≡ Okay
      ∷ Okay ∷ Failed ENOSYS ∷ Okay ∷ Failed ENOSYS ∷ Failed ENOSYS ∷ Okay ∷ []
  -- another process may move a file under a veil
  pub moved_by_another : answers_of example (codes "1 fork 2" ∷ codes "1 unveil /etc r" ∷ codes "1 unveil - -" ∷ codes "1 fork 3"
      ∷ codes "2 rename /tmp/sh /etc/sh" ∷ codes "1 stat /etc/sh" ∷ codes "3 stat /etc/sh" ∷ codes "3 unveil /tmp r" ∷ codes "3 stat /tmp"
      ∷ []) ≡ Okay ∷ Okay ∷ Okay ∷ Okay ∷ Okay ∷ Okay ∷ Okay ∷ Failed EPERM ∷ Failed ENOENT ∷ []
  -- what is not covered with c stays
  pub confined : answers_of example (codes "1 unveil /tmp rwc" ∷ codes "1 unveil /tmp/sh r" ∷ codes "1 unveil - -"
      ∷ codes "1 rename /tmp /x" ∷ codes "1 rename /tmp/self /tmp/z" ∷ codes "1 unlink /tmp/sh" ∷ codes "1 rename /tmp/z /tmp/sh"
      ∷ codes "1 rmdir /tmp" ∷ codes "1 unlink /etc/passwd" ∷ codes "1 stat /tmp/sh" ∷ []) ≡ Okay ∷ Okay ∷ Okay ∷ Failed ENOENT ∷ Okay
      ∷ Failed EACCES ∷ Failed EACCES ∷ Failed ENOTEMPTY ∷ Failed ENOENT ∷ Okay ∷ []
  -- a further name is not covered by the veil of the first one, and keeps the node when the first one goes
  pub second_name : answers_of (root_alone ++ codes "1 dir 0 d" ∷ codes "2 file 1 f" ∷ []) (codes "1 fork 2" ∷ codes "1 unveil /d/f r"
      ∷ codes "2 link /d/f /g" ∷ codes "1 stat /g" ∷ codes "2 unlink /d/f" ∷ codes "1 stat /d/f" ∷ codes "2 stat /g"
      ∷ codes "2 link /g /d/f" ∷ codes "1 stat /d/f" ∷ []) ≡ Okay ∷ Okay ∷ Okay ∷ Failed ENOENT ∷ Okay ∷ Failed ENOENT ∷ Okay ∷ Okay ∷ Okay
      ∷ []
  -- links, and a rename between two names of one node, which moves nothing
  pub links : answers_of (root_alone ++ codes "1 dir 0 d" ∷ codes "2 file 1 f" ∷ []) (codes "1 link /d/f /g" ∷ codes "1 rename /g /d/f"
      ∷ codes "1 stat /g" ∷ codes "1 link /d /e" ∷ codes "1 link /g /d/f" ∷ codes "1 link /nope /h" ∷ codes "1 link /g /h"
      ∷ codes "1 unlink /g" ∷ codes "1 stat /h" ∷ []) ≡ Okay ∷ Okay ∷ Okay ∷ Failed EPERM ∷ Failed EEXIST ∷ Failed ENOENT ∷ Okay ∷ Okay
      ∷ Okay ∷ []
  -- a symbolic link at the old path's end is not followed: it is what gets the further name
  pub link_kept : answers_of example (codes "1 link /tmp/self /l" ∷ codes "1 lstat /l" ∷ codes "1 link /t /u" ∷ codes "1 readlink /u"
      ∷ codes "1 rmdir /u" ∷ []) ≡ Okay ∷ Okay ∷ Okay ∷ Okay ∷ Failed ENOTDIR ∷ []
  -- a number is used once, and an ended process is gone
  pub forks_and_exits : answers_of root_alone (codes "1 fork 2" ∷ codes "1 fork 2" ∷ codes "2 exit" ∷ codes "2 stat /" ∷ codes "2 fork 3"
      ∷ codes "1 fork 3" ∷ []) ≡ Okay ∷ Failed EAGAIN ∷ Okay ∷ Gone ∷ Gone ∷ Okay ∷ []

pub replay_rows : ReplayRows
replay_rows = record {
  link_loops = refl;
  directory_made_again = refl;
  file_made_again = refl;
  narrowed_under_error = refl;
  killed = refl;
  refused_pledges = refl;
  nearest_veil = refl;
  renames = refl;
  exec_with_promises = refl;
  exec_without_promises = refl;
  working_directory_removed = refl;
  dangling_link = refl;
  lock_before_letters = refl;
  promise_before_lock = refl;
  symlinks = refl;
  unknown_before_increase = refl;
  unveils = refl;
  veil_moves = refl;
  relative_veil_moves = refl;
  name_becomes_directory = refl;
  gone_and_long = refl;
  error_then_unveil = refl;
  moved_by_another = refl;
  confined = refl;
  second_name = refl;
  links = refl;
  link_kept = refl;
  forks_and_exits = refl;
}

-- a locked process whose exec drops its lock and its veils: it reaches what it did not before, so the laws on families leave it out
abbrev pub exec_of_locked : List (List ℕ)
exec_of_locked = codes "1 unveil /tmp rx" ∷ codes "1 unveil - -" ∷ codes "1 stat /etc" ∷ codes "1 exec /tmp/sh" ∷ codes "1 stat /etc" ∷ []

-- a program that starts another with the promises that it was started with
abbrev pub exec_twice : List (List ℕ)
exec_twice = codes "1 unveil /tmp rx" ∷ codes "1 pledge - stdio,rpath,exec" ∷ codes "1 exec /tmp/sh" ∷ codes "1 exec /tmp/sh"
    ∷ codes "1 stat /etc" ∷ codes "1 mkdir /tmp/x" ∷ []

pub record ExecRows : Type 0 where
  pub reaches_more : answers_of example exec_of_locked ≡ Okay ∷ Okay ∷ Failed ENOENT ∷ Okay ∷ Okay ∷ []
  pub left_out : has_no_exec example exec_of_locked ≡ false
  -- an exec that fails is none, and one of another process is none of the family
  pub failed : has_no_exec example (codes "1 exec /no" ∷ []) ≡ true
  pub other : has_no_exec example (codes "2 exec /tmp/sh" ∷ []) ≡ true
  -- execpromises that stay bind the second program too, and its veils stay with them
  pub stay : answers_by_openbsd example exec_twice ≡ Okay ∷ Okay ∷ Okay ∷ Okay ∷ Failed ENOENT ∷ Killed ∷ []
  pub unset : answers_of example exec_twice ≡ Okay ∷ Okay ∷ Okay ∷ Okay ∷ Okay ∷ Okay ∷ []

pub exec_rows : ExecRows
exec_rows = record { reaches_more = refl; left_out = refl; failed = refl; other = refl; stay = refl; unset = refl }

-- what is no script
abbrev pub fault_of : List ℕ → Result (List Asked) ScriptFault
fault_of line = script (text_of_lines (line ∷ []))

pub record ScriptRows : Type 0 where
  pub process_zero : fault_of (codes "0 stat /") ≡ Err (BadLine 1)
  pub unknown_call : fault_of (codes "1 touch /") ≡ Err (BadCall 1)
  pub bad_new_process : fault_of (codes "1 fork x") ≡ Err (BadCall 1)
  pub no_path : fault_of (codes "1 stat") ≡ Err (BadCall 1)
  pub nul_in_path : fault_of (codes "1 stat /\\000") ≡ Err (BadPath 1)
  pub empty_word : fault_of (codes "1 pledge stdio,,rpath -") ≡ Err (BadList 1)
  pub null_path : fault_of (codes "1 unveil - r") ≡ Err (BadList 1)
  pub null_perms : fault_of (codes "1 unveil /a -") ≡ Err (BadList 1)
  -- by OpenBSD's rules
  pub unknown_there : script_by Openbsd (codes "1 touch /") ≡ Err (BadCall 1)
  pub line_there : request_by Openbsd 7 (codes "1 touch /") ≡ Err (BadCall 7)

pub script_rows : ScriptRows
script_rows = record {
  process_zero = refl;
  unknown_call = refl;
  bad_new_process = refl;
  no_path = refl;
  nul_in_path = refl;
  empty_word = refl;
  null_path = refl;
  null_perms = refl;
  unknown_there = refl;
  line_there = refl;
}
