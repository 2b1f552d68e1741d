-- Worked rows on reasons: what `--why` says of scripts.
use Rattle.std.specs.Prelude.{◌≡◌, ℕ, List, [], ◌∷◌, ◌++◌, map, Option, Some, None, option_map, Result, Ok, codes, refl}
use Rattle.std.specs.Fmt.{digits}
use Rattle.pua_tree.specs.Examples.{text_of_lines}
use Rattle.pua_tree.specs.Listing.{listing}
use Rattle.pua_tree.specs.Limits.{number_end}
use Rattle.pua_tree.specs.Tree.{Tree, empty_tree}
use Rattle.pua_tree.specs.declared.fault.ListingFault.{ListingFault}
use Rattle.pua_path.specs.Traces.{trace_from}
use Rattle.pua_calls.specs.Calls.{table_by_rules}
use Rattle.pua_calls.specs.declared.rules.Rules.{Rules}
use Rattle.pua_calls.specs.declared.rules.Rules.TheVariants.{Standard, Openbsd}
use Rattle.pua_script.specs.Requests.{Asked}
use Rattle.pua_script.specs.Scripts.{script, script_by}
use Rattle.pua_script.specs.Replay.{new_world}
use Rattle.pua_script.specs.declared.fault.ScriptFault.{ScriptFault}
use Rattle.pua_script.specs.Examples.{root_alone, example, ordered_tree}
use Rattle.pua_why.specs.Openings.{told_text, told_to}
use Rattle.pua_why.specs.Texts.{why_lines, chain, promises_text}

abbrev pub lines_over : Rules → Result Tree ListingFault → Result (List Asked) ScriptFault → List (List ℕ)
lines_over rules (Ok t) (Ok asks) = why_lines (table_by_rules rules) (new_world t) [] 1 asks
lines_over rules _ _ = []

abbrev pub why_by : Rules → List (List ℕ) → List (List ℕ) → List (List ℕ)
why_by rules tree lines = lines_over rules (listing (text_of_lines tree)) (script_by rules (text_of_lines lines))

abbrev pub why_of : List (List ℕ) → List (List ℕ) → List (List ℕ)
why_of tree lines = why_by Standard tree lines

abbrev pub chain_over : Rules → Result Tree ListingFault → Result (List Asked) ScriptFault → Result (List Asked) ScriptFault →
    List (List ℕ)
chain_over rules (Ok t) (Ok asks) (Ok (ask ∷ more)) = chain (table_by_rules rules) (new_world t) asks ask
chain_over rules _ _ _ = []

abbrev pub chain_by : Rules → List (List ℕ) → List (List ℕ) → List ℕ → List (List ℕ)
chain_by rules tree lines line =
    chain_over rules (listing (text_of_lines tree)) (script_by rules (text_of_lines lines)) (script_by rules (text_of_lines (line ∷ [])))

abbrev pub chain_of : List (List ℕ) → List (List ℕ) → List ℕ → List (List ℕ)
chain_of tree lines line = chain_by Standard tree lines line

abbrev pub with_dir : List (List ℕ)
with_dir = root_alone ++ codes "1 dir 0 d" ∷ []

-- what `run --why` and `why` print
pub record WhyRows : Type 0 where
  pub letters : why_of example (codes "1 unveil /etc r" ∷ codes "1 open-w /etc/passwd" ∷ []) ≡
      codes "1 ok" ∷ codes "2 EACCES no w in veil r on /etc since line 1" ∷ []
  pub no_veil : why_of example (codes "1 unveil /etc r" ∷ codes "1 stat /tmp/sh" ∷ codes "1 stat /tmp/up/passwd" ∷ []) ≡
      codes "1 ok" ∷ codes "2 ENOENT no veil on /tmp/sh or above since line 1" ∷ codes "3 ok" ∷ []
  pub promises : why_of example (codes "1 pledge stdio,wpath -" ∷ codes "1 open-rw /etc/passwd" ∷ codes "1 stat /" ∷ []) ≡
      codes "1 ok" ∷ codes "2 killed no rpath since line 1" ∷ codes "3 gone ended since line 2" ∷ []
  pub under_error : why_of example (codes "1 pledge stdio,error -" ∷ codes "1 create /etc/x" ∷ []) ≡
      codes "1 ok" ∷ codes "2 ENOSYS no cpath,wpath since line 1" ∷ []
  pub path_stops : why_of example (codes "1 stat /tmp/up/no/x" ∷ codes "1 stat /etc/passwd/x" ∷ codes "1 stat /tmp/self" ∷ codes "1 stat ="
      ∷ []) ≡
      codes "1 ENOENT /etc/no is missing" ∷ codes "2 ENOTDIR /etc/passwd is no directory" ∷ codes "3 ELOOP /tmp/self is link 33"
      ∷ codes "4 ENOENT path is empty" ∷ []
  pub misfits : why_of example (codes "1 mkdir /etc" ∷ codes "1 open-w /etc" ∷ codes "1 unlink /tmp" ∷ codes "1 exec /etc/passwd"
      ∷ codes "1 exec /etc" ∷ []) ≡
      codes "1 EEXIST /etc exists" ∷ codes "2 EISDIR /etc is a directory" ∷ codes "3 EPERM /tmp is a directory"
      ∷ codes "4 EACCES /etc/passwd is no program" ∷ codes "5 EACCES /etc is no program" ∷ []
  pub more_misfits : why_of example (codes "1 readlink /etc/passwd" ∷ codes "1 rmdir /etc/passwd" ∷ codes "1 rmdir /"
      ∷ codes "1 rmdir /etc/." ∷ []) ≡
      codes "1 EINVAL /etc/passwd is no link" ∷ codes "2 ENOTDIR /etc/passwd is no directory" ∷ codes "3 EBUSY path has no component"
      ∷ codes "4 EINVAL path ends in ." ∷ []
  pub last_misfits : why_of example (codes "1 rmdir /etc/.." ∷ codes "1 rmdir /etc" ∷ codes "1 chdir /etc/passwd" ∷ codes "1 unlink /nope"
      ∷ codes "1 symlink = /l" ∷ []) ≡
      codes "1 EINVAL path ends in .." ∷ codes "2 ENOTEMPTY /etc is not empty" ∷ codes "3 ENOTDIR /etc/passwd is no directory"
      ∷ codes "4 ENOENT /nope is missing" ∷ codes "5 ENOENT target is empty" ∷ []
  -- OpenBSD's rules look at the directory that `..` names
  pub openbsd_misfits : why_by Openbsd example (codes "1 rmdir /etc/.." ∷ codes "1 rmdir /etc/." ∷ codes "1 rename /etc/.. /x" ∷ []) ≡
      codes "1 ENOTEMPTY / is not empty" ∷ codes "2 EINVAL path ends in ." ∷ codes "3 EINVAL old: path ends in .." ∷ []
  pub locks : why_of example (codes "1 unveil /etc r" ∷ codes "1 unveil /etc rw" ∷ codes "1 unveil /etc q" ∷ codes "1 unveil - -"
      ∷ codes "1 unveil /tmp r" ∷ []) ≡
      codes "1 ok" ∷ codes "2 EPERM no w in veil r on /etc since line 1" ∷ codes "3 EINVAL unknown letter" ∷ codes "4 ok"
      ∷ codes "5 EPERM locked since line 4" ∷ []
  pub pledges : why_of root_alone (codes "1 pledge stdio,zpath -" ∷ codes "1 pledge stdio,rpath stdio" ∷ codes "1 pledge stdio,rpath,inet -"
      ∷ codes "1 pledge - stdio,rpath" ∷ []) ≡
      codes "1 EINVAL unknown promise" ∷ codes "2 ok" ∷ codes "3 EPERM no inet since line 2"
      ∷ codes "4 EPERM no rpath in execpromises since line 2" ∷ []
  pub forks : why_of root_alone (codes "1 fork 2" ∷ codes "1 fork 2" ∷ codes "2 exit" ∷ codes "2 stat /" ∷ codes "3 stat /" ∷ []) ≡
      codes "1 ok" ∷ codes "2 EAGAIN process 2 exists since line 1" ∷ codes "3 ok" ∷ codes "4 gone ended since line 3"
      ∷ codes "5 gone never made" ∷ []
  -- of no line on which nobody asks
  pub comments : why_by Openbsd root_alone (codes "# x" ∷ codes "1 pledge stdio -" ∷ [] ∷ codes "1 stat / # y" ∷ []) ≡
      codes "2 ok" ∷ codes "4 killed no rpath since line 2" ∷ []
  -- another path's fault is another reason
  pub another_path : why_of root_alone (codes "1 mkdir /a" ∷ codes "1 rename /a/f /b/g" ∷ []) ≡
      codes "1 ok" ∷ codes "2 ENOENT new: /b is missing since line 1" ∷ []
  -- what is missing, or is no directory, is the same reason where the path stops there and where it ends there
  pub missing_further_on : why_of root_alone (codes "1 mkdir /b" ∷ codes "1 exec /b/c" ∷ []) ≡
      codes "1 ok" ∷ codes "2 ENOENT /b/c is missing" ∷ []
  pub no_directory_further_on : why_of root_alone (codes "1 mkdir /d" ∷ codes "1 create /d/x" ∷ codes "1 create /f"
      ∷ codes "1 symlink f /l" ∷ codes "1 symlink d /m" ∷ codes "1 rename /m /l" ∷ codes "1 chdir /l/x" ∷ []) ≡
      codes "1 ok" ∷ codes "2 ok" ∷ codes "3 ok" ∷ codes "4 ok" ∷ codes "5 ok" ∷ codes "6 ok"
      ∷ codes "7 ENOTDIR /d/x is no directory since line 4" ∷ []
  -- of a tree that has no number left
  pub full : lines_over Standard (Ok (record empty_tree { next = number_end })) (script (text_of_lines (codes "1 mkdir /a" ∷ []))) ≡
      codes "1 ENOSPC tree is full" ∷ []
  pub children : why_of root_alone (codes "1 pledge stdio,proc -" ∷ codes "1 fork 2" ∷ codes "2 stat /" ∷ []) ≡
      codes "1 ok" ∷ codes "2 ok" ∷ codes "3 killed no rpath since line 1" ∷ []
  pub removed : why_of with_dir (codes "1 chdir /d" ∷ codes "1 rmdir /d" ∷ codes "1 stat ." ∷ []) ≡
      codes "1 ok" ∷ codes "2 ok" ∷ codes "3 ENOENT working directory is removed since line 2" ∷ []
  pub made_again : why_of with_dir (codes "1 fork 2" ∷ codes "2 unveil /d r" ∷ codes "1 rmdir /d" ∷ codes "1 mkdir /d" ∷ codes "2 stat /d"
      ∷ []) ≡
      codes "1 ok" ∷ codes "2 ok" ∷ codes "3 ok" ∷ codes "4 ok" ∷ codes "5 ENOENT no veil on /d or above since line 3" ∷ []
  pub execs : why_of example (codes "1 pledge stdio,exec stdio,rpath" ∷ codes "1 exec /tmp/sh" ∷ codes "1 stat /" ∷ codes "1 chmod /" ∷ [])
      ≡
      codes "1 ok" ∷ codes "2 ok" ∷ codes "3 ok" ∷ codes "4 killed no fattr since line 1" ∷ []
  pub renames : why_of ordered_tree (codes "1 rename /no /x" ∷ codes "1 rename /d /d/e" ∷ codes "1 rename /f /d" ∷ codes "1 rename /d/e /f"
      ∷ []) ≡
      codes "1 ENOENT old: /no is missing" ∷ codes "2 EINVAL new: /d/e is inside /d" ∷ codes "3 EISDIR new: /d is a directory"
      ∷ codes "4 ENOTDIR new: /f is no directory" ∷ []
  pub more_renames : why_of ordered_tree (codes "1 rename /d /d/e" ∷ codes "1 rename /d/. /x" ∷ codes "1 rename / /x"
      ∷ codes "1 rename /d/f /no/x" ∷ []) ≡
      codes "1 EINVAL new: /d/e is inside /d" ∷ codes "2 EINVAL old: path ends in ." ∷ codes "3 EBUSY old: path has no component"
      ∷ codes "4 ENOENT new: /no is missing" ∷ []
  pub links : why_of ordered_tree (codes "1 link /d /x" ∷ codes "1 link /f /d/f" ∷ codes "1 link /f/x /y" ∷ codes "1 link /no /y" ∷ []) ≡
      codes "1 EPERM old: /d is a directory" ∷ codes "2 EEXIST new: /d/f exists" ∷ codes "3 ENOTDIR old: /f is no directory"
      ∷ codes "4 ENOENT old: /no is missing" ∷ []
  pub veiled_renames : why_of ordered_tree (codes "1 unveil /d rwc" ∷ codes "1 unveil /d/e r" ∷ codes "1 rename /d/f /x"
      ∷ codes "1 rename /d/f /d/e/y" ∷ []) ≡
      codes "1 ok" ∷ codes "2 ok" ∷ codes "3 ENOENT new: no veil on /x or above since line 1"
      ∷ codes "4 EACCES new: no c in veil r on /d/e since line 2" ∷ []
  pub through_links : chain_of example (codes "1 unveil /etc r" ∷ []) (codes "1 stat /t/up/passwd") ≡
      codes "needs rpath" ∷ codes "link /t to tmp" ∷ codes "link /tmp/up to ../etc" ∷ codes "names file /etc/passwd"
      ∷ codes "veil r on /etc since line 1" ∷ codes "ok" ∷ []
  pub uncovered : chain_of example (codes "1 unveil /tmp r" ∷ []) (codes "1 stat /tmp/up/passwd") ≡
      codes "needs rpath" ∷ codes "link /tmp/up to ../etc" ∷ codes "names file /etc/passwd"
      ∷ codes "ENOENT no veil on /etc/passwd or above since line 1" ∷ []
  pub no_promise : chain_of example (codes "1 pledge stdio -" ∷ []) (codes "1 stat /") ≡
      codes "killed no rpath since line 1" ∷ []
  pub two_paths : chain_of ordered_tree (codes "1 unveil /d rwc" ∷ []) (codes "1 rename /d/f /d/h") ≡
      codes "needs cpath" ∷ codes "old: names file /d/f" ∷ codes "new: names missing /d/h" ∷ codes "old: veil rwc on /d since line 1"
      ∷ codes "new: veil rwc on /d since line 1" ∷ codes "ok" ∷ []
  pub no_veils : chain_of example ([]) (codes "1 open-w /etc/passwd") ≡
      codes "needs wpath" ∷ codes "names file /etc/passwd" ∷ codes "no veils" ∷ codes "ok" ∷ []
  pub root : chain_of example ([]) (codes "1 stat /") ≡
      codes "needs rpath" ∷ codes "names dir /" ∷ codes "no veils" ∷ codes "ok" ∷ []
  pub program : chain_of example ([]) (codes "1 exec /tmp/sh") ≡
      codes "needs exec" ∷ codes "names prog /tmp/sh" ∷ codes "no veils" ∷ codes "ok" ∷ []
  -- a veil that lacks a letter is told by the answer alone
  pub lacking_veil : chain_of example (codes "1 unveil /etc r" ∷ []) (codes "1 open-rw /etc/passwd") ≡
      codes "needs rpath,wpath" ∷ codes "names file /etc/passwd" ∷ codes "EACCES no w in veil r on /etc since line 1" ∷ []
  pub another_veil : chain_of example (codes "1 unveil /etc r" ∷ []) (codes "1 unveil /etc/passwd rw") ≡
      codes "needs unveil" ∷ codes "names file /etc/passwd" ∷ codes "ok" ∷ []
  pub by_kernel : why_by Openbsd ordered_tree (codes "1 pledge stdio,cpath -" ∷ codes "1 rename /f /g" ∷ []) ≡
      codes "1 ok" ∷ codes "2 killed no rpath since line 1" ∷ []
  pub kernel_slash : why_by Openbsd ordered_tree (codes "1 rename /f/ /y" ∷ codes "1 rename /d/f /y/" ∷ []) ≡
      codes "1 ENOTDIR old: /f is no directory" ∷ codes "2 ENOTDIR old: /d/f is no directory" ∷ []
  pub kernel_exec_promises : why_by Openbsd root_alone (codes "1 pledge stdio,error stdio" ∷ codes "1 pledge stdio,rpath,error stdio"
      ∷ codes "1 pledge stdio stdio,rpath" ∷ []) ≡
      codes "1 ok" ∷ codes "2 ok" ∷ codes "3 EPERM no rpath in execpromises since line 1" ∷ []
  pub by_kernel_new : why_by Openbsd ordered_tree (codes "1 pledge stdio,rpath -" ∷ codes "1 link /f /g" ∷ []) ≡
      codes "1 ok" ∷ codes "2 killed no cpath since line 1" ∷ []
  pub kernel_pair : chain_by Openbsd ordered_tree [] (codes "1 rename /d/f /d/h") ≡
      codes "needs cpath,rpath" ∷ codes "old: names file /d/f" ∷ codes "new: names missing /d/h" ∷ codes "old: no veils"
      ∷ codes "new: no veils" ∷ codes "ok" ∷ []
  pub kernel_link : chain_by Openbsd ordered_tree [] (codes "1 link /f /g") ≡
      codes "needs cpath,rpath" ∷ codes "old: names file /f" ∷ codes "new: names missing /g" ∷ codes "old: no veils"
      ∷ codes "new: no veils" ∷ codes "ok" ∷ []

abbrev pub opened_tree : List (List ℕ)
opened_tree = root_alone ++ codes "1 dir 0 dev" ∷ codes "2 file 1 tty" ∷ codes "3 dir 0 etc" ∷ codes "4 file 3 resolv.conf"
    ∷ codes "5 dir 0 tmp" ∷ codes "6 dir 0 usr" ∷ codes "7 dir 6 share" ∷ codes "8 dir 7 zoneinfo" ∷ codes "9 file 8 UTC" ∷ []

-- what is told of the answers to a script's lines
abbrev pub told_over : Rules → Result Tree ListingFault → Result (List Asked) ScriptFault → List (Option (List ℕ))
told_over rules (Ok t) (Ok asks) = map (option_map told_text) (told_to (table_by_rules rules) (new_world t) asks)
told_over rules _ _ = []

abbrev pub told_of : Rules → List (List ℕ) → List (List ℕ) → List (Option (List ℕ))
told_of rules tree lines = told_over rules (listing (text_of_lines tree)) (script_by rules (text_of_lines lines))

-- what is said of what a promise opens
pub record OpeningRows : Type 0 where
  pub by_dns : why_by Openbsd opened_tree (codes "1 pledge stdio,dns -" ∷ codes "1 open-r /etc/resolv.conf" ∷ []) ≡
      codes "1 ok" ∷ codes "2 ok by dns" ∷ []
  pub by_the_profile : why_by Standard opened_tree (codes "1 pledge stdio,dns -" ∷ codes "1 open-r /etc/resolv.conf" ∷ []) ≡
      codes "1 ok" ∷ codes "2 killed no rpath since line 1" ∷ []
  pub not_held : why_by Openbsd opened_tree (codes "1 pledge stdio -" ∷ codes "1 open-r /etc/resolv.conf" ∷ []) ≡
      codes "1 ok" ∷ codes "2 killed no rpath since line 1" ∷ []
  -- before its first pledge of promises no promise opens anything
  pub not_pledged : why_by Openbsd opened_tree (codes "1 unveil /tmp r" ∷ codes "1 open-r /etc/resolv.conf" ∷ []) ≡
      codes "1 ok" ∷ codes "2 ENOENT no veil on /etc/resolv.conf or above since line 1" ∷ []
  -- another call, another spelling, and what is not there
  pub another_call : why_by Openbsd opened_tree (codes "1 pledge error,dns -" ∷ codes "1 open-rw /etc/resolv.conf"
      ∷ codes "1 open-r /etc//resolv.conf" ∷ codes "1 open-r /etc/hosts" ∷ []) ≡
      codes "1 ok" ∷ codes "2 ENOSYS no rpath,wpath since line 1" ∷ codes "3 ok by dns"
      ∷ codes "4 ENOENT /etc/hosts is missing" ∷ []
  pub below : why_by Openbsd opened_tree (codes "1 pledge error,stdio -" ∷ codes "1 open-r /usr/share/zoneinfo/UTC"
      ∷ codes "1 open-r /usr/share/zoneinfo/" ∷ codes "1 open-r /usr/share/zoneinfo" ∷ []) ≡
      codes "1 ok" ∷ codes "2 ok by stdio" ∷ codes "3 ENOSYS no rpath since line 1"
      ∷ codes "4 ENOSYS no rpath since line 1" ∷ []
  -- no veil hides it
  pub past_a_cover : why_by Openbsd opened_tree (codes "1 unveil /tmp r" ∷ codes "1 pledge stdio,rpath,dns -"
      ∷ codes "1 open-r /etc/resolv.conf" ∷ []) ≡
      codes "1 ok" ∷ codes "2 ok" ∷ codes "3 ok by dns" ∷ []
  pub past_letters : why_by Openbsd opened_tree (codes "1 unveil /etc w" ∷ codes "1 pledge stdio,rpath,dns -"
      ∷ codes "1 stat /etc/resolv.conf" ∷ []) ≡
      codes "1 ok" ∷ codes "2 ok" ∷ codes "3 ok by dns" ∷ []
  -- by `tty` the veils are asked
  pub terminal : why_by Openbsd opened_tree (codes "1 pledge stdio,tty -" ∷ codes "1 open-rw /dev/tty" ∷ []) ≡
      codes "1 ok" ∷ codes "2 ok by tty" ∷ []
  pub terminal_veiled : why_by Openbsd opened_tree (codes "1 unveil /dev/tty rw" ∷ codes "1 pledge error,tty -"
      ∷ codes "1 open-rw /dev/tty" ∷ []) ≡
      codes "1 ok" ∷ codes "2 ok" ∷ codes "3 ok by tty" ∷ []
  pub terminal_hidden : why_by Openbsd opened_tree (codes "1 unveil /etc r" ∷ codes "1 pledge error,tty -"
      ∷ codes "1 open-rw /dev/tty" ∷ []) ≡
      codes "1 ok" ∷ codes "2 ok" ∷ codes "3 ENOENT no veil on /dev/tty or above since line 1" ∷ []
  pub terminal_uncovered : why_by Openbsd opened_tree (codes "1 unveil /etc r" ∷ codes "1 pledge rpath,wpath,tty -"
      ∷ codes "1 open-rw /dev/tty" ∷ []) ≡
      codes "1 ok" ∷ codes "2 ok" ∷ codes "3 ENOENT no veil on /dev/tty or above since line 1" ∷ []
  -- `tmppath` makes and takes away what stands below /tmp, by the veils too
  pub temporary : why_by Openbsd opened_tree (codes "1 pledge error,tmppath -" ∷ codes "1 create /tmp/x" ∷ codes "1 create /etc/x" ∷ []) ≡
      codes "1 ok" ∷ codes "2 ok by tmppath" ∷ codes "3 ENOSYS no cpath,wpath since line 1" ∷ []
  pub taken_away : why_by Openbsd opened_tree (codes "1 pledge error,tmppath -" ∷ codes "1 create-rw /tmp/x" ∷ codes "1 unlink /tmp//x"
      ∷ codes "1 unlink /tmp/x" ∷ codes "1 unlink /etc/resolv.conf" ∷ []) ≡
      codes "1 ok" ∷ codes "2 ok by tmppath" ∷ codes "3 ok by tmppath" ∷ codes "4 ENOENT /tmp/x is missing since line 3"
      ∷ codes "5 ENOSYS no cpath since line 1" ∷ []
  pub temporary_veiled : why_by Openbsd opened_tree (codes "1 unveil /tmp c" ∷ codes "1 pledge error,tmppath -" ∷ codes "1 create /tmp/x"
      ∷ codes "1 unlink /tmp/x" ∷ []) ≡
      codes "1 ok" ∷ codes "2 ok" ∷ codes "3 EACCES no w in veil c on /tmp since line 1" ∷ codes "4 ENOENT /tmp/x is missing" ∷ []
  pub temporary_hidden : why_by Openbsd opened_tree (codes "1 unveil /etc rwc" ∷ codes "1 pledge error,tmppath -" ∷ codes "1 create /tmp/x" ∷ []) ≡
      codes "1 ok" ∷ codes "2 ok" ∷ codes "3 ENOENT no veil on /tmp/x or above since line 1" ∷ []
  pub in_a_chain : chain_by Openbsd opened_tree (codes "1 pledge stdio,dns -" ∷ []) (codes "1 open-r /etc/resolv.conf") ≡
      codes "opened by dns" ∷ codes "names file /etc/resolv.conf" ∷ codes "ok by dns" ∷ []
  pub temporary_in_a_chain : chain_by Openbsd opened_tree (codes "1 unveil /tmp wc" ∷ codes "1 pledge tmppath -" ∷ []) (codes "1 create /tmp/x") ≡
      codes "opened by tmppath" ∷ codes "names missing /tmp/x" ∷ codes "veil wc on /tmp since line 1" ∷ codes "ok by tmppath" ∷ []
  -- without reasons too; of a line on which nobody asks nothing is told
  pub told : told_of Openbsd opened_tree (codes "# a resolver" ∷ codes "1 pledge error,stdio,dns -" ∷ codes "1 open-r /etc/resolv.conf"
      ∷ codes "1 open-w /etc/resolv.conf" ∷ []) ≡ None ∷ Some (codes "ok") ∷ Some (codes "ok by dns") ∷ Some (codes "ENOSYS") ∷ []
  pub told_by_the_profile : told_of Standard opened_tree (codes "1 pledge error,dns -" ∷ codes "1 open-r /etc/resolv.conf" ∷ []) ≡
      Some (codes "ok") ∷ Some (codes "ENOSYS") ∷ []
  pub temporary_told : told_of Openbsd opened_tree (codes "1 pledge error,tmppath -" ∷ codes "1 create /tmp/x" ∷ codes "1 unlink /tmp/x"
      ∷ codes "1 unlink /tmp/x" ∷ []) ≡ Some (codes "ok") ∷ Some (codes "ok by tmppath") ∷ Some (codes "ok by tmppath") ∷ Some (codes "ENOENT") ∷ []
  -- where the promises are held too, nothing is said behind the answer
  pub held_too : chain_by Openbsd opened_tree (codes "1 pledge rpath,wpath,tty -" ∷ []) (codes "1 open-rw /dev/tty") ≡
      codes "opened by tty" ∷ codes "names file /dev/tty" ∷ codes "no veils" ∷ codes "ok" ∷ []
  pub made_too : why_by Openbsd opened_tree (codes "1 pledge cpath,tmppath,wpath -" ∷ codes "1 create /tmp/x" ∷ codes "1 unlink /tmp/x" ∷ []) ≡
      codes "1 ok" ∷ codes "2 ok" ∷ codes "3 ok" ∷ []

pub opening_rows : OpeningRows
unfolding digits trace_from promises_text
opening_rows = record {
  by_dns = refl;
  by_the_profile = refl;
  not_held = refl;
  not_pledged = refl;
  another_call = refl;
  below = refl;
  past_a_cover = refl;
  past_letters = refl;
  terminal = refl;
  terminal_veiled = refl;
  terminal_hidden = refl;
  terminal_uncovered = refl;
  temporary = refl;
  taken_away = refl;
  temporary_veiled = refl;
  temporary_hidden = refl;
  in_a_chain = refl;
  temporary_in_a_chain = refl;
  told = refl;
  told_by_the_profile = refl;
  temporary_told = refl;
  held_too = refl;
  made_too = refl;
}

-- what is said of descriptors
pub record FileRows : Type 0 where
  pub closed : why_by Openbsd ordered_tree (codes "1 hold 3 open-r /f" ∷ codes "1 fchdir 3" ∷ codes "1 close 3" ∷ codes "1 close 3"
      ∷ codes "1 fchdir 3" ∷ []) ≡
      codes "1 ok" ∷ codes "2 ENOTDIR descriptor 3 is no directory since line 1" ∷ codes "3 ok"
      ∷ codes "4 EBADF descriptor 3 is closed since line 3" ∷ codes "5 EBADF descriptor 3 is closed since line 3" ∷ []
  -- an open that is kept is refused as the open alone, and opened as it
  pub refused : why_by Openbsd ordered_tree (codes "1 unveil /d r" ∷ codes "1 hold 3 open-r /f" ∷ codes "1 pledge stdio,rpath -"
      ∷ codes "1 hold 3 open-w /d/f" ∷ []) ≡
      codes "1 ok" ∷ codes "2 ENOENT no veil on /f or above since line 1" ∷ codes "3 ok" ∷ codes "4 killed no wpath since line 3" ∷ []
  pub opened : why_by Openbsd opened_tree (codes "1 pledge stdio,dns -" ∷ codes "1 hold 3 open-r /etc/resolv.conf" ∷ codes "1 close 3" ∷ []) ≡
      codes "1 ok" ∷ codes "2 ok by dns" ∷ codes "3 ok" ∷ []
  -- what another process sends turns with what that one does
  pub taken : why_by Openbsd ordered_tree (codes "1 fork 2" ∷ codes "2 take 0 1 4" ∷ codes "1 hold 4 open-r /d" ∷ codes "2 take 0 1 4"
      ∷ codes "1 pledge stdio,sendfd -" ∷ codes "2 take 0 1 4" ∷ codes "1 pledge stdio -" ∷ codes "2 take 0 1 4" ∷ codes "1 exit"
      ∷ codes "2 take 0 1 4" ∷ codes "2 pledge stdio -" ∷ codes "2 take 0 1 4" ∷ []) ≡
      codes "1 ok" ∷ codes "2 EBADF process 1 has no descriptor 4" ∷ codes "3 ok" ∷ codes "4 ok" ∷ codes "5 ok"
      ∷ codes "6 EINVAL descriptor 4 of process 1 is a directory since line 5" ∷ codes "7 ok"
      ∷ codes "8 EPERM process 1 has no sendfd since line 7" ∷ codes "9 ok"
      ∷ codes "10 EBADF process 1 has no descriptor 4 since line 9" ∷ codes "11 ok" ∷ codes "12 killed no recvfd since line 11" ∷ []
  pub held_in_a_chain : chain_by Openbsd ordered_tree [] (codes "1 hold 3 open-r /f") ≡
      codes "needs rpath" ∷ codes "names file /f" ∷ codes "no veils" ∷ codes "ok" ∷ []
  pub opened_in_a_chain : chain_by Openbsd opened_tree (codes "1 pledge stdio,dns -" ∷ []) (codes "1 hold 3 open-r /etc/resolv.conf") ≡
      codes "opened by dns" ∷ codes "names file /etc/resolv.conf" ∷ codes "ok by dns" ∷ []
  pub closed_in_a_chain : chain_by Openbsd ordered_tree (codes "1 hold 3 open-r /f" ∷ []) (codes "1 close 3") ≡ codes "ok" ∷ []
  pub taken_in_a_chain : chain_by Openbsd ordered_tree [] (codes "1 take 3 2 4") ≡
      codes "needs recvfd" ∷ codes "EBADF process 2 has no descriptor 4" ∷ []

pub file_rows : FileRows
unfolding digits trace_from promises_text
file_rows = record {
  closed = refl;
  refused = refl;
  opened = refl;
  taken = refl;
  held_in_a_chain = refl;
  opened_in_a_chain = refl;
  closed_in_a_chain = refl;
  taken_in_a_chain = refl;
}

-- what is said of roots; places are as the whole tree has them
pub record RootRows : Type 0 where
  pub promise : why_by Openbsd ordered_tree (codes "1 pledge stdio,rpath -" ∷ codes "1 chroot /d" ∷ []) ≡
      codes "1 ok" ∷ codes "2 killed no id since line 1" ∷ []
  -- a path is refused as that of a chdir
  pub refused : why_by Openbsd ordered_tree (codes "1 unveil /d r" ∷ codes "1 chroot /f" ∷ codes "1 chroot /d/f" ∷ codes "1 chroot /d/no"
      ∷ codes "1 chroot /no/x" ∷ []) ≡
      codes "1 ok" ∷ codes "2 ENOENT no veil on /f or above since line 1" ∷ codes "3 ENOTDIR /d/f is no directory"
      ∷ codes "4 ENOENT /d/no is missing" ∷ codes "5 ENOENT /no is missing" ∷ []
  -- a path turns with the root, and where it starts at the working directory with `..` at the root too
  pub turned : why_by Openbsd ordered_tree (codes "1 chroot /d" ∷ codes "1 stat /f" ∷ codes "1 stat /d" ∷ codes "1 chdir /"
      ∷ codes "1 stat ../d" ∷ []) ≡
      codes "1 ok" ∷ codes "2 ok" ∷ codes "3 ENOENT /d/d is missing since line 1" ∷ codes "4 ok"
      ∷ codes "5 ENOENT /d/d is missing since line 4" ∷ []
  pub removed : why_by Openbsd ordered_tree (codes "1 unlink /d/e/x" ∷ codes "1 chroot /d/e" ∷ codes "1 rmdir d/e" ∷ codes "1 stat /"
      ∷ codes "1 rename / d/y" ∷ codes "1 stat d" ∷ []) ≡
      codes "1 ok" ∷ codes "2 ok" ∷ codes "3 ok" ∷ codes "4 ENOENT root is removed since line 3"
      ∷ codes "5 ENOENT old: root is removed since line 3" ∷ codes "6 ok" ∷ []
  pub directory_removed : why_by Openbsd ordered_tree (codes "1 unlink /d/e/x" ∷ codes "1 fork 2" ∷ codes "2 chdir /d/e" ∷ codes "2 chroot ."
      ∷ codes "1 rmdir /d/e" ∷ codes "2 stat /x" ∷ codes "2 stat x" ∷ []) ≡
      codes "1 ok" ∷ codes "2 ok" ∷ codes "3 ok" ∷ codes "4 ok" ∷ codes "5 ok" ∷ codes "6 ENOENT root is removed since line 5"
      ∷ codes "7 ENOENT working directory is removed since line 5" ∷ []
  pub in_a_chain : chain_by Openbsd ordered_tree (codes "1 unveil /d r" ∷ []) (codes "1 chroot /d") ≡
      codes "needs id" ∷ codes "names dir /d" ∷ codes "veil r on /d since line 1" ∷ codes "ok" ∷ []
  pub below_in_a_chain : chain_by Openbsd ordered_tree (codes "1 chroot /d" ∷ []) (codes "1 stat /e") ≡
      codes "needs rpath" ∷ codes "names dir /d/e" ∷ codes "no veils" ∷ codes "ok" ∷ []

pub root_rows : RootRows
unfolding digits trace_from promises_text
root_rows = record {
  promise = refl;
  refused = refl;
  turned = refl;
  removed = refl;
  directory_removed = refl;
  in_a_chain = refl;
  below_in_a_chain = refl;
}

pub why_rows : WhyRows
unfolding digits trace_from promises_text
why_rows = record {
  letters = refl;
  no_veil = refl;
  promises = refl;
  under_error = refl;
  path_stops = refl;
  misfits = refl;
  more_misfits = refl;
  last_misfits = refl;
  openbsd_misfits = refl;
  locks = refl;
  pledges = refl;
  forks = refl;
  comments = refl;
  another_path = refl;
  missing_further_on = refl;
  no_directory_further_on = refl;
  full = refl;
  children = refl;
  removed = refl;
  made_again = refl;
  execs = refl;
  renames = refl;
  more_renames = refl;
  links = refl;
  veiled_renames = refl;
  through_links = refl;
  uncovered = refl;
  no_promise = refl;
  two_paths = refl;
  no_veils = refl;
  root = refl;
  program = refl;
  lacking_veil = refl;
  another_veil = refl;
  by_kernel = refl;
  kernel_slash = refl;
  kernel_exec_promises = refl;
  by_kernel_new = refl;
  kernel_pair = refl;
  kernel_link = refl;
}
