-- Worked rows: a listing, a script, and what is written of it.
use Rattle.std.specs.Prelude.{◌≡◌, ℕ, List, [], ◌∷◌, ◌++◌, Option, Some, None, option_map, Err, codes, refl}
use Rattle.std.specs.Result.{result_ok}
use Rattle.pua_tree.specs.Examples.{text_of_lines}
use Rattle.pua_tree.specs.declared.fault.ListingFault.TheVariants.{BadHeader}
use Rattle.pua_calls.specs.Calls.{standard_table, table_by_rules}
use Rattle.pua_calls.specs.declared.rules.Rules.{Rules}
use Rattle.pua_calls.specs.declared.rules.Rules.TheVariants.{Standard, Openbsd}
use Rattle.pua_calls.specs.Promises.{exec, rpath, wpath, reading, writing}
use Rattle.pua_script.specs.Examples.{example, root_alone}
use Rattle.pua_script.specs.Scripts.{script}
use Rattle.pua_script.specs.declared.fault.ScriptFault.TheVariants.{BadCall}
use Rattle.pua_tight.specs.declared.fault.TightFault.TheVariants.{Listing, Script}
use Rattle.pua_tight.specs.Tight.{Piece, InPromises, InExecpromises, InVeil}
use Rattle.pua_tight.specs.Laws.{leave_out}
use Rattle.pua_tight.specs.Texts.{thinned_text, text_over}
use Rattle.pua_tight.specs.Uses.{WordUse, uses_over}

-- what is written of a script over a tree, and over the example tree
abbrev pub written_over : List (List ℕ) → Rules → List ℕ → Option (List ℕ)
written_over tree rules bytes = result_ok (text_over rules (table_by_rules rules) (text_of_lines tree) bytes)

abbrev pub written_by : Rules → List ℕ → Option (List ℕ)
written_by rules bytes = written_over example rules bytes

abbrev pub written : List ℕ → Option (List ℕ)
written bytes = written_by Standard bytes

-- which words go
pub record TightRows : Type 0 where
  pub promise : written (text_of_lines (codes "1 pledge stdio,rpath,wpath -" ∷ codes "1 open-r /etc/passwd" ∷ []))
      ≡ Some (text_of_lines (codes "1 pledge stdio,rpath -" ∷ codes "1 open-r /etc/passwd" ∷ []))
  pub error_stays : written (text_of_lines (codes "1 pledge rpath,wpath,error -" ∷ codes "1 stat /etc" ∷ []))
      ≡ Some (text_of_lines (codes "1 pledge rpath,error -" ∷ codes "1 stat /etc" ∷ []))
  pub later_first : written (text_of_lines (codes "1 unveil /etc rwxc" ∷ codes "1 unveil /etc rw" ∷ codes "1 open-r /etc/passwd" ∷ []))
      ≡ Some (text_of_lines (codes "1 unveil /etc r" ∷ codes "1 unveil /etc r" ∷ codes "1 open-r /etc/passwd" ∷ []))
  pub refused_stays : written (text_of_lines (codes "1 pledge stdio,rpath -" ∷ codes "1 pledge rpath,wpath -" ∷ codes "1 stat /etc" ∷ []))
      ≡ Some (text_of_lines (codes "1 pledge stdio,rpath -" ∷ codes "1 pledge rpath,wpath -" ∷ codes "1 stat /etc" ∷ []))
  pub execpromises : written (text_of_lines (codes "1 pledge rpath,exec rpath,wpath" ∷ codes "1 exec /tmp/sh" ∷ codes "1 stat /etc" ∷ []))
      ≡ Some (text_of_lines (codes "1 pledge exec rpath" ∷ codes "1 exec /tmp/sh" ∷ codes "1 stat /etc" ∷ []))
  pub child : written (text_of_lines (codes "1 pledge rpath,wpath,proc -" ∷ codes "1 fork 2" ∷ codes "1 pledge rpath -"
      ∷ codes "2 open-w /etc/passwd" ∷ []))
      ≡ Some (text_of_lines (codes "1 pledge wpath,proc -" ∷ codes "1 fork 2" ∷ codes "1 pledge = -" ∷ codes "2 open-w /etc/passwd" ∷ []))
  pub moved : written (text_of_lines (codes "1 unveil /etc rw" ∷ codes "1 chdir /etc" ∷ codes "1 open-r passwd" ∷ []))
      ≡ Some (text_of_lines (codes "1 unveil /etc r" ∷ codes "1 chdir /etc" ∷ codes "1 open-r passwd" ∷ []))
  pub of_another : written (text_of_lines (codes "1 fork 2" ∷ codes "1 unveil /etc rw" ∷ codes "2 open-w /etc/passwd" ∷ codes "1 stat /etc" ∷ []))
      ≡ Some (text_of_lines (codes "1 fork 2" ∷ codes "1 unveil /etc r" ∷ codes "2 open-w /etc/passwd" ∷ codes "1 stat /etc" ∷ []))
  pub chmod : written_by Openbsd (text_of_lines (codes "1 pledge rpath,wpath,fattr -" ∷ codes "1 chmod /etc/passwd" ∷ []))
      ≡ Some (text_of_lines (codes "1 pledge rpath,fattr -" ∷ codes "1 chmod /etc/passwd" ∷ []))
  -- an open that is kept needs what the open needs, and a descriptor asks for nothing more
  pub held : written_by Openbsd (text_of_lines (codes "1 unveil /etc rw" ∷ codes "1 pledge rpath,wpath -" ∷ codes "1 hold 3 open-r /etc/passwd"
      ∷ codes "1 pledge rpath -" ∷ codes "1 close 3" ∷ []))
      ≡ Some (text_of_lines (codes "1 unveil /etc r" ∷ codes "1 pledge rpath -" ∷ codes "1 hold 3 open-r /etc/passwd" ∷ codes "1 pledge = -"
      ∷ codes "1 close 3" ∷ []))
  -- for what is taken the one has to receive, and the other to send
  pub taken : written_by Openbsd (text_of_lines (codes "1 hold 3 open-r /etc/passwd" ∷ codes "1 fork 2" ∷ codes "1 pledge recvfd,sendfd -"
      ∷ codes "2 pledge recvfd,sendfd -" ∷ codes "2 take 4 1 3" ∷ []))
      ≡ Some (text_of_lines (codes "1 hold 3 open-r /etc/passwd" ∷ codes "1 fork 2" ∷ codes "1 pledge sendfd -" ∷ codes "2 pledge recvfd -"
      ∷ codes "2 take 4 1 3" ∷ []))
  -- a chroot needs `id`, and `r` on its directory; behind it `id` goes
  pub rooted : written_by Openbsd (text_of_lines (codes "1 unveil /etc rw" ∷ codes "1 pledge id,rpath,wpath -" ∷ codes "1 chroot /etc"
      ∷ codes "1 pledge id,rpath -" ∷ codes "1 open-r /passwd" ∷ []))
      ≡ Some (text_of_lines (codes "1 unveil /etc r" ∷ codes "1 pledge id,rpath -" ∷ codes "1 chroot /etc" ∷ codes "1 pledge rpath -"
      ∷ codes "1 open-r /passwd" ∷ []))

pub tight_rows : TightRows
tight_rows = record {
  promise = refl;
  error_stays = refl;
  later_first = refl;
  refused_stays = refl;
  execpromises = refl;
  child = refl;
  moved = refl;
  of_another = refl;
  chmod = refl;
  held = refl;
  taken = refl;
  rooted = refl;
}

-- a directory with a file that `dns` opens, and another one
abbrev pub opened_tree : List (List ℕ)
opened_tree = root_alone ++ codes "1 dir 0 etc" ∷ codes "2 file 1 hosts" ∷ codes "3 dir 0 tmp" ∷ []

abbrev pub written_opened : List (List ℕ) → Option (List ℕ)
written_opened lines = written_over opened_tree Openbsd (text_of_lines lines)

-- which words go where a promise opens a path by itself
pub record OpenedRows : Type 0 where
  -- what `dns` opens needs no `rpath`
  pub by_dns : written_opened (codes "1 pledge dns,rpath -" ∷ codes "1 open-r /etc/hosts" ∷ [])
      ≡ Some (text_of_lines (codes "1 pledge dns -" ∷ codes "1 open-r /etc/hosts" ∷ []))
  -- nor a veil
  pub past_veils : written_opened (codes "1 unveil /etc r" ∷ codes "1 pledge dns,rpath -" ∷ codes "1 open-r /etc/hosts" ∷ [])
      ≡ Some (text_of_lines (codes "1 unveil /etc =" ∷ codes "1 pledge dns -" ∷ codes "1 open-r /etc/hosts" ∷ []))
  -- so it is where the file is missing
  pub missing : written_opened (codes "1 pledge dns,rpath -" ∷ codes "1 open-r /etc/services" ∷ [])
      ≡ Some (text_of_lines (codes "1 pledge dns -" ∷ codes "1 open-r /etc/services" ∷ []))
  -- another call does need it
  pub not_opened : written_opened (codes "1 pledge dns,rpath -" ∷ codes "1 stat /etc/hosts" ∷ [])
      ≡ Some (text_of_lines (codes "1 pledge dns,rpath -" ∷ codes "1 stat /etc/hosts" ∷ []))
  -- `dns` stays unless a line asks for it; where it may go as well, it goes first
  pub dns_left : written_opened (codes "1 pledge dns,rpath -" ∷ codes "1 uses dns" ∷ codes "1 pledge dns,rpath -" ∷ codes "1 open-r /etc/hosts" ∷ [])
      ≡ Some (text_of_lines (codes "1 pledge dns,rpath -" ∷ codes "1 uses dns" ∷ codes "1 pledge rpath -" ∷ codes "1 open-r /etc/hosts" ∷ []))
  -- and it stays where a veil hides what it opens
  pub dns_needed : written_opened (codes "1 unveil /tmp r" ∷ codes "1 pledge dns,rpath -" ∷ codes "1 uses dns" ∷ codes "1 pledge dns,rpath -"
      ∷ codes "1 open-r /etc/hosts" ∷ [])
      ≡ Some (text_of_lines (codes "1 unveil /tmp =" ∷ codes "1 pledge dns -" ∷ codes "1 uses dns" ∷ codes "1 pledge dns -"
      ∷ codes "1 open-r /etc/hosts" ∷ []))
  -- what `tmppath` makes needs its veil alone, and what it takes away
  pub made : written_opened (codes "1 unveil /tmp rwc" ∷ codes "1 pledge cpath,tmppath,wpath -" ∷ codes "1 create /tmp/x" ∷ [])
      ≡ Some (text_of_lines (codes "1 unveil /tmp wc" ∷ codes "1 pledge tmppath -" ∷ codes "1 create /tmp/x" ∷ []))
  pub taken : written_opened (codes "1 unveil /tmp rwc" ∷ codes "1 pledge cpath,rpath,tmppath,wpath -" ∷ codes "1 create-rw /tmp/x" ∷ codes "1 unlink /tmp/x"
      ∷ codes "1 stat /tmp/x" ∷ [])
      ≡ Some (text_of_lines (codes "1 unveil /tmp rwc" ∷ codes "1 pledge rpath,tmppath -" ∷ codes "1 create-rw /tmp/x" ∷ codes "1 unlink /tmp/x"
      ∷ codes "1 stat /tmp/x" ∷ []))
  -- elsewhere the promises stay
  pub taken_elsewhere : written_opened (codes "1 pledge cpath,tmppath,wpath -" ∷ codes "1 create /tmp/x" ∷ codes "1 unlink /etc/hosts" ∷ [])
      ≡ Some (text_of_lines (codes "1 pledge cpath,tmppath -" ∷ codes "1 create /tmp/x" ∷ codes "1 unlink /etc/hosts" ∷ []))

pub opened_rows : OpenedRows
opened_rows = record {
  by_dns = refl;
  past_veils = refl;
  missing = refl;
  not_opened = refl;
  dns_left = refl;
  dns_needed = refl;
  made = refl;
  taken = refl;
  taken_elsewhere = refl;
}

-- how the bytes are written of what is left, and which fault comes first
pub record WrittenRows : Type 0 where
  pub nothing_left : written (text_of_lines (codes "1 unveil /tmp rwc" ∷ codes "1 pledge cpath,wpath fattr" ∷ []))
      ≡ Some (text_of_lines (codes "1 unveil /tmp =" ∷ codes "1 pledge = =" ∷ []))
  pub repeats_go : written (text_of_lines (codes "1 unveil /etc wrwr" ∷ codes "1 pledge wpath,rpath,stdio,wpath,rpath -" ∷ codes "1 stat /etc" ∷ []))
      ≡ Some (text_of_lines (codes "1 unveil /etc rr" ∷ codes "1 pledge rpath,stdio,rpath -" ∷ codes "1 stat /etc" ∷ []))
  pub ends_stay : written (codes "1 unveil /etc rw" ++ 13 ∷ 10 ∷ codes "1 unveil - -" ++ 10 ∷ codes "1 stat /etc")
      ≡ Some (codes "1 unveil /etc r" ++ 13 ∷ 10 ∷ codes "1 unveil - -" ++ 10 ∷ codes "1 stat /etc")
  pub spelling_stays : written (text_of_lines (codes "1 unveil /a\\040b rw" ∷ codes "1 pledge nothing -" ∷ []))
      ≡ Some (text_of_lines (codes "1 unveil /a\\040b =" ∷ codes "1 pledge nothing -" ∷ []))
  pub comments_stay : written_by Openbsd (codes "# c" ++ 13 ∷ 10 ∷ codes "1 unveil /etc rw  # x" ++ 13 ∷ 10 ∷ 10 ∷ codes "1 stat /etc #")
      ≡ Some (codes "# c" ++ 13 ∷ 10 ∷ codes "1 unveil /etc r  # x" ++ 13 ∷ 10 ∷ 10 ∷ codes "1 stat /etc #")
  pub no_comment : written (text_of_lines (codes "1 unveil #x rw" ∷ codes "1 stat /" ∷ []))
      ≡ Some (text_of_lines (codes "1 unveil #x =" ∷ codes "1 stat /" ∷ []))
  pub bad_listing : text_over Standard standard_table (codes "tree 4") (codes "1 say") ≡ Err (Listing BadHeader)
  pub bad_script : text_over Standard standard_table (text_of_lines example) (codes "1 say") ≡ Err (Script (BadCall 1))

pub written_rows : WrittenRows
written_rows = record {
  nothing_left = refl;
  repeats_go = refl;
  ends_stay = refl;
  spelling_stays = refl;
  comments_stay = refl;
  no_comment = refl;
  bad_listing = refl;
  bad_script = refl;
}

-- the bytes of a script without a piece of the line at an index
abbrev pub bytes_without : ℕ → Piece → List ℕ → Option (List ℕ)
bytes_without index piece bytes = option_map (λ asks. thinned_text Standard (leave_out index piece asks) bytes) (result_ok (script bytes))

pub record WithoutRows : Type 0 where
  pub letter : bytes_without 0 (InVeil writing) (text_of_lines (codes "1 unveil /etc rw" ∷ codes "1 unveil /tmp rw" ∷ []))
      ≡ Some (text_of_lines (codes "1 unveil /etc r" ∷ codes "1 unveil /tmp rw" ∷ []))
  pub promise : bytes_without 1 (InPromises wpath) (text_of_lines (codes "1 stat /etc" ∷ codes "1 pledge wpath,rpath wpath" ∷ []))
      ≡ Some (text_of_lines (codes "1 stat /etc" ∷ codes "1 pledge rpath wpath" ∷ []))
  pub execpromise : bytes_without 0 (InExecpromises wpath) (text_of_lines (codes "1 pledge wpath,rpath wpath" ∷ []))
      ≡ Some (text_of_lines (codes "1 pledge wpath,rpath =" ∷ []))

pub without_rows : WithoutRows
without_rows = record { letter = refl; promise = refl; execpromise = refl }

-- what the words of a script over the example tree are needed for
abbrev pub used : List ℕ → Option (List WordUse)
used bytes = result_ok (uses_over Standard standard_table (text_of_lines example) bytes)

abbrev pub word : ℕ → Piece → Option ℕ → WordUse
word line piece needed_by = record { line = line; word = piece; needed_by = needed_by }

pub record UseRows : Type 0 where
  pub first_line : used (text_of_lines (codes "1 unveil /etc wr" ∷ codes "1 stat /tmp" ∷ codes "1 stat /etc" ∷ codes "1 open-r /etc/passwd" ∷ []))
      ≡ Some (word 0 (InVeil reading) (Some 2) ∷ word 0 (InVeil writing) None ∷ [])
  pub own_line : used (text_of_lines (codes "1 pledge rpath -" ∷ codes "1 pledge rpath -" ∷ codes "1 stat /etc" ∷ []))
      ≡ Some (word 0 (InPromises rpath) (Some 1) ∷ word 1 (InPromises rpath) (Some 2) ∷ [])
  pub execpromises : used (text_of_lines (codes "1 pledge rpath,exec wpath,rpath" ∷ codes "1 exec /tmp/sh" ∷ codes "1 stat /etc" ∷ []))
      ≡ Some (word 0 (InPromises exec) (Some 1) ∷ word 0 (InPromises rpath) None ∷ word 0 (InExecpromises rpath) (Some 2)
      ∷ word 0 (InExecpromises wpath) None ∷ [])

pub use_rows : UseRows
use_rows = record { first_line = refl; own_line = refl; execpromises = refl }
