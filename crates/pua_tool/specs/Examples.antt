-- Worked examples of whole texts.
use Rattle.std.specs.Prelude.{◌≡◌, ℕ, List, [], ◌∷◌, Option, None, Some, Result, Ok, Err, codes, refl}
use Rattle.std.specs.Fmt.{digits}
use Rattle.pua_tree.specs.Examples.{text_of_lines}
use Rattle.pua_tree.specs.Steps.{◌>>=◌}
use Rattle.pua_tree.specs.declared.fault.ListingFault.TheVariants.{BadLine}
use Rattle.pua_path.specs.Traces.{trace_from}
use Rattle.pua_calls.specs.declared.call.Call.TheVariants.{OpenRead}
use Rattle.pua_calls.specs.declared.rules.Rules.TheVariants.{Openbsd}
use Rattle.pua_calls.specs.declared.table.read.TableFault.TheVariants.{BadVeil}
use Rattle.pua_script.specs.declared.fault.ScriptFault.TheVariants.{BadCall}
use Rattle.pua_audit.specs.declared.base.Base.TheVariants.{Root, Cwd}
use Rattle.pua_audit.specs.declared.fault.AuditFault.TheVariants.{BadCandidate, BadResume}
use Rattle.pua_objects.specs.declared.kind.ObjectKind.{ObjectKind}
use Rattle.pua_objects.specs.declared.kind.ObjectKind.TheVariants as kind
use Rattle.pua_tree.specs.declared.node.Kind.TheVariants.{Link}
use Rattle.pua_why.specs.Texts.{promises_text}
use Rattle.pua_words.specs.declared.command.Processes.TheVariants.{One, All}
use Rattle.pua_tool.specs.Texts.{Chosen, Wanted, by_standard, replay_of, run_text, audit_text}
use Rattle.pua_tool.specs.ObjectTexts.{objects_text}
use Rattle.pua_tool.specs.ImageTexts.{images_text}
use Rattle.pua_tool.specs.EverTexts.{ever_text}
use Rattle.pua_tool.specs.TogetherTexts.{together_text}
use Rattle.pua_tool.specs.HowTexts.{question_of, way_text}
use Rattle.pua_tool.specs.WhyTexts.{objects_why_text, served_script, run_why_text, why_text}
use Rattle.pua_tool.specs.TightTexts.{tight_text, tight_why_text, words_by}
use Rattle.pua_texts.specs.Lines.{with_end}
use Rattle.pua_tool.specs.FaultTexts.{fault_line}
use Rattle.pua_tool.specs.Fronts.{script_at}
use Rattle.pua_tool.specs.declared.fault.ToolFault.{ToolFault}
use Rattle.pua_tool.specs.declared.fault.ToolFault.TheVariants.{Listing, Script, NoProcess, Audit, CanUnveil, OtherVeils, HowCall, HowPath, HowThing}
use Rattle.pua_tool.specs.declared.fault.ToolFault.TheVariants.{HowLink, NoLine, Table}

abbrev pub root_listing : List ℕ
root_listing = text_of_lines (codes "tree 1" ∷ codes "0 dir" ∷ [])

abbrev pub creating_alone : List ℕ
creating_alone = text_of_lines (codes "1 pledge stdio,cpath -" ∷ [])

abbrev pub ending : List ℕ
ending = text_of_lines (codes "1 pledge = -" ∷ codes "1 stat /" ∷ codes "1 exit" ∷ [])

abbrev pub changing : List ℕ
changing = text_of_lines (codes "1 pledge stdio,fattr -" ∷ codes "1 chmod /" ∷ [])

abbrev pub forking : List ℕ
forking = text_of_lines (codes "1 fork 2" ∷ codes "2 chdir /" ∷ [])

abbrev pub veiling_script : List ℕ
veiling_script = text_of_lines (codes "1 mkdir /d" ∷ codes "1 unveil /d rwc" ∷ codes "1 unveil /d/a\\040b =" ∷ codes "1 unveil /d rc"
    ∷ codes "1 pledge - =" ∷ codes "1 unveil - -" ∷ [])

abbrev pub removing_script : List ℕ
removing_script = text_of_lines (codes "1 mkdir /d" ∷ codes "1 unveil /d rc" ∷ codes "1 rmdir /d" ∷ [])

abbrev pub root_and_directory : List ℕ
root_and_directory = text_of_lines (codes "tree 1" ∷ codes "0 dir" ∷ codes "1 dir 0 a\\040b" ∷ [])

abbrev pub program_listing : List ℕ
program_listing = text_of_lines (codes "tree 1" ∷ codes "0 dir" ∷ codes "1 prog 0 a" ∷ [])

abbrev pub starting : List ℕ
starting = text_of_lines (codes "1 unveil /a x" ∷ codes "1 pledge exec,stdio stdio" ∷ codes "1 exec /a" ∷ [])

abbrev pub pairing : List ℕ
pairing = text_of_lines (codes "1 fork 7" ∷ codes "7 pledge = -" ∷ codes "1 exit" ∷ [])

abbrev pub reading_alone : List ℕ
reading_alone = text_of_lines (codes "1 pledge stdio,rpath -" ∷ [])

abbrev pub link_and_file : List ℕ
link_and_file = text_of_lines (codes "tree 1" ∷ codes "0 dir" ∷ codes "1 link 0 a b" ∷ codes "2 file 0 b" ∷ [])

abbrev pub two_directories : List ℕ
two_directories = text_of_lines (codes "tree 1" ∷ codes "0 dir" ∷ codes "1 dir 0 d" ∷ codes "2 dir 0 e" ∷ [])

abbrev pub veiling_in_turn : List ℕ
veiling_in_turn = text_of_lines (codes "1 unveil /d r" ∷ codes "1 fork 2" ∷ codes "2 unveil /e r" ∷ [])

abbrev pub sharing : List ℕ
sharing = text_of_lines (codes "1 fork 2" ∷ codes "1 fork 3" ∷ codes "1 pledge rpath -" ∷ codes "2 pledge cpath -" ∷ codes "3 exit" ∷ [])

abbrev pub parting : List ℕ
parting = text_of_lines (codes "1 unveil /d r" ∷ codes "1 fork 2" ∷ codes "2 unveil /e r" ∷ codes "1 unveil - -" ∷ codes "2 unveil - -" ∷ [])

abbrev pub opening_past_veils : List ℕ
opening_past_veils = text_of_lines (codes "1 unveil / =" ∷ codes "1 pledge stdio,dns -" ∷ [])

abbrev pub opening_by_veils : List ℕ
opening_by_veils = text_of_lines (codes "1 pledge tty,tmppath,getpw -" ∷ [])

abbrev pub locking : List ℕ
locking = text_of_lines (codes "1 unveil / =" ∷ codes "1 unveil - -" ∷ [])

abbrev pub tmp_listing : List ℕ
tmp_listing = text_of_lines (codes "tree 1" ∷ codes "0 dir" ∷ codes "1 dir 0 tmp" ∷ codes "2 file 1 x" ∷ [])

abbrev pub making_by_tmppath : List ℕ
making_by_tmppath = text_of_lines (codes "1 unveil /tmp rwc" ∷ codes "1 pledge tmppath -" ∷ [])

abbrev pub resolver_listing : List ℕ
resolver_listing = text_of_lines (codes "tree 1" ∷ codes "0 dir" ∷ codes "1 dir 0 etc" ∷ codes "2 file 1 resolv.conf" ∷ [])

abbrev pub resolving : List ℕ
resolving = text_of_lines (codes "1 pledge dns -" ∷ codes "1 open-r /etc/resolv.conf" ∷ codes "1 open-r /etc" ∷ [])

abbrev pub two_files : List ℕ
two_files = text_of_lines (codes "tree 1" ∷ codes "0 dir" ∷ codes "1 dir 0 d" ∷ codes "2 file 1 a" ∷ codes "3 file 0 b" ∷ [])

abbrev pub holding : List ℕ
holding = text_of_lines (codes "1 hold 5 open-rw /d/a" ∷ codes "1 hold 4 open-r /b" ∷ codes "1 hold 3 open-r /d" ∷ codes "1 unlink /d/a"
    ∷ codes "1 link /b /d/c" ∷ codes "1 unveil / =" ∷ codes "1 pledge stdio,fattr -" ∷ [])

abbrev pub receiving : List ℕ
receiving = text_of_lines (codes "1 pledge recvfd -" ∷ [])

abbrev pub by_openbsd : Chosen
by_openbsd = record by_standard { rules = Openbsd }

abbrev pub plain_job : Wanted
plain_job = record { limit = 2; process = 1; base = Root; after = None; candidates = codes "a" ∷ [] }

pub record TextRows : Type 0 where
  pub run : run_text by_standard root_listing ending ≡ Ok (text_of_lines (codes "1 ok" ∷ codes "2 killed" ∷ codes "3 gone" ∷ []))
  pub run_of_no_lines : run_text by_standard root_listing [] ≡ Ok []
  pub run_by_standard : run_text by_standard root_listing changing ≡ Ok (text_of_lines (codes "1 ok" ∷ codes "2 ok" ∷ []))
  pub run_by_openbsd : run_text by_openbsd root_listing changing
      ≡ Ok (text_of_lines (codes "1 ok" ∷ codes "2 killed" ∷ []))
  pub run_past_promises : run_text by_openbsd resolver_listing resolving
      ≡ Ok (text_of_lines (codes "1 ok" ∷ codes "2 ok by dns" ∷ codes "3 killed" ∷ []))
  pub run_by_promises : run_text by_standard resolver_listing resolving
      ≡ Ok (text_of_lines (codes "1 ok" ∷ codes "2 killed" ∷ codes "3 gone" ∷ []))
  pub audit : audit_text by_standard root_listing creating_alone plain_job
      ≡ Ok (text_of_lines (codes "1 ok" ∷ codes "reach 1" ∷ codes "/../a mkdir" ∷ codes "/../a symlink" ∷ codes "/a mkdir"
      ∷ codes "/a symlink" ∷ []))
  pub resumed : audit_text by_standard root_listing creating_alone (record plain_job { after = Some (codes "symlink:/../a") })
      ≡ Ok (text_of_lines (codes "/a mkdir" ∷ codes "/a symlink" ∷ []))
  pub spelled : audit_text by_standard root_listing creating_alone (record plain_job { limit = 1; candidates = codes "a\\040b" ∷ [] })
      ≡ Ok (text_of_lines (codes "1 ok" ∷ codes "reach 1" ∷ codes "/a\\040b mkdir" ∷ codes "/a\\040b symlink" ∷ []))
  pub beneath_a_spelled_name : audit_text by_standard root_and_directory creating_alone (record plain_job { candidates = codes "x" ∷ [] })
      ≡ Ok (text_of_lines (codes "1 ok" ∷ codes "reach 1" ∷ codes "/../a\\040b rmdir" ∷ codes "/../x mkdir" ∷ codes "/../x symlink"
      ∷ codes "/a\\040b rmdir"
      ∷ codes "/a\\040b/a\\040b mkdir" ∷ codes "/a\\040b/a\\040b symlink" ∷ codes "/a\\040b/x mkdir" ∷ codes "/a\\040b/x symlink"
      ∷ codes "/x mkdir" ∷ codes "/x symlink" ∷ []))
  pub ended_process : audit_text by_standard root_listing ending plain_job
      ≡ Ok (text_of_lines (codes "1 ok" ∷ codes "2 killed" ∷ codes "3 gone" ∷ codes "reach 1" ∷ []))
  pub another_process : audit_text by_standard root_listing forking (record plain_job { limit = 0; process = 2; base = Cwd })
      ≡ Ok (text_of_lines (codes "1 ok" ∷ codes "2 ok" ∷ codes "reach 2" ∷ codes ". stat" ∷ codes ". lstat" ∷ codes ". open-r"
      ∷ codes ". chmod" ∷ codes ". chdir" ∷ []))
  pub audit_by_standard : audit_text by_standard root_listing changing (record plain_job { limit = 0; base = Cwd })
      ≡ Ok (text_of_lines (codes "1 ok" ∷ codes "2 ok" ∷ codes "reach 1" ∷ codes ". chmod" ∷ []))
  pub beyond_chdir : audit_text by_standard root_listing reading_alone (record plain_job { limit = 1; candidates = [] })
      ≡ Ok (text_of_lines (codes "1 ok" ∷ codes "reach 1" ∷ codes "/ stat" ∷ codes "/ lstat" ∷ codes "/ open-r" ∷ codes "/ chdir"
      ∷ codes "/.. stat" ∷ codes "/.. lstat" ∷ codes "/.. open-r" ∷ codes "/.. chdir" ∷ []))
  pub objects : objects_text by_standard root_listing creating_alone (One 1)
      ≡ Ok (text_of_lines (codes "1 ok" ∷ codes "objects 1" ∷ codes "process alive" ∷ codes "promises cpath,stdio" ∷ codes "execpromises -"
      ∷ codes "unveil given-up" ∷ codes "no veils" ∷ codes "other / mkdir,symlink" ∷ []))
  -- a process as it was before the program that it started
  pub images : images_text by_standard program_listing starting (One 1)
      ≡ Ok (text_of_lines (codes "1 ok" ∷ codes "2 ok" ∷ codes "3 ok" ∷ codes "objects 1 before 3" ∷ codes "process alive"
      ∷ codes "promises exec,stdio" ∷ codes "execpromises stdio" ∷ codes "unveil given-up" ∷ codes "veil /a x" ∷ codes "prog /a exec"
      ∷ codes "objects 1" ∷ codes "process alive" ∷ codes "promises stdio" ∷ codes "execpromises -" ∷ codes "unveil given-up"
      ∷ codes "veil /a x" ∷ []))
  pub ended_objects : objects_text by_standard root_listing ending (One 1)
      ≡ Ok (text_of_lines (codes "1 ok" ∷ codes "2 killed" ∷ codes "3 gone" ∷ codes "objects 1" ∷ codes "process ended" ∷ []))
  pub veiled_objects : objects_text by_standard root_listing veiling_script (One 1)
      ≡ Ok (text_of_lines (codes "1 ok" ∷ codes "2 ok" ∷ codes "3 ok" ∷ codes "4 ok" ∷ codes "5 ok" ∷ codes "6 ok" ∷ codes "objects 1"
      ∷ codes "process alive" ∷ codes "promises -" ∷ codes "execpromises =" ∷ codes "unveil locked"
      ∷ codes "veil /d rc" ∷ codes "veil /d/a\\040b =" ∷ codes "dir /d stat,lstat,open-r,rmdir,chdir" ∷ codes "other /d mkdir,symlink"
      ∷ []))
  pub removed_place : objects_text by_standard root_listing removing_script (One 1)
      ≡ Ok (text_of_lines (codes "1 ok" ∷ codes "2 ok" ∷ codes "3 ok" ∷ codes "objects 1" ∷ codes "process alive" ∷ codes "promises -"
      ∷ codes "execpromises -" ∷ codes "unveil open" ∷ codes "veil - rc" ∷ []))
  pub all_objects : objects_text by_standard root_listing pairing All
      ≡ Ok (text_of_lines (codes "1 ok" ∷ codes "2 ok" ∷ codes "3 ok" ∷ codes "objects 1" ∷ codes "process ended" ∷ codes "objects 7"
      ∷ codes "process alive" ∷ codes "promises =" ∷ codes "execpromises -" ∷ codes "unveil given-up" ∷ codes "no veils" ∷ []))
  pub beyond_link : objects_text by_standard link_and_file reading_alone (One 1)
      ≡ Ok (text_of_lines (codes "1 ok" ∷ codes "objects 1" ∷ codes "process alive" ∷ codes "promises rpath,stdio" ∷ codes "execpromises -"
      ∷ codes "unveil given-up" ∷ codes "no veils" ∷ codes "dir / stat,lstat,open-r,chdir" ∷ codes "link /a lstat,readlink"
      ∷ codes "file /b stat,lstat,open-r" ∷ []))
  pub ever : ever_text by_standard root_listing pairing 7
      ≡ Ok (text_of_lines (codes "1 ok" ∷ codes "2 ok" ∷ codes "3 ok" ∷ codes "ever 7" ∷ codes "process alive" ∷ codes "promises ="
      ∷ codes "execpromises -" ∷ codes "unveil given-up" ∷ codes "no veils" ∷ []))
  pub together : together_text by_standard root_listing sharing All
      ≡ Ok (text_of_lines (codes "1 ok" ∷ codes "2 ok" ∷ codes "3 ok" ∷ codes "4 ok" ∷ codes "5 ok" ∷ codes "ever 1,2,3"
      ∷ codes "process 1 alive" ∷ codes "promises rpath" ∷ codes "execpromises -" ∷ codes "unveil given-up"
      ∷ codes "process 2 alive" ∷ codes "promises cpath" ∷ codes "execpromises -" ∷ codes "unveil given-up"
      ∷ codes "process 3 ended" ∷ codes "no veils" ∷ codes "dir / stat,lstat,open-r,chdir" ∷ codes "other / mkdir,symlink"
      ∷ codes "dir new stat,lstat,open-r,rmdir,chdir" ∷ codes "other new mkdir,symlink" ∷ codes "link new lstat,readlink,unlink" ∷ []))
  pub other_veils : together_text by_standard two_directories parting All ≡ Err (OtherVeils 1 2)
  pub opened_past_veils : objects_text by_openbsd root_listing opening_past_veils (One 1)
      ≡ Ok (text_of_lines (codes "1 ok" ∷ codes "2 ok" ∷ codes "objects 1" ∷ codes "process alive" ∷ codes "rules openbsd"
      ∷ codes "promises dns,stdio" ∷ codes "execpromises -" ∷ codes "unveil given-up"
      ∷ codes "opening /etc/resolv.conf stat,open-r" ∷ codes "opening /etc/hosts open-r" ∷ codes "opening /etc/services open-r"
      ∷ codes "opening /etc/protocols open-r" ∷ codes "opening /dev/null open-r,open-w,open-rw"
      ∷ codes "opening /etc/localtime stat,open-r" ∷ codes "opening /usr/share/zoneinfo/ open-r" ∷ codes "veil / =" ∷ []))
  pub opened_by_veils : objects_text by_openbsd root_listing opening_by_veils (One 1)
      ≡ Ok (text_of_lines (codes "1 ok" ∷ codes "objects 1" ∷ codes "process alive" ∷ codes "rules openbsd"
      ∷ codes "promises getpw,tmppath,tty" ∷ codes "execpromises -" ∷ codes "unveil given-up"
      ∷ codes "opening /etc/pwd.db open-r" ∷ codes "opening /etc/group open-r" ∷ codes "opening /etc/netid open-r"
      ∷ codes "opening /var/run/ypbind.lock stat,open-r" ∷ codes "opening /var/yp/binding/ open-r"
      ∷ codes "opening /tmp/ create,unlink,create-rw veils" ∷ codes "opening /dev/tty open-r,open-w,open-rw veils" ∷ codes "no veils" ∷ []))
  pub unopened : objects_text by_openbsd root_listing locking (One 1)
      ≡ Ok (text_of_lines (codes "1 ok" ∷ codes "2 ok" ∷ codes "objects 1" ∷ codes "process alive" ∷ codes "rules openbsd"
      ∷ codes "promises -" ∷ codes "execpromises -" ∷ codes "unveil locked" ∷ codes "veil / =" ∷ []))
  pub ever_opened : ever_text by_openbsd root_listing locking 1
      ≡ Ok (text_of_lines (codes "1 ok" ∷ codes "2 ok" ∷ codes "ever 1" ∷ codes "process alive" ∷ codes "rules openbsd"
      ∷ codes "promises -" ∷ codes "execpromises -" ∷ codes "unveil locked" ∷ codes "receive open"
      ∷ codes "opening /etc/resolv.conf stat,open-r" ∷ codes "opening /etc/hosts open-r" ∷ codes "opening /etc/services open-r"
      ∷ codes "opening /etc/protocols open-r" ∷ codes "opening /etc/pwd.db open-r" ∷ codes "opening /etc/group open-r"
      ∷ codes "opening /etc/netid open-r" ∷ codes "opening /var/run/ypbind.lock stat,open-r" ∷ codes "opening /var/yp/binding/ open-r"
      ∷ codes "opening /dev/null open-r,open-w,open-rw" ∷ codes "opening /etc/localtime stat,open-r"
      ∷ codes "opening /usr/share/zoneinfo/ open-r" ∷ codes "opening /tmp/ create,unlink,create-rw veils"
      ∷ codes "opening /dev/tty open-r,open-w,open-rw veils" ∷ codes "veil / =" ∷ []))
  -- what is open: a directory, a file with two names, and one that has none any more
  pub held : objects_text by_openbsd two_files holding (One 1)
      ≡ Ok (text_of_lines (codes "1 ok" ∷ codes "2 ok" ∷ codes "3 ok" ∷ codes "4 ok" ∷ codes "5 ok" ∷ codes "6 ok" ∷ codes "7 ok"
      ∷ codes "objects 1" ∷ codes "process alive" ∷ codes "rules openbsd" ∷ codes "promises fattr,stdio" ∷ codes "execpromises -"
      ∷ codes "unveil given-up" ∷ codes "opening /dev/null open-r,open-w,open-rw" ∷ codes "opening /etc/localtime stat,open-r"
      ∷ codes "opening /usr/share/zoneinfo/ open-r" ∷ codes "veil / =" ∷ codes "held 3 dir /d read,chdir,chmod,chown"
      ∷ codes "held 4 file /b read,chmod,chown" ∷ codes "held 4 file /d/c read,chmod,chown" ∷ codes "held 5 file - read,write,chmod,chown"
      ∷ []))
  pub ever_receives : ever_text by_openbsd root_listing receiving 1
      ≡ Ok (text_of_lines (codes "1 ok" ∷ codes "ever 1" ∷ codes "process alive" ∷ codes "rules openbsd" ∷ codes "promises recvfd"
      ∷ codes "execpromises -" ∷ codes "unveil given-up" ∷ codes "receive open" ∷ codes "no veils" ∷ []))
  -- for ever tmppath has the calls that it opens wherever the veils let them through
  pub ever_by_tmppath : ever_text by_openbsd tmp_listing making_by_tmppath 1
      ≡ Ok (text_of_lines (codes "1 ok" ∷ codes "2 ok" ∷ codes "ever 1" ∷ codes "process alive" ∷ codes "rules openbsd"
      ∷ codes "promises tmppath" ∷ codes "execpromises -" ∷ codes "unveil given-up" ∷ codes "opening /tmp/ create,unlink,create-rw veils"
      ∷ codes "veil /tmp rwc" ∷ codes "other /tmp create,create-rw" ∷ codes "file /tmp/x create,unlink,create-rw"
      ∷ codes "file new create,unlink,create-rw" ∷ []))
  pub never_listed : objects_text by_standard root_listing [] (One 2) ≡ Err NoProcess
  pub bad_listing : audit_text by_standard (text_of_lines (codes "tree 1" ∷ codes "0 dir" ∷ codes "1 dir 0" ∷ [])) (codes "1") plain_job
      ≡ Err (Listing (BadLine 3))
  pub bad_script : audit_text by_standard root_listing (codes "1 stat") (record plain_job { process = 2 }) ≡ Err (Script (BadCall 1))
  pub never_made : audit_text by_standard root_listing [] (record plain_job { process = 2; limit = 17 }) ≡ Err NoProcess
  pub bad_resume : audit_text by_standard root_listing [] (record plain_job { after = Some (codes "stat:/nope") }) ≡ Err (Audit BadResume)

pub text_rows : TextRows
unfolding digits replay_of audit_text objects_text images_text served_script ever_text together_text
text_rows = record {
  run = refl;
  run_of_no_lines = refl;
  run_by_standard = refl;
  run_by_openbsd = refl;
  run_past_promises = refl;
  run_by_promises = refl;
  audit = refl;
  resumed = refl;
  spelled = refl;
  beneath_a_spelled_name = refl;
  ended_process = refl;
  another_process = refl;
  audit_by_standard = refl;
  beyond_chdir = refl;
  objects = refl;
  images = refl;
  ended_objects = refl;
  veiled_objects = refl;
  removed_place = refl;
  all_objects = refl;
  beyond_link = refl;
  ever = refl;
  together = refl;
  other_veils = refl;
  opened_past_veils = refl;
  opened_by_veils = refl;
  unopened = refl;
  ever_opened = refl;
  held = refl;
  ever_receives = refl;
  ever_by_tmppath = refl;
  never_listed = refl;
  bad_listing = refl;
  bad_script = refl;
  never_made = refl;
  bad_resume = refl;
}

abbrev pub roomy : List ℕ
roomy = text_of_lines (codes "1 unveil / rw" ∷ codes "1 pledge fattr,rpath fattr" ∷ codes "1 stat /" ∷ [])

-- texts of tightened scripts, and of what their words are needed by
pub record TightTextRows : Type 0 where
  pub tightened : tight_text by_standard root_listing roomy
      ≡ Ok (text_of_lines (codes "1 unveil / r" ∷ codes "1 pledge rpath =" ∷ codes "1 stat /" ∷ []))
  pub by_openbsd : tight_text (record by_standard { rules = Openbsd }) root_listing
      (text_of_lines (codes "1 pledge fattr,rpath -" ∷ codes "1 chmod /" ∷ []))
      ≡ Ok (text_of_lines (codes "1 pledge fattr,rpath -" ∷ codes "1 chmod /" ∷ []))
  pub needed : tight_why_text by_standard root_listing roomy
      ≡ Ok (text_of_lines (codes "1 veil r needed by 3" ∷ codes "1 veil w spare" ∷ codes "2 promises fattr spare"
      ∷ codes "2 promises rpath needed by 3" ∷ codes "2 execpromises fattr spare" ∷ []))
  pub bad_script : tight_text by_standard root_listing (codes "1 stat") ≡ Err (Script (BadCall 1))
  pub bad_listing : tight_why_text by_standard (text_of_lines (codes "tree 1" ∷ codes "0 dir" ∷ codes "1 dir 0" ∷ [])) (codes "1")
      ≡ Err (Listing (BadLine 3))

pub tight_text_rows : TightTextRows
unfolding digits promises_text tight_text words_by
tight_text_rows = record { tightened = refl; by_openbsd = refl; needed = refl; bad_script = refl; bad_listing = refl }

-- the lines of faults: with the line, the place or the call that is to blame
pub record FaultTextRows : Type 0 where
  pub listing : fault_line (Listing (BadLine 3)) ≡ with_end (codes "pua: listing: line 3: bad line")
  pub script : fault_line (Script (BadCall 1)) ≡ with_end (codes "pua: script: line 1: bad call")
  pub candidate : fault_line (Audit (BadCandidate 2)) ≡ with_end (codes "pua: audit: bad candidate 2")
  pub table : fault_line (Table (BadVeil OpenRead)) ≡ with_end (codes "pua: table: open-r: bad veil")
  pub line : fault_line (NoLine 14) ≡ with_end (codes "pua: script: line 14: no such line")

pub fault_text_rows : FaultTextRows
unfolding digits
fault_text_rows = record { listing = refl; script = refl; candidate = refl; table = refl; line = refl }

-- what is served of a script, and what of one whose last line has no end
pub record FrontRows : Type 0 where
  pub none : script_at (Some 0) forking ≡ Ok []
  pub first : script_at (Some 1) forking ≡ Ok (text_of_lines (codes "1 fork 2" ∷ []))
  pub both : script_at (Some 2) forking ≡ Ok forking
  pub third : script_at (Some 3) forking ≡ Err (NoLine 3)
  pub whole : script_at None forking ≡ Ok forking
  pub without_end : script_at (Some 1) (codes "1 exit") ≡ Ok (codes "1 exit")
  pub behind_it : script_at (Some 2) (codes "1 exit") ≡ Err (NoLine 2)
  pub of_nothing : script_at (Some 1) [] ≡ Err (NoLine 1)

pub front_rows : FrontRows
front_rows = record { none = refl; first = refl; both = refl; third = refl; whole = refl; without_end = refl; behind_it = refl; of_nothing = refl }

-- texts with reasons
pub record ReasonTextRows : Type 0 where
  pub run_by_openbsd : run_why_text by_openbsd root_listing changing
      ≡ Ok (text_of_lines (codes "1 ok" ∷ codes "2 killed no rpath since line 1" ∷ []))
  pub run_past_promises : run_why_text by_openbsd resolver_listing resolving
      ≡ Ok (text_of_lines (codes "1 ok" ∷ codes "2 ok by dns" ∷ codes "3 killed no rpath since line 1" ∷ []))
  pub another_process : why_text by_standard root_listing pairing 7 (codes "stat" ∷ codes "/" ∷ [])
      ≡ Ok (text_of_lines (codes "killed no rpath since line 2" ∷ []))
  pub dated_veils : objects_why_text by_standard two_directories veiling_in_turn All
      ≡ Ok (text_of_lines (codes "1 ok" ∷ codes "2 ok" ∷ codes "3 ok"
      ∷ codes "objects 1" ∷ codes "process alive" ∷ codes "promises -" ∷ codes "execpromises -" ∷ codes "unveil open" ∷ codes "veil /d r"
      ∷ codes "dir /d stat,lstat,open-r,chdir rpath /d r 1"
      ∷ codes "objects 2" ∷ codes "process alive" ∷ codes "promises -" ∷ codes "execpromises -" ∷ codes "unveil open" ∷ codes "veil /d r"
      ∷ codes "veil /e r" ∷ codes "dir /d stat,lstat,open-r,chdir rpath /d r 1" ∷ codes "dir /e stat,lstat,open-r,chdir rpath /e r 3" ∷ []))

pub reason_text_rows : ReasonTextRows
unfolding digits trace_from promises_text served_script why_text objects_why_text
reason_text_rows = record { run_by_openbsd = refl; run_past_promises = refl; another_process = refl; dated_veils = refl }

-- what is said where no way is found, and what refuses the question
abbrev pub without_way_of : Option ObjectKind → List ℕ → List ℕ → List ℕ → List ℕ → Result (List ℕ) ToolFault
without_way_of kind tree_bytes script_bytes call path =
    replay_of by_standard tree_bytes script_bytes
    >>= λ done. question_of done (record { process = 1; call = call; path = path; kind = kind }) 0
    >>= λ q. Ok (way_text done q None)

abbrev pub without_way : List ℕ → List ℕ → List ℕ → List ℕ → Result (List ℕ) ToolFault
without_way = without_way_of None

pub record HowTextRows : Type 0 where
  pub never : without_way root_listing locking (codes "stat") (codes "/") ≡ Ok (text_of_lines (codes "never" ∷ []))
  pub unfound : without_way root_listing veiling_script (codes "stat") (codes "/d") ≡ Ok (text_of_lines (codes "no way found" ∷ []))
  pub can_unveil : without_way root_listing [] (codes "stat") (codes "/") ≡ Err (CanUnveil 1)
  pub bad_call : without_way root_listing locking (codes "rename") (codes "/..") ≡ Err HowCall
  pub bad_path : without_way root_listing locking (codes "stat") (codes "/..") ≡ Err HowPath
  pub no_thing : without_way root_listing locking (codes "stat") (codes "/a/b") ≡ Err HowThing
  pub link : without_way link_and_file locking (codes "open-r") (codes "/a") ≡ Err (HowLink OpenRead)
  pub kept_link : without_way link_and_file locking (codes "readlink") (codes "/a") ≡ Ok (text_of_lines (codes "never" ∷ []))
  pub new_link : without_way_of (Some (kind.Node Link)) root_listing locking (codes "open-r") (codes "new") ≡ Err (HowLink OpenRead)
  pub new_things : without_way root_listing locking (codes "open-r") (codes "new") ≡ Ok (text_of_lines (codes "never" ∷ []))

pub how_text_rows : HowTextRows
unfolding replay_of
how_text_rows = record { never = refl; unfound = refl; can_unveil = refl; bad_call = refl; bad_path = refl; no_thing = refl; link = refl; kept_link = refl; new_link = refl; new_things = refl }
