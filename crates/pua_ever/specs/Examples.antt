-- Worked rows on what can ever be touched, by the standard table and by OpenBSD's rules, and on where there is no list.
use Rattle.std.specs.Prelude.{◌≡◌, ◌+◌, ℕ, true, false, List, [], ◌∷◌, map, Some, None, codes, refl}
use Rattle.pua_tree.specs.Tree.{Tree, Node, empty_tree}
use Rattle.pua_tree.specs.declared.node.Kind.TheVariants.{Dir, File, Link, Prog, Known}
use Rattle.pua_tree.specs.declared.node.FileType.{FileType}
use Rattle.pua_tree.specs.declared.node.FileType.TheVariants.{Plain, Sock, Fifo}
use Rattle.pua_calls.specs.Promises.{rpath, wpath, cpath, dpath, fattr, exec, unix, reading, writing, executing, creating}
use Rattle.pua_calls.specs.Calls.{CallTable, NameRule, standard_name, standard_pair, standard_table, openbsd_table}
use Rattle.pua_policy.specs.States.{ProcessState, Filed, new_process, state_after}
use Rattle.pua_policy.specs.declared.place.Place.{Place}
use Rattle.pua_policy.specs.declared.place.Place.TheVariants as place
use Rattle.pua_ever.specs.Ever.{ever, ever_line_text}
use Rattle.pua_ever.specs.Refusals.{refusal}
use Rattle.pua_ever.specs.declared.refusal.EverRefusal.TheVariants.{CanUnveil, LinkLacksC}

abbrev pub lines : Tree → ProcessState → List (List ℕ)
lines t h = map (ever_line_text t) (ever t standard_table h)

abbrev pub lines_by_openbsd : Tree → ProcessState → List (List ℕ)
lines_by_openbsd t h = map (ever_line_text t) (ever t openbsd_table h)

-- the names that lead to what each line is about
abbrev pub words : Tree → ProcessState → List (List (List ℕ))
words t h = map (λ line. line.word) (ever t standard_table h)

abbrev directory : Node
directory = record { kind = Dir; target = None; mount = false }

-- one at which another file system is mounted
abbrev mount : Node
mount = record { kind = Dir; target = None; mount = true }

abbrev file : Node
file = record { kind = File; target = None; mount = false }

abbrev program : Node
program = record { kind = Prog; target = None; mount = false }

-- who is locked, and holds these promises and has these veils
abbrev locked_by : ℕ → List (Place × ℕ) → ProcessState
locked_by promises veils = record new_process { promises = Some promises; veils = veils; locked = true }

-- the same with promises for every call of the table
abbrev pub locked_with : List (Place × ℕ) → ProcessState
locked_with veils = locked_by (rpath + wpath + cpath + fattr + exec) veils

-- `/a` has rwc and `/b` has c: what stands in `/b` can be moved into `/a`, and be read there
abbrev pub moved_on_tree : Tree
moved_on_tree = record empty_tree {
  rows = ((0, codes "a"), 1) ∷ ((0, codes "b"), 2) ∷ ((2, codes "x"), 3) ∷ ((3, codes "f"), 4) ∷ [];
  nodes = (0, directory) ∷ (1, directory) ∷ (2, directory) ∷ (3, directory) ∷ (4, file) ∷ [];
  next = 5;
}

abbrev pub moved_on_process : ProcessState
moved_on_process =
    locked_with (
    (place.Dir 1, reading + writing + creating)
    ∷ (place.Dir 2, creating)
    ∷ [])

-- `/` has rx, `/a` and `/b` have c: a directory in one can take the place of the other, and then stands under the veil
-- of `/`, where the program in it can be run
abbrev pub in_the_place_tree : Tree
in_the_place_tree = record empty_tree {
  rows = ((0, codes "a"), 1) ∷ ((0, codes "b"), 2) ∷ ((1, codes "x"), 3) ∷ ((3, codes "p"), 4) ∷ [];
  nodes = (0, directory) ∷ (1, directory) ∷ (2, directory) ∷ (3, directory) ∷ (4, program) ∷ [];
  next = 5;
}

abbrev pub in_the_place_process : ProcessState
in_the_place_process =
    locked_with (
    (place.Dir 0, reading + executing)
    ∷ (place.Dir 1, creating)
    ∷ (place.Dir 2, creating)
    ∷ [])

-- `/` has rx and `/a` has rwc: nothing outside of `/a` has c, so nothing takes its place, and the program in it is never run
abbrev pub one_area_tree : Tree
one_area_tree = record empty_tree {
  rows = ((0, codes "a"), 1) ∷ ((1, codes "x"), 2) ∷ ((2, codes "p"), 3) ∷ [];
  nodes = (0, directory) ∷ (1, directory) ∷ (2, directory) ∷ (3, program) ∷ [];
  next = 4;
}

abbrev pub one_area_process : ProcessState
one_area_process =
    locked_with (
    (place.Dir 0, reading + executing)
    ∷ (place.Dir 1, reading + writing + creating)
    ∷ [])

-- `/` has rx and the name `/f` has rwc: a file there has the letters of the name, and a directory made there is covered as `/` is
abbrev pub name_alone_tree : Tree
name_alone_tree = record empty_tree {
  rows = ((0, codes "f"), 1) ∷ [];
  nodes = (0, directory) ∷ (1, program) ∷ [];
  next = 2;
}

abbrev pub name_alone_process : ProcessState
name_alone_process =
    locked_with (
    (place.Dir 0, reading + executing)
    ∷ (place.Slot 0 (codes "f"), reading + writing + creating)
    ∷ [])

-- and `/a` has wc: the program in it can be moved to the name, and in a directory to where x is
abbrev pub name_and_area_tree : Tree
name_and_area_tree = record empty_tree {
  rows = ((0, codes "a"), 2) ∷ ((0, codes "f"), 1) ∷ ((2, codes "p"), 3) ∷ [];
  nodes = (0, directory) ∷ (1, program) ∷ (2, directory) ∷ (3, program) ∷ [];
  next = 4;
}

abbrev pub name_and_area_process : ProcessState
name_and_area_process =
    locked_with (
    (place.Dir 0, reading + executing)
    ∷ (place.Slot 0 (codes "f"), reading + writing + creating)
    ∷ (place.Dir 2, writing + creating)
    ∷ [])

-- a name with rwc that is taken by a directory without c: nothing else ever comes there
abbrev pub dead_name_tree : Tree
dead_name_tree = record empty_tree {
  rows = ((0, codes "a"), 2) ∷ ((0, codes "n"), 1) ∷ ((2, codes "f"), 3) ∷ [];
  nodes = (0, directory) ∷ (1, directory) ∷ (2, directory) ∷ (3, file) ∷ [];
  next = 4;
}

abbrev pub dead_name_process : ProcessState
dead_name_process =
    locked_with (
    (place.Slot 0 (codes "n"), reading + writing + creating)
    ∷ (place.Dir 2, creating)
    ∷ [])

-- a file with two names, one of them under c: by that name it is moved to where everything is allowed
abbrev pub second_name_tree : Tree
second_name_tree = record empty_tree {
  rows = ((0, codes "a"), 2) ∷ ((0, codes "b"), 3) ∷ ((0, codes "k"), 1) ∷ ((2, codes "k"), 1) ∷ [];
  nodes = (0, directory) ∷ (1, file) ∷ (2, directory) ∷ (3, directory) ∷ [];
  next = 4;
}

abbrev pub second_name_process : ProcessState
second_name_process =
    locked_with (
    (place.Slot 0 (codes "k"), 0)
    ∷ (place.Dir 2, creating)
    ∷ (place.Dir 3, reading + writing + creating)
    ∷ [])

-- everything has rwc but the file `/a/k`, which has r: so `/a` never comes to be empty
abbrev pub one_that_stays_tree : Tree
one_that_stays_tree = record empty_tree {
  rows = ((0, codes "a"), 1) ∷ ((0, codes "b"), 3) ∷ ((1, codes "k"), 2) ∷ ((3, codes "k"), 4) ∷ [];
  nodes = (0, directory) ∷ (1, directory) ∷ (2, file) ∷ (3, directory) ∷ (4, file) ∷ [];
  next = 5;
}

abbrev pub one_that_stays_process : ProcessState
one_that_stays_process =
    locked_with (
    (place.Dir 0, reading + writing + creating)
    ∷ (place.Slot 1 (codes "k"), reading)
    ∷ [])

-- the same of a directory in the place of the file
abbrev pub dir_that_stays_tree : Tree
dir_that_stays_tree = record empty_tree {
  rows = ((0, codes "a"), 1) ∷ ((1, codes "b"), 2) ∷ [];
  nodes = (0, directory) ∷ (1, directory) ∷ (2, directory) ∷ [];
  next = 3;
}

abbrev pub dir_that_stays_process : ProcessState
dir_that_stays_process =
    locked_with (
    (place.Dir 0, reading + writing + creating)
    ∷ (place.Dir 2, reading)
    ∷ [])

-- no veil at all
abbrev pub no_veil_tree : Tree
no_veil_tree = record empty_tree {
  rows = ((0, codes "a"), 1) ∷ ((1, codes "k"), 2) ∷ [];
  nodes = (0, directory) ∷ (1, directory) ∷ (2, file) ∷ [];
  next = 3;
}

abbrev pub no_veil_process : ProcessState
no_veil_process = locked_with []

-- no veil, and no promise to change the tree
abbrev pub no_cpath_tree : Tree
no_cpath_tree = record empty_tree {
  rows = ((0, codes "a"), 1) ∷ ((1, codes "k"), 2) ∷ [];
  nodes = (0, directory) ∷ (1, directory) ∷ (2, file) ∷ [];
  next = 3;
}

abbrev pub no_cpath_process : ProcessState
no_cpath_process = locked_by (rpath + wpath) []

-- and by OpenBSD's rules sockets can be named by another promise, and special files be made by a third
abbrev pub unix_process : ProcessState
unix_process = locked_by (rpath + unix) []

abbrev pub dpath_process : ProcessState
dpath_process = locked_by (rpath + dpath) []

-- `/mail` has r and `/spool` has rwc: by OpenBSD's rules what stands in `/mail` can be given a further name in
-- `/spool`, and be written by that. So it isn't with the link in it, which link follows
abbrev pub aliases_tree : Tree
aliases_tree = record empty_tree {
  rows = ((0, codes "mail"), 1) ∷ ((0, codes "spool"), 2) ∷ ((1, codes "aliases"), 3) ∷ ((1, codes "l"), 4) ∷ [];
  nodes = (0, directory) ∷ (1, directory) ∷ (2, directory) ∷ (3, file) ∷ (4, record { kind = Link; target = Some (codes "x"); mount = false }) ∷ [];
  next = 5;
}

abbrev aliases_veils : List (Place × ℕ)
aliases_veils = (place.Dir 1, reading) ∷ (place.Dir 2, reading + writing + creating) ∷ []

abbrev pub aliases_process : ProcessState
aliases_process = locked_with aliases_veils

-- and so it isn't where nothing may be read: link needs that of its old name
abbrev pub unread_aliases_process : ProcessState
unread_aliases_process = locked_by (wpath + cpath + fattr) aliases_veils

-- `/bin` has rx and `/spool` has rwc: by a further name in `/spool` the program in `/bin` can be written, and by its own it is run
abbrev pub two_ways_tree : Tree
two_ways_tree = record empty_tree {
  rows = ((0, codes "bin"), 1) ∷ ((0, codes "spool"), 2) ∷ ((1, codes "p"), 3) ∷ [];
  nodes = (0, directory) ∷ (1, directory) ∷ (2, directory) ∷ (3, program) ∷ [];
  next = 4;
}

abbrev pub two_ways_process : ProcessState
two_ways_process =
    locked_with (
    (place.Dir 1, reading + executing)
    ∷ (place.Dir 2, reading + writing + creating)
    ∷ [])

-- the standard table, by which link's new name needs `r` alone
abbrev pub read_name : NameRule
read_name = record standard_name { needs = record { alternatives = cpath ∷ []; perms = reading } }

abbrev pub link_by_r : CallTable
link_by_r = record standard_table { link = record standard_pair { new = read_name } }

pub record EverRows : Type 0 where
  pub moved_on : lines moved_on_tree moved_on_process ≡
      codes "dir /a stat,lstat,open-r,rmdir,chmod,chdir"
      ∷ codes "other /a create,mkdir,symlink"
      ∷ codes "dir /b rmdir"
      ∷ codes "other /b mkdir,symlink"
      ∷ codes "dir /b/x stat,lstat,open-r,rmdir,chmod,chdir"
      ∷ codes "other /b/x create,mkdir,symlink"
      ∷ codes "file /b/x/f stat,lstat,open-r,open-w,open-rw,create,unlink,chmod"
      ∷ codes "dir new stat,lstat,open-r,rmdir,chmod,chdir"
      ∷ codes "other new create,mkdir,symlink"
      ∷ codes "file new stat,lstat,open-r,open-w,open-rw,create,unlink,chmod"
      ∷ codes "link new lstat,readlink,unlink"
      ∷ []
  pub in_the_place : lines in_the_place_tree in_the_place_process ≡
      codes "dir / stat,lstat,open-r,chdir"
      ∷ codes "dir /a rmdir"
      ∷ codes "other /a mkdir,symlink"
      ∷ codes "dir /a/x stat,lstat,open-r,rmdir,chdir"
      ∷ codes "other /a/x mkdir,symlink"
      ∷ codes "prog /a/x/p stat,lstat,open-r,unlink,exec"
      ∷ codes "dir /b rmdir"
      ∷ codes "other /b mkdir,symlink"
      ∷ codes "dir new stat,lstat,open-r,rmdir,chdir"
      ∷ codes "other new mkdir,symlink"
      ∷ codes "link new lstat,readlink,unlink"
      ∷ []
  pub one_area : lines one_area_tree one_area_process ≡
      codes "dir / stat,lstat,open-r,chdir"
      ∷ codes "dir /a stat,lstat,open-r,rmdir,chmod,chdir"
      ∷ codes "other /a create,mkdir,symlink"
      ∷ codes "dir /a/x stat,lstat,open-r,rmdir,chmod,chdir"
      ∷ codes "other /a/x create,mkdir,symlink"
      ∷ codes "prog /a/x/p stat,lstat,open-r,open-w,open-rw,create,unlink,chmod"
      ∷ codes "dir new stat,lstat,open-r,rmdir,chmod,chdir"
      ∷ codes "other new create,mkdir,symlink"
      ∷ codes "file new stat,lstat,open-r,open-w,open-rw,create,unlink,chmod"
      ∷ codes "link new lstat,readlink,unlink"
      ∷ []
  pub name_alone : lines name_alone_tree name_alone_process ≡
      codes "dir / stat,lstat,open-r,chdir"
      ∷ codes "prog /f stat,lstat,open-r,open-w,open-rw,create,unlink,chmod"
      ∷ codes "missing /f create,mkdir,symlink"
      ∷ codes "dir new stat,lstat,open-r,chdir"
      ∷ codes "file new stat,lstat,open-r,open-w,open-rw,create,unlink,chmod"
      ∷ codes "link new lstat,readlink,unlink"
      ∷ []
  pub name_and_area : lines name_and_area_tree name_and_area_process ≡
      codes "dir / stat,lstat,open-r,chdir"
      ∷ codes "dir /a rmdir,chmod"
      ∷ codes "other /a create,mkdir,symlink"
      ∷ codes "prog /a/p stat,lstat,open-r,open-w,open-rw,create,unlink,chmod,exec"
      ∷ codes "prog /f stat,lstat,open-r,open-w,open-rw,create,unlink,chmod,exec"
      ∷ codes "missing /f create,mkdir,symlink"
      ∷ codes "dir new stat,lstat,open-r,rmdir,chmod,chdir"
      ∷ codes "other new create,mkdir,symlink"
      ∷ codes "file new stat,lstat,open-r,open-w,open-rw,create,unlink,chmod,exec"
      ∷ codes "link new lstat,readlink,unlink"
      ∷ []
  pub dead_name : lines dead_name_tree dead_name_process ≡
      codes "dir /a rmdir"
      ∷ codes "other /a mkdir,symlink"
      ∷ codes "file /a/f unlink"
      ∷ codes "dir new rmdir"
      ∷ codes "other new mkdir,symlink"
      ∷ codes "link new unlink"
      ∷ []
  pub second_name : lines second_name_tree second_name_process ≡
      codes "dir /a rmdir"
      ∷ codes "other /a mkdir,symlink"
      ∷ codes "file /a/k stat,lstat,open-r,open-w,open-rw,create,unlink,chmod"
      ∷ codes "dir /b stat,lstat,open-r,rmdir,chmod,chdir"
      ∷ codes "other /b create,mkdir,symlink"
      ∷ codes "dir new stat,lstat,open-r,rmdir,chmod,chdir"
      ∷ codes "other new create,mkdir,symlink"
      ∷ codes "file new stat,lstat,open-r,open-w,open-rw,create,unlink,chmod"
      ∷ codes "link new lstat,readlink,unlink"
      ∷ []
  pub one_that_stays : lines one_that_stays_tree one_that_stays_process ≡
      codes "dir / stat,lstat,open-r,chmod,chdir"
      ∷ codes "other / create,mkdir,symlink"
      ∷ codes "dir /a stat,lstat,open-r,chmod,chdir"
      ∷ codes "other /a create,mkdir,symlink"
      ∷ codes "file /a/k stat,lstat,open-r"
      ∷ codes "dir /b stat,lstat,open-r,rmdir,chmod,chdir"
      ∷ codes "other /b create,mkdir,symlink"
      ∷ codes "file /b/k stat,lstat,open-r,open-w,open-rw,create,unlink,chmod"
      ∷ codes "dir new stat,lstat,open-r,rmdir,chmod,chdir"
      ∷ codes "other new create,mkdir,symlink"
      ∷ codes "file new stat,lstat,open-r,open-w,open-rw,create,unlink,chmod"
      ∷ codes "link new lstat,readlink,unlink"
      ∷ []
  pub dir_that_stays : lines dir_that_stays_tree dir_that_stays_process ≡
      codes "dir / stat,lstat,open-r,chmod,chdir"
      ∷ codes "other / create,mkdir,symlink"
      ∷ codes "dir /a stat,lstat,open-r,chmod,chdir"
      ∷ codes "other /a create,mkdir,symlink"
      ∷ codes "dir /a/b stat,lstat,open-r,chdir"
      ∷ codes "dir new stat,lstat,open-r,rmdir,chmod,chdir"
      ∷ codes "other new create,mkdir,symlink"
      ∷ codes "file new stat,lstat,open-r,open-w,open-rw,create,unlink,chmod"
      ∷ codes "link new lstat,readlink,unlink"
      ∷ []
  pub no_veil : lines no_veil_tree no_veil_process ≡
      codes "dir / stat,lstat,open-r,chmod,chdir"
      ∷ codes "other / create,mkdir,symlink"
      ∷ codes "dir /a stat,lstat,open-r,rmdir,chmod,chdir"
      ∷ codes "other /a create,mkdir,symlink"
      ∷ codes "file /a/k stat,lstat,open-r,open-w,open-rw,create,unlink,chmod,exec"
      ∷ codes "dir new stat,lstat,open-r,rmdir,chmod,chdir"
      ∷ codes "other new create,mkdir,symlink"
      ∷ codes "file new stat,lstat,open-r,open-w,open-rw,create,unlink,chmod,exec"
      ∷ codes "link new lstat,readlink,unlink"
      ∷ []
  -- no names lead to what can be made
  pub words_of_all : words no_veil_tree no_veil_process ≡
      [] ∷ [] ∷ (codes "a" ∷ []) ∷ (codes "a" ∷ []) ∷ (codes "a" ∷ codes "k" ∷ []) ∷ [] ∷ [] ∷ [] ∷ [] ∷ []
  pub no_cpath : lines no_cpath_tree no_cpath_process ≡
      codes "dir / stat,lstat,open-r,chdir"
      ∷ codes "dir /a stat,lstat,open-r,chdir"
      ∷ codes "file /a/k stat,lstat,open-r,open-w,open-rw"
      ∷ []
  -- bind and mknod let a socket and a fifo come by themselves
  pub by_bind : lines_by_openbsd no_cpath_tree unix_process ≡
      codes "dir / stat,lstat,open-r,chdir"
      ∷ codes "other / bind"
      ∷ codes "dir /a stat,lstat,open-r,chdir"
      ∷ codes "other /a bind"
      ∷ codes "file /a/k stat,lstat,open-r,connect"
      ∷ codes "sock new stat,lstat,connect"
      ∷ []
  pub by_mknod : lines_by_openbsd no_cpath_tree dpath_process ≡
      codes "dir / stat,lstat,open-r,chdir"
      ∷ codes "other / mknod"
      ∷ codes "dir /a stat,lstat,open-r,chdir"
      ∷ codes "other /a mknod"
      ∷ codes "file /a/k stat,lstat,open-r"
      ∷ codes "fifo new stat,lstat,open-r"
      ∷ []
  pub aliases : lines_by_openbsd aliases_tree aliases_process ≡
      codes "dir /mail stat,lstat,open-r,chdir,fchmod,fchown"
      ∷ codes "file /mail/aliases stat,lstat,open-r,open-w,open-rw,create,unlink,chmod,chown,create-rw,fchmod,fchown"
      ∷ codes "link /mail/l lstat,readlink"
      ∷ codes "dir /spool stat,lstat,open-r,rmdir,chmod,chdir,chown,fchmod,fchown"
      ∷ codes "other /spool create,mkdir,symlink,create-rw"
      ∷ codes "dir new stat,lstat,open-r,rmdir,chmod,chdir,chown,fchmod,fchown"
      ∷ codes "other new create,mkdir,symlink,create-rw"
      ∷ codes "file new stat,lstat,open-r,open-w,open-rw,create,unlink,chmod,chown,create-rw,fchmod,fchown"
      ∷ codes "link new lstat,readlink,unlink"
      ∷ []
  pub standard_aliases : lines aliases_tree aliases_process ≡
      codes "dir /mail stat,lstat,open-r,chdir"
      ∷ codes "file /mail/aliases stat,lstat,open-r"
      ∷ codes "link /mail/l lstat,readlink"
      ∷ codes "dir /spool stat,lstat,open-r,rmdir,chmod,chdir"
      ∷ codes "other /spool create,mkdir,symlink"
      ∷ codes "dir new stat,lstat,open-r,rmdir,chmod,chdir"
      ∷ codes "other new create,mkdir,symlink"
      ∷ codes "file new stat,lstat,open-r,open-w,open-rw,create,unlink,chmod"
      ∷ codes "link new lstat,readlink,unlink"
      ∷ []
  pub unread_aliases : lines_by_openbsd aliases_tree unread_aliases_process ≡
      codes "dir /spool rmdir"
      ∷ codes "other /spool create,mkdir,symlink"
      ∷ codes "dir new rmdir"
      ∷ codes "other new create,mkdir,symlink"
      ∷ codes "file new open-w,create,unlink"
      ∷ codes "link new unlink"
      ∷ []
  pub two_ways : lines_by_openbsd two_ways_tree two_ways_process ≡
      codes "dir /bin stat,lstat,open-r,chdir,fchmod,fchown"
      ∷ codes "prog /bin/p stat,lstat,open-r,open-w,open-rw,create,unlink,chmod,exec,chown,create-rw,fchmod,fchown"
      ∷ codes "dir /spool stat,lstat,open-r,rmdir,chmod,chdir,chown,fchmod,fchown"
      ∷ codes "other /spool create,mkdir,symlink,create-rw"
      ∷ codes "dir new stat,lstat,open-r,rmdir,chmod,chdir,chown,fchmod,fchown"
      ∷ codes "other new create,mkdir,symlink,create-rw"
      ∷ codes "file new stat,lstat,open-r,open-w,open-rw,create,unlink,chmod,chown,create-rw,fchmod,fchown"
      ∷ codes "link new lstat,readlink,unlink"
      ∷ []
  pub standard_rules : refusal standard_table no_veil_process ≡ None
  pub openbsd_rules : refusal openbsd_table no_veil_process ≡ None
  pub link_without_c : refusal link_by_r no_veil_process ≡ Some LinkLacksC
  pub process_first : refusal link_by_r new_process ≡ Some CanUnveil

pub ever_rows : EverRows
ever_rows = record {
  moved_on = refl;
  in_the_place = refl;
  one_area = refl;
  name_alone = refl;
  name_and_area = refl;
  dead_name = refl;
  second_name = refl;
  one_that_stays = refl;
  dir_that_stays = refl;
  no_veil = refl;
  words_of_all = refl;
  no_cpath = refl;
  by_bind = refl;
  by_mknod = refl;
  aliases = refl;
  standard_aliases = refl;
  unread_aliases = refl;
  two_ways = refl;
  standard_rules = refl;
  openbsd_rules = refl;
  link_without_c = refl;
  process_first = refl;
}

-- `/in` has wc and `/tmp` has rwc: what stands in `/in` can be moved to where it is read, but not by OpenBSD's rules, where
-- rename asks `r` of the old name too
abbrev pub drop_box_tree : Tree
drop_box_tree = record empty_tree {
  rows = ((0, codes "in"), 1) ∷ ((0, codes "tmp"), 2) ∷ ((1, codes "f"), 3) ∷ [];
  nodes = (0, directory) ∷ (1, directory) ∷ (2, directory) ∷ (3, file) ∷ [];
  next = 4;
}

abbrev pub drop_box_process : ProcessState
drop_box_process =
    locked_with (
    (place.Dir 1, writing + creating)
    ∷ (place.Dir 2, reading + writing + creating)
    ∷ [])

-- `/a` has rwc, and `/b` has c, where another file system is mounted: what stands there is never moved into `/a`
abbrev pub mounted_on_tree : Tree
mounted_on_tree = record moved_on_tree {
  nodes = (0, directory) ∷ (1, directory) ∷ (2, mount) ∷ (3, directory) ∷ (4, file) ∷ [];
}

-- so it is by link
abbrev pub mounted_aliases_tree : Tree
mounted_aliases_tree = record aliases_tree {
  nodes = (0, directory) ∷ (1, mount) ∷ (2, directory) ∷ (3, file) ∷ (4, record { kind = Link; target = Some (codes "x"); mount = false }) ∷ [];
}

-- `/m/a` and `/m/b` are on the file system that is mounted at `/m`, and `/r` is not: what stands in `/m/b` alone is moved into `/m/a`
abbrev pub within_mount_tree : Tree
within_mount_tree = record empty_tree {
  rows = ((0, codes "m"), 1) ∷ ((0, codes "r"), 2) ∷ ((1, codes "a"), 3) ∷ ((1, codes "b"), 4) ∷ ((2, codes "g"), 6) ∷ ((4, codes "f"), 5) ∷ [];
  nodes = (0, directory) ∷ (1, mount) ∷ (2, directory) ∷ (3, directory) ∷ (4, directory) ∷ (5, file) ∷ (6, file) ∷ [];
  next = 7;
}

abbrev pub within_mount_process : ProcessState
within_mount_process =
    locked_with (
    (place.Dir 2, creating)
    ∷ (place.Dir 3, reading + writing + creating)
    ∷ (place.Dir 4, creating)
    ∷ [])

-- `/a` has c and `/b` has rwc: `/a/d` is moved into `/b`, and with it what is mounted in it, though it stays on its file system
abbrev pub carried_mount_tree : Tree
carried_mount_tree = record empty_tree {
  rows = ((0, codes "a"), 1) ∷ ((0, codes "b"), 2) ∷ ((1, codes "d"), 3) ∷ ((3, codes "m"), 4) ∷ ((4, codes "f"), 5) ∷ [];
  nodes = (0, directory) ∷ (1, directory) ∷ (2, directory) ∷ (3, directory) ∷ (4, mount) ∷ (5, file) ∷ [];
  next = 6;
}

abbrev pub carried_mount_process : ProcessState
carried_mount_process =
    locked_with (
    (place.Dir 1, creating)
    ∷ (place.Dir 2, reading + writing + creating)
    ∷ [])

-- a file system is mounted in another: what stands in `/a` is not moved into `/a/n`
abbrev pub nested_mount_tree : Tree
nested_mount_tree = record empty_tree {
  rows = ((0, codes "a"), 1) ∷ ((1, codes "f"), 2) ∷ ((1, codes "n"), 3) ∷ ((3, codes "g"), 4) ∷ [];
  nodes = (0, directory) ∷ (1, mount) ∷ (2, file) ∷ (3, mount) ∷ (4, file) ∷ [];
  next = 5;
}

abbrev pub nested_mount_process : ProcessState
nested_mount_process =
    locked_with (
    (place.Dir 1, creating)
    ∷ (place.Dir 3, reading + writing + creating)
    ∷ [])

-- the name `/n` has rwc, and `/m` and `/r` have c: what stands in `/r` alone is moved to the name
abbrev pub other_name_tree : Tree
other_name_tree = record empty_tree {
  rows = ((0, codes "m"), 1) ∷ ((0, codes "r"), 2) ∷ ((1, codes "f"), 3) ∷ ((2, codes "g"), 4) ∷ [];
  nodes = (0, directory) ∷ (1, mount) ∷ (2, directory) ∷ (3, file) ∷ (4, file) ∷ [];
  next = 5;
}

abbrev pub other_name_process : ProcessState
other_name_process =
    locked_with (
    (place.Slot 0 (codes "n"), reading + writing + creating)
    ∷ (place.Dir 1, creating)
    ∷ (place.Dir 2, creating)
    ∷ [])

-- here the name `/m` has rwc, at which the file system is mounted
abbrev pub kept_name_process : ProcessState
kept_name_process =
    locked_with (
    (place.Slot 0 (codes "m"), reading + writing + creating)
    ∷ (place.Dir 1, creating)
    ∷ (place.Dir 2, creating)
    ∷ [])

-- `/p` has r, and `/x` and the mount point in `/p` have c: no directory comes into `/p`
abbrev pub kept_place_tree : Tree
kept_place_tree = record empty_tree {
  rows = ((0, codes "p"), 1) ∷ ((0, codes "x"), 3) ∷ ((1, codes "m"), 2) ∷ ((3, codes "y"), 4) ∷ [];
  nodes = (0, directory) ∷ (1, directory) ∷ (2, mount) ∷ (3, directory) ∷ (4, directory) ∷ [];
  next = 5;
}

abbrev pub kept_place_process : ProcessState
kept_place_process =
    locked_with (
    (place.Dir 1, reading)
    ∷ (place.Dir 2, creating)
    ∷ (place.Dir 3, creating)
    ∷ [])

-- what can be moved, by rules by which rename asks more of the old name than `c`: by these nothing is carried out of `/a`
-- in a directory either, so the program in it is not run
pub record MovedRows : Type 0 where
  pub drop_box : lines drop_box_tree drop_box_process ≡
      codes "dir /in rmdir,chmod"
      ∷ codes "other /in create,mkdir,symlink"
      ∷ codes "file /in/f stat,lstat,open-r,open-w,open-rw,create,unlink,chmod"
      ∷ codes "dir /tmp stat,lstat,open-r,rmdir,chmod,chdir"
      ∷ codes "other /tmp create,mkdir,symlink"
      ∷ codes "dir new stat,lstat,open-r,rmdir,chmod,chdir"
      ∷ codes "other new create,mkdir,symlink"
      ∷ codes "file new stat,lstat,open-r,open-w,open-rw,create,unlink,chmod"
      ∷ codes "link new lstat,readlink,unlink"
      ∷ []
  pub openbsd_drop_box : lines_by_openbsd drop_box_tree drop_box_process ≡
      codes "dir /in rmdir,chmod,chown"
      ∷ codes "other /in create,mkdir,symlink"
      ∷ codes "file /in/f open-w,create,unlink,chmod,chown"
      ∷ codes "dir /tmp stat,lstat,open-r,rmdir,chmod,chdir,chown,fchmod,fchown"
      ∷ codes "other /tmp create,mkdir,symlink,create-rw"
      ∷ codes "dir new stat,lstat,open-r,rmdir,chmod,chdir,chown,fchmod,fchown"
      ∷ codes "other new create,mkdir,symlink,create-rw"
      ∷ codes "file new stat,lstat,open-r,open-w,open-rw,create,unlink,chmod,chown,create-rw,fchmod,fchown"
      ∷ codes "link new lstat,readlink,unlink"
      ∷ []
  pub openbsd_name_and_area : lines_by_openbsd name_and_area_tree name_and_area_process ≡
      codes "dir / stat,lstat,open-r,chdir,fchmod,fchown"
      ∷ codes "dir /a rmdir,chmod,chown"
      ∷ codes "other /a create,mkdir,symlink"
      ∷ codes "prog /a/p open-w,create,unlink,chmod,chown"
      ∷ codes "prog /f stat,lstat,open-r,open-w,open-rw,create,unlink,chmod,chown,create-rw,fchmod,fchown"
      ∷ codes "missing /f create,mkdir,symlink,create-rw"
      ∷ codes "dir new stat,lstat,open-r,rmdir,chmod,chdir,chown,fchmod,fchown"
      ∷ codes "other new create,mkdir,symlink"
      ∷ codes "file new stat,lstat,open-r,open-w,open-rw,create,unlink,chmod,chown,create-rw,fchmod,fchown"
      ∷ codes "link new lstat,readlink,unlink"
      ∷ []
  -- what is moved, or linked, stays on its file system; what is new is made on any
  pub mounted_on : lines mounted_on_tree moved_on_process ≡
      codes "dir /a stat,lstat,open-r,rmdir,chmod,chdir"
      ∷ codes "other /a create,mkdir,symlink"
      ∷ codes "other /b mkdir,symlink"
      ∷ codes "dir /b/x rmdir"
      ∷ codes "other /b/x mkdir,symlink"
      ∷ codes "file /b/x/f unlink"
      ∷ codes "dir new stat,lstat,open-r,rmdir,chmod,chdir"
      ∷ codes "other new create,mkdir,symlink"
      ∷ codes "file new stat,lstat,open-r,open-w,open-rw,create,unlink,chmod"
      ∷ codes "link new lstat,readlink,unlink"
      ∷ []
  pub mounted_aliases : lines_by_openbsd mounted_aliases_tree aliases_process ≡
      codes "dir /mail stat,lstat,open-r,chdir,fchmod,fchown"
      ∷ codes "file /mail/aliases stat,lstat,open-r,fchmod,fchown"
      ∷ codes "link /mail/l lstat,readlink"
      ∷ codes "dir /spool stat,lstat,open-r,rmdir,chmod,chdir,chown,fchmod,fchown"
      ∷ codes "other /spool create,mkdir,symlink,create-rw"
      ∷ codes "dir new stat,lstat,open-r,rmdir,chmod,chdir,chown,fchmod,fchown"
      ∷ codes "other new create,mkdir,symlink,create-rw"
      ∷ codes "file new stat,lstat,open-r,open-w,open-rw,create,unlink,chmod,chown,create-rw,fchmod,fchown"
      ∷ codes "link new lstat,readlink,unlink"
      ∷ []
  pub within_mount : lines within_mount_tree within_mount_process ≡
      codes "dir /m/a stat,lstat,open-r,rmdir,chmod,chdir"
      ∷ codes "other /m/a create,mkdir,symlink"
      ∷ codes "dir /m/b rmdir"
      ∷ codes "other /m/b mkdir,symlink"
      ∷ codes "file /m/b/f stat,lstat,open-r,open-w,open-rw,create,unlink,chmod"
      ∷ codes "dir /r rmdir"
      ∷ codes "other /r mkdir,symlink"
      ∷ codes "file /r/g unlink"
      ∷ codes "dir new stat,lstat,open-r,rmdir,chmod,chdir"
      ∷ codes "other new create,mkdir,symlink"
      ∷ codes "file new stat,lstat,open-r,open-w,open-rw,create,unlink,chmod"
      ∷ codes "link new lstat,readlink,unlink"
      ∷ []
  pub carried_mount : lines carried_mount_tree carried_mount_process ≡
      codes "dir /a rmdir"
      ∷ codes "other /a mkdir,symlink"
      ∷ codes "dir /a/d stat,lstat,open-r,chmod,chdir"
      ∷ codes "other /a/d create,mkdir,symlink"
      ∷ codes "dir /a/d/m stat,lstat,open-r,chmod,chdir"
      ∷ codes "other /a/d/m create,mkdir,symlink"
      ∷ codes "file /a/d/m/f stat,lstat,open-r,open-w,open-rw,create,unlink,chmod"
      ∷ codes "dir /b stat,lstat,open-r,rmdir,chmod,chdir"
      ∷ codes "other /b create,mkdir,symlink"
      ∷ codes "dir new stat,lstat,open-r,rmdir,chmod,chdir"
      ∷ codes "other new create,mkdir,symlink"
      ∷ codes "file new stat,lstat,open-r,open-w,open-rw,create,unlink,chmod"
      ∷ codes "link new lstat,readlink,unlink"
      ∷ []
  pub nested_mount : lines nested_mount_tree nested_mount_process ≡
      codes "other /a mkdir,symlink"
      ∷ codes "file /a/f unlink"
      ∷ codes "dir /a/n stat,lstat,open-r,chmod,chdir"
      ∷ codes "other /a/n create,mkdir,symlink"
      ∷ codes "file /a/n/g stat,lstat,open-r,open-w,open-rw,create,unlink,chmod"
      ∷ codes "dir new stat,lstat,open-r,rmdir,chmod,chdir"
      ∷ codes "other new create,mkdir,symlink"
      ∷ codes "file new stat,lstat,open-r,open-w,open-rw,create,unlink,chmod"
      ∷ codes "link new lstat,readlink,unlink"
      ∷ []
  pub other_name : lines other_name_tree other_name_process ≡
      codes "other /m mkdir,symlink"
      ∷ codes "file /m/f unlink"
      ∷ codes "missing /n create,mkdir,symlink"
      ∷ codes "dir /r rmdir"
      ∷ codes "other /r mkdir,symlink"
      ∷ codes "file /r/g stat,lstat,open-r,open-w,open-rw,create,unlink,chmod"
      ∷ codes "dir new rmdir"
      ∷ codes "other new mkdir,symlink"
      ∷ codes "file new stat,lstat,open-r,open-w,open-rw,create,unlink,chmod"
      ∷ codes "link new lstat,readlink,unlink"
      ∷ []
  -- a mount point doesn't leave its name, and no directory comes in its place
  pub kept_name : lines other_name_tree kept_name_process ≡
      codes "other /m mkdir,symlink"
      ∷ codes "file /m/f unlink"
      ∷ codes "dir /r rmdir"
      ∷ codes "other /r mkdir,symlink"
      ∷ codes "file /r/g unlink"
      ∷ codes "dir new rmdir"
      ∷ codes "other new mkdir,symlink"
      ∷ codes "link new unlink"
      ∷ []
  pub kept_place : lines kept_place_tree kept_place_process ≡
      codes "dir /p stat,lstat,open-r,chdir"
      ∷ codes "other /p/m mkdir,symlink"
      ∷ codes "dir /x rmdir"
      ∷ codes "other /x mkdir,symlink"
      ∷ codes "dir /x/y rmdir"
      ∷ codes "other /x/y mkdir,symlink"
      ∷ codes "dir new rmdir"
      ∷ codes "other new mkdir,symlink"
      ∷ codes "link new unlink"
      ∷ []

pub moved_rows : MovedRows
moved_rows = record {
  drop_box = refl;
  openbsd_drop_box = refl;
  openbsd_name_and_area = refl;
  mounted_on = refl;
  mounted_aliases = refl;
  within_mount = refl;
  carried_mount = refl;
  nested_mount = refl;
  other_name = refl;
  kept_name = refl;
  kept_place = refl;
}

-- `/tmp` has rwxc: what is made there, and the file that stands there, can be made programs
abbrev pub job_tree : Tree
job_tree = record empty_tree {
  rows = ((0, codes "tmp"), 1) ∷ ((1, codes "job"), 2) ∷ [];
  nodes = (0, directory) ∷ (1, directory) ∷ (2, file) ∷ [];
  next = 3;
}

-- the same, where the job is a file of a known type
abbrev typed_job_tree : FileType → Tree
typed_job_tree type = record job_tree {
  nodes = (0, directory) ∷ (1, directory) ∷ (2, record { kind = Known type; target = None; mount = false }) ∷ [];
}

abbrev job_veils : List (Place × ℕ)
job_veils = (place.Dir 1, reading + writing + executing + creating) ∷ []

abbrev pub job_process : ProcessState
job_process = locked_with job_veils

-- and so they can't be where exec isn't held
abbrev pub no_exec_process : ProcessState
no_exec_process = locked_by (rpath + wpath + cpath + fattr) job_veils

-- `/bin` has rx and `/tmp` has rwc: nothing writes the file in `/bin`, and nothing that is written comes under x
abbrev pub plain_file_tree : Tree
plain_file_tree = record empty_tree {
  rows = ((0, codes "bin"), 1) ∷ ((0, codes "tmp"), 2) ∷ ((1, codes "f"), 3) ∷ [];
  nodes = (0, directory) ∷ (1, directory) ∷ (2, directory) ∷ (3, file) ∷ [];
  next = 4;
}

abbrev pub plain_file_process : ProcessState
plain_file_process =
    locked_with (
    (place.Dir 1, reading + executing)
    ∷ (place.Dir 2, reading + writing + creating)
    ∷ [])

-- a mode alone is enough
abbrev pub mode_process : ProcessState
mode_process = locked_by (fattr + exec) ((place.Dir 1, writing + executing) ∷ [])

-- and by OpenBSD's rules it is set by a descriptor that was opened for reading
abbrev pub read_mode_process : ProcessState
read_mode_process = locked_by (rpath + fattr + exec) ((place.Dir 1, reading + executing) ∷ [])

-- `/bin` has x alone, and this node is open with these letters
abbrev pub holder : ℕ → ℕ → ℕ → ProcessState
holder promises node letters =
    record (locked_by promises ((place.Dir 1, executing) ∷ [])) {
      files = (5, record { node = node; kind = File; letters = letters }) ∷ [];
    }

-- the same where `/bin` has r
abbrev pub reading_holder : ProcessState
reading_holder = record (holder exec 3 writing) { veils = (place.Dir 1, reading) ∷ [] }

-- what can be started that was no program: a file that is made, is written or has its mode set, where it can come under x.
-- What is open is written where it was opened for that, and its mode is set by fattr, whatever its letters
pub record StartedRows : Type 0 where
  pub job : lines job_tree job_process ≡
      codes "dir /tmp stat,lstat,open-r,rmdir,chmod,chdir"
      ∷ codes "other /tmp create,mkdir,symlink"
      ∷ codes "file /tmp/job stat,lstat,open-r,open-w,open-rw,create,unlink,chmod,exec"
      ∷ codes "dir new stat,lstat,open-r,rmdir,chmod,chdir"
      ∷ codes "other new create,mkdir,symlink"
      ∷ codes "file new stat,lstat,open-r,open-w,open-rw,create,unlink,chmod,exec"
      ∷ codes "link new lstat,readlink,unlink"
      ∷ []
  -- a plain file is started as one of which no more is known; a fifo or a socket is not, whatever is written to it
  pub plain_job : lines (typed_job_tree Plain) job_process ≡ lines job_tree job_process
  pub fifo_job : lines (typed_job_tree Fifo) job_process ≡
      codes "dir /tmp stat,lstat,open-r,rmdir,chmod,chdir"
      ∷ codes "other /tmp create,mkdir,symlink"
      ∷ codes "fifo /tmp/job stat,lstat,open-r,open-w,open-rw,create,unlink,chmod"
      ∷ codes "dir new stat,lstat,open-r,rmdir,chmod,chdir"
      ∷ codes "other new create,mkdir,symlink"
      ∷ codes "file new stat,lstat,open-r,open-w,open-rw,create,unlink,chmod,exec"
      ∷ codes "link new lstat,readlink,unlink"
      ∷ []
  pub sock_job : lines (typed_job_tree Sock) job_process ≡
      codes "dir /tmp stat,lstat,open-r,rmdir,chmod,chdir"
      ∷ codes "other /tmp create,mkdir,symlink"
      ∷ codes "sock /tmp/job stat,lstat,unlink,chmod"
      ∷ codes "dir new stat,lstat,open-r,rmdir,chmod,chdir"
      ∷ codes "other new create,mkdir,symlink"
      ∷ codes "file new stat,lstat,open-r,open-w,open-rw,create,unlink,chmod,exec"
      ∷ codes "link new lstat,readlink,unlink"
      ∷ []
  pub no_exec : lines job_tree no_exec_process ≡
      codes "dir /tmp stat,lstat,open-r,rmdir,chmod,chdir"
      ∷ codes "other /tmp create,mkdir,symlink"
      ∷ codes "file /tmp/job stat,lstat,open-r,open-w,open-rw,create,unlink,chmod"
      ∷ codes "dir new stat,lstat,open-r,rmdir,chmod,chdir"
      ∷ codes "other new create,mkdir,symlink"
      ∷ codes "file new stat,lstat,open-r,open-w,open-rw,create,unlink,chmod"
      ∷ codes "link new lstat,readlink,unlink"
      ∷ []
  pub plain_file : lines plain_file_tree plain_file_process ≡
      codes "dir /bin stat,lstat,open-r,chdir"
      ∷ codes "file /bin/f stat,lstat,open-r"
      ∷ codes "dir /tmp stat,lstat,open-r,rmdir,chmod,chdir"
      ∷ codes "other /tmp create,mkdir,symlink"
      ∷ codes "dir new stat,lstat,open-r,rmdir,chmod,chdir"
      ∷ codes "other new create,mkdir,symlink"
      ∷ codes "file new stat,lstat,open-r,open-w,open-rw,create,unlink,chmod"
      ∷ codes "link new lstat,readlink,unlink"
      ∷ []
  pub mode : lines plain_file_tree mode_process ≡ codes "dir /bin chmod" ∷ codes "file /bin/f chmod,exec" ∷ []
  pub read_mode : lines_by_openbsd plain_file_tree read_mode_process ≡
      codes "dir /bin stat,lstat,open-r,chdir,fchmod,fchown"
      ∷ codes "file /bin/f stat,lstat,open-r,exec,fchmod,fchown"
      ∷ []
  pub standard_read_mode : lines plain_file_tree read_mode_process ≡
      codes "dir /bin stat,lstat,open-r,chdir" ∷ codes "file /bin/f stat,lstat,open-r" ∷ []
  pub held_to_write : lines plain_file_tree (holder exec 3 writing) ≡ codes "file /bin/f exec" ∷ []
  pub held_to_read_with_fattr : lines plain_file_tree (holder (exec + fattr) 3 reading) ≡ codes "file /bin/f exec" ∷ []
  pub held_to_read : lines plain_file_tree (holder exec 3 reading) ≡ []
  pub held_without_exec : lines plain_file_tree (holder fattr 3 writing) ≡ []
  pub held_without_x : lines plain_file_tree reading_holder ≡ []
  pub another_held : lines plain_file_tree (holder (exec + fattr) 4 writing) ≡ []
  pub closed : lines plain_file_tree (state_after (Filed 5 None) (holder (exec + fattr) 3 writing)) ≡ []

pub started_rows : StartedRows
started_rows = record {
  job = refl;
  plain_job = refl;
  fifo_job = refl;
  sock_job = refl;
  no_exec = refl;
  plain_file = refl;
  mode = refl;
  read_mode = refl;
  standard_read_mode = refl;
  held_to_write = refl;
  held_to_read_with_fattr = refl;
  held_to_read = refl;
  held_without_exec = refl;
  held_without_x = refl;
  another_held = refl;
  closed = refl;
}
