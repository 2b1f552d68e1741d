-- The calls with one path, and what each of them needs; what rename and link need, which have two; and what else is said of rules.
use Rattle.std.specs.Prelude.{ℕ, ◌+◌, ◌-◌, ◌==◌, Bool, true, false, not, List, [], ◌∷◌, length, map, Option, None, Some, codes, find}
use Rattle.std.specs.Prelude.{slice_index_or, unwrap_or}
use Rattle.pua_tree.specs.Names.{same_bytes}
use Rattle.pua_tree.specs.Listing.{only_if}
use Rattle.pua_calls.specs.Promises.{rpath, wpath, cpath, dpath, fattr, chown, exec, tmppath, unix, reading, writing, executing, creating}
use Rattle.pua_path.specs.declared.text.Ending.{Ending}
use Rattle.pua_path.specs.declared.text.Ending.TheVariants.{Dot, Dropped}
use Rattle.pua_path.specs.declared.found.Last.{Last}
use Rattle.pua_path.specs.declared.found.Last.TheVariants.{Followed, Kept}
use Rattle.pua_calls.specs.declared.rules.ExecPromises.{ExecPromises}
use Rattle.pua_calls.specs.declared.rules.ExecPromises.TheVariants.{Unset, Stay}
use Rattle.pua_calls.specs.declared.rules.Rules.{Rules}
use Rattle.pua_calls.specs.declared.rules.Rules.TheVariants.{Standard, Openbsd}
use Rattle.pua_calls.specs.declared.fits.Misfit.TheVariants.{Exists, IsDirectory, IsNoFile, IsNoDirectory, IsNoLink, IsNoProgram}
use Rattle.pua_calls.specs.declared.fits.Misfit.TheVariants.{IsNoSocket, InUse}
use Rattle.pua_calls.specs.Misfits.{each_standing, each_opened, none_standing, free_names}
use Rattle.pua_calls.specs.declared.fits.Fits.{Fits}
use Rattle.pua_calls.specs.declared.effect.Effect.{Effect}
use Rattle.pua_calls.specs.declared.effect.Effect.TheVariants.{Looks, Makes, Removes, Enters, Starts}
use Rattle.pua_tree.specs.declared.node.Kind.{Kind}
use Rattle.pua_tree.specs.declared.node.Kind.TheVariants.{File, Dir, Link, Known}
use Rattle.pua_tree.specs.declared.node.FileType.TheVariants.{Plain, Sock, Fifo}
use Rattle.pua_calls.specs.declared.call.Call.{Call}
use Rattle.pua_calls.specs.declared.call.Call.TheVariants.{Stat, Lstat, Readlink, OpenRead, OpenWrite, OpenBoth, Create, Mkdir, Rmdir}
use Rattle.pua_calls.specs.declared.call.Call.TheVariants.{Unlink, Symlink, Chmod, Chdir, Exec, Connect, Bind, Mknod, Chown, CreateBoth, Fchmod, Fchown}

-- in the order of their numbers
abbrev pub calls : List Call
calls =
    Stat ∷ Lstat ∷ Readlink ∷ OpenRead ∷ OpenWrite ∷ OpenBoth ∷ Create ∷ Mkdir ∷ Rmdir ∷ Unlink ∷ Symlink ∷ Chmod ∷ Chdir ∷ Exec ∷ Connect ∷ Bind
    ∷ Mknod ∷ Chown ∷ CreateBoth ∷ Fchmod ∷ Fchown ∷ []

-- how many there are
abbrev pub call_count : ℕ
call_count = 21

-- what a call needs: one of the sets of promises, and each of the permissions
pub record Rule : Type 0 where
  pub alternatives : List ℕ
  pub perms : ℕ

-- what is said of a call, in one place: its number and its name; the sets of promises of which it needs one by the standard table
-- and by that of OpenBSD's rules, where one without a set is never allowed, and its permissions by both; whether the last part of
-- its path is followed if it is a link, and what a slash at the path's end means; which objects it is on; what it does where it is
-- allowed; and whether a file can come to be a program by it, since a kernel starts what was written, once its mode lets it
pub record About : Type 0 where
  pub number : ℕ
  pub name : List ℕ
  pub standard : List ℕ
  pub openbsd : List ℕ
  pub perms : ℕ
  pub last : Last
  pub ending : Ending
  pub fits : Fits
  pub effect : Effect
  pub turns : Bool

abbrev pub about : Call → About
about Stat = record {
  number = 1;
  name = codes "stat";
  standard = rpath ∷ [];
  openbsd = rpath ∷ [];
  perms = reading;
  last = Followed;
  ending = Dot;
  fits = each_standing;
  effect = Looks;
  turns = false;
}
about Lstat = record {
  number = 2;
  name = codes "lstat";
  standard = rpath ∷ [];
  openbsd = rpath ∷ [];
  perms = reading;
  last = Kept;
  ending = Dot;
  fits = each_standing;
  effect = Looks;
  turns = false;
}
about Readlink = record {
  number = 3;
  name = codes "readlink";
  standard = rpath ∷ [];
  openbsd = rpath ∷ [];
  perms = reading;
  last = Kept;
  ending = Dot;
  fits = record (none_standing IsNoLink) { link = None };
  effect = Looks;
  turns = false;
}
about OpenRead = record {
  number = 4;
  name = codes "open-r";
  standard = rpath ∷ [];
  openbsd = rpath ∷ [];
  perms = reading;
  last = Followed;
  ending = Dot;
  fits = each_opened;
  effect = Looks;
  turns = false;
}
about OpenWrite = record {
  number = 5;
  name = codes "open-w";
  standard = wpath ∷ [];
  openbsd = wpath ∷ [];
  perms = writing;
  last = Followed;
  ending = Dot;
  fits = record each_opened { directory = Some IsDirectory };
  effect = Looks;
  turns = true;
}
about OpenBoth = record {
  number = 6;
  name = codes "open-rw";
  standard = (rpath + wpath) ∷ [];
  openbsd = (rpath + wpath) ∷ [];
  perms = reading + writing;
  last = Followed;
  ending = Dot;
  fits = record each_opened { directory = Some IsDirectory };
  effect = Looks;
  turns = true;
}
about Create = record {
  number = 7;
  name = codes "create";
  standard = (wpath + cpath) ∷ [];
  openbsd = (wpath + cpath) ∷ [];
  perms = writing + creating;
  last = Followed;
  ending = Dot;
  fits = record each_opened { directory = Some IsDirectory; missing = None };
  effect = Makes File;
  turns = true;
}
about Mkdir = record {
  number = 8;
  name = codes "mkdir";
  standard = cpath ∷ [];
  openbsd = cpath ∷ [];
  perms = creating;
  last = Kept;
  ending = Dropped;
  fits = free_names Exists;
  effect = Makes Dir;
  turns = false;
}
about Rmdir = record {
  number = 9;
  name = codes "rmdir";
  standard = cpath ∷ [];
  openbsd = cpath ∷ [];
  perms = creating;
  last = Kept;
  ending = Dropped;
  fits = record (none_standing IsNoDirectory) { directory = None; by_way = true };
  effect = Removes;
  turns = false;
}
about Unlink = record {
  number = 10;
  name = codes "unlink";
  standard = cpath ∷ [];
  openbsd = cpath ∷ [];
  perms = creating;
  last = Kept;
  ending = Dot;
  fits = record each_standing { directory = Some IsNoFile };
  effect = Removes;
  turns = false;
}
about Symlink = record {
  number = 11;
  name = codes "symlink";
  standard = cpath ∷ [];
  openbsd = cpath ∷ [];
  perms = creating;
  last = Kept;
  ending = Dot;
  fits = free_names Exists;
  effect = Makes Link;
  turns = false;
}
about Chmod = record {
  number = 12;
  name = codes "chmod";
  standard = fattr ∷ [];
  openbsd = (rpath + fattr) ∷ [];
  perms = writing;
  last = Followed;
  ending = Dot;
  fits = each_standing;
  effect = Looks;
  turns = true;
}
about Chdir = record {
  number = 13;
  name = codes "chdir";
  standard = rpath ∷ [];
  openbsd = rpath ∷ [];
  perms = reading;
  last = Followed;
  ending = Dot;
  fits = record (none_standing IsNoDirectory) { directory = None };
  effect = Enters;
  turns = false;
}
about Exec = record {
  number = 14;
  name = codes "exec";
  standard = exec ∷ [];
  openbsd = exec ∷ [];
  perms = executing;
  last = Followed;
  ending = Dot;
  fits = record (none_standing IsNoProgram) { program = None };
  effect = Starts;
  turns = false;
}
about Connect = record {
  number = 15;
  name = codes "connect";
  standard = [];
  openbsd = unix ∷ [];
  perms = writing;
  last = Followed;
  ending = Dot;
  fits = record (none_standing IsNoSocket) { file = None; socket = None };
  effect = Looks;
  turns = false;
}
about Bind = record {
  number = 16;
  name = codes "bind";
  standard = [];
  openbsd = unix ∷ [];
  perms = creating;
  last = Kept;
  ending = Dot;
  fits = free_names InUse;
  effect = Makes (Known Sock);
  turns = false;
}
about Mknod = record {
  number = 17;
  name = codes "mknod";
  standard = [];
  openbsd = dpath ∷ [];
  perms = creating;
  last = Kept;
  ending = Dot;
  fits = free_names Exists;
  effect = Makes (Known Fifo);
  turns = false;
}
about Chown = record {
  number = 18;
  name = codes "chown";
  standard = [];
  openbsd = (rpath + chown) ∷ (rpath + fattr) ∷ [];
  perms = writing;
  last = Followed;
  ending = Dot;
  fits = each_standing;
  effect = Looks;
  turns = false;
}
about CreateBoth = record {
  number = 19;
  name = codes "create-rw";
  standard = [];
  openbsd = (rpath + wpath + cpath) ∷ [];
  perms = reading + writing + creating;
  last = Followed;
  ending = Dot;
  fits = record each_opened { directory = Some IsDirectory; missing = None };
  effect = Makes File;
  turns = true;
}
about Fchmod = record {
  number = 20;
  name = codes "fchmod";
  standard = [];
  openbsd = (rpath + fattr) ∷ [];
  perms = reading;
  last = Followed;
  ending = Dot;
  fits = each_opened;
  effect = Looks;
  turns = true;
}
about Fchown = record {
  number = 21;
  name = codes "fchown";
  standard = [];
  openbsd = (rpath + chown) ∷ (rpath + fattr) ∷ [];
  perms = reading;
  last = Followed;
  ending = Dot;
  fits = each_opened;
  effect = Looks;
  turns = false;
}

-- the words of a request that name calls of a kernel beside those with a number, each with the call as which it is read, since it asks for
-- what that asks
abbrev pub neighbours : List (List ℕ × Call)
neighbours =
    (codes "access", Stat) ∷ (codes "statfs", Stat) ∷ (codes "truncate", OpenWrite) ∷ (codes "chflags", Chmod) ∷ (codes "utimes", Chmod)
    ∷ (codes "mkfifo", Mknod) ∷ []

-- a set of promises that there may be, as alternatives
abbrev pub listed : Option ℕ → List ℕ
listed (Some set) = set ∷ []
listed None = []

abbrev pub call_number : Call → ℕ
call_number call = (about call).number

abbrev pub call_name : Call → List ℕ
call_name call = (about call).name

abbrev pub standard_rule : Call → Rule
standard_rule call = record { alternatives = (about call).standard; perms = (about call).perms }

abbrev pub openbsd_rule : Call → Rule
openbsd_rule call = record { alternatives = (about call).openbsd; perms = (about call).perms }

-- whether the last part is followed if it is a link
abbrev pub last_of : Call → Last
last_of call = (about call).last

-- what a slash at the end of the call's path means
abbrev pub ending_of : Call → Ending
ending_of call = (about call).ending

-- what it does where it is allowed
abbrev pub effect_of : Call → Effect
effect_of call = (about call).effect

abbrev pub call_of_name : List ℕ → Option Call
call_of_name word = find (λ call. same_bytes (call_name call) word) calls

-- what a request with two paths needs of what one of them names, and whether its last part is followed if it is a link
pub record NameRule : Type 0 where
  pub needs : Rule
  pub last : Last

-- of the old name and of the new one
pub record PairRule : Type 0 where
  pub old : NameRule
  pub new : NameRule

-- a name is made and taken away by cpath and `c`, and a link is kept
abbrev pub standard_name : NameRule
standard_name = record { needs = record { alternatives = cpath ∷ []; perms = creating }; last = Kept }

abbrev pub standard_pair : PairRule
standard_pair = record { old = standard_name; new = standard_name }

-- a rule for each call, in the order of their numbers, those of rename and of link, and whose rules answer what no rule of a call
-- says: what an exec leaves of execpromises, and which faults requests have
pub record CallTable : Type 0 where
  pub rules : List Rule
  pub rename : PairRule
  pub link : PairRule
  pub whose : Rules

-- this project's own rules
abbrev pub standard_table : CallTable
standard_table = record { rules = map standard_rule calls; rename = standard_pair; link = standard_pair; whose = Standard }

-- of its old name rename reads what it takes away
abbrev pub openbsd_rename : PairRule
openbsd_rename = record {
  old = record { needs = record { alternatives = (rpath + cpath) ∷ []; perms = reading + creating }; last = Kept };
  new = standard_name;
}

-- and link only reads it, and follows a link
abbrev pub openbsd_link : PairRule
openbsd_link = record {
  old = record { needs = record { alternatives = rpath ∷ []; perms = reading }; last = Followed };
  new = standard_name;
}

-- the rules of OpenBSD's kernel
abbrev pub openbsd_table : CallTable
openbsd_table = record { rules = map openbsd_rule calls; rename = openbsd_rename; link = openbsd_link; whose = Openbsd }

-- what is said of a set of rules, in one place: the word that names it in commands; what calls need; what a file is that a call makes;
-- what an exec leaves of execpromises; the promises of which a call needs one where it changes the tree, or of which one opens it;
-- whether lists say whose rules they are; and whether promises open paths by themselves
pub record AboutRules : Type 0 where
  pub word : List ℕ
  pub table : CallTable
  pub file : Kind
  pub execpromises : ExecPromises
  pub changing : List ℕ
  pub is_told : Bool
  pub has_openings : Bool

abbrev pub about_rules : Rules → AboutRules
about_rules Standard = record {
  word = codes "profile";
  table = standard_table;
  file = File;
  execpromises = Unset;
  changing = cpath ∷ [];
  is_told = false;
  has_openings = false;
}
about_rules Openbsd = record {
  word = codes "openbsd";
  table = openbsd_table;
  file = Known Plain;
  execpromises = Stay;
  changing = cpath ∷ unix ∷ dpath ∷ tmppath ∷ [];
  is_told = true;
  has_openings = true;
}

abbrev pub table_by_rules : Rules → CallTable
table_by_rules rules = (about_rules rules).table

-- the kind of a file that a call makes
abbrev pub file_by_rules : Rules → Kind
file_by_rules rules = (about_rules rules).file

-- what an exec leaves of execpromises
abbrev pub execpromises_by : Rules → ExecPromises
execpromises_by rules = (about_rules rules).execpromises

-- in the order in which they are looked through for a word
abbrev pub all_rules : List Rules
all_rules = Standard ∷ Openbsd ∷ []

-- the rules that a command names, which are the standard ones where it names none
abbrev pub rules_named : Option (List ℕ) → Rules
rules_named None = Standard
rules_named (Some word) = unwrap_or (find (λ rules. same_bytes (about_rules rules).word word) all_rules) Standard

abbrev pub rule_of : CallTable → Call → Rule
rule_of table call = slice_index_or table.rules (call_number call - 1) (standard_rule call)

-- a table has those calls for which it has a set of promises
abbrev pub is_known : CallTable → Call → Bool
is_known table call = not (length (rule_of table call).alternatives == 0)

-- the call of this name that a table has
abbrev pub call_in : CallTable → List ℕ → Option Call
call_in table word = only_if (is_known table) (call_of_name word)

-- the call of this name that there is by rules
abbrev pub call_named_by : Rules → List ℕ → Option Call
call_named_by rules word = call_in (table_by_rules rules) word

-- and by the standard ones
abbrev pub call_named : List ℕ → Option Call
call_named word = call_named_by Standard word
