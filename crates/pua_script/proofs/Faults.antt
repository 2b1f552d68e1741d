-- No fault of a check is want of room.
use Rattle.pua_script.proofs.Common.{◌≡◌, ◌≢◌, ℕ, zero, suc, List, [], ◌∷◌, ◌++◌, Bool, true, false, cond, refl, ap, ◌∙◌, Option, Some}
use Rattle.pua_script.proofs.Common.{None, option_map, Result, Ok, Err, is_some, ◌>>=◌, Tree, is_dir, is_empty, above, parts_of}
use Rattle.pua_script.proofs.Common.{is_absolute, path_fault, text_errno, resolve_parts, resolution_of_text, most_links, node_named, Errno}
use Rattle.pua_script.proofs.Common.{ENOENT, EINVAL, ENOSPC, LongText, LongComponent, NulInText, Ending, Last, Found, Slot, holds}
use Rattle.pua_script.proofs.Common.{CallTable, PairRule, rule_of, ending_of, last_of, ProcessState, start, may_any, place_of, cover}
use Rattle.pua_script.proofs.Common.{cover_fault, object_fault, object_of, Call, Cover, May, is_inside, is_same_node}
use Rattle.pua_script.proofs.Common.{spot_named, Whole, Spot, or_fault, Failed, Change, NoChange, Decision, if_may, asker_of, decide_rename}
use Rattle.pua_script.proofs.Common.{decide_link, shifting, is_whole, fault_if, kinds_fault, inside_fault}
use Rattle.std.specs.Prelude.{not, ◌&&◌}
use Rattle.pua_path.specs.Paths.{text_fault}
use Rattle.pua_path.specs.Resolution.{Resolved, Directory, Linked, Plain, Nothing, standing_at, is_followed, slot_or, walk, start_of}
use Rattle.pua_path.specs.declared.errno.Errno.TheVariants.{EPERM, EACCES, ENOTEMPTY, ENOTDIR, ELOOP}
use Rattle.pua_path.specs.declared.traced.PathTextFault.{PathTextFault}
use Rattle.pua_path.specs.declared.traced.PathTextFault.TheVariants.{EmptyText}
use Rattle.pua_path.specs.declared.text.Ending.TheVariants as ending
use Rattle.pua_path.specs.declared.found.Part.{Part}
use Rattle.pua_path.specs.declared.found.Part.TheVariants as parts
use Rattle.pua_path.specs.declared.found.Last.TheVariants.{Followed}
use Rattle.pua_path.specs.declared.found.Way.{Way}
use Rattle.pua_path.specs.declared.found.Way.TheVariants as way
use Rattle.pua_policy.specs.States.{unveil_fault}
use Rattle.pua_policy.specs.Misfits.{misfit, misfit_errno}
use Rattle.pua_policy.specs.Verdict.{Object}
use Rattle.pua_calls.specs.declared.fits.Misfit.{Misfit}
use Rattle.pua_calls.specs.declared.fits.Misfit.TheVariants.{Missing, Exists, IsDirectory, IsNoFile, IsNoDirectory, IsNoLink}
use Rattle.pua_calls.specs.declared.rules.Rules.{Rules}
use Rattle.pua_calls.specs.declared.fits.Misfit.TheVariants.{IsNoProgram, IsNotEmpty, ByDot, ByDotDot, ByNothing, IsSocket, IsNoSocket, InUse}
use Rattle.pua_calls.specs.declared.fits.Misfit.TheVariants.{IsMountPoint, IsElsewhere}
use Rattle.pua_policy.specs.declared.answer.Cover.TheVariants as covers
use Rattle.pua_policy.specs.declared.answer.UnveilFault.{UnveilFault}
use Rattle.pua_policy.specs.declared.answer.UnveilFault.TheVariants as unveil_faults
use Rattle.pua_policy.specs.declared.answer.May.TheVariants as may
use Rattle.pua_path.specs.declared.errno.Errno.TheVariants.{EEXIST, EISDIR, EXDEV}
use Rattle.pua_script.specs.Decide.{fits_fault, is_elsewhere}
use Rattle.pua_script.specs.Decide.{fails, unless_fault, if_named as decide_named}
use Rattle.pua_script.specs.Decide.{decide_object, cover_past, past_promises, Sole}
use Rattle.pua_script.specs.Decide.{decide_pair, decide_veil, dots_fault, top_fault, before_long, errno_behind, front_errno, named_in, path_named}
use Rattle.pua_calls.specs.declared.rules.Rules.{Rules}
use Rattle.pua_calls.specs.declared.rules.Rules.TheVariants.{Standard, Openbsd}
use Rattle.pua_script.specs.Decide.{unveil_errno}
use Rattle.pua_path.specs.declared.found.Start.{Start}
use Rattle.pua_path.specs.Resolution.{RootedTree, above_in, seen_from, starts}

-- faults other than ENOSPC
abbrev pub Apart : Option Errno → Type 0
Apart fault = fault ≢ Some ENOSPC

pub or_apart : (a b : Option Errno) → Apart a → Apart b → Apart (or_fault a b)
or_apart None b first second = second
or_apart (Some errno) b first second = first

pub if_apart : (b : Bool) (errno : Errno) → Apart (Some errno) → Apart (fault_if b errno)
if_apart true errno apart = apart
if_apart false errno apart = λ e. cc

dots_apart : (object : Found) → Apart (dots_fault object)
dots_apart (Whole dir way.Dot) e = cc
dots_apart (Whole dir way.DotDot) e = cc
dots_apart (Whole dir way.Top) e = cc
dots_apart (Whole dir (way.Named parent name)) e = cc
dots_apart (Slot dir name _) e = cc

top_apart : (object : Found) → Apart (top_fault object)
top_apart (Whole dir way.Dot) e = cc
top_apart (Whole dir way.DotDot) e = cc
top_apart (Whole dir way.Top) e = cc
top_apart (Whole dir (way.Named parent name)) e = cc
top_apart (Slot dir name _) e = cc

inside_apart : (t : Tree) (x : ℕ) (spot : Option Spot) → Apart (inside_fault t x spot)
inside_apart t x None = λ e. cc
inside_apart t x (Some spot) = if_apart (is_inside t x spot.0) EINVAL (λ e. cc)

fits_apart : (t : Tree) (old new : Found) → Apart (fits_fault t old new)
fits_apart t old (Whole y way) =
    or_apart _ _ (if_apart (not (is_whole old)) EISDIR (λ e. cc)) (if_apart (not (is_empty t y)) ENOTEMPTY (λ e. cc))
fits_apart t old (Slot dir name None) = λ e. cc
fits_apart t old (Slot dir name (Some y)) = if_apart (is_whole old) ENOTDIR (λ e. cc)

away_apart : (t : Tree) (old new : Found) → Apart (fault_if (is_elsewhere t old new) EXDEV)
away_apart t old new = if_apart (is_elsewhere t old new) EXDEV (λ e. cc)

kinds_apart : (t : Tree) (x : ℕ) (old new : Found) → Apart (kinds_fault t x old new)
kinds_apart t x old new = or_apart _ _ (away_apart t old new) (fits_apart t old new)

-- faults that are not ENOSPC, of paths
fault_or : (b : Bool) (errno : Errno) (o : Option Errno) → errno ≢ ENOSPC → Apart o → Apart (cond b (Some errno) o)
fault_or true errno o other apart e = other (same errno e)
  where
    same : (errno : Errno) → Some errno ≡ Some ENOSPC → errno ≡ ENOSPC
    same errno e = cc
fault_or false errno o other apart e = apart e

pub none_or : (b : Bool) (errno : Errno) → errno ≢ ENOSPC → Apart (cond b None (Some errno))
none_or true errno other e = cc
none_or false errno other e = fault_or true errno None other (λ e. cc) e

text_apart : (o : Option PathTextFault) → Apart (option_map text_errno o)
text_apart None = λ e. cc
text_apart (Some EmptyText) = λ e. cc
text_apart (Some LongText) = λ e. cc
text_apart (Some LongComponent) = λ e. cc
text_apart (Some NulInText) = λ e. cc

pub path_apart : (text : List ℕ) → Apart (path_fault text)
path_apart text = text_apart (text_fault text)

abbrev IsApart : Resolved → Type 0
IsApart (Ok found) = Unit {0}
IsApart (Err errno) = errno ≢ ENOSPC

slot_apart : (rest : List Part) (found : Found) (errno : Errno) (links : ℕ) → errno ≢ ENOSPC → IsApart (slot_or rest found errno links)
slot_apart [] found errno links other = tt
slot_apart (part ∷ rest) found errno links other = other

module _ (t : RootedTree) (mode : Last) (links : ℕ) (follow : ℕ → List ℕ → List Part → Resolved)
    (follows : (from : ℕ) (target : List ℕ) (rest : List Part) → IsApart (follow from target rest)) where
  linked_apart : (b : Bool) (from : ℕ) (target : List ℕ) (rest : List Part) (found : Found) →
      IsApart (cond b (follow from target rest) (Ok (found, links)))
  linked_apart true from target rest found = follows from target rest
  linked_apart false from target rest found = tt

  walk_apart : (ps : List Part) (dir : ℕ) (by : Way) → IsApart (walk t mode links follow dir by ps)
  walk_apart [] dir by = tt
  walk_apart (parts.Dot ∷ ps) dir by = walk_apart ps dir way.Dot
  walk_apart (parts.DotDot ∷ ps) dir by = walk_apart ps (above_in t dir) way.DotDot
  walk_apart (parts.Name name ∷ ps) dir by = elim (standing_at t.tree dir name) as (λ s. IsApart (elim s [
    | Directory x ↦ walk t mode links follow x (way.Named dir name) ps
    | Linked x target ↦ cond (is_followed mode ps) (follow dir target ps) (Ok (Slot dir name (Some x), links))
    | Plain x ↦ slot_or ps (Slot dir name (Some x)) ENOTDIR links
    | Nothing ↦ slot_or ps (Slot dir name None) ENOENT links
  ])) [
    | Directory x ↦ walk_apart ps x (way.Named dir name)
    | Linked x target ↦ linked_apart (is_followed mode ps) dir target ps (Slot dir name (Some x))
    | Plain x ↦ slot_apart ps (Slot dir name (Some x)) ENOTDIR links (λ e. cc)
    | Nothing ↦ slot_apart ps (Slot dir name None) ENOENT links (λ e. cc)
  ]

resolve_apart : (links : ℕ) (t : RootedTree) (mode : Last) (dir : ℕ) (by : Way) (ps : List Part) → IsApart (resolve_parts links t mode dir by ps)
resolve_apart zero t mode dir by ps = walk_apart t mode 0 (λ from target rest. Err ELOOP) (λ from target rest e. cc) ps dir by
resolve_apart (suc links) t mode dir by ps =
    walk_apart t mode (suc links) _ (λ from target rest. resolve_apart links t mode (start_of t.root target from) way.Top
    (parts_of ending.Dot target ++ rest)) ps dir by

abbrev errno_of : Result Found Errno → Errno
errno_of (Ok found) = ENOSPC
errno_of (Err errno) = errno

-- what a text names is never ENOSPC
abbrev Named : Result Found Errno → Type 0
Named r = r ≢ Err ENOSPC

named_from : (r : Resolved) → IsApart r → Named (r >>= λ found. Ok found.0)
named_from (Ok found) apart e = cc
named_from (Err errno) apart e = apart (ap errno_of e)

named_if : (b : Bool) (r : Result Found Errno) → Named r → Named (cond b (Err ENOENT) r)
named_if true r named e = cc
named_if false r named e = named e

named : (t : Tree) (from : Start) (end : Ending) (text : List ℕ) (mode : Last) → Named (resolution_of_text t from end text mode)
named t from end text mode = by (path_fault text) refl (path_apart text)
  where
    by : (o : Option Errno) → path_fault text ≡ o → Apart (path_fault text) → Named (resolution_of_text t from end text mode)
    by None e apart = rw e
        (named_if (not (starts t from text)) _
        (named_from _ (resolve_apart most_links (seen_from t from) mode (start_of from.root text from.dir) way.Top (parts_of end text))))
    by (Some errno) e apart = rw e (λ is. apart (e ∙ ap (λ r. Some (errno_of r)) is))

-- by any rules
named_any : (whose : Rules) (t : Tree) (from : Start) (end : Ending) (text : List ℕ) (mode : Last) → Named (path_named whose t from end text mode)
named_any whose t from end text mode = by whose (resolution_of_text t from end text mode) (named t from end text mode)
  where
    front : (errno : Errno) (r : Result Found Errno) → Named (Err errno) → Named r → Named (Err (front_errno errno r))
    front errno (Ok x) other apart = other
    front errno (Err fault) other apart = λ e. apart (ap Err (ap errno_of e))

    behind : (errno : Errno) (o : Option (List ℕ)) → Named (Err errno) → Named (Err (errno_behind t from errno o))
    behind errno None other = other
    behind errno (Some before) other = front errno _ other (named t from ending.Dot before Followed)

    by : (whose : Rules) (r : Result Found Errno) → Named r → Named (named_in whose t from text r)
    by whose (Ok x) apart = apart
    by Standard (Err errno) apart = apart
    by Openbsd (Err errno) apart = behind errno (before_long text) apart

-- faults of covers and of what was found
cover_apart : (c : Cover) (perms : ℕ) → Apart (cover_fault c perms)
cover_apart covers.All perms = λ e. cc
cover_apart covers.Nothing perms = λ e. cc
cover_apart (covers.Only given) perms = none_or (holds given perms) EACCES (λ e. cc)

misfit_apart : (o : Option Misfit) → Apart (option_map misfit_errno o)
misfit_apart None = λ e. cc
misfit_apart (Some Missing) = λ e. cc
misfit_apart (Some Exists) = λ e. cc
misfit_apart (Some IsDirectory) = λ e. cc
misfit_apart (Some IsNoFile) = λ e. cc
misfit_apart (Some IsNoDirectory) = λ e. cc
misfit_apart (Some IsNoLink) = λ e. cc
misfit_apart (Some IsNoProgram) = λ e. cc
misfit_apart (Some IsNotEmpty) = λ e. cc
misfit_apart (Some ByDot) = λ e. cc
misfit_apart (Some ByDotDot) = λ e. cc
misfit_apart (Some ByNothing) = λ e. cc
misfit_apart (Some IsSocket) = λ e. cc
misfit_apart (Some IsNoSocket) = λ e. cc
misfit_apart (Some InUse) = λ e. cc
misfit_apart (Some IsMountPoint) = λ e. cc
misfit_apart (Some IsElsewhere) = λ e. cc

object_apart : (whose : Rules) (t : Tree) (c : Call) (o : Object) → Apart (object_fault whose t c o)
object_apart whose t c o = misfit_apart (misfit whose t c o)

veil_apart : (o : Option UnveilFault) → Apart (unveil_errno o)
veil_apart None = λ e. cc
veil_apart (Some unveil_faults.NotPermitted) = λ e. cc
veil_apart (Some unveil_faults.TooManyPlaces) = λ e. cc
veil_apart (Some unveil_faults.OutOfMemory) = λ e. cc

-- a decision that lacks no room
abbrev pub HasRoom : Decision → Type 0
HasRoom d = d ≢ Err (Failed ENOSPC)

fails_apart : (errno : Errno) → errno ≢ ENOSPC → HasRoom (fails errno)
fails_apart errno other e = other (ap errno_in e)
  where
    errno_in : Decision → Errno
    errno_in (Err (Failed errno)) = errno
    errno_in _ = ENOSPC

pub promised_apart : (m : May) (d : Decision) → HasRoom d → HasRoom (if_may m d)
promised_apart may.Yes d has = has
promised_apart may.Enosys d has = λ e. cc
promised_apart may.Death d has = λ e. cc

pub checked_apart : (o : Option Errno) (d : Decision) → Apart o → HasRoom d → HasRoom (unless_fault o d)
checked_apart None d apart has = has
checked_apart (Some errno) d apart has = fails_apart errno (λ same. apart (ap Some same))

named_apart : (r : Result Found Errno) (f : Found → Decision) → Named r → ((x : Found) → HasRoom (f x)) → HasRoom (decide_named r f)
named_apart (Ok x) f other has = has x
named_apart (Err errno) f other has = fails_apart errno (λ same. other (ap Err same))

pub granted_apart : (c : Change) → HasRoom (Ok c)
granted_apart c e = cc

pub object_has_room : (table : CallTable) (t : Tree) (h : ProcessState) (c : Call) (path : List ℕ) (f : Found → Change) →
    HasRoom (decide_object table t (asker_of h) c path (λ x. Ok (f x)))
object_has_room table t h c path f = named_apart (path_named table.whose t (start h) (ending_of c) path (last_of c)) _
    (named_any table.whose t (start h) (ending_of c) path (last_of c)) λ x.
    checked_apart _ _ (or_apart _ _ (cover_apart (cover t h x) (rule_of table c).perms) (object_apart table.whose t c (object_of t x)))
    (granted_apart (f x))

past_apart : (t : Tree) (h : ProcessState) (x : Found) (asks_veils : Bool) (perms : ℕ) →
    Apart (cover_past asks_veils (asker_of h).cover Sole t x perms)
past_apart t h x true perms = cover_apart (cover t h x) perms
past_apart t h x false perms = λ e. cc

pub opened_has_room : (table : CallTable) (t : Tree) (h : ProcessState) (asks_veils : Bool) (c : Call) (path : List ℕ) (f : Found → Change) →
    HasRoom (decide_object table t (past_promises asks_veils (asker_of h)) c path (λ x. Ok (f x)))
opened_has_room table t h asks_veils c path f = named_apart (path_named table.whose t (start h) (ending_of c) path (last_of c)) _
    (named_any table.whose t (start h) (ending_of c) path (last_of c)) λ x.
    checked_apart _ _ (or_apart _ _ (past_apart t h x asks_veils (rule_of table c).perms) (object_apart table.whose t c (object_of t x)))
    (granted_apart (f x))

pub pair_has_room : (whose : Rules) (pair : PairRule) (t : Tree) (h : ProcessState) (end : Ending) (old_path new_path : List ℕ) (f : Found → Found → Decision) →
    ((old new : Found) → HasRoom (f old new)) → HasRoom (decide_pair whose pair t (asker_of h) end old_path new_path f)
pair_has_room whose pair t h end old_path new_path f has =
    promised_apart (may_any h pair.old.needs.alternatives) _
    (promised_apart (may_any h pair.new.needs.alternatives) _
    (named_apart (path_named whose t (start h) end old_path pair.old.last) _ (named_any whose t (start h) end old_path pair.old.last) λ old.
    named_apart (path_named whose t (start h) end new_path pair.new.last) _ (named_any whose t (start h) end new_path pair.new.last) λ new.
    checked_apart _ _ (or_apart _ _ (cover_apart (cover t h old) pair.old.needs.perms) (cover_apart (cover t h new) pair.new.needs.perms))
    (has old new)))

pub rename_has_room : (t : Tree) (asks : Bool) (old new : Found) (x : Option ℕ) → HasRoom (decide_rename t asks old new x)
rename_has_room t asks old new None = λ e. cc
rename_has_room t asks old new (Some x) =
    checked_apart _ _ (or_apart _ _ (dots_apart old) (or_apart _ _ (dots_apart new) (or_apart _ _ (top_apart old) (top_apart new))))
    (checked_apart _ _ (if_apart (asks && not (is_whole old)) ENOTDIR (λ e. cc)) (by (is_same_node x (node_named new))))
  where
    by : (same : Bool) → HasRoom
        (cond {A = Decision} same (Ok NoChange) (unless_fault (or_fault (inside_fault t x (spot_named new)) (kinds_fault t x old new))
        (Ok (shifting (spot_named old) (spot_named new)))))
    by true = granted_apart NoChange
    by false = checked_apart _ _ (or_apart _ _ (inside_apart t x (spot_named new)) (kinds_apart t x old new)) (granted_apart _)

pub link_has_room : (t : Tree) (old new : Found) (x : Option ℕ) → HasRoom (decide_link t old new x)
link_has_room t old new None = λ e. cc
link_has_room t old new (Some x) =
    checked_apart _ _ (or_apart _ _ (if_apart (is_whole old) EPERM (λ e. cc))
    (or_apart _ _ (if_apart (is_some (node_named new)) EEXIST (λ e. cc)) (away_apart t old new)))
    (granted_apart _)

pub veil_has_room : (whose : Rules) (t : Tree) (h : ProcessState) (path : List ℕ) (perms : Option ℕ) → HasRoom (decide_veil whose t (asker_of h) path perms)
veil_has_room whose t h path None = λ e. cc
veil_has_room whose t h path (Some perms) = named_apart _ _ (named_any whose t (start h) ending.Dot path Followed) λ x.
    checked_apart _ _ (veil_apart (unveil_fault h (place_of x) perms)) (granted_apart _)
