-- No check behind the promises is answered ENOSYS, ENOSPC or EAGAIN, or ends the process.
use Rattle.std.proofs.Common.{◌≡◌, ℕ, zero, suc, List, [], ◌∷◌, ◌++◌, refl, sym, ap, ◌∙◌, Bool, true, false, cond, ◌&&◌, not}
use Rattle.std.specs.Prelude.{Option, Some, None, Result, Ok, Err, option_map, is_some}
use Rattle.pua_tree.specs.Tree.{Tree, Spot, is_empty}
use Rattle.pua_tree.specs.Steps.{◌>>=◌}
use Rattle.pua_tree.specs.Edits.{is_inside, is_same_node}
use Rattle.pua_path.specs.Paths.{path_fault, text_fault, text_errno, parts_of}
use Rattle.pua_path.specs.Resolution.{Resolved, RootedTree, Directory, Linked, Plain, Nothing, standing_at, is_followed, slot_or, walk, start_of}
use Rattle.pua_path.specs.Resolution.{above_in, resolution_of_text, resolve_parts, most_links, seen_from, starts}
use Rattle.pua_path.specs.Fits.{node_named, spot_named}
use Rattle.pua_path.specs.declared.errno.Errno.{Errno}
use Rattle.pua_path.specs.declared.errno.Errno.TheVariants.{EPERM, ENOENT, EACCES, EINVAL, EEXIST, EISDIR, ENOTDIR, ENOTEMPTY, ELOOP}
use Rattle.pua_path.specs.declared.errno.Errno.TheVariants.{ENOSPC, EAGAIN, ENOSYS, EXDEV}
use Rattle.pua_path.specs.declared.traced.PathTextFault.{PathTextFault}
use Rattle.pua_path.specs.declared.traced.PathTextFault.TheVariants.{EmptyText, LongText, LongComponent, NulInText}
use Rattle.pua_path.specs.declared.text.Ending.{Ending}
use Rattle.pua_path.specs.declared.text.Ending.TheVariants as ending
use Rattle.pua_path.specs.declared.found.Part.{Part}
use Rattle.pua_path.specs.declared.found.Part.TheVariants as parts
use Rattle.pua_path.specs.declared.found.Found.{Found}
use Rattle.pua_path.specs.declared.found.Found.TheVariants.{Whole, Slot}
use Rattle.pua_path.specs.declared.found.Start.{Start}
use Rattle.pua_path.specs.declared.found.Last.{Last}
use Rattle.pua_path.specs.declared.found.Last.TheVariants.{Followed}
use Rattle.pua_path.specs.declared.found.Way.{Way}
use Rattle.pua_path.specs.declared.found.Way.TheVariants as way
use Rattle.pua_calls.specs.Promises.{holds}
use Rattle.pua_calls.specs.Calls.{CallTable, PairRule, rule_of, ending_of, last_of}
use Rattle.pua_calls.specs.declared.call.Call.{Call}
use Rattle.pua_policy.specs.States.{ProcessState, unveil_fault, start}
use Rattle.pua_policy.specs.Misfits.{misfit, misfit_errno}
use Rattle.pua_policy.specs.Verdict.{cover, cover_fault, object_of, or_fault, place_of}
use Rattle.pua_calls.specs.declared.fits.Misfit.{Misfit}
use Rattle.pua_calls.specs.declared.fits.Misfit.TheVariants.{Missing, Exists, IsDirectory, IsNoFile, IsNoDirectory, IsNoLink}
use Rattle.pua_calls.specs.declared.fits.Misfit.TheVariants.{IsNoProgram, IsNotEmpty, ByDot, ByDotDot, ByNothing, IsSocket, IsNoSocket, InUse}
use Rattle.pua_calls.specs.declared.fits.Misfit.TheVariants.{IsMountPoint, IsElsewhere}
use Rattle.pua_policy.specs.declared.answer.Cover.{Cover}
use Rattle.pua_policy.specs.declared.answer.Cover.TheVariants as covers
use Rattle.pua_policy.specs.declared.answer.UnveilFault.{UnveilFault}
use Rattle.pua_policy.specs.declared.answer.UnveilFault.TheVariants as unveil_faults
use Rattle.pua_policy.specs.declared.answer.Refusal.TheVariants.{Failed, Killed}
use Rattle.pua_script.specs.Decide.{Change, NoChange, Decision, asker_of, refusals, unless_failed, on_named, object_by, objects_by, veil_by}
use Rattle.pua_script.specs.Decide.{dots_fault, top_fault, kinds_fault, inside_fault, ways_fault, fault_if, is_whole, rename_by, link_by, shifting}
use Rattle.pua_script.specs.Decide.{fits_fault, is_elsewhere}
use Rattle.pua_script.specs.Decide.{Sole, past_promises, cover_past, unveil_errno, before_long, errno_behind, front_errno, named_in, path_named}
use Rattle.pua_calls.specs.declared.rules.Rules.{Rules}
use Rattle.pua_calls.specs.declared.rules.Rules.TheVariants.{Standard, Openbsd}

abbrev pub is_rare : Errno → Bool
is_rare ENOSPC = true
is_rare EAGAIN = true
is_rare ENOSYS = true
is_rare _ = false

abbrev pub rare_fault : Option Errno → Bool
rare_fault None = false
rare_fault (Some errno) = is_rare errno

abbrev pub rare : Decision → Bool
rare (Ok c) = false
rare (Err (Failed errno)) = is_rare errno
rare (Err Killed) = true

or_plain : (a b : Option Errno) → rare_fault a ≡ false → rare_fault b ≡ false → rare_fault (or_fault a b) ≡ false
or_plain None b first second = second
or_plain (Some errno) b first second = first

if_plain : (b : Bool) (errno : Errno) → is_rare errno ≡ false → rare_fault (fault_if b errno) ≡ false
if_plain true errno plain = plain
if_plain false errno plain = refl

dots_plain : (object : Found) → rare_fault (dots_fault object) ≡ false
dots_plain (Whole dir way.Dot) = refl
dots_plain (Whole dir way.DotDot) = refl
dots_plain (Whole dir way.Top) = refl
dots_plain (Whole dir (way.Named parent name)) = refl
dots_plain (Slot dir name _) = refl

top_plain : (object : Found) → rare_fault (top_fault object) ≡ false
top_plain (Whole dir way.Dot) = refl
top_plain (Whole dir way.DotDot) = refl
top_plain (Whole dir way.Top) = refl
top_plain (Whole dir (way.Named parent name)) = refl
top_plain (Slot dir name _) = refl

inside_plain : (t : Tree) (x : ℕ) (spot : Option Spot) → rare_fault (inside_fault t x spot) ≡ false
inside_plain t x None = refl
inside_plain t x (Some spot) = if_plain (is_inside t x spot.0) EINVAL refl

fits_plain : (t : Tree) (old new : Found) → rare_fault (fits_fault t old new) ≡ false
fits_plain t old (Whole y way) =
    or_plain (fault_if (not (is_whole old)) EISDIR) (fault_if (not (is_empty t y)) ENOTEMPTY) (if_plain (not (is_whole old)) EISDIR refl)
    (if_plain (not (is_empty t y)) ENOTEMPTY refl)
fits_plain t old (Slot dir name None) = refl
fits_plain t old (Slot dir name (Some y)) = if_plain (is_whole old) ENOTDIR refl

kinds_plain : (t : Tree) (x : ℕ) (old new : Found) → rare_fault (kinds_fault t x old new) ≡ false
kinds_plain t x old new =
    or_plain (fault_if (is_elsewhere t old new) EXDEV) (fits_fault t old new) (if_plain (is_elsewhere t old new) EXDEV refl) (fits_plain t old new)

text_plain : (o : Option PathTextFault) → rare_fault (option_map text_errno o) ≡ false
text_plain None = refl
text_plain (Some EmptyText) = refl
text_plain (Some LongText) = refl
text_plain (Some LongComponent) = refl
text_plain (Some NulInText) = refl

pub path_plain : (text : List ℕ) → rare_fault (path_fault text) ≡ false
path_plain text = text_plain (text_fault text)

abbrev rare_end : Resolved → Bool
rare_end (Ok found) = false
rare_end (Err errno) = is_rare errno

slot_plain : (rest : List Part) (found : Found) (errno : Errno) (links : ℕ) → is_rare errno ≡ false →
    rare_end (slot_or rest found errno links) ≡ false
slot_plain [] found errno links plain = refl
slot_plain (part ∷ rest) found errno links plain = plain

module _ (t : RootedTree) (mode : Last) (links : ℕ) (follow : ℕ → List ℕ → List Part → Resolved)
    (follows : (from : ℕ) (target : List ℕ) (rest : List Part) → rare_end (follow from target rest) ≡ false) where
  linked_plain : (b : Bool) (from : ℕ) (target : List ℕ) (rest : List Part) (found : Found) →
      rare_end (cond b (follow from target rest) (Ok (found, links))) ≡ false
  linked_plain true from target rest found = follows from target rest
  linked_plain false from target rest found = refl

  walk_plain : (ps : List Part) (dir : ℕ) (by : Way) → rare_end (walk t mode links follow dir by ps) ≡ false
  walk_plain [] dir by = refl
  walk_plain (parts.Dot ∷ ps) dir by = walk_plain ps dir way.Dot
  walk_plain (parts.DotDot ∷ ps) dir by = walk_plain ps (above_in t dir) way.DotDot
  walk_plain (parts.Name name ∷ ps) dir by = elim (standing_at t.tree dir name) as (λ s. rare_end (elim s [
    | Directory x ↦ walk t mode links follow x (way.Named dir name) ps
    | Linked x target ↦ cond (is_followed mode ps) (follow dir target ps) (Ok (Slot dir name (Some x), links))
    | Plain x ↦ slot_or ps (Slot dir name (Some x)) ENOTDIR links
    | Nothing ↦ slot_or ps (Slot dir name None) ENOENT links
  ]) ≡ false) [
    | Directory x ↦ walk_plain ps x (way.Named dir name)
    | Linked x target ↦ linked_plain (is_followed mode ps) dir target ps (Slot dir name (Some x))
    | Plain x ↦ slot_plain ps (Slot dir name (Some x)) ENOTDIR links refl
    | Nothing ↦ slot_plain ps (Slot dir name None) ENOENT links refl
  ]

resolve_plain : (links : ℕ) (t : RootedTree) (mode : Last) (dir : ℕ) (by : Way) (ps : List Part) →
    rare_end (resolve_parts links t mode dir by ps) ≡ false
resolve_plain zero t mode dir by ps = walk_plain t mode 0 (λ from target rest. Err ELOOP) (λ from target rest. refl) ps dir by
resolve_plain (suc links) t mode dir by ps =
    walk_plain t mode (suc links) _ (λ from target rest. resolve_plain links t mode (start_of t.root target from) way.Top
    (parts_of ending.Dot target ++ rest)) ps dir by

abbrev rare_name : Result Found Errno → Bool
rare_name (Ok found) = false
rare_name (Err errno) = is_rare errno

named_from : (r : Resolved) → rare_end r ≡ false → rare_name (r >>= λ found. Ok found.0) ≡ false
named_from (Ok found) plain = refl
named_from (Err errno) plain = plain

named_if : (b : Bool) (r : Result Found Errno) → rare_name r ≡ false → rare_name (cond b (Err ENOENT) r) ≡ false
named_if true r plain = refl
named_if false r plain = plain

named : (t : Tree) (from : Start) (end : Ending) (text : List ℕ) (mode : Last) → rare_name (resolution_of_text t from end text mode) ≡ false
named t from end text mode = by (path_fault text) refl (path_plain text)
  where
    by : (o : Option Errno) → path_fault text ≡ o → rare_fault (path_fault text) ≡ false →
        rare_name (resolution_of_text t from end text mode) ≡ false
    by None e plain = rw e
        (named_if (not (starts t from text)) _
        (named_from _ (resolve_plain most_links (seen_from t from) mode (start_of from.root text from.dir) way.Top (parts_of end text))))
    by (Some errno) e plain = rw e (ap rare_fault (sym e) ∙ plain)

named_any : (whose : Rules) (t : Tree) (from : Start) (end : Ending) (text : List ℕ) (mode : Last) →
    rare_name (path_named whose t from end text mode) ≡ false
named_any whose t from end text mode = by whose (resolution_of_text t from end text mode) (named t from end text mode)
  where
    front : (errno : Errno) (r : Result Found Errno) → is_rare errno ≡ false → rare_name r ≡ false → is_rare (front_errno errno r) ≡ false
    front errno (Ok x) plain rest = plain
    front errno (Err fault) plain rest = rest

    behind : (errno : Errno) (o : Option (List ℕ)) → is_rare errno ≡ false → is_rare (errno_behind t from errno o) ≡ false
    behind errno None plain = plain
    behind errno (Some before) plain =
        front errno (resolution_of_text t from ending.Dot before Followed) plain (named t from ending.Dot before Followed)

    by : (whose : Rules) (r : Result Found Errno) → rare_name r ≡ false → rare_name (named_in whose t from text r) ≡ false
    by whose (Ok x) plain = refl
    by Standard (Err errno) plain = plain
    by Openbsd (Err errno) plain = behind errno (before_long text) plain

cover_plain : (c : Cover) (perms : ℕ) → rare_fault (cover_fault c perms) ≡ false
cover_plain covers.All perms = refl
cover_plain covers.Nothing perms = refl
cover_plain (covers.Only given) perms = by (holds given perms)
  where
    by : (b : Bool) → rare_fault (cond b None (Some EACCES)) ≡ false
    by true = refl
    by false = refl

misfit_plain : (o : Option Misfit) → rare_fault (option_map misfit_errno o) ≡ false
misfit_plain None = refl
misfit_plain (Some Missing) = refl
misfit_plain (Some Exists) = refl
misfit_plain (Some IsDirectory) = refl
misfit_plain (Some IsNoFile) = refl
misfit_plain (Some IsNoDirectory) = refl
misfit_plain (Some IsNoLink) = refl
misfit_plain (Some IsNoProgram) = refl
misfit_plain (Some IsNotEmpty) = refl
misfit_plain (Some ByDot) = refl
misfit_plain (Some ByDotDot) = refl
misfit_plain (Some ByNothing) = refl
misfit_plain (Some IsSocket) = refl
misfit_plain (Some IsNoSocket) = refl
misfit_plain (Some InUse) = refl
misfit_plain (Some IsMountPoint) = refl
misfit_plain (Some IsElsewhere) = refl

veil_plain : (o : Option UnveilFault) → rare_fault (unveil_errno o) ≡ false
veil_plain None = refl
veil_plain (Some unveil_faults.NotPermitted) = refl
veil_plain (Some unveil_faults.TooManyPlaces) = refl
veil_plain (Some unveil_faults.OutOfMemory) = refl

pub checked_plain : (o : Option Errno) (d : Decision) → rare_fault o ≡ false → rare d ≡ false → rare (unless_failed refusals.failed o d) ≡ false
checked_plain None d plain rest = rest
checked_plain (Some errno) d plain rest = plain

named_plain : (r : Result Found Errno) (f : Found → Decision) → rare_name r ≡ false → ((x : Found) → rare (f x) ≡ false) →
    rare (on_named refusals.failed r f) ≡ false
named_plain (Ok x) f plain rest = rest x
named_plain (Err errno) f plain rest = plain

pub locked_plain : (b : Bool) → rare_fault (fault_if b EPERM) ≡ false
locked_plain b = if_plain b EPERM refl

pub unknown_plain : (b : Bool) → rare_fault (fault_if b EINVAL) ≡ false
unknown_plain b = if_plain b EINVAL refl

past_cover_plain : (veils : Bool) (t : Tree) (h : ProcessState) (x : Found) (perms : ℕ) →
    rare_fault (cover_past veils (asker_of h).cover Sole t x perms) ≡ false
past_cover_plain true t h x perms = cover_plain (cover t h x) perms
past_cover_plain false t h x perms = refl

-- so of a call that a promise opens
pub opened_plain : (table : CallTable) (t : Tree) (h : ProcessState) (veils : Bool) (c : Call) (path : List ℕ) (f : Found → Change) →
    rare (object_by refusals table t (past_promises veils (asker_of h)) c path (λ x. Ok (f x))) ≡ false
opened_plain table t h veils c path f = named_plain (path_named table.whose t (start h) (ending_of c) path (last_of c))
    (λ x. unless_failed refusals.failed (or_fault (cover_past veils (asker_of h).cover Sole t x (rule_of table c).perms)
    (option_map misfit_errno (misfit table.whose t c (object_of t x)))) (Ok (f x)))
    (named_any table.whose t (start h) (ending_of c) path (last_of c))
    (λ x. checked_plain (or_fault (cover_past veils (asker_of h).cover Sole t x (rule_of table c).perms)
    (option_map misfit_errno (misfit table.whose t c (object_of t x)))) (Ok (f x))
    (or_plain (cover_past veils (asker_of h).cover Sole t x (rule_of table c).perms)
    (option_map misfit_errno (misfit table.whose t c (object_of t x)))
    (past_cover_plain veils t h x (rule_of table c).perms) (misfit_plain (misfit table.whose t c (object_of t x)))) refl)

pub object_plain : (table : CallTable) (t : Tree) (h : ProcessState) (c : Call) (path : List ℕ) (f : Found → Change) →
    rare (object_by refusals table t (asker_of h) c path (λ x. Ok (f x))) ≡ false
object_plain table t h c path f = opened_plain table t h true c path f

pub objects_plain : (whose : Rules) (pair : PairRule) (t : Tree) (h : ProcessState) (end : Ending) (old new : List ℕ) (f : Found → Found → Decision) →
    ((x y : Found) → rare (f x y) ≡ false) → rare (objects_by refusals whose pair t (asker_of h) end old new f) ≡ false
objects_plain whose pair t h end old new f plain = named_plain (path_named whose t (start h) end old pair.old.last) _
    (named_any whose t (start h) end old pair.old.last)
    (λ x. named_plain (path_named whose t (start h) end new pair.new.last) _ (named_any whose t (start h) end new pair.new.last)
    (λ y. checked_plain (or_fault (cover_fault (cover t h x) pair.old.needs.perms) (cover_fault (cover t h y) pair.new.needs.perms)) (f x y)
    (or_plain (cover_fault (cover t h x) pair.old.needs.perms) (cover_fault (cover t h y) pair.new.needs.perms)
    (cover_plain (cover t h x) pair.old.needs.perms) (cover_plain (cover t h y) pair.new.needs.perms)) (plain x y)))

pub rename_plain : (t : Tree) (asks : Bool) (old new : Found) (x : Option ℕ) → rare (rename_by refusals t asks old new x) ≡ false
rename_plain t asks old new None = refl
rename_plain t asks old new (Some x) =
    checked_plain (ways_fault old new) _ (or_plain (dots_fault old) _ (dots_plain old) (or_plain (dots_fault new) _ (dots_plain new)
    (or_plain (top_fault old) (top_fault new) (top_plain old) (top_plain new))))
    (checked_plain (fault_if (asks && not (is_whole old)) ENOTDIR) _ (if_plain (asks && not (is_whole old)) ENOTDIR refl)
    (by (is_same_node x (node_named new))))
  where
    by : (same : Bool) → rare
        (cond {A = Decision} same (Ok NoChange) (unless_failed refusals.failed (or_fault (inside_fault t x (spot_named new)) (kinds_fault t x old new))
        (Ok (shifting (spot_named old) (spot_named new))))) ≡ false
    by true = refl
    by false = checked_plain (or_fault (inside_fault t x (spot_named new)) (kinds_fault t x old new)) _
        (or_plain (inside_fault t x (spot_named new)) (kinds_fault t x old new) (inside_plain t x (spot_named new)) (kinds_plain t x old new)) refl

pub link_plain : (t : Tree) (old new : Found) (x : Option ℕ) → rare (link_by refusals t old new x) ≡ false
link_plain t old new None = refl
link_plain t old new (Some x) =
    let free = fault_if (is_some (node_named new)) EEXIST in
    let away = fault_if (is_elsewhere t old new) EXDEV in
    checked_plain (or_fault (fault_if (is_whole old) EPERM) (or_fault free away)) _
    (or_plain (fault_if (is_whole old) EPERM) (or_fault free away) (if_plain (is_whole old) EPERM refl)
    (or_plain free away (if_plain (is_some (node_named new)) EEXIST refl) (if_plain (is_elsewhere t old new) EXDEV refl))) refl

pub veiling_plain : (whose : Rules) (t : Tree) (h : ProcessState) (path : List ℕ) (perms : Option ℕ) → rare (veil_by refusals whose t (asker_of h) path perms) ≡ false
veiling_plain whose t h path None = refl
veiling_plain whose t h path (Some perms) = named_plain (path_named whose t (start h) ending.Dot path Followed) _
    (named_any whose t (start h) ending.Dot path Followed)
    (λ x. checked_plain (unveil_errno (unveil_fault h (place_of x) perms)) _ (veil_plain (unveil_fault h (place_of x) perms)) refl)
