-- What a fault of a request says is so.
use Rattle.pua_why.proofs.Common.{◌≡◌, ℕ, Bool, true, false, List, [], ◌∷◌, length, Some, None, refl, sym, Result, Ok, Err, Option, subst}
use Rattle.pua_why.proofs.Common.{ap, ◌∙◌, if◌then◌else◌, not, ◌||◌, is_some, nat_le, option_map, Tree, Spot, add, cut, tie, shift}
use Rattle.pua_why.proofs.Common.{TreeFault, spot_named, node_named, Ending, Followed, Found, Whole, Slot, text_fault, trace_of_text}
use Rattle.pua_why.proofs.Common.{PathTextFault, holds, unveil, CallTable, PairRule, rule_of, ProcessState, is_locked, perms_kept, start}
use Rattle.pua_why.proofs.Common.{or_fault, Place, most_processes, Change, NoChange, AddNode, CutRow, ShiftRow, TieRow, BeginProgram}
use Rattle.pua_why.proofs.Common.{AddEvent, CopyAs, TakeFile, Outcome, Side, Sole, Old, New, unless_refused, unless_failed, adding}
use Rattle.pua_why.proofs.Common.{link_node}
use Rattle.pua_why.proofs.Common.{shifting, pair_by, World, kept_at, change_effect, come_of, edit_effect, edited_tree, OnPath, Symlink}
use Rattle.pua_why.proofs.Common.{Rename, Link, Pledge, Unveil, Lock, Fork, Exit, Uses, Hold, Close, Fchdir, Chroot, Take, Comment, lacking, By}
use Rattle.pua_why.proofs.Common.{promising, covering, Fault, LacksLetters}
use Rattle.pua_why.proofs.Common.{Unfit, IsLocked, NumberTaken, NoProcessLeft, unpromised_fault, place_beyond, faults, faults_of}
use Rattle.pua_why.proofs.Common.{change_or_fault, no_room, room_fault, outcome_fault, name_trace, decision_of}
use Rattle.std.proofs.Common.{inl, inr}
use Rattle.pua_tree.specs.Tree.{is_empty}
use Rattle.pua_tree.specs.Edits.{is_inside, is_same_node}
use Rattle.pua_path.specs.declared.errno.Errno.TheVariants.{EBADF, EINVAL, ENOSPC, EPERM}
use Rattle.pua_path.specs.declared.text.Ending.TheVariants as ending
use Rattle.pua_path.specs.declared.found.Way.TheVariants as way
use Rattle.pua_calls.specs.Promises.{id, proc, recvfd, sendfd}
use Rattle.pua_policy.specs.declared.open_file.OpenFile.{OpenFile}
use Rattle.pua_policy.specs.States.{Filed, Moved, ToDir, file_at, held_set, is_directory, is_ended, is_pledged}
use Rattle.pua_script.specs.Decide.{close_by, fault_if, fchdir_by, on_named, rooting}
use Rattle.pua_script.specs.Replay.{sent_by, sent_of}
use Rattle.pua_why.specs.Reasons.{WrongFile, NotOpen, OpenNoDirectory, NotSent, MayNotSend, SendsDirectory, sent_fault, take_fault}
use Rattle.pua_why.specs.Truths.{DirFaultHolds, FileFaultHolds, SentFaultHolds}
use Rattle.std.specs.Prelude.{ok_or}
use Rattle.std.proofs.lemmas.Bool.{true≢false}
use Rattle.std.proofs.lemmas.Option.{same_Some as same_some}
use Rattle.pua_policy.specs.States.{error_frees_exec, pledged_set, held_for_exec, has_error, is_within, veils}
use Rattle.pua_policy.specs.States.{most_places}
use Rattle.pua_policy.specs.Verdict.{place_of}
use Rattle.pua_calls.specs.declared.call.Call.TheVariants as call
use Rattle.pua_script.specs.Decide.{dots_by, top_by, fits_by, kinds_by, is_elsewhere, inside_by, is_whole}
use Rattle.pua_script.specs.Decide.{asks_directory, given_set, is_unknown, rename_by, link_by, veil_by}
use Rattle.pua_calls.specs.declared.fits.Misfit.TheVariants.{IsElsewhere}
use Rattle.pua_calls.specs.declared.fits.Misfit.TheVariants.{Missing, Exists, IsDirectory, IsNoFile, IsNoDirectory, IsNotEmpty, ByDot}
use Rattle.pua_calls.specs.declared.fits.Misfit.TheVariants.{ByDotDot, ByNothing}
use Rattle.pua_script.specs.Replay.{Fails, effect}
use Rattle.pua_script.specs.declared.request.Given.{Given}
use Rattle.pua_script.specs.declared.request.Action.{Action}
use Rattle.pua_why.specs.Reasons.{Ends, LacksPromises, BadTarget, BadPath, NoRoot, Uncovered, Inside, UnknownPromise}
use Rattle.pua_why.specs.Reasons.{AsksPromises, UnknownLetter, AsksLetters, NoPlaceLeft, NoRoom}
use Rattle.pua_why.specs.Reasons.{beyond, asks_beyond, pledge_beyond, unless, unveil_beyond}
use Rattle.pua_why.specs.Laws.{CallFaultHolds}
use Rattle.pua_why.specs.Truths.{PromiseFaultHolds, SymlinkFaultHolds, side_outcome, PairFaultHolds, PledgeFaultHolds, UnveilFaultHolds}
use Rattle.pua_why.specs.Truths.{CheckFaultHolds, CheckFaultsHold, RoomFaultHolds, RequestFaultHolds, RequestFaultsHold, FullTreesAreFull}
use Rattle.pua_calls.specs.declared.rules.Rules.{Rules}
use Rattle.pua_why.specs.Reasons.{outcome_in}
use Rattle.pua_why.proofs.Faults.{outcome_ok}
use Rattle.pua_why.proofs.Steps.{same_fault, refused_true, failed_true, named_true, either_true, when_true, unpromised_true, uncovered_true}
use Rattle.pua_script.proofs.ForCallers.{requests_lack}
use Rattle.pua_why.proofs.Decisions.{reasons_give_decisions}
use Rattle.pua_why.proofs.Faults.{behind_promises, call_faults_hold, faults_hold_by, object_true}
use Rattle.pua_why.proofs.Held.{holds_are_refused, refused_too}
use Rattle.std.proofs.lemmas.Bool.{false≢true, not-true}
use Rattle.std.proofs.Common.{◌&&◌}

-- a symlink: a fault of a call on its path, or of its target
by_target : (table : CallTable) (t : Tree) (h : ProcessState) (target path : List ℕ) (fault : Fault) →
    CallFaultHolds t table h call.Symlink path fault → SymlinkFaultHolds table t h target path fault
by_target table t h target path Ends is = is
by_target table t h target path (LacksPromises error sets) is = is
by_target table t h target path (BadTarget bad) is = absurd is
by_target table t h target path (BadPath side bad) is = is
by_target table t h target path (NoRoot side) is = is
by_target table t h target path (Uncovered side object) is = is
by_target table t h target path (LacksLetters side place given lacks) is = is
by_target table t h target path (Unfit side object wrong) is = is
by_target table t h target path (Inside old new) is = is
by_target table t h target path (UnknownPromise of_exec) is = is
by_target table t h target path (AsksPromises of_exec lacks) is = is
by_target table t h target path IsLocked is = is
by_target table t h target path UnknownLetter is = is
by_target table t h target path (AsksLetters place given lacks) is = is
by_target table t h target path NoPlaceLeft is = is
by_target table t h target path (NumberTaken n) is = is
by_target table t h target path NoProcessLeft is = is
by_target table t h target path NoRoom is = is
by_target table t h target path (WrongFile bad) is = is

target_true : (table : CallTable) (t : Tree) (h : ProcessState) (target path : List ℕ) (bad : Fault) →
    option_map BadTarget (text_fault target) ≡ Some bad → SymlinkFaultHolds table t h target path bad
target_true table t h target path bad e = by (text_fault target) refl e
  where
    by : (o : Option PathTextFault) → text_fault target ≡ o → option_map BadTarget o ≡ Some bad → SymlinkFaultHolds table t h target path bad
    by None o e = cc
    by (Some fault) o e = let same : BadTarget fault ≡ bad = cc in subst (SymlinkFaultHolds table t h target path) same o

symlink_true : (table : CallTable) (t : Tree) (h : ProcessState) (target path : List ℕ) (fault : Fault) →
    change_or_fault table t h (Symlink target path) ≡ Err fault → SymlinkFaultHolds table t h target path fault
symlink_true table t h target path fault e =
    refused_true _ _ fault (SymlinkFaultHolds table t h target path)
    (λ bad e. unpromised_true h (rule_of table call.Symlink).alternatives bad (SymlinkFaultHolds table t h target path) (λ ended. ended)
    (λ error lacks is. is) e)
    (λ e. failed_true _ _ fault (SymlinkFaultHolds table t h target path) (λ bad e. target_true table t h target path bad e)
    (λ e. by_target table t h target path fault (behind_promises (rule_of table call.Symlink).alternatives t table h call.Symlink path fault
    (object_true t table h call.Symlink path (adding (link_node target)) fault e))) e) e

-- two paths
module _ (whose : Rules) (pair : PairRule) (t : Tree) (h : ProcessState) (end : Ending) (a b : List ℕ) where
  abbrev Pair : Fault → Type 0
  Pair = PairFaultHolds whose pair t h end a b

  abbrev Led : Side → Found → Type 0
  Led side object = side_outcome pair t h end a b side ≡ Ok object

  dots_true : (side : Side) (object : Found) (bad : Fault) → Led side object →
      dots_by (λ wrong. Unfit side object wrong) object ≡ Some bad → Pair bad
  dots_true side (Whole dir way.Dot) bad o e = let same : Unfit side (Whole dir way.Dot) ByDot ≡ bad = cc in
      subst Pair same (o, (dir, refl))
  dots_true side (Whole dir way.DotDot) bad o e = let same : Unfit side (Whole dir way.DotDot) ByDotDot ≡ bad = cc in
      subst Pair same (o, (dir, refl))
  dots_true side (Whole dir way.Top) bad o e = cc
  dots_true side (Whole dir (way.Named parent name)) bad o e = cc
  dots_true side (Slot dir name x) bad o e = cc

  top_true : (side : Side) (object : Found) (bad : Fault) → Led side object → top_by (λ wrong. Unfit side object wrong) object ≡ Some bad →
      Pair bad
  top_true side (Whole dir way.Top) bad o e = let same : Unfit side (Whole dir way.Top) ByNothing ≡ bad = cc in
      subst Pair same (o, (dir, refl))
  top_true side (Whole dir way.Dot) bad o e = cc
  top_true side (Whole dir way.DotDot) bad o e = cc
  top_true side (Whole dir (way.Named parent name)) bad o e = cc
  top_true side (Slot dir name x) bad o e = cc

  fits_true : (old new : Found) (bad : Fault) → Led New new → fits_by (λ wrong. Unfit New new wrong) t old new ≡ Some bad → Pair bad
  fits_true old (Whole y by) bad n e =
      either_true _ _ bad Pair
      (when_true (not (is_whole old)) (Unfit New (Whole y by) IsDirectory) bad Pair (λ v. (n, refl)))
      (when_true (not (is_empty t y)) (Unfit New (Whole y by) IsNotEmpty) bad Pair (λ v. (n, (y, by, refl, not-true (is_empty t y) v)))) e
  fits_true old (Slot dir name None) bad n e = cc
  fits_true old (Slot dir name (Some y)) bad n e =
      when_true (is_whole old) (Unfit New (Slot dir name (Some y)) IsNoDirectory) bad Pair (λ v. (n, (refl, refl))) e

  away_true : (old new : Found) (bad : Fault) → Led Old old → Led New new →
      fault_if (is_elsewhere t old new) (Unfit New new IsElsewhere) ≡ Some bad → Pair bad
  away_true old new bad o n e =
      when_true (is_elsewhere t old new) (Unfit New new IsElsewhere) bad Pair
      (λ v. record { from = old; led_old = o; led_new = n; elsewhere = v }) e

  kinds_true : (old new : Found) (bad : Fault) → Led Old old → Led New new → kinds_by (λ wrong. Unfit New new wrong) t old new ≡ Some bad →
      Pair bad
  kinds_true old new bad o n e = either_true _ _ bad Pair (away_true old new bad o n) (fits_true old new bad n) e

  inside_true : (x : ℕ) (old new : Found) (spot : Option Spot) (bad : Fault) → Led Old old → Led New new → node_named old ≡ Some x →
      spot_named new ≡ spot →
      inside_by (Inside old new) t x spot ≡ Some bad → Pair bad
  inside_true x old new None bad o n is_x is_spot e = cc
  inside_true x old new (Some spot) bad o n is_x is_spot e =
      when_true (is_inside t x spot.0) (Inside old new) bad Pair (λ v. (
        o,
        n,
        record { node = x; spot = spot; is_node = is_x; is_spot = is_spot; inside = v },
      )) e

  rename_true : (asks : Bool) (old new : Found) (node : Option ℕ) (fault : Fault) → node_named old ≡ node → Led Old old → Led New new →
      rename_by faults t asks old new node ≡ Err fault → Pair fault
  rename_true asks old new None fault is o n e = subst Pair (same_fault (Unfit Old old Missing) fault e) (o, is)
  rename_true asks old new (Some x) fault is o n e =
      failed_true _ _ fault Pair
      (λ bad e. either_true _ _ bad Pair (dots_true Old old bad o)
      (λ e. either_true _ _ bad Pair (dots_true New new bad n)
      (λ e. either_true _ _ bad Pair (top_true Old old bad o) (top_true New new bad n) e) e) e)
      (λ e. failed_true _ _ fault Pair
      (λ bad e. when_true (asks && not (is_whole old)) (Unfit Old old IsNoDirectory) bad Pair
      (λ v. (o, (not-true (is_whole old) (asked asks (is_whole old) v), ap is_some is))) e)
      (λ e. by (is_same_node x (node_named new)) e) e) e
    where
      asked : (a b : Bool) → (a && not b) ≡ true → not b ≡ true
      asked true b v = v
      asked false b v = absurd (false≢true v)

      by : (v : Bool) →
          (if v then Ok NoChange else unless_failed (λ fault. fault) (or_fault (inside_by (Inside old new) t x (spot_named new))
          (kinds_by (λ wrong. Unfit New new wrong) t old new)) (Ok (shifting (spot_named old) (spot_named new)))) ≡ Err fault →
          Pair fault
      by true e = cc
      by false e =
          failed_true _ _ fault Pair
          (λ bad e. either_true _ _ bad Pair (inside_true x old new (spot_named new) bad o n is refl) (kinds_true old new bad o n) e)
          (λ granted. cc) e

  link_true : (old new : Found) (node : Option ℕ) (fault : Fault) → node_named old ≡ node → Led Old old → Led New new →
      link_by faults t old new node ≡ Err fault → Pair fault
  link_true old new None fault is o n e = subst Pair (same_fault (Unfit Old old Missing) fault e) (o, is)
  link_true old new (Some x) fault is o n e =
      failed_true _ _ fault Pair
      (λ bad e. either_true _ _ bad Pair
      (when_true (is_whole old) (Unfit Old old IsNoFile) bad Pair (λ v. (o, v)))
      (λ e. either_true _ _ bad Pair (when_true (is_some (node_named new)) (Unfit New new Exists) bad Pair (λ v. (n, v)))
      (away_true old new bad o n) e) e)
      (λ granted. cc) e

  cover_true : (side : Side) (object : Found) (bad : Fault) (perms : ℕ) → Led side object →
      ((place : Place) (given : ℕ) → covering t h object ≡ By place given → holds given perms ≡ false →
      Pair (LacksLetters side place given (lacking given perms))) →
      (faults_of h).cover side t object perms ≡ Some bad → Pair bad
  cover_true side object bad perms o lacks e = uncovered_true side object perms (covering t h object) bad Pair (λ none. (o, none)) lacks e

  pair_true : (further : Found → Found → Outcome Fault) (fault : Fault) →
      ((old new : Found) → Led Old old → Led New new → further old new ≡ Err fault → Pair fault) →
      pair_by faults whose pair t (faults_of h) end a b further ≡ Err fault → Pair fault
  pair_true further fault each e =
      refused_true _ _ fault Pair
      (λ bad e. unpromised_true h pair.old.needs.alternatives bad Pair (λ ended. ended) (λ error lacks is. inl is) e)
      (λ e. refused_true _ _ fault Pair
      (λ bad e. unpromised_true h pair.new.needs.alternatives bad Pair (λ ended. ended) (λ error lacks is. inr is) e)
      (λ e. named_true Old a (outcome_in whose t (start h) a (name_trace pair.old t h end a).outcome) _ fault Pair (λ bad o. o)
      (λ o. o)
      (λ old led_old e. named_true New b (outcome_in whose t (start h) b (name_trace pair.new t h end b).outcome) _ fault Pair
      (λ bad n. n) (λ n. n)
      (λ new led_new e.
      let o = outcome_ok whose t (start h) a (name_trace pair.old t h end a).outcome old led_old in
      let n = outcome_ok whose t (start h) b (name_trace pair.new t h end b).outcome new led_new in
      failed_true _ _ fault Pair
      (λ bad e. either_true _ _ bad Pair
      (cover_true Old old bad pair.old.needs.perms o (λ place given over lacks. (old, o, over, lacks, refl)))
      (cover_true New new bad pair.new.needs.perms n (λ place given over lacks. (new, n, over, lacks, refl))) e)
      (λ e. each old new o n e) e) e) e) e) e

-- a pledge
asks_true : (Holds : Fault → Type 0) (of_exec : Bool) (request given : Option ℕ) (lets : Bool) (bad : Fault) →
    (lets ≡ false → is_within request given ≡ false → Holds (AsksPromises of_exec (beyond request given))) →
    unless lets (asks_beyond of_exec request given) ≡ Some bad → Holds bad
asks_true Holds of_exec request given true bad is e = cc
asks_true Holds of_exec request given false bad is e =
    when_true (not (is_within request given)) (AsksPromises of_exec (beyond request given)) bad Holds
    (λ v. is refl (not-true (is_within request given) v)) e

pledge_true : (table : CallTable) (t : Tree) (h : ProcessState) (p x : Given) (fault : Fault) →
    change_or_fault table t h (Pledge p x) ≡ Err fault → PledgeFaultHolds table.whose h p x fault
pledge_true table t h p x fault e =
    failed_true _ _ fault Holds
    (λ bad e. when_true (is_unknown p || is_unknown x) (UnknownPromise (not (is_unknown p))) bad Holds
    (λ v. unknown (is_unknown p) refl v) e)
    (λ e. failed_true _ _ fault Holds more (λ granted. cc) e) e
  where
    Holds : Fault → Type 0
    Holds = PledgeFaultHolds table.whose h p x

    unknown : (v : Bool) → is_unknown p ≡ v → v || is_unknown x ≡ true → Holds (UnknownPromise (not v))
    unknown true is e = is
    unknown false is e = e

    more : (bad : Fault) → pledge_beyond table.whose h (given_set p) (given_set x) ≡ Some bad → Holds bad
    more bad e =
        either_true _ _ bad Holds
        (asks_true Holds false (given_set p) (pledged_set h) (has_error h) bad (λ own lacks. (own, lacks, refl)))
        (asks_true Holds true (given_set x) (held_for_exec h) (error_frees_exec table.whose (has_error h)) bad
        (λ frees lacks. (frees, lacks, refl))) e

-- an unveil
module _ (whose : Rules) (t : Tree) (h : ProcessState) (path : List ℕ) where
  abbrev Veil : Option ℕ → Fault → Type 0
  Veil letters = UnveilFaultHolds whose t h path letters

  place_true : (place : Place) (o : Option ℕ) (perms : ℕ) (bad : Fault) → perms_kept h place ≡ o →
      place_beyond place o (length (veils h)) perms ≡ Some bad → Veil (Some perms) bad
  place_true place (Some given) perms bad is e = by (holds given perms) refl e
    where
      by : (v : Bool) → holds given perms ≡ v → (if v then None else Some (AsksLetters place given (lacking given perms))) ≡ Some bad →
          Veil (Some perms) bad
      by true v e = cc
      by false v e = let same : AsksLetters place given (lacking given perms) ≡ bad = cc in
          subst (Veil (Some perms)) same (perms, refl, is, v, refl)
  place_true place None perms bad is e = by (nat_le most_places (length (veils h))) refl e
    where
      by : (v : Bool) → nat_le most_places (length (veils h)) ≡ v → (if v then Some NoPlaceLeft else None) ≡ Some bad →
          Veil (Some perms) bad
      by true v e = let same : NoPlaceLeft ≡ bad = cc in subst (Veil (Some perms)) same v
      by false v e = cc

  beyond_true : (place : Place) (perms : ℕ) (bad : Fault) → unveil_beyond h place perms ≡ Some bad → Veil (Some perms) bad
  beyond_true place perms bad e = by (is_locked h) refl e
    where
      by : (v : Bool) → is_locked h ≡ v → (if v then Some IsLocked else place_beyond place (perms_kept h place) (length (veils h)) perms)
          ≡ Some bad → Veil (Some perms) bad
      by true v e = let same : IsLocked ≡ bad = cc in subst (Veil (Some perms)) same v
      by false v e = place_true place (perms_kept h place) perms bad refl e

  veil_true : (letters : Option ℕ) (fault : Fault) → veil_by faults whose t (faults_of h) path letters ≡ Err fault → Veil letters fault
  veil_true None fault e = subst (Veil None) (same_fault UnknownLetter fault e) refl
  veil_true (Some perms) fault e =
      named_true Sole path (outcome_in whose t (start h) path (trace_of_text t (start h) ending.Dot path Followed).outcome) _ fault
      (Veil (Some perms)) (λ bad o. o) (λ o. o)
      (λ object o e. failed_true _ _ fault (Veil (Some perms)) (λ bad e. beyond_true (place_of object) perms bad e) (λ granted. cc) e) e

unveil_true : (table : CallTable) (t : Tree) (h : ProcessState) (path : List ℕ) (letters : Option ℕ) (fault : Fault) →
    change_or_fault table t h (Unveil path letters) ≡ Err fault → UnveilFaultHolds table.whose t h path letters fault
unveil_true table t h path letters fault e =
    refused_true _ _ fault (UnveilFaultHolds table.whose t h path letters)
    (λ bad e. unpromised_true h (unveil ∷ []) bad (UnveilFaultHolds table.whose t h path letters) (λ ended. ended) (λ error lacks is. is) e)
    (λ e. failed_true _ _ fault (UnveilFaultHolds table.whose t h path letters)
    (λ bad e. when_true (is_locked h) IsLocked bad (UnveilFaultHolds table.whose t h path letters) (λ v. v) e) (λ e. veil_true table.whose t h path letters fault e)
    e) e

-- promises alone
promise_true : (h : ProcessState) (sets : List ℕ) (change : Change) (fault : Fault) →
    unless_refused (unpromised_fault (promising h sets)) (Ok change) ≡ Err fault → PromiseFaultHolds h sets fault
promise_true h sets change fault e =
    refused_true _ _ fault (PromiseFaultHolds h sets)
    (λ bad e. unpromised_true h sets bad (PromiseFaultHolds h sets) (λ ended. ended) (λ error lacks is. is) e) (λ granted. cc) e

-- a descriptor of one's own
close_true : (h : ProcessState) (number : ℕ) (fault : Fault) → close_by faults (faults_of h) number ≡ Err fault → FileFaultHolds h number fault
close_true h number fault = by (file_at h.files number) refl
  where
    by : (o : Option OpenFile) → file_at h.files number ≡ o →
        on_named (λ (f : Fault). f) (ok_or o (WrongFile (NotOpen number))) (λ file. Ok (AddEvent (Filed number None))) ≡ Err fault → FileFaultHolds h number fault
    by None is e = subst (FileFaultHolds h number) (same_fault (WrongFile (NotOpen number)) fault e) (refl, is)
    by (Some file) is e = cc

fchdir_true : (h : ProcessState) (number : ℕ) (fault : Fault) → fchdir_by faults (faults_of h) number ≡ Err fault → DirFaultHolds h number fault
fchdir_true h number fault = by (file_at h.files number) refl
  where
    directory : (file : OpenFile) → file_at h.files number ≡ Some file → (b : Bool) → is_directory file ≡ b →
        unless_failed (λ (f : Fault). f) (fault_if (not b) (WrongFile (OpenNoDirectory number))) (Ok (AddEvent (Moved (ToDir file.node)))) ≡ Err fault →
        DirFaultHolds h number fault
    directory file is true dir e = cc
    directory file is false dir e = subst (DirFaultHolds h number) (same_fault (WrongFile (OpenNoDirectory number)) fault e) (refl, file, is, dir)

    by : (o : Option OpenFile) → file_at h.files number ≡ o →
        on_named (λ (f : Fault). f) (ok_or o (WrongFile (NotOpen number))) (λ file. unless_failed (λ (f : Fault). f)
        (fault_if (not (is_directory file)) (WrongFile (OpenNoDirectory number))) (Ok (AddEvent (Moved (ToDir file.node))))) ≡ Err fault → DirFaultHolds h number fault
    by None is e = subst (DirFaultHolds h number) (same_fault (WrongFile (NotOpen number)) fault e) (refl, is)
    by (Some file) is e = directory file is (is_directory file) refl e

pub check_faults_hold : CheckFaultsHold
check_faults_hold table t h (OnPath c path) fault e = call_faults_hold t table h c path fault e
check_faults_hold table t h (Symlink target path) fault e = symlink_true table t h target path fault e
check_faults_hold table t h (Rename old new) fault e =
    pair_true table.whose table.rename t h ending.Dropped old new _ fault (λ a b o n e. rename_true table.whose table.rename t h ending.Dropped old new
    (asks_directory table.whose old new) a b (node_named a) fault refl o n e) e
check_faults_hold table t h (Link old new) fault e =
    pair_true table.whose table.link t h ending.Dot old new _ fault (λ a b o n e. link_true table.whose table.link t h ending.Dot old new a b (node_named a) fault
    refl o n e) e
check_faults_hold table t h (Pledge p x) fault e = pledge_true table t h p x fault e
check_faults_hold table t h (Unveil path letters) fault e = unveil_true table t h path letters fault e
check_faults_hold table t h Lock fault e = promise_true h (unveil ∷ []) _ fault e
check_faults_hold table t h (Fork new) fault e = promise_true h (proc ∷ []) _ fault e
check_faults_hold table t h Exit fault e = cc
check_faults_hold table t h (Uses sets) fault e = promise_true h sets _ fault e
check_faults_hold table t h (Hold number c path) fault e =
    call_faults_hold t table h c path fault (refused_too _ _ fault (sym (holds_are_refused table t h number c path)) e)
check_faults_hold table t h (Close number) fault e = close_true h number fault e
check_faults_hold table t h (Fchdir number) fault e = fchdir_true h number fault e
check_faults_hold table t h (Chroot path) fault e = faults_hold_by (id ∷ []) t table h call.Chdir path rooting fault e
check_faults_hold table t h (Take number from theirs) fault e = promise_true h (recvfd ∷ []) _ fault e
check_faults_hold table t h Comment fault e = cc

-- the room of a change
edited_true : (w : World) (h : ProcessState) (fault : Fault) (r : Result (ℕ × Tree) TreeFault) → no_room (edit_effect h r) ≡ Some fault →
    (fault ≡ NoRoom) × (edit_effect h r ≡ Fails ENOSPC)
edited_true w h fault (Ok x) e = cc
edited_true w h fault (Err bad) e = (cc, refl)

edited_tree_true : (w : World) (h : ProcessState) (fault : Fault) (r : Result Tree TreeFault) → no_room (edited_tree h r) ≡ Some fault →
    (fault ≡ NoRoom) × (edited_tree h r ≡ Fails ENOSPC)
edited_tree_true w h fault (Ok x) e = cc
edited_tree_true w h fault (Err bad) e = (cc, refl)

-- what isn't sent
sent_true : (w : World) (h : ProcessState) (from theirs : ℕ) (fault : Fault) → take_fault w h from theirs ≡ Some fault →
    SentFaultHolds w h from theirs fault
sent_true w h from theirs fault = by (kept_at w from) refl
  where
    Holds : Fault → Type 0
    Holds = SentFaultHolds w h from theirs

    pledged : Bool
    pledged = is_pledged h

    none : (o : Option ProcessState) → kept_at w from ≡ o → ((sender : ProcessState) → o ≡ Some sender → is_ended sender ≡ false →
        (file : OpenFile) → file_at sender.files theirs ≡ Some file → ⊥) → Holds (WrongFile (NotSent from theirs))
    none o is never = (refl, refl, λ has. never has.sender (sym is ∙ has.made) has.lives has.file has.held)

    judged : (sender : ProcessState) (file : OpenFile) → kept_at w from ≡ Some sender → is_ended sender ≡ false →
        file_at sender.files theirs ≡ Some file → (a : Bool) → holds (held_set sender) sendfd ≡ a → (d : Bool) → is_directory file ≡ d →
        (p : Bool) → (pledged || is_pledged sender) ≡ p →
        sent_fault from theirs (if not a then Err EPERM else (if d && p then Err EINVAL else Ok file)) ≡ Some fault → Holds fault
    judged sender file made lives held false lacks d dir p pl e = subst Holds (same_some (WrongFile (MayNotSend from)) fault e)
        (refl, record { sender = sender; made = made; lives = lives; file = file; held = held; so = lacks })
    judged sender file made lives held true lacks true dir true pl e = subst Holds (same_some (WrongFile (SendsDirectory from theirs)) fault e)
        (refl, refl, record { sender = sender; made = made; lives = lives; file = file; held = held; so = (dir, pl) })
    judged sender file made lives held true lacks true dir false pl e = cc
    judged sender file made lives held true lacks false dir p pl e = cc

    living : (sender : ProcessState) → kept_at w from ≡ Some sender → (b : Bool) → is_ended sender ≡ b → (o : Option OpenFile) →
        file_at sender.files theirs ≡ o → sent_fault from theirs (if b then Err EBADF else sent_of pledged sender o) ≡ Some fault → Holds fault
    living sender made true ends o held e = subst Holds (same_some (WrongFile (NotSent from theirs)) fault e)
        (none (Some sender) made (λ other same lives file has. let is : sender ≡ other = cc in
        absurd (true≢false (sym ends ∙ ap (λ (p : ProcessState). is_ended p) is ∙ lives))))
    living sender made false lives None held e = subst Holds (same_some (WrongFile (NotSent from theirs)) fault e)
        (none (Some sender) made (λ other same alive file has. let is : sender ≡ other = cc in
        let never : ◌≡◌ {A = Option OpenFile} None (Some file) = sym held ∙ ap (λ (p : ProcessState). file_at p.files theirs) is ∙ has in cc))
    living sender made false lives (Some file) held e =
        judged sender file made lives held (holds (held_set sender) sendfd) refl (is_directory file) refl (pledged || is_pledged sender) refl e

    by : (o : Option ProcessState) → kept_at w from ≡ o → sent_fault from theirs (sent_by pledged o theirs) ≡ Some fault → Holds fault
    by None made e = subst Holds (same_some (WrongFile (NotSent from theirs)) fault e) (none None made (λ sender same lives file has. cc))
    by (Some sender) made e = living sender made (is_ended sender) refl (file_at sender.files theirs) refl e

room_true : (w : World) (h : ProcessState) (change : Change) (fault : Fault) → room_fault w h change ≡ Some fault →
    RoomFaultHolds w h change fault
room_true w h NoChange fault e = cc
room_true w h (AddNode spot node) fault e = let f = edited_true w h fault (add w.tree spot.0 spot.1 node) e in
    subst (RoomFaultHolds w h (AddNode spot node)) (sym f.0) f.1
room_true w h (CutRow spot) fault e = let f = edited_true w h fault (cut w.tree spot.0 spot.1) e in
    subst (RoomFaultHolds w h (CutRow spot)) (sym f.0) f.1
room_true w h (ShiftRow old new) fault e = let f = edited_tree_true w h fault (shift w.tree old.0 old.1 new.0 new.1) e in
    subst (RoomFaultHolds w h (ShiftRow old new)) (sym f.0) f.1
room_true w h (TieRow spot x) fault e = let f = edited_tree_true w h fault (tie w.tree spot.0 spot.1 x) e in
    subst (RoomFaultHolds w h (TieRow spot x)) (sym f.0) f.1
room_true w h (BeginProgram left) fault e = cc
room_true w h (AddEvent event) fault e = cc
room_true w h (CopyAs new) fault e =
    either_true _ _ fault (RoomFaultHolds w h (CopyAs new))
    (when_true (is_some (kept_at w new)) (NumberTaken new) fault (RoomFaultHolds w h (CopyAs new)) (λ v. (refl, v)))
    (when_true (nat_le most_processes (length w.processes)) NoProcessLeft fault (RoomFaultHolds w h (CopyAs new)) (λ v. v)) e
room_true w h (TakeFile number from theirs) fault e = sent_true w h from theirs fault e

pub request_faults_hold : RequestFaultsHold
request_faults_hold table w h action fault e = by (change_or_fault table w.tree h action) refl e
  where
    by : (d : Outcome Fault) → change_or_fault table w.tree h action ≡ d → outcome_fault w h d ≡ Some fault →
        RequestFaultHolds table w h action fault
    by (Ok change) is e = inr (record { change = change; granted = is; holds = room_true w h change fault e })
    by (Err bad) is e = let same : bad ≡ fault = cc in
        inl (check_faults_hold table w.tree h action fault (is ∙ ap (λ (x : Fault). Err x) same))

-- no check is told to lack room
never_full : (table : CallTable) (t : Tree) (h : ProcessState) (action : Action) → CheckFaultHolds table t h action NoRoom → ⊥
never_full table t h (OnPath c path) is = is
never_full table t h (Symlink target path) is = is
never_full table t h (Rename old new) is = is
never_full table t h (Link old new) is = is
never_full table t h (Pledge p x) is = is
never_full table t h (Unveil path letters) is = is
never_full table t h Lock is = is
never_full table t h (Fork new) is = is
never_full table t h Exit is = is
never_full table t h (Uses sets) is = is
never_full table t h (Hold number c path) is = is
never_full table t h (Close number) is = is
never_full table t h (Fchdir number) is = is
never_full table t h (Chroot path) is = is
never_full table t h (Take number from theirs) is = is
never_full table t h Comment is = is

full_made : (w : World) (h : ProcessState) (change : Change) → RoomFaultHolds w h change NoRoom → change_effect w h change ≡ Fails ENOSPC
full_made w h NoChange is = is
full_made w h (AddNode spot node) is = is
full_made w h (CutRow spot) is = is
full_made w h (ShiftRow old new) is = is
full_made w h (TieRow spot x) is = is
full_made w h (BeginProgram left) is = is
full_made w h (AddEvent event) is = is
full_made w h (CopyAs new) is = absurd is
full_made w h (TakeFile number from theirs) is = absurd is

pub full_trees_are_full : FullTreesAreFull
full_trees_are_full table w h action formed e =
    (requests_lack table w h action formed).exact.0 (by (change_or_fault table w.tree h action) refl e)
  where
    by : (d : Outcome Fault) → change_or_fault table w.tree h action ≡ d → outcome_fault w h d ≡ Some NoRoom →
        effect table w h action ≡ Fails ENOSPC
    by (Ok change) is e =
        ap (come_of w h) (sym (reasons_give_decisions table w.tree h action) ∙ ap decision_of is) ∙
        full_made w h change (room_true w h change NoRoom e)
    by (Err bad) is e =
        let same : bad ≡ NoRoom = cc in
        absurd (never_full table w.tree h action (check_faults_hold table w.tree h action NoRoom (is ∙ ap (λ (x : Fault). Err x) same)))
