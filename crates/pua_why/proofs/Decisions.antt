-- A decision, a verdict and an answer are functions of what is reasoned.
use Rattle.pua_why.proofs.Common.{◌≡◌, ℕ, Bool, true, false, List, [], ◌∷◌, length, Some, None, refl, ap, ◌∙◌, Result, Ok, Err, Option}
use Rattle.pua_why.proofs.Common.{if◌then◌else◌, ◌||◌, not, is_some, nat_le, option_map, Tree, Spot, add, cut, tie, shift, TreeFault}
use Rattle.pua_why.proofs.Common.{spot_named, node_named, Ending, Followed, Found, Whole, Slot, text_fault, trace_of_text, PathTextFault}
use Rattle.pua_why.proofs.Common.{PathFault, holds, unveil, CallTable, PairRule, rule_of, ProcessState, is_ended, is_locked, perms_kept}
use Rattle.pua_why.proofs.Common.{start, object_of, or_fault, Place, Call, most_processes, Change, NoChange, AddNode, CutRow}
use Rattle.pua_why.proofs.Common.{ShiftRow, TieRow, BeginProgram, AddEvent, CopyAs, TakeFile, Outcome, Side, Sole, Old, New, unless_refused}
use Rattle.pua_why.proofs.Common.{unless_failed, on_named, adding, link_node, change_by, shifting, fault_if, pair_by, World, kept_at}
use Rattle.pua_why.proofs.Common.{change_effect, come_of, edit_effect, edited_tree, OnPath, Symlink, Rename, Link, Pledge, Unveil, Lock}
use Rattle.pua_why.proofs.Common.{Fork, Exit, Uses, Hold, Close, Fchdir, Chroot, Take, Comment, Answer, lacking, misfit, InView, By, Promising}
use Rattle.pua_why.proofs.Common.{Holds, HasEnded, Lacks, promising, covering}
use Rattle.pua_why.proofs.Common.{Fault, LacksLetters, Unfit, IsLocked, NumberTaken, NoProcessLeft, unpromised_fault, told_path}
use Rattle.pua_why.proofs.Common.{uncovered_fault, place_beyond, faults, faults_of, change_or_fault, no_room, room_fault, outcome_fault}
use Rattle.pua_why.proofs.Common.{decision_of}
use Rattle.std.specs.Prelude.{◌&&◌, ok_or}
use Rattle.pua_tree.specs.Tree.{is_empty}
use Rattle.pua_tree.specs.Edits.{is_inside, is_same_node}
use Rattle.pua_path.specs.Paths.{is_absolute, path_fault}
use Rattle.pua_path.specs.Resolution.{resolution_of_text}
use Rattle.pua_path.specs.declared.errno.Errno.{Errno}
use Rattle.pua_path.specs.declared.errno.Errno.TheVariants.{EBADF, EPERM, EACCES, EAGAIN, EINVAL, ENOENT}
use Rattle.pua_path.specs.declared.text.Ending.TheVariants as ending
use Rattle.pua_path.specs.declared.found.Way.TheVariants as way
use Rattle.pua_path.specs.Traces.{text_errno, object_or_errno}
use Rattle.pua_path.proofs.ForCallers.{text_traces_answer}
use Rattle.pua_calls.specs.Promises.{id, proc, recvfd, sendfd}
use Rattle.pua_policy.specs.declared.open_file.OpenFile.{OpenFile}
use Rattle.pua_policy.specs.States.{Filed, Moved, ToDir, file_at, held_set, is_directory, is_pledged}
use Rattle.pua_script.specs.Decide.{close_by, fchdir_by, holding, rooting}
use Rattle.pua_script.specs.Replay.{sent_by, sent_of, take_effect}
use Rattle.pua_why.specs.Reasons.{WrongFile, NotOpen, sent_fault}
use Rattle.pua_calls.specs.Calls.{last_of, ending_of}
use Rattle.pua_policy.specs.States.{error_frees_exec, pledged_set, held_for_exec, has_error, is_within, veils}
use Rattle.pua_calls.specs.declared.rules.Rules.{Rules}
use Rattle.pua_policy.specs.States.{place_fault, most_places, unveil_fault, pledge_fault, may_any}
use Rattle.pua_policy.specs.Verdict.{place_of, object_fault, object_named, cover, cover_fault, found_fault}
use Rattle.pua_policy.specs.Verdict.{allowed_unless, if_promised, refusal_of, refusal_verdict, verdict_of}
use Rattle.pua_calls.specs.declared.call.Call.TheVariants as call
use Rattle.pua_policy.specs.declared.answer.May.{May}
use Rattle.pua_policy.specs.declared.answer.May.TheVariants as may
use Rattle.pua_policy.specs.declared.answer.UnveilFault.TheVariants.{NotPermitted, TooManyPlaces}
use Rattle.pua_policy.specs.declared.answer.Refusal.{Refusal}
use Rattle.pua_policy.specs.declared.answer.Refusal.TheVariants as refusal
use Rattle.pua_policy.specs.declared.answer.Verdict.{Verdict}
use Rattle.pua_policy.specs.declared.answer.Verdict.TheVariants as verdict
use Rattle.pua_script.specs.Decide.{Decision, asker_past, call_by, cover_past, decide_by, past_promises}
use Rattle.pua_script.specs.Openings.{Opening, opening_of}
use Rattle.pua_script.specs.Decide.{before_long, errno_behind, errno_by, front_errno, named_in, path_named}
use Rattle.pua_calls.specs.declared.rules.Rules.TheVariants.{Standard, Openbsd}
use Rattle.pua_path.specs.declared.found.Last.{Last}
use Rattle.pua_path.specs.declared.found.Start.{Start}
use Rattle.pua_path.specs.Traces.{path_errno}
use Rattle.pua_path.specs.declared.traced.PathFault.TheVariants.{InText, NoStart, Stops}
use Rattle.pua_why.specs.Reasons.{bad_path, fault_behind, fault_by, front_fault, no_start, outcome_in}
use Rattle.pua_script.specs.Decide.{tying, dots_by, top_by, ways_by, fits_by, kinds_by, is_elsewhere, inside_by, is_whole, given_set, is_unknown}
use Rattle.pua_script.specs.Decide.{asks_directory, object_by, rename_by, link_by, veil_by, unveil_errno, refusals, asker_of, decide}
use Rattle.pua_policy.specs.Misfits.{misfit_errno}
use Rattle.pua_calls.specs.declared.fits.Misfit.{Misfit}
use Rattle.pua_calls.specs.declared.fits.Misfit.TheVariants.{IsElsewhere}
use Rattle.pua_calls.specs.declared.fits.Misfit.TheVariants.{IsDirectory, IsNoFile, IsNoDirectory, IsNotEmpty, Exists}
use Rattle.pua_script.specs.Replay as replay
use Rattle.pua_script.specs.Replay.{answer_to, left_by}
use Rattle.pua_script.specs.Replay.{answer_and_world}
use Rattle.pua_script.specs.declared.answer.Answer.TheVariants.{Gone}
use Rattle.pua_policy.specs.declared.reason.Covering.{Covering}
use Rattle.pua_policy.specs.declared.reason.Covering.TheVariants.{NoneOver}
use Rattle.pua_policy.specs.Reasons.{may_of, cover_of}
use Rattle.pua_why.specs.Reasons as reasons
use Rattle.pua_why.specs.Reasons.{BadTarget, Inside, UnknownPromise, AsksPromises, AsksLetters}
use Rattle.pua_why.specs.Reasons.{NoPlaceLeft, fault_refusal}
use Rattle.pua_why.specs.Reasons.{beyond, pledge_beyond, unveil_beyond}
use Rattle.pua_why.specs.Reasons.{reason_of, reason_by, refusal_answer, answer_of}
use Rattle.pua_why.specs.Laws.{ReasonsGiveDecisions, verdict_by, ReasonsGiveVerdicts, ReasonsGiveAnswers}
use Rattle.pua_policy.proofs.ForCallers.{promisings_answer, coverings_cover}

-- a fault and an errno, as what becomes of the request
abbrev pub Told : Option Fault → Option Refusal
Told fault = option_map fault_refusal fault

abbrev pub Failing : Option Errno → Option Refusal
Failing errno = option_map (λ errno. refusal.Failed errno) errno

-- one more check
refused_as : (o : Option Fault) (d : Outcome Fault) → decision_of (unless_refused o d) ≡ unless_refused (Told o) (decision_of d)
refused_as None d = refl
refused_as (Some fault) d = refl

failed_as : (o : Option Fault) (d : Outcome Fault) →
    decision_of (unless_failed (λ fault. fault) o d) ≡ unless_refused (Told o) (decision_of d)
failed_as None d = refl
failed_as (Some fault) d = refl

checked_as : (o : Option Errno) (d : Decision) → unless_refused (Failing o) d ≡ unless_failed (λ errno. refusal.Failed errno) o d
checked_as None d = refl
checked_as (Some errno) d = refl

refused_told : (o : Option Fault) (p : Option Refusal) (d : Outcome Fault) (e : Decision) → Told o ≡ p → decision_of d ≡ e →
    decision_of (unless_refused o d) ≡ unless_refused p e
refused_told o p d e same next = refused_as o d ∙ (λ i. unless_refused (same i) (next i))

failed_told : (o : Option Fault) (p : Option Errno) (d : Outcome Fault) (e : Decision) → Told o ≡ Failing p → decision_of d ≡ e →
    decision_of (unless_failed (λ fault. fault) o d) ≡ unless_failed (λ errno. refusal.Failed errno) p e
failed_told o p d e same next = failed_as o d ∙ (λ i. unless_refused (same i) (next i)) ∙ checked_as p e

-- on what a path named
bad_told : (side : Side) (text : List ℕ) (fault : PathFault) → fault_refusal (bad_path side text fault) ≡ refusal.Failed (path_errno fault)
bad_told side text (InText fault) = refl
bad_told side text (Stops stop) = refl
bad_told side text NoStart = by (is_absolute text)
  where
    by : (v : Bool) → fault_refusal (no_start side v) ≡ refusal.Failed ENOENT
    by true = refl
    by false = refl

named_as : (side : Side) (text : List ℕ) (outcome : Result Found PathFault) (f : Found → Outcome Fault) (g : Found → Decision) →
    ((x : Found) → decision_of (f x) ≡ g x) →
    decision_of (on_named (λ fault. fault) (told_path side text outcome) f)
    ≡ on_named (λ errno. refusal.Failed errno) (object_or_errno outcome) g
named_as side text (Ok x) f g each = each x
named_as side text (Err fault) f g each = ap refusing (bad_told side text fault)
  where
    refusing : Refusal → Decision
    refusing refused = Err refused

named_told : (side : Side) (text : List ℕ) (outcome : Result Found PathFault) (r : Result Found Errno) (f : Found → Outcome Fault)
    (g : Found → Decision) → object_or_errno outcome ≡ r →
    ((x : Found) → decision_of (f x) ≡ g x) →
    decision_of (on_named (λ fault. fault) (told_path side text outcome) f) ≡ on_named (λ errno. refusal.Failed errno) r g
named_told side text outcome r f g is each = named_as side text outcome f g each ∙ ap (λ r. on_named (λ errno. refusal.Failed errno) r g) is

-- the first of two faults
or_as : (a b : Option Fault) → Told (or_fault a b) ≡ or_fault (Told a) (Told b)
or_as None b = refl
or_as (Some fault) b = refl

or_fails : (a b : Option Errno) → or_fault (Failing a) (Failing b) ≡ Failing (or_fault a b)
or_fails None b = refl
or_fails (Some errno) b = refl

or_told : (a b : Option Fault) (c d : Option Errno) → Told a ≡ Failing c → Told b ≡ Failing d → Told (or_fault a b) ≡ Failing (or_fault c d)
or_told a b c d first second = or_as a b ∙ (λ i. or_fault (first i) (second i)) ∙ or_fails c d

when_told : (v : Bool) (fault : Fault) (errno : Errno) → fault_refusal fault ≡ refusal.Failed errno →
    Told (fault_if v fault) ≡ Failing (fault_if v errno)
when_told true fault errno e = ap (λ (r : Refusal). Some r) e
when_told false fault errno e = refl

-- promises, targets, covers and objects
unpromised_told : (p : Promising) → Told (unpromised_fault p) ≡ refusal_of (may_of p)
unpromised_told (Holds set) = refl
unpromised_told HasEnded = refl
unpromised_told (Lacks true sets) = refl
unpromised_told (Lacks false sets) = refl

promises_told : (h : ProcessState) (sets : List ℕ) → Told (unpromised_fault (promising h sets)) ≡ refusal_of (may_any h sets)
promises_told h sets = unpromised_told (promising h sets) ∙ ap refusal_of (promisings_answer h sets)

target_told : (target : List ℕ) → Told (option_map BadTarget (text_fault target)) ≡ Failing (path_fault target)
target_told target = by (text_fault target)
  where
    by : (fault : Option PathTextFault) → Told (option_map BadTarget fault) ≡ Failing (option_map text_errno fault)
    by None = refl
    by (Some fault) = refl

uncovered_told : (side : Side) (object : Found) (perms : ℕ) (over : Covering) →
    Told (uncovered_fault side object perms over) ≡ Failing (cover_fault (cover_of over) perms)
uncovered_told side object perms InView = refl
uncovered_told side object perms NoneOver = refl
uncovered_told side object perms (By place given) = by (holds given perms)
  where
    by : (v : Bool) → Told (if v then None else Some (LacksLetters side place given (lacking given perms)))
        ≡ Failing (if v then None else Some EACCES)
    by true = refl
    by false = refl

wrong_told : (object : Found) (wrong : Option Misfit) →
    Told (option_map (Unfit Sole object) wrong) ≡ Failing (option_map misfit_errno wrong)
wrong_told object None = refl
wrong_told object (Some wrong) = refl

module _ (t : Tree) (h : ProcessState) where
  cover_told : (side : Side) (object : Found) (perms : ℕ) →
      Told (uncovered_fault side object perms (covering t h object)) ≡ Failing (cover_fault (cover t h object) perms)
  cover_told side object perms = uncovered_told side object perms (covering t h object) ∙
      ap (λ c. Failing (cover_fault c perms)) (coverings_cover t h object)

  object_told : (table : CallTable) (c : Call) (object : Found) →
      Told (option_map (Unfit Sole object) (misfit table.whose t c (object_of t object))) ≡ Failing (object_fault table.whose t c (object_of t object))
  object_told table c object = wrong_told object (misfit table.whose t c (object_of t object))

  -- what a path names by a table's rules, or why it names nothing
  front_told : (fault : PathFault) (o : Result Found PathFault) (r : Result Found Errno) → object_or_errno o ≡ r →
      path_errno (front_fault fault o) ≡ front_errno (path_errno fault) r
  front_told fault (Ok x) r is = ap (front_errno (path_errno fault)) is
  front_told fault (Err front) r is = ap (front_errno (path_errno fault)) is

  behind_told : (from : Start) (fault : PathFault) (front : Option (List ℕ)) →
      path_errno (fault_behind t from fault front) ≡ errno_behind t from (path_errno fault) front
  behind_told from fault None = refl
  behind_told from fault (Some front) =
      front_told fault (trace_of_text t from ending.Dot front Followed).outcome (resolution_of_text t from ending.Dot front Followed)
      (text_traces_answer t from ending.Dot front Followed)

  fault_told : (whose : Rules) (from : Start) (text : List ℕ) (fault : PathFault) →
      path_errno (fault_by whose t from text fault) ≡ errno_by whose t from text (path_errno fault)
  fault_told Standard from text fault = refl
  fault_told Openbsd from text fault = behind_told from fault (before_long text)

  named_in_told : (whose : Rules) (from : Start) (text : List ℕ) (o : Result Found PathFault) →
      object_or_errno (outcome_in whose t from text o) ≡ named_in whose t from text (object_or_errno o)
  named_in_told whose from text (Ok x) = refl
  named_in_told whose from text (Err fault) = ap failing (fault_told whose from text fault)
    where
      failing : Errno → Result Found Errno
      failing errno = Err errno

  path_told : (whose : Rules) (end : Ending) (text : List ℕ) (mode : Last) →
      object_or_errno (outcome_in whose t (start h) text (trace_of_text t (start h) end text mode).outcome)
      ≡ path_named whose t (start h) end text mode
  path_told whose end text mode =
      named_in_told whose (start h) text (trace_of_text t (start h) end text mode).outcome
      ∙ ap (named_in whose t (start h) text) (text_traces_answer t (start h) end text mode)

  -- a call of the table, whose promises are held
  call_told : (table : CallTable) (c : Call) (path : List ℕ) (f : Found → Change) →
      decision_of (object_by faults table t (faults_of h) c path (λ x. Ok (f x)))
      ≡ object_by refusals table t (asker_of h) c path (λ x. Ok (f x))
  call_told table c path f =
      named_told Sole path (outcome_in table.whose t (start h) path (trace_of_text t (start h) (ending_of c) path (last_of c)).outcome)
      (path_named table.whose t (start h) (ending_of c) path (last_of c)) _ _
      (path_told table.whose (ending_of c) path (last_of c)) λ x.
      failed_told _ (found_fault t table h c x) (Ok (f x)) (Ok (f x)) (or_told _ _ _ _ (cover_told Sole x (rule_of table c).perms)
      (object_told table c x)) refl

  -- a call that a promise opens
  cover_past_told : (asks_veils : Bool) (x : Found) (perms : ℕ) →
      Told (cover_past asks_veils (faults_of h).cover Sole t x perms) ≡ Failing (cover_past asks_veils (asker_of h).cover Sole t x perms)
  cover_past_told true x perms = cover_told Sole x perms
  cover_past_told false x perms = refl

  past_told : (table : CallTable) (c : Call) (path : List ℕ) (f : Found → Change) (asks_veils : Bool) →
      decision_of (object_by faults table t (past_promises asks_veils (faults_of h)) c path (λ x. Ok (f x)))
      ≡ object_by refusals table t (past_promises asks_veils (asker_of h)) c path (λ x. Ok (f x))
  past_told table c path f asks_veils =
      named_told Sole path (outcome_in table.whose t (start h) path (trace_of_text t (start h) (ending_of c) path (last_of c)).outcome)
      (path_named table.whose t (start h) (ending_of c) path (last_of c)) _ _
      (path_told table.whose (ending_of c) path (last_of c)) λ x.
      failed_told _ (or_fault (cover_past asks_veils (asker_of h).cover Sole t x (rule_of table c).perms)
      (object_fault table.whose t c (object_of t x)))
      (Ok (f x)) (Ok (f x)) (or_told _ _ _ _ (cover_past_told asks_veils x (rule_of table c).perms) (object_told table c x)) refl

  -- two paths
  pair_told : (whose : Rules) (rules : PairRule) (end : Ending) (old new : List ℕ) (f : Found → Found → Outcome Fault) (g : Found → Found → Decision) →
      ((a b : Found) → decision_of (f a b) ≡ g a b) →
      decision_of (pair_by faults whose rules t (faults_of h) end old new f) ≡ pair_by refusals whose rules t (asker_of h) end old new g
  pair_told whose rules end old new f g each =
      refused_told _ _ _ _ (promises_told h rules.old.needs.alternatives)
      (refused_told _ _ _ _ (promises_told h rules.new.needs.alternatives)
      (named_told Old old (outcome_in whose t (start h) old (trace_of_text t (start h) end old rules.old.last).outcome)
      (path_named whose t (start h) end old rules.old.last) _ _ (path_told whose end old rules.old.last)
      λ a.
      named_told New new (outcome_in whose t (start h) new (trace_of_text t (start h) end new rules.new.last).outcome)
      (path_named whose t (start h) end new rules.new.last) _ _ (path_told whose end new rules.new.last)
      λ b.
      failed_told _ _ (f a b) (g a b) (or_told _ _ _ _ (cover_told Old a rules.old.needs.perms) (cover_told New b rules.new.needs.perms))
      (each a b)))

dots_told : (side : Side) (object x : Found) →
    Told (dots_by (λ wrong. Unfit side object wrong) x) ≡ Failing (dots_by (λ wrong. misfit_errno wrong) x)
dots_told side object (Whole dir way.Dot) = refl
dots_told side object (Whole dir way.DotDot) = refl
dots_told side object (Whole dir way.Top) = refl
dots_told side object (Whole dir (way.Named parent name)) = refl
dots_told side object (Slot dir name x) = refl

top_told : (side : Side) (object x : Found) →
    Told (top_by (λ wrong. Unfit side object wrong) x) ≡ Failing (top_by (λ wrong. misfit_errno wrong) x)
top_told side object (Whole dir way.Dot) = refl
top_told side object (Whole dir way.DotDot) = refl
top_told side object (Whole dir way.Top) = refl
top_told side object (Whole dir (way.Named parent name)) = refl
top_told side object (Slot dir name x) = refl

ways_told : (a b : Found) →
    Told (ways_by (λ side object wrong. Unfit side object wrong) a b) ≡ Failing (ways_by (λ side object wrong. misfit_errno wrong) a b)
ways_told a b = or_told _ _ _ _ (dots_told Old a a)
    (or_told _ _ _ _ (dots_told New b b) (or_told _ _ _ _ (top_told Old a a) (top_told New b b)))

fits_told : (t : Tree) (side : Side) (object old new : Found) →
    Told (fits_by (λ wrong. Unfit side object wrong) t old new) ≡ Failing (fits_by (λ wrong. misfit_errno wrong) t old new)
fits_told t side object old (Whole y by) =
    or_told _ _ _ _ (when_told (not (is_whole old)) (Unfit side object IsDirectory) (misfit_errno IsDirectory) refl)
    (when_told (not (is_empty t y)) (Unfit side object IsNotEmpty) (misfit_errno IsNotEmpty) refl)
fits_told t side object old (Slot dir name None) = refl
fits_told t side object old (Slot dir name (Some y)) =
    when_told (is_whole old) (Unfit side object IsNoDirectory) (misfit_errno IsNoDirectory) refl

away_told : (t : Tree) (a b : Found) → Told (fault_if (is_elsewhere t a b) (Unfit New b IsElsewhere)) ≡ Failing (fault_if (is_elsewhere t a b) (misfit_errno IsElsewhere))
away_told t a b = when_told (is_elsewhere t a b) (Unfit New b IsElsewhere) (misfit_errno IsElsewhere) refl

kinds_told : (t : Tree) (old new : Found) →
    Told (kinds_by (λ wrong. Unfit New new wrong) t old new) ≡ Failing (kinds_by (λ wrong. misfit_errno wrong) t old new)
kinds_told t old new = or_told _ _ _ _ (away_told t old new) (fits_told t New new old new)

inside_told : (t : Tree) (x : ℕ) (a b : Found) (spot : Option Spot) →
    Told (inside_by (Inside a b) t x spot) ≡ Failing (inside_by EINVAL t x spot)
inside_told t x a b None = refl
inside_told t x a b (Some spot) = when_told (is_inside t x spot.0) (Inside a b) EINVAL refl

rename_told : (t : Tree) (asks : Bool) (a b : Found) (node : Option ℕ) →
    decision_of (rename_by faults t asks a b node) ≡ rename_by refusals t asks a b node
rename_told t asks a b None = refl
rename_told t asks a b (Some x) = failed_told _ _ _ _ (ways_told a b)
    (failed_told _ _ _ _ (when_told (asks && not (is_whole a)) (Unfit Old a IsNoDirectory) (misfit_errno IsNoDirectory) refl)
    (by (is_same_node x (node_named b))))
  where
    moves : Decision
    moves = Ok (shifting (spot_named a) (spot_named b))

    by : (v : Bool) →
        decision_of (if v then Ok NoChange else unless_failed (λ fault. fault) (or_fault (inside_by (Inside a b) t x (spot_named b))
        (kinds_by (λ wrong. Unfit New b wrong) t a b)) (Ok (shifting (spot_named a) (spot_named b))))
        ≡ (if v then Ok NoChange else unless_failed (λ errno. refusal.Failed errno)
        (or_fault (inside_by EINVAL t x (spot_named b)) (kinds_by (λ wrong. misfit_errno wrong) t a b)) moves)
    by true = refl
    by false = failed_told _ _ _ moves (or_told _ _ _ _ (inside_told t x a b (spot_named b)) (kinds_told t a b)) refl

link_told : (t : Tree) (a b : Found) (node : Option ℕ) → decision_of (link_by faults t a b node) ≡ link_by refusals t a b node
link_told t a b None = refl
link_told t a b (Some x) = failed_told _ _ _ (Ok (tying x (spot_named b)))
    (or_told _ _ _ _ (when_told (is_whole a) (Unfit Old a IsNoFile) (misfit_errno IsNoFile) refl)
    (or_told _ _ _ _ (when_told (is_some (node_named b)) (Unfit New b Exists) (misfit_errno Exists) refl) (away_told t a b))) refl

-- a pledge
pledge_told : (whose : Rules) (h : ProcessState) (p x : Option ℕ) →
    Told (pledge_beyond whose h p x) ≡ Failing (pledge_fault whose h p x)
pledge_told whose h p x =
    by (has_error h) (error_frees_exec whose (has_error h)) (is_within p (pledged_set h)) (is_within x (held_for_exec h))
  where
    by : (w f u v : Bool) →
        Told (or_fault (if w then None else fault_if (not u) (AsksPromises false (beyond p (pledged_set h))))
        (if f then None else fault_if (not v) (AsksPromises true (beyond x (held_for_exec h)))))
        ≡ Failing (if (w || u) && (f || v) then None else Some EPERM)
    by true true u v = refl
    by true false u true = refl
    by true false u false = refl
    by false f false v = refl
    by false true true v = refl
    by false false true true = refl
    by false false true false = refl

-- an unveil
place_told : (place : Place) (o : Option ℕ) (places perms : ℕ) →
    Told (place_beyond place o places perms) ≡ Failing (unveil_errno (place_fault o places perms))
place_told place (Some given) places perms = by (holds given perms)
  where
    by : (v : Bool) → Told (if v then None else Some (AsksLetters place given (lacking given perms)))
        ≡ Failing (unveil_errno (if v then None else Some NotPermitted))
    by true = refl
    by false = refl
place_told place None places perms = by (nat_le most_places places)
  where
    by : (v : Bool) → Told (if v then Some NoPlaceLeft else None) ≡ Failing (unveil_errno (if v then Some TooManyPlaces else None))
    by true = refl
    by false = refl

unveil_told : (h : ProcessState) (place : Place) (perms : ℕ) →
    Told (unveil_beyond h place perms) ≡ Failing (unveil_errno (unveil_fault h place perms))
unveil_told h place perms = by (is_locked h)
  where
    by : (v : Bool) → Told (if v then Some IsLocked else place_beyond place (perms_kept h place) (length (veils h)) perms)
        ≡ Failing (unveil_errno (if v then Some NotPermitted else place_fault (perms_kept h place) (length (veils h)) perms))
    by true = refl
    by false = place_told place (perms_kept h place) (length (veils h)) perms

veil_told : (whose : Rules) (t : Tree) (h : ProcessState) (path : List ℕ) (letters : Option ℕ) →
    decision_of (veil_by faults whose t (faults_of h) path letters) ≡ veil_by refusals whose t (asker_of h) path letters
veil_told whose t h path None = refl
veil_told whose t h path (Some perms) =
    named_told Sole path (outcome_in whose t (start h) path (trace_of_text t (start h) ending.Dot path Followed).outcome)
    (path_named whose t (start h) ending.Dot path Followed) _ _ (path_told t h whose ending.Dot path Followed) λ x.
    failed_told _ _ _ _ (unveil_told h (place_of x) perms) refl

-- a call without openings
calls_give : (table : CallTable) (t : Tree) (h : ProcessState) (c : Call) (path : List ℕ) →
    decision_of (call_by faults table t (faults_of h) c path) ≡ call_by refusals table t (asker_of h) c path
calls_give table t h c path =
    refused_told _ _ _ _ (promises_told h (rule_of table c).alternatives) (call_told t h table c path (change_by table c))

-- what a descriptor stands for
close_told : (h : ProcessState) (number : ℕ) → decision_of (close_by faults (faults_of h) number) ≡ close_by refusals (asker_of h) number
close_told h number = by (file_at h.files number)
  where
    by : (o : Option OpenFile) → decision_of (on_named faults.failed (ok_or o (WrongFile (NotOpen number))) (λ file. Ok (AddEvent (Filed number None))))
        ≡ on_named refusals.failed (ok_or o EBADF) (λ file. Ok (AddEvent (Filed number None)))
    by None = refl
    by (Some file) = refl

fchdir_told : (h : ProcessState) (number : ℕ) → decision_of (fchdir_by faults (faults_of h) number) ≡ fchdir_by refusals (asker_of h) number
fchdir_told h number = by (file_at h.files number)
  where
    entered : (file : OpenFile) (b : Bool) →
        decision_of (unless_failed faults.failed (fault_if (not b) (faults.no_directory number)) (Ok (AddEvent (Moved (ToDir file.node)))))
        ≡ unless_failed refusals.failed (fault_if (not b) (refusals.no_directory number)) (Ok (AddEvent (Moved (ToDir file.node))))
    entered file true = refl
    entered file false = refl

    by : (o : Option OpenFile) → decision_of (on_named faults.failed (ok_or o (WrongFile (NotOpen number)))
        (λ file. unless_failed faults.failed (fault_if (not (is_directory file)) (faults.no_directory number)) (Ok (AddEvent (Moved (ToDir file.node))))))
        ≡ on_named refusals.failed (ok_or o EBADF)
        (λ file. unless_failed refusals.failed (fault_if (not (is_directory file)) (refusals.no_directory number)) (Ok (AddEvent (Moved (ToDir file.node)))))
    by None = refl
    by (Some file) = entered file (is_directory file)

pub reasons_give_decisions : ReasonsGiveDecisions
reasons_give_decisions table t h (OnPath c path) = by (opening_of table h c path)
  where
    by : (o : Option Opening) → decision_of (decide_by faults table t (asker_past o (faults_of h)) (OnPath c path))
        ≡ decide_by refusals table t (asker_past o (asker_of h)) (OnPath c path)
    by None = calls_give table t h c path
    by (Some o) = past_told t h table c path (change_by table c) o.asks_veils
reasons_give_decisions table t h (Symlink target path) =
    refused_told _ _ _ _ (promises_told h (rule_of table call.Symlink).alternatives)
    (failed_told _ _ _ _ (target_told target) (call_told t h table call.Symlink path (adding (link_node target))))
reasons_give_decisions table t h (Rename old new) =
    pair_told t h table.whose table.rename ending.Dropped old new _ _ (λ a b. rename_told t (asks_directory table.whose old new) a b (node_named a))
reasons_give_decisions table t h (Link old new) = pair_told t h table.whose table.link ending.Dot old new _ _ (λ a b. link_told t a b (node_named a))
reasons_give_decisions table t h (Pledge p x) =
    failed_told _ _ _ _ (when_told (is_unknown p || is_unknown x) (UnknownPromise (not (is_unknown p))) EINVAL refl)
    (failed_told _ _ _ _ (pledge_told table.whose h (given_set p) (given_set x)) refl)
reasons_give_decisions table t h (Unveil path perms) =
    refused_told _ _ _ _ (promises_told h (unveil ∷ [])) (failed_told _ _ _ _ (when_told (is_locked h) IsLocked EPERM refl)
    (veil_told table.whose t h path perms))
reasons_give_decisions table t h Lock = refused_told _ _ _ _ (promises_told h (unveil ∷ [])) refl
reasons_give_decisions table t h (Fork new) = refused_told _ _ _ _ (promises_told h (proc ∷ [])) refl
reasons_give_decisions table t h Exit = refl
reasons_give_decisions table t h (Uses sets) = refused_told _ _ _ _ (promises_told h sets) refl
reasons_give_decisions table t h (Hold number c path) = by (opening_of table h c path)
  where
    by : (o : Option Opening) → decision_of (decide_by faults table t (asker_past o (faults_of h)) (Hold number c path))
        ≡ decide_by refusals table t (asker_past o (asker_of h)) (Hold number c path)
    by None = refused_told _ _ _ _ (promises_told h (rule_of table c).alternatives) (call_told t h table c path (holding t number c))
    by (Some o) = past_told t h table c path (holding t number c) o.asks_veils
reasons_give_decisions table t h (Close number) = close_told h number
reasons_give_decisions table t h (Fchdir number) = fchdir_told h number
reasons_give_decisions table t h (Chroot path) =
    refused_told _ _ _ _ (promises_told h (id ∷ [])) (call_told t h table call.Chdir path rooting)
reasons_give_decisions table t h (Take number from theirs) = refused_told _ _ _ _ (promises_told h (recvfd ∷ [])) refl
reasons_give_decisions table t h Comment = refl

-- a decision on a call, as a verdict
abbrev verdict_as : Decision → Verdict
verdict_as (Ok change) = verdict.Allowed
verdict_as (Err r) = refusal_verdict r

verdict_told : (d : Outcome Fault) → verdict_by d ≡ verdict_as (decision_of d)
verdict_told (Ok change) = refl
verdict_told (Err fault) = refl

abbrev verdict_for : Tree → CallTable → ProcessState → Call → May → Result Found Errno → Verdict
verdict_for t table h c m (Ok x) = if_promised m (allowed_unless (found_fault t table h c x))
verdict_for t table h c m (Err errno) = if_promised m (verdict.Failed errno)

decided_as : (t : Tree) (table : CallTable) (h : ProcessState) (c : Call) (m : May) (r : Result Found Errno) →
    verdict_as (unless_refused (refusal_of m) (on_named (λ errno. refusal.Failed errno) r λ x. unless_failed (λ errno. refusal.Failed errno)
    (found_fault t table h c x) (Ok (change_by table c x))))
    ≡ verdict_for t table h c m r
decided_as t table h c may.Yes (Ok x) = by (found_fault t table h c x)
  where
    by : (o : Option Errno) → verdict_as (unless_failed (λ errno. refusal.Failed errno) o (Ok (change_by table c x))) ≡ allowed_unless o
    by None = refl
    by (Some errno) = refl
decided_as t table h c may.Yes (Err errno) = refl
decided_as t table h c may.Enosys (Ok x) = refl
decided_as t table h c may.Enosys (Err errno) = refl
decided_as t table h c may.Death (Ok x) = refl
decided_as t table h c may.Death (Err errno) = refl

verdict_is : (t : Tree) (table : CallTable) (h : ProcessState) (c : Call) (r : Result Found Errno) →
    verdict_for t table h c (may_any h (rule_of table c).alternatives) r ≡ verdict_of t table h c r
verdict_is t table h c (Ok x) = refl
verdict_is t table h c (Err errno) = refl

pub reasons_give_verdicts : ReasonsGiveVerdicts
reasons_give_verdicts t table h c text =
    verdict_told (call_by faults table t (faults_of h) c text) ∙ ap verdict_as (calls_give table t h c text)
    ∙ decided_as t table h c (may_any h (rule_of table c).alternatives) (named_in table.whose t (start h) text (object_named t h c text))
    ∙ verdict_is t table h c (named_in table.whose t (start h) text (object_named t h c text))

-- the answer to a change
abbrev told : Option Fault → Answer
told fault = answer_of (reason_of fault)

edited_told : (h : ProcessState) (r : Result (ℕ × Tree) TreeFault) → told (no_room (edit_effect h r)) ≡ answer_to (edit_effect h r)
edited_told h (Ok x) = refl
edited_told h (Err fault) = refl

edited_tree_told : (h : ProcessState) (r : Result Tree TreeFault) → told (no_room (edited_tree h r)) ≡ answer_to (edited_tree h r)
edited_tree_told h (Ok x) = refl
edited_tree_told h (Err fault) = refl

made_told : (w : World) (h : ProcessState) (change : Change) → told (room_fault w h change) ≡ answer_to (change_effect w h change)
made_told w h NoChange = refl
made_told w h (AddNode spot node) = edited_told h (add w.tree spot.0 spot.1 node)
made_told w h (CutRow spot) = edited_told h (cut w.tree spot.0 spot.1)
made_told w h (ShiftRow old new) = edited_tree_told h (shift w.tree old.0 old.1 new.0 new.1)
made_told w h (TieRow spot x) = edited_tree_told h (tie w.tree spot.0 spot.1 x)
made_told w h (BeginProgram left) = refl
made_told w h (AddEvent event) = refl
made_told w h (CopyAs new) = by (is_some (kept_at w new)) (nat_le most_processes (length w.processes))
  where
    by : (u v : Bool) → told (or_fault (fault_if u (NumberTaken new)) (fault_if v NoProcessLeft))
        ≡ answer_to (if u || v then replay.Fails EAGAIN else replay.Copies new)
    by true v = refl
    by false true = refl
    by false false = refl
made_told w h (TakeFile number from theirs) = sent_told (kept_at w from)
  where
    pledged : Bool
    pledged = is_pledged h

    Said : Result OpenFile Errno → Type 0
    Said r = told (sent_fault from theirs r) ≡ answer_to (take_effect w h number r)

    judged : (a b : Bool) (file : OpenFile) → Said (if not a then Err EPERM else (if b then Err EINVAL else Ok file))
    judged false b file = refl
    judged true true file = refl
    judged true false file = refl

    sent_told : (o : Option ProcessState) → Said (sent_by pledged o theirs)
    sent_told None = refl
    sent_told (Some sender) = by (is_ended sender) (file_at sender.files theirs)
      where
        by : (ended : Bool) (o : Option OpenFile) → Said (if ended then Err EBADF else sent_of pledged sender o)
        by true o = refl
        by false None = refl
        by false (Some file) = judged (holds (held_set sender) sendfd) (is_directory file && (pledged || is_pledged sender)) file

refusal_told : (r : Refusal) → refusal_answer r ≡ answer_to (replay.refusal_effect r)
refusal_told (refusal.Failed errno) = refl
refusal_told refusal.Killed = refl

outcome_told : (w : World) (h : ProcessState) (d : Outcome Fault) → told (outcome_fault w h d) ≡ answer_to (come_of w h (decision_of d))
outcome_told w h (Ok change) = made_told w h change
outcome_told w h (Err fault) = refusal_told (fault_refusal fault)

pub reasons_give_answers : ReasonsGiveAnswers
reasons_give_answers table w ask = by (kept_at w ask.process)
  where
    living : (h : ProcessState) (v : Bool) →
        answer_of (if v then reasons.Ended else reason_of (outcome_fault w h (change_or_fault table w.tree h ask.action)))
        ≡ (if◌then◌else◌ {A = Answer × World} v (Gone, w) (
          answer_to (come_of w h (decide table w.tree h ask.action)),
          left_by w ask.process h (come_of w h (decide table w.tree h ask.action)),
        )).0
    living h true = refl
    living h false = outcome_told w h (change_or_fault table w.tree h ask.action) ∙
        ap (λ d. answer_to (come_of w h d)) (reasons_give_decisions table w.tree h ask.action)

    by : (o : Option ProcessState) → answer_of (reason_by table w ask.action o) ≡ (answer_and_world table w ask o).0
    by None = refl
    by (Some h) = living h (is_ended h)
