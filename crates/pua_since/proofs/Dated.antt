-- What is kept of a request that is asked about is since when it has its reason.
use Rattle.pua_since.proofs.Common.{◌≡◌, ◌≤◌, ℕ, List, length, true, false, refl, sym, ap, subst, ◌∙◌, Option, Some, None, inl, inr, ◌⊎◌}
use Rattle.pua_since.proofs.Common.{is_some, same_bytes, CallTable, ProcessState, Asked, World, kept_at, apply, world_after, Action, Answer}
use Rattle.pua_since.proofs.Common.{Failed, Ended, reason, Test, forebear, since, date_of, reason_since, IsToldOf, IsWatched, is_told}
use Rattle.pua_since.proofs.Common.{Question, Told, Watch}
use Rattle.pua_path.specs.declared.errno.Errno.TheVariants.{ENOSPC}
use Rattle.pua_path.specs.declared.found.Found.{Found}
use Rattle.pua_calls.specs.declared.fits.Misfit.{Misfit}
use Rattle.pua_calls.specs.declared.fits.Misfit.TheVariants.{Missing}
use Rattle.pua_script.specs.Decide.{Side}
use Rattle.pua_why.specs.Checked.{reason_checked, granted_by, told_by}
use Rattle.pua_why.specs.Keys.{reason_key}
use Rattle.pua_why.specs.Reasons.{Ends, LacksPromises, BadTarget, BadPath, NoRoot, Uncovered, LacksLetters, Unfit, Inside, UnknownPromise}
use Rattle.pua_why.specs.Reasons.{AsksPromises, IsLocked, UnknownLetter, AsksLetters, NoPlaceLeft, NumberTaken, NoProcessLeft, NoRoom}
use Rattle.pua_why.specs.Reasons.{WrongFile}
use Rattle.pua_why.specs.Reasons.{Reason, NeverMade, Refused, Granted, reason_by}
use Rattle.pua_why.specs.Texts.{has_key}
use Rattle.pua_why.proofs.ForCallers.{checks_tell}
use Rattle.pua_since.specs.Dates.{action_asked}
use Rattle.pua_since.specs.declared.watch.Question.TheVariants as asks
use Rattle.pua_since.specs.declared.watch.Told.TheVariants as tells
use Rattle.pua_since.proofs.Made.{IsMade, stays_itself}

-- two tests that agree everywhere turn on the same line
pub same_since : (test other : Test) → ((w : World) (process : ℕ) → test w process ≡ other w process) →
    (table : CallTable) (w : World) (n : ℕ) (asks : List Asked) (process : ℕ) →
    since test table w n asks process ≡ since other table w n asks process
same_since test other agree table w n asks process = ap (λ (t : Test). since t table w n asks process) (λ i. λ v q. agree v q i)

-- reasons whose line is told
abbrev pub IsDated : Reason → Type 0
IsDated Ended = Unit {0}
IsDated (Refused Ends) = Unit {0}
IsDated (Refused (LacksPromises error sets)) = Unit {0}
IsDated (Refused (BadTarget fault)) = Unit {0}
IsDated (Refused (BadPath side fault)) = Unit {0}
IsDated (Refused (NoRoot side)) = Unit {0}
IsDated (Refused (Uncovered side object)) = Unit {0}
IsDated (Refused (LacksLetters side place given lacks)) = Unit {0}
IsDated (Refused (Unfit side object misfit)) = Unit {0}
IsDated (Refused (Inside old new)) = Unit {0}
IsDated (Refused (UnknownPromise of_exec)) = Unit {0}
IsDated (Refused (AsksPromises of_exec lacks)) = Unit {0}
IsDated (Refused IsLocked) = Unit {0}
IsDated (Refused UnknownLetter) = Unit {0}
IsDated (Refused (AsksLetters place given lacks)) = Unit {0}
IsDated (Refused NoPlaceLeft) = Unit {0}
IsDated (Refused (NumberTaken n)) = Unit {0}
IsDated (Refused NoProcessLeft) = Unit {0}
IsDated (Refused (WrongFile fault)) = Unit {0}
IsDated _ = ⊥

-- only of these is the line told
by_dated : (r : Reason) (line other : Option ℕ) → (IsDated r → line ≡ other) → date_of r line ≡ date_of r other
by_dated NeverMade line other same = refl
by_dated Granted line other same = refl
by_dated (Refused NoRoom) line other same = refl
by_dated Ended line other same = same tt
by_dated (Refused _) line other same = same tt

-- what the checks grant is granted, or lacks room
granted_or_full : (answer : Answer) → (granted_by answer ≡ Granted) ⊎ (granted_by answer ≡ Refused NoRoom)
granted_or_full (Failed ENOSPC) = inr refl
granted_or_full _ = inl refl

-- such a reason is what the checks tell
from_told : (answer : Answer) (c r : Reason) → IsDated r → told_by answer c ≡ r → c ≡ r
from_told answer NeverMade r dated e = e
from_told answer Ended r dated e = e
from_told answer (Refused fault) r dated e = e
from_told answer Granted r dated e = by (granted_or_full answer)
  where
    by : (granted_by answer ≡ Granted) ⊎ (granted_by answer ≡ Refused NoRoom) → Granted ≡ r
    by (inl granted) = absurd (subst IsDated (sym e ∙ granted) dated)
    by (inr full) = absurd (subst IsDated (sym e ∙ full) dated)

-- what does not fit has not the key of what lacks room
unfit_key : (side : Side) (object : Found) (misfit : Misfit) →
    same_bytes (reason_key (Refused NoRoom)) (reason_key (Refused (Unfit side object misfit))) ≡ false
unfit_key side object Missing = refl
unfit_key side object _ = refl

-- and neither what is granted nor what lacks room has its key
other_key : (r : Reason) → IsDated r → (same_bytes (reason_key Granted) (reason_key r) ≡ false) ×
    (same_bytes (reason_key (Refused NoRoom)) (reason_key r) ≡ false)
other_key NeverMade dated = absurd dated
other_key Granted dated = absurd dated
other_key (Refused NoRoom) dated = absurd dated
other_key Ended dated = (refl, refl)
other_key (Refused (Unfit side object misfit)) dated = (refl, unfit_key side object misfit)
other_key (Refused _) dated = (refl, refl)

-- so the checks tell it where it is the reason
same_key : (answer : Answer) (c r : Reason) → IsDated r →
    same_bytes (reason_key c) (reason_key r) ≡ same_bytes (reason_key (told_by answer c)) (reason_key r)
same_key answer NeverMade r dated = refl
same_key answer Ended r dated = refl
same_key answer (Refused fault) r dated = refl
same_key answer Granted r dated = by (granted_or_full answer)
  where
    by : (granted_by answer ≡ Granted) ⊎ (granted_by answer ≡ Refused NoRoom) →
        same_bytes (reason_key Granted) (reason_key r) ≡ same_bytes (reason_key (granted_by answer)) (reason_key r)
    by (inl granted) = ap (λ (c : Reason). same_bytes (reason_key c) (reason_key r)) (sym granted)
    by (inr full) = (other_key r dated).0 ∙ sym ((other_key r dated).1) ∙
        ap (λ (c : Reason). same_bytes (reason_key c) (reason_key r)) (sym full)

-- whoever has such a reason was made
made_by : (table : CallTable) (w : World) (ask : Asked) → IsDated (reason table w ask) → IsMade w ask.process
made_by table w ask dated = by (kept_at w ask.process) dated
  where
    by : (o : Option ProcessState) → IsDated (reason_by table w ask.action o) → is_some o ≡ true
    by None dated = absurd dated
    by (Some h) dated = refl

module _ (table : CallTable) (w : World) (done : List Asked) (ask : Asked) (dated : IsDated (reason table (world_after table w done) ask))
  where
    abbrev told : Reason
    told = reason table (world_after table w done) ask

    -- at each world and process the checks tell its key where it is the reason's
    tests_agree : (action : Action) → action ≡ ask.action → (key : List ℕ) → key ≡ reason_key told → (v : World) (process : ℕ) →
        same_bytes (reason_key (reason_checked table v (record { process = process; action = action }))) key
        ≡ has_key table ask (reason_key told) v process
    tests_agree action is key keyed v process =
        (λ i. same_bytes (reason_key (reason_checked table v (record { process = process; action = is i }))) (keyed i))
        ∙ same_key (apply table v (record { process = process; action = ask.action })).0
        (reason_checked table v (record { process = process; action = ask.action })) told dated
        ∙ ap (λ r. same_bytes (reason_key r) (reason_key told)) (checks_tell table v (record { process = process; action = ask.action }))

    -- what is told of it is its key
    told_key : (action : Action) → action ≡ ask.action → (asker : ℕ) → asker ≡ ask.process → (key : List ℕ) →
        key ≡ reason_key (reason_checked table (world_after table w done) (record { process = asker; action = action })) →
        key ≡ reason_key told
    told_key action is asker same key keyed =
        keyed
        ∙ (λ i. reason_key (reason_checked table (world_after table w done) (record { process = same i; action = is i })))
        ∙ ap reason_key (from_told (apply table (world_after table w done) ask).0 (reason_checked table (world_after table w done) ask) told
        dated (checks_tell table (world_after table w done) ask))

    request_line : (question : Question) (kept : Told) (asker : ℕ) (line : Option ℕ) →
        IsToldOf table (world_after table w done) asker question kept → action_asked question ≡ Some ask.action → asker ≡ ask.process
        → line ≡ since (is_told table question kept) table w 1 done asker →
        line ≡ since (has_key table ask (reason_key told)) table w 1 done ask.process
    request_line (asks.Request action) (tells.Reason key) asker line is asked same turned =
        let asks_it : action.now ≡ ask.action = cc in
        turned
        ∙ ap (since (is_told table (asks.Request action) (tells.Reason key)) table w 1 done) same
        ∙ same_since (is_told table (asks.Request action) (tells.Reason key)) (has_key table ask (reason_key told))
        (tests_agree action.now asks_it key (told_key action.now asks_it asker same key is)) table w 1 done ask.process
    request_line (asks.Request action) (tells.Veil perms) asker line is asked same turned = absurd is
    request_line (asks.Veil place) kept asker line is asked same turned = cc

-- the line that is kept of a request is since when it has its reason, where that is told
pub joined : (table : CallTable) (w : World) (done left : List Asked) (watch : Watch) (ask : Asked) → IsWatched table w done left watch →
    watch.process ≡ ask.process → action_asked watch.question ≡ Some ask.action → length done ≤ watch.last
    → date_of (reason table (world_after table w done) ask) watch.line ≡ reason_since table w done ask
    (reason table (world_after table w done) ask)
joined table w done left watch ask watched about asked wanted =
    by_dated (reason table (world_after table w done) ask) watch.line
    (since (has_key table ask (reason_key (reason table (world_after table w done) ask))) table w 1 done ask.process) λ dated.
    let asker : ℕ = forebear table (world_after table w done) left watch.process in
    let own : asker ≡ ask.process =
    ap (forebear table (world_after table w done) left) about ∙
    stays_itself table left (world_after table w done) ask.process (made_by table (world_after table w done) ask dated) in
    request_line table w done ask dated watch.question watch.told asker watch.line (watched.told wanted) asked own
    (watched.line wanted)
