-- Requests without a piece.
use Rattle.std.proofs.Common.{◌≡◌, ℕ, List, [], ◌∷◌, refl, sym, ap, ◌∙◌, Bool, true, false, cond, ◌||◌, ◌&&◌, min, ◌+◌, ◌%◌, ◌<◌, arith, length, subst}
use Rattle.std.proofs.lemmas.Bool.{false≢true, eqb-true, eq-eqb}
use Rattle.std.proofs.lemmas.Nat.Bits.{bit_at_and, bit_at_xor, bit_at-lt, same_from_bits}
use Rattle.std.specs.Int.{bit_at}
use Rattle.std.specs.Prelude.{Option, Some, None, Result, Ok, Err, bit_and, nat_le}
use Rattle.pua_path.specs.declared.errno.Errno.{Errno}
use Rattle.pua_path.specs.declared.errno.Errno.TheVariants.{EPERM}
use Rattle.pua_path.specs.declared.found.Found.{Found}
use Rattle.pua_path.specs.declared.found.Last.TheVariants.{Followed}
use Rattle.pua_path.specs.declared.text.Ending.TheVariants as ending
use Rattle.pua_calls.specs.Promises.{holds, lacking, unveil}
use Rattle.pua_calls.specs.Calls.{CallTable}
use Rattle.pua_calls.specs.declared.rules.Rules.{Rules}
use Rattle.pua_policy.specs.States.{ProcessState, Event, Unveiled, may_any, is_within, error_frees_exec, has_error, veil_at, start}
use Rattle.pua_policy.specs.States.{unveil_fault, place_fault, most_places}
use Rattle.pua_policy.specs.Verdict.{refusal_of, place_of}
use Rattle.pua_policy.specs.declared.place.Place.{Place}
use Rattle.pua_policy.specs.declared.answer.Refusal.{Refusal}
use Rattle.pua_policy.specs.declared.answer.UnveilFault.TheVariants.{NotPermitted, TooManyPlaces}
use Rattle.pua_script.specs.Requests.{Asked}
use Rattle.pua_script.specs.Family.{is_okay}
use Rattle.pua_script.specs.Decide.{AddEvent, Decision, decide, refusals, unless_refused, unless_failed, on_named, fault_if, given_set, unveil_errno, path_named}
use Rattle.pua_script.specs.Replay.{World, kept_at, come_of, answer_to, do_decided, answer_and_world, apply}
use Rattle.pua_script.specs.declared.answer.Answer.{Answer}
use Rattle.pua_script.specs.declared.answer.Answer.TheVariants as answer
use Rattle.pua_script.specs.declared.request.Given.{Given}
use Rattle.pua_script.specs.declared.request.Given.TheVariants.{Null, Good, Unknown}
use Rattle.pua_script.specs.declared.request.Action.{Action}
use Rattle.pua_script.specs.declared.request.Action.TheVariants.{OnPath, Pledge, Unveil}
use Rattle.pua_tight.specs.Narrower.{GivenWithin, given_none, given_less, given_unknown, ActionWithin, as_given, less_pledged, less_unveiled, AskWithin}
use Rattle.pua_tight.specs.Tight.{Piece, InPromises, InExecpromises, InVeil, given_without, action_without, without}
use Rattle.pua_policy.proofs.ForCallers.{holds_through}
use Rattle.pua_tight.proofs.Worlds.{not_okay}
use Rattle.pua_tight.proofs.Sets.{or_more, and_more, holds_self}

pub lack_at : (bit set i : ℕ) → bit_at (lacking bit set) i ≡ (bit_at set i + min (bit_at set i) (bit_at bit i)) % 2
lack_at bit set i = bit_at_xor set (bit_and set bit) i ∙ ap (λ b. (bit_at set i + b) % 2) (bit_at_and set bit i)

more_bit : (a b t : ℕ) → a < 2 → b < 2 → t < 2 → min b a ≡ a → min ((b + min b t) % 2) ((a + min a t) % 2) ≡ (a + min a t) % 2
more_bit a b t p q r e = omega arith

none_bit : (a s t : ℕ) → a < 2 → s < 2 → t < 2 → min ((s + min s t) % 2) a ≡ a → (a + min a t) % 2 ≡ a
none_bit a s t p q r e = omega arith

pub lacking_more : (bit a b : ℕ) → holds b a ≡ true → holds (lacking bit b) (lacking bit a) ≡ true
lacking_more bit a b less = eq-eqb _ _ (same_from_bits _ _ (λ i.
    let at : min (bit_at b i) (bit_at a i) ≡ bit_at a i = sym (bit_at_and b a i) ∙ ap (λ n. bit_at n i) (eqb-true _ _ less) in
    bit_at_and (lacking bit b) (lacking bit a) i ∙ ap (λ x. min x (bit_at (lacking bit a) i)) (lack_at bit b i)
    ∙ ap (min ((bit_at b i + min (bit_at b i) (bit_at bit i)) % 2)) (lack_at bit a i)
    ∙ more_bit (bit_at a i) (bit_at b i) (bit_at bit i) (bit_at-lt a i) (bit_at-lt b i) (bit_at-lt bit i) at ∙ sym (lack_at bit a i)))

-- what is within a set without a bit has it not
pub lacking_none : (bit a s : ℕ) → holds (lacking bit s) a ≡ true → lacking bit a ≡ a
lacking_none bit a s less = same_from_bits _ _ (λ i.
    let at : min ((bit_at s i + min (bit_at s i) (bit_at bit i)) % 2) (bit_at a i) ≡ bit_at a i =
    ap (λ x. min x (bit_at a i)) (sym (lack_at bit s i)) ∙ sym (bit_at_and (lacking bit s) a i) ∙ ap (λ n. bit_at n i) (eqb-true _ _ less) in
    lack_at bit a i ∙ none_bit (bit_at a i) (bit_at s i) (bit_at bit i) (bit_at-lt a i) (bit_at-lt s i) (bit_at-lt bit i) at)

given_mono : (bit : ℕ) {p q : Given} → GivenWithin p q → GivenWithin (given_without bit p) (given_without bit q)
given_mono bit given_none = given_none
given_mono bit given_unknown = given_unknown
given_mono bit (given_less {a = a} {b = b} less) = given_less (lacking_more bit a b less)

action_mono : (piece : Piece) {x y : Action} → ActionWithin x y → ActionWithin (action_without piece x) (action_without piece y)
action_mono piece as_given = as_given
action_mono (InPromises bit) (less_pledged p e) = less_pledged (given_mono bit p) e
action_mono (InExecpromises bit) (less_pledged p e) = less_pledged p (given_mono bit e)
action_mono (InVeil bit) (less_pledged p e) = less_pledged p e
action_mono (InVeil bit) (less_unveiled {a = a} {b = b} less) = less_unveiled (lacking_more bit a b less)
action_mono (InPromises bit) (less_unveiled less) = less_unveiled less
action_mono (InExecpromises bit) (less_unveiled less) = less_unveiled less

pub ask_mono : (piece : Piece) (x y : Asked) → AskWithin x y → AskWithin (without piece x) (without piece y)
ask_mono piece x y w = record { process = w.process; action = action_mono piece w.action }

-- what has no piece, nothing within it has
abbrev set_in : Given → ℕ
set_in (Good set) = set
set_in _ = 0

good_is : (a b : ℕ) → Good a ≡ Good b → a ≡ b
good_is a b e = ap set_in e

lacks_given : (bit : ℕ) {p q : Given} → GivenWithin p q → given_without bit q ≡ q → given_without bit p ≡ p
lacks_given bit given_none e = refl
lacks_given bit given_unknown e = refl
lacks_given bit (given_less {a = a} {b = b} less) e =
    ap Good (lacking_none bit a b (ap (λ s. holds s a) (good_is (lacking bit b) b e) ∙ less))

abbrev first_of : Action → Given
first_of (Pledge p e) = p
first_of _ = Null

abbrev second_of : Action → Given
second_of (Pledge p e) = e
second_of _ = Null

abbrev perms_in : Action → ℕ
perms_in (Unveil path (Some perms)) = perms
perms_in _ = 0

pub lacks_down : (piece : Piece) {x y : Action} → ActionWithin x y → action_without piece y ≡ y → action_without piece x ≡ x
lacks_down piece as_given e = e
lacks_down (InPromises bit) (less_pledged {e = x} p other) e = ap (λ g. Pledge g x) (lacks_given bit p (ap first_of e))
lacks_down (InExecpromises bit) (less_pledged {p = x} other p) e = ap (λ g. Pledge x g) (lacks_given bit p (ap second_of e))
lacks_down (InVeil bit) (less_pledged p other) e = refl
lacks_down (InVeil bit) (less_unveiled {path = path} {a = a} {b = b} less) e =
    ap (λ s. Unveil path (Some s)) (lacking_none bit a b (ap (λ s. holds s a) (ap perms_in e) ∙ less))
lacks_down (InPromises bit) (less_unveiled less) e = refl
lacks_down (InExecpromises bit) (less_unveiled less) e = refl

twice : (bit s : ℕ) → lacking bit (lacking bit s) ≡ lacking bit s
twice bit s = lacking_none bit (lacking bit s) s (holds_self (lacking bit s))

given_twice_less : (bit : ℕ) (g : Given) → given_without bit (given_without bit g) ≡ given_without bit g
given_twice_less bit Null = refl
given_twice_less bit (Good s) = ap Good (twice bit s)
given_twice_less bit Unknown = refl

pub lacks_left : (piece : Piece) (x : Action) → action_without piece (action_without piece x) ≡ action_without piece x
lacks_left (InPromises bit) (Pledge p e) = ap (λ g. Pledge g e) (given_twice_less bit p)
lacks_left (InExecpromises bit) (Pledge p e) = ap (λ g. Pledge p g) (given_twice_less bit e)
lacks_left (InVeil bit) (Unveil path (Some s)) = ap (λ s. Unveil path (Some s)) (twice bit s)
lacks_left (InVeil bit) (Unveil path None) = refl
lacks_left (InVeil bit) (Pledge p e) = refl
lacks_left (InPromises bit) (Unveil path perms) = refl
lacks_left (InExecpromises bit) (Unveil path perms) = refl
lacks_left piece (OnPath call path) = by piece
  where
    by : (z : Piece) → action_without z (action_without z (OnPath call path)) ≡ action_without z (OnPath call path)
    by (InPromises bit) = refl
    by (InExecpromises bit) = refl
    by (InVeil bit) = refl
lacks_left (InPromises bit) _ = refl
lacks_left (InExecpromises bit) _ = refl
lacks_left (InVeil bit) _ = refl

-- so a request within one without the piece is as it is without it
pub is_without : (piece : Piece) (x y : Asked) → AskWithin x (without piece y) → without piece x ≡ x
is_without piece x y w =
    ap (λ a. record { process = x.process; action = a }) (lacks_down piece w.action (lacks_left piece y.action))

-- a request that is granted is granted with less
abbrev answered : World → ProcessState → Decision → Answer
answered w h d = answer_to (come_of w h d)

no_failure : {A : Type 0} (errno : Errno) → answer.Failed errno ≡ answer.Okay → A
no_failure errno e = absurd (false≢true (ap is_okay e))

within_less : {p q : Given} → GivenWithin p q → (given : Option ℕ) → is_within (given_set q) given ≡ true → is_within (given_set p) given ≡ true
within_less given_none given e = e
within_less given_unknown given e = e
within_less (given_less less) None e = refl
within_less (given_less {a = a} {b = b} less) (Some g) e = holds_through g b a e less

module _ (w : World) (h : ProcessState) where
  tested : (x y : Bool) (c d : Event) → (y ≡ true → x ≡ true) →
      answered w h (unless_failed refusals.failed (cond y None (Some EPERM)) (Ok (AddEvent d))) ≡ answer.Okay →
      answered w h (unless_failed refusals.failed (cond x None (Some EPERM)) (Ok (AddEvent c))) ≡ answer.Okay
  tested true true c d more e = refl
  tested false true c d more e = absurd (false≢true (more refl))
  tested x false c d more e = no_failure EPERM e

  abbrev may_give : Rules → Given → Given → Bool
  may_give whose p e =
      (has_error h || is_within (given_set p) h.promises)
      && (error_frees_exec whose (has_error h) || is_within (given_set e) h.execpromises)

  gives : (whose : Rules) {p q e f : Given} → GivenWithin p q → GivenWithin e f → may_give whose q f ≡ true → may_give whose p e ≡ true
  gives whose first second is = and_more _ _ _ _
      (or_more (has_error h) _ (has_error h) _ (λ has. has) (within_less first h.promises))
      (or_more (error_frees_exec whose (has_error h)) _ (error_frees_exec whose (has_error h)) _ (λ frees. frees)
      (within_less second h.execpromises)) is

  place_gives : (place : Place) (a b : ℕ) → holds b a ≡ true → (o : Option ℕ) (l : Bool) (n : ℕ) →
      answered w h (unless_failed refusals.failed (unveil_errno (cond l (Some NotPermitted) (place_fault o n b))) (Ok (AddEvent (Unveiled place b))))
      ≡ answer.Okay →
      answered w h (unless_failed refusals.failed (unveil_errno (cond l (Some NotPermitted) (place_fault o n a))) (Ok (AddEvent (Unveiled place a))))
      ≡ answer.Okay
  place_gives place a b less o true n e = no_failure EPERM e
  place_gives place a b less None false n e = by (nat_le most_places n) e
    where
      by : (x : Bool) →
          answered w h (unless_failed refusals.failed (unveil_errno (cond x (Some TooManyPlaces) None)) (Ok (AddEvent (Unveiled place b)))) ≡ answer.Okay →
          answered w h (unless_failed refusals.failed (unveil_errno (cond x (Some TooManyPlaces) None)) (Ok (AddEvent (Unveiled place a)))) ≡ answer.Okay
      by true e = no_failure _ e
      by false e = refl
  place_gives place a b less (Some old) false n e = by (holds old a) (holds old b) (λ is. holds_through old b a is less) e
    where
      by : (x y : Bool) → (y ≡ true → x ≡ true) →
          answered w h (unless_failed refusals.failed (unveil_errno (cond y None (Some NotPermitted))) (Ok (AddEvent (Unveiled place b)))) ≡ answer.Okay →
          answered w h (unless_failed refusals.failed (unveil_errno (cond x None (Some NotPermitted))) (Ok (AddEvent (Unveiled place a)))) ≡ answer.Okay
      by true y more e = refl
      by false true more e = absurd (false≢true (more refl))
      by false false more e = no_failure EPERM e

  abbrev veiling : Option Refusal → Option Errno → Result Found Errno → ℕ → Decision
  veiling o l r s = unless_refused o (unless_failed refusals.failed l (on_named refusals.failed r
      (λ object. unless_failed refusals.failed (unveil_errno (unveil_fault h (place_of object) s)) (Ok (AddEvent (Unveiled (place_of object) s))))))

  veil_gives : (path : List ℕ) (a b : ℕ) → holds b a ≡ true → (o : Option Refusal) (l : Option Errno) (r : Result Found Errno) →
      answered w h (veiling o l r b) ≡ answer.Okay → answered w h (veiling o l r a) ≡ answer.Okay
  veil_gives path a b less (Some x) l r e = not_okay x (ap is_okay e)
  veil_gives path a b less None (Some x) r e = no_failure x e
  veil_gives path a b less None None (Err x) e = no_failure x e
  veil_gives path a b less None None (Ok object) e =
      place_gives (place_of object) a b less (veil_at h.veils (place_of object)) h.locked (length h.veils) e

  decided_less : (table : CallTable) {x y : Action} → ActionWithin x y → answered w h (decide table w.tree h y) ≡ answer.Okay →
      answered w h (decide table w.tree h x) ≡ answer.Okay
  decided_less table as_given e = e
  decided_less table (less_pledged {p = p} {q = q} {e = x} {f = y} first second) e = pledges first second e
    where
      pledges : {p q x y : Given} → GivenWithin p q → GivenWithin x y → answered w h (decide table w.tree h (Pledge q y)) ≡ answer.Okay →
          answered w h (decide table w.tree h (Pledge p x)) ≡ answer.Okay
      pledges given_unknown second e = no_failure _ e
      pledges given_none given_unknown e = no_failure _ e
      pledges (given_less less) given_unknown e = no_failure _ e
      pledges given_none given_none e = tested (may_give table.whose Null Null) (may_give table.whose Null Null) _ _ (λ is. is) e
      pledges given_none (given_less {a = a} {b = b} less) e =
          tested (may_give table.whose Null (Good a)) (may_give table.whose Null (Good b)) _ _ (gives table.whose given_none (given_less less)) e
      pledges (given_less {a = a} {b = b} less) given_none e =
          tested (may_give table.whose (Good a) Null) (may_give table.whose (Good b) Null) _ _ (gives table.whose (given_less less) given_none) e
      pledges (given_less {a = a} {b = b} less) (given_less {a = c} {b = d} other) e =
          tested (may_give table.whose (Good a) (Good c)) (may_give table.whose (Good b) (Good d)) _ _ (gives table.whose (given_less less) (given_less other)) e
  decided_less table (less_unveiled {path = path} {a = a} {b = b} less) e =
      veil_gives path a b less (refusal_of (may_any h (unveil ∷ []))) (fault_if h.locked EPERM)
      (path_named table.whose w.tree (start h) ending.Dot path Followed) e

pub okay_less : (table : CallTable) (w : World) (x y : Asked) → AskWithin x y → (apply table w y).0 ≡ answer.Okay → (apply table w x).0 ≡ answer.Okay
okay_less table w x y lies =
    subst (λ n. (apply table w (record { process = n; action = y.action })).0 ≡ answer.Okay → (apply table w x).0 ≡ answer.Okay) lies.process
    (by (kept_at w x.process))
  where
    by : (o : Option ProcessState) →
        (answer_and_world table w (record { process = x.process; action = y.action }) o).0 ≡ answer.Okay →
        (answer_and_world table w x o).0 ≡ answer.Okay
    by None e = e
    by (Some h) e = living h.ended e
      where
        living : (b : Bool) →
            (cond {A = Answer × World} b (answer.Gone, w) (do_decided w x.process h (decide table w.tree h y.action))).0 ≡ answer.Okay →
            (cond {A = Answer × World} b (answer.Gone, w) (do_decided w x.process h (decide table w.tree h x.action))).0 ≡ answer.Okay
        living true e = e
        living false e = decided_less w h table lies.action e
