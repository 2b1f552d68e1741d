-- Of a script whose requests each rest on one set of promises nothing that is answered as before has less than the tightened one.
use Rattle.std.proofs.Common.{◌≡◌, ◌≢◌, ℕ, List, [], ◌∷◌, ◌++◌, refl, sym, ap, ◌∙◌, Bool, true, false, cond, subst, min, ◌+◌, ◌%◌, ◌<◌, arith, append_assoc, inl, inr, ◌⊎◌}
use Rattle.std.proofs.lemmas.Bool.{false≢true, eqb-true, eq-eqb}
use Rattle.std.proofs.lemmas.Nat.Bits.{bit_at_and, bit_at-lt, bit_at-zero, same_from_bits}
use Rattle.std.specs.Int.{bit_at}
use Rattle.std.specs.Prelude.{Some, None, IsTrue, bit_and, bit_or, ◌==◌}
use Rattle.pua_calls.specs.Promises.{holds, lacking, error}
use Rattle.pua_calls.specs.Calls.{CallTable}
use Rattle.pua_script.specs.Requests.{Asked}
use Rattle.pua_script.specs.Replay.{World, apply, answers_to, world_after}
use Rattle.pua_script.specs.declared.answer.Answer.{Answer}
use Rattle.pua_script.specs.declared.answer.Answer.TheVariants as answer
use Rattle.pua_script.specs.declared.request.Given.{Given}
use Rattle.pua_script.specs.declared.request.Given.TheVariants.{Null, Good, Unknown}
use Rattle.pua_script.specs.declared.request.Action.{Action}
use Rattle.pua_script.specs.declared.request.Action.TheVariants.{Pledge, Unveil}
use Rattle.pua_script.proofs.ForCallers.{one_request_more}
use Rattle.pua_policy.specs.States.{ProcessState}
use Rattle.pua_tight.specs.Narrower.{GivenWithin, given_none, given_less, given_unknown, ActionWithin, as_given, less_pledged, less_unveiled, AskWithin}
use Rattle.pua_tight.specs.Narrower.{AsksWithin, no_asks, asks}
use Rattle.pua_tight.specs.Tight.{Piece, InPromises, InExecpromises, InVeil, given_without, action_without, without, Line, asks_of, same_answers}
use Rattle.pua_tight.specs.Tight.{try_piece, thin_line, thin}
use Rattle.pua_tight.specs.Laws.{IsPieceOf, AreOkay, without_all, LeavesOut, RestOnOne, opener_of, openers, promise_left, Stay, TightIsLeast}
use Rattle.pua_policy.proofs.ForCallers.{holds_through}
use Rattle.pua_tight.proofs.Sets.{holds_self, has_first, has_second}
use Rattle.pua_tight.proofs.MiddleWorldAnswers.{Rests}
use Rattle.pua_tight.proofs.Tightened.{given_self, without_within, action_twice, world_self, tried_same, line_within, thin_within, thin_same}
use Rattle.pua_tight.proofs.WithoutPiece.{lack_at, ask_mono, is_without, lacks_down, lacks_left, okay_less}
use Rattle.pua_tight.proofs.Worlds.{heads, tails}
use Rattle.pua_tight.proofs.Minimal.{compose, asks_self, prefix, same_self}
use Rattle.pua_tight.proofs.ThreeProcesses.{last_two, state_three}
use Rattle.pua_tight.proofs.ThreeWorlds.{ProcessesThree, three_nobody, three_somebody, WorldThree, GivenThree, null_three, unknown_three, good_three}
use Rattle.pua_tight.proofs.ThreeWorlds.{ActionThree, same_three, pledge_three, unveil_three, step_three, agree_three}

-- what the arguments of a pledge have of these promises
abbrev given_kept : ℕ → Given → ℕ
given_kept kept (Good set) = bit_and set kept
given_kept kept _ = 0

abbrev kept_in : ℕ → Action → ℕ × ℕ
kept_in kept (Pledge p e) = (given_kept kept p, given_kept kept e)
kept_in kept _ = (0, 0)

apart_bit : (s t e : ℕ) → s < 2 → t < 2 → e < 2 → min t e ≡ 0 → min ((s + min s t) % 2) e ≡ min s e
apart_bit s t e p q r f = omega arith

set_stays : (kept bit set : ℕ) → bit_and bit kept ≡ 0 → bit_and (lacking bit set) kept ≡ bit_and set kept
set_stays kept bit set apart = same_from_bits _ _ (λ i.
    let at : min (bit_at bit i) (bit_at kept i) ≡ 0 = sym (bit_at_and bit kept i) ∙ ap (λ n. bit_at n i) apart ∙ bit_at-zero i in
    bit_at_and (lacking bit set) kept i ∙ ap (λ x. min x (bit_at kept i)) (lack_at bit set i)
    ∙ apart_bit (bit_at set i) (bit_at bit i) (bit_at kept i) (bit_at-lt set i) (bit_at-lt bit i) (bit_at-lt kept i) at
    ∙ sym (bit_at_and set kept i))

given_stays : (kept bit : ℕ) (g : Given) → bit_and bit kept ≡ 0 → given_kept kept (given_without bit g) ≡ given_kept kept g
given_stays kept bit Null apart = refl
given_stays kept bit (Good set) apart = set_stays kept bit set apart
given_stays kept bit Unknown apart = refl

kept_stay : (kept : ℕ) (piece : Piece) (a : Action) → bit_and (promise_left piece) kept ≡ 0 → kept_in kept (action_without piece a) ≡ kept_in kept a
kept_stay kept (InPromises bit) (Pledge p e) apart = ap (λ x. (x, given_kept kept e)) (given_stays kept bit p apart)
kept_stay kept (InExecpromises bit) (Pledge p e) apart = ap (λ x. (given_kept kept p, x)) (given_stays kept bit e apart)
kept_stay kept (InVeil bit) (Pledge p e) apart = refl
kept_stay kept (InVeil bit) (Unveil path (Some perms)) apart = refl
kept_stay kept (InVeil bit) (Unveil path None) apart = refl
kept_stay kept (InPromises bit) _ apart = refl
kept_stay kept (InExecpromises bit) _ apart = refl
kept_stay kept (InVeil bit) _ apart = refl

-- a request that has less, and of these promises what the other has
record AskLess (kept : ℕ) (y x : Asked) : Type 0 where
  process : y.process ≡ x.process
  action : ActionWithin y.action x.action
  alike : kept_in kept y.action ≡ kept_in kept x.action

data AsksLess : ℕ → List Asked → List Asked → Type 0 where
  less_none : {kept : ℕ} → AsksLess kept [] []
  less_more : {kept : ℕ} {y x : Asked} {ys xs : List Asked} → AskLess kept y x → AsksLess kept ys xs → AsksLess kept (y ∷ ys) (x ∷ xs)

forget : {kept : ℕ} {ys xs : List Asked} → AsksLess kept ys xs → AsksWithin ys xs
forget less_none = no_asks
forget (less_more one rest) = asks (record { process = one.process; action = one.action }) (forget rest)

all_without : (kept : ℕ) (pieces : List Piece) (x : Asked) → ((piece : Piece) → IsPieceOf pieces piece → bit_and (promise_left piece) kept ≡ 0) →
    AskLess kept (without_all pieces x) x
all_without kept [] x apart = record { process = refl; action = as_given; alike = refl }
all_without kept (piece ∷ pieces) x apart =
    let rest = all_without kept pieces (without piece x) (λ p among. apart p (inr among)) in
    record {
      process = rest.process;
      action = action_twice rest.action (without_within piece x.action);
      alike = rest.alike ∙ kept_stay kept piece x.action (apart piece (inl refl));
    }

-- a piece that was left out is out
stays_out : (piece : Piece) (pieces : List Piece) (x : Asked) → IsPieceOf pieces piece →
    action_without piece (without_all pieces x).action ≡ (without_all pieces x).action
stays_out piece [] x among = absurd among
stays_out piece (other ∷ pieces) x (inr among) = stays_out piece pieces (without other x) among
stays_out piece (other ∷ pieces) x (inl is) =
    subst (λ p. action_without p (without_all pieces (without other x)).action ≡ (without_all pieces (without other x)).action) is
    (lacks_down other (within_all pieces (without other x)) (lacks_left other x.action))
  where
    within_all : (more : List Piece) (z : Asked) → ActionWithin (without_all more z).action z.action
    within_all [] z = as_given
    within_all (p ∷ more) z = action_twice (within_all more (without p z)) (without_within p z.action)

-- what has none of some pieces is within what is left without them
within_left : (pieces : List Piece) (x z : Asked) → AskWithin x z → ((piece : Piece) → IsPieceOf pieces piece → without piece x ≡ x) →
    AskWithin x (without_all pieces z)
within_left [] x z lies out = lies
within_left (piece ∷ pieces) x z lies out =
    within_left pieces x (without piece z)
    (subst (λ v. AskWithin v (without piece z)) (out piece (inl refl)) (ask_mono piece x z lies)) (λ p among. out p (inr among))

-- whether a request has a piece can be told
decide_given : (bit : ℕ) (g : Given) → (given_without bit g ≡ g) ⊎ (given_without bit g ≢ g)
decide_given bit Null = inl refl
decide_given bit Unknown = inl refl
decide_given bit (Good set) = by (lacking bit set == set) refl
  where
    set_in : Given → ℕ
    set_in (Good s) = s
    set_in _ = 0

    by : (b : Bool) → (lacking bit set == set) ≡ b → (given_without bit (Good set) ≡ Good set) ⊎ (given_without bit (Good set) ≢ Good set)
    by true e = inl (ap Good (eqb-true _ _ e))
    by false e = inr (λ same. let is : lacking bit set ≡ set = cc in false≢true (sym e ∙ eq-eqb _ _ is))

abbrev first_in : Action → Given
first_in (Pledge p e) = p
first_in _ = Null

abbrev second_in : Action → Given
second_in (Pledge p e) = e
second_in _ = Null

abbrev letters_in : Action → ℕ
letters_in (Unveil path (Some perms)) = perms
letters_in _ = 0

decide_action : (piece : Piece) (a : Action) → (action_without piece a ≡ a) ⊎ (action_without piece a ≢ a)
decide_action (InPromises bit) (Pledge p e) = by (decide_given bit p)
  where
    by : (given_without bit p ≡ p) ⊎ (given_without bit p ≢ p) → (Pledge (given_without bit p) e ≡ Pledge p e) ⊎ (Pledge (given_without bit p) e ≢ Pledge p e)
    by (inl is) = inl (ap (λ g. Pledge g e) is)
    by (inr other) = inr (λ same. other (ap first_in same))
decide_action (InExecpromises bit) (Pledge p e) = by (decide_given bit e)
  where
    by : (given_without bit e ≡ e) ⊎ (given_without bit e ≢ e) → (Pledge p (given_without bit e) ≡ Pledge p e) ⊎ (Pledge p (given_without bit e) ≢ Pledge p e)
    by (inl is) = inl (ap (λ g. Pledge p g) is)
    by (inr other) = inr (λ same. other (ap second_in same))
decide_action (InVeil bit) (Unveil path (Some perms)) = by (lacking bit perms == perms) refl
  where
    by : (b : Bool) → (lacking bit perms == perms) ≡ b →
        (Unveil path (Some (lacking bit perms)) ≡ Unveil path (Some perms)) ⊎ (Unveil path (Some (lacking bit perms)) ≢ Unveil path (Some perms))
    by true e = inl (ap (λ s. Unveil path (Some s)) (eqb-true _ _ e))
    by false e = inr (λ same. false≢true (sym e ∙ eq-eqb _ _ (ap letters_in same)))
decide_action (InVeil bit) (Unveil path None) = inl refl
decide_action (InVeil bit) (Pledge p e) = inl refl
decide_action (InPromises bit) _ = inl refl
decide_action (InExecpromises bit) _ = inl refl
decide_action (InVeil bit) _ = inl refl

left_bit : (a c t : ℕ) → a < 2 → c < 2 → t < 2 → (a + min a t) % 2 ≡ a → min ((c + min c t) % 2) (min c a) ≡ min c a
left_bit a c t p q r e = omega arith

pub left_has : (bit a c : ℕ) → lacking bit a ≡ a → holds (lacking bit c) (bit_and c a) ≡ true
left_has bit a c out = eq-eqb _ _ (same_from_bits _ _ (λ i.
    let at : (bit_at a i + min (bit_at a i) (bit_at bit i)) % 2 ≡ bit_at a i = sym (lack_at bit a i) ∙ ap (λ n. bit_at n i) out in
    bit_at_and (lacking bit c) (bit_and c a) i ∙ ap (λ x. min x (bit_at (bit_and c a) i)) (lack_at bit c i)
    ∙ ap (min ((bit_at c i + min (bit_at c i) (bit_at bit i)) % 2)) (bit_at_and c a i)
    ∙ left_bit (bit_at a i) (bit_at c i) (bit_at bit i) (bit_at-lt a i) (bit_at-lt c i) (bit_at-lt bit i) at ∙ sym (bit_at_and c a i)))

-- of one line: what the other script has of it, what is tried, and what it was before
given_tried : {kept : ℕ} (bit : ℕ) {p q r : Given} → GivenWithin p r → GivenWithin q r → given_kept kept p ≡ given_kept kept q →
    given_without bit p ≡ p → GivenThree kept p (given_without bit q) q
given_tried bit given_none given_none e out = null_three
given_tried bit given_unknown given_unknown e out = unknown_three
given_tried bit (given_less {a = a} less) (given_less {a = c} other) e out =
    good_three (left_has bit a c (ap set_in out)) e
  where
    set_in : Given → ℕ
    set_in (Good s) = s
    set_in _ = 0

given_beside : {kept : ℕ} {p q r : Given} → GivenWithin p r → GivenWithin q r → given_kept kept p ≡ given_kept kept q → GivenThree kept p q q
given_beside given_none given_none e = null_three
given_beside given_unknown given_unknown e = unknown_three
given_beside (given_less {a = a} less) (given_less {a = c} other) e = good_three (last_two a c) e

-- kinds of three requests
front_three : {kept : ℕ} {y x : Action} → ActionWithin y x → kept_in kept y ≡ kept_in kept x → ActionThree kept y x x
front_three as_given e = same_three
front_three (less_pledged {q = q} {f = f} first second) e =
    pledge_three (given_beside first (given_self q) (ap (λ z. z.0) e)) (given_beside second (given_self f) (ap (λ z. z.1) e))
front_three (less_unveiled {a = a} {b = b} less) e = unveil_three (last_two a b)

back_three : {kept : ℕ} {y x : Action} → ActionWithin y x → kept_in kept y ≡ kept_in kept x → ActionThree kept x y y
back_three as_given e = same_three
back_three (less_pledged {q = q} {f = f} first second) e =
    pledge_three (given_beside (given_self q) first (ap (λ z. z.0) (sym e))) (given_beside (given_self f) second (ap (λ z. z.1) (sym e)))
back_three (less_unveiled {a = a} {b = b} less) e = unveil_three (last_two b a)

-- a request within a pledge is a pledge, and one within an unveil of letters such an unveil
record IsPledge (y : Action) (q f : Given) : Type 0 where
  p : Given
  e : Given
  is : y ≡ Pledge p e
  first : GivenWithin p q
  second : GivenWithin e f

Wanted : Action → Action → Type 0
Wanted y (Pledge q f) = IsPledge y q f
Wanted y (Unveil path (Some b)) = (a : ℕ) × (y ≡ Unveil path (Some a)) × IsTrue (holds b a)
Wanted y x = y ≡ x

wanted_self : (x : Action) → Wanted x x
unfolding Wanted
wanted_self (Pledge q f) = record { p = q; e = f; is = refl; first = given_self q; second = given_self f }
wanted_self (Unveil path (Some b)) = (b, refl, holds_self b)
wanted_self (Unveil path None) = refl
wanted_self _ = refl

wanted : {y x : Action} → ActionWithin y x → Wanted y x
unfolding Wanted
wanted (as_given {action = action}) = wanted_self action
wanted (less_pledged {p = p} {e = e} first second) = record { p = p; e = e; is = refl; first = first; second = second }
wanted (less_unveiled {a = a} less) = (a, refl, less)

pledge_tried : {kept : ℕ} (piece : Piece) {p q r e f g : Given} → GivenWithin p r → GivenWithin q r → GivenWithin e g → GivenWithin f g →
    kept_in kept (Pledge p e) ≡ kept_in kept (Pledge q f) → action_without piece (Pledge p e) ≡ Pledge p e →
    ActionThree kept (Pledge p e) (action_without piece (Pledge q f)) (Pledge q f)
pledge_tried (InPromises bit) a b c d same out =
    pledge_three (given_tried bit a b (ap (λ z. z.0) same) (ap first_in out)) (given_beside c d (ap (λ z. z.1) same))
pledge_tried (InExecpromises bit) a b c d same out =
    pledge_three (given_beside a b (ap (λ z. z.0) same)) (given_tried bit c d (ap (λ z. z.1) same) (ap second_in out))
pledge_tried (InVeil bit) a b c d same out = pledge_three (given_beside a b (ap (λ z. z.0) same)) (given_beside c d (ap (λ z. z.1) same))

veil_tried : {kept : ℕ} (piece : Piece) (path : List ℕ) (a c : ℕ) → action_without piece (Unveil path (Some a)) ≡ Unveil path (Some a) →
    ActionThree kept (Unveil path (Some a)) (action_without piece (Unveil path (Some c))) (Unveil path (Some c))
veil_tried (InVeil bit) path a c out = unveil_three (left_has bit a c (ap letters_in out))
veil_tried (InPromises bit) path a c out = unveil_three (last_two a c)
veil_tried (InExecpromises bit) path a c out = unveil_three (last_two a c)

-- any other request has no pieces
unchanged : {kept : ℕ} (piece : Piece) (x y z : Action) → ((bit : ℕ) → action_without (InPromises bit) x ≡ x) →
    ((bit : ℕ) → action_without (InExecpromises bit) x ≡ x) → ((bit : ℕ) → action_without (InVeil bit) x ≡ x) → y ≡ x → z ≡ x →
    ActionThree kept y (action_without piece z) z
unchanged {kept = kept} piece x y z a b c is it = subst (λ v. ActionThree kept v (action_without piece z) z) (sym is)
    (subst (λ v. ActionThree kept x (action_without piece v) v) (sym it) (subst (λ v. ActionThree kept x v x) (sym (plain piece)) same_three))
  where
    plain : (p : Piece) → action_without p x ≡ x
    plain (InPromises bit) = a bit
    plain (InExecpromises bit) = b bit
    plain (InVeil bit) = c bit

tried : (kept : ℕ) (piece : Piece) (y z x : Action) → ActionWithin y x → ActionWithin z x → kept_in kept y ≡ kept_in kept z →
    action_without piece y ≡ y → ActionThree kept y (action_without piece z) z
unfolding Wanted
tried kept piece y z (Pledge q f) ly lz same out =
    let a = wanted ly in
    let b = wanted lz in
    subst (λ v. ActionThree kept v (action_without piece z) z) (sym a.is)
    (subst (λ v. ActionThree kept (Pledge a.p a.e) (action_without piece v) v) (sym b.is)
    (pledge_tried piece a.first b.first a.second b.second (ap (kept_in kept) (sym a.is) ∙ same ∙ ap (kept_in kept) b.is)
    (subst (λ v. action_without piece v ≡ v) a.is out)))
tried kept piece y z (Unveil path (Some s)) ly lz same out =
    let a = wanted ly in
    let b = wanted lz in
    subst (λ v. ActionThree kept v (action_without piece z) z) (sym a.1)
    (subst (λ v. ActionThree kept (Unveil path (Some a.0)) (action_without piece v) v) (sym b.1)
    (veil_tried piece path a.0 b.0
    (subst (λ v. action_without piece v ≡ v) a.1 out)))
tried kept piece y z (Unveil path None) ly lz same out =
    unchanged piece (Unveil path None) y z (λ bit. refl) (λ bit. refl) (λ bit. refl) (wanted ly) (wanted lz)
tried kept piece y z x ly lz same out = unchanged piece x y z (λ bit. refl) (λ bit. refl) (λ bit. refl) (wanted ly) (wanted lz)

-- what pledges and unveils lack makes no difference to what a script rests on
still_one : (kept : ℕ) (table : CallTable) {y x : Action} → ActionWithin y x → Rests kept table x → Rests kept table y
still_one kept table as_given one = one
still_one kept table (less_pledged p e) one = (tt, one.1)
still_one kept table (less_unveiled less) one = (tt, one.1)

abbrev AllRest : ℕ → CallTable → List Asked → Type 0
AllRest kept table [] = Unit {0}
AllRest kept table (ask ∷ more) = Rests kept table ask.action × AllRest kept table more

still_all : (kept : ℕ) (table : CallTable) {ys xs : List Asked} → AsksWithin ys xs → AllRest kept table xs → AllRest kept table ys
still_all kept table no_asks one = tt
still_all kept table (asks first rest) one = (still_one kept table first.action one.0, still_all kept table rest one.1)

-- a script that has less
all_agree : (kept : ℕ) (table : CallTable) (a b c : World) → WorldThree kept a b c → {ys xs : List Asked} → AllRest kept table ys → AsksLess kept ys xs →
    answers_to table a xs ≡ answers_to table c ys → answers_to table b ys ≡ answers_to table c ys
all_agree kept table a b c w one less_none e = refl
all_agree kept table a b c w one (less_more {y = y} {x = x} {ys = ys} {xs = xs} less rest) e =
    let outer : (apply table a x).0 ≡ (apply table c y).0 = heads _ _ _ _ e in
    let inner : (apply table b y).0 ≡ (apply table c y).0 = agree_three kept table a b c w x y one.0 less.process less.action outer in
    let next : WorldThree kept (apply table a x).1 (apply table b y).1 (apply table c y).1 =
    step_three kept table a b c w x y y less.process less.process (back_three less.action less.alike) as_given (outer ∙ sym inner) inner in
    ap (λ v. v ∷ answers_to table (apply table b y).1 ys) inner
    ∙ ap (λ v. (apply table c y).0 ∷ v) (all_agree kept table (apply table a x).1 (apply table b y).1 (apply table c y).1 next one.1 rest (tails _ _ _ _ e))

processes_three : {kept : ℕ} → holds kept error ≡ true → (hs : List (ℕ × ProcessState)) → ProcessesThree kept hs hs hs
processes_three erring [] = three_nobody
processes_three erring (one ∷ hs) = three_somebody (state_three erring one.1) (processes_three erring hs)

module _ (kept : ℕ) (table : CallTable) (w : World) (want : List Answer) where
  module _ (before after : List Asked) where
    line_kept : (ask : Asked) (pieces : List Piece) → ((piece : Piece) → IsPieceOf pieces piece → bit_and (promise_left piece) kept ≡ 0) →
        kept_in kept (thin_line table w want before after ask pieces).action ≡ kept_in kept ask.action
    line_kept ask [] apart = refl
    line_kept ask (piece ∷ pieces) apart =
        line_kept (try_piece table w want before after ask (without piece ask)) pieces (λ p among. apart p (inr among))
        ∙ by (same_answers (answers_to table w (before ++ without piece ask ∷ after)) want)
      where
        by : (b : Bool) → kept_in kept (cond {A = Asked} b (without piece ask) ask).action ≡ kept_in kept ask.action
        by true = kept_stay kept piece ask.action (apart piece (inl refl))
        by false = refl

    -- when a piece that is left was tried
    record Tried (start : Asked) (piece : Piece) (x : Asked) : Type 0 where
      ask : Asked
      below : AskLess kept ask start
      good : answers_to table w (before ++ ask ∷ after) ≡ want
      bad : same_answers (answers_to table w (before ++ without piece ask ∷ after)) want ≡ false

    abbrev ends : Asked → List Piece → Asked
    ends ask pieces = thin_line table w want before after ask pieces

    try_less : (ask : Asked) (piece : Piece) → bit_and (promise_left piece) kept ≡ 0 →
        AskLess kept (try_piece table w want before after ask (without piece ask)) ask
    try_less ask piece apart = by (same_answers (answers_to table w (before ++ without piece ask ∷ after)) want)
      where
        by : (b : Bool) → AskLess kept (cond b (without piece ask) ask) ask
        by true = record { process = refl; action = without_within piece ask.action; alike = kept_stay kept piece ask.action apart }
        by false = record { process = refl; action = as_given; alike = refl }

    search_trial : (start ask : Asked) (pieces : List Piece) (piece : Piece) → AskLess kept ask start → IsPieceOf pieces piece →
        answers_to table w (before ++ ask ∷ after) ≡ want → ((p : Piece) → IsPieceOf pieces p → bit_and (promise_left p) kept ≡ 0) →
        without piece (ends ask pieces) ≢ ends ask pieces → Tried start piece (ends ask pieces)
    search_trial start ask [] piece below among good apart left = absurd among
    search_trial start ask (other ∷ pieces) piece below (inr among) good apart left =
        let less : AskLess kept (try_piece table w want before after ask (without other ask)) ask = try_less ask other (apart other (inl refl)) in
        search_trial start (try_piece table w want before after ask (without other ask)) pieces piece
        (record { process = less.process ∙ below.process; action = action_twice less.action below.action; alike = less.alike ∙ below.alike }) among
        (tried_same table w want before after ask other good) (λ p a. apart p (inr a)) left
    search_trial start ask (other ∷ pieces) piece below (inl is) good apart left =
        subst (λ p. without p (ends ask (other ∷ pieces)) ≢ ends ask (other ∷ pieces) → Tried start p (ends ask (other ∷ pieces))) is
        (by (same_answers (answers_to table w (before ++ without other ask ∷ after)) want) refl) left
      where
        by : (b : Bool) → same_answers (answers_to table w (before ++ without other ask ∷ after)) want ≡ b →
            without other (ends (cond b (without other ask) ask) pieces) ≢ ends (cond b (without other ask) ask) pieces →
            Tried start other (ends (cond b (without other ask) ask) pieces)
        by true told left = absurd (left (is_without other (ends (without other ask) pieces) ask
            (line_within table w want before after (without other ask) pieces)))
        by false told left = record { ask = ask; below = below; good = good; bad = told }

    abbrev over : World
    over = world_after table w before

    -- what the other script left out of a line is left out of it
    refute : (a : World) (line : Line) (y : Asked) (ys : List Asked) → WorldThree kept a over over → answers_to table w (before ++ line.ask ∷ after) ≡ want →
        AskLess kept y line.ask → (piece : Piece) → IsPieceOf line.pieces piece → action_without piece y.action ≡ y.action →
        ((p : Piece) → IsPieceOf line.pieces p → bit_and (promise_left p) kept ≡ 0) → (apply table over line.ask).0 ≡ answer.Okay →
        (apply table a y).0 ≡ (apply table over line.ask).0 → AllRest kept table after → AsksLess kept after ys →
        answers_to table (apply table a y).1 ys ≡ answers_to table (apply table over line.ask).1 after →
        without piece (ends line.ask line.pieces) ≢ ends line.ask line.pieces → ⊥
    refute a line y ys three start less piece among out apart okay head one rest tail left =
        let found : Tried line.ask piece (ends line.ask line.pieces) = search_trial line.ask line.ask line.pieces piece
        (record { process = refl; action = as_given; alike = refl }) among start apart left in
        let ask : Asked = found.ask in
        let alike = prefix table (asks_self before) w w (world_self w) (ask ∷ after) (line.ask ∷ after) (found.good ∙ sym start) in
        let okay_ask : (apply table over ask).0 ≡ answer.Okay = heads _ _ _ _ alike.1 ∙ okay in
        let okay_mid : (apply table over (without piece ask)).0 ≡ answer.Okay = okay_less table over (without piece ask) ask
        (record { process = refl; action = without_within piece ask.action }) okay_ask in
        let same_process : ask.process ≡ y.process = found.below.process ∙ sym less.process in
        let worlds : WorldThree kept (apply table a y).1 (apply table over (without piece ask)).1 (apply table over ask).1 =
        step_three kept table a over over three y (without piece ask) ask same_process same_process
        (tried kept piece y.action ask.action line.ask.action less.action found.below.action (less.alike ∙ sym found.below.alike) out)
        (without_within piece ask.action)
        (head ∙ okay ∙ sym okay_mid) (okay_mid ∙ sym okay_ask) in
        let both : answers_to table (apply table over (without piece ask)).1 after ≡ answers_to table (apply table over ask).1 after =
        all_agree kept table (apply table a y).1 (apply table over (without piece ask)).1 (apply table over ask).1 worlds one rest
        (tail ∙ sym (tails _ _ _ _ alike.1)) in
        let from_line : answers_to table over (without piece ask ∷ after) ≡ answers_to table over (ask ∷ after) =
        ap (λ v. v ∷ answers_to table (apply table over (without piece ask)).1 after) (okay_mid ∙ sym okay_ask)
        ∙ ap (λ v. (apply table over ask).0 ∷ v) both in
        let whole : answers_to table w (before ++ without piece ask ∷ after) ≡ want =
        compose table w before (without piece ask ∷ after) ∙ ap (λ v. answers_to table w before ++ v) from_line
        ∙ sym (compose table w before (ask ∷ after)) ∙ found.good in
        false≢true (sym found.bad ∙ ap (λ v. same_answers v want) whole ∙ same_self want)

  least_from : (before : List Asked) (a : World) (lines : List Line) (less : List Asked) →
      WorldThree kept a (world_after table w before) (world_after table w before) → AllRest kept table (asks_of lines) →
      answers_to table w (before ++ asks_of lines) ≡ want → LeavesOut less lines → Stay kept lines → AreOkay table (world_after table w before) lines →
      answers_to table a less ≡ answers_to table (world_after table w before) (asks_of lines) → AsksLess kept (thin table w want before lines) less
  least_from before a [] [] three one good out spare okay e = less_none
  least_from before a [] (y ∷ ys) three one good out spare okay e = absurd out
  least_from before a (line ∷ lines) [] three one good out spare okay e = absurd out
  least_from before a (line ∷ lines) (y ∷ ys) three one good out spare okay e =
      let base : World = world_after table w before in
      let after : List Asked = thin table w want (before ++ line.ask ∷ []) lines in
      let pieces : List Piece = out.0.0 in
      let less : AskLess kept y line.ask = subst (λ v. AskLess kept v line.ask) (sym out.0.2)
      (all_without kept pieces line.ask (λ p among. spare.0 p (out.0.1 p among))) in
      let head : (apply table a y).0 ≡ (apply table base line.ask).0 = heads _ _ _ _ e in
      let next : WorldThree kept (apply table a y).1 (apply table base line.ask).1 (apply table base line.ask).1 =
      step_three kept table a base base three y line.ask line.ask (sym less.process) (sym less.process) (front_three less.action less.alike) as_given head refl in
      let is : world_after table w (before ++ line.ask ∷ []) ≡ (apply table base line.ask).1 = one_request_more table w before line.ask in
      let rest : AsksLess kept after ys = least_from (before ++ line.ask ∷ []) (apply table a y).1 lines ys
      (subst (λ u. WorldThree kept (apply table a y).1 u u) (sym is) next) one.1
      (ap (answers_to table w) (append_assoc before (line.ask ∷ []) (asks_of lines)) ∙ good) out.1 spare.1
      (subst (λ u. AreOkay table u lines) (sym is) okay.1) (tails _ _ _ _ e ∙ ap (λ u. answers_to table u (asks_of lines)) (sym is)) in
      let start : answers_to table w (before ++ line.ask ∷ after) ≡ want =
      ap (answers_to table w) (sym (append_assoc before (line.ask ∷ []) after))
      ∙ thin_same table w want (before ++ line.ask ∷ []) lines
      (ap (answers_to table w) (append_assoc before (line.ask ∷ []) (asks_of lines)) ∙ good) in
      let alike = prefix table (asks_self before) w w (world_self w) (line.ask ∷ after) (line.ask ∷ asks_of lines) (start ∙ sym good) in
      let tail : answers_to table (apply table a y).1 ys ≡ answers_to table (apply table base line.ask).1 after =
      tails _ _ _ _ e ∙ sym (tails _ _ _ _ alike.1) in
      let x : Asked = thin_line table w want before after line.ask line.pieces in
      let in_line : AskWithin x line.ask = line_within table w want before after line.ask line.pieces in
      let lack : (p : Piece) → IsPieceOf pieces p → without p x ≡ x = λ p among. lacks p x (decide_action p x.action)
      (refute before after a line y ys three start less p (out.0.1 p among)
      (subst (λ v. action_without p v.action ≡ v.action) (sym out.0.2) (stays_out p pieces line.ask among)) spare.0
      (okay.0 p (out.0.1 p among)) head (still_all kept table (thin_within table w want (before ++ line.ask ∷ []) lines) one.1) rest tail) in
      let in_less : AskWithin x y = subst (AskWithin x) (sym out.0.2) (within_left pieces x line.ask in_line lack) in
      less_more (record {
        process = in_less.process;
        action = in_less.action;
        alike = line_kept before after line.ask line.pieces spare.0 ∙ sym less.alike;
      }) rest
    where
      lacks : (p : Piece) (x : Asked) → (action_without p x.action ≡ x.action) ⊎ (action_without p x.action ≢ x.action) →
          (without p x ≢ x → ⊥) → without p x ≡ x
      lacks p x (inl is) never = ap (λ a. record { process = x.process; action = a }) is
      lacks p x (inr other) never = absurd (never (λ same. other (ap (λ v. v.action) same)))

-- what opens one of the requests is among what opens some
all_rest : (kept : ℕ) (table : CallTable) (more : List Asked) → RestOnOne table more → holds kept (openers table more) ≡ true → AllRest kept table more
all_rest kept table [] one lies = tt
all_rest kept table (ask ∷ more) one lies =
    let here : ℕ = opener_of table ask.action in
    let rest : ℕ = openers table more in (
      (one.0, holds_through kept (bit_or here rest) here lies (has_first here rest)),
      all_rest kept table more one.1 (holds_through kept (bit_or here rest) rest lies (has_second here rest)),
    )

pub tight_is_least : TightIsLeast
tight_is_least table w lines less one okay stay out e =
    let opened : ℕ = openers table (asks_of lines) in
    forget (least_from (bit_or error opened) table w (answers_to table w (asks_of lines)) [] w lines less
    (record { later = world_self w; shared = record { tree = refl; processes = processes_three (has_first error opened) w.processes } })
    (all_rest (bit_or error opened) table (asks_of lines) one (has_second error opened)) refl out stay okay e)
