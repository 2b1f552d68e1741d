-- What a process that can put no veil any more holds at any time, and whatever it forks and starts, where what is started
-- is bounded by the execpromises.
use Rattle.pua_ever.proofs.Common.{◌≡◌, ◌⊎◌, ℕ, List, [], ◌∷◌, Bool, true, false, cond, refl, sym, ap, subst, ◌∙◌, inl, inr}
use Rattle.pua_ever.proofs.Common.{Some, None, Option, same_Some, not, ◌&&◌, ◌||◌, list_any}
use Rattle.pua_ever.proofs.Common.{false≢true, or_left, or_right}
use Rattle.pua_ever.proofs.Common.{CallTable, execpromises_by, rule_of, ProcessState, SameVeils, has_veil, may_any, state_after, Asked, World, apply}
use Rattle.pua_ever.proofs.Common.{world_after, kept_at}
use Rattle.pua_ever.proofs.Common.{is_member, family_then}
use Rattle.pua_ever.proofs.Common.{NoCallNeedsError}
use Rattle.std.proofs.Common.{lit<}
use Rattle.std.proofs.lemmas.Bool.{false_from_ne_true, true≢false}
use Rattle.std.specs.List.{AllByRecursion}
use Rattle.std.specs.Prelude.{bit_and}
use Rattle.pua_calls.specs.Promises.{holds, unveil}
use Rattle.pua_calls.specs.Tables.{NamesNoError}
use Rattle.pua_calls.specs.declared.rules.ExecPromises.{ExecPromises}
use Rattle.pua_calls.specs.declared.rules.ExecPromises.TheVariants.{Unset, Stay}
use Rattle.pua_calls.specs.declared.call.Call.TheVariants as call
use Rattle.pua_policy.specs.States.{Event, Filed, Pledged, Unveiled, Locked, Moved, Ended, held_set, held_for_exec, is_locked, is_ended}
use Rattle.pua_policy.specs.States.{has_error, after_exec, meet, state_by_exec, veil_at}
use Rattle.pua_policy.specs.declared.answer.May.TheVariants.{Yes, Enosys, Death}
use Rattle.pua_policy.proofs.ForCallers.{state_never_grows, second_holds}
use Rattle.pua_script.specs.Family.{family, HasKept}
use Rattle.pua_script.proofs.ForCallers.{still_ended}
use Rattle.pua_script.specs.Laws.{IsConfined}
use Rattle.pua_ever.specs.Through.{AreWithin, HandsDown, HoldsOne, IsAlong, GoesAlong, FamiliesGoAlong, is_promised_by, is_bounded}
use Rattle.pua_ever.specs.Through.{stays, is_confined_through, bound_of, GoAlong}
use Rattle.pua_ever.proofs.KindsKept.{Keeps, Are, alone_are, own_kept, then_kept, after_kept}

-- who has the veils of one that has those of a third has these
alike : {a b c : ProcessState} → a.veils ≡ b.veils → SameVeils b c → SameVeils a c
alike e same = record { any = ap has_veil e ∙ same.any; kept = λ place. ap (λ vs. veil_at vs place) e ∙ same.kept place }

-- who is locked stays so
locked_more : (event : Event) (h : ProcessState) → is_locked h ≡ true → is_locked (state_after event h) ≡ true
locked_more Locked h locked = refl
locked_more (Pledged p e) h locked = locked
locked_more (Unveiled place perms) h locked = locked
locked_more (Moved dir) h locked = locked
locked_more Ended h locked = locked
locked_more (Filed number file) h locked = locked

-- promises never grow, but for `error`
within_more : (event : Event) (h : ProcessState) (others : ℕ) → AreWithin (held_set h) others → AreWithin (held_set (state_after event h)) others
within_more event h others within set sound holding = within set sound (state_never_grows event h set sound.0 sound.1 holding)

-- nor do execpromises once they are set
hands_more : (event : Event) (h : ProcessState) (given : ℕ) → HandsDown h given → HandsDown (state_after event h) given
hands_more (Pledged p (Some e)) h given hands = record {
  left = bit_and e hands.left;
  set = ap (λ o. Some (meet e o)) hands.set;
  within = λ set sound holding. hands.within set sound (second_holds e hands.left set holding);
}
hands_more (Pledged p None) h given hands = record { left = hands.left; set = hands.set; within = hands.within }
hands_more (Unveiled place perms) h given hands = record { left = hands.left; set = hands.set; within = hands.within }
hands_more Locked h given hands = record { left = hands.left; set = hands.set; within = hands.within }
hands_more (Moved dir) h given hands = record { left = hands.left; set = hands.set; within = hands.within }
hands_more Ended h given hands = record { left = hands.left; set = hands.set; within = hands.within }
hands_more (Filed number file) h given hands = record { left = hands.left; set = hands.set; within = hands.within }

-- what promises within others let through, those do
pub any_within : (promises others : ℕ) → AreWithin promises others → (sets : List ℕ) → AllByRecursion NamesNoError sets →
    list_any (holds promises) sets ≡ true → list_any (holds others) sets ≡ true
any_within promises others within [] sound e = e
any_within promises others within (set ∷ sets) sound e =
    by (holds promises set) refl e (any_within promises others within sets sound.1)
  where
    by : (b : Bool) → holds promises set ≡ b → (b || list_any (holds promises) sets) ≡ true →
        (list_any (holds promises) sets ≡ true → list_any (holds others) sets ≡ true) →
        (holds others set || list_any (holds others) sets) ≡ true
    by true is e more = or_left (holds others set) _ (within set sound.0 is)
    by false is e more = or_right (holds others set) _ (more e)

-- who may holds one of the sets
pub may_holds : (h : ProcessState) (sets : List ℕ) → may_any h sets ≡ Yes → list_any (holds (held_set h)) sets ≡ true
may_holds h sets = by (is_ended h) (list_any (holds (held_set h)) sets) (has_error h)
  where
    by : (a b c : Bool) → cond a Death (cond b Yes (cond c Enosys Death)) ≡ Yes → b ≡ true
    by true b c e = cc
    by false true c e = refl
    by false false true e = cc
    by false false false e = cc

-- what it is to be confined through execs, in parts
pub lock_parts : {l : Bool} (a b c : Bool) → l ≡ a → {u v : Bool} → u ≡ b → v ≡ c → (a || (not b && not c)) ≡ true →
    (l ≡ true) ⊎ ((u ≡ false) × (v ≡ false))
lock_parts true b c locked lacks lacks_too e = inl locked
lock_parts false false false locked lacks lacks_too e = inr (lacks, lacks_too)
lock_parts false true c locked lacks lacks_too e = absurd (false≢true e)
lock_parts false false true locked lacks lacks_too e = absurd (false≢true e)

module _ (table : CallTable) (sound : NoCallNeedsError table) (now : ProcessState) (given : ℕ) (bounded : is_bounded table given ≡ true) where
  abbrev Along : ProcessState → Type 0
  Along h = IsAlong table now given h

  abbrev Goes : ProcessState → Type 0
  Goes h = GoesAlong table now given h

  pub goes : (h : ProcessState) → Along h → Goes h
  goes h k = record { unveils = k.unveils; lock = k.lock; ended = k.ended; promises = inl k.promises }

  abbrev LockOf : ProcessState → Type 0
  LockOf h = (is_locked h ≡ true) ⊎ ((holds (held_set now) unveil ≡ false) × (holds given unveil ≡ false))

  lock_more : (event : Event) (h : ProcessState) → LockOf h → LockOf (state_after event h)
  lock_more event h lock = elim lock [ inl locked ↦ inl (locked_more event h locked) | inr lacking ↦ inr lacking ]

  holds_more : (event : Event) (h : ProcessState) → HoldsOne table now given h → HoldsOne table now given (state_after event h)
  holds_more event h one = elim one [
    | inl own ↦ inl (within_more event h (held_set now) own.0, hands_more event h given own.1)
    | inr later ↦ inr (
      within_more event h given later.0,
      elim later.1 [ inl hands ↦ inl (hands_more event h given hands) | inr none ↦ inr none ],
    )
  ]

  -- who can start nothing never can
  starts_none : (event : Event) (h : ProcessState) → is_promised_by table (held_set h) call.Exec ≡ false →
      is_promised_by table (held_set (state_after event h)) call.Exec ≡ false
  starts_none event h none = false_from_ne_true _ (λ starts. false≢true (sym none ∙
      any_within (held_set (state_after event h)) (held_set h) (within_more event h (held_set h) (λ set fine holding. holding))
      (rule_of table call.Exec).alternatives (sound.calls call.Exec) starts))

  along_more : (event : Event) (h : ProcessState) → (state_after event h).veils ≡ h.veils → Along h → Along (state_after event h)
  along_more event h same k = record {
    unveils = alike same k.unveils;
    lock = lock_more event h k.lock;
    ended = λ lives. k.ended (still_ended event h lives);
    promises = holds_more event h k.promises;
  }

  goes_more : (event : Event) (h : ProcessState) → (state_after event h).veils ≡ h.veils → Goes h → Goes (state_after event h)
  goes_more event h same k = record {
    unveils = alike same k.unveils;
    lock = lock_more event h k.lock;
    ended = λ lives. k.ended (still_ended event h lives);
    promises = elim k.promises [
      | inl one ↦ inl (holds_more event h one)
      | inr none ↦ inr (within_more event h (held_set now) none.0, starts_none event h none.1)
    ];
  }

  -- who hands promises down starts a program that holds them
  module _ (h : ProcessState) (k : Goes h) (hands : HandsDown h given) where
    abbrev started : ExecPromises → ProcessState
    started left = state_by_exec left (Some hands.left) h

    hands_then : (left : ExecPromises) → left ≡ (execpromises_by table.whose) →
        HandsDown (started left) given ⊎ (is_promised_by table given call.Exec ≡ false)
    hands_then Stay is = inl (record { left = hands.left; set = refl; within = hands.within })
    hands_then Unset is = inr (by (is_promised_by table given call.Exec) (ap (λ l. stays l || not (is_promised_by table given call.Exec)) is
        ∙ bounded))
      where
        by : (b : Bool) → not b ≡ true → b ≡ false
        by true e = absurd (false≢true e)
        by false e = refl

    along_started : Along (after_exec (execpromises_by table.whose) h)
    along_started = subst (λ o. Along (state_by_exec (execpromises_by table.whose) o h)) (sym hands.set) (record {
      unveils = record { any = k.unveils.any; kept = k.unveils.kept };
      lock = k.lock;
      ended = k.ended;
      promises = inr (hands.within, hands_then (execpromises_by table.whose) refl);
    })

  started_by_one : (h : ProcessState) → Goes h → HoldsOne table now given h → may_any h (rule_of table call.Exec).alternatives ≡ Yes →
      Along (after_exec (execpromises_by table.whose) h)
  started_by_one h k one may = elim one [
    | inl own ↦ along_started h k own.1
    | inr later ↦ elim later.1 [
      | inl hands ↦ along_started h k hands
      | inr none ↦ absurd (false≢true (sym none ∙ any_within (held_set h) given later.0 (rule_of table call.Exec).alternatives
          (sound.calls call.Exec) (may_holds h (rule_of table call.Exec).alternatives may)))
    ]
  ]

  goes_program : (h : ProcessState) → Goes h → may_any h (rule_of table call.Exec).alternatives ≡ Yes → Goes (after_exec (execpromises_by table.whose) h)
  goes_program h k may = elim k.promises [
    | inl one ↦ goes (after_exec (execpromises_by table.whose) h) (started_by_one h k one may)
    | inr none ↦ absurd (false≢true (sym none.1 ∙ may_holds h (rule_of table call.Exec).alternatives may))
  ]

  -- who goes along can put no veil
  pub lacks_unveil : (h : ProcessState) → Goes h → IsConfined h
  lacks_unveil h k = elim k.lock [
    | inl locked ↦ inl locked
    | inr lacking ↦ inr (false_from_ne_true _ (λ holding. elim k.promises [
      | inl one ↦ elim one [
        | inl own ↦ false≢true (sym lacking.0 ∙ own.0 unveil (lit< tt, refl) holding)
        | inr later ↦ false≢true (sym lacking.1 ∙ later.0 unveil (lit< tt, refl) holding)
      ]
      | inr none ↦ false≢true (sym lacking.0 ∙ none.0 unveil (lit< tt, refl) holding)
    ]))
  ]

  no_unveil : (h : ProcessState) → Goes h → may_any h (unveil ∷ []) ≡ Yes → is_locked h ≡ false → ⊥
  no_unveil h k may unlocked = elim (lacks_unveil h k) [
    | inl locked ↦ true≢false (sym locked ∙ unlocked)
    | inr lacking ↦ false≢true (sym (ap (λ b. b || false) lacking) ∙ may_holds h (unveil ∷ []) may)
  ]

  keeps_along : Keeps table Along
  keeps_along = record {
    more = along_more;
    program = λ h k may. started_by_one h (goes h k) k.promises may;
    veils = λ h k. no_unveil h (goes h k);
  }

  keeps_going : Keeps table Goes
  keeps_going = record { more = goes_more; program = goes_program; veils = no_unveil }

  -- the members
  pub own : (w : World) (ask : Asked) (members : List ℕ) → GoAlong table w now given members → is_member members ask.process ≡ true →
      HasKept (apply table w ask).1 ask.process Goes
  own w ask members are = own_kept table Goes keeps_going w ask members are

  pub along_then : (w : World) (ask : Asked) (members : List ℕ) → GoAlong table w now given members →
      GoAlong table (apply table w ask).1 now given (family_then table w ask members)
  along_then w ask members are = then_kept table Goes keeps_going w ask members are

  pub along_after : (asks : List Asked) (w : World) (members : List ℕ) → GoAlong table w now given members →
      GoAlong table (world_after table w asks) now given (family table w asks members)
  along_after asks w members are = after_kept table Goes keeps_going asks w members are

  -- at the beginning the process is the only member
  pub along_now : held_for_exec now ≡ Some given → is_confined_through now given ≡ true → Along now
  along_now set confined = record {
    unveils = record { any = refl; kept = λ place. refl };
    lock = lock_parts (is_locked now) (holds (held_set now) unveil) (holds given unveil) refl refl refl confined;
    ended = λ lives. lives;
    promises = inl (λ set fine holding. holding, record { left = given; set = set; within = λ set fine holding. holding });
  }

  pub along_first : (w : World) (process : ℕ) → kept_at w process ≡ Some now → held_for_exec now ≡ Some given →
      is_confined_through now given ≡ true → GoAlong table w now given (process ∷ [])
  along_first w process here set confined = alone_are Goes w process now here (goes now (along_now set confined))

  pub family_along : (asks : List Asked) (w : World) (process : ℕ) → kept_at w process ≡ Some now → held_for_exec now ≡ Some given →
      is_confined_through now given ≡ true → Are Along (world_after table w asks) (family table w asks (process ∷ []))
  family_along asks w process here set confined =
      after_kept table Along keeps_along asks w (process ∷ []) (alone_are Along w process now here (along_now set confined))

-- what the bound says of the execpromises
pub record Bound (table : CallTable) (now : ProcessState) (given : ℕ) : Type 0 where
  pub set : held_for_exec now ≡ Some given
  pub bounded : is_bounded table given ≡ true
  pub confined : is_confined_through now given ≡ true

pub bound_parts : (table : CallTable) (now : ProcessState) (given : ℕ) → bound_of table now ≡ Some given → Bound table now given
bound_parts table now given bound = by (held_for_exec now) refl
  where
    only : (a b : Bool) (left : ℕ) → cond (a && b) (Some left) None ≡ Some given → (left ≡ given) × (a ≡ true) × (b ≡ true)
    only true true left e = (same_Some left given e, refl, refl)
    only true false left e = let never : None ≡ Some given = e in cc
    only false b left e = let never : None ≡ Some given = e in cc

    by : (o : Option ℕ) → held_for_exec now ≡ o → Bound table now given
    by None set = let never : None ≡ Some given = rw set at bound in cc
    by (Some left) set =
        let e : cond (is_bounded table left && is_confined_through now left) (Some left) None ≡ Some given = rw set at bound in
        let parts = only (is_bounded table left) (is_confined_through now left) left e in
        record {
          set = set ∙ ap Some parts.0;
          bounded = sym (ap (is_bounded table) parts.0) ∙ parts.1;
          confined = sym (ap (is_confined_through now) parts.0) ∙ parts.2;
        }

pub families_go_along : FamiliesGoAlong
families_go_along table sound w asks process now given here bound =
    let parts = bound_parts table now given bound in
    family_along table sound now given parts.bounded asks w process here parts.set parts.confined
