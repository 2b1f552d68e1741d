-- What one request leaves of a process that can put no veil any more, whoever makes it.
use Rattle.pua_script.proofs.Common.{state_after, ◌≡◌, ℕ, [], ◌∷◌, Bool, true, false, cond, ◌&&◌, ◌||◌, refl, sym, ap, subst, ◌∙◌, inl, inr, Some}
use Rattle.pua_script.proofs.Common.{IsTrue, ◌==◌, false≢true, true≢false, eqb-true, eq-eqb}
use Rattle.pua_script.proofs.Common.{CallTable, ProcessState, Event, Pledged, Unveiled, Locked, Moved, Ended, Filed}
use Rattle.pua_script.proofs.Common.{is_ended, working_dir, Asked, World, Effect, Fails, Kills, Leaves, Copies, effect}
use Rattle.pua_script.proofs.Common.{kept_at, apply, answer_and_world, left_by, answer_to, IsConfined, is_exec, is_chdir, is_chroot, is_done}
use Rattle.pua_script.proofs.Common.{is_member, HasKept, Answer, Gone, Action}
use Rattle.pua_policy.specs.States.{SameVeils, ToDir, ToRoot, root_dir}
use Rattle.pua_policy.proofs.ForCallers.{state_never_grows}
use Rattle.pua_script.proofs.Entries.{found_here}
use Rattle.pua_script.specs.Worlds.{state_left}
use Rattle.pua_script.specs.Family.{is_okay}
use Rattle.pua_script.specs.Tightening.{EachRequestNarrows}
use Rattle.pua_script.proofs.ConfinedRequest.{is_step, GoesOn, Fine, fails, kills, leaves, copies, fine_effect, confined_after}
use Rattle.pua_script.proofs.Others.{IsNew, copied_apart, effect_is_new, others_leave}
use Rattle.pua_script.proofs.Allowing.{IsWithin, allows_no_more}

-- an event that is no unveil leaves the unveils, one that is no move the directory, and one that is no move of the root the root
same_unveils : (event : Event) (h : ProcessState) → IsTrue (is_step (true, true) event) → SameVeils (state_after event h) h
same_unveils (Unveiled place perms) h step = absurd (false≢true step)
same_unveils (Pledged p e) h step = record { any = refl; kept = λ place. refl }
same_unveils Locked h step = record { any = refl; kept = λ place. refl }
same_unveils (Moved dir) h step = record { any = refl; kept = λ place. refl }
same_unveils Ended h step = record { any = refl; kept = λ place. refl }
same_unveils (Filed number file) h step = record { any = refl; kept = λ place. refl }

same_dir : (root : Bool) (event : Event) (h : ProcessState) → IsTrue (is_step (false, root) event) →
    working_dir (state_after event h) ≡ working_dir h
same_dir root (Unveiled place perms) h step = absurd (false≢true step)
same_dir root (Pledged p e) h step = refl
same_dir root Locked h step = refl
same_dir root (Moved (ToDir dir)) h step = absurd (false≢true step)
same_dir root (Moved (ToRoot dir)) h step = refl
same_dir root Ended h step = refl
same_dir root (Filed number file) h step = refl

same_root : (dir : Bool) (event : Event) (h : ProcessState) → IsTrue (is_step (dir, false) event) →
    root_dir (state_after event h) ≡ root_dir h
same_root moved (Unveiled place perms) h step = absurd (false≢true step)
same_root moved (Pledged p e) h step = refl
same_root moved Locked h step = refl
same_root moved (Moved (ToDir dir)) h step = refl
same_root moved (Moved (ToRoot dir)) h step = absurd (false≢true step)
same_root moved Ended h step = refl
same_root moved (Filed number file) h step = refl

pub still_ended : (event : Event) (h : ProcessState) → is_ended (state_after event h) ≡ false → is_ended h ≡ false
still_ended (Unveiled place perms) h lives = lives
still_ended (Pledged p e) h lives = lives
still_ended Locked h lives = lives
still_ended (Moved dir) h lives = lives
still_ended Ended h lives = absurd (true≢false lives)
still_ended (Filed number file) h lives = lives

any_step : (m : Bool × Bool) (event : Event) → IsTrue (is_step m event) → IsTrue (is_step (true, true) event)
any_step m (Unveiled place perms) step = step
any_step m (Pledged p e) step = refl
any_step m Locked step = refl
any_step m (Moved (ToDir dir)) step = refl
any_step m (Moved (ToRoot dir)) step = refl
any_step m Ended step = refl
any_step m (Filed number file) step = refl

-- what a process has after its own request: the same unveils, no more promises but `error`, and its directory and its root
-- unless they may move
pub record Steps (moves : Bool × Bool) (before after : ProcessState) : Type 0 where
  pub within : IsWithin before after
  pub dir : moves.0 ≡ false → working_dir after ≡ working_dir before
  pub root : moves.1 ≡ false → root_dir after ≡ root_dir before

pub within_self : (h : ProcessState) → IsConfined h → IsWithin h h
within_self h confined =
    record { tightens = record { unveils = record { any = refl; kept = λ place. refl }; promises = λ set sound holding. holding; confined = confined }; ended = λ lives. lives }

pub within_twice : (a b c : ProcessState) → IsWithin a b → IsWithin b c → IsWithin a c
within_twice a b c first second = record {
  tightens = record {
    unveils = record {
      any = second.tightens.unveils.any ∙ first.tightens.unveils.any;
      kept = λ place. second.tightens.unveils.kept place ∙ first.tightens.unveils.kept place;
    };
    promises = λ set sound holding. first.tightens.promises set sound (second.tightens.promises set sound holding);
    confined = second.tightens.confined;
  };
  ended = λ lives. first.ended (second.ended lives);
}

steps : (m : Bool × Bool) (h after : ProcessState) → IsConfined h → GoesOn m h after → Steps m h after
steps m h after confined (inl same) = subst (Steps m h) (sym same) (record { within = within_self h confined; dir = λ still. refl; root = λ still. refl })
steps m h after confined (inr more) = subst (Steps m h) (sym more.2) (record {
  within = record {
    tightens = record {
      unveils = same_unveils more.0 h (any_step m more.0 more.1);
      promises = λ set sound holding. state_never_grows more.0 h set sound.0 sound.1 holding;
      confined = confined_after more.0 h confined;
    };
    ended = still_ended more.0 h;
  };
  dir = λ still. same_dir m.1 more.0 h (subst (λ b. IsTrue (is_step (b, m.1) more.0)) still more.1);
  root = λ still. same_root m.0 more.0 h (subst (λ b. IsTrue (is_step (m.0, b) more.0)) still more.1);
})

-- the state that such an effect leaves
goes_left : {m : Bool × Bool} {h : ProcessState} {e : Effect} → Fine m h e → GoesOn m h (state_left h e)
goes_left fails = inl refl
goes_left kills = inr (Ended, refl, refl)
goes_left (leaves goes) = goes
goes_left copies = inl refl

-- what is not answered ok is so
refused_fine : (m : Bool × Bool) (h : ProcessState) (e : Effect) → is_okay (answer_to e) ≡ false → Fine m h e
refused_fine m h (Fails errno) e = fails
refused_fine m h Kills e = kills
refused_fine m h (Leaves t after) e = absurd (true≢false e)
refused_fine m h (Copies new) e = copies

module _ (table : CallTable) (w : World) (h : ProcessState) (confined : IsConfined h) (action : Action) where
  abbrev does : Effect
  does = effect table w h action

  -- whether the request moves the process, and its root
  abbrev moves : Bool × Bool
  moves = (is_chdir action && is_okay (answer_to does), is_chroot action && is_okay (answer_to does))

  fine_request : (is_exec action && is_okay (answer_to does)) ≡ false → Fine moves h does
  fine_request none = by (is_okay (answer_to does)) refl none
    where
      by : (okay : Bool) → is_okay (answer_to does) ≡ okay → (is_exec action && okay) ≡ false → Fine moves h does
      by false told none = refused_fine moves h does told
      by true told none = fine_effect moves table w h action confined (and_left (is_exec action) none)
          (λ is. ap (λ b. b && is_okay (answer_to does)) is ∙ told) (λ is. ap (λ b. b && is_okay (answer_to does)) is ∙ told)
        where
          and_left : (a : Bool) → (a && true) ≡ false → a ≡ false
          and_left true e = e
          and_left false e = refl

  request_steps : (is_exec action && is_okay (answer_to does)) ≡ false → Steps moves h (state_left h does)
  request_steps none = steps moves h (state_left h does) confined (goes_left (fine_request none))

-- the state of the one that asked is what the effect leaves
pub left_here : (w : World) (process : ℕ) (h : ProcessState) (e : Effect) → IsNew w e → kept_at w process ≡ Some h →
    kept_at (left_by w process h e) process ≡ Some (state_left h e)
left_here w process h (Fails errno) new here = here
left_here w process h Kills new here = found_here process (state_after Ended h) w.processes
left_here w process h (Leaves t after) new here = found_here process after w.processes
left_here w process h (Copies made) new here = copied_apart w process made h new here

-- whether the one that asks did such an action and was answered ok
abbrev pub is_own : (Action → Bool) → CallTable → World → Asked → Bool
is_own kind table w ask = kind ask.action && is_okay (apply table w ask).0

module _ (table : CallTable) (w : World) (ask : Asked) (h : ProcessState) (confined : IsConfined h) where
  -- what is true of the world after a request of this process
  abbrev After : Answer × World → Type 0
  After done = (is_exec ask.action && is_okay done.0) ≡ false →
      HasKept done.1 ask.process (λ after. Steps (is_chdir ask.action && is_okay done.0, is_chroot ask.action && is_okay done.0) h after)

  after_served : kept_at w ask.process ≡ Some h → (ended : Bool) →
      After (cond {A = Answer × World} ended (Gone, w) (
        answer_to (effect table w h ask.action),
        left_by w ask.process h (effect table w h ask.action),
      ))
  after_served here true none = (h, here, record { within = within_self h confined; dir = λ still. refl; root = λ still. refl })
  after_served here false none =
      let e = effect table w h ask.action in (
        state_left h e,
        left_here w ask.process h e (effect_is_new table w h ask.action) here,
        request_steps table w h confined ask.action none,
      )

  pub own_request : kept_at w ask.process ≡ Some h → After (apply table w ask)
  own_request here = subst (λ o. After (answer_and_world table w ask o)) (sym here) (after_served here (is_ended h))

-- the request of anyone
pub is_one : (process other : ℕ) → is_member (process ∷ []) other ≡ (process == other)
is_one process other = by (process == other)
  where
    by : (b : Bool) → (b || false) ≡ b
    by true = refl
    by false = refl

module _ (table : CallTable) (w : World) (ask : Asked) (process : ℕ) (h : ProcessState) (here : kept_at w process ≡ Some h)
    (confined : IsConfined h)
    (none : is_done is_exec table w ask (process ∷ []) ≡ false) where
  abbrev moved_by : Bool × Bool
  moved_by = (is_done is_chdir table w ask (process ∷ []), is_done is_chroot table w ask (process ∷ []))

  own_or_other : (same : Bool) → (process == ask.process) ≡ same →
      HasKept (apply table w ask).1 process (λ after. Steps moved_by h after)
  own_or_other false other = (
    h,
    others_leave table w ask process h here (λ e. false≢true (sym other ∙ eq-eqb process ask.process (sym e))),
    record { within = within_self h confined; dir = λ still. refl; root = λ still. refl },
  )
  own_or_other true same =
      let is : process ≡ ask.process = eqb-true process ask.process same in
      let own = own_request table w ask h confined (sym (ap (kept_at w) is) ∙
      here) (sym (ap (λ b. b && is_own is_exec table w ask) (is_one process ask.process ∙ same)) ∙ none) in (
        own.0,
        ap (kept_at (apply table w ask).1) is ∙ own.1,
        subst (λ b. Steps b h own.0) (sym (ap (λ b. (b && is_own is_chdir table w ask, b && is_own is_chroot table w ask))
            (is_one process ask.process ∙ same))) own.2,
      )

  pub each_steps : HasKept (apply table w ask).1 process (λ after. Steps moved_by h after)
  each_steps = own_or_other (process == ask.process) refl

pub each_narrows : EachRequestNarrows
each_narrows table w ask process h here confined none =
    let after = each_steps table w ask process h here confined none in (
      after.0,
      after.1,
      record {
        tightens = after.2.within.tightens;
        allows = λ sound. allows_no_more table sound h after.0 after.2.within;
        dir = after.2.dir;
        root = after.2.root;
      },
    )
