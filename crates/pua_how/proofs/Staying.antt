-- A call that changes nothing leaves the world as it was.
use Rattle.std.proofs.Common.{◌≡◌, ℕ, List, refl, sym, ap, subst, ◌∙◌, Option, Some}
use Rattle.std.specs.Prelude.{Ok}
use Rattle.pua_tree.proofs.ForCallers.{None≢Some}
use Rattle.pua_calls.specs.Calls.{CallTable, effect_of}
use Rattle.pua_calls.specs.declared.call.Call.{Call}
use Rattle.pua_calls.specs.declared.call.Call.TheVariants as calls
use Rattle.pua_calls.specs.declared.effect.Effect.TheVariants as effect
use Rattle.pua_policy.specs.States.{ProcessState}
use Rattle.pua_policy.specs.declared.answer.Refusal.{Refusal}
use Rattle.pua_policy.specs.declared.answer.Refusal.TheVariants as refusals
use Rattle.pua_script.specs.Requests.{Asked}
use Rattle.pua_script.specs.Decide.{Change, NoChange, change_in, decide}
use Rattle.pua_script.specs.Replay.{World, Effect, answer_to, apply, change_effect, kept_at, left_by, refusal_effect}
use Rattle.pua_script.specs.Worlds.{WorldState, apply_to, with_world, world_of}
use Rattle.pua_script.specs.declared.answer.Answer.{Answer}
use Rattle.pua_script.specs.declared.answer.Answer.TheVariants as answers
use Rattle.pua_script.specs.declared.request.Action.{Action}
use Rattle.pua_script.specs.declared.request.Action.TheVariants.{OnPath, Symlink, Rename, Link, Pledge, Unveil, Lock, Fork, Exit, Uses, Hold, Close, Fchdir, Take, Comment}
use Rattle.pua_script.proofs.ForCallers.{by_request, by_decision, decisions_are_guarded, put_back}
use Rattle.pua_how.specs.Ways.{call_of}
use Rattle.pua_script.specs.declared.request.Action.TheVariants.{Chroot}

module _ (w : World) (process : ℕ) (h : ProcessState) (here : kept_at w process ≡ Some h) where
  -- where it is answered `ok`, what it leaves is the world
  abbrev Stays : Effect → Type 0
  Stays e = answer_to e ≡ answers.Okay → left_by w process h e ≡ w

  refused_stays : (r : Refusal) → Stays (refusal_effect r)
  refused_stays (refusals.Failed errno) told = refl
  refused_stays refusals.Killed told = cc

  unchanged_stays : (c : Change) → c ≡ NoChange → Stays (change_effect w h c)
  unchanged_stays c is =
      subst (λ c. Stays (change_effect w h c)) (sym is)
      (λ told. ap (λ entries. record w { processes = entries }) (put_back process h w.processes here))

look_stays : (table : CallTable) (w : World) (ask : Asked) (call : Call) (text : List ℕ) → ask.action ≡ OnPath call text →
    effect_of call ≡ effect.Looks → (apply table w ask).0 ≡ answers.Okay → (apply table w ask).1 ≡ w
look_stays table w ask call text action looks =
    by_request table w ask (λ done. done.0 ≡ answers.Okay → done.1 ≡ w) (λ told. refl)
    (λ h here. by_decision w h (Stays w ask.process h here) (decide table w.tree h ask.action) (refused_stays w ask.process h here)
    (λ c is. unchanged_stays w ask.process h here c
    (changes h c (ap (decide table w.tree h) (sym action) ∙ is))))
  where
    changes : (h : ProcessState) (c : Change) → decide table w.tree h (OnPath call text) ≡ Ok c → c ≡ NoChange
    changes h c decided =
        let is = decisions_are_guarded table w.tree h (OnPath call text) c decided in
        is.2 ∙ ap (λ e. change_in table e is.0) looks

same_two : (one other : Call × List ℕ) → Some one ≡ Some other → one ≡ other
same_two one other same = cc

-- a call on one path that changes nothing, as a request asks for it
pub look_leaves : (table : CallTable) (w : World) (ask : Asked) (call : Call) (text : List ℕ) → call_of ask.action ≡ Some (call, text) →
    effect_of call ≡ effect.Looks → (apply table w ask).0 ≡ answers.Okay → (apply table w ask).1 ≡ w
look_leaves table w ask call text called looks = by ask.action refl called
  where
    by : (action : Action) → ask.action ≡ action → call_of action ≡ Some (call, text) → (apply table w ask).0 ≡ answers.Okay → (apply table w ask).1 ≡ w
    by (OnPath other path) is same = look_stays table w ask call text (is ∙ one same) looks
      where
        one : ◌≡◌ {A = Option (Call × List ℕ)} (Some (other, path)) (Some (call, text)) → OnPath other path ≡ OnPath call text
        one same = ap (λ (two : Call × List ℕ). OnPath two.0 two.1) (same_two (other, path) (call, text) same)
    by (Symlink target path) is same = absurd (makes (one same))
      where
        one : ◌≡◌ {A = Option (Call × List ℕ)} (Some (calls.Symlink, path)) (Some (call, text)) → calls.Symlink ≡ call
        one same = ap (λ (two : Call × List ℕ). two.0) (same_two (calls.Symlink, path) (call, text) same)

        apart : effect_of calls.Symlink ≡ effect.Looks → ⊥
        apart is = cc

        makes : calls.Symlink ≡ call → ⊥
        makes same = apart (ap effect_of same ∙ looks)
    by (Rename old new) is same = absurd (None≢Some (call, text) same)
    by (Link old new) is same = absurd (None≢Some (call, text) same)
    by (Pledge promises execpromises) is same = absurd (None≢Some (call, text) same)
    by (Unveil path perms) is same = absurd (None≢Some (call, text) same)
    by Lock is same = absurd (None≢Some (call, text) same)
    by (Fork new) is same = absurd (None≢Some (call, text) same)
    by Exit is same = absurd (None≢Some (call, text) same)
    by (Uses sets) is same = absurd (None≢Some (call, text) same)
    by (Hold number other path) is same = absurd (None≢Some (call, text) same)
    by (Close number) is same = absurd (None≢Some (call, text) same)
    by (Fchdir number) is same = absurd (None≢Some (call, text) same)
    by (Chroot path) is same = absurd (None≢Some (call, text) same)
    by (Take number from theirs) is same = absurd (None≢Some (call, text) same)
    by Comment is same = absurd (None≢Some (call, text) same)

-- the same of a state of a world, in which such a request was answered `ok`
pub look_kept : (s after : WorldState) (ask : Asked) (call : Call) (text : List ℕ) (answer : Answer) →
    ◌≡◌ {A = Answer × WorldState} (answer, after) (apply_to s ask) → answer ≡ answers.Okay → call_of ask.action ≡ Some (call, text) →
    effect_of call ≡ effect.Looks → after ≡ s
look_kept s after ask call text answer served okay called looks =
    ap (λ (done : Answer × WorldState). done.1) served
    ∙ ap (with_world s) (look_leaves s.table (world_of s) ask call text called looks
    (sym (ap (λ (done : Answer × WorldState). done.0) served) ∙ okay))
