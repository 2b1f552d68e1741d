-- A request was not served, or decided upon.
use Rattle.pua_script.proofs.Common.{◌≡◌, Bool, true, false, cond, refl, sym, subst, ◌∙◌, ℕ, Option, Some, None, Ok, Err, CallTable}
use Rattle.pua_script.proofs.Common.{ProcessState, is_ended, Asked, Change, Decision, decide, World, Effect, Fails, Kills, Leaves, Copies}
use Rattle.pua_script.proofs.Common.{kept_at, answer_and_world, apply, left_by, change_effect, come_of, Refusal, Failed, Killed, Tree}
use Rattle.pua_script.proofs.Common.{tree_left, Answer, Gone}
use Rattle.pua_script.specs.Replay.{do_decided, refusal_effect}
use Rattle.pua_script.specs.Guards.{IsDecided}
use Rattle.pua_script.proofs.Guarding.{decisions_are_guarded}

module _ (table : CallTable) (w : World) (ask : Asked) where
  -- what is so of a world that stays and of each decision is so of the request
  pub by_request : (P : Answer × World → Type 0) → P (Gone, w) → ((h : ProcessState) → kept_at w ask.process ≡ Some h →
      P (do_decided w ask.process h (decide table w.tree h ask.action))) → P (apply table w ask)
  by_request P gone decided = by (kept_at w ask.process) refl
    where
      living : (h : ProcessState) (b : Bool) → kept_at w ask.process ≡ Some h →
          P (cond b (Gone, w) (do_decided w ask.process h (decide table w.tree h ask.action)))
      living h true here = gone
      living h false here = decided h here

      by : (o : Option ProcessState) → kept_at w ask.process ≡ o → P (answer_and_world table w ask o)
      by None here = gone
      by (Some h) here = living h (is_ended h) here

  -- the same where the state is known
  pub by_living : (h : ProcessState) → kept_at w ask.process ≡ Some h → (P : Answer × World → Type 0) → P (Gone, w) →
      P (do_decided w ask.process h (decide table w.tree h ask.action)) → P (apply table w ask)
  by_living h here P gone decided = by_request P gone (λ g at. let same : h ≡ g = one h g (sym here ∙ at) in
      subst (λ k. P (do_decided w ask.process k (decide table w.tree k ask.action))) same decided)
    where
      one : (a b : ProcessState) → Some a ≡ Some b → a ≡ b
      one a b e = cc

-- what is so of each refusal and of each change that was decided is so of a decision
pub by_decision : (w : World) (h : ProcessState) (P : Effect → Type 0) (d : Decision) → ((r : Refusal) → P (refusal_effect r)) →
    ((c : Change) → d ≡ Ok c → P (change_effect w h c)) → P (come_of w h d)
by_decision w h P (Ok c) refusing changing = changing c refl
by_decision w h P (Err r) refusing changing = refusing r

-- the world that an effect leaves has the tree that it leaves
pub left_tree : (w : World) (process : ℕ) (h : ProcessState) (e : Effect) → (left_by w process h e).tree ≡ tree_left w.tree e
left_tree w process h (Fails errno) = refl
left_tree w process h Kills = refl
left_tree w process h (Leaves t after) = refl
left_tree w process h (Copies new) = refl

-- what is so of the tree and of what each change makes of it, once its guards are passed, is so of the tree after the request
pub by_tree : (table : CallTable) (w : World) (ask : Asked) (P : Tree → Type 0) → P w.tree
    → ((h : ProcessState) → kept_at w ask.process ≡ Some h → (c : Change) → IsDecided table w.tree h ask.action c →
    P (tree_left w.tree (change_effect w h c))) → P (apply table w ask).1.tree
by_tree table w ask P stays changing = by_request table w ask (λ done. P done.1.tree) stays λ h here.
    let decision : Decision = decide table w.tree h ask.action in
    subst P (sym (left_tree w ask.process h (come_of w h decision)))
    (by_decision w h (λ e. P (tree_left w.tree e)) decision refusing
    (λ c is. changing h here c (decisions_are_guarded table w.tree h ask.action c is)))
  where
    refusing : (r : Refusal) → P (tree_left w.tree (refusal_effect r))
    refusing (Failed errno) = stays
    refusing Killed = stays

-- the same where the state is known
pub by_own_tree : (table : CallTable) (w : World) (ask : Asked) (h : ProcessState) → kept_at w ask.process ≡ Some h → (P : Tree → Type 0) →
    P w.tree
    → ((c : Change) → IsDecided table w.tree h ask.action c → P (tree_left w.tree (change_effect w h c))) → P (apply table w ask).1.tree
by_own_tree table w ask h here P stays changing = by_tree table w ask P stays
    (λ g at. subst (λ k. (c : Change) → IsDecided table w.tree k ask.action c →
    P (tree_left w.tree (change_effect w k c))) (one h g (sym here ∙ at)) changing)
  where
    one : (a b : ProcessState) → Some a ≡ Some b → a ≡ b
    one a b e = cc
