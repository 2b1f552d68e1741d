-- What becomes of a family whose members may become other programs that may do no more.
use Rattle.pua_ever.proofs.Common.{◌≡◌, ◌==◌, ◌&&◌, ◌∙◌, ℕ, List, [], ◌∷◌, Bool, true, false, cond, refl, sym, ap, not, and_parts, not-true}
use Rattle.pua_ever.proofs.Common.{false≢true, eq-eqb, eqb-true, CallTable, ProcessState, Asked, World, apply, kept_at, world_after}
use Rattle.pua_ever.proofs.Common.{is_member, is_exec, is_done, none_done, family_then, Members, members_then, Action, OnPath, Symlink}
use Rattle.pua_ever.proofs.Common.{Rename, Link, Pledge, Unveil, Lock, Fork, Exit, Uses, Hold, Close, Fchdir, Take, Comment}
use Rattle.pua_script.specs.Family.{family, is_okay, with_child, HasKept}
use Rattle.pua_script.proofs.ForCallers.{Belongs, others_leave}
use Rattle.pua_ever.specs.Laws.{LoosensNone, NoExecLoosens}
use Rattle.pua_script.specs.declared.request.Action.TheVariants.{Chroot}

-- an exec makes no process
no_child : (action : Action) (members : List ℕ) → is_exec action ≡ true → with_child action members ≡ members
no_child (OnPath call path) members e = refl
no_child (Symlink target path) members e = refl
no_child (Rename old new) members e = refl
no_child (Link old new) members e = refl
no_child (Pledge p x) members e = refl
no_child (Unveil path perms) members e = refl
no_child Lock members e = refl
no_child (Fork new) members e = absurd (false≢true e)
no_child Exit members e = refl
no_child (Uses sets) members e = refl
no_child (Hold number call path) members e = refl
no_child (Close number) members e = refl
no_child (Fchdir number) members e = refl
no_child (Chroot path) members e = refl
no_child (Take number from theirs) members e = refl
no_child Comment members e = refl

module _ (table : CallTable) (now : ProcessState) where
  module _ (w : World) (ask : Asked) (members : List ℕ) (are : Members w members now false) (spares : LoosensNone table now w ask members)
    where
      same_family : is_exec ask.action ≡ true → family_then table w ask members ≡ members
      same_family exec = by (is_member members ask.process && is_okay (apply table w ask).0)
        where
          by : (b : Bool) → cond b (with_child ask.action members) members ≡ members
          by true = no_child ask.action members exec
          by false = refl

      behind_exec : is_done is_exec table w ask members ≡ true → (m : ℕ) → is_member members m ≡ true →
          HasKept (apply table w ask).1 m (Belongs now false)
      behind_exec done m belongs = by (m == ask.process) refl
        where
          by : (b : Bool) → (m == ask.process) ≡ b → HasKept (apply table w ask).1 m (Belongs now false)
          by true e =
              let one = spares done in (
                one.0,
                ap (kept_at (apply table w ask).1) (eqb-true m ask.process e) ∙ one.1,
                record { within = record { tightens = one.2.0; ended = one.2.1 }; dir = λ x. absurd (false≢true x) },
              )
          by false e =
              let one = are m belongs in (
                one.0,
                others_leave table w ask m one.0 one.1 (λ same. absurd (false≢true (sym e ∙ eq-eqb m ask.process (sym same)))),
                record { within = one.2.within; dir = λ x. absurd (false≢true x) },
              )

      pub members_still : Members (apply table w ask).1 (family_then table w ask members) now false
      members_still = by (is_done is_exec table w ask members) refl
        where
          by : (b : Bool) → is_done is_exec table w ask members ≡ b → Members (apply table w ask).1 (family_then table w ask members) now false
          by false e = members_then table now w ask members false are e
          by true e = λ m belongs.
              let asked = and_parts (is_member members ask.process) _ e in
              let exec = and_parts (is_exec ask.action) _ asked.1 in
              behind_exec e m (ap (λ all. is_member all m) (sym (same_family exec.0)) ∙ belongs)

  pub members_along : (asks : List Asked) (w : World) (members : List ℕ) → Members w members now false →
      NoExecLoosens table now w asks members → Members (world_after table w asks) (family table w asks members) now false
  members_along [] w members are spares = are
  members_along (ask ∷ asks) w members are spares =
      members_along asks (apply table w ask).1 (family_then table w ask members) (members_still w ask members are spares.0) spares.1

  -- where no exec is answered ok, none loosens
  pub none_loosens : (asks : List Asked) (w : World) (members : List ℕ) → none_done is_exec table w asks members ≡ true →
      NoExecLoosens table now w asks members
  none_loosens [] w members none = tt
  none_loosens (ask ∷ asks) w members none =
      let parts = and_parts (not (is_done is_exec table w ask members)) _ none in (
        λ e. absurd (false≢true (sym (not-true (is_done is_exec table w ask members) parts.0) ∙ e)),
        none_loosens asks (apply table w ask).1 (family_then table w ask members) parts.1,
      )
