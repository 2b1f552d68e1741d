-- What a list of requests of a family leaves of the tree.
use Rattle.pua_policy.specs.States.{SameVeils}
use Rattle.pua_script.proofs.Common.{◌≡◌, ℕ, List, [], ◌∷◌, Bool, true, false, refl, sym, ap, ◌∙◌, ◌||◌, list_any, AllByRecursion, false≢true, and_parts}
use Rattle.pua_script.proofs.Common.{not-true, Tree, WellFormed, holds, CallTable, ProcessState, held_set, Asked, World, apply}
use Rattle.pua_script.proofs.Common.{world_after, is_member, is_exec, is_done, UncoveredStay, object_in, has_c}
use Rattle.std.specs.Prelude.{not}
use Rattle.std.proofs.lemmas.Bool.{or_parts}
use Rattle.pua_calls.specs.Tables.{NamesNoError}
use Rattle.pua_script.specs.Family.{none_done, members_alone, family_then}
use Rattle.pua_script.specs.Confinement.{TakingNeedsC, ChangingNeeds, TreesAlong, FamiliesConfine}
use Rattle.pua_script.proofs.Allowing.{IsWithin, same_cover}
use Rattle.pua_script.proofs.Families.{Members, members_then, begins}
use Rattle.pua_script.proofs.Confining.{each_spares, spared_twice}
use Rattle.pua_script.proofs.Unchanged.{promises_change}

stay_self : (h : ProcessState) (t : Tree) → UncoveredStay h t t
stay_self h t s x here lacks = record { row = here; node = refl; covered = refl }

-- processes with the same unveils spare the same rows
pub by_other : (a b : ProcessState) → SameVeils a b → (t u : Tree) → UncoveredStay a t u → UncoveredStay b t u
by_other a b same t u stays s x here lacks =
    let stay = stays s x here (ap has_c (same_cover a b same t (object_in t s x)) ∙ lacks) in
    record {
      row = stay.row;
      node = stay.node;
      covered = sym (same_cover a b same u (object_in u s x)) ∙ stay.covered ∙
          same_cover a b same t (object_in t s x);
    }

pub first_tree : (table : CallTable) (w : World) (asks : List Asked) → TreesAlong table w asks → WellFormed w.tree
first_tree table w [] trees = trees
first_tree table w (ask ∷ asks) trees = trees.0

module _ (table : CallTable) (now : ProcessState) where
  spares_along : TakingNeedsC table → (asks : List Asked) (w : World) (members : List ℕ) → Members w members now false →
      none_done is_exec table w asks members ≡ true
      → members_alone table w asks members ≡ true → TreesAlong table w asks → UncoveredStay now w.tree (world_after table w asks).tree
  spares_along needs [] w members are none alone trees = stay_self now w.tree
  spares_along needs (ask ∷ asks) w members are none alone trees =
      let asked = and_parts (is_member members ask.process) _ alone in
      let parts = and_parts (not (is_done is_exec table w ask members)) _ none in
      let asker = are ask.process asked.0 in
      let after = (apply table w ask).1 in
      let step = each_spares table needs w ask asker.0 trees.0 (first_tree table after asks trees.1) asker.1 in
      spared_twice now w.tree after.tree (world_after table after asks).tree
      (by_other asker.0 now asker.2.within.tightens.unveils w.tree after.tree step)
      (spares_along needs asks after (family_then table w ask members)
      (members_then table now w ask members false are (not-true (is_done is_exec table w ask members) parts.0)) parts.1 asked.1 trees.1)

  module _ (promises : List ℕ) (others : AllByRecursion NamesNoError promises) where
    -- who holds less holds none of them either
    lacking : (h : ProcessState) → IsWithin now h → list_any (holds (held_set now)) promises ≡ false →
        list_any (holds (held_set h)) promises ≡ false
    lacking h within = among promises others
      where
        none : (p : ℕ) → NamesNoError p → holds (held_set now) p ≡ false → holds (held_set h) p ≡ false
        none p other lacks = by (holds (held_set h) p) refl
          where
            by : (b : Bool) → holds (held_set h) p ≡ b → holds (held_set h) p ≡ false
            by false e = e
            by true e = absurd (false≢true (sym lacks ∙ within.tightens.promises p other e))

        among : (ps : List ℕ) → AllByRecursion NamesNoError ps → list_any (holds (held_set now)) ps ≡ false →
            list_any (holds (held_set h)) ps ≡ false
        among [] others lacks = refl
        among (p ∷ ps) others lacks =
            let parts = or_parts (holds (held_set now) p) (list_any (holds (held_set now)) ps) lacks in
            ap (λ b. b || list_any (holds (held_set h)) ps) (none p others.0 parts.0) ∙ among ps others.1 parts.1

  unchanged_along : (promises : List ℕ) → ChangingNeeds promises table → list_any (holds (held_set now)) promises ≡ false →
      (asks : List Asked) (w : World) (members : List ℕ) → Members w members now false
      → none_done is_exec table w asks members ≡ true → members_alone table w asks members ≡ true → (world_after table w asks).tree ≡ w.tree
  unchanged_along promises needs lacks [] w members are none alone = refl
  unchanged_along promises needs lacks (ask ∷ asks) w members are none alone =
      let asked = and_parts (is_member members ask.process) _ alone in
      let parts = and_parts (not (is_done is_exec table w ask members)) _ none in
      let asker = are ask.process asked.0 in
      unchanged_along promises needs lacks asks (apply table w ask).1 (family_then table w ask members)
      (members_then table now w ask members false are (not-true (is_done is_exec table w ask members) parts.0)) parts.1 asked.1
      ∙ promises_change table promises needs w ask asker.0 asker.1 (lacking promises needs.no_error asker.0 asker.2.within lacks)

pub at_all : (w : World) (members : List ℕ) (now : ProcessState) → Members w members now true → Members w members now false
at_all w members now are m belongs = let one = are m belongs in
    (one.0, one.1, record { within = one.2.within; dir = λ e. absurd (false≢true e) })

pub families_confine : FamiliesConfine
families_confine table w asks process now here confined none alone =
    let are = at_all w (process ∷ []) now (begins table now w process here confined) in
    record {
      spares = λ needs trees. spares_along table now needs asks w (process ∷ []) are none alone trees;
      unchanged = λ promises needs lacks. unchanged_along table now promises needs lacks asks w (process ∷ []) are none alone;
    }
