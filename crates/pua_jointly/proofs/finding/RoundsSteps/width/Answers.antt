use Rattle.pua_jointly.proofs.Common.{◌≡◌, ◌<◌, ◌≤◌, ◌∙◌, ap, false, false≢true, inl, inr, is_some, List, None, Option, option_map, refl}
use Rattle.pua_jointly.proofs.Common.{Some, subst, sym, Tree, ℕ}
use Rattle.std.specs.Prelude.{◌+◌, ◌*◌, slice_get}
use Rattle.pua_jointly.specs.Closing.{Reached}
use Rattle.pua_jointly.specs.JointSetup.{FollowsTold, RoundsState, hands_told, spots_told}
use Rattle.pua_jointly.specs.JointShape.{entity_of}
use Rattle.pua_jointly.specs.Jointly.{Hand}
use Rattle.pua_jointly.specs.JointTable.{DropsOf, NameAt}
use Rattle.pua_jointly.specs.declared.crew.Crew.{Crew}
use Rattle.pua_jointly.proofs.JointWidth.{IsOfName, no_dir, past_common}
use Rattle.pua_jointly.proofs.finding.RoundsSteps.width.Goals as goal
use Rattle.pua_jointly.proofs.finding.RoundsSteps.width.Goals.{else-is_marked, then-is_marked}

-- from so many columns on the words of a row are void
abbrev AreVoid : ℕ → ℕ → RoundsState → Type 0
AreVoid row width s =
    (column : ℕ) → width ≤ column → column < s.crew.columns → (count bit : ℕ) →
    Reached (FollowsTold s.tree s.table s.crew) count (row * s.crew.columns + column) bit → ⊥

no_some : {X : Type 0} (o : Option X) → is_some o ≡ false → o ≡ None
no_some None e = refl
no_some (Some x) e = absurd (false≢true (sym e))

pub returns-else-is_some : goal.returns-else-is_some
returns-else-is_some g c =
    let t : Tree = g.T.FileTree.content c.self.inside.tree.now in
    let k : Crew = c.self.inside.crew.now in
    let out = c.self.invariant.0 in
    let d : ℕ = c.in-Dir.dir in
    let is = c.row.ensures (hands_told k) (spots_told k) (sym out.1.hands) ∙ ap (entity_of (hands_told k) (spots_told k)) c.in-Dir.is in
    subst (AreVoid c.args.row 0) c.self.view_is
    (elim c.if-is_marked.branch [
      | then-is_marked w ↦ absurd (false≢true (sym c.if-is_some.false ∙ w.value-is ∙ w.if-is_marked.true))
      | else-is_marked w ↦
          (let none = sym w.watch_column.ensures ∙ no_some w.watch_column.result (sym w.is_some.ensures ∙ sym w.value-is ∙ c.if-is_some.false) in
          λ column _ low. no_dir t c.self.inside.table.now k out c.args.row column low c.self.inside.standing.now c.self.invariant.1 d is
          (sym c.is_marked.ensures ∙ w.if-is_marked.false) none)
    ])

pub returns-in-Drops : goal.returns-in-Drops
returns-in-Drops g c =
    let t : Tree = g.T.FileTree.content c.self.inside.tree.now in
    let k : Crew = c.self.inside.crew.now in
    let out = c.self.invariant.0 in
    let row = c.row.ensures (hands_told k) (spots_told k) (sym out.1.hands) in
    subst (AreVoid c.args.row (k.shape.agents + 1)) c.self.view_is
    (elim c.in-Drops.is [
      | inl drops ↦ (λ column more low. past_common t c.self.inside.table.now k out c.args.row column low
          (option_map DropsOf (slice_get (hands_told k) drops.0)) (row ∙ ap (entity_of (hands_told k) (spots_told k)) drops.1)
          (of_hand (slice_get (hands_told k) drops.0)) (subst (λ n. n + 1 ≤ column) out.1.many more))
      | inr name ↦ (λ column more low. past_common t c.self.inside.table.now k out c.args.row column low
          (option_map NameAt (slice_get (spots_told k) name.0)) (row ∙ ap (entity_of (hands_told k) (spots_told k)) name.1)
          (of_name (slice_get (spots_told k) name.0)) (subst (λ n. n + 1 ≤ column) out.1.many more))
    ])
  where
    of_hand : (o : Option Hand) → IsOfName (option_map DropsOf o)
    of_hand None = tt
    of_hand (Some b) = tt

    of_name : (o : Option (ℕ × List ℕ)) → IsOfName (option_map NameAt o)
    of_name None = tt
    of_name (Some s) = tt
