-- What is left to a family through execs over any tree, and what of the tree stays.
use Rattle.pua_ever.proofs.Common.{◌≡◌, ◌⊎◌, ℕ, List, [], ◌∷◌, true, refl, ap, subst, sym, inl, inr, allowed_is, is_allowed, verdict_of}
use Rattle.pua_ever.proofs.Common.{verdicts_within, CallTable, ProcessState, Asked, World, apply, world_after, is_member, family_then}
use Rattle.pua_ever.proofs.Common.{NoCallNeedsError, Tree, TreesAlong, UncoveredStay, first_tree}
use Rattle.pua_policy.specs.States.{with_both}
use Rattle.pua_script.specs.Confinement.{TakingNeedsC}
use Rattle.pua_script.proofs.ForCallers.{each_spares, spared_twice, by_other}
use Rattle.pua_ever.specs.Laws.{MembersEdit}
use Rattle.pua_ever.specs.Through.{FamiliesNarrowThrough, FamiliesConfineThrough, GoAlong, is_bounded}
use Rattle.pua_ever.proofs.Holding.{goes, along_first, along_then, bound_parts, families_go_along}
use Rattle.pua_ever.proofs.Through.{within_both, promised_by_one}

pub families_narrow_through : FamiliesNarrowThrough
families_narrow_through table sound w asks process now given here bound member belongs =
    let parts = bound_parts table now given bound in
    let last = families_go_along table sound w asks process now given here bound member belongs in
    let along = goes table sound now given parts.bounded last.0 last.2 in (
      last.0,
      last.1,
      λ t c named e. (
        allowed_is (verdict_of t table (with_both now given) c named)
            (verdicts_within (with_both now given) last.0 (within_both now given table sound parts.bounded last.0 along) table sound t c named
            (ap is_allowed e)),
        promised_by_one table sound now given last.0 along t c named e,
      ),
    )

stays : (h : ProcessState) (t : Tree) → UncoveredStay h t t
stays h t s x there lacks = record { row = there; node = refl; covered = refl }

module _ (table : CallTable) (sound : NoCallNeedsError table) (needs : TakingNeedsC table) (now : ProcessState) (given : ℕ)
    (bounded : is_bounded table given ≡ true) where
  spares_through : (asks : List Asked) (w : World) (members : List ℕ) → GoAlong table w now given members →
      MembersEdit table w asks members → TreesAlong table w asks → UncoveredStay now w.tree (world_after table w asks).tree
  spares_through [] w members are edits trees = stays now w.tree
  spares_through (ask ∷ asks) w members are edits trees =
      let after = (apply table w ask).1 in
      spared_twice now w.tree after.tree (world_after table after asks).tree (step edits.0)
      (spares_through asks after (family_then table w ask members) (along_then table sound now given bounded w ask members are) edits.1
      trees.1)
    where
      step : (is_member members ask.process ≡ true) ⊎ ((apply table w ask).1.tree ≡ w.tree) →
          UncoveredStay now w.tree (apply table w ask).1.tree
      step (inl belongs) =
          let asker = are ask.process belongs in
          let after = (apply table w ask).1 in
          by_other asker.0 now asker.2.unveils w.tree after.tree
          (each_spares table needs w ask asker.0 trees.0 (first_tree table after asks trees.1) asker.1)
      step (inr same) =
          subst (UncoveredStay now w.tree) (sym same) (stays now w.tree)

pub families_confine_through : FamiliesConfineThrough
families_confine_through table sound needs w asks process now given here bound trees edits =
    let parts = bound_parts table now given bound in
    spares_through table sound needs now given parts.bounded asks w (process ∷ [])
    (along_first table sound now given parts.bounded w process here parts.set parts.confined) edits trees
