-- What the veils leave of a name that has no veil of its own.
use Rattle.pua_policy.proofs.Common.{◌≡◌, ℕ, List, ◌∷◌, map, sym, ap, ◌∙◌, if◌then◌else◌, Tree, WellFormed, is_dir, climb, Way}
use Rattle.pua_policy.proofs.Common.{Whole, Slot, rule_of, ProcessState, has_veil, veil_at, cover, cover_fault, nearest, allowed_unless}
use Rattle.pua_policy.proofs.Common.{if_promised, Call, All}
use Rattle.std.proofs.Common.{Option, None}
use Rattle.std.specs.Prelude.{IsTrue}
use Rattle.pua_calls.specs.Calls.{CallTable}
use Rattle.pua_policy.specs.States.{may_any}
use Rattle.pua_policy.specs.Verdict.{object_fault, IsMissing, or_fault}
use Rattle.pua_policy.specs.Verdict.{verdict}
use Rattle.pua_policy.specs.declared.place.Place.TheVariants as place
use Rattle.pua_policy.specs.declared.answer.Cover.{Cover}
use Rattle.pua_policy.proofs.Climbs.{nearest_whole}

module _ (t : Tree) (p : ProcessState) (dir : ℕ) where
  -- the cover of a name, by the permissions kept at it
  by_own : Option ℕ → Cover
  by_own own = if has_veil p.veils then nearest (own ∷ map (λ d. veil_at p.veils (place.Dir d)) (climb t dir)) else All

  -- names without a veil of their own have one cover, whatever stands there
  pub unveiled_alike : (name other : List ℕ) (here there : Option ℕ) → veil_at p.veils (place.Slot dir name) ≡ None →
      veil_at p.veils (place.Slot dir other) ≡ None → cover t p (Slot dir name here) ≡ cover t p (Slot dir other there)
  unfolding by_own
  unveiled_alike name other here there e f = ap by_own (e ∙ sym f)

  -- and that is the cover of their directory
  pub unveiled_within : (name : List ℕ) (here : Option ℕ) (way : Way) → WellFormed t → IsTrue (is_dir t dir) →
      veil_at p.veils (place.Slot dir name) ≡ None → cover t p (Slot dir name here) ≡ cover t p (Whole dir way)
  unfolding by_own
  unveiled_within name here way fits living e =
      ap by_own e ∙ ap (λ found. if has_veil p.veils then found else All)
      (sym (nearest_whole t fits (λ d. veil_at p.veils (place.Dir d)) dir living))

  -- so a call gets one verdict on all names where nothing stands, and that have no veil of their own
  pub missing_alike : (name other : List ℕ) → veil_at p.veils (place.Slot dir name) ≡ None → veil_at p.veils (place.Slot dir other) ≡ None
      → (table : CallTable) (call : Call) → verdict t table p call (Slot dir name None) ≡ verdict t table p call (Slot dir other None)
  missing_alike name other e f table call =
      ap (λ found. if_promised (may_any p (rule_of table call).alternatives)
      (allowed_unless (or_fault (cover_fault found (rule_of table call).perms) (object_fault table.whose t call IsMissing))))
      (unveiled_alike name other None None e f)
