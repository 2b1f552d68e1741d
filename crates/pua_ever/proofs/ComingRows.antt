-- Under which veils what a row is about comes, by where it stands.
use Rattle.pua_ever.proofs.Common.{◌≡◌, ℕ, List, true, refl, ap, subst, sym, ◌∙◌, Option, Some, None, option_map, is_some, None≢Some, same_Some}
use Rattle.pua_ever.proofs.Common.{false≢true, Tree, WellFormed, is_dir, look, row_says, sound_from, Whole, Slot, Way, Named, CallTable}
use Rattle.pua_ever.proofs.Common.{ProcessState, Cover, cover, cover_in, covers_descend, Subject, SubjectFits, At, Others, Stands}
use Rattle.std.specs.Prelude.{IfSome}
use Rattle.pua_policy.specs.declared.object.Object as seen
use Rattle.pua_objects.specs.Items.{cover_on}
use Rattle.pua_ever.specs.Comings.{places_of_dir, places_on, places_under}
use Rattle.pua_ever.specs.Ever.{Thing}
use Rattle.pua_ever.specs.EverList.{IsStandingOn}
use Rattle.pua_ever.specs.declared.comings.ComesUnder.{ComesUnder}

-- where something stands is a living directory
pub row_lives : (t : Tree) → WellFormed t → (dir : ℕ) (name : List ℕ) → is_some (look t dir name) ≡ true → is_dir t dir ≡ true
row_lives t well dir name some = by (look t dir name) refl some
  where
    by : (o : Option ℕ) → look t dir name ≡ o → is_some o ≡ true → is_dir t dir ≡ true
    by None here none = absurd (false≢true none)
    by (Some node) here some = (row_says t (sound_from t well) (dir, name) node here).0

module _ (t : Tree) (h : ProcessState) where
  -- what holds of what stands there holds of what a row is about
  pub by_standing : (about : Thing) (object : seen.Object) (now : Cover) (P : Thing → Type 0) (o : Option Subject) →
      ((subject : Subject) → o ≡ Some subject → IsStandingOn t h object now subject → P (Stands subject)) →
      IfSome o (IsStandingOn t h object now) → option_map Stands o ≡ Some about → P about
  by_standing about object now P None each on is = absurd (None≢Some about is)
  by_standing about object now P (Some subject) each on is = subst P (same_Some (Stands subject) about is) (each subject refl on)

module _ (t : Tree) (h : ProcessState) (object : seen.Object) (now : Cover) (well : WellFormed t) (table : CallTable) (under : ComesUnder)
    (about : Subject) (on : IsStandingOn t h object now about) where
  abbrev IsUnder : Subject → Type 0
  IsUnder subject = places_under t h under ≡ places_on t table h (Stands subject)

  abbrev OfDir : ℕ → Type 0
  OfDir dir = is_dir t dir ≡ true → now ≡ cover_in t h dir → places_under t h under ≡ places_of_dir t table h dir

  -- a directory, and its further names
  pub whole_under : (dir : ℕ) (way : Way) → OfDir dir → At (Whole dir way) ≡ about → IsUnder about
  whole_under dir way gives same =
      let here : SubjectFits t (At (Whole dir way)) = subst (SubjectFits t) (sym same) on.fits in
      subst IsUnder same
      (gives here.0 (on.cover ∙ ap (cover_on t h) (sym same) ∙ (covers_descend t h well).directory dir way here.0))

  pub named_under : (dir parent : ℕ) (name : Option (List ℕ)) → OfDir dir →
      option_map (λ own. At (Whole dir (Named parent own))) name ≡ Some about → IsUnder about
  named_under dir parent None gives at = absurd (None≢Some about at)
  named_under dir parent (Some own) gives at =
      whole_under dir (Named parent own) gives (same_Some (At (Whole dir (Named parent own))) about at)

  pub others_under : (dir : ℕ) → OfDir dir → Others dir ≡ about → IsUnder about
  others_under dir gives same =
      subst IsUnder same (gives (subst (SubjectFits t) (sym same) on.fits) (on.cover ∙ ap (cover_on t h) (sym same)))

  -- a name at which no directory stands
  pub slot_under : (dir : ℕ) (name : List ℕ) (node : Option ℕ) →
      (is_dir t dir ≡ true → now ≡ cover t h (Slot dir name node) → IsUnder (At (Slot dir name node))) →
      At (Slot dir name node) ≡ about → IsUnder about
  slot_under dir name node gives same =
      let here : SubjectFits t (At (Slot dir name node)) = subst (SubjectFits t) (sym same) on.fits in
      subst IsUnder same (gives here.1.0 (on.cover ∙ ap (cover_on t h) (sym same)))
