-- What the lines of a state tell of a process.
use Rattle.pua_texts.proofs.Common.{◌≡◌, ℕ, Bool, true, false, List, [], ◌∷◌, ◌++◌, if◌then◌else◌, refl, sym, ap, ◌∙◌}
use Rattle.pua_texts.proofs.Common.{append_assoc, Tree, Place}
use Rattle.std.proofs.Common.{zero, suc, arith, cond, filter, flat_map, Option, Some, None, subst}
use Rattle.std.specs.List.{Contains}
use Rattle.pua_calls.specs.Promises.{holds, keyword_rows}
use Rattle.pua_policy.specs.States.{held_for_exec, pledged_set, veils}
use Rattle.pua_texts.specs.States.{StateIsPrinted, TellsPromises, VeilsArePrinted, living_lines, pledged_text, unveil_word, veil_line}
use Rattle.pua_texts.specs.States.{execs_told, openings_told, receives_told, rules_line, unveiled_line, veil_lines}
use Rattle.pua_texts.proofs.States.{confined_is_printed}
use Rattle.pua_texts.specs.Lines.{with_end}
use Rattle.std.specs.Prelude.{codes}

-- what is kept of a list is in it and passes, and what passes is kept

module _ {A : Type 0} (p : A → Bool) where
  kept : (xs : List A) (x : A) → Contains (filter p xs) x → Contains xs x × (p x ≡ true)
  kept [] x (k, low, is) = absurd (omega (arith, low))
  kept (a ∷ xs) x there = by (p a) refl (kept xs x) there
    where
      later : Contains xs x × (p x ≡ true) → Contains (a ∷ xs) x × (p x ≡ true)
      later ((k, low, is), passes) = ((suc k, omega (arith, low), is), passes)

      by : (b : Bool) → p a ≡ b → (Contains (filter p xs) x → Contains xs x × (p x ≡ true)) →
          Contains (cond b (a ∷ filter p xs) (filter p xs)) x → Contains (a ∷ xs) x × (p x ≡ true)
      by false fails more there = later (more there)
      by true passes more (zero, low, is) = ((zero, omega arith, is), ap p (sym is) ∙ passes)
      by true passes more (suc k, low, is) = later (more (k, omega (arith, low), is))

  pub passing : (xs : List A) (x : A) → Contains xs x → p x ≡ true → Contains (filter p xs) x
  passing [] x (k, low, is) passes = absurd (omega (arith, low))
  passing (a ∷ xs) x (zero, low, is) passes =
      subst (λ b. Contains (cond b (a ∷ filter p xs) (filter p xs)) x) (sym (ap p is ∙ passes)) (zero, omega arith, is)
  passing (a ∷ xs) x (suc k, low, is) passes = by (p a) (passing xs x (k, omega (arith, low), is) passes)
    where
      by : (b : Bool) → Contains (filter p xs) x → Contains (cond b (a ∷ filter p xs) (filter p xs)) x
      by true (j, within, at) = (suc j, omega (arith, within), at)
      by false there = there

tells : (given : Option ℕ) → TellsPromises given (pledged_text given)
tells None = refl
tells (Some set) = (
  filter (λ row. holds set row.1) keyword_rows,
  refl,
  λ row. (
    kept (λ (row : List ℕ × ℕ). holds set row.1) keyword_rows row,
    λ both. passing (λ (row : List ℕ × ℕ). holds set row.1) keyword_rows row both.0 both.1,
  ),
)

-- the lines of what is held and those of what bounds it, one by one
one_by_one : (a r p e u x f s o n : List ℕ) →
    a ++ (r ++ p ++ e ++ u) ++ (x ++ f ++ s ++ o ++ n) ≡ a ++ r ++ p ++ e ++ u ++ x ++ f ++ s ++ o ++ n
one_by_one a r p e u x f s o n = search (append_assoc)

pub state_is_printed : StateIsPrinted
state_is_printed head root h living = record {
  promises = pledged_text (pledged_set h);
  for_exec = pledged_text (held_for_exec h);
  unveils = unveil_word h;
  lines = ap (λ ended. if ended then with_end (codes "process ended") else living_lines head root h) living ∙
      one_by_one (with_end (codes "process alive")) (rules_line head.rules) _ _ _ (execs_told head.time)
      (receives_told head.rules head.time h) root (openings_told head.rules head.time h) (unveiled_line h);
  held = tells (pledged_set h);
  held_for_exec = tells (held_for_exec h);
  confined = confined_is_printed h;
}

in_lines : (t : Tree) (vs : List (Place × ℕ)) (v : Place × ℕ) → Contains vs v →
    (before : List ℕ) × (after : List ℕ) × (veil_lines t vs ≡ before ++ veil_line t v ++ after)
in_lines t [] v (k, low, is) = absurd (omega (arith, low))
in_lines t (w ∷ vs) v (zero, low, is) = ([], flat_map (veil_line t) vs, ap (λ u. veil_line t u ++ flat_map (veil_line t) vs) is)
in_lines t (w ∷ vs) v (suc k, low, is) =
    let rest = in_lines t vs v (k, omega (arith, low), is) in (
      veil_line t w ++ rest.0,
      rest.1,
      ap (λ lines. veil_line t w ++ lines) rest.2 ∙ here (veil_line t w) rest.0 (veil_line t v) rest.1,
    )
  where
    here : (a b c d : List ℕ) → a ++ (b ++ c ++ d) ≡ (a ++ b) ++ c ++ d
    here a b c d = search (append_assoc)

pub veils_are_printed : VeilsArePrinted
veils_are_printed t h place perms living there =
    let found = in_lines t (veils h) (place, perms) there in (
      found.0,
      found.1,
      ap (λ ended. veil_lines t (if ended then [] else veils h)) living ∙ found.2,
    )
