-- What stands behind the calls of a line, as the code keeps it.
use Rattle.std.specs.Prelude.{◌≡◌, ◌<◌, ℕ, List, [], ◌∷◌, ◌++◌, Option, Some, None, get_or, length, string_bytes}
use Rattle.pua_why.specs.Texts.{promises_text}
use Rattle.pua_texts.specs.declared.endings.Resting.{Resting}

-- the columns of promises, those of veils, and what stands where no veil is over
pub record EndingsState : Type 0 where
  pub resting : List (List ℕ)
  pub veils : List (List ℕ)
  pub unveiled : List ℕ

-- the columns of a veil with an index; what stands where no veil is over, if there are none
abbrev pub veil_column : List (List ℕ) → List ℕ → Option ℕ → List ℕ
veil_column veils unveiled (Some index) = get_or veils index unveiled
veil_column veils unveiled None = unveiled

-- the column of promises with a number, if there is one, and those of a veil
abbrev pub columns_of : EndingsState → ℕ → Option ℕ → List ℕ
columns_of columns number veil = get_or columns.resting number [] ++ veil_column columns.veils columns.unveiled veil

-- LF alone
abbrev pub plain : EndingsState
plain = record { resting = []; veils = []; unveiled = 10 ∷ [] }

-- a column is that of its promises
pub record IsResting (resting : Resting) : Type 0 where
  pub text : string_bytes resting.text ≡ 32 ∷ promises_text resting.promises

-- a column of promises was added behind those before, or was there
pub record IsNumber (old new : EndingsState) (promises number : ℕ) : Type 0 where
  pub more : List (List ℕ)
  pub grows : new.resting ≡ old.resting ++ more
  pub veils : new.veils ≡ old.veils
  pub unveiled : new.unveiled ≡ old.unveiled
  pub within : number < length new.resting
  pub is : get_or new.resting number [] ≡ 32 ∷ promises_text promises
