-- Steps in the proofs of edits.
use Rattle.pua_script.proofs.Common.{◌≡◌, refl, sym, ap, ◌∙◌, Option, Some, None, Errno, or_fault}
use Rattle.std.specs.Prelude.{ℕ, List, [], ◌∷◌, ◌++◌, ◌==◌}
use Rattle.std.specs.Option.{option_or}
use Rattle.pua_path.specs.Paths.{ends_in_slash}

-- the first of two faults
pub first_fault : (a b : Option Errno) → option_or a b ≡ or_fault a b
first_fault None b = refl
first_fault (Some errno) b = refl

-- the last byte says whether a text ends in a slash
slash_last : (text : List ℕ) (byte : ℕ) → ends_in_slash (text ++ byte ∷ []) ≡ (byte == 47)
slash_last [] byte = refl
slash_last (x ∷ []) byte = refl
slash_last (x ∷ y ∷ text) byte = slash_last (y ∷ text) byte

pub slash_by : (text more : List ℕ) (byte : ℕ) → text ≡ more ++ byte ∷ [] → (byte == 47) ≡ ends_in_slash text
slash_by text more byte is = sym (ap ends_in_slash is ∙ slash_last more byte)
