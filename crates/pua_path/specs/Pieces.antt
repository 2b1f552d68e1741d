-- A text cut before its first slash.
use Rattle.std.specs.Prelude.{◌≡◌, ℕ, Bool, true, false, List, [], ◌∷◌, ◌++◌, ◌==◌, nat_lt}
use Rattle.std.specs.List.{list_all, list_any}

-- nothing, or a text that begins with a slash
abbrev pub begins_slash : List ℕ → Bool
begins_slash [] = true
begins_slash (b ∷ more) = b == 47

-- each is a byte
abbrev pub are_bytes : List ℕ → Bool
are_bytes bytes = list_all (λ b. nat_lt b 256) bytes

-- the bytes before the first slash, and the text from it on
pub record IsCutAtSlash (text front back : List ℕ) : Type 0 where
  pub whole : text ≡ front ++ back
  pub no_slash : list_any (λ b. b == 47) front ≡ false
  pub at_slash : begins_slash back ≡ true
