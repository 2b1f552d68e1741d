-- Which word of an argument is no promise, and which letter no permission: what the line's text says beyond its request.
use Rattle.std.specs.Prelude.{◌≡◌, ℕ, List, [], ◌∷◌, ◌==◌, Option, None, find, is_none, is_some, is_ok, not}
use Rattle.std.specs.List.{slice_split}
use Rattle.pua_calls.specs.Promises.{promise_of, promises_of, letter_of, perms_of}

-- the first word between commas that is no keyword
abbrev pub unknown_word : List ℕ → Option (List ℕ)
unknown_word [] = None
unknown_word (b ∷ more) = find (λ word. is_none (promise_of word)) (slice_split (λ b. b == 44) (b ∷ more))

-- the first byte that is no letter
abbrev pub unknown_letter : List ℕ → Option ℕ
unknown_letter text = find (λ b. is_none (letter_of b)) text

-- there is one exactly where the argument is refused
pub record UnknownsAreTold : Type 0 where
  pub words : (text : List ℕ) → is_some (unknown_word text) ≡ not (is_ok (promises_of text))
  pub letters : (text : List ℕ) → is_some (unknown_letter text) ≡ not (is_ok (perms_of text))
