-- There is an unknown word exactly where an argument is refused.
use Rattle.pua_why.proofs.Common.{◌≡◌, ℕ, List, [], ◌∷◌, map, Some, None, refl, sym, ap, ◌∙◌, Option, Result, Ok, Err, if◌then◌else◌}
use Rattle.pua_why.proofs.Common.{is_some, not}
use Rattle.std.specs.Prelude.{◌==◌, find, is_none, is_ok}
use Rattle.std.specs.List.{slice_split}
use Rattle.pua_path.specs.declared.errno.Errno.{Errno}
use Rattle.pua_calls.specs.Promises.{union_or_fault, union_of, promise_of, promises_of, letter_of}
use Rattle.pua_why.specs.Unknown.{unknown_word, UnknownsAreTold}

joined_ok : (set : ℕ) (r : Result ℕ Errno) → is_ok (union_or_fault set r) ≡ is_ok r
joined_ok set (Ok more) = refl
joined_ok set (Err errno) = refl

found_unknown : {A : Type 0} (member : A → Option ℕ) (items : List A) →
    is_some (find (λ x. is_none (member x)) items) ≡ not (is_ok (union_of (map member items)))
found_unknown member [] = refl
found_unknown member (x ∷ items) = by (member x) (found_unknown member items)
  where
    by : (o : Option ℕ) → is_some (find (λ x. is_none (member x)) items) ≡ not (is_ok (union_of (map member items))) →
        is_some (if is_none o then Some x else find (λ x. is_none (member x)) items) ≡ not (is_ok (union_of (o ∷ map member items)))
    by None e = refl
    by (Some bits) e = e ∙ ap not (sym (joined_ok bits (union_of (map member items))))

pub unknowns_are_told : UnknownsAreTold
unknowns_are_told = record { words = words; letters = found_unknown letter_of }
  where
    words : (text : List ℕ) → is_some (unknown_word text) ≡ not (is_ok (promises_of text))
    words [] = refl
    words (b ∷ more) = found_unknown promise_of (slice_split (λ b. b == 44) (b ∷ more))
