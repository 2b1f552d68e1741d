-- The lines of pairs, in blocks.
use Rattle.pua_texts.proofs.Common.{◌≡◌, ℕ, ◌≤◌, List, [], ◌∷◌, ◌++◌, length, refl, sym, ap, ◌∙◌, append_assoc, arith, length-map}
use Rattle.pua_texts.proofs.Common.{Call, Word, spelling, call_name, with_end, pair_lines}
use Rattle.std.specs.Prelude.{IsTrue, not}
use Rattle.std.specs.List.{list_all, range_with_len}
use Rattle.std.proofs.lemmas.Bool.{and_parts}
use Rattle.std.proofs.lemmas.List.Filters.{length-filter_both}
use Rattle.std.proofs.lemmas.List.FromFn.{length-range_with_len}
use Rattle.pua_steps.specs.Calls.{calls_of, has_call}
use Rattle.pua_steps.specs.Limits.{call_count}
use Rattle.pua_tree.specs.Spelling.{is_plain, byte_spelling}
use Rattle.pua_audit.specs.Coming.{call_at, calls_at, with_word}
use Rattle.pua_audit.specs.Reach.{Pair, path_of}
use Rattle.pua_texts.specs.PathLines.{path_line, path_lines}
use Rattle.pua_audit.specs.declared.base.Base.{Base}

-- the lines of a word's pairs stand before those of the others
pub word_lines : (base : Base) (word : Word) (path : List ℕ) (calls : List Call) (more : List Pair) → path ≡ path_of base word
    → pair_lines base (with_word word calls ++ more) ≡ path_lines path calls ++ pair_lines base more
word_lines base word path [] more p = refl
word_lines base word path (call ∷ calls) more p =
    ap (λ text. with_end (spelling text ++ 32 ∷ call_name call) ++ pair_lines base (with_word word calls ++ more)) (sym p)
    ∙ ap (λ rest. path_line path call ++ rest) (word_lines base word path calls more p)
    ∙ sym (append_assoc (path_line path call) (path_lines path calls) (pair_lines base more))

-- a blank, a name and LF stand after a spelled path
pub line_ends : (front path name : List ℕ) → (front ++ path) ++ with_end (32 ∷ name) ≡ front ++ with_end (path ++ 32 ∷ name)
line_ends front path name = append_assoc front path (with_end (32 ∷ name)) ∙
    ap (λ r. front ++ r) (sym (append_assoc path (32 ∷ name) (10 ∷ [])))

-- a set has no more calls than there are
pub few_calls : (set : ℕ) → length (calls_at set) ≤ call_count
unfolding calls_of
few_calls set =
    omega (
      arith,
      length-map (calls_of set) call_at,
      length-filter_both (has_call set) (λ call. not (has_call set call)) (λ _. refl)
          (range_with_len 0 call_count),
      length-range_with_len 0 call_count,
    )

-- bytes that stand for themselves are their own spelling
pub spelling_plain : (bytes : List ℕ) → IsTrue (list_all is_plain bytes) → spelling bytes ≡ bytes
spelling_plain [] all = refl
spelling_plain (b ∷ bytes) all =
    let parts = and_parts (is_plain b) (list_all is_plain bytes) all in
    front b parts.0 (spelling bytes) ∙ ap (λ bs. b ∷ bs) (spelling_plain bytes parts.1)
  where
    front : (c : ℕ) → IsTrue (is_plain c) → (more : List ℕ) → byte_spelling c ++ more ≡ c ∷ more
    front c plain more = rw plain refl
