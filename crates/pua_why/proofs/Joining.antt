-- Words with something between them, one after another.
use Rattle.pua_why.proofs.Common.{◌≡◌, ℕ, ◌+◌, Bool, true, false, List, [], ◌∷◌, ◌++◌, map, drop, length, refl, sym, ap, ◌∙◌, append_assoc}
use Rattle.pua_why.proofs.Common.{append-nil, if◌then◌else◌, codes, lacking, joined_words, promises_text}
use Rattle.std.proofs.Common.{◌<◌, ◌≤◌, get_or}
use Rattle.std.proofs.lemmas.List.{drop_more}
use Rattle.std.proofs.Math.ListN.{drop_of_length-le}
use Rattle.std.specs.Borrow.{Bor}

-- what is still to come, where what is between comes before each word but the first
abbrev pub rest : List ℕ → Bool → List (List ℕ) → List ℕ
rest between first [] = []
rest between first (word ∷ words) = ((if first then [] else between) ++ word) ++ rest between false words

pub joined_is : (between : List ℕ) (words : List (List ℕ)) → joined_words between words ≡ rest between true words
joined_is between [] = refl
joined_is between (word ∷ more) = after word more
  where
    after : (word : List ℕ) (more : List (List ℕ)) → joined_words between (word ∷ more) ≡ word ++ rest between false more
    after word [] = sym (append-nil word)
    after word (other ∷ more) =
        ap (λ t. (word ++ between) ++ t) (after other more)
        ∙ append_assoc word between (other ++ rest between false more)
        ∙ ap (λ t. word ++ t) (sym (append_assoc between other (rest between false more)))

-- a name comes next
pub name_next : (between text : List ℕ) (first : Bool) (names : List (Bor (List ℕ))) (i : ℕ) (d : Bor (List ℕ)) → i < length names
    → text ++ rest between first (map (λ n. n.now) (drop i names)) ≡ (text ++ ((if first then [] else between) ++ (get_or names i d).now))
    ++ rest between false (map (λ n. n.now) (drop (i + 1) names))
name_next between text first names i d within =
    ap (λ ns. text ++ rest between first (map (λ n. n.now) ns)) (drop_more names i d within)
    ∙ sym (append_assoc text ((if first then [] else between) ++ (get_or names i d).now)
    (rest between false (map (λ n. n.now) (drop (i + 1) names))))

pub names_done : (between text : List ℕ) (first : Bool) (names : List (Bor (List ℕ))) (i : ℕ) → length names ≤ i →
    text ++ rest between first (map (λ n. n.now) (drop i names)) ≡ text
names_done between text first names i past = ap (λ ns. text ++ rest between first (map (λ n. n.now) ns)) (drop_of_length-le names past) ∙
    append-nil text

-- what is lacked of each set
abbrev pub lack_words : ℕ → List ℕ → List (List ℕ)
lack_words held sets = map (λ set. codes "no " ++ promises_text set) (map (lacking held) sets)

pub lack_next : (between text : List ℕ) (first : Bool) (held : ℕ) (sets : List ℕ) (i d : ℕ) → i < length sets
    → text ++ rest between first (lack_words held (drop i sets))
    ≡ (text ++ ((if first then [] else between) ++ (codes "no " ++ promises_text (lacking held (get_or sets i d)))))
    ++ rest between false (lack_words held (drop (i + 1) sets))
lack_next between text first held sets i d within =
    ap (λ ns. text ++ rest between first (lack_words held ns)) (drop_more sets i d within)
    ∙ sym (append_assoc text ((if first then [] else between) ++ (codes "no " ++ promises_text (lacking held (get_or sets i d))))
    (rest between false (lack_words held (drop (i + 1) sets))))

pub lacks_done : (between text : List ℕ) (first : Bool) (held : ℕ) (sets : List ℕ) (i : ℕ) → length sets ≤ i →
    text ++ rest between first (lack_words held (drop i sets)) ≡ text
lacks_done between text first held sets i past = ap (λ ns. text ++ rest between first (lack_words held ns)) (drop_of_length-le sets past) ∙
    append-nil text
