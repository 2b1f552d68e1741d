-- The first lines of a text, one after another.
use Rattle.std.proofs.Common.{◌≡◌, ◌∙◌, ◌+◌, ◌<◌, ℕ, zero, suc, List, [], ◌∷◌, Option, Some, None, ap, arith, drop, length, option_map, refl, sym, take}
use Rattle.std.proofs.lemmas.List.{drop-drop}
use Rattle.pua_tool.specs.Fronts.{first_lines, line_size, lines_size}

-- what is left is the whole of what there was, by how many bytes it has
abbrev pub Leads : ℕ → ℕ → List ℕ → Option ℕ → Type 0
Leads left end bytes whole = option_map (λ size. end + size) (lines_size left (drop end bytes)) ≡ whole

nothing_added : (o : Option ℕ) → option_map (λ size. 0 + size) o ≡ o
nothing_added None = refl
nothing_added (Some size) = ap (λ (s : ℕ). Some s) (omega arith)

pub begun : (n left : ℕ) (bytes : List ℕ) → left ≡ n → Leads left 0 bytes (lines_size n bytes)
begun n left bytes is = ap (λ (m : ℕ). option_map (λ s. 0 + s) (lines_size m bytes)) is ∙ nothing_added (lines_size n bytes)

further : (o : Option ℕ) (end size : ℕ) → option_map (λ s. end + s) (option_map (λ s. size + s) o) ≡ option_map (λ s. end + size + s) o
further None end size = refl
further (Some more) end size = ap (λ (s : ℕ). Some s) (omega arith)

one_more : (left n : ℕ) (rest : List ℕ) → left ≡ suc n → 0 < length rest
    → lines_size left rest ≡ option_map (λ s. line_size rest + s) (lines_size n (drop (line_size rest) rest))
one_more left n [] is some = absurd (omega (arith, some))
one_more left n (b ∷ more) is some = ap (λ (m : ℕ). lines_size m (b ∷ more)) is

-- behind a further line
pub goes_on : (left n end : ℕ) (bytes : List ℕ) (whole : Option ℕ) → left ≡ suc n → 0 < length (drop end bytes)
    → Leads left end bytes whole → Leads n (end + line_size (drop end bytes)) bytes whole
goes_on left n end bytes whole is some leads =
    let rest = drop end bytes in
    let size = line_size rest in
    ap (λ (l : List ℕ). option_map (λ s. end + size + s) (lines_size n l)) (sym (drop-drop size end bytes))
    ∙ sym (further (lines_size n (drop size rest)) end size)
    ∙ ap (option_map (λ s. end + s)) (sym (one_more left n rest is some)) ∙ leads

no_line : (left : ℕ) (rest : List ℕ) → 0 < left → length rest ≡ 0 → lines_size left rest ≡ None
no_line zero rest some none = absurd (omega (arith, some))
no_line (suc n) [] some none = refl
no_line (suc n) (b ∷ more) some none = absurd (omega (arith, none))

pub some_left : (n : ℕ) → (n ≡ 0 → ⊥) → 0 < n
some_left zero none = absurd (none refl)
some_left (suc n) none = omega arith

-- no line is left where one is asked for
pub lacks : (left n end : ℕ) (bytes : List ℕ) → 0 < left → length (drop end bytes) ≡ 0 → Leads left end bytes (lines_size n bytes)
    → None ≡ first_lines n bytes
lacks left n end bytes some none leads =
    ap (λ (o : Option ℕ). option_map (λ s. take s bytes) (option_map (λ s. end + s) o)) (sym (no_line left (drop end bytes) some none))
    ∙ ap (option_map (λ s. take s bytes)) leads

-- all lines that are asked for are there
pub ends : (left n end : ℕ) (bytes : List ℕ) → left ≡ 0 → Leads left end bytes (lines_size n bytes)
    → Some (take end bytes) ≡ first_lines n bytes
ends left n end bytes is leads =
    ap (λ (s : ℕ). Some (take s bytes)) (omega arith)
    ∙ ap (λ (m : ℕ). option_map (λ s. take s bytes) (option_map (λ s. end + s) (lines_size m (drop end bytes)))) (sym is)
    ∙ ap (option_map (λ s. take s bytes)) leads
