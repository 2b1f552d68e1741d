-- The lines of facts, each with the line since which its veil is so.
use Rattle.pua_since.proofs.Common.{◌≡◌, ◌++◌, ℕ, List, [], ◌∷◌, map, flat_map, refl, sym, ap, ◌∙◌, append_assoc, Option, inl, inr, ◌⊎◌}
use Rattle.pua_since.proofs.Common.{Tree, CallTable, with_end, Asked, World, world_after, Fact, facts_of, reason, date_of, reason_tail}
use Rattle.pua_since.proofs.Common.{answer_words}
use Rattle.std.proofs.lemmas.Grind.{flat_map-append}
use Rattle.std.proofs.lemmas.List.{append-nil}
use Rattle.pua_why.specs.Texts.{answer_why, chain, fact_dated, fact_text, veil_since}
use Rattle.pua_since.specs.Dates.{AreDatesOf}
use Rattle.pua_since.specs.declared.chain.Dates.{Dates}

abbrev pub dated_lines : Tree → List Fact → List (Option ℕ) → List (List ℕ)
dated_lines t (fact ∷ facts) (line ∷ lines) = fact_dated t line fact ∷ dated_lines t facts lines
dated_lines t _ _ = []

mapped : (t : Tree) (line_of : Fact → Option ℕ) (facts : List Fact) →
    dated_lines t facts (map line_of facts) ≡ map (λ fact. fact_dated t (line_of fact) fact) facts
mapped t line_of [] = refl
mapped t line_of (fact ∷ facts) = ap (λ more. fact_dated t (line_of fact) fact ∷ more) (mapped t line_of facts)

-- what is told of each fact, and of the answer behind them
pub chained : (table : CallTable) (w : World) (asks : List Asked) (ask : Asked) (facts : List Fact) (dates : Dates) (t : Tree)
    (text : List ℕ) →
    t ≡ (world_after table w asks).tree → facts ≡ facts_of table (world_after table w asks) ask → AreDatesOf table w asks ask facts dates →
    text ≡ flat_map with_end (dated_lines t facts dates.facts.items) →
    text ++ with_end (answer_words table (world_after table w asks) ask
    ++ reason_tail table (world_after table w asks) ask (date_of (reason table (world_after table w asks) ask) dates.answer)) ≡ flat_map with_end (chain table w asks ask)
chained table w asks ask facts dates t text same are dated told =
    ap (λ front. front ++ with_end (answer_words table (world_after table w asks) ask
    ++ reason_tail table (world_after table w asks) ask (date_of (reason table (world_after table w asks) ask) dates.answer)))
    (told ∙ ap (λ lines. flat_map with_end (dated_lines t facts lines)) dated.veils ∙
    ap (flat_map with_end) (mapped t (veil_since table w asks ask) facts)
    ∙ (λ i. flat_map with_end (map (λ fact. fact_dated (same i) (veil_since table w asks ask fact) fact) (are i))))
    ∙ ap (λ date. flat_map with_end (map (fact_text table w asks ask) (facts_of table (world_after table w asks) ask))
    ++ with_end (answer_words table (world_after table w asks) ask ++ reason_tail table (world_after table w asks) ask date)) dated.answer
    ∙ ap (λ last. flat_map with_end (map (fact_text table w asks ask) (facts_of table (world_after table w asks) ask)) ++ last)
    (sym (append-nil (with_end (answer_why table w asks ask))))
    ∙ sym (flat_map-append with_end (map (fact_text table w asks ask) (facts_of table (world_after table w asks) ask))
    (answer_why table w asks ask ∷ []))

-- a further line
pub one_line : (t : Tree) (fact : Fact) (line : Option ℕ) (facts : List Fact) (lines : List (Option ℕ)) (all text told new : List ℕ) →
    all ≡ text ++ flat_map with_end (dated_lines t (fact ∷ facts) (line ∷ lines)) →
    told ≡ text ++ fact_dated t line fact → new ≡ told ++ 10 ∷ [] → all ≡ new ++ flat_map with_end (dated_lines t facts lines)
one_line t fact line facts lines all text told new so pushed closed =
    let whole : new ≡ (text ++ fact_dated t line fact) ++ 10 ∷ [] = closed ∙ ap (λ front. front ++ 10 ∷ []) pushed in
    so ∙ sym (ap (λ front. front ++ flat_map with_end (dated_lines t facts lines)) whole ∙ simp append_assoc)

-- no line is left where one of both has none
pub none_left : (t : Tree) (facts : List Fact) (lines : List (Option ℕ)) → (facts ≡ []) ⊎ (lines ≡ []) → dated_lines t facts lines ≡ []
none_left t [] lines empty = refl
none_left t (fact ∷ facts) [] empty = refl
none_left t (fact ∷ facts) (line ∷ lines) (inl empty) = cc
none_left t (fact ∷ facts) (line ∷ lines) (inr empty) = cc
