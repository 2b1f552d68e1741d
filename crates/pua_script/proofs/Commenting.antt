-- What stands before a comment, byte after byte.
use Rattle.pua_script.proofs.Common.{◌≡◌, ℕ, ◌<◌, ◌≤◌, ◌+◌, ◌⊎◌, inl, inr, Bool, true, false, ◌&&◌, cond, eqb, List, [], ◌∷◌, ◌++◌, length, take, refl, sym, ap, ◌∙◌}
use Rattle.std.proofs.Common.{drop, get_or, Option, Some, None}
use Rattle.std.specs.Prelude.{option_map}
use Rattle.std.proofs.lemmas.Bool.{ne_eqb}
use Rattle.std.proofs.lemmas.List.{at_drop_more, at_drop_all, take_more, append_assoc}
use Rattle.pua_script.specs.Scripts.{before_rest, before_comment}

-- a byte that begins no comment
pub no_comment : (may_begin : Bool) (b : ℕ) → ((may_begin ≡ true) × (b ≡ 35 → ⊥)) ⊎ (may_begin ≡ false) → (may_begin && eqb b 35) ≡ false
no_comment may_begin b (inl both) = (λ i. both.0 i && eqb b 35) ∙ ne_eqb b 35 both.1
no_comment may_begin b (inr never) = ap (λ m. m && eqb b 35) never

module _ (line : List ℕ) where
  -- the text where so much of it is kept before blanks, where all so far are read, and this is what the bytes behind them add
  abbrev pub ended : ℕ → ℕ → List ℕ → List ℕ
  ended kept at [] = take kept line
  ended kept at (b ∷ more) = take at line ++ b ∷ more

  abbrev pub ReadTo : ℕ → Bool → ℕ → Type 0
  ReadTo kept may_begin at = option_map (ended kept at) (before_comment may_begin (drop at line)) ≡ before_comment true line

  pub begins : ReadTo 0 true 0
  begins = by (before_comment true line)
    where
      by : (text : Option (List ℕ)) → option_map (ended 0 0) text ≡ text
      by None = refl
      by (Some []) = refl
      by (Some (b ∷ more)) = refl

  pub all_read : (kept at : ℕ) (may_begin : Bool) → length line ≤ at → ReadTo kept may_begin at → None ≡ before_comment true line
  all_read kept at may_begin end read =
      sym (at_drop_all (λ rest. option_map (ended kept at) (before_comment may_begin rest)) line at end) ∙ read

  module _ (kept at : ℕ) (may_begin : Bool) (b : ℕ) (here : at < length line) (is : get_or line at 0 ≡ b) (read : ReadTo kept may_begin at) where
    abbrev further : Option (List ℕ)
    further = before_comment (eqb b 32) (drop (at + 1) line)

    -- the rest begins with this byte
    opens : before_comment may_begin (drop at line) ≡ cond (may_begin && eqb b 35) (Some []) (option_map (before_rest b) further)
    opens = at_drop_more (before_comment may_begin) line at 0 here
        ∙ ap (λ x. cond (may_begin && eqb x 35) (Some []) (option_map (before_rest x) (before_comment (eqb x 32) (drop (at + 1) line)))) is

    one_more : take (at + 1) line ≡ take at line ++ b ∷ []
    one_more = take_more line at 0 here ∙ ap (λ x. take at line ++ x ∷ []) is

    pub on_comment : (may_begin && eqb b 35) ≡ true → Some (take kept line) ≡ before_comment true line
    on_comment e = sym (ap (option_map (ended kept at)) (opens ∙ ap (λ t. cond t (Some []) (option_map (before_rest b) further)) e)) ∙ read

    goes_on : (may_begin && eqb b 35) ≡ false → option_map (ended kept at) (option_map (before_rest b) further) ≡ before_comment true line
    goes_on e = sym (ap (option_map (ended kept at)) (opens ∙ ap (λ t. cond t (Some []) (option_map (before_rest b) further)) e)) ∙ read

    joined : (c : ℕ) (more : List ℕ) → take (at + 1) line ++ c ∷ more ≡ take at line ++ b ∷ c ∷ more
    joined c more = ap (λ t. t ++ c ∷ more) one_more ∙ append_assoc (take at line) (b ∷ []) (c ∷ more)

    pub on_blank : (may_begin && eqb b 35) ≡ false → eqb b 32 ≡ true → ReadTo kept (eqb b 32) (at + 1)
    on_blank other blank = by further ∙ goes_on other
      where
        by : (rest : Option (List ℕ)) → option_map (ended kept (at + 1)) rest ≡ option_map (ended kept at) (option_map (before_rest b) rest)
        by None = refl
        by (Some []) = sym (ap (λ t. Some (ended kept at (cond t [] (b ∷ [])))) blank)
        by (Some (c ∷ more)) = ap Some (joined c more)

    pub on_byte : (may_begin && eqb b 35) ≡ false → eqb b 32 ≡ false → ReadTo (at + 1) (eqb b 32) (at + 1)
    on_byte other byte = by further ∙ goes_on other
      where
        by : (rest : Option (List ℕ)) → option_map (ended (at + 1) (at + 1)) rest ≡ option_map (ended kept at) (option_map (before_rest b) rest)
        by None = refl
        by (Some []) = ap Some (one_more ∙ sym (ap (λ t. ended kept at (cond t [] (b ∷ []))) byte))
        by (Some (c ∷ more)) = ap Some (joined c more)
