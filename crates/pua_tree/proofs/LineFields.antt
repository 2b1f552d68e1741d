-- A line by the first six of its fields.
use Rattle.pua_tree.proofs.Common.{◌≡◌, ◌<◌, ◌≤◌, ◌⊎◌, ℕ, Bool, true, false, List, [], ◌∷◌, length, get_or, map, Option, Some, None, refl}
use Rattle.pua_tree.proofs.Common.{sym, ap, ◌∙◌, arith, cond, take, inl, inr, option_map, list_all, fields, is_field, ListingLine}
use Rattle.pua_tree.proofs.Common.{listing_line, line_of_fields, Kind}
use Rattle.std.specs.Borrow.{Bor}
use Rattle.pua_tree.specs.Fields.{first_fields}
use Rattle.pua_tree.specs.declared.form.Form.{Form}
use Rattle.pua_tree.specs.Listing.{knows_hard, knows_types, is_mount_word, plain_kind, long_kind}

-- a line with six fields or more is none
line_of_fields-take : (form : Form) (all : List (List ℕ)) → line_of_fields form all ≡ line_of_fields form (take 6 all)
line_of_fields-take form [] = refl
line_of_fields-take form (a ∷ []) = refl
line_of_fields-take form (a ∷ b ∷ []) = refl
line_of_fields-take form (a ∷ b ∷ c ∷ []) = refl
line_of_fields-take form (a ∷ b ∷ c ∷ d ∷ []) = refl
line_of_fields-take form (a ∷ b ∷ c ∷ d ∷ e ∷ []) = refl
line_of_fields-take form (a ∷ b ∷ c ∷ d ∷ e ∷ f ∷ more) = refl

by_test : (form : Form) (test : Bool) (all kept : List (List ℕ)) → Some kept ≡ cond test (Some (take 6 all)) None →
    cond test (line_of_fields form all) None ≡ line_of_fields form kept
by_test form true all kept e = let same : kept ≡ take 6 all = cc in line_of_fields-take form all ∙ ap (line_of_fields form) (sym same)
by_test form false all kept e = cc

-- the line whose first fields these are
pub line_of-first_fields : (form : Form) (text : List ℕ) (kept : List (List ℕ)) → Some kept ≡ first_fields text →
    listing_line form text ≡ line_of_fields form kept
line_of-first_fields form text kept e = by_test form (list_all is_field (fields text)) (fields text) kept e

-- the line of four fields, where they lie in the text
abbrev pub plain_line : List (Bor (List ℕ)) → Bor (List ℕ) → Kind → ListingLine
plain_line s d kind =
    record {
      number = (get_or s 0 d).now;
      kind = Some kind;
      mount = is_mount_word (get_or s 1 d).now;
      parent = (get_or s 2 d).now;
      name = (get_or s 3 d).now;
      last = [];
    }

pub line_of_fields-four : (form : Form) (s : List (Bor (List ℕ))) (d : Bor (List ℕ)) → length s ≡ 4
    → line_of_fields form (map (λ f. f.now) s) ≡ option_map (plain_line s d) (plain_kind (knows_types form) (get_or s 1 d).now)
line_of_fields-four form [] d e = absurd (omega arith)
line_of_fields-four form (a ∷ []) d e = absurd (omega arith)
line_of_fields-four form (a ∷ b ∷ []) d e = absurd (omega arith)
line_of_fields-four form (a ∷ b ∷ c ∷ []) d e = absurd (omega arith)
line_of_fields-four form (a ∷ b ∷ c ∷ f ∷ []) d e = refl
line_of_fields-four form (a ∷ b ∷ c ∷ f ∷ g ∷ more) d e = absurd (omega arith)

-- too few fields, or too many
pub line_of_fields-other : (form : Form) (s : List (Bor (List ℕ))) → (length s < 4) ⊎ (6 ≤ length s) →
    line_of_fields form (map (λ f. f.now) s) ≡ None
line_of_fields-other form [] e = refl
line_of_fields-other form (a ∷ []) e = refl
line_of_fields-other form (a ∷ b ∷ []) e = refl
line_of_fields-other form (a ∷ b ∷ c ∷ []) e = refl
line_of_fields-other form (a ∷ b ∷ c ∷ d ∷ []) e = elim e [ inl few ↦ absurd (omega arith) | inr many ↦ absurd (omega arith) ]
line_of_fields-other form (a ∷ b ∷ c ∷ d ∷ f ∷ []) e = elim e [ inl few ↦ absurd (omega arith) | inr many ↦ absurd (omega arith) ]
line_of_fields-other form (a ∷ b ∷ c ∷ d ∷ f ∷ g ∷ more) e = refl

-- the line of five fields
abbrev pub long_line : List (Bor (List ℕ)) → Bor (List ℕ) → Option Kind → ListingLine
long_line s d kind = record {
  number = (get_or s 0 d).now;
  kind = kind;
  mount = false;
  parent = (get_or s 2 d).now;
  name = (get_or s 3 d).now;
  last = (get_or s 4 d).now;
}

pub line_of_fields-five : (form : Form) (s : List (Bor (List ℕ))) (d : Bor (List ℕ)) → length s ≡ 5
    → line_of_fields form (map (λ f. f.now) s) ≡ option_map (long_line s d) (long_kind (knows_hard form) (get_or s 1 d).now)
line_of_fields-five form [] d e = absurd (omega arith)
line_of_fields-five form (a ∷ []) d e = absurd (omega arith)
line_of_fields-five form (a ∷ b ∷ []) d e = absurd (omega arith)
line_of_fields-five form (a ∷ b ∷ c ∷ []) d e = absurd (omega arith)
line_of_fields-five form (a ∷ b ∷ c ∷ f ∷ []) d e = absurd (omega arith)
line_of_fields-five form (a ∷ b ∷ c ∷ f ∷ g ∷ []) d e = refl
line_of_fields-five form (a ∷ b ∷ c ∷ f ∷ g ∷ x ∷ more) d e = absurd (omega arith)
