-- The parts of a line as what is said of it finds them.
use Rattle.std.proofs.Common.{◌≡◌, ℕ, zero, suc, ◌≤◌, Bool, true, false, cond, List, [], ◌∷◌, refl, sym, ap, ◌∙◌, Option, Some, None, arith}
use Rattle.std.proofs.Common.{length, map, take}
use Rattle.std.proofs.lemmas.Bool.{true≢false, lt-ltb}
use Rattle.std.specs.Borrow.{Bor}
use Rattle.std.specs.List.{find, list_all}
use Rattle.std.specs.Prelude.{not, nat_lt, ◌==◌, is_some, option_and_then, option_map}
use Rattle.pua_tree.specs.Fields.{first_fields}
use Rattle.pua_tree.specs.Spelling.{fields, is_field}
use Rattle.pua_tree.proofs.ForCallers.{guarded, None≢Some}
use Rattle.pua_calls.specs.declared.rules.Rules.{Rules}
use Rattle.pua_advice.specs.declared.arguments.Arguments.{Arguments}
use Rattle.pua_advice.specs.Advice.{HiddenByte, is_visible, field_advice, form_advice, misuse, arguments_advice, fields_advice, text_advice}
use Rattle.pua_advice.proofs.Agreeing.{well_formed, ill_formed}

-- bytes that are some
pub some_bytes : (n : ℕ) → false ≡ (n == 0) → nat_lt 0 n ≡ true
some_bytes zero e = absurd (true≢false (sym e))
some_bytes (suc n) e = lt-ltb 0 (suc n) (omega arith)

pub field_behind : (field : List ℕ) → false ≡ (length field == 0) →
    field_advice field ≡ option_map HiddenByte (find (λ b. not (is_visible b)) field)
field_behind [] e = absurd (true≢false (sym e))
field_behind (b ∷ more) e = refl

pub form_behind : (line : List ℕ) → false ≡ (length line == 0) →
    form_advice line ≡ option_and_then field_advice (find (λ f. not (is_field f)) (fields line))
form_behind [] e = absurd (true≢false (sym e))
form_behind (b ∷ more) e = refl

-- no call has more than three arguments
pub many_arguments : (word : List ℕ) (what : Option Arguments) (fs : List (Bor (List ℕ))) → 4 ≤ length fs →
    arguments_advice word what (map (λ f. f.now) fs) ≡ misuse word what
many_arguments word what [] long = absurd (omega arith)
many_arguments word what (a ∷ []) long = absurd (omega arith)
many_arguments word what (a ∷ b ∷ []) long = absurd (omega arith)
many_arguments word what (a ∷ b ∷ c ∷ []) long = absurd (omega arith)
many_arguments word what (a ∷ b ∷ c ∷ d ∷ more) long = refl

-- the first six fields decide
six_decide : (rules : Rules) (fs : List (List ℕ)) → fields_advice rules fs ≡ fields_advice rules (take 6 fs)
six_decide rules [] = refl
six_decide rules (p ∷ []) = refl
six_decide rules (p ∷ w ∷ []) = refl
six_decide rules (p ∷ w ∷ a ∷ []) = refl
six_decide rules (p ∷ w ∷ a ∷ b ∷ []) = refl
six_decide rules (p ∷ w ∷ a ∷ b ∷ c ∷ []) = refl
six_decide rules (p ∷ w ∷ a ∷ b ∷ c ∷ d ∷ more) = refl

pub by_form : (rules : Rules) (line : List ℕ) → None ≡ first_fields line → text_advice rules line ≡ form_advice line
by_form rules line e = by (list_all is_field (fields line)) refl e
  where
    by : (b : Bool) → list_all is_field (fields line) ≡ b → None ≡ cond b (Some (take 6 (fields line))) None → text_advice rules line ≡ form_advice line
    by true all is = absurd (None≢Some (take 6 (fields line)) is)
    by false some is =
        let wrong = ill_formed line some in
        ap (λ o. cond (is_some o) o (fields_advice rules (fields line))) wrong.2 ∙ sym wrong.2

pub by_fields : (rules : Rules) (line : List ℕ) (fs : List (List ℕ)) → Some fs ≡ first_fields line → text_advice rules line ≡ fields_advice rules fs
by_fields rules line fs e =
    let read = guarded (list_all is_field (fields line)) (take 6 (fields line)) fs (sym e) in
    ap (λ o. cond (is_some o) o (fields_advice rules (fields line))) (well_formed line read.0)
    ∙ six_decide rules (fields line) ∙ ap (fields_advice rules) read.1
