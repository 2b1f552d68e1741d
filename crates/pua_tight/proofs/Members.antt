-- The members of a set of promises, keyword after keyword.
use Rattle.std.proofs.Common.{◌≡◌, ℕ, List, [], ◌∷◌, ◌++◌, ◌+◌, ◌<◌, ◌≤◌, ◌∙◌, refl, sym, ap, cond, map, take, get_or, Bool, true, false, append-nil}
use Rattle.std.proofs.lemmas.List.{map-append, take_all}
use Rattle.std.proofs.lemmas.Option.{none-some, same_Some, slice_get-get_or, slice_get-map}
use Rattle.std.specs.Prelude.{Option, Some, None, Result, Ok, filter, option_map, slice_get}
use Rattle.pua_tree.proofs.ForCallers.{same_Ok}
use Rattle.pua_path.specs.declared.errno.Errno.{Errno}
use Rattle.pua_calls.specs.Promises.{holds, keyword_at, keyword_if, keyword_rows, promises_of}
use Rattle.pua_tight.proofs.PromisesTogether.{again, one_more}

-- each keyword is read as its bit
abbrev row_read_as : List ℕ × ℕ → Result ℕ Errno
row_read_as row = promises_of row.0

abbrev row_bit : List ℕ × ℕ → Result ℕ Errno
row_bit row = Ok row.1

rows_read : map row_read_as keyword_rows ≡ map row_bit keyword_rows
rows_read = refl

row_read : (index : ℕ) (row : List ℕ × ℕ) → slice_get keyword_rows index ≡ Some row → promises_of row.0 ≡ Ok row.1
row_read index row e =
    same_Some (promises_of row.0) (Ok row.1) (ap (option_map row_read_as) (sym e) ∙ sym (slice_get-map row_read_as keyword_rows index)
    ∙ ap (λ l. slice_get l index) rows_read ∙ slice_get-map row_bit keyword_rows index ∙ ap (option_map row_bit) e)

filtered : {X : Type 0} (p : X → Bool) (xs : List X) (x : X) → filter p (xs ++ x ∷ []) ≡ filter p xs ++ cond (p x) (x ∷ []) []
filtered p [] x = refl
filtered p (y ∷ xs) x = by (p y) (filtered p xs x)
  where
    by : (b : Bool) → filter p (xs ++ x ∷ []) ≡ filter p xs ++ cond (p x) (x ∷ []) [] →
        cond b (y ∷ filter p (xs ++ x ∷ [])) (filter p (xs ++ x ∷ [])) ≡ cond b (y ∷ filter p xs) (filter p xs) ++ cond (p x) (x ∷ []) []
    by true e = ap (λ l. y ∷ l) e
    by false e = e

abbrev pub members_to : ℕ → ℕ → List ℕ
members_to set index = filter (holds set) (map (λ row. row.1) (take index keyword_rows))

abbrev row_at : ℕ → List ℕ × ℕ
row_at index = get_or keyword_rows index ([], 0)

module _ (set index : ℕ) (less : index < 36) where
  there : slice_get keyword_rows index ≡ Some (row_at index)
  there = slice_get-get_or keyword_rows index ([], 0) less

  turn : members_to set (index + 1) ≡ members_to set index ++ cond (holds set (row_at index).1) ((row_at index).1 ∷ []) []
  turn = ap (λ rows. filter (holds set) (map (λ row. row.1) rows)) (one_more keyword_rows index (row_at index) less (again keyword_rows index ([], 0)))
      ∙ ap (filter (holds set)) (map-append (λ (row : List ℕ × ℕ). row.1) (take index keyword_rows) (row_at index ∷ []))
      ∙ filtered (holds set) (map (λ row. row.1) (take index keyword_rows)) (row_at index).1

  seen : (o : Option (List ℕ)) → keyword_at set index ≡ o → cond (holds set (row_at index).1) (Some (row_at index).0) None ≡ o
  seen o e = sym (ap (keyword_if set) there) ∙ e

  chosen : (b : Bool) (name : List ℕ) → cond b (Some (row_at index).0) None ≡ Some name → (b ≡ true) × ((row_at index).0 ≡ name)
  chosen true name e = (refl, same_Some (row_at index).0 name e)
  chosen false name e = absurd (none-some name e)

  unchosen : (b : Bool) → cond b (Some (row_at index).0) None ≡ None → b ≡ false
  unchosen true e = absurd (none-some (row_at index).0 (sym e))
  unchosen false e = refl

  -- one that the set has not
  pub not_member : keyword_at set index ≡ None → members_to set (index + 1) ≡ members_to set index
  not_member e =
      turn ∙ ap (λ b. members_to set index ++ cond b ((row_at index).1 ∷ []) []) (unchosen (holds set (row_at index).1) (seen None e))
      ∙ append-nil (members_to set index)

  pub is_read : (name : List ℕ) → keyword_at set index ≡ Some name → promises_of name ≡ Ok (row_at index).1
  is_read name e =
      let is = chosen (holds set (row_at index).1) name (seen (Some name) e) in
      ap promises_of (sym is.1) ∙ row_read index (row_at index) there

  -- one that it has
  pub next_member : (name : List ℕ) (bit : ℕ) → keyword_at set index ≡ Some name → promises_of name ≡ Ok bit →
      members_to set index ++ bit ∷ [] ≡ members_to set (index + 1)
  next_member name bit e read =
      let is = chosen (holds set (row_at index).1) name (seen (Some name) e) in
      sym (turn ∙ ap (λ b. members_to set index ++ cond b ((row_at index).1 ∷ []) []) is.0
      ∙ ap (λ n. members_to set index ++ n ∷ []) (same_Ok (row_at index).1 bit (sym (is_read name e) ∙ read)))

pub all_members : (set index : ℕ) → 36 ≤ index → members_to set index ≡ filter (holds set) (map (λ row. row.1) keyword_rows)
all_members set index past = ap (λ rows. filter (holds set) (map (λ row. row.1) rows)) (take_all index keyword_rows past)
