-- The lines of what is to come, one after another.
use Rattle.pua_ever.proofs.Common.{ℕ, ◌≡◌, List, [], ◌∷◌, ◌++◌, Bool, true, false, cond, map, refl, sym, ap, ◌∙◌, Option, Some, None}
use Rattle.pua_ever.proofs.Common.{◌&&◌, filter, flat_map, Tree, Spot, Slot, CallTable, calls, has, ProcessState, veils, Call, Word, Subject}
use Rattle.pua_ever.proofs.Common.{At, Item, items, New, Stands, Comes, EverLine, may_edit, can_make, own_spot, subjects_of}
use Rattle.pua_ever.proofs.Common.{is_ever_allowed, all_new, ever_line, new_line, has_ever_calls, ever, ever_lines_of, both_of, made_left}
use Rattle.pua_ever.proofs.Common.{AreOnFreed}
use Rattle.std.proofs.lemmas.List.Elements.{filter-append}
use Rattle.pua_calls.specs.CallSets.{calls_in}
use Rattle.pua_ever.specs.Ever.{Thing, can_be_freed, freed_at, names_to_free}
use Rattle.pua_ever.specs.Ever.{is_new_allowed}
use Rattle.pua_ever.specs.EverLines.{Left, Now, Freed, Coming, lines_about, line_with}
use Rattle.pua_ever.specs.declared.line.EverLine as given
use Rattle.pua_ever.specs.declared.made.Made.TheVariants as made

module _ (t : Tree) (table : CallTable) (h : ProcessState) where
  names_then : (word : Word) (names : List Subject) (more : List (Word × Subject)) (last : List EverLine)
      → map (ever_line t table h) (map (λ subject. (word, subject)) names ++ more) ++ last
      ≡ map (λ subject. ever_line t table h (word, subject)) names ++ (map (ever_line t table h) more ++ last)
  names_then word [] more last = refl
  names_then word (name ∷ names) more last = ap (λ lines. ever_line t table h (word, name) ∷ lines) (names_then word names more last)

  all_lines : (xs : List Item)
      → flat_map (lines_about t table h) (flat_map both_of xs ++ made_left (Some made.Dir))
      ≡ map (ever_line t table h) (flat_map (subjects_of t table h) xs) ++ map (new_line t table h) all_new
  all_lines [] = refl
  all_lines (x ∷ xs) =
      ap (λ lines. ever_line t table h (
        x.word,
        x.subject,
      ) ∷ (map (λ subject. ever_line t table h (x.word, subject)) (names_to_free t table h x.subject) ++ lines)) (all_lines xs)
      ∙ ap (λ lines. ever_line t table h (x.word, x.subject) ∷ lines)
      (sym (names_then x.word (names_to_free t table h x.subject) (flat_map (subjects_of t table h) xs) (map (new_line t table h) all_new)))

  -- at first all lines are to come
  pub lines_first : ever_lines_of t table h (flat_map both_of (items t (veils h)) ++ made_left (Some made.Dir)) ≡ ever t table h
  lines_first = ap (filter has_ever_calls) (all_lines (items t (veils h)))

  -- the lines of the first thing, and then the others
  pub lines_cons : (first : Left) (left : List Left) →
      ever_lines_of t table h (first ∷ left) ≡ filter has_ever_calls (lines_about t table h first) ++ ever_lines_of t table h left
  lines_cons first left = filter-append has_ever_calls (lines_about t table h first) (flat_map (lines_about t table h) left)

  same_calls : (set : ℕ) (p : Call → Bool) → ((call : Call) → has set call ≡ p call) → calls_in set ≡ filter p calls
  same_calls set p same = (λ i. filter (λ call. same call i) calls)

  -- the line of an item
  pub now_lines : (word : Word) (subject : Subject) (line : given.EverLine) →
      ((call : Call) → has line.calls call ≡ is_ever_allowed t table h subject call)
      → filter has_ever_calls (lines_about t table h (Now (record { word = word; subject = subject })))
      ≡ filter has_ever_calls (line_with word (Stands subject) line ∷ [])
  now_lines word subject line same =
      ap (λ cs. filter has_ever_calls (record { word = word; thing = Stands subject; calls = cs } ∷ []))
      (sym (same_calls line.calls (is_ever_allowed t table h subject) same))

  -- the line of what can be made
  pub made_lines : (new : New) (line : given.EverLine) →
      ((call : Call) → has line.calls call ≡ ((may_edit table h && can_make t table h new) && is_new_allowed t table h new call))
      → filter has_ever_calls (lines_about t table h (Coming new)) ≡ filter has_ever_calls (line_with [] (Comes new) line ∷ [])
  made_lines new line same =
      ap (λ cs. filter has_ever_calls (record { word = []; thing = Comes new; calls = cs } ∷ []))
      (sym (same_calls line.calls _ same ∙ by (may_edit table h && can_make t table h new)))
    where
      by : (b : Bool) → filter (λ call. b && is_new_allowed t table h new call) calls ≡ cond b (filter (is_new_allowed t table h new) calls)
          []
      by true = refl
      by false = refl

  -- the line of a name that is free once what stands there is taken away
  abbrev pub freed_name : Option Spot → Subject
  freed_name (Some spot) = At (Slot spot.0 spot.1 None)
  freed_name None = At (Slot 0 [] None)

  pub freed_lines : (word : Word) (subject : Subject) (line : given.EverLine) → AreOnFreed t table h (own_spot subject) line.calls
      → filter has_ever_calls (lines_about t table h (Freed (record { word = word; subject = subject })))
      ≡ filter has_ever_calls (line_with word (Stands (freed_name (own_spot subject))) line ∷ [])
  freed_lines word subject line = by (own_spot subject)
    where
      no_line : (thing : Thing) → calls_in line.calls ≡ [] → [] ≡ filter has_ever_calls (line_with word thing line ∷ [])
      no_line thing none = ap (λ cs. filter has_ever_calls (record { word = word; thing = thing; calls = cs } ∷ [])) (sym none)

      at : (spot : Spot) (b : Bool) →
          ((call : Call) → has line.calls call ≡ (b && is_ever_allowed t table h (At (Slot spot.0 spot.1 None)) call))
          → filter has_ever_calls (map (λ s. ever_line t table h (word, s)) (cond b (At (Slot spot.0 spot.1 None) ∷ []) []))
          ≡ filter has_ever_calls (line_with word (Stands (At (Slot spot.0 spot.1 None))) line ∷ [])
      at spot true same = now_lines word (At (Slot spot.0 spot.1 None)) line same
      at spot false same = no_line (Stands (At (Slot spot.0 spot.1 None))) (same_calls line.calls _ same)

      by : (o : Option Spot) → AreOnFreed t table h o line.calls
          → filter has_ever_calls (map (λ s. ever_line t table h (word, s)) (freed_at t table h o))
          ≡ filter has_ever_calls (line_with word (Stands (freed_name o)) line ∷ [])
      by None are = no_line (Stands (freed_name None)) (same_calls line.calls _ (are.none refl))
      by (Some spot) are = at spot (can_be_freed t table h spot) (are.some spot refl)
