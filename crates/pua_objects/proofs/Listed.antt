-- Lines of what is to come, one after another.
use Rattle.pua_objects.proofs.Common.{◌≡◌, ◌≢◌, List, [], ◌∷◌, Bool, true, false, cond, length, refl, sym, ap, ◌∙◌, arith, filter}
use Rattle.pua_objects.proofs.Common.{nat_lt, Tree, CallTable, calls, ProcessState, Call, Word, Subject, Item, Line}
use Rattle.pua_objects.proofs.Common.{line_of, has_calls, calls_on, lines_of}
use Rattle.std.proofs.lemmas.Bool.{lt-ltb}
use Rattle.pua_calls.specs.CallSets.{calls_in}
use Rattle.pua_objects.specs.Lines.{IsLineOn}
use Rattle.pua_objects.specs.declared.line.ObjectLine.{ObjectLine}

module _ (t : Tree) (table : CallTable) (h : ProcessState) (subject : Subject) (given : ObjectLine) (on : IsLineOn t table h subject given) where
  same_calls : calls_on t table h subject ≡ calls_in given.calls
  same_calls = (λ i. filter (λ call. sym (on.calls call) i) calls)

  module _ (word : Word) where
    abbrev item : Item
    item = record { word = word; subject = subject }

    abbrev line : Line
    line = record { word = word; subject = subject; calls = calls_in given.calls }

    line_is : line_of t table h item ≡ line
    line_is = (λ i. record { word = word; subject = subject; calls = same_calls i })

    by_calls : (items : List Item) (b : Bool) → has_calls line ≡ b →
        lines_of t table h (item ∷ items) ≡ cond b (line ∷ lines_of t table h items) (lines_of t table h items)
    by_calls items b is = (λ i. cond (has_calls (line_is i)) (line_is i ∷ lines_of t table h items) (lines_of t table h items)) ∙
        ap (λ c. cond c (line ∷ lines_of t table h items) (lines_of t table h items)) is

    -- a line without calls is left out
    pub left_out : (items : List Item) → calls_in given.calls ≡ [] → lines_of t table h (item ∷ items) ≡ lines_of t table h items
    left_out items none = by_calls items false (ap (λ cs. nat_lt 0 (length cs)) none)

    pub kept_in : (items : List Item) → calls_in given.calls ≢ [] → lines_of t table h (item ∷ items) ≡ line ∷ lines_of t table h items
    kept_in items some = by_calls items true (some_calls (calls_in given.calls) some)
      where
        some_calls : (cs : List Call) → cs ≢ [] → nat_lt 0 (length cs) ≡ true
        some_calls [] some = absurd (some refl)
        some_calls (c ∷ cs) some = lt-ltb 0 (length (c ∷ cs)) (omega arith)
