-- Whether a list for ever has a call on something, by its rows.
use Rattle.std.proofs.Common.{◌≡◌, ℕ, ◌<◌, Bool, true, false, List, [], ◌∷◌, ◌++◌, length, take, refl, sym, ap, ◌∙◌, arith}
use Rattle.std.proofs.Common.{cond, ◌+◌, ◌-◌, ◌≤◌, get_or, take_all}
use Rattle.std.proofs.lemmas.Bool.{and_right, eqb-true, lt-ltb}
use Rattle.std.proofs.lemmas.List.Folds.{list_any_at, list_any_more}
use Rattle.std.proofs.lemmas.Map.Views.{any-filter_same}
use Rattle.std.specs.List.{list_any}
use Rattle.std.specs.Prelude.{◌&&◌, ◌||◌, ◌==◌, filter, Option, Some, None, option_map}
use Rattle.pua_tree.specs.Tree.{Tree}
use Rattle.pua_path.specs.declared.found.Found.TheVariants.{Slot, Whole}
use Rattle.pua_calls.specs.Calls.{calls, call_number}
use Rattle.pua_calls.specs.CallSets.{calls_in, has}
use Rattle.pua_calls.specs.declared.call.Call.{Call}
use Rattle.pua_calls.specs.declared.call.Call.TheVariants as call
use Rattle.pua_calls.proofs.ForCallers.{same_bit}
use Rattle.pua_audit.specs.Reach.{Word}
use Rattle.pua_objects.specs.Objects.{At, Others}
use Rattle.pua_ever.specs.Ever.{EverLine, Thing, Stands, Comes, NewDir, NewOthers, NewFile, NewLink, NewSock, NewFifo, has_ever_calls}
use Rattle.pua_ever.specs.EverList.{AreEverTold, word_of_row}
use Rattle.pua_ever.specs.declared.list.EverRow.{EverRow}
use Rattle.pua_how.specs.Outlooks.{row_has, same_target}
use Rattle.pua_how.specs.Steps.{is_some_by}
use Rattle.pua_how.specs.Targets.{has_call, is_about, is_listed, line_has, target_about}
use Rattle.pua_how.specs.declared.target.Target.{Target}
use Rattle.pua_how.specs.declared.target.Target.TheVariants as target

and_true : (b : Bool) → (b && true) ≡ b
and_true true = refl
and_true false = refl

-- ---- some element of a list

-- the first elements have it not, and then one more
pub none_more : {A : Type 0} (p : A → Bool) (xs : List A) (i : ℕ) (x : A) → i < length xs → x ≡ get_or xs i x → list_any p (take i xs) ≡ false →
    p x ≡ false → list_any p (take (i + 1) xs) ≡ false
none_more p xs i x within here none not = list_any_more p xs i x within ∙ (λ k. none k || (ap p (sym here) ∙ not) k)

pub some_here : {A : Type 0} (p : A → Bool) (xs : List A) (i : ℕ) (x : A) → i < length xs → x ≡ get_or xs i x → p x ≡ true → list_any p xs ≡ true
some_here p xs i x within here is = list_any_at p xs i x within (ap p (sym here) ∙ is)

pub none_in_all : {A : Type 0} (p : A → Bool) (xs : List A) (i : ℕ) → length xs ≤ i → list_any p (take i xs) ≡ false → list_any p xs ≡ false
none_in_all p xs i past none = ap (list_any p) (sym (take_all i xs past)) ∙ none

any_same : {A : Type 0} (p q : A → Bool) → ((x : A) → p x ≡ q x) → (xs : List A) → list_any p xs ≡ list_any q xs
any_same p q same [] = refl
any_same p q same (x ∷ xs) = λ i. same x i || any_same p q same xs i

-- ---- a call among those that pass a test

abbrev pub is_call : Call → Call → Bool
is_call call other = call_number other == call_number call

-- two calls of one number are one
pub same_number : (call other : Call) → is_call call other ≡ true → other ≡ call
same_number call other e = same_bit other call (ap (λ n. n - 1) (eqb-true (call_number other) (call_number call) e))

one_of : (call : Call) → list_any (is_call call) calls ≡ true
one_of call.Stat = refl
one_of _ = refl

passing : (p : Call → Bool) (call : Call) (cs : List Call) → has_call (filter p cs) call ≡ (p call && has_call cs call)
passing p call cs = any-filter_same (is_call call) p (p call) (λ other same. ap p (same_number call other same)) cs

among_all : (p : Call → Bool) (call : Call) → has_call (filter p calls) call ≡ p call
among_all p call = passing p call calls ∙ ap (λ b. p call && b) (one_of call) ∙ and_true (p call)

-- ---- what rows are about

about_same : (asked : Target) (last : ℕ) (thing : Thing) → is_about asked thing ≡ same_target asked (target_about last thing)
about_same (target.Directory asked) last (Stands (At (Whole dir way))) = refl
about_same _ last (Stands (At (Whole dir way))) = refl
about_same (target.Node asked) last (Stands (At (Slot dir name (Some node)))) = refl
about_same _ last (Stands (At (Slot dir name (Some node)))) = refl
about_same (target.Name asked called) last (Stands (At (Slot dir name None))) = refl
about_same _ last (Stands (At (Slot dir name None))) = refl
about_same (target.Others asked) last (Stands (Others dir)) = refl
about_same _ last (Stands (Others dir)) = refl
about_same (target.NewDirectory before) last (Comes NewDir) = refl
about_same _ last (Comes NewDir) = refl
about_same (target.NewOthers before) last (Comes NewOthers) = refl
about_same _ last (Comes NewOthers) = refl
about_same (target.NewFile before) last (Comes NewFile) = refl
about_same _ last (Comes NewFile) = refl
about_same (target.NewLink before) last (Comes NewLink) = refl
about_same _ last (Comes NewLink) = refl
about_same (target.NewSock before) last (Comes NewSock) = refl
about_same _ last (Comes NewSock) = refl
about_same (target.NewFifo before) last (Comes NewFifo) = refl
about_same _ last (Comes NewFifo) = refl

pub some_about : (asked : Target) (last : ℕ) (o : Option Thing) →
    is_some_by (same_target asked) (option_map (target_about last) o) ≡ is_some_by (is_about asked) o
some_about asked last None = refl
some_about asked last (Some thing) = sym (about_same asked last thing)

-- ---- lines

module _ (asked : Target) (call : Call) where
  -- a line without calls is left out, and has none
  first_listed : (word : Word) (thing : Thing) (cs : List Call) (more : List EverLine) →
      let line : EverLine = record { word = word; thing = thing; calls = cs } in
      is_listed (filter has_ever_calls (line ∷ []) ++ more) asked call ≡ (line_has asked call line || is_listed more asked call)
  first_listed word thing [] more = ap (λ b. b || is_listed more asked call) (sym (and_right (is_about asked thing) false refl))
  first_listed word thing (c ∷ cs) more =
      let line : EverLine = record { word = word; thing = thing; calls = c ∷ cs } in
      ap (λ b. is_listed (cond b (line ∷ []) [] ++ more) asked call) (lt-ltb 0 (length (c ∷ cs)) (omega arith))

  -- a row has the call where its line has
  pub rows_have : (t : Tree) (before : Word) (rows : List EverRow) (lines : List EverLine) → AreEverTold t before rows lines [] →
      list_any (row_has t asked call) rows ≡ is_listed lines asked call
  rows_have t before [] lines told = ap (λ (ls : List EverLine). is_listed ls asked call) (sym told)
  rows_have t before (row ∷ rows) lines told =
      let word = word_of_row before row in
      (λ i. (is_some_by (is_about asked) (told.5 i) && sym (among_all (has row.line.calls) call) i) || rows_have t word rows told.1 told.4 i)
      ∙ sym (first_listed word told.0 (calls_in row.line.calls) told.1)
      ∙ ap (λ (ls : List EverLine). is_listed ls asked call) (sym told.3)

pub some_rows_have : (call : Call) (t : Tree) (rows : List EverRow) (lines : List EverLine) → AreEverTold t [] rows lines [] →
    (things : List Target) → list_any (λ asked. list_any (row_has t asked call) rows) things ≡ list_any (λ asked. is_listed lines asked call) things
some_rows_have call t rows lines told = any_same _ _ (λ asked. rows_have asked call t [] rows lines told)
