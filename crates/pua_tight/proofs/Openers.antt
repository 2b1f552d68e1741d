-- What promises open for processes within one another: one row at most has a call on a path, and its promise is held or not.
use Rattle.std.proofs.Common.{◌≡◌, ℕ, List, [], ◌∷◌, refl, sym, ap, ◌∙◌, Bool, true, false, cond, ◌&&◌, not, length}
use Rattle.std.proofs.lemmas.Bool.{false≢true, and_parts, and_from}
use Rattle.std.specs.List.{list_all, starts_with}
use Rattle.std.specs.Prelude.{Option, Some, None, Result, Ok, Err, unwrap_or, take, find}
use Rattle.pua_tree.specs.Names.{components, same_bytes}
use Rattle.pua_tree.proofs.ForCallers.{same_word}
use Rattle.pua_path.specs.Paths.{ends_in_slash, is_absolute}
use Rattle.pua_path.specs.declared.errno.Errno.{Errno}
use Rattle.pua_calls.specs.Promises.{holds, no_promises, promises_of}
use Rattle.pua_calls.specs.Calls.{CallTable, about_rules}
use Rattle.pua_calls.specs.declared.call.Call.{Call}
use Rattle.pua_policy.specs.States.{ProcessState}
use Rattle.pua_policy.proofs.ForCallers.{holds_through}
use Rattle.pua_script.specs.Canonical.{canonical}
use Rattle.pua_script.specs.Openings.{Opening, openings, opening_of, is_opening, opens_call, has_call, is_opened, are_names, holds_named}
use Rattle.pua_script.specs.declared.request.Action.TheVariants.{OnPath}
use Rattle.pua_tight.specs.Narrower.{StateWithin}
use Rattle.pua_tight.specs.Laws.{named_in, promise_in, opener_of}
use Rattle.pua_tight.proofs.Sets.{default_within}
use Rattle.pua_tight.proofs.ThreeProcesses.{StateThree, default_three, default_alike, alike_in, has_both, same_truth}
use lib.Pointwise.{pointwise, bytes_decides}

-- a text's names begin with these
abbrev begins : List (List ℕ) → List (List ℕ) → Bool
begins [] text = true
begins (name ∷ names) [] = false
begins (name ∷ names) (piece ∷ text) = same_bytes name piece && begins names text

-- one of two lists of names begins with the other
abbrev are_along : List (List ℕ) → List (List ℕ) → Bool
are_along [] names = true
are_along (name ∷ names) [] = true
are_along (name ∷ names) (other ∷ others) = same_bytes name other && are_along names others

begins_front : (names text : List (List ℕ)) → pointwise same_bytes names (take (length names) text) ≡ true → begins names text ≡ true
begins_front [] text e = refl
begins_front (name ∷ names) [] e = absurd (false≢true e)
begins_front (name ∷ names) (piece ∷ text) e =
    let both = and_parts (same_bytes name piece) (pointwise same_bytes names (take (length names) text)) e in
    and_from (same_bytes name piece) (begins names text) both.0 (begins_front names text both.1)

begins_whole : (names text : List (List ℕ)) → pointwise same_bytes names text ≡ true → begins names text ≡ true
begins_whole [] text e = refl
begins_whole (name ∷ names) [] e = absurd (false≢true e)
begins_whole (name ∷ names) (piece ∷ text) e =
    let both = and_parts (same_bytes name piece) (pointwise same_bytes names text) e in
    and_from (same_bytes name piece) (begins names text) both.0 (begins_whole names text both.1)

begins_named : (below : Bool) (names text : List (List ℕ)) → are_names below names text ≡ true → begins names text ≡ true
begins_named true names text e = begins_front names text (and_parts (starts_with same_bytes text names) _ e).0
begins_named false names text e = begins_whole names text e

along_one : (names others text : List (List ℕ)) → begins names text ≡ true → begins others text ≡ true → are_along names others ≡ true
along_one [] others text e f = refl
along_one (name ∷ names) [] text e f = refl
along_one (name ∷ names) (other ∷ others) [] e f = absurd (false≢true e)
along_one (name ∷ names) (other ∷ others) (piece ∷ text) e f =
    let one = and_parts (same_bytes name piece) (begins names text) e in
    let two = and_parts (same_bytes other piece) (begins others text) f in
    let same : name ≡ other = same_word name piece one.0 ∙ sym (same_word other piece two.0) in
    and_from (same_bytes name other) (are_along names others) ((bytes_decides name other).1 same) (along_one names others text one.1 two.1)

-- no two rows are of one path
abbrev apart : Opening → Opening → Bool
apart row other = not (are_along (components row.path) (components other.path))

abbrev are_apart : List Opening → Bool
are_apart [] = true
are_apart (row ∷ rows) = list_all (apart row) rows && are_apart rows

all_apart : are_apart openings ≡ true
all_apart = refl

-- a row, if its promise is one of these
abbrev if_held : ℕ → Option Opening → Option Opening
if_held set None = None
if_held set (Some o) = cond (holds_named set (promises_of o.promise)) (Some o) None

module _ (set : ℕ) (call : Call) (text : List ℕ) where
  begins_opened : (o : Opening) → opens_call call text o ≡ true → begins (components o.path) (canonical text) ≡ true
  begins_opened o e =
      let named = (and_parts (has_call call o.calls) (is_opened o.path text) e).1 in
      begins_named (ends_in_slash o.path) (components o.path) (canonical text) (and_parts (is_absolute text) _ named).1

  no_other : (row : Opening) (rows : List Opening) → list_all (apart row) rows ≡ true → opens_call call text row ≡ true →
      find (is_opening set call text) rows ≡ None
  no_other row [] others e = refl
  no_other row (other ∷ rows) others e =
      let both = and_parts (apart row other) (list_all (apart row) rows) others in
      by (is_opening set call text other) refl (no_other row rows both.1 e) both.0
    where
      by : (x : Bool) → is_opening set call text other ≡ x → find (is_opening set call text) rows ≡ None →
          not (are_along (components row.path) (components other.path)) ≡ true →
          cond x (Some other) (find (is_opening set call text) rows) ≡ None
      by false is rest far = rest
      by true is rest far =
          let here = (and_parts (opens_call call text other) (holds_named set (promises_of other.promise)) is).0 in
          absurd (false≢true (ap not (sym (along_one (components row.path) (components other.path) (canonical text) (begins_opened row e)
          (begins_opened other here))) ∙ far))

  -- the row is found first, and its promise afterwards
  found_held : (rows : List Opening) → are_apart rows ≡ true → find (is_opening set call text) rows ≡ if_held set (find (opens_call call text) rows)
  found_held [] far = refl
  found_held (row ∷ rows) far =
      let both = and_parts (list_all (apart row) rows) (are_apart rows) far in
      by (opens_call call text row) (holds_named set (promises_of row.promise)) refl refl (found_held rows both.1) (no_other row rows both.0)
    where
      by : (x y : Bool) → opens_call call text row ≡ x → holds_named set (promises_of row.promise) ≡ y →
          find (is_opening set call text) rows ≡ if_held set (find (opens_call call text) rows) →
          (opens_call call text row ≡ true → find (is_opening set call text) rows ≡ None) →
          cond (x && y) (Some row) (find (is_opening set call text) rows) ≡ if_held set (cond x (Some row) (find (opens_call call text) rows))
      by false y is it rest none = rest
      by true true is it rest none = sym (ap (λ y. cond y (Some row) None) it)
      by true false is it rest none = none is ∙ sym (ap (λ y. cond y (Some row) None) it)

abbrev given : ProcessState → ℕ
given p = unwrap_or p.promises no_promises

abbrev row : Call → List ℕ → Option Opening
row call text = find (opens_call call text) openings

abbrev gate : CallTable → Bool → Bool
gate table ended = (about_rules table.whose).has_openings && not ended

opening_is : (table : CallTable) (p : ProcessState) (call : Call) (text : List ℕ) →
    opening_of table p call text ≡ cond (gate table p.ended) (if_held (given p) (row call text)) None
opening_is table p call text = ap (λ o. cond (gate table p.ended) o None) (found_held (given p) call text openings all_apart)

named_more : (a b : ℕ) → holds b a ≡ true → (wanted : Result ℕ Errno) → holds_named a wanted ≡ true → holds_named b wanted ≡ true
named_more a b more (Ok set) e = holds_through b a set more e
named_more a b more (Err errno) e = e

held_more : (a b : ℕ) → holds b a ≡ true → (found : Option Opening) (o : Opening) → if_held a found ≡ Some o → if_held b found ≡ Some o
held_more a b more None o e = e
held_more a b more (Some row) o e = by (holds_named a (promises_of row.promise)) refl e
  where
    by : (x : Bool) → holds_named a (promises_of row.promise) ≡ x → cond x (Some row) None ≡ Some o →
        cond (holds_named b (promises_of row.promise)) (Some row) None ≡ Some o
    by true is e = ap (λ x. cond x (Some row) None) (named_more a b more (promises_of row.promise) is) ∙ e
    by false is e = cc

-- what is opened for a process is opened for one that it lies within, by the same row
pub opened_more : (h k : ProcessState) → StateWithin h k → (table : CallTable) (call : Call) (text : List ℕ) (o : Opening) →
    opening_of table h call text ≡ Some o → opening_of table k call text ≡ Some o
opened_more h k w table call text o e =
    opening_is table k call text ∙ ap (λ x. cond (gate table x) (if_held (given k) (row call text)) None) (sym w.ended)
    ∙ passed (gate table h.ended) (sym (opening_is table h call text) ∙ e)
  where
    passed : (x : Bool) → cond x (if_held (given h) (row call text)) None ≡ Some o → cond x (if_held (given k) (row call text)) None ≡ Some o
    passed true e = held_more (given h) (given k) (default_within no_promises w.promises) (row call text) o e
    passed false e = cc

-- three processes of which the first and the last have the row's promise alike
module _ {kept : ℕ} (l m s : ProcessState) (w : StateThree kept l m s) (later : StateWithin m s) where
  outer_named : (wanted : Result ℕ Errno) → holds kept (named_in wanted) ≡ true → holds_named (given l) wanted ≡ holds_named (given s) wanted
  outer_named (Ok set) lies = alike_in kept set (given l) (given s) lies (default_alike no_promises w.promises)
  outer_named (Err errno) lies = refl

  inner_named : (wanted : Result ℕ Errno) → holds kept (named_in wanted) ≡ true → holds_named (given m) wanted ≡ holds_named (given s) wanted
  inner_named (Ok set) lies = same_truth _ _ (λ e. holds_through (given s) (given m) set (default_within no_promises later.promises) e)
      (λ e. has_both (given l) (given m) (given s) set (default_three no_promises w.promises) e (outer_named (Ok set) lies ∙ e))
  inner_named (Err errno) lies = refl

  abbrev HeldAlike : ProcessState → Type 0
  HeldAlike p = (found : Option Opening) → holds kept (promise_in found) ≡ true → if_held (given p) found ≡ if_held (given s) found

  outer_held : HeldAlike l
  outer_held None lies = refl
  outer_held (Some o) lies = ap (λ x. cond x (Some o) None) (outer_named (promises_of o.promise) lies)

  inner_held : HeldAlike m
  inner_held None lies = refl
  inner_held (Some o) lies = ap (λ x. cond x (Some o) None) (inner_named (promises_of o.promise) lies)

  module _ (table : CallTable) (call : Call) (text : List ℕ) (lies : holds kept (opener_of table (OnPath call text)) ≡ true) where
    alike : (p : ProcessState) → p.ended ≡ s.ended → HeldAlike p → opening_of table p call text ≡ opening_of table s call text
    alike p ended same = opening_is table p call text ∙ by (about_rules table.whose).has_openings lies ∙ sym (opening_is table s call text)
      where
        by : (x : Bool) → holds kept (promise_in (cond x (row call text) None)) ≡ true →
            cond (x && not p.ended) (if_held (given p) (row call text)) None
            ≡ cond (x && not s.ended) (if_held (given s) (row call text)) None
        by false lies = refl
        by true lies = λ i. cond (not (ended i)) (same (row call text) lies i) None

    pub opened_alike : (opening_of table l call text ≡ opening_of table s call text) × (opening_of table m call text ≡ opening_of table s call text)
    opened_alike = (alike l (w.ended ∙ later.ended) outer_held, alike m later.ended inner_held)
