-- The words of calls.
use Rattle.std.proofs.Common.{◌≡◌, ℕ, Bool, true, false, cond, List, [], ◌∷◌, refl, sym, ap, subst, ◌∙◌, Option, Some, None}
use Rattle.std.proofs.lemmas.Bool.{and_parts, false≢true}
use Rattle.std.specs.List.{find, list_all}
use Rattle.std.specs.Option.{option_or}
use Rattle.std.specs.Prelude.{codes, not, ◌||◌}
use Rattle.pua_tree.specs.Names.{same_bytes}
use Rattle.pua_tree.proofs.ForCallers.{same_word, same_Some, None≢Some, only_if_read, first_passes, mapped}
use Rattle.pua_calls.specs.Calls.{calls, call_name, call_of_name, call_named_by, is_known, neighbours, table_by_rules}
use Rattle.pua_calls.specs.Neighbours.{call_asked_by, neighbour_by}
use Rattle.pua_calls.specs.declared.rules.Rules.{Rules}
use Rattle.pua_calls.specs.declared.rules.Rules.TheVariants.{Standard, Openbsd}
use Rattle.pua_calls.specs.declared.call.Call.{Call}
use Rattle.pua_script.specs.Requests.{is_symlink}
use Rattle.pua_script.specs.Scripts.{form_of}
use Rattle.pua_advice.specs.declared.arguments.Arguments.TheVariants.{TargetAndPath}
use Rattle.pua_advice.specs.Advice.{arguments_of}

-- what is so of each of these words, and of each other word, is so of each
pub by_word : (P : List ℕ → Type 0) → P (codes "exit") → P (codes "fork") → P (codes "rename") → P (codes "link") → P (codes "pledge")
    → P (codes "unveil") → P (codes "symlink")
    → ((word : List ℕ) → same_bytes word (codes "exit") ≡ false → same_bytes word (codes "fork") ≡ false
    → same_bytes word (codes "rename") ≡ false → same_bytes word (codes "link") ≡ false → same_bytes word (codes "pledge") ≡ false
    → same_bytes word (codes "unveil") ≡ false → same_bytes word (codes "symlink") ≡ false → P word)
    → (word : List ℕ) → P word
by_word P exit fork rename link pledge unveil symlink other word =
    named (codes "exit") exit (λ e. named (codes "fork") fork (λ f. named (codes "rename") rename (λ r. named (codes "link") link
    (λ l. named (codes "pledge") pledge (λ p. named (codes "unveil") unveil (λ u. named (codes "symlink") symlink
    (λ s. other word e f r l p u s)))))))
  where
    named : (one : List ℕ) → P one → (same_bytes word one ≡ false → P word) → P word
    named one here elsewhere = by (same_bytes word one) refl
      where
        by : (b : Bool) → same_bytes word one ≡ b → P word
        by true e = subst P (sym (same_word word one e)) here
        by false e = elsewhere e

-- what is so of each of a list is so of what is found in it
found_has : {A : Type 0} (good test : A → Bool) (xs : List A) (x : A) → list_all good xs ≡ true → find test xs ≡ Some x → good x ≡ true
found_has good test [] x all e = absurd (None≢Some x e)
found_has good test (y ∷ ys) x all e = by (test y) e (found_has good test ys x (and_parts (good y) (list_all good ys) all).1)
  where
    by : (b : Bool) → cond b (Some y) (find test ys) ≡ Some x → (find test ys ≡ Some x → good x ≡ true) → good x ≡ true
    by true is later = subst (λ v. good v ≡ true) (same_Some y x is) (and_parts (good y) (list_all good ys) all).0
    by false is later = later is

-- the call that is symlink has this name, and no neighbour is read as it
named_symlink : (word : List ℕ) (call : Call) → call_of_name word ≡ Some call → is_symlink call ≡ true → word ≡ codes "symlink"
named_symlink word call e is =
    sym (same_word (call_name call) word (first_passes (λ c. same_bytes (call_name c) word) calls call e))
    ∙ same_word (call_name call) (codes "symlink") (ap (λ b. not b || same_bytes (call_name call) (codes "symlink")) (sym is) ∙
    found_has (λ c. not (is_symlink c) || same_bytes (call_name c) (codes "symlink")) (λ c. same_bytes (call_name c) word) calls call refl e)

no_neighbour : (rules : Rules) (word : List ℕ) (call : Call) → neighbour_by rules word ≡ Some call → not (is_symlink call) ≡ true
no_neighbour Standard word call e = absurd (None≢Some call e)
no_neighbour Openbsd word call e =
    let row = mapped (λ (r : List ℕ × Call). r.1) (find (λ r. same_bytes r.0 word) neighbours) call e in
    subst (λ c. not (is_symlink c) ≡ true) row.2
    (found_has (λ r. not (is_symlink r.1)) (λ r. same_bytes r.0 word) neighbours row.0 refl row.1)

-- so a word by which symlink is asked for is its name
pub asked_symlink : (rules : Rules) (word : List ℕ) (call : Call) → call_asked_by rules word ≡ Some call → is_symlink call ≡ true →
    word ≡ codes "symlink"
asked_symlink rules word call asked is = by (call_named_by rules word) refl asked
  where
    by : (o : Option Call) → call_named_by rules word ≡ o → option_or o (neighbour_by rules word) ≡ Some call → word ≡ codes "symlink"
    by None e found = absurd (false≢true (ap not (sym is) ∙ no_neighbour rules word call found))
    by (Some other) e found =
        named_symlink word call
        ((only_if_read (is_known (table_by_rules rules)) (call_of_name word) other e).0 ∙ found) is

-- what stands behind symlink
pub symlink_taken : (rules : Rules) → arguments_of rules (codes "symlink") ≡ Some TargetAndPath
symlink_taken Standard = refl
symlink_taken Openbsd = refl

-- words that ask for nothing with one argument
pub symlink_formless : (rules : Rules) (a : List ℕ) → form_of rules (codes "symlink") (a ∷ []) ≡ None
symlink_formless Standard a = refl
symlink_formless Openbsd a = refl

pub exit_formless : (rules : Rules) (a : List ℕ) → form_of rules (codes "exit") (a ∷ []) ≡ None
exit_formless Standard a = refl
exit_formless Openbsd a = refl

pub rename_formless : (rules : Rules) (a : List ℕ) → form_of rules (codes "rename") (a ∷ []) ≡ None
rename_formless Standard a = refl
rename_formless Openbsd a = refl

pub link_formless : (rules : Rules) (a : List ℕ) → form_of rules (codes "link") (a ∷ []) ≡ None
link_formless Standard a = refl
link_formless Openbsd a = refl

pub pledge_formless : (rules : Rules) (a : List ℕ) → form_of rules (codes "pledge") (a ∷ []) ≡ None
pledge_formless Standard a = refl
pledge_formless Openbsd a = refl

pub unveil_formless : (rules : Rules) (a : List ℕ) → form_of rules (codes "unveil") (a ∷ []) ≡ None
unveil_formless Standard a = refl
unveil_formless Openbsd a = refl
