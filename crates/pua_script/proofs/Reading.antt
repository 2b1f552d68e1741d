-- The parts of a line as its reader finds them.
use Rattle.pua_script.proofs.Common.{◌≡◌, ℕ, ◌≤◌, not, ◌&&◌, ◌||◌, eqb, cond, List, [], ◌∷◌, map, length, take, refl, ap, ◌∙◌, arith}
use Rattle.pua_script.proofs.Common.{Bool, Option, true, false, option_map, sym}
use Rattle.pua_script.proofs.Common.{IsTrue, list_all, and_parts, not-true, has_byte, request_of_fields}
use Rattle.pua_script.proofs.Common.{Asked, Result, ◌>>=◌}
use Rattle.std.proofs.Common.{leb, Some, None, Ok, Err}
use Rattle.std.specs.Borrow.{Bor}
use Rattle.std.specs.Option.{option_or}
use Rattle.std.specs.Prelude.{codes, ok_or, ⊤}
use Rattle.std.proofs.lemmas.Bool.{leb-true, ne_eqb}
use Rattle.pua_tree.specs.Spelling.{is_plain, escaped_byte, with_front, unspelled_from, bytes_spelled, fields, is_field, number_within}
use Rattle.pua_tree.specs.Listing.{only_if}
use Rattle.pua_tree.specs.Names.{same_bytes}
use Rattle.pua_tree.specs.Fields.{first_fields}
use Rattle.pua_tree.proofs.ForCallers.{guarded, ok_or_read, only_if_read}
use Rattle.pua_script.specs.Requests.{has_no_nul}
use Rattle.pua_script.specs.declared.fault.ScriptFault.{ScriptFault}
use Rattle.pua_script.specs.declared.fault.ScriptFault.TheVariants.{BadLine, BadCall, BadPath}
use Rattle.pua_script.specs.Added.{IsActionAdded, IsRequestAdded}
use Rattle.pua_script.specs.Requests.{is_symlink}
use Rattle.pua_script.specs.Scripts.{Form, ForkForm, PathForm, UsesForm, action_by, action_in, asks_promises, file_form, if_openbsd, number_in}
use Rattle.pua_script.specs.Scripts.{ChrootForm, CloseForm, FchdirForm, descriptor_in, files_form, hold_form, is_equals, open_named, path_in, request_of_text, take_form}
use Rattle.pua_calls.specs.Neighbours.{call_asked_by}
use Rattle.pua_calls.specs.declared.call.Call.{Call}
use Rattle.pua_calls.specs.declared.rules.Rules.{Rules}
use Rattle.pua_calls.specs.declared.rules.Rules.TheVariants.{Standard}

-- a field of plain bytes is the text that it spells, and none of them is NUL
pub plain_path : (field : List ℕ) → IsTrue (list_all is_plain field) → only_if has_no_nul (bytes_spelled field) ≡ Some field
plain_path [] h = refl
plain_path (b ∷ more) h =
    let parts = and_parts (is_plain b) (list_all is_plain more) h in
    let visible = and_parts (leb 33 b) (leb b 126 && not (eqb b 92)) parts.0 in
    let above = leb-true 33 b visible.0 in
    let behind = only_if_read has_no_nul (bytes_spelled more) more (plain_path more parts.1) in
    ap (λ t. only_if has_no_nul
    (with_front (cond t (escaped_byte more) (cond (is_plain b) (Some b) None)) (unspelled_from (cond t 3 0) more)))
    (not-true (eqb b 92) (and_parts (leb b 126) _ visible.1).1)
    ∙ ap (λ t. only_if has_no_nul (with_front (cond t (Some b) None) (bytes_spelled more))) parts.0
    ∙ ap (λ text. only_if has_no_nul (with_front (Some b) text)) behind.0
    ∙ ap (λ t. cond (not (t || has_byte 0 more)) (Some (b ∷ more)) None) (ne_eqb b 0 (omega (arith, above)))
    ∙ ap (λ t. cond t (Some (b ∷ more)) None) behind.1

-- what a path or a target spells has no NUL
pub path_plain : (field path : List ℕ) (n : ℕ) → ok_or (path_in field) (BadPath n) ≡ Ok path → has_no_nul path ≡ true
path_plain field path n = by (is_equals field)
  where
    by : (b : Bool) → ok_or (cond b (Some []) (only_if has_no_nul (bytes_spelled field))) (BadPath n) ≡ Ok path → has_no_nul path ≡ true
    by true e = let same : [] ≡ path = cc in ap has_no_nul (sym same)
    by false e = (only_if_read has_no_nul (bytes_spelled field) path (ok_or_read (only_if has_no_nul (bytes_spelled field)) (BadPath n) path e)).1

-- by the standard rules no call has more than two arguments
pub no_files : (n : ℕ) (fs : List (Bor (List ℕ))) → 4 ≤ length fs → action_in Standard n (map (λ f. f.now) fs) ≡ Err (BadCall n)
no_files n [] long = absurd (omega arith)
no_files n (a ∷ []) long = absurd (omega arith)
no_files n (a ∷ b ∷ []) long = absurd (omega arith)
no_files n (a ∷ b ∷ c ∷ []) long = absurd (omega arith)
no_files n (a ∷ b ∷ c ∷ d ∷ []) long = refl
no_files n (a ∷ b ∷ c ∷ d ∷ e ∷ more) long = refl

-- lines about descriptors with three arguments
pub files_hold : (word a b c : List ℕ) → same_bytes word (codes "hold") ≡ true → files_form word a b c ≡ hold_form (descriptor_in a) (open_named b) c
files_hold word a b c e = ap (λ s. cond s (hold_form (descriptor_in a) (open_named b) c)
    (cond (same_bytes word (codes "take")) (take_form (descriptor_in a) (number_in b) (descriptor_in c)) None)) e

pub files_take : (word a b c : List ℕ) → same_bytes word (codes "hold") ≡ false → same_bytes word (codes "take") ≡ true →
    files_form word a b c ≡ take_form (descriptor_in a) (number_in b) (descriptor_in c)
files_take word a b c other e = ap (λ s. cond s (hold_form (descriptor_in a) (open_named b) c)
    (cond (same_bytes word (codes "take")) (take_form (descriptor_in a) (number_in b) (descriptor_in c)) None)) other
    ∙ ap (λ s. cond s (take_form (descriptor_in a) (number_in b) (descriptor_in c)) None) e

-- a line that asks for another root
pub file_chroot : (word a : List ℕ) → same_bytes word (codes "close") ≡ false → same_bytes word (codes "fchdir") ≡ false →
    same_bytes word (codes "chroot") ≡ true → file_form word a ≡ Some (ChrootForm a)
file_chroot word a close fchdir named =
    let rest = cond (same_bytes word (codes "chroot")) (Some (ChrootForm a)) None in
    ap (λ s. cond s (option_map CloseForm (descriptor_in a)) (cond (same_bytes word (codes "fchdir"))
    (option_map FchdirForm (descriptor_in a)) rest)) close
    ∙ ap (λ s. cond s (option_map FchdirForm (descriptor_in a)) rest) fchdir ∙ ap (λ s. cond s (Some (ChrootForm a)) None) named

module _ (rules : Rules) where
  -- no call has more than three arguments
  pub many_arguments : (n : ℕ) (fs : List (Bor (List ℕ))) → 5 ≤ length fs → action_in rules n (map (λ f. f.now) fs) ≡ Err (BadCall n)
  many_arguments n [] long = absurd (omega arith)
  many_arguments n (a ∷ []) long = absurd (omega arith)
  many_arguments n (a ∷ b ∷ []) long = absurd (omega arith)
  many_arguments n (a ∷ b ∷ c ∷ []) long = absurd (omega arith)
  many_arguments n (a ∷ b ∷ c ∷ d ∷ []) long = absurd (omega arith)
  many_arguments n (a ∷ b ∷ c ∷ d ∷ e ∷ more) long = refl

  -- a line with one argument that is no fork, asks for no promises and is no call on a path is about a descriptor
  pub about_file : (n : ℕ) (word a : List ℕ) → same_bytes word (codes "fork") ≡ false → asks_promises rules word ≡ false →
      only_if (λ call. not (is_symlink call)) (call_asked_by rules word) ≡ None →
      action_in rules n (word ∷ a ∷ []) ≡ action_by n (if_openbsd rules (file_form word a))
  about_file n word a fork uses called =
      let files = if_openbsd rules (file_form word a) in
      let calls : Option Call → Option Form = λ o. option_or (option_map (λ call. PathForm call a) o) files in
      let none = only_if (λ call. not (is_symlink call)) (call_asked_by rules word) in
      ap (λ s. action_by n (cond s (option_map ForkForm (number_in a)) (cond (asks_promises rules word) (Some (UsesForm a)) (calls none)))) fork
      ∙ ap (λ s. action_by n (cond s (Some (UsesForm a)) (calls none))) uses
      ∙ ap (λ o. action_by n (calls o)) called

  -- the first six fields decide
  six_decide : (n : ℕ) (fs : List (List ℕ)) → request_of_fields rules n fs ≡ request_of_fields rules n (take 6 fs)
  six_decide n [] = refl
  six_decide n (p ∷ []) = refl
  six_decide n (p ∷ w ∷ []) = refl
  six_decide n (p ∷ w ∷ a ∷ []) = refl
  six_decide n (p ∷ w ∷ a ∷ b ∷ []) = refl
  six_decide n (p ∷ w ∷ a ∷ b ∷ c ∷ []) = refl
  six_decide n (p ∷ w ∷ a ∷ b ∷ c ∷ d ∷ more) = refl

  pub by_fields : (n : ℕ) (line : List ℕ) (fs : List (List ℕ)) → first_fields line ≡ Some fs → request_of_text rules n line ≡ request_of_fields rules n fs
  by_fields n line fs e =
      let read = guarded (list_all is_field (fields line)) (take 6 (fields line)) fs e in
      ap (λ s. cond s (request_of_fields rules n (fields line)) (Err (BadLine n))) read.0 ∙ six_decide n (fields line) ∙
      ap (request_of_fields rules n) read.1

  -- a process's number and the action behind it are a request
  pub line_added : (n number : ℕ) (process : List ℕ) (more : List (List ℕ)) (before after : List Asked) (read : Result ⊤ ScriptFault) →
      number_within 1 999999 process ≡ Some number → IsActionAdded (action_in rules n more) number before after read →
      IsRequestAdded (request_of_fields rules n (process ∷ more)) before after read
  line_added n number process more before after read e = by read
    where
      numbered : request_of_fields rules n (process ∷ more) ≡ (action_in rules n more >>= λ action. Ok (record { process = number; action = action }))
      numbered = ap (λ o. ok_or o (BadLine n) >>= λ m. action_in rules n more >>= λ action. Ok (record { process = m; action = action })) e

      by : (r : Result ⊤ ScriptFault) → IsActionAdded (action_in rules n more) number before after r →
          IsRequestAdded (request_of_fields rules n (process ∷ more)) before after r
      by (Ok _) added = (
        record { process = number; action = added.0 },
        numbered ∙ ap (λ r. r >>= λ action. Ok (record { process = number; action = action })) added.1,
        added.2,
      )
      by (Err fault) fails = λ other. numbered ∙ ap (λ r. r >>= λ action. Ok (record { process = number; action = action })) (fails other)
