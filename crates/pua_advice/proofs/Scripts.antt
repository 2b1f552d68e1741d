-- What is said of scripts that are refused, and of words that are no call's.
use Rattle.std.proofs.Common.{◌≡◌, ℕ, zero, suc, ◌+◌, ◌-◌, ◌⊎◌, inl, inr, Bool, true, false, cond, List, [], ◌∷◌, refl, sym, ap, subst, ◌∙◌}
use Rattle.std.proofs.Common.{Option, Some, None, Result, Ok, Err, length, take, arith}
use Rattle.std.specs.Prelude.{codes, nat_lt, not, option_and_then, option_map, slice_get}
use Rattle.std.specs.Option.{option_or}
use Rattle.std.specs.Str.Lines.{lines}
use Rattle.pua_tree.specs.Names.{same_bytes}
use Rattle.pua_tree.specs.Steps.{◌>>=◌}
use Rattle.pua_tree.specs.Listing.{only_if}
use Rattle.pua_tree.proofs.ForCallers.{None≢Some, Some≢None, Err≢Ok}
use Rattle.pua_calls.specs.Neighbours.{call_asked_by}
use Rattle.pua_calls.specs.declared.rules.Rules.{Rules}
use Rattle.pua_calls.specs.declared.rules.Rules.TheVariants.{Standard, Openbsd}
use Rattle.pua_calls.specs.declared.call.Call.{Call}
use Rattle.pua_script.specs.Limits.{most_script_lines}
use Rattle.pua_script.specs.Requests.{Asked, is_symlink}
use Rattle.pua_script.specs.Scripts.{PathForm, asks_promises, file_form, files_form, form_of, if_openbsd, request_by, requests_of}
use Rattle.pua_script.specs.declared.fault.ScriptFault.{ScriptFault}
use Rattle.pua_script.specs.declared.fault.ScriptFault.TheVariants.{TooMany}
use Rattle.pua_advice.specs.declared.arguments.Arguments.TheVariants.{Nothing, Number, TargetAndPath, TwoPaths, Promises, PathAndLetters, AnyPromises}
use Rattle.pua_advice.specs.declared.arguments.Arguments.{Arguments}
use Rattle.pua_advice.specs.declared.arguments.Arguments.TheVariants.{Path, Descriptor, ToHold, ToTake}
use Rattle.pua_advice.specs.Advice.{Advised, advice_of, arguments_of, call_takes, files_taken, line_at, script_advice}
use Rattle.pua_advice.specs.Laws.{RefusedAreAdvised, ScriptsAreAdvised, UnknownAreNone}
use Rattle.pua_advice.proofs.Words.{by_word, symlink_taken}
use Rattle.pua_advice.proofs.Agreeing.{Agrees, lines_agree, unknown_fits, said_of, skip, promised, taken, uses_formless}

pub refused_are_advised : RefusedAreAdvised
refused_are_advised rules n line = (
  read (advice_of rules line) (request_by rules n line) (lines_agree rules n line),
  λ asks. told (advice_of rules line) (request_by rules n line) asks.0 asks.1 (lines_agree rules n line),
)
  where
    read : (o : Option Advised) (r : Result Asked ScriptFault) → Agrees rules n o r → o ≡ None → (ask : Asked) × (r ≡ Ok ask)
    read None (Ok ask) agrees e = (ask, refl)
    read None (Err fault) agrees e = absurd agrees
    read (Some advice) r agrees e = absurd (Some≢None advice e)

    told : (o : Option Advised) (r : Result Asked ScriptFault) (ask : Asked) → r ≡ Ok ask → Agrees rules n o r → o ≡ None
    told None r ask e agrees = refl
    told (Some advice) (Ok other) ask e agrees = absurd agrees
    told (Some advice) (Err fault) ask e agrees = absurd (Err≢Ok fault ask e)

-- no call takes what is none's, and no line about descriptors or the root
unasked : (o : Option Call) (other : Option Arguments) → option_or (option_map call_takes o) other ≡ None → (o ≡ None) × (other ≡ None)
unasked None other e = (refl, e)
unasked (Some call) other e = absurd (Some≢None (call_takes call) e)

unsaid : {A : Type 0} (x y p z w : Option A) (c f r h t : Bool) → said_of c f r h t ≡ None →
    (cond c x (cond f y (cond r p None)) ≡ None) × (cond h z (cond t w None) ≡ None)
unsaid x y p z w true f r h t e = absurd (Some≢None Descriptor e)
unsaid x y p z w false true r h t e = absurd (Some≢None Descriptor e)
unsaid x y p z w false false true h t e = absurd (Some≢None Path e)
unsaid x y p z w false false false true t e = absurd (Some≢None ToHold e)
unsaid x y p z w false false false false true e = absurd (Some≢None ToTake e)
unsaid x y p z w false false false false false e = (refl, refl)

unfiled : (rules : Rules) (word : List ℕ) → files_taken rules word ≡ None → (a b c : List ℕ) →
    (if_openbsd rules (file_form word a) ≡ None) × (if_openbsd rules (files_form word a b c) ≡ None)
unfiled Standard word e a b c = (refl, refl)
unfiled Openbsd word e a b c = unsaid _ _ _ _ _ (same_bytes word (codes "close")) (same_bytes word (codes "fchdir"))
    (same_bytes word (codes "chroot")) (same_bytes word (codes "hold")) (same_bytes word (codes "take")) e

formless : (rules : Rules) (word : List ℕ) → arguments_of rules word ≡ None → (arguments : List (List ℕ)) → form_of rules word arguments ≡ None
formless rules =
    by_word (λ word. arguments_of rules word ≡ None → (arguments : List (List ℕ)) → form_of rules word arguments ≡ None)
    (λ e arguments. absurd (Some≢None Nothing e)) (λ e arguments. absurd (Some≢None Number e)) (λ e arguments. absurd (Some≢None TwoPaths e))
    (λ e arguments. absurd (Some≢None TwoPaths e)) (λ e arguments. absurd (Some≢None Promises e))
    (λ e arguments. absurd (Some≢None PathAndLetters e))
    (λ e arguments. absurd (Some≢None TargetAndPath (sym (symlink_taken rules) ∙ e)))
    other
  where
    other : (word : List ℕ) → same_bytes word (codes "exit") ≡ false → same_bytes word (codes "fork") ≡ false
        → same_bytes word (codes "rename") ≡ false → same_bytes word (codes "link") ≡ false → same_bytes word (codes "pledge") ≡ false
        → same_bytes word (codes "unveil") ≡ false → same_bytes word (codes "symlink") ≡ false → arguments_of rules word ≡ None
        → (arguments : List (List ℕ)) → form_of rules word arguments ≡ None
    other word e f r l p u s none [] = skip _ _ _ e
    other word e f r l p u s none (a ∷ []) = by (asks_promises rules word) refl
      where
        by : (b : Bool) → asks_promises rules word ≡ b → form_of rules word (a ∷ []) ≡ None
        by true t = absurd (Some≢None AnyPromises (sym (promised rules 0 word e f r l p u s t) ∙ none))
        by false t =
            let un = unasked (call_asked_by rules word) (files_taken rules word) (sym (taken rules 0 word e f r l p u s t) ∙ none) in
            skip _ _ _ f ∙ skip _ _ _ t
            ∙ ap (λ o. option_or (option_map (λ c. PathForm c a) (only_if (λ c. not (is_symlink c)) o)) (if_openbsd rules (file_form word a))) un.0
            ∙ (unfiled rules word un.1 a [] []).0
    other word e f r l p u s none (a ∷ b ∷ []) = skip _ _ _ s ∙ skip _ _ _ r ∙ skip _ _ _ l ∙ skip _ _ _ p ∙ skip _ _ _ u
    other word e f r l p u s none (a ∷ b ∷ c ∷ []) = by (asks_promises rules word) refl
      where
        by : (t : Bool) → asks_promises rules word ≡ t → form_of rules word (a ∷ b ∷ c ∷ []) ≡ None
        by true t = uses_formless rules word t a b c
        by false t = (unfiled rules word (unasked (call_asked_by rules word) (files_taken rules word)
            (sym (taken rules 0 word e f r l p u s t) ∙ none)).1 a b c).1
    other word e f r l p u s none (a ∷ b ∷ c ∷ d ∷ more) = refl

pub unknown_are_none : UnknownAreNone
unknown_are_none rules line word e arguments = formless rules word (unknown_fits rules 0 line word e) arguments

-- the line of a fault
same_Err : {A : Type 0} (f g : ScriptFault) → ◌≡◌ {A = Result A ScriptFault} (Err f) (Err g) → f ≡ g
same_Err f g e = ap (λ r. fault_or r f) e
  where
    fault_or : {A : Type 0} → Result A ScriptFault → ScriptFault → ScriptFault
    fault_or (Ok x) other = other
    fault_or (Err fault) other = fault

blamed : (rules : Rules) (n : ℕ) (texts : List (List ℕ)) (fault : ScriptFault) → requests_of rules n texts ≡ Err fault
    → (k : ℕ) × (line : List ℕ) × (slice_get texts k ≡ Some line) × (request_by rules (n + k) line ≡ Err fault)
blamed rules n [] fault e = absurd (Err≢Ok fault [] (sym e))
blamed rules n (text ∷ texts) fault e = by (request_by rules n text) refl e (blamed rules (suc n) texts fault)
  where
    later : (r : Result (List Asked) ScriptFault) (ask : Asked) → (r >>= λ asks. Ok (ask ∷ asks)) ≡ Err fault → r ≡ Err fault
    later (Ok asks) ask is = absurd (Err≢Ok fault (ask ∷ asks) (sym is))
    later (Err other) ask is = ap Err (same_Err other fault is)

    by : (r : Result Asked ScriptFault) → request_by rules n text ≡ r
        → (r >>= λ ask. requests_of rules (suc n) texts >>= λ asks. Ok (ask ∷ asks)) ≡ Err fault
        → (requests_of rules (suc n) texts ≡ Err fault
        → (k : ℕ) × (line : List ℕ) × (slice_get texts k ≡ Some line) × (request_by rules (suc n + k) line ≡ Err fault))
        → (k : ℕ) × (line : List ℕ) × (slice_get (text ∷ texts) k ≡ Some line) × (request_by rules (n + k) line ≡ Err fault)
    by (Ok ask) read is behind_it =
        let behind = behind_it (later (requests_of rules (suc n) texts) ask is) in
        let k = behind.0 in
        let same : suc n + k ≡ n + suc k = omega arith in
        (suc k, behind.1, behind.2, subst (λ m. request_by rules m behind.1 ≡ Err fault) same behind.3)
    by (Err other) read is behind_it =
        let same : n ≡ n + 0 = omega arith in
        (0, text, refl, subst (λ m. request_by rules m text ≡ Err fault) same (read ∙ ap Err (same_Err other fault is)))

front : {A : Type 0} (m : ℕ) (xs : List A) (k : ℕ) (x : A) → slice_get (take m xs) k ≡ Some x → slice_get xs k ≡ Some x
front zero xs k x e = absurd (None≢Some x e)
front (suc m) [] k x e = absurd (None≢Some x e)
front (suc m) (y ∷ ys) zero x e = e
front (suc m) (y ∷ ys) (suc k) x e = front m ys k x e

pub scripts_are_advised : ScriptsAreAdvised
scripts_are_advised rules script fault e = by (requests_of rules 1 (take most_script_lines (lines script))) refl e
  where
    said : (k : ℕ) (line : List ℕ) → slice_get (lines script) k ≡ Some line → request_by rules (1 + k) line ≡ Err fault →
        (advice : Advised) × (script_advice rules script fault ≡ Some advice)
    said k line there refused =
        on (advice_of rules line) refl (subst (λ r. Agrees rules (1 + k) (advice_of rules line) r) refused (lines_agree rules (1 + k) line))
      where
        same : 1 + k - 1 ≡ k
        same = omega arith

        on : (o : Option Advised) → advice_of rules line ≡ o → Agrees rules (1 + k) {A = Asked} o (Err fault) →
            (advice : Advised) × (script_advice rules script fault ≡ Some advice)
        on None is agrees = absurd agrees
        on (Some advice) is agrees = (
          advice,
          ap (λ o. option_and_then (advice_of rules) (option_and_then (line_at script) o)) agrees.0
              ∙ ap (λ m. option_and_then (advice_of rules) (slice_get (lines script) m)) same
              ∙ ap (option_and_then (advice_of rules)) there ∙ is,
        )

    too_many : (b : Bool) (asks : List Asked) → cond b (Err TooMany) (Ok asks) ≡ Err fault →
        (fault ≡ TooMany) ⊎ ((advice : Advised) × (script_advice rules script fault ≡ Some advice))
    too_many true asks is = inl (sym (same_Err TooMany fault is))
    too_many false asks is = absurd (Err≢Ok fault asks (sym is))

    by : (r : Result (List Asked) ScriptFault) → requests_of rules 1 (take most_script_lines (lines script)) ≡ r
        → (r >>= λ asks. cond (nat_lt most_script_lines (length (lines script))) (Err TooMany) (Ok asks)) ≡ Err fault
        → (fault ≡ TooMany) ⊎ ((advice : Advised) × (script_advice rules script fault ≡ Some advice))
    by (Ok asks) read is = too_many (nat_lt most_script_lines (length (lines script))) asks is
    by (Err other) read is =
        let line = blamed rules 1 (take most_script_lines (lines script)) fault (read ∙ ap Err (same_Err other fault is)) in
        inr (said line.0 line.1 (front most_script_lines (lines script) line.0 line.1 line.2) line.3)
