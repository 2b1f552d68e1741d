-- A line is refused exactly where something is said of it.
use Rattle.std.proofs.Common.{◌≡◌, ℕ, suc, arith, Bool, true, false, cond, List, [], ◌∷◌, refl, sym, ap, subst, ◌∙◌, Option, Some, None, Result, Ok, Err}
use Rattle.std.proofs.lemmas.Bool.{true≢false, false≢true, and_parts, lt-ltb}
use Rattle.std.specs.List.{find, list_all, slice_split}
use Rattle.std.specs.Option.{option_or}
use Rattle.std.specs.Prelude.{codes, is_some, not, length, ok_or, option_map, option_and_then, ◌==◌, ◌&&◌, ◌||◌, ◌++◌, ⊤}
use Rattle.pua_tree.specs.Names.{has_byte, same_bytes}
use Rattle.pua_tree.specs.Spelling.{bytes_spelled, fields, is_field, number_within}
use Rattle.pua_tree.specs.Steps.{◌>>=◌}
use Rattle.pua_tree.specs.Listing.{only_if}
use Rattle.pua_tree.proofs.ForCallers.{None≢Some, same_word}
use Rattle.pua_path.specs.declared.errno.Errno.{Errno}
use Rattle.pua_calls.specs.Promises.{holds, error, promises_of}
use Rattle.pua_calls.specs.Neighbours.{call_asked_by}
use Rattle.pua_calls.specs.declared.rules.Rules.{Rules}
use Rattle.pua_calls.specs.declared.rules.Rules.TheVariants.{Standard, Openbsd}
use Rattle.pua_calls.specs.declared.call.Call.{Call}
use Rattle.pua_script.specs.Limits.{most_number}
use Rattle.pua_script.specs.Requests.{Asked, is_symlink}
use Rattle.pua_script.specs.FaultTexts.{script_told}
use Rattle.pua_script.specs.Scripts.{PathForm, PledgeForm, ForkForm, UsesForm, CloseForm, FchdirForm, ChrootForm, asks_promises, form_of}
use Rattle.pua_script.specs.Scripts.{further_set, sets_in, sets_of}
use Rattle.pua_script.specs.Scripts.{descriptor_in, file_form, files_form, hold_form, if_openbsd, number_in, open_named, take_form}
use Rattle.pua_script.specs.Scripts.{action_of, action_in, request_of_fields, request_by, path_in, given_in, is_dash, perms_in}
use Rattle.pua_script.specs.Scripts.{is_blank, request_of_text, text_in, unveil_of, with_paths}
use Rattle.pua_script.specs.Requests.{comment}
use Rattle.pua_script.specs.declared.request.Given.{Given}
use Rattle.pua_script.specs.declared.request.Action.{Action}
use Rattle.pua_script.specs.declared.request.Action.TheVariants.{OnPath, Symlink, Rename, Link, Pledge, Unveil, Lock, Uses, Hold, Chroot}
use Rattle.pua_script.specs.declared.fault.ScriptFault.{ScriptFault}
use Rattle.pua_script.specs.declared.fault.ScriptFault.TheVariants.{BadLine, BadCall, BadPath, BadList}
use Rattle.pua_advice.specs.declared.arguments.Arguments.{Arguments}
use Rattle.pua_advice.specs.declared.arguments.Arguments.TheVariants.{Nothing, Number, Path, TargetAndPath, TwoPaths, Promises}
use Rattle.pua_advice.specs.declared.arguments.Arguments.TheVariants.{PathAndLetters, AnyPromises}
use Rattle.pua_advice.specs.declared.arguments.Arguments.TheVariants.{Descriptor, ToHold, ToTake}
use Rattle.pua_advice.specs.Advice.{Advised, EmptyLine, ExtraBlank, HiddenByte, NoNumber, NoCall, UnknownCall, Takes, NoPath, HasNul}
use Rattle.pua_advice.specs.Advice.{UnknownPromise, UnneededPromise, RepeatedPromise, promise_advice, keyword_advice, unless_set, keywords_advice}
use Rattle.pua_advice.specs.Advice.{uses_advice, NoDescriptor, NoOpening, descriptor_advice, opening_advice, files_taken, three_advice}
use Rattle.pua_advice.specs.Advice.{EmptyPromise, is_visible, field_advice, form_advice, call_takes, arguments_of, misuse, number_advice}
use Rattle.pua_advice.specs.Advice.{unspelled_advice, path_advice, list_advice, unveil_advice, alone_advice, one_advice, two_advice}
use Rattle.pua_advice.specs.Advice.{action_advice, fields_advice, text_advice, advice_of}
use Rattle.pua_advice.proofs.Words.{by_word, asked_symlink, symlink_taken, symlink_formless, exit_formless, rename_formless, link_formless}
use Rattle.pua_advice.proofs.Words.{pledge_formless, unveil_formless}

-- the fields of a line are good, or something is said of its first bad one
all_good : (fs : List (List ℕ)) → list_all is_field fs ≡ true → find (λ f. not (is_field f)) fs ≡ None
all_good [] e = refl
all_good (f ∷ fs) e =
    let parts = and_parts (is_field f) (list_all is_field fs) e in
    ap (λ b. cond (not b) (Some f) (find (λ g. not (is_field g)) fs)) parts.0 ∙ all_good fs parts.1

hidden_found : (bytes : List ℕ) → list_all is_visible bytes ≡ false → (b : ℕ) × (find (λ b. not (is_visible b)) bytes ≡ Some b)
hidden_found [] e = absurd (true≢false e)
hidden_found (b ∷ more) e = by (is_visible b) refl (hidden_found more)
  where
    by : (v : Bool) → is_visible b ≡ v
        → (list_all is_visible more ≡ false → (c : ℕ) × (find (λ b. not (is_visible b)) more ≡ Some c))
        → (c : ℕ) × (find (λ b. not (is_visible b)) (b ∷ more) ≡ Some c)
    by true v behind = let later = behind (ap (λ t. t && list_all is_visible more) (sym v) ∙ e) in
        (later.0, ap (λ t. cond (not t) (Some b) (find (λ b. not (is_visible b)) more)) v ∙ later.1)
    by false v behind = (b, ap (λ t. cond (not t) (Some b) (find (λ b. not (is_visible b)) more)) v)

-- what is said of a bad field is no call
abbrev pub IsForm : Advised → Type 0
IsForm ExtraBlank = ⊤
IsForm EmptyLine = ⊤
IsForm (HiddenByte b) = ⊤
IsForm _ = ⊥

bad_field : (f : List ℕ) → is_field f ≡ false → (advice : Advised) × IsForm advice × (field_advice f ≡ Some advice)
bad_field [] e = (ExtraBlank, tt, refl)
bad_field (b ∷ more) e = let hidden = hidden_found (b ∷ more)
    (ap (λ t. t && list_all is_visible (b ∷ more)) (sym (lt-ltb 0 (suc (length more)) (omega arith))) ∙ e) in
    (HiddenByte hidden.0, tt, ap (option_map HiddenByte) hidden.1)

some_bad : (fs : List (List ℕ)) → list_all is_field fs ≡ false →
    (advice : Advised) × IsForm advice × (option_and_then field_advice (find (λ f. not (is_field f)) fs) ≡ Some advice)
some_bad [] e = absurd (true≢false e)
some_bad (f ∷ fs) e = by (is_field f) refl (some_bad fs)
  where
    by : (v : Bool) → is_field f ≡ v
        → (list_all is_field fs ≡ false →
        (advice : Advised) × IsForm advice × (option_and_then field_advice (find (λ f. not (is_field f)) fs) ≡ Some advice))
        → (advice : Advised) × IsForm advice × (option_and_then field_advice (find (λ f. not (is_field f)) (f ∷ fs)) ≡ Some advice)
    by true v behind =
        let later = behind (ap (λ t. t && list_all is_field fs) (sym v) ∙ e) in (
          later.0,
          later.1,
          ap (λ t. option_and_then field_advice (cond (not t) (Some f) (find (λ f. not (is_field f)) fs))) v ∙ later.2,
        )
    by false v behind =
        let bad = bad_field f v in
        (bad.0, bad.1, ap (λ t. option_and_then field_advice (cond (not t) (Some f) (find (λ f. not (is_field f)) fs))) v ∙ bad.2)

pub well_formed : (line : List ℕ) → list_all is_field (fields line) ≡ true → form_advice line ≡ None
well_formed [] e = absurd (false≢true e)
well_formed (b ∷ more) e = ap (option_and_then field_advice) (all_good (fields (b ∷ more)) e)

pub ill_formed : (line : List ℕ) → list_all is_field (fields line) ≡ false → (advice : Advised) × IsForm advice × (form_advice line ≡ Some advice)
ill_formed [] e = (EmptyLine, tt, refl)
ill_formed (b ∷ more) e = some_bad (fields (b ∷ more)) e

pub skip : {A : Type 0} (b : Bool) (x y : A) → b ≡ false → cond b x y ≡ y
skip b x y e = ap (λ t. cond t x y) e

-- words that ask for nothing with three arguments
three_formless : (word : List ℕ) → same_bytes word (codes "hold") ≡ false → same_bytes word (codes "take") ≡ false →
    (rules : Rules) (a b c : List ℕ) → form_of rules word (a ∷ b ∷ c ∷ []) ≡ None
three_formless word h t Standard a b c = refl
three_formless word h t Openbsd a b c = skip _ _ _ h ∙ skip _ _ _ t

pub uses_formless : (rules : Rules) (word : List ℕ) → asks_promises rules word ≡ true → (a b c : List ℕ) →
    form_of rules word (a ∷ b ∷ c ∷ []) ≡ None
uses_formless Standard word t a b c = refl
uses_formless Openbsd word t a b c =
    subst (λ w. form_of Openbsd w (a ∷ b ∷ c ∷ []) ≡ None) (sym (same_word word (codes "uses") t)) refl

asked_formless : (rules : Rules) (word : List ℕ) (call : Call) → call_asked_by rules word ≡ Some call → (a b c : List ℕ) →
    form_of rules word (a ∷ b ∷ c ∷ []) ≡ None
asked_formless Standard word call asked a b c = refl
asked_formless Openbsd word call asked a b c = by (same_bytes word (codes "hold")) (same_bytes word (codes "take")) refl refl
  where
    no_call : (name : List ℕ) → same_bytes word name ≡ true → call_asked_by Openbsd name ≡ None → ⊥
    no_call name is none = None≢Some call (sym none ∙ ap (call_asked_by Openbsd) (sym (same_word word name is)) ∙ asked)

    by : (h t : Bool) → same_bytes word (codes "hold") ≡ h → same_bytes word (codes "take") ≡ t
        → cond h (hold_form (descriptor_in a) (open_named b) c)
        (cond t (take_form (descriptor_in a) (number_in b) (descriptor_in c)) None) ≡ None
    by true t is other = absurd (no_call (codes "hold") is refl)
    by false true is other = absurd (no_call (codes "take") other refl)
    by false false is other = refl

-- what stands behind a word, by what word about descriptors or the root it is: of close, fchdir, chroot, hold and take
abbrev pub said_of : Bool → Bool → Bool → Bool → Bool → Option Arguments
said_of c f r h t =
    cond c (Some Descriptor) (cond f (Some Descriptor) (cond r (Some Path) (cond h (Some ToHold) (cond t (Some ToTake) None))))

module _ (rules : Rules) (n : ℕ) where
  -- a word that is said to be no call's is none's
  abbrev pub Fits : Advised → Type 0
  Fits (UnknownCall word) = arguments_of rules word ≡ None
  Fits _ = ⊤

  -- nothing is said of what is read, and something of what is refused, which is line n
  abbrev pub Agrees : {A : Type 0} → Option Advised → Result A ScriptFault → Type 0
  Agrees None (Ok x) = ⊤
  Agrees None (Err fault) = ⊥
  Agrees (Some advice) (Ok x) = ⊥
  Agrees (Some advice) (Err fault) = ((script_told fault).0 ≡ Some n) × Fits advice

  form_fits : (advice : Advised) → IsForm advice → Fits advice
  form_fits ExtraBlank is = tt
  form_fits EmptyLine is = tt
  form_fits (HiddenByte b) is = tt
  form_fits (UnknownCall word) is = absurd is
  form_fits (NoNumber word) is = tt
  form_fits NoCall is = tt
  form_fits (Takes word what) is = tt
  form_fits (NoPath word) is = tt
  form_fits (HasNul word) is = tt
  form_fits (EmptyPromise word) is = tt
  form_fits (UnknownPromise word) is = tt
  form_fits (UnneededPromise word) is = tt
  form_fits (RepeatedPromise word) is = tt
  form_fits (NoDescriptor word) is = tt
  form_fits (NoOpening word) is = tt

  -- of two steps
  agree_then : {A B : Type 0} (o p : Option Advised) (r : Result A ScriptFault) (next : A → Result B ScriptFault) → Agrees o r →
      ((x : A) → Agrees p (next x)) → Agrees (option_or o p) (r >>= next)
  agree_then None p (Ok x) next first second = second x
  agree_then None p (Err fault) next first second = absurd first
  agree_then (Some advice) p (Ok x) next first second = absurd first
  agree_then (Some advice) p (Err fault) next first second = first

  agree_made : {A B : Type 0} (o : Option Advised) (r : Result A ScriptFault) (make : A → B) → Agrees o r → Agrees o (r >>= λ x. Ok (make x))
  agree_made None (Ok x) make first = tt
  agree_made None (Err fault) make first = absurd first
  agree_made (Some advice) (Ok x) make first = absurd first
  agree_made (Some advice) (Err fault) make first = first

  -- of a field
  number_agrees : (field : List ℕ) → Agrees (number_advice field) (ok_or (number_within 1 most_number field) (BadLine n))
  number_agrees field = by (number_within 1 most_number field)
    where
      by : (o : Option ℕ) → Agrees (cond (is_some o) None (Some (NoNumber field))) (ok_or o (BadLine n))
      by None = (refl, tt)
      by (Some number) = tt

  path_agrees : (field : List ℕ) → Agrees (path_advice field) (ok_or (path_in field) (BadPath n))
  path_agrees field = by (path_in field) (bytes_spelled field)
    where
      by : (o spelled : Option (List ℕ)) → Agrees (cond (is_some o) None (unspelled_advice field spelled)) (ok_or o (BadPath n))
      by None None = (refl, tt)
      by None (Some bytes) = (refl, tt)
      by (Some path) spelled = tt

  list_agrees : (field : List ℕ) → Agrees (list_advice field) (ok_or (given_in field) (BadList n))
  list_agrees field = by (given_in field)
    where
      by : (o : Option Given) → Agrees (cond (is_some o) None (Some (EmptyPromise field))) (ok_or o (BadList n))
      by None = (refl, tt)
      by (Some given) = tt

  -- of the arguments of a call
  paths_agree : (make : List ℕ → List ℕ → Action) (a b : List ℕ) → Agrees (option_or (path_advice a) (path_advice b)) (with_paths n make a b)
  paths_agree make a b =
      agree_then (path_advice a) (path_advice b) (ok_or (path_in a) (BadPath n)) (λ x. ok_or (path_in b) (BadPath n) >>= λ y. Ok (make x y))
      (path_agrees a) (λ x. agree_made (path_advice b) (ok_or (path_in b) (BadPath n)) (λ y. make x y) (path_agrees b))

  lists_agree : (a b : List ℕ) → Agrees (option_or (list_advice a) (list_advice b)) (action_of n (PledgeForm a b))
  lists_agree a b =
      agree_then (list_advice a) (list_advice b) (ok_or (given_in a) (BadList n)) (λ x. ok_or (given_in b) (BadList n) >>= λ y. Ok (Pledge x y))
      (list_agrees a) (λ x. agree_made (list_advice b) (ok_or (given_in b) (BadList n)) (λ y. Pledge x y) (list_agrees b))

  unveil_agrees : (word path letters : List ℕ) → Agrees (unveil_advice word path letters) (unveil_of n path letters)
  unveil_agrees word path letters = by (is_dash path) (is_dash letters)
    where
      behind : (t : Bool) (text : List ℕ) → Agrees (cond t (Some (Takes word PathAndLetters)) None)
          (cond t (Err (BadList n)) (Ok (Unveil text (perms_in letters))))
      behind true text = (refl, tt)
      behind false text = tt

      by : (s t : Bool) → Agrees (cond s (cond t None (Some (Takes word PathAndLetters)))
          (option_or (path_advice path) (cond t (Some (Takes word PathAndLetters)) None)))
          (cond s (cond t (Ok Lock) (Err (BadList n))) (ok_or (path_in path) (BadPath n) >>= λ text. cond t (Err (BadList n))
          (Ok (Unveil text (perms_in letters)))))
      by true true = tt
      by true false = (refl, tt)
      by false t = agree_then (path_advice path) _ (ok_or (path_in path) (BadPath n)) _ (path_agrees path) (behind t)

  -- of promises of which a call needs one
  keyword_fits : (call word : List ℕ) → Fits (keyword_advice call word)
  keyword_fits call word = by (length word == 0 || has_byte 44 word) (promises_of word)
    where
      known : (set : ℕ) (b : Bool) → Fits (cond b (UnneededPromise word) (RepeatedPromise word))
      known set true = tt
      known set false = tt

      by : (b : Bool) (r : Result ℕ Errno) → Fits (cond b (Takes call AnyPromises) (promise_advice word r))
      by true r = tt
      by false (Err errno) = tt
      by false (Ok set) = known set (holds set error)

  keywords_agree : (call before : List ℕ) (words : List (List ℕ)) → Agrees (keywords_advice call before words) (sets_of n before words)
  keywords_agree call before [] = tt
  keywords_agree call before (word ∷ words) = by (further_set before word) (λ set. keywords_agree call (before ++ set ∷ []) words)
    where
      by : (o : Option ℕ)
          → ((set : ℕ) → Agrees (keywords_advice call (before ++ set ∷ []) words) (sets_of n (before ++ set ∷ []) words))
          → Agrees (unless_set o (keyword_advice call word) (λ set. keywords_advice call (before ++ set ∷ []) words))
          (ok_or o (BadList n) >>= λ set. sets_of n (before ++ set ∷ []) words)
      by None behind = (refl, keyword_fits call word)
      by (Some set) behind = behind set

  uses_agree : (call field : List ℕ) → Agrees (uses_advice call field) (action_of n (UsesForm field))
  uses_agree call field = agree_made (uses_advice call field) (sets_in n field) (λ sets. Uses sets)
      (keywords_agree call [] (slice_split (λ b. b == 124) field))

  -- of a word with other arguments than its call has, or of no call
  misuse_agrees : (word : List ℕ) (o : Option Arguments) → arguments_of rules word ≡ o → Agrees {A = Action} (misuse word o) (Err (BadCall n))
  misuse_agrees word None e = (refl, e)
  misuse_agrees word (Some what) e = (refl, tt)

  many_agree : (word a b c d : List ℕ) (more : List (List ℕ)) →
      Agrees (action_advice rules (word ∷ a ∷ b ∷ c ∷ d ∷ more)) (action_in rules n (word ∷ a ∷ b ∷ c ∷ d ∷ more))
  many_agree word a b c d more = misuse_agrees word (arguments_of rules word) refl

  -- of lines about descriptors and the root
  close_agrees : (a : List ℕ) → Agrees (descriptor_advice a) (ok_or (option_map CloseForm (descriptor_in a)) (BadCall n) >>= action_of n)
  close_agrees a = by (descriptor_in a)
    where
      by : (o : Option ℕ) → Agrees (cond (is_some o) None (Some (NoDescriptor a))) (ok_or (option_map CloseForm o) (BadCall n) >>= action_of n)
      by None = (refl, tt)
      by (Some number) = tt

  fchdir_agrees : (a : List ℕ) → Agrees (descriptor_advice a) (ok_or (option_map FchdirForm (descriptor_in a)) (BadCall n) >>= action_of n)
  fchdir_agrees a = by (descriptor_in a)
    where
      by : (o : Option ℕ) → Agrees (cond (is_some o) None (Some (NoDescriptor a))) (ok_or (option_map FchdirForm o) (BadCall n) >>= action_of n)
      by None = (refl, tt)
      by (Some number) = tt

  chroot_agrees : (a : List ℕ) → Agrees (path_advice a) (action_of n (ChrootForm a))
  chroot_agrees a = agree_made (path_advice a) (ok_or (path_in a) (BadPath n)) (λ path. Chroot path) (path_agrees a)

  hold_agrees : (a b c : List ℕ) → Agrees (option_or (descriptor_advice a) (option_or (opening_advice b) (path_advice c)))
      (ok_or (hold_form (descriptor_in a) (open_named b) c) (BadCall n) >>= action_of n)
  hold_agrees a b c = by (descriptor_in a) (open_named b)
    where
      by : (o : Option ℕ) (p : Option Call)
          → Agrees (option_or (cond (is_some o) None (Some (NoDescriptor a))) (option_or (cond (is_some p) None (Some (NoOpening b))) (path_advice c)))
          (ok_or (hold_form o p c) (BadCall n) >>= action_of n)
      by None p = (refl, tt)
      by (Some number) None = (refl, tt)
      by (Some number) (Some call) =
          agree_made (path_advice c) (ok_or (path_in c) (BadPath n)) (λ path. Hold number call path) (path_agrees c)

  take_agrees : (a b c : List ℕ) → Agrees (option_or (descriptor_advice a) (option_or (number_advice b) (descriptor_advice c)))
      (ok_or (take_form (descriptor_in a) (number_in b) (descriptor_in c)) (BadCall n) >>= action_of n)
  take_agrees a b c = by (descriptor_in a) (number_in b) (descriptor_in c)
    where
      by : (o p q : Option ℕ)
          → Agrees (option_or (cond (is_some o) None (Some (NoDescriptor a)))
          (option_or (cond (is_some p) None (Some (NoNumber b))) (cond (is_some q) None (Some (NoDescriptor c)))))
          (ok_or (take_form o p q) (BadCall n) >>= action_of n)
      by None p q = (refl, tt)
      by (Some number) None q = (refl, tt)
      by (Some number) (Some from) None = (refl, tt)
      by (Some number) (Some from) (Some theirs) = tt

  -- of a word that may be of such a line, and what stands behind it
  module _ (word : List ℕ) where
    alone_said : (c f r h t : Bool) → arguments_of rules word ≡ said_of c f r h t →
        Agrees {A = Action} (alone_advice word (said_of c f r h t)) (Err (BadCall n))
    alone_said true f r h t e = (refl, tt)
    alone_said false true r h t e = (refl, tt)
    alone_said false false true h t e = (refl, tt)
    alone_said false false false true t e = (refl, tt)
    alone_said false false false false true e = (refl, tt)
    alone_said false false false false false e = (refl, e)

    one_said : (a : List ℕ) (c f r h t : Bool) → arguments_of rules word ≡ said_of c f r h t →
        Agrees (one_advice word (said_of c f r h t) a)
        (ok_or (cond c (option_map CloseForm (descriptor_in a)) (cond f (option_map FchdirForm (descriptor_in a))
        (cond r (Some (ChrootForm a)) None))) (BadCall n) >>= action_of n)
    one_said a true f r h t e = close_agrees a
    one_said a false true r h t e = fchdir_agrees a
    one_said a false false true h t e = chroot_agrees a
    one_said a false false false true t e = (refl, tt)
    one_said a false false false false true e = (refl, tt)
    one_said a false false false false false e = (refl, e)

    two_said : (a b : List ℕ) (c f r h t : Bool) → arguments_of rules word ≡ said_of c f r h t →
        Agrees {A = Action} (two_advice word (said_of c f r h t) a b) (Err (BadCall n))
    two_said a b true f r h t e = (refl, tt)
    two_said a b false true r h t e = (refl, tt)
    two_said a b false false true h t e = (refl, tt)
    two_said a b false false false true t e = (refl, tt)
    two_said a b false false false false true e = (refl, tt)
    two_said a b false false false false false e = (refl, e)

    -- a word of a line with one argument is no hold and no take
    three_unsaid : (x y z : List ℕ) (what : Arguments) (h t : Bool) → (h ≡ false) × (t ≡ false) → Agrees (Some (Takes word what))
        (ok_or (cond h (hold_form (descriptor_in x) (open_named y) z)
        (cond t (take_form (descriptor_in x) (number_in y) (descriptor_in z)) None)) (BadCall n) >>= action_of n)
    three_unsaid x y z what true t none = absurd (true≢false none.0)
    three_unsaid x y z what false true none = absurd (true≢false none.1)
    three_unsaid x y z what false false none = (refl, tt)

    three_said : (x y z : List ℕ) (c f r h t : Bool) → (c ≡ true → (h ≡ false) × (t ≡ false)) → (f ≡ true → (h ≡ false) × (t ≡ false)) →
        (r ≡ true → (h ≡ false) × (t ≡ false)) →
        arguments_of rules word ≡ said_of c f r h t → Agrees (three_advice word (said_of c f r h t) x y z)
        (ok_or (cond h (hold_form (descriptor_in x) (open_named y) z)
        (cond t (take_form (descriptor_in x) (number_in y) (descriptor_in z)) None)) (BadCall n) >>= action_of n)
    three_said x y z true f r h t close fchdir chroot e = three_unsaid x y z Descriptor h t (close refl)
    three_said x y z false true r h t close fchdir chroot e = three_unsaid x y z Descriptor h t (fchdir refl)
    three_said x y z false false true h t close fchdir chroot e = three_unsaid x y z Path h t (chroot refl)
    three_said x y z false false false true t close fchdir chroot e = hold_agrees x y z
    three_said x y z false false false false true close fchdir chroot e = take_agrees x y z
    three_said x y z false false false false false close fchdir chroot e = (refl, e)

    no_three : (name : List ℕ) → same_bytes name (codes "hold") ≡ false → same_bytes name (codes "take") ≡ false → same_bytes word name ≡ true →
        (same_bytes word (codes "hold") ≡ false) × (same_bytes word (codes "take") ≡ false)
    no_three name h t is = (
      ap (λ w. same_bytes w (codes "hold")) (same_word word name is) ∙ h,
      ap (λ w. same_bytes w (codes "take")) (same_word word name is) ∙ t,
    )

    alone_filed : (r : Rules) → arguments_of rules word ≡ files_taken r word →
        Agrees {A = Action} (alone_advice word (files_taken r word)) (Err (BadCall n))
    alone_filed Standard e = (refl, e)
    alone_filed Openbsd e = alone_said (same_bytes word (codes "close")) (same_bytes word (codes "fchdir")) (same_bytes word (codes "chroot"))
        (same_bytes word (codes "hold")) (same_bytes word (codes "take")) e

    one_filed : (a : List ℕ) (r : Rules) → arguments_of rules word ≡ files_taken r word →
        Agrees (one_advice word (files_taken r word) a) (ok_or (if_openbsd r (file_form word a)) (BadCall n) >>= action_of n)
    one_filed a Standard e = (refl, e)
    one_filed a Openbsd e = one_said a (same_bytes word (codes "close")) (same_bytes word (codes "fchdir")) (same_bytes word (codes "chroot"))
        (same_bytes word (codes "hold")) (same_bytes word (codes "take")) e

    two_filed : (a b : List ℕ) (r : Rules) → arguments_of rules word ≡ files_taken r word →
        Agrees {A = Action} (two_advice word (files_taken r word) a b) (Err (BadCall n))
    two_filed a b Standard e = (refl, e)
    two_filed a b Openbsd e = two_said a b (same_bytes word (codes "close")) (same_bytes word (codes "fchdir")) (same_bytes word (codes "chroot"))
        (same_bytes word (codes "hold")) (same_bytes word (codes "take")) e

    three_filed : (a b c : List ℕ) (r : Rules) → arguments_of rules word ≡ files_taken r word →
        Agrees (three_advice word (files_taken r word) a b c) (ok_or (if_openbsd r (files_form word a b c)) (BadCall n) >>= action_of n)
    three_filed a b c Standard e = (refl, e)
    three_filed a b c Openbsd e = three_said a b c (same_bytes word (codes "close")) (same_bytes word (codes "fchdir"))
        (same_bytes word (codes "chroot")) (same_bytes word (codes "hold")) (same_bytes word (codes "take"))
        (no_three (codes "close") refl refl) (no_three (codes "fchdir") refl refl) (no_three (codes "chroot") refl refl) e

  -- of a word and what stands behind it
  abbrev Word : List ℕ → Type 0
  Word word = (arguments : List (List ℕ)) → Agrees (action_advice rules (word ∷ arguments)) (action_in rules n (word ∷ arguments))

  -- of one argument behind a word that takes none, or other ones
  one_refused : (word a : List ℕ) (what : Arguments) → form_of rules word (a ∷ []) ≡ None →
      Agrees (Some (Takes word what)) (action_in rules n (word ∷ a ∷ []))
  one_refused word a what formless =
      subst (λ form. Agrees (Some (Takes word what)) (ok_or form (BadCall n) >>= action_of n)) (sym formless) (refl, tt)

  three_refused : (word a b c : List ℕ) (what : Arguments) → form_of rules word (a ∷ b ∷ c ∷ []) ≡ None →
      Agrees (Some (Takes word what)) (action_in rules n (word ∷ a ∷ b ∷ c ∷ []))
  three_refused word a b c what formless =
      subst (λ form. Agrees (Some (Takes word what)) (ok_or form (BadCall n) >>= action_of n)) (sym formless) (refl, tt)

  exit_agrees : Word (codes "exit")
  exit_agrees [] = tt
  exit_agrees (a ∷ []) = one_refused (codes "exit") a Nothing (exit_formless rules a)
  exit_agrees (a ∷ b ∷ []) = (refl, tt)
  exit_agrees (a ∷ b ∷ c ∷ []) = three_refused (codes "exit") a b c Nothing (three_formless (codes "exit") refl refl rules a b c)
  exit_agrees (a ∷ b ∷ c ∷ d ∷ more) = many_agree (codes "exit") a b c d more

  fork_agrees : Word (codes "fork")
  fork_agrees [] = (refl, tt)
  fork_agrees (a ∷ []) = by (number_within 1 most_number a)
    where
      by : (o : Option ℕ) → Agrees (cond (is_some o) None (Some (NoNumber a))) (ok_or (option_map ForkForm o) (BadCall n) >>= action_of n)
      by None = (refl, tt)
      by (Some number) = tt
  fork_agrees (a ∷ b ∷ []) = (refl, tt)
  fork_agrees (a ∷ b ∷ c ∷ []) = three_refused (codes "fork") a b c Number (three_formless (codes "fork") refl refl rules a b c)
  fork_agrees (a ∷ b ∷ c ∷ d ∷ more) = many_agree (codes "fork") a b c d more

  rename_agrees : Word (codes "rename")
  rename_agrees [] = (refl, tt)
  rename_agrees (a ∷ []) = one_refused (codes "rename") a TwoPaths (rename_formless rules a)
  rename_agrees (a ∷ b ∷ []) = paths_agree Rename a b
  rename_agrees (a ∷ b ∷ c ∷ []) = three_refused (codes "rename") a b c TwoPaths (three_formless (codes "rename") refl refl rules a b c)
  rename_agrees (a ∷ b ∷ c ∷ d ∷ more) = many_agree (codes "rename") a b c d more

  link_agrees : Word (codes "link")
  link_agrees [] = (refl, tt)
  link_agrees (a ∷ []) = one_refused (codes "link") a TwoPaths (link_formless rules a)
  link_agrees (a ∷ b ∷ []) = paths_agree Link a b
  link_agrees (a ∷ b ∷ c ∷ []) = three_refused (codes "link") a b c TwoPaths (three_formless (codes "link") refl refl rules a b c)
  link_agrees (a ∷ b ∷ c ∷ d ∷ more) = many_agree (codes "link") a b c d more

  pledge_agrees : Word (codes "pledge")
  pledge_agrees [] = (refl, tt)
  pledge_agrees (a ∷ []) = one_refused (codes "pledge") a Promises (pledge_formless rules a)
  pledge_agrees (a ∷ b ∷ []) = lists_agree a b
  pledge_agrees (a ∷ b ∷ c ∷ []) = three_refused (codes "pledge") a b c Promises (three_formless (codes "pledge") refl refl rules a b c)
  pledge_agrees (a ∷ b ∷ c ∷ d ∷ more) = many_agree (codes "pledge") a b c d more

  unveil_word_agrees : Word (codes "unveil")
  unveil_word_agrees [] = (refl, tt)
  unveil_word_agrees (a ∷ []) = one_refused (codes "unveil") a PathAndLetters (unveil_formless rules a)
  unveil_word_agrees (a ∷ b ∷ []) = unveil_agrees (codes "unveil") a b
  unveil_word_agrees (a ∷ b ∷ c ∷ []) = three_refused (codes "unveil") a b c PathAndLetters (three_formless (codes "unveil") refl refl rules a b c)
  unveil_word_agrees (a ∷ b ∷ c ∷ d ∷ more) = many_agree (codes "unveil") a b c d more

  symlink_agrees : Word (codes "symlink")
  symlink_agrees [] =
      subst (λ o. Agrees {A = Action} (alone_advice (codes "symlink") o) (Err (BadCall n))) (sym (symlink_taken rules)) (refl, tt)
  symlink_agrees (a ∷ []) =
      subst (λ o. Agrees (one_advice (codes "symlink") o a) (action_in rules n (codes "symlink" ∷ a ∷ []))) (sym (symlink_taken rules))
      (one_refused (codes "symlink") a TargetAndPath (symlink_formless rules a))
  symlink_agrees (a ∷ b ∷ []) =
      subst (λ o. Agrees (two_advice (codes "symlink") o a b) (with_paths n Symlink a b)) (sym (symlink_taken rules)) (paths_agree Symlink a b)
  symlink_agrees (a ∷ b ∷ c ∷ []) =
      subst (λ o. Agrees (three_advice (codes "symlink") o a b c) (action_in rules n (codes "symlink" ∷ a ∷ b ∷ c ∷ []))) (sym (symlink_taken rules))
      (three_refused (codes "symlink") a b c TargetAndPath (three_formless (codes "symlink") refl refl rules a b c))
  symlink_agrees (a ∷ b ∷ c ∷ d ∷ more) = many_agree (codes "symlink") a b c d more

  -- what one argument asks for behind a word of this call
  abbrev formed : List ℕ → List ℕ → Option Call → Result Action ScriptFault
  formed word a o = ok_or (option_or (option_map (λ c. PathForm c a) (only_if (λ c. not (is_symlink c)) o))
      (if_openbsd rules (file_form word a))) (BadCall n) >>= action_of n

  -- what stands behind such a word
  abbrev pub behind_call : List ℕ → Option Call → Option Arguments
  behind_call word o = option_or (option_map call_takes o) (files_taken rules word)

  -- of the words of calls with one path, and of those of none
  module _ (word : List ℕ) (e : same_bytes word (codes "exit") ≡ false) (f : same_bytes word (codes "fork") ≡ false)
      (r : same_bytes word (codes "rename") ≡ false) (l : same_bytes word (codes "link") ≡ false)
      (p : same_bytes word (codes "pledge") ≡ false) (u : same_bytes word (codes "unveil") ≡ false)
      (s : same_bytes word (codes "symlink") ≡ false) where
    pub asked_or_taken : arguments_of rules word ≡ cond (asks_promises rules word) (Some AnyPromises) (behind_call word (call_asked_by rules word))
    asked_or_taken = skip _ _ _ e ∙ skip _ _ _ f ∙ skip _ _ _ r ∙ skip _ _ _ l ∙ skip _ _ _ p ∙ skip _ _ _ u

    -- of a word behind which promises stand
    module _ (t : asks_promises rules word ≡ true) where
      pub promised : arguments_of rules word ≡ Some AnyPromises
      promised = asked_or_taken ∙ ap (λ b. cond b (Some AnyPromises) (behind_call word (call_asked_by rules word))) t

      asked_agrees : Word word
      asked_agrees [] =
          subst (λ form. Agrees (alone_advice word (arguments_of rules word)) (ok_or form (BadCall n) >>= action_of n)) (sym (skip _ _ _ e))
          (subst (λ o. Agrees {A = Action} (alone_advice word o) (Err (BadCall n))) (sym promised) (refl, tt))
      asked_agrees (a ∷ []) =
          subst (λ form. Agrees (one_advice word (arguments_of rules word) a) (ok_or form (BadCall n) >>= action_of n))
          (sym (skip _ _ _ f ∙ ap (λ b. cond b (Some (UsesForm a)) (option_or (option_map (λ c. PathForm c a)
          (only_if (λ c. not (is_symlink c)) (call_asked_by rules word))) (if_openbsd rules (file_form word a)))) t))
          (subst (λ o. Agrees (one_advice word o a) (action_of n (UsesForm a))) (sym promised) (uses_agree word a))
      asked_agrees (a ∷ b ∷ []) =
          subst (λ form. Agrees (two_advice word (arguments_of rules word) a b) (ok_or form (BadCall n) >>= action_of n))
          (sym (skip _ _ _ s ∙ skip _ _ _ r ∙ skip _ _ _ l ∙ skip _ _ _ p ∙ skip _ _ _ u))
          (subst (λ o. Agrees {A = Action} (two_advice word o a b) (Err (BadCall n))) (sym promised) (refl, tt))
      asked_agrees (a ∷ b ∷ c ∷ []) =
          subst (λ o. Agrees (three_advice word o a b c) (action_in rules n (word ∷ a ∷ b ∷ c ∷ []))) (sym promised)
          (three_refused word a b c AnyPromises (uses_formless rules word t a b c))
      asked_agrees (a ∷ b ∷ c ∷ d ∷ more) = many_agree word a b c d more

    -- and of any other word
    module _ (t : asks_promises rules word ≡ false) where
      pub taken : arguments_of rules word ≡ behind_call word (call_asked_by rules word)
      taken = asked_or_taken ∙ skip _ _ _ t

      none_taken : call_asked_by rules word ≡ None → arguments_of rules word ≡ files_taken rules word
      none_taken asked = taken ∙ ap (behind_call word) asked

      no_symlink : (call : Call) → call_asked_by rules word ≡ Some call → is_symlink call ≡ true → ⊥
      no_symlink call asked is =
          false≢true (sym s ∙ ap (λ w. same_bytes w (codes "symlink")) (asked_symlink rules word call asked is))

      alone_agrees : Agrees (alone_advice word (arguments_of rules word)) (action_in rules n (word ∷ []))
      alone_agrees =
          subst (λ form. Agrees (alone_advice word (arguments_of rules word)) (ok_or form (BadCall n) >>= action_of n)) (sym (skip _ _ _ e))
          (subst (λ o. Agrees {A = Action} (alone_advice word o) (Err (BadCall n))) (sym taken) (by (call_asked_by rules word) refl))
        where
          by : (o : Option Call) → call_asked_by rules word ≡ o → Agrees {A = Action} (alone_advice word (behind_call word o)) (Err (BadCall n))
          by None asked = alone_filed word rules (none_taken asked)
          by (Some call) asked = linked (is_symlink call)
            where
              linked : (b : Bool) → Agrees {A = Action} (alone_advice word (Some (cond b TargetAndPath Path))) (Err (BadCall n))
              linked true = (refl, tt)
              linked false = (refl, tt)

      one_agrees : (a : List ℕ) → Agrees (one_advice word (arguments_of rules word) a) (action_in rules n (word ∷ a ∷ []))
      one_agrees a =
          subst (λ form. Agrees (one_advice word (arguments_of rules word) a) (ok_or form (BadCall n) >>= action_of n)) (sym (skip _ _ _ f ∙ skip _ _ _ t))
          (subst (λ o. Agrees (one_advice word o a) (formed word a (call_asked_by rules word))) (sym taken) (by (call_asked_by rules word) refl))
        where
          by : (o : Option Call) → call_asked_by rules word ≡ o → Agrees (one_advice word (behind_call word o) a) (formed word a o)
          by None asked = one_filed word a rules (none_taken asked)
          by (Some call) asked = linked (is_symlink call) refl
            where
              linked : (b : Bool) → is_symlink call ≡ b → Agrees (one_advice word (Some (cond b TargetAndPath Path)) a)
                  (ok_or (option_or (option_map (λ c. PathForm c a) (cond (not b) (Some call) None)) (if_openbsd rules (file_form word a))) (BadCall n)
                  >>= action_of n)
              linked true is = absurd (no_symlink call asked is)
              linked false is = agree_made (path_advice a) (ok_or (path_in a) (BadPath n)) (λ path. OnPath call path) (path_agrees a)

      two_agrees : (a b : List ℕ) → Agrees (two_advice word (arguments_of rules word) a b) (action_in rules n (word ∷ a ∷ b ∷ []))
      two_agrees a b =
          subst (λ form. Agrees (two_advice word (arguments_of rules word) a b) (ok_or form (BadCall n) >>= action_of n))
          (sym (skip _ _ _ s ∙ skip _ _ _ r ∙ skip _ _ _ l ∙ skip _ _ _ p ∙ skip _ _ _ u))
          (subst (λ o. Agrees {A = Action} (two_advice word o a b) (Err (BadCall n))) (sym taken) (by (call_asked_by rules word) refl))
        where
          by : (o : Option Call) → call_asked_by rules word ≡ o → Agrees {A = Action} (two_advice word (behind_call word o) a b) (Err (BadCall n))
          by None asked = two_filed word a b rules (none_taken asked)
          by (Some call) asked = linked (is_symlink call) refl
            where
              linked : (b' : Bool) → is_symlink call ≡ b' → Agrees {A = Action} (two_advice word (Some (cond b' TargetAndPath Path)) a b) (Err (BadCall n))
              linked true is = absurd (no_symlink call asked is)
              linked false is = (refl, tt)

      three_agree : (a b c : List ℕ) → Agrees (three_advice word (arguments_of rules word) a b c) (action_in rules n (word ∷ a ∷ b ∷ c ∷ []))
      three_agree a b c = subst (λ o. Agrees (three_advice word o a b c) (action_in rules n (word ∷ a ∷ b ∷ c ∷ []))) (sym taken)
          (by (call_asked_by rules word) refl)
        where
          by : (o : Option Call) → call_asked_by rules word ≡ o
              → Agrees (three_advice word (behind_call word o) a b c) (action_in rules n (word ∷ a ∷ b ∷ c ∷ []))
          by None asked = three_filed word a b c rules (none_taken asked)
          by (Some call) asked = linked (is_symlink call)
            where
              linked : (b' : Bool) → Agrees (three_advice word (Some (cond b' TargetAndPath Path)) a b c) (action_in rules n (word ∷ a ∷ b ∷ c ∷ []))
              linked true = three_refused word a b c TargetAndPath (asked_formless rules word call asked a b c)
              linked false = three_refused word a b c Path (asked_formless rules word call asked a b c)

      plain_agrees : Word word
      plain_agrees [] = alone_agrees
      plain_agrees (a ∷ []) = one_agrees a
      plain_agrees (a ∷ b ∷ []) = two_agrees a b
      plain_agrees (a ∷ b ∷ c ∷ []) = three_agree a b c
      plain_agrees (a ∷ b ∷ c ∷ d ∷ more) = many_agree word a b c d more

    other_agrees : Word word
    other_agrees = by (asks_promises rules word) refl
      where
        by : (b : Bool) → asks_promises rules word ≡ b → Word word
        by true t = asked_agrees t
        by false t = plain_agrees t

  action_agrees : (more : List (List ℕ)) → Agrees (action_advice rules more) (action_in rules n more)
  action_agrees [] = (refl, tt)
  action_agrees (word ∷ arguments) = by_word Word exit_agrees fork_agrees rename_agrees link_agrees pledge_agrees unveil_word_agrees symlink_agrees
      other_agrees word arguments

  fields_agree : (fs : List (List ℕ)) → Agrees (fields_advice rules fs) (request_of_fields rules n fs)
  fields_agree [] = (refl, tt)
  fields_agree (process ∷ more) =
      agree_then (number_advice process) (action_advice rules more) (ok_or (number_within 1 most_number process) (BadLine n)) _
      (number_agrees process)
      (λ number. agree_made (action_advice rules more) (action_in rules n more) (λ action. record { process = number; action = action })
      (action_agrees more))

  -- of a text
  texts_agree : (line : List ℕ) → Agrees (text_advice rules line) (request_of_text rules n line)
  texts_agree line = by (list_all is_field (fields line)) refl
    where
      by : (b : Bool) → list_all is_field (fields line) ≡ b
          → Agrees (text_advice rules line) (cond b (request_of_fields rules n (fields line)) (Err (BadLine n)))
      by true all = subst (λ o. Agrees (cond (is_some o) o (fields_advice rules (fields line))) (request_of_fields rules n (fields line)))
          (sym (well_formed line all)) (fields_agree (fields line))
      by false some =
          let wrong = ill_formed line some in
          subst (λ o. Agrees {A = Asked} (cond (is_some o) o (fields_advice rules (fields line))) (Err (BadLine n))) (sym wrong.2) (refl, form_fits wrong.0 wrong.1)

  -- of a line
  pub lines_agree : (line : List ℕ) → Agrees (advice_of rules line) (request_by rules n line)
  lines_agree line = by (is_blank rules (text_in rules line))
    where
      by : (b : Bool) → Agrees (cond b None (text_advice rules (text_in rules line)))
          (cond b (Ok comment) (request_of_text rules n (text_in rules line)))
      by true = tt
      by false = texts_agree (text_in rules line)

  pub unknown_fits : (line word : List ℕ) → advice_of rules line ≡ Some (UnknownCall word) → arguments_of rules word ≡ None
  unknown_fits line word e = by (request_by rules n line) (subst (λ o. Agrees o (request_by rules n line)) e (lines_agree line))
    where
      by : (r : Result Asked ScriptFault) → Agrees (Some (UnknownCall word)) r → arguments_of rules word ≡ None
      by (Ok ask) fits = absurd fits
      by (Err fault) fits = fits.1
