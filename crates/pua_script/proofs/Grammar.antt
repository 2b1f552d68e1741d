-- A script is read exactly as the requests that its lines spell.
use Rattle.pua_script.proofs.Common.{◌≡◌, ℕ, suc, ◌≤◌, ◌<◌, Bool, true, false, cond, List, [], ◌∷◌, length, take, refl, sym, ap, subst, ◌∙◌}
use Rattle.pua_script.proofs.Common.{arith, lit<, IsTrue, option_map, nat_lt, list_all, lines, not-true, and_from, is_bytes}
use Rattle.pua_script.proofs.Common.{is_in_bytes, ◌>>=◌, None≢Some, Errno, Call, Asked, Action, OnPath, Symlink, Rename, Link, Unveil, Fork}
use Rattle.pua_script.proofs.Common.{request_of_fields, request_by}
use Rattle.std.proofs.Common.{Option, Some, None, Result, Ok}
use Rattle.std.proofs.Common.{Err, true≢false, eqb, ◌&&◌, ◌||◌, ◌++◌}
use Rattle.std.specs.List.{list_any, onto_first, slice_split}
use Rattle.std.specs.Prelude.{◌≢◌, codes, ok_or, not}
use Rattle.std.specs.Result.{result_ok}
use Rattle.std.proofs.lemmas.Bool.{le-ltb, ltb-false, cond-true, false≢true}
use Rattle.std.proofs.lemmas.List.{take_all}
use lib.Pointwise.{bytes_decides}
use Rattle.pua_tree.specs.Names.{same_bytes, has_byte}
use Rattle.pua_tree.specs.Spelling.{bytes_spelled, fields, is_field, number_within}
use Rattle.pua_tree.specs.Listing.{only_if}
use Rattle.pua_tree.proofs.ForCallers.{same_Some, guarded, Err≢Ok, same_Ok, unspelled-spelling, spelling-unspelled}
use Rattle.pua_tree.proofs.ForCallers.{bytes_unspelled, decimal_within, number_read, mapped, only_if_read, other_word}
use Rattle.pua_tree.proofs.ForCallers.{same_word, ok_or_read, step_read}
use Rattle.pua_calls.specs.Promises.{holds, error, promises_of, perms_of}
use Rattle.pua_calls.specs.Neighbours.{call_asked_by}
use Rattle.pua_calls.specs.declared.rules.Rules.{Rules}
use Rattle.pua_calls.specs.declared.rules.Rules.TheVariants.{Standard, Openbsd}
use Rattle.pua_script.specs.Requests.{is_open, is_symlink, has_no_nul, comment}
use Rattle.std.specs.Option.{option_or}
use Rattle.pua_calls.specs.Calls.{call_named_by}
use Rattle.pua_script.specs.declared.request.Given.{Given}
use Rattle.pua_script.specs.declared.request.Given.TheVariants.{Null, Good}
use Rattle.pua_script.specs.declared.request.Action.TheVariants.{Pledge, Lock, Exit, Uses, Hold, Close, Fchdir, Chroot, Take}
use Rattle.pua_script.specs.declared.fault.ScriptFault.{ScriptFault}
use Rattle.pua_script.specs.declared.fault.ScriptFault.TheVariants.{BadLine, BadCall, BadPath, BadList, TooMany}
use Rattle.pua_script.specs.Scripts.{is_dash, is_equals, path_in, has_empty_word, good_or_unknown, given_in, perms_in, Form, PathForm}
use Rattle.pua_script.specs.Scripts.{SymlinkForm, RenameForm, LinkForm, PledgeForm, UnveilForm, ForkForm, ExitForm, UsesForm, form_of, with_paths}
use Rattle.pua_script.specs.Scripts.{set_of_keyword, further_set, sets_of, sets_in, asks_promises}
use Rattle.pua_script.specs.Scripts.{HoldForm, CloseForm, FchdirForm, ChrootForm, TakeForm, descriptor_in, number_in, open_named, hold_form, take_form}
use Rattle.pua_script.specs.Scripts.{file_form, files_form, if_openbsd}
use Rattle.pua_script.specs.Scripts.{unveil_of, action_of, form_in, action_in, requests_of, is_blank, text_in, request_of_text}
use Rattle.pua_script.specs.ScriptGrammar.{SpellsPath, empty, spelled, IsList, SpellsGiven, null, nothing, known, unknown, SpellsPerms}
use Rattle.pua_script.specs.ScriptGrammar.{no_letter, letters, unknown_letter, SpellsAction, on_path, symlink, rename, link, pledge, unveil}
use Rattle.pua_script.specs.ScriptGrammar.{lock, fork, exit, uses, hold, close, fchdir, chroot, take as taken, SpellsDescriptor, IsKeyword, SpellSets, SpellsRequest, SpellsLine, blank, request}
use Rattle.pua_script.specs.ScriptGrammar.{SpellRequests, ScriptsAreRead}

same_to : (a b : List ℕ) → a ≡ b → same_bytes a b ≡ true
same_to a b e = (bytes_decides a b).1 e

apart_from : (a b : List ℕ) → same_bytes a b ≡ false → a ≢ b
apart_from a b e is = true≢false (sym (same_to a b is) ∙ e)

-- fields that stand for paths
path_read : (field text : List ℕ) → path_in field ≡ Some text → SpellsPath field text
path_read field text = by (is_equals field) refl
  where
    by : (b : Bool) → is_equals field ≡ b → cond b (Some []) (only_if has_no_nul (bytes_spelled field)) ≡ Some text → SpellsPath field text
    by true e is = subst (SpellsPath field) (same_Some [] text is) (empty (same_word field (codes "=") e))
    by false e is =
        let parts = only_if_read has_no_nul (bytes_spelled field) text is in
        spelled (apart_from field (codes "=") e) (bytes_unspelled field text parts.0) parts.1 (spelling-unspelled field text parts.0)

path_told : (field text : List ℕ) → SpellsPath field text → path_in field ≡ Some text
path_told field _ (empty e) = ap (λ b. cond b (Some []) (only_if has_no_nul (bytes_spelled field))) (same_to field (codes "=") e)
path_told field text (spelled ne small clean e) =
    ap (λ b. cond b (Some []) (only_if has_no_nul (bytes_spelled field))) (other_word field (codes "=") ne)
    ∙ ap (only_if has_no_nul) (ap bytes_spelled e ∙ unspelled-spelling text small)
    ∙ cond-true (has_no_nul text) (Some text) None clean

-- fields that stand for what is given
given_read : (field : List ℕ) (given : Given) → given_in field ≡ Some given → SpellsGiven field given
given_read field given = by (is_dash field) refl (is_equals field) refl (has_empty_word field) refl
  where
    listed : IsList field → (r : Result ℕ Errno) → promises_of field ≡ r → good_or_unknown r ≡ given → SpellsGiven field given
    listed list (Ok set) e is = subst (SpellsGiven field) is (known list e)
    listed list (Err errno) e is = subst (SpellsGiven field) is (unknown list e)

    by : (a : Bool) → is_dash field ≡ a → (b : Bool) → is_equals field ≡ b → (c : Bool) → has_empty_word field ≡ c
        → cond a (Some Null) (cond b (Some (Good 0)) (cond c None (Some (good_or_unknown (promises_of field))))) ≡ Some given →
        SpellsGiven field given
    by true d b e c w is = subst (SpellsGiven field) (same_Some Null given is) (null (same_word field (codes "-") d))
    by false d true e c w is = subst (SpellsGiven field) (same_Some (Good 0) given is) (nothing (same_word field (codes "=") e))
    by false d false e true w is = absurd (None≢Some given is)
    by false d false e false w is =
        listed (record { no_dash = apart_from field (codes "-") d; no_equals = apart_from field (codes "=") e; words = w })
        (promises_of field) refl (same_Some _ given is)

list_told : (field : List ℕ) → IsList field → given_in field ≡ Some (good_or_unknown (promises_of field))
list_told field list =
    ap (λ a. cond a (Some Null)
    (cond (is_equals field) (Some (Good 0)) (cond (has_empty_word field) None (Some (good_or_unknown (promises_of field))))))
    (other_word field (codes "-") list.no_dash)
    ∙ ap (λ b. cond b (Some (Good 0)) (cond (has_empty_word field) None (Some (good_or_unknown (promises_of field)))))
    (other_word field (codes "=") list.no_equals)
    ∙ ap (λ c. cond c None (Some (good_or_unknown (promises_of field)))) list.words

given_told : (field : List ℕ) (given : Given) → SpellsGiven field given → given_in field ≡ Some given
given_told field _ (null e) = ap given_in e
given_told field _ (nothing e) = ap given_in e
given_told field _ (known list e) = list_told field list ∙ ap (λ r. Some (good_or_unknown r)) e
given_told field _ (unknown list e) = list_told field list ∙ ap (λ r. Some (good_or_unknown r)) e

-- fields that stand for letters
perms_read : (field : List ℕ) → SpellsPerms field (perms_in field)
perms_read field = by (is_equals field) refl (perms_of field) refl
  where
    by : (b : Bool) → is_equals field ≡ b → (r : Result ℕ Errno) → perms_of field ≡ r → SpellsPerms field (cond b (Some 0) (result_ok r))
    by true e r p = no_letter (same_word field (codes "=") e)
    by false e (Ok set) p = letters (apart_from field (codes "=") e) p
    by false e (Err errno) p = unknown_letter (apart_from field (codes "=") e) p

perms_told : (field : List ℕ) (perms : Option ℕ) → SpellsPerms field perms → perms_in field ≡ perms
perms_told field _ (no_letter e) = ap perms_in e
perms_told field _ (letters ne e) = ap (λ b. cond b (Some 0) (result_ok (perms_of field))) (other_word field (codes "=") ne) ∙
    ap result_ok e
perms_told field _ (unknown_letter ne e) = ap (λ b. cond b (Some 0) (result_ok (perms_of field))) (other_word field (codes "=") ne) ∙
    ap result_ok e

-- keywords that are asked for
ok_is : (r : Result ℕ Errno) (set : ℕ) → result_ok r ≡ Some set → r ≡ Ok set
ok_is (Ok x) set e = ap Ok (same_Some x set e)
ok_is (Err errno) set e = absurd (None≢Some set e)

keyword_read : (word : List ℕ) (set : ℕ) → set_of_keyword word ≡ Some set → IsKeyword word set
keyword_read word set = by (eqb (length word) 0 || has_byte 44 word) refl
  where
    by : (b : Bool) → (eqb (length word) 0 || has_byte 44 word) ≡ b
        → cond b None (only_if (λ set. not (holds set error)) (result_ok (promises_of word))) ≡ Some set → IsKeyword word set
    by true one e = absurd (None≢Some set e)
    by false one e =
        let parts = only_if_read (λ set. not (holds set error)) (result_ok (promises_of word)) set e in
        record { one = one; names = ok_is (promises_of word) set parts.0; other = not-true (holds set error) parts.1 }

keyword_told : (word : List ℕ) (set : ℕ) → IsKeyword word set → set_of_keyword word ≡ Some set
keyword_told word set is =
    ap (λ b. cond b None (only_if (λ set. not (holds set error)) (result_ok (promises_of word)))) is.one
    ∙ ap (λ r. only_if (λ set. not (holds set error)) (result_ok r)) is.names
    ∙ ap (λ b. cond (not b) (Some set) None) is.other

module _ (n : ℕ) where
  pub sets_read : (before : List ℕ) (words : List (List ℕ)) (sets : List ℕ) → sets_of n before words ≡ Ok sets → SpellSets before words sets
  sets_read before [] sets e = same_Ok before sets e
  sets_read before (word ∷ words) sets e =
      let next = step_read (ok_or (further_set before word) (BadList n)) (λ set. sets_of n (before ++ set ∷ []) words) sets e in
      let parts = only_if_read (λ set. not (list_any (λ other. holds other set) before)) (set_of_keyword word) next.0
      (ok_or_read (further_set before word) (BadList n) next.0 next.1) in (
        next.0,
        keyword_read word next.0 parts.0,
        not-true (list_any (λ other. holds other next.0) before) parts.1,
        sets_read (before ++ next.0 ∷ []) words sets next.2,
      )

  pub sets_told : (before : List ℕ) (words : List (List ℕ)) (sets : List ℕ) → SpellSets before words sets → sets_of n before words ≡ Ok sets
  sets_told before [] sets spells = ap Ok spells
  sets_told before (word ∷ words) sets spells =
      ap (λ o. ok_or (only_if (λ set. not (list_any (λ other. holds other set) before)) o) (BadList n) >>= λ set. sets_of n
      (before ++ set ∷ []) words) (keyword_told word spells.0 spells.1)
      ∙ ap (λ b. ok_or (cond (not b) (Some spells.0) None) (BadList n) >>= λ set. sets_of n (before ++ set ∷ []) words) spells.2
      ∙ sets_told (before ++ spells.0 ∷ []) words sets spells.3

module _ (rules : Rules) where
  -- the words of calls, of which none is `fork`
  no_fork : (named : Rules) → call_asked_by named (codes "fork") ≡ None
  no_fork Standard = refl
  no_fork Openbsd = refl

  not_fork : (word : List ℕ) (c : Call) → call_asked_by rules word ≡ Some c → same_bytes word (codes "fork") ≡ false
  not_fork word c there = by (same_bytes word (codes "fork")) refl
    where
      by : (s : Bool) → same_bytes word (codes "fork") ≡ s → s ≡ false
      by false e = refl
      by true e = absurd (None≢Some c (sym (no_fork rules) ∙
          subst (λ w. call_asked_by rules w ≡ Some c) (same_word word (codes "fork") e) there))

  -- nor `uses`
  not_uses : (named : Rules) (word : List ℕ) (c : Call) → call_asked_by named word ≡ Some c → asks_promises named word ≡ false
  not_uses Standard word c there = refl
  not_uses Openbsd word c there = by (same_bytes word (codes "uses")) refl
    where
      no_uses : call_asked_by Openbsd (codes "uses") ≡ None
      no_uses = refl

      by : (s : Bool) → same_bytes word (codes "uses") ≡ s → s ≡ false
      by false e = refl
      by true e = absurd (None≢Some c (sym no_uses ∙
          subst (λ w. call_asked_by Openbsd w ≡ Some c) (same_word word (codes "uses") e) there))

  form_of_call : (word : List ℕ) (c : Call) (a : List ℕ) → is_symlink c ≡ false → call_asked_by rules word ≡ Some c →
      form_of rules word (a ∷ []) ≡ Some (PathForm c a)
  form_of_call word c a other there =
      ap (λ s. cond s (option_map ForkForm (number_within 1 999999 a)) (cond (asks_promises rules word) (Some (UsesForm a))
      (option_or (option_map (λ d. PathForm d a) (only_if (λ d. not (is_symlink d)) (call_asked_by rules word))) files))) (not_fork word c there)
      ∙ ap (λ s. cond s (Some (UsesForm a))
      (option_or (option_map (λ d. PathForm d a) (only_if (λ d. not (is_symlink d)) (call_asked_by rules word))) files))
      (not_uses rules word c there)
      ∙ ap (λ o. option_or (option_map (λ d. PathForm d a) (only_if (λ d. not (is_symlink d)) o)) files) there
      ∙ ap (λ b. option_or (option_map (λ d. PathForm d a) (cond (not b) (Some c) None)) files) other
    where
      files : Option Form
      files = if_openbsd rules (file_form word a)

  -- what a form asks for
  module _ (n : ℕ) where
    path_form : (word a : List ℕ) (c : Call) (action : Action) → is_symlink c ≡ false → call_asked_by rules word ≡ Some c →
        action_of n (PathForm c a) ≡ Ok action → SpellsAction rules (word ∷ a ∷ []) action
    path_form word a c action other there e =
        let path = step_read (ok_or (path_in a) (BadPath n)) (λ p. Ok (OnPath c p)) action e in
        subst (SpellsAction rules (word ∷ a ∷ [])) (same_Ok (OnPath c path.0) action path.2)
        (on_path other there (path_read a path.0 (ok_or_read (path_in a) (BadPath n) path.0 path.1)))

    two_paths : (make : List ℕ → List ℕ → Action) (a b : List ℕ) (action : Action) → with_paths n make a b ≡ Ok action →
        (x : List ℕ) × (y : List ℕ) × SpellsPath a x × SpellsPath b y × (make x y ≡ action)
    two_paths make a b action e =
        let first = step_read (ok_or (path_in a) (BadPath n)) (λ x. ok_or (path_in b) (BadPath n) >>= λ y. Ok (make x y)) action e in
        let second = step_read (ok_or (path_in b) (BadPath n)) (λ y. Ok (make first.0 y)) action first.2 in (
          first.0,
          second.0,
          path_read a first.0 (ok_or_read (path_in a) (BadPath n) first.0 first.1),
          path_read b second.0 (ok_or_read (path_in b) (BadPath n) second.0 second.1),
          same_Ok _ action second.2,
        )

    symlink_form : (word a b : List ℕ) (action : Action) → word ≡ codes "symlink" → action_of n (SymlinkForm a b) ≡ Ok action →
        SpellsAction rules (word ∷ a ∷ b ∷ []) action
    symlink_form word a b action named e = let both = two_paths Symlink a b action e in
        subst (SpellsAction rules (word ∷ a ∷ b ∷ [])) both.4 (symlink named both.2 both.3)

    rename_form : (word a b : List ℕ) (action : Action) → word ≡ codes "rename" → action_of n (RenameForm a b) ≡ Ok action →
        SpellsAction rules (word ∷ a ∷ b ∷ []) action
    rename_form word a b action named e = let both = two_paths Rename a b action e in
        subst (SpellsAction rules (word ∷ a ∷ b ∷ [])) both.4 (rename named both.2 both.3)

    link_form : (word a b : List ℕ) (action : Action) → word ≡ codes "link" → action_of n (LinkForm a b) ≡ Ok action →
        SpellsAction rules (word ∷ a ∷ b ∷ []) action
    link_form word a b action named e = let both = two_paths Link a b action e in
        subst (SpellsAction rules (word ∷ a ∷ b ∷ [])) both.4 (link named both.2 both.3)

    pledge_form : (word a b : List ℕ) (action : Action) → word ≡ codes "pledge" → action_of n (PledgeForm a b) ≡ Ok action →
        SpellsAction rules (word ∷ a ∷ b ∷ []) action
    pledge_form word a b action named e =
        let first = step_read (ok_or (given_in a) (BadList n)) (λ p. ok_or (given_in b) (BadList n) >>= λ x. Ok (Pledge p x)) action e in
        let second = step_read (ok_or (given_in b) (BadList n)) (λ x. Ok (Pledge first.0 x)) action first.2 in
        subst (SpellsAction rules (word ∷ a ∷ b ∷ [])) (same_Ok (Pledge first.0 second.0) action second.2)
        (pledge named (given_read a first.0 (ok_or_read (given_in a) (BadList n) first.0 first.1))
        (given_read b second.0 (ok_or_read (given_in b) (BadList n) second.0 second.1)))

    unveil_form : (word a b : List ℕ) (action : Action) → word ≡ codes "unveil" → action_of n (UnveilForm a b) ≡ Ok action →
        SpellsAction rules (word ∷ a ∷ b ∷ []) action
    unveil_form word a b action named = by (is_dash a) refl (is_dash b) refl
      where
        by : (s : Bool) → is_dash a ≡ s → (t : Bool) → is_dash b ≡ t
            → cond s (cond t (Ok Lock) (Err (BadList n))) (ok_or (path_in a) (BadPath n) >>= λ text. cond t (Err (BadList n))
            (Ok (Unveil text (perms_in b)))) ≡ Ok action → SpellsAction rules (word ∷ a ∷ b ∷ []) action
        by true d true f e = subst (SpellsAction rules (word ∷ a ∷ b ∷ [])) (same_Ok Lock action e)
            (lock named (same_word a (codes "-") d) (same_word b (codes "-") f))
        by true d false f e = absurd (Err≢Ok (BadList n) action e)
        by false d true f e = let path = step_read (ok_or (path_in a) (BadPath n)) (λ text. Err (BadList n)) action e in
            absurd (Err≢Ok (BadList n) action path.2)
        by false d false f e =
            let path = step_read (ok_or (path_in a) (BadPath n)) (λ text. Ok (Unveil text (perms_in b))) action e in
            subst (SpellsAction rules (word ∷ a ∷ b ∷ [])) (same_Ok (Unveil path.0 (perms_in b)) action path.2)
            (unveil named (apart_from a (codes "-") d) (apart_from b (codes "-") f)
            (path_read a path.0 (ok_or_read (path_in a) (BadPath n) path.0 path.1)) (perms_read b))

    uses_named : (named : Rules) (word : List ℕ) → asks_promises named word ≡ true → (named ≡ Openbsd) × (word ≡ codes "uses")
    uses_named Standard word e = absurd (false≢true e)
    uses_named Openbsd word e = (refl, same_word word (codes "uses") e)

    uses_form : (word a : List ℕ) (action : Action) → (rules ≡ Openbsd) × (word ≡ codes "uses") → action_of n (UsesForm a) ≡ Ok action →
        SpellsAction rules (word ∷ a ∷ []) action
    uses_form word a action named e =
        let sets = step_read (sets_in n a) (λ sets. Ok (Uses sets)) action e in
        subst (SpellsAction rules (word ∷ a ∷ [])) (same_Ok (Uses sets.0) action sets.2)
        (uses named.0 named.1 (sets_read n [] (slice_split (λ b. eqb b 124) a) sets.0 sets.1))

    -- a descriptor
    descriptor_read : (field : List ℕ) (number : ℕ) → descriptor_in field ≡ Some number → SpellsDescriptor field number
    descriptor_read field number e = let read = number_read 0 1023 field number (lit< tt) e in record { is = read.0; high = read.2 }

    -- lines about descriptors, by the rules that have them
    close_form : (word a : List ℕ) (number : ℕ) (action : Action) → rules ≡ Openbsd → word ≡ codes "close" → descriptor_in a ≡ Some number →
        action_of n (CloseForm number) ≡ Ok action → SpellsAction rules (word ∷ a ∷ []) action
    close_form word a number action by_kernel named e is =
        subst (SpellsAction rules (word ∷ a ∷ [])) (same_Ok (Close number) action is) (close by_kernel named (descriptor_read a number e))

    fchdir_form : (word a : List ℕ) (number : ℕ) (action : Action) → rules ≡ Openbsd → word ≡ codes "fchdir" → descriptor_in a ≡ Some number →
        action_of n (FchdirForm number) ≡ Ok action → SpellsAction rules (word ∷ a ∷ []) action
    fchdir_form word a number action by_kernel named e is =
        subst (SpellsAction rules (word ∷ a ∷ [])) (same_Ok (Fchdir number) action is) (fchdir by_kernel named (descriptor_read a number e))

    chroot_form : (word a : List ℕ) (action : Action) → rules ≡ Openbsd → word ≡ codes "chroot" →
        action_of n (ChrootForm a) ≡ Ok action → SpellsAction rules (word ∷ a ∷ []) action
    chroot_form word a action by_kernel named is =
        let path = step_read (ok_or (path_in a) (BadPath n)) (λ text. Ok (Chroot text)) action is in
        subst (SpellsAction rules (word ∷ a ∷ [])) (same_Ok (Chroot path.0) action path.2)
        (chroot by_kernel named (path_read a path.0 (ok_or_read (path_in a) (BadPath n) path.0 path.1)))

    one_file : (word a : List ℕ) (form : Form) (action : Action) → rules ≡ Openbsd → file_form word a ≡ Some form →
        action_of n form ≡ Ok action → SpellsAction rules (word ∷ a ∷ []) action
    one_file word a form action by_kernel = by (same_bytes word (codes "close")) refl (same_bytes word (codes "fchdir")) refl
        (same_bytes word (codes "chroot")) refl
      where
        by : (s : Bool) → same_bytes word (codes "close") ≡ s → (f : Bool) → same_bytes word (codes "fchdir") ≡ f
            → (r : Bool) → same_bytes word (codes "chroot") ≡ r
            → cond s (option_map CloseForm (descriptor_in a)) (cond f (option_map FchdirForm (descriptor_in a))
            (cond r (Some (ChrootForm a)) None)) ≡ Some form →
            action_of n form ≡ Ok action → SpellsAction rules (word ∷ a ∷ []) action
        by true w f _ r _ e is =
            let number = mapped CloseForm (descriptor_in a) form e in
            close_form word a number.0 action by_kernel (same_word word (codes "close") w) number.1 (ap (action_of n) number.2 ∙ is)
        by false _ true w r _ e is =
            let number = mapped FchdirForm (descriptor_in a) form e in
            fchdir_form word a number.0 action by_kernel (same_word word (codes "fchdir") w) number.1 (ap (action_of n) number.2 ∙ is)
        by false _ false _ true w e is =
            chroot_form word a action by_kernel (same_word word (codes "chroot") w) (ap (action_of n) (same_Some (ChrootForm a) form e) ∙ is)
        by false _ false _ false _ e is = absurd (None≢Some form e)

    hold_read : (word a b c : List ℕ) (form : Form) (action : Action) → rules ≡ Openbsd → word ≡ codes "hold" →
        hold_form (descriptor_in a) (open_named b) c ≡ Some form → action_of n form ≡ Ok action →
        SpellsAction rules (word ∷ a ∷ b ∷ c ∷ []) action
    hold_read word a b c form action by_kernel named = by (descriptor_in a) refl (open_named b) refl
      where
        by : (x : Option ℕ) → descriptor_in a ≡ x → (y : Option Call) → open_named b ≡ y → hold_form x y c ≡ Some form →
            action_of n form ≡ Ok action → SpellsAction rules (word ∷ a ∷ b ∷ c ∷ []) action
        by (Some number) first (Some call) second e is =
            let opens = only_if_read is_open (call_named_by Openbsd b) call second in
            let whole = ap (action_of n) (same_Some (HoldForm number call c) form e) ∙ is in
            let path = step_read (ok_or (path_in c) (BadPath n)) (λ p. Ok (Hold number call p)) action whole in
            subst (SpellsAction rules (word ∷ a ∷ b ∷ c ∷ [])) (same_Ok (Hold number call path.0) action path.2)
            (hold by_kernel named (descriptor_read a number first) opens.1 opens.0
            (path_read c path.0 (ok_or_read (path_in c) (BadPath n) path.0 path.1)))
        by (Some number) first None second e is = absurd (None≢Some form e)
        by None first (Some call) second e is = absurd (None≢Some form e)
        by None first None second e is = absurd (None≢Some form e)

    take_read : (word a b c : List ℕ) (form : Form) (action : Action) → rules ≡ Openbsd → word ≡ codes "take" →
        take_form (descriptor_in a) (number_in b) (descriptor_in c) ≡ Some form → action_of n form ≡ Ok action →
        SpellsAction rules (word ∷ a ∷ b ∷ c ∷ []) action
    take_read word a b c form action by_kernel named = by (descriptor_in a) refl (number_in b) refl (descriptor_in c) refl
      where
        by : (x : Option ℕ) → descriptor_in a ≡ x → (y : Option ℕ) → number_in b ≡ y → (z : Option ℕ) → descriptor_in c ≡ z →
            take_form x y z ≡ Some form → action_of n form ≡ Ok action → SpellsAction rules (word ∷ a ∷ b ∷ c ∷ []) action
        by (Some number) first (Some from) second (Some theirs) third e is =
            let read = number_read 1 999999 b from (lit< tt) second in
            let whole = ap (action_of n) (same_Some (TakeForm number from theirs) form e) ∙ is in
            subst (SpellsAction rules (word ∷ a ∷ b ∷ c ∷ [])) (same_Ok (Take number from theirs) action whole)
            (taken by_kernel named (descriptor_read a number first) read.0 read.1 read.2 (descriptor_read c theirs third))
        by (Some number) first (Some from) second None third e is = absurd (None≢Some form e)
        by (Some number) first None second (Some theirs) third e is = absurd (None≢Some form e)
        by (Some number) first None second None third e is = absurd (None≢Some form e)
        by None first (Some from) second (Some theirs) third e is = absurd (None≢Some form e)
        by None first (Some from) second None third e is = absurd (None≢Some form e)
        by None first None second (Some theirs) third e is = absurd (None≢Some form e)
        by None first None second None third e is = absurd (None≢Some form e)

    three_files : (word a b c : List ℕ) (form : Form) (action : Action) → rules ≡ Openbsd → files_form word a b c ≡ Some form →
        action_of n form ≡ Ok action → SpellsAction rules (word ∷ a ∷ b ∷ c ∷ []) action
    three_files word a b c form action by_kernel = by (same_bytes word (codes "hold")) refl (same_bytes word (codes "take")) refl
      where
        by : (s : Bool) → same_bytes word (codes "hold") ≡ s → (t : Bool) → same_bytes word (codes "take") ≡ t
            → cond s (hold_form (descriptor_in a) (open_named b) c)
            (cond t (take_form (descriptor_in a) (number_in b) (descriptor_in c)) None) ≡ Some form →
            action_of n form ≡ Ok action → SpellsAction rules (word ∷ a ∷ b ∷ c ∷ []) action
        by true w t _ e is = hold_read word a b c form action by_kernel (same_word word (codes "hold") w) e is
        by false _ true w e is = take_read word a b c form action by_kernel (same_word word (codes "take") w) e is
        by false _ false _ e is = absurd (None≢Some form e)

    -- by the standard rules there is no such line
    openbsd_form : (named : Rules) (o : Option Form) (form : Form) → if_openbsd named o ≡ Some form → (named ≡ Openbsd) × (o ≡ Some form)
    openbsd_form Standard o form e = absurd (None≢Some form e)
    openbsd_form Openbsd o form e = (refl, e)

    one_argument : (word a : List ℕ) (form : Form) (action : Action) → form_of rules word (a ∷ []) ≡ Some form → action_of n form ≡ Ok action →
        SpellsAction rules (word ∷ a ∷ []) action
    one_argument word a form action = by (same_bytes word (codes "fork")) refl (asks_promises rules word) refl
      where
        by : (s : Bool) → same_bytes word (codes "fork") ≡ s → (u : Bool) → asks_promises rules word ≡ u
            → cond s (option_map ForkForm (number_within 1 999999 a)) (cond u (Some (UsesForm a))
            (option_or (option_map (λ c. PathForm c a) (only_if (λ c. not (is_symlink c)) (call_asked_by rules word)))
            (if_openbsd rules (file_form word a)))) ≡ Some form →
            action_of n form ≡ Ok action → SpellsAction rules (word ∷ a ∷ []) action
        by true w u _ e is =
            let number = mapped ForkForm (number_within 1 999999 a) form e in
            let read = number_read 1 999999 a number.0 (lit< tt) number.1 in
            subst (SpellsAction rules (word ∷ a ∷ [])) (same_Ok (Fork number.0) action (ap (action_of n) number.2 ∙ is))
            (fork (same_word word (codes "fork") w) read.0 read.1 read.2)
        by false w true u e is =
            uses_form word a action (uses_named rules word u) (ap (action_of n) (same_Some (UsesForm a) form e) ∙ is)
        by false w false u e is = called (only_if (λ c. not (is_symlink c)) (call_asked_by rules word)) refl e is
          where
            called : (o : Option Call) → only_if (λ c. not (is_symlink c)) (call_asked_by rules word) ≡ o →
                option_or (option_map (λ c. PathForm c a) o) (if_openbsd rules (file_form word a)) ≡ Some form → action_of n form ≡ Ok action →
                SpellsAction rules (word ∷ a ∷ []) action
            called (Some c) named e is =
                let read = only_if_read (λ c. not (is_symlink c)) (call_asked_by rules word) c named in
                path_form word a c action (not-true (is_symlink c) read.1) read.0 (ap (action_of n) (same_Some (PathForm c a) form e) ∙ is)
            called None named e is =
                let both = openbsd_form rules (file_form word a) form e in one_file word a form action both.0 both.1 is

    two_arguments : (word a b : List ℕ) (form : Form) (action : Action) → form_of rules word (a ∷ b ∷ []) ≡ Some form →
        action_of n form ≡ Ok action → SpellsAction rules (word ∷ a ∷ b ∷ []) action
    two_arguments word a b form action =
        by (same_bytes word (codes "symlink")) refl (same_bytes word (codes "rename")) refl (same_bytes word (codes "link")) refl
        (same_bytes word (codes "pledge")) refl (same_bytes word (codes "unveil")) refl
      where
        by : (s : Bool) → same_bytes word (codes "symlink") ≡ s → (r : Bool) → same_bytes word (codes "rename") ≡ r → (l : Bool) →
            same_bytes word (codes "link") ≡ l → (p : Bool) → same_bytes word (codes "pledge") ≡ p → (u : Bool) →
            same_bytes word (codes "unveil") ≡ u
            → cond s (Some (SymlinkForm a b))
            (cond r (Some (RenameForm a b))
            (cond l (Some (LinkForm a b)) (cond p (Some (PledgeForm a b)) (cond u (Some (UnveilForm a b)) None)))) ≡ Some form →
            action_of n form ≡ Ok action → SpellsAction rules (word ∷ a ∷ b ∷ []) action
        by true w r _ l _ p _ u _ e is =
            symlink_form word a b action (same_word word (codes "symlink") w) (ap (action_of n) (same_Some (SymlinkForm a b) form e) ∙ is)
        by false _ true w l _ p _ u _ e is =
            rename_form word a b action (same_word word (codes "rename") w) (ap (action_of n) (same_Some (RenameForm a b) form e) ∙ is)
        by false _ false _ true w p _ u _ e is =
            link_form word a b action (same_word word (codes "link") w) (ap (action_of n) (same_Some (LinkForm a b) form e) ∙ is)
        by false _ false _ false _ true w u _ e is =
            pledge_form word a b action (same_word word (codes "pledge") w) (ap (action_of n) (same_Some (PledgeForm a b) form e) ∙ is)
        by false _ false _ false _ false _ true w e is =
            unveil_form word a b action (same_word word (codes "unveil") w) (ap (action_of n) (same_Some (UnveilForm a b) form e) ∙ is)
        by false _ false _ false _ false _ false w e is = absurd (None≢Some form e)

    pub action_read : (more : List (List ℕ)) (form : Form) (action : Action) → form_in rules more ≡ Some form → action_of n form ≡ Ok action →
        SpellsAction rules more action
    action_read [] form action e is = absurd (None≢Some form e)
    action_read (word ∷ []) form action e is =
        let both = guarded (same_bytes word (codes "exit")) ExitForm form e in
        subst (SpellsAction rules (word ∷ [])) (same_Ok Exit action (ap (action_of n) both.1 ∙ is)) (exit (same_word word (codes "exit") both.0))
    action_read (word ∷ a ∷ []) form action e is = one_argument word a form action e is
    action_read (word ∷ a ∷ b ∷ []) form action e is = two_arguments word a b form action e is
    action_read (word ∷ a ∷ b ∷ c ∷ []) form action e is =
        let both = openbsd_form rules (files_form word a b c) form e in three_files word a b c form action both.0 both.1 is
    action_read (word ∷ a ∷ b ∷ c ∷ d ∷ more) form action e is = absurd (None≢Some form e)

    -- the form that fields have, and what it asks for
    abbrev Reads : List (List ℕ) → Action → Type 0
    Reads more action = (form : Form) × (form_in rules more ≡ Some form) × (action_of n form ≡ Ok action)

    paths_told : (make : List ℕ → List ℕ → Action) (a b x y : List ℕ) → SpellsPath a x → SpellsPath b y →
        with_paths n make a b ≡ Ok (make x y)
    paths_told make a b x y first second =
        ap (λ o. ok_or o (BadPath n) >>= λ v. ok_or (path_in b) (BadPath n) >>= λ w. Ok (make v w)) (path_told a x first)
        ∙ ap (λ o. ok_or o (BadPath n) >>= λ w. Ok (make x w)) (path_told b y second)

    descriptor_told : (field : List ℕ) (number : ℕ) → SpellsDescriptor field number → descriptor_in field ≡ Some number
    descriptor_told field number spells =
        ap descriptor_in spells.is ∙ decimal_within 0 1023 number (omega arith) spells.high (omega (arith, spells.high))

    action_told : (more : List (List ℕ)) (action : Action) → SpellsAction rules more action → Reads more action
    action_told _ _ (on_path {word = word} {a = a} {path = path} {call = c} other there spells) = (
      PathForm c a,
      form_of_call word c a other there,
      ap (λ o. ok_or o (BadPath n) >>= λ p. Ok (OnPath c p)) (path_told a path spells),
    )
    action_told _ _ (symlink {a = a} {b = b} {target = x} {path = y} named first second) =
        (SymlinkForm a b, ap (λ w. form_of rules w (a ∷ b ∷ [])) named, paths_told Symlink a b x y first second)
    action_told _ _ (rename {a = a} {b = b} {old = x} {new = y} named first second) =
        (RenameForm a b, ap (λ w. form_of rules w (a ∷ b ∷ [])) named, paths_told Rename a b x y first second)
    action_told _ _ (link {a = a} {b = b} {old = x} {new = y} named first second) =
        (LinkForm a b, ap (λ w. form_of rules w (a ∷ b ∷ [])) named, paths_told Link a b x y first second)
    action_told _ _ (pledge {a = a} {b = b} {promises = p} {execpromises = x} named first second) = (
      PledgeForm a b,
      ap (λ w. form_of rules w (a ∷ b ∷ [])) named,
      ap (λ o. ok_or o (BadList n) >>= λ v. ok_or (given_in b) (BadList n) >>= λ w. Ok (Pledge v w)) (given_told a p first)
          ∙ ap (λ o. ok_or o (BadList n) >>= λ w. Ok (Pledge p w)) (given_told b x second),
    )
    action_told _ _ (unveil {a = a} {b = b} {path = path} {perms = perms} named no_a no_b first second) = (
      UnveilForm a b,
      ap (λ w. form_of rules w (a ∷ b ∷ [])) named,
      ap (λ s. cond s (cond (is_dash b) (Ok Lock) (Err (BadList n))) (ok_or (path_in a) (BadPath n) >>= λ text. cond (is_dash b)
          (Err (BadList n)) (Ok (Unveil text (perms_in b))))) (other_word a (codes "-") no_a)
          ∙ ap (λ o. ok_or o (BadPath n) >>= λ text. cond (is_dash b) (Err (BadList n)) (Ok (Unveil text (perms_in b))))
          (path_told a path first)
          ∙ ap (λ t. cond t (Err (BadList n)) (Ok (Unveil path (perms_in b)))) (other_word b (codes "-") no_b)
          ∙ ap (λ v. Ok (Unveil path v)) (perms_told b perms second),
    )
    action_told _ _ (lock {a = a} {b = b} named first second) =
        (UnveilForm a b, ap (λ w. form_of rules w (a ∷ b ∷ [])) named, (λ i. unveil_of n (first i) (second i)))
    action_told _ _ (fork {a = a} {new = new} named first low high) = (
      ForkForm new,
      ap (λ w. form_of rules w (a ∷ [])) named ∙ ap (λ f. option_map ForkForm (number_within 1 999999 f)) first ∙
          ap (option_map ForkForm) (decimal_within 1 999999 new low high (below new high)),
      refl,
    )
      where
        below : (new : ℕ) → new ≤ 999999 → new < 18446744073709551616
        below new high = omega (arith, high)
    action_told _ _ (exit named) = (ExitForm, ap (λ w. form_of rules w []) named, refl)
    action_told _ _ (uses {a = a} {sets = sets} there named spells) = (
      UsesForm a,
      (λ i. form_of (there i) (named i) (a ∷ [])),
      ap (λ r. r >>= λ sets. Ok (Uses sets)) (sets_told n [] (slice_split (λ b. eqb b 124) a) sets spells),
    )
    action_told _ _ (hold {a = a} {b = b} {c = c} {path = path} {number = number} {call = call} there named first opens second third) = (
      HoldForm number call c,
      (λ i. form_of (there i) (named i) (a ∷ b ∷ c ∷ []))
          ∙ ap (λ o. hold_form o (open_named b) c) (descriptor_told a number first)
          ∙ ap (λ o. hold_form (Some number) (only_if is_open o) c) second
          ∙ ap (λ s. hold_form (Some number) (cond s (Some call) None) c) opens,
      ap (λ o. ok_or o (BadPath n) >>= λ p. Ok (Hold number call p)) (path_told c path third),
    )
    action_told _ _ (close {a = a} {number = number} there named first) = (
      CloseForm number,
      (λ i. form_of (there i) (named i) (a ∷ [])) ∙ ap (option_map CloseForm) (descriptor_told a number first),
      refl,
    )
    action_told _ _ (fchdir {a = a} {number = number} there named first) = (
      FchdirForm number,
      (λ i. form_of (there i) (named i) (a ∷ [])) ∙ ap (option_map FchdirForm) (descriptor_told a number first),
      refl,
    )
    action_told _ _ (chroot {a = a} {path = path} there named first) = (
      ChrootForm a,
      (λ i. form_of (there i) (named i) (a ∷ [])),
      ap (λ o. ok_or o (BadPath n) >>= λ p. Ok (Chroot p)) (path_told a path first),
    )
    action_told _ _ (taken {a = a} {b = b} {c = c} {number = number} {from = from} {theirs = theirs} there named first second low high third) = (
      TakeForm number from theirs,
      (λ i. form_of (there i) (named i) (a ∷ b ∷ c ∷ []))
          ∙ ap (λ o. take_form o (number_in b) (descriptor_in c)) (descriptor_told a number first)
          ∙ ap (λ o. take_form (Some number) o (descriptor_in c)) (ap number_in second ∙ decimal_within 1 999999 from low high (omega (arith, high)))
          ∙ ap (λ o. take_form (Some number) (Some from) o) (descriptor_told c theirs third),
      refl,
    )

  request_read : (n : ℕ) (line : List ℕ) (ask : Asked) → request_of_text rules n line ≡ Ok ask → SpellsRequest rules line ask
  request_read n line ask = by (list_all is_field (fields line)) refl (fields line) refl
    where
      split : (process : List ℕ) (more : List (List ℕ)) → IsTrue (list_all is_field (fields line)) → fields line ≡ process ∷ more →
          request_of_fields rules n (process ∷ more) ≡ Ok ask → SpellsRequest rules line ask
      split process more visible are e =
          let number = step_read (ok_or (number_within 1 999999 process) (BadLine n))
          (λ m. action_in rules n more >>= λ action. Ok (record { process = m; action = action })) ask e in
          let action = step_read (action_in rules n more) (λ action. Ok (record { process = number.0; action = action })) ask number.2 in
          let form = step_read (ok_or (form_in rules more) (BadCall n)) (action_of n) action.0 action.1 in
          let read = number_read 1 999999 process number.0 (lit< tt) (ok_or_read _ (BadLine n) number.0 number.1) in
          subst (SpellsRequest rules line) (same_Ok (record { process = number.0; action = action.0 }) ask action.2) (record {
            visible = visible;
            more = more;
            split = are ∙ ap (λ p. p ∷ more) read.0;
            low = read.1;
            high = read.2;
            spells = action_read n more form.0 action.0 (ok_or_read _ (BadCall n) form.0 form.1) form.2;
          })

      by : (s : Bool) → list_all is_field (fields line) ≡ s → (fs : List (List ℕ)) → fields line ≡ fs →
          cond s (request_of_fields rules n fs) (Err (BadLine n)) ≡ Ok ask → SpellsRequest rules line ask
      by true visible [] are e = absurd (Err≢Ok (BadLine n) ask e)
      by true visible (process ∷ more) are e = split process more visible are e
      by false visible fs are e = absurd (Err≢Ok (BadLine n) ask e)

  request_told : (n : ℕ) (line : List ℕ) (ask : Asked) → SpellsRequest rules line ask → request_of_text rules n line ≡ Ok ask
  request_told n line ask spells =
      let reads = action_told n spells.more ask.action spells.spells in
      ap (λ s. cond s (request_of_fields rules n (fields line)) (Err (BadLine n))) spells.visible
      ∙ ap (request_of_fields rules n) spells.split
      ∙ ap (λ o. ok_or o (BadLine n) >>= λ m. action_in rules n spells.more >>= λ action. Ok (record { process = m; action = action }))
      (decimal_within 1 999999 ask.process spells.low spells.high (omega (arith, spells.high)))
      ∙ ap (λ o. (ok_or o (BadCall n) >>= action_of n) >>= λ action. Ok (record { process = ask.process; action = action })) reads.1
      ∙ ap (λ r. r >>= λ action. Ok (record { process = ask.process; action = action })) reads.2

  -- a line's text, which may be none
  pub line_read : (n : ℕ) (line : List ℕ) (ask : Asked) → request_by rules n line ≡ Ok ask → SpellsLine rules line ask
  line_read n line ask = by (is_blank rules (text_in rules line)) refl
    where
      by : (b : Bool) → is_blank rules (text_in rules line) ≡ b → cond b (Ok comment) (request_of_text rules n (text_in rules line)) ≡ Ok ask →
          SpellsLine rules line ask
      by true none e = subst (SpellsLine rules line) (same_Ok comment ask e) (blank none)
      by false some e = request (request_read n (text_in rules line) ask e)

  no_text : (named : Rules) (text : List ℕ) → IsTrue (list_all is_field (fields text)) → is_blank named text ≡ false
  no_text Standard text visible = refl
  no_text Openbsd [] visible = absurd (false≢true visible)
  no_text Openbsd (b ∷ more) visible = by (eqb b 32) refl
    where
      by : (blank : Bool) → eqb b 32 ≡ blank → (eqb b 32 && list_all (λ c. eqb c 32) more) ≡ false
      by true e = absurd (false≢true (sym (ap (λ t. list_all is_field (cond t ([] ∷ fields more) (onto_first b (fields more)))) e) ∙ visible))
      by false e = ap (λ t. t && list_all (λ c. eqb c 32) more) e

  line_told : (n : ℕ) (line : List ℕ) (ask : Asked) → SpellsLine rules line ask → request_by rules n line ≡ Ok ask
  line_told n line _ (blank none) = ap (λ b. cond b (Ok comment) (request_of_text rules n (text_in rules line))) none
  line_told n line ask (request spells) =
      ap (λ b. cond b (Ok comment) (request_of_text rules n (text_in rules line))) (no_text rules (text_in rules line) spells.visible)
      ∙ request_told n (text_in rules line) ask spells

  requests_read : (n : ℕ) (texts : List (List ℕ)) (asks : List Asked) → requests_of rules n texts ≡ Ok asks → SpellRequests rules texts asks
  requests_read n [] [] e = tt
  requests_read n [] (ask ∷ asks) e = cc
  requests_read n (text ∷ texts) asks e =
      let first = step_read (request_by rules n text) (λ request. requests_of rules (suc n) texts >>= λ requests. Ok (request ∷ requests)) asks e in
      let rest = step_read (requests_of rules (suc n) texts) (λ requests. Ok (first.0 ∷ requests)) asks first.2 in
      subst (SpellRequests rules (text ∷ texts)) (same_Ok (first.0 ∷ rest.0) asks rest.2) (
        line_read n text first.0 first.1,
        requests_read (suc n) texts rest.0 rest.1,
      )

  requests_told : (n : ℕ) (texts : List (List ℕ)) (asks : List Asked) → SpellRequests rules texts asks → requests_of rules n texts ≡ Ok asks
  requests_told n [] [] spells = refl
  requests_told n [] (ask ∷ asks) spells = absurd spells
  requests_told n (text ∷ texts) [] spells = absurd spells
  requests_told n (text ∷ texts) (ask ∷ asks) spells =
      ap (λ r. r >>= λ request. requests_of rules (suc n) texts >>= λ requests. Ok (request ∷ requests)) (line_told n text ask spells.0)
      ∙ ap (λ r. r >>= λ requests. Ok (ask ∷ requests)) (requests_told (suc n) texts asks spells.1)

  -- a script with at most so many lines
  abbrev within : ℕ → List (List ℕ) → Result (List Asked) ScriptFault
  within limit texts = requests_of rules 1 (take limit texts) >>= λ requests. cond (nat_lt limit (length texts)) (Err TooMany) (Ok requests)

  within_read : (limit : ℕ) (texts : List (List ℕ)) (asks : List Asked) → within limit texts ≡ Ok asks →
      (length texts ≤ limit) × SpellRequests rules texts asks
  within_read limit texts asks e =
      let requests = step_read (requests_of rules 1 (take limit texts)) (λ requests. cond (nat_lt limit (length texts)) (Err TooMany) (Ok requests))
      asks e in
      by (nat_lt limit (length texts)) refl requests.0 requests.1 requests.2
    where
      by : (s : Bool) → nat_lt limit (length texts) ≡ s → (found : List Asked) → requests_of rules 1 (take limit texts) ≡ Ok found →
          cond s (Err TooMany) (Ok found) ≡ Ok asks → (length texts ≤ limit) × SpellRequests rules texts asks
      by true s found are is = absurd (Err≢Ok TooMany asks is)
      by false s found are is =
          let short = ltb-false limit (length texts) s in
          (short, requests_read 1 texts asks (ap (requests_of rules 1) (sym (take_all limit texts short)) ∙ are ∙ is))

  within_told : (limit : ℕ) (texts : List (List ℕ)) (asks : List Asked) → length texts ≤ limit → SpellRequests rules texts asks →
      within limit texts ≡ Ok asks
  within_told limit texts asks short spells =
      ap (λ r. r >>= λ requests. cond (nat_lt limit (length texts)) (Err TooMany) (Ok requests))
      (ap (requests_of rules 1) (take_all limit texts short) ∙ requests_told 1 texts asks spells)
      ∙ ap (λ s. cond s (Err TooMany) (Ok asks)) (le-ltb limit (length texts) short)

  pub scripts_are_read : ScriptsAreRead rules
  scripts_are_read bytes asks = (within_read 60000 (lines bytes) asks, λ is. within_told 60000 (lines bytes) asks is.0 is.1)

-- what spells an action is bytes
path_bytes : (field text : List ℕ) → SpellsPath field text → is_bytes text ≡ true
path_bytes _ _ (empty is) = refl
path_bytes _ _ (spelled other bytes no_nul is) = bytes

pub action_bytes : (rules : Rules) (more : List (List ℕ)) (action : Action) → SpellsAction rules more action → is_in_bytes action ≡ true
action_bytes _ _ _ (on_path {a = a} {path = path} other there spells) = path_bytes a path spells
action_bytes _ _ _ (symlink {a = a} {b = b} {target = x} {path = y} named first second) =
    and_from _ _ (path_bytes a x first) (path_bytes b y second)
action_bytes _ _ _ (rename {a = a} {b = b} {old = x} {new = y} named first second) =
    and_from _ _ (path_bytes a x first) (path_bytes b y second)
action_bytes _ _ _ (link {a = a} {b = b} {old = x} {new = y} named first second) = and_from _ _ (path_bytes a x first) (path_bytes b y second)
action_bytes _ _ _ (pledge named first second) = refl
action_bytes _ _ _ (unveil {a = a} {path = path} named no_a no_b first second) = path_bytes a path first
action_bytes _ _ _ (lock named first second) = refl
action_bytes _ _ _ (fork named first low high) = refl
action_bytes _ _ _ (exit named) = refl
action_bytes _ _ _ (uses there named spells) = refl
action_bytes _ _ _ (hold {c = c} {path = path} there named first opens second third) = path_bytes c path third
action_bytes _ _ _ (close there named first) = refl
action_bytes _ _ _ (fchdir there named first) = refl
action_bytes _ _ _ (chroot {a = a} {path = path} there named first) = path_bytes a path first
action_bytes _ _ _ (taken there named first second low high third) = refl
