-- A line with the bytes of an earlier one asks the same, so its question stands at the same place.
use Rattle.pua_since.proofs.Common.{◌≡◌, ℕ, Bool, true, false, List, [], ◌∷◌, ◌++◌, refl, sym, ap, subst, ◌∙◌, arith, Option, Some, None}
use Rattle.pua_since.proofs.Common.{Result, Ok, Err, if◌then◌else◌, Bor, Asked, Action, Symlink, Rename, Link, Unveil, Lock, IsRequestAt}
use Rattle.pua_since.proofs.Common.{IsKeptThrough, Watch}
use Rattle.std.proofs.Common.{All}
use Rattle.std.specs.Prelude.{◌==◌, ok_or}
use Rattle.std.specs.Map.{lookup}
use Rattle.std.proofs.lemmas.List.Elements.{All-head, All-tail, All-push, All-weaker}
use Rattle.std.specs.List.{list_all, slice_split}
use Rattle.std.specs.Result.{result_ok}
use Rattle.pua_tree.specs.Spelling.{fields, is_field, number_within}
use Rattle.pua_tree.specs.Steps.{◌>>=◌}
use Rattle.pua_calls.specs.declared.rules.Rules.{Rules}
use Rattle.pua_script.specs.Limits.{most_number}
use Rattle.pua_script.specs.Scripts.{Form, PathForm, SymlinkForm, RenameForm, LinkForm, PledgeForm, UnveilForm, ForkForm, ExitForm}
use Rattle.pua_script.specs.Scripts.{UsesForm, HoldForm, CloseForm, FchdirForm, ChrootForm, TakeForm, further_set, sets_of}
use Rattle.pua_script.specs.Scripts.{action_of, form_in, given_in, is_dash, path_in, perms_in, request_by, request_of_fields, unveil_of}
use Rattle.pua_script.specs.Requests.{comment}
use Rattle.pua_script.specs.Scripts.{with_paths, is_blank, text_in, request_of_text}
use Rattle.pua_script.specs.declared.fault.ScriptFault.{ScriptFault}
use Rattle.pua_script.specs.declared.fault.ScriptFault.TheVariants.{BadLine, BadCall, BadPath, BadList}
use Rattle.pua_since.specs.Dates.{AreKnown, IsLineKnown}
use Rattle.pua_since.proofs.Keeping.{request_kept}

-- both read the same, or nothing
abbrev SameOk : {A : Type 0} → Result A ScriptFault → Result A ScriptFault → Type 0
SameOk r s = result_ok r ≡ result_ok s

same_found : {A : Type 0} (o : Option A) (e f : ScriptFault) → SameOk (ok_or o e) (ok_or o f)
same_found None e f = refl
same_found (Some x) e f = refl

same_then : {A B : Type 0} (r s : Result A ScriptFault) (g h : A → Result B ScriptFault) → SameOk r s → ((x : A) → SameOk (g x) (h x)) →
    SameOk (r >>= g) (s >>= h)
same_then {A = A} (Ok x) (Ok y) g h e so = so x ∙ ap (λ o. result_ok (h o)) (inside x y e)
  where
    inside : (a b : A) → result_ok {T = A} {E = ScriptFault} (Ok a) ≡ result_ok {T = A} {E = ScriptFault} (Ok b) → a ≡ b
    inside a b is = cc
same_then (Ok x) (Err f) g h e so = cc
same_then (Err f) (Ok x) g h e so = cc
same_then (Err e) (Err f) g h same so = refl

module _ (rules : Rules) (n m : ℕ) where
  same_paths : (make : List ℕ → List ℕ → Action) (a b : List ℕ) → SameOk (with_paths n make a b) (with_paths m make a b)
  same_paths make a b =
      same_then _ _ _ _ (same_found (path_in a) (BadPath n) (BadPath m)) λ first. same_then _ _ _ _
      (same_found (path_in b) (BadPath n) (BadPath m)) λ second. refl

  same_unveil : (path perms : List ℕ) → SameOk (unveil_of n path perms) (unveil_of m path perms)
  same_unveil path perms = by (is_dash path) (is_dash perms)
    where
      letters : (none : Bool) (text : List ℕ) →
          SameOk (if none then Err (BadList n) else Ok (Unveil text (perms_in perms)))
          (if none then Err (BadList m) else Ok (Unveil text (perms_in perms)))
      letters true text = refl
      letters false text = refl

      by : (a b : Bool) → SameOk (if a then (if b then Ok Lock else Err (BadList n)) else (ok_or (path_in path) (BadPath n) >>= λ text. if b
          then Err (BadList n) else Ok (Unveil text (perms_in perms))))
          (if a then (if b then Ok Lock else Err (BadList m)) else (ok_or (path_in path) (BadPath m) >>= λ text. if b then Err (BadList m)
          else Ok (Unveil text (perms_in perms))))
      by true true = refl
      by true false = refl
      by false b = same_then _ _ _ _ (same_found (path_in path) (BadPath n) (BadPath m)) (letters b)

  same_sets : (before : List ℕ) (words : List (List ℕ)) → SameOk (sets_of n before words) (sets_of m before words)
  same_sets before [] = refl
  same_sets before (word ∷ words) =
      same_then _ _ _ _ (same_found (further_set before word) (BadList n) (BadList m)) λ set. same_sets (before ++ set ∷ []) words

  same_action : (form : Form) → SameOk (action_of n form) (action_of m form)
  same_action (PathForm call a) = same_then _ _ _ _ (same_found (path_in a) (BadPath n) (BadPath m)) λ path. refl
  same_action (SymlinkForm a b) = same_paths Symlink a b
  same_action (RenameForm a b) = same_paths Rename a b
  same_action (LinkForm a b) = same_paths Link a b
  same_action (PledgeForm a b) =
      same_then _ _ _ _ (same_found (given_in a) (BadList n) (BadList m)) λ promises. same_then _ _ _ _
      (same_found (given_in b) (BadList n) (BadList m)) λ execpromises. refl
  same_action (UnveilForm a b) = same_unveil a b
  same_action (ForkForm new) = refl
  same_action ExitForm = refl
  same_action (UsesForm a) = same_then _ _ _ _ (same_sets [] (slice_split (λ b. b == 124) a)) λ sets. refl
  same_action (HoldForm number call a) = same_then _ _ _ _ (same_found (path_in a) (BadPath n) (BadPath m)) λ path. refl
  same_action (CloseForm number) = refl
  same_action (FchdirForm number) = refl
  same_action (ChrootForm a) = same_then _ _ _ _ (same_found (path_in a) (BadPath n) (BadPath m)) λ path. refl
  same_action (TakeForm number from theirs) = refl

  same_fields : (fs : List (List ℕ)) → SameOk (request_of_fields rules n fs) (request_of_fields rules m fs)
  same_fields [] = refl
  same_fields (process ∷ more) =
      same_then _ _ _ _ (same_found (number_within 1 most_number process) (BadLine n) (BadLine m)) λ number.
      same_then _ _ _ _ (same_then _ _ _ _ (same_found (form_in rules more) (BadCall n) (BadCall m)) same_action) λ action. refl

  same_text : (text : List ℕ) → SameOk (request_of_text rules n text) (request_of_text rules m text)
  same_text text = by (list_all is_field (fields text))
    where
      by : (good : Bool) → SameOk (if good then request_of_fields rules n (fields text) else Err (BadLine n))
          (if good then request_of_fields rules m (fields text) else Err (BadLine m))
      by true = same_fields (fields text)
      by false = refl

  same_request : (line : List ℕ) → SameOk (request_by rules n line) (request_by rules m line)
  same_request line = by (is_blank rules (text_in rules line))
    where
      by : (none : Bool) → SameOk (if none then Ok comment else request_of_text rules n (text_in rules line))
          (if none then Ok comment else request_of_text rules m (text_in rules line))
      by true = refl
      by false = same_text (text_in rules line)

-- a line asks the same wherever it stands
pub asks_same : (rules : Rules) (n m : ℕ) (text : List ℕ) (a b : Asked) → request_by rules n text ≡ Ok a → request_by rules m text ≡ Ok b → a ≡ b
asks_same rules n m text a b read again = by (sym (ap result_ok read) ∙ same_request rules n m text ∙ ap result_ok again)
  where
    by : result_ok {T = Asked} {E = ScriptFault} (Ok a) ≡ result_ok {T = Asked} {E = ScriptFault} (Ok b) → a ≡ b
    by e = cc

-- what is so of each line is so of the one that is found
found_one : {A : Type 0} (P : A × ℕ → Type 0) (test : A → Bool) (lines : List (A × ℕ)) (place : ℕ) → All P lines →
    lookup test lines ≡ Some place → (line : A) × (test line ≡ true) × P (line, place)
found_one P test [] place all e = cc
found_one {A = A} P test (line ∷ lines) place all e = by (test line.0) refl e (found_one P test lines place (All-tail P line lines all))
  where
    inside : (a b : ℕ) → Some a ≡ Some b → a ≡ b
    inside a b is = cc

    by : (b : Bool) → test line.0 ≡ b → (if b then Some line.1 else lookup test lines) ≡ Some place →
        (lookup test lines ≡ Some place → (other : A) × (test other ≡ true) × P (other, place)) →
        (other : A) × (test other ≡ true) × P (other, place)
    by true passes e later = (line.0, passes, subst (λ at. P (line.0, at)) (inside line.1 place e) (All-head P line lines all))
    by false passes e later = later e

abbrev IsSameLine : (Bor (List ℕ) → Bool) → List ℕ → Type 0
IsSameLine test line = (other : Bor (List ℕ)) → test other ≡ true → line ≡ other.now

pub found_request : (rules : Rules) (watches : List Watch) (test : Bor (List ℕ) → Bool) (line : List ℕ) → IsSameLine test line →
    (lines : List (Bor (List ℕ) × ℕ)) (place n : ℕ) (ask : Asked) → AreKnown rules watches lines → lookup test lines ≡ Some place
    → request_by rules n line ≡ Ok ask → IsRequestAt watches place ask 0
found_request rules watches test line same lines place n ask known found read =
    let other = found_one (IsLineKnown rules watches) test lines place known found in
    let known_as = other.2 in
    subst (λ asked. IsRequestAt watches place asked 0)
    (asks_same rules known_as.0 n other.0.now known_as.1 ask known_as.2 (ap (request_by rules n) (sym (same other.0 other.1)) ∙ read)) known_as.3

-- what is known stays so
one_known : (rules : Rules) (old new : List Watch) → IsKeptThrough old new → (line : Bor (List ℕ) × ℕ) → IsLineKnown rules old line →
    IsLineKnown rules new line
one_known rules old new kept line known = (known.0, known.1, known.2, request_kept old new line.1 known.1 0 kept known.3)

pub known_kept : (rules : Rules) (old new : List Watch) → IsKeptThrough old new → (lines : List (Bor (List ℕ) × ℕ)) →
    AreKnown rules old lines → AreKnown rules new lines
known_kept rules old new kept lines known =
    All-weaker (IsLineKnown rules old) (IsLineKnown rules new) (one_known rules old new kept) lines known

-- a request that is wanted somewhere is one
pub request_wanted : (watches : List Watch) (place : ℕ) (ask : Asked) (lines : ℕ) → IsRequestAt watches place ask lines →
    IsRequestAt watches place ask 0
request_wanted watches place ask lines at = record {
  question = at.question;
  stands = record {
    watch = at.stands.watch;
    stands = at.stands.stands;
    about = at.stands.about;
    asks = at.stands.asks;
    wanted = omega arith;
  };
  asks = at.asks;
}

-- a further line
pub known_more : (rules : Rules) (watches : List Watch) (lines more : List (Bor (List ℕ) × ℕ)) (line : Bor (List ℕ)) (place n : ℕ) (ask : Asked) →
    more ≡ lines ++ (line, place) ∷ [] → AreKnown rules watches lines → request_by rules n line.now ≡ Ok ask → IsRequestAt watches place ask 0 →
    AreKnown rules watches more
known_more rules watches lines more line place n ask pushed known read at =
    subst (AreKnown rules watches) (sym pushed) (All-push (IsLineKnown rules watches) lines (line, place) known (n, ask, read, at))
