-- A word is judged by its path as it is judged letter by letter.
use Rattle.pua_audit.proofs.Common.{◌≡◌, ℕ, zero, suc, Bool, true, false, cond, List, [], ◌∷◌, length, map, refl, sym, ap, ◌∙◌, arith, ◌-◌}
use Rattle.pua_audit.proofs.Common.{◌*◌, ◌≤◌, Ok, Err, filter, AllByRecursion, Tree, WellFormed, is_dir, ◌>>=◌, part_of, is_absolute}
use Rattle.pua_audit.proofs.Common.{Ending, Followed, Top, Whole, Slot, CallTable, rule_of, last_of, calls, ProcessState, may_any, is_ended}
use Rattle.pua_audit.proofs.Common.{verdict_of, is_allowed, Call, Word, Pair, Scope, words, pairs, from_root, path_of, is_reached, reach}
use Rattle.pua_audit.proofs.Common.{Start, Below, Judge, base_dir, state_of, judge_of, judge_for, reach_along, Base, Root, Cwd, longest}
use Rattle.pua_audit.proofs.Common.{seen_by, ◌==◌, ◌||◌, false≢true, eqb-true}
use Rattle.std.proofs.Common.{max, fold, mul-le-mul_right}
use Rattle.pua_path.specs.Resolution.{Resolved, resolve_parts, resolution_of_text, dir_with_links, has_root}
use Rattle.pua_path.specs.Laws.{Lands, onwards}
use Rattle.pua_path.proofs.ForCallers.{composes, resolutions_fit, seen_root_lives}
use Rattle.pua_path.specs.declared.errno.Errno.TheVariants.{ENOENT, ENOTDIR}
use Rattle.pua_path.specs.declared.text.Ending.TheVariants as ending
use Rattle.pua_path.specs.declared.found.Part.TheVariants as parts
use Rattle.pua_calls.specs.Calls.{ending_of}
use Rattle.pua_policy.specs.States.{root_dir}
use Rattle.pua_policy.specs.Verdict.{verdict_on, object_named}
use Rattle.pua_audit.specs.Judge.{base_way, if_some, is_allowed_along}
use Rattle.pua_audit.proofs.Paths.{IsPiece, IsPath, path_is, length_from_root}
use Rattle.pua_audit.proofs.Rising.{all_mapped, all_of}
use Rattle.pua_audit.proofs.Fresh.{refused}
use Rattle.pua_steps.proofs.ForCallers.{all_flat, all_weaker}

-- one who has ended is allowed nothing
ended : (t : Tree) (table : CallTable) (h : ProcessState) (call : Call) (r : _) → is_ended h ≡ true →
    is_allowed (verdict_of t table h call r) ≡ false
ended t table h call (Ok found) e = rw e refl
ended t table h call (Err errno) e = rw e refl

-- a root that lives was not removed
has_root_living : (t : Tree) (root : ℕ) → is_dir t root ≡ true → has_root t root ≡ true
has_root_living t root lives = by (root == 0)
  where
    by : (b : Bool) → (b || is_dir t root) ≡ true
    by true = refl
    by false = lives

-- nor is there a root that was removed
no_root : (t : Tree) (root : ℕ) → WellFormed t → is_dir t root ≡ false → has_root t root ≡ false
no_root t root fits gone = by (root == 0) refl
  where
    by : (b : Bool) → (root == 0) ≡ b → (b || is_dir t root) ≡ false
    by true e = absurd (false≢true (sym gone ∙ ap (is_dir t) (eqb-true root 0 e) ∙ fits.root))
    by false e = gone

module _ (t : Tree) (fits : WellFormed t) (table : CallTable) (base : Base) (h : ProcessState) where
  abbrev w : Judge
  w = judge_of t table base h

  -- the verdict on what was resolved
  abbrev judged : Call → Resolved → Bool
  judged c r = is_allowed (verdict_of t table h c (r >>= λ found. Ok found.0))

  left_again : (links : ℕ) → links ≤ 32 → 32 - (32 - links) ≡ links
  left_again links h = omega (arith, h)

  -- from a directory the parts behind the first are judged letter by letter
  along : (c : Call) (links dir : ℕ) (a : List ℕ) (word : Word) → links ≤ 32 → is_dir t dir ≡ true
      → judged c (resolve_parts links (seen_by t h) (last_of c) dir Top (map part_of (a ∷ word)))
      ≡ is_allowed_along w (Below (record { dir = dir; used = 32 - links }) a) word c
  along c links dir a [] le lives =
      ap (λ n. judged c (resolve_parts n (seen_by t h) (last_of c) dir Top (part_of a ∷ []))) (sym (left_again links le))
  along c links dir a (b ∷ word) le lives =
      ap (judged c) (composes (seen_by t h) (last_of c) links dir Top (part_of a ∷ []) (part_of b) (map part_of word))
      ∙ by (λ left next le here. along c left next b word le here)
      (resolve_parts links (seen_by t h) Followed dir Top (part_of a ∷ parts.Dot ∷ []))
      ((resolutions_fit (seen_by t h) fits (seen_root_lives t h.start fits)).parts links dir Followed (part_of a ∷ parts.Dot ∷ []) lives)
      ∙ ap (λ n. if_some (state_of (resolve_parts n (seen_by t h) Followed dir Top (part_of a ∷ parts.Dot ∷ []) >>= dir_with_links))
      (λ s. is_allowed_along w (Below s b) word c)) (sym (left_again links le))
    where
      by : ((left next : ℕ) → left ≤ 32 → is_dir t next ≡ true →
          judged c (resolve_parts left (seen_by t h) (last_of c) next Top (map part_of (b ∷ word)))
          ≡ is_allowed_along w (Below (record { dir = next; used = 32 - left }) b) word c)
          → (r : Resolved) → Lands (seen_by t h) Followed links r
          → judged c (r >>= onwards (seen_by t h) (last_of c) (map part_of (b ∷ word))) ≡ if_some (state_of (r >>= dir_with_links))
          (λ s. is_allowed_along w (Below s b) word c)
      by on (Ok (Whole next way, left)) is = on left next (omega (arith, is.1, le)) is.0.fits
      by on (Ok (Slot at name _, left)) is = refused (may_any h (rule_of table c).alternatives) ENOTDIR
      by on (Err errno) is = refused (may_any h (rule_of table c).alternatives) errno

  module _ (lives : is_dir t (base_dir base h) ≡ true) where
    -- what a word with a letter names
    named : (c : Call) (a : List ℕ) (word : Word) → IsPath base (path_of base (a ∷ word)) (a ∷ word)
        → object_named t h c (path_of base (a ∷ word))
        ≡ (resolve_parts 32 (seen_by t h) (last_of c) (base_dir base h) Top (map part_of (a ∷ word)) >>= λ found. Ok found.0)
    named c a word is = start base lives is.absolute
      where
        start : (b : Base) → is_dir t (base_dir b h) ≡ true → is_absolute (path_of base (a ∷ word)) ≡ (elim b [ Root ↦ true | Cwd ↦ false ])
            → object_named t h c (path_of base (a ∷ word))
            ≡ (resolve_parts 32 (seen_by t h) (last_of c) (base_dir b h) Top (map part_of (a ∷ word)) >>= λ found. Ok found.0)
        start Root here e = rw (is.fault, e, has_root_living t (root_dir h) here, is.parts (ending_of c)) refl
        start Cwd here e = rw (is.fault, e, here, is.parts (ending_of c)) refl

    -- what the base itself names
    base_named : (c : Call) → object_named t h c (path_of base []) ≡ Ok (Whole (base_dir base h) (base_way base))
    base_named c = at base lives (ending_of c)
      where
        at : (b : Base) → is_dir t (base_dir b h) ≡ true → (e : Ending) →
            resolution_of_text t h.start e (path_of b []) (last_of c) ≡ Ok (Whole (base_dir b h) (base_way b))
        at Root here ending.Dot = rw (has_root_living t (root_dir h) here) refl
        at Root here ending.Dropped = rw (has_root_living t (root_dir h) here) refl
        at Cwd here ending.Dot = rw here refl
        at Cwd here ending.Dropped = rw here refl

    -- a word is judged as its letters are
    pub judged_along : (c : Call) (word : Word) → AllByRecursion IsPiece word → length (from_root word) ≤ 1023
        → is_allowed (verdict_on t table h c (path_of base word)) ≡ is_allowed_along w Start word c
    judged_along c [] all short = ap (λ r. is_allowed (verdict_of t table h c r)) (base_named c)
    judged_along c (a ∷ word) all short =
        ap (λ r. is_allowed (verdict_of t table h c r)) (named c a word (path_is base a word all.0 all.1 short))
        ∙ along c 32 (base_dir base h) a word (omega arith) lives

-- what a filter keeps depends on what the test says of each member
pub filter_alike : {A : Type 0} (f g : A → Bool) (xs : List A) → AllByRecursion (λ x. f x ≡ g x) xs → filter f xs ≡ filter g xs
filter_alike f g [] all = refl
filter_alike f g (x ∷ xs) all = ap (λ b. cond b (x ∷ filter f xs) (filter f xs)) all.0 ∙
    ap (λ ys. cond (g x) (x ∷ ys) ys) (filter_alike f g xs all.1)

filter_none : {A : Type 0} (f : A → Bool) (xs : List A) → AllByRecursion (λ x. f x ≡ false) xs → filter f xs ≡ []
filter_none f [] all = refl
filter_none f (x ∷ xs) all = ap (λ b. cond b (x ∷ filter f xs) (filter f xs)) all.0 ∙ filter_none f xs all.1

-- the letters of a word are of the alphabet, and there are no more than the limit
pub record IsWord (P : List ℕ → Type 0) (limit : ℕ) (word : Word) : Type 0 where
  pub letters : AllByRecursion P word
  pub within : length word ≤ limit

words_are : (P : List ℕ → Type 0) (alphabet : List (List ℕ)) → AllByRecursion P alphabet → (l : ℕ) →
    AllByRecursion (IsWord P l) (words alphabet l)
words_are P alphabet all zero = (record { letters = tt; within = omega arith }, tt)
words_are P alphabet all (suc l) = (
  record { letters = tt; within = omega arith },
  all_flat P (IsWord P (suc l)) (λ a. map (λ word. a ∷ word) (words alphabet l))
      (λ a is. all_mapped (IsWord P l) (IsWord P (suc l)) (λ word. a ∷ word)
      (λ word more. record { letters = (is, more.letters); within = omega (arith, more.within) }) (words alphabet l)
      (words_are P alphabet all l))
      alphabet all,
)

pub pairs_are : (P : List ℕ → Type 0) (alphabet : List (List ℕ)) (limit : ℕ) → AllByRecursion P alphabet →
    AllByRecursion (λ pair. IsWord P limit pair.0) (pairs alphabet limit)
pairs_are P alphabet limit all =
    all_flat (IsWord P limit) (λ (pair : Pair). IsWord P limit pair.0) (λ word. map (λ c. (word, c)) calls)
    (λ word is. all_mapped {B = Pair} (λ _. Unit {0}) (λ pair. IsWord P limit pair.0) (λ c. (word, c)) (λ _ _. is) calls
    (all_of (λ _. Unit {0}) (λ _. tt) calls))
    (words alphabet limit) (words_are P alphabet all limit)

both : (P Q : List ℕ → Type 0) (xs : List (List ℕ)) → AllByRecursion P xs → AllByRecursion Q xs → AllByRecursion (λ x. P x × Q x) xs
both P Q [] p q = tt
both P Q (x ∷ xs) p q = ((p.0, q.0), both P Q xs p.1 q.1)

-- the words of an audit have paths without a fault
pub record IsReadable (alphabet : List (List ℕ)) (limit : ℕ) : Type 0 where
  pub letters : AllByRecursion IsPiece alphabet
  pub fits : limit * suc (longest alphabet) ≤ 1023

longest_from : (most : ℕ) (xs : List (List ℕ)) → most ≤ fold (λ m letter. max m (length letter)) most xs
longest_from most [] = omega arith
longest_from most (x ∷ xs) = omega (arith, longest_from (max most (length x)) xs)

-- no letter is longer than the longest
pub no_longer : (most : ℕ) (xs : List (List ℕ)) → AllByRecursion (λ x. length x ≤ fold (λ m letter. max m (length letter)) most xs) xs
no_longer most [] = tt
no_longer most (x ∷ xs) = (omega (arith, longest_from (max most (length x)) xs), no_longer (max most (length x)) xs)

times : (a b c d : ℕ) → a ≤ b * c → b ≤ d → a ≤ d * c
times a b c d h k = omega (arith, mul-le-mul_right c k)

module _ (s : Scope) (fits : WellFormed s.tree) (readable : IsReadable s.alphabet s.limit) where
  short : (word : Word) → IsWord (λ a. IsPiece a × (length a ≤ longest s.alphabet)) s.limit word → length (from_root word) ≤ 1023
  short word is =
      let long = length_from_root (longest s.alphabet) word (all_weaker (λ a. IsPiece a × (length a ≤ longest s.alphabet))
      (λ a. length a ≤ longest s.alphabet) (λ _ a. a.1) word is.letters) in
      omega (arith, times (length (from_root word)) (length word) (suc (longest s.alphabet)) s.limit long is.within, readable.fits)

  -- the reach is what is allowed letter by letter
  pub reach_is_along : is_dir s.tree (base_dir s.base s.process) ≡ true → reach s ≡ reach_along (judge_for s) s.alphabet s.limit
  reach_is_along lives =
      filter_alike (is_reached s) (λ pair. is_allowed_along (judge_for s) Start pair.0 pair.1) (pairs s.alphabet s.limit)
      (all_weaker (λ pair. IsWord (λ a. IsPiece a × (length a ≤ longest s.alphabet)) s.limit pair.0) (λ pair. is_reached s pair
      ≡ is_allowed_along (judge_for s) Start pair.0 pair.1)
      (λ pair is. judged_along s.tree fits s.table s.base s.process lives pair.1 pair.0
      (all_weaker (λ a. IsPiece a × (length a ≤ longest s.alphabet)) IsPiece (λ _ a. a.0) pair.0 is.letters)
      (short pair.0 is))
      (pairs s.alphabet s.limit)
      (pairs_are (λ a. IsPiece a × (length a ≤ longest s.alphabet)) s.alphabet s.limit (both IsPiece (λ a. length a ≤ longest s.alphabet)
      s.alphabet readable.letters (no_longer 0 s.alphabet))))

  -- one who has ended has no reach
  pub none_for_ended : is_ended s.process ≡ true → reach s ≡ []
  none_for_ended over =
      filter_none (is_reached s) (pairs s.alphabet s.limit)
      (all_of (λ pair. is_reached s pair ≡ false) (λ pair. ended s.tree s.table s.process pair.1 _ over) (pairs s.alphabet s.limit))

  -- nor has one whose base was removed
  pub none_without_base : is_dir s.tree (base_dir s.base s.process) ≡ false → reach s ≡ []
  none_without_base gone =
      filter_none (is_reached s) (pairs s.alphabet s.limit)
      (all_weaker (λ pair. IsWord (λ a. IsPiece a × (length a ≤ longest s.alphabet)) s.limit pair.0) (λ pair. is_reached s pair ≡ false)
      (λ pair is. missing s.base gone pair.1 pair.0 (all_weaker (λ a. IsPiece a × (length a ≤ longest s.alphabet)) IsPiece (λ _ a. a.0)
      pair.0 is.letters) (short pair.0 is))
      (pairs s.alphabet s.limit)
      (pairs_are (λ a. IsPiece a × (length a ≤ longest s.alphabet)) s.alphabet s.limit (both IsPiece (λ a. length a ≤ longest s.alphabet)
      s.alphabet readable.letters (no_longer 0 s.alphabet))))
    where
      missing : (base : Base) → is_dir s.tree (base_dir base s.process) ≡ false → (c : Call) (word : Word) → AllByRecursion IsPiece word →
          length (from_root word) ≤ 1023
          → is_allowed (verdict_on s.tree s.table s.process c (path_of base word)) ≡ false
      missing Root gone c [] all fits_in =
          let none : object_named s.tree s.process c (path_of Root []) ≡ Err ENOENT =
          rw (no_root s.tree (root_dir s.process) fits gone) refl in
          ap (λ r. is_allowed (verdict_of s.tree s.table s.process c r)) none ∙
          refused (may_any s.process (rule_of s.table c).alternatives) ENOENT
      missing Root gone c (a ∷ word) all fits_in =
          let is : IsPath Root (path_of Root (a ∷ word)) (a ∷ word) = path_is Root a word all.0 all.1 fits_in in
          let none : object_named s.tree s.process c (path_of Root (a ∷ word)) ≡ Err ENOENT =
          rw (is.fault, no_root s.tree (root_dir s.process) fits gone) refl in
          ap (λ r. is_allowed (verdict_of s.tree s.table s.process c r)) none ∙
          refused (may_any s.process (rule_of s.table c).alternatives) ENOENT
      missing Cwd gone c [] all fits_in =
          let none : object_named s.tree s.process c (path_of Cwd []) ≡ Err ENOENT = rw gone refl in
          ap (λ r. is_allowed (verdict_of s.tree s.table s.process c r)) none ∙
          refused (may_any s.process (rule_of s.table c).alternatives) ENOENT
      missing Cwd gone c (a ∷ word) all fits_in =
          let is : IsPath Cwd (path_of Cwd (a ∷ word)) (a ∷ word) = path_is Cwd a word all.0 all.1 fits_in in
          let none : object_named s.tree s.process c (path_of Cwd (a ∷ word)) ≡ Err ENOENT = rw (is.fault, is.absolute, gone) refl in
          ap (λ r. is_allowed (verdict_of s.tree s.table s.process c r)) none ∙
          refused (may_any s.process (rule_of s.table c).alternatives) ENOENT
