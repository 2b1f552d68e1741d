-- What any of several processes has open so that it can be made a program, the one that stands for them has open so.
use Rattle.pua_ever.proofs.Common.{◌≡◌, arith, ℕ, List, [], ◌∷◌, Bool, true, false, cond, refl, sym, ap, ◌∙◌, inl, inr, Option, Some, None, ◌&&◌, ◌||◌}
use Rattle.pua_ever.proofs.Common.{◌==◌, ProcessState, false≢true, and_parts, and_from, eqb-true, list_any, nat_cmp, or_left, or_right}
use Rattle.pua_ever.proofs.Common.{Among}
use Rattle.std.proofs.lemmas.Map.Lookups.{exact_unsigned}
use Rattle.std.specs.BTreeMap.{is_at}
use Rattle.std.specs.Ordering.{is_eq, match_ordering}
use Rattle.std.specs.Prelude.{bit_or}
use Rattle.std.specs.declared.cmp.Ordering.{Ordering}
use Rattle.std.specs.declared.cmp.Ordering.TheVariants.{Less, Equal, Greater}
use Rattle.pua_calls.specs.Promises.{holds, writing}
use Rattle.pua_policy.specs.States.{file_at, with_file}
use Rattle.pua_policy.specs.declared.open_file.OpenFile.{OpenFile}
use Rattle.pua_policy.proofs.ForCallers.{holds_through}
use Rattle.pua_ever.specs.Ever.{is_turned_by}
use Rattle.pua_ever.specs.Together.{files_together, gather, gather_all, gathering, with_letters}
use Rattle.pua_ever.proofs.Through.{first_of, second_of}

-- what is within a set is within what two sets hold
pub within_first : (a b set : ℕ) → holds a set ≡ true → holds (bit_or a b) set ≡ true
within_first a b set holding = holds_through (bit_or a b) a set (first_of a b) holding

pub within_second : (a b set : ℕ) → holds b set ≡ true → holds (bit_or a b) set ≡ true
within_second a b set holding = holds_through (bit_or a b) b set (second_of a b) holding

-- ---- a descriptor that stands for a file, and the others

abbrev is_number : ℕ → ℕ → Bool
is_number n other = is_at (nat_cmp n) other

own_number : (n : ℕ) → is_number n n ≡ true
own_number n = grind arith

other_number : (n other : ℕ) → (other == n) ≡ false → is_number n other ≡ false
other_number n other differs = grind arith

file_there : (n : ℕ) (file : OpenFile) (files : List (ℕ × OpenFile)) → file_at (with_file n file files) n ≡ Some file
file_there n file [] = ap (λ b. cond b (Some file) None) (own_number n)
file_there n file (f ∷ fs) = by (nat_cmp n f.0) refl (file_there n file fs)
  where
    by : (o : Ordering) → nat_cmp n f.0 ≡ o → file_at (with_file n file fs) n ≡ Some file →
        file_at (match_ordering o ((n, file) ∷ f ∷ fs) ((f.0, file) ∷ fs) (f ∷ with_file n file fs)) n ≡ Some file
    by Less is later = ap (λ b. cond b (Some file) (file_at (f ∷ fs) n)) (own_number n)
    by Equal is later = ap (λ o. cond (is_eq o) (Some file) (file_at fs n)) is
    by Greater is later = ap (λ o. cond (is_eq o) (Some f.1) (file_at (with_file n file fs) n)) is ∙ later

file_elsewhere : (n : ℕ) (file : OpenFile) (files : List (ℕ × OpenFile)) (other : ℕ) → is_number other n ≡ false →
    file_at (with_file n file files) other ≡ file_at files other
file_elsewhere n file [] other differs = ap (λ b. cond b (Some file) None) differs
file_elsewhere n file (f ∷ fs) other differs = by (nat_cmp n f.0) refl (file_elsewhere n file fs other differs)
  where
    by : (o : Ordering) → nat_cmp n f.0 ≡ o → file_at (with_file n file fs) other ≡ file_at fs other →
        file_at (match_ordering o ((n, file) ∷ f ∷ fs) ((f.0, file) ∷ fs) (f ∷ with_file n file fs)) other ≡ file_at (f ∷ fs) other
    by Less is later = ap (λ b. cond b (Some file) (file_at (f ∷ fs) other)) differs
    by Equal is later =
        let apart : is_number other f.0 ≡ false = ap (is_number other) (sym (exact_unsigned n f.0 is)) ∙ differs in
        ap (λ b. cond b (Some file) (file_at fs other)) apart ∙ sym (ap (λ b. cond b (Some f.1) (file_at fs other)) apart)
    by Greater is later = ap (λ o. cond (is_number other f.0) (Some f.1) o) later

-- ---- what can be made a program by an open file

abbrev turns : Bool → ℕ → OpenFile → Bool
turns modes node file = file.node == node && (modes || holds file.letters writing)

-- who can set modes where another can
turns_too : (a b : Bool) → (a ≡ true → b ≡ true) → (node : ℕ) (file : OpenFile) → turns a node file ≡ true → turns b node file ≡ true
turns_too a b more node file is =
    let parts = and_parts (file.node == node) (a || holds file.letters writing) is in
    and_from (file.node == node) (b || holds file.letters writing) parts.0 (by a (holds file.letters writing) more parts.1)
  where
    by : (c w : Bool) → (c ≡ true → b ≡ true) → (c || w) ≡ true → (b || w) ≡ true
    by true w gives either = or_left b w (gives refl)
    by false w gives either = or_right b w either

-- with the letters of another too
turns_with : (modes : Bool) (node : ℕ) (other : Option OpenFile) (file : OpenFile) → turns modes node file ≡ true →
    turns modes node (with_letters other file) ≡ true
turns_with modes node None file is = is
turns_with modes node (Some other) file is =
    let parts = and_parts (file.node == node) (modes || holds file.letters writing) is in
    and_from (file.node == node) _ parts.0 (by modes parts.1)
  where
    by : (m : Bool) → (m || holds file.letters writing) ≡ true → (m || holds (bit_or other.letters file.letters) writing) ≡ true
    by true either = refl
    by false either = within_second other.letters file.letters writing either

turns_under : (modes : Bool) (node : ℕ) (known file : OpenFile) → (file.node == node) ≡ true → turns modes node known ≡ true →
    turns modes node (with_letters (Some known) file) ≡ true
turns_under modes node known file same is =
    let parts = and_parts (known.node == node) (modes || holds known.letters writing) is in
    and_from (file.node == node) _ same (by modes parts.1)
  where
    by : (m : Bool) → (m || holds known.letters writing) ≡ true → (m || holds (bit_or known.letters file.letters) writing) ≡ true
    by true either = refl
    by false either = within_first known.letters file.letters writing either

-- ---- one file of each node

module _ (modes : Bool) (node : ℕ) where
  -- the node can be made a program by the file under its number
  abbrev Kept : List (ℕ × OpenFile) → Type 0
  Kept files = (file : OpenFile) × (file_at files node ≡ Some file) × (turns modes node file ≡ true)

  kept_any : (files : List (ℕ × OpenFile)) (file : OpenFile) → file_at files node ≡ Some file → turns modes node file ≡ true →
      list_any (is_turned_by modes node) files ≡ true
  kept_any [] file at is = cc
  kept_any (f ∷ fs) file at is = by (is_number node f.0) at (λ there. kept_any fs file there is)
    where
      by : (b : Bool) → cond b (Some f.1) (file_at fs node) ≡ Some file →
          (file_at fs node ≡ Some file → list_any (is_turned_by modes node) fs ≡ true) →
          (turns modes node f.1 || list_any (is_turned_by modes node) fs) ≡ true
      by true e later = let same : f.1 ≡ file = cc in or_left (turns modes node f.1) _ (ap (turns modes node) same ∙ is)
      by false e later = or_right (turns modes node f.1) _ (later e)

  kept_more : (files : List (ℕ × OpenFile)) (file : OpenFile) → Kept files → Kept (gathering files file)
  kept_more files file (known, at, is) = by (file.node == node) refl
    where
      by : (b : Bool) → (file.node == node) ≡ b → Kept (gathering files file)
      by true same =
          let number : file.node ≡ node = eqb-true file.node node same in
          let there : file_at files file.node ≡ Some known = ap (file_at files) number ∙ at in (
            with_letters (Some known) file,
            ap (file_at (gathering files file)) (sym number) ∙ file_there file.node (with_letters (file_at files file.node) file) files ∙
                ap (λ o. Some (with_letters o file)) there,
            turns_under modes node known file same is,
          )
      by false differs = (
        known,
        file_elsewhere file.node (with_letters (file_at files file.node) file) files node (other_number node file.node differs) ∙ at,
        is,
      )

  kept_new : (files : List (ℕ × OpenFile)) (file : OpenFile) → turns modes node file ≡ true → Kept (gathering files file)
  kept_new files file is =
      let number : file.node ≡ node = eqb-true file.node node (and_parts (file.node == node) _ is).0 in (
        with_letters (file_at files file.node) file,
        ap (file_at (gathering files file)) (sym number) ∙ file_there file.node (with_letters (file_at files file.node) file) files,
        turns_with modes node (file_at files file.node) file is,
      )

  kept_after : (files more : List (ℕ × OpenFile)) → Kept files → Kept (gather files more)
  kept_after files [] k = k
  kept_after files (held ∷ more) k = kept_after (gathering files held.1) more (kept_more files held.1 k)

  kept_of : (files more : List (ℕ × OpenFile)) → list_any (is_turned_by modes node) more ≡ true → Kept (gather files more)
  kept_of files [] e = absurd (false≢true e)
  kept_of files (held ∷ more) e = by (turns modes node held.1) refl e (kept_of (gathering files held.1) more)
    where
      by : (b : Bool) → turns modes node held.1 ≡ b → (b || list_any (is_turned_by modes node) more) ≡ true →
          (list_any (is_turned_by modes node) more ≡ true → Kept (gather (gathering files held.1) more)) →
          Kept (gather (gathering files held.1) more)
      by true is either later = kept_after (gathering files held.1) more (kept_new files held.1 is)
      by false is either later = later either

  kept_all : (files : List (ℕ × OpenFile)) (more : List ProcessState) → Kept files → Kept (gather_all files more)
  kept_all files [] k = k
  kept_all files (h ∷ more) k = kept_all (gather files h.files) more (kept_after files h.files k)

  kept_among : (files : List (ℕ × OpenFile)) (more : List ProcessState) (h : ProcessState) → Among more h →
      list_any (is_turned_by modes node) h.files ≡ true → Kept (gather_all files more)
  kept_among files [] h a e = absurd a
  kept_among files (other ∷ more) h (inl same) e =
      kept_all (gather files other.files) more (kept_of files other.files
      (ap (λ (p : ProcessState). list_any (is_turned_by modes node) p.files) same ∙ e))
  kept_among files (other ∷ more) h (inr later) e = kept_among (gather files other.files) more h later e

-- what can be made a program by what one of them has open
pub turned_together : (modes : Bool) (node : ℕ) (first : ProcessState) (more : List ProcessState) (h : ProcessState) → Among (first ∷ more) h →
    list_any (is_turned_by modes node) h.files ≡ true → list_any (is_turned_by modes node) (files_together first more) ≡ true
turned_together modes node first more h a e =
    let k = kept_among modes node [] (first ∷ more) h a e in
    kept_any modes node (files_together first more) k.0 k.1 k.2

-- by who can set modes where another can
pub turned_by_more : (a b : Bool) → (a ≡ true → b ≡ true) → (node : ℕ) (files : List (ℕ × OpenFile)) →
    list_any (is_turned_by a node) files ≡ true → list_any (is_turned_by b node) files ≡ true
turned_by_more a b gives node [] e = absurd (false≢true e)
turned_by_more a b gives node (held ∷ more) e = by (turns a node held.1) refl e (turned_by_more a b gives node more)
  where
    by : (c : Bool) → turns a node held.1 ≡ c → (c || list_any (is_turned_by a node) more) ≡ true →
        (list_any (is_turned_by a node) more ≡ true → list_any (is_turned_by b node) more ≡ true) →
        (turns b node held.1 || list_any (is_turned_by b node) more) ≡ true
    by true is either later = or_left (turns b node held.1) _ (turns_too a b gives node held.1 is)
    by false is either later = or_right (turns b node held.1) _ (later either)
