-- Covers of the directories of a table, and covers handed down from them.
use Rattle.pua_audit.proofs.Common.{true, ℕ, ◌≡◌, List, Option, Some, None, sym, ap, ◌∙◌, subst, IfOk, IfSome, IsTrue, Result, Ok, Err}
use Rattle.pua_audit.proofs.Common.{Tree, WellFormed, above, is_dir, FoundsFit, StandsAsNamed, Errno, Found, Whole, Slot, follow, last}
use Rattle.pua_audit.proofs.Common.{Kept, Part, Top, cover_in, ProcessState, perms_kept, CallTable, cover, is_allowed, Call, allowed_within}
use Rattle.pua_audit.proofs.Common.{found_of, leads_to, RootedTree, seen_by, Bool, false, not, ◌&&◌, ◌==◌, if◌then◌else◌, refl, eqb-true}
use Rattle.std.specs.Prelude.{unwrap_or}
use Rattle.pua_path.specs.Fits.{FoundFits}
use Rattle.pua_path.specs.Resolution.{above_in}
use Rattle.pua_path.specs.declared.found.Part.TheVariants as parts
use Rattle.pua_path.specs.declared.found.Way.{Way}
use Rattle.pua_path.specs.declared.found.Way.TheVariants.{DotDot, Named}
use Rattle.pua_policy.specs.Descent.{own_or}
use Rattle.pua_policy.specs.Verdict.{Object, covered_verdict}
use Rattle.pua_policy.specs.declared.answer.Cover.{Cover}
use Rattle.pua_policy.specs.declared.place.Place.TheVariants as place
use Rattle.pua_policy.proofs.ForCallers.{covers_descend}

pub some_leads : {A : Type 0} {P Q : A → Type 0} → ((x : A) → P x → Q x) → (o : Option A) → IfSome o P → IfSome o Q
some_leads leads None is = tt
some_leads leads (Some x) is = leads x is

-- names without a veil of their own, in a directory that has this cover
pub within_is : (t : Tree) (table : CallTable) (h : ProcessState) (fits : WellFormed t) (dir : ℕ) (living : IsTrue (is_dir t dir))
    (left : Cover) → left ≡ cover_in t h dir
    → (object : Object) (call : Call) → is_allowed (covered_verdict t table h call left object) ≡ allowed_within t table h dir object call
within_is t table h fits dir living left is object call =
    ap (λ c. is_allowed (covered_verdict t table h call c object)) (is ∙ sym ((covers_descend t h fits).directory dir Top living))

pub founds_are : (P : Found → Type 0) (r : Result (Found × ℕ) Errno) → IfOk r (λ found. P found.0) → IfOk (found_of r) P
founds_are P (Ok found) is = is
founds_are P (Err errno) is = tt

pub founds_of : (t : Tree) (r : Result (Found × ℕ) Errno) → IfOk r (λ found. FoundFits t found.0) → FoundsFit t (found_of r)
founds_of t (Ok found) fit = fit
founds_of t (Err errno) fit = tt

-- what the veils leave of a directory that was found is the cover of the names in it
pub covered_lead : (t : Tree) (h : ProcessState) → WellFormed t → (r : Result Found Errno) (left : Cover) → FoundsFit t r →
    IfOk r (λ object. left ≡ cover t h object) → IfSome (leads_to r) (λ to. left ≡ cover_in t h to)
covered_lead t h fits (Ok (Whole dir way)) left fit is = is ∙ (covers_descend t h fits).directory dir way fit
covered_lead t h fits (Ok (Slot dir name _)) left fit is = tt
covered_lead t h fits (Err errno) left fit is = tt

-- what was found gets its cover from the directory over it
module _ (t : Tree) (h : ProcessState) (fits : WellFormed t) (found : Found) (is_fit : FoundFits t found) where
  pub handed_name : (dir : ℕ) (name : List ℕ) (node : Option ℕ) → found ≡ Slot dir name node →
      own_or (perms_kept h (place.Slot dir name)) (cover_in t h dir) ≡ cover t h found
  handed_name dir name node is = sym ((covers_descend t h fits).at_name dir name node) ∙ ap (cover t h) (sym is)

  pub handed_self : (dir : ℕ) (way : Way) → found ≡ Whole dir way → cover_in t h dir ≡ cover t h found
  handed_self dir way is = sym ((covers_descend t h fits).directory dir way (subst (FoundFits t) is is_fit)) ∙ ap (cover t h) (sym is)

  pub handed_below : StandsAsNamed t found → (dir parent : ℕ) (name : List ℕ) → found ≡ Whole dir (Named parent name) →
      own_or (perms_kept h (place.Dir dir)) (cover_in t h parent) ≡ cover t h found
  handed_below named dir parent name is =
      sym ((covers_descend t h fits).below parent name dir (subst (StandsAsNamed t) is named).1 (subst (FoundFits t) is is_fit)) ∙
      handed_self dir (Named parent name) is

-- a directory without a veil of its own has the cover of the one above it
pub handed_above : (t : Tree) (h : ProcessState) → WellFormed t → (from : ℕ) → is_dir t from ≡ true → perms_kept h (place.Dir from) ≡ None →
    cover_in t h from ≡ cover_in t h (above t from)
handed_above t h fits from living none = (covers_descend t h fits).over from living ∙ ap (λ o. own_or o (cover_in t h (above t from))) none

-- what leads on from two facts
pub both_lead : {A : Type 0} {P Q R : A → Type 0} → ((x : A) → P x → Q x → R x) → (o : Option A) → IfSome o P → IfSome o Q → IfSome o R
both_lead leads None is too = tt
both_lead leads (Some x) is too = leads x is too

-- `..` names what is above a directory, but at the root itself
pub above_in_is : (t : RootedTree) (dir : ℕ) → is_dir t.tree dir ≡ true →
    above_in t dir ≡ (if not (t.root == 0) && (dir == t.root) then t.root else above t.tree dir)
above_in_is t dir =
    ap (λ b. if not (t.root == 0) && (dir == t.root) then t.root else unwrap_or (if b then Some (above t.tree dir) else None) 0)

-- so the cover that is handed up is what it names
pub handed_over : (t : Tree) (h : ProcessState) (fits : WellFormed t) (found : Found) (fit : FoundFits t found) (from : ℕ) (left : Cover) →
    is_dir t from ≡ true → left ≡ cover_in t h from → left ≡ cover_in t h (above t from) → found ≡ Whole (above_in (seen_by t h) from) DotDot →
    left ≡ cover t h found
handed_over t h fits found fit from left living here over dots =
    by (not (root == 0)) (from == root) refl (dots ∙ ap (λ dir. Whole dir DotDot) (above_in_is (seen_by t h) from living))
  where
    root : ℕ
    root = (seen_by t h).root

    by : (apart same : Bool) → (from == root) ≡ same →
        found ≡ Whole (if apart && same then root else above t from) DotDot → left ≡ cover t h found
    by true true e is = here ∙ ap (cover_in t h) (eqb-true from root e) ∙ handed_self t h fits found fit root DotDot is
    by true false e is = over ∙ handed_self t h fits found fit (above t from) DotDot is
    by false same e is = over ∙ handed_self t h fits found fit (above t from) DotDot is

found_or : Found → Result Found Errno → Found
found_or other (Ok object) = object
found_or other (Err errno) = other

abbrev IsAbove : RootedTree → ℕ → Part → Found → Type 0
IsAbove t from part object = part ≡ parts.DotDot → object ≡ Whole (above_in t from) DotDot

found_above : (t : RootedTree) (from : ℕ) (part : Part) (r : Result Found Errno) →
    (part ≡ parts.DotDot → r ≡ Ok (Whole (above_in t from) DotDot)) → IfOk r (IsAbove t from part)
unfolding found_or
found_above t from part (Ok object) is = λ dots. ap (found_or object) (is dots)
found_above t from part (Err errno) is = tt

pub named_above : (t : RootedTree) (from : ℕ) (part : Part) (r : Result Found Errno) → r ≡ found_of (follow t from part) →
    IfOk r (IsAbove t from part)
named_above t from part r is = found_above t from part r (λ dots. is ∙ ap (λ p. found_of (follow t from p)) dots)

pub kept_above : (t : RootedTree) (from : ℕ) (part : Part) (r : Result Found Errno) → r ≡ last t from 0 part Kept →
    IfOk r (IsAbove t from part)
kept_above t from part r is = found_above t from part r (λ dots. is ∙ ap (λ p. last t from 0 p Kept) dots)
