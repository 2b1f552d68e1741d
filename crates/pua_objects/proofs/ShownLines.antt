-- What a list shows by the root of its process.
use Rattle.pua_objects.proofs.Common.{◌≡◌, ◌≢◌, ◌==◌, ℕ, Bool, true, false, List, [], ◌∷◌, refl, sym, ap, ◌∙◌, inl, inr, ◌&&◌, not, filter, map, Bor}
use Rattle.pua_objects.proofs.Common.{◌||◌, if◌then◌else◌, cond, is_some, and_parts, list_all, eqb-true, eq-eqb, Some, None, Ok, Tree, WellFormed}
use Rattle.pua_objects.proofs.Common.{is_dir, sound_from, Found, Whole, Slot, last_of, ProcessState, perms_kept, Call}
use Rattle.pua_objects.proofs.Common.{At, Others, subject_of}
use Rattle.std.proofs.lemmas.Bool.{eqb-false}
use Rattle.std.specs.Prelude.{◌⊎◌}
use Rattle.std.specs.List.{Contains}
use Rattle.pua_tree.specs.Tree.{is_within}
use Rattle.pua_path.specs.Resolution.{resolution_of_text}
use Rattle.pua_path.specs.declared.found.Start.{Start}
use Rattle.pua_calls.specs.Calls.{ending_of}
use Rattle.pua_policy.specs.States.{is_directory, root_dir, start, working_dir}
use Rattle.pua_policy.specs.declared.open_file.OpenFile.{OpenFile}
use Rattle.pua_policy.specs.declared.place.Place.TheVariants as place
use Rattle.pua_objects.specs.Objects.{objects}
use Rattle.pua_objects.specs.Laws.{CompleteFrom, ShowsWithin, StartsAreIn, StartsIn}
use Rattle.pua_objects.specs.Roots.{IsByRoot, dir_of, files_stay, is_enclosed, is_held_inside, is_shown, shown_objects, shown_of}
use Rattle.pua_objects.specs.Roots.{shows, stays_in}
use Rattle.pua_objects.specs.declared.roots.Shown.{Shown}
use Rattle.pua_objects.specs.declared.roots.Shown.TheVariants.{All, Below}
use Rattle.pua_objects.proofs.Among.{Among, among_contained, among_filter, contained, filter_among}
use Rattle.pua_objects.proofs.Completeness.{complete, named_within_text}
use Rattle.pua_objects.proofs.Enclosed.{found_dir, text_within}

-- the line of what was found stands where that does
dir_found : (t : Tree) (h : ProcessState) (object : Found) → dir_of (subject_of t h object) ≡ found_dir object
dir_found t h (Whole dir way) = refl
dir_found t h (Slot dir name (Some x)) = refl
dir_found t h (Slot dir name None) = by (is_some (perms_kept h (place.Slot dir name)))
  where
    by : (b : Bool) → dir_of (if b then At (Slot dir name None) else Others dir) ≡ dir
    by true = refl
    by false = refl

-- an enclosed process has the root below which things are shown
pub record Encloses (t : Tree) (h : ProcessState) (root : ℕ) : Type 0 where
  pub is : root_dir h ≡ root
  pub top : (root == 0) ≡ false
  pub lives : is_dir t root ≡ true
  pub dir : stays_in t root (working_dir h) ≡ true
  pub files : files_stay t root h.files ≡ true

pub encloses : (t : Tree) (h : ProcessState) (root : ℕ) → shown_of t h ≡ Below root → Encloses t h root
encloses t h root = by (not (root_dir h == 0) && is_enclosed t h) refl
  where
    denied : (b : Bool) → not b ≡ true → b ≡ false
    denied true e = cc
    denied false e = refl

    parts : not (root_dir h == 0) ≡ true → is_enclosed t h ≡ true → root_dir h ≡ root → Encloses t h root
    parts other enclosed is =
        let a = and_parts (is_dir t (root_dir h)) _ enclosed in
        let b = and_parts (stays_in t (root_dir h) (working_dir h)) (files_stay t (root_dir h) h.files) a.1 in
        record {
          is = is;
          top = ap (λ r. r == 0) (sym is) ∙ denied (root_dir h == 0) other;
          lives = ap (is_dir t) (sym is) ∙ a.0;
          dir = ap (λ r. stays_in t r (working_dir h)) (sym is) ∙ b.0;
          files = ap (λ r. files_stay t r h.files) (sym is) ∙ b.1;
        }

    by : (b : Bool) → (not (root_dir h == 0) && is_enclosed t h) ≡ b → (if b then Below (root_dir h) else All) ≡ Below root →
        Encloses t h root
    by true e shown = let both = and_parts (not (root_dir h == 0)) (is_enclosed t h) e in parts both.0 both.1 cc
    by false e shown = cc

-- what is shown is by the root of the process
pub shown_by_root : (t : Tree) (h : ProcessState) → IsByRoot h (shown_of t h)
shown_by_root t h = by (shown_of t h) refl
  where
    by : (shown : Shown) → shown_of t h ≡ shown → IsByRoot h shown
    by All is = tt
    by (Below root) is = sym (encloses t h root is).is

pub not_top : (t : Tree) (h : ProcessState) (root : ℕ) → shown_of t h ≡ Below root → root ≢ 0
not_top t h root below = eqb-false root 0 (encloses t h root below).top

-- what a path names from there is shown
is_seen : (t : Tree) → WellFormed t → (h : ProcessState) (from : Start) (call : Call) (text : List ℕ) (object : Found) (shown : Shown) →
    shown_of t h ≡ shown → StartsIn t shown from → resolution_of_text t from (ending_of call) text (last_of call) ≡ Ok object →
    shows t shown (subject_of t h object) ≡ true
is_seen t fits h from call text object All is within e = refl
is_seen t fits h from call text object (Below root) is within e =
    let around = encloses t h root is in
    ap (λ d. is_within t d root) (dir_found t h object)
    ∙ text_within t (sound_from t fits) root around.lives from (ending_of call) text (last_of call) object within.0 within.1
    (named_within_text t from (ending_of call) text (last_of call) object e)

pub complete_from : CompleteFrom
complete_from t table h from call text fits within allowed =
    let listed = complete t table h from call text fits allowed in
    record {
      object = listed.object;
      names = listed.names;
      line = listed.line;
      listed = contained (shown_objects t table h) listed.line
          (among_filter (λ line. is_shown t h line.subject) (objects t table h) listed.line
          (ap (is_shown t h) listed.about
          ∙ is_seen t fits h from call text listed.object (shown_of t h) refl within listed.names)
          (among_contained (objects t table h) listed.line listed.listed));
      about = listed.about;
      allows = listed.allows;
    }

all_held : {X : Type 0} (p : X → Bool) (xs : List X) (x : X) → list_all p xs ≡ true → Among xs x → p x ≡ true
all_held p [] x all a = absurd a
all_held p (y ∷ xs) x all (inl e) = ap p (sym e) ∙ (and_parts (p y) (list_all p xs) all).0
all_held p (y ∷ xs) x all (inr a) = all_held p xs x (and_parts (p y) (list_all p xs) all).1 a

own_in : (t : Tree) (h : ProcessState) (shown : Shown) → shown_of t h ≡ shown → StartsIn t shown (start h)
own_in t h All is = tt
own_in t h (Below root) is = let around = encloses t h root is in (around.is, around.dir)

file_in : (t : Tree) (h : ProcessState) (number : ℕ) (file : OpenFile) → Contains h.files (number, file) → is_directory file ≡ true →
    (shown : Shown) → shown_of t h ≡ shown → StartsIn t shown (record { root = root_dir h; dir = file.node })
file_in t h number file there dir All is = tt
file_in t h number file there dir (Below root) is =
    let around = encloses t h root is in (
      around.is,
      sym (ap (λ b. not b || stays_in t root file.node) dir) ∙
          all_held (λ held. is_held_inside t root held.1) h.files (number, file) around.files (among_contained h.files (number, file) there),
    )

pub starts_are_in : StartsAreIn
starts_are_in = record {
  own = λ t h. own_in t h (shown_of t h) refl;
  open_files = λ t h number file there dir. file_in t h number file there dir (shown_of t h) refl;
}

-- all is shown where the test holds of all
filter_all : {X : Type 0} (p : X → Bool) (xs : List X) → ((x : X) → p x ≡ true) → filter p xs ≡ xs
filter_all p [] all = refl
filter_all p (x ∷ xs) all = (λ i. cond (all x i) (x ∷ filter p xs) (filter p xs)) ∙ ap (λ ys. x ∷ ys) (filter_all p xs all)

open_shown : (t : Tree) (h : ProcessState) → (root_dir h ≡ 0) ⊎ (is_enclosed t h ≡ false) → shown_of t h ≡ All
open_shown t h (inl top) =
    ap (λ b. if not b && is_enclosed t h then Below (root_dir h) else All) (eq-eqb (root_dir h) 0 top)
open_shown t h (inr leaves) =
    ap (λ b. if not (root_dir h == 0) && b then Below (root_dir h) else All) leaves ∙ by (not (root_dir h == 0))
  where
    by : (b : Bool) → (if b && false then Below (root_dir h) else All) ≡ All
    by true = refl
    by false = refl

closed_shown : (t : Tree) (h : ProcessState) → root_dir h ≢ 0 → is_enclosed t h ≡ true → shown_of t h ≡ Below (root_dir h)
closed_shown t h other enclosed = by (root_dir h == 0) refl
  where
    by : (b : Bool) → (root_dir h == 0) ≡ b → (if not b && is_enclosed t h then Below (root_dir h) else All) ≡ Below (root_dir h)
    by true e = absurd (other (eqb-true (root_dir h) 0 e))
    by false e = ap (λ b. if b then Below (root_dir h) else All) enclosed

pub shows_within : ShowsWithin
shows_within = record {
  all = λ t table h leaves.
      filter_all (λ line. is_shown t h line.subject) (objects t table h) (λ line. ap (λ s. shows t s line.subject) (open_shown t h leaves));
  within = λ t table h line other enclosed there.
      sym (ap (λ s. shows t s line.subject) (closed_shown t h other enclosed))
      ∙ (filter_among (λ line. is_shown t h line.subject) (objects t table h) line (among_contained (shown_objects t table h) line there)).1;
}

-- files as they are lent
pub all_lent : (t : Tree) (root : ℕ) (files : List (Bor ℕ × Bor OpenFile)) →
    list_all (λ held. is_held_inside t root held.1.now) files ≡ files_stay t root (map (λ held. (held.0.now, held.1.now)) files)
all_lent t root [] = refl
all_lent t root (held ∷ files) = ap (λ b. is_held_inside t root held.1.now && b) (all_lent t root files)
