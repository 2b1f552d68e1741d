-- Steps and a last part are the resolution of the whole.
use Rattle.pua_path.proofs.Common.{RootedTree}
use Rattle.pua_path.proofs.Common.{◌≡◌, ℕ, zero, suc, Bool, true, false, List, [], ◌∷◌, ◌++◌, Some, None, refl, sym, ap, ◌∙◌, arith, ◌-◌}
use Rattle.pua_path.proofs.Common.{◌≤◌, Result, Ok, Err, if◌then◌else◌, ◌>>=◌, parts_of, Resolved, Standing, Directory, Linked, Plain}
use Rattle.pua_path.proofs.Common.{Nothing, standing_at, is_followed, slot_or, walk, start_of, resolve_parts, dir_with_links, step, last}
use Rattle.pua_path.proofs.Common.{most_links, Errno, ENOENT, ENOTDIR, ELOOP, Part, Last, Followed, Way, Found, Whole, Slot}
use Rattle.pua_path.specs.Laws.{onwards, steps, StepsCompose}
use Rattle.pua_path.specs.declared.text.Ending.TheVariants as ending
use Rattle.pua_path.specs.declared.found.Part.TheVariants as parts
use Rattle.pua_path.specs.declared.found.Way.TheVariants as ways
use Rattle.pua_path.proofs.Steps.{met, walk_name}
use Rattle.pua_path.proofs.Composition.{composes}

-- the links left are no more than before
abbrev pub Shrinks : ℕ → Resolved → Type 0
Shrinks links (Ok found) = found.1 ≤ links
Shrinks links (Err errno) = Unit {0}

slot_shrinks : (links : ℕ) (ps : List Part) (found : Found) (errno : Errno) → Shrinks links (slot_or ps found errno links)
slot_shrinks links [] found errno = omega arith
slot_shrinks links (p ∷ ps) found errno = tt

module _ (t : RootedTree) (mode : Last) (links : ℕ) (follow : ℕ → List ℕ → List Part → Resolved)
    (follows : (from : ℕ) (target : List ℕ) (rest : List Part) → Shrinks links (follow from target rest)) where
  met_shrinks : (ps : List Part) (dir : ℕ) (name : List ℕ) (s : Standing) →
      ((x : ℕ) → Shrinks links (walk t mode links follow x (ways.Named dir name) ps)) →
      Shrinks links (met t mode links follow dir name ps s)
  met_shrinks ps dir name (Directory x) further = further x
  met_shrinks ps dir name (Linked x target) further = by (is_followed mode ps)
    where
      by : (v : Bool) → Shrinks links (if v then follow dir target ps else Ok (Slot dir name (Some x), links))
      by true = follows dir target ps
      by false = omega arith
  met_shrinks ps dir name (Plain x) further = slot_shrinks links ps (Slot dir name (Some x)) ENOTDIR
  met_shrinks ps dir name Nothing further = slot_shrinks links ps (Slot dir name None) ENOENT

  walk_shrinks : (ps : List Part) (dir : ℕ) (way : Way) → Shrinks links (walk t mode links follow dir way ps)
  walk_shrinks [] dir way = omega arith
  walk_shrinks (parts.Dot ∷ ps) dir way = walk_shrinks ps dir ways.Dot
  walk_shrinks (parts.DotDot ∷ ps) dir way = walk_shrinks ps _ ways.DotDot
  walk_shrinks (parts.Name name ∷ ps) dir way =
      rw (walk_name t mode links follow dir way name ps)
      (met_shrinks ps dir name (standing_at t.tree dir name) (λ x. walk_shrinks ps x (ways.Named dir name)))

fewer : (links : ℕ) (r : Resolved) → Shrinks links r → Shrinks (suc links) r
fewer links (Ok found) h = omega (arith, h)
fewer links (Err errno) h = tt

pub shrinks : (t : RootedTree) (mode : Last) (links dir : ℕ) (way : Way) (ps : List Part) → Shrinks links (resolve_parts links t mode dir way ps)
shrinks t mode zero dir way ps = walk_shrinks t mode 0 (λ from target rest. Err ELOOP) (λ from target rest. tt) ps dir way
shrinks t mode (suc links) dir way ps =
    walk_shrinks t mode (suc links) (λ from target rest. resolve_parts links t mode (start_of t.root target from) ways.Top
    (parts_of ending.Dot target ++ rest))
    (λ from target rest. fewer links _ (shrinks t mode links (start_of t.root target from) ways.Top (parts_of ending.Dot target ++ rest))) ps dir
    way

-- what comes after a first part, by the directory and the links used there
then_on : (t : RootedTree) (mode : Last) (links : ℕ) (r : Resolved) (next : Part) (rest : List Part) (further : ℕ × ℕ → Result Found Errno) →
    links ≤ most_links → Shrinks links r →
    ((dir used : ℕ) → used ≤ most_links → (resolve_parts (most_links - used) t mode dir ways.Top (next ∷ rest) >>= λ found. Ok found.0)
    ≡ further (dir, used)) →
    ((r >>= onwards t mode (next ∷ rest)) >>= λ found. Ok found.0) ≡ ((r >>= dir_with_links) >>= further)
then_on t mode links (Err errno) next rest further l h k = refl
then_on t mode links (Ok (Slot dir name _, left)) next rest further l h k = refl
then_on t mode links (Ok (Whole dir way, left)) next rest further l h k =
    let same : most_links - (most_links - left) ≡ left = omega (arith, h, l) in
    let fits : most_links - left ≤ most_links = omega arith in
    ap (λ n. resolve_parts n t mode dir ways.Top (next ∷ rest) >>= λ found. Ok found.0) (sym same) ∙ k dir (most_links - left) fits

bind_assoc : {A B C : Type 0} (r : Result A Errno) (f : A → Result B Errno) (g : B → Result C Errno) →
    ((r >>= f) >>= g) ≡ (r >>= λ x. f x >>= g)
bind_assoc (Ok x) f g = refl
bind_assoc (Err e) f g = refl

pub steps_compose : StepsCompose
steps_compose t mode dir used [] q l = refl
steps_compose t mode dir used (p ∷ []) q l =
    ap (λ r. r >>= λ found. Ok found.0) (composes t mode (most_links - used) dir ways.Top (p ∷ []) q [])
    ∙ then_on t mode (most_links - used) (resolve_parts (most_links - used) t Followed dir ways.Top (p ∷ parts.Dot ∷ [])) q []
    (λ at. last t at.0 at.1 q mode)
    (omega arith) (shrinks t Followed (most_links - used) dir ways.Top (p ∷ parts.Dot ∷ [])) (λ dir used l. refl)
    ∙ sym (bind_assoc (step t dir used p) (λ at. Ok at) (λ at. last t at.0 at.1 q mode))
steps_compose t mode dir used (p ∷ next ∷ ps) q l =
    ap (λ r. r >>= λ found. Ok found.0) (composes t mode (most_links - used) dir ways.Top (p ∷ []) next (ps ++ q ∷ []))
    ∙ then_on t mode (most_links - used) (resolve_parts (most_links - used) t Followed dir ways.Top (p ∷ parts.Dot ∷ [])) next
    (ps ++ q ∷ [])
    (λ at. steps t (next ∷ ps) at >>= λ at. last t at.0 at.1 q mode)
    (omega arith) (shrinks t Followed (most_links - used) dir ways.Top (p ∷ parts.Dot ∷ []))
    (λ dir used l. steps_compose t mode dir used (next ∷ ps) q l)
    ∙ sym (bind_assoc (step t dir used p) (steps t (next ∷ ps)) (λ at. last t at.0 at.1 q mode))
