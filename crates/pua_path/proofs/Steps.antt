-- What one part does to a resolution.
use Rattle.pua_path.proofs.Common.{RootedTree, above_in}
use Rattle.pua_path.proofs.Common.{◌≡◌, ℕ, zero, suc, true, false, List, [], ◌∷◌, ◌++◌, Some, None, refl, sym, ap, ◌∙◌, Ok, Err, arith}
use Rattle.pua_path.proofs.Common.{Bool, ◌<◌, ◌-◌, length, if◌then◌else◌, ◌==◌, part_of, parts_of, has_no_part, rest_parts}
use Rattle.pua_path.proofs.Common.{Resolved, Standing, Directory, Linked, Plain, Nothing, standing_at, is_followed, slot_or, walk, start_of}
use Rattle.pua_path.proofs.Common.{resolve_parts, ENOENT, ENOTDIR, Part, Last, Followed, Kept, Way, Whole, Slot}
use Rattle.pua_path.proofs.Pieces.{no_part_left}
use Rattle.pua_path.specs.Onward.{Onward, Goes, Follows, Ends, Fails, followed, onward_at, onward_by}
use Rattle.pua_path.specs.declared.text.Ending.TheVariants as ending
use Rattle.pua_path.specs.declared.found.Part.TheVariants as parts
use Rattle.pua_path.specs.declared.found.Way.TheVariants as ways

-- what comes of what stands at a name
abbrev pub met : RootedTree → Last → ℕ → (ℕ → List ℕ → List Part → Resolved) → ℕ → List ℕ → List Part → Standing → Resolved
met t mode links follow dir name rest (Directory x) = walk t mode links follow x (ways.Named dir name) rest
met t mode links follow dir name rest (Linked x target) =
    if is_followed mode rest then follow dir target rest else Ok (Slot dir name (Some x), links)
met t mode links follow dir name rest (Plain x) = slot_or rest (Slot dir name (Some x)) ENOTDIR links
met t mode links follow dir name rest Nothing = slot_or rest (Slot dir name None) ENOENT links

pub walk_name : (t : RootedTree) (mode : Last) (links : ℕ) (follow : ℕ → List ℕ → List Part →
    Resolved) (dir : ℕ) (way : Way) (name : List ℕ) (rest : List Part) →
    walk t mode links follow dir way (parts.Name name ∷ rest) ≡ met t mode links follow dir name rest (standing_at t.tree dir name)
walk_name t mode links follow dir way name rest = elim (standing_at t.tree dir name) as (λ s.
    ◌≡◌ {A = Resolved} (elim s [
      | Directory x ↦ walk t mode links follow x (ways.Named dir name) rest
      | Linked x target ↦ if is_followed mode rest then follow dir target rest else Ok (Slot dir name (Some x), links)
      | Plain x ↦ slot_or rest (Slot dir name (Some x)) ENOTDIR links
      | Nothing ↦ slot_or rest (Slot dir name None) ENOENT links
    ]) (met t mode links follow dir name rest s)) [
      | Directory x ↦ refl
      | Linked x target ↦ refl
      | Plain x ↦ refl
      | Nothing ↦ refl
    ]

-- what the parts behind one come to, by what that leads to
abbrev pub led_on : RootedTree → Last → ℕ → ℕ → List Part → Onward → Resolved
led_on t mode links dir rest (Goes x way) = resolve_parts links t mode x way rest
led_on t mode links dir rest (Follows target) = followed links t mode dir target rest
led_on t mode links dir rest (Ends found) = Ok (found, links)
led_on t mode links dir rest (Fails errno) = Err errno

module _ (t : RootedTree) (mode : Last) where
  pub resolve_walks : (links dir : ℕ) (way : Way) (ps : List Part) →
      resolve_parts links t mode dir way ps ≡ walk t mode links (followed links t mode) dir way ps
  resolve_walks zero dir way ps = refl
  resolve_walks (suc links) dir way ps = refl

  pub resolve_end : (links dir : ℕ) (way : Way) → resolve_parts links t mode dir way [] ≡ Ok (Whole dir way, links)
  resolve_end zero dir way = refl
  resolve_end (suc links) dir way = refl

  pub resolve_dot : (links dir : ℕ) (way : Way) (rest : List Part) →
      resolve_parts links t mode dir way (parts.Dot ∷ rest) ≡ resolve_parts links t mode dir ways.Dot rest
  resolve_dot zero dir way rest = refl
  resolve_dot (suc links) dir way rest = refl

  pub resolve_dotdot : (links dir : ℕ) (way : Way) (rest : List Part) →
      resolve_parts links t mode dir way (parts.DotDot ∷ rest) ≡ resolve_parts links t mode (above_in t dir) ways.DotDot rest
  resolve_dotdot zero dir way rest = refl
  resolve_dotdot (suc links) dir way rest = refl

  pub resolve_name : (links dir : ℕ) (way : Way) (name : List ℕ) (rest : List Part) (s : Standing) → s ≡ standing_at t.tree dir name →
      resolve_parts links t mode dir way (parts.Name name ∷ rest) ≡ met t mode links (followed links t mode) dir name rest s
  resolve_name links dir way name rest s e =
      resolve_walks links dir way (parts.Name name ∷ rest) ∙ walk_name t mode links (followed links t mode) dir way name rest
      ∙ ap (met t mode links (followed links t mode) dir name rest) (sym e)

  pub resolve_directory : (links dir : ℕ) (way : Way) (name : List ℕ) (rest : List Part) (x : ℕ) → Directory x ≡ standing_at t.tree dir name →
      resolve_parts links t mode dir way (parts.Name name ∷ rest) ≡ resolve_parts links t mode x (ways.Named dir name) rest
  resolve_directory links dir way name rest x e = resolve_name links dir way name rest (Directory x) e ∙
      sym (resolve_walks links x (ways.Named dir name) rest)

  pub resolve_kept : (links dir : ℕ) (way : Way) (name : List ℕ) (rest : List Part) (x : ℕ) (target : List ℕ) →
      Linked x target ≡ standing_at t.tree dir name → is_followed mode rest ≡ false →
      resolve_parts links t mode dir way (parts.Name name ∷ rest) ≡ Ok (Slot dir name (Some x), links)
  resolve_kept links dir way name rest x target e k =
      resolve_name links dir way name rest (Linked x target) e ∙
      ap (λ v. if v then followed links t mode dir target rest else Ok (Slot dir name (Some x), links)) k

  pub resolve_linked : (links dir : ℕ) (way : Way) (name : List ℕ) (rest : List Part) (x : ℕ) (target : List ℕ) →
      Linked x target ≡ standing_at t.tree dir name → is_followed mode rest ≡ true →
      resolve_parts links t mode dir way (parts.Name name ∷ rest) ≡ followed links t mode dir target rest
  resolve_linked links dir way name rest x target e k =
      resolve_name links dir way name rest (Linked x target) e ∙
      ap (λ v. if v then followed links t mode dir target rest else Ok (Slot dir name (Some x), links)) k

  -- how a directory was named matters where no part is left alone
  pub resolve_passed : (links dir : ℕ) (way other : Way) (rest : List Part) → has_no_part rest ≡ false →
      resolve_parts links t mode dir way rest ≡ resolve_parts links t mode dir other rest
  resolve_passed links dir way other [] d = cc
  resolve_passed links dir way other (parts.Dot ∷ rest) d = resolve_dot links dir way rest ∙ sym (resolve_dot links dir other rest)
  resolve_passed links dir way other (parts.DotDot ∷ rest) d = resolve_dotdot links dir way rest ∙ sym (resolve_dotdot links dir other rest)
  resolve_passed links dir way other (parts.Name name ∷ rest) d =
      resolve_name links dir way name rest (standing_at t.tree dir name) refl ∙
      sym (resolve_name links dir other name rest (standing_at t.tree dir name) refl)

-- what stands at a name leads on so
met_onward : (t : RootedTree) (mode : Last) (links dir : ℕ) (name : List ℕ) (rest : List Part) (s : Standing) →
    met t mode links (followed links t mode) dir name rest s ≡ led_on t mode links dir rest (onward_at mode dir name (has_no_part rest) s)
met_onward t mode links dir name [] (Directory x) = refl
met_onward t mode links dir name (p ∷ ps) (Directory x) =
    sym (resolve_walks t mode links x (ways.Named dir name) (p ∷ ps))
    ∙ resolve_passed t mode links x (ways.Named dir name) ways.Top (p ∷ ps) refl
met_onward t Followed links dir name rest (Linked x target) = refl
met_onward t Kept links dir name [] (Linked x target) = refl
met_onward t Kept links dir name (p ∷ ps) (Linked x target) = refl
met_onward t mode links dir name [] (Plain x) = refl
met_onward t mode links dir name (p ∷ ps) (Plain x) = refl
met_onward t mode links dir name [] Nothing = refl
met_onward t mode links dir name (p ∷ ps) Nothing = refl

-- and so does a part
pub resolve_onward : (t : RootedTree) (mode : Last) (links dir : ℕ) (way : Way) (part : Part) (rest : List Part) (last : Bool) (r : Onward) →
    last ≡ has_no_part rest → r ≡ onward_by t mode dir part last →
    resolve_parts links t mode dir way (part ∷ rest) ≡ led_on t mode links dir rest r
resolve_onward t mode links dir way part rest last r l e =
    by part
    ∙ ap (led_on t mode links dir rest) (sym (e ∙ ap (onward_by t mode dir part) l))
  where
    by : (p : Part) → resolve_parts links t mode dir way (p ∷ rest)
        ≡ led_on t mode links dir rest (onward_by t mode dir p (has_no_part rest))
    by parts.Dot = resolve_dot t mode links dir way rest
    by parts.DotDot = resolve_dotdot t mode links dir way rest
    by (parts.Name name) =
        resolve_name t mode links dir way name rest (standing_at t.tree dir name) refl
        ∙ met_onward t mode links dir name rest (standing_at t.tree dir name)

-- and the first piece of what is left of a text
pub text_onward : (t : RootedTree) (mode : Last) (links dir : ℕ) (way : Way) (text piece rest : List ℕ) (last : Bool) (r : Onward) →
    rest_parts text ≡ part_of piece ∷ rest_parts rest → last ≡ (length rest == 0) → r ≡ onward_by t mode dir (part_of piece) last →
    resolve_parts links t mode dir way (rest_parts text) ≡ led_on t mode links dir (rest_parts rest) r
text_onward t mode links dir way text piece rest last r p l e =
    ap (resolve_parts links t mode dir way) p
    ∙ resolve_onward t mode links dir way (part_of piece) (rest_parts rest) last r (l ∙ no_part_left rest) e

-- a link that may be followed, by where the walk is then
pub followed_on : (t : RootedTree) (mode : Last) (links from : ℕ) (target : List ℕ) (rest : List Part) (after here : ℕ) (way : Way)
    (ps : List Part) → 0 < links → after ≡ links - 1 → here ≡ start_of t.root target from → way ≡ ways.Top →
    ps ≡ parts_of ending.Dot target ++ rest → followed links t mode from target rest ≡ resolve_parts after t mode here way ps
followed_on t mode zero from target rest after here way ps l a h w p = absurd (omega (arith, l))
followed_on t mode (suc links) from target rest after here way ps l a h w p =
    let one : after ≡ links = omega (arith, a) in rw (one, h, w, p) refl
