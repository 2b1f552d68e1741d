-- A part that another follows, by the part alone: what was found there, and the errno where it is no directory.
use Rattle.pua_path.proofs.Common.{Tree, RootedTree, Start, rooted, seen_from, starts}
use Rattle.pua_path.proofs.Common.{◌≡◌, ℕ, zero, suc, Bool, true, false, List, [], ◌∷◌, ◌++◌, Some, None, refl, sym, ap, ◌∙◌, append_assoc}
use Rattle.pua_path.proofs.Common.{◌-◌, Result, Ok, Err, if◌then◌else◌, not, ◌>>=◌, parts_of, Resolved}
use Rattle.pua_path.proofs.Common.{Standing, Directory, Linked, Plain, Nothing, standing_at, walk, start_of, resolve_parts, resolution}
use Rattle.pua_path.proofs.Common.{dir_with_links, step, most_links, Errno, ENOENT, ENOTDIR, ELOOP, Ending, Part, Last, Followed, Way}
use Rattle.pua_path.proofs.Common.{Found, Whole, Slot}
use Rattle.std.proofs.Common.{is_some}
use Rattle.pua_path.specs.declared.text.Ending.TheVariants as ending
use Rattle.pua_path.specs.declared.found.Part.TheVariants as parts
use Rattle.pua_path.specs.declared.found.Way.TheVariants as ways
use Rattle.pua_path.proofs.Steps.{met, walk_name}

-- the directory found and the links followed by then, of a part that was resolved as if none followed
abbrev pub arrived : Found × ℕ → Result (ℕ × ℕ) Errno
arrived (Whole dir way, links) = Ok (dir, most_links - links)
arrived (Slot dir name node, links) = Err (if is_some node then ENOTDIR else ENOENT)

module _ (t : RootedTree) (links : ℕ) (follow : ℕ → List ℕ → List Part → Resolved)
    (follows : (from : ℕ) (target : List ℕ) (rest : List Part) →
    (follow from target (rest ++ parts.Dot ∷ []) >>= dir_with_links) ≡ (follow from target rest >>= arrived)) where
  met_arrives : (ps : List Part) (dir : ℕ) (name : List ℕ) (s : Standing) →
      ((x : ℕ) → (walk t Followed links follow x (ways.Named dir name) (ps ++ parts.Dot ∷ []) >>= dir_with_links)
      ≡ (walk t Followed links follow x (ways.Named dir name) ps >>= arrived)) →
      (met t Followed links follow dir name (ps ++ parts.Dot ∷ []) s >>= dir_with_links)
      ≡ (met t Followed links follow dir name ps s >>= arrived)
  met_arrives ps dir name (Directory x) further = further x
  met_arrives ps dir name (Linked x target) further = follows dir target ps
  met_arrives [] dir name (Plain x) further = refl
  met_arrives (p ∷ ps) dir name (Plain x) further = refl
  met_arrives [] dir name Nothing further = refl
  met_arrives (p ∷ ps) dir name Nothing further = refl

  walk_arrives : (ps : List Part) (dir : ℕ) (way : Way) → (walk t Followed links follow dir way (ps ++ parts.Dot ∷ []) >>= dir_with_links)
      ≡ (walk t Followed links follow dir way ps >>= arrived)
  walk_arrives [] dir way = refl
  walk_arrives (parts.Dot ∷ ps) dir way = walk_arrives ps dir ways.Dot
  walk_arrives (parts.DotDot ∷ ps) dir way = walk_arrives ps _ ways.DotDot
  walk_arrives (parts.Name name ∷ ps) dir way =
      ap (λ r. r >>= dir_with_links) (walk_name t Followed links follow dir way name (ps ++ parts.Dot ∷ []))
      ∙ met_arrives ps dir name (standing_at t.tree dir name) (λ x. walk_arrives ps x (ways.Named dir name))
      ∙ sym (ap (λ r. r >>= arrived) (walk_name t Followed links follow dir way name ps))

pub arrives : (t : RootedTree) (links dir : ℕ) (way : Way) (ps : List Part) →
    (resolve_parts links t Followed dir way (ps ++ parts.Dot ∷ []) >>= dir_with_links)
    ≡ (resolve_parts links t Followed dir way ps >>= arrived)
arrives t zero dir way ps = walk_arrives t 0 (λ from target rest. Err ELOOP) (λ from target rest. refl) ps dir way
arrives t (suc links) dir way ps =
    walk_arrives t (suc links) (λ from target rest. resolve_parts links t Followed (start_of t.root target from) ways.Top
    (parts_of ending.Dot target ++ rest))
    (λ from target rest. ap (λ qs. resolve_parts links t Followed (start_of t.root target from) ways.Top qs >>= dir_with_links)
    (sym (append_assoc (parts_of ending.Dot target) rest (parts.Dot ∷ [])))
    ∙ arrives t links (start_of t.root target from) ways.Top (parts_of ending.Dot target ++ rest)) ps dir way

-- a step is the part alone, resolved and arrived at
pub step_arrives : (t : RootedTree) (dir used : ℕ) (part : Part) (found : Resolved) →
    found ≡ resolve_parts (most_links - used) t Followed dir ways.Top (part ∷ []) → (found >>= arrived) ≡ step t dir used part
step_arrives t dir used part found e = ap (λ r. r >>= arrived) e ∙ sym (arrives t (most_links - used) dir ways.Top (part ∷ []))

pub starts_at : (guard : Bool) (start begin : Start) (further : Start → Result Found Errno) →
    Some start ≡ (if guard then None else Some begin) → further start ≡ (if guard then Err ENOENT else further begin)
starts_at true start begin further e = cc
starts_at false start begin further e = let same : start ≡ begin = cc in ap further same

-- where a text starts, beside the root by which it goes on
abbrev pub begun : Tree → Start → List ℕ → Start
begun t from text = record { root = (seen_from t from).root; dir = start_of from.root text from.dir }

-- the resolution of a path from where it starts
pub resolution_starts : (t : Tree) (from : Start) (end : Ending) (text : List ℕ) (mode : Last) (start : Start) (found : Result Found Errno) →
    Some start ≡ (if not (starts t from text) then None else Some (begun t from text)) →
    found ≡ (resolve_parts most_links (rooted t start.root) mode start.dir ways.Top (parts_of end text) >>= λ f. Ok f.0) →
    found ≡ resolution t from end text mode
resolution_starts t from end text mode start found s e =
    e ∙ starts_at (not (starts t from text)) start (begun t from text)
    (λ begin. resolve_parts most_links (rooted t begin.root) mode begin.dir ways.Top (parts_of end text) >>= λ f. Ok f.0) s
