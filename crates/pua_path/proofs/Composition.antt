-- Resolution may be cut before any further part.
use Rattle.pua_path.proofs.Common.{RootedTree}
use Rattle.pua_path.proofs.Common.{◌≡◌, ℕ, zero, suc, List, [], ◌∷◌, ◌++◌, true, refl, sym, ap, ◌∙◌, append_assoc, if◌then◌else◌}
use Rattle.pua_path.proofs.Common.{◌>>=◌, parts_of, Resolved, Directory, Linked, Plain, Nothing, standing_at, is_followed, slot_or, walk}
use Rattle.pua_path.proofs.Common.{start_of, resolve_parts, Errno, ENOENT, ENOTDIR, ELOOP, Part, Last, Followed, Kept, Way, Named, Dot}
use Rattle.pua_path.proofs.Common.{DotDot, Top, Found, Slot}
use Rattle.std.specs.Prelude.{Ok, Err, Some, None}
use Rattle.pua_path.specs.Laws.{onwards, ResolutionComposes}
use Rattle.pua_path.specs.declared.text.Ending.TheVariants as ending
use Rattle.pua_path.specs.declared.found.Part.TheVariants as parts

-- before a further part each link is followed
followed_before : (mode : Last) (ps : List Part) (q : Part) (qs : List Part) → is_followed mode (ps ++ q ∷ qs) ≡ true
followed_before Followed ps q qs = refl
followed_before Kept [] q qs = refl
followed_before Kept (p ∷ ps) q qs = refl

-- and nothing else is found
stopped_before : (ps : List Part) (q : Part) (qs : List Part) (found : Found) (errno : Errno) (links : ℕ) →
    slot_or (ps ++ q ∷ qs) found errno links ≡ Err errno
stopped_before [] q qs found errno links = refl
stopped_before (p ∷ ps) q qs found errno links = refl

-- the way is that of the last part
way_forgotten : (t : RootedTree) (mode : Last) (links : ℕ) (follow : ℕ → List ℕ → List Part →
    Resolved) (dir : ℕ) (way other : Way) (q : Part) (qs : List Part) →
    walk t mode links follow dir way (q ∷ qs) ≡ walk t mode links follow dir other (q ∷ qs)
way_forgotten t mode links follow dir way other parts.Dot qs = refl
way_forgotten t mode links follow dir way other parts.DotDot qs = refl
way_forgotten t mode links follow dir way other (parts.Name name) qs = refl

module _ (t : RootedTree) (mode : Last) (links : ℕ) (q : Part) (qs : List Part)
    (follow follow_first : ℕ → List ℕ → List Part → Resolved)
    (follows : (from : ℕ) (target : List ℕ) (rest : List Part) →
    follow from target (rest ++ q ∷ qs) ≡ (follow_first from target (rest ++ parts.Dot ∷ []) >>= onwards t mode (q ∷ qs)))
    (begins : (dir : ℕ) → walk t mode links follow dir Top (q ∷ qs) ≡ resolve_parts links t mode dir Top (q ∷ qs)) where
  walk_composes : (ps : List Part) (dir : ℕ) (way : Way) →
      walk t mode links follow dir way (ps ++ q ∷ qs) ≡ (walk t Followed links follow_first dir way (ps ++ parts.Dot ∷ []) >>= onwards t
      mode (q ∷ qs))
  walk_composes [] dir way = way_forgotten t mode links follow dir way Top q qs ∙ begins dir
  walk_composes (parts.Dot ∷ ps) dir way = walk_composes ps dir Dot
  walk_composes (parts.DotDot ∷ ps) dir way = walk_composes ps _ DotDot
  walk_composes (parts.Name name ∷ ps) dir way = elim (standing_at t.tree dir name) as (λ s.
      ◌≡◌ {A = Resolved} (elim s [
        | Directory x ↦ walk t mode links follow x (Named dir name) (ps ++ q ∷ qs)
        | Linked x target ↦ if is_followed mode (ps ++ q ∷ qs) then follow dir target (ps ++ q ∷ qs) else Ok (Slot dir name (Some x), links)
        | Plain x ↦ slot_or (ps ++ q ∷ qs) (Slot dir name (Some x)) ENOTDIR links
        | Nothing ↦ slot_or (ps ++ q ∷ qs) (Slot dir name None) ENOENT links
      ])
      ((elim s [
        | Directory x ↦ walk t Followed links follow_first x (Named dir name) (ps ++ parts.Dot ∷ [])
        | Linked x target ↦ follow_first dir target (ps ++ parts.Dot ∷ [])
        | Plain x ↦ slot_or (ps ++ parts.Dot ∷ []) (Slot dir name (Some x)) ENOTDIR links
        | Nothing ↦ slot_or (ps ++ parts.Dot ∷ []) (Slot dir name None) ENOENT links
      ]) >>= onwards t mode (q ∷ qs))) [
        | Directory x ↦ walk_composes ps x (Named dir name)
        | Linked x target ↦ rw (followed_before mode ps q qs) (follows dir target ps)
        | Plain x ↦ rw (stopped_before ps q qs, stopped_before ps parts.Dot []) refl
        | Nothing ↦ rw (stopped_before ps q qs, stopped_before ps parts.Dot []) refl
      ]

pub composes : ResolutionComposes
composes t mode zero dir way ps q qs =
    walk_composes t mode 0 q qs (λ _ _ _. Err ELOOP) (λ _ _ _. Err ELOOP) (λ _ _ _. refl) (λ _. refl) ps dir way
composes t mode (suc links) dir way ps q qs =
    walk_composes t mode (suc links) q qs _ _
    (λ from target rest. ap (resolve_parts links t mode (start_of t.root target from) Top)
    (sym (append_assoc (parts_of ending.Dot target) rest (q ∷ qs)))
    ∙ composes t mode links (start_of t.root target from) Top (parts_of ending.Dot target ++ rest) q qs
    ∙ ap (λ ps. resolve_parts links t Followed (start_of t.root target from) Top ps >>= onwards t mode (q ∷ qs))
    (append_assoc (parts_of ending.Dot target) rest (parts.Dot ∷ [])))
    (λ _. refl) ps dir way
