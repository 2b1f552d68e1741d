-- How an answer depends on the links that may be followed.
use Rattle.pua_path.proofs.Common.{RootedTree}
use Rattle.pua_path.proofs.Common.{◌≡◌, ℕ, zero, suc, Bool, true, false, List, [], ◌∷◌, ◌++◌, Some, None, refl, ap, ◌∙◌, arith, ◌+◌, ◌-◌}
use Rattle.pua_path.proofs.Common.{◌≤◌, ◌<◌, Result, Ok, Err, ◌>>=◌, parts_of, Resolved, Standing, Directory, Linked, Plain, Nothing}
use Rattle.pua_path.proofs.Common.{standing_at, is_followed, slot_or, start_of, resolve_parts, dir_with_links, step, last, most_links}
use Rattle.pua_path.proofs.Common.{Errno, ENOENT, ENOTDIR, ELOOP, Part, Last, Followed, Way, Found, Whole, Slot}
use Rattle.std.proofs.Common.{◌⊎◌, inl, inr}
use Rattle.pua_path.specs.Laws.{IsDecidedByLinks, LinksDecide, StepFollows, StepsFollow, LastFollows, LastsFollow}
use Rattle.pua_path.specs.declared.text.Ending.TheVariants as ending
use Rattle.pua_path.specs.declared.found.Part.TheVariants as parts
use Rattle.pua_path.specs.declared.found.Way.TheVariants as ways
use Rattle.pua_path.specs.Onward.{followed}
use Rattle.pua_path.proofs.Steps.{resolve_end, resolve_dot, resolve_dotdot, resolve_directory, resolve_name, resolve_kept}
use Rattle.pua_path.proofs.Steps.{resolve_linked}

-- answers that agree are decided alike
decided_alike : (f g : ℕ → Resolved) (most : ℕ) → ((links : ℕ) → f links ≡ g links) → IsDecidedByLinks g most → IsDecidedByLinks f most
decided_alike f g most same (inl loops) = inl (λ links l. same links ∙ loops links l)
decided_alike f g most same (inr (count, (outcome, (l, h)))) =
    inr (
      count,
      (
        outcome,
        (l, record { enough = λ links k. same links ∙ h.enough links k; too_few = λ links k. same links ∙ h.too_few links k }),
      ),
    )

-- an answer that follows no link
follows_none : (outcome : Result Found Errno) (most : ℕ) (f : ℕ → Resolved) →
    ((links : ℕ) → f links ≡ (outcome >>= λ found. Ok (found, links))) → IsDecidedByLinks f most
follows_none outcome most f same = inr (
  0,
  (
    outcome,
    (
      omega arith,
      record {
        enough = λ links k. same links ∙
            (let whole : links ≡ links - 0 = omega arith in ap (λ n. outcome >>= λ found. Ok (found, n)) whole);
        too_few = λ links k. absurd (omega (arith, k));
      },
    ),
  ),
)

slot_alone : (ps : List Part) (found : Found) (errno : Errno) (links : ℕ) →
    slot_or ps found errno links ≡ ((slot_or ps found errno 0 >>= λ f. Ok f.0) >>= λ f. Ok (f, links))
slot_alone [] found errno links = refl
slot_alone (p ∷ ps) found errno links = refl

module _ (t : RootedTree) (mode : Last) (most : ℕ)
    (links_decide : (from : ℕ) (target : List ℕ) (rest : List Part) →
    IsDecidedByLinks (λ links. followed links t mode from target rest) most) where
  name_decides : (dir : ℕ) (way : Way) (name : List ℕ) (ps : List Part) →
      ((x : ℕ) → IsDecidedByLinks (λ links. resolve_parts links t mode x (ways.Named dir name) ps) most) →
      (s : Standing) → s ≡ standing_at t.tree dir name →
      IsDecidedByLinks (λ links. resolve_parts links t mode dir way (parts.Name name ∷ ps)) most
  name_decides dir way name ps further (Directory x) e =
      decided_alike _ (λ links. resolve_parts links t mode x (ways.Named dir name) ps) most
      (λ links. resolve_directory t mode links dir way name ps x e) (further x)
  name_decides dir way name ps further (Linked x target) e = by (is_followed mode ps) refl
    where
      by : (v : Bool) → is_followed mode ps ≡ v → IsDecidedByLinks (λ links. resolve_parts links t mode dir way (parts.Name name ∷ ps)) most
      by true k = decided_alike _ (λ links. followed links t mode dir target ps) most (λ links. resolve_linked t mode links dir way name ps
          x target e k) (links_decide dir target ps)
      by false k = follows_none (Ok (Slot dir name (Some x))) most _ (λ links. resolve_kept t mode links dir way name ps x target e k)
  name_decides dir way name ps further (Plain x) e =
      follows_none (slot_or ps (Slot dir name (Some x)) ENOTDIR 0 >>= λ f. Ok f.0) most _
      (λ links. resolve_name t mode links dir way name ps (Plain x) e ∙ slot_alone ps (Slot dir name (Some x)) ENOTDIR links)
  name_decides dir way name ps further Nothing e =
      follows_none (slot_or ps (Slot dir name None) ENOENT 0 >>= λ f. Ok f.0) most _ (λ links. resolve_name t mode links dir way name ps
      Nothing e ∙ slot_alone ps (Slot dir name None) ENOENT links)

  parts_decide : (ps : List Part) (dir : ℕ) (way : Way) → IsDecidedByLinks (λ links. resolve_parts links t mode dir way ps) most
  parts_decide [] dir way = follows_none (Ok (Whole dir way)) most _ (λ links. resolve_end t mode links dir way)
  parts_decide (parts.Dot ∷ ps) dir way =
      decided_alike _ (λ links. resolve_parts links t mode dir ways.Dot ps) most (λ links. resolve_dot t mode links dir way ps)
      (parts_decide ps dir ways.Dot)
  parts_decide (parts.DotDot ∷ ps) dir way =
      decided_alike _ (λ links. resolve_parts links t mode _ ways.DotDot ps) most (λ links. resolve_dotdot t mode links dir way ps)
      (parts_decide ps _ ways.DotDot)
  parts_decide (parts.Name name ∷ ps) dir way =
      name_decides dir way name ps (λ x. parts_decide ps x (ways.Named dir name)) (standing_at t.tree dir name) refl

-- one link more
one_more_link : (g : ℕ → Resolved) (f : ℕ → Resolved) (most : ℕ) → f zero ≡ Err ELOOP → ((links : ℕ) → f (suc links) ≡ g links) →
    IsDecidedByLinks g most → IsDecidedByLinks f (suc most)
one_more_link g f most none some (inl loops) = inl loop
  where
    loop : (links : ℕ) → links ≤ suc most → f links ≡ Err ELOOP
    loop zero l = none
    loop (suc links) l = some links ∙ loops links (omega (arith, l))
one_more_link g f most none some (inr (count, (outcome, (l, h)))) =
    inr (suc count, (outcome, (omega (arith, l), record { enough = enough; too_few = too_few })))
  where
    enough : (links : ℕ) → suc count ≤ links → f links ≡ (outcome >>= λ found. Ok (found, links - suc count))
    enough zero k = absurd (omega (arith, k))
    enough (suc links) k = some links ∙ h.enough links (omega (arith, k)) ∙ (let same : links - count ≡ suc links - suc count =
        omega arith in ap (λ n. outcome >>= λ found. Ok (found, n)) same)

    too_few : (links : ℕ) → links < suc count → f links ≡ Err ELOOP
    too_few zero k = none
    too_few (suc links) k = some links ∙ h.too_few links (omega (arith, k))

pub links_decide : LinksDecide
links_decide t mode dir way ps zero =
    parts_decide t mode 0 (λ from target rest. inl (λ links l. no_links from target rest links (omega (arith, l)))) ps dir way
  where
    no_links : (from : ℕ) (target : List ℕ) (rest : List Part) (links : ℕ) → links ≡ 0 → followed links t mode from target rest ≡ Err ELOOP
    no_links from target rest links e = ap (λ n. followed n t mode from target rest) e
links_decide t mode dir way ps (suc most) =
    parts_decide t mode (suc most)
    (λ from target rest. one_more_link (λ links. resolve_parts links t mode (start_of t.root target from) ways.Top (parts_of ending.Dot target
    ++ rest)) (λ links. followed links t mode from target rest) most refl (λ links. refl)
    (links_decide t mode (start_of t.root target from) ways.Top (parts_of ending.Dot target ++ rest) most)) ps dir way

-- the directory that a step leads to
place : Found → Result ℕ Errno
place (Whole dir way) = Ok dir
place (Slot dir name _) = Err ENOTDIR

reached_after : (outcome : Result Found Errno) (left total : ℕ) → most_links - left ≡ total →
    ((outcome >>= λ found. Ok (found, left)) >>= dir_with_links) ≡ ((outcome >>= place) >>= λ dir. Ok (dir, total))
unfolding place
reached_after (Err errno) left total e = refl
reached_after (Ok (Whole dir way)) left total e = ap (λ n. Ok (dir, n)) e
reached_after (Ok (Slot dir name _)) left total e = refl

pub steps_follow : StepsFollow
steps_follow t dir part = by (links_decide t Followed dir ways.Top (part ∷ parts.Dot ∷ []) most_links)
  where
    by : IsDecidedByLinks (λ links. resolve_parts links t Followed dir ways.Top (part ∷ parts.Dot ∷ [])) most_links →
        ((used : ℕ) → used ≤ most_links → step t dir used part ≡ Err ELOOP) ⊎ ((count : ℕ) ×
        ((outcome : Result ℕ Errno) × StepFollows t dir part count outcome))
    by (inl loops) = inl (λ used l. ap (λ r. r >>= dir_with_links) (loops (most_links - used) (omega arith)))
    by (inr (count, (outcome, (l, h)))) = inr (
      count,
      (
        (outcome >>= place),
        record {
          enough = λ used k.
              ap (λ r. r >>= dir_with_links) (h.enough (most_links - used) (omega (arith, k)))
              ∙ reached_after outcome (most_links - used - count) (used + count) (omega (arith, k));
          too_few = λ used m k. ap (λ r. r >>= dir_with_links) (h.too_few (most_links - used) (omega (arith, m, k)));
        },
      ),
    )

found_after : (outcome : Result Found Errno) (left : ℕ) (answer : Resolved) → answer ≡ (outcome >>= λ found. Ok (found, left)) →
    (answer >>= λ found. Ok found.0) ≡ outcome
found_after (Err errno) left answer e = ap (λ (r : Resolved). r >>= λ found. Ok found.0) e
found_after (Ok found) left answer e = ap (λ (r : Resolved). r >>= λ found. Ok found.0) e

pub lasts_follow : LastsFollow
lasts_follow t dir part mode = by (links_decide t mode dir ways.Top (part ∷ []) most_links)
  where
    by : IsDecidedByLinks (λ links. resolve_parts links t mode dir ways.Top (part ∷ [])) most_links →
        ((used : ℕ) → used ≤ most_links → last t dir used part mode ≡ Err ELOOP) ⊎ ((count : ℕ) ×
        ((outcome : Result Found Errno) × LastFollows t dir part mode count outcome))
    by (inl loops) = inl (λ used l. ap (λ r. r >>= λ found. Ok found.0) (loops (most_links - used) (omega arith)))
    by (inr (count, (outcome, (l, h)))) = inr (
      count,
      (
        outcome,
        record {
          enough = λ used k. found_after outcome (most_links - used - count) _ (h.enough (most_links - used) (omega (arith, k)));
          too_few = λ used m k. ap (λ r. r >>= λ found. Ok found.0) (h.too_few (most_links - used) (omega (arith, m, k)));
        },
      ),
    )
