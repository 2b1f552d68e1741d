-- Rows by the keys of a map, and the same rows by their spots.
use Rattle.pua_tree.proofs.Common.{◌≡◌, ◌<◌, ◌&&◌, ◌||◌, ◌==◌, ◌++◌, ◌-◌, ◌⊎◌, ℕ, zero, suc, Bool, true, false, cond, List, [], ◌∷◌, map, length}
use Rattle.pua_tree.proofs.Common.{Option, Some, None, is_some}
use Rattle.pua_tree.proofs.Common.{refl, sym, ap, subst, ◌∙◌, arith, inl, inr, true≢false, eqb-true, eq-eqb, and_parts, same_from_decides}
use Rattle.pua_tree.proofs.Common.{bytes_decides, same_bytes, lookup, keys_of, list_any, get_or, option_map, map-append, append_assoc, lent_entry}
use Rattle.pua_tree.proofs.Common.{Spot as TreeSpot}
use Rattle.std.specs.Prelude.{All, slice_get}
use Rattle.std.specs.List.{IsDistinct, AllByRecursion, position, swap_remove}
use Rattle.std.proofs.lemmas.Bool.{cases_order}
use Rattle.std.proofs.lemmas.List.Elements.{All-head, All-tail, All-take, All-set, All-cons, All-weaker}
use Rattle.std.proofs.lemmas.List.Folds.{list_any_at}
use Rattle.std.proofs.lemmas.List.Quantifiers.{position-Some}
use Rattle.std.proofs.lemmas.List.{length-append}
use Rattle.std.proofs.lemmas.Map.Keys.{apart_from_distinct}
use Rattle.std.proofs.lemmas.Option.{slice_get_within, get_or_from_slice_get, slice_get-get_or}
use Rattle.std.proofs.Math.ListN.{get_or-append}
use Rattle.indexmap.specs.IndexMap.{swap_remove_entry, insert_entry}
use Rattle.std.specs.Option.{option_map_or}
use Rattle.pua_tree.proofs.Base.{mapped}
use Rattle.pua_tree.specs.NamedRows.{spotted, spot_entry, tree_row, AreNamed, IsPlaceOf}
use Rattle.pua_tree.specs.declared.spot.Spot.{Spot}
use Rattle.pua_tree.specs.declared.spot.RowKey.{RowKey}
use Rattle.pua_tree.specs.declared.spot.RowNode.{RowNode}
use Rattle.pua_tree.specs.declared.tree.LentRow.{LentRow}
use Rattle.pua_tree.specs.contracts.spot.SpotPartialEq.TheImpl.{ghosts as spot_ghosts}
use Rattle.pua_tree.specs.contracts.spot.RowKeyPartialEq.TheImpl.{ghosts as key_ghosts}

abbrev Entries : Type 0
Entries = List (RowKey × RowNode)

-- the key of a directory and a place
abbrev pub placed : ℕ → ℕ → RowKey
placed dir place = record { dir = dir; name = place }

-- the place of a name that is found has it
pub named_place : (names : List (List ℕ)) (name : List ℕ) (place : ℕ) → position (same_bytes name) names ≡ Some place →
    slice_get names place ≡ Some name
named_place names name place found =
    let at = position-Some (same_bytes name) names place [] found in
    slice_get-get_or names place [] at.0 ∙ ap Some (sym ((bytes_decides name (get_or names place [])).0 at.1))

pub is_place : (names : List (List ℕ)) (name : List ℕ) (place : Option ℕ) → place ≡ position (same_bytes name) names →
    is_some place ≡ list_any (same_bytes name) names → IsPlaceOf names name place
is_place names name None at found = sym found
is_place names name (Some i) at found = named_place names name i (sym at)

-- spots are one where their keys are
pub same_spot : (q at : Spot) → spot_ghosts.eq q at ≡ true → q ≡ at
same_spot q at e = let parts = and_parts (q.dir == at.dir) (same_bytes q.name at.name) e in
    λ i. record { dir = eqb-true q.dir at.dir parts.0 i; name = (bytes_decides q.name at.name).0 parts.1 i }

-- a name has a place, or is not kept
place_of : (names : List (List ℕ)) (name : List ℕ) →
    ((i : ℕ) × (slice_get names i ≡ Some name)) ⊎ (list_any (same_bytes name) names ≡ false)
place_of [] name = inr refl
place_of (n ∷ ns) name =
    elim (same_bytes name n) as (λ b. same_bytes name n ≡ b →
    ((i : ℕ) × (slice_get (n ∷ ns) i ≡ Some name)) ⊎ ((b || list_any (same_bytes name) ns) ≡ false)) [
      | true ↦ λ t. inl (zero, ap Some (sym ((bytes_decides name n).0 t)))
      | false ↦ λ _. elim (place_of ns name) [
        | inl p ↦ inl (suc p.0, p.1)
        | inr none ↦ inr none
      ]
    ] refl

abbrev HasName : List (List ℕ) → RowKey × RowNode → Type 0
HasName names e = e.0.name < length names

-- nothing stands where no name is the one that is sought
pub not_named : (names : List (List ℕ)) (es : Entries) → AreNamed names es → (q : Spot) → list_any (same_bytes q.name) names ≡ false →
    lookup (spot_ghosts.eq q) (map (spot_entry names) es) ≡ None
not_named names [] named q none = refl
not_named names (e ∷ es) named q none =
    elim (spot_ghosts.eq q (spotted names e.0))
    as (λ b. spot_ghosts.eq q (spotted names e.0) ≡ b → cond b (Some e.1) (lookup (spot_ghosts.eq q) (map (spot_entry names) es)) ≡ None) [
      | true ↦ λ t. absurd (true≢false (sym (list_any_at (same_bytes q.name) names e.0.name [] (All-head (HasName names) e es named)
          (and_parts (q.dir == e.0.dir) (same_bytes q.name (spotted names e.0).name) t).1) ∙ none))
      | false ↦ λ _. not_named names es (All-tail (HasName names) e es named) q none
    ] refl

module _ (names : List (List ℕ)) (distinct : IsDistinct same_bytes names) where
  -- a name is at one place
  same_place : (i j : ℕ) → i < length names → j < length names → (i == j) ≡ same_bytes (get_or names i []) (get_or names j [])
  same_place i j within inside = same_from_decides {P = i ≡ j} _ _ (λ e. eqb-true i j e, λ s. eq-eqb i j s) (
    λ e. elim (cases_order i j) [
      | inl s ↦ s
      | inr o ↦ elim o [
        | inl less ↦ absurd (true≢false (sym e ∙ apart_from_distinct same_bytes names i j [] distinct less inside))
        | inr more ↦ absurd (true≢false (sym ((bytes_decides (get_or names j []) (get_or names i [])).1
            (sym ((bytes_decides (get_or names i []) (get_or names j [])).0 e))) ∙ apart_from_distinct same_bytes names j i [] distinct more
            within))
      ]
    ],
    λ s. (bytes_decides (get_or names i []) (get_or names j [])).1 (ap (λ k. get_or names k []) s),
  )

  same_keys : (k : RowKey) → k.name < length names → (e : RowKey) → e.name < length names →
      spot_ghosts.eq (spotted names k) (spotted names e) ≡ key_ghosts.eq k e
  same_keys k within e inside = ap (λ b. (k.dir == e.dir) && b) (sym (same_place k.name e.name within inside))

  looked_up : (k : RowKey) → k.name < length names → (es : Entries) → AreNamed names es →
      lookup (spot_ghosts.eq (spotted names k)) (map (spot_entry names) es) ≡ lookup (key_ghosts.eq k) es
  looked_up k within [] named = refl
  looked_up k within (e ∷ es) named =
      λ i. cond (same_keys k within e.0 (All-head (HasName names) e es named) i) (Some e.1) (looked_up k within es (All-tail (HasName names) e es named) i)

  -- the entries by their spots have distinct ones
  pub distinct_spots : (es : Entries) → AreNamed names es → IsDistinct key_ghosts.eq (keys_of es) →
      IsDistinct spot_ghosts.eq (keys_of (map (spot_entry names) es))
  unfolding IsDistinct
  distinct_spots [] named d = tt
  distinct_spots (e ∷ es) named d = (apart es (All-tail (HasName names) e es named) d.0, distinct_spots es (All-tail (HasName names) e es named) d.1)
    where
      apart : (fs : Entries) → AreNamed names fs → AllByRecursion (λ k. key_ghosts.eq e.0 k ≡ false) (keys_of fs) →
          AllByRecursion (λ s. spot_ghosts.eq (spotted names e.0) s ≡ false) (keys_of (map (spot_entry names) fs))
      apart [] n a = tt
      apart (f ∷ fs) n a = (same_keys e.0 (All-head (HasName names) e es named) f.0 (All-head (HasName names) f fs n) ∙ a.0, apart fs (All-tail (HasName names) f fs n) a.1)

  -- a spot whose name has a place
  module _ (at : Spot) (place : ℕ) (there : slice_get names place ≡ Some at.name) where
    within_names : place < length names
    within_names = slice_get_within names place at.name there

    spot_is : spotted names (placed at.dir place) ≡ at
    spot_is = λ i. record { dir = at.dir; name = get_or_from_slice_get names place at.name [] there i }

    pub found_by : (es : Entries) → AreNamed names es →
        lookup (spot_ghosts.eq at) (map (spot_entry names) es) ≡ lookup (key_ghosts.eq (placed at.dir place)) es
    found_by es named = ap (λ (s : Spot). lookup (spot_ghosts.eq s) (map (spot_entry names) es)) (sym spot_is) ∙
        looked_up (placed at.dir place) within_names es named

    -- what changes at its key alone changes at the spot alone
    pub changed_by : (es fs : Entries) → AreNamed names es → AreNamed names fs → (row : Option RowNode) →
        ((k : RowKey) → lookup (key_ghosts.eq k) fs ≡ cond (key_ghosts.eq (placed at.dir place) k) row (lookup (key_ghosts.eq k) es)) →
        (q : Spot) → lookup (spot_ghosts.eq q) (map (spot_entry names) fs)
        ≡ cond (spot_ghosts.eq at q) row (lookup (spot_ghosts.eq q) (map (spot_entry names) es))
    changed_by es fs named still row changes q =
        elim (place_of names q.name) [
          | inl p ↦ named_there p.0 (slice_get_within names p.0 q.name p.1) (placed q.dir p.0) refl
              (λ j. record { dir = q.dir; name = get_or_from_slice_get names p.0 q.name [] p.1 j })
          | inr none ↦ not_named names fs still q none
              ∙ sym (ap (λ b. cond b row (lookup (spot_ghosts.eq q) (map (spot_entry names) es))) (other none) ∙ not_named names es named q none)
        ]
      where
        named_there : (i : ℕ) → i < length names → (k : RowKey) → k ≡ placed q.dir i → spotted names k ≡ q →
            lookup (spot_ghosts.eq q) (map (spot_entry names) fs)
            ≡ cond (spot_ghosts.eq at q) row (lookup (spot_ghosts.eq q) (map (spot_entry names) es))
        named_there i within k is spot =
            let inside : k.name < length names = subst (λ (l : RowKey). l.name < length names) (sym is) within in
            subst (λ (s : Spot). lookup (spot_ghosts.eq s) (map (spot_entry names) fs)
            ≡ cond (spot_ghosts.eq at s) row (lookup (spot_ghosts.eq s) (map (spot_entry names) es))) spot
            (looked_up k inside fs still ∙ changes k
            ∙ (λ j. cond (sym (same_keys (placed at.dir place) within_names k inside) j) row (sym (looked_up k inside es named) j))
            ∙ ap (λ (s : Spot). cond (spot_ghosts.eq s (spotted names k)) row (lookup (spot_ghosts.eq (spotted names k))
            (map (spot_entry names) es))) spot_is)

        other : list_any (same_bytes q.name) names ≡ false → spot_ghosts.eq at q ≡ false
        other none =
            elim (spot_ghosts.eq at q) as (λ b. spot_ghosts.eq at q ≡ b → b ≡ false) [
              | true ↦ λ t. absurd (true≢false (sym (list_any_at (same_bytes q.name) names place [] within_names
                  ((bytes_decides q.name (get_or names place [])).1 (ap (λ (s : Spot). s.name) (sym (same_spot at q t)) ∙
                  sym (get_or_from_slice_get names place at.name [] there)))) ∙ none))
              | false ↦ λ _. refl
            ] refl

-- a spot at which nothing stands is as if what stood there were gone
pub gone_already : (es : List (Spot × RowNode)) (at : Spot) → lookup (spot_ghosts.eq at) es ≡ None → (q : Spot) →
    lookup (spot_ghosts.eq q) es ≡ cond (spot_ghosts.eq at q) None (lookup (spot_ghosts.eq q) es)
gone_already es at none q =
    elim (spot_ghosts.eq at q) as (λ b. spot_ghosts.eq at q ≡ b → lookup (spot_ghosts.eq q) es ≡ cond b None (lookup (spot_ghosts.eq q) es)) [
      | true ↦ λ t. ap (λ (s : Spot). lookup (spot_ghosts.eq s) es) (sym (same_spot at q t)) ∙ none
      | false ↦ λ _. refl
    ] refl

-- what is true of entries is true of those that are left
pub all_left : {K X : Type 0} (P : K × X → Type 0) (test : K → Bool) (es : List (K × X)) → All P es → All P (swap_remove_entry test es)
all_left P test [] h = h
all_left P test (e ∷ es) h =
    elim (position test (keys_of (e ∷ es))) as (λ o. All P (option_map_or (λ i. swap_remove (e ∷ es) i e) o (e ∷ es))) [
      | None ↦ h
      | Some i ↦ All-take P (length (e ∷ es) - 1) _ (All-set P (e ∷ es) i _ (h (length (e ∷ es) - 1) e (omega arith)) h)
    ]

-- and of entries with one more
pub all_put : {K X : Type 0} (P : K → Type 0) (eq : K → K → Bool) (es : List (K × X)) (k : K) (v : X) → All (λ e. P e.0) es → P k →
    All (λ e. P e.0) (insert_entry eq es k v)
all_put P eq [] k v h p = All-cons (λ e. P e.0) (k, v) [] p h
all_put P eq (e ∷ es) k v h p =
    elim (eq k e.0) as (λ b. All (λ e. P e.0) (cond b ((e.0, v) ∷ es) (e ∷ insert_entry eq es k v))) [
      | true ↦ All-cons (λ e. P e.0) (e.0, v) es (All-head (λ e. P e.0) e es h) (All-tail (λ e. P e.0) e es h)
      | false ↦ All-cons (λ e. P e.0) e (insert_entry eq es k v) (All-head (λ e. P e.0) e es h)
          (all_put P eq es k v (All-tail (λ e. P e.0) e es h) p)
    ]

-- names with more behind them
abbrev pub Longer : List (List ℕ) → List (List ℕ) → Type 0
Longer names longer = (more : List (List ℕ)) × (longer ≡ names ++ more)

-- leave the entries as they were
pub still_named : (names longer : List (List ℕ)) → Longer names longer → (es : Entries) → AreNamed names es → AreNamed longer es
still_named names longer l es named =
    let lengths = ap (λ (ns : List (List ℕ)). length ns) l.1 ∙ length-append names l.0 in
    All-weaker (HasName names) (HasName longer) (λ e within. omega (arith, within, lengths)) es named

pub still_spotted : (names longer : List (List ℕ)) → Longer names longer → (es : Entries) → AreNamed names es →
    map (spot_entry longer) es ≡ map (spot_entry names) es
still_spotted names longer l [] named = refl
still_spotted names longer l (e ∷ es) named = λ i. (
  record {
    dir = e.0.dir;
    name = (ap (λ ns. get_or ns e.0.name []) l.1 ∙ get_or-append names l.0 [] e.0.name (All-head (HasName names) e es named)) i;
  },
  e.1,
)
    ∷ still_spotted names longer l es (All-tail (HasName names) e es named) i

-- and keep their places
pub kept_spot : (names longer : List (List ℕ)) → Longer names longer → (k : RowKey) (at : TreeSpot) →
    option_map (λ name. (k.dir, name)) (slice_get names k.name) ≡ Some at →
    option_map (λ name. (k.dir, name)) (slice_get longer k.name) ≡ Some at
kept_spot names longer l k at there =
    let was = mapped (λ name. (k.dir, name)) (slice_get names k.name) at there in
    let within = slice_get_within names k.name was.0 was.1 in
    let lengths = ap (λ (ns : List (List ℕ)). length ns) l.1 ∙ length-append names l.0 in
    ap (option_map (λ name. (k.dir, name))) (slice_get-get_or longer k.name [] (omega (arith, within, lengths))
    ∙ ap Some (ap (λ ns. get_or ns k.name []) l.1 ∙ get_or-append names l.0 [] k.name within
    ∙ get_or_from_slice_get names k.name was.0 [] was.1))
    ∙ ap Some was.2

-- a row that is lent, of the first entry that was left
pub one_lent : (names : List (List ℕ)) (rows more : List LentRow) (row : LentRow) (e : RowKey × RowNode) (es left : Entries)
    (all : List (TreeSpot × ℕ)) → lent_entry row ≡ tree_row (spot_entry names e) → more ≡ rows ++ row ∷ [] → es ≡ e ∷ left →
    (map lent_entry rows ++ map tree_row (map (spot_entry names) es) ≡ all) × AreNamed names es →
    (map lent_entry more ++ map tree_row (map (spot_entry names) left) ≡ all) × AreNamed names left
one_lent names rows more row e es left all same longer first so_far =
    let rest = map tree_row (map (spot_entry names) left) in (
      ap (λ rs. map lent_entry rs ++ rest) longer
          ∙ ap (λ rs. rs ++ rest) (map-append lent_entry rows (row ∷ []))
          ∙ append_assoc (map lent_entry rows) (lent_entry row ∷ []) rest
          ∙ ap (λ r. map lent_entry rows ++ r ∷ rest) same
          ∙ sym (ap (λ (fs : Entries). map lent_entry rows ++ map tree_row (map (spot_entry names) fs)) first)
          ∙ so_far.0,
      All-tail (HasName names) e left (subst (AreNamed names) first so_far.1),
    )
