-- Sets of numbers of links tell of the states to which words lead.
use Rattle.pua_steps.proofs.Common.{ℕ, zero, suc, ◌+◌, ◌-◌, ◌*◌, ◌^◌, ◌<◌, ◌≤◌, ◌≡◌, List, [], ◌∷◌, ◌++◌, Option, Some, None, Bool, true}
use Rattle.pua_steps.proofs.Common.{false, cond, ◌||◌, ◌&&◌, ◌==◌, nat_lt, nat_le, refl, ap, arith, sym, ◌∙◌, length, map, get_or, set}
use Rattle.pua_steps.proofs.Common.{option_map, count_ones, bit_and, inl, inr, subst, IfSome, option_to_list, flat_map, bit_at}
use Rattle.pua_steps.proofs.Common.{range_with_len, AllByRecursion, bit_at_above, cases_eq, cases_lt, and_parts, eqb-true, eq-eqb, ne_eqb}
use Rattle.pua_steps.proofs.Common.{le-leb, lt-leb, below, some_pair, visit_of, missing_visit, gap, visits_from, graph_of, missing_at}
use Rattle.pua_steps.proofs.Common.{entries_at, IsState, IsTable, IsSized, states_after, has_state, AreSets, lands_some, lands_from, total}
use Rattle.pua_steps.proofs.Common.{State, Visit, Entry, Steps, or-false}
use Rattle.std.specs.List.{cons_option, list_any}
use Rattle.std.proofs.lemmas.List.Elements.{All-contains, All-from_recursion, filter_map-append}
use Rattle.std.proofs.lemmas.List.{get_or-set_same, get_or-set_other, length-set}
use Rattle.std.proofs.lemmas.Nat.Bits.{bit_at-zero}
use Rattle.std.proofs.lemmas.Bool.{cases_order, or_cases, or_left, or_right, leb-true}
use Rattle.pua_steps.specs.Reached.{states_behind, is_same, is_among, count, is_live, lands}
use Rattle.pua_steps.specs.declared.live.Live as table
use Rattle.pua_steps.proofs.Counting.{same_is, Within, layer_ones, total_same, count_same}
use Rattle.pua_steps.proofs.Closing.{states_stay, bound_at}
use Rattle.pua_steps.proofs.Base.{all_flat, all_weaker, any_flat, passes, passing}
use Rattle.std.proofs.Math.Bool.{and_comm, or_assoc}
use Rattle.std.specs.Cmp.{both_ways}

same_self : (s : State) → is_same s s ≡ true
same_self s = rw (eq-eqb s.dir s.dir refl, eq-eqb s.used s.used refl) refl

-- an entry leads from a number of links to a directory and a number of links
abbrev leads : Entry → ℕ → ℕ → ℕ → Bool
leads e used d u = elim e.to [ None ↦ false | Some to ↦ (d == to) && (u == used + e.links) ]

gap_states : (m next n : ℕ) → states_behind (gap m next n) ≡ []
unfolding gap
gap_states m next n = elim (m == 0) as (λ b. states_behind (cond b [] (map (missing_visit m) (range_with_len next n))) ≡ []) [
  | true ↦ refl
  | false ↦ none (range_with_len next n)
]
  where
    none : (is : List ℕ) → states_behind (map (missing_visit m) is) ≡ []
    none [] = refl
    none (i ∷ is) = none is

visit_leads : (used : ℕ) (e : Entry) (d u : ℕ) → u ≤ 32 → is_among (record { dir = d; used = u }) (option_to_list (visit_of used e).behind)
    ≡ leads e used d u
unfolding visit_of
visit_leads used e d u low =
    elim (cases_lt 32 (used + e.links)) [
      | inr under ↦ ap (λ b. is_among (record { dir = d; used = u })
          (option_to_list (cond {A = Visit} b
          (record { letter = e.letter; calls = e.all; behind = option_map (λ to. record { dir = to; used = used + e.links }) e.to })
          (record { letter = e.letter; calls = e.kept; behind = None })).behind)) (le-leb (used + e.links) 32 under) ∙ near e.to
      | inl over ↦ ap (λ b. is_among (record { dir = d; used = u })
          (option_to_list (cond {A = Visit} b
          (record { letter = e.letter; calls = e.all; behind = option_map (λ to. record { dir = to; used = used + e.links }) e.to })
          (record { letter = e.letter; calls = e.kept; behind = None })).behind)) (lt-leb (used + e.links) 32 over) ∙ far e.to over
    ]
  where
    and_false : (b : Bool) → false ≡ (b && false)
    and_false true = refl
    and_false false = refl

    near : (o : Option ℕ) →
        is_among (record { dir = d; used = u }) (option_to_list (option_map (λ to. record { dir = to; used = used + e.links }) o))
        ≡ elim o [ None ↦ false | Some to ↦ (d == to) && (u == used + e.links) ]
    near None = refl
    near (Some to) = or-false ((d == to) && (u == used + e.links))

    far : (o : Option ℕ) → 32 < used + e.links → false ≡ elim o [ None ↦ false | Some to ↦ (d == to) && (u == used + e.links) ]
    far None over = refl
    far (Some to) over = and_false (d == to) ∙
        ap (λ b. (d == to) && b) (sym (ne_eqb u (used + e.links) (λ same. omega (arith, same, over, low))))

visits_lead : (letters m used next : ℕ) (es : List Entry) (d u : ℕ) → u ≤ 32 →
    is_among (record { dir = d; used = u }) (states_behind (visits_from letters m used next es)) ≡ list_any (λ e. leads e used d u) es
unfolding visits_from
visits_lead letters m used next [] d u low = ap (is_among (record { dir = d; used = u })) (gap_states m next (letters - next))
visits_lead letters m used next (e ∷ es) d u low =
    let y : State = record { dir = d; used = u } in
    let rest : List Visit = visits_from letters m used (suc e.letter) es in
    ap (is_among y) (filter_map-append (λ (v : Visit). v.behind) (gap m next (e.letter - next)) (visit_of used e ∷ rest) ∙
    ap (λ ss. ss ++ states_behind (visit_of used e ∷ rest)) (gap_states m next (e.letter - next)))
    ∙ one (visit_of used e).behind (states_behind rest)
    ∙ ap (λ b. b || is_among y (states_behind rest)) (visit_leads used e d u low) ∙
    ap (λ b. leads e used d u || b) (visits_lead letters m used (suc e.letter) es d u low)
  where
    one : (o : Option State) (ss : List State) →
        is_among (record { dir = d; used = u }) (cons_option o ss) ≡ (is_among (record { dir = d; used = u }) (option_to_list o)
        || is_among (record { dir = d; used = u }) ss)
    one None ss = refl
    one (Some s) ss = sym (or_assoc (is_same (record { dir = d; used = u }) s) false (is_among (record { dir = d; used = u }) ss))

graph_leads : (t : Steps) (s : State) (d u : ℕ) → u ≤ 32 →
    is_among (record { dir = d; used = u }) (states_behind (graph_of t 0 s)) ≡ list_any (λ e. leads e s.used d u) (entries_at t s.dir)
unfolding graph_of
graph_leads t s d u low = visits_lead t.letters (missing_at t s.dir) s.used 0 (entries_at t s.dir) d u low

from_pick : (t : Steps) (sets : List ℕ) (n d u : ℕ) → lands_from t sets n d u ≡ true →
    (k : ℕ) × ((k < n) × (lands_some (entries_at t k) (get_or sets k 0) d u ≡ true))
from_pick t sets zero d u e = absurd cc
from_pick t sets (suc n) d u e = elim (or_cases (lands_from t sets n d u) (lands_some (entries_at t n) (get_or sets n 0) d u) e) [
  | inl h ↦ let more = from_pick t sets n d u h in (more.0, (omega (arith, more.1.0), more.1.1))
  | inr h ↦ (n, (omega arith, h))
]

from_put : (t : Steps) (sets : List ℕ) (n d u k : ℕ) → k < n → lands_some (entries_at t k) (get_or sets k 0) d u ≡ true →
    lands_from t sets n d u ≡ true
from_put t sets zero d u k h e = absurd (omega (arith, h))
from_put t sets (suc n) d u k h e = elim (cases_lt k n) [
  | inl less ↦ or_left (lands_from t sets n d u) (lands_some (entries_at t n) (get_or sets n 0) d u) (from_put t sets n d u k less e)
  | inr past ↦ let same : k ≡ n = omega (arith, h, past) in
      or_right (lands_from t sets n d u) (lands_some (entries_at t n) (get_or sets n 0) d u)
      (ap (λ i. lands_some (entries_at t i) (get_or sets i 0) d u) (sym same) ∙ e)
]

-- what lands comes from a member of the set
lands_back : (e : Entry) (set d u : ℕ) → lands e set d u ≡ true → (e.links ≤ u) × ((bit_at set (u - e.links) == 1) ≡ true) ×
    (leads e (u - e.links) d u ≡ true)
lands_back e set d u h = by e.to h
  where
    by : (o : Option ℕ) → (elim o [ None ↦ false | Some to ↦ (to == d) && (nat_le e.links u && (bit_at set (u - e.links) == 1)) ]) ≡ true
        → (e.links ≤ u) × ((bit_at set (u - e.links) == 1) ≡ true) ×
        ((elim o [ None ↦ false | Some to ↦ (d == to) && (u == (u - e.links) + e.links) ]) ≡ true)
    by None h = absurd cc
    by (Some to) h =
        let both = and_parts (to == d) (nat_le e.links u && (bit_at set (u - e.links) == 1)) h in
        let more = and_parts (nat_le e.links u) (bit_at set (u - e.links) == 1) both.1 in
        let low : e.links ≤ u = leb-true e.links u more.0 in
        let back : u ≡ (u - e.links) + e.links = omega (arith, low) in
        (low, more.1, rw (eq-eqb d to (sym (eqb-true to d both.0)), eq-eqb u ((u - e.links) + e.links) back) refl)

lands_on : (e : Entry) (set used d u : ℕ) → leads e used d u ≡ true → (bit_at set used == 1) ≡ true → lands e set d u ≡ true
lands_on e set used d u h bit = by e.to h
  where
    by : (o : Option ℕ) → (elim o [ None ↦ false | Some to ↦ (d == to) && (u == used + e.links) ]) ≡ true →
        (elim o [ None ↦ false | Some to ↦ (to == d) && (nat_le e.links u && (bit_at set (u - e.links) == 1)) ]) ≡ true
    by None h = absurd cc
    by (Some to) h =
        let both = and_parts (d == to) (u == used + e.links) h in
        let there : u ≡ used + e.links = eqb-true u (used + e.links) both.1 in
        let back : used ≡ u - e.links = omega (arith, there) in
        let low : nat_le e.links u ≡ true = le-leb e.links u (omega (arith, there)) in
        rw (eq-eqb to d (sym (eqb-true d to both.0)), low) (ap (λ k. bit_at set k == 1) (sym back) ∙ bit)

-- the sets after a step
module _ (t : Steps) (ss : List State) (sets : List ℕ) (are : AreSets (length t.rows.items) ss sets)
    (all : AllByRecursion (Within (length t.rows.items)) ss) where
  abbrev f : State → List State
  f s = states_behind (graph_of t 0 s)

  pub stepped : (d u : ℕ) → u ≤ 32 → lands_from t sets (length t.rows.items) d u ≡ is_among (record { dir = d; used = u }) (flat_map f ss)
  stepped d u low =
      both_ways (lands_from t sets (length t.rows.items) d u) (list_any (λ s. is_among (record { dir = d; used = u }) (f s)) ss) forth back ∙
      sym (any_flat (is_same (record { dir = d; used = u })) f ss)
    where
      forth : lands_from t sets (length t.rows.items) d u ≡ true → list_any (λ s. is_among (record { dir = d; used = u }) (f s)) ss ≡ true
      forth h =
          let row = from_pick t sets (length t.rows.items) d u h in
          let one = passing (λ e. lands e (get_or sets row.0 0) d u) (entries_at t row.0) row.1.1 in
          let from = lands_back one.0 (get_or sets row.0 0) d u one.2 in
          let s : State = record { dir = row.0; used = u - one.0.links } in
          let was : list_any (is_same s) ss ≡ true = sym (are.tells row.0 (u - one.0.links) row.1.0 (omega (arith, low)))
          ∙ from.1 in
          let met = passing (is_same s) ss was in
          let same : s ≡ met.0 = same_is s met.0 met.2 in
          let here : is_among (record { dir = d; used = u }) (f s) ≡ true = graph_leads t s d u low ∙
          passes (λ e. leads e s.used d u) (entries_at t s.dir) one.0 one.1 from.2 in
          passes (λ s. is_among (record { dir = d; used = u }) (f s)) ss met.0 met.1 (ap (λ s. is_among (record { dir = d; used = u }) (f s))
          (sym same) ∙ here)

      back : list_any (λ s. is_among (record { dir = d; used = u }) (f s)) ss ≡ true → lands_from t sets (length t.rows.items) d u ≡ true
      back h =
          let met = passing (λ s. is_among (record { dir = d; used = u }) (f s)) ss h in
          let s : State = met.0 in
          let is = All-contains (Within (length t.rows.items)) ss s (All-from_recursion (Within (length t.rows.items)) ss all) met.1 in
          let one = passing (λ e. leads e s.used d u) (entries_at t s.dir) (sym (graph_leads t s d u low) ∙ met.2) in
          let bit : (bit_at (get_or sets s.dir 0) s.used == 1) ≡ true = are.tells s.dir s.used is.0 is.1 ∙
          passes (is_same s) ss s met.1 (same_self s) in
          from_put t sets (length t.rows.items) d u s.dir is.0
          (passes (λ e. lands e (get_or sets s.dir 0) d u) (entries_at t s.dir) one.0 one.1
          (lands_on one.0 (get_or sets s.dir 0) s.used d u one.2 bit))

pub next_sets : (t : Steps) (ss : List State) (sets next : List ℕ) → AreSets (length t.rows.items) ss sets →
    AllByRecursion (Within (length t.rows.items)) ss → length next ≡ length t.rows.items
    → ((d : ℕ) → d < length t.rows.items → get_or next d 0 < 2 ^ 33) →
    ((d u : ℕ) → d < length t.rows.items → u ≤ 32 → has_state next d u ≡ lands_from t sets (length t.rows.items) d u)
    → AreSets (length t.rows.items) (flat_map (λ s. states_behind (graph_of t 0 s)) ss) next
next_sets t ss sets next are all many small tells =
    record { many = many; small = small; tells = λ d u h low. tells d u h low ∙ stepped t ss sets are all d u low }

-- all states to which words lead are among some that steps don't leave
all_behind : (In : State → Type 0) (vs : List Visit) → AllByRecursion (λ v. IfSome v.behind In) vs → AllByRecursion In (states_behind vs)
all_behind In [] all = tt
all_behind In (v ∷ vs) all = by v.behind all.0 (all_behind In vs all.1)
  where
    by : (o : Option State) → IfSome o In → AllByRecursion In (states_behind vs) → AllByRecursion In (cons_option o (states_behind vs))
    by None h more = more
    by (Some s) h more = (h, more)

pub all_reached : (g : State → List Visit) (In : State → Type 0) → ((s : State) → In s → AllByRecursion (λ v. IfSome v.behind In) (g s)) →
    (n : ℕ) (o : Option State) → IfSome o In → AllByRecursion In (states_after g n o)
unfolding states_after
all_reached g In closed zero None is = tt
all_reached g In closed zero (Some s) is = (is, tt)
all_reached g In closed (suc n) o is =
    all_flat In In (λ s. states_behind (g s)) (λ s is. all_behind In (g s) (closed s is)) (states_after g n o)
    (all_reached g In closed n o is)

pub reached_more : (t : Steps) (n : ℕ) (o : Option State) →
    states_after (graph_of t 0) (n + 1) o ≡ flat_map (λ s. states_behind (graph_of t 0 s)) (states_after (graph_of t 0) n o)
unfolding states_after
reached_more t n o = let more : n + 1 ≡ suc n = omega arith in ap (λ k. states_after (graph_of t 0) k o) more

pub reached_first : (t : Steps) (o : Option State) → states_after (graph_of t 0) 0 o ≡ option_to_list o
unfolding states_after
reached_first t o = refl

pub reached_within : (t : Steps) → IsTable t → (n : ℕ) (o : Option State) → IfSome o (λ s. IsState t s) →
    AllByRecursion (Within (length t.rows.items)) (states_after (graph_of t 0) n o)
reached_within t known n o is =
    all_weaker (λ s. IsState t s) (Within (length t.rows.items)) (λ s is. (is.dir, is.used)) (states_after (graph_of t 0) n o)
    (all_reached (graph_of t 0) (λ s. IsState t s) (states_stay t known 0) n o is)

-- the members of the sets below the bounds are the live states
pub layer_counts : (t : Steps) (v : table.Live) (limit n : ℕ) (o : Option State) (sets : List ℕ) → IsSized t v limit →
    AreSets v.dirs (states_after (graph_of t 0) n o) sets
    → total (λ d. count_ones (bit_and (get_or sets d 0) (2 ^ get_or v.bounds.items ((limit - n) * v.dirs + d) 0 - 1))) v.dirs
    ≡ total (λ d. count (λ u. is_live (graph_of t) limit o n (record { dir = d; used = u })) 33) (length t.rows.items)
layer_counts t v limit n o sets sized are =
    total_same (λ d. count_ones (bit_and (get_or sets d 0) (2 ^ get_or v.bounds.items ((limit - n) * v.dirs + d) 0 - 1)))
    (λ d. count (λ u. is_live (graph_of t) limit o n (record { dir = d; used = u })) 33) v.dirs each
    ∙ ap (total (λ d. count (λ u. is_live (graph_of t) limit o n (record { dir = d; used = u })) 33)) sized.dirs
  where
    each : (d : ℕ) → d < v.dirs → count_ones (bit_and (get_or sets d 0) (2 ^ get_or v.bounds.items ((limit - n) * v.dirs + d) 0 - 1))
        ≡ count (λ u. is_live (graph_of t) limit o n (record { dir = d; used = u })) 33
    each d h =
        let bound : ℕ = get_or v.bounds.items ((limit - n) * v.dirs + d) 0 in
        layer_ones (get_or sets d 0) bound (are.small d h)
        ∙ count_same (λ u. nat_lt u bound && (bit_at (get_or sets d 0) u == 1))
        (λ u. is_live (graph_of t) limit o n (record { dir = d; used = u })) 33
        (λ u to. let low : u ≤ 32 = omega (arith, to) in
        (λ i. bound_at t v limit sized (limit - n) d u (omega arith) (omega (arith, h, sized.dirs)) low i && are.tells d u h low i)
        ∙ and_comm (some_pair (below (graph_of t) (limit - n) (Some (record { dir = d; used = u }))))
        (is_among (record { dir = d; used = u }) (states_after (graph_of t 0) n o)))

-- before the first letter
pub first_bits : (used u : ℕ) → (nat_le used u && (bit_at 1 (u - used) == 1)) ≡ (u == used)
first_bits used u =
    elim (cases_order u used) [
      | inl e ↦
          let none : u - used ≡ 0 = omega (arith, e) in
          rw (le-leb used u (omega (arith, e)), eq-eqb u used e) (ap (λ k. bit_at 1 k == 1) none)
      | inr (inl less) ↦ rw (lt-leb used u less, ne_eqb u used (λ e. omega (arith, e, less))) refl
      | inr (inr more) ↦ rw (
        le-leb used u (omega (arith, more)),
        ne_eqb u used (λ e. omega (arith, e, more)),
      ) (ap (λ b. b == 1) (bit_at_above 1 1 (u - used) (omega arith) (omega (arith, more))))
    ]

pub one_set : (dirs : ℕ) (empty sets : List ℕ) (s : State) (m : ℕ) → length empty ≡ dirs → ((d : ℕ) → get_or empty d 0 ≡ 0) → s.dir < dirs →
    m < 2 ^ 33 → ((u : ℕ) → u ≤ 32 → (bit_at m u == 1) ≡ (nat_le s.used u && (bit_at 1 (u - s.used) == 1)))
    → sets ≡ set empty s.dir m → AreSets dirs (s ∷ []) sets
one_set dirs empty sets s m many none low small bits stored = record {
  many = ap length stored ∙ length-set empty s.dir m ∙ many;
  small = λ d h. elim (cases_eq s.dir d) [
    | inl e ↦ subst (λ x. x < 2 ^ 33) (sym (ap (λ xs. get_or xs d 0) stored ∙ ap (λ k. get_or (set empty s.dir m) k 0) (sym e) ∙
        get_or-set_same empty s.dir m 0 (omega (arith, low, many)))) small
    | inr apart ↦ let other : get_or sets d 0 ≡ 0 = ap (λ xs. get_or xs d 0) stored ∙
        get_or-set_other empty s.dir d m 0 (λ e. apart (sym e)) ∙ none d in omega (arith, other)
  ];
  tells = λ d u h high. elim (cases_eq s.dir d) [
    | inl e ↦
        ap (λ x. bit_at x u == 1) (ap (λ xs. get_or xs d 0) stored ∙ ap (λ k. get_or (set empty s.dir m) k 0) (sym e) ∙
        get_or-set_same empty s.dir m 0 (omega (arith, low, many)))
        ∙ bits u high ∙ first_bits s.used u ∙
        sym (or-false ((d == s.dir) && (u == s.used)) ∙ ap (λ b. b && (u == s.used)) (eq-eqb d s.dir (sym e)))
    | inr apart ↦
        ap (λ x. bit_at x u == 1) (ap (λ xs. get_or xs d 0) stored ∙ get_or-set_other empty s.dir d m 0 (λ e. apart (sym e)) ∙ none d) ∙
        ap (λ b. b == 1) (bit_at-zero u)
        ∙ sym (or-false ((d == s.dir) && (u == s.used)) ∙ ap (λ b. b && (u == s.used)) (ne_eqb d s.dir (λ e. apart (sym e))))
  ];
}
