-- The rows and nodes of a listing's entries, looked up and added to.
use Rattle.pua_tree.specs.declared.form.Form.{Form}
use Rattle.pua_tree.specs.Listing.{most_names_of, most_listed_of}
use Rattle.pua_tree.proofs.Common.{◌≡◌, ℕ, suc, ◌+◌, ◌<◌, ◌≤◌, Bool, true, false, cond, not, ◌&&◌, ◌||◌, T, eqb, leb, ltb, List, [], ◌∷◌}
use Rattle.pua_tree.proofs.Common.{◌++◌, map, length, Option, Some, None, option_map, is_some, refl, sym, ap, subst, ◌∙◌, arith, append-nil}
use Rattle.pua_tree.proofs.Common.{append_assoc, true≢false, inl, inr, IsTrue, list_all, list_any, cons_option, Equal-is, tied_itself}
use Rattle.pua_tree.proofs.Common.{eq_by_cmp, put, find, is_sorted, find-put, is_sorted-put, same_entries, by_order, lt-ltb, ltb-true}
use Rattle.pua_tree.proofs.Common.{ne_eqb, and_parts, and_from, or_cases, not-true, le-leb, leb-true, same_from_decides, bytes_decides}
use Rattle.pua_tree.proofs.Common.{same_bytes, is_name, Node, Spot, spot_cmp, is_dir, is_dir_kind, is_living, Entry, is_taken}
use Rattle.pua_tree.proofs.Common.{is_earlier_dir, is_earlier_other, last_number, tree_of, entry_fits, entries_fit, made_fits, tree_with}
use Rattle.pua_tree.proofs.Common.{grown_by}
use Rattle.std.proofs.Common.{add-one, is_eq, nat_cmp}
use Rattle.std.specs.List.{filter_map}
use Rattle.std.specs.FinMap.Entries.{length-put, find-append}
use Rattle.std.proofs.Math.Bool.{and-false}
use Rattle.std.proofs.lemmas.Bool.{eq-eqb, eqb-true, not_from_false}
use Rattle.std.proofs.lemmas.Bool.Decides.{Decides-eqb}
use Rattle.std.proofs.lemmas.List.{map_push}
use Rattle.std.proofs.lemmas.List.Elements.{filter_map-append}
use Rattle.pua_tree.specs.Listing.{makes_dir, makes_other, rows_of_entries, made_entry}
use Rattle.pua_tree.specs.Listing.{root_node}
use Rattle.pua_tree.proofs.Base.{none, nat_tie, greater}
use Rattle.pua_tree.proofs.Content.{spots_total, exact_spots}

-- two spots tie where the directories and the names are the same
pub spots_tie : (p q : ℕ) (n m : List ℕ) → eq_by_cmp spot_cmp (p, n) (q, m) ≡ (eqb q p && same_bytes m n)
spots_tie p q n m = same_from_decides {P = ◌≡◌ {A = Spot} (p, n) (q, m)} _ _ (
  λ e. exact_spots (p, n) (q, m) ((Equal-is _).0 e),
  λ e. subst (λ s. eq_by_cmp spot_cmp (p, n) s ≡ true) e (ap is_eq (tied_itself spots_total (p, n))),
) (
  λ e. (λ i. (sym (eqb-true q p (and_parts _ _ e).0) i, sym ((bytes_decides m n).0 (and_parts _ _ e).1) i)),
  λ e. and_from _ _ (eq-eqb q p (ap (λ s. s.0) (sym e))) ((bytes_decides m n).1 (ap (λ s. s.1) (sym e))),
)

pub is_some_cond : {X : Type 0} (b : Bool) (x : X) (o : Option X) → is_some (cond b (Some x) o) ≡ (b || is_some o)
is_some_cond true x o = refl
is_some_cond false x o = refl

-- a row stands under a name where an entry has taken it
pub taken_is_found : (es : List Entry) (parent : ℕ) (name : List ℕ) →
    is_some (find spot_cmp (parent, name) (rows_of_entries es)) ≡ is_taken es parent name
taken_is_found [] parent name = refl
taken_is_found (e ∷ es) parent name =
    ap is_some (find-put spot_cmp spots_total (parent, name) (e.parent, e.name) e.node (rows_of_entries es))
    ∙ is_some_cond (eq_by_cmp spot_cmp (parent, name) (e.parent, e.name)) e.node (find spot_cmp (parent, name) (rows_of_entries es))
    ∙ λ i. spots_tie parent e.parent name e.name i || taken_is_found es parent name i

seven : (a b c d e f g : Bool) → (a && (b && (c && (d && (e && (f && g)))))) ≡ true → (a ≡ true) × (b ≡ true) × (c ≡ true) × (d ≡ true) ×
    (e ≡ true) × (f ≡ true) × (g ≡ true)
seven true true true true true true g h = (refl, refl, refl, refl, refl, refl, h)
seven true true true true true false g h = absurd (true≢false (sym h))
seven true true true true false f g h = absurd (true≢false (sym h))
seven true true true false e f g h = absurd (true≢false (sym h))
seven true true false d e f g h = absurd (true≢false (sym h))
seven true false c d e f g h = absurd (true≢false (sym h))
seven false b c d e f g h = absurd (true≢false (sym h))

-- what it is for an entry to fit the earlier ones, part by part
pub record Fits (form : Form) (es : List Entry) (e : Entry) : Type 0 where
  pub above : last_number es < e.number
  pub small : e.number ≤ 999999
  pub in_dir : IsTrue (is_earlier_dir es e.parent)
  pub named : IsTrue (is_name e.name)
  pub free : is_taken es e.parent e.name ≡ false
  pub room : length es + 1 < most_listed_of form
  pub made : IsTrue (made_fits form es e e.made)

pub fits_parts : (form : Form) (es : List Entry) (e : Entry) → IsTrue (entry_fits form es e) → Fits form es e
fits_parts form es e h =
    let p = seven (ltb (last_number es) e.number) (leb e.number 999999) (is_earlier_dir es e.parent) (is_name e.name)
    (not (is_taken es e.parent e.name)) (ltb (length es + 1) (most_listed_of form)) (made_fits form es e e.made) h in
    record {
      above = ltb-true _ _ p.0;
      small = leb-true _ _ p.1;
      in_dir = p.2;
      named = p.3;
      free = not-true _ p.4;
      room = ltb-true _ _ p.5;
      made = p.6;
    }

pub fits_from : (form : Form) (es : List Entry) (e : Entry) → Fits form es e → IsTrue (entry_fits form es e)
fits_from form es e f =
    and_from (ltb (last_number es) e.number) _ (lt-ltb _ _ f.above) (and_from (leb e.number 999999) _ (le-leb _ _ f.small)
    (and_from (is_earlier_dir es e.parent) _ f.in_dir
    (and_from (is_name e.name) _ f.named (and_from (not (is_taken es e.parent e.name)) _ (not_from_false _ f.free)
    (and_from (ltb (length es + 1) (most_listed_of form)) _ (lt-ltb _ _ f.room) f.made)))))

-- the numbers rise, from above the first
abbrev pub Rising : ℕ → List Entry → Type 0
Rising low [] = Unit {0}
Rising low (e ∷ es) = (low < e.number) × Rising e.number es

pub last_number_push : (es : List Entry) (e : Entry) → last_number (es ++ e ∷ []) ≡ e.number
last_number_push [] e = refl
last_number_push (x ∷ []) e = refl
last_number_push (x ∷ y ∷ es) e = last_number_push (y ∷ es) e

pub entries_rise : (form : Form) (earlier es : List Entry) → IsTrue (entries_fit form earlier es) → Rising (last_number earlier) es
entries_rise form earlier [] h = tt
entries_rise form earlier (e ∷ es) h =
    let parts = and_parts (entry_fits form earlier e) (entries_fit form (earlier ++ e ∷ []) es) h in (
      (fits_parts form earlier e parts.0).above,
      subst (λ n. Rising n es) (last_number_push earlier e) (entries_rise form (earlier ++ e ∷ []) es parts.1),
    )

-- the node under a number, by a test that no missing node passes
module _ (K : Option Node → Bool) (no_node : K None ≡ false) where
  pub above_all : (p low : ℕ) (es : List Entry) → p ≤ low → Rising low es → list_any (λ e. eqb e.number p && K e.made) es ≡ false
  above_all p low [] h r = refl
  above_all p low (e ∷ es) h r =
      ap (λ t. (t && K e.made) || list_any (λ f. eqb f.number p && K f.made) es) (ne_eqb e.number p (λ q. omega (arith, r.0, h)))
      ∙ above_all p e.number es (omega (arith, r.0, h)) r.1

  or_false : (b : Bool) → (b || false) ≡ b
  or_false true = refl
  or_false false = refl

  -- of the nodes that entries make, found or tested one by one
  made_found : (p low : ℕ) (es : List Entry) → Rising low es →
      K (find nat_cmp p (filter_map made_entry es)) ≡ list_any (λ e. eqb e.number p && K e.made) es
  made_found p low [] r = no_node
  made_found p low (e ∷ es) r =
      let nodes = filter_map made_entry es in
      let more : Bool = list_any (λ f. eqb f.number p && K f.made) es in
      elim e.made as (λ m. K (find nat_cmp p (cons_option (option_map (λ made. (e.number, made)) m) nodes)) ≡ ((eqb e.number p && K m)
      || more)) [
        | None ↦ made_found p e.number es r.1 ∙ sym (ap (λ b. (eqb e.number p && b) || more) no_node ∙
            ap (λ b. b || more) (and-false (eqb e.number p)))
        | Some m ↦ ap (λ b. K (cond b (Some m) (find nat_cmp p nodes))) (nat_tie p e.number)
            ∙ elim (eqb e.number p) as (λ b. eqb e.number p ≡ b →
            K (cond b (Some m) (find nat_cmp p nodes)) ≡ ((b && K (Some m)) || more)) [
              | true ↦ λ t. sym (ap (λ b. K (Some m) || b) (above_all p e.number es (omega (arith, eqb-true _ _ t)) r.1) ∙
                  or_false (K (Some m)))
              | false ↦ λ t. made_found p e.number es r.1
            ] refl
      ]

turned : (n : ℕ) → eqb 0 n ≡ eqb n 0
turned n = same_from_decides {P = n ≡ 0} _ _ (λ e. sym (eqb-true 0 n e), λ e. eq-eqb 0 n (sym e)) (Decides-eqb n 0)

dir_made : (o : Option Node) → is_dir_kind (option_map (λ n. n.kind) o) ≡ makes_dir o
dir_made None = refl
dir_made (Some n) = refl

other_made : (o : Option Node) → (is_some o && not (is_dir_kind (option_map (λ n. n.kind) o))) ≡ makes_other o
other_made None = refl
other_made (Some n) = refl

-- the directories and the other nodes of the entries' tree
pub earlier_dir_is_found : (form : Form) (es : List Entry) (p low : ℕ) → Rising low es → is_dir (tree_of form es) p ≡ is_earlier_dir es p
earlier_dir_is_found form es p low r =
    let made : Option Node = find nat_cmp p (filter_map made_entry es) in
    ap (λ b. is_dir_kind (option_map (λ n. n.kind) (cond b (Some root_node) made))) (nat_tie p 0 ∙ turned p)
    ∙ elim (eqb p 0) as (λ b. is_dir_kind (option_map (λ n. n.kind) (cond b (Some root_node) made))
    ≡ (b || list_any (λ e. eqb e.number p && makes_dir e.made) es)) [
      | true ↦ refl
      | false ↦ dir_made made ∙ made_found makes_dir refl p low es r
    ]

pub earlier_other_is_found : (form : Form) (es : List Entry) (p low : ℕ) → Rising low es →
    (is_living (tree_of form es) p && not (is_dir (tree_of form es) p)) ≡ is_earlier_other es p
earlier_other_is_found form es p low r =
    let made : Option Node = find nat_cmp p (filter_map made_entry es) in
    let test : Option Node → Bool = λ o. is_some o && not (is_dir_kind (option_map (λ n. n.kind) o)) in
    ap (λ b. test (cond b (Some root_node) made)) (nat_tie p 0 ∙ turned p)
    ∙ elim (eqb p 0) as (λ b. eqb p 0 ≡ b → test (cond b (Some root_node) made) ≡ list_any (λ e. eqb e.number p && makes_other e.made) es) [
      | true ↦ λ t. sym (above_all makes_other refl p low es (omega (arith, eqb-true _ _ t)) r)
      | false ↦ λ t. other_made made ∙ made_found makes_other refl p low es r
    ] refl

pub rows_in_order : (es : List Entry) → T (is_sorted spot_cmp (rows_of_entries es))
rows_in_order [] = tt
rows_in_order (e ∷ es) = is_sorted-put spot_cmp spots_total (e.parent, e.name) e.node (rows_of_entries es) (rows_in_order es)

-- there are no more rows than entries
pub rows_few : (es : List Entry) → length (rows_of_entries es) ≤ length es
rows_few [] = omega arith
rows_few (e ∷ es) =
    let rest = rows_of_entries es in
    let few = rows_few es in
    let put_one = length-put spot_cmp spots_total (e.parent, e.name) e.node rest (rows_in_order es) in
    elim (is_some (find spot_cmp (e.parent, e.name) rest))
    as (λ b. length (rows_of_entries (e ∷ es)) ≡ cond b (length rest) (length rest + 1) →
    length (rows_of_entries (e ∷ es)) ≤ suc (length es)) [
      | true ↦ λ h. omega arith
      | false ↦ λ h. omega arith
    ] put_one

-- an entry as a row
abbrev pub entry_row : Entry → Spot × ℕ
entry_row e = ((e.parent, e.name), e.node)

pub rows_found : (es : List Entry) (s : Spot) → find spot_cmp s (rows_of_entries es) ≡ find spot_cmp s (map entry_row es)
rows_found [] s = refl
rows_found (e ∷ es) s = find-put spot_cmp spots_total s (e.parent, e.name) e.node (rows_of_entries es) ∙
    ap (cond (eq_by_cmp spot_cmp s (e.parent, e.name)) (Some e.node)) (rows_found es s)

pub rows_push : (es : List Entry) (e : Entry) → is_taken es e.parent e.name ≡ false →
    rows_of_entries (es ++ e ∷ []) ≡ put spot_cmp (e.parent, e.name) e.node (rows_of_entries es)
rows_push es e free =
    same_entries spot_cmp spots_total exact_spots _ _ (rows_in_order (es ++ e ∷ [])) (is_sorted-put spot_cmp spots_total (
      e.parent,
      e.name,
    ) e.node (rows_of_entries es) (rows_in_order es))
    (λ s. rows_found (es ++ e ∷ []) s
    ∙ ap (find spot_cmp s) (map_push entry_row es e)
    ∙ find-append spot_cmp spots_total (map entry_row es) (e.parent, e.name) e.node s (sym (rows_found es (e.parent, e.name)) ∙
    none _ (taken_is_found es e.parent e.name ∙ free))
    ∙ ap (cond (eq_by_cmp spot_cmp s (e.parent, e.name)) (Some e.node)) (sym (rows_found es s))
    ∙ sym (find-put spot_cmp spots_total s (e.parent, e.name) e.node (rows_of_entries es)))

pub entries_push : (form : Form) (earlier es : List Entry) (e : Entry) → IsTrue (entries_fit form earlier es) →
    IsTrue (entry_fits form (earlier ++ es) e) → IsTrue (entries_fit form earlier (es ++ e ∷ []))
entries_push form earlier [] e h fits = and_from _ _ (subst (λ l. IsTrue (entry_fits form l e)) (append-nil earlier) fits) refl
entries_push form earlier (x ∷ es) e h fits =
    let parts = and_parts (entry_fits form earlier x) (entries_fit form (earlier ++ x ∷ []) es) h in
    and_from _ _ parts.0 (entries_push form (earlier ++ x ∷ []) es e parts.1
    (subst (λ l. IsTrue (entry_fits form l e)) (sym (append_assoc earlier (x ∷ []) es)) fits))

-- a key above all others stands last
pub put_last : {X : Type 0} (k : ℕ) (v : X) (es : List (ℕ × X)) → IsTrue (list_all (λ e. ltb e.0 k) es) →
    put nat_cmp k v es ≡ es ++ (k, v) ∷ []
put_last k v [] h = refl
put_last k v (e ∷ es) h =
    let below = ltb-true e.0 k (and_parts _ _ h).0 in
    ap (λ o. by_order o ((k, v) ∷ e ∷ es) ((e.0, v) ∷ es) (e ∷ put nat_cmp k v es)) (greater k e.0 below)
    ∙ ap (λ l. e ∷ l) (put_last k v es (and_parts _ _ h).1)

pub numbers_below : (low n : ℕ) (es : List Entry) → Rising low es → last_number es < n → IsTrue (list_all (λ e. ltb e.number n) es)
numbers_below low n [] r h = refl
numbers_below low n (x ∷ []) r h = and_from _ _ (lt-ltb x.number n h) refl
numbers_below low n (x ∷ y ∷ es) r h =
    let rest = numbers_below x.number n (y ∷ es) r.1 h in
    and_from _ _ (lt-ltb x.number n (omega (arith, r.1.0, ltb-true y.number n (and_parts _ _ rest).0))) rest

made_below : (n : ℕ) (es : List Entry) → IsTrue (list_all (λ e. ltb e.number n) es) →
    IsTrue (list_all (λ e. ltb e.0 n) (filter_map made_entry es))
made_below n [] h = refl
made_below n (e ∷ es) h =
    let parts = and_parts (ltb e.number n) _ h in
    elim e.made as (λ m. IsTrue
    (list_all (λ p. ltb p.0 n) (cons_option (option_map (λ made. (e.number, made)) m) (filter_map made_entry es)))) [
      | None ↦ made_below n es parts.1
      | Some m ↦ and_from _ _ parts.0 (made_below n es parts.1)
    ]

node_numbers_below : (form : Form) (n : ℕ) (es : List Entry) → Rising 0 es → last_number es < n → IsTrue (list_all (λ e. ltb e.0 n) (tree_of form es).nodes)
node_numbers_below form n es r h = and_from _ _ (lt-ltb 0 n (omega (arith, h))) (made_below n es (numbers_below 0 n es r h))

-- a number of the entries lies between the bounds
pub any_between : (K : Option Node → Bool) (p low n : ℕ) (es : List Entry) → Rising low es → IsTrue (list_all (λ e. ltb e.number n) es) →
    IsTrue (list_any (λ e. eqb e.number p && K e.made) es) → (low < p) × (p < n)
any_between K p low n [] r a h = absurd (true≢false (sym h))
any_between K p low n (e ∷ es) r a h =
    let parts = and_parts (ltb e.number n) _ a in
    elim (or_cases (eqb e.number p && K e.made) _ h) [
      | inl here ↦ (let same : e.number ≡ p = eqb-true _ _ (and_parts (eqb e.number p) (K e.made) here).0 in
          (omega (arith, same, r.0), omega (arith, same, ltb-true e.number n parts.0)))
      | inr later ↦ (let rest = any_between K p e.number n es r.1 parts.1 later in (omega (arith, r.0, rest.0), rest.1))
    ]

-- a directory's number is below those of what stands in it
pub parent_below : (form : Form) (es : List Entry) (e : Entry) → Rising 0 es → Fits form es e → e.parent < e.number
parent_below form es e r f =
    elim (or_cases (eqb e.parent 0) _ f.in_dir) [
      | inl root ↦ omega (arith, eqb-true _ _ root, f.above)
      | inr made ↦ (any_between makes_dir e.parent 0 e.number es r (numbers_below 0 e.number es r f.above) made).1
    ]

-- so is that of a node of an earlier line, which is not the root
pub earlier_below : (form : Form) (es : List Entry) (e : Entry) → Rising 0 es → Fits form es e → IsTrue (is_earlier_other es e.node) →
    (0 < e.node) × (e.node < e.number)
earlier_below form es e r f h = any_between makes_other e.node 0 e.number es r (numbers_below 0 e.number es r f.above) h

-- a further entry, as what it makes of the tree
pub tree_push : (form : Form) (es : List Entry) (e : Entry) → IsTrue (entries_fit form [] es) → Fits form es e →
    tree_of form (es ++ e ∷ []) ≡ tree_with (tree_of form es) e
tree_push form es e h f = by e.made refl
  where
    nodes_push : (tree_of form (es ++ e ∷ [])).nodes ≡ (0, root_node) ∷ (filter_map made_entry es ++ cons_option (made_entry e) [])
    nodes_push = ap (λ l. (0, root_node) ∷ l) (filter_map-append made_entry es (e ∷ []))

    next_push : (tree_of form (es ++ e ∷ [])).next ≡ e.number + 1
    next_push = ap suc (last_number_push es e) ∙ sym (add-one e.number)

    by : (m : Option Node) → e.made ≡ m → tree_of form (es ++ e ∷ []) ≡ grown_by (tree_of form es) e m
    by None is =
        let nodes : (tree_of form (es ++ e ∷ [])).nodes ≡ (tree_of form es).nodes =
        nodes_push ∙ ap (λ m. (0, root_node) ∷ (filter_map made_entry es ++ cons_option (option_map (λ made. (e.number, made)) m) [])) is ∙
        ap (λ l. (0, root_node) ∷ l) (append-nil (filter_map made_entry es)) in
        λ i. record { rows = rows_push es e f.free i; nodes = nodes i; next = next_push i; room = most_names_of form }
    by (Some made) is =
        let own : e.node ≡ e.number = eqb-true e.node e.number (and_parts _ _ (subst (λ m. IsTrue (made_fits form es e m)) is f.made)).0 in
        let below = node_numbers_below form e.number es (entries_rise form [] es h) f.above in
        let rows : (tree_of form (es ++ e ∷ [])).rows ≡ put spot_cmp (e.parent, e.name) e.number (tree_of form es).rows =
        rows_push es e f.free ∙ ap (λ x. put spot_cmp (e.parent, e.name) x (rows_of_entries es)) own in
        let nodes : (tree_of form (es ++ e ∷ [])).nodes ≡ put nat_cmp e.number made (tree_of form es).nodes =
        nodes_push ∙ ap (λ m. (0, root_node) ∷ (filter_map made_entry es ++ cons_option (option_map (λ made. (e.number, made)) m) [])) is ∙
        sym (put_last e.number made (tree_of form es).nodes below) in
        λ i. record { rows = rows i; nodes = nodes i; next = next_push i; room = most_names_of form }
