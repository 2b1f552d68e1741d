-- The lists of a walk, one after another.
use Rattle.pua_steps.proofs.Common.{ℕ, zero, suc, ◌+◌, ◌-◌, ◌*◌, ◌<◌, ◌≤◌, ◌≡◌, List, [], ◌∷◌, ◌++◌, Option, Some, None, Bool, true, false}
use Rattle.pua_steps.proofs.Common.{not, ◌||◌, ◌==◌, cond, max, refl, ap, arith, sym, ◌∙◌, length, length-append, append_assoc, append-nil}
use Rattle.pua_steps.proofs.Common.{filter, take, drop, get_or, inl, inr, subst, cases_lt, IfSome, AllByRecursion, bound_of, is_useful}
use Rattle.pua_steps.proofs.Common.{list_of, within, span_of, IsListAt, AreListsOf, IsLonger, IsTable, IsEntry, Rising, entries_at}
use Rattle.pua_steps.proofs.Common.{missing_at, Entry, Steps, Span, Lists}
use Rattle.std.proofs.Math.ListN.{get_or-append}
use Rattle.std.proofs.Math.Seq.{drop-append_seam}
use Rattle.std.proofs.lemmas.List.{take_all, take-append-le}
use Rattle.pua_steps.specs.Lists.{IsLayer}
use Rattle.pua_steps.specs.declared.live.Live as table
use Rattle.pua_steps.proofs.Filling.{at_end}
use Rattle.pua_steps.proofs.Base.{all_filtered}

-- lists that go on from others

pub longer_none : {A : Type 0} (xs : List A) → IsLonger A xs xs
longer_none xs = record { more = []; parts = sym (append-nil xs) }

pub longer_on : {A : Type 0} (xs ys zs : List A) (more : List A) → IsLonger A xs ys → zs ≡ ys ++ more → IsLonger A xs zs
longer_on xs ys zs more first e =
    record { more = first.more ++ more; parts = e ∙ ap (λ ws. ws ++ more) first.parts ∙ append_assoc xs first.more more }

pub longer_at : {A : Type 0} (xs ys : List A) (d : A) (i : ℕ) → IsLonger A xs ys → i < length xs → get_or ys i d ≡ get_or xs i d
longer_at xs ys d i longer h = ap (λ ws. get_or ws i d) longer.parts ∙ get_or-append xs longer.more d i h

pub longer_length : {A : Type 0} (xs ys : List A) → IsLonger A xs ys → length xs ≤ length ys
longer_length xs ys longer = omega (arith, ap length longer.parts, length-append xs longer.more)

-- a list stays where it stands

pub list_stays : (es fs : List Entry) (s : Span) (list : List Entry) → IsLonger Entry es fs → IsListAt es s list → IsListAt fs s list
list_stays es fs s list longer is = record {
  order = is.order;
  inside = omega (arith, is.inside, longer_length es fs longer);
  same = ap (λ xs. drop s.place (take s.end xs)) longer.parts ∙ ap (drop s.place) (take-append-le s.end es longer.more is.inside) ∙ is.same;
}

pub list_last : (es fs list : List Entry) → fs ≡ es ++ list → IsListAt fs (record { place = length es; end = length fs }) list
list_last es fs list e = record {
  order = omega (arith, ap length e, length-append es list);
  inside = omega arith;
  same = ap (drop (length es)) (take_all (length fs) fs (omega arith) ∙ e) ∙ drop-append_seam es list;
}

later : (next more : ℕ) (es : List Entry) → next ≤ more → Rising more es → Rising next es
later next more [] h rises = tt
later next more (e ∷ es) h rises = (omega (arith, h, rises.0), rises.1)

pub rising_kept : (p : Entry → Bool) (next : ℕ) (es : List Entry) → Rising next es → Rising next (filter p es)
rising_kept p next [] rises = tt
rising_kept p next (e ∷ es) rises =
    elim (p e) as (λ b. Rising next (cond b (e ∷ filter p es) (filter p es))) [
      | true ↦ (rises.0, rising_kept p (suc e.letter) es rises.1)
      | false ↦ later next (suc e.letter) (filter p es) (omega (arith, rises.0)) (rising_kept p (suc e.letter) es rises.1)
    ]

pub list_known : (t : Steps) (v : table.Live) (l d : ℕ) → IsTable t → d < length t.rows.items →
    AllByRecursion (λ e. IsEntry t e) (list_of t v l d)
unfolding list_of
list_known t v l d known h = all_filtered (λ e. IsEntry t e) (is_useful (missing_at t d) v.bounds.items v.dirs l) (entries_at t d)
    (known d h).entries

pub list_rises : (t : Steps) (v : table.Live) (l d : ℕ) → IsTable t → d < length t.rows.items → Rising 0 (list_of t v l d)
unfolding list_of
list_rises t v l d known h = rising_kept (is_useful (missing_at t d) v.bounds.items v.dirs l) 0 (entries_at t d) (known d h).rises

-- layers with the same bounds have the same lists
abbrev left_behind : List ℕ → ℕ → ℕ → ℕ → Option ℕ → ℕ
left_behind bounds dirs l links None = 0
left_behind bounds dirs l links (Some d) = get_or bounds (l * dirs + d) 0 - links

module _ (bounds : List ℕ) (dirs k l : ℕ) (same : (d : ℕ) → d < dirs → get_or bounds (l * dirs + d) 0 ≡ get_or bounds (k * dirs + d) 0)
  where
    bound_same : (e : Entry) → IfSome e.to (λ d. d < dirs) → bound_of bounds dirs l e ≡ bound_of bounds dirs k e
    bound_same e to = ap (λ n. cond (e.kept == 0) (max (cond (e.all == 0) 0 (33 - e.links)) n) 33) (by e.to to)
      where
        by : (o : Option ℕ) → IfSome o (λ d. d < dirs) → left_behind bounds dirs l e.links o ≡ left_behind bounds dirs k e.links o
        by None h = refl
        by (Some d) h = ap (λ n. n - e.links) (same d h)

    filter_same : (t : Steps) (m : ℕ) (es : List Entry) → AllByRecursion (λ e. IsEntry t e) es → dirs ≡ length t.rows.items →
        filter (is_useful m bounds dirs l) es ≡ filter (is_useful m bounds dirs k) es
    filter_same t m [] all many = refl
    filter_same t m (e ∷ es) all many =
        let to : IfSome e.to (λ d. d < dirs) = subst (λ n. IfSome e.to (λ d. d < n)) (sym many) all.0.to in
        ap (λ n. cond (not (m == 0) || not (n == 0)) (e ∷ filter (is_useful m bounds dirs l) es) (filter (is_useful m bounds dirs l) es))
        (bound_same e to)
        ∙ ap (λ xs. cond (is_useful m bounds dirs k e) (e ∷ xs) xs) (filter_same t m es all.1 many)

pub list_same : (t : Steps) (v : table.Live) (k l d : ℕ) → IsTable t → v.dirs ≡ length t.rows.items → d < length t.rows.items →
    ((d : ℕ) → d < v.dirs → get_or v.bounds.items (l * v.dirs + d) 0 ≡ get_or v.bounds.items (k * v.dirs + d) 0)
    → list_of t v l d ≡ list_of t v k d
unfolding list_of
list_same t v k l d known many h same =
    filter_same v.bounds.items v.dirs k l same t (missing_at t d) (entries_at t d) (known d h).entries many

-- one layer more

abbrev pub no_span : Span
no_span = record { place = 0; end = 0 }

module _ (t : Steps) (v : table.Live) (left : ℕ) (a b : Lists) (listed : AreListsOf t v left a)
    (entries : IsLonger Entry a.entries.items b.entries.items) (spans : IsLonger Span a.spans.items b.spans.items)
    (x : ℕ) (pushed : b.layers.items ≡ a.layers.items ++ x ∷ []) where
  layer_stays : (l k : ℕ) → IsLayer t v a l → get_or b.layers.items k 0 ≡ get_or a.layers.items l 0 →
      ((d : ℕ) → d < length t.rows.items → list_of t v k d ≡ list_of t v l d) → IsLayer t v b k
  layer_stays l k layer begins same = record {
    runs = omega (arith, begins, layer.runs, longer_length a.spans.items b.spans.items spans);
    stand = λ d h.
        let there : get_or a.layers.items l 0 + d < length a.spans.items = omega (arith, layer.runs, h) in
        let span : span_of b k d ≡ span_of a l d = ap (λ n. get_or b.spans.items (n + d) no_span) begins ∙
        longer_at a.spans.items b.spans.items no_span (get_or a.layers.items l 0 + d) spans there in
        subst (λ s. IsListAt b.entries.items s (list_of t v k d)) (sym span)
        (subst (IsListAt b.entries.items (span_of a l d)) (sym (same d h)) (list_stays a.entries.items b.entries.items (span_of a l d)
        (list_of t v l d) entries (layer.stand d h)));
  }

  last_begins : get_or b.layers.items left 0 ≡ x
  last_begins = ap (λ xs. get_or xs left 0) pushed ∙ at_end a.layers.items x left (sym listed.many)

  pub shared_layer : (k : ℕ) → k < left → x ≡ get_or a.layers.items k 0 →
      ((d : ℕ) → d < length t.rows.items → list_of t v left d ≡ list_of t v k d) → IsLayer t v b left
  shared_layer k h shared same = layer_stays k left (listed.layers k h) (last_begins ∙ shared) same

  pub made_layer : x ≡ length a.spans.items → length b.spans.items ≡ length a.spans.items + length t.rows.items
      → ((d : ℕ) → d < length t.rows.items →
      IsListAt b.entries.items (get_or b.spans.items (length a.spans.items + d) no_span) (list_of t v left d)) → IsLayer t v b left
  made_layer first many lists = record {
    runs = omega (arith, last_begins, first, many);
    stand = λ d h. subst (λ n. IsListAt b.entries.items (get_or b.spans.items (n + d) no_span) (list_of t v left d)) (sym (last_begins ∙
        first)) (lists d h);
  }

  pub listed_more : AllByRecursion (λ e. IsEntry t e) b.entries.items → IsLayer t v b left → AreListsOf t v (suc left) b
  listed_more known layer = record {
    known = known;
    many = omega (arith, ap length pushed, length-append a.layers.items (x ∷ []), listed.many);
    layers = λ l h.
        elim (cases_lt l left) [
          | inl less ↦ layer_stays l l (listed.layers l less) (ap (λ xs. get_or xs l 0) pushed ∙
              get_or-append a.layers.items (x ∷ []) 0 l (omega (arith, less, listed.many))) (λ d low. refl)
          | inr past ↦ (let e : left ≡ l = omega (arith, past, h) in subst (IsLayer t v b) e layer)
        ];
  }

-- what is said of all entries

pub all_take : {A : Type 0} (P : A → Type 0) (i : ℕ) (xs : List A) → AllByRecursion P xs → AllByRecursion P (take i xs)
all_take P zero [] all = tt
all_take P zero (x ∷ xs) all = tt
all_take P (suc i) [] all = tt
all_take P (suc i) (x ∷ xs) all = (all.0, all_take P i xs all.1)

all_drop : {A : Type 0} (P : A → Type 0) (i : ℕ) (xs : List A) → AllByRecursion P xs → AllByRecursion P (drop i xs)
all_drop P zero xs all = all
all_drop P (suc i) [] all = tt
all_drop P (suc i) (x ∷ xs) all = all_drop P i xs all.1

pub all_within : (P : Entry → Type 0) (es : List Entry) (place end : ℕ) → AllByRecursion P es → AllByRecursion P (within es place end)
all_within P es place end all = all_drop P place (take end es) (all_take P end es all)
