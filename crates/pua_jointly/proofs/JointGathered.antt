-- What is worked out of a crew and a tree, one thing after another.
use Rattle.pua_jointly.proofs.Common.{◌≡◌, ◌<◌, ◌≤◌, ◌⊎◌, ◌∙◌, ◌||◌, ◌&&◌, ◌==◌, ◌∷◌, ◌++◌, [], ℕ, suc, Bool, true, false, List, length, map, refl, sym, ap, subst}
use Rattle.pua_jointly.proofs.Common.{inl, inr, arith, Option, Some, None, same_Some, None≢Some, Among, among_contained, among_left, among_map, among_right}
use Rattle.pua_jointly.proofs.Common.{contained, map_among, list_any, take, Place, Spot, Tree, false≢true, eqb-true, eq-eqb, and_from, and_parts}
use Rattle.pua_jointly.proofs.Common.{same_place, same_place_is, WellFormed, zero, is_some, kind_at, look, option_map, row_says, sound_from}
use Rattle.std.proofs.Common.{cond}
use Rattle.pua_tree.specs.Tree.{Node, node_at}
use Rattle.std.specs.Prelude.{get_or, slice_get, slice_index_or, ◌+◌, IsTrue}
use Rattle.std.specs.Borrow.{Bor}
use Rattle.std.specs.List.{Contains}
use Rattle.std.proofs.lemmas.Bool.{cases_lt}
use Rattle.std.proofs.lemmas.List.{length-map, length-take-le, map-append, take_all}
use Rattle.std.proofs.lemmas.List.Folds.{list_any_more}
use Rattle.pua_objects.proofs.ForCallers.{among_either}
use Rattle.pua_policy.proofs.ForCallers.{same_place_refl}
use Rattle.pua_tree.specs.LentRows.{lent_entry}
use Rattle.pua_tree.specs.declared.tree.LentRow.{LentRow}
use Rattle.pua_jointly.specs.JointFound.{AreMarked}
use Rattle.pua_jointly.specs.JointMembers.{file_now, kind_number, same_file, same_veil, veil_now}
use Rattle.pua_policy.specs.declared.open_file.OpenFile.{OpenFile}
use Rattle.pua_tree.specs.declared.node.Kind.{Kind}
use Rattle.pua_tree.specs.declared.node.Kind.TheVariants as kind
use Rattle.pua_tree.specs.declared.node.FileType.{FileType}
use Rattle.pua_tree.specs.declared.node.FileType.TheVariants.{Plain, Sock, Fifo, Dev}
use Rattle.pua_jointly.specs.JointPlace.{Once}
use Rattle.pua_jointly.specs.JointSetting.{AreMarksOf, AreWatched, IsMarkOf, is_watched, mark_spot, row_number, veil_number}
use Rattle.pua_ever.specs.Laws.{dir_of_place}
use Rattle.pua_jointly.specs.declared.crew.Entry.{Entry}
use Rattle.pua_jointly.specs.declared.crew.Mark.{Mark}
use Rattle.pua_jointly.specs.declared.crew.Watch.{Watch}
use Rattle.pua_jointly.proofs.JointMembers.{at_least, each_below, each_more, greater_left, greater_right, greatest, once_more, taken_more}
use Rattle.pua_jointly.proofs.JointPlaced.{among_got}
use Rattle.pua_jointly.proofs.JointWorked.{row_found}

-- what is in a list with one thing more
pub in_last : {X : Type 0} (xs : List X) (x y : X) → Contains (xs ++ x ∷ []) y → Contains xs y ⊎ (x ≡ y)
in_last xs x y c = elim (among_either xs (x ∷ []) y (among_contained (xs ++ x ∷ []) y c)) [
  | inl one ↦ inl (contained xs y one)
  | inr two ↦ inr (last two)
]
  where
    last : Among (x ∷ []) y → x ≡ y
    last (inl e) = e
    last (inr none) = absurd none

pub in_front : {X : Type 0} (xs : List X) (x y : X) → Contains xs y → Contains (xs ++ x ∷ []) y
in_front xs x y c = contained (xs ++ x ∷ []) y (among_left xs (x ∷ []) y (among_contained xs y c))

pub at_last : {X : Type 0} (xs : List X) (x : X) → Contains (xs ++ x ∷ []) x
at_last xs x = contained (xs ++ x ∷ []) x (among_right xs (x ∷ []) x (inl refl))

-- so many are gathered as were gone through
pub as_many : {X Y Z : Type 0} (f : X → Z) (g : Y → Z) (xs : List X) (ys : List Y) (i : ℕ) → map f xs ≡ map g (take i ys) → i ≤ length ys →
    length xs ≡ i
as_many f g xs ys i same within =
    sym (length-map xs f) ∙ ap length same ∙ length-map (take i ys) g ∙ length-take-le i ys within

-- all are gone through
pub taken_all : {X : Type 0} (xs : List X) (i : ℕ) → length xs ≤ i → take i xs ≡ xs
taken_all xs i all = take_all i xs all

pub map_more : {X Y Z : Type 0} (f : X → Z) (g : Y → Z) (xs : List X) (ys : List Y) (i : ℕ) (x : X) (y : Y) → i < length ys →
    y ≡ slice_index_or ys i y → map f xs ≡ map g (take i ys) → f x ≡ g y → map f (xs ++ x ∷ []) ≡ map g (take (i + 1) ys)
map_more f g xs ys i x y within is so_far here =
    map-append f xs (x ∷ []) ∙ (λ z. so_far z ++ here z ∷ []) ∙ sym (map-append g (take i ys) (y ∷ [])) ∙ ap (map g) (sym (taken_more ys i y within is))

-- two veils
pub veil_same : (a b : Place × ℕ) → same_veil a b ≡ true → a ≡ b
veil_same a b e =
    let both = and_parts (same_place a.0 b.0) _ e in
    let place = same_place_is a.0 b.0 both.0 in
    let perms = eqb-true a.1 b.1 both.1 in
    λ z. (place z, perms z)

pub same_veils : (a b : Place × ℕ) → a ≡ b → same_veil a b ≡ true
same_veils a b e =
    subst (λ x. same_veil a x ≡ true) e (and_from (same_place a.0 a.0) _ (same_place_refl a.0) (eq-eqb a.1 a.1 refl))

-- open files that are the same
type_from : ℕ → FileType
type_from n = cond (n == 4) Plain (cond (n == 5) Sock (cond (n == 6) Fifo Dev))

kind_from : ℕ → Kind
kind_from n =
    cond (n == 0) kind.Dir (cond (n == 1) kind.File (cond (n == 2) kind.Prog (cond (n == 3) kind.Link (kind.Known (type_from n)))))

kind_back : (a : Kind) → kind_from (kind_number a) ≡ a
unfolding kind_from type_from
kind_back kind.Dir = refl
kind_back kind.File = refl
kind_back kind.Prog = refl
kind_back kind.Link = refl
kind_back (kind.Known Plain) = refl
kind_back (kind.Known Sock) = refl
kind_back (kind.Known Fifo) = refl
kind_back (kind.Known Dev) = refl

pub file_same : (a b : ℕ × OpenFile) → same_file a b ≡ true → a ≡ b
file_same a b e =
    let one = and_parts (a.0 == b.0) _ e in
    let two = and_parts (a.1.node == b.1.node) _ one.1 in
    let three = and_parts (kind_number a.1.kind == kind_number b.1.kind) _ two.1 in
    let number = eqb-true a.0 b.0 one.0 in
    let node = eqb-true a.1.node b.1.node two.0 in
    let kinds = sym (kind_back a.1.kind) ∙ ap kind_from (eqb-true (kind_number a.1.kind) (kind_number b.1.kind) three.0) ∙ kind_back b.1.kind in
    let letters = eqb-true a.1.letters b.1.letters three.1 in
    λ z. (number z, record { node = node z; kind = kinds z; letters = letters z })

pub same_files : (a b : ℕ × OpenFile) → a ≡ b → same_file a b ≡ true
same_files a b e =
    subst (λ x. same_file a x ≡ true) e
    (and_from (a.0 == a.0) _ (eq-eqb a.0 a.0 refl) (and_from (a.1.node == a.1.node) _ (eq-eqb a.1.node a.1.node refl)
    (and_from (kind_number a.1.kind == kind_number a.1.kind) _ (eq-eqb (kind_number a.1.kind) (kind_number a.1.kind) refl)
    (eq-eqb a.1.letters a.1.letters refl))))

-- the names with veils
module _ (t : Tree) (entries : List Entry) (veils : List (Place × ℕ)) (marks : List Mark) (so_far : AreMarksOf t entries veils marks)
    (veil : Place × ℕ) where
  pub marks_more : (mark : Mark) → IsMarkOf t entries veil.0 mark → AreMarksOf t entries (veils ++ veil ∷ []) (marks ++ mark ∷ [])
  marks_more mark is = record {
    each = λ v spot c e. elim (in_last veils veil v c) [
      | inl one ↦ (let m = so_far.each v spot one e in (m.0, in_front marks mark m.0 m.1, m.2))
      | inr two ↦
          (mark, at_last marks mark, same_Some (mark.dir, mark.name.now) spot (sym is.spot ∙ ap (λ (x : Place × ℕ). mark_spot t x.0) two ∙ e))
    ];
    only = λ m c. elim (in_last marks mark m c) [
      | inl one ↦ (let v = so_far.only m one in (v.0, in_front veils veil v.0 v.1, v.2))
      | inr two ↦ (veil, at_last veils veil, subst (IsMarkOf t entries veil.0) two is)
    ];
  }

  pub marks_still : mark_spot t veil.0 ≡ None → AreMarksOf t entries (veils ++ veil ∷ []) marks
  marks_still none = record {
    each = λ v spot c e. elim (in_last veils veil v c) [
      | inl one ↦ so_far.each v spot one e
      | inr two ↦ absurd (None≢Some spot (sym none ∙ ap (λ (x : Place × ℕ). mark_spot t x.0) two ∙ e))
    ];
    only = λ m c. let v = so_far.only m c in (v.0, in_front veils veil v.0 v.1, v.2);
  }

pub no_marks : (t : Tree) (entries : List Entry) → AreMarksOf t entries [] []
no_marks t entries = record {
  each = λ v spot c e. absurd (among_contained [] v c);
  only = λ m c. absurd (among_contained [] m c);
}

-- the watched directories
pub any_map : {X Y : Type 0} (p : Y → Bool) (f : X → Y) (xs : List X) → list_any (λ x. p (f x)) xs ≡ list_any p (map f xs)
any_map p f [] = refl
any_map p f (x ∷ xs) = ap (λ b. p (f x) || b) (any_map p f xs)

module _ (t : Tree) (many d : ℕ) (veils : List (Place × ℕ)) (watches : List Watch) (so_far : AreWatched t many d veils watches) where
  low : {y : ℕ} → y < d + 1 → (y < d) ⊎ (y ≡ d)
  low {y = y} less = by (cases_lt y d)
    where
      by : (y < d) ⊎ (d ≤ y) → (y < d) ⊎ (y ≡ d)
      by (inl one) = inl one
      by (inr two) = inr (omega (arith, less, two))

  pub watches_more : (watch : Watch) → watch.dir ≡ d → watch.column ≡ many + suc (length watches) → is_watched t veils d ≡ true →
      AreWatched t many (d + 1) veils (watches ++ watch ∷ [])
  watches_more watch here column watched = record {
    each = each_more (λ i w. (w.dir < d + 1) × (w.column ≡ many + suc i) × IsTrue (is_watched t veils w.dir)) watches watch
        (λ i w e. let one = so_far.each i w e in let less = one.0 in (omega (arith, less), one.1, one.2))
        (omega (arith, here), column, ap (is_watched t veils) here ∙ watched);
    all = λ y less e. elim (low less) [
      | inl one ↦ (let w = so_far.all y one e in (w.0, in_front watches watch w.0 w.1, w.2))
      | inr two ↦ (watch, at_last watches watch, here ∙ sym two)
    ];
    once = subst Once (sym (map-append (λ (w : Watch). w.dir) watches (watch ∷ [])))
        (once_more (map (λ (w : Watch). w.dir) watches) watch.dir so_far.once (λ a.
        let m = map_among (λ (w : Watch). w.dir) watches watch.dir a in
        let g = among_got watches m.0 m.1 in
        let less = (so_far.each g.at m.0 g.is).0 in
        let same = m.2 in
        omega (arith, less, same, here)));
  }

  pub watches_still : is_watched t veils d ≡ false → AreWatched t many (d + 1) veils watches
  watches_still none = record {
    each = λ i w e. let one = so_far.each i w e in let less = one.0 in (omega (arith, less), one.1, one.2);
    all = λ y less e. elim (low less) [
      | inl one ↦ so_far.all y one e
      | inr two ↦ absurd (false≢true (sym none ∙ ap (is_watched t veils) (sym two) ∙ e))
    ];
    once = so_far.once;
  }

pub no_watches : (t : Tree) (many : ℕ) (veils : List (Place × ℕ)) → AreWatched t many 0 veils []
no_watches t many veils = record {
  each = λ i w e. absurd (None≢Some w e);
  all = λ y less e. absurd (omega (arith, less));
  once = λ i j x at_i at_j. absurd (None≢Some x at_i);
}

-- what is gone through is in the list
pub at_among : {X : Type 0} (xs : List X) (i : ℕ) (x : X) → i < length xs → x ≡ slice_index_or xs i x → Among xs x
at_among [] i x low is = absurd (omega (arith, low))
at_among (y ∷ xs) zero x low is = inl (sym is)
at_among (y ∷ xs) (suc i) x low is = inr (at_among xs i x (omega (arith, low)) is)

-- the veils gone through
pub veils_step : (veils : List (Bor Place × Bor ℕ)) (i : ℕ) (veil : Bor Place × Bor ℕ) → i < length veils → veil ≡ slice_index_or veils i veil →
    map veil_now (take (i + 1) veils) ≡ map veil_now (take i veils) ++ veil_now veil ∷ []
veils_step veils i veil low is = ap (map veil_now) (taken_more veils i veil low is) ∙ map-append veil_now (take i veils) (veil ∷ [])

pub files_step : (files : List (Bor ℕ × Bor OpenFile)) (i : ℕ) (file : Bor ℕ × Bor OpenFile) → i < length files → file ≡ slice_index_or files i file →
    map file_now (take (i + 1) files) ≡ map file_now (take i files) ++ file_now file ∷ []
files_step files i file low is = ap (map file_now) (taken_more files i file low is) ∙ map-append file_now (take i files) (file ∷ [])

-- rows that are lent
pub spots_lent : (rows : List LentRow) → map (λ (row : LentRow). (row.dir, row.name.now)) rows ≡ map (λ (row : Spot × ℕ). row.0) (map lent_entry rows)
spots_lent [] = refl
spots_lent (row ∷ rows) = ap (λ xs. (row.dir, row.name.now) ∷ xs) (spots_lent rows)

module _ (t : Tree) (well : WellFormed t) (rows : List LentRow) (lent : map lent_entry rows ≡ t.rows) (row : LentRow) (among : Among rows row) where
  in_tree : Among t.rows (lent_entry row)
  in_tree = subst (λ es. Among es (lent_entry row)) lent (among_map lent_entry rows row among)

  pub lent_found : look t row.dir row.name.now ≡ Some row.node
  lent_found = row_found t well (lent_entry row) in_tree

  pub lent_lives : kind_at t row.node ≡ None → ⊥
  lent_lives none = by (node_at t row.node) refl
    where
      by : (o : Option Node) → node_at t row.node ≡ o → ⊥
      by None e =
          false≢true (sym (ap is_some e) ∙ (row_says t (sound_from t well) (row.dir, row.name.now) row.node lent_found).2)
      by (Some n) e = None≢Some n.kind (sym none ∙ ap (option_map (λ (n : Node). n.kind)) e)

got_at_place : {X Y : Type 0} (f : X → Y) (xs : List X) (i : ℕ) (x : X) → i < length xs → x ≡ slice_index_or xs i x → slice_get (map f xs) i ≡ Some (f x)
got_at_place f [] i x low is = absurd (omega (arith, low))
got_at_place f (y ∷ xs) zero x low is = ap (λ v. Some (f v)) (sym is)
got_at_place f (y ∷ xs) (suc i) x low is = got_at_place f xs i x (omega (arith, low)) is

-- what is at one place of two lists that give the same
pub alike_there : {X Y : Type 0} (f : X → Y) (xs ys : List X) (i : ℕ) (x y : X) → i < length xs → x ≡ slice_index_or xs i x →
    y ≡ slice_index_or ys i y → map f xs ≡ map f ys → f x ≡ f y
alike_there f xs ys i x y low at_x at_y same =
    let here = got_at_place f xs i x low at_x in
    let more : i < length ys = by (length-map xs f) (length-map ys f) (ap length same) in
    same_Some (f x) (f y) (sym here ∙ ap (λ zs. slice_get zs i) same ∙ got_at_place f ys i y more at_y)
  where
    by : length (map f xs) ≡ length xs → length (map f ys) ≡ length ys → length (map f xs) ≡ length (map f ys) → i < length ys
    by one two three = omega (arith, low, one, two, three)

-- the last number is not below any of a row or of a veil's directory
abbrev pub last_of : List LentRow → List (Bor Place × Bor ℕ) → ℕ
last_of rows veils = greatest veil_number (greatest row_number 0 rows) veils

pub rows_below : (t : Tree) (rows : List LentRow) (veils : List (Bor Place × Bor ℕ)) (last : ℕ) → last ≡ last_of rows veils →
    map lent_entry rows ≡ t.rows → (row : Spot × ℕ) → Among t.rows row → (row.0.0 ≤ last) × (row.1 ≤ last)
rows_below t rows veils last is lent row among =
    let m = map_among lent_entry rows row (subst (λ es. Among es row) (sym lent) among) in
    let dir = greater_left m.0.dir m.0.node in
    let node = greater_right m.0.dir m.0.node in
    let one = each_below row_number rows 0 m.0 m.1 in
    let two = at_least veil_number veils (greatest row_number 0 rows) in
    let same_dir : m.0.dir ≡ row.0.0 = ap (λ (e : Spot × ℕ). e.0.0) m.2 in
    let same_node : m.0.node ≡ row.1 = ap (λ (e : Spot × ℕ). e.1) m.2 in
    (omega (arith, dir, one, two, is, same_dir), omega (arith, node, one, two, is, same_node))

pub veils_below : (rows : List LentRow) (veils : List (Bor Place × Bor ℕ)) (last : ℕ) → last ≡ last_of rows veils →
    (veil : Place × ℕ) → Among (map veil_now veils) veil → dir_of_place veil.0 ≤ last
veils_below rows veils last is veil among =
    let m = map_among veil_now veils veil among in
    let one = each_below veil_number veils (greatest row_number 0 rows) m.0 m.1 in
    let same = ap (λ (v : Place × ℕ). dir_of_place v.0) m.2 in
    omega (arith, one, is, same)

-- what is found of one more name is marked
pub marked_more : (test : ℕ → Entry → Bool) (all : List Entry) (i : ℕ) (item : Entry) (count : ℕ) (before after : List Bool) (number : ℕ) (is : Bool) →
    i < length all → item ≡ slice_index_or all i item → length before ≡ count →
    ((n : ℕ) → n < length before → get_or after n false ≡ (get_or before n false || (number == n && is))) →
    ((n : ℕ) → test n item ≡ (number == n && is)) → AreMarked test (take i all) count before → AreMarked test (take (i + 1) all) count after
marked_more test all i item count before after number is low at long step here so_far n less =
    step n (omega (arith, less, long))
    ∙ (λ z. so_far n less z || (sym (here n) ∙ ap (test n) at) z)
    ∙ sym (list_any_more (test n) all i item low)
