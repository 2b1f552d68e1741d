-- The number above which all that is made has its own.
use Rattle.std.proofs.Common.{◌≡◌, ℕ, zero, suc, ◌+◌, ◌≤◌, Bool, true, false, List, [], ◌∷◌, map, refl, subst, cond, arith}
use Rattle.std.proofs.Common.{Option, Some, None, get_or, length, take, ◌<◌}
use Rattle.std.proofs.lemmas.Bool.{eqb-true}
use Rattle.std.proofs.lemmas.List.Sums.{sum_by-cons}
use Rattle.std.specs.Prelude.{◌==◌, count_by, is_some, option_map}
use Rattle.std.specs.List.{AllByRecursion}
use Rattle.pua_tree.specs.Tree.{Tree, Spot, Node, WellFormed, node_at}
use Rattle.pua_tree.proofs.ForCallers.{None≢Some, sound_from, tally_counts}
use Rattle.pua_tree.specs.LentRows.{lent_entry}
use Rattle.pua_tree.specs.declared.tree.LentRow.{LentRow}
use Rattle.pua_how.specs.Targets.{IsLast}

-- a number that some row has is not above one that no row's is above
high : (last x : ℕ) (rows : List (Spot × ℕ)) → AllByRecursion (λ row. row.1 ≤ last) rows → 1 ≤ count_by (λ row. row.1 == x) rows → x ≤ last
high last x [] all some = absurd (omega (arith, some))
high last x (row ∷ rows) all some =
    by (row.1 == x) refl (subst (λ n. 1 ≤ n) (sum_by-cons (λ (r : Spot × ℕ). cond (r.1 == x) 1 0) row rows) some) (λ more. high last x rows all.1 more)
  where
    by : (b : Bool) → (row.1 == x) ≡ b → 1 ≤ cond b 1 0 + count_by (λ row. row.1 == x) rows →
        (1 ≤ count_by (λ row. row.1 == x) rows → x ≤ last) → x ≤ last
    by true same more later = subst (λ y. y ≤ last) (eqb-true row.1 x same) all.0
    by false other more later = later (omega (arith, more))

-- one row more, and a number that is not below those so far and the row's
pub higher_more : (rows : List LentRow) (i : ℕ) (row : LentRow) (so_far next : ℕ) → i < length rows → row ≡ get_or rows i row →
    row.node ≤ next → so_far ≤ next → AllByRecursion (λ (r : Spot × ℕ). r.1 ≤ so_far) (map lent_entry (take i rows)) →
    AllByRecursion (λ (r : Spot × ℕ). r.1 ≤ next) (map lent_entry (take (i + 1) rows))
higher_more rows i row so_far next within here low more all =
    subst (λ n. AllByRecursion (λ (r : Spot × ℕ). r.1 ≤ next) (map lent_entry (take n rows))) (suc_is i) (by rows i within here all)
  where
    suc_is : (n : ℕ) → suc n ≡ n + 1
    suc_is n = omega arith

    by : (rows : List LentRow) (i : ℕ) → i < length rows → row ≡ get_or rows i row →
        AllByRecursion (λ (r : Spot × ℕ). r.1 ≤ so_far) (map lent_entry (take i rows)) →
        AllByRecursion (λ (r : Spot × ℕ). r.1 ≤ next) (map lent_entry (take (suc i) rows))
    by [] i within here all = absurd (omega (arith, within))
    by (r ∷ rows) zero within here all = (subst (λ (x : LentRow). x.node ≤ next) here low, tt)
    by (r ∷ rows) (suc i) within here all = (omega (arith, all.0, more), by rows i (omega (arith, within)) here all.1)

pub last_is : (t : Tree) (last : ℕ) → WellFormed t → AllByRecursion (λ (row : Spot × ℕ). row.1 ≤ last) t.rows → IsLast t last
last_is t last well all zero k is = omega arith
last_is t last well all (suc x) k is =
    high last (suc x) t.rows all
    (subst (λ n. 1 ≤ n) (tally_counts (λ y. y == suc x) t.rows) ((sound_from t well).named (suc x) (living (node_at t (suc x)) is) (λ e. omega (arith, e))))
  where
    living : (o : Option Node) → option_map (λ (n : Node). n.kind) o ≡ Some k → is_some o ≡ true
    living (Some n) e = refl
    living None e = cc

-- the number that is given next is above all of them
pub next_is_last : (t : Tree) → WellFormed t → IsLast t t.next
next_is_last t well x k is = by (node_at t x) refl is
  where
    by : (o : Option Node) → node_at t x ≡ o → option_map (λ (n : Node). n.kind) o ≡ Some k → x ≤ t.next
    by None e none = absurd (None≢Some k none)
    by (Some n) e some = omega (arith, ((sound_from t well).node x n e).0)
