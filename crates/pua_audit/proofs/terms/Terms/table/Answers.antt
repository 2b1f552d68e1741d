use Rattle.pua_audit.proofs.Common.{◌≡◌, ◌<◌, ◌≤◌, ◌∙◌, ◌+◌, ◌*◌, ◌-◌, ℕ, suc, nat_eq, List, [], ◌∷◌, ◌++◌, length, map, get_or, arith}
use Rattle.pua_audit.proofs.Common.{refl, sym, ap, subst, AllByRecursion, IsTrue, length-append, length-map, insert_key, Tree, is_dir}
use Rattle.pua_audit.proofs.Common.{cover_in, ProcessState, row_cost, AreCovered, DirectoriesState, Judge, judge_in, AreNumbers}
use Rattle.pua_audit.proofs.Common.{IsJudgedRow, IsTableOf, Steps, Terms}
use Rattle.pua_audit.specs.Bounds.{table_cost}
use Rattle.pua_audit.proofs.Costs.{next_within, one_row_more, rows_few, rows_within}
use Rattle.pua_audit.proofs.Moves.{all_at_index}
use Rattle.pua_audit.proofs.Made.{AreRows, rows_pushed, table_made, distinct_apart}
use Rattle.pua_steps.specs.declared.steps.Row.{Row}
use Rattle.pua_audit.proofs.terms.Terms.table.Goals as goal

pub loop-dir-preserved : goal.loop-dir-preserved
loop-dir-preserved g c =
    let a : Terms = c.in_ok-spots.spots.terms.now in
    let l = c.loop-dir in
    let new : List ℕ = c.row.new.dirs.numbers in
    let rows : List Row = l.rows.items in
    let row : Row = c.in_ok-row.row in
    let at = c.in-Some.ensures in
    let over : c.cover_at-over.result ≡ cover_in a.seen.tree a.process c.in-Some.dir =
    c.cover_at-over.ensures a.seen.tree a.process l.invariant.covered
    ∙ ap (λ (n : ℕ). cover_in a.seen.tree a.process (get_or l.dirs.numbers n 0)) (c.len-in-Some.ensures ∙ sym c.len.ensures)
    ∙ ap (cover_in a.seen.tree a.process) (sym at.dir) in
    let grown = c.in_ok-row.ensures.grown in
    let inside : length rows < length l.dirs.numbers = omega (arith, at.within, c.len.ensures) in
    let count : c.len.result ≡ length rows = omega (arith, c.len.ensures) in
    let here : c.in-Some.dir ≡ get_or l.dirs.numbers (length rows) 0 = at.dir ∙ ap (λ (n : ℕ). get_or l.dirs.numbers n 0) count in
    let last : IsJudgedRow (judge_in a) a.letters new (get_or l.dirs.numbers (length rows) 0) (length a.letters) row.missing
    row.entries.items =
    subst (λ (n : ℕ). IsJudgedRow (judge_in a) a.letters new n (length a.letters) row.missing row.entries.items) here
    (c.in_ok-row.ensures.row l.invariant.covered over) in
    let items : c.push.new.self.items ≡ rows ++ row ∷ [] = c.in_ok-push.ensures.items in
    record {
      rows = subst (AreRows (judge_in a) a.letters new) (sym items) (rows_pushed (judge_in a) a.letters l.dirs.numbers new rows
          row grown l.invariant.within l.invariant.rows last inside);
      within = omega (arith, ap length items, length-append rows (row ∷ []), inside, grown.more);
      some = omega (arith, l.invariant.some, grown.more);
      first = grown.same 0 l.invariant.some ∙ l.invariant.first;
      living = c.in_ok-row.ensures.living l.invariant.living;
      covered = c.in_ok-row.ensures.covered l.invariant.covered;
      tree = c.row.ensures.tree ∙ l.invariant.tree;
      cost =
          let n : ℕ = length a.letters in
          let longer : length c.push.new.self.items ≡ suc (length rows) = omega (arith, ap length items, length-append rows (row ∷ [])) in
          subst (λ m. g.P.Probe.count c.row.new.probe ≤ g.P.Probe.count c.args.probe.now + suc (m * row_cost a.seen.tree n)) (sym longer)
          (omega (arith, c.row.ensures.cost, l.invariant.cost, one_row_more a.seen.tree n (length rows)));
    }

pub returns-clause-table : goal.returns-clause-table
returns-clause-table g c =
    let a : Terms = c.in_ok-spots.spots.terms.now in
    let l = c.loop-dir in
    let t : Steps = record { letters = c.len-2.result; rows = l.rows } in
    let whole : length l.rows.items ≡ length l.dirs.numbers = omega (arith, c.in_default.ensures.none, c.len.ensures, l.invariant.within) in
    let many : c.len-2.result ≡ length a.letters = omega (arith, c.len-2.ensures) in
    let few : length a.letters < 18446744073709551616 = omega (arith, many, c.len-2.type_inv) in
    let numbers : AreNumbers l.dirs.numbers =
    subst (λ (d : DirectoriesState). AreNumbers d.numbers) c.dirs-in-loop-dir.view_is c.dirs-in-loop-dir.invariant in (
      l.dirs.numbers,
      (
        subst (λ (u : Terms). IsTableOf (judge_in u) u.letters l.dirs.numbers t) c.in_ok-spots.ensures
            (table_made (judge_in a) a.letters l.dirs.numbers t many few whole l.invariant.rows),
        distinct_apart l.dirs.numbers numbers.apart,
        l.invariant.some,
        l.invariant.first,
      ),
    )

as_asked : (old made : ℕ) (a asked : Terms) → a ≡ asked → made ≤ old + table_cost a.seen.tree (length a.letters)
    → made ≤ old + table_cost asked.seen.tree (length asked.letters)
as_asked old made a asked same = subst (λ (u : Terms). made ≤ old + table_cost u.seen.tree (length u.letters)) same

pub returns-clause-cost : goal.returns-clause-cost
returns-clause-cost g c =
    let a : Terms = c.in_ok-spots.spots.terms.now in
    let l = c.loop-dir in
    let numbers : AreNumbers l.dirs.numbers =
    subst (λ (d : DirectoriesState). AreNumbers d.numbers) c.dirs-in-loop-dir.view_is c.dirs-in-loop-dir.invariant in
    let few : length l.rows.items ≤ length a.seen.tree.nodes =
    omega (arith, l.invariant.within, rows_few a.seen.tree l.dirs.numbers numbers l.invariant.living) in
    as_asked _ _ a c.args.self.now c.in_ok-spots.ensures
    (omega (arith, l.invariant.cost, rows_within a.seen.tree (length a.letters) (length l.rows.items) few))

pub returns-in_err-row-clause-cost : goal.returns-in_err-row-clause-cost
returns-in_err-row-clause-cost g c =
    let a : Terms = c.in_ok-spots.spots.terms.now in
    let l = c.loop-dir in
    let numbers : AreNumbers l.dirs.numbers =
    subst (λ (d : DirectoriesState). AreNumbers d.numbers) c.dirs-in-loop-dir.view_is c.dirs-in-loop-dir.invariant in
    let inside : length l.rows.items < length l.dirs.numbers = omega (arith, c.in-Some.ensures.within, c.len.ensures) in
    as_asked _ _ a c.args.self.now c.in_ok-spots.ensures (omega (
      arith,
      c.row.ensures.cost,
      l.invariant.cost,
      next_within a.seen.tree (length a.letters) (length l.rows.items) l.dirs.numbers numbers l.invariant.living inside,
    ))

pub returns-in_err-push-clause-cost : goal.returns-in_err-push-clause-cost
returns-in_err-push-clause-cost g c =
    let a : Terms = c.in_ok-spots.spots.terms.now in
    let l = c.loop-dir in
    let numbers : AreNumbers l.dirs.numbers =
    subst (λ (d : DirectoriesState). AreNumbers d.numbers) c.dirs-in-loop-dir.view_is c.dirs-in-loop-dir.invariant in
    let inside : length l.rows.items < length l.dirs.numbers = omega (arith, c.in-Some.ensures.within, c.len.ensures) in
    as_asked _ _ a c.args.self.now c.in_ok-spots.ensures (omega (
      arith,
      c.row.ensures.cost,
      l.invariant.cost,
      next_within a.seen.tree (length a.letters) (length l.rows.items) l.dirs.numbers numbers l.invariant.living inside,
    ))

-- before the first row

no_rows : (w : Judge) (letters : List (List ℕ)) (dirs : List ℕ) (rows : List Row) → rows ≡ [] → AreRows w letters dirs rows
no_rows w letters dirs rows none = λ d low. absurd (omega (arith, low, ap length none))

none_within : (rows : List Row) (dirs : List ℕ) → rows ≡ [] → length rows ≤ length dirs
none_within rows dirs none = omega (arith, ap length none)

some_within : (place n : ℕ) → place < n → 0 < n
some_within place n low = omega arith

not_more : (n m : ℕ) → n ≤ n + suc m
not_more n m = omega arith

pub loop-dir-init : goal.loop-dir-init
loop-dir-init g c =
    let a : Terms = c.in_ok-spots.spots.terms.now in
    let t : Tree = a.seen.tree in
    let h : ProcessState = a.process in
    let new = c.place.new.self in
    let same : a ≡ c.args.self.now = c.in_ok-spots.ensures in
    let placed = c.in_ok-place.ensures in
    let alone : new.numbers ≡ c.args.base ∷ [] =
    placed.all ∙ ap (λ (ns : List ℕ). insert_key nat_eq ns c.args.base) c.new-dirs.ensures.numbers in
    record {
      rows = no_rows (judge_in a) a.letters new.numbers c.new-rows.result.items c.new-rows.ensures.items;
      within = none_within c.new-rows.result.items new.numbers c.new-rows.ensures.items;
      some = some_within c.in_ok-place.field-0 (length new.numbers) placed.place.0;
      first = ap (λ (ns : List ℕ). get_or ns 0 0) alone;
      living = subst (AllByRecursion (λ (d : ℕ). IsTrue (is_dir t d))) (sym alone)
          (subst (λ (u : Terms). IsTrue (is_dir u.seen.tree c.args.base)) (sym same) c.requires.living, tt);
      covered = placed.covered t h (subst (λ (u : Terms). c.args.cover ≡ cover_in u.seen.tree u.process c.args.base)
          (sym same) c.requires.covered)
          (c.new-dirs.ensures.covers ∙ ap (map (cover_in t h)) (sym c.new-dirs.ensures.numbers));
      tree = c.requires.tree ∙ ap (λ (u : Terms). u.seen.tree) (sym same);
      cost = not_more (g.P.Probe.count c.args.probe.now) (length c.new-rows.result.items * row_cost t (length a.letters));
    }

-- one row more

cover_below : (t : Tree) (h : ProcessState) (dirs : DirectoriesState) (place other : ℕ) → AreCovered t h dirs → place ≡ other
    → other < length dirs.numbers → place < length dirs.covers
cover_below t h dirs place other covered same low =
    let many : length dirs.covers ≡ length dirs.numbers = ap length covered ∙ length-map dirs.numbers (cover_in t h) in
    omega (arith, many, same, low)

pub cover_at-over-requires : goal.cover_at-over-requires
cover_at-over-requires g c =
    let a : Terms = c.in_ok-spots.spots.terms.now in
    cover_below a.seen.tree a.process c.loop-dir.dirs c.len-in-Some.result c.len.result c.loop-dir.invariant.covered
    (c.len-in-Some.ensures ∙ sym c.len.ensures) c.in-Some.ensures.within

pub row-requires : goal.row-requires
row-requires g c κs =
    let a : Terms = c.in_ok-spots.spots.terms.now in
    let t : Tree = a.seen.tree in
    let l = c.loop-dir in
    let at = c.in-Some.ensures in
    let living : IsTrue (is_dir t c.in-Some.dir) =
    subst (λ (d : ℕ). IsTrue (is_dir t d)) (sym at.dir)
    (all_at_index (λ (d : ℕ). IsTrue (is_dir t d)) l.dirs.numbers 0 l.invariant.living c.len.result at.within) in (
      (refl, tt),
      (
        l.invariant.tree,
        living,
      ),
    )

fewer_left : (count rows more dirs : ℕ) → count ≡ rows → count < dirs → dirs ≤ 4294967296 → more ≡ suc rows
    → 4294967296 - more < 4294967296 - rows
fewer_left count rows more dirs same low few longer = omega arith

one_longer : (rows more : List Row) (row : Row) → more ≡ rows ++ row ∷ [] → length more ≡ suc (length rows)
one_longer rows more row is = omega (arith, ap length is, length-append rows (row ∷ []))

pub loop-dir-smaller : goal.loop-dir-smaller
loop-dir-smaller g c =
    let l = c.loop-dir in
    let known = c.in-Some.ensures in
    let count : c.len.result ≡ length l.rows.items = omega (arith, c.len.ensures) in
    fewer_left c.len.result (length l.rows.items) (length c.push.new.self.items) (length l.dirs.numbers) count known.within known.few
    (one_longer l.rows.items c.push.new.self.items c.in_ok-row.row c.in_ok-push.ensures.items)

-- after the last row

at_most : (rows dirs most : ℕ) → rows ≤ dirs → dirs ≤ most → rows ≤ most
at_most rows dirs most within few = omega arith

pub returns-clause-few : goal.returns-clause-few
returns-clause-few g c =
    at_most (length c.loop-dir.rows.items) (length c.loop-dir.dirs.numbers) 4294967296 c.loop-dir.invariant.within c.in_default.ensures.few
