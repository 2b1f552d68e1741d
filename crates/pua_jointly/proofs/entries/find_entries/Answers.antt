use Rattle.pua_jointly.proofs.Common.{◌≡◌, ◌<◌, ◌≤◌, ◌∙◌, ◌∷◌, ◌++◌, [], ap, arith, kind_at, length, look, map, Some, Spot, subst, sym, take, Tree, ℕ, List}
use Rattle.std.proofs.lemmas.Grind.{common_steps}
use Rattle.pua_tree.specs.LentRows.{lent_entry}
use Rattle.pua_tree.specs.declared.tree.LentRow.{LentRow}
use Rattle.pua_jointly.specs.JointMembers.{Each}
use Rattle.pua_jointly.specs.JointSetting.{IsEntryAt, entry_of}
use Rattle.pua_jointly.specs.declared.crew.Entry.{Entry}
use Rattle.pua_jointly.proofs.JointGathered.{as_many, at_among, lent_found, lent_lives, map_more, spots_lent, taken_all}
use Rattle.pua_jointly.proofs.JointMembers.{each_more}
use Rattle.pua_jointly.proofs.JointSorted.{in_order}
use Rattle.pua_jointly.proofs.entries.find_entries.Goals as goal

-- all rows were gone through
all_rows : (t : Tree) (lent : List LentRow) → map lent_entry lent ≡ t.rows → (entries : List Entry) (place : ℕ) → length lent ≤ place →
    map entry_of entries ≡ map (λ (row : LentRow). (row.dir, row.name.now)) (take place lent) →
    map entry_of entries ≡ map (λ (row : Spot × ℕ). row.0) t.rows
all_rows t lent are entries place past so_far =
    so_far ∙ ap (map (λ (row : LentRow). (row.dir, row.name.now))) (taken_all lent place past)
    ∙ spots_lent lent ∙ ap (map (λ (row : Spot × ℕ). row.0)) are

pub unreachable-requires : goal.unreachable-requires
unreachable-requires g c =
    lent_lives (g.T.FileTree.content c.args.rows.now.tree.now) c.known.ensures c.args.rows.now.rows.now c.args.rows.now.all
    c.index-lent-place.result (at_among c.args.rows.now.rows.now c.loop-place.place c.index-lent-place.result c.loop-place-test.true
    c.index-lent-place.is) c.in_default.ensures

pub loop-place-preserved : goal.loop-place-preserved
loop-place-preserved g c =
    let t = g.T.FileTree.content c.args.rows.now.tree.now in
    let well = c.known.ensures in
    let rows = c.args.rows.now.rows.now in
    let are = c.args.rows.now.all in
    let place : ℕ = c.loop-place.place in
    let first : ℕ = c.args.rows.now.first in
    let entries : List Entry = c.loop-place.all.items in
    let entry : Entry = c.in-Some.entry in
    let row : LentRow = c.index-lent-place.result in
    let inv = c.loop-place.invariant in
    let low : place < length rows = c.loop-place-test.true in
    let items : c.push.new.self.items ≡ entries ++ entry ∷ [] = c.in-Ok.ensures.items in
    let count : length entries ≡ place =
    as_many entry_of (λ (row : LentRow). (row.dir, row.name.now)) entries rows place inv.rows (omega (arith, low)) in
    let found = lent_found t well rows are row (at_among rows place row low c.index-lent-place.is) in
    let spot : entry_of entry ≡ (row.dir, row.name.now) = c.in-Some.ensures.spot in
    let node : entry.node ≡ row.node = c.in-Some.ensures.node in
    let here : IsEntryAt t first place entry = record {
      row = c.in-Some.ensures.row;
      at = (λ z. look t (spot z).0 (spot z).1) ∙ found ∙ ap Some (sym node);
      kind = ap (kind_at t) node ∙ c.in-Some.ensures.kind;
    } in
    record {
      rows = ap (map entry_of) items
          ∙ map_more entry_of (λ (row : LentRow). (row.dir, row.name.now)) entries rows place entry row low c.index-lent-place.is inv.rows spot;
      each = subst (Each (IsEntryAt t first)) (sym items)
          (each_more (IsEntryAt t first) entries entry inv.each (subst (λ k. IsEntryAt t first k entry) (sym count) here));
    }

pub invariant_of-result : goal.invariant_of-result
invariant_of-result g c =
    let t = g.T.FileTree.content c.args.rows.now.tree.now in
    let lent = c.args.rows.now.rows.now in
    let past : length lent ≤ c.loop-place.place = grind (arith, common_steps) in
    record {
      in_order = in_order t.rows c.loop-place.all.items c.known.ensures.rows_in_order
          (all_rows t lent c.args.rows.now.all c.loop-place.all.items c.loop-place.place past c.loop-place.invariant.rows);
    }

pub returns-clause-rows : goal.returns-clause-rows
returns-clause-rows g c =
    let t = g.T.FileTree.content c.args.rows.now.tree.now in
    let lent = c.args.rows.now.rows.now in
    let past : length lent ≤ c.loop-place.place = grind (arith, common_steps) in
    all_rows t lent c.args.rows.now.all c.loop-place.all.items c.loop-place.place past c.loop-place.invariant.rows
