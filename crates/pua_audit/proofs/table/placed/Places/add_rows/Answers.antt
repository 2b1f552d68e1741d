use Rattle.pua_audit.proofs.Common.{◌≡◌, ◌≢◌, ◌≤◌, ℕ, List, [], length, map, get_or, sym, subst, arith, take_all, lent_entry, Spot}
use Rattle.pua_audit.proofs.Common.{IsNowhere, IsUnmarked, LetterSpot}
use Rattle.pua_tree.specs.declared.tree.LentRow.{LentRow}
use Rattle.pua_audit.proofs.Spotted.{all_taken}
use Rattle.pua_audit.proofs.table.placed.Places.add_rows.Goals as goal

pub loop-row-preserved : goal.loop-row-preserved
loop-row-preserved c =
    let l = c.loop-row in
    let new : List LetterSpot = c.add_spot.new.spots.items in
    let added = c.in_ok-add_spot.ensures in
    record {
      within = λ low. added.within (l.invariant.within low);
      rows = λ dir letter low unmarked.
          all_taken (λ (entry : Spot × ℕ). entry.0.0 ≡ dir → entry.0.1 ≢ get_or c.args.self.now letter []) lent_entry
          c.args.rows.now c.row-item.result l.row-index c.loop-row-test.true c.row-item.is
          (l.invariant.rows dir letter low (added.others dir letter unmarked))
          (λ at same. added.here letter low (subst (λ (d : ℕ). IsUnmarked d letter new) (sym at) unmarked) (sym same));
      others = λ dir letter unmarked. l.invariant.others dir letter (added.others dir letter unmarked);
    }

pub returns-clause-rows : goal.returns-clause-rows
returns-clause-rows c = λ dir letter low unmarked.
    let l = c.loop-row in
    let past : length c.args.rows.now ≤ l.row-index = omega (arith, c.loop-row-test.false) in
    subst (λ (rows : List LentRow). IsNowhere dir (get_or c.args.self.now letter []) (map lent_entry rows))
    (take_all l.row-index c.args.rows.now past) (l.invariant.rows dir letter low unmarked)
