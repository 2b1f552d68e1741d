use Rattle.pua_ever.proofs.Common.{◌≡◌, true, false, sym, ap, ◌∙◌, ◌&&◌, not, is_mount, is_none, nat_cmp, if◌then◌else◌, empty_tree, has}
use Rattle.std.specs.BTreeSet.{contains}
use Rattle.pua_ever.proofs.Common.{perms_kept, covered_verdict, is_allowed, can_move, cover_in, is_named_way}
use Rattle.pua_policy.specs.declared.object.Object.TheVariants as see
use Rattle.pua_policy.specs.declared.place.Place.TheVariants as place
use Rattle.pua_ever.proofs.Prospected.{moved_calls, still_calls}
use Rattle.pua_ever.proofs.prospects.Prospects.on_dir.Goals as goal

pub returns-then-moves_dir : goal.returns-then-moves_dir
returns-then-moves_dir c = λ t way needs is finds living named covered seen call.
    let h = c.args.process.now in
    let can : (is_none (perms_kept h (place.Dir c.args.dir)) && can_move c.args.table.now h (cover_in t h c.args.dir)) ≡ true
    = (λ i. is_none (perms_kept h (place.Dir c.args.dir)) && can_move c.args.table.now h (sym covered i)) ∙
    sym c.moves_dir.ensures ∙ c.if-moves_dir.true in
    ap (λ set. has set call) c.on_dir.ensures
    ∙ moved_calls t c.args.table.now h c.args.self.now is c.args.dir way living c.args.movable.now finds can c.can_empty-emptied.result
    (c.can_empty-emptied.ensures ∙ ap (λ b. b && not (contains nat_cmp c.args.self.now.destinations.held c.args.dir)) named) call

pub returns : goal.returns
returns c = λ t way needs is finds living named covered seen call.
    let h = c.args.process.now in
    let p = c.args.self.now in
    let can : (is_none (perms_kept h (place.Dir c.args.dir)) && can_move c.args.table.now h (cover_in t h c.args.dir)) ≡ false
    = (λ i. is_none (perms_kept h (place.Dir c.args.dir)) && can_move c.args.table.now h (sym covered i)) ∙
    sym c.moves_dir.ensures ∙ c.if-moves_dir.false in
    let emptied : c.can_empty-emptied.result
    ≡ ((is_named_way way && not (is_mount t c.args.dir)) && not (contains nat_cmp p.destinations.held c.args.dir))
    = c.can_empty-emptied.ensures ∙ ap (λ b. b && not (contains nat_cmp p.destinations.held c.args.dir)) named in
    still_calls t c.args.table.now h p is c.args.dir way living c.args.movable.now finds needs can c.seen_as-object.result
    (c.seen_as-object.ensures ∙ (λ i. if emptied i && is.edits i then see.Removable else seen i))
    c.on.result
    (λ o sees call. c.on.ensures h c.args.table.now empty_tree o is.allowed sees call ∙
    ap (λ left. is_allowed (covered_verdict empty_tree c.args.table.now h call left o)) covered)
    call
