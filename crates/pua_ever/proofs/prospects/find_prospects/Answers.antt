use Rattle.pua_ever.proofs.Common.{None}
use Rattle.pua_ever.proofs.Found.{found_so}
use Rattle.pua_ever.proofs.prospects.find_prospects.Goals as goal

pub returns : goal.returns
returns g c =
    let t = g.T.FileTree.content c.args.tree.now in
    let so = found_so t c.args.process.now None c.in_ok-found.found c.in_ok-covers.covers c.in_ok-found.ensures.covers (λ found e. cc)
    c.in_ok-covers.ensures.dirs c.in_ok-covers.ensures.entrances c.in_ok-covers.ensures.names in
    record {
      edits = c.may_edit.ensures;
      links = c.may_link.ensures;
      allowed = c.new-allowed.ensures;
      movable = c.calls_by_object-movable.ensures t None so.0 so.1 so.2;
      destinations = c.in_ok-found.ensures.covers;
      turned = c.in_ok-turned.ensures;
      held = c.in_ok-found.ensures.held;
    }
