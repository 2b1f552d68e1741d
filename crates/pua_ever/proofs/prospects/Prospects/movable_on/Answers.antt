use Rattle.pua_ever.proofs.Found.{found_so}
use Rattle.pua_ever.proofs.prospects.Prospects.movable_on.Goals as goal

pub returns : goal.returns
returns c = λ t is put.
    let so = found_so t c.args.process.now c.args.on c.args.self.now.destinations c.in_ok-covers.covers is.destinations put
    c.in_ok-covers.ensures.dirs c.in_ok-covers.ensures.entrances c.in_ok-covers.ensures.names in
    c.calls_by_object.ensures t c.args.on so.0 so.1 so.2
