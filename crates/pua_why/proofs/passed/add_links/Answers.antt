use Rattle.pua_why.proofs.Common.{append-nil, map, sym, fact_seen}
use Rattle.pua_why.proofs.passed.add_links.Goals as goal

pub loop-spot-init : goal.loop-spot-init
loop-spot-init c = sym (append-nil (map fact_seen c.args.told.now.items))
