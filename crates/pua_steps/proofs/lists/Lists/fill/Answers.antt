use Rattle.pua_steps.proofs.Common.{◌≤◌, suc, arith, suc-mul, mul-le-mul_right}
use Rattle.pua_steps.proofs.lists.Lists.fill.Goals as goal

pub add_layer-requires-clause-layer : goal.add_layer-requires-clause-layer
add_layer-requires-clause-layer c =
    let v = c.args.live.now in
    let short : suc c.loop-left.left ≤ suc c.args.limit = omega arith in
    omega (arith, c.requires.sized.cells, suc-mul c.loop-left.left v.dirs, mul-le-mul_right v.dirs short)
