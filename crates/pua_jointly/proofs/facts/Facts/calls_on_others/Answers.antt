use Rattle.pua_jointly.proofs.Common.{IsMissing, refl}
use Rattle.pua_jointly.proofs.JointTold.{calls_known, dir_word, others_calls, under_by}
use Rattle.pua_jointly.proofs.facts.Facts.calls_on_others.Goals as goal

pub returns : goal.returns
returns c = λ t crew a is lives.
    let table = c.args.table.now in
    let facts = c.args.self.now in
    let of = c.args.of.now in
    others_calls t table crew facts a of is c.args.dir c.calls_under.result lives
    (under_by table of.process.now a c.on_dir.result (dir_word t table crew facts a of is c.args.dir) IsMissing c.calls_under.result is.process
    c.on_dir.ensures (c.calls_under.ensures (calls_known t table crew facts a of is) IsMissing refl))
