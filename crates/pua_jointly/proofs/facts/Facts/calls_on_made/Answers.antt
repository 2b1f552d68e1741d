use Rattle.pua_jointly.proofs.Common.{◌∙◌, ap, Comes, IsMissing, NewFifo, NewFile, NewLink, NewSock, refl, removable_dir, subst, sym}
use Rattle.pua_policy.specs.Verdict.{IsLink, IsProg}
use Rattle.pua_policy.specs.declared.object.Object.TheVariants.{Node}
use Rattle.pua_calls.specs.Calls.{file_by_rules}
use Rattle.pua_ever.specs.Ever.{new_object}
use Rattle.pua_ever.specs.EverLines.{new_of}
use Rattle.pua_jointly.specs.JointCalls.{AreCallsOf}
use Rattle.pua_jointly.specs.JointFound.{made_words, new_covers}
use Rattle.pua_jointly.proofs.JointTold.{calls_known, made_dir_calls, made_file_calls, made_fifo_calls, made_link_calls, made_others_calls, made_sock_calls, under_by}
use Rattle.pua_jointly.proofs.facts.Facts.calls_on_made.Goals as goal

pub returns-in-Dir : goal.returns-in-Dir
returns-in-Dir c = λ t crew a is.
    let table = c.args.table.now in
    let facts = c.args.self.now in
    let of = c.args.of.now in
    subst (λ m. AreCallsOf t table crew a (Comes (new_of m)) c.calls_under.result) (sym c.in-Dir.is)
    (made_dir_calls t table crew facts a of is c.calls_under.result
    (under_by table of.process.now a c.on_made_dir.result (made_words facts.crew facts.told.items of) removable_dir c.calls_under.result is.process
    c.on_made_dir.ensures (c.calls_under.ensures (calls_known t table crew facts a of is) removable_dir refl)))

pub returns-in-Others : goal.returns-in-Others
returns-in-Others c = λ t crew a is.
    let table = c.args.table.now in
    let facts = c.args.self.now in
    let of = c.args.of.now in
    subst (λ m. AreCallsOf t table crew a (Comes (new_of m)) c.calls_under-in-Others.result) (sym c.in-Others.is)
    (made_others_calls t table crew facts a of is c.calls_under-in-Others.result
    (under_by table of.process.now a c.on_made_dir-in-Others.result (made_words facts.crew facts.told.items of) IsMissing c.calls_under-in-Others.result is.process
    c.on_made_dir-in-Others.ensures (c.calls_under-in-Others.ensures (calls_known t table crew facts a of is) IsMissing refl)))

pub returns-in-File : goal.returns-in-File
returns-in-File c = λ t crew a is.
    let table = c.args.table.now in
    let facts = c.args.self.now in
    let of = c.args.of.now in
    subst (λ m. AreCallsOf t table crew a (Comes (new_of m)) c.on_new_file.result) (sym c.in-File.is)
    (made_file_calls t table crew facts a of is c.calls_under-calls.result c.calls_under-started.result c.on_new_file.result
    (under_by table of.process.now a c.on_made-covers.result (new_covers facts.crew facts.told.items of NewFile) (new_object table NewFile)
    c.calls_under-calls.result is.process c.on_made-covers.ensures
    (c.calls_under-calls.ensures (calls_known t table crew facts a of is) (new_object table NewFile)
    (ap Node (c.file.ensures ∙ ap file_by_rules c.rules.ensures))))
    (under_by table of.process.now a c.on_made-covers.result (new_covers facts.crew facts.told.items of NewFile) IsProg c.calls_under-started.result
    is.process c.on_made-covers.ensures (c.calls_under-started.ensures (calls_known t table crew facts a of is) IsProg refl)) c.on_new_file.ensures)

pub returns-in-Link : goal.returns-in-Link
returns-in-Link c = λ t crew a is.
    let table = c.args.table.now in
    let facts = c.args.self.now in
    let of = c.args.of.now in
    subst (λ m. AreCallsOf t table crew a (Comes (new_of m)) c.keeping.result) (sym c.in-Link.is)
    (made_link_calls t table crew facts a of is c.calls_under-calls-in-Link.result c.keeping.result
    (under_by table of.process.now a c.on_made-covers-in-Link.result (new_covers facts.crew facts.told.items of NewLink) IsLink c.calls_under-calls-in-Link.result
    is.process c.on_made-covers-in-Link.ensures (c.calls_under-calls-in-Link.ensures (calls_known t table crew facts a of is) IsLink refl)) c.keeping.ensures)

pub returns-in-Sock : goal.returns-in-Sock
returns-in-Sock c = λ t crew a is.
    let table = c.args.table.now in
    let facts = c.args.self.now in
    let of = c.args.of.now in
    subst (λ m. AreCallsOf t table crew a (Comes (new_of m)) c.calls_on_typed.result) (sym c.in-Sock.is)
    (made_sock_calls t table crew facts a of is c.calls_on_typed.result
    (under_by table of.process.now a (new_covers facts.crew facts.told.items of (new_of c.args.made))
    (new_covers facts.crew facts.told.items of NewSock) (new_object table NewSock) c.calls_on_typed.result is.process
    (ap (λ m. new_covers facts.crew facts.told.items of (new_of m)) c.in-Sock.is)
    (c.calls_on_typed.ensures (calls_known t table crew facts a of is))))

pub returns-in-Fifo : goal.returns-in-Fifo
returns-in-Fifo c = λ t crew a is.
    let table = c.args.table.now in
    let facts = c.args.self.now in
    let of = c.args.of.now in
    subst (λ m. AreCallsOf t table crew a (Comes (new_of m)) c.calls_on_typed-in-Fifo.result) (sym c.in-Fifo.is)
    (made_fifo_calls t table crew facts a of is c.calls_on_typed-in-Fifo.result
    (under_by table of.process.now a (new_covers facts.crew facts.told.items of (new_of c.args.made))
    (new_covers facts.crew facts.told.items of NewFifo) (new_object table NewFifo) c.calls_on_typed-in-Fifo.result is.process
    (ap (λ m. new_covers facts.crew facts.told.items of (new_of m)) c.in-Fifo.is)
    (c.calls_on_typed-in-Fifo.ensures (calls_known t table crew facts a of is))))
