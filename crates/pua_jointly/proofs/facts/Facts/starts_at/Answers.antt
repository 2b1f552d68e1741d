use Rattle.pua_jointly.proofs.Common.{◌∙◌, ap, false≢true, is_dir_kind, sym}
use Rattle.pua_calls.specs.declared.call.Call.TheVariants.{Exec}
use Rattle.pua_jointly.proofs.JointStarting.{kind_of_entry}
use Rattle.pua_jointly.proofs.facts.Facts.starts_at.Goals as goal

pub returns-then-is_dir : goal.returns-then-is_dir
returns-then-is_dir c = λ t crew a is among.
    let kind = kind_of_entry t c.args.table.now crew c.args.self.now a c.args.of.now is c.args.entry.now among in (
      λ no. absurd (false≢true no),
      λ starts. sym starts.0 ∙ ap is_dir_kind kind ∙ sym c.is_dir.ensures ∙ c.if-is_dir.true,
    )

pub returns : goal.returns
returns c = λ t crew a is among.
    let kind = kind_of_entry t c.args.table.now crew c.args.self.now a c.args.of.now is c.args.entry.now among in
    let other = ap is_dir_kind kind ∙ sym c.is_dir.ensures ∙ c.if-is_dir.false in
    let calls = c.calls_on_entry.ensures t crew a is among other in (
      λ has. (other, calls.only Exec (sym c.contains.ensures ∙ has)),
      λ starts. c.contains.ensures ∙ calls.all Exec starts.1,
    )
