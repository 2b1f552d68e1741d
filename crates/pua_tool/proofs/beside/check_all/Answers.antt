use Rattle.pua_tool.proofs.Common.{◌≡◌, ◌∙◌, ◌++◌, ℕ, List, Result, Ok, Err, None, CallTable, ProcessState, ToolFault, err_from_is_err_and, if_err}
use Rattle.std.specs.Prelude.{OnOk}
use Rattle.pua_texts.specs.Members.{named_by}
use Rattle.pua_tool.specs.TogetherTexts.{first_refused}
use Rattle.pua_tool.proofs.BesideTexts.{refused_first, refused_then}
use Rattle.pua_tool.proofs.beside.check_all.Goals as goal

-- of none is there a reason
none_refused : (table : CallTable) (members helpers : List (ℕ × ProcessState)) → first_refused table members ≡ None →
    (r : Result (Unit {0}) ToolFault) → OnOk r (first_refused table helpers ≡ None) → OnOk r (first_refused table (members ++ helpers) ≡ None)
none_refused table members helpers none (Ok done) rest = refused_then table members helpers none ∙ rest
none_refused table members helpers none (Err fault) rest = tt

pub returns-in_err-check_members-clause-refused : goal.returns-in_err-check_members-clause-refused
returns-in_err-check_members-clause-refused c =
    let p = err_from_is_err_and c.from_residual.result c.from_residual.ensures.1 in
    rw (p.1, p.2) (refused_first c.args.table.now (named_by c.args.members.now) (named_by c.args.helpers.now) _
    c.in_err-check_members.ensures.refused)

pub returns-clause-listed : goal.returns-clause-listed
returns-clause-listed c =
    none_refused c.args.table.now (named_by c.args.members.now) (named_by c.args.helpers.now) c.in_ok-check_members.ensures.listed
    c.check_members-2.result c.check_members-2.ensures.listed

pub returns-clause-refused : goal.returns-clause-refused
returns-clause-refused c = if_err c.check_members-2.result (λ fault refused.
    refused_then c.args.table.now (named_by c.args.members.now) (named_by c.args.helpers.now) c.in_ok-check_members.ensures.listed ∙ refused)
    c.check_members-2.ensures.refused
