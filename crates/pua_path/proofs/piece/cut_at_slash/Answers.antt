use Rattle.pua_path.proofs.Common.{sym}
use Rattle.pua_path.proofs.Pieces.{cut_at_first, cut_nowhere, all_small, front_bytes}
use Rattle.pua_path.proofs.piece.cut_at_slash.Goals as goal

pub returns-in-Some-clause-cut : goal.returns-in-Some-clause-cut
returns-in-Some-clause-cut c =
    rw (c.split_at.ensures.front, c.split_at.ensures.back) (cut_at_first _ _ (sym c.in-Some.ensures))

pub returns-in-Some-clause-bytes : goal.returns-in-Some-clause-bytes
returns-in-Some-clause-bytes c =
    front_bytes c.args.text.now _ _ (returns-in-Some-clause-cut c) (all_small c.args.text.now c.type_inv.text)

pub returns-in-None-clause-cut : goal.returns-in-None-clause-cut
returns-in-None-clause-cut c = cut_nowhere _ (sym c.in-None.ensures)

pub returns-in-None-clause-bytes : goal.returns-in-None-clause-bytes
returns-in-None-clause-bytes c = all_small c.args.text.now c.type_inv.text
