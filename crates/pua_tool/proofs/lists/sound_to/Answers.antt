use Rattle.std.proofs.Common.{sym, subst}
use Rattle.std.specs.Prelude.{Option}
use Rattle.pua_words.specs.declared.command.Processes.{Processes}
use Rattle.pua_tool.proofs.Common.{choice_of}
use Rattle.pua_tool.specs.Texts.{given_bytes}
use Rattle.pua_tool.specs.ListTexts.{IsListOf}
use Rattle.pua_tool.proofs.lists.sound_to.Goals as goal

pub returns-in-Some : goal.returns-in-Some
returns-in-Some g c =
    let list = c.args.list.now in
    let told = c.helped_to.ensures.text in record {
      text = (
        told.0,
        subst (λ (beside : Option Processes). IsListOf beside list.images list.span list.columns (given_bytes list.below) list.whose (choice_of c.args.table)
            c.args.tree_bytes.now c.args.script_bytes.now told.0) (sym c.in-Some.is) told.1,
        told.2,
      );
    }

pub returns-in-None : goal.returns-in-None
returns-in-None g c =
    let list = c.args.list.now in
    let told = c.unhelped_to.ensures.text in record {
      text = (
        told.0,
        subst (λ (beside : Option Processes). IsListOf beside list.images list.span list.columns (given_bytes list.below) list.whose (choice_of c.args.table)
            c.args.tree_bytes.now c.args.script_bytes.now told.0) (sym c.in-None.is) told.1,
        told.2,
      );
    }
