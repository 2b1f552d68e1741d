use Rattle.std.proofs.Common.{Bool, refl, sym, subst, Err}
use Rattle.pua_tool.proofs.Common.{choice_of}
use Rattle.pua_tool.specs.ListTexts.{IsHelpedWith}
use Rattle.pua_tool.specs.declared.fault.ToolFault.TheVariants.{ImagesBeside}
use Rattle.pua_tool.proofs.lists.helped_to.Goals as goal

pub returns-then-list : goal.returns-then-list
returns-then-list g c =
    let list = c.args.list.now in record {
      text = (
        Err ImagesBeside,
        subst (λ (images : Bool). IsHelpedWith images list.span list.columns list.whose c.args.helping.now (choice_of c.args.table)
            c.args.tree_bytes.now c.args.script_bytes.now (Err ImagesBeside)) (sym c.if-list.true) refl,
        (λ other. refl, refl),
      );
    }

pub returns : goal.returns
returns g c =
    let list = c.args.list.now in
    let told = c.plain_helped_to.ensures.text in record {
      text = (
        told.0,
        subst (λ (images : Bool). IsHelpedWith images list.span list.columns list.whose c.args.helping.now (choice_of c.args.table)
            c.args.tree_bytes.now c.args.script_bytes.now told.0) (sym c.if-list.false) told.1,
        told.2,
      );
    }
