use Rattle.std.proofs.Common.{Bool, refl, sym, subst}
use Rattle.pua_tool.proofs.Common.{choice_of}
use Rattle.pua_tool.specs.Texts.{given_bytes}
use Rattle.pua_tool.specs.ListTexts.{IsListWith, with_images_text}
use Rattle.pua_tool.proofs.lists.unhelped_to.Goals as goal

pub returns-then-list : goal.returns-then-list
returns-then-list g c =
    let list = c.args.list.now in
    let choice = choice_of c.args.table in
    let text = with_images_text list.span list.columns list.whose choice c.args.tree_bytes.now c.args.script_bytes.now in record {
      text = (
        text,
        subst (λ (images : Bool). IsListWith images list.span list.columns (given_bytes list.below) list.whose choice c.args.tree_bytes.now c.args.script_bytes.now text)
            (sym c.if-list.true) refl,
        c.with_images_to.ensures,
      );
    }

pub returns : goal.returns
returns g c =
    let list = c.args.list.now in
    let told = c.alone_to.ensures.text in record {
      text = (
        told.0,
        subst (λ (images : Bool). IsListWith images list.span list.columns (given_bytes list.below) list.whose (choice_of c.args.table) c.args.tree_bytes.now
            c.args.script_bytes.now told.0) (sym c.if-list.false) told.1,
        told.2,
      );
    }
