use Rattle.std.proofs.Common.{Bool, refl, sym, subst, ◌∙◌, Err}
use Rattle.pua_tool.proofs.Common.{choice_of}
use Rattle.pua_tool.specs.ListTexts.{IsUnlessPlain}
use Rattle.pua_tool.specs.declared.fault.ToolFault.TheVariants.{PlainBelow}
use Rattle.pua_tool.proofs.lists.list_to.Goals as goal

pub returns-then-is_plain_below : goal.returns-then-is_plain_below
returns-then-is_plain_below g c =
    let list = c.args.list.now in record {
      text = (
        Err PlainBelow,
        subst (λ (plain : Bool). IsUnlessPlain plain (choice_of c.args.table) c.args.tree_bytes.now c.args.script_bytes.now list (Err PlainBelow))
            (sym c.if-is_plain_below.true ∙ c.is_plain_below.ensures) refl,
        (λ other. refl, refl),
      );
    }

pub returns : goal.returns
returns g c =
    let list = c.args.list.now in
    let told = c.sound_to.ensures.text in record {
      text = (
        told.0,
        subst (λ (plain : Bool). IsUnlessPlain plain (choice_of c.args.table) c.args.tree_bytes.now c.args.script_bytes.now list told.0)
            (sym c.if-is_plain_below.false ∙ c.is_plain_below.ensures) told.1,
        told.2,
      );
    }
