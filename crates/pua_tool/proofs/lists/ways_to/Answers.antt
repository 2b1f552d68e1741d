use Rattle.std.proofs.Common.{◌≡◌, ◌⊎◌, inl, inr, ℕ, List, Vec, Global, sym, subst, refl, Err}
use Rattle.pua_words.specs.declared.command.Processes.{Processes}
use Rattle.pua_words.specs.declared.command.Processes.TheVariants.{Named}
use Rattle.pua_words.specs.declared.command.Processes.TheVariants as processes
use Rattle.pua_tool.proofs.Common.{Chosen, Option, choice_of}
use Rattle.pua_tool.specs.Texts.{given_bytes}
use Rattle.pua_tool.specs.ListTexts.{IsWaysText}
use Rattle.pua_tool.specs.declared.fault.ToolFault.TheVariants.{SeveralHow}
use Rattle.pua_tool.proofs.lists.ways_to.Goals as goal

none_of_several : (choice : Chosen) (tree script : List ℕ) (path : Option (List ℕ)) (whose : Processes) →
    ((numbers : Vec ℕ Global) × (whose ≡ Named numbers)) ⊎ (whose ≡ processes.All) → IsWaysText choice tree script path whose (Err SeveralHow)
none_of_several choice tree script path whose (inl named) = subst (λ w. IsWaysText choice tree script path w (Err SeveralHow)) (sym named.1) refl
none_of_several choice tree script path whose (inr all) = subst (λ w. IsWaysText choice tree script path w (Err SeveralHow)) (sym all) refl

pub returns-in-Named : goal.returns-in-Named
returns-in-Named g c = record {
  text = (
    Err SeveralHow,
    none_of_several (choice_of c.args.table) c.args.tree_bytes.now c.args.script_bytes.now (given_bytes c.args.path) c.args.whose.now c.in-Named.is,
    (λ other. refl, refl),
  );
}

pub returns-in-Named-2 : goal.returns-in-Named-2
returns-in-Named-2 g c = record {
  text = (
    Err SeveralHow,
    none_of_several (choice_of c.args.table) c.args.tree_bytes.now c.args.script_bytes.now (given_bytes c.args.path) c.args.whose.now c.in-Named.is,
    (λ other. refl, refl),
  );
}
