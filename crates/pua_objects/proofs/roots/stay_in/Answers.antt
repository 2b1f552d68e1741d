use Rattle.pua_objects.proofs.Common.{◌∙◌, Bor, Tree, ℕ}
use Rattle.std.proofs.Common.{rules, tests}
use Rattle.std.proofs.lemmas.Iterator.{YieldsList-from_slice}
use Rattle.std.proofs.lemmas.Iterator.Search.{all_from_yields_List}
use Rattle.pua_policy.specs.declared.open_file.OpenFile.{OpenFile}
use Rattle.pua_objects.specs.Roots.{is_held_inside}
use Rattle.pua_objects.proofs.ShownLines.{all_lent}
use Rattle.pua_objects.proofs.roots.stay_in.Goals as goal

pub returns : goal.returns
returns g c =
    let t : Tree = g.T.FileTree.content c.args.tree.now in
    all_from_yields_List (λ (held : Bor ℕ × Bor OpenFile). is_held_inside t c.args.root held.1.now) _ _ _ c.all.ensures.ran
    (YieldsList-from_slice c.args.files.now cc) (λ x b q k. search (rules, tests))
    ∙ all_lent t c.args.root c.args.files.now
