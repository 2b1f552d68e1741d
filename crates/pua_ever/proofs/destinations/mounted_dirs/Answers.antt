use Rattle.pua_ever.proofs.Common.{◌≡◌, ◌∙◌, ap, list_any, map}
use Rattle.std.proofs.lemmas.Result.{IfOk-weaker}
use Rattle.pua_tree.specs.LentRows.{lent_entry}
use Rattle.pua_ever.specs.Destinations.{is_mounted_in}
use Rattle.pua_ever.proofs.Picked.{any_mapped}
use Rattle.pua_ever.proofs.destinations.mounted_dirs.Goals as goal

pub returns : goal.returns
returns g c =
    let t = g.T.FileTree.content c.args.tree.now in
    let rows : map lent_entry c.deref.result.now ≡ t.rows = ap (map lent_entry) c.deref.ensures.value ∙ c.in-Ok.ensures in
    IfOk-weaker c.mounted_among.result _ _
    (λ dirs found dir. found dir ∙ any_mapped lent_entry (is_mounted_in t dir) c.deref.result.now ∙ ap (list_any (is_mounted_in t dir)) rows)
    c.mounted_among.ensures
