use Rattle.pua_why.proofs.Common.{◌++◌, map, ap, sym, ◌∙◌, string_bytes, on_ok_weaker, slashed_names}
use Rattle.pua_why.proofs.Adding.{then_more}
use Rattle.pua_why.proofs.Paths.{spot_is}
use Rattle.pua_why.proofs.tree_paths.TreePaths.push_spot.Goals as goal

pub returns-clause-text : goal.returns-clause-text
returns-clause-text g c =
    on_ok_weaker c.push_name.result (λ more.
    then_more _ _ _ _ _
    (c.in_ok-push_names.ensures
    ∙ ap (λ names. string_bytes c.args.text.now ++ slashed_names names) (ap (map (λ name. name.now)) c.as_slice.ensures.value ∙
    ap (λ s. s.names) c.self.view_is ∙ c.find_dir.ensures.names)) more
    ∙ ap (λ path. string_bytes c.args.text.now ++ path) (sym (spot_is c.args.self.now.tree c.args.dir c.args.name.now)))
    c.push_name.ensures
