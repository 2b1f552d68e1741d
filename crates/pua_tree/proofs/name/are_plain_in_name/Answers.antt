use Rattle.pua_tree.proofs.Common.{◌≡◌, refl, subst, rules, tests, [], ◌∷◌, list_all}
use Rattle.std.proofs.lemmas.Fn.{fold_over, slice_gives, fronts}
use Rattle.std.proofs.lemmas.List.Folds.{list_all-append}
use Rattle.pua_tree.specs.Spelling.{is_plain_in_name}
use Rattle.pua_tree.proofs.name.are_plain_in_name.Goals as goal

pub returns : goal.returns
returns c = subst (λ l. c.fold.result ≡ list_all is_plain_in_name l) c.iter.ensures.rest
    (fold_over fronts (λ y. y.now) _ (λ ys plain. plain ≡ list_all is_plain_in_name ys) _
    (λ ys a x b f' j k. let more = list_all-append is_plain_in_name ys (x.now ∷ []) in search (rules, tests))
    _ _ _ _ (slice_gives c.iter.result) refl c.fold.ensures.ran)
