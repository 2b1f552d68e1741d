use Rattle.pua_since.proofs.Common.{◌∙◌, ◌++◌, sym, ap, map, List, fork_seen, made_by}
use Rattle.std.proofs.lemmas.List.{append-nil, reverse-reverse}
use Rattle.std.proofs.lemmas.Slice.Zip.{zip_end}
use Rattle.pua_since.specs.declared.watches.Fork.{Fork}
use Rattle.pua_since.proofs.Forks.{none_done}
use Rattle.pua_since.proofs.watches.forks_of.Goals as goal

pub returns : goal.returns
returns c =
    let requests = c.args.requests.now in
    let told = c.args.answers.now in
    let forks = c.loop-request.forks.items in
    let ended = zip_end requests told c.loop-request.yielded c.into_iter-request-iterator.result c.loop-request.request-iterator
    c.next.new.self _ (cc) (cc) c.loop-request.yielded_by c.in-None.is c.next.ensures.steps in
    ap made_by c.reverse.ensures.items
    ∙ ap (λ (made : List Fork). map fork_seen made) (reverse-reverse forks)
    ∙ sym (append-nil (map fork_seen forks))
    ∙ ap (λ more. map fork_seen forks ++ more) (sym (none_done requests told _ ended))
    ∙ c.loop-request.invariant
