use Rattle.pua_why.proofs.Common.{◌≡◌, ◌+◌, ◌++◌, ℕ, length, map, refl, sym, ap, ◌∙◌, arith, names_to}
use Rattle.std.proofs.Common.{◌-◌, reverse, option_map}
use Rattle.pua_tree.specs.LentRows.{lent_spot}
use Rattle.pua_why.proofs.Paths.{path_more, path_none, path_done}
use Rattle.pua_why.proofs.tree_paths.climb.Goals as goal

pub loop-init : goal.loop-init
loop-init g c =
    let t = g.T.FileTree.content c.args.tree.now in
    let all : c.row_count-end.result ≡ length t.rows = cc in
    let above = reverse (map (λ name. name.now) c.args.names.now.items) in
    record {
      all = all;
      room = refl;
      count = omega arith;
      names = ap (λ n. names_to n t c.args.dir ++ above) (omega (arith, all));
    }

pub loop-preserved : goal.loop-preserved
loop-preserved g c =
    let t = g.T.FileTree.content c.args.tree.now in
    let last : ℕ = c.row_count-end.result in
    let i : ℕ = c.loop.counter in
    let spot = c.in-Some.spot in
    let now = c.loop.invariant in
    record {
      all = now.all;
      room = c.push_reserved.ensures.capacity ∙ now.room;
      count = omega (arith, c.push_reserved.ensures.len, now.count);
      names =
          ap (λ ns. names_to (last - (i + 1)) t spot.dir ++ reverse (map (λ name. name.now) ns)) c.push_reserved.ensures.items
          ∙ path_more t c.loop.at (last - (i + 1)) (last - i) spot c.loop.names.items
          (ap (option_map lent_spot) (sym c.in-Some.is) ∙ c.spot_of.ensures) (omega (arith, c.loop-test.true))
          ∙ now.names;
    }

pub returns-in_default-clause-names : goal.returns-in_default-clause-names
returns-in_default-clause-names g c =
    let t = g.T.FileTree.content c.args.tree.now in
    sym (path_none t c.loop.at (c.row_count-end.result - c.loop.counter) (reverse (map (λ name. name.now) c.loop.names.items))
    (ap (option_map lent_spot) (sym c.in_default.is) ∙ c.spot_of.ensures)) ∙ c.loop.invariant.names

pub returns-clause-names : goal.returns-clause-names
returns-clause-names g c =
    let t = g.T.FileTree.content c.args.tree.now in
    sym (path_done t c.loop.at (c.row_count-end.result - c.loop.counter) (reverse (map (λ name. name.now) c.loop.names.items))
    (omega (arith, c.loop-test.false))) ∙ c.loop.invariant.names
