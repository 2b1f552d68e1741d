use Rattle.pua_texts.proofs.Common.{◌∷◌, [], Ok, refl, sym, ap, ◌∙◌, subst, err_from_is_err_and, Option, pair_lines}
use Rattle.pua_audit.specs.Coming.{calls_at}
use Rattle.pua_audit.specs.Reach.{path_of}
use Rattle.pua_audit.specs.Lent.{AreNextLines}
use Rattle.pua_audit.specs.declared.path_lines.PathLines.{PathLines}
use Rattle.pua_texts.specs.PathLines.{path_lines}
use Rattle.pua_texts.proofs.Passing.{passes_none, passing_none, passing_more, passing_fails, passing_last}
use Rattle.pua_texts.proofs.Pairs.{word_lines, spelling_plain}
use Rattle.pua_texts.proofs.line.add_pairs.Goals as goal

pub loop-lines-init : goal.loop-lines-init
loop-lines-init g c = record {
  tree = c.requires.tree;
  base = refl;
  lines = passing_none (pair_lines c.args.audit.now.base c.args.audit.now.left) c.args.block.now (g.S.Sink.written c.args.sink.now)
      (g.S.Sink.failed c.args.sink.now);
}

pub loop-lines-preserved : goal.loop-lines-preserved
loop-lines-preserved g c =
    let next = subst (λ (given : Option PathLines). AreNextLines c.loop-lines.audit given c.next_lines.follows.lender-at-none)
    c.in-Some.is c.next_lines.follows.holds-at-none in
    let base = c.args.audit.now.base in
    let left = c.loop-lines.audit.left in
    let more = c.next_lines.follows.lender-at-none.left in
    let path = c.in-Some.lines.path.now in
    let calls = c.in-Some.lines.call ∷ calls_at c.in-Some.lines.later in
    let lines = ap (pair_lines base) next.2.1.1 ∙ word_lines base next.2.0 path calls more (next.2.1.0 ∙
    ap (λ b. path_of b next.2.0) c.loop-lines.invariant.base) in
    record {
      tree = c.in-Some.ensures.tree ∙ c.loop-lines.invariant.tree ∙ sym next.0;
      base = next.1 ∙ c.loop-lines.invariant.base;
      lines = passing_more (pair_lines base c.args.audit.now.left) (pair_lines base left) (path_lines path calls) (pair_lines base more)
          c.args.block.now c.loop-lines.block c.add_lines.new.block
          (g.S.Sink.written c.args.sink.now) (g.S.Sink.written c.loop-lines.sink) (g.S.Sink.written c.add_lines.new.sink)
          (g.S.Sink.failed c.args.sink.now) (g.S.Sink.failed c.loop-lines.sink) (g.S.Sink.failed c.add_lines.new.sink)
          c.loop-lines.invariant.lines lines (c.in_ok-add_lines.ensures (λ is. spelling_plain path (sym c.in-Some.ensures.plain ∙ is)));
    }

pub returns-in_err-add_lines-clause-tree : goal.returns-in_err-add_lines-clause-tree
returns-in_err-add_lines-clause-tree g c =
    let next = subst (λ (given : Option PathLines). AreNextLines c.loop-lines.audit given c.next_lines.follows.lender-at-none)
    c.in-Some.is c.next_lines.follows.holds-at-none in
    c.in-Some.ensures.tree ∙ c.loop-lines.invariant.tree ∙ sym next.0

pub returns-in_err-add_lines-clause-lines : goal.returns-in_err-add_lines-clause-lines
returns-in_err-add_lines-clause-lines g c =
    let next = subst (λ (given : Option PathLines). AreNextLines c.loop-lines.audit given c.next_lines.follows.lender-at-none)
    c.in-Some.is c.next_lines.follows.holds-at-none in
    let base = c.args.audit.now.base in
    let left = c.loop-lines.audit.left in
    let more = c.next_lines.follows.lender-at-none.left in
    let path = c.in-Some.lines.path.now in
    let calls = c.in-Some.lines.call ∷ calls_at c.in-Some.lines.later in
    let lines = ap (pair_lines base) next.2.1.1 ∙ word_lines base next.2.0 path calls more (next.2.1.0 ∙
    ap (λ b. path_of b next.2.0) c.loop-lines.invariant.base) in
    let p = err_from_is_err_and c.from_residual.result c.from_residual.ensures.1 in
    rw p.1 (passing_fails (pair_lines base c.args.audit.now.left) (pair_lines base left) (path_lines path calls) (pair_lines base more)
    c.args.block.now c.loop-lines.block [] [] p.0
    (g.S.Sink.written c.args.sink.now) (g.S.Sink.written c.loop-lines.sink) (g.S.Sink.written c.add_lines.new.sink)
    (g.S.Sink.failed c.args.sink.now) (g.S.Sink.failed c.loop-lines.sink) (g.S.Sink.failed c.add_lines.new.sink)
    c.loop-lines.invariant.lines lines (c.in_err-add_lines.ensures (λ is. spelling_plain path (sym c.in-Some.ensures.plain ∙ is))))

pub returns-clause-tree : goal.returns-clause-tree
returns-clause-tree g c =
    let none = subst (λ (given : Option PathLines). AreNextLines c.loop-lines.audit given c.next_lines.follows.lender-at-none)
    c.in_default.is c.next_lines.follows.holds-at-none in
    c.in_default.ensures.tree ∙ c.loop-lines.invariant.tree ∙ sym none.0

pub returns-clause-lines : goal.returns-clause-lines
returns-clause-lines g c =
    let none = subst (λ (given : Option PathLines). AreNextLines c.loop-lines.audit given c.next_lines.follows.lender-at-none)
    c.in_default.is c.next_lines.follows.holds-at-none in
    let base = c.args.audit.now.base in
    passing_last (pair_lines base c.args.audit.now.left) (pair_lines base c.loop-lines.audit.left) [] c.args.block.now c.loop-lines.block
    c.loop-lines.block (Ok tt)
    (g.S.Sink.written c.args.sink.now) (g.S.Sink.written c.loop-lines.sink) (g.S.Sink.written c.loop-lines.sink)
    (g.S.Sink.failed c.args.sink.now) (g.S.Sink.failed c.loop-lines.sink) (g.S.Sink.failed c.loop-lines.sink)
    c.loop-lines.invariant.lines (ap (pair_lines base) none.2.0) (passes_none c.loop-lines.block (g.S.Sink.written c.loop-lines.sink)
    (g.S.Sink.failed c.loop-lines.sink))
