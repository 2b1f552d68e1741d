use Rattle.pua_tree.proofs.Common.{◌≡◌, ◌<◌, ◌≤◌, ◌∙◌, ◌++◌, ◌∷◌, [], Ok, Err, true, false, is_some, sym, subst, look, entry_of}
use Rattle.pua_tree.proofs.Common.{Gathers, entry_at, entry_said, tree_with, ap, List, ℕ}
use Rattle.pua_tree.specs.Tree as tree
use Rattle.pua_tree.specs.Reading.{follows}
use Rattle.pua_tree.proofs.Follows.{free_where}
use Rattle.pua_tree.proofs.Gathering.{taken_entry, crowded_entry, admitted_entry, refused_entry, gathered_more}
use Rattle.pua_tree.proofs.ListingGrammar.{entry_read}
use Rattle.pua_tree.proofs.listing.Reading.read.Goals as goal
use Rattle.pua_tree.proofs.listing.Reading.read.Goals.{in-Some, in-None}

pub returns-then-n-most-clause-exact : goal.returns-then-n-most-clause-exact
returns-then-n-most-clause-exact g c = λ es h _ _.
    let t = g.T.FileTree.content c.args.self.now.tree in
    let e = entry_said c.in_ok-entry.entry in
    let row = ap (look t e.parent) (sym c.overwrite.ensures) ∙ sym c.row_at.ensures in
    c.in_ok-entry.ensures es h ∙ elim c.match-row_at.branch [
      | in-Some w ↦ taken_entry c.args.self.now.form t c.args.self.now.greatest es c.args.n e h (ap is_some (row ∙ w.in-Some.is)) ∙
          ap Err (sym w.result-is)
      | in-None w ↦ crowded_entry c.args.self.now.form t c.args.self.now.greatest es c.args.n e h (ap is_some (row ∙ w.in-None.is))
          (subst (λ m. m < c.args.n) c.most_lines-most.ensures c.if-n-most.true) ∙ ap Err (sym w.result-is)
    ]

pub returns-then-not-branch-clause-exact : goal.returns-then-not-branch-clause-exact
returns-then-not-branch-clause-exact g c = λ es h count _.
    let t = g.T.FileTree.content c.args.self.now.tree in
    let said = c.in_ok-entry.entry in
    let test : follows t (entry_said said) ≡ false =
    ap (λ (name : List ℕ). follows t (entry_at said.parent name said.stands)) (sym c.overwrite.ensures) ∙ sym c.in_ok-put.ensures.follows ∙
    c.if-not-branch.true in
    refused_entry c.args.self.now.form t c.args.self.now.greatest es c.args.n c.args.text.now (entry_said said) h count
    (subst (λ m. c.args.n ≤ m) c.most_lines-most.ensures c.if-n-most.false) (c.in_ok-entry.ensures es h) test

pub returns-clause-exact : goal.returns-clause-exact
returns-clause-exact g c = λ es h count.
    let t = g.T.FileTree.content c.args.self.now.tree in
    let said = c.in_ok-entry.entry in
    let e = entry_said said in
    let test : follows t e ≡ true =
    ap (λ (name : List ℕ). follows t (entry_at said.parent name said.stands)) (sym c.overwrite.ensures) ∙ sym c.in_ok-put.ensures.follows ∙
    c.if-not-branch.false in
    let read : entry_of c.args.self.now.form es c.args.n c.args.text.now ≡ Ok e = c.in_ok-entry.ensures es h ∙
    admitted_entry c.args.self.now.form t c.args.self.now.greatest es c.args.n e h (free_where t e test)
    (subst (λ m. c.args.n ≤ m) c.most_lines-most.ensures c.if-n-most.false) in
    let grown =
    c.in_ok-put.ensures.grown (ap Ok c.if-not-branch.false)
    ∙ ap (λ (name : List ℕ). tree_with t (entry_at said.parent name said.stands)) c.overwrite.ensures in (
      e,
      read,
      subst (λ (u : tree.Tree). Gathers c.args.self.now.form u e.number (es ++ e ∷ [])) (sym grown)
          (gathered_more c.args.self.now.form t c.args.self.now.greatest es e h
          (entry_read c.args.self.now.form es c.args.n c.args.text.now e count read).1),
    )
