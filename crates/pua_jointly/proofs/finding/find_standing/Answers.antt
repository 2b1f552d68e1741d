use Rattle.pua_jointly.proofs.Common.{◌≡◌, ◌<◌, ◌∙◌, ◌∷◌, ◌++◌, [], ap, arith, Bool, false, is_dir, length, List, subst, sym, Tree, ℕ}
use Rattle.std.specs.Prelude.{◌+◌, get_or}
use Rattle.std.proofs.lemmas.Grind.{common_steps}
use Rattle.std.proofs.Math.Seq.{get_or-append_seam}
use Rattle.std.proofs.lemmas.List.{get_or_append_left, length-append}
use Rattle.pua_jointly.specs.JointSetup.{AreStanding}
use Rattle.pua_jointly.proofs.Gaining.{up_to}
use Rattle.pua_jointly.proofs.finding.find_standing.Goals as goal

pub loop-number-preserved : goal.loop-number-preserved
loop-number-preserved g c =
    let t : Tree = g.T.FileTree.content c.args.tree.now in
    let standing : List Bool = c.loop-number.standing.items in
    let number : ℕ = c.loop-number.number in
    let new : List Bool = c.push.new.self.items in
    let is : Bool = c.is_dir.result in
    let items : new ≡ standing ++ is ∷ [] = c.in_ok-push.ensures.items in
    let full : length standing ≡ number = c.loop-number.invariant.full in
    let dir : c.new-dir.result ≡ number = grind (arith, common_steps) in
    record {
      standing = subst (λ xs. AreStanding t (number + 1) xs) (sym items)
          (up_to (λ n. get_or (standing ++ is ∷ []) n false ≡ is_dir t n) number
          (ap (λ n. get_or (standing ++ is ∷ []) n false) (sym full) ∙ get_or-append_seam standing is [] false ∙ c.is_dir.ensures ∙ ap (is_dir t) dir)
          (λ n low. get_or_append_left standing (is ∷ []) false n (subst (λ k. n < k) (sym full) low) ∙ c.loop-number.invariant.standing n low));
      full = let longer = ap length items ∙ length-append standing (is ∷ []) in omega (arith, longer, full);
    }

pub returns : goal.returns
returns g c =
    let t : Tree = g.T.FileTree.content c.args.tree.now in
    let last : c.loop-number.number ≡ c.args.last + 1 = grind (arith, common_steps) in
    subst (λ n. AreStanding t n c.loop-number.standing.items) last c.loop-number.invariant.standing
