-- A tree whose next number is raised is a tree.
use Rattle.pua_tree.proofs.Common.{◌≤◌, ◌+◌, ℕ, zero, suc, Option, Some, None, refl, arith, Node, Tree, WellFormed, above, Entry, Follows}
use Rattle.pua_tree.proofs.Common.{Enters, tree_with, grown_by}
use Rattle.pua_tree.proofs.EditsKeep.{edits_keep_trees}
use Rattle.pua_tree.proofs.Sound.{Sound, Reaches, sound_from, well_formed_from}

reaches_raised : (t : Tree) (next k d : ℕ) → Reaches t k d → Reaches (record t { next = next }) k d
reaches_raised t next zero d r = r
reaches_raised t next (suc k) zero r = absurd (r.0 refl)
reaches_raised t next (suc k) (suc d) r = (r.0, reaches_raised t next k (above t (suc d)) r.1)

pub raised_keeps : (t : Tree) (next : ℕ) → WellFormed t → t.next ≤ next → WellFormed (record t { next = next })
raised_keeps t next w le =
    let f : Sound t = sound_from t w in
    well_formed_from (record t { next = next }) (record {
      rows_sorted = f.rows_sorted;
      nodes_sorted = f.nodes_sorted;
      root = f.root;
      row = f.row;
      node = λ x n e. (let fits = f.node x n e in (omega (arith, fits.0, le), fits.1));
      marks = f.marks;
      unnamed_root = f.unnamed_root;
      named = f.named;
      once = f.once;
      rooted = λ d dir z. (let up = f.rooted d dir z in (up.0, reaches_raised t next up.0 d up.1));
    })

-- so is a tree with an entry more that may follow
pub grown_keeps : (t : Tree) (e : Entry) → WellFormed t → Follows t e → WellFormed (tree_with t e)
grown_keeps t e w f = by e.made f.enters
  where
    by : (m : Option Node) → Enters t e m → WellFormed (grown_by t e m)
    by None tied =
        let le = f.number in
        (edits_keep_trees.tying (record t { next = e.number + 1 }) (grown_by t e None) e.parent e.node e.name
        (raised_keeps t (e.number + 1) w (omega (arith, le))) f.named tied).0
    by (Some made) added =
        (edits_keep_trees.adding (record t { next = e.number }) (grown_by t e (Some made)) e.parent e.number e.name made
        (raised_keeps t e.number w f.number) f.named added.1 added.2 added.3).0
