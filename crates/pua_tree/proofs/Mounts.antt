-- Where file systems are mounted.
use Rattle.pua_tree.proofs.Common.{◌≡◌, ◌≢◌, ℕ, zero, suc, Bool, true, false, not, ◌&&◌, ◌==◌, cond, Some, refl, ap, Node, Tree, IsTrue}
use Rattle.pua_tree.proofs.Common.{and_from, and_parts, is_dir_kind, above, climb_within}
use Rattle.std.proofs.Common.{ne_eqb}
use Rattle.pua_tree.specs.declared.form.Form.{Form}
use Rattle.pua_tree.specs.Tree.{mount_fits, mark_fits, is_mount, first_mount}
use Rattle.pua_tree.specs.Listing.{knows_types}
use Rattle.pua_tree.specs.Grammar.{mount_known}

-- a mark that stands at a directory is none of the root's
pub mark_from : (x : ℕ) (n : Node) → mount_fits n ≡ true → x ≢ 0 → mark_fits (x, n) ≡ true
mark_from x n fits other = by n.mount fits
  where
    by : (b : Bool) → cond b (is_dir_kind (Some n.kind)) true ≡ true → cond b (is_dir_kind (Some n.kind) && not (x == 0)) true ≡ true
    by false dir = refl
    by true dir = and_from _ _ dir (ap not (ne_eqb x 0 other))

-- a line makes one at a directory alone
pub mount_kept : (form : Form) (n : Node) → IsTrue (mount_known form n) → IsTrue (mount_fits n)
mount_kept form n known = by n.mount known
  where
    by : (b : Bool) → IsTrue (cond b (knows_types form && is_dir_kind (Some n.kind)) true) → IsTrue (cond b (is_dir_kind (Some n.kind)) true)
    by false known = refl
    by true known = (and_parts (knows_types form) _ known).1

-- the first mount of a climb, step by step
pub first_here : (t : Tree) (n d : ℕ) → is_mount t d ≡ true → first_mount t (climb_within n t d) ≡ d
first_here t zero d h = ap (λ b. cond b d 0) h
first_here t (suc n) zero h = ap (λ b. cond b 0 0) h
first_here t (suc n) (suc d) h = ap (λ b. cond b (suc d) (first_mount t (climb_within n t (above t (suc d))))) h

pub first_root : (t : Tree) (n d : ℕ) → d ≡ 0 → is_mount t d ≡ false → first_mount t (climb_within n t d) ≡ 0
first_root t zero d root h = ap (λ b. cond b d 0) h
first_root t (suc n) zero root h = ap (λ b. cond b 0 0) h
first_root t (suc n) (suc d) root h = cc

pub first_more : (t : Tree) (n d : ℕ) → is_mount t d ≡ false → d ≢ 0 →
    first_mount t (climb_within (suc n) t d) ≡ first_mount t (climb_within n t (above t d))
first_more t n zero h z = absurd (z refl)
first_more t n (suc d) h z = ap (λ b. cond b (suc d) (first_mount t (climb_within n t (above t (suc d))))) h
