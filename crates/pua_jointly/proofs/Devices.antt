-- Where directories keep their nodes, and move on their own device, they keep their devices.
use Rattle.pua_jointly.proofs.Common.{◌≡◌, ◌≢◌, ◌≤◌, ◌<◌, ℕ, zero, suc, Bool, true, false, cond, refl, sym, ap, ◌∙◌, arith, Some}
use Rattle.pua_jointly.proofs.Common.{◌==◌, ◌∷◌, [], List, option_map, false≢true, eqb-true, eq-eqb}
use Rattle.pua_jointly.specs.JointSetting.{AreDevices}
use Rattle.pua_jointly.specs.JointSides.{is_there, is_top}
use Rattle.pua_jointly.proofs.Common.{Tree, WellFormed, Spot, is_dir, look, above, Reaches, row_of, row_says, None, None≢Some, same_Some, sound_from}
use Rattle.pua_tree.specs.Tree.{parent}
use Rattle.std.specs.Prelude.{length, unwrap_or}
use Rattle.pua_tree.specs.Tree.{Node, node_at, climb, climb_within, is_mount, first_mount, device}
use Rattle.pua_tree.specs.Laws.{KeepsDevices}
use Rattle.pua_tree.proofs.ForCallers.{Sound, above_is, above_dir, climb_ends}

-- the first mount of a climb, step by step
first_here : (t : Tree) (n d : ℕ) → is_mount t d ≡ true → first_mount t (climb_within n t d) ≡ d
first_here t zero d h = ap (λ b. cond b d 0) h
first_here t (suc n) zero h = ap (λ b. cond b 0 0) h
first_here t (suc n) (suc d) h = ap (λ b. cond b (suc d) (first_mount t (climb_within n t (above t (suc d))))) h

first_more : (t : Tree) (n d : ℕ) → is_mount t d ≡ false → d ≢ 0 →
    first_mount t (climb_within (suc n) t d) ≡ first_mount t (climb_within n t (above t d))
first_more t n zero h z = absurd (z refl)
first_more t n (suc d) h z = ap (λ b. cond b (suc d) (first_mount t (climb_within n t (above t (suc d))))) h

-- what is found from the directory above is found from one, if no file system is mounted there
steadily : (t : Tree) (n d : ℕ) → d ≢ 0 →
    first_mount t (climb_within n t (above t d)) ≡ first_mount t (climb_within (suc n) t (above t d)) → (b : Bool) → is_mount t d ≡ b →
    first_mount t (climb_within (suc n) t d) ≡ first_mount t (climb_within (suc (suc n)) t d)
steadily t n d other up true here = first_here t (suc n) d here ∙ sym (first_here t (suc (suc n)) d here)
steadily t n d other up false none = first_more t n d none other ∙ up ∙ sym (first_more t (suc n) d none other)

-- a climb that reaches the root finds the same, whatever steps are left
steady : (t : Tree) (k n d : ℕ) → k ≤ n → Reaches t k d →
    first_mount t (climb_within n t d) ≡ first_mount t (climb_within (suc n) t d)
steady t zero zero d l r = ap (λ e. first_mount t (climb_within 0 t e)) r ∙ sym (ap (λ e. first_mount t (climb_within 1 t e)) r)
steady t zero (suc n) d l r = ap (λ e. first_mount t (climb_within (suc n) t e)) r ∙ sym (ap (λ e. first_mount t (climb_within (suc (suc n)) t e)) r)
steady t (suc k) zero d l r = absurd (omega arith)
steady t (suc k) (suc n) d l r = steadily t n d r.0 (steady t k n (above t d) (omega arith) r.1) (is_mount t d) refl

-- the device of a directory is the directory itself, where a file system is mounted, and else that of the one above
module _ (t : Tree) (f : Sound t) where
  pub device_here : (d : ℕ) → is_dir t d ≡ true → is_mount t d ≡ true → device t d ≡ d
  device_here d dir here = ap (λ b. cond b (first_mount t (climb t d)) 0) dir ∙ first_here t (length t.nodes) d here

  pub device_root : device t 0 ≡ 0
  device_root = by (is_dir t 0) (length t.nodes) (is_mount t 0)
    where
      last : (b : Bool) → ◌≡◌ {A = ℕ} (cond b 0 0) 0
      last true = refl
      last false = refl

      by : (a : Bool) (n : ℕ) (b : Bool) → ◌≡◌ {A = ℕ} (cond a (first_mount t (climb_within n t 0)) 0) 0
      by false n b = refl
      by true zero b = last (is_mount t 0)
      by true (suc n) b = last (is_mount t 0)

  up : (n k d : ℕ) → k < n → d ≢ 0 → is_mount t d ≡ false → Reaches t k (above t d) →
      first_mount t (climb_within (suc n) t d) ≡ first_mount t (climb_within (suc n) t (above t d))
  up n k d l other none r = first_more t n d none other ∙ steady t k n (above t d) (omega arith) r

  pub device_up : (d : ℕ) → is_dir t d ≡ true → d ≢ 0 → is_mount t d ≡ false → device t d ≡ device t (above t d)
  device_up d dir other none =
      let way = f.rooted d dir other in
      ap (λ b. cond b (first_mount t (climb t d)) 0) dir
      ∙ by (length t.nodes) way.0 way.1 (climb_ends t f d dir way.0 way.1)
      ∙ sym (ap (λ b. cond b (first_mount t (climb t (above t d))) 0) (above_dir t f d dir other))
    where
      by : (n k : ℕ) → Reaches t k d → k < n → first_mount t (climb_within n t d) ≡ first_mount t (climb_within n t (above t d))
      by zero k r l = absurd (omega arith)
      by (suc n) zero r l = absurd (other r)
      by (suc n) (suc k) r l = up n k d (omega arith) other none r.1

-- where each directory that lives on is the node that it was, and stands in a directory of its device, devices stay
module _ (t u : Tree) (f : Sound t) (g : Sound u)
    (same : (d : ℕ) → is_dir t d ≡ true → is_dir u d ≡ true → node_at u d ≡ node_at t d)
    (near : (s : Spot) (d : ℕ) → is_dir t d ≡ true → is_dir u d ≡ true → look u s.0 s.1 ≡ Some d →
    (is_dir t s.0 ≡ true) × (is_mount t d ≡ false → device t s.0 ≡ device t d)) where
  by_mark : (d : ℕ) → is_dir t d ≡ true → is_dir u d ≡ true → d ≢ 0 →
      (is_mount t d ≡ false → device u (above u d) ≡ device t d) → (b : Bool) → is_mount t d ≡ b → device u d ≡ device t d
  by_mark d was is other up true here =
      device_here u g d is (ap (λ o. unwrap_or (option_map (λ (n : Node). n.mount) o) false) (same d was is) ∙ here) ∙
      sym (device_here t f d was here)
  by_mark d was is other up false none =
      device_up u g d is other (ap (λ o. unwrap_or (option_map (λ (n : Node). n.mount) o) false) (same d was is) ∙ none) ∙ up none

  from : (k d : ℕ) → Reaches u k d → is_dir t d ≡ true → is_dir u d ≡ true → device u d ≡ device t d
  from zero d r was is =
      ap (device u) r ∙ device_root u g ∙ sym (ap (device t) r ∙ device_root t f)
  from (suc k) d r was is =
      let row = row_of u g d is r.0 in
      let at = near row.0 d was is row.1 in
      let up = from k (above u d) r.1 (ap (is_dir t) row.2 ∙ at.0) (above_dir u g d is r.0) in
      by_mark d was is r.0 (λ none. up ∙ ap (device t) row.2 ∙ at.1 none) (is_mount t d) refl

  pub keeps : KeepsDevices t u
  keeps d was is = by (d == 0) refl
    where
      by : (b : Bool) → (d == 0) ≡ b → device u d ≡ device t d
      by true same =
          let root = eqb-true d 0 same in
          ap (device u) root ∙ device_root u g ∙ sym (ap (device t) root ∙ device_root t f)
      by false differs =
          let way = g.rooted d is (λ root. false≢true (sym differs ∙ eq-eqb d 0 root)) in from way.0 d way.1 was is

-- a row that was there
module _ (t : Tree) (f : Sound t) where
  pub was_near : (s : Spot) (d : ℕ) → is_dir t d ≡ true → look t s.0 s.1 ≡ Some d → (is_dir t s.0 ≡ true) × (is_mount t d ≡ false → device t s.0 ≡ device t d)
  was_near s d dir row =
      let says = row_says t f s d row in (
        says.0,
        λ none.
            ap (device t) (sym (above_is t d s says.3 (f.once d dir says.3) row)) ∙ sym (device_up t f d dir says.3 none),
      )

-- who keeps its node keeps its mount
pub same_mount : (t u : Tree) (d : ℕ) → node_at u d ≡ node_at t d → is_mount u d ≡ is_mount t d
same_mount t u d same = ap (λ o. unwrap_or (option_map (λ (n : Node). n.mount) o) false) same

-- what is its own device is the root or a mount point
top_mounts : (t : Tree) (d : ℕ) → d ≢ 0 → device t d ≡ d → is_mount t d ≡ true
top_mounts t d other = by (is_dir t d)
  where
    first : (ds : List ℕ) → first_mount t ds ≡ d → is_mount t d ≡ true
    first [] e = absurd (other (sym e))
    first (x ∷ xs) e = here (is_mount t x) refl e (first xs)
      where
        here : (b : Bool) → is_mount t x ≡ b → cond b x (first_mount t xs) ≡ d → (first_mount t xs ≡ d → is_mount t d ≡ true) →
            is_mount t d ≡ true
        here true mount same more = ap (is_mount t) (sym same) ∙ mount
        here false none same more = more same

    by : (b : Bool) → cond b (first_mount t (climb t d)) 0 ≡ d → is_mount t d ≡ true
    by true e = first (climb t d) e
    by false e = absurd (other (sym e))

-- by the devices that are kept: what is the first of its device is the root or a mount point
module _ (t : Tree) (well : WellFormed t) (count : ℕ) (devices : List ℕ) (are : AreDevices t count devices) (d : ℕ) (low : d < count) where
  top_is : is_top devices d ≡ (device t d == d)
  top_is = ap (is_there d) (are.each d low)

  pub not_top : d ≢ 0 → (device t d ≡ d → ⊥) → is_top devices d ≡ false
  not_top other apart = by (device t d == d) refl
    where
      by : (b : Bool) → (device t d == d) ≡ b → is_top devices d ≡ false
      by true same = absurd (apart (eqb-true (device t d) d same))
      by false differs = top_is ∙ differs

  pub plain_below : d ≢ 0 → is_mount t d ≡ false → is_top devices d ≡ false
  plain_below other none = not_top other (λ same. false≢true (sym none ∙ top_mounts t d other same))

  pub file_below : d ≢ 0 → is_dir t d ≡ false → is_top devices d ≡ false
  file_below other plain = not_top other (λ same. other (sym same ∙ ap (λ b. cond b (first_mount t (climb t d)) 0) plain))

  pub below_plain : is_dir t d ≡ true → is_top devices d ≡ false → (d ≢ 0) × (is_mount t d ≡ false)
  below_plain dir below = (λ root. apart (ap (device t) root ∙ device_root t (sound_from t well) ∙ sym root), by (is_mount t d) refl)
    where
      apart : device t d ≡ d → ⊥
      apart same = false≢true (sym (sym top_is ∙ below) ∙ eq-eqb (device t d) d same)

      by : (b : Bool) → is_mount t d ≡ b → is_mount t d ≡ false
      by true mount = absurd (apart (device_here t (sound_from t well) d dir mount))
      by false none = none

-- the device of a directory is that of its parent, if no file system is mounted there
module _ (t : Tree) (well : WellFormed t) (d p : ℕ) (is : parent t d ≡ Some p) where
  both_of : (b : Bool) → cond b (Some (above t d)) None ≡ Some p → (b ≡ true) × (above t d ≡ p)
  both_of true e = (refl, same_Some _ _ e)
  both_of false e = absurd (None≢Some _ e)

  pub device_from : is_mount t d ≡ false → device t d ≡ device t p
  device_from none = by d refl ∙ ap (device t) (both_of (is_dir t d) is).1
    where
      by : (e : ℕ) → e ≡ d → device t d ≡ device t (above t d)
      by zero same = ap (device t) (sym same) ∙ ap (λ e. device t (above t e)) same
      by (suc e) same = device_up t (sound_from t well) d (both_of (is_dir t d) is).0 (λ zero_is. absurd (omega (arith, same, zero_is))) none
