use Rattle.pua_jointly.proofs.Common.{◌≡◌, ◌<◌, ℕ, false, length, list_any, take}
use Rattle.std.specs.Prelude.{get_or}
use Rattle.pua_jointly.specs.JointSetting.{is_on}
use Rattle.pua_jointly.proofs.setup.veiled_at.Given as goal

abbrev pub invariant-loop-veil : goal.invariant-loop-veil
invariant-loop-veil l = record {
  full : length l.veiled.items ≡ l.count;
  marked : (dir : ℕ) → dir < l.count →
      get_or l.veiled.items dir false ≡ list_any (λ veil. is_on dir veil.0.now) (take l.veil-index l.veils);
}
