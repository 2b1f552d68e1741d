use Rattle.pua_ever.proofs.Common.{◌≡◌, ℕ, list_any, take}
use Rattle.std.specs.BTreeSet.{contains}
use Rattle.std.specs.Ordering.{nat_cmp}
use Rattle.pua_ever.specs.Ever.{is_turned_by}
use Rattle.pua_ever.proofs.turned.turned_among.Given as goal

-- of the files so far those that can be turned are in the set
abbrev pub invariant-loop-held : goal.invariant-loop-held
invariant-loop-held l = record {
  found : (node : ℕ) → contains nat_cmp l.nodes node
      ≡ list_any (λ held. is_turned_by l.sets_modes node (held.0.now, held.1.now)) (take l.held-index l.files);
}
