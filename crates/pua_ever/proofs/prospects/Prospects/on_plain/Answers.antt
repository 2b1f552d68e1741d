use Rattle.pua_ever.proofs.Common.{◌≡◌, ◌∙◌, sym, Some, None, empty_tree, has, object_seen, object_of_kind, rules, tests, IsMissing, Kind}
use Rattle.pua_tree.specs.declared.node.Kind.TheVariants.{Dir, File, Prog, Link, Known}
use Rattle.pua_policy.specs.declared.object.Object.TheVariants as see
use Rattle.pua_ever.specs.Ever.{can_allow}
use Rattle.pua_ever.specs.Prospects.{kind_covers}
use Rattle.pua_ever.proofs.prospects.Prospects.on_plain.Goals as goal

-- what stands is not missing
not_missing : (k : Kind) → see.Missing ≡ object_seen empty_tree (object_of_kind (Some k)) → ⊥
not_missing Dir e = cc
not_missing File e = cc
not_missing Prog e = cc
not_missing Link e = cc
not_missing (Known type) e = cc

pub returns-then-eq : goal.returns-then-eq
returns-then-eq c = λ t on kind found finds sees call.
    let h = c.args.process.now in
    let is : c.args.item.now.object ≡ see.Missing = search rules in
    elim kind as (λ k. c.args.item.now.object ≡ object_seen empty_tree (object_of_kind k) → has c.on.result call
    ≡ can_allow c.args.table.now h c.args.turned (kind_covers t c.args.table.now h on c.args.item.now.cover k) (object_of_kind k) call) [
      | None ↦ λ sees. (let allowed = c.on.ensures c.args.process.now c.args.table.now empty_tree IsMissing found.allowed sees call in search (rules, allowed))
      | Some k ↦ λ sees. absurd (not_missing k (sym is ∙ sees))
    ] sees

pub returns : goal.returns
returns c = λ t on kind found finds sees call.
    let h = c.args.process.now in
    elim kind as (λ k. c.args.item.now.object ≡ object_seen empty_tree (object_of_kind k) → has c.on_thing.result call
    ≡ can_allow c.args.table.now h c.args.turned (kind_covers t c.args.table.now h on c.args.item.now.cover k) (object_of_kind k) call) [
      | None ↦ λ sees. search (rules, tests)
      | Some k ↦ λ sees. c.on_thing.ensures t on k found finds sees call
    ] sees
