use Rattle.pua_ever.proofs.Common.{◌≡◌, ◌∙◌, ◌&&◌, ◌||◌, false, refl, sym, ap, not, Option, Some, None, Kind, empty_tree, keeps_link, is_link_kind, object_seen, object_of_kind}
use Rattle.std.proofs.Math.Bool.{or-true}
use Rattle.pua_tree.specs.declared.node.Kind.TheVariants.{Dir, File, Prog, Link, Known}
use Rattle.pua_policy.specs.declared.object.Object.TheVariants as see
use Rattle.pua_ever.specs.Ever.{can_allow}
use Rattle.pua_ever.specs.Prospects.{kind_covers}
use Rattle.pua_policy.specs.contracts.object.ObjectPartialEq.TheImpl as seen
use Rattle.pua_ever.proofs.Common.{false≢true}
use Rattle.pua_ever.proofs.prospects.Prospects.on_name.Goals as goal

pub returns-else-eq : goal.returns-else-eq
returns-else-eq c = λ t on kind found finds sees call.
    let h = c.args.process.now in
    let table = c.args.table.now in
    let no_link : c.args.item.now.object ≡ see.Node Link → ⊥ = λ e. false≢true (sym c.if-eq.false ∙ c.eq.ensures ∙ ap (λ o. seen.ghosts.eq o (see.Node Link)) e) in
    let same = c.on_plain-calls.ensures t on kind found finds sees call in
    let plain : (k : Option Kind) → c.args.item.now.object ≡ object_seen empty_tree (object_of_kind k) → is_link_kind k ≡ false =
    λ k e. elim k as (λ k. c.args.item.now.object ≡ object_seen empty_tree (object_of_kind k) → is_link_kind k ≡ false) [
      | None ↦ λ e. refl
      | Some x ↦ elim x as (λ x. c.args.item.now.object ≡ object_seen empty_tree (object_of_kind (Some x)) → is_link_kind (Some x) ≡ false) [
        | Dir ↦ λ e. refl
        | File ↦ λ e. refl
        | Prog ↦ λ e. refl
        | Link ↦ λ e. absurd (no_link e)
        | Known type ↦ λ e. refl
      ]
    ] e in
    same ∙ ap (λ b. b && can_allow table h c.args.turned (kind_covers t table h on c.args.item.now.cover kind) (object_of_kind kind) call)
    (sym (ap (λ b. keeps_link call || not b) (plain kind sees) ∙ or-true (keeps_link call)))
