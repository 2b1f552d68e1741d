use Rattle.pua_audit.proofs.Common.{◌≡◌, ◌∙◌, ℕ, List, Some, None, sym, ap, subst, Tree}
use Rattle.pua_tree.specs.Tree.{found_at}
use Rattle.pua_tree.specs.declared.node.Kind.{Kind}
use Rattle.pua_policy.specs.States.{perms_kept}
use Rattle.pua_policy.specs.declared.place.Place.TheVariants as place
use Rattle.pua_audit.specs.Entries.{AreWithin, allowed_within}
use Rattle.pua_policy.specs.Verdict.{object_of_kind}
use Rattle.pua_audit.proofs.Bare.{file_told, link_told}
use Rattle.pua_audit.proofs.terms.Terms.bare.Given as given
use Rattle.pua_audit.proofs.terms.Terms.bare.Goals as goal
use Rattle.pua_audit.proofs.terms.Terms.bare.Goals.{else-within-via-then-within+else-has_veil, else-within-via-else-within}

module _ (g : given.Over) (c : goal.Joined-else-within g) where
  found : found_at c.args.self.now.seen.tree c.args.dir c.args.letter.now ≡ Some (c.in_ok-kind.field-0-0, c.in_ok-kind.kind)
  found = sym (c.in_ok-kind.ensures.found ∙ ap (λ (u : Tree). found_at u c.args.dir c.in_ok-name.name.bytes.now) c.requires.tree ∙
      ap (found_at c.args.self.now.seen.tree c.args.dir) c.in_ok-name.ensures.bytes)

  unveiled : AreWithin c.args.self.now.seen.tree c.args.self.now.table c.args.self.now.process c.args.dir c.args.within.now →
      perms_kept c.args.self.now.process (place.Slot c.args.dir c.args.letter.now) ≡ None
  unveiled within = elim c.else-within.branch [
    | else-within-via-then-within+else-has_veil w ↦
        subst (λ (name : List ℕ). perms_kept c.args.self.now.process (place.Slot c.args.dir name) ≡ None) c.in_ok-name.ensures.bytes
        (w.has_veil.ensures.none w.if-has_veil.false)
    | else-within-via-else-within w ↦ within.bare w.if-within.false c.args.letter.now
  ]

pub returns-clause-file : goal.returns-clause-file
returns-clause-file g c = λ is_file living within kept.
    let a = c.args.self.now in
    file_told a.seen.tree a.table a.base a.process c.args.dir c.args.letter.now a.tree living c.in_ok-kind.field-0-0
    c.in_ok-bare.bare.calls kept c.in_ok-kind.kind (c.in_ok-bare.ensures.file is_file)
    (c.in_ok-bare.ensures.calls a.seen.tree a.table a.process c.args.dir within) c.in_ok-name.ensures.name (found g c) (unveiled g c within)

pub returns-clause-link : goal.returns-clause-link
returns-clause-link g c = λ is_link living within call.
    let a = c.args.self.now in
    let same = c.in_ok-bare.ensures.link is_link in
    link_told a.seen.tree a.table a.base a.process c.args.dir c.args.letter.now a.tree living c.in_ok-kind.field-0-0
    c.in_ok-bare.bare.calls (λ call. c.in_ok-bare.ensures.calls a.seen.tree a.table a.process c.args.dir within call ∙
    ap (λ (k : Kind). allowed_within a.seen.tree a.table a.process c.args.dir (object_of_kind (Some k)) call) same)
    c.in_ok-name.ensures.name (found g c ∙ ap (λ (k : Kind). Some (c.in_ok-kind.field-0-0, k)) same) (unveiled g c within) call
