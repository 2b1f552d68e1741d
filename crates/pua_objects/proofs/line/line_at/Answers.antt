use Rattle.pua_objects.proofs.Common.{◌≡◌, Bool, false, sym, ap, ◌∙◌, rules, ◌&&◌, ◌||◌, object_of, verdict, is_allowed, Call, Cover}
use Rattle.std.proofs.Common.{not}
use Rattle.pua_calls.specs.CallSets.{has, keeps_link}
use Rattle.pua_policy.specs.Verdict.{covered_verdict}
use Rattle.pua_policy.specs.declared.object.Object.TheVariants as see
use Rattle.pua_tree.specs.declared.node.Kind.TheVariants as kind
use Rattle.pua_objects.proofs.Lined.{is_link_seen, no_link, kept_alone, kept_or_not, lined}
use Rattle.pua_objects.proofs.line.line_at.Goals.{then-eq, else-eq}
use Rattle.pua_objects.proofs.line.line_at.Goals as goal

pub returns : goal.returns
returns c = λ t table h found left allowed covered seen.
    let object = c.args.object in
    let allows : Call → Bool = λ call. is_allowed (verdict t table h call found) in
    let judged : (call : Call) → has c.args.calls call ≡ allows call =
    λ call. allowed (object_of t found) seen call ∙
    ap (λ (left : Cover). is_allowed (covered_verdict t table h call left (object_of t found))) covered in
    let listed : (call : Call) → has c.if-eq.calls call ≡ ((keeps_link call || not (is_link_seen object)) && allows call) =
    elim c.if-eq.branch [
      | then-eq w ↦ λ call.
          let link : object ≡ see.Node kind.Link = search rules in
          ap (λ set. has set call) w.calls-is ∙ w.keeping-calls.ensures call ∙ ap (λ b. b && keeps_link call) (judged call) ∙
          kept_alone (keeps_link call) (allows call)
          ∙ ap (λ o. (keeps_link call || not (is_link_seen o)) && allows call) (sym link)
      | else-eq w ↦ λ call.
          let other : is_link_seen object ≡ false = no_link object (λ link. search rules) in
          ap (λ set. has set call) w.calls-is ∙ judged call ∙ kept_or_not (keeps_link call) (allows call)
          ∙ ap (λ b. (keeps_link call || not b) && allows call) (sym other)
    ] in
    lined t table h found object (record { kind = c.of.result; calls = c.if-eq.calls }) seen c.of.ensures listed
