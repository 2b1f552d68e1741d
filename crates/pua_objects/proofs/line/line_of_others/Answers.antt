use Rattle.pua_objects.proofs.Common.{refl, ap, ◌∙◌, is_allowed, Cover}
use Rattle.pua_policy.specs.Verdict.{covered_verdict}
use Rattle.pua_policy.specs.Misfits.{IsMissing}
use Rattle.pua_objects.proofs.line.line_of_others.Goals as goal

pub returns : goal.returns
returns c = λ t table h dir left allowed covered. record {
  kind = refl;
  calls = λ call. allowed IsMissing refl call ∙
      ap (λ (left : Cover). is_allowed (covered_verdict t table h call left IsMissing)) covered;
}
