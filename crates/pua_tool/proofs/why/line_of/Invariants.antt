use Rattle.pua_tool.proofs.Common.{◌≡◌, ◌++◌, map}
use Rattle.pua_tool.specs.WhyTexts.{request_line}
use Rattle.pua_tool.proofs.WhyTexts.{fields_left}
use Rattle.pua_tool.proofs.why.line_of.Given as goal

-- the fields so far are added, and the others are still to come
abbrev pub invariant-loop-field : goal.invariant-loop-field
invariant-loop-field l = l.line.items ++ fields_left l.fields l.field-index ≡ request_line l.fn.process (map (λ field. field.now) l.fields)
