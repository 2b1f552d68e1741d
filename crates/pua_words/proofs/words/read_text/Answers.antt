use Rattle.pua_words.proofs.Meeting.{audit_read, objects_read, why_read}
use Rattle.pua_words.proofs.words.read_text.Goals as goal

pub returns-in-objects-clause-read : goal.returns-in-objects-clause-read
returns-in-objects-clause-read c =
    objects_read _ _ _ c.in-objects.is c.read_objects.ensures.form c.read_objects.ensures.list c.read_objects.ensures.helped

pub returns-in-why-clause-read : goal.returns-in-why-clause-read
returns-in-why-clause-read c = why_read _ _ _ c.in-why.is c.why_of.ensures.read

pub returns-in_default-clause-read : goal.returns-in_default-clause-read
returns-in_default-clause-read c =
    audit_read _ _ _ c.in_default.not-run c.in_default.not-tree c.in_default.not-objects c.in_default.not-why c.in_default.not-tight c.in_default.not-how
    c.audit_of.ensures.read
