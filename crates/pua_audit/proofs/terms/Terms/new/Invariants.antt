use Rattle.pua_audit.proofs.terms.Terms.new.Given as goal

-- contracts see the tree that the probe answers from
abbrev pub ghost-of : goal.ghost-of
ghost-of g a = g.P.Probe.tree a.x.now
