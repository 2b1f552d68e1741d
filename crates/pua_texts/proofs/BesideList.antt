-- The heading of the list of a process with the help of others.
use Rattle.pua_texts.proofs.Common.{◌≡◌, ◌==◌, List, [], ◌∷◌, ◌++◌, refl, map, length, arith, codes, true, false, with_commas}
use Rattle.std.proofs.lemmas.Bool.{eqb-true, true≢false}
use Rattle.std.specs.Prelude.{decimal}
use Rattle.pua_texts.specs.BesideLines.{others_text}
use Rattle.pua_texts.specs.Members.{named_by}
use Rattle.pua_texts.specs.declared.members.Member.{Member}

-- nobody helps
pub nobody_named : (members : List Member) → (length members == 0) ≡ true → others_text (named_by members) ≡ []
nobody_named [] none = refl
nobody_named (member ∷ members) none = absurd (omega (arith, eqb-true (length (member ∷ members)) 0 none))

-- somebody does
pub somebody_named : (members : List Member) → (length members == 0) ≡ false →
    codes " beside " ++ with_commas (map (λ (member : _). decimal member.0) (named_by members)) ≡ others_text (named_by members)
somebody_named [] some = absurd (true≢false some)
somebody_named (member ∷ members) some = refl
