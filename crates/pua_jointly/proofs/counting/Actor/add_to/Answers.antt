use Rattle.pua_jointly.proofs.Common.{◌∙◌, ◌∷◌, ◌++◌, [], ap, List, ProcessState, sym}
use Rattle.std.specs.Borrow.{Bor}
use Rattle.std.proofs.Common.{append_assoc}
use Rattle.std.proofs.lemmas.List.{map-append}
use Rattle.pua_jointly.specs.JointMembers.{states}
use Rattle.pua_jointly.specs.JointPrograms.{started_now}
use Rattle.pua_jointly.proofs.counting.Actor.add_to.Goals as goal

pub returns-in_default-program : goal.returns-in_default-program
returns-in_default-program c =
    let crew : List (Bor ProcessState) = c.args.crew.now.items in
    let own = c.args.self.now.process in
    ap states c.in-Ok.ensures.items
    ∙ map-append (λ (p : Bor ProcessState). p.now) crew (own ∷ [])
    ∙ ap (λ o. states crew ++ (own.now ∷ started_now o)) (sym c.in_default-program.is ∙ c.program.ensures)

pub returns : goal.returns
returns c =
    let crew : List (Bor ProcessState) = c.args.crew.now.items in
    let own = c.args.self.now.process in
    ap states (c.in-Ok-push.ensures.items ∙ ap (λ all. all ++ c.in-Some.program ∷ []) c.in-Ok.ensures.items)
    ∙ map-append (λ (p : Bor ProcessState). p.now) (crew ++ own ∷ []) (c.in-Some.program ∷ [])
    ∙ ap (λ all. all ++ c.in-Some.program.now ∷ []) (map-append (λ (p : Bor ProcessState). p.now) crew (own ∷ []))
    ∙ append_assoc (states crew) (own.now ∷ []) (c.in-Some.program.now ∷ [])
    ∙ ap (λ o. states crew ++ (own.now ∷ started_now o)) (sym c.in-Some.is ∙ c.program.ensures)
