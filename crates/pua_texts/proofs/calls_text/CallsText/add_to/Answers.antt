use Rattle.pua_texts.proofs.Common.{◌≡◌, ◌∙◌, ℕ, List, ap, length, map, subst, arith, call_name, calls_in, with_commas}
use Rattle.pua_texts.specs.Blocks.{PassesOn}
use Rattle.pua_texts.proofs.calls_text.CallsText.add_to.Goals as goal

pub add-requires : goal.add-requires
add-requires g c = record { short = omega (arith, ap length c.bytes.ensures, c.self.invariant.1) }

-- the text that is kept is that of these calls
pub returns : goal.returns
returns g c =
    let names : c.bytes.result.now ≡ with_commas (map call_name (calls_in c.args.calls)) =
    c.bytes.ensures ∙ c.self.invariant.0 ∙ ap (λ (set : ℕ). with_commas (map call_name (calls_in set))) (c.self.view_is ∙ c.keep.ensures) in
    subst (λ (text : List ℕ). PassesOn g.S.Sink.written g.S.Sink.failed text c.add.result c.args.block.now c.add.new.self c.args.sink.now c.add.new.sink)
    names c.add.ensures
