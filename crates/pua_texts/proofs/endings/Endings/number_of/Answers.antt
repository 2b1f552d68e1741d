use Rattle.pua_texts.proofs.Common.{◌≡◌, ◌++◌, ◌∷◌, [], List, ℕ, ap, ◌∙◌, map, length, get_or, string_bytes, arith, length-map, map-append}
use Rattle.std.proofs.Common.{length-append}
use Rattle.std.proofs.Math.Seq.{get_or-append_seam}
use Rattle.pua_texts.specs.EndingsState.{EndingsState}
use Rattle.pua_texts.specs.declared.endings.Resting.{Resting}
use Rattle.pua_texts.proofs.endings.Endings.number_of.Goals as goal

pub returns : goal.returns
returns c =
    let before = c.self.inside.resting.items in
    let text = λ (r : Resting). string_bytes r.text in
    let old : List (List ℕ) = map text before in
    let own : List ℕ = string_bytes c.in-Ok.text in
    let grows : map text c.push.new.self.items ≡ old ++ own ∷ [] = ap (map text) c.in-Ok-push.ensures.items ∙ map-append text before _ in
    let number : c.len-number.result ≡ length old = omega (arith, c.len-number.ensures, length-map before text) in
    record {
      more = own ∷ [];
      grows = grows ∙ ap (λ (s : EndingsState). s.resting ++ own ∷ []) c.self.view_is;
      veils = ap (λ (s : EndingsState). s.veils) c.self.view_is;
      unveiled = ap (λ (s : EndingsState). s.unveiled) c.self.view_is;
      within = omega (arith, number, ap length grows, length-append old (own ∷ []));
      is = ap (λ cs. get_or cs c.len-number.result []) grows ∙ ap (λ n. get_or (old ++ own ∷ []) n []) number ∙
          get_or-append_seam old own [] [] ∙ c.in-Ok.ensures;
    }
