use Rattle.pua_tool.proofs.Common.{◌≡◌, ◌++◌, ◌∙◌, ap, arith, subst, sym}
use Rattle.std.proofs.Common.{◌<◌, ◌≤◌, length}
use Rattle.std.proofs.lemmas.List.{take_all}
use Rattle.std.proofs.lemmas.Slice.Zip.{AllZip-long}
use Rattle.std.specs.Prelude.{string_bytes}
use Rattle.pua_calls.specs.CallSets.{calls_in}
use Rattle.pua_ever.specs.Comings.{places_under}
use Rattle.pua_why.proofs.ForCallers.{pushed_so}
use Rattle.pua_texts.specs.WhyLines.{world_left}
use Rattle.pua_tool.specs.EverColumns.{IsKept}
use Rattle.pua_tool.specs.EverWhyTexts.{told_of}
use Rattle.pua_tool.proofs.EverColumns.{all_told, none_told, told_more, zip_more}
use Rattle.pua_tool.proofs.ever_columns.push_veils.Goals as goal

pub loop-veil-preserved : goal.loop-veil-preserved
loop-veil-preserved c =
    let veils = c.args.veils.now in
    let i = c.loop-veil.veil-index in
    record {
      told = λ p number holder vs all.
          let places = places_under (world_left p).tree holder c.args.under.now in
          let more = zip_more (IsKept p number holder) vs veils i c.veil-item.result all c.loop-veil-test.true in
          let kept = subst (IsKept p number holder more.0) (sym c.veil-item.is) more.2 in
          c.in_ok-push_told.ensures p number holder more.0 kept
          ∙ told_more p number places (calls_in c.args.calls) (string_bytes c.args.text.now) (string_bytes c.loop-veil.text) vs more.0 i more.1
          (c.loop-veil.invariant.told p number holder vs all);
    }

pub returns-then-len-before : goal.returns-then-len-before
returns-then-len-before c = λ p number holder vs all.
    let past : length c.args.veils.now ≤ c.loop-veil.veil-index = omega (arith, c.loop-veil-test.false) in
    let left : length vs ≤ c.loop-veil.veil-index = omega (arith, past, AllZip-long (IsKept p number holder) vs c.args.veils.now all) in
    let told = told_of p number (places_under (world_left p).tree holder c.args.under.now) (calls_in c.args.calls) in
    let is : string_bytes c.loop-veil.text ≡ string_bytes c.args.text.now ++ told vs =
    c.loop-veil.invariant.told p number holder vs all
    ∙ ap (λ us. string_bytes c.args.text.now ++ told us) (take_all c.loop-veil.veil-index vs left) in
    let grown : length (string_bytes c.args.text.now) < length (string_bytes c.loop-veil.text) =
    omega (arith, c.if-len-before.true, c.len-before.ensures, c.len.ensures) in
    all_told (string_bytes c.args.text.now) (string_bytes c.loop-veil.text) (told vs) is grown

pub returns : goal.returns
returns c =
    pushed_so c.push_str.result (string_bytes c.push_str.new.self) _ (string_bytes c.loop-veil.text) c.push_str.ensures.bytes
    (λ given p number holder vs all.
    let past : length c.args.veils.now ≤ c.loop-veil.veil-index = omega (arith, c.loop-veil-test.false) in
    let left : length vs ≤ c.loop-veil.veil-index = omega (arith, past, AllZip-long (IsKept p number holder) vs c.args.veils.now all) in
    let told = told_of p number (places_under (world_left p).tree holder c.args.under.now) (calls_in c.args.calls) in
    let is : string_bytes c.loop-veil.text ≡ string_bytes c.args.text.now ++ told vs =
    c.loop-veil.invariant.told p number holder vs all
    ∙ ap (λ us. string_bytes c.args.text.now ++ told us) (take_all c.loop-veil.veil-index vs left) in
    let same : length (string_bytes c.loop-veil.text) ≤ length (string_bytes c.args.text.now) =
    omega (arith, c.if-len-before.false, c.len-before.ensures, c.len.ensures) in
    given ∙ none_told (string_bytes c.args.text.now) (string_bytes c.loop-veil.text) (told vs) is same)
