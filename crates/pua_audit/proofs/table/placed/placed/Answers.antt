use Rattle.pua_audit.proofs.Common.{◌≡◌, ◌<◌, ◌∙◌, ℕ, List, [], Some, length, get_or, sym, subst, arith, bytes_eq, get_by, get_or_read}
use Rattle.pua_audit.proofs.Common.{name_cmp, Rises}
use Rattle.pua_audit.specs.Placed.{ArePlaced}
use Rattle.std.proofs.Common.{IfSome}
use Rattle.std.proofs.lemmas.Map.Text.{hash_map_updates_str}
use Rattle.pua_audit.proofs.Spotted.{placed_more, placed_within}
use Rattle.pua_audit.proofs.table.placed.placed.Goals as goal

pub loop-place-preserved : goal.loop-place-preserved
loop-place-preserved c =
    let l = c.loop-place in
    let letters : List (List ℕ) = c.as_slice-letters.result.now in
    let rises : Rises name_cmp letters = subst (Rises name_cmp) (sym c.as_slice-letters.ensures.letters) c.as_slice-letters.ensures.rises in
    let place : ℕ = l.place in
    let bytes : List ℕ = c.bytes.result.now in
    let here : place < length letters = c.loop-place-test.true in
    let is : bytes ≡ get_or letters place [] = c.bytes.ensures.bytes ∙
    get_or_read letters place c.index-letters-place.result here c.index-letters-place.is [] in
    let found = λ (other : List ℕ). get_by (λ k. bytes_eq other k.now) l.places in
    let updated = hash_map_updates_str bytes l.places c.insert.new.self (Some place) c.in_ok-insert.ensures.updates in
    record {
      each = λ letter low. updated (get_or letters letter []) ∙
          placed_more letters rises place letter here low bytes is (found (get_or letters letter [])) (l.invariant.each letter);
      within = λ other. subst (λ o. IfSome o (λ n. n < length letters)) (sym (updated other))
          (placed_within (length letters) place here bytes other (found other) (l.invariant.within other));
    }

pub returns : goal.returns
returns c = subst (λ (letters : List (List ℕ)). ArePlaced letters c.loop-place.places) c.as_slice-letters.ensures.letters (record {
  each = λ letter low. c.loop-place.invariant.each letter (omega (arith, low, c.loop-place-test.false));
  within = c.loop-place.invariant.within;
})
