use Rattle.pua_audit.proofs.Common.{◌≡◌, ℕ, ◌+◌, ◌++◌, List, ◌∷◌, [], suc, get_or, drop, map, sym, ap, ◌∙◌, add-one, arith, common_steps}
use Rattle.pua_audit.proofs.Common.{candidates_from}
use Rattle.std.proofs.Common.{Bor}
use Rattle.std.proofs.lemmas.List.{drop_more}
use Rattle.pua_audit.proofs.Reading.{with_read, candidate_read}
use Rattle.pua_audit.proofs.candidates.read_candidates.Goals as goal

pub loop-place-preserved : goal.loop-place-preserved
loop-place-preserved c =
    let items : c.push.new.self.items ≡ c.loop-place.names.items ++ c.in-Ok.name ∷ [] = grind (arith, common_steps) in
    let none : Bor (List ℕ) = record { ref_ptr = (0, 0); now = [] } in
    let rest = map (λ s. s.now) (drop (c.loop-place.place + 1) c.args.spellings.now) in
    c.loop-place.invariant
    ∙ ap (λ l. with_read c.loop-place.names.items (candidates_from (suc c.loop-place.place) (map (λ s. s.now) l)))
    (drop_more c.args.spellings.now c.loop-place.place none c.loop-place-test.true)
    ∙ candidate_read (suc c.loop-place.place) (get_or c.args.spellings.now c.loop-place.place none).now rest c.loop-place.names.items
    c.in-Ok.name (sym c.in-Ok.ensures)
    ∙ ap (λ done. with_read done (candidates_from (suc (suc c.loop-place.place)) rest)) (sym items)
    ∙ ap (λ n. with_read c.push.new.self.items (candidates_from (suc n) rest)) (sym (add-one c.loop-place.place))
