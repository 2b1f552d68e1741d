use Rattle.pua_steps.proofs.Common.{◌≡◌, ◌-◌, ◌∷◌, ◌++◌, [], suc, length, sym, ap, ◌∙◌, arith, ◌≤◌, subst, map-append, length-map, IsState}
use Rattle.pua_steps.proofs.Common.{narrow_of, rest_of, live_of, entrance, IsSplit, rests_of, to_give, Frame, Visit, Walk}
use Rattle.pua_steps.specs.declared.live.Live as table
use Rattle.pua_steps.proofs.Narrowing.{prunes, tested_below}
use Rattle.pua_steps.proofs.Costing.{rest_is}
use Rattle.pua_steps.proofs.Resume.{give_on}
use Rattle.pua_steps.proofs.walk.Walk.descend.Goals as goal

pub returns-clause-gives : goal.returns-clause-gives
returns-clause-gives c = λ way call.
    let a : Walk = c.args.self.now in
    let b : Walk = c.enter.new.self in
    let t = a.tables.steps in
    let v = a.tables.live in
    let ls = a.tables.counted.lists in
    let f : Frame = c.find-found.result.frame in
    let x : Visit = c.find-found.result.visit in
    let known = c.requires.ready.sound.table in
    let sized = c.requires.ready.sound.sized in
    let steps = c.enter.ensures.steps ∙ c.find-found.ensures.steps in
    let live = c.enter.ensures.live ∙ c.find-found.ensures.live in
    let lists = c.enter.ensures.lists ∙ c.find-found.ensures.lists in
    let n = a.limit - suc (length a.word.items) in
    let left : a.limit - c.len.result - 1 ≡ n = omega (arith, c.len.ensures) in
    let few : n ≤ a.limit = omega arith in
    let same = tested_below t v a.limit n x.behind c.entrance-behind.result known sized few c.find-found.ensures.visit.behind
    (c.entrance-behind.ensures ∙
    ap (λ (v : table.Live). entrance (live_of v) (a.limit - c.len.result - 1) x.behind) c.find-found.ensures.live ∙
    ap (λ l. entrance (live_of v) l x.behind) left) in
    let stays = (rest_is t v a.limit known sized ls c.requires.ready.sound.listed.known f c.find-found.ensures.open).stays in
    let on = give_on (narrow_of t v) (live_of v) a.limit (λ s. IsState t s) (prunes t v a.limit known sized) a.word.items a.calls
    (rests_of t ls a.frames.items) call c.args.state c.args.letter way x (rest_of t ls f) c.entrance-behind.result
    (length-map a.frames.items (rest_of t ls) ∙
    c.requires.ready.framed) c.requires.short (subst (λ k. IsSplit c.args.letter (narrow_of t v k c.args.state) x (rest_of t ls f)) left
    c.find-found.ensures.split) stays same in
    ap (λ o. to_give (narrow_of t v) (live_of v) a.limit a.word.items a.calls o (rests_of t ls a.frames.items) (c.args.letter ∷ way) call)
    c.requires.there
    ∙ on
    ∙ ap (λ rs. to_give (narrow_of t v) (live_of v) a.limit (a.word.items ++ c.args.letter ∷ []) x.calls c.entrance-behind.result rs way
    call) (sym (map-append (rest_of t ls) a.frames.items (f ∷ [])))
    ∙ sym (λ i. to_give (narrow_of (steps i) (live i)) (live_of (live i)) (c.enter.ensures.limit i) (c.enter.ensures.word i)
    (c.enter.ensures.calls i) (c.enter.ensures.behind i) (rests_of (steps i) (lists i) (c.enter.ensures.frames i)) way call)
