use Rattle.pua_ever.proofs.Common.{◌≡◌, [], ◌∷◌, true, false, sym, ap, ◌∙◌, ◌||◌, if◌then◌else◌, Some, empty_tree, can_link, can_move}
use Rattle.pua_ever.proofs.Common.{is_allowed_under}
use Rattle.pua_policy.specs.Verdict.{Is}
use Rattle.pua_ever.specs.Ever.{file_covers}
use Rattle.pua_ever.proofs.Prospected.{last}
use Rattle.pua_ever.proofs.prospects.Prospects.on_seen.Goals as goal

pub returns-then-can_move : goal.returns-then-can_move
returns-then-can_move c = λ t on kind found finds sees call.
    let h = c.args.process.now in
    let table = c.args.table.now in
    let now = c.args.cover.now in
    let can : can_move table h now ≡ true = sym c.can_move.ensures ∙ c.if-can_move.true in
    let others = file_covers t table h on in
    let further = if can_link table h (Some kind) now then others else [] in
    c.on.ensures t table h on kind finds sees call ∙
    ap (λ b. is_allowed_under table h (if b then others else now ∷ further) (Is kind) call) (sym can)

pub returns-then-can_link : goal.returns-then-can_link
returns-then-can_link c = λ t on kind found finds sees call.
    let h = c.args.process.now in
    let table = c.args.table.now in
    let now = c.args.cover.now in
    let others = file_covers t table h on in
    let own = c.on-calls.ensures h table empty_tree (Is kind) found.allowed sees call in
    let anywhere = c.on-then-can_link.ensures t table h on kind finds sees call in
    let can : can_move table h now ≡ false = sym c.can_move.ensures ∙ c.if-can_move.false in
    let links : can_link table h (Some kind) now ≡ true = sym (c.can_link.ensures t h kind found sees) ∙ c.if-can_link.true in
    c.union.ensures call ∙ (λ i. own i || anywhere i) ∙
    (λ i. is_allowed_under table h (if sym can i then others else now ∷ (if sym links i then others else [])) (Is kind) call)

pub returns : goal.returns
returns c = λ t on kind found finds sees call.
    let h = c.args.process.now in
    let table = c.args.table.now in
    let now = c.args.cover.now in
    let others = file_covers t table h on in
    let can : can_move table h now ≡ false = sym c.can_move.ensures ∙ c.if-can_move.false in
    let links : can_link table h (Some kind) now ≡ false = sym (c.can_link.ensures t h kind found sees) ∙ c.if-can_link.false in
    c.on-calls.ensures h table empty_tree (Is kind) found.allowed sees call ∙ last _ ∙
    (λ i. is_allowed_under table h (if sym can i then others else now ∷ (if sym links i then others else [])) (Is kind) call)
