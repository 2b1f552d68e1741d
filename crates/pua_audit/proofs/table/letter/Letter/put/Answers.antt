use Rattle.pua_audit.proofs.Common.{◌≡◌, ◌∙◌, ◌+◌, ℕ, List, [], Option, ◌&&◌, length, get_or, option_map, refl, sym, ap, subst, arith, has}
use Rattle.pua_audit.proofs.Common.{keeps_link, IsEntryFor, IsJudgedRow, IsLetter, Entry}
use Rattle.pua_audit.proofs.Rowed.{row_grown, row_skipped, row_added}
use Rattle.pua_audit.proofs.Told.{kept_none}
use Rattle.pua_audit.proofs.table.letter.Letter.put.Goals as goal

pub returns-then-is_like_missing-clause-row : goal.returns-then-is_like_missing-clause-row
returns-then-is_like_missing-clause-row c = λ w letters dir letter row.
    let a = c.args.self.now in
    let same = c.is_like_missing.ensures c.if-is_like_missing.true in
    row_skipped w letters dir c.args.missing c.args.dirs.now.numbers c.args.letter a.all a.kept a.links a.leads c.args.entries.now.items row
    letter same.0 same.1 same.2

pub returns-clause-row : goal.returns-clause-row
returns-clause-row c = λ w letters dir letter row.
    let a = c.args.self.now in
    let n : ℕ = c.args.letter in
    let dirs : List ℕ = c.place.new.dirs.numbers in
    let es : List Entry = c.args.entries.now.items in
    let to = c.in_ok-to.ensures.to in
    let e : Entry = record { letter = n; all = c.bits.result; kept = c.bits-2.result; links = a.links; to = c.in_ok-to.to } in
    let here : IsLetter w dir (get_or letters n []) e.all e.kept e.links (option_map (λ d. get_or dirs d 0) e.to) =
    subst (λ (m : ℕ). IsLetter w dir (get_or letters n []) m e.kept e.links (option_map (λ d. get_or dirs d 0) e.to))
    (sym c.bits.ensures.number)
    (subst (λ (m : ℕ). IsLetter w dir (get_or letters n []) a.all m e.links (option_map (λ d. get_or dirs d 0) e.to))
    (sym c.bits-2.ensures.number)
    (subst (λ (o : Option ℕ). IsLetter w dir (get_or letters n []) a.all a.kept e.links o) (sym to.0) letter)) in
    let more : e.all ≡ 0 → e.kept ≡ 0 =
    kept_none e.all e.kept c.bits-2.ensures.calls (λ call. ap (λ m. has m call) c.bits-2.ensures.number ∙ a.keeping call ∙
    ap (λ m. has m call && keeps_link call) (sym c.bits.ensures.number)) in
    let fits : IsEntryFor (n + 1) (length dirs) e =
    record {
      letter = omega arith;
      kept = c.bits-2.ensures.calls;
      all = c.bits.ensures.calls;
      more = more;
      links = a.few;
      to = to.1;
    } in
    subst (IsJudgedRow w letters dirs dir (n + 1) c.args.missing) (sym c.in_ok-push.ensures.items)
    (row_added w letters dir c.args.missing dirs n e es (row_grown w letters dir c.args.missing c.args.dirs.now.numbers dirs n es
    c.in_ok-to.ensures.grown row) here refl fits)
