-- One trial after another tightens a script.
use Rattle.std.proofs.Common.{◌≡◌, ℕ, suc, List, [], ◌∷◌, ◌++◌, ◌∙◌, refl, sym, ap, Bool, true, false, cond, map, length, arith, append_assoc}
use Rattle.std.proofs.lemmas.List.{length-append}
use Rattle.pua_calls.specs.Calls.{CallTable}
use Rattle.pua_script.specs.Requests.{Asked}
use Rattle.pua_script.specs.Replay.{World, answers_to}
use Rattle.pua_script.specs.declared.answer.Answer.{Answer}
use Rattle.pua_tight.specs.Tight.{Piece, Line, asks_of, without, same_answers, try_piece, thin_line, thin}
use Rattle.pua_tight.specs.Laws.{leave_out}
use Rattle.pua_tight.specs.Trials.{Trial, trials_from, tried, all_tried, TriedOneByOne}

left_at : (before : List Asked) (piece : Piece) (ask : Asked) (after : List Asked) →
    leave_out (length before) piece (before ++ ask ∷ after) ≡ before ++ without piece ask ∷ after
left_at [] piece ask after = refl
left_at (x ∷ before) piece ask after = ap (λ l. x ∷ l) (left_at before piece ask after)

module _ (table : CallTable) (w : World) (want : List Answer) where
  abbrev of_line : ℕ → List Piece → List Trial
  of_line index pieces = map (λ piece. record { line = index; piece = piece }) pieces

  one_tried : (before after : List Asked) (ask : Asked) (piece : Piece) →
      tried table w want (record { line = length before; piece = piece }) (before ++ ask ∷ after)
      ≡ before ++ try_piece table w want before after ask (without piece ask) ∷ after
  one_tried before after ask piece =
      ap (λ l. cond (same_answers (answers_to table w l) want) l (before ++ ask ∷ after)) (left_at before piece ask after)
      ∙ by (same_answers (answers_to table w (before ++ without piece ask ∷ after)) want)
    where
      by : (b : Bool) → cond b (before ++ without piece ask ∷ after) (before ++ ask ∷ after) ≡ before ++ cond b (without piece ask) ask ∷ after
      by true = refl
      by false = refl

  line_tried : (before after : List Asked) (ask : Asked) (pieces : List Piece) →
      all_tried table w want (of_line (length before) pieces) (before ++ ask ∷ after)
      ≡ before ++ thin_line table w want before after ask pieces ∷ after
  line_tried before after ask [] = refl
  line_tried before after ask (piece ∷ pieces) =
      ap (all_tried table w want (of_line (length before) pieces)) (one_tried before after ask piece)
      ∙ line_tried before after (try_piece table w want before after ask (without piece ask)) pieces

  pub in_two : (xs ys : List Trial) (asks : List Asked) →
      all_tried table w want (xs ++ ys) asks ≡ all_tried table w want ys (all_tried table w want xs asks)
  in_two [] ys asks = refl
  in_two (x ∷ xs) ys asks = in_two xs ys (tried table w want x asks)

  lines_tried : (before : List Asked) (lines : List Line) →
      all_tried table w want (trials_from (length before) lines) (before ++ asks_of lines) ≡ before ++ thin table w want before lines
  lines_tried before [] = refl
  lines_tried before (line ∷ lines) =
      let more : List Asked = before ++ line.ask ∷ [] in
      let count : suc (length before) ≡ length more = omega (arith, length-append before (line.ask ∷ [])) in
      let after : List Asked = thin table w want more lines in
      in_two (trials_from (suc (length before)) lines) (of_line (length before) line.pieces) (before ++ line.ask ∷ asks_of lines)
      ∙ ap (all_tried table w want (of_line (length before) line.pieces))
      ((λ j. all_tried table w want (trials_from (count j) lines) (sym (append_assoc before (line.ask ∷ []) (asks_of lines)) j))
      ∙ lines_tried more lines ∙ append_assoc before (line.ask ∷ []) after)
      ∙ line_tried before after line.ask line.pieces

pub tried_one_by_one : TriedOneByOne
tried_one_by_one table w lines = lines_tried table w (answers_to table w (asks_of lines)) [] lines
