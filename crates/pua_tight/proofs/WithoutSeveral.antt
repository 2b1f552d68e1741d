-- A script that is answered as before without several words is answered as before without each of them.
use Rattle.std.proofs.Common.{◌≡◌, ℕ, zero, suc, List, [], ◌∷◌, ◌++◌, ◌+◌, ◌<◌, ◌≤◌, ◌∙◌, refl, sym, ap, Bool, true, false, cond, length, take, drop}
use Rattle.std.proofs.Common.{arith, min, get_or, subst}
use Rattle.std.proofs.Common.{inl, inr, ◌⊎◌}
use Rattle.std.proofs.Math.Nat.{eq-or-lt_of_le}
use Rattle.std.proofs.Math.Seq.{take-add}
use Rattle.std.proofs.lemmas.List.{drop-drop, take-append-drop, take_all}
use Rattle.std.proofs.lemmas.Option.{same_Some, slice_get-get_or}
use Rattle.std.specs.Prelude.{Option, Some, None, is_none, slice_get}
use Rattle.pua_calls.specs.Calls.{CallTable}
use Rattle.pua_tree.specs.Tree.{Tree}
use Rattle.pua_script.specs.Requests.{Asked}
use Rattle.pua_script.specs.Replay.{World, new_world, apply, answers_to}
use Rattle.pua_script.specs.declared.answer.Answer.{Answer}
use Rattle.pua_script.specs.declared.answer.Answer.TheVariants.{Okay}
use Rattle.pua_tight.specs.Narrower.{AskWithin, WorldWithin}
use Rattle.pua_tight.specs.Tight.{Piece, InVeil, Line, asked_in, asks_of, lines_of, same_answers, without}
use Rattle.pua_tight.specs.Laws.{IsPieceOf, AreOkay, leave_out}
use Rattle.pua_tight.specs.Left.{lines_by, put_back_at}
use Rattle.pua_tight.specs.Trials.{Trial, trials_from, all_tried}
use Rattle.pua_tight.specs.Several.{AreDone, AreFrom, AreUpTo, Descend, IsToTry, all_back, all_left}
use Rattle.pua_tight.specs.declared.together.Kept.{Kept}
use Rattle.pua_tight.proofs.PromisesTogether.{again, one_more}
use Rattle.pua_tight.proofs.Minimal.{middle_kept, same_self}
use Rattle.pua_tight.proofs.OneByOne.{in_two}
use Rattle.pua_tight.proofs.MayBeLeftOut.{scripts_are_tightened}
use Rattle.pua_tight.specs.Uses.{first_other}
use Rattle.pua_tight.proofs.FirstOtherAnswer.{dropped, first_self, gone_by, same_by_first}
use Rattle.pua_tight.proofs.Tightened.{ask_less, ask_self, ask_twice, same_sound, world_self}
use Rattle.pua_tight.proofs.Trying.{lines_told, trials_at}
use Rattle.pua_tight.proofs.Worlds.{heads, tails, request_keeps}

-- requests that have less up to a line, and are the same behind it
data LessUpTo : ℕ → List Asked → List Asked → Type 0 where
  no_line : {line : ℕ} → LessUpTo line [] []
  last_line : {x y : Asked} {after : List Asked} → AskWithin x y → LessUpTo zero (x ∷ after) (y ∷ after)
  line_more : {line : ℕ} {x y : Asked} {xs ys : List Asked} → AskWithin x y → LessUpTo line xs ys → LessUpTo (suc line) (x ∷ xs) (y ∷ ys)

less_self : (line : ℕ) (asks : List Asked) → LessUpTo line asks asks
less_self line [] = no_line
less_self zero (ask ∷ asks) = last_line (ask_self ask)
less_self (suc line) (ask ∷ asks) = line_more (ask_self ask) (less_self line asks)

less_twice : {line : ℕ} {xs ys zs : List Asked} → LessUpTo line xs ys → LessUpTo line ys zs → LessUpTo line xs zs
less_twice no_line no_line = no_line
less_twice (last_line first) (last_line other) = last_line (ask_twice first other)
less_twice (line_more first more) (line_more other further) = line_more (ask_twice first other) (less_twice more further)

less_left : (last line : ℕ) (piece : Piece) (asks : List Asked) → line ≤ last → LessUpTo last (leave_out line piece asks) asks
less_left last line piece [] up = no_line
less_left zero zero piece (ask ∷ asks) up = last_line (ask_less piece ask)
less_left zero (suc line) piece (ask ∷ asks) up = absurd (omega (arith, up))
less_left (suc last) zero piece (ask ∷ asks) up = line_more (ask_less piece ask) (less_self last asks)
less_left (suc last) (suc line) piece (ask ∷ asks) up = line_more (ask_self ask) (less_left last line piece asks (omega (arith, up)))

all_less : (last : ℕ) (trials : List Trial) (asks : List Asked) → AreUpTo last trials → LessUpTo last (all_left trials asks) asks
all_less last [] asks up = less_self last asks
all_less last (trial ∷ trials) asks up =
    less_twice (all_less last trials (leave_out trial.line trial.piece asks) up.1) (less_left last trial.line trial.piece asks up.0)

-- a piece of a line that is answered ok, between a script and one that has still less up to this line
left_between : (table : CallTable) (line : ℕ) (piece : Piece) (low high : World) → WorldWithin low high → (less asks : List Asked) →
    LessUpTo line less (leave_out line piece asks) → slice_get (answers_to table high asks) line ≡ Some Okay →
    answers_to table low less ≡ answers_to table high asks → answers_to table high (leave_out line piece asks) ≡ answers_to table high asks
left_between table line piece low high w less [] lies okay e = refl
left_between table zero piece low high w [] (ask ∷ asks) lies okay e = elim lies [ ]
left_between table (suc line) piece low high w [] (ask ∷ asks) lies okay e = elim lies [ ]
left_between table zero piece low high w (x ∷ after) (ask ∷ asks) (last_line lies) okay e =
    middle_kept table low high w x (without piece ask) ask lies (ask_less piece ask) (same_Some _ _ okay) asks e
left_between table (suc line) piece low high w (x ∷ less) (ask ∷ asks) (line_more lies further) okay e =
    ap (λ l. (apply table high ask).0 ∷ l)
    (left_between table line piece (apply table low x).1 (apply table high ask).1
    (request_keeps table low high x ask w lies (heads _ _ _ _ e)) less asks further okay (tails _ _ _ _ e))

up_to_front : (line n : ℕ) (trials : List Trial) → AreUpTo line trials → AreUpTo line (take n trials)
up_to_front line zero trials up = tt
up_to_front line (suc n) [] up = tt
up_to_front line (suc n) (trial ∷ trials) up = (up.0, up_to_front line n trials up.1)

pub front_descends : (want : List Answer) (n : ℕ) (trials : List Trial) → Descend want trials → Descend want (take n trials)
front_descends want zero trials d = tt
front_descends want (suc n) [] d = tt
front_descends want (suc n) (trial ∷ trials) d = (d.0, up_to_front trial.line n trials d.1, front_descends want n trials d.2)

pub back_descends : (want : List Answer) (n : ℕ) (trials : List Trial) → Descend want trials → Descend want (drop n trials)
back_descends want zero trials d = d
back_descends want (suc n) [] d = tt
back_descends want (suc n) (trial ∷ trials) d = back_descends want n trials d.2

-- some of what is to be tried, when those before them were
pub part_to_try : (table : CallTable) (w : World) (want : List Answer) (trials : List Trial) (given now : List Asked) (done more : ℕ) →
    IsToTry table w want trials given → answers_to table w now ≡ want → IsToTry table w want (take more (drop done trials)) now
part_to_try table w want trials given now done more to_try answered = record {
  same = answered;
  descend = front_descends want more (drop done trials) (back_descends want done trials to_try.descend);
}

pub left_in_two : (xs ys : List Trial) (asks : List Asked) → all_left (xs ++ ys) asks ≡ all_left ys (all_left xs asks)
left_in_two [] ys asks = refl
left_in_two (x ∷ xs) ys asks = left_in_two xs ys (leave_out x.line x.piece asks)

module _ (table : CallTable) (w : World) (want : List Answer) where
  all_spare : (trials : List Trial) (asks : List Asked) → Descend want trials → answers_to table w asks ≡ want →
      answers_to table w (all_left trials asks) ≡ want → all_tried table w want trials asks ≡ all_left trials asks
  all_spare [] asks d same e = refl
  all_spare (trial ∷ trials) asks d same e =
      let less : List Asked = leave_out trial.line trial.piece asks in
      let one : answers_to table w less ≡ want =
      left_between table trial.line trial.piece w w (world_self w) (all_left trials less) asks (all_less trial.line trials less d.1)
      (ap (λ l. slice_get l trial.line) same ∙ d.0) (e ∙ sym same) ∙ same in
      ap (λ b. all_tried table w want trials (cond b less asks)) (ap (λ l. same_answers l want) one ∙ same_self want)
      ∙ all_spare trials less d.2 one e

  -- the first trials were spare together, and with one more they were not
  module _ (trials : List Trial) (given left : List Asked) (to_try : IsToTry table w want trials given) (spare : ℕ)
      (is : left ≡ all_left (take spare trials) given) (answered : answers_to table w left ≡ want) where
    spare_done : AreDone table w want trials spare given left
    spare_done = record {
      more = record { same = answered; descend = back_descends want spare trials to_try.descend };
      tried =
          ap (all_tried table w want (drop spare trials))
          (is ∙ sym (all_spare (take spare trials) given (front_descends want spare trials to_try.descend) to_try.same
          (ap (answers_to table w) (sym is) ∙ answered)))
          ∙ sym (in_two table w want (take spare trials) (drop spare trials) given)
          ∙ ap (λ l. all_tried table w want l given) (take-append-drop spare trials);
    }

    one_needed : spare < length trials → same_answers (answers_to table w (all_left (take (spare + 1) trials) given)) want ≡ false →
        AreDone table w want trials (spare + 1) given left
    one_needed less other =
        let trial : Trial = get_or trials spare (record { line = 0; piece = InVeil 0 }) in
        let there : slice_get trials spare ≡ Some trial = slice_get-get_or trials spare _ less in
        let next : all_left (take (spare + 1) trials) given ≡ leave_out trial.line trial.piece left =
        ap (λ l. all_left l given) (one_more trials spare trial less (again trials spare _))
        ∙ left_in_two (take spare trials) (trial ∷ []) given ∙ ap (leave_out trial.line trial.piece) (sym is) in
        record {
          more = record { same = answered; descend = back_descends want (spare + 1) trials to_try.descend };
          tried =
              ap (all_tried table w want (drop (spare + 1) trials))
              (ap (λ b. cond b (leave_out trial.line trial.piece left) left)
              (sym (ap (λ l. same_answers (answers_to table w l) want) (sym next) ∙ other)))
              ∙ ap (λ l. all_tried table w want l left) (sym (dropped trials spare trial there)) ∙ spare_done.tried;
        }

    pub front_done : spare ≤ length trials →
        (spare < length trials → same_answers (answers_to table w (all_left (take (spare + 1) trials) given)) want ≡ false) →
        (done : ℕ) → done ≡ min (length trials) (spare + 1) → AreDone table w want trials done given left
    front_done within other done count = by (eq-or-lt_of_le within)
      where
        by : (spare ≡ length trials) ⊎ (spare < length trials) → AreDone table w want trials done given left
        by (inl all) = subst (λ n. AreDone table w want trials n given left) (omega (arith, all, count)) spare_done
        by (inr less) = subst (λ n. AreDone table w want trials n given left) (omega (arith, less, count)) (one_needed less (other less))

-- some more behind those that were left out
pub more_left : (trials some : List Trial) (given now : List Asked) (spare more : ℕ) → now ≡ all_left (take spare trials) given →
    some ≡ take more (drop spare trials) → all_left some now ≡ all_left (take (spare + more) trials) given
more_left trials some given now spare more is are =
    (λ j. all_left (are j) (is j)) ∙ sym (left_in_two (take spare trials) (take more (drop spare trials)) given)
    ∙ ap (λ l. all_left l given) (sym (take-add spare more trials))

-- some more that were tried were spare, and some were not: then one fewer at most can be
module _ (table : CallTable) (w : World) (want : List Answer) (trials : List Trial) (given : List Asked) where
  -- what is left is answered as is wanted, and with one more than the most not
  pub record IsFront (most : ℕ) (left : List Asked) : Type 0 where
    pub answered : answers_to table w left ≡ want
    pub needed : most < length trials → same_answers (answers_to table w (all_left (take (most + 1) trials) given)) want ≡ false

  pub front_more : (most : ℕ) (now some left : List Asked) (told : Bool) → IsFront most now →
      told ≡ same_answers (answers_to table w some) want → told ≡ true → left ≡ some → IsFront most left
  front_more most now some left told front is spared own = record {
    answered = ap (answers_to table w) own ∙ same_sound (answers_to table w some) want (sym is ∙ spared);
    needed = front.needed;
  }

  pub front_fewer : (most fewer : ℕ) (now some left : List Asked) (told : Bool) → IsFront most now →
      told ≡ same_answers (answers_to table w some) want → told ≡ false → left ≡ now →
      some ≡ all_left (take (fewer + 1) trials) given → IsFront fewer left
  front_fewer most fewer now some left told front is refused own as_many = record {
    answered = ap (answers_to table w) own ∙ front.answered;
    needed = λ less. ap (λ l. same_answers (answers_to table w l) want) (sym as_many) ∙ sym is ∙ refused;
  }

-- so many trials more
module _ (table : CallTable) (w : World) (want : List Answer) (trials : List Trial) (given now left : List Asked) where
  pub none_done : IsToTry table w want trials given → AreDone table w want trials 0 given given
  none_done to_try = record { more = to_try; tried = refl }

  pub more_done : (done more : ℕ) (rest : List Trial) → rest ≡ drop done trials → AreDone table w want trials done given now →
      (IsToTry table w want rest now → AreDone table w want rest more now left) → AreDone table w want trials (done + more) given left
  more_done done more rest are so_far next =
      let one = subst (λ l. IsToTry table w want l now → AreDone table w want l more now left) are next so_far.more in
      let on : drop more (drop done trials) ≡ drop (done + more) trials = drop-drop more done trials in
      record {
        more = subst (λ l. IsToTry table w want l left) on one.more;
        tried = ap (λ l. all_tried table w want l left) (sym on) ∙ one.tried ∙ so_far.tried;
      }

  pub all_done : (done : ℕ) → length trials ≤ done → AreDone table w want trials done given left → left ≡ all_tried table w want trials given
  all_done done past are = ap (λ l. all_tried table w want l left) (sym (gone_by trials done past)) ∙ are.tried

-- a piece that a script doesn't have makes no answer another one
pub no_other : (table : CallTable) (w : World) (want : List Answer) (line : ℕ) (piece : Piece) (asks own : List Asked) → own ≡ asks →
    leave_out line piece own ≡ own → answers_to table w asks ≡ want → None ≡ first_other (answers_to table w (leave_out line piece asks)) want
no_other table w want line piece asks own is gone same =
    sym (ap (λ l. first_other (answers_to table w l) want) (ap (leave_out line piece) (sym is) ∙ gone ∙ is)
    ∙ ap (λ l. first_other l want) same ∙ first_self want)

-- the pieces of a script's lines are tried from the last line to the first
from_less : (less line : ℕ) (trials : List Trial) → less ≤ line → AreFrom line trials → AreFrom less trials
from_less less line [] small from = tt
from_less less line (trial ∷ trials) small from = (omega (arith, small, from.0), from_less less line trials small from.1)

from_both : (line : ℕ) (xs ys : List Trial) → AreFrom line xs → AreFrom line ys → AreFrom line (xs ++ ys)
from_both line [] ys first other = other
from_both line (x ∷ xs) ys first other = (first.0, from_both line xs ys first.1 other)

up_to_both : (line less : ℕ) (xs ys : List Trial) → AreUpTo line xs → less ≤ line → AreUpTo less ys → AreUpTo line (xs ++ ys)
up_to_both line less (x ∷ xs) ys first small other = (first.0, up_to_both line less xs ys first.1 small other)
up_to_both line less [] [] first small other = tt
up_to_both line less [] (y ∷ ys) first small other = (omega (arith, small, other.0), up_to_both line less [] ys tt small other.1)

module _ (want : List Answer) where
  both_descend : (line : ℕ) (xs ys : List Trial) → Descend want xs → AreFrom line xs → Descend want ys → AreUpTo line ys → Descend want (xs ++ ys)
  both_descend line [] ys first from other up = other
  both_descend line (x ∷ xs) ys first from other up =
      (first.0, up_to_both x.line line xs ys first.1 from.0 up, both_descend line xs ys first.2 from.1 other up)

  pieces_up_to : (line : ℕ) (pieces : List Piece) → AreUpTo line (trials_at line pieces)
  pieces_up_to line [] = tt
  pieces_up_to line (piece ∷ pieces) = (omega arith, pieces_up_to line pieces)

  pieces_from : (line : ℕ) (pieces : List Piece) → AreFrom line (trials_at line pieces)
  pieces_from line [] = tt
  pieces_from line (piece ∷ pieces) = (omega arith, pieces_from line pieces)

  pieces_descend : (line : ℕ) (pieces : List Piece) → ((piece : Piece) → IsPieceOf pieces piece → slice_get want line ≡ Some Okay) →
      Descend want (trials_at line pieces)
  pieces_descend line [] okay = tt
  pieces_descend line (piece ∷ pieces) okay =
      (okay piece (inl refl), pieces_up_to line pieces, pieces_descend line pieces (λ other among. okay other (inr among)))

  lines_from : (line : ℕ) (lines : List Line) → AreFrom line (trials_from line lines)
  lines_from line [] = tt
  lines_from line (one ∷ lines) =
      from_both line (trials_from (suc line) lines) (trials_at line one.pieces)
      (from_less line (suc line) (trials_from (suc line) lines) (omega arith) (lines_from (suc line) lines)) (pieces_from line one.pieces)

  lines_descend : (table : CallTable) (w : World) (line : ℕ) (lines : List Line) →
      ((n : ℕ) → slice_get want (line + n) ≡ slice_get (answers_to table w (asks_of lines)) n) → AreOkay table w lines →
      Descend want (trials_from line lines)
  lines_descend table w line [] told okay = tt
  lines_descend table w line (one ∷ lines) told okay =
      let here : line + 0 ≡ line = omega arith in
      both_descend line (trials_from (suc line) lines) (trials_at line one.pieces)
      (lines_descend table (apply table w one.ask).1 (suc line) lines
      (λ n. let next : suc line + n ≡ line + suc n = omega arith in ap (slice_get want) next ∙ told (suc n)) okay.1)
      (from_less line (suc line) (trials_from (suc line) lines) (omega arith) (lines_from (suc line) lines))
      (pieces_descend line one.pieces (λ piece among. ap (slice_get want) (sym here) ∙ told 0 ∙ ap Some (okay.0 piece among)))
      (pieces_up_to line one.pieces)

pub to_try : (table : CallTable) (t : Tree) (answers : List Answer) (trials : List Trial) (asks : List Asked) →
    answers ≡ answers_to table (new_world t) asks → trials ≡ trials_from 0 (lines_by (asked_in table asks) asks answers) →
    IsToTry table (new_world t) answers trials asks
to_try table t answers trials asks told are =
    let w : World = new_world t in
    let lines : List Line = lines_of table w asks in
    let own = scripts_are_tightened table w asks in
    let want : answers ≡ answers_to table w (asks_of lines) = told ∙ ap (answers_to table w) (sym own.asks) in
    record {
      same = sym told;
      descend = subst (Descend answers)
          (sym (are ∙ ap (λ l. trials_from 0 (lines_by (asked_in table asks) asks l)) told ∙ ap (trials_from 0) (lines_told table w asks)))
          (lines_descend answers table w 0 lines
          (λ n. let none : 0 + n ≡ n = omega arith in ap (slice_get answers) none ∙ ap (λ l. slice_get l n) want) own.okay);
    }

-- what was kept of lines, one more
pub back_in_two : (xs ys : List Kept) (asks : List Asked) → all_back (xs ++ ys) asks ≡ all_back xs (all_back ys asks)
back_in_two [] ys asks = refl
back_in_two (x ∷ xs) ys asks = ap (put_back_at x.line x.arguments) (back_in_two xs ys asks)

pub kept_more : (kept more : List Kept) (one : Kept) (given now left : List Asked) → all_back kept now ≡ given →
    put_back_at one.line one.arguments left ≡ now → more ≡ kept ++ one ∷ [] → all_back more left ≡ given
kept_more kept more one given now left back one_back are =
    ap (λ l. all_back l left) are ∙ back_in_two kept (one ∷ []) left ∙ ap (all_back kept) one_back ∙ back

pub left_more : (trials : List Trial) (index : ℕ) (trial : Trial) (given now left : List Asked) → index < length trials →
    trial ≡ get_or trials index trial → now ≡ all_left (take index trials) given → left ≡ leave_out trial.line trial.piece now →
    left ≡ all_left (take (index + 1) trials) given
left_more trials index trial given now left less at was is =
    is ∙ ap (leave_out trial.line trial.piece) was ∙ sym (left_in_two (take index trials) (trial ∷ []) given)
    ∙ ap (λ l. all_left l given) (sym (one_more trials index trial less at))

pub left_done : (trials : List Trial) (index : ℕ) (given now : List Asked) → length trials ≤ index → now ≡ all_left (take index trials) given →
    now ≡ all_left trials given
left_done trials index given now past was = was ∙ ap (λ l. all_left l given) (take_all index trials past)

pub back_more : (kept : List Kept) (index : ℕ) (one : Kept) (given now left : List Asked) → index < length kept → one ≡ get_or kept index one →
    now ≡ all_back (drop (index + 1) kept) given → left ≡ put_back_at one.line one.arguments now →
    left ≡ all_back (drop index kept) given
back_more kept index one given now left less at was is =
    is ∙ ap (put_back_at one.line one.arguments) was
    ∙ ap (λ l. all_back l given) (sym (dropped kept index one (slice_get-get_or kept index one less ∙ ap Some (sym at))))

-- whether all is answered as is wanted, by the first answer that is another one
pub told_by : (table : CallTable) (w : World) (want : List Answer) (own some : List Asked) (other : Option ℕ) (told : Bool) →
    other ≡ first_other (answers_to table w own) want → own ≡ some → is_none other ≡ told →
    told ≡ same_answers (answers_to table w some) want
told_by table w want own some other told is same none =
    sym none ∙ ap is_none is ∙ sym (same_by_first (answers_to table w own) want)
    ∙ ap (λ l. same_answers (answers_to table w l) want) same
