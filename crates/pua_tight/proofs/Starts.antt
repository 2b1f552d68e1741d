-- A script may be served from any line on, in the world before that line.
use Rattle.std.proofs.Common.{◌≡◌, ℕ, zero, suc, List, [], ◌∷◌, ◌++◌, ◌+◌, ◌-◌, ◌<◌, ◌≤◌, ◌∙◌, refl, sym, ap, subst, length, take, drop, get_or, arith}
use Rattle.std.proofs.lemmas.List.{length-take, take-append-drop}
use Rattle.std.proofs.lemmas.Option.{none-some, same_Some}
use Rattle.std.specs.Prelude.{Bool, Option, Some, None, is_none, map, option_map, slice_get}
use Rattle.pua_calls.specs.Calls.{CallTable}
use Rattle.pua_script.specs.Requests.{Asked}
use Rattle.pua_script.specs.Replay.{World, apply, answers_to, world_after}
use Rattle.pua_script.specs.Worlds.{WorldState, apply_to, with_table, world_of}
use Rattle.pua_script.specs.declared.answer.Answer.{Answer}
use Rattle.pua_tight.specs.Tight.{Piece, same_answers}
use Rattle.pua_tight.specs.Laws.{leave_out}
use Rattle.pua_tight.specs.Several.{AreFrom, AreUpTo, Descend, IsToTry, all_left}
use Rattle.pua_tight.specs.Starts.{IsStart, Start, first_from}
use Rattle.pua_tight.specs.Trials.{Trial}
use Rattle.pua_tight.specs.Uses.{WordUse, first_other}
use Rattle.pua_tight.proofs.FirstOtherAnswer.{first_same}
use Rattle.pua_tight.proofs.Minimal.{compose}
use Rattle.pua_tight.proofs.PromisesTogether.{one_more}
use Rattle.pua_tight.proofs.WithoutSeveral.{told_by}
use Rattle.pua_script.proofs.ForCallers.{one_request_more}

-- the first lines of a script are answered as they are in all of it
answers_before : (table : CallTable) (w : World) (line : ℕ) (asks : List Asked) →
    answers_to table w (take line asks) ≡ take line (answers_to table w asks)
answers_before table w zero asks = refl
answers_before table w (suc line) [] = refl
answers_before table w (suc line) (ask ∷ asks) = ap (λ l. (apply table w ask).0 ∷ l) (answers_before table (apply table w ask).1 line asks)

as_many : (table : CallTable) (w : World) (asks : List Asked) → length (answers_to table w asks) ≡ length asks
as_many table w [] = refl
as_many table w (ask ∷ asks) = ap suc (as_many table (apply table w ask).1 asks)

-- behind lines that are answered as is wanted
first_behind : (line : ℕ) (ys want : List Answer) → line ≤ length want → first_other (take line want ++ ys) want ≡ first_from line ys (drop line want)
first_behind zero ys want within = sym (from_none (first_other ys want))
  where
    from_none : (o : Option ℕ) → option_map (λ n. 0 + n) o ≡ o
    from_none None = refl
    from_none (Some n) = let e : 0 + n ≡ n = omega arith in ap Some e
first_behind (suc line) ys [] within = absurd (omega (arith, within))
first_behind (suc line) ys (b ∷ want) within =
    first_same b (take line want ++ ys) want ∙ ap (option_map suc) (first_behind line ys want (omega (arith, within)))
    ∙ next (first_other ys (drop line want))
  where
    next : (o : Option ℕ) → option_map suc (option_map (λ n. line + n) o) ≡ option_map (λ n. suc line + n) o
    next None = refl
    next (Some n) = let e : suc (line + n) ≡ suc line + n = omega arith in ap Some e

module _ (table : CallTable) (w : World) (asks own : List Asked) (start : Start) (before : take start.line own ≡ take start.line asks) where
  -- the lines before it are there in both
  pub there : IsStart table w asks start → start.line ≤ length own
  there is = omega (
    arith,
    is.within,
    length-take start.line own,
    length-take start.line asks,
    ap length before,
  )

  pub moved : IsStart table w asks start → IsStart table w own start
  moved is = record {
    within = there is;
    world = is.world ∙ ap (λ l. with_table table (world_after table w l)) (sym before);
  }

  -- what is told from there on is told of all
  pub told_from : (want : List Answer) → answers_to table w asks ≡ want → IsStart table w asks start →
      first_from start.line (answers_to start.world.table (world_of start.world) (drop start.line own)) (drop start.line want)
      ≡ first_other (answers_to table w own) want
  told_from want same is =
      let rest : List Asked = drop start.line own in
      let answers : List Answer = answers_to table (world_after table w (take start.line own)) rest in
      let all : answers_to table w own ≡ take start.line want ++ answers =
      ap (answers_to table w) (sym (take-append-drop start.line own)) ∙ compose table w (take start.line own) rest
      ∙ ap (λ l. l ++ answers) (ap (answers_to table w) before ∙ answers_before table w start.line asks ∙ ap (take start.line) same) in
      let within : start.line ≤ length want = omega (arith, is.within, as_many table w asks, ap length same) in
      ap (λ (s : WorldState). first_from start.line (answers_to s.table (world_of s) rest) (drop start.line want)) (moved is).world
      ∙ sym (ap (λ l. first_other l want) all ∙ first_behind start.line answers want within)

-- one line more is served
pub one_served : (table : CallTable) (w : World) (asks : List Asked) (start next : Start) (ask : Asked) (answer : Answer) →
    ask ≡ get_or asks start.line ask → (answer, next.world) ≡ apply_to start.world ask → next.line ≡ start.line + 1 →
    start.line < length asks → IsStart table w asks start → IsStart table w asks next
one_served table w asks start next ask answer at served goes less is =
    let line = start.line in
    record {
      within = omega (arith, goes, less);
      world =
          ap (λ (done : Answer × WorldState). done.1) served
          ∙ ap (λ (s : WorldState). (apply_to s ask).1) is.world
          ∙ ap (with_table table) (sym (one_request_more table w (take line asks) ask))
          ∙ ap (λ l. with_table table (world_after table w l)) (sym (one_more asks line ask less at) ∙ ap (λ n. take n asks) (sym goes));
    }

-- what is left out at a line or behind it leaves the lines before it
left_before : (n line : ℕ) (piece : Piece) (asks : List Asked) → n ≤ line → take n (leave_out line piece asks) ≡ take n asks
left_before n line piece [] before = refl
left_before zero line piece (ask ∷ asks) before = refl
left_before (suc n) zero piece (ask ∷ asks) before = absurd (omega (arith, before))
left_before (suc n) (suc line) piece (ask ∷ asks) before = ap (λ l. ask ∷ l) (left_before n line piece asks (omega (arith, before)))

pub piece_before : (n line : ℕ) (piece : Piece) (asks : List Asked) → n ≤ line → take n (leave_out line piece asks) ≡ take n asks
piece_before = left_before

pub all_before : (n line : ℕ) (trials : List Trial) (asks : List Asked) → n ≤ line → AreFrom line trials → take n (all_left trials asks) ≡ take n asks
all_before n line [] asks before from = refl
all_before n line (trial ∷ trials) asks before from =
    all_before n line trials (leave_out trial.line trial.piece asks) before from.1
    ∙ left_before n trial.line trial.piece asks (omega (arith, before, from.0))

-- the last trial has the first line
up_to_at : (n line : ℕ) (trials : List Trial) (one : Trial) → AreUpTo line trials → slice_get trials n ≡ Some one → one.line ≤ line
up_to_at n line [] one up at = absurd (none-some one at)
up_to_at zero line (trial ∷ trials) one up at = omega (arith, up.0, ap (λ (t : Trial). t.line) (same_Some trial one at))
up_to_at (suc n) line (trial ∷ trials) one up at = up_to_at n line trials one up.1 at

from_at : (want : List Answer) (n : ℕ) (trials : List Trial) (last : Trial) → Descend want trials → length trials ≡ suc n →
    slice_get trials n ≡ Some last → AreFrom last.line trials
from_at want n [] last d many at = tt
from_at want zero (trial ∷ []) last d many at = (omega (arith, ap (λ (t : Trial). t.line) (same_Some trial last at)), tt)
from_at want zero (trial ∷ (other ∷ trials)) last d many at = absurd (omega (arith, many))
from_at want (suc n) (trial ∷ trials) last d many at = (up_to_at n trial.line trials last d.1 at, from_at want n trials last d.2 (omega (arith, many)) at)

pub from_last : (want : List Answer) (trials : List Trial) (last : Trial) → Descend want trials → slice_get trials (length trials - 1) ≡ Some last →
    AreFrom last.line trials
from_last want [] last d at = tt
from_last want (trial ∷ trials) last d at =
    let n : length (trial ∷ trials) - 1 ≡ length trials = omega arith in
    from_at want (length trials) (trial ∷ trials) last d refl (ap (slice_get (trial ∷ trials)) (sym n) ∙ at)

-- trials start from a world near before the first of their lines
module _ (table : CallTable) (w : World) (want : List Answer) (trials : List Trial) (asks given : List Asked) (same : given ≡ asks) (line : ℕ)
    (old now : Start) (from : Descend want trials → AreFrom line trials) (goes : IsStart table w given old → IsStart table w given now)
    (up : now.line ≤ line) (to_try : IsToTry table w want trials asks) (is : IsStart table w asks old) where
  pub near : IsStart table w asks now
  near = subst (λ l. IsStart table w l old → IsStart table w l now) same goes is

  before_all : take now.line (all_left trials asks) ≡ take now.line asks
  before_all = all_before now.line line trials asks up (from to_try.descend)

  module _ (own : List Asked) (are : own ≡ all_left trials asks) where
    before_own : take now.line own ≡ take now.line asks
    before_own = ap (take now.line) are ∙ before_all

    pub near_left : IsStart table w own now
    near_left = moved table w asks own now before_own near

    pub told_near : (other : Option ℕ) (told : Bool) →
        ((asks : List Asked) → answers_to table w asks ≡ want → IsStart table w asks now → take now.line own ≡ take now.line asks →
        other ≡ first_other (answers_to table w own) want) → is_none other ≡ told → told ≡ same_answers (answers_to table w (all_left trials asks)) want
    told_near other told tells none = told_by table w want own (all_left trials asks) other told (tells asks to_try.same near before_own) are none

-- one word more has its use
pub used_more : (f : Trial → WordUse) (words : List Trial) (index : ℕ) (word : Trial) (uses more : List WordUse) (one : WordUse) →
    index < length words → word ≡ get_or words index word → uses ≡ map f (take index words) → one ≡ f word → more ≡ uses ++ one ∷ [] →
    more ≡ map f (take (index + 1) words)
used_more f words index word uses more one less at so_far is are =
    are ∙ (λ j. so_far j ++ is j ∷ []) ∙ sym (both (take index words)) ∙ ap (map f) (sym (one_more words index word less at))
  where
    both : (xs : List Trial) → map f (xs ++ word ∷ []) ≡ map f xs ++ f word ∷ []
    both [] = refl
    both (x ∷ xs) = ap (λ l. f x ∷ l) (both xs)
