-- What is so at the end was so all the time, or since the line that is told.
use Rattle.pua_why.proofs.Common.{◌≡◌, ℕ, suc, Bool, true, false, List, [], ◌∷◌, Some, None, refl, sym, ap, ◌∙◌, arith, Option, not}
use Rattle.pua_why.proofs.Common.{CallTable, World}
use Rattle.std.specs.Prelude.{◌&&◌}
use Rattle.pua_script.specs.Requests.{Asked}
use Rattle.pua_script.specs.Replay.{apply, world_after}
use lib.Pointwise.{bytes_decides}
use Rattle.pua_why.specs.Reasons.{reason}
use Rattle.pua_why.specs.Keys.{reason_key}
use Rattle.pua_why.specs.Texts.{has_key}
use Rattle.pua_why.specs.Laws.{ReasonsSince}
use Rattle.pua_why.specs.Since.{Test, forebear, later_or, since, IsSoThroughout, TurnsAt, IsSince, SinceHolds}

-- what is so throughout is so at first
pub so_at_first : (test : Test) (table : CallTable) (w : World) (asks : List Asked) (process : ℕ) → IsSoThroughout test table w asks process →
    test w (forebear table w asks process) ≡ true
so_at_first test table w [] process so = so
so_at_first test table w (ask ∷ asks) process so = so.0

behind_one : (test : Test) (table : CallTable) (w : World) (n : ℕ) (ask : Asked) (asks : List Asked) (process line : ℕ) →
    TurnsAt test table (apply table w ask).1 (suc n) asks process line → TurnsAt test table w n (ask ∷ asks) process line
behind_one test table w n ask asks process line turns = record {
  first = ask ∷ turns.first;
  ask = turns.ask;
  rest = turns.rest;
  split = ap (λ more. ask ∷ more) turns.split;
  number = omega (arith, turns.number);
  before = turns.before;
  after = turns.after;
}

pub since_holds : SinceHolds
since_holds test table w n [] process e = e
since_holds test table w n (ask ∷ asks) process e =
    by (since test table (apply table w ask).1 (suc n) asks process) (since_holds test table (apply table w ask).1 (suc n) asks process e)
    (test w (forebear table w (ask ∷ asks) process)) refl (test (apply table w ask).1 (forebear table (apply table w ask).1 asks process))
    refl
  where
    by : (o : Option ℕ) → IsSince test table (apply table w ask).1 (suc n) asks process o → (a : Bool) →
        test w (forebear table w (ask ∷ asks) process) ≡ a →
        (b : Bool) → test (apply table w ask).1 (forebear table (apply table w ask).1 asks process) ≡ b →
        IsSince test table w n (ask ∷ asks) process (later_or o (not a && b) n)
    by (Some line) turns a at_first b then_on = behind_one test table w n ask asks process line turns
    by None so true at_first b then_on = (at_first, so)
    by None so false at_first true then_on =
        record { first = []; ask = ask; rest = asks; split = refl; number = omega arith; before = at_first; after = so }
    by None so false at_first false then_on = let is : false ≡ true = sym then_on ∙
        so_at_first test table (apply table w ask).1 asks process so in cc

pub reasons_since : ReasonsSince
reasons_since table w asks ask =
    since_holds (has_key table ask (reason_key (reason table (world_after table w asks) ask))) table w 1 asks ask.process
    ((bytes_decides (reason_key (reason table (world_after table w asks) ask)) (reason_key (reason table (world_after table w asks) ask))).1
    refl)
