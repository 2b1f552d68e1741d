-- What a walk has to give that stands on the way to a pair.
use Rattle.std.specs.Prelude.{ℕ, ◌-◌, List, [], ◌∷◌, ◌++◌, length, Option}
use Rattle.pua_steps.specs.Calls.{calls_of}
use Rattle.pua_steps.specs.Graph.{Graph, Word, Pair, cons, alone, below}
use Rattle.pua_steps.specs.Order.{pairs_after}
use Rattle.pua_steps.specs.Trail.{Live, pairs_of, pending}
use Rattle.pua_steps.specs.Live.{live_of}
use Rattle.pua_steps.specs.Lists.{narrow_of}
use Rattle.pua_steps.specs.Ready.{rests_of}
use Rattle.pua_steps.specs.declared.state.State.{State}
use Rattle.pua_steps.specs.declared.visit.Visit.{Visit}
use Rattle.pua_steps.specs.declared.walk.Walk.{Walk}

-- pairs after the letters of a word
unfoldable pub cons_all : Word → List Pair → List Pair
cons_all [] ps = ps
cons_all (a ∷ word) ps = cons a (cons_all word ps)

-- the pairs on the word and its extensions that come after the pair, of whose word the letters `way` are left, and
-- those that the open states leave
unfoldable pub to_give : Graph → Live → ℕ → Word → ℕ → Option State → List (List Visit) → Word → ℕ → List Pair
to_give g live limit word calls o rests way call =
    cons_all word (pairs_after (way, call) (alone (calls_of calls) ++ below g (limit - length word) o))
    ++ pairs_of (pending g live limit 0 word rests)

abbrev pub to_give_after : Walk → Word → ℕ → List Pair
to_give_after a way call = to_give (narrow_of a.tables.steps a.tables.live) (live_of a.tables.live) a.limit a.word.items a.calls a.behind
    (rests_of a.tables.steps a.tables.counted.lists a.frames.items) way call
