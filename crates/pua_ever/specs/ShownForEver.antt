-- What is shown of all that can ever be touched: at and below its root alone, where the paths of a process can never leave that, and all
-- where they can.
use Rattle.std.specs.Prelude.{ℕ, Bool, true, if◌then◌else◌, List, filter, Option, Some, None}
use Rattle.pua_tree.specs.Tree.{Tree}
use Rattle.pua_calls.specs.Calls.{CallTable}
use Rattle.pua_policy.specs.States.{ProcessState, with_both}
use Rattle.pua_objects.specs.Roots.{shown_for_ever, shows}
use Rattle.pua_objects.specs.declared.roots.Shown.{Shown}
use Rattle.pua_objects.specs.declared.roots.Shown.TheVariants.{All, Below}
use Rattle.pua_ever.specs.Ever.{Comes, EverLine, Stands, Thing, ever}
use Rattle.pua_ever.specs.Through.{bound_of, ever_through, has_exec}
use Rattle.pua_ever.specs.declared.lasting_list.ExecBound.{ExecBound}
use Rattle.pua_ever.specs.declared.lasting_list.ExecBound.TheVariants.{Never, Bounded, Open}

-- what a list shows; what can be made is made there
abbrev pub shows_thing : Tree → Shown → Thing → Bool
shows_thing t shown (Stands subject) = shows t shown subject
shows_thing t shown (Comes new) = true

-- what a line is about is at or below the root
abbrev pub is_inside : Tree → ℕ → Thing → Bool
is_inside t root thing = shows_thing t (Below root) thing

abbrev pub only_inside : Tree → ℕ → List EverLine → List EverLine
only_inside t root lines = filter (λ line. is_inside t root line.thing) lines

abbrev pub lines_shown : Tree → Shown → List EverLine → List EverLine
lines_shown t All lines = lines
lines_shown t (Below root) lines = only_inside t root lines

-- all that can ever be touched, cut at the root of a process that is enclosed for ever
abbrev pub shown_ever : Tree → CallTable → ProcessState → List EverLine
shown_ever t table h = lines_shown t (shown_for_ever t h) (ever t table h)

-- the list through execs, where who holds both sets is so
abbrev pub shown_through : Tree → CallTable → ProcessState → ℕ → List EverLine
shown_through t table h given = lines_shown t (shown_for_ever t (with_both h given)) (ever_through t table h given)

-- the list that holds longest: where no exec can succeed, or what is started isn't bounded, that of the process itself; else the one
-- through execs
abbrev pub shown_lasting : Tree → CallTable → ProcessState → List EverLine
shown_lasting t table h = by (bound_of table h)
  where
    by : Option ℕ → List EverLine
    by None = shown_ever t table h
    by (Some given) = if has_exec (shown_ever t table h) then shown_through t table h given else shown_ever t table h

-- what it shows
abbrev pub shown_longest : Tree → CallTable → ProcessState → Shown
shown_longest t table h = by (bound_of table h)
  where
    by : Option ℕ → Shown
    by None = shown_for_ever t h
    by (Some given) = if has_exec (shown_ever t table h) then shown_for_ever t (with_both h given) else shown_for_ever t h

-- and what it says of execs: nothing where no line of the process itself has one; else whether what is started is bounded
abbrev pub execs_shown : Tree → CallTable → ProcessState → ExecBound
execs_shown t table h = if has_exec (shown_ever t table h) then by (bound_of table h) else Never
  where
    by : Option ℕ → ExecBound
    by None = Open
    by (Some given) = Bounded
