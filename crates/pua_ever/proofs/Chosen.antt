-- Which list it is that holds longest, and what a list of who holds both sets says of it.
use Rattle.pua_ever.proofs.Common.{◌≡◌, ℕ, Bool, true, false, refl, Option, Some, None, if◌then◌else◌, has, Call, Tree, CallTable, ProcessState}
use Rattle.pua_ever.proofs.Common.{ever, Some≢None, state_after}
use Rattle.std.specs.Prelude.{find}
use Rattle.pua_calls.specs.TmpTable.{tmp_table}
use Rattle.pua_policy.specs.States.{Locked, held_for_exec, with_both}
use Rattle.pua_ever.specs.Refusals.{refusal, can_unveil, lacks_c, changing_calls, table_refusal}
use Rattle.pua_ever.specs.declared.refusal.EverRefusal.{EverRefusal}
use Rattle.pua_ever.specs.declared.refusal.EverRefusal.TheVariants.{CanUnveil}
use Rattle.pua_ever.specs.Through.{is_promised_by_one, only_through, ever_through, has_exec, bound_of, ever_lasting, execs_of}
use Rattle.pua_ever.specs.declared.lasting_list.ExecBound.TheVariants.{Never, Bounded, Open}

-- the lines of who holds both sets, with the calls that one lets through, are the list through execs
pub through_lines : (t : Tree) (table : CallTable) (h : ProcessState) (given set : ℕ) →
    ((call : Call) → has set call ≡ is_promised_by_one table h given call) →
    only_through (has set) (ever t table (with_both h given)) ≡ ever_through t table h given
through_lines t table h given set same = λ i. only_through (λ call. same call i) (ever t table (with_both h given))

-- where what is started isn't bounded, where no line has exec, and where one has
pub lasting_unbounded : (t : Tree) (table : CallTable) (h : ProcessState) → bound_of table h ≡ None → ever_lasting t table h ≡ ever t table h
lasting_unbounded t table h e = rw e refl

pub lasting_alone : (t : Tree) (table : CallTable) (h : ProcessState) (given : ℕ) → bound_of table h ≡ Some given →
    has_exec (ever t table h) ≡ false → ever_lasting t table h ≡ ever t table h
lasting_alone t table h given e none = rw (e, none) refl

pub lasting_through : (t : Tree) (table : CallTable) (h : ProcessState) (given : ℕ) → bound_of table h ≡ Some given →
    has_exec (ever t table h) ≡ true → ever_lasting t table h ≡ ever_through t table h given
lasting_through t table h given e some = rw (e, some) refl

pub lasting_unstarted : (t : Tree) (table : CallTable) (h : ProcessState) → has_exec (ever t table h) ≡ false →
    ever_lasting t table h ≡ ever t table h
lasting_unstarted t table h none = by (bound_of table h) refl
  where
    by : (o : Option ℕ) → bound_of table h ≡ o → ever_lasting t table h ≡ ever t table h
    by None is = lasting_unbounded t table h is
    by (Some given) is = lasting_alone t table h given is none

-- what the list says of execs
pub starts_none : (t : Tree) (table : CallTable) (h : ProcessState) → has_exec (ever t table h) ≡ false → execs_of t table h ≡ Never
starts_none t table h none = rw none refl

pub starts_open : (t : Tree) (table : CallTable) (h : ProcessState) → has_exec (ever t table h) ≡ true → bound_of table h ≡ None →
    execs_of t table h ≡ Open
starts_open t table h some e = rw (some, e) refl

pub starts_bounded : (t : Tree) (table : CallTable) (h : ProcessState) (given : ℕ) → has_exec (ever t table h) ≡ true →
    bound_of table h ≡ Some given → execs_of t table h ≡ Bounded
starts_bounded t table h given some e = rw (some, e) refl

-- nothing refuses the lines of who holds both, locked, that doesn't refuse those of the process
pub unrefused_both : (table : CallTable) (h : ProcessState) (given : ℕ) → refusal table h ≡ None →
    refusal table (state_after Locked (with_both h given)) ≡ None
unrefused_both table h given = by (can_unveil h) (table_refusal table (find (lacks_c table) changing_calls))
  where
    by : (b : Bool) (o : Option EverRefusal) → (if b then Some CanUnveil else o) ≡ None → o ≡ None
    by true o e = absurd (Some≢None CanUnveil e)
    by false o e = e

-- the table with one more set of some calls bounds the same programs
pub bound_too : (table : CallTable) (h : ProcessState) → bound_of (tmp_table table) h ≡ bound_of table h
bound_too table h = by (held_for_exec h) refl
  where
    by : (o : Option ℕ) → held_for_exec h ≡ o → bound_of (tmp_table table) h ≡ bound_of table h
    by None is = rw is refl
    by (Some given) is = rw is refl
