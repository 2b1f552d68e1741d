-- What the table by which lists for ever go gives as the one does of which it is.
use Rattle.pua_tool.proofs.Common.{◌≡◌, ℕ, List, [], ◌∷◌, refl, Option, Some, None, CallTable, ProcessState}
use Rattle.std.proofs.Common.{Bool, true, false}
use Rattle.std.specs.Prelude.{if◌then◌else◌, find}
use Rattle.pua_calls.specs.TmpTable.{tmp_table}
use Rattle.pua_calls.specs.declared.call.Call.{Call}
use Rattle.pua_policy.specs.States.{held_for_exec}
use Rattle.pua_ever.specs.Refusals.{can_unveil, changing_calls, lacks_c, refusal, table_refusal}
use Rattle.pua_ever.specs.Through.{bound_of}
use Rattle.pua_ever.specs.Together.{Joint, files_together, joint_after, joint_of, joined, process_by, with_one}
use Rattle.pua_ever.specs.declared.refusal.EverRefusal.{EverRefusal}
use Rattle.pua_ever.specs.declared.refusal.EverRefusal.TheVariants.{CanUnveil}
use Rattle.pua_tool.specs.TogetherTexts.{first_refused, refused_or}

-- the reasons for no list
abbrev reason_by : CallTable → Bool → Option Call → Option EverRefusal
reason_by table unveils call = if unveils then Some CanUnveil else table_refusal table call

pub refused_too : (table : CallTable) (h : ProcessState) → refusal (tmp_table table) h ≡ refusal table h
refused_too table h = by (can_unveil h) (find (lacks_c table) changing_calls)
  where
    by : (b : Bool) (o : Option Call) → reason_by (tmp_table table) b o ≡ reason_by table b o
    by true o = refl
    by false None = refl
    by false (Some call) = refl

pub firsts_too : (table : CallTable) (members : List (ℕ × ProcessState)) → first_refused (tmp_table table) members ≡ first_refused table members
firsts_too table [] = refl
firsts_too table (m ∷ ms) = λ i. refused_or m.0 (refused_too table m.1 i) (firsts_too table ms i)

-- the programs that are bounded
pub bound_too : (table : CallTable) (h : ProcessState) → bound_of (tmp_table table) h ≡ bound_of table h
bound_too table h = by (held_for_exec h) refl
  where
    by : (o : Option ℕ) → held_for_exec h ≡ o → bound_of (tmp_table table) h ≡ bound_of table h
    by None is = rw is refl
    by (Some given) is = rw is refl

-- and the one that stands for several processes
after_too : (table : CallTable) (joint : Joint) (more : List ProcessState) → joint_after (tmp_table table) joint more ≡ joint_after table joint more
after_too table joint [] = refl
after_too table joint (h ∷ more) = after_too table (with_one table joint h) more

pub joined_too : (table : CallTable) (first : ProcessState) (more : List ProcessState) → joined (tmp_table table) first more ≡ joined table first more
joined_too table first more = λ i. process_by first (files_together first more) (after_too table (joint_of table first) more i)
