-- What a world's requests leave.
use Rattle.pua_script.proofs.Common.{◌≡◌, ℕ, ◌+◌, ◌<◌, List, [], ◌∷◌, ◌++◌, length, take, refl, sym, ap, subst, ◌∙◌, lit<}
use Rattle.pua_script.proofs.Common.{Bool, true, false, not, ◌||◌, list_all, list_any, AllByRecursion, IsTrue, holds, rule_of, and_parts, false≢true}
use Rattle.pua_script.proofs.Common.{Result, Ok, Err, WellFormed, PairRule, CallTable, ProcessState, Asked}
use Rattle.pua_script.proofs.Common.{World, apply, world_after, WorldState, HasKept}
use Rattle.pua_script.proofs.Common.{UncoveredStay, AreDone, Answer}
use Rattle.std.proofs.Common.{get_or, add-one}
use Rattle.std.proofs.Math.Seq.{take-suc}
use Rattle.std.specs.Prelude.{IfOk, OnErr, MatchResult}
use Rattle.pua_calls.proofs.ForCallers.{standard_needs_no_error, openbsd_needs_no_error, texts_need_no_error, texts_keep_pairs}
use Rattle.pua_calls.proofs.ForCallers.{none_by_test}
use Rattle.pua_calls.specs.Calls.{about_rules, openbsd_table, standard_table}
use Rattle.pua_calls.specs.declared.call.Call.TheVariants as call
use Rattle.pua_calls.specs.declared.rules.Rules.TheVariants.{Standard, Openbsd}
use Rattle.pua_script.specs.Worlds.{world_of, apply_to, run_to, state_after_all}
use Rattle.pua_script.specs.Tightening.{IsNarrowedBy, EndsWithin}
use Rattle.pua_script.specs.Confinement.{NeedsC, NamesOne, CallsNeed, changes_names, TreesAlong}
use Rattle.pua_script.specs.Futures.{RulesNarrow, ReadTablesNarrow, IsNarrowing, IsSparing, AreDoneInPart, AreHeld}
use Rattle.pua_script.specs.Futures.{changing_promises, HaveTrees}
use Rattle.pua_script.specs.Futures.{AreServedInPart}
use Rattle.pua_script.proofs.Tightening.{each_narrows, within_self}
use Rattle.pua_script.proofs.Confining.{each_spares}
use Rattle.pua_script.proofs.Families.{families_narrow}
use Rattle.pua_script.proofs.Holding.{families_hold}
use Rattle.pua_script.specs.Holding.{HoldsNoMore}
use Rattle.pua_script.proofs.Confined.{families_confine}
use Rattle.pua_script.proofs.Serving.{served_more}

-- what is so of each call that passes a test
if_changes : (a b : Bool) → (not a || b) ≡ true → a ≡ true → b ≡ true
if_changes true b e is = e
if_changes false b e is = absurd (false≢true is)

-- a test of whether each alternative names one of some promises
abbrev each_names : List ℕ → List ℕ → Bool
each_names promises sets = list_all (λ set. list_any (holds set) promises) sets

names_by_test : (promises sets : List ℕ) → each_names promises sets ≡ true →
    AllByRecursion (λ set. IsTrue (list_any (holds set) promises)) sets
names_by_test promises [] e = tt
names_by_test promises (set ∷ sets) e =
    let parts = and_parts (list_any (holds set) promises) (each_names promises sets) e in
    (parts.0, names_by_test promises sets parts.1)

-- the calls that change names need one of the promises of their rules, by computing each
standard_changes : CallsNeed (changing_promises Standard) standard_table
standard_changes call.Stat changes = absurd (false≢true changes)
standard_changes c changes =
    names_by_test (changing_promises Standard) (rule_of standard_table c).alternatives
    (if_changes (changes_names c) (each_names (changing_promises Standard) (rule_of standard_table c).alternatives) refl changes)

openbsd_changes : CallsNeed (changing_promises Openbsd) openbsd_table
openbsd_changes call.Stat changes = absurd (false≢true changes)
openbsd_changes c changes =
    names_by_test (changing_promises Openbsd) (rule_of openbsd_table c).alternatives
    (if_changes (changes_names c) (each_names (changing_promises Openbsd) (rule_of openbsd_table c).alternatives) refl changes)

pub rules_narrow : RulesNarrow
rules_narrow Standard = record {
  error = record {
    calls = standard_needs_no_error;
    rename = (((lit< tt, refl), tt), ((lit< tt, refl), tt));
    link = (((lit< tt, refl), tt), ((lit< tt, refl), tt));
  };
  taking = record { rmdir = refl; unlink = refl; rename_old = refl; rename_new = refl };
  changing = record {
    no_error = none_by_test (changing_promises Standard) refl;
    calls = standard_changes;
    rename = (refl, tt);
    link = (refl, tt);
    opened = λ e. absurd (false≢true e);
  };
}
rules_narrow Openbsd = record {
  error = record {
    calls = openbsd_needs_no_error;
    rename = (((lit< tt, refl), tt), ((lit< tt, refl), tt));
    link = (((lit< tt, refl), tt), ((lit< tt, refl), tt));
  };
  taking = record { rmdir = refl; unlink = refl; rename_old = refl; rename_new = refl };
  changing = record {
    no_error = none_by_test (changing_promises Openbsd) refl;
    calls = openbsd_changes;
    rename = (refl, tt);
    link = (refl, tt);
    opened = λ e. refl;
  };
}

pub read_tables_narrow : ReadTablesNarrow
read_tables_narrow = record {
  error = texts_need_no_error;
  taking = λ base needs text table is rmdir unlink.
      let renames = (texts_keep_pairs base text table is).rename in
      record {
        rmdir = rmdir;
        unlink = unlink;
        rename_old = subst (λ (pair : PairRule). NeedsC pair.old.needs) (sym renames) needs.rename_old;
        rename_new = subst (λ (pair : PairRule). NeedsC pair.new.needs) (sym renames) needs.rename_new;
      };
  changing = λ base promises needs text table is calls.
      let same = texts_keep_pairs base text table is in
      record {
        no_error = needs.no_error;
        calls = calls;
        rename = subst (λ (pair : PairRule). NamesOne promises pair.new.needs) (sym same.rename) needs.rename;
        link = subst (λ (pair : PairRule). NamesOne promises pair.new.needs) (sym same.link) needs.link;
        opened = λ e. needs.opened (ap (λ whose. (about_rules whose).has_openings) (sym same.whose) ∙ e);
      };
}

module _ (before : WorldState) (ask : Asked) (after : WorldState) where
  pub is_narrowing : (answer : Answer) → (answer, after) ≡ apply_to before ask → IsNarrowing before ask after
  is_narrowing answer served process p here confined none =
      subst (λ d. HasKept (world_of d.1) process (IsNarrowedBy before.table (world_of before) ask process p)) (sym served)
      (each_narrows before.table (world_of before) ask process p here confined none)

  -- a world that stays as it was keeps each process
  pub stays_narrow : after ≡ before → IsNarrowing before ask after
  stays_narrow same process p here confined none =
      let IsSo : ProcessState → Type 0 = IsNarrowedBy before.table (world_of before) ask process p in
      let stays : IsSo p = record {
        tightens = (within_self p confined).tightens;
        allows = λ sound. record { absolute = λ root t call text is allowed. allowed; relative = λ root dirs t call text allowed. allowed };
        dir = λ still. refl;
        root = λ still. refl;
      } in
      subst (λ (s : WorldState). HasKept (world_of s) process IsSo) (sym same) (p, here, stays)

  -- both worlds have a tree
  pub is_sparing : (answer : Answer) → WellFormed before.tree → WellFormed after.tree → (answer, after) ≡ apply_to before ask →
      IsSparing before ask after
  is_sparing answer well well_then served needs p here =
      subst (λ d. UncoveredStay p before.tree d.1.tree) (sym served)
      (each_spares before.table needs (world_of before) ask p well (subst (λ d. WellFormed d.1.tree) served well_then) here)

-- the trees on the way of one request more
more_trees : (table : CallTable) (w : World) (asks : List Asked) (ask : Asked) → TreesAlong table w asks →
    WellFormed (apply table (world_after table w asks) ask).1.tree → TreesAlong table w (asks ++ ask ∷ [])
more_trees table w [] ask trees last = (trees, last)
more_trees table w (first ∷ asks) ask trees last = (trees.0, more_trees table (apply table w first).1 asks ask trees.1 last)

done_more : (before mid after : WorldState) (asks : List Asked) (told : List Answer) (ask : Asked) (answer : Answer) →
    WellFormed after.tree → AreDone before asks told mid → (answer, after) ≡ apply_to mid ask
    → AreDone before (asks ++ ask ∷ []) (told ++ answer ∷ []) after
done_more before mid after asks told ask answer well first next =
    let step : (answer, after) ≡ apply_to (state_after_all before asks) ask = next ∙ ap (λ d. apply_to d.1 ask) first.0 in (
      served_more before mid after asks told ask answer first.0 next,
      more_trees before.table (world_of before) asks ask first.1 (subst (λ d. WellFormed d.1.tree) step well),
    )

-- the next of a list of requests
pub done_next : (before mid after : WorldState) (asks : List Asked) (i : ℕ) (told more : List Answer) (ask : Asked) (answer : Answer) →
    i < length asks → ask ≡ get_or asks i ask → more ≡ told ++ answer ∷ []
    → WellFormed after.tree → AreDone before (take i asks) told mid → (answer, after) ≡ apply_to mid ask →
    AreDone before (take (i + 1) asks) more after
done_next before mid after asks i told more ask answer within is pushed well first next =
    let taken : take (i + 1) asks ≡ take i asks ++ ask ∷ [] = ap (λ n. take n asks) (add-one i) ∙ take-suc asks i ask within ∙
    ap (λ x. take i asks ++ x ∷ []) (sym is) in
    subst (λ xs. AreDone before xs more after) (sym taken)
    (subst (λ ys. AreDone before (take i asks ++ ask ∷ []) ys after) (sym pushed) (done_more before mid after (take i asks) told ask answer
    well first next))

-- some first ones, where the next was not served
pub done_before : (before mid after : WorldState) (asks own : List Asked) (i : ℕ) (told : List Answer) → own ≡ asks → after ≡ mid →
    AreDone before (take i own) told mid → AreDoneInPart before asks after
done_before before mid after asks own i told is same first = (
  i,
  same ∙ ap (λ d. d.1) first.0 ∙ ap (λ xs. state_after_all before (take i xs)) is,
  subst (λ xs. HaveTrees before (take i xs)) is first.1,
)

-- what was served holds the families
held_by : (before after : WorldState) (asks : List Asked) → after ≡ state_after_all before asks → HaveTrees before asks →
    AreHeld before asks after
held_by before after asks is trees = record {
  narrows = λ process now here confined none member belongs.
      subst (λ (s : WorldState). HasKept (world_of s) member (EndsWithin before.table (world_of before) asks process now)) (sym is)
      (families_narrow before.table (world_of before) asks process now here confined none member belongs);
  confines = λ process now here confined none alone.
      let both = families_confine before.table (world_of before) asks process now here confined none alone in
      record {
        spares = λ needs. subst (λ (s : WorldState). UncoveredStay now before.tree s.tree) (sym is) (both.spares needs trees);
        unchanged = λ promises needs lacks. ap (λ (s : WorldState). s.tree) is ∙ both.unchanged promises needs lacks;
      };
  holds = λ sound process now here confined none takes member belongs.
      subst (λ (s : WorldState). HasKept (world_of s) member (HoldsNoMore before.table now)) (sym is)
      (families_hold before.table (world_of before) asks sound process now here confined none takes member belongs);
}

module _ {A E : Type 0} (before after : WorldState) (asks : List Asked) (told : A → List Answer) where
  abbrev Done : Result A E → Type 0
  Done r = MatchResult r (λ a. AreDone before asks (told a) after) (λ _. AreDoneInPart before asks after)

  pub run_served : (r : Result A E) → Done r → IfOk r (λ a. (told a, after) ≡ run_to before asks)
  run_served (Ok a) done = done.0
  run_served (Err e) done = tt

  pub run_held : (r : Result A E) → Done r → IfOk r (λ _. AreHeld before asks after)
  run_held (Ok a) done = held_by before after asks (ap (λ d. d.1) done.0) done.1
  run_held (Err e) done = tt

  pub run_in_part : (r : Result A E) → Done r → OnErr r (AreServedInPart before asks after)
  run_in_part (Ok a) done = tt
  run_in_part (Err e) done =
      record { count = done.0; left = done.1; held = held_by before after (take done.0 asks) done.1 done.2 }
