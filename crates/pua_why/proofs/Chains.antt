-- What a chain tells.
use Rattle.pua_calls.specs.declared.rules.Rules.{Rules}
use Rattle.pua_script.specs.Decide.{asker_past, call_by, cover_past, decide_by}
use Rattle.pua_script.specs.Openings.{Opening, opening_of}
use Rattle.pua_why.specs.Reasons.{outcome_in}
use Rattle.pua_why.proofs.Common.{◌≡◌, ℕ, suc, ◌+◌, Bool, true, false, List, [], ◌∷◌, ◌++◌, map, length, Some, None, refl, sym, ap, ◌∙◌}
use Rattle.pua_why.proofs.Common.{append_assoc, append-nil, arith, Result, Ok, Err, Option, if◌then◌else◌, decimal, option_map}
use Rattle.pua_why.proofs.Common.{Tree, Spot, climb, Found, Ending, PathTrace, PathFault, CallTable, PairRule, rule_of, ProcessState, perms_kept}
use Rattle.pua_why.proofs.Common.{object_of, or_fault, Call, Change, Outcome, Side, Sole, Old, New, unless_refused, unless_failed, on_named}
use Rattle.pua_why.proofs.Common.{change_by, pair_by, misfit, InView, Promising, Holds, HasEnded, Lacks, promising, covering, Fault, Unfit}
use Rattle.pua_why.proofs.Common.{unpromised_fault, told_path, uncovered_fault, faults, faults_of, Fact, Needs, Follows, facts_promised}
use Rattle.pua_why.proofs.Common.{facts_named, facts_under, call_trace, name_trace, Place}
use Rattle.std.specs.Prelude.{bit_or}
use Rattle.pua_path.specs.declared.text.Ending.TheVariants as ending
use Rattle.pua_policy.specs.States.{has_veil, start}
use Rattle.pua_policy.specs.Verdict.{nearest}
use Rattle.pua_policy.specs.declared.place.Place.TheVariants.{Dir}
use Rattle.pua_policy.specs.declared.answer.Cover.TheVariants.{All}
use Rattle.pua_policy.specs.Reasons.{kept_or, first_kept, cover_of}
use Rattle.pua_why.specs.Facts.{Names, Under, needing, facts_found, facts_covered}
use Rattle.pua_why.specs.Facts.{Opened, promise_of_row, call_facts, facts_asked, facts_by, opened_facts, pair_facts}
use Rattle.pua_why.specs.Texts.{answer_why, line_said, why_lines}
use Rattle.pua_why.specs.Columns.{CoveringsIn}
use Rattle.pua_why.specs.Laws.{ChainsEnd, FactsBy, GrantsAreTold, PairFactsOf, PairsAreTold}
use Rattle.pua_why.proofs.Common.{OnPath}

pub chains_end : ChainsEnd
chains_end table w done [] ask n =
    append-nil (line_said ask (decimal n ++ 32 ∷ answer_why table w done ask))
    ∙ (λ i. line_said ask (decimal (plus_none n i) ++ 32 ∷ answer_why table w (sym (append-nil done) i) ask))
  where
    plus_none : (m : ℕ) → m ≡ m + 0
    plus_none m = omega arith
chains_end table w done (first ∷ asks) ask n =
    ap (λ more. line_said first (decimal n ++ 32 ∷ answer_why table w done first) ++ more)
    (chains_end table w (done ++ first ∷ []) asks ask (suc n)
    ∙ (λ i. why_lines table w (done ++ first ∷ []) (suc n) asks
    ++ line_said ask (decimal (plus_one n (length asks) i) ++ 32 ∷ answer_why table w (append_assoc done (first ∷ []) asks i) ask)))
    ∙ sym (append_assoc (line_said first (decimal n ++ 32 ∷ answer_why table w done first))
    (why_lines table w (done ++ first ∷ []) (suc n) asks)
    (line_said ask (decimal (n + suc (length asks)) ++ 32 ∷ answer_why table w (done ++ first ∷ asks) ask)))
  where
    plus_one : (m k : ℕ) → suc m + k ≡ m + suc k
    plus_one m k = omega arith

-- the first place with a veil, as a cover
first_covers : (h : ProcessState) (places : List Place) → cover_of (first_kept (perms_kept h) places) ≡ nearest (map (perms_kept h) places)
first_covers h [] = refl
first_covers h (place ∷ places) = by (perms_kept h place) (first_covers h places)
  where
    by : (o : Option ℕ) → cover_of (first_kept (perms_kept h) places) ≡ nearest (map (perms_kept h) places) →
        cover_of (kept_or place o (first_kept (perms_kept h) places)) ≡ nearest (o ∷ map (perms_kept h) places)
    by (Some perms) e = refl
    by None e = e

at_dirs : (h : ProcessState) (ds : List ℕ) → map (perms_kept h) (map Dir ds) ≡ map (λ dir. perms_kept h (Dir dir)) ds
at_dirs h [] = refl
at_dirs h (d ∷ ds) = ap (λ more. perms_kept h (Dir d) ∷ more) (at_dirs h ds)

pub coverings_in : CoveringsIn
coverings_in t h dir = by (has_veil h.veils)
  where
    by : (v : Bool) → cover_of (if v then first_kept (perms_kept h) (map Dir (climb t dir)) else InView)
        ≡ (if v then nearest (map (λ over. perms_kept h (Dir over)) (climb t dir)) else All)
    by true = first_covers h (map Dir (climb t dir)) ∙ ap nearest (at_dirs h (climb t dir))
    by false = refl

-- a check that was passed has no fault
none_failed : (o : Option Fault) (d : Outcome Fault) (change : Change) → unless_failed (λ fault. fault) o d ≡ Ok change → o ≡ None
none_failed None d change e = refl
none_failed (Some fault) d change e = cc

first_none : (a b : Option Fault) → or_fault a b ≡ None → a ≡ None
first_none None b e = refl
first_none (Some fault) b e = cc

-- promises stand before links and objects
needing_first : (side : Side) (set : ℕ) (links : List Spot) (object : Found) (more : List Fact) →
    needing set (map (Follows side) links ++ Names side object ∷ more) ≡ Needs set ∷ map (Follows side) links ++ Names side object ∷ more
needing_first side set [] object more = refl
needing_first side set (spot ∷ links) object more = refl

module _ (t : Tree) (table : CallTable) (h : ProcessState) (call : Call) (text : List ℕ) where
  abbrev perms : ℕ
  perms = (rule_of table call).perms

  abbrev further : Found → List Fact
  further object = facts_under Sole t h object perms []

  facts_as : (set : ℕ) (object : Found) → promising h (rule_of table call).alternatives ≡ Holds set →
      (call_trace t h call text).outcome ≡ Ok object →
      uncovered_fault Sole object perms (covering t h object) ≡ None →
      call_facts table t h call text ≡ Needs set ∷ map (Follows Sole) (call_trace t h call text).links ++ Names Sole object
      ∷ Under Sole (covering t h object) ∷ []
  facts_as set object p o u =
      (λ i. facts_promised (p i) (map (Follows Sole) (call_trace t h call text).links ++ facts_found Sole (o i) further))
      ∙ (λ i. needing set (map (Follows Sole) (call_trace t h call text).links ++ Names Sole object
      ∷ facts_covered Sole (covering t h object) (u i) []))
      ∙ needing_first Sole set (call_trace t h call text).links object (Under Sole (covering t h object) ∷ [])

-- what is told of a call without openings
record Plainly (t : Tree) (table : CallTable) (h : ProcessState) (call : Call) (text : List ℕ) : Type 0 where
  pub promises : ℕ
  pub object : Found
  pub told : call_facts table t h call text ≡ Needs promises ∷ map (Follows Sole) (call_trace t h call text).links ++ Names Sole object
      ∷ Under Sole (covering t h object) ∷ []
  pub held : promising h (rule_of table call).alternatives ≡ Holds promises
  pub named : (call_trace t h call text).outcome ≡ Ok object

plainly_told : (t : Tree) (table : CallTable) (h : ProcessState) (call : Call) (text : List ℕ) (change : Change) →
    call_by faults table t (faults_of h) call text ≡ Ok change → Plainly t table h call text
plainly_told t table h call text change e =
    by (promising h (rule_of table call).alternatives) refl (call_trace t h call text).outcome refl e
  where
    wrong : Found → Option Fault
    wrong object = option_map (Unfit Sole object) (misfit table.whose t call (object_of t object))

    by : (p : Promising) → promising h (rule_of table call).alternatives ≡ p → (o : Result Found PathFault) →
        (call_trace t h call text).outcome ≡ o →
        unless_refused (unpromised_fault p) (on_named (λ fault. fault)
        (told_path Sole text (outcome_in table.whose t (start h) text o)) λ object.
        unless_failed (λ fault. fault) (or_fault (uncovered_fault Sole object (rule_of table call).perms (covering t h object))
        (wrong object)) (Ok (change_by table call object))) ≡ Ok change →
        Plainly t table h call text
    by (Holds set) p (Ok object) o e = record {
      promises = set;
      object = object;
      told = facts_as t table h call text set object p o (first_none _ _ (none_failed _ _ change e));
      held = p;
      named = o;
    }
    by (Holds set) p (Err fault) o e = cc
    by HasEnded p o is e = cc
    by (Lacks error sets) p o is e = cc

-- what is told of a call that a promise opens
record Openly (t : Tree) (table : CallTable) (h : ProcessState) (call : Call) (text : List ℕ) (o : Opening) : Type 0 where
  pub object : Found
  pub told : opened_facts table t h call text o ≡ Opened (promise_of_row o) ∷ map (Follows Sole) (call_trace t h call text).links ++ Names Sole object
      ∷ facts_asked o.asks_veils (Under Sole (covering t h object) ∷ [])
  pub named : (call_trace t h call text).outcome ≡ Ok object

openly_told : (t : Tree) (table : CallTable) (h : ProcessState) (call : Call) (text : List ℕ) (o : Opening) (change : Change) →
    decide_by faults table t (asker_past (Some o) (faults_of h)) (OnPath call text) ≡ Ok change → Openly t table h call text o
openly_told t table h call text o change e = by (call_trace t h call text).outcome refl e
  where
    wrong : Found → Option Fault
    wrong object = option_map (Unfit Sole object) (misfit table.whose t call (object_of t object))

    asked : Found → Option Fault
    asked object = cover_past o.asks_veils (faults_of h).cover Sole t object (rule_of table call).perms

    under : (asks_veils : Bool) (object : Found) →
        cover_past asks_veils (faults_of h).cover Sole t object (rule_of table call).perms ≡ None →
        facts_asked asks_veils (facts_under Sole t h object (rule_of table call).perms [])
        ≡ facts_asked asks_veils (Under Sole (covering t h object) ∷ [])
    under true object none = λ i. facts_covered Sole (covering t h object) (none i) []
    under false object none = refl

    by : (r : Result Found PathFault) → (call_trace t h call text).outcome ≡ r →
        on_named (λ fault. fault) (told_path Sole text (outcome_in table.whose t (start h) text r)) (λ object.
        unless_failed (λ fault. fault) (or_fault (asked object) (wrong object)) (Ok (change_by table call object))) ≡ Ok change →
        Openly t table h call text o
    by (Ok object) is e = record {
      object = object;
      told = (λ i. Opened (promise_of_row o) ∷ map (Follows Sole) (call_trace t h call text).links
          ++ facts_found Sole (is i) (λ found. facts_asked o.asks_veils (facts_under Sole t h found (rule_of table call).perms [])))
          ∙ ap (λ more. Opened (promise_of_row o) ∷ map (Follows Sole) (call_trace t h call text).links ++ Names Sole object ∷ more)
          (under o.asks_veils object (first_none (asked object) (wrong object) (none_failed _ _ change e)));
      named = is;
    }
    by (Err fault) is e = cc

pub grants_are_told : GrantsAreTold
grants_are_told t table h call text change e = by (opening_of table h call text) refl e
  where
    by : (o : Option Opening) → opening_of table h call text ≡ o →
        decide_by faults table t (asker_past o (faults_of h)) (OnPath call text) ≡ Ok change → FactsBy t table h call text o
    by None is e = let plainly = plainly_told t table h call text change e in record {
      promises = plainly.promises;
      object = plainly.object;
      over = covering t h plainly.object;
      told = ap (facts_by table t h call text) is ∙ plainly.told;
      held = plainly.held;
      named = plainly.named;
      covered = refl;
    }
    by (Some o) is e = let openly = openly_told t table h call text o change e in record {
      object = openly.object;
      told = ap (facts_by table t h call text) is ∙ openly.told;
      named = openly.named;
    }

second_none : (a b : Option Fault) → or_fault a b ≡ None → b ≡ None
second_none None b e = e
second_none (Some fault) b e = cc

-- two paths
module _ (whose : Rules) (pair : PairRule) (t : Tree) (h : ProcessState) (end : Ending) (a b : List ℕ) where
  abbrev first : PathTrace
  first = name_trace pair.old t h end a

  abbrev second : PathTrace
  second = name_trace pair.new t h end b

  abbrev covers : Found → Found → List Fact
  covers old new = facts_under Old t h old pair.old.needs.perms (facts_under New t h new pair.new.needs.perms [])

  abbrev of_old : Found → Option Fault
  of_old old = uncovered_fault Old old pair.old.needs.perms (covering t h old)

  abbrev of_new : Found → Option Fault
  of_new new = uncovered_fault New new pair.new.needs.perms (covering t h new)

  abbrev both : Found → Found → Option Fault
  both old new = or_fault (of_old old) (of_new new)

  pair_as : (x y : ℕ) (old new : Found) → promising h pair.old.needs.alternatives ≡ Holds x →
      promising h pair.new.needs.alternatives ≡ Holds y → first.outcome ≡ Ok old → second.outcome ≡ Ok new →
      both old new ≡ None →
      pair_facts pair t h end a b ≡ Needs (bit_or x y) ∷ (map (Follows Old) first.links ++ Names Old old
      ∷ (map (Follows New) second.links ++ Names New new
      ∷ Under Old (covering t h old) ∷ Under New (covering t h new) ∷ []))
  pair_as x y old new po pn o n none =
      (λ i. facts_promised (po i) (facts_promised (pn i) (map (Follows Old) first.links ++ facts_found Old (o i) λ old. facts_named New
      second (covers old))))
      ∙ ap (needing x) (needing_first Old y first.links old (facts_named New second (covers old)))
      ∙ (λ i. Needs (bit_or x y)
      ∷ (map (Follows Old) first.links ++ Names Old old ∷ (map (Follows New) second.links ++ facts_found New (n i) (covers old))))
      ∙ (λ i. Needs (bit_or x y) ∷ (map (Follows Old) first.links ++ Names Old old ∷ (map (Follows New) second.links ++ Names New new
      ∷ facts_covered Old (covering t h old) (first_none (of_old old) (of_new new) none i)
      (facts_covered New (covering t h new) (second_none (of_old old) (of_new new) none i) []))))

  pair_told : (further : Found → Found → Outcome Fault) (change : Change) →
      pair_by faults whose pair t (faults_of h) end a b further ≡ Ok change → PairFactsOf pair t h end a b
  pair_told further change e =
      by (promising h pair.old.needs.alternatives) refl (promising h pair.new.needs.alternatives) refl first.outcome refl second.outcome
      refl e
    where
      by : (p : Promising) → promising h pair.old.needs.alternatives ≡ p → (q : Promising) → promising h pair.new.needs.alternatives ≡ q →
          (o : Result Found PathFault) → first.outcome ≡ o → (n : Result Found PathFault) → second.outcome ≡ n →
          unless_refused (unpromised_fault p)
          (unless_refused (unpromised_fault q) (on_named (λ fault. fault) (told_path Old a (outcome_in whose t (start h) a o)) λ old. on_named (λ fault. fault)
          (told_path New b (outcome_in whose t (start h) b n)) λ new.
          unless_failed (λ fault. fault) (both old new) (further old new))) ≡ Ok change → PairFactsOf pair t h end a b
      by (Holds x) p (Holds y) q (Ok old) o (Ok new) n e = record {
        old_promises = x;
        new_promises = y;
        old = old;
        new = new;
        told = pair_as x y old new p q o n (none_failed _ _ change e);
        held_old = p;
        held_new = q;
        named_old = o;
        named_new = n;
      }
      by (Holds x) p (Holds y) q (Ok old) o (Err fault) n e = cc
      by (Holds x) p (Holds y) q (Err fault) o second n e = cc
      by (Holds x) p HasEnded q first o second n e = cc
      by (Holds x) p (Lacks error sets) q first o second n e = cc
      by HasEnded p other q first o second n e = cc
      by (Lacks error sets) p other q first o second n e = cc

pub pairs_are_told : PairsAreTold
pairs_are_told = record {
  renames = λ t table h old new change e. pair_told table.whose table.rename t h ending.Dropped old new _ change e;
  links = λ t table h old new change e. pair_told table.whose table.link t h ending.Dot old new _ change e;
}
