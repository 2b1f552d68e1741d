-- What a fact tells of a veil is so, and is so since the line that is kept of it.
use Rattle.pua_since.proofs.Common.{◌≡◌, ℕ, Bool, true, false, List, [], ◌∷◌, ◌++◌, length, map, refl, sym, ap, subst, ◌∙◌, Option, Some}
use Rattle.pua_since.proofs.Common.{None, Result, Ok, Err, if◌then◌else◌, option_map_or, Tree, Spot, Ending, Found, PathFault, PathTrace}
use Rattle.pua_since.proofs.Common.{trace_of_text, CallTable, ProcessState, perms_kept, start, Call, Asked, World, kept_at, world_after}
use Rattle.pua_since.proofs.Common.{Action, OnPath, Symlink, Rename, Link, Pledge, Unveil, Lock, Fork, Exit, Uses, Hold, Close, Fchdir}
use Rattle.pua_since.proofs.Common.{Chroot, Take, Comment, Fact, facts_of}
use Rattle.pua_since.proofs.Common.{Fault}
use Rattle.pua_since.proofs.Common.{AreFactsAt, IsFactAt, fact_line, veil_told, AreWatched, kept_in, Watches}
use Rattle.std.specs.Prelude.{⊤}
use Rattle.std.specs.List.{AllByRecursion}
use Rattle.pua_path.specs.declared.text.Ending.TheVariants as ending
use Rattle.pua_path.specs.declared.found.Last.TheVariants.{Followed}
use Rattle.pua_calls.specs.Promises.{id, proc, recvfd, unveil}
use Rattle.pua_calls.specs.Calls.{PairRule, rule_of}
use Rattle.pua_policy.specs.States.{is_locked}
use Rattle.pua_policy.specs.Reasons.{Promising, Holds, HasEnded, Lacks, promising, covering}
use Rattle.pua_policy.specs.ReasonLaws.{CoveringHolds}
use Rattle.pua_calls.specs.declared.call.Call.TheVariants as call
use Rattle.pua_policy.specs.declared.reason.Covering.{Covering}
use Rattle.pua_policy.specs.declared.reason.Covering.TheVariants.{InView, NoneOver, By}
use Rattle.pua_policy.proofs.ForCallers.{coverings_hold}
use Rattle.pua_script.specs.Decide.{Side, Sole, Old, New}
use Rattle.pua_why.specs.Facts.{Opened, Needs, Follows, Names, Under, needing, facts_promised, facts_found, facts_named, facts_covered}
use Rattle.pua_why.specs.Facts.{facts_under, call_trace, call_facts, name_trace, names_facts, pair_facts, facts, facts_asked, facts_by}
use Rattle.pua_script.specs.Openings.{Opening, opening_of}
use Rattle.pua_why.specs.Reasons.{uncovered_fault}
use Rattle.pua_why.specs.Texts.{veil_since}
use Rattle.pua_since.specs.Dates.{letters_date}
use Rattle.pua_since.proofs.Veiled.{veil_at}

abbrev CoverKept : ProcessState → Covering → Type 0
CoverKept h (By place given) = perms_kept h place ≡ Some given
CoverKept h _ = ⊤

-- the veil that a fact tells is kept
abbrev FactKept : ProcessState → Fact → Type 0
FactKept h (Under side over) = CoverKept h over
FactKept h _ = ⊤

abbrev AreKept : ProcessState → List Fact → Type 0
AreKept h told = AllByRecursion (FactKept h) told

cover_kept : (t : Tree) (h : ProcessState) (object : Found) → CoverKept h (covering t h object)
cover_kept t h object = by (covering t h object) (coverings_hold t h object).1
  where
    by : (over : Covering) → CoveringHolds t h object over → CoverKept h over
    by InView holds = tt
    by NoneOver holds = tt
    by (By place given) holds = holds.kept_here

module _ (h : ProcessState) where
  needing_kept : (set : ℕ) (more : List Fact) → AreKept h more → AreKept h (needing set more)
  needing_kept set [] are = (tt, tt)
  needing_kept set (Opened promise ∷ more) are = (tt, are)
  needing_kept set (Needs other ∷ more) are = (tt, are.1)
  needing_kept set (Follows side spot ∷ more) are = (tt, are)
  needing_kept set (Names side object ∷ more) are = (tt, are)
  needing_kept set (Under side over ∷ more) are = (tt, are)

  promised_kept : (p : Promising) (more : List Fact) → AreKept h more → AreKept h (facts_promised p more)
  promised_kept (Holds set) more are = needing_kept set more are
  promised_kept HasEnded more are = tt
  promised_kept (Lacks error sets) more are = tt

  links_kept : (side : Side) (links : List Spot) (more : List Fact) → AreKept h more → AreKept h (map (Follows side) links ++ more)
  links_kept side [] more are = are
  links_kept side (spot ∷ links) more are = (tt, links_kept side links more are)

  found_kept : (side : Side) (outcome : Result Found PathFault) (more : Found → List Fact) → ((object : Found) → AreKept h (more object)) →
      AreKept h (facts_found side outcome more)
  found_kept side (Ok object) more are = (tt, are object)
  found_kept side (Err fault) more are = tt

  named_kept : (side : Side) (trace : PathTrace) (more : Found → List Fact) → ((object : Found) → AreKept h (more object)) →
      AreKept h (facts_named side trace more)
  named_kept side trace more are =
      links_kept side trace.links (facts_found side trace.outcome more) (found_kept side trace.outcome more are)

  covered_kept : (side : Side) (over : Covering) (fault : Option Fault) (more : List Fact) → CoverKept h over → AreKept h more →
      AreKept h (facts_covered side over fault more)
  covered_kept side over None more cover are = (cover, are)
  covered_kept side over (Some fault) more cover are = tt

  under_kept : (side : Side) (t : Tree) (object : Found) (perms : ℕ) (more : List Fact) → AreKept h more →
      AreKept h (facts_under side t h object perms more)
  under_kept side t object perms more are =
      covered_kept side (covering t h object) (uncovered_fault side object perms (covering t h object)) more (cover_kept t h object) are

  call_kept : (table : CallTable) (t : Tree) (call : Call) (path : List ℕ) → AreKept h (call_facts table t h call path)
  call_kept table t call path =
      promised_kept (promising h (rule_of table call).alternatives) _
      (named_kept Sole (call_trace t h call path) (λ object. facts_under Sole t h object (rule_of table call).perms []) λ object. under_kept
      Sole t object (rule_of table call).perms [] tt)

  -- a call that a promise may open
  under_if : (asks_veils : Bool) (t : Tree) (object : Found) (perms : ℕ) → AreKept h (facts_asked asks_veils (facts_under Sole t h object perms []))
  under_if true t object perms = under_kept Sole t object perms [] tt
  under_if false t object perms = tt

  asked_kept : (table : CallTable) (t : Tree) (call : Call) (path : List ℕ) (o : Option Opening) → AreKept h (facts_by table t h call path o)
  asked_kept table t call path None = call_kept table t call path
  asked_kept table t call path (Some o) = (
    tt,
    named_kept Sole (call_trace t h call path) (λ object. facts_asked o.asks_veils (facts_under Sole t h
        object (rule_of table call).perms [])) λ object. under_if o.asks_veils t object (rule_of table call).perms,
  )

  pair_kept : (pair : PairRule) (t : Tree) (ending : Ending) (old_path new_path : List ℕ) →
      AreKept h (pair_facts pair t h ending old_path new_path)
  pair_kept pair t ending old_path new_path =
      promised_kept (promising h pair.old.needs.alternatives) _ (promised_kept (promising h pair.new.needs.alternatives)
      (names_facts pair t h ending old_path new_path)
      (named_kept Old (name_trace pair.old t h ending old_path) _ λ old.
      named_kept New (name_trace pair.new t h ending new_path) (λ new. facts_under Old t h old pair.old.needs.perms
      (facts_under New t h new pair.new.needs.perms [])) λ new.
      under_kept Old t old pair.old.needs.perms (facts_under New t h new pair.new.needs.perms [])
      (under_kept New t new pair.new.needs.perms [] tt)))

  unveil_kept : (t : Tree) (path : List ℕ) (locked : Bool) →
      AreKept h (if locked then [] else facts_named Sole (trace_of_text t (start h) ending.Dot path Followed) (λ object. []))
  unveil_kept t path true = tt
  unveil_kept t path false = named_kept Sole (trace_of_text t (start h) ending.Dot path Followed) (λ object. []) (λ object. tt)

  facts_kept : (table : CallTable) (t : Tree) (action : Action) → AreKept h (facts table t h action)
  facts_kept table t (OnPath call path) = asked_kept table t call path (opening_of table h call path)
  facts_kept table t (Symlink target path) = call_kept table t call.Symlink path
  facts_kept table t (Rename old new) = pair_kept table.rename t ending.Dropped old new
  facts_kept table t (Link old new) = pair_kept table.link t ending.Dot old new
  facts_kept table t (Pledge promises execpromises) = tt
  facts_kept table t (Unveil path perms) = promised_kept (promising h (unveil ∷ [])) _ (unveil_kept t path (is_locked h))
  facts_kept table t Lock = promised_kept (promising h (unveil ∷ [])) [] tt
  facts_kept table t (Fork new) = promised_kept (promising h (proc ∷ [])) [] tt
  facts_kept table t Exit = tt
  facts_kept table t (Uses sets) = promised_kept (promising h sets) [] tt
  facts_kept table t (Hold number call path) = asked_kept table t call path (opening_of table h call path)
  facts_kept table t (Close number) = tt
  facts_kept table t (Fchdir number) = tt
  facts_kept table t (Chroot path) = promised_kept (promising h (id ∷ [])) _
      (named_kept Sole (call_trace t h call.Chdir path) (λ object. facts_under Sole t h object (rule_of table call.Chdir).perms [])
      (λ object. under_kept Sole t object (rule_of table call.Chdir).perms [] tt))
  facts_kept table t (Take number from theirs) = promised_kept (promising h (recvfd ∷ [])) [] tt
  facts_kept table t Comment = tt

module _ (table : CallTable) (w : World) (done : List Asked) (s : Watches) (watched : AreWatched table w done [] s) (ask : Asked)
    (h : ProcessState) (made : kept_at (world_after table w done) ask.process ≡ Some h) where
  fact_at : (fact : Fact) (place : Option ℕ) → FactKept h fact → IsFactAt s.watches.items ask.process (length done) (veil_told fact) place →
      fact_line s.watches.items place ≡ veil_since table w done ask fact
  fact_at (Opened promise) None holds at = refl
  fact_at (Opened promise) (Some place) holds at = absurd at
  fact_at (Needs set) None holds at = refl
  fact_at (Needs set) (Some place) holds at = absurd at
  fact_at (Follows side spot) None holds at = refl
  fact_at (Follows side spot) (Some place) holds at = absurd at
  fact_at (Names side object) None holds at = refl
  fact_at (Names side object) (Some place) holds at = absurd at
  fact_at (Under side InView) None holds at = refl
  fact_at (Under side InView) (Some place) holds at = absurd at
  fact_at (Under side NoneOver) None holds at = refl
  fact_at (Under side NoneOver) (Some place) holds at = absurd at
  fact_at (Under side (By veil given)) None holds at = absurd at
  fact_at (Under side (By veil given)) (Some place) holds at =
      let keeps : kept_in (world_after table w done) ask.process veil ≡ Some given =
      ap (λ o. option_map_or (λ (h : ProcessState). perms_kept h veil) o None) made ∙ holds in
      veil_at table w done s watched place ask.process veil at ∙ ap (letters_date table w done ask.process veil) keeps

  told_at : (told : List Fact) (places : List (Option ℕ)) → AreKept h told →
      AreFactsAt s.watches.items ask.process (length done) told places →
      map (fact_line s.watches.items) places ≡ map (veil_since table w done ask) told
  told_at [] [] holds at = refl
  told_at [] (place ∷ places) holds at = absurd at
  told_at (fact ∷ told) [] holds at = absurd at
  told_at (fact ∷ told) (place ∷ places) holds at = λ i. fact_at fact place holds.0 at.0 i ∷ told_at told places holds.1 at.1 i

-- the veils of a request's facts are so since the lines that are kept of them
pub facts_at : (table : CallTable) (w : World) (done : List Asked) (s : Watches) → AreWatched table w done [] s →
    (ask : Asked) (told : List Fact) (places : List (Option ℕ)) → told ≡ facts_of table (world_after table w done) ask
    → AreFactsAt s.watches.items ask.process (length done) told places →
    map (fact_line s.watches.items) places ≡ map (veil_since table w done ask) told
facts_at table w done s watched ask told places are at = by (kept_at (world_after table w done) ask.process) refl
  where
    none : (told : List Fact) (places : List (Option ℕ)) → told ≡ [] → AreFactsAt s.watches.items ask.process (length done) told places →
        map (fact_line s.watches.items) places ≡ map (veil_since table w done ask) told
    none [] [] e at = refl
    none [] (place ∷ places) e at = absurd at
    none (fact ∷ told) places e at = cc

    by : (o : Option ProcessState) → kept_at (world_after table w done) ask.process ≡ o →
        map (fact_line s.watches.items) places ≡ map (veil_since table w done ask) told
    by None made = none told places (are ∙ rw made refl) at
    by (Some h) made =
        let same : facts table (world_after table w done).tree h ask.action ≡ told = sym (are ∙ rw made refl) in
        told_at table w done s watched ask h made told places
        (subst (AreKept h) same (facts_kept h table (world_after table w done).tree ask.action)) at
