-- What no line has never comes, and what has a way has a line.
use Rattle.std.proofs.Common.{◌≡◌, ℕ, true, false, Bool, List, [], ◌∷◌, ◌++◌, refl, sym, ap, subst, ◌∙◌, cond, Some}
use Rattle.std.proofs.lemmas.Bool.{and_from, eq-eqb, false≢true, or_right}
use Rattle.std.specs.Prelude.{◌&&◌, ◌||◌, ◌==◌, not, Ok, Result}
use Rattle.std.specs.List.{AllByRecursion, Contains}
use Rattle.pua_tree.specs.Tree.{Tree, WellFormed}
use Rattle.pua_path.specs.Resolution.{resolution_of_text}
use Rattle.pua_path.specs.declared.errno.Errno.{Errno}
use Rattle.pua_path.specs.declared.found.Found.{Found}
use Rattle.pua_calls.specs.Calls.{CallTable, ending_of, last_of}
use Rattle.pua_calls.specs.TmpTable.{tmp_table}
use Rattle.pua_calls.specs.declared.call.Call.{Call}
use Rattle.pua_policy.specs.States.{ProcessState, perms_kept, start}
use Rattle.pua_policy.specs.Verdict.{verdict, verdict_of}
use Rattle.pua_policy.specs.Verdict.{object_named}
use Rattle.pua_policy.specs.declared.answer.Verdict.TheVariants.{Allowed}
use Rattle.pua_script.specs.Requests.{Asked}
use Rattle.pua_script.specs.Replay.{World, apply, world_after}
use Rattle.pua_script.specs.Family.{family, family_then, none_done, members_alone, is_done, is_member, is_exec, is_okay, with_child, HasKept}
use Rattle.pua_script.specs.Tightening.{EndsWithin}
use Rattle.pua_script.specs.declared.request.Action.{Action}
use Rattle.pua_script.specs.declared.request.Action.TheVariants.{OnPath, Symlink, Rename, Link, Pledge, Unveil, Lock, Fork, Exit, Uses, Hold, Close, Fchdir, Take, Comment}
use Rattle.pua_script.proofs.ForCallers.{families_narrow, first_tree}
use Rattle.pua_ever.specs.Laws.{EverComplete, Foresees, ForeseesIn, IsForeseen, IsForeseenIn}
use Rattle.pua_ever.specs.Through.{EverLasts, ever_lasting}
use Rattle.pua_ever.proofs.ForCallers.{beside_one}
use Rattle.pua_how.specs.Targets.{IsGiven, is_listed, is_of}
use Rattle.pua_how.specs.declared.target.Target.{Target}
use Rattle.pua_ever.specs.EnclosedForEver.{EverShownLasts}
use Rattle.pua_ever.specs.ShownForEver.{shown_lasting}
use Rattle.pua_how.specs.Laws.{NeverComes, NeverComesShown, NeverComesThrough, WaysAreListed}
use Rattle.pua_how.proofs.LineOfTarget.{line_about, listed_by, same_veils_same}
use Rattle.pua_how.proofs.Lived.{LivesThing, lasting_lives, listed_lives, shown_lives}
use Rattle.pua_ever.specs.Ever.{EverLine, ever}
use Rattle.pua_path.specs.declared.found.Start.{Start}
use Rattle.pua_script.specs.declared.request.Action.TheVariants.{Chroot}

same_ok : (a b : Found) → ◌≡◌ {A = Result Found Errno} (Ok a) (Ok b) → a ≡ b
same_ok a b e = cc

same_some : {A : Type 0} (a b : A) → Some a ≡ Some b → a ≡ b
same_some a b e = cc

-- what no line has is not allowed on a path on which what is allowed has its line
pub unforeseen_by : (lines : List EverLine) (t u : Tree) (table : CallTable) (now last : ProcessState) → WellFormed t →
    ((line : EverLine) → Contains lines line → LivesThing t line.thing) →
    (asked : Target) (call : Call) → IsGiven t asked → is_listed lines asked call ≡ false → (from : Start) (text : List ℕ) →
    (let named = resolution_of_text u from (ending_of call) text (last_of call) in
    verdict_of u table last call named ≡ Allowed → IsForeseenIn lines t now u call named) →
    (object : Found) → resolution_of_text u from (ending_of call) text (last_of call) ≡ Ok object →
    is_of u now asked object ≡ true → verdict u table last call object ≡ Allowed → ⊥
unforeseen_by lines t u table now last well live asked call given unlisted from text foresees object named same allowed =
    let foreseen : IsForeseenIn lines t now u call (resolution_of_text u from (ending_of call) text (last_of call)) =
    foresees (ap (verdict_of u table last call) named ∙ allowed) in
    let is : foreseen.object ≡ object = same_ok foreseen.object object (sym foreseen.names ∙ named) in
    false≢true (sym unlisted ∙ listed_by lines asked call foreseen.line foreseen.listed
    (line_about t u now well asked given foreseen.line.thing (live foreseen.line foreseen.listed)
    foreseen.object foreseen.about (ap (is_of u now asked) is ∙ same)) foreseen.allows)

-- nor on any where all have
unforeseen : (lines : List EverLine) (t u : Tree) (table : CallTable) (now last : ProcessState) → WellFormed t →
    ((line : EverLine) → Contains lines line → LivesThing t line.thing) → ForeseesIn lines t table now u last →
    (asked : Target) (call : Call) → IsGiven t asked → is_listed lines asked call ≡ false →
    (from : Start) (text : List ℕ) (object : Found) → resolution_of_text u from (ending_of call) text (last_of call) ≡ Ok object →
    is_of u now asked object ≡ true → verdict u table last call object ≡ Allowed → ⊥
unforeseen lines t u table now last well live foresees asked call given unlisted from text =
    unforeseen_by lines t u table now last well live asked call given unlisted from text (foresees from call text)

pub never_comes : NeverComes
never_comes table sound needs w asks process now here confined stand trees none edit asked call given unlisted member belongs =
    let tmp = tmp_table table in
    let last = beside_one table sound needs w asks process now here confined stand trees none edit member belongs in
    let well = first_tree table w asks trees in (
      last.0,
      last.1,
      unforeseen (ever w.tree tmp now) w.tree (world_after table w asks).tree tmp now last.0 well (listed_lives w.tree now well tmp)
          last.2 asked call given unlisted,
    )

pub never_comes_through : EverLasts → NeverComesThrough
never_comes_through lasts table sound needs w asks process now bound here bounded stand trees edit asked call given unlisted member belongs =
    let tmp = tmp_table table in
    let last = lasts table sound needs w asks process now bound here bounded stand trees edit member belongs in
    let well = first_tree table w asks trees in (
      last.0,
      last.1,
      unforeseen (ever_lasting w.tree tmp now) w.tree (world_after table w asks).tree tmp now last.0 well
          (lasting_lives w.tree tmp now well) last.2 asked call given unlisted,
    )

pub never_comes_shown : EverShownLasts → NeverComesShown
never_comes_shown lasts table sound needs w asks process now here confined stand trees held edit asked call given unlisted member belongs =
    let tmp = tmp_table table in
    let last = lasts table sound needs w asks process now here confined stand trees held edit member belongs in
    let well = first_tree table w asks trees in (
      last.0,
      last.1,
      (
        last.2.starts,
        λ from within text. unforeseen_by (shown_lasting w.tree tmp now) w.tree (world_after table w asks).tree tmp now last.0 well
            (shown_lives w.tree tmp now well) asked call given unlisted from text (last.2.foresees from within call text),
      ),
    )

-- requests of one process alone are of its family, and do what it does
module _ (table : CallTable) (process : ℕ) where
  child_more : (action : Action) (members : List ℕ) → is_member members process ≡ true → is_member (with_child action members) process ≡ true
  child_more (Fork new) members e = or_right (new == process) (is_member members process) e
  child_more (OnPath call path) members e = e
  child_more (Symlink target path) members e = e
  child_more (Rename old new) members e = e
  child_more (Link old new) members e = e
  child_more (Pledge promises execpromises) members e = e
  child_more (Unveil path perms) members e = e
  child_more Lock members e = e
  child_more Exit members e = e
  child_more (Uses sets) members e = e
  child_more (Hold number call path) members e = e
  child_more (Close number) members e = e
  child_more (Fchdir number) members e = e
  child_more (Chroot path) members e = e
  child_more (Take number from theirs) members e = e
  child_more Comment members e = e

  then_member : (w : World) (ask : Asked) (members : List ℕ) → is_member members process ≡ true →
      is_member (family_then table w ask members) process ≡ true
  then_member w ask members e = by (is_member members ask.process && is_okay (apply table w ask).0)
    where
      by : (b : Bool) → is_member (cond b (with_child ask.action members) members) process ≡ true
      by true = child_more ask.action members e
      by false = e

  own_alone : (asks : List Asked) (w : World) (members : List ℕ) → is_member members process ≡ true →
      AllByRecursion (λ ask. ask.process ≡ process) asks → members_alone table w asks members ≡ true
  own_alone [] w members e own = refl
  own_alone (ask ∷ asks) w members e own =
      and_from (is_member members ask.process) _ (ap (is_member members) own.0 ∙ e)
      (own_alone asks (apply table w ask).1 (family_then table w ask members) (then_member w ask members e) own.1)

  own_quiet : (asks : List Asked) (w : World) (members : List ℕ) → AllByRecursion (λ ask. is_exec ask.action ≡ false) asks →
      none_done is_exec table w asks members ≡ true
  own_quiet [] w members quiet = refl
  own_quiet (ask ∷ asks) w members quiet =
      and_from (not (is_done is_exec table w ask members)) _ (none (is_member members ask.process) (is_exec ask.action) _ quiet.0)
      (own_quiet asks (apply table w ask).1 (family_then table w ask members) quiet.1)
    where
      none : (a b c : Bool) → b ≡ false → not (a && (b && c)) ≡ true
      none true b c e = ap (λ x. not (x && c)) e
      none false b c e = refl

  own_member : (asks : List Asked) (w : World) (members : List ℕ) → is_member members process ≡ true →
      is_member (family table w asks members) process ≡ true
  own_member [] w members e = e
  own_member (ask ∷ asks) w members e =
      own_member asks (apply table w ask).1 (family_then table w ask members) (then_member w ask members e)

all_front : {A : Type 0} (P : A → Type 0) (xs ys : List A) → AllByRecursion P (xs ++ ys) → AllByRecursion P xs
all_front P [] ys all = tt
all_front P (x ∷ xs) ys all = (all.0, all_front P xs ys all.1)

last_of_all : {A : Type 0} (P : A → Type 0) (xs : List A) (x : A) → AllByRecursion P (xs ++ x ∷ []) → P x
last_of_all P [] x all = all.0
last_of_all P (y ∷ xs) x all = last_of_all P xs x all.1

pub ways_are_listed : EverComplete → WaysAreListed
ways_are_listed complete table sound needs w process now here confined stand asked call given asks way trees =
    let tmp = tmp_table table in
    let own = subst (AllByRecursion (λ ask. ask.process ≡ process)) way.parts way.own in
    let front = all_front (λ ask. ask.process ≡ process) way.first (way.last ∷ []) own in
    let whose : way.last.process ≡ process = last_of_all (λ ask. ask.process ≡ process) way.first way.last own in
    let alone = own_alone table process way.first w (process ∷ []) begins front in
    let none = own_quiet table process way.first w (process ∷ []) way.quiet in
    let belongs = own_member table process way.first w (process ∷ []) begins in
    let before = world_after table w way.first in
    let last = complete table sound needs w way.first process now here confined stand trees none alone process belongs in
    let narrow : HasKept before process (EndsWithin table w way.first process now) =
    families_narrow table w way.first process now here confined none process belongs in
    let h = way.reaches.now in
    let last_is : last.0 ≡ h = same_some last.0 h (sym last.1 ∙ way.reaches.kept) in
    let narrow_is : narrow.0 ≡ h = same_some narrow.0 h (sym narrow.1 ∙ way.reaches.kept) in
    let foresees : Foresees w.tree tmp now before.tree h = subst (Foresees w.tree tmp now before.tree) last_is last.2 in
    let foreseen : IsForeseen w.tree tmp now before.tree call (object_named before.tree h call way.text) =
    foresees (start h) call way.text (ap (verdict_of before.tree tmp h call) way.reaches.named ∙ way.reaches.allowed) in
    let is : foreseen.object ≡ way.reaches.object =
    same_ok foreseen.object way.reaches.object (sym foreseen.names ∙ way.reaches.named) in
    let well = first_tree table w way.first trees in
    listed_by (ever w.tree tmp now) asked call foreseen.line foreseen.listed
    (line_about w.tree before.tree now well asked given foreseen.line.thing (listed_lives w.tree now well tmp foreseen.line foreseen.listed)
    foreseen.object foreseen.about
    (ap (is_of before.tree now asked) is
    ∙ sym (same_veils_same before.tree h now (λ at. subst (λ g. perms_kept g at ≡ perms_kept now at) narrow_is (narrow.2.tightens.unveils.kept at))
    asked way.reaches.object)
    ∙ way.reaches.asked))
    foreseen.allows
  where
    begins : is_member (process ∷ []) process ≡ true
    begins = ap (λ b. b || false) (eq-eqb process process refl)
