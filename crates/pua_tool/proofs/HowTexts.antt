-- The text of a way, step by step.
use Rattle.pua_tool.proofs.Common.{◌≡◌, ◌≢◌, ℕ, List, [], ◌∷◌, ◌∙◌, map, refl, sym, subst, ap, Result, ◌>>=◌, Option, Some, None, Ok, Err}
use Rattle.pua_tool.proofs.Common.{ProcessState, Tree, CallTable, kept_at, as_replayed, Chosen, Replayed, replay_of, ToolFault, OutOfMemory, NoText}
use Rattle.pua_tool.proofs.Common.{with_end, arith, AnswersTo}
use Rattle.pua_tool.proofs.Common.{flat_map}
use Rattle.std.proofs.Common.{Bool, false, true, length}
use Rattle.std.proofs.lemmas.Bool.{false≢true}
use Rattle.std.specs.Prelude.{string_bytes, ok_or, IfErr, IfOk}
use Rattle.std.specs.List.{AllByRecursion, Contains}
use Rattle.pua_tree.proofs.ForCallers.{same_Ok}
use Rattle.pua_calls.specs.Calls.{call_in}
use Rattle.pua_calls.specs.TmpTable.{tmp_table}
use Rattle.pua_calls.specs.declared.call.Call.{Call}
use Rattle.pua_calls.specs.declared.rules.Rules.{Rules}
use Rattle.pua_ever.specs.Refusals.{refusal}
use Rattle.pua_ever.specs.declared.refusal.EverRefusal.{EverRefusal}
use Rattle.pua_script.specs.Scripts.{request_by}
use Rattle.pua_how.specs.PathQuestion.{PathQuestion, path_question, targets_of}
use Rattle.pua_how.specs.Outlooks.{IsOutlook}
use Rattle.pua_how.specs.Served.{AreWay, IsLine, asks_of}
use Rattle.pua_how.specs.Steps.{NoneComes, nothing_laid}
use Rattle.pua_how.proofs.ForCallers.{nothing_comes}
use Rattle.pua_how.specs.declared.line.WayLine.{WayLine}
use Rattle.pua_how.specs.declared.target.Target.{Target}
use Rattle.pua_how.specs.declared.way.NoWay.{NoWay}
use Rattle.pua_tool.specs.EverTexts.{ever_fault}
use Rattle.pua_tool.specs.HowTexts.{HowWanted, IsFoundFor, IsHowAfter, IsHowAsked, IsHowText, IsWayTo, HowQuestion, follows_link, question_of}
use Rattle.pua_tool.specs.HowTexts.{some_thing, things_asked, told_without, way_text}
use Rattle.pua_tool.specs.Questions.{AreMeant, AreWayTo, IsQuestion, found_text}
use Rattle.pua_tool.specs.declared.fault.ToolFault.TheVariants.{NoProcess, HowCall, HowPath, HowThing}
use Rattle.pua_tool.specs.declared.how.HowQuestion as given
use Rattle.pua_tool.specs.declared.script.Replay.{Replay}
use Rattle.pua_tool.proofs.TextAnswers.{some_refused}

-- ---- what may be meant

module _ (t : Tree) (h : ProcessState) (wanted : HowWanted) (last : ℕ) where
  abbrev of_asking : Option PathQuestion → Result (List Target) ToolFault
  of_asking asking = ok_or asking HowPath >>= λ asking. some_thing (targets_of t h last asking wanted.kind)

  pub bad_path : path_question wanted.path ≡ None → things_asked t h wanted last ≡ Err HowPath
  bad_path unread = ap of_asking unread

  module _ (asking : PathQuestion) (things : List Target) (read : path_question wanted.path ≡ Some asking)
      (are : things ≡ targets_of t h last asking wanted.kind) where
    pub none_meant : length things ≡ 0 → things_asked t h wanted last ≡ Err HowThing
    none_meant none = ap of_asking read ∙ ap some_thing (sym are) ∙ by things none
      where
        by : (things : List Target) → length things ≡ 0 → some_thing things ≡ Err HowThing
        by [] none = refl
        by (thing ∷ more) none = absurd (omega (arith, none))

    pub some_meant : length things ≢ 0 → things_asked t h wanted last ≡ Ok things
    some_meant some = ap of_asking read ∙ ap some_thing (sym are) ∙ by things some
      where
        by : (things : List Target) → length things ≢ 0 → some_thing things ≡ Ok things
        by [] some = absurd (some refl)
        by (thing ∷ more) some = refl

module _ (done : Replayed) (wanted : HowWanted) (last : ℕ) where
  pub question_made : (h : ProcessState) (call : Call) (things : List Target) → kept_at done.world wanted.process ≡ Some h →
      refusal done.table h ≡ None → call_in done.table wanted.call ≡ Some call → things_asked done.world.tree h wanted last ≡ Ok things →
      follows_link done.world.tree call things ≡ false →
      question_of done wanted last ≡ Ok (record { process = h; call = call; things = things })
  question_made h call things here none read asked kept = rw here (rw none (rw read (rw asked (rw kept refl))))

  -- ---- the first fault

  pub no_process : kept_at done.world wanted.process ≡ None → question_of done wanted last ≡ Err NoProcess
  no_process here = rw here refl

  pub no_list : (h : ProcessState) (reason : EverRefusal) → kept_at done.world wanted.process ≡ Some h → refusal done.table h ≡ Some reason →
      question_of done wanted last ≡ Err (ever_fault wanted.process reason)
  no_list h reason here some = rw here (rw some refl)

  pub no_call : (h : ProcessState) → kept_at done.world wanted.process ≡ Some h → refusal done.table h ≡ None → call_in done.table wanted.call ≡ None →
      question_of done wanted last ≡ Err HowCall
  no_call h here none unread = rw here (rw none (rw unread refl))

  pub no_thing : (h : ProcessState) (call : Call) (fault : ToolFault) → kept_at done.world wanted.process ≡ Some h →
      refusal done.table h ≡ None → call_in done.table wanted.call ≡ Some call → things_asked done.world.tree h wanted last ≡ Err fault →
      question_of done wanted last ≡ Err fault
  no_thing h call fault here none read asked = rw here (rw none (rw read (rw asked refl)))

  pub fault_asked : (rules : Rules) (fault : ToolFault) → question_of done wanted last ≡ Err fault → IsHowAsked rules done wanted (Err fault)
  fault_asked rules fault refused = record {
    last = last;
    found = None;
    sound = λ q is may. (nothing_laid, nothing_comes rules done.table wanted.process q.call q.things done.world);
    is = sym (ap (λ (r : Result HowQuestion ToolFault). r >>= λ q. Ok (way_text done q None)) refused);
  }

-- ---- behind the replay

module _ (choice : Chosen) (tree_bytes script_bytes : List ℕ) (wanted : HowWanted) where
  pub after_done : (done : Replayed) (answer : Result (List ℕ) ToolFault) → replay_of choice tree_bytes script_bytes ≡ Ok done →
      IsHowAsked choice.rules done wanted answer → IsHowText choice tree_bytes script_bytes wanted answer
  unfolding IsHowText
  after_done done answer is asked = subst (λ (r : Result Replayed ToolFault). IsHowAfter choice.rules r wanted answer) (sym is) asked

  pub after_refused : (fault : ToolFault) → replay_of choice tree_bytes script_bytes ≡ Err fault →
      IsHowText choice tree_bytes script_bytes wanted (Err fault)
  unfolding IsHowText
  after_refused fault is = subst (λ (r : Result Replayed ToolFault). IsHowAfter choice.rules r wanted (Err fault)) (sym is) refl

  -- some answer is one
  pub some_answer : (answer : Result (List ℕ) ToolFault) × IsHowText choice tree_bytes script_bytes wanted answer
  unfolding IsHowText
  some_answer = by (replay_of choice tree_bytes script_bytes)
    where
      by : (r : Result Replayed ToolFault) → (answer : Result (List ℕ) ToolFault) × IsHowAfter choice.rules r wanted answer
      by (Ok done) = (
        question_of done wanted 0 >>= λ q. Ok (way_text done q None),
        record {
          last = 0;
          found = None;
          sound = λ q is may. (nothing_laid, nothing_comes choice.rules done.table wanted.process q.call q.things done.world);
          is = refl;
        },
      )
      by (Err fault) = (Err fault, refl)

-- ---- the lines of a way

read_all : (rules : Rules) (process : ℕ) (lines : List WayLine) → AllByRecursion (IsLine rules process) lines →
    map (request_by rules 1) (map (λ line. string_bytes line.text) lines) ≡ map Ok (asks_of lines)
read_all rules process [] all = refl
read_all rules process (line ∷ lines) all = λ i. all.0.read i ∷ read_all rules process lines all.1 i

module _ (rules : Rules) (done : Replayed) (wanted : HowWanted) (q : given.HowQuestion) (is : IsQuestion done wanted q) where
  abbrev there : HowQuestion
  there = record { process = is.process; call = q.call; things = q.meant.targets.items }

  way_for : (lines : List WayLine) → AreWayTo rules done wanted.process q lines →
      IsWayTo rules done wanted.process is.last there (map (λ line. string_bytes line.text) lines)
  way_for lines to = record {
    above = is.above;
    thing = to.thing;
    meant = to.meant;
    asks = asks_of lines;
    read = read_all rules wanted.process lines to.are;
    way = to.way;
  }

  abbrev text_with : Option (List (List ℕ)) → List ℕ
  text_with (Some lines) = flat_map with_end lines
  text_with None = with_end (told_without q.outlook.listed q.outlook.execs)

  text_is : (texts : Option (List (List ℕ))) → text_with texts ≡ way_text done there texts
  text_is None = λ i. with_end (told_without (is.outlook.listed i) (is.outlook.execs i))
  text_is (Some texts) = refl

  told_asked : (texts : Option (List (List ℕ))) → IsFoundFor rules done wanted.process is.last there texts →
      (bytes : List ℕ) → bytes ≡ text_with texts → IsHowAsked rules done wanted (Ok bytes)
  told_asked texts found bytes told = record {
    last = is.last;
    found = texts;
    sound = λ other asked.
        subst (λ (x : HowQuestion). IsFoundFor rules done wanted.process is.last x texts) (same_Ok there other (sym is.asked ∙ asked)) found;
    is =
        ap Ok (told ∙ text_is texts)
        ∙ sym (ap (λ (r : Result HowQuestion ToolFault). r >>= λ x. Ok (way_text done x texts)) is.asked);
  }

  -- where no line has the call, none is looked for
  pub never_asked : q.outlook.listed ≡ false → (bytes : List ℕ) → bytes ≡ with_end (told_without false q.outlook.execs) →
      IsHowAsked rules done wanted (Ok bytes)
  never_asked unlisted bytes told =
      told_asked None (λ may. absurd (false≢true (sym unlisted ∙ is.outlook.listed ∙ may))) bytes
      (told ∙ ap (λ (b : Bool). with_end (told_without b q.outlook.execs)) (sym unlisted))

  -- else there is a way, or none of the plans comes to one
  module _ {V : Type 0} (items : V → List WayLine) where
    pub found_asked : (found : Result V NoWay) → IfOk found (λ v. AreWayTo rules done wanted.process q (items v)) →
        IfErr found (NoneComes rules done.table wanted.process q.call q.meant.targets.items done.world) → q.outlook.listed ≡ true →
        (bytes : List ℕ) → bytes ≡ found_text items found → IsHowAsked rules done wanted (Ok bytes)
    found_asked (Ok v) way none listed bytes told =
        told_asked (Some (map (λ line. string_bytes line.text) (items v))) (way_for (items v) way) bytes told
    found_asked (Err plans) way none listed bytes told =
        told_asked None (λ may. (plans, none)) bytes
        (told ∙ ap (λ (b : Bool). with_end (told_without b q.outlook.execs)) (sym listed))

-- ---- what the code keeps of a question

module _ (done : Replayed) (wanted : HowWanted) (q : given.HowQuestion) (h : ProcessState) (t : Tree) (table : CallTable) where
  abbrev things : List Target
  things = q.meant.targets.items

  pub question_is : t ≡ done.world.tree → table ≡ done.table → kept_at done.world wanted.process ≡ Some h → refusal table h ≡ None →
      call_in table wanted.call ≡ Some q.call → AreMeant t h wanted things → (asked : List Target) → asked ≡ things →
      follows_link t q.call asked ≡ false → IsOutlook t (tmp_table table) h asked q.call q.outlook → IsQuestion done wanted q
  question_is at ruled here none read meant asked all kept outlook =
      let are = subst (λ (t : Tree). AreMeant t h wanted things) at meant in
      record {
        last = are.last;
        above = are.above;
        process = h;
        asked = question_made done wanted are.last h q.call things here (subst (λ (table : CallTable). refusal table h ≡ None) ruled none)
            (subst (λ (table : CallTable). call_in table wanted.call ≡ Some q.call) ruled read) are.are
            ((λ i. follows_link (sym at i) q.call (sym all i)) ∙ kept);
        outlook = subst (λ (table : CallTable). IsOutlook done.world.tree (tmp_table table) h things q.call q.outlook) ruled
            (subst (λ (t : Tree). IsOutlook t (tmp_table table) h things q.call q.outlook) at
            (subst (λ (asked : List Target). IsOutlook t (tmp_table table) h asked q.call q.outlook) all outlook));
      }

-- ---- what is told

-- a fault before anything is written: the first one, or some answer where there was no memory
pub fault_told : {A : Type 0} (written : A → Option (List ℕ)) (failed : A → ℕ) (choice : Chosen) (tree_bytes script_bytes : List ℕ)
    (wanted : HowWanted) (fault : ToolFault) (s : A) → (fault ≢ OutOfMemory → IsHowText choice tree_bytes script_bytes wanted (Err fault)) →
    (answer : Result (List ℕ) ToolFault) × IsHowText choice tree_bytes script_bytes wanted answer
    × AnswersTo written failed answer (Err (NoText fault)) s s
fault_told written failed choice tree_bytes script_bytes wanted =
    some_refused written failed (IsHowText choice tree_bytes script_bytes wanted) (some_answer choice tree_bytes script_bytes wanted)

-- ---- what was found

-- what plans came to in copies of the world that the script left
module _ {V : Type 0} (items : V → List WayLine) (rules : Rules) (replay : Replay) (process : ℕ) (q : given.HowQuestion) where
  pub served_found : (found : Result V NoWay) →
      IfOk found (λ v. (thing : Target) × Contains q.meant.targets.items thing × AreWay rules replay.world process q.call thing (items v)) →
      IfOk found (λ v. AreWayTo rules (as_replayed replay) process q (items v))
  served_found (Ok v) way = record { thing = way.0; meant = way.1; are = way.2.are; way = way.2.way }
  served_found (Err plans) way = tt
