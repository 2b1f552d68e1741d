-- The text of the list for ever with the numbers of steps, step by step.
use Rattle.pua_tool.proofs.Common.{◌≡◌, ◌≢◌, ℕ, List, [], ◌++◌, ◌∙◌, refl, sym, subst, ap, Result, ◌>>=◌, Option, Some, None, Ok, Err}
use Rattle.pua_tool.proofs.Common.{ProcessState, kept_at, Chosen, Replayed, replay_of, ToolFault, OutOfMemory, NoText, answer_lines, AnswersTo}
use Rattle.pua_tool.proofs.Common.{unless_reason}
use Rattle.std.specs.Prelude.{ok_or}
use Rattle.pua_calls.specs.TmpTable.{tmp_table}
use Rattle.pua_calls.specs.declared.rules.Rules.{Rules}
use Rattle.pua_tree.proofs.ForCallers.{same_Ok, same_Some, Err≢Ok, None≢Some}
use Rattle.pua_audit.specs.Reach.{Word}
use Rattle.pua_ever.specs.Refusals.{refusal}
use Rattle.pua_ever.specs.ShownForEver.{shown_lasting}
use Rattle.pua_texts.specs.EverHowLines.{ever_list_with}
use Rattle.pua_tool.specs.EverHowTexts.{IsEverHowAfter, IsEverHowBehind, IsEverHowList, IsEverHowText, below_asked, lines_below, unless_refused}
use Rattle.pua_tool.specs.declared.fault.ToolFault.TheVariants.{NoProcess}
use Rattle.pua_tool.proofs.RowColumns.{some_columns}
use Rattle.pua_tool.proofs.TextAnswers.{some_refused}

module _ (rules : Rules) (done : Replayed) (process : ℕ) (path : Option (List ℕ)) where
  abbrev asked : ProcessState → Result (Option Word) ToolFault
  asked h = below_asked done.world.tree h path

  abbrev whole : List ℕ → Result (List ℕ) ToolFault
  whole list = ok_or (kept_at done.world process) NoProcess >>= unless_refused done process path (answer_lines 1 done.answers ++ list)

  -- of the process that is kept, without a reason for none, there is what the path leads to
  whole_of : (h : ProcessState) (list : List ℕ) → kept_at done.world process ≡ Some h → refusal done.table h ≡ None →
      whole list ≡ (asked h >>= λ below. Ok (answer_lines 1 done.answers ++ list))
  whole_of h list here none =
      ap (λ (o : Option ProcessState). ok_or o NoProcess >>= unless_refused done process path (answer_lines 1 done.answers ++ list)) here
      ∙ ap (λ reason. unless_reason process reason (answer_lines 1 done.answers ++ list) >>= λ told. asked h >>= λ below. Ok told) none

  abbrev IsListAsked : ProcessState → List ℕ → Type 0
  IsListAsked h list = (below : Option Word) → asked h ≡ Ok below → IsEverHowList rules done process h below list

  -- a list is the one that is asked for of the process that is kept
  sound_of : (h : ProcessState) (list : List ℕ) → kept_at done.world process ≡ Some h → IsListAsked h list →
      (other : ProcessState) (below : Option Word) → kept_at done.world process ≡ Some other → refusal done.table other ≡ None →
      asked other ≡ Ok below → IsEverHowList rules done process other below list
  sound_of h list here is other below there unrefused asks =
      subst (λ (g : ProcessState). IsListAsked g list) (same_Some h other (sym here ∙ there)) is below asks

  -- the list of what was found behind a script
  pub list_after : (h : ProcessState) (below : Option Word) (list : List ℕ) (answer : Result (List ℕ) ToolFault) →
      kept_at done.world process ≡ Some h → refusal done.table h ≡ None → asked h ≡ Ok below →
      IsEverHowList rules done process h below list → answer ≡ Ok (answer_lines 1 done.answers ++ list) →
      IsEverHowAfter rules done process path answer
  list_after h below list answer here none asks is told = record {
    list = list;
    sound = sound_of h list here
        (λ other also. subst (λ (w : Option Word). IsEverHowList rules done process h w list) (same_Ok below other (sym asks ∙ also)) is);
    is =
        told
        ∙ sym (ap (λ (r : Result (Option Word) ToolFault). r >>= λ below. Ok (answer_lines 1 done.answers ++ list)) asks)
        ∙ sym (whole_of h list here none);
  }

  some_list : (h : ProcessState) → (list : List ℕ) × IsListAsked h list
  some_list h = by (asked h) refl
    where
      by : (r : Result (Option Word) ToolFault) → asked h ≡ r → (list : List ℕ) × IsListAsked h list
      by (Ok below) is =
          let all = some_columns rules done process h (lines_below below (shown_lasting done.world.tree (tmp_table done.table) h)) in
          let list = ever_list_with rules (tmp_table done.table) done.world.tree process h all.0 in (
            list,
            λ other also. subst (λ (w : Option Word). IsEverHowList rules done process h w list) (same_Ok below other (sym is ∙ also))
                (record { lines = all.0; are = all.1; columns = all.2; is = refl }),
          )
      by (Err fault) is = ([], λ other also. absurd (Err≢Ok fault other (sym is ∙ also)))

  some_after : (answer : Result (List ℕ) ToolFault) × IsEverHowAfter rules done process path answer
  some_after = by (kept_at done.world process) refl
    where
      by : (o : Option ProcessState) → kept_at done.world process ≡ o → (answer : Result (List ℕ) ToolFault) × IsEverHowAfter rules done process path answer
      by None here = (
        whole [],
        record { list = []; sound = λ h below there unrefused asks. absurd (None≢Some h (sym here ∙ there)); is = refl },
      )
      by (Some h) here =
          let some = some_list h in (
            whole some.0,
            record { list = some.0; sound = sound_of h some.0 here some.1; is = refl },
          )

  -- what refuses the list
  pub no_process : kept_at done.world process ≡ None → IsEverHowAfter rules done process path (Err NoProcess)
  no_process here = record {
    list = [];
    sound = λ h below there unrefused asks. absurd (None≢Some h (sym here ∙ there));
    is = sym (ap (λ (o : Option ProcessState). ok_or o NoProcess >>= unless_refused done process path (answer_lines 1 done.answers ++ [])) here);
  }

  pub refused_after : (h : ProcessState) (fault : ToolFault) → kept_at done.world process ≡ Some h →
      ((text : List ℕ) → unless_reason process (refusal done.table h) text ≡ Err fault) → IsEverHowAfter rules done process path (Err fault)
  refused_after h fault here refuses =
      let some = some_list h in
      let text = answer_lines 1 done.answers ++ some.0 in
      record {
        list = some.0;
        sound = sound_of h some.0 here some.1;
        is =
            sym (ap (λ (r : Result (List ℕ) ToolFault). r >>= λ told. asked h >>= λ below. Ok told) (refuses text))
            ∙ sym (ap (λ (o : Option ProcessState). ok_or o NoProcess >>= unless_refused done process path text) here);
      }

  pub path_refused : (h : ProcessState) (fault : ToolFault) → kept_at done.world process ≡ Some h → refusal done.table h ≡ None →
      asked h ≡ Err fault → IsEverHowAfter rules done process path (Err fault)
  path_refused h fault here none asks =
      let some = some_list h in
      record {
        list = some.0;
        sound = sound_of h some.0 here some.1;
        is =
            sym (ap (λ (r : Result (Option Word) ToolFault). r >>= λ below. Ok (answer_lines 1 done.answers ++ some.0)) asks)
            ∙ sym (whole_of h some.0 here none);
      }

  -- a fault before anything is written: the first one, or some answer where there was no memory
  pub fault_after : {A : Type 0} (written : A → Option (List ℕ)) (failed : A → ℕ) (fault : ToolFault) (s : A) →
      (fault ≢ OutOfMemory → IsEverHowAfter rules done process path (Err fault)) →
      (answer : Result (List ℕ) ToolFault) × IsEverHowAfter rules done process path answer × AnswersTo written failed answer (Err (NoText fault)) s s
  fault_after written failed = some_refused written failed (IsEverHowAfter rules done process path) some_after

module _ (choice : Chosen) (tree_bytes script_bytes : List ℕ) (process : ℕ) (path : Option (List ℕ)) where
  pub after_done : (done : Replayed) (answer : Result (List ℕ) ToolFault) → replay_of choice tree_bytes script_bytes ≡ Ok done →
      IsEverHowAfter choice.rules done process path answer → IsEverHowText choice tree_bytes script_bytes process path answer
  unfolding IsEverHowText
  after_done done answer is after =
      subst (λ (r : Result Replayed ToolFault). IsEverHowBehind choice.rules r process path answer) (sym is) after

  after_refused : (fault : ToolFault) → replay_of choice tree_bytes script_bytes ≡ Err fault →
      IsEverHowText choice tree_bytes script_bytes process path (Err fault)
  unfolding IsEverHowText
  after_refused fault is = subst (λ (r : Result Replayed ToolFault). IsEverHowBehind choice.rules r process path (Err fault)) (sym is) refl

  some_text : (answer : Result (List ℕ) ToolFault) × IsEverHowText choice tree_bytes script_bytes process path answer
  unfolding IsEverHowText
  some_text = by (replay_of choice tree_bytes script_bytes)
    where
      by : (r : Result Replayed ToolFault) → (answer : Result (List ℕ) ToolFault) × IsEverHowBehind choice.rules r process path answer
      by (Ok done) = some_after choice.rules done process path
      by (Err fault) = (Err fault, refl)

  pub fault_told : {A : Type 0} (written : A → Option (List ℕ)) (failed : A → ℕ) (fault : ToolFault) (s : A) →
      (fault ≢ OutOfMemory → replay_of choice tree_bytes script_bytes ≡ Err fault) →
      (answer : Result (List ℕ) ToolFault) × IsEverHowText choice tree_bytes script_bytes process path answer
      × AnswersTo written failed answer (Err (NoText fault)) s s
  fault_told written failed fault s refused =
      some_refused written failed (IsEverHowText choice tree_bytes script_bytes process path) some_text fault s
      (λ other. after_refused fault (refused other))
