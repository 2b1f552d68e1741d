-- The list of several processes, by the one that stands for those that live.
use Rattle.pua_texts.proofs.Common.{◌≡◌, ℕ, List, [], ◌++◌, ◌∙◌, sym, ap, append-nil, append_assoc, flat_map, Some}
use Rattle.pua_texts.proofs.Common.{Tree, CallTable, ProcessState, veils, veil_lines, Place, ever_lines}
use Rattle.pua_calls.specs.declared.rules.Rules.{Rules}
use Rattle.pua_ever.specs.ShownForEver.{shown_lasting, execs_shown}
use Rattle.pua_texts.specs.EndingsState.{EndingsState}
use Rattle.pua_texts.specs.ListLines.{ListState, head_text, lines_text, list_text}
use Rattle.pua_texts.specs.Lists.{HeadState}
use Rattle.pua_texts.specs.States.{bound_lines}
use Rattle.pua_texts.specs.TogetherLines.{joint_list, member_lines, one_of, together_heading, together_list}
use Rattle.pua_texts.specs.declared.list_line.ListLine.{ListLine}
use Rattle.pua_texts.specs.declared.state.Time.TheVariants.{Ever}

module _ (rules : Rules) (table : CallTable) (t : Tree) (named : List (ℕ × ProcessState)) where
  abbrev pub states : List ℕ
  states = together_heading named ++ flat_map (member_lines rules t) named

  -- the list of the one stands behind them
  pub some_listed : (list : ListState) (head : HeadState) (text files : List ℕ) (vs : List (Place × ℕ)) (lines : List ListLine)
      (columns : EndingsState) (one : ProcessState)
      → list ≡ record { head = head; lines = lines; columns = columns } → head ≡ record { text = text; veils = vs; files = files }
      → files ≡ [] → text ≡ states ++ bound_lines rules (Ever (execs_shown t table one)) [] one → vs ≡ veils one
      → lines_text columns [] lines ≡ ever_lines t (shown_lasting t table one) → one_of table named ≡ Some one →
      list_text t list ≡ together_list rules table t named
  some_listed list head text files vs lines columns one is headed none shown veiled told some =
      let bounds = bound_lines rules (Ever (execs_shown t table one)) [] one in
      let ever = ever_lines t (shown_lasting t table one) in
      ap (list_text t) is
      ∙ ap (λ (head : HeadState). head_text t head ++ lines_text columns [] lines) headed
      ∙ (λ i. (shown i ++ (veil_lines t (veiled i) ++ none i)) ++ told i)
      ∙ ap (λ vs. ((states ++ bounds) ++ vs) ++ ever) (append-nil (veil_lines t (veils one)))
      ∙ ap (λ text. text ++ ever_lines t (shown_lasting t table one)) (append_assoc states (bound_lines rules (Ever (execs_shown t table one)) [] one)
      (veil_lines t (veils one)))
      ∙ append_assoc states (bound_lines rules (Ever (execs_shown t table one)) [] one ++ veil_lines t (veils one))
      (ever_lines t (shown_lasting t table one))
      ∙ ap (λ o. states ++ joint_list rules table t o) (sym some)
