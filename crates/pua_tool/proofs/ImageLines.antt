-- The lists of processes as they were, line after line.
use Rattle.pua_tool.proofs.Common.{◌≡◌, ◌∙◌, ◌++◌, ◌∷◌, [], ℕ, List, Option, map, ap, sym, subst, Asked, line_seen, told_to, world_of}
use Rattle.std.proofs.Common.{suc, ◌+◌, add-one, append_assoc, append-nil, inl, inr, ◌⊎◌}
use Rattle.std.proofs.lemmas.List.{map-append}
use Rattle.pua_calls.specs.declared.rules.Rules.{Rules}
use Rattle.pua_script.specs.Replay.{answers_to, apply}
use Rattle.pua_script.specs.Worlds.{WorldState, apply_to}
use Rattle.pua_script.specs.declared.answer.Answer.{Answer}
use Rattle.pua_texts.specs.ObjectLines.{image_list_of}
use Rattle.pua_why.specs.Openings.{told_line}
use Rattle.pua_why.specs.declared.opened.ToldAnswer.{ToldAnswer as Told}
use Rattle.pua_tool.specs.ImageTexts.{image_if, images_from, is_replaced}

-- the lists behind these bytes are those of the requests that are still to be served, of which these are the answers; what was said of the
-- others is told
pub record IsShown (rules : Rules) (start : WorldState) (numbers : List ℕ) (requests : List Asked) (answers : List Answer) (before : List ℕ)
    (now : WorldState) (left : List Asked) (told : List Answer) (said : List (Option Told)) (n : ℕ) (bytes : List ℕ) : Type 0 where
  pub answered : answers ≡ answers_to start.table (world_of start) requests → told ≡ answers_to now.table (world_of now) left
  pub lists : answers ≡ answers_to start.table (world_of start) requests →
      before ++ images_from rules start.table (world_of start) numbers 1 requests
      ≡ bytes ++ images_from rules now.table (world_of now) numbers (suc n) left
  pub lines : told_to start.table (world_of start) requests ≡ map line_seen said ++ told_to now.table (world_of now) left

module _ (rules : Rules) (start : WorldState) (numbers : List ℕ) (requests : List Asked) (answers : List Answer) (before : List ℕ) where
  abbrev pub Shown : WorldState → List Asked → List Answer → List (Option Told) → ℕ → List ℕ → Type 0
  Shown now left told said n bytes = IsShown rules start numbers requests answers before now left told said n bytes

  -- none was served yet
  pub none_shown : (left : List Asked) (told : List Answer) (said : List (Option Told)) (n : ℕ) → left ≡ requests → told ≡ answers →
      said ≡ [] → n ≡ 0 → Shown start left told said n before
  none_shown left told said n same same_told silent none = record {
    answered = λ is. same_told ∙ is ∙ ap (answers_to start.table (world_of start)) (sym same);
    lists = λ is i. before ++ images_from rules start.table (world_of start) numbers (suc (sym none i)) (sym same i);
    lines = λ i. map line_seen (sym silent i) ++ told_to start.table (world_of start) (sym same i);
  }

  module _ (now : WorldState) (n : ℕ) (bytes : List ℕ) (ask : Asked) (more : List Asked) (answer : Answer) (told : List Answer)
      (said : List (Option Told)) (so : Shown now (ask ∷ more) (answer ∷ told) said n bytes) where
    abbrev image : ℕ → List ℕ
    image line = image_if (is_replaced numbers ask answer) (image_list_of line rules now.table (world_of now) ask.process)

    next_shown : (next : WorldState) (new : List ℕ) (one : Option Told) (further : List (Option Told)) → next ≡ (apply_to now ask).1 →
        new ≡ bytes ++ image (n + 1) → line_seen one ≡ told_line now.table (world_of now) ask → further ≡ said ++ one ∷ [] →
        Shown next more told further (n + 1) new
    next_shown next new one further served added line pushed = record {
      answered = λ is. let all = so.answered is in
          let rest : told ≡ answers_to now.table (apply now.table (world_of now) ask).1 more = cc in
          rest ∙ (λ i. answers_to (sym served i).table (world_of (sym served i)) more);
      lists = λ is. let all = so.answered is in
          let first : answer ≡ (apply now.table (world_of now) ask).0 = cc in
          let later : ℕ → List ℕ = λ k. images_from rules now.table (apply now.table (world_of now) ask).1 numbers (suc k) more in
          so.lists is
          ∙ ap (λ a. bytes ++ (image_if (is_replaced numbers ask a) (image_list_of (suc n) rules now.table (world_of now) ask.process) ++ later (suc n)))
          (sym first)
          ∙ sym (append_assoc bytes (image (suc n)) (later (suc n)))
          ∙ (λ i. (bytes ++ image (sym (add-one n) i)) ++ later (sym (add-one n) i))
          ∙ (λ i. sym added i ++ images_from rules (sym served i).table (world_of (sym served i)) numbers (suc (n + 1)) more);
      lines =
          so.lines
          ∙ ap (λ told. map line_seen said ++ told ∷ told_to now.table (apply now.table (world_of now) ask).1 more) (sym line)
          ∙ sym (append_assoc (map line_seen said) (line_seen one ∷ []) (told_to now.table (apply now.table (world_of now) ask).1 more))
          ∙ ap (λ told. told ++ told_to now.table (apply now.table (world_of now) ask).1 more) (sym (map-append line_seen said (one ∷ [])))
          ∙ (λ i. map line_seen (sym pushed i) ++ told_to (sym served i).table (world_of (sym served i)) more);
    }

  -- one more
  pub more_shown : (now : WorldState) (left : List Asked) (told : List Answer) (said : List (Option Told)) (n : ℕ) (bytes : List ℕ)
      (ask : Asked) (more : List Asked) (answer : Answer) (told_more : List Answer) (place m : ℕ) (next : WorldState) (new : List ℕ)
      (one : Option Told) (further : List (Option Told)) → Shown now left told said n bytes → left ≡ ask ∷ more
      → told ≡ answer ∷ told_more → place ≡ n → m ≡ n + 1 → next ≡ (apply_to now ask).1
      → line_seen one ≡ told_line now.table (world_of now) ask → further ≡ said ++ one ∷ []
      → new ≡ bytes
      ++ image_if (is_replaced numbers ask answer) (image_list_of (place + 1) rules now.table (world_of now) ask.process) →
      Shown next more told_more further m new
  more_shown now left told said n bytes ask more answer told_more place m next new one further so asked answered at count served line pushed added =
      subst (λ k. Shown next more told_more further k new) (sym count)
      (next_shown now n bytes ask more answer told_more said
      (subst (λ (X : Type 0). X) (λ i. Shown now (asked i) (answered i) said n bytes) so) next new one further served
      (subst (λ (k : ℕ). new ≡ bytes
      ++ image_if (is_replaced numbers ask answer) (image_list_of (k + 1) rules now.table (world_of now) ask.process)) at added) line pushed)

  -- all
  pub all_shown : (now : WorldState) (left : List Asked) (told : List Answer) (said : List (Option Told)) (n : ℕ) (bytes : List ℕ) →
      Shown now left told said n bytes → (left ≡ []) ⊎ (told ≡ []) → answers ≡ answers_to start.table (world_of start) requests →
      bytes ≡ before ++ images_from rules start.table (world_of start) numbers 1 requests
  all_shown now [] told said n bytes so none is = sym (so.lists is ∙ append-nil bytes)
  all_shown now (ask ∷ more) told said n bytes so (inl none) is = cc
  all_shown now (ask ∷ more) told said n bytes so (inr none) is = let all = so.answered is in cc

  pub all_told : (now : WorldState) (left : List Asked) (told : List Answer) (said : List (Option Told)) (n : ℕ) (bytes : List ℕ) →
      Shown now left told said n bytes → (left ≡ []) ⊎ (told ≡ []) → answers ≡ answers_to start.table (world_of start) requests →
      map line_seen said ≡ told_to start.table (world_of start) requests
  all_told now [] told said n bytes so none is = sym (so.lines ∙ append-nil (map line_seen said))
  all_told now (ask ∷ more) told said n bytes so (inl none) is = cc
  all_told now (ask ∷ more) told said n bytes so (inr none) is = let all = so.answered is in cc
