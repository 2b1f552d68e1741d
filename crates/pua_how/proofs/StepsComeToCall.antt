-- Whether steps come to the call, one after another.
use Rattle.std.proofs.Common.{◌≡◌, ℕ, ◌+◌, ◌<◌, true, false, Bool, List, [], ◌∷◌, ◌++◌, drop, length, refl, sym, ap, ◌∙◌, Some, None, Option}
use Rattle.std.proofs.Common.{slice_index_or}
use Rattle.std.specs.Prelude.{option_map}
use Rattle.std.proofs.lemmas.List.{drop_more}
use Rattle.pua_tree.specs.Tree.{Tree}
use Rattle.pua_calls.specs.Calls.{CallTable}
use Rattle.pua_calls.specs.declared.call.Call.{Call}
use Rattle.pua_calls.specs.declared.rules.Rules.{Rules}
use Rattle.pua_script.specs.Requests.{Asked}
use Rattle.pua_script.specs.Replay.{World, apply}
use Rattle.pua_script.specs.Family.{is_exec, is_okay}
use Rattle.pua_script.specs.Worlds.{WorldState, apply_to, world_of}
use Rattle.pua_script.specs.declared.answer.Answer.{Answer}
use Rattle.pua_script.specs.declared.answer.Answer.TheVariants as answers
use Rattle.pua_path.specs.declared.found.Start.{Start}
use Rattle.pua_how.specs.Steps.{comes, goes_on, is_some_by, made_behind, request_of_step, start_in}
use Rattle.pua_how.specs.declared.line.WayLine.{WayLine}
use Rattle.pua_how.specs.declared.step.Step.{Step}
use Rattle.pua_how.specs.declared.target.Target.{Target}

no_line : (o : Option WayLine) → ((line : WayLine) → o ≡ Some line → ⊥) → None ≡ o
no_line None other = refl
no_line (Some line) other = absurd (other line refl)

other_answer : (answer : Answer) → (answer ≡ answers.Okay → ⊥) → is_okay answer ≡ false
other_answer answers.Okay other = absurd (other refl)
other_answer (answers.Failed errno) other = refl
other_answer answers.Killed other = refl
other_answer answers.Gone other = refl

-- a step with others behind it
module _ (rules : Rules) (table : CallTable) (process : ℕ) (call : Call) (target : Target) (step : Step) (rest : List Step) (last : Step) (w : World)
    (made : ℕ) where
  abbrev later : World → ℕ → Bool
  later = comes rules table process call target (rest ++ last ∷ [])

  comes_on : comes rules table process call target (step ∷ (rest ++ last ∷ [])) w made
      ≡ is_some_by (goes_on table process call target later w made step) (request_of_step rules w.tree (start_in w process) process made step)
  comes_on = by rest
    where
      by : (rest : List Step) → comes rules table process call target (step ∷ (rest ++ last ∷ [])) w made
          ≡ is_some_by (goes_on table process call target (comes rules table process call target (rest ++ last ∷ [])) w made step)
          (request_of_step rules w.tree (start_in w process) process made step)
      by [] = refl
      by (next ∷ more) = refl

  without_line : None ≡ request_of_step rules w.tree (start_in w process) process made step → comes rules table process call target (step ∷ (rest ++ last ∷ [])) w made ≡ false
  without_line none = comes_on ∙ ap (is_some_by (goes_on table process call target later w made step)) (sym none)

  module _ (ask : Asked) (asked : Some ask ≡ request_of_step rules w.tree (start_in w process) process made step) where
    asked_on : comes rules table process call target (step ∷ (rest ++ last ∷ [])) w made ≡ goes_on table process call target later w made step ask
    asked_on = comes_on ∙ ap (is_some_by (goes_on table process call target later w made step)) (sym asked)

    by_exec : is_exec ask.action ≡ true → comes rules table process call target (step ∷ (rest ++ last ∷ [])) w made ≡ false
    by_exec exec = asked_on ∙ rw exec refl

    by_refused : is_exec ask.action ≡ false → is_okay (apply table w ask).0 ≡ false →
        comes rules table process call target (step ∷ (rest ++ last ∷ [])) w made ≡ false
    by_refused quiet refused = asked_on ∙ rw (quiet, refused) refl

    by_served : is_exec ask.action ≡ false → is_okay (apply table w ask).0 ≡ true →
        comes rules table process call target (step ∷ (rest ++ last ∷ [])) w made
        ≡ later (apply table w ask).1 (made_behind (apply table w ask).1.tree made step)
    by_served quiet okay = asked_on ∙ rw (quiet, okay) refl

-- the steps come to a call where those that are left do
abbrev pub AreOn : Rules → WorldState → ℕ → List Step → ℕ → WorldState → ℕ → Type 0
AreOn rules before process steps i now made =
    (call : Call) (target : Target) (last : Step) →
    comes rules before.table process call target (steps ++ last ∷ []) (world_of before) 0
    ≡ comes rules now.table process call target (drop i steps ++ last ∷ []) (world_of now) made

-- the next of them, as it is read
module _ (rules : Rules) (before now : WorldState) (process : ℕ) (steps : List Step) (i : ℕ) (step : Step) (made : ℕ)
    (on : AreOn rules before process steps i now made) (within : i < length steps) (is : step ≡ slice_index_or steps i step)
    (t : Tree) (tree : t ≡ now.tree) (from : Start) (starts : from ≡ start_in (world_of now) process) (read : Option WayLine)
    (asked : option_map (λ (line : WayLine). line.request) read ≡ request_of_step rules t from process made step) where
  asked_now : option_map (λ (line : WayLine). line.request) read ≡ request_of_step rules now.tree (start_in (world_of now) process) process made step
  asked_now = asked ∙ (λ i. request_of_step rules (tree i) (starts i) process made step)

  module _ (call : Call) (target : Target) (last : Step) where
    left : comes rules before.table process call target (steps ++ last ∷ []) (world_of before) 0
        ≡ comes rules now.table process call target (step ∷ (drop (i + 1) steps ++ last ∷ [])) (world_of now) made
    left = on call target last
        ∙ ap (λ s. comes rules now.table process call target (s ++ last ∷ []) (world_of now) made)
        (drop_more steps i step within ∙ ap (λ x. x ∷ drop (i + 1) steps) (sym is))

    pub none_on : ((line : WayLine) → read ≡ Some line → ⊥) → comes rules before.table process call target (steps ++ last ∷ []) (world_of before) 0 ≡ false
    none_on none = left ∙ without_line rules now.table process call target step (drop (i + 1) steps) last (world_of now) made
        (ap (option_map (λ (line : WayLine). line.request)) (no_line read none) ∙ asked_now)

  module _ (line : WayLine) (line_is : read ≡ Some line) where
    its : Some line.request ≡ request_of_step rules now.tree (start_in (world_of now) process) process made step
    its = sym (ap (option_map (λ (line : WayLine). line.request)) line_is) ∙ asked_now

    pub exec_on : is_exec line.request.action ≡ true → (call : Call) (target : Target) (last : Step) →
        comes rules before.table process call target (steps ++ last ∷ []) (world_of before) 0 ≡ false
    exec_on exec call target last = left call target last
        ∙ by_exec rules now.table process call target step (drop (i + 1) steps) last (world_of now) made line.request its exec

    module _ (answer : Answer) (after : WorldState) (served : ◌≡◌ {A = Answer × WorldState} (answer, after) (apply_to now line.request))
        (quiet : is_exec line.request.action ≡ false) where
      told : is_okay (apply_to now line.request).0 ≡ is_okay answer
      told = ap (λ (done : Answer × WorldState). is_okay done.0) (sym served)

      pub refused_on : (answer ≡ answers.Okay → ⊥) → (call : Call) (target : Target) (last : Step) →
          comes rules before.table process call target (steps ++ last ∷ []) (world_of before) 0 ≡ false
      refused_on other call target last = left call target last
          ∙ by_refused rules now.table process call target step (drop (i + 1) steps) last (world_of now) made line.request its quiet
          (told ∙ other_answer answer other)

      -- one step more
      pub step_on : answer ≡ answers.Okay → (new : ℕ) → new ≡ made_behind after.tree made step → AreOn rules before process steps (i + 1) after new
      step_on okay new new_is = λ call target last.
          let rest = drop (i + 1) steps in
          left call target last
          ∙ by_served rules now.table process call target step rest last (world_of now) made line.request its quiet (told ∙ ap is_okay okay)
          ∙ ap (λ (done : Answer × WorldState). comes rules done.1.table process call target (rest ++ last ∷ []) (world_of done.1)
          (made_behind done.1.tree made step)) (sym served)
          ∙ ap (comes rules after.table process call target (rest ++ last ∷ []) (world_of after)) (sym new_is)
