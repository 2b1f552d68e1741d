-- The text of what processes can ever touch with the help of others, step by step.
use Rattle.pua_tool.proofs.Common.{◌≡◌, ◌≢◌, ◌∙◌, ◌∷◌, ◌++◌, [], ℕ, List, ap, map, refl, subst, sym, Result, Ok, Err, Option, Some, None, flat_map}
use Rattle.pua_tool.proofs.Common.{CallTable, ProcessState, Tree, Chosen, Replayed, ToolFault, OutOfMemory, NoText, AnswersTo, replay_of}
use Rattle.std.proofs.Common.{◌+◌, ◌<◌, inl, inr, ◌==◌, Bool, true, false, cond, not, drop, get_or, length}
use Rattle.std.proofs.lemmas.List.{drop_more, map-append, append_assoc}
use Rattle.pua_tree.proofs.ForCallers.{None≢Some, Some≢None}
use Rattle.pua_calls.specs.declared.rules.Rules.{Rules}
use Rattle.pua_ever.specs.Ever.{EverLine}
use Rattle.pua_ever.specs.EverList.{AreEverTold}
use Rattle.pua_ever.specs.Refusals.{refusal}
use Rattle.pua_ever.specs.declared.refusal.EverRefusal.{EverRefusal}
use Rattle.pua_jointly.specs.Jointly.{joint_lines}
use Rattle.pua_texts.specs.BesideLines.{beside_list}
use Rattle.pua_texts.specs.ListLines.{ListState, list_text, lists_text}
use Rattle.pua_texts.specs.Members.{named_by}
use Rattle.pua_texts.specs.declared.members.Member.{Member}
use Rattle.pua_words.specs.declared.command.Processes.{Processes}
use Rattle.pua_tool.specs.BesideFound.{IsFound}
use Rattle.pua_tool.specs.BesideTexts.{AreBesideLists, IsBehind, IsBesideAfter, IsBesideBy, IsBesideList, IsBesideOf, IsBesideText, IsBesideUnless}
use Rattle.pua_tool.specs.BesideTexts.{IsBesideWhole, OrMemory, beside, others_than}
use Rattle.pua_tool.specs.EverTexts.{ever_fault}
use Rattle.pua_tool.specs.TogetherTexts.{first_refused, refused_or}
use Rattle.pua_tool.specs.declared.helped.Found.{Found}
use Rattle.pua_tool.proofs.TextAnswers.{some_refused}

-- ---- the others

module _ (members : List Member) (member : Member) (i : ℕ) (within : i < length members) (is : member ≡ get_or members i member) (number : ℕ)
  where
    abbrev more : List Member
    more = drop (i + 1) members

    next : member ∷ more ≡ drop i members
    next = ap (λ m. m ∷ more) is ∙ sym (drop_more members i member within)

    others_next : (b : Bool) → (member.number == number) ≡ b →
        cond (not b) ((member.number, member.process.now) ∷ others_than number (named_by more)) (others_than number (named_by more))
        ≡ others_than number (named_by (drop i members))
    others_next b own =
        ap (λ b. cond (not b) ((member.number, member.process.now) ∷ others_than number (named_by more)) (others_than number (named_by more)))
        (sym own)
        ∙ ap (λ ms. others_than number (named_by ms)) next

    pub own_next : (member.number == number) ≡ true → others_than number (named_by more) ≡ others_than number (named_by (drop i members))
    own_next = others_next true

    pub other_next : (found new : List Member) → new ≡ found ++ member ∷ [] → (member.number == number) ≡ false →
        named_by new ++ others_than number (named_by more) ≡ named_by found ++ others_than number (named_by (drop i members))
    other_next found new added other =
        ap (λ found. named_by found ++ others_than number (named_by more)) added
        ∙ ap (λ named. named ++ others_than number (named_by more)) (map-append (λ (m : Member). (m.number, m.process.now)) found (member ∷ []))
        ∙ append_assoc (named_by found) ((member.number, member.process.now) ∷ []) (others_than number (named_by more))
        ∙ ap (λ named. named_by found ++ named) (others_next false other)

-- ---- what refuses them

pub refused_first : (table : CallTable) (members helpers : List (ℕ × ProcessState)) (fault : ToolFault) → first_refused table members ≡ Some fault →
    first_refused table (members ++ helpers) ≡ Some fault
refused_first table [] helpers fault e = absurd (None≢Some fault e)
refused_first table (m ∷ ms) helpers fault e = by (refusal table m.1) (refused_first table ms helpers fault) e
  where
    by : (o : Option EverRefusal) → (first_refused table ms ≡ Some fault → first_refused table (ms ++ helpers) ≡ Some fault) →
        refused_or m.0 o (first_refused table ms) ≡ Some fault → refused_or m.0 o (first_refused table (ms ++ helpers)) ≡ Some fault
    by (Some reason) later e = e
    by None later e = later e

pub refused_then : (table : CallTable) (members helpers : List (ℕ × ProcessState)) → first_refused table members ≡ None →
    first_refused table (members ++ helpers) ≡ first_refused table helpers
refused_then table [] helpers e = refl
refused_then table (m ∷ ms) helpers e = by (refusal table m.1) (refused_then table ms helpers) e
  where
    by : (o : Option EverRefusal) → (first_refused table ms ≡ None → first_refused table (ms ++ helpers) ≡ first_refused table helpers) →
        refused_or m.0 o (first_refused table ms) ≡ None →
        refused_or m.0 o (first_refused table (ms ++ helpers)) ≡ first_refused table helpers
    by (Some reason) later e = absurd (Some≢None (ever_fault m.0 reason) e)
    by None later e = later e

-- ---- the lists

module _ (rules : Rules) (table : CallTable) (t : Tree) where
  -- the list of what was found of a process
  pub list_told : (member : ℕ × ProcessState) (others : List (ℕ × ProcessState)) (b : Bool) (found : Found) (text : List ℕ) →
      IsFound t table member.1 others b found →
      ((lines : List EverLine) → AreEverTold t [] found.rows.items lines [] →
      text ≡ beside_list rules t (beside member others found.own found.execs) lines) → IsBesideBy rules table t b others member text
  list_told member others true found text is told =
      told [] (subst (λ rows. AreEverTold t [] rows [] []) (sym is.rows) refl)
      ∙ (λ i. beside_list rules t (beside member others (is.own i) (is.execs i)) [])
  list_told member others false found text is told = record {
    own = found.own;
    more = is.more;
    acting = is.acting;
    test = is.test;
    tells = is.tells;
    is = told (joint_lines t member.1 is.test) is.rows
        ∙ (λ i. beside_list rules t (beside member others found.own (is.execs i)) (joint_lines t member.1 is.test));
  }

  -- one more list
  pub lists_more : (helpers members : List (ℕ × ProcessState)) (texts : List (List ℕ)) (member : ℕ × ProcessState) (text : List ℕ) →
      AreBesideLists rules table t helpers members texts → IsBesideList rules table t helpers member text →
      AreBesideLists rules table t helpers (members ++ member ∷ []) (texts ++ text ∷ [])
  lists_more helpers [] [] member text are is = (is, tt)
  lists_more helpers [] (x ∷ texts) member text are is = absurd are
  lists_more helpers (m ∷ members) [] member text are is = absurd are
  lists_more helpers (m ∷ members) (x ∷ texts) member text are is = (are.0, lists_more helpers members texts member text are.1 is)

-- lists as they are written
pub lists_joined : (t : Tree) (lists : List ListState) → lists_text t lists ≡ flat_map (λ list. list) (map (list_text t) lists)
lists_joined t [] = refl
lists_joined t (list ∷ lists) = ap (λ more. list_text t list ++ more) (lists_joined t lists)

-- ---- the answer

-- a fault before anything is written: the first one, or that there was no memory
pub fault_answered : {A : Type 0} (written : A → Option (List ℕ)) (failed : A → ℕ) (Is : Result (List ℕ) ToolFault → Type 0) (fault : ToolFault)
    (s : A) → (fault ≢ OutOfMemory → Is (Err fault)) →
    (answer : Result (List ℕ) ToolFault) × OrMemory Is answer × AnswersTo written failed answer (Err (NoText fault)) s s
fault_answered written failed Is fault s refused =
    some_refused written failed (OrMemory Is) (Err OutOfMemory, inl refl) fault s (λ other. inr (refused other))

-- what is so of an answer is so of it behind the steps before
pub or_memory : (Is Of : Result (List ℕ) ToolFault → Type 0) (answer : Result (List ℕ) ToolFault) → (Is answer → Of answer) → OrMemory Is answer →
    OrMemory Of answer
or_memory Is Of answer so (inl memory) = inl memory
or_memory Is Of answer so (inr is) = inr (so is)

pub behind_ok : {X : Type 0} (next : X → Result (List ℕ) ToolFault → Type 0) (r : Result X ToolFault) (x : X) (answer : Result (List ℕ) ToolFault) →
    r ≡ Ok x → next x answer → IsBehind next r answer
behind_ok next r x answer is = subst (λ r. IsBehind next r answer) (sym is)

pub behind_err : {X : Type 0} (next : X → Result (List ℕ) ToolFault → Type 0) (r : Result X ToolFault) (fault : ToolFault) → r ≡ Err fault →
    IsBehind next r (Err fault)
behind_err next r fault is = subst (λ r. IsBehind next r (Err fault)) (sym is) refl

module _ (rules : Rules) (done : Replayed) (members helpers : List (ℕ × ProcessState)) where
  pub refused_of : (fault : ToolFault) → first_refused done.table (members ++ helpers) ≡ Some fault → IsBesideOf rules done members helpers (Err fault)
  refused_of fault is = subst (λ (o : Option ToolFault). IsBesideUnless o rules done members helpers (Err fault)) (sym is) refl

  pub whole_of : (text : List ℕ) → first_refused done.table (members ++ helpers) ≡ None → IsBesideWhole rules done members helpers text →
      IsBesideOf rules done members helpers (Ok text)
  whole_of text none whole =
      subst (λ (o : Option ToolFault). IsBesideUnless o rules done members helpers (Ok text)) (sym none) (text, refl, whole)

module _ (choice : Chosen) (tree_bytes script_bytes : List ℕ) (which helping : Processes) where
  pub text_done : (done : Replayed) (answer : Result (List ℕ) ToolFault) → replay_of choice tree_bytes script_bytes ≡ Ok done →
      OrMemory (IsBesideAfter choice.rules done which helping) answer → IsBesideText choice tree_bytes script_bytes which helping answer
  unfolding IsBesideText
  text_done done answer is after =
      or_memory (IsBesideAfter choice.rules done which helping)
      (IsBehind (λ done. IsBesideAfter choice.rules done which helping) (replay_of choice tree_bytes script_bytes)) answer
      (λ so. behind_ok (λ done. IsBesideAfter choice.rules done which helping) (replay_of choice tree_bytes script_bytes) done answer is so) after

  module _ {A : Type 0} (written : A → Option (List ℕ)) (failed : A → ℕ) where
    pub text_refused : (fault : ToolFault) (s : A) → (fault ≢ OutOfMemory → replay_of choice tree_bytes script_bytes ≡ Err fault) →
        (answer : Result (List ℕ) ToolFault) × IsBesideText choice tree_bytes script_bytes which helping answer
        × AnswersTo written failed answer (Err (NoText fault)) s s
    unfolding IsBesideText
    text_refused fault s refused =
        fault_answered written failed
        (IsBehind (λ done. IsBesideAfter choice.rules done which helping) (replay_of choice tree_bytes script_bytes)) fault s
        (λ other. behind_err (λ done. IsBesideAfter choice.rules done which helping) (replay_of choice tree_bytes script_bytes) fault
        (refused other))
