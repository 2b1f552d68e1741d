-- Answers that are told with what opened them.
use Rattle.pua_why.proofs.Common.{◌≡◌, ℕ, Bool, true, false, List, [], ◌∷◌, map, refl, ap, ◌∙◌, Option, Some, None, if◌then◌else◌, CallTable, World}
use Rattle.pua_why.proofs.Common.{ProcessState, Tree, Answer, kept_at, OnPath, Symlink, Rename, Link, Pledge, Unveil, Lock, Fork, Exit}
use Rattle.pua_why.proofs.Common.{Uses, Hold, Close, Fchdir, Chroot, Take, Comment}
use Rattle.std.specs.Prelude.{◌&&◌, find, not, option_map, unwrap_or}
use Rattle.std.proofs.Common.{◌++◌, ◌+◌, ◌<◌, get_or, length, sym, take}
use Rattle.std.proofs.lemmas.List.{map-append, take_more}
use Rattle.pua_script.proofs.ForCallers.{one_request_more}
use Rattle.pua_script.specs.Worlds.{WorldState, apply_to, state_after_all, with_world, world_of}
use Rattle.pua_why.specs.Seen.{line_seen}
use Rattle.pua_why.specs.declared.opened.ToldAnswer.{ToldAnswer as Told}
use Rattle.pua_calls.specs.Calls.{about_rules}
use Rattle.pua_calls.specs.Promises.{no_promises}
use Rattle.pua_script.specs.Openings.{is_opening, openings}
use Rattle.pua_script.specs.Replay.{apply, lines_told, world_after}
use Rattle.pua_script.specs.Requests.{Asked, says_nothing}
use Rattle.pua_script.specs.declared.answer.Answer.TheVariants.{Okay, Failed, Killed, Gone}
use Rattle.pua_script.specs.declared.request.Action.{Action}
use Rattle.pua_why.specs.Laws.{AnswersAreTold}
use Rattle.pua_why.specs.Openings.{ToldAnswer, if_okay, opened_by, opener, opener_at, opener_by, opener_on, told_answer, told_line, told_plainly, told_to}

abbrev answer_of_told : ToldAnswer → Answer
answer_of_told told = told.answer

as_they_are : (table : CallTable) (w : World) (asks : List Asked) → map (option_map answer_of_told) (told_to table w asks) ≡ lines_told table w asks
as_they_are table w [] = refl
as_they_are table w (ask ∷ asks) =
    λ i. said (says_nothing ask.action) i ∷ as_they_are table (apply table w ask).1 asks i
  where
    said : (silent : Bool) → option_map answer_of_told (if silent then None else Some (told_answer table w ask))
        ≡ (if silent then None else Some (apply table w ask).0)
    said true = refl
    said false = refl

none_if_okay : (answer : Answer) → if_okay answer None ≡ None
none_if_okay Okay = refl
none_if_okay (Failed errno) = refl
none_if_okay Killed = refl
none_if_okay Gone = refl

module _ (table : CallTable) (none : (about_rules table.whose).has_openings ≡ false) where
  no_opener : (t : Tree) (action : Action) (p : ProcessState) → opener_on table t action p ≡ None
  no_opener t (OnPath call text) p =
      ap (λ (b : Bool). opener_by table t p call text (if b && not p.ended
      then find (is_opening (unwrap_or p.promises no_promises) call text) openings else None)) none
  no_opener t (Symlink target path) p = refl
  no_opener t (Rename old new) p = refl
  no_opener t (Link old new) p = refl
  no_opener t (Pledge promises execpromises) p = refl
  no_opener t (Unveil path perms) p = refl
  no_opener t Lock p = refl
  no_opener t (Fork new) p = refl
  no_opener t Exit p = refl
  no_opener t (Uses sets) p = refl
  no_opener t (Hold number call text) p =
      ap (λ (b : Bool). opener_by table t p call text (if b && not p.ended
      then find (is_opening (unwrap_or p.promises no_promises) call text) openings else None)) none
  no_opener t (Close number) p = refl
  no_opener t (Fchdir number) p = refl
  no_opener t (Chroot path) p = refl
  no_opener t (Take number from theirs) p = refl
  no_opener t Comment p = refl

  none_at : (t : Tree) (action : Action) (o : Option ProcessState) → opener_at table t action o ≡ None
  none_at t action None = refl
  none_at t action (Some p) = no_opener t action p

  none_opened : (w : World) (ask : Asked) → opened_by table w ask ≡ None
  none_opened w ask = ap (if_okay (apply table w ask).0) (none_at w.tree ask.action (kept_at w ask.process)) ∙ none_if_okay (apply table w ask).0

  unopened : (w : World) (asks : List Asked) →
      told_to table w asks ≡ map (option_map told_plainly) (lines_told table w asks)
  unopened w [] = refl
  unopened w (ask ∷ asks) = λ i. said (says_nothing ask.action) i ∷ unopened (apply table w ask).1 asks i
    where
      said : (silent : Bool) → (if silent then None else Some (told_answer table w ask))
          ≡ option_map told_plainly (if silent then None else Some (apply table w ask).0)
      said true = refl
      said false = λ i. Some (record { answer = (apply table w ask).0; opener = none_opened w ask i })

pub answers_are_told : AnswersAreTold
answers_are_told = record { as_they_are = as_they_are; unopened = unopened }

-- nothing is told of a line where nobody asks
pub silent_told : (table : CallTable) (w : World) (ask : Asked) → says_nothing ask.action ≡ true → None ≡ told_line table w ask
silent_told table w ask silent = ap (λ (b : Bool). if b then None else Some (told_answer table w ask)) (sym silent)

-- and of a request that was served its answer, and what opened it
pub served_told : (s : WorldState) (ask : Asked) (answer : Answer) (after : WorldState) (promise kept : Option (List ℕ)) →
    says_nothing ask.action ≡ false → (answer, after) ≡ apply_to s ask → promise ≡ opener s.table (world_of s) ask →
    kept ≡ if_okay answer promise →
    ◌≡◌ {A = Option ToldAnswer} (Some (record { answer = answer; opener = kept })) (told_line s.table (world_of s) ask)
served_told s ask answer after promise kept asked served opens is =
    let same : answer ≡ (apply s.table (world_of s) ask).0 = ap (λ (done : Answer × WorldState). done.0) served in
    let opened : kept ≡ opened_by s.table (world_of s) ask = is ∙ (λ i. if_okay (same i) (opens i)) in
    let told : ◌≡◌ {A = Option ToldAnswer} (Some (record { answer = answer; opener = kept })) (Some (told_answer s.table (world_of s) ask)) =
    λ i. Some (record { answer = same i; opener = opened i }) in
    told ∙ ap (λ (b : Bool). if b then None else Some (told_answer s.table (world_of s) ask)) (sym asked)

-- one request more
told_behind : (table : CallTable) (w : World) (asks : List Asked) (ask : Asked) →
    told_to table w (asks ++ ask ∷ []) ≡ told_to table w asks ++ told_line table (world_after table w asks) ask ∷ []
told_behind table w [] ask = refl
told_behind table w (first ∷ asks) ask = ap (λ more. told_line table w first ∷ more) (told_behind table (apply table w first).1 asks ask)

-- requests were served one after another, and their answers told
abbrev pub AreTold : WorldState → List Asked → List (Option Told) → WorldState → Type 0
AreTold before asks told after =
    (map line_seen told ≡ told_to before.table (world_of before) asks) × (after ≡ state_after_all before asks)

pub told_next : (before mid after : WorldState) (asks : List Asked) (i : ℕ) (told more : List (Option Told)) (one : Option Told) (ask : Asked) →
    i < length asks → ask ≡ get_or asks i ask → more ≡ told ++ one ∷ [] → AreTold before (take i asks) told mid →
    line_seen one ≡ told_line mid.table (world_of mid) ask → after ≡ (apply_to mid ask).1 → AreTold before (take (i + 1) asks) more after
told_next before mid after asks i told more one ask within is pushed (first, mid_is) said left =
    let done = take i asks in
    let table = before.table in
    let w = world_of before in
    let taken : take (i + 1) asks ≡ done ++ ask ∷ [] = take_more asks i ask within ∙ ap (λ x. done ++ x ∷ []) (sym is) in
    let answers : map line_seen more ≡ told_to table w (done ++ ask ∷ []) =
    ap (map line_seen) pushed ∙ map-append line_seen told (one ∷ [])
    ∙ (λ j. first j ++ (said ∙ ap (λ (s : WorldState). told_line s.table (world_of s) ask) mid_is) j ∷ [])
    ∙ sym (told_behind table w done ask) in
    let worlds : after ≡ state_after_all before (done ++ ask ∷ []) =
    left ∙ ap (λ (s : WorldState). (apply_to s ask).1) mid_is ∙ sym (ap (with_world before) (one_request_more table w done ask)) in
    (answers ∙ ap (told_to table w) (sym taken), worlds ∙ ap (state_after_all before) (sym taken))
