-- What a replay keeps is what is left of the histories of the replay by histories.
use Rattle.pua_script.proofs.Common.{◌≡◌, ℕ, List, [], ◌∷◌, Bool, true, false, cond, nat_eq, refl, sym, ap, ◌∙◌, Option, Some, None}
use Rattle.pua_script.proofs.Common.{option_map, Result, Ok, Err, Tree, TreeFault, CallTable, Asked, NoChange, AddNode, CutRow, ShiftRow}
use Rattle.pua_script.proofs.Common.{TieRow, BeginProgram, AddEvent, CopyAs, Decision, decide, World, Effect, Fails, Leaves, Copies}
use Rattle.pua_script.proofs.Common.{apply, world_after, answer_and_world, left_by, come_of, edit_effect, edited_tree, Failed, Killed, put_at}
use Rattle.pua_script.proofs.Common.{state_after, Gone, EAGAIN, Errno, Filed, OpenFile, TakeFile, is_pledged, kept_at, sent_by, take_effect}
use Rattle.std.specs.Map.{lookup}
use Rattle.pua_policy.specs.States.{Ended, Event}
use Rattle.pua_policy.specs.History.{History, state_of, is_ended}
use Rattle.pua_policy.proofs.ForCallers.{state_more, state_exec}
use Rattle.pua_script.specs.Replay.{do_decided, answer_to, answers_to}
use Rattle.pua_script.specs.Pasts.{Past, left_of, past_served, past_decided, past_edited, past_forked, past_taken, past_after, past_answer, past_answers}
use Rattle.pua_script.specs.Pasts.{KeepsPasts}
use Rattle.pua_script.proofs.Entries.{each, each_put}

-- what is kept at a number is what is left of its history
found_each : (n : ℕ) (es : List (ℕ × History)) → lookup (nat_eq n) (each state_of es) ≡ option_map state_of (lookup (nat_eq n) es)
found_each n [] = refl
found_each n (e ∷ es) = by (found_each n es) (nat_eq n e.0)
  where
    by : lookup (nat_eq n) (each state_of es) ≡ option_map state_of (lookup (nat_eq n) es) → (b : Bool) → cond b (Some (state_of e.1)) (lookup (nat_eq n) (each state_of es))
        ≡ option_map state_of (cond b (Some e.1) (lookup (nat_eq n) es))
    by more true = refl
    by more false = more

module _ (past : Past) (n : ℕ) (h : History) where
  -- a history put is a process put
  put_left : (t : Tree) (g : History) → record { tree = t; processes = put_at n (state_of g) (left_of past).processes }
      ≡ left_of (record { tree = t; histories = put_at n g past.histories })
  put_left t g = λ i. record { tree = t; processes = sym (each_put state_of n g past.histories) i }

  abbrev left : Effect → World
  left e = left_by (left_of past) n (state_of h) e

  edited : (r : Result (ℕ × Tree) TreeFault) → left (edit_effect (state_of h) r) ≡ left_of (past_edited past n h (edit_effect (state_of h) r))
  edited (Ok made) = put_left made.1 h
  edited (Err fault) = refl

  edited_to : (r : Result Tree TreeFault) → left (edited_tree (state_of h) r) ≡ left_of (past_edited past n h (edited_tree (state_of h) r))
  edited_to (Ok t) = put_left t h
  edited_to (Err fault) = refl

  forked : (new : ℕ) (b : Bool) (e : Effect) → e ≡ cond b (Fails EAGAIN) (Copies new) → left e ≡ left_of (past_forked past h e)
  forked new true e is = rw is refl
  forked new false e is = rw is (λ i. record { tree = past.tree; processes = sym (each_put state_of new h past.histories) i })

  more : (event : Event) → left (Leaves past.tree (state_after event (state_of h))) ≡ left_of (past_decided past n h (Ok (AddEvent event)))
  more event = ap (λ p. record { tree = past.tree; processes = put_at n p (left_of past).processes }) (sym (state_more event h))
      ∙ put_left past.tree (event ∷ h)

  taken : (number : ℕ) (r : Result OpenFile Errno) → left (take_effect (left_of past) (state_of h) number r) ≡ left_of (past_taken past n h number r)
  taken number (Ok file) = more (Filed number (Some file))
  taken number (Err errno) = refl

  decided : (d : Decision) → left (come_of (left_of past) (state_of h) d) ≡ left_of (past_decided past n h d)
  decided (Ok NoChange) = put_left past.tree h
  decided (Ok (AddNode spot node)) = edited _
  decided (Ok (CutRow spot)) = edited _
  decided (Ok (ShiftRow old new)) = edited_to _
  decided (Ok (TieRow spot x)) = edited_to _
  decided (Ok (BeginProgram left)) =
      ap (λ p. record { tree = past.tree; processes = put_at n p (left_of past).processes }) (sym (state_exec left h)) ∙ put_left past.tree _
  decided (Ok (AddEvent event)) = more event
  decided (Ok (CopyAs new)) = forked new _ _ refl
  decided (Ok (TakeFile number from theirs)) = taken number (sent_by (is_pledged (state_of h)) (kept_at (left_of past) from) theirs)
  decided (Err (Failed errno)) = refl
  decided (Err Killed) = ap (λ p. record { tree = past.tree; processes = put_at n p (left_of past).processes }) (sym (state_more Ended h))
      ∙ put_left past.tree (Ended ∷ h)

one : (table : CallTable) (past : Past) (ask : Asked) →
    (apply table (left_of past) ask).1 ≡ left_of (past_served table past ask (lookup (nat_eq ask.process) past.histories))
one table past ask = ap (λ o. (answer_and_world table (left_of past) ask o).1) (found_each ask.process past.histories)
    ∙ by (lookup (nat_eq ask.process) past.histories)
  where
    by : (o : Option History) → (answer_and_world table (left_of past) ask (option_map state_of o)).1 ≡ left_of (past_served table past ask o)
    by None = refl
    by (Some h) = lives (is_ended h)
      where
        lives : (b : Bool) → (cond b (Gone, left_of past) (do_decided (left_of past) ask.process (state_of h) (decide table past.tree (state_of h)
            ask.action))).1 ≡ left_of (cond b past (past_decided past ask.process h (decide table past.tree (state_of h) ask.action)))
        lives true = refl
        lives false = decided past ask.process h (decide table past.tree (state_of h) ask.action)

all : (table : CallTable) (past : Past) (asks : List Asked) → world_after table (left_of past) asks ≡ left_of (past_after table past asks)
all table past [] = refl
all table past (ask ∷ asks) = ap (λ w. world_after table w asks) (one table past ask)
    ∙ all table (past_served table past ask (lookup (nat_eq ask.process) past.histories)) asks

answered : (table : CallTable) (past : Past) (ask : Asked) →
    (apply table (left_of past) ask).0 ≡ past_answer table past ask (lookup (nat_eq ask.process) past.histories)
answered table past ask = ap (λ o. (answer_and_world table (left_of past) ask o).0) (found_each ask.process past.histories)
    ∙ by (lookup (nat_eq ask.process) past.histories)
  where
    by : (o : Option History) → (answer_and_world table (left_of past) ask (option_map state_of o)).0 ≡ past_answer table past ask o
    by None = refl
    by (Some h) = lives (is_ended h)
      where
        lives : (b : Bool) → (cond b (Gone, left_of past) (do_decided (left_of past) ask.process (state_of h) (decide table past.tree (state_of h)
            ask.action))).0 ≡ cond b Gone (answer_to (come_of (left_of past) (state_of h) (decide table past.tree (state_of h) ask.action)))
        lives true = refl
        lives false = refl

all_answered : (table : CallTable) (past : Past) (asks : List Asked) → answers_to table (left_of past) asks ≡ past_answers table past asks
all_answered table past [] = refl
all_answered table past (ask ∷ asks) = (λ i. answered table past ask i ∷ answers_to table (one table past ask i) asks)
    ∙ ap (λ more. past_answer table past ask (lookup (nat_eq ask.process) past.histories) ∷ more)
    (all_answered table (past_served table past ask (lookup (nat_eq ask.process) past.histories)) asks)

pub keeps_pasts : KeepsPasts
keeps_pasts = record { begins = λ t. refl; goes_on = all; answers = all_answered }
