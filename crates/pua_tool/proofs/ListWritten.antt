-- What a list of objects that was written says.
use Rattle.pua_tool.proofs.Common.{◌≡◌, ◌∙◌, ◌∷◌, [], ℕ, List, ◌++◌, ap, refl, sym, Ok, Option, Some, None, CallTable, Tree, Asked, World}
use Rattle.pua_tool.proofs.Common.{ProcessState, kept_at, new_world, told_to, world_after, answer_lines, with_end, listing, script_by, Chosen}
use Rattle.pua_tool.proofs.Common.{Replayed, Result, table_by, as_listing, as_script, replay_of, ToolFault, arith, flat_map}
use Rattle.std.proofs.Common.{zero, suc, append_assoc, append-nil, inl, subst}
use Rattle.std.specs.Prelude.{◌&&◌, true, Err, if◌then◌else◌, is_some}
use Rattle.std.specs.Option.{option_map_or}
use Rattle.std.specs.List.{Contains}
use Rattle.pua_tree.specs.Steps.{◌>>=◌}
use Rattle.pua_tree.proofs.ForCallers.{same_Ok, Err≢Ok}
use Rattle.pua_script.proofs.ForCallers.{replays_keep_byte_trees, listings_list_byte_trees, scripts_ask_in_bytes}
use Rattle.pua_script.specs.Bytes.{IsByteTree}
use Rattle.pua_objects.specs.Objects.{Line, line_text}
use Rattle.pua_objects.specs.Roots.{shown_objects}
use Rattle.pua_objects.specs.Laws.{CompleteFrom, ShowsWithin, SoundBelow, SoundLines, StartsAreIn}
use Rattle.pua_ever.proofs.ForCallers.{placed_after_read}
use Rattle.pua_texts.specs.ObjectLines.{process_list, heading_now}
use Rattle.pua_texts.specs.States.{head_lines}
use Rattle.pua_words.specs.declared.command.Processes.{Processes}
use Rattle.pua_words.specs.declared.command.Processes.TheVariants.{One}
use Rattle.pua_tool.specs.ObjectTexts.{lists_asked, objects_after, objects_text}
use Rattle.pua_tool.specs.Listed.{IsListWritten, ObjectsAsWritten}
use Rattle.pua_tool.specs.declared.fault.ToolFault.TheVariants.{NoProcess}
use Rattle.pua_script.specs.OpeningLaws.{OkaysAreAccounted}
use Rattle.pua_texts.specs.States.{OpeningsArePrinted}
use Rattle.pua_tool.proofs.Okays.{okays_listed}
use Rattle.pua_tool.proofs.Replays.{replayed_is}
use Rattle.pua_tool.proofs.Tables.{tables_are_by_rules}

-- a piece among the pieces of a text
pub in_lines : {A : Type 0} (f : A → List ℕ) (xs : List A) (x : A) → Contains xs x →
    (before : List ℕ) × (after : List ℕ) × (flat_map f xs ≡ before ++ f x ++ after)
in_lines f [] x (k, low, is) = absurd (omega (arith, low))
in_lines f (y ∷ xs) x (zero, low, is) = ([], flat_map f xs, ap (λ u. f u ++ flat_map f xs) is)
in_lines f (y ∷ xs) x (suc k, low, is) =
    let rest = in_lines f xs x (k, omega (arith, low), is) in (
      f y ++ rest.0,
      rest.1,
      ap (λ lines. f y ++ lines) rest.2 ∙ here (f y) rest.0 (f x) rest.1,
    )
  where
    here : (a b c d : List ℕ) → a ++ (b ++ c ++ d) ≡ (a ++ b) ++ c ++ d
    here a b c d = search (append_assoc)

-- and behind a front and a head
pub behind : (front head before piece after : List ℕ) → front ++ (head ++ (before ++ piece ++ after)) ≡ (front ++ head ++ before) ++ piece ++ after
behind front head before piece after = search (append_assoc)

pub list_is : (choice : Chosen) (tree_bytes script_bytes : List ℕ) (which : Processes) (done : Replayed) →
    replay_of choice tree_bytes script_bytes ≡ Ok done → objects_text choice tree_bytes script_bytes which ≡ lists_asked choice.rules done which
unfolding objects_text
list_is choice tree_bytes script_bytes which done r = λ i. r i >>= λ done. lists_asked choice.rules done which

module _ (complete : CompleteFrom) (starts : StartsAreIn) (within : ShowsWithin) (sound : SoundLines) (below : SoundBelow) (accounted : OkaysAreAccounted)
    (openings : OpeningsArePrinted) (choice : Chosen) (tree_bytes script_bytes : List ℕ) (table : CallTable) (t : Tree) (first : List Asked)
    (process : ℕ) (text : List ℕ) (given : table_by choice ≡ Ok table) (read : listing tree_bytes ≡ Ok t)
    (scripted : script_by choice.rules script_bytes ≡ Ok first)
    (told : objects_text choice tree_bytes script_bytes (One process) ≡ Ok text) where
  abbrev w : World
  w = world_after table (new_world t) first

  abbrev done : Replayed
  done = record { table = table; answers = told_to table (new_world t) first; world = w }

  abbrev front : List ℕ
  front = answer_lines 1 done.answers

  abbrev asked_by : Option ProcessState → Result (List ℕ) ToolFault
  asked_by made = (if is_some made && true then Ok (process ∷ []) else Err NoProcess)
      >>= λ numbers. Ok (objects_after choice.rules table done.answers w numbers)

  after : asked_by (kept_at w process) ≡ Ok text
  after = sym (list_is choice tree_bytes script_bytes (One process) done
      (replayed_is choice tree_bytes script_bytes table t first given (ap as_listing read) (ap as_script scripted))) ∙ told

  never : kept_at w process ≡ None → ⊥
  never is = Err≢Ok NoProcess text (sym (ap asked_by is) ∙ after)

  abbrev own : ProcessState → List ℕ
  own h = process_list (heading_now choice.rules process) table w.tree h

  whole : (h : ProcessState) → kept_at w process ≡ Some h → text ≡ front ++ own h
  whole h is =
      let told : objects_after choice.rules table done.answers w (process ∷ []) ≡ text =
      same_Ok (objects_after choice.rules table done.answers w (process ∷ [])) text (sym (ap asked_by is) ∙ after) in
      sym told ∙ ap (λ made. front ++ (option_map_or own made [] ++ [])) is ∙ ap (λ list. front ++ list) (append-nil (own h))

  written : IsListWritten choice.rules table t first process text
  written = by (kept_at w process) refl
    where
      by : (made : Option ProcessState) → kept_at w process ≡ made → IsListWritten choice.rules table t first process text
      by None is = absurd (never is)
      by (Some h) is =
          let said = scripts_ask_in_bytes choice.rules script_bytes first scripted in
          let left : IsByteTree w.tree = replays_keep_byte_trees table (new_world t) first (listings_list_byte_trees tree_bytes t read) said in
          let text_is : text ≡ front ++ own h = whole h is in
          record {
            now = h;
            here = is;
            is_text = text_is;
            complete = λ from call path. complete w.tree table h from call path left.tree;
            sound = λ top line listed. sound w.tree table h left.tree
                (placed_after_read table choice.rules tree_bytes script_bytes t first read scripted process h is) top line
                (subst (λ (ls : List Line). Contains ls line) (within.all w.tree table h (inl top)) listed);
            sound_below = below w.tree table h left.tree
                (placed_after_read table choice.rules tree_bytes script_bytes t first read scripted process h is);
            okays = okays_listed accounted openings starts choice.rules table w process h front
                (flat_map (λ (l : Line). with_end (line_text w.tree l)) (shown_objects w.tree table h)) text (tables_are_by_rules choice table given) is
                (λ from call path. complete w.tree table h from call path left.tree) text_is;
            printed = λ line listed.
                let found = in_lines (λ (l : Line). with_end (line_text w.tree l)) (shown_objects w.tree table h) line listed in (
                  front ++ head_lines w.tree (heading_now choice.rules process) h ++ found.0,
                  found.1,
                  text_is ∙ ap (λ lines. front ++ (head_lines w.tree (heading_now choice.rules process) h ++ lines)) found.2
                      ∙ behind front (head_lines w.tree (heading_now choice.rules process) h) found.0 (with_end (line_text w.tree line)) found.1,
                );
          }

pub objects_as_written : CompleteFrom → StartsAreIn → ShowsWithin → SoundLines → SoundBelow → OkaysAreAccounted → OpeningsArePrinted → ObjectsAsWritten
objects_as_written complete starts within sound below accounted openings choice tree_bytes script_bytes table t first process text given read scripted told =
    written complete starts within sound below accounted openings choice tree_bytes script_bytes table t first process text given read scripted told
