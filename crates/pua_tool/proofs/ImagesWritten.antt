-- What the lists of what processes were say, once they were written.
use Rattle.pua_tool.proofs.Common.{◌≡◌, ◌∙◌, ◌∷◌, [], ℕ, List, ◌++◌, ap, refl, sym, Ok, Err, Option, Some, None, CallTable, Tree, Asked, World, Result}
use Rattle.pua_tool.proofs.Common.{ProcessState, kept_at, new_world, told_to, world_after, answer_lines, listing, script_by, Chosen, Replayed}
use Rattle.pua_tool.proofs.Common.{table_by, as_listing, as_script, ToolFault, ◌>>=◌}
use Rattle.std.proofs.Common.{suc, ◌+◌, true, length, arith, append_assoc, append-nil}
use Rattle.std.proofs.lemmas.Bool.{and_parts, false≢true}
use Rattle.std.proofs.lemmas.List.{take_at}
use Rattle.std.specs.Prelude.{◌&&◌, if◌then◌else◌, is_some}
use Rattle.std.specs.Option.{option_map_or}
use Rattle.pua_tree.proofs.ForCallers.{same_Ok}
use Rattle.pua_calls.specs.declared.rules.Rules.{Rules}
use Rattle.pua_script.specs.Family.{is_exec, is_member, is_okay}
use Rattle.pua_script.specs.Replay.{answer_and_world, apply}
use Rattle.pua_texts.specs.ObjectLines.{heading_before, heading_now, image_list_of, lists_of, object_lines, process_list}
use Rattle.pua_texts.specs.States.{heading_line, kept_lines, own_lines}
use Rattle.pua_objects.specs.Roots.{shown_objects}
use Rattle.pua_texts.specs.RootLines.{root_line}
use Rattle.pua_words.specs.declared.command.Processes.{Processes}
use Rattle.pua_words.specs.declared.command.Processes.TheVariants.{One}
use Rattle.pua_tool.specs.Fronts.{first_lines}
use Rattle.pua_tool.specs.ImageTexts.{image_if, images_after, images_asked, images_from, images_text, is_replaced}
use Rattle.pua_tool.specs.Images.{ImagesAsWritten, IsImageWritten}
use Rattle.pua_tool.specs.ObjectTexts.{numbers_asked, objects_after, objects_text}
use Rattle.pua_texts.specs.WhyLines.{ServedScript}
use Rattle.pua_tool.specs.declared.fault.ToolFault.TheVariants.{NoProcess}
use Rattle.pua_tool.proofs.FrontRequests.{front_requests}
use Rattle.pua_tool.proofs.ListWritten.{list_is}
use Rattle.pua_tool.proofs.Replays.{replayed_is}
use Rattle.pua_tool.proofs.WhyTexts.{posed_is}

-- those of requests behind others
images_behind : (rules : Rules) (table : CallTable) (w : World) (numbers : List ℕ) (n : ℕ) (before more : List Asked) →
    images_from rules table w numbers n (before ++ more)
    ≡ images_from rules table w numbers n before ++ images_from rules table (world_after table w before) numbers (n + length before) more
images_behind rules table w numbers n [] more = λ i. images_from rules table w numbers (plus_none i) more
  where
    plus_none : n ≡ n + 0
    plus_none = omega arith
images_behind rules table w numbers n (ask ∷ before) more =
    let image : List ℕ = image_if (is_replaced numbers ask (apply table w ask).0) (image_list_of n rules table w ask.process) in
    ap (λ rest. image ++ rest)
    (images_behind rules table (apply table w ask).1 numbers (suc n) before more
    ∙ (λ i. images_from rules table (apply table w ask).1 numbers (suc n) before
    ++ images_from rules table (world_after table (apply table w ask).1 before) numbers (plus_one i) more))
    ∙ sym (append_assoc image (images_from rules table (apply table w ask).1 numbers (suc n) before)
    (images_from rules table (world_after table (apply table w ask).1 before) numbers (n + suc (length before)) more))
  where
    plus_one : suc n + length before ≡ n + suc (length before)
    plus_one = omega arith

-- the pieces of a list, and of a text
headed : (heading own veils lines : List ℕ) → ((heading ++ own) ++ veils) ++ lines ≡ heading ++ ((own ++ veils) ++ lines)
headed heading own veils lines = search (append_assoc)

part : (answers earlier image later lists : List ℕ) →
    (answers ++ (earlier ++ (image ++ later))) ++ lists ≡ (answers ++ earlier) ++ image ++ (later ++ lists)
part answers earlier image later lists = search (append_assoc)

-- what a process that is replaced kept
kept_before : (table : CallTable) (w : World) (ask : Asked) → is_okay (apply table w ask).0 ≡ true →
    (h : ProcessState) × (kept_at w ask.process ≡ Some h)
kept_before table w ask okay = by (kept_at w ask.process) refl
  where
    by : (made : Option ProcessState) → kept_at w ask.process ≡ made → (h : ProcessState) × (kept_at w ask.process ≡ Some h)
    by None is = absurd (false≢true (sym (ap (λ made. is_okay (answer_and_world table w ask made).0) is) ∙ okay))
    by (Some h) is = (h, is)

module _ (choice : Chosen) (tree_bytes script_bytes front : List ℕ) (table : CallTable) (t : Tree) (before after : List Asked) (ask : Asked)
    (whose : Processes) (numbers text : List ℕ) (given : table_by choice ≡ Ok table) (read : listing tree_bytes ≡ Ok t)
    (scripted : script_by choice.rules script_bytes ≡ Ok (before ++ ask ∷ after))
    (cut : first_lines (length before) script_bytes ≡ Some front)
    (named : numbers_asked (world_after table (new_world t) (before ++ ask ∷ after)) whose ≡ Ok numbers) where
  abbrev w : World
  w = world_after table (new_world t) before

  abbrev line : ℕ
  line = suc (length before)

  abbrev served : ServedScript
  served = record { table = table; world = new_world t; asks = before ++ ask ∷ after }

  -- what stands behind a heading
  abbrev rest : ProcessState → List ℕ
  rest h = (own_lines (heading_now choice.rules ask.process) (root_line w.tree h) h ++ kept_lines w.tree h) ++ object_lines w.tree (shown_objects w.tree table h)

  image_is : (h : ProcessState) → kept_at w ask.process ≡ Some h →
      image_list_of line choice.rules table w ask.process ≡ heading_line (heading_before line choice.rules ask.process) ++ rest h
  image_is h is =
      ap (λ made. option_map_or (process_list (heading_before line choice.rules ask.process) table w.tree) made []) is
      ∙ headed (heading_line (heading_before line choice.rules ask.process)) (own_lines (heading_now choice.rules ask.process) (root_line w.tree h) h)
      (kept_lines w.tree h) (object_lines w.tree (shown_objects w.tree table h))

  first_asks : script_by choice.rules front ≡ Ok before
  first_asks =
      front_requests choice.rules (length before) script_bytes front (before ++ ask ∷ after) scripted cut
      ∙ ap Ok (take_at before (ask ∷ after) (length before) refl)

  abbrev done : Replayed
  done = record { table = table; answers = told_to table (new_world t) before; world = w }

  abbrev asked_by : Option ProcessState → Result (List ℕ) ToolFault
  asked_by made = (if is_some made && true then Ok (ask.process ∷ []) else Err NoProcess)
      >>= λ numbers. Ok (objects_after choice.rules table done.answers w numbers)

  list_is_rest : (h : ProcessState) → kept_at w ask.process ≡ Some h →
      objects_text choice tree_bytes front (One ask.process)
      ≡ Ok (answer_lines 1 done.answers ++ (heading_line (heading_now choice.rules ask.process) ++ rest h))
  list_is_rest h is =
      list_is choice tree_bytes front (One ask.process) done
      (replayed_is choice tree_bytes front table t before given (ap as_listing read) (ap as_script first_asks))
      ∙ ap asked_by is
      ∙ ap (λ made. Ok (answer_lines 1 done.answers
      ++ (option_map_or (process_list (heading_now choice.rules ask.process) table w.tree) made [] ++ []))) is
      ∙ ap (λ list. Ok (answer_lines 1 done.answers ++ list))
      (append-nil (process_list (heading_now choice.rules ask.process) table w.tree h)
      ∙ headed (heading_line (heading_now choice.rules ask.process)) (own_lines (heading_now choice.rules ask.process) (root_line w.tree h) h)
      (kept_lines w.tree h) (object_lines w.tree (shown_objects w.tree table h)))

  whole : images_text choice tree_bytes script_bytes whose ≡ Ok (images_after choice.rules served numbers)
  unfolding images_text
  whole =
      (λ i. posed_is choice tree_bytes script_bytes table t (before ++ ask ∷ after) given (ap as_listing read) (ap as_script scripted) i
      >>= λ p. images_asked choice.rules p whose)
      ∙ ap (λ asked. asked >>= λ numbers. Ok (images_after choice.rules served numbers)) named

  module _ (told : images_text choice tree_bytes script_bytes whose ≡ Ok text)
      (replaced : is_replaced numbers ask (apply table w ask).0 ≡ true) where
    abbrev earlier : List ℕ
    earlier = images_from choice.rules table (new_world t) numbers 1 before

    abbrev later : List ℕ
    later = images_from choice.rules table (apply table w ask).1 numbers (suc line) after

    one_more : 1 + length before ≡ line
    one_more = omega arith

    shown : images_from choice.rules table (new_world t) numbers 1 (before ++ ask ∷ after)
        ≡ earlier ++ (image_list_of line choice.rules table w ask.process ++ later)
    shown =
        images_behind choice.rules table (new_world t) numbers 1 before (ask ∷ after)
        ∙ (λ i. earlier ++ images_from choice.rules table w numbers (one_more i) (ask ∷ after))
        ∙ ap (λ replaced. earlier ++ (image_if replaced (image_list_of line choice.rules table w ask.process) ++ later)) replaced

    okay : is_okay (apply table w ask).0 ≡ true
    okay = (and_parts (is_okay (apply table w ask).0) (is_member numbers ask.process)
        (and_parts (is_exec ask.action) (is_okay (apply table w ask).0 && is_member numbers ask.process) replaced).1).0

    written : IsImageWritten choice tree_bytes front (told_to table (new_world t) before) line ask.process text
    written =
        let kept = kept_before table w ask okay in
        let answers : List ℕ = answer_lines 1 (told_to table (new_world t) (before ++ ask ∷ after)) in
        let lists : List ℕ = lists_of choice.rules table (world_after table (new_world t) (before ++ ask ∷ after)) numbers in
        record {
          rest = rest kept.0;
          image = (
            answers ++ earlier,
            later ++ lists,
            same_Ok text (images_after choice.rules served numbers) (sym told ∙ whole)
                ∙ ap (λ images. (answers ++ images) ++ lists) (shown ∙ ap (λ image. earlier ++ (image ++ later)) (image_is kept.0 kept.1))
                ∙ part answers earlier (heading_line (heading_before line choice.rules ask.process) ++ rest kept.0) later lists,
          );
          list = list_is_rest kept.0 kept.1;
        }

pub images_as_written : ImagesAsWritten
images_as_written choice tree_bytes script_bytes front table t before after ask whose numbers text given read scripted cut named told replaced =
    written choice tree_bytes script_bytes front table t before after ask whose numbers text given read scripted cut named told replaced
