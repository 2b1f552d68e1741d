-- What a tightened script that was written is.
use Rattle.pua_tool.proofs.Common.{◌≡◌, ◌∙◌, ℕ, List, [], ◌∷◌, ap, refl, sym, subst, Err, Ok, Option, Some, None, Result, ◌>>=◌, Tree, listing}
use Rattle.pua_tool.proofs.Common.{CallTable, Asked, script_by, World, new_world, answers_to, world_after, answer_lines, Chosen}
use Rattle.pua_tool.proofs.Common.{table_by, as_listing, as_script, ProcessState}
use Rattle.std.specs.Prelude.{if◌then◌else◌, is_some, bit_or}
use Rattle.pua_script.specs.Replay.{told}
use Rattle.pua_script.specs.Requests.{says_nothing}
use Rattle.pua_script.specs.declared.answer.Answer.{Answer}
use Rattle.pua_script.specs.declared.request.Action.{Action}
use Rattle.pua_tree.proofs.ForCallers.{same_Ok}
use Rattle.pua_calls.specs.Calls.{about_rules, table_by_rules}
use Rattle.pua_calls.specs.declared.rules.Rules.{Rules}
use Rattle.pua_calls.specs.declared.rules.Rules.TheVariants.{Standard}
use Rattle.pua_why.specs.Openings.{told_plainly}
use Rattle.pua_why.proofs.ForCallers.{answers_are_told}
use Rattle.pua_tool.proofs.Common.{map, told_to}
use Rattle.std.specs.Prelude.{false, option_map}
use Rattle.pua_calls.specs.Promises.{error}
use Rattle.pua_calls.specs.Tables.{NoCallNeedsError}
use Rattle.pua_calls.specs.TmpTable.{tmp_table}
use Rattle.pua_calls.proofs.ForCallers.{tmp_table_needs_no_error}
use Rattle.pua_script.proofs.ForCallers.{replays_keep_byte_trees, listings_list_byte_trees, scripts_ask_in_bytes}
use Rattle.pua_script.specs.declared.fault.ScriptFault.{ScriptFault}
use Rattle.pua_tight.specs.Narrower.{ActionWithin, as_given, less_pledged, less_unveiled, AsksWithin, no_asks, asks, StateWithin, WorldWithin}
use Rattle.pua_tight.specs.Tight.{Line, lines_of, tight}
use Rattle.pua_tight.specs.Texts as texts
use Rattle.pua_tight.specs.Laws.{IsTightened, IsScriptOfLines, RestOnOne, HasOneWay, Stay, openers}
use Rattle.pua_tight.proofs.ForCallers.{tightens, scripts_are_tightened, tight_is_minimal, tight_is_least, rules_rest, tight_texts_are_read}
use Rattle.pua_tight.proofs.ForCallers.{FoundWithin, never, made, found_within, allows_no_more, futures_within, lists_no_more}
use Rattle.pua_tight.proofs.ForCallers.{lists_no_more_for_ever, lasts_no_more, shows_alike, shows_no_more, worlds_come_to_no_more}
use Rattle.pua_tool.specs.Texts.{run_text}
use Rattle.pua_tool.specs.TightTexts.{as_tight, tight_text}
use Rattle.pua_tool.specs.Fewest.{MayDoNoMore, LeavesNoMore, IsTightWritten, TightAsWritten}
use Rattle.pua_tool.proofs.Replays.{replayed_is}
use Rattle.pua_tool.proofs.Tables.{tables_are_by_rules, tables_need_no_error}
use Rattle.pua_tool.proofs.TmpTables.{bound_too}

-- a process that lies within another
may_do_no_more : (table : CallTable) → NoCallNeedsError table → (less given : ProcessState) → StateWithin less given →
    MayDoNoMore table less given
may_do_no_more table sound less given inside = record {
  ended = inside.ended;
  calls = allows_no_more table less given inside;
  listed = lists_no_more table less given inside;
  shown = shows_alike less given inside;
  shown_ever = shows_no_more less given inside;
  ever = lists_no_more_for_ever (tmp_table table) less given inside;
  lasting = λ t well alike.
      lasts_no_more (tmp_table table) (tmp_table_needs_no_error table sound) less given inside t well
      (λ none. bound_too table less ∙ alike (sym (bound_too table given) ∙ none));
}

-- what two worlds have of one number, where one lies within the other
made_alike : {o p : Option ProcessState} → FoundWithin o p → is_some o ≡ is_some p
made_alike never = refl
made_alike (made inside) = refl

both_within : {o p : Option ProcessState} → FoundWithin o p → (h k : ProcessState) → o ≡ Some h → p ≡ Some k → StateWithin h k
both_within never h k here there = cc
both_within (made {h = g} {k = l} inside) h k here there =
    let inner : g ≡ h = cc in
    let outer : l ≡ k = cc in
    subst (λ (h : ProcessState). StateWithin h k) inner (subst (StateWithin g) outer inside)

leaves_no_more : (table : CallTable) → NoCallNeedsError table → (less given : World) → WorldWithin less given →
    LeavesNoMore table less given
leaves_no_more table sound less given inside = record {
  tree = inside.tree;
  made = λ process. made_alike (found_within inside.processes process);
  processes = λ process h k here there.
      may_do_no_more table sound h k (both_within (found_within inside.processes process) h k here there);
  jointly = worlds_come_to_no_more less given inside;
}

-- requests that have less are asked on the same lines
silent_alike : {less given : Action} → ActionWithin less given → says_nothing less ≡ says_nothing given
silent_alike as_given = refl
silent_alike (less_pledged first second) = refl
silent_alike (less_unveiled held) = refl

told_within : {xs ys : List Asked} → AsksWithin xs ys → (answers : List Answer) → told xs answers ≡ told ys answers
told_within no_asks answers = refl
told_within (asks first rest) [] = refl
told_within (asks first rest) (answer ∷ answers) =
    λ i. (if silent_alike first.action i then None else Some answer) ∷ told_within rest answers i

same_told : {xs ys : List Asked} {before after : List Answer} → AsksWithin xs ys → before ≡ after → told xs before ≡ told ys after
same_told {xs = xs} {after = after} within same = ap (told xs) same ∙ told_within within after

-- a text of a script without a fault
text_is : (read : Result (List ℕ) ScriptFault) (text : List ℕ) → as_tight (texts.as_script read) ≡ Ok text → read ≡ Ok text
text_is (Ok other) text is = let same : other ≡ text = cc in ap Ok same
text_is (Err fault) text is = cc

-- the table of the rules alone
rules_alone : (choice : Chosen) (table : CallTable) → table_by choice ≡ Ok table → choice.rows ≡ None → table_by_rules choice.rules ≡ table
rules_alone choice table chosen none = same_Ok (table_by_rules choice.rules) table
    (sym (ap (λ (rows : Option (List ℕ)). table_by (record { rules = choice.rules; rows = rows })) none) ∙ chosen)

module _ (choice : Chosen) (tree_bytes script_bytes : List ℕ) (table : CallTable) (t : Tree) (given : List Asked) (text : List ℕ)
    (chosen : table_by choice ≡ Ok table) (listed : listing tree_bytes ≡ Ok t) (scripted : script_by choice.rules script_bytes ≡ Ok given)
    (told : tight_text choice tree_bytes script_bytes ≡ Ok text) where
  abbrev w : World
  w = new_world t

  abbrev lines : List Line
  lines = lines_of table w given

  abbrev left : List Asked
  left = tight table w lines

  is_tight : IsTightened table w lines
  is_tight = tightens table w lines

  is_script : IsScriptOfLines table w given
  is_script = scripts_are_tightened table w given

  over : as_tight (texts.text_over choice.rules table tree_bytes script_bytes) ≡ Ok text
  unfolding tight_text
  over = (λ i. sym chosen i >>= λ table. as_tight (texts.text_over choice.rules table tree_bytes script_bytes)) ∙ told

  written : texts.tight_text choice.rules table t script_bytes ≡ Ok text
  written = text_is (texts.tight_text choice.rules table t script_bytes) text
      ((λ i. as_tight (texts.as_listing (sym listed i) >>= λ t. texts.as_script (texts.tight_text choice.rules table t script_bytes))) ∙ over)

  read : script_by choice.rules text ≡ Ok left
  read =
      let parts = tight_texts_are_read choice.rules table t script_bytes text written in
      let same : parts.0 ≡ given = same_Ok parts.0 given (sym parts.1 ∙ scripted) in
      parts.2 ∙ (λ i. Ok (tight table w (lines_of table w (same i))))

  same_answers : answers_to table w left ≡ answers_to table w given
  same_answers = is_tight.same ∙ ap (answers_to table w) is_script.asks

  run_is : (bytes : List ℕ) (requests : List Asked) → script_by choice.rules bytes ≡ Ok requests →
      run_text choice tree_bytes bytes ≡ Ok (answer_lines 1 (told_to table w requests))
  run_is bytes requests is =
      let replayed = replayed_is choice tree_bytes bytes table t requests chosen (ap as_listing listed) (ap as_script is) in
      λ i. replayed i >>= λ done. Ok (answer_lines 1 done.answers)

  sound : NoCallNeedsError table
  sound = tables_need_no_error choice table chosen

  inner : WorldWithin (world_after table w left) (world_after table w given)
  inner = subst (λ (asks : List Asked). WorldWithin (world_after table w left) (world_after table w asks)) is_script.asks is_tight.narrower

  left_within : AsksWithin left given
  left_within = subst (λ (asks : List Asked). AsksWithin left asks) is_script.asks is_tight.within

  -- by the standard rules nothing is opened
  told_alike : choice.rules ≡ Standard → told_to table w left ≡ told_to table w given
  told_alike standard =
      let none : (about_rules table.whose).has_openings ≡ false =
      ap (λ (rules : Rules). (about_rules rules).has_openings) (tables_are_by_rules choice table chosen ∙ standard) in
      answers_are_told.unopened table none w left
      ∙ ap (map (option_map told_plainly)) (same_told left_within same_answers)
      ∙ sym (answers_are_told.unopened table none w given)

  tight_written : IsTightWritten choice tree_bytes script_bytes table t given text
  tight_written = record {
    left = left;
    read = read;
    within = left_within;
    same = same_answers;
    same_text = λ standard. run_is text left read ∙ ap (λ told. Ok (answer_lines 1 told)) (told_alike standard)
        ∙ sym (run_is script_bytes given scripted);
    well = (replays_keep_byte_trees table w given (listings_list_byte_trees tree_bytes t listed)
        (scripts_ask_in_bytes choice.rules script_bytes given scripted)).tree;
    narrower = leaves_no_more table sound (world_after table w left) (world_after table w given) inner;
    futures = λ later granted.
        let behind = futures_within table (world_after table w left) (world_after table w given) later inner granted in (
          behind.0,
          leaves_no_more table sound (world_after table (world_after table w left) later)
              (world_after table (world_after table w given) later) behind.1,
        );
    minimal = λ index piece may some alike.
        tight_is_minimal table w lines index piece is_script.okay may some (alike ∙ ap (answers_to table w) (sym is_script.asks));
    least = λ one less leaves alike.
        tight_is_least table w lines less (subst (λ (asks : List Asked). RestOnOne table asks) (sym is_script.asks) one.0) is_script.okay
        (subst (λ (asks : List Asked). Stay (bit_or error (openers table asks)) lines) (sym is_script.asks) (is_script.stay one.1)) leaves (alike ∙ ap (answers_to table w) (sym is_script.asks));
    one_way = λ none some.
        subst (λ (other : CallTable). HasOneWay other given) (rules_alone choice table chosen none) (rules_rest choice.rules script_bytes given
        scripted some);
  }

pub tight_as_written : TightAsWritten
tight_as_written choice tree_bytes script_bytes table t given text chosen listed scripted told =
    tight_written choice tree_bytes script_bytes table t given text chosen listed scripted told
