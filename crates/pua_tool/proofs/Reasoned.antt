-- What the reasons say that were written.
use Rattle.pua_tool.proofs.Common.{◌≡◌, ◌∙◌, ◌∷◌, [], ℕ, List, ◌++◌, ap, refl, sym, subst, map, flat_map, Ok, Err, Option, Some, None, Result, CallTable, Tree}
use Rattle.pua_tool.proofs.Common.{Asked, World, ProcessState, kept_at, new_world, world_after, with_end, listing, script_by, arith}
use Rattle.pua_tool.proofs.Common.{Chosen, table_by, as_listing, as_script, ToolFault, ◌>>=◌}
use Rattle.std.proofs.Common.{suc, inl, inr, Bool, true, false, cond, length, append-nil}
use Rattle.std.proofs.lemmas.Bool.{and_parts, and_from, eq-eqb, false≢true}
use Rattle.std.proofs.lemmas.List.{length-append}
use Rattle.std.proofs.lemmas.List.Folds.{list_all-append}
use Rattle.std.specs.List.{Contains}
use Rattle.std.specs.Option.{option_map_or}
use Rattle.std.specs.Prelude.{◌&&◌, IsTrue, bit_or, decimal, if◌then◌else◌, is_some, unwrap_or}
use Rattle.pua_tree.specs.Tree.{WellFormed, climb}
use Rattle.pua_tree.proofs.ForCallers.{same_Ok, Err≢Ok}
use Rattle.pua_path.specs.declared.found.Found.TheVariants.{Slot}
use Rattle.pua_calls.specs.Calls.{calls, rule_of}
use Rattle.pua_calls.specs.Promises.{holds}
use Rattle.pua_calls.specs.declared.call.Call.{Call}
use Rattle.pua_policy.specs.States.{has_veil, held_set, is_ended, may_any, perms_kept, veil_at, veils}
use Rattle.pua_policy.specs.Laws.{places_over}
use Rattle.pua_policy.specs.ReasonLaws.{CoveringHolds, PromisingHolds}
use Rattle.pua_policy.specs.Reasons.{Promising, Holds, HasEnded, Lacks, first_kept, kept_or, may_of, promising}
use Rattle.pua_policy.specs.Verdict.{if_promised, is_allowed}
use Rattle.pua_policy.specs.declared.answer.May.{May}
use Rattle.pua_policy.specs.declared.answer.May.TheVariants.{Yes, Enosys, Death}
use Rattle.pua_policy.specs.declared.answer.Verdict.{Verdict}
use Rattle.pua_policy.specs.declared.place.Place.{Place}
use Rattle.pua_policy.specs.declared.place.Place.TheVariants as place
use Rattle.pua_policy.specs.declared.reason.Covering.{Covering}
use Rattle.pua_policy.specs.declared.reason.Covering.TheVariants.{InView, NoneOver, By}
use Rattle.pua_policy.proofs.ForCallers.{coverings_hold, holds_through, lackings_hold, promisings_answer, promisings_hold}
use Rattle.pua_script.specs.AnswerTexts.{answer_text}
use Rattle.pua_script.specs.Bytes.{IsByteTree, is_in_bytes, are_in_bytes}
use Rattle.pua_script.specs.Requests.{says_nothing}
use Rattle.pua_script.proofs.ForCallers.{replays_keep_byte_trees, listings_list_byte_trees, scripts_ask_in_bytes}
use Rattle.pua_objects.specs.Objects.{Line, Item, Subject, At, Others, calls_on, has_calls, is_named_by, items, line_of, objects, subject_verdict}
use Rattle.pua_objects.specs.Roots.{is_shown, shown_objects}
use Rattle.pua_objects.proofs.ForCallers.{Among, among_contained, filter_among, map_among}
use Rattle.pua_ever.proofs.ForCallers.{first_new, first_of, second_of}
use Rattle.pua_why.specs.Columns.{let_by, resting_on, veil_columns}
use Rattle.pua_why.specs.Keys.{reason_key}
use Rattle.pua_why.specs.Openings.{opened_by, opener_text}
use Rattle.pua_why.specs.Reasons.{Fault, Ended, reason, reason_by, reason_of, request_fault}
use Rattle.pua_why.specs.Since.{IsSince, TurnsAt, forebear, since}
use Rattle.pua_why.specs.Texts.{answer_why, date_of, has_key, has_veil_on, letters_text, place_text, reason_text, since_text}
use Rattle.pua_why.specs.Texts.{line_said, spaced_words, why_lines}
use Rattle.pua_why.proofs.ForCallers.{full_trees_are_full, reasons_give_answers, reasons_since, request_faults_hold, since_holds, so_at_first}
use Rattle.pua_texts.specs.ObjectLines.{heading_now}
use Rattle.pua_texts.specs.States.{head_lines}
use Rattle.pua_texts.specs.WhyLines.{ServedScript, covering_of, why_line, why_list, why_lists_of, world_left}
use Rattle.pua_words.specs.declared.command.Processes.TheVariants.{One}
use Rattle.pua_tool.specs.Reasoned.{AreReasonsTold, IsCovered, IsFirstTold, IsLineReasoned, IsListReasoned, IsReasonTold, IsRunReasoned, IsVeilTold}
use Rattle.pua_tool.specs.Reasoned.{ReasonHolds, ReasonsAsWritten}
use Rattle.pua_tool.specs.WhyTexts.{objects_why_text, served_script, reason_lines, run_why_text, why_lists_asked}
use Rattle.pua_tool.specs.declared.fault.ToolFault.TheVariants.{NoProcess}
use Rattle.pua_tool.proofs.ListWritten.{behind, in_lines}
use Rattle.pua_tool.proofs.WhyTexts.{posed_is}

-- ---- a reason

-- what a reason says is so
reason_holds : (table : CallTable) (w : World) (ask : Asked) → WellFormed w.tree → ReasonHolds table w ask (reason table w ask)
reason_holds table w ask well = by (kept_at w ask.process) refl
  where
    faulty : (h : ProcessState) → kept_at w ask.process ≡ Some h → is_ended h ≡ false → (o : Option Fault) →
        request_fault table w h ask.action ≡ o → ReasonHolds table w ask (reason_of o)
    faulty h is lives None none = tt
    faulty h is lives (Some fault) some = (
      h,
      is,
      lives,
      request_faults_hold table w h ask.action fault some,
      λ full. full_trees_are_full table w h ask.action well (some ∙ ap Some full),
    )

    living : (h : ProcessState) → kept_at w ask.process ≡ Some h → (b : Bool) → is_ended h ≡ b →
        ReasonHolds table w ask (cond b Ended (reason_of (request_fault table w h ask.action)))
    living h is true ended = (h, is, ended)
    living h is false lives = faulty h is lives (request_fault table w h ask.action) refl

    by : (made : Option ProcessState) → kept_at w ask.process ≡ made → ReasonHolds table w ask (reason_by table w ask.action made)
    by None is = is
    by (Some h) is = living h is (is_ended h) refl

module _ (table : CallTable) (w : World) (tree : IsByteTree w.tree) where
  line_told : (before : List Asked) (ask : Asked) (n : ℕ) → are_in_bytes before ≡ true → n ≡ suc (length before) →
      IsReasonTold table w before ask (decimal n ++ 32 ∷ answer_why table w before ask)
  line_told before ask n bytes is =
      let left = world_after table w before in
      let why = reason table left ask in
      let left_tree : IsByteTree left.tree = replays_keep_byte_trees table w before tree bytes in
      let turned = since (has_key table ask (reason_key why)) table w 1 before ask.process in
      record {
        why = why;
        turned = turned;
        is_line = λ i. decimal (is i) ++ 32 ∷ ((answer_text (reasons_give_answers table left ask i) ++ spaced_words (reason_text left.tree why))
            ++ (since_text (date_of why turned) ++ opener_text (opened_by table left ask)));
        answers = reasons_give_answers table left ask;
        holds = reason_holds table left ask left_tree.tree;
        since = reasons_since table w before ask;
      }

  first_told : (ask : Asked) (before : List Asked) (n : ℕ) (more : List (List ℕ)) → are_in_bytes before ≡ true → n ≡ suc (length before) →
      IsFirstTold table w before ask (says_nothing ask.action)
      (line_said ask (decimal n ++ 32 ∷ answer_why table w before ask) ++ more) more
  first_told ask before n more bytes is = by (says_nothing ask.action)
    where
      by : (silent : Bool) → IsFirstTold table w before ask silent
          ((if silent then [] else (decimal n ++ 32 ∷ answer_why table w before ask) ∷ []) ++ more) more
      by true = refl
      by false = (decimal n ++ 32 ∷ answer_why table w before ask, refl, line_told before ask n bytes is)

  reasons_told : (asks before : List Asked) (n : ℕ) → are_in_bytes before ≡ true → are_in_bytes asks ≡ true → n ≡ suc (length before) →
      AreReasonsTold table w before asks (why_lines table w before n asks)
  reasons_told [] before n bytes more is = refl
  reasons_told (ask ∷ asks) before n bytes more is =
      let parts = and_parts (is_in_bytes ask.action) (are_in_bytes asks) more in (
        why_lines table w (before ++ ask ∷ []) (suc n) asks,
        first_told ask before n (why_lines table w (before ++ ask ∷ []) (suc n) asks) bytes is,
        reasons_told asks (before ++ ask ∷ []) (suc n)
            (list_all-append (λ ask. is_in_bytes ask.action) before (ask ∷ [])
            ∙ and_from (are_in_bytes before) (is_in_bytes ask.action && true) bytes (and_from (is_in_bytes ask.action) true parts.0 refl))
            parts.1 (omega (arith, is, length-append before (ask ∷ []))),
      )

-- ---- the columns of a line

-- what is allowed rests on promises that are held
promised : (m : May) (v : Verdict) → is_allowed (if_promised m v) ≡ true → m ≡ Yes
promised Yes v e = refl
promised Enosys v e = absurd (false≢true e)
promised Death v e = absurd (false≢true e)

let_set : (p : Promising) → may_of p ≡ Yes → (set : ℕ) × (p ≡ Holds set)
let_set (Holds set) e = (set, refl)
let_set HasEnded e = cc
let_set (Lacks true sets) e = cc
let_set (Lacks false sets) e = cc

module _ (table : CallTable) (t : Tree) (h : ProcessState) where
  may_call : (c : Call) (subject : Subject) → is_allowed (subject_verdict t table h c subject) ≡ true → may_any h (rule_of table c).alternatives ≡ Yes
  may_call c (At object) e = promised (may_any h (rule_of table c).alternatives) _ e
  may_call c (Others dir) e = promised (may_any h (rule_of table c).alternatives) _ e

  -- and those are among what all calls of a line rest on
  among_resting : (cs : List Call) (c : Call) → Among cs c → (set : ℕ) → promising h (rule_of table c).alternatives ≡ Holds set →
      holds (resting_on table h cs) set ≡ true
  among_resting [] c a set is = absurd a
  among_resting (d ∷ cs) c (inl same) set is =
      subst (λ own. holds (bit_or own (resting_on table h cs)) set ≡ true) (sym (ap let_by (ap (λ d. promising h (rule_of table d).alternatives) same ∙ is)))
      (first_of set (resting_on table h cs))
  among_resting (d ∷ cs) c (inr a) set is =
      let own = let_by (promising h (rule_of table d).alternatives) in
      holds_through (bit_or own (resting_on table h cs)) (resting_on table h cs) set (second_of own (resting_on table h cs))
      (among_resting cs c a set is)

  abbrev Rests : Line → Type 0
  Rests line = (call : Call) → Contains line.calls call → (set : ℕ) × (promising h (rule_of table call).alternatives ≡ Holds set)
      × IsTrue (holds (held_set h) set) × IsTrue (holds (resting_on table h line.calls) set)

  item_rests : (item : Item) → Rests (line_of t table h item)
  item_rests item call there =
      let cs = calls_on t table h item.subject in
      let among = among_contained cs call there in
      let sets = (rule_of table call).alternatives in
      let test = filter_among (λ c. is_named_by t c item.subject && is_allowed (subject_verdict t table h c item.subject)) calls call among in
      let parts = and_parts (is_named_by t call item.subject) (is_allowed (subject_verdict t table h call item.subject)) test.1 in
      let set = let_set (promising h sets) (promisings_answer h sets ∙ may_call call item.subject parts.1) in
      let held : PromisingHolds h sets (Holds set.0) = subst (PromisingHolds h sets) set.1 (promisings_hold h sets) in
      (set.0, set.1, held.0, among_resting cs call among set.0 set.1)

  line_rests : (line : Line) → Contains (shown_objects t table h) line → Rests line
  line_rests line there =
      let listed = filter_among (λ (l : Line). is_shown t h l.subject) (objects t table h) line (among_contained (shown_objects t table h) line there) in
      let a = filter_among has_calls (map (line_of t table h) (items t (veils h))) line listed.0 in
      let from = map_among (line_of t table h) (items t (veils h)) line a.0 in
      subst Rests from.2 (item_rests from.0)

  -- what covers it is so
  line_covered : (subject : Subject) → IsCovered t h subject (covering_of t h subject)
  line_covered (At object) = (coverings_hold t h object).1
  line_covered (Others dir) = λ name none.
      subst (CoveringHolds t h (Slot dir name None))
      (ap (λ o. cond (has_veil h.veils) (kept_or (place.Slot dir name) o (first_kept (veil_at h.veils) (map place.Dir (climb t dir)))) InView) none)
      (coverings_hold t h (Slot dir name None)).1

  -- and the veil is kept at its place
  kept_first : (places : List Place) (at : Place) (given : ℕ) → first_kept (veil_at h.veils) places ≡ By at given → veil_at h.veils at ≡ Some given
  kept_first [] at given e = cc
  kept_first (p ∷ ps) at given e = by (veil_at h.veils p) refl (kept_first ps at given) e
    where
      by : (o : Option ℕ) → veil_at h.veils p ≡ o → (first_kept (veil_at h.veils) ps ≡ By at given → veil_at h.veils at ≡ Some given) →
          kept_or p o (first_kept (veil_at h.veils) ps) ≡ By at given → veil_at h.veils at ≡ Some given
      by (Some perms) is later e =
          let place_is : p ≡ at = cc in
          let perms_is : perms ≡ given = cc in
          ap (veil_at h.veils) (sym place_is) ∙ is ∙ ap Some perms_is
      by None is later e = later e

  kept_over : (places : List Place) (at : Place) (given : ℕ) → cond (has_veil h.veils) (first_kept (veil_at h.veils) places) InView ≡ By at given →
      veil_at h.veils at ≡ Some given
  kept_over places at given = by (has_veil h.veils)
    where
      by : (b : Bool) → cond b (first_kept (veil_at h.veils) places) InView ≡ By at given → veil_at h.veils at ≡ Some given
      by true e = kept_first places at given e
      by false e = cc

  kept_by : (subject : Subject) (at : Place) (given : ℕ) → covering_of t h subject ≡ By at given → veil_at h.veils at ≡ Some given
  kept_by (At object) at given e = kept_over (places_over t object) at given e
  kept_by (Others dir) at given e = kept_over (map place.Dir (climb t dir)) at given e

-- ---- since when a veil is there

module _ (table : CallTable) (t : Tree) (asks : List Asked) (process : ℕ) (h : ProcessState) (at : Place) (given : ℕ) where
  abbrev w : World
  w = new_world t

  none_yet : (n : ℕ) → has_veil_on at given w n ≡ false
  none_yet n = by (kept_at w n) refl
    where
      by : (o : Option ProcessState) → kept_at w n ≡ o → has_veil_on at given w n ≡ false
      by None is = rw is refl
      by (Some f) is = rw is (rw (first_new t (λ f. perms_kept f at ≡ None) refl n f is) refl)

  put_there : kept_at (world_after table w asks) process ≡ Some h → perms_kept h at ≡ Some given →
      (line : ℕ) × (since (has_veil_on at given) table w 1 asks process ≡ Some line) × TurnsAt (has_veil_on at given) table w 1 asks process line
  put_there here kept =
      by (since (has_veil_on at given) table w 1 asks process) refl (since_holds (has_veil_on at given) table w 1 asks process stands)
    where
      stands : has_veil_on at given (world_after table w asks) process ≡ true
      stands = rw here (rw kept (eq-eqb given given refl))

      by : (o : Option ℕ) → since (has_veil_on at given) table w 1 asks process ≡ o → IsSince (has_veil_on at given) table w 1 asks process o →
          (line : ℕ) × (since (has_veil_on at given) table w 1 asks process ≡ Some line)
          × TurnsAt (has_veil_on at given) table w 1 asks process line
      by (Some line) is turns = (line, is, turns)
      by None is so = absurd (false≢true (sym (none_yet (forebear table w asks process))
          ∙ so_at_first (has_veil_on at given) table w asks process so))

veil_told : (table : CallTable) (t : Tree) (asks : List Asked) (process : ℕ) (h : ProcessState) →
    kept_at (world_after table (new_world t) asks) process ≡ Some h → (over : Covering) →
    ((at : Place) (given : ℕ) → over ≡ By at given → veil_at h.veils at ≡ Some given) →
    IsVeilTold table (new_world t) asks process over (veil_columns table (new_world t) asks process over)
veil_told table t asks process h here (By at given) kept =
    let line = put_there table t asks process h at given here (kept at given refl) in (
      line.0,
      ap (λ o. place_text (world_after table (new_world t) asks).tree at ++ 32 ∷ letters_text given ++ 32 ∷ decimal (unwrap_or o 0)) line.1,
      line.2,
    )
veil_told table t asks process h here InView kept = refl
veil_told table t asks process h here NoneOver kept = refl

-- ---- the texts

module _ (choice : Chosen) (tree_bytes script_bytes : List ℕ) (table : CallTable) (t : Tree) (asks : List Asked) (text : List ℕ)
    (given : table_by choice ≡ Ok table) (read : listing tree_bytes ≡ Ok t) (scripted : script_by choice.rules script_bytes ≡ Ok asks) where
  abbrev served : ServedScript
  served = record { table = table; world = new_world t; asks = asks }

  abbrev left : World
  left = world_left served

  abbrev lines : List (List ℕ)
  lines = why_lines table (new_world t) [] 1 asks

  is_served : served_script choice tree_bytes script_bytes ≡ Ok served
  is_served = posed_is choice tree_bytes script_bytes table t asks given (ap as_listing read) (ap as_script scripted)

  told : AreReasonsTold table (new_world t) [] asks lines
  told = reasons_told table (new_world t) (listings_list_byte_trees tree_bytes t read) asks [] 1 refl
      (scripts_ask_in_bytes choice.rules script_bytes asks scripted) refl

  run_reasoned : run_why_text choice tree_bytes script_bytes ≡ Ok text → IsRunReasoned table t asks text
  run_reasoned is = record {
    lines = lines;
    is_text = sym (same_Ok (reason_lines served) text
        ((λ i. sym is_served i >>= λ p. Ok (reason_lines p)) ∙ is));
    told = told;
  }

  module _ (process : ℕ) (is : objects_why_text choice tree_bytes script_bytes (One process) ≡ Ok text) where
    abbrev asked_by : Option ProcessState → Result (List ℕ) ToolFault
    asked_by made = (if is_some made && true then Ok (process ∷ []) else Err NoProcess)
        >>= λ numbers. Ok (reason_lines served ++ why_lists_of choice.rules served numbers)

    after : asked_by (kept_at left process) ≡ Ok text
    unfolding objects_why_text
    after = (λ i. sym is_served i >>= λ p. why_lists_asked choice.rules p (One process)) ∙ is

    abbrev own : ProcessState → List ℕ
    own h = why_list (heading_now choice.rules process) served h

    abbrev front : List ℕ
    front = flat_map with_end lines

    reasoned : IsListReasoned choice.rules table t asks process text
    reasoned = by (kept_at left process) refl
      where
        whole : (h : ProcessState) → kept_at left process ≡ Some h → text ≡ front ++ own h
        whole h here =
            sym (same_Ok (reason_lines served ++ why_lists_of choice.rules served (process ∷ [])) text (sym (ap asked_by here) ∙ after))
            ∙ ap (λ made. front ++ (option_map_or own made [] ++ [])) here ∙ ap (λ list. front ++ list) (append-nil (own h))

        line_reasoned : (h : ProcessState) → kept_at left process ≡ Some h → (line : Line) → Contains (shown_objects left.tree table h) line →
            IsLineReasoned table t asks process h line text
        line_reasoned h here line listed =
            let over = covering_of left.tree h line.subject in
            let head = head_lines left.tree (heading_now choice.rules process) h in
            let found = in_lines (why_line served process h) (shown_objects left.tree table h) line listed in
            record {
              over = over;
              stands = (
                front ++ head ++ found.0,
                found.1,
                whole h here ∙ ap (λ lines. front ++ (head ++ lines)) found.2 ∙ behind front head found.0 (why_line served process h line) found.1,
              );
              rests = line_rests table left.tree h line listed;
              covered = line_covered table left.tree h line.subject;
              veil = veil_told table t asks process h here over (kept_by table left.tree h line.subject);
            }

        by : (made : Option ProcessState) → kept_at left process ≡ made → IsListReasoned choice.rules table t asks process text
        by None is = absurd (Err≢Ok NoProcess text (sym (ap asked_by is) ∙ after))
        by (Some h) is = record {
          now = h;
          here = is;
          lines = lines;
          is_text = whole h is;
          told = told;
          reasoned = line_reasoned h is;
        }

pub reasons_as_written : ReasonsAsWritten
reasons_as_written = record {
  runs = λ choice tree_bytes script_bytes table t asks text given read scripted is.
      run_reasoned choice tree_bytes script_bytes table t asks text given read scripted is;
  lists = λ choice tree_bytes script_bytes table t asks process text given read scripted is.
      reasoned choice tree_bytes script_bytes table t asks text given read scripted process is;
  exact = lackings_hold;
}
