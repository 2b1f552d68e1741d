-- What a list for ever that was written says of the future.
use Rattle.pua_tool.proofs.Common.{◌≡◌, ◌≢◌, ◌∙◌, ◌∷◌, [], ℕ, List, ◌++◌, ap, refl, sym, subst, Ok, Option, Some, None, CallTable, Tree, Asked, World}
use Rattle.pua_tool.proofs.Common.{ProcessState, kept_at, new_world, told_to, world_after, answer_lines, listing, script_by, Chosen, Replayed}
use Rattle.pua_tool.proofs.Common.{Result, table_by, as_listing, as_script, replay_of, unless_reason, ToolFault}
use Rattle.std.proofs.Common.{◌⊎◌, inl, inr, Bool, true, false}
use Rattle.std.specs.Prelude.{IsTrue, ok_or}
use Rattle.pua_tree.specs.Steps.{◌>>=◌}
use Rattle.pua_tree.proofs.ForCallers.{same_Ok, Err≢Ok}
use Rattle.pua_calls.specs.declared.rules.Rules.{Rules}
use Rattle.pua_policy.specs.States.{is_ended}
use Rattle.pua_script.specs.Bytes.{are_in_bytes}
use Rattle.pua_script.specs.Family.{family, is_member, is_exec, none_done, HasKept}
use Rattle.pua_script.specs.Laws.{IsConfined}
use Rattle.pua_ever.specs.Refusals.{refusal}
use Rattle.pua_ever.specs.declared.refusal.EverRefusal.{EverRefusal}
use Rattle.pua_ever.proofs.ForCallers.{ever_shown_after_read, none_shown_after_read, shown_starts_bounded, shown_starts_open, unrefused_process}
use Rattle.pua_ever.proofs.ForCallers.{unrefused_table}
use Rattle.pua_ever.specs.EnclosedForEver.{ForeseesShown}
use Rattle.pua_ever.specs.Laws.{MembersEdit}
use Rattle.pua_ever.specs.Ever.{EverLine, ever_line_text}
use Rattle.pua_texts.specs.EverLines.{heading_ever}
use Rattle.pua_texts.specs.States.{head_lines}
use Rattle.pua_tool.proofs.Common.{with_end}
use Rattle.pua_tool.proofs.ListWritten.{behind, in_lines}
use Rattle.pua_ever.specs.ShownForEver.{execs_shown, shown_ever, shown_lasting, shown_longest}
use Rattle.pua_ever.specs.Through.{bound_of, has_exec}
use Rattle.pua_ever.specs.declared.lasting_list.ExecBound.TheVariants.{Open}
use Rattle.pua_texts.specs.EverLines.{ever_list}
use Rattle.pua_tool.specs.EverTexts.{ever_after, ever_fault, ever_text}
use Rattle.pua_tool.specs.Forever.{EverAsWritten, IsEverWritten, IsForeseenBehind}
use Rattle.pua_tool.specs.declared.fault.ToolFault.TheVariants.{NoProcess}
use Rattle.pua_tool.proofs.Replays.{replayed_is}
use Rattle.pua_tool.proofs.Tables.{tables_are_by_rules, tables_need_no_error}
use Rattle.pua_tool.proofs.TmpTables.{bound_too}
use Rattle.pua_tool.proofs.Okays.{allowed_by, in_text, named_within, opened_by_rules, opening_held}
use Rattle.std.specs.Prelude.{bit_or, codes, unwrap_or}
use Rattle.pua_tree.proofs.ForCallers.{same_Some}
use Rattle.pua_calls.specs.Calls.{about_rules}
use Rattle.pua_calls.specs.TmpTable.{tmp_table}
use Rattle.pua_calls.specs.Promises.{no_promises, promises_of}
use Rattle.pua_calls.specs.declared.call.Call.{Call}
use Rattle.pua_policy.specs.States.{held_set, start}
use Rattle.pua_policy.specs.Verdict.{object_named, verdict_on}
use Rattle.pua_policy.proofs.ForCallers.{holds_through}
use Rattle.pua_script.specs.OpeningLaws.{Accounted, by_verdict, by_opening, may_open, OkaysAreAccounted, OpeningsAreHeld, OpeningsNarrow}
use Rattle.pua_script.specs.Openings.{Opening, holds_named, opens_call}
use Rattle.pua_script.specs.Tightening.{Tightens}
use Rattle.pua_script.proofs.ForCallers.{families_narrow, tmp_table_allows}
use Rattle.pua_ever.specs.Laws.{IsForeseenIn}
use Rattle.pua_ever.specs.Through.{AreWithin, FamiliesGoAlong, HoldsOne}
use Rattle.pua_ever.proofs.ForCallers.{bound_parts, first_of, second_of}
use Rattle.pua_texts.specs.EverLines.{ever_lines}
use Rattle.pua_texts.specs.Openings.{opening_text}
use Rattle.pua_texts.specs.RootLines.{root_line}
use Rattle.pua_texts.specs.States.{HasOpening, OpeningsArePrinted, heading_line, kept_lines, opening_set, own_lines}
use Rattle.pua_tool.specs.Forever.{AreOkaysForeseen}
use Rattle.pua_tool.specs.Listed.{HasLine}

-- what comes after the replay, by what the process keeps
abbrev after_by : Rules → Replayed → ℕ → ProcessState → Result (List ℕ) ToolFault
after_by rules done process h =
    unless_reason process (refusal done.table h)
    (answer_lines 1 done.answers ++ ever_list rules (tmp_table done.table) done.world.tree process h)

after_made : (rules : Rules) (done : Replayed) (process : ℕ) (h : ProcessState) → kept_at done.world process ≡ Some h →
    ever_after rules done process ≡ after_by rules done process h
after_made rules done process h is = ap (λ made. ok_or made NoProcess >>= after_by rules done process) is

ever_is : (choice : Chosen) (tree_bytes script_bytes : List ℕ) (process : ℕ) (done : Replayed) →
    replay_of choice tree_bytes script_bytes ≡ Ok done → ever_text choice tree_bytes script_bytes process ≡ ever_after choice.rules done process
unfolding ever_text
ever_is choice tree_bytes script_bytes process done r = λ i. r i >>= λ done. ever_after choice.rules done process

-- one of two sets is within both
pub within_one : (table : CallTable) (h last : ProcessState) (handed : ℕ) → HoldsOne table h handed last →
    AreWithin (held_set last) (bit_or (held_set h) handed)
within_one table h last handed (inl own) = λ set sound holding.
    holds_through (bit_or (held_set h) handed) (held_set h) set (first_of (held_set h) handed) (own.0 set sound holding)
within_one table h last handed (inr later) = λ set sound holding.
    holds_through (bit_or (held_set h) handed) handed set (second_of (held_set h) handed) (later.0 set sound holding)

module _ (choice : Chosen) (tree_bytes script_bytes : List ℕ) (table : CallTable) (t : Tree) (first : List Asked) (process : ℕ)
    (given : table_by choice ≡ Ok table) (read : listing tree_bytes ≡ Ok t) (scripted : script_by choice.rules script_bytes ≡ Ok first) where
  abbrev w : World
  w = world_after table (new_world t) first

  -- the table by which the list goes
  abbrev tmp : CallTable
  tmp = tmp_table table

  abbrev done : Replayed
  done = record { table = table; answers = told_to table (new_world t) first; world = w }

  module _ (h : ProcessState) (here : kept_at w process ≡ Some h) (none : refusal table h ≡ None) (confined : IsConfined h) (asks : List Asked)
      (bytes : IsTrue (are_in_bytes asks)) (edit : MembersEdit table w asks (process ∷ []))
      (held : (execs_shown w.tree tmp h ≢ Open) ⊎ IsTrue (none_done is_exec table w asks (process ∷ []))) where
    -- no exec of a member is answered ok where no line has one, or what is started is not bounded
    alone_unlisted : has_exec (shown_ever w.tree tmp h) ≡ false → IsTrue (none_done is_exec table w asks (process ∷ []))
    alone_unlisted has = by held
      where
        by : (execs_shown w.tree tmp h ≢ Open) ⊎ IsTrue (none_done is_exec table w asks (process ∷ [])) →
            IsTrue (none_done is_exec table w asks (process ∷ []))
        by (inr alone) = alone
        by (inl shut) =
            none_shown_after_read table (tables_need_no_error choice table given) (unrefused_table table h none) choice.rules tree_bytes script_bytes t
            first asks read scripted bytes process h here confined has edit

    alone_unbound : bound_of table h ≡ None → IsTrue (none_done is_exec table w asks (process ∷ []))
    alone_unbound unbound = by (has_exec (shown_ever w.tree tmp h)) refl held
      where
        by : (b : Bool) → has_exec (shown_ever w.tree tmp h) ≡ b →
            (execs_shown w.tree tmp h ≢ Open) ⊎ IsTrue (none_done is_exec table w asks (process ∷ [])) →
            IsTrue (none_done is_exec table w asks (process ∷ []))
        by false has either = alone_unlisted has
        by true has (inr alone) = alone
        by true has (inl shut) = absurd (shut (shown_starts_open w.tree tmp h has (bound_too table h ∙ unbound)))

    foreseen_to : (member : ℕ) → IsTrue (is_member (family table w asks (process ∷ [])) member) →
        HasKept (world_after table w asks) member (ForeseesShown (shown_longest w.tree tmp h) (shown_lasting w.tree tmp h) w.tree tmp h
        (world_after table w asks).tree)
    foreseen_to member belongs =
        ever_shown_after_read table (tables_need_no_error choice table given) (unrefused_table table h none) choice.rules tree_bytes script_bytes t
        first asks read scripted bytes process h here confined held edit member belongs

  pub foreseen_behind : (h : ProcessState) → kept_at w process ≡ Some h → refusal table h ≡ None → IsConfined h ⊎ (is_ended h ≡ true) →
      IsForeseenBehind table w (process ∷ []) h ⊎ (is_ended h ≡ true)
  foreseen_behind h here none (inl confined) = inl (λ asks bytes held edit member belongs. foreseen_to h here none confined asks bytes edit held member belongs)
  foreseen_behind h here none (inr ended) = inr ended

  -- what a member is answered ok then is foreseen, or a promise opens it
  module _ (accounted : OkaysAreAccounted) (opened_by_held : OpeningsAreHeld) (narrow : OpeningsNarrow) (along : FamiliesGoAlong)
      (printed : OpeningsArePrinted) (h : ProcessState) (here : kept_at w process ≡ Some h) (none : refusal table h ≡ None)
      (confined : IsConfined h) (lives : is_ended h ≡ false) (front more text : List ℕ) where
    abbrev HasItsLine : Call → List ℕ → Type 0
    HasItsLine call path = (o : Opening) × IsTrue (opens_call call path o) × HasLine text (codes "opening " ++ opening_text o)

    module _ (is_text : text ≡ front ++ (head_lines w.tree (heading_ever choice.rules (execs_shown w.tree tmp h) process) h ++ more)) where
      line_of : (call : Call) (path : List ℕ) → (o : Opening) × (opens_call call path o ≡ true)
          × HasOpening (own_lines (heading_ever choice.rules (execs_shown w.tree tmp h) process) (root_line w.tree h) h) o →
          HasItsLine call path
      line_of call path line =
          let head = heading_ever choice.rules (execs_shown w.tree tmp h) process in (
            line.0,
            line.1,
            in_text (heading_line head) (own_lines head (root_line w.tree h) h) (kept_lines w.tree h) line.0 front more text is_text line.2,
          )

      module _ (asks : List Asked) (bytes : IsTrue (are_in_bytes asks)) (edit : MembersEdit table w asks (process ∷ []))
          (held : (execs_shown w.tree tmp h ≢ Open) ⊎ IsTrue (none_done is_exec table w asks (process ∷ [])))
          (member : ℕ) (belongs : IsTrue (is_member (family table w asks (process ∷ [])) member)) (last : ProcessState)
          (kept : kept_at (world_after table w asks) member ≡ Some last) (call : Call) (path : List ℕ)
          (opens : (about_rules choice.rules).has_openings ≡ true) (may : may_open last call path ≡ true) where
        -- without an exec the promises are those of the process
        by_own : IsTrue (none_done is_exec table w asks (process ∷ [])) → HasItsLine call path
        by_own alone =
            let later = families_narrow table w asks process h here confined alone member belongs in
            let same : later.0 ≡ last = same_Some later.0 last (sym later.1 ∙ kept) in
            let own : may_open h call path ≡ true =
            narrow h last (subst (λ g. Tightens h g) same later.2.tightens) call path may in
            let head = heading_ever choice.rules (execs_shown w.tree tmp h) process in
            line_of call path (printed.ever head (root_line w.tree h) (execs_shown w.tree tmp h) h call path lives refl opens own)

        -- through execs they are among those, or among those that it hands down
        by_handed : (handed : ℕ) → bound_of table h ≡ Some handed → has_exec (shown_ever w.tree tmp h) ≡ true → HasItsLine call path
        by_handed handed bound has =
            let later = along table (tables_need_no_error choice table given) w asks process h handed here bound member belongs in
            let same : later.0 ≡ last = same_Some later.0 last (sym later.1 ∙ kept) in
            let one : HoldsOne table h handed last = subst (HoldsOne table h handed) same later.2.promises in
            let found = opening_held (held_set last) call path may in
            let head = heading_ever choice.rules (execs_shown w.tree tmp h) process in
            let at : opening_set head.time h ≡ bit_or (held_set h) handed =
            ap (λ execs. opening_set (heading_ever choice.rules execs process).time h) (shown_starts_bounded w.tree tmp h handed has (bound_too table h ∙ bound))
            ∙ ap (λ o. bit_or (held_set h) (unwrap_or o no_promises)) (bound_parts table h handed bound).set in
            let sets : holds_named (bit_or (held_set h) handed) (promises_of found.0.promise) ≡ true =
            named_within (held_set last) (bit_or (held_set h) handed) (within_one table h last handed one) found.0 found.1 found.3 in
            line_of call path (
              found.0,
              found.2,
              printed.each head (root_line w.tree h) h found.0 lives opens found.1
                  (ap (λ set. holds_named set (promises_of found.0.promise)) at ∙ sets),
            )

        has_its_line : HasItsLine call path
        has_its_line = by (bound_of table h) refl (has_exec (shown_ever w.tree tmp h)) refl
          where
            by : (bound : Option ℕ) → bound_of table h ≡ bound → (b : Bool) → has_exec (shown_ever w.tree tmp h) ≡ b → HasItsLine call path
            by None unbound b has = by_own (alone_unbound h here none confined asks bytes edit held unbound)
            by (Some handed) bound true has = by_handed handed bound has
            by (Some handed) bound false has = by_own (alone_unlisted h here none confined asks bytes edit held has)

      okays_foreseen : AreOkaysForeseen table w (process ∷ []) h text
      okays_foreseen asks bytes held edit member belongs call path told =
          let later = foreseen_to h here none confined asks bytes edit held member belongs in
          let after = world_after table w asks in (
            later.0,
            later.1,
            by later.0 later.1 later.2 (accounted table after member call path later.0 later.1 told),
          )
        where
          by : (last : ProcessState) → kept_at (world_after table w asks) member ≡ Some last →
              ForeseesShown (shown_longest w.tree tmp h) (shown_lasting w.tree tmp h) w.tree tmp h (world_after table w asks).tree last →
              Accounted table (world_after table w asks).tree last call path →
              IsForeseenIn (shown_lasting w.tree tmp h) w.tree h (world_after table w asks).tree call
              (object_named (world_after table w asks).tree last call path) ⊎ HasItsLine call path
          by last kept foresees (by_verdict allowed) =
              let u = (world_after table w asks).tree in
              inl (foresees.foresees (start last) foresees.starts.own call path
              (allowed_by (verdict_on u tmp last call path) (tmp_table_allows table u last call (object_named u last call path) allowed)))
          by last kept foresees (by_opening o opened) =
              inr (has_its_line asks bytes edit held member belongs last kept call path
              (opened_by_rules table last call path o choice.rules (tables_are_by_rules choice table given) opened)
              (opened_by_held table last call path o opened))

  module _ (text : List ℕ) (told : ever_text choice tree_bytes script_bytes process ≡ Ok text) where
    after : ever_after choice.rules done process ≡ Ok text
    after = sym (ever_is choice tree_bytes script_bytes process done
        (replayed_is choice tree_bytes script_bytes table t first given (ap as_listing read) (ap as_script scripted))) ∙ told

    never : kept_at w process ≡ None → ⊥
    never is = Err≢Ok NoProcess text
        (sym (ap (λ made. ok_or made NoProcess >>= after_by choice.rules done process) is) ∙ after)

    abbrev whole : ProcessState → List ℕ
    whole h = answer_lines 1 done.answers ++ ever_list choice.rules tmp w.tree process h

    unless_told : (h : ProcessState) (o : Option EverRefusal) → unless_reason process o (whole h) ≡ Ok text → (o ≡ None) × (text ≡ whole h)
    unless_told h None e = (refl, sym (same_Ok (whole h) text e))
    unless_told h (Some reason) e = absurd (Err≢Ok (ever_fault process reason) text e)

    module _ (accounted : OkaysAreAccounted) (opened_by_held : OpeningsAreHeld) (narrow : OpeningsNarrow) (along : FamiliesGoAlong)
        (printed : OpeningsArePrinted) where
      okays_of : (h : ProcessState) → kept_at w process ≡ Some h → refusal table h ≡ None → text ≡ whole h → (ended : Bool) →
          is_ended h ≡ ended → IsConfined h ⊎ (is_ended h ≡ true) → AreOkaysForeseen table w (process ∷ []) h text ⊎ (is_ended h ≡ true)
      okays_of h here none is_text true is either = inr is
      okays_of h here none is_text false is (inr ended) = inr ended
      okays_of h here none is_text false is (inl confined) =
          inl (okays_foreseen accounted opened_by_held narrow along printed h here none confined is (answer_lines 1 done.answers)
          (ever_lines w.tree (shown_lasting w.tree tmp h)) text is_text)

      written : IsEverWritten choice.rules table t first process text
      written = by (kept_at w process) refl
        where
          by : (made : Option ProcessState) → kept_at w process ≡ made → IsEverWritten choice.rules table t first process text
          by None is = absurd (never is)
          by (Some h) is =
              let parts = unless_told h (refusal table h) (sym (after_made choice.rules done process h is) ∙ after) in
              record {
                now = h;
                here = is;
                is_text = parts.1;
                complete = foreseen_behind h is parts.0 (unrefused_process table h parts.0);
                okays = okays_of h is parts.0 parts.1 (is_ended h) refl (unrefused_process table h parts.0);
                printed = λ line listed.
                    let head = head_lines w.tree (heading_ever choice.rules (execs_shown w.tree tmp h) process) h in
                    let found = in_lines (λ (l : EverLine). with_end (ever_line_text w.tree l)) (shown_lasting w.tree tmp h) line listed in (
                      answer_lines 1 done.answers ++ head ++ found.0,
                      found.1,
                      parts.1 ∙ ap (λ lines. answer_lines 1 done.answers ++ (head ++ lines)) found.2
                          ∙ behind (answer_lines 1 done.answers) head found.0 (with_end (ever_line_text w.tree line)) found.1,
                    );
              }

pub ever_as_written : OkaysAreAccounted → OpeningsAreHeld → OpeningsNarrow → FamiliesGoAlong → OpeningsArePrinted → EverAsWritten
ever_as_written accounted opened_by_held narrow along printed choice tree_bytes script_bytes table t first process text given read scripted told =
    written choice tree_bytes script_bytes table t first process given read scripted text told accounted opened_by_held narrow along printed
