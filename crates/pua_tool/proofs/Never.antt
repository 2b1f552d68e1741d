-- What `never` says that was written in the place of a way.
use Rattle.pua_tool.proofs.Common.{◌≡◌, ◌≢◌, ◌∙◌, ◌∷◌, [], ℕ, List, ◌++◌, ap, refl, sym, subst, map, flat_map, Ok, Option, Some, None, CallTable, Tree}
use Rattle.pua_tool.proofs.Common.{Asked, World, ProcessState, kept_at, new_world, world_after, told_to, with_end, listing, script_by, arith}
use Rattle.pua_tool.proofs.Common.{Chosen, Replayed, table_by, as_listing, as_script}
use Rattle.std.proofs.Common.{◌⊎◌, inl, inr, Bool, true, false, append_assoc}
use Rattle.std.proofs.lemmas.Bool.{and_parts, false≢true}
use Rattle.std.specs.List.{Contains, list_all}
use Rattle.std.specs.Prelude.{◌==◌, IsTrue, codes, not, ok_or}
use Rattle.pua_tree.proofs.ForCallers.{same_Ok, same_Some, Err≢Ok, ok_or_read, step_read}
use Rattle.pua_calls.specs.Calls.{call_in}
use Rattle.pua_calls.specs.TmpTable.{tmp_table}
use Rattle.pua_calls.specs.declared.call.Call.{Call}
use Rattle.pua_calls.specs.declared.rules.Rules.{Rules}
use Rattle.pua_calls.specs.declared.rules.Rules.TheVariants.{Standard, Openbsd}
use Rattle.pua_policy.specs.States.{is_ended}
use Rattle.pua_script.specs.Bytes.{IsByteTree}
use Rattle.pua_script.specs.Family.{is_exec, none_done}
use Rattle.pua_script.specs.Scripts.{request_by}
use Rattle.pua_script.proofs.ForCallers.{replays_keep_byte_trees, listings_list_byte_trees, scripts_ask_in_bytes}
use Rattle.pua_objects.proofs.ForCallers.{among_contained}
use Rattle.pua_ever.specs.Ever.{EverLine}
use Rattle.pua_ever.specs.Refusals.{refusal}
use Rattle.pua_ever.specs.ShownForEver.{shown_lasting, execs_shown}
use Rattle.pua_ever.specs.declared.lasting_list.ExecBound.{ExecBound}
use Rattle.pua_ever.specs.declared.lasting_list.ExecBound.TheVariants.{Open}
use Rattle.pua_ever.specs.declared.refusal.EverRefusal.{EverRefusal}
use Rattle.pua_ever.proofs.ForCallers.{any_among, unrefused_process}
use Rattle.pua_how.specs.PathQuestion.{PathQuestion, path_question, targets_of}
use Rattle.pua_how.specs.Targets.{IsLast, is_listed}
use Rattle.pua_how.specs.declared.target.Target.{Target}
use Rattle.pua_how.proofs.ForCallers.{all_given, any_listed, listed_alike, shown_lives, unforeseen_by}
use Rattle.pua_tool.specs.EverTexts.{ever_fault}
use Rattle.pua_tool.specs.Forever.{IsForeseenBehind}
use Rattle.pua_tool.specs.HowTexts.{HowWanted, IsFoundFor, IsHowAfter, IsHowAsked, IsHowText, HowQuestion, follows_link, may_come, question_of}
use Rattle.pua_tool.specs.HowTexts.{some_thing, things_asked, told_without, unless_followed, unless_refused, way_text}
use Rattle.pua_tool.specs.Never.{IsNeverTold, NeverAsWritten, NeverComesBehind, NeverComesTo, before_exec_line, never_line}
use Rattle.pua_tool.specs.declared.fault.ToolFault.TheVariants.{NoProcess, HowCall, HowPath, HowThing}
use Rattle.pua_tool.proofs.Replays.{replayed_is}
use Rattle.pua_tool.proofs.EverTextForesees.{foreseen_behind}

-- ---- what is asked about

record IsAskedIn (done : Replayed) (wanted : HowWanted) (last : ℕ) (q : HowQuestion) : Type 0 where
  here : kept_at done.world wanted.process ≡ Some q.process
  unrefused : refusal done.table q.process ≡ None
  named : call_in done.table wanted.call ≡ Some q.call
  meant : things_asked done.world.tree q.process wanted last ≡ Ok q.things

asked_in : (done : Replayed) (wanted : HowWanted) (last : ℕ) (q : HowQuestion) → question_of done wanted last ≡ Ok q → IsAskedIn done wanted last q
asked_in done wanted last q e =
    let t = done.world.tree in
    let kept = step_read (ok_or (kept_at done.world wanted.process) NoProcess) _ q e in
    let h = kept.0 in
    let fine = step_read (unless_refused wanted.process (refusal done.table h)) _ q kept.2 in
    let read = step_read (ok_or (call_in done.table wanted.call) HowCall) _ q fine.2 in
    let things = step_read (things_asked t h wanted last) _ q read.2 in
    let straight = step_read (unless_followed read.0 (follows_link t read.0 things.0)) _ q things.2 in
    let same : record { process = h; call = read.0; things = things.0 } ≡ q = same_Ok _ q straight.2 in
    subst (IsAskedIn done wanted last) same (record {
      here = ok_or_read (kept_at done.world wanted.process) NoProcess h kept.1;
      unrefused = none (refusal done.table h) fine.0 fine.1;
      named = ok_or_read (call_in done.table wanted.call) HowCall read.0 read.1;
      meant = things.1;
    })
  where
    none : (o : Option EverRefusal) (u : Unit {0}) → unless_refused wanted.process o ≡ Ok u → o ≡ None
    none None u e = refl
    none (Some reason) u e = absurd (Err≢Ok (ever_fault wanted.process reason) u e)

-- how they were found
asked_by : (t : Tree) (h : ProcessState) (wanted : HowWanted) (last : ℕ) (things : List Target) → things_asked t h wanted last ≡ Ok things →
    (asking : PathQuestion) × (path_question wanted.path ≡ Some asking) × (targets_of t h last asking wanted.kind ≡ things)
asked_by t h wanted last things e =
    let asking = step_read (ok_or (path_question wanted.path) HowPath) _ things e in (
      asking.0,
      ok_or_read (path_question wanted.path) HowPath asking.0 asking.1,
      some (targets_of t h last asking.0 wanted.kind) asking.2,
    )
  where
    some : (all : List Target) → some_thing all ≡ Ok things → all ≡ things
    some [] e = absurd (Err≢Ok HowThing things e)
    some (x ∷ xs) e = same_Ok (x ∷ xs) things e

-- no line has the call where none of those that were asked about has it, whatever the number above all that lives
none_listed : (t : Tree) (h : ProcessState) (wanted : HowWanted) (lines : List EverLine) (call : Call) (last other : ℕ) (things others : List Target) →
    things_asked t h wanted last ≡ Ok things → things_asked t h wanted other ≡ Ok others → any_listed last other lines call things ≡ false →
    (thing : Target) → Contains others thing → is_listed lines thing call ≡ false
none_listed t h wanted lines call last other things others e f none thing there =
    let a = asked_by t h wanted last things e in
    let b = asked_by t h wanted other others f in
    let same : a.0 ≡ b.0 = same_Some a.0 b.0 (sym a.1 ∙ b.1) in
    by (is_listed lines thing call) refl
    ((λ i. any_listed last other lines call (sym b.2 i)) ∙ sym (listed_alike last other lines call t h b.0 wanted.kind)
    ∙ (λ i. any_listed last other lines call (targets_of t h last (sym same i) wanted.kind)) ∙ ap (any_listed last other lines call) a.2 ∙ none)
  where
    by : (b : Bool) → is_listed lines thing call ≡ b → any_listed last other lines call others ≡ false → is_listed lines thing call ≡ false
    by false is unlisted = is
    by true is unlisted = absurd (false≢true (sym unlisted
        ∙ any_among (λ thing. is_listed lines thing call) others thing (among_contained others thing there) is))

-- ---- a way is not written so

abbrev tail_of : List ℕ → List ℕ
tail_of [] = []
tail_of (x ∷ xs) = xs

abbrev first_or : {A : Type 0} → A → List A → A
first_or x [] = x
first_or x (y ∷ ys) = y

abbrev has_no_end : List ℕ → Bool
has_no_end word = list_all (λ c. not (c == 10)) word

no_more : (line rest : List ℕ) → line ++ 10 ∷ rest ≡ [] → ⊥
no_more [] rest e = cc
no_more (c ∷ line) rest e = cc

-- a first line that is some word without an end is that word
one_line : (word line rest : List ℕ) → has_no_end word ≡ true → line ++ 10 ∷ rest ≡ word ++ 10 ∷ [] → line ≡ word
one_line [] [] rest clean e = refl
one_line [] (b ∷ line) rest clean e = absurd (no_more line rest (ap tail_of e))
one_line (c ∷ word) [] rest clean e =
    absurd (false≢true (ap (λ x. not (x == 10)) (ap (first_or 0) e) ∙ (and_parts (not (c == 10)) (has_no_end word) clean).0))
one_line (c ∷ word) (b ∷ line) rest clean e =
    λ i. ap (first_or 0) e i ∷ one_line word line rest (and_parts (not (c == 10)) (has_no_end word) clean).1 (ap tail_of e) i

module _ (rules : Rules) (word : List ℕ) (clean : has_no_end word ≡ true) (unread : (ask : Asked) → request_by rules 1 word ≡ Ok ask → ⊥) where
  no_way : (lines : List (List ℕ)) (asks : List Asked) → map (request_by rules 1) lines ≡ map Ok asks → flat_map with_end lines ≡ word ++ 10 ∷ [] → ⊥
  no_way [] asks read e = no_more word [] (sym e)
  no_way (line ∷ lines) [] read e = let none : request_by rules 1 line ∷ map (request_by rules 1) lines ≡ [] = read in cc
  no_way (line ∷ lines) (ask ∷ asks) read e =
      let same : line ≡ word = one_line word line (flat_map with_end lines) clean (sym (append_assoc line (10 ∷ []) (flat_map with_end lines)) ∙ e) in
      unread ask (ap (request_by rules 1) (sym same) ∙ ap (first_or (Ok ask)) read)

unread_never : (rules : Rules) (ask : Asked) → request_by rules 1 (codes "never") ≡ Ok ask → ⊥
unread_never Standard ask e = Err≢Ok _ ask e
unread_never Openbsd ask e = Err≢Ok _ ask e

unread_before : (rules : Rules) (ask : Asked) → request_by rules 1 (codes "never before an exec") ≡ Ok ask → ⊥
unread_before Standard ask e = Err≢Ok _ ask e
unread_before Openbsd ask e = Err≢Ok _ ask e

-- so no line has the call, and `never` alone says nothing of execs
abbrev SaysNever : List ℕ → Type 0
SaysNever text = (text ≡ never_line) ⊎ (text ≡ before_exec_line)

-- the second byte, and the sixth
abbrev second : List ℕ → ℕ
second text = first_or 0 (tail_of text)

abbrev sixth : List ℕ → ℕ
sixth text = first_or 0 (tail_of (tail_of (tail_of (tail_of (tail_of text)))))

apart : ◌≡◌ {A = ℕ} 111 101 → ⊥
apart e = omega (arith, e)

apart_later : ◌≡◌ {A = ℕ} 32 10 → ⊥
apart_later e = omega (arith, e)

told_none : (b : Bool) (execs : ExecBound) → SaysNever (with_end (told_without b execs)) → b ≡ false
told_none false execs says = refl
told_none true execs (inl e) = absurd (apart (ap second e))
told_none true execs (inr e) = absurd (apart (ap second e))

told_shut : (b : Bool) (execs : ExecBound) → with_end (told_without b execs) ≡ never_line → execs ≢ Open
told_shut b execs e same = by b (ap (λ x. with_end (told_without b x)) (sym same) ∙ e)
  where
    by : (b : Bool) → with_end (told_without b Open) ≡ never_line → ⊥
    by false e = apart_later (ap sixth e)
    by true e = apart (ap second e)

module _ (choice : Chosen) (tree_bytes script_bytes : List ℕ) (table : CallTable) (t : Tree) (first : List Asked) (wanted : HowWanted)
    (text : List ℕ) (given : table_by choice ≡ Ok table) (read : listing tree_bytes ≡ Ok t) (scripted : script_by choice.rules script_bytes ≡ Ok first)
    (says : SaysNever text) where
  abbrev w : World
  w = world_after table (new_world t) first

  -- the table by which lists for ever go
  abbrev tmp : CallTable
  tmp = tmp_table table

  abbrev done : Replayed
  done = record { table = table; answers = told_to table (new_world t) first; world = w }

  left : IsByteTree w.tree
  left = replays_keep_byte_trees table (new_world t) first (listings_list_byte_trees tree_bytes t read)
      (scripts_ask_in_bytes choice.rules script_bytes first scripted)

  module _ (last : ℕ) (q : HowQuestion) (asked : question_of done wanted last ≡ Ok q)
      (told : with_end (told_without (may_come done q) (execs_shown w.tree tmp q.process)) ≡ text) where
    is : IsAskedIn done wanted last q
    is = asked_in done wanted last q asked

    none : may_come done q ≡ false
    none = told_none (may_come done q) (execs_shown w.tree tmp q.process) (subst SaysNever (sym told) says)

    -- what is said of execs
    shut : (asks : List Asked) → (text ≡ never_line) ⊎ IsTrue (none_done is_exec table w asks (wanted.process ∷ [])) →
        (execs_shown w.tree tmp q.process ≢ Open) ⊎ IsTrue (none_done is_exec table w asks (wanted.process ∷ []))
    shut asks (inl same) = inl (told_shut (may_come done q) (execs_shown w.tree tmp q.process) (told ∙ same))
    shut asks (inr alone) = inr alone

    comes_never : IsForeseenBehind table w (wanted.process ∷ []) q.process → (above : ℕ) → IsLast w.tree above → (things : List Target) →
        things_asked w.tree q.process wanted above ≡ Ok things → (thing : Target) → Contains things thing →
        NeverComesBehind table w wanted.process q.process q.call text thing
    comes_never foreseen above are things meant thing there asks bytes held edits member belongs =
        let last_state = foreseen asks bytes (shut asks held) edits member belongs in
        let by = asked_by w.tree q.process wanted above things meant in (
          last_state.0,
          last_state.1,
          (
            last_state.2.starts,
            λ from within path. unforeseen_by (shown_lasting w.tree tmp q.process) w.tree (world_after table w asks).tree tmp q.process
                last_state.0 left.tree (shown_lives w.tree tmp q.process left.tree) thing q.call
                (all_given w.tree q.process left.tree above are by.0 wanted.kind thing (subst (λ all. Contains all thing) (sym by.2) there))
                (none_listed w.tree q.process wanted (shown_lasting w.tree tmp q.process) q.call last above q.things things is.meant meant none thing there)
                from path (last_state.2.foresees from within q.call path),
          ),
        )

    is_never : IsNeverTold table t first wanted text
    is_never = record {
      now = q.process;
      here = is.here;
      call = q.call;
      named = is.named;
      never = by (foreseen_behind choice tree_bytes script_bytes table t first wanted.process given read scripted q.process is.here is.unrefused
          (unrefused_process table q.process is.unrefused));
    }
      where
        by : IsForeseenBehind table w (wanted.process ∷ []) q.process ⊎ (is_ended q.process ≡ true) →
            NeverComesTo table w wanted q.process q.call text ⊎ (is_ended q.process ≡ true)
        by (inl foreseen) = inl (comes_never foreseen)
        by (inr ended) = inr ended

  after : IsHowText choice tree_bytes script_bytes wanted (Ok text) → IsHowAsked choice.rules done wanted (Ok text)
  unfolding IsHowText
  after how = subst (λ r. IsHowAfter choice.rules r wanted (Ok text))
      (replayed_is choice tree_bytes script_bytes table t first given (ap as_listing read) (ap as_script scripted)) how

  never_told : IsHowText choice tree_bytes script_bytes wanted (Ok text) → IsNeverTold table t first wanted text
  never_told how =
      let a = after how in
      let q = step_read (question_of done wanted a.last) _ text (sym a.is) in
      by a.last q.0 q.1 a.found (a.sound q.0 q.1) (same_Ok _ text q.2)
    where
      by : (last : ℕ) (q : HowQuestion) → question_of done wanted last ≡ Ok q → (found : Option (List (List ℕ))) →
          IsFoundFor choice.rules done wanted.process last q found → way_text done q found ≡ text → IsNeverTold table t first wanted text
      by last q asked None sound told = is_never last q asked told
      by last q asked (Some lines) way told = absurd (no way.asks way.read says)
        where
          no : (asks : List Asked) → map (request_by choice.rules 1) lines ≡ map Ok asks → SaysNever text → ⊥
          no asks read (inl same) =
              no_way choice.rules (codes "never") refl (unread_never choice.rules) lines asks read (told ∙ same)
          no asks read (inr same) =
              no_way choice.rules (codes "never before an exec") refl (unread_before choice.rules) lines asks read (told ∙ same)

pub never_as_written : NeverAsWritten
never_as_written choice tree_bytes script_bytes table t first wanted text given read scripted how says =
    never_told choice tree_bytes script_bytes table t first wanted text given read scripted says how
