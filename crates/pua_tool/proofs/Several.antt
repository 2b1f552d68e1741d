-- What a list for ever of several processes that was written says of the future.
use Rattle.pua_tool.proofs.Common.{◌≡◌, ◌≢◌, ◌∙◌, ◌∷◌, [], ℕ, List, ◌++◌, ap, refl, sym, subst, map, Ok, Err, Option, Some, None, Result, CallTable, Tree}
use Rattle.pua_tool.proofs.Common.{Asked, World, ProcessState, kept_at, new_world, told_to, world_after, answer_lines, with_end, listing, script_by}
use Rattle.pua_tool.proofs.Common.{Chosen, Replayed, table_by, as_listing, as_script, replay_of, ToolFault, ◌>>=◌}
use Rattle.std.proofs.Common.{◌⊎◌, inl, inr, Bool, true, false, cond, not, append_assoc}
use Rattle.std.proofs.lemmas.Bool.{and_parts, true≢false}
use Rattle.std.specs.List.{AllByRecursion, Contains}
use Rattle.std.specs.Prelude.{◌&&◌, IsTrue, flat_map, ok_or, option_map}
use Rattle.pua_tree.proofs.ForCallers.{None≢Some, Some≢None, same_Ok, same_Some, Err≢Ok}
use Rattle.pua_calls.specs.TmpTable.{tmp_table}
use Rattle.pua_policy.specs.States.{SameVeils, is_ended, perms_kept, veils}
use Rattle.pua_policy.specs.declared.place.Place.{Place}
use Rattle.pua_script.specs.Laws.{IsConfined}
use Rattle.pua_script.proofs.ForCallers.{is_kept, veils_alike, veils_kept}
use Rattle.pua_ever.specs.Ever.{EverLine, ever_line_text}
use Rattle.pua_ever.specs.Refusals.{refusal}
use Rattle.pua_objects.specs.declared.roots.Shown.TheVariants.{All}
use Rattle.pua_ever.specs.EnclosedForEver.{ForeseesShown}
use Rattle.pua_ever.specs.ShownForEver.{execs_shown, shown_lasting, shown_longest}
use Rattle.pua_ever.specs.Through.{ever_lasting}
use Rattle.pua_ever.specs.declared.lasting_list.ExecBound.TheVariants.{Open}
use Rattle.pua_script.specs.Family.{is_exec, none_done}
use Rattle.pua_ever.specs.Together.{ActTogether, IsOneOf, TogetherAfterRead, joined}
use Rattle.pua_ever.specs.declared.refusal.EverRefusal.{EverRefusal}
use Rattle.pua_ever.proofs.ForCallers.{unrefused_table, unrefused_process, whole_execs, whole_foresees, whole_lasting, whole_longest}
use Rattle.pua_texts.specs.EverLines.{heading_ever}
use Rattle.pua_texts.specs.States.{bound_lines, veil_lines}
use Rattle.pua_texts.specs.TogetherLines.{joint_list, living, member_lines, one_for, one_of, together_heading}
use Rattle.pua_words.specs.declared.command.Processes.{Processes}
use Rattle.pua_tool.specs.EverTexts.{ever_fault}
use Rattle.pua_tool.specs.Forever.{IsForeseenBehind}
use Rattle.pua_tool.specs.Listed.{HasLine}
use Rattle.pua_tool.specs.Several.{IsTogetherWritten, TogetherAsWritten, numbers}
use Rattle.pua_tool.specs.TogetherTexts.{all_made, are_kept, first_other, first_refused, keeps_all, numbers_in, other_veils, same_veils}
use Rattle.pua_tool.specs.TogetherTexts.{refused_or, together_after, together_fault, together_lines, together_of, together_text, unless_fault}
use Rattle.pua_tool.specs.declared.fault.ToolFault.TheVariants.{NoProcess, OtherVeils}
use Rattle.pua_tool.proofs.ListWritten.{behind, in_lines}
use Rattle.pua_tool.proofs.Replays.{replayed_is}
use Rattle.pua_tool.proofs.Tables.{tables_need_no_error}
use Rattle.pua_tool.proofs.TmpTables.{joined_too}
use Rattle.pua_tool.proofs.TogetherTexts.{fault_listed, fault_veils}

abbrev pub Member : Type 0
Member = ℕ × ProcessState

abbrev states : List Member → List ProcessState
states members = map (λ member. member.1) members

-- ---- those that are asked for

abbrev pub Keeps : World → Member → Type 0
Keeps w member = kept_at w member.0 ≡ Some member.1

abbrev then_more : ℕ → Option ProcessState → Result (List Member) ToolFault → Result (List Member) ToolFault
then_more process made rest = ok_or made NoProcess >>= λ h. rest >>= λ rest. Ok ((process, h) ∷ rest)

pub are_made : (w : World) (ns : List ℕ) (members : List Member) → all_made w ns ≡ Ok members →
    (numbers members ≡ ns) × AllByRecursion (Keeps w) members
are_made w [] members e = subst (λ ms. (numbers ms ≡ []) × AllByRecursion (Keeps w) ms) (same_Ok [] members e) (refl, tt)
are_made w (n ∷ ns) members e = by (kept_at w n) refl (all_made w ns) (are_made w ns) e
  where
    by : (made : Option ProcessState) → kept_at w n ≡ made → (rest : Result (List Member) ToolFault) →
        ((ms : List Member) → rest ≡ Ok ms → (numbers ms ≡ ns) × AllByRecursion (Keeps w) ms) → then_more n made rest ≡ Ok members →
        (numbers members ≡ n ∷ ns) × AllByRecursion (Keeps w) members
    by None is rest more e = absurd (Err≢Ok NoProcess members e)
    by (Some h) is (Err fault) more e = absurd (Err≢Ok fault members e)
    by (Some h) is (Ok ms) more e =
        let k = more ms refl in
        subst (λ ms. (numbers ms ≡ n ∷ ns) × AllByRecursion (Keeps w) ms) (same_Ok ((n, h) ∷ ms) members e)
        (ap (λ others. n ∷ others) k.0, (is, k.1))

-- nothing refuses the list of each of them
abbrev pub IsUnrefused : CallTable → World → Member → Type 0
IsUnrefused table w member = Keeps w member × (refusal table member.1 ≡ None)

pub are_unrefused : (table : CallTable) (w : World) (members : List Member) → first_refused table members ≡ None →
    AllByRecursion (Keeps w) members → AllByRecursion (IsUnrefused table w) members
are_unrefused table w [] none all = tt
are_unrefused table w (m ∷ ms) none all = by (refusal table m.1) refl none (λ e. are_unrefused table w ms e all.1)
  where
    by : (o : Option EverRefusal) → refusal table m.1 ≡ o → refused_or m.0 o (first_refused table ms) ≡ None →
        (first_refused table ms ≡ None → AllByRecursion (IsUnrefused table w) ms) → AllByRecursion (IsUnrefused table w) (m ∷ ms)
    by (Some reason) is e later = absurd (Some≢None (ever_fault m.0 reason) e)
    by None is e later = ((all.0, is), later e)

-- ---- those that live

abbrev pub Acts : CallTable → World → Member → Type 0
Acts table w member = IsUnrefused table w member × (is_ended member.1 ≡ false)

pub those_living : (table : CallTable) (w : World) (members : List Member) → AllByRecursion (IsUnrefused table w) members →
    AllByRecursion (Acts table w) (living members)
those_living table w [] all = tt
those_living table w (m ∷ ms) all = by (is_ended m.1) refl (those_living table w ms all.1)
  where
    by : (b : Bool) → is_ended m.1 ≡ b → AllByRecursion (Acts table w) (living ms) →
        AllByRecursion (Acts table w) (cond (not b) (m ∷ living ms) (living ms))
    by true is rest = rest
    by false is rest = ((all.0, is), rest)

processes_of : (table : CallTable) (w : World) (alive : List Member) → AllByRecursion (Acts table w) alive →
    map (kept_at w) (numbers alive) ≡ map Some (states alive)
processes_of table w [] all = refl
processes_of table w (m ∷ ms) all = λ i. all.0.0.0 i ∷ processes_of table w ms all.1 i

-- what the test of veils says
kept_alike : (h : ProcessState) (vs : List (Place × ℕ)) → keeps_all h vs ≡ veils_kept h.veils vs
kept_alike h [] = refl
kept_alike h (veil ∷ vs) = λ i. same (perms_kept h veil.0) i && kept_alike h vs i
  where
    same : (o : Option ℕ) → are_kept o veil.1 ≡ is_kept o veil.1
    same None = refl
    same (Some kept) = refl

alike : (first h : ProcessState) → same_veils first h ≡ true → SameVeils h first
alike first h same =
    let parts = and_parts (keeps_all h (veils first)) (keeps_all first (veils h)) same in
    veils_alike h first (sym (kept_alike first (veils h)) ∙ parts.1) (sym (kept_alike h (veils first)) ∙ parts.0)

acts_as : (table : CallTable) (w : World) (first : ProcessState) (m : Member) → SameVeils m.1 first → Acts table w m → IsOneOf first m.1
acts_as table w first m same acts =
    record { unveils = same; confined = by (unrefused_process table m.1 acts.0.1); lives = acts.1 }
  where
    by : IsConfined m.1 ⊎ (is_ended m.1 ≡ true) → IsConfined m.1
    by (inl confined) = confined
    by (inr ended) = absurd (true≢false (sym ended ∙ acts.1))

are_alike : (table : CallTable) (w : World) (first : ProcessState) (more : List Member) → first_other first more ≡ None →
    AllByRecursion (Acts table w) more → AllByRecursion (IsOneOf first) (states more)
are_alike table w first [] none all = tt
are_alike table w first (m ∷ ms) none all = by (same_veils first m.1) refl none (λ e. are_alike table w first ms e all.1)
  where
    by : (b : Bool) → same_veils first m.1 ≡ b → cond b (first_other first ms) (Some m.0) ≡ None →
        (first_other first ms ≡ None → AllByRecursion (IsOneOf first) (states ms)) → AllByRecursion (IsOneOf first) (states (m ∷ ms))
    by true is e later = (acts_as table w first m (alike first m.1 is) all.0, later e)
    by false is e later = absurd (Some≢None m.0 e)

no_other : (first : Member) (o : Option ℕ) → option_map (λ other. OtherVeils first.0 other) o ≡ None → o ≡ None
no_other first None e = refl
no_other first (Some other) e = absurd (Some≢None (OtherVeils first.0 other) e)

-- ---- the text

module _ (together : TogetherAfterRead) (choice : Chosen) (tree_bytes script_bytes : List ℕ) (table : CallTable) (t : Tree) (first : List Asked)
    (which : Processes) (text : List ℕ) (given : table_by choice ≡ Ok table) (read : listing tree_bytes ≡ Ok t)
    (scripted : script_by choice.rules script_bytes ≡ Ok first) (told : together_text choice tree_bytes script_bytes which ≡ Ok text) where
  abbrev w : World
  w = world_after table (new_world t) first

  -- the table by which the list goes
  abbrev tmp : CallTable
  tmp = tmp_table table

  abbrev done : Replayed
  done = record { table = table; answers = told_to table (new_world t) first; world = w }

  after : together_after choice.rules done which ≡ Ok text
  unfolding together_text
  after = (λ i. sym replayed i >>= λ done. together_after choice.rules done which) ∙ told
    where
      replayed : replay_of choice tree_bytes script_bytes ≡ Ok done
      replayed = replayed_is choice tree_bytes script_bytes table t first given (ap as_listing read) (ap as_script scripted)

  foreseen : (one : ProcessState) (alive : List Member) → AllByRecursion (Acts table w) alive → other_veils alive ≡ None →
      one_for tmp alive ≡ Some one → IsForeseenBehind table w (numbers alive) one
  foreseen one [] all none is = absurd (None≢Some one is)
  foreseen one (m ∷ ms) all none is =
      subst (IsForeseenBehind table w (numbers (m ∷ ms)))
      (sym (joined_too table m.1 (states ms)) ∙ same_Some (joined tmp m.1 (states ms)) one is)
      (λ asks bytes held edits member belongs.
      let u = (world_after table w asks).tree in
      let later = together table (tables_need_no_error choice table given) (unrefused_table table m.1 all.0.0.1) choice.rules tree_bytes script_bytes
      t first asks read scripted bytes (numbers (m ∷ ms)) m.1 (states ms) acts
      (subst (λ execs. (execs ≢ Open) ⊎ IsTrue (none_done is_exec table w asks (numbers (m ∷ ms)))) (whole_execs w.tree tmp all_of refl) held)
      edits member belongs in (
        later.0,
        later.1,
        subst (λ shown. ForeseesShown shown (shown_lasting w.tree tmp all_of) w.tree tmp all_of u later.0) (sym (whole_longest w.tree tmp all_of refl))
            (subst (λ lines. ForeseesShown All lines w.tree tmp all_of u later.0) (sym (whole_lasting w.tree tmp all_of refl))
            (whole_foresees w.tree u tmp all_of later.0 (ever_lasting w.tree tmp all_of) later.2)),
      ))
    where
      all_of : ProcessState
      all_of = joined table m.1 (states ms)

      acts : ActTogether w (numbers (m ∷ ms)) m.1 (states ms)
      acts = record {
        processes = processes_of table w (m ∷ ms) all;
        alike = (
          acts_as table w m.1 m (record { any = refl; kept = λ place. refl }) all.0,
          are_alike table w m.1 ms (no_other m (first_other m.1 ms) none) all.1,
        );
      }

  all_shown : (one : ProcessState) (alive : List Member) → one_for tmp alive ≡ Some one → shown_longest w.tree tmp one ≡ All
  all_shown one [] is = absurd (None≢Some one is)
  all_shown one (m ∷ ms) is =
      subst (λ h. shown_longest w.tree tmp h ≡ All) (same_Some (joined tmp m.1 (states ms)) one is)
      (whole_longest w.tree tmp (joined tmp m.1 (states ms)) refl)

  module _ (members : List Member) (made : all_made w (numbers_in w which) ≡ Ok members) (of_them : together_of choice.rules done members ≡ Ok text) where
    abbrev whole : List ℕ
    whole = together_lines choice.rules done members

    parts : (together_fault table members ≡ None) × (text ≡ whole)
    parts = by (together_fault table members) refl of_them
      where
        by : (o : _) → together_fault table members ≡ o → unless_fault o whole ≡ Ok text → (together_fault table members ≡ None) × (text ≡ whole)
        by None is e = (is, sym (same_Ok whole text e))
        by (Some fault) is e = absurd (Err≢Ok fault text e)

    unrefused : first_refused table members ≡ None
    unrefused = by (first_refused table members) refl
      where
        by : (o : _) → first_refused table members ≡ o → o ≡ None
        by None is = refl
        by (Some fault) is = absurd (Some≢None fault (sym (fault_listed table members fault is) ∙ parts.0))

    here : (numbers members ≡ numbers_in w which) × AllByRecursion (Keeps w) members
    here = are_made w (numbers_in w which) members made

    abbrev head : List ℕ
    head = together_heading members ++ flat_map (member_lines choice.rules w.tree) members

    abbrev state : ProcessState → List ℕ
    state one = bound_lines choice.rules (heading_ever choice.rules (execs_shown w.tree tmp one) 0).time [] one ++ veil_lines w.tree (veils one)

    stands : (one : ProcessState) → one_of tmp members ≡ Some one → (line : EverLine) → Contains (shown_lasting w.tree tmp one) line →
        HasLine text (ever_line_text w.tree line)
    stands one is line listed =
        let found = in_lines (λ (l : EverLine). with_end (ever_line_text w.tree l)) (shown_lasting w.tree tmp one) line listed in
        let front = answer_lines 1 done.answers in (
          (front ++ head) ++ state one ++ found.0,
          found.1,
          parts.1 ∙ ap (λ o. front ++ (head ++ joint_list choice.rules tmp w.tree o)) is
              ∙ ap (λ lines. front ++ (head ++ (state one ++ lines))) found.2
              ∙ sym (append_assoc front head (state one ++ (found.0 ++ with_end (ever_line_text w.tree line) ++ found.1)))
              ∙ behind (front ++ head) (state one) found.0 (with_end (ever_line_text w.tree line)) found.1,
        )

    of_members : IsTogetherWritten choice.rules table t first which text
    of_members = record {
      members = members;
      asked = here.0;
      here = here.1;
      is_text = parts.1;
      complete = λ one is. foreseen one (living members)
          (those_living table w members (are_unrefused table w members unrefused here.1))
          (sym (fault_veils table members unrefused) ∙ parts.0) is;
      whole = λ one is. all_shown one (living members) is;
      printed = stands;
    }

  written : IsTogetherWritten choice.rules table t first which text
  written = by (all_made w (numbers_in w which)) refl after
    where
      by : (made : Result (List Member) ToolFault) → all_made w (numbers_in w which) ≡ made →
          (made >>= λ members. together_of choice.rules done members) ≡ Ok text → IsTogetherWritten choice.rules table t first which text
      by (Ok members) is e = of_members members is e
      by (Err fault) is e = absurd (Err≢Ok fault text e)

pub together_as_written : TogetherAfterRead → TogetherAsWritten
together_as_written together choice tree_bytes script_bytes table t first which text given read scripted told =
    written together choice tree_bytes script_bytes table t first which text given read scripted told
