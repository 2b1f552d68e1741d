-- What is shown of a list for ever: cut at the root of a process that is enclosed for ever, and whole of any other.
use Rattle.pua_ever.proofs.Common.{if◌then◌else◌, and_parts, ◌&&◌, ◌==◌, false≢true, ◌≡◌, ◌≢◌, ◌⊎◌, ℕ, List, [], ◌∷◌, Bool, true, false, refl, sym, ap, subst, ◌∙◌, inl, inr, Option, Some, None}
use Rattle.pua_ever.proofs.Common.{Result, Ok, not, ◌||◌, and_from, not-true, same_Some, Tree, Found, CallTable, Call, ProcessState}
use Rattle.pua_ever.proofs.Common.{verdict_of, among_contained, among_filter, contained, filter_among, ever, EverLine, EditsNeedC, VeilsStand}
use Rattle.pua_ever.proofs.Common.{NoCallNeedsError, Asked, World, world_after, kept_at, is_exec, is_member, none_done, TreesAlong}
use Rattle.std.specs.Prelude.{bit_or}
use Rattle.std.proofs.lemmas.Bool.{false_from_ne_true}
use Rattle.pua_tree.specs.Listing.{listing}
use Rattle.pua_calls.specs.declared.rules.Rules.{Rules}
use Rattle.pua_policy.proofs.ForCallers.{holds_through}
use Rattle.pua_script.specs.Bytes.{are_in_bytes}
use Rattle.pua_script.specs.Scripts.{script_by}
use Rattle.pua_path.specs.Resolution.{resolution_of_text}
use Rattle.pua_path.specs.declared.errno.Errno.{Errno}
use Rattle.pua_path.specs.declared.found.Start.{Start}
use Rattle.pua_calls.specs.Calls.{ending_of, last_of}
use Rattle.pua_calls.specs.Promises.{holds, id}
use Rattle.pua_calls.specs.TmpTable.{tmp_table}
use Rattle.pua_calls.proofs.ForCallers.{tmp_table_needs_no_error}
use Rattle.pua_policy.specs.States.{held_set, root_dir, with_both}
use Rattle.pua_script.specs.Bytes.{IsByteTree}
use Rattle.pua_script.specs.Family.{family, HasKept}
use Rattle.pua_script.specs.Laws.{IsConfined}
use Rattle.pua_script.specs.Replay.{new_world}
use Rattle.pua_script.proofs.ForCallers.{at_all, begins, listings_list_byte_trees, replays_keep_byte_trees, replays_keep_trees, scripts_ask_in_bytes}
use Rattle.pua_objects.specs.Roots.{is_enclosed, is_enclosed_for_ever, is_held_inside, shown_for_ever, shown_of, stays_in}
use Rattle.pua_objects.specs.declared.roots.Shown.{Shown}
use Rattle.pua_objects.specs.declared.roots.Shown.TheVariants.{All, Below}
use Rattle.pua_ever.specs.EnclosedForEver.{EverShown, EverShownAfterRead, EverShownLasts, ForeseesInside, ForeseesShown, InsideThroughExecs}
use Rattle.pua_ever.specs.EnclosedForEver.{IsEnclosedIn, WithoutShownExec}
use Rattle.pua_ever.specs.ShownForEver.{execs_shown, is_inside, lines_shown, only_inside, shown_ever, shown_lasting, shown_longest}
use Rattle.pua_ever.specs.Laws.{ForeseesIn, IsForeseenIn, MembersEdit}
use Rattle.pua_ever.specs.Through.{GoAlong, bound_of, ever_through, has_exec, is_bounded, is_promised_by_one, let_through}
use Rattle.pua_ever.specs.declared.lasting_list.ExecBound.TheVariants.{Open}
use Rattle.pua_ever.proofs.Chosen.{bound_too}
use Rattle.pua_ever.proofs.Complete.{beside_one}
use Rattle.pua_ever.proofs.Enclosing.{Enclosed, enclosed_parts}
use Rattle.pua_ever.proofs.EnclosedAlong.{AreIn, bounded_frees, enclosed_in, none_frees}
use Rattle.pua_ever.proofs.Execs.{none_loosens}
use Rattle.pua_ever.proofs.Holding.{along_after, along_first, bound_parts}
use Rattle.pua_ever.proofs.KindsKept.{alone_are}
use Rattle.pua_ever.proofs.NoExec.{without_exec_beside}
use Rattle.pua_ever.proofs.ShownChosen.{longest_bounded, longest_unbounded, longest_unstarted, shown_bounded, shown_starts_open}
use Rattle.pua_ever.proofs.ShownChosen.{shown_unbounded, shown_unstarted}
use Rattle.pua_ever.proofs.ShownEver.{inside_within}
use Rattle.pua_ever.proofs.ShownNoExec.{without_exec_inside}
use Rattle.pua_ever.proofs.Through.{along_too, comes_too, fits_named, line_too, ever_through_execs, first_of, listed_through, members_within}
use Rattle.pua_ever.proofs.Through.{no_line, none_looser, promised_by_one, second_of}
use Rattle.pua_ever.proofs.Ways.{all_among}
use Rattle.pua_ever.proofs.VeilPlacesGiven.{new_places, replays_keep_places}

-- ---- through execs

module _ (table : CallTable) (sound : NoCallNeedsError table) (needs : EditsNeedC table) (now : ProcessState) (given : ℕ)
    (bounded : is_bounded table given ≡ true) (w : World) (asks : List Asked) (root : ℕ) (stand : VeilsStand w.tree now)
    (trees : TreesAlong table w asks) (members : List ℕ) (are : GoAlong table w now given members) (edits : MembersEdit table w asks members)
    (lacks : holds (held_set now) id ≡ false) (lacks_given : holds given id ≡ false) (in_root : AreIn table root w members)
    (member : ℕ) (belongs : is_member (family table w asks members) member ≡ true) where
  abbrev both : ProcessState
  both = with_both now given

  abbrev tmp : CallTable
  tmp = tmp_table table

  abbrev after : Tree
  after = (world_after table w asks).tree

  -- a line of the list of both at or below the root is one of the list through execs
  through_inside : (c : Call) (named : Result Found Errno) → is_promised_by_one tmp now given c ≡ true →
      ((object : Found) → named ≡ Ok object → (from : Start) × (text : List ℕ) × (resolution_of_text after from (ending_of c) text (last_of c) ≡ Ok object)) →
      IsForeseenIn (only_inside w.tree root (ever w.tree tmp both)) w.tree both after c named →
      IsForeseenIn (only_inside w.tree root (ever_through w.tree tmp now given)) w.tree now after c named
  through_inside c named one spelled seen =
      let lines = ever w.tree tmp both in
      let cut = filter_among (λ (line : EverLine). is_inside w.tree root line.thing) lines seen.line
      (among_contained (only_inside w.tree root lines) seen.line seen.listed) in
      let text = spelled seen.object seen.names in
      let comes = comes_too table sound needs now given bounded w asks stand trees members are edits member belongs seen.line.thing seen.object
      (fits_named table sound needs now given bounded w asks stand trees members are edits member belongs text.0 c text.1 seen.object text.2)
      seen.about in
      let there = listed_through table sound needs now given bounded w.tree seen.line c (contained lines seen.line cut.0) seen.allows comes one in
      let line : EverLine = let_through (is_promised_by_one tmp now given) seen.line in
      record {
        object = seen.object;
        names = seen.names;
        line = line;
        listed = contained (only_inside w.tree root (ever_through w.tree tmp now given)) line
            (among_filter (λ (l : EverLine). is_inside w.tree root l.thing) (ever_through w.tree tmp now given) line cut.1
            (among_contained (ever_through w.tree tmp now given) line there.0));
        about = line_too now given w.tree after seen.line.thing seen.object seen.about;
        allows = there.1;
      }

  pub inside_through : HasKept (world_after table w asks) member (λ last. IsEnclosedIn after root last
      × ForeseesInside root (only_inside w.tree root (ever_through w.tree tmp now given)) w.tree tmp now after last)
  inside_through =
      let seen = inside_within table sound needs w asks root members both (members_within table sound needs now given bounded w members are) in_root
      stand trees (none_looser table sound needs now given bounded asks w members are)
      (bounded_frees table sound now given bounded lacks lacks_given asks w members are) edits member belongs in
      let last = along_after table sound now given bounded asks w members are member belongs in
      let same : last.0 ≡ seen.0 = same_Some last.0 seen.0 (sym last.1 ∙ seen.1) in (
        seen.0,
        seen.1,
        (
          seen.2.0,
          λ from is_root stays call text e.
              let named = resolution_of_text after from (ending_of call) text (last_of call) in
              let one = promised_by_one tmp (tmp_table_needs_no_error table sound) now given last.0
              (along_too table sound needs now given bounded last.0 last.2) after call named
              (ap (λ h. verdict_of after tmp h call named) same ∙ e) in
              through_inside call named one (λ object is. (from, text, is)) (seen.2.1 from is_root stays call text e),
        ),
      )

pub inside_through_execs : InsideThroughExecs
inside_through_execs table sound needs w asks root members now given bounded lacks lacks_given are enclosed stand trees edits member belongs =
    inside_through table sound needs now given bounded w asks root stand trees members are edits lacks lacks_given
    (λ m there. let one = enclosed m there in (one.0, one.1, enclosed_in w.tree root one.0 one.2)) member belongs

-- ---- cut or whole

-- a list for ever shows all, or what is at or below the root of a process that is enclosed for ever
pub whole_or_cut : (t : Tree) (h : ProcessState) →
    (shown_for_ever t h ≡ All) ⊎ ((shown_for_ever t h ≡ Below (root_dir h)) × (is_enclosed_for_ever t h ≡ true))
whole_or_cut t h = by (holds (held_set h) id) (root_dir h == 0) (is_enclosed t h) refl refl refl
  where
    shown_by : Bool → Bool → Bool → Shown
    shown_by changes top encloses = if changes then All else (if not top && encloses then Below (root_dir h) else All)

    by : (changes top encloses : Bool) → holds (held_set h) id ≡ changes → (root_dir h == 0) ≡ top → is_enclosed t h ≡ encloses →
        (shown_for_ever t h ≡ All) ⊎ ((shown_for_ever t h ≡ Below (root_dir h)) × (is_enclosed_for_ever t h ≡ true))
    by true top encloses c r e = inl (ap (λ b. if b then All else shown_of t h) c)
    by false true encloses c r e = inl (λ i. shown_by (c i) (r i) (e i))
    by false false false c r e = inl (λ i. shown_by (c i) (r i) (e i))
    by false false true c r e = inr ((λ i. shown_by (c i) (r i) (e i)), and_from (is_enclosed t h) _ e (ap not c))

-- what is shown below a directory is so below the root
pub below_root : (t : Tree) (h : ProcessState) (root : ℕ) → shown_for_ever t h ≡ Below root → root ≡ root_dir h
below_root t h root is = elim (whole_or_cut t h) [
  | inl whole ↦ let never : All ≡ Below root = sym whole ∙ is in cc
  | inr cut ↦ let same : Below root ≡ Below (root_dir h) = sym is ∙ cut.0 in cc
]

module _ (t later : Tree) (table : CallTable) (now last : ProcessState) (lines : List EverLine) where
  -- a whole list foresees wherever paths start
  pub whole_foresees : ForeseesIn lines t table now later last → ForeseesShown All lines t table now later last
  whole_foresees seen = record {
    starts = record { own = tt; open_files = λ number file there is. tt };
    foresees = λ from anywhere call text e. seen from call text e;
  }

  -- a cut one where those of an enclosed process do
  cut_foresees : (root : ℕ) → IsEnclosedIn later root last → ForeseesInside root lines t table now later last →
      ForeseesShown (Below root) lines t table now later last
  cut_foresees root k seen =
      let placed = (enclosed_in later root last k).placed in
      record {
        starts = record {
          own = (placed.rooted, placed.dir);
          open_files = λ number file there is. (
            placed.rooted,
            sym (ap (λ b. not b || stays_in later root file.node) is) ∙
                all_among (λ held. is_held_inside later root held.1) last.files (number, file) placed.files (among_contained last.files (number, file) there),
          );
        };
        foresees = λ from within call text e. seen from within.0 within.1 call text e;
      }

-- ---- lists of one process

module _ (table : CallTable) (sound : NoCallNeedsError table) (needs : EditsNeedC table) (w : World) (asks : List Asked) (process : ℕ)
    (now : ProcessState) (here : kept_at w process ≡ Some now) (confined : IsConfined now) (stand : VeilsStand w.tree now)
    (trees : TreesAlong table w asks) (edits : MembersEdit table w asks (process ∷ [])) where
  abbrev wide : CallTable
  wide = tmp_table table

  abbrev later : Tree
  later = (world_after table w asks).tree

  -- where no line that is shown has exec, none can succeed
  without_shown : has_exec (shown_ever w.tree wide now) ≡ false → none_done is_exec table w asks (process ∷ []) ≡ true
  without_shown none = elim (whole_or_cut w.tree now) [
    | inl whole ↦ without_exec_beside table sound needs w asks process now here confined stand trees edits
        (no_line w.tree wide now (sym (ap (λ s. has_exec (lines_shown w.tree s (ever w.tree wide now))) whole) ∙ none))
    | inr cut ↦ without_exec_inside table sound needs w asks process now here confined cut.1 stand trees edits
        (sym (ap (λ s. has_exec (lines_shown w.tree s (ever w.tree wide now))) cut.0) ∙ none)
  ]

  module _ (member : ℕ) (belongs : is_member (family table w asks (process ∷ [])) member ≡ true) where
    abbrev Seen : Shown → List EverLine → Type 0
    Seen shown lines = HasKept (world_after table w asks) member (ForeseesShown shown lines w.tree wide now later)

    -- by who has the root and the files of the process, and what that holds
    seen_by : (h : ProcessState) (lines : List EverLine) → root_dir h ≡ root_dir now →
        HasKept (world_after table w asks) member (ForeseesIn lines w.tree wide now later) →
        (is_enclosed_for_ever w.tree h ≡ true → HasKept (world_after table w asks) member (λ last. IsEnclosedIn later (root_dir now) last
        × ForeseesInside (root_dir now) (only_inside w.tree (root_dir now) lines) w.tree wide now later last)) →
        Seen (shown_for_ever w.tree h) (lines_shown w.tree (shown_for_ever w.tree h) lines)
    seen_by h lines same whole cut = elim (whole_or_cut w.tree h) [
      | inl is ↦ (
        whole.0,
        whole.1,
        subst (λ s. ForeseesShown s (lines_shown w.tree s lines) w.tree wide now later whole.0) (sym is)
            (whole_foresees w.tree later wide now whole.0 lines whole.2),
      )
      | inr is ↦
          let seen = cut is.1 in (
            seen.0,
            seen.1,
            subst (λ s. ForeseesShown s (lines_shown w.tree s lines) w.tree wide now later seen.0) (sym (is.0 ∙ ap Below same))
                (cut_foresees w.tree later wide now seen.0 (only_inside w.tree (root_dir now) lines) (root_dir now) seen.2.0 seen.2.1),
          )
    ]

    one_in : is_enclosed_for_ever w.tree now ≡ true → AreIn table (root_dir now) w (process ∷ [])
    one_in enclosed = alone_are (Enclosed w.tree (root_dir now)) w process now here (enclosed_parts w.tree now enclosed)

    alone_seen : none_done is_exec table w asks (process ∷ []) ≡ true → Seen (shown_for_ever w.tree now) (shown_ever w.tree wide now)
    alone_seen none =
        seen_by now (ever w.tree wide now) refl
        (beside_one table sound needs w asks process now here confined stand trees none edits member belongs)
        (λ enclosed. inside_within table sound needs w asks (root_dir now) (process ∷ []) now
        (at_all w (process ∷ []) now (begins table now w process here confined)) (one_in enclosed) stand trees
        (none_loosens table now asks w (process ∷ []) none) (none_frees table asks w (process ∷ []) none) edits member belongs)

    -- who holds both sets is enclosed for ever where the process is, and neither set is the promise
    both_enclosed : (given : ℕ) → is_enclosed_for_ever w.tree (with_both now given) ≡ true →
        (is_enclosed_for_ever w.tree now ≡ true) × (holds given id ≡ false)
    both_enclosed given enclosed =
        let parts = and_parts (is_enclosed w.tree now) (not (holds (bit_or (held_set now) given) id)) enclosed in
        let lacks = not-true (holds (bit_or (held_set now) given) id) parts.1 in (
          and_from (is_enclosed w.tree now) _ parts.0 (ap not (false_from_ne_true _ (λ own. false≢true
              (sym lacks ∙ holds_through (bit_or (held_set now) given) (held_set now) id (first_of (held_set now) given) own)))),
          false_from_ne_true _ (λ later. false≢true
              (sym lacks ∙ holds_through (bit_or (held_set now) given) given id (second_of (held_set now) given) later)),
        )

    through_seen : (given : ℕ) → bound_of table now ≡ Some given → Seen (shown_for_ever w.tree (with_both now given))
        (lines_shown w.tree (shown_for_ever w.tree (with_both now given)) (ever_through w.tree wide now given))
    through_seen given bound =
        let parts = bound_parts table now given bound in
        let along = along_first table sound now given parts.bounded w process here parts.set parts.confined in
        seen_by (with_both now given) (ever_through w.tree wide now given) refl
        (ever_through_execs table sound needs w asks (process ∷ []) now given parts.bounded along stand trees edits member belongs)
        (λ enclosed.
        let own = both_enclosed given enclosed in
        inside_through table sound needs now given parts.bounded w asks (root_dir now) stand trees (process ∷ []) along edits
        (enclosed_parts w.tree now own.0).lacks own.1 (one_in own.0) member belongs)

    -- the list that holds longest is one of the two
    as_alone : (shown_longest w.tree wide now ≡ shown_for_ever w.tree now) → (shown_lasting w.tree wide now ≡ shown_ever w.tree wide now) →
        none_done is_exec table w asks (process ∷ []) ≡ true → Seen (shown_longest w.tree wide now) (shown_lasting w.tree wide now)
    as_alone longest lasting none =
        subst (λ s. Seen s (shown_lasting w.tree wide now)) (sym longest)
        (subst (Seen (shown_for_ever w.tree now)) (sym lasting) (alone_seen none))

    lasting_seen : (execs_shown w.tree wide now ≢ Open) ⊎ (none_done is_exec table w asks (process ∷ []) ≡ true) →
        Seen (shown_longest w.tree wide now) (shown_lasting w.tree wide now)
    lasting_seen held = by (has_exec (shown_ever w.tree wide now)) refl (bound_of table now) refl held
      where
        by : (b : Bool) → has_exec (shown_ever w.tree wide now) ≡ b → (o : Option ℕ) → bound_of table now ≡ o →
            (execs_shown w.tree wide now ≢ Open) ⊎ (none_done is_exec table w asks (process ∷ []) ≡ true) →
            Seen (shown_longest w.tree wide now) (shown_lasting w.tree wide now)
        by false none o bound either =
            as_alone (longest_unstarted w.tree wide now none) (shown_unstarted w.tree wide now none) (without_shown none)
        by true some (Some given) bound either =
            let bound_tmp = bound_too table now ∙ bound in
            subst (λ s. Seen s (shown_lasting w.tree wide now)) (sym (longest_bounded w.tree wide now given bound_tmp some))
            (subst (Seen (shown_for_ever w.tree (with_both now given))) (sym (shown_bounded w.tree wide now given bound_tmp some))
            (through_seen given bound))
        by true some None bound (inr none) =
            let unbound = bound_too table now ∙ bound in
            as_alone (longest_unbounded w.tree wide now unbound) (shown_unbounded w.tree wide now unbound) none
        by true some None bound (inl shut) = absurd (shut (shown_starts_open w.tree wide now some (bound_too table now ∙ bound)))

pub ever_shown : EverShown
ever_shown table sound needs w asks process now here confined stand trees none edits member belongs =
    alone_seen table sound needs w asks process now here confined stand trees edits member belongs none

pub without_shown_exec : WithoutShownExec
without_shown_exec table sound needs w asks process now here confined stand trees edits none =
    without_shown table sound needs w asks process now here confined stand trees edits none

pub ever_shown_lasts : EverShownLasts
ever_shown_lasts table sound needs w asks process now here confined stand trees held edits member belongs =
    lasting_seen table sound needs w asks process now here confined stand trees edits member belongs held

-- ---- behind a listing and a script as they are read

pub ever_shown_after_read : EverShownAfterRead
ever_shown_after_read table sound needs rules tree_bytes script_bytes t before asks listed scripted bytes process now here confined held
    edits member belongs =
    let w = world_after table (new_world t) before in
    let said = scripts_ask_in_bytes rules script_bytes before scripted in
    let tree : IsByteTree t = listings_list_byte_trees tree_bytes t listed in
    let left = replays_keep_byte_trees table (new_world t) before tree said in
    let places = replays_keep_places table needs (new_world t) before (replays_keep_trees table (new_world t) before tree said)
    (new_places t) in
    ever_shown_lasts table sound needs w asks process now here confined (places process now here)
    (replays_keep_trees table w asks left bytes) held edits member belongs

-- where no line that is shown has exec, none of theirs can succeed
pub none_shown_after_read : (table : CallTable) → NoCallNeedsError table → EditsNeedC table →
    (rules : Rules) (tree_bytes script_bytes : List ℕ) (t : Tree) (before asks : List Asked) →
    listing tree_bytes ≡ Ok t → script_by rules script_bytes ≡ Ok before → are_in_bytes asks ≡ true →
    let w = world_after table (new_world t) before in
    (process : ℕ) (now : ProcessState) → kept_at w process ≡ Some now → IsConfined now →
    has_exec (shown_ever w.tree (tmp_table table) now) ≡ false → MembersEdit table w asks (process ∷ []) →
    none_done is_exec table w asks (process ∷ []) ≡ true
none_shown_after_read table sound needs rules tree_bytes script_bytes t before asks listed scripted bytes process now here confined quiet edits =
    let w = world_after table (new_world t) before in
    let said = scripts_ask_in_bytes rules script_bytes before scripted in
    let tree : IsByteTree t = listings_list_byte_trees tree_bytes t listed in
    let left = replays_keep_byte_trees table (new_world t) before tree said in
    let places = replays_keep_places table needs (new_world t) before (replays_keep_trees table (new_world t) before tree said)
    (new_places t) in
    without_shown_exec table sound needs w asks process now here confined (places process now here)
    (replays_keep_trees table w asks left bytes) edits quiet
