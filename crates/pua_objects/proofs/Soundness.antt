-- Each call of a line is allowed on the line's own path.
use Rattle.pua_objects.proofs.Common.{◌≡◌, ◌≤◌, ℕ, List, [], ◌∷◌, ◌++◌, length, map, Bool, true, false, refl, sym, ap, ◌∙◌, subst}
use Rattle.pua_objects.proofs.Common.{append-nil, Option, Some, None, Ok, Err, not, ◌&&◌, ◌||◌, if◌then◌else◌, and_parts, Tree, look}
use Rattle.pua_objects.proofs.Common.{is_dir, Sound, sound_from, path_fault, Last, Followed, Kept, Way, Top, Found, Whole, Slot, CallTable}
use Rattle.pua_objects.proofs.Common.{calls, last_of, ProcessState, veils, is_link, is_link_kind, verdict, is_allowed, Call, Allowed, Word}
use Rattle.pua_objects.proofs.Common.{Subject, At, Others, Line, line_of, has_calls, items, is_named_by, subject_verdict}
use Rattle.std.specs.Prelude.{option_map}
use Rattle.pua_tree.specs.Tree.{node_at}
use Rattle.pua_tree.specs.Steps.{◌>>=◌}
use Rattle.pua_path.specs.Paths.{parts_of, is_absolute}
use Rattle.pua_path.specs.Resolution.{resolve_parts, resolution, resolution_of_text, most_links}
use Rattle.pua_path.specs.declared.errno.Errno.TheVariants.{ENOENT}
use Rattle.pua_path.specs.declared.found.Part.{Part}
use Rattle.pua_path.specs.declared.found.Part.TheVariants as parts
use Rattle.pua_calls.specs.CallSets.{is_kept}
use Rattle.pua_calls.specs.Calls.{ending_of}
use Rattle.pua_policy.specs.States.{root_dir, start, working_dir}
use Rattle.pua_policy.specs.Verdict.{verdict_of, object_named}
use Rattle.pua_objects.specs.Laws.{path_from_root, IsAllowedBy, IsCallTold, IsCallToldBehind, SoundBelow, SoundLines}
use Rattle.std.specs.List.{Contains}
use Rattle.std.specs.Prelude.{◌==◌}
use Rattle.std.proofs.lemmas.Bool.{or_right}
use Rattle.pua_tree.specs.Tree.{is_within}
use Rattle.pua_objects.proofs.Common.{calls_on, Item}
use Rattle.pua_objects.specs.Objects.{objects}
use Rattle.pua_objects.specs.Roots.{dir_of, is_shown, shown_objects, shows}
use Rattle.pua_objects.proofs.ShownLines.{encloses, not_top}
use Rattle.pua_objects.proofs.Among.{Among, contained, filter_among, map_among, among_contained}
use Rattle.pua_objects.proofs.Judged.{others_verdict}
use Rattle.pua_objects.proofs.Completeness.{allowed_is}
use Rattle.pua_objects.proofs.Leading.{AreNames, with_last, names_path, Leads, resolve_along, IsPlainThere, IsNamed, slot_resolved}
use Rattle.pua_objects.proofs.Leading.{whole_resolved, IsPlaced, beneath, items_placed}
use Rattle.pua_path.specs.Resolution.{has_root, rooted}

module _ (t : Tree) (h : ProcessState) (root : ℕ) (top : root_dir h ≡ root) (lives : has_root t root ≡ true) where
  -- a path without fault from the root names what its parts do
  named_by_parts : (call : Call) (text : List ℕ) (ps : List Part) (object : Found) → path_fault text ≡ None → is_absolute text ≡ true →
      parts_of (ending_of call) text ≡ ps →
      (resolve_parts most_links (rooted t root) (last_of call) root Top ps >>= λ found. Ok found.0) ≡ Ok object → object_named t h call text ≡ Ok object
  named_by_parts call text ps object fault absolute are e = whole fault ∙ from_root ∙ e
    where
      whole : path_fault text ≡ None →
          resolution_of_text t (start h) (ending_of call) text (last_of call) ≡ resolution t (start h) (ending_of call) text (last_of call)
      whole none = rw none refl

      from_root : resolution t (start h) (ending_of call) text (last_of call)
          ≡ (resolve_parts most_links (rooted t root) (last_of call) root Top ps >>= λ found. Ok found.0)
      from_root =
          (λ i. if not (if absolute i then has_root t (top i) else is_dir t (working_dir h)) then Err ENOENT
          else (resolve_parts most_links (rooted t (if has_root t (top i) then top i else 0)) (last_of call)
          (if absolute i then top i else working_dir h) Top (are i) >>= λ found. Ok found.0))
          ∙ ap (λ b. if not b then Err ENOENT else (resolve_parts most_links (rooted t (if b then root else 0)) (last_of call) root Top ps
          >>= λ found. Ok found.0)) lives

  names_before : (over : Word) (name : List ℕ) → map parts.Name (over ++ name ∷ []) ≡ map parts.Name over ++ parts.Name name ∷ []
  names_before [] name = refl
  names_before (other ∷ over) name = ap (λ ps. parts.Name other ∷ ps) (names_before over name)

  -- a directory is named by the names that lead to it
  whole_named : (call : Call) (word : Word) (dir : ℕ) (way : Way) → AreNames word → Leads t root word dir way →
      length (path_from_root word) ≤ 1023 → object_named t h call (path_from_root word) ≡ Ok (Whole dir way)
  whole_named call word dir way all leads short =
      let is = names_path word all short in
      named_by_parts call (path_from_root word) (map parts.Name word ++ []) (Whole dir way) is.fault is.absolute (is.parts (ending_of call)
      ∙ sym (append-nil (map parts.Name word)))
      (ap (λ r. r >>= λ found. Ok found.0) (resolve_along t root (last_of call) most_links word dir way [] leads ∙
      whole_resolved t root (last_of call) most_links dir way))

  -- and anything else by one name more
  slot_named : (call : Call) (over : Word) (dir : ℕ) (way : Way) (name : List ℕ) (o : Option ℕ) → AreNames (over ++ name ∷ []) →
      Leads t root over dir way → look t dir name ≡ o → IsPlainThere t root o → IsNamed t root (last_of call) o
      → length (path_from_root (over ++ name ∷ [])) ≤ 1023 →
      object_named t h call (path_from_root (over ++ name ∷ [])) ≡ Ok (Slot dir name o)
  slot_named call over dir way name o all leads row plain named short =
      let is = names_path (over ++ name ∷ []) all short in
      named_by_parts call (path_from_root (over ++ name ∷ [])) (map parts.Name over ++ parts.Name name ∷ []) (Slot dir name o) is.fault
      is.absolute (is.parts (ending_of call) ∙ names_before over name)
      (ap (λ r. r >>= λ found. Ok found.0) (resolve_along t root (last_of call) most_links over dir way (parts.Name name ∷ []) leads ∙
      slot_resolved t root (last_of call) most_links dir way name o row plain named))

  -- a link is named by the calls that keep it
  named_slot : (call : Call) (dir : ℕ) (name : List ℕ) (o : Option ℕ) (mode : Last) →
      (is_kept mode || not (is_link t (Slot dir name o))) ≡ true → IsNamed t root mode o
  named_slot call dir name o Kept e = tt
  named_slot call dir name None Followed e = tt
  named_slot call dir name (Some x) Followed e = denied (is_link_kind (option_map (λ n. n.kind) (node_at t x))) e
    where
      denied : (b : Bool) → not b ≡ true → b ≡ false
      denied true e = cc
      denied false e = refl

  module _ (sound : Sound t) (table : CallTable) where
    allowed_by : (call : Call) (word : Word) (object : Found) → object_named t h call (path_from_root word) ≡ Ok object →
        verdict t table h call object ≡ Allowed → IsAllowedBy t table h call word object
    allowed_by call word object names allowed = record { names = names; allowed = ap (verdict_of t table h call) names ∙ allowed }

    told_of : (call : Call) (word : Word) (subject : Subject) → AreNames word → IsPlaced t root word subject →
        is_named_by t call subject ≡ true → subject_verdict t table h call subject ≡ Allowed → IsCallTold t table h call word subject
    told_of call word (At (Whole dir way)) all leads named allowed =
        λ short. allowed_by call word (Whole dir way) (whole_named call word dir way all leads short) allowed
    told_of call word (At (Slot dir name o)) all place named allowed = λ short.
        let there : AreNames (place.0 ++ name ∷ []) = (let P : Word → Type 0 = λ w. AreNames w in subst P place.2 all) in
        let fits : length (path_from_root (place.0 ++ name ∷ [])) ≤ 1023 = (let P : Word → Type 0 = λ w. length (path_from_root w) ≤ 1023 in
        subst P place.2 short) in
        allowed_by call word (Slot dir name o)
        (ap (λ w. object_named t h call (path_from_root w)) place.2 ∙
        slot_named call place.0 dir place.1 name o there place.3 place.4 place.5 (named_slot call dir name o (last_of call) named) fits)
        allowed
    told_of call word (Others dir) all place named allowed = λ name is none unveiled short.
        allowed_by call (word ++ name ∷ []) (Slot dir name None) (slot_named call word dir place.0 name None (with_last word name all is)
        place.1 none tt (named_missing (last_of call)) short)
        (others_verdict t sound table h call dir name unveiled ∙ allowed)
      where
        named_missing : (mode : Last) → IsNamed t root mode None
        named_missing Kept = tt
        named_missing Followed = tt

-- what is so of a line that is listed
module _ (t : Tree) (table : CallTable) (h : ProcessState) (line : Line) (call : Call) where
  of_item : (P : Line → Type 0) → ((item : Item) → Among (items t (veils h)) item → item.subject ≡ line.subject →
      is_named_by t call item.subject ≡ true → subject_verdict t table h call item.subject ≡ Allowed → P (line_of t table h item)) →
      Contains (objects t table h) line → Contains line.calls call → P line
  of_item P so there here =
      let a = filter_among has_calls (map (line_of t table h) (items t (veils h))) line (among_contained _ line there) in
      let b = map_among (line_of t table h) (items t (veils h)) line a.0 in
      let item = b.0 in
      let calls_of : Among (calls_on t table h item.subject) call =
      subst (λ (l : Line). Among l.calls call) (sym b.2) (among_contained line.calls call here) in
      let d = filter_among (λ other. is_named_by t other item.subject && is_allowed (subject_verdict t table h other item.subject)) calls call
      calls_of in
      let e = and_parts (is_named_by t call item.subject) (is_allowed (subject_verdict t table h call item.subject)) d.1 in
      subst P b.2 (so item b.1 (ap (λ (l : Line). l.subject) b.2) e.0 (allowed_is _ e.1))

pub sound_lines : SoundLines
sound_lines t table h fits places top line there call here =
    of_item t table h line call (λ l. IsCallTold t table h call l.word l.subject) (λ item a same named allowed.
    let placed = items_placed t fits (sound_from t fits) h places item a in
    subst (λ (w : Word). IsCallTold t table h call w item.subject) (sym placed.word)
    (told_of t h 0 top refl (sound_from t fits) table call placed.rest item.subject placed.names placed.place named allowed)) there here

pub sound_below : SoundBelow
sound_below t table h fits places root below line there unlike call here =
    let around = encloses t h root below in
    let kept = filter_among (λ (l : Line). is_shown t h l.subject) (objects t table h) line (among_contained (shown_objects t table h) line there) in
    let within : is_within t (dir_of line.subject) root ≡ true = ap (λ s. shows t s line.subject) (sym below) ∙ kept.1 in
    of_item t table h line call (λ l. IsCallToldBehind t table h call l.word l.subject) (λ item a same named allowed.
    let placed = beneath t fits (sound_from t fits) h places root (not_top t h root below) item a
    (ap (λ s. is_within t (dir_of s) root) same ∙ within) (λ way is. unlike way (sym same ∙ is)) in (
      placed.0,
      placed.1.rest,
      placed.1.word,
      told_of t h root around.is (or_right (root == 0) (is_dir t root) around.lives) (sound_from t fits) table call placed.1.rest item.subject placed.1.names
          placed.1.place named allowed,
    )) (contained (objects t table h) line kept.0) here
