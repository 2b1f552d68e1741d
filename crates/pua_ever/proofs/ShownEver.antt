-- What is allowed later to processes that are enclosed for ever has a line now that is at or below their root.
use Rattle.pua_ever.proofs.Common.{◌≡◌, ◌⊎◌, ◌≤◌, ◌<◌, ℕ, List, [], ◌∷◌, Bool, true, false, refl, sym, ap, subst, ◌∙◌, inl, inr, arith, Some, None}
use Rattle.pua_ever.proofs.Common.{Option, Result, Ok, Err, ◌==◌, option_eq, false≢true, and_parts, eq-eqb, eqb-true, not-true, same_Some}
use Rattle.pua_ever.proofs.Common.{Some≢None, Tree, WellFormed, Spot, is_dir, look, node_at, kind_at, sound_from, row_says, same_dir}
use Rattle.pua_ever.proofs.Common.{Found, Whole, Slot, Followed, resolutions_fit, named_within_text, CallTable, rule_of, Call, ProcessState, may_any}
use Rattle.pua_ever.proofs.Common.{cover, cover_fault, object_fault, object_of_kind, row_cover, can_move, can_link, file_covers, may_edit, is_allowed}
use Rattle.pua_ever.proofs.Common.{verdict_of, allowed_is, At, Among, among_filter, contained, Stands, EverLine, ever, EditsNeedC, VeilsStand}
use Rattle.pua_ever.proofs.Common.{NoCallNeedsError, Members, verdicts_within, Asked, World, apply, world_after, is_member}
use Rattle.pua_ever.proofs.Common.{family_then, TreesAlong, first_tree}
use Rattle.pua_tree.specs.Tree.{is_within}
use Rattle.pua_path.specs.Fits.{IsOf, is_link}
use Rattle.pua_path.specs.Resolution.{resolution_of_text, rooted}
use Rattle.pua_path.specs.declared.errno.Errno.{Errno}
use Rattle.pua_path.specs.declared.found.Start.{Start}
use Rattle.pua_calls.specs.Calls.{ending_of, last_of}
use Rattle.pua_calls.specs.TmpTable.{tmp_table}
use Rattle.pua_calls.proofs.ForCallers.{tmp_table_needs_no_error}
use Rattle.pua_policy.specs.Verdict.{verdict}
use Rattle.pua_policy.specs.declared.answer.Verdict.TheVariants.{Allowed}
use Rattle.pua_policy.specs.declared.place.Place.TheVariants as place
use Rattle.pua_script.specs.Family.{family, HasKept}
use Rattle.pua_objects.proofs.ForCallers.{failed}
use Rattle.pua_ever.specs.EnclosedForEver.{EverInside, ForeseesInside, IsEnclosedIn, KeepInside, NoExecFrees}
use Rattle.pua_ever.specs.ShownForEver.{is_inside, only_inside}
use Rattle.pua_objects.specs.Roots.{stays_in}
use Rattle.pua_ever.specs.Ever.{Thing, kept_on, named_covers, stays_on}
use Rattle.pua_tree.specs.Tree.{device}
use Rattle.pua_ever.proofs.Devices.{devices_keep}
use Rattle.pua_ever.proofs.Growing.{requests_grow}
use Rattle.pua_ever.specs.Laws.{IsForeseenIn, IsLineOf, MembersEdit, NoExecLoosens, of_dir, of_name, of_new_dir, of_new_file, of_new_fifo, of_new_link, of_new_sock, of_new_others}
use Rattle.pua_ever.specs.Laws.{of_others, of_row}
use Rattle.pua_ever.proofs.Along.{stays_along}
use Rattle.pua_ever.proofs.Complete.{all_within}
use Rattle.pua_ever.proofs.Covers.{below_next, given_or_new}
use Rattle.pua_ever.proofs.Enclosing.{Enclosed}
use Rattle.pua_ever.proofs.EnclosedAlong.{AreIn, enclosed_again, enclosed_along, enclosed_in, one_request, own_turns}
use Rattle.pua_ever.proofs.Ending.{Listed, hit, home_of, named_linked, named_moved, parts_of, row_has, slot_of, slot_then}
use Rattle.pua_ever.proofs.Execs.{members_along, members_still}
use Rattle.pua_ever.proofs.Homes.{LeavesTo, Home, Homes, homes_first, homes_then, inner_first, moves_from_home, row_given, ties_from_home}
use Rattle.pua_ever.proofs.Inside.{dir_found, text_inside}
use Rattle.pua_ever.proofs.InsideTrees.{keep_both, keep_none}
use Rattle.pua_ever.proofs.Origins.{Stays, at_first, file_under}
use Rattle.pua_ever.proofs.Unedited.{unedited_along}

-- what is found in a later tree is young, if it is no directory and was made since
abbrev IsYoung : Tree → Found → Type 0
IsYoung t0 (Slot dir name (Some x)) = t0.next ≤ x
IsYoung t0 object = Unit {0}

module _ (table : CallTable) (t0 : Tree) (h : ProcessState) (well0 : WellFormed t0) (stand : VeilsStand t0 h) (root : ℕ) (u : Tree)
    (k : Stays table t0 h well0 stand u) (edit : (may_edit table h ≡ true) ⊎ (u ≡ t0)) (kept : KeepInside root t0 u)
    (lives : is_dir u root ≡ true) (homes : Homes table t0 h well0 stand root u) (c : Call) where
  -- the line of what is at or below the root is so too
  inside_about : (thing : Thing) (object : Found) → IsLineOf t0 u h thing object → is_within u (dir_found object) root ≡ true →
      IsYoung t0 object → is_inside t0 root thing ≡ true
  inside_about thing object (of_dir {dir = dir} below) inner young = inner_first table t0 h well0 stand root u kept dir inner below
  inside_about thing object (of_row {node = node} row at own) inner young =
      let below = below_next t0 h well0 node (row_says t0 (sound_from t0 well0) row node at).2 in absurd (omega (arith, below, young))
  inside_about thing object (of_name {dir = dir} {name = name} perms veiled) inner young =
      inner_first table t0 h well0 stand root u kept dir inner (stand (place.Slot dir name) perms veiled)
  inside_about thing object (of_others {dir = dir} below none) inner young = inner_first table t0 h well0 stand root u kept dir inner below
  inside_about thing object (of_new_dir from) inner young = refl
  inside_about thing object (of_new_file from kinds) inner young = refl
  inside_about thing object (of_new_link from kinds) inner young = refl
  inside_about thing object (of_new_sock from kinds) inner young = refl
  inside_about thing object (of_new_fifo from kinds) inner young = refl
  inside_about thing object (of_new_others from) inner young = refl

  record InsideHit (object : Found) : Type 0 where
    thing : Thing
    listed : Listed table t0 h well0 stand thing c
    about : IsLineOf t0 u h thing object
    inside : is_inside t0 root thing ≡ true

  -- what has a line that is so
  by_hit : (object : Found) → IsOf u (last_of c) object → verdict u table h c object ≡ Allowed →
      is_within u (dir_found object) root ≡ true → IsYoung t0 object → InsideHit object
  by_hit object is allowed inner young =
      let one = hit table t0 h well0 stand u k edit c object is allowed in
      record { thing = one.thing; listed = one.listed; about = one.about; inside = inside_about one.thing object one.about inner young }

  -- what was there and is no directory has the line of a row of the beginning at or below the root
  module _ (s : Spot) (x : ℕ) (row : look u s.0 s.1 ≡ Some x) (other : is_dir u x ≡ false) (below : x < t0.next)
      (inner : is_within u s.0 root ≡ true) (followed : last_of c ≡ Followed → is_link u (Slot s.0 s.1 (Some x)) ≡ false)
      (allowed : verdict u table h c (Slot s.0 s.1 (Some x)) ≡ Allowed) where
    same : node_at u x ≡ node_at t0 x
    same = k.old x below (row_says u (sound_from u k.well) s x row).2

    then : is_dir t0 x ≡ false
    then = sym (same_dir t0 u x same) ∙ other

    old_hit : (r : Spot) → look t0 r.0 r.1 ≡ Some x → (look t0 s.0 s.1 ≡ Some x → r ≡ s) → is_within t0 r.0 root ≡ true →
        Among (named_covers t0 table h (stays_on t0 h r.0) (kind_at t0 x) (cover t0 h (Slot r.0 r.1 (Some x)))) (cover u h (Slot s.0 s.1 (Some x))) →
        InsideHit (Slot s.0 s.1 (Some x))
    old_hit r at own inner_then a =
        let parts = parts_of (may_any h (rule_of table c).alternatives)
        (cover_fault (cover u h (Slot s.0 s.1 (Some x))) (rule_of table c).perms) (object_fault table.whose u c (object_of_kind (kind_at u x)))
        allowed in
        record {
          thing = Stands (At (Slot r.0 r.1 (Some x)));
          listed = row_has table t0 h well0 stand u k edit c r s x at same other followed parts.may parts.covered parts.kind a;
          about = of_row r at own;
          inside = inner_then;
        }

    -- it stands where it stood
    at_home : look t0 s.0 s.1 ≡ Some x → InsideHit (Slot s.0 s.1 (Some x))
    at_home at =
        let home = home_of table t0 h well0 stand u k edit c s x row other below in
        old_hit home.row home.at home.own (ap (λ (r : Spot). is_within t0 r.0 root) (home.own at) ∙
        inner_first table t0 h well0 stand root u kept s.0 inner (row_given table t0 h well0 stand root s x at)) home.under

    -- it came there from its home
    from_home : (look t0 s.0 s.1 ≡ Some x → ⊥) → Home table t0 h well0 stand root (device u s.0) x →
        Among (file_covers t0 table h (kept_on t0 h (device u s.0))) (row_cover u h s x) → InsideHit (Slot s.0 s.1 (Some x))
    from_home never home a =
        old_hit home.row home.at (λ e. absurd (never e)) home.inner
        (elim home.leaves [
          | inl can ↦ named_moved t0 table h (stays_on t0 h home.row.0) (kind_at t0 x) (cover t0 h (Slot home.row.0 home.row.1 (Some x))) (cover u h (Slot s.0 s.1 (Some x)))
              (ap (can_move table h) (sym (slot_then table t0 h well0 stand u k edit c home.row x then)) ∙ can) among
          | inr ties ↦ named_linked t0 table h (stays_on t0 h home.row.0) (kind_at t0 x) (cover t0 h (Slot home.row.0 home.row.1 (Some x))) (cover u h (Slot s.0 s.1 (Some x)))
              (ap (can_link table h (kind_at t0 x)) (sym (slot_then table t0 h well0 stand u k edit c home.row x then)) ∙ ties.1) among
        ])
      where
        among : Among (file_covers t0 table h (stays_on t0 h home.row.0)) (cover u h (Slot s.0 s.1 (Some x)))
        among = subst (Among (file_covers t0 table h (stays_on t0 h home.row.0))) (slot_of table t0 h well0 stand u k edit c s x other)
            (subst (λ n. Among (file_covers t0 table h (kept_on t0 h n)) (row_cover u h s x)) (sym home.near) a)

    away : (look t0 s.0 s.1 ≡ Some x → ⊥) → InsideHit (Slot s.0 s.1 (Some x))
    away never = elim (homes s x row inner other below) [
      | inl fixed ↦ absurd (never fixed.0)
      | inr home ↦ elim (file_under table t0 h well0 stand u k s x row other) [
        | inl fixed ↦ absurd (never fixed.0)
        | inr came ↦ from_home never home came.1
      ]
    ]

    old_inside : InsideHit (Slot s.0 s.1 (Some x))
    old_inside = by (look t0 s.0 s.1) refl
      where
        by : (o : Option ℕ) → look t0 s.0 s.1 ≡ o → InsideHit (Slot s.0 s.1 (Some x))
        by None is = away (λ e. Some≢None x (sym e ∙ is))
        by (Some y) is = elim (y == x) as (λ b. (y == x) ≡ b → InsideHit (Slot s.0 s.1 (Some x))) [
          | true ↦ λ equal. at_home (is ∙ ap Some (eqb-true y x equal))
          | false ↦ λ differs. away (λ e. false≢true (sym differs ∙ eq-eqb y x (same_Some y x (sym is ∙ e))))
        ] refl

  hit_inside : (object : Found) → IsOf u (last_of c) object → verdict u table h c object ≡ Allowed →
      is_within u (dir_found object) root ≡ true → InsideHit object
  hit_inside (Whole d way) is allowed inner = by_hit (Whole d way) is allowed inner tt
  hit_inside (Slot dir name None) is allowed inner = by_hit (Slot dir name None) is allowed inner tt
  hit_inside (Slot dir name (Some x)) is allowed inner = elim (given_or_new t0 x) [
    | inl below ↦ old_inside (dir, name) x is.named.1
        (not-true (is_dir u x) (and_parts (option_eq ◌==◌ (look u dir name) (Some x)) _ (and_parts (is_dir u dir) _ is.fits).1).1) below
        inner is.followed allowed
    | inr from ↦ by_hit (Slot dir name (Some x)) is allowed inner from
  ]

  pub foreseen_inside : (from : Start) → from.root ≡ root → stays_in u root from.dir ≡ true → (text : List ℕ) →
      let named = resolution_of_text u from (ending_of c) text (last_of c) in
      verdict_of u table h c named ≡ Allowed → IsForeseenIn (only_inside t0 root (ever t0 table h)) t0 h u c named
  foreseen_inside from is_root stays text = by (resolution_of_text u from (ending_of c) text (last_of c)) refl
    where
      by : (named : Result Found Errno) → resolution_of_text u from (ending_of c) text (last_of c) ≡ named →
          verdict_of u table h c named ≡ Allowed → IsForeseenIn (only_inside t0 root (ever t0 table h)) t0 h u c named
      by (Err errno) is e = absurd (failed (may_any h (rule_of table c).alternatives) errno e)
      by (Ok object) is e =
          let named = named_within_text u from (ending_of c) text (last_of c) object is in
          let inner = text_inside u k.well root lives from is_root stays (ending_of c) text (last_of c) object is in
          let one = hit_inside object
          ((resolutions_fit (rooted u 0) k.well k.well.root).whole from (ending_of c) text (last_of c) object named) e inner.dir in
          let passes : is_inside t0 root one.listed.line.thing ≡ true = ap (is_inside t0 root) one.listed.about ∙ one.inside in
          record {
            object = object;
            names = refl;
            line = one.listed.line;
            listed = contained (only_inside t0 root (ever t0 table h)) one.listed.line
                (among_filter (λ (line : EverLine). is_inside t0 root line.thing) (ever t0 table h) one.listed.line passes one.listed.among);
            about = subst (λ thing. IsLineOf t0 u h thing object) (sym one.listed.about) one.about;
            allows = contained one.listed.line.calls c one.listed.allows;
          }

-- ---- one request after another

module _ (table : CallTable) (sound : NoCallNeedsError table) (needs : EditsNeedC table) (t0 : Tree) (now : ProcessState) (well0 : WellFormed t0)
    (stand : VeilsStand t0 now) (root : ℕ) where
  abbrev tmp : CallTable
  tmp = tmp_table table

  abbrev HomesNow : Tree → Type 0
  HomesNow u = Homes tmp t0 now well0 stand root u

  pub homes_one : (w : World) (ask : Asked) (members : List ℕ) → Members w members now false → AreIn table root w members → WellFormed w.tree →
      WellFormed (apply table w ask).1.tree → (is_member members ask.process ≡ true) ⊎ ((apply table w ask).1.tree ≡ w.tree) →
      Stays tmp t0 now well0 stand w.tree → KeepInside root t0 w.tree → HomesNow w.tree → HomesNow (apply table w ask).1.tree
  homes_one w ask members are in_root well well_then edit k kept homes = by edit
    where
      by : (is_member members ask.process ≡ true) ⊎ ((apply table w ask).1.tree ≡ w.tree) → HomesNow (apply table w ask).1.tree
      by (inr same) = subst HomesNow (sym same) homes
      by (inl belongs) =
          let asker = are ask.process belongs in
          let placed = in_root ask.process belongs in
          let same : placed.0 ≡ asker.0 = same_Some placed.0 asker.0 (sym placed.1 ∙ asker.1) in
          let enclosed : Enclosed w.tree root asker.0 = subst (Enclosed w.tree root) same placed.2 in
          let turns = own_turns table w ask asker.0 asker.1 well root enclosed (LeavesTo tmp now w.tree)
          (moves_from_home table sound needs now w asker.0 asker.2.within well)
          (ties_from_home table sound needs now w asker.0 asker.2.within well) in
          homes_then tmp t0 now well0 stand root table asker.0 w.tree (apply table w ask).1.tree k well_then enclosed.lives turns
          (devices_keep tmp w.tree (apply table w ask).1.tree asker.0 well well_then (requests_grow table needs w ask asker.0 well asker.1)) kept homes

  pub homes_along : (asks : List Asked) (w : World) (members : List ℕ) → Members w members now false → AreIn table root w members →
      TreesAlong table w asks → NoExecLoosens table now w asks members → NoExecFrees table w asks members → MembersEdit table w asks members →
      Stays tmp t0 now well0 stand w.tree → KeepInside root t0 w.tree → HomesNow w.tree → HomesNow (world_after table w asks).tree
  homes_along [] w members are in_root trees none frees edits k kept homes = homes
  homes_along (ask ∷ asks) w members are in_root trees none frees edits k kept homes =
      let after = (apply table w ask).1 in
      let well_then = first_tree table after asks trees.1 in
      let one = one_request table root w ask members in_root trees.0 well_then frees.0 edits.0 in
      let k_then = stays_along table sound needs t0 now well0 stand (ask ∷ []) w members are (none.0, tt) (edits.0, tt) (trees.0, well_then) k in
      homes_along asks after (family_then table w ask members) (members_still table now w ask members are none.0) one.1 trees.1 none.1 frees.1
      edits.1 k_then (keep_both root t0 w.tree after.tree well0 trees.0 kept one.0)
      (homes_one w ask members are in_root trees.0 well_then edits.0 k kept homes)

-- of any members within a process, each enclosed in one root
pub inside_within : (table : CallTable) → NoCallNeedsError table → EditsNeedC table →
    (w : World) (asks : List Asked) (root : ℕ) (members : List ℕ) (now : ProcessState) →
    Members w members now false → AreIn table root w members → VeilsStand w.tree now → TreesAlong table w asks →
    NoExecLoosens table now w asks members → NoExecFrees table w asks members → MembersEdit table w asks members →
    (member : ℕ) → is_member (family table w asks members) member ≡ true →
    HasKept (world_after table w asks) member (λ last. IsEnclosedIn (world_after table w asks).tree root last
    × ForeseesInside root (only_inside w.tree root (ever w.tree (tmp_table table) now)) w.tree (tmp_table table) now
    (world_after table w asks).tree last)
inside_within table sound needs w asks root members now are in_root stand trees none frees edits member belongs =
    let tmp = tmp_table table in
    let well = first_tree table w asks trees in
    let u = (world_after table w asks).tree in
    let first = at_first tmp w.tree now well stand in
    let k = stays_along table sound needs w.tree now well stand asks w members are none edits trees first in
    let last = members_along table now asks w members are none member belongs in
    let along = enclosed_along table root asks w members in_root trees frees edits in
    let placed = along.1 member belongs in
    let same : placed.0 ≡ last.0 = same_Some placed.0 last.0 (sym placed.1 ∙ last.1) in
    let enclosed : Enclosed u root last.0 = subst (Enclosed u root) same placed.2 in
    let homes = homes_along table sound needs w.tree now well stand root asks w members are in_root trees none frees edits first
    (keep_none root w.tree) (homes_first tmp w.tree now well stand root) in
    let edit : (may_edit tmp now ≡ true) ⊎ (u ≡ w.tree) =
    by (may_edit tmp now) refl (λ lacks. unedited_along table sound now lacks asks w members are none edits) in (
      last.0,
      last.1,
      (
        enclosed_again u root last.0 enclosed,
        λ from is_root stays call text e.
            let named = resolution_of_text u from (ending_of call) text (last_of call) in
            let allowed = verdicts_within now last.0 last.2.within tmp (tmp_table_needs_no_error table sound) u call named (ap is_allowed e) in
            foreseen_inside tmp w.tree now well stand root u k edit along.0 enclosed.lives homes call from is_root stays text
            (allowed_is (verdict_of u tmp now call named) allowed),
      ),
    )
  where
    by : {u t : Tree} (b : Bool) → may_edit (tmp_table table) now ≡ b → (may_edit (tmp_table table) now ≡ false → u ≡ t) →
        (may_edit (tmp_table table) now ≡ true) ⊎ (u ≡ t)
    by true is unedited = inl is
    by false is unedited = inr (unedited is)

pub ever_inside : EverInside
ever_inside table sound needs w asks root members now acts enclosed stand trees none frees edits member belongs =
    inside_within table sound needs w asks root members now (all_within w members now acts)
    (λ m there. let one = enclosed m there in (one.0, one.1, enclosed_in w.tree root one.0 one.2))
    stand trees none frees edits member belongs
