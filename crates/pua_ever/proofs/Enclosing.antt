-- What a process that is enclosed for ever asks for is at or below its root, and leaves it so.
use Rattle.pua_ever.proofs.Common.{◌≡◌, ◌⊎◌, ℕ, List, [], ◌∷◌, Bool, true, false, cond, refl, sym, ap, subst, ◌∙◌, inl, inr, Option, Some}
use Rattle.pua_ever.proofs.Common.{None, Result, Ok, Err, not, ◌&&◌, ◌||◌, ◌==◌, is_some, nat_le, list_all, option_eq, false≢true, and_parts}
use Rattle.pua_ever.proofs.Common.{and_from, or_right, not-true, same_Some, None≢Some, Tree, WellFormed, Spot, Kind, is_dir, is_dir_kind, kind_at}
use Rattle.pua_ever.proofs.Common.{look, Found, Whole, Slot, FoundFits, CallTable, Call, ProcessState, may_any, start, state_after, World}
use Rattle.pua_ever.proofs.Common.{kept_at, Copies, Fails, EAGAIN, most_processes, change_effect, change_by, Change, CopyAs, tree_left, IsDecided, is_exec}
use Rattle.pua_ever.proofs.Common.{Action, OnPath, Symlink, Rename, Link, Pledge, Unveil, Lock, Fork, Exit, Uses, Hold, Close}
use Rattle.pua_ever.proofs.Common.{Fchdir, Take, Comment, nat_cmp}
use Rattle.std.proofs.Common.{lit<}
use Rattle.std.proofs.lemmas.Bool.{false_from_ne_true}
use Rattle.std.specs.BTreeMap.{is_at}
use Rattle.std.specs.Map.{lookup, remove_entry}
use Rattle.std.specs.Ordering.{match_ordering}
use Rattle.std.specs.Prelude.{◌-◌, length, unwrap_or}
use Rattle.std.specs.declared.cmp.Ordering.{Ordering}
use Rattle.std.specs.declared.cmp.Ordering.TheVariants as ordering
use Rattle.pua_tree.specs.Edits.{add, cut, shift, tie}
use Rattle.pua_tree.specs.Tree.{is_within}
use Rattle.pua_tree.specs.declared.fault.TreeFault.{TreeFault}
use Rattle.pua_path.specs.Fits.{node_named, spot_named}
use Rattle.pua_path.specs.Resolution.{resolution_of_text}
use Rattle.pua_path.specs.declared.errno.Errno.{Errno}
use Rattle.pua_path.specs.declared.errno.Errno.TheVariants.{EBADF, EINVAL, EPERM}
use Rattle.pua_path.specs.declared.found.Last.{Last}
use Rattle.pua_path.specs.declared.text.Ending.{Ending}
use Rattle.pua_path.specs.declared.text.Ending.TheVariants as ending
use Rattle.pua_calls.specs.Calls.{ending_of, last_of}
use Rattle.pua_calls.specs.Promises.{all_promises, error, holds, id, sendfd}
use Rattle.pua_calls.specs.declared.call.Call.TheVariants as call
use Rattle.pua_calls.specs.declared.rules.ExecPromises.{ExecPromises}
use Rattle.pua_policy.specs.States.{Event, Ended, Filed, Locked, Moved, Pledged, ToDir, ToRoot, Unveiled, after_exec, file_at, held_set, is_directory}
use Rattle.pua_policy.specs.States.{is_ended, is_pledged, root_dir, state_by_exec, with_file, working_dir}
use Rattle.pua_policy.specs.Verdict.{object_named}
use Rattle.pua_policy.specs.declared.answer.May.TheVariants.{Yes}
use Rattle.pua_policy.specs.declared.answer.Refusal.{Refusal}
use Rattle.pua_policy.specs.declared.answer.Refusal.TheVariants as refusals
use Rattle.pua_policy.specs.declared.open_file.OpenFile.{OpenFile}
use Rattle.pua_policy.proofs.ForCallers.{state_never_grows}
use Rattle.pua_script.specs.Decide.{AddEvent, AddNode, BeginProgram, CutRow, NoChange, ShiftRow, TakeFile, TieRow, decide, file_of, file_opened, filing, going}
use Rattle.pua_script.specs.Decide.{is_whole, link_node, made_by}
use Rattle.pua_script.specs.Family.{is_okay}
use Rattle.pua_script.specs.Guards.{IsLink, IsOpened, IsRename, IsShift, OnOne}
use Rattle.pua_script.specs.Judged.{NameFits}
use Rattle.pua_script.specs.Replay.{Effect, answer_to, come_of, edit_effect, edited_tree, refusal_effect, sent_by, sent_file}
use Rattle.pua_script.specs.Replay.{sent_of, take_effect}
use Rattle.pua_script.specs.Requests.{letters_opened}
use Rattle.pua_script.specs.Worlds.{state_left}
use Rattle.pua_script.specs.declared.request.Action.TheVariants.{Chroot}
use Rattle.pua_script.proofs.ForCallers.{by_cutting, by_decision, by_making, by_moves, by_placing, by_tying, decisions_are_guarded}
use Rattle.pua_script.proofs.ForCallers.{name_fits}
use Rattle.pua_objects.specs.Roots.{files_stay, is_enclosed, is_enclosed_for_ever, is_held_inside, stays_in}
use Rattle.pua_ever.proofs.Holding.{may_holds}
use Rattle.pua_ever.proofs.Inside.{Inside, text_inside}
use Rattle.pua_ever.proofs.InsideTrees.{FromInside, Turns, turns_add, turns_cut, turns_none, turns_shift, turns_tie}

-- ---- open files

module _ (test : OpenFile → Bool) where
  -- all of some open files pass
  abbrev pub AllPass : List (ℕ × OpenFile) → Type 0
  AllPass files = list_all (λ held. test held.1) files ≡ true

  pub pass_held : (p : ℕ → Bool) (files : List (ℕ × OpenFile)) (file : OpenFile) → AllPass files → lookup p files ≡ Some file → test file ≡ true
  pass_held p [] file all e = cc
  pass_held p (held ∷ files) file all e = by (p held.0) e (pass_held p files file parts.1)
    where
      parts : (test held.1 ≡ true) × AllPass files
      parts = and_parts (test held.1) (list_all (λ held. test held.1) files) all

      by : (b : Bool) → cond b (Some held.1) (lookup p files) ≡ Some file → (lookup p files ≡ Some file → test file ≡ true) → test file ≡ true
      by true e more = ap test (sym (same_Some held.1 file e)) ∙ parts.0
      by false e more = more e

  pub pass_filed : (number : ℕ) (file : OpenFile) (files : List (ℕ × OpenFile)) → test file ≡ true → AllPass files → AllPass (with_file number file files)
  pass_filed number file [] passes all = and_from (test file) true passes refl
  pass_filed number file (held ∷ files) passes all = by (nat_cmp number held.0) (pass_filed number file files passes parts.1)
    where
      parts : (test held.1 ≡ true) × AllPass files
      parts = and_parts (test held.1) (list_all (λ held. test held.1) files) all

      by : (o : Ordering) → AllPass (with_file number file files) →
          AllPass (match_ordering o ((number, file) ∷ held ∷ files) ((held.0, file) ∷ files) (held ∷ with_file number file files))
      by ordering.Less more = and_from (test file) _ passes all
      by ordering.Equal more = and_from (test file) _ passes parts.1
      by ordering.Greater more = and_from (test held.1) _ parts.0 more

  pub pass_closed : (p : ℕ → Bool) (files : List (ℕ × OpenFile)) → AllPass files → AllPass (remove_entry p files)
  pass_closed p [] all = refl
  pass_closed p (held ∷ files) all = by (p held.0) (pass_closed p files parts.1)
    where
      parts : (test held.1 ≡ true) × AllPass files
      parts = and_parts (test held.1) (list_all (λ held. test held.1) files) all

      by : (b : Bool) → AllPass (remove_entry p files) → AllPass (cond b files (held ∷ remove_entry p files))
      by true more = parts.1
      by false more = and_from (test held.1) _ parts.0 more

-- another test that each passes which passes the first
pub pass_too : (test other : OpenFile → Bool) → ((file : OpenFile) → test file ≡ true → other file ≡ true) →
    (files : List (ℕ × OpenFile)) → AllPass test files → AllPass other files
pass_too test other more [] all = refl
pass_too test other more (held ∷ files) all =
    let parts = and_parts (test held.1) (list_all (λ held. test held.1) files) all in
    and_from (other held.1) _ (more held.1 parts.0) (pass_too test other more files parts.1)

-- ---- a process that is enclosed for ever, in its parts

-- where its paths start, and what it has open
pub record Placed (t : Tree) (root : ℕ) (h : ProcessState) : Type 0 where
  pub rooted : root_dir h ≡ root
  pub dir : stays_in t root (working_dir h) ≡ true
  pub files : list_all (λ held. is_held_inside t root held.1) h.files ≡ true

-- the promise that a chroot needs isn't held
abbrev pub Lacks : ProcessState → Type 0
Lacks h = holds (held_set h) id ≡ false

pub record Enclosed (t : Tree) (root : ℕ) (h : ProcessState) : Type 0 where
  pub lives : is_dir t root ≡ true
  pub placed : Placed t root h
  pub lacks : Lacks h

pub enclosed_parts : (t : Tree) (h : ProcessState) → is_enclosed_for_ever t h ≡ true → Enclosed t (root_dir h) h
enclosed_parts t h e =
    let last = and_parts (is_enclosed t h) (not (holds (held_set h) id)) e in
    let one = and_parts (is_dir t (root_dir h)) _ last.0 in
    let two = and_parts (stays_in t (root_dir h) (working_dir h)) (files_stay t (root_dir h) h.files) one.1 in
    record {
      lives = one.0;
      placed = record { rooted = refl; dir = two.0; files = two.1 };
      lacks = not-true (holds (held_set h) id) last.1;
    }

pub enclosed_whole : (t : Tree) (root : ℕ) (h : ProcessState) → Enclosed t root h → is_enclosed_for_ever t h ≡ true
enclosed_whole t root h k =
    and_from (is_enclosed t h) _
    (subst (λ r. (is_dir t r && (stays_in t r (working_dir h) && files_stay t r h.files)) ≡ true) (sym k.placed.rooted)
    (and_from (is_dir t root) _ k.lives (and_from (stays_in t root (working_dir h)) _ k.placed.dir k.placed.files)))
    (ap not k.lacks)

-- who lacks a promise was pledged
pub lacks_pledged : (h : ProcessState) → Lacks h → is_pledged h ≡ true
lacks_pledged h lacks = by h.promises refl
  where
    by : (o : Option ℕ) → h.promises ≡ o → is_some h.promises ≡ true
    by (Some set) e = ap is_some e
    by None e = absurd (false≢true (sym lacks ∙ ap (λ o. holds (unwrap_or o (all_promises - error)) id) e))

-- ---- what is granted to it

module _ (t : Tree) (root : ℕ) where
  -- an event that leaves it so
  abbrev FineEvent : Event → Type 0
  FineEvent (Moved (ToDir dir)) = stays_in t root dir ≡ true
  FineEvent (Moved (ToRoot dir)) = ⊥
  FineEvent (Filed number (Some file)) = is_held_inside t root file ≡ true
  FineEvent _ = Unit {0}

  placed_more : (event : Event) (h : ProcessState) → FineEvent event → Placed t root h → Placed t root (state_after event h)
  placed_more (Pledged promises execpromises) h fine k = record { rooted = k.rooted; dir = k.dir; files = k.files }
  placed_more (Unveiled place perms) h fine k = record { rooted = k.rooted; dir = k.dir; files = k.files }
  placed_more Locked h fine k = record { rooted = k.rooted; dir = k.dir; files = k.files }
  placed_more Ended h fine k = record { rooted = k.rooted; dir = k.dir; files = k.files }
  placed_more (Moved (ToDir dir)) h fine k = record { rooted = k.rooted; dir = fine; files = k.files }
  placed_more (Moved (ToRoot dir)) h fine k = absurd fine
  placed_more (Filed number (Some file)) h fine k =
      record { rooted = k.rooted; dir = k.dir; files = pass_filed (is_held_inside t root) number file h.files fine k.files }
  placed_more (Filed number None) h fine k =
      record { rooted = k.rooted; dir = k.dir; files = pass_closed (is_held_inside t root) (is_at (nat_cmp number)) h.files k.files }

  lacks_more : (event : Event) (h : ProcessState) → Lacks h → Lacks (state_after event h)
  lacks_more event h lacks =
      false_from_ne_true _ (λ holding. false≢true (sym lacks ∙ state_never_grows event h id (lit< tt) refl holding))

  -- a program that is started keeps where its paths start, and what is open
  placed_exec : (left : ExecPromises) (h : ProcessState) → Placed t root h → Placed t root (after_exec left h)
  placed_exec left h k = by h.execpromises
    where
      by : (o : Option ℕ) → Placed t root (state_by_exec left o h)
      by (Some set) = record { rooted = k.rooted; dir = k.dir; files = k.files }
      by None = record { rooted = k.rooted; dir = k.dir; files = k.files }

-- what is sent to a process that was pledged is no directory
module _ (theirs : ℕ) where
  no_directory : (sender : ProcessState) (file sent : OpenFile) → sent_file true sender file ≡ Ok sent → is_directory sent ≡ false
  no_directory sender file sent = by (holds (held_set sender) sendfd) (is_directory file) refl
    where
      by : (may directory : Bool) → is_directory file ≡ directory →
          cond (not may) (Err EPERM) (cond (directory && (true || is_pledged sender)) (Err EINVAL) (Ok file)) ≡ Ok sent → is_directory sent ≡ false
      by false directory is e = cc
      by true true is e = cc
      by true false is e = let same : file ≡ sent = cc in ap is_directory (sym same) ∙ is

  sent_no_directory : (o : Option ProcessState) (sent : OpenFile) → sent_by true o theirs ≡ Ok sent → is_directory sent ≡ false
  sent_no_directory None sent e = cc
  sent_no_directory (Some sender) sent e = by (is_ended sender) (file_at sender.files theirs) e
    where
      by : (ended : Bool) (held : Option OpenFile) → cond ended (Err EBADF) (sent_of true sender held) ≡ Ok sent → is_directory sent ≡ false
      by true held e = cc
      by false None e = cc
      by false (Some file) e = no_directory sender file sent e

-- what is moved, and what gets a further name, has a way from the row by which it was named
module _ (table : CallTable) (w : World) (h : ProcessState) (IsWay : Spot → Spot → ℕ → Type 0) where
  abbrev pub MovesBy : Type 0
  MovesBy = (old new : List ℕ) (c : Change) (d : IsRename table.rename w.tree h old new c) → IsShift w.tree d.old d.new d.node c →
      (s : Spot) → spot_named d.old ≡ Some s → (r : Spot) → spot_named d.new ≡ Some r →
      (x : ℕ) → look w.tree s.0 s.1 ≡ Some x → IsWay r s x

  abbrev pub TiesBy : Type 0
  TiesBy = (old new : List ℕ) (c : Change) (d : IsLink table.link w.tree h old new c) (s : Spot) → spot_named d.old ≡ Some s →
      (r : Spot) → spot_named d.new ≡ Some r → IsWay r s d.node

module _ (table : CallTable) (w : World) (well : WellFormed w.tree) (root : ℕ) (h : ProcessState) (k : Enclosed w.tree root h) (action : Action)
    (IsWay : Spot → Spot → ℕ → Type 0) (moved : MovesBy table w h IsWay) (tied : TiesBy table w h IsWay) where
  abbrev t : Tree
  t = w.tree

  abbrev In : ℕ → Type 0
  In dir = is_within t dir root ≡ true

  abbrev IsIn : Found → Type 0
  IsIn object = Inside t well root k.lives object

  -- a change at or below the root, or one that leaves the process so
  abbrev Fine : Change → Type 0
  Fine (AddNode s node) = In s.0
  Fine (CutRow s) = In s.0
  Fine (ShiftRow s r) = In s.0 × In r.0 × ((x : ℕ) → look t s.0 s.1 ≡ Some x → IsWay r s x)
  Fine (TieRow s x) = In s.0 × FromInside table t h root IsWay s x
  Fine (BeginProgram left) = is_exec action ≡ true
  Fine (AddEvent event) = FineEvent t root event
  Fine _ = Unit {0}

  named : (end : Ending) (text : List ℕ) (mode : Last) (object : Found) → resolution_of_text t (start h) end text mode ≡ Ok object → IsIn object
  named end text mode object found = text_inside t well root k.lives (start h) k.placed.rooted k.placed.dir end text mode object found

  stays_from : (d : ℕ) → In d → stays_in t root d ≡ true
  stays_from d inner = or_right (not (is_dir t d)) (is_within t d root) inner

  -- what a text named stays in the root, if it is a directory
  node_stays : (object : Found) → FoundFits t object → IsIn object → (x : ℕ) → node_named object ≡ Some x → stays_in t root x ≡ true
  node_stays (Whole d way) fits inner x e = subst (λ y. stays_in t root y ≡ true) (same_Some d x e) (stays_from d inner.dir)
  node_stays (Slot d name None) fits inner x e = absurd (None≢Some x e)
  node_stays (Slot d name (Some y)) fits inner x e =
      let plain = not-true (is_dir t y) (and_parts (option_eq ◌==◌ (look t d name) (Some y)) (not (is_dir t y))
      (and_parts (is_dir t d) (option_eq ◌==◌ (look t d name) (Some y) && not (is_dir t y)) fits).1).1 in
      subst (λ z. stays_in t root z ≡ true) (same_Some y x e) (ap (λ b. not b || is_within t y root) plain)

  -- what gets a further name has one at or below the root
  from_named : (to : Spot) (object : Found) → NameFits t object → IsIn object → is_whole object ≡ false → (x : ℕ) → node_named object ≡ Some x →
      ((s : Spot) → spot_named object ≡ Some s → IsWay to s x) → FromInside table t h root IsWay to x
  from_named to (Slot d name o) fits inner other x e way = inr ((d, name), fits.named.1 ∙ e, inner.dir, way (d, name) refl)
  from_named to (Whole d way) fits inner other x e from = cc

  fine_going : (object : Found) → IsIn object → Fine (going object)
  fine_going (Whole d way) inner = stays_from d inner.dir
  fine_going (Slot d name o) inner = tt

  fine_call : (c : Call) (object : Found) → (c ≡ call.Exec → is_exec action ≡ true) → IsIn object → Fine (change_by table c object)
  fine_call call.Rmdir object exec inner = by_cutting Fine tt (spot_named object) (node_named object) (λ s at. inner.spot s at)
  fine_call call.Unlink object exec inner = by_cutting Fine tt (spot_named object) (node_named object) (λ s at. inner.spot s at)
  fine_call call.Chdir object exec inner = fine_going object inner
  fine_call call.Exec object exec inner = exec refl
  fine_call c object exec inner =
      by_making Fine tt table.whose (made_by c) (spot_named object) (node_named object) (λ what s made at. inner.spot s at)

  fine_filing : (number : ℕ) (c : Call) (o : Option ℕ) → ((x : ℕ) → o ≡ Some x → stays_in t root x ≡ true) → Fine (filing number (file_opened t c o))
  fine_filing number c None stays = tt
  fine_filing number c (Some x) stays = by (kind_at t x) (letters_opened c)
    where
      by : (kind : Option Kind) (letters : Option ℕ) → Fine (filing number (file_of x kind letters))
      by None letters = tt
      by (Some kind) None = tt
      by (Some kind) (Some letters) = or_right (not (is_dir_kind (Some kind))) (stays_in t root x) (stays x refl)

  by_one : (asked : Call) (path : List ℕ) (object : Found) → OnOne table t h asked path object ⊎ IsOpened table t h asked path object →
      object_named t h asked path ≡ Ok object
  by_one asked path object (inl on) = on.found
  by_one asked path object (inr on) = on.found

  one_in : (asked : Call) (path : List ℕ) (object : Found) → object_named t h asked path ≡ Ok object → IsIn object
  one_in asked path object found = named (ending_of asked) path (last_of asked) object found

  one_fits : (asked : Call) (path : List ℕ) (object : Found) → object_named t h asked path ≡ Ok object → NameFits t object
  one_fits asked path object found = name_fits t well (start h) (ending_of asked) path (last_of asked) object found

  no_chroot : may_any h (id ∷ []) ≡ Yes → ⊥
  no_chroot may = false≢true (sym (ap (λ b. b || false) k.lacks) ∙ may_holds h (id ∷ []) may)

  fine_by : (asked : Action) → action ≡ asked → (c : Change) → IsDecided table t h asked c → Fine c
  fine_by (OnPath asked path) is c d =
      let found = by_one asked path d.0 d.1 in
      subst Fine (sym d.2) (fine_call asked d.0 (λ exec. ap is_exec is ∙ ap (λ x. is_exec (OnPath x path)) exec) (one_in asked path d.0 found))
  fine_by (Symlink target path) is c d =
      let inner = one_in call.Symlink path d.0 d.1.found in
      subst Fine (sym d.3) (by_placing Fine tt (link_node target) (spot_named d.0) (node_named d.0) (λ s at. inner.spot s at))
  fine_by (Rename old new) is c d =
      let inner_old = named ending.Dropped old table.rename.old.last d.old d.two.found_old in
      let inner_new = named ending.Dropped new table.rename.new.last d.new d.two.found_new in
      elim d.moves [
        | inl same ↦ subst Fine (sym same) tt
        | inr shift ↦ by_moves Fine tt t d.old d.new d.node c (inr shift)
            (λ s r at at_new. (inner_old.spot s at, inner_new.spot r at_new, moved old new c d shift s at r at_new))
      ]
  fine_by (Link old new) is c d =
      let inner_old = named ending.Dot old table.link.old.last d.old d.two.found_old in
      let inner_new = named ending.Dot new table.link.new.last d.new d.two.found_new in
      let fits = name_fits t well (start h) ending.Dot old table.link.old.last d.old d.two.found_old in
      subst Fine (sym d.is) (by_tying Fine tt d.node (spot_named d.new)
      (λ s at. (inner_new.spot s at, from_named s d.old fits inner_old d.no_dir d.node d.two.named (λ r at_old. tied old new c d r at_old s at))))
  fine_by (Pledge p x) is c d = subst Fine (sym d.is) tt
  fine_by (Unveil path letters) is c d = subst Fine (sym d.is) tt
  fine_by Lock is c d = subst Fine (sym d.1) tt
  fine_by (Fork new) is c d = subst Fine (sym d.1) tt
  fine_by Exit is c d = subst Fine (sym d) tt
  fine_by (Uses sets) is c d = subst Fine (sym d.1) tt
  fine_by (Hold number asked path) is c d =
      let found = by_one asked path d.0 d.1 in
      let fits = one_fits asked path d.0 found in
      subst Fine (sym d.2)
      (fine_filing number asked (node_named d.0) (node_stays d.0 fits.fits (one_in asked path d.0 found)))
  fine_by (Close number) is c d = subst Fine (sym d.2) tt
  fine_by (Fchdir number) is c d =
      let passes = pass_held (is_held_inside t root) (is_at (nat_cmp number)) h.files d.file k.placed.files d.held in
      subst Fine (sym d.is) (sym (ap (λ b. not b || stays_in t root d.file.node) d.directory) ∙ passes)
  fine_by (Chroot path) is c d = absurd (no_chroot d.promised)
  fine_by (Take number from theirs) is c d = subst Fine (sym d.1) tt
  fine_by Comment is c d = subst Fine (sym d) tt

  -- ---- what such a change leaves

  -- the process stays placed, and lacks the promise where it started no program
  abbrev StaysSo : Effect → Type 0
  StaysSo e = Placed t root (state_left h e) × ((is_exec action && is_okay (answer_to e)) ≡ false → Lacks (state_left h e))

  stays_edited : (r : Result (ℕ × Tree) TreeFault) → StaysSo (edit_effect h r)
  stays_edited (Ok result) = (k.placed, λ e. k.lacks)
  stays_edited (Err fault) = (k.placed, λ e. k.lacks)

  stays_edited_tree : (r : Result Tree TreeFault) → StaysSo (edited_tree h r)
  stays_edited_tree (Ok result) = (k.placed, λ e. k.lacks)
  stays_edited_tree (Err fault) = (k.placed, λ e. k.lacks)

  stays_changed : (c : Change) → Fine c → StaysSo (change_effect w h c)
  stays_changed NoChange fine = (k.placed, λ e. k.lacks)
  stays_changed (AddNode s node) fine = stays_edited (add t s.0 s.1 node)
  stays_changed (CutRow s) fine = stays_edited (cut t s.0 s.1)
  stays_changed (ShiftRow s r) fine = stays_edited_tree (shift t s.0 s.1 r.0 r.1)
  stays_changed (TieRow s x) fine = stays_edited_tree (tie t s.0 s.1 x)
  stays_changed (BeginProgram left) fine =
      (placed_exec t root left h k.placed, λ e. absurd (false≢true (sym e ∙ ap (λ b. b && true) fine)))
  stays_changed (AddEvent event) fine = (placed_more t root event h fine k.placed, λ e. lacks_more t root event h k.lacks)
  stays_changed (CopyAs new) fine = by (is_some (kept_at w new) || nat_le most_processes (length w.processes))
    where
      by : (full : Bool) → StaysSo (cond full (Fails EAGAIN) (Copies new))
      by true = (k.placed, λ e. k.lacks)
      by false = (k.placed, λ e. k.lacks)
  stays_changed (TakeFile number from theirs) fine =
      subst (λ b. StaysSo (take_effect w h number (sent_by b (kept_at w from) theirs))) (sym (lacks_pledged h k.lacks))
      (by (sent_by true (kept_at w from) theirs) refl)
    where
      by : (r : Result OpenFile Errno) → sent_by true (kept_at w from) theirs ≡ r → StaysSo (take_effect w h number r)
      by (Ok file) e = (
        placed_more t root (Filed number (Some file)) h
            (ap (λ b. not b || stays_in t root file.node) (sent_no_directory theirs (kept_at w from) file e)) k.placed,
        λ e. lacks_more t root (Filed number (Some file)) h k.lacks,
      )
      by (Err errno) e = (k.placed, λ e. k.lacks)

  pub stays_decided : StaysSo (come_of w h (decide table t h action))
  stays_decided = by_decision w h StaysSo (decide table t h action) refusing
      (λ c decided. stays_changed c (fine_by action refl c (decisions_are_guarded table t h action c decided)))
    where
      refusing : (r : Refusal) → StaysSo (refusal_effect r)
      refusing (refusals.Failed errno) = (k.placed, λ e. k.lacks)
      refusing refusals.Killed = (placed_more t root Ended h tt k.placed, λ e. lacks_more t root Ended h k.lacks)

  -- and the tree turns inside alone
  abbrev TurnsSo : Effect → Type 0
  TurnsSo e = Turns table t h root IsWay (tree_left t e)

  turns_changed : (c : Change) → Fine c → TurnsSo (change_effect w h c)
  turns_changed NoChange fine = turns_none table t h root IsWay
  turns_changed (AddNode s node) fine = turns_add table t h root IsWay s.0 s.1 node fine
  turns_changed (CutRow s) fine = turns_cut table t h root IsWay s.0 s.1 fine
  turns_changed (ShiftRow s r) fine = turns_shift table t h root IsWay s.0 r.0 s.1 r.1 fine.0 fine.1 fine.2
  turns_changed (TieRow s x) fine = turns_tie table t h root IsWay s.0 s.1 x fine.0 fine.1
  turns_changed (BeginProgram left) fine = turns_none table t h root IsWay
  turns_changed (AddEvent event) fine = turns_none table t h root IsWay
  turns_changed (CopyAs new) fine = by (is_some (kept_at w new) || nat_le most_processes (length w.processes))
    where
      by : (full : Bool) → TurnsSo (cond full (Fails EAGAIN) (Copies new))
      by true = turns_none table t h root IsWay
      by false = turns_none table t h root IsWay
  turns_changed (TakeFile number from theirs) fine = by (sent_by (is_pledged h) (kept_at w from) theirs)
    where
      by : (r : Result OpenFile Errno) → TurnsSo (take_effect w h number r)
      by (Ok file) = turns_none table t h root IsWay
      by (Err errno) = turns_none table t h root IsWay

  pub turns_decided : (c : Change) → IsDecided table t h action c → TurnsSo (change_effect w h c)
  turns_decided c decided = turns_changed c (fine_by action refl c decided)
