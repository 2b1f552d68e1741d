-- What was checked before a change, whichever request was granted it.
use Rattle.pua_script.proofs.Common.{◌≡◌, ℕ, List, [], ◌∷◌, Bool, true, false, not, ◌&&◌, refl, sym, subst, ◌⊎◌, inl, inr, Option, Some, None}
use Rattle.pua_script.proofs.Common.{IsTrue, is_some, Tree, Node, Spot, target_fits, has_room, has_name_room, spot_named, node_named, Dot}
use Rattle.pua_script.proofs.Common.{Dropped, Found, Whole, Slot, unveil, CallTable, ProcessState, Event, Filed, Unveiled, Moved, is_locked, may_any}
use Rattle.pua_script.proofs.Common.{Yes, Call, is_bytes, is_in_bytes, Change, NoChange, AddNode, CutRow, ShiftRow, TieRow, BeginProgram}
use Rattle.pua_script.proofs.Common.{AddEvent, CopyAs, TakeFile, shifting, is_whole, is_exec, is_chdir, is_chroot, IsShift, Action, OnPath, and_from, and_parts}
use Rattle.pua_tree.specs.declared.node.Kind.{Kind}
use Rattle.pua_calls.specs.declared.call.Call.TheVariants as call
use Rattle.pua_calls.specs.Calls.{effect_of}
use Rattle.pua_calls.specs.Effects.{makes as makes_name, removes}
use Rattle.pua_calls.specs.TmpTable.{tmp_table}
use Rattle.pua_script.specs.Decide.{file_opened, is_elsewhere, plain_node}
use Rattle.pua_tree.specs.declared.node.Kind.TheVariants as kind
use Rattle.pua_calls.specs.declared.rules.Rules.{Rules}
use Rattle.pua_calls.specs.declared.rules.Rules.TheVariants.{Standard, Openbsd}
use Rattle.pua_script.specs.Decide.{link_node, placing, cutting, tying, change_by, adding, removing, made_as, made_by, making}
use Rattle.pua_script.specs.Guards.{IsOpened, OnOne, OnTwo}
use Rattle.pua_script.specs.declared.request.Action.TheVariants.{Take}
use Rattle.pua_policy.specs.declared.open_file.OpenFile.{OpenFile}
use Rattle.pua_script.specs.Laws.{adds_node, lacks_room}
use Rattle.pua_policy.specs.States.{ToDir, ToRoot}

-- the calls that make a name, and those that take one away
abbrev pub makes : Call → Bool
makes call = makes_name (effect_of call)

abbrev pub takes : Call → Bool
takes call = removes (effect_of call)

abbrev pub LeadsToBytes : Node → Type 0
LeadsToBytes node = (target : List ℕ) → node.target ≡ Some target → is_bytes target ≡ true

module _ (table : CallTable) (t : Tree) (h : ProcessState) (action : Action) where
  -- a node where nothing stands, at the spot that the path of a call named which passed the checks of the table with one more set
  pub record IsAdded (spot : Spot) (node : Node) : Type 0 where
    pub call : Call
    pub path : List ℕ
    pub object : Found
    pub on : OnOne (tmp_table table) t h call path object
    pub made : makes call ≡ true
    pub at : spot_named object ≡ Some spot
    pub free : node_named object ≡ None
    pub target : target_fits node.kind node.target ≡ true
    pub mount : node.mount ≡ false
    pub bytes : is_in_bytes action ≡ true → (is_bytes path ≡ true) × LeadsToBytes node
    pub room : IsTrue (not (has_room t)) → IsTrue (lacks_room t action)

  -- the row by whose name the path of such a call named something
  pub record IsCut (spot : Spot) : Type 0 where
    pub call : Call
    pub path : List ℕ
    pub object : Found
    pub on : OnOne (tmp_table table) t h call path object
    pub taken : takes call ≡ true
    pub at : spot_named object ≡ Some spot

  -- the rows that the two names of a rename are
  pub record IsShifted (from to : Spot) : Type 0 where
    pub old_path : List ℕ
    pub new_path : List ℕ
    pub old : Found
    pub new : Found
    pub node : ℕ
    pub two : OnTwo table.rename t h Dropped old_path new_path old new node
    pub shift : IsShift t old new node (ShiftRow from to)
    pub at_old : spot_named old ≡ Some from
    pub at_new : spot_named new ≡ Some to
    pub bytes : is_in_bytes action ≡ true → is_bytes new_path ≡ true

  -- the row that the new name of a link is, and what its old name named
  pub record IsTied (spot : Spot) (x : ℕ) : Type 0 where
    pub old_path : List ℕ
    pub new_path : List ℕ
    pub old : Found
    pub new : Found
    pub two : OnTwo table.link t h Dot old_path new_path old new x
    pub no_dir : is_whole old ≡ false
    pub free : is_some (node_named new) ≡ false
    pub near : is_elsewhere t old new ≡ false
    pub at : spot_named new ≡ Some spot
    pub bytes : is_in_bytes action ≡ true → is_bytes new_path ≡ true
    pub room : IsTrue (not (has_name_room t)) → IsTrue (lacks_room t action)

  -- an open file that the path of a call named which may open it
  pub record IsOpening (file : OpenFile) : Type 0 where
    pub call : Call
    pub path : List ℕ
    pub object : Found
    pub on : OnOne table t h call path object ⊎ IsOpened table t h call path object
    pub opened : file_opened t call (node_named object) ≡ Some file

  -- an unveil of a process that may, a move by chdir or fchdir, or by chroot, and such an open file
  abbrev pub IsSaid : Event → Type 0
  IsSaid (Unveiled place perms) = (may_any h (unveil ∷ []) ≡ Yes) × (is_locked h ≡ false)
  IsSaid (Moved (ToDir dir)) = is_chdir action ≡ true
  IsSaid (Moved (ToRoot dir)) = is_chroot action ≡ true
  IsSaid (Filed number (Some file)) = IsOpening file
  IsSaid _ = Unit {0}

  abbrev pub Grounds : Change → Type 0
  Grounds NoChange = Unit {0}
  Grounds (AddNode spot node) = IsAdded spot node
  Grounds (CutRow spot) = IsCut spot
  Grounds (ShiftRow from to) = IsShifted from to
  Grounds (TieRow spot x) = IsTied spot x
  Grounds (BeginProgram left) = is_exec action ≡ true
  Grounds (AddEvent event) = IsSaid event
  Grounds (CopyAs new) = Unit {0}
  Grounds (TakeFile number from theirs) = action ≡ Take number from theirs

module _ (table : CallTable) (t : Tree) (h : ProcessState) where
  pub on_adding : (action : Action) (c : Call) (path : List ℕ) (x : Found) (node : Node) → OnOne (tmp_table table) t h c path x → makes c ≡ true →
      target_fits node.kind node.target ≡ true → node.mount ≡ false
      → (is_in_bytes action ≡ true → (is_bytes path ≡ true) × LeadsToBytes node) →
      (IsTrue (not (has_room t)) → IsTrue (lacks_room t action))
      → Grounds table t h action (adding node x)
  on_adding action c path x node on made target mount bytes room = by (spot_named x) (node_named x) refl refl
    where
      by : (s : Option Spot) (y : Option ℕ) → spot_named x ≡ s → node_named x ≡ y → Grounds table t h action (placing node s y)
      by (Some s) None at free =
          record {
            call = c;
            path = path;
            object = x;
            on = on;
            made = made;
            at = at;
            free = free;
            target = target;
            mount = mount;
            bytes = bytes;
            room = room;
          }
      by (Some s) (Some y) at free = tt
      by None y at free = tt

  on_cutting : (action : Action) (c : Call) (path : List ℕ) (x : Found) → OnOne (tmp_table table) t h c path x → takes c ≡ true →
      Grounds table t h action (removing x)
  on_cutting action c path x on taken = by (spot_named x) (node_named x) refl
    where
      by : (s : Option Spot) (y : Option ℕ) → spot_named x ≡ s → Grounds table t h action (cutting s y)
      by (Some s) (Some y) at = record { call = c; path = path; object = x; on = on; taken = taken; at = at }
      by (Some s) None at = tt
      by None y at = tt

  no_target : (target : List ℕ) → None ≡ Some target → is_bytes target ≡ true
  no_target target e = cc

  -- what is made has no target, as whichever kind it is made
  bare_as : (whose : Rules) (made : Kind) → target_fits made None ≡ true → target_fits (made_as whose made) None ≡ true
  bare_as Standard kind.File fits = fits
  bare_as Openbsd kind.File fits = fits
  bare_as whose kind.Dir fits = fits
  bare_as whose kind.Prog fits = fits
  bare_as whose kind.Link fits = fits
  bare_as whose (kind.Known type) fits = fits

  -- a call that makes what it may is one of those that make a name
  abbrev is_maker : Call → Option Kind → Bool
  is_maker c None = true
  is_maker c (Some made) = makes c && (adds_node c && target_fits made None)

  on_making : (c : Call) (path : List ℕ) (x : Found) → OnOne (tmp_table table) t h c path x → (made : Option Kind) → is_maker c made ≡ true →
      Grounds table t h (OnPath c path) (making table.whose made (spot_named x) (node_named x))
  on_making c path x on None is = tt
  on_making c path x on (Some made) is =
      let parts = and_parts (makes c) (adds_node c && target_fits made None) is in
      let more = and_parts (adds_node c) (target_fits made None) parts.1 in
      on_adding (OnPath c path) c path x (plain_node (made_as table.whose made)) on parts.0 (bare_as table.whose made more.1) refl
      (λ small. (small, no_target))
      (λ full. and_from (adds_node c) (not (has_room t)) more.0 full)

  pub on_call : (c : Call) (path : List ℕ) (x : Found) → OnOne (tmp_table table) t h c path x →
      Grounds table t h (OnPath c path) (change_by (tmp_table table) c x)
  on_call call.Rmdir path x on = on_cutting (OnPath call.Rmdir path) call.Rmdir path x on refl
  on_call call.Unlink path x on = on_cutting (OnPath call.Unlink path) call.Unlink path x on refl
  on_call call.Chdir path (Whole dir way) on = refl
  on_call call.Chdir path (Slot dir name y) on = tt
  on_call call.Exec path x on = refl
  on_call c path x on = on_making c path x on (made_by c) refl

  pub link_leads : (target : List ℕ) → is_bytes target ≡ true → LeadsToBytes (link_node target)
  link_leads target small other e = let same : target ≡ other = cc in subst (λ x. is_bytes x ≡ true) same small

  pub on_rename : (action : Action) (old_path new_path : List ℕ) (old new : Found) (x : ℕ) (c : Change) →
      OnTwo table.rename t h Dropped old_path new_path old new x
      → (is_in_bytes action ≡ true → is_bytes new_path ≡ true) → (c ≡ NoChange) ⊎ IsShift t old new x c → Grounds table t h action c
  on_rename action old_path new_path old new x c two bytes (inl same) = subst (Grounds table t h action) (sym same) tt
  on_rename action old_path new_path old new x c two bytes (inr moves) =
      subst (Grounds table t h action) (sym moves.is) (by (spot_named old) (spot_named new) refl refl)
    where
      by : (a b : Option Spot) → spot_named old ≡ a → spot_named new ≡ b → Grounds table t h action (shifting a b)
      by (Some a) (Some b) at_old at_new = record {
        old_path = old_path;
        new_path = new_path;
        old = old;
        new = new;
        node = x;
        two = two;
        shift = record {
          other = moves.other;
          inside = moves.inside;
          kinds = moves.kinds;
          is = (λ i. shifting (sym at_old i) (sym at_new i));
        };
        at_old = at_old;
        at_new = at_new;
        bytes = bytes;
      }
      by (Some a) None at_old at_new = tt
      by None b at_old at_new = tt

  pub on_link : (action : Action) (old_path new_path : List ℕ) (old new : Found) (x : ℕ) →
      OnTwo table.link t h Dot old_path new_path old new x → is_whole old ≡ false → is_some (node_named new) ≡ false →
      is_elsewhere t old new ≡ false
      → (is_in_bytes action ≡ true → is_bytes new_path ≡ true) → (IsTrue (not (has_name_room t)) → IsTrue (lacks_room t action)) →
      Grounds table t h action (tying x (spot_named new))
  on_link action old_path new_path old new x two no_dir free near bytes room = by (spot_named new) refl
    where
      by : (s : Option Spot) → spot_named new ≡ s → Grounds table t h action (tying x s)
      by (Some s) at = record {
        old_path = old_path;
        new_path = new_path;
        old = old;
        new = new;
        two = two;
        no_dir = no_dir;
        free = free;
        near = near;
        at = at;
        bytes = bytes;
        room = room;
      }
      by None at = tt
