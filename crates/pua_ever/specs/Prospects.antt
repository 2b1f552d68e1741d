-- What is found before the first line, and the calls that it decides.
use Rattle.std.specs.Prelude.{◌≡◌, ℕ, Bool, true, false, not, ◌&&◌, ◌||◌, if◌then◌else◌, is_some, List, [], ◌∷◌}
use Rattle.std.specs.Prelude.{Option, Some, None}
use Rattle.std.specs.BTreeSet.{BTreeSet, contains}
use Rattle.std.specs.Ordering.{nat_cmp}
use Rattle.pua_tree.specs.Tree.{Tree, Spot, is_dir, is_mount}
use Rattle.pua_tree.specs.declared.node.Kind.{Kind}
use Rattle.pua_path.specs.Fits.{is_link_kind}
use Rattle.pua_path.specs.declared.found.Found.TheVariants.{Slot, Whole}
use Rattle.pua_calls.specs.Calls.{CallTable}
use Rattle.pua_calls.specs.CallSets.{has, keeps_link}
use Rattle.pua_policy.specs.States.{ProcessState}
use Rattle.pua_policy.specs.AllowedCalls.{AreWorkedOut}
use Rattle.pua_policy.specs.Verdict.{object_of_kind}
use Rattle.pua_policy.specs.declared.answer.Cover.{Cover}
use Rattle.pua_calls.specs.declared.call.Call.{Call}
use Rattle.pua_policy.specs.declared.object.Object as seen
use Rattle.pua_policy.specs.declared.object.Object.TheVariants as see
use Rattle.pua_script.specs.Confinement.{has_c}
use Rattle.pua_objects.specs.Objects.{At, Others, Subject, cover_in}
use Rattle.pua_objects.specs.declared.item.Subject as about
use Rattle.pua_objects.specs.declared.item.Subject.TheVariants as subject
use Rattle.pua_ever.specs.Ever.{can_empty, may_edit, may_link, may_start, named_covers, stays_on}
use Rattle.pua_ever.specs.Ever.{can_allow, is_ever_allowed, is_turned_held, can_be_freed}
use Rattle.pua_ever.specs.Destinations.{AreDestinations}
use Rattle.pua_ever.specs.Movable.{IsMovable}
use Rattle.pua_ever.specs.declared.movable.Movable.{Movable}
use Rattle.pua_ever.specs.declared.prospects.Prospects.{Prospects}

-- the nodes that a process holds so that it can make programs of them
abbrev pub IsTurnedSet : ProcessState → BTreeSet ℕ → Type 0
IsTurnedSet h nodes = (node : ℕ) → contains nat_cmp nodes node ≡ is_turned_held h node

-- what was found for the lines is so of this process
pub record IsProspects (t : Tree) (table : CallTable) (h : ProcessState) (found : Prospects) : Type 0 where
  pub edits : found.may_edit ≡ may_edit table h
  pub links : found.may_link ≡ may_link table h
  pub allowed : AreWorkedOut h table found.allowed
  pub movable : IsMovable t table h None found.movable
  pub destinations : AreDestinations t h found.destinations
  pub turned : IsTurnedSet h found.turned
  pub held : (dir : ℕ) → is_dir t dir ≡ true → has_c (cover_in t h dir) ≡ true →
      can_empty t h dir ≡ not (contains nat_cmp found.destinations.held dir)

-- the calls on what is moved from where a thing stands
abbrev pub dir_of_subject : Subject → ℕ
dir_of_subject (At (Whole dir way)) = dir
dir_of_subject (At (Slot dir name _)) = dir
dir_of_subject (Others dir) = dir

abbrev pub IsMovableAt : Tree → CallTable → ProcessState → Subject → Movable → Type 0
IsMovableAt t table h subject found = IsMovable t table h (stays_on t h (dir_of_subject subject)) found

-- the calls on the name at which a thing stands, once that is taken away
pub record AreOnFreed (t : Tree) (table : CallTable) (h : ProcessState) (at : Option Spot) (calls : ℕ) : Type 0 where
  pub none : at ≡ None → (call : Call) → has calls call ≡ false
  pub some : (spot : Spot) → at ≡ Some spot → (call : Call) →
      has calls call
      ≡ (can_be_freed t table h spot && is_ever_allowed t table h (At (Slot spot.0 spot.1 None)) call)

-- the name at which an item stands
abbrev pub own_given : about.Subject → seen.Object → Option Spot
own_given (subject.Dir id dir name) object = Some (dir, name.now)
own_given (subject.Name dir name) object = by object
  where
    by : seen.Object → Option Spot
    by see.Missing = None
    by _ = Some (dir, name.now)
own_given _ object = None

-- what it is about is a mount point
abbrev pub is_mount_given : Tree → about.Subject → Bool
is_mount_given t (subject.Dir id dir name) = is_mount t id
is_mount_given t _ = false

-- an object is a file that is a plain one or may be
abbrev pub is_startable : seen.Object → Bool
is_startable (see.Node kind) = may_start kind
is_startable see.Missing = false
is_startable see.Removable = false

-- the calls on an object of a kind at a name, by what covers it now and whether a descriptor can make a program of it
abbrev pub kind_covers : Tree → CallTable → ProcessState → Option ℕ → Cover → Option Kind → List Cover
kind_covers t table h on now kind = if is_some kind then named_covers t table h on kind now else now ∷ []

abbrev pub kind_allowed : Tree → CallTable → ProcessState → Option ℕ → Bool → Cover → Option Kind → Call → Bool
kind_allowed t table h on turned now kind call =
    (keeps_link call || not (is_link_kind kind))
    && can_allow table h turned (kind_covers t table h on now kind) (object_of_kind kind) call
