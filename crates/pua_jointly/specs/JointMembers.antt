-- The processes of a crew as they are handed in, and their veils.
use Rattle.std.specs.Prelude.{◌≡◌, ◌<◌, ◌&&◌, ◌==◌, ℕ, Bool, List, map, Some, slice_get}
use Rattle.std.specs.Borrow.{Bor}
use Rattle.std.specs.List.{AllByRecursion, Contains}
use Rattle.std.specs.Option.{option_eq}
use Rattle.std.specs.Bool.{beq}
use Rattle.pua_policy.specs.States.{ProcessState, same_place}
use Rattle.pua_policy.specs.declared.open_file.OpenFile.{OpenFile}
use Rattle.pua_policy.specs.declared.place.Place.{Place}
use Rattle.pua_tree.specs.declared.node.Kind.{Kind}
use Rattle.pua_tree.specs.declared.node.Kind.TheVariants as kind
use Rattle.pua_tree.specs.declared.node.FileType.TheVariants.{Plain, Sock, Fifo, Dev}

-- what is lent
abbrev pub states : List (Bor ProcessState) → List ProcessState
states processes = map (λ process. process.now) processes

abbrev pub veil_now : Bor Place × Bor ℕ → Place × ℕ
veil_now veil = (veil.0.now, veil.1.now)

abbrev pub file_now : Bor ℕ × Bor OpenFile → ℕ × OpenFile
file_now held = (held.0.now, held.1.now)

-- the same things, however often
pub record SameMembers (xs ys : List ProcessState) : Type 0 where
  pub there : (a : ProcessState) → Contains xs a → Contains ys a
  pub back : (a : ProcessState) → Contains ys a → Contains xs a

-- equal but for their veils and open files
abbrev pub has_same_state : ProcessState → ProcessState → Bool
has_same_state a b =
    option_eq (λ x y. x == y) a.promises b.promises
    && (option_eq (λ x y. x == y) a.execpromises b.execpromises
    && (beq a.locked b.locked && ((a.start.root == b.start.root) && ((a.start.dir == b.start.dir) && beq a.ended b.ended))))

-- two veils are the same, and two lists of them
abbrev pub same_veil : Place × ℕ → Place × ℕ → Bool
same_veil a b = same_place a.0 b.0 && (a.1 == b.1)

-- two descriptors stand for the same open file
abbrev pub kind_number : Kind → ℕ
kind_number kind.Dir = 0
kind_number kind.File = 1
kind_number kind.Prog = 2
kind_number kind.Link = 3
kind_number (kind.Known Plain) = 4
kind_number (kind.Known Sock) = 5
kind_number (kind.Known Fifo) = 6
kind_number (kind.Known Dev) = 7

abbrev pub same_file : ℕ × OpenFile → ℕ × OpenFile → Bool
same_file a b =
    (a.0 == b.0) && ((a.1.node == b.1.node) && ((kind_number a.1.kind == kind_number b.1.kind) && (a.1.letters == b.1.letters)))

-- the permissions of veils are of a veil's letters
abbrev pub AreSmall : List (Place × ℕ) → Type 0
AreSmall = AllByRecursion (λ veil. veil.1 < 16)

-- each thing of a list, by its place
abbrev pub Each : {X : Type 0} → (ℕ → X → Type 0) → List X → Type 0
Each P xs = (i : ℕ) → (x : _) → slice_get xs i ≡ Some x → P i x
