-- What the words of a question are about: a path as a list prints it, or what can be made.
use Rattle.std.specs.Prelude.{ℕ, Bool, true, false, ◌&&◌, ◌||◌, ◌==◌, if◌then◌else◌, List, [], ◌∷◌, ◌++◌, filter, Option, Some, None, option_map, option_and_then, is_some}
use Rattle.std.specs.Prelude.{Result, Ok, Err, codes, unwrap_or}
use Rattle.std.specs.List.{slice_split}
use Rattle.pua_tree.specs.Names.{same_bytes}
use Rattle.pua_tree.specs.Spelling.{name_of}
use Rattle.pua_tree.specs.Kinds.{about_kind}
use Rattle.pua_tree.specs.Tree.{Tree, is_dir, kind_at, look}
use Rattle.pua_tree.specs.declared.fault.NameFault.{NameFault}
use Rattle.pua_tree.specs.declared.node.Kind.{Kind}
use Rattle.pua_tree.specs.declared.node.Kind.TheVariants as node
use Rattle.pua_tree.specs.declared.node.FileType.TheVariants.{Sock, Fifo}
use Rattle.pua_policy.specs.States.{ProcessState, perms_kept}
use Rattle.pua_policy.specs.declared.place.Place.TheVariants as place
use Rattle.pua_audit.specs.Reach.{Word}
use Rattle.pua_objects.specs.Objects.{subject_word}
use Rattle.pua_objects.specs.declared.kind.ObjectKind.{ObjectKind}
use Rattle.pua_objects.specs.declared.kind.ObjectKind.TheVariants as kind
use Rattle.pua_ever.specs.Ever.{Thing, Stands, Comes, may_start, new_word}
use Rattle.pua_how.specs.declared.target.Target.{Target}
use Rattle.pua_how.specs.declared.target.Target.TheVariants as target

-- each piece spells a name
abbrev pub names_read : List (List ℕ) → Option (List (List ℕ))
names_read [] = Some []
names_read (piece ∷ more) = by (name_of piece) (names_read more)
  where
    by : Result (List ℕ) NameFault → Option (List (List ℕ)) → Option (List (List ℕ))
    by (Ok name) names = option_map (λ later. name ∷ later) names
    by (Err fault) names = None

-- a slash alone, or one before each name
abbrev pub names_behind : List ℕ → Option (List (List ℕ))
names_behind [] = Some []
names_behind (byte ∷ more) = names_read (slice_split (λ b. b == 47) (byte ∷ more))

abbrev pub path_names : List ℕ → Option (List (List ℕ))
path_names [] = None
path_names (byte ∷ more) = if byte == 47 then names_behind more else None

-- the name itself, where it has a veil of its own
abbrev pub own_name : ProcessState → ℕ → List ℕ → List Target
own_name h dir name = if is_some (perms_kept h (place.Slot dir name)) then target.Name dir name ∷ [] else []

-- what stands at a name
abbrev pub standing_at : Tree → ℕ → List Target
standing_at t node = if is_dir t node then target.Directory node ∷ target.Others node ∷ [] else target.Node node ∷ []

-- what may be meant by a name in a directory: what stands there, and the name itself where it has a veil of its own; where
-- neither is so, one of the further names
abbrev pub named_at : ProcessState → ℕ → List ℕ → Option ℕ → Tree → List Target
named_at h dir name (Some node) t = standing_at t node ++ own_name h dir name
named_at h dir name None t = if is_some (perms_kept h (place.Slot dir name)) then target.Name dir name ∷ [] else target.Others dir ∷ []

abbrev pub targets_at : Tree → ProcessState → ℕ → List ℕ → List Target
targets_at t h dir name = named_at h dir name (look t dir name) t

-- the directory at a name; links are not followed
abbrev pub directory_at_name : Tree → ℕ → List ℕ → Option ℕ
directory_at_name t dir name = option_and_then (λ node. if is_dir t node then Some node else None) (look t dir name)

-- what may be meant by a name, and those that follow it, each in the directory before
abbrev pub targets_in : Tree → ProcessState → ℕ → List ℕ → List (List ℕ) → Option (List Target)
targets_in t h dir name [] = Some (targets_at t h dir name)
targets_in t h dir name (next ∷ more) = option_and_then (λ node. targets_in t h node next more) (directory_at_name t dir name)

abbrev pub targets_by : Tree → ProcessState → List (List ℕ) → Option (List Target)
targets_by t h [] = Some (target.Directory 0 ∷ target.Others 0 ∷ [])
targets_by t h (name ∷ more) = targets_in t h 0 name more

-- what can be made, by the last number before
abbrev pub targets_new : ℕ → List Target
targets_new last =
    target.NewDirectory last ∷ target.NewOthers last ∷ target.NewFile last ∷ target.NewLink last ∷ target.NewSock last
    ∷ target.NewFifo last ∷ []

-- it is of a kind, by its word, which a plain file has and a file of which no more is known
abbrev pub is_same_kind : Kind → Option Kind → Bool
is_same_kind one None = false
is_same_kind one (Some other) = (about_kind one).number == (about_kind other).number || (may_start one && may_start other)

abbrev pub is_of_kind : Tree → ObjectKind → Target → Bool
is_of_kind t (kind.Node node.Dir) (target.Directory asked) = true
is_of_kind t (kind.Node node.Dir) (target.NewDirectory last) = true
is_of_kind t kind.Other (target.Others asked) = true
is_of_kind t kind.Other (target.NewOthers last) = true
is_of_kind t kind.Missing (target.Name asked name) = true
is_of_kind t (kind.Node one) (target.NewFile last) = may_start one
is_of_kind t (kind.Node node.Link) (target.NewLink last) = true
is_of_kind t (kind.Node (node.Known Sock)) (target.NewSock last) = true
is_of_kind t (kind.Node (node.Known Fifo)) (target.NewFifo last) = true
is_of_kind t (kind.Node node.Dir) (target.Node asked) = false
is_of_kind t (kind.Node one) (target.Node asked) = is_same_kind one (kind_at t asked)
is_of_kind t _ _ = false

abbrev pub may_be_of : Tree → Option ObjectKind → Target → Bool
may_be_of t None asked = true
may_be_of t (Some kind) asked = is_of_kind t kind asked

-- what is asked about: names that lead there from the root, or whatever can be made
pub data PathQuestion : Type 0 where
  Standing : List (List ℕ) → PathQuestion
  Making : PathQuestion

abbrev pub path_question : List ℕ → Option PathQuestion
path_question path = if same_bytes path (codes "new") then Some Making else option_map Standing (path_names path)

abbrev pub targets_asked : Tree → ProcessState → ℕ → PathQuestion → List Target
targets_asked t h last (Standing names) = unwrap_or (targets_by t h names) []
targets_asked t h last Making = targets_new last

-- all that may be meant, of a kind if one is asked for; none where what is to lead there is no directory
abbrev pub targets_of : Tree → ProcessState → ℕ → PathQuestion → Option ObjectKind → List Target
targets_of t h last asking kind = filter (may_be_of t kind) (targets_asked t h last asking)

-- the path and the kind of a line of a list for ever, as a way is asked for by them
abbrev pub question_by : Word → Thing → PathQuestion
question_by word (Stands subject) = Standing word
question_by word (Comes new) = Making

abbrev pub thing_word : Tree → Thing → List ℕ
thing_word t (Stands subject) = subject_word t subject
thing_word t (Comes new) = new_word new
