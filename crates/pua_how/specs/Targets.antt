-- What is asked about, whether it is what a path named, and whether a line of the list for ever is about it.
use Rattle.std.specs.Prelude.{◌≡◌, ◌<◌, ℕ, Bool, true, false, ◌&&◌, ◌≤◌, ◌==◌, nat_lt, List, Option, Some, None, is_some, is_none}
use Rattle.std.specs.List.{list_any}
use Rattle.pua_tree.specs.Names.{same_bytes}
use Rattle.pua_tree.specs.Tree.{Tree, kind_at}
use Rattle.pua_tree.specs.declared.node.Kind.{Kind}
use Rattle.pua_tree.specs.declared.node.Kind.TheVariants as kind
use Rattle.pua_tree.specs.declared.node.FileType.TheVariants.{Sock, Fifo}
use Rattle.pua_path.specs.Fits.{is_link_kind}
use Rattle.pua_path.specs.declared.found.Found.{Found}
use Rattle.pua_path.specs.declared.found.Found.TheVariants.{Whole, Slot}
use Rattle.pua_policy.specs.States.{ProcessState, perms_kept}
use Rattle.pua_policy.specs.declared.place.Place.TheVariants as place
use Rattle.pua_calls.specs.Calls.{call_number}
use Rattle.pua_calls.specs.declared.call.Call.{Call}
use Rattle.pua_objects.specs.Objects.{At, Others}
use Rattle.pua_ever.specs.Ever.{EverLine, Thing, Stands, Comes, NewDir, NewOthers, NewFile, NewLink, NewSock, NewFifo, may_start_at}
use Rattle.pua_how.specs.declared.target.Target.{Target}
use Rattle.pua_how.specs.declared.target.Target.TheVariants as target

abbrev pub is_sock_kind : Option Kind → Bool
is_sock_kind (Some (kind.Known Sock)) = true
is_sock_kind _ = false

abbrev pub is_fifo_kind : Option Kind → Bool
is_fifo_kind (Some (kind.Known Fifo)) = true
is_fifo_kind _ = false

-- in a tree: a directory is itself by whichever name, what is none its node by whichever name; a missing name is
-- asked about by itself where it has a veil of its own, and else as one of the further names of its directory; and what is made
-- has a number above the last one before
abbrev pub is_of : Tree → ProcessState → Target → Found → Bool
is_of t h (target.Directory asked) (Whole dir way) = dir == asked
is_of t h (target.Others asked) (Slot dir name None) = dir == asked && is_none (perms_kept h (place.Slot dir name))
is_of t h (target.Node asked) (Slot dir name (Some node)) = node == asked
is_of t h (target.Name asked asked_name) (Slot dir name None) =
    dir == asked && (same_bytes name asked_name && is_some (perms_kept h (place.Slot dir name)))
is_of t h (target.NewDirectory last) (Whole dir way) = nat_lt last dir
is_of t h (target.NewOthers last) (Slot dir name None) = nat_lt last dir && is_none (perms_kept h (place.Slot dir name))
is_of t h (target.NewFile last) (Slot dir name (Some node)) = nat_lt last node && may_start_at (kind_at t node)
is_of t h (target.NewLink last) (Slot dir name (Some node)) = nat_lt last node && is_link_kind (kind_at t node)
is_of t h (target.NewSock last) (Slot dir name (Some node)) = nat_lt last node && is_sock_kind (kind_at t node)
is_of t h (target.NewFifo last) (Slot dir name (Some node)) = nat_lt last node && is_fifo_kind (kind_at t node)
is_of t h _ _ = false

-- the numbers of all nodes that live are this one or below
abbrev pub IsLast : Tree → ℕ → Type 0
IsLast t last = (node : ℕ) (kind : Kind) → kind_at t node ≡ Some kind → node ≤ last

-- what it is about is known before: the number of its node or its directory was given; and what is made comes after all that lives
abbrev pub IsGiven : Tree → Target → Type 0
IsGiven t (target.Directory asked) = asked < t.next
IsGiven t (target.Others asked) = asked < t.next
IsGiven t (target.Node asked) = asked < t.next
IsGiven t (target.Name asked name) = asked < t.next
IsGiven t (target.NewDirectory last) = IsLast t last
IsGiven t (target.NewOthers last) = IsLast t last
IsGiven t (target.NewFile last) = IsLast t last
IsGiven t (target.NewLink last) = IsLast t last
IsGiven t (target.NewSock last) = IsLast t last
IsGiven t (target.NewFifo last) = IsLast t last

-- a line of a list for ever is about it
abbrev pub is_about : Target → Thing → Bool
is_about (target.Directory asked) (Stands (At (Whole dir way))) = dir == asked
is_about (target.Others asked) (Stands (Others dir)) = dir == asked
is_about (target.Node asked) (Stands (At (Slot dir name (Some node)))) = node == asked
is_about (target.Name asked asked_name) (Stands (At (Slot dir name None))) = dir == asked && same_bytes name asked_name
is_about (target.NewDirectory last) (Comes NewDir) = true
is_about (target.NewOthers last) (Comes NewOthers) = true
is_about (target.NewFile last) (Comes NewFile) = true
is_about (target.NewLink last) (Comes NewLink) = true
is_about (target.NewSock last) (Comes NewSock) = true
is_about (target.NewFifo last) (Comes NewFifo) = true
is_about _ _ = false

-- what a line is about, as a way is asked for to it; what is made has a number above this one
abbrev pub target_about : ℕ → Thing → Target
target_about last (Stands (At (Whole dir way))) = target.Directory dir
target_about last (Stands (At (Slot dir name (Some node)))) = target.Node node
target_about last (Stands (At (Slot dir name None))) = target.Name dir name
target_about last (Stands (Others dir)) = target.Others dir
target_about last (Comes NewDir) = target.NewDirectory last
target_about last (Comes NewOthers) = target.NewOthers last
target_about last (Comes NewFile) = target.NewFile last
target_about last (Comes NewLink) = target.NewLink last
target_about last (Comes NewSock) = target.NewSock last
target_about last (Comes NewFifo) = target.NewFifo last

-- some line about it has the call
abbrev pub has_call : List Call → Call → Bool
has_call calls call = list_any (λ other. call_number other == call_number call) calls

abbrev pub line_has : Target → Call → EverLine → Bool
line_has asked call line = is_about asked line.thing && has_call line.calls call

abbrev pub is_listed : List EverLine → Target → Call → Bool
is_listed lines asked call = list_any (line_has asked call) lines
