-- The calls that can ever be allowed on what can be moved or made.
use Rattle.std.specs.Prelude.{◌≡◌, Bool, if◌then◌else◌, List, [], ◌++◌, ℕ, Option, slice_index}
use Rattle.pua_tree.specs.Kinds.{about_kind}
use Rattle.pua_tree.specs.Tree.{Tree}
use Rattle.pua_tree.specs.declared.node.Kind.{Kind}
use Rattle.pua_calls.specs.Calls.{CallTable, file_by_rules}
use Rattle.pua_calls.specs.CallSets.{has}
use Rattle.pua_policy.specs.States.{ProcessState}
use Rattle.pua_policy.specs.Verdict.{Is, IsMissing}
use Rattle.pua_calls.specs.declared.call.Call.{Call}
use Rattle.pua_ever.specs.Ever.{dir_covers, name_covers, file_covers, is_allowed_under, lasting_dir, removable_dir}
use Rattle.pua_policy.specs.declared.answer.Cover.{Cover}
use Rattle.pua_ever.specs.declared.destinations.Covers.{Covers}
use Rattle.pua_ever.specs.declared.movable.Movable.{Movable}

-- the covers under which anything but a directory can come, by what was found of the veils
abbrev pub all_destinations : Covers → Bool → List Cover
all_destinations found moves = found.names.items ++ (found.dirs.items ++ (if moves then found.entrances.items else []))

-- each set has the calls that are allowed on such an object under one of the covers that it can come to have, on a device or on any
pub record IsMovable (t : Tree) (table : CallTable) (h : ProcessState) (on : Option ℕ) (found : Movable) : Type 0 where
  pub dir : (call : Call) → has found.dir call ≡ is_allowed_under table h (dir_covers t h on) lasting_dir call
  pub emptied : (call : Call) → has found.emptied call ≡ is_allowed_under table h (dir_covers t h on) removable_dir call
  pub others : (call : Call) → has found.others call ≡ is_allowed_under table h (dir_covers t h on) IsMissing call
  pub nodes : (kind : Kind) (call : Call) → has (slice_index found.nodes (about_kind kind).number) call
      ≡ is_allowed_under table h (file_covers t table h on) (Is kind) call
  pub new_file : (call : Call) → has found.new_file call
      ≡ is_allowed_under table h (file_covers t table h on) (Is (file_by_rules table.whose)) call
  pub made : (call : Call) → has found.made call ≡ is_allowed_under table h (name_covers t h on ++ dir_covers t h on) IsMissing call
