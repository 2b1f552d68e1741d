-- Covers by their bits, and what a process can do under each.
use Rattle.std.specs.Prelude.{◌≡◌, ◌==◌, ◌&&◌, ◌||◌, ℕ, zero, suc, Bool, List, Some}
use Rattle.std.specs.Int.{bit_at}
use Rattle.pua_tree.specs.Tree.{empty_tree}
use Rattle.pua_tree.specs.declared.node.Kind.TheVariants as kind
use Rattle.pua_tree.specs.declared.node.FileType.TheVariants.{Plain, Sock, Fifo, Dev}
use Rattle.pua_calls.specs.CallSets.{has}
use Rattle.pua_calls.specs.Calls.{CallTable}
use Rattle.pua_calls.specs.declared.call.Call.{Call}
use Rattle.pua_policy.specs.States.{ProcessState}
use Rattle.pua_policy.specs.Verdict.{Object, covered_verdict, is_allowed}
use Rattle.pua_policy.specs.declared.answer.Cover.{Cover}
use Rattle.pua_policy.specs.declared.answer.Cover.TheVariants.{All, Nothing, Only}
use Rattle.pua_policy.specs.Objects.{object_seen}
use Rattle.pua_policy.specs.declared.object.Object as seen
use Rattle.pua_policy.specs.declared.object.Object.TheVariants as see
use Rattle.pua_ever.specs.Ever.{can_move, can_link}
use Rattle.pua_ever.specs.EverLines.{new_of}
use Rattle.pua_jointly.specs.JointFacts.{makes_under, turns_under}
use Rattle.pua_jointly.specs.JointMembers.{Each}
use Rattle.pua_jointly.specs.JointTable.{numbers}
use Rattle.pua_jointly.specs.declared.doing.Allowed.{Allowed}
use Rattle.pua_jointly.specs.declared.doing.Doing.{Doing}
use Rattle.pua_jointly.specs.declared.doing.Doing.TheVariants.{Moving, Carrying, Making, Turning}

-- the cover of a bit
abbrev pub cover_of : ℕ → Cover
cover_of zero = All
cover_of (suc zero) = Nothing
cover_of (suc (suc perms)) = Only perms

-- the bits below a number
abbrev pub numbered : ℕ → List ℕ
numbered = numbers

-- whether a process can do something under a cover
abbrev pub does : CallTable → ProcessState → Doing → Cover → Bool
does table h Moving k = can_move table h k
does table h (Carrying kind) k = can_move table h k || can_link table h (Some kind) k
does table h (Making made) k = makes_under table h (new_of made) k
does table h (Turning sends) k = turns_under table h sends k

-- the calls that are allowed to a process under a cover, by what they are on
abbrev pub calls_on : Allowed → seen.Object → ℕ
calls_on allowed see.Missing = allowed.missing
calls_on allowed see.Removable = allowed.removable
calls_on allowed (see.Node kind.Dir) = allowed.dir
calls_on allowed (see.Node kind.File) = allowed.file
calls_on allowed (see.Node kind.Prog) = allowed.program
calls_on allowed (see.Node kind.Link) = allowed.link
calls_on allowed (see.Node (kind.Known Plain)) = allowed.plain
calls_on allowed (see.Node (kind.Known Sock)) = allowed.socket
calls_on allowed (see.Node (kind.Known Fifo)) = allowed.fifo
calls_on allowed (see.Node (kind.Known Dev)) = allowed.device

abbrev pub AreCallsUnder : CallTable → ProcessState → Cover → Allowed → Type 0
AreCallsUnder table h cover allowed =
    (object : seen.Object) (judged : Object) → object ≡ object_seen empty_tree judged → (call : Call) →
    has (calls_on allowed object) call ≡ is_allowed (covered_verdict empty_tree table h call cover judged)

-- under each cover, by its bit
abbrev pub AreCallsByCover : CallTable → ProcessState → List Allowed → Type 0
AreCallsByCover table h calls = Each (λ bit allowed. AreCallsUnder table h (cover_of bit) allowed) calls

-- a bit is among covers under which a call is allowed on an object
abbrev pub allows_under : CallTable → ProcessState → ℕ → Object → Call → ℕ → Bool
allows_under table h covers object call bit =
    (bit_at covers bit == 1) && is_allowed (covered_verdict empty_tree table h call (cover_of bit) object)
