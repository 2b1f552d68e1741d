-- What contracts see of processes that act together.
use Rattle.std.specs.Prelude.{◌≡◌, ℕ, List, map, Option, option_map, IfSome}
use Rattle.pua_tree.specs.Tree.{Tree}
use Rattle.pua_calls.specs.Calls.{CallTable}
use Rattle.pua_policy.specs.States.{ProcessState}
use Rattle.pua_ever.specs.LastingList.{IsLasting}
use Rattle.pua_texts.specs.BesideLines.{Beside}
use Rattle.pua_texts.specs.declared.members.Helped.{Helped}
use Rattle.pua_texts.specs.declared.members.Member.{Member}
use Rattle.pua_texts.specs.declared.members.Joined.{Joined}

-- the numbers of processes, each with what it keeps
abbrev pub named_by : List Member → List (ℕ × ProcessState)
named_by members = map (λ member. (member.number, member.process.now)) members

-- the process that stands for some, if there is one, and its list for ever
pub record IsJointOf (t : Tree) (table : CallTable) (one : Option ProcessState) (joint : Option Joined) : Type 0 where
  pub is : option_map (λ joint. joint.one.now) joint ≡ one
  pub lasting : IfSome joint (λ joint. IsLasting t table joint.one.now joint.list.now)

-- a process with the help of others
abbrev pub beside_of : Helped → Beside
beside_of helped = record {
  number = helped.member.number;
  process = helped.member.process.now;
  others = named_by helped.others.now;
  own = helped.own;
  execs = helped.execs;
}
