-- Why there is no list of what a process can ever touch.
use Rattle.std.specs.Prelude.{Bool, not, ◌&&◌, if◌then◌else◌, List, [], ◌∷◌, ◌++◌, filter, Option, Some, None, find}
use Rattle.pua_calls.specs.Promises.{holds, creating, unveil}
use Rattle.pua_calls.specs.Calls.{CallTable, PairRule, rule_of, calls, effect_of}
use Rattle.pua_calls.specs.Effects.{makes, removes}
use Rattle.pua_policy.specs.States.{ProcessState, is_locked, may_any}
use Rattle.pua_calls.specs.declared.call.Call.{Call}
use Rattle.pua_ever.specs.Ever.{is_yes}
use Rattle.pua_ever.specs.declared.fault.EverFault.{EverFault}
use Rattle.pua_ever.specs.declared.fault.EverFault.TheVariants.{Refused, OutOfMemory}
use Rattle.pua_ever.specs.declared.refusal.EverRefusal.{EverRefusal}
use Rattle.pua_ever.specs.declared.refusal.EverRefusal.TheVariants.{CanUnveil, LacksC, RenameLacksC, LinkLacksC}

-- the process isn't locked, and may put veils
abbrev pub can_unveil : ProcessState → Bool
can_unveil h = not (is_locked h) && is_yes (may_any h (unveil ∷ []))

-- by the table the call doesn't need `c`
abbrev pub lacks_c : CallTable → Call → Bool
lacks_c table call = not (holds (rule_of table call).perms creating)

-- the calls that take a name away, and those that make one
abbrev pub changing_calls : List Call
changing_calls = filter (λ call. removes (effect_of call)) calls ++ filter (λ call. makes (effect_of call)) calls

-- the new name of a request with two paths needs it, or both names
abbrev pub new_needs_c : PairRule → Bool
new_needs_c pair = holds pair.new.needs.perms creating

abbrev pub both_need_c : PairRule → Bool
both_need_c pair = holds pair.old.needs.perms creating && new_needs_c pair

abbrev pub table_refusal : CallTable → Option Call → Option EverRefusal
table_refusal table (Some call) = Some (LacksC call)
table_refusal table None =
    if both_need_c table.rename then (if new_needs_c table.link then None else Some LinkLacksC) else Some RenameLacksC

-- the process's reason comes first
abbrev pub refusal : CallTable → ProcessState → Option EverRefusal
refusal table h = if can_unveil h then Some CanUnveil else table_refusal table (find (lacks_c table) changing_calls)

-- what a fault of the list says of it
abbrev pub refusal_in : EverFault → Option EverRefusal
refusal_in (Refused why) = Some why
refusal_in OutOfMemory = None
