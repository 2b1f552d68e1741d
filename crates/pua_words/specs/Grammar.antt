-- How `clap` is told of the commands: the options and operands that each takes, in their order.
use Rattle.std.specs.Prelude.{◌≡◌, ⊤, true, false, List, [], ◌∷◌, Option, Some, Result, Ok, Err, codes, pos}
use Rattle.clap.specs.Lexer.{usize_max}
use Rattle.clap.specs.Walk.{Rule, Text, rule_of}
use Rattle.clap.specs.Simple.{App, app_of, new_app, new_rule, new_shape, with_rule, with_subcommand}
use Rattle.clap.specs.declared.builder.arg.Arg.{Arg}
use Rattle.clap.specs.declared.builder.action.ArgAction.TheVariants.{Append, Set, SetTrue}
use Rattle.clap.specs.declared.builder.command.Command.{Command}
use Rattle.clap.specs.declared.builder.command.Command.TheViews.{out-Command}
use Rattle.clap.specs.declared.builder.value_parser.ValueParser.{ValueParser}
use Rattle.clap.specs.declared.builder.value_parser.ValueParser.TheVariants.{Signed}

-- ---- options and operands

-- an option without a value
abbrev pub flag_rule : Text → Rule
flag_rule name = record (new_rule name) { long = Some name; action = Some SetTrue }

-- a word that has its meaning by its place
abbrev pub operand_rule : Text → Rule
operand_rule name = record (new_rule name) { value_names = 1 }

-- an option with one value
abbrev pub option_rule : Text → Rule
option_rule name = record (operand_rule name) { long = Some name; action = Some Set }

-- all words that are left
abbrev pub operands_rule : Text → Rule
operands_rule name =
    record (operand_rule name) { action = Some Append; range = Some (record { start_inclusive = 0; end_inclusive = usize_max }) }

abbrev pub required : Rule → Rule
required rule = record rule { required = true }

-- which texts a value may be is left open
abbrev pub judged : Option ValueParser → Rule → Rule
judged parser rule = record rule { parser = parser }

abbrev pub by_default : Text → Rule → Rule
by_default value rule = record rule { defaults = value ∷ [] }

-- the argument is such an option or operand, of one command alone
abbrev pub IsArg : Rule → Arg → Type 0
IsArg rule arg = (rule_of arg ≡ rule) × (arg.global ≡ false)

-- ---- commands

-- the command with these, behind what it has
abbrev pub with_rules : App → List Rule → App
with_rules app [] = app
with_rules app (rule ∷ rules) = with_rules (with_rule app rule) rules

abbrev pub input_rules : Option ValueParser → List Rule
input_rules rules =
    judged rules (by_default (codes "profile") (option_rule (codes "rules"))) ∷ option_rule (codes "table")
    ∷ required (operand_rule (codes "tree")) ∷ required (operand_rule (codes "script")) ∷ []

abbrev pub process_rule : Option ValueParser → Rule
process_rule process = judged process (by_default (codes "1") (option_rule (codes "process")))

-- the line after which the script is looked at
abbrev pub at_rule : Rule
at_rule = option_rule (codes "at")

-- with whose help a list is asked for
abbrev pub beside_rule : Rule
beside_rule = option_rule (codes "beside")

-- at or below which path lines are asked for
abbrev pub below_rule : Rule
below_rule = option_rule (codes "below")

abbrev pub run_app : Option ValueParser → App
run_app rules = with_rules (with_rules (new_app (codes "run")) (flag_rule (codes "why") ∷ at_rule ∷ [])) (input_rules rules)

abbrev pub tree_app : Option ValueParser → App
tree_app rules = with_rules (with_rule (new_app (codes "tree")) at_rule) (input_rules rules)

abbrev pub objects_app : Option ValueParser → App
objects_app rules =
    with_rules
    (with_rules (new_app (codes "objects"))
    (flag_rule (codes "ever") ∷ flag_rule (codes "how") ∷ flag_rule (codes "why") ∷ flag_rule (codes "images")
    ∷ by_default (codes "1") (option_rule (codes "process")) ∷ beside_rule ∷ below_rule ∷ at_rule ∷ [])) (input_rules rules)

abbrev pub why_app : Option ValueParser → Option ValueParser → App
why_app process rules =
    with_rules (with_rules (with_rules (new_app (codes "why")) (process_rule process ∷ at_rule ∷ [])) (input_rules rules))
    (required (operand_rule (codes "call")) ∷ operands_rule (codes "arguments") ∷ [])

abbrev pub tight_app : Option ValueParser → App
tight_app rules = with_rules (with_rule (new_app (codes "tight")) (flag_rule (codes "why"))) (input_rules rules)

abbrev pub how_app : Option ValueParser → Option ValueParser → Option ValueParser → App
how_app process rules kind =
    with_rules (with_rules (with_rules (new_app (codes "how")) (process_rule process ∷ at_rule ∷ [])) (input_rules rules))
    (required (operand_rule (codes "call")) ∷ required (operand_rule (codes "path"))
    ∷ judged kind (operand_rule (codes "kind")) ∷ [])

-- the limit is a number of a byte
abbrev pub limit_rule : Rule
limit_rule = judged (Some (Signed (pos 0) (pos 255))) (required (option_rule (codes "limit")))

abbrev pub walk_rules : Option ValueParser → Option ValueParser → List Rule
walk_rules process base =
    limit_rule ∷ process_rule process
    ∷ judged base (by_default (codes "root") (option_rule (codes "base"))) ∷ option_rule (codes "after") ∷ []

abbrev pub audit_app : Option ValueParser → Option ValueParser → Option ValueParser → App
audit_app process base rules =
    with_rule (with_rules (with_rule (with_rules (new_app (codes "audit")) (walk_rules process base)) at_rule) (input_rules rules))
    (operands_rule (codes "names"))

-- the program, without its commands
abbrev pub program_app : App
program_app = record {
  top = record (new_shape (codes "pua")) { no_binary_name = true; has_version = true; subcommand_required = true };
  subs = [];
}

-- which texts the values of each command may be
pub record Parsers : Type 0 where
  pub run : Option ValueParser
  pub tree : Option ValueParser
  pub objects : Option ValueParser
  pub why_process : Option ValueParser
  pub why : Option ValueParser
  pub tight : Option ValueParser
  pub how_process : Option ValueParser
  pub how : Option ValueParser
  pub how_kind : Option ValueParser
  pub audit_process : Option ValueParser
  pub audit_base : Option ValueParser
  pub audit : Option ValueParser

abbrev pub pua_app : Parsers → App
pua_app p =
    with_subcommand
    (with_subcommand
    (with_subcommand
    (with_subcommand
    (with_subcommand (with_subcommand (with_subcommand program_app (run_app p.run).top) (tree_app p.tree).top) (objects_app p.objects).top)
    (why_app p.why_process p.why).top) (tight_app p.tight).top)
    (how_app p.how_process p.how p.how_kind).top) (audit_app p.audit_process p.audit_base p.audit).top

-- the command has these options and operands, none of them for its commands too, unless a growth was refused
abbrev pub IsBuilt : {E : Type 0} → App → Result Command E → Type 0
IsBuilt app (Ok command) = (app_of command ≡ app) × ((out-Command command).has_globals ≡ false)
IsBuilt app (Err e) = ⊤
