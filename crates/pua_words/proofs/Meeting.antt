-- The command that was met, from what `clap` says of its name and of its rows.
use Rattle.std.proofs.Common.{◌≡◌, ◌∙◌, ℕ, Bool, List, [], ◌∷◌, Option, Some, None, Result, Ok, Err, ap, arith, codes, option_map, subst, sym}
use Rattle.std.specs.Prelude.{Box, IfOk, IfSome}
use Rattle.std.specs.Box.{box_value}
use Rattle.clap.specs.Matches.{first_value, subcommand_name_of}
use Rattle.clap.specs.Simple.{subcommand_rows, subcommand_rows_of}
use Rattle.clap.specs.Walk.{Row, Text, rows_of}
use Rattle.clap.specs.declared.parser.matches.ArgMatches.{ArgMatches}
use Rattle.clap.specs.declared.parser.matches.ArgMatches.TheViews.{out-ArgMatches, out-SubCommand}
use Rattle.clap.specs.declared.parser.matches.Found.{Found}
use Rattle.clap.specs.declared.parser.matches.SubCommand.{SubCommand}
use Rattle.pua_words.specs.Reading.{HasInputsOf, IsAuditOf, IsCommandOf, IsFlag, IsListOf, IsListText, IsReadAs, IsWhyOf, below_of, list_meant}
use Rattle.pua_words.specs.declared.command.AuditWords.{AuditWords}
use Rattle.pua_words.specs.declared.command.Command.{Command}
use Rattle.pua_words.specs.declared.command.Processes.{Processes}
use Rattle.pua_words.specs.declared.command.Text.{Text as Asked}
use Rattle.pua_words.specs.declared.command.Text.TheVariants.{Audit, Why}
use Rattle.pua_words.specs.declared.command.WhyWords.{WhyWords}

pub is_met : (m : ArgMatches) (name : Text) (rows : List Row) → Some name ≡ subcommand_name_of m
    → Some rows ≡ option_map (λ p. p.1) (subcommand_rows (out-ArgMatches m).subcommand) → subcommand_rows_of m ≡ Some (name, rows)
is_met m name rows = go (out-ArgMatches m).subcommand
  where
    go : {Z : Type 0} (o : Option (Box SubCommand Z)) → Some name ≡ option_map (λ b. (out-SubCommand (box_value b)).name.now) o
        → Some rows ≡ option_map (λ p. p.1) (subcommand_rows o) → subcommand_rows o ≡ Some (name, rows)
    go None n r = cc
    go (Some b) n r = cc

abbrev first : Text → ℕ
first [] = 0
first (b ∷ more) = b

-- two names of one text begin alike
alike : {name a b : Text} → name ≡ a → name ≡ b → first a ≡ first b
alike e n = ap first (sym e ∙ n)

pub objects_read : {E : Type 0} (r : Result (Option Asked) E) (name : Text) (found : Found) → name ≡ codes "objects"
    → ((ever how why images : Bool) → IsFlag found (codes "ever") ever → IsFlag found (codes "how") how → IsFlag found (codes "why") why
    → IsFlag found (codes "images") images
    → IfOk r (λ text. IfSome text
    (IsListOf ever how why images (first_value found (codes "below")) (first_value found (codes "beside"))
    (first_value found (codes "process")))))
    → ((ever how why images : Bool) → IsFlag found (codes "ever") ever → IsFlag found (codes "how") how → IsFlag found (codes "why") why
    → IsFlag found (codes "images") images → first_value found (codes "beside") ≡ None → (processes : Processes)
    → IsListText (first_value found (codes "process")) processes
    → IfOk r (λ text. text ≡ list_meant ever how why images (below_of text) None processes))
    → ((ever how why images : Bool) → IsFlag found (codes "ever") ever → IsFlag found (codes "how") how → IsFlag found (codes "why") why
    → IsFlag found (codes "images") images → (beside : Processes) → IsListText (first_value found (codes "beside")) beside
    → (processes : Processes) → IsListText (first_value found (codes "process")) processes
    → IfOk r (λ text. text ≡ list_meant ever how why images (below_of text) (Some beside) processes)) → IfOk r (λ text. IfSome text (IsReadAs name found))
objects_read (Err e) name found is form meant helped = tt
objects_read (Ok None) name found is form meant helped = tt
objects_read (Ok (Some text)) name found is form meant helped = record {
  run = λ n. absurd (let bad : 111 ≡ 114 = alike is n in omega arith);
  tree = λ n. absurd (let bad : 111 ≡ 116 = alike is n in omega arith);
  tight = λ n. absurd (let bad : 111 ≡ 116 = alike is n in omega arith);
  objects = λ n ever how why images e h w i.
      (form ever how why images e h w i, meant ever how why images e h w i, helped ever how why images e h w i);
  why = λ n. absurd (let bad : 111 ≡ 119 = alike is n in omega arith);
  how = λ n. absurd (let bad : 111 ≡ 104 = alike is n in omega arith);
  audit = λ n. absurd (let bad : 111 ≡ 97 = alike is n in omega arith);
}

pub why_read : {E : Type 0} (r : Result (Option Asked) E) (name : Text) (found : Found) → name ≡ codes "why"
    → IfOk r (λ text. IfSome text (λ text. (words : WhyWords) × (text ≡ Why words) × IsWhyOf found words))
    → IfOk r (λ text. IfSome text (IsReadAs name found))
why_read (Err e) name found is read = tt
why_read (Ok None) name found is read = tt
why_read (Ok (Some text)) name found is read = record {
  run = λ n. absurd (let bad : 119 ≡ 114 = alike is n in omega arith);
  tree = λ n. absurd (let bad : 119 ≡ 116 = alike is n in omega arith);
  tight = λ n. absurd (let bad : 119 ≡ 116 = alike is n in omega arith);
  objects = λ n. absurd (let bad : 119 ≡ 111 = alike is n in omega arith);
  why = λ n. read;
  how = λ n. absurd (let bad : 119 ≡ 104 = alike is n in omega arith);
  audit = λ n. absurd (let bad : 119 ≡ 97 = alike is n in omega arith);
}

pub audit_read : {E : Type 0} (r : Result (Option Asked) E) (name : Text) (found : Found) → (name ≡ codes "run" → ⊥)
    → (name ≡ codes "tree" → ⊥) → (name ≡ codes "objects" → ⊥) → (name ≡ codes "why" → ⊥) → (name ≡ codes "tight" → ⊥) → (name ≡ codes "how" → ⊥)
    → IfOk r (λ text. IfSome text (λ text. (words : AuditWords) × (text ≡ Audit words) × IsAuditOf found words))
    → IfOk r (λ text. IfSome text (IsReadAs name found))
audit_read (Err e) name found run tree objects why tight how read = tt
audit_read (Ok None) name found run tree objects why tight how read = tt
audit_read (Ok (Some text)) name found run tree objects why tight how read = record {
  run = λ n. absurd (run n);
  tree = λ n. absurd (tree n);
  tight = λ n. absurd (tight n);
  objects = λ n. absurd (objects n);
  why = λ n. absurd (why n);
  how = λ n. absurd (how n);
  audit = λ n. read;
}

-- the command of what was met
pub is_command : (o : Option Command) (m : ArgMatches) (name : Text) (found : Found) (text : Asked)
    → subcommand_rows_of m ≡ Some (name, rows_of found) → IsReadAs name found text → IfSome o (λ command. command.text ≡ text)
    → IfSome o (HasInputsOf found) → IfSome o (IsCommandOf m)
is_command None m name found text is read same inputs = tt
is_command (Some command) m name found text is read same inputs =
    record { name = name; found = found; is_met = is; text = subst (IsReadAs name found) (sym same) read; inputs = inputs }
