-- The command that words of the forms of `specs/Plain` mean, from what `clap` found.
use Rattle.std.proofs.Common.{◌≡◌, ◌∙◌, ℕ, Bool, false, true, List, [], ◌∷◌, Option, Some, None, ap, arith, codes, option_map, refl, rules, sym, subst}
use Rattle.std.specs.Borrow.{Bor}
use Rattle.std.specs.Option.{ok_or}
use Rattle.std.specs.Str.Parse.{digits_value, without_leading_plus}
use Rattle.std.specs.Prelude.{IfOk, IfSome, unwrap_or}
use Rattle.clap.specs.Matches.{first_value, one_text}
use Rattle.clap.specs.Simple.{App, HasMatchesOf, is_simple, subcommand_of, subcommand_rows_of}
use Rattle.clap.specs.Walk.{Row, Text, all_of, first_of, one_of, rows_of}
use Rattle.clap.specs.declared.parser.matches.ArgMatches.{ArgMatches}
use Rattle.clap.specs.declared.parser.matches.Found.{Found}
use Rattle.clap.proofs.WalkLemmas.{first_value-rows, one_text-rows, raw_values-rows}
use Rattle.pua_audit.specs.declared.Base.{Base}
use Rattle.pua_audit.specs.declared.Base.TheVariants.{Cwd, Root}
use Rattle.pua_calls.specs.Calls.{rules_named}
use Rattle.pua_words.specs.Commands.{AreFieldsOf, IsLimitText, IsNumberText, at_read, values_found}
use Rattle.pua_words.specs.Grammar.{Parsers, pua_app}
use Rattle.pua_words.specs.Plain.{IsMadeOf, Meanings, IsMeantBy, means}
use Rattle.pua_words.specs.Reading.{HasInputsOf, IsCommandOf, IsListOf, IsListRead, below_of, list_meant}
use Rattle.pua_words.specs.declared.command.Command.{Command}
use Rattle.pua_words.specs.declared.command.Processes.TheVariants.{One}
use Rattle.pua_words.specs.declared.command.Text.{Text as Asked}
use Rattle.pua_words.specs.declared.command.Text.TheVariants as asked
use Rattle.pua_words.proofs.ClapFinds.{audit_meets, below_meets, beside_meet, HasFlags, images_meet, Meets, process_meets, how_meets, objects_meets, pua_is_simple, run_meets, tight_meets, tree_meets, why_meets}

some_is : {A : Type 0} {a b : A} → Some a ≡ Some b → a ≡ b
some_is {A} {a} {b} e = ap (λ (o : Option A). unwrap_or o a) e

no_value : {A B : Type 0} (f : A → B) (o : Option A) → option_map f o ≡ None → o ≡ None
no_value f None is = refl
no_value f (Some a) is = cc

-- what was found behind the name of the command
pub record Behind (m : ArgMatches) (command : Command) (name : Text) (rows : List Row) : Type 0 where
  pub is_command : IsCommandOf m command
  pub name_is : is_command.name ≡ name
  pub rows_are : rows_of is_command.found ≡ rows

behind : (m : ArgMatches) (command : Command) (name : Text) (rows : List Row) → IsCommandOf m command
    → subcommand_rows_of m ≡ Some (name, rows) → Behind m command name rows
behind m command name rows k e =
    let both : (k.name, rows_of k.found) ≡ (name, rows) = some_is (sym k.is_met ∙ e) in
    record {
      is_command = k;
      name_is = ap (λ (q : Text × List Row). q.0) both;
      rows_are = ap (λ (q : Text × List Row). q.1) both;
    }

value_is : (found : Found) (id : Text) (rows : List Row) (value : Option Text) → rows_of found ≡ rows → first_of id rows ≡ value
    → first_value found id ≡ value
value_is found id rows value e is = first_value-rows found id ∙ ap (first_of id) e ∙ is

flag_is : (found : Found) (id : Text) (rows : List Row) (value : Option Text) → rows_of found ≡ rows → one_of id rows ≡ value
    → one_text found id ≡ value
flag_is found id rows value e is = one_text-rows found id ∙ ap (one_of id) e ∙ is

abbrev byte : Text → ℕ
byte [] = 0
byte (b ∷ more) = b

first_byte : {a b : Text} → Some a ≡ Some b → byte a ≡ byte b
first_byte e = ap byte (some_is e)

made_of : (found : Found) (rows : List Row) (at : Option Text) (tree script : Text) (command : Command) → HasInputsOf found command
    → rows_of found ≡ rows → first_of (codes "tree") rows ≡ Some tree → first_of (codes "script") rows ≡ Some script
    → first_of (codes "at") rows ≡ at → first_of (codes "rules") rows ≡ Some (codes "profile") → first_of (codes "table") rows ≡ None
    → IsMadeOf tree script at command
made_of found rows at tree script command inputs e is_tree is_script is_at is_rules is_table = (
  some_is (inputs.tree ∙ value_is found _ rows _ e is_tree),
  some_is (inputs.script ∙ value_is found _ rows _ e is_script),
  ap at_read (sym (value_is found _ rows _ e is_at)) ∙ inputs.at,
  inputs.rules ∙ ap rules_named (value_is found _ rows _ e is_rules),
  no_value _ command.table (inputs.table ∙ value_is found _ rows _ e is_table),
)

-- of words that meet a command it has their inputs, and what was found behind its name
pub record Found_by (m : ArgMatches) (command : Command) (name : Text) (at : Option Text) (tree script : Text) (Has : List Row → Type 0) :
    Type 0 where
  pub is_command : IsCommandOf m command
  pub name_is : is_command.name ≡ name
  pub is_made : IsMadeOf tree script at command
  pub rows : List Row
  pub rows_are : rows_of is_command.found ≡ rows
  pub has : Has rows

found_by : (p : Parsers) (m : ArgMatches) (command : Command) (words form : List Text) (name : Text) (at : Option Text)
    (tree script : Text) (Has : List Row → Type 0) → subcommand_rows_of m ≡ subcommand_of (pua_app p) words → IsCommandOf m command
    → words ≡ form → Meets p form name at tree script Has → Found_by m command name at tree script Has
found_by p m command words form name at tree script Has met k is meets =
    let b = behind m command name meets.rows k (met ∙ ap (subcommand_of (pua_app p)) is ∙ meets.is_met) in
    record {
      is_command = b.is_command;
      name_is = b.name_is;
      is_made = made_of b.is_command.found meets.rows at tree script command b.is_command.inputs b.rows_are meets.tree_is meets.script_is meets.at_is meets.rules_is meets.table_is;
      rows = meets.rows;
      rows_are = b.rows_are;
      has = meets.has;
    }

all_are : (found : Found) (id : Text) (rows : List Row) (values : List Text) → rows_of found ≡ rows
    → unwrap_or (all_of id rows) [] ≡ values → values_found found id ≡ values
all_are found id rows values e is =
    ap (λ (o : Option (List Text)). unwrap_or o []) (raw_values-rows found id ∙ ap (all_of id) e) ∙ is

one_asked : (text : Option Text) (process : ℕ) → text ≡ Some (codes "1") → IsNumberText text process → process ≡ 1
one_asked text process is read =
    let n : IsNumberText (Some (codes "1")) process = subst (λ (t : Option Text). IsNumberText t process) is read in sym n.1

limit_asked : (text : Option Text) (limit : ℕ) (word : Text) → text ≡ Some word → IsLimitText text limit
    → digits_value 10 (without_leading_plus word) ≡ limit
limit_asked text limit word is read = subst (λ (t : Option Text). IsLimitText t limit) is read

root_is : (base : Base) → (base ≡ Cwd → Some (codes "root") ≡ Some (codes "cwd")) → base ≡ Root
root_is Root h = refl
root_is Cwd h = absurd (let bad : 114 ≡ 99 = first_byte (h refl) in omega arith)

fields_are : (text : Option Text) (found arguments fields : List Text) (call : Text) → text ≡ Some call → found ≡ arguments
    → AreFieldsOf text found fields → fields ≡ call ∷ arguments
fields_are text found arguments fields call is_call is_more read =
    let n : AreFieldsOf (Some call) found fields = subst (λ (t : Option Text). AreFieldsOf t found fields) is_call read in
    n ∙ ap (λ (more : List Text). call ∷ more) is_more

is_one : IsNumberText (Some (codes "1")) 1
is_one = search rules

-- a list with these options, of the processes that a word has, with the help of those that another has
list_read : {m : ArgMatches} {command : Command} (ever how why images : Bool) (below help : Option Text) (process : Text)
    (k : IsCommandOf m command) → k.name ≡ codes "objects" → (rows : List Row) → rows_of k.found ≡ rows
    → HasFlags ever how why images below help process rows → IsListRead ever how why images below help (Some process) command.text
list_read {command = command} ever how why images below help process k name rows are has =
    subst (λ (t : Option Text). IsListRead ever how why images below help t command.text) (value_is k.found _ rows _ are has.6)
    (subst (λ (t : Option Text). IsListRead ever how why images below t (first_value k.found (codes "process")) command.text)
    (value_is k.found _ rows _ are has.5)
    (subst (λ (t : Option Text). IsListRead ever how why images t (first_value k.found (codes "beside"))
    (first_value k.found (codes "process")) command.text)
    (value_is k.found _ rows _ are has.4)
    (k.text.objects name ever how why images (flag_is k.found _ rows _ are has.0) (flag_is k.found _ rows _ are has.1)
    (flag_is k.found _ rows _ are has.2) (flag_is k.found _ rows _ are has.3))))

-- of a list of all lines no path is asked for
none_below : (ever how why images : Bool) (help given : Option Text) (text : Asked) → IsListOf ever how why images None help given text
    → below_of (Some text) ≡ None
none_below ever how why images help given (asked.List words) h = no_value _ words.below h.5
none_below ever how why images help given asked.Run h = refl
none_below ever how why images help given asked.RunWhy h = refl
none_below ever how why images help given (asked.Why words) h = refl
none_below ever how why images help given (asked.Audit words) h = refl
none_below ever how why images help given asked.Tree h = refl
none_below ever how why images help given asked.Tight h = refl
none_below ever how why images help given asked.TightWhy h = refl
none_below ever how why images help given (asked.How words) h = refl

pub meant : (p : Parsers) (m : ArgMatches) (command : Command) (words : List Text)
    → subcommand_rows_of m ≡ subcommand_of (pua_app p) words → IsCommandOf m command → Meanings words command
meant p m command words met k = record {
  run = λ why at tree script is is_at is_tree is_script.
      let f = found_by p m command words _ _ at tree script _ met k is (run_meets p why at tree script is_at is_tree is_script) in
      (f.is_made, f.is_command.text.run f.name_is why (flag_is f.is_command.found _ f.rows _ f.rows_are f.has));
  tree = λ at tree script is is_at is_tree is_script.
      let f = found_by p m command words _ _ at tree script _ met k is (tree_meets p at tree script is_at is_tree is_script) in
      (f.is_made, f.is_command.text.tree f.name_is);
  tight = λ why tree script is is_tree is_script.
      let f = found_by p m command words _ _ None tree script _ met k is (tight_meets p why tree script is_tree is_script) in
      (f.is_made, f.is_command.text.tight f.name_is why (flag_is f.is_command.found _ f.rows _ f.rows_are f.has));
  objects = λ ever how why at tree script is is_at is_tree is_script.
      let f =
      found_by p m command words _ _ at tree script _ met k is (objects_meets p ever how why at tree script is_at is_tree is_script) in
      let read = list_read ever how why false None None (codes "1") f.is_command f.name_is f.rows f.rows_are f.has in (
        f.is_made,
        read.1 refl (One 1) is_one
            ∙ ap (λ (below : Option (Bor Text)). list_meant ever how why false below None (One 1))
            (none_below ever how why false None (Some (codes "1")) command.text read.0),
      );
  of_process = λ ever how why process at tree script is is_process is_at is_tree is_script.
      let f =
      found_by p m command words _ _ at tree script _ met k is (process_meets p ever how why process at tree script is_process is_at is_tree is_script) in
      (f.is_made, list_read ever how why false None None process f.is_command f.name_is f.rows f.rows_are f.has);
  images = λ process at tree script is is_process is_at is_tree is_script.
      let f =
      found_by p m command words _ _ at tree script _ met k is (images_meet p process at tree script is_process is_at is_tree is_script) in
      (f.is_made, list_read false false false true None None process f.is_command f.name_is f.rows f.rows_are f.has);
  beside = λ process help at tree script is is_process is_help is_at is_tree is_script.
      let f =
      found_by p m command words _ _ at tree script _ met k is (beside_meet p process help at tree script is_process is_help is_at is_tree is_script) in
      (f.is_made, list_read true false false false None (Some help) process f.is_command f.name_is f.rows f.rows_are f.has);
  below = λ process path at tree script is is_process is_path is_at is_tree is_script.
      let f =
      found_by p m command words _ _ at tree script _ met k is (below_meets p process path at tree script is_process is_path is_at is_tree is_script) in
      (f.is_made, list_read true true false false (Some path) None process f.is_command f.name_is f.rows f.rows_are f.has);
  how = λ at tree script call path is is_at is_tree is_script is_call is_path.
      let f =
      found_by p m command words _ _ at tree script _ met k is (how_meets p at tree script call path is_at is_tree is_script is_call is_path) in
      let h = f.is_command.text.how f.name_is in (
        f.is_made,
        (
          h.0,
          h.1,
          one_asked _ h.0.process (value_is f.is_command.found _ f.rows _ f.rows_are f.has.0) h.2.0,
          some_is (h.2.1 ∙ value_is f.is_command.found _ f.rows _ f.rows_are f.has.1),
          some_is (h.2.2 ∙ value_is f.is_command.found _ f.rows _ f.rows_are f.has.2),
          no_value _ h.0.kind (h.2.3 ∙ value_is f.is_command.found _ f.rows _ f.rows_are f.has.3),
        ),
      );
  why = λ at tree script call arguments is is_at is_tree is_script is_call is_more.
      let f =
      found_by p m command words _ _ at tree script _ met k is (why_meets p at tree script call arguments is_at is_tree is_script is_call is_more) in
      let h = f.is_command.text.why f.name_is in (
        f.is_made,
        (
          h.0,
          h.1,
          one_asked _ h.0.process (value_is f.is_command.found _ f.rows _ f.rows_are f.has.0) h.2.0,
          fields_are _ _ _ _ _ (value_is f.is_command.found _ f.rows _ f.rows_are f.has.1)
              (all_are f.is_command.found _ f.rows _ f.rows_are f.has.2) h.2.1,
        ),
      );
  audit = λ limit at tree script names is is_limit is_at is_tree is_script is_more.
      let f =
      found_by p m command words _ _ at tree script _ met k is (audit_meets p limit at tree script names is_limit is_at is_tree is_script is_more) in
      let h = f.is_command.text.audit f.name_is in (
        f.is_made,
        (
          h.0,
          h.1,
          one_asked _ h.0.process (value_is f.is_command.found _ f.rows _ f.rows_are f.has.0) h.2.0,
          limit_asked _ h.0.limit limit (flag_is f.is_command.found _ f.rows _ f.rows_are f.has.1) h.2.1,
          root_is h.0.base (λ base. sym (value_is f.is_command.found _ f.rows _ f.rows_are f.has.2) ∙ h.2.2.0 base),
          no_value _ h.0.after (h.2.3 ∙ value_is f.is_command.found _ f.rows _ f.rows_are f.has.3),
          h.2.4 ∙ all_are f.is_command.found _ f.rows _ f.rows_are f.has.4,
        ),
      );
}

-- of a parse over the program's commands
pub all_meant : {E : Type 0} (p : Parsers) (app : App) (m : ArgMatches) (o : Option Command) (words : List Text) (e : E)
    → app ≡ pua_app p → HasMatchesOf app words m → IfSome o (IsCommandOf m) → IfOk (ok_or o e) (IsMeantBy words)
all_meant p app m None words e is matches k = tt
all_meant p app m (Some command) words e is matches k =
    means (meant p m command words ((matches (ap is_simple is ∙ pua_is_simple p)).1 ∙ ap (λ (a : App). subcommand_of a words) is) k)
