-- The table by which lists for ever go. Where promises open paths by themselves, `tmppath` opens calls that change names; a row can't say
-- for which paths a set counts, so in this table the promise is one more set of these calls, whatever their path.
use Rattle.std.specs.Prelude.{ℕ, Bool, true, false, ◌&&◌, List, [], ◌∷◌, ◌++◌, if◌then◌else◌, map}
use Rattle.std.specs.List.{list_any}
use Rattle.pua_calls.specs.Promises.{holds, tmppath}
use Rattle.pua_calls.specs.Calls.{Rule, CallTable, about_rules, calls, rule_of}
use Rattle.pua_calls.specs.declared.call.Call.{Call}
use Rattle.pua_calls.specs.declared.call.Call.TheVariants.{Create, Unlink, CreateBoth}

-- the calls that it opens
abbrev pub is_tmp_call : Call → Bool
is_tmp_call Create = true
is_tmp_call Unlink = true
is_tmp_call CreateBoth = true
is_tmp_call _ = false

-- who holds it alone holds one of these sets
abbrev pub tmppath_suffices : List ℕ → Bool
tmppath_suffices sets = list_any (holds tmppath) sets

abbrev pub with_tmppath : List ℕ → List ℕ
with_tmppath sets = if tmppath_suffices sets then sets else sets ++ tmppath ∷ []

abbrev pub rule_with_tmppath : Rule → Rule
rule_with_tmppath rule = record rule { alternatives = with_tmppath rule.alternatives }

-- what a call needs by it
abbrev pub tmp_rule : CallTable → Call → Rule
tmp_rule table call = record (rule_of table call) {
  alternatives = if is_tmp_call call && (about_rules table.whose).has_openings then with_tmppath (rule_of table call).alternatives
      else (rule_of table call).alternatives;
}

abbrev pub tmp_table : CallTable → CallTable
tmp_table table = record table { rules = map (tmp_rule table) calls }
