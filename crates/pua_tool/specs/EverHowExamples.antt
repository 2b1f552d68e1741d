-- Worked columns of lists for ever.
use Rattle.std.specs.Prelude.{◌≡◌, ℕ, List, [], ◌∷◌, None, Some, Ok, Err, codes, refl}
use Rattle.std.specs.Fmt.{digits}
use Rattle.pua_calls.specs.Calls.{openbsd_table}
use Rattle.pua_calls.specs.declared.call.Call.{Call}
use Rattle.pua_calls.specs.declared.call.Call.TheVariants as call
use Rattle.pua_objects.specs.Objects.{Others}
use Rattle.pua_objects.specs.declared.kind.ObjectKind.{ObjectKind}
use Rattle.pua_objects.specs.declared.kind.ObjectKind.TheVariants as kind
use Rattle.pua_tree.specs.declared.node.Kind.TheVariants.{File}
use Rattle.pua_ever.specs.Ever.{EverLine, Stands, Comes, NewFile}
use Rattle.pua_tool.specs.declared.fault.ToolFault.TheVariants.{BelowPath, BelowThing}
use Rattle.pua_how.specs.Examples.{pid_now, pid_tree}
use Rattle.pua_how.specs.Steps.{nothing_laid}
use Rattle.pua_tool.specs.EverHowTexts.{below_asked, counts_text, lacking, lines_below}

-- which calls of a line the list of now lacks, where `/etc/conf` may be read, and `/run/pid` read, written and replaced
abbrev pub lacked : ObjectKind → EverLine → List Call
lacked kind line = lacking pid_tree openbsd_table pid_now kind line

abbrev pub line_at : List (List ℕ) → List Call → EverLine
line_at word calls = record { word = word; thing = Stands (Others 0); calls = calls }

-- a line at this path, and one of what is made
abbrev pub at : List (List ℕ) → EverLine
at word = line_at word []

abbrev pub made_line : EverLine
made_line = record { word = []; thing = Comes NewFile; calls = [] }

pub record EverHowRows : Type 0 where
  pub linked : lacked (kind.Node File) (line_at (codes "etc" ∷ codes "conf" ∷ []) (call.Stat ∷ call.OpenRead ∷ call.OpenWrite ∷ []))
      ≡ call.OpenWrite ∷ []
  pub now : lacked (kind.Node File) (line_at (codes "run" ∷ codes "pid" ∷ []) (call.Stat ∷ call.OpenWrite ∷ call.Unlink ∷ [])) ≡ []
  pub freed : lacked kind.Missing (line_at (codes "run" ∷ codes "pid" ∷ []) (call.Create ∷ [])) ≡ call.Create ∷ []
  pub made : lacked (kind.Node File) (record { word = []; thing = Comes NewFile; calls = call.Stat ∷ [] }) ≡ call.Stat ∷ []
  pub counted : counts_text 32 ((call.OpenWrite, Ok 2) ∷ (call.Chmod, Err nothing_laid) ∷ []) ≡ codes " open-w 2,chmod ?"
  pub none : counts_text 32 [] ≡ []
  pub at_path : lines_below (Some (codes "etc" ∷ [])) (at [] ∷ at (codes "etc" ∷ []) ∷ at (codes "run" ∷ []) ∷ []) ≡ at (codes "etc" ∷ []) ∷ []
  pub below_path : lines_below (Some (codes "etc" ∷ [])) (at (codes "etc" ∷ codes "conf" ∷ []) ∷ []) ≡ at (codes "etc" ∷ codes "conf" ∷ []) ∷ []
  pub begins_alike : lines_below (Some (codes "a" ∷ [])) (at (codes "ab" ∷ []) ∷ at (codes "ab" ∷ codes "a" ∷ []) ∷ []) ≡ []
  pub made_at_none : lines_below (Some []) (at [] ∷ made_line ∷ []) ≡ at [] ∷ []
  pub all_lines : lines_below None (at [] ∷ made_line ∷ []) ≡ at [] ∷ made_line ∷ []
  pub known_path : below_asked pid_tree pid_now (Some (codes "/etc/conf")) ≡ Ok (Some (codes "etc" ∷ codes "conf" ∷ []))
  pub unknown_path : below_asked pid_tree pid_now (Some (codes "/etc/none")) ≡ Err BelowThing
  pub no_path : below_asked pid_tree pid_now (Some (codes "etc")) ≡ Err BelowPath

pub ever_how_rows : EverHowRows
unfolding digits
ever_how_rows = record { linked = refl; now = refl; freed = refl; made = refl; counted = refl; none = refl; at_path = refl; below_path = refl; begins_alike = refl; made_at_none = refl; all_lines = refl; known_path = refl; unknown_path = refl; no_path = refl }
