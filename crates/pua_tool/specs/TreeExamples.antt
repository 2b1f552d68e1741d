-- Worked listings of the trees that scripts leave.
use Rattle.std.specs.Prelude.{◌≡◌, List, ℕ, [], ◌∷◌, None, Ok, Err, codes, refl}
use Rattle.std.specs.Fmt.{digits}
use Rattle.pua_calls.specs.declared.rules.Rules.TheVariants.{Openbsd}
use Rattle.pua_listing.specs.declared.fault.ListFault.TheVariants as unlisted
use Rattle.pua_tree.specs.declared.fault.ListingFault.TheVariants.{BadLine}
use Rattle.pua_script.specs.declared.fault.ScriptFault.TheVariants.{BadCall}
use Rattle.pua_tree.specs.Examples.{text_of_lines}
use Rattle.pua_tool.specs.Texts.{by_standard, replay_of}
use Rattle.pua_tool.specs.TreeTexts.{as_listed, tree_text}
use Rattle.pua_tool.specs.FaultTexts.{fault_line}
use Rattle.pua_tool.specs.declared.fault.ToolFault.TheVariants.{Listing, Script, TooManyNames}

abbrev pub listed_before : List ℕ
listed_before = text_of_lines (codes "tree 1" ∷ codes "0 dir" ∷ codes "4 file 0 b" ∷ codes "7 dir 0 a" ∷ [])

abbrev pub tying : List ℕ
tying = text_of_lines (codes "1 link /b /a/c" ∷ [])

abbrev pub binding : List ℕ
binding = text_of_lines (codes "1 bind /s" ∷ [])

pub record TreeTextRows : Type 0 where
  pub as_it_was : tree_text by_standard listed_before [] ≡ Ok (text_of_lines (codes "tree 1" ∷ codes "0 dir" ∷ codes "1 dir 0 a"
      ∷ codes "2 file 0 b" ∷ []))
  pub two_names : tree_text by_standard listed_before tying ≡ Ok (text_of_lines (codes "tree 2" ∷ codes "0 dir" ∷ codes "1 dir 0 a"
      ∷ codes "2 file 1 c" ∷ codes "3 hard 0 b 2" ∷ []))
  pub bad_listing : tree_text by_standard (codes "tree 1") tying ≡ Err (Listing (BadLine 2))
  pub by_openbsd : tree_text (record { rules = Openbsd; rows = None }) (text_of_lines (codes "tree 1" ∷ codes "0 dir" ∷ [])) binding
      ≡ Ok (text_of_lines (codes "tree 3" ∷ codes "0 dir" ∷ codes "1 sock 0 s" ∷ []))
  pub not_by_standard : tree_text by_standard listed_before binding ≡ Err (Script (BadCall 1))
  pub too_many : as_listed (Err unlisted.TooManyNames) ≡ Err TooManyNames
  pub told : fault_line TooManyNames ≡ text_of_lines (codes "pua: tree: too many names" ∷ [])

pub tree_text_rows : TreeTextRows
unfolding digits replay_of
tree_text_rows = record {
  as_it_was = refl;
  two_names = refl;
  bad_listing = refl;
  by_openbsd = refl;
  not_by_standard = refl;
  too_many = refl;
  told = refl;
}
