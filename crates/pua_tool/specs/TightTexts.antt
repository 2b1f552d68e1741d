-- The text of a tightened script, and of what its words are needed by, and what refuses these.
use Rattle.std.specs.Prelude.{ℕ, suc, List, [], ◌++◌, flat_map, Option, Some, None, Result, Ok, Err, codes, decimal}
use Rattle.pua_tree.specs.Steps.{◌>>=◌}
use Rattle.pua_calls.specs.declared.rules.Rules.{Rules}
use Rattle.pua_calls.specs.declared.rules.Rules.TheVariants.{Standard, Openbsd}
use Rattle.pua_why.specs.Texts.{letters_text, promises_text}
use Rattle.pua_tight.specs.declared.piece.Piece.{Piece}
use Rattle.pua_tight.specs.declared.piece.Piece.TheVariants.{InPromises, InExecpromises, InVeil}
use Rattle.pua_tight.specs.declared.word_use.WordUse.{WordUse}
use Rattle.pua_tight.specs.Texts.{text_over}
use Rattle.pua_tight.specs.Uses.{uses_over}
use Rattle.pua_tight.specs.declared.fault.TightFault.{TightFault}
use Rattle.pua_tight.specs.declared.fault.TightFault.TheVariants as refused
use Rattle.pua_texts.specs.Lines.{with_end}
use Rattle.pua_tool.specs.Pathless.{pathless_of}
use Rattle.pua_tool.specs.Texts.{Chosen, table_by}
use Rattle.pua_tool.specs.declared.fault.ToolFault.{ToolFault}
use Rattle.pua_tool.specs.declared.fault.ToolFault.TheVariants.{Listing, Script, OutOfMemory}

abbrev pub tight_fault : TightFault → ToolFault
tight_fault (refused.Listing fault) = Listing fault
tight_fault (refused.Script fault) = Script fault
tight_fault refused.OutOfMemory = OutOfMemory

abbrev pub as_tight : {A : Type 0} → Result A TightFault → Result A ToolFault
as_tight (Ok x) = Ok x
as_tight (Err fault) = Err (tight_fault fault)

-- a script over a listing, tightened, or the first fault: the table's, the listing's, or the script's
unfoldable pub tight_text : Chosen → List ℕ → List ℕ → Result (List ℕ) ToolFault
tight_text choice tree_bytes script_bytes = table_by choice >>= λ table. as_tight (text_over choice.rules table tree_bytes script_bytes)

-- which argument has a word, and the word
abbrev pub word_text : Piece → List ℕ
word_text (InPromises bit) = codes "promises " ++ promises_text bit
word_text (InExecpromises bit) = codes "execpromises " ++ promises_text bit
word_text (InVeil bit) = codes "veil " ++ letters_text bit

-- what a script can say of a promise by a line `uses` alone, by OpenBSD's rules: the calls without a path that ask for it
abbrev pub calls_for : Rules → Piece → List ℕ
calls_for Standard word = []
calls_for Openbsd (InPromises bit) = pathless_of bit
calls_for Openbsd (InExecpromises bit) = pathless_of bit
calls_for Openbsd (InVeil bit) = []

-- lines are counted from 1
abbrev pub need_text : Rules → Piece → Option ℕ → List ℕ
need_text rules word None = codes "spare" ++ calls_for rules word
need_text rules word (Some index) = codes "needed by " ++ decimal (suc index)

abbrev pub use_text : Rules → WordUse → List ℕ
use_text rules used =
    decimal (suc used.line) ++ codes " " ++ word_text used.word ++ codes " " ++ need_text rules used.word used.needed_by

abbrev pub use_lines : Rules → List WordUse → List ℕ
use_lines rules words = flat_map (λ used. with_end (use_text rules used)) words

-- the words that may be left out of a script over a listing, or the first fault, which is the same
unfoldable pub words_by : Chosen → List ℕ → List ℕ → Result (List WordUse) ToolFault
words_by choice tree_bytes script_bytes = table_by choice >>= λ table. as_tight (uses_over choice.rules table tree_bytes script_bytes)

-- what each of them is needed by
abbrev pub tight_why_text : Chosen → List ℕ → List ℕ → Result (List ℕ) ToolFault
tight_why_text choice tree_bytes script_bytes = words_by choice tree_bytes script_bytes >>= λ words. Ok (use_lines choice.rules words)
