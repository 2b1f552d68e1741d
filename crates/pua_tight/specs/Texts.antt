-- The bytes of a tightened script: those of the given one, but for the words of lists that were left out. A line keeps its end,
-- and an argument of which nothing is left is spelled `=`.
use Rattle.std.specs.Prelude.{ℕ, ◌==◌, Bool, true, List, [], ◌∷◌, ◌++◌, filter, length, drop, codes, Option, Some, None, Result, Ok, Err}
use Rattle.std.specs.List.{slice_split, join_with_byte}
use Rattle.std.specs.Str.Lines.{strip_carriage_return}
use Rattle.pua_tree.specs.Tree.{Tree}
use Rattle.pua_tree.specs.Spelling.{fields}
use Rattle.pua_tree.specs.Steps.{◌>>=◌}
use Rattle.pua_calls.specs.Promises.{holds, promise_of, letter_of}
use Rattle.pua_calls.specs.Calls.{CallTable}
use Rattle.pua_calls.specs.declared.rules.Rules.{Rules}
use Rattle.pua_script.specs.Requests.{Asked}
use Rattle.pua_script.specs.Scripts.{script_by, text_in}
use Rattle.pua_script.specs.Replay.{new_world}
use Rattle.pua_script.specs.declared.request.Given.{Given}
use Rattle.pua_script.specs.declared.request.Given.TheVariants.{Good}
use Rattle.pua_script.specs.declared.request.Action.{Action}
use Rattle.pua_script.specs.declared.request.Action.TheVariants.{Pledge, Unveil}
use Rattle.pua_script.specs.declared.fault.ScriptFault.{ScriptFault}
use Rattle.pua_tree.specs.declared.fault.ListingFault.{ListingFault}
use Rattle.pua_tree.specs.Listing.{listing}
use Rattle.pua_tight.specs.declared.fault.TightFault.{TightFault}
use Rattle.pua_tight.specs.declared.fault.TightFault.TheVariants.{Listing, Script}
use Rattle.pua_tight.specs.Tight.{tight, lines_of}

-- a word stays unless it names a member that the set lacks
abbrev pub stays_in : ℕ → Option ℕ → Bool
stays_in set None = true
stays_in set (Some bit) = holds set bit

-- no text at all is spelled `=`
abbrev pub or_equals : List ℕ → List ℕ
or_equals [] = codes "="
or_equals (b ∷ more) = b ∷ more

-- an argument of pledge with the keywords of a set alone
abbrev pub given_text : Given → List ℕ → List ℕ
given_text (Good set) field = or_equals (join_with_byte 44 (filter (λ word. stays_in set (promise_of word)) (slice_split (λ b. b == 44) field)))
given_text given field = field

-- letters of a set alone
abbrev pub perms_text : Option ℕ → List ℕ → List ℕ
perms_text (Some set) field = or_equals (filter (λ b. stays_in set (letter_of b)) field)
perms_text None field = field

-- the fields of a line whose request is given with fewer keywords or letters
abbrev pub fields_text : Action → List (List ℕ) → List (List ℕ)
fields_text (Pledge p e) (process ∷ word ∷ a ∷ b ∷ []) = process ∷ word ∷ given_text p a ∷ given_text e b ∷ []
fields_text (Unveil path perms) (process ∷ word ∷ a ∷ b ∷ []) = process ∷ word ∷ a ∷ perms_text perms b ∷ []
fields_text action parts = parts

abbrev pub line_text : Action → List ℕ → List ℕ
line_text action text = join_with_byte 32 (fields_text action (fields text))

-- what a line says, which may end in a carriage return
abbrev pub said_in : Rules → List ℕ → List ℕ
said_in rules line = text_in rules (strip_carriage_return line)

-- a line that is read by rules; a comment stays, and a carriage return at the end
abbrev pub ended_text : Rules → Action → List ℕ → List ℕ
ended_text rules action line = line_text action (said_in rules line) ++ drop (length (said_in rules line)) line

-- the lines of requests, each thinned; what stands behind them stays
abbrev pub lines_text : Rules → List Asked → List (List ℕ) → List (List ℕ)
lines_text rules (ask ∷ asks) (line ∷ lines) = ended_text rules ask.action line ∷ lines_text rules asks lines
lines_text rules asks lines = lines

-- the bytes of a script whose requests are given with fewer keywords and letters
abbrev pub thinned_text : Rules → List Asked → List ℕ → List ℕ
thinned_text rules asks bytes = join_with_byte 10 (lines_text rules asks (slice_split (λ b. b == 10) bytes))

-- the requests of a script over a tree, tightened by a table
abbrev pub tightened : CallTable → Tree → List Asked → List Asked
tightened table t asks = tight table (new_world t) (lines_of table (new_world t) asks)

-- the bytes of a script that is read by rules, over a tree, tightened by a table; or the script's fault
abbrev pub tight_text : Rules → CallTable → Tree → List ℕ → Result (List ℕ) ScriptFault
tight_text rules table t bytes = script_by rules bytes >>= λ asks. Ok (thinned_text rules (tightened table t asks) bytes)

abbrev pub as_listing : Result Tree ListingFault → Result Tree TightFault
as_listing (Ok t) = Ok t
as_listing (Err fault) = Err (Listing fault)

abbrev pub as_script : {A : Type 0} → Result A ScriptFault → Result A TightFault
as_script (Ok x) = Ok x
as_script (Err fault) = Err (Script fault)

-- the bytes over the tree of a listing, or the first fault: the listing's, or the script's
abbrev pub text_over : Rules → CallTable → List ℕ → List ℕ → Result (List ℕ) TightFault
text_over rules table tree_bytes script_bytes = as_listing (listing tree_bytes) >>= λ t. as_script (tight_text rules table t script_bytes)
