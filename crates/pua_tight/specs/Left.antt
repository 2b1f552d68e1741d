-- What the code goes by that leaves words out.
use Rattle.std.specs.Prelude.{◌≡◌, ℕ, zero, suc, Bool, true, if◌then◌else◌, List, [], ◌∷◌, Option, Some, None, Result, Ok, Err, option_map}
use Rattle.pua_path.specs.declared.errno.Errno.{Errno}
use Rattle.pua_calls.specs.Promises.{holds, lacking}
use Rattle.pua_calls.specs.Calls.{CallTable}
use Rattle.pua_calls.specs.declared.rules.Rules.{Rules}
use Rattle.pua_tree.specs.Tree.{Tree}
use Rattle.pua_tree.specs.Listing.{listing}
use Rattle.pua_tree.specs.Steps.{◌>>=◌}
use Rattle.pua_script.specs.Requests.{Asked}
use Rattle.pua_script.specs.Regiven.{with_lists, with_perms}
use Rattle.pua_script.specs.Scripts.{script_by}
use Rattle.pua_script.specs.Family.{is_okay}
use Rattle.pua_script.specs.Replay.{answers_to, new_world}
use Rattle.pua_script.specs.declared.answer.Answer.{Answer}
use Rattle.pua_script.specs.declared.request.Action.{Action}
use Rattle.pua_script.specs.declared.request.Action.TheVariants.{Pledge, Unveil}
use Rattle.pua_tight.specs.declared.arguments.Arguments.{Arguments}
use Rattle.pua_tight.specs.declared.arguments.Arguments.TheVariants.{Lists, Letters, Others}
use Rattle.pua_tight.specs.declared.fault.TightFault.{TightFault}
use Rattle.pua_tight.specs.Tight.{Piece, InPromises, InExecpromises, InVeil, Line, given_without, pieces_of}
use Rattle.pua_tight.specs.Texts.{ended_text, fields_text, as_listing, as_script}

-- whether a word that was read as a list of its own stays in a list
abbrev pub stays_as_read : ℕ → Result ℕ Errno → Bool
stays_as_read set (Ok bits) = holds set bits
stays_as_read set (Err errno) = true

-- the fields of an unveil, whatever its path
abbrev pub veil_fields : Option ℕ → List (List ℕ) → List (List ℕ)
veil_fields perms parts = fields_text (Unveil [] perms) parts

-- the line at an index, thinned as its request has it
abbrev pub nth_text : Rules → List Asked → ℕ → List ℕ → List ℕ
nth_text rules [] n line = line
nth_text rules (ask ∷ asks) zero line = ended_text rules ask.action line
nth_text rules (ask ∷ asks) (suc n) line = nth_text rules asks n line

-- the arguments of a request, these without a piece, and a request that is given others
abbrev pub arguments_of : Action → Arguments
arguments_of (Pledge promises execpromises) = Lists promises execpromises
arguments_of (Unveil path perms) = Letters perms
arguments_of action = Others

abbrev pub arguments_left : Piece → Arguments → Arguments
arguments_left (InPromises bit) (Lists promises execpromises) = Lists (given_without bit promises) execpromises
arguments_left (InExecpromises bit) (Lists promises execpromises) = Lists promises (given_without bit execpromises)
arguments_left (InVeil bit) (Letters perms) = Letters (option_map (lacking bit) perms)
arguments_left piece arguments = arguments

abbrev pub with_arguments : Arguments → Asked → Asked
with_arguments (Lists promises execpromises) ask = with_lists promises execpromises ask
with_arguments (Letters perms) ask = with_perms perms ask
with_arguments Others ask = ask

-- the line at an index with other arguments
abbrev pub put_back_at : ℕ → Arguments → List Asked → List Asked
put_back_at index arguments [] = []
put_back_at zero arguments (ask ∷ asks) = with_arguments arguments ask ∷ asks
put_back_at (suc index) arguments (ask ∷ asks) = ask ∷ put_back_at index arguments asks

-- what may be left out of a line by its answer, if there is one
abbrev pub pieces_by : ℕ → Asked → Option Answer → List Piece
pieces_by asked ask None = []
pieces_by asked ask (Some answer) = if is_okay answer then pieces_of asked ask.action else []

abbrev pub lines_by : ℕ → List Asked → List Answer → List Line
lines_by asked [] answers = []
lines_by asked (ask ∷ asks) [] = record { ask = ask; pieces = pieces_by asked ask None } ∷ lines_by asked asks []
lines_by asked (ask ∷ asks) (answer ∷ answers) = record { ask = ask; pieces = pieces_by asked ask (Some answer) } ∷ lines_by asked asks answers

-- a listing and a script were read, and the script was answered over the tree
pub record IsGiven (rules : Rules) (table : CallTable) (tree_bytes script_bytes : List ℕ) (tree : Tree) (answers : List Answer)
    (asks : List Asked) : Type 0 where
  pub listed : listing tree_bytes ≡ Ok tree
  pub read : script_by rules script_bytes ≡ Ok asks
  pub told : answers ≡ answers_to table (new_world tree) asks

-- the fault of a listing, or else of a script
abbrev pub IsFaultOf : Rules → List ℕ → List ℕ → TightFault → Type 0
IsFaultOf rules tree_bytes script_bytes fault = (as_listing (listing tree_bytes) >>= λ t. as_script (script_by rules script_bytes)) ≡ Err fault
