-- A script without the keywords and letters that none of its answers needs: of each line what may be left out is tried, piece
-- after piece, from the last line to the first, and is left out where every line is then answered as before.
use Rattle.std.specs.Prelude.{ℕ, ◌==◌, Bool, true, false, ◌&&◌, if◌then◌else◌, List, [], ◌∷◌, ◌++◌, map, filter, flat_map, bit_and, bit_or}
use Rattle.std.specs.Prelude.{Some, option_map}
use Rattle.pua_path.specs.declared.errno.Errno.{Errno}
use Rattle.pua_path.specs.declared.errno.Errno.TheVariants.{EPERM, ENOENT, E2BIG, EACCES, EAGAIN, EBUSY, EEXIST, ENOTDIR, EISDIR, EINVAL}
use Rattle.pua_path.specs.declared.errno.Errno.TheVariants.{ENOSPC, ELOOP, ENAMETOOLONG, ENOTEMPTY, ENOSYS, EOPNOTSUPP, ENOTSOCK, EADDRINUSE, EBADF, EXDEV}
use Rattle.pua_calls.specs.Promises.{lacking, holds, id, keyword_rows, error, proc, recvfd, sendfd, unveil}
use Rattle.pua_calls.specs.Calls.{CallTable, rule_of, calls}
use Rattle.pua_script.specs.Requests.{Asked}
use Rattle.pua_script.specs.Family.{is_okay}
use Rattle.pua_script.specs.Replay.{World, apply, answers_to}
use Rattle.pua_script.specs.declared.answer.Answer.{Answer}
use Rattle.pua_script.specs.declared.answer.Answer.TheVariants.{Okay, Failed, Killed, Gone}
use Rattle.pua_script.specs.declared.request.Given.{Given}
use Rattle.pua_script.specs.declared.request.Given.TheVariants.{Good}
use Rattle.pua_script.specs.declared.request.Action.{Action}
use Rattle.pua_script.specs.declared.request.Action.TheVariants.{Pledge, Unveil, Uses, Take, Chroot}
pub use Rattle.pua_tight.specs.declared.piece.Piece.{Piece}
pub use Rattle.pua_tight.specs.declared.piece.Piece.TheVariants.{InPromises, InExecpromises, InVeil}

-- the argument without it; an unknown one, or NULL, has none
abbrev pub given_without : ℕ → Given → Given
given_without bit (Good set) = Good (lacking bit set)
given_without bit given = given

abbrev pub action_without : Piece → Action → Action
action_without (InPromises bit) (Pledge promises execpromises) = Pledge (given_without bit promises) execpromises
action_without (InExecpromises bit) (Pledge promises execpromises) = Pledge promises (given_without bit execpromises)
action_without (InVeil bit) (Unveil path perms) = Unveil path (option_map (lacking bit) perms)
action_without piece action = action

abbrev pub without : Piece → Asked → Asked
without piece ask = record { process = ask.process; action = action_without piece ask.action }

-- a line of the script, and what may be left out of it, in the order of its text: nothing, unless it is answered ok
pub record Line : Type 0 where
  pub ask : Asked
  pub pieces : List Piece

abbrev pub asks_of : List Line → List Asked
asks_of lines = map (λ line. line.ask) lines

-- whether answers are the same, line by line
abbrev pub errno_number : Errno → ℕ
errno_number EPERM = 0
errno_number ENOENT = 1
errno_number E2BIG = 2
errno_number EACCES = 3
errno_number EAGAIN = 4
errno_number EBUSY = 5
errno_number EEXIST = 6
errno_number ENOTDIR = 7
errno_number EISDIR = 8
errno_number EINVAL = 9
errno_number ENOSPC = 10
errno_number ELOOP = 11
errno_number ENAMETOOLONG = 12
errno_number ENOTEMPTY = 13
errno_number ENOSYS = 14
errno_number ENOTSOCK = 15
errno_number EADDRINUSE = 16
errno_number EBADF = 17
errno_number EOPNOTSUPP = 18
errno_number EXDEV = 19

abbrev pub answer_number : Answer → ℕ
answer_number Okay = 20
answer_number Killed = 21
answer_number Gone = 22
answer_number (Failed errno) = errno_number errno

abbrev pub same_answers : List Answer → List Answer → Bool
same_answers [] [] = true
same_answers (a ∷ more) (b ∷ rest) = answer_number a == answer_number b && same_answers more rest
same_answers [] (b ∷ rest) = false
same_answers (a ∷ more) [] = false

-- the line as it is, or without a piece, whichever is wanted
abbrev pub try_piece : CallTable → World → List Answer → List Asked → List Asked → Asked → Asked → Asked
try_piece table w want before after ask less =
    if same_answers (answers_to table w (before ++ less ∷ after)) want then less else ask

-- a line between those before it, which are as they were, and those after it, which are thinned: piece after piece
abbrev pub thin_line : CallTable → World → List Answer → List Asked → List Asked → Asked → List Piece → Asked
thin_line table w want before after ask [] = ask
thin_line table w want before after ask (piece ∷ pieces) =
    thin_line table w want before after (try_piece table w want before after ask (without piece ask)) pieces

-- from the last line to the first
abbrev pub thin : CallTable → World → List Answer → List Asked → List Line → List Asked
thin table w want before [] = []
thin table w want before (line ∷ lines) =
    let after : List Asked = thin table w want (before ++ line.ask ∷ []) lines in
    thin_line table w want before after line.ask line.pieces ∷ after

-- the script of these lines, tightened
abbrev pub tight : CallTable → World → List Line → List Asked
tight table w lines = thin table w (answers_to table w (asks_of lines)) [] lines

-- the promises of sets
abbrev pub union : List ℕ → ℕ
union [] = 0
union (set ∷ sets) = bit_or set (union sets)

abbrev pub all_asked : CallTable → ℕ
all_asked table = union (proc ∷ unveil ∷ table.rename.old.needs.alternatives ++ table.rename.new.needs.alternatives
    ++ table.link.old.needs.alternatives ++ table.link.new.needs.alternatives ++ flat_map (λ call. (rule_of table call).alternatives) calls)

-- the sets of which a request asks for one that is no call on a path; what is taken, the other process has to send
abbrev pub used_by : Action → List ℕ
used_by (Uses sets) = sets
used_by (Take number from theirs) = recvfd ∷ sendfd ∷ []
used_by (Chroot path) = id ∷ []
used_by action = []

abbrev pub all_used : List Asked → ℕ
all_used asks = union (flat_map (λ ask. used_by ask.action) asks)

-- the promises that some call asks for, or some request that is no call on a path, but `error`
abbrev pub asked_in : CallTable → List Asked → ℕ
asked_in table asks = lacking error (bit_or (all_asked table) (all_used asks))

abbrev pub bits_in : ℕ → Given → List ℕ
bits_in asked (Good set) = filter (holds (bit_and set asked)) (map (λ row. row.1) keyword_rows)
bits_in asked given = []

-- what may be left out of a request that is answered ok, in the order of keywords and letters
abbrev pub pieces_of : ℕ → Action → List Piece
pieces_of asked (Pledge promises execpromises) = map InPromises (bits_in asked promises) ++ map InExecpromises (bits_in asked execpromises)
pieces_of asked (Unveil path (Some perms)) = map InVeil (filter (holds perms) (1 ∷ 2 ∷ 4 ∷ 8 ∷ []))
pieces_of asked action = []

-- the lines of requests, where these promises are asked for
abbrev pub lines_asked : ℕ → CallTable → World → List Asked → List Line
lines_asked asked table w [] = []
lines_asked asked table w (ask ∷ more) =
    record { ask = ask; pieces = if is_okay (apply table w ask).0 then pieces_of asked ask.action else [] }
    ∷ lines_asked asked table (apply table w ask).1 more

abbrev pub lines_of : CallTable → World → List Asked → List Line
lines_of table w asks = lines_asked (asked_in table asks) table w asks
