-- Trials in code are those of the definition.
use Rattle.std.proofs.Common.{◌≡◌, ℕ, zero, suc, List, [], ◌∷◌, ◌++◌, ◌+◌, ◌<◌, ◌≤◌, ◌∙◌, refl, sym, ap, length, map, take, drop, arith}
use Rattle.std.proofs.Common.{append_assoc, append-nil}
use Rattle.std.proofs.Common.{get_or, set}
use Rattle.std.proofs.lemmas.List.{map-append, take_all}
use Rattle.std.proofs.lemmas.Bool.{ltb-false, ltb-true}
use Rattle.std.proofs.lemmas.Option.{none-some, same_Some, slice_get_past, slice_get-get_or}
use Rattle.std.specs.Prelude.{Option, Some, None, Result, Ok, Err, slice_get, option_copied}
use Rattle.std.specs.Slice.{IsItemAt}
use Rattle.std.specs.Borrow.{Bor}
use Rattle.pua_tree.specs.Tree.{Tree}
use Rattle.pua_tree.specs.Listing.{listing}
use Rattle.pua_tree.specs.Steps.{◌>>=◌}
use Rattle.pua_tree.specs.declared.fault.ListingFault.{ListingFault}
use Rattle.pua_tree.proofs.ForCallers.{Err≢Ok}
use Rattle.pua_calls.specs.Calls.{CallTable}
use Rattle.pua_script.specs.Requests.{Asked}
use Rattle.pua_calls.specs.declared.rules.Rules.{Rules}
use Rattle.pua_script.specs.Scripts.{script_by}
use Rattle.pua_script.specs.Replay.{World, new_world, apply, answers_to}
use Rattle.pua_script.specs.declared.answer.Answer.{Answer}
use Rattle.pua_script.specs.declared.fault.ScriptFault.{ScriptFault}
use Rattle.pua_script.specs.declared.request.Action.{Action}
use Rattle.pua_script.specs.declared.request.Action.TheVariants.{OnPath, Symlink, Rename, Link, Pledge, Unveil, Lock, Fork, Exit, Uses, Comment}
use Rattle.pua_script.specs.declared.request.Action.TheVariants.{Hold, Close, Fchdir, Take, Chroot}
use Rattle.pua_tight.specs.declared.fault.TightFault.{TightFault}
use Rattle.pua_tight.specs.declared.arguments.Arguments.{Arguments}
use Rattle.pua_tight.specs.Tight.{Piece, InPromises, InExecpromises, InVeil, Line, without, asked_in, asks_of, lines_asked, lines_of}
use Rattle.pua_tight.specs.Laws.{leave_out}
use Rattle.pua_tight.specs.Left.{arguments_of, arguments_left, with_arguments, put_back_at, pieces_by, lines_by, IsGiven, IsFaultOf}
use Rattle.pua_tight.specs.Texts.{as_listing, as_script, text_over, thinned_text, tightened}
use Rattle.pua_tight.specs.Trials.{Trial, trials_from, all_tried}
use Rattle.pua_tight.specs.Uses.{WordUse, use_by, uses, uses_over, words_from}
use Rattle.pua_tight.proofs.PromisesTogether.{one_more}
use Rattle.pua_tight.proofs.OneByOne.{tried_one_by_one}
use Rattle.pua_tight.proofs.MayBeLeftOut.{scripts_are_tightened}
use Rattle.pua_tight.proofs.FirstOtherAnswer.{dropped, gone_by}
use Rattle.pua_tight.proofs.Tightened.{tightens}

-- the lines of a script by what it was answered
lines_asked_told : (asked : ℕ) (table : CallTable) (w : World) (asks : List Asked) →
    lines_by asked asks (answers_to table w asks) ≡ lines_asked asked table w asks
lines_asked_told asked table w [] = refl
lines_asked_told asked table w (ask ∷ asks) =
    ap (λ ls. record { ask = ask; pieces = pieces_by asked ask (Some (apply table w ask).0) } ∷ ls)
    (lines_asked_told asked table (apply table w ask).1 asks)

pub lines_told : (table : CallTable) (w : World) (asks : List Asked) →
    lines_by (asked_in table asks) asks (answers_to table w asks) ≡ lines_of table w asks
lines_told table w asks = lines_asked_told (asked_in table asks) table w asks

abbrev pub line_by : ℕ → Asked → Option Answer → Line
line_by asked ask answer = record { ask = ask; pieces = pieces_by asked ask answer }

pub line_at : (asked : ℕ) (asks : List Asked) (answers : List Answer) (index : ℕ) (ask : Asked) → slice_get asks index ≡ Some ask →
    slice_get (lines_by asked asks answers) index ≡ Some (line_by asked ask (slice_get answers index))
line_at asked [] answers index ask e = absurd (none-some ask e)
line_at asked (first ∷ asks) [] zero ask e = ap (λ a. Some (line_by asked a None)) (same_Some first ask e)
line_at asked (first ∷ asks) (answer ∷ answers) zero ask e = ap (λ a. Some (line_by asked a (Some answer))) (same_Some first ask e)
line_at asked (first ∷ asks) [] (suc index) ask e = line_at asked asks [] index ask e
line_at asked (first ∷ asks) (answer ∷ answers) (suc index) ask e = line_at asked asks answers index ask e

pub as_many_lines : (asked : ℕ) (asks : List Asked) (answers : List Answer) → length (lines_by asked asks answers) ≡ length asks
as_many_lines asked [] answers = refl
as_many_lines asked (ask ∷ asks) [] = ap suc (as_many_lines asked asks [])
as_many_lines asked (ask ∷ asks) (answer ∷ answers) = ap suc (as_many_lines asked asks answers)

abbrev pub trials_at : ℕ → List Piece → List Trial
trials_at index pieces = map (λ piece. record { line = index; piece = piece }) pieces

-- from the last line to the first
pub no_trials : (lines : List Line) (index : ℕ) → length lines ≤ index → [] ≡ trials_from index (drop index lines)
no_trials lines index past = ap (trials_from index) (sym (gone_by lines index past))

pub trials_turn : (lines : List Line) (index : ℕ) (line : Line) → slice_get lines index ≡ Some line →
    trials_from (index + 1) (drop (index + 1) lines) ++ trials_at index line.pieces ≡ trials_from index (drop index lines)
trials_turn lines index line e =
    let last : suc index ≡ index + 1 = omega arith in
    ap (λ n. trials_from n (drop (index + 1) lines) ++ trials_at index line.pieces) (sym last)
    ∙ ap (trials_from index) (sym (dropped lines index line e))

-- from the first to the last
pub words_turn : (lines : List Line) (index : ℕ) (line : Line) (words : List Trial) → slice_get lines index ≡ Some line →
    words ++ words_from index (drop index lines) ≡ words_from 0 lines →
    (words ++ trials_at index line.pieces) ++ words_from (index + 1) (drop (index + 1) lines) ≡ words_from 0 lines
words_turn lines index line words e so_far =
    let last : suc index ≡ index + 1 = omega arith in
    append_assoc words (trials_at index line.pieces) (words_from (index + 1) (drop (index + 1) lines))
    ∙ ap (λ n. words ++ (trials_at index line.pieces ++ words_from n (drop (index + 1) lines))) (sym last)
    ∙ ap (λ l. words ++ words_from index l) (sym (dropped lines index line e)) ∙ so_far

pub words_done : (lines : List Line) (index : ℕ) (words : List Trial) → length lines ≤ index →
    words ++ words_from index (drop index lines) ≡ words_from 0 lines → words ≡ words_from 0 lines
words_done lines index words past so_far =
    sym (append-nil words) ∙ ap (λ l. words ++ words_from index l) (sym (gone_by lines index past)) ∙ so_far

-- a request is given its arguments without a piece, and then what they were
pub given_left : (piece : Piece) (ask : Asked) → with_arguments (arguments_left piece (arguments_of ask.action)) ask ≡ without piece ask
given_left piece ask = by piece ask.action
  where
    by : (piece : Piece) (action : Action) →
        with_arguments (arguments_left piece (arguments_of action)) (record { process = ask.process; action = action })
        ≡ without piece (record { process = ask.process; action = action })
    by (InPromises bit) (Pledge p e) = refl
    by (InExecpromises bit) (Pledge p e) = refl
    by (InVeil bit) (Pledge p e) = refl
    by (InPromises bit) (Unveil path perms) = refl
    by (InExecpromises bit) (Unveil path perms) = refl
    by (InVeil bit) (Unveil path perms) = refl
    by (InPromises bit) (OnPath call path) = refl
    by (InExecpromises bit) (OnPath call path) = refl
    by (InVeil bit) (OnPath call path) = refl
    by (InPromises bit) (Symlink target path) = refl
    by (InExecpromises bit) (Symlink target path) = refl
    by (InVeil bit) (Symlink target path) = refl
    by (InPromises bit) (Rename old new) = refl
    by (InExecpromises bit) (Rename old new) = refl
    by (InVeil bit) (Rename old new) = refl
    by (InPromises bit) (Link old new) = refl
    by (InExecpromises bit) (Link old new) = refl
    by (InVeil bit) (Link old new) = refl
    by (InPromises bit) Lock = refl
    by (InExecpromises bit) Lock = refl
    by (InVeil bit) Lock = refl
    by (InPromises bit) (Fork new) = refl
    by (InExecpromises bit) (Fork new) = refl
    by (InVeil bit) (Fork new) = refl
    by (InPromises bit) Exit = refl
    by (InExecpromises bit) Exit = refl
    by (InVeil bit) Exit = refl
    by (InPromises bit) (Uses sets) = refl
    by (InExecpromises bit) (Uses sets) = refl
    by (InVeil bit) (Uses sets) = refl
    by (InPromises bit) (Hold number call path) = refl
    by (InExecpromises bit) (Hold number call path) = refl
    by (InVeil bit) (Hold number call path) = refl
    by (InPromises bit) (Close number) = refl
    by (InExecpromises bit) (Close number) = refl
    by (InVeil bit) (Close number) = refl
    by (InPromises bit) (Fchdir number) = refl
    by (InPromises bit) (Chroot path) = refl
    by (InExecpromises bit) (Fchdir number) = refl
    by (InExecpromises bit) (Chroot path) = refl
    by (InVeil bit) (Fchdir number) = refl
    by (InVeil bit) (Chroot path) = refl
    by (InPromises bit) (Take number from theirs) = refl
    by (InExecpromises bit) (Take number from theirs) = refl
    by (InVeil bit) (Take number from theirs) = refl
    by (InPromises bit) Comment = refl
    by (InExecpromises bit) Comment = refl
    by (InVeil bit) Comment = refl

pub given_back : (piece : Piece) (ask : Asked) → with_arguments (arguments_of ask.action) (without piece ask) ≡ ask
given_back piece ask = by piece ask.action
  where
    by : (piece : Piece) (action : Action) →
        with_arguments (arguments_of action) (without piece (record { process = ask.process; action = action }))
        ≡ record { process = ask.process; action = action }
    by (InPromises bit) (Pledge p e) = refl
    by (InExecpromises bit) (Pledge p e) = refl
    by (InVeil bit) (Pledge p e) = refl
    by (InPromises bit) (Unveil path perms) = refl
    by (InExecpromises bit) (Unveil path perms) = refl
    by (InVeil bit) (Unveil path perms) = refl
    by (InPromises bit) (OnPath call path) = refl
    by (InExecpromises bit) (OnPath call path) = refl
    by (InVeil bit) (OnPath call path) = refl
    by (InPromises bit) (Symlink target path) = refl
    by (InExecpromises bit) (Symlink target path) = refl
    by (InVeil bit) (Symlink target path) = refl
    by (InPromises bit) (Rename old new) = refl
    by (InExecpromises bit) (Rename old new) = refl
    by (InVeil bit) (Rename old new) = refl
    by (InPromises bit) (Link old new) = refl
    by (InExecpromises bit) (Link old new) = refl
    by (InVeil bit) (Link old new) = refl
    by (InPromises bit) Lock = refl
    by (InExecpromises bit) Lock = refl
    by (InVeil bit) Lock = refl
    by (InPromises bit) (Fork new) = refl
    by (InExecpromises bit) (Fork new) = refl
    by (InVeil bit) (Fork new) = refl
    by (InPromises bit) Exit = refl
    by (InExecpromises bit) Exit = refl
    by (InVeil bit) Exit = refl
    by (InPromises bit) (Uses sets) = refl
    by (InExecpromises bit) (Uses sets) = refl
    by (InVeil bit) (Uses sets) = refl
    by (InPromises bit) (Hold number call path) = refl
    by (InExecpromises bit) (Hold number call path) = refl
    by (InVeil bit) (Hold number call path) = refl
    by (InPromises bit) (Close number) = refl
    by (InExecpromises bit) (Close number) = refl
    by (InVeil bit) (Close number) = refl
    by (InPromises bit) (Fchdir number) = refl
    by (InPromises bit) (Chroot path) = refl
    by (InExecpromises bit) (Fchdir number) = refl
    by (InExecpromises bit) (Chroot path) = refl
    by (InVeil bit) (Fchdir number) = refl
    by (InVeil bit) (Chroot path) = refl
    by (InPromises bit) (Take number from theirs) = refl
    by (InExecpromises bit) (Take number from theirs) = refl
    by (InVeil bit) (Take number from theirs) = refl
    by (InPromises bit) Comment = refl
    by (InExecpromises bit) Comment = refl
    by (InVeil bit) Comment = refl

given_kept : (ask : Asked) → with_arguments (arguments_of ask.action) ask ≡ ask
given_kept ask = by ask.action
  where
    by : (action : Action) →
        with_arguments (arguments_of action) (record { process = ask.process; action = action }) ≡ record { process = ask.process; action = action }
    by (Pledge p e) = refl
    by (Unveil path perms) = refl
    by (OnPath call path) = refl
    by (Symlink target path) = refl
    by (Rename old new) = refl
    by (Link old new) = refl
    by Lock = refl
    by (Fork new) = refl
    by Exit = refl
    by (Uses sets) = refl
    by (Hold number call path) = refl
    by (Close number) = refl
    by (Fchdir number) = refl
    by (Chroot path) = refl
    by (Take number from theirs) = refl
    by Comment = refl

-- a piece that a line doesn't have
pub nothing_left : (asks : List Asked) (index : ℕ) (piece : Piece) (ask : Asked) → slice_get asks index ≡ Some ask →
    arguments_left piece (arguments_of ask.action) ≡ arguments_of ask.action → leave_out index piece asks ≡ asks
nothing_left asks index piece ask there same =
    by asks index there (sym (given_left piece ask) ∙ ap (λ a. with_arguments a ask) same ∙ given_kept ask)
  where
    by : (asks : List Asked) (index : ℕ) → slice_get asks index ≡ Some ask → without piece ask ≡ ask → leave_out index piece asks ≡ asks
    by [] index e kept = refl
    by (first ∷ asks) zero e kept =
        ap (λ a. a ∷ asks) (ap (without piece) (same_Some first ask e) ∙ kept ∙ sym (same_Some first ask e))
    by (first ∷ asks) (suc index) e kept = ap (λ l. first ∷ l) (by asks index e kept)

-- all trials tighten a script
pub tightens_all : (table : CallTable) (t : Tree) (answers : List Answer) (trials : List Trial) (asks left : List Asked) →
    answers ≡ answers_to table (new_world t) asks → trials ≡ trials_from 0 (lines_by (asked_in table asks) asks answers) →
    left ≡ all_tried table (new_world t) answers trials asks → left ≡ tightened table t asks
tightens_all table t answers trials asks left told are is =
    let w : World = new_world t in
    let lines : List Line = lines_of table w asks in
    let own : asks_of lines ≡ asks = (scripts_are_tightened table w asks).asks in
    is ∙ ap (λ l. all_tried table w answers l asks) (are ∙ ap (λ l. trials_from 0 (lines_by (asked_in table asks) asks l)) told
    ∙ ap (trials_from 0) (lines_told table w asks))
    ∙ ap (λ l. all_tried table w l (trials_from 0 lines) asks) told
    ∙ ap (λ l. all_tried table w (answers_to table w l) (trials_from 0 lines) l) (sym own) ∙ tried_one_by_one table w lines

-- what is made of a listing and a script that were read, and what of a fault
pub made_of : {A : Type 0} (rules : Rules) (make : Tree → List Asked → A) (tree_bytes script_bytes : List ℕ) (t : Tree) (asks : List Asked) →
    listing tree_bytes ≡ Ok t → script_by rules script_bytes ≡ Ok asks →
    (as_listing (listing tree_bytes) >>= λ t. as_script (script_by rules script_bytes >>= λ asks. Ok (make t asks))) ≡ Ok (make t asks)
made_of rules make tree_bytes script_bytes t asks listed read =
    ap (λ l. as_listing l >>= λ t. as_script (script_by rules script_bytes >>= λ asks. Ok (make t asks))) listed
    ∙ ap (λ s. as_script (s >>= λ asks. Ok (make t asks))) read

abbrev fault_or : {X : Type 0} → TightFault → Result X TightFault → TightFault
fault_or other (Ok x) = other
fault_or other (Err fault) = fault

pub fault_of : {A : Type 0} (rules : Rules) (make : Tree → List Asked → A) (tree_bytes script_bytes : List ℕ) (fault : TightFault) →
    IsFaultOf rules tree_bytes script_bytes fault →
    (as_listing (listing tree_bytes) >>= λ t. as_script (script_by rules script_bytes >>= λ asks. Ok (make t asks))) ≡ Err fault
fault_of {A = A} rules make tree_bytes script_bytes fault e = by (listing tree_bytes) (script_by rules script_bytes) e
  where
    by : (l : Result Tree ListingFault) (s : Result (List Asked) ScriptFault) → (as_listing l >>= λ t. as_script s) ≡ Err fault →
        (as_listing l >>= λ t. as_script (s >>= λ asks. Ok (make t asks))) ≡ Err fault
    by (Err f) s e = ap (λ r. Err (fault_or fault r)) e
    by (Ok t) (Err f) e = ap (λ r. Err (fault_or fault r)) e
    by (Ok t) (Ok asks) e = absurd (Err≢Ok fault asks (sym e))

-- one more of some that are mapped
pub mapped_turn : {X Y : Type 0} (f : X → Y) (xs : List X) (index : ℕ) (x : X) → index < length xs → x ≡ get_or xs index x →
    map f (take index xs) ++ f x ∷ [] ≡ map f (take (index + 1) xs)
mapped_turn f xs index x less is = sym (ap (map f) (one_more xs index x less is) ∙ map-append f (take index xs) (x ∷ []))

pub pieces_turn : (before now after : List Trial) (line : ℕ) (pieces : List Piece) (index : ℕ) (piece : Piece) → index < length pieces →
    piece ≡ get_or pieces index piece → now ≡ before ++ trials_at line (take index pieces) →
    after ≡ now ++ record { line = line; piece = piece } ∷ [] → after ≡ before ++ trials_at line (take (index + 1) pieces)
pieces_turn before now after line pieces index piece less at was is =
    is ∙ ap (λ l. l ++ record { line = line; piece = piece } ∷ []) was
    ∙ append_assoc before (trials_at line (take index pieces)) (record { line = line; piece = piece } ∷ [])
    ∙ ap (λ l. before ++ l) (mapped_turn (λ piece. record { line = line; piece = piece }) pieces index piece less at)

pub pieces_done : (before now : List Trial) (line : ℕ) (pieces : List Piece) (index : ℕ) → length pieces ≤ index →
    now ≡ before ++ trials_at line (take index pieces) → now ≡ before ++ trials_at line pieces
pieces_done before now line pieces index past was = was ∙ ap (λ l. before ++ trials_at line l) (take_all index pieces past)

-- the line at an index, written in place
pub set_left : (asks : List Asked) (index : ℕ) (piece : Piece) (ask : Asked) → slice_get asks index ≡ Some ask →
    set asks index (without piece ask) ≡ leave_out index piece asks
set_left [] index piece ask e = absurd (none-some ask e)
set_left (first ∷ asks) zero piece ask e = ap (λ a. without piece a ∷ asks) (sym (same_Some first ask e))
set_left (first ∷ asks) (suc index) piece ask e = ap (λ l. first ∷ l) (set_left asks index piece ask e)

pub set_back : (asks : List Asked) (index : ℕ) (arguments : Arguments) (ask : Asked) → slice_get asks index ≡ Some ask →
    set asks index (with_arguments arguments ask) ≡ put_back_at index arguments asks
set_back [] index arguments ask e = absurd (none-some ask e)
set_back (first ∷ asks) zero arguments ask e = ap (λ a. with_arguments arguments a ∷ asks) (sym (same_Some first ask e))
set_back (first ∷ asks) (suc index) arguments ask e = ap (λ l. first ∷ l) (set_back asks index arguments ask e)

pub back_left : (asks : List Asked) (index : ℕ) (piece : Piece) (ask : Asked) → slice_get asks index ≡ Some ask →
    put_back_at index (arguments_of ask.action) (leave_out index piece asks) ≡ asks
back_left [] index piece ask e = refl
back_left (first ∷ asks) zero piece ask e =
    ap (λ a. with_arguments (arguments_of a.action) (without piece first) ∷ asks) (sym (same_Some first ask e))
    ∙ ap (λ a. a ∷ asks) (given_back piece first)
back_left (first ∷ asks) (suc index) piece ask e = ap (λ l. first ∷ l) (back_left asks index piece ask e)

-- no line is there
pub beyond_left : (asks : List Asked) (index : ℕ) (piece : Piece) → slice_get asks index ≡ None → asks ≡ leave_out index piece asks
beyond_left [] index piece e = refl
beyond_left (first ∷ asks) zero piece e = absurd (none-some first (sym e))
beyond_left (first ∷ asks) (suc index) piece e = ap (λ l. first ∷ l) (beyond_left asks index piece e)

pub beyond_back : (asks : List Asked) (index : ℕ) (arguments : Arguments) → slice_get asks index ≡ None →
    asks ≡ put_back_at index arguments asks
beyond_back [] index arguments e = refl
beyond_back (first ∷ asks) zero arguments e = absurd (none-some first (sym e))
beyond_back (first ∷ asks) (suc index) arguments e = ap (λ l. first ∷ l) (beyond_back asks index arguments e)

-- so a vector is left
pub written_left : (asks : List Asked) (index : ℕ) (piece : Piece) (ask less : Asked) (arguments : Arguments) → slice_get asks index ≡ Some ask →
    arguments ≡ arguments_of ask.action → less ≡ with_arguments (arguments_left piece arguments) ask →
    set asks index less ≡ leave_out index piece asks
written_left asks index piece ask less arguments there are is =
    ap (set asks index) (is ∙ ap (λ a. with_arguments (arguments_left piece a) ask) are ∙ given_left piece ask) ∙ set_left asks index piece ask there

-- an answer that was looked up is the one at an index
pub answer_there : (answers : List Answer) (index : ℕ) (answer : Option (Bor Answer)) → IsItemAt answers index answer →
    option_copied answer ≡ slice_get answers index
answer_there answers index None at = sym (slice_get_past answers index (ltb-false _ _ (sym at.0)))
answer_there answers index (Some x) at = ap Some at.1 ∙ sym (slice_get-get_or answers index x.now (ltb-true _ _ (sym at.0)))

pub ask_there : (asks : List Asked) (index : ℕ) (ask : Asked) → index < length asks → ask ≡ get_or asks index ask → slice_get asks index ≡ Some ask
ask_there asks index ask less is = slice_get-get_or asks index ask less ∙ ap Some (sym is)

module _ (asked : ℕ) (asks : List Asked) (answers : List Answer) (index : ℕ) (ask : Asked) (answer : Option (Bor Answer)) (pieces : List Piece)
    (old new : List Trial) (less : index < length asks) (there : ask ≡ get_or asks index ask) (found : IsItemAt answers index answer)
    (by_answer : pieces ≡ pieces_by asked ask (option_copied answer)) (added : new ≡ old ++ trials_at index pieces) where
  abbrev its_lines : List Line
  its_lines = lines_by asked asks answers

  its_line : slice_get its_lines index ≡ Some (line_by asked ask (slice_get answers index))
  its_line = line_at asked asks answers index ask (ask_there asks index ask less there)

  its_pieces : pieces ≡ pieces_by asked ask (slice_get answers index)
  its_pieces = by_answer ∙ ap (pieces_by asked ask) (answer_there answers index answer found)

  is_added : new ≡ old ++ trials_at index (pieces_by asked ask (slice_get answers index))
  is_added = added ∙ ap (λ l. old ++ trials_at index l) its_pieces

  -- one line more, from the last to the first
  pub trials_back : (next : ℕ) → next ≡ index + 1 → old ≡ trials_from next (drop next its_lines) → new ≡ trials_from index (drop index its_lines)
  trials_back next is so_far =
      is_added ∙ ap (λ l. l ++ trials_at index (pieces_by asked ask (slice_get answers index)))
      (so_far ∙ ap (λ n. trials_from n (drop n its_lines)) is)
      ∙ trials_turn its_lines index (line_by asked ask (slice_get answers index)) its_line

  -- and from the first to the last
  pub words_on : old ++ words_from index (drop index its_lines) ≡ words_from 0 its_lines →
      new ++ words_from (index + 1) (drop (index + 1) its_lines) ≡ words_from 0 its_lines
  words_on so_far =
      ap (λ l. l ++ words_from (index + 1) (drop (index + 1) its_lines)) is_added
      ∙ words_turn its_lines index (line_by asked ask (slice_get answers index)) old its_line so_far

pub words_all : (asked : ℕ) (asks : List Asked) (answers : List Answer) (index : ℕ) (words : List Trial) → length asks ≤ index →
    words ++ words_from index (drop index (lines_by asked asks answers)) ≡ words_from 0 (lines_by asked asks answers) →
    words ≡ words_from 0 (lines_by asked asks answers)
words_all asked asks answers index words past so_far =
    words_done (lines_by asked asks answers) index words (omega (arith, past, as_many_lines asked asks answers)) so_far

-- a script was tightened by a table that is the one that was given
module _ (rules : Rules) (table own_table : CallTable) (tree_bytes script_bytes : List ℕ) (t : Tree) (answers : List Answer)
    (asks left : List Asked) (same_table : own_table ≡ table) (given : IsGiven rules table tree_bytes script_bytes t answers asks)
    (tight : answers ≡ answers_to own_table (new_world t) asks → left ≡ tightened own_table t asks) where
  is_tight : left ≡ tightened table t asks
  is_tight =
      tight (given.told ∙ ap (λ own. answers_to own (new_world t) asks) (sym same_table)) ∙ ap (λ own. tightened own t asks) same_table

  -- what is written of it
  pub text_made : (text : List ℕ) → text ≡ thinned_text rules left script_bytes → text_over rules table tree_bytes script_bytes ≡ Ok text
  text_made text is =
      made_of rules (λ t asks. thinned_text rules (tightened table t asks) script_bytes) tree_bytes script_bytes t asks given.listed given.read
      ∙ ap Ok (ap (λ l. thinned_text rules l script_bytes) (sym is_tight) ∙ sym is)

  -- what its words are needed for
  pub uses_made : (words : List Trial) (told : List WordUse) → words ≡ words_from 0 (lines_by (asked_in table asks) asks answers) →
      (answers_to own_table (new_world t) left ≡ answers → told ≡ map (use_by own_table (new_world t) answers left) words) →
      uses_over rules table tree_bytes script_bytes ≡ Ok told
  uses_made words told are is =
      let w : World = new_world t in
      let lines : List Line = lines_of table w asks in
      let own : asks_of lines ≡ asks = (scripts_are_tightened table w asks).asks in
      let all : words ≡ words_from 0 lines =
      are ∙ ap (λ l. words_from 0 (lines_by (asked_in table asks) asks l)) given.told ∙ ap (words_from 0) (lines_told table w asks) in
      let wanted : answers ≡ answers_to table w (asks_of lines) = given.told ∙ ap (answers_to table w) (sym own) in
      let same : answers_to own_table w left ≡ answers =
      (λ j. answers_to (same_table j) w (is_tight j)) ∙ (tightens table w lines).same ∙ sym wanted in
      made_of rules (λ t asks. uses table (new_world t) (lines_of table (new_world t) asks)) tree_bytes script_bytes t asks given.listed given.read
      ∙ ap Ok (sym (is same ∙ ap (λ own. map (use_by own w answers left) words) same_table
      ∙ ap (λ l. map (use_by table w answers left) l) all
      ∙ ap (λ l. map (use_by table w l left) (words_from 0 lines)) wanted
      ∙ ap (λ l. map (use_by table w (answers_to table w (asks_of lines)) l) (words_from 0 lines)) is_tight))

-- the fault of a listing or a script
pub no_text : (rules : Rules) (table : CallTable) (tree_bytes script_bytes : List ℕ) (fault : TightFault) → IsFaultOf rules tree_bytes script_bytes fault →
    text_over rules table tree_bytes script_bytes ≡ Err fault
no_text rules table tree_bytes script_bytes fault e = fault_of rules (λ t asks. thinned_text rules (tightened table t asks) script_bytes) tree_bytes script_bytes fault e

pub no_uses : (rules : Rules) (table : CallTable) (tree_bytes script_bytes : List ℕ) (fault : TightFault) → IsFaultOf rules tree_bytes script_bytes fault →
    uses_over rules table tree_bytes script_bytes ≡ Err fault
no_uses rules table tree_bytes script_bytes fault e =
    fault_of rules (λ t asks. uses table (new_world t) (lines_of table (new_world t) asks)) tree_bytes script_bytes fault e
