-- A tightened script is thinner than the given one, and is answered as it.
use Rattle.std.proofs.Common.{◌≡◌, ℕ, List, [], ◌∷◌, ◌++◌, refl, sym, ap, ◌∙◌, Bool, true, false, cond, min, ◌+◌, ◌%◌, ◌<◌, arith, append_assoc}
use Rattle.std.proofs.lemmas.Bool.{eqb-true, eq-eqb, and_parts, false≢true}
use Rattle.std.proofs.lemmas.Nat.Bits.{bit_at_and, bit_at_xor, bit_at-lt, same_from_bits}
use Rattle.std.specs.Int.{bit_at}
use Rattle.std.specs.Prelude.{Some, None, bit_and, ◌==◌}
use Rattle.pua_calls.specs.Promises.{holds, lacking}
use Rattle.pua_calls.specs.Calls.{CallTable}
use Rattle.pua_path.specs.declared.errno.Errno.{Errno}
use Rattle.pua_path.specs.declared.errno.Errno.TheVariants.{EPERM, ENOENT, E2BIG, EACCES, EAGAIN, EBUSY, EEXIST, ENOTDIR, EISDIR, EINVAL}
use Rattle.pua_path.specs.declared.errno.Errno.TheVariants.{ENOSPC, ELOOP, ENAMETOOLONG, ENOTEMPTY, EOPNOTSUPP, ENOSYS, ENOTSOCK, EADDRINUSE, EBADF, EXDEV}
use Rattle.pua_script.specs.Requests.{Asked}
use Rattle.pua_script.specs.Replay.{World, answers_to}
use Rattle.pua_script.specs.declared.answer.Answer.{Answer}
use Rattle.pua_script.specs.declared.answer.Answer.TheVariants.{Okay, Failed, Killed, Gone}
use Rattle.pua_script.specs.declared.request.Given.{Given}
use Rattle.pua_script.specs.declared.request.Given.TheVariants.{Null, Good, Unknown}
use Rattle.pua_script.specs.declared.request.Action.{Action}
use Rattle.pua_script.specs.declared.request.Action.TheVariants.{Pledge, Unveil}
use Rattle.pua_tight.specs.Narrower.{GivenWithin, given_none, given_less, given_unknown, ActionWithin, as_given, less_pledged, less_unveiled, AskWithin}
use Rattle.pua_tight.specs.Narrower.{AsksWithin, no_asks, asks, WorldWithin, ProcessesWithin, nobody, somebody}
use Rattle.pua_policy.specs.States.{ProcessState}
use Rattle.pua_tight.specs.Tight.{Piece, InPromises, InExecpromises, InVeil, given_without, action_without, without, Line, asks_of}
use Rattle.pua_tight.specs.Tight.{answer_number, same_answers, try_piece, thin_line, thin, tight}
use Rattle.pua_tight.specs.Laws.{TightensScripts}
use Rattle.pua_policy.proofs.ForCallers.{holds_through}
use Rattle.pua_tight.proofs.Sets.{holds_self}
use Rattle.pua_tight.proofs.Within.{state_self}
use Rattle.pua_tight.proofs.Worlds.{scripts_keep}

-- a set has what is left of it
pub less_in : (s b : ℕ) → s < 2 → b < 2 → min s ((s + min s b) % 2) ≡ (s + min s b) % 2
less_in s b p q = omega arith

pub has_lacking : (bit set : ℕ) → holds set (lacking bit set) ≡ true
has_lacking bit set = eq-eqb _ _ (same_from_bits _ _ (λ i.
    bit_at_and set (lacking bit set) i ∙ ap (min (bit_at set i)) (at i)
    ∙ less_in (bit_at set i) (bit_at bit i) (bit_at-lt set i) (bit_at-lt bit i) ∙ sym (at i)))
  where
    at : (i : ℕ) → bit_at (lacking bit set) i ≡ (bit_at set i + min (bit_at set i) (bit_at bit i)) % 2
    at i = bit_at_xor set (bit_and set bit) i ∙ ap (λ b. (bit_at set i + b) % 2) (bit_at_and set bit i)

pub given_self : (given : Given) → GivenWithin given given
given_self Null = given_none
given_self (Good set) = given_less (holds_self set)
given_self Unknown = given_unknown

given_less_is : (bit : ℕ) (given : Given) → GivenWithin (given_without bit given) given
given_less_is bit Null = given_none
given_less_is bit (Good set) = given_less (has_lacking bit set)
given_less_is bit Unknown = given_unknown

-- what a line is without a piece is within what it was
pub without_within : (piece : Piece) (action : Action) → ActionWithin (action_without piece action) action
without_within (InPromises bit) (Pledge p e) = less_pledged (given_less_is bit p) (given_self e)
without_within (InExecpromises bit) (Pledge p e) = less_pledged (given_self p) (given_less_is bit e)
without_within (InVeil bit) (Unveil path (Some perms)) = less_unveiled (has_lacking bit perms)
without_within (InVeil bit) (Unveil path None) = as_given
without_within _ action = as_given

-- by two steps
given_twice : {p q r : Given} → GivenWithin p q → GivenWithin q r → GivenWithin p r
given_twice given_none other = other
given_twice given_unknown other = other
given_twice (given_less {a = a} {b = b} less) (given_less {b = c} other) = given_less (holds_through c b a other less)

pub action_twice : {x y z : Action} → ActionWithin x y → ActionWithin y z → ActionWithin x z
action_twice as_given other = other
action_twice first as_given = first
action_twice (less_pledged p e) (less_pledged q f) = less_pledged (given_twice p q) (given_twice e f)
action_twice (less_unveiled {a = a} {b = b} less) (less_unveiled {b = c} other) = less_unveiled (holds_through c b a other less)

pub ask_self : (ask : Asked) → AskWithin ask ask
ask_self ask = record { process = refl; action = as_given }

pub ask_less : (piece : Piece) (ask : Asked) → AskWithin (without piece ask) ask
ask_less piece ask = record { process = refl; action = without_within piece ask.action }

pub ask_twice : {x y z : Asked} → AskWithin x y → AskWithin y z → AskWithin x z
ask_twice first other = record { process = first.process ∙ other.process; action = action_twice first.action other.action }

-- numbers tell answers apart
errno_from : ℕ → Errno
errno_from n =
    cond (n == 0) EPERM (cond (n == 1) ENOENT (cond (n == 2) E2BIG (cond (n == 3) EACCES (cond (n == 4) EAGAIN (cond (n == 5) EBUSY
    (cond (n == 6) EEXIST (cond (n == 7) ENOTDIR (cond (n == 8) EISDIR (cond (n == 9) EINVAL (cond (n == 10) ENOSPC (cond (n == 11) ELOOP
    (cond (n == 12) ENAMETOOLONG (cond (n == 13) ENOTEMPTY (cond (n == 14) ENOSYS (cond (n == 15) ENOTSOCK (cond (n == 16) EADDRINUSE
    (cond (n == 17) EBADF (cond (n == 18) EOPNOTSUPP EXDEV))))))))))))))))))

answer_from : ℕ → Answer
answer_from n = cond (n == 20) Okay (cond (n == 21) Killed (cond (n == 22) Gone (Failed (errno_from n))))

back : (a : Answer) → answer_from (answer_number a) ≡ a
unfolding errno_from answer_from
back Okay = refl
back Killed = refl
back Gone = refl
back (Failed EPERM) = refl
back (Failed ENOENT) = refl
back (Failed E2BIG) = refl
back (Failed EACCES) = refl
back (Failed EAGAIN) = refl
back (Failed EBUSY) = refl
back (Failed EEXIST) = refl
back (Failed ENOTDIR) = refl
back (Failed EISDIR) = refl
back (Failed EINVAL) = refl
back (Failed ENOSPC) = refl
back (Failed ELOOP) = refl
back (Failed ENAMETOOLONG) = refl
back (Failed ENOTEMPTY) = refl
back (Failed ENOSYS) = refl
back (Failed ENOTSOCK) = refl
back (Failed EADDRINUSE) = refl
back (Failed EBADF) = refl
back (Failed EOPNOTSUPP) = refl
back (Failed EXDEV) = refl

pub same_number : (a b : Answer) → answer_number a ≡ answer_number b → a ≡ b
same_number a b e = sym (back a) ∙ ap answer_from e ∙ back b

pub same_sound : (xs ys : List Answer) → same_answers xs ys ≡ true → xs ≡ ys
same_sound [] [] e = refl
same_sound (x ∷ xs) (y ∷ ys) e =
    let both = and_parts (answer_number x == answer_number y) (same_answers xs ys) e in
    let first : x ≡ y = same_number x y (eqb-true _ _ both.0) in
    ap (λ z. z ∷ xs) first ∙ ap (λ zs. y ∷ zs) (same_sound xs ys both.1)
same_sound [] (y ∷ ys) e = absurd (false≢true e)
same_sound (x ∷ xs) [] e = absurd (false≢true e)

-- a world lies within itself
processes_self : (hs : List (ℕ × ProcessState)) → ProcessesWithin hs hs
processes_self [] = nobody
processes_self (one ∷ hs) = somebody (state_self one.1) (processes_self hs)

pub world_self : (w : World) → WorldWithin w w
world_self w = record { tree = refl; processes = processes_self w.processes }

module _ (table : CallTable) (w : World) (want : List Answer) where
  module _ (before after : List Asked) where
    abbrev answered : Asked → List Answer
    answered ask = answers_to table w (before ++ ask ∷ after)

    pub tried_within : (ask : Asked) (piece : Piece) → AskWithin (try_piece table w want before after ask (without piece ask)) ask
    tried_within ask piece = by (same_answers (answered (without piece ask)) want)
      where
        by : (b : Bool) → AskWithin (cond b (without piece ask) ask) ask
        by true = ask_less piece ask
        by false = ask_self ask

    pub tried_same : (ask : Asked) (piece : Piece) → answered ask ≡ want →
        answered (try_piece table w want before after ask (without piece ask)) ≡ want
    tried_same ask piece same = by (same_answers (answered (without piece ask)) want) refl
      where
        by : (b : Bool) → same_answers (answered (without piece ask)) want ≡ b → answered (cond b (without piece ask) ask) ≡ want
        by true is = same_sound (answered (without piece ask)) want is
        by false is = same

    pub line_within : (ask : Asked) (pieces : List Piece) → AskWithin (thin_line table w want before after ask pieces) ask
    line_within ask [] = ask_self ask
    line_within ask (piece ∷ pieces) =
        ask_twice (line_within (try_piece table w want before after ask (without piece ask)) pieces) (tried_within ask piece)

    pub line_same : (ask : Asked) (pieces : List Piece) → answered ask ≡ want → answered (thin_line table w want before after ask pieces) ≡ want
    line_same ask [] same = same
    line_same ask (piece ∷ pieces) same =
        line_same (try_piece table w want before after ask (without piece ask)) pieces (tried_same ask piece same)

  pub thin_within : (before : List Asked) (lines : List Line) → AsksWithin (thin table w want before lines) (asks_of lines)
  thin_within before [] = no_asks
  thin_within before (line ∷ lines) =
      asks (line_within before (thin table w want (before ++ line.ask ∷ []) lines) line.ask line.pieces)
      (thin_within (before ++ line.ask ∷ []) lines)

  pub thin_same : (before : List Asked) (lines : List Line) → answers_to table w (before ++ asks_of lines) ≡ want →
      answers_to table w (before ++ thin table w want before lines) ≡ want
  thin_same before [] same = same
  thin_same before (line ∷ lines) same =
      let after : List Asked = thin table w want (before ++ line.ask ∷ []) lines in
      line_same before after line.ask line.pieces
      (ap (answers_to table w) (sym (append_assoc before (line.ask ∷ []) after))
      ∙ thin_same (before ++ line.ask ∷ []) lines
      (ap (answers_to table w) (append_assoc before (line.ask ∷ []) (asks_of lines)) ∙ same))

pub tightens : TightensScripts
tightens table w lines =
    let want : List Answer = answers_to table w (asks_of lines) in
    let within : AsksWithin (tight table w lines) (asks_of lines) = thin_within table w want [] lines in
    let same : answers_to table w (tight table w lines) ≡ want = thin_same table w want [] lines refl in
    record { within = within; same = same; narrower = scripts_keep table w w (tight table w lines) (asks_of lines) (world_self w) within same }
