-- What may be left out of a script is of lines that are answered ok, and is not `error`, nor a promise that no line asks for.
use Rattle.std.proofs.Common.{◌≡◌, ℕ, List, [], ◌∷◌, ◌++◌, refl, sym, ap, ◌∙◌, Bool, true, false, cond, map, min, ◌+◌, ◌%◌, ◌<◌, arith, inl, inr, ◌⊎◌}
use Rattle.std.proofs.lemmas.Bool.{false≢true}
use Rattle.std.proofs.lemmas.Nat.Bits.{bit_at_and, bit_at-lt, bit_at-zero, same_from_bits}
use Rattle.std.specs.Int.{bit_at}
use Rattle.std.specs.Int.Bits.{and_zero_l}
use Rattle.std.specs.Prelude.{Some, bit_and, bit_or, filter}
use Rattle.pua_calls.specs.Promises.{holds, lacking, error, keyword_rows}
use Rattle.pua_calls.specs.Calls.{CallTable}
use Rattle.pua_policy.proofs.ForCallers.{second_holds}
use Rattle.pua_script.specs.Requests.{Asked}
use Rattle.pua_script.specs.Family.{is_okay}
use Rattle.pua_script.specs.Replay.{World, apply}
use Rattle.pua_script.specs.declared.answer.Answer.{Answer}
use Rattle.pua_script.specs.declared.answer.Answer.TheVariants as answer
use Rattle.pua_script.specs.declared.request.Given.{Given}
use Rattle.pua_script.specs.declared.request.Given.TheVariants.{Null, Good, Unknown}
use Rattle.pua_script.specs.declared.request.Action.{Action}
use Rattle.pua_script.specs.declared.request.Action.TheVariants.{Pledge, Unveil}
use Rattle.pua_tight.specs.Tight.{Piece, InPromises, InExecpromises, InVeil, asks_of, all_asked, all_used, asked_in, bits_in, pieces_of}
use Rattle.pua_tight.specs.Tight.{lines_asked}
use Rattle.pua_tight.specs.Laws.{IsPieceOf, AreOkay, Stay, promise_left, openers, ScriptsAreTightened}
use Rattle.pua_tight.proofs.Sets.{apart_or, apart_down}
use Rattle.pua_tight.proofs.WithoutPiece.{lack_at}

okay_is : (a : Answer) → is_okay a ≡ true → a ≡ answer.Okay
okay_is answer.Okay e = refl
okay_is answer.Killed e = absurd (false≢true e)
okay_is answer.Gone e = absurd (false≢true e)
okay_is (answer.Failed errno) e = absurd (false≢true e)

lines_okay : (asked : ℕ) (table : CallTable) (w : World) (more : List Asked) → AreOkay table w (lines_asked asked table w more)
lines_okay asked table w [] = tt
lines_okay asked table w (ask ∷ more) =
    ((λ piece among. by piece (is_okay (apply table w ask).0) refl among), lines_okay asked table (apply table w ask).1 more)
  where
    by : (piece : Piece) (b : Bool) → is_okay (apply table w ask).0 ≡ b → IsPieceOf (cond b (pieces_of asked ask.action) []) piece →
        (apply table w ask).0 ≡ answer.Okay
    by piece true e among = okay_is (apply table w ask).0 e
    by piece false e among = absurd among

apart_bit : (x e : ℕ) → x < 2 → e < 2 → min ((x + min x e) % 2) e ≡ 0
apart_bit x e p q = omega arith

lacks_error : (set : ℕ) → bit_and (lacking error set) error ≡ 0
lacks_error set = same_from_bits _ _ (λ i.
    bit_at_and (lacking error set) error i ∙ ap (λ x. min x (bit_at error i)) (lack_at error set i)
    ∙ apart_bit (bit_at set i) (bit_at error i) (bit_at-lt set i) (bit_at-lt error i) ∙ sym (bit_at-zero i))

-- each of them has none of these
abbrev AllApart : ℕ → List ℕ → Type 0
AllApart k [] = Unit {0}
AllApart k (bit ∷ bits) = (bit_and bit k ≡ 0) × AllApart k bits

kept : (k : ℕ) (p : ℕ → Bool) → ((bit : ℕ) → p bit ≡ true → bit_and bit k ≡ 0) → (bits : List ℕ) → AllApart k (filter p bits)
kept k p apart [] = tt
kept k p apart (bit ∷ bits) = by (p bit) refl (kept k p apart bits)
  where
    by : (x : Bool) → p bit ≡ x → AllApart k (filter p bits) → AllApart k (cond x (bit ∷ filter p bits) (filter p bits))
    by true told rest = (apart bit told, rest)
    by false told rest = rest

bits_apart : (k asked : ℕ) → bit_and asked k ≡ 0 → (given : Given) → AllApart k (bits_in asked given)
bits_apart k asked apart Null = tt
bits_apart k asked apart Unknown = tt
bits_apart k asked apart (Good set) =
    kept k (holds (bit_and set asked)) (λ bit has. apart_down asked bit k (second_holds set asked bit has) apart) (map (λ row. row.1) keyword_rows)

either : (xs ys : List Piece) (piece : Piece) → IsPieceOf (xs ++ ys) piece → IsPieceOf xs piece ⊎ IsPieceOf ys piece
either [] ys piece among = inr among
either (x ∷ xs) ys piece (inl e) = inl (inl e)
either (x ∷ xs) ys piece (inr among) = further (either xs ys piece among)
  where
    further : IsPieceOf xs piece ⊎ IsPieceOf ys piece → IsPieceOf (x ∷ xs) piece ⊎ IsPieceOf ys piece
    further (inl a) = inl (inr a)
    further (inr a) = inr a

mapped : (k : ℕ) (f : ℕ → Piece) → ((b : ℕ) → promise_left (f b) ≡ b) → (bits : List ℕ) → AllApart k bits → (piece : Piece) →
    IsPieceOf (map f bits) piece → bit_and (promise_left piece) k ≡ 0
mapped k f is [] apart piece among = absurd among
mapped k f is (bit ∷ bits) apart piece (inl e) = ap (λ n. bit_and n k) (ap promise_left (sym e) ∙ is bit) ∙ apart.0
mapped k f is (bit ∷ bits) apart piece (inr among) = mapped k f is bits apart.1 piece among

-- no letter is a promise
letters : (k : ℕ) (bits : List ℕ) (piece : Piece) → IsPieceOf (map InVeil bits) piece → bit_and (promise_left piece) k ≡ 0
letters k [] piece among = absurd among
letters k (bit ∷ bits) piece (inl e) = ap (λ p. bit_and (promise_left p) k) (sym e) ∙ and_zero_l k
letters k (bit ∷ bits) piece (inr among) = letters k bits piece among

pieces_apart : (k asked : ℕ) → bit_and asked k ≡ 0 → (action : Action) (piece : Piece) → IsPieceOf (pieces_of asked action) piece →
    bit_and (promise_left piece) k ≡ 0
pieces_apart k asked apart (Pledge p e) piece among =
    by (either (map InPromises (bits_in asked p)) (map InExecpromises (bits_in asked e)) piece among)
  where
    by : IsPieceOf (map InPromises (bits_in asked p)) piece ⊎ IsPieceOf (map InExecpromises (bits_in asked e)) piece →
        bit_and (promise_left piece) k ≡ 0
    by (inl a) = mapped k InPromises (λ b. refl) (bits_in asked p) (bits_apart k asked apart p) piece a
    by (inr a) = mapped k InExecpromises (λ b. refl) (bits_in asked e) (bits_apart k asked apart e) piece a
pieces_apart k asked apart (Unveil path (Some perms)) piece among = letters k (filter (holds perms) (1 ∷ 2 ∷ 4 ∷ 8 ∷ [])) piece among
pieces_apart k asked apart _ piece among = absurd among

lines_stay : (k asked : ℕ) → bit_and asked k ≡ 0 → (table : CallTable) (w : World) (more : List Asked) → Stay k (lines_asked asked table w more)
lines_stay k asked apart table w [] = tt
lines_stay k asked apart table w (ask ∷ more) =
    ((λ piece among. by piece (is_okay (apply table w ask).0) among), lines_stay k asked apart table (apply table w ask).1 more)
  where
    by : (piece : Piece) (b : Bool) → IsPieceOf (cond b (pieces_of asked ask.action) []) piece → bit_and (promise_left piece) k ≡ 0
    by piece true among = pieces_apart k asked apart ask.action piece among
    by piece false among = absurd among

lines_are : (asked : ℕ) (table : CallTable) (w : World) (more : List Asked) → asks_of (lines_asked asked table w more) ≡ more
lines_are asked table w [] = refl
lines_are asked table w (ask ∷ more) = ap (λ l. ask ∷ l) (lines_are asked table (apply table w ask).1 more)

pub scripts_are_tightened : ScriptsAreTightened
scripts_are_tightened table w more = record {
  asks = lines_are (asked_in table more) table w more;
  okay = lines_okay (asked_in table more) table w more;
  stay = λ apart. lines_stay (bit_or error (openers table more)) (asked_in table more)
      (apart_or (asked_in table more) error (openers table more) (lacks_error (bit_or (all_asked table) (all_used more))) apart) table w more;
}
