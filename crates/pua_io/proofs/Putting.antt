-- What puts one after another leave in a sink.
use Rattle.pua_io.proofs.Common.{◌≡◌, arith}
use Rattle.std.proofs.Common.{ℕ, suc, zero-add, ◌+◌, ◌-◌, ◌^◌, ◌<◌, ◌≤◌, List, [], ◌∷◌, ◌++◌, length, take, drop, Option, sym, ap, ◌∙◌}
use Rattle.std.proofs.Common.{subst, append_assoc, length-append, take-append-drop, take_all, length-drop, inl, inr, ◌⊎◌}
use Rattle.std.specs.Io.KnownBytes.{Appends, Keeps}
use Rattle.std.proofs.KnownBytes.{Appends-trans, Appends-kept}
use Rattle.std.proofs.lemmas.Bool.{cases_order}
use Rattle.std.proofs.lemmas.List.{take-append-le}
use lib.Seq.{take-append_seam}
use Rattle.pua_io.specs.Sinks.{Adds, AddsFront, HasFailed, Puts, Writes, next_count}
use Rattle.std.specs.Prelude.{Result, Ok, Err, OnOk, OnErr}
use Rattle.pua_io.specs.declared.sink.PutFault.{PutFault}

-- a front of a text was put, and the rest is left
pub record HasPut (text rest : List ℕ) (old new : Option (List ℕ)) : Type 0 where
  pub done : List ℕ
  pub parts : text ≡ done ++ rest
  pub adds : Appends old new done

pub has_put_more : (text rest : List ℕ) (n : ℕ) (a b c : Option (List ℕ)) → HasPut text rest a b → Puts rest n b c →
    HasPut text (take (length rest - n) (drop n rest)) a c
has_put_more text rest n a b c put more =
    let whole : take (length rest - n) (drop n rest) ≡ drop n rest = take_all _ (drop n rest) (omega (arith, length-drop n rest)) in
    record {
      done = put.done ++ take n rest;
      parts = put.parts ∙ ap (λ r. put.done ++ r) (sym (take-append-drop n rest)) ∙ sym (append_assoc put.done (take n rest) (drop n rest))
          ∙ ap (λ r. (put.done ++ take n rest) ++ r) (sym whole);
      adds = Appends-trans a b c put.done (take n rest) put.adds more.adds;
    }

-- the next put added nothing
pub has_put_front : (text rest : List ℕ) (a b c : Option (List ℕ)) → HasPut text rest a b → Keeps b c → AddsFront text a c
has_put_front text rest a b c put keeps =
    let front : take (length put.done) text ≡ put.done = ap (take (length put.done)) put.parts ∙ take-append_seam put.done rest in
    let short : length put.done ≤ length text = omega (arith, ap length put.parts, length-append put.done rest) in
    (length put.done, short, subst (λ t. Appends a c t) (sym front) (Appends-kept a b c put.done put.adds keeps))

-- a count after one more rose, or stands at its greatest value
pub counted_has_failed : (n : ℕ) → HasFailed n (next_count n)
counted_has_failed n = by_order (cases_order n (2 ^ 64 - 1))
  where
    by_order : (n ≡ 2 ^ 64 - 1) ⊎ ((n < 2 ^ 64 - 1) ⊎ (2 ^ 64 - 1 < n)) → HasFailed n (next_count n)
    by_order (inl same) = inr (omega arith)
    by_order (inr (inl less)) = inl (omega arith)
    by_order (inr (inr more)) = inr (omega arith)

take-past : (xs ys : List ℕ) (n : ℕ) → take (length xs + n) (xs ++ ys) ≡ xs ++ take n ys
take-past [] ys n = ap (λ k. take k ys) (zero-add n)
take-past (x ∷ xs) ys n =
    let past : length (x ∷ xs) + n ≡ suc (length xs + n) = omega arith in
    ap (λ k. take k (x ∷ (xs ++ ys))) past ∙ ap (λ r. x ∷ r) (take-past xs ys n)

-- a text that was written, and then a further one
pub writes_then : (first second : List ℕ) (r : Result (Unit {0}) PutFault) (a b c : Option (List ℕ)) (before between after : ℕ)
    → Adds first a b → between ≡ before → Writes second r b c between after → Writes (first ++ second) r a c before after
writes_then first second (Ok done) a b c before between after adds same more = (Appends-trans a b c first second adds more.0, more.1 ∙ same)
writes_then first second (Err fault) a b c before between after adds same more =
    let n = more.0.0 in
    let short : length first + n ≤ length (first ++ second) = omega (arith, length-append first second, more.0.1) in (
      (
        length first + n,
        short,
        subst (λ t. Appends a c t) (sym (take-past first second n)) (Appends-trans a b c first (take n second) adds more.0.2),
      ),
      subst (λ k. HasFailed k after) same more.1,
    )

-- the writing of the front of a text failed
pub writes_front : (first rest : List ℕ) (fault : PutFault) (a b : Option (List ℕ)) (before after : ℕ) →
    Writes first (Err fault) a b before after → Writes (first ++ rest) (Err fault) a b before after
writes_front first rest fault a b before after failed =
    let n = failed.0.0 in
    let short : n ≤ length (first ++ rest) = omega (arith, length-append first rest, failed.0.1) in
    ((n, short, subst (λ t. Appends a b t) (sym (take-append-le n first rest failed.0.1)) failed.0.2), failed.1)

-- what a whole writing of all bytes leaves
pub writes_by_put : (text : List ℕ) (r : Result (Unit {0}) PutFault) (a b : Option (List ℕ)) (before after : ℕ)
    → OnOk r (Adds text a b) → OnOk r (after ≡ before) → OnErr r (AddsFront text a b) → OnErr r (HasFailed before after) →
    Writes text r a b before after
writes_by_put text (Ok done) a b before after adds same front failed = (adds, same)
writes_by_put text (Err fault) a b before after adds same front failed = (front, failed)
