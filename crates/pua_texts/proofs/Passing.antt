-- Texts that are added to a block, one after another.
use Rattle.pua_texts.proofs.Common.{◌≡◌, ℕ, List, [], ◌++◌, Ok, Err, refl, sym, ap, ◌∙◌, subst, append_assoc, append-nil, Passes, PutFault}
use Rattle.std.proofs.Common.{Option, Result}
use Rattle.std.specs.Prelude.{OnOk, OnErr}
use Rattle.std.proofs.KnownBytes.{Appends-nil, Appends-trans}
use Rattle.pua_io.specs.Sinks.{Adds, AddsFront, HasFailed, Writes}
use Rattle.pua_texts.specs.Blocks.{HandsOn}
use Rattle.pua_io.proofs.ForCallers.{writes_then, writes_front}

-- no text
pub passes_none : (block : List ℕ) (a : Option (List ℕ)) (n : ℕ) → Passes [] (Ok tt) block block a a n n
passes_none block a n = (record { text = []; parts = append-nil block; adds = Appends-nil a }, refl)

-- a text for which there is room in what the block then is
pub passes_room : (text old room new : List ℕ) (a b : Option (List ℕ)) (n m : ℕ) → HandsOn old room a b → m ≡ n → new ≡ room ++ text →
    Passes text (Ok tt) old new a b n m
passes_room text old room new a b n m hands same added = (
  record {
    text = hands.text;
    parts = ap (λ r. r ++ text) hands.parts ∙ append_assoc hands.text room text ∙ ap (λ r. hands.text ++ r) (sym added);
    adds = hands.adds;
  },
  same,
)

-- the putting of a block failed before a text was added
pub passes_unput : (text old : List ℕ) (fault : PutFault) (new : List ℕ) (a b : Option (List ℕ)) (n m : ℕ) → AddsFront old a b →
    HasFailed n m → Passes text (Err fault) old new a b n m
passes_unput text old fault new a b n m front failed = writes_front old text fault a b n m (front, failed)

-- a text, and then another one
pub passes_then : (first second old mid new : List ℕ) (r : Result (Unit {0}) PutFault) (a b c : Option (List ℕ)) (n m k : ℕ)
    → Passes first (Ok tt) old mid a b n m → Passes second r mid new b c m k → Passes (first ++ second) r old new a c n k
passes_then first second old mid new r a b c n m k begun more = by_result r more
  where
    parts : old ++ (first ++ second) ≡ begun.0.text ++ (mid ++ second)
    parts = sym (append_assoc old first second) ∙ ap (λ t. t ++ second) begun.0.parts ∙ append_assoc begun.0.text mid second

    by_result : (r : Result (Unit {0}) PutFault) → Passes second r mid new b c m k → Passes (first ++ second) r old new a c n k
    by_result (Ok done) more = (
      record {
        text = begun.0.text ++ more.0.text;
        parts = parts ∙ ap (λ t. begun.0.text ++ t) more.0.parts ∙ sym (append_assoc begun.0.text more.0.text new);
        adds = Appends-trans a b c begun.0.text more.0.text begun.0.adds more.0.adds;
      },
      more.1 ∙ begun.1,
    )
    by_result (Err fault) more =
        subst (λ t. Writes t (Err fault) a c n k) (sym parts) (writes_then begun.0.text (mid ++ second) (Err fault) a b c n m k begun.0.adds
        begun.1 more)

-- the front of a text could not be added
pub passes_front : (first rest old new newer : List ℕ) (fault : PutFault) (a b : Option (List ℕ)) (n m : ℕ) →
    Passes first (Err fault) old new a b n m → Passes (first ++ rest) (Err fault) old newer a b n m
passes_front first rest old new newer fault a b n m failed =
    subst (λ t. Writes t (Err fault) a b n m) (append_assoc old first rest) (writes_front (old ++ first) rest fault a b n m failed)

-- a front of a text was added, and the rest is still to come
pub record Passing (text rest old new : List ℕ) (a b : Option (List ℕ)) (n m : ℕ) : Type 0 where
  pub done : List ℕ
  pub parts : text ≡ done ++ rest
  pub passes : Passes done (Ok tt) old new a b n m

pub passing_none : (text block : List ℕ) (a : Option (List ℕ)) (n : ℕ) → Passing text text block block a a n n
passing_none text block a n = record { done = []; parts = refl; passes = passes_none block a n }

-- the next part was added
pub passing_more : (text rest first more old mid new : List ℕ) (a b c : Option (List ℕ)) (n m k : ℕ)
    → Passing text rest old mid a b n m → rest ≡ first ++ more → Passes first (Ok tt) mid new b c m k → Passing text more old new a c n k
passing_more text rest first more old mid new a b c n m k begun is next = record {
  done = begun.done ++ first;
  parts = begun.parts ∙ ap (λ t. begun.done ++ t) is ∙ sym (append_assoc begun.done first more);
  passes = passes_then begun.done first old mid new (Ok tt) a b c n m k begun.passes next;
}

-- the next part could not be added
pub passing_fails : (text rest first more old mid new newer : List ℕ) (fault : PutFault) (a b c : Option (List ℕ)) (n m k : ℕ)
    → Passing text rest old mid a b n m → rest ≡ first ++ more → Passes first (Err fault) mid new b c m k →
    Passes text (Err fault) old newer a c n k
passing_fails text rest first more old mid new newer fault a b c n m k begun is next =
    subst (λ t. Passes t (Err fault) old newer a c n k) (sym (begun.parts ∙ ap (λ t. begun.done ++ t) is))
    (passes_then begun.done (first ++ more) old mid newer (Err fault) a b c n m k begun.passes
    (passes_front first more mid new newer fault b c m k next))

-- the last part
pub passing_last : (text rest first old mid new : List ℕ) (r : Result (Unit {0}) PutFault) (a b c : Option (List ℕ)) (n m k : ℕ)
    → Passing text rest old mid a b n m → rest ≡ first → Passes first r mid new b c m k → Passes text r old new a c n k
passing_last text rest first old mid new r a b c n m k begun is last =
    subst (λ t. Passes t r old new a c n k) (sym (begun.parts ∙ ap (λ t. begun.done ++ t) is))
    (passes_then begun.done first old mid new r a b c n m k begun.passes last)

-- a block that is put, and then a text of its own
pub passes_put : (text old new : List ℕ) (r : Result (Unit {0}) PutFault) (a b c : Option (List ℕ)) (n m k : ℕ)
    → Adds old a b → m ≡ n → new ≡ [] → OnOk r (Adds text b c) → OnOk r (k ≡ m) → OnErr r (AddsFront text b c) → OnErr r (HasFailed m k) →
    Passes text r old new a c n k
passes_put text old new (Ok done) a b c n m k adds same empty whole unfailed front failed = (
  record {
    text = old ++ text;
    parts = sym (append-nil (old ++ text)) ∙ ap (λ rest. (old ++ text) ++ rest) (sym empty);
    adds = Appends-trans a b c old text adds whole;
  },
  unfailed ∙ same,
)
passes_put text old new (Err fault) a b c n m k adds same empty whole unfailed front failed =
    writes_then old text (Err fault) a b c n m k adds same (front, failed)

-- a text is added, and all that the block then holds is put
pub passes_written : (text old block : List ℕ) (r : Result (Unit {0}) PutFault) (a b c : Option (List ℕ)) (n m k : ℕ) →
    Passes text (Ok tt) old block a b n m → Writes block r b c m k → Writes (old ++ text) r a c n k
passes_written text old block r a b c n m k added put =
    subst (λ t. Writes t r a c n k) (sym added.0.parts) (writes_then added.0.text block r a b c n m k added.0.adds added.1 put)
