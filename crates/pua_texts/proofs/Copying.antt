-- Copies to places of one buffer, one after another.
use Rattle.std.proofs.Common.{◌≡◌, ℕ, ◌+◌, ◌-◌, ◌≤◌, List, ◌++◌, length, take, drop, ap, sym, subst, ◌∙◌, arith, append_assoc}
use Rattle.std.proofs.Common.{length-append, length-take-le, length-drop, take-add, take-take, take_at, drop_at, take_all, take-append-drop}
use borrow.Rule.Slice.PartMut.{put_mid, same_len_mid}
use Rattle.std.proofs.lemmas.Slice.{take-put_mid}
use Rattle.pua_texts.specs.Copied.{Copied}

-- how many bytes a part of a buffer has
pub length_part : (at n : ℕ) (a : List ℕ) → at + n ≤ length a → length (take (at + n - at) (drop at a)) ≡ n
length_part at n a fits = omega (arith, length-take-le (at + n - at) (drop at a) (omega (arith, fits, length-drop at a)))

-- what was written to a part of a buffer is copied there
pub copied_part : (at n : ℕ) (a xs text : List ℕ) → xs ≡ text → length text ≡ n → at + n ≤ length a →
    Copied a (put_mid at (at + n - at) a xs) at text (at + n)
copied_part at n a xs text is many fits =
    let long : length xs ≡ n = ap length is ∙ many in
    record {
      front = take-put_mid at (at + n - at) a xs (at + n) (omega (arith, long)) (omega (arith, fits)) ∙ ap (λ l. take at a ++ l) is;
      ends = omega (arith, many);
      len = same_len_mid at (at + n - at) a xs (omega (arith, long, length_part at n a fits));
    }

-- a copy of as many bytes as there were leaves only them
pub copied_whole : {a b text : List ℕ} {k : ℕ} → length text ≡ length a → Copied a b 0 text k → b ≡ text
copied_whole {a} {b} {text} {k} same p = sym (take_all k b (omega (arith, p.ends, p.len, same))) ∙ p.front

-- a second copy begins where the first ended
pub copied_then : {a b c xs ys : List ℕ} {i j k : ℕ} → Copied a b i xs j → Copied b c j ys k → Copied a c i (xs ++ ys) k
copied_then {a} {b} {c} {xs} {ys} {i} p q = record {
  front = q.front ∙ ap (λ l. l ++ ys) p.front ∙ append_assoc (take i a) xs ys;
  ends = omega (arith, p.ends, q.ends, length-append xs ys);
  len = q.len ∙ p.len;
}

-- only the first n bytes of a copy count
pub copied_less : {a b xs : List ℕ} {i j : ℕ} (n : ℕ) → i ≤ length a → n ≤ length xs → Copied a b i xs j → Copied a b i (take n xs) (i + n)
copied_less {a} {b} {xs} {i} {j} n within few p =
    let front = length-take-le i a within in
    record {
      front = sym (take-take (i + n) j b (omega (arith, p.ends))) ∙ ap (take (i + n)) p.front ∙ take-add i n (take i a ++ xs)
          ∙ (λ k. take_at (take i a) xs i front k ++ take n (drop_at (take i a) xs i front k));
      ends = omega (arith, length-take-le n xs few);
      len = p.len;
    }

-- the first and the last bytes of a text, which may overlap, are all of it
pub copied_ends : {a b c : List ℕ} {j k : ℕ} (text : List ℕ) (many : ℕ) → length text ≡ length a → many ≤ length text →
    length text ≤ many + many → Copied a b 0 (take many text) j →
    Copied b c (length text - many) (take many (drop (length text - many) text)) k → c ≡ text
copied_ends {a} {b} {c} {j} {k} text many same fits covers p q =
    let last = length text - many in
    let first : Copied a b 0 (take last (take many text)) last =
    subst (Copied a b 0 (take last (take many text))) (omega arith)
    (copied_less last (omega arith) (omega (arith, length-take-le many text fits)) p) in
    let both = copied_then first q in
    let whole : take last (take many text) ++ take many (drop last text) ≡ text =
    (λ x. take-take last many text (omega arith) x ++ take_all many (drop last text) (omega (arith, length-drop last text)) x)
    ∙ take-append-drop last text in
    copied_whole (omega (arith, ap length whole, same)) both ∙ whole
