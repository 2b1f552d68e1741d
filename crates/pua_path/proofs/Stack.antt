-- Texts that lie one on another: what is left when one is read to its end, and when one is put on top.
use Rattle.pua_path.proofs.Common.{◌≡◌, ℕ, zero, suc, true, false, List, [], ◌∷◌, ◌++◌, length, refl, sym, ap, ◌∙◌, append_assoc, arith}
use Rattle.pua_path.proofs.Common.{take, ◌+◌, ◌-◌, ◌<◌, ◌≤◌, ◌==◌, nat_lt, Bor, list_all, parts_of, rest_parts, is_readable, has_no_part}
use Rattle.pua_path.proofs.Common.{after_slashes, and_parts, Part}
use Rattle.std.proofs.Common.{◌&&◌, ◌||◌, append-nil}
use Rattle.std.proofs.Common.{get_or, set, sub-one, eqb-true, ne_eqb}
use Rattle.std.proofs.Math.Seq.{take-suc}
use Rattle.std.proofs.lemmas.List.{take_more_set}
use Rattle.std.proofs.lemmas.List.Folds.{list_all-append}
use Rattle.pua_path.specs.Remaining.{pending_parts, can_wait, is_stack}
use Rattle.pua_path.proofs.Pieces.{rest_parts-some, parts_of-begin}
use Rattle.pua_path.specs.declared.text.Ending.TheVariants as ending

pub pending_last : (texts : List (Bor (List ℕ))) (text : Bor (List ℕ)) →
    pending_parts (texts ++ text ∷ []) ≡ rest_parts text.now ++ pending_parts texts
pending_last [] text = sym (append-nil (rest_parts text.now))
pending_last (t ∷ texts) text = rw (pending_last texts text) (append_assoc (rest_parts text.now) (pending_parts texts) (rest_parts t.now))

-- the stack of texts below, one lower
pub pending_popped : (depth : ℕ) (below : List (Bor (List ℕ))) (text : Bor (List ℕ)) → 0 < depth → depth ≤ length below →
    pending_parts (take depth below) ≡ rest_parts (get_or below (depth - 1) text).now ++ pending_parts (take (depth - 1) below)
pending_popped zero below text p l = absurd (omega (arith, p))
pending_popped (suc depth) below text p l = let lt : depth < length below = omega arith in
    rw (sub-one, take-suc below depth text, pending_last) refl

pub pending_pushed : (depth : ℕ) (below : List (Bor (List ℕ))) (text : Bor (List ℕ)) → depth < length below →
    pending_parts (take (depth + 1) (set below depth text)) ≡ rest_parts text.now ++ pending_parts (take depth below)
pending_pushed depth below text l = rw (take_more_set below depth text l, pending_last) refl

-- what a stack of texts is, in facts
pub record IsStack (top : List ℕ) (waiting : List (Bor (List ℕ))) : Type 0 where
  pub readable : is_readable top ≡ true
  pub waits : list_all can_wait waiting ≡ true
  pub reached : (nat_lt 0 (length top) || (length waiting == 0)) ≡ true

pub stack_facts : (top : List ℕ) (waiting : List (Bor (List ℕ))) → is_stack top waiting ≡ true → IsStack top waiting
stack_facts top waiting h =
    let two = and_parts (is_readable top) (list_all can_wait waiting && (nat_lt 0 (length top) || (length waiting == 0))) h in
    let more = and_parts (list_all can_wait waiting) (nat_lt 0 (length top) || (length waiting == 0)) two.1 in
    record { readable = two.0; waits = more.0; reached = more.1 }

pub stack_of : (top : List ℕ) (waiting : List (Bor (List ℕ))) → is_readable top ≡ true → list_all can_wait waiting ≡ true →
    (nat_lt 0 (length top) || (length waiting == 0)) ≡ true → is_stack top waiting ≡ true
stack_of top waiting r w e = rw (r, w, e) refl

-- an empty text on top has none below
pub nothing_below : (top : List ℕ) (waiting : List (Bor (List ℕ))) → is_stack top waiting ≡ true → (length top == 0) ≡ true →
    rest_parts top ++ pending_parts waiting ≡ []
nothing_below (x ∷ xs) waiting h e = absurd (omega (arith, eqb-true (length (x ∷ xs)) 0 e))
nothing_below [] [] h e = refl
nothing_below [] (text ∷ texts) h e = absurd (omega (arith, eqb-true (length (text ∷ texts)) 0 (stack_facts [] (text ∷ texts) h).reached))

is_done-append : (ps qs : List Part) → has_no_part ps ≡ false → has_no_part (ps ++ qs) ≡ false
is_done-append [] qs h = cc
is_done-append (p ∷ ps) qs h = refl

-- no part is left exactly where the text on top is empty
pub done_where_empty : (top : List ℕ) (waiting : List (Bor (List ℕ))) → is_stack top waiting ≡ true →
    (length top == 0) ≡ has_no_part (rest_parts top ++ pending_parts waiting)
done_where_empty [] waiting h = sym (ap has_no_part (nothing_below [] waiting h refl))
done_where_empty (x ∷ xs) waiting h = ne_eqb (length (x ∷ xs)) 0 (λ e. omega (arith, e)) ∙
    sym (is_done-append (rest_parts (x ∷ xs)) (pending_parts waiting) (rest_parts-some x xs))

-- the first part is taken off, and the text has more
pub taken_off : (top rest : List ℕ) (part : Part) (waiting : List (Bor (List ℕ))) → rest_parts top ≡ part ∷ rest_parts rest →
    rest_parts top ++ pending_parts waiting ≡ part ∷ (rest_parts rest ++ pending_parts waiting)
taken_off top rest part waiting e = ap (λ parts. parts ++ pending_parts waiting) e

-- the same, where the text is read to its end and another lies below
pub taken_off_last : (top rest : List ℕ) (part : Part) (depth : ℕ) (below : List (Bor (List ℕ))) (text : Bor (List ℕ)) →
    rest_parts top ≡ part ∷ rest_parts rest → (length rest == 0) ≡ true → 0 < depth → depth ≤ length below →
    rest_parts top ++ pending_parts (take depth below) ≡ part
    ∷ (rest_parts (get_or below (depth - 1) text).now ++ pending_parts (take (depth - 1) below))
taken_off_last top (x ∷ xs) part depth below text e n p l = absurd (omega (arith, eqb-true (length (x ∷ xs)) 0 n))
taken_off_last top [] part depth below text e n p l = taken_off top [] part (take depth below) e ∙
    ap (λ parts. part ∷ parts) (pending_popped depth below text p l)

-- one text more, and the one that was on top waits
pub stack_pushed : (top : Bor (List ℕ)) (text : List ℕ) (depth : ℕ) (below : List (Bor (List ℕ))) →
    is_stack top.now (take depth below) ≡ true → nat_lt 0 (length top.now) ≡ true → depth < length below → is_readable text ≡ true →
    nat_lt 0 (length text) ≡ true → is_stack text (take (depth + 1) (set below depth top)) ≡ true
stack_pushed top text depth below h n l r e =
    let facts = stack_facts top.now (take depth below) h in
    let waits : list_all can_wait (take (depth + 1) (set below depth top)) ≡ true =
    rw (take_more_set below depth top l, list_all-append, facts.waits, n, facts.readable) refl in
    stack_of text (take (depth + 1) (set below depth top)) r waits (rw e refl)

pub stack_on_empty : (top text : List ℕ) (waiting : List (Bor (List ℕ))) → is_stack top waiting ≡ true → is_readable text ≡ true →
    nat_lt 0 (length text) ≡ true → is_stack text waiting ≡ true
stack_on_empty top text waiting h r e = stack_of text waiting r (stack_facts top waiting h).waits (rw e refl)

-- the text on top is read to its end, and the one below it is on top
pub stack_popped : (top : List ℕ) (depth : ℕ) (below : List (Bor (List ℕ))) (text : Bor (List ℕ)) → is_stack top (take depth below) ≡ true →
    0 < depth → depth ≤ length below →
    is_stack (get_or below (depth - 1) text).now (take (depth - 1) below) ≡ true
stack_popped top zero below text h p l = absurd (omega (arith, p))
stack_popped top (suc depth) below text h p l =
    let lt : depth < length below = omega arith in
    let next = get_or below depth text in
    let waits = rw (take-suc below depth text lt, list_all-append) at (stack_facts top (take (suc depth) below) h).waits in
    let two = and_parts (list_all can_wait (take depth below)) (can_wait next && true) waits in
    let can = and_parts (nat_lt 0 (length next.now)) (is_readable next.now) (and_parts (can_wait next) true two.1).0 in
    rw sub-one (stack_of next.now (take depth below) can.1 two.0 (rw can.0 refl))

-- a target's parts come before those of the text that was on top
pub parts_pushed : (target text : List ℕ) (top : Bor (List ℕ)) (depth : ℕ) (below : List (Bor (List ℕ))) → text ≡ after_slashes target →
    depth < length below →
    rest_parts text ++ pending_parts (take (depth + 1) (set below depth top)) ≡ parts_of ending.Dot target
    ++ (rest_parts top.now ++ pending_parts (take depth below))
parts_pushed target text top depth below e l =
    ap (λ parts. rest_parts text ++ parts) (pending_pushed depth below top l)
    ∙ ap (λ parts. parts ++ (rest_parts top.now ++ pending_parts (take depth below))) (ap rest_parts e ∙ sym (parts_of-begin target))

pub parts_on_empty : (target text top : List ℕ) (waiting : List (Bor (List ℕ))) → text ≡ after_slashes target → (length top == 0) ≡ true →
    rest_parts text ++ pending_parts waiting ≡ parts_of ending.Dot target ++ (rest_parts top ++ pending_parts waiting)
parts_on_empty target text (x ∷ xs) waiting e n = absurd (omega (arith, eqb-true (length (x ∷ xs)) 0 n))
parts_on_empty target text [] waiting e n = ap (λ parts. parts ++ pending_parts waiting) (ap rest_parts e ∙ sym (parts_of-begin target))
