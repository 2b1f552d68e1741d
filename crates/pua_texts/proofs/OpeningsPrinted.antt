-- Each opening of a promise has its line.
use Rattle.pua_texts.proofs.Common.{◌≡◌, ◌∙◌, ◌∷◌, ◌++◌, [], ℕ, List, Bool, true, false, ap, sym, subst, refl, cond, flat_map, map, Some, None}
use Rattle.pua_texts.proofs.Common.{if◌then◌else◌, append_assoc, arith, CallTable, Call, ProcessState}
use Rattle.std.proofs.Common.{zero, suc, filter}
use Rattle.std.proofs.lemmas.Bool.{and_parts, false≢true}
use Rattle.std.specs.Prelude.{Result, Ok, Err, unwrap_or, ◌&&◌, ◌||◌, ◌==◌, find, not}
use Rattle.std.specs.List.{Contains, list_any, list_all}
use Rattle.std.proofs.lemmas.Bool.{eqb-true}
use lib.Pointwise.{bytes_decides}
use Rattle.pua_tree.specs.Names.{same_bytes}
use Rattle.pua_tree.proofs.Base.{same_word}
use Rattle.pua_path.specs.declared.errno.Errno.{Errno}
use Rattle.pua_calls.specs.Promises.{holds, keyword_rows, keywords_of, no_promises, promises_of}
use Rattle.pua_calls.specs.Calls.{about_rules}
use Rattle.pua_calls.specs.declared.rules.Rules.{Rules}
use Rattle.pua_policy.specs.States.{held_for_exec, held_set, is_ended, pledged_set}
use Rattle.pua_policy.proofs.ForCallers.{holds_through}
use Rattle.pua_ever.specs.declared.lasting_list.ExecBound.{ExecBound}
use Rattle.pua_ever.specs.declared.lasting_list.ExecBound.TheVariants.{Never, Bounded, Open}
use Rattle.pua_ever.proofs.ForCallers.{first_of}
use Rattle.std.specs.Prelude.{bit_or, codes}
use Rattle.pua_script.specs.OpeningLaws.{may_open}
use Rattle.pua_script.specs.Openings.{Opening, holds_named, is_opening, opening_of, openings, opens_call}
use Rattle.pua_texts.specs.Openings.{line_if, opened_by, opening_line, opening_lines}
use Rattle.pua_texts.specs.Lines.{with_end}
use Rattle.pua_texts.specs.States.{HasOpening, OpeningsArePrinted, execs_told, held_lines, living_lines, opening_set, openings_told}
use Rattle.pua_texts.specs.States.{own_lines, receives_told, unveiled_line}
use Rattle.pua_texts.specs.declared.state.Heading.{Heading}
use Rattle.pua_texts.specs.declared.state.Time.{Time}
use Rattle.pua_texts.specs.declared.state.Time.TheVariants.{Now, Ever}
use Rattle.pua_texts.proofs.StateLaw.{passing}

-- a piece among the pieces of a text
pub in_pieces : {A : Type 0} (f : A → List ℕ) (xs : List A) (x : A) → Contains xs x →
    (before : List ℕ) × (after : List ℕ) × (flat_map f xs ≡ before ++ f x ++ after)
in_pieces f [] x (k, low, is) = absurd (omega (arith, low))
in_pieces f (y ∷ xs) x (zero, low, is) = ([], flat_map f xs, ap (λ u. f u ++ flat_map f xs) is)
in_pieces f (y ∷ xs) x (suc k, low, is) =
    let rest = in_pieces f xs x (k, omega (arith, low), is) in (
      f y ++ rest.0,
      rest.1,
      ap (λ lines. f y ++ lines) rest.2 ∙ here (f y) rest.0 (f x) rest.1,
    )
  where
    here : (a b c d : List ℕ) → a ++ (b ++ c ++ d) ≡ (a ++ b) ++ c ++ d
    here a b c d = search (append_assoc)

-- a line within one of the pieces
within : (a b line c d : List ℕ) → a ++ (b ++ line ++ c) ++ d ≡ (a ++ b) ++ line ++ (c ++ d)
within a b line c d = search (append_assoc)

in_map : {A B : Type 0} (f : A → B) (xs : List A) (x : A) → Contains xs x → Contains (map f xs) (f x)
in_map f [] x (k, low, is) = absurd (omega (arith, low))
in_map f (y ∷ xs) x (zero, low, is) = (zero, omega arith, ap f is)
in_map f (y ∷ xs) x (suc k, low, is) = let rest = in_map f xs x (k, omega (arith, low), is) in (suc rest.0, omega (arith, rest.1), rest.2)

-- what some element passes, and what is found
some_of : {A : Type 0} (test : A → Bool) (xs : List A) → list_any test xs ≡ true → (x : A) × Contains xs x × (test x ≡ true)
some_of test [] e = absurd (false≢true e)
some_of {A = A} test (x ∷ xs) e = by (test x) refl (some_of test xs) e
  where
    by : (b : Bool) → test x ≡ b → (list_any test xs ≡ true → (y : A) × Contains xs y × (test y ≡ true)) →
        (b || list_any test xs) ≡ true → (y : A) × Contains (x ∷ xs) y × (test y ≡ true)
    by true is more e = (x, (zero, omega arith, refl), is)
    by false is more e = let found = more e in (found.0, (suc found.1.0, omega (arith, found.1.1), found.1.2), found.2)

found_of : {A : Type 0} (test : A → Bool) (xs : List A) (x : A) → find test xs ≡ Some x → Contains xs x × (test x ≡ true)
found_of test [] x e = cc
found_of test (y ∷ xs) x e = by (test y) refl (found_of test xs x) e
  where
    by : (b : Bool) → test y ≡ b → (find test xs ≡ Some x → Contains xs x × (test x ≡ true)) →
        cond b (Some y) (find test xs) ≡ Some x → Contains (y ∷ xs) x × (test x ≡ true)
    by true is more e = let same : y ≡ x = cc in ((zero, omega arith, same), ap test (sym same) ∙ is)
    by false is more e = let found = more e in ((suc found.0.0, omega (arith, found.0.1), found.0.2), found.1)

-- the keyword of an opening's promise has its row
abbrev is_set : ℕ → Result ℕ Errno → Bool
is_set set (Ok one) = one == set
is_set set (Err errno) = false

abbrev is_row_of : Opening → List ℕ × ℕ → Bool
is_row_of o row = same_bytes row.0 o.promise && is_set row.1 (promises_of o.promise)

abbrev has_row : Opening → Bool
has_row o = list_any (is_row_of o) keyword_rows

each_has_row : (os : List Opening) → list_all has_row os ≡ true → (o : Opening) → Contains os o → has_row o ≡ true
each_has_row [] all o (k, low, is) = absurd (omega (arith, low))
each_has_row (p ∷ os) all o (zero, low, is) = ap has_row (sym is) ∙ (and_parts (has_row p) (list_all has_row os) all).0
each_has_row (p ∷ os) all o (suc k, low, is) =
    each_has_row os (and_parts (has_row p) (list_all has_row os) all).1 o (k, omega (arith, low), is)

rows_are : list_all has_row openings ≡ true
rows_are = refl

held_row : (held set : ℕ) (r : Result ℕ Errno) → is_set set r ≡ true → holds_named held r ≡ true → holds held set ≡ true
held_row held set (Ok one) is has = ap (holds held) (sym (eqb-true one set is)) ∙ has
held_row held set (Err errno) is has = absurd (false≢true is)

-- each opening of a promise that is held has its line
pub line_of_held : (held : ℕ) (o : Opening) → Contains openings o → holds_named held (promises_of o.promise) ≡ true →
    HasOpening (opening_lines (keywords_of held)) o
line_of_held held o there has =
    let row = some_of (is_row_of o) keyword_rows (each_has_row openings rows_are o there) in
    let parts = and_parts (same_bytes row.0.0 o.promise) (is_set row.0.1 (promises_of o.promise)) row.2 in
    let keyword : row.0.0 ≡ o.promise = same_word row.0.0 o.promise parts.0 in
    let passes : holds held row.0.1 ≡ true = held_row held row.0.1 (promises_of o.promise) parts.1 has in
    let kept = passing (λ (row : List ℕ × ℕ). holds held row.1) keyword_rows row.0 row.1 passes in
    let named : Contains (keywords_of held) row.0.0 = in_map (λ (row : List ℕ × ℕ). row.0) (filter (λ row. holds held row.1) keyword_rows) row.0 kept in
    let outer = in_pieces opened_by (keywords_of held) row.0.0 named in
    let inner = in_pieces (line_if row.0.0) openings o there in
    let own : line_if row.0.0 o ≡ opening_line o =
    ap (λ word. if same_bytes o.promise word then opening_line o else []) keyword ∙ ap (λ b. if b then opening_line o else []) (same_self o.promise) in (
      outer.0 ++ inner.0,
      inner.1 ++ outer.1,
      outer.2 ∙ ap (λ lines. outer.0 ++ lines ++ outer.1) inner.2 ∙ ap (λ line. outer.0 ++ (inner.0 ++ line ++ inner.1) ++ outer.1) own
          ∙ within outer.0 inner.0 (opening_line o) inner.1 outer.1,
    )
  where
    same_self : (word : List ℕ) → same_bytes word word ≡ true
    same_self word = (bytes_decides word word).1 refl

-- among what a list says of a process that has not ended
in_own : (head : Heading) (root : List ℕ) (h : ProcessState) (o : Opening) → is_ended h ≡ false → HasOpening (openings_told head.rules head.time h) o →
    HasOpening (own_lines head root h) o
in_own head root h o lives has =
    let alive = with_end (codes "process alive") in
    let held = held_lines head.rules h in
    let execs = execs_told head.time in
    let receives = receives_told head.rules head.time h in (
      alive ++ held ++ execs ++ receives ++ root ++ has.0,
      has.1 ++ unveiled_line h,
      ap (λ (ended : Bool). if ended then with_end (codes "process ended") else living_lines head root h) lives
          ∙ ap (λ told. alive ++ held ++ (execs ++ receives ++ root ++ told ++ unveiled_line h)) has.2
          ∙ parts alive held execs receives root has.0 (opening_line o) has.1 (unveiled_line h),
    )
  where
    parts : (a p e f r b line c u : List ℕ) →
        a ++ p ++ (e ++ f ++ r ++ (b ++ line ++ c) ++ u) ≡ (a ++ p ++ e ++ f ++ r ++ b) ++ line ++ (c ++ u)
    parts a p e f r b line c u = search (append_assoc)

told : (rules : Rules) (time : Time) (h : ProcessState) (o : Opening) → (about_rules rules).has_openings ≡ true →
    Contains openings o → holds_named (opening_set time h) (promises_of o.promise) ≡ true → HasOpening (openings_told rules time h) o
told rules time h o by_these there has =
    subst (λ (b : Bool). HasOpening (if b then opening_lines (keywords_of (opening_set time h)) else []) o) (sym by_these)
    (line_of_held (opening_set time h) o there has)

each : (head : Heading) (root : List ℕ) (h : ProcessState) (o : Opening) → is_ended h ≡ false → (about_rules head.rules).has_openings ≡ true →
    Contains openings o → holds_named (opening_set head.time h) (promises_of o.promise) ≡ true → HasOpening (own_lines head root h) o
each head root h o lives by_these there has = in_own head root h o lives (told head.rules head.time h o by_these there has)

now : (head : Heading) (root : List ℕ) (table : CallTable) (h : ProcessState) (call : Call) (text : List ℕ) (o : Opening) →
    table.whose ≡ head.rules → head.time ≡ Now → opening_of table h call text ≡ Some o →
    (opens_call call text o ≡ true) × HasOpening (own_lines head root h) o
now head root table h call text o whose at is =
    by (about_rules table.whose).has_openings refl h.ended refl is
  where
    by : (b : Bool) → (about_rules table.whose).has_openings ≡ b → (ended : Bool) → h.ended ≡ ended →
        (if b && not ended then find (is_opening (unwrap_or (pledged_set h) no_promises) call text) openings else None)
        ≡ Some o →
        (opens_call call text o ≡ true) × HasOpening (own_lines head root h) o
    by true by_these false lives e =
        let set = unwrap_or (pledged_set h) no_promises in
        let found = found_of (is_opening set call text) openings o e in
        let parts = and_parts (opens_call call text o) (holds_named set (promises_of o.promise)) found.1 in (
          parts.0,
          each head root h o lives (ap (λ (rules : Rules). (about_rules rules).has_openings) (sym whose) ∙ by_these) found.0
              (ap (λ time. holds_named (opening_set time h) (promises_of o.promise)) at ∙ parts.1),
        )
    by true by_these true lives e = cc
    by false by_these ended lives e = cc

-- the promises of a list for ever are those that the process holds, and others
held_ever : (execs : ExecBound) (h : ProcessState) (r : Result ℕ Errno) → holds_named (held_set h) r ≡ true →
    holds_named (opening_set (Ever execs) h) r ≡ true
held_ever Never h r has = has
held_ever Open h r has = has
held_ever Bounded h (Ok set) has =
    let given = unwrap_or (held_for_exec h) no_promises in
    holds_through (bit_or (held_set h) given) (held_set h) set (first_of (held_set h) given) has
held_ever Bounded h (Err errno) has = has

ever : (head : Heading) (root : List ℕ) (execs : ExecBound) (h : ProcessState) (call : Call) (text : List ℕ) → is_ended h ≡ false →
    head.time ≡ Ever execs → (about_rules head.rules).has_openings ≡ true → may_open h call text ≡ true →
    (o : Opening) × (opens_call call text o ≡ true) × HasOpening (own_lines head root h) o
ever head root execs h call text lives at by_these may =
    let found = some_of (is_opening (held_set h) call text) openings may in
    let parts = and_parts (opens_call call text found.0) (holds_named (held_set h) (promises_of found.0.promise)) found.2 in (
      found.0,
      parts.0,
      each head root h found.0 lives by_these found.1 (ap (λ time. holds_named (opening_set time h) (promises_of found.0.promise)) at
          ∙ held_ever execs h (promises_of found.0.promise) parts.1),
    )

pub openings_are_printed : OpeningsArePrinted
openings_are_printed = record { told = told; each = each; now = now; ever = ever }
