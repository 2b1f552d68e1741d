use Rattle.pua_audit.proofs.Common.{◌≡◌, ◌≤◌, ◌+◌, ◌*◌, refl, arith, subst, ℕ, suc, List, [], sym, ap, ◌∙◌, map, length, Result, Ok}
use Rattle.pua_audit.proofs.Common.{Err, IfSome, lent_entry, Tree, part_cost, Scope, rest_after, live_states, scope_in}
use Rattle.pua_audit.proofs.Common.{AreLetters, AuditFault, Terms}
use Rattle.std.specs.Prelude.{option_map}
use Rattle.pua_path.specs.Counts.{one_more}
use Rattle.pua_steps.specs.Limits.{search_cost}
use Rattle.pua_audit.specs.Begin.{Beginning, beginning}
use Rattle.pua_audit.specs.Bounds.{begin_cost, letter_count, pairs_cost}
use Rattle.pua_audit.specs.Starting.{pair_in, scope_with, beginning_with}
use Rattle.pua_audit.proofs.audit.Audit.begin.Goals as goal

pub returns-clause-begun : goal.returns-clause-begun
returns-clause-begun g c =
    let h = c.args.process.now in
    let t : Tree = g.P.Probe.tree c.args.probe.now in
    let base = c.args.base in
    let limit = c.args.limit in
    let after = c.in_ok-letters.field-0.after in
    let letters : List (List ℕ) = c.in_ok-letters.field-0.letters in
    let b : Beginning = beginning_with t c.args.table.now h base limit c.in_ok-letters.field-0 in
    let known : c.in_ok-terms.terms.letters ≡ letters = c.in_ok-terms.ensures.letters in (
      b,
      (
        (subst (λ (u : Tree). beginning u c.args.table.now h c.args.base (map (λ s. s.now) c.args.candidates.now) c.args.limit
            (option_map (λ s. s.now) c.args.after)
            ≡ Ok (beginning_with u c.args.table.now h c.args.base c.args.limit c.in_ok-letters.field-0)) c.in_ok-rows.ensures.tree
            (c.in_ok-letters.ensures.begun h)),
        c.in_ok-pairs.ensures.left
            ∙ ap (λ (ls : List (List ℕ)). rest_after (scope_in c.in_ok-terms.terms) (option_map (pair_in ls) after)) known
            ∙ ap (λ (s : Scope). rest_after s (option_map (pair_in letters) after)) c.in_ok-terms.ensures.scope
            ∙ ap (λ (u : Tree). rest_after (scope_with u c.args.table.now h base limit letters)
            (option_map (pair_in letters) after)) c.in_ok-rows.ensures.tree,
        refl,
      ),
    )

pub invariant_of-result : goal.invariant_of-result
invariant_of-result g c = c.in_ok-pairs.ensures.ready

abbrev alphabet_in : Result Beginning AuditFault → List (List ℕ)
alphabet_in (Ok b) = b.scope.alphabet
alphabet_in (Err fault) = []

pub returns-clause-letters : goal.returns-clause-letters
returns-clause-letters g c = λ h b is.
    ap (λ (u : Terms). u.letters) c.in_ok-pairs.ensures.terms
    ∙ c.in_ok-terms.ensures.letters
    ∙ ap alphabet_in (sym
    ((subst (λ (u : Tree). beginning u c.args.table.now h c.args.base (map (λ s. s.now) c.args.candidates.now) c.args.limit
    (option_map (λ s. s.now) c.args.after) ≡ Ok (beginning_with u c.args.table.now h c.args.base c.args.limit c.in_ok-letters.field-0))
    c.in_ok-rows.ensures.tree (c.in_ok-letters.ensures.begun h))) ∙ is)

abbrev live_in : Result Beginning AuditFault → ℕ
live_in (Ok b) = length (live_states b.scope)
live_in (Err fault) = 0

pub returns-clause-live : goal.returns-clause-live
returns-clause-live g c = λ b is.
    let h = c.args.process.now in
    let base = c.args.base in
    let limit = c.args.limit in
    let letters : List (List ℕ) = c.in_ok-letters.field-0.letters in
    c.in_ok-pairs.ensures.live
    ∙ ap (λ (s : Scope). length (live_states s)) c.in_ok-terms.ensures.scope
    ∙ ap (λ (u : Tree). length (live_states (scope_with u c.args.table.now h base limit letters))) c.in_ok-rows.ensures.tree
    ∙ ap live_in (sym ((subst (λ (u : Tree). beginning u c.args.table.now h c.args.base (map (λ s. s.now) c.args.candidates.now)
    c.args.limit (option_map (λ s. s.now) c.args.after)
    ≡ Ok (beginning_with u c.args.table.now h c.args.base c.args.limit c.in_ok-letters.field-0)) c.in_ok-rows.ensures.tree
    (c.in_ok-letters.ensures.begun h))) ∙ is)

pub begin-requires : goal.begin-requires
begin-requires g c κs =
    let terms : Terms = c.in_ok-terms.terms in
    let checked = c.in_ok-letters.ensures.sound in
    let after = c.in_ok-letters.field-0.after in
    let same : terms.seen.tree ≡ g.P.Probe.tree c.rows.new.self = ap (λ (s : Scope). s.tree) c.in_ok-terms.ensures.scope in
    let items : terms.letters ≡ c.in_ok-letters.field-0.letters = c.in_ok-terms.ensures.letters in
    let rows : map lent_entry c.deref-2.result.now ≡ terms.seen.tree.rows =
    ap (map lent_entry) c.deref-2.ensures.value ∙ c.in_ok-rows.ensures.rows
    ∙ ap (λ (t : Tree). t.rows) (sym (same ∙ c.in_ok-rows.ensures.tree)) in
    let word : IfSome after (λ r. AreLetters terms.letters terms.limit r.word.items) =
    subst (λ (n : ℕ). IfSome after (λ r. AreLetters terms.letters n r.word.items)) (sym c.in_ok-terms.ensures.limit)
    (subst (λ (ls : List (List ℕ)). IfSome after (λ r. AreLetters ls c.args.limit r.word.items)) (sym items)
    checked.after) in
    ((refl, tt), (c.in_ok-terms.ensures.tree ∙ sym same, (rows, word)))

pub returns-clause-reads : goal.returns-clause-reads
returns-clause-reads g c =
    subst (λ (n : ℕ). c.in_ok-pairs.pairs.walk.tables.counted.reads ≤ search_cost * n) c.in_ok-terms.ensures.limit c.in_ok-pairs.ensures.reads

-- the looks at the tree

one_look : (old asked : ℕ) → asked ≡ one_more old → asked ≤ old + 1
one_look old asked is = omega (arith, is)

within_beginning : (nodes part letters limit : ℕ)
    → (suc (nodes * ((nodes + 1) + letters * (2 + 2 * (part + (nodes + 1))))) + (nodes + 2)) + 2
    ≤ 33 * (nodes * (suc limit * (suc letters * (16 * (part + (nodes + 4))))))
    + 2 * (suc limit * (suc letters * (16 * (part + (nodes + 4)))))
within_beginning nodes part letters limit = omega arith

pairs_within : (t : Tree) (letters limit : ℕ) → pairs_cost t letters + 2 ≤ begin_cost t limit letters
pairs_within t letters limit = within_beginning (length t.nodes) (part_cost t) letters limit

asked_within : (old asked pairs most : ℕ) → asked ≤ old + 2 → pairs + 2 ≤ most → asked ≤ old + most
asked_within old asked pairs most asked_by within = omega arith

two_looks : (old asked more : ℕ) → asked ≡ one_more old → more ≤ asked + 1 → more ≤ old + 2
two_looks old asked more is one = omega (arith, one_look old asked is, one)

asked_once : (old asked limit many : ℕ) (t : Tree) → asked ≡ one_more old → asked ≤ old + begin_cost t limit many
asked_once old asked limit many t is =
    asked_within old asked (pairs_cost t many) (begin_cost t limit many) (omega (arith, one_look old asked is)) (pairs_within t many limit)

asked_twice : (old asked more limit many : ℕ) (t : Tree) → asked ≡ one_more old → more ≤ asked + 1 → more ≤ old + begin_cost t limit many
asked_twice old asked more limit many t is one =
    asked_within old more (pairs_cost t many) (begin_cost t limit many) (two_looks old asked more is one) (pairs_within t many limit)

all_within : (old more new pairs most : ℕ) → more ≤ old + 2 → new ≤ more + pairs → pairs + 2 ≤ most → new ≤ old + most
all_within old more new pairs most two further within = omega arith

begun_within : (old asked more new limit letters many : ℕ) (t seen : Tree) → asked ≡ one_more old → more ≤ asked + 1 → seen ≡ t
    → letters ≡ many
    → new ≤ more + pairs_cost seen letters
    → new ≤ old + begin_cost t limit many
begun_within old asked more new limit letters many t seen is one same count further =
    all_within old more new (pairs_cost t many) (begin_cost t limit many) (two_looks old asked more is one)
    (subst (λ (u : Tree). new ≤ more + pairs_cost u many) same (subst (λ (n : ℕ). new ≤ more + pairs_cost seen n) count further))
    (pairs_within t many limit)

pub returns-in_err-rows-clause-cost : goal.returns-in_err-rows-clause-cost
returns-in_err-rows-clause-cost g c =
    let t : Tree = g.P.Probe.tree c.args.probe.now in
    asked_once _ _ c.args.limit (letter_count t (map (λ s. s.now) c.args.candidates.now)) t c.rows.ensures.count

pub returns-in_err-letters-clause-cost : goal.returns-in_err-letters-clause-cost
returns-in_err-letters-clause-cost g c =
    let t : Tree = g.P.Probe.tree c.args.probe.now in
    asked_once _ _ c.args.limit (letter_count t (map (λ s. s.now) c.args.candidates.now)) t c.rows.ensures.count

pub returns-in_err-terms-clause-cost : goal.returns-in_err-terms-clause-cost
returns-in_err-terms-clause-cost g c =
    let t : Tree = g.P.Probe.tree c.args.probe.now in
    asked_twice _ _ _ c.args.limit (letter_count t (map (λ s. s.now) c.args.candidates.now)) t c.rows.ensures.count c.new.ensures.cost

pub returns-in_err-pairs-clause-cost : goal.returns-in_err-pairs-clause-cost
returns-in_err-pairs-clause-cost g c =
    let t : Tree = g.P.Probe.tree c.args.probe.now in
    let terms : Terms = c.in_ok-terms.terms in
    let texts : List (List ℕ) = map (λ s. s.now) c.args.candidates.now in
    let same : terms.seen.tree ≡ t = ap (λ (s : Scope). s.tree) c.in_ok-terms.ensures.scope ∙ c.in_ok-rows.ensures.tree in
    let count : length terms.letters ≡ letter_count t texts =
    ap length c.in_ok-terms.ensures.letters ∙ c.in_ok-letters.ensures.many
    ∙ ap (λ (u : Tree). letter_count u texts) c.in_ok-rows.ensures.tree in
    begun_within _ _ _ _ c.args.limit (length terms.letters) (letter_count t texts) t terms.seen.tree c.in_ok-rows.ensures.count
    c.in_ok-terms.ensures.cost same count c.begin.ensures.cost

pub returns-clause-cost : goal.returns-clause-cost
returns-clause-cost g c =
    let t : Tree = g.P.Probe.tree c.args.probe.now in
    let terms : Terms = c.in_ok-terms.terms in
    let texts : List (List ℕ) = map (λ s. s.now) c.args.candidates.now in
    let same : terms.seen.tree ≡ t = ap (λ (s : Scope). s.tree) c.in_ok-terms.ensures.scope ∙ c.in_ok-rows.ensures.tree in
    let count : length terms.letters ≡ letter_count t texts =
    ap length c.in_ok-terms.ensures.letters ∙ c.in_ok-letters.ensures.many
    ∙ ap (λ (u : Tree). letter_count u texts) c.in_ok-rows.ensures.tree in
    begun_within _ _ _ _ c.args.limit (length terms.letters) (letter_count t texts) t terms.seen.tree c.in_ok-rows.ensures.count
    c.in_ok-terms.ensures.cost same count c.begin.ensures.cost
