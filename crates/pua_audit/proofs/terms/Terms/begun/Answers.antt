use Rattle.pua_audit.proofs.Common.{◌≡◌, ◌<◌, ◌≤◌, ◌∙◌, ◌+◌, ◌*◌, ℕ, List, Option, None, Some, length, map, refl, sym, ap, subst, arith}
use Rattle.pua_audit.proofs.Common.{AllByRecursion, true, Tree, is_dir, Found, has, cover_in, ProcessState, cover, is_allowed, Call, pairs_at}
use Rattle.pua_audit.proofs.Common.{pair_in_numbers, pair_in_letters, Judge, base_dir, reach, judge_in, scope_in, IfSome}
use Rattle.pua_audit.proofs.Common.{IsTrue, AreLetters, IsTableOf, live_count, IsPair, Steps}
use Rattle.pua_path.specs.Fits.{FoundFits}
use Rattle.pua_policy.specs.Verdict.{verdict}
use Rattle.pua_policy.proofs.ForCallers.{covers_descend}
use Rattle.pua_audit.specs.Bounds.{table_cost}
use Rattle.pua_audit.specs.Coming.{pairs_resumed}
use Rattle.pua_audit.specs.Judge.{base_way, is_open}
use Rattle.pua_audit.specs.declared.resume_text.Resumption.{Resumption}
use Rattle.pua_audit.proofs.AfterPair.{scope_after, pairs_stay}
use Rattle.pua_audit.proofs.Begun.{begun_reach, begun_live, known_below, table_fits}
use Rattle.pua_audit.proofs.Starts.{lives, all_along, audited}
use Rattle.pua_steps.proofs.ForCallers.{reach_is_within}
use Rattle.pua_steps.specs.Graph as graph
use Rattle.pua_steps.specs.Limits.{search_cost}
use Rattle.pua_steps.specs.Lists.{AreListsOf}
use Rattle.pua_steps.specs.Live.{IsSized}
use Rattle.pua_steps.specs.Table.{IsState, IsTable, graph_of}
use Rattle.pua_audit.proofs.terms.Terms.begun.Goals as goal

pub table-requires : goal.table-requires
table-requires g c κs =
    let a = c.args.self.now in
    let opened : is_open (scope_in a) ≡ true = sym c.is_open.ensures.open ∙ c.if-not-is_open.false in
    let t : Tree = a.seen.tree in
    let h : ProcessState = a.process in
    let base : ℕ = base_dir a.base h in
    let there : IsTrue (is_dir t base) = lives a opened in
    let covered : c.cover-cover.result ≡ cover_in t h c.base_dir.result =
    c.cover-cover.ensures.exact ∙ ap (λ (u : Tree). cover u h c.base_found.result) (c.is_open.ensures.tree ∙ c.requires.tree) ∙
    ap (cover t h) c.base_found.ensures
    ∙ (covers_descend t h a.tree).directory base (base_way a.base) there ∙ ap (cover_in t h) (sym c.base_dir.ensures) in (
      (refl, tt),
      (
        c.calls_on-calls.ensures.tree ∙ c.cover-cover.ensures.tree ∙ c.is_open.ensures.tree ∙ c.requires.tree,
        (
          c.requires.rows,
          (subst (λ (d : ℕ). IsTrue (is_dir t d)) (sym c.base_dir.ensures) there, covered),
        ),
      ),
    )

pub returns-clause-pairs : goal.returns-clause-pairs
returns-clause-pairs g c =
    let a = c.args.self.now in
    let opened : is_open (scope_in a) ≡ true = sym c.is_open.ensures.open ∙ c.if-not-is_open.false in
    let made = c.in_ok-steps.ensures.table in
    let t : Steps = c.in_ok-steps.steps in
    let set : ℕ = c.bits-calls.result in
    let fit : FoundFits a.seen.tree c.base_found-2.result =
    subst (FoundFits a.seen.tree) (sym c.base_found-2.ensures) (lives a opened) in
    let left = c.cover-cover.ensures.exact
    ∙ ap (λ (u : Tree). cover u a.process c.base_found.result) (c.is_open.ensures.tree ∙ c.requires.tree)
    ∙ ap (cover a.seen.tree a.process) (c.base_found.ensures ∙ sym c.base_found-2.ensures) in
    let own = λ (call : Call). ap (λ (n : ℕ). has n call) c.bits-calls.ensures.number ∙ c.calls_on-calls.ensures.exact fit left call ∙
    ap (λ (f : Found). is_allowed (verdict a.seen.tree a.table a.process call f)) c.base_found-2.ensures in
    let first = ap (λ (d : ℕ). Some (record { dir = d; used = 0 })) (sym (made.1.3 ∙ c.base_dir.ensures)) in
    let ps : List graph.Pair = graph.graph_reach (graph_of t) a.limit set (Some (record { dir = 0; used = 0 })) in
    let same : map pair_in_numbers (reach (scope_in a)) ≡ map (pair_in_letters a.letters) ps =
    ap (map pair_in_numbers) (sym (all_along a opened)) ∙
    begun_reach (judge_in a) a.letters made.0 t made.1.0 made.1.2 set own first a.limit in
    let within : AllByRecursion (λ p. IsPair (length a.letters) p) ps =
    subst (λ n. AllByRecursion (λ p. IsPair n p) ps) made.1.0.many (reach_is_within t a.limit set (Some (record { dir = 0; used = 0 }))
    made.1.0.table (record { dir = omega (arith, made.1.2, made.1.0.dirs); used = omega arith })) in
    let left = c.in_ok-walk.ensures.left ∙
    ap (λ (t : Steps). pairs_resumed c.args.after (graph.graph_reach (graph_of t) a.limit set (Some (record { dir = 0; used = 0 }))))
    c.in_ok-tables.ensures.steps in
    scope_after (scope_in a) c.args.after ps a.rises c.requires.word within same ∙ ap (pairs_at a.letters) (sym left)

pub returns-clause-within : goal.returns-clause-within
returns-clause-within g c =
    let a = c.args.self.now in
    let made = c.in_ok-steps.ensures.table in
    let t : Steps = c.in_ok-steps.steps in
    let ps : List graph.Pair = graph.graph_reach (graph_of t) a.limit c.bits-calls.result (Some (record { dir = 0; used = 0 })) in
    let within : AllByRecursion (λ p. IsPair (length a.letters) p) ps =
    subst (λ n. AllByRecursion (λ p. IsPair n p) ps) made.1.0.many
    (reach_is_within t a.limit c.bits-calls.result (Some (record { dir = 0; used = 0 })) made.1.0.table
    (record { dir = omega (arith, made.1.2, made.1.0.dirs); used = omega arith })) in
    let left = c.in_ok-walk.ensures.left ∙
    ap (λ (t : Steps). pairs_resumed c.args.after (graph.graph_reach (graph_of t) a.limit c.bits-calls.result
    (Some (record { dir = 0; used = 0 })))) c.in_ok-tables.ensures.steps in
    subst (λ (qs : List graph.Pair). AllByRecursion (λ p. IsPair (length a.letters) p) qs) (sym left)
    (pairs_stay (length a.letters) c.args.after ps within)

pub returns-clause-live : goal.returns-clause-live
returns-clause-live g c =
    let a = c.args.self.now in
    let opened : is_open (scope_in a) ≡ true = sym c.is_open.ensures.open ∙ c.if-not-is_open.false in
    let made = c.in_ok-steps.ensures.table in
    let fit : FoundFits a.seen.tree c.base_found-2.result =
    subst (FoundFits a.seen.tree) (sym c.base_found-2.ensures) (lives a opened) in
    let left = c.cover-cover.ensures.exact
    ∙ ap (λ (u : Tree). cover u a.process c.base_found.result) (c.is_open.ensures.tree ∙ c.requires.tree)
    ∙ ap (cover a.seen.tree a.process) (c.base_found.ensures ∙ sym c.base_found-2.ensures) in
    let own = λ (call : Call). ap (λ (n : ℕ). has n call) c.bits-calls.ensures.number ∙ c.calls_on-calls.ensures.exact fit left call ∙
    ap (λ (f : Found). is_allowed (verdict a.seen.tree a.table a.process call f)) c.base_found-2.ensures in
    let first = ap (λ (d : ℕ). Some (record { dir = d; used = 0 })) (sym (made.1.3 ∙ c.base_dir.ensures)) in
    c.in_ok-live.ensures ∙
    ap (λ (t : Steps). live_count (graph_of t) (length t.rows.items) a.limit (Some (record { dir = 0; used = 0 })) a.limit)
    c.in_ok-tables.ensures.steps
    ∙ ap (λ n. live_count (graph_of c.in_ok-steps.steps) n a.limit (Some (record { dir = 0; used = 0 })) a.limit) made.1.0.dirs
    ∙ sym (begun_live (scope_in a) made.0 c.in_ok-steps.steps made.1.0 made.1.2 c.bits-calls.result own first
    (audited a) (lives a opened) made.1.1)

pub walk_after-requires-clause-word : goal.walk_after-requires-clause-word
walk_after-requires-clause-word g c =
    let a = c.args.self.now in
    known_below a.letters a.limit c.in_ok-tables.tables.steps.letters c.args.after (ap (λ (t : Steps). t.letters)
    c.in_ok-tables.ensures.steps ∙ c.in_ok-steps.ensures.table.1.0.many) c.requires.word

-- the tables of the table of steps

pub fill-requires-clause-limit : goal.fill-requires-clause-limit
fill-requires-clause-limit g c = c.args.self.now.few

pub fill-requires-clause-fits : goal.fill-requires-clause-fits
fill-requires-clause-fits g c =
    table_fits c.args.self.now.limit (length c.in_ok-steps.steps.rows.items) c.args.self.now.few c.in_ok-steps.ensures.few

pub count-requires-clause-sized : goal.count-requires-clause-sized
count-requires-clause-sized g c =
    subst (λ t. IsSized t c.in_ok-tables.tables.live c.args.self.now.limit) (sym c.in_ok-tables.ensures.steps) c.in_ok-tables.ensures.sized

first_state : (w : Judge) (letters : List (List ℕ)) (names : List ℕ) (t : Steps) → IsTableOf w letters names t → 0 < length names
    → IsState t (record { dir = 0; used = 0 })
first_state w letters names t is some = record { dir = omega (arith, some, is.dirs); used = omega arith }

pub count-requires-clause-base : goal.count-requires-clause-base
count-requires-clause-base g c =
    let made = c.in_ok-steps.ensures.table in
    subst (λ (t : Steps). IsState t (record { dir = 0; used = 0 })) (sym c.in_ok-tables.ensures.steps)
    (first_state (judge_in c.args.self.now) c.args.self.now.letters made.0 c.in_ok-steps.steps made.1.0 made.1.2)

pub count-requires-clause-limit : goal.count-requires-clause-limit
count-requires-clause-limit g c = c.args.self.now.few

small : (dirs rows : ℕ) → dirs ≡ rows → rows ≤ 4294967296 → dirs * 1088 < 18446744073709551616
small dirs rows same few = omega arith

pub count-requires-clause-small : goal.count-requires-clause-small
count-requires-clause-small g c =
    small c.in_ok-tables.tables.live.dirs _ c.in_ok-tables.ensures.sized.dirs c.in_ok-steps.ensures.few

-- the walk over them

pub walk_after-requires-clause-table : goal.walk_after-requires-clause-table
walk_after-requires-clause-table g c = subst IsTable (sym c.in_ok-tables.ensures.steps) c.in_ok-steps.ensures.table.1.0.table

pub walk_after-requires-clause-sized : goal.walk_after-requires-clause-sized
walk_after-requires-clause-sized g c =
    subst (λ t. IsSized t c.in_ok-tables.tables.live c.args.self.now.limit) (sym c.in_ok-tables.ensures.steps) c.in_ok-tables.ensures.sized

pub walk_after-requires-clause-listed : goal.walk_after-requires-clause-listed
walk_after-requires-clause-listed g c =
    subst (λ (t : Steps). AreListsOf t c.in_ok-tables.tables.live c.args.self.now.limit c.in_ok-tables.tables.counted.lists)
    (sym c.in_ok-tables.ensures.steps) c.in_ok-tables.ensures.listed

pub walk_after-requires-clause-calls : goal.walk_after-requires-clause-calls
walk_after-requires-clause-calls g c = c.bits-calls.ensures.calls

pub walk_after-requires-clause-base : goal.walk_after-requires-clause-base
walk_after-requires-clause-base g c =
    let made = c.in_ok-steps.ensures.table in
    subst (λ (t : Steps). IsState t (record { dir = 0; used = 0 })) (sym c.in_ok-tables.ensures.steps)
    (first_state (judge_in c.args.self.now) c.args.self.now.letters made.0 c.in_ok-steps.steps made.1.0 made.1.2)

known_few : (letters : List (List ℕ)) (limit : ℕ) (o : Option Resumption) → IfSome o (λ r. AreLetters letters limit r.word.items)
    → IfSome o (λ r. length r.word.items ≤ limit)
known_few letters limit None h = tt
known_few letters limit (Some r) h = h.within

pub walk_after-requires-clause-few : goal.walk_after-requires-clause-few
walk_after-requires-clause-few g c = known_few c.args.self.now.letters c.args.self.now.limit c.args.after c.requires.word

pub returns-clause-ready : goal.returns-clause-ready
returns-clause-ready g c = c.in_ok-walk.ensures.ready

pub returns-clause-limit : goal.returns-clause-limit
returns-clause-limit g c = c.in_ok-walk.ensures.limit

pub returns-clause-letters : goal.returns-clause-letters
returns-clause-letters g c =
    ap (λ (t : Steps). t.letters) (c.in_ok-walk.ensures.steps ∙ c.in_ok-tables.ensures.steps) ∙ c.in_ok-steps.ensures.table.1.0.many

reads_more : (now before limit : ℕ) → now ≤ before + search_cost * limit → before ≡ 0 → now ≤ search_cost * limit
reads_more now before limit more none = omega arith

pub returns-clause-reads : goal.returns-clause-reads
returns-clause-reads g c =
    reads_more c.in_ok-walk.walk.tables.counted.reads c.in_ok-tables.tables.counted.reads c.args.self.now.limit c.in_ok-walk.ensures.reads
    c.in_ok-tables.ensures.reads

pub returns-clause-unread : goal.returns-clause-unread
returns-clause-unread g c = λ none. c.in_ok-walk.ensures.unread none ∙ c.in_ok-tables.ensures.reads

-- the looks at the tree

looks_first : (old asked found looked : ℕ) (t seen : Tree) → t ≡ seen → asked ≤ old + 1 → found ≤ asked + length t.nodes
    → looked ≤ found + 1 → looked ≤ old + (length seen.nodes + 2)
looks_first old asked found looked t seen same at_open at_cover at_calls =
    subst (λ (u : Tree). looked ≤ old + (length u.nodes + 2)) same (omega (arith, at_open, at_cover, at_calls))

looks : (old looked made nodes cost : ℕ) → looked ≤ old + (nodes + 2) → made ≤ looked + cost → made ≤ old + (cost + (nodes + 2))
looks old looked made nodes cost first more = omega (arith, first, more)

pub returns-in_err-steps-clause-cost : goal.returns-in_err-steps-clause-cost
returns-in_err-steps-clause-cost g c =
    let a = c.args.self.now in
    looks _ _ _ (length a.seen.tree.nodes) (table_cost a.seen.tree (length a.letters))
    (looks_first _ _ _ _ (g.P.Probe.tree c.is_open.new.probe) a.seen.tree (c.is_open.ensures.tree ∙ c.requires.tree)
    c.is_open.ensures.cost c.cover-cover.ensures.cost c.calls_on-calls.ensures.cost) c.table.ensures.cost

pub returns-in_err-tables-clause-cost : goal.returns-in_err-tables-clause-cost
returns-in_err-tables-clause-cost g c =
    let a = c.args.self.now in
    looks _ _ _ (length a.seen.tree.nodes) (table_cost a.seen.tree (length a.letters))
    (looks_first _ _ _ _ (g.P.Probe.tree c.is_open.new.probe) a.seen.tree (c.is_open.ensures.tree ∙ c.requires.tree)
    c.is_open.ensures.cost c.cover-cover.ensures.cost c.calls_on-calls.ensures.cost) c.table.ensures.cost

pub returns-in_err-live-clause-cost : goal.returns-in_err-live-clause-cost
returns-in_err-live-clause-cost g c =
    let a = c.args.self.now in
    looks _ _ _ (length a.seen.tree.nodes) (table_cost a.seen.tree (length a.letters))
    (looks_first _ _ _ _ (g.P.Probe.tree c.is_open.new.probe) a.seen.tree (c.is_open.ensures.tree ∙ c.requires.tree)
    c.is_open.ensures.cost c.cover-cover.ensures.cost c.calls_on-calls.ensures.cost) c.table.ensures.cost

pub returns-in_err-walk-clause-cost : goal.returns-in_err-walk-clause-cost
returns-in_err-walk-clause-cost g c =
    let a = c.args.self.now in
    looks _ _ _ (length a.seen.tree.nodes) (table_cost a.seen.tree (length a.letters))
    (looks_first _ _ _ _ (g.P.Probe.tree c.is_open.new.probe) a.seen.tree (c.is_open.ensures.tree ∙ c.requires.tree)
    c.is_open.ensures.cost c.cover-cover.ensures.cost c.calls_on-calls.ensures.cost) c.table.ensures.cost

pub returns-clause-cost : goal.returns-clause-cost
returns-clause-cost g c =
    let a = c.args.self.now in
    looks _ _ _ (length a.seen.tree.nodes) (table_cost a.seen.tree (length a.letters))
    (looks_first _ _ _ _ (g.P.Probe.tree c.is_open.new.probe) a.seen.tree (c.is_open.ensures.tree ∙ c.requires.tree)
    c.is_open.ensures.cost c.cover-cover.ensures.cost c.calls_on-calls.ensures.cost) c.table.ensures.cost
