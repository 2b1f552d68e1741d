use Rattle.pua_steps.proofs.Common.{ℕ, ◌≡◌, sym, ap, ◌∙◌, length, arith, Option, first_of, within, Entry, Lists}
use Rattle.pua_steps.specs.Table.{with_letter}
use Rattle.pua_steps.proofs.Finding.{part_rises, missed_open, missed_visit, missed_split, found_entry, found_open, found_visit, found_split}
use Rattle.pua_steps.proofs.tables.Tables.find.Goals as goal

-- what was found in the same lists with another count
found_by : (ls ms : Lists) → ms ≡ ls → (a place end : ℕ) (o : Option Entry)
    → o ≡ with_letter a (first_of (within ms.entries.items place end)) → (p : Option Entry) → o ≡ p
    → with_letter a (first_of (within ls.entries.items place end)) ≡ p
found_by ls ms same a place end o is p got =
    ap (λ (ls : Lists). with_letter a (first_of (within ls.entries.items place end))) (sym same) ∙ sym is ∙ got

pub count_before-requires-clause-rises : goal.count_before-requires-clause-rises
count_before-requires-clause-rises c =
    part_rises c.args.self.now.steps c.args.self.now.live (length c.args.self.now.counted.lists.layers.items) c.args.self.now.counted.lists c.requires.table
    c.requires.listed c.args.left c.requires.left c.args.state c.requires.state c.args.letter c.requires.letter c.span-span.result
    c.span-span.ensures

pub returns-in_default-clause-open : goal.returns-in_default-clause-open
returns-in_default-clause-open c =
    missed_open c.args.self.now.steps c.args.self.now.live (length c.args.self.now.counted.lists.layers.items) c.args.self.now.counted.lists
    c.requires.table c.requires.listed c.args.left c.requires.left c.args.state c.requires.state c.args.letter c.requires.letter
    c.span-span.result c.span-span.ensures c.count_before.result c.count_before.ensures.low c.count_before.ensures.high
    (found_by _ _ c.count_before.ensures.lists _ _ _ _ c.entry_of.ensures.entry _ c.in_default.is)

pub returns-in_default-clause-visit : goal.returns-in_default-clause-visit
returns-in_default-clause-visit c =
    missed_visit c.args.self.now.steps c.args.self.now.live (length c.args.self.now.counted.lists.layers.items) c.args.self.now.counted.lists
    c.requires.table c.requires.listed c.args.left c.requires.left c.args.state c.requires.state c.args.letter c.requires.letter
    c.span-span.result c.span-span.ensures c.count_before.result c.count_before.ensures.low c.count_before.ensures.high
    (found_by _ _ c.count_before.ensures.lists _ _ _ _ c.entry_of.ensures.entry _ c.in_default.is) c.missing-missing.result c.missing-missing.ensures

pub returns-in_default-clause-split : goal.returns-in_default-clause-split
returns-in_default-clause-split c =
    missed_split c.args.self.now.steps c.args.self.now.live (length c.args.self.now.counted.lists.layers.items) c.args.self.now.counted.lists
    c.requires.table c.requires.listed c.args.left c.requires.left c.args.state c.requires.state c.args.letter c.requires.letter
    c.span-span.result c.span-span.ensures c.count_before.result c.count_before.ensures.low c.count_before.ensures.high
    (found_by _ _ c.count_before.ensures.lists _ _ _ _ c.entry_of.ensures.entry _ c.in_default.is) c.missing-missing.result c.missing-missing.ensures

pub visit-requires-clause-links : goal.visit-requires-clause-links
visit-requires-clause-links c =
    (found_entry c.args.self.now.steps c.args.self.now.live (length c.args.self.now.counted.lists.layers.items) c.args.self.now.counted.lists
    c.requires.table c.requires.listed c.args.left c.requires.left c.args.state c.requires.state c.args.letter c.requires.letter
    c.span-span.result c.span-span.ensures c.count_before.result c.count_before.ensures.low c.count_before.ensures.high c.in-Some.entry
    (found_by _ _ c.count_before.ensures.lists _ _ _ _ c.entry_of.ensures.entry _ c.in-Some.is)).links

pub returns-clause-open : goal.returns-clause-open
returns-clause-open c =
    found_open c.args.self.now.steps c.args.self.now.live (length c.args.self.now.counted.lists.layers.items) c.args.self.now.counted.lists c.requires.table
    c.requires.listed c.args.left c.requires.left c.args.state c.requires.state c.args.letter c.requires.letter c.span-span.result
    c.span-span.ensures c.count_before.result c.count_before.ensures.low c.count_before.ensures.high c.in-Some.entry
    (found_by _ _ c.count_before.ensures.lists _ _ _ _ c.entry_of.ensures.entry _ c.in-Some.is)

pub returns-clause-visit : goal.returns-clause-visit
returns-clause-visit c =
    found_visit c.args.self.now.steps c.args.self.now.live (length c.args.self.now.counted.lists.layers.items) c.args.self.now.counted.lists
    c.requires.table c.requires.listed c.args.left c.requires.left c.args.state c.requires.state c.args.letter c.requires.letter
    c.span-span.result c.span-span.ensures c.count_before.result c.count_before.ensures.low c.count_before.ensures.high c.in-Some.entry
    (found_by _ _ c.count_before.ensures.lists _ _ _ _ c.entry_of.ensures.entry _ c.in-Some.is) c.visit.result c.visit.ensures

pub returns-clause-split : goal.returns-clause-split
returns-clause-split c =
    found_split c.args.self.now.steps c.args.self.now.live (length c.args.self.now.counted.lists.layers.items) c.args.self.now.counted.lists
    c.requires.table c.requires.listed c.args.left c.requires.left c.args.state c.requires.state c.args.letter c.requires.letter
    c.span-span.result c.span-span.ensures c.count_before.result c.count_before.ensures.low c.count_before.ensures.high c.in-Some.entry
    (found_by _ _ c.count_before.ensures.lists _ _ _ _ c.entry_of.ensures.entry _ c.in-Some.is) c.visit.result c.visit.ensures

pub returns-in_default-clause-raised : goal.returns-in_default-clause-raised
returns-in_default-clause-raised c = omega (arith, c.count_before.ensures.raised, c.entry_of.ensures.raised)

pub returns-clause-raised : goal.returns-clause-raised
returns-clause-raised c = omega (arith, c.count_before.ensures.raised, c.entry_of.ensures.raised)
