use Rattle.pua_texts.proofs.Common.{◌≡◌, drop, map, take, flat_map, veil_date, veils_at, ServedScript, why_lists_of, world_left}
use Rattle.pua_script.specs.Worlds.{world_of}
use Rattle.pua_texts.specs.ListLines.{lists_text}
use Rattle.pua_texts.proofs.why_lists.begin_reasons.Given as goal

-- the lists so far are those of the numbers so far, and the lines that are left are those of the others
abbrev pub invariant-loop-number : goal.invariant-loop-number
invariant-loop-number g l = (p : ServedScript) → world_of l.fn.world ≡ world_left p → l.fn.world.table ≡ p.table →
    l.fn.lines ≡ map (veil_date p.table p.world p.asks) (flat_map (veils_at l.fn.world) l.numbers) →
    (l.left ≡ map (veil_date p.table p.world p.asks) (flat_map (veils_at l.fn.world) (drop l.number-index l.numbers))) ×
    (lists_text (world_left p).tree l.lists.items ≡ why_lists_of l.fn.rules p (take l.number-index l.numbers))
