use Rattle.pua_calls.proofs.Common.{◌≡◌, drop, items_view}
use Rattle.pua_calls.specs.TableTexts.{are_texts}
use Rattle.pua_calls.proofs.table.read.are_texts.Given as goal

abbrev pub invariant-loop-item : goal.invariant-loop-item
invariant-loop-item l = are_texts (items_view (drop l.item-index l.items)) ≡ are_texts (items_view l.items)
