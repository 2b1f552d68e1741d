use Rattle.pua_listing.proofs.Common.{◌∙◌, ap, map, arith}
use Rattle.std.proofs.lemmas.List.{map_push}
use Rattle.pua_tree.specs.LentRows.{lent_entry}
use Rattle.pua_listing.specs.Lent.{row_held, rows_held}
use Rattle.pua_listing.proofs.Ordering.{walked_on, walked_out, none_of_length}
use Rattle.pua_listing.proofs.order.take_next.Goals as goal

pub returns-in_default : goal.returns-in_default
returns-in_default c = λ sorted n.
    walked_out n (map lent_entry c.args.rows.now) (rows_held c.args.order.now.items) (rows_held c.args.waiting.now.items)
    (rows_held c.pop.new.self.items)
    (ap rows_held (none_of_length c.args.waiting.now.items (omega (arith, c.in_default.ensures.cases.0, c.args.waiting.now.ok.0))))
    (ap rows_held (none_of_length c.pop.new.self.items (omega (arith, c.in_default.ensures.cases.1, c.pop.new.self.ok.0))))

pub returns : goal.returns
returns c = λ sorted n.
    walked_on n (map lent_entry c.args.rows.now) (rows_held c.args.order.now.items) (rows_held c.args.waiting.now.items)
    (rows_held c.push.new.self.items) (rows_held c.push_under.new.waiting.items) (rows_held c.pop.new.self.items) (row_held c.in-Some.row)
    (ap rows_held c.in-Some.ensures.items ∙ map_push row_held c.pop.new.self.items c.in-Some.row)
    (ap rows_held c.in-Ok.ensures.items ∙ map_push row_held c.args.order.now.items c.in-Some.row)
    (c.in_ok-push_under.ensures sorted)
