use Rattle.pua_jointly.proofs.setup.side_on.Goals as goal

pub returns-clause-part : goal.returns-clause-part
returns-clause-part c = record {
  many = c.in_ok-movers.ensures.many;
  movers = c.in_ok-movers.ensures.each;
  seats = c.in_ok-seats.ensures;
  marks = c.in_ok-marks.ensures;
  watches = c.in_ok-watches.ensures;
}
