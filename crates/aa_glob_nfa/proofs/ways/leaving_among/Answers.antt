use Rattle.aa_glob_nfa.proofs.LeavingLemmas.{leaving_few, leaving_none, leaving_some}
use Rattle.aa_glob_nfa.proofs.ways.leaving_among.Goals as goal

pub returns-then-ways-le-FEW : goal.returns-then-ways-le-FEW
returns-then-ways-le-FEW c = leaving_few c.args.ways.now c.args.from c.args.byte

pub returns-in-Some : goal.returns-in-Some
returns-in-Some c =
    rw c.in-Some.is
    (leaving_some c.args.ways.now _ _ c.args.from c.in-Some.own c.ways_along-any.ensures.only c.ways_along-any.ensures.each c.ways_along.ensures.only c.ways_along.ensures.each)

pub returns-in-None : goal.returns-in-None
returns-in-None c = rw c.in-None.is (leaving_none c.args.ways.now _ c.args.from c.ways_along-any.ensures.only c.ways_along-any.ensures.each)
