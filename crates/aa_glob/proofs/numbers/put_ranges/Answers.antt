use Rattle.aa_glob.proofs.NumberLemmas.{ends_of-more}
use Rattle.aa_glob.proofs.numbers.put_ranges.Goals as goal

pub loop-range-preserved : goal.loop-range-preserved
loop-range-preserved c =
    ends_of-more c.args.key.now.items c.loop-range.key.items c.put_range.new.key.items c.args.ranges.now c.loop-range.range-index _ c.loop-range-test.true c.loop-range.invariant c.in_ok-put_range.ensures
