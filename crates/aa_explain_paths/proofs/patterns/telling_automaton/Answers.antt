use Rattle.std.proofs.Common.{◌++◌}
use Rattle.aa_explain_paths.specs.Telling.{telling_among}
use Rattle.aa_explain_paths.proofs.patterns.telling_automaton.Goals as goal

pub returns : goal.returns
returns c = λ patterns built.
    let wanted = c.args.wanted.now in
    c.finish.ensures (telling_among patterns wanted c.args.unasked.now)
    (c.in_ok-all.ensures (patterns ++ wanted) (c.in_ok-with_wanted.ensures patterns built))
