use Rattle.std.proofs.Common.{◌∙◌, sym}
use Rattle.aa_glob_paths.proofs.SettledLemmas.{follows-on}
use Rattle.aa_glob_paths.proofs.settled.leads_to_passed_over.Goals as goal

pub loop-state-preserved : goal.loop-state-preserved
loop-state-preserved c =
    let t = c.args.tables.now in
    let on = sym c.leads_on.ensures ∙ c.if-not-leads_on.false in
    record {
      is_state = c.requires.classed.sound.on c.loop-state.at on;
      follows = follows-on t c.args.state c.loop-state.at c.loop-state.invariant.is_state on (sym c.is_free.ensures ∙ c.if-not-is_free.false) c.loop-state.invariant.follows;
    }

pub returns : goal.returns
returns c = λ is past at. c.is_passed_over.ensures c.loop-state-test.false past (c.loop-state.invariant.follows past at)
