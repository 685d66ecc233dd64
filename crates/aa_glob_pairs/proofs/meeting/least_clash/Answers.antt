use Rattle.std.proofs.Common.{◌≤◌, arith, length}
use Rattle.aa_glob_nfa.proofs.TableLemmas.{length-entries_in}
use Rattle.aa_glob_pairs.proofs.ProgressLemmas.{meeting_ends}
use Rattle.aa_glob_pairs.specs.Pairs.{classed}
use Rattle.aa_glob_pairs.proofs.meeting.least_clash.Goals as goal

pub returns : goal.returns
returns c =
    let t = c.args.tables.now in
    let g = classed t c.args.classes.now c.args.belows.now in
    let end : length g.graph.entries ≤ c.loop-row.row = omega (arith, c.loop-row-test.false, c.loop-row.auto.row-end, c.len-row-end.ensures, length-entries_in t.classes.items 0 t.states) in
    meeting_ends g c.loop-row.meeting c.loop-row.row c.requires.later end c.loop-row.invariant
