use Rattle.std.proofs.Common.{◌≡◌, ◌∙◌, ap, arith, None, refl}
use Rattle.aa_glob_nfa.proofs.TableLemmas.{length-entries_in}
use Rattle.aa_glob_pairs.proofs.ProgressLemmas.{meeting_begins}
use Rattle.aa_glob_pairs.specs.Pairs.{classed, states_of}
use Rattle.aa_glob_pairs.specs.code.Progress.{no_marks}
use Rattle.aa_glob_pairs.proofs.meeting.begin.Goals as goal

pub returns : goal.returns
returns c =
    let t = c.args.tables.now in
    let g = classed t c.args.classes.now c.args.belows.now in
    let same : c.len-states.result ≡ states_of g = omega (arith, c.len-states.ensures, length-entries_in t.classes.items 0 t.states) in
    meeting_begins g c.new-waiting.result (record { waiting = c.insert.new.self; seen = c.in_ok-seen.seen; found = None }) c.new-waiting.ensures c.in_ok-insert.ensures
    (c.in_ok-seen.ensures ∙ ap no_marks same) refl
