use Rattle.std.proofs.Common.{◌<◌, ◌≤◌, sym, length, arith}
use Rattle.std.proofs.lemmas.Option.{slice_get_within}
use Rattle.aa_text_variables.proofs.ReachedLemmas.{reached-begins, reached-defined, reached-few, reached-goes_on, reached-refused}
use Rattle.aa_text_variables.proofs.variables.Variables.reaches_undefined.Goals as goal

pub loop-index-init : goal.loop-index-init
loop-index-init c = reached-begins c.args.self.now c.args.text.now c.args.reached.now.keys c.note.new.reached.keys c.requires.nothing c.in_ok-note.ensures c.requires.defined

pub returns-then-undefined_at : goal.returns-then-undefined_at
returns-then-undefined_at c =
    reached-refused c.args.self.now c.args.text.now c.loop-index.reached.keys c.loop-index.at c.in-Some.index c.loop-index.invariant c.in-Some.ensures.value (sym c.if-undefined_at.ensures)

pub loop-index-smaller : goal.loop-index-smaller
loop-index-smaller c =
    let within : c.loop-index.at < length c.loop-index.reached.keys = slice_get_within c.loop-index.reached.keys c.loop-index.at c.in-Some.index (sym c.in-Some.ensures.value) in
    let few : length c.loop-index.reached.keys ≤ length c.args.self.now = reached-few c.args.self.now c.args.text.now c.loop-index.reached.keys c.loop-index.at c.loop-index.invariant in
    omega arith

pub loop-index-preserved : goal.loop-index-preserved
loop-index-preserved c = reached-goes_on c.args.self.now c.args.text.now c.loop-index.reached.keys c.loop-index.at c.loop-index.invariant c.in-Some.index c.in-Some.ensures.value (sym c.if-undefined_at.ensures) c.note_words.new.reached.keys c.in_ok-note_words.ensures

pub returns : goal.returns
returns c = reached-defined c.args.self.now c.args.text.now c.loop-index.reached.keys c.loop-index.at c.loop-index.invariant c.in_default.ensures.value
