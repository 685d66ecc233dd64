use Rattle.std.proofs.Common.{◌∙◌, ap}
use Rattle.aatry_hints.specs.Hints.{other_than}
use Rattle.aatry_hints.proofs.hints.command_meant.Goals as goal

pub returns : goal.returns
returns c = c.other_than.ensures ∙ ap (other_than c.args.word.now) c.in_ok-found.ensures.value
