use Rattle.aatry_hints.proofs.ColorLemmas.{colors-tell}
use Rattle.aatry_hints.proofs.color_laws.what_colors_tell.Goals as goal

pub returns : goal.returns
returns c = colors-tell
