use Rattle.std.proofs.Common.{ap, map, ◌∙◌}
use Rattle.std.specs.Char.{to_ascii_uppercase}
use Rattle.aa_bytes.proofs.HexadecimalLemmas.{digits-upper}
use Rattle.aa_bytes.proofs.quoting.two_digits.Goals as goal

pub returns : goal.returns
returns c = c.make_ascii_uppercase.ensures.after ∙ ap (map to_ascii_uppercase) c.in-Ok.ensures.written ∙ digits-upper c.args.byte c.ranges.byte.fits
