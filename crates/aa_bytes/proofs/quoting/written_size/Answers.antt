use Rattle.std.proofs.Common.{sym}
use Rattle.aa_bytes.proofs.HexadecimalLemmas.{length-shown, length-unshown}
use Rattle.aa_bytes.proofs.quoting.written_size.Goals as goal

pub returns-then-are_shown : goal.returns-then-are_shown
returns-then-are_shown c = rw (length-shown c.args.text.now (sym c.if-are_shown.ensures)) c.saturating_add.ensures

pub returns-else-are_shown : goal.returns-else-are_shown
returns-else-are_shown c = rw (length-unshown c.args.text.now (sym c.if-are_shown.ensures)) c.saturating_mul.ensures
