use Rattle.std.proofs.Common.{◌∙◌, ◌≡◌, ◌-◌, min, length, arith}
use Rattle.aa_text_expansion.proofs.JoiningLemmas.{take-joined}
use Rattle.aa_text_expansion.proofs.joining.put_behind.Goals as goal

pub returns : goal.returns
returns c =
    let size : c.min.result ≡ min (length c.args.bytes.now) (4097 - length c.truncate.new.self.items) = omega (arith, c.truncate.new.self.ok) in
    c.in_ok-extend_from_slice.ensures.items
    ∙ take-joined c.args.text.now.items c.args.bytes.now c.truncate.new.self.items c.min.result c.truncate.ensures.items size
