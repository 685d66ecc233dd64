use Rattle.std.proofs.Common.{◌≡◌, ◌-◌, ◌≤◌, ◌++◌, length, min, take, ap, ◌∙◌, arith}
use Rattle.aa_set_commands.proofs.LineLemmas.{kept_front}
use Rattle.aa_set_commands.proofs.line.LineBuffer.keep.Goals as goal

pub returns : goal.returns
returns c =
    let kept = c.self.inside.bytes.items in
    let bytes = c.args.bytes.now in
    let within : length kept ≤ 65537 = omega (arith, c.self.inside.bytes.ok.0, c.self.invariant.0) in
    let room : 65537 - c.len.result ≡ 65537 - length kept = omega (arith, c.self.inside.bytes.ok.0, c.len.ensures) in
    c.in-Ok.ensures.items
    ∙ kept_front 65537 c.min-kept.result kept bytes within (c.min-kept.ensures ∙ ap (λ k. min k (length bytes)) room)
    ∙ ap (λ held. take 65537 (held ++ bytes)) c.self.view_is
