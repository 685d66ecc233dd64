use Rattle.std.proofs.Common.{ap, map, refl}
use Rattle.aa_text_tokens.specs.code.Tokens.{with_tokens}
use Rattle.aa_text_tokens.specs.SeenTokens.{seen}
use Rattle.aa_text_tokens.proofs.CutLemmas.{cut-comment, cut-token}
use Rattle.aa_text_tokens.proofs.cut.read_on.Goals as goal

pub returns-in-Comment-clause-ok : goal.returns-in-Comment-clause-ok
returns-in-Comment-clause-ok c =
    let piece = c.in-Comment.ensures in
    ap (with_tokens (map seen c.args.tokens.now.items)) (cut-comment c.args.at c.in-Comment.size c.args.values c.args.text.now c.requires.some c.if-is_blank.ensures piece.value piece.within.0)

pub returns-in_ok-push-in-Token-clause-ok : goal.returns-in_ok-push-in-Token-clause-ok
returns-in_ok-push-in-Token-clause-ok c =
    let piece = c.in-Token.ensures in
    rw c.values_from.ensures (cut-token c.args.tokens.now.items c.push.new.self.items _ c.args.at c.in-Token.size c.args.values c.in-Token.kind _ c.args.text.now c.requires.some c.if-is_blank.ensures piece.value piece.within.0 c.in_ok-push-in-Token.ensures.items refl)
