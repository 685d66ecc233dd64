-- An Include's files are entered with one less of the depth, and each call before that is nearer to them.
use Rattle.std.proofs.Common.{◌≡◌, ◌+◌, ◌*◌, drop, map}
use Rattle.aa_text_tokens.specs.code.SplicingProgress.{with_each, with_file, with_walked}
use Rattle.aa_text_tokens.specs.SeenTokens.{seen}
use Rattle.aa_text_tokens.proofs.splicer.Splicer.+entering.Given as goal

abbrev pub decreases-enter : goal.decreases-enter
decreases-enter l = 3 * l.depth + 2

abbrev pub decreases-put_token : goal.decreases-put_token
decreases-put_token l = 3 * l.depth + 1

abbrev pub decreases-enter_each : goal.decreases-enter_each
decreases-enter_each l = 3 * l.depth

-- the tokens so far, and those of the rest, are all
abbrev pub invariant-enter-loop-token : goal.invariant-enter-loop-token
invariant-enter-loop-token l = with_walked l.self l.depth l.file (map seen (drop l.token-index l.token-items)) ≡ with_file l.fn.self l.depth l.file l.fn.place

-- the tokens so far, and those of the files that are left, are all
abbrev pub invariant-enter_each-loop-file : goal.invariant-enter_each-loop-file
invariant-enter_each-loop-file l = with_each l.self l.depth l.place (drop l.file-index l.found) ≡ with_each l.fn.self l.depth l.place l.found
