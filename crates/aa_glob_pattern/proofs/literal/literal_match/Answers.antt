use Rattle.std.proofs.Common.{sym}
use Rattle.aa_glob_pattern.proofs.LiteralLemmas.{all-left, all-short, all-stand, path-differs, path-ends, path-goes-on, segment-stands, short-behind, text-ends}
use Rattle.aa_glob_pattern.proofs.literal.literal_match.Goals as goal

pub loop-here-init : goal.loop-here-init
loop-here-init c =
    let text = c.args.text.now in
    let path = c.args.path.now in
    (all-left text path c.requires, all-short text c.requires, all-stand text path c.requires)

pub returns-in-empty : goal.returns-in-empty
returns-in-empty c =
    let here = c.loop-here.here in
    path-ends c.args.text.now c.args.path.now here.text.now here.path.now c.in-len1-up.len_at_least c.in-empty.len_below (sym c.if-not-is_literal.ensures) c.loop-here.invariant.0

pub returns-then-first-byte : goal.returns-then-first-byte
returns-then-first-byte c =
    let here = c.loop-here.here in
    path-differs c.args.text.now c.args.path.now here.text.now here.path.now c.in-len1-up.len_at_least c.in-len1-up-path.len_at_least c.if-first-byte.true (sym c.if-not-is_literal.ensures) c.loop-here.invariant.0

pub loop-here-preserved : goal.loop-here-preserved
loop-here-preserved c =
    let text = c.args.text.now in
    let path = c.args.path.now in
    let here = c.loop-here.here in
    let known = c.loop-here.invariant in
    let some = c.in-len1-up.len_at_least in (
      path-goes-on text path here.text.now here.path.now some c.in-len1-up-path.len_at_least c.if-first-byte.false (sym c.if-not-is_literal.ensures) known.0,
      short-behind here.text.now some known.1,
      segment-stands text path here c.loop-here.segment c.last_segment-segment.result some known.1 known.0 known.2 c.last_segment-segment.ensures,
    )

pub returns : goal.returns
returns c =
    text-ends c.args.text.now c.args.path.now c.loop-here.here.text.now c.loop-here.here.path.now c.is_empty.result c.in_default.len_below c.is_empty.ensures c.loop-here.invariant.0
