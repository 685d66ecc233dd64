use Rattle.std.proofs.Common.{◌≡◌, arith, ap, get_or, length, refl}
use Rattle.std.proofs.lemmas.Option.{slice_get_read}
use Rattle.aa_text_expansion.proofs.MadeLemmas.{least-append, least-less, listed-length, node-least}
use Rattle.aa_text_expansion.specs.code.Made.{listed, listed_at}
use Rattle.aa_text_expansion.proofs.lists.both_node.Goals as goal

pub returns-clause-right : goal.returns-clause-right
returns-clause-right c =
    let nodes = c.args.nodes.now in
    let first = c.index-nodes-first.result in
    let one : first.least ≡ (get_or nodes c.args.first first).least = ap (λ node. node.least) c.index-nodes-first.is in
    let second = c.index-nodes-second.result in
    let other : second.least ≡ (get_or nodes c.args.second second).least = ap (λ node. node.least) c.index-nodes-second.is in
    let a = node-least nodes c.requires.right c.args.first first (slice_get_read nodes (length nodes) c.args.first first refl c.requires.first c.index-nodes-first.is) in
    let b = node-least nodes c.requires.right c.args.second second (slice_get_read nodes (length nodes) c.args.second second refl c.requires.second c.index-nodes-second.is) in
    record {
      earlier = rw (listed-length nodes) (c.requires.first, c.requires.second);
      single = λ wrong. absurd (cc);
      least = least-append c.min.result (listed_at (listed nodes) c.args.first).texts (listed_at (listed nodes) c.args.second).texts
          (least-less first.least c.min.result (listed_at (listed nodes) c.args.first).texts (omega arith) a)
          (least-less second.least c.min.result (listed_at (listed nodes) c.args.second).texts (omega arith) b);
    }
