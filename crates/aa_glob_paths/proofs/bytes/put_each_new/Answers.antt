use Rattle.std.proofs.Common.{◌≤◌, length, subst, arith}
use Rattle.std.proofs.lemmas.List.{take_all}
use Rattle.aa_glob_nfa.specs.OfTables.{graph_of}
use Rattle.aa_glob_paths.specs.code.Apart.{GetsLikeEach}
use Rattle.aa_glob_paths.proofs.AlikeLemmas.{likes-more, likes-none}
use Rattle.aa_glob_paths.proofs.bytes.put_each_new.Goals as goal

pub loop-byte-init : goal.loop-byte-init
loop-byte-init c = likes-none (graph_of c.args.tables.now) c.args.bytes.now.items

pub loop-byte-preserved : goal.loop-byte-preserved
loop-byte-preserved c =
    likes-more (graph_of c.args.tables.now) c.args.bytes.now.items c.loop-byte.bytes.items c.put_if_new.new.bytes.items c.args.more.now c.loop-byte.byte-index 0 c.loop-byte-test.true
    c.loop-byte.invariant c.in_ok-put_if_new.ensures

pub returns : goal.returns
returns c =
    let end : length c.args.more.now ≤ c.loop-byte.byte-index = omega arith in
    subst (GetsLikeEach (graph_of c.args.tables.now) c.args.bytes.now.items c.loop-byte.bytes.items) (take_all c.loop-byte.byte-index c.args.more.now end) c.loop-byte.invariant
