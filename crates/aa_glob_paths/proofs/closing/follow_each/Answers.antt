use Rattle.std.proofs.Common.{◌≤◌, length, subst, sym, arith}
use Rattle.std.proofs.lemmas.List.{take_all}
use Rattle.aa_glob_nfa.specs.OfTables.{graph_of}
use Rattle.aa_glob_paths.specs.Alike.{StandForAllFrom}
use Rattle.aa_glob_paths.specs.Found.{FoundSet}
use Rattle.aa_glob_paths.specs.code.Closing.{IsFollowedBehind}
use Rattle.aa_glob_paths.proofs.FoundLemmas.{followed-all, followed-next, grows-then}
use Rattle.aa_glob_paths.proofs.closing.follow_each.Goals as goal

pub loop-byte-preserved : goal.loop-byte-preserved
loop-byte-preserved c =
    let g = graph_of c.args.tables.now in
    let old = c.loop-byte.sets in
    let new = c.follow_byte.new.sets in
    let more = c.loop-byte.invariant.more in
    let here = c.in_ok-follow_byte.ensures in
    record {
      more = record { found = here.more.found; up_to = here.more.up_to; grows = grows-then c.args.sets.now old new more.grows here.more.grows };
      room = here.room;
      followed = followed-next g c.args.wanted.now c.args.settled.now old new c.args.from c.args.bytes.now c.loop-byte.byte-index 0 (omega (arith, more.grows.longer, c.requires.within)) c.loop-byte-test.true
          here.more.grows c.loop-byte.invariant.followed here.followed;
    }

pub returns-clause-followed : goal.returns-clause-followed
returns-clause-followed c =
    let g = graph_of c.args.tables.now in
    let end : length c.args.bytes.now ≤ c.loop-byte.byte-index = omega arith in
    let stand = subst (λ (f : FoundSet). StandForAllFrom g f.set c.args.bytes.now) (sym (c.loop-byte.invariant.more.grows.same c.args.from c.requires.within)) c.requires.bytes in
    followed-all g c.args.wanted.now c.args.settled.now c.loop-byte.sets c.args.from c.args.bytes.now stand
    (subst (IsFollowedBehind g c.args.wanted.now c.args.settled.now c.loop-byte.sets c.args.from) (take_all c.loop-byte.byte-index c.args.bytes.now end) c.loop-byte.invariant.followed)
