use Rattle.std.proofs.Common.{◌≤◌, ◌+◌, length, subst, sym, arith}
use Rattle.std.proofs.lemmas.List.Elements.{All-weaker}
use Rattle.aa_glob_nfa.specs.OfTables.{graph_of}
use Rattle.aa_glob_paths.specs.Alike.{StandForAll}
use Rattle.aa_glob_paths.specs.Found.{FoundSet}
use Rattle.aa_glob_paths.proofs.FoundLemmas.{closed-next}
use Rattle.aa_glob_paths.proofs.TextLemmas.{closed-reachable, more-than}
use Rattle.aa_glob_paths.proofs.closing.reachable.Goals as goal

pub follow_all-requires-clause-bytes : goal.follow_all-requires-clause-bytes
follow_all-requires-clause-bytes c = subst (StandForAll (graph_of c.args.tables.now)) (sym c.deref.ensures.value) c.in_ok-bytes.ensures.all

pub loop-at-preserved : goal.loop-at-preserved
loop-at-preserved c =
    let here = c.in_ok-follow_all.ensures in
    let at = c.loop-at.at in
    record {
      found = here.more.found;
      up_to = All-weaker (λ (f : FoundSet). f.origin.from ≤ at) (λ (f : FoundSet). f.origin.from ≤ at + 1) (λ f low. omega (arith, low)) c.follow_all.new.sets here.more.up_to;
      room = here.room;
      closed = closed-next (graph_of c.args.tables.now) c.args.wanted.now c.args.settled.now c.loop-at.sets c.follow_all.new.sets at (omega arith) here.more.grows
          c.loop-at.invariant.closed here.followed;
    }

pub returns-clause-reachable : goal.returns-clause-reachable
returns-clause-reachable c =
    closed-reachable (graph_of c.args.tables.now) c.args.wanted.now c.args.settled.now (length c.args.tables.now.states) c.loop-at.sets c.requires.back c.loop-at.invariant.found
    (λ n byte within is_byte. c.loop-at.invariant.closed n (omega (arith, within)) byte is_byte)

pub returns-then-len-limit-clause-full : goal.returns-then-len-limit-clause-full
returns-then-len-limit-clause-full c _ =
    more-than (graph_of c.args.tables.now) (length c.args.tables.now.states) c.loop-at.sets c.args.limit c.loop-at.invariant.found (omega arith)
