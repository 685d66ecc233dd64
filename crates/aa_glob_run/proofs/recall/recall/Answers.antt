use Rattle.std.proofs.Common.{arith}
use Rattle.aa_glob_run.proofs.recall.recall.Goals as goal

pub loop-byte-preserved-in-Some : goal.loop-byte-preserved-in-Some
loop-byte-preserved-in-Some c =
    let known = c.loop-byte.invariant in
    record {
      memo = known.memo;
      within = (known.memo.known c.loop-byte.at _ c.in-Some.to known.within (omega arith) c.in-Some.ensures).0;
      few = known.few;
    }
