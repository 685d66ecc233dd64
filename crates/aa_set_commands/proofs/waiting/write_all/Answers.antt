use Rattle.std.proofs.Common.{take, ◌++◌, ◌∙◌}
use Rattle.std.proofs.KnownBytes.{Appends-trans}
use Rattle.aa_set_commands.proofs.StreamLemmas.{rest_behind}
use Rattle.aa_set_commands.proofs.waiting.write_all.Goals as goal

pub loop-rest-preserved : goal.loop-rest-preserved
loop-rest-preserved g c =
    let so_far = c.loop-rest.invariant.0 in
    let front = take c.in_ok-taken.taken c.loop-rest.rest.now in (
      (
        so_far.0 ++ front,
        rest_behind c.args.bytes.now so_far.0 c.loop-rest.rest.now c.in_ok-taken.taken so_far.1,
        Appends-trans _ _ _ so_far.0 front so_far.2 c.in_ok-taken.ensures.bytes,
      ),
      c.in_ok-taken.ensures.ok ∙ c.loop-rest.invariant.1,
    )
