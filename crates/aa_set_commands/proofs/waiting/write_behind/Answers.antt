use Rattle.std.proofs.lemmas.Result.{err_from_is_err_and, on_ok_weaker, on_err_weaker}
use Rattle.aa_set_commands.proofs.StreamLemmas.{AppendsFront-more, AppendsFront-after, WritesBehind-written}
use Rattle.aa_set_commands.proofs.waiting.write_behind.Goals as goal

pub returns-in_err-flush-clause-err : goal.returns-in_err-flush-clause-err
returns-in_err-flush-clause-err g c =
    let stopped = err_from_is_err_and c.from_residual.result c.from_residual.ensures.1 in
    rw stopped.1 (AppendsFront-more _ _ c.args.waiting.now.items c.args.bytes.now c.in_err-flush.ensures.err)

pub returns-then-bytes-capacity-2-clause-ok : goal.returns-then-bytes-capacity-2-clause-ok
returns-then-bytes-capacity-2-clause-ok g c =
    on_ok_weaker c.write_all.result
    (λ all. WritesBehind-written _ _ _ c.args.waiting.now.items c.flush.new.waiting.items c.args.bytes.now c.in_ok-flush.ensures.ok all c.in_ok-flush.ensures.empty)
    c.write_all.ensures.ok

pub returns-then-bytes-capacity-2-clause-err : goal.returns-then-bytes-capacity-2-clause-err
returns-then-bytes-capacity-2-clause-err g c =
    on_err_weaker c.write_all.result
    (AppendsFront-after _ _ _ c.args.waiting.now.items c.args.bytes.now c.in_ok-flush.ensures.ok)
    c.write_all.ensures.err
