use Rattle.std.proofs.Common.{rules}
use Rattle.aa_set_manager.specs.Manager.{new_manager_in}
use Rattle.aa_set.proofs.session.run_with_in.Goals as goal

pub returns-in_err-serve-clause-so_far : goal.returns-in_err-serve-clause-so_far
returns-in_err-serve-clause-so_far g c =
    λ read. c.in_err-serve.ensures.so_far (search rules) (new_manager_in c.args.language c.args.force_complain) (g.W.Sink.written c.args.writer.now)
    (c.in-Ok.ensures.session c.args.files.now (g.W.Sink.written c.args.writer.now))
