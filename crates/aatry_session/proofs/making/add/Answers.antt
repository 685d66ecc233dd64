use Rattle.std.proofs.Common.{refl}
use Rattle.aa_set_commands.specs.Command.{Add}
use Rattle.aatry_session.proofs.MakeLemmas.{obeyed-made}
use Rattle.aatry_session.proofs.making.add.Goals as goal

pub returns-clause-reply : goal.returns-clause-reply
returns-clause-reply c =
    obeyed-made c.args.files.now c.args.manager.now c.add_file.new.manager (Add c.args.name.now) c.add_file.result c.answered.result.reply refl
    c.add_file.ensures.ok c.add_file.ensures.refused c.add_file.ensures.unchanged c.answered.ensures.reply
