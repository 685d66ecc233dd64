use Rattle.std.proofs.Common.{refl}
use Rattle.aa_set_commands.specs.Command.{Replace}
use Rattle.aatry_session.proofs.MakeLemmas.{obeyed-made}
use Rattle.aatry_session.proofs.making.replace.Goals as goal

pub returns-clause-reply : goal.returns-clause-reply
returns-clause-reply c =
    obeyed-made c.args.files.now c.args.manager.now c.replace_file.new.manager (Replace c.args.name.now) c.replace_file.result c.answered.result.reply refl
    c.replace_file.ensures.ok c.replace_file.ensures.refused c.replace_file.ensures.unchanged c.answered.ensures.reply
