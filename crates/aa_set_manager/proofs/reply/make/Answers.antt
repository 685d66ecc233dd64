use Rattle.std.proofs.Common.{refl}
use Rattle.aa_set_commands.specs.Command.{Add, Remove, Replace}
use Rattle.aa_set_manager.proofs.ReplyLemmas.{obeyed-made, of-each}
use Rattle.aa_set_manager.proofs.reply.make.Goals as goal

pub returns-in-Add : goal.returns-in-Add
returns-in-Add c =
    rw c.in-Add.is (obeyed-made c.args.files.now c.args.manager.now c.add.new.self (Add c.in-Add.file.now) c.add.result c.done.result
    c.add.ensures.ok c.add.ensures.refused c.add.ensures.unchanged (of-each c.add.result (λ refusal memory. refl)) c.done.ensures)

pub returns-in-Replace : goal.returns-in-Replace
returns-in-Replace c =
    rw c.in-Replace.is (obeyed-made c.args.files.now c.args.manager.now c.replace.new.self (Replace c.in-Replace.file.now) c.replace.result c.done-in-Replace.result
    c.replace.ensures.ok c.replace.ensures.refused c.replace.ensures.unchanged (of-each c.replace.result (λ refusal memory. refl)) c.done-in-Replace.ensures)

pub returns-in-Remove : goal.returns-in-Remove
returns-in-Remove c =
    rw c.in-Remove.is (obeyed-made c.args.files.now c.args.manager.now c.remove.new.self (Remove c.in-Remove.file.now) c.remove.result c.done-in-Remove.result
    c.remove.ensures.ok c.remove.ensures.refused c.remove.ensures.unchanged (of-each c.remove.result (λ refusal memory. refl)) c.done-in-Remove.ensures)
