use Rattle.std.proofs.Common.{◌≡◌, ◌∙◌, ap, arith, length, true, Some}
use Rattle.std.specs.Prelude.{nat_le}
use Rattle.std.proofs.lemmas.Bool.Decides.{nat_tests}
use Rattle.aa_set_manager.specs.Outcomes.{command_in}
use Rattle.aa_set_commands.specs.Command.{Add, Replace, seen_change}
use Rattle.aa_set_commands.specs.Limits.{longest_line}
use Rattle.aatry_session_told.specs.Commands.{change_in}
use Rattle.aatry_session.proofs.MakeLemmas.{line-made}
use Rattle.aatry_session.proofs.making.make.Goals as goal

pub returns-in-Add-clause-reply : goal.returns-in-Add-clause-reply
returns-in-Add-clause-reply c =
    let line = c.args.line.now in
    let short : nat_le (length line) longest_line ≡ true = grind (arith, nat_tests, c.if-line-gt-LONGEST_LINE.false) in
    let is : change_in (command_in line) ≡ Some (Add c.in-Add.file.now) = c.requires ∙ ap (λ change. Some (seen_change change)) c.in-Add.is in
    let flag = c.add.ensures.reply.0 in
    (flag, c.add.ensures.reply.1 ∙ line-made c.args.files.now c.args.manager.now flag line (Add c.in-Add.file.now) short is)

pub returns-in-Replace-clause-reply : goal.returns-in-Replace-clause-reply
returns-in-Replace-clause-reply c =
    let line = c.args.line.now in
    let short : nat_le (length line) longest_line ≡ true = grind (arith, nat_tests, c.if-line-gt-LONGEST_LINE.false) in
    let is : change_in (command_in line) ≡ Some (Replace c.in-Replace.file.now) = c.requires ∙ ap (λ change. Some (seen_change change)) c.in-Replace.is in
    let flag = c.replace.ensures.reply.0 in
    (flag, c.replace.ensures.reply.1 ∙ line-made c.args.files.now c.args.manager.now flag line (Replace c.in-Replace.file.now) short is)
