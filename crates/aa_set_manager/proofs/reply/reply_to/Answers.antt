use Rattle.std.proofs.Common.{◌≡◌, false, length, arith, refl}
use Rattle.std.specs.Prelude.{nat_le}
use Rattle.std.proofs.lemmas.Bool.Decides.{nat_tests}
use Rattle.aa_set_commands.specs.Limits.{longest_line}
use Rattle.aa_set_manager.proofs.reply.reply_to.Goals as goal

pub returns-then-line-gt-LONGEST_LINE : goal.returns-then-line-gt-LONGEST_LINE
returns-then-line-gt-LONGEST_LINE c =
    let over : nat_le (length c.args.line.now) longest_line ≡ false = grind (arith, nat_tests, c.if-line-gt-LONGEST_LINE.true) in
    (false, rw (c.plain.ensures, over) refl)
