use Rattle.std.proofs.Common.{◌≡◌, ◌<◌, ◌*◌, ◌+◌, ◌-◌, ◌^◌, true, drop}
use Rattle.std.specs.List.{fold, list_all}
use Rattle.aa_bytes.specs.Bytes.{is_digit}
use Rattle.aa_set_commands.specs.Command.{number_of_digits}
use Rattle.aa_set_commands.proofs.command.number_of_digits.Given as goal

-- the digits so far and the others stand for what all do
abbrev pub invariant-loop-digit : goal.invariant-loop-digit
invariant-loop-digit l = record {
  number : fold (λ number digit. 10 * number + (digit - 48)) l.number (drop l.digit-index l.digits) ≡ number_of_digits l.digits;
  small : l.number < 10 ^ l.digit-index;
  digits : list_all is_digit (drop l.digit-index l.digits) ≡ true;
}
