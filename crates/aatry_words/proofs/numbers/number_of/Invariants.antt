use Rattle.std.proofs.Common.{◌≡◌, ◌<◌, drop}
use Rattle.aatry_words.specs.Numbers.{end_of_times, number_onto}
use Rattle.aatry_words.proofs.numbers.number_of.Given as goal

-- the number so far, with the digits that are left behind it
abbrev pub invariant-loop-digit : goal.invariant-loop-digit
invariant-loop-digit l = record {
  same : number_onto l.number (drop l.digit-index l.text) ≡ number_onto 0 l.text;
  small : l.number < end_of_times;
}
