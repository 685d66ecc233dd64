-- The counts of a transcript, as the code holds them.
use Rattle.aatry_test.specs.Differences.{Counts}
use Rattle.aatry_test.specs.declared.comparing.Counts.{Counts as CodeCounts}

abbrev pub seen_counts : CodeCounts → Counts
seen_counts counts = record {
  commands = counts.commands;
  differing = counts.differing;
  assertions = counts.assertions;
  failing = counts.failing;
}
