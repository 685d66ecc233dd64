-- The outcome of a transcript, as the code holds it.
use Rattle.aatry_test.specs.Tests.{Accepted, Failed, Outcome, Passed}
use Rattle.aatry_test.specs.declared.testing.Outcome.{Outcome as CodeOutcome}
use Rattle.aatry_test.specs.declared.testing.Outcome.TheVariants as code

abbrev pub seen_outcome : CodeOutcome → Outcome
seen_outcome code.Passed = Passed
seen_outcome code.Failed = Failed
seen_outcome (code.Accepted text) = Accepted text.items
