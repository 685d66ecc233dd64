-- Questions, how often each occurred, and when.
use Rattle.std.specs.Prelude.{ℕ, ◌+◌, ◌-◌, ◌^◌, min, if◌then◌else◌, List, [], ◌∷◌, Option, None}
use Rattle.aa_set_commands.specs.Question.{Question}
use Rattle.aatry_requests.specs.Spans.{widened}
use Rattle.aatry_requests.specs.Texts.{is_same}
use Rattle.aatry_requests.specs.declared.spans.Span.{Span}

-- a question, how often it occurred, and when first and last, where that is known of one time
pub record Tally : Type 0 where
  pub question : Question
  pub times : ℕ
  pub span : Option Span

-- one more, up to the greatest number of the code
abbrev pub one_more : ℕ → ℕ
one_more n = min (n + 1) (2 ^ 64 - 1)

-- a question that occurred once more, at a time, where that is known
abbrev pub again : Question → Option ℕ → Tally → Tally
again question time tally = record { question = question; times = one_more tally.times; span = widened time tally.span }

-- One more question: it is counted where the same one is that occurred before, and else after all.
abbrev pub counted_with : Question → Option ℕ → List Tally → List Tally
counted_with question time [] = record { question = question; times = 1; span = widened time None } ∷ []
counted_with question time (tally ∷ tallies) =
    if is_same question tally.question then again question time tally ∷ tallies else tally ∷ counted_with question time tallies
