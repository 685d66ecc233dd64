-- When something occurred first and last.
use Rattle.std.specs.Prelude.{ℕ, Option, None, Some, max, min}
use Rattle.aatry_requests.specs.declared.spans.Span.{Span}

-- a span with one time more, where that is known; there is none before the first
abbrev pub widened : Option ℕ → Option Span → Option Span
widened None span = span
widened (Some time) None = Some (record { first = time; last = time })
widened (Some time) (Some span) = Some (record { first = min time span.first; last = max time span.last })
