-- Tallies of the code as the definitions see them: each has the text by which its question is printed as its key.
use Rattle.std.specs.Prelude.{◌≡◌, ℕ, List, map, Vec}
use Rattle.std.specs.Borrow.{Bor}
use Rattle.std.specs.List.{All}
use Rattle.std.specs.declared.alloc.Global.{Global}
use Rattle.aatry_log_lines.specs.LoggedQuestions.{seen_logged}
use Rattle.aatry_requests.specs.Tallies.{Tally}
use Rattle.aatry_requests.specs.Texts.{question_text}
use Rattle.aatry_requests.specs.declared.tallies.Tally.{Tally as CodeTally}

abbrev pub seen_tally : CodeTally → Tally
seen_tally tally = record { question = seen_logged tally.question; times = tally.times; span = tally.span }

-- tallies that are borrowed
abbrev pub seen_all : List (Bor CodeTally) → List Tally
seen_all tallies = map (λ tally. seen_tally tally.now) tallies

-- an entry: the text and the tally
abbrev pub Entry : Type 0
Entry = Vec ℕ Global × CodeTally

abbrev pub seen_entries : List Entry → List Tally
seen_entries entries = map (λ entry. seen_tally entry.1) entries

-- the text of an entry is that of its question
abbrev pub IsUnderText : Entry → Type 0
IsUnderText entry = entry.0.items ≡ question_text (seen_logged entry.1.question)

abbrev pub AreUnderTexts : List Entry → Type 0
AreUnderTexts entries = All IsUnderText entries
