-- The refusals of a cut: the number and name of each, and what a fault means.
use Rattle.std.specs.Prelude.{ℕ, ◌≡◌, List, Result, Err, codes, MatchOption}
use Rattle.aa_text_tokens.specs.Cut.{Seen}
use Rattle.aa_text_tokens.specs.declared.cut.CutFault.{CutFault}
use Rattle.aa_text_tokens.specs.declared.cut.CutRefusal.{CutRefusal}
use Rattle.aa_text_tokens.specs.declared.cut.CutRefusal.TheVariants.{OpenQuote, OpenOther, Memory}

-- the one table of numbers and names
abbrev pub described : CutRefusal → ℕ × List ℕ
described OpenQuote = (21, codes "OpenQuote")
described OpenOther = (22, codes "OpenOther")
described Memory = (99, codes "Memory")

abbrev pub number_of : CutRefusal → ℕ
number_of refusal = (described refusal).0

abbrev pub name_of : CutRefusal → List ℕ
name_of refusal = (described refusal).1

-- a fault is the first of a text that is cut, with its offset; one without an offset means that memory ran out
abbrev pub IsFirstFault : CutFault → Result (List Seen) (CutRefusal × ℕ) → Type 0
IsFirstFault fault tokens = MatchOption fault.at (fault.refusal ≡ Memory) (λ at. tokens ≡ Err (fault.refusal, at))
