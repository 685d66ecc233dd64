use Rattle.std.proofs.Common.{◌≡◌, take}
use Rattle.aa_start.specs.Texts.{texts, words_of}
use Rattle.aa_start.proofs.parsing.copied.Given as goal

abbrev pub invariant-loop-text : goal.invariant-loop-text
invariant-loop-text l = texts l.copies ≡ words_of (take l.text-index l.given)
