use Rattle.std.proofs.Common.{◌∙◌, ap, sym}
use Rattle.aa_glob_nfa.specs.Entries.{takes_byte}
use Rattle.aa_glob_nfa.specs.declared.state.Gate.TheVariants.{Byte, Inside}
use Rattle.aa_glob_pairs.proofs.MoveLemmas.{entry_by_gate}
use Rattle.aa_glob_pairs.proofs.moves.bytes_taken.Goals as goal

pub returns-in-Byte : goal.returns-in-Byte
returns-in-Byte c byte small =
    sym (ap (λ e. takes_byte e byte) (entry_by_gate c.args.tables.now c.args.state (Byte c.in-Byte.byte) c.requires.is_state (sym c.in-Byte.is ∙ c.gate.ensures)))

pub returns-in-Inside : goal.returns-in-Inside
returns-in-Inside c byte small =
    sym (ap (λ e. takes_byte e byte) (entry_by_gate c.args.tables.now c.args.state Inside c.requires.is_state (sym c.in-Inside.is ∙ c.gate.ensures)))
