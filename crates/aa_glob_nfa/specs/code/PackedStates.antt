-- States as they are stored: two bytes for each.
use Rattle.std.specs.Prelude.{ℕ, ◌==◌, if◌then◌else◌}
use Rattle.aa_bytes.specs.Bits.{byte_has_bit}
use Rattle.aa_glob_nfa.specs.Tables.{State}
use Rattle.aa_glob_nfa.specs.declared.state.Gate.{Gate}
use Rattle.aa_glob_nfa.specs.declared.state.Gate.TheVariants.{Free, Byte, Inside, Class, Star, DoubleStar}
use Rattle.aa_glob_nfa.specs.declared.packed_state.PackedState.{PackedState}

-- the gate of each number; a byte's gate has none
abbrev pub gate_numbered : ℕ → Gate
gate_numbered n = if n == 0 then Free else if n == 1 then Inside else if n == 2 then Class else if n == 3 then Star else DoubleStar

-- The state that two bytes mean. Its first flag says whether its byte leads in or is a gate's number.
abbrev pub state_of : PackedState → State
state_of packed =
    record {
      gate = if byte_has_bit packed.flags 0 then Byte packed.byte else gate_numbered packed.byte;
      leads_on = byte_has_bit packed.flags 1;
      leads_away = byte_has_bit packed.flags 2;
      ends = byte_has_bit packed.flags 3;
    }
