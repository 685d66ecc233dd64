-- States in two bytes each, and what they stand for.
use Rattle.std.proofs.Common.{◌≡◌, ℕ, ◌<◌, List, length, map, set, get_or, sym, ◌∙◌, ap, ap₂, arith}
use Rattle.std.proofs.lemmas.List.{get_or-map, length-map, map-set}
use Rattle.aa_glob_nfa.specs.code.PackedStates.{state_of}
use Rattle.aa_glob_nfa.specs.Tables.{State, bare, state_at}
use Rattle.aa_glob_nfa.specs.declared.packed_state.PackedState.{PackedState}
use Rattle.aa_glob_nfa.specs.declared.state.Gate.TheVariants.{Free}

-- a state is put where another was
pub packed-set : (packed : List PackedState) (states : List State) (q : ℕ) (old new : PackedState) (turned : State → State) → map state_of packed ≡ states → q < length states
    → old ≡ get_or packed q old → state_of new ≡ turned (state_of old) → map state_of (set packed q new) ≡ set states q (turned (state_at states q))
packed-set packed states q old new turned is within at put =
    let inside : q < length packed = omega (arith, length-map packed state_of, ap length is, within) in
    let there : state_at states q ≡ state_of old = ap (λ l. state_at l q) (sym is) ∙ get_or-map state_of packed q old (bare Free) inside ∙ ap state_of (sym at) in
    map-set state_of packed q new ∙ ap₂ (λ l s. set l q s) is (put ∙ ap turned (sym there))
