use Rattle.std.proofs.Common.{refl, sym, ◌∙◌, inl, inr}
use Rattle.aa_glob_nfa.specs.declared.state.Gate.TheVariants.{DoubleStar, Free, Star}
use Rattle.aa_glob_paths.proofs.ToldLemmas.{keeps-same, put-there, tells-byte, tells-inside, tells-none}
use Rattle.aa_glob_paths.proofs.told.tell_entry.Goals as goal

pub returns-in-Byte-clause-tells : goal.returns-in-Byte-clause-tells
returns-in-Byte-clause-tells c =
    tells-byte c.args.tables.now c.args.bytes.now c.insert.new.self c.args.number c.requires.is_state c.in-Byte.byte (sym c.gate.ensures ∙ c.in-Byte.is)
    (put-there c.args.told.now c.insert.new.self c.in-Byte.byte c.insert.ensures)

pub returns-in-Free : goal.returns-in-Free
returns-in-Free c =
    let t = c.args.tables.now in
    let bytes = c.args.bytes.now in
    let told = c.args.told.now in
    let r = c.args.number in
    record {
      keeps = keeps-same told;
      tells = elim c.in-Free.is [
        | inl free ↦ tells-none t bytes told r c.requires.is_state Free (sym c.gate.ensures ∙ free) (λ b. refl)
        | inr other ↦ elim other [
          | inl inside ↦ tells-inside t bytes told r c.requires.is_state (sym c.gate.ensures ∙ inside) c.requires.ends
          | inr stays ↦ elim stays [
            | inl star ↦ tells-none t bytes told r c.requires.is_state Star (sym c.gate.ensures ∙ star) (λ b. refl)
            | inr two ↦ tells-none t bytes told r c.requires.is_state DoubleStar (sym c.gate.ensures ∙ two) (λ b. refl)
          ]
        ]
      ];
    }
