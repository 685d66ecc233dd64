use Rattle.std.proofs.Common.{◌≡◌, ◌≤◌, ℕ, true, length, get_or, take, sym, ◌∙◌, subst, arith}
use Rattle.std.proofs.lemmas.List.{take_all, take_more}
use Rattle.std.specs.Prelude.{Contains}
use Rattle.aa_bytes.specs.ByteMaps.{in_map}
use Rattle.aa_glob_nfa.specs.Entries.{takes_byte}
use Rattle.aa_glob_nfa.specs.Graphs.{entry_of}
use Rattle.aa_glob_nfa.specs.OfTables.{graph_of}
use Rattle.aa_glob_paths.proofs.ToldLemmas.{taken-more, taken-same, was-there}
use Rattle.aa_glob_paths.proofs.told.tell_taken.Goals.{then-takes_if, else-takes_if}
use Rattle.aa_glob_paths.proofs.told.tell_taken.Goals as goal

pub loop-byte-preserved : goal.loop-byte-preserved
loop-byte-preserved c =
    let g = graph_of c.args.tables.now in
    let bytes = c.args.bytes.now in
    let i = c.loop-byte.byte-index in
    let before = c.loop-byte.invariant in
    rw (take_more bytes i 0 c.loop-byte-test.true)
    (elim c.if-takes_if.branch [
      | then-takes_if w ↦
          rw (w.told-is)
          (record {
            keeps = λ b there. was-there c.loop-byte.told w.insert.new.self (get_or bytes i 0) b w.insert.ensures (before.keeps b there);
            taken = taken-more g c.args.number (take i bytes) (get_or bytes i 0) c.loop-byte.told w.insert.new.self before.taken w.insert.ensures;
          })
      | else-takes_if w ↦
          rw (w.told-is)
          (record {
            keeps = before.keeps;
            taken = taken-same g c.args.number (take i bytes) (get_or bytes i 0) c.loop-byte.told before.taken (sym c.takes_if.ensures ∙ w.if-takes_if.false);
          })
    ])

pub returns-clause-taken : goal.returns-clause-taken
returns-clause-taken c =
    let g = graph_of c.args.tables.now in
    let end : length c.args.bytes.now ≤ c.loop-byte.byte-index = omega arith in
    subst (λ l. (b : ℕ) → Contains l b → takes_byte (entry_of g c.args.number) b ≡ true → in_map c.loop-byte.told b ≡ true) (take_all c.loop-byte.byte-index c.args.bytes.now end)
    c.loop-byte.invariant.taken
