-- Lemmas on what was written to a stream and what waits: facts that follow one another make one fact.
use Rattle.std.proofs.Common.{◌≡◌, ℕ, List, [], ◌++◌, Option, sym, ap, ◌∙◌, append_assoc, append-nil, length, take, drop, take-append-drop, ◌-◌}
use Rattle.std.proofs.lemmas.List.{take_rest}
use Rattle.std.proofs.KnownBytes.{Appends-trans}
use Rattle.std.specs.Io.KnownBytes.{Appends}
use Rattle.aa_set_commands.specs.Streams.{AppendsFront, WritesBehind}

-- what is left behind a front of `rest`, as a slice of it from `n` on
pub rest_behind : (bytes done rest : List ℕ) (n : ℕ) → bytes ≡ done ++ rest → bytes ≡ (done ++ take n rest) ++ take (length rest - n) (drop n rest)
rest_behind bytes done rest n p =
    let joined : take n rest ++ take (length rest - n) (drop n rest) ≡ rest = rw take_rest (take-append-drop n rest) in
    p ∙ ap (λ (l : List ℕ). done ++ l) (sym joined) ∙ sym (append_assoc done (take n rest) (take (length rest - n) (drop n rest)))

-- a front of the bytes is a front of the bytes and more
pub AppendsFront-more : (a b : Option (List ℕ)) (bs more : List ℕ) → AppendsFront a b bs → AppendsFront a b (bs ++ more)
AppendsFront-more a b bs more p = (p.0, p.1 ++ more, ap (λ (l : List ℕ). l ++ more) p.2 ∙ append_assoc p.0 p.1 more, p.3)

-- bytes, and then a front of others
pub AppendsFront-after : (a b c : Option (List ℕ)) (bs cs : List ℕ) → Appends a b bs → AppendsFront b c cs → AppendsFront a c (bs ++ cs)
AppendsFront-after a b c bs cs p q =
    (bs ++ q.0, q.1, ap (λ (l : List ℕ). bs ++ l) q.2 ∙ sym (append_assoc bs q.0 q.1), Appends-trans a b c bs q.0 p q.3)

-- what waited is written, then the bytes are, and nothing waits
pub WritesBehind-written : (a b c : Option (List ℕ)) (waited waits bs : List ℕ) → Appends a b waited → Appends b c bs → waits ≡ [] → WritesBehind a c waited waits bs
WritesBehind-written a b c waited waits bs p q none = record {
  done = waited ++ bs;
  writes = Appends-trans a b c waited bs p q;
  keeps = ap (λ (l : List ℕ). (waited ++ bs) ++ l) none ∙ append-nil (waited ++ bs);
}
