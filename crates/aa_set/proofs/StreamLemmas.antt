-- What was written to a stream, and what a stream gave: facts that follow one another make one fact.
use Rattle.std.proofs.Common.{◌≡◌, ℕ, zero, suc, Bool, true, false, ◌||◌, refl, List, [], ◌++◌, Option, None, Some, IfSome, sym, ap, ◌∙◌, append_assoc, append-nil, subst}
use Rattle.std.proofs.KnownBytes.{Appends-nil, Appends-trans}
use Rattle.std.specs.Io.KnownBytes.{Appends, Consumes, IsAtEnd}
use Rattle.std.specs.Prelude.{OnErr, Result, Ok, Err, ◌∷◌, fold}
use Rattle.std.proofs.Math.Dec.{eqb-suc-zero}
use Rattle.aa_set_commands.specs.Streams.{AppendsFront, WritesBehind, comes_to_end}

-- no bytes were written
pub WritesBehind-nil : (a : Option (List ℕ)) (waits : List ℕ) → WritesBehind a a waits waits []
WritesBehind-nil a waits = record { done = []; writes = Appends-nil a; keeps = sym (append-nil waits) }

-- one writing after another
pub WritesBehind-trans : {a b c : Option (List ℕ)} {w v u bs cs : List ℕ} → WritesBehind a b w v bs → WritesBehind b c v u cs → WritesBehind a c w u (bs ++ cs)
WritesBehind-trans {a} {b} {c} {w} {v} {u} {bs} {cs} p q = record {
  done = p.done ++ q.done;
  writes = Appends-trans a b c p.done q.done p.writes q.writes;
  keeps = append_assoc p.done q.done u ∙ ap (λ (l : List ℕ). p.done ++ l) q.keeps ∙ sym (append_assoc p.done v cs) ∙ ap (λ (l : List ℕ). l ++ cs) p.keeps ∙ append_assoc w bs cs;
}

-- after a writing all that waits is written
pub WritesBehind-flushed : {a b : Option (List ℕ)} {w v bs : List ℕ} (c : Option (List ℕ)) → WritesBehind a b w v bs → Appends b c v → Appends a c (w ++ bs)
WritesBehind-flushed {a} {b} {w} {v} {bs} c p q = subst (Appends a c) p.keeps (Appends-trans a b c p.done v p.writes q)

-- equal bytes are written alike
pub WritesBehind-same : {a b : Option (List ℕ)} {w v bs cs : List ℕ} → WritesBehind a b w v bs → bs ≡ cs → WritesBehind a b w v cs
WritesBehind-same {a} {b} {w} {v} p e = subst (WritesBehind a b w v) e p

-- what holds of all that a reader gave, up to its end, holds of what it had left
pub Consumes-whole : (a b c : Option (List ℕ)) (holds : List ℕ → Type 0) (given : List ℕ) → Consumes a b given → Consumes b c [] → IsAtEnd c → holds given → IfSome a holds
Consumes-whole None b c holds given p q end h = tt
Consumes-whole (Some x) None c holds given p q end h = absurd p
Consumes-whole (Some x) (Some y) None holds given p q end h = absurd q
Consumes-whole (Some x) (Some y) (Some z) holds given p q end h = subst holds (sym (p ∙ ap (λ (l : List ℕ). given ++ l) (q ∙ end) ∙ append-nil given)) h

-- a front of some bytes is one of more
pub Front-more : (a b : Option (List ℕ)) (bs more : List ℕ) → AppendsFront a b bs → AppendsFront a b (bs ++ more)
Front-more a b bs more (front, rest, is, written) = (front, rest ++ more, ap (λ (l : List ℕ). l ++ more) is ∙ append_assoc front rest more, written)

pub Front-same : (a b : Option (List ℕ)) (bs cs : List ℕ) → AppendsFront a b bs → bs ≡ cs → AppendsFront a b cs
Front-same a b bs cs p e = subst (AppendsFront a b) e p

-- behind bytes that were written
pub Front-behind : (a b c : Option (List ℕ)) (done bs : List ℕ) → Appends a b done → AppendsFront b c bs → AppendsFront a c (done ++ bs)
Front-behind a b c done bs written (front, rest, is, next) =
    (done ++ front, rest, ap (λ (l : List ℕ). done ++ l) is ∙ sym (append_assoc done front rest), Appends-trans a b c done front written next)

Front-on : (a c : Option (List ℕ)) (w bs : List ℕ) (more : List (List ℕ)) → AppendsFront a c (w ++ bs) → AppendsFront a c (w ++ fold (λ l m. l ++ m) bs more)
Front-on a c w bs [] front = front
Front-on a c w bs (piece ∷ more) front =
    Front-on a c w (bs ++ piece) more (Front-same a c ((w ++ bs) ++ piece) (w ++ (bs ++ piece)) (Front-more a c (w ++ bs) piece front) (append_assoc w bs piece))

-- Bytes were written behind what waited, and then a front of what waited and of a further piece was written: so a front of all, of these and of more pieces that weren't written.
pub Front-written : {a b : Option (List ℕ)} {w v pre : List ℕ} (c : Option (List ℕ)) (piece : List ℕ) (more : List (List ℕ)) (whole : List ℕ) → WritesBehind a b w v pre
    → AppendsFront b c (v ++ piece) → fold (λ l m. l ++ m) (pre ++ piece) more ≡ whole → AppendsFront a c (w ++ whole)
Front-written {a} {b} {w} {v} {pre} c piece more whole behind front same =
    Front-same a c (w ++ fold (λ l m. l ++ m) (pre ++ piece) more) (w ++ whole)
    (Front-on a c w (pre ++ piece) more (
    Front-same a c (behind.done ++ (v ++ piece)) (w ++ (pre ++ piece)) (Front-behind a b c behind.done (v ++ piece) behind.writes front)
    (sym (append_assoc behind.done v piece) ∙ ap (λ (l : List ℕ). l ++ piece) behind.keeps ∙ append_assoc w pre piece)
    ))
    (ap (λ (l : List ℕ). w ++ l) same)

-- what holds, holds where there is an error
pub where_err : {A E P : Type 0} (result : Result A E) → P → OnErr result P
where_err (Ok done) p = tt
where_err (Err error) p = p

-- and what follows from what holds there
pub weaker_err : {A E P Q : Type 0} (result : Result A E) → (P → Q) → OnErr result P → OnErr result Q
weaker_err (Ok done) f p = tt
weaker_err (Err error) f p = f p

-- a read that gave bytes comes to no end
pub still_going : (ended : Bool) (count size : ℕ) → (count ≡ 0 → ⊥) → (ended || comes_to_end count size) ≡ ended
still_going true count size h = refl
still_going false zero size h = absurd (h refl)
still_going false (suc count) size h = rw (eqb-suc-zero count) refl
