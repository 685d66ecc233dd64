-- Which words ask whether a program ever runs unconfined.
use Rattle.std.proofs.Common.{◌≡◌, ℕ, List, [], ◌∷◌, ap, codes, refl}
use Rattle.std.specs.Str.{chars}
use Rattle.std.proofs.lemmas.Slice.Eq.{bytes_eq-Decides}
use Rattle.aatry_claims.specs.Words.{letters_of, whose_of, words_with}
use Rattle.aatry_never_exec.specs.Laws.{ExecIsNoAccess}

pub exec-is-no-access : ExecIsNoAccess
unfolding chars
exec-is-no-access [] asks = absurd cc
exec-is-no-access (first ∷ []) asks = absurd cc
exec-is-no-access (first ∷ name ∷ []) asks = refl
exec-is-no-access (first ∷ name ∷ pattern ∷ names) asks =
    let same : first ≡ codes "exec" = (bytes_eq-Decides first (codes "exec")).0 asks in
    ap (λ access. words_with (letters_of access) (whose_of name) pattern names) same
