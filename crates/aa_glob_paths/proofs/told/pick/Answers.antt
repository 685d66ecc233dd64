use Rattle.std.proofs.Common.{ℕ, not, ◌≤◌, [], ◌∷◌, length, get_or, take, sym, ◌∙◌, ap, subst, inr, arith, true≢false}
use Rattle.std.proofs.lemmas.List.{take_all, take_more}
use Rattle.std.proofs.lemmas.List.Elements.{Contains-append_left, Contains-push}
use Rattle.std.specs.Prelude.{Contains}
use Rattle.aa_glob_paths.specs.code.Told.{HasStanding}
use Rattle.aa_glob_paths.proofs.ToldLemmas.{only-pushed, stand-last, stand-more, stand-there}
use Rattle.aa_glob_paths.proofs.told.pick.Goals.{then-is_told+in_ok-push, then-is_told-via-then-is_told, then-is_told-via-else-is_told+then-not-has_untold, else-is_told+else-not-has_untold, then-has_untold, else-has_untold}
use Rattle.aa_glob_paths.proofs.told.pick.Goals as goal

pub loop-byte-preserved : goal.loop-byte-preserved
loop-byte-preserved c =
    let told = c.args.told.now in
    let bytes = c.args.bytes.now in
    let i = c.loop-byte.byte-index in
    let byte = get_or bytes i 0 in
    let old = c.loop-byte.own.items in
    let before = c.loop-byte.invariant in
    rw (take_more bytes i 0 c.loop-byte-test.true)
    (elim c.if-is_told.branch [
      | then-is_told+in_ok-push w ↦
          rw (w.own-is, w.in_ok-push.ensures.items)
          (record {
            each = stand-more told (take i bytes) byte old byte before.each (stand-there told old byte);
            only = only-pushed bytes old i c.loop-byte-test.true before.only;
            other = elim w.then-is_told.branch [
              | then-is_told-via-then-is_told v ↦ λ is. elim c.if-has_untold.branch [
                | then-has_untold u ↦ let one = before.other u.if-has_untold.true in (one.0, Contains-append_left old (byte ∷ []) one.0 one.1, one.2)
                | else-has_untold u ↦ absurd (true≢false (sym is ∙ u.has_untold-is ∙ ap not v.if-is_told.true))
              ]
              | then-is_told-via-else-is_told+then-not-has_untold v ↦ λ is. (byte, Contains-push old byte, sym c.has-is_told.ensures ∙ v.if-is_told.false)
            ];
          })
      | else-is_told+else-not-has_untold w ↦
          rw (w.own-is)
          (record {
            each =
                let one = before.other w.if-not-has_untold.false in
                stand-last told (take i bytes) byte old before.each (one.0, one.1, inr (one.2, sym c.has-is_told.ensures ∙ w.if-is_told.false));
            only = before.only;
            other = λ is. before.other w.if-not-has_untold.false;
          })
    ])

pub returns : goal.returns
returns c =
    let end : length c.args.bytes.now ≤ c.loop-byte.byte-index = omega arith in
    record {
      each = subst (λ l. (b : ℕ) → Contains l b → HasStanding c.args.told.now c.loop-byte.own.items b) (take_all c.loop-byte.byte-index c.args.bytes.now end) c.loop-byte.invariant.each;
      only = c.loop-byte.invariant.only;
    }
