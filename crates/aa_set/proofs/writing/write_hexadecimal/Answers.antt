use Rattle.std.proofs.Common.{[], ◌∷◌, ◌++◌, get_or, take, drop, ◌+◌, sym, ap, take-append-drop, ◌∙◌, refl, append-nil, append_assoc}
use Rattle.std.proofs.lemmas.Grind.{flat_map-append}
use Rattle.std.proofs.lemmas.List.{drop_more, take_more}
use Rattle.aa_bytes.specs.Quoting.{digits_of, hexadecimal}
use Rattle.aa_set.proofs.StreamLemmas.{Front-written, WritesBehind-nil, WritesBehind-same, WritesBehind-trans, where_err}
use Rattle.aa_set.proofs.writing.write_hexadecimal.Goals as goal

pub loop-byte-init : goal.loop-byte-init
loop-byte-init g c = record { written = WritesBehind-nil _ _; flag = refl }

pub loop-byte-preserved : goal.loop-byte-preserved
loop-byte-preserved g c = record {
  written = WritesBehind-same (WritesBehind-trans c.loop-byte.invariant.written c.in_ok-write_behind.ensures.ok) (rw (take_more c.args.bytes.now c.loop-byte.byte-index 0 c.loop-byte-test.true, flat_map-append digits_of, append-nil (digits_of (get_or c.args.bytes.now c.loop-byte.byte-index 0)), c.two_digits.ensures) refl);
  flag = c.in_ok-write_behind.ensures.flag ∙ c.loop-byte.invariant.flag;
}

pub returns-in_err-write_behind-clause-err : goal.returns-in_err-write_behind-clause-err
returns-in_err-write_behind-clause-err g c =
    let bytes = c.args.bytes.now in
    let at = c.loop-byte.byte-index in
    let whole = sym (ap hexadecimal (sym (ap (λ rest. take at bytes ++ rest) (sym (drop_more bytes at 0 c.loop-byte-test.true)) ∙ take-append-drop at bytes))
    ∙ flat_map-append digits_of (take at bytes) (get_or bytes at 0 ∷ drop (at + 1) bytes)) in
    where_err c.from_residual.result
    (Front-written _ c.two_digits.result (hexadecimal (drop (at + 1) bytes) ∷ []) (hexadecimal bytes) c.loop-byte.invariant.written c.in_err-write_behind.ensures.err
    (append_assoc (hexadecimal (take at bytes)) c.two_digits.result (hexadecimal (drop (at + 1) bytes)) ∙ rw (c.two_digits.ensures) whole))
