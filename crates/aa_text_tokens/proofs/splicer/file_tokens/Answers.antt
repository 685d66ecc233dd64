use Rattle.std.proofs.Common.{arith}
use Rattle.aa_text_tokens.proofs.SplicingLemmas.{entered-big, entered-cut, entered-fault, entered-zero}
use Rattle.aa_text_tokens.proofs.splicer.file_tokens.Goals as goal

pub returns-then-bytes-before-clause-refused : goal.returns-then-bytes-before-clause-refused
returns-then-bytes-before-clause-refused c by other =
    entered-big c.args.files.now by c.args.file c.args.before c.args.place c.bytes_at-bytes.result.now c.bytes_at-bytes.ensures (omega (arith, c.requires))

pub returns-then-has_byte-clause-refused : goal.returns-then-has_byte-clause-refused
returns-then-has_byte-clause-refused c by other =
    rw c.size_before_zero.ensures (entered-zero c.args.files.now by c.args.file c.args.before c.args.place c.bytes_at-bytes.result.now c.bytes_at-bytes.ensures (omega (arith, c.requires)) c.if-has_byte.ensures)

pub returns-in-Ok-clause-ok : goal.returns-in-Ok-clause-ok
returns-in-Ok-clause-ok c by =
    entered-cut c.args.files.now by c.args.file c.args.before c.args.place c.bytes_at-bytes.result.now _ c.bytes_at-bytes.ensures (omega (arith, c.requires)) c.if-has_byte.ensures c.in-Ok.ensures.ok

pub returns-in-Err-clause-refused : goal.returns-in-Err-clause-refused
returns-in-Err-clause-refused c by other =
    entered-fault c.args.files.now by c.args.file c.args.before c.args.place c.bytes_at-bytes.result.now c.in-Err.fault.refusal c.in-Err.fault.at c.fault_in.result c.bytes_at-bytes.ensures (omega (arith, c.requires)) c.if-has_byte.ensures c.in-Err.ensures.refused c.fault_in.ensures.refusal c.fault_in.ensures.place other
