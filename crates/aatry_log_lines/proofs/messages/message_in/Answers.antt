use Rattle.std.proofs.Common.{◌≡◌, Bool, true, false, None, refl, sym, ◌∙◌}
use Rattle.std.specs.Str.{is_utf8}
use Rattle.std.proofs.lemmas.Result.{IfOk-weaker}
use Rattle.std.proofs.lemmas.Str.{IsUtf8-from_is_utf8, is_utf8-from_IsUtf8}
use Rattle.serde_json.specs.Read.{read}
use Rattle.aa_bytes.specs.Bytes.{opening_brace}
use Rattle.aa_bytes.specs.Texts.{begins_with_byte}
use Rattle.aatry_log_lines.specs.Messages.{NoMessage, message_in}
use Rattle.aatry_log_lines.proofs.messages.message_in.Goals as goal

pub returns-in-Ok : goal.returns-in-Ok
returns-in-Ok c =
    let line = c.args.line.now in
    let begins : begins_with_byte opening_brace line ≡ true = sym c.begins_with_byte.ensures.value ∙ c.if-not-begins_with_byte.false in
    let whole : is_utf8 line ≡ true = is_utf8-from_IsUtf8 line c.in-Ok.ensures.ok.0 in
    let found = c.in-Ok.ensures.ok.1 in
    IfOk-weaker c.message_of.result _ _ (λ v h. h ∙ rw (message_in, begins, whole, found) refl) c.message_of.ensures

pub returns-in_default : goal.returns-in_default
returns-in_default c = by (is_utf8 c.args.line.now) refl
  where
    begins : begins_with_byte opening_brace c.args.line.now ≡ true
    begins = sym c.begins_with_byte.ensures.value ∙ c.if-not-begins_with_byte.false

    by : (whole : Bool) → is_utf8 c.args.line.now ≡ whole → NoMessage ≡ message_in c.args.line.now
    by false e = rw (message_in, begins, e) refl
    by true e =
        let unread : read c.args.line.now ≡ None =
        c.in-Err.ensures.err (λ memory. c.in_default.not-Memory (c.classify.ensures.memory.1 memory)) (IsUtf8-from_is_utf8 c.args.line.now e) in
        rw (message_in, begins, e, unread) refl
