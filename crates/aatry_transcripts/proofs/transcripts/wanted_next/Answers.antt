use Rattle.std.proofs.Common.{◌≡◌, ◌∙◌, ap, subst, sym, take}
use Rattle.std.proofs.lemmas.List.{take-map}
use Rattle.std.specs.Prelude.{IfOk}
use Rattle.aatry_transcripts.specs.Transcripts.{before_command, texts, wanted_in}
use Rattle.aatry_transcripts.proofs.transcripts.wanted_next.Goals as goal

-- the lines before the next command are as many as were counted
pub returns : goal.returns
returns c =
    let lines = c.args.lines.now in
    let front : before_command (texts lines) ≡ texts (take c.size_before_command.result lines) =
    ap (λ n. take n (texts lines)) (sym c.size_before_command.ensures.value) ∙ take-map (λ line. line.now) c.size_before_command.result lines in
    subst (λ ls. IfOk c.wanted_in.result (λ wanted. texts wanted.items ≡ wanted_in ls)) (sym front) c.wanted_in.ensures
