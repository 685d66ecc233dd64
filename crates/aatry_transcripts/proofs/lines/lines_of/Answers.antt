use Rattle.std.proofs.Common.{◌≡◌, ◌++◌, ◌∷◌, [], ◌∙◌, ap, append_assoc, sym}
use Rattle.aa_set_commands.specs.Lines.{lines}
use Rattle.aatry_transcripts.specs.Transcripts.{texts}
use Rattle.std.proofs.lemmas.List.{map-append}
use Rattle.aatry_transcripts.proofs.LineLemmas.{lines-front, lines-last}
use Rattle.aatry_transcripts.proofs.lines.lines_of.Goals as goal

pub loop-line-preserved : goal.loop-line-preserved
loop-line-preserved c =
    let line = c.in-Some.line.now in
    let after = c.in-Some.after.now in
    let front : lines c.loop-line.rest.now ≡ line ∷ lines after = ap lines c.in-Some.ensures.whole ∙ lines-front line after c.in-Some.ensures.line in
    let pushed : texts c.push.new.self.items ≡ texts c.loop-line.found.items ++ line ∷ [] =
    ap texts c.in_ok-push.ensures.items ∙ map-append _ c.loop-line.found.items _ in
    rw pushed (append_assoc (texts c.loop-line.found.items) (line ∷ []) (lines after) ∙ ap (λ t. texts c.loop-line.found.items ++ t) (sym front) ∙ c.loop-line.invariant)

pub returns : goal.returns
returns c =
    c.in_ok-push_last.ensures
    ∙ ap (λ t. texts c.loop-line.found.items ++ t) (sym (lines-last c.loop-line.rest.now c.in_default.ensures.none))
    ∙ c.loop-line.invariant
