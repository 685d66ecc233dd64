use Rattle.std.proofs.Common.{◌≡◌, ◌++◌, sym, ap, append-nil, flat_map, ◌∙◌}
use Rattle.std.proofs.lemmas.Result.{on_ok_weaker}
use Rattle.aa_set_commands.specs.Lines.{lines}
use Rattle.aatry_log.specs.Prefixed.{prefixed}
use Rattle.aatry_log_lines.proofs.LineLemmas.{lines-last}
use Rattle.aatry_log.proofs.prefixing.push_last.Goals as goal

pub returns : goal.returns
returns c =
    let rest = c.args.rest.now in
    let out = c.args.out.now.items in
    let one : prefixed c.args.prefix.now rest ≡ flat_map (prefixed c.args.prefix.now) (lines rest) =
    sym (append-nil (prefixed c.args.prefix.now rest)) ∙ ap (flat_map (prefixed c.args.prefix.now)) (sym (lines-last rest c.requires (sym c.is_empty.ensures ∙ c.if-is_empty.false))) in
    on_ok_weaker c.push_line.result (λ h. h ∙ ap (λ more. out ++ more) one) c.push_line.ensures
