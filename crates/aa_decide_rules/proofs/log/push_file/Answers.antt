use Rattle.std.proofs.Common.{◌++◌, codes, ap, ◌∙◌}
use Rattle.std.proofs.lemmas.Result.{on_ok_weaker}
use Rattle.aa_profile_data.specs.Access.{letters_of}
use Rattle.aa_bytes.specs.Quoting.{quoted, written_text}
use Rattle.aa_decide_rules.proofs.LineLemmas.{three-behind}
use Rattle.aa_decide_rules.specs.LogLines.{mask_key}
use Rattle.aa_decide_rules.proofs.log.push_file.Goals as goal

pub returns : goal.returns
returns c =
    on_ok_weaker c.push_mask-2.result (λ last.
    three-behind c.args.line.now.items c.push_written.new.line.items c.push_mask.new.line.items c.push_mask-2.new.line.items
    (codes " name=") (written_text c.args.path.now)
    (codes " requested_mask=") (quoted (letters_of c.args.needs.0))
    (mask_key c.args.tag) (quoted (letters_of c.args.mask.0))
    c.in_ok-push_written.ensures c.in_ok-push_mask.ensures
    (last ∙ ap (λ key. c.push_mask.new.line.items ++ key ++ quoted (letters_of c.args.mask.0)) c.mask_key.ensures))
    c.push_mask-2.ensures
