use Rattle.std.proofs.Common.{◌≡◌, ◌∙◌, map, ap, sym}
use Rattle.aatry_log_lines.specs.Lines.{seen_line}
use Rattle.aatry_questions.specs.Names.{unescaped}
use Rattle.aatry_questions.proofs.NameLemmas.{plain-words}
use Rattle.aatry_requests.specs.Sources.{told_meant}
use Rattle.aatry_requests.proofs.sources.told_by_words.Goals as goal

pub returns : goal.returns
returns c =
    let words = map (λ word. word.now) c.args.words.now in
    c.told_meant.ensures
    ∙ ap told_meant (sym (plain-words c.how_names_read_back.ensures.plain words (sym c.have_backslash.ensures ∙ c.if-have_backslash.false)))
