use Rattle.std.proofs.Common.{false, length, arith}
use Rattle.aa_text_tokens.proofs.CutLaws.{covers-cut}
use Rattle.aa_text_tokens.proofs.CutLineLaws.{cut-lines, values-placed}
use Rattle.aa_text_tokens.proofs.LineLaws.{piece_at-line}
use Rattle.aa_text_tokens.proofs.laws.how_a_text_is_cut.Goals as goal

pub returns-clause-tokens_cover_a_text : goal.returns-clause-tokens_cover_a_text
returns-clause-tokens_cover_a_text c = λ source tokens h. covers-cut (length source) 0 false source tokens (omega arith) h

pub returns-clause-token_depends_on_its_line_alone : goal.returns-clause-token_depends_on_its_line_alone
returns-clause-token_depends_on_its_line_alone c = λ values text rest. piece_at-line rest values text

pub returns-clause-text_is_cut_line_by_line : goal.returns-clause-text_is_cut_line_by_line
returns-clause-text_is_cut_line_by_line c = λ at values text rest. cut-lines rest (length text) at values text (omega arith)

pub returns-clause-values_stand_behind_an_assign : goal.returns-clause-values_stand_behind_an_assign
returns-clause-values_stand_behind_an_assign c = λ at line tokens alone h. values-placed (length line) at false line tokens (omega arith) alone h
