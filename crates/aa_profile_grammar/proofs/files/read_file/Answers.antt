use Rattle.std.proofs.Common.{map}
use Rattle.aa_profile_parsing.specs.SeenTokens.{seen_tokens}
use Rattle.aa_profile_grammar.specs.SeenFiles.{seen_assignment, seen_profile}
use Rattle.aa_profile_grammar.proofs.FileLemmas.{file-read, file-refused}
use Rattle.aa_profile_grammar.proofs.files.read_file.Goals as goal

pub returns-in-Ok-clause-ok : goal.returns-in-Ok-clause-ok
returns-in-Ok-clause-ok c =
    file-read c.args.language (seen_tokens c.args.tokens.now) (seen_tokens c.in_ok-assignments.behind.now) (map seen_assignment c.in_ok-assignments.assignments.items) (map seen_profile c.in-Ok.profiles.items) c.in_ok-assignments.ensures.ok
    c.in-Ok.ensures.ok

pub returns-clause-refused : goal.returns-clause-refused
returns-clause-refused c = λ other.
    file-refused c.args.language (seen_tokens c.args.tokens.now) (seen_tokens c.in_ok-assignments.behind.now) (map seen_assignment c.in_ok-assignments.assignments.items) c.in-Err.error c.in_ok-assignments.ensures.ok
    (c.in-Err.ensures.refused other)
