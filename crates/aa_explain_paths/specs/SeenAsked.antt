-- Questions of the code as the definitions see them.
use Rattle.aa_explain_paths.specs.Answers.{Asked}
use Rattle.aa_explain_paths.specs.declared.question.PathQuestion.{PathQuestion}

abbrev pub seen_asked : PathQuestion → Asked
seen_asked question = record { claim = question.claim; letters = question.letters.0; whose = question.whose; patterns = question.patterns.now }
