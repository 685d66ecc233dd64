-- Rules of the code as the definitions see them.
use Rattle.aa_explain_redundant.specs.Left.{Numbered, WrittenRules}
use Rattle.aa_explain_redundant.specs.declared.written.NumberedRule.{NumberedRule}
use Rattle.aa_explain_redundant.specs.declared.written.WrittenRules.{WrittenRules as CodeWrittenRules}

abbrev pub seen_written : CodeWrittenRules → WrittenRules
seen_written rules = record { audit = rules.audit; rules = rules.rules.now; written = rules.written.now }

abbrev pub seen_numbered : NumberedRule → Numbered
seen_numbered one = record { rule = one.rule.now; written = one.written }
