use Rattle.std.proofs.Common.{◌∙◌}
use Rattle.std.proofs.lemmas.Result.{IfOk-weaker}
use Rattle.aa_glob_syntax.proofs.FaultLemmas.{IfErr-so, IfOk-both, is_exact-fine, literal_prefix-fine, reading-faulty, reading-fine}
use Rattle.aa_glob_syntax.proofs.check.check_pattern.Goals as goal

pub returns-in-Ok-clause-reads : goal.returns-in-Ok-clause-reads
returns-in-Ok-clause-reads c = IfOk-weaker c.check_elements.result _ _ (λ facts fine. reading-fine c.args.text.now c.in-Ok.ensures.fine fine) c.check_elements.ensures.whole

pub returns-in-Ok-clause-exact : goal.returns-in-Ok-clause-exact
returns-in-Ok-clause-exact c =
    IfOk-both c.check_elements.result c.check_elements.ensures.whole c.check_elements.ensures.exact (λ facts fine told. told ∙ is_exact-fine c.args.text.now c.in-Ok.ensures.fine fine)

pub returns-in-Ok-clause-prefix : goal.returns-in-Ok-clause-prefix
returns-in-Ok-clause-prefix c =
    IfOk-both c.check_elements.result c.check_elements.ensures.whole c.check_elements.ensures.prefix (λ facts fine told. told ∙ literal_prefix-fine c.args.text.now c.in-Ok.ensures.fine fine)

pub returns-in-Ok-clause-refused : goal.returns-in-Ok-clause-refused
returns-in-Ok-clause-refused c = IfErr-so c.check_elements.result c.check_elements.ensures.refused (λ error told. reading-faulty c.args.text.now error c.in-Ok.ensures.fine told)
