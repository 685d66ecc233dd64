use Rattle.aa_glob_syntax.specs.Symbols.{symbols}
use Rattle.aa_glob_syntax.proofs.ElementLemmas.{elements-passed}
use Rattle.aa_glob_syntax.proofs.element.next_element.Goals as goal

pub returns-in-AfterStar-clause-ok : goal.returns-in-AfterStar-clause-ok
returns-in-AfterStar-clause-ok c =
    rw (elements-passed c.args.context (symbols c.args.text.now) (symbols c.behind_stars.result.now) c.in-AfterStar.is c.behind_stars.ensures.symbols) c.next_outside.ensures.ok

pub returns-in-AfterStar-clause-refused : goal.returns-in-AfterStar-clause-refused
returns-in-AfterStar-clause-refused c =
    rw (elements-passed c.args.context (symbols c.args.text.now) (symbols c.behind_stars.result.now) c.in-AfterStar.is c.behind_stars.ensures.symbols) c.next_outside.ensures.refused
