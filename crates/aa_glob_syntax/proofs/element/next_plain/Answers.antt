use Rattle.aa_glob_syntax.proofs.element.next_plain.Goals as goal

pub returns-in-91-clause-ok : goal.returns-in-91-clause-ok
returns-in-91-clause-ok c = rw c.in-91.is c.next_class.ensures.ok

pub returns-in-91-clause-refused : goal.returns-in-91-clause-refused
returns-in-91-clause-refused c = rw c.in-91.is c.next_class.ensures.refused
