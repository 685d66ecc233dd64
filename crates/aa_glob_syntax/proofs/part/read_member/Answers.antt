use Rattle.std.proofs.Common.{◌∙◌, sym}
use Rattle.aa_glob_syntax.specs.Symbols.{symbols}
use Rattle.aa_glob_syntax.proofs.ClassLemmas.{Reads-alone, Reads-range}
use Rattle.aa_glob_syntax.proofs.part.read_member.Goals as goal

pub returns-in_default-clause-ok : goal.returns-in_default-clause-ok
returns-in_default-clause-ok c =
    Reads-alone c.args.first (symbols c.args.text.now) c.range.result c.requires.opens c.requires.whole c.in_default.ensures.alone c.range.ensures

pub returns-clause-ok : goal.returns-clause-ok
returns-clause-ok c =
    Reads-range c.args.first c.in-Some.end (symbols c.args.text.now) (symbols c.in-Some.rest.now) c.range-2.result c.requires.opens c.requires.whole c.in-Some.ensures.range (sym c.is_broken.ensures ∙ c.if-is_broken.false) (rw (← c.byte-2.ensures, ← c.byte.ensures) c.if-byte.false) c.range-2.ensures
