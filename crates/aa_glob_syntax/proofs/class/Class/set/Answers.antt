use Rattle.std.proofs.Common.{◌∙◌, ap, sym, []}
use Rattle.aa_bytes.specs.declared.byte_set.ByteSet.TheVariants.{Class}
use Rattle.aa_glob_syntax.specs.Classes.{class, members}
use Rattle.aa_glob_syntax.specs.Symbols.{symbols}
use Rattle.aa_glob_syntax.proofs.ElementLemmas.{set_of-read}
use Rattle.aa_glob_syntax.proofs.class.Class.set.Goals as goal

pub returns : goal.returns
returns c =
    let start = c.class_start-negated.result in
    let read = set_of-read start.0 (members [] (symbols start.1.now)) (class (symbols c.args.self.text.now)) c.class_start-negated.ensures.class c.args.self.reads in
    ap (Class start.0) (c.from_vec.ensures ∙ c.in_ok-listed_ranges.ensures read.0 read.1) ∙ sym read.2
