use Rattle.std.proofs.Common.{[]}
use Rattle.aa_glob_syntax.specs.Classes.{class, members}
use Rattle.aa_glob_syntax.specs.Symbols.{symbols}
use Rattle.aa_glob_syntax.specs.Cursor.{class_set}
use Rattle.aa_glob_syntax.proofs.ElementLemmas.{has-class, set_of-read}
use Rattle.aa_glob_syntax.proofs.class.Class.has.Goals as goal

pub returns-then-byte-ne0 : goal.returns-then-byte-ne0
returns-then-byte-ne0 c =
    let start = c.class_start-negated.result in
    let read = set_of-read start.0 (members [] (symbols start.1.now)) (class (symbols c.args.self.text.now)) c.class_start-negated.ensures.class c.args.self.reads in
    has-class start.0 c.lists_byte.result c.args.byte read.0 (class_set c.args.self) c.if-byte-ne0.true read.2 (c.lists_byte.ensures read.0 read.1)
