use Rattle.std.proofs.Common.{map, refl, string_bytes, subst}
use Rattle.aa_start.specs.Gathering.{texts_of}
use Rattle.aatry_requests.specs.AskedWords.{AskNothing}
use Rattle.aatry.proofs.ProgramLemmas.{command_done, no_memory_told, words_told}
use Rattle.aatry.specs.Program.{output_of}
use Rattle.aatry.specs.Questions.{IsEndOf, IsToldBelow, words_asking}
use Rattle.aatry.proofs.program.tell_question.Goals as goal

pub returns-in-Ok-None : goal.returns-in-Ok-None
returns-in-Ok-None g c =
    let folders = g.F.Folders.told c.args.folders.now in
    let known = g.D.FileSystem.known c.args.disk.now in
    let output = output_of (g.W.Sink.written c.args.streams.now.output) (g.W.Sink.written c.show_outcome.new.streams.output) (g.W.Sink.failed c.show_outcome.new.streams.output) in
    let asked = c.args.asked in
    command_done (IsToldBelow c.args.inquiry c.args.teller.form c.args.teller.verbose c.args.language folders known (string_bytes asked.base) (texts_of asked.words)) (IsEndOf c.args.inquiry folders (string_bytes asked.base) (texts_of asked.words)) output
    c.show_outcome.result c.inquire.result c.inquire.ensures.told c.inquire.ensures.fault c.show_outcome.ensures

pub returns-in-Ok-Some : goal.returns-in-Ok-Some
returns-in-Ok-Some g c =
    let folders = g.F.Folders.told c.args.folders.now in
    let known = g.D.FileSystem.known c.args.disk.now in
    let written = g.W.Sink.written c.args.streams.now.output in
    let output = output_of written written (g.W.Sink.failed c.args.streams.now.output) in
    let asked = c.args.asked in
    let told = (rw c.in-Ok-Some.field-0-is at c.in-Ok-Some.ensures.asked) refl in
    let nothing = subst (λ words. AskNothing (words_asking c.args.inquiry (map string_bytes words))) c.deref.ensures.value told in
    words_told c.args.inquiry c.args.teller.form c.args.teller.verbose c.args.language folders known (string_bytes asked.base) (texts_of asked.words) output c.report_line.result
    nothing refl c.report_line.ensures

pub returns-in-Err : goal.returns-in-Err
returns-in-Err g c =
    let folders = g.F.Folders.told c.args.folders.now in
    let known = g.D.FileSystem.known c.args.disk.now in
    let written = g.W.Sink.written c.args.streams.now.output in
    let output = output_of written written (g.W.Sink.failed c.args.streams.now.output) in
    let asked = c.args.asked in
    no_memory_told c.args.inquiry c.args.teller.form c.args.teller.verbose c.args.language folders known (string_bytes asked.base) (texts_of asked.words) output c.report.result
    refl c.report.ensures
