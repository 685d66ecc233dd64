use Rattle.std.proofs.Common.{drop, map, refl, string_bytes}
use Rattle.aatry_arguments.specs.Forms.{asked_call}
use Rattle.aatry.proofs.ProgramLemmas.{done_by_command, done_by_fault}
use Rattle.aatry.specs.Program.{input_of, output_of, store_of}
use Rattle.aatry.proofs.program.do_asked.Goals as goal

pub returns-in-Ok : goal.returns-in-Ok
returns-in-Ok g c =
    let output = output_of (g.W.Sink.written c.args.streams.now.output) (g.W.Sink.written c.perform.new.streams.output) (g.W.Sink.failed c.perform.new.streams.output) in
    let store = store_of (g.T.FileStore.replaced c.args.disk.now.store) (g.T.FileStore.replaced c.perform.new.disk.store) in
    done_by_command (g.F.Folders.told c.args.disk.now.folders) (g.D.FileSystem.known c.args.disk.now.files) store (input_of (g.S.Source.left c.args.streams.now.input) c.args.prompt.now) (asked_call (drop 1 (map string_bytes c.args.words.now)))
    c.in-Ok.call output c.perform.result c.in-Ok.ensures c.perform.ensures

pub returns-in-Err : goal.returns-in-Err
returns-in-Err g c =
    let output = output_of (g.W.Sink.written c.args.streams.now.output) (g.W.Sink.written c.show_fault.new.streams.output) (g.W.Sink.failed c.show_fault.new.streams.output) in
    let store = store_of (g.T.FileStore.replaced c.args.disk.now.store) (g.T.FileStore.replaced c.args.disk.now.store) in
    done_by_fault (g.F.Folders.told c.args.disk.now.folders) (g.D.FileSystem.known c.args.disk.now.files) store (input_of (g.S.Source.left c.args.streams.now.input) c.args.prompt.now) (asked_call (drop 1 (map string_bytes c.args.words.now)))
    c.in-Err.fault output c.show_fault.result refl c.in-Err.ensures c.show_fault.ensures
