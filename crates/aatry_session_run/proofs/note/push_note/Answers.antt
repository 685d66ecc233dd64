use Rattle.std.proofs.Common.{◌≡◌, ◌++◌, ℕ, List, Option, Some, OnOk, ap, subst, sym}
use Rattle.std.specs.Prelude.{option_map}
use Rattle.aa_text_files.specs.Files.{bytes_of}
use Rattle.aatry_session_run.specs.Notes.{IsNoted, IsNotedIf}
use Rattle.aatry_session_run.proofs.note.push_note.Goals as goal

-- the file of the name was asked for
pub returns-in-Some-bytes : goal.returns-in-Some-bytes
returns-in-Some-bytes g c =
    let known = g.D.FileSystem.known c.args.setting.now.disk.now in
    let base = c.args.setting.now.base.now in
    let files = c.args.files.now in
    let name = c.in-Some.name.now in
    let old = c.args.out.now.items in
    let new = c.push_if_newer.new.out.items in
    let by_name = subst (λ bytes. OnOk c.push_if_newer.result ((text : List ℕ) × (new ≡ old ++ text) × IsNotedIf known base name bytes text))
    c.in-Some-bytes.ensures c.push_if_newer.ensures in
    subst (λ loaded. OnOk c.push_if_newer.result ((text : List ℕ) × (new ≡ old ++ text) × IsNoted known base files loaded text)) c.in-Some.ensures by_name
