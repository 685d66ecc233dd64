use Rattle.std.proofs.Common.{◌≡◌, length, List, Ok, Err, IfErr, OnOk, sym, ap, subst, ◌∙◌}
use Rattle.aa_decide_ready.specs.Named.{have_distinct_names}
use Rattle.aa_decide_ready.specs.Slots.{filled}
use Rattle.aa_profile.specs.FileReading.{file_profiles_in}
use Rattle.aa_profile_data.specs.declared.profile.Profile.{Profile}
use Rattle.aa_set_manager.specs.Changes.{by_file, profile_count, with_removed}
use Rattle.aa_set_commands.specs.Command.{Remove}
use Rattle.aa_set_commands.specs.Refusal.{IsRefusalOf}
use Rattle.aa_set_parts.specs.Parts.{after}
use Rattle.aa_set_manager.specs.Manager.{made, managed_by}
use Rattle.aa_set_manager.proofs.ManagerLemmas.{by-file, entries-seen, file-parts, made-distinct, made-ok, made-refused, now-distinct, of-err, of-ok, seen}
use Rattle.aa_set_manager.proofs.manager.Manager.remove.Goals as goal

pub removing-exchange-requires-clause-apart : goal.removing-exchange-requires-clause-apart
removing-exchange-requires-clause-apart c =
    ap have_distinct_names (entries-seen c.state.result.now c.self.inside.journal.machine.now c.state.ensures) ∙ now-distinct c.self.inside.journal c.self.invariant

pub invariant_of-self : goal.invariant_of-self
invariant_of-self c =
    made-distinct c.self.inside.journal c.make.new.journal c.state.result.now (by_file (with_removed (filled c.self.inside.journal.machine.now)) (file_profiles_in c.self.inside.settings.language c.args.files.now c.args.name.now))
    c.removing-exchange.result c.make.result c.make.ensures c.state.ensures
    (of-ok (λ exchange. with_removed (filled c.state.result.now) c.as_slice.result.now ≡ Ok (filled (after c.state.result.now exchange.parts)))
    (λ exchange. by_file (with_removed (filled c.self.inside.journal.machine.now)) (file_profiles_in c.self.inside.settings.language c.args.files.now c.args.name.now) ≡ Ok (filled (after c.state.result.now exchange.parts))) c.removing-exchange.result c.removing-exchange.ensures.ok
    (λ exchange is. by-file with_removed c.self.inside.settings.language c.args.files.now c.args.name.now (filled c.state.result.now) (filled c.self.inside.journal.machine.now) c.as_slice.result.now
    (Ok (filled (after c.state.result.now exchange.parts))) (c.in_ok-read.ensures.ok ∙ ap (λ (profiles : List Profile). Ok profiles) (sym c.as_slice.ensures.value)) (entries-seen c.state.result.now c.self.inside.journal.machine.now c.state.ensures) is))
    c.self.invariant
    (c.what_changes_keep.ensures c.args.files.now c.self.inside.settings (filled c.self.inside.journal.machine.now) (Remove c.args.name.now) (now-distinct c.self.inside.journal c.self.invariant))

pub returns-clause-ok : goal.returns-clause-ok
returns-clause-ok c =
    subst (λ managed. OnOk c.make.result (made c.args.files.now managed (Remove c.args.name.now) ≡ Ok (managed_by c.self.inside.settings (seen c.make.new.journal)))) c.self.view_is
    (made-ok c.self.inside.settings c.self.inside.journal c.make.new.journal c.state.result.now (profile_count (file_profiles_in c.self.inside.settings.language c.args.files.now c.args.name.now))
    (by_file (with_removed (filled c.self.inside.journal.machine.now)) (file_profiles_in c.self.inside.settings.language c.args.files.now c.args.name.now))
    c.removing-exchange.result c.make.result c.make.ensures c.state.ensures
    (of-ok (λ exchange. with_removed (filled c.state.result.now) c.as_slice.result.now ≡ Ok (filled (after c.state.result.now exchange.parts)))
    (λ exchange. by_file (with_removed (filled c.self.inside.journal.machine.now)) (file_profiles_in c.self.inside.settings.language c.args.files.now c.args.name.now) ≡ Ok (filled (after c.state.result.now exchange.parts))) c.removing-exchange.result c.removing-exchange.ensures.ok
    (λ exchange is. by-file with_removed c.self.inside.settings.language c.args.files.now c.args.name.now (filled c.state.result.now) (filled c.self.inside.journal.machine.now) c.as_slice.result.now
    (Ok (filled (after c.state.result.now exchange.parts))) (c.in_ok-read.ensures.ok ∙ ap (λ (profiles : List Profile). Ok profiles) (sym c.as_slice.ensures.value)) (entries-seen c.state.result.now c.self.inside.journal.machine.now c.state.ensures) is))
    (of-ok (λ exchange. length exchange.parts ≡ length c.as_slice.result.now) (λ exchange. length exchange.parts ≡ profile_count (file_profiles_in c.self.inside.settings.language c.args.files.now c.args.name.now)) c.removing-exchange.result
    c.removing-exchange.ensures.parts (λ exchange is. file-parts c.self.inside.settings.language c.args.files.now c.args.name.now c.as_slice.result.now (length exchange.parts) (c.in_ok-read.ensures.ok ∙ ap (λ (profiles : List Profile). Ok profiles) (sym c.as_slice.ensures.value)) is)))

pub returns-clause-refused : goal.returns-clause-refused
returns-clause-refused c =
    subst (λ managed. IfErr c.make.result (IsRefusalOf (made c.args.files.now managed (Remove c.args.name.now)))) c.self.view_is
    (made-refused (managed_by c.self.inside.settings (seen c.self.inside.journal)) c.self.inside.journal c.make.new.journal (profile_count (file_profiles_in c.self.inside.settings.language c.args.files.now c.args.name.now))
    (by_file (with_removed (filled c.self.inside.journal.machine.now)) (file_profiles_in c.self.inside.settings.language c.args.files.now c.args.name.now)) c.removing-exchange.result c.make.result c.make.ensures
    (of-err (IsRefusalOf (with_removed (filled c.state.result.now) c.as_slice.result.now)) (IsRefusalOf (by_file (with_removed (filled c.self.inside.journal.machine.now)) (file_profiles_in c.self.inside.settings.language c.args.files.now c.args.name.now)))
    c.removing-exchange.result c.removing-exchange.ensures.refused
    (λ refusal is other. by-file with_removed c.self.inside.settings.language c.args.files.now c.args.name.now (filled c.state.result.now) (filled c.self.inside.journal.machine.now) c.as_slice.result.now (Err refusal)
    (c.in_ok-read.ensures.ok ∙ ap (λ (profiles : List Profile). Ok profiles) (sym c.as_slice.ensures.value)) (entries-seen c.state.result.now c.self.inside.journal.machine.now c.state.ensures) (is other))))
