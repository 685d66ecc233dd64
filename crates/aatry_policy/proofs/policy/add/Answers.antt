use Rattle.std.proofs.Common.{◌≡◌, ◌∙◌, length, map, ap}
use Rattle.std.proofs.lemmas.Result.{IfOk-weaker}
use Rattle.aa_profile_data.specs.declared.profile.Profile.{Profile}
use Rattle.aa_set_manager.specs.Changes.{with_added}
use Rattle.aa_set_manager.specs.declared.settings.Settings.{Settings}
use Rattle.aa_set_manager.specs.Manager.{Managed, added}
use Rattle.aatry_policy.proofs.SwitchLemmas.{if-settings}
use Rattle.aatry_policy.specs.Policies.{switched_if}
use Rattle.aatry_policy.proofs.policy.add.Goals as goal

-- whatever is added, the language stays
pub returns-in-Ok-clause-language : goal.returns-in-Ok-clause-language
returns-in-Ok-clause-language c =
    let old = c.args.manager.now in
    let profiles = c.in-Ok.read.profiles.items in
    let names = map (λ (profile : Profile). profile.name) profiles in
    let new = switched_if c.args.file.now.loading names old (added old profiles) in
    let stay : new.settings ≡ old.settings =
    if-settings c.args.file.now.loading names old (length profiles) (with_added old.settings.force_complain old.machine.now profiles) in
    IfOk-weaker c.add_read.result (λ outcome. c.add_read.new.manager ≡ new) (λ outcome. c.add_read.new.manager.settings.language ≡ c.args.language)
    (λ outcome is. ap (λ (managed : Managed). managed.settings.language) is ∙ ap (λ (s : Settings). s.language) stay ∙ c.requires) c.add_read.ensures.set
