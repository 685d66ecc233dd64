use Rattle.std.proofs.Common.{◌≡◌, Ok, IfErr, OnOk, ap, subst}
use Rattle.aa_set_commands.specs.Refusal.{IsRefusalOf}
use Rattle.aa_set_manager.specs.Manager.{Managed}
use Rattle.aa_set_manager.proofs.ManagerLemmas.{added-of-file}
use Rattle.aa_set_manager.proofs.manager.Manager.add.Goals as goal

pub add_read-requires : goal.add_read-requires
add_read-requires c = (c.self.inside.settings.language, c.args.files.now, c.args.name.now, c.in_ok-read.ensures.ok)

pub returns-clause-ok : goal.returns-clause-ok
returns-clause-ok c =
    subst (λ outcome. OnOk c.add_read.result (outcome ≡ Ok c.add_read.new.self)) (added-of-file c.self.inside.settings.language c.args.files.now c.args.name.now c.args.self.now c.in_ok-read.read.profiles.items
    (ap (λ (managed : Managed). managed.settings.language) c.self.view_is) c.in_ok-read.ensures.ok)
    c.add_read.ensures.ok

pub returns-clause-refused : goal.returns-clause-refused
returns-clause-refused c =
    subst (λ outcome. IfErr c.add_read.result (IsRefusalOf outcome)) (added-of-file c.self.inside.settings.language c.args.files.now c.args.name.now c.args.self.now c.in_ok-read.read.profiles.items
    (ap (λ (managed : Managed). managed.settings.language) c.self.view_is) c.in_ok-read.ensures.ok)
    c.add_read.ensures.refused
