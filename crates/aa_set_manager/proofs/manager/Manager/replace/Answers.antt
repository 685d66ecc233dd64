use Rattle.std.proofs.Common.{◌≡◌, Ok, IfErr, OnOk, ap, subst}
use Rattle.aa_set_commands.specs.Refusal.{IsRefusalOf}
use Rattle.aa_set_manager.specs.Manager.{Managed}
use Rattle.aa_set_manager.proofs.ManagerLemmas.{replaced-of-file}
use Rattle.aa_set_manager.proofs.manager.Manager.replace.Goals as goal

pub replace_read-requires : goal.replace_read-requires
replace_read-requires c = (c.self.inside.settings.language, c.args.files.now, c.args.name.now, c.in_ok-read.ensures.ok)

pub returns-clause-ok : goal.returns-clause-ok
returns-clause-ok c =
    subst (λ outcome. OnOk c.replace_read.result (outcome ≡ Ok c.replace_read.new.self)) (replaced-of-file c.self.inside.settings.language c.args.files.now c.args.name.now c.args.self.now c.in_ok-read.read.profiles.items
    (ap (λ (managed : Managed). managed.settings.language) c.self.view_is) c.in_ok-read.ensures.ok)
    c.replace_read.ensures.ok

pub returns-clause-refused : goal.returns-clause-refused
returns-clause-refused c =
    subst (λ outcome. IfErr c.replace_read.result (IsRefusalOf outcome)) (replaced-of-file c.self.inside.settings.language c.args.files.now c.args.name.now c.args.self.now c.in_ok-read.read.profiles.items
    (ap (λ (managed : Managed). managed.settings.language) c.self.view_is) c.in_ok-read.ensures.ok)
    c.replace_read.ensures.refused
