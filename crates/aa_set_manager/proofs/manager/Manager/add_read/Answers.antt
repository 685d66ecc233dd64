use Rattle.std.proofs.Common.{◌≡◌, length, true, Ok, Err, IfErr, IfOk, OnOk, subst}
use Rattle.std.specs.List.{list_all}
use Rattle.aa_decide_ready.specs.Slots.{filled}
use Rattle.aa_profile_data.specs.Conflicts.{profile_agrees}
use Rattle.aa_profile_data.specs.Profile.{are_distinct}
use Rattle.aa_set_manager.specs.Changes.{with_added}
use Rattle.aa_set_commands.specs.Command.{Add}
use Rattle.aa_set_commands.specs.Refusal.{IsRefusalOf}
use Rattle.aa_set_parts.specs.Parts.{after}
use Rattle.aa_set_manager.specs.Manager.{added, managed_by}
use Rattle.aa_set_manager.proofs.ManagerLemmas.{by-entries, entries-seen, made-distinct, made-ok, made-refused, now-distinct, of-err, of-file, of-ok, seen}
use Rattle.aa_set_manager.proofs.manager.Manager.add_read.Goals as goal

pub adding-exchange-requires-clause-own : goal.adding-exchange-requires-clause-own
adding-exchange-requires-clause-own c =
    subst (λ read. IfOk read (λ profiles. are_distinct profiles ≡ true)) c.requires.3
    (c.how_profiles_are_named.ensures.no_two_profiles_have_one_name c.requires.0 c.requires.1 c.requires.2)

pub adding-exchange-requires-clause-agree : goal.adding-exchange-requires-clause-agree
adding-exchange-requires-clause-agree c =
    subst (λ read. IfOk read (λ profiles. list_all profile_agrees profiles ≡ true)) c.requires.3 (c.which_rules_agree.ensures c.requires.0 c.requires.1 c.requires.2)

pub invariant_of-self : goal.invariant_of-self
invariant_of-self c =
    made-distinct c.self.inside.journal c.make.new.journal c.state-slots.result.now (with_added c.self.inside.settings.force_complain (filled c.self.inside.journal.machine.now) c.args.profiles.items)
    c.adding-exchange.result c.make.result c.make.ensures c.state-slots.ensures
    (of-ok (λ exchange. with_added c.self.inside.settings.force_complain (filled c.state-slots.result.now) c.args.profiles.items ≡ Ok (filled (after c.state-slots.result.now exchange.parts)))
    (λ exchange. with_added c.self.inside.settings.force_complain (filled c.self.inside.journal.machine.now) c.args.profiles.items ≡ Ok (filled (after c.state-slots.result.now exchange.parts))) c.adding-exchange.result c.adding-exchange.ensures.ok
    (λ exchange is. by-entries (with_added c.self.inside.settings.force_complain) (filled c.state-slots.result.now) (filled c.self.inside.journal.machine.now) c.args.profiles.items
    (Ok (filled (after c.state-slots.result.now exchange.parts))) (entries-seen c.state-slots.result.now c.self.inside.journal.machine.now c.state-slots.ensures) is))
    c.self.invariant
    (of-file (with_added c.self.inside.settings.force_complain (filled c.self.inside.journal.machine.now)) c.requires.0 c.requires.1 c.requires.2 c.args.profiles.items c.requires.3
    (c.what_changes_keep.ensures c.requires.1 (record { language = c.requires.0; force_complain = c.self.inside.settings.force_complain }) (filled c.self.inside.journal.machine.now) (Add c.requires.2) (now-distinct c.self.inside.journal c.self.invariant)))

pub returns-clause-ok : goal.returns-clause-ok
returns-clause-ok c =
    subst (λ managed. OnOk c.make.result (added managed c.args.profiles.items ≡ Ok (managed_by c.self.inside.settings (seen c.make.new.journal)))) c.self.view_is
    (made-ok c.self.inside.settings c.self.inside.journal c.make.new.journal c.state-slots.result.now (length c.args.profiles.items) (with_added c.self.inside.settings.force_complain (filled c.self.inside.journal.machine.now) c.args.profiles.items)
    c.adding-exchange.result c.make.result c.make.ensures c.state-slots.ensures
    (of-ok (λ exchange. with_added c.self.inside.settings.force_complain (filled c.state-slots.result.now) c.args.profiles.items ≡ Ok (filled (after c.state-slots.result.now exchange.parts)))
    (λ exchange. with_added c.self.inside.settings.force_complain (filled c.self.inside.journal.machine.now) c.args.profiles.items ≡ Ok (filled (after c.state-slots.result.now exchange.parts))) c.adding-exchange.result c.adding-exchange.ensures.ok
    (λ exchange is. by-entries (with_added c.self.inside.settings.force_complain) (filled c.state-slots.result.now) (filled c.self.inside.journal.machine.now) c.args.profiles.items
    (Ok (filled (after c.state-slots.result.now exchange.parts))) (entries-seen c.state-slots.result.now c.self.inside.journal.machine.now c.state-slots.ensures) is))
    c.adding-exchange.ensures.parts)

pub returns-clause-refused : goal.returns-clause-refused
returns-clause-refused c =
    subst (λ managed. IfErr c.make.result (IsRefusalOf (added managed c.args.profiles.items))) c.self.view_is
    (made-refused (managed_by c.self.inside.settings (seen c.self.inside.journal)) c.self.inside.journal c.make.new.journal (length c.args.profiles.items) (with_added c.self.inside.settings.force_complain (filled c.self.inside.journal.machine.now) c.args.profiles.items)
    c.adding-exchange.result c.make.result c.make.ensures
    (of-err (IsRefusalOf (with_added c.self.inside.settings.force_complain (filled c.state-slots.result.now) c.args.profiles.items)) (IsRefusalOf (with_added c.self.inside.settings.force_complain (filled c.self.inside.journal.machine.now) c.args.profiles.items))
    c.adding-exchange.result c.adding-exchange.ensures.refused
    (λ refusal is other. by-entries (with_added c.self.inside.settings.force_complain) (filled c.state-slots.result.now) (filled c.self.inside.journal.machine.now) c.args.profiles.items (Err refusal)
    (entries-seen c.state-slots.result.now c.self.inside.journal.machine.now c.state-slots.ensures) (is other))))
