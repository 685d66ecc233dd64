use Rattle.std.proofs.Common.{◌≡◌, true, [], Ok, IfErr, OnOk, sym, ap, subst, ◌∙◌}
use Rattle.aa_decide_ready.specs.Slots.{filled}
use Rattle.aa_profile_data.specs.declared.profile.Mode.TheVariants.{Enforce as EnforceMode}
use Rattle.aa_set_manager.specs.Changes.{is_loaded, with_mode}
use Rattle.aa_set_commands.specs.Command.{Enforce}
use Rattle.aa_set_commands.specs.Refusal.{IsRefusalOf, plain}
use Rattle.aa_set_commands.specs.declared.refusal.RefusalKind.TheVariants.{Memory}
use Rattle.aa_set_parts.specs.Parts.{after}
use Rattle.aa_set_manager.specs.Manager.{in_mode, managed_by}
use Rattle.aa_set_manager.proofs.ManagerLemmas.{mode-loaded, entries-seen, made-distinct, made-memory, made-ok, made-refused, now-distinct, of-err, of-ok, seen}
use Rattle.aa_set_manager.proofs.manager.Manager.enforce.Goals as goal

pub invariant_of-self : goal.invariant_of-self
invariant_of-self c =
    made-distinct c.self.inside.journal c.make.new.journal c.state.result.now (with_mode EnforceMode (filled c.self.inside.journal.machine.now) c.args.name.now) c.switching-exchange.result c.make.result c.make.ensures c.state.ensures
    (of-ok (λ exchange. with_mode EnforceMode (filled c.state.result.now) c.args.name.now ≡ Ok (filled (after c.state.result.now exchange.parts)))
    (λ exchange. with_mode EnforceMode (filled c.self.inside.journal.machine.now) c.args.name.now ≡ Ok (filled (after c.state.result.now exchange.parts))) c.switching-exchange.result c.switching-exchange.ensures.ok
    (λ exchange is. ap (λ entries. with_mode EnforceMode entries c.args.name.now) (sym (entries-seen c.state.result.now c.self.inside.journal.machine.now c.state.ensures)) ∙ is))
    c.self.invariant
    (c.what_changes_keep.ensures [] c.self.inside.settings (filled c.self.inside.journal.machine.now) (Enforce c.args.name.now) (now-distinct c.self.inside.journal c.self.invariant))

pub returns-clause-ok : goal.returns-clause-ok
returns-clause-ok c =
    subst (λ managed. OnOk c.make.result (in_mode EnforceMode managed c.args.name.now ≡ Ok (managed_by c.self.inside.settings (seen c.make.new.journal)))) c.self.view_is
    (made-ok c.self.inside.settings c.self.inside.journal c.make.new.journal c.state.result.now 1 (with_mode EnforceMode (filled c.self.inside.journal.machine.now) c.args.name.now) c.switching-exchange.result c.make.result c.make.ensures c.state.ensures
    (of-ok (λ exchange. with_mode EnforceMode (filled c.state.result.now) c.args.name.now ≡ Ok (filled (after c.state.result.now exchange.parts)))
    (λ exchange. with_mode EnforceMode (filled c.self.inside.journal.machine.now) c.args.name.now ≡ Ok (filled (after c.state.result.now exchange.parts))) c.switching-exchange.result c.switching-exchange.ensures.ok
    (λ exchange is. ap (λ entries. with_mode EnforceMode entries c.args.name.now) (sym (entries-seen c.state.result.now c.self.inside.journal.machine.now c.state.ensures)) ∙ is))
    c.switching-exchange.ensures.parts)

pub returns-clause-refused : goal.returns-clause-refused
returns-clause-refused c =
    subst (λ managed. IfErr c.make.result (IsRefusalOf (in_mode EnforceMode managed c.args.name.now))) c.self.view_is
    (made-refused (managed_by c.self.inside.settings (seen c.self.inside.journal)) c.self.inside.journal c.make.new.journal 1 (with_mode EnforceMode (filled c.self.inside.journal.machine.now) c.args.name.now) c.switching-exchange.result c.make.result c.make.ensures
    (of-err (IsRefusalOf (with_mode EnforceMode (filled c.state.result.now) c.args.name.now)) (IsRefusalOf (with_mode EnforceMode (filled c.self.inside.journal.machine.now) c.args.name.now))
    c.switching-exchange.result c.switching-exchange.ensures.refused (λ refusal is other. ap (λ entries. with_mode EnforceMode entries c.args.name.now) (sym (entries-seen c.state.result.now c.self.inside.journal.machine.now c.state.ensures)) ∙ is other)))

pub returns-clause-memory : goal.returns-clause-memory
returns-clause-memory c =
    subst (λ managed. IfErr c.make.result (λ refusal. refusal ≡ plain Memory → is_loaded c.args.name.now managed.machine.now ≡ true)) c.self.view_is
    (made-memory (is_loaded c.args.name.now (filled c.self.inside.journal.machine.now) ≡ true) c.self.inside.journal c.make.new.journal c.switching-exchange.result c.make.result c.make.ensures
    (of-err (λ refusal. refusal ≡ plain Memory → is_loaded c.args.name.now (filled c.state.result.now) ≡ true) (λ refusal. refusal ≡ plain Memory → is_loaded c.args.name.now (filled c.self.inside.journal.machine.now) ≡ true)
    c.switching-exchange.result c.switching-exchange.ensures.memory (λ refusal is memory. ap (is_loaded c.args.name.now) (sym (entries-seen c.state.result.now c.self.inside.journal.machine.now c.state.ensures)) ∙ is memory))
    (of-ok (λ exchange. with_mode EnforceMode (filled c.state.result.now) c.args.name.now ≡ Ok (filled (after c.state.result.now exchange.parts))) (λ exchange. is_loaded c.args.name.now (filled c.self.inside.journal.machine.now) ≡ true)
    c.switching-exchange.result c.switching-exchange.ensures.ok
    (λ exchange is. ap (is_loaded c.args.name.now) (sym (entries-seen c.state.result.now c.self.inside.journal.machine.now c.state.ensures)) ∙ mode-loaded EnforceMode (filled c.state.result.now) (filled (after c.state.result.now exchange.parts)) c.args.name.now is)))
