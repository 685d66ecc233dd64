use Rattle.std.proofs.Common.{◌≡◌, ◌++◌, ◌∷◌, [], ◌∙◌, List, ℕ, ap, length, subst, sym, true, arith}
use Rattle.std.proofs.lemmas.Result.{on_ok_weaker}
use Rattle.std.specs.Borrow.{Bor}
use Rattle.aa_bytes.specs.NameMaps.{GivesNumber}
use Rattle.aa_profile_conflicts.proofs.ClassLemmas.{classes-known, classes-pushed, keyed-pushed}
use Rattle.aa_profile_conflicts.specs.Classes.{AreClassesBy, AreKeyed, IsNew, is_class_of, key_of, seen_transitions}
use Rattle.aa_profile_data.specs.declared.profile.Transition.{Transition}
use Rattle.aa_profile_conflicts.proofs.classes.Classes.add.Goals as goal

pub returns-in-Some-clause-classes : goal.returns-in-Some-clause-classes
returns-in-Some-clause-classes c =
    let transitions = c.args.self.now.transitions.items in
    let classes = c.args.self.now.classes.items in
    on_ok_weaker c.push_class.result (λ last leads lead is are.
    let known : is_class_of (seen_transitions transitions) c.in-Some.class c.args.transition.now ≡ true =
    subst (λ (ts : List (Bor Transition)). is_class_of (seen_transitions ts) c.in-Some.class c.args.transition.now ≡ true) c.deref.ensures.value c.in-Some.ensures in
    let own : is_class_of (seen_transitions transitions) c.in-Some.class lead.transition ≡ true =
    subst (λ (t : Transition). is_class_of (seen_transitions transitions) c.in-Some.class t ≡ true) (sym is) known in
    subst (λ (cs : List ℕ). AreClassesBy (leads ++ lead ∷ []) (seen_transitions transitions) cs) (sym last)
    (classes-known leads (seen_transitions transitions) classes lead c.in-Some.class are own)) c.push_class.ensures

pub returns-clause-keyed : goal.returns-clause-keyed
returns-clause-keyed c =
    let before = c.args.self.now.by_key in
    let after = c.insert.new.self in
    let gives : GivesNumber before (key_of c.args.transition.now) c.len-class.result after =
    subst (λ (name : List ℕ). GivesNumber before name c.len-class.result after) (c.deref-in-None.ensures.value ∙ c.in_ok-key.ensures) c.in_ok-insert-in-None.ensures.ok in
    on_ok_weaker c.push_class-in-None.result (λ last.
    subst (λ (ts : List (Bor Transition)). AreKeyed (seen_transitions ts) after) (sym c.in_ok-push-in-None.ensures.items)
    (keyed-pushed c.args.self.now.transitions.items c.args.transition before after c.len-class.result c.requires gives)) c.push_class-in-None.ensures

pub returns-clause-classes : goal.returns-clause-classes
returns-clause-classes c =
    let transitions = c.args.self.now.transitions.items in
    let classes = c.args.self.now.classes.items in
    on_ok_weaker c.push_class-in-None.result (λ last leads lead is are.
    let new : IsNew (seen_transitions transitions) c.args.transition.now =
    subst (λ (ts : List (Bor Transition)). IsNew (seen_transitions ts) c.args.transition.now) c.deref.ensures.value c.in-None.ensures in
    let stand = c.args.self.now.transitions.ok.0 in
    let count : c.len-class.result ≡ length transitions = omega (arith, stand) in
    subst (λ (ts : List (Bor Transition)). AreClassesBy (leads ++ lead ∷ []) (seen_transitions ts) c.push_class-in-None.new.classes.items) (sym c.in_ok-push-in-None.ensures.items)
    (subst (λ (cs : List ℕ). AreClassesBy (leads ++ lead ∷ []) (seen_transitions (transitions ++ c.args.transition ∷ [])) cs)
    (sym (last ∙ ap (λ n. classes ++ n ∷ []) count))
    (classes-pushed transitions c.args.transition leads classes lead is are new))) c.push_class-in-None.ensures
