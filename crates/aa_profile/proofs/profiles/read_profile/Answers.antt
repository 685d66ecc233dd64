use Rattle.std.proofs.Common.{◌≡◌, ◌∙◌, ℕ, List, sym, ap, map, refl, rules, Some}
use Rattle.std.proofs.lemmas.Result.{err_from_is_err_and}
use Rattle.aa_profile_grammar.specs.Blocks.{Profile as WrittenProfile}
use Rattle.aa_profile_grammar.specs.SeenFiles.{seen_head, seen_member, seen_profile}
use Rattle.aa_profile_data.specs.declared.profile.Child.{Child}
use Rattle.aa_profile_data.specs.declared.profile.Mode.{Mode}
use Rattle.aa_profile_data.specs.declared.profile.Rule.{Rule}
use Rattle.aa_profile_parsing.specs.declared.language.Language.{Language}
use Rattle.aa_profile_grammar.specs.PatternTokens.{of_head, of_members}
use Rattle.aa_profile.specs.Profiles.{attachments_of, children_of, mode_of, profile_of, rules_of_members}
use Rattle.aa_profile.proofs.ProfileLemmas.{first_bad_front}
use Rattle.aa_text_variables.specs.Variables.{Variable}
use Rattle.aa_profile.proofs.profiles.read_profile.Goals as goal

-- a profile, from its parts
made : (language : Language) (variables : List Variable) (written : WrittenProfile) (name : List ℕ) (attachments : List (List ℕ)) (mode : Mode) (rules : List Rule) (children : List Child)
    → name ≡ written.head.name → attachments ≡ attachments_of variables written.head → mode ≡ mode_of written.head.flags
    → rules ≡ rules_of_members language variables written.members → children ≡ children_of language variables written.members
    → record { name = name; attachments = attachments; audit = written.head.flags.audit; mode = mode; rules = rules; children = children } ≡ profile_of language variables written
made language variables written name attachments mode rules children n a m r c = rw (n, a, m, r, c) refl

pub returns-in_err-attachments-clause-refused : goal.returns-in_err-attachments-clause-refused
returns-in_err-attachments-clause-refused c =
    let p = err_from_is_err_and c.from_residual.result c.from_residual.ensures.1 in
    let profile = c.args.profile.now in
    rw p.1 (λ other.
    first_bad_front c.args.table.now (of_head (seen_head profile.head)) (of_members (map seen_member profile.members.items)) c.in_err-attachments.field-0.0 (c.in_err-attachments.ensures.refused (λ e. other (p.2 ∙ e)))
    ∙ ap Some (sym p.2))

pub returns-clause-ok : goal.returns-clause-ok
returns-clause-ok c =
    let written = seen_profile c.args.profile.now in
    let same = c.in_ok-attachments.ensures.same in
    made c.args.language c.args.table.now written _ _ _ _ _ c.in_ok-from_slice.ensures (c.from_vec.ensures ∙ c.in_ok-attachments.ensures.ok) (search rules)
    (c.from_vec-2.ensures ∙ (c.in_ok-rules.ensures.rules
    ∙ (ap (λ members. rules_of_members c.args.language c.read_attachments.new.table (map seen_member members)) c.deref.ensures.value ∙ ap (λ variables. rules_of_members c.args.language variables written.members) same)))
    (c.from_vec-3.ensures ∙ (c.in_ok-rules.ensures.children
    ∙ (ap (λ members. children_of c.args.language c.read_attachments.new.table (map seen_member members)) c.deref.ensures.value ∙ ap (λ variables. children_of c.args.language variables written.members) same)))
