-- The variables of a file that is refused for rules that conflict: they were read.
use Rattle.std.proofs.Common.{◌≡◌, ◌∙◌, List, [], Option, None, Some, Ok, ap, refl, sym}
use Rattle.std.specs.Option.{option_map}
use Rattle.std.specs.Prelude.{find}
use Rattle.aa_explain_written.specs.EarlierRules.{place_of_conflict, refused_at}
use Rattle.aa_text_files.specs.declared.text_error.Place.{Place}
use Rattle.aa_text_files.specs.declared.text_error.TextRefusal.TheVariants.{Cycle, Undefined}
use Rattle.aa_text_tokens.specs.Splicing.{Placed}
use Rattle.aa_text_variables.specs.Expansions.{is_cyclic}
use Rattle.aa_text_variables.specs.Variables.{Variable}
use Rattle.aa_profile.specs.Assignments.{all_assigned, cycle, first_of, first_undefined, naming, undefined_name, variables_of}
use Rattle.aa_profile.specs.FileReading.{profiles_in}
use Rattle.aa_profile_parsing.specs.ProfileError.{placed}
use Rattle.aa_profile_parsing.specs.declared.profile_error.ProfileError.{ProfileError}
use Rattle.aa_profile_parsing.specs.declared.profile_error.ProfileRefusal.TheVariants.{Text}
use Rattle.aa_profile_grammar.specs.Files.{File}
use Rattle.aa_profile_grammar.specs.Preamble.{Assignment}
use Rattle.aa_profile_parsing.specs.Tokens.{place_of}
use Rattle.aa_profile_parsing.specs.declared.language.Language.{Language}
use Rattle.aa_profile_grammar.specs.PatternTokens.{of_profiles}

-- a refusal has the place of no conflict
abbrev IsNone : ProfileError → Type 0
IsNone error = place_of_conflict error.refusal error.place ≡ None

-- refusals that something makes, of which none has
made-none : {X : Type 0} (made : X → ProfileError) → ((x : X) → IsNone (made x)) → (found : Option X) (error : ProfileError) → option_map made found ≡ Some error → IsNone error
made-none made none None error h = absurd (cc)
made-none made none (Some x) error h = let same : made x ≡ error = cc in ap (λ (e : ProfileError). place_of_conflict e.refusal e.place) (sym same) ∙ none x

undefined-none : (variables : List Variable) (assignments : List Assignment) (patterns : List Placed) (error : ProfileError)
    → undefined_name variables assignments patterns ≡ Some error → IsNone error
undefined-none variables assignments patterns error h =
    made-none (λ token. placed (Text Undefined) (place_of token)) (λ token. refl) (first_undefined variables (naming assignments patterns)) error h

cycle-none : (variables : List Variable) (assignments : List Assignment) (error : ProfileError) → cycle variables assignments ≡ Some error → IsNone error
cycle-none variables assignments error h =
    made-none (λ variable. record { refusal = Text Cycle; place = option_map (λ assignment. place_of assignment.sign) (first_of variable.name assignments) })
    (λ variable. refl) (find (is_cyclic variables) variables) error h

-- the variables of a file that is refused for rules that conflict are those that its assignments define
pub variables-made : (language : Language) (written : File) (variables : List Variable) (place : Place) → all_assigned [] written.assignments ≡ Ok variables
    → refused_at (profiles_in language written) ≡ Some place
    → (undefined_name variables written.assignments (of_profiles written.profiles) ≡ None) × (cycle variables written.assignments ≡ None)
variables-made language written variables place e h = named (undefined_name variables written.assignments (of_profiles written.profiles)) refl
  where
    Found : Type 0
    Found = (undefined_name variables written.assignments (of_profiles written.profiles) ≡ None) × (cycle variables written.assignments ≡ None)

    ended : (refusal : Option ProfileError) → undefined_name variables written.assignments (of_profiles written.profiles) ≡ None
        → cycle variables written.assignments ≡ refusal → Found
    ended None n c = (n, c)
    ended (Some refusal) n c =
        let told : place_of_conflict refusal.refusal refusal.place ≡ Some place = rw (profiles_in, variables_of, e, n, c) at h in
        let wrong : None ≡ Some place = sym (cycle-none variables written.assignments refusal c) ∙ told in
        absurd (cc)

    named : (refusal : Option ProfileError) → undefined_name variables written.assignments (of_profiles written.profiles) ≡ refusal → Found
    named None n = ended (cycle variables written.assignments) n refl
    named (Some refusal) n =
        let told : place_of_conflict refusal.refusal refusal.place ≡ Some place = rw (profiles_in, variables_of, e, n) at h in
        let wrong : None ≡ Some place = sym (undefined-none variables written.assignments (of_profiles written.profiles) refusal n) ∙ told in
        absurd (cc)
