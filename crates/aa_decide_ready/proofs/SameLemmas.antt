-- Indexes go by the profiles in slots, and not by their states.
use Rattle.std.proofs.Common.{◌≡◌, ℕ, suc, ◌+◌, cond, List, [], ◌∷◌, ◌++◌, length, map, Option, None, Some, refl, sym, ap, subst, ◌∙◌}
use Rattle.std.specs.Prelude.{replicate}
use Rattle.std.specs.Option.{option_map}
use Rattle.std.specs.Str.{bytes_eq}
use Rattle.aa_decide_ready.specs.Indexes.{HoldSame, IsAttachmentIndexOf, IsNameIndexOf, all_attachments, owners_from, profile_in}
use Rattle.aa_decide_ready.specs.SlotAttachments.{attachments_in}
use Rattle.aa_decide_ready.specs.SlotNames.{holds}
use Rattle.aa_decide_ready.specs.declared.attachments.AttachmentIndex.{AttachmentIndex}
use Rattle.aa_decide_ready.specs.declared.names.NameIndex.{NameIndex}
use Rattle.aa_decide_ready.proofs.FindLemmas.{found, found-is}
use Rattle.aa_decide_ready.specs.Entries.{Loaded}
use Rattle.aa_glob.specs.Automata.{IsAutomatonOf}
use Rattle.aa_profile_data.specs.declared.profile.Profile.{Profile}

same-holds : (name : List ℕ) (one other : Option Loaded) → profile_in one ≡ profile_in other → holds name one ≡ holds name other
same-holds name None None same = refl
same-holds name None (Some other) same = absurd (cc)
same-holds name (Some one) None same = absurd (cc)
same-holds name (Some one) (Some other) same = let profile : one.profile ≡ other.profile = cc in ap (λ (p : Profile). bytes_eq p.name name) profile

same-attachments : (one other : Option Loaded) → profile_in one ≡ profile_in other → attachments_in one ≡ attachments_in other
same-attachments None None same = refl
same-attachments None (Some other) same = absurd (cc)
same-attachments (Some one) None same = absurd (cc)
same-attachments (Some one) (Some other) same = let profile : one.profile ≡ other.profile = cc in ap (λ (p : Profile). p.attachments) profile

same-found : (name : List ℕ) (slots others : List (Option Loaded)) → HoldSame slots others → found name slots ≡ found name others
same-found name [] [] same = refl
same-found name [] (other ∷ others) same = absurd (cc)
same-found name (slot ∷ slots) [] same = absurd (cc)
same-found name (slot ∷ slots) (other ∷ others) same =
    let first : profile_in slot ≡ profile_in other = cc in
    let rest : map profile_in slots ≡ map profile_in others = cc in
    (λ i. cond (same-holds name slot other first i) (Some 0) (option_map (λ k. suc k) (same-found name slots others rest i)))

same-all : (slots others : List (Option Loaded)) → HoldSame slots others → all_attachments slots ≡ all_attachments others
same-all [] [] same = refl
same-all [] (other ∷ others) same = absurd (cc)
same-all (slot ∷ slots) [] same = absurd (cc)
same-all (slot ∷ slots) (other ∷ others) same =
    let first : profile_in slot ≡ profile_in other = cc in
    let rest : map profile_in slots ≡ map profile_in others = cc in
    (λ i. same-attachments slot other first i ++ same-all slots others rest i)

same-owners : (number : ℕ) (slots others : List (Option Loaded)) → HoldSame slots others → owners_from number slots ≡ owners_from number others
same-owners number [] [] same = refl
same-owners number [] (other ∷ others) same = absurd (cc)
same-owners number (slot ∷ slots) [] same = absurd (cc)
same-owners number (slot ∷ slots) (other ∷ others) same =
    let first : profile_in slot ≡ profile_in other = cc in
    let rest : map profile_in slots ≡ map profile_in others = cc in
    (λ i. replicate (length (same-attachments slot other first i)) number ++ same-owners (number + 1) slots others rest i)

-- an index of slots is one of others that hold the same profiles
pub same-names : (index : NameIndex) (slots others : List (Option Loaded)) → HoldSame others slots → IsNameIndexOf index slots → IsNameIndexOf index others
same-names index slots others same is = λ name. is name ∙ found-is name slots ∙ sym (same-found name others slots same) ∙ sym (found-is name others)

pub same-index : (index : AttachmentIndex) (slots others : List (Option Loaded)) → HoldSame others slots → IsAttachmentIndexOf index slots → IsAttachmentIndexOf index others
same-index index slots others same is = record {
  automaton = subst (IsAutomatonOf index.automaton) (sym (same-all others slots same)) is.automaton;
  owners = is.owners ∙ sym (same-owners 0 others slots same);
}
