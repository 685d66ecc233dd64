-- The candidate that is told as attached.
use Rattle.std.proofs.Common.{◌≡◌, ◌∙◌, ℕ, suc, ◌+◌, ◌==◌, Bool, true, false, List, [], ◌∷◌, Option, None, Some, refl, sym, ap, arith, map}
use Rattle.std.specs.Prelude.{◌↔◌, if◌then◌else◌, option_and_then, slice_get}
use Rattle.std.proofs.lemmas.Bool.{eq-eqb, eqb-true}
use Rattle.aa_decide.specs.Attachment.{attached, attached_child, entry_rank}
use Rattle.aa_decide_rules.specs.Ranks.{best_rank}
use Rattle.aa_decide_rules.specs.StandingOut.{greatest, standing_out}
use Rattle.aa_decide_ready.specs.Entries.{Loaded, is_in_force}
use Rattle.aa_decide_ready.specs.Visits.{child_attachments}
use Rattle.aa_profile_data.specs.declared.profile.Child.{Child}
use Rattle.aa_explain.specs.Standings.{is_the_one, standing_of}
use Rattle.aa_explain.specs.Candidates.{child_candidates, children_from, profile_candidates, rank_of}
use Rattle.aa_explain.specs.declared.standing.Standing.TheVariants.{Attached, Lost, Tied}

-- a place is the one exactly where that is the place
is-one : (place : ℕ) (one : Option ℕ) → is_the_one place one ≡ true → one ≡ Some place
is-one place None is = absurd (cc)
is-one place (Some one) is = ap Some (sym (eqb-true place one is))

one-is : (place : ℕ) (one : Option ℕ) → one ≡ Some place → is_the_one place one ≡ true
one-is place None is = absurd (cc)
one-is place (Some one) is = let same : one ≡ place = cc in eq-eqb place one (sym same)

-- what is told as attached stands out, and what stands out is told so
pub told-attached : (ranks : List ℕ) (place rank : ℕ) → (standing_of ranks place rank ≡ Attached) ↔ (standing_out ranks ≡ Some place)
told-attached ranks place rank = (λ told. by (is_the_one place (standing_out ranks)) refl (rank == greatest ranks) told, λ out. rw (one-is place (standing_out ranks) out) refl)
  where
    by : (one : Bool) → is_the_one place (standing_out ranks) ≡ one → (top : Bool) → (if one then Attached else if top then Tied else Lost) ≡ Attached
        → standing_out ranks ≡ Some place
    by true e top told = is-one place (standing_out ranks) e
    by false e true told = absurd (cc)
    by false e false told = absurd (cc)

-- the ranks of profiles
profile-rank : (path : List ℕ) (entry : Loaded) → rank_of path (record { entry = entry; child = None }) ≡ entry_rank path entry
profile-rank path entry = by (is_in_force entry.state)
  where
    by : (force : Bool) → best_rank path (if force then entry.profile.attachments else []) ≡ (if force then best_rank path entry.profile.attachments else 0)
    by true = refl
    by false = refl

profile-ranks : (path : List ℕ) (entries : List Loaded) → map (rank_of path) (profile_candidates entries) ≡ map (entry_rank path) entries
profile-ranks path [] = refl
profile-ranks path (entry ∷ entries) =
    ap (λ rank. rank ∷ map (rank_of path) (profile_candidates entries)) (profile-rank path entry)
    ∙ ap (λ ranks. entry_rank path entry ∷ ranks) (profile-ranks path entries)

pub attached-profile : (path : List ℕ) (entries : List Loaded)
    → attached path entries ≡ option_and_then (slice_get entries) (standing_out (map (rank_of path) (profile_candidates entries)))
attached-profile path entries = ap (λ ranks. option_and_then (slice_get entries) (standing_out ranks)) (sym (profile-ranks path entries))

-- the ranks of children, which stand behind others
child-ranks : (path : List ℕ) (entry : Loaded) (place : ℕ) (children : List Child)
    → ((i : ℕ) → slice_get entry.profile.children (place + i) ≡ slice_get children i)
    → map (rank_of path) (children_from entry place children) ≡ map (λ child. best_rank path child.attachments) children
child-ranks path entry place [] same = refl
child-ranks path entry place (child ∷ children) same =
    ap (λ rank. rank ∷ map (rank_of path) (children_from entry (place + 1) children)) here
    ∙ ap (λ ranks. best_rank path child.attachments ∷ ranks) (child-ranks path entry (place + 1) children later-same)
  where
    later-same : (i : ℕ) → slice_get entry.profile.children (place + 1 + i) ≡ slice_get children i
    later-same i = let at : place + 1 + i ≡ place + suc i = omega arith in ap (slice_get entry.profile.children) at ∙ same (suc i)

    there : slice_get entry.profile.children place ≡ Some child
    there = let at : place ≡ place + 0 = omega arith in ap (slice_get entry.profile.children) at ∙ same 0

    here : rank_of path (record { entry = entry; child = Some place }) ≡ best_rank path child.attachments
    here = ap (λ found. best_rank path (child_attachments found)) there

pub attached-child : (path : List ℕ) (entry : Loaded) → attached_child path entry.profile.children ≡ standing_out (map (rank_of path) (child_candidates entry))
attached-child path entry =
    ap standing_out (sym (child-ranks path entry 0 entry.profile.children (λ i. let at : 0 + i ≡ i = omega arith in ap (slice_get entry.profile.children) at)))
