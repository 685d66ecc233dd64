-- The order of a folder's members.
use Rattle.std.proofs.Common.{◌≡◌, ℕ, ◌+◌, ◌-◌, ◌<◌, ◌≤◌, Bool, true, false, List, [], ◌∷◌, ◌++◌, length, drop, refl, sym, ap, subst, ◌∙◌, arith}
use Rattle.std.specs.Prelude.{if◌then◌else◌}
use Rattle.std.specs.Cmp.{IsStrictWeakOrder}
use Rattle.std.specs.Cmp.Lexicographic.{slice_cmp}
use Rattle.std.specs.List.{filter}
use Rattle.std.specs.List.Sorted.{IsSortedBy, IsStableBy, ties}
use Rattle.std.specs.Ordering.{is_lt, nat_cmp}
use Rattle.std.specs.declared.cmp.Ordering.{Ordering}
use Rattle.std.proofs.lemmas.Bool.Decides.{nat_tests}
use Rattle.std.proofs.lemmas.Cmp.{nat_list_cmp_total, same_from_slice_cmp}
use Rattle.std.proofs.lemmas.List.{at_drop_all, drop_more}
use Rattle.std.proofs.lemmas.List.Elements.{filter-append}
use Rattle.std.proofs.lemmas.List.Sorted.{ranks_by}
use Rattle.aa_text_files.specs.Files.{File, name_at}
use Rattle.aa_text_files.specs.Folder.{comes_before, in_order, is_before, is_member, members, members_from}
use Rattle.aa_text_files.specs.code.Gathered.{with_member}
use Rattle.aa_text_files.proofs.OrderLemmas.{SameTies, Up, Up-put, Up-sorted, put, put-ties, same-in_order}

-- the order of bytes is that of the comparison
is_before-cmp : (one two : List ℕ) → is_lt (slice_cmp nat_cmp one two) ≡ is_before one two
is_before-cmp one two = same_from_slice_cmp nat_cmp is_lt is_before refl (λ _ _. refl) (λ _ _. refl) (λ x y xs ys o h. grind (arith, nat_tests)) one two (slice_cmp nat_cmp one two) refl

-- so a comparison of two files' names tells which comes before
pub comes_before-cmp : (files : List File) (one two : ℕ) (r : Ordering) → r ≡ slice_cmp nat_cmp (name_at files one) (name_at files two) → is_lt r ≡ comes_before files one two
comes_before-cmp files one two r is = ap is_lt is ∙ is_before-cmp (name_at files one) (name_at files two)

-- and files are ordered by it
pub comes_before-order : (files : List File) → IsStrictWeakOrder (comes_before files)
comes_before-order files = subst IsStrictWeakOrder (λ i one two. is_before-cmp (name_at files one) (name_at files two) i) (ranks_by nat_list_cmp_total (name_at files))

-- a file among others is put where the order has it
in_order-put : (files : List File) (file : ℕ) (others : List ℕ) → in_order files file others ≡ put (comes_before files) file others
in_order-put files file [] = refl
in_order-put files file (other ∷ others) = ap (λ rest. if comes_before files file other then file ∷ other ∷ others else other ∷ rest) (in_order-put files file others)

-- the members stand in order
Up-members_from : (all : List File) (at : ℕ) (folder : List ℕ) (files : List File) → Up (comes_before all) (members_from all at folder files)
unfolding members_from
Up-members_from all at folder [] = tt
Up-members_from all at folder (file ∷ files) = by (is_member folder file.0) (members_from all (at + 1) folder files) (Up-members_from all (at + 1) folder files)
  where
    by : (b : Bool) (others : List ℕ) → Up (comes_before all) others → Up (comes_before all) (if b then in_order all at others else others)
    by true others up = subst (Up (comes_before all)) (sym (in_order-put all at others)) (Up-put (comes_before all) (comes_before-order all) at others up)
    by false others up = up

-- the members from a place on, by what stands there
pub members_from-more : (files : List File) (at : ℕ) (folder : List ℕ) → at < length files
    → members_from files at folder (drop at files) ≡ (if is_member folder (name_at files at) then in_order files at (members_from files (at + 1) folder (drop (at + 1) files)) else members_from files (at + 1) folder (drop (at + 1) files))
unfolding members_from
members_from-more files at folder within = ap (members_from files at folder) (drop_more files at ([], []) within)

-- the members that were found from a place on, the last file first: those of one name stand as they will in order
abbrev pub AreGathered : List File → ℕ → List ℕ → List ℕ → Type 0
AreGathered files at folder found = SameTies (comes_before files) found (members_from files at folder (drop at files))

pub AreGathered-none : (files : List File) (folder : List ℕ) → AreGathered files (length files) folder []
unfolding members_from
AreGathered-none files folder x = ap (filter (ties (comes_before files) x)) (sym (at_drop_all (members_from files (length files) folder) files (length files) (omega arith)))

-- the members from the place before
pub AreGathered-before : (files : List File) (at : ℕ) (folder found new : List ℕ) → 0 < at → at ≤ length files → AreGathered files at folder found
    → new ≡ with_member files folder (at - 1) found → AreGathered files (at - 1) folder new
AreGathered-before files at folder found new some few gathered is x =
    ap ties_of is ∙ by (is_member folder (name_at files (at - 1))) ∙ ap ties_of (sym (members_from-more files (at - 1) folder (omega arith) ∙ rw same refl))
  where
    same : at - 1 + 1 ≡ at
    same = omega arith

    ties_of : List ℕ → List ℕ
    ties_of = filter (ties (comes_before files) x)

    later : List ℕ
    later = members_from files at folder (drop at files)

    by : (b : Bool) → ties_of (if b then found ++ (at - 1) ∷ [] else found) ≡ ties_of (if b then in_order files (at - 1) later else later)
    by false = gathered x
    by true =
        filter-append (ties (comes_before files) x) found ((at - 1) ∷ [])
        ∙ ap (λ found. found ++ ties_of ((at - 1) ∷ [])) (gathered x)
        ∙ sym (filter-append (ties (comes_before files) x) later ((at - 1) ∷ []))
        ∙ sym (put-ties (comes_before files) (comes_before-order files) (at - 1) later (Up-members_from files at folder (drop at files)) x)
        ∙ ap ties_of (sym (in_order-put files (at - 1) later))

-- a stable sort makes of them the members in order
pub AreGathered-sorted : (files : List File) (folder found sorted : List ℕ) → AreGathered files 0 folder found
    → IsSortedBy (comes_before files) sorted → IsStableBy (comes_before files) found sorted → sorted ≡ members files folder
AreGathered-sorted files folder found sorted gathered in_place stable =
    let order = comes_before-order files in
    same-in_order (comes_before files) order sorted (members files folder) (Up-sorted (comes_before files) order sorted in_place) (Up-members_from files 0 folder files) (λ x. stable x ∙ gathered x)
