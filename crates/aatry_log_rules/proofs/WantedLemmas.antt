-- What is wanted once more, among entries; and the order of who asks.
use Rattle.std.proofs.Common.{◌≡◌, ℕ, ◌+◌, Bool, true, false, List, [], ◌∷◌, length, map, refl, sym, ap, ◌∙◌, arith}
use Rattle.std.specs.Prelude.{Vec, None, Some, Option, slice_index_or}
use Rattle.std.specs.Cmp.{IsStrictWeakOrder}
use Rattle.std.specs.List.Sorted.{IsSortedBy}
use Rattle.std.specs.declared.alloc.Global.{Global}
use Rattle.std.specs.Str.{bytes_eq}
use Rattle.std.proofs.lemmas.Cmp.{nat_list_cmp_total}
use Rattle.std.proofs.lemmas.List.{get_or-map, length-map}
use Rattle.std.proofs.lemmas.List.Elements.{All-cons, All-head, All-nil, All-tail}
use Rattle.std.proofs.lemmas.List.Sorted.{ranks_by}
use Rattle.std.proofs.lemmas.Simd.{map-map}
use Rattle.std.proofs.lemmas.Slice.Eq.{bytes_eq-Decides}
use Rattle.indexmap.specs.IndexMap.{insert_entry}
use Rattle.aa_explain_rules.specs.Joined.{joined}
use Rattle.aa_profile_data.specs.Request.{ForCapability, ForFile, ForSockets, Request}
use Rattle.aatry_log_rules.specs.SeenWanted.{AreUnderTexts, Entry, IsUnderText, seen_entries, seen_wanted}
use Rattle.aatry_log_rules.specs.Wanted.{Wanted, about, are_of_one, both, comes_before, subject, wanted_with}
use Rattle.aatry_log_rules.specs.code.Entries.{wanted_under, with_known}
use Rattle.aatry_log_rules.specs.declared.wanted.Wanted.{Wanted as CodeWanted}
use Rattle.aatry_requests.specs.Texts.{question_text}

-- what is joined is about the same as the first
about-joined : (who : List ℕ) (one other : Request) → about who (joined one other) ≡ about who one
about-joined who (ForFile needs owned path) (ForFile more other_owned other) = refl
about-joined who (ForFile needs owned path) (ForCapability number) = refl
about-joined who (ForFile needs owned path) (ForSockets domain kind) = refl
about-joined who (ForCapability number) other = refl
about-joined who (ForSockets domain kind) other = refl

pub subject-both : (asked wanted : Wanted) → subject (both asked wanted) ≡ subject asked
subject-both asked wanted = about-joined asked.who asked.request wanted.request

pub subject-known : (asked : Wanted) (known : Option Wanted) → subject (with_known asked known) ≡ subject asked
subject-known asked None = refl
subject-known asked (Some wanted) = subject-both asked wanted

-- texts are compared by their bytes
abbrev pub same_text : Vec ℕ Global → Vec ℕ Global → Bool
same_text text other = bytes_eq text.items other.items

-- the entries with what stands now under a text
abbrev pub put : List Entry → Vec ℕ Global → CodeWanted → List Entry
put entries text wanted = insert_entry same_text entries text wanted

-- each stands under its text still
pub put-under : (entries : List Entry) (text : Vec ℕ Global) (wanted : CodeWanted)
    → AreUnderTexts entries → text.items ≡ question_text (subject (seen_wanted wanted)) → AreUnderTexts (put entries text wanted)
put-under [] text wanted under own = All-cons IsUnderText (text, wanted) [] own (All-nil IsUnderText)
put-under (entry ∷ entries) text wanted under own =
    by (same_text text entry.0) refl (put-under entries text wanted (All-tail IsUnderText entry entries under) own)
  where
    by : (same : Bool) → same_text text entry.0 ≡ same → AreUnderTexts (put entries text wanted) → AreUnderTexts (put (entry ∷ entries) text wanted)
    by true h rest =
        rw h (All-cons IsUnderText (entry.0, wanted) entries
        (sym ((bytes_eq-Decides text.items entry.0.items).0 h) ∙ own) (All-tail IsUnderText entry entries under))
    by false h rest = rw h (All-cons IsUnderText entry (put entries text wanted) (All-head IsUnderText entry entries under) rest)

-- and it is wanted once more
pub put-wants : (entries : List Entry) (text : Vec ℕ Global) (asked : Wanted) (wanted : CodeWanted)
    → AreUnderTexts entries → text.items ≡ question_text (subject asked) → seen_wanted wanted ≡ wanted_under asked text.items entries
    → seen_entries (put entries text wanted) ≡ wanted_with asked (seen_entries entries)
put-wants [] text asked wanted under own is = ap (λ w. w ∷ []) is
put-wants (entry ∷ entries) text asked wanted under own is =
    by (same_text text entry.0) refl is (put-wants entries text asked wanted (All-tail IsUnderText entry entries under) own)
  where
    tells : same_text text entry.0 ≡ are_of_one asked (seen_wanted entry.1)
    tells = ap (λ one. bytes_eq one entry.0.items) own
        ∙ ap (bytes_eq (question_text (subject asked))) (All-head IsUnderText entry entries under)

    by : (same : Bool) → same_text text entry.0 ≡ same → seen_wanted wanted ≡ wanted_under asked text.items (entry ∷ entries)
        → (seen_wanted wanted ≡ wanted_under asked text.items entries → seen_entries (put entries text wanted) ≡ wanted_with asked (seen_entries entries))
        → seen_entries (put (entry ∷ entries) text wanted) ≡ wanted_with asked (seen_entries (entry ∷ entries))
    by true h is rest =
        let now : seen_wanted wanted ≡ both asked (seen_wanted entry.1) = rw h at is in
        rw (h, sym tells ∙ h) (ap (λ w. w ∷ seen_entries entries) now)
    by false h is rest =
        let later : seen_wanted wanted ≡ wanted_under asked text.items entries = rw h at is in
        rw (h, sym tells ∙ h) (ap (λ more. seen_wanted entry.1 ∷ more) (rest later))

-- what entries want, by their values
pub wanted-values : (entries : List Entry) → map seen_wanted (map (λ entry. entry.1) entries) ≡ seen_entries entries
wanted-values entries = map-map seen_wanted (λ entry. entry.1) entries

-- the names of who asks are ordered
abbrev pub code_before : CodeWanted → CodeWanted → Bool
code_before one other = comes_before (seen_wanted one) (seen_wanted other)

pub by-name : IsStrictWeakOrder code_before
by-name = ranks_by nat_list_cmp_total (λ wanted. wanted.who.now)

-- what is sorted by them is seen sorted
pub sorted-seen : (all : List CodeWanted) → IsSortedBy code_before all → IsSortedBy comes_before (map seen_wanted all)
sorted-seen [] sorted = λ place other some within. absurd (omega (arith, within))
sorted-seen (one ∷ more) sorted = λ place other some within.
    let size : length (map seen_wanted (one ∷ more)) ≡ length (one ∷ more) = length-map (one ∷ more) seen_wanted in
    let next = get_or-map seen_wanted (one ∷ more) (place + 1) one other (omega (arith, within, size)) in
    let this = get_or-map seen_wanted (one ∷ more) place one other (omega (arith, within, size)) in
    ap (λ w. comes_before w (slice_index_or (map seen_wanted (one ∷ more)) place other)) next
    ∙ ap (comes_before (seen_wanted (slice_index_or (one ∷ more) (place + 1) one))) this
    ∙ sorted place one some (omega (arith, within, size))
