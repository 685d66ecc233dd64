-- The found sets, as more of them are found.
use Rattle.std.proofs.Common.{◌≡◌, ◌≢◌, ℕ, ◌+◌, ◌<◌, ◌≤◌, ◌^◌, Bool, List, [], ◌∷◌, ◌++◌, length, get_or, take, refl, sym, ◌∙◌, ap, subst, inl, inr, arith, length-append}
use Rattle.std.proofs.lemmas.Bool.{cases_eq}
use Rattle.std.proofs.lemmas.List.{get_or_append_left, get_or_push, take_more}
use Rattle.std.proofs.lemmas.List.Elements.{All-cons, All-get_or, All-nil, All-push, All-weaker, Contains-push_cases}
use Rattle.std.proofs.lemmas.List.Quantifiers.{all_pairs_push}
use Rattle.std.specs.Prelude.{All, Contains, slice_index_or}
use Rattle.aa_glob_nfa.specs.Graphs.{Graph, Reaches}
use Rattle.aa_glob_nfa.specs.Runs.{IsWhole, LeadsTo}
use Rattle.aa_glob_paths.proofs.AlikeLemmas.{LeadSame, reached-same, same-turned}
use Rattle.aa_glob_paths.specs.Alike.{AreAlikeFrom, StandForAllFrom}
use Rattle.aa_glob_paths.specs.Found.{AreFound, ComesOfEarlier, FoundSet, IsStateSet, no_set, origin_at, set_at}
use Rattle.aa_glob_paths.specs.Reachable.{IsFollowed, IsOver}
use Rattle.aa_glob_paths.specs.code.Closing.{AreMore, ComeOfUpTo, Grows, HasPlaced, IsClosedBefore, IsFollowedBehind, IsFollowedByAll}

-- those that were there keep their numbers, and the last one has the next
pub at-before : (found : List FoundSet) (one : FoundSet) (n : ℕ) → n < length found → slice_index_or (found ++ one ∷ []) n no_set ≡ slice_index_or found n no_set
at-before found one n low = get_or_append_left found (one ∷ []) no_set n low

pub at-last : (found : List FoundSet) (one : FoundSet) → slice_index_or (found ++ one ∷ []) (length found) no_set ≡ one
at-last found one = get_or_push found one no_set (length found) refl

set-before : (found : List FoundSet) (one : FoundSet) (n : ℕ) → n < length found → set_at (found ++ one ∷ []) n ≡ set_at found n
set-before found one n low = ap (λ (f : FoundSet). f.set) (at-before found one n low)

pub grows-same : (found : List FoundSet) → Grows found found
grows-same found = record { longer = omega arith; same = λ n low. refl }

pub grows-more : (found : List FoundSet) (one : FoundSet) → Grows found (found ++ one ∷ [])
grows-more found one = record { longer = omega (arith, length-append found (one ∷ [])); same = at-before found one }

pub grows-then : (old mid new : List FoundSet) → Grows old mid → Grows mid new → Grows old new
grows-then old mid new first second = record {
  longer = omega (arith, first.longer, second.longer);
  same = λ n low. second.same n (omega (arith, first.longer, low)) ∙ first.same n low;
}

-- the last one comes of an earlier one
comes-last : (g : Graph) (found : List FoundSet) (one : FoundSet) → one.origin.from < length found → one.origin.byte < 2 ^ 8
    → LeadsTo g (set_at found one.origin.from) one.origin.byte one.set → ComesOfEarlier g (found ++ one ∷ []) (length found)
comes-last g found one from is_byte leads =
    let here = sym (at-last found one) in
    record {
      earlier = subst (λ (f : FoundSet). f.origin.from < length found) here from;
      is_byte = subst (λ (f : FoundSet). f.origin.byte < 2 ^ 8) here is_byte;
      leads = subst (λ (f : FoundSet). LeadsTo g (set_at (found ++ one ∷ []) f.origin.from) f.origin.byte f.set) here
          (subst (λ set. LeadsTo g set one.origin.byte one.set) (sym (set-before found one one.origin.from from)) leads);
    }

-- one that did so still does
comes-before : (g : Graph) (found : List FoundSet) (one : FoundSet) (n : ℕ) → n < length found → ComesOfEarlier g found n → ComesOfEarlier g (found ++ one ∷ []) n
comes-before g found one n low comes =
    let here = sym (at-before found one n low) in
    let from = (origin_at found n).from in
    let below : from < length found = omega (arith, comes.earlier, low) in
    record {
      earlier = subst (λ (f : FoundSet). f.origin.from < n) here comes.earlier;
      is_byte = subst (λ (f : FoundSet). f.origin.byte < 2 ^ 8) here comes.is_byte;
      leads = subst (λ (f : FoundSet). LeadsTo g (set_at (found ++ one ∷ []) f.origin.from) f.origin.byte f.set) here
          (subst (λ set. LeadsTo g set (origin_at found n).byte (set_at found n)) (sym (set-before found one from below)) comes.leads);
    }

-- one set more, which comes of one that is no earlier than those of which the others come
pub record IsNext (g : Graph) (room : ℕ) (found : List FoundSet) (one : FoundSet) : Type 0 where
  pub states : IsStateSet room one.set
  pub from : one.origin.from < length found
  pub is_byte : one.origin.byte < 2 ^ 8
  pub leads : LeadsTo g (set_at found one.origin.from) one.origin.byte one.set
  pub up_to : ComeOfUpTo found one.origin.from

found-more : (g : Graph) (room : ℕ) (found : List FoundSet) (one : FoundSet) → AreFound g room found → IsNext g room found one → All (λ f. f.set ≢ one.set) found
    → AreFound g room (found ++ one ∷ [])
found-more g room found one are next differ =
    let more : length (found ++ one ∷ []) ≡ length found + 1 = length-append found (one ∷ []) in
    record {
      some = omega (arith, more);
      start = subst (IsWhole g []) (sym (set-before found one 0 are.some)) are.start;
      sets = All-push (λ f. IsStateSet room f.set) found one are.sets next.states;
      in_turn = all_pairs_push (λ (a b : FoundSet). a.origin.from ≤ b.origin.from) found one are.in_turn (λ k d low. next.up_to k d low);
      apart = all_pairs_push (λ (a b : FoundSet). a.set ≢ b.set) found one are.apart (λ k d low. differ k d low);
      each = λ n some within. elim (cases_eq n (length found)) [
        | inl last ↦ subst (ComesOfEarlier g (found ++ one ∷ [])) (sym last) (comes-last g found one next.from next.is_byte next.leads)
        | inr other ↦
            let low : n < length found = omega (arith, within, more, other) in
            comes-before g found one n low (are.each n some low)
      ];
    }

-- the first set
pub found-first : (g : Graph) (room : ℕ) (one : FoundSet) → IsWhole g [] one.set → IsStateSet room one.set → AreFound g room (one ∷ [])
found-first g room one whole states = record {
  some = omega arith;
  start = whole;
  sets = All-cons (λ f. IsStateSet room f.set) one [] states (All-nil (λ (f : FoundSet). IsStateSet room f.set));
  in_turn = λ i j d before within. absurd (omega (arith, before, within));
  apart = λ i j d before within. absurd (omega (arith, before, within));
  each = λ n some within. absurd (omega (arith, some, within));
}

pub placed-first : (new : List FoundSet) (one : FoundSet) → HasPlaced [] new one → new ≡ one ∷ []
placed-first new one placed = elim placed.only [
  | inl same ↦ absurd (let none = ap length same in omega (arith, placed.within, none))
  | inr longer ↦ longer.0
]

pub up_to-first : (one : FoundSet) → one.origin.from ≡ 0 → ComeOfUpTo (one ∷ []) 0
up_to-first one from = All-cons (λ (f : FoundSet). f.origin.from ≤ 0) one [] (omega (arith, from)) (All-nil (λ (f : FoundSet). f.origin.from ≤ 0))

-- a set was placed
pub found-placed : (g : Graph) (room : ℕ) (old new : List FoundSet) (one : FoundSet) → AreFound g room old → HasPlaced old new one → IsNext g room old one
    → AreMore g room one.origin.from old new
found-placed g room old new one are placed next = elim placed.only [
  | inl same ↦ subst (AreMore g room one.origin.from old) (sym same) (record { found = are; up_to = next.up_to; grows = grows-same old })
  | inr longer ↦ subst (AreMore g room one.origin.from old) (sym longer.0) (record {
    found = found-more g room old one are next longer.1;
    up_to = All-push (λ (f : FoundSet). f.origin.from ≤ one.origin.from) old one next.up_to (omega arith);
    grows = grows-more old one;
  })
]

-- a set that was placed lives behind the one that it was placed for
pub placed-next : (g : Graph) (wanted settled : List Bool) (old new : List FoundSet) (one : FoundSet) → HasPlaced old new one → Grows old new → ComeOfUpTo new one.origin.from
    → one.origin.from < length old → LeadsTo g (set_at old one.origin.from) one.origin.byte one.set → IsFollowed g wanted settled new one.origin.from one.origin.byte
placed-next g wanted settled old new one placed grows up_to from leads = inl (
  placed.number,
  placed.within,
  All-get_or (λ (f : FoundSet). f.origin.from ≤ one.origin.from) new placed.number no_set placed.within up_to,
  subst (LeadsTo g (set_at new one.origin.from) one.origin.byte) (sym placed.there)
      (subst (λ (f : FoundSet). LeadsTo g f.set one.origin.byte one.set) (sym (grows.same one.origin.from from)) leads),
)

-- what is followed stays so
pub followed-more : (g : Graph) (wanted settled : List Bool) (old new : List FoundSet) (n c : ℕ) → n < length old → Grows old new → IsFollowed g wanted settled old n c
    → IsFollowed g wanted settled new n c
followed-more g wanted settled old new n c low grows (inl next) = inl (
  next.0,
  omega (arith, grows.longer, next.1),
  subst (λ (f : FoundSet). f.origin.from ≤ n) (sym (grows.same next.0 next.1)) next.2,
  subst (λ (f : FoundSet). LeadsTo g f.set c (set_at new next.0)) (sym (grows.same n low))
      (subst (λ (f : FoundSet). LeadsTo g (set_at old n) c f.set) (sym (grows.same next.0 next.1)) next.3),
)
followed-more g wanted settled old new n c low grows (inr over) = inr (subst (λ (f : FoundSet). IsOver g wanted settled f.set c) (sym (grows.same n low)) over)

-- one byte more
pub followed-next : (g : Graph) (wanted settled : List Bool) (old new : List FoundSet) (n : ℕ) (bytes : List ℕ) (i d : ℕ) → n < length old → i < length bytes → Grows old new
    → IsFollowedBehind g wanted settled old n (take i bytes) → IsFollowed g wanted settled new n (get_or bytes i d) → IsFollowedBehind g wanted settled new n (take (i + 1) bytes)
followed-next g wanted settled old new n bytes i d low within grows before here c among =
    elim (Contains-push_cases (take i bytes) (get_or bytes i d) c (subst (λ l. Contains l c) (take_more bytes i d within) among)) [
      | inl early ↦ followed-more g wanted settled old new n c low grows (before c early)
      | inr last ↦ subst (IsFollowed g wanted settled new n) last here
    ]

-- behind a byte that is like another from a set the same set lives
leads-alike : (g : Graph) (from to : List ℕ) (c d : ℕ) → AreAlikeFrom g from c d → LeadsTo g from c to → LeadsTo g from d to
leads-alike g from to c d alike leads past whole =
    let behind = leads past whole in
    let same : LeadSame g past c d = λ q at. alike q (whole.each q at) in
    record {
      reached = All-weaker (Reaches g (c ∷ past)) (Reaches g (d ∷ past)) (λ r at. reached-same g past c d same at refl) to behind.reached;
      each = λ r at. behind.each r (reached-same g past d c (same-turned g past c d same) at refl);
    }

followed-alike : (g : Graph) (wanted settled : List Bool) (found : List FoundSet) (n c d : ℕ) → AreAlikeFrom g (set_at found n) c d → IsFollowed g wanted settled found n c
    → IsFollowed g wanted settled found n d
followed-alike g wanted settled found n c d alike (inl next) =
    inl (next.0, next.1, next.2, leads-alike g (set_at found n) (set_at found next.0) c d alike next.3)
followed-alike g wanted settled found n c d alike (inr over) =
    inr (λ past whole lives unsettled.
    let same : LeadSame g past c d = λ q at. alike q (whole.each q at) in
    over past whole (lives.0, reached-same g past d c (same-turned g past c d same) lives.1 refl, lives.2)
    (λ r at. unsettled r (reached-same g past c d same at refl)))

-- bytes that stand for all behind the texts of a set
pub followed-all : (g : Graph) (wanted settled : List Bool) (found : List FoundSet) (n : ℕ) (bytes : List ℕ) → StandForAllFrom g (set_at found n) bytes
    → IsFollowedBehind g wanted settled found n bytes → IsFollowedByAll g wanted settled found n
followed-all g wanted settled found n bytes stand followed c is_byte =
    let like = stand c is_byte in
    followed-alike g wanted settled found n like.0 c like.2 (followed like.0 like.1)

-- one set more is followed
pub closed-next : (g : Graph) (wanted settled : List Bool) (old new : List FoundSet) (at : ℕ) → at < length old → Grows old new
    → IsClosedBefore g wanted settled old at → IsFollowedByAll g wanted settled new at → IsClosedBefore g wanted settled new (at + 1)
closed-next g wanted settled old new at within grows before here n low c is_byte = elim (cases_eq n at) [
  | inl same ↦ subst (λ k. IsFollowed g wanted settled new k c) (sym same) (here c is_byte)
  | inr other ↦
      let less : n < at = omega (arith, low, other) in
      followed-more g wanted settled old new n c (omega (arith, less, within)) grows (before n less c is_byte)
]
