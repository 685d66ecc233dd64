-- One change back, one on and one more in a list of changes with a cursor.
use Rattle.std.proofs.Common.{◌≡◌, ℕ, ◌+◌, ◌-◌, ◌<◌, ◌≤◌, zero, suc, List, map, [], ◌∷◌, ◌++◌, length, take, drop, slice_index_or, slice_set, Some, refl, sym, ap, ◌∙◌, arith}
use Rattle.std.proofs.lemmas.List.{length-take-le, length-drop, take_at, drop_at, take_more, drop_more, take-set, drop-set, map-append, take-map, take_more_set, drop-set-lt}
use Rattle.aa_history.specs.Machine.{AreUpTo, Kept, Machine, accepted, committed, gone_back, gone_on, up_to, with_mark, with_number}
use Rattle.std.specs.Map.{lookup}
use Rattle.std.specs.Str.{bytes_eq}
use Rattle.aa_history.proofs.MarkLemmas.{found_within}
use Rattle.aa_history.proofs.MachineLemmas.{one_back, one_on, same_machine, same_marks}
use Rattle.aa_history.specs.code.Timeline.{state_behind, states_ahead, states_behind, timeline}

-- the state behind changes of which the last was turned
state_behind-push : {S C : Type 0} (after : S → C → S) (cs : List C) (c : C) (s : S) → state_behind after (cs ++ c ∷ []) s ≡ state_behind after cs (after s c)
state_behind-push after [] c s = refl
state_behind-push after (x ∷ xs) c s = ap (λ state. after state x) (state_behind-push after xs c s)

-- the states behind changes of which the last was turned
pub states_behind-push : {S C : Type 0} (after : S → C → S) (cs : List C) (c : C) (s : S)
    → states_behind after (cs ++ c ∷ []) s ≡ states_behind after cs (after s c) ++ after s c ∷ []
states_behind-push after [] c s = refl
states_behind-push after (x ∷ xs) c s =
    ap (λ state. after state x ∷ states_behind after (xs ++ c ∷ []) s) (state_behind-push after xs c s)
    ∙ ap (λ rest. state_behind after (x ∷ xs) (after s c) ∷ rest) (states_behind-push after xs c s)

pub length-states_behind : {S C : Type 0} (after : S → C → S) (cs : List C) (s : S) → length (states_behind after cs s) ≡ length cs
length-states_behind after [] s = refl
length-states_behind after (c ∷ cs) s = ap (λ n. suc n) (length-states_behind after cs s)

pub length-states_ahead : {S C : Type 0} (after : S → C → S) (cs : List C) (s : S) → length (states_ahead after cs s) ≡ length cs
length-states_ahead after [] s = refl
length-states_ahead after (c ∷ cs) s = ap (λ n. suc n) (length-states_ahead after cs (after s c))

-- the changes before the cursor, where one is
take_last : {C : Type 0} (cs : List C) (done : ℕ) (c : C) → 0 < done → done ≤ length cs → c ≡ slice_index_or cs (done - 1) c → take done cs ≡ take (done - 1) cs ++ c ∷ []
take_last cs done c h k e =
    let up : done ≡ done - 1 + 1 = omega arith in
    ap (λ n. take n cs) up ∙ take_more cs (done - 1) c (omega arith) ∙ ap (λ x. take (done - 1) cs ++ x ∷ []) (sym e)

-- one change back
pub timeline_back : {S C : Type 0} (after : S → C → S) (back : S → C → C)
    → (cs : List C) (done : ℕ) (s there : S) (marks : List (List ℕ × ℕ)) (c turned : C) → after (after s c) (back s c) ≡ s → 0 < done → done ≤ length cs → c ≡ slice_index_or cs (done - 1) c
    → there ≡ after s c → turned ≡ back s c
    → timeline after (slice_set cs (done - 1) turned) (done - 1) there marks ≡ gone_back 1 (timeline after cs done s marks)
timeline_back {S} {C} after back cs done s there marks c turned law h k e p q =
    let place : ℕ = done - 1 in
    let up : place + 1 ≡ done = omega arith in
    let home : after there turned ≡ s = ap (λ t. after t turned) p ∙ ap (after (after s c)) q ∙ law in
    let behind : List S = states_behind after (take place cs) there in
    let ahead : List S = states_ahead after (drop done cs) s in
    let old : states_behind after (take done cs) s ≡ behind ++ there ∷ [] =
    ap (λ front. states_behind after front s) (take_last cs done c h k e) ∙ states_behind-push after (take place cs) c s
    ∙ ap (λ t. states_behind after (take place cs) t ++ t ∷ []) (sym p) in
    same_machine
    (ap (λ front. states_behind after front there) (take-set cs place turned))
    refl
    (ap (λ rest. states_ahead after rest there) (drop-set cs place turned (omega arith))
    ∙ ap (λ t. t ∷ states_ahead after (drop (place + 1) cs) t) home
    ∙ ap (λ n. s ∷ states_ahead after (drop n cs) s) up)
    ∙ sym (one_back behind there s ahead marks)
    ∙ ap (gone_back 1) (same_machine (sym old) refl refl)

-- one change on
pub timeline_on : {S C : Type 0} (after : S → C → S) (back : S → C → C)
    → (cs : List C) (done : ℕ) (s there : S) (marks : List (List ℕ × ℕ)) (c turned : C) → after (after s c) (back s c) ≡ s → done < length cs → c ≡ slice_index_or cs done c
    → there ≡ after s c → turned ≡ back s c
    → timeline after (slice_set cs done turned) (done + 1) there marks ≡ gone_on 1 (timeline after cs done s marks)
timeline_on {S} {C} after back cs done s there marks c turned law h e p q =
    let home : after there turned ≡ s = ap (λ t. after t turned) p ∙ ap (after (after s c)) q ∙ law in
    let behind : List S = states_behind after (take done cs) s in
    let ahead : List S = states_ahead after (drop (done + 1) cs) there in
    let old : states_ahead after (drop done cs) s ≡ there ∷ ahead =
    ap (λ rest. states_ahead after rest s) (drop_more cs done c h ∙ ap (λ x. x ∷ drop (done + 1) cs) (sym e))
    ∙ ap (λ t. t ∷ states_ahead after (drop (done + 1) cs) t) (sym p) in
    same_machine
    (ap (λ front. states_behind after front there) (take_more_set cs done turned h)
    ∙ states_behind-push after (take done cs) turned there
    ∙ ap (λ t. states_behind after (take done cs) t ++ t ∷ []) home)
    refl
    (ap (λ rest. states_ahead after rest there) (drop-set-lt (done + 1) cs done turned (omega arith)))
    ∙ sym (one_on behind s there ahead marks)
    ∙ ap (gone_on 1) (same_machine refl refl (sym old))

-- what leads back, and what leads on
pub length-back : {S C : Type 0} (after : S → C → S) (cs : List C) (done : ℕ) (s : S) (marks : List (List ℕ × ℕ)) → done ≤ length cs → length (timeline after cs done s marks).earlier ≡ done
length-back after cs done s marks h = length-states_behind after (take done cs) s ∙ length-take-le done cs h

pub length-on : {S C : Type 0} (after : S → C → S) (cs : List C) (done : ℕ) (s : S) (marks : List (List ℕ × ℕ)) → length (timeline after cs done s marks).later ≡ length cs - done
length-on after cs done s marks = length-states_ahead after (drop done cs) s ∙ length-drop done cs

-- a change kept behind the cursor, and then made
pub timeline_kept : {S C : Type 0} (after : S → C → S) (cs kept : List C) (done : ℕ) (s : S) (marks : List (List ℕ × ℕ)) (c : C) → done ≤ length cs → kept ≡ take done cs ++ c ∷ []
    → gone_on 1 (timeline after kept done s (up_to done marks)) ≡ accepted (timeline after cs done s marks) (after s c)
timeline_kept {S} {C} after cs kept done s marks c h e =
    let size : length (take done cs) ≡ done = length-take-le done cs h in
    ap (λ items. gone_on 1 (timeline after items done s (up_to done marks))) e
    ∙ ap (gone_on 1) (same_machine
    (ap (λ front. states_behind after front s) (take_at (take done cs) (c ∷ []) done size))
    refl
    (ap (λ rest. states_ahead after rest s) (drop_at (take done cs) (c ∷ []) done size)))
    ∙ one_on (states_behind after (take done cs) s) s (after s c) [] (up_to done marks)
    ∙ same_marks (accepted (timeline after cs done s marks) (after s c)) (ap (λ size. up_to size marks) (sym (length-back after cs done s marks h)))

-- how many changes there are, those that lead back and those that lead on
pub length-both : {S C : Type 0} (after : S → C → S) (cs : List C) (done : ℕ) (s : S) (marks : List (List ℕ × ℕ)) → done ≤ length cs
    → length (timeline after cs done s marks).earlier + length (timeline after cs done s marks).later ≡ length cs
length-both after cs done s marks h =
    let back = length-back after cs done s marks h in
    let on = length-on after cs done s marks in
    omega (arith, back, on)

-- a change that was turned in its place keeps what is measured of each
pub measured_turned : {C : Type 0} (f : C → ℕ) (cs : List C) (place : ℕ) (c turned : C) → c ≡ slice_index_or cs place c → f turned ≡ f c
    → map f (slice_set cs place turned) ≡ map f cs
measured_turned f [] place c turned h e = refl
measured_turned f (x ∷ xs) zero c turned h e = ap (λ n. n ∷ map f xs) (e ∙ ap f h)
measured_turned f (x ∷ xs) (suc place) c turned h e = ap (λ ns. f x ∷ ns) (measured_turned f xs place c turned h e)

-- kept machines of equal parts
pub same_kept : {S : Type 0} {m n : Machine S} {ms ns : List ℕ} → m ≡ n → ms ≡ ns → ◌≡◌ {A = Kept S} (record { machine = m; sizes = ms }) (record { machine = n; sizes = ns })
same_kept p q = λ i. record { machine = p i; sizes = q i }

-- as many changes back from equal ones
pub went_back : {S : Type 0} (n : ℕ) {k l : Kept S} → k ≡ l → ◌≡◌ {A = Kept S} (record k { machine = gone_back n k.machine }) (record l { machine = gone_back n l.machine })
went_back {S} n p = λ i. record (p i) { machine = gone_back n (p i).machine }

-- as many changes on from equal ones
pub went_on : {S : Type 0} (n : ℕ) {k l : Kept S} → k ≡ l → ◌≡◌ {A = Kept S} (record k { machine = gone_on n k.machine }) (record l { machine = gone_on n l.machine })
went_on {S} n p = λ i. record (p i) { machine = gone_on n (p i).machine }

-- one with equal machines in place of its own
pub with_machine : {S : Type 0} (k : Kept S) {m n : Machine S} → m ≡ n → ◌≡◌ {A = Kept S} (record k { machine = m }) (record k { machine = n })
with_machine k p = λ i. record k { machine = p i }

-- a change kept behind the cursor, and then made, with how many parts it has
pub kept_committed : {S C : Type 0} (after : S → C → S) (parts : C → ℕ) (cs kept : List C) (done : ℕ) (s t : S) (marks left : List (List ℕ × ℕ)) (c : C) (k : Kept S) → done ≤ length cs
    → kept ≡ take done cs ++ c ∷ [] → t ≡ s → left ≡ up_to done marks → ◌≡◌ {A = Kept S} (record { machine = timeline after cs done s marks; sizes = map parts cs }) k
    → ◌≡◌ {A = Kept S} (record { machine = gone_on 1 (timeline after kept done t left); sizes = map parts kept }) (committed k (after k.machine.now c) (parts c))
kept_committed {S} {C} after parts cs kept done s t marks left c k h e f l g =
    same_kept
    (ap (λ set. gone_on 1 (timeline after kept done set left)) f ∙ ap (λ marks. gone_on 1 (timeline after kept done s marks)) l ∙ timeline_kept after cs kept done s marks c h e)
    (ap (map parts) e ∙ map-append parts (take done cs) (c ∷ []) ∙ ap (λ sizes. sizes ++ parts c ∷ []) (sym (take-map parts done cs) ∙ ap (λ n. take n (map parts cs)) (sym (length-back after cs done s marks h))))
    ∙ (λ i. committed (g i) (after (g i).machine.now c) (parts c))

-- the state now, marked
pub kept_marked : {S C : Type 0} (after : S → C → S) (parts : C → ℕ) (cs : List C) (done : ℕ) (s : S) (marks new : List (List ℕ × ℕ)) (name : List ℕ) (k : Kept S) → done ≤ length cs
    → new ≡ with_number name done marks → ◌≡◌ {A = Kept S} (record { machine = timeline after cs done s marks; sizes = map parts cs }) k
    → ◌≡◌ {A = Kept S} (record { machine = timeline after cs done s new; sizes = map parts cs }) (record k { machine = with_mark name k.machine })
kept_marked {S} {C} after parts cs done s marks new name k h p g =
    same_kept
    (same_marks (timeline after cs done s marks) (p ∙ ap (λ n. with_number name n marks) (sym (length-back after cs done s marks h))))
    refl
    ∙ (λ i. record (g i) { machine = with_mark name (g i).machine })

-- the number of a name that is marked is that of a state
pub found_in_all : {S C : Type 0} (after : S → C → S) (parts : C → ℕ) (cs : List C) (done : ℕ) (s : S) (marks : List (List ℕ × ℕ)) (name : List ℕ) (number : ℕ) (k : Kept S)
    → done ≤ length cs → AreUpTo (length cs) marks → ◌≡◌ {A = Kept S} (record { machine = timeline after cs done s marks; sizes = map parts cs }) k
    → lookup (λ other. bytes_eq other name) marks ≡ Some number → number ≤ length k.machine.earlier + length k.machine.later
found_in_all after parts cs done s marks name number k h m g e =
    let within = found_within (length cs) (λ other. bytes_eq other name) marks number m e in
    let both = length-both after cs done s marks h in
    let same = ap (λ k. length k.machine.earlier + length k.machine.later) g in
    omega (arith, within, both, same)
