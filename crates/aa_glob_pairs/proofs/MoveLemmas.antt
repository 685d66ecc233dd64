-- Moves that are gathered one after the other.
use Rattle.std.proofs.Common.{◌≡◌, ◌⊎◌, ◌↔◌, ℕ, ◌^◌, ◌<◌, true, false, Bool, List, [], ◌∷◌, ◌++◌, length, refl, sym, ap, subst, ◌∙◌, inl, inr}
use Rattle.std.proofs.lemmas.List.Elements.{Contains-append_left, Contains-push, Contains-push_cases}
use Rattle.std.specs.Prelude.{Contains, None, Option, Some}
use Rattle.aa_glob_nfa.proofs.TableLemmas.{entry_of-graph_in}
use Rattle.aa_glob_nfa.specs.Entries.{is_free, stays_at, takes_byte}
use Rattle.aa_glob_nfa.specs.Graphs.{entry_of, Graph, IsFree, Leads, Takes}
use Rattle.aa_glob_nfa.specs.Tables.{entry_behind, set_of, state_at}
use Rattle.aa_glob_nfa.specs.declared.entry.Entry.{Entry}
use Rattle.aa_glob_nfa.specs.declared.entry.Entry.TheVariants.{Free, Byte, Inside, Class, Star, DoubleStar}
use Rattle.aa_glob_nfa.specs.declared.state.Gate.{Gate}
use Rattle.aa_glob_nfa.specs.OfTables.{graph_of}
use Rattle.aa_glob_nfa.specs.declared.tables.Tables.{Tables}
use Rattle.aa_glob_pairs.proofs.GainLemmas.{nothing_there}
use Rattle.aa_glob_pairs.specs.Bytes.{in_bytes, is_among}
use Rattle.aa_glob_pairs.specs.Graphs.{AreMoves}
use Rattle.aa_glob_pairs.specs.Nodes.{HasStep}
use Rattle.aa_glob_pairs.specs.code.Gathered.{Gets, GetsLed, GetsStay}
use Rattle.aa_glob_pairs.specs.declared.bytes.Bytes.{Bytes}
use Rattle.aa_glob_pairs.specs.declared.moves.Moves.{Moves}
use Rattle.aa_glob_pairs.specs.declared.moves.Step.{Step}

gets_then : (old mid new : Moves) (F G H : ℕ → Type 0) (S T U : ℕ → ℕ → Type 0) → Gets old mid F S → Gets mid new G T
    → ((x : ℕ) → (H x ↔ (F x ⊎ G x))) → ((c x : ℕ) → (U c x ↔ (S c x ⊎ T c x))) → Gets old new H U
gets_then old mid new F G H S T U one two free steps = record {
  free = λ x. (
    λ has. elim ((two.free x).0 has) [
      | inl before ↦ elim ((one.free x).0 before) [ inl old ↦ inl old | inr first ↦ inr ((free x).1 (inl first)) ]
      | inr second ↦ inr ((free x).1 (inr second))
    ],
    λ h. elim h [
      | inl old ↦ (two.free x).1 (inl ((one.free x).1 (inl old)))
      | inr both ↦ elim ((free x).0 both) [ inl first ↦ (two.free x).1 (inl ((one.free x).1 (inr first))) | inr second ↦ (two.free x).1 (inr second) ]
    ],
  );
  steps = λ c x small. (
    λ has. elim ((two.steps c x small).0 has) [
      | inl before ↦ elim ((one.steps c x small).0 before) [ inl old ↦ inl old | inr first ↦ inr ((steps c x).1 (inl first)) ]
      | inr second ↦ inr ((steps c x).1 (inr second))
    ],
    λ h. elim h [
      | inl old ↦ (two.steps c x small).1 (inl ((one.steps c x small).1 (inl old)))
      | inr both ↦ elim ((steps c x).0 both) [ inl first ↦ (two.steps c x small).1 (inl ((one.steps c x small).1 (inr first))) | inr second ↦ (two.steps c x small).1 (inr second) ]
    ],
  );
}

-- what holds of either kind, with something more
both_kinds : (L M N P : ℕ → Type 0) → ((x : ℕ) → (N x ↔ (L x ⊎ M x))) → (x : ℕ) → ((N x × P x) ↔ ((L x × P x) ⊎ (M x × P x)))
both_kinds L M N P led x = (
  λ h. elim ((led x).0 h.0) [ inl l ↦ inl (l, h.1) | inr m ↦ inr (m, h.1) ],
  λ h. elim h [ inl l ↦ ((led x).1 (inl l.0), l.1) | inr m ↦ ((led x).1 (inr m.0), m.1) ],
)

pub gets_led_then : (g : Graph) (old mid new : Moves) (L M N : ℕ → Type 0) → GetsLed g old mid L → GetsLed g mid new M → ((x : ℕ) → (N x ↔ (L x ⊎ M x))) → GetsLed g old new N
gets_led_then g old mid new L M N one two led =
    gets_then old mid new (λ x. L x × IsFree g x) (λ x. M x × IsFree g x) (λ x. N x × IsFree g x) (λ c x. L x × Takes g x c) (λ c x. M x × Takes g x c) (λ c x. N x × Takes g x c) one two
    (both_kinds L M N (IsFree g) led) (λ c. both_kinds L M N (λ x. Takes g x c) led)

-- the same kind by another name
pub gets_led_as : (g : Graph) (old new : Moves) (L M : ℕ → Type 0) → GetsLed g old new L → ((x : ℕ) → (M x ↔ L x)) → GetsLed g old new M
gets_led_as g old new L M gets same = record {
  free = λ x. (
    λ has. elim ((gets.free x).0 has) [ inl before ↦ inl before | inr new ↦ inr ((same x).1 new.0, new.1) ],
    λ h. elim h [ inl before ↦ (gets.free x).1 (inl before) | inr new ↦ (gets.free x).1 (inr ((same x).0 new.0, new.1)) ],
  );
  steps = λ c x small. (
    λ has. elim ((gets.steps c x small).0 has) [ inl before ↦ inl before | inr new ↦ inr ((same x).1 new.0, new.1) ],
    λ h. elim h [ inl before ↦ (gets.steps c x small).1 (inl before) | inr new ↦ (gets.steps c x small).1 (inr ((same x).0 new.0, new.1)) ],
  );
}

-- no moves, and then those that lead away and that stay
pub moves_gathered : (g : Graph) (q : ℕ) (none mid new : Moves) → none.free.items ≡ [] → none.steps.items ≡ [] → GetsLed g none mid (Leads g q) → GetsStay g mid new q
    → AreMoves g q new
moves_gathered g q none mid new free steps led stay = record {
  free = λ x. (
    λ has. elim ((stay.free x).0 has) [
      | inl before ↦ elim ((led.free x).0 before) [ inl old ↦ absurd (nothing_there x (subst (λ l. Contains l x) free old)) | inr entered ↦ entered ]
      | inr never ↦ absurd never
    ],
    λ entered. (stay.free x).1 (inl ((led.free x).1 (inr entered))),
  );
  steps = λ c x small. (
    λ has. elim ((stay.steps c x small).0 has) [
      | inl before ↦ elim ((led.steps c x small).0 before) [ inl old ↦ absurd (nothing_there old.0 (subst (λ l. Contains l old.0) steps old.1)) | inr taken ↦ inl taken ]
      | inr stayed ↦ inr stayed
    ],
    λ h. elim h [
      | inl taken ↦ (stay.steps c x small).1 (inl ((led.steps c x small).1 (inr taken)))
      | inr stayed ↦ (stay.steps c x small).1 (inr stayed)
    ],
  );
}

-- a step more
pub step_pushed : (steps : List Step) (to : ℕ) (bytes : Bytes) (c x : ℕ)
    → (HasStep (steps ++ record { to = to; bytes = bytes } ∷ []) c x ↔ (HasStep steps c x ⊎ ((x ≡ to) × (in_bytes bytes c ≡ true))))
step_pushed steps to bytes c x = (
  λ h. elim (Contains-push_cases steps (record { to = to; bytes = bytes }) h.0 h.1) [
    | inl early ↦ inl (h.0, early, h.2, h.3)
    | inr last ↦ inr (sym (ap (λ s. s.to) last ∙ h.2), ap (λ s. in_bytes s.bytes c) last ∙ h.3)
  ],
  λ h. elim h [
    | inl early ↦ (early.0, Contains-append_left steps (record { to = to; bytes = bytes } ∷ []) early.0 early.1, early.2, early.3)
    | inr new ↦ (record { to = to; bytes = bytes }, Contains-push steps (record { to = to; bytes = bytes }), sym new.0, new.1)
  ],
)

-- what is entered without a byte takes none
free_takes_none : (e : Entry) (c : ℕ) → is_free e ≡ true → takes_byte e c ≡ true → ⊥
free_takes_none Free c free taken = absurd cc
free_takes_none (Byte b) c free taken = absurd cc
free_takes_none Inside c free taken = absurd cc
free_takes_none (Class map) c free taken = absurd cc
free_takes_none Star c free taken = absurd cc
free_takes_none DoubleStar c free taken = absurd cc

apart : (b : Bool) → b ≡ false → b ≡ true → ⊥
apart b off on = absurd cc

-- a state that is entered without a byte
pub gets_free : (g : Graph) (old new : Moves) (to : ℕ) → IsFree g to → new.free.items ≡ old.free.items ++ to ∷ [] → new.steps.items ≡ old.steps.items → GetsLed g old new (λ x. x ≡ to)
gets_free g old new to free more steps = record {
  free = λ x. rw more (
    λ has. elim (Contains-push_cases old.free.items to x has) [ inl early ↦ inl early | inr last ↦ inr (sym last, subst (λ y. IsFree g y) last free) ],
    λ h. elim h [
      | inl early ↦ Contains-append_left old.free.items (to ∷ []) x early
      | inr entered ↦ subst (λ y. Contains (old.free.items ++ to ∷ []) y) (sym entered.0) (Contains-push old.free.items to)
    ],
  );
  steps = λ c x small. rw steps (
    inl,
    λ h. elim h [ inl before ↦ before | inr taken ↦ absurd (free_takes_none (entry_of g to) c free (subst (λ y. Takes g y c) taken.0 taken.1)) ],
  );
}

-- one that is entered by these bytes
pub gets_step : (g : Graph) (old new : Moves) (to : ℕ) (bytes : Bytes) → is_free (entry_of g to) ≡ false
    → ((c : ℕ) → c < 2 ^ 8 → in_bytes bytes c ≡ takes_byte (entry_of g to) c) → new.free.items ≡ old.free.items
    → new.steps.items ≡ old.steps.items ++ record { to = to; bytes = bytes } ∷ [] → GetsLed g old new (λ x. x ≡ to)
gets_step g old new to bytes bound takes free more = record {
  free = λ x. rw free (inl, λ h. elim h [ inl before ↦ before | inr entered ↦ absurd (apart (is_free (entry_of g to)) bound (subst (λ y. IsFree g y) entered.0 entered.1)) ]);
  steps = λ c x small. rw more (
    λ has. elim ((step_pushed old.steps.items to bytes c x).0 has) [
      | inl before ↦ inl before
      | inr taken ↦ inr (taken.0, subst (λ y. Takes g y c) (sym taken.0) (sym (takes c small) ∙ taken.1))
    ],
    λ h. (step_pushed old.steps.items to bytes c x).1 (elim h [
      | inl before ↦ inl before
      | inr taken ↦ inr (taken.0, takes c small ∙ subst (λ y. Takes g y c) taken.0 taken.1)
    ]),
  );
}

-- what it takes to come into a state, and to stay there, by its gate
pub entry_by_gate : (t : Tables) (q : ℕ) (gate : Gate) → q < length t.states → gate ≡ (state_at t.states q).gate
    → entry_of (graph_of t) q ≡ entry_behind gate (set_of t.classes.items q)
entry_by_gate t q gate within is =
    entry_of-graph_in t.states t.ways.items t.classes.items t.ends.items q within ∙ ap (λ g. entry_behind g (set_of t.classes.items q)) (sym is)

-- a step that stays
pub gets_stay_step : (g : Graph) (old new : Moves) (q : ℕ) (bytes : Bytes) → new.free.items ≡ old.free.items
    → new.steps.items ≡ old.steps.items ++ record { to = q; bytes = bytes } ∷ [] → ((c : ℕ) → stays_at (entry_of g q) c ≡ in_bytes bytes c) → GetsStay g old new q
gets_stay_step g old new q bytes free steps stays = record {
  free = λ x. (
    λ has. inl (subst (λ (l : List ℕ). Contains l x) free has),
    λ h. elim h [ inl before ↦ subst (λ (l : List ℕ). Contains l x) (sym free) before | inr never ↦ absurd never ],
  );
  steps = λ c x small. rw steps (
    λ has. elim ((step_pushed old.steps.items q bytes c x).0 has) [ inl before ↦ inl before | inr new ↦ inr (new.0, stays c ∙ new.1) ],
    λ h. (step_pushed old.steps.items q bytes c x).1 (elim h [ inl before ↦ inl before | inr stayed ↦ inr (stayed.0, sym (stays c) ∙ stayed.1) ]),
  );
}

-- a state that no byte leaves as it is
pub gets_stay_none : (g : Graph) (m : Moves) (q : ℕ) → ((c : ℕ) → stays_at (entry_of g q) c ≡ false) → GetsStay g m m q
gets_stay_none g m q never = record {
  free = λ x. (λ has. inl has, λ h. elim h [ inl before ↦ before | inr none ↦ absurd none ]);
  steps = λ c x small. (λ has. inl has, λ h. elim h [ inl before ↦ before | inr stayed ↦ absurd (apart (stays_at (entry_of g q) c) (never c) stayed.1) ]);
}

-- no byte is among none
pub no_bytes_stay : (bytes : Option Bytes) (c : ℕ) → ((some : Bytes) → bytes ≡ Some some → ⊥) → is_among bytes c ≡ false
no_bytes_stay None c none = refl
no_bytes_stay (Some bytes) c none = absurd (none bytes refl)
