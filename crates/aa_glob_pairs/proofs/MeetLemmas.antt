-- A pair of states is met exactly where one text reaches both, as far as that matters.
use Rattle.std.proofs.Common.{◌≡◌, ◌⊎◌, ℕ, ◌^◌, ◌<◌, List, [], ◌∷◌, length, refl, sym, ap, subst, inl, inr, arith}
use Rattle.std.proofs.lemmas.List.Elements.{All-cons, All-head, All-nil, All-tail}
use Rattle.std.specs.Prelude.{slice_index_or}
use Rattle.aa_glob_nfa.specs.Graphs.{AreBytes, begins, comes, Graph, Leads, Reaches, stays, takes, Takes, Stays}
use Rattle.aa_glob_pairs.proofs.BelowLemmas.{clash-includes}
use Rattle.aa_glob_pairs.specs.Below.{Includes}
use Rattle.aa_glob_pairs.specs.Graphs.{AreBelow, Goes, GoesFreely, IsLaid, ReachTogether}
use Rattle.aa_glob_pairs.specs.Pairs.{Classed, goes, GoTogether, MayClash, Met, start}
use Rattle.aa_glob_pairs.specs.declared.below.Below.{Below}
use Rattle.aa_glob_pairs.specs.declared.below.Below.TheVariants.{Nothing}

-- a byte more
went : (g : Graph) (c q x : ℕ) (past : List ℕ) → Reaches g past q → Goes g c q x → Reaches g (c ∷ past) x
went g c q x past at (inl led) = takes at led.0 led.1
went g c q x past at (inr stayed) = subst (λ s. Reaches g (c ∷ past) s) (sym stayed.0) (stays at stayed.1)

-- What comes of a pair that one text reaches is reached by one text.
follow : (g : Graph) (q r x y : ℕ) → ReachTogether g q r → GoTogether g q r x y → ReachTogether g x y
follow g q r x y at (inl free) = (at.0, at.1, comes at.2 free.0.0 free.0.1, subst (λ s. Reaches g at.0 s) (sym free.1) at.3)
follow g q r x y at (inr (inl free)) = (at.0, at.1, subst (λ s. Reaches g at.0 s) (sym free.0) at.2, comes at.3 free.1.0 free.1.1)
follow g q r x y at (inr (inr shared)) = (
  shared.0 ∷ at.0,
  All-cons (λ c. c < 2 ^ 8) shared.0 at.0 shared.1 at.1,
  went g shared.0 q x at.0 at.2 shared.2,
  went g shared.0 r y at.0 at.3 shared.3,
)

-- Each pair that is met is reached by one text.
pub reached-met : (g : Classed) → {q r : ℕ} → Met g q r → ReachTogether g.graph q r
reached-met g start = ([], All-nil (λ c. c < 2 ^ 8), begins, begins)
reached-met g (goes {q = q} {r = r} {x = x} {y = y} at follows) = follow g.graph q r x y (reached-met g at) follows.3

-- what is reached is a state
pub there : (g : Graph) → IsLaid g → {past : List ℕ} {q : ℕ} → Reaches g past q → q < length g.entries
there g laid begins = laid.some
there g laid (comes {q = q} {r = r} at leads free) = laid.within q r leads
there g laid (takes {q = q} {r = r} at leads taken) = laid.within q r leads
there g laid (stays at stay) = there g laid at

module _ (run : Classed) (are : AreBelow run.graph run.classes run.belows) (laid : IsLaid run.graph) where
  abbrev g : Graph
  g = run.graph

  abbrev below : ℕ → Below
  below q = slice_index_or run.belows q Nothing

  -- a pair is met, if that matters
  abbrev pub Meets : ℕ → ℕ → Type 0
  Meets q r = MayClash run q r → Met run q r

  -- a state leads to another, or is that one
  abbrev GoesOn : ℕ → ℕ → Type 0
  GoesOn q x = Leads g q x ⊎ (x ≡ q)

  -- what is below a state is below those that lead to it
  includes_on : (q x : ℕ) → q < length g.entries → GoesOn q x → Includes (below q) (below x)
  includes_on q x within (inl leads) = (are.each q within).on x leads
  includes_on q x within (inr same) = subst (λ s. Includes (below q) (below s)) (sym same) (λ class covers. covers)

  -- a pair that is met, and one that comes of it
  met_on : (q r x y : ℕ) → q < length g.entries → r < length g.entries → GoesOn q x → GoesOn r y → GoTogether g q r x y → Meets q r → Meets x y
  met_on q r x y inside within first second together met may =
      let before = clash-includes (below x) (below y) (below q) (below r) (includes_on q x inside first) (includes_on r y within second) may in
      goes (met before) (inside, within, before, together)

  met_first : (q r x : ℕ) → q < length g.entries → r < length g.entries → GoesFreely g q x → Meets q r → Meets x r
  met_first q r x inside within free met = met_on q r x r inside within (inl free.0) (inr refl) (inl (free, refl)) met

  met_second : (q r y : ℕ) → q < length g.entries → r < length g.entries → GoesFreely g r y → Meets q r → Meets q y
  met_second q r y inside within free met = met_on q r q y inside within (inr refl) (inl free.0) (inr (inl (refl, free))) met

  by_byte : (c q x : ℕ) → Goes g c q x → GoesOn q x
  by_byte c q x (inl led) = inl led.0
  by_byte c q x (inr stayed) = inr stayed.0

  met_both : (q r x y c : ℕ) → q < length g.entries → r < length g.entries → c < 2 ^ 8 → Goes g c q x → Goes g c r y → Meets q r → Meets x y
  met_both q r x y c inside within small go go_too met =
      met_on q r x y inside within (by_byte c q x go) (by_byte c r y go_too) (inr (inr (c, small, go, go_too))) met

  -- the start of the first, and what the second reaches before any byte
  met_begin : {past : List ℕ} {r : ℕ} → Reaches g past r → past ≡ [] → Meets 0 r
  met_begin begins e = λ may. start
  met_begin (comes {q = q} {r = r} at leads free) e = met_second 0 q r laid.some (there g laid at) (leads, free) (met_begin at e)
  met_begin (takes {past = past} {c = c} at leads taken) e = absurd (omega (arith, ap length e))
  met_begin (stays {past = past} {c = c} at stay) e = absurd (omega (arith, ap length e))

  -- The first has gone by a byte from a state that is met with all that the second reaches before it.
  met_byte : (c q x : ℕ) (before : List ℕ) → c < 2 ^ 8 → q < length g.entries → x < length g.entries → Goes g c q x
      → ((r : ℕ) → Reaches g before r → Meets q r) → {past : List ℕ} {r : ℕ} → Reaches g past r → past ≡ c ∷ before → Meets x r
  met_byte c q x before small inside within go met begins e = absurd (omega (arith, ap length e))
  met_byte c q x before small inside within go met (comes {q = s} {r = r} at leads free) e =
      met_second x s r within (there g laid at) (leads, free) (met_byte c q x before small inside within go met at e)
  met_byte c q x before small inside within go met (takes {past = past} {q = s} {r = r} {c = d} at leads taken) e =
      let byte : d ≡ c = cc in
      let rest : past ≡ before = cc in
      met_both q s x r c inside (there g laid at) small go (inl (leads, subst (λ b. Takes g r b) byte taken)) (met s (subst (λ p. Reaches g p s) rest at))
  met_byte c q x before small inside within go met (stays {past = past} {r = r} {c = d} at stay) e =
      let byte : d ≡ c = cc in
      let rest : past ≡ before = cc in
      met_both q r x r c inside (there g laid at) small go (inr (refl, subst (λ b. Stays g r b) byte stay)) (met r (subst (λ p. Reaches g p r) rest at))

  -- Each pair that one text reaches is met.
  pub met-reached : {past : List ℕ} {q r : ℕ} → Reaches g past q → Reaches g past r → AreBytes past → Meets q r
  met-reached begins other bytes = met_begin other refl
  met-reached (comes {q = q} {r = x} at leads free) other bytes = met_first q _ x (there g laid at) (there g laid other) (leads, free) (met-reached at other bytes)
  met-reached (takes {past = past} {q = q} {r = x} {c = c} at leads taken) other bytes =
      met_byte c q x past (All-head (λ c. c < 2 ^ 8) c past bytes) (there g laid at) (laid.within q x leads) (inl (leads, taken))
      (λ r to. met-reached at to (All-tail (λ c. c < 2 ^ 8) c past bytes)) other refl
  met-reached (stays {past = past} {r = x} {c = c} at stay) other bytes =
      met_byte c x x past (All-head (λ c. c < 2 ^ 8) c past bytes) (there g laid at) (there g laid at) (inr (refl, stay))
      (λ r to. met-reached at to (All-tail (λ c. c < 2 ^ 8) c past bytes)) other refl
