-- The groups that are open at a place in a pattern's text, the innermost first. What is known of a group is left to the definitions that use them.
use Rattle.std.specs.Prelude.{List, [], ◌∷◌}
use Rattle.aa_glob_syntax.specs.Elements.{Element, Single, Open, Comma, Close, Fault}

-- all groups but the innermost
abbrev pub outer : {G : Type 0} → List G → List G
outer [] = []
outer (g ∷ gs) = gs

-- the groups, with the innermost changed
abbrev pub with_innermost : {G : Type 0} → (G → G) → List G → List G
with_innermost change [] = []
with_innermost change (g ∷ gs) = change g ∷ gs

-- The groups after an element: an opening brace begins a new one, a closing brace ends the innermost, and a comma ends an alternative of it.
abbrev pub open_behind : {G : Type 0} → G → (G → G) → Element → List G → List G
open_behind new ended (Single item) gs = gs
open_behind new ended Open gs = new ∷ gs
open_behind new ended Comma gs = with_innermost ended gs
open_behind new ended Close gs = outer gs
open_behind new ended (Fault error) gs = gs

-- an open group: what is known of the beginning of its alternatives, and of the ends of those so far
pub record OpenGroup (A B : Type 0) : Type 0 where
  pub beginning : A
  pub ends : B

-- one more of its alternatives has ended
abbrev pub with_end : {A B : Type 0} → (B → B) → OpenGroup A B → OpenGroup A B
with_end more g = record { beginning = g.beginning; ends = more g.ends }

-- where the alternatives of the innermost group begin; outside groups, which is never met, here
abbrev pub beginning_of : {A B : Type 0} → A → List (OpenGroup A B) → A
beginning_of here [] = here
beginning_of here (g ∷ gs) = g.beginning

-- where the alternatives of the innermost group end, of which the last ends here; outside groups, which is never met, only here
abbrev pub ends_of : {A B : Type 0} → B → (B → B) → List (OpenGroup A B) → B
ends_of alone more [] = alone
ends_of alone more (g ∷ gs) = more g.ends

-- What leads to an element that comes next here: to a comma the beginning of its group's alternatives, to a closing brace their ends, to any other
-- element what comes before it.
abbrev pub leading_to : {A B : Type 0} → (A → B) → (A → B → B) → Element → A → List (OpenGroup A B) → B
leading_to alone more (Single item) here gs = alone here
leading_to alone more Open here gs = alone here
leading_to alone more Comma here gs = alone (beginning_of here gs)
leading_to alone more Close here gs = ends_of (alone here) (more here) gs
leading_to alone more (Fault error) here gs = alone here

-- the groups after an element that leads from one place to another, where the ends are listed, the last one first
abbrev pub groups_behind : {A : Type 0} → Element → A → A → List (OpenGroup A (List A)) → List (OpenGroup A (List A))
groups_behind e from to gs = open_behind (record { beginning = to; ends = [] }) (with_end (λ ends. from ∷ ends)) e gs

-- the places that lead to an element
abbrev pub sources_behind : {A : Type 0} → Element → A → List (OpenGroup A (List A)) → List A
sources_behind e here gs = leading_to (λ place. place ∷ []) (λ place ends. place ∷ ends) e here gs
