-- The text of one more pattern, from its first element to its last.
use Rattle.std.proofs.Common.{◌≡◌, ℕ, List, [], ◌∷◌, ◌++◌, reverse, append_assoc, sym, ap, ◌∙◌, subst}
use Rattle.std.proofs.lemmas.List.{append-nil, reverse-append}
use Rattle.aa_glob.specs.Walks.{Standing, standing_at}
use Rattle.aa_glob.specs.code.Followed.{Between, EndsWhole, IsFollowing}
use Rattle.aa_glob.specs.code.Growths.{Follows, GoesOver}
use Rattle.aa_glob.specs.declared.growing.Growing.{Growing}
use Rattle.aa_glob.proofs.StandLemmas.{stands_start}
use Rattle.aa_glob_syntax.specs.Elements.{Element}
use Rattle.aa_glob_pattern.specs.Elements.{elements_of}
use Rattle.aa_glob_pattern.specs.Laws.{WholeTrailsAreElements}
use Rattle.aa_glob_pattern.specs.Trails.{Trail, trail_of}

-- a walk begins where no text was followed yet
pub follows-start : (patterns : List (List ℕ)) (g : Growing) (walk : Standing) → walk ≡ standing_at 0 [] → Between patterns g → Follows patterns [] g walk
follows-start patterns g walk is between = record {
  trails = between.0;
  growing = between.1;
  stands = rw is (stands_start between.0 between.1.drawn.begins between.1.drawn.start);
}

pub following-start : WholeTrailsAreElements → (g : Growing) (text : List ℕ) (walk : Standing) (left : List Element) → walk ≡ standing_at 0 [] → left ≡ elements_of text
    → IsFollowing g text g walk left
following-start law g text walk left is all = record {
  trail = [];
  whole = append-nil (reverse left) ∙ ap reverse all ∙ sym (law text);
  each = λ patterns between. follows-start patterns g walk is between;
}

-- the last of what is left, before a trail
front : (e : Element) (es : List Element) (trail : Trail) → reverse (e ∷ es) ++ trail ≡ reverse es ++ e ∷ trail
front e es trail = ap (λ l. l ++ trail) (reverse-append (e ∷ []) es) ∙ append_assoc (reverse es) (e ∷ []) trail

pub following-more : (old before after : Growing) (text : List ℕ) (walk on : Standing) (left rest : List Element) (e : Element)
    → left ≡ e ∷ rest → GoesOver before walk e after on → IsFollowing old text before walk left → IsFollowing old text after on rest
following-more old before after text walk on left rest e found goes was = record {
  trail = e ∷ was.trail;
  whole = sym (front e rest was.trail) ∙ ap (λ es. reverse es ++ was.trail) (sym found) ∙ was.whole;
  each = λ patterns between. goes patterns was.trail (was.each patterns between);
}

pub following-end : (old g : Growing) (text : List ℕ) (walk : Standing) (left : List Element) (state : ℕ)
    → left ≡ [] → state ≡ walk.state → IsFollowing old text g walk left
    → (patterns : List (List ℕ)) → Between patterns old → EndsWhole patterns text g state
following-end old g text walk left state none is was patterns between =
    let all : was.trail ≡ trail_of text = ap (λ es. reverse es ++ was.trail) (sym none) ∙ was.whole in
    let follows = subst (λ (t : Trail). Follows patterns t g walk) all (was.each patterns between) in
    record {
      trails = follows.trails;
      growing = follows.growing;
      there = rw is follows.stands.there;
      is = rw is follows.stands.here;
    }
