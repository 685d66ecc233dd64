use Rattle.std.proofs.Common.{◌≡◌, ◌+◌, ◌++◌, ◌∷◌, [], List, ℕ, arith, subst, sym, Ok}
use Rattle.aa_glob.proofs.BuiltLemmas.{built-more}
use Rattle.aa_glob.specs.Built.{IsBuilt}
use Rattle.aa_glob_syntax.specs.Reading.{items_of, reading}
use Rattle.aa_glob.proofs.builder.AutomatonBuilder.add.Goals as goal

pub end-requires : goal.end-requires
end-requires c =
    let built = c.self.invariant.1 in
    let whole = c.in_ok-state.ensures c.self.invariant.0 built.between in
    omega (arith, whole.there, whole.growing.drawn.states)

-- with a pattern more, whichever there were
more : (c : goal.In_ok-end) (patterns : List (List ℕ)) → IsBuilt (c.self.inside.growing, c.self.inside.patterns) patterns
    → IsBuilt (record c.follow.new.self { drawing = c.end.new.self }, c.self.inside.patterns + 1) (patterns ++ c.args.pattern.now ∷ [])
more c patterns built =
    let whole = c.in_ok-state.ensures patterns built.between in
    subst (λ (text : List ℕ). IsBuilt (record c.follow.new.self { drawing = c.end.new.self }, c.self.inside.patterns + 1) (patterns ++ text ∷ [])) c.text.ensures.text
    (built-more c.how_graphs_are_drawn.ensures.same_is_drawn c.how_beginnings_are_gathered.ensures.whole_text_is_there c.how_beginnings_are_gathered.ensures.next_text_is_begun patterns c.text.result.now c.self.inside.growing
    c.follow.new.self c.end.new.self c.self.inside.patterns c.in_ok-state.state
    (subst (λ (text : List ℕ). reading text ≡ Ok (items_of text)) (sym c.text.ensures.text) c.text.ensures.reads) whole c.in_ok-end.ensures.added built)

pub invariant_of-result : goal.invariant_of-result
invariant_of-result c = (c.self.invariant.0 ++ c.args.pattern.now ∷ [], more c c.self.invariant.0 c.self.invariant.1)

pub returns : goal.returns
returns c patterns built = more c patterns (subst (λ b. IsBuilt b patterns) (sym c.self.view_is) built)
