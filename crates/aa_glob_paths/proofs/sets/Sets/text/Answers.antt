use Rattle.std.proofs.Common.{◌≡◌, [], ◌∷◌, ◌++◌, ◌<◌, List, ℕ, reverse, append_assoc, append-nil, ap, refl, subst, sym, ◌∙◌, arith}
use Rattle.std.proofs.lemmas.List.{reverse-reverse}
use Rattle.aa_glob_nfa.specs.Graphs.{AreBytes}
use Rattle.aa_glob_paths.specs.Found.{IsFoundBehind}
use Rattle.aa_glob_paths.specs.declared.origin.Origin.{Origin}
use Rattle.aa_glob_paths.proofs.TextLemmas.{behind-whole, bytes-reverse}
use Rattle.aa_glob_paths.proofs.sets.Sets.text.Goals as goal

pub loop-at-preserved : goal.loop-at-preserved
loop-at-preserved c =
    let found = c.args.self.now in
    let at = c.loop-at.at in
    let text = c.loop-at.text.items in
    let some : 0 < at = omega arith in
    let come = c.requires.found.2.each at some c.loop-at.invariant.within in
    let earlier = subst (λ (o : Origin). o.from < at) (sym c.origin-origin.ensures) come.earlier in
    record {
      within = omega (arith, earlier, c.loop-at.invariant.within);
      behind = λ past behind.
          let here = subst (λ (o : Origin). IsFoundBehind found o.from past → IsFoundBehind found at (o.byte ∷ past)) (sym c.origin-origin.ensures) (λ before. (some, refl, before)) in
          subst (IsFoundBehind found c.args.number) (sym (ap (λ (l : List ℕ). l ++ past) c.in_ok-push.ensures.items ∙ append_assoc text (c.origin-origin.result.byte ∷ []) past))
          (c.loop-at.invariant.behind (c.origin-origin.result.byte ∷ past) (here behind));
    }

pub returns-clause-behind : goal.returns-clause-behind
returns-clause-behind c =
    let text = c.loop-at.text.items in
    let first : c.loop-at.at ≡ 0 = omega arith in
    subst (IsFoundBehind c.args.self.now c.args.number)
    (append-nil text ∙ sym (ap reverse c.reverse.ensures.items ∙ reverse-reverse text))
    (c.loop-at.invariant.behind [] first)

pub returns-clause-bytes : goal.returns-clause-bytes
returns-clause-bytes c =
    let text = c.reverse.new.self.items in
    let found = c.requires.found in
    subst AreBytes (reverse-reverse text)
    (bytes-reverse (reverse text) (behind-whole found.0 found.1 c.args.self.now found.2 (reverse text) c.args.number c.requires.within (returns-clause-behind c)).0)

pub returns-clause-leads : goal.returns-clause-leads
returns-clause-leads c = λ g room are.
    (behind-whole g room c.args.self.now are (reverse c.reverse.new.self.items) c.args.number c.requires.within (returns-clause-behind c)).1
