use Rattle.aatry_changes.proofs.LawLemmas.{old-untold}
use Rattle.aatry_changes.proofs.laws.what_is_not_told_answers_alike.Goals as goal

pub returns-clause-of_a_part : goal.returns-clause-of_a_part
returns-clause-of_a_part c new part none =
    let (other, found, alike) = c.when_nothing_is_told.ensures.only_of_alike new part none in
    let law = c.sections_alike_answer_alike.ensures in (
      other,
      found,
      record {
        mode = (law.head part.section other.section alike).mode;
        verdicts = λ mediation request. law.same_verdict part.section other.section mediation request alike;
        choices = λ owned path agrees read bytes. law.same_choice part.section other.section owned path alike agrees read bytes;
      },
    )

pub returns-clause-of_all : goal.returns-clause-of_all
returns-clause-of_all c form heads old new part none there =
    let (other, found, alike) = c.when_nothing_is_told.ensures.only_of_alike new part (old-untold form heads old new none part there) in
    let law = c.sections_alike_answer_alike.ensures in (
      other,
      found,
      record {
        mode = (law.head part.section other.section alike).mode;
        verdicts = λ mediation request. law.same_verdict part.section other.section mediation request alike;
        choices = λ owned path agrees read bytes. law.same_choice part.section other.section owned path alike agrees read bytes;
      },
    )
