use Rattle.aatry_diff.proofs.AlikeAnswerLemmas.{answered-same}
use Rattle.aatry_diff.proofs.PolicyLemmas.{AreLaws, policies-alike, rules-read}
use Rattle.aatry_diff.proofs.alike.alike_folders_answer_alike.Goals as goal
use Rattle.aatry_policy.specs.Folders.{policy_in}

pub returns-clause-policies : goal.returns-clause-policies
returns-clause-policies c old new requests alike = policies-alike laws old new requests alike
  where
    laws : AreLaws
    laws = record {
      named = c.who_has_a_full_name.ensures;
      back = c.which_rules_parts_have.ensures.names_lead_back;
      own = c.which_rules_parts_have.ensures.own_rules;
      parts = c.what_folders_load.ensures.parts;
      apart = c.what_folders_load.ensures.names_apart;
      names = c.what_folders_load.ensures.file_names;
      agree = c.what_folders_load.ensures.rules_agree;
      read = c.what_folders_load.ensures.patterns_read;
      heads = c.sections_alike_answer_alike.ensures.head;
      rules = c.sections_alike_answer_alike.ensures.same_rules;
    }

pub returns-clause-every_question : goal.returns-clause-every_question
returns-clause-every_question c old new requests question alike bytes =
    answered-same c.who_has_a_full_name.ensures c.policies_alike_decide_alike.ensures.same_verdict c.policies_alike_decide_alike.ensures.same_start
    (policy_in old) (policy_in new) (policies-alike laws old new requests alike) (rules-read laws old) question bytes
  where
    laws : AreLaws
    laws = record {
      named = c.who_has_a_full_name.ensures;
      back = c.which_rules_parts_have.ensures.names_lead_back;
      own = c.which_rules_parts_have.ensures.own_rules;
      parts = c.what_folders_load.ensures.parts;
      apart = c.what_folders_load.ensures.names_apart;
      names = c.what_folders_load.ensures.file_names;
      agree = c.what_folders_load.ensures.rules_agree;
      read = c.what_folders_load.ensures.patterns_read;
      heads = c.sections_alike_answer_alike.ensures.head;
      rules = c.sections_alike_answer_alike.ensures.same_rules;
    }
