-- A borrowed section of the code, as the definitions see it.
use Rattle.aa_decide_ready.specs.Sections.{Section}
use Rattle.aa_decide_ready.specs.declared.section.ReadySection.{ReadySection}

-- the section that the code's section stands for
abbrev pub seen_section : ReadySection → Section
seen_section section = record {
  audit = section.audit;
  rules = section.rules.now;
  attachments = section.attachments.now;
}
