use Rattle.std.proofs.Common.{refl}
use Rattle.yf_rules.proofs.Findings.AllRulesLemmas.{rules_are_listed}
use Rattle.yf_rules.proofs.Findings.TextSets.{sets_of_texts_are_exact}
use Rattle.yf_rules.proofs.Findings.UniqueFindings.{findings_are_one}
use Rattle.yf_rules.proofs.HeadlineHolds.{formatted_texts_are_clean}
use Rattle.yf_rules.proofs.headline.headline.Goals as goal

pub returns : goal.returns
returns c = record {
  standard = c.texts_are_read_and_formatted.ensures.standard;
  meant = c.texts_are_read_and_formatted.ensures.meant;
  letter = c.texts_are_read_and_formatted.ensures.letter;
  told = c.texts_are_read_and_formatted.ensures.told;
  derived = c.texts_are_read_and_formatted.ensures.derived;
  one = c.texts_are_read_and_formatted.ensures.one;
  textual = c.texts_are_read_and_formatted.ensures.textual;
  accepted = c.texts_are_read_and_formatted.ensures.accepted;
  refused = c.texts_are_read_and_formatted.ensures.refused;
  streams = c.meaning_laws.ensures.streams;
  readings = c.meaning_laws.ensures.readings;
  formatted = c.texts_are_read_and_formatted.ensures.formatted;
  starts = c.settings_are_kept.ensures.starts;
  spelled = c.settings_are_kept.ensures.spelled;
  escaped = c.settings_are_kept.ensures.escaped;
  found = c.settings_are_kept.ensures.found;
  blocks = c.settings_are_kept.ensures.blocks;
  clean = formatted_texts_are_clean c.rules_are_mended.ensures;
  exact = sets_of_texts_are_exact c.texts_are_read_and_formatted.ensures.textual;
  unique = findings_are_one c.texts_are_read_and_formatted.ensures.textual;
  listed = rules_are_listed;
  asked = refl;
}
