use Rattle.std.proofs.Common.{rules}
use Rattle.clap.specs.Words.{found_of, rows_of}
use Rattle.yf_command_line.proofs.RequestLemmas.{two_settings}
use Rattle.yf_command_line.proofs.command_line.request_met.Goals as goal

pub returns : goal.returns
returns c = record {
  name = c.in-Some.met.0.now;
  given = rows_of (found_of c.in-Some.met.1.now);
  named = search rules;
  command = c.in-Ok.ensures;
  settings = c.in-Ok-settings_met.ensures;
  shows = c.is_given.ensures;
  explain = c.is_explained.ensures;
  any_text = c.is_given-2.ensures;
  names = c.is_given-3.ensures;
  stdin_name = c.in_ok-stdin_name.ensures;
}

pub returns-in-Err-settings_met : goal.returns-in-Err-settings_met
returns-in-Err-settings_met c =
    two_settings _ _ _ c.in-Some.met.0.now (rows_of (found_of c.in-Some.met.1.now)) c.in-Ok.command _ (search rules)
    c.in-Ok.ensures c.in-Err-settings_met.ensures
