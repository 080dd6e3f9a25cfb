use Rattle.yf_laws.proofs.Settings.CommentBlocks.{comments_stay_in_blocks}
use Rattle.yf_laws.proofs.Settings.DocumentStarts.{starts_are_kept}
use Rattle.yf_laws.proofs.Settings.HiddenCharacters.{hidden_are_escaped, hidden_are_found, quotes_are_spelled}
use Rattle.yf_laws.proofs.every_text.settings_are_kept.Goals as goal

pub returns : goal.returns
returns c = record {
  starts = starts_are_kept;
  spelled = quotes_are_spelled;
  escaped = hidden_are_escaped;
  found = hidden_are_found;
  blocks = comments_stay_in_blocks;
}
