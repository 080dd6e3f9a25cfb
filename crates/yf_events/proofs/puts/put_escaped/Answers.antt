use Rattle.std.proofs.Common.{sym, ◌∙◌}
use Rattle.yf_events.proofs.EscapedRuns.{escaped_plain}
use Rattle.yf_events.proofs.PutLemmas.{puts_same}
use Rattle.yf_events.proofs.puts.put_escaped.Goals as goal

pub returns-then-is_plain : goal.returns-then-is_plain
returns-then-is_plain g c =
    puts_same _ _ _ _ _ _ _ (c.as_bytes-then-is_plain.ensures.value ∙ sym (escaped_plain _ c.args.text.now c.as_bytes.ensures.value c.if-is_plain.ensures)) c.put_text.ensures
