use Rattle.std.proofs.Common.{◌≡◌, ◌+◌, false, drop, take}
use Rattle.yf_forms.specs.Nodes.ContentStart.{gap_len}
use Rattle.yf_forms.proofs.text.content_start.past_gap.Given as goal

abbrev pub invariant-loop-i : goal.invariant-loop-i
invariant-loop-i l = l.at + gap_len false (drop l.at (take l.stop l.bytes)) ≡ l.i + gap_len l.in_comment (drop l.i (take l.stop l.bytes))
