use denote.Shadow.{shadow}
use denote.Text.{Utf8}
use Rattle.std.proofs.Common.{◌≡◌, ◌++◌, flat_map, length, map}
use Rattle.std.specs.String.{string_bytes}
use Rattle.yf_forms.specs.Nodes.BlockLines.{cut_at_feeds, line_at}
use Rattle.yf_forms.specs.Nodes.Lines.{ended}
use Rattle.yf_forms.proofs.text.block.push_lines.Given as goal

abbrev pub invariant-loop-line : goal.invariant-loop-line
invariant-loop-line l = record {
  text : shadow (Utf8 l.rest);
  left : string_bytes l.out ++ flat_map ended (map (line_at l.column) (cut_at_feeds l.rest))
      ≡ string_bytes l.initial.out ++ flat_map ended (map (line_at l.column) (cut_at_feeds l.text));
}

abbrev pub decreases-loop-line : goal.decreases-loop-line
decreases-loop-line l = length l.rest
