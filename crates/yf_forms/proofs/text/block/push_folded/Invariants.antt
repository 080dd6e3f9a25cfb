use Rattle.std.proofs.Common.{◌≡◌, ◌++◌, drop, flat_map, map}
use Rattle.std.specs.String.{string_bytes}
use Rattle.yf_forms.specs.Nodes.BlockLines.{line_at}
use Rattle.yf_forms.specs.Nodes.Lines.{ended}
use Rattle.yf_forms.proofs.text.block.push_folded.Given as goal

abbrev pub invariant-loop-line : goal.invariant-loop-line
invariant-loop-line l =
    string_bytes l.out ++ flat_map ended (map (line_at l.column) (map (λ line. line.now) (drop l.line-index l.lines)))
    ≡ string_bytes l.initial.out ++ flat_map ended (map (line_at l.column) (map (λ line. line.now) l.lines))
