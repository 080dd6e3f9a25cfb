use Rattle.std.proofs.Common.{◌≡◌, drop}
use Rattle.yf_forms.specs.Nodes.BlockLines.{begins_with_space}
use Rattle.yf_forms.proofs.text.block.starts_with_space.Given as goal

abbrev pub invariant-loop-byte : goal.invariant-loop-byte
invariant-loop-byte l = begins_with_space (drop l.byte-index l.text) ≡ begins_with_space l.text
