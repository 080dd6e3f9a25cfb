use Rattle.std.proofs.Common.{◌≡◌, ◌++◌, drop}
use Rattle.yf_lines.specs.Output.{texts}
use Rattle.yf_findings.proofs.lines.push_texts.Given as goal

abbrev pub invariant-loop-part : goal.invariant-loop-part
invariant-loop-part l = l.out.items ++ texts (drop l.part-index l.parts) ≡ l.initial.out.items ++ texts l.parts
