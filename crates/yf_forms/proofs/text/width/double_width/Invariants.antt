use Rattle.std.proofs.Common.{◌≡◌, ◌+◌, flat_map, length}
use Rattle.yf_chars.specs.Escape.{spelled}
use Rattle.yf_forms.specs.NormalForms.Measures.{up_to_greatest}
use Rattle.yf_forms.proofs.text.width.double_width.Given as goal

abbrev pub invariant-loop-c : goal.invariant-loop-c
invariant-loop-c l = l.width ≡ up_to_greatest (2 + length (flat_map spelled l.yielded))
