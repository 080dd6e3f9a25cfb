-- The added bytes and the remaining ones make the whole.
use Rattle.std.proofs.Common.{◌≡◌, ◌++◌, drop}
use Rattle.yf_rules.specs.Quoted.{all_escaped}
use Rattle.yf_rules.proofs.quoted.push_escaped.Given as goal

abbrev pub invariant-loop-byte : goal.invariant-loop-byte
invariant-loop-byte l = l.text.items ++ all_escaped (drop l.byte-index l.name) ≡ l.fn.text.items ++ all_escaped l.name
