use Rattle.std.proofs.Common.{◌≡◌, ◌++◌, flat_map, encode_utf8_all}
use Rattle.std.specs.String.{string_bytes}
use Rattle.yf_chars.specs.Hidden.{spelled_out}
use Rattle.yf_quoted.proofs.write.push_each.Given as goal

abbrev pub invariant-loop-c : goal.invariant-loop-c
invariant-loop-c l = string_bytes l.out ≡ string_bytes l.initial.out ++ encode_utf8_all (flat_map spelled_out l.yielded)
