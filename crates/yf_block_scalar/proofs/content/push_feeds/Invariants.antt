use Rattle.std.proofs.Common.{◌≡◌, ◌++◌}
use Rattle.std.specs.String.{string_bytes}
use Rattle.yf_block_scalar.specs.Content.{feeds}
use Rattle.yf_block_scalar.proofs.content.push_feeds.Given as goal

abbrev pub invariant-loop-done : goal.invariant-loop-done
invariant-loop-done l = string_bytes l.text ≡ string_bytes l.initial.text ++ feeds l._done
