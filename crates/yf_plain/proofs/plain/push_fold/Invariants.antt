use Rattle.std.proofs.Common.{◌≡◌, ◌++◌}
use Rattle.std.specs.String.{string_bytes}
use Rattle.yf_lines.specs.Fold.{line_feeds}
use Rattle.yf_plain.proofs.plain.push_fold.Given as goal

abbrev pub invariant-feeds : goal.invariant-feeds
invariant-feeds l = string_bytes l.text ≡ string_bytes l.initial.text ++ line_feeds l.counter
