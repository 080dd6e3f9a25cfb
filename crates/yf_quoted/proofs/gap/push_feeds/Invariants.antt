use Rattle.std.proofs.Common.{◌≡◌, ◌++◌}
use Rattle.std.specs.String.{string_bytes}
use Rattle.yf_lines.specs.Fold.{line_feeds}
use Rattle.yf_quoted.proofs.gap.push_feeds.Given as goal

abbrev pub invariant-feeds : goal.invariant-feeds
invariant-feeds l = string_bytes l.text ≡ string_bytes l.initial.text ++ line_feeds l.counter
