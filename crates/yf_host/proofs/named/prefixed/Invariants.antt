-- The text so far and the remaining bytes, with the prefix before their lines, make up the whole result.
use Rattle.std.proofs.Common.{◌≡◌, ◌++◌, drop}
use Rattle.yf_host.specs.Named.{prefixed}
use Rattle.yf_host.proofs.named.prefixed.Given as goal

abbrev pub invariant-loop-byte : goal.invariant-loop-byte
invariant-loop-byte l = l.all.items ++ prefixed l.prefix l.before (drop l.byte-index l.text) ≡ prefixed l.prefix 10 l.text
