use Rattle.std.proofs.Common.{◌≡◌, ◌++◌, ◌-◌, length, chars, drop, flat_map, encode_utf8_all}
use Rattle.std.specs.Str.{IsCharBoundary}
use Rattle.std.specs.String.{string_bytes}
use Rattle.yf_chars.specs.Escape.{spelled}
use Rattle.yf_quoted.specs.Written.{BytesGrown}
use Rattle.yf_quoted.proofs.write.push_runs.Given as goal

abbrev pub invariant-runs : goal.invariant-runs
invariant-runs l = record {
  written : string_bytes l.out ++ encode_utf8_all (flat_map spelled (chars (drop l.end l.text))) ≡ string_bytes l.initial.out ++ encode_utf8_all (flat_map spelled (chars l.text));
  grown : BytesGrown (string_bytes l.initial.out) (string_bytes l.out);
  boundary : IsCharBoundary l.text l.end;
}

abbrev pub decreases-runs : goal.decreases-runs
decreases-runs l = length l.text - l.end
