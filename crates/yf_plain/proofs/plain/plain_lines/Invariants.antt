use Rattle.std.proofs.Common.{◌≡◌, ◌-◌, pos, length, List, ℕ, encode_utf8_all}
use Rattle.std.specs.Str.{IsCharBoundary}
use Rattle.std.specs.String.{string_bytes}
use Rattle.yf_chars.specs.Chain.{Stuck}
use Rattle.yf_plain.specs.Plain.{PlainItem}
use Rattle.yf_plain.proofs.LineLemmas.{PlainSteps}
use Rattle.yf_plain.proofs.plain.plain_lines.Given as goal

abbrev pub invariant-lines : goal.invariant-lines
invariant-lines l = record {
  read : (x : List ℕ) × (string_bytes l.text ≡ encode_utf8_all x) × PlainSteps l.s (pos l.width) l.ctx l.at l.end x;
  all : Stuck (PlainItem l.s l.ctx l.end);
  boundary : IsCharBoundary l.s l.end;
}

abbrev pub decreases-lines : goal.decreases-lines
decreases-lines l = length l.s - l.end
