use Rattle.std.proofs.Common.{◌≡◌, ◌-◌, ◌≤◌, ℕ, List, length, true}
use Rattle.std.specs.Str.{IsCharBoundary}
use Rattle.yf_chars.specs.Chain.{Chain}
use Rattle.yf_chars.specs.Class.{is_ns_char}
use Rattle.yf_chars.specs.Text.{before}
use Rattle.yf_plain.specs.Plain.{PlainItem}
use Rattle.yf_plain.proofs.plain.plain_in_line.Given as goal

abbrev pub invariant-items : goal.invariant-items
invariant-items l = record {
  so_far : (x : List ℕ) × Chain (PlainItem l.s l.ctx) l.at l.end x;
  follows : is_ns_char (before l.s l.end) ≡ true;
  boundary : IsCharBoundary l.s l.end;
  order : l.at ≤ l.end;
}

abbrev pub decreases-items : goal.decreases-items
decreases-items l = length l.s - l.end
