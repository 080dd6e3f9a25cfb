use Rattle.std.proofs.Common.{◌≡◌, ◌-◌, ◌≤◌, ℕ, List, length, true, false}
use Rattle.std.specs.Str.{IsCharBoundary}
use Rattle.yf_chars.specs.Chain.{Chain}
use Rattle.yf_chars.specs.Class.{is_ns_char}
use Rattle.yf_chars.specs.Text.{before}
use Rattle.yf_lines.specs.Basic.{is_block}
use Rattle.yf_plain.specs.Plain.{PlainItem}
use Rattle.yf_plain.proofs.plain.ordinary_run.Given as goal

abbrev pub invariant-loop-end : goal.invariant-loop-end
invariant-loop-end l = record {
  flowing : is_block l.fn.ctx ≡ false;
  so_far : (x : List ℕ) × Chain (PlainItem l.s l.fn.ctx) l.at l.end x;
  follows : is_ns_char (before l.s l.end) ≡ true;
  boundary : IsCharBoundary l.s l.end;
  order : l.at ≤ l.end;
}

abbrev pub decreases-loop-end : goal.decreases-loop-end
decreases-loop-end l = length l.s - l.end
