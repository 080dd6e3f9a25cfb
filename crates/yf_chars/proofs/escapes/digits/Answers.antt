use Rattle.std.proofs.Common.{◌≡◌, ap, ◌+◌, ◌<◌, arith, add-zero, sym, subst, ◌∙◌}
use Rattle.std.specs.Char.{digit_value}
use Rattle.std.specs.Str.{IsCharBoundary}
use Rattle.yf_chars.specs.Text.{code, CharAt}
use Rattle.yf_chars.proofs.TextLemmas.{next_ascii}
use Rattle.yf_chars.proofs.EscapeLemmas.{no_digits, more_digits, room_for_digit, digit_below, power_more}
use Rattle.yf_chars.proofs.escapes.digits.Goals as goal

pub loop-index-init : goal.loop-index-init
loop-index-init c = record {
  so_far = no_digits c.args.s.now c.args.at;
  small = omega arith;
  boundary = rw (add-zero c.args.at) c.requires.boundary;
}

pub overflow_mul-value : goal.overflow_mul-value
overflow_mul-value c = let room = room_for_digit c.loop-index.value c.loop-index.index c.loop-index.invariant.small (omega arith) in omega arith

pub overflow_add-value : goal.overflow_add-value
overflow_add-value c =
    let room = room_for_digit c.loop-index.value c.loop-index.index c.loop-index.invariant.small (omega arith) in
    omega (arith, c.in-Some-to_digit.ensures.value)

-- one more digit
pub loop-index-preserved : goal.loop-index-preserved
loop-index-preserved c =
    let at = c.args.at + c.loop-index.index in
    let read : CharAt c.args.s.now at c.in-Some.c c.in-Some.field-0-1 = c.in-Some.ensures in
    let digit = c.in-Some-to_digit.ensures.value in
    let low : code c.args.s.now at < 128 = rw read.char (digit_below c.in-Some.c digit.0) in
    let end : c.in-Some.field-0-1 ≡ at + 1 = sym read.end ∙ next_ascii c.args.s.now at low in
    let same : at + 1 ≡ c.args.at + (c.loop-index.index + 1) = omega arith in
    record {
      so_far = more_digits c.loop-index.invariant.so_far (ap digit_value read.char ∙ sym digit.1) (omega (arith, digit));
      small = rw power_more (omega (arith, digit, c.loop-index.invariant.small));
      boundary = subst (λ j. IsCharBoundary c.args.s.now j) (end ∙ same) read.boundary;
    }
