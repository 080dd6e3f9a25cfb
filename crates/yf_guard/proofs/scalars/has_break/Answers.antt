use Rattle.std.proofs.Common.{◌≡◌, ◌∙◌, ℕ, Bool, ap, length, min}
use Rattle.std.specs.List.{list_any}
use Rattle.std.specs.Prelude.{◌==◌, ◌||◌, slice_range}
use Rattle.yf_guard.proofs.ByteLemmas.{break_range, no_range}
use Rattle.yf_guard.proofs.scalars.has_break.Goals as goal

abbrev is_break_byte : ℕ → Bool
is_break_byte b = (b == 10) || (b == 13)

pub returns-then-from-stop : goal.returns-then-from-stop
returns-then-from-stop c =
    no_range is_break_byte c.args.text.now c.args.from c.args.end c.min-stop.result
    (c.min-stop.ensures ∙ ap (λ xs. min c.args.end (length xs)) c.as_bytes-bytes.ensures.value) c.if-from-stop.true

pub returns : goal.returns
returns c =
    break_range is_break_byte c.args.text.now c.args.from c.args.end c.min-stop.result c.has_break_byte.result
    (c.min-stop.ensures ∙ ap (λ xs. min c.args.end (length xs)) c.as_bytes-bytes.ensures.value) c.if-from-stop.false
    (c.has_break_byte.ensures ∙ ap (λ xs. list_any is_break_byte (slice_range xs c.args.from c.min-stop.result)) c.as_bytes-bytes.ensures.value)
