use Rattle.std.proofs.Common.{refl, rules}
use Rattle.std.specs.Str.{IsCharBoundary}
use Rattle.yf_ranges.specs.IndentPass.IndentedAt.{placed, unplaced}
use Rattle.yf_ranges.proofs.SpanLemmas.{character_filled}
use Rattle.yf_ranges.proofs.indentation.detail_if_placed.Goals as goal

pub returns-then-is_char_boundary : goal.returns-then-is_char_boundary
returns-then-is_char_boundary c =
    let b : IsCharBoundary c.args.text.now c.args.fault.offset = search rules in
    let e = c.character_end.ensures in
    placed refl (record { end = e.span; says = refl })
    (record { order = e.order; within = e.within; filled = λ l m. character_filled c.utf8.text b l e.span })

pub returns : goal.returns
returns c = unplaced (search rules)
