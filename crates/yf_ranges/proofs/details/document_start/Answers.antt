use Rattle.std.proofs.Common.{refl, arith}
use Rattle.yf_ranges.proofs.SpanLemmas.{marker_within}
use Rattle.yf_ranges.specs.Details.MarkerDetail.{text_after}
use Rattle.yf_ranges.proofs.details.document_start.Goals as goal

pub returns-then-is_forbidden_at : goal.returns-then-is_forbidden_at
returns-then-is_forbidden_at c =
    let f = c.if-is_forbidden_at.ensures in
    record {
      start = refl;
      order = omega arith;
      within = marker_within c.args.text.now c.args.offset f.marker;
      exact = text_after f refl refl;
    }
