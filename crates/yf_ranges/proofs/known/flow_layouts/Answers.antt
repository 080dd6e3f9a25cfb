use Rattle.yf_ranges.proofs.KnownLemmas.{details_permuted}
use Rattle.yf_ranges.proofs.known.flow_layouts.Goals as goal

pub returns : goal.returns
returns c =
    let sorted = c.in_ok-sort.ensures in
    record {
      details = λ trees of order. details_permuted _ _ c.args.src.now.text _ _ sorted.same (c.in_ok-details.ensures trees of order);
      sorted = sorted.sorted;
    }
