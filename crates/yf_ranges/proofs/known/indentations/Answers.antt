use Rattle.yf_ranges.proofs.KnownLemmas.{details_permuted}
use Rattle.yf_ranges.proofs.known.indentations.Goals as goal

pub returns : goal.returns
returns c =
    let told = c.in_ok-details.ensures in
    let sorted = c.in_ok-sort.ensures in
    record {
      details = record {
        columns = told.columns;
        are_columns = told.are_columns;
        details = details_permuted _ _ c.args.src.now.text _ _ sorted.same told.details;
      };
      sorted = sorted.sorted;
    }
