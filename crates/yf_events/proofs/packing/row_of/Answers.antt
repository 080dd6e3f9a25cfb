use Rattle.std.proofs.lemmas.Result.{err_from_is_err_and}
use Rattle.yf_events.proofs.PackedRows.{made, placed_is, same_table}
use Rattle.yf_events.proofs.packing.row_of.Goals as goal

pub returns-in_err-stretch : goal.returns-in_err-stretch
returns-in_err-stretch c =
    let p = err_from_is_err_and c.from_residual.result c.from_residual.ensures.1 in
    record { grown = same_table _; row = rw p.1 tt }

pub returns-in_err-beginning : goal.returns-in_err-beginning
returns-in_err-beginning c =
    let p = err_from_is_err_and c.from_residual-in_err-beginning.result c.from_residual-in_err-beginning.ensures.1 in
    record { grown = same_table _; row = rw p.1 tt }

pub returns-in_err-more : goal.returns-in_err-more
returns-in_err-more c =
    let p = err_from_is_err_and c.from_residual-in_err-more.result c.from_residual-in_err-more.ensures.1 in
    record { grown = c.kept.ensures.grown; row = rw p.1 tt }

pub returns : goal.returns
returns c = record {
  grown = c.kept.ensures.grown;
  row =
      made _ _ _ _ c.in_ok-more.ensures.kept (placed_is _ _ _ _ _ _ _ _ c.taken_apart-taken.ensures c.in_ok-stretch.ensures c.in_ok-beginning.ensures);
}
