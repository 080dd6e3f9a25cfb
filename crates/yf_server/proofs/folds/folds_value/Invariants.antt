-- The folds so far.
use Rattle.std.proofs.Common.{◌≡◌, map, take}
use Rattle.std.specs.Prelude.{flat_map}
use Rattle.serde_json.specs.View.{view}
use Rattle.yf_server.specs.Folds.{fold_data, fold_if}
use Rattle.yf_server.proofs.folds.folds_value.Given as goal

abbrev pub invariant-loop-fold : goal.invariant-loop-fold
invariant-loop-fold l = map view l.values.items ≡ map fold_data (flat_map fold_if (take l.fold-index l.table))
