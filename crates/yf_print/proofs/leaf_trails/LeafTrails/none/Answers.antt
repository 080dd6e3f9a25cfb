use Rattle.std.proofs.Common.{◌∙◌, ap, map}
use Rattle.yf_print.specs.Layouts.LeafTrails.{counted}
use Rattle.yf_print.proofs.Pass.LeafTrailLemmas.{none_counted}
use Rattle.yf_print.proofs.leaf_trails.LeafTrails.none.Goals as goal

pub returns : goal.returns
returns c = ap (map counted) (c.in_ok-list.ensures.items_if_clones_equal (λ y q. q)) ∙ none_counted c.args.count
