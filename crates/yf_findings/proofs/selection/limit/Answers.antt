use Rattle.std.proofs.Common.{ap, ◌∙◌, map}
use Rattle.std.specs.List.{flat_map}
use Rattle.yf_findings.proofs.SelectionLemmas.{first_counted}
use Rattle.yf_findings.specs.Selection.{counted_entries, listed_in}
use Rattle.yf_findings.proofs.selection.limit.Goals as goal

pub returns-clause-first : goal.returns-clause-first
returns-clause-first c =
    ap (flat_map counted_entries) c.cut_all.ensures
    ∙ first_counted c.args.limit (map listed_in c.args.files.now.items)
