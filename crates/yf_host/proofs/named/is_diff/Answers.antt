use Rattle.std.proofs.Common.{◌∙◌}
use Rattle.yf_host.proofs.NamedLemmas.{diff_first, difference_first, finding_first}
use Rattle.yf_host.proofs.named.is_diff.Goals as goal

pub returns-clause-diff : goal.returns-clause-diff
returns-clause-diff c = λ old_name new_name t v d.
    c.begins_with_hyphen.ensures ∙ diff_first old_name new_name t v c.args.output.now d

pub returns-clause-finding : goal.returns-clause-finding
returns-clause-finding c = λ f rest fits same. c.begins_with_hyphen.ensures ∙ finding_first c.args.output.now f rest fits same

pub returns-clause-difference : goal.returns-clause-difference
returns-clause-difference c = λ place fits same. c.begins_with_hyphen.ensures ∙ difference_first c.args.output.now place fits same
