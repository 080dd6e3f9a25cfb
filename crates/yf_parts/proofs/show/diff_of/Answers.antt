use Rattle.std.proofs.Common.{◌∙◌}
use Rattle.yf_parts.proofs.ShowLemmas.{diff_found}
use Rattle.yf_parts.proofs.show.diff_of.Goals as goal

pub returns : goal.returns
returns c = diff_found _ _ _ _ _ (c.in-Ok.ensures.1 ∙ (c.as_slice.ensures.value ∙ c.in_ok-quoted.ensures))
    c.as_bytes.ensures.value c.as_bytes-2.ensures.value c.new-diff.ensures.items c.in_ok-push_diff.ensures.written
    c.in_ok-push_diff.ensures.told c.in_ok-push_diff.ensures.same
