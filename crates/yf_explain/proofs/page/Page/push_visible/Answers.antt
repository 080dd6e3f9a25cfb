use Rattle.std.proofs.lemmas.Str.{IsUtf8-string_bytes}
use Rattle.std.specs.Result.{is_ok}
use Rattle.yf_explain.proofs.PageLemmas.{still_written, was_added}
use Rattle.yf_explain.proofs.page.Page.push_visible.Goals as goal

pub invariant_of-self : goal.invariant_of-self
invariant_of-self c =
    still_written _ c.args.c (IsUtf8-string_bytes c.self.inside.string) c.ranges.c.0 (is_ok c.push.result) _ c.push.ensures.bytes c.self.invariant c.requires

pub returns : goal.returns
returns c = was_added _ c.args.c (IsUtf8-string_bytes c.self.inside.string) c.ranges.c.0 c.push.result _ _ c.push.ensures.bytes c.self.view_is
