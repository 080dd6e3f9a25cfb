use Rattle.std.proofs.Common.{sym, ◌∙◌}
use Rattle.yf_rule_sets.specs.Passes.ScalarLines.IsContent.{no_block}
use Rattle.yf_rule_sets.proofs.Texts.ScalarLemmas.{block_content_is}
use Rattle.yf_rule_sets.proofs.facts.scalars.block_content.Goals as goal

pub returns-then-not-is_block_style : goal.returns-then-not-is_block_style
returns-then-not-is_block_style c = no_block (sym c.is_block_style.ensures ∙ c.if-not-is_block_style.true)

pub returns : goal.returns
returns c = block_content_is _ _ _ _ c.content_of.result (sym c.is_block_style.ensures ∙ c.if-not-is_block_style.false) c.content_of.ensures
