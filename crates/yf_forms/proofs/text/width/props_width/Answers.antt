use Rattle.yf_forms.proofs.Measure.StepLemmas.{spaced_wide}
use Rattle.yf_forms.proofs.Texts.WidthLemmas.{utf8_spaced}
use Rattle.yf_forms.proofs.text.width.props_width.Goals as goal

pub returns-clause-width : goal.returns-clause-width
returns-clause-width c =
    spaced_wide _ _ c.anchor_width.result c.optional_tag_width.result c.joined_width.result c.anchor_width.ensures.utf8 c.optional_tag_width.ensures.utf8
    c.anchor_width.ensures.width c.optional_tag_width.ensures.width c.joined_width.ensures

pub returns-clause-utf8 : goal.returns-clause-utf8
returns-clause-utf8 c = utf8_spaced _ _ c.anchor_width.ensures.utf8 c.optional_tag_width.ensures.utf8
