use Rattle.std.proofs.Common.{refl}
use Rattle.yf_forms.proofs.Measure.StepLemmas.{head_wide, nil_wide}
use Rattle.yf_forms.proofs.Texts.WidthLemmas.{utf8_head}
use Rattle.yf_forms.proofs.text.width.anchor_width.Goals as goal

pub returns-in-Some-clause-width : goal.returns-in-Some-clause-width
returns-in-Some-clause-width c =
    rw c.in-Some.is (head_wide 38 c.in-Some.name.now c.char_count.result c.saturating_add.result refl c.char_count.ensures.count c.saturating_add.ensures)

pub returns-in-Some-clause-utf8 : goal.returns-in-Some-clause-utf8
returns-in-Some-clause-utf8 c = rw c.in-Some.is (utf8_head 38 c.in-Some.name.now refl c.char_count.ensures.utf8)

pub returns-in-None-clause-width : goal.returns-in-None-clause-width
returns-in-None-clause-width c = rw c.in-None.is nil_wide
