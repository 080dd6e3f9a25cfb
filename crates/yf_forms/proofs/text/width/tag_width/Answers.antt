use Rattle.std.proofs.Common.{[], refl}
use Rattle.std.proofs.lemmas.Str.{IsUtf8-append, IsUtf8-nil}
use Rattle.yf_forms.proofs.Measure.StepLemmas.{both_wide, sign_wide, verbatim_utf8, verbatim_wide}
use Rattle.yf_forms.proofs.Texts.WidthLemmas.{utf8_head}
use Rattle.yf_forms.proofs.text.width.tag_width.Goals as goal

pub returns-in-Verbatim-clause-width : goal.returns-in-Verbatim-clause-width
returns-in-Verbatim-clause-width c =
    rw c.in-Verbatim.is (verbatim_wide c.in-Verbatim.name.now c.char_count.result c.saturating_add.result c.char_count.ensures.utf8 c.char_count.ensures.count c.saturating_add.ensures)

pub returns-in-Verbatim-clause-utf8 : goal.returns-in-Verbatim-clause-utf8
returns-in-Verbatim-clause-utf8 c = rw c.in-Verbatim.is (verbatim_utf8 c.in-Verbatim.name.now c.char_count.ensures.utf8)

pub returns-in-Short-clause-width : goal.returns-in-Short-clause-width
returns-in-Short-clause-width c =
    rw c.in-Short.is (both_wide c.in-Short.handle.now c.in-Short.suffix.now c.char_count-in-Short.result c.char_count-in-Short-2.result c.saturating_add-in-Short.result c.char_count-in-Short.ensures.utf8
    c.char_count-in-Short.ensures.count c.char_count-in-Short-2.ensures.count c.saturating_add-in-Short.ensures)

pub returns-in-Short-clause-utf8 : goal.returns-in-Short-clause-utf8
returns-in-Short-clause-utf8 c =
    rw c.in-Short.is (IsUtf8-append c.in-Short.handle.now c.in-Short.suffix.now c.char_count-in-Short.ensures.utf8 c.char_count-in-Short-2.ensures.utf8)

pub returns-in-NonSpecific-clause-width : goal.returns-in-NonSpecific-clause-width
returns-in-NonSpecific-clause-width c = rw c.in-NonSpecific.is sign_wide

pub returns-in-NonSpecific-clause-utf8 : goal.returns-in-NonSpecific-clause-utf8
returns-in-NonSpecific-clause-utf8 c = rw c.in-NonSpecific.is (utf8_head 33 [] refl IsUtf8-nil)
