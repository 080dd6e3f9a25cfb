use Rattle.yf_stream.proofs.Reader.MarkerLemmas.{dash_sign, dot_sign, no_sign}
use Rattle.yf_stream.proofs.documents.marker_at.Goals as goal

pub returns-then-is_char_at-clause-marker : goal.returns-then-is_char_at-clause-marker
returns-then-is_char_at-clause-marker c = (c.if-is_forbidden_at.ensures, dash_sign c.args.text.now c.args.at c.if-is_forbidden_at.ensures c.if-is_char_at.ensures.cases.char)

pub returns-then-is_char_at-2-clause-marker : goal.returns-then-is_char_at-2-clause-marker
returns-then-is_char_at-2-clause-marker c = (c.if-is_forbidden_at.ensures, dot_sign c.args.text.now c.args.at c.if-is_forbidden_at.ensures c.if-is_char_at-2.ensures.cases.char)

pub returns-else-is_char_at-2-clause-marker : goal.returns-else-is_char_at-2-clause-marker
returns-else-is_char_at-2-clause-marker c = λ f. no_sign c.args.text.now c.args.at f c.if-is_char_at.ensures.cases c.if-is_char_at-2.ensures.cases
