use Rattle.yf_stream.proofs.Reader.MarkerLemmas.{dash_sign}
use Rattle.yf_stream.proofs.Uniqueness.StreamPath.{three_last}
use Rattle.yf_stream.proofs.Reader.StreamUpto.{three_dashes}
use Rattle.yf_stream.proofs.documents.has_dashes.Goals as goal

pub returns-then-is_char_at-clause-marker : goal.returns-then-is_char_at-clause-marker
returns-then-is_char_at-clause-marker c = (c.if-is_forbidden_at.ensures, dash_sign c.args.text.now c.args.at c.if-is_forbidden_at.ensures c.if-is_char_at.ensures.cases.char)

pub returns-then-is_forbidden_at-clause-marker : goal.returns-then-is_forbidden_at-clause-marker
returns-then-is_forbidden_at-clause-marker c = λ f e. c.if-is_char_at.ensures.cases (three_last c.args.text.now c.args.at 45 (three_dashes c.args.text.now c.args.at f e))
