use Rattle.std.proofs.lemmas.Str.{IsUtf8-string_bytes}
use Rattle.yf_findings.proofs.PieceLemmas.{text_added}
use Rattle.yf_findings.proofs.pieces.push_text.Goals as goal

pub returns : goal.returns
returns c = text_added c.push_str.result _ _ c.args.text.now (IsUtf8-string_bytes c.args.out.now) c.push_str.ensures.bytes
