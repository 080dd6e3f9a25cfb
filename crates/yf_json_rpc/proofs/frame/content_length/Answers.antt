use Rattle.std.proofs.Common.{map, ap, ◌∙◌}
use Rattle.httparse.specs.Spans.{header_bytes}
use Rattle.http1.specs.declared.fields.KnownFields.{KnownFields}
use Rattle.yf_json_rpc.proofs.FrameLemmas.{known_length}
use Rattle.yf_json_rpc.proofs.frame.content_length.Goals as goal

pub returns : goal.returns
returns c = ap (λ (k : KnownFields). k.content_length) c.from_spans.ensures
    ∙ known_length (map (header_bytes c.args.bytes.now) c.args.headers.now)
