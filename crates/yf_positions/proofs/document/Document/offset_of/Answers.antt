use Rattle.std.proofs.Common.{◌≡◌, sym, subst}
use Rattle.std.specs.Str.{IsCharBoundary}
use Rattle.yf_positions.specs.Offsets.{offset_of}
use Rattle.yf_positions.proofs.InverseLemmas.{position_boundary}
use Rattle.yf_positions.proofs.document.Document.offset_of.Goals as goal

pub returns-clause-boundary : goal.returns-clause-boundary
returns-clause-boundary c =
    let exact : c.offset_in.result ≡ offset_of c.args.encoding c.args.self.now c.args.position =
    cc (c.offset_in.ensures.exact, c.line_start-start.ensures.exact, c.as_bytes-bytes.ensures.value, c.self.view_is) in
    subst (λ i. IsCharBoundary c.args.self.now i) (sym exact)
    (position_boundary c.args.encoding c.args.self.now c.args.position)
