use Rattle.std.proofs.Common.{◌≡◌, false, true, string_bytes, ap, sym, ◌∙◌, arith}
use Rattle.std.specs.Prelude.{bytes_eq}
use Rattle.yf_server.proofs.DocumentLemmas.{find_more, first_here}
use Rattle.yf_server.proofs.documents.place_of.Goals as goal

pub returns-then-eq : goal.returns-then-eq
returns-then-eq c =
    let uri = c.args.uri.now in
    let same : bytes_eq c.args.uri.now (string_bytes c.index-documents-at.result.uri) ≡ true =
    ap (bytes_eq uri) (sym c.as_str.ensures.value) ∙ sym c.eq.ensures ∙ c.if-eq.true in
    first_here c.args.uri.now c.args.documents.now c.loop-at.at c.index-documents-at.result
    c.loop-at-test.true c.index-documents-at.is same c.loop-at.invariant.before

pub loop-at-preserved : goal.loop-at-preserved
loop-at-preserved c =
    let uri = c.args.uri.now in
    let other : bytes_eq c.args.uri.now (string_bytes c.index-documents-at.result.uri) ≡ false =
    ap (bytes_eq uri) (sym c.as_str.ensures.value) ∙ sym c.eq.ensures ∙ c.if-eq.false in
    record {
      bound = omega arith;
      before = find_more c.args.uri.now c.args.documents.now c.loop-at.at c.index-documents-at.result
          c.loop-at-test.true c.index-documents-at.is other c.loop-at.invariant.before;
    }
