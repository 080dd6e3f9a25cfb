use Rattle.std.proofs.Common.{◌<◌, ap, length, arith}
use Rattle.yf_rule_sets.specs.RuleSets.Documents.{NoMarkerLine}
use Rattle.yf_rule_sets.proofs.RuleSets.DocumentLemmas.{document_answered, document_within}
use Rattle.yf_rule_sets.proofs.Texts.ExactLemmas.{answer_found, all_found_upto}
use Rattle.yf_rule_sets.proofs.rules.document_start.offsets.Goals as goal

pub loop-k-preserved : goal.loop-k-preserved
loop-k-preserved c =
    let t = c.args.src.now.text in
    let r = c.args.reading.now in
    let ds = c.documents-documents.result.now in
    let ms = c.in_ok-markers.markers.items in
    let l : c.loop-k.k < length ds = omega (arith, c.min-k-end.ensures, c.loop-k-test.true) in
    let m : c.loop-k.k < length ms = omega (arith, c.min-k-end.ensures, c.len.ensures, c.loop-k-test.true) in
    answer_found (NoMarkerLine t r c.args.style.now) c.loop-k.k _ _ c.unmarked.result c.loop-k.invariant
    (document_answered t c.text.result.now r c.args.style.now ds ms c.loop-k.k c.index-documents-k.result c.index.result.now c.may_be_bare.result c.unmarked.result c.text.ensures c.may_be_bare.ensures c.documents-documents.ensures
    c.in_ok-markers.ensures l m c.index.ensures c.unmarked.ensures)
    c.in_ok-push_found.ensures

pub returns : goal.returns
returns c =
    let r = c.args.reading.now in
    all_found_upto _ _ c.loop-k.k c.loop-k.offsets.items c.loop-k.invariant (λ k x l p. p)
    (λ k x p. (let h = document_within p in omega (arith, h.0, h.1, c.min-k-end.ensures, c.len.ensures, c.loop-k-test.false, ap length c.documents-documents.ensures, ap length c.in_ok-markers.ensures), p))
