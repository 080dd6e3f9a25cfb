use Rattle.std.proofs.Common.{[], ap, subst, arith}
use Rattle.yf_stream.specs.TagPass.{FirstOfBoth, FirstOf, PassTags, stream_breaches}
use Rattle.yf_stream.specs.WellFormed.{escape_breaches}
use Rattle.yf_stream.proofs.TagPass.FirstLemmas.{finds_as}
use Rattle.yf_stream.proofs.TagPass.PassLemmas.{resolving_document, resolving_ends, resolving_starts}
use Rattle.yf_stream.proofs.TagPass.PassSteps.{next_document}
use Rattle.yf_stream.proofs.resolve.resolve.Goals as goal

pub documents-init : goal.documents-init
documents-init c = record {
  resolving = resolving_starts (finds_as (ap escape_breaches c.as_slice.ensures) (subst (λ z. FirstOfBoth z c.keep_escapes.new.first (escape_breaches c.as_slice.result.now)) (ap (λ z. z.first) c.requires.nothing) c.keep_escapes.ensures)) (ap (λ z. z.tags) c.requires.nothing) c.in_ok-at.ensures.resolves c.in_ok-at.ensures.next;
  later = omega arith;
  within = c.in_ok-at.ensures.end.1;
}

pub documents-preserved : goal.documents-preserved
documents-preserved c =
    let i = c.documents.invariant in
    let docs = c.as_slice-documents.result.now in
    record {
      resolving = resolving_document i.resolving (omega (arith, c.len.ensures, c.documents-test.true)) c.in_ok-push.ensures
          (next_document docs c.documents.begun c.get.result c.get.ensures.lookup) c.in_ok-at-2.ensures.resolves c.in_ok-at-2.ensures.next;
      later = omega (arith, c.in_ok-at-2.ensures.end.0);
      within = c.in_ok-at-2.ensures.end.1;
    }

pub returns-clause-first : goal.returns-clause-first
returns-clause-first c =
    let ends = resolving_ends c.documents.invariant.resolving (omega (arith, c.len.ensures, c.documents-test.false)) in
    subst (λ z. FirstOf (stream_breaches z c.args.events.now c.args.escapes.now) c.documents.resolved.first) c.as_slice-documents.ensures ends.0

pub returns-clause-tags : goal.returns-clause-tags
returns-clause-tags c =
    let ends = resolving_ends c.documents.invariant.resolving (omega (arith, c.len.ensures, c.documents-test.false)) in
    λ n. subst (λ z. PassTags z [] c.args.events.now c.documents.resolved.tags) c.as_slice-documents.ensures (ends.1 n)
