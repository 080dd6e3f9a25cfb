use Rattle.std.proofs.Common.{arith}
use Rattle.yf_stream.proofs.TagPass.BareRuns.{all_then}
use Rattle.yf_stream.proofs.TagPass.PassLemmas.{document_passed}
use Rattle.yf_stream.proofs.TagPass.PassSteps.{event_at, named_passed, none_starts, passing_step, starts_at}
use Rattle.yf_stream.proofs.resolve.resolve_from.Goals as goal

pub events-init : goal.events-init
events-init c = record {
  passed = c.in_ok-at.ensures.passed.passed c.declare_handles.new.handles _ _;
  later = c.in_ok-at.ensures.end.0;
  within = c.in_ok-at.ensures.end.1;
}

pub events-preserved : goal.events-preserved
events-preserved c =
    let event = event_at c.args.events.now c.events.at (omega (arith, c.len.ensures, c.events-test.true)) c.event.ensures in
    record {
      passed = all_then (passing_step c.events.invariant.passed c.document_starts.ensures c.if-document_starts.false
          (named_passed c.in_ok-add_tag.ensures event c.start_of.ensures c.in_ok-note_event.ensures.found c.in_ok-note_event.ensures.names))
          (c.in_ok-at-2.ensures.passed.passed c.declare_handles.new.handles _ _);
      later = omega (arith, c.in_ok-at-2.ensures.end.0, c.events.invariant.later);
      within = c.in_ok-at-2.ensures.end.1;
    }

pub returns-then-document_starts : goal.returns-then-document_starts
returns-then-document_starts c =
    let next = starts_at c.document_starts.ensures c.if-document_starts.true in
    record {
      end = (c.events.invariant.later, c.events.invariant.within);
      next = next;
      resolves = document_passed c.requires.handles c.requires.anchors c.in_ok-declare_handles.ensures.handles c.in_ok-declare_handles.ensures.found next c.events.invariant.passed;
    }

pub returns : goal.returns
returns c =
    let next = none_starts c.args.events.now c.events.at (omega (arith, c.len.ensures, c.events-test.false)) in
    record {
      end = (c.events.invariant.later, c.events.invariant.within);
      next = next;
      resolves = document_passed c.requires.handles c.requires.anchors c.in_ok-declare_handles.ensures.handles c.in_ok-declare_handles.ensures.found next c.events.invariant.passed;
    }
