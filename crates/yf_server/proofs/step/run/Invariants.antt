-- The remaining messages lead to the result of all, and the responses so far and those still wanted are all responses.
use Rattle.std.proofs.Common.{◌≡◌, ℕ, List, ◌++◌, drop, map, take}
use Rattle.serde_json.specs.View.{view}
use Rattle.yf_server.specs.Steps.{Steps, after_messages, knows, response_ids, wanted_ids}
use Rattle.yf_server.proofs.step.run.Given as goal

abbrev pub invariant-loop-value : goal.invariant-loop-value
invariant-loop-value g l = record {
  steps : Steps (g.A.Analysis.claim l.analysis) l.fn.server (map view (take l.value-index l.received))
      (map view l.sent.items) l.server;
  known : (uri : List ℕ) → after_messages uri (knows uri l.server) (map view (drop l.value-index l.received))
      ≡ after_messages uri (knows uri l.fn.server) (map view l.received);
  answered : response_ids (map view l.sent.items) ++ wanted_ids (map view (drop l.value-index l.received))
      ≡ wanted_ids (map view l.received);
}
