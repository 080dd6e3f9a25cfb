-- The first input and all inputs up to the index were checked. What was known of the inputs is still known.
use Rattle.std.proofs.Common.{◌∷◌, take}
use Rattle.yf_rules.specs.Runs.ByteStream.{stream_of}
use Rattle.yf_program.specs.Reports.{GivesEach, state_in}
use Rattle.yf_host.specs.World.{StillKnown}
use Rattle.yf_program.proofs.reports.give_each.Given as goal

abbrev pub invariant-loop-input : goal.invariant-loop-input
invariant-loop-input g l = record {
  given : GivesEach (g.I.Inputs.claim l.fn.inputs) l.scope l.task
      (state_in g.I.Inputs.opened l.fn.inputs l.fn.files.items (stream_of g.E.Write.contents g.E.Sink.has_failed l.fn.error_stream))
      (l.list.first ∷ take l.input-index l.list.rest.items) l.greatest
      (state_in g.I.Inputs.opened l.inputs l.files.items (stream_of g.E.Write.contents g.E.Sink.has_failed l.error_stream));
  same : StillKnown (g.I.Inputs.claim l.fn.inputs) (g.I.Inputs.claim l.inputs);
}
