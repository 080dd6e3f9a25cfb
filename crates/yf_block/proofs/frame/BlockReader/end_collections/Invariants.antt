use Rattle.std.proofs.Common.{◌≤◌, ℕ, length, reverse}
use Rattle.yf_events.specs.declared.part.Part.{Part}
use Rattle.yf_grammar.specs.BlockReader.BlockParser.{BlockTask}
use Rattle.yf_block.specs.BlockStepTied.{AtResume}
use Rattle.yf_block.specs.Machine.{IsReaderReady}
use Rattle.yf_block.proofs.frame.BlockReader.end_collections.Given as goal

abbrev pub decreases-frames : goal.decreases-frames
decreases-frames l = length l.self.frames.items

abbrev pub invariant-frames : goal.invariant-frames
invariant-frames l = record {
  standing : IsReaderReady l.scope.text.now l.at l.self;
  fewer : length l.self.frames.items ≤ length l.initial.self.frames.items;
  tied : (d : ℕ) (root : BlockTask) (before : Part) → AtResume l.scope.text.now d root before (reverse l.initial.self.frames.items) l.at l.initial.self.progress l.initial.self.part
      → AtResume l.scope.text.now d root before (reverse l.self.frames.items) l.at l.self.progress l.self.part;
}
