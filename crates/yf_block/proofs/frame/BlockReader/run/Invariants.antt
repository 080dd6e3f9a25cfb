use Rattle.std.proofs.Common.{◌≡◌, ◌^◌, ◌<◌, ℕ, length, reverse}
use Rattle.std.specs.List.{All}
use Rattle.std.specs.Str.{IsCharBoundary, IsUtf8}
use Rattle.yf_events.specs.declared.part.Part.{Part}
use Rattle.yf_grammar.specs.BlockReader.BlockParser.{BlockTask}
use Rattle.yf_block.specs.BlockStepTied.{BlockTied}
use Rattle.yf_block.specs.Counted.{StepCounted}
use Rattle.yf_block.specs.Machine.{ProgressAt, StepReady, left}
use Rattle.yf_block.proofs.frame.BlockReader.run.Given as goal

abbrev pub invariant-steps : goal.invariant-steps
invariant-steps l = record {
  progress : ProgressAt l.scope.text.now l.self.progress;
  ready : StepReady l.scope.text.now 0 l.step;
  escapes : All (IsCharBoundary l.scope.text.now) l.self.part.escapes;
  tied : (d : ℕ) (root : BlockTask) (before : Part) → d < 2 ^ 64 → d ≡ l.scope.limit → BlockTied l.scope.text.now d root before (reverse l.initial.self.frames.items) l.fn.first l.initial.self.progress l.initial.self.part
      → BlockTied l.scope.text.now d root before (reverse l.self.frames.items) l.step l.self.progress l.self.part;
  counted : IsUtf8 l.scope.text.now → (total : ℕ) → StepCounted l.scope.text.now l.scope.limit total (length l.initial.self.frames.items) l.fn.first
      → StepCounted l.scope.text.now l.scope.limit total (length l.self.frames.items) l.step;
}

abbrev pub decreases-steps : goal.decreases-steps
decreases-steps l = left (length l.scope.text.now) l.step
