use Rattle.std.proofs.Common.{ℕ, length}
use Rattle.std.specs.List.{All}
use Rattle.std.specs.Str.{IsCharBoundary}
use Rattle.yf_flow.specs.Machine.{left}
use Rattle.yf_flow.specs.StepContract.{At, ReaderCounted, ReaderTied, Ready, Room, SceneRead}
use Rattle.yf_flow.specs.StackMeaning.{Base, AtEntry}
use Rattle.yf_flow.proofs.frame.FlowReader.read_on.Given as goal

abbrev pub invariant-steps : goal.invariant-steps
invariant-steps l = record {
  ready : Ready l.scene.text.now l.at l.self l.step;
  escapes : All (IsCharBoundary l.scene.text.now) l.self.part.escapes;
  tied : (base : Base) → SceneRead l.scene base → At AtEntry l.scene l.initial.self l.at base → ReaderTied l.scene base l.self l.step;
  counted : (total : ℕ) → Room l.scene l.initial.self l.at total → ReaderCounted l.scene total l.self l.step;
}

abbrev pub decreases-steps : goal.decreases-steps
decreases-steps l = left (length l.scene.text.now) l.step
