-- The promises of every step of the reader that begins at an offset with its task: the next step is tied to the
-- recursive reader, less of the text is left, and at most as many collections are open as openers were read.
use Rattle.std.specs.Prelude.{◌≡◌, ℕ, ◌^◌, ◌<◌, List, length, reverse, Result, IfOk}
use Rattle.std.specs.Str.{IsUtf8}
use Rattle.std.specs.declared.alloc.AllocError.{AllocError}
use Rattle.yf_events.specs.declared.part.Part.{Part}
use Rattle.yf_grammar.specs.BlockReader.BlockParser.{BlockTask}
use Rattle.yf_block.specs.declared.frame.Frame.{Frame}
use Rattle.yf_block.specs.declared.frame.BlockCursor.{BlockCursor}
use Rattle.yf_block.specs.declared.frame.BlockReader.{BlockReader}
use Rattle.yf_block.specs.declared.frame.BlockContext.{BlockContext}
use Rattle.yf_block.specs.declared.frame.Step.{Step}
use Rattle.yf_block.specs.BlockStepTied.{BlockTied}
use Rattle.yf_block.specs.Counted.{StepCounted}
use Rattle.yf_block.specs.Machine.{IsLess}

pub record StepPromises (Task : List ℕ → ℕ → BlockTask → Part → List Frame → ℕ → BlockCursor → Part → Type 0) (Count : List ℕ → ℕ → ℕ → ℕ → Type 0)
    (scope : BlockContext) (at more : ℕ) (old new : BlockReader) (result : Result Step AllocError) : Type 0 where
  pub tied : (d : ℕ) (root : BlockTask) (before : Part) → d < 2 ^ 64 → d ≡ scope.limit
      → Task scope.text.now d root before (reverse old.frames.items) at old.progress old.part
      → IfOk result (λ s. BlockTied scope.text.now d root before (reverse new.frames.items) s new.progress new.part)
  pub stepped : IfOk result (IsLess scope.text.now at more new)
  pub counted : IsUtf8 scope.text.now → (total : ℕ) → Count scope.text.now total (length old.frames.items) at
      → IfOk result (λ s. StepCounted scope.text.now scope.limit total (length new.frames.items) s)
