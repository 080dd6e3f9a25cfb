-- The relation of the line after a node to the innermost collection that it does not end.
use Rattle.std.proofs.Common.{◌≡◌, ℕ, List, subst}
use Rattle.yf_events.specs.declared.part.Part.{Part}
use Rattle.yf_grammar.specs.BlockReader.BlockParser.{BlockTask}
use Rattle.yf_block.specs.declared.frame.Frame.{Frame}
use Rattle.yf_block.specs.declared.frame.BlockCursor.{BlockCursor}
use Rattle.yf_block.specs.declared.resume.Fit.{Fit}
use Rattle.yf_block.specs.declared.resume.ResumedFrame.{ResumedFrame}
use Rattle.yf_block.specs.LineFits.{FitsLine}
use Rattle.yf_block.specs.BlockStepTied.{AtFit}

pub fit_line : {t : List ℕ} {d : ℕ} {root : BlockTask} {before part : Part} {frames : List Frame} {at : ℕ} {next : ResumedFrame} {progress : BlockCursor} {v : Fit}
    → AtFit t d root before frames at next progress part → next.fit ≡ v → FitsLine t at next.frame v
fit_line {t} {at = at} {next = next} a q = subst (λ z. FitsLine t at next.frame z) q a.line
