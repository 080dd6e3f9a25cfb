-- A run of the reader of block nodes, from the state in which it stops.
use Rattle.std.proofs.Common.{◌≡◌, ℕ, ◌<◌, ℤ, true, List, sym, ◌∙◌, subst, true≢false, arith}
use Rattle.yf_chars.specs.declared.context.Ctx.{Ctx}
use Rattle.yf_events.specs.declared.part.Part.{Part}
use Rattle.yf_grammar.specs.BlockReader.BlockParser.{BlockTask}
use Rattle.yf_block.specs.declared.frame.BlockCursor.{BlockCursor}
use Rattle.yf_block.specs.declared.frame.Step.{Step}
use Rattle.yf_block.specs.declared.frame.Step.TheVariants.{Node, Line, Resume, Done as DoneStep, Failed as FailedStep, TooDeep as TooDeepStep}
use Rattle.yf_block.specs.declared.nodes.Stop.{Stop}
use Rattle.yf_block.specs.declared.nodes.Stop.TheVariants.{Done, Failed, TooDeep}
use Rattle.yf_block.specs.declared.nodes.Stopped.{Stopped}
use Rattle.yf_flow.specs.Depth.{openers_from}
use Rattle.yf_block.specs.declared.nodes.BlockOutcome.{BlockOutcome}
use Rattle.yf_block.specs.Machine.{StepReady, StopAt, OutcomeAt}
use Rattle.yf_block.specs.NodeGiven.{NoneTied, OutcomeTied}
use Rattle.yf_block.specs.RunTied.{StopTied, StopCounted, StopGives, StopsAs, is_too_deep}

module _ (t : List ℕ) (d : ℕ) (root : BlockTask) (before part : Part) (progress : BlockCursor) (r : Stopped) where
  pub stop_gives : (s : Stop) → r.halt ≡ progress.halt → r.floor ≡ progress.floor → StopTied t d root before s progress part → StopGives t d root before s r part
  stop_gives (Done p) e f a = record {
    answer = a.answer;
    halt = a.halt;
    whole = a.whole;
    halts = a.halts;
    end = a.end;
    halted = e ∙ a.halted;
    floor = f ∙ a.read.floor;
    written = a.read.written;
  }
  stop_gives (Failed p) e f a = record { halt = a.halt; unfinished = a.unfinished; halts = a.halts; halted = e ∙ a.halted }
  stop_gives (TooDeep p) e f a = record { halt = a.halt; unfinished = a.unfinished; halts = a.halts; halted = e ∙ a.halted }

-- the outcome if no node ends, and the boundary of its offset
pub none_outcome : {t : List ℕ} {limit : ℕ} {n : ℤ} {c : Ctx} {at : ℕ} (before part : Part) (s : Stop) (o : BlockOutcome) → StopsAs s o → NoneTied t limit n c at
    → StopCounted limit (openers_from t at) s → OutcomeTied t limit n c at before o part
none_outcome {t} {limit} {n} {c} {at} before part (Done p) o e a q = subst (λ z. OutcomeTied t limit n c at before z part) (sym e) a
none_outcome {t} {limit} {n} {c} {at} before part (Failed p) o e a q = subst (λ z. OutcomeTied t limit n c at before z part) (sym e) a
none_outcome {t} {limit} {n} {c} {at} before part (TooDeep p) o e a q = subst (λ z. OutcomeTied t limit n c at before z part) (sym e) (a, q)

-- the limit is only passed with more openers than it
pub deep_stop : {limit total : ℕ} (s : Stop) → StopCounted limit total s → is_too_deep s ≡ true → limit < total
deep_stop (Done p) q e = absurd (true≢false (sym e))
deep_stop (Failed p) q e = absurd (true≢false (sym e))
deep_stop (TooDeep p) q e = q

pub none_place : (t : List ℕ) (at : ℕ) (s : Stop) (o : BlockOutcome) → StopsAs s o → StopAt t s → OutcomeAt t at o
none_place t at (Done p) o e a = subst (λ z. OutcomeAt t at z) (sym e) a
none_place t at (Failed p) o e a = subst (λ z. OutcomeAt t at z) (sym e) a
none_place t at (TooDeep p) o e a = subst (λ z. OutcomeAt t at z) (sym e) a

-- a step from an offset on is one from the start on
pub ready_anywhere : (t : List ℕ) (at : ℕ) (s : Step) → StepReady t at s → StepReady t 0 s
ready_anywhere t at (Node p) r = record { boundary = r.boundary; order = omega arith }
ready_anywhere t at (Line p) r = record { boundary = r.boundary; order = omega arith }
ready_anywhere t at (Resume p) r = record { boundary = r.boundary; order = omega arith }
ready_anywhere t at (DoneStep p) r = r
ready_anywhere t at (FailedStep p) r = r
ready_anywhere t at (TooDeepStep p) r = r
