-- The output of the run over some lines, and the reason if it is refused.
use Rattle.std.proofs.Common.{◌≡◌, ℕ, Bool, List, subst}
use Rattle.std.proofs.lemmas.Result.{IfErr-weaker, IfOk-weaker}
use Rattle.std.specs.Prelude.{IfErr, IfOk, Result}
use Rattle.yf_forms.specs.declared.style.Style.{Style}
use Rattle.yf_lines.specs.declared.fault.Fault.{Fault}
use Rattle.yf_lines.specs.declared.fault.Fault.TheVariants.{Memory, WriteFailed}
use Rattle.yf_rules.proofs.Runs.GivenTexts.{left_of}
use Rattle.yf_rules.specs.Runs.ByteStream.{ByteStream}
use Rattle.yf_rules.specs.Runs.Run.{Gave, RefusedRun}
use Rattle.yf_parts.specs.PartRun.{IsPart, PartBroke, PartRun}
use Rattle.yf_parts.specs.Shown.{IsShown, NotShown, ShowBroke}
use Rattle.yf_line_ranges.specs.declared.range.LineRange.{LineRange}
use Rattle.yf_parts.specs.declared.run.PartTask.{PartTask}

-- (lines, w: the lines and the part as they were passed on)
module _ (task : PartTask) (name : List ℕ) (style : Style) (input before after : ByteStream) {t v w : List ℕ}
    {lines : List LineRange} (gave : Gave input.contents t) (same : lines ≡ task.lines.items)
    (of_text : IsPart style lines t v) (is : w ≡ v) where
  part_is : IsPart style task.lines.items t v
  part_is = subst (λ z. IsPart style z t v) same of_text

  pub part_run : (result : Result Bool Fault) → IfOk result (IsShown task.show name t w before after)
      → IfOk result (PartRun task name style input before after)
  part_run result = IfOk-weaker result _ _ (λ good shown. record {
    text = t;
    part = v;
    gave = gave;
    of_text = part_is;
    shown = subst (λ z. IsShown task.show name t z before after good) is shown;
  })

  refused_by : {failed : Bool} → failed ≡ input.failed → (fault : Fault)
      → NotShown (ShowBroke task.show name t w before after) before after fault
      → RefusedRun (PartBroke task name style input before after) input (left_of input failed) before after fault
  refused_by works WriteFailed broke = (
    record {
      text = t;
      part = v;
      gave = gave;
      of_text = part_is;
      broke = subst (λ z. ShowBroke task.show name t z before after) is broke;
    },
    works,
  )
  refused_by works Memory none = (works, none)
  refused_by works _ none = absurd none

  pub part_refused : {failed : Bool} → failed ≡ input.failed → (result : Result Bool Fault)
      → IfErr result (NotShown (ShowBroke task.show name t w before after) before after)
      → IfErr result
      (λ fault. RefusedRun (PartBroke task name style input before after) input (left_of input failed) before after fault)
  part_refused works result = IfErr-weaker result _ _ (refused_by works)
