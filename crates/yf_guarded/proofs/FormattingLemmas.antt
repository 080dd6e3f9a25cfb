-- The verdict on a text that is no data, which has no formatting.
use Rattle.std.proofs.Common.{ℕ, List, true}
use Rattle.std.specs.Prelude.{Some}
use Rattle.yf_forms.specs.declared.style.Style.{Style}
use Rattle.yf_guard.specs.declared.guarded.Guarded.{Guarded}
use Rattle.yf_guarded.specs.Formatted.{IsJudgedFormatting, verdict_of}
use Rattle.yf_guarded.specs.Judged.{Guards, IsShownAs}
use Rattle.yf_guarded.specs.declared.formatting.JudgedFormatting.{JudgedFormatting}
use Rattle.yf_guarded.specs.declared.formatting.JudgedFormatting.TheVariants as judged
use Rattle.yf_guarded.specs.declared.read.Verdict.TheVariants as verdict
use Rattle.yf_guarded.proofs.VerdictLemmas.{verdict_shown}

pub fault_judged : (style : Style) (t : List ℕ) (g : Guarded) (j : JudgedFormatting) → Guards true t (Some g) → IsShownAs t g (verdict_of j)
    → IsJudgedFormatting style t j
fault_judged style t g (judged.Passed u) guards shown = absurd shown
fault_judged style t g judged.Encrypted guards shown = (verdict_shown true t g verdict.Encrypted guards shown, tt)
fault_judged style t g (judged.NoData f) guards shown = (verdict_shown true t g (verdict.NoData f) guards shown, tt)
