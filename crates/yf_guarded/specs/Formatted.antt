-- The formatting of a text that is data.
use Rattle.std.specs.Prelude.{ℕ, List, true, Option, Some, None, string_bytes}
use Rattle.yf_forms.specs.declared.style.Style.{Style}
use Rattle.yf_guarded.specs.Judged.{Gives, Guards, IsJudged}
use Rattle.yf_guarded.specs.declared.formatting.DataFormatting.{DataFormatting}
use Rattle.yf_guarded.specs.declared.formatting.DataFormatting.TheVariants as of_text
use Rattle.yf_guarded.specs.declared.formatting.JudgedFormatting.{JudgedFormatting}
use Rattle.yf_guarded.specs.declared.formatting.JudgedFormatting.TheVariants as judged
use Rattle.yf_guarded.specs.declared.read.Verdict.{Verdict}
use Rattle.yf_guarded.specs.declared.read.Verdict.TheVariants as verdict
use Rattle.yf_rules.specs.Headline.{Headline}

-- The text is data, and this is its formatting. Or the fault says why the text is no data.
abbrev pub IsDataFormatting : Style → List ℕ → DataFormatting → Type 0
IsDataFormatting style t (of_text.Formatted u) = Guards true t None × Headline t style (string_bytes u)
IsDataFormatting style t (of_text.NoData g) = Guards true t (Some g)

-- the verdict without the formatting
abbrev pub verdict_of : JudgedFormatting → Verdict
verdict_of (judged.Passed u) = verdict.Passed
verdict_of judged.Encrypted = verdict.Encrypted
verdict_of (judged.NoData f) = verdict.NoData f

-- If the text passes, this is its formatting.
abbrev pub HasFormatting : Style → List ℕ → JudgedFormatting → Type 0
HasFormatting style t (judged.Passed u) = Headline t style (string_bytes u)
HasFormatting style t judged.Encrypted = Unit {0}
HasFormatting style t (judged.NoData f) = Unit {0}

-- The verdict on the text, which was read, and its formatting if it passes.
abbrev pub IsJudgedFormatting : Style → List ℕ → JudgedFormatting → Type 0
IsJudgedFormatting style t j = IsJudged true t (verdict_of j) × HasFormatting style t j

-- The reader gave a text, and this is the verdict on it, and its formatting if it passes.
abbrev pub GivesFormatting : Style → Option (List ℕ) → List ℕ → JudgedFormatting → Type 0
GivesFormatting style known t j = Gives (λ u. IsJudgedFormatting style u j) known t
