-- The `--format` of `fmt` either fits its task or is refused, and never both.
use Rattle.std.proofs.Common.{◌≡◌, ◌≢◌, ◌⊎◌, ◌∙◌, List, Option, Some, None, refl, sym, ap, inl, inr}
use Rattle.std.proofs.lemmas.Bool.{false≢true}
use Rattle.std.proofs.lemmas.Option.{same_Some}
use Rattle.clap.specs.Words.{Row, Text}
use Rattle.yf_command_line.specs.FmtFormats.{HasFormat, RefusesFormat}
use Rattle.yf_command_line.specs.FmtFormats.RefusesFormat.{unchecked_format, written_format, compared_format}
use Rattle.yf_command_line.specs.FmtFormats.RefusesFormat.{format_of_lines, unknown_format}
use Rattle.yf_command_line.specs.Printing.{reported}
use Rattle.yf_command_line.specs.Requests.{IsFmt, IsFmtTask}
use Rattle.yf_command_line.specs.Rows.{format_given}
use Rattle.yf_command_line.specs.declared.command.Fmt.{Fmt}
use Rattle.yf_command_line.specs.declared.command.Fmt.TheVariants as fmt
use Rattle.yf_command_line.specs.declared.command.InputList.{InputList}
use Rattle.yf_command_line.specs.declared.command.Output.{Output}

-- ---- at most one output

-- Both report in one way, if both report.
abbrev pub SameOutput : Fmt → Fmt → Type 0
SameOutput (fmt.Check a o) (fmt.Check b x) = o ≡ x
SameOutput _ _ = Unit {0}

pub output_once : (given : List Row) (a b : Fmt) → HasFormat given a → HasFormat given b → SameOutput a b
output_once given (fmt.Check a o) (fmt.Check b x) p q = same_Some _ _ (sym p ∙ q)
output_once given _ _ p q = tt

-- ---- not both

none_or_some : {T : Type 0} (o : Option T) (a : T) → o ≡ None → o ≡ Some a → ⊥
none_or_some o a none some = cc

-- Without `--format` it is not refused.
not_given : (given : List Row) → format_given given ≡ None → RefusesFormat given → ⊥
not_given given none (unchecked_format some c) = some none
not_given given none (written_format some w) = some none
not_given given none (compared_format some d) = some none
not_given given none (format_of_lines some l) = some none
not_given given none (unknown_format wrong) = none_or_some _ _ wrong (ap reported none)

pub format_not_both : (given : List Row) (a : Fmt) → IsFmt given a → HasFormat given a → RefusesFormat given → ⊥
format_not_both given (fmt.Check a o) p q (unchecked_format some c) = false≢true (sym c ∙ p.2)
format_not_both given (fmt.Check a o) p q (written_format some w) = false≢true (sym p.1 ∙ w)
format_not_both given (fmt.Check a o) p q (compared_format some d) = false≢true (sym p.3 ∙ d)
format_not_both given (fmt.Check a o) p q (format_of_lines some l) = l p.0
format_not_both given (fmt.Check a o) p q (unknown_format wrong) = none_or_some _ o wrong q
format_not_both given (fmt.Print a) p q refusal = not_given given q refusal
format_not_both given (fmt.Diff a) p q refusal = not_given given q refusal
format_not_both given (fmt.Write a) p q refusal = not_given given q refusal
format_not_both given (fmt.Part lines a) p q refusal = not_given given q refusal

-- ---- at least one of the two

none_or_given : (value : Option Text) → (value ≡ None) ⊎ (value ≢ None)
none_or_given None = inl refl
none_or_given (Some name) = inr (λ none. cc)

-- The whole task, or why `--format` is refused.
abbrev pub FormatOrNot : List Row → Type 0
FormatOrNot given = ((a : Fmt) × IsFmtTask given a) ⊎ RefusesFormat given

reported_by : (given : List Row) (inputs : InputList) (before : Output) → IsFmt given (fmt.Check inputs before)
    → (output : Option Output) → reported (format_given given) ≡ output → FormatOrNot given
reported_by given inputs before p (Some output) is = inl (fmt.Check inputs output, record { task = p; format = is })
reported_by given inputs before p None is = inr (unknown_format is)

-- A task that takes no `--format`.
unreported_by : (given : List Row) (a : Fmt) → (format_given given ≡ None → IsFmtTask given a)
    → (format_given given ≢ None → RefusesFormat given) → FormatOrNot given
unreported_by given a takes refuses =
    elim (none_or_given (format_given given)) [ inl none ↦ inl (a, takes none) | inr some ↦ inr (refuses some) ]

pub format_or_not : (given : List Row) (a : Fmt) → IsFmt given a → FormatOrNot given
format_or_not given (fmt.Check inputs output) p = reported_by given inputs output p _ refl
format_or_not given (fmt.Print a) p =
    unreported_by given (fmt.Print a) (λ none. record { task = p; format = none }) (λ some. unchecked_format some p.2)
format_or_not given (fmt.Diff a) p =
    unreported_by given (fmt.Diff a) (λ none. record { task = p; format = none }) (λ some. compared_format some p.2)
format_or_not given (fmt.Write a) p =
    unreported_by given (fmt.Write a) (λ none. record { task = p; format = none }) (λ some. written_format some p.1)
format_or_not given (fmt.Part lines a) p =
    unreported_by given (fmt.Part lines a) (λ none. record { task = p; format = none })
    (λ some. format_of_lines some p.0)
