-- The rows of `check` either give one way to print its findings or are refused, and never both.
use Rattle.std.proofs.Common.{◌≡◌, ◌≢◌, ◌⊎◌, ◌∙◌, ℕ, Bool, true, false, List, Option, Some, None, refl, sym, ap}
use Rattle.std.proofs.Common.{inl, inr}
use Rattle.std.proofs.lemmas.Bool.{false≢true}
use Rattle.std.proofs.lemmas.Option.{same_Some}
use Rattle.clap.specs.Words.{Row, Text}
use Rattle.yf_line_ranges.specs.Numbers.{is_number, number_of}
use Rattle.yf_command_line.specs.Formats.{output_named}
use Rattle.yf_command_line.specs.Printing.{IsLimit, IsNoFormat, IsNoLimit, IsNoOutput, IsOutput, colors_of}
use Rattle.yf_command_line.specs.Requests.{IsNoPrinting, IsPrinting, color_given, counts, format_given, limit_given}
use Rattle.yf_command_line.specs.Requests.IsNoPrinting.{two_outputs, no_format, no_colors, no_limit}
use Rattle.yf_command_line.specs.declared.command.Colors.{Colors}
use Rattle.yf_command_line.specs.declared.command.Output.{Output}
use Rattle.yf_command_line.specs.declared.command.Output.TheVariants.{Statistics}
use Rattle.yf_command_line.specs.declared.command.Printing.{Printing}

-- ---- at most one way

output_once : (s : Bool) (f : Option Text) (a b : Option Output) → IsOutput s f a → IsOutput s f b → a ≡ b
output_once false None a b p q = p ∙ sym q
output_once true None a b p q = p ∙ sym q
output_once false (Some name) a b p q = p.1 ∙ sym q.1
output_once true (Some name) a b p q = absurd p

limit_once : (w : Option Text) (a b : Option ℕ) → IsLimit w a → IsLimit w b → a ≡ b
limit_once None a b p q = p ∙ sym q
limit_once (Some word) a b p q = p.1 ∙ sym q.1

-- The way with this form, these colors and this limit.
way : Option Output → Colors → Option ℕ → Printing
way o c l = record { output = o; colors = c; limit = l }

same_way : {o p : Option Output} {c d : Colors} {l m : Option ℕ} → o ≡ p → c ≡ d → l ≡ m → way o c l ≡ way p d m
same_way {o} {p} {c} {d} {l} {m} output colors limit =
    ap (λ x. way x c l) output ∙ (ap (λ x. way p x l) colors ∙ ap (λ x. way p d x) limit)

pub printing_once : (given : List Row) (a b : Printing) → IsPrinting given a → IsPrinting given b → a ≡ b
unfolding way
printing_once given a b p q =
    same_way (output_once _ _ a.output b.output p.output q.output) (same_Some _ _ (sym p.colors ∙ q.colors))
    (limit_once _ a.limit b.limit p.limit q.limit)

-- ---- not both

not_two_outputs : (s : Bool) (f : Option Text) (a : Option Output) → IsOutput s f a → s ≡ true → f ≢ None → ⊥
not_two_outputs s None a p both some = some refl
not_two_outputs true (Some name) a p both some = p
not_two_outputs false (Some name) a p both some = false≢true both

format_is_one : (s : Bool) (f : Option Text) (a : Option Output) → IsOutput s f a → IsNoFormat f → ⊥
format_is_one s None a p none = none
format_is_one true (Some name) a p none = p
format_is_one false (Some name) a p none = p.0 (p.1 ∙ none)

colors_are_one : (o : Option Colors) (a : Colors) → o ≡ None → o ≡ Some a → ⊥
colors_are_one o a none some = cc

limit_is_one : (w : Option Text) (a : Option ℕ) → IsLimit w a → IsNoLimit w → ⊥
limit_is_one None a p none = none
limit_is_one (Some word) a p none = false≢true (sym none ∙ p.0)

pub printing_not_both : (given : List Row) (a : Printing) → IsPrinting given a → IsNoPrinting given → ⊥
printing_not_both given a p (two_outputs s f) = not_two_outputs _ _ a.output p.output s f
printing_not_both given a p (no_format none) = format_is_one _ _ a.output p.output none
printing_not_both given a p (no_colors none) = colors_are_one _ a.colors none p.colors
printing_not_both given a p (no_limit none) = limit_is_one _ a.limit p.limit none

-- ---- at least one of the two

format_by : (name : Text) (o : Option Output) → output_named name ≡ o
    → ((a : Option Output) × IsOutput false (Some name) a) ⊎ IsNoOutput false (Some name)
format_by name None is = inr (inr is)
format_by name (Some o) is = inl (Some o, ((λ none. cc), sym is))

output_or_not : (s : Bool) (f : Option Text) → ((a : Option Output) × IsOutput s f a) ⊎ IsNoOutput s f
output_or_not false None = inl (None, refl)
output_or_not true None = inl (Some Statistics, refl)
output_or_not true (Some name) = inr (inl (refl, λ none. cc))
output_or_not false (Some name) = format_by name _ refl

colors_or_not : (o : Option Colors) → ((a : Colors) × (o ≡ Some a)) ⊎ (o ≡ None)
colors_or_not None = inr refl
colors_or_not (Some a) = inl (a, refl)

number_by : (word : Text) (n : Bool) → is_number word ≡ n
    → ((a : Option ℕ) × IsLimit (Some word) a) ⊎ IsNoLimit (Some word)
number_by word true is = inl (Some (number_of word), (is, refl))
number_by word false is = inr is

limit_or_not : (w : Option Text) → ((a : Option ℕ) × IsLimit w a) ⊎ IsNoLimit w
limit_or_not None = inl (None, refl)
limit_or_not (Some word) = number_by word _ refl

output_refusal : (given : List Row) → IsNoOutput (counts given) (format_given given) → IsNoPrinting given
output_refusal given (inl both) = two_outputs both.0 both.1
output_refusal given (inr none) = no_format none

pub printing_or_not : (given : List Row) → ((a : Printing) × IsPrinting given a) ⊎ IsNoPrinting given
printing_or_not given =
    elim (output_or_not (counts given) (format_given given)) [
      | inl o ↦ elim (colors_or_not (colors_of (color_given given))) [
        | inl c ↦ elim (limit_or_not (limit_given given)) [
          | inl l ↦ inl (
            record { output = o.0; colors = c.0; limit = l.0 },
            record { output = o.1; colors = c.1; limit = l.1 },
          )
          | inr none ↦ inr (no_limit none)
        ]
        | inr none ↦ inr (no_colors none)
      ]
      | inr none ↦ inr (output_refusal given none)
    ]
