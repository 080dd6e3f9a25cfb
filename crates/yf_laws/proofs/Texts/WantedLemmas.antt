-- A scalar in the house style keeps its style and its lines.
use Rattle.std.proofs.Common.{◌≡◌, ℕ, Bool, true, false, List, chars, refl, ap}
use Rattle.std.specs.Prelude.{if◌then◌else◌}
use Rattle.yf_lines.specs.Steady.{is_steady}
use Rattle.yf_lines.specs.declared.quotes.Quotes.{Quotes}
use Rattle.yf_quoted.specs.Written.{quotes_in}
use Rattle.yf_events.specs.declared.event.ScalarStyle.{ScalarStyle}
use Rattle.yf_events.specs.declared.event.ScalarStyle.TheVariants.{Plain, Single, Double, Literal, Folded}
use Rattle.yf_forms.specs.declared.style.Style.{Style}
use Rattle.yf_forms.specs.Nodes.ScalarStyles.{has_block_content, lines_in, quoted_in, style_in, wanted}

quoted_stays : (t : List ℕ) (q : Style) → wanted (quoted_in t q) t q ≡ quoted_in t q
quoted_stays t q = by (quotes_in q.invisible (chars t) q.quotes) where
  by : (x : Quotes) → wanted (style_in x) t q ≡ quoted_in t q
  by Quotes.Single = refl
  by Quotes.Double = refl

-- a style that is kept if it is chosen, otherwise quotes
choice_stays : (s : ScalarStyle) (t : List ℕ) (q : Style) (b : Bool) → (b ≡ true → wanted s t q ≡ s)
    → wanted (if b then s else quoted_in t q) t q ≡ (if b then s else quoted_in t q)
choice_stays s t q true kept = kept refl
choice_stays s t q false kept = quoted_stays t q

pub wanted_stays : (style : ScalarStyle) (t : List ℕ) (q : Style) → wanted (wanted style t q) t q ≡ wanted style t q
wanted_stays Plain t q = choice_stays Plain t q (is_steady t) (λ e. ap (λ b. if b then Plain else quoted_in t q) e)
wanted_stays Single t q = quoted_stays t q
wanted_stays Double t q = quoted_stays t q
wanted_stays Literal t q = choice_stays Literal t q (has_block_content t) (λ e. ap (λ b. if b then Literal else quoted_in t q) e)
wanted_stays Folded t q = choice_stays Folded t q (has_block_content t) (λ e. ap (λ b. if b then Folded else quoted_in t q) e)

pub lines_stay : (style : ScalarStyle) (lines : List (List ℕ)) → lines_in style (lines_in style lines) ≡ lines_in style lines
lines_stay Plain lines = refl
lines_stay Single lines = refl
lines_stay Double lines = refl
lines_stay Literal lines = refl
lines_stay Folded lines = refl
