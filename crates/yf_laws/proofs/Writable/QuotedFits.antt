-- Scalars that the house style quotes are leaves on one line that read back, whatever their text.
use Rattle.std.proofs.Common.{◌≡◌, ℕ, Bool, true, false, List, [], refl}
use Rattle.std.specs.Prelude.{is_some, if◌then◌else◌}
use Rattle.std.specs.List.{list_any}
use Rattle.std.specs.Str.{IsUtf8, chars}
use Rattle.yf_chars.specs.declared.context.Ctx.{Ctx}
use Rattle.yf_chars.specs.Hidden.{is_hidden}
use Rattle.yf_lines.specs.Basic.{is_block}
use Rattle.yf_lines.specs.declared.invisible.Invisible.{Invisible}
use Rattle.yf_lines.specs.declared.quotes.Quotes.{Quotes}
use Rattle.yf_props.specs.Props.{PropsValue}
use Rattle.yf_quoted.specs.Written.{all_nb, quotes_for, quotes_in}
use Rattle.yf_quoted.proofs.WriteLemmas.{nb_chosen}
use Rattle.yf_events.specs.declared.event.ScalarStyle.TheVariants.{Single, Double}
use Rattle.yf_events.specs.Tree.{NodeOffsets, scalar}
use Rattle.yf_forms.specs.declared.style.Style.{Style}
use Rattle.yf_laws.specs.Layouts.ReadableTrees.{InlineNode, FitProps, no_fit_props, some_fit_props}
use Rattle.yf_forms.specs.Nodes.ScalarStyles.{quoted_in, style_in}
use Rattle.yf_laws.proofs.Writable.LeafFits.{single_inline, single_with_inline, double_inline, double_with_inline}

-- in single quotes, if they can hold the text, and in double quotes
pub single_fits : (house : Style) {c : Ctx} {at : NodeOffsets} {p : PropsValue} {text : List ℕ} → is_block c ≡ false
    → is_some at.span ≡ true → FitProps p → IsUtf8 text → all_nb (chars text) ≡ true
    → InlineNode house c (scalar at p Single text [])
single_fits house k e no_fit_props u n = single_inline house k e u n
single_fits house k e (some_fit_props props some) u n = single_with_inline house k e props some u n

pub double_fits : (house : Style) {c : Ctx} {at : NodeOffsets} {p : PropsValue} {text : List ℕ} → is_block c ≡ false
    → is_some at.span ≡ true → FitProps p → IsUtf8 text
    → InlineNode house c (scalar at p Double text [])
double_fits house k e no_fit_props u = double_inline house k e u
double_fits house k e (some_fit_props props some) u = double_with_inline house k e props some u

-- single quotes are chosen only for texts that they can hold
single_by : (cs : List ℕ) (q : Quotes) → quotes_for cs q ≡ Quotes.Single → all_nb cs ≡ true
single_by cs Quotes.Single e = nb_chosen cs e
single_by cs Quotes.Double e = absurd (apart e) where
  apart : Quotes.Double ≡ Quotes.Single → ⊥
  apart e = cc

single_chosen : (i : Invisible) (cs : List ℕ) (q : Quotes) → quotes_in i cs q ≡ Quotes.Single → all_nb cs ≡ true
single_chosen Invisible.Plain cs q e = single_by cs q e
single_chosen Invisible.Escaped cs q e = go (list_any is_hidden cs) e where
  go : (b : Bool) → (if b then Quotes.Double else quotes_for cs q) ≡ Quotes.Single → all_nb cs ≡ true
  go true e = absurd (apart e) where
    apart : Quotes.Double ≡ Quotes.Single → ⊥
    apart e = cc
  go false e = single_by cs q e

-- in the quotes of the house
pub quoted_fits : {c : Ctx} {at : NodeOffsets} {p : PropsValue} {text : List ℕ} (house : Style) → is_block c ≡ false
    → is_some at.span ≡ true → FitProps p → IsUtf8 text
    → InlineNode house c (scalar at p (quoted_in text house) text [])
quoted_fits {c} {at} {p} {text} house k e f u = by (quotes_in house.invisible (chars text) house.quotes) (λ q. single_chosen house.invisible (chars text) house.quotes q) where
  by : (q : Quotes) → (q ≡ Quotes.Single → all_nb (chars text) ≡ true) → InlineNode house c (scalar at p (style_in q) text [])
  by Quotes.Single n = single_fits house k e f u (n refl)
  by Quotes.Double n = double_fits house k e f u
