-- Scalars that the house style leaves plain are leaves on one line that read back, whatever their text.
use Rattle.std.proofs.Common.{◌≡◌, ◌≢◌, ℕ, true, false, true≢false, List, [], ◌∷◌, length, refl, sym, ap, ◌∙◌, arith, encode_utf8_all}
use Rattle.std.specs.Prelude.{is_some}
use Rattle.std.proofs.lemmas.Str.{length-le-encodes}
use Rattle.yf_chars.specs.declared.context.Ctx.{Ctx}
use Rattle.yf_lines.specs.Basic.{is_block}
use Rattle.yf_plain.specs.Kept.{IsPlain, is_plain_line}
use Rattle.yf_props.specs.Props.{PropsValue}
use Rattle.yf_events.specs.declared.event.ScalarStyle.TheVariants.{Plain}
use Rattle.yf_events.specs.Tree.{NodeOffsets, scalar}
use Rattle.yf_grammar.proofs.WrittenTexts.LeafBack.{plain_node_back, plain_props_back}
use Rattle.yf_grammar.proofs.WrittenTexts.PlainUnmarked.{plain_unmarked}
use Rattle.yf_forms.specs.declared.style.Style.{Style}
use Rattle.yf_laws.specs.Layouts.ReadableTrees.{InlineNode, FitProps, no_fit_props, some_fit_props}
use Rattle.yf_laws.proofs.Writable.LeafFits.{plain_inline, plain_with_inline}

-- a plain scalar has characters
pub plain_some : {c : Ctx} {text : List ℕ} → IsPlain c text → text ≢ []
unfolding is_plain_line
plain_some {c} {text} p = go p.chars p.bytes p.line where
  go : (cs : List ℕ) → encode_utf8_all cs ≡ text → is_plain_line c cs ≡ true → text ≢ []
  go [] e l = absurd (true≢false (sym l))
  go (x ∷ cs) e l = λ none.
      let short : length (encode_utf8_all (x ∷ cs)) ≡ 0 = ap length (e ∙ none) in absurd (omega (arith, short, length-le-encodes (x ∷ cs)))

pub plain_fits : (house : Style) {c : Ctx} {at : NodeOffsets} {p : PropsValue} {text : List ℕ} → is_block c ≡ false → is_some at.span ≡ true → FitProps p → IsPlain c text
    → InlineNode house c (scalar at p Plain text [])
plain_fits house {text = []} k e f plain = absurd (plain_some plain refl)
plain_fits house {c} {text = b ∷ w} k e no_fit_props plain = plain_inline house b w e (plain_node_back c k plain) (plain_unmarked k plain)
plain_fits house {c} {text = b ∷ w} k e (some_fit_props props some) plain = plain_with_inline house b w e props some (plain_props_back c k props some plain)
