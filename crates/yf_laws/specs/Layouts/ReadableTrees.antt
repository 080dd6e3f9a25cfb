-- Trees with rows that can be read again: each node that is written on one line reads back at any offset.
use Rattle.std.specs.Prelude.{◌≡◌, ◌≢◌, ℕ, ◌≤◌, Bool, true, false, is_some, List, [], ◌∷◌, ◌++◌, ◌-◌}
use Rattle.std.specs.Str.{IsUtf8}
use Rattle.yf_chars.specs.declared.context.Ctx.{Ctx}
use Rattle.yf_chars.specs.declared.context.Ctx.TheVariants.{FlowOut, BlockKey}
use Rattle.yf_lines.specs.Rest.{Rest}
use Rattle.yf_props.specs.Props.{PropsValue, no_props}
use Rattle.yf_props.specs.Written.{IsProps}
use Rattle.yf_block_scalar.specs.Content.{content_of}
use Rattle.yf_block_scalar.specs.Written.{AreLineTexts, EndsWithContent, StartsUnspaced}
use Rattle.yf_events.specs.declared.event.ScalarStyle.{ScalarStyle}
use Rattle.yf_events.specs.declared.event.ScalarStyle.TheVariants.{Plain, Single, Double, Literal, Folded}
use Rattle.yf_events.specs.Tree.{NodeOffsets, Node, scalar, alias, sequence, mapping, Items, no_items, item, Pairs, no_pairs, pair}
use Rattle.yf_grammar.specs.Productions.OneLineTexts.{Back}
use Rattle.yf_grammar.specs.Productions.BlockScalar.{kept_lines}
use Rattle.yf_grammar.specs.Productions.Meaning.{Meaning}
use Rattle.yf_grammar.specs.Productions.TreesOfMeaning.{MeansTrees, tall}
pub use Rattle.yf_grammar.specs.Productions.Unmarked.{IsNoMarker}
use Rattle.yf_forms.specs.Nodes.BlockLines.{begins_with_space, content_lines, final_feeds}
use Rattle.yf_laws.specs.Layouts.WrittenQuotes.{QuotesWritten}
use Rattle.yf_laws.specs.Nodes.BlockValues.{is_folded, header_of}
use Rattle.yf_forms.specs.declared.style.Style.{Style}
use Rattle.yf_forms.specs.Nodes.OneLine.{written, colon_after}

-- a node on one line is derived at any offset from its text in that style, and means the same node
pub record LineNode (s : Style) (c : Ctx) (x : Node) : Type 0 where
  pub json : Bool
  pub colon : Bool
  pub height : ℕ
  pub mean : ℕ → Meaning
  pub back : Back json colon c (written s x) height mean
  pub unmarked : IsNoMarker (written s x)
  pub low : height ≤ tall x
  pub meant : (q : ℕ) → MeansTrees x (mean q)
  pub silent : (q : ℕ) → (mean q).comments ≡ []
  -- its quoted scalars are there as they are written
  pub quoted : (t : List ℕ) (q : ℕ) (r : List ℕ) → IsUtf8 t → Rest t q (written s x ++ r) → QuotesWritten s t (mean q).events

-- the `:` after a key: directly after it if this is allowed, or after a space
pub data ColonFits (at_once : Bool) : List ℕ → Type 0 where
  colon_at_once : at_once ≡ true → ColonFits at_once (58 ∷ [])
  colon_apart : ColonFits at_once (32 ∷ 58 ∷ [])

pub record InlineNode (s : Style) (c : Ctx) (x : Node) : Type 0 where
  pub node : LineNode s c x
  pub colon : ColonFits node.colon (colon_after x)

abbrev pub KeyNode : Style → Node → Type 0
KeyNode s = InlineNode s BlockKey

-- whether a node is written on one line, whatever its column
abbrev pub is_inline : Node → Bool
is_inline (scalar at props Plain text lines) = true
is_inline (scalar at props Single text lines) = true
is_inline (scalar at props Double text lines) = true
is_inline (scalar at props Literal text lines) = false
is_inline (scalar at props Folded text lines) = false
is_inline (alias at name) = true
is_inline (sequence at flow props items) = flow
is_inline (mapping at flow props pairs) = flow

-- a style of several lines
abbrev pub is_block_style : ScalarStyle → Bool
is_block_style Plain = false
is_block_style Single = false
is_block_style Double = false
is_block_style Literal = true
is_block_style Folded = true

-- the properties of a block collection or scalar: none, or some with a valid spelling
pub data FitProps : PropsValue → Type 0 where
  no_fit_props : FitProps no_props
  some_fit_props : {p : PropsValue} → IsProps p → p ≢ no_props → FitProps p

-- a scalar with the lines of its text, so it is read again from its lines at any column
pub record FitScalar (style : ScalarStyle) (text : List ℕ) (lines : List (List ℕ)) : Type 0 where
  pub block : is_block_style style ≡ true
  pub content : (indent : ℕ) → content_of (header_of style indent text) (content_lines style text lines) (final_feeds text - 1) false ≡ text
  pub kept : kept_lines (is_folded style) (content_lines style text lines) ≡ lines
  pub texts : AreLineTexts (content_lines style text lines)
  pub last : EndsWithContent (content_lines style text lines)
  pub unspaced : begins_with_space text ≡ false → StartsUnspaced (content_lines style text lines)

mutual
  pub data Fit (s : Style) : Node → Type 0 where
    fit_nothing : {at : NodeOffsets} → is_some at.span ≡ false → Fit s (scalar at no_props Plain [] [])
    fit_line : {x : Node} → is_inline x ≡ true → written s x ≢ [] → LineNode s FlowOut x → KeyNode s x → Fit s x
    fit_scalar : {at : NodeOffsets} {p : PropsValue} {style : ScalarStyle} {text : List ℕ} {lines : List (List ℕ)} → is_some at.span ≡ true → FitProps p
        → FitScalar style text lines → Fit s (scalar at p style text lines)
    fit_sequence : {at : NodeOffsets} {p : PropsValue} {x : Node} {xs : Items} → is_some at.span ≡ true → FitProps p → Fit s x → FitItems s xs
        → Fit s (sequence at false p (item x xs))
    fit_mapping : {at : NodeOffsets} {p : PropsValue} {k v : Node} {ps : Pairs} → is_some at.span ≡ true → FitProps p → Fit s k → Fit s v → FitPairs s ps
        → Fit s (mapping at false p (pair k v ps))

  pub data FitItems (s : Style) : Items → Type 0 where
    fit_no_items : FitItems s no_items
    fit_item : {x : Node} {xs : Items} → Fit s x → FitItems s xs → FitItems s (item x xs)

  pub data FitPairs (s : Style) : Pairs → Type 0 where
    fit_no_pairs : FitPairs s no_pairs
    fit_pair : {k v : Node} {ps : Pairs} → Fit s k → Fit s v → FitPairs s ps → FitPairs s (pair k v ps)
