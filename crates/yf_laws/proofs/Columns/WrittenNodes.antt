-- Trees in whose text each outermost flow collection is at its column as it is written on one line, as in the trees of
-- a layout.
use Rattle.std.proofs.Common.{◌≡◌, ℕ, ◌+◌, ◌-◌, ◌<◌, true, false, List, [], ◌∷◌, Some}
use Rattle.std.specs.Prelude.{slice_range}
use Rattle.yf_chars.specs.Text.{code}
use Rattle.yf_props.specs.Props.{PropsValue}
use Rattle.yf_events.specs.declared.event.ScalarStyle.{ScalarStyle}
use Rattle.yf_events.specs.declared.event.Span.{Span}
use Rattle.yf_events.specs.Tree.{NodeOffsets, Node, scalar, alias, sequence, mapping, Items, no_items, item, Pairs, no_pairs, pair, DocumentTree, props_of, standing}
use Rattle.yf_forms.specs.declared.style.Style.{Style}
use Rattle.yf_forms.specs.Nodes.ContentStart.{content_start}
use Rattle.yf_forms.specs.NormalForms.Normal.{LayoutSetting, Margins, inner_margins, key_margins, root_margins, value_margins}
use Rattle.yf_forms.specs.Nodes.OneLine.{bare, width, written}
use Rattle.yf_laws.proofs.Columns.LinePlaces.{OnLine}

-- The flow collection is written so from bracket to bracket. It ends on the line on which it begins, as many characters
-- after the column as its width, and its last character is one byte.
pub record WrittenAt (house : Style) (t : List ℕ) (column : ℕ) (x : Node) : Type 0 where
  pub span : Span
  pub is : (standing x).span ≡ Some span
  pub text : slice_range t (content_start t span (props_of x)) span.end ≡ bare house x
  pub on : OnLine t (column + width (written house x)) span.end
  pub some : on.line < span.end
  pub last : code t (span.end - 1) < 128

mutual
  pub data WrittenNode (t : List ℕ) (c : LayoutSetting) : Margins → Node → Type 0 where
    written_scalar : {margins : Margins} {at : NodeOffsets} {props : PropsValue} {style : ScalarStyle} {text : List ℕ} {lines : List (List ℕ)}
        → WrittenNode t c margins (scalar at props style text lines)
    written_alias : {margins : Margins} {at : NodeOffsets} {name : List ℕ} → WrittenNode t c margins (alias at name)
    sequence_on_line : {margins : Margins} {at : NodeOffsets} {props : PropsValue} {xs : Items} → WrittenAt c.style t margins.column (sequence at true props xs)
        → WrittenNode t c margins (sequence at true props xs)
    mapping_on_line : {margins : Margins} {at : NodeOffsets} {props : PropsValue} {ps : Pairs} → WrittenAt c.style t margins.column (mapping at true props ps)
        → WrittenNode t c margins (mapping at true props ps)
    written_sequence : {margins : Margins} {at : NodeOffsets} {props : PropsValue} {xs : Items} → WrittenItems t c margins.entries xs → WrittenNode t c margins (sequence at false props xs)
    written_mapping : {margins : Margins} {at : NodeOffsets} {props : PropsValue} {ps : Pairs} → WrittenPairs t c margins.entries ps → WrittenNode t c margins (mapping at false props ps)

  -- for entries at that column
  pub data WrittenItems (t : List ℕ) (c : LayoutSetting) : ℕ → Items → Type 0 where
    no_written_items : {m : ℕ} → WrittenItems t c m no_items
    written_item : {m : ℕ} {x : Node} {xs : Items} → WrittenNode t c (inner_margins c.style m) x → WrittenItems t c m xs → WrittenItems t c m (item x xs)

  pub data WrittenPairs (t : List ℕ) (c : LayoutSetting) : ℕ → Pairs → Type 0 where
    no_written_pairs : {m : ℕ} → WrittenPairs t c m no_pairs
    written_pair : {m : ℕ} {k v : Node} {ps : Pairs} → WrittenNode t c (key_margins c.style m k) k → WrittenNode t c (value_margins c m k v) v → WrittenPairs t c m ps
        → WrittenPairs t c m (pair k v ps)

-- documents' roots
pub data WrittenDocuments (t : List ℕ) (c : LayoutSetting) : List DocumentTree → Type 0 where
  no_written_documents : WrittenDocuments t c []
  written_document : {d : DocumentTree} {ds : List DocumentTree} → WrittenNode t c (root_margins c.style) d.root → WrittenDocuments t c ds → WrittenDocuments t c (d ∷ ds)
