-- A literal or folded scalar is found on its row.
use Rattle.std.proofs.Common.{◌≡◌, ℕ, ◌-◌, true, false, List, [], ◌∷◌, Option, None, refl, ap, ◌∙◌, arith}
use Rattle.std.specs.Prelude.{is_some}
use Rattle.yf_props.specs.Props.{PropsValue, no_props}
use Rattle.yf_events.specs.Alike.{alike_scalars}
use Rattle.yf_events.specs.Event.{scalar_node}
use Rattle.yf_events.specs.declared.event.ScalarStyle.{ScalarStyle}
use Rattle.yf_events.specs.Tree.{NodeOffsets, scalar}
use Rattle.yf_grammar.specs.Productions.Meaning.{Meaning, first_with, with_props, from_to}
use Rattle.yf_grammar.proofs.WrittenTexts.ScalarPlaced.{scalar_event}
use Rattle.yf_forms.specs.Nodes.BlockLines.{content_lines, final_feeds}
use Rattle.yf_laws.specs.Nodes.BlockValues.{header_of}
use Rattle.yf_laws.specs.Layouts.ReadableTrees.{FitScalar}
use Rattle.yf_forms.specs.NormalForms.Normal.{LayoutSetting, Margins}
use Rattle.yf_print.specs.Layouts.Rows.{Row}
use Rattle.yf_laws.proofs.RowNodes.FoundNodes.{FoundNode, scalar_rows}
use Rattle.yf_laws.proofs.RowNodes.PlacedRows.{never_bare, none_inside, one_inside, PlacedRow, AtRow}
use Rattle.yf_laws.proofs.Derived.ScalarsInText.{style_back}

-- its row, on which it begins at q
abbrev pub leaf_row : ℕ → ℕ → ℕ → PlacedRow
leaf_row column q finish = record { items = q ∷ []; leaves = record { start = q; end = finish } ∷ []; commented = false; column = column; from = q; upto = q }

-- its event
pub bare_found : {t : List ℕ} {at : NodeOffsets} {style : ScalarStyle} {text : List ℕ} {lines : List (List ℕ)} (s : LayoutSetting) (margins : Margins) (column indent i : ℕ) (m : Meaning) → is_some at.span ≡ true → FitScalar style text lines
    → m.events ≡ scalar_event (header_of style indent text) (content_lines style text lines) (final_feeds text - 1) i m.finish ∷ [] → m.escapes ≡ []
    → FoundNode t s margins (scalar at no_props style text lines) m (leaf_row column i m.finish ∷ [])
unfolding from_to
bare_found {style = style} {text = text} {lines = lines} s margins column indent i m e f events escapes = record {
  rows = scalar_rows f.block (one_inside (omega arith) (omega arith) none_inside) refl refl refl;
  node = scalar (record { span = from_to i m.finish; tag_offset = None; entry = None }) no_props style text lines;
  alike = alike_scalars e;
  events = events ∙ λ z. record {
    event = scalar_node no_props (style_back style f.block z) (f.content indent z);
    span = from_to i m.finish;
    tag_offset = None;
    entry = None;
    folded = f.kept z;
  } ∷ [];
  escapes = escapes;
}

pub props_found : {t : List ℕ} {at : NodeOffsets} {style : ScalarStyle} {text : List ℕ} {lines : List (List ℕ)} (s : LayoutSetting) (margins : Margins) (column indent i q g : ℕ) (p : PropsValue) (o : Option ℕ) (m : Meaning) → is_some at.span ≡ true
    → FitScalar style text lines → m.events ≡ scalar_event (header_of style indent text) (content_lines style text lines) (final_feeds text - 1) i m.finish ∷ [] → m.escapes ≡ []
    → FoundNode t s margins (scalar at p style text lines) (with_props p o q g m) (leaf_row column q m.finish ∷ [])
unfolding from_to with_props
props_found {style = style} {text = text} {lines = lines} s margins column indent i q g p o m e f events escapes = record {
  rows = scalar_rows f.block (one_inside (omega arith) (omega arith) none_inside) refl refl refl;
  node = scalar (record { span = from_to q m.finish; tag_offset = o; entry = None }) p style text lines;
  alike = alike_scalars e;
  events = ap (λ es. first_with p o q g es) events ∙ λ z. record {
    event = scalar_node p (style_back style f.block z) (f.content indent z);
    span = from_to q m.finish;
    tag_offset = o;
    entry = None;
    folded = f.kept z;
  } ∷ [];
  escapes = escapes;
}

pub leaf_is_at : {row : Row} {q : ℕ} (finish : ℕ) → (row.body ≡ [] → ⊥) → is_some row.key_comment ≡ false → AtRow row q (leaf_row row.column q finish)
leaf_is_at finish some key = record {
  from = refl;
  order = omega arith;
  size = λ z. absurd (some z);
  items = one_inside (omega arith) (omega arith) none_inside;
  leaves = one_inside (omega arith) (omega arith) none_inside;
  commented = key;
  bare = λ z. never_bare z;
  column = refl;
}
