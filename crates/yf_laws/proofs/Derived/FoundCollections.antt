-- A block collection that is found on the laid-out rows of its entries, with properties or without.
use Rattle.std.proofs.Common.{◌≡◌, ℕ, true, false, List, [], ◌∷◌, ◌++◌, Option, None, refl, sym, ap, ◌∙◌}
use Rattle.std.specs.Prelude.{is_some}
use Rattle.yf_props.specs.Props.{PropsValue, no_props}
use Rattle.yf_events.specs.Alike.{alike_sequences, alike_mappings}
use Rattle.yf_events.specs.Event.{sequence_starts, sequence_ends, mapping_starts, mapping_ends}
use Rattle.yf_events.specs.Tree.{NodeOffsets, sequence, mapping, Items, Pairs, is_block_collection, placed, unplaced}
use Rattle.yf_grammar.specs.Productions.Meaning.{Meaning, collection, from_to, plain_event, with_props}
use Rattle.yf_grammar.specs.Productions.TreesOfMeaning.{Anywhere}
use Rattle.yf_forms.specs.NormalForms.Normal.{LayoutSetting, Margins}
use Rattle.yf_forms.specs.Nodes.OneLine.{props_text}
use Rattle.yf_forms.specs.Nodes.Lines.{is_empty_text}
use Rattle.yf_laws.proofs.SecondRun.AlikeLemmas.{same_block}
use Rattle.yf_laws.proofs.RowNodes.FoundNodes.{FoundNode, FoundItems, FoundPairs, sequence_rows, sequence_after, mapping_rows, mapping_after}
use Rattle.yf_laws.proofs.RowNodes.PlacedRows.{PlacedRow}

abbrev spanned : ℕ → ℕ → Option ℕ → NodeOffsets
spanned i j o = record { span = from_to i j; tag_offset = o; entry = None }

module _ {t : List ℕ} {s : LayoutSetting} {margins : Margins} where
  pub found_sequence : {at : NodeOffsets} {xs : Items} {meaning : Meaning} {ps : List PlacedRow} (i j : ℕ) → is_some at.span ≡ true → is_block_collection (sequence at false no_props xs) ≡ true → FoundItems t s margins.entries xs meaning ps
      → FoundNode t s margins (sequence at false no_props xs) (collection true false i j meaning) ps
  unfolding collection plain_event from_to
  found_sequence {at = at} {xs = xs} i j e n a = record {
    node = sequence (spanned i j None) false no_props a.items;
    alike = alike_sequences e a.alike;
    events = ap (λ z. placed (spanned i j None) (sequence_starts false no_props) [] ∷ (z ++ (unplaced sequence_ends ∷ []))) a.events;
    escapes = a.escapes;
    rows = sequence_rows (sym (same_block {K = Anywhere} {x = sequence at false no_props xs} {y = sequence (spanned i j None) false no_props a.items} (alike_sequences e a.alike)) ∙ n) refl a.rows;
  }

  pub found_mapping : {at : NodeOffsets} {xs : Pairs} {meaning : Meaning} {ps : List PlacedRow} (i j : ℕ) → is_some at.span ≡ true → is_block_collection (mapping at false no_props xs) ≡ true → FoundPairs t s margins.entries xs meaning ps
      → FoundNode t s margins (mapping at false no_props xs) (collection false false i j meaning) ps
  unfolding collection plain_event from_to
  found_mapping {at = at} {xs = xs} i j e n a = record {
    node = mapping (spanned i j None) false no_props a.pairs;
    alike = alike_mappings e a.alike;
    events = ap (λ z. placed (spanned i j None) (mapping_starts false no_props) [] ∷ (z ++ (unplaced mapping_ends ∷ []))) a.events;
    escapes = a.escapes;
    rows = mapping_rows (sym (same_block {K = Anywhere} {x = mapping at false no_props xs} {y = mapping (spanned i j None) false no_props a.pairs} (alike_mappings e a.alike)) ∙ n) refl a.rows;
  }

  pub found_sequence_with : {at : NodeOffsets} {xs : Items} {meaning : Meaning} {h : PlacedRow} {ps : List PlacedRow} (p : PropsValue) (o : Option ℕ) (f g i j : ℕ) → is_some at.span ≡ true
      → is_block_collection (sequence at false p xs) ≡ true → is_empty_text (props_text p) ≡ false → h.items ≡ [] → h.leaves ≡ [] → h.commented ≡ false → FoundItems t s margins.entries xs meaning ps
      → FoundNode t s margins (sequence at false p xs) (with_props p o f g (collection true false i j meaning)) (h ∷ ps)
  unfolding collection plain_event from_to with_props
  found_sequence_with {at = at} {xs = xs} p o f g i j e b n k l c a = record {
    node = sequence (spanned f j o) false p a.items;
    alike = alike_sequences e a.alike;
    events = ap (λ z. placed (spanned f j o) (sequence_starts false p) [] ∷ (z ++ (unplaced sequence_ends ∷ []))) a.events;
    escapes = a.escapes;
    rows = sequence_after (sym (same_block {K = Anywhere} {x = sequence at false p xs} {y = sequence (spanned f j o) false p a.items} (alike_sequences e a.alike)) ∙ b) n k l c a.rows;
  }

  pub found_mapping_with : {at : NodeOffsets} {xs : Pairs} {meaning : Meaning} {h : PlacedRow} {ps : List PlacedRow} (p : PropsValue) (o : Option ℕ) (f g i j : ℕ) → is_some at.span ≡ true
      → is_block_collection (mapping at false p xs) ≡ true → is_empty_text (props_text p) ≡ false → h.items ≡ [] → h.leaves ≡ [] → h.commented ≡ false → FoundPairs t s margins.entries xs meaning ps
      → FoundNode t s margins (mapping at false p xs) (with_props p o f g (collection false false i j meaning)) (h ∷ ps)
  unfolding collection plain_event from_to with_props
  found_mapping_with {at = at} {xs = xs} p o f g i j e b n k l c a = record {
    node = mapping (spanned f j o) false p a.pairs;
    alike = alike_mappings e a.alike;
    events = ap (λ z. placed (spanned f j o) (mapping_starts false p) [] ∷ (z ++ (unplaced mapping_ends ∷ []))) a.events;
    escapes = a.escapes;
    rows = mapping_after (sym (same_block {K = Anywhere} {x = mapping at false p xs} {y = mapping (spanned f j o) false p a.pairs} (alike_mappings e a.alike)) ∙ b) n k l c a.rows;
  }
