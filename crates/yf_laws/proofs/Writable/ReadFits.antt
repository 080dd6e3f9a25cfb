-- The normal form of a tree that is read can be laid out and is read again: each node on one line reads back, and each
-- literal or folded scalar has the lines of its text.
use Rattle.std.proofs.Common.{◌≡◌, ◌≢◌, ℕ, Bool, true, false, true≢false, not, ◌&&◌, List, [], ◌∷◌, chars, refl, sym, ap, ◌∙◌, subst}
use Rattle.std.specs.Prelude.{is_some, if◌then◌else◌}
use Rattle.std.specs.Str.{IsUtf8}
use Rattle.std.proofs.lemmas.Bool.{and_parts, or_right}
use Rattle.yf_chars.specs.declared.context.Ctx.{Ctx}
use Rattle.yf_chars.specs.declared.context.Ctx.TheVariants.{FlowOut, BlockKey}
use Rattle.yf_lines.specs.Basic.{is_block}
use Rattle.yf_lines.specs.Steady.{is_steady}
use Rattle.yf_lines.specs.declared.quotes.Quotes.{Quotes}
use Rattle.yf_lines.proofs.CoreSteady.{nothing_steady}
use Rattle.yf_plain.specs.Kept.{is_inside}
use Rattle.yf_props.specs.Props.{PropsValue, no_props}
use Rattle.yf_props.specs.Written.{IsProps}
use Rattle.yf_quoted.specs.Written.{quotes_in}
use Rattle.yf_events.specs.declared.event.ScalarStyle.{ScalarStyle}
use Rattle.yf_events.specs.declared.event.ScalarStyle.TheVariants.{Plain, Single, Double, Literal, Folded}
use Rattle.yf_events.specs.Tree.{NodeOffsets, Node, scalar, sequence, mapping, Items, item, Pairs, pair}
use Rattle.yf_grammar.proofs.FlowReader.FlowStarts.{in_flow_not_block}
use Rattle.yf_forms.specs.declared.style.Style.{Style}
use Rattle.yf_laws.proofs.Writable.FitFlows.{FitFlow, flow_leaf, flow_no_items, flow_no_pairs, flow_sequence, flow_mapping, FitFlowItems, flow_last_item, flow_item, FitFlowPairs, flow_last_pair, flow_pair}
use Rattle.yf_laws.specs.Layouts.ReadableTrees.{InlineNode, is_inline, FitProps, FitScalar, Fit, fit_nothing, fit_line, fit_scalar, fit_sequence, fit_mapping, FitItems, fit_no_items, fit_item, FitPairs, fit_no_pairs, fit_pair}
use Rattle.yf_forms.specs.Nodes.OneLineFlows.{may_be_kept, items_may_be_kept, pairs_may_be_kept, scalar_may_be_kept, has_comment}
use Rattle.yf_forms.specs.NormalForms.Normal.{LayoutSetting, Margins, styled, styled_items, styled_pairs, fits, settled, settled_items, settled_pairs, inner_margins, key_margins, value_margins}
use Rattle.yf_forms.specs.Nodes.OneLine.{spaced, props_text, written}
use Rattle.yf_laws.proofs.Writable.ReadTrees.{ReadPlain, ReadText, ReadNode, read_nothing, read_props, read_scalar, read_alias, read_sequence, read_mapping, ReadItems, read_no_items, read_item, ReadPairs, read_no_pairs, read_pair}
use Rattle.yf_forms.specs.Nodes.ScalarStyles.{has_block_content, lines_in, quoted_in, style_in, wanted}
use Rattle.yf_forms.specs.Nodes.Lines.{is_empty_text}
use Rattle.yf_laws.proofs.Derived.CollectionsMade.{same_props, some_props}
use Rattle.yf_laws.proofs.Writable.FlowFits.{flow_inline}
use Rattle.yf_laws.proofs.Writable.LeafFits.{alias_inline, props_inline}
use Rattle.yf_laws.proofs.Writable.PlainFits.{plain_fits, plain_some}
use Rattle.yf_laws.proofs.Writable.QuotedFits.{quoted_fits}

-- Texts on one line that are not empty.

pub filled : (b : ℕ) (w : List ℕ) → b ∷ w ≢ []
filled b w e = cc

spaced_filled : (v w : List ℕ) → w ≢ [] → spaced v w ≢ []
spaced_filled [] w n = n
spaced_filled (b ∷ v) [] n = absurd (n refl)
spaced_filled (b ∷ v) (c ∷ w) n = filled b _

quotes_filled : (house : Style) (at : NodeOffsets) (p : PropsValue) (text : List ℕ) (lines : List (List ℕ)) (q : Quotes) → written house (scalar at p (style_in q) text lines) ≢ []
quotes_filled house at p text lines Quotes.Single = spaced_filled (props_text p) _ (filled 39 _)
quotes_filled house at p text lines Quotes.Double = spaced_filled (props_text p) _ (filled 34 _)

quotes_inline : (at : NodeOffsets) (p : PropsValue) (text : List ℕ) (lines : List (List ℕ)) (q : Quotes) → is_inline (scalar at p (style_in q) text lines) ≡ true
quotes_inline at p text lines Quotes.Single = refl
quotes_inline at p text lines Quotes.Double = refl

alone_filled : (v : List ℕ) → is_empty_text v ≡ false → spaced v [] ≢ []
alone_filled [] e = absurd (true≢false e)
alone_filled (b ∷ v) e = filled b v

props_filled : {p : PropsValue} → IsProps p → p ≢ no_props → spaced (props_text p) [] ≢ []
props_filled {p} k n = alone_filled (props_text p) (ap is_empty_text (same_props k) ∙ some_props k n)

-- Scalars.

no_lines : (q : Quotes) (lines : List (List ℕ)) → lines_in (style_in q) lines ≡ []
no_lines Quotes.Single lines = refl
no_lines Quotes.Double lines = refl

-- in quotes, if none of its lines are kept
quoted_inline : {c : Ctx} {at : NodeOffsets} {p : PropsValue} {text : List ℕ} (q : Style) (lines : List (List ℕ)) → is_block c ≡ false → is_some at.span ≡ true
    → FitProps p → IsUtf8 text → InlineNode q c (scalar at p (quoted_in text q) text (lines_in (quoted_in text q) lines))
quoted_inline {c} {at} {p} {text} q lines k e f u =
    subst (λ ls. InlineNode q c (scalar at p (quoted_in text q) text ls)) (sym (no_lines (quotes_in q.invisible (chars text) q.quotes) lines)) (quoted_fits q k e f u)

-- plain if it stays plain, otherwise quoted
plain_inline : {b : Bool} {c : Ctx} {at : NodeOffsets} {p : PropsValue} {text : List ℕ} (q : Style) (lines : List (List ℕ)) → is_block c ≡ false
    → (is_inside c ≡ true → b ≡ true) → is_some at.span ≡ true → FitProps p → IsUtf8 text → ReadPlain b text
    → InlineNode q c (scalar at p (wanted Plain text q) text (lines_in (wanted Plain text q) lines))
plain_inline {b} {c} {at} {p} {text} q lines k i e f u r = go (is_steady text) refl where
  go : (s : Bool) → is_steady text ≡ s
      → InlineNode q c (scalar at p (if s then Plain else quoted_in text q) text (lines_in (if s then Plain else quoted_in text q) lines))
  go true h = plain_fits q k e f (r.stays c k i h)
  go false h = quoted_inline q lines k e f u

-- in a flow collection on one line
kept_scalar : (b : Bool) {c : Ctx} {at : NodeOffsets} {p : PropsValue} {text : List ℕ} (lines : List (List ℕ)) (q : Style) (style : ScalarStyle) → is_block c ≡ false
    → (is_inside c ≡ true → b ≡ true) → is_some at.span ≡ true → FitProps p → IsUtf8 text → ReadText b style text lines → scalar_may_be_kept style text ≡ true
    → InlineNode q c (scalar at p (wanted style text q) text (lines_in (wanted style text q) lines))
kept_scalar b lines q Plain k i e f u r m = plain_inline q lines k i e f u r
kept_scalar b lines q Single k i e f u r m = quoted_inline q lines k e f u
kept_scalar b lines q Double k i e f u r m = quoted_inline q lines k e f u
kept_scalar b lines q Literal k i e f u r m = absurd (true≢false (sym m))
kept_scalar b lines q Folded k i e f u r m = absurd (true≢false (sym m))

-- outside of flow collections a text may come from anywhere
pub outside : (b : Bool) → false ≡ true → b ≡ true
outside b e = absurd (true≢false (sym e))

quoted_fit : {at : NodeOffsets} {p : PropsValue} {text : List ℕ} (q : Style) (lines : List (List ℕ)) → is_some at.span ≡ true → FitProps p → IsUtf8 text
    → Fit q (scalar at p (quoted_in text q) text (lines_in (quoted_in text q) lines))
quoted_fit {at} {p} {text} q lines e f u =
    fit_line (quotes_inline at p text (lines_in (quoted_in text q) lines) (quotes_in q.invisible (chars text) q.quotes))
    (quotes_filled q at p text (lines_in (quoted_in text q) lines) (quotes_in q.invisible (chars text) q.quotes)) (quoted_inline q lines refl e f u).node (quoted_inline q lines refl e f u)

plain_fit : {b : Bool} {at : NodeOffsets} {p : PropsValue} {text : List ℕ} (q : Style) (lines : List (List ℕ)) → is_some at.span ≡ true → FitProps p → IsUtf8 text
    → ReadPlain b text → Fit q (scalar at p (wanted Plain text q) text (lines_in (wanted Plain text q) lines))
plain_fit {b} {at} {p} {text} q lines e f u r = go (is_steady text) refl where
  go : (s : Bool) → is_steady text ≡ s → Fit q (scalar at p (if s then Plain else quoted_in text q) text (lines_in (if s then Plain else quoted_in text q) lines))
  go true h =
      let plain = r.stays FlowOut refl (outside b) h in
      fit_line refl (spaced_filled (props_text p) text (plain_some plain)) (plain_fits q refl e f plain).node (plain_fits q refl e f (r.stays BlockKey refl (outside b) h))
  go false h = quoted_fit q lines e f u

literal_fit : {at : NodeOffsets} {p : PropsValue} {text : List ℕ} (q : Style) (lines : List (List ℕ)) → is_some at.span ≡ true → FitProps p → IsUtf8 text
    → (has_block_content text ≡ true → FitScalar Literal text []) → Fit q (scalar at p (wanted Literal text q) text (lines_in (wanted Literal text q) lines))
literal_fit {at} {p} {text} q lines e f u r = go (has_block_content text) refl where
  go : (s : Bool) → has_block_content text ≡ s
      → Fit q (scalar at p (if s then Literal else quoted_in text q) text (lines_in (if s then Literal else quoted_in text q) lines))
  go true h = fit_scalar e f (r h)
  go false h = quoted_fit q lines e f u

folded_fit : {at : NodeOffsets} {p : PropsValue} {text : List ℕ} (q : Style) (lines : List (List ℕ)) → is_some at.span ≡ true → FitProps p → IsUtf8 text
    → (has_block_content text ≡ true → FitScalar Folded text lines) → Fit q (scalar at p (wanted Folded text q) text (lines_in (wanted Folded text q) lines))
folded_fit {at} {p} {text} q lines e f u r = go (has_block_content text) refl where
  go : (s : Bool) → has_block_content text ≡ s
      → Fit q (scalar at p (if s then Folded else quoted_in text q) text (lines_in (if s then Folded else quoted_in text q) lines))
  go true h = fit_scalar e f (r h)
  go false h = quoted_fit q lines e f u

scalar_fit : (b : Bool) {at : NodeOffsets} {p : PropsValue} {text : List ℕ} (lines : List (List ℕ)) (q : Style) (style : ScalarStyle) → is_some at.span ≡ true → FitProps p
    → IsUtf8 text → ReadText b style text lines → Fit q (scalar at p (wanted style text q) text (lines_in (wanted style text q) lines))
scalar_fit b lines q Plain e f u r = plain_fit q lines e f u r
scalar_fit b lines q Single e f u r = quoted_fit q lines e f u
scalar_fit b lines q Double e f u r = quoted_fit q lines e f u
scalar_fit b lines q Literal e f u r = literal_fit q lines e f u r
scalar_fit b lines q Folded e f u r = folded_fit q lines e f u r

-- an empty text stays plain

empty_fit : {at : NodeOffsets} {p : PropsValue} (q : Style) → Fit q (scalar at p Plain [] []) → Fit q (scalar at p (wanted Plain [] q) [] (lines_in (wanted Plain [] q) []))
empty_fit {at} {p} q a =
    subst (λ s. Fit q (scalar at p (if s then Plain else quoted_in [] q) [] (lines_in (if s then Plain else quoted_in [] q) []))) (sym nothing_steady) a

-- Flow collections on one line.

kept_one : (a b c d : Bool) → (a && b && c && d) ≡ true → (a ≡ true) × ((c ≡ true) × (d ≡ true))
kept_one a b c d h =
    let x = and_parts (a && b && c) d h in
    let y = and_parts (a && b) c x.0 in
    ((and_parts a b y.0).0, (y.1, x.1))

mutual
  kept : (t : List ℕ) (s : LayoutSetting) {b : Bool} {x : Node} {c : Ctx} → is_block c ≡ false → (is_inside c ≡ true → b ≡ true) → ReadNode b x
      → may_be_kept t s.comments x ≡ true → FitFlow s.style c (styled t s x)
  kept t s k i (read_nothing e) m = absurd (true≢false (sym m))
  kept t s k i (read_props e p n) m = absurd (true≢false (sym m))
  kept t s {b} k i (read_scalar {style = style} {lines = lines} e f u r) m = flow_leaf (kept_scalar b lines s.style style k i e f u r m)
  kept t s k i (read_alias e n) m = flow_leaf (alias_inline s.style k e n)
  kept t s k i (read_sequence e f read_no_items) m = flow_no_items e f
  kept t s {b} {c = c} k i (read_sequence {at = at} {flow = flow} {p = p} e f (read_item {x = x} {xs = xs} a more)) m =
      let l = kept_one flow (not (has_comment t s.comments at.span p)) (may_be_kept t s.comments x) (items_may_be_kept t s.comments xs) m in
      subst (λ g. FitFlow s.style c (sequence at g p (item (styled t s x) (styled_items t s xs)))) (sym m)
      (flow_sequence e f (kept t s (in_flow_not_block c k) (λ _. or_right b flow l.0) a l.1.0) (items_kept t s (in_flow_not_block c k) (λ _. or_right b flow l.0) more l.1.1))
  kept t s k i (read_mapping e f read_no_pairs) m = flow_no_pairs e f
  kept t s {b} {c = c} k i (read_mapping {at = at} {flow = flow} {p = p} e f (read_pair {k = x} {v = y} {ps = ps} a d more)) m =
      let o = and_parts (flow && not (has_comment t s.comments at.span p) && may_be_kept t s.comments x && may_be_kept t s.comments y) (pairs_may_be_kept t s.comments ps) m in
      let l = kept_one flow (not (has_comment t s.comments at.span p)) (may_be_kept t s.comments x) (may_be_kept t s.comments y) o.0 in
      subst (λ g. FitFlow s.style c (mapping at g p (pair (styled t s x) (styled t s y) (styled_pairs t s ps)))) (sym m)
      (flow_mapping e f (kept t s (in_flow_not_block c k) (λ _. or_right b flow l.0) a l.1.0) (kept t s (in_flow_not_block c k) (λ _. or_right b flow l.0) d l.1.1)
      (pairs_kept t s (in_flow_not_block c k) (λ _. or_right b flow l.0) more o.1))

  items_kept : (t : List ℕ) (s : LayoutSetting) {b : Bool} {xs : Items} {c : Ctx} → is_block c ≡ false → (is_inside c ≡ true → b ≡ true) → ReadItems b xs
      → items_may_be_kept t s.comments xs ≡ true → FitFlowItems s.style c (styled_items t s xs)
  items_kept t s k i read_no_items m = flow_last_item
  items_kept t s k i (read_item {x = x} {xs = xs} a more) m =
      let l = and_parts (may_be_kept t s.comments x) (items_may_be_kept t s.comments xs) m in flow_item (kept t s k i a l.0) (items_kept t s k i more l.1)

  pairs_kept : (t : List ℕ) (s : LayoutSetting) {b : Bool} {ps : Pairs} {c : Ctx} → is_block c ≡ false → (is_inside c ≡ true → b ≡ true) → ReadPairs b ps
      → pairs_may_be_kept t s.comments ps ≡ true → FitFlowPairs s.style c (styled_pairs t s ps)
  pairs_kept t s k i read_no_pairs m = flow_last_pair
  pairs_kept t s k i (read_pair {k = x} {v = y} {ps = ps} a d more) m =
      let l = and_parts (may_be_kept t s.comments x && may_be_kept t s.comments y) (pairs_may_be_kept t s.comments ps) m in
      let o = and_parts (may_be_kept t s.comments x) (may_be_kept t s.comments y) l.0 in
      flow_pair (kept t s k i a o.0) (kept t s k i d o.1) (pairs_kept t s k i more l.1)

-- as a node on one line
line_fit : (house : Style) {x : Node} → is_inline x ≡ true → written house x ≢ [] → FitFlow house FlowOut x → FitFlow house BlockKey x → Fit house x
line_fit house a n o k = fit_line a n (flow_inline house refl o).node (flow_inline house refl k)

-- Trees.

either : (house : Style) {x y : Node} (b : Bool) → Fit house x → Fit house y → Fit house (if b then x else y)
either house true f g = f
either house false f g = g

sequence_fit : (t : List ℕ) (s : LayoutSetting) (margins : Margins) {b : Bool} {at : NodeOffsets} {flow : Bool} {p : PropsValue} {x : Node} {xs : Items}
    → ReadNode b (sequence at flow p (item x xs))
    → Fit s.style (sequence at false p (item (settled s (inner_margins s.style margins.entries) (styled t s x)) (settled_items s margins.entries (styled_items t s xs))))
    → Fit s.style (settled s margins (styled t s (sequence at flow p (item x xs))))
sequence_fit t s margins {b} {at} {flow} {p} {x} {xs} r block = go (may_be_kept t s.comments (sequence at flow p (item x xs))) refl where
  in_brackets : Bool → Node
  in_brackets m = sequence at m p (item (styled t s x) (styled_items t s xs))

  go : (m : Bool) → may_be_kept t s.comments (sequence at flow p (item x xs)) ≡ m → Fit s.style (settled s margins (sequence at m p (item (styled t s x) (styled_items t s xs))))
  go true m =
      either s.style (fits s.style margins.column (in_brackets true))
      (line_fit s.style refl (spaced_filled (props_text p) _ (filled 91 _)) (subst (λ g. FitFlow s.style FlowOut (in_brackets g)) m (kept t s refl (outside b) r m))
      (subst (λ g. FitFlow s.style BlockKey (in_brackets g)) m (kept t s refl (outside b) r m))) block
  go false m = block

mapping_fit : (t : List ℕ) (s : LayoutSetting) (margins : Margins) {b : Bool} {at : NodeOffsets} {flow : Bool} {p : PropsValue} {k v : Node} {ps : Pairs}
    → ReadNode b (mapping at flow p (pair k v ps))
    → Fit s.style (mapping at false p (pair (settled s (key_margins s.style margins.entries (styled t s k)) (styled t s k))
    (settled s (value_margins s margins.entries (styled t s k) (styled t s v)) (styled t s v)) (settled_pairs s margins.entries (styled_pairs t s ps))))
    → Fit s.style (settled s margins (styled t s (mapping at flow p (pair k v ps))))
mapping_fit t s margins {b} {at} {flow} {p} {k} {v} {ps} r block = go (may_be_kept t s.comments (mapping at flow p (pair k v ps))) refl where
  in_brackets : Bool → Node
  in_brackets m = mapping at m p (pair (styled t s k) (styled t s v) (styled_pairs t s ps))

  go : (m : Bool) → may_be_kept t s.comments (mapping at flow p (pair k v ps)) ≡ m
      → Fit s.style (settled s margins (mapping at m p (pair (styled t s k) (styled t s v) (styled_pairs t s ps))))
  go true m =
      either s.style (fits s.style margins.column (in_brackets true))
      (line_fit s.style refl (spaced_filled (props_text p) _ (filled 123 _)) (subst (λ g. FitFlow s.style FlowOut (in_brackets g)) m (kept t s refl (outside b) r m))
      (subst (λ g. FitFlow s.style BlockKey (in_brackets g)) m (kept t s refl (outside b) r m))) block
  go false m = block

mutual
  pub read_fits : (t : List ℕ) (s : LayoutSetting) (margins : Margins) {b : Bool} {x : Node} → ReadNode b x → Fit s.style (settled s margins (styled t s x))
  read_fits t s margins (read_nothing e) = empty_fit s.style (fit_nothing e)
  read_fits t s margins (read_props e p n) =
      empty_fit s.style (fit_line refl (props_filled p n) (props_inline s.style refl e p n).node (props_inline s.style refl e p n))
  read_fits t s margins {b} (read_scalar {style = style} {lines = lines} e f u r) = scalar_fit b lines s.style style e f u r
  read_fits t s margins (read_alias {name = name} e n) = fit_line refl (filled 42 name) (alias_inline s.style refl e n).node (alias_inline s.style refl e n)
  read_fits t s margins (read_sequence {p = p} e f read_no_items) =
      line_fit s.style refl (spaced_filled (props_text p) _ (filled 91 (93 ∷ []))) (flow_no_items e f) (flow_no_items e f)
  read_fits t s margins (read_sequence e f (read_item a more)) =
      sequence_fit t s margins (read_sequence e f (read_item a more))
      (fit_sequence e f (read_fits t s (inner_margins s.style margins.entries) a) (items_fit t s margins.entries more))
  read_fits t s margins (read_mapping {p = p} e f read_no_pairs) =
      line_fit s.style refl (spaced_filled (props_text p) _ (filled 123 (125 ∷ []))) (flow_no_pairs e f) (flow_no_pairs e f)
  read_fits t s margins (read_mapping e f (read_pair {k = k} {v = v} a d more)) =
      mapping_fit t s margins (read_mapping e f (read_pair a d more))
      (fit_mapping e f (read_fits t s (key_margins s.style margins.entries (styled t s k)) a)
      (read_fits t s (value_margins s margins.entries (styled t s k) (styled t s v)) d) (pairs_fit t s margins.entries more))

  items_fit : (t : List ℕ) (s : LayoutSetting) (column : ℕ) {b : Bool} {xs : Items} → ReadItems b xs → FitItems s.style (settled_items s column (styled_items t s xs))
  items_fit t s column read_no_items = fit_no_items
  items_fit t s column (read_item a more) = fit_item (read_fits t s (inner_margins s.style column) a) (items_fit t s column more)

  pairs_fit : (t : List ℕ) (s : LayoutSetting) (column : ℕ) {b : Bool} {ps : Pairs} → ReadPairs b ps → FitPairs s.style (settled_pairs s column (styled_pairs t s ps))
  pairs_fit t s column read_no_pairs = fit_no_pairs
  pairs_fit t s column (read_pair {k = k} {v = v} a d more) =
      fit_pair (read_fits t s (key_margins s.style column (styled t s k)) a) (read_fits t s (value_margins s column (styled t s k) (styled t s v)) d)
      (pairs_fit t s column more)
