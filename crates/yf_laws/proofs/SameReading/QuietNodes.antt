-- Nodes of the normal form of a tree on one line, their rows, and the first row of a value beside its key.
use Rattle.std.proofs.Common.{◌≡◌, ℕ, ◌<◌, ◌≤◌, true, false, true≢false, not, ◌&&◌, ◌||◌, List, [], ◌∷◌, ◌++◌, map, Option, Some, None, refl, sym, ap, ◌∙◌, subst, arith, append-nil, ⊎_elim}
use Rattle.std.specs.Prelude.{is_some}
use Rattle.std.proofs.lemmas.Bool.{and_parts, cases_lt}
use Rattle.yf_comments.specs.Comment.{CommentValue}
use Rattle.yf_props.specs.Props.{PropsValue}
use Rattle.yf_events.specs.declared.event.ScalarStyle.{ScalarStyle}
use Rattle.yf_events.specs.declared.event.ScalarStyle.TheVariants.{Plain, Single, Double, Literal, Folded}
use Rattle.yf_events.specs.declared.event.Span.{Span}
use Rattle.yf_events.specs.Tree.{NodeOffsets, Node, scalar, alias, sequence, mapping, no_items, item, no_pairs, pair, items_in, leaves, props_of, spans_of_leaf, is_block_collection, is_filled_flow, is_text}
use Rattle.yf_forms.specs.declared.style.Style.{Style}
use Rattle.yf_forms.specs.NormalForms.Normal.{LayoutSetting, Margins, fits, is_one_line_key}
use Rattle.yf_forms.specs.Nodes.OneLine.{props_text, written}
use Rattle.yf_print.specs.Layouts.Rows.{Row, begins_below, one_line_row, props_row, rows, rows_of_items, rows_of_pairs}
use Rattle.yf_forms.specs.Nodes.Lines.{is_empty_text}
use Rattle.yf_laws.proofs.SameReading.CommentsCut.{In}
use Rattle.yf_laws.proofs.SameReading.ItemsOrder.{items_on, rises_greatest, rises_upto}
use Rattle.yf_laws.proofs.Printer.LeafPrinted.{same_flag, same_flag_of_map}
use Rattle.yf_laws.proofs.OfTexts.MarksOrder.{Rises, no_place, a_place, rises_after, rises_order}
use Rattle.yf_laws.proofs.SameReading.QuietTrees.{Free, LeafSits, LineSits, NodeSits, nothing_sits, scalar_sits, alias_sits, empty_sequence_sits, empty_mapping_sits, sequence_on_line, mapping_on_line, sequence_in_block, mapping_in_block}
use Rattle.yf_laws.proofs.SameReading.RowFlow.{Sub, sub_take, sub_skip, sub_from, greatest}
use Rattle.yf_laws.proofs.SameReading.RowsFit.{LineFits, one_fits, none_fits, no_key, RowsFit, no_rows_fit, row_fits, rises_from}
use Rattle.yf_laws.proofs.SameReading.StartsBefore.{AllFrom, later_from}
use Rattle.yf_laws.proofs.Derived.StepsInText.{starts_of}
use Rattle.yf_laws.proofs.NormalForms.StyledTwice.{House}

-- A node on one line.
pub record OneLine (cs : List CommentValue) (i j : ℕ) (x : Node) : Type 0 where
  pub fits : LineFits cs (items_in x) (starts_of (leaves x))
  pub rises : Rises i (items_in x) j
  pub free : (n : ℕ) → Sub (n ∷ []) (starts_of (leaves x)) → Free cs n
  pub bare : leaves x ≡ [] → items_in x ≡ []
  pub whole : is_text x || is_filled_flow x ≡ true → (s : Span) × ((ss : List Span) × (leaves x ≡ s ∷ ss))

-- this holds for its span
record LeafLine (cs : List CommentValue) (i j : ℕ) (o : Option Span) : Type 0 where
  fits : LineFits cs (map (λ s. s.start) (spans_of_leaf o)) (starts_of (spans_of_leaf o))
  rises : Rises i (map (λ s. s.start) (spans_of_leaf o)) j
  free : (n : ℕ) → Sub (n ∷ []) (starts_of (spans_of_leaf o)) → Free cs n
  bare : spans_of_leaf o ≡ [] → map (λ (s : Span). s.start) (spans_of_leaf o) ≡ []
  whole : is_some o || false ≡ true → (s : Span) × ((ss : List Span) × (spans_of_leaf o ≡ s ∷ ss))

leaf_line : {cs : List CommentValue} {i j : ℕ} {at : NodeOffsets} → LeafSits cs i j at → LeafLine cs i j at.span
leaf_line {cs} {i} {j} {at} a = subst (λ o. LeafLine cs i j o) (sym a.is) (record {
  fits = one_fits a.span.start;
  rises = a_place a.from (no_place a.to);
  free = λ n s. there n s;
  bare = λ e. absurd cc;
  whole = λ e. (a.span, ([], refl));
}) where
  there : (n : ℕ) → Sub (n ∷ []) (a.span.start ∷ []) → Free cs n
  there n (sub_take s) = a.free
  there n (sub_skip s) = elim s [ ]

nothing_line : {cs : List CommentValue} {i j : ℕ} (at : NodeOffsets) → i ≤ j → at.span ≡ None → LeafLine cs i j at.span
nothing_line {cs} {i} {j} at l e = subst (λ o. LeafLine cs i j o) (sym e) (record {
  fits = none_fits [];
  rises = no_place l;
  free = λ n s. elim s [ ];
  bare = λ e. refl;
  whole = λ e. absurd (true≢false (sym e));
})

line_within : {cs : List CommentValue} {i k b j : ℕ} {x : Node} → is_text x || is_filled_flow x ≡ true → i ≤ k → LineSits cs k b x → b ≤ j → OneLine cs i j x
line_within {cs} {k = k} {b = b} {x = x} e l a m = record {
  fits = record { among = a.among; still = still };
  rises = rises_after l (rises_upto a.rises m);
  free = a.free;
  bare = λ f. absurd (filled (sym a.some ∙ f));
  whole = λ f. (a.first, (a.others, a.some));
} where
  still : (d : CommentValue) → In d cs → d.offset < greatest (items_in x) → AllFrom d.offset (starts_of (leaves x))
  still d i n =
      let top : greatest (items_in x) ≤ b = rises_greatest a.rises in
      ⊎_elim (λ (w : d.offset < k). later_from (omega (arith, w)) (sub_from a.among (rises_from a.rises)))
      (λ (w : k ≤ d.offset). let z : b ≤ d.offset = a.none d i w in absurd (omega (arith, top, n, z))) (cases_lt d.offset k)

  filled : {s : Span} {ss : List Span} → (s ∷ ss) ≡ [] → ⊥
  filled f = absurd cc

pub one_line : {cs : List CommentValue} {i j : ℕ} {x : Node} → NodeSits cs i j x → is_block_collection x ≡ false → OneLine cs i j x
one_line (nothing_sits {at = at} l e) f = let w = nothing_line at l e in record { fits = w.fits; rises = w.rises; free = w.free; bare = w.bare; whole = w.whole }
one_line (scalar_sits a) f = let w = leaf_line a in record { fits = w.fits; rises = w.rises; free = w.free; bare = w.bare; whole = w.whole }
one_line (alias_sits a) f = let w = leaf_line a in record { fits = w.fits; rises = w.rises; free = w.free; bare = w.bare; whole = w.whole }
one_line (empty_sequence_sits a) f = let w = leaf_line a in record { fits = w.fits; rises = w.rises; free = w.free; bare = w.bare; whole = w.whole }
one_line (empty_mapping_sits a) f = let w = leaf_line a in record { fits = w.fits; rises = w.rises; free = w.free; bare = w.bare; whole = w.whole }
one_line (sequence_on_line l a m) f = line_within refl l a m
one_line (mapping_on_line l a m) f = line_within refl l a m
one_line (sequence_in_block l a m) f = absurd (true≢false f)
one_line (mapping_in_block l a m) f = absurd (true≢false f)

pub whole_line : (x : Node) → is_text x || is_filled_flow x ≡ true → is_block_collection x ≡ false
whole_line (scalar at props style text lines) e = refl
whole_line (alias at name) e = refl
whole_line (sequence at flow props no_items) e = refl
whole_line (sequence at flow props (item x xs)) e = ap not e
whole_line (mapping at flow props no_pairs) e = refl
whole_line (mapping at flow props (pair k v ps)) e = ap not e

pub key_line : (s : Style) (column : ℕ) (k : Node) → is_one_line_key s column k ≡ true → is_block_collection k ≡ false
key_line s column (scalar at props style text lines) e = refl
key_line s column (alias at name) e = refl
key_line s column (sequence at flow props no_items) e = refl
key_line s column (sequence at flow props (item x xs)) e = ap not (and_parts flow (fits s column (sequence at flow props (item x xs))) e).0
key_line s column (mapping at flow props no_pairs) e = refl
key_line s column (mapping at flow props (pair k v ps)) e = ap not (and_parts flow (fits s column (mapping at flow props (pair k v ps))) e).0

-- The rows of such a node.

line_row_rises : {i j : ℕ} (column : ℕ) (x : Node) (w : List ℕ) → Rises i (items_in x) j → Rises i (items_on (one_line_row column x w)) j
line_row_rises column x [] a = no_place (rises_order a)
line_row_rises {i} {j} column x (b ∷ w) a = subst (λ z. Rises i z j) (sym (append-nil (items_in x))) a

line_row_fits : {cs : List CommentValue} (column : ℕ) (x : Node) (w : List ℕ) → LineFits cs (items_in x) (starts_of (leaves x)) → RowsFit cs (one_line_row column x w)
line_row_fits column x [] a = no_rows_fit
line_row_fits column x (b ∷ w) a = row_fits a (no_key refl) no_rows_fit

-- the claim for the rows of a node, whatever its margins
pub record NodeFlows (c : LayoutSetting) (i j : ℕ) (x : Node) : Type 0 where
  pub rises : (margins : Margins) → Rises i (items_on (rows c margins x)) j
  pub fits : (margins : Margins) → RowsFit c.comments (rows c margins x)

pub scalar_flows : (c : LayoutSetting) {i j : ℕ} (at : NodeOffsets) (props : PropsValue) (style : ScalarStyle) (text : List ℕ) (lines : List (List ℕ)) → OneLine c.comments i j (scalar at props style text lines)
    → NodeFlows c i j (scalar at props style text lines)
scalar_flows c at props Plain text lines a = record {
  rises = λ margins. line_row_rises margins.column (scalar at props Plain text lines) (written c.style (scalar at props Plain text lines)) a.rises;
  fits = λ margins. line_row_fits margins.column (scalar at props Plain text lines) (written c.style (scalar at props Plain text lines)) a.fits;
}
scalar_flows c at props Single text lines a = record {
  rises = λ margins. line_row_rises margins.column (scalar at props Single text lines) (written c.style (scalar at props Single text lines)) a.rises;
  fits = λ margins. line_row_fits margins.column (scalar at props Single text lines) (written c.style (scalar at props Single text lines)) a.fits;
}
scalar_flows c at props Double text lines a = record {
  rises = λ margins. line_row_rises margins.column (scalar at props Double text lines) (written c.style (scalar at props Double text lines)) a.rises;
  fits = λ margins. line_row_fits margins.column (scalar at props Double text lines) (written c.style (scalar at props Double text lines)) a.fits;
}
scalar_flows c {i} {j} at props Literal text lines a = record {
  rises = λ margins. subst (λ z. Rises i z j) (sym (append-nil (items_in (scalar at props Literal text lines)))) a.rises;
  fits = λ margins. row_fits a.fits (no_key refl) no_rows_fit;
}
scalar_flows c {i} {j} at props Folded text lines a = record {
  rises = λ margins. subst (λ z. Rises i z j) (sym (append-nil (items_in (scalar at props Folded text lines)))) a.rises;
  fits = λ margins. row_fits a.fits (no_key refl) no_rows_fit;
}

pub line_flows : (c : LayoutSetting) {i j : ℕ} (x : Node) → ((margins : Margins) → rows c margins x ≡ one_line_row margins.column x (written c.style x)) → OneLine c.comments i j x → NodeFlows c i j x
line_flows c {i} {j} x e a = record {
  rises = λ margins. subst (λ w. Rises i (items_on w) j) (sym (e margins)) (line_row_rises margins.column x (written c.style x) a.rises);
  fits = λ margins. subst (λ w. RowsFit c.comments w) (sym (e margins)) (line_row_fits margins.column x (written c.style x) a.fits);
}

pub props_rises : {i j : ℕ} (column : ℕ) (w : List ℕ) (xs : List Row) → Rises i (items_on xs) j → Rises i (items_on (props_row column w ++ xs)) j
props_rises column [] xs a = a
props_rises column (b ∷ w) xs a = a

pub props_fit : {cs : List CommentValue} (column : ℕ) (w : List ℕ) (xs : List Row) → RowsFit cs xs → RowsFit cs (props_row column w ++ xs)
props_fit column [] xs a = a
props_fit column (b ∷ w) xs a = row_fits (none_fits []) (no_key refl) a

-- The first row of a value beside its key: it has the whole value, or only properties of it.
pub data FirstOf (x : Node) : List Row → Type 0 where
  no_first : FirstOf x []
  bare_first : {row : Row} {rows : List Row} → is_text x || is_filled_flow x ≡ false → row.items ≡ [] → row.leaves ≡ [] → row.key_comment ≡ None → FirstOf x (row ∷ rows)
  whole_first : {row : Row} {rows : List Row} → is_text x || is_filled_flow x ≡ true → row.items ≡ items_in x → row.leaves ≡ leaves x → row.key_comment ≡ None → FirstOf x (row ∷ rows)

span_first : (x : Node) (row : Row) (rows : List Row) (o : Option Span) → items_in x ≡ map (λ s. s.start) (spans_of_leaf o) → leaves x ≡ spans_of_leaf o → is_text x || is_filled_flow x ≡ is_some o || false
    → row.items ≡ items_in x → row.leaves ≡ leaves x → row.key_comment ≡ None → FirstOf x (row ∷ rows)
span_first x row rows None e f g h k l = bare_first g (h ∙ e) (k ∙ f) l
span_first x row rows (Some s) e f g h k l = whole_first g h k l

line_first : (x : Node) (column : ℕ) (w : List ℕ) (o : Option Span) → items_in x ≡ map (λ s. s.start) (spans_of_leaf o) → leaves x ≡ spans_of_leaf o → is_text x || is_filled_flow x ≡ is_some o || false
    → FirstOf x (one_line_row column x w)
line_first x column [] o e f g = no_first
line_first x column (b ∷ w) o e f g = span_first x _ [] o e f g refl refl refl

flow_first : (x : Node) (column : ℕ) (w : List ℕ) → is_text x || is_filled_flow x ≡ true → FirstOf x (one_line_row column x w)
flow_first x column [] e = no_first
flow_first x column (b ∷ w) e = whole_first e refl refl refl

props_first : (x : Node) (column : ℕ) (w : List ℕ) (xs : List Row) → is_text x || is_filled_flow x ≡ false → (true && is_empty_text w) ≡ false → FirstOf x (props_row column w ++ xs)
props_first x column [] xs f e = absurd (true≢false e)
props_first x column (b ∷ w) xs f e = bare_first f refl refl refl

pub first_of : (c : LayoutSetting) (margins : Margins) (x : Node) → House c x → begins_below x ≡ false → FirstOf x (rows c margins x)
first_of c margins (scalar at props Plain text lines) h e = line_first (scalar at props Plain text lines) margins.column (written c.style (scalar at props Plain text lines)) at.span refl refl refl
first_of c margins (scalar at props Single text lines) h e = line_first (scalar at props Single text lines) margins.column (written c.style (scalar at props Single text lines)) at.span refl refl refl
first_of c margins (scalar at props Double text lines) h e = line_first (scalar at props Double text lines) margins.column (written c.style (scalar at props Double text lines)) at.span refl refl refl
first_of c margins (scalar at props Literal text lines) h e = span_first (scalar at props Literal text lines) _ [] at.span refl refl refl refl refl refl
first_of c margins (scalar at props Folded text lines) h e = span_first (scalar at props Folded text lines) _ [] at.span refl refl refl refl refl refl
first_of c margins (alias at name) h e = line_first (alias at name) margins.column (written c.style (alias at name)) at.span refl refl refl
first_of c margins (sequence at true props no_items) h e = line_first (sequence at true props no_items) margins.column (written c.style (sequence at true props no_items)) at.span refl refl refl
first_of c margins (sequence at true props (item x xs)) h e = flow_first (sequence at true props (item x xs)) margins.column (written c.style (sequence at true props (item x xs))) refl
first_of c margins (sequence at false props no_items) h e = absurd (true≢false (same_flag h))
first_of c margins (sequence at false props (item x xs)) h e = props_first (sequence at false props (item x xs)) margins.column (props_text props) (rows_of_items c margins.entries (item x xs)) refl e
first_of c margins (mapping at true props no_pairs) h e = line_first (mapping at true props no_pairs) margins.column (written c.style (mapping at true props no_pairs)) at.span refl refl refl
first_of c margins (mapping at true props (pair k v ps)) h e = flow_first (mapping at true props (pair k v ps)) margins.column (written c.style (mapping at true props (pair k v ps))) refl
first_of c margins (mapping at false props no_pairs) h e = absurd (true≢false (same_flag_of_map h))
first_of c margins (mapping at false props (pair k v ps)) h e = props_first (mapping at false props (pair k v ps)) margins.column (props_text props) (rows_of_pairs c margins.entries (pair k v ps)) refl e

pub whole_not_below : (x : Node) → is_text x || is_filled_flow x ≡ true → begins_below x ≡ false
whole_not_below x e = ap (λ b. b && is_empty_text (props_text (props_of x))) (whole_line x e)
