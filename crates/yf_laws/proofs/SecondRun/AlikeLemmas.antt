-- The text of trees that are alike except for offsets: equal texts on one line, equal columns, rows of equal shapes.
use Rattle.std.proofs.Common.{◌≡◌, ℕ, ◌+◌, ◌-◌, Bool, true, false, not, ◌&&◌, List, [], ◌∷◌, ◌++◌, length, map, codes, replicate, Option, Some, None, refl, sym, ap, ◌∙◌}
use Rattle.std.specs.Prelude.{is_some, if◌then◌else◌, nat_le}
use Rattle.std.proofs.lemmas.List.{length-append, map-append}
use Rattle.yf_comments.specs.Comment.{CommentValue}
use Rattle.yf_props.specs.Props.{PropsValue}
use Rattle.yf_events.specs.Alike.{Alike, alike_scalars, alike_aliases, alike_sequences, alike_mappings, AlikeItems, alike_nothing, alike_item, AlikePairs, alike_no_pairs, alike_pair}
use Rattle.yf_events.specs.Tree.{NodeOffsets, Node, scalar, Items, Pairs, props_of, leaves, leaves_of_items, leaves_of_pairs, spans_of_leaf, is_text, is_filled_flow, is_block_collection, is_sequence}
use Rattle.yf_events.specs.declared.event.ScalarStyle.{ScalarStyle}
use Rattle.yf_events.specs.declared.event.ScalarStyle.TheVariants.{Plain, Single, Double, Literal, Folded}
use Rattle.yf_events.specs.declared.event.Span.{Span}
use Rattle.yf_forms.specs.declared.style.Style.{Style}
use Rattle.yf_forms.specs.NormalForms.Normal.{LayoutSetting, Margins, inner_margins, fits, is_one_line_key, is_implicit, key_comment, key_margins, value_margins, value_column, value_entries, value_of_implicit}
use Rattle.yf_forms.specs.Nodes.OneLine.{width, spaced, props_text, bare, more_items, more_pairs, written, colon_after}
use Rattle.yf_laws.specs.Layouts.RowShapes.{RowShape, shape_of, joined_shapes, shapes_after_key, KeysAgree}
use Rattle.yf_forms.specs.Nodes.BlockLines.{header_text, block_lines, final_feeds, is_kept_tail}
use Rattle.yf_print.specs.Layouts.Rows.{Row, anywhere, tail_ending, block_scalar, joined, one_line_row, one_line, scalar_rows, entry_row, colon_row, key_row, after_sign, begins_below, after_key, explicit_pair, implicit_pair, pair_rows, Start}
use Rattle.yf_forms.specs.Nodes.Lines.{is_empty_text}
use Rattle.yf_forms.proofs.Decide.CountLemmas.{two_counts}

-- Texts on one line.

pub same_props : {K : Node → Node → Node → Node → Type 0} {x y : Node} → Alike K x y → props_of x ≡ props_of y
same_props (alike_scalars e) = refl
same_props (alike_aliases e) = refl
same_props (alike_sequences e a) = refl
same_props (alike_mappings e a) = refl

pub same_colon : {K : Node → Node → Node → Node → Type 0} {x y : Node} → Alike K x y → colon_after x ≡ colon_after y
same_colon (alike_scalars {at = at} {bt = bt} {props = props} {style = style} {text = text} {lines = lines} e) = by_scalar style text where
  by_scalar : (style : ScalarStyle) (text : List ℕ) → colon_after (scalar at props style text lines) ≡ colon_after (scalar bt props style text lines)
  by_scalar Plain [] = refl
  by_scalar Plain (b ∷ text) = refl
  by_scalar Single text = refl
  by_scalar Double text = refl
  by_scalar Literal text = refl
  by_scalar Folded text = refl
same_colon (alike_aliases e) = refl
same_colon (alike_sequences e a) = refl
same_colon (alike_mappings e a) = refl

-- the text of a node within a collection, with its properties, followed by r
in_collection : (house : Style) {K : Node → Node → Node → Node → Type 0} {x y : Node} (r s : List ℕ) → Alike K x y → bare house x ≡ bare house y → r ≡ s
    → spaced (props_text (props_of x)) (bare house x) ++ r ≡ spaced (props_text (props_of y)) (bare house y) ++ s
in_collection house {x = x} {y = y} r s a e p =
    ap (λ z. spaced (props_text z) (bare house x) ++ r) (same_props a)
    ∙ (ap (λ z. spaced (props_text (props_of y)) z ++ r) e ∙ ap (λ z. spaced (props_text (props_of y)) (bare house y) ++ z) p)

-- the text of a key with its value
in_mapping : (house : Style) {K : Node → Node → Node → Node → Type 0} {k l v w : Node} (r s : List ℕ) → Alike K k l → Alike K v w → bare house k ≡ bare house l → bare house v ≡ bare house w → r ≡ s
    → spaced (props_text (props_of k)) (bare house k) ++ (colon_after k ++ (codes " " ++ (spaced (props_text (props_of v)) (bare house v) ++ r)))
    ≡ spaced (props_text (props_of l)) (bare house l) ++ (colon_after l ++ (codes " " ++ (spaced (props_text (props_of w)) (bare house w) ++ s)))
in_mapping house {k = k} {l = l} {v = v} {w = w} r s a b e f p =
    let value = in_collection house r s b f p in
    in_collection house _ _ a e
    (ap (λ z. z ++ (codes " " ++ (spaced (props_text (props_of v)) (bare house v) ++ r))) (same_colon a)
    ∙ ap (λ z. colon_after l ++ (codes " " ++ z)) value)

mutual
  pub same_bare : (house : Style) {K : Node → Node → Node → Node → Type 0} {x y : Node} → Alike K x y → bare house x ≡ bare house y
  same_bare house (alike_scalars e) = refl
  same_bare house (alike_aliases e) = refl
  same_bare house (alike_sequences e alike_nothing) = refl
  same_bare house (alike_sequences e (alike_item {xs = xs} {ys = ys} a rest)) =
      ap (λ z. codes "[" ++ z) (in_collection house _ _ a (same_bare house a) (ap (λ z. z ++ codes "]") (same_items house rest)))
  same_bare house (alike_mappings e alike_no_pairs) = refl
  same_bare house (alike_mappings e (alike_pair a b k rest)) =
      ap (λ z. codes "{" ++ z) (in_mapping house _ _ a b (same_bare house a) (same_bare house b) (ap (λ z. z ++ codes "}") (same_pairs house rest)))

  same_items : (house : Style) {K : Node → Node → Node → Node → Type 0} {xs ys : Items} → AlikeItems K xs ys → more_items house xs ≡ more_items house ys
  same_items house alike_nothing = refl
  same_items house (alike_item a rest) = ap (λ z. codes ", " ++ z) (in_collection house _ _ a (same_bare house a) (same_items house rest))

  same_pairs : (house : Style) {K : Node → Node → Node → Node → Type 0} {ps qs : Pairs} → AlikePairs K ps qs → more_pairs house ps ≡ more_pairs house qs
  same_pairs house alike_no_pairs = refl
  same_pairs house (alike_pair a b k rest) = ap (λ z. codes ", " ++ z) (in_mapping house _ _ a b (same_bare house a) (same_bare house b) (same_pairs house rest))

pub same_written : (house : Style) {K : Node → Node → Node → Node → Type 0} {x y : Node} → Alike K x y → written house x ≡ written house y
same_written house {x = x} {y = y} a =
    ap (λ z. spaced (props_text z) (bare house x)) (same_props a) ∙ ap (λ z. spaced (props_text (props_of y)) z) (same_bare house a)

-- Widths, and what they decide.

pub same_fit : {K : Node → Node → Node → Node → Type 0} {x y : Node} (s : Style) (column : ℕ) → Alike K x y → fits s column x ≡ fits s column y
same_fit s column a = ap (λ z. nat_le (column + width z) s.max_line) (same_written s a)

same_one_line_key : {K : Node → Node → Node → Node → Type 0} {x y : Node} (s : Style) (column : ℕ) → Alike K x y
    → is_one_line_key s column x ≡ is_one_line_key s column y
same_one_line_key s column (alike_scalars {at = at} {bt = bt} {props = props} {style = style} {text = text} {lines = lines} e) = by_style style where
  by_style : (style : ScalarStyle) → is_one_line_key s column (scalar at props style text lines) ≡ is_one_line_key s column (scalar bt props style text lines)
  by_style Plain = refl
  by_style Single = refl
  by_style Double = refl
  by_style Literal = refl
  by_style Folded = refl
same_one_line_key s column (alike_aliases e) = refl
same_one_line_key s column (alike_sequences e alike_nothing) = refl
same_one_line_key s column (alike_sequences {at = at} {bt = bt} {flow = flow} {props = props} e (alike_item a rest)) =
    ap (λ z. flow && z) (same_fit s column (alike_sequences {at = at} {bt = bt} {flow = flow} {props = props} e (alike_item a rest)))
same_one_line_key s column (alike_mappings e alike_no_pairs) = refl
same_one_line_key s column (alike_mappings {at = at} {bt = bt} {flow = flow} {props = props} e (alike_pair a b k rest)) =
    ap (λ z. flow && z) (same_fit s column (alike_mappings {at = at} {bt = bt} {flow = flow} {props = props} e (alike_pair a b k rest)))

pub same_implicit : {K : Node → Node → Node → Node → Type 0} {x y : Node} (s : Style) (column : ℕ) → Alike K x y
    → is_implicit s column x ≡ is_implicit s column y
same_implicit {x = x} {y = y} s column a =
    ap (λ z. z && nat_le (width (written s x)) 1023) (same_one_line_key s column a)
    ∙ ap (λ z. is_one_line_key s column y && nat_le (width z) 1023) (same_written s a)

-- Kinds of nodes, and their numbers of leaves.

pub same_sequence : {K : Node → Node → Node → Node → Type 0} {x y : Node} → Alike K x y → is_sequence x ≡ is_sequence y
same_sequence (alike_scalars e) = refl
same_sequence (alike_aliases e) = refl
same_sequence (alike_sequences e a) = refl
same_sequence (alike_mappings e a) = refl

pub same_filled_flow : {K : Node → Node → Node → Node → Type 0} {x y : Node} → Alike K x y → is_filled_flow x ≡ is_filled_flow y
same_filled_flow (alike_scalars e) = refl
same_filled_flow (alike_aliases e) = refl
same_filled_flow (alike_sequences e alike_nothing) = refl
same_filled_flow (alike_sequences e (alike_item a rest)) = refl
same_filled_flow (alike_mappings e alike_no_pairs) = refl
same_filled_flow (alike_mappings e (alike_pair a b k rest)) = refl

pub same_block : {K : Node → Node → Node → Node → Type 0} {x y : Node} → Alike K x y → is_block_collection x ≡ is_block_collection y
same_block (alike_scalars e) = refl
same_block (alike_aliases e) = refl
same_block (alike_sequences e alike_nothing) = refl
same_block (alike_sequences e (alike_item a rest)) = refl
same_block (alike_mappings e alike_no_pairs) = refl
same_block (alike_mappings e (alike_pair a b k rest)) = refl

pub same_text : {K : Node → Node → Node → Node → Type 0} {x y : Node} → Alike K x y → is_text x ≡ is_text y
same_text (alike_scalars e) = e
same_text (alike_aliases e) = e
same_text (alike_sequences e alike_nothing) = e
same_text (alike_sequences e (alike_item a rest)) = refl
same_text (alike_mappings e alike_no_pairs) = e
same_text (alike_mappings e (alike_pair a b k rest)) = refl

pub same_below : {K : Node → Node → Node → Node → Type 0} {x y : Node} → Alike K x y → begins_below x ≡ begins_below y
same_below {x = x} {y = y} a =
    ap (λ z. z && is_empty_text (props_text (props_of x))) (same_block a)
    ∙ ap (λ z. is_block_collection y && is_empty_text (props_text z)) (same_props a)

one_leaf : (a b : Option Span) → is_some a ≡ is_some b → length (spans_of_leaf a) ≡ length (spans_of_leaf b)
one_leaf None None e = refl
one_leaf None (Some s) e = absurd cc
one_leaf (Some s) None e = absurd cc
one_leaf (Some s) (Some r) e = refl

mutual
  pub same_leaves : {K : Node → Node → Node → Node → Type 0} {x y : Node} → Alike K x y → length (leaves x) ≡ length (leaves y)
  same_leaves (alike_scalars e) = one_leaf _ _ e
  same_leaves (alike_aliases e) = one_leaf _ _ e
  same_leaves (alike_sequences e alike_nothing) = one_leaf _ _ e
  same_leaves (alike_sequences e (alike_item {x = x} {y = y} {xs = xs} {ys = ys} a rest)) =
      two_counts (leaves x) (leaves_of_items xs) (leaves y) (leaves_of_items ys) (same_leaves a) (same_item_leaves rest)
  same_leaves (alike_mappings e alike_no_pairs) = one_leaf _ _ e
  same_leaves (alike_mappings e (alike_pair {k = k} {l = l} {v = v} {w = w} {ps = ps} {qs = qs} a b c rest)) =
      two_counts (leaves k) (leaves v ++ leaves_of_pairs ps) (leaves l) (leaves w ++ leaves_of_pairs qs) (same_leaves a)
      (two_counts (leaves v) (leaves_of_pairs ps) (leaves w) (leaves_of_pairs qs) (same_leaves b) (same_pair_leaves rest))

  same_item_leaves : {K : Node → Node → Node → Node → Type 0} {xs ys : Items} → AlikeItems K xs ys
      → length (leaves_of_items xs) ≡ length (leaves_of_items ys)
  same_item_leaves alike_nothing = refl
  same_item_leaves (alike_item {x = x} {y = y} {xs = xs} {ys = ys} a rest) =
      two_counts (leaves x) (leaves_of_items xs) (leaves y) (leaves_of_items ys) (same_leaves a) (same_item_leaves rest)

  same_pair_leaves : {K : Node → Node → Node → Node → Type 0} {ps qs : Pairs} → AlikePairs K ps qs
      → length (leaves_of_pairs ps) ≡ length (leaves_of_pairs qs)
  same_pair_leaves alike_no_pairs = refl
  same_pair_leaves (alike_pair {k = k} {l = l} {v = v} {w = w} {ps = ps} {qs = qs} a b c rest) =
      two_counts (leaves k) (leaves v ++ leaves_of_pairs ps) (leaves l) (leaves w ++ leaves_of_pairs qs) (same_leaves a)
      (two_counts (leaves v) (leaves_of_pairs ps) (leaves w) (leaves_of_pairs qs) (same_leaves b) (same_pair_leaves rest))

-- Columns.

abbrev pub setting : Style → List CommentValue → LayoutSetting
setting s cs = record { style = s; comments = cs }

pub same_key_margins : {K : Node → Node → Node → Node → Type 0} {k l : Node} (s : Style) (column : ℕ) → Alike K k l → key_margins s column k ≡ key_margins s column l
same_key_margins s column a =
    ap (λ z. record { column = if z then column else column + s.indent; entries = column + s.indent; lines = column + s.indent }) (same_implicit s column a)

same_value_column : {K : Node → Node → Node → Node → Type 0} {k l : Node} (cs ds : List CommentValue) (v w : Node) (s : Style) (column : ℕ) → Alike K k l
    → is_some (key_comment cs k v) ≡ is_some (key_comment ds l w) → value_column (setting s cs) column k v ≡ value_column (setting s ds) column l w
same_value_column {k = k} {l = l} cs ds v w s column a e =
    ap (λ z. if z then column + s.indent else column + width (written s k) + width (colon_after k) + 1) e
    ∙ (ap (λ z. if is_some (key_comment ds l w) then column + s.indent else column + width z + width (colon_after k) + 1) (same_written s a)
    ∙ ap (λ z. if is_some (key_comment ds l w) then column + s.indent else column + width (written s l) + width z + 1) (same_colon a))

pub same_value_entries : {K : Node → Node → Node → Node → Type 0} {v w : Node} (s : Style) (column : ℕ) → Alike K v w
    → value_entries s column v ≡ value_entries s column w
same_value_entries s column a = ap (λ z. if z && not s.seq_indent then column else column + s.indent) (same_sequence a)

margins_of : ℕ → ℕ → ℕ → Margins
margins_of column entries lines = record { column = column; entries = entries; lines = lines }

pub same_value_margins : {K : Node → Node → Node → Node → Type 0} {cs ds : List CommentValue} {k l v w : Node} (s : Style) (column : ℕ) → Alike K k l
    → Alike K v w → KeysAgree s cs ds k v l w → value_margins (setting s cs) column k v ≡ value_margins (setting s ds) column l w
unfolding margins_of
same_value_margins {cs = cs} {ds = ds} {k = k} {l = l} {v = v} {w = w} s column a b g = by_form (is_implicit s column k) refl where
  of_implicit : is_implicit s column k ≡ true → margins_of (value_column (setting s cs) column k v) (value_entries s column v) (column + s.indent)
      ≡ margins_of (value_column (setting s ds) column l w) (value_entries s column w) (column + s.indent)
  of_implicit e =
      ap (λ z. margins_of z (value_entries s column v) (column + s.indent)) (same_value_column cs ds v w s column a (g.comment column e))
      ∙ ap (λ z. margins_of (value_column (setting s ds) column l w) z (column + s.indent)) (same_value_entries s column b)

  by_form : (form : Bool) → is_implicit s column k ≡ form → value_margins (setting s cs) column k v ≡ value_margins (setting s ds) column l w
  by_form true e =
      ap (λ z. if z then value_of_implicit (setting s cs) column k v else inner_margins s column) e
      ∙ (of_implicit e ∙ sym (ap (λ z. if z then value_of_implicit (setting s ds) column l w else inner_margins s column) (sym (same_implicit s column a) ∙ e)))
  by_form false e =
      ap (λ z. if z then value_of_implicit (setting s cs) column k v else inner_margins s column) e
      ∙ sym (ap (λ z. if z then value_of_implicit (setting s ds) column l w else inner_margins s column) (sym (same_implicit s column a) ∙ e))

-- Rows.

abbrev pub shapes : List Row → List RowShape
shapes xs = map (λ x. shape_of x) xs

pub both_shapes : (a b c d : List Row) → shapes a ≡ shapes c → shapes b ≡ shapes d → shapes (a ++ b) ≡ shapes (c ++ d)
both_shapes a b c d e f =
    map-append (λ x. shape_of x) a b ∙ (ap (λ z. z ++ shapes b) e ∙ (ap (λ z. shapes c ++ z) f ∙ sym (map-append (λ x. shape_of x) c d)))

joined_shape : (head : Row) (n : ℕ) (rs : List Row) → shapes (joined head n rs) ≡ joined_shapes (shape_of head) n (shapes rs)
joined_shape head n [] = refl
joined_shape head n (r ∷ rs) =
    ap (λ z. record {
      column = head.column;
      text = head.text ++ (replicate n 32 ++ r.text);
      starts = z;
      leaves = length (head.leaves ++ r.leaves);
      is_commented = is_some r.key_comment;
      ending = r.ending;
      body = r.body;
      lines = r.lines;
    } ∷ shapes rs) (map-append (λ (s : Start). (s.column, s.is_item)) head.starts r.starts)
    ∙ ap (λ z. record {
      column = head.column;
      text = head.text ++ (replicate n 32 ++ r.text);
      starts = map (λ (s : Start). (s.column, s.is_item)) head.starts ++ map (λ (s : Start). (s.column, s.is_item)) r.starts;
      leaves = z;
      is_commented = is_some r.key_comment;
      ending = r.ending;
      body = r.body;
      lines = r.lines;
    } ∷ shapes rs) (length-append head.leaves r.leaves)

pub same_joined : (h g : Row) (n : ℕ) (xs ys : List Row) → shape_of h ≡ shape_of g → shapes xs ≡ shapes ys → shapes (joined h n xs) ≡ shapes (joined g n ys)
same_joined h g n xs ys e f =
    joined_shape h n xs ∙ (ap (λ z. joined_shapes z n (shapes xs)) e ∙ (ap (λ z. joined_shapes (shape_of g) n z) f ∙ sym (joined_shape g n ys)))

after_shape : (head : Row) (c : Option CommentValue) (below : Bool) (rs : List Row)
    → shapes (after_key head c below rs) ≡ shapes_after_key (shape_of head) (is_some c) below (shapes rs)
after_shape head (Some c) below rs = refl
after_shape head None true rs = refl
after_shape head None false rs = joined_shape head 1 rs

same_after : (h g : Row) (c d : Option CommentValue) (a b : Bool) (xs ys : List Row) → shape_of h ≡ shape_of g → is_some c ≡ is_some d → a ≡ b
    → shapes xs ≡ shapes ys → shapes (after_key h c a xs) ≡ shapes (after_key g d b ys)
same_after h g c d a b xs ys e k p f =
    after_shape h c a xs
    ∙ (ap (λ z. shapes_after_key z (is_some c) a (shapes xs)) e
    ∙ (ap (λ z. shapes_after_key (shape_of g) z a (shapes xs)) k
    ∙ (ap (λ z. shapes_after_key (shape_of g) (is_some d) z (shapes xs)) p
    ∙ (ap (λ z. shapes_after_key (shape_of g) (is_some d) b z) f
    ∙ sym (after_shape g d b ys)))))

-- a row with a text and that many leaves
text_shape : List (ℕ × Bool) → ℕ → List ℕ → ℕ → RowShape
text_shape starts column text n = record { column = column; text = text; starts = starts; leaves = n; is_commented = false; ending = anywhere; body = []; lines = 0 }

same_one_row : (column : ℕ) (x y : Node) (text : List ℕ) → length (leaves x) ≡ length (leaves y) → shapes (one_line_row column x text) ≡ shapes (one_line_row column y text)
unfolding text_shape
same_one_row column x y [] e = refl
same_one_row column x y (b ∷ text) e = ap (λ z. text_shape [] column (b ∷ text) z ∷ []) e

pub same_row : (house : Style) {K : Node → Node → Node → Node → Type 0} {x y : Node} (margins : Margins) → Alike K x y → shapes (one_line house margins x) ≡ shapes (one_line house margins y)
same_row house {x = x} {y = y} margins a =
    same_one_row margins.column x y (written house x) (same_leaves a) ∙ ap (λ z. shapes (one_line_row margins.column y z)) (same_written house a)

same_key_row : (house : Style) {K : Node → Node → Node → Node → Type 0} {k l : Node} (column : ℕ) → Alike K k l → shape_of (key_row house column k) ≡ shape_of (key_row house column l)
unfolding text_shape
same_key_row house {k = k} {l = l} column a =
    ap (λ z. text_shape ((column, false) ∷ []) column (z ++ colon_after k) (length (leaves k))) (same_written house a)
    ∙ (ap (λ z. text_shape ((column, false) ∷ []) column (written house l ++ z) (length (leaves k))) (same_colon a)
    ∙ ap (λ z. text_shape ((column, false) ∷ []) column (written house l ++ colon_after l) z) (same_leaves a))

same_block_scalar : (s : Style) (margins : Margins) (x y : Node) (props : PropsValue) (style : ScalarStyle) (text : List ℕ) (lines : List (List ℕ))
    → length (leaves x) ≡ length (leaves y) → shapes (block_scalar s margins x props style text lines) ≡ shapes (block_scalar s margins y props style text lines)
same_block_scalar s margins x y props style text lines e =
    ap (λ z. record {
      column = margins.column;
      text = spaced (props_text props) (header_text style s.indent text);
      starts = [];
      leaves = z;
      is_commented = false;
      ending = tail_ending (is_kept_tail (final_feeds text));
      body = block_lines style margins.lines text lines;
      lines = margins.lines;
    } ∷ []) e

pub same_scalar : {K : Node → Node → Node → Node → Type 0} {at bt : NodeOffsets} {props : PropsValue} {text : List ℕ} {lines : List (List ℕ)} (s : Style) (margins : Margins)
    (style : ScalarStyle) → Alike K (scalar at props style text lines) (scalar bt props style text lines)
    → shapes (scalar_rows s margins (scalar at props style text lines) props style text lines) ≡ shapes (scalar_rows s margins (scalar bt props style text lines) props style text lines)
same_scalar s margins Plain a = same_row s margins a
same_scalar s margins Single a = same_row s margins a
same_scalar s margins Double a = same_row s margins a
same_scalar {at = at} {bt = bt} {props = props} {text = text} {lines = lines} s margins Literal a =
    same_block_scalar s margins (scalar at props Literal text lines) (scalar bt props Literal text lines) props Literal text lines (same_leaves a)
same_scalar {at = at} {bt = bt} {props = props} {text = text} {lines = lines} s margins Folded a =
    same_block_scalar s margins (scalar at props Folded text lines) (scalar bt props Folded text lines) props Folded text lines (same_leaves a)

pub same_pair_rows : {K : Node → Node → Node → Node → Type 0} {cs ds : List CommentValue} {k l v w : Node} (s : Style) (column : ℕ) (kr lr vr wr : List Row)
    → Alike K k l → Alike K v w → KeysAgree s cs ds k v l w → shapes kr ≡ shapes lr → shapes vr ≡ shapes wr
    → shapes (pair_rows (setting s cs) column k v kr vr) ≡ shapes (pair_rows (setting s ds) column l w lr wr)
same_pair_rows {cs = cs} {ds = ds} {k = k} {l = l} {v = v} {w = w} s column kr lr vr wr a b g e f = by_form (is_implicit s column k) refl where
  implicit : is_implicit s column k ≡ true → shapes (implicit_pair (setting s cs) column k v vr) ≡ shapes (implicit_pair (setting s ds) column l w wr)
  implicit h =
      same_after (key_row s column k) (key_row s column l) (key_comment cs k v) (key_comment ds l w) (begins_below v) (begins_below w) vr wr
      (same_key_row s column a) (g.comment column h) (same_below b) f

  explicit : shapes (explicit_pair s column k kr vr) ≡ shapes (explicit_pair s column l lr wr)
  explicit =
      both_shapes (after_sign s (entry_row column (codes "?") k) kr) (after_sign s (colon_row column k) vr)
      (after_sign s (entry_row column (codes "?") l) lr) (after_sign s (colon_row column l) wr)
      (same_joined (entry_row column (codes "?") k) (entry_row column (codes "?") l) (s.indent - 1) kr lr refl e)
      (same_joined (colon_row column k) (colon_row column l) (s.indent - 1) vr wr refl f)

  by_form : (form : Bool) → is_implicit s column k ≡ form
      → shapes (pair_rows (setting s cs) column k v kr vr) ≡ shapes (pair_rows (setting s ds) column l w lr wr)
  by_form true h =
      ap (λ z. shapes (if z then implicit_pair (setting s cs) column k v vr else explicit_pair s column k kr vr)) h
      ∙ (implicit h ∙ sym (ap (λ z. shapes (if z then implicit_pair (setting s ds) column l w wr else explicit_pair s column l lr wr)) (sym (same_implicit s column a) ∙ h)))
  by_form false h =
      ap (λ z. shapes (if z then implicit_pair (setting s cs) column k v vr else explicit_pair s column k kr vr)) h
      ∙ (explicit ∙ sym (ap (λ z. shapes (if z then implicit_pair (setting s ds) column l w wr else explicit_pair s column l lr wr)) (sym (same_implicit s column a) ∙ h)))
