-- Matched nodes have matched rows: as many, with matched offsets, notes and comments of keys.
use Rattle.std.proofs.Common.{◌≡◌, ℕ, Bool, true, false, true≢false, List, [], ◌∷◌, ◌++◌, map, Option, None, refl, sym, ap, ◌∙◌, subst}
use Rattle.std.specs.Prelude.{◌&&◌, ◌-◌, if◌then◌else◌, is_some}
use Rattle.yf_comments.specs.Comment.{CommentValue}
use Rattle.yf_props.specs.Props.{PropsValue}
use Rattle.yf_events.specs.Tree.{NodeOffsets, Node, scalar, alias, sequence, mapping, Items, no_items, item, Pairs, no_pairs, pair, standing, leaves, items_in}
use Rattle.yf_events.specs.declared.directive.Directive.{Directive}
use Rattle.yf_events.specs.declared.event.Entry.{Entry}
use Rattle.yf_events.specs.declared.event.ScalarStyle.{ScalarStyle}
use Rattle.yf_events.specs.declared.event.ScalarStyle.TheVariants.{Plain, Single, Double, Literal, Folded}
use Rattle.yf_forms.specs.declared.style.Style.{Style}
use Rattle.yf_laws.specs.Preservation.FoundTrees.{words_of}
use Rattle.yf_forms.specs.NormalForms.Normal.{Margins, fits, inner_margins, is_implicit, key_margins, settled, settled_items, settled_pairs, value_margins}
use Rattle.yf_forms.specs.Nodes.OneLine.{props_text, written}
use Rattle.yf_laws.specs.Preservation.ReadingKey.{Each, none_each, one_each, Either, in_neither, in_both, PairedOffsets, SameSide, SameSpan, SameEntry, SameColons, colons_match, no_colon_counts, SameKeys, is_leaf_key, SameComment, NodesMatch, matched_scalars, matched_aliases, matched_empty_sequences, matched_empty_mappings, matched_sequences, matched_mappings, ItemsMatch, no_matched_items, matched_item, PairsMatch, no_matched_pairs, matched_pair}
use Rattle.yf_print.specs.Layouts.Rows.{Row, begins_below, beginning_at, begun_at, after_key, blank_before_entry, colon_offset, colon_row, directive_row, end_rows, entry_row, explicit_pair, implicit_pair, joined, key_row, one_line, one_line_row, pair_rows, props_row, rows, rows_of_items, rows_of_pairs, start_row}
use Rattle.yf_laws.proofs.SecondRun.AlikeLemmas.{same_below, same_fit, same_implicit, same_key_margins, same_value_margins, same_written, setting}
use Rattle.yf_laws.proofs.Keeps.MatchedLemmas.{each_append, entry_each, entry_of, items_each, key_each, keys_agree, leaves_each, matched_alike}

-- Settled nodes.

standing_either : {at : NodeOffsets} (p : Bool) (x y : Node) → standing x ≡ at → standing y ≡ at → standing (if p then x else y) ≡ at
standing_either true x y e f = e
standing_either false x y e f = f

module _ {ps : PairedOffsets} {cs ds : List CommentValue} (s : Style) (same : Each (SameComment ps) cs ds) where
  either_node : (p q : Bool) {x y z w : Node} → p ≡ q → NodesMatch ps s x y → NodesMatch ps s z w → NodesMatch ps s (if p then x else z) (if q then y else w)
  either_node true true e a b = a
  either_node false false e a b = b
  either_node true false e a b = absurd (true≢false e)
  either_node false true e a b = absurd (true≢false (sym e))

  standing_settled : (bs : List CommentValue) (margins : Margins) (x : Node) → standing (settled (setting s bs) margins x) ≡ standing x
  standing_settled bs margins (scalar at props style text lines) = refl
  standing_settled bs margins (alias at name) = refl
  standing_settled bs margins (sequence at flow props no_items) = refl
  standing_settled bs margins (sequence at flow props (item x xs)) =
      standing_either (flow && fits s margins.column (sequence at flow props (item x xs))) (sequence at flow props (item x xs))
      (sequence at false props (item (settled (setting s bs) (inner_margins s margins.entries) x) (settled_items (setting s bs) margins.entries xs))) refl refl
  standing_settled bs margins (mapping at flow props no_pairs) = refl
  standing_settled bs margins (mapping at flow props (pair k v qs)) =
      standing_either (flow && fits s margins.column (mapping at flow props (pair k v qs))) (mapping at flow props (pair k v qs))
      (mapping at false props (pair (settled (setting s bs) (key_margins s margins.entries k) k) (settled (setting s bs) (value_margins (setting s bs) margins.entries k v) v) (settled_pairs (setting s bs) margins.entries qs))) refl refl

  leaf_settled : (bs : List CommentValue) (margins : Margins) (k : Node) → is_leaf_key s k ≡ true → settled (setting s bs) margins k ≡ k
  leaf_settled bs margins (scalar at props style text lines) e = refl
  leaf_settled bs margins (alias at name) e = refl
  leaf_settled bs margins (sequence at flow props no_items) e = refl
  leaf_settled bs margins (sequence at flow props (item x xs)) e = absurd (true≢false (sym e))
  leaf_settled bs margins (mapping at flow props no_pairs) e = refl
  leaf_settled bs margins (mapping at flow props (pair k v qs)) e = absurd (true≢false (sym e))

  colons_kept : (margins other : Margins) (k l : Node) → SameColons ps s k l → SameColons ps s (settled (setting s cs) margins k) (settled (setting s ds) other l)
  colons_kept margins other k l (colons_match e) =
      colons_match
      (subst (λ (z : NodeOffsets). Each (SameSide ps.comments) (colon_offset z.entry) (colon_offset (standing (settled (setting s ds) other l)).entry)) (sym (standing_settled cs margins k))
      (subst (λ (z : NodeOffsets). Each (SameSide ps.comments) (colon_offset (standing k).entry) (colon_offset z.entry)) (sym (standing_settled ds other l)) e))
  colons_kept margins other k l (no_colon_counts e) = no_colon_counts (ap (is_leaf_key s) (leaf_settled cs margins k e) ∙ e)

  keys_kept : (margins other : Margins) (k l : Node) → SameKeys ps s k l → SameKeys ps s (settled (setting s cs) margins k) (settled (setting s ds) other l)
  keys_kept margins other k l i = record { begins = ap (λ (z : NodeOffsets). is_some z.entry) (standing_settled cs margins k) ∙ i.begins; colon = colons_kept margins other k l i.colon }

  mutual
    pub settled_matched : (margins : Margins) {x y : Node} → NodesMatch ps s x y → NodesMatch ps s (settled (setting s cs) margins x) (settled (setting s ds) margins y)
    settled_matched margins (matched_scalars a e) = matched_scalars a e
    settled_matched margins (matched_aliases a e) = matched_aliases a e
    settled_matched margins (matched_empty_sequences a e) = matched_empty_sequences a e
    settled_matched margins (matched_empty_mappings a e) = matched_empty_mappings a e
    settled_matched margins (matched_sequences {at = at} {bt = bt} {flow = flow} {props = props} {x = x} {y = y} {xs = xs} {ys = ys} a e m more) =
        either_node (flow && fits s margins.column (sequence at flow props (item x xs))) (flow && fits s margins.column (sequence bt flow props (item y ys)))
        (ap (λ b. flow && b) (same_fit s margins.column (matched_alike (matched_sequences {at = at} {bt = bt} {flow = flow} {props = props} a e m more)))) (matched_sequences a e m more)
        (matched_sequences a e (settled_matched (inner_margins s margins.entries) m) (items_settled margins.entries more))
    settled_matched margins (matched_mappings {at = at} {bt = bt} {flow = flow} {props = props} {k = k} {v = v} {l = l} {w = w} {qs = qs} {rs = rs} a e i m n more) =
        either_node (flow && fits s margins.column (mapping at flow props (pair k v qs))) (flow && fits s margins.column (mapping bt flow props (pair l w rs)))
        (ap (λ b. flow && b) (same_fit s margins.column (matched_alike (matched_mappings {at = at} {bt = bt} {flow = flow} {props = props} a e i m n more)))) (matched_mappings a e i m n more)
        (matched_mappings a e (keys_kept (key_margins s margins.entries k) (key_margins s margins.entries l) k l i)
        (subst (λ z. NodesMatch ps s (settled (setting s cs) (key_margins s margins.entries k) k) (settled (setting s ds) z l)) (same_key_margins s margins.entries (matched_alike m)) (settled_matched (key_margins s margins.entries k) m))
        (subst (λ z. NodesMatch ps s (settled (setting s cs) (value_margins (setting s cs) margins.entries k v) v) (settled (setting s ds) z w)) (same_value_margins s margins.entries (matched_alike m) (matched_alike n) (keys_agree s same i.begins m n))
        (settled_matched (value_margins (setting s cs) margins.entries k v) n))
        (pairs_settled margins.entries more))

    items_settled : (column : ℕ) {xs ys : Items} → ItemsMatch ps s xs ys → ItemsMatch ps s (settled_items (setting s cs) column xs) (settled_items (setting s ds) column ys)
    items_settled column no_matched_items = no_matched_items
    items_settled column (matched_item m more) = matched_item (settled_matched (inner_margins s column) m) (items_settled column more)

    pairs_settled : (column : ℕ) {qs rs : Pairs} → PairsMatch ps s qs rs → PairsMatch ps s (settled_pairs (setting s cs) column qs) (settled_pairs (setting s ds) column rs)
    pairs_settled column no_matched_pairs = no_matched_pairs
    pairs_settled column (matched_pair {k = k} {v = v} {l = l} {w = w} i m n more) =
        matched_pair (keys_kept (key_margins s column k) (key_margins s column l) k l i)
        (subst (λ z. NodesMatch ps s (settled (setting s cs) (key_margins s column k) k) (settled (setting s ds) z l)) (same_key_margins s column (matched_alike m)) (settled_matched (key_margins s column k) m))
        (subst (λ z. NodesMatch ps s (settled (setting s cs) (value_margins (setting s cs) column k v) v) (settled (setting s ds) z w)) (same_value_margins s column (matched_alike m) (matched_alike n) (keys_agree s same i.begins m n))
        (settled_matched (value_margins (setting s cs) column k v) n))
        (pairs_settled column more)

-- Rows.

pub record RowMatch (ps : PairedOffsets) (x y : Row) : Type 0 where
  pub items : Each (SameSide ps.comments) x.items y.items
  pub leaves : Each (SameSpan ps) x.leaves y.leaves
  pub key : Either (SameComment ps) x.key_comment y.key_comment
  pub blank : x.blank_before ≡ y.blank_before

blank_same : {ps : PairedOffsets} {a b : Option Entry} → Either (SameEntry ps) a b → blank_before_entry a ≡ blank_before_entry b
blank_same in_neither = refl
blank_same (in_both e) = e.blank

module _ {ps : PairedOffsets} where
  joined_match : (h g : Row) (n : ℕ) {xs ys : List Row} → RowMatch ps h g → Each (RowMatch ps) xs ys → Each (RowMatch ps) (joined h n xs) (joined g n ys)
  joined_match h g n a none_each = one_each a none_each
  joined_match h g n a (one_each b more) = one_each (record { items = each_append a.items b.items; leaves = each_append a.leaves b.leaves; key = b.key; blank = a.blank }) more

  line_match : (column : ℕ) (x y : Node) (w : List ℕ) → Each (SameSide ps.comments) (items_in x) (items_in y) → Each (SameSpan ps) (leaves x) (leaves y) → Each (RowMatch ps) (one_line_row column x w) (one_line_row column y w)
  line_match column x y [] a b = none_each
  line_match column x y (c ∷ w) a b = one_each (record { items = a; leaves = b; key = in_neither; blank = refl }) none_each

  one_match : (house : Style) (margins : Margins) (x y : Node) → NodesMatch ps house x y → Each (RowMatch ps) (one_line house margins x) (one_line house margins y)
  one_match house margins x y m = subst (λ w. Each (RowMatch ps) (one_line house margins x) (one_line_row margins.column y w)) (same_written house (matched_alike m)) (line_match margins.column x y (written house x) (items_each m) (leaves_each m))

  bare_row : {x y : Row} → x.items ≡ [] → y.items ≡ [] → x.leaves ≡ [] → y.leaves ≡ [] → x.key_comment ≡ None → y.key_comment ≡ None → x.blank_before ≡ y.blank_before → RowMatch ps x y
  bare_row {x} {y} a b c d e f g = record {
    items = subst (λ z. Each (SameSide ps.comments) z y.items) (sym a) (subst (λ z. Each (SameSide ps.comments) [] z) (sym b) none_each);
    leaves = subst (λ z. Each (SameSpan ps) z y.leaves) (sym c) (subst (λ z. Each (SameSpan ps) [] z) (sym d) none_each);
    key = subst (λ z. Either (SameComment ps) z y.key_comment) (sym e) (subst (λ z. Either (SameComment ps) None z) (sym f) in_neither);
    blank = g;
  }

  props_match : (column : ℕ) (w : List ℕ) {xs ys : List Row} → Each (RowMatch ps) xs ys → Each (RowMatch ps) (props_row column w ++ xs) (props_row column w ++ ys)
  props_match column [] a = a
  props_match column (b ∷ w) a = one_each (bare_row refl refl refl refl refl refl refl) a

  entry_match : {s : Style} (column : ℕ) (w : List ℕ) {x y : Node} → NodesMatch ps s x y → RowMatch ps (entry_row column w x) (entry_row column w y)
  entry_match column w m = record { items = entry_each m; leaves = none_each; key = in_neither; blank = blank_same (entry_of m) }

  key_match : (house : Style) (column : ℕ) {k l : Node} → NodesMatch ps house k l → RowMatch ps (key_row house column k) (key_row house column l)
  key_match house column m = record { items = each_append (entry_each m) (items_each m); leaves = leaves_each m; key = in_neither; blank = blank_same (entry_of m) }

  after_match : (house : Style) (column : ℕ) {k l : Node} {o p : Option CommentValue} (a b : Bool) {xs ys : List Row} → NodesMatch ps house k l → Either (SameComment ps) o p → a ≡ b → Each (RowMatch ps) xs ys
      → Each (RowMatch ps) (after_key (key_row house column k) o a xs) (after_key (key_row house column l) p b ys)
  after_match house column a b m (in_both c) e more =
      let head = key_match house column m in one_each (record { items = head.items; leaves = head.leaves; key = in_both c; blank = head.blank }) more
  after_match house column true true m in_neither e more = let head = key_match house column m in one_each (record { items = head.items; leaves = head.leaves; key = in_neither; blank = head.blank }) more
  after_match house column {k = k} {l = l} false false m in_neither e more = joined_match (key_row house column k) (key_row house column l) 1 (key_match house column m) more
  after_match house column true false m in_neither e more = absurd (true≢false e)
  after_match house column false true m in_neither e more = absurd (true≢false (sym e))

  block_match : {at bt : NodeOffsets} {props : PropsValue} {text : List ℕ} {lines : List (List ℕ)} (s : Style) (cs ds : List CommentValue) (margins : Margins) (style : ScalarStyle)
      → NodesMatch ps s (scalar at props style text lines) (scalar bt props style text lines)
      → Each (RowMatch ps) (rows (setting s cs) margins (scalar at props style text lines)) (rows (setting s ds) margins (scalar bt props style text lines))
  block_match {at} {bt} {props} {text} {lines} s cs ds margins Plain m = one_match s margins (scalar at props Plain text lines) (scalar bt props Plain text lines) m
  block_match {at} {bt} {props} {text} {lines} s cs ds margins Single m = one_match s margins (scalar at props Single text lines) (scalar bt props Single text lines) m
  block_match {at} {bt} {props} {text} {lines} s cs ds margins Double m = one_match s margins (scalar at props Double text lines) (scalar bt props Double text lines) m
  block_match s cs ds margins Literal m = one_each (record { items = items_each m; leaves = leaves_each m; key = in_neither; blank = refl }) none_each
  block_match s cs ds margins Folded m = one_each (record { items = items_each m; leaves = leaves_each m; key = in_neither; blank = refl }) none_each

module _ {ps : PairedOffsets} {cs ds : List CommentValue} (s : Style) (same : Each (SameComment ps) cs ds) where
  abbrev Match : List Row → List Row → Type 0
  Match xs ys = Each (RowMatch ps) xs ys

  leaf_implicit : (column : ℕ) (k : Node) → is_leaf_key s k ≡ true → is_implicit s column k ≡ true
  leaf_implicit column (scalar at props Plain text lines) e = e
  leaf_implicit column (scalar at props Single text lines) e = e
  leaf_implicit column (scalar at props Double text lines) e = e
  leaf_implicit column (scalar at props Literal text lines) e = absurd (true≢false (sym e))
  leaf_implicit column (scalar at props Folded text lines) e = absurd (true≢false (sym e))
  leaf_implicit column (alias at name) e = e
  leaf_implicit column (sequence at flow props no_items) e = e
  leaf_implicit column (sequence at flow props (item x xs)) e = absurd (true≢false (sym e))
  leaf_implicit column (mapping at flow props no_pairs) e = e
  leaf_implicit column (mapping at flow props (pair k v qs)) e = absurd (true≢false (sym e))

  -- the `:` of a key that has a `?`
  colon_counts : (column : ℕ) (k l : Node) → SameColons ps s k l → is_implicit s column k ≡ false → Each (SameSide ps.comments) (colon_offset (standing k).entry) (colon_offset (standing l).entry)
  colon_counts column k l (colons_match e) f = e
  colon_counts column k l (no_colon_counts e) f = absurd (true≢false (sym (leaf_implicit column k e) ∙ f))

  pair_match : (column : ℕ) {k l v w : Node} {xs ys us vs : List Row} → SameKeys ps s k l → NodesMatch ps s k l → NodesMatch ps s v w → Match xs ys → Match us vs
      → Match (pair_rows (setting s cs) column k v xs us) (pair_rows (setting s ds) column l w ys vs)
  pair_match column {k} {l} {v} {w} {xs} {ys} {us} {vs} i m n a b = by (is_implicit s column k) (is_implicit s column l) refl (same_implicit s column (matched_alike m)) where
    by : (p q : Bool) → is_implicit s column k ≡ p → p ≡ q → Match (if p then implicit_pair (setting s cs) column k v us else explicit_pair s column k xs us) (if q then implicit_pair (setting s ds) column l w vs else explicit_pair s column l ys vs)
    by true true f e = after_match s column (begins_below v) (begins_below w) m (key_each same i.begins m n) (same_below (matched_alike n)) b
    by false false f e =
        each_append (joined_match (entry_row column (63 ∷ []) k) (entry_row column (63 ∷ []) l) (s.indent - 1) (entry_match column (63 ∷ []) m) a)
        (joined_match (colon_row column k) (colon_row column l) (s.indent - 1) (record { items = colon_counts column k l i.colon f; leaves = none_each; key = in_neither; blank = refl }) b)
    by true false f e = absurd (true≢false e)
    by false true f e = absurd (true≢false (sym e))

  mutual
    pub rows_match : (margins : Margins) {x y : Node} → NodesMatch ps s x y → Match (rows (setting s cs) margins x) (rows (setting s ds) margins y)
    rows_match margins (matched_scalars {at = at} {bt = bt} {props = props} {style = style} {text = text} {lines = lines} a e) =
        block_match {at = at} {bt = bt} {props = props} {text = text} {lines = lines} s cs ds margins style (matched_scalars {at = at} {bt = bt} a e)
    rows_match margins (matched_aliases {at = at} {bt = bt} {name = name} a e) = one_match s margins (alias at name) (alias bt name) (matched_aliases a e)
    rows_match margins (matched_empty_sequences {at = at} {bt = bt} {flow = true} {props = props} a e) = one_match s margins (sequence at true props no_items) (sequence bt true props no_items) (matched_empty_sequences a e)
    rows_match margins (matched_empty_sequences {flow = false} {props = props} a e) = props_match margins.column (props_text props) none_each
    rows_match margins (matched_empty_mappings {at = at} {bt = bt} {flow = true} {props = props} a e) = one_match s margins (mapping at true props no_pairs) (mapping bt true props no_pairs) (matched_empty_mappings a e)
    rows_match margins (matched_empty_mappings {flow = false} {props = props} a e) = props_match margins.column (props_text props) none_each
    rows_match margins (matched_sequences {at = at} {bt = bt} {flow = true} {props = props} {x = x} {y = y} {xs = xs} {ys = ys} a e m more) =
        one_match s margins (sequence at true props (item x xs)) (sequence bt true props (item y ys)) (matched_sequences a e m more)
    rows_match margins (matched_sequences {flow = false} {props = props} {x = x} {y = y} a e m more) =
        props_match margins.column (props_text props)
        (each_append (joined_match (entry_row margins.entries (45 ∷ []) x) (entry_row margins.entries (45 ∷ []) y) (s.indent - 1) (entry_match margins.entries (45 ∷ []) m) (rows_match (inner_margins s margins.entries) m))
        (items_match margins.entries more))
    rows_match margins (matched_mappings {at = at} {bt = bt} {flow = true} {props = props} {k = k} {v = v} {l = l} {w = w} {qs = qs} {rs = rs} a e i m n more) =
        one_match s margins (mapping at true props (pair k v qs)) (mapping bt true props (pair l w rs)) (matched_mappings a e i m n more)
    rows_match margins (matched_mappings {flow = false} {props = props} {k = k} {v = v} {l = l} {w = w} a e i m n more) =
        props_match margins.column (props_text props)
        (each_append
        (pair_match margins.entries i m n
        (subst (λ z. Match (rows (setting s cs) (key_margins s margins.entries k) k) (rows (setting s ds) z l)) (same_key_margins s margins.entries (matched_alike m)) (rows_match (key_margins s margins.entries k) m))
        (subst (λ z. Match (rows (setting s cs) (value_margins (setting s cs) margins.entries k v) v) (rows (setting s ds) z w)) (same_value_margins s margins.entries (matched_alike m) (matched_alike n) (keys_agree s same i.begins m n))
        (rows_match (value_margins (setting s cs) margins.entries k v) n)))
        (pairs_match margins.entries more))

    items_match : (column : ℕ) {xs ys : Items} → ItemsMatch ps s xs ys → Match (rows_of_items (setting s cs) column xs) (rows_of_items (setting s ds) column ys)
    items_match column no_matched_items = none_each
    items_match column (matched_item {x = x} {y = y} m more) =
        each_append (joined_match (entry_row column (45 ∷ []) x) (entry_row column (45 ∷ []) y) (s.indent - 1) (entry_match column (45 ∷ []) m) (rows_match (inner_margins s column) m)) (items_match column more)

    pairs_match : (column : ℕ) {qs rs : Pairs} → PairsMatch ps s qs rs → Match (rows_of_pairs (setting s cs) column qs) (rows_of_pairs (setting s ds) column rs)
    pairs_match column no_matched_pairs = none_each
    pairs_match column (matched_pair {k = k} {v = v} {l = l} {w = w} i m n more) =
        each_append
        (pair_match column i m n
        (subst (λ z. Match (rows (setting s cs) (key_margins s column k) k) (rows (setting s ds) z l)) (same_key_margins s column (matched_alike m)) (rows_match (key_margins s column k) m))
        (subst (λ z. Match (rows (setting s cs) (value_margins (setting s cs) column k v) v) (rows (setting s ds) z w)) (same_value_margins s column (matched_alike m) (matched_alike n) (keys_agree s same i.begins m n))
        (rows_match (value_margins (setting s cs) column k v) n)))
        (pairs_match column more)

  -- Lines before a document's node.

  pub begun_match : {a b : ℕ} {xs ys : List Row} → SameSide ps.comments a b → Match xs ys → Match (beginning_at a xs) (beginning_at b ys)
  begun_match e none_each = none_each
  begun_match e (one_each a more) = one_each (record { items = one_each e a.items; leaves = a.leaves; key = a.key; blank = a.blank }) more

  -- and of a document that begins on its node's first line
  pub bare_match : {a b : ℕ} {xs ys : List Row} → SameSide ps.comments a b → Match xs ys → Match (begun_at a xs) (begun_at b ys)
  bare_match e none_each = none_each
  bare_match e (one_each a more) = one_each (record { items = one_each e a.items; leaves = a.leaves; key = a.key; blank = a.blank }) more

  pub start_match : RowMatch ps start_row start_row
  start_match = bare_row refl refl refl refl refl refl refl

  pub ends_match : (first : Bool) (ds es : List Directive) → words_of ds ≡ words_of es → Match (end_rows first ds) (end_rows first es)
  ends_match true ds es e = none_each
  ends_match false [] [] e = none_each
  ends_match false [] (b ∷ es) e = absurd cc
  ends_match false (a ∷ ds) [] e = absurd cc
  ends_match false (a ∷ ds) (b ∷ es) e = one_each (bare_row refl refl refl refl refl refl refl) none_each

  pub directives_match : (ds es : List Directive) → words_of ds ≡ words_of es → Match (map directive_row ds) (map directive_row es)
  directives_match [] [] e = none_each
  directives_match [] (b ∷ es) e = absurd cc
  directives_match (a ∷ ds) [] e = absurd cc
  directives_match (a ∷ ds) (b ∷ es) e = let more : words_of ds ≡ words_of es = cc in one_each (bare_row refl refl refl refl refl refl refl) (directives_match ds es more)
