-- The rows of a tree have at most n · (w + 8) bytes; n is the number of bytes that the tree is counted with, and w the
-- greatest column.
use Rattle.std.proofs.Common.{◌≡◌, ℕ, zero, suc, ◌+◌, ◌-◌, ◌*◌, ◌≤◌, Bool, true, false, true≢false, List, [], ◌∷◌, ◌++◌, length, max, replicate, Option, Some, None, refl, sym, ap, ◌∙◌, arith, length-append}
use Rattle.std.specs.Prelude.{if◌then◌else◌, is_some, ◌&&◌, nat_le, not}
use Rattle.std.proofs.Math.Nat.{add-mul, le-max_left, le-max_right, mul-add, mul-le-mul_right, suc-mul}
use Rattle.std.proofs.lemmas.List.{length-replicate}
use Rattle.std.proofs.lemmas.Str.{chars-nil}
use Rattle.yf_comments.specs.Comment.{CommentValue}
use Rattle.yf_props.specs.Props.{PropsValue}
use Rattle.yf_events.specs.Tree.{Node, scalar, sequence, mapping, Items, no_items, item, Pairs, no_pairs, pair, is_sequence}
use Rattle.yf_events.specs.declared.event.ScalarStyle.TheVariants.{Plain, Single, Double, Literal, Folded}
use Rattle.yf_grammar.specs.Productions.TreesOfMeaning.{tall, tall_items, tall_pairs}
use Rattle.yf_forms.specs.NormalForms.Normal.{LayoutSetting, Margins, inner_margins, is_implicit, is_one_line_key, key_comment, key_margins, value_column, value_entries, value_of_implicit}
use Rattle.yf_forms.specs.Nodes.OneLine.{colon_after, props_text, spaced, width, written}
use Rattle.yf_print.specs.Layouts.Rows.{Row, after_key, after_sign, begins_below, colon_row, entry_row, joined, key_row, one_line_row, props_row, rows, rows_of_items, rows_of_pairs}
use Rattle.yf_forms.specs.Nodes.Lines.{is_empty_text}
use Rattle.yf_laws.proofs.Derived.TreesMade.{either_pair}
use Rattle.yf_laws.proofs.Size.LeafBytes.{Short, body_size, nothing_short, some_short, props_most}
use Rattle.yf_laws.proofs.Size.NodeCosts.{Costs, scalar_costs, alias_costs, no_items_cost, items_cost, no_pairs_cost, pairs_cost, ItemsCost, no_more_items, more_items_cost, PairsCost, no_more_pairs, more_pairs_cost, colon_most, written_short}
use Rattle.yf_laws.proofs.Size.Weights.{props_weight}

-- The bound for n bytes.

unfoldable pub price : ℕ → ℕ → ℕ
price w n = n * (w + 8)

pub price_add : (w a b : ℕ) → price w (a + b) ≡ price w a + price w b
unfolding price
price_add w a b = add-mul a b (w + 8)

pub price_more : (w : ℕ) {a b : ℕ} → a ≤ b → price w a ≤ price w b
unfolding price
price_more w l = mul-le-mul_right (w + 8) l

pub price_next : (w a : ℕ) → price w (suc a) ≡ price w a + (w + 8)
unfolding price
price_next w a = suc-mul a (w + 8)

pub price_eight : (w a : ℕ) → 8 * a ≤ price w a
unfolding price
price_eight w a = let e = mul-add a w 8 in omega (arith, e)

pub price_line : (w a : ℕ) → 1 ≤ a → w + 8 * a ≤ price w a
price_line w zero l = absurd (omega (arith, l))
price_line w (suc a) l = omega (arith, price_next w a, price_eight w a)

-- The bytes of rows: after its column each has the end of its line, and room for a blank line before it.

abbrev pub rest_size : Row → ℕ
rest_size x = length x.text + (2 + body_size x.body)

abbrev pub size : List Row → ℕ
size [] = 0
size (x ∷ xs) = x.column + (rest_size x + size xs)

pub size_append : (xs ys : List Row) → size (xs ++ ys) ≡ size xs + size ys
size_append [] ys = omega arith
size_append (x ∷ xs) ys = let l = size_append xs ys in omega (arith, l)

data FirstAt (column : ℕ) : List Row → Type 0 where
  first_at : {x : Row} {xs : List Row} → x.column ≡ column → FirstAt column (x ∷ xs)

first_more : {column : ℕ} {xs : List Row} (ys : List Row) → FirstAt column xs → FirstAt column (xs ++ ys)
first_more ys (first_at e) = first_at e

joined_first : (head : Row) (n : ℕ) (rs : List Row) → FirstAt head.column (joined head n rs)
joined_first head n [] = first_at refl
joined_first head n (r ∷ rs) = first_at refl

module _ (c : LayoutSetting) (w : ℕ) where
  -- the rows of the node y: none, if it is a key without `?` at every column; rows whose first is at the column of the
  -- node; or rows whose first is at the column of its entries
  pub data Laid (n : ℕ) (margins : Margins) (y : Node) : List Row → Type 0 where
    laid_nothing : ((column : ℕ) → is_implicit c.style column y ≡ true) → Laid n margins y []
    laid_line : {r : Row} {rs : List Row} → begins_below y ≡ false → r.column ≡ margins.column → w + (rest_size r + size rs) ≤ price w n → Laid n margins y (r ∷ rs)
    laid_below : {r : Row} {rs : List Row} → begins_below y ≡ true → r.column ≡ margins.entries → r.column + (rest_size r + size rs) ≤ price w n → Laid n margins y (r ∷ rs)

  laid_first : {n : ℕ} {margins : Margins} {y : Node} {rs : List Row} → begins_below y ≡ true → FirstAt margins.entries rs → size rs ≤ price w n → Laid n margins y rs
  laid_first e (first_at f) l = laid_below e f l

  pub laid_size : {n : ℕ} {margins : Margins} {y : Node} {rs : List Row} → margins.column ≤ w → Laid n margins y rs → size rs ≤ price w n
  laid_size l (laid_nothing e) = omega arith
  laid_size l (laid_line e f m) = omega (arith, l, f, m)
  laid_size l (laid_below e f m) = m

  -- After a sign with spaces up to the next column.

  signed_some : {a : ℕ} {margins : Margins} {y : Node} {rs : List Row} (head : Row) → length head.text ≡ 1 → margins.column ≡ head.column + c.style.indent → margins.entries ≡ head.column + c.style.indent → margins.column ≤ w
      → Laid a margins y rs → (head.column + 3 ≤ w + 3) → head.body ≡ [] → size (joined head (c.style.indent - 1) rs) ≤ price w a + (w + 3)
  signed_some head one at entries l (laid_nothing e) m b = let none = ap body_size b in omega (arith, one, m, none)
  signed_some head one at entries l (laid_line {r = r} e f m) k b =
      let two = c.style.indent_from in
      omega (arith, one, at, entries, l, f, m, two, length-append head.text (replicate (c.style.indent - 1) 32 ++ r.text), length-append (replicate (c.style.indent - 1) 32) r.text, length-replicate {A = ℕ} (c.style.indent - 1) 32)
  signed_some head one at entries l (laid_below {r = r} e f m) k b =
      let two = c.style.indent_from in
      omega (arith, one, at, entries, l, f, m, two, length-append head.text (replicate (c.style.indent - 1) 32 ++ r.text), length-append (replicate (c.style.indent - 1) 32) r.text, length-replicate {A = ℕ} (c.style.indent - 1) 32)

  -- a key that has a `?` has rows
  signed_key : {a : ℕ} {margins : Margins} {y : Node} {rs : List Row} (head : Row) (column : ℕ) → is_implicit c.style column y ≡ false → length head.text ≡ 1 → margins.column ≡ head.column + c.style.indent → margins.entries ≡ head.column + c.style.indent → margins.column ≤ w
      → Laid a margins y rs → size (joined head (c.style.indent - 1) rs) ≤ price w a
  signed_key head column asked one at entries l (laid_nothing e) = absurd (true≢false (sym (e column) ∙ asked))
  signed_key head column asked one at entries l (laid_line {r = r} e f m) =
      let two = c.style.indent_from in
      omega (arith, one, at, entries, l, f, m, two, length-append head.text (replicate (c.style.indent - 1) 32 ++ r.text), length-append (replicate (c.style.indent - 1) 32) r.text, length-replicate {A = ℕ} (c.style.indent - 1) 32)
  signed_key head column asked one at entries l (laid_below {r = r} e f m) =
      let two = c.style.indent_from in
      omega (arith, one, at, entries, l, f, m, two, length-append head.text (replicate (c.style.indent - 1) 32 ++ r.text), length-append (replicate (c.style.indent - 1) 32) r.text, length-replicate {A = ℕ} (c.style.indent - 1) 32)

  -- The value after an implicit key.

  key_size : {a : ℕ} {k : Node} → Costs c.style a k → w + (length (written c.style k ++ colon_after k) + 3) ≤ price w (suc a)
  key_size {a} {k} d = by (written c.style k) (written_short d) where
    colon : length (colon_after k) ≤ 2
    colon = colon_most k

    by : (x : List ℕ) → Short a x → w + (length (x ++ colon_after k) + 3) ≤ price w (suc a)
    by [] nothing_short = let l = price_next w a in omega (arith, colon, l)
    by x (some_short one l) = let m = price_line w a one in let n = price_next w a in omega (arith, colon, l, m, n, length-append x (colon_after k))

  value_size : {b : ℕ} {v : Node} (k : Node) (column : ℕ) {rs : List Row} → column + c.style.indent ≤ w → Laid b (value_of_implicit c column k v) v rs → (o : Option CommentValue) → key_comment c.comments k v ≡ o
      → (below : Bool) → begins_below v ≡ below → size (after_key (key_row c.style column k) o below rs) ≤ (w + (length (written c.style k ++ colon_after k) + 3)) + price w b
  value_size {b} {v} k column l a (Some comment) e below f =
      let at : value_column c column k v ≡ column + c.style.indent =
      ap (λ (z : Option CommentValue). if is_some z then column + c.style.indent else column + width (written c.style k) + width (colon_after k) + 1) e in
      let rest = laid_size (omega (arith, at, l)) a in
      omega (arith, l, rest)
  value_size k column l (laid_nothing g) None e true f = omega (arith, l)
  value_size k column l (laid_line g h m) None e true f = absurd (true≢false (sym f ∙ g))
  value_size k column l (laid_below g h m) None e true f = omega (arith, l, m)
  value_size k column l (laid_nothing g) None e false f = omega (arith, l)
  value_size k column l (laid_line {r = r} g h m) None e false f = omega (arith, l, m, length-append (written c.style k ++ colon_after k) (32 ∷ r.text))
  value_size k column l (laid_below g h m) None e false f = absurd (true≢false (sym g ∙ f))

  -- Nodes on one line.

  line_laid : {n : ℕ} {y : Node} (margins : Margins) (x : List ℕ) → begins_below y ≡ false → (x ≡ [] → (column : ℕ) → is_implicit c.style column y ≡ true) → Short n x → Laid n margins y (one_line_row margins.column y x)
  line_laid margins [] e f a = laid_nothing (f refl)
  line_laid {n} margins (b ∷ x) e f (some_short one l) = laid_line e refl (let m = price_line w n one in omega (arith, l, m))

  -- an empty text has a width within the limit of implicit keys
  narrow_key : (y : Node) → ((column : ℕ) → is_one_line_key c.style column y ≡ true) → written c.style y ≡ [] → (column : ℕ) → is_implicit c.style column y ≡ true
  narrow_key y f e column = ap (λ b. b && nat_le (width (written c.style y)) 1023) (f column) ∙ (ap (λ z. nat_le (width z) 1023) e ∙ ap (λ z. nat_le (length z) 1023) chars-nil)

  spaced_some : (x : List ℕ) (b : ℕ) (y : List ℕ) → spaced x (b ∷ y) ≡ [] → ⊥
  spaced_some [] b y e = cc
  spaced_some (d ∷ x) b y e = cc

  pub price_is : (n : ℕ) → price w n ≡ n * (w + 8)
  unfolding price
  price_is n = refl

  -- Trees.

  two_lower : (m a b : ℕ) → m + max a b * c.style.indent ≤ w → (m + a * c.style.indent ≤ w) × (m + b * c.style.indent ≤ w)
  two_lower m a b l =
      let one = mul-le-mul_right c.style.indent (le-max_left a b) in
      let two = mul-le-mul_right c.style.indent (le-max_right a b) in
      (omega (arith, one, l), omega (arith, two, l))

  entries_most : (column : ℕ) (v : Node) → value_entries c.style column v ≤ column + c.style.indent
  entries_most column v = by (is_sequence v && not c.style.seq_indent) where
    by : (b : Bool) → (if b then column else column + c.style.indent) ≤ column + c.style.indent
    by true = omega arith
    by false = omega arith

  items_first : (column : ℕ) (x : Node) (xs : Items) → FirstAt column (rows_of_items c column (item x xs))
  items_first column x xs = first_more (rows_of_items c column xs) (joined_first (entry_row column (45 ∷ []) x) (c.style.indent - 1) (rows c (inner_margins c.style column) x))

  after_first : (column : ℕ) (k : Node) (o : Option CommentValue) (below : Bool) (rs : List Row) → FirstAt column (after_key (key_row c.style column k) o below rs)
  after_first column k (Some comment) below rs = first_at refl
  after_first column k None true rs = first_at refl
  after_first column k None false rs = joined_first (key_row c.style column k) 1 rs

  pair_first : (column : ℕ) (k v : Node) (b : Bool) → FirstAt column (either_pair b c column k v)
  pair_first column k v true = after_first column k (key_comment c.comments k v) (begins_below v) (rows c (value_of_implicit c column k v) v)
  pair_first column k v false =
      first_more (after_sign c.style (colon_row column k) (rows c (inner_margins c.style column) v)) (joined_first (entry_row column (63 ∷ []) k) (c.style.indent - 1) (rows c (key_margins c.style column k) k))

  pairs_first : (column : ℕ) (k v : Node) (ps : Pairs) → FirstAt column (rows_of_pairs c column (pair k v ps))
  pairs_first column k v ps = first_more (rows_of_pairs c column ps) (pair_first column k v (is_implicit c.style column k))

  -- a block collection with properties or without
  collection_laid : {n : ℕ} {y : Node} {rs : List Row} (m : ℕ) (props : PropsValue) (margins : Margins) → begins_below y ≡ is_empty_text (props_text props) → FirstAt margins.entries rs → size rs ≤ price w m → props_weight props + m ≤ n
      → Laid n margins y (props_row margins.column (props_text props) ++ rs)
  collection_laid {n} {y} {rs} m props margins below first l k = by (props_text props) (props_most props) below where
    sum : price w (props_weight props) + price w m ≤ price w n
    sum = let a = price_more w k in let b = price_add w (props_weight props) m in omega (arith, a, b)

    by : (p : List ℕ) → length p ≤ props_weight props + props_weight props → begins_below y ≡ is_empty_text p → Laid n margins y (props_row margins.column p ++ rs)
    by [] few e = laid_first e first (omega (arith, l, sum))
    by (b ∷ p) few e = laid_line e refl (let one = price_line w (props_weight props) (omega (arith, few)) in omega (arith, one, few, l, sum))

  pair_size : {a b : ℕ} {k v : Node} (column : ℕ) → column + c.style.indent ≤ w → Costs c.style a k → Costs c.style b v
      → ((margins : Margins) → margins.entries ≤ column + c.style.indent → margins.lines ≤ column + c.style.indent → Laid a margins k (rows c margins k))
      → ((margins : Margins) → margins.entries ≤ column + c.style.indent → margins.lines ≤ column + c.style.indent → Laid b margins v (rows c margins v))
      → (p : Bool) → is_implicit c.style column k ≡ p → size (either_pair p c column k v) ≤ price w (suc (a + b))
  pair_size {a} {b} {k} {v} column near d e key value true f =
      let one = key_size d in
      let two : size (either_pair true c column k v) ≤ (w + (length (written c.style k ++ colon_after k) + 3)) + price w b = value_size k column near (value (value_of_implicit c column k v) (entries_most column v) (omega arith)) (key_comment c.comments k v) refl (begins_below v) refl in
      let sum : suc a + b ≡ suc (a + b) = omega arith in
      omega (arith, one, two, price_add w (suc a) b, ap (price w) sum)
  pair_size {a} {b} {k} {v} column near d e key value false f =
      let at : (key_margins c.style column k).column ≡ column + c.style.indent = ap (λ z. if z then column else column + c.style.indent) f in
      let one : size (after_sign c.style (entry_row column (63 ∷ []) k) (rows c (key_margins c.style column k) k)) ≤ price w a = signed_key (entry_row column (63 ∷ []) k) column f refl at refl (omega (arith, at, near)) (key (key_margins c.style column k) (omega arith) (omega arith)) in
      let two : size (after_sign c.style (colon_row column k) (rows c (inner_margins c.style column) v)) ≤ price w b + (w + 3) = signed_some (colon_row column k) refl refl refl near (value (inner_margins c.style column) (omega arith) (omega arith)) (omega (arith, near)) refl in
      omega (arith, one, two, price_next w (a + b), price_add w a b, size_append (after_sign c.style (entry_row column (63 ∷ []) k) (rows c (key_margins c.style column k) k)) (after_sign c.style (colon_row column k) (rows c (inner_margins c.style column) v)))

  mutual
    pub node_laid : {n : ℕ} {y : Node} → Costs c.style n y → (margins : Margins) → margins.entries + tall y * c.style.indent ≤ w → margins.lines ≤ w → Laid n margins y (rows c margins y)
    node_laid (scalar_costs {at = at} {props = props} {style = Plain} {text = text} {lines = lines} a) margins l m =
        line_laid margins (written c.style (scalar at props Plain text lines)) refl (narrow_key (scalar at props Plain text lines) (λ column. refl)) a.short
    node_laid (scalar_costs {at = at} {props = props} {style = Single} {text = text} {lines = lines} a) margins l m =
        line_laid margins (written c.style (scalar at props Single text lines)) refl (narrow_key (scalar at props Single text lines) (λ column. refl)) a.short
    node_laid (scalar_costs {at = at} {props = props} {style = Double} {text = text} {lines = lines} a) margins l m =
        line_laid margins (written c.style (scalar at props Double text lines)) refl (narrow_key (scalar at props Double text lines) (λ column. refl)) a.short
    node_laid {n} (scalar_costs {style = Literal} a) margins l m = laid_line refl refl (let b = a.block refl w margins.lines m in let e = price_is n in omega (arith, b, e))
    node_laid {n} (scalar_costs {style = Folded} a) margins l m = laid_line refl refl (let b = a.block refl w margins.lines m in let e = price_is n in omega (arith, b, e))
    node_laid (alias_costs {at = at} {name = name} k) margins l m = line_laid margins (42 ∷ name) refl (λ e. absurd cc) (written_short {house = c.style} (alias_costs {at = at} k))
    node_laid (no_items_cost {at = at} {props = props} k) margins l m =
        line_laid margins (written c.style (sequence at true props no_items)) refl (λ e. absurd (spaced_some (props_text props) 91 (93 ∷ []) e)) (written_short {house = c.style} (no_items_cost {at = at} {props = props} k))
    node_laid (items_cost {at = at} {flow = true} {props = props} {x = x} {xs = xs} a k) margins l m =
        line_laid margins (written c.style (sequence at true props (item x xs))) refl (λ e. absurd (spaced_some (props_text props) 91 _ e)) (written_short (items_cost {at = at} {flow = true} {props = props} a k))
    node_laid (items_cost {flow = false} {props = props} {x = x} {xs = xs} a k) margins l m =
        let height = suc-mul (tall_items (item x xs)) c.style.indent in
        collection_laid _ props margins refl (items_first margins.entries x xs) (items_laid a margins.entries (omega (arith, l, height))) k
    node_laid (no_pairs_cost {at = at} {props = props} k) margins l m =
        line_laid margins (written c.style (mapping at true props no_pairs)) refl (λ e. absurd (spaced_some (props_text props) 123 (125 ∷ []) e)) (written_short {house = c.style} (no_pairs_cost {at = at} {props = props} k))
    node_laid (pairs_cost {at = at} {flow = true} {props = props} {k = key} {v = v} {ps = ps} a k) margins l m =
        line_laid margins (written c.style (mapping at true props (pair key v ps))) refl (λ e. absurd (spaced_some (props_text props) 123 _ e)) (written_short (pairs_cost {at = at} {flow = true} {props = props} a k))
    node_laid (pairs_cost {at = at} {flow = false} {props = props} {k = key} {v = v} {ps = ps} a k) margins l m =
        let height = suc-mul (tall_pairs (pair key v ps)) c.style.indent in
        collection_laid _ props margins refl (pairs_first margins.entries key v ps) (pairs_laid a margins.entries (omega (arith, l, height))) k

    items_laid : {n : ℕ} {xs : Items} → ItemsCost c.style n xs → (column : ℕ) → (column + c.style.indent) + tall_items xs * c.style.indent ≤ w → size (rows_of_items c column xs) ≤ price w n
    items_laid no_more_items column l = omega arith
    items_laid (more_items_cost {a = a} {m = m} {x = x} {xs = xs} d more) column l =
        let lower = two_lower (column + c.style.indent) (tall x) (tall_items xs) l in
        let near : column + c.style.indent ≤ w = omega (arith, l) in
        let one = signed_some (entry_row column (45 ∷ []) x) refl refl refl near (node_laid d (inner_margins c.style column) lower.0 near) (omega (arith, near)) refl in
        let others = items_laid more column lower.1 in
        omega (arith, one, others, size_append (after_sign c.style (entry_row column (45 ∷ []) x) (rows c (inner_margins c.style column) x)) (rows_of_items c column xs), price_add w (suc a) m, price_next w a)

    pairs_laid : {n : ℕ} {ps : Pairs} → PairsCost c.style n ps → (column : ℕ) → (column + c.style.indent) + tall_pairs ps * c.style.indent ≤ w → size (rows_of_pairs c column ps) ≤ price w n
    pairs_laid no_more_pairs column l = omega arith
    pairs_laid (more_pairs_cost {a = a} {b = b} {m = m} {k = k} {v = v} {ps = ps} d e more) column l =
        let lower = two_lower (column + c.style.indent) (max (tall k) (tall v)) (tall_pairs ps) l in
        let both = two_lower (column + c.style.indent) (tall k) (tall v) lower.0 in
        let near : column + c.style.indent ≤ w = omega (arith, l) in
        let entries = entries_most column v in
        let one = pair_size column near d e (λ margins f g. node_laid d margins (omega (arith, f, both.0)) (omega (arith, g, near))) (λ margins f g. node_laid e margins (omega (arith, f, both.1)) (omega (arith, g, near))) (is_implicit c.style column k) refl in
        let others = pairs_laid more column lower.1 in
        omega (arith, one, others, size_append (either_pair (is_implicit c.style column k) c column k v) (rows_of_pairs c column ps), price_add w (suc (a + b)) m)
