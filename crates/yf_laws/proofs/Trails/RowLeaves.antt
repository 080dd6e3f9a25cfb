-- The leaves on the rows of a layout are those of its trees, in order.
use Rattle.std.proofs.Common.{◌≡◌, ℕ, ◌-◌, Bool, true, false, not, ◌&&◌, List, [], ◌∷◌, ◌++◌, codes, flat_map, Option, Some, None, refl, sym, ap, ◌∙◌, append-nil, append_assoc, true≢false}
use Rattle.std.specs.Prelude.{if◌then◌else◌}
use Rattle.std.proofs.lemmas.Bool.{and_parts}
use Rattle.std.proofs.lemmas.Grind.{flat_map-append}
use Rattle.yf_chars.proofs.Tests.{none_there}
use Rattle.yf_comments.specs.Comment.{CommentValue}
use Rattle.yf_events.specs.Tree.{Node, scalar, alias, sequence, mapping, Items, no_items, item, Pairs, no_pairs, pair, leaves, leaves_of_items, leaves_of_pairs, spans_of_leaf}
use Rattle.yf_events.specs.declared.event.ScalarStyle.TheVariants.{Plain, Single, Double, Literal, Folded}
use Rattle.yf_events.specs.declared.event.Span.{Span}
use Rattle.yf_forms.specs.NormalForms.Forms.{is_placed, items_are_placed, pairs_are_placed}
use Rattle.yf_forms.specs.Passes.MeasurePass.{setting}
use Rattle.yf_forms.specs.NormalForms.Normal.{LayoutSetting, Margins, inner_margins, is_implicit, key_comment, key_margins, styled_items, styled_pairs, value_margins}
use Rattle.yf_forms.specs.Nodes.OneLine.{bare, props_text, scalar_text, spaced}
use Rattle.yf_print.specs.Layouts.Rows.{Row, begins_below, after_key, after_sign, colon_row, entry_row, explicit_pair, implicit_pair, joined, key_row, one_line_row, pair_rows, props_row, rows, rows_of_items, rows_of_pairs}
use Rattle.yf_forms.specs.Nodes.Lines.{is_empty_text}
use Rattle.yf_laws.proofs.Printer.LeafPrinted.{same_flag, same_flag_of_map, written_filled}
use Rattle.yf_laws.proofs.Printer.PairSites.{nothing_spaced}
use Rattle.yf_laws.proofs.Printer.PrintTrees.{item_parts, items_of, pair_parts, pairs_of}
use Rattle.yf_laws.proofs.NormalForms.StyledTwice.{House}
use Rattle.yf_forms.proofs.Decide.ValueLemmas.{agreed}

abbrev pub leaves_on : List Row → List Span
leaves_on rows = flat_map (λ row. row.leaves) rows

pub on_append : (xs ys : List Row) → leaves_on (xs ++ ys) ≡ leaves_on xs ++ leaves_on ys
on_append xs ys = flat_map-append (λ (row : Row). row.leaves) xs ys

on_joined : (head : Row) (n : ℕ) (xs : List Row) → leaves_on (joined head n xs) ≡ head.leaves ++ leaves_on xs
on_joined head n [] = refl
on_joined head n (x ∷ xs) = append_assoc head.leaves x.leaves (leaves_on xs)

on_props : (column : ℕ) (p : List ℕ) → leaves_on (props_row column p) ≡ []
on_props column [] = refl
on_props column (b ∷ p) = refl

on_line : (column : ℕ) (x : Node) (w : List ℕ) → (is_empty_text w ≡ true → leaves x ≡ []) → leaves_on (one_line_row column x w) ≡ leaves x
on_line column x [] h = sym (h refl)
on_line column x (b ∷ w) h = append-nil (leaves x)

-- a key, and the rows of its value
on_key : (head : Row) (o : Option CommentValue) (below : Bool) (xs : List Row) → leaves_on (after_key head o below xs) ≡ head.leaves ++ leaves_on xs
on_key head (Some c) below xs = refl
on_key head None true xs = refl
on_key head None false xs = on_joined head 1 xs

on_pair : (c : LayoutSetting) (column : ℕ) (k v : Node) (xs ys : List Row) → leaves_on xs ≡ leaves k → leaves_on ys ≡ leaves v → leaves_on (pair_rows c column k v xs ys) ≡ leaves k ++ leaves v
on_pair c column k v xs ys e f = by (is_implicit c.style column k) where
  by : (b : Bool) → leaves_on (if b then implicit_pair c column k v ys else explicit_pair c.style column k xs ys) ≡ leaves k ++ leaves v
  by true = on_key (key_row c.style column k) (key_comment c.comments k v) (begins_below v) ys ∙ ap (λ w. leaves k ++ w) f
  by false =
      on_append (after_sign c.style (entry_row column (codes "?") k) xs) (after_sign c.style (colon_row column k) ys)
      ∙ (ap (λ w. w ++ leaves_on (after_sign c.style (colon_row column k) ys)) (on_joined (entry_row column (codes "?") k) (c.style.indent - 1) xs ∙ e)
      ∙ ap (λ w. leaves k ++ w) (on_joined (colon_row column k) (c.style.indent - 1) ys ∙ f))

-- a node on one line without a text has no leaf
filled_text : (p y : List ℕ) (ss : List Span) → is_empty_text y ≡ false → is_empty_text (spaced p y) ≡ true → ss ≡ []
filled_text p y ss f e = absurd (true≢false (sym e ∙ written_filled p y f))

mutual
  pub node_leaves : (c : LayoutSetting) (margins : Margins) (x : Node) → is_placed x ≡ true → House c x → leaves_on (rows c margins x) ≡ leaves x
  node_leaves c margins (scalar at props Plain [] lines) h s = on_line margins.column (scalar at props Plain [] lines) _
      (λ e. ap spans_of_leaf (none_there at.span (agreed _ _ h ∙ ap not (nothing_spaced (props_text props) e))))
  node_leaves c margins (scalar at props Plain (b ∷ text) lines) h s =
      on_line margins.column (scalar at props Plain (b ∷ text) lines) _ (λ e. filled_text (props_text props) (b ∷ text) _ refl e)
  node_leaves c margins (scalar at props Single text lines) h s = on_line margins.column (scalar at props Single text lines) _ (λ e. filled_text (props_text props) (scalar_text c.style Single text) _ refl e)
  node_leaves c margins (scalar at props Double text lines) h s = on_line margins.column (scalar at props Double text lines) _ (λ e. filled_text (props_text props) (scalar_text c.style Double text) _ refl e)
  node_leaves c margins (scalar at props Literal text lines) h s = append-nil _
  node_leaves c margins (scalar at props Folded text lines) h s = append-nil _
  node_leaves c margins (alias at name) h s = append-nil _
  node_leaves c margins (sequence at true props no_items) h s =
      on_line margins.column (sequence at true props no_items) _ (λ e. filled_text (props_text props) (bare c.style (sequence at true props no_items)) _ refl e)
  node_leaves c margins (sequence at true props (item x xs)) h s =
      on_line margins.column (sequence at true props (item x xs)) _ (λ e. filled_text (props_text props) (bare c.style (sequence at true props (item x xs))) _ refl e)
  node_leaves c margins (sequence at false props no_items) h s = absurd (true≢false (same_flag s))
  node_leaves c margins (sequence at false props (item x xs)) h s =
      on_append (props_row margins.column (props_text props)) (rows_of_items c margins.entries (item x xs))
      ∙ (ap (λ w. w ++ leaves_on (rows_of_items c margins.entries (item x xs))) (on_props margins.column (props_text props))
      ∙ items_leaves c margins.entries (item x xs) h (items_of s))
  node_leaves c margins (mapping at true props no_pairs) h s =
      on_line margins.column (mapping at true props no_pairs) _ (λ e. filled_text (props_text props) (bare c.style (mapping at true props no_pairs)) _ refl e)
  node_leaves c margins (mapping at true props (pair x y ps)) h s =
      on_line margins.column (mapping at true props (pair x y ps)) _ (λ e. filled_text (props_text props) (bare c.style (mapping at true props (pair x y ps))) _ refl e)
  node_leaves c margins (mapping at false props no_pairs) h s = absurd (true≢false (same_flag_of_map s))
  node_leaves c margins (mapping at false props (pair x y ps)) h s =
      on_append (props_row margins.column (props_text props)) (rows_of_pairs c margins.entries (pair x y ps))
      ∙ (ap (λ w. w ++ leaves_on (rows_of_pairs c margins.entries (pair x y ps))) (on_props margins.column (props_text props))
      ∙ pairs_leaves c margins.entries (pair x y ps) h (pairs_of s))

  pub items_leaves : (c : LayoutSetting) (column : ℕ) (xs : Items) → items_are_placed xs ≡ true → styled_items [] (setting c.style []) xs ≡ xs
      → leaves_on (rows_of_items c column xs) ≡ leaves_of_items xs
  items_leaves c column no_items h s = refl
  items_leaves c column (item x xs) h s =
      let mine : List Row = after_sign c.style (entry_row column (codes "-") x) (rows c (inner_margins c.style column) x) in
      let hs = and_parts (is_placed x) (items_are_placed xs) h in
      let parts = item_parts s in
      on_append mine (rows_of_items c column xs)
      ∙ (ap (λ w. w ++ leaves_on (rows_of_items c column xs))
      (on_joined (entry_row column (codes "-") x) (c.style.indent - 1) (rows c (inner_margins c.style column) x) ∙ node_leaves c (inner_margins c.style column) x hs.0 parts.0)
      ∙ ap (λ w. leaves x ++ w) (items_leaves c column xs hs.1 parts.1))

  pub pairs_leaves : (c : LayoutSetting) (column : ℕ) (ps : Pairs) → pairs_are_placed ps ≡ true → styled_pairs [] (setting c.style []) ps ≡ ps
      → leaves_on (rows_of_pairs c column ps) ≡ leaves_of_pairs ps
  pairs_leaves c column no_pairs h s = refl
  pairs_leaves c column (pair x y ps) h s =
      let xs : List Row = rows c (key_margins c.style column x) x in
      let ys : List Row = rows c (value_margins c column x y) y in
      let hx = and_parts (is_placed x) (is_placed y && pairs_are_placed ps) h in
      let hy = and_parts (is_placed y) (pairs_are_placed ps) hx.1 in
      let parts = pair_parts s in
      on_append (pair_rows c column x y xs ys) (rows_of_pairs c column ps)
      ∙ (ap (λ w. w ++ leaves_on (rows_of_pairs c column ps))
      (on_pair c column x y xs ys (node_leaves c (key_margins c.style column x) x hx.0 parts.0) (node_leaves c (value_margins c column x y) y hy.0 parts.1.0))
      ∙ (append_assoc (leaves x) (leaves y) (leaves_on (rows_of_pairs c column ps)) ∙ ap (λ w. leaves x ++ (leaves y ++ w)) (pairs_leaves c column ps hy.1 parts.1.1)))
