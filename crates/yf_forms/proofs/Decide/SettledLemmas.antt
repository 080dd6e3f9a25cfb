-- A settled node has the same number of events, is an implicit key if it was one, and has its entries at their old
-- columns.
use Rattle.std.proofs.Common.{◌≡◌, ℕ, suc, ◌+◌, Bool, true, false, not, ◌&&◌, length, refl, sym, ap, ◌∙◌, ⊎_elim}
use Rattle.std.specs.Prelude.{nat_le, if◌then◌else◌}
use Rattle.std.proofs.lemmas.Bool.{and_parts, cases_Bool}
use Rattle.yf_forms.specs.declared.style.Style.{Style}
use Rattle.yf_forms.specs.Nodes.SingleNodes.{keys, keys_of_items, keys_of_pairs}
use Rattle.yf_forms.specs.NormalForms.Normal.{LayoutSetting, Margins, inner_margins, key_margins, value_margins, value_of_implicit, value_entries, key_column, is_implicit, is_one_line_key, fits, settled, settled_items, settled_pairs}
use Rattle.yf_forms.specs.Nodes.OneLine.{width, written}
use Rattle.yf_events.specs.Tree.{Node, scalar, alias, sequence, mapping, Items, no_items, item, Pairs, no_pairs, pair, flat, flat_items, flat_pairs, is_sequence}
use Rattle.yf_forms.proofs.Decide.CountLemmas.{two_counts}

either : (b : Bool) (x y : Node) → length (flat y) ≡ length (flat x) → length (flat (if b then x else y)) ≡ length (flat x)
either true x y e = refl
either false x y e = e

mutual
  pub settled_count : (c : LayoutSetting) (margins : Margins) (x : Node) → length (flat (settled c margins x)) ≡ length (flat x)
  settled_count c margins (scalar at props style text lines) = refl
  settled_count c margins (alias at name) = refl
  settled_count c margins (sequence at flow props no_items) = refl
  settled_count c margins (sequence at flow props (item x xs)) =
      either (flow && fits c.style margins.column (sequence at flow props (item x xs))) _ _
      (ap suc (two_counts (flat_items (settled_items c margins.entries (item x xs))) _ (flat_items (item x xs)) _ (settled_items_count c margins.entries (item x xs)) refl))
  settled_count c margins (mapping at flow props no_pairs) = refl
  settled_count c margins (mapping at flow props (pair k v ps)) =
      either (flow && fits c.style margins.column (mapping at flow props (pair k v ps))) _ _
      (ap suc (two_counts (flat_pairs (settled_pairs c margins.entries (pair k v ps))) _ (flat_pairs (pair k v ps)) _ (settled_pairs_count c margins.entries (pair k v ps)) refl))

  pub settled_items_count : (c : LayoutSetting) (column : ℕ) (xs : Items) → length (flat_items (settled_items c column xs)) ≡ length (flat_items xs)
  settled_items_count c column no_items = refl
  settled_items_count c column (item x xs) =
      two_counts (flat (settled c (inner_margins c.style column) x)) _ (flat x) _ (settled_count c (inner_margins c.style column) x) (settled_items_count c column xs)

  pub settled_pairs_count : (c : LayoutSetting) (column : ℕ) (ps : Pairs) → length (flat_pairs (settled_pairs c column ps)) ≡ length (flat_pairs ps)
  settled_pairs_count c column no_pairs = refl
  settled_pairs_count c column (pair k v ps) =
      two_counts (flat (settled c (key_margins c.style column k) k)) _ (flat k) _ (settled_count c (key_margins c.style column k) k)
      (two_counts (flat (settled c (value_margins c column k v) v)) _ (flat v) _ (settled_count c (value_margins c column k v) v) (settled_pairs_count c column ps))

-- an implicit key fits at its column

filled_key : (s : Style) (column : ℕ) (flow : Bool) (v w : Node) → is_implicit s column v ≡ ((flow && fits s column v) && (is_implicit s column v))
    → is_implicit s column w ≡ false → is_implicit s column (if flow && fits s (key_column s column v) v then v else w) ≡ is_implicit s column v
filled_key s column flow v w own none = ⊎_elim implicit explicit (cases_Bool (is_implicit s column v)) where
  implicit : is_implicit s column v ≡ true → is_implicit s column (if flow && fits s (key_column s column v) v then v else w) ≡ is_implicit s column v
  implicit e =
      let here : (flow && fits s column v) ≡ true = (and_parts (flow && fits s column v) (is_implicit s column v) (sym own ∙ e)).0 in
      ap (λ b. is_implicit s column (if flow && fits s (if b then column else column + s.indent) v then v else w)) e
      ∙ ap (λ b. is_implicit s column (if b then v else w)) here

  explicit : is_implicit s column v ≡ false → is_implicit s column (if flow && fits s (key_column s column v) v then v else w) ≡ is_implicit s column v
  explicit e = by (flow && fits s (key_column s column v) v) where
    by : (b : Bool) → is_implicit s column (if b then v else w) ≡ is_implicit s column v
    by true = refl
    by false = none ∙ sym e

twice : (a b : Bool) → (a && b) ≡ (a && (a && b))
twice true b = refl
twice false b = refl

pub settled_key : (c : LayoutSetting) (column : ℕ) (k : Node) → is_implicit c.style column (settled c (key_margins c.style column k) k) ≡ is_implicit c.style column k
settled_key c column (scalar at props style text lines) = refl
settled_key c column (alias at name) = refl
settled_key c column (sequence at flow props no_items) = refl
settled_key c column (sequence at flow props (item x xs)) =
    filled_key c.style column flow (sequence at flow props (item x xs)) _
    (twice (is_one_line_key c.style column (sequence at flow props (item x xs))) (nat_le (width (written c.style (sequence at flow props (item x xs)))) 1023)) refl
settled_key c column (mapping at flow props no_pairs) = refl
settled_key c column (mapping at flow props (pair k v ps)) =
    filled_key c.style column flow (mapping at flow props (pair k v ps)) _
    (twice (is_one_line_key c.style column (mapping at flow props (pair k v ps))) (nat_le (width (written c.style (mapping at flow props (pair k v ps)))) 1023)) refl

-- entries

settled_sequence : (c : LayoutSetting) (margins : Margins) (x : Node) → is_sequence (settled c margins x) ≡ is_sequence x
settled_sequence c margins (scalar at props style text lines) = refl
settled_sequence c margins (alias at name) = refl
settled_sequence c margins (sequence at flow props no_items) = refl
settled_sequence c margins (sequence at flow props (item x xs)) = by (flow && fits c.style margins.column (sequence at flow props (item x xs))) where
  by : (b : Bool) → is_sequence (if b then sequence at flow props (item x xs)
      else sequence at false props (item (settled c (inner_margins c.style margins.entries) x) (settled_items c margins.entries xs))) ≡ true
  by true = refl
  by false = refl
settled_sequence c margins (mapping at flow props no_pairs) = refl
settled_sequence c margins (mapping at flow props (pair k v ps)) = by (flow && fits c.style margins.column (mapping at flow props (pair k v ps))) where
  by : (b : Bool) → is_sequence (if b then mapping at flow props (pair k v ps)
      else mapping at false props (pair (settled c (key_margins c.style margins.entries k) k) (settled c (value_margins c margins.entries k v) v) (settled_pairs c margins.entries ps))) ≡ false
  by true = refl
  by false = refl

pub same_entries : (c : LayoutSetting) (column : ℕ) (k v l w : Node) → is_implicit c.style column k ≡ is_implicit c.style column l → is_sequence v ≡ is_sequence w
    → (value_margins c column k v).entries ≡ (value_margins c column l w).entries
same_entries c column k v l w e f =
    by (is_implicit c.style column k) ∙ ap (λ b. if b then value_entries c.style column v else column + c.style.indent) e
    ∙ ap (λ b. if is_implicit c.style column l then (if b && not c.style.seq_indent then column else column + c.style.indent) else column + c.style.indent) f
    ∙ sym (by' (is_implicit c.style column l)) where
      by : (b : Bool) → (if b then value_of_implicit c column k v else inner_margins c.style column).entries ≡ (if b then value_entries c.style column v else column + c.style.indent)
      by true = refl
      by false = refl

      by' : (b : Bool) → (if b then value_of_implicit c column l w else inner_margins c.style column).entries ≡ (if b then value_entries c.style column w else column + c.style.indent)
      by' true = refl
      by' false = refl

pub settled_value_entries : (c : LayoutSetting) (column : ℕ) (k v : Node)
    → (value_margins c column (settled c (key_margins c.style column k) k) (settled c (value_margins c column k v) v)).entries ≡ (value_margins c column k v).entries
settled_value_entries c column k v =
    same_entries c column (settled c (key_margins c.style column k) k) (settled c (value_margins c column k v) v) k v (settled_key c column k) (settled_sequence c (value_margins c column k v) v)

-- the keys in a node depend only on the column of its entries
pub keys_by_entries : (c : LayoutSetting) (i : ℕ) (margins other : Margins) (x : Node) → margins.entries ≡ other.entries → keys c i margins x ≡ keys c i other x
keys_by_entries c i margins other (scalar at props style text lines) e = refl
keys_by_entries c i margins other (alias at name) e = refl
keys_by_entries c i margins other (sequence at true props xs) e = refl
keys_by_entries c i margins other (sequence at false props xs) e = ap (λ n. keys_of_items c (i + 1) n xs) e
keys_by_entries c i margins other (mapping at true props ps) e = refl
keys_by_entries c i margins other (mapping at false props ps) e = ap (λ n. keys_of_pairs c (i + 1) n ps) e
