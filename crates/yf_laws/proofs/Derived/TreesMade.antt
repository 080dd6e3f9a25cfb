-- The rows of a tree whose one-line nodes read back are derived as the block node, at any offset and whatever they
-- carry.
use Rattle.std.proofs.Common.{◌≡◌, ◌≢◌, ℕ, max, ◌+◌, ◌≤◌, pos, Bool, true, false, true≢false, List, [], ◌∷◌, ◌++◌, Option, Some, None, refl, sym, ap, ◌∙◌, subst, arith}
use Rattle.std.specs.Prelude.{not, is_some, ◌&&◌, nat_le, if◌then◌else◌, ◌≤ℤ◌, codes}
use Rattle.std.proofs.lemmas.Bool.{and_parts}
use Rattle.std.proofs.lemmas.Bool.Decides.{nat_tests}
use Rattle.std.proofs.lemmas.Int.{ints}
use Rattle.yf_chars.specs.declared.context.Ctx.TheVariants.{FlowOut, BlockIn, BlockOut}
use Rattle.yf_props.specs.Props.{PropsValue}
use Rattle.yf_events.specs.declared.event.ScalarStyle.{ScalarStyle}
use Rattle.yf_events.specs.declared.event.ScalarStyle.TheVariants.{Plain, Single, Double, Literal, Folded}
use Rattle.yf_events.specs.declared.event.Span.{Span}
use Rattle.yf_events.specs.Tree.{NodeOffsets, Node, scalar, alias, sequence, mapping, Items, no_items, item, Pairs, no_pairs, pair, items_in, leaves, spans_of_leaf, entry_start, standing, is_sequence}
use Rattle.yf_grammar.specs.Productions.Grammar.{least_column}
use Rattle.yf_grammar.specs.Productions.Meaning.{Meaning}
use Rattle.yf_grammar.specs.Productions.TreesOfMeaning.{tall, tall_items, tall_pairs}
use Rattle.yf_grammar.proofs.NodesInText.MeantLemmas.{meant_nothing}
use Rattle.yf_laws.specs.Layouts.ReadableTrees.{LineNode, is_inline, is_block_style, FitProps, no_fit_props, some_fit_props, Fit, fit_nothing, fit_line, fit_scalar, fit_sequence, fit_mapping, FitItems, fit_no_items, fit_item, FitPairs, fit_no_pairs, fit_pair}
use Rattle.yf_forms.specs.NormalForms.Normal.{LayoutSetting, Margins, inner_margins, key_margins, value_of_implicit, value_margins, is_implicit, is_one_line_key, key_comment}
use Rattle.yf_forms.specs.Nodes.OneLine.{written, width, props_text}
use Rattle.yf_print.specs.Layouts.Rows.{Row, plain_row, one_line, one_line_row, props_row, after_sign, entry_row, colon_offset, blank_before_entry, begins_below, implicit_pair, explicit_pair, pair_rows, rows, rows_of_items, rows_of_pairs}
use Rattle.yf_forms.specs.Nodes.Lines.{is_empty_text}
use Rattle.yf_laws.proofs.Derived.CollectionsMade.{same_props, some_props, bare_claim, propertied_claim}
use Rattle.yf_laws.proofs.Derived.EntriesMade.{EntryMakes, EntriesMakes, entries_last, entries_more, item_makes, explicit_makes}
use Rattle.yf_laws.proofs.Derived.FoundCollections.{found_sequence, found_mapping, found_sequence_with, found_mapping_with}
use Rattle.yf_laws.proofs.RowNodes.FoundNodes.{FoundItem, FoundItems, FoundPair, FoundPairs, found_last_item, found_more_items, found_last_pair, found_more_pairs}
use Rattle.yf_laws.proofs.Derived.KeysMade.{keyed_makes, unkeyed_makes}
use Rattle.yf_laws.proofs.RowNodes.PlacedRows.{PlacedRow}
use Rattle.yf_laws.proofs.Derived.ScalarsMade.{scalar_claim}
use Rattle.yf_laws.proofs.Derived.NodesMade.{Stood, Claim, no_row, some_rows, line_made}

-- A node on one line.

pub inline_rows : (c : LayoutSetting) (margins : Margins) (x : Node) → is_inline x ≡ true → rows c margins x ≡ one_line c.style margins x
inline_rows c margins (scalar at props Plain text lines) e = refl
inline_rows c margins (scalar at props Single text lines) e = refl
inline_rows c margins (scalar at props Double text lines) e = refl
inline_rows c margins (scalar at props Literal text lines) e = absurd (true≢false (sym e))
inline_rows c margins (scalar at props Folded text lines) e = absurd (true≢false (sym e))
inline_rows c margins (alias at name) e = refl
inline_rows c margins (sequence at true props items) e = refl
inline_rows c margins (sequence at false props items) e = absurd (true≢false (sym e))
inline_rows c margins (mapping at true props pairs) e = refl
inline_rows c margins (mapping at false props pairs) e = absurd (true≢false (sym e))

inline_beside : (x : Node) → is_inline x ≡ true → begins_below x ≡ false
inline_beside (scalar at props style text lines) e = refl
inline_beside (alias at name) e = refl
inline_beside (sequence at true props no_items) e = refl
inline_beside (sequence at true props (item x xs)) e = refl
inline_beside (sequence at false props items) e = absurd (true≢false (sym e))
inline_beside (mapping at true props no_pairs) e = refl
inline_beside (mapping at true props (pair k v ps)) e = refl
inline_beside (mapping at false props pairs) e = absurd (true≢false (sym e))

line_claim : {s : LayoutSetting} {x : Node} (margins : Margins) (w : List ℕ) → w ≡ written s.style x → w ≢ [] → begins_below x ≡ false → is_inline x ≡ true → LineNode s.style FlowOut x → Claim s x margins (one_line_row margins.column x w)
line_claim margins [] e some b inline node = absurd (some refl)
line_claim {s} {x} margins (a ∷ w) e some b inline node =
    some_rows (λ z. refl) (λ z. absurd (true≢false (sym z ∙ b))) (record {
      made = λ {t} n c ds r q u stood k calm v.
          line_made {r = record (plain_row margins.column (a ∷ w)) { items = items_in x; leaves = leaves x }} margins n c ds r q b inline (λ z. some (e ∙ z)) refl e refl refl refl node u stood k v;
    })

-- The columns of values.

pos_at_most : (a b : ℕ) → a ≤ b → pos a ≤ℤ pos b
pos_at_most a b l = omega (arith, ints)

least_value : (sequence further : Bool) (column indent : ℕ) → 2 ≤ indent → least_column sequence (pos column) BlockOut ≤ℤ pos (if sequence && not further then column else column + indent)
least_value true true column indent wide = pos_at_most column (column + indent) (omega arith)
least_value true false column indent wide = pos_at_most column column (omega arith)
least_value false further column indent wide = pos_at_most (column + 1) (column + indent) (omega arith)

least_inner : (sequence : Bool) (column indent : ℕ) → 2 ≤ indent → (least_column sequence (pos column) BlockIn ≤ℤ pos (column + indent)) × (least_column sequence (pos column) BlockOut ≤ℤ pos (column + indent))
least_inner true column indent wide = (pos_at_most (column + 1) (column + indent) (omega arith), pos_at_most column (column + indent) (omega arith))
least_inner false column indent wide = (pos_at_most (column + 1) (column + indent) (omega arith), pos_at_most (column + 1) (column + indent) (omega arith))

value_stood : (c : LayoutSetting) (column : ℕ) (k v : Node) → Stood c v (pos column) BlockOut (value_of_implicit c column k v)
value_stood c column k v = record { block = refl; least = least_value (is_sequence v) c.style.seq_indent column c.style.indent c.style.indent_from; lines = refl }

commented_column : (b : Bool) (column indent n : ℕ) → 2 ≤ indent → b ≡ true → column + 1 ≤ (if b then column + indent else n)
commented_column true column indent n wide e = omega arith
commented_column false column indent n wide e = absurd (true≢false (sym e))

-- The claim for a node, whatever its margins.
pub record Everywhere (c : LayoutSetting) (x : Node) : Type 0 where
  pub claim : (margins : Margins) → Claim c x margins (rows c margins x)

-- Pairs.

within_limit : (n : ℕ) → nat_le n 1023 ≡ true → n ≤ 1023
within_limit n e = grind (arith, nat_tests)

pub not_implicit : (c : LayoutSetting) (column : ℕ) (k : Node) → is_one_line_key c.style column k ≡ false → is_implicit c.style column k ≡ true → ⊥
not_implicit c column k e f = true≢false (sym (and_parts (is_one_line_key c.style column k) (nat_le (width (written c.style k)) 1023) f).0 ∙ e)

pub block_is_no_key : (c : LayoutSetting) (column : ℕ) (at : NodeOffsets) (p : PropsValue) (text : List ℕ) (lines : List (List ℕ)) (style : ScalarStyle) → is_block_style style ≡ true
    → is_one_line_key c.style column (scalar at p style text lines) ≡ false
block_is_no_key c column at p text lines Plain e = absurd (true≢false (sym e))
block_is_no_key c column at p text lines Single e = absurd (true≢false (sym e))
block_is_no_key c column at p text lines Double e = absurd (true≢false (sym e))
block_is_no_key c column at p text lines Literal e = refl
block_is_no_key c column at p text lines Folded e = refl

no_leaf : (o : Option Span) → is_some o ≡ false → spans_of_leaf o ≡ []
no_leaf None e = refl
no_leaf (Some s) e = absurd (true≢false e)

implicit_makes : (c : LayoutSetting) (column : ℕ) {k v : Node} → is_implicit c.style column k ≡ true → Fit c.style k → Claim c v (value_of_implicit c column k v) (rows c (value_of_implicit c column k v) v)
    → EntryMakes c false column (max (tall k) (tall v)) (λ t m ps. FoundPair t c column k v m ps) (implicit_pair c column k v (rows c (value_of_implicit c column k v) v))
implicit_makes c column {k} {v} e (fit_nothing {at = at} f) value =
    unkeyed_makes column (entry_start k) (entry_start k ++ items_in k) (leaves k) (blank_before_entry (standing k).entry) (key_comment c.comments k v) (begins_below v) value refl
    (λ z b. commented_column (is_some (key_comment c.comments k v)) column c.style.indent _ c.style.indent_from z) (value_stood c column k v) refl e refl (record { meant = λ i. meant_nothing i f refl }) refl refl (no_leaf at.span f)
implicit_makes c column {k} {v} e (fit_line inline some node key) value =
    keyed_makes column (entry_start k) (entry_start k ++ items_in k) (leaves k) (blank_before_entry (standing k).entry) (key_comment c.comments k v) (begins_below v) value refl
    (λ z b. commented_column (is_some (key_comment c.comments k v)) column c.style.indent _ c.style.indent_from z) (value_stood c column k v) refl e refl key refl
    (within_limit (width (written c.style k)) (and_parts (is_one_line_key c.style column k) (nat_le (width (written c.style k)) 1023) e).1)
implicit_makes c column {k} {v} e (fit_scalar {at = at} {p = p} {style = style} {text = text} {lines = lines} f g h) value =
    absurd (not_implicit c column k (block_is_no_key c column at p text lines style h.block) e)
implicit_makes c column {k} {v} e (fit_sequence f p g gs) value = absurd (not_implicit c column k refl e)
implicit_makes c column {k} {v} e (fit_mapping f p g h gs) value = absurd (not_implicit c column k refl e)

question_makes : (c : LayoutSetting) (column : ℕ) {k v : Node} {at : Margins} → is_implicit c.style column k ≡ false → at ≡ key_margins c.style column k → Claim c k at (rows c at k)
    → Claim c v (inner_margins c.style column) (rows c (inner_margins c.style column) v)
    → EntryMakes c false column (max (tall k) (tall v)) (λ t m ps. FoundPair t c column k v m ps) (explicit_pair c.style column k (rows c at k) (rows c (inner_margins c.style column) v))
question_makes c column {k} {v} {at} marked e a b =
    explicit_makes column (entry_start k) (blank_before_entry (standing k).entry) (colon_offset (standing k).entry) marked c.style.indent_from e refl
    (record { block = refl; least = subst (λ z. least_column (is_sequence k) (pos column) BlockOut ≤ℤ pos z) (sym (ap (λ z. z.entries) e)) (least_inner (is_sequence k) column c.style.indent c.style.indent_from).1; lines = ap (λ z. z.lines) e })
    (record { block = refl; least = (least_inner (is_sequence v) column c.style.indent c.style.indent_from).1; lines = refl }) a b

-- the rows of a pair, by whether its key is implicit
abbrev pub either_pair : Bool → LayoutSetting → ℕ → Node → Node → List Row
either_pair b c column k v =
    if b then implicit_pair c column k v (rows c (if b then value_of_implicit c column k v else inner_margins c.style column) v)
    else explicit_pair c.style column k (rows c (key_margins c.style column k) k) (rows c (if b then value_of_implicit c column k v else inner_margins c.style column) v)

pair_makes : (c : LayoutSetting) (column : ℕ) {k v : Node} → Fit c.style k → Everywhere c k → Everywhere c v
    → EntryMakes c false column (max (tall k) (tall v)) (λ t m ps. FoundPair t c column k v m ps) (pair_rows c column k v (rows c (key_margins c.style column k) k) (rows c (value_margins c column k v) v))
pair_makes c column {k} {v} fit key value = go (is_implicit c.style column k) refl where
  go : (b : Bool) → is_implicit c.style column k ≡ b → EntryMakes c false column (max (tall k) (tall v)) (λ t m ps. FoundPair t c column k v m ps) (either_pair (is_implicit c.style column k) c column k v)
  go true e = subst (λ b. EntryMakes c false column (max (tall k) (tall v)) (λ t m ps. FoundPair t c column k v m ps) (either_pair b c column k v)) (sym e)
      (implicit_makes c column e fit (value.claim (value_of_implicit c column k v)))
  go false e = subst (λ b. EntryMakes c false column (max (tall k) (tall v)) (λ t m ps. FoundPair t c column k v m ps) (either_pair b c column k v)) (sym e)
      (question_makes c column e refl (key.claim (key_margins c.style column k)) (value.claim (inner_margins c.style column)))

dash_makes : (c : LayoutSetting) (column : ℕ) {x : Node} → Everywhere c x
    → EntryMakes c true column (tall x) (λ t m ps. FoundItem t c column x m ps) (after_sign c.style (entry_row column (codes "-") x) (rows c (inner_margins c.style column) x))
dash_makes c column {x} f =
    item_makes column (entry_start x) (blank_before_entry (standing x).entry) c.style.indent_from refl
    (record { block = refl; least = (least_inner (is_sequence x) column c.style.indent c.style.indent_from).0; lines = refl }) (f.claim (inner_margins c.style column))

-- a bound for one entry, and for others after it
bound_last : {c : LayoutSetting} {sequence : Bool} {column a b : ℕ} {P : List ℕ → Meaning → List PlacedRow → Type 0} {rs : List Row} → a ≡ b → EntriesMakes c sequence column a P rs → EntriesMakes c sequence column b P rs
bound_last {c} {sequence} {column} {P = P} {rs = rs} e = subst (λ n. EntriesMakes c sequence column n P rs) e

-- Trees.

module _ (c : LayoutSetting) where
  mutual
    node_everywhere : {x : Node} → Fit c.style x → Everywhere c x
    node_everywhere (fit_nothing {at = at} e) = record { claim = λ margins. no_row (record { meant = λ i. meant_nothing i e refl }) }
    node_everywhere {x} (fit_line inline some node key) = record {
      claim = λ margins.
          subst (λ rs. Claim c x margins rs) (sym (inline_rows c margins x inline)) (line_claim margins (written c.style x) refl some (inline_beside x inline) inline node);
    }
    node_everywhere (fit_scalar e props f) = record { claim = λ margins. scalar_claim c margins e props f }
    node_everywhere (fit_sequence {at = at} {p = p} {x = x} {xs = xs} e props f fs) = record { claim = λ margins. sequence_claim margins props (items_everywhere margins.entries (node_everywhere f) fs) } where
      sequence_claim : (margins : Margins) {p : PropsValue} → FitProps p → EntriesMakes c true margins.entries (tall_items (item x xs)) (λ t m ps. FoundItems t c margins.entries (item x xs) m ps) (rows_of_items c margins.entries (item x xs))
          → Claim c (sequence at false p (item x xs)) margins (props_row margins.column (props_text p) ++ rows_of_items c margins.entries (item x xs))
      sequence_claim margins no_fit_props made = bare_claim refl refl refl (λ t i j m ps a. found_sequence i j e refl a) made
      sequence_claim margins (some_fit_props {p = p} k n) made =
          propertied_claim k n (ap is_empty_text (same_props k) ∙ some_props k n) refl refl
          (λ t o f g i j m h ps y z w a. found_sequence_with p o f g i j e refl (ap is_empty_text (same_props k) ∙ some_props k n) y z w a) made
    node_everywhere (fit_mapping {at = at} {p = p} {k = k} {v = v} {ps = ps} e props f g fs) =
        record { claim = λ margins. mapping_claim margins props (pairs_everywhere margins.entries f (node_everywhere f) (node_everywhere g) fs) } where
          mapping_claim : (margins : Margins) {p : PropsValue} → FitProps p → EntriesMakes c false margins.entries (tall_pairs (pair k v ps)) (λ t m qs. FoundPairs t c margins.entries (pair k v ps) m qs) (rows_of_pairs c margins.entries (pair k v ps))
              → Claim c (mapping at false p (pair k v ps)) margins (props_row margins.column (props_text p) ++ rows_of_pairs c margins.entries (pair k v ps))
          mapping_claim margins no_fit_props made = bare_claim refl refl refl (λ t i j m qs a. found_mapping i j e refl a) made
          mapping_claim margins (some_fit_props {p = p} k n) made =
              propertied_claim k n (ap is_empty_text (same_props k) ∙ some_props k n) refl refl
              (λ t o f g i j m h qs y z w a. found_mapping_with p o f g i j e refl (ap is_empty_text (same_props k) ∙ some_props k n) y z w a) made

    items_everywhere : (column : ℕ) {x : Node} {xs : Items} → Everywhere c x → FitItems c.style xs
        → EntriesMakes c true column (tall_items (item x xs)) (λ t m ps. FoundItems t c column (item x xs) m ps) (rows_of_items c column (item x xs))
    items_everywhere column {x} f fit_no_items = bound_last (omega arith) (entries_last (λ t m ps a. found_last_item a) (dash_makes c column f))
    items_everywhere column f (fit_item g gs) = entries_more (λ t m n ps qs a b. found_more_items a b) (dash_makes c column f) (items_everywhere column (node_everywhere g) gs)

    pairs_everywhere : (column : ℕ) {k v : Node} {ps : Pairs} → Fit c.style k → Everywhere c k → Everywhere c v → FitPairs c.style ps
        → EntriesMakes c false column (tall_pairs (pair k v ps)) (λ t m qs. FoundPairs t c column (pair k v ps) m qs) (rows_of_pairs c column (pair k v ps))
    pairs_everywhere column {k} {v} fit f g fit_no_pairs = bound_last (omega arith) (entries_last (λ t m qs a. found_last_pair a) (pair_makes c column fit f g))
    pairs_everywhere column fit f g (fit_pair a b fs) =
        entries_more (λ t m n hs qs a b. found_more_pairs a b) (pair_makes c column fit f g) (pairs_everywhere column a (node_everywhere a) (node_everywhere b) fs)

-- the rows of a node are derived as the node, whatever its margins
pub node_claim : (c : LayoutSetting) (margins : Margins) {x : Node} → Fit c.style x → Claim c x margins (rows c margins x)
node_claim c margins f = (node_everywhere c f).claim margins
