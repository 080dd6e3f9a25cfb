-- For nodes that are found on quiet rows, a comment trails a key if and only if one trailed the key that was laid out.
use Rattle.std.proofs.Common.{◌≡◌, ◌≢◌, ℕ, ◌+◌, ◌≤◌, Bool, true, false, ◌&&◌, ◌||◌, List, [], ◌∷◌, length, None, refl, sym, ap, ◌∙◌, arith, true≢false}
use Rattle.std.specs.Prelude.{is_some, nat_lt, nat_le, find, if◌then◌else◌}
use Rattle.std.proofs.lemmas.Bool.{and_parts}
use Rattle.std.proofs.lemmas.Bool.Decides.{nat_tests}
use Rattle.yf_comments.specs.Comment.{CommentValue}
use Rattle.yf_props.specs.Props.{PropsValue}
use Rattle.yf_events.specs.Alike.{Alike, alike_scalars, alike_sequences, alike_mappings, AlikeItems, alike_nothing, alike_item, AlikePairs, alike_no_pairs, alike_pair}
use Rattle.yf_events.specs.declared.event.ScalarStyle.TheVariants.{Plain, Single, Double, Literal, Folded}
use Rattle.yf_events.specs.declared.event.Span.{Span}
use Rattle.yf_events.specs.Tree.{Node, NodeOffsets, scalar, alias, sequence, mapping, Items, no_items, item, Pairs, no_pairs, pair, leaves, is_text, is_filled_flow, is_block_collection, props_of}
use Rattle.yf_grammar.specs.Productions.TreesOfMeaning.{Anywhere}
use Rattle.yf_forms.specs.declared.style.Style.{Style}
use Rattle.yf_laws.specs.Preservation.AlikeBlocks.{AlikeBlocks, alike_lines, alike_block_sequences, alike_block_mappings, AlikeBlockItems, no_block_items, block_item, AlikeBlockPairs, no_block_pairs, block_pair}
use Rattle.yf_forms.specs.NormalForms.Normal.{LayoutSetting, Margins, first_between, fits, inner_margins, is_implicit, key_comment, key_margins, key_start, settled, settled_items, settled_pairs, value_entries, value_of_implicit, value_margins}
use Rattle.yf_forms.specs.Nodes.OneLine.{props_text, width, written}
use Rattle.yf_print.specs.Layouts.Rows.{begins_below}
use Rattle.yf_forms.specs.Nodes.Lines.{is_empty_text}
use Rattle.yf_laws.proofs.SecondRun.AlikeLemmas.{same_block, same_filled_flow, same_implicit, same_leaves, same_text}
use Rattle.yf_laws.proofs.SecondRun.FixedNodes.{first_item, first_key, first_value, flow_of, items_of, more_items, more_pairs, pairs_of}
use Rattle.yf_laws.proofs.RowNodes.FoundAgree.{OnRow, on_row, key_between, key_linked, key_quiet, no_value, none_found, sign_linked, sign_quiet, some_found, value_row}
use Rattle.yf_laws.proofs.RowNodes.FoundNodes.{KeyRows, key_commented, key_above, key_alone, key_joined, KeyOn, NodeRows, no_rows, line_rows, scalar_rows, sequence_rows, sequence_after, mapping_rows, mapping_after, ItemsRows, no_item_rows, item_rows, PairRows, explicit_rows, implicit_rows, PairsRows, no_pair_rows, pair_rows}
use Rattle.yf_laws.proofs.RowNodes.PlacedRows.{Inside, one_inside, PlacedRow}
use Rattle.yf_laws.proofs.RowNodes.QuietPlaces.{AllQuiet, quiet_row, TrailsTo, trails_to, Linked, linked_row, quiet_left, quiet_right, linked_left, linked_right}
use Rattle.yf_laws.proofs.Derived.StepsInText.{starts_of}
use Rattle.yf_laws.proofs.OutputLines.ChainedRows.{inline_no_block}

-- The comment of a key.

-- if a comment trails a key, the value is a leaf with characters or a filled flow collection, and has a leaf
some_value : (cs : List CommentValue) (k v : Node) → is_some (key_comment cs k v) ≡ true → ((is_text v || is_filled_flow v) ≡ true) × (leaves v ≢ [])
some_value cs k v e = by (is_text v || is_filled_flow v) refl where
  by : (b : Bool) → (is_text v || is_filled_flow v) ≡ b → ((is_text v || is_filled_flow v) ≡ true) × (leaves v ≢ [])
  by true f = (f, λ z. true≢false (sym e ∙ (ap (λ b. is_some (if b then first_between cs (key_start k) (leaves v) else None)) f ∙ ap (λ ls. is_some (first_between cs (key_start k) ls)) z)))
  by false f = absurd (true≢false (sym e ∙ ap (λ b. is_some (if b then first_between cs (key_start k) (leaves v) else None)) f))

first_met : (p : PlacedRow) (cs : List CommentValue) (from : ℕ) (ls : List Span) → ls ≢ [] → Inside p.from p.upto (starts_of ls)
    → ((to : ℕ) → p.from ≤ to → is_some (find (λ (c : CommentValue). nat_lt from c.offset && nat_lt c.offset to) cs) ≡ true) → is_some (first_between cs from ls) ≡ true
first_met p cs from [] n a f = absurd (n refl)
first_met p cs from (s ∷ ss) n (one_inside l m a) f = f s.start l

commented_key : {t : List ℕ} {c : LayoutSetting} {cs : List CommentValue} {m : ℕ} {margins : Margins} {l v w : Node} {items : List ℕ} {ls : List Span} {below : Bool} {ps hs : List PlacedRow} → KeyOn c.style t m l hs → NodeRows t c margins v w ps
    → KeyRows t items ls true below ps hs → Linked cs hs → (is_text w || is_filled_flow w) ≡ true → leaves w ≢ [] → is_some (key_comment cs l w) ≡ true
commented_key {c = c} {cs = cs} {l = l} {w = w} k r (key_commented {h = h} e f g) a q n = ap (λ b. is_some (if b then first_between cs (key_start l) (leaves w) else None)) q ∙ go (value_row r q) a where
  go : {ps : List PlacedRow} → OnRow w ps → Linked cs (h ∷ ps) → is_some (first_between cs (key_start l) (leaves w)) ≡ true
  go (on_row {p = p} inside) (linked_row trails more) = at (trails g) where
    at : TrailsTo cs h (p ∷ []) → is_some (first_between cs (key_start l) (leaves w)) ≡ true
    at (trails_to d i lo hi) =
        let b = (key_between c.style k).1 in
        first_met p cs (key_start l) (leaves w) n inside (λ to z. some_found (key_start l) to i (omega (arith, b, lo)) (omega (arith, hi, z)))

no_row : {w : Node} → OnRow w [] → ⊥
no_row a = elim a [ ]

none_met : (p : PlacedRow) (cs : List CommentValue) (from : ℕ) (ls : List Span) → Inside p.from p.upto (starts_of ls)
    → ((to : ℕ) → to ≤ p.upto → find (λ (c : CommentValue). nat_lt from c.offset && nat_lt c.offset to) cs ≡ None) → first_between cs from ls ≡ None
none_met p cs from [] a f = refl
none_met p cs from (s ∷ ss) (one_inside l m a) f = f s.start m

silent_rows : (house : Style) {t : List ℕ} {cs : List CommentValue} {m : ℕ} {l w : Node} {items : List ℕ} {ls : List Span} {below : Bool} {ps hs : List PlacedRow} → (is_text w || is_filled_flow w) ≡ true → begins_below w ≡ below
    → KeyRows t items ls false below ps hs → KeyOn house t m l hs → OnRow w ps → AllQuiet cs hs → first_between cs (key_start l) (leaves w) ≡ None
silent_rows house {w = w} q e (key_above f g h) k o a = absurd (no_value w (and_parts (is_block_collection w) (is_empty_text (props_text (props_of w))) e).0 q)
silent_rows house q e (key_alone f g h) k o a = absurd (no_row o)
silent_rows house {cs = cs} {l = l} {w = w} q e (key_joined {h = h} {p = p} f g i lo same on) k (on_row inside) (quiet_row quiet more) =
    let b = (key_between house k).0 in
    none_met p cs (key_start l) (leaves w) inside (λ to z. none_found (key_start l) to h.from h.upto b (omega (arith, same, z)) quiet)

silent_key : {t : List ℕ} {c : LayoutSetting} {cs : List CommentValue} {m : ℕ} {margins : Margins} {l v w : Node} {items : List ℕ} {ls : List Span} {below : Bool} {ps hs : List PlacedRow} → begins_below w ≡ below → KeyOn c.style t m l hs
    → NodeRows t c margins v w ps → KeyRows t items ls false below ps hs → AllQuiet cs hs → key_comment cs l w ≡ None
silent_key {c = c} {cs = cs} {l = l} {v = v} {w = w} e k r rows a = by (is_text w || is_filled_flow w) refl where
  by : (b : Bool) → (is_text w || is_filled_flow w) ≡ b → key_comment cs l w ≡ None
  by false q = ap (λ b. if b then first_between cs (key_start l) (leaves w) else None) q
  by true q = ap (λ b. if b then first_between cs (key_start l) (leaves w) else None) q ∙ silent_rows c.style q e rows k (value_row r q) a

-- as the key was laid out
key_agrees : {t : List ℕ} {c : LayoutSetting} {cs : List CommentValue} {m : ℕ} {margins : Margins} {l v w : Node} {items : List ℕ} {ls : List Span} {ps hs : List PlacedRow} (k : Node) (b : Bool) → b ≡ is_some (key_comment c.comments k v) → Alike Anywhere v w
    → KeyOn c.style t m l hs → NodeRows t c margins v w ps → KeyRows t items ls b (begins_below w) ps hs → AllQuiet cs hs → Linked cs hs
    → is_some (key_comment c.comments k v) ≡ is_some (key_comment cs l w)
key_agrees {c = c} {v = v} {w = w} k true e a on r rows quiet linked =
    let value = some_value c.comments k v (sym e) in
    let text : (is_text w || is_filled_flow w) ≡ true = ap (λ z. z || is_filled_flow w) (sym (same_text a)) ∙ (ap (λ z. is_text v || z) (sym (same_filled_flow a)) ∙ value.0) in
    sym e ∙ sym (commented_key on r rows linked text (λ z. value.1 (none_left (leaves v) (same_leaves a ∙ ap (λ xs. length xs) z)))) where
      none_left : (xs : List Span) → length xs ≡ 0 → xs ≡ []
      none_left [] z = refl
      none_left (x ∷ xs) z = absurd (omega (arith, z))
key_agrees k false e a on r rows quiet linked = sym e ∙ sym (ap is_some (silent_key refl on r rows quiet))

-- A key that is written with a `?` is not implicit at any column.

implicit_line : (s : Style) (column : ℕ) (k : Node) → is_implicit s column k ≡ true → is_block_collection k ≡ false
implicit_line s column (scalar at props style text lines) e = refl
implicit_line s column (alias at name) e = refl
implicit_line s column (sequence at flow props no_items) e = refl
implicit_line s column (sequence at true props (item x xs)) e = refl
implicit_line s column (sequence at false props (item x xs)) e = absurd (true≢false (sym e))
implicit_line s column (mapping at flow props no_pairs) e = refl
implicit_line s column (mapping at true props (pair k v ps)) e = refl
implicit_line s column (mapping at false props (pair k v ps)) e = absurd (true≢false (sym e))

wider_test : (m column indent w most : ℕ) → nat_le (column + w) most ≡ true → nat_le (m + w) most ≡ false → nat_le (m + indent + w) most ≡ false
wider_test m column indent w most e f = grind (arith, nat_tests)

-- a filled flow collection that doesn't fit at the start of its entry doesn't fit after a `?`
flow_test : (flow fit wide : Bool) (a b c : Bool) → ((flow && a) && wide) ≡ true → ((flow && b) && wide) ≡ false → (b ≡ false → c ≡ false) → (flow ≡ true) × (c ≡ false)
flow_test true fit true true false c e f g = (refl, g refl)
flow_test true fit true true true c e f g = absurd (true≢false f)
flow_test true fit true false b c e f g = absurd (true≢false (sym e))
flow_test true fit false true b c e f g = absurd (true≢false (sym e))
flow_test true fit false false b c e f g = absurd (true≢false (sym e))
flow_test false fit wide a b c e f g = absurd (true≢false (sym e))

marked_flow : (s : Style) (m column : ℕ) (flow wide : Bool) (X block : Node) → flow_of X ≡ flow → flow_of block ≡ false → ((flow && fits s column X) && wide) ≡ true → ((flow && fits s m X) && wide) ≡ false
    → (if flow && fits s (if (flow && fits s m X) && wide then m else m + s.indent) X then X else block) ≡ X → ⊥
marked_flow s m column flow wide X block same none e f h =
    let w : (flow ≡ true) × (fits s (m + s.indent) X ≡ false) =
    flow_test flow true wide (fits s column X) (fits s m X) (fits s (m + s.indent) X) e f
    (λ z. wider_test m column s.indent (width (written s X)) s.max_line (and_parts flow (fits s column X) (and_parts (flow && fits s column X) wide e).0).1 z) in
    let test : (flow && fits s (if (flow && fits s m X) && wide then m else m + s.indent) X) ≡ false =
    ap (λ b. flow && fits s (if b then m else m + s.indent) X) f ∙ (ap (λ b. flow && b) w.1 ∙ ap (λ b. b && false) w.0) in
    let blocks : block ≡ X = ap (λ b. if b then X else block) (sym test) ∙ h in
    true≢false (sym w.0 ∙ (sym same ∙ (sym (ap flow_of blocks) ∙ none)))

explicit_nowhere : (c : LayoutSetting) (m column : ℕ) (k : Node) → is_implicit c.style m k ≡ false → settled c (key_margins c.style m k) k ≡ k → is_implicit c.style column k ≡ true → ⊥
explicit_nowhere c m column (scalar at props Plain text lines) e h f = true≢false (sym f ∙ e)
explicit_nowhere c m column (scalar at props Single text lines) e h f = true≢false (sym f ∙ e)
explicit_nowhere c m column (scalar at props Double text lines) e h f = true≢false (sym f ∙ e)
explicit_nowhere c m column (scalar at props Literal text lines) e h f = true≢false (sym f)
explicit_nowhere c m column (scalar at props Folded text lines) e h f = true≢false (sym f)
explicit_nowhere c m column (alias at name) e h f = true≢false (sym f ∙ e)
explicit_nowhere c m column (sequence at flow props no_items) e h f = true≢false (sym f ∙ e)
explicit_nowhere c m column (sequence at flow props (item x xs)) e h f =
    let X : Node = sequence at flow props (item x xs) in
    marked_flow c.style m column flow (nat_le (width (written c.style X)) 1023) X (sequence at false props (settled_items c (m + c.style.indent) (item x xs))) refl refl f e h
explicit_nowhere c m column (mapping at flow props no_pairs) e h f = true≢false (sym f ∙ e)
explicit_nowhere c m column (mapping at flow props (pair k v ps)) e h f =
    let X : Node = mapping at flow props (pair k v ps) in
    marked_flow c.style m column flow (nat_le (width (written c.style X)) 1023) X (mapping at false props (settled_pairs c (m + c.style.indent) (pair k v ps))) refl refl f e h

-- Trees.

items_settle : (c : LayoutSetting) (margins : Margins) (at : NodeOffsets) (props : PropsValue) (xs : Items) → settled c margins (sequence at false props xs) ≡ sequence at false props xs → settled_items c margins.entries xs ≡ xs
items_settle c margins at props no_items h = refl
items_settle c margins at props (item x xs) h = ap items_of h

pairs_settle : (c : LayoutSetting) (margins : Margins) (at : NodeOffsets) (props : PropsValue) (ps : Pairs) → settled c margins (mapping at false props ps) ≡ mapping at false props ps → settled_pairs c margins.entries ps ≡ ps
pairs_settle c margins at props no_pairs h = refl
pairs_settle c margins at props (pair k v ps) h = ap pairs_of h

sequence_parts : {at bt : NodeOffsets} {f g : Bool} {p r : PropsValue} {xs ys : Items} → Alike Anywhere (sequence at f p xs) (sequence bt g r ys) → (is_some at.span ≡ is_some bt.span) × AlikeItems Anywhere xs ys
sequence_parts (alike_sequences e a) = (e, a)

mapping_parts : {at bt : NodeOffsets} {f g : Bool} {p r : PropsValue} {ps qs : Pairs} → Alike Anywhere (mapping at f p ps) (mapping bt g r qs) → (is_some at.span ≡ is_some bt.span) × AlikePairs Anywhere ps qs
mapping_parts (alike_mappings e a) = (e, a)

mutual
  pub blocks_found : {t : List ℕ} {c : LayoutSetting} {cs : List CommentValue} {at : Margins} {x y : Node} {ps : List PlacedRow} (margins : Margins) → margins.entries ≡ at.entries → settled c margins x ≡ x → Alike Anywhere x y → NodeRows t c at x y ps
      → AllQuiet cs ps → Linked cs ps → AlikeBlocks c.style c.comments cs x y
  blocks_found margins e h (alike_scalars a) (no_rows f) q l = alike_lines (alike_scalars a) refl
  blocks_found margins e h a (line_rows {y = y} f n g i j st k o column text) q l = alike_lines a (same_block a ∙ inline_no_block y f)
  blocks_found margins e h (alike_scalars a) (scalar_rows f n g i j) q l = alike_lines (alike_scalars a) refl
  blocks_found {c = c} margins e h a (sequence_rows {at = at} {props = props} {xs = xs} f n r) q l =
      let b = sequence_parts a in alike_block_sequences b.0 (items_blocks margins.entries e (items_settle c margins at props xs h) b.1 r q l)
  blocks_found {c = c} margins e h a (sequence_after {at = at} {props = props} {xs = xs} f n g i j r) (quiet_row q qs) (linked_row l ls) =
      let b = sequence_parts a in alike_block_sequences b.0 (items_blocks margins.entries e (items_settle c margins at props xs h) b.1 r qs ls)
  blocks_found {c = c} margins e h a (mapping_rows {at = at} {props = props} {xs = xs} f n r) q l =
      let b = mapping_parts a in alike_block_mappings b.0 (pairs_blocks margins.entries e (pairs_settle c margins at props xs h) b.1 r q l)
  blocks_found {c = c} margins e h a (mapping_after {at = at} {props = props} {xs = xs} f n g i j r) (quiet_row q qs) (linked_row l ls) =
      let b = mapping_parts a in alike_block_mappings b.0 (pairs_blocks margins.entries e (pairs_settle c margins at props xs h) b.1 r qs ls)

  items_blocks : {t : List ℕ} {c : LayoutSetting} {cs : List CommentValue} {m : ℕ} {xs ys : Items} {ps : List PlacedRow} (column : ℕ) → column ≡ m → settled_items c column xs ≡ xs → AlikeItems Anywhere xs ys
      → ItemsRows t c m xs ys ps → AllQuiet cs ps → Linked cs ps → AlikeBlockItems c.style c.comments cs xs ys
  items_blocks column e h alike_nothing no_item_rows q l = no_block_items
  items_blocks {c = c} column e h (alike_item a b) (item_rows {x = x} {hs = hs} {qs = qs} r s more) q l =
      block_item (blocks_found (inner_margins c.style column) (ap (λ z. z + c.style.indent) e) (ap (first_item x) h) a r (sign_quiet s (quiet_left hs qs q)) (sign_linked s (linked_left hs qs l)))
      (items_blocks column e (ap more_items h) b more (quiet_right hs qs q) (linked_right hs qs l))

  pair_blocks : {t : List ℕ} {c : LayoutSetting} {cs : List CommentValue} {m : ℕ} {k l v w : Node} {ms ns : Pairs} {ps : List PlacedRow} (column : ℕ) → column ≡ m → settled c (key_margins c.style column k) k ≡ k
      → settled c (value_margins c column k v) v ≡ v → Alike Anywhere k l → Alike Anywhere v w → PairRows t c m k v l w ps → AllQuiet cs ps → Linked cs ps → AlikeBlockPairs c.style c.comments cs ms ns
      → AlikeBlockPairs c.style c.comments cs (pair k v ms) (pair l w ns)
  pair_blocks {c = c} {m = m} {k = k} {v = v} column e h i a b (explicit_rows {hs = hs} {gs = gs} n r s d f) q l more =
      let here : is_implicit c.style column k ≡ false = ap (λ z. is_implicit c.style z k) e ∙ (same_implicit c.style m a ∙ n) in
      let margins : (value_margins c column k v).entries ≡ column + c.style.indent = ap (λ z. (if z then value_of_implicit c column k v else inner_margins c.style column).entries) here in
      block_pair (blocks_found (key_margins c.style column k) (ap (λ z. z + c.style.indent) e) h a r (sign_quiet s (quiet_left hs gs q)) (sign_linked s (linked_left hs gs l)))
      (blocks_found (value_margins c column k v) (margins ∙ ap (λ z. z + c.style.indent) e) i b d (sign_quiet f (quiet_right hs gs q)) (sign_linked f (linked_right hs gs l)))
      (record { comment = λ other z. absurd (explicit_nowhere c column other k here h z) }) more
  pair_blocks {c = c} {m = m} {k = k} {v = v} {w = w} column e h i a b (implicit_rows flag g n on d f) q l more =
      let here : is_implicit c.style column k ≡ true = ap (λ z. is_implicit c.style z k) e ∙ (same_implicit c.style m a ∙ n) in
      let margins : (value_margins c column k v).entries ≡ value_entries c.style column v = ap (λ z. (if z then value_of_implicit c column k v else inner_margins c.style column).entries) here in
      let entries : value_entries c.style column v ≡ value_entries c.style m v = ap (λ z. value_entries c.style z v) e in
      block_pair (alike_lines a (implicit_line c.style column k here)) (blocks_found (value_margins c column k v) (margins ∙ entries) i b d (key_quiet f q) (key_linked f l))
      (record { comment = λ other z. key_agrees k flag g b on d f q l }) more

  pairs_blocks : {t : List ℕ} {c : LayoutSetting} {cs : List CommentValue} {m : ℕ} {xs ys : Pairs} {ps : List PlacedRow} (column : ℕ) → column ≡ m → settled_pairs c column xs ≡ xs → AlikePairs Anywhere xs ys
      → PairsRows t c m xs ys ps → AllQuiet cs ps → Linked cs ps → AlikeBlockPairs c.style c.comments cs xs ys
  pairs_blocks column e h alike_no_pairs no_pair_rows q l = no_block_pairs
  pairs_blocks column e h (alike_pair a b g more) (pair_rows {k = k} {v = v} {hs = hs} {rs = rs} r others) q l =
      pair_blocks column e (ap (first_key k) h) (ap (first_value v) h) a b r (quiet_left hs rs q) (linked_left hs rs l)
      (pairs_blocks column e (ap more_pairs h) more others (quiet_right hs rs q) (linked_right hs rs l))
