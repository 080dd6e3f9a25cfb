-- In the trees found on laid-out rows, each outermost flow collection is at its column as it is written.
use Rattle.std.proofs.Common.{◌≡◌, ℕ, ◌+◌, Bool, true, false, true≢false, List, [], ◌∷◌, ◌++◌, refl, sym, ap, ◌∙◌, subst}
use Rattle.std.specs.Prelude.{is_some, if◌then◌else◌, slice_range}
use Rattle.std.specs.Str.{IsUtf8}
use Rattle.yf_lines.specs.Basic.{LineStart}
use Rattle.yf_comments.specs.Comment.{CommentValue}
use Rattle.yf_events.specs.Alike.{Alike, alike_scalars, alike_aliases, alike_sequences, alike_mappings, AlikeItems, alike_nothing, alike_item, AlikePairs, alike_no_pairs, alike_pair}
use Rattle.yf_events.specs.declared.event.Span.{Span}
use Rattle.yf_events.specs.Tree.{Node, scalar, alias, sequence, mapping, Items, no_items, item, Pairs, no_pairs, pair, standing}
use Rattle.yf_grammar.specs.Productions.TreesOfMeaning.{Anywhere}
use Rattle.yf_forms.specs.declared.style.Style.{Style}
use Rattle.yf_laws.specs.Preservation.AlikeBlocks.{AlikeBlocks, AlikeBlockItems, no_block_items, block_item, AlikeBlockPairs, no_block_pairs, block_pair}
use Rattle.yf_forms.specs.Nodes.ContentStart.{content_start}
use Rattle.yf_laws.specs.Layouts.Decorated.{Deco, after, inline_then}
use Rattle.yf_laws.specs.Layouts.ReadableTrees.{is_inline}
use Rattle.yf_forms.specs.NormalForms.Normal.{LayoutSetting, Margins, inner_margins, is_implicit, key_margins, value_of_implicit, value_margins}
use Rattle.yf_forms.specs.Nodes.OneLine.{bare, width, written}
use Rattle.yf_laws.specs.Layouts.RowShapes.{KeysAgree}
use Rattle.yf_print.specs.Layouts.Rows.{Row}
use Rattle.yf_laws.proofs.SecondRun.AlikeLemmas.{same_bare, same_implicit, same_key_margins, same_props, same_value_margins, same_written, setting}
use Rattle.yf_laws.proofs.RowNodes.BareNodes.{bare as unnoted, bare_comment, bare_items, bare_pairs}
use Rattle.yf_laws.proofs.Derived.EntriesMade.{Begins, begins}
use Rattle.yf_laws.proofs.SecondRun.FixedBlocks.{blocks_alike}
use Rattle.yf_laws.proofs.Columns.FlowHeads.{is_bracketed}
use Rattle.yf_laws.proofs.RowNodes.FoundMarks.{mapping_blocks, sequence_blocks}
use Rattle.yf_laws.proofs.RowNodes.FoundNodes.{SignRows, sign_alone, sign_joined, KeyRows, key_commented, key_above, key_alone, key_joined, key_on, NodeText, NodeRows, no_rows, line_rows, scalar_rows, sequence_rows, sequence_after, mapping_rows, mapping_after, ItemsRows, no_item_rows, item_rows, PairRows, explicit_rows, implicit_rows, PairsRows, no_pair_rows, pair_rows}
use Rattle.yf_laws.proofs.Columns.LinePlaces.{OnLine, line_begins, on_column, on_same}
use Rattle.yf_laws.proofs.RowNodes.PlacedRows.{PlacedRow, RowsIn, last_row, row_before}
use Rattle.yf_laws.proofs.Columns.WrittenFlows.{flow_written}
use Rattle.yf_laws.proofs.Columns.WrittenNodes.{WrittenAt, WrittenNode, written_scalar, written_alias, sequence_on_line, mapping_on_line, written_sequence, written_mapping, WrittenItems, no_written_items, written_item, WrittenPairs, no_written_pairs, written_pair}

-- Rows on their lines.

-- each row begins at its column
pub data AllLined (t : List ℕ) : List PlacedRow → Type 0 where
  lined_none : AllLined t []
  lined_row : {p : PlacedRow} {ps : List PlacedRow} → OnLine t p.column p.from → AllLined t ps → AllLined t (p ∷ ps)

-- the first row begins there
pub data FirstOn (t : List ℕ) (i : ℕ) : List Row → Type 0 where
  first_on : {x : Row} {xs : List Row} → OnLine t x.column i → FirstOn t i (x ∷ xs)

pub first_begins : {t : List ℕ} {i : ℕ} {rs : List Row} → Begins 0 rs → LineStart t i → FirstOn t i rs
first_begins (begins e) a = first_on (on_same (sym e) refl (line_begins a))

pub rows_lined : {t : List ℕ} {xs : List Row} {ps : List PlacedRow} {ds : List Deco} {i j : ℕ} {cs : List CommentValue} {r : List ℕ} → IsUtf8 t → FirstOn t i xs → RowsIn t xs ps ds i cs j r → AllLined t ps
rows_lined u (first_on a) (last_row at e w) = lined_row (on_same at.column (sym at.from) a) lined_none
rows_lined u (first_on a) (row_before {y = y} {xs = xs} {ds = ds} {r = r} at e w more) =
    lined_row (on_same at.column (sym at.from) a) (rows_lined u (first_on (on_column y.column (inline_then (y ∷ xs) (after ds) r) u e.start w)) more)

pub lined_left : {t : List ℕ} (xs ys : List PlacedRow) → AllLined t (xs ++ ys) → AllLined t xs
lined_left [] ys a = lined_none
lined_left (x ∷ xs) ys (lined_row o a) = lined_row o (lined_left xs ys a)

pub lined_right : {t : List ℕ} (xs ys : List PlacedRow) → AllLined t (xs ++ ys) → AllLined t ys
lined_right [] ys a = a
lined_right (x ∷ xs) ys (lined_row o a) = lined_right xs ys a

sign_lined : {t : List ℕ} {items : List ℕ} {ps hs : List PlacedRow} → SignRows t items ps hs → AllLined t hs → AllLined t ps
sign_lined (sign_alone e f g w) a = lined_none
sign_lined (sign_joined e f g l m o w) (lined_row b a) = lined_row (o b) a

key_lined : {t : List ℕ} {items : List ℕ} {ls : List Span} {b below : Bool} {ps hs : List PlacedRow} → KeyRows t items ls b below ps hs → AllLined t hs → AllLined t ps
key_lined (key_commented e f g) (lined_row b a) = a
key_lined (key_above e f g) (lined_row b a) = a
key_lined (key_alone e f g) (lined_row b a) = a
key_lined (key_joined e f g l m o) (lined_row b a) = lined_row (o b) a

-- Nodes on their rows.

on_row : (house : Style) {t : List ℕ} {m : ℕ} (p : PlacedRow) (y : Node) → IsUtf8 t → p.column ≡ m → NodeText house t p.from y → OnLine t p.column p.from → is_bracketed y ≡ true → WrittenAt house t m y
on_row house p y u e w a f = flow_written house u w f (on_same e refl a)

module _ {t : List ℕ} (c : LayoutSetting) (cs : List CommentValue) (u : IsUtf8 t) where
  line_written : {margins : Margins} (p : PlacedRow) (y : Node) → is_inline y ≡ true → p.column ≡ margins.column → NodeText c.style t p.from y → OnLine t p.column p.from → WrittenNode t (setting c.style cs) margins y
  line_written p (scalar at props style text lines) i e w a = written_scalar
  line_written p (alias at name) i e w a = written_alias
  line_written p (sequence at true props xs) i e w a = sequence_on_line (on_row c.style p (sequence at true props xs) u e w a refl)
  line_written p (sequence at false props xs) i e w a = absurd (true≢false (sym i))
  line_written p (mapping at true props ps) i e w a = mapping_on_line (on_row c.style p (mapping at true props ps) u e w a refl)
  line_written p (mapping at false props ps) i e w a = absurd (true≢false (sym i))

  key_written : (m : ℕ) (p : PlacedRow) (k : Node) → is_implicit c.style m k ≡ true → p.column ≡ m → NodeText c.style t p.from k → OnLine t p.column p.from
      → WrittenNode t (setting c.style cs) (key_margins c.style m k) k
  key_written m p (scalar at props style text lines) i e w a = written_scalar
  key_written m p (alias at name) i e w a = written_alias
  key_written m p (sequence at true props xs) i e w a =
      sequence_on_line (on_row c.style p (sequence at true props xs) u (e ∙ sym (ap (λ b. if b then m else m + c.style.indent) i)) w a refl)
  key_written m p (sequence at false props no_items) i e w a = written_sequence no_written_items
  key_written m p (sequence at false props (item x xs)) i e w a = absurd (true≢false (sym i))
  key_written m p (mapping at true props ps) i e w a =
      mapping_on_line (on_row c.style p (mapping at true props ps) u (e ∙ sym (ap (λ b. if b then m else m + c.style.indent) i)) w a refl)
  key_written m p (mapping at false props no_pairs) i e w a = written_mapping no_written_pairs
  key_written m p (mapping at false props (pair k v ps)) i e w a = absurd (true≢false (sym i))

  -- the margins of the value of an implicit key, and of any other value
  value_at : (m : ℕ) {k v l w : Node} → is_implicit c.style m l ≡ true → Alike Anywhere k l → Alike Anywhere v w → KeysAgree c.style c.comments cs k v l w
      → value_of_implicit c m k v ≡ value_margins (setting c.style cs) m l w
  value_at m {k} {v} n a b g =
      sym (ap (λ z. if z then value_of_implicit c m k v else inner_margins c.style m) (same_implicit c.style m a ∙ n)) ∙ same_value_margins {cs = c.comments} {ds = cs} c.style m a b g

  value_after : (m : ℕ) (l w : Node) → is_implicit c.style m l ≡ false → inner_margins c.style m ≡ value_margins (setting c.style cs) m l w
  value_after m l w n = sym (ap (λ z. if z then value_of_implicit (setting c.style cs) m l w else inner_margins c.style m) n)

  mutual
    pub rows_written : {margins : Margins} {x y : Node} {ps : List PlacedRow} → NodeRows t c margins x y ps → AllLined t ps → AlikeBlocks c.style c.comments cs x y → WrittenNode t (setting c.style cs) margins y
    rows_written (no_rows e) l a = written_scalar
    rows_written (line_rows {y = y} {p = p} f n g h i st j k e w) (lined_row o l) a = line_written p y f e w o
    rows_written (scalar_rows f n g h i) l a = written_scalar
    rows_written (sequence_rows b f r) l a = written_sequence (items_written r l (sequence_blocks a b))
    rows_written (sequence_after b f g h i r) (lined_row o l) a = written_sequence (items_written r l (sequence_blocks a b))
    rows_written (mapping_rows b f r) l a = written_mapping (pairs_written r l (mapping_blocks a b))
    rows_written (mapping_after b f g h i r) (lined_row o l) a = written_mapping (pairs_written r l (mapping_blocks a b))

    items_written : {m : ℕ} {xs ys : Items} {ps : List PlacedRow} → ItemsRows t c m xs ys ps → AllLined t ps → AlikeBlockItems c.style c.comments cs xs ys → WrittenItems t (setting c.style cs) m ys
    items_written no_item_rows l no_block_items = no_written_items
    items_written (item_rows {hs = hs} {qs = qs} r s more) l (block_item a b) =
        written_item (rows_written r (sign_lined s (lined_left hs qs l)) a) (items_written more (lined_right hs qs l) b)

    pair_written : {m : ℕ} {k v l w : Node} {qs : Pairs} {ps : List PlacedRow} → PairRows t c m k v l w ps → AllLined t ps → AlikeBlocks c.style c.comments cs k l → AlikeBlocks c.style c.comments cs v w
        → KeysAgree c.style c.comments cs k v l w → WrittenPairs t (setting c.style cs) m qs → WrittenPairs t (setting c.style cs) m (pair l w qs)
    pair_written {m} {l = l} {w = w} (explicit_rows {hs = hs} {gs = gs} n r s d f) o a b g more =
        written_pair (subst (λ z. WrittenNode t (setting c.style cs) z l) (same_key_margins c.style m (blocks_alike a)) (rows_written r (sign_lined s (lined_left hs gs o)) a))
        (subst (λ z. WrittenNode t (setting c.style cs) z w) (value_after m l w n) (rows_written d (sign_lined f (lined_right hs gs o)) b)) more
    pair_written {m} {l = l} {w = w} (implicit_rows flag q n (key_on {h = h} st j k e column text some) r f) (lined_row o os) a b g more =
        written_pair (key_written m h l n column text o)
        (subst (λ z. WrittenNode t (setting c.style cs) z w) (value_at m n (blocks_alike a) (blocks_alike b) g) (rows_written r (key_lined f (lined_row o os)) b)) more

    pairs_written : {m : ℕ} {xs ys : Pairs} {ps : List PlacedRow} → PairsRows t c m xs ys ps → AllLined t ps → AlikeBlockPairs c.style c.comments cs xs ys → WrittenPairs t (setting c.style cs) m ys
    pairs_written no_pair_rows l no_block_pairs = no_written_pairs
    pairs_written (pair_rows {hs = hs} {rs = rs} r others) l (block_pair a b g more) =
        pair_written r (lined_left hs rs l) a b g (pairs_written others (lined_right hs rs l) more)

-- Notes on blank lines don't change this.

mutual
  noted : (x : Node) → Alike Anywhere x (unnoted x)
  noted (scalar at props style text lines) = alike_scalars refl
  noted (alias at name) = alike_aliases refl
  noted (sequence at flow props xs) = alike_sequences refl (noted_items xs)
  noted (mapping at flow props ps) = alike_mappings refl (noted_pairs ps)

  noted_items : (xs : Items) → AlikeItems Anywhere xs (bare_items xs)
  noted_items no_items = alike_nothing
  noted_items (item x xs) = alike_item (noted x) (noted_items xs)

  noted_pairs : (ps : Pairs) → AlikePairs Anywhere ps (bare_pairs ps)
  noted_pairs no_pairs = alike_no_pairs
  noted_pairs (pair k v ps) = alike_pair (noted k) (noted v) tt (noted_pairs ps)

mutual
  turned : {x y : Node} → Alike Anywhere x y → Alike Anywhere y x
  turned (alike_scalars e) = alike_scalars (sym e)
  turned (alike_aliases e) = alike_aliases (sym e)
  turned (alike_sequences e a) = alike_sequences (sym e) (turned_items a)
  turned (alike_mappings e a) = alike_mappings (sym e) (turned_pairs a)

  turned_items : {xs ys : Items} → AlikeItems Anywhere xs ys → AlikeItems Anywhere ys xs
  turned_items alike_nothing = alike_nothing
  turned_items (alike_item a more) = alike_item (turned a) (turned_items more)

  turned_pairs : {ps qs : Pairs} → AlikePairs Anywhere ps qs → AlikePairs Anywhere qs ps
  turned_pairs alike_no_pairs = alike_no_pairs
  turned_pairs (alike_pair a b g more) = alike_pair (turned a) (turned b) tt (turned_pairs more)

written_alike : (house : Style) {t : List ℕ} {m : ℕ} {x y : Node} → Alike Anywhere x y → (standing y).span ≡ (standing x).span → WrittenAt house t m x → WrittenAt house t m y
written_alike house {t} {m} {x} {y} b e a =
    let same : width (written house x) ≡ width (written house y) = ap width (same_written house b) in
    record {
      span = a.span;
      is = e ∙ a.is;
      text = subst (λ p. slice_range t (content_start t a.span p) a.span.end ≡ bare house y) (same_props b) (a.text ∙ same_bare house b);
      on = record { line = a.on.line; start = a.on.start; before = a.on.before; run = a.on.run; wide = a.on.wide ∙ ap (λ n. m + n) same; quiet = a.on.quiet };
      some = a.some;
      last = a.last;
    }

same_comments : {s : Style} {cs : List CommentValue} (k v : Node) → KeysAgree s cs cs k v (unnoted k) (unnoted v)
same_comments {cs = cs} k v = record { comment = λ column e. ap is_some (sym (bare_comment cs k v)) }

other_comments : {s : Style} {cs : List CommentValue} (k v : Node) → KeysAgree s cs cs (unnoted k) (unnoted v) k v
other_comments {cs = cs} k v = record { comment = λ column e. ap is_some (bare_comment cs k v) }

module _ {t : List ℕ} {s : Style} {cs : List CommentValue} where
  mutual
    bare_written : {margins : Margins} {y : Node} → WrittenNode t (setting s cs) margins y → WrittenNode t (setting s cs) margins (unnoted y)
    bare_written written_scalar = written_scalar
    bare_written written_alias = written_alias
    bare_written (sequence_on_line {at = at} {props = props} {xs = xs} a) = sequence_on_line (written_alike s (noted (sequence at true props xs)) refl a)
    bare_written (mapping_on_line {at = at} {props = props} {ps = ps} a) = mapping_on_line (written_alike s (noted (mapping at true props ps)) refl a)
    bare_written (written_sequence a) = written_sequence (bare_items_written a)
    bare_written (written_mapping a) = written_mapping (bare_pairs_written a)

    bare_items_written : {m : ℕ} {xs : Items} → WrittenItems t (setting s cs) m xs → WrittenItems t (setting s cs) m (bare_items xs)
    bare_items_written no_written_items = no_written_items
    bare_items_written (written_item a more) = written_item (bare_written a) (bare_items_written more)

    bare_pairs_written : {m : ℕ} {ps : Pairs} → WrittenPairs t (setting s cs) m ps → WrittenPairs t (setting s cs) m (bare_pairs ps)
    bare_pairs_written no_written_pairs = no_written_pairs
    bare_pairs_written {m} (written_pair {k = k} {v = v} a b more) =
        written_pair (subst (λ z. WrittenNode t (setting s cs) z (unnoted k)) (same_key_margins s m (noted k)) (bare_written a))
        (subst (λ z. WrittenNode t (setting s cs) z (unnoted v)) (same_value_margins s m (noted k) (noted v) (same_comments k v)) (bare_written b)) (bare_pairs_written more)

  mutual
    noted_written : {margins : Margins} (z : Node) → WrittenNode t (setting s cs) margins (unnoted z) → WrittenNode t (setting s cs) margins z
    noted_written (scalar at props style text lines) a = written_scalar
    noted_written (alias at name) a = written_alias
    noted_written (sequence at true props xs) (sequence_on_line a) = sequence_on_line (written_alike s (turned (noted (sequence at true props xs))) refl a)
    noted_written (mapping at true props ps) (mapping_on_line a) = mapping_on_line (written_alike s (turned (noted (mapping at true props ps))) refl a)
    noted_written (sequence at false props xs) (written_sequence a) = written_sequence (noted_items_written xs a)
    noted_written (mapping at false props ps) (written_mapping a) = written_mapping (noted_pairs_written ps a)

    noted_items_written : {m : ℕ} (zs : Items) → WrittenItems t (setting s cs) m (bare_items zs) → WrittenItems t (setting s cs) m zs
    noted_items_written no_items a = no_written_items
    noted_items_written (item z zs) (written_item a more) = written_item (noted_written z a) (noted_items_written zs more)

    noted_pairs_written : {m : ℕ} (qs : Pairs) → WrittenPairs t (setting s cs) m (bare_pairs qs) → WrittenPairs t (setting s cs) m qs
    noted_pairs_written no_pairs a = no_written_pairs
    noted_pairs_written {m} (pair k v qs) (written_pair a b more) =
        written_pair (subst (λ z. WrittenNode t (setting s cs) z k) (same_key_margins s m (turned (noted k))) (noted_written k a))
        (subst (λ z. WrittenNode t (setting s cs) z v) (same_value_margins s m (turned (noted k)) (turned (noted v)) (other_comments k v)) (noted_written v b)) (noted_pairs_written qs more)

  pub renoted_written : {margins : Margins} {y : Node} (z : Node) → unnoted y ≡ unnoted z → WrittenNode t (setting s cs) margins y → WrittenNode t (setting s cs) margins z
  renoted_written {margins} z e a = noted_written z (subst (λ w. WrittenNode t (setting s cs) margins w) e (bare_written a))
