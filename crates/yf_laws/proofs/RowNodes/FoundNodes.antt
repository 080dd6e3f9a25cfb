-- A node that is found on laid-out rows: it differs from the node that was laid out only in offsets, and its parts are
-- on those rows.
use Rattle.std.proofs.Common.{◌≡◌, ◌≢◌, ℕ, ◌+◌, ◌<◌, ◌≤◌, Bool, true, false, List, [], ◌∷◌, ◌++◌, length, map, Option, Some, None, refl, sym, ap, ◌∙◌, subst, arith, append_assoc, append-nil}
use Rattle.std.specs.Prelude.{is_some}
use Rattle.yf_lines.specs.LineText.{IsLineText}
use Rattle.yf_lines.specs.Rest.{Rest}
use Rattle.yf_comments.specs.Comment.{CommentValue}
use Rattle.yf_props.specs.Props.{PropsValue, no_props}
use Rattle.yf_events.specs.Alike.{Alike, AlikeItems, alike_nothing, alike_item, AlikePairs, alike_no_pairs, alike_pair}
use Rattle.yf_events.specs.declared.event.Entry.{Entry}
use Rattle.yf_events.specs.declared.event.ScalarStyle.{ScalarStyle}
use Rattle.yf_events.specs.declared.event.ScalarStyle.TheVariants.{Plain, Single, Double, Literal, Folded}
use Rattle.yf_events.specs.declared.event.Span.{Span}
use Rattle.yf_events.specs.Tree.{NodeOffsets, Node, scalar, alias, sequence, mapping, Items, no_items, item, Pairs, no_pairs, pair, flat, flat_items, flat_pairs, leaves, items_in, entry_start, starts_of_entry, standing, spans_of_leaf, is_block_collection}
use Rattle.yf_grammar.specs.Productions.Meaning.{Meaning, ◌⊕◌, meaning_after, noting, plain_event, empty_node, first_entering, entering}
use Rattle.yf_grammar.specs.Productions.TreesOfMeaning.{Anywhere, MeansTrees}
use Rattle.yf_grammar.proofs.NodesInText.MeantLemmas.{entered, entered_alike, entered_events}
use Rattle.yf_events.proofs.TreeLemmas.{node_unique}
use Rattle.yf_grammar.proofs.NodesInText.NodePlaces.{NodeIsAt, is_at_nowhere, scalar_is_at, alias_is_at, sequence_is_at, mapping_is_at}
use Rattle.yf_grammar.proofs.NodesInText.PlacedNodes.{entered_standing}
use Rattle.yf_forms.specs.declared.style.Style.{Style}
use Rattle.yf_laws.specs.Layouts.ReadableTrees.{is_block_style, is_inline}
use Rattle.yf_laws.specs.Layouts.WrittenQuotes.{QuotesWritten}
use Rattle.yf_forms.specs.NormalForms.Normal.{LayoutSetting, Margins, entry_or, inner_margins, is_implicit, key_comment, key_margins, value_of_implicit}
use Rattle.yf_forms.specs.Nodes.OneLine.{written, props_text}
use Rattle.yf_print.specs.Layouts.Rows.{begins_below, colon_offset}
use Rattle.yf_forms.specs.Nodes.Lines.{is_empty_text}
use Rattle.yf_laws.proofs.SecondRun.AlikeLemmas.{same_below, same_implicit}
use Rattle.yf_laws.proofs.Columns.FlowHeads.{Bracketed, bracketed_entered, is_bracketed, is_bracketed_entered}
use Rattle.yf_laws.proofs.Columns.LinePlaces.{OnLine}
use Rattle.yf_laws.proofs.RowNodes.PlacedRows.{Inside, PlacedRow}
use Rattle.yf_laws.proofs.Writable.WrittenQuotes.{first_quotes}

-- the first of some items begins at q
abbrev pub IsHead : List ℕ → ℕ → Type 0
IsHead [] q = ⊥
IsHead (i ∷ is) q = i ≡ q

-- a row that begins with a sign, with these items, and the rows of what follows it
pub data SignRows (t : List ℕ) (items : List ℕ) : List PlacedRow → List PlacedRow → Type 0 where
  sign_alone : {h : PlacedRow} → h.items ≡ items → h.leaves ≡ [] → h.commented ≡ false → IsHead items h.from → SignRows t items [] (h ∷ [])
  sign_joined : {h p : PlacedRow} {ps : List PlacedRow} → h.items ≡ items ++ p.items → h.leaves ≡ p.leaves → h.commented ≡ p.commented → h.from ≤ p.from → p.upto ≡ h.upto
      → (OnLine t h.column h.from → OnLine t p.column p.from) → IsHead items h.from → SignRows t items (p ∷ ps) (h ∷ ps)

-- a row that begins with an implicit key, with these items and leaves, and whether a comment trails it; and the rows of
-- its value, which begins on a line of its own or not
pub data KeyRows (t : List ℕ) (items : List ℕ) (leaves : List Span) : Bool → Bool → List PlacedRow → List PlacedRow → Type 0 where
  key_commented : {below : Bool} {h : PlacedRow} {ps : List PlacedRow} → h.items ≡ items → h.leaves ≡ leaves → h.commented ≡ true → KeyRows t items leaves true below ps (h ∷ ps)
  key_above : {h : PlacedRow} {ps : List PlacedRow} → h.items ≡ items → h.leaves ≡ leaves → h.commented ≡ false → KeyRows t items leaves false true ps (h ∷ ps)
  key_alone : {h : PlacedRow} → h.items ≡ items → h.leaves ≡ leaves → h.commented ≡ false → KeyRows t items leaves false false [] (h ∷ [])
  key_joined : {h p : PlacedRow} {ps : List PlacedRow} → h.items ≡ items ++ p.items → h.leaves ≡ leaves ++ p.leaves → h.commented ≡ p.commented → h.from ≤ p.from
      → p.upto ≡ h.upto → (OnLine t h.column h.from → OnLine t p.column p.from) → KeyRows t items leaves false false (p ∷ ps) (h ∷ ps)

-- the first of these rows is at the column m and begins at q, and its last item has begun before e
pub data HeadAt (m q e : ℕ) : List PlacedRow → Type 0 where
  head_at : {h : PlacedRow} {hs : List PlacedRow} → h.column ≡ m → h.from ≡ q → e ≤ h.upto → HeadAt m q e (h ∷ hs)

-- a node on one line is as it is written from i on; a flow collection has this span, and each quoted scalar is as it is
-- written
pub record NodeText (house : Style) (t : List ℕ) (i : ℕ) (y : Node) : Type 0 where
  pub line : IsLineText (written house y)
  pub follows : List ℕ
  pub there : Rest t i (written house y ++ follows)
  pub flow : is_bracketed y ≡ true → Bracketed t i (i + length (written house y)) y
  pub quoted : QuotesWritten house t (flat y)

-- the key is on the first of these rows, which is at the column m
pub data KeyOn (house : Style) (t : List ℕ) (m : ℕ) (k : Node) : List PlacedRow → Type 0 where
  key_on : {a b : ℕ} {h : PlacedRow} {hs : List PlacedRow} → NodeIsAt t a b k → h.from ≤ a → b < h.upto → entry_or 0 (standing k).entry ≡ h.from → h.column ≡ m → NodeText house t h.from k
      → is_some (standing k).entry ≡ true → KeyOn house t m k (h ∷ hs)

pub key_at : (house : Style) {t : List ℕ} {m : ℕ} {k : Node} {q e : ℕ} {hs : List PlacedRow} → NodeIsAt t q e k → entry_or 0 (standing k).entry ≡ q → NodeText house t q k → is_some (standing k).entry ≡ true → HeadAt m q (e + 1) hs → KeyOn house t m k hs
key_at house {t} {k = k} n g w some (head_at c f l) = key_on n (omega (arith, f)) (omega (arith, l)) (g ∙ sym f) c (subst (λ i. NodeText house t i k) (sym f) w) some

-- The rows of a node that was laid out with these margins.
mutual
  pub data NodeRows (t : List ℕ) (s : LayoutSetting) : Margins → Node → Node → List PlacedRow → Type 0 where
    no_rows : {margins : Margins} {x : Node} {at : NodeOffsets} {lines : List (List ℕ)} → at.span ≡ None → NodeRows t s margins x (scalar at no_props Plain [] lines) []
    line_rows : {margins : Margins} {a b : ℕ} {x y : Node} {p : PlacedRow} → is_inline y ≡ true → written s.style y ≢ [] → p.items ≡ items_in y → p.leaves ≡ leaves y → p.commented ≡ false
        → NodeIsAt t a b y → p.from ≤ a → b ≤ p.upto → p.column ≡ margins.column → NodeText s.style t p.from y → NodeRows t s margins x y (p ∷ [])
    scalar_rows : {margins : Margins} {x : Node} {at : NodeOffsets} {props : PropsValue} {style : ScalarStyle} {text : List ℕ} {lines : List (List ℕ)} {p : PlacedRow} → is_block_style style ≡ true
        → Inside p.from p.upto (map (λ s. s.start) (spans_of_leaf at.span)) → p.items ≡ map (λ s. s.start) (spans_of_leaf at.span) → p.leaves ≡ spans_of_leaf at.span → p.commented ≡ false → NodeRows t s margins x (scalar at props style text lines) (p ∷ [])
    sequence_rows : {margins : Margins} {at bt : NodeOffsets} {props : PropsValue} {xs ys : Items} {ps : List PlacedRow} → is_block_collection (sequence bt false props ys) ≡ true → is_empty_text (props_text props) ≡ true → ItemsRows t s margins.entries xs ys ps
        → NodeRows t s margins (sequence at false props xs) (sequence bt false props ys) ps
    sequence_after : {margins : Margins} {at bt : NodeOffsets} {props : PropsValue} {xs ys : Items} {p : PlacedRow} {ps : List PlacedRow} → is_block_collection (sequence bt false props ys) ≡ true
        → is_empty_text (props_text props) ≡ false → p.items ≡ [] → p.leaves ≡ []
        → p.commented ≡ false → ItemsRows t s margins.entries xs ys ps → NodeRows t s margins (sequence at false props xs) (sequence bt false props ys) (p ∷ ps)
    mapping_rows : {margins : Margins} {at bt : NodeOffsets} {props : PropsValue} {xs ys : Pairs} {ps : List PlacedRow} → is_block_collection (mapping bt false props ys) ≡ true → is_empty_text (props_text props) ≡ true → PairsRows t s margins.entries xs ys ps
        → NodeRows t s margins (mapping at false props xs) (mapping bt false props ys) ps
    mapping_after : {margins : Margins} {at bt : NodeOffsets} {props : PropsValue} {xs ys : Pairs} {p : PlacedRow} {ps : List PlacedRow} → is_block_collection (mapping bt false props ys) ≡ true
        → is_empty_text (props_text props) ≡ false → p.items ≡ [] → p.leaves ≡ []
        → p.commented ≡ false → PairsRows t s margins.entries xs ys ps → NodeRows t s margins (mapping at false props xs) (mapping bt false props ys) (p ∷ ps)

  pub data ItemsRows (t : List ℕ) (s : LayoutSetting) : ℕ → Items → Items → List PlacedRow → Type 0 where
    no_item_rows : {m : ℕ} → ItemsRows t s m no_items no_items []
    item_rows : {m : ℕ} {x y : Node} {xs ys : Items} {ps hs qs : List PlacedRow} → NodeRows t s (inner_margins s.style m) x y ps → SignRows t (entry_start y) ps hs → ItemsRows t s m xs ys qs
        → ItemsRows t s m (item x xs) (item y ys) (hs ++ qs)

  -- a key k and its value v, found as l and w
  pub data PairRows (t : List ℕ) (s : LayoutSetting) : ℕ → Node → Node → Node → Node → List PlacedRow → Type 0 where
    explicit_rows : {m : ℕ} {k v l w : Node} {ps hs qs gs : List PlacedRow} → is_implicit s.style m l ≡ false → NodeRows t s (key_margins s.style m k) k l ps → SignRows t (entry_start l) ps hs
        → NodeRows t s (inner_margins s.style m) v w qs → SignRows t (colon_offset (standing l).entry) qs gs → PairRows t s m k v l w (hs ++ gs)
    implicit_rows : {m : ℕ} {k v l w : Node} {ps hs : List PlacedRow} (b : Bool) → b ≡ is_some (key_comment s.comments k v) → is_implicit s.style m l ≡ true → KeyOn s.style t m l hs
        → NodeRows t s (value_of_implicit s m k v) v w ps → KeyRows t (entry_start l ++ items_in l) (leaves l) b (begins_below w) ps hs → PairRows t s m k v l w hs

  pub data PairsRows (t : List ℕ) (s : LayoutSetting) : ℕ → Pairs → Pairs → List PlacedRow → Type 0 where
    no_pair_rows : {m : ℕ} → PairsRows t s m no_pairs no_pairs []
    pair_rows : {m : ℕ} {k v l w : Node} {xs ys : Pairs} {hs rs : List PlacedRow} → PairRows t s m k v l w hs → PairsRows t s m xs ys rs → PairsRows t s m (pair k v xs) (pair l w ys) (hs ++ rs)

-- The meaning of a production: the node that is found, on these rows.

pub record FoundNode (t : List ℕ) (s : LayoutSetting) (margins : Margins) (x : Node) (meaning : Meaning) (ps : List PlacedRow) : Type 0 where
  pub node : Node
  pub alike : Alike Anywhere x node
  pub events : meaning.events ≡ flat node
  pub escapes : meaning.escapes ≡ []
  pub rows : NodeRows t s margins x node ps

pub record FoundItem (t : List ℕ) (s : LayoutSetting) (m : ℕ) (x : Node) (meaning : Meaning) (hs : List PlacedRow) : Type 0 where
  pub inner : List PlacedRow
  pub found : FoundNode t s (inner_margins s.style m) x meaning inner
  pub sign : SignRows t (entry_start found.node) inner hs

pub record FoundItems (t : List ℕ) (s : LayoutSetting) (m : ℕ) (xs : Items) (meaning : Meaning) (ps : List PlacedRow) : Type 0 where
  pub items : Items
  pub alike : AlikeItems Anywhere xs items
  pub events : meaning.events ≡ flat_items items
  pub escapes : meaning.escapes ≡ []
  pub rows : ItemsRows t s m xs items ps

pub record FoundPair (t : List ℕ) (s : LayoutSetting) (m : ℕ) (k v : Node) (meaning : Meaning) (ps : List PlacedRow) : Type 0 where
  pub key : Node
  pub value : Node
  pub alike_key : Alike Anywhere k key
  pub alike_value : Alike Anywhere v value
  pub events : meaning.events ≡ flat key ++ flat value
  pub escapes : meaning.escapes ≡ []
  pub rows : PairRows t s m k v key value ps

pub record FoundPairs (t : List ℕ) (s : LayoutSetting) (m : ℕ) (xs : Pairs) (meaning : Meaning) (ps : List PlacedRow) : Type 0 where
  pub pairs : Pairs
  pub alike : AlikePairs Anywhere xs pairs
  pub events : meaning.events ≡ flat_pairs pairs
  pub escapes : meaning.escapes ≡ []
  pub rows : PairsRows t s m xs pairs ps

pub meant_of : {t : List ℕ} {s : LayoutSetting} {margins : Margins} {x : Node} {meaning : Meaning} {ps : List PlacedRow} → FoundNode t s margins x meaning ps → MeansTrees x meaning
meant_of a = record { node = a.node; alike = a.alike; events = a.events; escapes = a.escapes }

-- Entries.

inline_entered : (e : Entry) (y : Node) → is_inline y ≡ true → is_inline (entered e y) ≡ true
inline_entered e (scalar at props Plain text lines) f = f
inline_entered e (scalar at props Single text lines) f = f
inline_entered e (scalar at props Double text lines) f = f
inline_entered e (scalar at props Literal text lines) f = f
inline_entered e (scalar at props Folded text lines) f = f
inline_entered e (alias at name) f = f
inline_entered e (sequence at flow props xs) f = f
inline_entered e (mapping at flow props ps) f = f

written_entered : (house : Style) (e : Entry) (y : Node) → written house (entered e y) ≡ written house y
written_entered house e (scalar at props style text lines) = refl
written_entered house e (alias at name) = refl
written_entered house e (sequence at flow props no_items) = refl
written_entered house e (sequence at flow props (item x xs)) = refl
written_entered house e (mapping at flow props no_pairs) = refl
written_entered house e (mapping at flow props (pair k v ps)) = refl

items_entered : (e : Entry) (y : Node) → items_in (entered e y) ≡ items_in y
items_entered e (scalar at props style text lines) = refl
items_entered e (alias at name) = refl
items_entered e (sequence at flow props no_items) = refl
items_entered e (sequence at flow props (item x xs)) = refl
items_entered e (mapping at flow props no_pairs) = refl
items_entered e (mapping at flow props (pair k v ps)) = refl

leaves_entered : (e : Entry) (y : Node) → leaves (entered e y) ≡ leaves y
leaves_entered e (scalar at props style text lines) = refl
leaves_entered e (alias at name) = refl
leaves_entered e (sequence at flow props no_items) = refl
leaves_entered e (sequence at flow props (item x xs)) = refl
leaves_entered e (mapping at flow props no_pairs) = refl
leaves_entered e (mapping at flow props (pair k v ps)) = refl

pub is_at_entered : {t : List ℕ} {i j : ℕ} {x : Node} (e : Entry) → NodeIsAt t i j x → NodeIsAt t i j (entered e x)
is_at_entered e (is_at_nowhere m q) = is_at_nowhere m q
is_at_entered e (scalar_is_at q b m n w s) = scalar_is_at q b m n w s
is_at_entered e (alias_is_at q b m n s) = alias_is_at q b m n s
is_at_entered e (sequence_is_at q b m n s) = sequence_is_at q b m n s
is_at_entered e (mapping_is_at q b m n s) = mapping_is_at q b m n s

block_entered : (e : Entry) (y : Node) → is_block_collection y ≡ true → is_block_collection (entered e y) ≡ true
block_entered e (scalar at props style text lines) f = f
block_entered e (alias at name) f = f
block_entered e (sequence at flow props no_items) f = f
block_entered e (sequence at flow props (item x xs)) f = f
block_entered e (mapping at flow props no_pairs) f = f
block_entered e (mapping at flow props (pair k v ps)) f = f

text_entered : (house : Style) {t : List ℕ} {i : ℕ} (e : Entry) (y : Node) → NodeText house t i y → NodeText house t i (entered e y)
text_entered house {t} {i} e y a =
    let same : written house y ≡ written house (entered e y) = sym (written_entered house e y) in
    record {
      line = subst (λ w. IsLineText w) same a.line;
      follows = a.follows;
      there = subst (λ w. Rest t i (w ++ a.follows)) same a.there;
      flow = λ f. subst (λ w. Bracketed t i (i + length w) (entered e y)) same (bracketed_entered e y (a.flow (sym (is_bracketed_entered e y) ∙ f)));
      quoted = subst (λ es. QuotesWritten house t es) (entered_events e y) (first_quotes e a.quoted);
    }

pub rows_entered : {t : List ℕ} {s : LayoutSetting} {margins : Margins} {x y : Node} {ps : List PlacedRow} (e : Entry) → NodeRows t s margins x y ps → NodeRows t s margins x (entered e y) ps
rows_entered e (no_rows q) = no_rows q
rows_entered {s = s} e (line_rows {y = y} f n g h i st j k c w) =
    line_rows (inline_entered e y f) (λ z. n (sym (written_entered s.style e y) ∙ z)) (g ∙ sym (items_entered e y)) (h ∙ sym (leaves_entered e y)) i (is_at_entered e st) j k c (text_entered s.style e y w)
rows_entered e (scalar_rows f n g h i) = scalar_rows f n g h i
rows_entered e (sequence_rows {bt = bt} {props = props} {ys = ys} b f a) = sequence_rows (block_entered e (sequence bt false props ys) b) f a
rows_entered e (sequence_after {bt = bt} {props = props} {ys = ys} b f g h i a) = sequence_after (block_entered e (sequence bt false props ys) b) f g h i a
rows_entered e (mapping_rows {bt = bt} {props = props} {ys = ys} b f a) = mapping_rows (block_entered e (mapping bt false props ys) b) f a
rows_entered e (mapping_after {bt = bt} {props = props} {ys = ys} b f g h i a) = mapping_after (block_entered e (mapping bt false props ys) b) f g h i a

-- an empty node

abbrev pub bare_node : Node
bare_node = scalar (record { span = None; tag_offset = None; entry = None }) no_props Plain [] []

pub bare_events : (i : ℕ) → (empty_node i).events ≡ flat bare_node
unfolding empty_node plain_event
bare_events i = refl

pub bare_escapes : (i : ℕ) → (empty_node i).escapes ≡ []
unfolding empty_node
bare_escapes i = refl

pub bare_alike : {x : Node} (i : ℕ) → MeansTrees x (empty_node i) → Alike Anywhere x bare_node
bare_alike {x} i a =
    let same : a.node ≡ bare_node = (node_unique a.node bare_node [] [] (append-nil (flat a.node) ∙ (sym a.events ∙ bare_events i))).0 in
    subst (λ z. Alike Anywhere x z) same a.alike

abbrev pub entry_at : ℕ → Option ℕ → Entry
entry_at q colon = record { start = q; colon = colon; blank_before = false }

module _ {t : List ℕ} {s : LayoutSetting} {margins : Margins} where
  pub found_after : {x : Node} {meaning : Meaning} {ps : List PlacedRow} (cs : List CommentValue) → FoundNode t s margins x meaning ps → FoundNode t s margins x (meaning_after cs meaning) ps
  unfolding meaning_after
  found_after cs a = record { node = a.node; alike = a.alike; events = a.events; escapes = a.escapes; rows = a.rows }

  pub found_noting : {x : Node} {meaning : Meaning} {ps : List PlacedRow} (cs : List CommentValue) → FoundNode t s margins x meaning ps → FoundNode t s margins x (noting meaning cs) ps
  unfolding noting
  found_noting cs a = record { node = a.node; alike = a.alike; events = a.events; escapes = a.escapes; rows = a.rows }

  pub found_nothing : {x : Node} (i : ℕ) → MeansTrees x (empty_node i) → FoundNode t s margins x (empty_node i) []
  found_nothing i a = record { node = bare_node; alike = bare_alike i a; events = bare_events i; escapes = bare_escapes i; rows = no_rows refl }

  pub found_entering : {x : Node} {meaning : Meaning} {ps : List PlacedRow} (q : ℕ) (colon : Option ℕ) → FoundNode t s margins x meaning ps → FoundNode t s margins x (entering q colon meaning) ps
  unfolding entering
  found_entering q colon a = record {
    node = entered (entry_at q colon) a.node;
    alike = entered_alike (entry_at q colon) a.alike;
    events = ap (first_entering (entry_at q colon)) a.events ∙ entered_events (entry_at q colon) a.node;
    escapes = a.escapes;
    rows = rows_entered (entry_at q colon) a.rows;
  }

module _ {t : List ℕ} {s : LayoutSetting} {m : ℕ} where
  -- an item after its sign, which is at q
  pub found_item : {x : Node} {meaning : Meaning} {ps hs : List PlacedRow} (q : ℕ) → FoundNode t s (inner_margins s.style m) x meaning ps → SignRows t (q ∷ []) ps hs → FoundItem t s m x (entering q None meaning) hs
  unfolding entering
  found_item {ps = ps} {hs = hs} q a b = record {
    inner = ps;
    found = record {
      node = entered (entry_at q None) a.node;
      alike = entered_alike (entry_at q None) a.alike;
      events = ap (first_entering (entry_at q None)) a.events ∙ entered_events (entry_at q None) a.node;
      escapes = a.escapes;
      rows = rows_entered (entry_at q None) a.rows;
    };
    sign = subst (λ o. SignRows t (starts_of_entry o) ps hs) (sym (entered_standing (entry_at q None) a.node)) b;
  }

  pub found_last_item : {x : Node} {meaning : Meaning} {hs : List PlacedRow} → FoundItem t s m x meaning hs → FoundItems t s m (item x no_items) meaning (hs ++ [])
  found_last_item a = record {
    items = item a.found.node no_items;
    alike = alike_item a.found.alike alike_nothing;
    events = a.found.events ∙ sym (append-nil (flat a.found.node));
    escapes = a.found.escapes;
    rows = item_rows a.found.rows a.sign no_item_rows;
  }

  pub found_more_items : {x : Node} {xs : Items} {one more : Meaning} {hs qs : List PlacedRow} → FoundItem t s m x one hs → FoundItems t s m xs more qs
      → FoundItems t s m (item x xs) (one ⊕ more) (hs ++ qs)
  unfolding ◌⊕◌
  found_more_items {more = n} a b = record {
    items = item a.found.node b.items;
    alike = alike_item a.found.alike b.alike;
    events = ap (λ z. z ++ n.events) a.found.events ∙ ap (λ z. flat a.found.node ++ z) b.events;
    escapes = ap (λ z. z ++ n.escapes) a.found.escapes ∙ b.escapes;
    rows = item_rows a.found.rows a.sign b.rows;
  }

  pub found_last_pair : {k v : Node} {meaning : Meaning} {hs : List PlacedRow} → FoundPair t s m k v meaning hs → FoundPairs t s m (pair k v no_pairs) meaning (hs ++ [])
  found_last_pair a = record {
    pairs = pair a.key a.value no_pairs;
    alike = alike_pair a.alike_key a.alike_value tt alike_no_pairs;
    events = a.events ∙ ap (λ z. flat a.key ++ z) (sym (append-nil (flat a.value)));
    escapes = a.escapes;
    rows = pair_rows a.rows no_pair_rows;
  }

  pub found_more_pairs : {k v : Node} {xs : Pairs} {one more : Meaning} {hs qs : List PlacedRow} → FoundPair t s m k v one hs → FoundPairs t s m xs more qs
      → FoundPairs t s m (pair k v xs) (one ⊕ more) (hs ++ qs)
  unfolding ◌⊕◌
  found_more_pairs {one = o} {more = n} a b = record {
    pairs = pair a.key a.value b.pairs;
    alike = alike_pair a.alike_key a.alike_value tt b.alike;
    events = ap (λ z. z ++ n.events) a.events ∙ (append_assoc (flat a.key) (flat a.value) n.events ∙ ap (λ z. flat a.key ++ (flat a.value ++ z)) b.events);
    escapes = ap (λ z. z ++ n.escapes) a.escapes ∙ b.escapes;
    rows = pair_rows a.rows b.rows;
  }

  -- a pair with its key after a `?` at q and its value after a `:` at colon
  pub found_explicit : {k v : Node} {one two : Meaning} {ps hs qs gs : List PlacedRow} (q colon : ℕ) → is_implicit s.style m k ≡ false → FoundNode t s (key_margins s.style m k) k one ps → SignRows t (q ∷ []) ps hs
      → FoundNode t s (inner_margins s.style m) v two qs → SignRows t (colon ∷ []) qs gs → FoundPair t s m k v (entering q (Some colon) one ⊕ two) (hs ++ gs)
  unfolding entering ◌⊕◌
  found_explicit {k} {v} {one} {two} {ps} {hs} {qs} {gs} q colon e a f b g =
      let entry : Entry = entry_at q (Some colon) in
      let alike : Alike Anywhere k (entered entry a.node) = entered_alike entry a.alike in
      record {
        key = entered entry a.node;
        value = b.node;
        alike_key = alike;
        alike_value = b.alike;
        events = ap (λ z. z ++ two.events) (ap (first_entering entry) a.events ∙ entered_events entry a.node) ∙ ap (λ z. flat (entered entry a.node) ++ z) b.events;
        escapes = ap (λ z. z ++ two.escapes) a.escapes ∙ b.escapes;
        rows = explicit_rows (sym (same_implicit s.style m alike) ∙ e) (rows_entered entry a.rows) (subst (λ o. SignRows t (starts_of_entry o) ps hs) (sym (entered_standing entry a.node)) f)
            b.rows (subst (λ o. SignRows t (colon_offset o) qs gs) (sym (entered_standing entry a.node)) g);
      }

  -- an implicit key that begins at q and has its `:` at colon, and its value
  pub found_implicit : {k v : Node} {two : Meaning} {ps hs : List PlacedRow} (one : Meaning) (q colon : ℕ) (key : Node) (b : Bool) → b ≡ is_some (key_comment s.comments k v) → is_implicit s.style m k ≡ true → Alike Anywhere k key → one.events ≡ flat key → one.escapes ≡ []
      → NodeIsAt t q colon key → NodeText s.style t q key → HeadAt m q (colon + 1) hs → FoundNode t s (value_of_implicit s m k v) v two ps → KeyRows t (q ∷ items_in key) (leaves key) b (begins_below v) ps hs
      → FoundPair t s m k v (entering q (Some colon) one ⊕ two) hs
  unfolding entering ◌⊕◌
  found_implicit {k} {v} {two} {ps} {hs} one q colon key b flag e a events escapes st text head value rows =
      let entry : Entry = entry_at q (Some colon) in
      let alike : Alike Anywhere k (entered entry key) = entered_alike entry a in
      let items : q ∷ items_in key ≡ entry_start (entered entry key) ++ items_in (entered entry key) =
      ap (λ z. q ∷ z) (sym (items_entered entry key)) ∙ ap (λ o. starts_of_entry o ++ items_in (entered entry key)) (sym (entered_standing entry key)) in
      let moved : KeyRows t (entry_start (entered entry key) ++ items_in (entered entry key)) (leaves (entered entry key)) b (begins_below value.node) ps hs =
      subst (λ z. KeyRows t z (leaves (entered entry key)) b (begins_below value.node) ps hs) items
      (subst (λ z. KeyRows t (q ∷ items_in key) z b (begins_below value.node) ps hs) (sym (leaves_entered entry key))
      (subst (λ z. KeyRows t (q ∷ items_in key) (leaves key) b z ps hs) (same_below value.alike) rows)) in
      record {
        key = entered entry key;
        value = value.node;
        alike_key = alike;
        alike_value = value.alike;
        events = ap (λ z. z ++ two.events) (ap (first_entering entry) events ∙ entered_events entry key) ∙ ap (λ z. flat (entered entry key) ++ z) value.events;
        escapes = ap (λ z. z ++ two.escapes) escapes ∙ value.escapes;
        rows = implicit_rows b flag (sym (same_implicit s.style m alike) ∙ e)
            (key_at s.style (is_at_entered entry st) (ap (λ o. entry_or 0 o) (entered_standing entry key)) (text_entered s.style entry key text) (ap (λ o. is_some o) (entered_standing entry key)) head) value.rows moved;
      }
