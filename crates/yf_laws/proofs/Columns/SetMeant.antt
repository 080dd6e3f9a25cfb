-- The meaning of laid-out rows is a set node, with its entries and the content of its block scalars at their columns.
use Rattle.std.proofs.Common.{zero-add, ◌≡◌, ℕ, ◌+◌, ◌-◌, ◌<◌, ◌≤◌, ⊎_elim, Bool, true, false, true≢false, not, List, [], ◌∷◌, ◌++◌, Option, Some, None, refl, sym, ap, ◌∙◌, subst, arith, append_assoc, append-nil}
use Rattle.std.specs.Prelude.{◌&&◌, if◌then◌else◌}
use Rattle.std.proofs.lemmas.Bool.{cases_lt}
use Rattle.yf_chars.specs.Class.{is_white_or_end}
use Rattle.yf_chars.specs.Text.{code}
use Rattle.yf_lines.specs.Basic.{LineStart, Spaces}
use Rattle.yf_comments.specs.Comment.{CommentValue}
use Rattle.yf_props.specs.Props.{PropsValue, no_props}
use Rattle.yf_events.specs.Alike.{Alike, alike_scalars}
use Rattle.yf_events.specs.Event.{EventValue, EventInText, scalar_node, sequence_starts, sequence_ends, mapping_starts, mapping_ends}
use Rattle.yf_events.specs.declared.event.Entry.{Entry}
use Rattle.yf_events.specs.declared.event.ScalarStyle.{ScalarStyle}
use Rattle.yf_events.specs.declared.event.ScalarStyle.TheVariants.{Plain}
use Rattle.yf_events.specs.declared.event.Span.{Span}
use Rattle.yf_events.specs.Tree.{NodeOffsets, Node, scalar, alias, sequence, mapping, Items, no_items, item, Pairs, no_pairs, pair, flat, flat_items, flat_pairs, is_sequence, placed, unplaced}
use Rattle.yf_events.proofs.TreeLemmas.{node_unique}
use Rattle.yf_grammar.specs.Productions.Meaning.{Meaning, ◌⊕◌, meaning_after, noting, plain_event, from_to, empty_node, collection, with_props, first_entering, entering}
use Rattle.yf_grammar.specs.Productions.TreesOfMeaning.{Anywhere, MeansTrees}
use Rattle.yf_grammar.proofs.NodesInText.MeantLemmas.{entered, entered_alike, entered_events}
use Rattle.yf_grammar.proofs.NodesInText.PlacedNodes.{entered_standing}
use Rattle.yf_laws.specs.Layouts.Decorated.{body_then}
use Rattle.yf_laws.specs.Layouts.ReadableTrees.{is_block_style}
use Rattle.yf_forms.specs.declared.style.Style.{Style}
use Rattle.yf_forms.specs.NormalForms.Normal.{is_implicit, value_entries}
use Rattle.yf_laws.proofs.SecondRun.AlikeLemmas.{same_implicit, same_sequence}
use Rattle.yf_laws.proofs.Columns.FlowEvents.{AllFlow, MeansFlow, blockless}
use Rattle.yf_laws.proofs.OutputLines.HeldLemmas.{Holds, here, there, ScalarAt, ScalarHeld}
use Rattle.yf_laws.proofs.Columns.SetNodes.{Blockless, ColumnAt, entries_after, EntryOn, Questioned, SetFirst, set_first, SetFirstPair, set_first_pair, SetItems, no_set_items, set_item, SetNode, set_line, set_scalar, set_sequence, set_mapping, SetPairs, no_set_pairs, set_pair, Unquestioned}
use Rattle.yf_laws.proofs.Columns.SourceColumns.{column_line, column_one, column_spaces, sign_breaks, signs_low, space_signs}
use Rattle.yf_print.specs.Layouts.SourceColumns.{is_white_or_sign}
use Rattle.std.specs.Str.{IsUtf8}

-- the lines of a block scalar are at a column
pub data BlockAt (t : List ℕ) (l : ℕ) : Node → Type 0 where
  block_at : {at : NodeOffsets} {props : PropsValue} {style : ScalarStyle} {text : List ℕ} {lines : List (List ℕ)} (body : List (List ℕ)) (z : List ℕ) → 0 < l
      → ScalarAt t (scalar_node props style text) at.span l body (body_then body z) → BlockAt t l (scalar at props style text lines)

abbrev pub SetAt : List ℕ → Style → ℕ → ℕ → Node → Type 0
SetAt t s m l x = SetNode t s (BlockAt t) m l x

-- Columns.

pub column_start : {t : List ℕ} {p m : ℕ} → IsUtf8 t → LineStart t p → Spaces t p m → ColumnAt t m (p + m)
column_start {t} {p} {m} u a s = record {
  line = p;
  start = a;
  is = refl;
  least = λ k l. let e : code t (p + k) ≡ 32 = s.each k l in omega (arith, e);
  most = λ k l. let e : code t (p + k) ≡ 32 = s.each k l in omega (arith, e);
  source = column_spaces is_white_or_sign space_signs s (column_line u is_white_or_sign signs_low a) ∙ ap Some (zero-add m);
}

-- after a sign and spaces
pub column_more : {t : List ℕ} {m q : ℕ} (sign n : ℕ) → ColumnAt t m q → code t q ≡ sign → 32 ≤ sign → sign < 127 → is_white_or_sign sign ≡ true → Spaces t (q + 1) n → ColumnAt t (m + 1 + n) (q + 1 + n)
column_more {t} {m} {q} sign n a e low high class s = record {
  line = a.line;
  start = a.start;
  is = let f : q ≡ a.line + m = a.is in omega (arith, f);
  least = λ k l. (all k l).0;
  most = λ k l. (all k l).1;
  source = column_spaces is_white_or_sign space_signs s (column_one t q is_white_or_sign e (sign_breaks sign low) class a.source);
} where
  all : (k : ℕ) → k < m + 1 + n → (32 ≤ code t (a.line + k)) × (code t (a.line + k) < 127)
  all k l =
      ⊎_elim (λ (b : k < m). (a.least k b, a.most k b))
      (λ (b : m ≤ k). ⊎_elim (λ (c : m < k). further c) (λ (c : k ≤ m). here_at c b) (cases_lt m k))
      (cases_lt k m) where
        here_at : k ≤ m → m ≤ k → (32 ≤ code t (a.line + k)) × (code t (a.line + k) < 127)
        here_at c b =
            let f : q ≡ a.line + m = a.is in
            let g : q ≡ a.line + k = omega (arith, f, c, b) in
            let h : code t (a.line + k) ≡ sign = ap (code t) (sym g) ∙ e in
            (omega (arith, h, low), omega (arith, h, high))

        further : m < k → (32 ≤ code t (a.line + k)) × (code t (a.line + k) < 127)
        further c =
            let f : q ≡ a.line + m = a.is in
            let g : q + 1 + (k - (m + 1)) ≡ a.line + k = omega (arith, f, c) in
            let h : code t (a.line + k) ≡ 32 = ap (code t) (sym g) ∙ s.each (k - (m + 1)) (omega (arith, l, c)) in
            (omega (arith, h), omega (arith, h))

-- Entries.

blockless_entered : (e : Entry) (x : Node) → Blockless x → Blockless (entered e x)
blockless_entered e (scalar at props style text lines) b = b
blockless_entered e (alias at name) b = b
blockless_entered e (sequence at flow props xs) b = b
blockless_entered e (mapping at flow props ps) b = b

set_entered : {t : List ℕ} {s : Style} {m l : ℕ} {x : Node} (e : Entry) → SetAt t s m l x → SetAt t s m l (entered e x)
set_entered e (set_line {x = x} b) = set_line (blockless_entered e x b)
set_entered e (set_scalar f (block_at body z n a)) = set_scalar f (block_at body z n a)
set_entered e (set_sequence o a) = set_sequence o a
set_entered e (set_mapping o a) = set_mapping o a

-- Meanings.

-- a node with its entries at m and its lines at l; if it begins with an entry, that entry is at q
pub record SetMeant (t : List ℕ) (s : Style) (m l : ℕ) (below : Bool) (q : ℕ) (x : Meaning) : Type 0 where
  pub node : Node
  pub events : x.events ≡ flat node
  pub set : (below ≡ true → ColumnAt t m q) → SetAt t s m l node

-- the node of events, at any offset
pub record SetDone (t : List ℕ) (s : Style) (m l : ℕ) (es : List EventInText) : Type 0 where
  pub node : Node
  pub events : es ≡ flat node
  pub set : SetAt t s m l node

-- the node after a sign at q
pub record SetSigned (t : List ℕ) (s : Style) (m q : ℕ) (x : Meaning) : Type 0 where
  pub node : Node
  pub events : x.events ≡ flat node
  pub set : ColumnAt t m q → SetAt t s (m + s.indent) (m + s.indent) node

pub record SetItem (t : List ℕ) (s : Style) (m q : ℕ) (x : Meaning) : Type 0 where
  pub node : Node
  pub events : x.events ≡ flat node
  pub on : ColumnAt t m q → EntryOn t m node
  pub set : ColumnAt t m q → SetAt t s (m + s.indent) (m + s.indent) node

pub record SetPair (t : List ℕ) (s : Style) (m q : ℕ) (x : Meaning) : Type 0 where
  pub key : Node
  pub value : Node
  pub events : x.events ≡ flat key ++ flat value
  pub on : ColumnAt t m q → EntryOn t m key
  pub set : ColumnAt t m q → SetAt t s (m + s.indent) (m + s.indent) key
  pub free : is_implicit s m key ≡ true → Unquestioned t key
  pub marked : is_implicit s m key ≡ false → Questioned t key
  pub value_set : ColumnAt t m q → SetAt t s (entries_after s m key value) (m + s.indent) value

pub record SetList (t : List ℕ) (s : Style) (m q : ℕ) (x : Meaning) : Type 0 where
  pub items : Items
  pub events : x.events ≡ flat_items items
  pub set : ColumnAt t m q → SetFirst t s (BlockAt t) m items

pub record SetPairList (t : List ℕ) (s : Style) (m q : ℕ) (x : Meaning) : Type 0 where
  pub pairs : Pairs
  pub events : x.events ≡ flat_pairs pairs
  pub set : ColumnAt t m q → SetFirstPair t s (BlockAt t) m pairs

abbrev pub SetEntry : Bool → List ℕ → Style → ℕ → ℕ → Meaning → Type 0
SetEntry true t s m q x = SetItem t s m q x
SetEntry false t s m q x = SetPair t s m q x

abbrev pub SetEntries : Bool → List ℕ → Style → ℕ → ℕ → Meaning → Type 0
SetEntries true t s m q x = SetList t s m q x
SetEntries false t s m q x = SetPairList t s m q x

-- Entries in sequence.

pub set_last : (t : List ℕ) (s : Style) (b : Bool) (m q : ℕ) (x : Meaning) → SetEntry b t s m q x → SetEntries b t s m q x
set_last t s true m q x a = record { items = item a.node no_items; events = a.events ∙ sym (append-nil (flat a.node)); set = λ c. set_first (a.on c) (set_item (a.on c) (a.set c) no_set_items) }
set_last t s false m q x a = record {
  pairs = pair a.key a.value no_pairs;
  events = a.events ∙ ap (λ z. flat a.key ++ z) (sym (append-nil (flat a.value)));
  set = λ c. set_first_pair (a.on c) (set_pair (a.on c) a.free a.marked (a.set c) (a.value_set c) no_set_pairs);
}

all_items : {t : List ℕ} {s : Style} {m : ℕ} {xs : Items} → SetFirst t s (BlockAt t) m xs → SetItems t s (BlockAt t) m xs
all_items (set_first o a) = a

all_pairs : {t : List ℕ} {s : Style} {m : ℕ} {ps : Pairs} → SetFirstPair t s (BlockAt t) m ps → SetPairs t s (BlockAt t) m ps
all_pairs (set_first_pair o a) = a

pub set_more : (t : List ℕ) (s : Style) (b : Bool) (m q p : ℕ) (x y : Meaning) → ColumnAt t m p → SetEntry b t s m q x → SetEntries b t s m p y → SetEntries b t s m q (x ⊕ y)
unfolding ◌⊕◌
set_more t s true m q p x y d a o = record {
  items = item a.node o.items;
  events = ap (λ z. z ++ y.events) a.events ∙ ap (λ z. flat a.node ++ z) o.events;
  set = λ c. set_first (a.on c) (set_item (a.on c) (a.set c) (all_items (o.set d)));
}
set_more t s false m q p x y d a o = record {
  pairs = pair a.key a.value o.pairs;
  events = ap (λ z. z ++ y.events) a.events ∙ (append_assoc (flat a.key) (flat a.value) y.events ∙ ap (λ z. flat a.key ++ (flat a.value ++ z)) o.events);
  set = λ c. set_first_pair (a.on c) (set_pair (a.on c) a.free a.marked (a.set c) (a.value_set c) (all_pairs (o.set d)));
}

one_held : {event : EventValue} {part : Option Span} {e : EventInText} → Holds event part (e ∷ []) → (e.event ≡ event) × (e.span ≡ part)
one_held (here a b) = (a, b)
one_held (there h) = elim h [ ]

-- the node that is meant
alike_of : {x : Node} {m : Meaning} {node : Node} → MeansTrees x m → m.events ≡ flat node → Alike Anywhere x node
alike_of {x} {node = node} b e =
    let same : b.node ≡ node = (node_unique b.node node [] [] (append-nil (flat b.node) ∙ (sym b.events ∙ (e ∙ sym (append-nil (flat node)))))).0 in
    subst (λ z. Alike Anywhere x z) same b.alike

module _ {t : List ℕ} {s : Style} where
  -- Nodes.

  pub set_after : {m l q : ℕ} {below : Bool} {x : Meaning} (cs : List CommentValue) → SetMeant t s m l below q x → SetMeant t s m l below q (meaning_after cs x)
  unfolding meaning_after
  set_after cs a = record { node = a.node; events = a.events; set = a.set }

  pub set_noting : {m l q : ℕ} {below : Bool} {x : Meaning} (cs : List CommentValue) → SetMeant t s m l below q x → SetMeant t s m l below q (noting x cs)
  unfolding noting
  set_noting cs a = record { node = a.node; events = a.events; set = a.set }

  pub set_empty : {m l q : ℕ} {below : Bool} (i : ℕ) → SetMeant t s m l below q (empty_node i)
  unfolding empty_node plain_event
  set_empty i = record { node = scalar (record { span = None; tag_offset = None; entry = None }) no_props Plain [] []; events = refl; set = λ c. set_line refl }

  -- a node on one line
  pub set_flow : {m l q : ℕ} {below : Bool} {x : Meaning} (node : Node) → MeansFlow x → x.events ≡ flat node → SetMeant t s m l below q x
  set_flow {x = x} node a e = record { node = node; events = e; set = λ c. set_line (blockless node (subst (λ z. AllFlow z) e a.all)) }

  -- a block scalar
  pub set_block : {m l q : ℕ} {below : Bool} {x : Meaning} {at : NodeOffsets} {props : PropsValue} {style : ScalarStyle} {text : List ℕ} {lines : List (List ℕ)} {node : Node} (body : List (List ℕ)) (z : List ℕ)
      → Alike Anywhere (scalar at props style text lines) node → x.events ≡ flat node → is_block_style style ≡ true → 0 < l → ScalarHeld t x.events l body (body_then body z) → SetMeant t s m l below q x
  set_block {l = l} {props = props} {style = style} {text = text} {lines = lines} body z (alike_scalars {bt = bt} f) e block deep held =
      let one = one_held (subst (λ w. Holds held.event held.part w) e held.among) in
      record {
        node = scalar bt props style text lines;
        events = e;
        set = λ c. set_scalar block (block_at body z deep (subst (λ w. ScalarAt t (scalar_node props style text) w l body (body_then body z)) (sym one.1) (subst (λ w. ScalarAt t w held.part l body (body_then body z)) (sym one.0) held.scalar)));
      }

  -- a collection of entries
  items_node : {m l : ℕ} {at : NodeOffsets} {props : PropsValue} {xs : Items} → SetFirst t s (BlockAt t) m xs → SetAt t s m l (sequence at false props xs)
  items_node (set_first o a) = set_sequence o a

  pairs_node : {m l : ℕ} {at : NodeOffsets} {props : PropsValue} {ps : Pairs} → SetFirstPair t s (BlockAt t) m ps → SetAt t s m l (mapping at false props ps)
  pairs_node (set_first_pair o a) = set_mapping o a

  pub set_collection : {l : ℕ} {below : Bool} (b : Bool) (m q i j : ℕ) (x : Meaning) → below ≡ true → SetEntries b t s m q x → SetMeant t s m l below q (collection b false i j x)
  unfolding collection plain_event
  set_collection true m q i j x f a = record {
    node = sequence (record { span = from_to i j; tag_offset = None; entry = None }) false no_props a.items;
    events = ap (λ z. placed (record { span = from_to i j; tag_offset = None; entry = None }) (sequence_starts false no_props) [] ∷ (z ++ (unplaced sequence_ends ∷ []))) a.events;
    set = λ c. items_node (a.set (c f));
  }
  set_collection false m q i j x f a = record {
    node = mapping (record { span = from_to i j; tag_offset = None; entry = None }) false no_props a.pairs;
    events = ap (λ z. placed (record { span = from_to i j; tag_offset = None; entry = None }) (mapping_starts false no_props) [] ∷ (z ++ (unplaced mapping_ends ∷ []))) a.events;
    set = λ c. pairs_node (a.set (c f));
  }

  pub set_propertied : {l q : ℕ} {below : Bool} (b : Bool) (p : PropsValue) (o : Option ℕ) (f g m k i j : ℕ) (x : Meaning) → ColumnAt t m k → SetEntries b t s m k x
      → SetMeant t s m l below q (with_props p o f g (collection b false i j x))
  unfolding collection plain_event from_to with_props
  set_propertied true p o f g m k i j x d a = record {
    node = sequence (record { span = from_to f j; tag_offset = o; entry = None }) false p a.items;
    events = ap (λ z. placed (record { span = from_to f j; tag_offset = o; entry = None }) (sequence_starts false p) [] ∷ (z ++ (unplaced sequence_ends ∷ []))) a.events;
    set = λ c. items_node (a.set d);
  }
  set_propertied false p o f g m k i j x d a = record {
    node = mapping (record { span = from_to f j; tag_offset = o; entry = None }) false p a.pairs;
    events = ap (λ z. placed (record { span = from_to f j; tag_offset = o; entry = None }) (mapping_starts false p) [] ∷ (z ++ (unplaced mapping_ends ∷ []))) a.events;
    set = λ c. pairs_node (a.set d);
  }

  -- After a sign.

  pub signed_of : {m q p : ℕ} {below : Bool} {x : Meaning} → (ColumnAt t m q → ColumnAt t (m + s.indent) p) → SetMeant t s (m + s.indent) (m + s.indent) below p x → SetSigned t s m q x
  signed_of f a = record { node = a.node; events = a.events; set = λ c. a.set (λ e. f c) }

  pub signed_empty : {m q : ℕ} (i : ℕ) (cs : List CommentValue) → SetSigned t s m q (noting (empty_node i) cs)
  signed_empty {m} {q} i cs = let a : SetMeant t s (m + s.indent) (m + s.indent) false q (noting (empty_node i) cs) = set_noting cs (set_empty i) in record { node = a.node; events = a.events; set = λ c. a.set (λ e. absurd (true≢false (sym e))) }

  -- an item
  pub set_item_entered : (m q : ℕ) (x : Meaning) → SetSigned t s m q x → SetItem t s m q (entering q None x)
  unfolding entering
  set_item_entered m q x a =
      let entry : Entry = record { start = q; colon = None; blank_before = false } in
      record {
        node = entered entry a.node;
        events = ap (first_entering entry) a.events ∙ entered_events entry a.node;
        on = λ c. record { entry = entry; is = entered_standing entry a.node; column = c };
        set = λ c. set_entered entry (a.set c);
      }

  -- an explicit pair: a `?` is at q
  pub set_explicit : {l : Node} (m q k h : ℕ) (x y : Meaning) → MeansTrees l x → is_implicit s m l ≡ false → code t q ≡ 63 → is_white_or_end (code t (q + 1)) ≡ true → SetSigned t s m q x → ColumnAt t m h → SetSigned t s m h y
      → SetPair t s m q (entering q (Some k) x ⊕ y)
  unfolding entering ◌⊕◌
  set_explicit m q k h x y meant explicit sign white a d o =
      let entry : Entry = record { start = q; colon = Some k; blank_before = false } in
      let no : is_implicit s m (entered entry a.node) ≡ false = sym (same_implicit s m (entered_alike entry (alike_of meant a.events))) ∙ explicit in
      record {
        key = entered entry a.node;
        value = o.node;
        events = ap (λ z. z ++ y.events) (ap (first_entering entry) a.events ∙ entered_events entry a.node) ∙ ap (λ z. flat (entered entry a.node) ++ z) o.events;
        on = λ c. record { entry = entry; is = entered_standing entry a.node; column = c };
        free = λ e. absurd (true≢false (sym e ∙ no));
        marked = λ e. record { entry = entry; is = entered_standing entry a.node; sign = sign; white = white };
        set = λ c. set_entered entry (a.set c);
        value_set = λ c. subst (λ b. SetAt t s (if b then value_entries s m o.node else m + s.indent) (m + s.indent) o.node) (sym no) (o.set d);
      }

  -- Values of implicit keys.

  pub set_done : {m l q : ℕ} {below : Bool} {x : Meaning} → (below ≡ true → ColumnAt t m q) → SetMeant t s m l below q x → SetDone t s m l x.events
  set_done f a = record { node = a.node; events = a.events; set = a.set f }

  pub done_after : {m l : ℕ} (cs : List CommentValue) (x : Meaning) → SetDone t s m l x.events → SetDone t s m l (meaning_after cs x).events
  unfolding meaning_after
  done_after cs x a = a

  pub done_empty : {m l : ℕ} (i : ℕ) (cs : List CommentValue) → SetDone t s m l (noting (empty_node i) cs).events
  done_empty {m} {l} i cs = set_done {q = i} {below = false} (λ e. absurd (true≢false (sym e))) (set_noting cs (set_empty i))

  pub set_implicit : {l v : Node} (m q k : ℕ) (x y : Meaning) (node : Node) → Alike Anywhere l node → is_implicit s m l ≡ true → MeansFlow x → x.events ≡ flat node
      → (code t q ≡ 63 → is_white_or_end (code t (q + 1)) ≡ true → ⊥) → MeansTrees v y → SetDone t s (value_entries s m v) (m + s.indent) y.events → SetPair t s m q (entering q (Some k) x ⊕ y)
  unfolding entering ◌⊕◌
  set_implicit {v = v} m q k x y node alike implicit b e none meant a =
      let entry : Entry = record { start = q; colon = Some k; blank_before = false } in
      let yes : is_implicit s m (entered entry node) ≡ true = sym (same_implicit s m (entered_alike entry alike)) ∙ implicit in
      let kind : is_sequence v ≡ is_sequence a.node = same_sequence (alike_of meant a.events) in
      record {
        key = entered entry node;
        value = a.node;
        events = ap (λ z. z ++ y.events) (ap (first_entering entry) e ∙ entered_events entry node) ∙ ap (λ z. flat (entered entry node) ++ z) a.events;
        on = λ c. record { entry = entry; is = entered_standing entry node; column = c };
        free = λ f. record { entry = entry; is = entered_standing entry node; none = none };
        marked = λ f. absurd (true≢false (sym yes ∙ f));
        set = λ c. set_line (blockless_entered entry node (blockless node (subst (λ z. AllFlow z) e b.all)));
        value_set = λ c. subst (λ z. SetAt t s (if z then value_entries s m a.node else m + s.indent) (m + s.indent) a.node) (sym yes)
            (subst (λ z. SetAt t s (if z && not s.seq_indent then m else m + s.indent) (m + s.indent) a.node) kind a.set);
      }
