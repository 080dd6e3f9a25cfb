-- The trees of a production's parts make up the tree of the production, with their nodes in order.
use Rattle.std.proofs.Common.{◌≡◌, ℕ, ◌<◌, ◌≤◌, Bool, true, false, List, [], ◌∷◌, ◌++◌, Option, Some, None, refl, sym, ap, ◌∙◌, append_assoc, append-nil, arith}
use Rattle.yf_comments.specs.Comment.{CommentValue}
use Rattle.yf_props.specs.Props.{PropsValue, no_props}
use Rattle.yf_events.specs.Event.{scalar_node, sequence_starts, sequence_ends, mapping_starts, mapping_ends}
use Rattle.yf_events.specs.declared.event.Entry.{Entry}
use Rattle.yf_events.specs.declared.event.ScalarStyle.TheVariants.{Plain}
use Rattle.yf_events.specs.Tree.{NodeOffsets, Node, scalar as scalar_tree, alias as alias_tree, sequence, mapping, Items, no_items, item, Pairs, no_pairs, pair, placed, unplaced, standing, flat, flat_items, flat_pairs}
use Rattle.yf_grammar.specs.Productions.Meaning.{Meaning, ◌⊕◌, meaning_after, noting, plain_event, from_to, empty_node, collection, with_props, first_entering, entering}
use Rattle.yf_grammar.specs.Productions.SpellableTexts.{IsSpelled}
use Rattle.yf_grammar.proofs.Ends.GapLemmas.{Visible}
use Rattle.yf_grammar.proofs.NodesInText.MeantLemmas.{entered, entered_events}
use Rattle.yf_grammar.proofs.NodesInText.NodePlaces.{Begins, ColonIsAt, ContentFrom, content_alone, Entered, NodeIsAt, Opens, is_at_nowhere, scalar_is_at, alias_is_at, sequence_is_at, mapping_is_at, ItemsStand, no_items_stand, item_is_at, PairsStand, no_pairs_stand, pair_is_at, node_after, node_upto, items_after, items_upto, pairs_after, pairs_upto}

-- The meaning of a production from i to j: a node, the items of a sequence, the pairs of a mapping, or one of them.
-- They end at the finish of the meaning.

pub record NodeAt (t : List ℕ) (i j : ℕ) (x : Meaning) : Type 0 where
  pub node : Node
  pub events : x.events ≡ flat node
  pub no_entry : (standing node).entry ≡ None
  pub is_there : NodeIsAt t i x.finish node
  pub ends : x.finish ≤ j

pub record ItemAt (t : List ℕ) (i j : ℕ) (x : Meaning) : Type 0 where
  pub node : Node
  pub entry : Entry
  pub begins : (standing node).entry ≡ Some entry
  pub events : x.events ≡ flat node
  pub first : Begins t i entry.start
  pub is_there : NodeIsAt t entry.start x.finish node
  pub ends : x.finish ≤ j

pub record PairAt (t : List ℕ) (i j : ℕ) (x : Meaning) : Type 0 where
  pub key : Node
  pub value : Node
  pub entry : Entry
  pub key_end : ℕ
  pub value_start : ℕ
  pub begins : Entered key value entry
  pub events : x.events ≡ flat key ++ flat value
  pub first : Begins t i entry.start
  pub key_is_at : NodeIsAt t entry.start key_end key
  pub colon : ColonIsAt t key_end value_start entry.colon
  pub value_is_at : NodeIsAt t value_start x.finish value
  pub ends : x.finish ≤ j

pub record ItemsAt (t : List ℕ) (i j : ℕ) (x : Meaning) : Type 0 where
  pub items : Items
  pub events : x.events ≡ flat_items items
  pub is_there : ItemsStand t i x.finish items
  pub ends : x.finish ≤ j

pub record PairsAt (t : List ℕ) (i j : ℕ) (x : Meaning) : Type 0 where
  pub pairs : Pairs
  pub events : x.events ≡ flat_pairs pairs
  pub is_there : PairsStand t i x.finish pairs
  pub ends : x.finish ≤ j

-- for either kind of collection: true for a sequence
pub data EntryAt (t : List ℕ) : Bool → ℕ → ℕ → Meaning → Type 0 where
  an_item : {i j : ℕ} {x : Meaning} → ItemAt t i j x → EntryAt t true i j x
  a_pair : {i j : ℕ} {x : Meaning} → PairAt t i j x → EntryAt t false i j x

pub data EntriesAt (t : List ℕ) : Bool → ℕ → ℕ → Meaning → Type 0 where
  some_items : {i j : ℕ} {x : Meaning} → ItemsAt t i j x → EntriesAt t true i j x
  some_pairs : {i j : ℕ} {x : Meaning} → PairsAt t i j x → EntriesAt t false i j x

pub entered_standing : (e : Entry) (x : Node) → (standing (entered e x)).entry ≡ Some e
entered_standing e (scalar_tree at props style text lines) = refl
entered_standing e (alias_tree at name) = refl
entered_standing e (sequence at flow props xs) = refl
entered_standing e (mapping at flow props ps) = refl

module _ {t : List ℕ} where
  -- Nodes.

  pub node_wider : {h i j k : ℕ} {x : Meaning} → h ≤ i → NodeAt t i j x → j ≤ k → NodeAt t h k x
  node_wider l a m = record { node = a.node; events = a.events; no_entry = a.no_entry; is_there = node_after l a.is_there; ends = omega (arith, a.ends) }

  pub node_next : {i j : ℕ} {x : Meaning} (cs : List CommentValue) → NodeAt t i j x → NodeAt t i j (meaning_after cs x)
  unfolding meaning_after
  node_next cs a = record { node = a.node; events = a.events; no_entry = a.no_entry; is_there = a.is_there; ends = a.ends }

  pub node_noting : {i j : ℕ} {x : Meaning} (cs : List CommentValue) → NodeAt t i j x → NodeAt t i j (noting x cs)
  unfolding noting
  node_noting cs a = record { node = a.node; events = a.events; no_entry = a.no_entry; is_there = a.is_there; ends = a.ends }

  pub nothing_at : {i j : ℕ} → i ≤ j → NodeAt t i j (empty_node i)
  unfolding empty_node plain_event
  nothing_at l = record {
    node = scalar_tree (record { span = None; tag_offset = None; entry = None }) no_props Plain [] [];
    events = refl;
    no_entry = refl;
    is_there = is_at_nowhere (omega arith) refl;
    ends = l;
  }

  entered_is_at : {i j : ℕ} {x : Node} (e : Entry) → NodeIsAt t i j x → NodeIsAt t i j (entered e x)
  entered_is_at e (is_at_nowhere m q) = is_at_nowhere m q
  entered_is_at e (scalar_is_at q b m n w s) = scalar_is_at q b m n w s
  entered_is_at e (alias_is_at q b m n s) = alias_is_at q b m n s
  entered_is_at e (sequence_is_at q b m n s) = sequence_is_at q b m n s
  entered_is_at e (mapping_is_at q b m n s) = mapping_is_at q b m n s

  -- Entries.

  pub item_of : {i j s : ℕ} {x : Meaning} → s ≤ i → Visible t s → NodeAt t i j x → ItemAt t s j (entering s None x)
  unfolding entering
  item_of {s = s} l v a =
      let entry : Entry = record { start = s; colon = None; blank_before = false } in
      record {
        node = entered entry a.node;
        entry = entry;
        begins = entered_standing entry a.node;
        events = ap (first_entering entry) a.events ∙ entered_events entry a.node;
        first = record { order = omega arith; visible = v };
        is_there = entered_is_at entry (node_after l a.is_there);
        ends = a.ends;
      }

  pub pair_of : {i j s k m : ℕ} {x y : Meaning} (colon : Option ℕ) → s ≤ i → Visible t s → NodeAt t i k x → ColonIsAt t k m colon → NodeAt t m j y
      → PairAt t s j (entering s colon x ⊕ y)
  unfolding entering ◌⊕◌
  pair_of {s = s} {k = k} {m = m} {y = y} colon l v a c b =
      let entry : Entry = record { start = s; colon = colon; blank_before = false } in
      record {
        key = entered entry a.node;
        value = b.node;
        entry = entry;
        key_end = k;
        value_start = m;
        begins = record { key = entered_standing entry a.node; value = b.no_entry };
        events = ap (λ z. z ++ y.events) (ap (first_entering entry) a.events ∙ entered_events entry a.node) ∙ ap (λ z. flat (entered entry a.node) ++ z) b.events;
        first = record { order = omega arith; visible = v };
        key_is_at = entered_is_at entry (node_upto (node_after l a.is_there) a.ends);
        colon = c;
        value_is_at = b.is_there;
        ends = b.ends;
      }

  pub pair_key_noting : {i j : ℕ} (x y : Meaning) (cs : List CommentValue) → PairAt t i j (x ⊕ y) → PairAt t i j (noting x cs ⊕ y)
  unfolding noting ◌⊕◌
  pair_key_noting x y cs a = record {
    key = a.key;
    value = a.value;
    entry = a.entry;
    key_end = a.key_end;
    value_start = a.value_start;
    begins = a.begins;
    events = a.events;
    first = a.first;
    key_is_at = a.key_is_at;
    colon = a.colon;
    value_is_at = a.value_is_at;
    ends = a.ends;
  }

  pub pair_after : {i j : ℕ} {x : Meaning} (cs : List CommentValue) → PairAt t i j x → PairAt t i j (meaning_after cs x)
  unfolding meaning_after
  pair_after cs a = record {
    key = a.key;
    value = a.value;
    entry = a.entry;
    key_end = a.key_end;
    value_start = a.value_start;
    begins = a.begins;
    events = a.events;
    first = a.first;
    key_is_at = a.key_is_at;
    colon = a.colon;
    value_is_at = a.value_is_at;
    ends = a.ends;
  }

  item_last : {i k j : ℕ} {x : Meaning} → ItemAt t i k x → k ≤ j → ItemsAt t i j x
  item_last a l = record {
    items = item a.node no_items;
    events = a.events ∙ sym (append-nil (flat a.node));
    is_there = item_is_at a.entry a.begins a.first a.is_there (no_items_stand (omega arith));
    ends = omega (arith, a.ends);
  }

  pair_last : {i k j : ℕ} {x : Meaning} → PairAt t i k x → k ≤ j → PairsAt t i j x
  pair_last a l = record {
    pairs = pair a.key a.value no_pairs;
    events = a.events ∙ ap (λ z. flat a.key ++ z) (sym (append-nil (flat a.value)));
    is_there = pair_is_at a.entry a.begins a.first a.key_is_at a.colon a.value_is_at (no_pairs_stand (omega arith));
    ends = omega (arith, a.ends);
  }

  items_more : {i k m j : ℕ} {x y : Meaning} → ItemAt t i k x → k ≤ m → ItemsAt t m j y → ItemsAt t i j (x ⊕ y)
  unfolding ◌⊕◌
  items_more {y = y} a l b = record {
    items = item a.node b.items;
    events = ap (λ z. z ++ y.events) a.events ∙ ap (λ z. flat a.node ++ z) b.events;
    is_there = item_is_at a.entry a.begins a.first a.is_there (items_after (omega (arith, a.ends)) b.is_there);
    ends = b.ends;
  }

  pairs_more : {i k m j : ℕ} {x y : Meaning} → PairAt t i k x → k ≤ m → PairsAt t m j y → PairsAt t i j (x ⊕ y)
  unfolding ◌⊕◌
  pairs_more {x = x} {y = y} a l b = record {
    pairs = pair a.key a.value b.pairs;
    events = ap (λ z. z ++ y.events) a.events ∙ append_assoc (flat a.key) (flat a.value) y.events ∙ ap (λ z. flat a.key ++ (flat a.value ++ z)) b.events;
    is_there = pair_is_at a.entry a.begins a.first a.key_is_at a.colon a.value_is_at (pairs_after (omega (arith, a.ends)) b.is_there);
    ends = b.ends;
  }

pub last_of : {t : List ℕ} {s : Bool} {i k j : ℕ} {x : Meaning} → EntryAt t s i k x → k ≤ j → EntriesAt t s i j x
last_of (an_item a) l = some_items (item_last a l)
last_of (a_pair a) l = some_pairs (pair_last a l)

pub more_of : {t : List ℕ} {s : Bool} {i k m j : ℕ} {x y : Meaning} → EntryAt t s i k x → k ≤ m → EntriesAt t s m j y → EntriesAt t s i j (x ⊕ y)
more_of (an_item a) l (some_items b) = some_items (items_more a l b)
more_of (a_pair a) l (some_pairs b) = some_pairs (pairs_more a l b)

pub entry_noting : {t : List ℕ} {s : Bool} {i j : ℕ} {x : Meaning} (cs : List CommentValue) → EntryAt t s i j x → EntryAt t s i j (noting x cs)
unfolding noting
entry_noting cs (an_item a) =
    an_item (record { node = a.node; entry = a.entry; begins = a.begins; events = a.events; first = a.first; is_there = a.is_there; ends = a.ends })
entry_noting cs (a_pair a) = a_pair (record {
  key = a.key;
  value = a.value;
  entry = a.entry;
  key_end = a.key_end;
  value_start = a.value_start;
  begins = a.begins;
  events = a.events;
  first = a.first;
  key_is_at = a.key_is_at;
  colon = a.colon;
  value_is_at = a.value_is_at;
  ends = a.ends;
})

pub entries_after : {t : List ℕ} {s : Bool} {i j : ℕ} {x : Meaning} (cs : List CommentValue) → EntriesAt t s i j x → EntriesAt t s i j (meaning_after cs x)
unfolding meaning_after
entries_after cs (some_items a) = some_items (record { items = a.items; events = a.events; is_there = a.is_there; ends = a.ends })
entries_after cs (some_pairs a) = some_pairs (record { pairs = a.pairs; events = a.events; is_there = a.is_there; ends = a.ends })

pub entries_none : {t : List ℕ} {i j : ℕ} (s : Bool) (cs : List CommentValue) → i ≤ j
    → EntriesAt t s i j (record { events = []; comments = cs; escapes = []; finish = j })
entries_none true cs l = some_items (record { items = no_items; events = refl; is_there = no_items_stand l; ends = omega arith })
entries_none false cs l = some_pairs (record { pairs = no_pairs; events = refl; is_there = no_pairs_stand l; ends = omega arith })

-- only up to the finish
pub node_narrow : {t : List ℕ} {i j : ℕ} {x : Meaning} → NodeAt t i j x → NodeAt t i x.finish x
node_narrow a = record { node = a.node; events = a.events; no_entry = a.no_entry; is_there = a.is_there; ends = omega arith }

pub pair_narrow : {t : List ℕ} {i j : ℕ} {x : Meaning} → PairAt t i j x → PairAt t i x.finish x
pair_narrow a = record {
  key = a.key;
  value = a.value;
  entry = a.entry;
  key_end = a.key_end;
  value_start = a.value_start;
  begins = a.begins;
  events = a.events;
  first = a.first;
  key_is_at = a.key_is_at;
  colon = a.colon;
  value_is_at = a.value_is_at;
  ends = omega arith;
}

pub entries_narrow : {t : List ℕ} {s : Bool} {i j : ℕ} {x : Meaning} → EntriesAt t s i j x → EntriesAt t s i x.finish x
entries_narrow (some_items a) = some_items (record { items = a.items; events = a.events; is_there = a.is_there; ends = omega arith })
entries_narrow (some_pairs a) = some_pairs (record { pairs = a.pairs; events = a.events; is_there = a.is_there; ends = omega arith })

pub entries_end : {t : List ℕ} {s : Bool} {i j : ℕ} {x : Meaning} → EntriesAt t s i j x → x.finish ≤ j
entries_end (some_items a) = a.ends
entries_end (some_pairs a) = a.ends

pub entries_wider : {t : List ℕ} {s : Bool} {i j k : ℕ} {x : Meaning} → EntriesAt t s i j x → j ≤ k → EntriesAt t s i k x
entries_wider (some_items a) l = some_items (record { items = a.items; events = a.events; is_there = a.is_there; ends = omega (arith, a.ends) })
entries_wider (some_pairs a) l = some_pairs (record { pairs = a.pairs; events = a.events; is_there = a.is_there; ends = omega (arith, a.ends) })

-- Collections, in flow style or not: from a to b, and with properties from f to g.

abbrev spanned : ℕ → ℕ → Option ℕ → NodeOffsets
spanned a b o = record { span = from_to a b; tag_offset = o; entry = None }

opened : {t : List ℕ} {i a k b : ℕ} {props : PropsValue} (flow : Bool) → Begins t i a → a ≤ k → k < b → (flow ≡ true → ContentFrom t props a k)
    → Opens t flow props i a k b
opened flow v m w c = record { order = v.order; visible = v.visible; inner = m; wide = w; content = c }

pub collection_at : {t : List ℕ} {i k j a b : ℕ} {s : Bool} {x : Meaning} (flow : Bool) → IsSpelled (scalar_node no_props Plain []) []
    → Begins t i a → a ≤ k → a < b → EntriesAt t s k b x → b ≤ j → NodeAt t i j (collection s flow a b x)
unfolding collection plain_event from_to
collection_at {t} {i} {k} {j} {a} {b} flow p v m w (some_items e) n = record {
  node = sequence (spanned a b None) flow no_props e.items;
  events = ap (λ z. placed (spanned a b None) (sequence_starts flow no_props) [] ∷ (z ++ (unplaced sequence_ends ∷ []))) e.events;
  no_entry = refl;
  is_there = sequence_is_at refl (opened flow v (omega arith) w (λ q. content_alone)) (items_upto (items_after m e.is_there) e.ends) (omega arith) p;
  ends = n;
}
collection_at {t} {i} {k} {j} {a} {b} flow p v m w (some_pairs e) n = record {
  node = mapping (spanned a b None) flow no_props e.pairs;
  events = ap (λ z. placed (spanned a b None) (mapping_starts flow no_props) [] ∷ (z ++ (unplaced mapping_ends ∷ []))) e.events;
  no_entry = refl;
  is_there = mapping_is_at refl (opened flow v (omega arith) w (λ q. content_alone)) (pairs_upto (pairs_after m e.is_there) e.ends) (omega arith) p;
  ends = n;
}

pub collection_with : {t : List ℕ} {i k j f b : ℕ} {s : Bool} {x : Meaning} (flow : Bool) (props : PropsValue) (o : Option ℕ) (g a : ℕ)
    → IsSpelled (scalar_node props Plain []) [] → Begins t i f → f ≤ a → a < b → (flow ≡ true → ContentFrom t props f a) → a ≤ k → EntriesAt t s k b x → b ≤ j
    → NodeAt t i j (with_props props o f g (collection s flow a b x))
unfolding collection plain_event from_to with_props
collection_with {f = f} {b = b} flow props o g a p v l w c m (some_items e) n = record {
  node = sequence (spanned f b o) flow props e.items;
  events = ap (λ z. placed (spanned f b o) (sequence_starts flow props) [] ∷ (z ++ (unplaced sequence_ends ∷ []))) e.events;
  no_entry = refl;
  is_there = sequence_is_at refl (opened flow v l w c) (items_upto (items_after m e.is_there) e.ends) (omega arith) p;
  ends = n;
}
collection_with {f = f} {b = b} flow props o g a p v l w c m (some_pairs e) n = record {
  node = mapping (spanned f b o) flow props e.pairs;
  events = ap (λ z. placed (spanned f b o) (mapping_starts flow props) [] ∷ (z ++ (unplaced mapping_ends ∷ []))) e.events;
  no_entry = refl;
  is_there = mapping_is_at refl (opened flow v l w c) (pairs_upto (pairs_after m e.is_there) e.ends) (omega arith) p;
  ends = n;
}
