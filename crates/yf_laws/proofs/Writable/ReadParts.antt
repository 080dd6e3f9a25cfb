-- The trees of the parts of a production make up the tree that it means, and the facts about their texts hold for it.
use Rattle.std.proofs.Common.{◌≡◌, ◌≢◌, ℕ, suc, max, ◌≤◌, Bool, true, false, List, [], ◌∷◌, ◌++◌, Option, Some, None, refl, sym, ap, ◌∙◌, subst, arith, append_assoc, append-nil}
use Rattle.std.specs.Prelude.{is_some, ◌||◌}
use Rattle.yf_comments.specs.Comment.{CommentValue}
use Rattle.yf_props.specs.Props.{PropsValue, no_props}
use Rattle.yf_props.specs.Written.{IsProps}
use Rattle.yf_events.specs.Event.{sequence_starts, sequence_ends, mapping_starts, mapping_ends}
use Rattle.yf_events.specs.declared.event.Entry.{Entry}
use Rattle.yf_events.specs.declared.event.ScalarStyle.TheVariants.{Plain}
use Rattle.yf_events.specs.declared.event.Span.{Span}
use Rattle.yf_events.specs.Tree.{NodeOffsets, Node, scalar as scalar_tree, alias as alias_tree, sequence, mapping, Items, no_items, item, Pairs, no_pairs, pair, placed, unplaced, flat, flat_items, flat_pairs}
use Rattle.yf_grammar.specs.Productions.Meaning.{Meaning, ◌⊕◌, meaning_after, noting, plain_event, from_to, empty_node, collection, span_since, first_with, with_props, first_entering, entering}
use Rattle.yf_grammar.specs.Productions.TreesOfMeaning.{tall, tall_items, tall_pairs}
use Rattle.yf_grammar.proofs.NodesInText.MeantLemmas.{entered, entered_events}
use Rattle.yf_laws.specs.Layouts.ReadableTrees.{no_fit_props, some_fit_props}
use Rattle.yf_laws.proofs.Writable.ReadTrees.{ReadNode, read_nothing, read_props, read_scalar, read_alias, read_sequence, read_mapping, ReadItems, read_no_items, read_item, ReadPairs, read_no_pairs, read_pair}

-- with at most h collections open at once
pub record NodeRead (h : ℕ) (b : Bool) (x : Meaning) : Type 0 where
  pub node : Node
  pub low : tall node ≤ h
  pub events : x.events ≡ flat node
  pub read : ReadNode b node

pub record ItemsRead (h : ℕ) (b : Bool) (x : Meaning) : Type 0 where
  pub items : Items
  pub low : tall_items items ≤ h
  pub events : x.events ≡ flat_items items
  pub read : ReadItems b items

pub record PairRead (h : ℕ) (b : Bool) (x : Meaning) : Type 0 where
  pub key : Node
  pub value : Node
  pub low : max (tall key) (tall value) ≤ h
  pub events : x.events ≡ flat key ++ flat value
  pub key_read : ReadNode b key
  pub value_read : ReadNode b value

pub record PairsRead (h : ℕ) (b : Bool) (x : Meaning) : Type 0 where
  pub pairs : Pairs
  pub low : tall_pairs pairs ≤ h
  pub events : x.events ≡ flat_pairs pairs
  pub read : ReadPairs b pairs

-- by the kind of collection: true is a sequence
pub data EntryRead (h : ℕ) (b : Bool) : Bool → Meaning → Type 0 where
  an_item : {x : Meaning} → NodeRead h b x → EntryRead h b true x
  a_pair : {x : Meaning} → PairRead h b x → EntryRead h b false x

pub data EntriesRead (h : ℕ) (b : Bool) : Bool → Meaning → Type 0 where
  some_items : {x : Meaning} → ItemsRead h b x → EntriesRead h b true x
  some_pairs : {x : Meaning} → PairsRead h b x → EntriesRead h b false x

-- Comments aside.

pub node_next : {h : ℕ} {b : Bool} {x : Meaning} (cs : List CommentValue) → NodeRead h b x → NodeRead h b (meaning_after cs x)
unfolding meaning_after
node_next cs a = record { node = a.node; low = a.low; events = a.events; read = a.read }

pub node_noting : {h : ℕ} {b : Bool} {x : Meaning} (cs : List CommentValue) → NodeRead h b x → NodeRead h b (noting x cs)
unfolding noting
node_noting cs a = record { node = a.node; low = a.low; events = a.events; read = a.read }

pub pair_after : {h : ℕ} {b : Bool} {x : Meaning} (cs : List CommentValue) → PairRead h b x → PairRead h b (meaning_after cs x)
unfolding meaning_after
pair_after cs a = record { key = a.key; value = a.value; low = a.low; events = a.events; key_read = a.key_read; value_read = a.value_read }

pub entry_noting : {h : ℕ} {b s : Bool} {x : Meaning} (cs : List CommentValue) → EntryRead h b s x → EntryRead h b s (noting x cs)
unfolding noting
entry_noting cs (an_item a) = an_item (record { node = a.node; low = a.low; events = a.events; read = a.read })
entry_noting cs (a_pair a) = a_pair (record { key = a.key; value = a.value; low = a.low; events = a.events; key_read = a.key_read; value_read = a.value_read })

pub entries_after : {h : ℕ} {b s : Bool} {x : Meaning} (cs : List CommentValue) → EntriesRead h b s x → EntriesRead h b s (meaning_after cs x)
unfolding meaning_after
entries_after cs (some_items a) = some_items (record { items = a.items; low = a.low; events = a.events; read = a.read })
entries_after cs (some_pairs a) = some_pairs (record { pairs = a.pairs; low = a.low; events = a.events; read = a.read })

-- Entries.

entered_read : {b : Bool} {x : Node} (e : Entry) → ReadNode b x → ReadNode b (entered e x)
entered_read e (read_nothing s) = read_nothing s
entered_read e (read_props s p n) = read_props s p n
entered_read e (read_scalar s f u r) = read_scalar s f u r
entered_read e (read_alias s n) = read_alias s n
entered_read e (read_sequence s f a) = read_sequence s f a
entered_read e (read_mapping s f a) = read_mapping s f a

entered_tall : (e : Entry) (x : Node) → tall (entered e x) ≡ tall x
entered_tall e (scalar_tree at props style text lines) = refl
entered_tall e (alias_tree at name) = refl
entered_tall e (sequence at flow props xs) = refl
entered_tall e (mapping at flow props ps) = refl

pub node_entering : {h : ℕ} {b : Bool} {x : Meaning} (i : ℕ) (c : Option ℕ) → NodeRead h b x → NodeRead h b (entering i c x)
unfolding entering
node_entering {h} i c a =
    let e : Entry = record { start = i; colon = c; blank_before = false } in
    record { node = entered e a.node; low = subst (λ k. k ≤ h) (sym (entered_tall e a.node)) a.low; events = ap (first_entering e) a.events ∙ entered_events e a.node; read = entered_read e a.read }

pub nothing_read : (b : Bool) (i : ℕ) → NodeRead 0 b (empty_node i)
unfolding empty_node plain_event
nothing_read b i = record {
  node = scalar_tree (record { span = None; tag_offset = None; entry = None }) no_props Plain [] [];
  low = omega arith;
  events = refl;
  read = read_nothing refl;
}

pub pair_of : {h g k : ℕ} {b : Bool} {x y : Meaning} → NodeRead h b x → NodeRead g b y → max h g ≤ k → PairRead k b (x ⊕ y)
unfolding ◌⊕◌
pair_of {y = y} a d l = record {
  key = a.node;
  value = d.node;
  low = omega (arith, a.low, d.low);
  events = ap (λ z. z ++ y.events) a.events ∙ ap (λ z. flat a.node ++ z) d.events;
  key_read = a.read;
  value_read = d.read;
}

pub last_of : {h : ℕ} {b s : Bool} {x : Meaning} → EntryRead h b s x → EntriesRead h b s x
last_of (an_item a) = some_items (record { items = item a.node no_items; low = omega (arith, a.low); events = a.events ∙ sym (append-nil (flat a.node)); read = read_item a.read read_no_items })
last_of (a_pair a) = some_pairs (record {
  pairs = pair a.key a.value no_pairs;
  low = omega (arith, a.low);
  events = a.events ∙ ap (λ z. flat a.key ++ z) (sym (append-nil (flat a.value)));
  read = read_pair a.key_read a.value_read read_no_pairs;
})

pub more_of : {h g : ℕ} {b s : Bool} {x y : Meaning} → EntryRead h b s x → EntriesRead g b s y → EntriesRead (max h g) b s (x ⊕ y)
unfolding ◌⊕◌
more_of {y = y} (an_item a) (some_items d) = some_items (record {
  items = item a.node d.items;
  low = omega (arith, a.low, d.low);
  events = ap (λ z. z ++ y.events) a.events ∙ ap (λ z. flat a.node ++ z) d.events;
  read = read_item a.read d.read;
})
more_of {y = y} (a_pair a) (some_pairs d) = some_pairs (record {
  pairs = pair a.key a.value d.pairs;
  low = omega (arith, a.low, d.low);
  events = ap (λ z. z ++ y.events) a.events ∙ append_assoc (flat a.key) (flat a.value) y.events ∙ ap (λ z. flat a.key ++ (flat a.value ++ z)) d.events;
  read = read_pair a.key_read a.value_read d.read;
})

pub none_of : (b s : Bool) (cs : List CommentValue) (j : ℕ) → EntriesRead 0 b s (record { events = []; comments = cs; escapes = []; finish = j })
none_of b true cs j = some_items (record { items = no_items; low = omega arith; events = refl; read = read_no_items })
none_of b false cs j = some_pairs (record { pairs = no_pairs; low = omega arith; events = refl; read = read_no_pairs })

-- Collections, in flow style or not.

abbrev pub spanned : ℕ → ℕ → NodeOffsets
spanned i j = record { span = from_to i j; tag_offset = None; entry = None }

pub some_span : (i j : ℕ) → is_some (from_to i j) ≡ true
unfolding from_to
some_span i j = refl

pub collection_read : {h : ℕ} {b s : Bool} {x : Meaning} (flow : Bool) (i j : ℕ) → EntriesRead h (b || flow) s x → NodeRead (suc h) b (collection s flow i j x)
unfolding collection plain_event
collection_read flow i j (some_items a) = record {
  node = sequence (spanned i j) flow no_props a.items;
  low = omega (arith, a.low);
  events = ap (λ z. placed (spanned i j) (sequence_starts flow no_props) [] ∷ (z ++ (unplaced sequence_ends ∷ []))) a.events;
  read = read_sequence (some_span i j) no_fit_props a.read;
}
collection_read flow i j (some_pairs a) = record {
  node = mapping (spanned i j) flow no_props a.pairs;
  low = omega (arith, a.low);
  events = ap (λ z. placed (spanned i j) (mapping_starts flow no_props) [] ∷ (z ++ (unplaced mapping_ends ∷ []))) a.events;
  read = read_mapping (some_span i j) no_fit_props a.read;
}

-- Properties.

pub since : (i j : ℕ) (s : Option Span) → is_some (span_since i j s) ≡ true
unfolding from_to
since i j None = refl
since i j (Some s) = refl

-- a node with properties that begin at i and end at j
abbrev propped : PropsValue → Option ℕ → ℕ → ℕ → Node → Node
propped p o i j (scalar_tree at q style text lines) = scalar_tree (record at { span = span_since i j at.span; tag_offset = o }) p style text lines
propped p o i j (alias_tree at name) = alias_tree (record at { span = span_since i j at.span; tag_offset = o }) name
propped p o i j (sequence at flow q xs) = sequence (record at { span = span_since i j at.span; tag_offset = o }) flow p xs
propped p o i j (mapping at flow q ps) = mapping (record at { span = span_since i j at.span; tag_offset = o }) flow p ps

propped_events : (p : PropsValue) (o : Option ℕ) (i j : ℕ) (x : Node) → first_with p o i j (flat x) ≡ flat (propped p o i j x)
propped_events p o i j (scalar_tree at q style text lines) = refl
propped_events p o i j (alias_tree at name) = refl
propped_events p o i j (sequence at flow q xs) = refl
propped_events p o i j (mapping at flow q ps) = refl

propped_tall : (p : PropsValue) (o : Option ℕ) (i j : ℕ) (x : Node) → tall (propped p o i j x) ≡ tall x
propped_tall p o i j (scalar_tree at q style text lines) = refl
propped_tall p o i j (alias_tree at name) = refl
propped_tall p o i j (sequence at flow q xs) = refl
propped_tall p o i j (mapping at flow q ps) = refl

propped_read : {b : Bool} {x : Node} {p : PropsValue} (o : Option ℕ) (i j : ℕ) → IsProps p → p ≢ no_props → ReadNode b x → ReadNode b (propped p o i j x)
propped_read o i j k n (read_nothing {at = at} s) = read_props (since i j at.span) k n
propped_read o i j k n (read_props {at = at} s p m) = read_props (since i j at.span) k n
propped_read o i j k n (read_scalar {at = at} s f u r) = read_scalar (since i j at.span) (some_fit_props k n) u r
propped_read o i j k n (read_alias {at = at} s m) = read_alias (since i j at.span) m
propped_read o i j k n (read_sequence {at = at} s f a) = read_sequence (since i j at.span) (some_fit_props k n) a
propped_read o i j k n (read_mapping {at = at} s f a) = read_mapping (since i j at.span) (some_fit_props k n) a

pub node_with : {h : ℕ} {b : Bool} {x : Meaning} {p : PropsValue} (o : Option ℕ) (i j : ℕ) → IsProps p → p ≢ no_props → NodeRead h b x → NodeRead h b (with_props p o i j x)
unfolding with_props
node_with {h} {p = p} o i j k n a = record {
  node = propped p o i j a.node;
  low = subst (λ k. k ≤ h) (sym (propped_tall p o i j a.node)) a.low;
  events = ap (first_with p o i j) a.events ∙ propped_events p o i j a.node;
  read = propped_read o i j k n a.read;
}
