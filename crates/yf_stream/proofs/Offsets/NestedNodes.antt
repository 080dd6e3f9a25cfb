-- The events of a derived node are well nested, with no more collections open at once than its height.
use Rattle.std.proofs.Common.{◌≡◌, ℕ, suc, zero, ◌+◌, ◌≤◌, ℤ, Bool, true, false, List, [], ◌∷◌, ◌++◌, map, Option, Some, None, refl, sym, ap, ◌∙◌, subst, arith, append_assoc, append-nil}
use Rattle.yf_props.specs.Names.{PropertiesValue}
use Rattle.yf_props.specs.Props.{PropsValue, no_props}
use Rattle.yf_events.specs.Event.{EventValue, EventInText, mapping_ends, mapping_starts, sequence_ends, sequence_starts}
use Rattle.yf_events.specs.Nested.{NestsWithin, Shape, a_mapping, a_scalar, a_sequence, an_alias, many_nodes, many_pairs, more_nodes, more_pairs, no_nodes, no_pairs, one_node}
use Rattle.yf_events.specs.declared.event.Entry.{Entry}
use Rattle.yf_grammar.specs.Productions.BlockScalar.{BlockScalar}
use Rattle.yf_grammar.specs.Productions.BlockScalar.BlockScalar.{block_scalar}
use Rattle.yf_grammar.specs.Productions.Grammar.{Production, FlowNode, NodeOf, JsonContent, Entries, Entry as EntryOf, Pair, Explicit, Implicit, ValueOf, KeyOf, BlockNode, BlockEntries, BlockEntry, BlockIndented, BlockValue, Derives}
use Rattle.yf_grammar.specs.Productions.Grammar.Derives.{flow_node, an_alias as alias_there, a_plain, a_plain_with, properties_alone, a_json, a_json_with, a_single, a_double, an_empty_collection, a_collection, last_entry, last_entry_with_comma, more_entries, a_node_entry, a_pair_entry, an_explicit_entry, an_implicit_entry, an_explicit_pair, a_keyed_pair, an_unkeyed_pair, explicit_with, explicit_without, key_alone, key_and_value, value_alone, empty_value, a_value, a_key, a_block_scalar, a_block_scalar_with, a_block_collection, a_block_collection_with, flow_in_block, a_last_entry, an_entry_before, a_dash_entry, an_explicit_entry_with, an_explicit_key_alone, a_keyed_entry, an_unkeyed_entry, a_block_value, an_empty_block_value, a_compact_collection, an_indented_node, nothing_indented}
use Rattle.yf_grammar.specs.Productions.Meaning.{Meaning, ◌⊕◌, alias_to, meaning_after, collection, empty_node, entering, event_with, first_entering, first_with, noting, plain_event, scalar, with_props}

abbrev pub kinds : List EventInText → List EventValue
kinds es = map (λ (e : EventInText). e.event) es

-- a key and its value
pub record PairNests (d : ℕ) (x : List EventValue) : Type 0 where
  pub key : List EventValue
  pub value : List EventValue
  pub is : x ≡ key ++ value
  pub first : NestsWithin one_node d key
  pub second : NestsWithin one_node d value

abbrev entries_shape : Bool → Shape
entries_shape true = many_nodes
entries_shape false = many_pairs

abbrev EntryNests : ℕ → Bool → List EventValue → Type 0
EntryNests d true x = NestsWithin one_node d x
EntryNests d false x = PairNests d x

abbrev pub Nests : ℕ → Production → Meaning → Type 0
Nests d (FlowNode n c) x = NestsWithin one_node d (kinds x.events)
Nests d (NodeOf json n c) x = NestsWithin one_node d (kinds x.events)
Nests d (JsonContent n c) x = NestsWithin one_node d (kinds x.events)
Nests d (Entries s n c) x = NestsWithin (entries_shape s) d (kinds x.events)
Nests d (EntryOf s n c) x = EntryNests d s (kinds x.events)
Nests d (Pair n c) x = PairNests d (kinds x.events)
Nests d (Explicit n c s) x = PairNests d (kinds x.events)
Nests d (Implicit n c s) x = PairNests d (kinds x.events)
Nests d (ValueOf json n c) x = NestsWithin one_node d (kinds x.events)
Nests d (KeyOf json c) x = NestsWithin one_node d (kinds x.events)
Nests d (BlockNode n c) x = NestsWithin one_node d (kinds x.events)
Nests d (BlockEntries s m) x = NestsWithin (entries_shape s) d (kinds x.events)
Nests d (BlockEntry s m) x = EntryNests d s (kinds x.events)
Nests d (BlockIndented m c) x = NestsWithin one_node d (kinds x.events)
Nests d (BlockValue m) x = NestsWithin one_node d (kinds x.events)

pub kinds_join : (xs ys : List EventInText) → kinds (xs ++ ys) ≡ kinds xs ++ kinds ys
kinds_join [] ys = refl
kinds_join (x ∷ xs) ys = ap (λ z. x.event ∷ z) (kinds_join xs ys)

kinds_entered : (e : Entry) (xs : List EventInText) → kinds (first_entering e xs) ≡ kinds xs
kinds_entered e [] = refl
kinds_entered e (x ∷ xs) = refl

abbrev with_first : PropsValue → List EventValue → List EventValue
with_first p [] = []
with_first p (v ∷ vs) = event_with p v ∷ vs

kinds_with : (p : PropsValue) (o : Option ℕ) (i j : ℕ) (xs : List EventInText) → kinds (first_with p o i j xs) ≡ with_first p (kinds xs)
kinds_with p o i j [] = refl
kinds_with p o i j (x ∷ xs) = refl

nested_with : {d : ℕ} {x : List EventValue} (p : PropsValue) → NestsWithin one_node d x → NestsWithin one_node d (with_first p x)
nested_with p a_scalar = a_scalar
nested_with p an_alias = an_alias
nested_with p (a_sequence n) = a_sequence n
nested_with p (a_mapping n) = a_mapping n

module _ {d : ℕ} where
  propertied : (p : PropertiesValue) (i j : ℕ) (x : Meaning) → NestsWithin one_node d (kinds x.events) → NestsWithin one_node d (kinds (with_props p.props p.tag_offset i j x).events)
  unfolding with_props
  propertied p i j x n = subst (λ z. NestsWithin one_node d z) (sym (kinds_with p.props p.tag_offset i j x.events)) (nested_with p.props n)

  entered : (i : ℕ) (k : Option ℕ) (x : Meaning) → NestsWithin one_node d (kinds x.events) → NestsWithin one_node d (kinds (entering i k x).events)
  unfolding entering
  entered i k x n = subst (λ z. NestsWithin one_node d z) (sym (kinds_entered _ x.events)) n

  nothing : (i : ℕ) → NestsWithin one_node d (kinds (empty_node i).events)
  unfolding empty_node plain_event
  nothing i = a_scalar

  pair_of : (x y : Meaning) → NestsWithin one_node d (kinds x.events) → NestsWithin one_node d (kinds y.events) → PairNests d (kinds (x ⊕ y).events)
  unfolding ◌⊕◌
  pair_of x y a b = record { key = kinds x.events; value = kinds y.events; is = kinds_join x.events y.events; first = a; second = b }

  one_of : (s : Bool) (x : List EventValue) → EntryNests d s x → NestsWithin (entries_shape s) d x
  one_of true x n = subst (λ z. NestsWithin many_nodes d z) (append-nil x) (more_nodes n no_nodes)
  one_of false x n =
      subst (λ z. NestsWithin many_pairs d z) (ap (λ z. n.key ++ z) (append-nil n.value) ∙ sym n.is) (more_pairs n.first n.second no_pairs)

  more_of : (s : Bool) (x y : Meaning) → EntryNests d s (kinds x.events) → NestsWithin (entries_shape s) d (kinds y.events) → NestsWithin (entries_shape s) d (kinds (x ⊕ y).events)
  unfolding ◌⊕◌
  more_of true x y a b = subst (λ z. NestsWithin many_nodes d z) (sym (kinds_join x.events y.events)) (more_nodes a b)
  more_of false x y a b =
      subst (λ z. NestsWithin many_pairs d z) (sym (append_assoc a.key a.value (kinds y.events)) ∙ ap (λ z. z ++ kinds y.events) (sym a.is) ∙ sym (kinds_join x.events y.events))
      (more_pairs a.first a.second b)

round_of : {d : ℕ} (s f : Bool) (i j : ℕ) (x : Meaning) → NestsWithin (entries_shape s) d (kinds x.events) → NestsWithin one_node (suc d) (kinds (collection s f i j x).events)
unfolding collection plain_event
round_of {d} true f i j x n =
    subst (λ z. NestsWithin one_node (suc d) (sequence_starts f no_props ∷ z)) (sym (kinds_join x.events (plain_event sequence_ends None ∷ []))) (a_sequence n)
round_of {d} false f i j x n =
    subst (λ z. NestsWithin one_node (suc d) (mapping_starts f no_props ∷ z)) (sym (kinds_join x.events (plain_event mapping_ends None ∷ []))) (a_mapping n)

scalar_nests : {t : List ℕ} {n : ℤ} {i j : ℕ} {x : Meaning} (d : ℕ) → BlockScalar t n i j x → NestsWithin one_node d (kinds x.events)
scalar_nests d (block_scalar h b l) = a_scalar

-- one more collection
under : {h : ℕ} (P : ℕ → Type 0) (d : ℕ) → suc h ≤ d → ((k : ℕ) → h ≤ k → P (suc k)) → P d
under P zero l f = absurd (omega arith)
under P (suc k) l f = f k (omega arith)

pub nests : {t : List ℕ} {h i j : ℕ} {p : Production} {x : Meaning} (d : ℕ) → h ≤ d → Derives t h p i j x → Nests d p x
unfolding meaning_after noting scalar alias_to plain_event
nests d l (flow_node r) = nests d l r
nests d l (alias_there b a) = an_alias
nests d l (a_plain r) = a_scalar
nests d l (a_plain_with {i = i} {g = g} {k = k} {j = j} {p = p} q s r) = propertied p i g (scalar _ _ [] k j) a_scalar
nests d l (properties_alone {i = i} {j = j} {p = p} b q) = propertied p i j (empty_node j) (nothing j)
nests d l (a_json r) = nests d l r
nests d l (a_json_with {i = i} {g = g} {p = p} {x = x} q s r) = propertied p i g x (nests d l r)
nests d l (a_single r) = a_scalar
nests d l (a_double r) = a_scalar
nests d l (an_empty_collection {i = i} {j = j} s {cs = cs} b e m f) =
    let x : Meaning = record { events = []; comments = cs; escapes = []; finish = j } in
    under (λ k. NestsWithin one_node k (kinds (collection s true i (j + 1) x).events)) d l (λ k o. round_of s true i (j + 1) x (none_of s))
  where
    none_of : {k : ℕ} (s : Bool) → NestsWithin (entries_shape s) k []
    none_of true = no_nodes
    none_of false = no_pairs
nests d l (a_collection {i = i} {j = j} s {cs = cs} {x = x} b e m r f) =
    under (λ k. NestsWithin one_node k (kinds (collection s true i (j + 1) (meaning_after cs x)).events)) d l (λ k o. round_of s true i (j + 1) (meaning_after cs x) (nests k o r))
nests d l (last_entry {sequence = s} {x = x} r m) = one_of s (kinds x.events) (nests d l r)
nests d l (last_entry_with_comma {sequence = s} {x = x} r m e n) = one_of s (kinds x.events) (nests d l r)
nests d l (more_entries {sequence = s} {cs = cs} {ds = ds} {x = x} {y = y} r m e n q) = more_of s (noting x (cs ++ ds)) y (nests d (omega arith) r) (nests d (omega arith) q)
nests d l (a_node_entry {i = i} {x = x} r) = entered i None x (nests d l r)
nests d l (a_pair_entry {i = i} {x = x} r) =
    entered i None (collection false true i x.finish x)
    (under (λ k. NestsWithin one_node k (kinds (collection false true i x.finish x).events)) d l (λ k o. round_of false true i x.finish x (one_of false (kinds x.events) (nests k o r))))
nests d l (an_explicit_entry e s r) = nests d l r
nests d l (an_implicit_entry r) = nests d l r
nests d l (an_explicit_pair e s r) = nests d l r
nests d l (a_keyed_pair {i = i} {k = k} {x = x} {y = y} r v) = pair_of (entering i (Some k) x) y (entered i (Some k) x (nests d (omega arith) r)) (nests d (omega arith) v)
nests d l (an_unkeyed_pair {i = i} {x = x} v) = pair_of (entering i (Some i) (empty_node i)) x (entered i (Some i) (empty_node i) (nothing i)) (nests d l v)
nests d l (explicit_with r) = nests d l r
nests d l (explicit_without {s = s} b) = pair_of (entering s None (empty_node (s + 1))) (empty_node (s + 1)) (entered s None (empty_node (s + 1)) (nothing (s + 1))) (nothing (s + 1))
nests d l (key_alone {s = s} {x = x} r) = pair_of (entering s None x) (empty_node x.finish) (entered s None x (nests d l r)) (nothing x.finish)
nests d l (key_and_value {s = s} {k = k} {cs = cs} {x = x} {y = y} r m v) =
    pair_of (noting (entering s (Some k) x) cs) y (entered s (Some k) x (nests d (omega arith) r)) (nests d (omega arith) v)
nests d l (value_alone {s = s} {i = i} {x = x} v) = pair_of (entering s (Some i) (empty_node i)) x (entered s (Some i) (empty_node i) (nothing i)) (nests d l v)
nests d l (empty_value {i = i} b e m) = nothing (i + 1)
nests d l (a_value cs e m s r) = nests d l r
nests d l (a_key r m o) = nests d l r
nests d l (a_block_scalar b s r) = scalar_nests d r
nests d l (a_block_scalar_with {f = f} {g = g} {p = p} {x = x} b s q v r) = propertied p f g x (scalar_nests d r)
nests d l (a_block_collection {k = k} {m = m} {sequence = s} {x = x} b e v o r) =
    under (λ z. NestsWithin one_node z (kinds (collection s false (k + m) x.finish x).events)) d l (λ z w. round_of s false (k + m) x.finish x (nests z w r))
nests d l (a_block_collection_with {f = f} {g = g} {k = k} {m = m} {sequence = s} {p = p} {x = x} b v q e w o r) =
    propertied p f g (collection s false (k + m) x.finish x)
    (under (λ z. NestsWithin one_node z (kinds (collection s false (k + m) x.finish x).events)) d l (λ z w. round_of s false (k + m) x.finish x (nests z w r)))
nests d l (flow_in_block b s r e) = nests d l r
nests d l (a_last_entry {sequence = s} {x = x} r) = one_of s (kinds x.events) (nests d l r)
nests d l (an_entry_before {sequence = s} {x = x} {y = y} r v e) = more_of s x y (nests d (omega arith) r) (nests d (omega arith) e)
nests d l (a_dash_entry {i = i} {x = x} a b r) = entered i None x (nests d l r)
nests d l (an_explicit_entry_with {m = m} {i = i} {k = k} {x = x} {y = y} a b r g e) =
    pair_of (entering i (Some (k + m)) x) y (entered i (Some (k + m)) x (nests d (omega arith) r)) (nests d (omega arith) e)
nests d l (an_explicit_key_alone {i = i} {x = x} a b r g) = pair_of (entering i None x) (empty_node x.finish) (entered i None x (nests d l r)) (nothing x.finish)
nests d l (a_keyed_entry {i = i} {k = k} {x = x} {y = y} r e) = pair_of (entering i (Some k) x) y (entered i (Some k) x (nests d (omega arith) r)) (nests d (omega arith) e)
nests d l (an_unkeyed_entry {i = i} {x = x} r) = pair_of (entering i (Some i) (empty_node i)) x (entered i (Some i) (empty_node i) (nothing i)) (nests d l r)
nests d l (a_block_value e r) = nests d l r
nests d l (an_empty_block_value {i = i} e r) = nothing (i + 1)
nests d l (a_compact_collection {l = k} {i = i} {sequence = s} {x = x} b v r) =
    under (λ z. NestsWithin one_node z (kinds (collection s false (i + k) x.finish x).events)) d l (λ z w. round_of s false (i + k) x.finish x (nests z w r))
nests d l (an_indented_node r) = nests d l r
nests d l (nothing_indented {i = i} b r) = nothing i
