-- The meaning of a production has no more bytes than its derived text: its events, with a byte for each entry, and its
-- comments.
use Rattle.std.proofs.Common.{◌≡◌, ℕ, ℤ, suc, ◌+◌, ◌-◌, ◌≤◌, Bool, true, false, List, [], ◌∷◌, ◌++◌, length, Option, Some, None, refl, ap, append_assoc, arith}
use Rattle.std.specs.Prelude.{encode_utf8_all, max}
use Rattle.std.proofs.Math.Nat.{max-le}
use Rattle.yf_comments.specs.Comment.{CommentValue}
use Rattle.yf_props.specs.Props.{PropsValue, no_props}
use Rattle.yf_quoted.specs.Quoted.{text_of, bad_escapes}
use Rattle.yf_events.specs.Event.{EventValue, EventInText, stream_starts, stream_ends, document_starts, document_ends, sequence_starts, sequence_ends, mapping_starts, mapping_ends, scalar_node, alias_node}
use Rattle.yf_events.specs.declared.event.Entry.{Entry}
use Rattle.yf_events.specs.declared.event.Span.{Span}
use Rattle.yf_events.specs.declared.event.ScalarStyle.{ScalarStyle}
use Rattle.yf_events.specs.declared.event.ScalarStyle.TheVariants.{Plain, Single, Double}
use Rattle.yf_block_scalar.specs.Content.{content_of, literal}
use Rattle.yf_grammar.specs.Productions.BlockScalar.{BlockScalar, kept_lines, style_of}
use Rattle.yf_grammar.specs.Productions.BlockScalar.BlockScalar.{block_scalar}
use Rattle.yf_grammar.specs.Productions.Meaning.{Meaning, ◌⊕◌, meaning_after, noting, plain_event, scalar, alias_to, empty_node, collection, start_of, end_of, event_with, first_with, with_props, first_entering, entering}
use Rattle.yf_grammar.specs.Productions.Grammar.{Production, FlowNode, NodeOf, JsonContent, Entries, Entry as EntryOf, Pair, Explicit, Implicit, ValueOf, KeyOf, BlockNode, BlockEntries, BlockEntry, BlockIndented, BlockValue, Derives}
use Rattle.yf_grammar.specs.Productions.Grammar.Derives.{flow_node, an_alias, a_plain, a_plain_with, properties_alone, a_json, a_json_with, a_single, a_double, an_empty_collection, a_collection, last_entry, last_entry_with_comma, more_entries, a_node_entry, a_pair_entry, an_explicit_entry, an_implicit_entry, an_explicit_pair, a_keyed_pair, an_unkeyed_pair, explicit_with, explicit_without, key_alone, key_and_value, value_alone, empty_value, a_value, a_key, a_block_scalar, a_block_scalar_with, a_block_collection, a_block_collection_with, flow_in_block, a_last_entry, an_entry_before, a_dash_entry, an_explicit_entry_with, an_explicit_key_alone, a_keyed_entry, an_unkeyed_entry, a_block_value, an_empty_block_value, a_compact_collection, an_indented_node, nothing_indented}
use Rattle.yf_grammar.proofs.FlowReader.FlowStarts.{may_line_forward}
use Rattle.yf_laws.proofs.Size.BlockBytes.{body_room, header_room}
use Rattle.yf_laws.proofs.Size.CommentBytes.{end_remarks, may_remarks, separate_remarks, value_remarks}
use Rattle.yf_laws.proofs.Size.NameBytes.{alias_short, properties_short}
use Rattle.yf_laws.proofs.Size.TextBytes.{bytes, double_half, plain_within, single_half}
use Rattle.yf_laws.proofs.Size.Weights.{Weighs, closing, half, half_high, one_if, opens, props_weight, remarks_append, remarks_weight, text_weight, value_weight, weigh, weighs_join, weighs_more}

-- Events.

one_scalar : (props : PropsValue) (style : ScalarStyle) (text : List ℕ) (lines : List (List ℕ)) (span : Option Span) (tag : Option ℕ)
    → Weighs (props_weight props + text_weight style text lines) (record { event = scalar_node props style text; span = span; tag_offset = tag; entry = None; folded = lines } ∷ [])
one_scalar props style text lines span tag = record { adds = λ after rest. omega arith }

one_alias : (name : List ℕ) (span : Option Span) → Weighs (suc (length name)) (record { event = alias_node name; span = span; tag_offset = None; entry = None; folded = [] } ∷ [])
one_alias name span = record { adds = λ after rest. omega arith }

-- an event that begins a collection, and one that ends it

end_weight : (sequence : Bool) (after : Bool) (rest : List EventInText) → weigh after (record { event = end_of sequence; span = None; tag_offset = None; entry = None; folded = [] } ∷ rest) ≡ one_if after + weigh false rest
end_weight true after rest = omega arith
end_weight false after rest = omega arith

start_then : (sequence flow : Bool) (span : Option Span) (after : Bool) (rest : List EventInText)
    → weigh after (record { event = start_of sequence flow; span = span; tag_offset = None; entry = None; folded = [] } ∷ rest) ≡ weigh true rest
start_then true flow span after rest = omega arith
start_then false flow span after rest = omega arith

-- a collection adds what its entries add
enclosed : {n : ℕ} {es : List EventInText} (sequence flow : Bool) (span : Option Span) → Weighs n es
    → Weighs n (plain_event (start_of sequence flow) span ∷ (es ++ (plain_event (end_of sequence) None ∷ [])))
unfolding plain_event
enclosed {n} {es} sequence flow span a = record {
  adds = λ after rest.
      let end : EventInText = plain_event (end_of sequence) None in
      let first = start_then sequence flow span after ((es ++ (end ∷ [])) ++ rest) in
      let inner = a.adds true (end ∷ rest) in
      let last = end_weight sequence false rest in
      let same : weigh true ((es ++ (end ∷ [])) ++ rest) ≡ weigh true (es ++ (end ∷ rest)) = ap (weigh true) (append_assoc es (end ∷ []) rest) in
      omega (arith, first, inner, last, same);
}

-- an empty one a byte
nothing_enclosed : (sequence flow : Bool) (span : Option Span) → Weighs 1 (plain_event (start_of sequence flow) span ∷ ([] ++ (plain_event (end_of sequence) None ∷ [])))
unfolding plain_event
nothing_enclosed sequence flow span = record {
  adds = λ after rest.
      let end : EventInText = plain_event (end_of sequence) None in
      let first = start_then sequence flow span after (end ∷ rest) in
      let last = end_weight sequence true rest in
      omega (arith, first, last);
}

-- the first event with properties, and as the start of an entry

with_closing : (props : PropsValue) (e : EventValue) (after : Bool) → closing (event_with props e) after ≡ closing e after
with_closing props stream_starts after = refl
with_closing props stream_ends after = refl
with_closing props (document_starts marked) after = refl
with_closing props (document_ends marked) after = refl
with_closing props (sequence_starts flow p) after = refl
with_closing props sequence_ends after = refl
with_closing props (mapping_starts flow p) after = refl
with_closing props mapping_ends after = refl
with_closing props (scalar_node p style text) after = refl
with_closing props (alias_node name) after = refl

with_opens : (props : PropsValue) (e : EventValue) → opens (event_with props e) ≡ opens e
with_opens props stream_starts = refl
with_opens props stream_ends = refl
with_opens props (document_starts marked) = refl
with_opens props (document_ends marked) = refl
with_opens props (sequence_starts flow p) = refl
with_opens props sequence_ends = refl
with_opens props (mapping_starts flow p) = refl
with_opens props mapping_ends = refl
with_opens props (scalar_node p style text) = refl
with_opens props (alias_node name) = refl

with_weight : (props : PropsValue) (e : EventValue) (lines : List (List ℕ)) → value_weight (event_with props e) lines ≤ props_weight props + value_weight e lines
with_weight props stream_starts lines = omega arith
with_weight props stream_ends lines = omega arith
with_weight props (document_starts marked) lines = omega arith
with_weight props (document_ends marked) lines = omega arith
with_weight props (sequence_starts flow p) lines = omega arith
with_weight props sequence_ends lines = omega arith
with_weight props (mapping_starts flow p) lines = omega arith
with_weight props mapping_ends lines = omega arith
with_weight props (scalar_node p style text) lines = omega arith
with_weight props (alias_node name) lines = omega arith

propertied : {n : ℕ} (props : PropsValue) (tag : Option ℕ) (i j : ℕ) (es : List EventInText) → Weighs n es → Weighs (props_weight props + n) (first_with props tag i j es)
propertied props tag i j [] a = record { adds = λ after rest. let b = a.adds after rest in omega (arith, b) }
propertied {n} props tag i j (e ∷ es) a = record {
  adds = λ after rest.
      let b = a.adds after rest in
      let l = with_weight props e.event e.folded in
      let c = with_closing props e.event after in
      let same : weigh (opens (event_with props e.event)) (es ++ rest) ≡ weigh (opens e.event) (es ++ rest) = ap (λ w. weigh w (es ++ rest)) (with_opens props e.event) in
      omega (arith, b, l, c, same);
}

begun : {n : ℕ} (entry : Entry) (es : List EventInText) → Weighs n es → Weighs (suc n) (first_entering entry es)
begun entry [] a = record { adds = λ after rest. let b = a.adds after rest in omega (arith, b) }
begun entry (e ∷ es) a = record { adds = λ after rest. let b = a.adds after rest in omega (arith, b) }

-- The meaning of a production that derives the text from i to j, with that many bytes added to it.
pub record Fills (i j more : ℕ) (x : Meaning) : Type 0 where
  pub weight : ℕ
  pub weighs : Weighs weight x.events
  pub room : weight + (remarks_weight x.comments + i) ≤ j + more

fills_in : {i j m h k n : ℕ} {x : Meaning} → h + (j + m) ≤ i + (k + n) → Fills i j m x → Fills h k n x
fills_in l a = record { weight = a.weight; weighs = a.weighs; room = let r = a.room in omega (arith, l, r) }

fills_both : {i k j m n : ℕ} {x y : Meaning} → Fills i k m x → Fills k j n y → Fills i j (m + n) (x ⊕ y)
unfolding ◌⊕◌
fills_both {x = x} {y = y} a b = record {
  weight = a.weight + b.weight;
  weighs = weighs_join a.weighs b.weighs;
  room = let r = a.room in let s = b.room in omega (arith, r, s, remarks_append x.comments y.comments);
}

fills_next : {i k j m : ℕ} {x : Meaning} (cs : List CommentValue) → remarks_weight cs + i ≤ k → Fills k j m x → Fills i j m (meaning_after cs x)
unfolding meaning_after
fills_next {x = x} cs l a = record { weight = a.weight; weighs = a.weighs; room = let r = a.room in omega (arith, l, r, remarks_append cs x.comments) }

pub fills_noting : {i k j m : ℕ} {x : Meaning} (cs : List CommentValue) → Fills i k m x → remarks_weight cs + k ≤ j → Fills i j m (noting x cs)
unfolding noting
fills_noting {x = x} cs a l = record { weight = a.weight; weighs = a.weighs; room = let r = a.room in omega (arith, l, r, remarks_append x.comments cs) }

fills_entering : {i j m : ℕ} {x : Meaning} (start : ℕ) (colon : Option ℕ) → Fills i j m x → Fills i j (suc m) (entering start colon x)
unfolding entering
fills_entering {x = x} start colon a = record { weight = suc a.weight; weighs = begun _ x.events a.weighs; room = let r = a.room in omega (arith, r) }

fills_with : {i k j m : ℕ} {x : Meaning} (props : PropsValue) (tag : Option ℕ) (f g : ℕ) → props_weight props + i ≤ k → Fills k j m x → Fills i j m (with_props props tag f g x)
unfolding with_props
fills_with {x = x} props tag f g l a = record { weight = props_weight props + a.weight; weighs = propertied props tag f g x.events a.weighs; room = let r = a.room in omega (arith, l, r) }

fills_collection : {i j m : ℕ} {x : Meaning} (sequence flow : Bool) (a b : ℕ) → Fills i j m x → Fills i j m (collection sequence flow a b x)
unfolding collection
fills_collection sequence flow a b f = record { weight = f.weight; weighs = enclosed sequence flow _ f.weighs; room = f.room }

pub fills_nothing : {i j : ℕ} (k : ℕ) → i ≤ j → Fills i j 0 (empty_node k)
unfolding empty_node plain_event
fills_nothing k l = record { weight = 0; weighs = weighs_more (one_scalar no_props Plain [] [] None None) (omega arith); room = omega (arith, l) }

fills_scalar : {i j : ℕ} (style : ScalarStyle) (text escapes : List ℕ) (a b : ℕ) → text_weight style text [] + i ≤ j → Fills i j 0 (scalar style text escapes a b)
unfolding scalar plain_event
fills_scalar style text escapes a b l = record { weight = props_weight no_props + text_weight style text []; weighs = one_scalar no_props style text [] _ None; room = omega (arith, l) }

fills_alias : {i j : ℕ} (name : List ℕ) (a b : ℕ) → suc (length name) + i ≤ j → Fills i j 0 (alias_to name a b)
unfolding alias_to plain_event
fills_alias name a b l = record { weight = suc (length name); weighs = one_alias name _; room = omega (arith, l) }

block_weight : (f : Bool) (text : List ℕ) (lines : List (List ℕ)) (n : ℕ) → length text ≤ n → length (literal lines) ≤ n → text_weight (style_of f) text (kept_lines f lines) ≤ suc n
block_weight true text lines n a b = let m : max (length text) (length (literal lines)) ≤ n = max-le a b in omega (arith, m)
block_weight false text lines n a b = omega (arith, a)

fills_block : {t : List ℕ} {n : ℤ} {i j : ℕ} {x : Meaning} → BlockScalar t n i j x → Fills i j 0 x
fills_block (block_scalar {i = i} {k = k} {j = j} {h = h} {b = b} a c l) =
    let head = header_room a in
    let body = body_room c in
    let one = body.text in
    let two = body.lines in
    let text : List ℕ = content_of h.header b.lines b.tail b.open_end in
    let most = block_weight h.header.folded text b.lines (j - (remarks_weight b.comments + k)) (omega (arith, one)) (omega (arith, two)) in
    record {
      weight = props_weight no_props + text_weight (style_of h.header.folded) text (kept_lines h.header.folded b.lines);
      weighs = one_scalar no_props (style_of h.header.folded) text (kept_lines h.header.folded b.lines) _ None;
      room = omega (arith, head, one, most, remarks_append h.comments b.comments);
    }

fills_empty : {i j : ℕ} (sequence : Bool) (cs : List CommentValue) (a b c : ℕ) → remarks_weight cs + (i + 1) ≤ j
    → Fills i (j + 1) 0 (collection sequence true a b (record { events = []; comments = cs; escapes = []; finish = c }))
unfolding collection
fills_empty sequence cs a b c l = record { weight = 1; weighs = nothing_enclosed sequence true _; room = omega (arith, l) }

fills_propertied : {i k j m : ℕ} {x : Meaning} (cs : List CommentValue) (props : PropsValue) (tag : Option ℕ) (f g : ℕ) → props_weight props + (remarks_weight cs + i) ≤ k → Fills k j m x
    → Fills i j m (meaning_after cs (with_props props tag f g x))
fills_propertied {i = i} cs props tag f g l a = fills_next {k = remarks_weight cs + i} cs (omega arith) (fills_with props tag f g l a)

-- A value is after its `:`, and an entry of a flow collection before the comma or the bracket that follows it.
abbrev pub FillsClaim : Production → ℕ → ℕ → Meaning → Type 0
FillsClaim (FlowNode n c) i j x = Fills i j 0 x
FillsClaim (NodeOf json n c) i j x = Fills i j 0 x
FillsClaim (JsonContent n c) i j x = Fills i j 0 x
FillsClaim (Entries s n c) i j x = Fills i j 1 x
FillsClaim (EntryOf s n c) i j x = Fills i j 1 x
FillsClaim (Pair n c) i j x = Fills i j 0 x
FillsClaim (Explicit n c s) i j x = Fills i j 1 x
FillsClaim (Implicit n c s) i j x = Fills i j 1 x
FillsClaim (ValueOf json n c) i j x = Fills (suc i) j 0 x
FillsClaim (KeyOf json c) i j x = Fills i j 0 x
FillsClaim (BlockNode n c) i j x = Fills i j 0 x
FillsClaim (BlockEntries s m) i j x = Fills i j 0 x
FillsClaim (BlockEntry s m) i j x = Fills i j 0 x
FillsClaim (BlockIndented m c) i j x = Fills i j 0 x
FillsClaim (BlockValue m) i j x = Fills (suc i) j 0 x

-- a key with its value: the byte of the entry is that of the `:`
keyed : {i k j m : ℕ} {x y : Meaning} → Fills i k 1 x → Fills (suc k) j 0 y → Fills i j m (x ⊕ y)
keyed {i} {k} {j} {m} {x} {y} a b =
    let first : Fills i (suc k) 0 x = fills_in (omega arith) a in
    let both : Fills i j 0 (x ⊕ y) = fills_both {m = 0} {n = 0} first b in
    fills_in (omega arith) both

-- a key without a value
unvalued : {i j m : ℕ} {x : Meaning} (f : ℕ) → Fills i j m x → Fills i j m (x ⊕ empty_node f)
unvalued {j = j} f a = fills_in (omega arith) (fills_both a (fills_nothing {i = j} {j = j} f (omega arith)))

unkeyed : (i s : ℕ) (colon : Option ℕ) → Fills i i 1 (entering s colon (empty_node i))
unkeyed i s colon = fills_entering s colon (fills_nothing {i = i} {j = i} i (omega arith))

module _ {t : List ℕ} where
  pub fills : {h i j : ℕ} {p : Production} {x : Meaning} → Derives t h p i j x → FillsClaim p i j x
  fills (flow_node d) = fills d
  fills (an_alias {i = i} {j = j} {name = name} f a) = fills_alias name i j (alias_short a)
  fills (a_plain {i = i} {j = j} {x = x} p) = fills_scalar Plain (encode_utf8_all x) [] i j (plain_within p)
  fills (a_plain_with {i = i} {g = g} {k = k} {j = j} {p = v} {cs = cs} {x = x} p s q) =
      let l = properties_short p in let m = separate_remarks s in
      fills_propertied (v.comments ++ cs) v.props v.tag_offset i g (omega (arith, l, m, remarks_append v.comments cs)) (fills_scalar Plain (encode_utf8_all x) [] k j (plain_within q))
  fills (properties_alone {i = i} {j = j} {p = v} f p) =
      let l = properties_short p in fills_propertied v.comments v.props v.tag_offset i j l (fills_nothing {i = j} {j = j} j (omega arith))
  fills (a_json d) = fills d
  fills (a_json_with {i = i} {g = g} {p = v} {cs = cs} p s d) =
      let l = properties_short p in let m = separate_remarks s in fills_propertied (v.comments ++ cs) v.props v.tag_offset i g (omega (arith, l, m, remarks_append v.comments cs)) (fills d)
  fills (a_single {i = i} {j = j} {x = x} q) =
      let l = single_half q in
      let m : half (bytes x) ≤ j - (i + 2) = half_high (bytes x) (j - (i + 2)) (omega (arith, l)) in
      fills_scalar Single (encode_utf8_all x) [] i j (omega (arith, l, m))
  fills (a_double {i = i} {j = j} {x = x} q) =
      let l = double_half q in
      let m : half (bytes (text_of x)) ≤ j - (i + 2) = half_high (bytes (text_of x)) (j - (i + 2)) (omega (arith, l)) in
      fills_scalar Double (encode_utf8_all (text_of x)) (bad_escapes x) i j (omega (arith, l, m))
  fills (an_empty_collection {i = i} {j = j} s {cs = cs} f e m g) = fills_empty s cs i (j + 1) j (may_remarks m)
  fills (a_collection {i = i} {j = j} s {cs = cs} f e m d g) = fills_in (omega arith) (fills_collection s true i (j + 1) (fills_next cs (may_remarks m) (fills d)))
  fills (last_entry {cs = cs} d m) = fills_noting cs (fills d) (may_remarks m)
  fills (last_entry_with_comma {cs = cs} {ds = ds} d m e o) =
      let f = may_remarks m in let g = may_remarks o in fills_noting (cs ++ ds) (fills d) (omega (arith, f, g, remarks_append cs ds))
  fills (more_entries {i = i} {k = k} {m = mm} {cs = cs} {ds = ds} {x = x} d m e o r) =
      let f = may_remarks m in
      let g = may_remarks o in
      let first = fills_noting {j = remarks_weight (cs ++ ds) + k} (cs ++ ds) (fills d) (omega arith) in
      let before : Fills i mm 0 (noting x (cs ++ ds)) = fills_in (omega (arith, f, g, remarks_append cs ds)) first in
      fills_both {m = 0} {n = 1} before (fills r)
  fills (a_node_entry {i = i} d) = fills_entering i None (fills d)
  fills (a_pair_entry {i = i} {x = x} d) = fills_entering i None (fills_collection false true i x.finish (fills d))
  fills (an_explicit_entry {cs = cs} e s d) = fills_in (omega arith) (fills_next cs (separate_remarks s) (fills d))
  fills (an_implicit_entry d) = fills d
  fills (an_explicit_pair {cs = cs} e s d) = fills_in (omega arith) (fills_next cs (separate_remarks s) (fills d))
  fills (a_keyed_pair {i = i} {k = k} d v) = keyed (fills_entering i (Some k) (fills d)) (fills v)
  fills (an_unkeyed_pair {i = i} v) = keyed (unkeyed i i (Some i)) (fills v)
  fills (explicit_with d) = fills d
  fills (explicit_without {s = s} {i = i} f) = unvalued (s + 1) (fills_entering s None (fills_nothing {i = i} {j = i} (s + 1) (omega arith)))
  fills (key_alone {s = s} {x = x} d) = unvalued x.finish (fills_entering s None (fills d))
  fills (key_and_value {s = s} {k = k} {cs = cs} d m v) = keyed (fills_noting cs (fills_entering s (Some k) (fills d)) (may_remarks m)) (fills v)
  fills (value_alone {s = s} {i = i} v) = keyed (unkeyed i s (Some i)) (fills v)
  fills (empty_value {i = i} f e m) = fills_nothing (i + 1) (omega arith)
  fills (a_value {i = i} {k = k} {json = json} {n = n} {c = c} cs e m s d) = let l = value_remarks t n c (i + 1) k cs json s in fills_next cs (omega (arith, l)) (fills d)
  fills (a_key d s l) = let f = may_line_forward s in fills_in (omega (arith, f)) (fills d)
  fills (a_block_scalar {cs = cs} b s d) = fills_next cs (separate_remarks s) (fills_block d)
  fills (a_block_scalar_with {f = f} {g = g} {cs = cs} {ds = ds} {p = v} b s q r d) =
      let k = separate_remarks s in
      let l = properties_short q in
      let m = separate_remarks r in
      fills_propertied (cs ++ v.comments ++ ds) v.props v.tag_offset f g (omega (arith, k, l, m, remarks_append (cs ++ v.comments) ds, remarks_append cs v.comments)) (fills_block d)
  fills (a_block_collection {k = k} {m = m} {sequence = s} {cs = cs} {x = x} b e l n d) = let f = end_remarks e in fills_next cs (omega (arith, f)) (fills_collection s false (k + m) x.finish (fills d))
  fills (a_block_collection_with {f = f} {g = g} {k = k} {m = m} {sequence = s} {cs = cs} {ds = ds} {p = v} {x = x} b r q e l n d) =
      let one = separate_remarks r in
      let two = properties_short q in
      let three = end_remarks e in
      fills_propertied (cs ++ v.comments ++ ds) v.props v.tag_offset f g (omega (arith, one, two, three, remarks_append (cs ++ v.comments) ds, remarks_append cs v.comments)) (fills_collection s false (k + m) x.finish (fills d))
  fills (flow_in_block {cs = cs} {ds = ds} b s d e) = fills_next cs (separate_remarks s) (fills_noting ds (fills d) (end_remarks e))
  fills (a_last_entry d) = fills d
  fills (an_entry_before d s e) = fills_both (fills_in {n = 0} (omega arith) (fills d)) (fills e)
  fills (a_dash_entry {i = i} e n d) = fills_in (omega arith) (fills_entering i None (fills d))
  fills (an_explicit_entry_with {m = m} {i = i} {k = k} e w d c r) = fills_both {m = 0} {n = 0} (fills_in (omega arith) (fills_entering i (Some (k + m)) (fills d))) (fills r)
  fills (an_explicit_key_alone {i = i} {x = x} e w d c) = unvalued x.finish (fills_in (omega arith) (fills_entering i None (fills d)))
  fills (a_keyed_entry {i = i} {k = k} d v) = keyed (fills_entering i (Some k) (fills d)) (fills v)
  fills (an_unkeyed_entry {i = i} v) = keyed (unkeyed i i (Some i)) (fills v)
  fills (a_block_value e d) = fills_in (omega arith) (fills d)
  fills (an_empty_block_value {i = i} {cs = cs} e d) = let l = end_remarks d in fills_in (omega arith) (fills_noting cs (fills_nothing {i = i + 1} {j = i + 1} (i + 1) (omega arith)) l)
  fills (a_compact_collection {l = l} {i = i} {sequence = s} {x = x} b sp d) = fills_in (omega arith) (fills_collection s false (i + l) x.finish (fills d))
  fills (an_indented_node d) = fills d
  fills (nothing_indented {i = i} {cs = cs} b d) = fills_noting cs (fills_nothing {i = i} {j = i} i (omega arith)) (end_remarks d)
