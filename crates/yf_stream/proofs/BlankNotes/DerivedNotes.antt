-- Each comment of a block node notes whether a blank line is before it, from the floor that the block scalars before it
-- set: the induction.
use Rattle.std.proofs.Common.{◌≡◌, ◌≢◌, ℕ, ℤ, ◌+◌, ◌≤◌, Bool, true, false, List, [], Option, Some, None, refl, sym, ap, ◌∙◌, true≢false, not, ◌&&◌, ◌||◌, ◌==◌, arith}
use Rattle.std.specs.Str.{IsUtf8}
use Rattle.yf_chars.specs.Text.{code}
use Rattle.yf_chars.specs.Class.{is_ns_char, is_nb_char, is_printable, is_white, is_break_char}
use Rattle.yf_chars.specs.Signs.{BYTE_ORDER_MARK}
use Rattle.yf_comments.specs.Comment.{CommentValue}
use Rattle.yf_chars.specs.declared.context.Ctx.{Ctx}
use Rattle.yf_chars.specs.Chain.{Chain}
use Rattle.yf_comments.specs.Comments.{is_gap, LineEnd, Row}
use Rattle.yf_comments.proofs.LineOrder.{line_end_forward}
use Rattle.yf_plain.proofs.PlainLemmas.{ns_below}
use Rattle.yf_props.proofs.SeparationEnds.{separate_forward}
use Rattle.yf_props.specs.Props.{PropsValue}
use Rattle.yf_events.specs.declared.event.Entry.{Entry as PlacedEntry}
use Rattle.yf_grammar.specs.Productions.Grammar.{Production, BlockNode, Derives}
use Rattle.yf_grammar.specs.Productions.Grammar.Derives.{flow_node, an_alias, a_plain, a_plain_with, properties_alone, a_json, a_json_with, a_single, a_double, an_empty_collection, a_collection, last_entry, last_entry_with_comma, more_entries, a_node_entry, a_pair_entry, an_explicit_entry, an_implicit_entry, an_explicit_pair, a_keyed_pair, an_unkeyed_pair, explicit_with, explicit_without, key_alone, key_and_value, value_alone, empty_value, a_value, a_key, a_block_scalar, a_block_scalar_with, a_block_collection, a_block_collection_with, flow_in_block, a_last_entry, an_entry_before, a_dash_entry, an_explicit_entry_with, an_explicit_key_alone, a_keyed_entry, an_unkeyed_entry, a_block_value, an_empty_block_value, a_compact_collection, an_indented_node, nothing_indented}
use Rattle.yf_grammar.specs.Productions.Meaning.{Meaning, ◌⊕◌, meaning_after, noting, empty_node, collection, with_props, entering, plain_event, from_to, start_of, first_with, first_entering}
use Rattle.yf_grammar.specs.Productions.ReadParts.{NotedSince}
use Rattle.yf_grammar.proofs.BlockOutcomes.BlockStarts.{block_starts}
use Rattle.yf_grammar.proofs.Documents.CommentOrder.{derived_ascends}
use Rattle.yf_grammar.proofs.Ends.GapLemmas.{Visible}
use Rattle.yf_grammar.proofs.Prefixes.PrefixNodes.{derived_order}
use Rattle.yf_stream.specs.ReadingOf.{floor_at}
use Rattle.yf_stream.proofs.BlankNotes.CommentNotes.{Each, no_element, one_element, each_join, each_weaker, NotedComment, told_wider, Guard, guarded, guard_order, told_since, rows_told, line_told, separate_told, may_told, value_told}
use Rattle.yf_stream.proofs.BlankNotes.FloorWalk.{floor_kept, floor_wider, floor_upto, with_floors, with_floor, entering_floors, entering_floor}
use Rattle.yf_stream.proofs.BlankNotes.NodeNotes.{Within, within_of, Unlined, FlowNotes, EntryNotes, NodeNotes, NotesClaim, plainly, start_kept, end_kept, flow_after, flow_noting, flow_join, flow_entering, flow_with, flow_collection, flow_empty, flow_alias, flow_plain, flow_single, flow_double, properties_told, notes_as, notes_early, notes_join, unlined_floors, notes_flow, collection_floor}
use Rattle.yf_stream.proofs.BlankNotes.BlockNotes.{scalar_notes}
use Rattle.yf_props.proofs.NameOrder.{properties_forward}

solid_dash : is_gap 45 ≡ false
unfolding is_gap is_white is_break_char
solid_dash = refl

solid_question : is_gap 63 ≡ false
unfolding is_gap is_white is_break_char
solid_question = refl

solid_colon : is_gap 58 ≡ false
unfolding is_gap is_white is_break_char
solid_colon = refl

-- no floor before a sign matters after it
module _ {t : List ℕ} {i : ℕ} where
  pub after_dash : (f : ℕ) → code t i ≡ 45 → f ≤ i → Guard t f (i + 1)
  after_dash f e l = guarded i (omega arith) (ap is_gap e ∙ solid_dash) l (omega arith)

  pub after_question : (f : ℕ) → code t i ≡ 63 → f ≤ i → Guard t f (i + 1)
  after_question f e l = guarded i (omega arith) (ap is_gap e ∙ solid_question) l (omega arith)

  pub after_colon : (f : ℕ) → code t i ≡ 58 → f ≤ i → Guard t f (i + 1)
  after_colon f e l = guarded i (omega arith) (ap is_gap e ∙ solid_colon) l (omega arith)

-- a visible character is no gap
ns_parts : (p w b m : Bool) → (p && (not b && not m)) && not w ≡ true → w || b || m ≡ false
ns_parts false w b m e = absurd (true≢false (sym e))
ns_parts true w true m e = absurd (true≢false (sym e))
ns_parts true w false true e = absurd (true≢false (sym e))
ns_parts true true false false e = absurd (true≢false (sym e))
ns_parts true false false false e = refl

pub ns_solid : (c : ℕ) → is_ns_char c ≡ true → is_gap c ≡ false
unfolding is_ns_char is_nb_char is_gap
ns_solid c e = ns_parts (is_printable c) (is_white c) (is_break_char c) (c == BYTE_ORDER_MARK) e

-- parts of block collections
module _ {t : List ℕ} where
  entry_entering : {i j : ℕ} (k : ℕ) (colon : Option ℕ) {x : Meaning} → EntryNotes t i j x → EntryNotes t i j (entering k colon x)
  unfolding entering
  entry_entering k colon {x} a =
      let entry : PlacedEntry = record { start = k; colon = colon; blank_before = false } in
      record {
        floors = entering_floors entry a.floors;
        notes = λ f g. notes_as x.events (first_entering entry x.events) (λ o n. sym (entering_floor entry o n a.floors)) (a.notes f g);
      }

  entry_wider : {h i j k : ℕ} {x : Meaning} → h ≤ i → j ≤ k → EntryNotes t i j x → EntryNotes t h k x
  entry_wider l m a = record { floors = floor_wider l m a.floors; notes = λ f g. a.notes f (λ c. let o = g c in omega arith) }

  -- a node after a sign
  node_next : {i j : ℕ} {x : Meaning} → ((f : ℕ) → f ≤ i → Guard t f (i + 1)) → NodeNotes t (i + 1) j x → EntryNotes t i j x
  node_next g a = record { floors = floor_wider (omega arith) (omega arith) a.floors; notes = λ f l. a.notes f (λ c. g (f c) (l c)) }

  -- one after another
  entries_join : {i k m j : ℕ} {x y : Meaning} → i ≤ k → k ≤ m → m ≤ j → Each (Within t i k) x.comments → EntryNotes t i k x → EntryNotes t m j y → EntryNotes t i j (x ⊕ y)
  unfolding ◌⊕◌
  entries_join {i} {k} {m} {j} {x} {y} a b c w d e = record {
    floors = each_join (floor_wider (omega arith) (omega arith) d.floors) (floor_wider (omega arith) (omega arith) e.floors);
    notes = λ f g. notes_join x.events y.events e.floors b (d.notes f g) w
        (e.notes (λ v. floor_at v.offset (f v) x.events) (λ v. let l = g v in floor_upto v.offset (f v) (omega arith) (omega arith) d.floors));
  }

  entered_join : {i k m j : ℕ} (start : ℕ) (colon : Option ℕ) {x y : Meaning} → i ≤ k → k ≤ m → m ≤ j → Each (Within t i k) x.comments → EntryNotes t i k x → EntryNotes t m j y
      → EntryNotes t i j (entering start colon x ⊕ y)
  unfolding entering
  entered_join start colon a b c w d e = entries_join a b c w (entry_entering start colon d) e

  within_wider : {h i j : ℕ} {cs : List CommentValue} → h ≤ i → Each (Within t i j) cs → Each (Within t h j) cs
  within_wider l w = each_weaker (λ c d. let a = d.after in record { after = omega arith; before = d.before; sign = d.sign }) w

  empty_within : {i j : ℕ} (k : ℕ) → Each (Within t i j) (empty_node k).comments
  unfolding empty_node
  empty_within k = no_element

  entry_empty : {i j : ℕ} (k : ℕ) → EntryNotes t i j (empty_node k)
  unfolding empty_node plain_event
  entry_empty k = record { floors = one_element (floor_kept (λ f p. refl)) no_element; notes = λ f g. no_element }

  -- the node of a collection
  entries_collected : {i j : ℕ} (s : Bool) (a b : ℕ) {x : Meaning} → EntryNotes t i j x → EntryNotes t i j (collection s false a b x)
  unfolding collection plain_event
  entries_collected s a b {x} e =
      let first : Unlined (record { event = start_of s false; span = from_to a b; tag_offset = None; entry = None; folded = [] }) = record { keeps = (start_kept s false).keeps } in
      record {
        floors = one_element (floor_kept (start_kept s false).keeps) (each_join e.floors (one_element (floor_kept (end_kept s).keeps) no_element));
        notes = λ f g. notes_as x.events _ (λ o n. sym (collection_floor o n x.events first (end_kept s))) (e.notes f g);
      }

  entry_with : {i j : ℕ} (props : PropsValue) (tag : Option ℕ) (a b : ℕ) {x : Meaning} → EntryNotes t i j x → EntryNotes t i j (with_props props tag a b x)
  unfolding with_props
  entry_with props tag a b {x} e = record {
    floors = with_floors props tag a b e.floors;
    notes = λ f g. notes_as x.events (first_with props tag a b x.events) (λ o n. sym (with_floor props tag a b o n e.floors)) (e.notes f g);
  }

  -- after comments, in a node
  node_after : {i k m j : ℕ} {cs : List CommentValue} {x : Meaning} → IsUtf8 t → i ≤ k → k ≤ m → Each (NotedComment t i k) cs → EntryNotes t m j x → NodeNotes t i j (meaning_after cs x)
  unfolding meaning_after
  node_after u l o d e = record {
    floors = floor_wider (omega arith) (omega arith) e.floors;
    notes = λ f g. each_join (notes_early u g e.floors o d) (e.notes f (λ c. let q = guard_order (g c) in omega arith));
  }

  -- a key before its value: only its entry's first character is before its comments
  key_notes : {i k : ℕ} {x : Meaning} → IsUtf8 t → Visible t i → Each (Within t i k) x.comments → FlowNotes t x → EntryNotes t i k x
  key_notes {i} u v w a = record {
    floors = unlined_floors a.events;
    notes = λ f l. notes_flow {i = i + 1} u (λ c. guarded i (ns_below (code t i) v.ns) (ns_solid (code t i) v.ns) (l c) (omega arith)) a.events a.comments
        (each_weaker (λ c d. let p = d.after in
        let away : i ≢ c.offset = λ e. v.no_hash (ap (code t) e ∙ d.sign) in
        record { after = omega arith; before = d.before; sign = d.sign }) w);
  }

  -- only the end of a line after a sign
  nothing_after : {i j : ℕ} (k : ℕ) {cs : List CommentValue} → IsUtf8 t → Each (NotedComment t i j) cs → NodeNotes t i j (noting (empty_node k) cs)
  unfolding noting empty_node plain_event
  nothing_after {i} k u d = record {
    floors = one_element (floor_kept (λ f p. refl)) no_element;
    notes = λ f g. notes_flow u g (one_element (record { keeps = λ f p. refl }) no_element) (plainly d) (each_weaker (λ c o. record { after = o.after; before = o.before; sign = o.sign }) d);
  }

  node_of_entries : {i j : ℕ} {x : Meaning} → EntryNotes t i j x → NodeNotes t i j x
  node_of_entries a = record { floors = a.floors; notes = λ f g. a.notes f (λ c. guard_order (g c)) }

  node_of_flow : {i j : ℕ} {x : Meaning} → IsUtf8 t → Each (Within t i j) x.comments → FlowNotes t x → NodeNotes t i j x
  node_of_flow u w a = record { floors = unlined_floors a.events; notes = λ f g. notes_flow u g a.events a.comments w }

module _ {t : List ℕ} (u : IsUtf8 t) where
  pub derived_notes : {h i j : ℕ} {p : Production} {x : Meaning} → Derives t h p i j x → NotesClaim t p i j x
  derived_notes (flow_node d) = derived_notes d
  derived_notes (an_alias b a) = flow_alias _ _ _
  derived_notes (a_plain p) = flow_plain _ _ _
  derived_notes (a_plain_with p s q) = flow_after (each_join (plainly (properties_told p)) (plainly (separate_told s))) (flow_with _ _ _ _ (flow_plain _ _ _))
  derived_notes (properties_alone {j = j} b p) = flow_after (plainly (properties_told p)) (flow_with _ _ _ _ (flow_empty j))
  derived_notes (a_json d) = derived_notes d
  derived_notes (a_json_with p s d) = flow_after (each_join (plainly (properties_told p)) (plainly (separate_told s))) (flow_with _ _ _ _ (derived_notes d))
  derived_notes (a_single q) = flow_single _ _ _
  derived_notes (a_double q) = flow_double _ _ _ _
  derived_notes (an_empty_collection s b o m e) = flow_collection _ _ s (record { events = no_element; comments = plainly (may_told m) })
  derived_notes (a_collection s b o m d e) = flow_collection _ _ s (flow_after (plainly (may_told m)) (derived_notes d))
  derived_notes (last_entry d m) = flow_noting (derived_notes d) (plainly (may_told m))
  derived_notes (last_entry_with_comma d m e r) = flow_noting (derived_notes d) (each_join (plainly (may_told m)) (plainly (may_told r)))
  derived_notes (more_entries d m e r g) = flow_join (flow_noting (derived_notes d) (each_join (plainly (may_told m)) (plainly (may_told r)))) (derived_notes g)
  derived_notes (a_node_entry d) = flow_entering _ _ (derived_notes d)
  derived_notes (a_pair_entry d) = flow_entering _ _ (flow_collection _ _ false (derived_notes d))
  derived_notes (an_explicit_entry e s d) = flow_after (plainly (separate_told s)) (derived_notes d)
  derived_notes (an_implicit_entry d) = derived_notes d
  derived_notes (an_explicit_pair e s d) = flow_after (plainly (separate_told s)) (derived_notes d)
  derived_notes (a_keyed_pair d e) = flow_join (flow_entering _ _ (derived_notes d)) (derived_notes e)
  derived_notes (an_unkeyed_pair {i = i} d) = flow_join (flow_entering _ _ (flow_empty i)) (derived_notes d)
  derived_notes (explicit_with d) = derived_notes d
  derived_notes (explicit_without {s = s} b) = flow_join (flow_entering _ _ (flow_empty (s + 1))) (flow_empty (s + 1))
  derived_notes (key_alone {x = x} d) = flow_join (flow_entering _ _ (derived_notes d)) (flow_empty x.finish)
  derived_notes (key_and_value d m e) = flow_join (flow_noting (flow_entering _ _ (derived_notes d)) (plainly (may_told m))) (derived_notes e)
  derived_notes (value_alone {i = i} d) = flow_join (flow_entering _ _ (flow_empty i)) (derived_notes d)
  derived_notes (empty_value {i = i} b e m) = flow_empty (i + 1)
  derived_notes (a_value {i = i} {k = k} {json = json} {n = n} {c = c} cs e m s d) = flow_after (plainly (value_told n c (i + 1) k cs json s)) (derived_notes d)
  derived_notes (a_key d s m) = derived_notes d
  -- block nodes
  derived_notes (a_block_scalar b s d) = node_after u (separate_forward s) (omega arith) (separate_told s) (scalar_notes u d)
  derived_notes (a_block_scalar_with {k = k} b s p q d) =
      let f = separate_forward s in
      let g = properties_forward p in
      let h = separate_forward q in
      node_after {k = k} u (omega arith) (omega arith)
      (each_join (each_join (told_wider (omega arith) (omega arith) (separate_told s)) (told_wider (omega arith) (omega arith) (properties_told p))) (told_wider (omega arith) (omega arith) (separate_told q)))
      (entry_with _ _ _ _ (scalar_notes u d))
  derived_notes (a_block_collection {sequence = sequence} b e s l d) = node_after u (line_end_forward e) (omega arith) (line_told e) (entries_collected sequence _ _ (derived_notes d))
  derived_notes (a_block_collection_with {k = k} {sequence = sequence} b s p e q l d) =
      let f = separate_forward s in
      let g = properties_forward p in
      let h = line_end_forward e in
      node_after {k = k} u (omega arith) (omega arith)
      (each_join (each_join (told_wider (omega arith) (omega arith) (separate_told s)) (told_wider (omega arith) (omega arith) (properties_told p))) (told_wider (omega arith) (omega arith) (line_told e)))
      (entry_with _ _ _ _ (entries_collected sequence _ _ (derived_notes d)))
  derived_notes (flow_in_block {n = n} b s d e) =
      node_of_flow u (within_of (derived_ascends (flow_in_block {n = n} b s d e))) (flow_after (plainly (separate_told s)) (flow_noting (derived_notes d) (plainly (line_told e))))
  derived_notes (a_last_entry d) = derived_notes d
  derived_notes (an_entry_before d s e) = entries_join (derived_order d) (omega arith) (derived_order e) (within_of (derived_ascends d)) (derived_notes d) (derived_notes e)
  derived_notes (a_dash_entry e n d) = entry_entering _ _ (node_next (λ f l. after_dash f e l) (derived_notes d))
  derived_notes (an_explicit_entry_with {m = m} {i = i} {k = k} e w d c r) =
      let o = derived_order d in
      let p = derived_order r in
      entered_join {k = k} {m = k + m} i (Some (k + m)) (omega arith) (omega arith) (omega arith) (within_wider (omega arith) (within_of (derived_ascends d)))
      (node_next (λ f l. after_question f e l) (derived_notes d)) (node_next (λ f l. after_colon f c.colon l) (derived_notes r))
  derived_notes (an_explicit_key_alone {i = i} {j = j} {x = x} e w d c) =
      let o = derived_order d in
      entered_join {k = j} {m = j} i None (omega arith) (omega arith) (omega arith) (within_wider (omega arith) (within_of (derived_ascends d)))
      (node_next (λ f l. after_question f e l) (derived_notes d)) (entry_empty x.finish)
  derived_notes (a_keyed_entry {i = i} {k = k} d e) =
      let v = block_starts (a_keyed_entry d e) in
      let w = within_of (derived_ascends d) in
      entered_join {k = k} {m = k} i (Some k) (derived_order d) (omega arith) (derived_order e) w (key_notes u v.visible w (derived_notes d)) (derived_notes e)
  derived_notes (an_unkeyed_entry {i = i} d) =
      entered_join {k = i} {m = i} i (Some i) (omega arith) (omega arith) (derived_order d) (empty_within i) (entry_empty i) (derived_notes d)
  derived_notes (a_block_value e d) = node_next (λ f l. after_colon f e l) (derived_notes d)
  derived_notes (an_empty_block_value {i = i} e d) = node_next (λ f l. after_colon f e l) (nothing_after (i + 1) u (line_told d))
  derived_notes (a_compact_collection {sequence = sequence} b s d) = node_of_entries (entry_wider (omega arith) (omega arith) (entries_collected sequence _ _ (derived_notes d)))
  derived_notes (an_indented_node d) = derived_notes d
  derived_notes (nothing_indented {i = i} b d) = nothing_after i u (line_told d)

  -- the comments of a block node, each with its note over the floor that is set before it
  pub node_notes : {h i j : ℕ} {n : ℤ} {c : Ctx} {x : Meaning} → Derives t h (BlockNode n c) i j x → (f : ℕ) → Guard t f i
      → Each (λ v. NotedSince t (floor_at v.offset f x.events) v.offset v.blank_before) x.comments
  node_notes d f g = each_weaker (λ v o. o.note) ((derived_notes d).notes (λ v. f) (λ v. g))

  -- the comments of a line's end, and of a separation, over a floor before it
  pub line_notes : {i j : ℕ} {cs : List CommentValue} → LineEnd t i j cs → (f : ℕ) → Guard t f i → Each (λ v. NotedSince t f v.offset v.blank_before) cs
  line_notes d f g = each_weaker (λ v o. told_since v u g o) (line_told d)

  pub rows_notes : {i j : ℕ} {cs : List CommentValue} → Chain (Row t) i j cs → (f : ℕ) → Guard t f i → Each (λ v. NotedSince t f v.offset v.blank_before) cs
  rows_notes d f g = each_weaker (λ v o. told_since v u g o) (rows_told d)
