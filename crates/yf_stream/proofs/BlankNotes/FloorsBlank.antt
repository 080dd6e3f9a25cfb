-- The floor that a block node's last block scalar sets is the start of a line, or the end of the text.
use Rattle.std.proofs.Common.{◌≡◌, ℕ, ℤ, ◌+◌, ◌<◌, Bool, false, List, length, Option, Some, refl, sym, ap, ◌∙◌, subst, arith}
use Rattle.std.specs.Str.{IsUtf8}
use Rattle.yf_chars.specs.declared.context.Ctx.{Ctx}
use Rattle.yf_chars.specs.Chain.{Chain}
use Rattle.yf_chars.specs.Chain.Chain.{done, step}
use Rattle.yf_lines.specs.Lines.{LineEnd as LineStop, OneLine}
use Rattle.yf_lines.specs.Lines.LineEnd.{at_break as stop_at_break, at_end as stop_at_end}
use Rattle.yf_lines.specs.declared.line.Line.{Line}
use Rattle.yf_lines.proofs.LineLemmas.{line_made}
use Rattle.yf_comments.specs.Comment.{CommentValue}
use Rattle.yf_comments.specs.Comments.{Blank}
use Rattle.yf_comments.specs.Comments.Blank.{break_ends}
use Rattle.yf_block_scalar.specs.Header.{BlockHeader, HeaderValue}
use Rattle.yf_block_scalar.specs.Header.BlockHeader.{block_header}
use Rattle.yf_props.specs.Props.{PropsValue}
use Rattle.yf_events.specs.Event.{EventInText}
use Rattle.yf_events.specs.declared.event.Span.{Span}
use Rattle.yf_grammar.specs.Productions.BlockScalar.{BlockScalar, LinesBetween}
use Rattle.yf_grammar.specs.Productions.BlockScalar.BlockScalar.{block_scalar}
use Rattle.yf_grammar.specs.Productions.BlockScalar.LinesBetween.{counted}
use Rattle.yf_grammar.specs.Productions.Grammar.{Production, FlowNode, NodeOf, JsonContent, Entries, Entry, Pair, Explicit, Implicit, ValueOf, KeyOf, BlockNode, BlockEntries, BlockEntry, BlockIndented, BlockValue, Derives}
use Rattle.yf_grammar.specs.Productions.Grammar.Derives.{flow_node, an_alias, a_plain, a_plain_with, properties_alone, a_json, a_json_with, a_single, a_double, an_empty_collection, a_collection, last_entry, last_entry_with_comma, more_entries, a_node_entry, a_pair_entry, an_explicit_entry, an_implicit_entry, an_explicit_pair, a_keyed_pair, an_unkeyed_pair, explicit_with, explicit_without, key_alone, key_and_value, value_alone, empty_value, a_value, a_key, a_block_scalar, a_block_scalar_with, a_block_collection, a_block_collection_with, flow_in_block, a_last_entry, an_entry_before, a_dash_entry, an_explicit_entry_with, an_explicit_key_alone, a_keyed_entry, an_unkeyed_entry, a_block_value, an_empty_block_value, a_compact_collection, an_indented_node, nothing_indented}
use Rattle.yf_grammar.specs.Productions.Meaning.{Meaning, ◌⊕◌, meaning_after, noting, empty_node, collection, with_props, entering, plain_event, from_to, first_with, first_entering}
use Rattle.yf_grammar.specs.Productions.ReadParts.{floor_after_event, end_or}
use Rattle.yf_grammar.proofs.Prefixes.PrefixEnds.{Closed, at_break, at_text}
use Rattle.yf_block.specs.BlockTied.{floor_after as floor_of}
use Rattle.yf_stream.proofs.BlankNotes.CommentNotes.{Each, no_element, one_element, each_join, each_weaker}
use Rattle.yf_stream.proofs.BlankNotes.FloorWalk.{kept_event, span_with}
use Rattle.yf_stream.proofs.BlankNotes.NodeNotes.{FlowNotes, start_kept, end_kept}
use Rattle.yf_stream.proofs.BlankNotes.BlockNotes.{lined, rest_next}
use Rattle.yf_stream.proofs.BlankNotes.DerivedNotes.{derived_notes}

-- an event that sets no floor, or one at the start of a line or the end of the text
pub data BlankEnd (t : List ℕ) (e : EventInText) : Type 0 where
  blank_kept : ((f : ℕ) (p : EventInText) → floor_after_event f p e.event ≡ f) → BlankEnd t e
  blank_set : (s : Span) → e.span ≡ Some s → ((f : ℕ) (p : EventInText) → floor_after_event f p e.event ≡ end_or f p.span) → (s.end < length t → Blank t s.end) → BlankEnd t e

pub record BlankEnds (t : List ℕ) (x : Meaning) : Type 0 where
  pub events : Each (BlankEnd t) x.events

abbrev pub BlankClaim : List ℕ → Production → Meaning → Type 0
BlankClaim t (FlowNode n c) x = Unit {0}
BlankClaim t (NodeOf json n c) x = Unit {0}
BlankClaim t (JsonContent n c) x = Unit {0}
BlankClaim t (Entries s n c) x = Unit {0}
BlankClaim t (Entry s n c) x = Unit {0}
BlankClaim t (Pair n c) x = Unit {0}
BlankClaim t (Explicit n c s) x = Unit {0}
BlankClaim t (Implicit n c s) x = Unit {0}
BlankClaim t (ValueOf json n c) x = Unit {0}
BlankClaim t (KeyOf json c) x = Unit {0}
BlankClaim t (BlockNode n c) x = BlankEnds t x
BlankClaim t (BlockEntries s m) x = BlankEnds t x
BlankClaim t (BlockEntry s m) x = BlankEnds t x
BlankClaim t (BlockIndented m c) x = BlankEnds t x
BlankClaim t (BlockValue m) x = BlankEnds t x

module _ {t : List ℕ} where
  stop_closed : {h j : ℕ} → LineStop t h j → Closed t j
  stop_closed (stop_at_break b) = at_break b
  stop_closed (stop_at_end e) = at_text e

  line_closed : {i j : ℕ} {ls : List Line} → OneLine t i j ls → Closed t j
  line_closed o = let m = line_made o in subst (λ k. Closed t k) m.next (stop_closed m.made.ends)

  lines_closed : {i j : ℕ} {ls : List Line} → Closed t i → Chain (OneLine t) i j ls → Closed t j
  lines_closed l done = l
  lines_closed l (step s c) = lines_closed (line_closed s) c

  between_closed : {c i j : ℕ} → Closed t i → LinesBetween t c i j → Closed t j
  between_closed l (counted c e) = lines_closed l c

  header_closed : {i j : ℕ} {h : HeaderValue} → BlockHeader t i j h → Closed t j
  header_closed (block_header s m r) = rest_next r

  closed_blank : {j : ℕ} → Closed t j → j < length t → Blank t j
  closed_blank (at_break b) l = break_ends b
  closed_blank (at_text e) l = absurd (omega arith)

  scalar_blank : {n : ℤ} {i j : ℕ} {x : Meaning} → BlockScalar t n i j x → BlankEnds t x
  unfolding from_to
  scalar_blank {i = i} (block_scalar {e = e} {h = h} d b l) =
      record { events = one_element (blank_set (record { start = i; end = e }) refl (lined h.header.folded _) (closed_blank (between_closed (header_closed d) l))) no_element }

  flow_blank : {x : Meaning} → FlowNotes t x → BlankEnds t x
  flow_blank a = record { events = each_weaker (λ x k. blank_kept k.keeps) a.events }

  after_blank : (cs : List CommentValue) {x : Meaning} → BlankEnds t x → BlankEnds t (meaning_after cs x)
  unfolding meaning_after
  after_blank cs a = record { events = a.events }

  noting_blank : (cs : List CommentValue) {x : Meaning} → BlankEnds t x → BlankEnds t (noting x cs)
  unfolding noting
  noting_blank cs a = record { events = a.events }

  with_blank : (props : PropsValue) (tag : Option ℕ) (a b : ℕ) {x : Meaning} → BlankEnds t x → BlankEnds t (with_props props tag a b x)
  unfolding with_props
  with_blank props tag a b n = record { events = go n.events } where
    go : {es : List EventInText} → Each (BlankEnd t) es → Each (BlankEnd t) (first_with props tag a b es)
    go no_element = no_element
    go (one_element {x = e} (blank_kept k) r) = one_element (blank_kept (λ f p. kept_event props f p e.event ∙ k f p)) r
    go (one_element {x = e} (blank_set s q k l) r) = one_element (blank_set (record { start = a; end = s.end }) (span_with a b q) (λ f p. kept_event props f p e.event ∙ k f p) l) r

  entering_blank : (i : ℕ) (colon : Option ℕ) {x : Meaning} → BlankEnds t x → BlankEnds t (entering i colon x)
  unfolding entering
  entering_blank i colon n = record { events = go n.events } where
    go : {es : List EventInText} → Each (BlankEnd t) es → Each (BlankEnd t) (first_entering (record { start = i; colon = colon; blank_before = false }) es)
    go no_element = no_element
    go (one_element (blank_kept k) r) = one_element (blank_kept k) r
    go (one_element (blank_set s q k l) r) = one_element (blank_set s q k l) r

  collection_blank : (s : Bool) (i j : ℕ) {x : Meaning} → BlankEnds t x → BlankEnds t (collection s false i j x)
  unfolding collection plain_event
  collection_blank s i j n = record { events = one_element (blank_kept (start_kept s false).keeps) (each_join n.events (one_element (blank_kept (end_kept s).keeps) no_element)) }

  join_blank : {x y : Meaning} → BlankEnds t x → BlankEnds t y → BlankEnds t (x ⊕ y)
  unfolding ◌⊕◌
  join_blank a b = record { events = each_join a.events b.events }

  empty_blank : (i : ℕ) → BlankEnds t (empty_node i)
  unfolding empty_node plain_event
  empty_blank i = record { events = one_element (blank_kept (λ f p. refl)) no_element }

module _ {t : List ℕ} (u : IsUtf8 t) where
  ends_blank : {h i j : ℕ} {p : Production} {x : Meaning} → Derives t h p i j x → BlankClaim t p x
  ends_blank (flow_node _) = tt
  ends_blank (an_alias _ _) = tt
  ends_blank (a_plain _) = tt
  ends_blank (a_plain_with _ _ _) = tt
  ends_blank (properties_alone _ _) = tt
  ends_blank (a_json _) = tt
  ends_blank (a_json_with _ _ _) = tt
  ends_blank (a_single _) = tt
  ends_blank (a_double _) = tt
  ends_blank (an_empty_collection _ _ _ _ _) = tt
  ends_blank (a_collection _ _ _ _ _ _) = tt
  ends_blank (last_entry _ _) = tt
  ends_blank (last_entry_with_comma _ _ _ _) = tt
  ends_blank (more_entries _ _ _ _ _) = tt
  ends_blank (a_node_entry _) = tt
  ends_blank (a_pair_entry _) = tt
  ends_blank (an_explicit_entry _ _ _) = tt
  ends_blank (an_implicit_entry _) = tt
  ends_blank (an_explicit_pair _ _ _) = tt
  ends_blank (a_keyed_pair _ _) = tt
  ends_blank (an_unkeyed_pair _) = tt
  ends_blank (explicit_with _) = tt
  ends_blank (explicit_without _) = tt
  ends_blank (key_alone _) = tt
  ends_blank (key_and_value _ _ _) = tt
  ends_blank (value_alone _) = tt
  ends_blank (empty_value _ _ _) = tt
  ends_blank (a_value _ _ _ _ _) = tt
  ends_blank (a_key _ _ _) = tt
  ends_blank (a_block_scalar b s d) = after_blank _ (scalar_blank d)
  ends_blank (a_block_scalar_with b s p q d) = after_blank _ (with_blank _ _ _ _ (scalar_blank d))
  ends_blank (a_block_collection {sequence = sequence} b e s l d) = after_blank _ (collection_blank sequence _ _ (ends_blank d))
  ends_blank (a_block_collection_with {sequence = sequence} b s p e q l d) = after_blank _ (with_blank _ _ _ _ (collection_blank sequence _ _ (ends_blank d)))
  ends_blank (flow_in_block b s d e) = after_blank _ (noting_blank _ (flow_blank (derived_notes u d)))
  ends_blank (a_last_entry d) = ends_blank d
  ends_blank (an_entry_before d s e) = join_blank (ends_blank d) (ends_blank e)
  ends_blank (a_dash_entry e n d) = entering_blank _ _ (ends_blank d)
  ends_blank (an_explicit_entry_with e w d c r) = join_blank (entering_blank _ _ (ends_blank d)) (ends_blank r)
  ends_blank (an_explicit_key_alone {x = x} e w d c) = join_blank (entering_blank _ _ (ends_blank d)) (empty_blank x.finish)
  ends_blank (a_keyed_entry d e) = join_blank (entering_blank _ _ (flow_blank (derived_notes u d))) (ends_blank e)
  ends_blank (an_unkeyed_entry {i = i} d) = join_blank (entering_blank _ _ (empty_blank i)) (ends_blank d)
  ends_blank (a_block_value e d) = ends_blank d
  ends_blank (an_empty_block_value {i = i} e d) = noting_blank _ (empty_blank (i + 1))
  ends_blank (a_compact_collection {sequence = sequence} b s d) = collection_blank sequence _ _ (ends_blank d)
  ends_blank (an_indented_node d) = ends_blank d
  ends_blank (nothing_indented {i = i} b d) = noting_blank _ (empty_blank i)

  floor_blank : {es : List EventInText} (f : ℕ) → Each (BlankEnd t) es → (f < length t → Blank t f) → floor_of f es < length t → Blank t (floor_of f es)
  floor_blank f no_element b l = b l
  floor_blank f (one_element {x = e} (blank_kept k) r) b l =
      floor_blank (floor_after_event f e e.event) r (λ m. subst (λ z. Blank t z) (sym (k f e)) (b (subst (λ (z : ℕ). z < length t) (k f e) m))) l
  floor_blank f (one_element {x = e} (blank_set s q k c) r) b l =
      let z : floor_after_event f e e.event ≡ s.end = k f e ∙ ap (λ z. end_or f z) q in
      floor_blank (floor_after_event f e e.event) r (λ m. subst (λ w. Blank t w) (sym z) (c (subst (λ (w : ℕ). w < length t) z m))) l

  pub floors_blank : {h i j : ℕ} {n : ℤ} {c : Ctx} {x : Meaning} → Derives t h (BlockNode n c) i j x → (f : ℕ) → (f < length t → Blank t f)
      → floor_of f x.events < length t → Blank t (floor_of f x.events)
  floors_blank d f b l = floor_blank f (ends_blank d).events b l
