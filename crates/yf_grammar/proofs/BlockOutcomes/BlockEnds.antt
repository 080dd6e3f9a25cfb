-- Each block production takes a line's end last, so it ends at the start of a line or at the end of the text.
use Rattle.std.proofs.Common.{◌≡◌, ℕ, ℤ, ◌⊎◌, inl, inr, List, length, Bool}
use Rattle.yf_chars.specs.Chain.{Chain}
use Rattle.yf_chars.specs.Chain.Chain.{done, step}
use Rattle.yf_lines.specs.Basic.{LineStart}
use Rattle.yf_lines.specs.Basic.LineStart.{after_break}
use Rattle.yf_comments.specs.Comment.{CommentValue}
use Rattle.yf_comments.proofs.LineEndLemmas.{rest_next}
use Rattle.yf_block_scalar.specs.Header.{BlockHeader, HeaderValue}
use Rattle.yf_block_scalar.specs.Header.BlockHeader.{block_header}
use Rattle.yf_block_scalar.specs.declared.header.Header.{Header}
use Rattle.yf_block_scalar.specs.Body.{EmptyLines, Ends, LineContent, Lines, LinesTaken, Trail, Body, BodyValue}
use Rattle.yf_block_scalar.specs.Body.EmptyLines.{bare}
use Rattle.yf_block_scalar.specs.Body.Ends.{by_break, by_text}
use Rattle.yf_block_scalar.specs.Body.LineContent.{content}
use Rattle.yf_block_scalar.specs.Body.Lines.{no_content, up_to}
use Rattle.yf_block_scalar.specs.Body.Trail.{comments, no_comment}
use Rattle.yf_block_scalar.specs.Body.Body.{indicated, detected, without_content}
use Rattle.yf_grammar.specs.Productions.BlockScalar.{BlockScalar}
use Rattle.yf_grammar.specs.Productions.BlockScalar.BlockScalar.{block_scalar}
use Rattle.yf_grammar.specs.Productions.Meaning.{Meaning}
use Rattle.yf_grammar.specs.Productions.Grammar.{Production, FlowNode, NodeOf, JsonContent, Entries, Entry, Pair, Explicit, Implicit, ValueOf, KeyOf, BlockNode, BlockEntries, BlockEntry, BlockIndented, BlockValue, Derives}
use Rattle.yf_grammar.specs.Productions.Grammar.Derives.{flow_node, an_alias, a_plain, a_plain_with, properties_alone, a_json, a_json_with, a_single, a_double, an_empty_collection, a_collection, last_entry, last_entry_with_comma, more_entries, a_node_entry, a_pair_entry, an_explicit_entry, an_implicit_entry, an_explicit_pair, a_keyed_pair, an_unkeyed_pair, explicit_with, explicit_without, key_alone, key_and_value, value_alone, empty_value, a_value, a_key, a_block_scalar, a_block_scalar_with, a_block_collection, a_block_collection_with, flow_in_block, a_last_entry, an_entry_before, a_dash_entry, an_explicit_entry_with, an_explicit_key_alone, a_keyed_entry, an_unkeyed_entry, a_block_value, an_empty_block_value, a_compact_collection, an_indented_node, nothing_indented}
use Rattle.yf_grammar.proofs.Ends.GapLemmas.{end_next}

-- a line begins there, or nothing is left
abbrev pub LineOrEnd : List ℕ → ℕ → Type 0
LineOrEnd t j = LineStart t j ⊎ (j ≡ length t)

module _ {t : List ℕ} where
  ends_next : {h j : ℕ} {o : Bool} → Ends t h j o → LineOrEnd t j
  ends_next (by_break b) = inl (after_break b)
  ends_next (by_text e) = inr e

  content_next : {k i j : ℕ} {x : List ℕ} {o : Bool} → LineContent t k i j x o → LineOrEnd t j
  content_next (content s m n q c) = ends_next q

  lines_next : {k i j : ℕ} {ls : List (List ℕ)} {o : Bool} → LineOrEnd t i → Lines t k i j ls o → LineOrEnd t j
  lines_next s no_content = s
  lines_next s (up_to c d) = content_next d

  bare_next : {i j : ℕ} {x : List ℕ} → EmptyLines t i j x → LineOrEnd t j
  bare_next (bare m a) = inl (after_break a.ends)

  bares_next : {i j : ℕ} {x : List ℕ} → LineOrEnd t i → Chain (EmptyLines t) i j x → LineOrEnd t j
  bares_next s done = s
  bares_next s (step b c) = bares_next (bare_next b) c

  taken_next : {k i p count : ℕ} {ls : List (List ℕ)} {o : Bool} → LineOrEnd t i → LinesTaken t k i ls o count p → LineOrEnd t p
  taken_next s d = bares_next (lines_next s d.lines) d.tail.lines

  trail_next : {k i j : ℕ} {x : List CommentValue} → LineOrEnd t i → Trail t k i j x → LineOrEnd t j
  trail_next s (comments m l a e c) = end_next c.derived
  trail_next s (no_comment n) = s

  body_next : {n : ℤ} {h : Header} {i j : ℕ} {v : BodyValue} → LineOrEnd t i → Body t n h i j v → LineOrEnd t j
  body_next s (indicated e a b) = trail_next (taken_next s a) b
  body_next s (detected e d a b) = trail_next (taken_next s a) b
  body_next s (without_content e c d b) = trail_next (bares_next s c) b

  header_next : {i j : ℕ} {h : HeaderValue} → BlockHeader t i j h → LineOrEnd t j
  header_next (block_header s m r) = rest_next r

  pub scalar_ends : {n : ℤ} {i j : ℕ} {x : Meaning} → BlockScalar t n i j x → LineOrEnd t j
  scalar_ends (block_scalar h b l) = body_next (header_next h) b

abbrev pub EndsClaim : List ℕ → Production → ℕ → Type 0
EndsClaim t (FlowNode n c) j = Unit {0}
EndsClaim t (NodeOf json n c) j = Unit {0}
EndsClaim t (JsonContent n c) j = Unit {0}
EndsClaim t (Entries s n c) j = Unit {0}
EndsClaim t (Entry s n c) j = Unit {0}
EndsClaim t (Pair n c) j = Unit {0}
EndsClaim t (Explicit n c s) j = Unit {0}
EndsClaim t (Implicit n c s) j = Unit {0}
EndsClaim t (ValueOf json n c) j = Unit {0}
EndsClaim t (KeyOf json c) j = Unit {0}
EndsClaim t (BlockNode n c) j = LineOrEnd t j
EndsClaim t (BlockEntries s m) j = LineOrEnd t j
EndsClaim t (BlockEntry s m) j = LineOrEnd t j
EndsClaim t (BlockIndented m c) j = LineOrEnd t j
EndsClaim t (BlockValue m) j = LineOrEnd t j

pub block_ends : {t : List ℕ} {h i j : ℕ} {p : Production} {x : Meaning} → Derives t h p i j x → EndsClaim t p j
block_ends (flow_node _) = tt
block_ends (an_alias _ _) = tt
block_ends (a_plain _) = tt
block_ends (a_plain_with _ _ _) = tt
block_ends (properties_alone _ _) = tt
block_ends (a_json _) = tt
block_ends (a_json_with _ _ _) = tt
block_ends (a_single _) = tt
block_ends (a_double _) = tt
block_ends (an_empty_collection _ _ _ _ _) = tt
block_ends (a_collection _ _ _ _ _ _) = tt
block_ends (last_entry _ _) = tt
block_ends (last_entry_with_comma _ _ _ _) = tt
block_ends (more_entries _ _ _ _ _) = tt
block_ends (a_node_entry _) = tt
block_ends (a_pair_entry _) = tt
block_ends (an_explicit_entry _ _ _) = tt
block_ends (an_implicit_entry _) = tt
block_ends (an_explicit_pair _ _ _) = tt
block_ends (a_keyed_pair _ _) = tt
block_ends (an_unkeyed_pair _) = tt
block_ends (explicit_with _) = tt
block_ends (explicit_without _) = tt
block_ends (key_alone _) = tt
block_ends (key_and_value _ _ _) = tt
block_ends (value_alone _) = tt
block_ends (empty_value _ _ _) = tt
block_ends (a_value _ _ _ _ _) = tt
block_ends (a_key _ _ _) = tt
block_ends (a_block_scalar b s d) = scalar_ends d
block_ends (a_block_scalar_with b s p q d) = scalar_ends d
block_ends (a_block_collection b e s l d) = block_ends d
block_ends (a_block_collection_with b s p e q l d) = block_ends d
block_ends (flow_in_block b s d e) = end_next e
block_ends (a_last_entry d) = block_ends d
block_ends (an_entry_before d s e) = block_ends e
block_ends (a_dash_entry a b d) = block_ends d
block_ends (an_explicit_entry_with a b d g e) = block_ends e
block_ends (an_explicit_key_alone a b d g) = block_ends d
block_ends (a_keyed_entry d e) = block_ends e
block_ends (an_unkeyed_entry d) = block_ends d
block_ends (a_block_value e d) = block_ends d
block_ends (an_empty_block_value e g) = end_next g
block_ends (a_compact_collection b s d) = block_ends d
block_ends (an_indented_node d) = block_ends d
block_ends (nothing_indented b g) = end_next g
