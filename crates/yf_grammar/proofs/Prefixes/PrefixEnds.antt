-- A block node ends with a break, or at the end of the text.
use Rattle.std.proofs.Common.{◌≡◌, ℕ, ◌+◌, ◌<◌, ℤ, Bool, true, List, length, arith}
use Rattle.std.specs.Str.{IsUtf8}
use Rattle.yf_chars.specs.Text.{code}
use Rattle.yf_chars.specs.Class.{is_ns_char}
use Rattle.yf_chars.specs.Chain.{Chain}
use Rattle.yf_chars.specs.Chain.Chain.{done, step}
use Rattle.yf_lines.specs.Basic.{Break, LineStart}
use Rattle.yf_comments.specs.Comment.{CommentValue}
use Rattle.yf_comments.specs.Comments.{BreakOrEnd, by_break, by_end, LineRest, nothing, whites, comment, CommentLine, whites_line, comment_line, LineEnd, past_rest, from_start}
use Rattle.yf_block_scalar.specs.declared.header.Header.{Header}
use Rattle.yf_block_scalar.specs.Header.{BlockHeader, HeaderValue, block_header}
use Rattle.yf_block_scalar.specs.Body.{EmptyLines, bare, Ends, LineContent, content, Lines, no_content, up_to, LinesTaken, Trail, comments, no_comment, Body, BodyValue, indicated, detected, without_content}
use Rattle.yf_block_scalar.specs.Body as Body
use Rattle.yf_grammar.specs.Productions.BlockScalar.{BlockScalar, block_scalar}
use Rattle.yf_grammar.specs.Productions.Meaning.{Meaning}
use Rattle.yf_grammar.specs.Productions.Grammar.{Production, FlowNode, NodeOf, JsonContent, Entries, Entry, Pair, Explicit, Implicit, ValueOf, KeyOf, BlockNode, BlockEntries, BlockEntry, BlockIndented, BlockValue, Derives}
use Rattle.yf_grammar.specs.Productions.Grammar.Derives.{flow_node, an_alias, a_plain, a_plain_with, properties_alone, a_json, a_json_with, a_single, a_double, an_empty_collection, a_collection, last_entry, last_entry_with_comma, more_entries, a_node_entry, a_pair_entry, an_explicit_entry, an_implicit_entry, an_explicit_pair, a_keyed_pair, an_unkeyed_pair, explicit_with, explicit_without, key_alone, key_and_value, value_alone, empty_value, a_value, a_key, a_block_scalar, a_block_scalar_with, a_block_collection, a_block_collection_with, flow_in_block, a_last_entry, an_entry_before, a_dash_entry, an_explicit_entry_with, an_explicit_key_alone, a_keyed_entry, an_unkeyed_entry, a_block_value, an_empty_block_value, a_compact_collection, an_indented_node, nothing_indented}
use Rattle.yf_grammar.proofs.Ends.BlankRuns.{ContentBefore, after_byte, no_start_past}
use Rattle.yf_grammar.proofs.BlockOutcomes.BlockClaims.{dash_ns}
use Rattle.yf_grammar.proofs.FlowReader.FlowStarts.{sign_facts}
use Rattle.yf_grammar.proofs.BlockOutcomes.NodesAfter.{node_next}
use Rattle.yf_chars.proofs.CharFacts.{colon_ns}

-- a break ends there, or the text does
pub data Closed (t : List ℕ) (j : ℕ) : Type 0 where
  at_break : {i : ℕ} → Break t i j → Closed t j
  at_text : j ≡ length t → Closed t j

module _ {t : List ℕ} where
  end_closed : {i j : ℕ} → BreakOrEnd t i j → Closed t j
  end_closed (by_break b) = at_break b
  end_closed (by_end e) = at_text e

  rest_closed : {i j : ℕ} {x : List CommentValue} → LineRest t i j x → Closed t j
  rest_closed (nothing e) = end_closed e
  rest_closed (whites d e) = end_closed e
  rest_closed (comment d c e) = end_closed e

  lines_closed : {i j : ℕ} {x : List CommentValue} → Closed t i → Chain (CommentLine t) i j x → Closed t j
  lines_closed c done = c
  lines_closed c (step (whites_line d e) m) = lines_closed (end_closed e) m
  lines_closed c (step (comment_line d q e) m) = lines_closed (end_closed e) m

  line_end_closed : {i j : ℕ} {x : List CommentValue} → (LineStart t i → Closed t i) → LineEnd t i j x → Closed t j
  line_end_closed c (past_rest r m) = lines_closed (rest_closed r) m
  line_end_closed c (from_start d m) = lines_closed (c d) m

  content_closed : {k i j : ℕ} {x : List ℕ} {o : Bool} → LineContent t k i j x o → Closed t j
  content_closed (content s m n (Body.by_break b) q) = at_break b
  content_closed (content s m n (Body.by_text e) q) = at_text e

  scalar_lines_closed : {k i j : ℕ} {ls : List (List ℕ)} {o : Bool} → Closed t i → Lines t k i j ls o → Closed t j
  scalar_lines_closed c no_content = c
  scalar_lines_closed c (up_to m d) = content_closed d

  bares_closed : {i j : ℕ} {x : List ℕ} → Closed t i → Chain (EmptyLines t) i j x → Closed t j
  bares_closed c done = c
  bares_closed c (step (bare m d) q) = bares_closed (at_break d.ends) q

  taken_closed : {k i p count : ℕ} {ls : List (List ℕ)} {o : Bool} → Closed t i → LinesTaken t k i ls o count p → Closed t p
  taken_closed c d = bares_closed (scalar_lines_closed c d.lines) d.tail.lines

  trail_closed : {k i j : ℕ} {x : List CommentValue} → Closed t i → Trail t k i j x → Closed t j
  trail_closed c (comments m l d e q) = line_end_closed (λ _. c) q.derived
  trail_closed c (no_comment n) = c

  body_closed : {n : ℤ} {h : Header} {i j : ℕ} {v : BodyValue} → Closed t i → Body t n h i j v → Closed t j
  body_closed c (indicated e a b) = trail_closed (taken_closed c a) b
  body_closed c (detected e d a b) = trail_closed (taken_closed c a) b
  body_closed c (without_content e m d b) = trail_closed (bares_closed c m) b

  header_closed : {i j : ℕ} {h : HeaderValue} → BlockHeader t i j h → Closed t j
  header_closed (block_header s m r) = rest_closed r

  scalar_closed : {n : ℤ} {i j : ℕ} {x : Meaning} → BlockScalar t n i j x → Closed t j
  scalar_closed (block_scalar h b l) = body_closed (header_closed h) b

abbrev pub ClosedClaim : List ℕ → Production → ℕ → ℕ → Type 0
ClosedClaim t (FlowNode n c) i j = ContentBefore t j
ClosedClaim t (NodeOf json n c) i j = Unit {0}
ClosedClaim t (JsonContent n c) i j = Unit {0}
ClosedClaim t (Entries s n c) i j = Unit {0}
ClosedClaim t (Entry s n c) i j = Unit {0}
ClosedClaim t (Pair n c) i j = Unit {0}
ClosedClaim t (Explicit n c s) i j = Unit {0}
ClosedClaim t (Implicit n c s) i j = Unit {0}
ClosedClaim t (ValueOf json n c) i j = Unit {0}
ClosedClaim t (KeyOf json c) i j = Unit {0}
ClosedClaim t (BlockNode n c) i j = Closed t j
ClosedClaim t (BlockEntries s m) i j = Closed t j
ClosedClaim t (BlockEntry s m) i j = Closed t j
ClosedClaim t (BlockIndented m c) i j = (LineStart t i → ⊥) → Closed t j
ClosedClaim t (BlockValue m) i j = Closed t j

module _ {t : List ℕ} (u : IsUtf8 t) where
  -- no line begins after a sign
  after_sign : {c : ℕ} (i : ℕ) → code t i ≡ c → c < 128 → is_ns_char c ≡ true → LineStart t (i + 1) → ⊥
  after_sign i e l n s = no_start_past u (after_byte i u e l n) s

  after_end : {i j : ℕ} {x : List CommentValue} → (LineStart t i → ⊥) → LineEnd t i j x → Closed t j
  after_end n e = line_end_closed (λ s. absurd (n s)) e

  pub derived_closed : {h i j : ℕ} {p : Production} {x : Meaning} → Derives t h p i j x → ClosedClaim t p i j
  derived_closed (flow_node d) = node_next u d
  derived_closed (an_alias _ _) = tt
  derived_closed (a_plain _) = tt
  derived_closed (a_plain_with _ _ _) = tt
  derived_closed (properties_alone _ _) = tt
  derived_closed (a_json _) = tt
  derived_closed (a_json_with _ _ _) = tt
  derived_closed (a_single _) = tt
  derived_closed (a_double _) = tt
  derived_closed (an_empty_collection _ _ _ _ _) = tt
  derived_closed (a_collection _ _ _ _ _ _) = tt
  derived_closed (last_entry _ _) = tt
  derived_closed (last_entry_with_comma _ _ _ _) = tt
  derived_closed (more_entries _ _ _ _ _) = tt
  derived_closed (a_node_entry _) = tt
  derived_closed (a_pair_entry _) = tt
  derived_closed (an_explicit_entry _ _ _) = tt
  derived_closed (an_implicit_entry _) = tt
  derived_closed (an_explicit_pair _ _ _) = tt
  derived_closed (a_keyed_pair _ _) = tt
  derived_closed (an_unkeyed_pair _) = tt
  derived_closed (explicit_with _) = tt
  derived_closed (explicit_without _) = tt
  derived_closed (key_alone _) = tt
  derived_closed (key_and_value _ _ _) = tt
  derived_closed (value_alone _) = tt
  derived_closed (empty_value _ _ _) = tt
  derived_closed (a_value _ _ _ _ _) = tt
  derived_closed (a_key _ _ _) = tt
  derived_closed (a_block_scalar b q d) = scalar_closed d
  derived_closed (a_block_scalar_with b q p r d) = scalar_closed d
  derived_closed (a_block_collection b e q l d) = derived_closed d
  derived_closed (a_block_collection_with b q p e r l d) = derived_closed d
  derived_closed (flow_in_block b q d e) = after_end (λ s. no_start_past u (derived_closed d) s) e
  derived_closed (a_last_entry d) = derived_closed d
  derived_closed (an_entry_before d q e) = derived_closed e
  derived_closed (a_dash_entry {i = i} e n d) = derived_closed d (λ s. after_sign i e (omega arith) dash_ns s)
  derived_closed (an_explicit_entry_with {m = m} {k = k} e w d c g) = derived_closed g (λ s. after_sign (k + m) c.colon (omega arith) colon_ns s)
  derived_closed (an_explicit_key_alone {i = i} e w d n) = derived_closed d (λ s. after_sign i e (omega arith) sign_facts.1 s)
  derived_closed (a_keyed_entry d e) = derived_closed e
  derived_closed (an_unkeyed_entry d) = derived_closed d
  derived_closed (a_block_value e d) = derived_closed d
  derived_closed (an_empty_block_value {i = i} e d) = after_end (λ s. after_sign i e (omega arith) colon_ns s) d
  derived_closed (a_compact_collection b q d) = λ n. derived_closed d
  derived_closed (an_indented_node d) = λ n. derived_closed d
  derived_closed (nothing_indented b d) = λ n. after_end n d
