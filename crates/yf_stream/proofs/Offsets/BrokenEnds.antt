-- Each block node ends after a line break, or at the end of the text.
use Rattle.std.proofs.Common.{◌≡◌, ◌≢◌, ℕ, ℤ, Bool, List, length}
use Rattle.std.specs.Str.{IsUtf8}
use Rattle.yf_chars.specs.Chain.{Chain}
use Rattle.yf_chars.specs.Chain.Chain.{done, step}
use Rattle.yf_chars.specs.declared.context.Ctx.{Ctx}
use Rattle.yf_chars.specs.Text.{code}
use Rattle.yf_lines.specs.Basic.{Break, LineStart}
use Rattle.yf_comments.specs.Comment.{CommentValue}
use Rattle.yf_comments.specs.Comments.{BreakOrEnd, CommentLine, LineEnd, LineRest}
use Rattle.yf_comments.specs.Comments.BreakOrEnd.{by_break, by_end}
use Rattle.yf_comments.specs.Comments.CommentLine.{whites_line, comment_line}
use Rattle.yf_comments.specs.Comments.LineEnd.{past_rest, from_start}
use Rattle.yf_comments.specs.Comments.LineRest.{nothing, whites, comment}
use Rattle.yf_block_scalar.specs.Header.{BlockHeader, HeaderValue}
use Rattle.yf_block_scalar.specs.Header.BlockHeader.{block_header}
use Rattle.yf_block_scalar.specs.declared.header.Header.{Header}
use Rattle.yf_block_scalar.specs.Body.{EmptyLines, Ends, LineContent, Lines, LinesTaken, Trail, Body, BodyValue}
use Rattle.yf_block_scalar.specs.Body.EmptyLines.{bare}
use Rattle.yf_block_scalar.specs.Body.Ends.{by_break as ends_by_break, by_text}
use Rattle.yf_block_scalar.specs.Body.LineContent.{content}
use Rattle.yf_block_scalar.specs.Body.Lines.{no_content, up_to}
use Rattle.yf_block_scalar.specs.Body.Trail.{comments, no_comment}
use Rattle.yf_block_scalar.specs.Body.Body.{indicated, detected, without_content}
use Rattle.yf_grammar.specs.Productions.BlockScalar.{BlockScalar}
use Rattle.yf_grammar.specs.Productions.BlockScalar.BlockScalar.{block_scalar}
use Rattle.yf_grammar.specs.Productions.Meaning.{Meaning}
use Rattle.yf_grammar.specs.Productions.Grammar.{Production, FlowNode, NodeOf, JsonContent, Entries, Entry, Pair, Explicit, Implicit, ValueOf, KeyOf, BlockNode, BlockEntries, BlockEntry, BlockIndented, BlockValue, Derives}
use Rattle.yf_grammar.specs.Productions.Grammar.Derives.{flow_node, an_alias, a_plain, a_plain_with, properties_alone, a_json, a_json_with, a_single, a_double, an_empty_collection, a_collection, last_entry, last_entry_with_comma, more_entries, a_node_entry, a_pair_entry, an_explicit_entry, an_implicit_entry, an_explicit_pair, a_keyed_pair, an_unkeyed_pair, explicit_with, explicit_without, key_alone, key_and_value, value_alone, empty_value, a_value, a_key, a_block_scalar, a_block_scalar_with, a_block_collection, a_block_collection_with, flow_in_block, a_last_entry, an_entry_before, a_dash_entry, an_explicit_entry_with, an_explicit_key_alone, a_keyed_entry, an_unkeyed_entry, a_block_value, an_empty_block_value, a_compact_collection, an_indented_node, nothing_indented}
use Rattle.yf_grammar.proofs.Ends.BlankRuns.{no_start_past}
use Rattle.yf_grammar.proofs.BlockOutcomes.BlockCover.{after_colon, after_dash, after_question}
use Rattle.yf_grammar.proofs.BlockOutcomes.NodesAfter.{node_next}

-- a line break ends there, or the text
pub data Broken (t : List ℕ) (j : ℕ) : Type 0 where
  at_break : {i : ℕ} → Break t i j → Broken t j
  at_text_end : j ≡ length t → Broken t j

-- the start and the end of a document: at no sign of a comment, and after a line break or at the end of the text
pub record DocumentBounds (t : List ℕ) (i j : ℕ) : Type 0 where
  pub start : code t i ≢ 35
  pub end : Broken t j

module _ {t : List ℕ} where
  part_broken : {i j : ℕ} → BreakOrEnd t i j → Broken t j
  part_broken (by_break b) = at_break b
  part_broken (by_end e) = at_text_end e

  rest_broken : {i j : ℕ} {x : List CommentValue} → LineRest t i j x → Broken t j
  rest_broken (nothing e) = part_broken e
  rest_broken (whites s e) = part_broken e
  rest_broken (comment s c e) = part_broken e

  lines_broken : {i j : ℕ} {x : List CommentValue} → Broken t i → Chain (CommentLine t) i j x → Broken t j
  lines_broken b done = b
  lines_broken b (step (whites_line s e) c) = lines_broken (part_broken e) c
  lines_broken b (step (comment_line s d e) c) = lines_broken (part_broken e) c

  end_broken_from : {i j : ℕ} {x : List CommentValue} → Broken t i → LineEnd t i j x → Broken t j
  end_broken_from b (past_rest r c) = lines_broken (rest_broken r) c
  end_broken_from b (from_start s c) = lines_broken b c

  -- inside a line
  pub end_broken : {i j : ℕ} {x : List CommentValue} → (LineStart t i → ⊥) → LineEnd t i j x → Broken t j
  end_broken n (past_rest r c) = lines_broken (rest_broken r) c
  end_broken n (from_start s c) = absurd (n s)

  -- block scalars

  ends_broken : {h j : ℕ} {o : Bool} → Ends t h j o → Broken t j
  ends_broken (ends_by_break b) = at_break b
  ends_broken (by_text e) = at_text_end e

  content_broken : {k i j : ℕ} {x : List ℕ} {o : Bool} → LineContent t k i j x o → Broken t j
  content_broken (content s m n q c) = ends_broken q

  taken_lines_broken : {k i j : ℕ} {ls : List (List ℕ)} {o : Bool} → Broken t i → Lines t k i j ls o → Broken t j
  taken_lines_broken s no_content = s
  taken_lines_broken s (up_to c d) = content_broken d

  bare_broken : {i j : ℕ} {x : List ℕ} → EmptyLines t i j x → Broken t j
  bare_broken (bare m a) = at_break a.ends

  bares_broken : {i j : ℕ} {x : List ℕ} → Broken t i → Chain (EmptyLines t) i j x → Broken t j
  bares_broken s done = s
  bares_broken s (step b c) = bares_broken (bare_broken b) c

  taken_broken : {k i p count : ℕ} {ls : List (List ℕ)} {o : Bool} → Broken t i → LinesTaken t k i ls o count p → Broken t p
  taken_broken s d = bares_broken (taken_lines_broken s d.lines) d.tail.lines

  trail_broken : {k i j : ℕ} {x : List CommentValue} → Broken t i → Trail t k i j x → Broken t j
  trail_broken s (comments m l a e c) = end_broken_from s c.derived
  trail_broken s (no_comment n) = s

  body_broken : {n : ℤ} {h : Header} {i j : ℕ} {v : BodyValue} → Broken t i → Body t n h i j v → Broken t j
  body_broken s (indicated e a b) = trail_broken (taken_broken s a) b
  body_broken s (detected e d a b) = trail_broken (taken_broken s a) b
  body_broken s (without_content e c d b) = trail_broken (bares_broken s c) b

  header_broken : {i j : ℕ} {h : HeaderValue} → BlockHeader t i j h → Broken t j
  header_broken (block_header s m r) = rest_broken r

  scalar_broken : {n : ℤ} {i j : ℕ} {x : Meaning} → BlockScalar t n i j x → Broken t j
  scalar_broken (block_scalar h b l) = body_broken (header_broken h) b

abbrev pub BrokenClaim : List ℕ → Production → ℕ → ℕ → Type 0
BrokenClaim t (FlowNode n c) i j = Unit {0}
BrokenClaim t (NodeOf json n c) i j = Unit {0}
BrokenClaim t (JsonContent n c) i j = Unit {0}
BrokenClaim t (Entries s n c) i j = Unit {0}
BrokenClaim t (Entry s n c) i j = Unit {0}
BrokenClaim t (Pair n c) i j = Unit {0}
BrokenClaim t (Explicit n c s) i j = Unit {0}
BrokenClaim t (Implicit n c s) i j = Unit {0}
BrokenClaim t (ValueOf json n c) i j = Unit {0}
BrokenClaim t (KeyOf json c) i j = Unit {0}
BrokenClaim t (BlockNode n c) i j = Broken t j
BrokenClaim t (BlockEntries s m) i j = Broken t j
BrokenClaim t (BlockEntry s m) i j = Broken t j
BrokenClaim t (BlockIndented m c) i j = (LineStart t i → ⊥) → Broken t j
BrokenClaim t (BlockValue m) i j = Broken t j

flow_line : {t : List ℕ} {h i l j : ℕ} {n : ℤ} {c : Ctx} {x : Meaning} {cs : List CommentValue} → IsUtf8 t → Derives t h (FlowNode n c) i l x → LineEnd t l j cs → Broken t j
flow_line u (flow_node d) e = end_broken (λ s. no_start_past u (node_next u d) s) e

pub block_broken : {t : List ℕ} {h i j : ℕ} {p : Production} {x : Meaning} → IsUtf8 t → Derives t h p i j x → BrokenClaim t p i j
block_broken u (flow_node _) = tt
block_broken u (an_alias _ _) = tt
block_broken u (a_plain _) = tt
block_broken u (a_plain_with _ _ _) = tt
block_broken u (properties_alone _ _) = tt
block_broken u (a_json _) = tt
block_broken u (a_json_with _ _ _) = tt
block_broken u (a_single _) = tt
block_broken u (a_double _) = tt
block_broken u (an_empty_collection _ _ _ _ _) = tt
block_broken u (a_collection _ _ _ _ _ _) = tt
block_broken u (last_entry _ _) = tt
block_broken u (last_entry_with_comma _ _ _ _) = tt
block_broken u (more_entries _ _ _ _ _) = tt
block_broken u (a_node_entry _) = tt
block_broken u (a_pair_entry _) = tt
block_broken u (an_explicit_entry _ _ _) = tt
block_broken u (an_implicit_entry _) = tt
block_broken u (an_explicit_pair _ _ _) = tt
block_broken u (a_keyed_pair _ _) = tt
block_broken u (an_unkeyed_pair _) = tt
block_broken u (explicit_with _) = tt
block_broken u (explicit_without _) = tt
block_broken u (key_alone _) = tt
block_broken u (key_and_value _ _ _) = tt
block_broken u (value_alone _) = tt
block_broken u (empty_value _ _ _) = tt
block_broken u (a_value _ _ _ _ _) = tt
block_broken u (a_key _ _ _) = tt
block_broken u (a_block_scalar b s d) = scalar_broken d
block_broken u (a_block_scalar_with b s p q d) = scalar_broken d
block_broken u (a_block_collection b e s l d) = block_broken u d
block_broken u (a_block_collection_with b s p e q l d) = block_broken u d
block_broken u (flow_in_block b s d e) = flow_line u d e
block_broken u (a_last_entry d) = block_broken u d
block_broken u (an_entry_before d s e) = block_broken u e
block_broken u (a_dash_entry a b d) = block_broken u d (after_dash u _ a)
block_broken u (an_explicit_entry_with a b d g e) = block_broken u e (after_colon u _ g.colon)
block_broken u (an_explicit_key_alone a b d g) = block_broken u d (after_question u _ a)
block_broken u (a_keyed_entry d e) = block_broken u e
block_broken u (an_unkeyed_entry d) = block_broken u d
block_broken u (a_block_value e d) = block_broken u d
block_broken u (an_empty_block_value e g) = end_broken (after_colon u _ e) g
block_broken u (a_compact_collection b s d) = λ n. block_broken u d
block_broken u (an_indented_node d) = λ n. block_broken u d
block_broken u (nothing_indented b g) = λ n. end_broken n g
