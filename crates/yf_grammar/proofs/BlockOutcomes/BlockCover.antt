-- The reader finds derived parts: a block production, before something that can follow it in a whole node, is exactly
-- the reader's outcome at its offset.
use Rattle.std.proofs.Common.{◌≡◌, ℕ, ◌+◌, ◌<◌, ◌≤◌, pos, Bool, true, false, List, refl, arith, true≢false}
use Rattle.std.specs.Str.{IsUtf8}
use Rattle.yf_chars.specs.declared.context.Ctx.TheVariants.{BlockOut}
use Rattle.yf_chars.specs.Text.{code}
use Rattle.yf_chars.specs.Class.{is_ns_char}
use Rattle.yf_lines.specs.Basic.{LineStart, Clear}
use Rattle.yf_lines.proofs.BasicLemmas.{clear_front, clear_back}
use Rattle.yf_block_scalar.proofs.HeaderLemmas.{inside_line}
use Rattle.yf_grammar.specs.Productions.Meaning.{Meaning}
use Rattle.yf_grammar.specs.Productions.Grammar.{Production, FlowNode, NodeOf, JsonContent, Entries, Entry, Pair, Explicit, Implicit, ValueOf, KeyOf, BlockNode, BlockEntries, BlockEntry, BlockIndented, BlockValue, Derives}
use Rattle.yf_grammar.specs.Productions.Grammar.Derives.{flow_node, an_alias, a_plain, a_plain_with, properties_alone, a_json, a_json_with, a_single, a_double, an_empty_collection, a_collection, last_entry, last_entry_with_comma, more_entries, a_node_entry, a_pair_entry, an_explicit_entry, an_implicit_entry, an_explicit_pair, a_keyed_pair, an_unkeyed_pair, explicit_with, explicit_without, key_alone, key_and_value, value_alone, empty_value, a_value, a_key, a_block_scalar, a_block_scalar_with, a_block_collection, a_block_collection_with, flow_in_block, a_last_entry, an_entry_before, a_dash_entry, an_explicit_entry_with, an_explicit_key_alone, a_keyed_entry, an_unkeyed_entry, a_block_value, an_empty_block_value, a_compact_collection, an_indented_node, nothing_indented}
use Rattle.yf_grammar.specs.BlockReader.BlockParser.{DashAt, LineText, NextEntry, next_item, next_pair, Indicator, Origin, Awaited, Item}
use Rattle.yf_grammar.proofs.FlowReader.FlowStarts.{flow_starts}
use Rattle.yf_grammar.proofs.BlockOutcomes.BlockKeys.{end_not_ns}
use Rattle.yf_grammar.proofs.BlockOutcomes.BlockSigns.{value_sign}
use Rattle.yf_grammar.proofs.BlockOutcomes.BlockStarts.{block_starts, FirstOf, dash_first, no_dash_first}
use Rattle.yf_grammar.proofs.BlockOutcomes.BlockClaims.{LineReading, Follow, entry_context, indicator_ahead, Exact, NodeExact, EntriesExact, follow_last, follow_next, follow_colon}
use Rattle.yf_grammar.proofs.BlockOutcomes.BlockItems.{last_exact, before_exact}
use Rattle.yf_grammar.proofs.BlockOutcomes.BlockQuestions.{question_alone_exact, question_value_exact}
use Rattle.yf_grammar.proofs.BlockOutcomes.BlockEntries.{dash_exact, colon_exact, key_exact}
use Rattle.yf_grammar.proofs.BlockOutcomes.BlockNodes.{entry_line, block_collection, compact_exact}
use Rattle.yf_grammar.proofs.BlockOutcomes.BlockEmpty.{empty_exact}
use Rattle.yf_grammar.proofs.BlockOutcomes.BlockExtended.{by_scalar}

abbrev pub Claim : List ℕ → Bool → ℕ → Production → ℕ → ℕ → Meaning → Type 0
Claim t v h (FlowNode n c) i j x = Unit {0}
Claim t v h (NodeOf json n c) i j x = Unit {0}
Claim t v h (JsonContent n c) i j x = Unit {0}
Claim t v h (Entries s n c) i j x = Unit {0}
Claim t v h (Entry s n c) i j x = Unit {0}
Claim t v h (Pair n c) i j x = Unit {0}
Claim t v h (Explicit n c s) i j x = Unit {0}
Claim t v h (Implicit n c s) i j x = Unit {0}
Claim t v h (ValueOf json n c) i j x = Unit {0}
Claim t v h (KeyOf json c) i j x = Unit {0}
Claim t v h (BlockNode n c) i j x = NodeExact t v h n c i j x
Claim t v h (BlockEntries s m) i j x = EntriesExact t v h s m i j x
Claim t v h (BlockEntry s m) i j x = (e : ℕ) → h ≤ e → Clear t i j → Follow t v (pos m) (entry_context s) j → (q : Origin) → Exact t e (Item s m q i) j h x
Claim t v h (BlockIndented m c) i j x = (e : ℕ) → h ≤ e → Clear t i j → Follow t v (pos m) c j → (LineStart t i → ⊥) → is_ns_char (code t i) ≡ false
    → Exact t e (Awaited true (pos m) c (Indicator i) i) j h x
Claim t v h (BlockValue m) i j x = (e : ℕ) → h ≤ e → Clear t i j → Follow t v (pos m) BlockOut j → Exact t e (Awaited false (pos m) BlockOut (Indicator (i + 1)) (i + 1)) j h x

module _ {t : List ℕ} (u : IsUtf8 t) where
  pub after_dash : (i : ℕ) → code t i ≡ 45 → LineStart t (i + 1) → ⊥
  after_dash i e = inside_line t i u (omega arith) (omega arith)

  pub after_question : (i : ℕ) → code t i ≡ 63 → LineStart t (i + 1) → ⊥
  after_question i e = inside_line t i u (omega arith) (omega arith)

  pub after_colon : (i : ℕ) → code t i ≡ 58 → LineStart t (i + 1) → ⊥
  after_colon i e = inside_line t i u (omega arith) (omega arith)

  -- another entry follows
  pub next_of : {h k m j : ℕ} {s : Bool} {x : Meaning} → Derives t h (BlockEntries s m) (k + m) j x → LineText t k m (k + m) → NextEntry t s m k
  next_of d w = go (block_starts d).first w where
    go : {m k : ℕ} {s : Bool} → FirstOf t (k + m) s → LineText t k m (k + m) → NextEntry t s m k
    go (dash_first d) w = next_item w d
    go (no_dash_first n) w = next_pair w

  pub no_dash_next : {p : ℕ} {s : Bool} → FirstOf t p s → s ≡ false → DashAt t p → ⊥
  no_dash_next (dash_first d) e = absurd (true≢false e)
  no_dash_next (no_dash_first n) e = n

module _ {t : List ℕ} (u : IsUtf8 t) (reading : LineReading t) where
  pub cover : {h i j : ℕ} {p : Production} {x : Meaning} (d : Derives t h p i j x) → Claim t (by_scalar d) h p i j x
  unfolding by_scalar
  cover (flow_node _) = tt
  cover (an_alias _ _) = tt
  cover (a_plain _) = tt
  cover (a_plain_with _ _ _) = tt
  cover (properties_alone _ _) = tt
  cover (a_json _) = tt
  cover (a_json_with _ _ _) = tt
  cover (a_single _) = tt
  cover (a_double _) = tt
  cover (an_empty_collection _ _ _ _ _) = tt
  cover (a_collection _ _ _ _ _ _) = tt
  cover (last_entry _ _) = tt
  cover (last_entry_with_comma _ _ _ _) = tt
  cover (more_entries _ _ _ _ _) = tt
  cover (a_node_entry _) = tt
  cover (a_pair_entry _) = tt
  cover (an_explicit_entry _ _ _) = tt
  cover (an_implicit_entry _) = tt
  cover (an_explicit_pair _ _ _) = tt
  cover (a_keyed_pair _ _) = tt
  cover (an_unkeyed_pair _) = tt
  cover (explicit_with _) = tt
  cover (explicit_without _) = tt
  cover (key_alone _) = tt
  cover (key_and_value _ _ _) = tt
  cover (value_alone _) = tt
  cover (empty_value _ _ _) = tt
  cover (a_value _ _ _ _ _) = tt
  cover (a_key _ _ _) = tt
  cover (a_block_scalar b s d) = λ e l c f w a n o r. reading.scalar b s d e l c f w a n o r
  cover (a_block_scalar_with b s p q d) = λ e l c f w a n o r. reading.scalar_with b s p q d e l c f w a n o r
  cover (a_block_collection b g s l d) = λ e z c f w a n o r. block_collection u g s l d (cover d) z c f n r
  cover (a_block_collection_with b s p g q l d) = λ e z c f w a n o r. reading.collection_with b s p g q l d (cover d) e z c f w a n o r
  cover (flow_in_block b s d g) = λ e l c f w a n o r. reading.flow b s d g e l c f w a n o r
  cover (a_last_entry d) = λ e l c f q o r. last_exact f (cover d e l c (follow_last f) q) r
  cover (an_entry_before {i = i} {k = k} {j = j} d s z) = λ e l c f q o r.
      let a : i < k = (block_starts d).later in
      let y = (block_starts z).later in
      let w = entry_line u (omega arith) s z c in
      let g = follow_next _ w (no_dash_next u (block_starts z).first) in
      before_exact (next_of u z w) (cover d e (omega arith) (clear_front (omega arith) c) g q)
      (cover z e (omega arith) (clear_back (omega arith) c) f Origin.Later) r
  cover (a_dash_entry {i = i} a b d) = λ e l c f q o r.
      dash_exact (record { dash = a; follows = b }) (cover d e l (clear_back (omega arith) c) f (after_dash u i a) b) r
  cover (an_explicit_entry_with {m = m} {i = i} {k = k} a b d y v) = λ e l c f q o r.
      let g = block_starts d in
      let z = block_starts v in
      question_value_exact (record { sign_is_at = a; follows = b }) y
      (cover d e (omega arith) (clear_front (omega arith) (clear_back {j = i + 1} (omega arith) c)) (follow_colon y) (after_question u i a) (end_not_ns (code t (i + 1)) b))
      (cover v e (omega arith) (clear_back (omega arith) c) f (after_colon u (k + m) y.colon) (end_not_ns (code t (k + m + 1)) y.follows)) r
  cover (an_explicit_key_alone {i = i} a b d n) = λ e l c f q o r.
      question_alone_exact (record { sign_is_at = a; follows = b }) n
      (cover d e l (clear_back (omega arith) c) f (after_question u i a) (end_not_ns (code t (i + 1)) b)) r
  cover (a_keyed_entry {i = i} {k = k} d v) = λ e l c f q o r.
      let a = (flow_starts d refl).later in
      let b = (block_starts v).later in
      key_exact u d (value_sign u v) (clear_front (omega arith) c) (omega arith) (cover v e (omega arith) (clear_back (omega arith) c) f) r
  cover (an_unkeyed_entry v) = λ e l c f q o r. colon_exact (value_sign u v) (cover v e l c f) r
  cover (a_block_value {i = i} a d) = λ e l c f o r. cover d e l (clear_back (omega arith) c) f false (Indicator (i + 1)) indicator_ahead o r
  cover (an_empty_block_value {i = i} a d) = λ e l c f o r. empty_exact (after_colon u i a) d f r
  cover (a_compact_collection b s d) = λ e l c f n g o r. compact_exact u s d (cover d) l c f n g r
  cover (an_indented_node {i = i} d) = λ e l c f n g o r. cover d e l c f true (Indicator i) indicator_ahead o r
  cover (nothing_indented b d) = λ e l c f n g o r. empty_exact n d f r
