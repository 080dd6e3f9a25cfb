-- The reader reaches each derived end: wherever a block production may end, its last halt is there or later.
use Rattle.std.proofs.Common.{◌≡◌, ℕ, ◌+◌, ◌<◌, ◌≤◌, pos, true, false, List, refl, arith}
use Rattle.std.specs.Str.{IsUtf8}
use Rattle.yf_chars.specs.declared.context.Ctx.TheVariants.{BlockOut}
use Rattle.yf_chars.specs.Text.{code}
use Rattle.yf_chars.specs.Class.{is_ns_char}
use Rattle.yf_lines.specs.Basic.{LineStart, Clear}
use Rattle.yf_lines.proofs.BasicLemmas.{clear_front, clear_back}
use Rattle.yf_grammar.specs.Productions.Meaning.{Meaning}
use Rattle.yf_grammar.specs.Productions.Grammar.{Production, FlowNode, NodeOf, JsonContent, Entries, Entry, Pair, Explicit, Implicit, ValueOf, KeyOf, BlockNode, BlockEntries, BlockEntry, BlockIndented, BlockValue, Derives}
use Rattle.yf_grammar.specs.Productions.Grammar.Derives.{flow_node, an_alias, a_plain, a_plain_with, properties_alone, a_json, a_json_with, a_single, a_double, an_empty_collection, a_collection, last_entry, last_entry_with_comma, more_entries, a_node_entry, a_pair_entry, an_explicit_entry, an_implicit_entry, an_explicit_pair, a_keyed_pair, an_unkeyed_pair, explicit_with, explicit_without, key_alone, key_and_value, value_alone, empty_value, a_value, a_key, a_block_scalar, a_block_scalar_with, a_block_collection, a_block_collection_with, flow_in_block, a_last_entry, an_entry_before, a_dash_entry, an_explicit_entry_with, an_explicit_key_alone, a_keyed_entry, an_unkeyed_entry, a_block_value, an_empty_block_value, a_compact_collection, an_indented_node, nothing_indented}
use Rattle.yf_grammar.specs.BlockReader.BlockParser.{Indicator, Origin, Awaited, Item}
use Rattle.yf_grammar.proofs.FlowReader.FlowStarts.{flow_starts}
use Rattle.yf_grammar.proofs.BlockOutcomes.BlockKeys.{end_not_ns}
use Rattle.yf_grammar.proofs.BlockOutcomes.BlockSigns.{value_sign}
use Rattle.yf_grammar.proofs.BlockOutcomes.BlockStarts.{block_starts}
use Rattle.yf_grammar.proofs.BlockOutcomes.BlockClaims.{LineReading, LineHalting, indicator_ahead, HaltsReach, NodeHaltsReach, EntryHaltsReach, follow_next, follow_colon}
use Rattle.yf_grammar.proofs.BlockOutcomes.BlockItems.{last_reached, before_reached}
use Rattle.yf_grammar.proofs.BlockOutcomes.BlockQuestions.{question_alone_reached, question_value_reached}
use Rattle.yf_grammar.proofs.BlockOutcomes.BlockEntries.{dash_reached, colon_reached, key_reached}
use Rattle.yf_grammar.proofs.BlockOutcomes.BlockNodes.{entry_line, block_collection_reached, compact_reached}
use Rattle.yf_grammar.proofs.BlockOutcomes.BlockEmpty.{empty_reached}
use Rattle.yf_grammar.proofs.BlockOutcomes.BlockHalts.{WholePlain}
use Rattle.yf_grammar.proofs.BlockOutcomes.BlockCover.{after_dash, after_question, after_colon, next_of, no_dash_next, cover}

abbrev pub ReachClaim : List ℕ → ℕ → Production → ℕ → ℕ → Meaning → Type 0
ReachClaim t h (FlowNode n c) i j x = Unit {0}
ReachClaim t h (NodeOf json n c) i j x = Unit {0}
ReachClaim t h (JsonContent n c) i j x = Unit {0}
ReachClaim t h (Entries s n c) i j x = Unit {0}
ReachClaim t h (Entry s n c) i j x = Unit {0}
ReachClaim t h (Pair n c) i j x = Unit {0}
ReachClaim t h (Explicit n c s) i j x = Unit {0}
ReachClaim t h (Implicit n c s) i j x = Unit {0}
ReachClaim t h (ValueOf json n c) i j x = Unit {0}
ReachClaim t h (KeyOf json c) i j x = Unit {0}
ReachClaim t h (BlockNode n c) i j x = NodeHaltsReach t h n c i j x
ReachClaim t h (BlockEntries s m) i j x = EntryHaltsReach t h s m i j x
ReachClaim t h (BlockEntry s m) i j x = (e : ℕ) → h ≤ e → Clear t i j → (q : Origin) → HaltsReach t e (Item s m q i) j x
ReachClaim t h (BlockIndented m c) i j x = (e : ℕ) → h ≤ e → Clear t i j → (LineStart t i → ⊥) → is_ns_char (code t i) ≡ false
    → HaltsReach t e (Awaited true (pos m) c (Indicator i) i) j x
ReachClaim t h (BlockValue m) i j x = (e : ℕ) → h ≤ e → Clear t i j → HaltsReach t e (Awaited false (pos m) BlockOut (Indicator (i + 1)) (i + 1)) j x

module _ {t : List ℕ} (u : IsUtf8 t) (reading : LineReading t) (plain : WholePlain t) (halting : LineHalting t) where
  pub reach : {h i j : ℕ} {p : Production} {x : Meaning} → Derives t h p i j x → ReachClaim t h p i j x
  reach (flow_node _) = tt
  reach (an_alias _ _) = tt
  reach (a_plain _) = tt
  reach (a_plain_with _ _ _) = tt
  reach (properties_alone _ _) = tt
  reach (a_json _) = tt
  reach (a_json_with _ _ _) = tt
  reach (a_single _) = tt
  reach (a_double _) = tt
  reach (an_empty_collection _ _ _ _ _) = tt
  reach (a_collection _ _ _ _ _ _) = tt
  reach (last_entry _ _) = tt
  reach (last_entry_with_comma _ _ _ _) = tt
  reach (more_entries _ _ _ _ _) = tt
  reach (a_node_entry _) = tt
  reach (a_pair_entry _) = tt
  reach (an_explicit_entry _ _ _) = tt
  reach (an_implicit_entry _) = tt
  reach (an_explicit_pair _ _ _) = tt
  reach (a_keyed_pair _ _) = tt
  reach (an_unkeyed_pair _) = tt
  reach (explicit_with _) = tt
  reach (explicit_without _) = tt
  reach (key_alone _) = tt
  reach (key_and_value _ _ _) = tt
  reach (value_alone _) = tt
  reach (empty_value _ _ _) = tt
  reach (a_value _ _ _ _ _) = tt
  reach (a_key _ _ _) = tt
  reach (a_block_scalar b s d) = λ e l c v a n ws w o r. halting.scalar b s d e l c v a n ws w o r
  reach (a_block_scalar_with b s p q d) = λ e l c v a n ws w o r. halting.scalar_with b s p q d e l c v a n ws w o r
  reach (a_block_collection b g s l d) = λ e z c v a n ws w o r. block_collection_reached u g s l d (reach d) z c n w r
  reach (a_block_collection_with b s p g q l d) = λ e z c v a n ws w o r. halting.collection_with b s p g q l d (reach d) e z c v a n ws w o r
  reach (flow_in_block b s d g) = λ e l c v a n ws w o r. halting.flow b s d g e l c v a n ws w o r
  reach (a_last_entry d) = λ e l c q ws w o r. last_reached plain (reach d e l c q) w r
  reach (an_entry_before {i = i} {k = k} {j = j} d s z) = λ e l c q ws w o r.
      let a : i < k = (block_starts d).later in
      let y = (block_starts z).later in
      let v = entry_line u (omega arith) s z c in
      let g = follow_next _ v (no_dash_next u (block_starts z).first) in
      before_reached (next_of u z v) (cover u reading d e (omega arith) (clear_front (omega arith) c) g q)
      (reach z e (omega arith) (clear_back (omega arith) c) Origin.Later) w r
  reach (a_dash_entry {i = i} a b d) = λ e l c q ws w o r.
      dash_reached (record { dash = a; follows = b }) (reach d e l (clear_back (omega arith) c) (after_dash u i a) b) w r
  reach (an_explicit_entry_with {m = m} {i = i} {k = k} a b d y v) = λ e l c q ws w o r.
      let g = block_starts d in
      let z = block_starts v in
      question_value_reached (record { sign_is_at = a; follows = b }) y
      (cover u reading d e (omega arith) (clear_front (omega arith) (clear_back {j = i + 1} (omega arith) c)) (follow_colon y) (after_question u i a) (end_not_ns (code t (i + 1)) b))
      (reach v e (omega arith) (clear_back (omega arith) c) (after_colon u (k + m) y.colon) (end_not_ns (code t (k + m + 1)) y.follows)) w r
  reach (an_explicit_key_alone {i = i} a b d n) = λ e l c q ws w o r.
      question_alone_reached plain (record { sign_is_at = a; follows = b }) n
      (reach d e l (clear_back (omega arith) c) (after_question u i a) (end_not_ns (code t (i + 1)) b)) w r
  reach (a_keyed_entry {i = i} {k = k} d v) = λ e l c q ws w o r.
      let a = (flow_starts d refl).later in
      let b = (block_starts v).later in
      key_reached u d (value_sign u v) (clear_front (omega arith) c) (omega arith) (reach v e (omega arith) (clear_back (omega arith) c)) w r
  reach (an_unkeyed_entry v) = λ e l c q ws w o r. colon_reached (value_sign u v) (reach v e l c) w r
  reach (a_block_value {i = i} a d) = λ e l c ws w o r. reach d e l (clear_back (omega arith) c) false (Indicator (i + 1)) indicator_ahead ws w o r
  reach (an_empty_block_value a d) = λ e l c ws w o r. empty_reached d w r
  reach (a_compact_collection b s d) = λ e l c n g ws w o r. compact_reached u s d (reach d) l c w n g r
  reach (an_indented_node {i = i} d) = λ e l c n g ws w o r. reach d e l c true (Indicator i) indicator_ahead ws w o r
  reach (nothing_indented b d) = λ e l c n g ws w o r. empty_reached d w r
