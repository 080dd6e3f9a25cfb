-- The meaning of a production ends after it begins: at its last node with characters, or its last sign.
use Rattle.std.proofs.Common.{◌≡◌, ℕ, ℤ, ◌+◌, ◌<◌, ◌≤◌, false, List, refl, arith}
use Rattle.std.specs.Str.{IsUtf8}
use Rattle.yf_lines.specs.Basic.{is_block}
use Rattle.yf_props.proofs.SeparationEnds.{separate_forward}
use Rattle.yf_grammar.specs.Productions.BlockScalar.{BlockScalar}
use Rattle.yf_grammar.specs.Productions.BlockScalar.BlockScalar.{block_scalar}
use Rattle.yf_grammar.specs.Productions.Grammar.{Production, FlowNode, NodeOf, JsonContent, Entries, Entry, Pair, Explicit, Implicit, ValueOf, KeyOf, BlockNode, BlockEntries, BlockEntry, BlockIndented, BlockValue, Derives}
use Rattle.yf_grammar.specs.Productions.Grammar.Derives.{flow_node, an_alias, a_plain, a_plain_with, properties_alone, a_json, a_json_with, a_single, a_double, an_empty_collection, a_collection, last_entry, last_entry_with_comma, more_entries, a_node_entry, a_pair_entry, an_explicit_entry, an_implicit_entry, an_explicit_pair, a_keyed_pair, an_unkeyed_pair, explicit_with, explicit_without, key_alone, key_and_value, value_alone, empty_value, a_value, a_key, a_block_scalar, a_block_scalar_with, a_block_collection, a_block_collection_with, flow_in_block, a_last_entry, an_entry_before, a_dash_entry, an_explicit_entry_with, an_explicit_key_alone, a_keyed_entry, an_unkeyed_entry, a_block_value, an_empty_block_value, a_compact_collection, an_indented_node, nothing_indented}
use Rattle.yf_grammar.specs.Productions.Meaning.{Meaning, ◌⊕◌, meaning_after, noting, scalar, alias_to, empty_node, collection, with_props, entering}
use Rattle.yf_grammar.proofs.BlockOutcomes.BlockStarts.{block_starts, header_later, line_end_forward}
use Rattle.yf_grammar.proofs.FlowReader.FlowStarts.{flow_starts, may_forward, value_forward}
use Rattle.yf_grammar.proofs.NodesInText.PlacedScalars.{between_forward}
use Rattle.yf_grammar.proofs.FlowReader.QuotedEnds.{single_later, double_later}
use Rattle.yf_props.proofs.NameOrder.{properties_forward}

abbrev pub FinishClaim : List ℕ → Production → ℕ → Meaning → Type 0
FinishClaim t (FlowNode n c) i x = is_block c ≡ false → i < x.finish
FinishClaim t (NodeOf json n c) i x = is_block c ≡ false → i < x.finish
FinishClaim t (JsonContent n c) i x = is_block c ≡ false → i < x.finish
FinishClaim t (Entries s n c) i x = Unit {0}
FinishClaim t (Entry s n c) i x = Unit {0}
FinishClaim t (Pair n c) i x = is_block c ≡ false → i < x.finish
FinishClaim t (Explicit n c s) i x = is_block c ≡ false → s < i → s < x.finish
FinishClaim t (Implicit n c s) i x = is_block c ≡ false → i < x.finish
FinishClaim t (ValueOf json n c) i x = is_block c ≡ false → i < x.finish
FinishClaim t (KeyOf json c) i x = Unit {0}
FinishClaim t (BlockNode n c) i x = i < x.finish
FinishClaim t (BlockEntries s m) i x = i < x.finish
FinishClaim t (BlockEntry s m) i x = i < x.finish
FinishClaim t (BlockIndented m c) i x = i ≤ x.finish
FinishClaim t (BlockValue m) i x = i < x.finish

module _ {t : List ℕ} (u : IsUtf8 t) where
  scalar_finish : {n : ℤ} {i j : ℕ} {x : Meaning} → BlockScalar t n i j x → i < x.finish
  scalar_finish (block_scalar h b l) = let m = header_later h in let o = between_forward u l in omega arith

  pub finish_later : {h i j : ℕ} {p : Production} {x : Meaning} → Derives t h p i j x → FinishClaim t p i x
  unfolding ◌⊕◌ meaning_after noting scalar alias_to empty_node collection with_props entering
  finish_later (flow_node d) = λ b. finish_later d b
  finish_later (an_alias {n = n} f a) = λ b. (flow_starts (an_alias {n = n} f a) b).starts.later
  finish_later (a_plain p) = λ b. (flow_starts (a_plain p) b).starts.later
  finish_later (a_plain_with p s q) = λ b. (flow_starts (a_plain_with p s q) b).starts.later
  finish_later (properties_alone f p) = λ b. properties_forward p
  finish_later (a_json d) = λ b. finish_later d b
  finish_later (a_json_with p s d) = λ b. let l = properties_forward p in let m = separate_forward s in let o = finish_later d b in omega arith
  finish_later (a_single q) = λ b. single_later b q
  finish_later (a_double q) = λ b. double_later b q
  finish_later (an_empty_collection s f e m g) = λ b. (flow_starts (an_empty_collection s f e m g) b).later
  finish_later (a_collection s f e m d g) = λ b. (flow_starts (a_collection s f e m d g) b).later
  finish_later (last_entry _ _) = tt
  finish_later (last_entry_with_comma _ _ _ _) = tt
  finish_later (more_entries _ _ _ _ _) = tt
  finish_later (a_node_entry _) = tt
  finish_later (a_pair_entry _) = tt
  finish_later (an_explicit_entry _ _ _) = tt
  finish_later (an_implicit_entry _) = tt
  finish_later (an_explicit_pair e s d) = λ b. let l = separate_forward s in finish_later d b (omega arith)
  finish_later (a_keyed_pair d v) = λ b. let l = (flow_starts d refl).later in let m = finish_later v b in omega arith
  finish_later (an_unkeyed_pair v) = λ b. finish_later v b
  finish_later (explicit_with d) = λ b l. let m = finish_later d b in omega arith
  finish_later (explicit_without f) = λ b l. omega arith
  finish_later (key_alone d) = λ b. finish_later d b
  finish_later (key_and_value d m v) = λ b.
      let l = (flow_starts d b).starts.later in let f = may_forward m in let g = finish_later v b in omega arith
  finish_later (value_alone v) = λ b. finish_later v b
  finish_later (empty_value f e m) = λ b. omega arith
  finish_later (a_value {i = i} {k = k} {json = json} {n = n} {c = c} cs e m s d) = λ b.
      let f = value_forward t n c (i + 1) k cs json s in let g = finish_later d b in omega arith
  finish_later (a_key _ _ _) = tt
  finish_later (a_block_scalar b s d) = let l = separate_forward s in let m = scalar_finish d in omega arith
  finish_later (a_block_scalar_with b s p r d) =
      let l = separate_forward s in let m = properties_forward p in let o = separate_forward r in let q = scalar_finish d in omega arith
  finish_later (a_block_collection b e s l d) = let f = line_end_forward e in let g = finish_later d in omega arith
  finish_later (a_block_collection_with b s p e r l d) =
      let f = separate_forward s in let g = properties_forward p in let m = line_end_forward e in let o = finish_later d in omega arith
  finish_later (flow_in_block b s d e) = let f = separate_forward s in let g = finish_later d refl in omega arith
  finish_later (a_last_entry d) = finish_later d
  finish_later (an_entry_before d s e) = let f = (block_starts d).later in let g = finish_later e in omega arith
  finish_later (a_dash_entry a b d) = let f = finish_later d in omega arith
  finish_later (an_explicit_entry_with a b d g e) = let f = block_starts d in let h = finish_later e in omega arith
  finish_later (an_explicit_key_alone a b d g) = let f = finish_later d in omega arith
  finish_later (a_keyed_entry d e) = let f = (flow_starts d refl).later in let g = finish_later e in omega arith
  finish_later (an_unkeyed_entry d) = finish_later d
  finish_later (a_block_value e d) = let f = finish_later d in omega arith
  finish_later (an_empty_block_value e d) = omega arith
  finish_later (a_compact_collection b s d) = let f = finish_later d in omega arith
  finish_later (an_indented_node d) = let f = finish_later d in omega arith
  finish_later (nothing_indented b d) = omega arith
