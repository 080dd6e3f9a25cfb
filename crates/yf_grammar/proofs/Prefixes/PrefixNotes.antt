-- A text and its prefix have equal notes on blank lines before the entries that begin in the prefix; and the entries of
-- a derived part begin before its end.
use Rattle.std.proofs.Common.{◌≡◌, ℕ, ◌+◌, ◌<◌, ◌≤◌, ℤ, Bool, true, false, List, [], ◌∷◌, ◌++◌, Option, Some, None, refl, sym, subst, arith}
use Rattle.std.proofs.lemmas.Option.{same_Some}
use Rattle.yf_chars.proofs.TextLemmas.{next_later}
use Rattle.yf_lines.proofs.BasicLemmas.{break_forward}
use Rattle.yf_comments.proofs.LineOrder.{line_end_forward}
use Rattle.yf_comments.specs.Comment.{CommentValue}
use Rattle.yf_props.proofs.SeparationEnds.{separate_forward}
use Rattle.yf_comments.specs.Comments.{is_gap}
use Rattle.yf_events.specs.Event.{EventInText}
use Rattle.yf_events.specs.declared.event.Entry.{Entry}
use Rattle.yf_events.specs.declared.event.ScalarStyle.{ScalarStyle}
use Rattle.yf_props.specs.Props.{PropsValue}
use Rattle.yf_grammar.specs.Productions.BlockScalar.{BlockScalar, block_scalar}
use Rattle.yf_grammar.specs.Productions.Meaning.{Meaning, ◌⊕◌, meaning_after, noting, scalar, alias_to, empty_node, collection, with_props, entering, plain_event, first_with, first_entering, end_of}
use Rattle.yf_grammar.specs.Productions.Grammar.{Production, FlowNode, NodeOf, JsonContent, Entries, Entry as EntryOf, Pair, Explicit, Implicit, ValueOf, KeyOf, BlockNode, BlockEntries, BlockEntry, BlockIndented, BlockValue, Derives}
use Rattle.yf_grammar.specs.Productions.Grammar.Derives.{flow_node, an_alias, a_plain, a_plain_with, properties_alone, a_json, a_json_with, a_single, a_double, an_empty_collection, a_collection, last_entry, last_entry_with_comma, more_entries, a_node_entry, a_pair_entry, an_explicit_entry, an_implicit_entry, an_explicit_pair, a_keyed_pair, an_unkeyed_pair, explicit_with, explicit_without, key_alone, key_and_value, value_alone, empty_value, a_value, a_key, a_block_scalar, a_block_scalar_with, a_block_collection, a_block_collection_with, flow_in_block, a_last_entry, an_entry_before, a_dash_entry, an_explicit_entry_with, an_explicit_key_alone, a_keyed_entry, an_unkeyed_entry, a_block_value, an_empty_block_value, a_compact_collection, an_indented_node, nothing_indented}
use Rattle.yf_grammar.specs.Productions.ReadParts.{BlankSince, blank_line, past_gap, NotedSince, noted, not_noted, Noting, no_event, without_entry, with_entry}
use Rattle.yf_grammar.proofs.FlowReader.FlowStarts.{may_forward, may_line_forward}
use Rattle.yf_grammar.proofs.Prefixes.PrefixTexts.{Alike, alike_back, alike_next}
use Rattle.yf_grammar.proofs.Prefixes.PrefixLines.{passes_there, break_there}
use Rattle.yf_grammar.proofs.Prefixes.PrefixComments.{blank_alike}
use Rattle.yf_grammar.proofs.Prefixes.PrefixNodes.{derived_order}

-- no entry begins after the offset
pub data Begun (k : ℕ) : List EventInText → Type 0 where
  none_begun : Begun k []
  one_begun : {e : EventInText} {es : List EventInText} → ((f : Entry) → e.entry ≡ Some f → f.start ≤ k) → Begun k es → Begun k (e ∷ es)

pub record Starts (k : ℕ) (x : Meaning) : Type 0 where
  pub begun : Begun k x.events

module _ {k : ℕ} where
  begun_join : {x y : List EventInText} → Begun k x → Begun k y → Begun k (x ++ y)
  begun_join none_begun b = b
  begun_join (one_begun e a) b = one_begun e (begun_join a b)

  no_entry : {o : Option Entry} → o ≡ None → (f : Entry) → o ≡ Some f → f.start ≤ k
  no_entry p f q = absurd cc

  single_begun : (e : EventInText) → e.entry ≡ None → Begun k (e ∷ [])
  single_begun e p = one_begun (no_entry p) none_begun

  entering_begun : {i : ℕ} (colon : Option ℕ) {x : Meaning} → i ≤ k → Starts k x → Starts k (entering i colon x)
  unfolding entering
  entering_begun {i} colon {x} l b = record { begun = go b.begun } where
    start : (f : Entry) → Some (record { start = i; colon = colon; blank_before = false }) ≡ Some f → f.start ≤ k
    start f q = subst (λ z. z.start ≤ k) (same_Some (record { start = i; colon = colon; blank_before = false }) f q) l

    go : {es : List EventInText} → Begun k es → Begun k (first_entering (record { start = i; colon = colon; blank_before = false }) es)
    go none_begun = none_begun
    go (one_begun e b) = one_begun start b

  with_begun : (props : PropsValue) (tag : Option ℕ) (i j : ℕ) {x : Meaning} → Starts k x → Starts k (with_props props tag i j x)
  unfolding with_props
  with_begun props tag i j {x} b = record { begun = go b.begun } where
    go : {es : List EventInText} → Begun k es → Begun k (first_with props tag i j es)
    go none_begun = none_begun
    go (one_begun e b) = one_begun e b

  collection_begun : (s flow : Bool) (i j : ℕ) {x : Meaning} → Starts k x → Starts k (collection s flow i j x)
  unfolding collection plain_event
  collection_begun s flow i j b = record { begun = one_begun (no_entry refl) (begun_join b.begun (single_begun (plain_event (end_of s) None) refl)) }

  joined_begun : {x y : Meaning} → Starts k x → Starts k y → Starts k (x ⊕ y)
  unfolding ◌⊕◌
  joined_begun a b = record { begun = begun_join a.begun b.begun }

  after_begun : (cs : List CommentValue) {x : Meaning} → Starts k x → Starts k (meaning_after cs x)
  unfolding meaning_after
  after_begun cs b = record { begun = b.begun }

  noting_begun : (cs : List CommentValue) {x : Meaning} → Starts k x → Starts k (noting x cs)
  unfolding noting
  noting_begun cs b = record { begun = b.begun }

  empty_begun : (i : ℕ) → Starts k (empty_node i)
  unfolding empty_node plain_event
  empty_begun i = record { begun = one_begun (no_entry refl) none_begun }

  leaf_begun : (style : ScalarStyle) (text escapes : List ℕ) (i j : ℕ) → Starts k (scalar style text escapes i j)
  unfolding scalar plain_event
  leaf_begun style text escapes i j = record { begun = one_begun (no_entry refl) none_begun }

  alias_begun : (name : List ℕ) (i j : ℕ) → Starts k (alias_to name i j)
  unfolding alias_to plain_event
  alias_begun name i j = record { begun = one_begun (no_entry refl) none_begun }

abbrev pub BegunClaim : ℕ → Production → Meaning → Type 0
BegunClaim k (FlowNode n c) x = Starts k x
BegunClaim k (NodeOf json n c) x = Starts k x
BegunClaim k (JsonContent n c) x = Starts k x
BegunClaim k (Entries s n c) x = Starts k x
BegunClaim k (EntryOf s n c) x = Starts k x
BegunClaim k (Pair n c) x = Starts k x
BegunClaim k (Explicit n c s) x = s ≤ k → Starts k x
BegunClaim k (Implicit n c s) x = s ≤ k → Starts k x
BegunClaim k (ValueOf json n c) x = Starts k x
BegunClaim k (KeyOf json c) x = Starts k x
BegunClaim k (BlockNode n c) x = Starts k x
BegunClaim k (BlockEntries s m) x = Starts k x
BegunClaim k (BlockEntry s m) x = Starts k x
BegunClaim k (BlockIndented m c) x = Starts k x
BegunClaim k (BlockValue m) x = Starts k x

module _ {t : List ℕ} {k : ℕ} where
  scalar_begun : {n : ℤ} {i j : ℕ} {x : Meaning} → BlockScalar t n i j x → Starts k x
  scalar_begun (block_scalar h b l) = record { begun = one_begun (no_entry refl) none_begun }

  pub derived_begun : {h i j : ℕ} {p : Production} {x : Meaning} → Derives t h p i j x → j ≤ k → BegunClaim k p x
  derived_begun (flow_node d) l = derived_begun d l
  derived_begun (an_alias {i = i} {j = j} {name = name} b a) l = alias_begun name i j
  derived_begun (a_plain d) l = leaf_begun _ _ _ _ _
  derived_begun (a_plain_with {i = i} {g = g} {p = p} {cs = cs} b q d) l = after_begun _ (with_begun p.props p.tag_offset i g (leaf_begun _ _ _ _ _))
  derived_begun (properties_alone {i = i} {j = j} {p = p} b q) l = after_begun _ (with_begun p.props p.tag_offset i j (empty_begun j))
  derived_begun (a_json d) l = derived_begun d l
  derived_begun (a_json_with {i = i} {g = g} {p = p} b q d) l = after_begun _ (with_begun p.props p.tag_offset i g (derived_begun d l))
  derived_begun (a_single q) l = leaf_begun _ _ _ _ _
  derived_begun (a_double q) l = leaf_begun _ _ _ _ _
  derived_begun (an_empty_collection {i = i} {j = j} s b o q e) l = collection_begun s true i (j + 1) (record { begun = none_begun })
  derived_begun (a_collection {i = i} {j = j} s b o q d e) l = collection_begun s true i (j + 1) (after_begun _ (derived_begun d (omega arith)))
  derived_begun (last_entry d q) l = let g = may_forward q in noting_begun _ (derived_begun d (omega arith))
  derived_begun (last_entry_with_comma d q e r) l = let g = may_forward q in let h = may_forward r in noting_begun _ (derived_begun d (omega arith))
  derived_begun (more_entries d q e r g) l =
      let a = may_forward q in let b = may_forward r in let o = derived_order g in
      joined_begun (noting_begun _ (derived_begun d (omega arith))) (derived_begun g l)
  derived_begun (a_node_entry d) l = let o = derived_order d in entering_begun None (omega arith) (derived_begun d l)
  derived_begun (a_pair_entry {i = i} {x = x} d) l = let o = derived_order d in entering_begun None (omega arith) (collection_begun false true i x.finish (derived_begun d l))
  derived_begun (an_explicit_entry e q d) l = let o = derived_order d in let a = separate_forward q in after_begun _ (derived_begun d l (omega arith))
  derived_begun (an_implicit_entry d) l = let o = derived_order d in derived_begun d l (omega arith)
  derived_begun (an_explicit_pair e q d) l = let o = derived_order d in let a = separate_forward q in after_begun _ (derived_begun d l (omega arith))
  derived_begun (a_keyed_pair {k = m} d e) l =
      let o = derived_order d in let a = derived_order e in
      joined_begun (entering_begun (Some m) (omega arith) (derived_begun d (omega arith))) (derived_begun e l)
  derived_begun (an_unkeyed_pair {i = i} d) l = let o = derived_order d in joined_begun (entering_begun (Some i) (omega arith) (empty_begun i)) (derived_begun d l)
  derived_begun (explicit_with d) l = derived_begun d l
  derived_begun (explicit_without {s = s} b) l = λ m. joined_begun (entering_begun None m (empty_begun (s + 1))) (empty_begun (s + 1))
  derived_begun (key_alone {x = x} d) l = λ m. joined_begun (entering_begun None m (derived_begun d l)) (empty_begun x.finish)
  derived_begun (key_and_value {k = m} d q e) l =
      let a = may_forward q in let o = derived_order e in
      λ g. joined_begun (noting_begun _ (entering_begun (Some m) g (derived_begun d (omega arith)))) (derived_begun e l)
  derived_begun (value_alone {i = i} d) l = λ m. joined_begun (entering_begun (Some i) m (empty_begun i)) (derived_begun d l)
  derived_begun (empty_value {i = i} b e m) l = empty_begun (i + 1)
  derived_begun (a_value cs e m q d) l = after_begun cs (derived_begun d l)
  derived_begun (a_key d q m) l = let a = may_line_forward q in derived_begun d (omega arith)
  derived_begun (a_block_scalar b q d) l = after_begun _ (scalar_begun d)
  derived_begun (a_block_scalar_with {f = f} {g = g} {p = p} b q r w d) l = after_begun _ (with_begun p.props p.tag_offset f g (scalar_begun d))
  derived_begun (a_block_collection {k = a} {m = m} {sequence = s} {x = x} b e q o d) l = after_begun _ (collection_begun s false (a + m) x.finish (derived_begun d l))
  derived_begun (a_block_collection_with {f = f} {g = g} {k = a} {m = m} {sequence = s} {p = p} {x = x} b q r e w o d) l =
      after_begun _ (with_begun p.props p.tag_offset f g (collection_begun s false (a + m) x.finish (derived_begun d l)))
  derived_begun (flow_in_block b q d e) l = let a = line_end_forward e in after_begun _ (noting_begun _ (derived_begun d (omega arith)))
  derived_begun (a_last_entry d) l = derived_begun d l
  derived_begun (an_entry_before d q e) l = let a = derived_order e in joined_begun (derived_begun d (omega arith)) (derived_begun e l)
  derived_begun (a_dash_entry e n d) l = let a = derived_order d in entering_begun None (omega arith) (derived_begun d l)
  derived_begun (an_explicit_entry_with {m = m} {k = a} e w d c g) l =
      let o = derived_order d in let z = derived_order g in
      joined_begun (entering_begun (Some (a + m)) (omega arith) (derived_begun d (omega arith))) (derived_begun g l)
  derived_begun (an_explicit_key_alone {x = x} e w d n) l =
      let o = derived_order d in
      joined_begun (entering_begun None (omega arith) (derived_begun d l)) (empty_begun x.finish)
  derived_begun (a_keyed_entry {k = a} d e) l =
      let o = derived_order d in let z = derived_order e in
      joined_begun (entering_begun (Some a) (omega arith) (derived_begun d (omega arith))) (derived_begun e l)
  derived_begun (an_unkeyed_entry {i = i} d) l = let o = derived_order d in joined_begun (entering_begun (Some i) (omega arith) (empty_begun i)) (derived_begun d l)
  derived_begun (a_block_value e d) l = derived_begun d l
  derived_begun (an_empty_block_value {i = i} e d) l = noting_begun _ (empty_begun (i + 1))
  derived_begun (a_compact_collection {l = a} {i = i} {sequence = s} {x = x} b q d) l = collection_begun s false (i + a) x.finish (derived_begun d l)
  derived_begun (an_indented_node d) l = derived_begun d l
  derived_begun (nothing_indented {i = i} b d) l = noting_begun _ (empty_begun i)

-- notes
module _ {t s : List ℕ} {k : ℕ} (a : Alike t s k) where
  since_there : {floor i : ℕ} → BlankSince t floor i → i ≤ k → BlankSince s floor i
  since_there (blank_line f d b) l = let g = break_forward b in blank_line f (blank_alike a d (omega arith)) (break_there a b l)
  since_there {floor = floor} (past_gap {i = i} d e) l =
      let g = next_later t i in
      let m : i < k = omega arith in
      subst (λ j. BlankSince s floor j) (sym (alike_next a i m)) (past_gap (since_there d (omega arith)) (passes_there a is_gap i m e))

module _ {t s : List ℕ} {k : ℕ} (a : Alike t s k) where
  noted_since_there : {floor i : ℕ} {b : Bool} → NotedSince t floor i b → i ≤ k → NotedSince s floor i b
  noted_since_there (noted d) l = noted (since_there a d l)
  noted_since_there (not_noted n) l = not_noted (λ d. n (since_there (alike_back a) d l))

  begun_first : {e : EventInText} {es : List EventInText} → Begun k (e ∷ es) → (f : Entry) → e.entry ≡ Some f → f.start ≤ k
  begun_first (one_begun e b) = e

  begun_rest : {e : EventInText} {es : List EventInText} → Begun k (e ∷ es) → Begun k es
  begun_rest (one_begun e b) = b

  pub noting_there : {floor : ℕ} {x y : List EventInText} → Noting t floor x y → Begun k x → Noting s floor x y
  noting_there no_event b = no_event
  noting_there (without_entry e n) b = without_entry e (noting_there n (begun_rest b))
  noting_there (with_entry entry e d n) b = with_entry entry e (noted_since_there d (begun_first b entry e)) (noting_there n (begun_rest b))
