-- Comment lines after a block production belong to it as well, unless it ends with a block scalar, which has one end.
use Rattle.std.proofs.Common.{◌≡◌, ℕ, ◌+◌, ◌<◌, Bool, true, false, List, ◌++◌, Option, Some, None, refl, sym, ap, ◌∙◌, arith, append_assoc, append-nil, true≢false}
use Rattle.yf_chars.specs.Chain.{Chain}
use Rattle.yf_chars.proofs.ChainLemmas.{chain_append, chain_forward}
use Rattle.yf_comments.specs.Comment.{CommentValue}
use Rattle.yf_comments.specs.Comments.{LineEnd, Row}
use Rattle.yf_comments.proofs.LineEndLemmas.{line_end_rows, rows_line_end}
use Rattle.yf_comments.proofs.RowLemmas.{row_functional}
use Rattle.yf_props.specs.Props.{PropsValue}
use Rattle.yf_grammar.specs.Productions.Meaning.{Meaning, ◌⊕◌, meaning_after, noting, empty_node, collection, with_props, entering}
use Rattle.yf_grammar.specs.Productions.Grammar.{Production, FlowNode, NodeOf, JsonContent, Entries, Entry, Pair, Explicit, Implicit, ValueOf, KeyOf, BlockNode, BlockEntries, BlockEntry, BlockIndented, BlockValue, Derives, ColonLine}
use Rattle.yf_grammar.specs.Productions.Grammar.Derives.{flow_node, an_alias, a_plain, a_plain_with, properties_alone, a_json, a_json_with, a_single, a_double, an_empty_collection, a_collection, last_entry, last_entry_with_comma, more_entries, a_node_entry, a_pair_entry, an_explicit_entry, an_implicit_entry, an_explicit_pair, a_keyed_pair, an_unkeyed_pair, explicit_with, explicit_without, key_alone, key_and_value, value_alone, empty_value, a_value, a_key, a_block_scalar, a_block_scalar_with, a_block_collection, a_block_collection_with, flow_in_block, a_last_entry, an_entry_before, a_dash_entry, an_explicit_entry_with, an_explicit_key_alone, a_keyed_entry, an_unkeyed_entry, a_block_value, an_empty_block_value, a_compact_collection, an_indented_node, nothing_indented}
use Rattle.yf_grammar.proofs.FlowReader.ParserLemmas.{moved}

-- whether it ends with a block scalar; false for flow productions
unfoldable pub by_scalar : {t : List ℕ} {h i j : ℕ} {p : Production} {x : Meaning} → Derives t h p i j x → Bool
by_scalar (flow_node _) = false
by_scalar (an_alias _ _) = false
by_scalar (a_plain _) = false
by_scalar (a_plain_with _ _ _) = false
by_scalar (properties_alone _ _) = false
by_scalar (a_json _) = false
by_scalar (a_json_with _ _ _) = false
by_scalar (a_single _) = false
by_scalar (a_double _) = false
by_scalar (an_empty_collection _ _ _ _ _) = false
by_scalar (a_collection _ _ _ _ _ _) = false
by_scalar (last_entry _ _) = false
by_scalar (last_entry_with_comma _ _ _ _) = false
by_scalar (more_entries _ _ _ _ _) = false
by_scalar (a_node_entry _) = false
by_scalar (a_pair_entry _) = false
by_scalar (an_explicit_entry _ _ _) = false
by_scalar (an_implicit_entry _) = false
by_scalar (an_explicit_pair _ _ _) = false
by_scalar (a_keyed_pair _ _) = false
by_scalar (an_unkeyed_pair _) = false
by_scalar (explicit_with _) = false
by_scalar (explicit_without _) = false
by_scalar (key_alone _) = false
by_scalar (key_and_value _ _ _) = false
by_scalar (value_alone _) = false
by_scalar (empty_value _ _ _) = false
by_scalar (a_value _ _ _ _ _) = false
by_scalar (a_key _ _ _) = false
by_scalar (a_block_scalar b s d) = true
by_scalar (a_block_scalar_with b s p q d) = true
by_scalar (a_block_collection b e s l d) = by_scalar d
by_scalar (a_block_collection_with b s p e q l d) = by_scalar d
by_scalar (flow_in_block b s d e) = false
by_scalar (a_last_entry d) = by_scalar d
by_scalar (an_entry_before d s e) = by_scalar e
by_scalar (a_dash_entry a b d) = by_scalar d
by_scalar (an_explicit_entry_with a b d g e) = by_scalar e
by_scalar (an_explicit_key_alone a b d g) = by_scalar d
by_scalar (a_keyed_entry d e) = by_scalar e
by_scalar (an_unkeyed_entry d) = by_scalar d
by_scalar (a_block_value e d) = by_scalar d
by_scalar (an_empty_block_value e g) = false
by_scalar (a_compact_collection b s d) = by_scalar d
by_scalar (an_indented_node d) = by_scalar d
by_scalar (nothing_indented b g) = false

-- comments noted after a part are noted after anything made of it
after_noting : (cs ds es : List CommentValue) (x : Meaning) → meaning_after cs (noting x (ds ++ es)) ≡ noting (meaning_after cs (noting x ds)) es
unfolding meaning_after noting
after_noting cs ds es x = ap (λ w. record x { comments = w }) (simp append_assoc)

collection_noting : (cs es : List CommentValue) (s : Bool) (i : ℕ) (x : Meaning)
    → meaning_after cs (collection s false i (noting x es).finish (noting x es)) ≡ noting (meaning_after cs (collection s false i x.finish x)) es
unfolding meaning_after noting collection
collection_noting cs es s i x = ap (λ w. record (collection s false i x.finish x) { comments = w }) (sym (append_assoc cs x.comments es))

props_noting : (cs es : List CommentValue) (p : PropsValue) (o : Option ℕ) (f g : ℕ) (s : Bool) (i : ℕ) (x : Meaning)
    → meaning_after cs (with_props p o f g (collection s false i (noting x es).finish (noting x es))) ≡ noting (meaning_after cs (with_props p o f g (collection s false i x.finish x))) es
unfolding meaning_after noting with_props collection
props_noting cs es p o f g s i x = ap (λ w. record (with_props p o f g (collection s false i x.finish x)) { comments = w }) (sym (append_assoc cs x.comments es))

compact_noting : (es : List CommentValue) (s : Bool) (i : ℕ) (x : Meaning) → collection s false i (noting x es).finish (noting x es) ≡ noting (collection s false i x.finish x) es
unfolding noting collection
compact_noting es s i x = refl

joined_noting : (es : List CommentValue) (x y : Meaning) → x ⊕ noting y es ≡ noting (x ⊕ y) es
unfolding noting ◌⊕◌
joined_noting es x y = ap (λ w. record (x ⊕ y) { comments = w }) (sym (append_assoc x.comments y.comments es))

entering_noting : (es : List CommentValue) (i : ℕ) (o : Option ℕ) (x : Meaning) → entering i o (noting x es) ≡ noting (entering i o x) es
unfolding noting entering
entering_noting es i o x = refl

lone_noting : (es : List CommentValue) (i : ℕ) (o : Option ℕ) (x : Meaning)
    → entering i o (noting x es) ⊕ empty_node (noting x es).finish ≡ noting (entering i o x ⊕ empty_node x.finish) es
unfolding noting entering ◌⊕◌ empty_node
lone_noting es i o x = ap (λ w. record (entering i o x ⊕ empty_node x.finish) { comments = w }) (append-nil (x.comments ++ es) ∙ ap (λ w. w ++ es) (sym (append-nil x.comments)))

empty_noting : (n : ℕ) (cs es : List CommentValue) → noting (empty_node n) (cs ++ es) ≡ noting (noting (empty_node n) cs) es
unfolding noting
empty_noting n cs es = ap (λ w. record (empty_node n) { comments = w }) (sym (append_assoc (empty_node n).comments cs es))

-- a number of further comment lines, and no `:` of an entry after them
pub record MoreLines (t : List ℕ) (j k : ℕ) (es : List CommentValue) : Type 0 where
  pub rows : Chain (Row t) j k es
  pub some : j < k
  pub no_colon : (m : ℕ) → ColonLine t m k → ⊥

longer_end : {t : List ℕ} {l j k : ℕ} {ds es : List CommentValue} → LineEnd t l j ds → MoreLines t j k es → LineEnd t l k (ds ++ es)
longer_end d m = let f = chain_forward row_functional (line_end_rows d) in let g = m.some in rows_line_end (chain_append (line_end_rows d) m.rows) (omega arith)

abbrev pub Extends : List ℕ → ℕ → Production → ℕ → ℕ → Meaning → Bool → Type 0
Extends t h (FlowNode n c) i j x b = Unit {0}
Extends t h (NodeOf json n c) i j x b = Unit {0}
Extends t h (JsonContent n c) i j x b = Unit {0}
Extends t h (Entries s n c) i j x b = Unit {0}
Extends t h (Entry s n c) i j x b = Unit {0}
Extends t h (Pair n c) i j x b = Unit {0}
Extends t h (Explicit n c s) i j x b = Unit {0}
Extends t h (Implicit n c s) i j x b = Unit {0}
Extends t h (ValueOf json n c) i j x b = Unit {0}
Extends t h (KeyOf json c) i j x b = Unit {0}
Extends t h (BlockNode n c) i j x b = b ≡ false → (k : ℕ) (es : List CommentValue) → MoreLines t j k es → Derives t h (BlockNode n c) i k (noting x es)
Extends t h (BlockEntries s m) i j x b = b ≡ false → (k : ℕ) (es : List CommentValue) → MoreLines t j k es → Derives t h (BlockEntries s m) i k (noting x es)
Extends t h (BlockEntry s m) i j x b = b ≡ false → (k : ℕ) (es : List CommentValue) → MoreLines t j k es → Derives t h (BlockEntry s m) i k (noting x es)
Extends t h (BlockIndented m c) i j x b = b ≡ false → (k : ℕ) (es : List CommentValue) → MoreLines t j k es → Derives t h (BlockIndented m c) i k (noting x es)
Extends t h (BlockValue m) i j x b = b ≡ false → (k : ℕ) (es : List CommentValue) → MoreLines t j k es → Derives t h (BlockValue m) i k (noting x es)

pub extended : {t : List ℕ} {h i j : ℕ} {p : Production} {x : Meaning} (d : Derives t h p i j x) → Extends t h p i j x (by_scalar d)
unfolding by_scalar
extended (flow_node _) = tt
extended (an_alias _ _) = tt
extended (a_plain _) = tt
extended (a_plain_with _ _ _) = tt
extended (properties_alone _ _) = tt
extended (a_json _) = tt
extended (a_json_with _ _ _) = tt
extended (a_single _) = tt
extended (a_double _) = tt
extended (an_empty_collection _ _ _ _ _) = tt
extended (a_collection _ _ _ _ _ _) = tt
extended (last_entry _ _) = tt
extended (last_entry_with_comma _ _ _ _) = tt
extended (more_entries _ _ _ _ _) = tt
extended (a_node_entry _) = tt
extended (a_pair_entry _) = tt
extended (an_explicit_entry _ _ _) = tt
extended (an_implicit_entry _) = tt
extended (an_explicit_pair _ _ _) = tt
extended (a_keyed_pair _ _) = tt
extended (an_unkeyed_pair _) = tt
extended (explicit_with _) = tt
extended (explicit_without _) = tt
extended (key_alone _) = tt
extended (key_and_value _ _ _) = tt
extended (value_alone _) = tt
extended (empty_value _ _ _) = tt
extended (a_value _ _ _ _ _) = tt
extended (a_key _ _ _) = tt
extended (a_block_scalar b s d) = λ f k es m. absurd (true≢false f)
extended (a_block_scalar_with b s p q d) = λ f k es m. absurd (true≢false f)
extended (a_block_collection {k = k} {m = m} {sequence = s} {cs = cs} {x = x} b e p l d) = λ f n es a.
    moved refl refl (collection_noting cs es s (k + m) x) (a_block_collection b e p l (extended d f n es a))
extended (a_block_collection_with {f = v} {g = w} {k = k} {m = m} {sequence = s} {cs = cs} {ds = ds} {p = q} {x = x} b z p e y l d) = λ f n es a.
    moved refl refl (props_noting (cs ++ q.comments ++ ds) es q.props q.tag_offset v w s (k + m) x) (a_block_collection_with b z p e y l (extended d f n es a))
extended (flow_in_block {cs = cs} {ds = ds} {x = x} b s d e) = λ f n es a. moved refl refl (after_noting cs ds es x) (flow_in_block b s d (longer_end e a))
extended (a_last_entry d) = λ f n es a. a_last_entry (extended d f n es a)
extended (an_entry_before {x = x} {y = y} d s e) = λ f n es a. moved refl refl (joined_noting es x y) (an_entry_before d s (extended e f n es a))
extended (a_dash_entry {i = i} {x = x} b c d) = λ f n es a. moved refl refl (entering_noting es i None x) (a_dash_entry b c (extended d f n es a))
extended (an_explicit_entry_with {m = m} {i = i} {k = k} {x = x} {y = y} b c d g e) = λ f n es a.
    moved refl refl (joined_noting es (entering i (Some (k + m)) x) y) (an_explicit_entry_with b c d g (extended e f n es a))
extended (an_explicit_key_alone {m = m} {i = i} {x = x} b c d g) = λ f n es a.
    moved refl refl (lone_noting es i None x) (an_explicit_key_alone b c (extended d f n es a) (a.no_colon m))
extended (a_keyed_entry {i = i} {k = k} {x = x} {y = y} d e) = λ f n es a.
    moved refl refl (joined_noting es (entering i (Some k) x) y) (a_keyed_entry d (extended e f n es a))
extended (an_unkeyed_entry {i = i} {x = x} d) = λ f n es a.
    moved refl refl (joined_noting es (entering i (Some i) (empty_node i)) x) (an_unkeyed_entry (extended d f n es a))
extended (a_block_value e d) = λ f n es a. a_block_value e (extended d f n es a)
extended (an_empty_block_value {i = i} {cs = cs} e g) = λ f n es a. moved refl refl (empty_noting (i + 1) cs es) (an_empty_block_value e (longer_end g a))
extended (a_compact_collection {l = l} {i = i} {sequence = s} {x = x} b p d) = λ f n es a.
    moved refl refl (compact_noting es s (i + l) x) (a_compact_collection b p (extended d f n es a))
extended (an_indented_node d) = λ f n es a. an_indented_node (extended d f n es a)
extended (nothing_indented {i = i} {cs = cs} b g) = λ f n es a. moved refl refl (empty_noting i cs es) (nothing_indented b (longer_end g a))
