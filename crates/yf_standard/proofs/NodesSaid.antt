-- What the tokens of nodes (chapters 7 and 8) state, in a document's node: a clause for each production, and so for all
-- derivations.
use Rattle.std.proofs.Common.{◌≡◌, ℕ, ◌<◌, ◌≤◌, ℤ, pos, ◌+ℤ◌, Bool, false, true, true≢false, List, [], ◌∷◌, ◌++◌, Some, None, map, encode_utf8_all, refl, sym, ap, ◌∙◌, subst, append_assoc, arith}
use Rattle.yf_chars.specs.declared.context.Ctx.{Ctx}
use Rattle.yf_chars.specs.declared.context.Ctx.TheVariants.{BlockOut, BlockIn, FlowOut, FlowIn, BlockKey, FlowKey}
use Rattle.yf_lines.specs.Basic.{Indent, SeparateInLine, Clear, is_block}
use Rattle.yf_comments.specs.Comments.{LineEnd, Separate}
use Rattle.yf_plain.specs.Plain.{PlainText}
use Rattle.yf_props.specs.Names.{Anchor, tag_only, anchor_only, tag_with_anchor}
use Rattle.yf_props.specs.Names.Properties.{by_tag, by_anchor, tag_first, anchor_first}
use Rattle.yf_props.specs.Props.{PropsValue, no_props}
use Rattle.yf_quoted.specs.Quoted.{SingleQuoted, DoubleQuoted, text_of, bad_escapes}
use Rattle.yf_events.specs.Event.{EventValue, EventInText, scalar_node}
use Rattle.yf_events.specs.declared.event.ScalarStyle.{ScalarStyle}
use Rattle.yf_events.specs.declared.event.ScalarStyle.TheVariants.{Plain, Single, Double, Literal, Folded}
use Rattle.yf_grammar.specs.Productions.BlockScalar.{BlockScalar}
use Rattle.yf_grammar.specs.Productions.BlockScalar.BlockScalar.{block_scalar}
use Rattle.yf_grammar.specs.Productions.Meaning.{Meaning, event_with}
use Rattle.yf_grammar.specs.Productions.Grammar.{in_flow, least_column}
use Rattle.yf_grammar.specs.Productions.Grammar.Production.{FlowNode, NodeOf, Entries, Entry, Pair, ValueOf, KeyOf}
use Rattle.yf_grammar.specs.Productions.Grammar.Derives.{a_single, a_double}
use Rattle.yf_standard.specs.Notation.{Form}
use Rattle.yf_standard.specs.Notation.Form.{s-indent, s-separate-in-line, s-l-comments, s-separate, c-ns-properties, c-ns-tag-property, c-ns-anchor-property, c-ns-alias-node, e-scalar, e-node, c-double-quoted, c-single-quoted, ns-plain, in-flow, c-flow-sequence, ns-s-flow-seq-entries, ns-flow-seq-entry, c-flow-mapping, ns-s-flow-map-entries, ns-flow-map-entry, ns-flow-map-explicit-entry, ns-flow-map-implicit-entry, ns-flow-map-yaml-key-entry, c-ns-flow-map-empty-key-entry, c-ns-flow-map-separate-value, c-ns-flow-map-json-key-entry, c-ns-flow-map-adjacent-value, ns-flow-pair, ns-flow-pair-entry, ns-flow-pair-yaml-key-entry, c-ns-flow-pair-json-key-entry, ns-s-implicit-yaml-key, c-s-implicit-json-key, ns-flow-yaml-content, c-flow-json-content, ns-flow-content, ns-flow-yaml-node, c-flow-json-node, ns-flow-node}
use Rattle.yf_standard.specs.Notation.Form.{c-l+literal, c-l+folded, l+block-sequence, c-l-block-seq-entry, s-l+block-indented, ns-l-compact-sequence, l+block-mapping, ns-l-block-map-entry, c-l-block-map-explicit-entry, c-l-block-map-explicit-key, l-block-map-explicit-value, ns-l-block-map-implicit-entry, ns-s-block-map-implicit-key, c-l-block-map-implicit-value, ns-l-compact-mapping, s-l+block-node, s-l+flow-in-block, s-l+block-in-block, s-l+block-scalar, s-l+block-collection, seq-space}
use Rattle.yf_standard.specs.Characters.{c-sequence-start, c-sequence-end, c-mapping-start, c-mapping-end, c-collect-entry, c-mapping-key, c-mapping-value, c-sequence-entry}
use Rattle.yf_standard.specs.Productions.{rule}
use Rattle.yf_standard.specs.Rules.{read}
use Rattle.yf_standard.specs.Literal.{Derived, kind}
use Rattle.yf_standard.specs.Literal.Kind.{PRODUCTION, COLLECTION}
use Rattle.yf_standard.specs.Literal.Derived.{by_rule}
use Rattle.yf_standard.specs.Contents.{Mark, marks, pieces, meant, content, content_made}
use Rattle.yf_standard.specs.Tokens.{Token, notes, tokens, no_tokens, making_tokens, tokens_made}
use Rattle.yf_standard.specs.Tokens.Token.{an_anchor, a_tag, a_scalar}
use Rattle.yf_standard.specs.TokenLaws.{BlockScalarMeans}
use Rattle.yf_standard.specs.Readings.{Said, said}
use Rattle.yf_standard.proofs.Zones.{Zone, clear_within}
use Rattle.yf_standard.proofs.Closed.{root_known, not_opening, is_collection}
use Rattle.yf_standard.proofs.Meant.{Then, Either, Perhaps, FormMeans, Meanings, means}
use Rattle.yf_standard.proofs.Meant.Then.{both}
use Rattle.yf_standard.proofs.Meant.Either.{left, right}
use Rattle.yf_standard.proofs.Meant.Perhaps.{missing, given}
use Rattle.yf_standard.proofs.Meant.Empty.{empty}
use Rattle.yf_standard.proofs.BasicsMeant.{Quiet, Spells}
use Rattle.yf_standard.proofs.BasicsMeant.Spells.{spelled}
use Rattle.yf_standard.proofs.ContentAdded.{Adds, contents}
use Rattle.yf_standard.proofs.CommentsMeant.{Noted}
use Rattle.yf_standard.proofs.CommentsMeant.Noted.{noted}
use Rattle.yf_standard.proofs.NamesMeant.{Anchored, Aliased, Tagged}
use Rattle.yf_standard.proofs.NamesMeant.Anchored.{anchored}
use Rattle.yf_standard.proofs.NamesMeant.Tagged.{tagged}
use Rattle.yf_standard.proofs.TokensAdded.{Has, names}
use Rattle.yf_standard.proofs.ScalarsMean.{literal_scalars, folded_scalars}
use Rattle.yf_standard.proofs.SaidParts.{SaysNode, notes_said, same_said, mark_escapes, mark_pieces, says_scalar, says_text}
use Rattle.yf_standard.proofs.FlowSaid.{SaidIn, ContentSaid, ContentIn, PlainSaid, Unwritten, Propped, ExplicitIn, ImplicitIn, Keyless, FlowContent, PairIn, brackets_said, mapping_parts, entries_said, map_entry_said, pair_said, explicit_said, key_entry_said, empty_key_said, keyless_entry_said, separate_value_said, adjacent_value_said, keyed_pair_said, unkeyed_pair_said, key_said, yaml_node_said, json_node_said, flow_node_said, seq_entry_said}
use Rattle.yf_standard.proofs.FlowSaid.PlainSaid.{plain_said}
use Rattle.yf_standard.proofs.FlowSaid.Unwritten.{unwritten}
use Rattle.yf_standard.proofs.FlowSaid.PairIn.{pair_in}
use Rattle.yf_standard.proofs.BlockSaid.{EntryIs, IndentedIs, ValueIs, BlockIs, CompactIs, ColumnIs, QuestionIs, ColonIs, KeyIs, ScalarSaid, compact_said, column_said, dash_said, indented_said, question_said, colon_said, explicit_entry_said, implicit_entry_said, value_said, flow_in_block_said, block_scalar_said, seq_space_said, collection_said}

abbrev with_tag : ℕ → Said → Said
with_tag i s = record s { tags = i ∷ s.tags }

-- [96]
pub props_said : {t : List ℕ} {n : ℤ} {c : Ctx} {i j : ℕ} {y : List Token}
    → Either (Then (Tagged t) (Perhaps (Then (Noted (Separate t n c)) (Anchored t)))) (Then (Anchored t) (Perhaps (Then (Noted (Separate t n c)) (Tagged t)))) i j y → Propped t n c i j y
unfolding said
props_said {i = i} (left (both (tagged {tag = tag} d) missing)) = record { value = tag_only i tag; derived = by_tag d; says = record { all = λ z. refl } }
props_said {i = i} (left (both (tagged {tag = tag} d) (given (both (noted {x = x} s) (anchored {name = name} a))))) = record {
  value = tag_with_anchor i tag name x;
  derived = tag_first d s a;
  says = record {
    all = λ z.
        let p : PropsValue = record { anchor = None; tag = Some tag } in
        ap (λ v. with_tag i (said p v)) (append_assoc (notes x) (an_anchor name ∷ []) z) ∙ ap (λ s. with_tag i s) (notes_said p x (an_anchor name ∷ z));
  };
}
props_said (right (both (anchored {name = name} a) missing)) = record { value = anchor_only name; derived = by_anchor a; says = record { all = λ z. refl } }
props_said {t} {n} {c} {i} {j} (right (both {k = h} (anchored {name = name} a) (given (both {k = k} (noted {x = x} s) d)))) = go a s d where
  go : {k : ℕ} {y : List Token} → Anchor t i h name → Separate t n c h k x → Tagged t k j y → Propped t n c i j (an_anchor name ∷ (notes x ++ y))
  go {k} a s (tagged {tag = tag} d) = record {
    value = tag_with_anchor k tag name x;
    derived = anchor_first a s d;
    says = record {
      all = λ z.
          let p : PropsValue = record { anchor = Some name; tag = None } in
          ap (λ v. said p v) (append_assoc (notes x) (a_tag k tag ∷ []) z) ∙ notes_said p x (a_tag k tag ∷ z);
    };
  }

-- scalars
text_said : {t : List ℕ} {n : ℤ} {c : Ctx} {i j : ℕ} {y : List Mark} → Spells (PlainText t n c) i j y → PlainSaid t n c i j (a_scalar Plain y ∷ [])
text_said (spelled d) = plain_said d

single_said : {t : List ℕ} {e : ℕ} {n : ℤ} {c : Ctx} {i j : ℕ} {y : List Mark} → Spells (SingleQuoted t n c) i j y → ContentSaid t e n c i j (a_scalar Single y ∷ [])
single_said {i = i} {j = j} (spelled {x = u} d) = record { height = 0; meaning = _; node = a_single d; fits = omega arith; says = says_text Single u i j }

double_said : {t : List ℕ} {e : ℕ} {n : ℤ} {c : Ctx} {i j : ℕ} (y : List Mark) → DoubleQuoted t n c i j (pieces y) → ContentSaid t e n c i j (a_scalar Double y ∷ [])
double_said {i = i} {j = j} y d = record { height = 0; meaning = _; node = a_double d; fits = omega arith; says = says_scalar Double y i j }

-- [170] and [174]
first_of : EventValue → List EventValue → EventValue
first_of d [] = d
first_of d (e ∷ es) = e

abbrev with_scalar : PropsValue → ScalarStyle → List Mark → Said → Said
with_scalar p style y s = record s { events = scalar_node p style (encode_utf8_all (text_of (pieces y))) ∷ s.events; escapes = bad_escapes (pieces y) ++ s.escapes }

scalar_says : {style : ScalarStyle} {y : List Mark} {x : Meaning} (u : List ℕ) (f : EventInText) → x.events ≡ f ∷ [] → f.tag_offset ≡ None → x.escapes ≡ []
    → f.event ≡ scalar_node no_props style (encode_utf8_all u) → y ≡ marks u → SaysNode (a_scalar style y ∷ notes x.comments) x
unfolding said
scalar_says {style} {y} {x} u f one tag none e q = record {
  first = f;
  others = [];
  are = one;
  untagged = tag;
  bare = ap (λ v. event_with no_props v) e ∙ sym e;
  says = λ p z.
      let s : Said = said no_props z in
      ap (λ s. with_scalar p style y s) (notes_said no_props x.comments z)
      ∙ same_said (ap (λ v. v ∷ s.events) (ap (λ v. scalar_node p style (encode_utf8_all (text_of (pieces v)))) q ∙ ap (λ v. scalar_node p style (encode_utf8_all v)) (mark_pieces u) ∙ sym (ap (λ v. event_with p v) e))) refl refl
      (ap (λ v. v ++ s.escapes) (ap (λ v. bad_escapes (pieces v)) q ∙ mark_escapes u ∙ sym none));
}

scalar_said : {t : List ℕ} {n : ℤ} {i j : ℕ} {style : ScalarStyle} {x : Meaning} {y : List Mark} (u : List ℕ) → BlockScalar t n i j x → y ≡ marks u
    → map (λ e. e.event) x.events ≡ scalar_node no_props style (encode_utf8_all u) ∷ [] → SaysNode (a_scalar style y ∷ notes x.comments) x
unfolding first_of
scalar_said {style = style} u (block_scalar h b l) q e = scalar_says u _ refl refl refl (ap (λ v. first_of (scalar_node no_props style []) v) e) q

whole_said : {t : List ℕ} {n : ℤ} {f : Bool} {i j : ℕ} {y : List Mark} {z : List Token} → BlockScalarMeans t n f i j y z → ScalarSaid t n i j z
whole_said {t} {n} {i = i} {j = j} b = record { value = b.value; derived = b.derived; says = subst (λ z. SaysNode z b.value) (sym b.tokens) (scalar_said b.text b.derived b.added b.event) }

no_collection : {A : Type 0} → COLLECTION ≡ PRODUCTION → A
unfolding is_collection
no_collection q = absurd (true≢false (ap is_collection q))

-- what the productions of nodes state
unfoldable pub Tells : (t : List ℕ) → ℕ → Form → ℕ → ℕ → List Token → Type 0
Tells t e (s-indent n) i j y = Quiet (Indent t n) i j y
Tells t e s-separate-in-line i j y = Quiet (SeparateInLine t) i j y
Tells t e s-l-comments i j y = Noted (LineEnd t) i j y
Tells t e (s-separate n c) i j y = Noted (Separate t n c) i j y
Tells t e c-ns-tag-property i j y = Tagged t i j y
Tells t e c-ns-anchor-property i j y = Anchored t i j y
Tells t e (c-ns-properties n c) i j y = Propped t n c i j y
Tells t e c-ns-alias-node i j y = Aliased t i j y
Tells t e e-scalar i j y = Unwritten i j y
Tells t e e-node i j y = Unwritten i j y
Tells t e (c-double-quoted n c) i j y = ContentSaid t e n c i j y
Tells t e (c-single-quoted n c) i j y = ContentSaid t e n c i j y
Tells t e (ns-plain n c) i j y = PlainSaid t n c i j y
Tells t e (in-flow n c) i j y = SaidIn t e c (Entries true n (in_flow c)) i j y
Tells t e (c-flow-sequence n c) i j y = ContentIn t e n c i j y
Tells t e (ns-s-flow-seq-entries n c) i j y = SaidIn t e c (Entries true n c) i j y
Tells t e (ns-flow-seq-entry n c) i j y = SaidIn t e c (Entry true n c) i j y
Tells t e (c-flow-mapping n c) i j y = ContentIn t e n c i j y
Tells t e (ns-s-flow-map-entries n c) i j y = SaidIn t e c (Entries false n c) i j y
Tells t e (ns-flow-map-entry n c) i j y = SaidIn t e c (Entry false n c) i j y
Tells t e (ns-flow-map-explicit-entry n c) i j y = ExplicitIn t e n c i j y
Tells t e (ns-flow-map-implicit-entry n c) i j y = ImplicitIn t e n c i j y
Tells t e (ns-flow-map-yaml-key-entry n c) i j y = ImplicitIn t e n c i j y
Tells t e (c-ns-flow-map-empty-key-entry n c) i j y = Keyless t e n c i j y
Tells t e (c-ns-flow-map-separate-value n c) i j y = SaidIn t e c (ValueOf false n c) i j y
Tells t e (c-ns-flow-map-json-key-entry n c) i j y = ImplicitIn t e n c i j y
Tells t e (c-ns-flow-map-adjacent-value n c) i j y = SaidIn t e c (ValueOf true n c) i j y
Tells t e (ns-flow-pair n c) i j y = PairIn t e n c i j y
Tells t e (ns-flow-pair-entry n c) i j y = SaidIn t e c (Pair n c) i j y
Tells t e (ns-flow-pair-yaml-key-entry n c) i j y = SaidIn t e c (Pair n c) i j y
Tells t e (c-ns-flow-pair-json-key-entry n c) i j y = SaidIn t e c (Pair n c) i j y
Tells t e (ns-s-implicit-yaml-key c) i j y = SaidIn t e c (KeyOf false c) i j y
Tells t e (c-s-implicit-json-key c) i j y = SaidIn t e c (KeyOf true c) i j y
Tells t e (ns-flow-yaml-content n c) i j y = PlainSaid t n c i j y
Tells t e (c-flow-json-content n c) i j y = ContentIn t e n c i j y
Tells t e (ns-flow-content n c) i j y = FlowContent t e n c i j y
Tells t e (ns-flow-yaml-node n c) i j y = SaidIn t e c (NodeOf false n c) i j y
Tells t e (c-flow-json-node n c) i j y = SaidIn t e c (NodeOf true n c) i j y
Tells t e (ns-flow-node n c) i j y = SaidIn t e c (FlowNode n c) i j y
Tells t e (c-l+literal n) i j y = ScalarSaid t n i j y
Tells t e (c-l+folded n) i j y = ScalarSaid t n i j y
Tells t e (l+block-sequence n) i j y = ColumnIs t e true (n +ℤ pos 1) i j y
Tells t e (l+block-mapping n) i j y = ColumnIs t e false (n +ℤ pos 1) i j y
Tells t e (c-l-block-seq-entry n) i j y = EntryIs t e true n i j y
Tells t e (ns-l-block-map-entry n) i j y = EntryIs t e false n i j y
Tells t e (c-l-block-map-explicit-entry n) i j y = EntryIs t e false n i j y
Tells t e (ns-l-block-map-implicit-entry n) i j y = EntryIs t e false n i j y
Tells t e (s-l+block-indented n BlockOut) i j y = IndentedIs t e n BlockOut i j y
Tells t e (s-l+block-indented n BlockIn) i j y = IndentedIs t e n BlockIn i j y
Tells t e (ns-l-compact-sequence n) i j y = CompactIs t e true n i j y
Tells t e (ns-l-compact-mapping n) i j y = CompactIs t e false n i j y
Tells t e (c-l-block-map-explicit-key n) i j y = (m : ℕ) → n ≡ pos m → QuestionIs t e m i j y
Tells t e (l-block-map-explicit-value n) i j y = (m : ℕ) → n ≡ pos m → ColonIs t e m i j y
Tells t e ns-s-block-map-implicit-key i j y = KeyIs t e i j y
Tells t e (c-l-block-map-implicit-value n) i j y = ValueIs t e n i j y
Tells t e (s-l+block-node n c) i j y = BlockIs t e n c i j y
Tells t e (s-l+flow-in-block n) i j y = (c : Ctx) → BlockIs t e n c i j y
Tells t e (s-l+block-in-block n c) i j y = BlockIs t e n c i j y
Tells t e (s-l+block-scalar n c) i j y = BlockIs t e n c i j y
Tells t e (s-l+block-collection n c) i j y = BlockIs t e n c i j y
Tells t e (seq-space n c) i j y = is_block c ≡ true → ColumnIs t e true (least_column true n c) i j y
Tells t e f i j y = Unit {0}

abbrev plain_zone : {t : List ℕ} → Zone t true → Zone t false
plain_zone {t} z = record { utf = z.utf; low = z.low; high = z.high; clear = λ q. absurd (true≢false (sym q)); root = λ q. root_known t z.utf }

module _ (t : List ℕ) (z : Zone t true) where
  clear_here : {i j : ℕ} → z.low ≤ i → j ≤ z.high → Clear t i j
  clear_here l h = clear_within z l h

  tells_by : (e : ℕ) (f : Form) (i j : ℕ) (y : List Token) → kind f ≡ PRODUCTION → z.low ≤ i → j ≤ z.high → (d : Derived (read t) t e (rule f) i j)
      → y ≡ tokens d → FormMeans t (read t) no_tokens (Tells t) e (rule f) i j y → Tells t e f i j (making_tokens (read t) t e f i j d y)
  unfolding Tells Has Adds rule kind read meant content_made tokens_made c-sequence-start c-sequence-end c-mapping-start c-mapping-end c-collect-entry c-mapping-key c-mapping-value c-sequence-entry
  tells_by e (s-indent n) i j y q l h d s m = means {f = s-indent n} (names t (plain_zone z)) l h (by_rule q d)
  tells_by e s-separate-in-line i j y q l h d s m = means {f = s-separate-in-line} (names t (plain_zone z)) l h (by_rule q d)
  tells_by e s-l-comments i j y q l h d s m = subst (λ w. Noted (LineEnd t) i j w) (sym s) (means {f = s-l-comments} (names t (plain_zone z)) l h (by_rule q d))
  tells_by e (s-separate n c) i j y q l h d s m = subst (λ w. Noted (Separate t n c) i j w) (sym s) (means {f = s-separate n c} (names t (plain_zone z)) l h (by_rule q d))
  tells_by e c-ns-tag-property i j y q l h d s m = subst (λ w. Tagged t i j w) (sym s) (means {f = c-ns-tag-property} (names t (plain_zone z)) l h (by_rule q d))
  tells_by e c-ns-anchor-property i j y q l h d s m = means {f = c-ns-anchor-property} (names t (plain_zone z)) l h (by_rule q d)
  tells_by e (c-ns-properties n c) i j y q l h d s m = props_said m
  tells_by e c-ns-alias-node i j y q l h d s m = means {f = c-ns-alias-node} (names t (plain_zone z)) l h (by_rule q d)
  tells_by e e-scalar i j y q l h d s empty = unwritten
  tells_by e e-node i j y q l h d s m = m
  tells_by e (c-double-quoted n c) i j y q l h d s m =
      let f : Clear t i j → DoubleQuoted t n c i j (pieces (content_made t (c-double-quoted n c) i j (content d))) = means {f = c-double-quoted n c} (contents t (plain_zone z)) l h (by_rule q d) in
      double_said (content_made t (c-double-quoted n c) i j (content d)) (f (clear_here l h))
  tells_by e (c-single-quoted n c) i j y q l h d s m =
      let f : Clear t i j → Spells (SingleQuoted t n c) i j (content_made t (c-single-quoted n c) i j (content d)) = means {f = c-single-quoted n c} (contents t (plain_zone z)) l h (by_rule q d) in
      single_said (f (clear_here l h))
  tells_by e (ns-plain n c) i j y q l h d s m =
      let f : Spells (PlainText t n c) i j (content_made t (ns-plain n c) i j (content d)) = means {f = ns-plain n c} (contents t (plain_zone z)) l h (by_rule q d) in
      text_said f
  tells_by e (in-flow n FlowOut) i j y q l h d s m = λ b. m refl
  tells_by e (in-flow n FlowIn) i j y q l h d s m = λ b. m refl
  tells_by e (in-flow n BlockKey) i j y q l h d s m = λ b. m refl
  tells_by e (in-flow n FlowKey) i j y q l h d s m = λ b. m refl
  tells_by e (in-flow n BlockOut) i j y q l h d s m = absurd m
  tells_by e (in-flow n BlockIn) i j y q l h d s m = absurd m
  tells_by e (ns-s-flow-seq-entries n c) i j y q l h d s m = λ b. entries_said b m
  tells_by e (ns-flow-seq-entry n c) i j y q l h d s m = λ b. seq_entry_said b m
  tells_by e (ns-s-flow-map-entries n c) i j y q l h d s m = λ b. entries_said b m
  tells_by e (ns-flow-map-entry n c) i j y q l h d s m = λ b. map_entry_said b m
  tells_by e (ns-flow-map-explicit-entry n c) i j y q l h d s m = λ b o. explicit_said b o m
  tells_by e (ns-flow-map-implicit-entry n c) i j y q l h d s (left m) = m
  tells_by e (ns-flow-map-implicit-entry n c) i j y q l h d s (right (left m)) = λ b o. keyless_entry_said b o m
  tells_by e (ns-flow-map-implicit-entry n c) i j y q l h d s (right (right m)) = m
  tells_by e (ns-flow-map-yaml-key-entry n c) i j y q l h d s m = λ b o. key_entry_said b o m
  tells_by e (c-ns-flow-map-empty-key-entry n c) i j y q l h d s m = empty_key_said m
  tells_by e (c-ns-flow-map-separate-value n c) i j y q l h d s m = λ b. separate_value_said b m
  tells_by e (c-ns-flow-map-json-key-entry n c) i j y q l h d s m = λ b o. key_entry_said b o m
  tells_by e (c-ns-flow-map-adjacent-value n c) i j y q l h d s m = λ b. adjacent_value_said b m
  tells_by e (ns-flow-pair-entry n c) i j y q l h d s (left m) = m
  tells_by e (ns-flow-pair-entry n c) i j y q l h d s (right (left m)) = λ b. unkeyed_pair_said b m
  tells_by e (ns-flow-pair-entry n c) i j y q l h d s (right (right m)) = m
  tells_by e (ns-flow-pair-yaml-key-entry n c) i j y q l h d s m = λ b. keyed_pair_said b m
  tells_by e (c-ns-flow-pair-json-key-entry n c) i j y q l h d s m = λ b. keyed_pair_said b m
  tells_by e (ns-s-implicit-yaml-key c) i j y q l h d s m = λ b. key_said b m.0 m.1
  tells_by e (c-s-implicit-json-key c) i j y q l h d s m = λ b. key_said b m.0 m.1
  tells_by e (ns-flow-yaml-content n c) i j y q l h d s m = m
  tells_by e (c-flow-json-content n c) i j y q l h d s (left m) = m
  tells_by e (c-flow-json-content n c) i j y q l h d s (right (left m)) = m
  tells_by e (c-flow-json-content n c) i j y q l h d s (right (right (left m))) = λ b. m
  tells_by e (c-flow-json-content n c) i j y q l h d s (right (right (right m))) = λ b. m
  tells_by e (ns-flow-content n c) i j y q l h d s m = m
  tells_by e (ns-flow-yaml-node n c) i j y q l h d s m = λ b. yaml_node_said b m
  tells_by e (c-flow-json-node n c) i j y q l h d s m = λ b. json_node_said b m
  tells_by e (ns-flow-node n c) i j y q l h d s m = λ b. flow_node_said b m
  tells_by e (c-l+literal n) i j y q l h d s m =
      subst (λ w. ScalarSaid t n i j (a_scalar Literal (content_made t (c-l+literal n) i j (content d)) ∷ w)) (sym s) (whole_said (literal_scalars t e i j n z.utf (clear_here l h) (by_rule q d)))
  tells_by e (c-l+folded n) i j y q l h d s m =
      subst (λ w. ScalarSaid t n i j (a_scalar Folded (content_made t (c-l+folded n) i j (content d)) ∷ w)) (sym s) (whole_said (folded_scalars t e i j n z.utf (clear_here l h) (by_rule q d)))
  tells_by e (c-l-block-seq-entry n) i j y q l h d s m = dash_said m
  tells_by e (ns-l-block-map-entry n) i j y q l h d s (left m) = m
  tells_by e (ns-l-block-map-entry n) i j y q l h d s (right m) = m
  tells_by e (c-l-block-map-explicit-entry n) i j y q l h d s m = explicit_entry_said m
  tells_by e (ns-l-block-map-implicit-entry n) i j y q l h d s m = implicit_entry_said m
  tells_by e (s-l+block-indented n BlockOut) i j y q l h d s m = indented_said refl m
  tells_by e (s-l+block-indented n BlockIn) i j y q l h d s m = indented_said refl m
  tells_by e (s-l+block-indented n FlowOut) i j y q l h d s m = tt
  tells_by e (s-l+block-indented n FlowIn) i j y q l h d s m = tt
  tells_by e (s-l+block-indented n BlockKey) i j y q l h d s m = tt
  tells_by e (s-l+block-indented n FlowKey) i j y q l h d s m = tt
  tells_by e (c-l-block-map-explicit-key n) i j y q l h d s m = question_said m
  tells_by e (l-block-map-explicit-value n) i j y q l h d s m = colon_said m
  tells_by e ns-s-block-map-implicit-key i j y q l h d s m = m
  tells_by e (c-l-block-map-implicit-value n) i j y q l h d s m = value_said m
  tells_by e (s-l+block-node n c) i j y q l h d s (left m) = m
  tells_by e (s-l+block-node n c) i j y q l h d s (right m) = m c
  tells_by e (s-l+flow-in-block n) i j y q l h d s m = λ c b. flow_in_block_said b m
  tells_by e (s-l+block-in-block n c) i j y q l h d s (left m) = m
  tells_by e (s-l+block-in-block n c) i j y q l h d s (right m) = m
  tells_by e (s-l+block-scalar n c) i j y q l h d s m = λ b. block_scalar_said b m
  tells_by e (s-l+block-collection n c) i j y q l h d s m = λ b. collection_said b m
  tells_by e (seq-space n BlockOut) i j y q l h d s m = λ b. seq_space_said m
  tells_by e (seq-space n BlockIn) i j y q l h d s m = λ b. m
  tells_by e (seq-space n FlowOut) i j y q l h d s m = absurd m
  tells_by e (seq-space n FlowIn) i j y q l h d s m = absurd m
  tells_by e (seq-space n BlockKey) i j y q l h d s m = absurd m
  tells_by e (seq-space n FlowKey) i j y q l h d s m = absurd m
  tells_by e (c-flow-sequence n c) i j y q l h d s m = no_collection q
  tells_by e (c-flow-mapping n c) i j y q l h d s m = no_collection q
  tells_by e (ns-flow-pair n c) i j y q l h d s m = no_collection q
  tells_by e (l+block-sequence n) i j y q l h d s m = no_collection q
  tells_by e (l+block-mapping n) i j y q l h d s m = no_collection q
  tells_by e (ns-l-compact-sequence n) i j y q l h d s m = no_collection q
  tells_by e (ns-l-compact-mapping n) i j y q l h d s m = no_collection q
  tells_by e f i j y q l h d s m = tt

  tells_open : (r e : ℕ) (f : Form) (i j : ℕ) (y : List Token) → kind f ≡ COLLECTION → r < e → (d : Derived (read t) t r (rule f) i j) → FormMeans t (read t) no_tokens (Tells t) r (rule f) i j y
      → Tells t e f i j (making_tokens (read t) t r f i j d y)
  unfolding Tells rule kind read tokens_made is_collection c-sequence-start c-sequence-end c-mapping-start c-mapping-end c-mapping-key
  tells_open r e (c-flow-sequence n c) i j y q w d m = λ b. brackets_said true w b (omega arith) (omega arith) m
  tells_open r e (c-flow-mapping n c) i j y q w d m = λ b. brackets_said false w b (omega arith) (omega arith) (mapping_parts c m)
  tells_open r e (ns-flow-pair n c) i j y q w d m = pair_in w (λ b. pair_said b m)
  tells_open r e (l+block-sequence n) i j y q w d m = column_said n w m
  tells_open r e (l+block-mapping n) i j y q w d m = column_said n w m
  tells_open r e (ns-l-compact-sequence n) i j y q w d m = compact_said w m
  tells_open r e (ns-l-compact-mapping n) i j y q w d m = compact_said w m
  tells_open r e f i j y q w d m = not_opening refl q

  pub nodes : Meanings t (read t) z.low z.high no_tokens (making_tokens (read t) t) (Tells t)
  nodes = record {
    by = λ e f i j y q l h d s m. tells_by e f i j y q l h d s m;
    by_open = λ r e f i j y q s l h d m. tells_open r e f i j y q s d m;
  }
