-- With the reading rules, each production derives only texts for which its relation holds: a clause for each
-- production, and so for all derivations.
use Rattle.std.proofs.Common.{◌≡◌, ℕ, zero, suc, ◌<◌, ◌≤◌, pos, negsuc, Bool, true, false, List, [], length, refl, sym, subst, inl, inr, arith}
use Rattle.std.specs.Str.{IsUtf8}
use Rattle.yf_chars.specs.declared.context.Ctx.TheVariants.{BlockOut, BlockIn, FlowOut, FlowIn, BlockKey, FlowKey}
use Rattle.yf_lines.specs.Basic.LinePrefix.{in_block, in_flow}
use Rattle.yf_comments.specs.Comments.Separate.{in_key, in_node}
use Rattle.yf_standard.specs.Notation.{Form}
use Rattle.yf_standard.specs.Notation.Form.{b-break, b-as-line-feed, b-non-content, s-indent, s-indent-less-than, s-separate-in-line, s-line-prefix, s-block-line-prefix, s-flow-line-prefix, l-empty, b-l-trimmed, b-as-space, b-l-folded, s-flow-folded, c-nb-comment-text, b-comment, s-b-comment, l-comment, s-l-comments, s-separate, s-separate-lines, ns-plain, ns-plain-first, ns-plain-char, nb-ns-plain-in-line, ns-plain-one-line, s-ns-plain-next-line, ns-plain-multi-line}
use Rattle.yf_standard.specs.Notation.Form.{c-ns-alias-node, c-ns-properties, e-scalar, e-node, c-single-quoted, c-double-quoted, in-flow, c-flow-sequence, ns-s-flow-seq-entries, ns-flow-seq-entry, c-flow-mapping, ns-s-flow-map-entries, ns-flow-map-entry, ns-flow-map-explicit-entry, ns-flow-map-implicit-entry, ns-flow-map-yaml-key-entry, c-ns-flow-map-empty-key-entry, c-ns-flow-map-separate-value, c-ns-flow-map-json-key-entry, c-ns-flow-map-adjacent-value, ns-flow-pair, ns-flow-pair-entry, ns-flow-pair-yaml-key-entry, c-ns-flow-pair-json-key-entry, ns-s-implicit-yaml-key, c-s-implicit-json-key, ns-flow-yaml-content, c-flow-json-content, ns-flow-content, ns-flow-yaml-node, c-flow-json-node, ns-flow-node}
use Rattle.yf_standard.specs.Notation.Form.{c-l+literal, c-l+folded, l+block-sequence, c-l-block-seq-entry, s-l+block-indented, ns-l-compact-sequence, l+block-mapping, ns-l-block-map-entry, c-l-block-map-explicit-entry, c-l-block-map-explicit-key, l-block-map-explicit-value, ns-l-block-map-implicit-entry, ns-s-block-map-implicit-key, c-l-block-map-implicit-value, ns-l-compact-mapping, s-l+block-node, s-l+flow-in-block, s-l+block-in-block, s-l+block-scalar, s-l+block-collection, seq-space}
use Rattle.yf_standard.specs.Productions.{rule}
use Rattle.yf_standard.specs.Rules.{read}
use Rattle.yf_standard.specs.Literal.{Derived}
use Rattle.yf_standard.proofs.Reading.{FormRead, Closed, known}
use Rattle.yf_plain.specs.Plain.{PlainItem}
use Rattle.yf_plain.specs.Plain.PlainText.{as_key}
use Rattle.yf_standard.proofs.Plains.{first_read, char_read, item_read, line_read, next_read, multi_read}
use Rattle.yf_standard.specs.Characters.{c-anchor, c-alias, c-tag}
use Rattle.yf_standard.specs.Notation.Form.{ns-uri-char, ns-tag-char, c-tag-handle, c-primary-tag-handle, c-secondary-tag-handle, c-named-tag-handle, c-ns-tag-property, c-verbatim-tag, c-ns-shorthand-tag, c-non-specific-tag, c-ns-anchor-property, ns-anchor-name}
use Rattle.yf_standard.proofs.Basics.{char_is}
use Rattle.yf_standard.proofs.Properties.{uri_signs, uri_read, tag_char_read, handle_read, verbatim_read, tag_read, name_read, anchor_read, alias_read, properties_read}
use Rattle.yf_grammar.specs.Productions.Grammar.Production.{ValueOf}
use Rattle.yf_grammar.specs.Productions.Grammar.Derives.{a_single, a_double}
use Rattle.yf_grammar.specs.Productions.Grammar.Production.{BlockNode}
use Rattle.yf_standard.proofs.Blocks.{column_read, dash_read, explicit_entry_read, implicit_entry_read, indented_read, compact_read, question_read, colon_read, value_read, flow_in_block_read, block_scalar_read, collection_read, seq_space_out_read, dash_sign, question_sign, either_key, either_scalar, either_column}
use Rattle.yf_standard.proofs.Flows.{SomeNode, node_is, brackets_read, entries_read, map_entry_read, pair_read, explicit_read, key_entry_read, separate_value_read, adjacent_value_read, keyed_pair_read, key_read, yaml_node_read, json_node_read, flow_node_read, sequence_read, mapping_read, entries_signs, seq_entry_read, marked_signs, empty_key_read, colon_sign, unkeyed_read}
use Rattle.yf_standard.proofs.Basics.{star_chain, break_read, indent_none, indent_more, less_none, less_more, separate_in_line_read, flow_prefix_read, empty_read, trimmed_read, folded_read, flow_folded_read, comment_read, b_comment_read, rest_read, l_comment_read, comments_read, separate_lines_read}
use Rattle.std.proofs.Common.{true≢false, ap, ◌∙◌}
use Rattle.yf_lines.specs.Basic.{Clear, ForbiddenLine}
use Rattle.yf_quoted.specs.Quoted.{SingleChar}
use Rattle.yf_quoted.specs.Quoted.DoubleBreak.{folded_break}
use Rattle.yf_stream.specs.Stream.{Documents, Stream}
use Rattle.yf_standard.specs.Characters.{c-directive, c-escape, c-double-quote, c-single-quote}
use Rattle.yf_standard.specs.Notation.Chomping.{STRIP, CLIP, KEEP}
use Rattle.yf_standard.specs.Notation.Indicator.{GIVEN, DETECTED}
use Rattle.yf_standard.specs.Literal.{Kind, kind}
use Rattle.yf_standard.specs.Literal.Kind.{OPERATOR, PRODUCTION, COLLECTION}
use Rattle.yf_standard.specs.Notation.Form.{s-indent-less-or-equal, ns-tag-prefix, c-ns-local-tag-prefix, ns-global-tag-prefix, ns-directive-name, ns-directive-parameter, ns-yaml-version, ns-yaml-directive, ns-tag-directive, ns-reserved-directive, l-directive, ns-esc-8-bit, ns-esc-16-bit, ns-esc-32-bit, c-ns-esc-char, nb-double-char, ns-double-char, nb-double-one-line, nb-ns-double-in-line, s-double-escaped, s-double-break, s-double-next-line, nb-double-multi-line, nb-double-text, c-quoted-quote, nb-single-char, ns-single-char, nb-single-one-line, nb-ns-single-in-line, s-single-next-line, nb-single-multi-line, nb-single-text, c-b-block-header, c-indentation-indicator, c-chomping-indicator, b-chomped-last, l-chomped-empty, l-strip-empty, l-keep-empty, l-trail-comments, l-nb-literal-text, s-nb-folded-text, s-nb-spaced-text, l-nb-folded-lines, l-nb-spaced-lines, l-nb-same-lines, l-nb-diff-lines, b-nb-literal-next, b-l-spaced, l-literal-content, l-folded-content, l-document-prefix, c-directives-end, c-document-end, c-forbidden, l-document-suffix, l-bare-document, l-explicit-document, l-directive-document, l-any-document, l-yaml-stream}
use Rattle.yf_standard.proofs.QuotedRead.{SingleItem, hex_of_read, escape_read, double_char_read, lone_items, double_next_read, double_lines_read, double_as_lines, double_as_key, double_quoted_read, single_char_read, single_item_read, single_next_read, single_lines_read, single_as_lines, single_as_key, single_quoted_read}
use Rattle.yf_standard.proofs.ScalarsRead.{up_to_none, up_to_more, digit_read, strip_read, keep_read, header_read, last_read, trail_comments_read, strip_empty_read, keep_empty_read, literal_text_read, next_text_read, folded_text_read, spaced_text_read, spaced_break_read, folded_lines_read, spaced_lines_read, same_lines_read, diff_lines_read, literal_content_read, folded_content_read}
use Rattle.yf_standard.proofs.DirectivesRead.{directive_read}
use Rattle.yf_standard.proofs.PartsRead.{forbidden_read, names_read, version_read, parameter_read, reserved_directive_read, yaml_directive_read, tag_directive_read, local_prefix_read, global_prefix_read, double_escaped_read, prefix_read, three_read, suffix_read}
use Rattle.yf_standard.proofs.StreamsRead.{SomeRoot, directives_read}
use Rattle.yf_standard.proofs.Standing.{StandsFor}
use Rattle.yf_standard.proofs.Zones.{Zone, clear_within, literal_scalar, folded_scalar, explicit_document_read, stream_of}

unfoldable pub is_collection : Kind → Bool
is_collection OPERATOR = false
is_collection PRODUCTION = false
is_collection COLLECTION = true

no_opening : {A : Type 0} → COLLECTION ≡ PRODUCTION → A
unfolding is_collection
no_opening e = absurd (true≢false (ap is_collection e))

pub not_opening : {A : Type 0} {k : Kind} → is_collection k ≡ false → k ≡ COLLECTION → A
unfolding is_collection
not_opening e q = absurd (true≢false (sym (ap is_collection q) ∙ e))

closed_by : (t : List ℕ) (s : Bool) (z : Zone t s) (e : ℕ) (f : Form) → kind f ≡ PRODUCTION → (i j : ℕ) → z.low ≤ i → j ≤ z.high → FormRead t (read t) (StandsFor t z.low s) e (rule f) i j → StandsFor t z.low s e f i j
unfolding StandsFor rule read kind uri_signs c-anchor c-alias c-tag c-directive c-escape c-double-quote c-single-quote
closed_by t s z e b-break q i j a b d = break_read d
closed_by t s z e b-as-line-feed q i j a b d = d
closed_by t s z e b-non-content q i j a b d = d
closed_by t s z e (s-indent (pos zero)) q i j a b d = indent_none t i j d
closed_by t s z e (s-indent (pos (suc n))) q i j a b d = indent_more d.1.0 d.1.1
closed_by t s z e (s-indent (negsuc n)) q i j a b d = absurd d
closed_by t s z e (s-indent-less-than (pos zero)) q i j a b d = absurd d
closed_by t s z e (s-indent-less-than (pos (suc zero))) q i j a b d = less_none t 0 i j d
closed_by t s z e (s-indent-less-than (pos (suc (suc n)))) q i j a b (inl d) = less_more t n i d.0 j d.1.0 d.1.1
closed_by t s z e (s-indent-less-than (pos (suc (suc n)))) q i j a b (inr d) = less_none t (suc n) i j d
closed_by t s z e (s-indent-less-than (negsuc n)) q i j a b d = absurd d
closed_by t s z e s-separate-in-line q i j a b d = separate_in_line_read t i j d
closed_by t s z e (s-line-prefix n BlockOut) q i j a b d = in_block refl d
closed_by t s z e (s-line-prefix n BlockIn) q i j a b d = in_block refl d
closed_by t s z e (s-line-prefix n FlowOut) q i j a b d = in_flow refl d
closed_by t s z e (s-line-prefix n FlowIn) q i j a b d = in_flow refl d
closed_by t s z e (s-line-prefix n BlockKey) q i j a b d = absurd d
closed_by t s z e (s-line-prefix n FlowKey) q i j a b d = absurd d
closed_by t s z e (s-block-line-prefix n) q i j a b d = d
closed_by t s z e (s-flow-line-prefix n) q i j a b d = flow_prefix_read t n i j d
closed_by t s z e (l-empty n c) q i j a b d = empty_read t n c i j d
closed_by t s z e (b-l-trimmed n c) q i j a b d = trimmed_read t n c i j d
closed_by t s z e b-as-space q i j a b d = d
closed_by t s z e (b-l-folded n c) q i j a b d = folded_read t n c i j d
closed_by t s z e (s-flow-folded n) q i j a b d = flow_folded_read t n i j d
closed_by t s z e c-nb-comment-text q i j a b d = comment_read t i j z.utf d
closed_by t s z e b-comment q i j a b d = b_comment_read t i j d
closed_by t s z e s-b-comment q i j a b d = rest_read t i j d
closed_by t s z e l-comment q i j a b d = l_comment_read t i j d
closed_by t s z e s-l-comments q i j a b d = comments_read t i j d
closed_by t s z e (s-separate n BlockOut) q i j a b d = (d.0, in_node refl d.1)
closed_by t s z e (s-separate n BlockIn) q i j a b d = (d.0, in_node refl d.1)
closed_by t s z e (s-separate n FlowOut) q i j a b d = (d.0, in_node refl d.1)
closed_by t s z e (s-separate n FlowIn) q i j a b d = (d.0, in_node refl d.1)
closed_by t s z e (s-separate n BlockKey) q i j a b d = ([], in_key refl d)
closed_by t s z e (s-separate n FlowKey) q i j a b d = ([], in_key refl d)
closed_by t s z e (s-separate-lines n) q i j a b d = separate_lines_read t n i j d
closed_by t s z e (ns-plain-first c) q i j a b d = first_read t c i j d
closed_by t s z e (ns-plain-char c) q i j a b d = char_read t c i j d
closed_by t s z e (nb-ns-plain-in-line c) q i j a b d = star_chain {S = PlainItem t c} (item_read t c) d
closed_by t s z e (ns-plain-one-line c) q i j a b d = line_read t c i j d
closed_by t s z e (s-ns-plain-next-line n c) q i j a b d = next_read t n c i j d
closed_by t s z e (ns-plain-multi-line n c) q i j a b d = λ e. multi_read t n c i j e d
closed_by t s z e (ns-plain n BlockOut) q i j a b d = absurd d
closed_by t s z e (ns-plain n BlockIn) q i j a b d = absurd d
closed_by t s z e (ns-plain n FlowOut) q i j a b d = d refl
closed_by t s z e (ns-plain n FlowIn) q i j a b d = d refl
closed_by t s z e (ns-plain n BlockKey) q i j a b d = (d.0, as_key refl d.1)
closed_by t s z e (ns-plain n FlowKey) q i j a b d = (d.0, as_key refl d.1)
closed_by t s z e ns-uri-char q i j a b (inl d) = uri_read t i j (inl (d.0, (char_is t i d.0 37 (omega arith) d.1.0, d.1.1)))
closed_by t s z e ns-uri-char q i j a b (inr d) = uri_read t i j (inr d)
closed_by t s z e ns-tag-char q i j a b d = tag_char_read t i j d
closed_by t s z e c-primary-tag-handle q i j a b d = char_is t i j 33 (omega arith) d
closed_by t s z e c-secondary-tag-handle q i j a b d = (d.0, (char_is t i d.0 33 (omega arith) d.1.0, char_is t d.0 j 33 (omega arith) d.1.1))
closed_by t s z e c-named-tag-handle q i j a b d =
    (d.0, (char_is t i d.0 33 (omega arith) d.1.0, (d.1.1.0, (d.1.1.1.0, char_is t d.1.1.0 j 33 (omega arith) d.1.1.1.1))))
closed_by t s z e c-tag-handle q i j a b d = handle_read t i j d
closed_by t s z e c-verbatim-tag q i j a b d =
    verbatim_read t i j (
      d.0,
      (
        char_is t i d.0 33 (omega arith) d.1.0,
        (
          d.1.1.0,
          (
            char_is t d.0 d.1.1.0 60 (omega arith) d.1.1.1.0,
            (d.1.1.1.1.0, (d.1.1.1.1.1.0, char_is t d.1.1.1.1.0 j 62 (omega arith) d.1.1.1.1.1.1)),
          ),
        ),
      ),
    )
closed_by t s z e c-ns-shorthand-tag q i j a b d = d
closed_by t s z e c-non-specific-tag q i j a b d = (d.0, (char_is t i d.0 33 (omega arith) d.1.0, d.1.1))
closed_by t s z e c-ns-tag-property q i j a b d = tag_read t i j d
closed_by t s z e ns-anchor-name q i j a b d = name_read t i j d
closed_by t s z e c-ns-anchor-property q i j a b d = anchor_read t i j (d.0, (char_is t i d.0 38 (omega arith) d.1.0, d.1.1))
closed_by t s z e c-ns-alias-node q i j a b d = alias_read t i j (d.0, (char_is t i d.0 42 (omega arith) d.1.0, d.1.1))
closed_by t s z e (c-ns-properties n c) q i j a b d = properties_read t n c i j d
closed_by t s z e e-scalar q i j a b d = d
closed_by t s z e e-node q i j a b d = d
closed_by t true z e (ns-s-flow-seq-entries n c) q i j a b d = λ b. entries_read t e true n c i j b (entries_signs t e true n c i j d)
closed_by t true z e (ns-flow-seq-entry n c) q i j a b d = λ b. seq_entry_read t e n c i j b d
closed_by t true z e (ns-s-flow-map-entries n c) q i j a b d = λ b. entries_read t e false n c i j b (entries_signs t e false n c i j d)
closed_by t true z e (ns-flow-map-entry n c) q i j a b (inl d) = λ b. map_entry_read t e n c i j b (inl (marked_signs t e n c i j d))
closed_by t true z e (ns-flow-map-entry n c) q i j a b (inr d) = λ b. map_entry_read t e n c i j b (inr d)
closed_by t true z e (ns-flow-map-explicit-entry n c) q i j a b d = λ b s. explicit_read t e n c i j s b d
closed_by t true z e (ns-flow-map-implicit-entry n c) q i j a b (inl d) = d
closed_by t true z e (ns-flow-map-implicit-entry n c) q i j a b (inr (inl d)) = λ b s. empty_key_read t e n c i j s b d
closed_by t true z e (ns-flow-map-implicit-entry n c) q i j a b (inr (inr d)) = d
closed_by t true z e (ns-flow-map-yaml-key-entry n c) q i j a b d = λ b s. key_entry_read t e false n c i j s b d
closed_by t true z e (c-ns-flow-map-empty-key-entry n c) q i j a b d = λ b. subst (λ k. SomeNode t e (ValueOf false n c) k j) (sym d.1.0) (d.1.1 b)
closed_by t true z e (c-ns-flow-map-separate-value n c) q i j a b d = λ b. separate_value_read t e n c i j b (colon_sign t i j d)
closed_by t true z e (c-ns-flow-map-json-key-entry n c) q i j a b d = λ b s. key_entry_read t e true n c i j s b d
closed_by t true z e (c-ns-flow-map-adjacent-value n c) q i j a b d = λ b. adjacent_value_read t e n c i j b (colon_sign t i j d)
closed_by t true z e (ns-flow-pair-entry n c) q i j a b (inl d) = d
closed_by t true z e (ns-flow-pair-entry n c) q i j a b (inr (inl d)) = λ b. unkeyed_read t e n c i j b d
closed_by t true z e (ns-flow-pair-entry n c) q i j a b (inr (inr d)) = d
closed_by t true z e (ns-flow-pair-yaml-key-entry n c) q i j a b d = λ b. keyed_pair_read t e false n c i j b d
closed_by t true z e (c-ns-flow-pair-json-key-entry n c) q i j a b d = λ b. keyed_pair_read t e true n c i j b d
closed_by t true z e (ns-s-implicit-yaml-key c) q i j a b d = λ b. key_read t e false c i j b d
closed_by t true z e (c-s-implicit-json-key c) q i j a b d = λ b. key_read t e true c i j b d
closed_by t s z e (ns-flow-yaml-content n c) q i j a b d = d
closed_by t true z e (c-flow-json-content n c) q i j a b (inl d) = d
closed_by t true z e (c-flow-json-content n c) q i j a b (inr (inl d)) = d
closed_by t true z e (c-flow-json-content n c) q i j a b (inr (inr (inl d))) = λ b. node_is (a_single d.1) (omega arith)
closed_by t true z e (c-flow-json-content n c) q i j a b (inr (inr (inr d))) = λ b. node_is (a_double d.1) (omega arith)
closed_by t true z e (ns-flow-content n c) q i j a b (inl d) = λ b. inl d
closed_by t true z e (ns-flow-content n c) q i j a b (inr d) = λ b. inr d
closed_by t true z e (ns-flow-yaml-node n c) q i j a b d = λ b. yaml_node_read t e n c i j b d
closed_by t true z e (c-flow-json-node n c) q i j a b d = λ b. json_node_read t e n c i j b d
closed_by t true z e (ns-flow-node n c) q i j a b d = λ b. flow_node_read t e n c i j b d
closed_by t true z e (c-l-block-seq-entry n) q i j a b d = dash_read t e n i j (dash_sign t i j d)
closed_by t true z e (ns-l-block-map-entry n) q i j a b (inl d) = d
closed_by t true z e (ns-l-block-map-entry n) q i j a b (inr d) = d
closed_by t true z e (c-l-block-map-explicit-entry n) q i j a b d = explicit_entry_read t e n i j d
closed_by t true z e (ns-l-block-map-implicit-entry n) q i j a b d = implicit_entry_read t e n i j d
closed_by t true z e (s-l+block-indented n BlockOut) q i j a b d = λ m q. indented_read t e n BlockOut i j m refl q d
closed_by t true z e (s-l+block-indented n BlockIn) q i j a b d = λ m q. indented_read t e n BlockIn i j m refl q d
closed_by t true z e (c-l-block-map-explicit-key n) q i j a b d = question_read t e n i j (question_sign t i j d)
closed_by t true z e (l-block-map-explicit-value n) q i j a b d = colon_read t e n i j (d.0, (d.1.0, colon_sign t d.0 j d.1.1))
closed_by t true z e ns-s-block-map-implicit-key q i j a b d = either_key d
closed_by t true z e (c-l-block-map-implicit-value n) q i j a b d = λ m q. value_read t e n i j m q (colon_sign t i j d)
closed_by t true z e (s-l+block-node n c) q i j a b (inl d) = d
closed_by t true z e (s-l+block-node n c) q i j a b (inr d) = d c
closed_by t true z e (s-l+flow-in-block n) q i j a b d = λ c b. flow_in_block_read t e n c i j b (d.0, (d.1.0, (d.1.1.0, (d.1.1.1.0 refl, d.1.1.1.1))))
closed_by t true z e (s-l+block-in-block n c) q i j a b (inl d) = d
closed_by t true z e (s-l+block-in-block n c) q i j a b (inr d) = d
closed_by t true z e (s-l+block-scalar n c) q i j a b d = λ b. block_scalar_read t e n c i j b (d.0, (d.1.0, (d.1.1.0, (d.1.1.1.0, either_scalar d.1.1.1.1))))
closed_by t true z e (s-l+block-collection n c) q i j a b d = λ b. collection_read t e n c i j b (d.0, (d.1.0, (d.1.1.0, (d.1.1.1.0, either_column c b d.1.1.1.1))))
closed_by t true z e (seq-space n BlockOut) q i j a b d = λ b. let x = d in (x.0, (x.1.0, seq_space_out_read t x.0 n i j x.1.1))
closed_by t true z e (seq-space n BlockIn) q i j a b d = λ b. d
closed_by t true z e (seq-space n FlowOut) q i j a b d = absurd d
closed_by t true z e (seq-space n FlowIn) q i j a b d = absurd d
closed_by t true z e (seq-space n BlockKey) q i j a b d = absurd d
closed_by t true z e (seq-space n FlowKey) q i j a b d = absurd d
closed_by t true z e (in-flow n FlowOut) q i j a b d = λ g. d refl
closed_by t true z e (in-flow n FlowIn) q i j a b d = λ g. d refl
closed_by t true z e (in-flow n BlockKey) q i j a b d = λ g. d refl
closed_by t true z e (in-flow n FlowKey) q i j a b d = λ g. d refl
closed_by t true z e (in-flow n BlockOut) q i j a b d = absurd d
closed_by t true z e (in-flow n BlockIn) q i j a b d = absurd d
closed_by t s z e (s-indent-less-or-equal (pos zero)) q i j a b d = up_to_none t 0 i j d
closed_by t s z e (s-indent-less-or-equal (pos (suc n))) q i j a b (inl d) = up_to_more t n i d.0 j d.1.0 d.1.1
closed_by t s z e (s-indent-less-or-equal (pos (suc n))) q i j a b (inr d) = up_to_none t (suc n) i j d
closed_by t s z e (s-indent-less-or-equal (negsuc n)) q i j a b d = absurd d
closed_by t s z e ns-tag-prefix q i j a b (inl d) = d
closed_by t s z e ns-tag-prefix q i j a b (inr d) = d
closed_by t s z e c-ns-local-tag-prefix q i j a b d = local_prefix_read t i j (d.0, (char_is t i d.0 33 (omega arith) d.1.0, d.1.1))
closed_by t s z e ns-global-tag-prefix q i j a b d = global_prefix_read t i j d
closed_by t s z e ns-directive-name q i j a b d = names_read t i j d
closed_by t s z e ns-directive-parameter q i j a b d = parameter_read t i j d
closed_by t s z e ns-yaml-version q i j a b d = version_read t i j d
closed_by t s z e ns-yaml-directive q i j a b d = yaml_directive_read t i j d
closed_by t s z e ns-tag-directive q i j a b d = tag_directive_read t i j d
closed_by t s z e ns-reserved-directive q i j a b d = reserved_directive_read t i j d
closed_by t s z e l-directive q i j a b d = directive_read z.utf i j (d.0, (char_is t i d.0 37 (omega arith) d.1.0, d.1.1))
closed_by t s z e ns-esc-8-bit q i j a b d = hex_of_read t (read t) (StandsFor t z.low s) e 120 2 i j (omega arith) d
closed_by t s z e ns-esc-16-bit q i j a b d = hex_of_read t (read t) (StandsFor t z.low s) e 117 4 i j (omega arith) d
closed_by t s z e ns-esc-32-bit q i j a b d = hex_of_read t (read t) (StandsFor t z.low s) e 85 8 i j (omega arith) d
closed_by t s z e c-ns-esc-char q i j a b d = escape_read t i j (d.0, (char_is t i d.0 92 (omega arith) d.1.0, d.1.1))
closed_by t s z e nb-double-char q i j a b d = double_char_read t i j d
closed_by t s z e ns-double-char q i j a b d = d
closed_by t s z e nb-double-one-line q i j a b d = d
closed_by t s z e nb-ns-double-in-line q i j a b d = lone_items d
closed_by t s z e (s-double-escaped n) q i j a b d = double_escaped_read t n i j (d.0, (d.1.0, (d.1.1.0, (char_is t d.0 d.1.1.0 92 (omega arith) d.1.1.1.0, d.1.1.1.1))))
closed_by t s z e (s-double-break n) q i j a b (inl d) = d
closed_by t s z e (s-double-break n) q i j a b (inr d) = (_, folded_break d.1)
closed_by t s z e (s-double-next-line n) q i j a b d = double_next_read t n i j d
closed_by t s z e (nb-double-multi-line n) q i j a b d = double_lines_read t n i j d
closed_by t s z e (nb-double-text n FlowOut) q i j a b d = double_as_lines t n FlowOut i j refl d
closed_by t s z e (nb-double-text n FlowIn) q i j a b d = double_as_lines t n FlowIn i j refl d
closed_by t s z e (nb-double-text n BlockKey) q i j a b d = double_as_key t n BlockKey i j refl d
closed_by t s z e (nb-double-text n FlowKey) q i j a b d = double_as_key t n FlowKey i j refl d
closed_by t s z e (nb-double-text n BlockOut) q i j a b d = absurd d
closed_by t s z e (nb-double-text n BlockIn) q i j a b d = absurd d
closed_by t true z e (c-double-quoted n c) q i j a b d = double_quoted_read t n c i j (clear_within z a b) (d.0, (char_is t i d.0 34 (omega arith) d.1.0, (d.1.1.0, (d.1.1.1.0, char_is t d.1.1.0 j 34 (omega arith) d.1.1.1.1))))
closed_by t s z e c-quoted-quote q i j a b d = (d.0, (char_is t i d.0 39 (omega arith) d.1.0, char_is t d.0 j 39 (omega arith) d.1.1))
closed_by t s z e nb-single-char q i j a b d = single_char_read t i j d
closed_by t s z e ns-single-char q i j a b d = d
closed_by t s z e nb-single-one-line q i j a b d = star_chain {S = SingleChar t} (λ i j s. s) d
closed_by t s z e nb-ns-single-in-line q i j a b d = star_chain {S = SingleItem t} (single_item_read t) d
closed_by t s z e (s-single-next-line n) q i j a b d = single_next_read t n i j d
closed_by t s z e (nb-single-multi-line n) q i j a b d = single_lines_read t n i j d
closed_by t s z e (nb-single-text n FlowOut) q i j a b d = single_as_lines t n FlowOut i j refl d
closed_by t s z e (nb-single-text n FlowIn) q i j a b d = single_as_lines t n FlowIn i j refl d
closed_by t s z e (nb-single-text n BlockKey) q i j a b d = single_as_key t n BlockKey i j refl d
closed_by t s z e (nb-single-text n FlowKey) q i j a b d = single_as_key t n FlowKey i j refl d
closed_by t s z e (nb-single-text n BlockOut) q i j a b d = absurd d
closed_by t s z e (nb-single-text n BlockIn) q i j a b d = absurd d
closed_by t true z e (c-single-quoted n c) q i j a b d = single_quoted_read t n c i j (clear_within z a b) (d.0, (char_is t i d.0 39 (omega arith) d.1.0, (d.1.1.0, (d.1.1.1.0, char_is t d.1.1.0 j 39 (omega arith) d.1.1.1.1))))
closed_by t s z e (c-b-block-header m c) q i j a b d = header_read t m c i j d
closed_by t s z e (c-indentation-indicator (GIVEN m)) q i j a b d = digit_read t m i j d
closed_by t s z e (c-indentation-indicator DETECTED) q i j a b d = d
closed_by t s z e (c-chomping-indicator STRIP) q i j a b d = strip_read t i j d
closed_by t s z e (c-chomping-indicator KEEP) q i j a b d = keep_read t i j d
closed_by t s z e (c-chomping-indicator CLIP) q i j a b d = d
closed_by t s z e (b-chomped-last STRIP) q i j a b d = last_read t i j d
closed_by t s z e (b-chomped-last CLIP) q i j a b d = last_read t i j d
closed_by t s z e (b-chomped-last KEEP) q i j a b d = last_read t i j d
closed_by t s z e (l-chomped-empty n STRIP) q i j a b d = d
closed_by t s z e (l-chomped-empty n CLIP) q i j a b d = d
closed_by t s z e (l-chomped-empty n KEEP) q i j a b d = d
closed_by t s z e (l-strip-empty n) q i j a b d = strip_empty_read t n i j d
closed_by t s z e (l-keep-empty n) q i j a b d = keep_empty_read t n i j d
closed_by t s z e (l-trail-comments n) q i j a b d = trail_comments_read t n i j d
closed_by t s z e (l-nb-literal-text n) q i j a b d = literal_text_read t n i j d
closed_by t s z e (b-nb-literal-next n) q i j a b d = next_text_read t n i j d
closed_by t s z e (l-literal-content n c) q i j a b d = (literal_content_read t n i j d, a)
closed_by t s z e (s-nb-folded-text n) q i j a b d = folded_text_read t n i j d
closed_by t s z e (l-nb-folded-lines n) q i j a b d = folded_lines_read t n i j d
closed_by t s z e (s-nb-spaced-text n) q i j a b d = spaced_text_read t n i j d
closed_by t s z e (b-l-spaced n) q i j a b d = spaced_break_read t n i j d
closed_by t s z e (l-nb-spaced-lines n) q i j a b d = spaced_lines_read t n i j d
closed_by t s z e (l-nb-same-lines n) q i j a b d = same_lines_read t n i j d
closed_by t s z e (l-nb-diff-lines n) q i j a b d = diff_lines_read t n i j d
closed_by t s z e (l-folded-content n c) q i j a b d = (folded_content_read t n i j d, a)
closed_by t true z e (c-l+literal n) q i j a b (inl d) = literal_scalar t z n STRIP i j b d
closed_by t true z e (c-l+literal n) q i j a b (inr (inl d)) = literal_scalar t z n CLIP i j b d
closed_by t true z e (c-l+literal n) q i j a b (inr (inr d)) = literal_scalar t z n KEEP i j b d
closed_by t true z e (c-l+folded n) q i j a b (inl d) = folded_scalar t z n STRIP i j b d
closed_by t true z e (c-l+folded n) q i j a b (inr (inl d)) = folded_scalar t z n CLIP i j b d
closed_by t true z e (c-l+folded n) q i j a b (inr (inr d)) = folded_scalar t z n KEEP i j b d
closed_by t s z e l-document-prefix q i j a b d = prefix_read t i j d
closed_by t s z e c-directives-end q i j a b d = three_read t 45 i j (omega arith) d
closed_by t s z e c-document-end q i j a b d = three_read t 46 i j (omega arith) d
closed_by t s z e l-document-suffix q i j a b d = suffix_read t i j d
closed_by t false z e l-bare-document q i j a b d = z.root refl e i j d.0 d.1
closed_by t false z e l-explicit-document q i j a b d = explicit_document_read t e i j d
closed_by t false z e l-directive-document q i j a b d = (d.0, (directives_read t i d.1.0.0 d.0 d.1.0.1.0 d.1.0.1.1, d.1.1))
closed_by t false z e l-any-document q i j a b d = d
closed_by t false z e l-yaml-stream q i j a b d = λ p q. stream_of t z.utf e i j p q d
closed_by t false z e (s-l+block-indented n BlockOut) q i j a b d = tt
closed_by t false z e (s-l+block-indented n BlockIn) q i j a b d = tt
closed_by t false z e (s-l+block-indented n FlowOut) q i j a b d = tt
closed_by t false z e (s-l+block-indented n FlowIn) q i j a b d = tt
closed_by t false z e (s-l+block-indented n BlockKey) q i j a b d = tt
closed_by t false z e (s-l+block-indented n FlowKey) q i j a b d = tt
closed_by t true z e (s-l+block-indented n FlowOut) q i j a b d = tt
closed_by t true z e (s-l+block-indented n FlowIn) q i j a b d = tt
closed_by t true z e (s-l+block-indented n BlockKey) q i j a b d = tt
closed_by t true z e (s-l+block-indented n FlowKey) q i j a b d = tt
closed_by t s z e c-forbidden q i j a b d = forbidden_read t i j d
closed_by t true z e (c-flow-sequence n c) q i j a b d = no_opening q
closed_by t true z e (c-flow-mapping n c) q i j a b d = no_opening q
closed_by t true z e (ns-flow-pair n c) q i j a b d = no_opening q
closed_by t true z e (l+block-sequence n) q i j a b d = no_opening q
closed_by t true z e (l+block-mapping n) q i j a b d = no_opening q
closed_by t true z e (ns-l-compact-sequence n) q i j a b d = no_opening q
closed_by t true z e (ns-l-compact-mapping n) q i j a b d = no_opening q
closed_by t s z e f q i j a b d = tt

-- a collection with less room for open collections
opened_by : (t : List ℕ) (s : Bool) (z : Zone t s) (d e : ℕ) (f : Form) (i j : ℕ) → kind f ≡ COLLECTION → d < e → FormRead t (read t) (StandsFor t z.low s) d (rule f) i j → StandsFor t z.low s e f i j
unfolding StandsFor rule read kind is_collection
opened_by t true z d e (c-flow-sequence n c) i j q w r = λ b. brackets_read t e d true n c i j w b (sequence_read t d n c i j r)
opened_by t true z d e (c-flow-mapping n c) i j q w r = λ b. brackets_read t e d false n c i j w b (mapping_read t d n c i j r)
opened_by t true z d e (ns-flow-pair n c) i j q w (inl r) = λ b. (d, (w, pair_read t d n c i j b (inl (marked_signs t d n c i j r))))
opened_by t true z d e (ns-flow-pair n c) i j q w (inr r) = λ b. (d, (w, pair_read t d n c i j b (inr r)))
opened_by t true z d e (l+block-sequence n) i j q w r = (d, (w, column_read t d true n i j r))
opened_by t true z d e (l+block-mapping n) i j q w r = (d, (w, column_read t d false n i j r))
opened_by t true z d e (ns-l-compact-sequence n) i j q w r = (d, (w, compact_read t d true n i j r))
opened_by t true z d e (ns-l-compact-mapping n) i j q w r = (d, (w, compact_read t d false n i j r))
opened_by t false z d e (c-flow-sequence n c) i j q w r = tt
opened_by t false z d e (c-flow-mapping n c) i j q w r = tt
opened_by t false z d e (ns-flow-pair n c) i j q w r = tt
opened_by t false z d e (l+block-sequence n) i j q w r = tt
opened_by t false z d e (l+block-mapping n) i j q w r = tt
opened_by t false z d e (ns-l-compact-sequence n) i j q w r = tt
opened_by t false z d e (ns-l-compact-mapping n) i j q w r = tt
opened_by t s z d e f i j q w r = not_opening refl q

pub closed : (t : List ℕ) (s : Bool) (z : Zone t s) → Closed t (read t) z.low z.high (StandsFor t z.low s)
closed t s z = record {
  by = λ e f i j q a b d. closed_by t s z e f q i j a b d;
  by_open = λ d e f i j q w r. opened_by t s z d e f i j q w r;
}

-- a document's node
pub root_known : (t : List ℕ) → IsUtf8 t → (e i j : ℕ) → Derived (read t) t e (s-l+block-node (negsuc 0) BlockIn) i j → Clear t i j → SomeRoot t e i j
unfolding StandsFor
root_known t u e i j d w =
    let z : Zone t true = record { utf = u; low = i; high = j; clear = λ q. w; root = λ q. absurd (true≢false q) } in
    let r : SomeNode t e (BlockNode (negsuc 0) BlockIn) i j = known (closed t true z) (omega arith) (omega arith) d refl in
    (r.height, (r.meaning, (record { derived = r.node; clear = w }, r.fits)))

-- all of a text
pub stream_known : (t : List ℕ) → IsUtf8 t → (e : ℕ) → Derived (read t) t e l-yaml-stream 0 (length t) → (h : ℕ) × ((x : Documents) × (Stream t h x × (h ≤ e)))
unfolding StandsFor
stream_known t u e d =
    let z : Zone t false = record { utf = u; low = 0; high = length t; clear = λ q. absurd (true≢false (sym q)); root = λ q. root_known t u } in
    known (closed t false z) (omega arith) (omega arith) d refl refl

-- [206]
pub forbidden_known : (t : List ℕ) → IsUtf8 t → (e i j : ℕ) → Derived (read t) t e c-forbidden i j → ForbiddenLine t i
unfolding StandsFor
forbidden_known t u e i j d =
    let z : Zone t false = record { utf = u; low = 0; high = j; clear = λ q. absurd (true≢false (sym q)); root = λ q. root_known t u } in
    known (closed t false z) (omega arith) (omega arith) d
