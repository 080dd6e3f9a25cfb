-- Each comment of a derived part, and of a reading, is a comment of the text.
use Rattle.std.proofs.Common.{ℕ, ℤ, ◌+◌, Bool, true, false, List, [], ◌∷◌, ◌++◌, refl, ◌∙◌}
use Rattle.std.proofs.lemmas.List.Elements.{All-cons, All-nil, All-weaker}
use Rattle.std.specs.List.{All}
use Rattle.std.specs.Str.{IsUtf8}
use Rattle.yf_chars.specs.declared.context.Ctx.{Ctx}
use Rattle.yf_chars.specs.Chain.{Chain}
use Rattle.yf_chars.specs.Chain.Chain.{done, step}
use Rattle.yf_comments.specs.Comment.{CommentValue}
use Rattle.yf_comments.specs.Comments.{CommentText, LineRest, LineEnd, Row, Separate}
use Rattle.yf_comments.specs.Comments.CommentText.{comment_text}
use Rattle.yf_comments.specs.Comments.LineRest.{nothing, whites, comment}
use Rattle.yf_comments.specs.Comments.Separate.{in_key, in_node}
use Rattle.yf_comments.specs.Comments.SeparateLines.{in_line, over_lines}
use Rattle.yf_comments.proofs.LineEndLemmas.{line_end_rows, lines_rows}
use Rattle.yf_chars.proofs.ChainLemmas.{chain_one}
use Rattle.yf_props.specs.Names.{Properties, PropertiesValue}
use Rattle.yf_props.specs.Names.Properties.{by_tag, by_anchor, tag_first, anchor_first}
use Rattle.yf_block_scalar.specs.declared.header.Header.{Header}
use Rattle.yf_block_scalar.specs.Header.{BlockHeader, HeaderValue}
use Rattle.yf_block_scalar.specs.Header.BlockHeader.{block_header}
use Rattle.yf_block_scalar.specs.Body.{Trail, Body, BodyValue, first_noted}
use Rattle.yf_block_scalar.specs.Body.Trail.{comments, no_comment}
use Rattle.yf_block_scalar.specs.Body.Body.{indicated, detected, without_content}
use Rattle.yf_comments.specs.GapLines.{IsRemark}
use Rattle.yf_block_scalar.proofs.ScalarLemmas.{hash_text}
use Rattle.yf_events.specs.Event.{EventInText}
use Rattle.yf_grammar.specs.Productions.BlockScalar.{BlockScalar}
use Rattle.yf_grammar.specs.Productions.BlockScalar.BlockScalar.{block_scalar}
use Rattle.yf_grammar.specs.Productions.Grammar.{Derives, Production, MaySeparate, ValueSeparate}
use Rattle.yf_grammar.specs.Productions.Grammar.MaySeparate.{unseparated, separated}
use Rattle.yf_grammar.specs.Productions.Grammar.Derives.{flow_node, an_alias, a_plain, a_plain_with, properties_alone, a_json, a_json_with, a_single, a_double, an_empty_collection, a_collection, last_entry, last_entry_with_comma, more_entries, a_node_entry, a_pair_entry, an_explicit_entry, an_implicit_entry, an_explicit_pair, a_keyed_pair, an_unkeyed_pair, explicit_with, explicit_without, key_alone, key_and_value, value_alone, empty_value, a_value, a_key, a_block_scalar, a_block_scalar_with, a_block_collection, a_block_collection_with, flow_in_block, a_last_entry, an_entry_before, a_dash_entry, an_explicit_entry_with, an_explicit_key_alone, a_keyed_entry, an_unkeyed_entry, a_block_value, an_empty_block_value, a_compact_collection, an_indented_node, nothing_indented}
use Rattle.yf_grammar.specs.Productions.Meaning.{Meaning, ◌⊕◌, alias_to, meaning_after, collection, empty_node, entering, noting, scalar, with_props}
use Rattle.yf_stream.proofs.CommentLaws.{CommentsOfReadingsAreRemarks, CommentsOfReadingsAreTexts, IsCommentAt}
use Rattle.yf_stream.specs.ReadingOf.{NotedComments, no_comment as nothing_noted, one_comment}
use Rattle.yf_stream.specs.Stream.{AnyDocument, DirectiveLines, Directives, Document, Documents, ExplicitNode, PrefixPart, Prefixes, Stream, StreamRest, Suffixes, with_comments, with_document}
use Rattle.yf_stream.specs.Stream.AnyDocument.{bare_document, directive_document, explicit_document}
use Rattle.yf_stream.specs.Stream.DirectiveLines.{last_directive, more_directives}
use Rattle.yf_stream.specs.Stream.ExplicitNode.{marked_node, marked_nothing}
use Rattle.yf_stream.specs.Stream.PrefixPart.{order_mark, prefix_comment}
use Rattle.yf_stream.specs.Stream.Stream.{begins_with_document, without_document}
use Rattle.yf_stream.specs.Stream.StreamRest.{past_explicit, past_prefix, past_suffixes, past_suffixes_and_document, stream_ended}
use Rattle.yf_stream.specs.Stream.Suffixes.{last_suffix, more_suffixes}

data AreTexts (t : List ℕ) : List CommentValue → Type 0 where
  no_text : AreTexts t []
  one_text : {c : CommentValue} {cs : List CommentValue} → IsCommentAt t c → AreTexts t cs → AreTexts t (c ∷ cs)

noted_text : {t : List ℕ} {c : CommentValue} (b : Bool) → IsCommentAt t c → IsCommentAt t (record c { blank_before = b })
noted_text b s = record { end = s.end; characters = s.characters; sign = s.sign; chain = s.chain; text = s.text }

module _ {t : List ℕ} where
  join : {cs ds : List CommentValue} → AreTexts t cs → AreTexts t ds → AreTexts t (cs ++ ds)
  join no_text b = b
  join (one_text s a) b = one_text s (join a b)

  first_texts : (b : Bool) (cs : List CommentValue) → AreTexts t cs → AreTexts t (first_noted b cs)
  first_texts b [] a = a
  first_texts b (c ∷ cs) (one_text s a) = one_text (noted_text b s) a

  texts : {i j : ℕ} {x : List CommentValue} → CommentText t i j x → AreTexts t x
  texts (comment_text {j = j} {x = x} e m n) = one_text (record { end = j; characters = x; sign = e; chain = m; text = refl }) no_text

  rest_texts : {i j : ℕ} {x : List CommentValue} → LineRest t i j x → AreTexts t x
  rest_texts (nothing e) = no_text
  rest_texts (whites s e) = no_text
  rest_texts (comment s c e) = texts c

  rows_texts : {i j : ℕ} {x : List CommentValue} → Chain (Row t) i j x → AreTexts t x
  rows_texts done = no_text
  rows_texts (step r c) = join (rest_texts r.rest) (rows_texts c)

  end_texts : {i j : ℕ} {x : List CommentValue} → LineEnd t i j x → AreTexts t x
  end_texts d = rows_texts (line_end_rows d)

  separate_texts : {n : ℤ} {c : Ctx} {i j : ℕ} {x : List CommentValue} → Separate t n c i j x → AreTexts t x
  separate_texts (in_key e s) = no_text
  separate_texts (in_node e (in_line s)) = no_text
  separate_texts (in_node e (over_lines d p)) = end_texts d

  may_texts : {n : ℤ} {c : Ctx} {i j : ℕ} {x : List CommentValue} → MaySeparate t n c i j x → AreTexts t x
  may_texts unseparated = no_text
  may_texts (separated s) = separate_texts s

value_texts : (t : List ℕ) (n : ℤ) (c : Ctx) (i j : ℕ) (x : List CommentValue) (json : Bool) → ValueSeparate json t n c i j x → AreTexts t x
value_texts t n c i j x true s = may_texts s
value_texts t n c i j x false s = separate_texts s

module _ {t : List ℕ} where
  properties_texts : {n : ℤ} {c : Ctx} {i j : ℕ} {p : PropertiesValue} → Properties t n c i j p → AreTexts t p.comments
  properties_texts (by_tag g) = no_text
  properties_texts (by_anchor a) = no_text
  properties_texts (tag_first g s a) = separate_texts s
  properties_texts (anchor_first a s g) = separate_texts s

  -- block scalars
  header_texts : {i j : ℕ} {h : HeaderValue} → BlockHeader t i j h → AreTexts t h.comments
  header_texts (block_header s m r) = rest_texts r

  trail_texts : {k i j : ℕ} {x : List CommentValue} → Trail t k i j x → AreTexts t x
  trail_texts (comments m l a e c) = end_texts c.derived
  trail_texts (no_comment n) = no_text

  body_texts : {n : ℤ} {h : Header} {i j : ℕ} {v : BodyValue} → Body t n h i j v → AreTexts t v.comments
  body_texts (indicated {x = x} e a b) = first_texts _ x (trail_texts b)
  body_texts (detected {x = x} e d a b) = first_texts _ x (trail_texts b)
  body_texts (without_content {x = x} e c d b) = first_texts _ x (trail_texts b)

  scalar_texts : {n : ℤ} {i j : ℕ} {x : Meaning} → BlockScalar t n i j x → AreTexts t x.comments
  scalar_texts (block_scalar h b l) = join (header_texts h) (body_texts b)

  -- for all productions
  derived_texts : {h i j : ℕ} {p : Production} {x : Meaning} → Derives t h p i j x → AreTexts t x.comments
  unfolding meaning_after noting ◌⊕◌ collection with_props entering scalar alias_to empty_node
  derived_texts (flow_node d) = derived_texts d
  derived_texts (an_alias b a) = no_text
  derived_texts (a_plain p) = no_text
  derived_texts (a_plain_with p s d) = join (join (properties_texts p) (separate_texts s)) no_text
  derived_texts (properties_alone b p) = join (properties_texts p) no_text
  derived_texts (a_json d) = derived_texts d
  derived_texts (a_json_with p s d) = join (join (properties_texts p) (separate_texts s)) (derived_texts d)
  derived_texts (a_single q) = no_text
  derived_texts (a_double q) = no_text
  derived_texts (an_empty_collection a b o s e) = may_texts s
  derived_texts (a_collection a b o s d e) = join (may_texts s) (derived_texts d)
  derived_texts (last_entry d s) = join (derived_texts d) (may_texts s)
  derived_texts (last_entry_with_comma d s c r) = join (derived_texts d) (join (may_texts s) (may_texts r))
  derived_texts (more_entries d s c r e) = join (join (derived_texts d) (join (may_texts s) (may_texts r))) (derived_texts e)
  derived_texts (a_node_entry d) = derived_texts d
  derived_texts (a_pair_entry d) = derived_texts d
  derived_texts (an_explicit_entry e s d) = join (separate_texts s) (derived_texts d)
  derived_texts (an_implicit_entry d) = derived_texts d
  derived_texts (an_explicit_pair e s d) = join (separate_texts s) (derived_texts d)
  derived_texts (a_keyed_pair d e) = join (derived_texts d) (derived_texts e)
  derived_texts (an_unkeyed_pair d) = derived_texts d
  derived_texts (explicit_with d) = derived_texts d
  derived_texts (explicit_without b) = no_text
  derived_texts (key_alone d) = join (derived_texts d) no_text
  derived_texts (key_and_value d s e) = join (join (derived_texts d) (may_texts s)) (derived_texts e)
  derived_texts (value_alone d) = derived_texts d
  derived_texts (empty_value b e m) = no_text
  derived_texts (a_value {i = i} {k = k} {json = json} {n = n} {c = c} cs e m s d) = join (value_texts t n c (i + 1) k cs json s) (derived_texts d)
  derived_texts (a_key d s m) = derived_texts d
  derived_texts (a_block_scalar b s d) = join (separate_texts s) (scalar_texts d)
  derived_texts (a_block_scalar_with b s p q d) = join (join (join (separate_texts s) (properties_texts p)) (separate_texts q)) (scalar_texts d)
  derived_texts (a_block_collection b e s l d) = join (end_texts e) (derived_texts d)
  derived_texts (a_block_collection_with b s p e q l d) = join (join (join (separate_texts s) (properties_texts p)) (end_texts e)) (derived_texts d)
  derived_texts (flow_in_block b s d e) = join (separate_texts s) (join (derived_texts d) (end_texts e))
  derived_texts (a_last_entry d) = derived_texts d
  derived_texts (an_entry_before d s e) = join (derived_texts d) (derived_texts e)
  derived_texts (a_dash_entry e n d) = derived_texts d
  derived_texts (an_explicit_entry_with e w d c r) = join (derived_texts d) (derived_texts r)
  derived_texts (an_explicit_key_alone e w d c) = join (derived_texts d) no_text
  derived_texts (a_keyed_entry d e) = join (derived_texts d) (derived_texts e)
  derived_texts (an_unkeyed_entry d) = derived_texts d
  derived_texts (a_block_value e d) = derived_texts d
  derived_texts (an_empty_block_value e d) = end_texts d
  derived_texts (a_compact_collection b s d) = derived_texts d
  derived_texts (an_indented_node d) = derived_texts d
  derived_texts (nothing_indented b d) = end_texts d

  -- for the parts of a stream
  directives_texts : {i j : ℕ} {x : Directives} → DirectiveLines t i j x → AreTexts t x.comments
  directives_texts (last_directive e r p d) = end_texts d
  directives_texts (more_directives a b) = join (directives_texts a) (directives_texts b)

  part_texts : {i j : ℕ} {x : List CommentValue} → PrefixPart t i j x → AreTexts t x
  part_texts (order_mark e) = no_text
  part_texts (prefix_comment c) = rows_texts (lines_rows (chain_one c))

  parts_texts : {i j : ℕ} {x : List CommentValue} → Prefixes t i j x → AreTexts t x
  parts_texts done = no_text
  parts_texts (step s c) = join (part_texts s) (parts_texts c)

  suffixes_texts : {i j : ℕ} {x : List CommentValue} → Suffixes t i j x → AreTexts t x
  suffixes_texts (last_suffix e d) = end_texts d
  suffixes_texts (more_suffixes e d s) = join (end_texts d) (suffixes_texts s)

  explicit_texts : {h i j : ℕ} {x : Meaning} → ExplicitNode t h i j x → AreTexts t x.comments
  unfolding noting empty_node
  explicit_texts (marked_node e n) = derived_texts n.derived
  explicit_texts (marked_nothing e d) = end_texts d

  document_texts : {h i j : ℕ} {d : Document} {x : List CommentValue} → AnyDocument t h i j d x → AreTexts t x
  document_texts (bare_document n c) = derived_texts n.derived
  document_texts (explicit_document e) = explicit_texts e
  document_texts (directive_document d e) = join (directives_texts d) (explicit_texts e)

  stream_rest_texts : {h i : ℕ} {x : Documents} → StreamRest t h i x → AreTexts t x.comments
  unfolding with_comments with_document
  stream_rest_texts stream_ended = no_text
  stream_rest_texts (past_prefix s r) = join (part_texts s) (stream_rest_texts r)
  stream_rest_texts (past_suffixes s p r) = join (join (suffixes_texts s) (parts_texts p)) (stream_rest_texts r)
  stream_rest_texts (past_suffixes_and_document s p d r) = join (join (suffixes_texts s) (join (parts_texts p) (document_texts d))) (stream_rest_texts r)
  stream_rest_texts (past_explicit e r) = join (explicit_texts e) (stream_rest_texts r)

  stream_texts : {h : ℕ} {x : Documents} → Stream t h x → AreTexts t x.comments
  unfolding with_comments with_document
  stream_texts (begins_with_document p d r) = join (join (parts_texts p) (document_texts d)) (stream_rest_texts r)
  stream_texts (without_document p r) = join (parts_texts p) (stream_rest_texts r)

  noted_texts : {es : List EventInText} {x y : List CommentValue} → NotedComments t es x y → AreTexts t x → AreTexts t y
  noted_texts nothing_noted a = a
  noted_texts (one_comment {b = b} n r) (one_text s a) = one_text (noted_text b s) (noted_texts r a)

  all_texts : {cs : List CommentValue} → AreTexts t cs → All (IsCommentAt t) cs
  all_texts no_text = All-nil (IsCommentAt t)
  all_texts (one_text {c = c} {cs = cs} s a) = All-cons (IsCommentAt t) c cs s (all_texts a)

pub comments_of_readings_are_texts : CommentsOfReadingsAreTexts
comments_of_readings_are_texts t r a = all_texts (noted_texts a.comments (stream_texts a.reads.shapes.derived))

text_remark : {t : List ℕ} {c : CommentValue} → IsUtf8 t → IsCommentAt t c → IsRemark c.text
text_remark {c = c} u s = let h = hash_text c.offset u s.sign s.chain in record { follows = h.0; is = s.text ∙ h.1.0; line = h.1.1 }

pub comments_of_readings_are_remarks : CommentsOfReadingsAreRemarks
comments_of_readings_are_remarks t r u a =
    All-weaker (IsCommentAt t) (λ (c : CommentValue). IsRemark c.text) (λ c s. text_remark u s) r.comments (comments_of_readings_are_texts t r a)
