-- The comments of a derived part are in text order, each within its production's span, and each is its sign with the
-- characters after it.
use Rattle.std.proofs.Common.{◌≡◌, ℕ, ℤ, ◌+◌, ◌≤◌, Bool, true, false, List, [], ◌∷◌, ◌++◌, Option, slice_range, refl, ⊎_elim, arith}
use Rattle.std.proofs.lemmas.Bool.{cases_Bool}
use Rattle.yf_chars.specs.declared.context.Ctx.{Ctx}
use Rattle.yf_chars.specs.Chain.{Chain, Many}
use Rattle.yf_chars.specs.Chain.Chain.{done, step}
use Rattle.yf_chars.proofs.ChainLemmas.{chain_forward, one_functional}
use Rattle.yf_chars.specs.Class.{is_nb_char, is_white}
use Rattle.yf_chars.specs.Text.{code}
use Rattle.yf_lines.specs.Basic.{is_block, FlowPrefix}
use Rattle.yf_comments.specs.Comment.{CommentValue}
use Rattle.yf_comments.specs.Comments.{CommentText, LineRest, LineEnd, Row, Separate}
use Rattle.yf_comments.specs.Comments.CommentText.{comment_text}
use Rattle.yf_comments.specs.Comments.LineRest.{nothing, whites, comment}
use Rattle.yf_comments.specs.Comments.Separate.{in_key, in_node}
use Rattle.yf_comments.specs.Comments.SeparateLines.{in_line, over_lines}
use Rattle.yf_comments.proofs.RowLemmas.{break_or_end_forward}
use Rattle.yf_comments.proofs.LineEndLemmas.{line_end_rows}
use Rattle.yf_comments.proofs.SeparateLemmas.{prefix_whites}
use Rattle.yf_props.specs.Names.{Properties, PropertiesValue, Anchor}
use Rattle.yf_props.specs.Names.Properties.{by_tag, by_anchor, tag_first, anchor_first}
use Rattle.yf_props.proofs.NameLemmas.{alias_parts, anchor_parts}
use Rattle.yf_props.proofs.TagLemmas.{tag_later}
use Rattle.yf_block_scalar.specs.declared.header.Header.{Header}
use Rattle.yf_block_scalar.specs.Header.{BlockHeader, HeaderValue, Style, Digit, Sign, Indicators}
use Rattle.yf_block_scalar.specs.Header.BlockHeader.{block_header}
use Rattle.yf_block_scalar.specs.Header.Style.{literal_sign, folded_sign}
use Rattle.yf_block_scalar.specs.Header.Digit.{digit}
use Rattle.yf_block_scalar.specs.Header.Sign.{strip_sign, keep_sign}
use Rattle.yf_block_scalar.specs.Header.Indicators.{neither, digit_alone, sign_alone, digit_sign, sign_digit}
use Rattle.yf_block_scalar.specs.declared.header.Chomp.{Chomp}
use Rattle.yf_block_scalar.specs.Body.{LinesTaken, Trail, Body, BodyValue, first_noted}
use Rattle.yf_block_scalar.specs.Body.Trail.{comments, no_comment}
use Rattle.yf_block_scalar.specs.Body.Body.{indicated, detected, without_content}
use Rattle.yf_block_scalar.proofs.BodyLemmas.{bare_functional}
use Rattle.yf_block_scalar.proofs.UniqueLemmas.{line_functional, lines_chain}
use Rattle.yf_quoted.proofs.ScalarLemmas.{block_stuck}
use Rattle.yf_grammar.specs.Productions.BlockScalar.{BlockScalar}
use Rattle.yf_grammar.specs.Productions.BlockScalar.BlockScalar.{block_scalar}
use Rattle.yf_grammar.specs.Productions.Grammar.{Derives, Production, MaySeparate, ValueSeparate}
use Rattle.yf_grammar.specs.Productions.Grammar.MaySeparate.{unseparated, separated}
use Rattle.yf_grammar.specs.Productions.Grammar.Derives.{flow_node, an_alias, a_plain, a_plain_with, properties_alone, a_json, a_json_with, a_single, a_double, an_empty_collection, a_collection, last_entry, last_entry_with_comma, more_entries, a_node_entry, a_pair_entry, an_explicit_entry, an_implicit_entry, an_explicit_pair, a_keyed_pair, an_unkeyed_pair, explicit_with, explicit_without, key_alone, key_and_value, value_alone, empty_value, a_value, a_key, a_block_scalar, a_block_scalar_with, a_block_collection, a_block_collection_with, flow_in_block, a_last_entry, an_entry_before, a_dash_entry, an_explicit_entry_with, an_explicit_key_alone, a_keyed_entry, an_unkeyed_entry, a_block_value, an_empty_block_value, a_compact_collection, an_indented_node, nothing_indented}
use Rattle.yf_grammar.specs.Productions.Meaning.{Meaning, ◌⊕◌, alias_to, meaning_after, collection, empty_node, entering, noting, scalar, with_props}
use Rattle.yf_grammar.proofs.FlowReader.FlowStarts.{may_line_forward}
use Rattle.yf_grammar.proofs.Ends.Forward.{in_line_forward}
use Rattle.yf_grammar.proofs.FlowReader.PlainEnds.{plain_later}
use Rattle.yf_grammar.proofs.FlowReader.QuotedEnds.{single_later, double_later}

-- a comment at an offset: # and the characters after it
pub record CommentIsAt (t : List ℕ) (i : ℕ) (text : List ℕ) : Type 0 where
  pub sign : code t i ≡ 35
  pub end : ℕ
  pub characters : List ℕ
  pub chain : Many t is_nb_char (i + 1) end characters
  pub is : text ≡ slice_range t i end

-- comments of a text in order, from one offset to another
pub data Ascend (t : List ℕ) : ℕ → List CommentValue → ℕ → Type 0 where
  no_more : {i j : ℕ} → i ≤ j → Ascend t i [] j
  one_more : {i j : ℕ} {c : CommentValue} {cs : List CommentValue} → i ≤ c.offset → CommentIsAt t c.offset c.text → Ascend t (c.offset + 1) cs j
      → Ascend t i (c ∷ cs) j

pub ascend_after : {t : List ℕ} {i h j : ℕ} {cs : List CommentValue} → i ≤ h → Ascend t h cs j → Ascend t i cs j
ascend_after l (no_more m) = no_more (omega arith)
ascend_after l (one_more m s a) = one_more (omega arith) s a

pub ascend_upto : {t : List ℕ} {i h j : ℕ} {cs : List CommentValue} → Ascend t i cs h → h ≤ j → Ascend t i cs j
ascend_upto (no_more m) l = no_more (omega arith)
ascend_upto (one_more m s a) l = one_more m s (ascend_upto a l)

pub ascend_join : {t : List ℕ} {i h j : ℕ} {cs ds : List CommentValue} → Ascend t i cs h → Ascend t h ds j → Ascend t i (cs ++ ds) j
ascend_join (no_more m) b = ascend_after m b
ascend_join (one_more m s a) b = one_more m s (ascend_join a b)

pub ascend_order : {t : List ℕ} {i j : ℕ} {cs : List CommentValue} → Ascend t i cs j → i ≤ j
ascend_order (no_more m) = m
ascend_order (one_more m s a) = let l = ascend_order a in omega arith

-- without the comments at the end
ascend_nothing : {t : List ℕ} {i j : ℕ} {cs : List CommentValue} → Ascend t i cs j → Ascend t i (cs ++ []) j
ascend_nothing a = ascend_join a (no_more (omega arith))

ascend_noted : {t : List ℕ} {i j : ℕ} (b : Bool) (cs : List CommentValue) → Ascend t i cs j → Ascend t i (first_noted b cs) j
ascend_noted b [] a = a
ascend_noted b (c ∷ cs) (one_more m s a) = one_more m s a

module _ {t : List ℕ} where
  text_ascends : {i j : ℕ} {x : List CommentValue} → CommentText t i j x → Ascend t i x j
  text_ascends (comment_text e m n) =
      one_more (omega arith) (record { sign = e; end = _; characters = _; chain = m; is = refl }) (no_more (chain_forward (one_functional t is_nb_char) m))

  rest_ascends : {i j : ℕ} {x : List CommentValue} → LineRest t i j x → Ascend t i x j
  rest_ascends (nothing e) = no_more (break_or_end_forward e)
  rest_ascends (whites s e) = let f = in_line_forward s in let g = break_or_end_forward e in no_more (omega arith)
  rest_ascends (comment s c e) = ascend_after (in_line_forward s) (ascend_upto (text_ascends c) (break_or_end_forward e))

  pub rows_ascend : {i j : ℕ} {x : List CommentValue} → Chain (Row t) i j x → Ascend t i x j
  rows_ascend done = no_more (omega arith)
  rows_ascend (step r c) = ascend_join (rest_ascends r.rest) (rows_ascend c)

  pub end_ascends : {i j : ℕ} {x : List CommentValue} → LineEnd t i j x → Ascend t i x j
  end_ascends d = rows_ascend (line_end_rows d)

  prefix_forward : {n : ℤ} {i j : ℕ} → FlowPrefix t n i j → i ≤ j
  prefix_forward p = chain_forward (one_functional t is_white) (prefix_whites p).1

  separate_ascends : {n : ℤ} {c : Ctx} {i j : ℕ} {x : List CommentValue} → Separate t n c i j x → Ascend t i x j
  separate_ascends (in_key e s) = no_more (in_line_forward s)
  separate_ascends (in_node e (in_line s)) = no_more (in_line_forward s)
  separate_ascends (in_node e (over_lines d p)) = ascend_upto (end_ascends d) (prefix_forward p)

  may_ascends : {n : ℤ} {c : Ctx} {i j : ℕ} {x : List CommentValue} → MaySeparate t n c i j x → Ascend t i x j
  may_ascends unseparated = no_more (omega arith)
  may_ascends (separated s) = separate_ascends s

value_ascends : (t : List ℕ) (n : ℤ) (c : Ctx) (i j : ℕ) (x : List CommentValue) (json : Bool) → ValueSeparate json t n c i j x → Ascend t i x j
value_ascends t n c i j x true s = may_ascends s
value_ascends t n c i j x false s = separate_ascends s

module _ {t : List ℕ} where
  anchor_forward : {i j : ℕ} {x : List ℕ} → Anchor t i j x → i ≤ j
  anchor_forward a = let l = (anchor_parts a).1.some in omega arith

  properties_ascend : {n : ℤ} {c : Ctx} {i j : ℕ} {p : PropertiesValue} → Properties t n c i j p → Ascend t i p.comments j
  properties_ascend (by_tag g) = let l = tag_later g in no_more (omega arith)
  properties_ascend (by_anchor a) = no_more (anchor_forward a)
  properties_ascend (tag_first g s a) = let l = tag_later g in ascend_after (omega arith) (ascend_upto (separate_ascends s) (anchor_forward a))
  properties_ascend (anchor_first a s g) = let l = tag_later g in ascend_after (anchor_forward a) (ascend_upto (separate_ascends s) (omega arith))

  -- block scalars
  style_forward : {i j : ℕ} {f : Bool} → Style t i j f → i ≤ j
  style_forward (literal_sign e) = omega arith
  style_forward (folded_sign e) = omega arith

  digit_forward : {i j d : ℕ} → Digit t i j d → i ≤ j
  digit_forward (digit e) = omega arith

  sign_forward : {i j : ℕ} {c : Chomp} → Sign t i j c → i ≤ j
  sign_forward (strip_sign e) = omega arith
  sign_forward (keep_sign e) = omega arith

  marks_forward : {i j : ℕ} {d : Option ℕ} {c : Chomp} → Indicators t i j d c → i ≤ j
  marks_forward neither = omega arith
  marks_forward (digit_alone d) = digit_forward d
  marks_forward (sign_alone s) = sign_forward s
  marks_forward (digit_sign d s) = let f = digit_forward d in let g = sign_forward s in omega arith
  marks_forward (sign_digit s d) = let f = sign_forward s in let g = digit_forward d in omega arith

  header_ascends : {i j : ℕ} {h : HeaderValue} → BlockHeader t i j h → Ascend t i h.comments j
  header_ascends (block_header s m r) = let f = style_forward s in let g = marks_forward m in ascend_after (omega arith) (rest_ascends r)

  taken_forward : {k i p count : ℕ} {ls : List (List ℕ)} {o : Bool} → LinesTaken t k i ls o count p → i ≤ p
  taken_forward {k} d = let f = chain_forward (line_functional t k) (lines_chain d.lines) in let g = chain_forward (bare_functional t) d.tail.lines in omega arith

  trail_ascends : {k i j : ℕ} {x : List CommentValue} → Trail t k i j x → Ascend t i x j
  trail_ascends (comments m l a e c) = end_ascends c.derived
  trail_ascends (no_comment n) = no_more (omega arith)

  body_ascends : {n : ℤ} {h : Header} {i j : ℕ} {v : BodyValue} → Body t n h i j v → Ascend t i v.comments j
  body_ascends (indicated {x = x} e a b) = ascend_after (taken_forward a) (ascend_noted _ x (trail_ascends b))
  body_ascends (detected {x = x} e d a b) = ascend_after (taken_forward a) (ascend_noted _ x (trail_ascends b))
  body_ascends (without_content {x = x} e c d b) = ascend_after (chain_forward (bare_functional t) c) (ascend_noted _ x (trail_ascends b))

  pub scalar_ascends : {n : ℤ} {i j : ℕ} {x : Meaning} → BlockScalar t n i j x → Ascend t i x.comments j
  scalar_ascends (block_scalar h b l) = ascend_join (header_ascends h) (body_ascends b)

  -- for all productions
  pub derived_ascends : {h i j : ℕ} {p : Production} {x : Meaning} → Derives t h p i j x → Ascend t i x.comments j
  unfolding meaning_after noting ◌⊕◌ collection with_props entering scalar alias_to empty_node
  derived_ascends (flow_node d) = derived_ascends d
  derived_ascends (an_alias b a) = let l = (alias_parts a).1.some in no_more (omega arith)
  derived_ascends (a_plain p) = let l = plain_later p in no_more (omega arith)
  derived_ascends (a_plain_with p s d) = let l = plain_later d in ascend_nothing (ascend_upto (ascend_join (properties_ascend p) (separate_ascends s)) (omega arith))
  derived_ascends (properties_alone b p) = ascend_nothing (properties_ascend p)
  derived_ascends (a_json d) = derived_ascends d
  derived_ascends (a_json_with p s d) = ascend_join (ascend_join (properties_ascend p) (separate_ascends s)) (derived_ascends d)
  derived_ascends (a_single {i = i} {j = j} {c = c} {x = x} q) = ⊎_elim
      (λ (b : is_block c ≡ true). absurd ((block_stuck b).none j x q))
      (λ (b : is_block c ≡ false). let l = single_later b q in no_more (omega arith))
      (cases_Bool (is_block c))
  derived_ascends (a_double {i = i} {j = j} {c = c} {x = x} q) = ⊎_elim
      (λ (b : is_block c ≡ true). absurd ((block_stuck b).none j x q))
      (λ (b : is_block c ≡ false). let l = double_later b q in no_more (omega arith))
      (cases_Bool (is_block c))
  derived_ascends (an_empty_collection a b o s e) = ascend_after (omega arith) (ascend_upto (may_ascends s) (omega arith))
  derived_ascends (a_collection a b o s d e) = ascend_after (omega arith) (ascend_upto (ascend_join (may_ascends s) (derived_ascends d)) (omega arith))
  derived_ascends (last_entry d s) = ascend_join (derived_ascends d) (may_ascends s)
  derived_ascends (last_entry_with_comma d s c r) = ascend_join (derived_ascends d) (ascend_join (may_ascends s) (ascend_after (omega arith) (may_ascends r)))
  derived_ascends (more_entries d s c r e) = ascend_join (ascend_join (derived_ascends d) (ascend_join (may_ascends s) (ascend_after (omega arith) (may_ascends r)))) (derived_ascends e)
  derived_ascends (a_node_entry d) = derived_ascends d
  derived_ascends (a_pair_entry d) = derived_ascends d
  derived_ascends (an_explicit_entry e s d) = ascend_after (omega arith) (ascend_join (separate_ascends s) (derived_ascends d))
  derived_ascends (an_implicit_entry d) = derived_ascends d
  derived_ascends (an_explicit_pair e s d) = ascend_after (omega arith) (ascend_join (separate_ascends s) (derived_ascends d))
  derived_ascends (a_keyed_pair d e) = ascend_join (derived_ascends d) (derived_ascends e)
  derived_ascends (an_unkeyed_pair d) = derived_ascends d
  derived_ascends (explicit_with d) = derived_ascends d
  derived_ascends (explicit_without b) = no_more (omega arith)
  derived_ascends (key_alone d) = ascend_nothing (derived_ascends d)
  derived_ascends (key_and_value d s e) = ascend_join (ascend_join (derived_ascends d) (may_ascends s)) (derived_ascends e)
  derived_ascends (value_alone d) = derived_ascends d
  derived_ascends (empty_value b e m) = no_more (omega arith)
  derived_ascends (a_value {i = i} {k = k} {json = json} {n = n} {c = c} cs e m s d) = ascend_after (omega arith) (ascend_join (value_ascends t n c (i + 1) k cs json s) (derived_ascends d))
  derived_ascends (a_key d s m) = ascend_upto (derived_ascends d) (may_line_forward s)
  derived_ascends (a_block_scalar b s d) = ascend_join (separate_ascends s) (scalar_ascends d)
  derived_ascends (a_block_scalar_with b s p q d) = ascend_join (ascend_join (ascend_join (separate_ascends s) (properties_ascend p)) (separate_ascends q)) (scalar_ascends d)
  derived_ascends (a_block_collection b e s l d) = ascend_join (end_ascends e) (ascend_after (omega arith) (derived_ascends d))
  derived_ascends (a_block_collection_with b s p e q l d) =
      ascend_join (ascend_join (ascend_join (separate_ascends s) (properties_ascend p)) (end_ascends e)) (ascend_after (omega arith) (derived_ascends d))
  derived_ascends (flow_in_block b s d e) = ascend_join (separate_ascends s) (ascend_join (derived_ascends d) (end_ascends e))
  derived_ascends (a_last_entry d) = derived_ascends d
  derived_ascends (an_entry_before d s e) = ascend_join (derived_ascends d) (ascend_after (omega arith) (derived_ascends e))
  derived_ascends (a_dash_entry e n d) = ascend_after (omega arith) (derived_ascends d)
  derived_ascends (an_explicit_entry_with e w d c r) = ascend_join (ascend_after (omega arith) (derived_ascends d)) (ascend_after (omega arith) (derived_ascends r))
  derived_ascends (an_explicit_key_alone e w d c) = ascend_nothing (ascend_after (omega arith) (derived_ascends d))
  derived_ascends (a_keyed_entry d e) = ascend_join (derived_ascends d) (derived_ascends e)
  derived_ascends (an_unkeyed_entry d) = derived_ascends d
  derived_ascends (a_block_value e d) = ascend_after (omega arith) (derived_ascends d)
  derived_ascends (an_empty_block_value e d) = ascend_after (omega arith) (end_ascends d)
  derived_ascends (a_compact_collection b s d) = ascend_after (omega arith) (derived_ascends d)
  derived_ascends (an_indented_node d) = derived_ascends d
  derived_ascends (nothing_indented b d) = end_ascends d
