-- The documents of a stream have at most one byte more than its text: their events, one for each document, and their
-- directives, in addition to all comments.
use Rattle.std.proofs.Common.{◌≡◌, ℕ, suc, ◌+◌, ◌-◌, ◌<◌, ◌≤◌, true, List, [], ◌∷◌, ◌++◌, length, arith}
use Rattle.std.specs.Prelude.{slice_range}
use Rattle.yf_chars.specs.Chain.{Chain}
use Rattle.yf_chars.specs.Chain.Chain.{done, step}
use Rattle.yf_chars.specs.Class.{is_uri_char}
use Rattle.yf_chars.proofs.ChainLemmas.{chain_forward}
use Rattle.yf_chars.proofs.TextLemmas.{next_later}
use Rattle.yf_props.specs.Names.{Handle, TagPrefix}
use Rattle.yf_props.specs.Names.Handle.{primary_handle, secondary_handle, named_handle}
use Rattle.yf_props.specs.Names.TagPrefix.{local_prefix, global_prefix}
use Rattle.yf_props.proofs.TagLemmas.{percent_uri, spelled_functional, tag_functional}
use Rattle.yf_comments.specs.Comment.{CommentValue}
use Rattle.yf_events.specs.declared.directive.Directive.{Directive}
use Rattle.yf_grammar.specs.Productions.Meaning.{Meaning}
use Rattle.yf_grammar.proofs.Ends.Forward.{in_line_forward}
use Rattle.yf_stream.specs.Stream.{AnyDocument, DirectiveLines, Directives, Document, Documents, ExplicitNode, Parameters, PrefixPart, Prefixes, ReservedParameter, Stream, StreamRest, Suffixes, document_of, with_comments, with_document}
use Rattle.yf_stream.specs.Stream.AnyDocument.{bare_document, directive_document, explicit_document}
use Rattle.yf_stream.specs.Stream.DirectiveLines.{last_directive, more_directives}
use Rattle.yf_stream.specs.Stream.ExplicitNode.{marked_node, marked_nothing}
use Rattle.yf_stream.specs.Stream.Parameters.{reserved_parameters, tag_parameters, version_parameter}
use Rattle.yf_stream.specs.Stream.PrefixPart.{order_mark, prefix_comment}
use Rattle.yf_stream.specs.Stream.ReservedParameter.{reserved_parameter}
use Rattle.yf_stream.specs.Stream.Stream.{begins_with_document, without_document}
use Rattle.yf_stream.specs.Stream.StreamRest.{past_explicit, past_prefix, past_suffixes, past_suffixes_and_document, stream_ended}
use Rattle.yf_stream.specs.Stream.Suffixes.{last_suffix, more_suffixes}
use Rattle.yf_laws.proofs.Size.CommentBytes.{end_remarks, line_remarks, slice_short}
use Rattle.yf_laws.proofs.Size.NodeBytes.{Fills, fills, fills_nothing, fills_noting}
use Rattle.yf_laws.proofs.Size.Weights.{Weighs, remark_high, remark_weight, remarks_append, remarks_weight}

-- Directives: their words, each with at least one byte, and the sign.

abbrev pub words_weight : List (List ℕ) → ℕ
words_weight [] = 0
words_weight (w ∷ ws) = remark_weight w + words_weight ws

words_append : (xs ys : List (List ℕ)) → words_weight (xs ++ ys) ≡ words_weight xs + words_weight ys
words_append [] ys = omega arith
words_append (x ∷ xs) ys = let l = words_append xs ys in omega (arith, l)

abbrev pub directives_weight : List Directive → ℕ
directives_weight [] = 0
directives_weight (d ∷ ds) = suc (words_weight d.words) + directives_weight ds

directives_append : (xs ys : List Directive) → directives_weight (xs ++ ys) ≡ directives_weight xs + directives_weight ys
directives_append [] ys = omega arith
directives_append (x ∷ xs) ys = let l = directives_append xs ys in omega (arith, l)

word_weight : (t : List ℕ) (i j : ℕ) → i < j → remark_weight (slice_range t i j) + i ≤ j
word_weight t i j l =
    let s = slice_short t i j (omega (arith, l)) in
    let m = remark_high (slice_range t i j) (j - i) (omega (arith, l)) (omega (arith, s)) in
    omega (arith, l, m)

module _ {t : List ℕ} where
  handle_later : {i h : ℕ} → Handle t i h → i < h
  handle_later (primary_handle a) = omega arith
  handle_later (secondary_handle a b) = omega arith
  handle_later (named_handle a r b) = let l = r.some in omega (arith, l)

  prefix_later : {i j : ℕ} {x : List ℕ} → TagPrefix t i j x → i < j
  prefix_later (local_prefix e c) = let f = chain_forward (spelled_functional t is_uri_char percent_uri) c in omega (arith, f)
  prefix_later (global_prefix s c) = let f = tag_functional.forward s in let g = chain_forward (spelled_functional t is_uri_char percent_uri) c in omega (arith, f, g)

  words_room : {i j : ℕ} {x : List (List ℕ)} → Chain (ReservedParameter t) i j x → words_weight x + i ≤ j
  words_room done = omega arith
  words_room (step {x = x} {y = y} (reserved_parameter {k = k} {j = j} s n r) c) =
      let f = in_line_forward s in let l = word_weight t k j r.some in let m = words_room c in omega (arith, f, l, m, words_append x y)

  parameters_room : {name : List ℕ} {i j : ℕ} {x : List (List ℕ)} → Parameters t name i j x → words_weight x + i ≤ j
  parameters_room (version_parameter {k = k} {j = j} e s a q b) =
      let f = in_line_forward s in let g = a.some in let h = b.some in let l = word_weight t k j (omega (arith, g, h)) in omega (arith, f, l)
  parameters_room (tag_parameters {k = k} {h = h} {p = p} {j = j} e s a q b) =
      let f = in_line_forward s in
      let l = word_weight t k h (handle_later a) in
      let g = in_line_forward q in
      let m = word_weight t p j (prefix_later b) in
      omega (arith, f, l, g, m)
  parameters_room (reserved_parameters e n c) = words_room c

  directives_room : {i j : ℕ} {x : Directives} → DirectiveLines t i j x → directives_weight x.directives + (remarks_weight x.comments + i) ≤ j
  directives_room (last_directive {i = i} {k = k} e r p d) =
      let f = word_weight t (i + 1) k r.some in let g = parameters_room p in let h = end_remarks d in omega (arith, f, g, h)
  directives_room (more_directives {x = x} {y = y} a b) =
      let f = directives_room a in let g = directives_room b in omega (arith, f, g, directives_append x.directives y.directives, remarks_append x.comments y.comments)

-- Documents: each has one for its `---`.

pub data DocumentsWeigh : ℕ → List Document → Type 0 where
  none_weigh : DocumentsWeigh 0 []
  one_weighs : {n m : ℕ} {d : Document} {ds : List Document} → Weighs n d.events → DocumentsWeigh m ds → DocumentsWeigh (suc (n + directives_weight d.directives) + m) (d ∷ ds)

pub record StreamFills (i j : ℕ) (x : Documents) : Type 0 where
  pub weight : ℕ
  pub weigh : DocumentsWeigh weight x.documents
  pub room : weight + (remarks_weight x.comments + i) ≤ j

-- a document, with its comments, and one byte more
record DocumentFills (i j : ℕ) (d : Document) (cs : List CommentValue) : Type 0 where
  weight : ℕ
  weighs : Weighs weight d.events
  room : suc (weight + directives_weight d.directives) + (remarks_weight cs + i) ≤ suc j

next_document : {i j k n m : ℕ} {d : Document} {es : List CommentValue} {x : Documents} (cs : List CommentValue) → suc n + (remarks_weight cs + k) ≤ m + (remarks_weight es + i) → DocumentFills i j d es → StreamFills j n x
    → StreamFills k m (with_document cs d x)
unfolding with_document
next_document {d = d} {x = x} cs l a b = record {
  weight = suc (a.weight + directives_weight d.directives) + b.weight;
  weigh = one_weighs a.weighs b.weigh;
  room = let r = a.room in let s = b.room in omega (arith, l, r, s, remarks_append cs x.comments);
}

more_comments : {i k j : ℕ} {x : Documents} (cs : List CommentValue) → remarks_weight cs + i ≤ k → StreamFills k j x → StreamFills i j (with_comments cs x)
unfolding with_comments
more_comments {x = x} cs l a = record { weight = a.weight; weigh = a.weigh; room = let r = a.room in omega (arith, l, r, remarks_append cs x.comments) }

module _ {t : List ℕ} where
  explicit_fills : {h i j : ℕ} {x : Meaning} → ExplicitNode t h i j x → Fills (i + 3) j 0 x
  explicit_fills (marked_node e n) = fills n.derived
  explicit_fills (marked_nothing {i = i} {cs = cs} e d) = fills_noting cs (fills_nothing {i = i + 3} {j = i + 3} (i + 3) (omega arith)) (end_remarks d)

  document_fills : {h i j : ℕ} {d : Document} {cs : List CommentValue} → AnyDocument t h i j d cs → DocumentFills i j d cs
  unfolding document_of
  document_fills (bare_document n c) = let a : Fills _ _ 0 _ = fills n.derived in record { weight = a.weight; weighs = a.weighs; room = let r = a.room in omega (arith, r) }
  document_fills (explicit_document e) = let a = explicit_fills e in record { weight = a.weight; weighs = a.weighs; room = let r = a.room in omega (arith, r) }
  document_fills (directive_document {ds = ds} {x = x} l e) =
      let a = explicit_fills e in
      let d = directives_room l in
      record { weight = a.weight; weighs = a.weighs; room = let r = a.room in omega (arith, r, d, remarks_append ds.comments x.comments) }

  marked_fills : {h i j : ℕ} {x : Meaning} → ExplicitNode t h i j x → DocumentFills (i + 2) j (document_of i true [] x) x.comments
  unfolding document_of
  marked_fills e = let a = explicit_fills e in record { weight = a.weight; weighs = a.weighs; room = let r = a.room in omega (arith, r) }

  part_remarks : {i j : ℕ} {cs : List CommentValue} → PrefixPart t i j cs → remarks_weight cs + i ≤ j
  part_remarks (order_mark {i = i} e) = let l = next_later t i in omega (arith, l)
  part_remarks (prefix_comment c) = line_remarks c

  prefixes_remarks : {i j : ℕ} {cs : List CommentValue} → Prefixes t i j cs → remarks_weight cs + i ≤ j
  prefixes_remarks done = omega arith
  prefixes_remarks (step {x = x} {y = y} p c) = let l = part_remarks p in let m = prefixes_remarks c in omega (arith, l, m, remarks_append x y)

  suffixes_remarks : {i j : ℕ} {cs : List CommentValue} → Suffixes t i j cs → remarks_weight cs + (i + 3) ≤ j
  suffixes_remarks (last_suffix e d) = end_remarks d
  suffixes_remarks (more_suffixes {cs = cs} {ds = ds} e d s) = let l = end_remarks d in let m = suffixes_remarks s in omega (arith, l, m, remarks_append cs ds)

  rest_fills : {h i : ℕ} {x : Documents} → StreamRest t h i x → StreamFills i (length t) x
  rest_fills stream_ended = record { weight = 0; weigh = none_weigh; room = omega arith }
  rest_fills (past_prefix {cs = cs} p r) = more_comments cs (part_remarks p) (rest_fills r)
  rest_fills (past_suffixes {cs = cs} {ds = ds} s p r) =
      let l = suffixes_remarks s in let m = prefixes_remarks p in more_comments (cs ++ ds) (omega (arith, l, m, remarks_append cs ds)) (rest_fills r)
  rest_fills (past_suffixes_and_document {cs = cs} {ds = ds} {es = es} s p a r) =
      let l = suffixes_remarks s in
      let m = prefixes_remarks p in
      next_document (cs ++ (ds ++ es)) (omega (arith, l, m, remarks_append cs (ds ++ es), remarks_append ds es)) (document_fills a) (rest_fills r)
  rest_fills (past_explicit {x = x} e r) = next_document x.comments (omega arith) (marked_fills e) (rest_fills r)

  pub stream_fills : {h : ℕ} {x : Documents} → Stream t h x → StreamFills 0 (suc (length t)) x
  stream_fills (begins_with_document {cs = cs} {ds = ds} p a r) =
      let l = prefixes_remarks p in next_document (cs ++ ds) (omega (arith, l, remarks_append cs ds)) (document_fills a) (rest_fills r)
  stream_fills (without_document {cs = cs} p r) =
      let a = more_comments cs (prefixes_remarks p) (rest_fills r) in record { weight = a.weight; weigh = a.weigh; room = let l = a.room in omega (arith, l) }
