-- The documents of a stream are in order: directives, the start, the node with its content, and the next document.
use Rattle.std.proofs.Common.{◌≡◌, ◌≢◌, ℕ, ◌+◌, ◌<◌, ◌≤◌, true, false, List, [], ◌∷◌, length, sym, ap, ◌∙◌, subst, ⊎_elim, arith, true≢false}
use Rattle.std.specs.Prelude.{◌&&◌, ◌==◌}
use Rattle.std.proofs.lemmas.Bool.{cases_eq}
use Rattle.std.proofs.lemmas.Bool.Decides.{nat_tests}
use Rattle.std.specs.Str.{IsUtf8}
use Rattle.yf_chars.specs.Chain.{Many}
use Rattle.yf_chars.specs.Chain.Chain.{done, step}
use Rattle.yf_chars.specs.Chain.One.{one}
use Rattle.yf_chars.specs.Class.{is_white}
use Rattle.yf_chars.specs.Text.{code}
use Rattle.yf_chars.proofs.ChainLemmas.{chain_forward, chain_one}
use Rattle.yf_chars.proofs.TextLemmas.{next_ascii, next_later}
use Rattle.yf_lines.specs.Basic.{LineStart, SeparateInLine, is_three}
use Rattle.yf_lines.specs.Basic.SeparateInLine.{by_whites, at_start}
use Rattle.yf_comments.specs.Comment.{CommentValue}
use Rattle.yf_comments.proofs.LineEndLemmas.{lines_rows}
use Rattle.yf_comments.proofs.RowLemmas.{row_functional}
use Rattle.yf_plain.proofs.PlainLemmas.{ns_not_white}
use Rattle.yf_events.specs.Tree.{Node, flat}
use Rattle.yf_grammar.specs.Productions.Meaning.{Meaning}
use Rattle.yf_grammar.proofs.BlockOutcomes.BlockCover.{after_dash}
use Rattle.yf_grammar.proofs.Ends.Forward.{in_line_forward}
use Rattle.yf_grammar.proofs.Ends.GapLemmas.{Visible}
use Rattle.yf_grammar.proofs.NodesInText.NodePlaces.{NodeIsAt, node_after, node_upto}
use Rattle.yf_grammar.proofs.NodesInText.PlacedNodes.{NodeAt, node_wider, node_noting, nothing_at}
use Rattle.yf_grammar.proofs.NodesInText.PlacesDerived.{VisibleAt, places}
use Rattle.yf_stream.specs.Stream.{AnyDocument, ContentAt, Directives, Document, Documents, ExplicitNode, PrefixPart, Prefixes, Stream, StreamRest, Suffixes, document_of, with_comments, with_document}
use Rattle.yf_stream.specs.Stream.AnyDocument.{bare_document, directive_document, explicit_document}
use Rattle.yf_stream.specs.Stream.ContentAt.{content_at}
use Rattle.yf_stream.specs.Stream.ExplicitNode.{marked_node, marked_nothing}
use Rattle.yf_stream.specs.Stream.PrefixPart.{order_mark, prefix_comment}
use Rattle.yf_stream.specs.Stream.Stream.{begins_with_document, without_document}
use Rattle.yf_stream.specs.Stream.StreamRest.{past_explicit, past_prefix, past_suffixes, past_suffixes_and_document, stream_ended}
use Rattle.yf_stream.specs.Stream.Suffixes.{last_suffix, more_suffixes}
use Rattle.yf_stream.proofs.Offsets.BrokenEnds.{Broken, DocumentBounds, block_broken, end_broken}
use Rattle.yf_stream.proofs.Offsets.DirectiveOrder.{DirectivesStand, no_directives_stand, directives_after, directives_stand}
use Rattle.yf_stream.proofs.Uniqueness.Forward.{line_end_forward}
use Rattle.yf_lines.proofs.BasicLemmas.{white_below}

pub record DocumentAt (t : List ℕ) (i j : ℕ) (d : Document) : Type 0 where
  pub node : Node
  pub directives : DirectivesStand i d.directives d.start
  pub events : d.events ≡ flat node
  pub is_there : NodeIsAt t d.start j node
  pub bounds : DocumentBounds t d.start j

pub data DocumentsStand (t : List ℕ) : ℕ → List Document → Type 0 where
  no_documents_stand : {i : ℕ} → i ≤ length t → DocumentsStand t i []
  document_is_at : {i j : ℕ} {d : Document} {ds : List Document} → DocumentAt t i j d → DocumentsStand t j ds → DocumentsStand t i (d ∷ ds)

-- white space ends before a visible character

module _ {t : List ℕ} where
  whites_before : {i k a : ℕ} {x : List ℕ} → Many t is_white i k x → Visible t a → i ≤ a → k ≤ a
  whites_before done v l = l
  whites_before {a = a} (step (one {i = i} e) c) v l = ⊎_elim
      (λ (q : i ≡ a). absurd (true≢false (sym e ∙ ap (λ z. is_white (code t z)) q ∙ ns_not_white (code t a) v.ns)))
      (λ (q : i ≢ a). whites_before c v (let n = next_ascii t i (white_below (code t i) e) in omega arith))
      (cases_eq i a)

  separated_before : {i k a : ℕ} → SeparateInLine t i k → Visible t a → i ≤ a → k ≤ a
  separated_before (by_whites m l) v o = whites_before m v o
  separated_before (at_start s) v o = o

  -- the parts of a stream never lead back
  part_forward : {i j : ℕ} {x : List CommentValue} → PrefixPart t i j x → i ≤ j
  part_forward (order_mark {i = i} e) = let l = next_later t i in omega arith
  part_forward (prefix_comment c) = chain_forward row_functional (lines_rows (chain_one c))

  parts_forward : {i j : ℕ} {x : List CommentValue} → Prefixes t i j x → i ≤ j
  parts_forward done = omega arith
  parts_forward (step s c) = let f = part_forward s in let g = parts_forward c in omega arith

  suffixes_forward : {i j : ℕ} {x : List CommentValue} → Suffixes t i j x → i ≤ j
  suffixes_forward (last_suffix e d) = let f = line_end_forward d in omega arith
  suffixes_forward (more_suffixes e d s) = let f = line_end_forward d in let g = suffixes_forward s in omega arith

  document_after : {h i j : ℕ} {d : Document} → h ≤ i → DocumentAt t i j d → DocumentAt t h j d
  document_after l a = record { node = a.node; directives = directives_after l a.directives; events = a.events; is_there = a.is_there; bounds = a.bounds }

  documents_after : {h i : ℕ} {ds : List Document} → h ≤ i → DocumentsStand t i ds → DocumentsStand t h ds
  documents_after l (no_documents_stand m) = no_documents_stand (omega arith)
  documents_after l (document_is_at a b) = document_is_at (document_after l a) b

third_dash : (a b c : ℕ) → ((a == 45) && ((b == 45) && (c == 45))) ≡ true → c ≡ 45
third_dash a b c e = grind (arith, nat_tests)

first_dash : (a b c : ℕ) → ((a == 45) && ((b == 45) && (c == 45))) ≡ true → a ≡ 45
first_dash a b c e = grind (arith, nat_tests)

module _ {t : List ℕ} (u : IsUtf8 t) where
  first_of : (i : ℕ) → is_three t i 45 ≡ true → code t i ≡ 45
  unfolding is_three
  first_of i e = first_dash (code t i) (code t (i + 1)) (code t (i + 2)) e

  third_of : (i : ℕ) → is_three t i 45 ≡ true → code t (i + 2) ≡ 45
  unfolding is_three
  third_of i e = third_dash (code t i) (code t (i + 1)) (code t (i + 2)) e

  explicit_node : {h i j : ℕ} {x : Meaning} → ExplicitNode t h i j x → NodeAt t i j x
  explicit_node (marked_node e n) = let a = places u n.derived in node_wider (omega (arith, a.begins.order)) a.node (omega arith)
  explicit_node (marked_nothing {cs = cs} e d) = node_noting cs (node_wider (omega arith) (nothing_at (line_end_forward d)) (omega arith))

  explicit_broken : {h i j : ℕ} {x : Meaning} → ExplicitNode t h i j x → Broken t j
  explicit_broken (marked_node e n) = block_broken u n.derived
  explicit_broken (marked_nothing {i = i} e d) =
      let same : i + 2 + 1 ≡ i + 3 = omega arith in
      end_broken (λ s. after_dash u (i + 2) (third_of i e) (subst (λ k. LineStart t k) (sym same) s)) d

  explicit_bounds : {h i j : ℕ} {x : Meaning} → ExplicitNode t h i j x → DocumentBounds t i j
  explicit_bounds {i = i} e = let first : code t i ≡ 45 = dash_of e in record { start = λ z. absurd (omega (arith, first, z)); end = explicit_broken e } where
    dash_of : {h i j : ℕ} {x : Meaning} → ExplicitNode t h i j x → code t i ≡ 45
    dash_of (marked_node {i = i} e n) = first_of i e
    dash_of (marked_nothing {i = i} e d) = first_of i e

  document_with : {i k j : ℕ} {x : Meaning} (ds : Directives) → DirectivesStand i ds.directives k → NodeAt t k j x → DocumentBounds t k j
      → DocumentAt t i j (document_of k true ds.directives x)
  unfolding document_of
  document_with ds d a b = record { node = a.node; directives = d; events = a.events; is_there = node_upto a.is_there a.ends; bounds = b }

  explicit_at : {h i j : ℕ} {x : Meaning} → ExplicitNode t h i j x → DocumentAt t i j (document_of i true [] x)
  explicit_at e = document_with (record { directives = []; comments = [] }) (no_directives_stand (omega arith)) (explicit_node e) (explicit_bounds e)

  bare_at : {i k j : ℕ} {x : Meaning} → VisibleAt t i j x → ContentAt t i k → Broken t j → DocumentAt t i j (document_of k false [] x)
  unfolding document_of
  bare_at a (content_at s n h) b =
      let l = separated_before s a.begins.visible a.begins.order in
      record {
        node = a.node.node;
        directives = no_directives_stand (in_line_forward s);
        events = a.node.events;
        is_there = node_upto (node_after l a.node.is_there) a.node.ends;
        bounds = record { start = h; end = b };
      }

  document_at : {h i j : ℕ} {d : Document} {x : List CommentValue} → AnyDocument t h i j d x → DocumentAt t i j d
  document_at (bare_document n c) = bare_at (places u n.derived) c (block_broken u n.derived)
  document_at (explicit_document e) = explicit_at e
  document_at (directive_document {ds = ds} d e) = document_with ds (directives_stand d) (explicit_node e) (explicit_bounds e)

  rest_is_at : {h i : ℕ} {x : Documents} → StreamRest t h i x → DocumentsStand t i x.documents
  unfolding with_comments with_document
  rest_is_at stream_ended = no_documents_stand (omega arith)
  rest_is_at (past_prefix s r) = documents_after (part_forward s) (rest_is_at r)
  rest_is_at (past_suffixes s p r) = let f = suffixes_forward s in let g = parts_forward p in documents_after (omega arith) (rest_is_at r)
  rest_is_at (past_suffixes_and_document s p d r) =
      let f = suffixes_forward s in let g = parts_forward p in document_is_at (document_after (omega arith) (document_at d)) (rest_is_at r)
  rest_is_at (past_explicit e r) = document_is_at (explicit_at e) (rest_is_at r)

  -- for a stream
  pub stream_is_at : {h : ℕ} {x : Documents} → Stream t h x → DocumentsStand t 0 x.documents
  unfolding with_comments with_document
  stream_is_at (begins_with_document p d r) = document_is_at (document_after (omega arith) (document_at d)) (rest_is_at r)
  stream_is_at (without_document p r) = documents_after (omega arith) (rest_is_at r)
