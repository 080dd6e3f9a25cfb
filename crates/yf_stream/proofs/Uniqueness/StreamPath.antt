-- The path of a stream: its documents, over offsets at which no comment line begins, each with all comment lines after
-- it, whichever part takes them. Each derived stream has a path.
use Rattle.std.proofs.Common.{◌≡◌, ◌≢◌, ℕ, max, ◌+◌, ◌<◌, ℤ, Bool, true, false, inl, ⊎_elim, List, [], ◌∷◌, ◌++◌, length, refl, sym, ap, ◌∙◌, subst, arith, true≢false, append_assoc}
use Rattle.std.proofs.lemmas.Bool.{cases_eq, eqb-true}
use Rattle.std.specs.Str.{IsUtf8}
use Rattle.yf_chars.specs.declared.context.Ctx.{Ctx}
use Rattle.yf_chars.specs.Text.{code, next, no_char}
use Rattle.yf_chars.specs.Class.{is_white, is_white_or_end, is_ns_char, is_nb_char, is_printable, is_between, is_break_char}
use Rattle.yf_chars.specs.Chain.{Chain, Many, Stuck}
use Rattle.yf_chars.specs.Chain.One.{one}
use Rattle.yf_chars.specs.Chain.Chain.{done, step}
use Rattle.yf_chars.proofs.ChainLemmas.{chain_append, chain_one, stuck_unique}
use Rattle.yf_lines.specs.Basic.{ForbiddenLine, LineStart, SeparateInLine, is_three}
use Rattle.yf_lines.specs.Basic.LineStart.{at_text, after_mark}
use Rattle.yf_lines.specs.Basic.SeparateInLine.{by_whites, at_start}
use Rattle.yf_lines.proofs.BasicLemmas.{break_char, marker_of_dashes, marker_of_dots, three_all, three_first, three_second, ends_by_white}
use Rattle.yf_comments.specs.Comment.{CommentValue}
use Rattle.yf_comments.specs.Comments.{BreakOrEnd, LineEnd, Row, Separate}
use Rattle.yf_comments.specs.Comments.BreakOrEnd.{by_break, by_end}
use Rattle.yf_comments.specs.Comments.LineEnd.{past_rest, from_start}
use Rattle.yf_comments.specs.Comments.Separate.{in_key, in_node}
use Rattle.yf_comments.specs.Comments.SeparateLines.{in_line, over_lines}
use Rattle.yf_comments.proofs.RowLemmas.{end_code, row_functional, separate_whites, stuck_at_solid}
use Rattle.yf_comments.proofs.LineEndLemmas.{line_end_rows, lines_rows, row_stuck, row_stuck_end}
use Rattle.yf_block_scalar.proofs.HeaderLemmas.{rest_stop}
use Rattle.yf_events.specs.declared.directive.Directive.{Directive}
use Rattle.yf_grammar.specs.Productions.Grammar.{BlockNode, Derives}
use Rattle.yf_grammar.specs.Productions.Grammar.Derives.{a_block_scalar, a_block_scalar_with, a_block_collection, a_block_collection_with, flow_in_block}
use Rattle.yf_grammar.specs.Productions.Meaning.{Meaning, empty_node, noting}
use Rattle.yf_grammar.proofs.Ends.BlankRuns.{after_byte, no_start_past}
use Rattle.yf_grammar.proofs.BlockOutcomes.BlockEnds.{LineOrEnd, block_ends}
use Rattle.yf_grammar.proofs.BlockOutcomes.BlockStarts.{block_starts}
use Rattle.yf_grammar.proofs.Ends.GapLemmas.{end_next, rows_next, visible_solid}
use Rattle.yf_stream.specs.Stream.{AnyDocument, ContentAt, DirectiveLines, Directives, Document, Documents, ExplicitNode, PrefixPart, Prefixes, RootNode, Stream, StreamRest, Suffixes, document_of, only_comments, with_comments, with_document}
use Rattle.yf_stream.specs.Stream.AnyDocument.{bare_document, directive_document, explicit_document}
use Rattle.yf_stream.specs.Stream.ContentAt.{content_at}
use Rattle.yf_stream.specs.Stream.DirectiveLines.{last_directive, more_directives}
use Rattle.yf_stream.specs.Stream.ExplicitNode.{marked_node, marked_nothing}
use Rattle.yf_stream.specs.Stream.PrefixPart.{order_mark, prefix_comment}
use Rattle.yf_stream.specs.Stream.Stream.{begins_with_document, without_document}
use Rattle.yf_stream.specs.Stream.StreamRest.{past_explicit, past_prefix, past_suffixes, past_suffixes_and_document, stream_ended}
use Rattle.yf_stream.specs.Stream.Suffixes.{last_suffix, more_suffixes}
use Rattle.yf_stream.proofs.Uniqueness.NoPercent.{no_percent_node}
use Rattle.yf_stream.proofs.Uniqueness.OneDirective.{DirectivesTo, lines_begin, lines_to, percent_still, dash_still, dot_still}
use Rattle.yf_chars.proofs.CharFacts.{mark_no_white}
use Rattle.yf_grammar.proofs.FlowReader.CompleteSteps.{noting_twice}
use Rattle.yf_grammar.proofs.NodesInText.MeantLemmas.{noting_comments}
use Rattle.yf_lines.proofs.MarkLemmas.{three_code}

-- all comment lines that are there
pub record Settled (t : List ℕ) (i l : ℕ) (es : List CommentValue) : Type 0 where
  pub rows : Chain (Row t) i l es
  pub last : Stuck (Row t l)

-- a document's node, and all comment lines after it, whose comments are in its meaning too
pub record NodeTo (t : List ℕ) (h p l : ℕ) (x : Meaning) : Type 0 where
  pub end : ℕ
  pub meaning : Meaning
  pub comments : List CommentValue
  pub node : RootNode t h p end meaning
  pub settled : Settled t end l comments
  pub is : x ≡ noting meaning comments

-- likewise from a `---` on, which nothing may follow
pub data ExplicitTo (t : List ℕ) : ℕ → ℕ → ℕ → Meaning → Type 0 where
  node_to : {h i l : ℕ} {x : Meaning} → NodeTo t h (i + 3) l x → ExplicitTo t h i l x
  nothing_to : {i j l : ℕ} {cs es : List CommentValue} → LineEnd t (i + 3) j cs → Settled t j l es → ExplicitTo t 0 i l (noting (empty_node (i + 3)) (cs ++ es))

-- the flag means that a document without `---` and directives may be there
pub data Path (t : List ℕ) : Bool → ℕ → ℕ → Documents → Type 0 where
  path_ends : {b : Bool} {k : ℕ} → k ≡ length t → Path t b 0 k (only_comments [])
  path_mark : {b : Bool} {h k l : ℕ} {es : List CommentValue} {x : Documents} → code t k ≡ 0xFEFF → Settled t (next t k) l es → Path t b h l x
      → Path t b h k (with_comments es x)
  path_suffix : {b : Bool} {h k j l : ℕ} {cs es : List CommentValue} {x : Documents} → ForbiddenLine t k → code t k ≡ 46 → Settled t (k + 3) l es → Path t true h l x
      → LineEnd t (k + 3) j cs → Path t b h k (with_comments es x)
  path_explicit : {b : Bool} {h g k l : ℕ} {x : Meaning} {rest : Documents} → ForbiddenLine t k → code t k ≡ 45 → ExplicitTo t h k l x → Path t false g l rest
      → Path t b (max h g) k (with_document x.comments (document_of k true [] x) rest)
  path_directives : {b : Bool} {h g k p l : ℕ} {ds : List Directive} {cs : List CommentValue} {x : Meaning} {rest : Documents} → b ≡ true → code t k ≡ 37
      → DirectivesTo t k p ds cs → ExplicitTo t h p l x → Path t false g l rest → ForbiddenLine t p
      → Path t b (max h g) k (with_document (cs ++ x.comments) (document_of p true ds x) rest)
  path_bare : {b : Bool} {h g k p l : ℕ} {x : Meaning} {rest : Documents} → b ≡ true → (ForbiddenLine t k → ⊥) → code t k ≢ 37 → ContentAt t k p → NodeTo t h k l x
      → Path t false g l rest → Path t b (max h g) k (with_document x.comments (document_of p false [] x) rest)

-- comment lines, and a path after them
pub record PathFrom (t : List ℕ) (b : Bool) (h i : ℕ) (x : Documents) : Type 0 where
  pub place : ℕ
  pub comments : List CommentValue
  pub documents : Documents
  pub settled : Settled t i place comments
  pub path : Path t b h place documents
  pub is : x ≡ with_comments comments documents

-- comments before documents
pub comments_join : (cs ds : List CommentValue) (x : Documents) → with_comments cs (with_comments ds x) ≡ with_comments (cs ++ ds) x
unfolding with_comments
comments_join cs ds x = ap (λ w. record x { comments = w }) (sym (append_assoc cs ds x.comments))

pub no_comments : (x : Documents) → with_comments [] x ≡ x
unfolding with_comments
no_comments x = refl

document_join : (cs es : List CommentValue) (d : Document) (x : Documents) → with_document cs d (with_comments es x) ≡ with_document (cs ++ es) d x
unfolding with_comments with_document
document_join cs es d x = ap (λ w. record { documents = d ∷ x.documents; comments = w }) (sym (append_assoc cs es x.comments))

pub before_document : (cs ds : List CommentValue) (d : Document) (x : Documents) → with_comments cs (with_document ds d x) ≡ with_document (cs ++ ds) d x
unfolding with_comments with_document
before_document cs ds d x = ap (λ w. record { documents = d ∷ x.documents; comments = w }) (sym (append_assoc cs ds x.comments))

noted_document : (k : ℕ) (b : Bool) (ds : List Directive) (x : Meaning) (es : List CommentValue) → document_of k b ds (noting x es) ≡ document_of k b ds x
unfolding document_of noting
noted_document k b ds x es = refl

signs_visible : (is_ns_char 45 ≡ true) × (is_ns_char 46 ≡ true)
unfolding is_ns_char is_nb_char is_printable is_between is_break_char is_white
signs_visible = (refl, refl)

pub three_last : (t : List ℕ) (k c : ℕ) → is_three t k c ≡ true → code t (k + 2) ≡ c
three_last t k c e =
    let a = three_code t k c e in
    ⊎_elim (λ (q : code t (k + 1) ≡ c). eqb-true (code t (k + 2)) c (sym (three_all t k c a q) ∙ e))
    (λ (q : code t (k + 1) ≢ c). absurd (true≢false (sym e ∙ three_second t k c a q)))
    (cases_eq (code t (k + 1)) c)

module _ {t : List ℕ} where
  pub settled_one : {i l m : ℕ} {es fs : List CommentValue} → Settled t i l es → Settled t i m fs → (l ≡ m) × (es ≡ fs)
  settled_one a b = stuck_unique row_functional a.rows a.last b.rows b.last

  pub settled_more : {i j l : ℕ} {cs es : List CommentValue} → Chain (Row t) i j cs → Settled t j l es → Settled t i l (cs ++ es)
  settled_more c s = record { rows = chain_append c s.rows; last = s.last }

  mark_no_end : {k j : ℕ} → code t k ≡ 0xFEFF → BreakOrEnd t k j → ⊥
  mark_no_end {k} e (by_break b) = ⊎_elim (λ (f : code t k ≡ 13). absurd (omega arith)) (λ (f : code t k ≡ 10). absurd (omega arith)) (break_char b)
  mark_no_end {k = k} e (by_end f) = let g = end_code t f in absurd (omega arith)

  pub mark_still : {k : ℕ} → code t k ≡ 0xFEFF → Stuck (Row t k)
  mark_still {k} e = row_stuck (stuck_at_solid (done {i = k}) (ap is_white e ∙ mark_no_white) (λ q. absurd (omega arith)) (record { none = λ j f. mark_no_end e f }))

  pub content_still : {k p : ℕ} → ContentAt t k p → Stuck (Row t k)
  content_still (content_at s n h) = let v = visible_solid (record { ns = n; no_hash = h }) in row_stuck (stuck_at_solid (separate_whites s).1 v.not_white v.no_comment v.no_end)

  line_of : {k : ℕ} → LineOrEnd t k → code t k < no_char → LineStart t k
  line_of {k} l n = ⊎_elim (λ (s : LineStart t k). s) (λ (e : k ≡ length t). let f = end_code t e in absurd (omega arith)) l

  line_end_white : {q j : ℕ} {x : List CommentValue} → (LineStart t q → ⊥) → LineEnd t q j x → is_white_or_end (code t q) ≡ true
  line_end_white n (past_rest r c) = rest_stop n r
  line_end_white n (from_start s c) = absurd (n s)

  whites_first : {i j : ℕ} {x : List ℕ} → Many t is_white i j x → i < j → is_white (code t i) ≡ true
  whites_first done l = absurd (omega arith)
  whites_first (step (one e) c) l = e

  in_line_white : {q j : ℕ} → (LineStart t q → ⊥) → SeparateInLine t q j → is_white_or_end (code t q) ≡ true
  in_line_white {q} n (by_whites m l) = ends_by_white (code t q) (whites_first m l)
  in_line_white n (at_start s) = absurd (n s)

  separate_white : {n : ℤ} {c : Ctx} {q j : ℕ} {x : List CommentValue} → (LineStart t q → ⊥) → Separate t n c q j x → is_white_or_end (code t q) ≡ true
  separate_white n (in_key e s) = in_line_white n s
  separate_white n (in_node e (in_line s)) = in_line_white n s
  separate_white n (in_node e (over_lines d p)) = line_end_white n d

  node_white : {h q j : ℕ} {n : ℤ} {c : Ctx} {x : Meaning} → (LineStart t q → ⊥) → Derives t h (BlockNode n c) q j x → is_white_or_end (code t q) ≡ true
  node_white n (a_block_scalar b s d) = separate_white n s
  node_white n (a_block_scalar_with b s p r d) = separate_white n s
  node_white n (a_block_collection b e s l d) = line_end_white n e
  node_white n (a_block_collection_with b s p e r l d) = separate_white n s
  node_white n (flow_in_block b s d e) = separate_white n s

module _ {t : List ℕ} (u : IsUtf8 t) where
  no_start_after : (k c : ℕ) → is_three t k c ≡ true → c < 128 → is_ns_char c ≡ true → LineStart t (k + 3) → ⊥
  no_start_after k c e l n s =
      let same : k + 3 ≡ k + 2 + 1 = omega arith in
      no_start_past u (after_byte (k + 2) u (three_last t k c e) l n) (subst (λ w. LineStart t w) same s)

  pub explicit_marker : {h k j : ℕ} {x : Meaning} → LineOrEnd t k → ExplicitNode t h k j x → ForbiddenLine t k × (code t k ≡ 45)
  explicit_marker {k = k} l (marked_node e n) =
      let c = three_code t k 45 e in
      (record { start = line_of l (omega arith); marker = marker_of_dashes t k e ∙ node_white (no_start_after k 45 e (omega arith) signs_visible.0) n.derived }, c)
  explicit_marker {k = k} l (marked_nothing e d) =
      let c = three_code t k 45 e in
      (record { start = line_of l (omega arith); marker = marker_of_dashes t k e ∙ line_end_white (no_start_after k 45 e (omega arith) signs_visible.0) d }, c)

  suffix_marker : {k j : ℕ} {x : List CommentValue} → LineOrEnd t k → is_three t k 46 ≡ true → LineEnd t (k + 3) j x → ForbiddenLine t k × (code t k ≡ 46)
  suffix_marker {k} l e d =
      let c = three_code t k 46 e in
      let n = three_first t k 45 (λ q. absurd (omega arith)) in
      (record { start = line_of l (omega arith); marker = marker_of_dots t k n e ∙ line_end_white (no_start_after k 46 e (omega arith) signs_visible.1) d }, c)

  -- the ends of the parts
  pub explicit_next : {h k j : ℕ} {x : Meaning} → ExplicitNode t h k j x → LineOrEnd t j
  explicit_next (marked_node e n) = block_ends n.derived
  explicit_next (marked_nothing e d) = end_next d

  pub document_next : {h k j : ℕ} {d : Document} {cs : List CommentValue} → AnyDocument t h k j d cs → LineOrEnd t j
  document_next (bare_document n c) = block_ends n.derived
  document_next (explicit_document e) = explicit_next e
  document_next (directive_document ds e) = explicit_next e

  pub part_next : {i k : ℕ} {cs : List CommentValue} → LineOrEnd t i → PrefixPart t i k cs → LineOrEnd t k
  part_next l (order_mark e) = inl (after_mark (line_of l (omega arith)) e)
  part_next l (prefix_comment c) = rows_next l (lines_rows (chain_one c))

  pub parts_next : {i k : ℕ} {cs : List CommentValue} → LineOrEnd t i → Prefixes t i k cs → LineOrEnd t k
  parts_next l done = l
  parts_next l (step s c) = parts_next (part_next l s) c

  pub suffixes_next : {i k : ℕ} {cs : List CommentValue} → Suffixes t i k cs → LineOrEnd t k
  suffixes_next (last_suffix e d) = end_next d
  suffixes_next (more_suffixes e d s) = suffixes_next s

  -- paths from an offset on
  changed : {b : Bool} {h i : ℕ} {x y : Documents} → x ≡ y → PathFrom t b h i x → PathFrom t b h i y
  changed {b} {h} {i} e p = subst (λ w. PathFrom t b h i w) e p

  from_here : {b : Bool} {h i : ℕ} {x : Documents} → Stuck (Row t i) → Path t b h i x → PathFrom t b h i x
  from_here {i = i} {x = x} s p = record { place = i; comments = []; documents = x; settled = record { rows = done; last = s }; path = p; is = sym (no_comments x) }

  part_from : {b : Bool} {h i k : ℕ} {cs : List CommentValue} {x : Documents} → PrefixPart t i k cs → PathFrom t b h k x → PathFrom t b h i (with_comments cs x)
  part_from {x = x} (order_mark e) p = changed (sym p.is ∙ sym (no_comments x)) (from_here (mark_still e) (path_mark e p.settled p.path))
  part_from {cs = cs} (prefix_comment c) p = record {
    place = p.place;
    comments = cs ++ p.comments;
    documents = p.documents;
    settled = settled_more (lines_rows (chain_one c)) p.settled;
    path = p.path;
    is = ap (with_comments cs) p.is ∙ comments_join cs p.comments p.documents;
  }

  parts_from : {b : Bool} {h i k : ℕ} {cs : List CommentValue} {x : Documents} → Prefixes t i k cs → PathFrom t b h k x → PathFrom t b h i (with_comments cs x)
  parts_from {x = x} done p = changed (sym (no_comments x)) p
  parts_from {x = x} (step {x = cs} {y = ds} s c) p = changed (comments_join cs ds x) (part_from s (parts_from c p))

  suffix_from : {b : Bool} {h i k : ℕ} {cs : List CommentValue} {x : Documents} → LineOrEnd t i → is_three t i 46 ≡ true → LineEnd t (i + 3) k cs → PathFrom t true h k x
      → PathFrom t b h i (with_comments cs x)
  suffix_from {cs = cs} l e d p =
      let m = suffix_marker l e d in
      changed (sym (ap (with_comments cs) p.is ∙ comments_join cs p.comments p.documents))
      (from_here (dot_still m.1) (path_suffix m.0 m.1 (settled_more (line_end_rows d) p.settled) p.path d))

  suffixes_from : {b : Bool} {h i k : ℕ} {cs : List CommentValue} {x : Documents} → LineOrEnd t i → Suffixes t i k cs → PathFrom t true h k x → PathFrom t b h i (with_comments cs x)
  suffixes_from l (last_suffix e d) p = suffix_from l e d p
  suffixes_from {x = x} l (more_suffixes {cs = cs} {ds = ds} e d s) p = changed (comments_join cs ds x) (suffix_from l e d (suffixes_from (end_next d) s p))

  -- the meaning of an explicit node with the comment lines after it
  explicit_to : {h k j l : ℕ} {x : Meaning} {es : List CommentValue} → ExplicitNode t h k j x → Settled t j l es → ExplicitTo t h k l (noting x es)
  explicit_to {j = j} {x = x} {es = es} (marked_node e n) s = node_to (record { end = j; meaning = x; comments = es; node = n; settled = s; is = refl })
  explicit_to {k = k} {l = l} {es = es} (marked_nothing {cs = cs} e d) s =
      subst (λ w. ExplicitTo t 0 k l w) (sym (noting_twice (empty_node (k + 3)) cs es)) (nothing_to d s)

  with_later : (cs es : List CommentValue) (k : ℕ) (b : Bool) (ds : List Directive) (x : Meaning) (y z : Documents) → y ≡ with_comments es z
      → with_document (cs ++ (noting x es).comments) (document_of k b ds (noting x es)) z ≡ with_document (cs ++ x.comments) (document_of k b ds x) y
  with_later cs es k b ds x y z e =
      let d = document_of k b ds x in
      ap (λ w. with_document (cs ++ w) (document_of k b ds (noting x es)) z) (noting_comments x es)
      ∙ ap (λ w. with_document (cs ++ (x.comments ++ es)) w z) (noted_document k b ds x es)
      ∙ ap (λ w. with_document w d z) (sym (append_assoc cs x.comments es))
      ∙ sym (document_join (cs ++ x.comments) es d z)
      ∙ ap (with_document (cs ++ x.comments) d) (sym e)

  explicit_from : {b : Bool} {h g k j : ℕ} {x : Meaning} {rest : Documents} → LineOrEnd t k → ExplicitNode t h k j x → PathFrom t false g j rest
      → PathFrom t b (max h g) k (with_document x.comments (document_of k true [] x) rest)
  explicit_from {k = k} {x = x} {rest = rest} l e p =
      let m = explicit_marker l e in
      changed (with_later [] p.comments k true [] x rest p.documents p.is) (from_here (dash_still m.1) (path_explicit m.0 m.1 (explicit_to e p.settled) p.path))

  explicit_dash : {h k j : ℕ} {x : Meaning} → ExplicitNode t h k j x → code t k ≡ 45
  explicit_dash {k = k} (marked_node e n) = three_code t k 45 e
  explicit_dash {k = k} (marked_nothing e d) = three_code t k 45 e

  -- a document; no directive begins at a bare one
  bare_from : {h g k p j : ℕ} {x : Meaning} {rest : Documents} → RootNode t h k j x → ContentAt t k p → PathFrom t false g j rest
      → PathFrom t true (max h g) k (with_document x.comments (document_of p false [] x) rest)
  bare_from {h} {k = k} {p = p} {j = j} {x = x} {rest = rest} n c q =
      let l = block_starts n.derived in
      let y : NodeTo t h k q.place (noting x q.comments) = record { end = j; meaning = x; comments = q.comments; node = n; settled = q.settled; is = refl } in
      changed (with_later [] q.comments p false [] x rest q.documents q.is)
      (from_here (content_still c) (path_bare refl (λ f. n.clear.none k (omega arith) l f) (λ e. no_percent_node e n.derived) c y q.path))

  directives_next : {i k : ℕ} {x : Directives} → DirectiveLines t i k x → LineOrEnd t k
  directives_next (last_directive e r p d) = end_next d
  directives_next (more_directives a b) = directives_next b

  document_from : {h g k j : ℕ} {d : Document} {cs : List CommentValue} {rest : Documents} → LineOrEnd t k → AnyDocument t h k j d cs → PathFrom t false g j rest
      → PathFrom t true (max h g) k (with_document cs d rest)
  document_from l (bare_document n c) p = bare_from n c p
  document_from l (explicit_document e) p = explicit_from l e p
  document_from {rest = rest} l (directive_document {k = k} {ds = ds} {x = x} d e) p =
      changed (with_later ds.comments p.comments k true ds.directives x rest p.documents p.is)
      (from_here (percent_still (lines_begin d))
      (path_directives refl (lines_begin d) (lines_to d (explicit_dash e)) (explicit_to e p.settled) p.path (explicit_marker (directives_next d) e).0))

  -- the text after a document
  comments_thrice : (cs ds es : List CommentValue) (d : Document) (x : Documents) → with_comments cs (with_comments ds (with_document es d x)) ≡ with_document (cs ++ (ds ++ es)) d x
  comments_thrice cs ds es d x = ap (with_comments cs) (before_document ds es d x) ∙ before_document cs (ds ++ es) d x

  rest_from : {h i : ℕ} {x : Documents} (b : Bool) → LineOrEnd t i → StreamRest t h i x → PathFrom t b h i x
  rest_from b l stream_ended = from_here (row_stuck_end refl) (path_ends refl)
  rest_from b l (past_prefix s r) = part_from s (rest_from b (part_next l s) r)
  rest_from b l (past_suffixes {cs = cs} {ds = ds} {x = x} s p r) =
      changed (comments_join cs ds x) (suffixes_from l s (parts_from p (rest_from true (parts_next (suffixes_next s) p) r)))
  rest_from b l (past_suffixes_and_document {cs = cs} {ds = ds} {es = es} {d = d} {x = x} s p a r) =
      changed (comments_thrice cs ds es d x)
      (suffixes_from l s (parts_from p (document_from (parts_next (suffixes_next s) p) a (rest_from false (document_next a) r))))
  rest_from b l (past_explicit e r) = explicit_from l e (rest_from false (explicit_next e) r)

  -- each stream has a path from its start on
  pub stream_from : {h : ℕ} {x : Documents} → Stream t h x → PathFrom t true h 0 x
  stream_from (begins_with_document {cs = cs} {ds = ds} {d = d} {x = x} p a r) =
      changed (before_document cs ds d x) (parts_from p (document_from (parts_next (inl at_text) p) a (rest_from false (document_next a) r)))
  stream_from (without_document p r) = parts_from p (rest_from true (parts_next (inl at_text) p) r)
