-- Streams (9): from the relations of the standard's productions to `Stream`.
use Rattle.std.proofs.Common.{◌≡◌, ℕ, zero, suc, ◌+◌, ◌≤◌, true, false, List, [], ◌∷◌, ◌++◌, length, refl, sym, ap, ◌∙◌, subst, ◌⊎◌, inl, inr, ⊎_elim, arith}
use Rattle.std.proofs.lemmas.Bool.{cases_Bool}
use Rattle.std.specs.Str.{IsUtf8}
use Rattle.yf_chars.specs.Text.{code, next, no_char}
use Rattle.yf_chars.specs.Class.{is_white}
use Rattle.yf_chars.specs.Chain.{Chain, Many, Stuck}
use Rattle.yf_chars.specs.Chain.Chain.{done, step}
use Rattle.yf_chars.specs.Chain.One.{one}
use Rattle.yf_lines.specs.Basic.{LineStart, is_three}
use Rattle.yf_lines.specs.Basic.LineStart.{at_text, after_break, after_mark}
use Rattle.yf_comments.specs.Comment.{CommentValue}
use Rattle.yf_comments.specs.Comments.{CommentLine, LineEnd, Row}
use Rattle.yf_comments.specs.Comments.LineEnd.{past_rest, from_start}
use Rattle.yf_grammar.specs.Productions.Meaning.{Meaning, meaning_after}
use Rattle.yf_stream.specs.Stream.{Directives, DirectiveLines, Document, Documents, RootNode, ContentAt, ExplicitNode, AnyDocument, PrefixPart, Prefixes, Suffixes, StreamRest, Stream}
use Rattle.yf_stream.specs.Stream.DirectiveLines.{more_directives}
use Rattle.yf_stream.specs.Stream.ExplicitNode.{marked_node, marked_nothing}
use Rattle.yf_stream.specs.Stream.AnyDocument.{bare_document, explicit_document, directive_document}
use Rattle.yf_stream.specs.Stream.PrefixPart.{order_mark, prefix_comment}
use Rattle.yf_stream.specs.Stream.Suffixes.{last_suffix, more_suffixes}
use Rattle.yf_stream.specs.Stream.StreamRest.{stream_ended, past_prefix, past_suffixes, past_suffixes_and_document, past_explicit}
use Rattle.yf_stream.specs.Stream.Stream.{begins_with_document, without_document}
use Rattle.yf_stream.specs.DocumentReaders.{PrefixRow, line_row, mark_row}
use Rattle.yf_standard.proofs.Reading.{Star}
use Rattle.yf_standard.proofs.Reading.Star.{none, more}
use Rattle.yf_standard.proofs.Basics.{SomeOf}
use Rattle.yf_standard.proofs.ScalarsWhole.{line_begins, lines_begin}
use Rattle.yf_chars.proofs.ChainLemmas.{chain_append}
use Rattle.yf_chars.proofs.TextLemmas.{code-past, next_later, reads_real}
use Rattle.yf_lines.proofs.BasicLemmas.{clear_back}
use Rattle.yf_lines.proofs.LineLemmas.{break_within}
use Rattle.yf_comments.proofs.LineEndLemmas.{rest_next, rows_lines}
use Rattle.yf_grammar.proofs.BlockOutcomes.BlockEnds.{block_ends}
use Rattle.yf_grammar.proofs.BlockOutcomes.BlockStarts.{block_starts}
use Rattle.yf_grammar.proofs.BlockOutcomes.BlockLeading.{shed}
use Rattle.yf_stream.proofs.Reader.BareStarts.{bare_start}
use Rattle.yf_stream.proofs.Existence.RowsKnown.{prefixes_from}
use Rattle.yf_stream.proofs.Uniqueness.StreamPath.{mark_still}
use Rattle.yf_chars.proofs.CharFacts.{end_no_white}

abbrev pub Begins : List ℕ → ℕ → Type 0
Begins t i = LineStart t i ⊎ (i ≡ length t)

abbrev pub SomeRoot : List ℕ → ℕ → ℕ → ℕ → Type 0
SomeRoot t e i j = (h : ℕ) × ((x : Meaning) × (RootNode t h i j x × (h ≤ e)))

abbrev pub SomeExplicit : List ℕ → ℕ → ℕ → ℕ → Type 0
SomeExplicit t e i j = (h : ℕ) × ((x : Meaning) × (ExplicitNode t h i j x × (h ≤ e)))

abbrev pub SomeDirectives : List ℕ → ℕ → ℕ → Type 0
SomeDirectives t i j = (ds : Directives) × DirectiveLines t i j ds

abbrev pub Suffix : List ℕ → ℕ → ℕ → Type 0
Suffix t i j = (is_three t i 46 ≡ true) × SomeOf (LineEnd t) (i + 3) j

-- [210], with directives before [209] and [208]
abbrev pub Any : List ℕ → ℕ → ℕ → ℕ → Type 0
Any t e i j = ((k : ℕ) × (SomeDirectives t i k × SomeExplicit t e k j)) ⊎ (SomeExplicit t e i j ⊎ SomeRoot t e i j)

abbrev pub SomeDocument : List ℕ → ℕ → ℕ → ℕ → Type 0
SomeDocument t e i j = (h : ℕ) × ((d : Document) × ((es : List CommentValue) × (AnyDocument t h i j d es × (h ≤ e))))

-- a round of the last star of [211]
abbrev pub Round : List ℕ → ℕ → ℕ → ℕ → Type 0
Round t e i j = ((k : ℕ) × (((h : ℕ) × (Suffix t i h × Star (Suffix t) h k)) × ((m : ℕ) × (Star (SomeOf (Prefixes t)) k m × ((m ≡ j) ⊎ Any t e m j)))))
    ⊎ (((code t i ≡ 0xFEFF) × (next t i ≡ j)) ⊎ (SomeOf (CommentLine t) i j ⊎ SomeExplicit t e i j))

pub line_end_begins : {t : List ℕ} {i j : ℕ} {w : List CommentValue} → LineEnd t i j w → Begins t j
line_end_begins (past_rest r c) = lines_begin (rest_next r) c
line_end_begins (from_start s c) = lines_begin (inl s) c

pub part_begins : {t : List ℕ} {i j : ℕ} {w : List CommentValue} → Begins t i → PrefixPart t i j w → Begins t j
part_begins (inl s) (order_mark e) = inl (after_mark s e)
part_begins {t} {i} (inr q) (order_mark e) = let z : code t i ≡ no_char = code-past t i (omega (arith, q)) in absurd (omega (arith, z, e))
part_begins b (prefix_comment c) = line_begins c

pub parts_begin : {t : List ℕ} {i j : ℕ} {w : List CommentValue} → Begins t i → Prefixes t i j w → Begins t j
parts_begin b done = b
parts_begin b (step p r) = parts_begin (part_begins b p) r

start_within : {t : List ℕ} {i : ℕ} → IsUtf8 t → LineStart t i → i ≤ length t
start_within u at_text = omega arith
start_within u (after_break b) = break_within b
start_within {t} u (after_mark {i = i} s e) = (reads_real t i u (omega (arith, e))).within

pub begins_within : {t : List ℕ} {i : ℕ} → IsUtf8 t → Begins t i → i ≤ length t
begins_within u (inl s) = start_within u s
begins_within u (inr e) = omega (arith, e)

-- as much white space as possible
record Whites (t : List ℕ) (i : ℕ) : Type 0 where
  end : ℕ
  run : List ℕ
  whites : Many t is_white i end run
  stops : is_white (code t end) ≡ false

whites_from : (t : List ℕ) (n i : ℕ) → length t ≤ i + n → Whites t i
whites_from t zero i l = record { end = i; run = []; whites = done; stops = ap is_white (code-past t i (omega arith)) ∙ end_no_white }
whites_from t (suc n) i l =
    ⊎_elim (λ (c : is_white (code t i) ≡ true).
    let o = next_later t i in
    let r = whites_from t n (next t i) (omega arith) in
    record { end = r.end; run = code t i ∷ r.run; whites = step (one c) r.whites; stops = r.stops })
    (λ (c : is_white (code t i) ≡ false). record { end = i; run = []; whites = done; stops = c }) (cases_Bool (is_white (code t i)))

-- the rows at the start of prefixes
record RowsFrom (t : List ℕ) (i : ℕ) : Type 0 where
  end : ℕ
  comments : List CommentValue
  rows : Chain (Row t) i end comments
  last : Stuck (Row t end)

no_row_of : {t : List ℕ} {i : ℕ} → Stuck (PrefixRow t i) → Stuck (Row t i)
no_row_of n = record { none = λ j w r. n.none j w (line_row r) }

rows_of : {t : List ℕ} {i j : ℕ} {w : List CommentValue} → Chain (PrefixRow t) i j w → Stuck (PrefixRow t j) → RowsFrom t i
rows_of {i = i} done n = record { end = i; comments = []; rows = done; last = no_row_of n }
rows_of {i = i} (step (mark_row e) r) n = record { end = i; comments = []; rows = done; last = mark_still e }
rows_of (step (line_row a) r) n = let b = rows_of r n in record { end = b.end; comments = _; rows = step a b.rows; last = b.last }

pub rows_prefixes : {t : List ℕ} {i j : ℕ} {w : List CommentValue} → Chain (CommentLine t) i j w → Prefixes t i j w
rows_prefixes done = done
rows_prefixes (step l r) = step (prefix_comment l) (rows_prefixes r)

rows_forward : {t : List ℕ} {i j : ℕ} {w : List CommentValue} → Chain (Row t) i j w → i ≤ j
rows_forward done = omega arith
rows_forward (step a r) = let l = a.later in let b = rows_forward r in omega (arith, l, b)

-- N5: comment lines that a bare document begins with are before it
pub record BareRead (t : List ℕ) (h i j : ℕ) (x : Meaning) : Type 0 where
  pub at : ℕ
  pub comments : List CommentValue
  pub before : Prefixes t i at comments
  pub content : ℕ
  pub starts : ContentAt t at content
  pub meaning : Meaning
  pub root : RootNode t h at j meaning
  pub is : x ≡ meaning_after comments meaning

pub bare_known : {t : List ℕ} {h i j : ℕ} {x : Meaning} → IsUtf8 t → Begins t i → j ≤ length t → RootNode t h i j x → BareRead t h i j x
bare_known u (inr q) l r = let s = block_starts r.derived in absurd (omega (arith, q, l, s))
bare_known {t} {i = i} {j = j} u (inl s) l r =
    let p = prefixes_from u i (inl s) in
    let w = rows_of p.rows p.last in
    let lines = rows_lines s w.rows in
    let d = shed refl (record { start = s; rows = w.rows }) w.last r.derived in
    let f = block_starts d.derived in
    let g = rows_forward w.rows in
    let start : LineStart t w.end = ⊎_elim (λ (b : LineStart t w.end). b) (λ (z : w.end ≡ length t). absurd (omega (arith, z, f, l))) (lines_begin (inl s) lines) in
    let v = whites_from t (length t) w.end (omega arith) in
    record {
      at = w.end;
      comments = w.comments;
      before = rows_prefixes lines;
      content = v.end;
      starts = bare_start start w.last v.whites v.stops d.derived;
      meaning = d.meaning;
      root = record { derived = d.derived; clear = clear_back g r.clear };
      is = d.is;
    }

pub bare_read : (t : List ℕ) (e i j : ℕ) → IsUtf8 t → Begins t i → j ≤ length t → SomeRoot t e i j → (k : ℕ) × (SomeOf (Prefixes t) i k × ((p : ℕ) × (ContentAt t k p × SomeRoot t e k j)))
bare_read t e i j u s l r =
    let b = bare_known u s l r.1.1.0 in (b.at, ((b.comments, b.before), (b.content, (b.starts, (r.0, (b.meaning, (b.root, r.1.1.1)))))))

-- [209]: one or more directives
pub directives_read : (t : List ℕ) (i k j : ℕ) → SomeDirectives t i k → Star (SomeDirectives t) k j → SomeDirectives t i j
directives_read t i k j d none = d
directives_read t i k j d (more {k = h} e r) = let rest = directives_read t k h j e r in (_, more_directives d.1 rest.1)

-- [208]
pub explicit_node_read : (t : List ℕ) (e i j : ℕ) → is_three t i 45 ≡ true → SomeRoot t e (i + 3) j ⊎ ((k : ℕ) × ((i + 3 ≡ k) × SomeOf (LineEnd t) k j)) → SomeExplicit t e i j
explicit_node_read t e i j q (inl r) = (r.0, (r.1.0, (marked_node q r.1.1.0, r.1.1.1)))
explicit_node_read t e i j q (inr r) = (0, (_, (marked_nothing q (subst (λ z. LineEnd t z j r.1.1.0) (sym r.1.0) r.1.1.1), omega arith)))

module _ (t : List ℕ) (e : ℕ) (u : IsUtf8 t) where
  explicit_ends : {h i j : ℕ} {x : Meaning} → ExplicitNode t h i j x → Begins t j
  explicit_ends (marked_node q r) = block_ends r.derived
  explicit_ends (marked_nothing q l) = line_end_begins l

  any_ends : (i j : ℕ) → Any t e i j → Begins t j
  any_ends i j (inl d) = explicit_ends d.1.1.1.1.0
  any_ends i j (inr (inl d)) = explicit_ends d.1.1.0
  any_ends i j (inr (inr d)) = block_ends d.1.1.0.derived

  -- a document after the comment lines that a bare one begins with
  document_read : (i j : ℕ) → Begins t i → j ≤ length t → Any t e i j → (k : ℕ) × (SomeOf (Prefixes t) i k × SomeDocument t e k j)
  document_read i j b l (inl d) = (i, (([], done), (d.1.1.0, (_, (_, (directive_document d.1.0.1 d.1.1.1.1.0, d.1.1.1.1.1))))))
  document_read i j b l (inr (inl d)) = (i, (([], done), (d.0, (_, (_, (explicit_document d.1.1.0, d.1.1.1))))))
  document_read i j b l (inr (inr d)) =
      let s = bare_read t e i j u b l d in
      let r = s.1.1.1.1 in
      (s.0, (s.1.0, (r.0, (_, (_, (bare_document r.1.1.0 s.1.1.1.0, r.1.1.1))))))

  suffixes_read : (i k j : ℕ) → Suffix t i k → Star (Suffix t) k j → SomeOf (Suffixes t) i j × Begins t j
  suffixes_read i k j s none = ((s.1.0, last_suffix s.0 s.1.1), line_end_begins s.1.1)
  suffixes_read i k j s (more {k = h} r q) =
      let rest = suffixes_read k h j r q in ((s.1.0 ++ rest.0.0, more_suffixes s.0 s.1.1 rest.0.1), rest.1)

  prefixes_read : (i j : ℕ) → Star (SomeOf (Prefixes t)) i j → SomeOf (Prefixes t) i j
  prefixes_read i j none = ([], done)
  prefixes_read i j (more {k = h} p r) = let rest = prefixes_read h j r in (p.0 ++ rest.0, chain_append p.1 rest.1)

  Rest : ℕ → Type 0
  Rest i = (h : ℕ) × ((x : Documents) × (StreamRest t h i x × (h ≤ e)))

  rest_read : (i z : ℕ) → Begins t i → z ≡ length t → Star (Round t e) i z → Rest i
  unfolding Rest
  rest_read i z b q none = subst (λ z. (h : ℕ) × ((x : Documents) × (StreamRest t h z x × (h ≤ e)))) (sym q) (0, (_, (stream_ended, omega arith)))
  rest_read i z b q (more {k = j} (inl r) s) = go (λ c. rest_read j z c q s) r.1.1.1.1 where
    suffixes : SomeOf (Suffixes t) i r.0 × Begins t r.0
    suffixes = suffixes_read i r.1.0.0 r.0 r.1.0.1.0 r.1.0.1.1

    prefixes : SomeOf (Prefixes t) r.0 r.1.1.0
    prefixes = prefixes_read r.0 r.1.1.0 r.1.1.1.0

    begins : Begins t r.1.1.0
    begins = parts_begin suffixes.1 prefixes.1

    go : (Begins t j → Rest j) → (r.1.1.0 ≡ j) ⊎ Any t e r.1.1.0 j → Rest i
    go f (inl same) =
        let rest = f (subst (λ z. Begins t z) same begins) in
        let p : Prefixes t r.0 j prefixes.0 = subst (λ z. Prefixes t r.0 z prefixes.0) same prefixes.1 in
        (rest.0, (_, (past_suffixes suffixes.0.1 p rest.1.1.0, rest.1.1.1)))
    go f (inr d) =
        let rest = f (any_ends r.1.1.0 j d) in
        let a = document_read r.1.1.0 j begins (begins_within u (any_ends r.1.1.0 j d)) d in
        let m = a.1.1 in
        let v = m.1.1.1.1 in let w = rest.1.1.1 in
        (_, (_, (past_suffixes_and_document suffixes.0.1 (chain_append prefixes.1 a.1.0.1) m.1.1.1.0 rest.1.1.0, omega (arith, v, w))))
  rest_read i z b q (more {k = j} (inr (inl m)) s) =
      let one : SomeOf (PrefixPart t) i j = subst (λ z. SomeOf (PrefixPart t) i z) m.1 ([], order_mark m.0) in
      let rest = rest_read j z (part_begins b one.1) q s in
      (rest.0, (_, (past_prefix one.1 rest.1.1.0, rest.1.1.1)))
  rest_read i z b q (more {k = j} (inr (inr (inl c))) s) =
      let rest = rest_read j z (line_begins c.1) q s in
      (rest.0, (_, (past_prefix (prefix_comment c.1) rest.1.1.0, rest.1.1.1)))
  rest_read i z b q (more {k = j} (inr (inr (inr d))) s) =
      let rest = rest_read j z (explicit_ends d.1.1.0) q s in
      let v = d.1.1.1 in let w = rest.1.1.1 in
      (_, (_, (past_explicit d.1.1.0 rest.1.1.0, omega (arith, v, w))))

  -- [211]
  pub stream_read : (z : ℕ) → z ≡ length t → (k : ℕ) × (Star (SomeOf (Prefixes t)) 0 k × ((m : ℕ) × (((k ≡ m) ⊎ Any t e k m) × Star (Round t e) m z))) → (h : ℕ) × ((x : Documents) × (Stream t h x × (h ≤ e)))
  unfolding Rest
  stream_read z q d = go d.1.1.1.0 where
    prefixes : SomeOf (Prefixes t) 0 d.0
    prefixes = prefixes_read 0 d.0 d.1.0

    begins : Begins t d.0
    begins = parts_begin (inl at_text) prefixes.1

    go : (d.0 ≡ d.1.1.0) ⊎ Any t e d.0 d.1.1.0 → (h : ℕ) × ((x : Documents) × (Stream t h x × (h ≤ e)))
    go (inl same) =
        let rest = rest_read d.1.1.0 z (subst (λ z. Begins t z) same begins) q d.1.1.1.1 in
        let p : Prefixes t 0 d.1.1.0 prefixes.0 = subst (λ z. Prefixes t 0 z prefixes.0) same prefixes.1 in
        (rest.0, (_, (without_document p rest.1.1.0, rest.1.1.1)))
    go (inr a) =
        let ends = any_ends d.0 d.1.1.0 a in
        let rest = rest_read d.1.1.0 z ends q d.1.1.1.1 in
        let f = document_read d.0 d.1.1.0 begins (begins_within u ends) a in
        let m = f.1.1 in let v = m.1.1.1.1 in let w = rest.1.1.1 in
        (_, (_, (begins_with_document (chain_append prefixes.1 f.1.0.1) m.1.1.1.0 rest.1.1.0, omega (arith, v, w))))
