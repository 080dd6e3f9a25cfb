-- Each derived stream has a path through each offset that the reader of streams reaches. So if no path goes on there,
-- no stream is derived.
use Rattle.std.proofs.Common.{◌≡◌, ◌≢◌, ℕ, ◌+◌, ◌≤◌, Bool, true, false, List, length, refl, sym, subst}
use Rattle.std.specs.Str.{IsUtf8}
use Rattle.yf_chars.specs.Text.{code}
use Rattle.yf_chars.specs.Chain.{Chain, Stuck}
use Rattle.yf_chars.specs.Chain.Chain.{done, step}
use Rattle.yf_lines.specs.Basic.{ForbiddenLine}
use Rattle.yf_comments.specs.Comment.{CommentValue}
use Rattle.yf_comments.specs.Comments.{LineEnd, Row}
use Rattle.yf_comments.proofs.LineEndLemmas.{line_end_rows}
use Rattle.yf_comments.proofs.RowLemmas.{row_functional}
use Rattle.yf_events.specs.declared.reading.TheConstants.{DEPTH}
use Rattle.yf_stream.specs.DocumentReaders.{PrefixRead, PrefixRow, line_row, mark_row}
use Rattle.yf_stream.specs.Stream.{Documents, Stream}
use Rattle.yf_stream.specs.StreamReader.{NoStream}
use Rattle.yf_stream.proofs.Reader.PathLemmas.{no_path, path_at_dots, path_at_mark}
use Rattle.yf_stream.proofs.Uniqueness.StreamPath.{Path, Settled, mark_still, stream_from}

-- within the limit of open collections, a path continues from an offset, or from the end of the comment lines there
pub record PathAt (t : List ℕ) (b : Bool) (k : ℕ) : Type 0 where
  pub height : ℕ
  pub documents : Documents
  pub path : Path t b height k documents
  pub within : height ≤ DEPTH

pub record PathAfter (t : List ℕ) (b : Bool) (i : ℕ) : Type 0 where
  pub place : ℕ
  pub comments : List CommentValue
  pub settled : Settled t i place comments
  pub goes : PathAt t b place

-- each derived stream has such a path there
pub record PathsThrough (t : List ℕ) (b : Bool) (k : ℕ) : Type 0 where
  pub path : (h : ℕ) (x : Documents) → Stream t h x → h ≤ DEPTH → PathAfter t b k

module _ {t : List ℕ} where
  pub stays : {k j : ℕ} {x : List CommentValue} → Stuck (Row t k) → Chain (Row t) k j x → k ≡ j
  stays s done = refl
  stays s (step {h = h} {x = x} r c) = absurd (s.none h x r)

  pub settled_here : {b : Bool} {k : ℕ} → Stuck (Row t k) → PathAfter t b k → PathAt t b k
  settled_here {b} s p = subst (λ w. PathAt t b w) (sym (stays s p.settled.rows)) p.goes

  past_row : {b : Bool} {i j k : ℕ} {x y : List CommentValue} → Row t i j x → Chain (Row t) i k y → Stuck (Row t k) → PathAt t b k → PathAfter t b j
  past_row {j = j} {x = x} r done s p = absurd (s.none j x r)
  past_row {b} {k = k} r (step {y = y} q c) s p = record {
    place = k;
    comments = y;
    settled = record { rows = subst (λ w. Chain (Row t) w k y) (row_functional.one_end q r) c; last = s };
    goes = p;
  }

  past_prefix_row : {b : Bool} {i j : ℕ} {x : List CommentValue} → PrefixRow t i j x → PathAfter t b i → PathAfter t b j
  past_prefix_row (mark_row e) p =
      let a = settled_here (mark_still e) p in
      let m = path_at_mark e a.path in
      record { place = m.end; comments = m.comments; settled = m.settled; goes = record { height = a.height; documents = m.rest; path = m.path; within = a.within } }
  past_prefix_row (line_row r) p = past_row r p.settled.rows p.settled.last p.goes

  past_prefix_rows : {b : Bool} {i j : ℕ} {x : List CommentValue} → Chain (PrefixRow t) i j x → PathAfter t b i → PathAfter t b j
  past_prefix_rows done p = p
  past_prefix_rows (step r c) p = past_prefix_rows c (past_prefix_row r p)

  pub past_rows : {b : Bool} {i j : ℕ} {x : List CommentValue} → Chain (Row t) i j x → PathAfter t b i → PathAfter t b j
  past_rows done p = p
  past_rows (step r c) p = past_rows c (past_row r p.settled.rows p.settled.last p.goes)

  -- from the beginning of the text on, and after all document prefixes
  pub paths_begin : IsUtf8 t → PathsThrough t true 0
  paths_begin u = record {
    path = λ h x d l.
        let p = stream_from u d in
        record { place = p.place; comments = p.comments; settled = p.settled; goes = record { height = h; documents = p.documents; path = p.path; within = l } };
  }

  pub paths_past_prefix : {b : Bool} {f i j : ℕ} {c d : List CommentValue} → PrefixRead t f i j c d → PathsThrough t b i → PathsThrough t b j
  paths_past_prefix r p = record { path = λ h x d l. past_prefix_rows r.upto.rows (p.path h x d l) }

  -- after the line of a `...`
  dots_path : {b : Bool} {k j : ℕ} {cs : List CommentValue} → ForbiddenLine t k → code t k ≡ 46 → Chain (Row t) (k + 3) j cs → PathAt t b k → PathAfter t true j
  dots_path f e c a =
      let s = path_at_dots f e a.path in
      past_rows c (record { place = s.end; comments = s.comments; settled = s.settled; goes = record { height = a.height; documents = s.rest; path = s.path; within = a.within } })

  pub paths_past_dots : {b : Bool} {k j : ℕ} {cs : List CommentValue} → Stuck (Row t k) → ForbiddenLine t k → code t k ≡ 46 → LineEnd t (k + 3) j cs → PathsThrough t b k
      → PathsThrough t true j
  paths_past_dots s f e d p = record { path = λ h x r l. dots_path f e (line_end_rows d) (settled_here s (p.path h x r l)) }

  -- if no path goes on from the reader's offset, no stream is derived within the limit
  pub no_stream_from : {b : Bool} {k : ℕ} → Stuck (Row t k) → (PathAt t b k → ⊥) → PathsThrough t b k → NoStream t
  no_stream_from s n p h x d l = n (settled_here s (p.path h x d l))

  -- so no stream is derived if the reader stops since a document without `---` would follow another one
  pub no_second_bare : {f i k : ℕ} {c d : List CommentValue} → PrefixRead t f i k c d → k ≢ length t → (ForbiddenLine t k → ⊥) → PathsThrough t false k → NoStream t
  no_second_bare r n f p = no_stream_from r.no_row (λ a. no_path refl n r.no_mark f a.path) p
