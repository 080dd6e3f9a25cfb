-- The possible next steps of a stream's path at an offset, from the text there. If the reader of streams refuses, no
-- path goes on.
use Rattle.std.proofs.Common.{◌≡◌, ◌≢◌, ℕ, max, ◌+◌, Bool, true, false, List, [], length, refl, sym, ◌∙◌, arith, true≢false}
use Rattle.yf_chars.specs.Text.{code, next}
use Rattle.yf_chars.specs.Chain.Chain.{done, step}
use Rattle.yf_chars.specs.Chain.One.{one}
use Rattle.yf_lines.specs.Basic.{ForbiddenLine}
use Rattle.yf_lines.specs.Basic.SeparateInLine.{by_whites, at_start}
use Rattle.yf_lines.proofs.BasicLemmas.{white_below}
use Rattle.yf_comments.specs.Comment.{CommentValue}
use Rattle.yf_plain.proofs.PlainLemmas.{ns_below}
use Rattle.yf_grammar.specs.Productions.Meaning.{Meaning}
use Rattle.yf_stream.specs.Stream.{ContentAt, Documents, document_of, only_comments, with_comments, with_document}
use Rattle.yf_stream.specs.Stream.ContentAt.{content_at}
use Rattle.yf_stream.proofs.Uniqueness.OneStream.{mark_facts, no_content}
use Rattle.yf_stream.proofs.Uniqueness.StreamPath.{ExplicitTo, Path, Settled, path_bare, path_directives, path_ends, path_explicit, path_mark, path_suffix}
use Rattle.yf_comments.proofs.RowLemmas.{end_code}

-- the document that begins with a `---` there, and the path after it
pub record ExplicitStep (t : List ℕ) (h k : ℕ) (x : Documents) : Type 0 where
  pub first : ℕ
  pub others : ℕ
  pub end : ℕ
  pub meaning : Meaning
  pub rest : Documents
  pub node : ExplicitTo t first k end meaning
  pub path : Path t false others end rest
  pub height : max first others ≡ h
  pub is : x ≡ with_document meaning.comments (document_of k true [] meaning) rest

-- the comments after a `...` there, and the path after them
pub record SuffixStep (t : List ℕ) (h k : ℕ) (x : Documents) : Type 0 where
  pub end : ℕ
  pub comments : List CommentValue
  pub rest : Documents
  pub settled : Settled t (k + 3) end comments
  pub path : Path t true h end rest
  pub is : x ≡ with_comments comments rest

-- the comments after a byte order mark there, and the path after them
pub record MarkStep (t : List ℕ) (b : Bool) (h k : ℕ) (x : Documents) : Type 0 where
  pub end : ℕ
  pub comments : List CommentValue
  pub rest : Documents
  pub settled : Settled t (next t k) end comments
  pub path : Path t b h end rest
  pub is : x ≡ with_comments comments rest

module _ {t : List ℕ} where
  content_not_at_end : {k p : ℕ} → k ≡ length t → ContentAt t k p → ⊥
  content_not_at_end e (content_at (by_whites done l) n h) = absurd (omega arith)
  content_not_at_end {k} e (content_at (by_whites (step (one w) c) l) n h) = let b = white_below (code t k) w in let g = end_code t e in absurd (omega arith)
  content_not_at_end {k} e (content_at (at_start s) n h) = let b = ns_below (code t k) n in let g = end_code t e in absurd (omega arith)

  -- a path ends at the end of the text, with nothing left on it
  pub path_at_end : {b : Bool} {h k : ℕ} {x : Documents} → k ≡ length t → Path t b h k x → (h ≡ 0) × (x ≡ only_comments [])
  path_at_end e (path_ends q) = (refl, refl)
  path_at_end {k = k} e (path_mark m s p) = let n = end_code t e in absurd (omega arith)
  path_at_end {k = k} e (path_suffix f c s p ln) = let n = end_code t e in absurd (omega arith)
  path_at_end {k = k} e (path_explicit f c y p) = let n = end_code t e in absurd (omega arith)
  path_at_end {k = k} e (path_directives b c d y p m) = let n = end_code t e in absurd (omega arith)
  path_at_end e (path_bare b f c a n p) = absurd (content_not_at_end e a)

  -- no path goes on at a further document without `---`, if the one before has no `...`
  pub no_path : {b : Bool} {h k : ℕ} {x : Documents} → b ≡ false → k ≢ length t → code t k ≢ 0xFEFF → (ForbiddenLine t k → ⊥) → Path t b h k x → ⊥
  no_path e n m f (path_ends q) = n q
  no_path e n m f (path_mark c s p) = m c
  no_path e n m f (path_suffix g c s p ln) = f g
  no_path e n m f (path_explicit g c y p) = f g
  no_path e n m f (path_directives b c d y p q) = true≢false (sym b ∙ e)
  no_path e n m f (path_bare b g c a y p) = true≢false (sym b ∙ e)

  -- at a `---` a path continues with its document, at a `...` after its lines
  pub path_at_dash : {b : Bool} {h k : ℕ} {x : Documents} → ForbiddenLine t k → code t k ≡ 45 → Path t b h k x → ExplicitStep t h k x
  path_at_dash {k = k} f c (path_ends q) = let n = end_code t q in absurd (omega arith)
  path_at_dash f c (path_mark m s p) = absurd (omega arith)
  path_at_dash f c (path_suffix g d s p ln) = absurd (omega arith)
  path_at_dash f c (path_explicit {h = h} {g = g} {l = l} {x = x} {rest = rest} q d y p) = record {
    first = h;
    others = g;
    end = l;
    meaning = x;
    rest = rest;
    node = y;
    path = p;
    height = refl;
    is = refl;
  }
  path_at_dash f c (path_directives b d e y p m) = absurd (omega arith)
  path_at_dash f c (path_bare b g d a y p) = absurd (g f)

  pub path_at_dots : {b : Bool} {h k : ℕ} {x : Documents} → ForbiddenLine t k → code t k ≡ 46 → Path t b h k x → SuffixStep t h k x
  path_at_dots {k = k} f c (path_ends q) = let n = end_code t q in absurd (omega arith)
  path_at_dots f c (path_mark m s p) = absurd (omega arith)
  path_at_dots f c (path_suffix {l = l} {es = es} {x = x} g d s p ln) = record { end = l; comments = es; rest = x; settled = s; path = p; is = refl }
  path_at_dots f c (path_explicit q d y p) = absurd (omega arith)
  path_at_dots f c (path_directives b d e y p m) = absurd (omega arith)
  path_at_dots f c (path_bare b g d a y p) = absurd (g f)

  -- at a byte order mark it continues after the mark
  pub path_at_mark : {b : Bool} {h k : ℕ} {x : Documents} → code t k ≡ 0xFEFF → Path t b h k x → MarkStep t b h k x
  path_at_mark {k = k} c (path_ends q) = let n = end_code t q in absurd (omega arith)
  path_at_mark c (path_mark {l = l} {es = es} {x = x} m s p) = record { end = l; comments = es; rest = x; settled = s; path = p; is = refl }
  path_at_mark c (path_suffix g d s p ln) = absurd (omega arith)
  path_at_mark c (path_explicit q d y p) = absurd (omega arith)
  path_at_mark c (path_directives b d e y p m) = absurd (omega arith)
  path_at_mark c (path_bare b g d a y p) = absurd (no_content 0xFEFF c mark_facts.0 mark_facts.1 a)
