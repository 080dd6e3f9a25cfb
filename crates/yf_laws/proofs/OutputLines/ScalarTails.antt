-- The comments after a laid-out block scalar: those on the line of its header, and those after its end, from the start
-- of its gap on.
use Rattle.std.proofs.Common.{◌≡◌, ℕ, ℤ, zero, suc, ◌+◌, ◌-◌, ◌<◌, ◌≤◌, ◌⊎◌, inl, inr, ⊎_elim, Bool, true≢false, List, [], ◌∷◌, ◌++◌, length, map, replicate, refl, sym, ap, ◌∙◌, subst, arith, length-append, add-zero, zero-add}
use Rattle.std.proofs.lemmas.Bool.{cases_lt}
use Rattle.std.proofs.lemmas.List.{length-map, length-replicate}
use Rattle.std.specs.Str.{IsUtf8}
use Rattle.yf_chars.specs.Chain.{Chain, Functional}
use Rattle.yf_chars.specs.Chain.Chain.{done, step}
use Rattle.yf_chars.proofs.ChainLemmas.{chain_append, chain_meet, Meets, goes_on, falls_short}
use Rattle.yf_lines.specs.Basic.{Break}
use Rattle.yf_lines.specs.Basic.SeparateInLine.{by_whites}
use Rattle.yf_lines.specs.LineText.{IsLineText}
use Rattle.yf_lines.specs.Lines.{LineEnd as EndOfLine, OneLine}
use Rattle.yf_lines.specs.Lines.LineEnd.{at_break, at_end}
use Rattle.yf_lines.specs.Lines.OneLine.{one_line}
use Rattle.yf_lines.specs.Rest.{Rest}
use Rattle.yf_lines.specs.declared.line.Line.{Line}
use Rattle.yf_lines.proofs.BasicLemmas.{break_forward, break_unique}
use Rattle.yf_lines.proofs.LineLemmas.{break_breaks, break_within, line_functional, line_made}
use Rattle.yf_lines.proofs.RestLemmas.{rest_break, rest_text}
use Rattle.yf_comments.specs.Comment.{CommentValue}
use Rattle.yf_comments.specs.Comments.{Blank, LineRest, Row as CommentRow}
use Rattle.yf_comments.specs.Comments.Blank.{break_ends}
use Rattle.yf_comments.specs.Comments.BreakOrEnd.{by_break}
use Rattle.yf_comments.specs.Comments.LineRest.{nothing, whites}
use Rattle.yf_comments.specs.GapLines.{gap_then}
use Rattle.yf_comments.proofs.GapLinesLemmas.{spaces_whites, texts}
use Rattle.yf_comments.proofs.LineEndLemmas.{line_end_rows}
use Rattle.yf_block_scalar.specs.Body.{EmptyLines, Body, BodyValue, SpaceLine, LinesTaken, Trail, first_noted, is_gap_tail}
use Rattle.yf_block_scalar.specs.Body.EmptyLines.{bare}
use Rattle.yf_block_scalar.specs.Body.Body.{indicated, detected, without_content}
use Rattle.yf_block_scalar.specs.Body.Trail.{comments, no_comment}
use Rattle.yf_block_scalar.specs.declared.header.Chomp.{Chomp}
use Rattle.yf_block_scalar.specs.declared.header.Chomp.TheVariants.{Strip, Clip, Keep}
use Rattle.yf_block_scalar.specs.declared.header.Header.{Header}
use Rattle.yf_block_scalar.proofs.LinesMade.{LinesTo, blanks_one, lines_none, taken_all, taken_lines, unbroken_nb}
use Rattle.yf_events.specs.declared.event.ScalarStyle.{ScalarStyle}
use Rattle.yf_grammar.specs.Productions.BlockScalar.{LinesBetween, reach}
use Rattle.yf_grammar.specs.Productions.BlockScalar.LinesBetween.{counted}
use Rattle.yf_stream.proofs.Offsets.BrokenEnds.{Broken}
use Rattle.yf_stream.proofs.Offsets.BrokenEnds.Broken.{at_break as break_at}
use Rattle.yf_forms.specs.Nodes.BlockLines.{block_lines, content_lines, final_feeds, line_at}
use Rattle.yf_laws.specs.Nodes.BlockValues.{chomp_of, header_of}
use Rattle.yf_laws.specs.Layouts.Decorated.{Deco, body_then}
use Rattle.yf_laws.proofs.Derived.ClearRows.{AreBodyTexts, no_body_text, body_text}
use Rattle.yf_laws.proofs.OutputLines.ScalarHeld.{HeaderNotes, HeaderPassed, ScalarReached, lines_forward}

-- Lines, one for one.

module _ {A : Type 0} {S : ℕ → ℕ → List A → Type 0} (f : Functional S) (one : (i j : ℕ) (x : List A) → S i j x → length x ≡ 1) where
  no_step : {j k : ℕ} {z : List A} → Chain S j k z → length z ≡ 0 → j ≡ k
  no_step done e = refl
  no_step (step {i = i} {h = h} {x = x} {y = y} s c) e = let l = one i h x s in absurd (omega (arith, e, l, length-append x y))

  pub as_many : {i j k : ℕ} {x y : List A} → Chain S i j x → Chain S i k y → length x ≡ length y → j ≡ k
  as_many {j = j} {k = k} {x = x} {y = y} c d e = by (chain_meet f c d) where
    by : Meets S j k x y → j ≡ k
    by (goes_on z m is) = let l : length y ≡ length (x ++ z) = ap length is in no_step m (omega (arith, e, l, length-append x z))
    by (falls_short z m is) = let l : length x ≡ length (y ++ z) = ap length is in sym (no_step m (omega (arith, e, l, length-append y z)))

one_long : {t : List ℕ} (i j : ℕ) (x : List Line) → OneLine t i j x → length x ≡ 1
one_long i j x (one_line m) = refl

pub as_many_lines : {t : List ℕ} {i j k n : ℕ} → LinesTo t i j n → LinesTo t i k n → j ≡ k
as_many_lines {t} a b = as_many (line_functional t) (λ i j x o. one_long i j x o) a.chain b.chain (a.counts ∙ sym b.counts)

ends_of : {t : List ℕ} {h j : ℕ} → EndOfLine t h j → Break t h j ⊎ (h ≡ length t)
ends_of (at_break b) = inl b
ends_of (at_end e) = inr e

-- a line with a known text
line_ends : {t : List ℕ} {x : List ℕ} {q j : ℕ} {ls : List Line} (r : List ℕ) → IsUtf8 t → IsLineText x → Rest t q (x ++ (10 ∷ r)) → OneLine t q j ls → j ≡ q + length x + 1
line_ends {t} {x} {q} {j} r u a w o =
    let made = line_made o in
    let line = made.made in
    let unbroken = line.unbroken in
    let start = made.start in
    let next = made.next in
    let order = unbroken.order in
    let text = rest_text x u a w in
    let end = rest_break u text.rest in
    let chars = unbroken_nb u text.chars in
    let within = break_within end.0 in
    let no_end : made.line.end ≡ length t → q + length x ≤ made.line.end → made.line.end ≤ q + length x → ⊥ = λ e l m. omega (arith, e, l, m, within) in
    ⊎_elim
    (λ (l : made.line.end < q + length x).
    ⊎_elim (λ (b : Break t made.line.end made.line.next). absurd (true≢false (sym (break_breaks b) ∙ chars.none made.line.end (omega (arith, start, order)) l)))
    (λ (e : made.line.end ≡ length t). absurd (omega (arith, e, l, within))) (ends_of line.ends))
    (λ (l : q + length x ≤ made.line.end).
    ⊎_elim (λ (m : q + length x < made.line.end). absurd (true≢false (sym (break_breaks end.0) ∙ unbroken.none (q + length x) (omega (arith, start)) m)))
    (λ (m : made.line.end ≤ q + length x).
    let same : made.line.end ≡ q + length x = omega (arith, l, m) in
    ⊎_elim (λ (b : Break t made.line.end made.line.next). sym next ∙ break_unique (subst (λ k. Break t k made.line.next) same b) end.0)
    (λ (e : made.line.end ≡ length t). absurd (no_end e l m)) (ends_of line.ends))
    (cases_lt (q + length x) made.line.end))
    (cases_lt made.line.end (q + length x))

-- after the lines of a body
record Walked (t : List ℕ) (e : ℕ) (r : List ℕ) : Type 0 where
  rest : Rest t e r
  last : ℕ
  break : Break t last e

walk : {t : List ℕ} {xs : List (List ℕ)} {q e k : ℕ} {ls : List Line} (r : List ℕ) → IsUtf8 t → AreBodyTexts xs → Rest t q (body_then xs r) → Break t k q → Chain (OneLine t) q e ls → length ls ≡ length xs → Walked t e r
walk {t} {q = q} {k = k} r u no_body_text w b c n =
    let same = no_step (line_functional t) (λ i j x o. one_long i j x o) c n in
    record { rest = subst (λ z. Rest t z r) same w; last = k; break = subst (λ z. Break t k z) same b }
walk r u (body_text a m more) w b done n = absurd (omega (arith, n))
walk {t} {q = q} r u (body_text {x = x} {xs = xs} a m more) w b (step {h = h} {x = y} {y = z} o c) n =
    let text = rest_text x u a w in
    let end = rest_break u text.rest in
    let same : h ≡ q + length x + 1 = line_ends (body_then xs r) u a w o in
    let one = one_long q h y o in
    walk r u more (subst (λ v. Rest t v (body_then xs r)) (sym same) end.1) (subst (λ v. Break t (q + length x) v) (sym same) end.0) c (omega (arith, n, one, length-append y z))

walk_some : {t : List ℕ} {x : List ℕ} {xs : List (List ℕ)} {q e : ℕ} {ls : List Line} (r : List ℕ) → IsUtf8 t → AreBodyTexts (x ∷ xs) → Rest t q (body_then (x ∷ xs) r) → Chain (OneLine t) q e ls → length ls ≡ suc (length xs) → Walked t e r
walk_some r u (body_text a m more) w done n = absurd (omega (arith, n))
walk_some {t} {x} {xs} {q} r u (body_text a m more) w (step {h = h} {x = y} {y = z} o c) n =
    let text = rest_text x u a w in
    let end = rest_break u text.rest in
    let same : h ≡ q + length x + 1 = line_ends (body_then xs r) u a w o in
    let one = one_long q h y o in
    walk r u more (subst (λ v. Rest t v (body_then xs r)) (sym same) end.1) (subst (λ v. Break t (q + length x) v) (sym same) end.0) c (omega (arith, n, one, length-append y z))

walk_body : {t : List ℕ} (xs : List (List ℕ)) {q e : ℕ} {ls : List Line} (r : List ℕ) → IsUtf8 t → (xs ≡ [] → ⊥) → AreBodyTexts xs → Rest t q (body_then xs r) → Chain (OneLine t) q e ls → length ls ≡ length xs → Walked t e r
walk_body [] r u some a w c n = absurd (some refl)
walk_body (x ∷ xs) r u some a w c n = walk_some r u a w c n

-- The comment lines after the scalar.

space_row : {t : List ℕ} {i j : ℕ} (m : ℕ) → SpaceLine t i m j → CommentRow t i j []
space_row {t} {i} {j} zero a = let l = break_forward a.ends in record { rest = nothing (by_break (subst (λ k. Break t k j) (add-zero i) a.ends)); later = omega (arith, l) }
space_row {t} {i} (suc m) a = let l = break_forward a.ends in record { rest = whites (by_whites (spaces_whites (suc m) i a.spaces).1 (omega arith)) (by_break a.ends); later = omega (arith, l) }

bare_rows : {t : List ℕ} {i j : ℕ} {widths : List ℕ} → Chain (EmptyLines t) i j widths → Chain (CommentRow t) i j []
bare_rows done = done
bare_rows (step (bare m a) c) = step (space_row m a) (bare_rows c)

trail_rows : {t : List ℕ} {k i j : ℕ} {x : List CommentValue} → Trail t k i j x → Chain (CommentRow t) i j x
trail_rows (comments m l s e c) = line_end_rows c.derived
trail_rows (no_comment n) = done

record BodyTail (t : List ℕ) (e place : ℕ) (own : List CommentValue) : Type 0 where
  far : List CommentValue
  blank : Bool
  is : own ≡ first_noted blank far
  rows : Chain (CommentRow t) e place far

from_end : {t : List ℕ} {k e place : ℕ} {x : List CommentValue} (b : Bool) → e ≡ k → Chain (CommentRow t) k place x → BodyTail t e place (first_noted b x)
from_end {t} {place = place} {x = x} b same c = record { far = x; blank = b; is = refl; rows = subst (λ z. Chain (CommentRow t) z place x) (sym same) c }

as_lines : {t : List ℕ} {n i j : ℕ} → LinesBetween t n i j → LinesTo t i j n
as_lines (counted c e) = record { lines = _; chain = c; counts = e }

taken_tail : {t : List ℕ} {k start p place e count : ℕ} {ls : List (List ℕ)} {o : Bool} {x : List CommentValue} (b : Bool) (c : Chomp) → IsUtf8 t → (a : LinesTaken t k start ls o count p) → Trail t k p place x
    → LinesBetween t (reach c (length ls) count) start e → BodyTail t e place (first_noted b x)
taken_tail b Strip u a w m = from_end b (as_many_lines (as_lines m) (taken_lines u a)) (chain_append (bare_rows a.tail.lines) (trail_rows w))
taken_tail b Clip u a w m = from_end b (as_many_lines (as_lines m) (taken_lines u a)) (chain_append (bare_rows a.tail.lines) (trail_rows w))
taken_tail b Keep u a w m = from_end b (as_many_lines (as_lines m) (taken_all u a)) (trail_rows w)

bare_tail : {t : List ℕ} {k start p place e : ℕ} {widths : List ℕ} {x : List CommentValue} (b : Bool) (c : Chomp) → Chain (EmptyLines t) start p widths → Trail t k p place x → LinesBetween t (reach c 0 (length widths)) start e
    → BodyTail t e place (first_noted b x)
bare_tail {start = start} b Strip a w m = from_end b (as_many_lines (as_lines m) (lines_none start)) (chain_append (bare_rows a) (trail_rows w))
bare_tail {start = start} b Clip a w m = from_end b (as_many_lines (as_lines m) (lines_none start)) (chain_append (bare_rows a) (trail_rows w))
bare_tail {t} {start = start} {p = p} {widths = widths} b Keep a w m = from_end b (as_many_lines (as_lines m) (subst (λ k. LinesTo t start p k) (sym (zero-add (length widths))) (blanks_one a))) (trail_rows w)

body_tail : {t : List ℕ} {n : ℤ} {h : Header} {start place e : ℕ} {v : BodyValue} → IsUtf8 t → Body t n h start place v → LinesBetween t (reach h.chomp (length v.lines) v.tail) start e → BodyTail t e place v.comments
body_tail {h = h} u (indicated {count = count} f a w) m = taken_tail (is_gap_tail h.chomp count) h.chomp u a w m
body_tail {h = h} u (detected {count = count} f d a w) m = taken_tail (is_gap_tail h.chomp count) h.chomp u a w m
body_tail {h = h} u (without_content {widths = widths} f a s w) m = bare_tail (is_gap_tail h.chomp (length widths)) h.chomp a w m

-- Both.

pub record ScalarTail (t : List ℕ) (d : Deco) (q finish place : ℕ) (own : List CommentValue) : Type 0 where
  pub near : List CommentValue
  pub far : List CommentValue
  pub at : ℕ
  pub start : ℕ
  pub first : Bool
  pub follows : List ℕ
  pub is : own ≡ near ++ first_noted first far
  pub trail : texts near ≡ d.trails
  pub from : q ≤ at
  pub line : LineRest t at start near
  pub order : start ≤ finish
  pub later : q < finish
  pub blank : Blank t finish
  pub broken : Broken t finish
  pub rest : Rest t finish (gap_then d.gap follows)
  pub ended : Rest t place follows
  pub rows : Chain (CommentRow t) finish place far

reach_all : (n k : ℕ) → reach (chomp_of n) k (n - 1) ≡ k + (n - 1)
reach_all zero k = sym (add-zero k)
reach_all (suc zero) k = sym (add-zero k)
reach_all (suc (suc n)) k = refl

lines_many : (column n : ℕ) (ls : List (List ℕ)) → length (map (line_at column) (ls ++ replicate n [])) ≡ length ls + n
lines_many column n ls =
    length-map (ls ++ replicate n []) (line_at column) ∙ (length-append ls (replicate n []) ∙ ap (λ z. length ls + z) (length-replicate n []))

pub scalar_tail : {t : List ℕ} {n : ℤ} {notes : List (List ℕ)} {q : ℕ} {r : List ℕ} (style : ScalarStyle) (text : List ℕ) (lines : List (List ℕ)) (indent column : ℕ) (d : Deco) → IsUtf8 t
    → (block_lines style column text lines ≡ [] → ⊥) → AreBodyTexts (block_lines style column text lines) → (a : ScalarReached t n (header_of style indent text) (content_lines style text lines) (final_feeds text - 1) notes q r)
    → HeaderPassed t q a.start (body_then (block_lines style column text lines) (gap_then d.gap r)) → HeaderNotes t q a.start a.header.comments d.trails
    → ScalarTail t d q a.node.meaning.finish a.node.place a.node.meaning.comments
scalar_tail {t} {r = r} style text lines indent column d u some body a passed notes =
    let ls : List (List ℕ) = content_lines style text lines in
    let count : a.lines ≡ length (block_lines style column text lines) = a.exact ∙ (reach_all (final_feeds text) (length ls) ∙ sym (lines_many column (final_feeds text - 1) ls)) in
    let between = as_lines a.between in
    let walked = walk_body (block_lines style column text lines) (gap_then d.gap r) u some body passed.rest between.chain (between.counts ∙ count) in
    let tail = body_tail u a.body (subst (λ k. LinesBetween t k a.start a.node.meaning.finish) a.reaches a.between) in
    let before = passed.before in
    let forward = lines_forward a.between in
    record {
      near = a.header.comments;
      far = tail.far;
      at = notes.at;
      start = a.start;
      first = tail.blank;
      follows = r;
      is = a.comments ∙ ap (λ z. a.header.comments ++ z) tail.is;
      trail = notes.is;
      from = notes.from;
      line = notes.line;
      order = forward;
      later = omega (arith, before, forward);
      blank = break_ends walked.break;
      broken = break_at walked.break;
      rest = walked.rest;
      ended = a.node.rest;
      rows = tail.rows;
    }
