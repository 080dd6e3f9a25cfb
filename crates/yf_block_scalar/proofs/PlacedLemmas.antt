-- A written block scalar is derived again among other lines, up to the line that is further left.
use Rattle.std.proofs.Common.{◌≡◌, ◌≢◌, ℕ, zero, suc, ◌+◌, ◌<◌, ◌≤◌, Bool, true, false, true≢false, not, List, [], ◌∷◌, ◌++◌, length, map, drop, replicate, length-drop, refl, sym, ap, ◌∙◌, subst, inl, inr, ◌⊎◌, ⊎_elim, arith}
use Rattle.std.proofs.lemmas.List.{length-replicate}
use Rattle.std.proofs.lemmas.Bool.{cases_lt, and_parts, not-true}
use Rattle.std.specs.Str.{IsUtf8}
use Rattle.yf_chars.specs.Text.{code, no_char}
use Rattle.yf_chars.specs.Class.{is_ns_char, is_nb_char, is_printable, is_between, is_break_char, is_white}
use Rattle.yf_chars.specs.Chain.{Chain, Stuck}
use Rattle.yf_chars.specs.Chain.Chain.{done, step}
use Rattle.yf_chars.proofs.ChainLemmas.{chain_append}
use Rattle.yf_chars.proofs.TextLemmas.{code-end}
use Rattle.yf_lines.specs.Basic.{Spaces, LineStart}
use Rattle.yf_lines.specs.Basic.LineStart.{after_break}
use Rattle.yf_lines.proofs.BasicLemmas.{break_char}
use Rattle.yf_lines.proofs.RestLemmas.{Rest, rest_spaces, rest_char, rest_break}
use Rattle.yf_comments.specs.Comment.{CommentValue}
use Rattle.yf_comments.specs.Comments.{CommentText, Row, BreakOrEnd}
use Rattle.yf_comments.specs.Comments.CommentText.{comment_text}
use Rattle.yf_comments.specs.Comments.LineEnd.{from_start}
use Rattle.yf_comments.specs.Comments.BreakOrEnd.{by_break, by_end}
use Rattle.yf_comments.specs.GapLines.{GapLine, blank, remark, gap_then, AreGapLines, AllLeft, remarks_of}
use Rattle.yf_comments.proofs.RowLemmas.{stuck_at_solid}
use Rattle.yf_comments.proofs.LineEndLemmas.{line_end_chosen, row_stuck, row_stuck_end}
use Rattle.yf_comments.proofs.GapLinesLemmas.{texts, spaces_whites, remark_at, gap_at}
use Rattle.yf_block_scalar.specs.Body.{SpaceLine, EmptyLines, Ends, LineContent, Line, Lines, LinesTaken, Trail}
use Rattle.yf_block_scalar.specs.Body.EmptyLines.{bare}
use Rattle.yf_block_scalar.specs.Body.Ends.{by_break as end_by_break}
use Rattle.yf_block_scalar.specs.Body.LineContent.{content}
use Rattle.yf_block_scalar.specs.Body.Line.{empty_line, content_line}
use Rattle.yf_block_scalar.specs.Body.Lines.{up_to}
use Rattle.yf_block_scalar.specs.Body.Trail.{comments, no_comment}
use Rattle.yf_block_scalar.specs.Content.{feeds, literal_after}
use Rattle.yf_block_scalar.specs.Placed.{lines_then, Below, nothing_below, line_below}
use Rattle.yf_block_scalar.specs.Written.{indented, AreLineTexts, EndsWithContent}
use Rattle.yf_block_scalar.proofs.WrittenLemmas.{empty_made, after_line, Lasts, lines_made}
use Rattle.yf_block_scalar.proofs.WrittenLemmas.ContentLineEnd.{break_after}
use Rattle.yf_block_scalar.proofs.DerivedLemmas.{stuck_past, trail_past, largest-zeros}
use Rattle.yf_chars.proofs.CharFacts.{hash_ns}

-- the end of the text
pub rest_end : {t : List ℕ} {q : ℕ} → Rest t q [] → q ≡ length t
rest_end {t} {q} s =
    let long : length (drop q t) ≡ 0 = ap length s.bytes in
    omega (arith, length-drop q t, s.boundary.0)

-- lines in the form of the lemmas on them
pub lines_shape : (k : ℕ) (x : List ℕ) (ls : List (List ℕ)) (r : List ℕ) → lines_then k (x ∷ ls) r ≡ indented k x ++ (literal_after (map (indented k) ls) ++ (10 ∷ r))
lines_shape k x [] r = refl
lines_shape k x (y ∷ ls) r = ap (λ w. indented k x ++ (10 ∷ w)) (lines_shape k y ls r) ∙ sym (after_line k x y ls (10 ∷ r))

content_next : {t : List ℕ} {k i j : ℕ} {x : List ℕ} → LineContent t k i j x false → LineStart t j
content_next {t} c = go c where
  end_next : {h j : ℕ} → Ends t h j false → LineStart t j
  end_next (end_by_break b) = after_break b

  go : {k i j : ℕ} {x : List ℕ} → LineContent t k i j x false → LineStart t j
  go (content s m l e n) = end_next e

-- blank lines
record Blanks (t : List ℕ) (q c : ℕ) (r : List ℕ) : Type 0 where
  pub place : ℕ
  pub chain : Chain (EmptyLines t) q place (replicate c 0)
  pub start : LineStart t place
  pub rest : Rest t place r

bare_more : {t : List ℕ} {q h j : ℕ} (c : ℕ) → SpaceLine t q 0 h → Chain (EmptyLines t) h j (replicate c 0) → Chain (EmptyLines t) q j (replicate (suc c) 0)
bare_more c a d = step (bare 0 a) d

blanks_made : {t : List ℕ} (c q : ℕ) {r : List ℕ} → IsUtf8 t → LineStart t q → Rest t q (feeds c ++ r) → Blanks t q c r
blanks_made zero q u l s = record { place = q; chain = done; start = l; rest = s }
blanks_made {t} (suc c) q u l s =
    let end = rest_break u s in
    let made = empty_made u s in
    let more = blanks_made c (q + 1) u (after_break end.0) end.1 in
    record { place = more.place; chain = bare_more c made.0 more.chain; start = more.start; rest = more.rest }

abbrev zeros : ℕ → List ℕ
zeros c = replicate c 0

zeros_append : (c b n : ℕ) → n ≡ c + b → zeros c ++ zeros b ≡ zeros n
zeros_append zero b n e = let same : b ≡ n = omega arith in ap zeros same
zeros_append (suc c) b zero e = absurd (omega arith)
zeros_append (suc c) b (suc n) e = ap (λ w. 0 ∷ w) (zeros_append c b n (omega arith))

-- the blank lines that a gap begins with, and the lines after them
abbrev pub blanks_of : List GapLine → ℕ
blanks_of [] = 0
blanks_of (blank ∷ gs) = suc (blanks_of gs)
blanks_of (remark column text ∷ gs) = 0

abbrev pub after_blanks : List GapLine → List GapLine
after_blanks [] = []
after_blanks (blank ∷ gs) = after_blanks gs
after_blanks (remark column text ∷ gs) = remark column text ∷ gs

gap_split : (gap : List GapLine) (r : List ℕ) → gap_then gap r ≡ feeds (blanks_of gap) ++ gap_then (after_blanks gap) r
gap_split [] r = refl
gap_split (blank ∷ gs) r = ap (λ w. 10 ∷ w) (gap_split gs r)
gap_split (remark column text ∷ gs) r = refl

remarks_after : (gap : List GapLine) → remarks_of (after_blanks gap) ≡ remarks_of gap
remarks_after [] = refl
remarks_after (blank ∷ gs) = remarks_after gs
remarks_after (remark column text ∷ gs) = refl

are_after : (gap : List GapLine) → AreGapLines gap → AreGapLines (after_blanks gap)
are_after [] a = a
are_after (blank ∷ gs) a = are_after gs a
are_after (remark column text ∷ gs) a = a

left_after : (k : ℕ) (gap : List GapLine) → AllLeft k gap → AllLeft k (after_blanks gap)
left_after k [] a = a
left_after k (blank ∷ gs) a = left_after k gs a
left_after k (remark column text ∷ gs) a = a

-- a content character is not a space, a break or the end
ns_parts : (c : ℕ) → is_ns_char c ≡ true → (c ≢ 32) × (c ≢ 10) × (c ≢ 13) × (c ≢ no_char) × (is_white c ≡ false)
unfolding is_ns_char is_nb_char is_printable is_between is_break_char is_white
ns_parts c e = (
  (λ q. true≢false (sym e ∙ ap is_ns_char q)),
  (λ q. true≢false (sym e ∙ ap is_ns_char q)),
  (λ q. true≢false (sym e ∙ ap is_ns_char q)),
  (λ q. true≢false (sym e ∙ ap is_ns_char q)),
  not-true (is_white c) (and_parts (is_nb_char c) (not (is_white c)) e).1,
)

-- a line with fewer than k spaces before a content character is not part of the scalar
pub record Shallow (t : List ℕ) (k p m : ℕ) : Type 0 where
  pub few : m < k
  pub spaces : Spaces t p m
  pub char : is_ns_char (code t (p + m)) ≡ true

stuck_shallow : {t : List ℕ} {k p m : ℕ} → Shallow t k p m → Stuck (Line t k p)
stuck_shallow {t} {k} {p} {m} a = record { none = λ j x l. line l } where
  no_space : code t (p + m) ≢ 32
  no_space = (ns_parts (code t (p + m)) a.char).0

  content_there : {j : ℕ} {x : List ℕ} {o : Bool} → LineContent t k p j x o → ⊥
  content_there (content s w l e n) = no_space (s.each m a.few)

  line : {j : ℕ} {x : List (List ℕ)} → Line t k p j x → ⊥
  line (empty_line {m = w} b l) =
      ⊎_elim (λ (h : w < m).
      let space : code t (p + w) ≡ 32 = a.spaces.each w h in
      ⊎_elim (λ (q : code t (p + w) ≡ 13). omega arith) (λ (q : code t (p + w) ≡ 10). omega arith) (break_char b.ends))
      (λ (h : m ≤ w). ⊎_elim (λ (g : m < w). no_space (b.spaces.each m g))
      (λ (g : w ≤ m).
      let same : p + w ≡ p + m = omega arith in
      let parts = ns_parts (code t (p + m)) a.char in
      ⊎_elim (λ (q : code t (p + w) ≡ 13). parts.2 (ap (code t) (sym same) ∙ q)) (λ (q : code t (p + w) ≡ 10). parts.1 (ap (code t) (sym same) ∙ q)) (break_char b.ends))
      (cases_lt m w)) (cases_lt w m)
  line (content_line c) = content_there c

-- the line below
below_line : {t : List ℕ} {k p : ℕ} {r : List ℕ} → IsUtf8 t → Below k r → Rest t p r → (p ≡ length t) ⊎ ((m : ℕ) × Shallow t k p m × (code t (p + m) ≢ 35))
below_line u nothing_below s = inl (rest_end s)
below_line {t} {p = p} u (line_below m c r l e n) s =
    let spaces = rest_spaces m p u s in
    let got = rest_char c u ((ns_parts c e).2) spaces.1 in
    inr (m, record { few = l; spaces = spaces.0; char = ap is_ns_char got.0.char ∙ e }, (λ q. n (sym got.0.char ∙ q)))

row_stuck_below : {t : List ℕ} {k p : ℕ} {r : List ℕ} → IsUtf8 t → Below k r → Rest t p r → Stuck (Row t p)
row_stuck_below {t} {k} {p} u b s =
    ⊎_elim (λ (e : p ≡ length t). row_stuck_end e)
    (λ (a : (m : ℕ) × Shallow t k p m × (code t (p + m) ≢ 35)).
    let parts = ns_parts (code t (p + a.0)) a.1.char in
    row_stuck (stuck_at_solid (spaces_whites a.0 p a.1.spaces).1 parts.4 a.2 (record { none = λ j d. no_end (parts.2) (parts.1) (parts.3) d })))
    (below_line u b s)
  where
    no_end : {h j : ℕ} → code t h ≢ 13 → code t h ≢ 10 → code t h ≢ no_char → BreakOrEnd t h j → ⊥
    no_end c l n (by_break b) = ⊎_elim c l (break_char b)
    no_end {h} c l n (by_end e) = n (ap (code t) e ∙ code-end t)

-- the comments after the lines, and the offset of the line below
record Trailed (t : List ℕ) (k p : ℕ) (gap : List GapLine) (r : List ℕ) : Type 0 where
  pub place : ℕ
  pub notes : List CommentValue
  pub trail : Trail t k p place notes
  pub most : Stuck (Line t k p)
  pub rest : Rest t place r
  pub is : texts notes ≡ remarks_of gap

no_trail_below : {t : List ℕ} {k p m : ℕ} → Shallow t k p m → code t (p + m) ≢ 35 → Trail t k p p []
no_trail_below {t} {k} {p} {m} a n = no_comment (λ w l s e.
    ⊎_elim (λ (h : w < m). let space = a.spaces.each w h in omega arith)
    (λ (h : m ≤ w). ⊎_elim (λ (g : m < w). (ns_parts (code t (p + m)) a.char).0 (s.each m g))
    (λ (g : w ≤ m). let same : p + w ≡ p + m = omega arith in n (ap (code t) (sym same) ∙ e)) (cases_lt m w)) (cases_lt w m))

trailed : {t : List ℕ} (k : ℕ) (gap : List GapLine) {r : List ℕ} {p : ℕ} → IsUtf8 t → AreGapLines gap → AllLeft k gap → Below k r → LineStart t p
    → Rest t p (gap_then (after_blanks gap) r) → Trailed t k p gap r
trailed {t} k [] {r} {p} u a l b start s =
    ⊎_elim (λ (e : p ≡ length t).
    record {
      place = p;
      notes = [];
      trail = subst (λ w. Trail t k w w []) (sym e) (trail_past t k);
      most = subst (λ w. Stuck (Line t k w)) (sym e) (stuck_past t k);
      rest = s;
      is = refl;
    })
    (λ (q : (m : ℕ) × Shallow t k p m × (code t (p + m) ≢ 35)).
    record { place = p; notes = []; trail = no_trail_below q.1 q.2; most = stuck_shallow q.1; rest = s; is = refl })
    (below_line u b s)
trailed k (blank ∷ gs) u a l b start s = let t' = trailed k gs u a l b start s in record { place = t'.place; notes = t'.notes; trail = t'.trail; most = t'.most; rest = t'.rest; is = t'.is }
trailed {t} k (remark column text ∷ gs) {r} {p} u a l b start s =
    let spaces = rest_spaces column p u s in
    let at = remark_at (10 ∷ gap_then gs r) u a.0 spaces.1 in
    let made = gap_at (remark column text ∷ gs) r u a start s in
    let hash : code t (p + column) ≡ 35 = hash_of at.comment in
    let shallow : Shallow t k p column = record { few = l.0; spaces = spaces.0; char = ap is_ns_char hash ∙ hash_ns } in
    record {
      place = made.place;
      notes = made.comments;
      trail = comments column l.0 spaces.0 hash (line_end_chosen (from_start start made.lines) (row_stuck_below u b made.rest));
      most = stuck_shallow shallow;
      rest = made.rest;
      is = made.is;
    }
  where
    hash_of : {i j : ℕ} {x : List CommentValue} → CommentText t i j x → code t i ≡ 35
    hash_of (comment_text e m n) = e

-- the lines of the scalar, the blank lines after them, and the text after these
pub record ScalarLinesTo (t : List ℕ) (k q : ℕ) (ls : List (List ℕ)) (count : ℕ) (gap : List GapLine) (r : List ℕ) : Type 0 where
  pub place : ℕ
  pub end : ℕ
  pub notes : List CommentValue
  pub taken : LinesTaken t k q ls false (count + blanks_of gap) end
  pub trail : Trail t k end place notes
  pub rest : Rest t place r
  pub is : texts notes ≡ remarks_of gap

pub reached : {t : List ℕ} {k : ℕ} {r : List ℕ} (x : List ℕ) (ls : List (List ℕ)) (count : ℕ) (gap : List GapLine) (q : ℕ) → IsUtf8 t → 0 < k → AreLineTexts (x ∷ ls)
    → EndsWithContent (x ∷ ls) → AreGapLines gap → AllLeft k gap → Below k r → Rest t q (lines_then k (x ∷ ls) (feeds count ++ gap_then gap r))
    → ScalarLinesTo t k q (x ∷ ls) count gap r
reached {t} {k} {r} x ls count gap q u wide lines last a left below s =
    let post : List ℕ = feeds count ++ gap_then gap r in
    let shaped : Rest t q (indented k x ++ (literal_after (map (indented k) ls) ++ (10 ∷ (feeds count ++ gap_then gap r)))) =
    subst (λ w. Rest t q w) (lines_shape k x ls (feeds count ++ gap_then gap r)) s in
    let made : Lasts t k q (x ∷ ls) false (feeds count ++ gap_then gap r) = lines_made ls x q u wide lines last break_after shaped in
    let first : Blanks t made.place count (gap_then gap r) = blanks_made count made.place u (content_next made.line) made.rest in
    let second : Blanks t first.place (blanks_of gap) (gap_then (after_blanks gap) r) =
    blanks_made (blanks_of gap) first.place u first.start (subst (λ w. Rest t first.place w) (gap_split gap r) first.rest) in
    let trail = trailed k gap u a left below second.start second.rest in
    let total : zeros count ++ zeros (blanks_of gap) ≡ zeros (count + blanks_of gap) = zeros_append count (blanks_of gap) (count + blanks_of gap) refl in
    let bare_lines : Chain (EmptyLines t) made.place second.place (zeros (count + blanks_of gap)) =
    subst (λ w. Chain (EmptyLines t) made.place second.place w) total (chain_append first.chain second.chain) in
    record {
      place = trail.place;
      end = second.place;
      notes = trail.notes;
      taken = record {
        end = made.place;
        lines = subst (λ w. Lines t k q made.place w false) (sym made.parts) (up_to made.chain made.line);
        tail = record {
          widths = zeros (count + blanks_of gap);
          lines = bare_lines;
          within = omega (arith, largest-zeros (count + blanks_of gap));
          counts = length-replicate (count + blanks_of gap) 0;
        };
        most = trail.most;
      };
      trail = trail.trail;
      rest = trail.rest;
      is = trail.is;
    }
