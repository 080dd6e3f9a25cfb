-- Laws of the lines of a block scalar: their ends, their uniqueness, and how the reader builds a scalar line by line.
use Rattle.std.proofs.Common.{◌≡◌, ◌≢◌, ℕ, zero, suc, ◌+◌, ◌-◌, ◌<◌, ◌≤◌, ℤ, max, Bool, true, false, true≢false, List, [], ◌∷◌, ◌++◌, length, MatchBool, take, slice_range, refl, sym, ap, ◌∙◌, subst, arith, ⊎_elim, ◌⊎◌, append_assoc, append-nil, add-zero, length-append}
use Rattle.std.proofs.Math.Seq.{take-append_seam}
use Rattle.std.proofs.lemmas.Bool.{cases_lt}
use Rattle.std.specs.Str.{IsUtf8, IsCharBoundary}
use Rattle.yf_chars.specs.Text.{code, next, no_char}
use Rattle.yf_chars.specs.Class.{is_nb_char}
use Rattle.yf_chars.specs.Chain.{Chain, Many, Stuck, Functional, Nowhere}
use Rattle.yf_chars.specs.Chain.Chain.{done, step}
use Rattle.yf_chars.specs.ClassEnds.{no_nb_char}
use Rattle.yf_chars.proofs.TextLemmas.{reads_byte, code-end, next-mark, code_at_boundary}
use Rattle.yf_chars.proofs.ChainLemmas.{chain_more, many_unique, stuck_unique}
use Rattle.yf_lines.specs.Basic.{Spaces, Break, LineStart, is_marker}
use Rattle.yf_lines.specs.Basic.LineStart.{after_break}
use Rattle.yf_lines.proofs.BasicLemmas.{break_char, break_forward, break_unique, no_break_here}
use Rattle.yf_comments.proofs.RowLemmas.{end_code}
use Rattle.yf_block_scalar.specs.Body.{SpaceLine, EmptyLines, largest, Ends, LineContent, Line, Lines, Tail, LinesTaken, Other, IndentedLine, DetectedIndent, Shallow, MarkerLine}
use Rattle.yf_block_scalar.specs.Body.EmptyLines.{bare}
use Rattle.yf_block_scalar.specs.Body.Ends.{by_break, by_text}
use Rattle.yf_block_scalar.specs.Body.LineContent.{content}
use Rattle.yf_block_scalar.specs.Body.Line.{empty_line, content_line}
use Rattle.yf_block_scalar.specs.Body.Lines.{no_content, up_to}
use Rattle.yf_block_scalar.specs.Body.MarkerLine.{marker_here, past_mark}
use Rattle.yf_block_scalar.specs.Body.Shallow.{missing, left_of, forbidden}
use Rattle.yf_chars.proofs.CharFacts.{return_no_nb, feed_no_nb}
use Rattle.yf_lines.proofs.ClearLemmas.{marker_char}

-- spaces
pub spaces_fewer : {t : List ℕ} {i m : ℕ} (k : ℕ) → k ≤ m → Spaces t i m → Spaces t i k
spaces_fewer k l s = record { each = λ d h. s.each d (omega arith) }

pub spaces_bound : {t : List ℕ} {i k : ℕ} (m : ℕ) → Spaces t i k → code t (i + m) ≢ 32 → k ≤ m
spaces_bound {t} {i} {k} m s n =
    ⊎_elim (λ (l : m < k). absurd (n (s.each m l))) (λ (l : k ≤ m). l) (cases_lt m k)

pub spaces_unique : {t : List ℕ} {i m k : ℕ} → Spaces t i m → code t (i + m) ≢ 32 → Spaces t i k → code t (i + k) ≢ 32 → m ≡ k
spaces_unique {m = m} {k = k} a n b p = let low = spaces_bound m b n in let high = spaces_bound k a p in omega arith

pub spaces_boundary : (t : List ℕ) (i k : ℕ) → IsUtf8 t → IsCharBoundary t i → Spaces t i k → IsCharBoundary t (i + k)
spaces_boundary t i zero u b s = rw add-zero b
spaces_boundary t i (suc k) u b s =
    let same : i + k + 1 ≡ i + suc k = omega arith in
    subst (λ w. IsCharBoundary t w) same (reads_byte t (i + k) 32 u (s.each k (omega arith)) (omega arith)).boundary

-- a line of only spaces
pub break_no_space : {t : List ℕ} {i j : ℕ} → Break t i j → code t i ≢ 32
break_no_space b e = ⊎_elim (λ h. absurd (omega arith)) (λ h. absurd (omega arith)) (break_char b)

pub no_space_line : (t : List ℕ) (at e : ℕ) → at ≤ e → Spaces t at (e - at) → code t e ≢ 32 → Nowhere (Break t e)
    → (m j : ℕ) → SpaceLine t at m j → ⊥
no_space_line t at e l s n none m j line =
    let same : at + (e - at) ≡ e = omega arith in
    let n' : code t (at + (e - at)) ≢ 32 = rw same n in
    let is : m ≡ e - at = spaces_unique line.spaces (break_no_space line.ends) s n' in
    let here : at + m ≡ e = omega arith in
    let b : Break t e j = subst (λ h. Break t h j) here line.ends in
    none.none j b

pub space_line_there : (t : List ℕ) (at e j : ℕ) → at ≤ e → Spaces t at (e - at) → Break t e j → SpaceLine t at (e - at) j
space_line_there t at e j l s b =
    let same : e ≡ at + (e - at) = omega arith in
    record { spaces = s; ends = subst (λ h. Break t h j) same b }

pub break_no_nb : {t : List ℕ} {h j : ℕ} → Break t h j → is_nb_char (code t h) ≡ false
break_no_nb b = ⊎_elim (λ h. ap is_nb_char h ∙ return_no_nb) (λ h. ap is_nb_char h ∙ feed_no_nb) (break_char b)

pub ends_no_nb : {t : List ℕ} {h j : ℕ} {o : Bool} → Ends t h j o → is_nb_char (code t h) ≡ false
ends_no_nb (by_break b) = break_no_nb b
ends_no_nb {t} (by_text e) = ap is_nb_char (ap (code t) e ∙ code-end t) ∙ no_nb_char

-- a content line
pub few_spaces : {t : List ℕ} {at k j : ℕ} {x : List ℕ} {o : Bool} (e : ℕ) → at ≤ e → code t e ≢ 32 → e - at < k → LineContent t k at j x o → ⊥
few_spaces {t} {at} {k} e l n few (content s m f q c) =
    let same : at + (e - at) ≡ e = omega arith in
    n (subst (λ h. code t h ≡ 32) same (s.each (e - at) few))

pub no_marker_line : {t : List ℕ} {at k j : ℕ} {x : List ℕ} {o : Bool} → is_marker t at ≡ true → LineContent t k at j x o → ⊥
no_marker_line m (content s n f q c) = true≢false (sym m ∙ c)

pub text_end : {t : List ℕ} {i h e j : ℕ} {x y : List ℕ} {o : Bool} → Many t is_nb_char i h x → Ends t h j o
    → Many t is_nb_char i e y → is_nb_char (code t e) ≡ false → h ≡ e
text_end {t} m q n f = (many_unique t is_nb_char m (ends_no_nb q) n f).0

pub no_text : {t : List ℕ} {at k j : ℕ} {x y : List ℕ} {o : Bool} (e : ℕ) → Many t is_nb_char (at + k) e y → is_nb_char (code t e) ≡ false
    → e ≡ at + k → LineContent t k at j x o → ⊥
no_text e n f z (content s m l q c) = let same = text_end m q n f in absurd (omega arith)

pub no_end : {t : List ℕ} {at k j : ℕ} {x y : List ℕ} {o : Bool} (e : ℕ) → Many t is_nb_char (at + k) e y → is_nb_char (code t e) ≡ false
    → e ≢ length t → Nowhere (Break t e) → LineContent t k at j x o → ⊥
no_end e n f z none (content s m l q c) = no_end_here e z none (text_end m q n f) q where
  no_end_here : {t : List ℕ} {h j : ℕ} {o : Bool} (e : ℕ) → e ≢ length t → Nowhere (Break t e) → h ≡ e → Ends t h j o → ⊥
  no_end_here {t} {j = j} e z none same (by_break b) = none.none j (subst (λ w. Break t w j) same b)
  no_end_here e z none same (by_text l) = z (sym same ∙ l)

-- the reader's state: the lines so far, first those up to the last content line, then only empty lines
pub record Reading (t : List ℕ) (k at p : ℕ) (ls : List (List ℕ)) (o : Bool) (count : ℕ) : Type 0 where
  pub end : ℕ
  pub front : List (List ℕ)
  pub back : List (List ℕ)
  pub chain : Chain (Line t k) at p ls
  pub parts : ls ≡ front ++ back
  pub lines : Lines t k at end front o
  pub tail : Tail t k end p count
  pub counts : length back ≡ count

largest-append : (ms : List ℕ) (m k : ℕ) → largest ms ≤ k → m ≤ k → largest (ms ++ m ∷ []) ≤ k
largest-append [] m k l q = omega arith
largest-append (d ∷ ms) m k l q = let rest : largest (ms ++ m ∷ []) ≤ k = largest-append ms m k (omega arith) q in omega arith

pub length-snoc : {X : Type 0} (xs : List X) (x : X) → length (xs ++ x ∷ []) ≡ length xs + 1
length-snoc xs x = omega (arith, length-append xs (x ∷ []))

pub tail_none : (t : List ℕ) (k i : ℕ) → Tail t k i i 0
tail_none t k i = record { widths = []; lines = done; within = omega arith; counts = refl }

pub reading_none : (t : List ℕ) (k at : ℕ) → Reading t k at at [] false 0
reading_none t k at = record {
  end = at;
  front = [];
  back = [];
  chain = done;
  parts = refl;
  lines = no_content;
  tail = tail_none t k at;
  counts = refl;
}

pub reading_empty : {t : List ℕ} {k at p j m count : ℕ} {ls : List (List ℕ)} {o : Bool} → Reading t k at p ls o count
    → SpaceLine t p m j → m ≤ k → Reading t k at j (ls ++ [] ∷ []) o (count + 1)
reading_empty {m = m} r line l = record {
  end = r.end;
  front = r.front;
  back = r.back ++ [] ∷ [];
  chain = chain_more r.chain (empty_line line l);
  parts = ap (λ w. w ++ [] ∷ []) r.parts ∙ append_assoc r.front r.back ([] ∷ []);
  lines = r.lines;
  tail = record {
    widths = r.tail.widths ++ m ∷ [];
    lines = chain_more r.tail.lines (bare m line);
    within = largest-append r.tail.widths m _ r.tail.within l;
    counts = length-snoc r.tail.widths m ∙ ap (λ w. w + 1) r.tail.counts;
  };
  counts = length-snoc r.back [] ∙ ap (λ w. w + 1) r.counts;
}

pub reading_content : {t : List ℕ} {k at p j count : ℕ} {ls : List (List ℕ)} {x : List ℕ} {o q : Bool} → Reading t k at p ls o count
    → LineContent t k p j x q → Reading t k at j (ls ++ x ∷ []) q 0
reading_content {t} {k} {j = j} {ls = ls} {x = x} r c = record {
  end = j;
  front = ls ++ x ∷ [];
  back = [];
  chain = chain_more r.chain (content_line c);
  parts = sym (append-nil (ls ++ x ∷ []));
  lines = up_to r.chain c;
  tail = tail_none t k j;
  counts = refl;
}

pub no_line : {t : List ℕ} {k p : ℕ} → ((m j : ℕ) → SpaceLine t p m j → m ≤ k → ⊥)
    → ((j : ℕ) (x : List ℕ) (o : Bool) → LineContent t k p j x o → ⊥) → Stuck (Line t k p)
no_line e c = record { none = λ j x l. no_line_here e c l } where
  no_line_here : {t : List ℕ} {k p j : ℕ} {x : List (List ℕ)} → ((m j : ℕ) → SpaceLine t p m j → m ≤ k → ⊥)
      → ((j : ℕ) (x : List ℕ) (o : Bool) → LineContent t k p j x o → ⊥) → Line t k p j x → ⊥
  no_line_here e c (empty_line {j = j} {m = m} s l) = e m j s l
  no_line_here e c (content_line {j = j} {x = x} {o = o} d) = c j x o d

pub reading_length : {t : List ℕ} {k at p count : ℕ} {ls : List (List ℕ)} {o : Bool} → (r : Reading t k at p ls o count)
    → length ls ≡ length r.front + count
reading_length r = ap length r.parts ∙ length-append r.front r.back ∙ ap (λ w. length r.front + w) r.counts

-- the lines without the empty ones at the end
pub reading_done : {t : List ℕ} {k at p count : ℕ} {ls : List (List ℕ)} {o : Bool} → Reading t k at p ls o count → Stuck (Line t k p)
    → LinesTaken t k at (take (length ls - count) ls) o count p
reading_done {t} {k} {at} {p} {count} {ls} {o} r stuck =
    let n : length ls - count ≡ length r.front = omega (arith, reading_length r) in
    let same : take (length ls - count) ls ≡ r.front = ap (λ w. take w ls) n ∙ ap (take (length r.front)) r.parts ∙ take-append_seam r.front r.back in
    subst (λ w. LinesTaken t k at w o count p) (sym same) (record { end = r.end; lines = r.lines; tail = r.tail; most = stuck })

-- a content line in the reader
pub content_there : {t : List ℕ} {at k m j : ℕ} {x : List ℕ} {o : Bool} (e : ℕ) → k ≤ m → Spaces t at m → Many t is_nb_char (at + k) e x
    → at + k ≤ e → e ≢ at + k → Ends t e j o → is_marker t at ≡ false → LineContent t k at j (slice_range t (at + k) e) o
content_there {k = k} e l s n le ne q c = content (spaces_fewer k l s) n (omega arith) q c

-- a chain of lines of only spaces is unique
module _ (t : List ℕ) where
  bare_widths : {i j k : ℕ} {m d : ℕ} → SpaceLine t i m j → SpaceLine t i d k → m ≡ d
  bare_widths a b = spaces_unique a.spaces (break_no_space a.ends) b.spaces (break_no_space b.ends)

  bare_ends : {i j k : ℕ} {m d : ℕ} → SpaceLine t i m j → SpaceLine t i d k → j ≡ k
  bare_ends {i} {j} {k} a b = break_unique a.ends (subst (λ w. Break t (i + w) k) (sym (bare_widths a b)) b.ends)

  bare_end : {i j k : ℕ} {x y : List ℕ} → EmptyLines t i j x → EmptyLines t i k y → j ≡ k
  bare_end (bare m a) (bare d b) = bare_ends a b

  bare_meaning : {i j k : ℕ} {x y : List ℕ} → EmptyLines t i j x → EmptyLines t i k y → x ≡ y
  bare_meaning (bare m a) (bare d b) = ap (λ w. w ∷ []) (bare_widths a b)

  bare_forward : {i j : ℕ} {x : List ℕ} → EmptyLines t i j x → i < j
  bare_forward (bare m a) = omega (arith, break_forward a.ends)

  pub bare_functional : Functional (EmptyLines t)
  bare_functional = record { one_end = λ a b. bare_end a b; one_meaning = λ a b. bare_meaning a b; forward = λ a. bare_forward a }

bare_line : {t : List ℕ} {i j : ℕ} {x : List ℕ} → EmptyLines t i j x → (m : ℕ) × SpaceLine t i m j
bare_line (bare m a) = (m, a)

-- the line after them
pub bare_stuck : (t : List ℕ) (i m : ℕ) → Spaces t i m → code t (i + m) ≢ 32 → Nowhere (Break t (i + m)) → Stuck (EmptyLines t i)
bare_stuck t i m s n none = record { none = λ j x b. bare_stuck_here j (bare_line b) } where
  bare_stuck_here : (j : ℕ) → (d : ℕ) × SpaceLine t i d j → ⊥
  bare_stuck_here j l =
      let same : l.0 ≡ m = spaces_unique l.1.spaces (break_no_space l.1.ends) s n in
      none.none j (subst (λ w. Break t (i + w) j) same l.1.ends)

pub indented_stuck : {t : List ℕ} {n : ℤ} {i k : ℕ} → IndentedLine t n i k → Stuck (EmptyLines t i)
indented_stuck {t} {n} {i} {k} d = bare_stuck t i k d.spaces d.other.no_space d.other.no_break

no_break_code : (t : List ℕ) (i c : ℕ) → code t i ≡ c → c ≢ 13 → c ≢ 10 → Nowhere (Break t i)
no_break_code t i c e a b = no_break_here t i (λ h. a (sym e ∙ h)) (λ h. b (sym e ∙ h))

-- no spaces and no break
stuck_at : (t : List ℕ) (i c : ℕ) → code t i ≡ c → c ≢ 32 → c ≢ 13 → c ≢ 10 → Stuck (EmptyLines t i)
stuck_at t i c e s a b =
    let here : i + 0 ≡ i = add-zero i in
    let q : code t (i + 0) ≡ c = ap (code t) here ∙ e in
    bare_stuck t i 0 (record { each = λ m l. absurd (omega arith) }) (λ h. s (sym q ∙ h)) (no_break_code t (i + 0) c q a b)

marker_stuck : {t : List ℕ} {i : ℕ} → MarkerLine t i → Stuck (EmptyLines t i)
marker_stuck {t} {i} (marker_here e) =
    ⊎_elim (λ (h : code t i ≡ 45). stuck_at t i 45 h (λ w. absurd (omega arith)) (λ w. absurd (omega arith)) (λ w. absurd (omega arith)))
    (λ (h : code t i ≡ 46). stuck_at t i 46 h (λ w. absurd (omega arith)) (λ w. absurd (omega arith)) (λ w. absurd (omega arith)))
    (marker_char t i e)
marker_stuck {t} {i} (past_mark e l) = stuck_at t i 0xFEFF e (λ w. absurd (omega arith)) (λ w. absurd (omega arith)) (λ w. absurd (omega arith))

pub shallow_stuck : {t : List ℕ} {n : ℤ} {i : ℕ} → Shallow t n i → Stuck (EmptyLines t i)
shallow_stuck {t} {n} {i} (missing m s e) =
    bare_stuck t i m s (λ h. let q = end_code t e in absurd (omega arith))
    (no_break_code t (i + m) no_char (end_code t e) (λ w. absurd (omega arith)) (λ w. absurd (omega arith)))
shallow_stuck {t} {n} {i} (left_of m s o l) = bare_stuck t i m s o.no_space o.no_break
shallow_stuck (forbidden l) = marker_stuck l

-- such a line is indented or not, but not both
pub not_both : {t : List ℕ} {n : ℤ} {i k : ℕ} → IndentedLine t n i k → Shallow t n i → ⊥
not_both {t} {n} {i} {k} d (missing m s e) =
    let q : code t (i + m) ≡ no_char = end_code t e in
    let same : k ≡ m = spaces_unique d.spaces d.other.no_space s (λ h. absurd (omega arith)) in
    d.other.inside (ap (λ w. code t (i + w)) same ∙ q)
not_both {t} {n} {i} {k} d (left_of m s o l) =
    let same : k ≡ m = spaces_unique d.spaces d.other.no_space s o.no_space in
    let deep = d.deep in absurd (omega arith)
not_both d (forbidden l) = d.clear l

pub indented_unique : {t : List ℕ} {n : ℤ} {i k m : ℕ} → IndentedLine t n i k → IndentedLine t n i m → k ≡ m
indented_unique a b = spaces_unique a.spaces a.other.no_space b.spaces b.other.no_space

pub largest-snoc : (ms : List ℕ) (m : ℕ) → largest (ms ++ m ∷ []) ≡ max (largest ms) m
largest-snoc [] m = omega arith
largest-snoc (d ∷ ms) m = let rest = largest-snoc ms m in omega arith

pub too_long_detected : {t : List ℕ} {n : ℤ} {i h k : ℕ} {ms : List ℕ} → Chain (EmptyLines t) i h ms → IndentedLine t n h k → k < largest ms
    → (m : ℕ) → DetectedIndent t n i m → ⊥
too_long_detected {t} {n} {i} {h} {k} {ms} c d l m e =
    let meet = stuck_unique (bare_functional t) c (indented_stuck d) e.before (indented_stuck e.first) in
    let f : IndentedLine t n h m = subst (λ w. IndentedLine t n w m) (sym meet.0) e.first in
    let same : k ≡ m = indented_unique d f in
    let longest : largest ms ≡ largest e.widths = ap largest meet.1 in
    let within = e.within in
    absurd (omega arith)

pub too_long_shallow : {t : List ℕ} {n : ℤ} {i h k : ℕ} {ms : List ℕ} → Chain (EmptyLines t) i h ms → IndentedLine t n h k
    → (p : ℕ) (ds : List ℕ) → Chain (EmptyLines t) i p ds → Shallow t n p → ⊥
too_long_shallow {t} {n} {i} {h} {k} {ms} c d p ds e q =
    let meet = stuck_unique (bare_functional t) c (indented_stuck d) e (shallow_stuck q) in
    not_both d (subst (λ w. Shallow t n w) (sym meet.0) q)

pub marker_past : (t : List ℕ) (i : ℕ) → code t i ≡ 0xFEFF → MarkerLine t (i + 3) → MarkerLine t i
marker_past t i e l = past_mark e (subst (λ w. MarkerLine t w) (sym (next-mark t i e)) l)

marker_view : {t : List ℕ} {i : ℕ} → code t i ≡ 0xFEFF → MarkerLine t i → MarkerLine t (next t i)
marker_view {t} {i} e (marker_here m) =
    ⊎_elim (λ (h : code t i ≡ 45). absurd (omega arith)) (λ (h : code t i ≡ 46). absurd (omega arith)) (marker_char t i m)
marker_view e (past_mark m l) = l

pub marker_rest : (t : List ℕ) (i : ℕ) → code t i ≡ 0xFEFF → MarkerLine t i → MarkerLine t (i + 3)
marker_rest t i e l = subst (λ w. MarkerLine t w) (next-mark t i e) (marker_view e l)

pub marker_only_here : {t : List ℕ} {i : ℕ} → code t i ≢ 0xFEFF → MarkerLine t i → is_marker t i ≡ true
marker_only_here n (marker_here m) = m
marker_only_here n (past_mark e l) = absurd (n e)

pub match_marker : {t : List ℕ} {i at : ℕ} (b : Bool) → b ≡ is_marker t i → code t i ≢ 0xFEFF → (MarkerLine t i → MarkerLine t at)
    → (MarkerLine t at → MarkerLine t i) → MatchBool b (MarkerLine t at) (MarkerLine t at → ⊥)
match_marker true e n back forth = back (marker_here (sym e))
match_marker false e n back forth = λ l. true≢false (sym (marker_only_here n (forth l)) ∙ sym e)

-- the line after the lines of only spaces
pub other_there : (t : List ℕ) (at first : ℕ) → IsUtf8 t → IsCharBoundary t first → first ≢ length t → at ≤ first → Spaces t at (first - at)
    → code t first ≢ 32 → ((m j : ℕ) → SpaceLine t at m j → ⊥) → Other t (at + (first - at))
other_there t at first u b n l s no_space no_line =
    let same : first ≡ at + (first - at) = omega arith in
    let within : first < length t = omega (arith, b.0) in
    let inside : code t first < no_char = code_at_boundary t first u b within in
    let none : (j : ℕ) → Break t first j → ⊥ = λ j q. no_line (first - at) j (space_line_there t at first j l s q) in
    subst (λ w. Other t w) same (record { inside = λ (e : code t first ≡ no_char). absurd (omega arith); no_space = no_space; no_break = record { none = none } })

-- the lines of a scalar end at the start of a line, or at the end of the text
ends_starts : {t : List ℕ} {h j : ℕ} {o : Bool} → Ends t h j o → j < length t → LineStart t j
ends_starts (by_break b) l = after_break b
ends_starts (by_text e) l = absurd (omega arith)

content_starts : {t : List ℕ} {k i j : ℕ} {x : List ℕ} {o : Bool} → LineContent t k i j x o → j < length t → LineStart t j
content_starts (content s m n q c) l = ends_starts q l

lines_starts : {t : List ℕ} {k i j : ℕ} {ls : List (List ℕ)} {o : Bool} → (i < length t → LineStart t i) → Lines t k i j ls o
    → j < length t → LineStart t j
lines_starts s no_content l = s l
lines_starts s (up_to c d) l = content_starts d l

bare_next : {t : List ℕ} {i j : ℕ} {x : List ℕ} → EmptyLines t i j x → LineStart t j
bare_next (bare m a) = after_break a.ends

pub bares_starts : {t : List ℕ} {i j : ℕ} {x : List ℕ} → (i < length t → LineStart t i) → Chain (EmptyLines t) i j x → j < length t → LineStart t j
bares_starts s done l = s l
bares_starts s (step b c) l = bares_starts (λ _. bare_next b) c l

pub taken_starts : {t : List ℕ} {k i p count : ℕ} {ls : List (List ℕ)} {o : Bool} → (i < length t → LineStart t i) → LinesTaken t k i ls o count p
    → p < length t → LineStart t p
taken_starts s d l = bares_starts (λ h. lines_starts s d.lines h) d.tail.lines l
