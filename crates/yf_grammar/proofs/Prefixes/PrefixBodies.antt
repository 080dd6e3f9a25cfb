-- A prefix derives the header of a block scalar and its lines as the text does.
use Rattle.std.proofs.Common.{◌≡◌, ◌≢◌, ℕ, ◌+◌, ◌-◌, ◌<◌, ◌≤◌, ℤ, ⊎_elim, Bool, false, Option, None, List, [], ◌++◌, get_or, length, replicate, refl, sym, ap, ◌∙◌, subst, arith}
use Rattle.std.proofs.lemmas.Bool.{cases_eq, cases_lt}
use Rattle.yf_chars.specs.Text.{code, next}
use Rattle.yf_chars.specs.Chain.{Chain, Stuck}
use Rattle.yf_chars.specs.Chain.Chain.{done, step}
use Rattle.yf_chars.specs.Class.{is_between}
use Rattle.yf_chars.proofs.ChainLemmas.{chain_append, chain_chosen, chain_forward}
use Rattle.yf_chars.proofs.TextLemmas.{next-mark, bytes_from_mark, byte_from_code, code-past}
use Rattle.yf_lines.specs.Basic.{Spaces}
use Rattle.yf_lines.proofs.BasicLemmas.{break_forward}
use Rattle.yf_lines.proofs.LineLemmas.{break_within}
use Rattle.yf_comments.specs.Comment.{CommentValue}
use Rattle.yf_comments.specs.Comments.{Row}
use Rattle.yf_comments.proofs.LineEndLemmas.{line_end_rows}
use Rattle.yf_comments.proofs.LineOrder.{line_end_forward, rest_forward}
use Rattle.yf_comments.proofs.RowLemmas.{row_functional}
use Rattle.yf_block_scalar.specs.declared.header.Header.{Header}
use Rattle.yf_block_scalar.specs.declared.header.Chomp.{Chomp}
use Rattle.yf_block_scalar.specs.Header.{Style, literal_sign, folded_sign, Digit, digit, Sign, strip_sign, keep_sign, Indicators, neither, digit_alone, sign_alone, digit_sign, sign_digit, HeaderValue, BlockHeader, block_header}
use Rattle.yf_block_scalar.specs.Body.{least, SpaceLine, EmptyLines, bare, largest, by_break, by_text, LineContent, content, Line, empty_line, content_line, Lines, no_content, up_to, Tail, LinesTaken, Other, MarkerLine, marker_here, past_mark, IndentedLine, DetectedIndent, Shallow, missing, left_of, forbidden, is_gap_tail, first_noted, Trail, comments, no_comment, BodyValue, Body, indicated, detected, without_content}
use Rattle.yf_block_scalar.proofs.UniqueLemmas.{line_functional, lines_chain, taken_unique, empties}
use Rattle.yf_block_scalar.proofs.ScalarOrder.{marks_forward}
use Rattle.yf_grammar.proofs.Prefixes.PrefixTexts.{Alike, alike_back, alike_next, alike_slice}
use Rattle.yf_grammar.proofs.Prefixes.PrefixLines.{Carried, chain_order, chain_there, passes_there, char_there, not_there, run_there, break_there, spaces_there, marker_there, no_marker_there}
use Rattle.yf_grammar.proofs.Prefixes.PrefixComments.{PrefixText, no_nb_run, rest_in_prefix, line_end_chosen_in_prefix}

-- parts that are in one of two alike texts
module _ {t s : List ℕ} {k : ℕ} (a : Alike t s k) where
  style_there : {i j : ℕ} {f : Bool} → Style t i j f → j ≤ k → Style s i j f
  style_there (literal_sign {i = i} e) l = literal_sign (char_there a i (omega arith) e)
  style_there (folded_sign {i = i} e) l = folded_sign (char_there a i (omega arith) e)

  digit_there : {i j d : ℕ} → Digit t i j d → j ≤ k → Digit s i j d
  digit_there (digit {i = i} e) l =
      let m : i < k = omega arith in
      rw (a.codes i m) (digit (passes_there a (is_between 49 57) i m e))

  sign_there : {i j : ℕ} {c : Chomp} → Sign t i j c → j ≤ k → Sign s i j c
  sign_there (strip_sign {i = i} e) l = strip_sign (char_there a i (omega arith) e)
  sign_there (keep_sign {i = i} e) l = keep_sign (char_there a i (omega arith) e)

  sign_order : {i j : ℕ} {c : Chomp} → Sign t i j c → i ≤ j
  sign_order (strip_sign e) = omega arith
  sign_order (keep_sign e) = omega arith

  digit_order : {i j d : ℕ} → Digit t i j d → i ≤ j
  digit_order (digit e) = omega arith

  indicators_there : {i j : ℕ} {d : Option ℕ} {c : Chomp} → Indicators t i j d c → j ≤ k → Indicators s i j d c
  indicators_there neither l = neither
  indicators_there (digit_alone d) l = digit_alone (digit_there d l)
  indicators_there (sign_alone d) l = sign_alone (sign_there d l)
  indicators_there (digit_sign d e) l = let g = sign_order e in digit_sign (digit_there d (omega arith)) (sign_there e l)
  indicators_there (sign_digit d e) l = let g = digit_order e in sign_digit (sign_there d (omega arith)) (digit_there e l)

  -- spaces from an offset of the prefix on end in it
  pub spaces_inside : {i m : ℕ} → Spaces t i m → i < k → i + m < k
  spaces_inside {i} {m} d l = ⊎_elim
      (λ (g : k - 1 - i < m).
      let same : i + (k - 1 - i) ≡ k - 1 = omega arith in
      let e : code t (k - 1) ≡ 32 = ap (code t) (sym same) ∙ d.each (k - 1 - i) g in
      ⊎_elim (λ (q : code t (k - 1) ≡ 10). absurd (omega arith)) (λ (q : code t (k - 1) ≡ 13). absurd (omega arith)) a.last)
      (λ (g : m ≤ k - 1 - i). omega arith)
      (cases_lt (k - 1 - i) m)

  pub space_line_there : {i m j : ℕ} → SpaceLine t i m j → j ≤ k → SpaceLine s i m j
  space_line_there d l = let f = break_forward d.ends in record { spaces = spaces_there a d.spaces (omega arith); ends = break_there a d.ends l }

  pub bare_carried : Carried k (EmptyLines t) (EmptyLines s)
  bare_carried = record { order = λ i j x d. order d; there = λ i j x d l. there d l } where
    order : {i j : ℕ} {x : List ℕ} → EmptyLines t i j x → i ≤ j
    order (bare m d) = let f = break_forward d.ends in omega arith

    there : {i j : ℕ} {x : List ℕ} → EmptyLines t i j x → j ≤ k → EmptyLines s i j x
    there (bare m d) l = bare m (space_line_there d l)

  content_order : {c i j : ℕ} {x : List ℕ} {o : Bool} → LineContent t c i j x o → i ≤ j
  content_order (content d m l (by_break b) n) = let f = break_forward b in omega arith
  content_order (content d m l (by_text e) n) = omega arith

  content_there : {c i j : ℕ} {x : List ℕ} {o : Bool} → LineContent t c i j x o → j ≤ k → LineContent s c i j x o
  content_there {c} (content {i = i} {h = h} d m l (by_break b) n) g =
      let f = break_forward b in
      rw (alike_slice a (i + c) h (omega arith))
      (content (spaces_there a d (omega arith)) (run_there a m (omega arith)) l (by_break (break_there a b g)) (no_marker_there a i (omega arith) n))
  content_there (content d m l (by_text e) n) g = let w = a.within in absurd (no_nb_run a m l (omega arith))

  line_carried : (c : ℕ) → Carried k (Line t c) (Line s c)
  line_carried c = record { order = λ i j x d. order d; there = λ i j x d l. there d l } where
    order : {i j : ℕ} {x : List (List ℕ)} → Line t c i j x → i ≤ j
    order (empty_line d g) = let f = break_forward d.ends in omega arith
    order (content_line d) = content_order d

    there : {i j : ℕ} {x : List (List ℕ)} → Line t c i j x → j ≤ k → Line s c i j x
    there (empty_line d g) l = empty_line (space_line_there d l) g
    there (content_line d) l = content_line (content_there d l)

  lines_order : {c i j : ℕ} {ls : List (List ℕ)} {o : Bool} → Lines t c i j ls o → i ≤ j
  lines_order no_content = omega arith
  lines_order {c} (up_to m d) = let f = chain_order (line_carried c) m in let g = content_order d in omega arith

  lines_there : {c i j : ℕ} {ls : List (List ℕ)} {o : Bool} → Lines t c i j ls o → j ≤ k → Lines s c i j ls o
  lines_there no_content l = no_content
  lines_there {c} (up_to m d) l = let g = content_order d in up_to (chain_there (line_carried c) m (omega arith)) (content_there d l)

  mark_inside : (i : ℕ) → i < k → code t i ≡ 0xFEFF → next t i < k
  mark_inside i l e =
      let b = bytes_from_mark t i a.utf8 e in
      let n = next-mark t i e in
      let low : code t (k - 1) < 128 = ⊎_elim (λ (q : code t (k - 1) ≡ 10). omega arith) (λ (q : code t (k - 1) ≡ 13). omega arith) a.last in
      let at = byte_from_code t (k - 1) a.utf8 low in
      apart b.1 b.2 b.3 n low at.1 where
        apart : get_or t i 0 ≡ 239 → get_or t (i + 1) 0 ≡ 187 → get_or t (i + 2) 0 ≡ 191 → next t i ≡ i + 3 → code t (k - 1) < 128
            → get_or t (k - 1) 0 ≡ code t (k - 1) → next t i < k
        apart b c d n low at = ⊎_elim
            (λ (q : i ≡ k - 1). absurd (let z = ap (λ w. get_or t w 0) q in omega arith))
            (λ (q : i ≢ k - 1).
            ⊎_elim
            (λ (r : i + 1 ≡ k - 1). absurd (let z = ap (λ w. get_or t w 0) r in omega arith))
            (λ (r : i + 1 ≢ k - 1).
            ⊎_elim
            (λ (v : i + 2 ≡ k - 1). absurd (let z = ap (λ w. get_or t w 0) v in omega arith))
            (λ (v : i + 2 ≢ k - 1). omega arith)
            (cases_eq (i + 2) (k - 1)))
            (cases_eq (i + 1) (k - 1)))
            (cases_eq i (k - 1))

  pub marker_line_there : {i : ℕ} → MarkerLine t i → i < k → MarkerLine s i
  marker_line_there (marker_here {i = i} e) l = marker_here (marker_there a i l e)
  marker_line_there (past_mark {i = i} e d) l =
      past_mark (char_there a i l e) (subst (λ j. MarkerLine s j) (alike_next a i l) (marker_line_there d (mark_inside i l e)))

-- parts that are not in the text are not in the prefix
module _ {t s : List ℕ} {k : ℕ} (f : PrefixText t s k) where
  other_in_prefix : {i : ℕ} → Other t i → i < k → Other s i
  other_in_prefix {i} d l = record {
    inside = not_there f.alike i l d.inside;
    no_space = not_there f.alike i l d.no_space;
    no_break = record { none = λ j b. let w = break_within b in let c = f.closed in d.no_break.none j (break_there (alike_back f.alike) b (omega arith)) };
  }

  indented_in_prefix : {n : ℤ} {i m : ℕ} → IndentedLine t n i m → i < k → IndentedLine s n i m
  indented_in_prefix d l =
      let g = spaces_inside f.alike d.spaces l in
      record {
        spaces = spaces_there f.alike d.spaces (omega arith);
        other = other_in_prefix d.other g;
        deep = d.deep;
        clear = λ q. d.clear (marker_line_there (alike_back f.alike) q l);
      }

  -- only the end is at the end
  nothing_at_end : (c m i : ℕ) → c < 0x110000 → k ≤ i → code s (i + m) ≡ c → ⊥
  nothing_at_end c m i l g e = let z = f.closed in let p = code-past s (i + m) (omega arith) in absurd (omega arith)

  shallow_in_prefix : {n : ℤ} {i : ℕ} → Shallow t n i → i ≤ k → Shallow s n i
  shallow_in_prefix {n} {i} d l = ⊎_elim (λ (g : i < k). go d g) (λ (g : k ≤ i). let c = f.closed in missing 0 (record { each = λ m h. absurd (omega arith) }) (omega arith)) (cases_lt i k) where
    go : Shallow t n i → i < k → Shallow s n i
    go (missing m d e) g = let w = f.alike.within in let h = spaces_inside f.alike d g in absurd (omega arith)
    go (left_of m d o h) g = let w = spaces_inside f.alike d g in left_of m (spaces_there f.alike d (omega arith)) (other_in_prefix o w) h
    go (forbidden d) g = forbidden (marker_line_there f.alike d g)

  line_within : {c i j : ℕ} {x : List (List ℕ)} → Line s c i j x → j ≤ length s
  line_within (empty_line d l) = break_within d.ends
  line_within (content_line (content d m l (by_break b) n)) = break_within b
  line_within (content_line (content d m l (by_text e) n)) = omega arith

  line_back : {c i j : ℕ} {x : List (List ℕ)} → Line s c i j x → Line t c i j x
  line_back {c} {i} {j} {x} d = let w = line_within d in let z = f.closed in (line_carried (alike_back f.alike) c).there i j x d (omega arith)

  tail_in_prefix : {c i j count : ℕ} → Tail t c i j count → j ≤ k → Tail s c i j count
  tail_in_prefix d l = record { widths = d.widths; lines = chain_there (bare_carried f.alike) d.lines l; within = d.within; counts = d.counts }

  taken_in_prefix : {c i j count : ℕ} {ls : List (List ℕ)} {o : Bool} → LinesTaken t c i ls o count j → j ≤ k → LinesTaken s c i ls o count j
  taken_in_prefix d l =
      let g = chain_order (bare_carried f.alike) d.tail.lines in
      record {
        end = d.end;
        lines = lines_there f.alike d.lines (omega arith);
        tail = tail_in_prefix d.tail l;
        most = record { none = λ h x q. d.most.none h x (line_back q) };
      }

  rows_still : {i j : ℕ} {x : List CommentValue} → Chain (Row t) i j x → j ≤ i → x ≡ []
  rows_still done l = refl
  rows_still (step r m) l = let g = chain_forward row_functional m in let h = r.later in absurd (omega arith)

  trail_order : {c i j : ℕ} {x : List CommentValue} → Trail t c i j x → i ≤ j
  trail_order (comments m l d e q) = line_end_forward q.derived
  trail_order (no_comment n) = omega arith

  -- no comment is after the end
  trail_at_end : {c i j : ℕ} {x : List CommentValue} → Trail t c i j x → k ≤ i → j ≤ k → (i ≡ j) × (x ≡ [])
  trail_at_end (comments m l d e q) g h = let w = line_end_forward q.derived in (omega arith, rows_still (line_end_rows q.derived) (omega arith))
  trail_at_end (no_comment n) g h = (refl, refl)

  no_trail : (c i : ℕ) → k ≤ i → Trail s c i i []
  no_trail c i g = no_comment (λ m h d e. nothing_at_end 35 m i (omega arith) g e)

  trail_in_prefix : {c i j : ℕ} {x : List CommentValue} → Trail t c i j x → j ≤ k → Trail s c i j x
  trail_in_prefix {c} {i} {j} {x} d l = ⊎_elim
      (λ (g : i < k). go d g l)
      (λ (g : k ≤ i). let w = trail_at_end d g l in subst (λ h. Trail s c i h x) w.0 (subst (λ y. Trail s c i i y) (sym w.1) (no_trail c i g)))
      (cases_lt i k) where
        go : {i j : ℕ} {x : List CommentValue} → Trail t c i j x → i < k → j ≤ k → Trail s c i j x
        go (comments {i = i} m l d e q) g h =
            let w = spaces_inside f.alike d g in
            comments m l (spaces_there f.alike d (omega arith)) (char_there f.alike (i + m) w e) (line_end_chosen_in_prefix f q h)
        go (no_comment {i = i} n) g h = no_comment (λ m l d e.
            ⊎_elim
            (λ (w : i + m < k). n m l (spaces_there (alike_back f.alike) d (omega arith)) (char_there (alike_back f.alike) (i + m) w e))
            (λ (w : k ≤ i + m). nothing_at_end 35 0 (i + m) (omega arith) w (ap (code s) (omega arith) ∙ e))
            (cases_lt (i + m) k))

all_taken : {t : List ℕ} {c i p count : ℕ} {ls : List (List ℕ)} {o : Bool} (d : LinesTaken t c i ls o count p) → Chain (Line t c) i p (ls ++ replicate (length d.tail.widths) [])
all_taken d = chain_append (lines_chain d.lines) (empties d.tail.lines d.tail.within)

-- if the line after the scalar gives the content's indentation, the scalar has no content
module _ {t : List ℕ} {n : ℤ} {i c p count : ℕ} {ls : List (List ℕ)} {o : Bool} (d : DetectedIndent t n i c) (a : LinesTaken t c i ls o count p) where
  detected_first : d.at ≤ p
  detected_first = (chain_chosen (line_functional t c) (all_taken a) a.most).longest d.at (replicate (length d.widths) []) (empties d.before d.within)

  bare_taken : p ≤ d.at → LinesTaken t c i [] false (length d.widths) d.at
  bare_taken l = let g = detected_first in let same : p ≡ d.at = omega arith in record {
    end = i;
    lines = no_content;
    tail = record { widths = d.widths; lines = d.before; within = d.within; counts = refl };
    most = subst (λ h. Stuck (Line t c h)) same a.most;
  }

module _ {t s : List ℕ} {k : ℕ} (f : PrefixText t s k) where
  -- if the first line of content is not in the prefix, the scalar has no content there
  without_in_prefix : {n : ℤ} {h : Header} {i p j c count : ℕ} {ls : List (List ℕ)} {o : Bool} {x : List CommentValue} → h.digit ≡ None → (d : DetectedIndent t n i c)
      → LinesTaken t c i ls o count p → Trail t c p j x → j ≤ k → k ≤ d.at
      → Body s n h i j (record { lines = ls; open_end = o; tail = count; comments = first_noted (is_gap_tail h.chomp count) x })
  without_in_prefix {n} {h} {i} {p} {j} {c} {count} {ls} {o} {x} e d a b l g =
      let first = detected_first d a in
      let w = trail_order f b in
      let one = taken_unique a (bare_taken d a (omega arith)) in
      let end = trail_at_end f b (omega arith) l in
      let place : d.at ≡ j = omega arith in
      let value : List (List ℕ) → Bool → ℕ → List CommentValue → BodyValue =
      λ ls o count x. record { lines = ls; open_end = o; tail = count; comments = first_noted (is_gap_tail h.chomp count) x } in
      let bare : Body s n h i d.at (value [] false (length d.widths) []) =
      without_content e (chain_there (bare_carried f.alike) d.before (omega arith)) (shallow_end (omega arith)) (no_trail f (least n) d.at (omega arith)) in
      let same : value ls o count x ≡ value [] false (length d.widths) [] =
      ap (λ z. value z o count x) one.1 ∙ ap (λ z. value [] z count x) one.2 ∙ ap (λ z. value [] false z x) one.3 ∙ ap (λ z. value [] false (length d.widths) z) end.1 in
      subst (λ m. Body s n h i m (value ls o count x)) place (subst (λ v. Body s n h i d.at v) (sym same) bare) where
        shallow_end : {i : ℕ} → i ≡ k → Shallow s n i
        shallow_end e = let z = f.closed in missing 0 (record { each = λ m h. absurd (omega arith) }) (omega arith)

  pub body_in_prefix : {n : ℤ} {h : Header} {i j : ℕ} {v : BodyValue} → Body t n h i j v → j ≤ k → Body s n h i j v
  body_in_prefix (indicated e a b) l = let w = trail_order f b in indicated e (taken_in_prefix f a (omega arith)) (trail_in_prefix f b l)
  body_in_prefix (detected {i = i} {k = c} e d a b) l =
      let w = trail_order f b in
      ⊎_elim
      (λ (g : d.at < k). detected e (record {
        at = d.at;
        widths = d.widths;
        before = chain_there (bare_carried f.alike) d.before (omega arith);
        within = d.within;
        first = indented_in_prefix f d.first g;
      }) (taken_in_prefix f a (omega arith)) (trail_in_prefix f b l))
      (λ (g : k ≤ d.at). without_in_prefix e d a b l g)
      (cases_lt d.at k)
  body_in_prefix (without_content e c d b) l =
      let w = trail_order f b in
      without_content e (chain_there (bare_carried f.alike) c (omega arith)) (shallow_in_prefix f d (omega arith)) (trail_in_prefix f b l)

  pub header_in_prefix : {i j : ℕ} {v : HeaderValue} → BlockHeader t i j v → j ≤ k → BlockHeader s i j v
  header_in_prefix (block_header d m r) l =
      let g = rest_forward r in let h = marks_forward m in
      block_header (style_there f.alike d (omega arith)) (indicators_there f.alike m (omega arith)) (rest_in_prefix f r l)
