-- A block scalar is unique: one end and one meaning.
use Rattle.std.proofs.Common.{◌≡◌, ℕ, ℤ, zero, suc, ◌+◌, ◌-◌, ◌<◌, ◌≤◌, Bool, true, false, true≢false, List, [], ◌∷◌, ◌++◌, length, drop, slice_range, replicate, Some, None, refl, sym, ap, ◌∙◌, subst, arith, ⊎_elim, length-append, length-take, length-drop}
use Rattle.std.proofs.lemmas.Bool.{cases_lt}
use Rattle.std.proofs.lemmas.List.{length-replicate}
use Rattle.yf_chars.specs.Text.{code, no_char}
use Rattle.yf_chars.specs.Class.{is_nb_char}
use Rattle.yf_chars.specs.Chain.{Chain, Many, One, Chosen, Functional}
use Rattle.yf_chars.specs.Chain.Chain.{done, step}
use Rattle.yf_chars.specs.Chain.One.{one}
use Rattle.yf_chars.proofs.TextLemmas.{code-end, within_from_code}
use Rattle.yf_chars.proofs.ChainLemmas.{Meets, chain_append, chain_one, chain_meet, stuck_unique}
use Rattle.yf_chars.proofs.ChainLemmas.Meets.{goes_on, falls_short}
use Rattle.yf_lines.specs.Basic.{Break}
use Rattle.yf_lines.proofs.BasicLemmas.{break_char, break_forward, break_unique}
use Rattle.yf_comments.specs.Comment.{CommentValue}
use Rattle.yf_comments.specs.Comments.{LineEnd}
use Rattle.yf_block_scalar.specs.declared.header.Header.{Header}
use Rattle.yf_block_scalar.specs.Body.{SpaceLine, EmptyLines, largest, Ends, LineContent, Line, Lines, LinesTaken, IndentedLine, DetectedIndent, Shallow, Trail, Body, BodyValue, base, least, is_gap_tail, first_noted}
use Rattle.yf_block_scalar.specs.Body.EmptyLines.{bare}
use Rattle.yf_block_scalar.specs.Body.Ends.{by_break, by_text}
use Rattle.yf_block_scalar.specs.Body.LineContent.{content}
use Rattle.yf_block_scalar.specs.Body.Line.{empty_line, content_line}
use Rattle.yf_block_scalar.specs.Body.Lines.{no_content, up_to}
use Rattle.yf_block_scalar.specs.Body.Trail.{comments, no_comment}
use Rattle.yf_block_scalar.specs.Body.Body.{indicated, detected, without_content}
use Rattle.yf_block_scalar.proofs.BodyLemmas.{spaces_unique, break_no_space, break_no_nb, ends_no_nb, text_end, bare_functional, indented_stuck, shallow_stuck, indented_unique, not_both}

-- lines
ends_unique : {t : List ℕ} {h j k : ℕ} {o p : Bool} → Ends t h j o → Ends t h k p → (j ≡ k) × (o ≡ p)
ends_unique (by_break a) (by_break b) = (break_unique a b, refl)
ends_unique {t} {h} (by_break a) (by_text e) = let z : code t h ≡ no_char = ap (code t) e ∙ code-end t in ⊎_elim (λ (q : code t h ≡ 13). absurd (omega arith)) (λ (q : code t h ≡ 10). absurd (omega arith)) (break_char a)
ends_unique {t} {h} (by_text e) (by_break a) = let z : code t h ≡ no_char = ap (code t) e ∙ code-end t in ⊎_elim (λ (q : code t h ≡ 13). absurd (omega arith)) (λ (q : code t h ≡ 10). absurd (omega arith)) (break_char a)
ends_unique (by_text e) (by_text f) = (refl, refl)

pub ends_forward : {t : List ℕ} {h j : ℕ} {o : Bool} → Ends t h j o → h ≤ j
ends_forward (by_break b) = omega (arith, break_forward b)
ends_forward (by_text e) = omega arith

move_ends : {t : List ℕ} {h g j : ℕ} {o : Bool} → h ≡ g → Ends t h j o → Ends t g j o
move_ends {t} {j = j} {o = o} e q = subst (λ w. Ends t w j o) e q

content_unique : {t : List ℕ} {k i j l : ℕ} {x y : List ℕ} {o p : Bool} → LineContent t k i j x o → LineContent t k i l y p → (j ≡ l) × (x ≡ y) × (o ≡ p)
content_unique {t} {k} {i} (content a m b q c) (content d n e r f) =
    let same = text_end m q n (ends_no_nb r) in
    let u = ends_unique (move_ends same q) r in
    (u.0, ap (λ w. slice_range t (i + k) w) same, u.1)

content_forward : {t : List ℕ} {k i j : ℕ} {x : List ℕ} {o : Bool} → LineContent t k i j x o → i < j
content_forward (content a m b q c) = let f = ends_forward q in omega arith

one_nb : {t : List ℕ} {i j : ℕ} {x : List ℕ} → One t is_nb_char i j x → is_nb_char (code t i) ≡ true
one_nb (one e) = e

pub many_nb : {t : List ℕ} {i j : ℕ} {x : List ℕ} → Many t is_nb_char i j x → i < j → is_nb_char (code t i) ≡ true
many_nb done l = absurd (omega arith)
many_nb (step s c) l = one_nb s

pub not_empty_too : {t : List ℕ} {k i m j l : ℕ} {x : List ℕ} {o : Bool} → SpaceLine t i m j → m ≤ k → LineContent t k i l x o → ⊥
not_empty_too {t} {k} {i} {m} s l (content a n b q c) =
    ⊎_elim (λ (h : m < k). break_no_space s.ends (a.each m h))
    (λ (h : k ≤ m).
    let same : m ≡ k = omega arith in
    true≢false (sym (many_nb n b) ∙ ap (λ w. is_nb_char (code t (i + w))) (sym same) ∙ break_no_nb s.ends))
    (cases_lt m k)

pub space_line_unique : {t : List ℕ} {i m d j k : ℕ} → SpaceLine t i m j → SpaceLine t i d k → j ≡ k
space_line_unique {t} {i} {k = k} a b =
    let same = spaces_unique a.spaces (break_no_space a.ends) b.spaces (break_no_space b.ends) in
    break_unique a.ends (subst (λ w. Break t (i + w) k) (sym same) b.ends)

module _ (t : List ℕ) (k : ℕ) where
  line_unique : {i j l : ℕ} {x y : List (List ℕ)} → Line t k i j x → Line t k i l y → (j ≡ l) × (x ≡ y)
  line_unique (empty_line a m) (empty_line b n) = (space_line_unique a b, refl)
  line_unique (empty_line a m) (content_line b) = absurd (not_empty_too a m b)
  line_unique (content_line a) (empty_line b n) = absurd (not_empty_too b n a)
  line_unique (content_line a) (content_line b) = let u = content_unique a b in (u.0, ap (λ w. w ∷ []) u.1)

  line_forward : {i j : ℕ} {x : List (List ℕ)} → Line t k i j x → i < j
  line_forward (empty_line a m) = omega (arith, break_forward a.ends)
  line_forward (content_line a) = content_forward a

  pub line_functional : Functional (Line t k)
  line_functional = record { one_end = λ a b. (line_unique a b).0; one_meaning = λ a b. (line_unique a b).1; forward = λ a. line_forward a }

line_meaning : {t : List ℕ} {k i j : ℕ} {x : List (List ℕ)} → Line t k i j x → (y : List ℕ) × (x ≡ y ∷ [])
line_meaning (empty_line a m) = ([], refl)
line_meaning (content_line {x = x} a) = (x, refl)

-- a chain of lines that means [] is empty
no_lines : {t : List ℕ} {k i j : ℕ} {x : List (List ℕ)} → Chain (Line t k) i j x → x ≡ [] → i ≡ j
no_lines done e = refl
no_lines (step {x = x} {y = y} s c) e =
    let m = line_meaning s in
    let long : length (x ++ y) ≡ 0 = ap length e in
    let first : length x ≡ 1 = ap length m.1 in
    absurd (omega (arith, length-append x y))

empties_step : {t : List ℕ} {k i h j : ℕ} {x : List ℕ} (y : List ℕ) → EmptyLines t i h x → Chain (Line t k) h j (replicate (length y) []) → largest (x ++ y) ≤ k
    → Chain (Line t k) i j (replicate (length (x ++ y)) [])
empties_step y (bare m a) c l = step (empty_line a (omega arith)) c

largest_rest : (x y : List ℕ) (k : ℕ) → largest (x ++ y) ≤ k → largest y ≤ k
largest_rest [] y k l = l
largest_rest (m ∷ x) y k l = largest_rest x y k (omega arith)

pub empties : {t : List ℕ} {k i j : ℕ} {ms : List ℕ} → Chain (EmptyLines t) i j ms → largest ms ≤ k → Chain (Line t k) i j (replicate (length ms) [])
empties done l = done
empties {k = k} (step {x = x} {y = y} s c) l = empties_step y s (empties c (largest_rest x y k l)) l

-- a text without the empty lines at its end
abbrev kept : List ℕ → List (List ℕ) → List (List ℕ)
kept [] [] = []
kept (c ∷ x) [] = (c ∷ x) ∷ []
kept x (y ∷ ys) = x ∷ y ∷ ys

abbrev trimmed : List (List ℕ) → List (List ℕ)
trimmed [] = []
trimmed (x ∷ xs) = kept x (trimmed xs)

trimmed-replicate : (c : ℕ) → trimmed (replicate c []) ≡ []
trimmed-replicate zero = refl
trimmed-replicate (suc c) = ap (kept []) (trimmed-replicate c)

trimmed-append : (ls : List (List ℕ)) (c : ℕ) → trimmed (ls ++ replicate c []) ≡ trimmed ls
trimmed-append [] c = trimmed-replicate c
trimmed-append (x ∷ ls) c = ap (kept x) (trimmed-append ls c)

kept_full : (y : List ℕ) (ls : List (List ℕ)) (c : ℕ) (x : List ℕ) → kept y (ls ++ (c ∷ x) ∷ []) ≡ y ∷ (ls ++ (c ∷ x) ∷ [])
kept_full [] [] c x = refl
kept_full (d ∷ y) [] c x = refl
kept_full [] (l ∷ ls) c x = refl
kept_full (d ∷ y) (l ∷ ls) c x = refl

trimmed-full : (ls : List (List ℕ)) (c : ℕ) (x : List ℕ) → trimmed (ls ++ (c ∷ x) ∷ []) ≡ ls ++ (c ∷ x) ∷ []
trimmed-full [] c x = refl
trimmed-full (y ∷ ls) c x = ap (kept y) (trimmed-full ls c x) ∙ kept_full y ls c x

-- a content line is not empty
ends_within : {t : List ℕ} {h j : ℕ} {o : Bool} → Ends t h j o → h ≤ length t
ends_within {t} {h} (by_break b) =
    let inside : h < length t = within_from_code t h (⊎_elim (λ (e : code t h ≡ 13). omega arith) (λ (e : code t h ≡ 10). omega arith) (break_char b)) in
    omega arith
ends_within (by_text e) = omega arith

pub some_first : (x : List ℕ) → 0 < length x → (c : ℕ) × (y : List ℕ) × (x ≡ c ∷ y)
some_first [] l = absurd (omega arith)
some_first (c ∷ y) l = (c, y, refl)

pub content_text : {t : List ℕ} {k i j : ℕ} {x : List ℕ} {o : Bool} → LineContent t k i j x o → 0 < length x
content_text {t} {k} {i} (content {h = h} a m b q c) =
    let w = ends_within q in
    omega (arith, length-take (h - (i + k)) (drop (i + k) t), length-drop (i + k) t)

lines_trimmed : {t : List ℕ} {k i j : ℕ} {ls : List (List ℕ)} {o : Bool} → Lines t k i j ls o → trimmed ls ≡ ls
lines_trimmed no_content = refl
lines_trimmed (up_to {ls = ls} {x = x} c d) =
    let f = some_first x (content_text d) in
    ap (λ w. trimmed (ls ++ w ∷ [])) f.2 ∙ trimmed-full ls f.0 f.1 ∙ ap (λ w. ls ++ w ∷ []) (sym f.2)

pub lines_chain : {t : List ℕ} {k i j : ℕ} {ls : List (List ℕ)} {o : Bool} → Lines t k i j ls o → Chain (Line t k) i j ls
lines_chain no_content = done
lines_chain (up_to c d) = chain_append c (chain_one (content_line d))

-- all lines of a scalar, its tail as empty ones
taken_chain : {t : List ℕ} {k i p count : ℕ} {ls : List (List ℕ)} {o : Bool} → LinesTaken t k i ls o count p → Chain (Line t k) i p (ls ++ replicate count [])
taken_chain {t} {k} {i} {p} {count} {ls} d =
    chain_append (lines_chain d.lines)
    (subst (λ w. Chain (Line t k) d.end p (replicate w [])) d.tail.counts (empties d.tail.lines d.tail.within))

-- whether the last content line is open
snoc_parts : (xs ys : List (List ℕ)) (x y : List ℕ) → xs ++ x ∷ [] ≡ ys ++ y ∷ [] → xs ≡ ys
snoc_parts [] [] x y e = refl
snoc_parts [] (b ∷ ys) x y e = let long : length (x ∷ []) ≡ length (b ∷ (ys ++ y ∷ [])) = ap length e in absurd (omega (arith, length-append ys (y ∷ [])))
snoc_parts (a ∷ xs) [] x y e = let long : length (a ∷ (xs ++ x ∷ [])) ≡ length (y ∷ []) = ap length e in absurd (omega (arith, length-append xs (x ∷ [])))
snoc_parts (a ∷ xs) (b ∷ ys) x y e =
    let rest : xs ++ x ∷ [] ≡ ys ++ y ∷ [] = cc in
    let first : a ≡ b = cc in
    let same : xs ≡ ys = snoc_parts xs ys x y rest in
    cc

nothing_more : (xs zs : List (List ℕ)) → xs ≡ xs ++ zs → zs ≡ []
nothing_more xs [] e = refl
nothing_more xs (z ∷ zs) e = let long : length xs ≡ length (xs ++ z ∷ zs) = ap length e in absurd (omega (arith, length-append xs (z ∷ zs)))

meet_same : {t : List ℕ} {k h g : ℕ} {xs ys : List (List ℕ)} → xs ≡ ys → Meets (Line t k) h g xs ys → h ≡ g
meet_same {xs = xs} e (goes_on z c q) = no_lines c (nothing_more xs z (e ∙ q))
meet_same {ys = ys} e (falls_short z c q) = sym (no_lines c (nothing_more ys z (sym e ∙ q)))

move_content : {t : List ℕ} {k h g j : ℕ} {x : List ℕ} {o : Bool} → h ≡ g → LineContent t k h j x o → LineContent t k g j x o
move_content {t} {k} {j = j} {x = x} {o = o} e d = subst (λ w. LineContent t k w j x o) e d

lines_open : {t : List ℕ} {k i j l : ℕ} {xs ys : List (List ℕ)} {o p : Bool} → Lines t k i j xs o → Lines t k i l ys p → xs ≡ ys → o ≡ p
lines_open no_content no_content e = refl
lines_open no_content (up_to {ls = ls} {x = x} c d) e = let long : 0 ≡ length (ls ++ x ∷ []) = ap length e in absurd (omega (arith, length-append ls (x ∷ [])))
lines_open (up_to {ls = ls} {x = x} c d) no_content e = let long : length (ls ++ x ∷ []) ≡ 0 = ap length e in absurd (omega (arith, length-append ls (x ∷ [])))
lines_open {t} {k} (up_to {ls = ls} {x = x} c d) (up_to {ls = ms} {x = y} f g) e =
    let same = meet_same (snoc_parts ls ms x y e) (chain_meet (line_functional t k) c f) in
    (content_unique (move_content same d) g).2

-- the lines and the tail
pub taken_unique : {t : List ℕ} {k i p q m n : ℕ} {ls ms : List (List ℕ)} {o u : Bool} → LinesTaken t k i ls o m p → LinesTaken t k i ms u n q
    → (p ≡ q) × (ls ≡ ms) × (o ≡ u) × (m ≡ n)
taken_unique {t} {k} {i} {p} {q} {m} {n} {ls} {ms} a b =
    let all = stuck_unique (line_functional t k) (taken_chain a) a.most (taken_chain b) b.most in
    let lines : ls ≡ ms = sym (lines_trimmed a.lines) ∙ sym (trimmed-append ls m) ∙ ap trimmed all.1 ∙ trimmed-append ms n ∙ lines_trimmed b.lines in
    let long : length (ls ++ replicate m []) ≡ length (ms ++ replicate n []) = ap length all.1 in
    let some : length ls ≡ length ms = ap length lines in
    let none : List ℕ = [] in
    let tails : m ≡ n = omega (arith, length-append ls (replicate m []), length-append ms (replicate n []), length-replicate m none, length-replicate n none) in
    (all.0, lines, lines_open a.lines b.lines lines, tails)

-- the comments after the tail
trail_unique : {t : List ℕ} {k i j l : ℕ} {x y : List CommentValue} → Trail t k i j x → Trail t k i l y → (j ≡ l) × (x ≡ y)
trail_unique {t} {k} {i} {j} {l} {x} {y} (comments m a b e c) (comments d f g h q) =
    let left = c.longest l y q.derived in
    let right = q.longest j x c.derived in
    let same : l ≡ j = omega arith in
    (sym same, sym (c.only y (subst (λ w. LineEnd t i w y) same q.derived)))
trail_unique (comments m a b e c) (no_comment n) = absurd (n m a b e)
trail_unique (no_comment n) (comments m a b e c) = absurd (n m a b e)
trail_unique (no_comment n) (no_comment d) = (refl, refl)

-- the scalar from its lines on
record Parts (t : List ℕ) (h : Header) (k i j : ℕ) (v : BodyValue) : Type 0 where
  place : ℕ
  notes : List CommentValue
  taken : LinesTaken t k i v.lines v.open_end v.tail place
  trail : Trail t k place j notes
  noted : v.comments ≡ first_noted (is_gap_tail h.chomp v.tail) notes

same_value : {v w : BodyValue} → v.lines ≡ w.lines → v.open_end ≡ w.open_end → v.tail ≡ w.tail → v.comments ≡ w.comments → v ≡ w
same_value {v} {w} a b c d =
    let lines_are : List (List ℕ) → BodyValue = λ z. record { lines = z; open_end = v.open_end; tail = v.tail; comments = v.comments } in
    let open_is : Bool → BodyValue = λ z. record { lines = w.lines; open_end = z; tail = v.tail; comments = v.comments } in
    let tail_is : ℕ → BodyValue = λ z. record { lines = w.lines; open_end = w.open_end; tail = z; comments = v.comments } in
    let comments_are : List CommentValue → BodyValue = λ z. record { lines = w.lines; open_end = w.open_end; tail = w.tail; comments = z } in
    ap lines_are a ∙ ap open_is b ∙ ap tail_is c ∙ ap comments_are d

parts_unique : {t : List ℕ} {h : Header} {k i j l : ℕ} {v w : BodyValue} → Parts t h k i j v → Parts t h k i l w → (j ≡ l) × (v ≡ w)
parts_unique {t} {h} {k} {i} {j} {l} {v} {w} a b =
    let u = taken_unique a.taken b.taken in
    let q : Trail t k a.place l b.notes = subst (λ z. Trail t k z l b.notes) (sym u.0) b.trail in
    let x = trail_unique a.trail q in
    let notes : v.comments ≡ w.comments = a.noted ∙ ap (λ z. first_noted (is_gap_tail h.chomp z) a.notes) u.3 ∙ ap (λ z. first_noted (is_gap_tail h.chomp w.tail) z) x.1 ∙ sym b.noted in
    (x.0, same_value u.1 u.2 u.3 notes)

move_parts : {t : List ℕ} {h : Header} {k m i j : ℕ} {v : BodyValue} → k ≡ m → Parts t h k i j v → Parts t h m i j v
move_parts {t} {h} {i = i} {j = j} {v = v} e p = subst (λ w. Parts t h w i j v) e p

-- a scalar, by its indentation
data View (t : List ℕ) (n : ℤ) (h : Header) (i j : ℕ) (v : BodyValue) : Type 0 where
  at_digit : (d : ℕ) → h.digit ≡ Some d → Parts t h (base n + d) i j v → View t n h i j v
  at_detected : (k : ℕ) → h.digit ≡ None → DetectedIndent t n i k → Parts t h k i j v → View t n h i j v
  at_nothing : (p : ℕ) (widths : List ℕ) (x : List CommentValue) → h.digit ≡ None → Chain (EmptyLines t) i p widths → Shallow t n p → Trail t (least n) p j x
      → v ≡ record { lines = []; open_end = false; tail = length widths; comments = first_noted (is_gap_tail h.chomp (length widths)) x } → View t n h i j v

view : {t : List ℕ} {n : ℤ} {h : Header} {i j : ℕ} {v : BodyValue} → Body t n h i j v → View t n h i j v
view (indicated {p = p} {d = d} {x = x} e a b) = at_digit d e (record { place = p; notes = x; taken = a; trail = b; noted = refl })
view (detected {p = p} {k = k} {x = x} e f a b) = at_detected k e f (record { place = p; notes = x; taken = a; trail = b; noted = refl })
view (without_content {p = p} {widths = ms} {x = x} e c s b) = at_nothing p ms x e c s b refl

detected_unique : {t : List ℕ} {n : ℤ} {i k m : ℕ} → DetectedIndent t n i k → DetectedIndent t n i m → k ≡ m
detected_unique {t} {n} {i} {k} {m} a b =
    let meet = stuck_unique (bare_functional t) a.before (indented_stuck a.first) b.before (indented_stuck b.first) in
    indented_unique a.first (subst (λ w. IndentedLine t n w m) (sym meet.0) b.first)

detected_or_nothing : {t : List ℕ} {n : ℤ} {i k p : ℕ} {ms : List ℕ} → DetectedIndent t n i k → Chain (EmptyLines t) i p ms → Shallow t n p → ⊥
detected_or_nothing {t} {n} {i} {k} {p} a c s =
    let meet = stuck_unique (bare_functional t) a.before (indented_stuck a.first) c (shallow_stuck s) in
    not_both a.first (subst (λ w. Shallow t n w) (sym meet.0) s)

view_unique : {t : List ℕ} {n : ℤ} {h : Header} {i j l : ℕ} {v w : BodyValue} → View t n h i j v → View t n h i l w → (j ≡ l) × (v ≡ w)
view_unique {n = n} (at_digit d e a) (at_digit m f b) = let same : d ≡ m = cc in parts_unique (move_parts (ap (λ w. base n + w) same) a) b
view_unique (at_digit d e a) (at_detected k f q b) = cc
view_unique (at_digit d e a) (at_nothing p ms x f c s b q) = cc
view_unique (at_detected k e q a) (at_digit m f b) = cc
view_unique (at_detected k e q a) (at_detected m f r b) = parts_unique (move_parts (detected_unique q r) a) b
view_unique (at_detected k e q a) (at_nothing p ms x f c s b r) = absurd (detected_or_nothing q c s)
view_unique (at_nothing p ms x e c s b r) (at_digit m f a) = cc
view_unique (at_nothing p ms x e c s b r) (at_detected k f q a) = absurd (detected_or_nothing q c s)
view_unique {t} {n} {h} {i} {j} {l} {v} {w} (at_nothing p ms x e c s b r) (at_nothing q ds y f d z g u) =
    let meet = stuck_unique (bare_functional t) c (shallow_stuck s) d (shallow_stuck z) in
    let g' : Trail t (least n) p l y = subst (λ z. Trail t (least n) z l y) (sym meet.0) g in
    let a = trail_unique b g' in
    let value_of : List ℕ → List CommentValue → BodyValue = λ ms x. record { lines = []; open_end = false; tail = length ms; comments = first_noted (is_gap_tail h.chomp (length ms)) x } in
    (a.0, r ∙ ap (λ z. value_of z x) meet.1 ∙ ap (value_of ds) a.1 ∙ sym u)

pub body_chosen : {t : List ℕ} {n : ℤ} {h : Header} {i j : ℕ} {v : BodyValue} → Body t n h i j v → Chosen (Body t n h i) j v
body_chosen b = record {
  derived = b;
  longest = λ k w d. let same = (view_unique (view b) (view d)).0 in omega arith;
  only = λ w d. sym (view_unique (view b) (view d)).1;
}
