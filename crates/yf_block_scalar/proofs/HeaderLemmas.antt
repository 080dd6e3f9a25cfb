-- The header of a block scalar is unique, because its indicators are unique before white space, a break or the end of
-- the text.
use Rattle.std.proofs.Common.{◌≡◌, ◌≢◌, ℕ, ◌+◌, ◌-◌, ◌<◌, ◌≤◌, Bool, true, false, List, length, Option, Some, None, refl, sym, ap, ◌∙◌, subst, arith, ⊎_elim, ◌⊎◌, inl, inr, get_or}
use Rattle.std.proofs.lemmas.Bool.{cases_eq, cases_Bool, eqb-true, and_parts, leb-true, le-leb}
use Rattle.std.specs.Str.{IsUtf8, IsCharBoundary}
use Rattle.yf_chars.specs.Text.{code, no_char}
use Rattle.yf_chars.specs.Class.{is_white, is_white_or_end, is_between}
use Rattle.yf_chars.specs.Chain.{Many, Stuck, Chosen, One}
use Rattle.yf_chars.specs.Chain.Chain.{done, step}
use Rattle.yf_chars.specs.Chain.One.{one}
use Rattle.yf_chars.proofs.TextLemmas.{code-end, code-past, code-inside, code_from_byte, byte_from_code, reads_ascii, bytes_from_mark}
use Rattle.yf_lines.specs.Basic.{LineStart, SeparateInLine}
use Rattle.yf_lines.specs.Basic.SeparateInLine.{by_whites, at_start}
use Rattle.yf_lines.proofs.BasicLemmas.{break_char, white_cases, no_break_end, no_start, ends_by_white, ends_by_code, ends_at_lf, ends_at_cr, ends_at_end, ends_not}
use Rattle.yf_comments.specs.Comment.{CommentValue}
use Rattle.yf_comments.specs.Comments.{BreakOrEnd, LineRest}
use Rattle.yf_comments.specs.Comments.BreakOrEnd.{by_break, by_end}
use Rattle.yf_comments.specs.Comments.LineRest.{nothing, whites, comment}
use Rattle.yf_comments.proofs.RowLemmas.{rest_unique}
use Rattle.yf_block_scalar.specs.declared.header.Chomp.{Chomp}
use Rattle.yf_block_scalar.specs.declared.header.Chomp.TheVariants.{Clip}
use Rattle.yf_block_scalar.specs.Header.{Style, Digit, Sign, Indicators, BlockHeader, HeaderValue}
use Rattle.yf_block_scalar.specs.Header.Style.{literal_sign, folded_sign}
use Rattle.yf_block_scalar.specs.Header.Digit.{digit}
use Rattle.yf_block_scalar.specs.Header.Sign.{strip_sign, keep_sign}
use Rattle.yf_block_scalar.specs.Header.Indicators.{neither, digit_alone, sign_alone, digit_sign, sign_digit}
use Rattle.yf_block_scalar.specs.Header.BlockHeader.{block_header}

-- numbers of the characters
pub between_bounds : (low high c : ℕ) → is_between low high c ≡ true → (low ≤ c) × (c ≤ high)
unfolding is_between
between_bounds low high c e = let p = and_parts _ _ e in (leb-true low c p.0, leb-true c high p.1)

pub between_from : (low high c : ℕ) → low ≤ c → c ≤ high → is_between low high c ≡ true
unfolding is_between
between_from low high c l h = rw (le-leb low c l, le-leb c high h)

-- a digit, as a byte
pub digit_from_byte : (t : List ℕ) (i : ℕ) → IsUtf8 t → i < length t → 49 ≤ get_or t i 0 → get_or t i 0 ≤ 57 → Digit t i (i + 1) (get_or t i 0 - 48)
digit_from_byte t i u l low high =
    let e : code t i ≡ get_or t i 0 = code_from_byte t i u l (omega arith) in
    let d : Digit t i (i + 1) (code t i - 48) = digit (rw e (between_from 49 57 (get_or t i 0) low high)) in
    subst (λ w. Digit t i (i + 1) (w - 48)) e d

pub digit_boundary : (t : List ℕ) (i : ℕ) → IsUtf8 t → i < length t → get_or t i 0 < 128 → IsCharBoundary t (i + 1)
digit_boundary t i u l a = (reads_ascii t i u l a).boundary

digit_code : {t : List ℕ} {i j d : ℕ} → Digit t i j d → (49 ≤ code t i) × (code t i ≤ 57) × (j ≡ i + 1) × (d ≡ code t i - 48)
digit_code {t} {i} (digit e) = let b = between_bounds 49 57 (code t i) e in (b.0, b.1, refl, refl)

pub no_digit_end : {t : List ℕ} {i j d : ℕ} → length t ≤ i → Digit t i j d → ⊥
no_digit_end {t} {i} l x = let c = digit_code x in let past = code-past t i l in absurd (omega (arith, c.1))

pub no_digit_byte : {j d : ℕ} (t : List ℕ) (i : ℕ) → IsUtf8 t → ((49 ≤ get_or t i 0) → (get_or t i 0 ≤ 57) → ⊥) → Digit t i j d → ⊥
no_digit_byte t i u n x =
    let c = digit_code x in
    let b = byte_from_code t i u (omega (arith, c.1)) in
    n (omega (arith, b.1, c.0)) (omega (arith, b.1, c.1))

pub no_sign : {t : List ℕ} {i j : ℕ} {c : Chomp} → code t i ≢ 45 → code t i ≢ 43 → Sign t i j c → ⊥
no_sign a b (strip_sign e) = a e
no_sign a b (keep_sign e) = b e

-- a character that may follow the indicators is not an indicator
stop_codes : (c : ℕ) → is_white_or_end c ≡ true → ((c ≡ 32) ⊎ (c ≡ 9)) ⊎ (((c ≡ 10) ⊎ (c ≡ 13)) ⊎ (c ≡ no_char))
stop_codes c e =
    ⊎_elim (λ (h : is_white c ≡ true). inl (white_cases c h)) (λ (h : is_white c ≡ false).
    ⊎_elim (λ (l : c ≡ 10). inr (inl (inl l))) (λ (l : c ≢ 10).
    ⊎_elim (λ (r : c ≡ 13). inr (inl (inr r))) (λ (r : c ≢ 13). inr (inr (eqb-true c no_char (sym (ends_not c h l r) ∙ e))))
    (cases_eq c 13)) (cases_eq c 10)) (cases_Bool (is_white c))

stop_is : (c : ℕ) → 43 ≤ c → c ≤ 57 → is_white_or_end c ≡ true → ⊥
stop_is c low high e =
    ⊎_elim (λ (h : (c ≡ 32) ⊎ (c ≡ 9)). ⊎_elim (λ (a : c ≡ 32). absurd (omega arith)) (λ (a : c ≡ 9). absurd (omega arith)) h)
    (λ (h : ((c ≡ 10) ⊎ (c ≡ 13)) ⊎ (c ≡ no_char)).
    ⊎_elim (λ (g : (c ≡ 10) ⊎ (c ≡ 13)). ⊎_elim (λ (a : c ≡ 10). absurd (omega arith)) (λ (a : c ≡ 13). absurd (omega arith)) g)
    (λ (a : c ≡ no_char). absurd (omega arith)) h)
    (stop_codes c e)

pub stop_digit : {t : List ℕ} {i j d : ℕ} → Digit t i j d → is_white_or_end (code t i) ≡ true → ⊥
stop_digit {t} {i} x e = let c = digit_code x in stop_is (code t i) (omega (arith, c.0)) c.1 e

pub stop_sign : {t : List ℕ} {i j : ℕ} {c : Chomp} → Sign t i j c → is_white_or_end (code t i) ≡ true → ⊥
stop_sign {t} {i} (strip_sign q) e = stop_is (code t i) (omega arith) (omega arith) e
stop_sign {t} {i} (keep_sign q) e = stop_is (code t i) (omega arith) (omega arith) e

both : {X : Type 0} {t : List ℕ} {i j k d : ℕ} {c : Chomp} → Digit t i j d → Sign t i k c → X
both {t = t} {i = i} x (strip_sign q) = let c = digit_code x in absurd (omega (arith, c.0))
both {t = t} {i = i} x (keep_sign q) = let c = digit_code x in absurd (omega (arith, c.0))

digit_unique : {t : List ℕ} {i j k d e : ℕ} → Digit t i j d → Digit t i k e → (j ≡ k) × (d ≡ e)
digit_unique (digit a) (digit b) = (refl, refl)

sign_unique : {t : List ℕ} {i j k : ℕ} {c e : Chomp} → Sign t i j c → Sign t i k e → (j ≡ k) × (c ≡ e)
sign_unique (strip_sign a) (strip_sign b) = (refl, refl)
sign_unique (strip_sign a) (keep_sign b) = absurd (omega arith)
sign_unique (keep_sign a) (strip_sign b) = absurd (omega arith)
sign_unique (keep_sign a) (keep_sign b) = (refl, refl)

-- indicators that end before white space, a break or the end of the text are unique
abbrev pub Only : List ℕ → ℕ → ℕ → Option ℕ → Chomp → Type 0
Only t i j d c = (k : ℕ) (e : Option ℕ) (f : Chomp) → Indicators t i k e f → is_white_or_end (code t k) ≡ true → (k ≡ j) × (e ≡ d) × (f ≡ c)

move_stop : (t : List ℕ) {j k : ℕ} → j ≡ k → is_white_or_end (code t j) ≡ true → is_white_or_end (code t k) ≡ true
move_stop t e s = subst (λ w. is_white_or_end (code t w) ≡ true) e s

move_sign : {t : List ℕ} {h g j : ℕ} {c : Chomp} → h ≡ g → Sign t h j c → Sign t g j c
move_sign {t} {j = j} {c = c} e s = subst (λ w. Sign t w j c) e s

move_digit : {t : List ℕ} {h g j d : ℕ} → h ≡ g → Digit t h j d → Digit t g j d
move_digit {t} {j = j} {d = d} e s = subst (λ w. Digit t w j d) e s

pub only_digit_sign : {t : List ℕ} {i h j d : ℕ} {c : Chomp} → Digit t i h d → Sign t h j c → Only t i j (Some d) c
only_digit_sign {t} {i} {h} {j} {d} {c} a b k e f m s = here m s where
  here : {k : ℕ} {e : Option ℕ} {f : Chomp} → Indicators t i k e f → is_white_or_end (code t k) ≡ true → (k ≡ j) × (e ≡ Some d) × (f ≡ c)
  here neither s = absurd (stop_digit a s)
  here (digit_alone x) s = absurd (stop_sign b (move_stop t (digit_unique x a).0 s))
  here (sign_alone y) s = both a y
  here (digit_sign x y) s =
      let u = digit_unique x a in let v = sign_unique (move_sign u.0 y) b in (v.0, ap Some u.1, v.1)
  here (sign_digit y x) s = both a y

pub only_digit : {t : List ℕ} {i h d : ℕ} → Digit t i h d → ((j : ℕ) (c : Chomp) → Sign t h j c → ⊥) → Only t i h (Some d) Clip
only_digit {t} {i} {h} {d} a n k e f m s = here m s where
  here : {k : ℕ} {e : Option ℕ} {f : Chomp} → Indicators t i k e f → is_white_or_end (code t k) ≡ true → (k ≡ h) × (e ≡ Some d) × (f ≡ Clip)
  here neither s = absurd (stop_digit a s)
  here (digit_alone x) s = let u = digit_unique x a in (u.0, ap Some u.1, refl)
  here (sign_alone y) s = both a y
  here (digit_sign {j = j} {c = c} x y) s = absurd (n j c (move_sign (digit_unique x a).0 y))
  here (sign_digit y x) s = both a y

pub only_sign_digit : {t : List ℕ} {i h j d : ℕ} {c : Chomp} → Sign t i h c → Digit t h j d → Only t i j (Some d) c
only_sign_digit {t} {i} {h} {j} {d} {c} a b k e f m s = here m s where
  here : {k : ℕ} {e : Option ℕ} {f : Chomp} → Indicators t i k e f → is_white_or_end (code t k) ≡ true → (k ≡ j) × (e ≡ Some d) × (f ≡ c)
  here neither s = absurd (stop_sign a s)
  here (digit_alone x) s = both x a
  here (sign_alone y) s = absurd (stop_digit b (move_stop t (sign_unique y a).0 s))
  here (digit_sign x y) s = both x a
  here (sign_digit y x) s =
      let u = sign_unique y a in let v = digit_unique (move_digit u.0 x) b in (v.0, ap Some v.1, u.1)

pub only_sign : {t : List ℕ} {i h : ℕ} {c : Chomp} → Sign t i h c → ((j d : ℕ) → Digit t h j d → ⊥) → Only t i h None c
only_sign {t} {i} {h} {c} a n k e f m s = here m s where
  here : {k : ℕ} {e : Option ℕ} {f : Chomp} → Indicators t i k e f → is_white_or_end (code t k) ≡ true → (k ≡ h) × (e ≡ None) × (f ≡ c)
  here neither s = absurd (stop_sign a s)
  here (digit_alone x) s = both x a
  here (sign_alone y) s = let u = sign_unique y a in (u.0, refl, u.1)
  here (digit_sign x y) s = both x a
  here (sign_digit {j = j} {d = d} y x) s = absurd (n j d (move_digit (sign_unique y a).0 x))

pub only_neither : {t : List ℕ} {i : ℕ} → ((j d : ℕ) → Digit t i j d → ⊥) → ((j : ℕ) (c : Chomp) → Sign t i j c → ⊥) → Only t i i None Clip
only_neither {t} {i} n m k e f x s = here x s where
  here : {k : ℕ} {e : Option ℕ} {f : Chomp} → Indicators t i k e f → is_white_or_end (code t k) ≡ true → (k ≡ i) × (e ≡ None) × (f ≡ Clip)
  here neither s = (refl, refl, refl)
  here (digit_alone {j = j} {d = d} x) s = absurd (n j d x)
  here (sign_alone {j = j} {c = c} y) s = absurd (m j c y)
  here (digit_sign {h = h} {d = d} x y) s = absurd (n h d x)
  here (sign_digit {h = h} {c = c} y x) s = absurd (m h c y)

pub mark_inside : (t : List ℕ) (i : ℕ) → IsUtf8 t → code t i < 128 → 3 ≤ i + 1 → code t ((i + 1) - 3) ≢ 0xFEFF
mark_inside t i u high l w =
    let b = bytes_from_mark t ((i + 1) - 3) u w in
    let p : i ≡ ((i + 1) - 3) + 2 = omega arith in
    let inside : code t i ≡ no_char = ap (code t) p ∙ code-inside t (((i + 1) - 3) + 2) (omega (arith, b.3)) (omega (arith, b.3)) in
    absurd (omega arith)

-- no line starts after a header's characters
pub inside_line : (t : List ℕ) (i : ℕ) → IsUtf8 t → 33 ≤ code t i → code t i < 128 → LineStart t (i + 1) → ⊥
inside_line t i u low high =
    let e : (i + 1) - 1 ≡ i = omega arith in
    let q : code t ((i + 1) - 1) ≡ code t i = ap (code t) e in
    no_start t (i + 1) (λ z. absurd (omega arith)) (mark_inside t i u high)
    (no_break_end t (i + 1) (λ w. absurd (omega arith)) (λ w _. absurd (omega arith)))

style_inside : {t : List ℕ} {i j : ℕ} {f : Bool} → IsUtf8 t → Style t i j f → LineStart t j → ⊥
style_inside {t} {i} u (literal_sign e) s = inside_line t i u (omega arith) (omega arith) s
style_inside {t} {i} u (folded_sign e) s = inside_line t i u (omega arith) (omega arith) s

digit_inside : {t : List ℕ} {i j d : ℕ} → IsUtf8 t → Digit t i j d → LineStart t j → ⊥
digit_inside {t} {i} u x s =
    let c = digit_code x in
    inside_line t i u (omega (arith, c.0)) (omega (arith, c.1)) (subst (λ w. LineStart t w) c.2 s)

sign_inside : {t : List ℕ} {i j : ℕ} {c : Chomp} → IsUtf8 t → Sign t i j c → LineStart t j → ⊥
sign_inside {t} {i} u (strip_sign e) s = inside_line t i u (omega arith) (omega arith) s
sign_inside {t} {i} u (keep_sign e) s = inside_line t i u (omega arith) (omega arith) s

pub marks_inside : {t : List ℕ} {i h k : ℕ} {f : Bool} {d : Option ℕ} {c : Chomp} → IsUtf8 t → Style t i h f → Indicators t h k d c → LineStart t k → ⊥
marks_inside u f neither s = style_inside u f s
marks_inside u f (digit_alone x) s = digit_inside u x s
marks_inside u f (sign_alone y) s = sign_inside u y s
marks_inside u f (digit_sign x y) s = sign_inside u y s
marks_inside u f (sign_digit y x) s = digit_inside u x s

-- inside a line, its rest begins with white space, a break or the end of the text
break_stop : {t : List ℕ} {i j : ℕ} → BreakOrEnd t i j → is_white_or_end (code t i) ≡ true
break_stop {t} {i} (by_break b) =
    ⊎_elim (λ (h : code t i ≡ 13). ends_by_code (code t i) 13 h ends_at_cr) (λ (h : code t i ≡ 10). ends_by_code (code t i) 10 h ends_at_lf) (break_char b)
break_stop {t} {i} (by_end e) = ends_by_code (code t i) no_char (ap (code t) e ∙ code-end t) ends_at_end

one_white : {t : List ℕ} {i j : ℕ} {x : List ℕ} → One t is_white i j x → is_white (code t i) ≡ true
one_white (one e) = e

pub many_white : {t : List ℕ} {i j : ℕ} {x : List ℕ} → Many t is_white i j x → i < j → is_white (code t i) ≡ true
many_white done l = absurd (omega arith)
many_white (step s c) l = one_white s

separate_stop : {t : List ℕ} {i j : ℕ} → (LineStart t i → ⊥) → SeparateInLine t i j → is_white_or_end (code t i) ≡ true
separate_stop {t} {i} n (by_whites m l) = ends_by_white (code t i) (many_white m l)
separate_stop n (at_start s) = absurd (n s)

pub rest_stop : {t : List ℕ} {i j : ℕ} {x : List CommentValue} → (LineStart t i → ⊥) → LineRest t i j x → is_white_or_end (code t i) ≡ true
rest_stop n (nothing e) = break_stop e
rest_stop n (whites s e) = separate_stop n s
rest_stop n (comment s c e) = separate_stop n s

-- the header
style_unique : {t : List ℕ} {i j k : ℕ} {f g : Bool} → Style t i j f → Style t i k g → (j ≡ k) × (f ≡ g)
style_unique (literal_sign a) (literal_sign b) = (refl, refl)
style_unique (literal_sign a) (folded_sign b) = absurd (omega arith)
style_unique (folded_sign a) (literal_sign b) = absurd (omega arith)
style_unique (folded_sign a) (folded_sign b) = (refl, refl)

data Same (t : List ℕ) (h k : ℕ) (f : Bool) (d : Option ℕ) (c : Chomp) : ℕ → HeaderValue → Type 0 where
  same : {j : ℕ} {x : List CommentValue} → LineRest t k j x → Same t h k f d c j (record { header = record { folded = f; digit = d; chomp = c }; comments = x })

header_same : {t : List ℕ} {i h k j : ℕ} {f : Bool} {d : Option ℕ} {c : Chomp} {v : HeaderValue} → IsUtf8 t → Style t i h f → Only t h k d c
    → BlockHeader t i j v → Same t h k f d c j v
header_same {t} {i} {h} {k} {f = f} {d = d} {c = c} u a only (block_header {h = g} {k = m} {j = j} {f = e} {d = p} {c = q} {x = x} s y r) =
    let e1 = style_unique s a in
    let y' : Indicators t h m p q = subst (λ w. Indicators t w m p q) e1.0 y in
    let e2 = only m p q y' (rest_stop (marks_inside u s y) r) in
    let r' : LineRest t k j x = subst (λ w. LineRest t w j x) e2.0 r in
    let made : Same t h k f d c j (record { header = record { folded = f; digit = d; chomp = c }; comments = x }) = same r' in
    let folded_are : Bool → HeaderValue = λ w. record { header = record { folded = w; digit = p; chomp = q }; comments = x } in
    let digit_is : Option ℕ → HeaderValue = λ w. record { header = record { folded = f; digit = w; chomp = q }; comments = x } in
    let chomp_is : Chomp → HeaderValue = λ w. record { header = record { folded = f; digit = d; chomp = w }; comments = x } in
    let header_is : record { header = record { folded = e; digit = p; chomp = q }; comments = x } ≡ record { header = record { folded = f; digit = d; chomp = c }; comments = x } =
    ap folded_are e1.1 ∙ ap digit_is e2.1 ∙ ap chomp_is e2.2 in
    subst (λ w. Same t h k f d c j w) (sym header_is) made

pub header_stuck : {t : List ℕ} {i h k : ℕ} {f : Bool} {d : Option ℕ} {c : Chomp} → IsUtf8 t → Style t i h f → Only t h k d c
    → Stuck (LineRest t k) → Stuck (BlockHeader t i)
header_stuck {t} {i} {h} {k} {f} {d} {c} u a only n = record { none = λ j v b. rest_none (header_same u a only b) } where
  rest_none : {j : ℕ} {v : HeaderValue} → Same t h k f d c j v → ⊥
  rest_none (same {j = j} {x = x} r) = n.none j x r

pub no_header : {t : List ℕ} {i : ℕ} → ((j : ℕ) (f : Bool) → Style t i j f → ⊥) → Stuck (BlockHeader t i)
no_header {t} {i} n = record { none = λ j v b. none b } where
  none : {j : ℕ} {v : HeaderValue} → BlockHeader t i j v → ⊥
  none (block_header {h = h} {f = f} s y r) = n h f s

pub header_chosen : {t : List ℕ} {i h k j : ℕ} {f : Bool} {d : Option ℕ} {c : Chomp} {x : List CommentValue} → IsUtf8 t → Style t i h f
    → Indicators t h k d c → Only t h k d c → LineRest t k j x
    → Chosen (BlockHeader t i) j (record { header = record { folded = f; digit = d; chomp = c }; comments = x })
header_chosen {t} {i} {h} {k} {j} {f} {d} {c} {x} u a y only r = record {
  derived = block_header a y r;
  longest = λ m v b. rest_longest (header_same u a only b);
  only = λ v b. rest_only (header_same u a only b);
} where
  rest_longest : {m : ℕ} {v : HeaderValue} → Same t h k f d c m v → m ≤ j
  rest_longest (same {j = m} q) = let e = (rest_unique q r).0 in omega arith

  rest_only : {m : ℕ} {v : HeaderValue} → Same t h k f d c m v → v ≡ record { header = record { folded = f; digit = d; chomp = c }; comments = x }
  rest_only (same q) =
      let comments_are : List CommentValue → HeaderValue = λ w. record { header = record { folded = f; digit = d; chomp = c }; comments = w } in
      ap comments_are (rest_unique q r).1
