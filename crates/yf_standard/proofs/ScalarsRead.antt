-- Block scalars (8.1): from the relations of the standard's productions to those of `Header` and `Body`.
use Rattle.std.proofs.Common.{◌≡◌, ℕ, suc, ◌+◌, ◌-◌, ◌<◌, ◌≤◌, ℤ, pos, ◌≤ℤ◌, Bool, true, false, leb, ◌||◌, ◌==◌, not, List, [], ◌∷◌, ◌++◌, length, Option, Some, None, sym, ap, ◌∙◌, subst, ◌⊎◌, inl, inr, arith}
use Rattle.std.proofs.lemmas.Bool.{and_parts, eqb-true, leb-true}
use Rattle.std.proofs.lemmas.Int.{ints}
use Rattle.std.proofs.lemmas.Bool.Decides.{nat_tests}
use Rattle.yf_chars.specs.declared.context.Ctx.TheVariants.{BlockIn}
use Rattle.yf_chars.specs.Text.{code, next}
use Rattle.yf_chars.specs.Class.{is_nb_char, is_ns_char, is_white, is_printable, is_between, is_break_char}
use Rattle.yf_chars.specs.Chain.{Chain, Many, Stuck}
use Rattle.yf_chars.specs.Chain.Chain.{done, step}
use Rattle.yf_chars.specs.Chain.One.{one}
use Rattle.yf_lines.specs.Basic.{Break, Spaces, Indent, IndentLess, Empty, FoldedBreak}
use Rattle.yf_lines.specs.Basic.Indent.{exactly}
use Rattle.yf_lines.specs.Basic.IndentLess.{fewer}
use Rattle.yf_lines.specs.Basic.FoldedBreak.{trimmed, as_space}
use Rattle.yf_comments.specs.Comment.{CommentValue}
use Rattle.yf_comments.specs.Comments.{CommentText, BreakOrEnd, LineRest, CommentLine}
use Rattle.yf_block_scalar.specs.declared.header.Chomp.TheVariants.{Strip, Clip, Keep}
use Rattle.yf_block_scalar.specs.Header.{Digit, Sign, Indicators}
use Rattle.yf_block_scalar.specs.Header.Digit.{digit}
use Rattle.yf_block_scalar.specs.Header.Sign.{strip_sign, keep_sign}
use Rattle.yf_block_scalar.specs.Header.Indicators.{neither, digit_alone, sign_alone, digit_sign, sign_digit}
use Rattle.yf_block_scalar.specs.Body.{largest, SpaceLine, EmptyLines, Ends, Line}
use Rattle.yf_block_scalar.specs.Body.EmptyLines.{bare}
use Rattle.yf_block_scalar.specs.Body.Ends.{by_break as ends_by_break, by_text}
use Rattle.yf_standard.specs.Characters.{x, ◌to◌, s-white, nb-char, ns-char, s-space}
use Rattle.yf_standard.specs.Notation.{Chomping, Indicator}
use Rattle.yf_standard.specs.Notation.Chomping.{STRIP, CLIP, KEEP}
use Rattle.yf_standard.specs.Notation.Indicator.{GIVEN, DETECTED}
use Rattle.yf_standard.specs.Productions.{digit-of}
pub use Rattle.yf_standard.specs.ContentLaws.{chomp_of}
use Rattle.yf_standard.specs.Rules.{NoLine, NoTrail, NoCommentLine, NoFoldedLine}
use Rattle.yf_standard.proofs.Reading.{Star}
use Rattle.yf_standard.proofs.Reading.Star.{none, more}
use Rattle.yf_standard.proofs.Basics.{SomeOf, CharOf, char_is, star_chain, chars_many, chars_some, many_forward}
use Rattle.yf_standard.proofs.Sets.{nb_char_is, ns_char_is, white_is}
use Rattle.yf_standard.proofs.Texts.{Empties, Texts, empty_line_read, empties_before, texts_join, no_empties}
use Rattle.yf_standard.proofs.Texts.Texts.{last_text}
use Rattle.yf_standard.proofs.ScalarsMade.{HashRest}
use Rattle.yf_chars.proofs.TextLemmas.{next_ascii, next_later}
use Rattle.yf_lines.proofs.FoldLemmas.{indent_width}
use Rattle.yf_lines.proofs.RestLemmas.{spaces_more}

-- the value of n, if it is a number of spaces
abbrev pub AtWidth : (ℕ → ℕ → ℕ → Type 0) → ℤ → ℕ → ℕ → Type 0
AtWidth R n i j = (k : ℕ) → n ≡ pos k → R k i j

-- [65]
abbrev pub UpTo : List ℕ → ℤ → ℕ → ℕ → Type 0
UpTo t n i j = (m : ℕ) × (Spaces t i m × ((pos m ≤ℤ n) × (i + m ≡ j)))

pub up_to_none : (t : List ℕ) (n i j : ℕ) → i ≡ j → UpTo t (pos n) i j
up_to_none t n i j e = (0, (record { each = λ m l. absurd (omega arith) }, (omega (arith, ints), omega (arith, e))))

pub up_to_more : (t : List ℕ) (n i k j : ℕ) → CharOf t s-space i k → UpTo t (pos n) k j → UpTo t (pos (suc n)) i j
unfolding s-space
up_to_more t n i k j c d =
    let a = char_is t i k 32 (omega arith) c in
    let l : pos (suc d.0) ≤ℤ pos (suc n) = omega (arith, ints, d.1.1.0) in
    (suc d.0, (spaces_more a.0 (subst (λ z. Spaces t z d.0) (sym a.1) d.1.0), (l, omega (arith, a.1, d.1.1.1))))

-- [162] to [164]
abbrev pub digit_of : Indicator → Option ℕ
digit_of (GIVEN m) = Some m
digit_of DETECTED = None

abbrev pub IndicatorRead : List ℕ → Indicator → ℕ → ℕ → Type 0
IndicatorRead t (GIVEN m) i j = Digit t i j m
IndicatorRead t DETECTED i j = i ≡ j

abbrev pub ChompingRead : List ℕ → Chomping → ℕ → ℕ → Type 0
ChompingRead t STRIP i j = Sign t i j Strip
ChompingRead t CLIP i j = i ≡ j
ChompingRead t KEEP i j = Sign t i j Keep

pub digit_read : (t : List ℕ) (m i j : ℕ) → CharOf t (digit-of m) i j → Digit t i j m
unfolding digit-of ◌to◌ is_between
digit_read t m i j d =
    let p = and_parts (is_between 49 57 (code t i)) (code t i == 48 + m) d.0 in
    let q : code t i ≡ 48 + m = eqb-true (code t i) (48 + m) p.1 in
    let v : code t i - 48 ≡ m = omega (arith, q) in
    let l : code t i < 128 = below (code t i) p.0 in
    subst (λ z. Digit t i j z) v (subst (λ z. Digit t i z (code t i - 48)) (sym (next_ascii t i l) ∙ d.1) (digit p.0))
  where
    below : (c : ℕ) → is_between 49 57 c ≡ true → c < 128
    below c e = let l = leb-true c 57 (and_parts (leb 49 c) (leb c 57) e).1 in omega (arith, l)

pub strip_read : (t : List ℕ) (i j : ℕ) → CharOf t (x 45) i j → Sign t i j Strip
strip_read t i j d = let a = char_is t i j 45 (omega arith) d in subst (λ z. Sign t i z Strip) a.1 (strip_sign a.0)

pub keep_read : (t : List ℕ) (i j : ℕ) → CharOf t (x 43) i j → Sign t i j Keep
keep_read t i j d = let a = char_is t i j 43 (omega arith) d in subst (λ z. Sign t i z Keep) a.1 (keep_sign a.0)

abbrev pub HeaderRead : List ℕ → Indicator → Chomping → ℕ → ℕ → Type 0
HeaderRead t m c i j = (k : ℕ) × (Indicators t i k (digit_of m) (chomp_of c) × SomeOf (LineRest t) k j)

pub indicators_read : (t : List ℕ) (m : Indicator) (c : Chomping) (i j : ℕ)
    → ((k : ℕ) × (IndicatorRead t m i k × ChompingRead t c k j)) ⊎ ((k : ℕ) × (ChompingRead t c i k × IndicatorRead t m k j)) → Indicators t i j (digit_of m) (chomp_of c)
indicators_read t (GIVEN m) STRIP i j (inl d) = digit_sign d.1.0 d.1.1
indicators_read t (GIVEN m) STRIP i j (inr d) = sign_digit d.1.0 d.1.1
indicators_read t (GIVEN m) KEEP i j (inl d) = digit_sign d.1.0 d.1.1
indicators_read t (GIVEN m) KEEP i j (inr d) = sign_digit d.1.0 d.1.1
indicators_read t (GIVEN m) CLIP i j (inl d) = subst (λ z. Indicators t i z (Some m) Clip) d.1.1 (digit_alone d.1.0)
indicators_read t (GIVEN m) CLIP i j (inr d) = subst (λ z. Indicators t z j (Some m) Clip) (sym d.1.0) (digit_alone d.1.1)
indicators_read t DETECTED STRIP i j (inl d) = subst (λ z. Indicators t z j None Strip) (sym d.1.0) (sign_alone d.1.1)
indicators_read t DETECTED STRIP i j (inr d) = subst (λ z. Indicators t i z None Strip) d.1.1 (sign_alone d.1.0)
indicators_read t DETECTED KEEP i j (inl d) = subst (λ z. Indicators t z j None Keep) (sym d.1.0) (sign_alone d.1.1)
indicators_read t DETECTED KEEP i j (inr d) = subst (λ z. Indicators t i z None Keep) d.1.1 (sign_alone d.1.0)
indicators_read t DETECTED CLIP i j (inl d) = subst (λ z. Indicators t i z None Clip) (d.1.0 ∙ d.1.1) neither
indicators_read t DETECTED CLIP i j (inr d) = subst (λ z. Indicators t i z None Clip) (d.1.0 ∙ d.1.1) neither

pub header_read : (t : List ℕ) (m : Indicator) (c : Chomping) (i j : ℕ)
    → (h : ℕ) × ((((k : ℕ) × (IndicatorRead t m i k × ChompingRead t c k h)) ⊎ ((k : ℕ) × (ChompingRead t c i k × IndicatorRead t m k h))) × SomeOf (LineRest t) h j) → HeaderRead t m c i j
header_read t m c i j d = (d.0, (indicators_read t m c i d.0 d.1.0, d.1.1))

-- [165]
abbrev pub SomeEnd : List ℕ → ℕ → ℕ → Type 0
SomeEnd t i j = (o : Bool) × Ends t i j o

pub last_read : (t : List ℕ) (i j : ℕ) → Break t i j ⊎ ((i ≡ length t) × (i ≡ j)) → SomeEnd t i j
last_read t i j (inl b) = (false, ends_by_break b)
last_read t i j (inr e) = (true, subst (λ z. Ends t i z true) e.1 (by_text e.0))

-- [169]
pub record TrailComments (t : List ℕ) (k i j : ℕ) : Type 0 where
  pub spaces : ℕ
  pub few : spaces < k
  pub before : Spaces t i spaces
  pub at : ℕ
  pub hash : HashRest t (i + spaces) at
  pub further : SomeOf (Chain (CommentLine t)) at j
  pub all : NoCommentLine t j

pub trail_comments_read : (t : List ℕ) (n : ℤ) (i j : ℕ)
    → (a : ℕ) × (IndentLess t n i a × ((b : ℕ) × (SomeOf (CommentText t) a b × ((c : ℕ) × (BreakOrEnd t b c × ((d : ℕ) × (Star (SomeOf (CommentLine t)) c d × (NoCommentLine t d × (d ≡ j)))))))))
    → AtWidth (TrailComments t) n i j
trail_comments_read t n i j d = λ k e. go k e d.1.0 d.1.1.1.0 where
  go : {a : ℕ} (k : ℕ) → n ≡ pos k → IndentLess t n i a → SomeOf (CommentText t) a d.1.1.0 → TrailComments t k i j
  go k e (fewer m l s) c = record {
    spaces = m;
    few = omega (arith, ints, e, l);
    before = s;
    at = d.1.1.1.1.0;
    hash = record { end = d.1.1.0; text = c.0; comment = c.1; ends = d.1.1.1.1.1.0 };
    further = subst (λ z. SomeOf (Chain (CommentLine t)) d.1.1.1.1.0 z) d.1.1.1.1.1.1.1.1.1 (star_chain {S = CommentLine t} (λ i j s. s) d.1.1.1.1.1.1.1.0);
    all = subst (λ z. NoCommentLine t z) d.1.1.1.1.1.1.1.1.1 d.1.1.1.1.1.1.1.1.0;
  }

-- [166] to [168]
pub record Ending (t : List ℕ) (k i j : ℕ) : Type 0 where
  pub at : ℕ
  pub widths : List ℕ
  pub bares : Chain (EmptyLines t) i at widths
  pub within : largest widths ≤ k
  pub most : Stuck (Line t k at)
  pub trail : TrailComments t k at j ⊎ (NoTrail t (pos k) at × (at ≡ j))

-- the comments of a trail
abbrev pub trail_values : {t : List ℕ} {k i j : ℕ} → TrailComments t k i j ⊎ (NoTrail t (pos k) i × (i ≡ j)) → List CommentValue
trail_values (inl c) = c.hash.text ++ c.further.0
trail_values (inr n) = []

pub record Bares (t : List ℕ) (k i j : ℕ) : Type 0 where
  pub widths : List ℕ
  pub bares : Chain (EmptyLines t) i j widths
  pub within : largest widths ≤ k

no_bares : (t : List ℕ) (k i : ℕ) → Bares t k i i
no_bares t k i = record { widths = []; bares = done; within = omega arith }

more_bares : {t : List ℕ} {k i h j m : ℕ} → SpaceLine t i m h → m ≤ k → Bares t k h j → Bares t k i j
more_bares {m = m} s l r = let w = r.within in record { widths = m ∷ r.widths; bares = step (bare m s) r.bares; within = omega (arith, l, w) }

pub bares_up_to : (t : List ℕ) (n : ℤ) (k i j : ℕ) → n ≡ pos k → Star (λ i j. (h : ℕ) × (UpTo t n i h × Break t h j)) i j → Bares t k i j
bares_up_to t n k i j e none = no_bares t k i
bares_up_to t n k i j e (more {k = g} d r) =
    let m : ℕ = d.1.0.0 in
    let l : d.1.0.0 ≤ k = omega (arith, ints, e, d.1.0.1.1.0) in
    more_bares (record { spaces = d.1.0.1.0; ends = subst (λ z. Break t z g) (sym d.1.0.1.1.1) d.1.1 }) l (bares_up_to t n k g j e r)

pub bares_empty : (t : List ℕ) (n : ℤ) (k i j : ℕ) → n ≡ pos k → Star (SomeOf (Empty t n BlockIn)) i j → Bares t k i j
bares_empty t n k i j e none = no_bares t k i
bares_empty t n k i j e (more {k = g} d r) =
    let a = empty_line_read t k i g d.0 (subst (λ z. Empty t z BlockIn i g d.0) e d.1) in more_bares a.1.0 a.1.1 (bares_empty t n k g j e r)

abbrev pub Closing : List ℕ → ℤ → ℕ → ℕ → Type 0
Closing t n p j = (q : ℕ) × ((NoLine t n p × (p ≡ q)) × (AtWidth (TrailComments t) n q j ⊎ (NoTrail t n q × (q ≡ j))))

ending_of : (t : List ℕ) (n : ℤ) (k i p j : ℕ) → n ≡ pos k → Bares t k i p → Closing t n p j → Ending t k i j
ending_of t n k i p j e b c = record { at = p; widths = b.widths; bares = b.bares; within = b.within; most = c.1.0.0.none k e; trail = go c.1.1 } where
  same : p ≡ c.0
  same = c.1.0.1

  go : AtWidth (TrailComments t) n c.0 j ⊎ (NoTrail t n c.0 × (c.0 ≡ j)) → TrailComments t k p j ⊎ (NoTrail t (pos k) p × (p ≡ j))
  go (inl d) = inl (subst (λ z. TrailComments t k z j) (sym c.1.0.1) (d k e))
  go (inr d) = inr (subst (λ z. NoTrail t z p) e (subst (λ z. NoTrail t n z) (sym c.1.0.1) d.0), c.1.0.1 ∙ d.1)

pub strip_empty_read : (t : List ℕ) (n : ℤ) (i j : ℕ) → (p : ℕ) × (Star (λ i j. (h : ℕ) × (UpTo t n i h × Break t h j)) i p × Closing t n p j) → AtWidth (Ending t) n i j
strip_empty_read t n i j d = λ k e. ending_of t n k i d.0 j e (bares_up_to t n k i d.0 e d.1.0) d.1.1

pub keep_empty_read : (t : List ℕ) (n : ℤ) (i j : ℕ) → (p : ℕ) × (Star (SomeOf (Empty t n BlockIn)) i p × Closing t n p j) → AtWidth (Ending t) n i j
keep_empty_read t n i j d = λ k e. ending_of t n k i d.0 j e (bares_empty t n k i d.0 e d.1.0) d.1.1

-- [171] and [172]
empties_of : (t : List ℕ) (n : ℤ) (k i j : ℕ) → n ≡ pos k → Star (SomeOf (Empty t n BlockIn)) i j → Empties t k i j
empties_of t n k i j e s = subst (λ z. SomeOf (Chain (Empty t z BlockIn)) i j) e (star_chain {S = Empty t n BlockIn} (λ i j s. s) s)

pub spaces_of : {t : List ℕ} {n : ℤ} {a b : ℕ} (k : ℕ) → n ≡ pos k → Indent t n a b → Spaces t a k × (a + k ≡ b)
spaces_of {t} {n} {a} k e (exactly m q s) = let z : m ≡ k = indent_width (sym q ∙ e) in (subst (λ z. Spaces t a z) z s, ap (λ z. a + z) (sym z))

text_of : (t : List ℕ) (k i a b j : ℕ) (w : List ℕ) → Empties t k i a → Spaces t a k × (a + k ≡ b) → Many t is_nb_char b j w → b < j → Texts t k i j
text_of t k i a b j w e s m l = last_text e s.0 (subst (λ z. Many t is_nb_char z j w) (sym s.1) m) (omega (arith, s.1, l))

pub literal_text_read : (t : List ℕ) (n : ℤ) (i j : ℕ)
    → (a : ℕ) × (Star (SomeOf (Empty t n BlockIn)) i a × ((b : ℕ) × (Indent t n a b × ((c : ℕ) × (CharOf t nb-char b c × Star (CharOf t nb-char) c j))))) → AtWidth (Texts t) n i j
literal_text_read t n i j d = λ k e.
    let m = chars_some {t = t} {s = nb-char} {p = is_nb_char} nb_char_is d.1.1.1.1.1.0 d.1.1.1.1.1.1 in
    text_of t k i d.0 d.1.1.0 j m.0 (empties_of t n k i d.0 e d.1.0) (spaces_of k e d.1.1.1.0) m.1.0 m.1.1

abbrev pub NextText : List ℕ → ℕ → ℕ → ℕ → Type 0
NextText t k i j = (b : ℕ) × (Break t i b × Texts t k b j)

pub next_text_read : (t : List ℕ) (n : ℤ) (i j : ℕ) → (b : ℕ) × (Break t i b × AtWidth (Texts t) n b j) → AtWidth (NextText t) n i j
next_text_read t n i j d = λ k e. (d.0, (d.1.0, d.1.1 k e))

pub texts_more : {t : List ℕ} {n : ℤ} {k i c j : ℕ} → n ≡ pos k → Texts t k i c → Star (AtWidth (NextText t) n) c j → Texts t k i j
texts_more e x none = x
texts_more {k = k} e x (more d r) = let y = d k e in texts_more e (texts_join x y.1.0 y.1.1) r

-- [175] and [177]
pub ns_is_nb : (c : ℕ) → ns-char c ≡ true → is_nb_char c ≡ true
unfolding is_ns_char
ns_is_nb c e = (and_parts (is_nb_char c) (not (is_white c)) (sym (ns_char_is c) ∙ e)).0

pub white_is_nb : (c : ℕ) → s-white c ≡ true → is_nb_char c ≡ true
unfolding is_nb_char is_printable is_between is_break_char is_white
white_is_nb c e = let w = sym (white_is c) ∙ e in white c w where
  white : (c : ℕ) → ((c == 32) || (c == 9)) ≡ true → is_nb_char c ≡ true
  white c w = grind (arith, nat_tests)

pub line_text_read : (t : List ℕ) (n : ℤ) (s : ℕ → Bool) (i j : ℕ) → ((c : ℕ) → s c ≡ true → is_nb_char c ≡ true)
    → (a : ℕ) × (Indent t n i a × ((b : ℕ) × (CharOf t s a b × Star (CharOf t nb-char) b j))) → AtWidth (Texts t) n i j
line_text_read t n s i j f d = λ k e.
    let m = chars_many {t = t} {s = nb-char} {p = is_nb_char} nb_char_is d.1.1.1.1 in
    let g = many_forward m.1 in
    let l = next_later t d.0 in
    let q : next t d.0 ≡ d.1.1.0 = d.1.1.1.0.1 in
    let first : Many t is_nb_char d.0 j (code t d.0 ∷ m.0) = step (one (f (code t d.0) d.1.1.1.0.0)) (subst (λ z. Many t is_nb_char z j m.0) (sym q) m.1) in
    text_of t k i i d.0 j (code t d.0 ∷ m.0) (no_empties t k i) (spaces_of k e d.1.0) first (omega (arith, g, l, q))

pub folded_text_read : (t : List ℕ) (n : ℤ) (i j : ℕ) → (a : ℕ) × (Indent t n i a × ((b : ℕ) × (CharOf t ns-char a b × Star (CharOf t nb-char) b j))) → AtWidth (Texts t) n i j
folded_text_read t n i j d = line_text_read t n ns-char i j ns_is_nb d

pub spaced_text_read : (t : List ℕ) (n : ℤ) (i j : ℕ) → (a : ℕ) × (Indent t n i a × ((b : ℕ) × (CharOf t s-white a b × Star (CharOf t nb-char) b j))) → AtWidth (Texts t) n i j
spaced_text_read t n i j d = line_text_read t n s-white i j white_is_nb d

-- [176], [178] and [179]
abbrev pub BreakEmpties : List ℕ → ℕ → ℕ → ℕ → Type 0
BreakEmpties t k i j = (b : ℕ) × (Break t i b × Empties t k b j)

fold_of : {t : List ℕ} {k i j : ℕ} {w : List ℕ} → FoldedBreak t (pos k) BlockIn i j w → BreakEmpties t k i j
fold_of (trimmed {h = h} b e r) = (h, (b, (_, step e r)))
fold_of {t} {k} {j = j} (as_space b) = (j, (b, no_empties t k j))

pub spaced_break_read : (t : List ℕ) (n : ℤ) (i j : ℕ) → (b : ℕ) × (Break t i b × Star (SomeOf (Empty t n BlockIn)) b j) → AtWidth (BreakEmpties t) n i j
spaced_break_read t n i j d = λ k e. (d.0, (d.1.0, empties_of t n k d.0 j e d.1.1))

joined : {t : List ℕ} {k i c g j : ℕ} → Texts t k i c → BreakEmpties t k c g → Texts t k g j → Texts t k i j
joined x b y = texts_join x b.1.0 (empties_before b.1.1 y)

pub folded_lines_read : (t : List ℕ) (n : ℤ) (i j : ℕ)
    → (c : ℕ) × (AtWidth (Texts t) n i c × ((z : ℕ) × (Star (λ i j. (g : ℕ) × (SomeOf (FoldedBreak t n BlockIn) i g × AtWidth (Texts t) n g j)) c z × (NoFoldedLine t n z × (z ≡ j))))) → AtWidth (Texts t) n i j
folded_lines_read t n i j d = λ k e. subst (λ z. Texts t k i z) d.1.1.1.1.1 (go k e (d.1.0 k e) d.1.1.1.0) where
  go : {c z : ℕ} (k : ℕ) → n ≡ pos k → Texts t k i c → Star (λ i j. (g : ℕ) × (SomeOf (FoldedBreak t n BlockIn) i g × AtWidth (Texts t) n g j)) c z → Texts t k i z
  go k e x none = x
  go {c} k e x (more f r) = go k e (joined x (fold_of (subst (λ z. FoldedBreak t z BlockIn c f.0 f.1.0.0) e f.1.0.1)) (f.1.1 k e)) r

pub spaced_lines_read : (t : List ℕ) (n : ℤ) (i j : ℕ)
    → (c : ℕ) × (AtWidth (Texts t) n i c × Star (λ i j. (g : ℕ) × (AtWidth (BreakEmpties t) n i g × AtWidth (Texts t) n g j)) c j) → AtWidth (Texts t) n i j
spaced_lines_read t n i j d = λ k e. go k e (d.1.0 k e) d.1.1 where
  go : {c z : ℕ} (k : ℕ) → n ≡ pos k → Texts t k i c → Star (λ i j. (g : ℕ) × (AtWidth (BreakEmpties t) n i g × AtWidth (Texts t) n g j)) c z → Texts t k i z
  go k e x none = x
  go k e x (more f r) = go k e (joined x (f.1.0 k e) (f.1.1 k e)) r

-- [180] and [181]
pub same_lines_read : (t : List ℕ) (n : ℤ) (i j : ℕ) → (a : ℕ) × (Star (SomeOf (Empty t n BlockIn)) i a × (AtWidth (Texts t) n a j ⊎ AtWidth (Texts t) n a j)) → AtWidth (Texts t) n i j
same_lines_read t n i j d = λ k e. empties_before (empties_of t n k i d.0 e d.1.0) (go d.1.1 k e) where
  go : AtWidth (Texts t) n d.0 j ⊎ AtWidth (Texts t) n d.0 j → AtWidth (Texts t) n d.0 j
  go (inl x) = x
  go (inr x) = x

pub diff_lines_read : (t : List ℕ) (n : ℤ) (i j : ℕ)
    → (c : ℕ) × (AtWidth (Texts t) n i c × Star (λ i j. (g : ℕ) × (Break t i g × AtWidth (Texts t) n g j)) c j) → AtWidth (Texts t) n i j
diff_lines_read t n i j d = λ k e. go k e (d.1.0 k e) d.1.1 where
  go : {c z : ℕ} (k : ℕ) → n ≡ pos k → Texts t k i c → Star (λ i j. (g : ℕ) × (Break t i g × AtWidth (Texts t) n g j)) c z → Texts t k i z
  go k e x none = x
  go k e x (more f r) = go k e (texts_join x f.1.0 (f.1.1 k e)) r

-- [173] and [182]
pub record ContentRead (t : List ℕ) (k i j : ℕ) : Type 0 where
  pub at : ℕ
  pub lines : (i ≡ at) ⊎ ((z : ℕ) × (Texts t k i z × SomeEnd t z at))
  pub ending : Ending t k at j

pub literal_content_read : (t : List ℕ) (n : ℤ) (i j : ℕ)
    → (p : ℕ) × (((i ≡ p) ⊎ ((c : ℕ) × (AtWidth (Texts t) n i c × ((d : ℕ) × (Star (AtWidth (NextText t) n) c d × SomeEnd t d p))))) × AtWidth (Ending t) n p j) → AtWidth (ContentRead t) n i j
literal_content_read t n i j d = λ k e. record { at = d.0; lines = go k e d.1.0; ending = d.1.1 k e } where
  go : (k : ℕ) → n ≡ pos k → (i ≡ d.0) ⊎ ((c : ℕ) × (AtWidth (Texts t) n i c × ((f : ℕ) × (Star (AtWidth (NextText t) n) c f × SomeEnd t f d.0)))) → (i ≡ d.0) ⊎ ((z : ℕ) × (Texts t k i z × SomeEnd t z d.0))
  go k e (inl q) = inl q
  go k e (inr c) = inr (c.1.1.0, (texts_more e (c.1.0 k e) c.1.1.1.0, c.1.1.1.1))

pub folded_content_read : (t : List ℕ) (n : ℤ) (i j : ℕ)
    → (p : ℕ) × (((i ≡ p) ⊎ ((c : ℕ) × (AtWidth (Texts t) n i c × SomeEnd t c p))) × AtWidth (Ending t) n p j) → AtWidth (ContentRead t) n i j
folded_content_read t n i j d = λ k e. record { at = d.0; lines = go k e d.1.0; ending = d.1.1 k e } where
  go : (k : ℕ) → n ≡ pos k → (i ≡ d.0) ⊎ ((c : ℕ) × (AtWidth (Texts t) n i c × SomeEnd t c d.0)) → (i ≡ d.0) ⊎ ((z : ℕ) × (Texts t k i z × SomeEnd t z d.0))
  go k e (inl q) = inl q
  go k e (inr c) = inr (c.0, (c.1.0 k e, c.1.1))
