-- The comments of block scalars (8.1): the one after the header, and those after the lines.
use Rattle.std.proofs.Common.{◌≡◌, ℕ, ℤ, pos, List, [], ◌++◌, refl, sym, ap, ◌∙◌, subst, append-nil, ◌⊎◌, inl, inr, arith}
use Rattle.std.proofs.lemmas.Int.{ints}
use Rattle.yf_chars.specs.declared.context.Ctx.TheVariants.{BlockIn}
use Rattle.yf_chars.specs.Chain.{Chain, Stuck}
use Rattle.yf_chars.specs.Chain.Chain.{done, step}
use Rattle.yf_lines.specs.Basic.{Break, IndentLess, Empty}
use Rattle.yf_lines.specs.Basic.IndentLess.{fewer}
use Rattle.yf_comments.specs.Comment.{CommentValue}
use Rattle.yf_comments.specs.Comments.{CommentText, BreakOrEnd, LineRest, CommentLine}
use Rattle.yf_block_scalar.specs.Header.{Indicators}
use Rattle.yf_block_scalar.specs.Body.{Line}
use Rattle.yf_standard.specs.Notation.{Chomping, Indicator}
use Rattle.yf_standard.specs.Rules.{NoLine, NoTrail, NoCommentLine}
use Rattle.yf_standard.specs.Tokens.{Token, notes}
use Rattle.yf_standard.proofs.Meant.{Then, Either, Perhaps, Here}
use Rattle.yf_standard.proofs.Meant.Then.{both}
use Rattle.yf_standard.proofs.Meant.Either.{left, right}
use Rattle.yf_standard.proofs.Meant.Perhaps.{missing, given}
use Rattle.yf_standard.proofs.Meant.Here.{here}
use Rattle.yf_standard.proofs.Reading.{Star}
use Rattle.yf_standard.proofs.Reading.Star.{none, more}
use Rattle.yf_standard.proofs.Basics.{SomeOf}
use Rattle.yf_standard.proofs.BasicsMeant.{Quiet}
use Rattle.yf_standard.proofs.BasicsMeant.Puts.{puts}
use Rattle.yf_standard.proofs.CommentsMeant.{Noted, notes_append, lines_noted}
use Rattle.yf_standard.proofs.CommentsMeant.Noted.{noted}
use Rattle.yf_standard.proofs.Texts.{Texts}
use Rattle.yf_standard.proofs.ScalarsRead.{AtWidth, UpTo, digit_of, chomp_of, IndicatorRead, ChompingRead, indicators_read, SomeEnd, TrailComments, Ending, trail_values, Bares, bares_up_to, bares_empty, NextText, texts_more, ContentRead}

-- [162]
pub record HeaderNoted (t : List ℕ) (m : Indicator) (c : Chomping) (i j : ℕ) (y : List Token) : Type 0 where
  pub at : ℕ
  pub indicators : Indicators t i at (digit_of m) (chomp_of c)
  pub value : List CommentValue
  pub rest : LineRest t at j value
  pub tokens : y ≡ notes value

pub header_noted : {t : List ℕ} {m : Indicator} {c : Chomping} {i j : ℕ} {y : List Token}
    → Then (Either (Then (Quiet (IndicatorRead t m)) (Quiet (ChompingRead t c))) (Then (Quiet (ChompingRead t c)) (Quiet (IndicatorRead t m)))) (Noted (LineRest t)) i j y
    → HeaderNoted t m c i j y
header_noted {t} {m} {c} {i} (both {k = h} (left (both {k = g} (puts a) (puts b))) (noted {x = w} r)) =
    record { at = h; indicators = indicators_read t m c i h (inl (g, (a, b))); value = w; rest = r; tokens = refl }
header_noted {t} {m} {c} {i} (both {k = h} (right (both {k = g} (puts a) (puts b))) (noted {x = w} r)) =
    record { at = h; indicators = indicators_read t m c i h (inr (g, (a, b))); value = w; rest = r; tokens = refl }

-- [169]
pub record TrailNoted (t : List ℕ) (k i j : ℕ) (y : List Token) : Type 0 where
  pub trail : TrailComments t k i j
  pub tokens : y ≡ notes (trail.hash.text ++ trail.further.0)

pub trail_noted : {t : List ℕ} {n : ℤ} {i j : ℕ} {y : List Token}
    → Then (Quiet (IndentLess t n)) (Then (Noted (CommentText t)) (Then (Quiet (BreakOrEnd t)) (Then (Chain (Noted (CommentLine t))) (Here (NoCommentLine t))))) i j y
    → (k : ℕ) → n ≡ pos k → TrailNoted t k i j y
trail_noted {t} {n} {i} {j} (both (puts l) (both {k = b} (noted {x = x} c) (both {k = g} (puts e) (both r (here a))))) k same = go l c (lines_noted r) where
  go : {p : ℕ} {y : List Token} → IndentLess t n i p → CommentText t p b x → Noted (Chain (CommentLine t)) g j y → TrailNoted t k i j (notes x ++ (y ++ []))
  go (fewer m l s) c (noted {x = w} r) = record {
    trail = record { spaces = m; few = omega (arith, ints, same, l); before = s; at = g; hash = record { end = b; text = x; comment = c; ends = e }; further = (w, r); all = a };
    tokens = ap (λ z. notes x ++ z) (append-nil (notes w)) ∙ sym (notes_append x w);
  }

-- parts without tokens, in sequence
star_quiet : {R : ℕ → ℕ → Type 0} {P : ℕ → ℕ → List Token → Type 0} {i j : ℕ} {y : List Token} → ((i j : ℕ) (y : List Token) → P i j y → R i j × (y ≡ [])) → Chain P i j y
    → Star R i j × (y ≡ [])
star_quiet f done = (none, refl)
star_quiet f (step {i = i} {h = h} {x = x} {y = y} p c) = let a = f i h x p in let b = star_quiet f c in (more a.0 b.0, ap (λ z. z ++ y) a.1 ∙ b.1)

one_quiet : {R : ℕ → ℕ → Type 0} (i j : ℕ) (y : List Token) → Quiet R i j y → R i j × (y ≡ [])
one_quiet i j _ (puts d) = (d, refl)

two_quiet : {R S : ℕ → ℕ → Type 0} (i j : ℕ) (y : List Token) → Then (Quiet R) (Quiet S) i j y → ((h : ℕ) × (R i h × S h j)) × (y ≡ [])
two_quiet i j _ (both {k = h} (puts a) (puts b)) = ((h, (a, b)), refl)

-- [166] to [168]
pub record EndNoted (t : List ℕ) (k i j : ℕ) (y : List Token) : Type 0 where
  pub ending : Ending t k i j
  pub tokens : y ≡ notes (trail_values ending.trail)

record ClosedBy (t : List ℕ) (k i j : ℕ) (y : List Token) : Type 0 where
  pub most : Stuck (Line t k i)
  pub trail : TrailComments t k i j ⊎ (NoTrail t (pos k) i × (i ≡ j))
  pub tokens : y ≡ notes (trail_values trail)

abbrev pub Closes : List ℕ → ℤ → ℕ → ℕ → List Token → Type 0
Closes t n = Then (Here (NoLine t n)) (Either (λ i j y. (k : ℕ) → n ≡ pos k → TrailNoted t k i j y) (Here (NoTrail t n)))

closes : {t : List ℕ} {n : ℤ} {k i j : ℕ} {y : List Token} → n ≡ pos k → Closes t n i j y → ClosedBy t k i j y
closes {k = k} e (both (here l) (left f)) = let d = f k e in record { most = l.none k e; trail = inl d.trail; tokens = d.tokens }
closes {t} {k = k} {i = i} e (both (here l) (right (here a))) = record { most = l.none k e; trail = inr (subst (λ z. NoTrail t z i) e a, refl); tokens = refl }

ended : {t : List ℕ} {k i p j : ℕ} {y z : List Token} → Bares t k i p → y ≡ [] → ClosedBy t k p j z → EndNoted t k i j (y ++ z)
ended {p = p} {z = z} b q c = record {
  ending = record { at = p; widths = b.widths; bares = b.bares; within = b.within; most = c.most; trail = c.trail };
  tokens = ap (λ v. v ++ z) q ∙ c.tokens;
}

pub strip_noted : {t : List ℕ} {n : ℤ} {i j : ℕ} {y : List Token} → Then (Chain (Then (Quiet (UpTo t n)) (Quiet (Break t)))) (Closes t n) i j y → (k : ℕ) → n ≡ pos k → EndNoted t k i j y
strip_noted {t} {n} {i} (both {k = p} r c) k e = let b = star_quiet (two_quiet {R = UpTo t n} {S = Break t}) r in ended (bares_up_to t n k i p e b.0) b.1 (closes e c)

pub keep_noted : {t : List ℕ} {n : ℤ} {i j : ℕ} {y : List Token} → Then (Chain (Quiet (SomeOf (Empty t n BlockIn)))) (Closes t n) i j y → (k : ℕ) → n ≡ pos k → EndNoted t k i j y
keep_noted {t} {n} {i} (both {k = p} r c) k e = let b = star_quiet (one_quiet {R = SomeOf (Empty t n BlockIn)}) r in ended (bares_empty t n k i p e b.0) b.1 (closes e c)

-- [173] and [182]
pub record ContentNoted (t : List ℕ) (k i j : ℕ) (y : List Token) : Type 0 where
  pub content : ContentRead t k i j
  pub tokens : y ≡ notes (trail_values content.ending.trail)

pub literal_noted : {t : List ℕ} {n : ℤ} {i j : ℕ} {y : List Token}
    → Then (Perhaps (Then (Quiet (AtWidth (Texts t) n)) (Then (Chain (Quiet (AtWidth (NextText t) n))) (Quiet (SomeEnd t))))) (λ i j y. (k : ℕ) → n ≡ pos k → EndNoted t k i j y) i j y
    → (k : ℕ) → n ≡ pos k → ContentNoted t k i j y
literal_noted (both {k = p} missing r) k e = let d = r k e in record { content = record { at = p; lines = inl refl; ending = d.ending }; tokens = d.tokens }
literal_noted {t} {n} (both {k = p} {y = z} (given (both (puts a) (both {k = c} b (puts o)))) r) k e =
    let d = r k e in
    let s = star_quiet (one_quiet {R = AtWidth (NextText t) n}) b in
    record { content = record { at = p; lines = inr (c, (texts_more e (a k e) s.0, o)); ending = d.ending }; tokens = ap (λ v. (v ++ []) ++ z) s.1 ∙ d.tokens }

pub folded_noted : {t : List ℕ} {n : ℤ} {i j : ℕ} {y : List Token}
    → Then (Perhaps (Then (Quiet (AtWidth (Texts t) n)) (Quiet (SomeEnd t)))) (λ i j y. (k : ℕ) → n ≡ pos k → EndNoted t k i j y) i j y → (k : ℕ) → n ≡ pos k → ContentNoted t k i j y
folded_noted (both {k = p} missing r) k e = let d = r k e in record { content = record { at = p; lines = inl refl; ending = d.ending }; tokens = d.tokens }
folded_noted (both {k = p} (given (both {k = c} (puts a) (puts o))) r) k e =
    let d = r k e in record { content = record { at = p; lines = inr (c, (a k e, o)); ending = d.ending }; tokens = d.tokens }
