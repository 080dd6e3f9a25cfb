-- What the end of a block scalar (8.1.1.2) adds to content, and so all of a literal scalar's content.
use Rattle.std.proofs.Common.{◌≡◌, ℕ, ◌≤◌, ℤ, pos, Bool, true, false, List, [], ◌∷◌, ◌++◌, length, refl, sym, ap, ◌∙◌, subst, append-nil, arith}
use Rattle.std.proofs.lemmas.Int.{ints}
use Rattle.yf_chars.specs.declared.context.Ctx.TheVariants.{BlockIn}
use Rattle.yf_chars.specs.Chain.{Chain, Stuck}
use Rattle.yf_chars.specs.Chain.Chain.{done, step}
use Rattle.yf_lines.specs.Basic.{Break, Empty}
use Rattle.yf_block_scalar.specs.Body.{SpaceLine, EmptyLines, largest, Ends, Line}
use Rattle.yf_block_scalar.specs.Body.EmptyLines.{bare}
use Rattle.yf_block_scalar.specs.Body.Ends.{by_break, by_text}
use Rattle.yf_block_scalar.specs.Content.{feeds}
use Rattle.yf_standard.specs.Notation.{Chomping}
use Rattle.yf_standard.specs.Notation.Chomping.{STRIP, CLIP, KEEP}
use Rattle.yf_standard.specs.Rules.{NoLine, NoTrail}
use Rattle.yf_standard.specs.Contents.{Mark, marks}
use Rattle.yf_standard.specs.Contents.Mark.{char}
use Rattle.yf_standard.proofs.Meant.{Then, Either, Here}
use Rattle.yf_standard.proofs.Meant.Then.{both}
use Rattle.yf_standard.proofs.Meant.Either.{left, right}
use Rattle.yf_standard.proofs.Meant.Here.{here}
use Rattle.yf_standard.proofs.BasicsMeant.{Puts, Quiet, Spells, same_spells}
use Rattle.yf_standard.proofs.BasicsMeant.Puts.{puts}
use Rattle.yf_standard.proofs.BasicsMeant.Spells.{spelled}
use Rattle.yf_standard.proofs.Texts.{empty_line_read, one_feed}
use Rattle.yf_standard.proofs.ScalarsRead.{UpTo}

-- [165]
abbrev pub last_marks : Chomping → Bool → List Mark
last_marks STRIP o = []
last_marks CLIP true = []
last_marks CLIP false = char 10 ∷ []
last_marks KEEP true = []
last_marks KEEP false = char 10 ∷ []

pub record LastMeans (t : List ℕ) (c : Chomping) (i j : ℕ) (y : List Mark) : Type 0 where
  pub left_open : Bool
  pub ends : Ends t i j left_open
  pub added : y ≡ last_marks c left_open

pub strip_last : {t : List ℕ} {i j : ℕ} {y : List Mark} → Either (Quiet (Break t)) (Here (λ i. i ≡ length t)) i j y → LastMeans t STRIP i j y
strip_last (left (puts b)) = record { left_open = false; ends = by_break b; added = refl }
strip_last (right (here e)) = record { left_open = true; ends = by_text e; added = refl }

pub clip_last : {t : List ℕ} {i j : ℕ} {y : List Mark} → Either (Puts (char 10 ∷ []) (Break t)) (Here (λ i. i ≡ length t)) i j y → LastMeans t CLIP i j y
clip_last (left (puts b)) = record { left_open = false; ends = by_break b; added = refl }
clip_last (right (here e)) = record { left_open = true; ends = by_text e; added = refl }

pub keep_last : {t : List ℕ} {i j : ℕ} {y : List Mark} → Either (Puts (char 10 ∷ []) (Break t)) (Here (λ i. i ≡ length t)) i j y → LastMeans t KEEP i j y
keep_last (left (puts b)) = record { left_open = false; ends = by_break b; added = refl }
keep_last (right (here e)) = record { left_open = true; ends = by_text e; added = refl }

-- [166] to [168]: the empty lines after the last one with content
abbrev pub tail_marks : Chomping → ℕ → List Mark
tail_marks STRIP count = []
tail_marks CLIP count = []
tail_marks KEEP count = marks (feeds count)

pub record TailMeans (t : List ℕ) (c : Chomping) (k i j : ℕ) (y : List Mark) : Type 0 where
  pub at : ℕ
  pub widths : List ℕ
  pub bares : Chain (EmptyLines t) i at widths
  pub within : largest widths ≤ k
  pub most : Stuck (Line t k at)
  pub order : at ≤ j
  pub added : y ≡ tail_marks c (length widths)

record Bares (t : List ℕ) (k i j : ℕ) (y : List Mark) (w : List ℕ → List Mark) : Type 0 where
  pub widths : List ℕ
  pub bares : Chain (EmptyLines t) i j widths
  pub within : largest widths ≤ k
  pub added : y ≡ w widths

strip_bares : {t : List ℕ} {n : ℤ} (k : ℕ) {i j : ℕ} {y : List Mark} → n ≡ pos k → Chain (Then (Quiet (UpTo t n)) (Quiet (Break t))) i j y → Bares t k i j y (λ w. [])
strip_bares k e done = record { widths = []; bares = done; within = omega arith; added = refl }
strip_bares {t} {n} k e (step {h = h} (both (puts u) (puts b)) r) =
    let s = strip_bares k e r in
    let l : u.0 ≤ k = omega (arith, ints, e, u.1.1.0) in
    let a = s.within in record {
      widths = u.0 ∷ s.widths;
      bares = step (bare u.0 (record { spaces = u.1.0; ends = subst (λ z. Break t z h) (sym u.1.1.1) b })) s.bares;
      within = omega (arith, l, a);
      added = s.added;
    }

keep_bares : {t : List ℕ} (k : ℕ) {i j : ℕ} {w : List ℕ} → Chain (Empty t (pos k) BlockIn) i j w → Bares t k i j (marks w) (λ w. marks (feeds (length w)))
keep_bares k done = record { widths = []; bares = done; within = omega arith; added = refl }
keep_bares {t} k (step {i = i} {h = h} {x = x} {y = w} e r) = add w (empty_line_read t k i h x e) (one_feed e) (keep_bares k r) where
  add : {i h j : ℕ} {x : List ℕ} (w : List ℕ) → ((m : ℕ) × (SpaceLine t i m h × (m ≤ k))) → x ≡ 10 ∷ [] → Bares t k h j (marks w) (λ w. marks (feeds (length w))) → Bares t k i j (marks (x ++ w)) (λ w. marks (feeds (length w)))
  add w m e s = let a = s.within in let l = m.1.1 in record {
    widths = m.0 ∷ s.widths;
    bares = step (bare m.0 m.1.0) s.bares;
    within = omega (arith, l, a);
    added = ap (λ z. marks (z ++ w)) e ∙ ap (λ z. char 10 ∷ z) s.added;
  }

-- comments after it, or none
abbrev pub Silent : ℕ → ℕ → List Mark → Type 0
Silent i j y = (i ≤ j) × (y ≡ [])

silent_end : {t : List ℕ} {n : ℤ} {i j : ℕ} {y : List Mark} → Either Silent (Here (NoTrail t n)) i j y → Silent i j y
silent_end (left s) = s
silent_end (right (here s)) = (omega arith, refl)

abbrev pub AfterLines : List ℕ → ℤ → ℕ → ℕ → List Mark → Type 0
AfterLines t n = Then (Here (NoLine t n)) (Either Silent (Here (NoTrail t n)))

tail_of : {t : List ℕ} {c : Chomping} {k i p j : ℕ} {y z : List Mark} {w : List ℕ → List Mark} → Bares t k i p y w → Stuck (Line t k p) → Silent p j z
    → ((x : List ℕ) → w x ≡ tail_marks c (length x)) → TailMeans t c k i j (y ++ ([] ++ z))
tail_of {t} {c} {k} {i} {p} {j} {y} {z} {w} b n s f = record {
  at = p;
  widths = b.widths;
  bares = b.bares;
  within = b.within;
  most = n;
  order = s.0;
  added = ap (λ v. y ++ v) s.1 ∙ append-nil y ∙ b.added ∙ f b.widths;
}

pub strip_tail : {t : List ℕ} {n : ℤ} {i j : ℕ} {y : List Mark} (c : Chomping) → ((m : ℕ) → [] ≡ tail_marks c m) → Then (Chain (Then (Quiet (UpTo t n)) (Quiet (Break t)))) (AfterLines t n) i j y
    → (k : ℕ) → n ≡ pos k → TailMeans t c k i j y
strip_tail c f (both r (both (here l) s)) k e = tail_of (strip_bares k e r) (l.none k e) (silent_end s) (λ x. f (length x))

pub keep_tail : {t : List ℕ} {n : ℤ} {i j : ℕ} {y : List Mark} → Then (Chain (Spells (Empty t n BlockIn))) (AfterLines t n) i j y → (k : ℕ) → n ≡ pos k → TailMeans t KEEP k i j y
keep_tail {t} {n} {i} {j} (both r (both (here l) s)) k e = go (same_spells r) (silent_end s) (l.none k e) where
  go : {p : ℕ} {y z : List Mark} → Spells (Chain (Empty t n BlockIn)) i p y → Silent p j z → Stuck (Line t k p) → TailMeans t KEEP k i j (y ++ ([] ++ z))
  go {p} (spelled {x = w} r) s m = tail_of (keep_bares k (subst (λ z. Chain (Empty t z BlockIn) i p w) e r)) m s (λ x. refl)
