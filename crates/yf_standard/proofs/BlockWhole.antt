-- All of a block scalar's content (8.1.2 and 8.1.3): its lines, as they are taken, and their meaning.
use Rattle.std.proofs.Common.{◌≡◌, ℕ, zero, suc, ◌+◌, ◌<◌, ◌≤◌, ℤ, pos, Bool, true, false, true≢false, if◌then◌else◌, List, [], ◌∷◌, ◌++◌, length, None, refl, sym, ap, ◌∙◌, append_assoc, ⊎_elim, arith, add-one}
use Rattle.std.proofs.lemmas.Str.{encodes-append}
use lib.Utf8.{encodes}
use Rattle.yf_chars.specs.Text.{code, no_char}
use Rattle.yf_chars.specs.Chain.{Chain}
use Rattle.yf_chars.specs.Chain.Chain.{done, step}
use Rattle.yf_lines.specs.Basic.{LineStart, Clear}
use Rattle.yf_block_scalar.specs.Body.{EmptyLines, Ends}
use Rattle.yf_block_scalar.specs.Body.EmptyLines.{bare}
use Rattle.yf_block_scalar.specs.Body.Ends.{by_break, by_text}
use Rattle.yf_block_scalar.specs.Body.Lines.{no_content}
use Rattle.yf_block_scalar.specs.Content.{literal, folded, feeds, ending, lone_tail, content_of}
use Rattle.yf_standard.specs.Notation.{Chomping}
use Rattle.yf_standard.specs.Notation.Chomping.{STRIP, CLIP, KEEP}
use Rattle.yf_standard.specs.Contents.{Mark, marks}
use Rattle.yf_standard.specs.ContentLaws.{chomp_of, BlockContent}
use Rattle.yf_standard.proofs.Meant.{Then, Perhaps}
use Rattle.yf_standard.proofs.Meant.Then.{both}
use Rattle.yf_standard.proofs.Meant.Perhaps.{missing, given}
use Rattle.yf_standard.proofs.BasicsMeant.{marks_append}
use Rattle.yf_standard.proofs.BlockLines.{TextLines, Some, lines_some, lines_taken}
use Rattle.yf_standard.proofs.BlockLines.Some.{some}
use Rattle.yf_standard.proofs.FoldedMeant.{Groups}
use Rattle.yf_standard.proofs.LiteralMeant.{LiteralText, NextLiteral, texts_join, feed_bytes}
use Rattle.yf_standard.proofs.ScalarContents.{LastMeans, TailMeans, last_marks, tail_marks}
use Rattle.yf_chars.proofs.TextLemmas.{code-past}
use Rattle.yf_lines.proofs.BasicLemmas.{break_char, break_forward}

-- lines with what they add in one of the styles: folded if f is true
pub record LinesMean (t : List ℕ) (f : Bool) (k i j : ℕ) (y : List Mark) : Type 0 where
  pub lines : List (List ℕ)
  pub text : List ℕ
  pub are : TextLines t k i j lines
  pub added : y ≡ marks text
  pub bytes : encodes text ≡ (if f then folded lines else literal lines)

pub literal_mean : {t : List ℕ} {k i j : ℕ} {y : List Mark} → LiteralText t k i j y → LinesMean t false k i j y
literal_mean a = record { lines = a.lines; text = a.text; are = a.are; added = a.added; bytes = a.bytes }

-- [173] and [182]; A is the relation of the lines
pub data BlockRead (t : List ℕ) (A : ℕ → ℕ → List Mark → Type 0) (c : Chomping) (k i j : ℕ) (y : List Mark) : Type 0 where
  no_lines : TailMeans t c k i j y → BlockRead t A c k i j y
  some_lines : {z h : ℕ} {u v w : List Mark} → A i z u → LastMeans t c z h v → TailMeans t c k h j w → u ++ (v ++ w) ≡ y → BlockRead t A c k i j y

pub literal_content_means : {t : List ℕ} {n : ℤ} {c : Chomping} {i j : ℕ} {y : List Mark}
    → Then (Perhaps (Then (λ i j y. (k : ℕ) → n ≡ pos k → LiteralText t k i j y) (Then (Chain (λ i j y. (k : ℕ) → n ≡ pos k → NextLiteral t k i j y)) (LastMeans t c))))
    (λ i j y. (k : ℕ) → n ≡ pos k → TailMeans t c k i j y) i j y → (k : ℕ) → n ≡ pos k → BlockRead t (LiteralText t k) c k i j y
literal_content_means (both missing r) k e = no_lines (r k e)
literal_content_means (both {y = w} (given (both {x = x} a (both {x = y} {y = v} b l))) r) k e =
    some_lines (texts_join e (a k e) b) l (r k e) (append_assoc x y (v ++ w) ∙ sym (append_assoc x (y ++ v) w ∙ ap (λ z. x ++ z) (append_assoc y v w)))

pub folded_content_means : {t : List ℕ} {n : ℤ} {c : Chomping} {i j : ℕ} {y : List Mark}
    → Then (Perhaps (Then (λ i j y. (k : ℕ) → n ≡ pos k → Groups t k i j y) (LastMeans t c))) (λ i j y. (k : ℕ) → n ≡ pos k → TailMeans t c k i j y) i j y
    → (k : ℕ) → n ≡ pos k → BlockRead t (Groups t k) c k i j y
folded_content_means (both missing r) k e = no_lines (r k e)
folded_content_means (both {y = w} (given (both {x = x} {y = v} a l)) r) k e = some_lines (a k e) l (r k e) (sym (append_assoc x v w))

-- the marks of the end, as a text
last_text : Chomping → Bool → List ℕ
last_text STRIP o = []
last_text CLIP true = []
last_text CLIP false = 10 ∷ []
last_text KEEP true = []
last_text KEEP false = 10 ∷ []

tail_text : Chomping → ℕ → List ℕ
tail_text STRIP count = []
tail_text CLIP count = []
tail_text KEEP count = feeds count

last_is : (c : Chomping) (o : Bool) → last_marks c o ≡ marks (last_text c o)
unfolding last_text
last_is STRIP o = refl
last_is CLIP true = refl
last_is CLIP false = refl
last_is KEEP true = refl
last_is KEEP false = refl

tail_is : (c : Chomping) (n : ℕ) → tail_marks c n ≡ marks (tail_text c n)
unfolding tail_text
tail_is STRIP n = refl
tail_is CLIP n = refl
tail_is KEEP n = refl

pub feeds_bytes : (n : ℕ) → encodes (feeds n) ≡ feeds n
feeds_bytes zero = refl
feeds_bytes (suc n) = feed_bytes (feeds n) ∙ ap (λ z. 10 ∷ z) (feeds_bytes n)

lone_bytes : (c : Chomping) (n : ℕ) → encodes (tail_text c n) ≡ lone_tail (chomp_of c) n
unfolding tail_text
lone_bytes STRIP n = refl
lone_bytes CLIP n = refl
lone_bytes KEEP n = feeds_bytes n

-- no empty line is after the end of the text
open_bare : {t : List ℕ} {z h p : ℕ} {o : Bool} {ws : List ℕ} → Ends t z h o → Chain (EmptyLines t) h p ws → o ≡ true → length ws ≡ 0
open_bare d done e = refl
open_bare (by_break b) (step s r) e = absurd (true≢false (sym e))
open_bare {t} (by_text q) (step (bare {i = i} m s) r) e =
    let a : code t (i + m) ≡ no_char = code-past t (i + m) (omega (arith, q)) in
    ⊎_elim (λ h. absurd (omega arith)) (λ h. absurd (omega arith)) (break_char s.ends)

end_bytes : (c : Chomping) (o : Bool) (n : ℕ) → (o ≡ true → n ≡ 0) → encodes (last_text c o ++ tail_text c n) ≡ (if o then [] else ending (chomp_of c) n)
unfolding last_text tail_text
end_bytes STRIP true n f = refl
end_bytes STRIP false n f = refl
end_bytes CLIP true n f = refl
end_bytes CLIP false n f = feed_bytes []
end_bytes KEEP true n f = ap (λ z. encodes (feeds z)) (f refl)
end_bytes KEEP false n f = feed_bytes (feeds n) ∙ ap (λ z. 10 ∷ z) (feeds_bytes n) ∙ sym (ap feeds (add-one n))

-- lines with their end, as a whole content
whole_of : (f : Bool) (c : Chomping) (n : ℕ) (o : Bool) {ls : List (List ℕ)} → Some ls
    → content_of (record { folded = f; digit = None; chomp = chomp_of c }) ls n o ≡ (if f then folded ls else literal ls) ++ (if o then [] else ending (chomp_of c) n)
whole_of f c n o (some x xs) = refl

bares_order : {t : List ℕ} {i j : ℕ} {w : List ℕ} → Chain (EmptyLines t) i j w → i ≤ j
bares_order done = omega arith
bares_order (step (bare m s) r) = let a = break_forward s.ends in let b = bares_order r in omega (arith, a, b)

ends_order : {t : List ℕ} {i j : ℕ} {o : Bool} → Ends t i j o → i ≤ j
ends_order (by_break b) = let a = break_forward b in omega (arith, a)
ends_order (by_text e) = omega arith

pub block_whole : {t : List ℕ} {f : Bool} {A : ℕ → ℕ → List Mark → Type 0} {c : Chomping} {k i j : ℕ} {y : List Mark}
    → ((z h : ℕ) (o : Bool) (u : List Mark) → A i z u → z ≤ j → Ends t z h o → LinesMean t f k i z u)
    → Clear t i j → (i < length t → LineStart t i) → BlockRead t A c k i j y → BlockContent t f c k i y
block_whole {c = c} {i = i} g w s (no_lines m) = record {
  lines = [];
  left_open = false;
  tail = length m.widths;
  end = m.at;
  taken = record { end = i; lines = no_content; tail = record { widths = m.widths; lines = m.bares; within = m.within; counts = refl }; most = m.most };
  text = tail_text c (length m.widths);
  added = m.added ∙ tail_is c (length m.widths);
  bytes = lone_bytes c (length m.widths);
}
block_whole {t} {f} {c = c} {k = k} {i = i} {j = j} {y = x} g w s (some_lines {z = z} {h = h} {u = u} {v = p} {w = q} b l m e) = go (g z h l.left_open u b within l.ends) where
  within : z ≤ j
  within = let a = ends_order l.ends in let d = bares_order m.bares in let o = m.order in omega (arith, a, d, o)

  ends : {v w : List Mark} (o : Bool) (n : ℕ) → v ≡ last_marks c o → w ≡ tail_marks c n → v ++ w ≡ marks (last_text c o) ++ marks (tail_text c n)
  ends {w = w} o n p q = ap (λ z. z ++ w) (p ∙ last_is c o) ∙ ap (λ z. marks (last_text c o) ++ z) (q ∙ tail_is c n)

  go : LinesMean t f k i z u → BlockContent t f c k i x
  go a = record {
    lines = a.lines;
    left_open = l.left_open;
    tail = length m.widths;
    end = m.at;
    taken = lines_taken w s (omega arith) a.are within l.ends m.bares m.within m.most;
    text = a.text ++ (last_text c l.left_open ++ tail_text c (length m.widths));
    added = sym e ∙ ap (λ z. z ++ (p ++ q)) a.added
        ∙ ap (λ z. marks a.text ++ z) (ends l.left_open (length m.widths) l.added m.added ∙ sym (marks_append (last_text c l.left_open) (tail_text c (length m.widths))))
        ∙ sym (marks_append a.text (last_text c l.left_open ++ tail_text c (length m.widths)));
    bytes = encodes-append a.text (last_text c l.left_open ++ tail_text c (length m.widths))
        ∙ ap (λ z. z ++ encodes (last_text c l.left_open ++ tail_text c (length m.widths))) a.bytes
        ∙ ap (λ z. (if f then folded a.lines else literal a.lines) ++ z) (end_bytes c l.left_open (length m.widths) (open_bare l.ends m.bares))
        ∙ sym (whole_of f c (length m.widths) l.left_open (lines_some a.are));
  }
