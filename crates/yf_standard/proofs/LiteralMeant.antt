-- Literal scalars (8.1.2) add the content of their lines to content.
use Rattle.std.proofs.Common.{◌≡◌, ℕ, ◌+◌, ◌<◌, ◌≤◌, ℤ, pos, List, [], ◌∷◌, ◌++◌, slice_range, refl, sym, ap, ◌∙◌, subst, append_assoc, append-nil, arith}
use Rattle.std.proofs.lemmas.Str.{encode_ascii, encodes-append}
use lib.Utf8.{encodes}
use Rattle.std.specs.Str.{IsUtf8}
use Rattle.yf_chars.specs.declared.context.Ctx.TheVariants.{BlockIn}
use Rattle.yf_chars.specs.Class.{is_nb_char}
use Rattle.yf_chars.specs.Chain.{Chain, Many}
use Rattle.yf_chars.specs.Chain.Chain.{done, step}
use Rattle.yf_lines.specs.Basic.{Break, Spaces, Indent, Empty}
use Rattle.yf_block_scalar.specs.Content.{literal, literal_after}
use Rattle.yf_standard.specs.Characters.{nb-char}
use Rattle.yf_standard.specs.Contents.{Mark, marks, one_char}
use Rattle.yf_standard.specs.Contents.Mark.{char}
use Rattle.yf_standard.proofs.Meant.{Then, Several, Character}
use Rattle.yf_standard.proofs.Meant.Then.{both}
use Rattle.yf_standard.proofs.Meant.Several.{several}
use Rattle.yf_standard.proofs.Meant.Character.{character}
use Rattle.yf_standard.proofs.BasicsMeant.{Puts, Quiet, Spells, marks_append, many_spells, same_spells, nothing_after}
use Rattle.yf_standard.proofs.BasicsMeant.Puts.{puts}
use Rattle.yf_standard.proofs.BasicsMeant.Spells.{spelled}
use Rattle.yf_standard.proofs.BlockLines.{TextLines, Some, blank_lines, lines_join, lines_some, many_bytes}
use Rattle.yf_standard.proofs.BlockLines.TextLines.{last_line}
use Rattle.yf_standard.proofs.BlockLines.Some.{some}
use Rattle.yf_standard.proofs.Sets.{nb_char_is}
use Rattle.yf_standard.proofs.ScalarsRead.{spaces_of}
use Rattle.yf_standard.proofs.Texts.{one_feed}
use Rattle.yf_chars.proofs.TextLemmas.{next_later}

-- lines with what they add
pub record LiteralText (t : List ℕ) (k i j : ℕ) (y : List Mark) : Type 0 where
  pub lines : List (List ℕ)
  pub text : List ℕ
  pub are : TextLines t k i j lines
  pub added : y ≡ marks text
  pub bytes : encodes text ≡ literal lines

pub feed_bytes : (w : List ℕ) → encodes (10 ∷ w) ≡ 10 ∷ encodes w
feed_bytes w = ap (λ z. z ++ encodes w) (encode_ascii 10 (omega arith))

literal_first : {ls : List (List ℕ)} → Some ls → literal_after ls ≡ 10 ∷ literal ls
literal_first (some x xs) = refl

-- empty lines before a line
blank_literal : {t : List ℕ} {k i j : ℕ} {w : List ℕ} (x : List ℕ) → Chain (Empty t (pos k) BlockIn) i j w → literal (blank_lines w ++ x ∷ []) ≡ encodes w ++ x
blank_literal x done = append-nil x
blank_literal {t} {k} x (step {x = c} {y = w} e r) = more c w (one_feed e) (blank_literal x r) where
  first : (w : List ℕ) → literal_after (blank_lines w ++ x ∷ []) ≡ 10 ∷ literal (blank_lines w ++ x ∷ [])
  first [] = refl
  first (c ∷ w) = refl

  more : (c w : List ℕ) → c ≡ 10 ∷ [] → literal (blank_lines w ++ x ∷ []) ≡ encodes w ++ x → literal (blank_lines (c ++ w) ++ x ∷ []) ≡ encodes (c ++ w) ++ x
  more c w q d = subst (λ z. literal (blank_lines (z ++ w) ++ x ∷ []) ≡ encodes (z ++ w) ++ x) (sym q)
      (first w ∙ ap (λ z. 10 ∷ z) d ∙ sym (ap (λ z. z ++ x) (feed_bytes w)))

pub chars_forward : {t : List ℕ} {g j : ℕ} {v : List Mark} → Chain (Character t one_char nb-char) g j v → g ≤ j
chars_forward done = omega arith
chars_forward {t} (step (character {i = h} w) r) = let f = next_later t h in let m = chars_forward r in omega (arith, f, m)

-- [171]
pub literal_text_means : {t : List ℕ} {n : ℤ} {i j : ℕ} {y : List Mark} → IsUtf8 t
    → Then (Chain (Spells (Empty t n BlockIn))) (Then (Quiet (Indent t n)) (Several (Character t one_char nb-char))) i j y → (k : ℕ) → n ≡ pos k → LiteralText t k i j y
literal_text_means {t} {n} {i} {j} utf (both {x = x} e (both (puts q) (several {k = g} c r))) k same =
    go (same_spells e) (spaces_of k same q) (many_spells {t = t} {s = nb-char} {p = is_nb_char} nb_char_is (step c r)) (later c r)
  where
    later : {b g j : ℕ} {u v : List Mark} → Character t one_char nb-char b g u → Chain (Character t one_char nb-char) g j v → b < j
    later {b} (character w) r = let f = next_later t b in let m = chars_forward r in omega (arith, f, m)

    go : {a b : ℕ} {x u : List Mark} → Spells (Chain (Empty t n BlockIn)) i a x → Spaces t a k × (a + k ≡ b) → Spells (Many t is_nb_char) b j u → b < j → LiteralText t k i j (x ++ ([] ++ u))
    go {a} (spelled {x = w} d) s (spelled {x = u} m) l =
        let d2 : Chain (Empty t (pos k) BlockIn) i a w = subst (λ z. Chain (Empty t z BlockIn) i a w) same d in
        let m2 : Many t is_nb_char (a + k) j u = subst (λ z. Many t is_nb_char z j u) (sym s.1) m in
        record {
          lines = blank_lines w ++ slice_range t (a + k) j ∷ [];
          text = w ++ u;
          are = last_line d2 s.0 m2 (omega (arith, s.1, l));
          added = sym (marks_append w u);
          bytes = encodes-append w u ∙ ap (λ z. encodes w ++ z) (sym (many_bytes utf m2)) ∙ sym (blank_literal (slice_range t (a + k) j) d2);
        }

-- [172]
pub record NextLiteral (t : List ℕ) (k i j : ℕ) (y : List Mark) : Type 0 where
  pub at : ℕ
  pub ends : Break t i at
  pub text : List Mark
  pub rest : LiteralText t k at j text
  pub added : y ≡ char 10 ∷ text

pub next_literal_means : {t : List ℕ} {n : ℤ} {i j : ℕ} {y : List Mark} → Then (Puts (char 10 ∷ []) (Break t)) (λ i j y. (k : ℕ) → n ≡ pos k → LiteralText t k i j y) i j y
    → (k : ℕ) → n ≡ pos k → NextLiteral t k i j y
next_literal_means (both {k = h} {y = y} (puts b) r) k same = record { at = h; ends = b; text = y; rest = r k same; added = refl }

literal_join : (x : List ℕ) (xs : List (List ℕ)) {ms : List (List ℕ)} → Some ms → literal ((x ∷ xs) ++ ms) ≡ literal (x ∷ xs) ++ 10 ∷ literal ms
literal_join x xs {ms} m = ap (λ z. x ++ z) (after xs) ∙ sym (append_assoc x (literal_after xs) (10 ∷ literal ms)) where
  after : (xs : List (List ℕ)) → literal_after (xs ++ ms) ≡ literal_after xs ++ 10 ∷ literal ms
  after [] = literal_first m
  after (y ∷ ys) = ap (λ z. 10 ∷ z) (ap (λ z. y ++ z) (after ys) ∙ sym (append_assoc y (literal_after ys) (10 ∷ literal ms)))

text_join : {t : List ℕ} {k i h j : ℕ} {y z : List Mark} → LiteralText t k i h y → NextLiteral t k h j z → LiteralText t k i j (y ++ z)
text_join {t} {k} {i} {h} {j} {y} {z} a b = record {
  lines = a.lines ++ b.rest.lines;
  text = a.text ++ 10 ∷ b.rest.text;
  are = lines_join a.are b.ends b.rest.are;
  added = ap (λ w. w ++ z) a.added ∙ ap (λ w. marks a.text ++ w) (b.added ∙ ap (λ w. char 10 ∷ w) b.rest.added) ∙ sym (marks_append a.text (10 ∷ b.rest.text));
  bytes = encodes-append a.text (10 ∷ b.rest.text) ∙ ap (λ w. encodes a.text ++ w) (feed_bytes b.rest.text ∙ ap (λ w. 10 ∷ w) b.rest.bytes) ∙ ap (λ w. w ++ 10 ∷ literal b.rest.lines) a.bytes
      ∙ sym (joined (lines_some a.are) (lines_some b.rest.are));
} where
  joined : {ls ms : List (List ℕ)} → Some ls → Some ms → literal (ls ++ ms) ≡ literal ls ++ 10 ∷ literal ms
  joined (some x xs) m = literal_join x xs m

pub texts_join : {t : List ℕ} {n : ℤ} {k i h j : ℕ} {y z : List Mark} → n ≡ pos k → LiteralText t k i h y → Chain (λ i j y. (k : ℕ) → n ≡ pos k → NextLiteral t k i j y) h j z → LiteralText t k i j (y ++ z)
texts_join {t} {k = k} {i = i} {j = j} {y = y} e a done = subst (λ z. LiteralText t k i j z) (sym (nothing_after y)) a
texts_join {t} {k = k} {i = i} {j = j} {y = y} e a (step {x = x} {y = z} b r) = subst (λ z. LiteralText t k i j z) (append_assoc y x z) (texts_join e (text_join a (b k e)) r)
