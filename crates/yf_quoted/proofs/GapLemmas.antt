-- Laws of gaps: the reader finds the only gap after which the scalar can go on.
use Rattle.std.proofs.Common.{◌≡◌, ℕ, zero, suc, ◌+◌, ◌-◌, ◌≤◌, ℤ, pos, Bool, false, List, [], ◌∷◌, ◌++◌, Option, Some, None, IsSome, refl, sym, ap, ◌∙◌, subst, ⊎_elim, arith, append-nil, encode_utf8_all, length, take, drop, eqb}
use lib.Utf8.{encode}
use Rattle.std.proofs.lemmas.Str.{encodes-append}
use Rattle.std.proofs.lemmas.Bool.{ne_eqb, true≢false}
use Rattle.std.specs.Str.{IsUtf8}
use Rattle.yf_chars.specs.Text.{code}
use Rattle.yf_chars.specs.Class.{is_white}
use Rattle.yf_chars.specs.Chain.{Many, Stuck, Nowhere}
use Rattle.yf_chars.proofs.ChainLemmas.{many_unique}
use Rattle.yf_lines.specs.Basic.{Break}
use Rattle.yf_lines.specs.Fold.{FoldsTo, FoldLines, line_feeds, fold_text}
use Rattle.yf_lines.proofs.BasicLemmas.{break_char, break_unique, no_break_here}
use Rattle.yf_chars.proofs.TextLemmas.{reads_byte}
use Rattle.yf_chars.proofs.Tests.{same_value}
use Rattle.yf_lines.proofs.BasicLemmas.{clear_join}
use Rattle.yf_lines.proofs.ClearLemmas.{clear_whites, clear_char, clear_break, not_forbidden, spelled_whites, spelled_slice}
use Rattle.yf_lines.proofs.FoldLemmas.{clear_fold, clear_lines, folds_functional, fold_not_item, lines_unique, break_no_white}
use Rattle.yf_lines.proofs.FoldBytes.{feeds_bytes}
use Rattle.yf_quoted.specs.Quoted.{DoubleBreak, Piece, goods, text_of, bad_escapes}
use Rattle.yf_quoted.specs.Quoted.DoubleBreak.{folded_break, escaped_break}
use Rattle.yf_quoted.specs.Body.{Gap, DoubleBreaks, PlainGap, NoPlainGap, DoubleGap, NoDoubleGap, gap_bytes}
use Rattle.yf_quoted.specs.Body.Gap.{by_whites, by_break}
use Rattle.yf_quoted.specs.Body.PlainGap.{of_whites, of_fold}
use Rattle.yf_quoted.specs.Body.NoPlainGap.{at_break}
use Rattle.yf_quoted.proofs.DoubleLemmas.{Good, good_place, to_fold, goods_append, white_backslash}

-- no escaped break follows the white space
pub record NoEscape (t : List ℕ) (o : Option ℕ) (i : ℕ) : Type 0 where
  pub none : (w h l : ℕ) (x : List ℕ) → o ≡ Some w → Many t is_white i h x → code t h ≡ 92 → Break t (h + 1) l → ⊥

pub no_escape_one_line : {t : List ℕ} {i : ℕ} → NoEscape t None i
no_escape_one_line = record { none = λ w h l x e m q b. cc }

backslash : (t : List ℕ) (m : ℕ) → code t m ≡ 92 → is_white (code t m) ≡ false
backslash t m e = ap is_white e ∙ white_backslash

pub no_escape_at : {t : List ℕ} {o : Option ℕ} {i p : ℕ} {w : List ℕ} → Many t is_white i p w → is_white (code t p) ≡ false
    → (code t p ≡ 92 → (l : ℕ) → Break t (p + 1) l → ⊥) → NoEscape t o i
no_escape_at {t} {p = p} m n e = record {
  none = λ w h l x q v r b.
      let same = many_unique t is_white m n v (backslash t h r) in
      e (ap (code t) same.0 ∙ r) l (subst (λ k. Break t (k + 1) l) (sym same.0) b);
}

-- texts of plain characters
pub text_of_goods : (x : List ℕ) → text_of (goods x) ≡ x
text_of_goods [] = refl
text_of_goods (c ∷ x) = ap (λ w. c ∷ w) (text_of_goods x)

pub no_bad_goods : (x : List ℕ) → bad_escapes (goods x) ≡ []
no_bad_goods [] = refl
no_bad_goods (c ∷ x) = no_bad_goods x

no_slice : (t : List ℕ) (i : ℕ) → take (i - i) (drop i t) ≡ []
no_slice t i = let z : i - i ≡ 0 = omega arith in rw z refl

pub fold_gap_bytes : (t : List ℕ) (i k : ℕ) → gap_bytes t i i (eqb k 0) k ≡ encode_utf8_all (fold_text k)
unfolding encode
fold_gap_bytes t i zero = ap (λ w. w ++ (32 ∷ [])) (no_slice t i)
fold_gap_bytes t i (suc k) =
    rw (ne_eqb (suc k) 0 (λ e. absurd (omega arith))) (ap (λ w. w ++ line_feeds (suc k)) (no_slice t i) ∙ sym (feeds_bytes (suc k)))

-- breaks exist only if a width is given
break_of : {t : List ℕ} (o : Option ℕ) {i k : ℕ} {y : List Piece} → DoubleBreaks t o i k y → (w : ℕ) × (o ≡ Some w) × DoubleBreak t (pos w) i k y
break_of None b = absurd b
break_of (Some w) b = (w, refl, b)

to_breaks : {t : List ℕ} {o : Option ℕ} {i k : ℕ} {y : List Piece} (w : ℕ) → o ≡ Some w → DoubleBreak t (pos w) i k y → DoubleBreaks t o i k y
to_breaks {t} {o} {i} {k} {y} w e b = subst (λ v. DoubleBreaks t v i k y) (sym e) b

pub is_some : {o : Option ℕ} (w : ℕ) → o ≡ Some w → IsSome o
is_some w e = rw e refl

pub none_some : {o : Option ℕ} → o ≡ None → IsSome o → ⊥
none_some e s = true≢false (sym (rw e at s))

-- after white space
whites_no_break : {t : List ℕ} {o : Option ℕ} {i j k w : ℕ} {x : List ℕ} {y : List Piece} → Many t is_white i j x → is_white (code t j) ≡ false
    → Nowhere (Break t j) → NoEscape t o i → o ≡ Some w → DoubleBreak t (pos w) i k y → is_white (code t k) ≡ false → Good t k → ⊥
whites_no_break m n b e s (folded_break f) v g = fold_not_item m b n (to_fold f v g)
whites_no_break {w = w} m n b e s (escaped_break {h = h} {k = l} {x = x} p q r c f) v g = e.none w h l x s p q r

whites_only : {t : List ℕ} {o : Option ℕ} {i j k : ℕ} {x : List ℕ} {y : List Piece} → Many t is_white i j x → is_white (code t j) ≡ false
    → (IsSome o → Nowhere (Break t j)) → NoEscape t o i → Gap t goods (DoubleBreaks t o) i k y → Good t k → (k ≡ j) × (y ≡ goods x)
whites_only {t} m n b e (by_whites v f) g = let same = many_unique t is_white v f m n in (same.0, ap goods same.1)
whites_only {o = o} m n b e (by_break d f) g = let r = break_of o d in absurd (whites_no_break m n (b (is_some r.0 r.1)) e r.1 r.2 f g)

-- after a fold
fold_no_escape : {t : List ℕ} {n : ℤ} {i h j : ℕ} {w x : List ℕ} → FoldsTo t n i j x → Many t is_white i h w → code t h ≡ 92 → ⊥
fold_no_escape {t} {h = h} f m q = fold_not_item m (no_break_here t h (λ e. omega arith) (λ e. omega arith)) (backslash t h q) f

fold_break_only : {t : List ℕ} {w i j k : ℕ} {x : List ℕ} {y : List Piece} → FoldsTo t (pos w) i j x → DoubleBreak t (pos w) i k y → is_white (code t k) ≡ false → Good t k
    → (k ≡ j) × (y ≡ goods x)
fold_break_only {t} {w} f (folded_break d) v g =
    let u = folds_functional t (pos w) in
    let c = to_fold d v g in
    (u.one_end c f, ap goods (u.one_meaning c f))
fold_break_only f (escaped_break p q r c d) v g = absurd (fold_no_escape f p q)

fold_only : {t : List ℕ} {o : Option ℕ} {w i j k : ℕ} {x : List ℕ} {y : List Piece} → FoldsTo t (pos w) i j x → o ≡ Some w
    → Gap t goods (DoubleBreaks t o) i k y → Good t k → (k ≡ j) × (y ≡ goods x)
fold_only f s (by_whites v e) g = absurd (fold_not_item v g.no_break e f)
fold_only {t} {o} {w} {i} {j} {k} {x} {y} f s (by_break d e) g =
    let r = break_of o d in
    let b : DoubleBreak t (pos w) i k y = subst (λ v. DoubleBreak t (pos v) i k y) (same_value r.1 s) r.2 in
    fold_break_only f b e g

pub double_of_plain : {t : List ℕ} {o : Option ℕ} {i blank_end feeds j : ℕ} {space : Bool} → IsUtf8 t → blank_end ≤ length t → NoEscape t o i
    → PlainGap t o i blank_end space feeds j → DoubleGap t o i blank_end space feeds j
double_of_plain {t} {o} {i} u l e (of_whites {j = j} {x = x} m n b) = record {
  text = goods x;
  gap = by_whites m n;
  only = λ k y g c. whites_only m n b e g (good_place c);
  bytes = append-nil (take (j - i) (drop i t)) ∙ spelled_slice l (spelled_whites u m) ∙ ap encode_utf8_all (sym (text_of_goods x));
  no_bad = no_bad_goods x;
  clear = clear_whites u m;
}
double_of_plain {t} {o} {i} u l e (of_fold {feeds = feeds} {j = j} w s f) = record {
  text = goods (fold_text feeds);
  gap = by_break (to_breaks w s (folded_break f.folded)) f.no_white;
  only = λ k y g c. fold_only f s g (good_place c);
  bytes = fold_gap_bytes t i feeds ∙ ap encode_utf8_all (sym (text_of_goods (fold_text feeds)));
  no_bad = no_bad_goods (fold_text feeds);
  clear = clear_fold u f;
}

-- no gap begins with a break that no line continues
stuck_break : {t : List ℕ} {w i j l k : ℕ} {x : List ℕ} {y : List Piece} → Many t is_white i j x → Break t j l → Stuck (FoldsTo t (pos w) i)
    → DoubleBreak t (pos w) i k y → is_white (code t k) ≡ false → Good t k → ⊥
stuck_break {k = k} m b s (folded_break {x = x} f) v g = s.none k x (to_fold f v g)
stuck_break {t} {j = j} m b s (escaped_break {h = h} p q r c d) v g =
    let same = many_unique t is_white m (break_no_white b) p (backslash t h q) in
    ⊎_elim (λ (z : code t j ≡ 13). let e = ap (code t) same.0 in omega arith) (λ (z : code t j ≡ 10). let e = ap (code t) same.0 in omega arith) (break_char b)

pub no_double_of_plain : {t : List ℕ} {o : Option ℕ} {i : ℕ} → NoPlainGap t o i → NoDoubleGap t o i
no_double_of_plain {t} {o} {i} (at_break {j = j} {k = l} w s m b stuck) = record { none = λ k y g c. go g (good_place c) } where
  go : {k : ℕ} {y : List Piece} → Gap t goods (DoubleBreaks t o) i k y → Good t k → ⊥
  go {k} (by_whites v e) g =
      let same = many_unique t is_white m (break_no_white b) v e in
      g.no_break.none l (subst (λ h. Break t h l) same.0 b)
  go {k} {y} (by_break d e) g =
      let r = break_of o d in
      stuck_break m b stuck (subst (λ v. DoubleBreak t (pos v) i k y) (same_value r.1 s) r.2) e g

-- an escaped break
escaped_break_only : {t : List ℕ} {w i h l j k : ℕ} {x z : List ℕ} {y : List Piece} → Many t is_white i h x → code t h ≡ 92 → Break t (h + 1) l → FoldLines t (pos w) l j z
    → DoubleBreak t (pos w) i k y → is_white (code t k) ≡ false → Good t k → (k ≡ j) × (y ≡ goods x ++ goods z)
escaped_break_only m q b d (folded_break f) v g = absurd (fold_no_escape (to_fold f v g) m q)
escaped_break_only {t} {w} {h = h} {l = l} {j = j} {k = k} {x = x} {z = z} m q b d (escaped_break {h = h'} {k = l'} {x = x'} {y = z'} m' q' b' c' p') v g =
    let same = many_unique t is_white m' (backslash t h' q') m (backslash t h q) in
    let line : l' ≡ l = break_unique (subst (λ s. Break t (s + 1) l') same.0 b') b in
    let two : FoldLines t (pos w) l' k z' = record { line = _; empties = c'; content = record { prefix = p'; no_white = v; no_break = g.no_break } } in
    let lines = lines_unique (subst (λ s. FoldLines t (pos w) s k z') line two) d in
    (lines.0, ap (λ s. goods s ++ goods z') same.1 ∙ ap (λ s. goods x ++ goods s) lines.1)

escaped_only : {t : List ℕ} {w i h l j k : ℕ} {x z : List ℕ} {y : List Piece} → Many t is_white i h x → code t h ≡ 92 → Break t (h + 1) l → FoldLines t (pos w) l j z
    → Gap t goods (DoubleBreaks t (Some w)) i k y → Good t k → (k ≡ j) × (y ≡ goods x ++ goods z)
escaped_only {t} {h = h} {l = l} m q b d (by_whites v e) g =
    let same = many_unique t is_white m (backslash t h q) v e in
    absurd (g.no_escaped (sym (ap (code t) same.0) ∙ q) l (subst (λ s. Break t (s + 1) l) same.0 b))
escaped_only m q b d (by_break r e) g = escaped_break_only m q b d r e g

pub escaped_found : {t : List ℕ} {w i h l j feeds : ℕ} {x : List ℕ} → IsUtf8 t → h ≤ length t → Many t is_white i h x → code t h ≡ 92 → Break t (h + 1) l
    → FoldLines t (pos w) l j (line_feeds feeds) → DoubleGap t (Some w) i h false feeds j
escaped_found {t} {i = i} {h = h} {feeds = feeds} {x = x} u n m q b d = record {
  text = goods x ++ goods (line_feeds feeds);
  gap = by_break (escaped_break m q b d.empties d.content.prefix) d.content.no_white;
  only = λ k y g c. escaped_only m q b d g (good_place c);
  bytes = ap (λ s. s ++ line_feeds feeds) (spelled_slice n (spelled_whites u m)) ∙ ap (λ s. encode_utf8_all x ++ s) (sym (feeds_bytes feeds))
      ∙ sym (encodes-append x (line_feeds feeds)) ∙ ap encode_utf8_all (sym (text_of_goods (x ++ line_feeds feeds))) ∙ ap (λ s. encode_utf8_all (text_of s)) (goods_append x (line_feeds feeds));
  no_bad = ap bad_escapes (sym (goods_append x (line_feeds feeds))) ∙ no_bad_goods (x ++ line_feeds feeds);
  clear = clear_join (clear_whites u m) (clear_join (clear_char u (reads_byte t h 92 u q (omega arith)) (not_forbidden t h (λ e. omega arith) (λ e. omega arith)))
      (clear_join (clear_break b) (clear_lines u d)));
}

pub no_escaped_lines : {t : List ℕ} {w i h l : ℕ} {x : List ℕ} → Many t is_white i h x → code t h ≡ 92 → Break t (h + 1) l → Stuck (FoldLines t (pos w) l)
    → NoDoubleGap t (Some w) i
no_escaped_lines {t} {w} {i} {h} {l} m q b s = record { none = λ k y g c. go g (good_place c) } where
  inner : {k : ℕ} {y : List Piece} → DoubleBreak t (pos w) i k y → is_white (code t k) ≡ false → Good t k → ⊥
  inner (folded_break f) v g = fold_no_escape (to_fold f v g) m q
  inner {k} (escaped_break {h = h'} {k = l'} {y = z'} m' q' b' c' p') v g =
      let same = many_unique t is_white m' (backslash t h' q') m (backslash t h q) in
      let line : l' ≡ l = break_unique (subst (λ r. Break t (r + 1) l') same.0 b') b in
      let two : FoldLines t (pos w) l' k z' = record { line = _; empties = c'; content = record { prefix = p'; no_white = v; no_break = g.no_break } } in
      s.none k z' (subst (λ r. FoldLines t (pos w) r k z') line two)

  go : {k : ℕ} {y : List Piece} → Gap t goods (DoubleBreaks t (Some w)) i k y → Good t k → ⊥
  go (by_whites v e) g =
      let same = many_unique t is_white m (backslash t h q) v e in
      g.no_escaped (sym (ap (code t) same.0) ∙ q) l (subst (λ r. Break t (r + 1) l) same.0 b)
  go (by_break r e) g = inner r e g
