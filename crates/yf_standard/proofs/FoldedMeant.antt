-- What folded scalars (8.1.3) add to content: rows, each a line with content, and the text between two of them.
use Rattle.std.proofs.Common.{◌≡◌, ℕ, ◌+◌, ◌<◌, ◌≤◌, ℤ, pos, Bool, true, false, true≢false, not, List, [], ◌∷◌, ◌++◌, sym, ap, ◌∙◌, subst, append_assoc, arith}
use Rattle.std.proofs.lemmas.Bool.{and_parts, not-true}
use Rattle.yf_chars.specs.declared.context.Ctx.TheVariants.{BlockIn}
use Rattle.yf_chars.specs.Text.{code}
use Rattle.yf_chars.specs.Class.{is_nb_char, is_ns_char, is_white}
use Rattle.yf_chars.specs.Chain.{Chain, Many}
use Rattle.yf_chars.specs.Chain.Chain.{done, step}
use Rattle.yf_chars.specs.Chain.One.{one}
use Rattle.yf_lines.specs.Basic.{Break, Spaces, Indent, Empty, FoldedBreak}
use Rattle.yf_standard.specs.Characters.{nb-char, ns-char, s-white}
use Rattle.yf_standard.specs.Rules.{NoFoldedLine}
use Rattle.yf_standard.specs.Contents.{Mark, marks, one_char}
use Rattle.yf_standard.specs.Contents.Mark.{char}
use Rattle.yf_standard.proofs.Meant.{Then, Either, Here, Character}
use Rattle.yf_standard.proofs.Meant.Then.{both}
use Rattle.yf_standard.proofs.Meant.Either.{left, right}
use Rattle.yf_standard.proofs.Meant.Here.{here}
use Rattle.yf_standard.proofs.Meant.Character.{character}
use Rattle.yf_standard.proofs.BasicsMeant.{Puts, Quiet, Spells, many_spells, same_spells, nothing_after}
use Rattle.yf_standard.proofs.BasicsMeant.Puts.{puts}
use Rattle.yf_standard.proofs.BasicsMeant.Spells.{spelled}
use Rattle.yf_standard.proofs.LiteralMeant.{chars_forward}
use Rattle.yf_standard.proofs.ScalarsRead.{spaces_of, ns_is_nb, white_is_nb}
use Rattle.yf_standard.proofs.Sets.{nb_char_is, ns_char_is, white_is}
use Rattle.yf_chars.proofs.TextLemmas.{next_later}

-- [175] and [177]: a line with content, and whether that begins with white space
pub data RowAt (t : List ℕ) (k : ℕ) (s : Bool) (i j : ℕ) : List Mark → Type 0 where
  row_at : {u : List ℕ} → Spaces t i k → Many t is_nb_char (i + k) j u → i + k < j → is_white (code t (i + k)) ≡ s → RowAt t k s i j (marks u)

row_first : {t : List ℕ} {k i j : ℕ} {s : Bool} {y : List Mark} → RowAt t k s i j y → is_white (code t (i + k)) ≡ s
row_first (row_at p m l w) = w

row_means : {t : List ℕ} {n : ℤ} {p : ℕ → Bool} {s : Bool} {i j : ℕ} {y : List Mark} → ((c : ℕ) → p c ≡ true → is_nb_char c ≡ true) → ((c : ℕ) → p c ≡ true → is_white c ≡ s)
    → Then (Quiet (Indent t n)) (Then (Character t one_char p) (Chain (Character t one_char nb-char))) i j y → (k : ℕ) → n ≡ pos k → RowAt t k s i j y
row_means {t} {n} {p} {s} {i} {j} f g (both {k = a} (puts q) (both {k = b} {y = y} c r)) k same = first c (spaces_of k same q) (many_spells {t = t} {s = nb-char} {p = is_nb_char} nb_char_is r) (chars_forward r) where
  first : {b : ℕ} {x v : List Mark} → Character t one_char p a b x → Spaces t i k × (i + k ≡ a) → Spells (Many t is_nb_char) b j v → b ≤ j → RowAt t k s i j (x ++ v)
  first (character w) d (spelled {x = u} m) l =
      let e = next_later t a in
      let whole : Many t is_nb_char a j (code t a ∷ u) = step (one (f (code t a) w)) m in
      row_at d.0 (subst (λ z. Many t is_nb_char z j (code t a ∷ u)) (sym d.1) whole) (omega (arith, d.1, l, e)) (ap (λ z. is_white (code t z)) d.1 ∙ g (code t a) w)

ns_no_white : (c : ℕ) → ns-char c ≡ true → is_white c ≡ false
unfolding is_ns_char
ns_no_white c e = not-true (is_white c) ((and_parts (is_nb_char c) (not (is_white c)) (sym (ns_char_is c) ∙ e)).1)

-- the text between two rows: a fold between two that don't begin with white space; or a break with empty lines, if no
-- folded line can follow a row that doesn't begin with white space
pub data Gap (t : List ℕ) (k : ℕ) : Bool → ℕ → ℕ → List Mark → Type 0 where
  fold_gap : {h g : ℕ} {x : List ℕ} → FoldedBreak t (pos k) BlockIn h g x → is_white (code t (g + k)) ≡ false → Gap t k false h g (marks x)
  feed_gap : {s : Bool} {h b g : ℕ} {w : List ℕ} → Break t h b → Chain (Empty t (pos k) BlockIn) b g w → (s ≡ false → NoFoldedLine t (pos k) h) → Gap t k s h g (marks (10 ∷ w))

-- rows, and whether the last one begins with white space
pub data Rows (t : List ℕ) (k : ℕ) : Bool → ℕ → ℕ → List Mark → Type 0 where
  one_row : {s : Bool} {i j : ℕ} {y : List Mark} → RowAt t k s i j y → Rows t k s i j y
  more_rows : {s p : Bool} {i h g j : ℕ} {x y z : List Mark} → RowAt t k s i h x → Gap t k s h g y → Rows t k p g j z → Rows t k p i j (x ++ (y ++ z))

rows_more : {t : List ℕ} {n : ℤ} {k : ℕ} {s : Bool} {R : ℕ → ℕ → List Mark → Type 0} {i h j : ℕ} {x y : List Mark} → n ≡ pos k
    → ((h g : ℕ) (y : List Mark) → R h g y → is_white (code t (g + k)) ≡ s → Gap t k s h g y)
    → RowAt t k s i h x → Chain (Then R (λ i j y. (k : ℕ) → n ≡ pos k → RowAt t k s i j y)) h j y → Rows t k s i j (x ++ y)
rows_more {t} {k = k} {s = s} {i = i} {j = j} {x = x} e f a done = subst (λ z. Rows t k s i j z) (sym (nothing_after x)) (one_row a)
rows_more {t} {k = k} {s = s} {i = i} {h = h} {j = j} {x = x} e f a (step {y = w} (both {k = g} {x = u} {y = v} r b) c) =
    let d : RowAt t k s g _ v = b k e in
    subst (λ z. Rows t k s i j z) (sym (ap (λ z. x ++ z) (append_assoc u v w))) (more_rows a (f h g u r (row_first d)) (rows_more e f d c))

rows_join : {t : List ℕ} {k i h g j : ℕ} {s p : Bool} {x y z : List Mark} → Rows t k s i h x → Gap t k s h g y → Rows t k p g j z → Rows t k p i j (x ++ (y ++ z))
rows_join (one_row a) g r = more_rows a g r
rows_join {t} {k} {i} {j = j} {p = p} {y = v} {z = w} (more_rows {x = x} {y = y} {z = z} a f q) g r =
    subst (λ m. Rows t k p i j m) (sym (append_assoc x (y ++ z) (v ++ w) ∙ ap (λ m. x ++ m) (append_assoc y z (v ++ w)))) (more_rows a f (rows_join q g r))

-- [176] and [179]: no folded line can follow the last one
pub data Group (t : List ℕ) (k i j : ℕ) (y : List Mark) : Type 0 where
  group : {s : Bool} → Rows t k s i j y → (s ≡ false → NoFoldedLine t (pos k) j) → Group t k i j y

pub folded_means : {t : List ℕ} {n : ℤ} {i j : ℕ} {y : List Mark}
    → Then (λ i j y. (k : ℕ) → n ≡ pos k → RowAt t k false i j y)
    (Then (Chain (Then (Spells (FoldedBreak t n BlockIn)) (λ i j y. (k : ℕ) → n ≡ pos k → RowAt t k false i j y))) (Here (NoFoldedLine t n))) i j y
    → (k : ℕ) → n ≡ pos k → Group t k i j y
folded_means {t} {n} {i} {j} (both {x = x} a (both {x = y} c (here o))) k e =
    let r : Rows t k false i j (x ++ y) = rows_more e fold (a k e) c in
    group (subst (λ z. Rows t k false i j (x ++ z)) (sym (nothing_after y)) r) (λ _. subst (λ z. NoFoldedLine t z j) e o)
  where
    fold : (h g : ℕ) (y : List Mark) → Spells (FoldedBreak t n BlockIn) h g y → is_white (code t (g + k)) ≡ false → Gap t k false h g y
    fold h g _ (spelled {x = v} f) w = fold_gap (subst (λ z. FoldedBreak t z BlockIn h g v) e f) w

-- [178]
pub data SpacedBreak (t : List ℕ) (k i j : ℕ) : List Mark → Type 0 where
  spaced_break : {b : ℕ} {w : List ℕ} → Break t i b → Chain (Empty t (pos k) BlockIn) b j w → SpacedBreak t k i j (marks (10 ∷ w))

pub spaced_break_means : {t : List ℕ} {n : ℤ} {i j : ℕ} {y : List Mark} → Then (Puts (char 10 ∷ []) (Break t)) (Chain (Spells (Empty t n BlockIn))) i j y
    → (k : ℕ) → n ≡ pos k → SpacedBreak t k i j y
spaced_break_means {t} {n} {i} {j} (both {k = h} (puts b) r) k e = go (same_spells r) where
  go : {y : List Mark} → Spells (Chain (Empty t n BlockIn)) h j y → SpacedBreak t k i j (char 10 ∷ y)
  go (spelled {x = w} d) = spaced_break b (subst (λ z. Chain (Empty t z BlockIn) h j w) e d)

pub spaced_means : {t : List ℕ} {n : ℤ} {i j : ℕ} {y : List Mark}
    → Then (λ i j y. (k : ℕ) → n ≡ pos k → RowAt t k true i j y)
    (Chain (Then (λ i j y. (k : ℕ) → n ≡ pos k → SpacedBreak t k i j y) (λ i j y. (k : ℕ) → n ≡ pos k → RowAt t k true i j y))) i j y
    → (k : ℕ) → n ≡ pos k → Group t k i j y
spaced_means {t} {n} (both a c) k e = group (rows_more e feed (a k e) c) (λ q. absurd (true≢false q)) where
  parts : {h g : ℕ} {y : List Mark} → SpacedBreak t k h g y → Gap t k true h g y
  parts (spaced_break b r) = feed_gap b r (λ q. absurd (true≢false q))

  feed : (h g : ℕ) (y : List Mark) → ((k : ℕ) → n ≡ pos k → SpacedBreak t k h g y) → is_white (code t (g + k)) ≡ true → Gap t k true h g y
  feed h g y f w = parts (f k e)

-- [180] and [181]: after empty lines
pub data Groups (t : List ℕ) (k i j : ℕ) : List Mark → Type 0 where
  groups : {a : ℕ} {w : List ℕ} {z : List Mark} → Chain (Empty t (pos k) BlockIn) i a w → Group t k a j z → Groups t k i j (marks w ++ z)

pub same_means : {t : List ℕ} {n : ℤ} {i j : ℕ} {y : List Mark}
    → Then (Chain (Spells (Empty t n BlockIn))) (Either (λ i j y. (k : ℕ) → n ≡ pos k → Group t k i j y) (λ i j y. (k : ℕ) → n ≡ pos k → Group t k i j y)) i j y
    → (k : ℕ) → n ≡ pos k → Groups t k i j y
same_means {t} {n} {i} {j} (both {k = a} {y = z} c d) k e = go (same_spells c) (pick d) where
  pick : Either (λ i j y. (k : ℕ) → n ≡ pos k → Group t k i j y) (λ i j y. (k : ℕ) → n ≡ pos k → Group t k i j y) a j z → Group t k a j z
  pick (left g) = g k e
  pick (right g) = g k e

  go : {y : List Mark} → Spells (Chain (Empty t n BlockIn)) i a y → Group t k a j z → Groups t k i j (y ++ z)
  go (spelled {x = w} c) g = groups (subst (λ z. Chain (Empty t z BlockIn) i a w) e c) g

groups_join : {t : List ℕ} {k i h b j : ℕ} {y z : List Mark} → Groups t k i h y → Break t h b → Groups t k b j z → Groups t k i j (y ++ char 10 ∷ z)
groups_join {t} {k} {i} {j = j} (groups {w = w} {z = u} e (group r c)) b (groups {w = v} {z = z} f (group q d)) =
    subst (λ m. Groups t k i j m) (sym (append_assoc (marks w) u (char 10 ∷ (marks v ++ z)))) (groups e (group (rows_join r (feed_gap b f c) q) d))

pub diff_means : {t : List ℕ} {n : ℤ} {i j : ℕ} {y : List Mark}
    → Then (λ i j y. (k : ℕ) → n ≡ pos k → Groups t k i j y) (Chain (Then (Puts (char 10 ∷ []) (Break t)) (λ i j y. (k : ℕ) → n ≡ pos k → Groups t k i j y))) i j y
    → (k : ℕ) → n ≡ pos k → Groups t k i j y
diff_means {t} {n} (both a c) k e = go (a k e) c where
  go : {i h j : ℕ} {x y : List Mark} → Groups t k i h x → Chain (Then (Puts (char 10 ∷ []) (Break t)) (λ i j y. (k : ℕ) → n ≡ pos k → Groups t k i j y)) h j y → Groups t k i j (x ++ y)
  go {i} {j = j} {x = x} a done = subst (λ z. Groups t k i j z) (sym (nothing_after x)) a
  go {i} {j = j} {x = x} a (step {y = w} (both {y = v} (puts b) g) c) = subst (λ z. Groups t k i j z) (append_assoc x (char 10 ∷ v) w) (go (groups_join a b (g k e)) c)

pub folded_row : {t : List ℕ} {n : ℤ} {i j : ℕ} {y : List Mark} → Then (Quiet (Indent t n)) (Then (Character t one_char ns-char) (Chain (Character t one_char nb-char))) i j y → (k : ℕ) → n ≡ pos k → RowAt t k false i j y
folded_row d = row_means ns_is_nb ns_no_white d

pub spaced_row : {t : List ℕ} {n : ℤ} {i j : ℕ} {y : List Mark} → Then (Quiet (Indent t n)) (Then (Character t one_char s-white) (Chain (Character t one_char nb-char))) i j y → (k : ℕ) → n ≡ pos k → RowAt t k true i j y
spaced_row d = row_means white_is_nb (λ c e. sym (white_is c) ∙ e) d
