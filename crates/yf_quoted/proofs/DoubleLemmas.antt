-- Laws of double-quoted scalars: their characters and breaks.
use Rattle.std.proofs.Common.{◌≡◌, ◌≢◌, ℕ, ◌+◌, ◌<◌, ◌≤◌, ℤ, pos, true, false, List, [], ◌∷◌, ◌++◌, Option, Some, None, refl, sym, ap, ◌∙◌, subst, inl, inr, ◌⊎◌, ⊎_elim, arith}
use Rattle.std.proofs.lemmas.Bool.{true≢false}
use Rattle.yf_chars.specs.declared.context.Ctx.TheVariants.{FlowIn}
use Rattle.std.specs.Char.{IsScalar}
use Rattle.yf_chars.specs.Text.{code, next}
use Rattle.yf_chars.specs.Class.{is_white, is_nb_json, is_between}
use Rattle.yf_chars.specs.Chain.{Chain, Many, Functional, Nowhere}
use Rattle.yf_chars.specs.Escape.{Escape}
use Rattle.yf_chars.proofs.ChainLemmas.{chain_forward, many_unique, one_functional}
use Rattle.yf_chars.proofs.EscapeLemmas.{escape_unique, escape_backslash, escape_forward, escape_no_break}
use Rattle.yf_chars.proofs.TextLemmas.{next_later}
use Rattle.yf_lines.specs.Basic.{Break, Empty, FlowPrefix, FlowFolded}
use Rattle.yf_lines.specs.Fold.{FoldsTo, FoldLines}
use Rattle.yf_lines.proofs.BasicLemmas.{break_char, break_unique, break_forward, no_break_here, white_cases}
use Rattle.yf_lines.proofs.FoldLemmas.{folds_functional, fold_not_item, fold_order, lines_unique, empty_functional, whites_of_prefix}
use Rattle.yf_quoted.specs.Quoted.{DoubleChar, DoubleBreak, Piece, goods}
use Rattle.yf_quoted.specs.Quoted.Piece.{good, bad}
use Rattle.yf_quoted.specs.Quoted.DoubleChar.{unescaped, escaped, wrong}
use Rattle.yf_quoted.specs.Quoted.DoubleBreak.{folded_break, escaped_break}
use Rattle.yf_quoted.specs.Body.{Gap, DoubleBreaks}
use Rattle.yf_quoted.specs.Body.Gap.{by_whites, by_break}
use Rattle.yf_quoted.proofs.BodyLemmas.{Laws, Means}

pub json_lf : is_nb_json 10 ≡ false
unfolding is_nb_json is_between
json_lf = refl

pub json_cr : is_nb_json 13 ≡ false
unfolding is_nb_json is_between
json_cr = refl

-- a backslash and a quote are not white space
pub white_backslash : is_white 92 ≡ false
unfolding is_white
white_backslash = refl

pub white_quote : is_white 34 ≡ false
unfolding is_white
white_quote = refl

-- how a character is written
pub data Written (t : List ℕ) (i j : ℕ) (x : List Piece) : Type 0 where
  itself : code t i ≢ 92 → code t i ≢ 34 → is_nb_json (code t i) ≡ true → next t i ≡ j → x ≡ good (code t i) ∷ [] → Written t i j x
  by_escape : (v : ℕ) → Escape t i j v → Written t i j x

pub written : {t : List ℕ} {i j : ℕ} {x : List Piece} → DoubleChar t i j x → Written t i j x
written (unescaped e n m) = itself n m e refl refl
written (escaped {v = v} e s) = by_escape v e
written (wrong {v = v} e s) = by_escape v e

char_end : {t : List ℕ} {i j k : ℕ} {x y : List Piece} → DoubleChar t i j x → DoubleChar t i k y → j ≡ k
char_end {t} {i} {j} {k} a b = go (written a) (written b) where
  go : {x y : List Piece} → Written t i j x → Written t i k y → j ≡ k
  go (itself n m e p q) (itself n' m' e' p' q') = sym p ∙ p'
  go (itself n m e p q) (by_escape w f) = absurd (n (escape_backslash f))
  go (by_escape v f) (itself n m e p q) = absurd (n (escape_backslash f))
  go (by_escape v f) (by_escape w g) = (escape_unique f g).0

-- the meaning of an escape, by its number
pub data Meant (t : List ℕ) (i j : ℕ) (x : List Piece) : Type 0 where
  as_itself : code t i ≢ 92 → x ≡ good (code t i) ∷ [] → Meant t i j x
  as_char : (v : ℕ) → Escape t i j v → IsScalar v → x ≡ good v ∷ [] → Meant t i j x
  as_wrong : (v : ℕ) → Escape t i j v → (IsScalar v → ⊥) → x ≡ bad i ∷ [] → Meant t i j x

pub meant : {t : List ℕ} {i j : ℕ} {x : List Piece} → DoubleChar t i j x → Meant t i j x
meant (unescaped e n m) = as_itself n refl
meant (escaped {v = v} e s) = as_char v e s refl
meant (wrong {v = v} e s) = as_wrong v e s refl

char_meaning : {t : List ℕ} {i j k : ℕ} {x y : List Piece} → DoubleChar t i j x → DoubleChar t i k y → x ≡ y
char_meaning {t} {i} {j} {k} {x} {y} a b = go (meant a) (meant b) where
  go : Meant t i j x → Meant t i k y → x ≡ y
  go (as_itself n p) (as_itself m q) = p ∙ sym q
  go (as_itself n p) (as_char v e s q) = absurd (n (escape_backslash e))
  go (as_itself n p) (as_wrong v e s q) = absurd (n (escape_backslash e))
  go (as_char v e s p) (as_itself n q) = absurd (n (escape_backslash e))
  go (as_char v e s p) (as_char w f r q) = p ∙ ap (λ u. good u ∷ []) (escape_unique e f).1 ∙ sym q
  go (as_char v e s p) (as_wrong w f r q) = absurd (r (subst (λ u. IsScalar u) (escape_unique e f).1 s))
  go (as_wrong v e s p) (as_itself n q) = absurd (n (escape_backslash e))
  go (as_wrong v e s p) (as_char w f r q) = absurd (s (subst (λ u. IsScalar u) (sym (escape_unique e f).1) r))
  go (as_wrong v e s p) (as_wrong w f r q) = p ∙ sym q

char_forward : {t : List ℕ} {i j : ℕ} {x : List Piece} → DoubleChar t i j x → i < j
char_forward {t} {i} {j} a = go (written a) where
  go : {x : List Piece} → Written t i j x → i < j
  go (itself n m e p q) = let f = next_later t i in omega arith
  go (by_escape v e) = escape_forward e

pub char_functional : (t : List ℕ) → Functional (DoubleChar t)
char_functional t = record { one_end = λ a b. char_end a b; one_meaning = λ a b. char_meaning a b; forward = λ a. char_forward a }

-- an end of a gap, at which neither a break nor an escaped break begins
pub record Good (t : List ℕ) (k : ℕ) : Type 0 where
  pub no_break : Nowhere (Break t k)
  pub no_escaped : code t k ≡ 92 → (l : ℕ) → Break t (k + 1) l → ⊥

good_char : {t : List ℕ} {k l : ℕ} {z : List Piece} → DoubleChar t k l z → Good t k
good_char {t} {k} {l} a = go (written a) where
  json : (d : ℕ) → is_nb_json d ≡ false → is_nb_json (code t k) ≡ true → code t k ≢ d
  json d n e q = true≢false (sym e ∙ ap is_nb_json q ∙ n)

  go : {z : List Piece} → Written t k l z → Good t k
  go (itself n m e p q) = record { no_break = no_break_here t k (json 13 json_cr e) (json 10 json_lf e); no_escaped = λ f j b. n f }
  go (by_escape v e) =
      let q = escape_backslash e in
      record { no_break = no_break_here t k (λ f. omega arith) (λ f. omega arith); no_escaped = λ f j b. escape_no_break e (break_char b) }

pub good_place : {t : List ℕ} {k : ℕ} → ((l : ℕ) × (z : List Piece) × DoubleChar t k l z) ⊎ (code t k ≡ 34) → Good t k
good_place (inl c) = good_char c.2
good_place {t} {k} (inr q) = record { no_break = no_break_here t k (λ f. omega arith) (λ f. omega arith); no_escaped = λ f j b. omega arith }

pub to_fold : {t : List ℕ} {n : ℤ} {i j : ℕ} {x : List ℕ} → FlowFolded t n i j x → is_white (code t j) ≡ false → Good t j → FoldsTo t n i j x
to_fold f w g = record { folded = f; no_white = w; no_break = g.no_break }

-- a gap by its kind
data Kind (t : List ℕ) (n : ℤ) (i j : ℕ) (x : List Piece) : Type 0 where
  whites_alone : (w : List ℕ) → Many t is_white i j w → is_white (code t j) ≡ false → x ≡ goods w → Kind t n i j x
  one_fold : (w : List ℕ) → FlowFolded t n i j w → is_white (code t j) ≡ false → x ≡ goods w → Kind t n i j x
  one_escaped : (h k l : ℕ) (w y : List ℕ) → Many t is_white i h w → code t h ≡ 92 → Break t (h + 1) k → Chain (Empty t n FlowIn) k l y → FlowPrefix t n l j
      → is_white (code t j) ≡ false → x ≡ goods w ++ goods y → Kind t n i j x

break_kind : {t : List ℕ} {n : ℤ} {i j : ℕ} {x : List Piece} → DoubleBreak t n i j x → is_white (code t j) ≡ false → Kind t n i j x
break_kind (folded_break {x = x} f) w = one_fold x f w refl
break_kind (escaped_break {h = h} {k = k} {l = l} {x = x} {y = y} m b e c p) w = one_escaped h k l x y m b e c p w refl

kind_unique : {t : List ℕ} {n : ℤ} {i j k : ℕ} {x y : List Piece} → Kind t n i j x → Good t j → Kind t n i k y → Good t k → (j ≡ k) × (x ≡ y)
kind_unique {t} {n} {i} {j} {k} {x} {y} a g b h = go a b where
  backslash : (m : ℕ) → code t m ≡ 92 → is_white (code t m) ≡ false
  backslash m e = ap is_white e ∙ white_backslash

  no_fold : {m : ℕ} {w : List ℕ} → Many t is_white i m w → code t m ≡ 92 → (e : ℕ) (v : List ℕ) → FoldsTo t n i e v → ⊥
  no_fold {m} w e z v f = fold_not_item w (no_break_here t m (λ q. omega arith) (λ q. omega arith)) (backslash m e) f

  never : {m z : ℕ} {w v : List ℕ} {e : ℕ} → Many t is_white i e w → is_white (code t e) ≡ false → Good t e → Many t is_white i m v → code t m ≡ 92 → Break t (m + 1) z → ⊥
  never {m} {z} {e = e} w f o u q b =
      let same = many_unique t is_white w f u (backslash m q) in
      o.no_escaped (ap (code t) same.0 ∙ q) z (subst (λ d. Break t (d + 1) z) (sym same.0) b)

  go : Kind t n i j x → Kind t n i k y → (j ≡ k) × (x ≡ y)
  go (whites_alone w m f p) (whites_alone v o e q) = let same = many_unique t is_white m f o e in (same.0, p ∙ ap goods same.1 ∙ sym q)
  go (whites_alone w m f p) (one_fold v o e q) = absurd (fold_not_item m g.no_break f (to_fold o e h))
  go (whites_alone w m f p) (one_escaped a c l v z o e b r s d q) = absurd (never m f g o e b)
  go (one_fold w m f p) (whites_alone v o e q) = absurd (fold_not_item o h.no_break e (to_fold m f g))
  go (one_fold w m f p) (one_fold v o e q) =
      let u = folds_functional t n in
      let c = to_fold m f g in
      let d = to_fold o e h in
      (u.one_end c d, p ∙ ap goods (u.one_meaning c d) ∙ sym q)
  go (one_fold w m f p) (one_escaped a c l v z o e b r s d q) = absurd (no_fold o e j w (to_fold m f g))
  go (one_escaped a c l v z o e b r s d p) (whites_alone w m f q) = absurd (never m f h o e b)
  go (one_escaped a c l v z o e b r s d p) (one_fold w m f q) = absurd (no_fold o e k w (to_fold m f h))
  go (one_escaped a c l v z o e b r s d p) (one_escaped a' c' l' v' z' o' e' b' r' s' d' q) =
      let same = many_unique t is_white o (backslash a e) o' (backslash a' e') in
      let line : c ≡ c' = break_unique b (subst (λ m. Break t (m + 1) c') (sym same.0) b') in
      let one : FoldLines t n c j z = record { line = l; empties = r; content = record { prefix = s; no_white = d; no_break = g.no_break } } in
      let two : FoldLines t n c' k z' = record { line = l'; empties = r'; content = record { prefix = s'; no_white = d'; no_break = h.no_break } } in
      let lines = lines_unique one (subst (λ m. FoldLines t n m k z') (sym line) two) in
      (lines.0, p ∙ ap (λ u. goods u ++ goods z) same.1 ∙ ap (λ u. goods v' ++ goods u) lines.1 ∙ sym q)

kind_order : {t : List ℕ} {n : ℤ} {i j : ℕ} {x : List Piece} → Kind t n i j x → i ≤ j
kind_order {t} (whites_alone w m f p) = chain_forward (one_functional t is_white) m
kind_order (one_fold w m f p) = fold_order m
kind_order {t} {n} (one_escaped a c l v z o e b r s d p) =
    let f = chain_forward (one_functional t is_white) o in
    let g = break_forward b in
    let h = chain_forward (empty_functional t n) r in
    let k = chain_forward (one_functional t is_white) (whites_of_prefix s).1 in omega arith

gap_kind : {t : List ℕ} {w i j : ℕ} {x : List Piece} → Gap t goods (DoubleBreaks t (Some w)) i j x → Kind t (pos w) i j x
gap_kind (by_whites {x = x} m n) = whites_alone x m n refl
gap_kind (by_break b n) = break_kind b n

-- on one line, a gap is white space
line_kind : {t : List ℕ} {i j : ℕ} {x : List Piece} → Gap t goods (DoubleBreaks t None) i j x → Kind t (pos 0) i j x
line_kind (by_whites {x = x} m n) = whites_alone x m n refl
line_kind (by_break b n) = absurd b

pub double_laws : (t : List ℕ) (o : Option ℕ) → Laws t goods (DoubleChar t) (DoubleBreaks t o) 34
double_laws t None = record {
  chars = char_functional t;
  ends = λ i j k x y a g b h. kind_unique (line_kind a) (good_place g) (line_kind b) (good_place h);
  order = λ i j x a. kind_order (line_kind a);
}
double_laws t (Some w) = record {
  chars = char_functional t;
  ends = λ i j k x y a g b h. kind_unique (gap_kind a) (good_place g) (gap_kind b) (good_place h);
  order = λ i j x a. kind_order (gap_kind a);
}

pub no_quote_char : {t : List ℕ} (k l : ℕ) (z : List Piece) → code t k ≡ 34 → DoubleChar t k l z → ⊥
no_quote_char {t} k l z q c = go (written c) where
  go : {z : List Piece} → Written t k l z → ⊥
  go (itself n m e p r) = m q
  go (by_escape v e) = let b = escape_backslash e in omega arith

-- plain characters in the meaning
pub goods_append : (x y : List ℕ) → goods (x ++ y) ≡ goods x ++ goods y
goods_append [] y = refl
goods_append (c ∷ x) y = ap (λ w. good c ∷ w) (goods_append x y)

pub white_json : (c : ℕ) → is_white c ≡ true → is_nb_json c ≡ true
unfolding is_nb_json is_between
white_json c e = ⊎_elim (λ (q : c ≡ 32). rw q refl) (λ (q : c ≡ 9). rw q refl) (white_cases c e)

pub double_means : (t : List ℕ) → Means t goods (DoubleChar t) 34
double_means t = record {
  nothing = refl;
  append = goods_append;
  white = λ i j x e c. white_char e (written c);
  is_char = λ i e. let w = white_cases (code t i) e in unescaped (white_json (code t i) e) (λ q. omega (arith, w)) (λ q. omega (arith, w));
  no_white = white_quote;
} where
  white_char : {i j : ℕ} {x : List Piece} → is_white (code t i) ≡ true → Written t i j x → (next t i ≡ j) × (x ≡ goods (code t i ∷ []))
  white_char e (itself n m f p q) = (p, q)
  white_char {i} e (by_escape v f) = absurd (true≢false (sym e ∙ ap is_white (escape_backslash f) ∙ white_backslash))
