-- Laws of single-quoted scalars: their characters, breaks and gaps.
use Rattle.std.proofs.Common.{◌≡◌, ◌≢◌, ℕ, ◌+◌, ◌-◌, ◌<◌, ◌≤◌, ℤ, pos, Bool, true, false, List, [], ◌∷◌, Option, Some, None, IsSome, refl, sym, ap, ◌∙◌, subst, ◌⊎◌, inl, inr, arith, append-nil, encode_utf8_all, length, take, drop}
use Rattle.std.proofs.lemmas.Bool.{true≢false}
use Rattle.std.specs.Str.{IsUtf8}
use Rattle.yf_chars.specs.Text.{code, next}
use Rattle.yf_chars.specs.Class.{is_white, is_nb_json}
use Rattle.yf_chars.specs.Chain.{Many, Functional, Nowhere}
use Rattle.yf_chars.proofs.ChainLemmas.{chain_forward, many_unique, one_functional}
use Rattle.yf_chars.proofs.TextLemmas.{next_later}
use Rattle.yf_chars.proofs.Tests.{same_value}
use Rattle.yf_lines.specs.Basic.{Break, FlowFolded}
use Rattle.yf_lines.specs.Fold.{FoldsTo, fold_text}
use Rattle.yf_lines.proofs.BasicLemmas.{no_break_here, white_cases}
use Rattle.yf_lines.proofs.ClearLemmas.{clear_whites, spelled_whites, spelled_slice}
use Rattle.yf_lines.proofs.FoldLemmas.{folds_functional, fold_not_item, fold_order, clear_fold, break_no_white}
use Rattle.yf_lines.specs.Basic.{Clear}
use Rattle.yf_quoted.specs.Quoted.{SingleChar, as_they_are}
use Rattle.yf_quoted.specs.Quoted.SingleChar.{doubled, unquoted}
use Rattle.yf_quoted.specs.Body.{Gap, SingleBreaks, PlainGap, NoPlainGap, gap_bytes}
use Rattle.yf_quoted.specs.Body.Gap.{by_whites, by_break}
use Rattle.yf_quoted.specs.Body.PlainGap.{of_whites, of_fold}
use Rattle.yf_quoted.specs.Body.NoPlainGap.{at_break}
use Rattle.yf_quoted.proofs.BodyLemmas.{Laws, Means}
use Rattle.yf_quoted.proofs.DoubleLemmas.{json_lf, json_cr, white_json}
use Rattle.yf_quoted.proofs.GapLemmas.{fold_gap_bytes, is_some}
use Rattle.yf_quoted.proofs.ScalarLemmas.{Kind, no_negative_fold}

white_single : is_white 39 ≡ false
unfolding is_white
white_single = refl

-- how a character is written
pub data SingleWritten (t : List ℕ) (i j : ℕ) (x : List ℕ) : Type 0 where
  as_pair : code t i ≡ 39 → code t (i + 1) ≡ 39 → i + 2 ≡ j → x ≡ 39 ∷ [] → SingleWritten t i j x
  as_itself : code t i ≢ 39 → is_nb_json (code t i) ≡ true → next t i ≡ j → x ≡ code t i ∷ [] → SingleWritten t i j x

pub single_written : {t : List ℕ} {i j : ℕ} {x : List ℕ} → SingleChar t i j x → SingleWritten t i j x
single_written (doubled a b) = as_pair a b refl refl
single_written (unquoted e n) = as_itself n e refl refl

single_same : {t : List ℕ} {i j k : ℕ} {x y : List ℕ} → SingleChar t i j x → SingleChar t i k y → (j ≡ k) × (x ≡ y)
single_same {t} {i} {j} {k} {x} {y} a b = go (single_written a) (single_written b) where
  go : SingleWritten t i j x → SingleWritten t i k y → (j ≡ k) × (x ≡ y)
  go (as_pair a b p q) (as_pair a' b' p' q') = (sym p ∙ p', q ∙ sym q')
  go (as_pair a b p q) (as_itself n e p' q') = absurd (n a)
  go (as_itself n e p q) (as_pair a b p' q') = absurd (n a)
  go (as_itself n e p q) (as_itself n' e' p' q') = (sym p ∙ p', q ∙ sym q')

single_forward : {t : List ℕ} {i j : ℕ} {x : List ℕ} → SingleChar t i j x → i < j
single_forward {t} {i} {j} {x} a = go (single_written a) where
  go : SingleWritten t i j x → i < j
  go (as_pair a b p q) = omega arith
  go (as_itself n e p q) = let f = next_later t i in omega arith

pub single_functional : (t : List ℕ) → Functional (SingleChar t)
single_functional t = record { one_end = λ a b. (single_same a b).0; one_meaning = λ a b. (single_same a b).1; forward = λ a. single_forward a }

char_no_break : {t : List ℕ} {k l : ℕ} {z : List ℕ} → SingleChar t k l z → Nowhere (Break t k)
char_no_break {t} {k} {l} {z} a = go (single_written a) where
  json : (d : ℕ) → is_nb_json d ≡ false → is_nb_json (code t k) ≡ true → code t k ≢ d
  json d n e q = true≢false (sym e ∙ ap is_nb_json q ∙ n)

  go : SingleWritten t k l z → Nowhere (Break t k)
  go (as_pair a b p q) = no_break_here t k (λ f. omega arith) (λ f. omega arith)
  go (as_itself n e p q) = no_break_here t k (json 13 json_cr e) (json 10 json_lf e)

pub place_no_break : {t : List ℕ} {k : ℕ} → ((l : ℕ) × (z : List ℕ) × SingleChar t k l z) ⊎ (code t k ≡ 39) → Nowhere (Break t k)
place_no_break (inl c) = char_no_break c.2
place_no_break {t} {k} (inr q) = no_break_here t k (λ f. omega arith) (λ f. omega arith)

-- a gap by its kind
data View (t : List ℕ) (o : Option ℕ) (i j : ℕ) (x : List ℕ) : Type 0 where
  whites_alone : Many t is_white i j x → is_white (code t j) ≡ false → View t o i j x
  one_fold : (w : ℕ) → o ≡ Some w → FlowFolded t (pos w) i j x → is_white (code t j) ≡ false → View t o i j x

view : {t : List ℕ} (o : Option ℕ) {i j : ℕ} {x : List ℕ} → Gap t as_they_are (SingleBreaks t o) i j x → View t o i j x
view o (by_whites m n) = whites_alone m n
view None (by_break b n) = absurd b
view (Some w) (by_break b n) = one_fold w refl b n

to_fold : {t : List ℕ} {n : ℤ} {i j : ℕ} {x : List ℕ} → FlowFolded t n i j x → is_white (code t j) ≡ false → Nowhere (Break t j) → FoldsTo t n i j x
to_fold f w g = record { folded = f; no_white = w; no_break = g }

fold_from : {t : List ℕ} {o : Option ℕ} {i k v w : ℕ} {y : List ℕ} → o ≡ Some v → o ≡ Some w → FlowFolded t (pos v) i k y → FlowFolded t (pos w) i k y
fold_from {t} {i = i} {k = k} {y = y} a b f = subst (λ u. FlowFolded t (pos u) i k y) (same_value a b) f

whites_view : {t : List ℕ} {o : Option ℕ} {i j k : ℕ} {x y : List ℕ} → Many t is_white i j x → is_white (code t j) ≡ false → (IsSome o → Nowhere (Break t j))
    → View t o i k y → Nowhere (Break t k) → (k ≡ j) × (y ≡ x)
whites_view {t} m n b (whites_alone v f) g = many_unique t is_white v f m n
whites_view m n b (one_fold w e f v) g = absurd (fold_not_item m (b (is_some w e)) n (to_fold f v g))

fold_view : {t : List ℕ} {o : Option ℕ} {w i j k : ℕ} {x y : List ℕ} → FoldsTo t (pos w) i j x → o ≡ Some w → View t o i k y → Nowhere (Break t k) → (k ≡ j) × (y ≡ x)
fold_view f s (whites_alone v e) g = absurd (fold_not_item v g e f)
fold_view {t} {w = w} f s (one_fold v e d n) g =
    let u = folds_functional t (pos w) in
    let c = to_fold (fold_from e s d) n g in
    (u.one_end c f, u.one_meaning c f)

ends : {t : List ℕ} (o : Option ℕ) {i j k : ℕ} {x y : List ℕ} → View t o i j x → Nowhere (Break t j) → View t o i k y → Nowhere (Break t k) → (j ≡ k) × (x ≡ y)
ends o (whites_alone m n) g b h = let s = whites_view m n (λ e. g) b h in (sym s.0, sym s.1)
ends o (one_fold w e f n) g b h = let s = fold_view (to_fold f n g) e b h in (sym s.0, sym s.1)

order : {t : List ℕ} {o : Option ℕ} {i j : ℕ} {x : List ℕ} → View t o i j x → i ≤ j
order {t} (whites_alone m n) = chain_forward (one_functional t is_white) m
order (one_fold w e f n) = fold_order f

pub single_laws : (t : List ℕ) (o : Option ℕ) → Laws t as_they_are (SingleChar t) (SingleBreaks t o) 39
single_laws t o = record {
  chars = single_functional t;
  ends = λ i j k x y a g b h. ends o (view o a) (place_no_break g) (view o b) (place_no_break h);
  order = λ i j x a. order (view o a);
}

pub single_means : (t : List ℕ) → Means t as_they_are (SingleChar t) 39
single_means t = record {
  nothing = refl;
  append = λ x y. refl;
  white = λ i j x e c. white_char e (single_written c);
  is_char = λ i e. let w = white_cases (code t i) e in unquoted (white_json (code t i) e) (λ q. omega (arith, w));
  no_white = white_single;
} where
  white_char : {i j : ℕ} {x : List ℕ} → is_white (code t i) ≡ true → SingleWritten t i j x → (next t i ≡ j) × (x ≡ code t i ∷ [])
  white_char {i} e (as_pair a b p q) = absurd (true≢false (sym e ∙ ap is_white a ∙ white_single))
  white_char e (as_itself n f p q) = (p, q)

pub single_kind : (t : List ℕ) → Kind t as_they_are (SingleChar t) (FlowFolded t) (SingleBreaks t) 39
single_kind t = record {
  laws = single_laws t;
  means = single_means t;
  on_line = λ i j x b. b;
  to_width = λ w i j x b. b;
  from_width = λ w i j x b. b;
  negative = λ n i j x l b. no_negative_fold l b;
  low = omega arith;
}

-- the only gap from i after which the scalar can go on; it ends at j
pub record SingleGap (t : List ℕ) (o : Option ℕ) (i blank_end : ℕ) (space : Bool) (feeds j : ℕ) : Type 0 where
  pub text : List ℕ
  pub gap : Gap t as_they_are (SingleBreaks t o) i j text
  pub only : (k : ℕ) (y : List ℕ) → Gap t as_they_are (SingleBreaks t o) i k y → Nowhere (Break t k) → (k ≡ j) × (y ≡ text)
  pub bytes : gap_bytes t i blank_end space feeds ≡ encode_utf8_all text
  pub clear : Clear t i j

to_breaks : {t : List ℕ} {o : Option ℕ} {i k : ℕ} {y : List ℕ} (w : ℕ) → o ≡ Some w → FlowFolded t (pos w) i k y → SingleBreaks t o i k y
to_breaks {t} {o} {i} {k} {y} w e b = subst (λ v. SingleBreaks t v i k y) (sym e) b

pub single_of_plain : {t : List ℕ} {o : Option ℕ} {i blank_end feeds j : ℕ} {space : Bool} → IsUtf8 t → blank_end ≤ length t
    → PlainGap t o i blank_end space feeds j → SingleGap t o i blank_end space feeds j
single_of_plain {t} {o} {i} u l (of_whites {j = j} {x = x} m n b) = record {
  text = x;
  gap = by_whites m n;
  only = λ k y g c. whites_view m n b (view o g) c;
  bytes = append-nil (take (j - i) (drop i t)) ∙ spelled_slice l (spelled_whites u m);
  clear = clear_whites u m;
}
single_of_plain {t} {o} {i} u l (of_fold {feeds = feeds} {j = j} w s f) = record {
  text = fold_text feeds;
  gap = by_break (to_breaks w s f.folded) f.no_white;
  only = λ k y g c. fold_view f s (view o g) c;
  bytes = fold_gap_bytes t i feeds;
  clear = clear_fold u f;
}

pub record NoSingleGap (t : List ℕ) (o : Option ℕ) (i : ℕ) : Type 0 where
  pub none : (k : ℕ) (y : List ℕ) → Gap t as_they_are (SingleBreaks t o) i k y → Nowhere (Break t k) → ⊥

pub no_single_of_plain : {t : List ℕ} {o : Option ℕ} {i : ℕ} → NoPlainGap t o i → NoSingleGap t o i
no_single_of_plain {t} {o} {i} (at_break {j = j} {k = l} w s m b stuck) = record { none = λ k y g c. go (view o g) c } where
  go : {k : ℕ} {y : List ℕ} → View t o i k y → Nowhere (Break t k) → ⊥
  go {k} (whites_alone v e) g =
      let same = many_unique t is_white m (break_no_white b) v e in
      g.none l (subst (λ h. Break t h l) same.0 b)
  go {k} {y} (one_fold v e f n) g = stuck.none k y (to_fold (fold_from e s f) n g)
