-- Laws for the reader of single-quoted scalars, which keeps the last offset at which the first of two quotes may close
-- the scalar.
use Rattle.std.proofs.Common.{◌≡◌, ◌≢◌, ℕ, ◌+◌, ◌-◌, ◌<◌, ◌≤◌, ℤ, Bool, true, false, List, [], ◌∷◌, ◌++◌, Option, Some, None, MatchOption, MatchBool, IsSomeAnd, if◌then◌else◌, refl, sym, ap, ◌∙◌, subst, inl, inr, arith, append_assoc, append-nil, encode_utf8_all, encode_utf8, length, take, drop}
use Rattle.std.proofs.Math.Seq.{take-append_seam}
use Rattle.std.proofs.lemmas.Bool.{true≢false}
use Rattle.std.proofs.lemmas.Str.{encodes-append}
use Rattle.std.specs.Str.{IsUtf8}
use Rattle.std.proofs.lemmas.Option.{same_Some}
use Rattle.yf_chars.specs.declared.context.Ctx.{Ctx}
use Rattle.yf_chars.specs.Text.{code, next, CharAt, no_char}
use Rattle.yf_chars.specs.Class.{is_nb_json}
use Rattle.yf_chars.specs.Chain.{Chain, Stuck, Chosen}
use Rattle.yf_chars.specs.Chain.Chain.{done, step}
use Rattle.yf_chars.proofs.ChainLemmas.{chain_more}
use Rattle.yf_lines.specs.Basic.{Clear, ForbiddenLine}
use Rattle.yf_chars.proofs.TextLemmas.{next_later, next_ascii, reads_real}
use Rattle.yf_chars.proofs.CharBounds.{json_below}
use Rattle.yf_chars.proofs.CharFacts.{end_no_json}
use Rattle.yf_lines.proofs.BasicLemmas.{clear_join, clear_back, clear_nothing}
use Rattle.yf_lines.proofs.ClearLemmas.{clear_char, Spelled, spelled_nothing, spelled_join, spelled_char, spelled_slice}
use Rattle.yf_quoted.specs.declared.single.Mark.{Mark}
use Rattle.yf_quoted.specs.declared.single.Single.{Single}
use Rattle.yf_lines.specs.Text.{text_bytes}
use Rattle.yf_quoted.specs.Quoted.{SingleChar, SingleQuoted, as_they_are}
use Rattle.yf_quoted.specs.Quoted.SingleChar.{doubled, unquoted}
use Rattle.yf_quoted.specs.Body.{Gap, Step, Body, SingleBreaks, NoSingleChar, SingleRead, NoSingleBody, WidthOf, gap_bytes}
use Rattle.yf_quoted.proofs.BodyLemmas.{chars_body}
use Rattle.yf_quoted.proofs.CloseLemmas.{NoLonger, Closed, Within, Best, close_longest, best_nothing, best_more, best_mark, best_last}
use Rattle.yf_quoted.proofs.CloseLemmas.Within.{known}
use Rattle.yf_quoted.proofs.ScalarLemmas.{clear_byte, body_map, body_quoted, quoted_body}
use Rattle.yf_quoted.proofs.SingleLemmas.{SingleWritten, single_written, single_functional, single_means, single_laws, single_kind, place_no_break, SingleGap, NoSingleGap}
use Rattle.yf_quoted.proofs.SingleLemmas.SingleWritten.{as_pair, as_itself}

-- characters
pub no_single_end : {t : List ℕ} {i : ℕ} → code t i ≡ no_char → NoSingleChar t i
no_single_end {t} {i} e = record { none = λ j y d a. go (single_written d) } where
  go : {j : ℕ} {y : List ℕ} → SingleWritten t i j y → ⊥
  go (as_pair a b p q) = omega arith
  go (as_itself n f p q) = true≢false (sym f ∙ ap is_nb_json e ∙ end_no_json)

pub no_single_half : {t : List ℕ} {i : ℕ} → code t i ≡ 39 → code t (i + 1) ≢ 39 → Stuck (SingleChar t i)
no_single_half {t} {i} e n = record { none = λ j y d. go (single_written d) } where
  go : {j : ℕ} {y : List ℕ} → SingleWritten t i j y → ⊥
  go (as_pair a b p q) = n b
  go (as_itself m f p q) = m e

pub no_single_other : {t : List ℕ} {i : ℕ} → code t i ≢ 39 → (is_nb_json (code t i) ≡ true → (ForbiddenLine t i → ⊥) → ⊥) → NoSingleChar t i
no_single_other {t} {i} n h = record { none = λ j y d a. go (single_written d) a } where
  go : {j : ℕ} {y : List ℕ} → SingleWritten t i j y → Clear t i j → ⊥
  go (as_pair a b p q) c = n a
  go (as_itself m f p q) c = let l = next_later t i in h f (λ g. c.none i (omega arith) (omega arith) g)

-- two quotes: the first is read as a character that ends at j
quote_end : {t : List ℕ} {i c j : ℕ} → CharAt t i c j → c ≡ 39 → j ≡ i + 1
quote_end {t} {i} r e = let q : code t i ≡ 39 = r.char ∙ e in sym r.end ∙ next_ascii t i (omega arith)

pub pair_char : {t : List ℕ} {i c j : ℕ} → IsUtf8 t → CharAt t i c j → c ≡ 39 → code t j ≡ 39 → SingleChar t i (j + 1) (c ∷ []) × Clear t i (j + 1)
pair_char {t} {i} {c} {j} u r e f =
    let end = quote_end r e in
    let a : code t i ≡ 39 = r.char ∙ e in
    let b : code t (i + 1) ≡ 39 = ap (code t) (sym end) ∙ f in
    let place : i + 2 ≡ j + 1 = omega arith in
    let place' : i + 1 + 1 ≡ j + 1 = omega arith in
    let here : SingleChar t i (j + 1) (39 ∷ []) = subst (λ k. SingleChar t i k (39 ∷ [])) place (doubled a b) in
    (subst (λ v. SingleChar t i (j + 1) (v ∷ [])) (sym e) here, subst (λ k. Clear t i k) place' (clear_join (clear_byte u a (omega arith)) (clear_byte u b (omega arith))))

pub half_char : {t : List ℕ} {i c j : ℕ} → CharAt t i c j → c ≡ 39 → code t j ≢ 39 → NoSingleChar t i
half_char {t} {i} r e n =
    let end = quote_end r e in
    let s = no_single_half (r.char ∙ e) (λ b. n (ap (code t) end ∙ b)) in
    record { none = λ j y d a. s.none j y d }

pub own_char : {t : List ℕ} {i c j : ℕ} → IsUtf8 t → CharAt t i c j → is_nb_json c ≡ true → c ≢ 39 → (ForbiddenLine t i → ⊥) → SingleChar t i j (c ∷ []) × Clear t i j
own_char {t} {i} {c} {j} u r e n f =
    let is : SingleChar t i (next t i) (code t i ∷ []) = unquoted (ap is_nb_json r.char ∙ e) (λ q. n (sym r.char ∙ q)) in
    let to : SingleChar t i j (code t i ∷ []) = subst (λ k. SingleChar t i k (code t i ∷ [])) r.end is in
    (subst (λ v. SingleChar t i j (v ∷ [])) r.char to, clear_char u r f)

-- a quote that begins no character closes the scalar
stuck_at_quote : {t : List ℕ} {i : ℕ} → IsUtf8 t → code t i ≡ 39 → NoSingleChar t i → Stuck (SingleChar t i)
stuck_at_quote {t} {i} u e n = record { none = λ j y d. go j y d (single_written d) } where
  go : (j : ℕ) (y : List ℕ) → SingleChar t i j y → SingleWritten t i j y → ⊥
  go j y d (as_pair a b p q) = n.none j y d (subst (λ k. Clear t i k) p (pair_clear a b)) where
    pair_clear : code t i ≡ 39 → code t (i + 1) ≡ 39 → Clear t i (i + 2)
    pair_clear a b =
        let place : i + 1 + 1 ≡ i + 2 = omega arith in
        subst (λ k. Clear t i k) place (clear_join (clear_byte u a (omega arith)) (clear_byte u b (omega arith)))
  go j y d (as_itself m f p q) = m e

-- a mark and the body that is closed there
pub data Fits (bs : List ℕ) : Option Mark → Option (Closed ℕ) → Type 0 where
  no_mark : Fits bs None None
  at_mark : {m : Mark} {c : Closed ℕ} → m.end ≡ c.close + 1 → m.len ≡ length (encode_utf8_all c.text) → (r : List ℕ) → bs ≡ encode_utf8_all c.text ++ r
      → Fits bs (Some m) (Some c)

fits_more : {bs ds : List ℕ} {o : Option Mark} {b : Option (Closed ℕ)} (r : List ℕ) → Fits bs o b → ds ≡ bs ++ r → Fits ds o b
fits_more r no_mark e = no_mark
fits_more r (at_mark {c = c} a l q f) e = at_mark a l (q ++ r) (e ∙ ap (λ w. w ++ r) f ∙ append_assoc (encode_utf8_all c.text) q r)

-- the text so far
pub record SingleSoFar (t : List ℕ) (o : Option ℕ) (i j : ℕ) (bytes : List ℕ) (mark : Option Mark) : Type 0 where
  pub text : List ℕ
  pub steps : Chain (Step t as_they_are (SingleChar t) (SingleBreaks t o)) i j text
  pub is : bytes ≡ encode_utf8_all text
  pub best : Option (Closed ℕ)
  pub known : Best t as_they_are (SingleChar t) (SingleBreaks t o) 39 i j text best
  pub fits : Fits bytes mark best

pub single_nothing : {t : List ℕ} {o : Option ℕ} {bytes : List ℕ} (i : ℕ) → bytes ≡ [] → SingleSoFar t o i i bytes None
single_nothing i e = record { text = []; steps = done; is = e; best = None; known = best_nothing i; fits = no_mark }

text_bytes_more : (x y : List ℕ) {bytes more gap : List ℕ} → bytes ≡ encode_utf8_all x → gap ≡ encode_utf8_all y → more ≡ bytes ++ gap → more ≡ encode_utf8_all (x ++ y)
text_bytes_more x y {bytes} {more} {gap} a b e = e ∙ ap (λ w. w ++ gap) a ∙ ap (λ w. encode_utf8_all x ++ w) b ∙ sym (encodes-append x y)

pub single_more : {t : List ℕ} {o : Option ℕ} {i j blank_end feeds k l len v : ℕ} {space : Bool} {bytes with_gap with_char : List ℕ} {mark : Option Mark} (d : Bool)
    → SingleSoFar t o i j bytes mark → SingleGap t o j blank_end space feeds k → SingleChar t k l (v ∷ []) × Clear t k l
    → MatchBool d (code t k ≡ 39) (code t k ≢ 39)
    → with_gap ≡ bytes ++ gap_bytes t j blank_end space feeds → with_char ≡ with_gap ++ encode_utf8 v → len ≡ length with_gap
    → SingleSoFar t o i l with_char (if d then Some (record { len = len; end = k + 1 }) else mark)
single_more {t} {o} {i} {j} {blank_end} {feeds} {k} {l} {len} {v} {space} {bytes} {with_gap} {with_char} {mark} d s g c m p q e = go d m where
  one : Step t as_they_are (SingleChar t) (SingleBreaks t o) j l (g.text ++ v ∷ [])
  one = record { at = k; front = g.text; char = v ∷ []; gap = g.gap; is = c.0; clear = clear_join g.clear c.1; text = refl }

  with_text : with_gap ≡ encode_utf8_all (s.text ++ g.text)
  with_text = text_bytes_more s.text g.text s.is g.bytes p

  whole : with_char ≡ encode_utf8_all (s.text ++ (g.text ++ v ∷ []))
  whole = text_bytes_more (s.text ++ g.text) (v ∷ []) with_text (sym (append-nil (encode_utf8 v))) q ∙ ap encode_utf8_all (append_assoc s.text g.text (v ∷ []))

  go : (d : Bool) → MatchBool d (code t k ≡ 39) (code t k ≢ 39) → SingleSoFar t o i l with_char (if d then Some (record { len = len; end = k + 1 }) else mark)
  go true m = record {
    text = s.text ++ (g.text ++ v ∷ []);
    steps = chain_more s.steps one;
    is = whole;
    best = Some (record { close = k; text = s.text ++ g.text });
    known = best_mark (single_laws t o) s.steps s.known one m;
    fits = at_mark refl (e ∙ ap length with_text) (encode_utf8 v) (q ∙ ap (λ w. w ++ encode_utf8 v) with_text);
  }
  go false m = record {
    text = s.text ++ (g.text ++ v ∷ []);
    steps = chain_more s.steps one;
    is = whole;
    best = s.best;
    known = best_more (single_laws t o) s.known one m;
    fits = fits_more (encode_utf8 v) (fits_more (gap_bytes t j blank_end space feeds) s.fits p) q;
  }

pub single_closed : {t : List ℕ} {o : Option ℕ} {i j blank_end feeds k : ℕ} {space : Bool} {bytes with_gap : List ℕ} {mark : Option Mark} → IsUtf8 t
    → SingleSoFar t o i j bytes mark → SingleGap t o j blank_end space feeds k → code t k ≡ 39 → NoSingleChar t k
    → with_gap ≡ bytes ++ gap_bytes t j blank_end space feeds → SingleRead t o i with_gap (k + 1)
single_closed {t} {o} {i} {j} {k = k} u s g q n p = record {
  text = s.text ++ g.text;
  close = k;
  body = whole;
  end = refl;
  is = text_bytes_more s.text g.text s.is g.bytes p;
  longest = λ m y b. let r = close_longest (single_laws t o) (stuck_at_quote u q n) whole b in (r.within, r.same);
} where
  whole : Body t as_they_are (SingleChar t) (SingleBreaks t o) 39 i k (s.text ++ g.text)
  whole = record { at = j; front = s.text; last = g.text; steps = s.steps; gap = g.gap; clear = g.clear; closing = q; text = refl }

-- nothing goes on
gapless : {t : List ℕ} {o : Option ℕ} {j m k : ℕ} {x y : List ℕ} → NoSingleGap t o j → Chain (Step t as_they_are (SingleChar t) (SingleBreaks t o)) j m x
    → Gap t as_they_are (SingleBreaks t o) m k y → code t k ≡ 39 → ⊥
gapless {k = k} {y = y} n done g q = n.none k y g (place_no_break (inr q))
gapless n (step {h = h} s c) g q = n.none s.at s.front s.gap (place_no_break (inl (h, s.char, s.is)))

pub no_gap_on : {t : List ℕ} {o : Option ℕ} {j : ℕ} → NoSingleGap t o j → NoSingleBody t o j
no_gap_on n = record { none = λ k y b. gapless n b.steps b.gap b.closing }

charless : {t : List ℕ} {o : Option ℕ} {j blank_end feeds p m k : ℕ} {space : Bool} {x y : List ℕ} → SingleGap t o j blank_end space feeds p → code t p ≢ 39 → NoSingleChar t p
    → j ≤ p → Chain (Step t as_they_are (SingleChar t) (SingleBreaks t o)) j m x → Gap t as_they_are (SingleBreaks t o) m k y → code t k ≡ 39 → ⊥
charless {t} {k = k} {y = y} s n c l done g q = n (ap (code t) (sym (s.only k y g (place_no_break (inr q))).0) ∙ q)
charless {t} s n c l (step {h = h} r d) g q =
    let same = s.only r.at r.front r.gap (place_no_break (inl (h, r.char, r.is))) in
    c.none h r.char (subst (λ k. SingleChar t k h r.char) same.0 r.is) (clear_back l r.clear)

pub no_char_on : {t : List ℕ} {o : Option ℕ} {j blank_end feeds p : ℕ} {space : Bool} → SingleGap t o j blank_end space feeds p → code t p ≢ 39 → NoSingleChar t p
    → NoSingleBody t o j
no_char_on {t} {o} {j} {p = p} s n c = let l = (single_laws t o).order j p s.text s.gap in record { none = λ k y b. charless s n c l b.steps b.gap b.closing }

-- the scalar up to the mark
which : {k : ℕ} {y : List ℕ} {best : Option (Closed ℕ)} → Within k y best → (c : Closed ℕ) × (best ≡ Some c) × NoLonger c.close c.text k y
which (known {c = c} w) = (c, refl, w)

pub cut_read : {t : List ℕ} {o : Option ℕ} {i j : ℕ} {bytes longer : List ℕ} {mark : Option Mark} (r : Option Single) (more : List ℕ) → SingleSoFar t o i j bytes mark → NoSingleBody t o j
    → longer ≡ bytes ++ more → MatchOption mark (r ≡ None) (λ m. IsSomeAnd r (λ w. (w.end ≡ m.end) × (text_bytes w.text ≡ take m.len longer)))
    → MatchOption r (NoSingleBody t o i) (λ w. SingleRead t o i (text_bytes w.text) w.end)
cut_read {t} {o} {i} {j} {bytes} {longer} {mark} r more s n e h = go r s.known (fits_more more s.fits e) h where
  go : {mark : Option Mark} (r : Option Single) {best : Option (Closed ℕ)} → Best t as_they_are (SingleChar t) (SingleBreaks t o) 39 i j s.text best → Fits longer mark best
      → MatchOption mark (r ≡ None) (λ m. IsSomeAnd r (λ w. (w.end ≡ m.end) × (text_bytes w.text ≡ take m.len longer)))
      → MatchOption r (NoSingleBody t o i) (λ w. SingleRead t o i (text_bytes w.text) w.end)
  go r b no_mark h = rw h (record { none = λ k y d. never (which (best_last b n.none d)) }) where
    never : {k : ℕ} {y : List ℕ} → (c : Closed ℕ) × (None ≡ Some c) × NoLonger c.close c.text k y → ⊥
    never w = let e = w.1 in cc
  go None b (at_mark a l q f) h = absurd h
  go (Some w) b (at_mark {m = m} {c = c} a l q f) h = record {
    text = c.text;
    close = c.close;
    body = (b.derived c refl).0;
    end = sym (h.0 ∙ a);
    is = h.1 ∙ ap (λ k. take k longer) l ∙ ap (take (length (encode_utf8_all c.text))) f ∙ take-append_seam (encode_utf8_all c.text) q;
    longest = λ k y d. of_known (which (best_last b n.none d));
  } where
    of_known : {k : ℕ} {y : List ℕ} → (d : Closed ℕ) × (Some c ≡ Some d) × NoLonger d.close d.text k y → (k ≤ c.close) × (k ≡ c.close → y ≡ c.text)
    of_known {k} {y} w = let same = subst (λ (d : Closed ℕ). NoLonger d.close d.text k y) (sym (same_Some _ _ w.1)) w.2 in (same.within, same.same)

-- whole scalars
pub single_chosen : {t : List ℕ} {n : ℤ} {c : Ctx} {o : Option ℕ} {i j : ℕ} {x : List ℕ} → IsUtf8 t → WidthOf n c o → code t i ≡ 39
    → Body t as_they_are (SingleChar t) (SingleBreaks t o) 39 (i + 1) j x
    → ((k : ℕ) (y : List ℕ) → Body t as_they_are (SingleChar t) (SingleBreaks t o) 39 (i + 1) k y → (k ≤ j) × (k ≡ j → y ≡ x))
    → Chosen (SingleQuoted t n c i) (j + 1) x
single_chosen {t} u w q b f = record {
  derived = body_quoted (single_kind t) u w q b;
  longest = λ k y d. let r = f d.close y (quoted_body (single_kind t) w d) in let e = d.end in omega (arith, r.0);
  only = λ y d. let r = f d.close y (quoted_body (single_kind t) w d) in let e = d.end in r.1 (omega arith);
}

pub single_read : {t bytes : List ℕ} {n : ℤ} {c : Ctx} {o : Option ℕ} {i j : ℕ} → IsUtf8 t → WidthOf n c o → code t i ≡ 39 → SingleRead t o (i + 1) bytes j
    → (y : List ℕ) × (bytes ≡ encode_utf8_all y) × Chosen (SingleQuoted t n c i) j y
single_read {t} {n = n} {c = c} {i = i} u w q r = (r.text, r.is, subst (λ k. Chosen (SingleQuoted t n c i) k r.text) r.end (single_chosen u w q r.body r.longest))

pub no_single : {t : List ℕ} {n : ℤ} {c : Ctx} {o : Option ℕ} {i : ℕ} → WidthOf n c o → NoSingleBody t o (i + 1) → Stuck (SingleQuoted t n c i)
no_single {t} w b = record { none = λ j y d. b.none d.close y (quoted_body (single_kind t) w d) }

-- characters on one line with a quote after them: it closes the scalar if no quote follows it
line_body : {t : List ℕ} {i j : ℕ} {x : List ℕ} (o : Option ℕ) → Chain (SingleChar t) i j x → Clear t i j → code t j ≡ 39
    → Body t as_they_are (SingleChar t) (SingleBreaks t o) 39 i j x
line_body {t} o d a e = body_map (λ i j x b. absurd b) (chars_body {B = λ i j x. ⊥} (single_functional t) (single_means t) (λ i j x b. b) d e a)

pub line_derived : {t : List ℕ} {n : ℤ} {c : Ctx} {o : Option ℕ} {i j : ℕ} {x : List ℕ} → IsUtf8 t → WidthOf n c o → code t i ≡ 39
    → Chain (SingleChar t) (i + 1) j x → Clear t (i + 1) j → code t j ≡ 39 → SingleQuoted t n c i (j + 1) x
line_derived {t} {o = o} u w q d a e = body_quoted (single_kind t) u w q (line_body o d a e)

pub line_chosen : {t : List ℕ} {n : ℤ} {c : Ctx} {o : Option ℕ} {i j : ℕ} {x : List ℕ} → IsUtf8 t → WidthOf n c o → code t i ≡ 39
    → Chain (SingleChar t) (i + 1) j x → Clear t (i + 1) j → code t j ≡ 39 → code t (j + 1) ≢ 39 → Chosen (SingleQuoted t n c i) (j + 1) x
line_chosen {t} {o = o} u w q d a e m =
    let body = line_body o d a e in
    single_chosen u w q body (λ k y b. let r = close_longest (single_laws t o) (no_single_half e m) body b in (r.within, r.same))

-- characters in a row, and their bytes
pub record Row (t : List ℕ) (i j : ℕ) : Type 0 where
  pub text : List ℕ
  pub chars : Chain (SingleChar t) i j text
  pub clear : Clear t i j
  pub spelled : Spelled t i j text

pub row_nothing : (t : List ℕ) (i : ℕ) → Row t i i
row_nothing t i = record { text = []; chars = done; clear = clear_nothing t i; spelled = spelled_nothing t i }

pub row_more : {t : List ℕ} {i j k v : ℕ} → IsUtf8 t → Row t i j → code t j ≢ 39 → SingleChar t j k (v ∷ []) × Clear t j k → Row t i k
row_more {t} {i} {j} {k} {v} u r n c = record {
  text = r.text ++ v ∷ [];
  chars = chain_more r.chars c.0;
  clear = clear_join r.clear c.1;
  spelled = spelled_join r.spelled (go (single_written c.0));
} where
  go : SingleWritten t j k (v ∷ []) → Spelled t j k (v ∷ [])
  go (as_pair a b p q) = absurd (n a)
  go (as_itself m e p q) =
      let below : code t j < no_char = json_below (code t j) e in
      let read : CharAt t j (code t j) k = subst (λ h. CharAt t j (code t j) h) p (reads_real t j u below) in
      subst (λ x. Spelled t j k x) (sym q) (spelled_char read)

pub row_slice : {t : List ℕ} {i j : ℕ} → j ≤ length t → (r : Row t i j)
    → (x : List ℕ) × Chain (SingleChar t) i j x × Clear t i j × (take (j - i) (drop i t) ≡ encode_utf8_all x)
row_slice l r = (r.text, r.chars, r.clear, spelled_slice l r.spelled)
