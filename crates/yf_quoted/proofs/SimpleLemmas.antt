-- Ordinary characters represent themselves, and the reader takes runs of them at once.
use Rattle.std.proofs.Common.{◌≡◌, ◌≢◌, ℕ, zero, suc, ◌+◌, ◌-◌, ◌<◌, ◌≤◌, false, true, List, [], ◌∷◌, ◌++◌, Option, refl, sym, ap, ◌∙◌, subst, arith, get_or, length, encode_utf8_all, slice_range}
use Rattle.std.proofs.lemmas.Bool.Decides.{nat_tests}
use Rattle.std.specs.Str.{IsCharBoundary, IsUtf8}
use Rattle.yf_chars.specs.Class.{is_white, is_nb_json, is_between}
use Rattle.yf_chars.specs.Chain.{Chain, Many}
use Rattle.yf_chars.specs.Chain.Chain.{done}
use Rattle.yf_chars.specs.Common.{is_common}
use Rattle.yf_chars.specs.Lanes.{LaneRun}
use Rattle.yf_chars.specs.Text.{code, CharAt}
use Rattle.yf_chars.proofs.ChainLemmas.{chain_append, chain_more, many_more}
use Rattle.yf_chars.proofs.CommonLemmas.{common_below}
use Rattle.yf_chars.proofs.TextLemmas.{reads_ascii}
use Rattle.yf_lines.specs.Basic.{ForbiddenLine}
use Rattle.yf_lines.proofs.SearchLemmas.{no_start_past}
use Rattle.yf_lines.proofs.BasicLemmas.{clear_join}
use Rattle.yf_lines.proofs.ClearLemmas.{clear_whites, not_forbidden, Spelled, spelled_nothing, spelled_join, spelled_char, spelled_whites, spelled_slice}
use Rattle.yf_quoted.specs.Body.{Step, DoubleBreaks, Simple, SimpleChar}
use Rattle.yf_quoted.specs.Body.SimpleChar.{simply}
use Rattle.yf_quoted.specs.Body.Gap.{by_whites}
use Rattle.yf_quoted.specs.Ordinary.{is_ordinary, Words}
use Rattle.yf_quoted.specs.Quoted.{DoubleChar, goods, text_of}
use Rattle.yf_quoted.specs.Quoted.Piece.{good}
use Rattle.yf_quoted.proofs.DoubleLemmas.{goods_append}
use Rattle.yf_quoted.proofs.GapLemmas.{text_of_goods, no_bad_goods}
use Rattle.yf_quoted.proofs.ReadLemmas.{SoFar, simple_char, pieces_bytes, bad_none}

ordinary_below : (c : ℕ) → is_ordinary c ≡ true → c < 128
unfolding is_ordinary is_between
ordinary_below c e = grind (arith, nat_tests)

ordinary_json : (c : ℕ) → is_ordinary c ≡ true → is_nb_json c ≡ true
unfolding is_ordinary is_between is_nb_json
ordinary_json c e = grind (arith, nat_tests)

ordinary_no_backslash : (c : ℕ) → is_ordinary c ≡ true → c ≢ 92
unfolding is_ordinary is_between
ordinary_no_backslash c e q = grind (arith, nat_tests)

ordinary_no_quote : (c : ℕ) → is_ordinary c ≡ true → c ≢ 34
unfolding is_ordinary is_between
ordinary_no_quote c e q = grind (arith, nat_tests)

ordinary_no_dash : (c : ℕ) → is_ordinary c ≡ true → c ≢ 45
unfolding is_ordinary is_between
ordinary_no_dash c e q = grind (arith, nat_tests)

ordinary_no_dot : (c : ℕ) → is_ordinary c ≡ true → c ≢ 46
unfolding is_ordinary is_between
ordinary_no_dot c e q = grind (arith, nat_tests)

-- bytes of ordinary characters
pub ordinary_at : (t : List ℕ) (i : ℕ) → IsUtf8 t → i < length t → is_ordinary (get_or t i 0) ≡ true → Simple t i (i + 1)
ordinary_at t i u l e =
    let r = reads_ascii t i u l (ordinary_below (get_or t i 0) e) in
    let o : is_ordinary (code t i) ≡ true = ap is_ordinary r.char ∙ e in
    record {
      json = ordinary_json (code t i) o;
      no_backslash = ordinary_no_backslash (code t i) o;
      no_quote = ordinary_no_quote (code t i) o;
      reads = subst (λ c. CharAt t i c (i + 1)) (sym r.char) r;
      allowed = not_forbidden t i (ordinary_no_dash (code t i) o) (ordinary_no_dot (code t i) o);
    }

-- no forbidden line begins after a printable ASCII character
visible_from : (c : ℕ) → is_between 0x20 0x7E c ≡ true → 32 ≤ c
unfolding is_between
visible_from c e = grind (arith, nat_tests)

visible_upto : (c : ℕ) → is_between 0x20 0x7E c ≡ true → c ≤ 126
unfolding is_between
visible_upto c e = grind (arith, nat_tests)

pub allowed_after : (t : List ℕ) (i : ℕ) → IsUtf8 t → i ≢ 0 → i ≤ length t → is_between 0x20 0x7E (get_or t (i - 1) 0) ≡ true → ForbiddenLine t i → ⊥
allowed_after t i u z w e f =
    no_start_past t i u z w (visible_from (get_or t (i - 1) 0) e) (visible_upto (get_or t (i - 1) 0) e) f.start

-- bytes of ASCII characters other than " and \: no line starts after them, and so no forbidden line begins there
common_json : (c : ℕ) → is_common c ≡ true → is_nb_json c ≡ true
unfolding is_common is_between is_nb_json
common_json c e = grind (arith, nat_tests)

common_no_backslash : (c : ℕ) → is_common c ≡ true → c ≢ 92
unfolding is_common is_between
common_no_backslash c e q = grind (arith, nat_tests)

common_no_quote : (c : ℕ) → is_common c ≡ true → c ≢ 34
unfolding is_common is_between
common_no_quote c e q = grind (arith, nat_tests)

common_from : (c : ℕ) → is_common c ≡ true → 32 ≤ c
unfolding is_common is_between
common_from c e = grind (arith, nat_tests)

common_upto : (c : ℕ) → is_common c ≡ true → c ≤ 126
unfolding is_common is_between
common_upto c e = grind (arith, nat_tests)

common_at : (t : List ℕ) (i : ℕ) → IsUtf8 t → i < length t → is_common (get_or t i 0) ≡ true → (ForbiddenLine t i → ⊥) → Simple t i (i + 1)
common_at t i u l e f =
    let r = reads_ascii t i u l (common_below (get_or t i 0) e) in
    let o : is_common (code t i) ≡ true = ap is_common r.char ∙ e in
    record {
      json = common_json (code t i) o;
      no_backslash = common_no_backslash (code t i) o;
      no_quote = common_no_quote (code t i) o;
      reads = subst (λ c. CharAt t i c (i + 1)) (sym r.char) r;
      allowed = f;
    }

pub record SimpleRun (t : List ℕ) (i j : ℕ) : Type 0 where
  pub reads : (x : List ℕ) × Chain (SimpleChar t) i j x
  pub boundary : IsCharBoundary t j

simple_more : {t : List ℕ} {i j : ℕ} → SimpleRun t i j → Simple t j (j + 1) → SimpleRun t i (j + 1)
simple_more r s = record { reads = (_, chain_more r.reads.1 (simply s)); boundary = s.reads.boundary }

module _ (t : List ℕ) (i : ℕ) (u : IsUtf8 t) (first : ForbiddenLine t i → ⊥) where
  allowed_on : (n : ℕ) → i + n < length t → ((k : ℕ) → i ≤ k → k < i + n → is_common (get_or t k 0) ≡ true) → ForbiddenLine t (i + n) → ⊥
  allowed_on zero l p f =
      let same : i + 0 ≡ i = omega arith in
      first (subst (λ k. ForbiddenLine t k) same f)
  allowed_on (suc n) l p f =
      let same : i + suc n - 1 ≡ i + n = omega arith in
      let last = ap (λ k. get_or t k 0) same in
      let c = p (i + n) (omega arith) (omega arith) in
      let low = common_from (get_or t (i + n) 0) c in
      let high = common_upto (get_or t (i + n) 0) c in
      no_start_past t (i + suc n) u (λ z. omega arith) (omega arith) (omega (arith, last, low)) (omega (arith, last, high)) f.start

  run_on : (n : ℕ) → i + n ≤ length t → ((k : ℕ) → i ≤ k → k < i + n → is_common (get_or t k 0) ≡ true) → SimpleRun t i i → SimpleRun t i (i + n)
  run_on zero w p r = subst (λ j. SimpleRun t i j) (omega arith) r
  run_on (suc n) w p r =
      let before : (k : ℕ) → i ≤ k → k < i + n → is_common (get_or t k 0) ≡ true = λ k l m. p k l (omega arith) in
      let here : SimpleRun t i (i + n) = run_on n (omega arith) before r in
      let next : i + n + 1 ≡ i + suc n = omega arith in
      subst (λ j. SimpleRun t i j) next
      (simple_more here (common_at t (i + n) u (omega arith) (p (i + n) (omega arith) (omega arith)) (allowed_on n (omega arith) before)))

pub run_found : (t b : List ℕ) (i n : ℕ) → b ≡ t → IsUtf8 t → i + 16 ≤ length t → (ForbiddenLine t i → ⊥) → LaneRun is_common b i n → IsCharBoundary t i
    → SimpleRun t i (i + n)
run_found t b i n e u w f r z =
    let few = r.few in
    run_on t i u f n (omega arith) (λ k l m. sym (ap (λ v. is_common (get_or v k 0)) e) ∙ r.pass k l m)
    (record { reads = (_, done); boundary = z })

-- the words so far
pub record WordsSoFar (t : List ℕ) (i j : ℕ) : Type 0 where
  pub text : List ℕ
  pub steps : (o : Option ℕ) → Chain (Step t goods (DoubleChar t) (DoubleBreaks t o)) i j (goods text)
  pub spelled : Spelled t i j text

pub no_words : (t : List ℕ) (i : ℕ) → WordsSoFar t i i
no_words t i = record { text = []; steps = λ o. done; spelled = spelled_nothing t i }

pub words_more : {t : List ℕ} {i h j k : ℕ} → IsUtf8 t → WordsSoFar t i h → (x : List ℕ) × Many t is_white h j x → is_white (code t j) ≡ false → Simple t j k
    → WordsSoFar t i k
words_more {t} {i} {h} {j} {k} u w m n s =
    let c = code t j in
    let x = m.0 in
    let char = simple_char u s refl in
    let same : goods w.text ++ (goods x ++ good c ∷ []) ≡ goods (w.text ++ (x ++ c ∷ [])) =
    ap (λ v. goods w.text ++ v) (sym (goods_append x (c ∷ []))) ∙ sym (goods_append w.text (x ++ c ∷ [])) in
    record {
      text = w.text ++ (x ++ c ∷ []);
      steps = λ o. subst (λ v. Chain (Step t goods (DoubleChar t) (DoubleBreaks t o)) i k v) same
          (chain_more (w.steps o) (record { at = j; front = goods x; char = good c ∷ []; gap = by_whites m.1 n; is = char.0; clear = clear_join (clear_whites u m.1) char.1; text = refl }));
      spelled = spelled_join w.spelled (spelled_join (spelled_whites u m.1) (spelled_char s.reads));
    }

pub whites_more : {t : List ℕ} {i j k : ℕ} → (x : List ℕ) × Many t is_white i j x → CharAt t j (code t j) k → true ≡ is_white (code t j)
    → (x : List ℕ) × Many t is_white i k x
whites_more {t} {i} {j} {k} m r e = (_, subst (λ h. Many t is_white i h (m.0 ++ code t j ∷ [])) r.end (many_more t is_white m.1 (sym e)))

pub words_found : {t : List ℕ} {i j : ℕ} → j ≤ length t → WordsSoFar t i j → Words t i j
words_found l w = record { text = w.text; steps = w.steps; bytes = spelled_slice l w.spelled }

-- the text so far, and words after it
pub words_read : {t : List ℕ} {o : Option ℕ} {i j k : ℕ} {bytes more slice wrong : List ℕ} → SoFar t o i j bytes wrong → Words t j k
    → more ≡ bytes ++ slice → slice ≡ slice_range t j k → SoFar t o i k more wrong
words_read {t} {o} {j = j} {k} {slice = slice} s w e q = record {
  text = s.text ++ goods w.text;
  steps = chain_append s.steps (w.steps o);
  is = e ∙ ap (λ v. v ++ slice) s.is ∙ ap (λ v. encode_utf8_all (text_of s.text) ++ v) (q ∙ w.bytes ∙ ap encode_utf8_all (sym (text_of_goods w.text)))
      ∙ sym (pieces_bytes s.text (goods w.text));
  escapes = s.escapes ∙ sym (bad_none s.text (goods w.text) (no_bad_goods w.text));
}
