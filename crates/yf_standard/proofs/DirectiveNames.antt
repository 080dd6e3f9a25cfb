-- The names YAML and TAG of directives (6.8), as bytes and as characters.
use Rattle.std.proofs.Common.{◌≡◌, ℕ, min, ◌+◌, ◌-◌, ◌<◌, ◌≤◌, Bool, true≢false, List, [], ◌∷◌, length, take, drop, get_or, codes, slice_range, refl, sym, ap, ◌∙◌, subst, ◌⊎◌, inl, inr, ⊎_elim, arith}
use Rattle.std.proofs.lemmas.Bool.{cases_lt}
use Rattle.std.proofs.lemmas.List.{get_or-take, get_or-drop, length-take, length-drop, drop_more}
use Rattle.std.specs.Str.{IsUtf8}
use Rattle.yf_chars.specs.Text.{code}
use Rattle.yf_chars.specs.Class.{is_ns_char}
use Rattle.yf_chars.specs.Chain.{One, Many}
use Rattle.yf_chars.specs.Chain.Chain.{done, step}
use Rattle.yf_chars.specs.Chain.One.{one}
use Rattle.yf_chars.specs.ClassEnds.{no_ns_char}
use Rattle.yf_props.specs.Names.{Run}
use Rattle.yf_standard.proofs.Texts.{some_first}
use Rattle.yf_chars.proofs.TextLemmas.{next_ascii, code-past, code_from_byte, byte_from_code}

yaml_codes : codes "YAML" ≡ 89 ∷ 65 ∷ 77 ∷ 76 ∷ []
yaml_codes = refl

tag_codes : codes "TAG" ≡ 84 ∷ 65 ∷ 71 ∷ []
tag_codes = refl

slice_length : (t : List ℕ) (a k : ℕ) (w : List ℕ) → slice_range t a k ≡ w → length w ≡ min (k - a) (length t - a)
slice_length t a k w e = sym (ap length e) ∙ length-take (k - a) (drop a t) ∙ ap (min (k - a)) (length-drop a t)

-- a character of the name is one of the text
slice_code : (t : List ℕ) (a k m c : ℕ) (w : List ℕ) → IsUtf8 t → slice_range t a k ≡ w → m < length w → get_or w m 0 ≡ c → c < 128 → code t (a + m) ≡ c
slice_code t a k m c w u e l q b =
    let n : length w ≡ min (k - a) (length t - a) = slice_length t a k w e in
    let f : m < k - a = omega (arith, n, l) in
    let g : a + m < length t = omega (arith, n, l) in
    let h : get_or t (a + m) 0 ≡ c = sym (get_or-drop a t m 0) ∙ sym (get_or-take (k - a) (drop a t) m 0 f) ∙ ap (λ z. get_or z m 0) e ∙ q in
    code_from_byte t (a + m) u g (omega (arith, h, b)) ∙ h

pub many_tail : {t : List ℕ} {p : ℕ → Bool} {i j : ℕ} {w : List ℕ} → Many t p i j w → i < j → code t i < 128 → (v : List ℕ) × Many t p (i + 1) j v
many_tail done l b = absurd (omega arith)
many_tail {t} {p} {j = j} (step {i = i} {y = v} (one e) r) l b = (v, subst (λ z. Many t p z j v) (next_ascii t i b) r)

-- no character follows at the end of the text
run_within : (t : List ℕ) (a k : ℕ) → ((w : List ℕ) × Many t is_ns_char a k w) → length t ≤ a → k ≤ a
run_within t a k r l =
    ⊎_elim (λ (b : a < k). absurd (true≢false (sym (some_first r.1 b) ∙ ap is_ns_char (code-past t a l) ∙ no_ns_char))) (λ (b : k ≤ a). b) (cases_lt a k)

pub record YamlName (t : List ℕ) (a k : ℕ) : Type 0 where
  pub y : code t a ≡ 89
  pub a1 : code t (a + 1) ≡ 65
  pub m : code t (a + 2) ≡ 77
  pub l : code t (a + 3) ≡ 76
  pub end : k ≡ a + 4

pub record TagName (t : List ℕ) (a k : ℕ) : Type 0 where
  pub t1 : code t a ≡ 84
  pub a1 : code t (a + 1) ≡ 65
  pub g : code t (a + 2) ≡ 71
  pub end : k ≡ a + 3

pub yaml_name : (t : List ℕ) (a k : ℕ) → IsUtf8 t → Run (One t is_ns_char) a k → slice_range t a k ≡ codes "YAML" → YamlName t a k
yaml_name t a k u r e =
    let q : slice_range t a k ≡ 89 ∷ 65 ∷ 77 ∷ 76 ∷ [] = e ∙ yaml_codes in
    let n : 4 ≡ min (k - a) (length t - a) = slice_length t a k (89 ∷ 65 ∷ 77 ∷ 76 ∷ []) q in
    let zero : a + 0 ≡ a = omega arith in
    let y : code t a ≡ 89 = sym (ap (code t) zero) ∙ slice_code t a k 0 89 (89 ∷ 65 ∷ 77 ∷ 76 ∷ []) u q (omega arith) refl (omega arith) in
    let a1 : code t (a + 1) ≡ 65 = slice_code t a k 1 65 (89 ∷ 65 ∷ 77 ∷ 76 ∷ []) u q (omega arith) refl (omega arith) in
    let m : code t (a + 2) ≡ 77 = slice_code t a k 2 77 (89 ∷ 65 ∷ 77 ∷ 76 ∷ []) u q (omega arith) refl (omega arith) in
    let l : code t (a + 3) ≡ 76 = slice_code t a k 3 76 (89 ∷ 65 ∷ 77 ∷ 76 ∷ []) u q (omega arith) refl (omega arith) in
    let two : a + 1 + 1 ≡ a + 2 = omega arith in
    let three : a + 2 + 1 ≡ a + 3 = omega arith in
    let four : a + 3 + 1 ≡ a + 4 = omega arith in
    let b = many_tail r.chain r.some (omega arith) in
    let b2 : (v : List ℕ) × Many t is_ns_char (a + 2) k v = subst (λ z. (v : List ℕ) × Many t is_ns_char z k v) two (many_tail b.1 (omega (arith, n)) (omega arith)) in
    let b3 : (v : List ℕ) × Many t is_ns_char (a + 3) k v = subst (λ z. (v : List ℕ) × Many t is_ns_char z k v) three (many_tail b2.1 (omega (arith, n)) (omega arith)) in
    let b4 : (v : List ℕ) × Many t is_ns_char (a + 4) k v = subst (λ z. (v : List ℕ) × Many t is_ns_char z k v) four (many_tail b3.1 (omega (arith, n)) (omega arith)) in
    record { y = y; a1 = a1; m = m; l = l; end = ⊎_elim (λ (h : length t ≤ a + 4). let z = run_within t (a + 4) k b4 h in omega (arith, n, z)) (λ (h : a + 4 < length t). omega (arith, n, h)) (other (length t) (a + 4)) }
  where
    other : (x y : ℕ) → (x ≤ y) ⊎ (y < x)
    other x y = ⊎_elim (λ b. inr b) (λ b. inl b) (cases_lt y x)

pub tag_name : (t : List ℕ) (a k : ℕ) → IsUtf8 t → Run (One t is_ns_char) a k → slice_range t a k ≡ codes "TAG" → TagName t a k
tag_name t a k u r e =
    let q : slice_range t a k ≡ 84 ∷ 65 ∷ 71 ∷ [] = e ∙ tag_codes in
    let n : 3 ≡ min (k - a) (length t - a) = slice_length t a k (84 ∷ 65 ∷ 71 ∷ []) q in
    let zero : a + 0 ≡ a = omega arith in
    let y : code t a ≡ 84 = sym (ap (code t) zero) ∙ slice_code t a k 0 84 (84 ∷ 65 ∷ 71 ∷ []) u q (omega arith) refl (omega arith) in
    let a1 : code t (a + 1) ≡ 65 = slice_code t a k 1 65 (84 ∷ 65 ∷ 71 ∷ []) u q (omega arith) refl (omega arith) in
    let m : code t (a + 2) ≡ 71 = slice_code t a k 2 71 (84 ∷ 65 ∷ 71 ∷ []) u q (omega arith) refl (omega arith) in
    let two : a + 1 + 1 ≡ a + 2 = omega arith in
    let three : a + 2 + 1 ≡ a + 3 = omega arith in
    let b = many_tail r.chain r.some (omega arith) in
    let b2 : (v : List ℕ) × Many t is_ns_char (a + 2) k v = subst (λ z. (v : List ℕ) × Many t is_ns_char z k v) two (many_tail b.1 (omega (arith, n)) (omega arith)) in
    let b3 : (v : List ℕ) × Many t is_ns_char (a + 3) k v = subst (λ z. (v : List ℕ) × Many t is_ns_char z k v) three (many_tail b2.1 (omega (arith, n)) (omega arith)) in
    record { t1 = y; a1 = a1; g = m; end = ⊎_elim (λ (h : length t ≤ a + 3). let z = run_within t (a + 3) k b3 h in omega (arith, n, z)) (λ (h : a + 3 < length t). omega (arith, n, h)) (other (length t) (a + 3)) }
  where
    other : (x y : ℕ) → (x ≤ y) ⊎ (y < x)
    other x y = ⊎_elim (λ b. inr b) (λ b. inl b) (cases_lt y x)

-- conversely, characters of the text are the bytes of the slice
byte_at : (t : List ℕ) (i c : ℕ) → IsUtf8 t → code t i ≡ c → c < 128 → drop i t ≡ c ∷ drop (i + 1) t
byte_at t i c u e l =
    let b = byte_from_code t i u (omega (arith, e, l)) in
    drop_more t i 0 b.0 ∙ ap (λ z. z ∷ drop (i + 1) t) (b.1 ∙ e)

pub yaml_slice : (t : List ℕ) (a : ℕ) → IsUtf8 t → code t a ≡ 89 → code t (a + 1) ≡ 65 → code t (a + 2) ≡ 77 → code t (a + 3) ≡ 76 → slice_range t a (a + 4) ≡ codes "YAML"
yaml_slice t a u y a1 m l =
    let four : a + 4 - a ≡ 4 = omega arith in
    let two : a + 1 + 1 ≡ a + 2 = omega arith in
    let three : a + 2 + 1 ≡ a + 3 = omega arith in
    let d : drop a t ≡ 89 ∷ 65 ∷ 77 ∷ 76 ∷ drop (a + 3 + 1) t =
    byte_at t a 89 u y (omega arith)
    ∙ ap (λ z. 89 ∷ z) (byte_at t (a + 1) 65 u a1 (omega arith) ∙ ap (λ z. 65 ∷ z) (ap (λ z. drop z t) two ∙ byte_at t (a + 2) 77 u m (omega arith)
    ∙ ap (λ z. 77 ∷ z) (ap (λ z. drop z t) three ∙ byte_at t (a + 3) 76 u l (omega arith)))) in
    ap (λ z. take z (drop a t)) four ∙ ap (take 4) d ∙ sym yaml_codes

pub tag_slice : (t : List ℕ) (a : ℕ) → IsUtf8 t → code t a ≡ 84 → code t (a + 1) ≡ 65 → code t (a + 2) ≡ 71 → slice_range t a (a + 3) ≡ codes "TAG"
tag_slice t a u y a1 m =
    let three : a + 3 - a ≡ 3 = omega arith in
    let two : a + 1 + 1 ≡ a + 2 = omega arith in
    let d : drop a t ≡ 84 ∷ 65 ∷ 71 ∷ drop (a + 2 + 1) t =
    byte_at t a 84 u y (omega arith) ∙ ap (λ z. 84 ∷ z) (byte_at t (a + 1) 65 u a1 (omega arith) ∙ ap (λ z. 65 ∷ z) (ap (λ z. drop z t) two ∙ byte_at t (a + 2) 71 u m (omega arith))) in
    ap (λ z. take z (drop a t)) three ∙ ap (take 3) d ∙ sym tag_codes
