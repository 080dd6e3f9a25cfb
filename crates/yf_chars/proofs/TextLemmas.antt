-- The laws of reading a character at an offset.
use Rattle.std.proofs.Math.Bool.{and-false}
use Rattle.std.proofs.Common.{suc, ◌≡◌, ◌≢◌, ℕ, ◌+◌, ◌<◌, ◌≤◌, true, false, ◌||◌, List, add-zero, get_or-drop, [], ◌∷◌, ◌++◌, length, take, drop, get_or, refl, sym, ap, add-one, drop-cons, append-nil, ◌∙◌, subst, ⊎_elim, arith, ltb, leb, eqb, MatchBool}
use Rattle.std.proofs.Math.Seq.{take-add, take-append_seam}
use Rattle.std.proofs.lemmas.List.{length-drop}
use Rattle.std.proofs.lemmas.Str as S
use Rattle.std.proofs.lemmas.Str.{len_utf8_bounds, length-encode}
use Rattle.std.specs.Char.{len_utf8, IsScalar}
use Rattle.std.specs.Str.{chars, chars_after, IsCharBoundary, IsUtf8}
use Rattle.std.proofs.lemmas.Bool.{eq-eqb, ne_eqb, cases_eq, lt-ltb, le-ltb, le-leb, ltb-true, leb-true, lt-leb, cases_lt, cases_Bool, and_parts}
use lib.Utf8.{scalars, scalar, encodes, encode, scalar_cases}
use Rattle.yf_chars.specs.Text.{no_char, first_or_none, last_or, begins, code, next, before, CharAt}

last_or-snoc : (d c : ℕ) (cs : List ℕ) → last_or d (cs ++ (c ∷ [])) ≡ c
last_or-snoc d c [] = refl
last_or-snoc d c (x ∷ xs) = last_or-snoc x c xs

pub scalar_below : (c : ℕ) → IsScalar c → c < 0x110000
scalar_below c s = ⊎_elim (λ (h : c < 55296). omega arith) (λ (h : (57344 ≤ c) × (c < 1114112)). h.1) (scalar_cases c s)

-- a character begins at each boundary before the end
pub begins_from_boundary : (t : List ℕ) (i : ℕ) → IsCharBoundary t i → i < length t → begins t i ≡ true
unfolding begins
begins_from_boundary t i b l =
    ⊎_elim (λ (h : get_or t i 0 < 128). rw (lt-ltb i (length t) l, lt-ltb (get_or t i 0) 128 h))
    (λ (h : 128 ≤ get_or t i 0). rw (lt-ltb i (length t) l, le-ltb (get_or t i 0) 128 h, le-leb 192 (get_or t i 0) (b.1 l h)))
    (cases_lt (get_or t i 0) 128)

-- the first character of a text is a Unicode scalar value
scalar_first : (bs rest : List ℕ) (c : ℕ) → IsUtf8 bs → bs ≡ encode c ++ rest → IsScalar c
scalar_first bs rest c u e =
    let cut = S.cons_from_encodes u.0 rest c (u.1.1 ∙ e) in
    (and_parts (scalar c) (scalars cut.0) (ap scalars (sym cut.1) ∙ u.1.0)).0

code-there : (t : List ℕ) (i : ℕ) → begins t i ≡ true → code t i ≡ first_or_none (chars (drop i t))
unfolding code
code-there t i h = rw h

take-encode : (c : ℕ) (rest : List ℕ) → take (len_utf8 c) (encode c ++ rest) ≡ encode c
take-encode c rest = rw (← length-encode c) (take-append_seam (encode c) rest)

chars-encode : (c : ℕ) → IsScalar c → chars (encode c) ≡ c ∷ []
chars-encode c s = S.chars_past_char (encode c) [] c (S.IsUtf8-encode c s) (sym (append-nil (encode c))) ∙ ap (λ w. c ∷ w) S.chars-nil

-- the first character of the rest of a text is at that offset of the text
pub reads_char : (t : List ℕ) (i c : ℕ) (rest : List ℕ) → IsUtf8 t → IsCharBoundary t i → i < length t → drop i t ≡ encode c ++ rest → CharAt t i c (i + len_utf8 c)
unfolding next before
reads_char t i c rest u b l e =
    let u' : IsUtf8 (drop i t) = S.IsUtf8-drop t i u b in
    let s : IsScalar c = scalar_first (drop i t) rest c u' e in
    let is : code t i ≡ c = code-there t i (begins_from_boundary t i b l) ∙ ap first_or_none (S.chars_past_char (drop i t) rest c u' e) in
    let whole : take (i + len_utf8 c) t ≡ take i t ++ encode c =
    take-add i (len_utf8 c) t ∙ ap (λ w. take i t ++ w) (ap (take (len_utf8 c)) e ∙ take-encode c rest) in
    let past : IsCharBoundary t (i + len_utf8 c) = S.IsCharBoundary-past_char t rest i c (omega arith) u' e in
    let all : chars (take (i + len_utf8 c) t) ≡ chars (take i t) ++ c ∷ [] =
    ap chars whole ∙ S.chars-append (take i t) (encode c) (S.IsUtf8-take t i u b) ∙ ap (λ w. chars (take i t) ++ w) (chars-encode c s) in
    record {
      char = is;
      end = ap (λ w. i + len_utf8 w) is;
      back = ap (last_or no_char) all ∙ last_or-snoc no_char c (chars (take i t));
      later = omega (arith, len_utf8_bounds c);
      within = past.0;
      boundary = past;
      below = scalar_below c s;
      bytes = whole;
    }

-- a byte below 128 is its own character
pub reads_ascii : (t : List ℕ) (i : ℕ) → IsUtf8 t → i < length t → get_or t i 0 < 128 → CharAt t i (get_or t i 0) (i + 1)
reads_ascii t i u l a =
    let c = get_or t i 0 in
    let e : drop i t ≡ encode c ++ drop (i + 1) t =
    rw (add-one, S.encode_ascii c a) (drop-cons t i 0 l) in
    let r = reads_char t i c (drop (i + 1) t) u (S.IsCharBoundary-before_ascii t i l a) l e in
    subst (λ k. CharAt t i c (i + k)) (S.len_utf8_ascii c a) r

-- no character begins at the end
pub code-end : (t : List ℕ) → code t (length t) ≡ no_char
unfolding code begins
code-end t = rw (le-ltb (length t) (length t) (omega arith))

-- an offset at which no character begins has no code
pub code-nowhere : (t : List ℕ) (i : ℕ) → begins t i ≡ false → code t i ≡ no_char
unfolding code
code-nowhere t i h = rw h

within_from_begins : (t : List ℕ) (i : ℕ) → begins t i ≡ true → i < length t
unfolding begins
within_from_begins t i h = ltb-true i (length t) (and_parts (ltb i (length t)) (ltb (get_or t i 0) 128 || leb 192 (get_or t i 0)) h).0

lead_from_tests : (b : ℕ) → (ltb b 128 || leb 192 b) ≡ true → 128 ≤ b → 192 ≤ b
lead_from_tests b h l = leb-true 192 b (rw (le-ltb b 128 l) at h)

pub boundary_from_begins : (t : List ℕ) (i : ℕ) → begins t i ≡ true → IsCharBoundary t i
unfolding begins
boundary_from_begins t i h =
    let parts = and_parts (ltb i (length t)) (ltb (get_or t i 0) 128 || leb 192 (get_or t i 0)) h in
    let within : i < length t = ltb-true i (length t) parts.0 in
    (omega arith, λ _ l. lead_from_tests (get_or t i 0) parts.1 l)

first_of : (t : List ℕ) (i : ℕ) (cs : List ℕ) → i < length t → encodes cs ≡ drop i t → (c : ℕ) × (es : List ℕ) × (drop i t ≡ encode c ++ encodes es)
first_of t i [] l e = let same : length (drop i t) ≡ 0 = ap length (sym e) in absurd (omega (arith, length-drop i t))
first_of t i (c ∷ cs) l e = (c, cs, sym e)

-- in a text, CharAt holds at an offset at which a character begins
pub reads_there : (t : List ℕ) (i : ℕ) → IsUtf8 t → begins t i ≡ true → CharAt t i (code t i) (next t i)
reads_there t i u h =
    let b : IsCharBoundary t i = boundary_from_begins t i h in
    let l : i < length t = within_from_begins t i h in
    let u' : IsUtf8 (drop i t) = S.IsUtf8-drop t i u b in
    let cut = first_of t i u'.0 l u'.1.1 in
    let r : CharAt t i cut.0 (i + len_utf8 cut.0) = reads_char t i cut.0 (encodes cut.1) u b l cut.2 in
    let q : CharAt t i cut.0 (next t i) = subst (λ j. CharAt t i cut.0 j) (sym r.end) r in
    subst (λ c. CharAt t i c (next t i)) (sym r.char) q

-- CharAt holds if the code is below no_char, as in each class
pub reads_real : (t : List ℕ) (i : ℕ) → IsUtf8 t → code t i < no_char → CharAt t i (code t i) (next t i)
reads_real t i u h =
    ⊎_elim (λ (e : begins t i ≡ true). reads_there t i u e)
    (λ (e : begins t i ≡ false). let same : code t i ≡ no_char = code-nowhere t i e in absurd (omega arith))
    (cases_Bool (begins t i))

-- a character below 128 is one byte long
pub next_ascii : (t : List ℕ) (i : ℕ) → code t i < 128 → next t i ≡ i + 1
unfolding next
next_ascii t i h = ap (λ w. i + w) (S.len_utf8_ascii (code t i) h)

-- an offset moves on with each character
pub next_later : (t : List ℕ) (i : ℕ) → i < next t i
unfolding next
next_later t i = omega (arith, len_utf8_bounds (code t i))

-- a byte below 128 that is at the offset, in and out of the text's bytes
pub reads_byte : (t : List ℕ) (i b : ℕ) → IsUtf8 t → code t i ≡ b → b < 128 → CharAt t i b (i + 1)
reads_byte t i b u e l =
    let r : CharAt t i (code t i) (next t i) = reads_real t i u (rw e (omega arith)) in
    let q : CharAt t i (code t i) (i + 1) = subst (λ j. CharAt t i (code t i) j) (next_ascii t i (rw e l)) r in
    subst (λ c. CharAt t i c (i + 1)) e q

pub code_from_byte : (t : List ℕ) (i : ℕ) → IsUtf8 t → i < length t → get_or t i 0 < 128 → code t i ≡ get_or t i 0
code_from_byte t i u l a = (reads_ascii t i u l a).char

pub byte_from_code : (t : List ℕ) (i : ℕ) → IsUtf8 t → code t i < 128 → (i < length t) × (get_or t i 0 ≡ code t i)
byte_from_code t i u h =
    ⊎_elim (λ (e : begins t i ≡ true).
    let b : IsCharBoundary t i = boundary_from_begins t i e in
    let l : i < length t = within_from_begins t i e in
    let u' : IsUtf8 (drop i t) = S.IsUtf8-drop t i u b in
    let cut = first_of t i u'.0 l u'.1.1 in
    let r : CharAt t i cut.0 (i + len_utf8 cut.0) = reads_char t i cut.0 (encodes cut.1) u b l cut.2 in
    let small : cut.0 < 128 = rw (sym r.char) h in
    let first : get_or (drop i t) 0 0 ≡ cut.0 = S.byte_from_char (drop i t) (encodes cut.1) cut.0 cut.2 small in
    (l, ap (λ k. get_or t k 0) (sym (add-zero i)) ∙ sym (get_or-drop i t 0 0) ∙ first ∙ sym r.char))
    (λ (e : begins t i ≡ false). let same : code t i ≡ no_char = code-nowhere t i e in absurd (omega arith))
    (cases_Bool (begins t i))

-- past the end there is `no_char`
pub code-past : (t : List ℕ) (i : ℕ) → length t ≤ i → code t i ≡ no_char
unfolding code begins
code-past t i l = rw (le-ltb i (length t) l)

-- an offset at which a character begins is inside the text
pub within_from_code : (t : List ℕ) (i : ℕ) → code t i < no_char → i < length t
within_from_code t i h =
    ⊎_elim (λ (l : i < length t). l)
    (λ (l : length t ≤ i). let same : code t i ≡ no_char = code-past t i l in absurd (omega arith))
    (cases_lt i (length t))

-- a byte below 128 is in the text if and only if its character begins there
pub byte_test : (t : List ℕ) (i b : ℕ) → IsUtf8 t → b < 128 → i < length t → eqb (get_or t i 0) b ≡ eqb (code t i) b
byte_test t i b u low l =
    ⊎_elim (λ (a : get_or t i 0 < 128). ap (λ w. eqb w b) (sym (code_from_byte t i u l a)))
    (λ (a : 128 ≤ get_or t i 0).
    rw (ne_eqb (get_or t i 0) b (λ e. omega arith), ne_eqb (code t i) b (λ e. let low' : code t i < 128 = omega arith in let same = byte_from_code t i u low' in omega (arith, same.1))))
    (cases_lt (get_or t i 0) 128)

-- past the end no byte's character begins
pub byte_test_past : (t : List ℕ) (i b : ℕ) → b < 128 → length t ≤ i → eqb (code t i) b ≡ false
byte_test_past t i b low l = ne_eqb (code t i) b (λ e. let past = code-past t i l in omega arith)

-- the result of a test for a byte
pub match_byte : (t : List ℕ) (i b : ℕ) → IsUtf8 t → b < 128 → MatchBool (eqb (code t i) b) (CharAt t i b (i + 1)) (code t i ≢ b)
match_byte t i b u low =
    ⊎_elim (λ (e : code t i ≡ b). rw (eq-eqb (code t i) b e) (reads_byte t i b u e low))
    (λ (n : code t i ≢ b). rw (ne_eqb (code t i) b n) n)
    (cases_eq (code t i) b)

-- the byte order mark is the bytes EF BB BF
first-chars_after : (c : ℕ) (bs : List ℕ) → first_or_none (chars_after 0 c bs) ≡ c
first-chars_after c [] = refl
first-chars_after c (b ∷ bs) = refl

begins_from_lead : (t : List ℕ) (i : ℕ) → i < length t → 192 ≤ get_or t i 0 → begins t i ≡ true
begins_from_lead t i l h = begins_from_boundary t i (omega arith, λ _ _. h) l

-- a byte that continues a character begins none
pub code-inside : (t : List ℕ) (i : ℕ) → 128 ≤ get_or t i 0 → get_or t i 0 < 192 → code t i ≡ no_char
unfolding code begins
code-inside t i l h = rw (le-ltb (get_or t i 0) 128 l, lt-leb 192 (get_or t i 0) h, and-false (ltb i (length t)))

three_bytes : (t : List ℕ) (i a b c : ℕ) → i + 2 < length t → get_or t i 0 ≡ a → get_or t (i + 1) 0 ≡ b → get_or t (i + 2) 0 ≡ c
    → drop i t ≡ a ∷ b ∷ c ∷ drop (suc (suc (suc i))) t
three_bytes t i a b c l e f g =
    let l0 : i < length t = omega arith in
    let l1 : suc i < length t = omega arith in
    let l2 : suc (suc i) < length t = omega arith in
    let f' : get_or t (suc i) 0 ≡ b = rw (add-one i) at f in
    let g' : get_or t (suc (suc i)) 0 ≡ c = ap (λ k. get_or t k 0) (omega arith) ∙ g in
    drop-cons t i 0 l0
    ∙ ap (λ w. get_or t i 0 ∷ w) (drop-cons t (suc i) 0 l1 ∙ ap (λ w. get_or t (suc i) 0 ∷ w) (drop-cons t (suc (suc i)) 0 l2))
    ∙ ap (λ w. w ∷ get_or t (suc i) 0 ∷ get_or t (suc (suc i)) 0 ∷ drop (suc (suc (suc i))) t) e
    ∙ ap (λ w. a ∷ w ∷ get_or t (suc (suc i)) 0 ∷ drop (suc (suc (suc i))) t) f'
    ∙ ap (λ w. a ∷ b ∷ w ∷ drop (suc (suc (suc i))) t) g'

chars-mark : (rest : List ℕ) → first_or_none (chars (239 ∷ 187 ∷ 191 ∷ rest)) ≡ 0xFEFF
unfolding chars
chars-mark rest = first-chars_after 0xFEFF rest

pub mark_from_bytes : (t : List ℕ) (i : ℕ) → i + 2 < length t → get_or t i 0 ≡ 239 → get_or t (i + 1) 0 ≡ 187 → get_or t (i + 2) 0 ≡ 191
    → code t i ≡ 0xFEFF
mark_from_bytes t i l e f g =
    let w : i < length t = omega arith in
    let lead : 192 ≤ get_or t i 0 = omega arith in
    code-there t i (begins_from_lead t i w lead)
    ∙ ap (λ v. first_or_none (chars v)) (three_bytes t i 239 187 191 l e f g)
    ∙ chars-mark (drop (suc (suc (suc i))) t)

-- the bytes of a character that is at an offset
pub drop_there : (t : List ℕ) (i : ℕ) → IsUtf8 t → begins t i ≡ true → (rest : List ℕ) × (drop i t ≡ encode (code t i) ++ rest)
drop_there t i u h =
    let b : IsCharBoundary t i = boundary_from_begins t i h in
    let l : i < length t = within_from_begins t i h in
    let u' : IsUtf8 (drop i t) = S.IsUtf8-drop t i u b in
    let cut = first_of t i u'.0 l u'.1.1 in
    let r : CharAt t i cut.0 (i + len_utf8 cut.0) = reads_char t i cut.0 (encodes cut.1) u b l cut.2 in
    (encodes cut.1, cut.2 ∙ ap (λ c. encode c ++ encodes cut.1) (sym r.char))

encode-mark : encode 0xFEFF ≡ 239 ∷ 187 ∷ 191 ∷ []
unfolding encode
encode-mark = refl

begins_from_code : (t : List ℕ) (i : ℕ) → code t i < no_char → begins t i ≡ true
begins_from_code t i h =
    ⊎_elim (λ (e : begins t i ≡ true). e)
    (λ (e : begins t i ≡ false). let same : code t i ≡ no_char = code-nowhere t i e in absurd (omega arith))
    (cases_Bool (begins t i))

byte_of : (t : List ℕ) (i k : ℕ) (xs : List ℕ) → drop i t ≡ xs → get_or t (i + k) 0 ≡ get_or xs k 0
byte_of t i k xs e = sym (get_or-drop i t k 0) ∙ ap (λ w. get_or w k 0) e

pub bytes_from_mark : (t : List ℕ) (i : ℕ) → IsUtf8 t → code t i ≡ 0xFEFF
    → (i + 2 < length t) × (get_or t i 0 ≡ 239) × (get_or t (i + 1) 0 ≡ 187) × (get_or t (i + 2) 0 ≡ 191)
bytes_from_mark t i u e =
    let h : begins t i ≡ true = begins_from_code t i (omega arith) in
    let cut = drop_there t i u h in
    let is : drop i t ≡ 239 ∷ 187 ∷ 191 ∷ cut.0 = cut.1 ∙ ap (λ c. encode c ++ cut.0) e ∙ ap (λ w. w ++ cut.0) encode-mark in
    let long : length (drop i t) ≡ suc (suc (suc (length cut.0))) = ap length is in
    let l : i < length t = within_from_begins t i h in (
      omega (arith, length-drop i t),
      ap (λ k. get_or t k 0) (sym (add-zero i)) ∙ byte_of t i 0 (239 ∷ 187 ∷ 191 ∷ cut.0) is,
      byte_of t i 1 (239 ∷ 187 ∷ 191 ∷ cut.0) is,
      byte_of t i 2 (239 ∷ 187 ∷ 191 ∷ cut.0) is,
    )

pub next-mark : (t : List ℕ) (i : ℕ) → code t i ≡ 0xFEFF → next t i ≡ i + 3
unfolding next
next-mark t i e = ap (λ c. i + len_utf8 c) e

-- a character begins at each boundary before the end, and none at the end
pub code_at_boundary : (t : List ℕ) (i : ℕ) → IsUtf8 t → IsCharBoundary t i → i < length t → code t i < no_char
code_at_boundary t i u b l = (reads_there t i u (begins_from_boundary t i b l)).below

pub end_test : (t : List ℕ) (i : ℕ) → IsUtf8 t → IsCharBoundary t i → eqb i (length t) ≡ eqb (code t i) no_char
end_test t i u b =
    ⊎_elim
    (λ (e : i ≡ length t). rw (eq-eqb i (length t) e, eq-eqb (code t i) no_char (code-past t i (omega arith))))
    (λ (n : i ≢ length t).
    let low = code_at_boundary t i u b (omega (arith, b.0)) in
    rw (ne_eqb i (length t) n, ne_eqb (code t i) no_char (λ e. omega arith)))
    (cases_eq i (length t))
