-- The characters of a plain scalar on one line are a plain scalar at any offset.
use Rattle.std.proofs.Common.{◌≡◌, ◌≢◌, ℕ, ◌+◌, ◌<◌, ℤ, true, false, ◌&&◌, ◌||◌, not, List, [], ◌∷◌, ◌++◌, length, refl, sym, ap, ◌∙◌, subst, inl, inr, ◌⊎◌, ⊎_elim, arith, append_assoc, append-nil, eqb}
use Rattle.std.proofs.lemmas.Bool.{cases_Bool, true≢false, and_parts, or_cases, eqb-true}
use Rattle.std.proofs.lemmas.Bool.Decides.{nat_tests}
use Rattle.std.proofs.lemmas.List.{length-append}
use Rattle.std.proofs.lemmas.Str.{encode_ascii, length-encode, len_utf8_ascii}
use Rattle.std.specs.Char.{len_utf8}
use Rattle.std.specs.Str.{IsUtf8}
use lib.Utf8.{encode, encodes}
use Rattle.yf_chars.specs.declared.context.Ctx.{Ctx}
use Rattle.yf_chars.specs.Text.{code, next, before, first_or_none}
use Rattle.yf_chars.specs.Class.{is_ns_char, is_nb_char, is_printable, is_between, is_break_char, is_white, is_plain_safe, is_indicator, is_white_or_end}
use Rattle.yf_chars.specs.Chain.{Chain, Many}
use Rattle.yf_chars.specs.Chain.Chain.{done, step}
use Rattle.yf_chars.proofs.ChainLemmas.{many_more}
use Rattle.yf_chars.proofs.SpelledLemmas.{IsAt, is_at_char}
use Rattle.yf_lines.specs.Basic.{ForbiddenLine, is_block, is_key, is_three, is_marker}
use Rattle.yf_lines.specs.LineText.{AllNb, IsLineText, Follows, is_after_text}
use Rattle.yf_lines.specs.Steady.{is_steady, is_marker_of}
use Rattle.yf_lines.proofs.BasicLemmas.{white_cases}
use Rattle.yf_lines.proofs.ClearLemmas.{clear_quiet}
use Rattle.yf_lines.proofs.RestLemmas.{follows_not, is_at_chars, chars_quiet}
use Rattle.yf_lines.proofs.ContextFacts.{not_others}
use Rattle.yf_plain.specs.Plain.{is_plain_first, is_plain_char, is_sign, PlainItem, PlainLine, PlainText, Plain}
use Rattle.yf_plain.specs.Plain.PlainItem.{set_off}
use Rattle.yf_plain.specs.Plain.PlainLine.{one_line}
use Rattle.yf_plain.specs.Plain.PlainText.{as_key, as_lines}
use Rattle.yf_plain.specs.Kept.{starts_plain, goes_on_plain, is_plain_after, is_plain_line, IsPlain}
use Rattle.yf_plain.proofs.PlainLemmas.{white_not_ns, safe_at_end, ns_sign, sign_below}
use Rattle.yf_plain.proofs.KeptLemmas.{char_is, first_is, goes_moves, starts_moves, goes_is_ns, steady_parts, Steady}

-- the next character, if it is safe
ahead : {t : List ℕ} {q : ℕ} (x : Ctx) (cs r : List ℕ) → IsUtf8 t → IsAt t q (encodes cs ++ r) → is_plain_safe (first_or_none cs) x ≡ true
    → is_plain_safe (code t q) x ≡ true
ahead x [] r u s e = absurd (true≢false (sym e ∙ safe_at_end x))
ahead {t} {q} x (c ∷ cs) r u s e =
    let got = is_at_char c u (subst (λ w. IsAt t q w) (append_assoc (encode c) (encodes cs) r) s) in
    ap (λ w. is_plain_safe w x) got.0.char ∙ e

-- white space before the character that ends it
data Waiting (b k q : ℕ) : List ℕ → Type 0 where
  none_waiting : k ≡ q → Waiting b k q []
  white_waiting : {w : List ℕ} → is_white b ≡ true → Waiting b k q w

no_wait : {t : List ℕ} {c : Ctx} {b k q : ℕ} {w : List ℕ} → is_ns_char b ≡ true → Waiting b k q w → Chain (PlainItem t c) k q w
no_wait {t} {c} {k = k} n (none_waiting e) = subst (λ j. Chain (PlainItem t c) k j []) e done
no_wait {b = b} n (white_waiting e) = absurd (true≢false (sym n ∙ white_not_ns b e))

split_after : (x : Ctx) (b c : ℕ) (cs : List ℕ) → is_plain_after x b (c ∷ cs) ≡ true
    → ((is_white c ≡ true) ⊎ (goes_on_plain x b c (first_or_none cs) ≡ true)) × (is_plain_after x c cs ≡ true)
unfolding is_plain_after
split_after x b c cs e =
    let parts = and_parts (is_white c || goes_on_plain x b c (first_or_none cs)) (is_plain_after x c cs) e in
    (or_cases (is_white c) (goes_on_plain x b c (first_or_none cs)) parts.0, parts.1)

end_after : (x : Ctx) (b : ℕ) → is_plain_after x b [] ≡ true → is_ns_char b ≡ true
unfolding is_plain_after
end_after x b e = e

items_back : {t : List ℕ} (x : Ctx) (cs r : List ℕ) (q k b : ℕ) (w : List ℕ) → IsUtf8 t → Many t is_white k q w → Waiting b k q w → before t q ≡ b
    → is_plain_after x b cs ≡ true → IsAt t q (encodes cs ++ r) → Chain (PlainItem t x) k (q + length (encodes cs)) (w ++ cs)
items_back {t} x [] r q k b w u m a e f s =
    let end : q ≡ q + length (encodes []) = omega arith in
    subst (λ j. Chain (PlainItem t x) k j (w ++ [])) end (subst (λ v. Chain (PlainItem t x) k q v) (sym (append-nil w)) (no_wait (end_after x b f) a))
items_back {t} x (c ∷ cs) r q k b w u m a e f s =
    let parts = split_after x b c cs f in
    let got = is_at_char c u (subst (λ v. IsAt t q v) (append_assoc (encode c) (encodes cs) r) s) in
    let there : q + len_utf8 c + length (encodes cs) ≡ q + length (encode c ++ encodes cs) = omega (arith, length-append (encode c) (encodes cs), length-encode c) in
    ⊎_elim
    (λ (h : is_white c ≡ true).
    let longer : Many t is_white k (next t q) (w ++ (code t q ∷ [])) = many_more t is_white m (ap is_white got.0.char ∙ h) in
    let longer' : Many t is_white k (q + len_utf8 c) (w ++ (c ∷ [])) =
    subst (λ v. Many t is_white k (q + len_utf8 c) (w ++ (v ∷ []))) got.0.char (subst (λ j. Many t is_white k j (w ++ (code t q ∷ []))) got.0.end longer) in
    let rest = items_back x cs r (q + len_utf8 c) k c (w ++ (c ∷ [])) u longer' (white_waiting h) got.0.back parts.1 got.1 in
    subst (λ j. Chain (PlainItem t x) k j (w ++ (c ∷ cs))) there
    (subst (λ v. Chain (PlainItem t x) k (q + len_utf8 c + length (encodes cs)) v) (append_assoc w (c ∷ []) cs) rest))
    (λ (h : goes_on_plain x b c (first_or_none cs) ≡ true).
    let rest = items_back x cs r (q + len_utf8 c) (q + len_utf8 c) c [] u done (none_waiting refl) got.0.back parts.1 got.1 in
    let colon : c ≡ 58 → is_plain_safe (first_or_none cs) x ≡ true → is_plain_safe (code t (q + 1)) x ≡ true = λ p g.
    let one : q + len_utf8 c ≡ q + 1 = omega (arith, len_utf8_ascii c (omega arith)) in
    ap (λ j. is_plain_safe (code t j) x) (sym one) ∙ ahead x cs r u got.1 g in
    let here : goes_on_plain x (before t q) c (code t (q + 1)) ≡ true = goes_moves x x b (before t q) c (first_or_none cs) (code t (q + 1)) (λ v g. g) (λ p g. ap is_ns_char e ∙ g) colon h in
    let char : is_plain_char t x q ≡ true = char_is t x q ∙ ap (λ v. goes_on_plain x (before t q) v (code t (q + 1))) got.0.char ∙ here in
    let first : PlainItem t x k (next t q) (w ++ (code t q ∷ [])) = set_off m char in
    let first' : PlainItem t x k (q + len_utf8 c) (w ++ (c ∷ [])) =
    subst (λ v. PlainItem t x k (q + len_utf8 c) (w ++ (v ∷ []))) got.0.char (subst (λ j. PlainItem t x k j (w ++ (code t q ∷ []))) got.0.end first) in
    let whole : Chain (PlainItem t x) k (q + len_utf8 c + length (encodes cs)) ((w ++ (c ∷ [])) ++ cs) = step first' rest in
    subst (λ j. Chain (PlainItem t x) k j (w ++ (c ∷ cs))) there
    (subst (λ v. Chain (PlainItem t x) k (q + len_utf8 c + length (encodes cs)) v) (append_assoc w (c ∷ []) cs) whole))
    parts.0

-- the first character and those after it
split_line : (x : Ctx) (c : ℕ) (cs : List ℕ) → is_plain_line x (c ∷ cs) ≡ true → (starts_plain x c (first_or_none cs) ≡ true) × (is_plain_after x c cs ≡ true)
unfolding is_plain_line
split_line x c cs e = and_parts (starts_plain x c (first_or_none cs)) (is_plain_after x c cs) e

line_some : (x : Ctx) → is_plain_line x [] ≡ true → ⊥
unfolding is_plain_line
line_some x e = true≢false (sym e)

pub line_back : {t : List ℕ} (x : Ctx) (cs r : List ℕ) (q : ℕ) → IsUtf8 t → is_plain_line x cs ≡ true → IsAt t q (encodes cs ++ r)
    → PlainLine t x q (q + length (encodes cs)) cs
line_back x [] r q u e s = absurd (line_some x e)
line_back {t} x (c ∷ cs) r q u e s =
    let parts = split_line x c cs e in
    let got = is_at_char c u (subst (λ v. IsAt t q v) (append_assoc (encode c) (encodes cs) r) s) in
    let there : q + len_utf8 c + length (encodes cs) ≡ q + length (encode c ++ encodes cs) = omega (arith, length-append (encode c) (encodes cs), length-encode c) in
    let rest = items_back x cs r (q + len_utf8 c) (q + len_utf8 c) c [] u done (none_waiting refl) got.0.back parts.1 got.1 in
    let sign : is_sign c ≡ true → is_plain_safe (first_or_none cs) x ≡ true → is_plain_safe (code t (q + 1)) x ≡ true = λ p g.
    let one : q + len_utf8 c ≡ q + 1 = omega (arith, len_utf8_ascii c (sign_below c p)) in
    ap (λ j. is_plain_safe (code t j) x) (sym one) ∙ ahead x cs r u got.1 g in
    let first : is_plain_first t x q ≡ true = first_is t x q ∙ ap (λ v. starts_plain x v (code t (q + 1))) got.0.char ∙ starts_moves x x c (first_or_none cs) (code t (q + 1)) sign parts.0 in
    let rest' : Chain (PlainItem t x) (next t q) (q + len_utf8 c + length (encodes cs)) cs =
    subst (λ k. Chain (PlainItem t x) k (q + len_utf8 c + length (encodes cs)) cs) (sym got.0.end) rest in
    let whole : PlainLine t x q (q + len_utf8 c + length (encodes cs)) (code t q ∷ cs) = one_line first rest' in
    subst (λ j. PlainLine t x q j (c ∷ cs)) there (subst (λ v. PlainLine t x q (q + len_utf8 c + length (encodes cs)) (v ∷ cs)) got.0.char whole)

-- a document marker is none of them
three_parts : (t : List ℕ) (q d : ℕ) → is_three t q d ≡ true → (code t q ≡ d) × (code t (q + 1) ≡ d) × (code t (q + 2) ≡ d)
unfolding is_three
three_parts t q d e =
    let a = and_parts (eqb (code t q) d) (eqb (code t (q + 1)) d && eqb (code t (q + 2)) d) e in
    let b = and_parts (eqb (code t (q + 1)) d) (eqb (code t (q + 2)) d) a.1 in
    (eqb-true _ _ a.0, eqb-true _ _ b.0, eqb-true _ _ b.1)

marker_parts : (t : List ℕ) (q : ℕ) → is_marker t q ≡ true → ((is_three t q 45 ≡ true) ⊎ (is_three t q 46 ≡ true)) × (is_white_or_end (code t (q + 3)) ≡ true)
unfolding is_marker
marker_parts t q e =
    let a = and_parts (is_three t q 45 || is_three t q 46) (is_white_or_end (code t (q + 3))) e in
    (or_cases (is_three t q 45) (is_three t q 46) a.0, a.1)

marker_alone : (d : ℕ) → is_marker_of d (d ∷ d ∷ d ∷ []) ≡ true
unfolding is_marker_of
marker_alone d = grind (arith, nat_tests)

marker_white : (d c : ℕ) (w : List ℕ) → (c ≡ 32) ⊎ (c ≡ 9) → is_marker_of d (d ∷ d ∷ d ∷ c ∷ w) ≡ true
unfolding is_marker_of
marker_white d c w (inl e) = grind (arith, nat_tests)
marker_white d c w (inr e) = grind (arith, nat_tests)

ns_no_end : (c : ℕ) → is_ns_char c ≡ true → is_white_or_end c ≡ true → ⊥
unfolding is_ns_char is_nb_char is_printable is_between is_break_char is_white is_white_or_end
ns_no_end c e f = grind (arith, nat_tests)

-- the bytes of characters below 128
ascii_bytes : (c : ℕ) (cs : List ℕ) → c < 128 → encodes (c ∷ cs) ≡ c ∷ encodes cs
ascii_bytes c cs l = ap (λ w. w ++ encodes cs) (encode_ascii c l)

record Peeled (t : List ℕ) (q d c : ℕ) (cs r : List ℕ) : Type 0 where
  pub same : c ≡ d
  pub bytes : encodes (c ∷ cs) ≡ d ∷ encodes cs
  pub rest : IsAt t (q + 1) (encodes cs ++ r)

peel : {t : List ℕ} {q : ℕ} (d c : ℕ) (cs r : List ℕ) → IsUtf8 t → d < 128 → code t q ≡ d → IsAt t q (encodes (c ∷ cs) ++ r) → Peeled t q d c cs r
peel {t} {q} d c cs r u l e s =
    let got = is_at_char c u (subst (λ v. IsAt t q v) (append_assoc (encode c) (encodes cs) r) s) in
    let same : c ≡ d = sym got.0.char ∙ e in
    let one : len_utf8 c ≡ 1 = len_utf8_ascii c (omega arith) in
    record { same = same; bytes = ap (λ v. encodes (v ∷ cs)) same ∙ ascii_bytes d cs l; rest = subst (λ k. IsAt t (q + k) (encodes cs ++ r)) one got.1 }

-- three equal characters before white space or an end begin no plain scalar that stays plain
marker_fails : {t : List ℕ} (x : Ctx) (d q : ℕ) (cs r : List ℕ) → IsUtf8 t → d < 128 → is_plain_line x cs ≡ true → is_marker_of d (encodes cs) ≡ false
    → IsAt t q (encodes cs ++ r) → code t (q + length (encodes cs)) ≢ d → code t q ≡ d → code t (q + 1) ≡ d → code t (q + 2) ≡ d
    → is_white_or_end (code t (q + 3)) ≡ true → ⊥
marker_fails x d q [] r u l e m s f a b c z = line_some x e
marker_fails {t} x d q (c₀ ∷ []) r u l e m s f a b c z =
    let p = peel d c₀ [] r u l a s in
    let end : q + length (encodes (c₀ ∷ [])) ≡ q + 1 = omega (arith, ap length p.bytes) in
    f (ap (code t) end ∙ b)
marker_fails {t} x d q (c₀ ∷ c₁ ∷ []) r u l e m s f a b c z =
    let p = peel d c₀ (c₁ ∷ []) r u l a s in
    let p' = peel d c₁ [] r u l b p.rest in
    let end : q + length (encodes (c₀ ∷ c₁ ∷ [])) ≡ q + 2 = omega (arith, ap length p.bytes, ap length p'.bytes) in
    f (ap (code t) end ∙ c)
marker_fails {t} x d q (c₀ ∷ c₁ ∷ c₂ ∷ []) r u l e m s f a b c z =
    let p = peel d c₀ (c₁ ∷ c₂ ∷ []) r u l a s in
    let p' = peel d c₁ (c₂ ∷ []) r u l b p.rest in
    let two : q + 2 ≡ q + 1 + 1 = omega arith in
    let p'' = peel d c₂ [] r u l (ap (code t) (sym two) ∙ c) p'.rest in
    let whole : encodes (c₀ ∷ c₁ ∷ c₂ ∷ []) ≡ d ∷ d ∷ d ∷ [] = p.bytes ∙ ap (λ w. d ∷ w) (p'.bytes ∙ ap (λ w. d ∷ w) p''.bytes) in
    true≢false (sym (ap (is_marker_of d) whole ∙ marker_alone d) ∙ m)
marker_fails {t} x d q (c₀ ∷ c₁ ∷ c₂ ∷ c₃ ∷ cs) r u l e m s f a b c z =
    let p = peel d c₀ (c₁ ∷ c₂ ∷ c₃ ∷ cs) r u l a s in
    let p' = peel d c₁ (c₂ ∷ c₃ ∷ cs) r u l b p.rest in
    let two : q + 2 ≡ q + 1 + 1 = omega arith in
    let p'' = peel d c₂ (c₃ ∷ cs) r u l (ap (code t) (sym two) ∙ c) p'.rest in
    let three : q + 3 ≡ q + 1 + 1 + 1 = omega arith in
    let got = is_at_char c₃ u (subst (λ v. IsAt t (q + 1 + 1 + 1) v) (append_assoc (encode c₃) (encodes cs) r) p''.rest) in
    let end : is_white_or_end c₃ ≡ true = ap is_white_or_end (sym got.0.char) ∙ ap (λ k. is_white_or_end (code t k)) (sym three) ∙ z in
    let follows = split_after x c₂ c₃ cs (split_after x c₁ c₂ (c₃ ∷ cs) (split_after x c₀ c₁ (c₂ ∷ c₃ ∷ cs) (split_line x c₀ (c₁ ∷ c₂ ∷ c₃ ∷ cs) e).1).1).1 in
    ⊎_elim
    (λ (h : is_white c₃ ≡ true).
    let kinds = white_cases c₃ h in
    let whole : encodes (c₀ ∷ c₁ ∷ c₂ ∷ c₃ ∷ cs) ≡ d ∷ d ∷ d ∷ c₃ ∷ encodes cs =
    p.bytes ∙ ap (λ w. d ∷ w) (p'.bytes ∙ ap (λ w. d ∷ w) (p''.bytes ∙ ap (λ w. d ∷ w) (ascii_bytes c₃ cs (omega (arith, kinds))))) in
    true≢false (sym (ap (is_marker_of d) whole ∙ marker_white d c₃ (encodes cs) kinds) ∙ m))
    (λ (h : goes_on_plain x c₂ c₃ (first_or_none cs) ≡ true). ns_no_end c₃ (goes_is_ns x c₂ c₃ (first_or_none cs) h) end)
    follows.0

no_forbidden : {t : List ℕ} (x : Ctx) (q : ℕ) (cs r : List ℕ) → IsUtf8 t → is_plain_line x cs ≡ true → Steady (encodes cs) → Follows is_after_text r
    → IsAt t q (encodes cs ++ r) → IsAt t (q + length (encodes cs)) r → ForbiddenLine t q → ⊥
no_forbidden {t} x q cs r u e k f s s' h =
    let parts = marker_parts t q h.marker in
    let not = follows_not u s' f in
    ⊎_elim
    (λ (w : is_three t q 45 ≡ true). let three = three_parts t q 45 w in
    marker_fails x 45 q cs r u (omega arith) e k.dashes s not.0 three.0 three.1 three.2 parts.1)
    (λ (w : is_three t q 46 ≡ true). let three = three_parts t q 46 w in
    marker_fails x 46 q cs r u (omega arith) e k.dots s not.1 three.0 three.1 three.2 parts.1)
    parts.0

-- its characters are nb-chars
pub ns_nb : (c : ℕ) → is_ns_char c ≡ true → is_nb_char c ≡ true
unfolding is_ns_char
ns_nb c e = (and_parts (is_nb_char c) (not (is_white c)) e).0

white_nb : (c : ℕ) → is_white c ≡ true → is_nb_char c ≡ true
unfolding is_white is_nb_char is_printable is_between is_break_char
white_nb c e = grind (arith, nat_tests)

after_nb : (x : Ctx) (b : ℕ) (cs : List ℕ) → is_plain_after x b cs ≡ true → AllNb cs
after_nb x b [] e = tt
after_nb x b (c ∷ cs) e =
    let parts = split_after x b c cs e in
    (⊎_elim (λ (h : is_white c ≡ true). white_nb c h) (λ (h : goes_on_plain x b c (first_or_none cs) ≡ true). ns_nb c (goes_is_ns x b c (first_or_none cs) h)) parts.0, after_nb x c cs parts.1)

start_ns : (x : Ctx) (c d : ℕ) → starts_plain x c d ≡ true → is_ns_char c ≡ true
unfolding starts_plain
start_ns x c d e =
    ⊎_elim (λ (h : (is_ns_char c && not (is_indicator c)) ≡ true). (and_parts (is_ns_char c) (not (is_indicator c)) h).0)
    (λ (h : (is_sign c && is_plain_safe d x) ≡ true). ns_sign c (and_parts (is_sign c) (is_plain_safe d x) h).0)
    (or_cases (is_ns_char c && not (is_indicator c)) (is_sign c && is_plain_safe d x) e)

line_nb : (x : Ctx) (cs : List ℕ) → is_plain_line x cs ≡ true → AllNb cs
line_nb x [] e = tt
line_nb x (c ∷ cs) e = let parts = split_line x c cs e in (ns_nb c (start_ns x c (first_or_none cs) parts.0), after_nb x c cs parts.1)

pub plain_line_text : {x : Ctx} {w : List ℕ} → IsPlain x w → IsLineText w
plain_line_text {x} p = record { chars = p.chars; bytes = p.bytes; each = line_nb x p.chars p.line }

-- at any offset, the bytes are a plain scalar of the context
in_context : {t : List ℕ} (n : ℤ) (x : Ctx) {q j : ℕ} {cs : List ℕ} → is_block x ≡ false → PlainLine t x q j cs → PlainText t n x q j cs
in_context {t} n x {q} {j} {cs} b d =
    ⊎_elim (λ (k : is_key x ≡ true). as_key k d)
    (λ (k : is_key x ≡ false). subst (λ v. PlainText t n x q j v) (append-nil cs) (as_lines (not_others x b k) d done))
    (cases_Bool (is_key x))

-- within other scalars, nothing is required of the text that follows
pub plain_text_back : {t : List ℕ} (n : ℤ) {x : Ctx} {w : List ℕ} (r : List ℕ) {q : ℕ} → IsUtf8 t → is_block x ≡ false → (p : IsPlain x w) → IsAt t q (w ++ r)
    → PlainText t n x q (q + length w) p.chars
plain_text_back {t} n {x} {w} r {q} u b p s =
    let bytes : encodes p.chars ≡ w = p.bytes in
    subst (λ v. PlainText t n x q (q + length v) p.chars) bytes
    (in_context n x b (line_back x p.chars r q u p.line (subst (λ v. IsAt t q (v ++ r)) (sym bytes) s)))

pub plain_back : {t : List ℕ} (n : ℤ) {x : Ctx} {w r : List ℕ} {q : ℕ} → IsUtf8 t → is_block x ≡ false → Follows is_after_text r → (p : IsPlain x w)
    → IsAt t q (w ++ r) → Plain t n x q (q + length w) p.chars
plain_back {t} n {x} {w} {r} {q} u b f p s =
    let bytes : encodes p.chars ≡ w = p.bytes in
    let s' : IsAt t q (encodes p.chars ++ r) = subst (λ v. IsAt t q (v ++ r)) (sym bytes) s in
    let at = is_at_chars p.chars u s' in
    let quiet = chars_quiet p.chars r u (line_nb x p.chars p.line) s' in
    subst (λ v. Plain t n x q (q + length v) p.chars) bytes (record {
      text = in_context n x b (line_back x p.chars r q u p.line s');
      clear = clear_quiet (λ h. no_forbidden x q p.chars r u p.line (steady_parts (encodes p.chars) (ap is_steady bytes ∙ p.steady)) f s' at h) quiet;
    })
