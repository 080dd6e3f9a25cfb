-- The lines of a block scalar (8.1), up to the last one with content: as they are taken, with the characters of each.
-- `LiteralMeant` has what the two styles add to content; what both share is here.
use Rattle.std.proofs.Common.{◌≡◌, ℕ, ◌+◌, ◌-◌, ◌<◌, ◌≤◌, pos, Bool, true, false, true≢false, List, [], ◌∷◌, ◌++◌, length, take, drop, slice_range, refl, sym, ap, ◌∙◌, subst, append_assoc, ⊎_elim, arith}
use Rattle.std.proofs.Math.Seq.{take-append-add}
use Rattle.std.proofs.lemmas.Str.{length-encode, drop_past_char}
use Rattle.std.proofs.lemmas.Bool.{cases_Bool}
use lib.Utf8.{encode, encodes}
use Rattle.std.specs.Str.{IsUtf8}
use Rattle.std.specs.Char.{len_utf8}
use Rattle.yf_chars.specs.declared.context.Ctx.TheVariants.{BlockIn}
use Rattle.yf_chars.specs.Text.{code, next, begins}
use Rattle.yf_chars.specs.Class.{is_nb_char}
use Rattle.yf_chars.specs.ClassEnds.{no_nb_char}
use Rattle.yf_chars.specs.Chain.{Chain, One, Many, Stuck}
use Rattle.yf_chars.specs.Chain.Chain.{done, step}
use Rattle.yf_chars.specs.Chain.One.{one}
use Rattle.yf_lines.specs.Basic.{Break, LineStart, Spaces, Empty, Clear}
use Rattle.yf_lines.specs.Basic.LineStart.{after_break}
use Rattle.yf_block_scalar.specs.Body.{SpaceLine, EmptyLines, largest, Ends, LineContent, Line, LinesTaken}
use Rattle.yf_block_scalar.specs.Body.Ends.{by_break}
use Rattle.yf_block_scalar.specs.Body.LineContent.{content}
use Rattle.yf_block_scalar.specs.Body.Line.{empty_line, content_line}
use Rattle.yf_block_scalar.specs.Body.Lines.{up_to}
use Rattle.yf_standard.proofs.Basics.{many_forward}
use Rattle.yf_standard.proofs.Texts.{empty_line_read, one_feed}
use Rattle.yf_standard.proofs.ScalarsWhole.{empties_forward, empties_start, text_within, no_marker_at}
use Rattle.yf_chars.proofs.TextLemmas.{drop_there, code-nowhere}
use Rattle.yf_chars.proofs.ChainLemmas.{chain_append}
use Rattle.yf_lines.proofs.BasicLemmas.{break_forward}

-- empty lines, as lines
abbrev pub blank_lines : List ℕ → List (List ℕ)
blank_lines [] = []
blank_lines (c ∷ w) = [] ∷ blank_lines w

-- lines of text, each after empty ones
pub data TextLines (t : List ℕ) (k : ℕ) : ℕ → ℕ → List (List ℕ) → Type 0 where
  last_line : {i a j : ℕ} {w u : List ℕ} → Chain (Empty t (pos k) BlockIn) i a w → Spaces t a k → Many t is_nb_char (a + k) j u → a + k < j
      → TextLines t k i j (blank_lines w ++ slice_range t (a + k) j ∷ [])
  more_lines : {i a h b j : ℕ} {w u : List ℕ} {ls : List (List ℕ)} → Chain (Empty t (pos k) BlockIn) i a w → Spaces t a k → Many t is_nb_char (a + k) h u → a + k < h
      → Break t h b → TextLines t k b j ls → TextLines t k i j (blank_lines w ++ slice_range t (a + k) h ∷ ls)

-- lines, and further ones after a break
pub lines_join : {t : List ℕ} {k i h b j : ℕ} {ls ms : List (List ℕ)} → TextLines t k i h ls → Break t h b → TextLines t k b j ms → TextLines t k i j (ls ++ ms)
lines_join {t} {k} {i} {j = j} {ms = ms} (last_line {a = a} {j = h} {w = w} e s m l) b r =
    subst (λ z. TextLines t k i j z) (sym (append_assoc (blank_lines w) (slice_range t (a + k) h ∷ []) ms)) (more_lines e s m l b r)
lines_join {t} {k} {i} {j = j} {ms = ms} (more_lines {a = a} {h = h} {w = w} {ls = ls} e s m l c q) b r =
    subst (λ z. TextLines t k i j z) (sym (append_assoc (blank_lines w) (slice_range t (a + k) h ∷ ls) ms)) (more_lines e s m l c (lines_join q b r))

-- at least one line
pub data Some {A : Type 0} : List A → Type 0 where
  some : (x : A) (xs : List A) → Some (x ∷ xs)

some_lines : (w : List ℕ) (x : List ℕ) (ls : List (List ℕ)) → Some (blank_lines w ++ x ∷ ls)
some_lines [] x ls = some x ls
some_lines (c ∷ w) x ls = some [] (blank_lines w ++ x ∷ ls)

pub lines_some : {t : List ℕ} {k i j : ℕ} {ls : List (List ℕ)} → TextLines t k i j ls → Some ls
lines_some {t} {k} (last_line {a = a} {j = j} {w = w} e s m l) = some_lines w (slice_range t (a + k) j) []
lines_some {t} {k} (more_lines {a = a} {h = h} {w = w} {ls = ls} e s m l b r) = some_lines w (slice_range t (a + k) h) ls

-- as they are taken, if no marker begins one
blank_chain : {t : List ℕ} {k i j : ℕ} {w : List ℕ} → Chain (Empty t (pos k) BlockIn) i j w → Chain (Line t k) i j (blank_lines w)
blank_chain done = done
blank_chain {t} {k} (step {i = i} {h = h} {x = x} {y = y} e r) = add y (empty_line_read t k i h x e) (one_feed e) (blank_chain r) where
  add : {i h j : ℕ} {x : List ℕ} (y : List ℕ) → ((m : ℕ) × (SpaceLine t i m h × (m ≤ k))) → x ≡ 10 ∷ [] → Chain (Line t k) h j (blank_lines y) → Chain (Line t k) i j (blank_lines (x ++ y))
  add {i} {h} {j} y m e r = subst (λ z. Chain (Line t k) i j (blank_lines (z ++ y))) (sym e) (step (empty_line m.1.0 m.1.1) r)

pub lines_order : {t : List ℕ} {k i j : ℕ} {ls : List (List ℕ)} → TextLines t k i j ls → i ≤ j
lines_order (last_line e s m l) = let a = empties_forward e in omega (arith, a, l)
lines_order (more_lines e s m l b r) = let a = empties_forward e in let c = break_forward b in let d = lines_order r in omega (arith, a, l, c, d)

-- the lines except the last one, and the last one
data Front (t : List ℕ) (k i j : ℕ) (o : Bool) : List (List ℕ) → Type 0 where
  front : {h : ℕ} {ls : List (List ℕ)} {x : List ℕ} → Chain (Line t k) i h ls → LineContent t k h j x o → Front t k i j o (ls ++ x ∷ [])

after_front : {t : List ℕ} {k i h j : ℕ} {o : Bool} {ls ms : List (List ℕ)} → Chain (Line t k) i h ls → Front t k h j o ms → Front t k i j o (ls ++ ms)
after_front {t} {k} {i} {j = j} {o = o} {ls = ls} c (front {ls = ms} {x = x} d l) =
    subst (λ z. Front t k i j o z) (append_assoc ls ms (x ∷ [])) (front (chain_append c d) l)

module _ {t : List ℕ} {low high : ℕ} (clear : Clear t low high) where
  lines_front : {k i z j : ℕ} {o : Bool} {ls : List (List ℕ)} → (i < length t → LineStart t i) → low ≤ i → TextLines t k i z ls → z ≤ high → Ends t z j o → Front t k i j o ls
  lines_front s l (last_line {a = a} e p m f) h w =
      let c = empties_forward e in
      let d = text_within m f in
      let start : LineStart t a = empties_start s e (omega (arith, d)) in
      after_front (blank_chain e) (front done (content p m f w (no_marker_at clear a (omega (arith, l, c)) (omega (arith, f, h)) start)))
  lines_front {k} s l (more_lines {a = a} {h = g} {b = q} {ls = ls} e p m f br r) h w =
      let c = empties_forward e in
      let d = text_within m f in
      let v = break_forward br in
      let x = lines_order r in
      let start : LineStart t a = empties_start s e (omega (arith, d)) in
      let line : LineContent t k a q (slice_range t (a + k) g) false = content p m f (by_break br) (no_marker_at clear a (omega (arith, l, c)) (omega (arith, f, h, v, x)) start) in
      after_front (blank_chain e) (after_front (step (content_line line) done) (lines_front (λ _. after_break br) (omega (arith, l, c, f, v)) r h w))

  pub lines_taken : {k i z j p : ℕ} {o : Bool} {ls : List (List ℕ)} {ws : List ℕ} → (i < length t → LineStart t i) → low ≤ i → TextLines t k i z ls → z ≤ high → Ends t z j o
      → Chain (EmptyLines t) j p ws → largest ws ≤ k → Stuck (Line t k p) → LinesTaken t k i ls o (length ws) p
  lines_taken {k} {i} {j = j} {p = p} {o = o} {ws = ws} s l x h w c g n = go (lines_front s l x h w) where
    go : {ms : List (List ℕ)} → Front t k i j o ms → LinesTaken t k i ms o (length ws) p
    go (front b q) = record { end = j; lines = up_to b q; tail = record { widths = ws; lines = c; within = g; counts = refl }; most = n }

-- characters and their bytes
nb_begins : (t : List ℕ) (i : ℕ) → is_nb_char (code t i) ≡ true → begins t i ≡ true
nb_begins t i e = ⊎_elim (λ (h : begins t i ≡ true). h)
    (λ (h : begins t i ≡ false). absurd (true≢false (sym e ∙ ap is_nb_char (code-nowhere t i h) ∙ no_nb_char))) (cases_Bool (begins t i))

next_is : (t : List ℕ) (i : ℕ) → next t i ≡ i + len_utf8 (code t i)
unfolding next
next_is t i = refl

one_bytes : {t : List ℕ} {q n : ℕ} {x : List ℕ} (h : ℕ) (ys : List ℕ) → IsUtf8 t → One t is_nb_char q n x → n ≤ h → take (h - n) (drop n t) ≡ encodes ys → take (h - q) (drop q t) ≡ encodes (x ++ ys)
one_bytes {t} {q} h ys u (one e) l more =
    let c : ℕ = code t q in
    let cut = drop_there t q u (nb_begins t q e) in
    let n_is = next_is t q in
    let follows : drop (next t q) t ≡ cut.0 = ap (λ w. drop w t) n_is ∙ drop_past_char t cut.0 q c cut.1 in
    let long : h - q ≡ length (encode c) + (h - next t q) = omega (arith, length-encode c, n_is) in
    ap (λ w. take (h - q) w) cut.1 ∙ ap (λ w. take w (encode c ++ cut.0)) long ∙ take-append-add (encode c) cut.0 (h - next t q)
    ∙ ap (λ w. encode c ++ take (h - next t q) w) (sym follows) ∙ ap (λ w. encode c ++ w) more

pub many_bytes : {t : List ℕ} {q h : ℕ} {y : List ℕ} → IsUtf8 t → Many t is_nb_char q h y → slice_range t q h ≡ encodes y
many_bytes {t} {q} u done = let none : q - q ≡ 0 = omega arith in ap (λ w. take w (drop q t)) none
many_bytes {t} {q} {h} u (step {y = ys} s c) = one_bytes h ys u s (many_forward c) (many_bytes u c)
