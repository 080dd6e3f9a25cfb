-- The lines of a block scalar up to the last one with content, without that line's end: both styles read them alike.
use Rattle.std.proofs.Common.{◌≡◌, ℕ, ◌+◌, ◌<◌, ◌≤◌, pos, ◌<ℤ◌, Bool, true, true≢false, length, List, [], ◌∷◌, ◌++◌, refl, sym, ap, ◌∙◌, ⊎_elim, arith}
use Rattle.std.proofs.lemmas.Bool.{cases_lt}
use Rattle.std.proofs.lemmas.Int.{ints}
use Rattle.yf_chars.specs.declared.context.Ctx.TheVariants.{BlockIn}
use Rattle.yf_chars.specs.Text.{code, no_char}
use Rattle.yf_chars.specs.Class.{is_nb_char}
use Rattle.yf_chars.specs.Chain.{Chain, Many}
use Rattle.yf_chars.specs.Chain.One.{one}
use Rattle.yf_chars.specs.Chain.Chain.{done, step}
use Rattle.yf_chars.specs.ClassEnds.{no_nb_char}
use Rattle.yf_lines.specs.Basic.{Break, Spaces, Empty}
use Rattle.yf_lines.specs.Basic.Indent.{exactly}
use Rattle.yf_lines.specs.Basic.IndentLess.{fewer}
use Rattle.yf_lines.specs.Basic.LinePrefix.{in_block, in_flow}
use Rattle.yf_lines.specs.Basic.Empty.{prefixed, shorter}
use Rattle.yf_block_scalar.specs.Body.{SpaceLine, EmptyLines, largest, Ends, LineContent, Line}
use Rattle.yf_block_scalar.specs.Body.EmptyLines.{bare}
use Rattle.yf_block_scalar.specs.Body.Ends.{by_break, by_text}
use Rattle.yf_block_scalar.specs.Body.LineContent.{content}
use Rattle.yf_block_scalar.specs.Body.Line.{empty_line, content_line}
use Rattle.yf_chars.proofs.ChainLemmas.{chain_append}
use Rattle.yf_chars.proofs.TextLemmas.{code-past}
use Rattle.yf_lines.proofs.BasicLemmas.{break_char}
use Rattle.yf_standard.proofs.Basics.{SomeOf}
use Rattle.yf_lines.proofs.FoldLemmas.{indent_width}

-- l-empty(k,block-in)
pub empty_line_read : (t : List ℕ) (k i j : ℕ) (x : List ℕ) → Empty t (pos k) BlockIn i j x → (m : ℕ) × (SpaceLine t i m j × (m ≤ k))
empty_line_read t k i j x (prefixed (in_block e (exactly m q s)) b) = let p = indent_width q in (m, (record { spaces = s; ends = b }, omega arith))
empty_line_read t k i j x (prefixed (in_flow e p) b) = absurd (true≢false (sym e))
empty_line_read t k i j x (shorter (fewer m l s) b) = (m, (record { spaces = s; ends = b }, omega (arith, ints)))

pub one_feed : {t : List ℕ} {k i j : ℕ} {x : List ℕ} → Empty t (pos k) BlockIn i j x → x ≡ 10 ∷ []
one_feed (prefixed p b) = refl
one_feed (shorter p b) = refl

-- l-empty(k,block-in), any number of times
abbrev pub Empties : List ℕ → ℕ → ℕ → ℕ → Type 0
Empties t k = SomeOf (Chain (Empty t (pos k) BlockIn))

pub data Texts (t : List ℕ) (k : ℕ) : ℕ → ℕ → Type 0 where
  last_text : {i a j : ℕ} {x : List ℕ} → Empties t k i a → Spaces t a k → Many t is_nb_char (a + k) j x → a + k < j → Texts t k i j
  more_texts : {i a h b j : ℕ} {x : List ℕ} → Empties t k i a → Spaces t a k → Many t is_nb_char (a + k) h x → a + k < h → Break t h b → Texts t k b j → Texts t k i j

-- an empty line of m spaces
pub empty_of : (t : List ℕ) (k i m j : ℕ) → SpaceLine t i m j → m ≤ k → SomeOf (Empty t (pos k) BlockIn) i j
empty_of t k i m j s l = ⊎_elim (λ (f : m < k). (_, short f)) (λ (f : k ≤ m). (_, full f)) (cases_lt m k) where
  short : m < k → Empty t (pos k) BlockIn i j (10 ∷ [])
  short f = let q : pos m <ℤ pos k = omega (arith, ints, f) in shorter (fewer m q s.spaces) s.ends

  full : k ≤ m → Empty t (pos k) BlockIn i j (10 ∷ [])
  full f = let q : k ≡ m = omega (arith, f, l) in prefixed (in_block refl (exactly m (ap pos q) s.spaces)) s.ends

pub empties_first : {t : List ℕ} {k i h j : ℕ} → SomeOf (Empty t (pos k) BlockIn) i h → Empties t k h j → Empties t k i j
empties_first e r = (e.0 ++ r.0, step e.1 r.1)

pub empties_join : {t : List ℕ} {k i h j : ℕ} → Empties t k i h → Empties t k h j → Empties t k i j
empties_join a b = (a.0 ++ b.0, chain_append a.1 b.1)

pub no_empties : (t : List ℕ) (k i : ℕ) → Empties t k i i
no_empties t k i = ([], done)

pub bare_empties : {t : List ℕ} {i j : ℕ} {widths : List ℕ} (k : ℕ) → Chain (EmptyLines t) i j widths → largest widths ≤ k → Empties t k i j
bare_empties {t} {i} {j} k done l = no_empties t k i
bare_empties {t} {i} {j} k (step (bare {j = h} m s) r) l =
    let a : m ≤ k = omega (arith, l) in
    empties_first (empty_of t k i m h s a) (bare_empties k r (omega (arith, l)))

pub empties_before : {t : List ℕ} {k i h j : ℕ} → Empties t k i h → Texts t k h j → Texts t k i j
empties_before e (last_text f s m l) = last_text (empties_join e f) s m l
empties_before e (more_texts f s m l b r) = more_texts (empties_join e f) s m l b r

pub texts_join : {t : List ℕ} {k i h b j : ℕ} → Texts t k i h → Break t h b → Texts t k b j → Texts t k i j
texts_join (last_text f s m l) b r = more_texts f s m l b r
texts_join (more_texts f s m l c q) b r = more_texts f s m l c (texts_join q b r)

-- no line begins past the end of the text
pub some_first : {t : List ℕ} {p : ℕ → Bool} {i j : ℕ} {x : List ℕ} → Many t p i j x → i < j → p (code t i) ≡ true
some_first done l = absurd (omega arith)
some_first (step (one e) r) l = e

pub no_line_past : {t : List ℕ} {k i j : ℕ} {x : List (List ℕ)} → length t ≤ i → Line t k i j x → ⊥
no_line_past {t} {k} {i} l (empty_line {m = m} s w) =
    let q : code t (i + m) ≡ no_char = code-past t (i + m) (omega arith) in
    ⊎_elim (λ h. absurd (omega arith)) (λ h. absurd (omega arith)) (break_char s.ends)
no_line_past {t} {k} {i} l (content_line (content s m w e n)) =
    let q : code t (i + k) ≡ no_char = code-past t (i + k) (omega arith) in
    true≢false (sym (some_first m w) ∙ ap is_nb_char q ∙ no_nb_char)

-- lines up to a content line, and that line's end
pub lines_texts : {t : List ℕ} {k i h j : ℕ} {ls : List (List ℕ)} {x : List ℕ} {o : Bool} → Chain (Line t k) i h ls → LineContent t k h j x o → (z : ℕ) × (Texts t k i z × Ends t z j o)
lines_texts {t} {k} {i} done (content {h = z} s m l w n) = (z, (last_text (no_empties t k i) s m l, w))
lines_texts {t} {k} {i} (step (empty_line {j = g} {m = d} s l) r) c =
    let a = lines_texts r c in (a.0, (empties_before (empties_first (empty_of t k i d g s l) (no_empties t k g)) a.1.0, a.1.1))
lines_texts {t} {k} {i} {h} {j} (step (content_line d) r) c = past d r c (lines_texts r c) where
  never : {g : ℕ} {ks : List (List ℕ)} {x : List ℕ} {o : Bool} → g ≡ length t → Chain (Line t k) g h ks → LineContent t k h j x o → ⊥
  never e done c = no_line_past (omega (arith, e)) (content_line c)
  never e (step l r) c = no_line_past (omega (arith, e)) l

  past : {g : ℕ} {y : List ℕ} {ks : List (List ℕ)} {x : List ℕ} {o q : Bool} → LineContent t k i g y q → Chain (Line t k) g h ks → LineContent t k h j x o → (z : ℕ) × (Texts t k g z × Ends t z j o) → (z : ℕ) × (Texts t k i z × Ends t z j o)
  past (content s m l (by_break b) n) r c a = (a.0, (more_texts (no_empties t k i) s m l b a.1.0, a.1.1))
  past (content s m l (by_text e) n) r c a = absurd (never e r c)
