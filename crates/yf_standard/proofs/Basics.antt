-- The productions of chapters 5 and 6, read as forms, are the relations of `Basic` and `Comments`: from the standard's
-- form to the relation.
use Rattle.std.proofs.Common.{◌≡◌, ◌≢◌, ℕ, suc, ◌+◌, ◌-◌, ◌<◌, ◌≤◌, ℤ, pos, ◌<ℤ◌, Bool, true, List, [], ◌∷◌, ◌++◌, length, refl, sym, ap, ◌∙◌, subst, ◌⊎◌, inl, inr, arith, slice_range}
use Rattle.std.proofs.lemmas.Bool.{eqb-true}
use Rattle.std.proofs.lemmas.Int.{ints}
use Rattle.std.specs.Str.{IsUtf8}
use Rattle.yf_chars.specs.declared.context.Ctx.{Ctx}
use Rattle.yf_chars.specs.declared.context.Ctx.TheVariants.{FlowIn}
use Rattle.yf_chars.specs.Text.{code, next}
use Rattle.yf_chars.specs.Class.{is_white, is_nb_char}
use Rattle.yf_chars.specs.Chain.{Chain, One, Many}
use Rattle.yf_chars.specs.Chain.Chain.{done, step}
use Rattle.yf_chars.specs.Chain.One.{one}
use Rattle.yf_lines.specs.Basic.{Break, LineStart, Spaces, Indent, IndentLess, SeparateInLine, FlowPrefix, LinePrefix, Empty, FoldedBreak, FlowFolded}
use Rattle.yf_lines.specs.Basic.Break.{cr_lf, lone_cr, lone_lf}
use Rattle.yf_lines.specs.Basic.Indent.{exactly}
use Rattle.yf_lines.specs.Basic.IndentLess.{fewer}
use Rattle.yf_lines.specs.Basic.SeparateInLine.{by_whites, at_start}
use Rattle.yf_lines.specs.Basic.FlowPrefix.{indented, set_off}
use Rattle.yf_lines.specs.Basic.Empty.{prefixed, shorter}
use Rattle.yf_lines.specs.Basic.FoldedBreak.{trimmed, as_space}
use Rattle.yf_lines.specs.Basic.FlowFolded.{at_break, past_whites}
use Rattle.yf_comments.specs.Comments.{CommentText, BreakOrEnd, LineRest, CommentLine, LineEnd, SeparateLines}
use Rattle.yf_comments.specs.Comments.CommentText.{comment_text}
use Rattle.yf_comments.specs.Comments.BreakOrEnd.{by_break, by_end}
use Rattle.yf_comments.specs.Comments.LineRest.{nothing, whites, comment}
use Rattle.yf_comments.specs.Comments.CommentLine.{whites_line, comment_line}
use Rattle.yf_comments.specs.Comments.LineEnd.{past_rest, from_start}
use Rattle.yf_comments.specs.Comments.SeparateLines.{in_line, over_lines}
use Rattle.yf_standard.specs.Characters.{x, s-space, s-white, c-comment, nb-char, b-carriage-return, b-line-feed}
use Rattle.yf_standard.proofs.Reading.{Star}
use Rattle.yf_standard.proofs.Reading.Star.{none, more}
use Rattle.yf_standard.proofs.Sets.{white_is, nb_char_is}
use Rattle.yf_chars.proofs.TextLemmas.{next_ascii, next_later}
use Rattle.yf_comments.proofs.NoteKnown.{note_known}
use Rattle.yf_lines.proofs.FoldLemmas.{indent_width}
use Rattle.yf_lines.proofs.RestLemmas.{spaces_more}

-- with some meaning
abbrev pub SomeOf : {A : Type 0} → (ℕ → ℕ → A → Type 0) → ℕ → ℕ → Type 0
SomeOf {A} S i j = (x : A) × S i j x

abbrev pub CharOf : List ℕ → (ℕ → Bool) → ℕ → ℕ → Type 0
CharOf t s i j = (s (code t i) ≡ true) × (next t i ≡ j)

pub star_chain : {A : Type 0} {R : ℕ → ℕ → Type 0} {S : ℕ → ℕ → List A → Type 0} {i j : ℕ} → ((i j : ℕ) → R i j → SomeOf S i j) → Star R i j → SomeOf (Chain S) i j
star_chain f none = ([], done)
star_chain f (more {i = i} {k = k} r s) = let a = f i k r in let b = star_chain f s in (a.0 ++ b.0, step a.1 b.1)

pub char_one : {t : List ℕ} {s p : ℕ → Bool} → ((c : ℕ) → s c ≡ p c) → (i j : ℕ) → CharOf t s i j → SomeOf (One t p) i j
char_one {t} {s} {p} e i j c = (code t i ∷ [], subst (λ k. One t p i k (code t i ∷ [])) c.1 (one (sym (e (code t i)) ∙ c.0)))

pub chars_many : {t : List ℕ} {s p : ℕ → Bool} {i j : ℕ} → ((c : ℕ) → s c ≡ p c) → Star (CharOf t s) i j → SomeOf (Many t p) i j
chars_many e s = star_chain (λ i j c. char_one e i j c) s

pub many_forward : {t : List ℕ} {p : ℕ → Bool} {i j : ℕ} {x : List ℕ} → Many t p i j x → i ≤ j
many_forward done = omega arith
many_forward {t} (step (one {i = i} e) c) = let a = next_later t i in let b = many_forward c in omega arith

-- one or more characters of a class
pub chars_some : {t : List ℕ} {s p : ℕ → Bool} {i j k : ℕ} → ((c : ℕ) → s c ≡ p c) → CharOf t s i k → Star (CharOf t s) k j
    → ((x : List ℕ) × (Many t p i j x × (i < j)))
chars_some {t} {s} {p} {i} {j} {k} e c r =
    let a = chars_many {t = t} {s = s} {p = p} e r in
    let b = char_one {t = t} {s = s} {p = p} e i k c in
    let l = next_later t i in
    let m = many_forward a.1 in
    let q : next t i ≡ k = c.1 in
    (b.0 ++ a.0, (step b.1 a.1, omega arith))

-- one character of a set with one element below 128
pub char_is : (t : List ℕ) (i j d : ℕ) → d < 128 → CharOf t (x d) i j → (code t i ≡ d) × (i + 1 ≡ j)
unfolding x
char_is t i j d l c =
    let e : code t i ≡ d = eqb-true (code t i) d c.0 in
    (e, sym (next_ascii t i (omega arith)) ∙ c.1)

-- [28]
pub break_read : {t : List ℕ} {i j : ℕ}
    → ((k : ℕ) × (CharOf t b-carriage-return i k × CharOf t b-line-feed k j))
    ⊎ (((k : ℕ) × (CharOf t b-carriage-return i k × ((code t k ≢ 10) × (k ≡ j))))
    ⊎ ((k : ℕ) × (((code t (i - 1) ≢ 13) × (i ≡ k)) × CharOf t b-line-feed k j)))
    → Break t i j
unfolding b-carriage-return b-line-feed
break_read {t} {i} {j} (inl d) =
    let a = char_is t i d.0 13 (omega arith) d.1.0 in
    let b = char_is t d.0 j 10 (omega arith) d.1.1 in
    let s : d.0 ≡ i + 1 = sym a.1 in
    let e : i + 2 ≡ j = omega (arith, b.1) in
    subst (λ k. Break t i k) e (cr_lf a.0 (ap (code t) a.1 ∙ b.0))
break_read {t} {i} {j} (inr (inl d)) =
    let a = char_is t i d.0 13 (omega arith) d.1.0 in
    subst (λ k. Break t i k) (a.1 ∙ d.1.1.1) (lone_cr a.0 (λ q. d.1.1.0 (sym (ap (code t) a.1) ∙ q)))
break_read {t} {i} {j} (inr (inr d)) =
    let b = char_is t d.0 j 10 (omega arith) d.1.1 in
    let s : i ≡ d.0 = d.1.0.1 in
    let e : i + 1 ≡ j = omega (arith, b.1) in
    subst (λ k. Break t i k) e (lone_lf (ap (code t) s ∙ b.0) d.1.0.0)

pub indent_more : {t : List ℕ} {n i k j : ℕ} → CharOf t s-space i k → Indent t (pos n) k j → Indent t (pos (suc n)) i j
unfolding s-space
indent_more {t} {n} {i} {k} c d = go (char_is t i k 32 (omega arith) c) d where
  go : {k j : ℕ} → (code t i ≡ 32) × (i + 1 ≡ k) → Indent t (pos n) k j → Indent t (pos (suc n)) i j
  go e (exactly {i = h} m q s) =
      let a : i + suc m ≡ h + m = omega (arith, e.1) in
      let same : suc n ≡ suc m = ap suc (indent_width q) in
      subst (λ j. Indent t (pos (suc n)) i j) a (exactly (suc m) (ap pos same) (spaces_more e.0 (subst (λ h. Spaces t h m) (sym e.1) s)))

pub indent_none : (t : List ℕ) (i j : ℕ) → i ≡ j → Indent t (pos 0) i j
indent_none t i j e =
    let q : i + 0 ≡ j = omega (arith, e) in
    subst (λ k. Indent t (pos 0) i k) q (exactly 0 refl (record { each = λ m l. absurd (omega arith) }))

-- [64]
pub less_none : (t : List ℕ) (n i j : ℕ) → i ≡ j → IndentLess t (pos (suc n)) i j
less_none t n i j e =
    let q : i + 0 ≡ j = omega (arith, e) in
    let l : pos 0 <ℤ pos (suc n) = omega (arith, ints) in
    subst (λ k. IndentLess t (pos (suc n)) i k) q (fewer 0 l (record { each = λ m l. absurd (omega arith) }))

pub less_more : (t : List ℕ) (n i k j : ℕ) → CharOf t s-space i k → IndentLess t (pos (suc n)) k j → IndentLess t (pos (suc (suc n))) i j
unfolding s-space
less_more t n i k j c d = go (char_is t i k 32 (omega arith) c) d where
  go : {k j : ℕ} → (code t i ≡ 32) × (i + 1 ≡ k) → IndentLess t (pos (suc n)) k j → IndentLess t (pos (suc (suc n))) i j
  go e (fewer {i = h} m q s) =
      let a : i + suc m ≡ h + m = omega (arith, e.1) in
      let l : pos (suc m) <ℤ pos (suc (suc n)) = omega (arith, ints, q) in
      subst (λ j. IndentLess t (pos (suc (suc n))) i j) a (fewer (suc m) l (spaces_more e.0 (subst (λ h. Spaces t h m) (sym e.1) s)))

-- [66]
pub separate_in_line_read : (t : List ℕ) (i j : ℕ) → ((k : ℕ) × (CharOf t s-white i k × Star (CharOf t s-white) k j)) ⊎ (LineStart t i × (i ≡ j)) → SeparateInLine t i j
separate_in_line_read t i j (inl d) =
    let a = chars_some {t = t} {s = s-white} {p = is_white} white_is d.1.0 d.1.1 in by_whites a.1.0 a.1.1
separate_in_line_read t i j (inr d) = subst (λ k. SeparateInLine t i k) d.1 (at_start d.0)

-- [69]
pub flow_prefix_read : (t : List ℕ) (n : ℤ) (i j : ℕ) → (k : ℕ) × (Indent t n i k × ((k ≡ j) ⊎ SeparateInLine t k j)) → FlowPrefix t n i j
flow_prefix_read t n i j d = go d.1.1 where
  go : ((d.0 ≡ j) ⊎ SeparateInLine t d.0 j) → FlowPrefix t n i j
  go (inl e) = subst (λ k. FlowPrefix t n i k) e (indented d.1.0)
  go (inr s) = set_off d.1.0 s

-- [70]
pub empty_read : (t : List ℕ) (n : ℤ) (c : Ctx) (i j : ℕ) → (k : ℕ) × ((LinePrefix t n c i k ⊎ IndentLess t n i k) × Break t k j) → SomeOf (Empty t n c) i j
empty_read t n c i j d = (10 ∷ [], go d.1.0) where
  go : (LinePrefix t n c i d.0 ⊎ IndentLess t n i d.0) → Empty t n c i j (10 ∷ [])
  go (inl p) = prefixed p d.1.1
  go (inr p) = shorter p d.1.1

-- [71] and [73]
pub data Trimmed (t : List ℕ) (n : ℤ) (c : Ctx) : ℕ → ℕ → List ℕ → Type 0 where
  trimmed_lines : {i h k j : ℕ} {x y : List ℕ} → Break t i h → Empty t n c h k x → Chain (Empty t n c) k j y → Trimmed t n c i j (x ++ y)

pub trimmed_read : (t : List ℕ) (n : ℤ) (c : Ctx) (i j : ℕ)
    → (h : ℕ) × (Break t i h × ((k : ℕ) × (SomeOf (Empty t n c) h k × Star (SomeOf (Empty t n c)) k j))) → SomeOf (Trimmed t n c) i j
trimmed_read t n c i j d =
    let a = star_chain {S = Empty t n c} (λ i j s. s) d.1.1.1.1 in
    (d.1.1.1.0.0 ++ a.0, trimmed_lines d.1.0 d.1.1.1.0.1 a.1)

pub folded_read : (t : List ℕ) (n : ℤ) (c : Ctx) (i j : ℕ) → SomeOf (Trimmed t n c) i j ⊎ Break t i j → SomeOf (FoldedBreak t n c) i j
folded_read t n c i j (inl d) = (d.0, go d.1) where
  go : {x : List ℕ} → Trimmed t n c i j x → FoldedBreak t n c i j x
  go (trimmed_lines b e r) = trimmed b e r
folded_read t n c i j (inr b) = (32 ∷ [], as_space b)

-- [74]
pub flow_folded_read : (t : List ℕ) (n : ℤ) (i j : ℕ)
    → (g : ℕ) × (((i ≡ g) ⊎ SeparateInLine t i g) × ((h : ℕ) × (SomeOf (FoldedBreak t n FlowIn) g h × FlowPrefix t n h j))) → SomeOf (FlowFolded t n) i j
flow_folded_read t n i j d = (d.1.1.1.0.0, go d.1.0) where
  go : ((i ≡ d.0) ⊎ SeparateInLine t i d.0) → FlowFolded t n i j d.1.1.1.0.0
  go (inl e) = subst (λ k. FlowFolded t n k j d.1.1.1.0.0) (sym e) (at_break d.1.1.1.0.1 d.1.1.1.1)
  go (inr s) = past_whites s d.1.1.1.0.1 d.1.1.1.1

-- [75]
pub comment_read : (t : List ℕ) (i j : ℕ) → IsUtf8 t → (k : ℕ) × (CharOf t c-comment i k × Star (CharOf t nb-char) k j) → SomeOf (CommentText t) i j
unfolding c-comment
comment_read t i j u d =
    let c = char_is t i d.0 35 (omega arith) d.1.0 in
    let m = chars_many {t = t} {s = nb-char} {p = is_nb_char} nb_char_is d.1.1 in
    let n = note_known t i u in
    (record { text = slice_range t i j; offset = i; blank_before = n.0 } ∷ [], comment_text c.0 (subst (λ k. Many t is_nb_char k j m.0) (sym c.1) m.1) n.1)

-- [76]
pub b_comment_read : (t : List ℕ) (i j : ℕ) → Break t i j ⊎ ((i ≡ length t) × (i ≡ j)) → BreakOrEnd t i j
b_comment_read t i j (inl b) = by_break b
b_comment_read t i j (inr e) = subst (λ k. BreakOrEnd t i k) e.1 (by_end e.0)

-- [77]
abbrev pub TextOr : List ℕ → ℕ → ℕ → Type 0
TextOr t i j = (i ≡ j) ⊎ SomeOf (CommentText t) i j

pub rest_read : (t : List ℕ) (i j : ℕ) → (h : ℕ) × (((i ≡ h) ⊎ ((g : ℕ) × (SeparateInLine t i g × TextOr t g h))) × BreakOrEnd t h j) → SomeOf (LineRest t) i j
rest_read t i j d = go d.1.0 where
  with_text : (g : ℕ) → SeparateInLine t i g → TextOr t g d.0 → SomeOf (LineRest t) i j
  with_text g s (inl e) = ([], whites s (subst (λ k. BreakOrEnd t k j) (sym e) d.1.1))
  with_text g s (inr c) = (c.0, comment s c.1 d.1.1)

  go : ((i ≡ d.0) ⊎ ((g : ℕ) × (SeparateInLine t i g × TextOr t g d.0))) → SomeOf (LineRest t) i j
  go (inl e) = ([], subst (λ k. LineRest t k j []) (sym e) (nothing d.1.1))
  go (inr w) = with_text w.0 w.1.0 w.1.1

-- [78]
pub l_comment_read : (t : List ℕ) (i j : ℕ) → (g : ℕ) × (SeparateInLine t i g × ((h : ℕ) × (TextOr t g h × BreakOrEnd t h j))) → SomeOf (CommentLine t) i j
l_comment_read t i j d = go d.1.1.1.0 where
  go : TextOr t d.0 d.1.1.0 → SomeOf (CommentLine t) i j
  go (inl e) = ([], whites_line d.1.0 (subst (λ k. BreakOrEnd t k j) (sym e) d.1.1.1.1))
  go (inr c) = (c.0, comment_line d.1.0 c.1 d.1.1.1.1)

-- [79]
pub comments_read : (t : List ℕ) (i j : ℕ) → (h : ℕ) × ((SomeOf (LineRest t) i h ⊎ (LineStart t i × (i ≡ h))) × Star (SomeOf (CommentLine t)) h j) → SomeOf (LineEnd t) i j
comments_read t i j d = go (star_chain {S = CommentLine t} (λ i j s. s) d.1.1) d.1.0 where
  go : SomeOf (Chain (CommentLine t)) d.0 j → (SomeOf (LineRest t) i d.0 ⊎ (LineStart t i × (i ≡ d.0))) → SomeOf (LineEnd t) i j
  go c (inl r) = (r.0 ++ c.0, past_rest r.1 c.1)
  go c (inr s) = (c.0, from_start s.0 (subst (λ k. Chain (CommentLine t) k j c.0) (sym s.1) c.1))

-- [81]
pub separate_lines_read : (t : List ℕ) (n : ℤ) (i j : ℕ) → ((h : ℕ) × (SomeOf (LineEnd t) i h × FlowPrefix t n h j)) ⊎ SeparateInLine t i j → SomeOf (SeparateLines t n) i j
separate_lines_read t n i j (inl d) = (d.1.0.0, over_lines d.1.0.1 d.1.1)
separate_lines_read t n i j (inr s) = ([], in_line s)
