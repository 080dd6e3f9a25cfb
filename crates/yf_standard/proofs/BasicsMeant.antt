-- What the productions of chapter 6 add to content: breaks, empty lines and folds (5.4, 6.1 to 6.5).
use Rattle.std.proofs.Common.{◌≡◌, ℕ, ℤ, Bool, List, [], ◌∷◌, ◌++◌, refl, sym, ap, ◌∙◌, subst}
use Rattle.yf_chars.specs.declared.context.Ctx.{Ctx}
use Rattle.yf_chars.specs.declared.context.Ctx.TheVariants.{FlowIn}
use Rattle.yf_chars.specs.Text.{code, next}
use Rattle.yf_chars.specs.Chain.{Chain, One, Many}
use Rattle.yf_chars.specs.Chain.One.{one}
use Rattle.yf_chars.specs.Chain.Chain.{done, step}
use Rattle.yf_lines.specs.Basic.{Break, Indent, IndentLess, SeparateInLine, FlowPrefix, LinePrefix, Empty, FoldedBreak, FlowFolded}
use Rattle.yf_lines.specs.Basic.FlowPrefix.{indented, set_off}
use Rattle.yf_lines.specs.Basic.Empty.{prefixed, shorter}
use Rattle.yf_lines.specs.Basic.FoldedBreak.{trimmed, as_space}
use Rattle.yf_lines.specs.Basic.FlowFolded.{at_break, past_whites}
use Rattle.yf_standard.specs.Contents.{Mark, marks, one_char}
use Rattle.yf_standard.specs.Contents.Mark.{char}
use Rattle.yf_standard.proofs.Meant.{Then, Either, Perhaps, Several, Character}
use Rattle.yf_standard.proofs.Meant.Then.{both}
use Rattle.yf_standard.proofs.Meant.Either.{left, right}
use Rattle.yf_standard.proofs.Meant.Perhaps.{missing, given}
use Rattle.yf_standard.proofs.Meant.Several.{several}
use Rattle.yf_standard.proofs.Meant.Character.{character}
use Rattle.yf_standard.proofs.Basics.{Trimmed}
use Rattle.yf_standard.proofs.Basics.Trimmed.{trimmed_lines}

-- a relation, with one meaning, and with what it spells
pub data Puts {A : Type 0} (y : List A) (R : ℕ → ℕ → Type 0) (i j : ℕ) : List A → Type 0 where
  puts : R i j → Puts y R i j y

abbrev pub Quiet : {A : Type 0} → (ℕ → ℕ → Type 0) → ℕ → ℕ → List A → Type 0
Quiet R = Puts [] R

pub data Spells (S : ℕ → ℕ → List ℕ → Type 0) (i j : ℕ) : List Mark → Type 0 where
  spelled : {x : List ℕ} → S i j x → Spells S i j (marks x)

-- a character with a property of its offset
pub data CharAt (t : List ℕ) (P : ℕ → Type 0) : ℕ → ℕ → List Mark → Type 0 where
  at : {i : ℕ} → P i → CharAt t P i (next t i) (char (code t i) ∷ [])

pub spells : {S : ℕ → ℕ → List ℕ → Type 0} {i j : ℕ} {y : List Mark} (x : List ℕ) → S i j x → marks x ≡ y → Spells S i j y
spells {S = S} {i = i} {j = j} x s e = subst (λ z. Spells S i j z) e (spelled s)

pub marks_append : (x y : List ℕ) → marks (x ++ y) ≡ marks x ++ marks y
marks_append [] y = refl
marks_append (c ∷ x) y = ap (λ z. char c ∷ z) (marks_append x y)

pub marks_last : (x : List ℕ) (c : ℕ) → marks (x ++ c ∷ []) ≡ marks x ++ char c ∷ []
marks_last x c = marks_append x (c ∷ [])

-- steps, in sequence
pub chain_spells : {R : ℕ → ℕ → List Mark → Type 0} {S : ℕ → ℕ → List ℕ → Type 0} {i j : ℕ} {x : List Mark}
    → ((i j : ℕ) (x : List Mark) → R i j x → Spells S i j x) → Chain R i j x → Spells (Chain S) i j x
chain_spells f done = spelled done
chain_spells {S = S} f (step {i = i} {h = h} {j = j} {x = x} r c) = join (f i h x r) (chain_spells f c) where
  join : {i h j : ℕ} {x y : List Mark} → Spells S i h x → Spells (Chain S) h j y → Spells (Chain S) i j (x ++ y)
  join (spelled {x = x} a) (spelled {x = y} b) = spells _ (step a b) (marks_append x y)

pub same_spells : {S : ℕ → ℕ → List ℕ → Type 0} {i j : ℕ} {x : List Mark} → Chain (Spells S) i j x → Spells (Chain S) i j x
same_spells c = chain_spells (λ i j x r. r) c

pub one_spells : {t : List ℕ} {s p : ℕ → Bool} → ((c : ℕ) → s c ≡ p c) → (i j : ℕ) (x : List Mark) → Character t one_char s i j x → Spells (One t p) i j x
one_spells {t} e i j x (character {i = k} q) = spelled (one (sym (e (code t k)) ∙ q))

-- characters of a class, any number of them
pub many_spells : {t : List ℕ} {s p : ℕ → Bool} {i j : ℕ} {x : List Mark} → ((c : ℕ) → s c ≡ p c) → Chain (Character t one_char s) i j x → Spells (Many t p) i j x
many_spells {t = t} {s = s} {p = p} e c = chain_spells {S = One t p} (one_spells {t = t} {s = s} {p = p} e) c

-- [69], [67] and [68] are quiet
pub flow_prefix_quiet : {A : Type 0} {t : List ℕ} {n : ℤ} {i j : ℕ} {x : List A} → Then (Quiet (Indent t n)) (Perhaps (Quiet (SeparateInLine t))) i j x → Quiet (FlowPrefix t n) i j x
flow_prefix_quiet (both (puts d) missing) = puts (indented d)
flow_prefix_quiet (both (puts d) (given (puts s))) = puts (set_off d s)

-- [70]
pub empty_spells : {t : List ℕ} {n : ℤ} {c : Ctx} {i j : ℕ} {x : List Mark}
    → Then (Either (Quiet (LinePrefix t n c)) (Quiet (IndentLess t n))) (Puts (char 10 ∷ []) (Break t)) i j x → Spells (Empty t n c) i j x
empty_spells (both (left (puts p)) (puts b)) = spelled (prefixed p b)
empty_spells (both (right (puts p)) (puts b)) = spelled (shorter p b)

-- [71]
pub trimmed_spells : {t : List ℕ} {n : ℤ} {c : Ctx} {i j : ℕ} {x : List Mark}
    → Then (Quiet (Break t)) (Several (Spells (Empty t n c))) i j x → Spells (Trimmed t n c) i j x
trimmed_spells {t} {n} {c} (both (puts b) (several (spelled {x = x} e) r)) = go b e (same_spells r) where
  go : {i h k j : ℕ} {x : List ℕ} {y : List Mark} → Break t i h → Empty t n c h k x → Spells (Chain (Empty t n c)) k j y → Spells (Trimmed t n c) i j (marks x ++ y)
  go {x = x} b e (spelled {x = y} r) = spells _ (trimmed_lines b e r) (marks_append x y)

-- [73]
pub folded_spells : {t : List ℕ} {n : ℤ} {c : Ctx} {i j : ℕ} {x : List Mark}
    → Either (Spells (Trimmed t n c)) (Puts (char 32 ∷ []) (Break t)) i j x → Spells (FoldedBreak t n c) i j x
folded_spells (left (spelled (trimmed_lines b e r))) = spelled (trimmed b e r)
folded_spells (right (puts b)) = spelled (as_space b)

-- [74]
pub nothing_after : (x : List Mark) → x ++ [] ≡ x
nothing_after [] = refl
nothing_after (c ∷ x) = ap (λ z. c ∷ z) (nothing_after x)

pub flow_folded_spells : {t : List ℕ} {n : ℤ} {i j : ℕ} {x : List Mark}
    → Then (Perhaps (Quiet (SeparateInLine t))) (Then (Spells (FoldedBreak t n FlowIn)) (Quiet (FlowPrefix t n))) i j x → Spells (FlowFolded t n) i j x
flow_folded_spells (both missing (both (spelled {x = x} f) (puts p))) = spells _ (at_break f p) (sym (nothing_after (marks x)))
flow_folded_spells (both (given (puts s)) (both (spelled {x = x} f) (puts p))) = spells _ (past_whites s f p) (sym (nothing_after (marks x)))
