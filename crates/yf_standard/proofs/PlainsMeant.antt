-- The productions of plain scalars (7.3.3) add to content the text that `Plain` of yf_plain derives.
use Rattle.std.proofs.Common.{◌≡◌, ℕ, ℤ, true, List, ◌∷◌, ◌++◌}
use Rattle.yf_chars.specs.declared.context.Ctx.{Ctx}
use Rattle.yf_chars.specs.Text.{code, next}
use Rattle.yf_chars.specs.Class.{is_white}
use Rattle.yf_chars.specs.Chain.{Chain, Many}
use Rattle.yf_lines.specs.Basic.{is_flow, FlowFolded}
use Rattle.yf_plain.specs.Plain.{PlainItem, PlainLine, PlainNext, PlainText, is_plain_char, is_plain_first}
use Rattle.yf_plain.specs.Plain.PlainItem.{set_off}
use Rattle.yf_plain.specs.Plain.PlainLine.{one_line}
use Rattle.yf_plain.specs.Plain.PlainNext.{next_line}
use Rattle.yf_plain.specs.Plain.PlainText.{as_lines}
use Rattle.yf_standard.specs.Characters.{Set, s-white}
use Rattle.yf_standard.specs.Contents.{Mark, one_char}
use Rattle.yf_standard.proofs.Meant.{Then, Either, Character, Here}
use Rattle.yf_standard.proofs.Meant.Then.{both}
use Rattle.yf_standard.proofs.Meant.Either.{left, right}
use Rattle.yf_standard.proofs.Meant.Character.{character}
use Rattle.yf_standard.proofs.Meant.Here.{here}
use Rattle.yf_standard.proofs.BasicsMeant.{Spells, CharAt, spells, marks_append, marks_last, many_spells, same_spells}
use Rattle.yf_standard.proofs.BasicsMeant.Spells.{spelled}
use Rattle.yf_standard.proofs.BasicsMeant.CharAt.{at}
use Rattle.yf_standard.proofs.Sets.{white_is}

-- [126] and [130]: one character
pub first_adds : {t : List ℕ} {P : ℕ → Type 0} {s r : Set} {C : ℕ → Type 0} {i j : ℕ} {x : List Mark} → P i × (next t i ≡ j)
    → Either (Character t one_char s) (Then (Character t one_char r) (Here C)) i j x → CharAt t P i j x
first_adds p (left (character e)) = at p.0
first_adds p (right (both (character e) (here h))) = at p.0

pub char_adds : {t : List ℕ} {P : ℕ → Type 0} {s r q : Set} {B C : ℕ → Type 0} {i j : ℕ} {x : List Mark} → P i × (next t i ≡ j)
    → Either (Character t one_char s) (Either (Then (Here B) (Character t one_char q)) (Then (Character t one_char r) (Here C))) i j x → CharAt t P i j x
char_adds p (left (character e)) = at p.0
char_adds p (right (left (both (here h) (character e)))) = at p.0
char_adds p (right (right (both (character e) (here h)))) = at p.0

abbrev pub PlainCharAt : List ℕ → Ctx → ℕ → ℕ → List Mark → Type 0
PlainCharAt t c = CharAt t (λ i. is_plain_char t c i ≡ true)

-- [132]
pub item_spells : (t : List ℕ) (c : Ctx) (i j : ℕ) (x : List Mark) → Then (Chain (Character t one_char s-white)) (PlainCharAt t c) i j x → Spells (PlainItem t c) i j x
item_spells t c i j x (both w d) = go (many_spells {t = t} {s = s-white} {p = is_white} white_is w) d where
  go : {i h j : ℕ} {x y : List Mark} → Spells (Many t is_white) i h x → PlainCharAt t c h j y → Spells (PlainItem t c) i j (x ++ y)
  go (spelled {x = w} m) (at {i = h} e) = spells _ (set_off m e) (marks_last w (code t h))

-- [133]
pub line_spells : {t : List ℕ} {c : Ctx} {i j : ℕ} {x : List Mark} → Then (CharAt t (λ i. is_plain_first t c i ≡ true)) (Spells (Chain (PlainItem t c))) i j x → Spells (PlainLine t c) i j x
line_spells (both (at e) (spelled r)) = spelled (one_line e r)

-- [134]
pub next_spells : {t : List ℕ} {n : ℤ} {c : Ctx} {i j : ℕ} {x : List Mark}
    → Then (Spells (FlowFolded t n)) (Then (PlainCharAt t c) (Spells (Chain (PlainItem t c)))) i j x → Spells (PlainNext t n c) i j x
next_spells {t} {n} {c} (both f (both d r)) = go f d r where
  go : {i h k j : ℕ} {x y z : List Mark} → Spells (FlowFolded t n) i h x → PlainCharAt t c h k y → Spells (Chain (PlainItem t c)) k j z → Spells (PlainNext t n c) i j (x ++ (y ++ z))
  go (spelled {x = x} f) (at {i = h} e) (spelled {x = z} r) = spells _ (next_line f e r) (marks_append x (code t h ∷ z))

-- [135]
pub multi_spells : {t : List ℕ} {n : ℤ} {c : Ctx} {i j : ℕ} {x : List Mark} → is_flow c ≡ true → Then (Spells (PlainLine t c)) (Chain (Spells (PlainNext t n c))) i j x → Spells (PlainText t n c) i j x
multi_spells {t} {n} {c} e (both l r) = go l (same_spells r) where
  go : {i h j : ℕ} {x y : List Mark} → Spells (PlainLine t c) i h x → Spells (Chain (PlainNext t n c)) h j y → Spells (PlainText t n c) i j (x ++ y)
  go (spelled {x = x} a) (spelled {x = y} b) = spells _ (as_lines e a b) (marks_append x y)
