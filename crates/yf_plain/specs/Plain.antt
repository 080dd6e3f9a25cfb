-- Plain scalars (YAML 1.2.2, section 7.3.3), as relations between byte offsets of a text t: the bytes from i to j are
-- derived with the text x, a list of characters. n is an indentation, from -1; c is a context.
use Rattle.std.specs.Prelude.{◌≡◌, ℕ, ◌+◌, ℤ, Bool, true, ◌==◌, ◌&&◌, ◌||◌, not, List, [], ◌∷◌, ◌++◌}
use Rattle.yf_chars.specs.Signs.{COLON, DASH, NUMBER_SIGN, QUESTION}
use Rattle.yf_chars.specs.declared.context.Ctx.{Ctx}
use Rattle.yf_chars.specs.Text.{code, next, before}
use Rattle.yf_chars.specs.Class.{is_ns_char, is_indicator, is_white, is_plain_safe}
use Rattle.yf_chars.specs.Chain.{Chain, Many, Stuck}
use Rattle.yf_lines.specs.Basic.{FlowFolded, ForbiddenLine, Clear, is_flow, is_key}
use Rattle.yf_lines.specs.Fold.{FoldsTo, fold_text}

-- the indicators ? : and -
unfoldable pub is_sign : ℕ → Bool
is_sign c = (c == QUESTION) || (c == COLON) || (c == DASH)

-- ns-plain-first(c): the character at i may begin a plain scalar; one of ? : - may if a safe character follows it
unfoldable pub is_plain_first : List ℕ → Ctx → ℕ → Bool
is_plain_first t c i =
    (is_ns_char (code t i) && not (is_indicator (code t i)))
    || (is_sign (code t i) && is_plain_safe (code t (i + 1)) c)

-- ns-plain-char(c): a plain scalar may contain the character at i: # only after a character that isn't white space, and
-- : only before a safe one
unfoldable pub is_plain_char : List ℕ → Ctx → ℕ → Bool
is_plain_char t c i =
    (is_plain_safe (code t i) c && (not (code t i == COLON) && not (code t i == NUMBER_SIGN)))
    || ((code t i == NUMBER_SIGN) && is_ns_char (before t i))
    || ((code t i == COLON) && is_plain_safe (code t (i + 1)) c)

-- white space and a character after it: one round of nb-ns-plain-in-line(c)
pub data PlainItem (t : List ℕ) (c : Ctx) : ℕ → ℕ → List ℕ → Type 0 where
  set_off : {i h : ℕ} {x : List ℕ} → Many t is_white i h x → is_plain_char t c h ≡ true → PlainItem t c i (next t h) (x ++ code t h ∷ [])

-- ns-plain-one-line(c)
pub data PlainLine (t : List ℕ) (c : Ctx) : ℕ → ℕ → List ℕ → Type 0 where
  one_line : {i j : ℕ} {x : List ℕ} → is_plain_first t c i ≡ true → Chain (PlainItem t c) (next t i) j x → PlainLine t c i j (code t i ∷ x)

-- s-ns-plain-next-line(n,c): a folded break, and the characters of the line after it
pub data PlainNext (t : List ℕ) (n : ℤ) (c : Ctx) : ℕ → ℕ → List ℕ → Type 0 where
  next_line : {i h j : ℕ} {x y : List ℕ} → FlowFolded t n i h x → is_plain_char t c h ≡ true → Chain (PlainItem t c) (next t h) j y
      → PlainNext t n c i j (x ++ code t h ∷ y)

-- ns-plain(n,c): a key is on one line; the two block contexts have none
pub data PlainText (t : List ℕ) (n : ℤ) (c : Ctx) : ℕ → ℕ → List ℕ → Type 0 where
  as_key : {i j : ℕ} {x : List ℕ} → is_key c ≡ true → PlainLine t c i j x → PlainText t n c i j x
  as_lines : {i h j : ℕ} {x y : List ℕ} → is_flow c ≡ true → PlainLine t c i h x → Chain (PlainNext t n c) h j y → PlainText t n c i j (x ++ y)

-- the first line of a plain scalar, at which no forbidden line begins
pub record PlainFront (t : List ℕ) (c : Ctx) (i j : ℕ) (x : List ℕ) : Type 0 where
  pub text : PlainLine t c i j x
  pub clear : Clear t i j

-- a plain scalar, which covers no forbidden line
pub record Plain (t : List ℕ) (n : ℤ) (c : Ctx) (i j : ℕ) (x : List ℕ) : Type 0 where
  pub text : PlainText t n c i j x
  pub clear : Clear t i j

-- all of the next line of a plain scalar: a fold with `feeds` empty lines, and its characters from start to j
pub record NextLine (t : List ℕ) (n : ℤ) (c : Ctx) (i feeds start j : ℕ) : Type 0 where
  pub text : List ℕ
  pub folded : FoldsTo t n i start (fold_text feeds)
  pub allowed : ForbiddenLine t start → ⊥
  pub first : is_plain_char t c start ≡ true
  pub items : Chain (PlainItem t c) (next t start) j text
  pub all : Stuck (PlainItem t c j)

-- no next line continues a plain scalar after i
pub record NoNextLine (t : List ℕ) (n : ℤ) (c : Ctx) (i : ℕ) : Type 0 where
  pub none : (h : ℕ) (x : List ℕ) → FoldsTo t n i h x → is_plain_char t c h ≡ true → (ForbiddenLine t h → ⊥) → ⊥
