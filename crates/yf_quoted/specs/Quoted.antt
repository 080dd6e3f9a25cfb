-- Single- and double-quoted scalars (YAML 1.2.2, sections 7.3.1 and 7.3.2), as relations between byte offsets of a text
-- t: the bytes from i to j are derived with the meaning x. n is an indentation, from -1; c is a context.
use Rattle.std.specs.Prelude.{◌≡◌, ◌≢◌, ℕ, ◌+◌, ℤ, true, false, List, [], ◌∷◌, ◌++◌}
use Rattle.std.specs.Char.{IsScalar}
use Rattle.yf_chars.specs.Signs.{BACKSLASH, DOUBLE_QUOTE, SINGLE_QUOTE}
use Rattle.yf_chars.specs.declared.context.Ctx.{Ctx}
use Rattle.yf_chars.specs.declared.context.Ctx.TheVariants.{FlowIn}
use Rattle.yf_chars.specs.Text.{code, next}
use Rattle.yf_chars.specs.Class.{is_nb_json, is_white}
use Rattle.yf_chars.specs.Chain.{Chain, Many}
use Rattle.yf_chars.specs.Escape.{Escape}
use Rattle.yf_lines.specs.Basic.{Break, Empty, FlowPrefix, FlowFolded, Clear, is_flow, is_key}

-- The productions that both kinds of quotes share, over the characters C and the breaks B of the kind; put turns plain
-- characters into a meaning.

-- white space, and a character after it that isn't white space
pub data Item {A : Type 0} (t : List ℕ) (put : List ℕ → List A) (C : ℕ → ℕ → List A → Type 0) : ℕ → ℕ → List A → Type 0 where
  set_off : {i h j : ℕ} {x : List ℕ} {y : List A} → Many t is_white i h x → is_white (code t h) ≡ false → C h j y → Item t put C i j (put x ++ y)

-- the end of a line: white space before the closing quote, a break before it, or a break and further lines
pub data Rest {A : Type 0} (t : List ℕ) (put : List ℕ → List A) (C B : ℕ → ℕ → List A → Type 0) : ℕ → ℕ → List A → Type 0 where
  blank : {i j : ℕ} {x : List ℕ} → Many t is_white i j x → Rest t put C B i j (put x)
  last_break : {i j : ℕ} {x : List A} → B i j x → Rest t put C B i j x
  next_line : {i h k l j : ℕ} {x y z w : List A} → B i h x → is_white (code t h) ≡ false → C h k y → Chain (Item t put C) k l z → Rest t put C B l j w
      → Rest t put C B i j (x ++ (y ++ (z ++ w)))

-- the text between the quotes: a key is on one line; the two block contexts have none
pub data Inside {A : Type 0} (t : List ℕ) (put : List ℕ → List A) (C B : ℕ → ℕ → List A → Type 0) (c : Ctx) : ℕ → ℕ → List A → Type 0 where
  as_key : {i j : ℕ} {x : List A} → is_key c ≡ true → Chain C i j x → Inside t put C B c i j x
  as_lines : {i h j : ℕ} {x y : List A} → is_flow c ≡ true → Chain (Item t put C) i h x → Rest t put C B h j y → Inside t put C B c i j (x ++ y)

-- a quoted scalar, which covers no forbidden line
pub record QuotedScalar {A : Type 0} (t : List ℕ) (put : List ℕ → List A) (C B : ℕ → ℕ → List A → Type 0) (c : Ctx) (quote i j : ℕ) (x : List A) : Type 0 where
  pub close : ℕ
  pub opening : code t i ≡ quote
  pub inside : Inside t put C B c (i + 1) close x
  pub closing : code t close ≡ quote
  pub end : close + 1 ≡ j
  pub clear : Clear t i j

-- nb-single-char: two quotes mean one
pub data SingleChar (t : List ℕ) : ℕ → ℕ → List ℕ → Type 0 where
  doubled : {i : ℕ} → code t i ≡ SINGLE_QUOTE → code t (i + 1) ≡ SINGLE_QUOTE → SingleChar t i (i + 2) (SINGLE_QUOTE ∷ [])
  unquoted : {i : ℕ} → is_nb_json (code t i) ≡ true → code t i ≢ SINGLE_QUOTE → SingleChar t i (next t i) (code t i ∷ [])

abbrev pub as_they_are : List ℕ → List ℕ
as_they_are x = x

-- c-single-quoted(n,c)
abbrev pub SingleQuoted : List ℕ → ℤ → Ctx → ℕ → ℕ → List ℕ → Type 0
SingleQuoted t n c = QuotedScalar t as_they_are (SingleChar t) (FlowFolded t n) c 39

-- the meaning of a character of a double-quoted scalar: the character, or the offset of an escape whose number is no
-- character
pub data Piece : Type 0 where
  good : ℕ → Piece
  bad : ℕ → Piece

-- the text of the pieces, with U+FFFD for each bad escape
abbrev pub text_of : List Piece → List ℕ
text_of [] = []
text_of (good c ∷ xs) = c ∷ text_of xs
text_of (bad p ∷ xs) = 0xFFFD ∷ text_of xs

-- the offsets of the bad escapes, in order of the text
abbrev pub bad_escapes : List Piece → List ℕ
bad_escapes [] = []
bad_escapes (good c ∷ xs) = bad_escapes xs
bad_escapes (bad p ∷ xs) = p ∷ bad_escapes xs

abbrev pub goods : List ℕ → List Piece
goods [] = []
goods (c ∷ cs) = good c ∷ goods cs

-- nb-double-char
pub data DoubleChar (t : List ℕ) : ℕ → ℕ → List Piece → Type 0 where
  unescaped : {i : ℕ} → is_nb_json (code t i) ≡ true → code t i ≢ BACKSLASH → code t i ≢ DOUBLE_QUOTE → DoubleChar t i (next t i) (good (code t i) ∷ [])
  escaped : {i j v : ℕ} → Escape t i j v → IsScalar v → DoubleChar t i j (good v ∷ [])
  wrong : {i j v : ℕ} → Escape t i j v → (IsScalar v → ⊥) → DoubleChar t i j (bad i ∷ [])

-- s-double-break(n): a folded break, or an escaped one (s-double-escaped(n)), which keeps the white space before it
pub data DoubleBreak (t : List ℕ) (n : ℤ) : ℕ → ℕ → List Piece → Type 0 where
  folded_break : {i j : ℕ} {x : List ℕ} → FlowFolded t n i j x → DoubleBreak t n i j (goods x)
  escaped_break : {i h k l j : ℕ} {x y : List ℕ} → Many t is_white i h x → code t h ≡ BACKSLASH → Break t (h + 1) k → Chain (Empty t n FlowIn) k l y
      → FlowPrefix t n l j → DoubleBreak t n i j (goods x ++ goods y)

-- c-double-quoted(n,c)
abbrev pub DoubleQuoted : List ℕ → ℤ → Ctx → ℕ → ℕ → List Piece → Type 0
DoubleQuoted t n c = QuotedScalar t goods (DoubleChar t) (DoubleBreak t n) c 34
