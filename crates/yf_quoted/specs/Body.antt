-- The inside of quoted scalars, character by character: a gap of white space or a break, and then a character or the
-- closing quote.
use Rattle.std.specs.Prelude.{◌<ℤ◌, ◌≢◌, ◌⊎◌, ◌==◌, IsSome, encode_utf8_all, ◌≡◌, ℕ, ◌+◌, ◌≤◌, ℤ, pos, Bool, true, false, List, [], ◌∷◌, ◌++◌, Option, Some, None, if◌then◌else◌, slice_range}
use Rattle.yf_chars.specs.Signs.{BACKSLASH, DOUBLE_QUOTE, SPACE}
use Rattle.yf_chars.specs.declared.context.Ctx.{Ctx}
use Rattle.yf_chars.specs.Text.{code, CharAt}
use Rattle.yf_chars.specs.Class.{is_white, is_nb_json}
use Rattle.yf_chars.specs.Chain.{Chain, Many, Stuck, Nowhere}
use Rattle.yf_lines.specs.Basic.{Break, ForbiddenLine, Clear, FlowFolded, is_flow, is_key}
use Rattle.yf_lines.specs.Fold.{FoldsTo, fold_text, line_feeds}
use Rattle.yf_quoted.specs.Quoted.Piece.{good, bad}
use Rattle.yf_quoted.specs.Quoted.{Piece, SingleChar, as_they_are, DoubleChar, DoubleBreak, goods, text_of, bad_escapes}

-- the bytes of a gap between two characters: the white space from i to blank_end, a space, and line feeds
abbrev pub gap_bytes : List ℕ → ℕ → ℕ → Bool → ℕ → List ℕ
gap_bytes t i blank_end space feeds = slice_range t i blank_end ++ ((if space then SPACE ∷ [] else []) ++ line_feeds feeds)

-- white space, or a break, before a character that isn't white space
pub data Gap {A : Type 0} (t : List ℕ) (put : List ℕ → List A) (B : ℕ → ℕ → List A → Type 0) : ℕ → ℕ → List A → Type 0 where
  by_whites : {i j : ℕ} {x : List ℕ} → Many t is_white i j x → is_white (code t j) ≡ false → Gap t put B i j (put x)
  by_break : {i j : ℕ} {x : List A} → B i j x → is_white (code t j) ≡ false → Gap t put B i j x

-- a gap and a character, which cover no forbidden line
pub record Step {A : Type 0} (t : List ℕ) (put : List ℕ → List A) (C B : ℕ → ℕ → List A → Type 0) (i j : ℕ) (x : List A) : Type 0 where
  pub at : ℕ
  pub front : List A
  pub char : List A
  pub gap : Gap t put B i at front
  pub is : C at j char
  pub clear : Clear t i j
  pub text : x ≡ front ++ char

-- steps, and a gap before the closing quote at j
pub record Body {A : Type 0} (t : List ℕ) (put : List ℕ → List A) (C B : ℕ → ℕ → List A → Type 0) (quote i j : ℕ) (x : List A) : Type 0 where
  pub at : ℕ
  pub front : List A
  pub last : List A
  pub steps : Chain (Step t put C B) i at front
  pub gap : Gap t put B at j last
  pub clear : Clear t at j
  pub closing : code t j ≡ quote
  pub text : x ≡ front ++ last

-- the breaks of a scalar with lines that are indented by a width; a scalar on one line has none
abbrev pub DoubleBreaks : List ℕ → Option ℕ → ℕ → ℕ → List Piece → Type 0
DoubleBreaks t None i j x = ⊥
DoubleBreaks t (Some w) i j x = DoubleBreak t (pos w) i j x

abbrev pub SingleBreaks : List ℕ → Option ℕ → ℕ → ℕ → List ℕ → Type 0
SingleBreaks t None i j x = ⊥
SingleBreaks t (Some w) i j x = FlowFolded t (pos w) i j x

-- white space or a folded break, and its meaning; breaks are folded only if a width is given
pub data PlainGap (t : List ℕ) (o : Option ℕ) (i : ℕ) : ℕ → Bool → ℕ → ℕ → Type 0 where
  of_whites : {j : ℕ} {x : List ℕ} → Many t is_white i j x → is_white (code t j) ≡ false → (IsSome o → Nowhere (Break t j)) → PlainGap t o i j false 0 j
  of_fold : {feeds j : ℕ} (w : ℕ) → o ≡ Some w → FoldsTo t (pos w) i j (fold_text feeds) → PlainGap t o i i (feeds == 0) feeds j

-- a break follows, but no line continues the scalar
pub data NoPlainGap (t : List ℕ) (o : Option ℕ) (i : ℕ) : Type 0 where
  at_break : {j k : ℕ} {x : List ℕ} (w : ℕ) → o ≡ Some w → Many t is_white i j x → Break t j k → Stuck (FoldsTo t (pos w) i) → NoPlainGap t o i

-- a character or the closing quote of a double-quoted scalar begins there
abbrev pub DoubleGoesOn : List ℕ → ℕ → Type 0
DoubleGoesOn t k = ((l : ℕ) × (z : List Piece) × DoubleChar t k l z) ⊎ (code t k ≡ DOUBLE_QUOTE)

-- the only gap of a double-quoted scalar from i after which the scalar can go on; it ends at j
pub record DoubleGap (t : List ℕ) (o : Option ℕ) (i blank_end : ℕ) (space : Bool) (feeds j : ℕ) : Type 0 where
  pub text : List Piece
  pub gap : Gap t goods (DoubleBreaks t o) i j text
  pub only : (k : ℕ) (y : List Piece) → Gap t goods (DoubleBreaks t o) i k y → DoubleGoesOn t k → (k ≡ j) × (y ≡ text)
  pub bytes : gap_bytes t i blank_end space feeds ≡ encode_utf8_all (text_of text)
  pub no_bad : bad_escapes text ≡ []
  pub clear : Clear t i j

pub record NoDoubleGap (t : List ℕ) (o : Option ℕ) (i : ℕ) : Type 0 where
  pub none : (k : ℕ) (y : List Piece) → Gap t goods (DoubleBreaks t o) i k y → DoubleGoesOn t k → ⊥

-- the meaning of an escape or a character, by its value
abbrev pub piece : Option ℕ → ℕ → Piece
piece (Some v) p = good v
piece None p = bad p

-- the character that is shown for a value
abbrev pub shown : Option ℕ → ℕ
shown (Some v) = v
shown None = 0xFFFD

-- a character that represents itself in double quotes, at which no forbidden line begins
pub record Simple (t : List ℕ) (i j : ℕ) : Type 0 where
  pub json : is_nb_json (code t i) ≡ true
  pub no_backslash : code t i ≢ BACKSLASH
  pub no_quote : code t i ≢ DOUBLE_QUOTE
  pub reads : CharAt t i (code t i) j
  pub allowed : ForbiddenLine t i → ⊥

pub record NoSimple (t : List ℕ) (i : ℕ) : Type 0 where
  pub none : is_nb_json (code t i) ≡ true → code t i ≢ BACKSLASH → code t i ≢ DOUBLE_QUOTE → (ForbiddenLine t i → ⊥) → ⊥

-- every character of a double-quoted scalar at i covers a forbidden line
pub record NoDoubleChar (t : List ℕ) (i : ℕ) : Type 0 where
  pub none : (j : ℕ) (y : List Piece) → DoubleChar t i j y → Clear t i j → ⊥

-- the rest of a double-quoted scalar after its opening quote: its bad escapes, and the bytes of its text
pub record DoubleRead (t : List ℕ) (o : Option ℕ) (i : ℕ) (bytes wrong : List ℕ) (j : ℕ) : Type 0 where
  pub text : List Piece
  pub close : ℕ
  pub body : Body t goods (DoubleChar t) (DoubleBreaks t o) 34 i close text
  pub end : close + 1 ≡ j
  pub is : bytes ≡ encode_utf8_all (text_of text)
  pub escapes : wrong ≡ bad_escapes text

pub record NoDoubleBody (t : List ℕ) (o : Option ℕ) (i : ℕ) : Type 0 where
  pub none : (k : ℕ) (y : List Piece) → Body t goods (DoubleChar t) (DoubleBreaks t o) 34 i k y → ⊥

-- the indentation of the lines of a quoted scalar; keys and negative indentations have none
pub data WidthOf (n : ℤ) (c : Ctx) : Option ℕ → Type 0 where
  of_key : is_key c ≡ true → WidthOf n c None
  of_lines : (w : ℕ) → is_flow c ≡ true → n ≡ pos w → WidthOf n c (Some w)
  of_negative : is_flow c ≡ true → n <ℤ pos 0 → WidthOf n c None

-- a character that represents itself in double quotes, as a relation with its code
pub data SimpleChar (t : List ℕ) : ℕ → ℕ → List ℕ → Type 0 where
  simply : {i j : ℕ} → Simple t i j → SimpleChar t i j (code t i ∷ [])

-- every character of a single-quoted scalar at i covers a forbidden line
pub record NoSingleChar (t : List ℕ) (i : ℕ) : Type 0 where
  pub none : (j : ℕ) (y : List ℕ) → SingleChar t i j y → Clear t i j → ⊥

-- the longest rest of a single-quoted scalar after its opening quote, with the bytes of its text
pub record SingleRead (t : List ℕ) (o : Option ℕ) (i : ℕ) (bytes : List ℕ) (j : ℕ) : Type 0 where
  pub text : List ℕ
  pub close : ℕ
  pub body : Body t as_they_are (SingleChar t) (SingleBreaks t o) 39 i close text
  pub end : close + 1 ≡ j
  pub is : bytes ≡ encode_utf8_all text
  pub longest : (k : ℕ) (y : List ℕ) → Body t as_they_are (SingleChar t) (SingleBreaks t o) 39 i k y → (k ≤ close) × (k ≡ close → y ≡ text)

pub record NoSingleBody (t : List ℕ) (o : Option ℕ) (i : ℕ) : Type 0 where
  pub none : (k : ℕ) (y : List ℕ) → Body t as_they_are (SingleChar t) (SingleBreaks t o) 39 i k y → ⊥
