-- Texts in quotes on one line (YAML 1.2.2, sections 7.3.1 and 7.3.2), and their readings.
use Rattle.std.specs.Prelude.{◌≡◌, ◌≢◌, ℕ, ◌+◌, ℤ, Bool, true, false, ◌==◌, ◌&&◌, List, [], ◌∷◌, ◌++◌, drop, length, flat_map, encode_utf8_all, if◌then◌else◌}
use Rattle.std.specs.List.{list_any}
use Rattle.std.specs.Str.{IsUtf8}
use Rattle.yf_chars.specs.Signs.{DOUBLE_QUOTE, SINGLE_QUOTE}
use Rattle.yf_chars.specs.declared.context.Ctx.{Ctx}
use Rattle.yf_chars.specs.Text.{code}
use Rattle.yf_chars.specs.Class.{is_nb_char}
use Rattle.yf_chars.specs.Chain.{Chosen}
use Rattle.yf_chars.specs.Escape.{spelled}
use Rattle.yf_chars.specs.Hidden.{is_hidden, spelled_out}
use Rattle.yf_lines.specs.Basic.{is_block}
use Rattle.yf_lines.specs.declared.invisible.Invisible.{Invisible}
use Rattle.yf_lines.specs.declared.invisible.Invisible.TheVariants.{Plain, Escaped}
use Rattle.yf_lines.specs.declared.quotes.Quotes.{Quotes}
use Rattle.yf_lines.specs.declared.quotes.Quotes.TheVariants.{Single, Double}
use Rattle.yf_quoted.specs.Quoted.{SingleQuoted, DoubleQuoted, Piece, text_of, bad_escapes}

-- every character is an nb-char
abbrev pub all_nb : List ℕ → Bool
all_nb [] = true
all_nb (c ∷ cs) = is_nb_char c && all_nb cs

-- the quotes for a text: single ones only if they are preferred and can hold it on one line
abbrev pub quotes_for : List ℕ → Quotes → Quotes
quotes_for cs Single = if all_nb cs then Single else Double
quotes_for cs Double = Double

-- in single quotes a quote is written twice
abbrev pub twice : ℕ → List ℕ
twice c = if c == SINGLE_QUOTE then SINGLE_QUOTE ∷ SINGLE_QUOTE ∷ [] else c ∷ []

-- the bytes of the text in quotes
abbrev pub single_bytes : List ℕ → List ℕ
single_bytes cs = SINGLE_QUOTE ∷ encode_utf8_all (flat_map twice cs) ++ SINGLE_QUOTE ∷ []

abbrev pub double_bytes : List ℕ → List ℕ
double_bytes cs = DOUBLE_QUOTE ∷ encode_utf8_all (flat_map spelled cs) ++ DOUBLE_QUOTE ∷ []

-- The same choices if hidden characters may be escaped.

-- a text with a hidden character is in double quotes if such characters are escaped
abbrev pub quotes_in : Invisible → List ℕ → Quotes → Quotes
quotes_in Plain cs quotes = quotes_for cs quotes
quotes_in Escaped cs quotes = if list_any is_hidden cs then Double else quotes_for cs quotes

abbrev pub spelled_in : Invisible → ℕ → List ℕ
spelled_in Plain = spelled
spelled_in Escaped = spelled_out

abbrev pub double_bytes_in : Invisible → List ℕ → List ℕ
double_bytes_in invisible cs = DOUBLE_QUOTE ∷ encode_utf8_all (flat_map (spelled_in invisible) cs) ++ DOUBLE_QUOTE ∷ []

-- new is old with bytes appended
pub record BytesGrown (old new : List ℕ) : Type 0 where
  pub more : List ℕ
  pub is : new ≡ old ++ more

-- in any text, at any offset and indentation and in each context of flow scalars, the bytes are a single-quoted scalar
-- with those characters; it is the longest one there unless a quote follows
pub record SingleBack (bytes x : List ℕ) : Type 0 where
  pub derived : (t : List ℕ) (i : ℕ) (rest : List ℕ) (n : ℤ) (c : Ctx) → IsUtf8 t → drop i t ≡ bytes ++ rest → is_block c ≡ false
      → SingleQuoted t n c i (i + length bytes) x
  pub chosen : (t : List ℕ) (i : ℕ) (rest : List ℕ) (n : ℤ) (c : Ctx) → IsUtf8 t → drop i t ≡ bytes ++ rest → is_block c ≡ false
      → code t (i + length bytes) ≢ SINGLE_QUOTE → Chosen (SingleQuoted t n c i) (i + length bytes) x

-- in any text, at any offset and indentation and in each context of flow scalars, the bytes are the longest
-- double-quoted scalar there; it has no bad escape
pub record DoubleBack (bytes x : List ℕ) : Type 0 where
  pub chosen : (t : List ℕ) (i : ℕ) (rest : List ℕ) (n : ℤ) (c : Ctx) → IsUtf8 t → drop i t ≡ bytes ++ rest → is_block c ≡ false
      → (y : List Piece) × (text_of y ≡ x) × (bad_escapes y ≡ []) × Chosen (DoubleQuoted t n c i) (i + length bytes) y
