-- Plain scalars on one line, defined by their characters; such characters are a plain scalar at any offset.
use Rattle.std.specs.Prelude.{◌≡◌, ℕ, Bool, true, false, ◌==◌, ◌&&◌, ◌||◌, not, List, [], ◌∷◌, encode_utf8_all}
use Rattle.yf_chars.specs.Signs.{COLON, NUMBER_SIGN}
use Rattle.yf_chars.specs.declared.context.Ctx.{Ctx}
use Rattle.yf_chars.specs.declared.context.Ctx.TheVariants.{BlockOut, BlockIn, FlowOut, FlowIn, BlockKey, FlowKey}
use Rattle.yf_chars.specs.Text.{first_or_none}
use Rattle.yf_chars.specs.Class.{is_ns_char, is_indicator, is_white, is_plain_safe}
use Rattle.yf_lines.specs.Basic.{is_block}
use Rattle.yf_lines.specs.Steady.{is_steady}
use Rattle.yf_plain.specs.Plain.{is_sign}

-- ns-plain-first(x) of the character c before the character d
unfoldable pub starts_plain : Ctx → ℕ → ℕ → Bool
starts_plain x c d = (is_ns_char c && not (is_indicator c)) || (is_sign c && is_plain_safe d x)

-- ns-plain-char(x) of the character c between the characters b and d
unfoldable pub goes_on_plain : Ctx → ℕ → ℕ → ℕ → Bool
goes_on_plain x b c d =
    (is_plain_safe c x && (not (c == COLON) && not (c == NUMBER_SIGN)))
    || ((c == NUMBER_SIGN) && is_ns_char b)
    || ((c == COLON) && is_plain_safe d x)

-- such characters after the character b, with white space between them
unfoldable pub is_plain_after : Ctx → ℕ → List ℕ → Bool
is_plain_after x b [] = is_ns_char b
is_plain_after x b (c ∷ cs) = (is_white c || goes_on_plain x b c (first_or_none cs)) && is_plain_after x c cs

unfoldable pub is_plain_line : Ctx → List ℕ → Bool
is_plain_line x [] = false
is_plain_line x (c ∷ cs) = starts_plain x c (first_or_none cs) && is_plain_after x c cs

-- bytes that are a plain scalar in the context and that stay plain
pub record IsPlain (x : Ctx) (w : List ℕ) : Type 0 where
  pub chars : List ℕ
  pub bytes : encode_utf8_all chars ≡ w
  pub line : is_plain_line x chars ≡ true
  pub steady : is_steady w ≡ true

-- within a flow collection
abbrev pub is_inside : Ctx → Bool
is_inside BlockOut = false
is_inside BlockIn = false
is_inside FlowOut = false
is_inside FlowIn = true
is_inside BlockKey = false
is_inside FlowKey = true

-- a scalar on one line that is plain in the first context is plain in the second: the second is outside flow
-- collections, or both are within one
pub record StaysPlain (x y : Ctx) : Type 0 where
  pub flow : is_block y ≡ false
  pub inside : is_inside y ≡ true → is_inside x ≡ true
