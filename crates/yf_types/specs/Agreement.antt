-- Which forms agree, by tests of the text.
use Rattle.std.specs.Prelude.{ℕ, Bool, true, false, List}
use Rattle.yf_lines.specs.CoreSchema.{byte_of, followed, optional, repeated, is_digit, signed}
use Rattle.yf_types.specs.OlderSchema.{is_zero}
use Rattle.yf_types.specs.Tests.{is_match}
use Rattle.yf_types.specs.declared.form.Form.{Form}
use Rattle.yf_types.specs.declared.form.Form.TheVariants.{Null, True, False, Octal, Decimal, Hexadecimal, Number}
use Rattle.yf_types.specs.declared.form.Form.TheVariants.{Infinity, NotANumber, Text}

-- zeros and at most one digit, so that the base of the number does not matter
abbrev pub is_short : List ℕ → Bool
is_short t = is_match (signed (followed (repeated (byte_of is_zero)) (optional (byte_of is_digit)))) t

-- a form in YAML 1.1 and one in the core schema
abbrev pub agree : Form → Form → List ℕ → Bool
agree Null Null t = true
agree True True t = true
agree False False t = true
agree Octal Decimal t = is_short t
agree Decimal Decimal t = true
agree Hexadecimal Hexadecimal t = true
agree Number Number t = true
agree Infinity Infinity t = true
agree NotANumber NotANumber t = true
agree Text Text t = true
agree _ _ t = false
