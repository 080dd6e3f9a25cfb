-- The types of plain scalars in the core schema (YAML 1.2.2, 10.3.2), by its patterns.
use Rattle.std.specs.Prelude.{ℕ, List, [], ◌∷◌, codes}
use Rattle.yf_lines.specs.CoreSchema.{Pattern, byte_of, bytes, followed, optional, is_octal, is_hexadecimal}
use Rattle.yf_lines.specs.CoreSchema.{at_least_once, digits, signed, cased, mantissa, exponent, null_pattern}
use Rattle.yf_types.specs.OlderSchema.{first_form, infinity_pattern, not_a_number_pattern}
use Rattle.yf_types.specs.declared.form.Form.{Form}
use Rattle.yf_types.specs.declared.form.Form.TheVariants.{Null, True, False, PrefixedOctal, Decimal, Hexadecimal}
use Rattle.yf_types.specs.declared.form.Form.TheVariants.{Number, Infinity, NotANumber}

-- true | True | TRUE
abbrev pub core_true_pattern : Pattern
core_true_pattern = cased (codes "true") (codes "True") (codes "TRUE")

-- false | False | FALSE
abbrev pub core_false_pattern : Pattern
core_false_pattern = cased (codes "false") (codes "False") (codes "FALSE")

-- [-+]? [0-9]+
abbrev pub core_decimal_pattern : Pattern
core_decimal_pattern = signed digits

-- 0o [0-7]+
abbrev pub core_octal_pattern : Pattern
core_octal_pattern = followed (bytes (codes "0o")) (at_least_once (byte_of is_octal))

-- 0x [0-9a-fA-F]+
abbrev pub core_hexadecimal_pattern : Pattern
core_hexadecimal_pattern = followed (bytes (codes "0x")) (at_least_once (byte_of is_hexadecimal))

-- [-+]? ( \. [0-9]+ | [0-9]+ ( \. [0-9]* )? ) ( [eE] [-+]? [0-9]+ )?
abbrev pub core_number_pattern : Pattern
core_number_pattern = signed (followed mantissa (optional exponent))

-- The form of a text: that of the first pattern that it matches, so an integer is no floating point number.

abbrev pub core_number_patterns : List (Pattern × Form)
core_number_patterns =
    (core_decimal_pattern, Decimal) ∷ (core_octal_pattern, PrefixedOctal) ∷ (core_hexadecimal_pattern, Hexadecimal)
    ∷ (core_number_pattern, Number) ∷ (infinity_pattern, Infinity) ∷ (not_a_number_pattern, NotANumber) ∷ []

abbrev pub newer_patterns : List (Pattern × Form)
newer_patterns = (null_pattern, Null) ∷ (core_true_pattern, True) ∷ (core_false_pattern, False) ∷ core_number_patterns

abbrev pub newer_form : List ℕ → Form
newer_form t = first_form newer_patterns t
