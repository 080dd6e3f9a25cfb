-- The types of plain scalars in YAML 1.1 (https://yaml.org/type), as PyYAML's SafeLoader resolves them: its regular
-- expressions, by type and in its order. A text is that of a plain scalar, so it does not end with a line break.
use Rattle.std.specs.Prelude.{ℕ, Bool, ◌&&◌, ◌||◌, ◌==◌, nat_le, List, [], ◌∷◌, codes, if◌then◌else◌}
use Rattle.yf_lines.specs.CoreSchema.{Pattern, byte_of, bytes, followed, either, optional, repeated, is_digit, is_octal}
use Rattle.yf_lines.specs.CoreSchema.{is_hexadecimal, is_sign, is_exponent, at_least_once, digits, signed, cased}
use Rattle.yf_lines.specs.CoreSchema.{null_pattern}
use Rattle.yf_types.specs.Tests.{is_match}
use Rattle.yf_types.specs.declared.form.Form.{Form}
use Rattle.yf_types.specs.declared.form.Form.TheVariants.{Null, True, False, Binary, Octal, Decimal, Hexadecimal}
use Rattle.yf_types.specs.declared.form.Form.TheVariants.{Sixties, Number, SixtiesNumber, Infinity, NotANumber}
use Rattle.yf_types.specs.declared.form.Form.TheVariants.{Timestamp, Merge, Default, Text}

-- Classes.

abbrev pub is_underscore : ℕ → Bool
is_underscore b = b == 95

abbrev pub or_underscore : (ℕ → Bool) → ℕ → Bool
or_underscore class b = class b || is_underscore b

abbrev pub is_point : ℕ → Bool
is_point b = b == 46

abbrev pub is_colon : ℕ → Bool
is_colon b = b == 58

abbrev pub is_dash : ℕ → Bool
is_dash b = b == 45

abbrev pub is_zero : ℕ → Bool
is_zero b = b == 48

abbrev pub is_one_to_nine : ℕ → Bool
is_one_to_nine b = nat_le 49 b && nat_le b 57

abbrev pub is_zero_to_five : ℕ → Bool
is_zero_to_five b = nat_le 48 b && nat_le b 53

abbrev pub is_binary : ℕ → Bool
is_binary b = (b == 48) || (b == 49)

abbrev pub is_letter_b : ℕ → Bool
is_letter_b b = b == 98

abbrev pub is_letter_o : ℕ → Bool
is_letter_o b = b == 111

abbrev pub is_letter_x : ℕ → Bool
is_letter_x b = b == 120

abbrev pub is_letter_t : ℕ → Bool
is_letter_t b = (b == 84) || (b == 116)

abbrev pub is_letter_z : ℕ → Bool
is_letter_z b = b == 90

abbrev pub is_blank : ℕ → Bool
is_blank b = (b == 32) || (b == 9)

-- Parts.

abbrev pub digit : Pattern
digit = byte_of is_digit

-- [0-9_]*
abbrev pub more_digits : Pattern
more_digits = repeated (byte_of (or_underscore is_digit))

-- [eE] [-+] [0-9]+
abbrev pub signed_exponent : Pattern
signed_exponent = followed (byte_of is_exponent) (followed (byte_of is_sign) digits)

-- : [0-5]? [0-9]
abbrev pub sixty : Pattern
sixty = followed (byte_of is_colon) (followed (optional (byte_of is_zero_to_five)) digit)

-- [0-9] [0-9]
abbrev pub two_digits : Pattern
two_digits = followed digit digit

-- [0-9] [0-9]?
abbrev pub one_or_two_digits : Pattern
one_or_two_digits = followed digit (optional digit)

-- Booleans.

-- yes | Yes | YES | true | True | TRUE | on | On | ON
abbrev pub true_pattern : Pattern
true_pattern =
    either (cased (codes "yes") (codes "Yes") (codes "YES"))
    (either (cased (codes "true") (codes "True") (codes "TRUE")) (cased (codes "on") (codes "On") (codes "ON")))

-- no | No | NO | false | False | FALSE | off | Off | OFF
abbrev pub false_pattern : Pattern
false_pattern =
    either (cased (codes "no") (codes "No") (codes "NO"))
    (either (cased (codes "false") (codes "False") (codes "FALSE")) (cased (codes "off") (codes "Off") (codes "OFF")))

-- Floating point numbers.

-- [-+]? [0-9] [0-9_]* \. [0-9_]* ( [eE] [-+] [0-9]+ )? | \. [0-9] [0-9_]* ( [eE] [-+] [0-9]+ )?
abbrev pub number_pattern : Pattern
number_pattern =
    either
    (signed
    (followed digit
    (followed more_digits (followed (byte_of is_point) (followed more_digits (optional signed_exponent))))))
    (followed (byte_of is_point) (followed digit (followed more_digits (optional signed_exponent))))

-- [-+]? [0-9] [0-9_]* ( : [0-5]? [0-9] )+ \. [0-9_]*
abbrev pub sixties_number_pattern : Pattern
sixties_number_pattern =
    signed
    (followed digit
    (followed more_digits (followed (at_least_once sixty) (followed (byte_of is_point) more_digits))))

-- [-+]? \. ( inf | Inf | INF )
abbrev pub infinity_pattern : Pattern
infinity_pattern = signed (cased (codes ".inf") (codes ".Inf") (codes ".INF"))

-- \. ( nan | NaN | NAN )
abbrev pub not_a_number_pattern : Pattern
not_a_number_pattern = cased (codes ".nan") (codes ".NaN") (codes ".NAN")

-- Integers.

-- [-+]? 0b [0-1_]+
abbrev pub binary_pattern : Pattern
binary_pattern =
    signed
    (followed (byte_of is_zero)
    (followed (byte_of is_letter_b) (at_least_once (byte_of (or_underscore is_binary)))))

-- [-+]? 0 [0-7_]+
abbrev pub octal_pattern : Pattern
octal_pattern = signed (followed (byte_of is_zero) (at_least_once (byte_of (or_underscore is_octal))))

-- [-+]? ( 0 | [1-9] [0-9_]* )
abbrev pub decimal_pattern : Pattern
decimal_pattern = signed (either (byte_of is_zero) (followed (byte_of is_one_to_nine) more_digits))

-- [-+]? 0x [0-9a-fA-F_]+
abbrev pub hexadecimal_pattern : Pattern
hexadecimal_pattern =
    signed
    (followed (byte_of is_zero)
    (followed (byte_of is_letter_x) (at_least_once (byte_of (or_underscore is_hexadecimal)))))

-- [-+]? [1-9] [0-9_]* ( : [0-5]? [0-9] )+
abbrev pub sixties_pattern : Pattern
sixties_pattern = signed (followed (byte_of is_one_to_nine) (followed more_digits (at_least_once sixty)))

-- Timestamps.

-- [0-9][0-9][0-9][0-9] - [0-9][0-9] - [0-9][0-9]
abbrev pub date_pattern : Pattern
date_pattern =
    followed (followed two_digits two_digits)
    (followed (byte_of is_dash) (followed two_digits (followed (byte_of is_dash) two_digits)))

-- [Tt] | [ \t]+
abbrev pub time_mark : Pattern
time_mark = either (byte_of is_letter_t) (at_least_once (byte_of is_blank))

-- Z | [-+] [0-9][0-9]? ( : [0-9][0-9] )?
abbrev pub zone : Pattern
zone =
    either (byte_of is_letter_z)
    (followed (byte_of is_sign) (followed one_or_two_digits (optional (followed (byte_of is_colon) two_digits))))

-- [0-9][0-9]? : [0-9][0-9] : [0-9][0-9] ( \. [0-9]* )? ( [ \t]* zone )?
abbrev pub clock : Pattern
clock =
    followed one_or_two_digits
    (followed (byte_of is_colon) (followed two_digits (followed (byte_of is_colon) (followed two_digits
    (followed (optional (followed (byte_of is_point) (repeated digit)))
    (optional (followed (repeated (byte_of is_blank)) zone)))))))

-- [0-9][0-9][0-9][0-9] - [0-9][0-9]? - [0-9][0-9]? ( [Tt] | [ \t]+ ) clock
abbrev pub date_time_pattern : Pattern
date_time_pattern =
    followed (followed two_digits two_digits)
    (followed (byte_of is_dash) (followed one_or_two_digits (followed (byte_of is_dash) (followed one_or_two_digits
    (followed time_mark clock)))))

-- Merge keys and default values.

abbrev pub merge_pattern : Pattern
merge_pattern = bytes (codes "<<")

abbrev pub default_pattern : Pattern
default_pattern = bytes (codes "=")

-- The form of a text: that of the first pattern that it matches.

abbrev pub first_form : List (Pattern × Form) → List ℕ → Form
first_form [] t = Text
first_form (x ∷ rest) t = if is_match x.0 t then x.1 else first_form rest t

abbrev pub rest_patterns : List (Pattern × Form)
rest_patterns =
    (merge_pattern, Merge) ∷ (null_pattern, Null) ∷ (date_pattern, Timestamp) ∷ (date_time_pattern, Timestamp) ∷
    (default_pattern, Default) ∷ []

abbrev pub integer_patterns : List (Pattern × Form)
integer_patterns =
    (binary_pattern, Binary) ∷ (octal_pattern, Octal) ∷ (decimal_pattern, Decimal) ∷ (hexadecimal_pattern, Hexadecimal)
    ∷ (sixties_pattern, Sixties) ∷ rest_patterns

abbrev pub number_patterns : List (Pattern × Form)
number_patterns =
    (number_pattern, Number) ∷ (sixties_number_pattern, SixtiesNumber) ∷ (infinity_pattern, Infinity)
    ∷ (not_a_number_pattern, NotANumber) ∷ integer_patterns

abbrev pub older_patterns : List (Pattern × Form)
older_patterns = (true_pattern, True) ∷ (false_pattern, False) ∷ number_patterns

abbrev pub older_form : List ℕ → Form
older_form t = first_form older_patterns t
