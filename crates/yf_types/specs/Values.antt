-- The values that texts of each form have, and which values are the same.
use Rattle.std.specs.Prelude.{ℕ, suc, Bool, true, false, not, ◌+◌, ◌-◌, ◌*◌, ◌^◌, ◌&&◌, ◌||◌, ◌==◌, nat_le, List, []}
use Rattle.std.specs.Prelude.{◌∷◌, drop, if◌then◌else◌}
use Rattle.yf_lines.specs.CoreSchema.{is_sign, is_exponent}
use Rattle.yf_types.specs.OlderSchema.{is_colon, is_point, is_underscore, older_form}
use Rattle.yf_types.specs.NewerSchema.{newer_form}
use Rattle.yf_types.specs.declared.form.Form.{Form}
use Rattle.yf_types.specs.declared.form.Form.TheVariants.{Null, True, False, Binary, Octal, PrefixedOctal, Decimal}
use Rattle.yf_types.specs.declared.form.Form.TheVariants.{Hexadecimal, Sixties, Number, SixtiesNumber, Infinity}
use Rattle.yf_types.specs.declared.form.Form.TheVariants.{NotANumber, Timestamp, Merge, Default, Text}

pub data Value : Type 0 where
  null : Value
  boolean : Bool → Value
  -- whether it is negative, and its size
  integer : Bool → ℕ → Value
  -- a floating point number before it is rounded: whether it is negative, and the two parts of a fraction
  number : Bool → ℕ → ℕ → Value
  infinity : Bool → Value
  not_a_number : Value
  -- types that only YAML 1.1 has; a timestamp and a string have their text as their value
  timestamp : Value
  merge : Value
  default : Value
  string : Value

abbrev pub is_same : Bool → Bool → Bool
is_same true b = b
is_same false b = not b

-- the type and the value are the same; a zero has no sign
abbrev pub same : Value → Value → Bool
same null null = true
same (boolean a) (boolean b) = is_same a b
same (integer a m) (integer b n) = (m == n) && (is_same a b || (m == 0))
same (number a m k) (number b n l) = (m * l == n * k) && (is_same a b || (m == 0))
same (infinity a) (infinity b) = is_same a b
same not_a_number not_a_number = true
same timestamp timestamp = true
same merge merge = true
same default default = true
same string string = true
same _ _ = false

-- Signs and parts of a text.

abbrev pub is_negative : List ℕ → Bool
is_negative [] = false
is_negative (b ∷ t) = b == 45

abbrev pub unsigned : List ℕ → List ℕ
unsigned [] = []
unsigned (b ∷ t) = if is_sign b then t else b ∷ t

-- the bytes before the first one of the class, and those after it
abbrev pub before : (ℕ → Bool) → List ℕ → List ℕ
before class [] = []
before class (b ∷ t) = if class b then [] else b ∷ before class t

abbrev pub after : (ℕ → Bool) → List ℕ → List ℕ
after class [] = []
after class (b ∷ t) = if class b then t else after class t

-- Digits. Underscores say nothing.

abbrev pub digit_value : ℕ → ℕ
digit_value b = if nat_le b 57 then b - 48 else if nat_le b 70 then b - 55 else b - 87

-- the number that digits of a base continue
abbrev pub digits_from : ℕ → ℕ → List ℕ → ℕ
digits_from base n [] = n
digits_from base n (b ∷ t) =
    if is_underscore b then digits_from base n t else digits_from base (n * base + digit_value b) t

-- parts in base 60 with colons between, after parts with this sum and digits of the next one
abbrev pub sixties_from : ℕ → ℕ → List ℕ → ℕ
sixties_from sum part [] = sum + part
sixties_from sum part (b ∷ t) =
    if is_colon b then sixties_from ((sum + part) * 60) 0 t
    else if is_underscore b then sixties_from sum part t else sixties_from sum (part * 10 + digit_value b) t

abbrev pub digit_count : List ℕ → ℕ
digit_count [] = 0
digit_count (b ∷ t) = if is_underscore b then digit_count t else suc (digit_count t)

-- the size of an integer; it is 0 for `0b_` and `0x_`, for which PyYAML fails
abbrev pub size : Form → List ℕ → ℕ
size Binary t = digits_from 2 0 (drop 2 (unsigned t))
size Octal t = digits_from 8 0 (unsigned t)
size PrefixedOctal t = digits_from 8 0 (drop 2 (unsigned t))
size Decimal t = digits_from 10 0 (unsigned t)
size Hexadecimal t = digits_from 16 0 (drop 2 (unsigned t))
size Sixties t = sixties_from 0 0 (unsigned t)
size _ t = 0

-- the fraction, by the digits before the point, and the digits after it with the exponent
abbrev pub fraction : Bool → ℕ → List ℕ → List ℕ → Value
fraction negative whole places power =
    let e = digits_from 10 0 (unsigned power) in
    let up = if is_negative power then 0 else e in
    let down = if is_negative power then e else 0 in
    number negative (digits_from 10 whole places * 10 ^ up) (10 ^ digit_count places * 10 ^ down)

abbrev pub value_of_number : List ℕ → Value
value_of_number t =
    let m = before is_exponent (unsigned t) in
    fraction (is_negative t) (digits_from 10 0 (before is_point m)) (after is_point m) (after is_exponent (unsigned t))

abbrev pub value_of_sixties : List ℕ → Value
value_of_sixties t =
    fraction (is_negative t) (sixties_from 0 0 (before is_point (unsigned t))) (after is_point (unsigned t)) []

abbrev pub value : Form → List ℕ → Value
value Null t = null
value True t = boolean true
value False t = boolean false
value Binary t = integer (is_negative t) (size Binary t)
value Octal t = integer (is_negative t) (size Octal t)
value PrefixedOctal t = integer (is_negative t) (size PrefixedOctal t)
value Decimal t = integer (is_negative t) (size Decimal t)
value Hexadecimal t = integer (is_negative t) (size Hexadecimal t)
value Sixties t = integer (is_negative t) (size Sixties t)
value Number t = value_of_number t
value SixtiesNumber t = value_of_sixties t
value Infinity t = infinity (is_negative t)
value NotANumber t = not_a_number
value Timestamp t = timestamp
value Merge t = merge
value Default t = default
value Text t = string

-- The two readings of a plain scalar.

-- by YAML 1.1, as PyYAML resolves it
abbrev pub older : List ℕ → Value
older t = value (older_form t) t

-- by the core schema of YAML 1.2
abbrev pub newer : List ℕ → Value
newer t = value (newer_form t) t

abbrev pub is_ambiguous : List ℕ → Bool
is_ambiguous t = not (same (older t) (newer t))
