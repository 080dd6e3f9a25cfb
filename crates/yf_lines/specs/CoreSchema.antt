-- The plain scalars with a type other than a string in the core schema (YAML 1.2.2, 10.3.2): its regular expressions
-- for null, booleans, integers and floating point numbers, and the texts that match them. A text is a list of bytes.
use Rattle.std.specs.Prelude.{◌≡◌, ℕ, Bool, true, ◌&&◌, ◌||◌, ◌==◌, nat_le, List, [], ◌∷◌, ◌++◌, codes}
use Rattle.yf_lines.specs.Steady.{is_steady}

-- a byte of a class; these bytes; one pattern after another; either of two; one or none; any number
pub data Pattern : Type 0 where
  byte_of : (ℕ → Bool) → Pattern
  bytes : List ℕ → Pattern
  followed : Pattern → Pattern → Pattern
  either : Pattern → Pattern → Pattern
  optional : Pattern → Pattern
  repeated : Pattern → Pattern

-- the pattern describes the whole text
pub data Matches : Pattern → List ℕ → Type 0 where
  in_class : {class : ℕ → Bool} {b : ℕ} → class b ≡ true → Matches (byte_of class) (b ∷ [])
  as_written : {w : List ℕ} → Matches (bytes w) w
  in_order : {p q : Pattern} {x y : List ℕ} → Matches p x → Matches q y → Matches (followed p q) (x ++ y)
  the_one : {p q : Pattern} {x : List ℕ} → Matches p x → Matches (either p q) x
  the_other : {p q : Pattern} {x : List ℕ} → Matches q x → Matches (either p q) x
  left_out : {p : Pattern} → Matches (optional p) []
  given : {p : Pattern} {x : List ℕ} → Matches p x → Matches (optional p) x
  no_time : {p : Pattern} → Matches (repeated p) []
  once_more : {p : Pattern} {x y : List ℕ} → Matches p x → Matches (repeated p) y → Matches (repeated p) (x ++ y)

-- Classes.

abbrev pub is_digit : ℕ → Bool
is_digit b = nat_le 48 b && nat_le b 57

abbrev pub is_octal : ℕ → Bool
is_octal b = nat_le 48 b && nat_le b 55

abbrev pub is_hexadecimal : ℕ → Bool
is_hexadecimal b = is_digit b || ((nat_le 97 b && nat_le b 102) || (nat_le 65 b && nat_le b 70))

abbrev pub is_sign : ℕ → Bool
is_sign b = (b == 43) || (b == 45)

abbrev pub is_exponent : ℕ → Bool
is_exponent b = (b == 101) || (b == 69)

-- Parts.

abbrev pub at_least_once : Pattern → Pattern
at_least_once p = followed p (repeated p)

abbrev pub digits : Pattern
digits = at_least_once (byte_of is_digit)

abbrev pub signed : Pattern → Pattern
signed p = followed (optional (byte_of is_sign)) p

-- a word in lower case, with a capital, in capitals
abbrev pub cased : List ℕ → List ℕ → List ℕ → Pattern
cased lower capital upper = either (bytes lower) (either (bytes capital) (bytes upper))

-- The patterns.

-- null | Null | NULL | ~ | nothing
abbrev pub null_pattern : Pattern
null_pattern = either (cased (codes "null") (codes "Null") (codes "NULL")) (either (bytes (codes "~")) (bytes []))

-- true | True | TRUE | false | False | FALSE
abbrev pub boolean_pattern : Pattern
boolean_pattern = either (cased (codes "true") (codes "True") (codes "TRUE")) (cased (codes "false") (codes "False") (codes "FALSE"))

-- [-+]? [0-9]+ | 0o [0-7]+ | 0x [0-9a-fA-F]+
abbrev pub integer_pattern : Pattern
integer_pattern =
    either (signed digits)
    (either (followed (bytes (codes "0o")) (at_least_once (byte_of is_octal))) (followed (bytes (codes "0x")) (at_least_once (byte_of is_hexadecimal))))

-- \. [0-9]+ | [0-9]+ ( \. [0-9]* )?
abbrev pub mantissa : Pattern
mantissa = either (followed (bytes (codes ".")) digits) (followed digits (optional (followed (bytes (codes ".")) (repeated (byte_of is_digit)))))

-- [eE] [-+]? [0-9]+
abbrev pub exponent : Pattern
exponent = followed (byte_of is_exponent) (signed digits)

-- [-+]? mantissa exponent? | [-+]? ( \.inf | \.Inf | \.INF ) | \.nan | \.NaN | \.NAN
abbrev pub float_pattern : Pattern
float_pattern =
    either (signed (followed mantissa (optional exponent)))
    (either (signed (cased (codes ".inf") (codes ".Inf") (codes ".INF"))) (cased (codes ".nan") (codes ".NaN") (codes ".NAN")))

-- any of them
abbrev pub core_pattern : Pattern
core_pattern = either null_pattern (either boolean_pattern (either integer_pattern float_pattern))

-- Each null, boolean or number of the core schema is steady, so it may stay plain.
abbrev pub CoreTextsAreSteady : Type 0
CoreTextsAreSteady = (x : List ℕ) → Matches core_pattern x → is_steady x ≡ true
