-- Reading a class, from the offset after its `[`, as relations between two offsets of the text.
use Rattle.std.specs.Prelude.{◌≡◌, ◌≢◌, ℕ, ◌+◌, ◌<◌, Bool, ◌==◌, ◌||◌, if◌then◌else◌, List, [], ◌∷◌, length, slice_index}
use Rattle.yf_excludes.specs.Signs.{EXCLAMATION, DASH, COLON, LEFT_BRACKET, BACKSLASH, RIGHT_BRACKET, CARET}
use Rattle.yf_excludes.specs.declared.atom.ByteRange.{ByteRange}
use Rattle.yf_excludes.specs.declared.atom.Class.{Class}

-- `[:` would begin a named class, which patterns don't have
abbrev pub IsNamedClass : List ℕ → ℕ → Type 0
IsNamedClass t i = (slice_index t i ≡ LEFT_BRACKET) × (i + 1 < length t) × (slice_index t (i + 1) ≡ COLON)

-- a byte of a class: itself, or after a backslash
pub data ClassByte (t : List ℕ) (i b j : ℕ) : Type 0 where
  plain_byte : i < length t → slice_index t i ≡ b → b ≢ BACKSLASH → ¬ (IsNamedClass t i) → j ≡ i + 1 → ClassByte t i b j
  escaped_byte : i + 1 < length t → slice_index t i ≡ BACKSLASH → slice_index t (i + 1) ≡ b → j ≡ i + 2
      → ClassByte t i b j

-- a `-` between the ends of a range, which a byte other than `]` follows
abbrev pub IsRangeSign : List ℕ → ℕ → Type 0
IsRangeSign t i = (i + 1 < length t) × (slice_index t i ≡ DASH) × (slice_index t (i + 1) ≢ RIGHT_BRACKET)

-- a member of a class: a byte, or a range
pub data MemberAt (t : List ℕ) (i : ℕ) (r : ByteRange) (j : ℕ) : Type 0 where
  one_byte : ClassByte t i r.first j → ¬ (IsRangeSign t j) → r.last ≡ r.first → MemberAt t i r j
  byte_range : {h : ℕ} → ClassByte t i r.first h → IsRangeSign t h → ClassByte t (h + 1) r.last j → MemberAt t i r j

-- a `]` ends the class, but not as its first byte
abbrev pub Closes : List ℕ → ℕ → ℕ → Type 0
Closes t start i = (i ≢ start) × (i < length t) × (slice_index t i ≡ RIGHT_BRACKET)

-- the members of a class that starts at `start`, and its `]`
pub data MembersAt (t : List ℕ) (start : ℕ) : ℕ → List ByteRange → ℕ → Type 0 where
  class_ends : {i j : ℕ} → Closes t start i → j ≡ i + 1 → MembersAt t start i [] j
  class_goes_on : {i h j : ℕ} {r : ByteRange} {rs : List ByteRange}
      → ¬ (Closes t start i) → MemberAt t i r h → MembersAt t start h rs j → MembersAt t start i (r ∷ rs) j

-- no `]` ends the class, or some part of it is not a member
abbrev pub NoMembers : List ℕ → ℕ → Type 0
NoMembers t start = (rs : List ByteRange) (j : ℕ) → ¬ (MembersAt t start start rs j)

-- `!` or `^` negates the class
abbrev pub negates : List ℕ → ℕ → Bool
negates t i = (slice_index t i == EXCLAMATION) || (slice_index t i == CARET)

abbrev pub class_start : List ℕ → ℕ → ℕ
class_start t i = if negates t i then i + 1 else i

-- a class, from the offset after its `[` to that after its `]`
pub record ClassAt (t : List ℕ) (i : ℕ) (k : Class) (j : ℕ) : Type 0 where
  pub negated : k.negated ≡ negates t i
  pub members : MembersAt t (class_start t i) (class_start t i) k.ranges.items j
