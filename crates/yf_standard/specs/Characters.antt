-- The productions of YAML 1.2.2 that derive one character of a set (chapter 5; 102, 127 to 129), in the standard's
-- order, with its names and numbers. A set is a test on the character's code; ∪ is the standard's | and ∖ its - between
-- such sets.
use Rattle.std.specs.Prelude.{ℕ, Bool, false, ◌==◌, ◌&&◌, ◌||◌, not, nat_le}
use Rattle.yf_chars.specs.declared.context.Ctx.{Ctx}
use Rattle.yf_chars.specs.declared.context.Ctx.TheVariants.{BlockOut, BlockIn, FlowOut, FlowIn, BlockKey, FlowKey}

abbrev pub Set : Type 0
Set = ℕ → Bool

infixl 60 ◌∪◌
unfoldable pub ◌∪◌ : Set → Set → Set
◌∪◌ a b c = a c || b c

infixl 60 ◌∖◌
unfoldable pub ◌∖◌ : Set → Set → Set
◌∖◌ a b c = a c && not (b c)

-- x09; [x20-x7E]
unfoldable pub x : ℕ → Set
x d c = c == d

infix 70 ◌to◌
unfoldable pub ◌to◌ : ℕ → ℕ → Set
◌to◌ low high c = nat_le low c && nat_le c high

unfoldable pub no-character : Set
no-character c = false

-- 5.1 Character Set
-- [1]
unfoldable pub c-printable : Set
c-printable = x 0x09 ∪ x 0x0A ∪ x 0x0D ∪ (0x20 to 0x7E) ∪ x 0x85 ∪ (0xA0 to 0xD7FF) ∪ (0xE000 to 0xFFFD) ∪ (0x10000 to 0x10FFFF)

-- [2]
unfoldable pub nb-json : Set
nb-json = x 0x09 ∪ (0x20 to 0x10FFFF)

-- 5.2 Character Encodings
-- [3]
unfoldable pub c-byte-order-mark : Set
c-byte-order-mark = x 0xFEFF

-- 5.3 Indicator Characters
-- [4] -
unfoldable pub c-sequence-entry : Set
c-sequence-entry = x 45

-- [5] ?
unfoldable pub c-mapping-key : Set
c-mapping-key = x 63

-- [6] :
unfoldable pub c-mapping-value : Set
c-mapping-value = x 58

-- [7] ,
unfoldable pub c-collect-entry : Set
c-collect-entry = x 44

-- [8] [
unfoldable pub c-sequence-start : Set
c-sequence-start = x 91

-- [9] ]
unfoldable pub c-sequence-end : Set
c-sequence-end = x 93

-- [10] {
unfoldable pub c-mapping-start : Set
c-mapping-start = x 123

-- [11] }
unfoldable pub c-mapping-end : Set
c-mapping-end = x 125

-- [12] #
unfoldable pub c-comment : Set
c-comment = x 35

-- [13] &
unfoldable pub c-anchor : Set
c-anchor = x 38

-- [14] *
unfoldable pub c-alias : Set
c-alias = x 42

-- [15] !
unfoldable pub c-tag : Set
c-tag = x 33

-- [16] |
unfoldable pub c-literal : Set
c-literal = x 124

-- [17] >
unfoldable pub c-folded : Set
c-folded = x 62

-- [18] '
unfoldable pub c-single-quote : Set
c-single-quote = x 39

-- [19] "
unfoldable pub c-double-quote : Set
c-double-quote = x 34

-- [20] %
unfoldable pub c-directive : Set
c-directive = x 37

-- [21] @ `
unfoldable pub c-reserved : Set
c-reserved = x 64 ∪ x 96

-- [22]
unfoldable pub c-indicator : Set
c-indicator = c-sequence-entry ∪ c-mapping-key ∪ c-mapping-value ∪ c-collect-entry ∪ c-sequence-start ∪ c-sequence-end ∪ c-mapping-start
    ∪ c-mapping-end ∪ c-comment ∪ c-anchor ∪ c-alias ∪ c-tag ∪ c-literal ∪ c-folded ∪ c-single-quote ∪ c-double-quote ∪ c-directive ∪ c-reserved

-- [23]
unfoldable pub c-flow-indicator : Set
c-flow-indicator = c-collect-entry ∪ c-sequence-start ∪ c-sequence-end ∪ c-mapping-start ∪ c-mapping-end

-- 5.4 Line Break Characters
-- [24]
unfoldable pub b-line-feed : Set
b-line-feed = x 0x0A

-- [25]
unfoldable pub b-carriage-return : Set
b-carriage-return = x 0x0D

-- [26]
unfoldable pub b-char : Set
b-char = b-line-feed ∪ b-carriage-return

-- [27]
unfoldable pub nb-char : Set
nb-char = c-printable ∖ b-char ∖ c-byte-order-mark

-- 5.5 White Space Characters
-- [31]
unfoldable pub s-space : Set
s-space = x 0x20

-- [32]
unfoldable pub s-tab : Set
s-tab = x 0x09

-- [33]
unfoldable pub s-white : Set
s-white = s-space ∪ s-tab

-- [34]
unfoldable pub ns-char : Set
ns-char = nb-char ∖ s-white

-- 5.6 Miscellaneous Characters
-- [35]
unfoldable pub ns-dec-digit : Set
ns-dec-digit = 0x30 to 0x39

-- [36]
unfoldable pub ns-hex-digit : Set
ns-hex-digit = ns-dec-digit ∪ (0x41 to 0x46) ∪ (0x61 to 0x66)

-- [37]
unfoldable pub ns-ascii-letter : Set
ns-ascii-letter = (0x41 to 0x5A) ∪ (0x61 to 0x7A)

-- [38]
unfoldable pub ns-word-char : Set
ns-word-char = ns-dec-digit ∪ ns-ascii-letter ∪ x 45

-- 5.7 Escaped Characters
-- [41] \
unfoldable pub c-escape : Set
c-escape = x 92

-- [42] 0
unfoldable pub ns-esc-null : Set
ns-esc-null = x 48

-- [43] a
unfoldable pub ns-esc-bell : Set
ns-esc-bell = x 97

-- [44] b
unfoldable pub ns-esc-backspace : Set
ns-esc-backspace = x 98

-- [45] t or a tab
unfoldable pub ns-esc-horizontal-tab : Set
ns-esc-horizontal-tab = x 116 ∪ x 0x09

-- [46] n
unfoldable pub ns-esc-line-feed : Set
ns-esc-line-feed = x 110

-- [47] v
unfoldable pub ns-esc-vertical-tab : Set
ns-esc-vertical-tab = x 118

-- [48] f
unfoldable pub ns-esc-form-feed : Set
ns-esc-form-feed = x 102

-- [49] r
unfoldable pub ns-esc-carriage-return : Set
ns-esc-carriage-return = x 114

-- [50] e
unfoldable pub ns-esc-escape : Set
ns-esc-escape = x 101

-- [51]
unfoldable pub ns-esc-space : Set
ns-esc-space = x 0x20

-- [52] "
unfoldable pub ns-esc-double-quote : Set
ns-esc-double-quote = x 34

-- [53] /
unfoldable pub ns-esc-slash : Set
ns-esc-slash = x 47

-- [54] \
unfoldable pub ns-esc-backslash : Set
ns-esc-backslash = x 92

-- [55] N
unfoldable pub ns-esc-next-line : Set
ns-esc-next-line = x 78

-- [56] _
unfoldable pub ns-esc-non-breaking-space : Set
ns-esc-non-breaking-space = x 95

-- [57] L
unfoldable pub ns-esc-line-separator : Set
ns-esc-line-separator = x 76

-- [58] P
unfoldable pub ns-esc-paragraph-separator : Set
ns-esc-paragraph-separator = x 80

-- 6.9.2
-- [102]
unfoldable pub ns-anchor-char : Set
ns-anchor-char = ns-char ∖ c-flow-indicator

-- 7.3.3
-- [128]
unfoldable pub ns-plain-safe-out : Set
ns-plain-safe-out = ns-char

-- [129]
unfoldable pub ns-plain-safe-in : Set
ns-plain-safe-in = ns-char ∖ c-flow-indicator

-- [127]
unfoldable pub ns-plain-safe : Ctx → Set
ns-plain-safe FlowOut = ns-plain-safe-out
ns-plain-safe FlowIn = ns-plain-safe-in
ns-plain-safe BlockKey = ns-plain-safe-out
ns-plain-safe FlowKey = ns-plain-safe-in
ns-plain-safe BlockOut = no-character
ns-plain-safe BlockIn = no-character
