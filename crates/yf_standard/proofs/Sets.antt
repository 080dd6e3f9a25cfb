-- The sets of the standard's productions are the classes of `Class`.
use Rattle.std.proofs.Common.{◌≡◌, ℕ, ◌==◌, ◌||◌, not, refl, sym, ap}
use Rattle.std.proofs.Math.Bool.{and_assoc, or_assoc}
use Rattle.yf_chars.specs.declared.context.Ctx.{Ctx}
use Rattle.yf_chars.specs.declared.context.Ctx.TheVariants.{BlockOut, BlockIn, FlowOut, FlowIn, BlockKey, FlowKey}
use Rattle.yf_standard.specs.Characters.{x, ◌to◌, ◌∪◌, ◌∖◌, no-character, c-printable, nb-json, b-char, b-line-feed, b-carriage-return, c-byte-order-mark, nb-char, s-white, s-space, s-tab, ns-char, ns-dec-digit, ns-hex-digit, ns-ascii-letter, ns-word-char, c-flow-indicator, ns-plain-safe, ns-plain-safe-in, ns-plain-safe-out, ns-anchor-char, c-collect-entry, c-sequence-start, c-sequence-end, c-mapping-start, c-mapping-end}
use Rattle.yf_chars.specs.Class.{is_between, is_printable, is_nb_json, is_break_char, is_nb_char, is_white, is_ns_char, is_digit, is_hex_digit, is_word_char, is_flow_indicator, is_plain_safe, is_anchor_char}

pub white_is : (c : ℕ) → s-white c ≡ is_white c
unfolding s-white s-space s-tab x ◌∪◌ is_white
white_is c = refl

pub printable_is : (c : ℕ) → c-printable c ≡ is_printable c
unfolding c-printable x ◌∪◌ ◌to◌ is_printable is_between
printable_is c = refl

pub nb_json_is : (c : ℕ) → nb-json c ≡ is_nb_json c
unfolding nb-json x ◌∪◌ ◌to◌ is_nb_json is_between
nb_json_is c = refl

pub break_char_is : (c : ℕ) → b-char c ≡ is_break_char c
unfolding b-char b-line-feed b-carriage-return x ◌∪◌ is_break_char
break_char_is c = refl

pub nb_char_is : (c : ℕ) → nb-char c ≡ is_nb_char c
unfolding nb-char ◌∖◌ c-byte-order-mark x is_nb_char
nb_char_is c = rw (printable_is c, break_char_is c) (and_assoc (is_printable c) (not (is_break_char c)) (not (c == 0xFEFF)))

pub ns_char_is : (c : ℕ) → ns-char c ≡ is_ns_char c
unfolding ns-char ◌∖◌ is_ns_char
ns_char_is c = rw (nb_char_is c, white_is c) refl

pub flow_indicator_is : (c : ℕ) → c-flow-indicator c ≡ is_flow_indicator c
unfolding c-flow-indicator c-collect-entry c-sequence-start c-sequence-end c-mapping-start c-mapping-end x ◌∪◌ is_flow_indicator
flow_indicator_is c = refl

pub hex_digit_is : (c : ℕ) → ns-hex-digit c ≡ is_hex_digit c
unfolding ns-hex-digit ns-dec-digit ◌∪◌ ◌to◌ is_hex_digit is_digit is_between
hex_digit_is c = refl

pub word_char_is : (c : ℕ) → ns-word-char c ≡ is_word_char c
unfolding ns-word-char ns-dec-digit ns-ascii-letter x ◌∪◌ ◌to◌ is_word_char is_digit is_between
word_char_is c = ap (λ b. b || (c == 45)) (sym (or_assoc (is_digit c) ((0x41 to 0x5A) c) ((0x61 to 0x7A) c)))

pub anchor_char_is : (c : ℕ) → ns-anchor-char c ≡ is_anchor_char c
unfolding ns-anchor-char ◌∖◌ is_anchor_char
anchor_char_is c = rw (ns_char_is c, flow_indicator_is c) refl

pub plain_safe_is : (k : Ctx) (c : ℕ) → ns-plain-safe k c ≡ is_plain_safe c k
unfolding ns-plain-safe ns-plain-safe-in ns-plain-safe-out no-character ◌∖◌ is_plain_safe
plain_safe_is BlockOut c = refl
plain_safe_is BlockIn c = refl
plain_safe_is FlowOut c = ns_char_is c
plain_safe_is FlowIn c = rw (ns_char_is c, flow_indicator_is c) refl
plain_safe_is BlockKey c = ns_char_is c
plain_safe_is FlowKey c = rw (ns_char_is c, flow_indicator_is c) refl

pub dec_digit_is : (c : ℕ) → ns-dec-digit c ≡ is_digit c
unfolding ns-dec-digit ◌to◌ is_digit is_between
dec_digit_is c = refl
