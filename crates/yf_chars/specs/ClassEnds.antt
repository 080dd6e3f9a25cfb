-- These classes don't contain `no_char`.
use Rattle.std.specs.Prelude.{◌≡◌, false, refl}
use Rattle.yf_chars.specs.Text.{no_char}
use Rattle.yf_chars.specs.Class.{is_between, is_printable, is_break_char, is_nb_char, is_white, is_ns_char, is_flow_indicator, is_digit, is_word_char, is_anchor_char}

pub no_nb_char : is_nb_char no_char ≡ false
unfolding is_nb_char is_printable is_between is_break_char
no_nb_char = refl

pub no_anchor_char : is_anchor_char no_char ≡ false
unfolding is_anchor_char is_ns_char is_nb_char is_printable is_between is_break_char is_white is_flow_indicator
no_anchor_char = refl

pub no_word_char : is_word_char no_char ≡ false
unfolding is_word_char is_digit is_between
no_word_char = refl

pub no_ns_char : is_ns_char no_char ≡ false
unfolding is_ns_char is_nb_char is_printable is_between is_break_char is_white
no_ns_char = refl

pub no_digit : is_digit no_char ≡ false
unfolding is_digit is_between
no_digit = refl
