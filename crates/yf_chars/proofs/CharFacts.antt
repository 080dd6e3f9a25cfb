-- Facts about single characters and the classes that contain them.
use Rattle.std.proofs.Common.{◌≡◌, true, false, refl}
use Rattle.yf_chars.specs.Class.{is_between, is_break_char, is_digit, is_flow_indicator, is_nb_char, is_nb_json, is_ns_char, is_printable, is_tag_char, is_uri_char, is_white, is_word_char}
use Rattle.yf_chars.specs.Text.{no_char}

pub end_no_break : is_break_char no_char ≡ false
unfolding is_break_char
end_no_break = refl

pub feed_no_nb : is_nb_char 10 ≡ false
unfolding is_nb_char is_printable is_between is_break_char
feed_no_nb = refl

pub hash_nb : is_nb_char 35 ≡ true
unfolding is_nb_char is_printable is_between is_break_char
hash_nb = refl

pub mark_no_nb : is_nb_char 0xFEFF ≡ false
unfolding is_nb_char is_printable is_between is_break_char
mark_no_nb = refl

pub return_no_nb : is_nb_char 13 ≡ false
unfolding is_nb_char is_printable is_between is_break_char
return_no_nb = refl

pub space_nb : is_nb_char 32 ≡ true
unfolding is_nb_char is_printable is_between is_break_char
space_nb = refl

pub end_no_json : is_nb_json no_char ≡ false
unfolding is_nb_json is_between
end_no_json = refl

pub colon_ns : is_ns_char 58 ≡ true
unfolding is_ns_char is_nb_char is_printable is_between is_break_char is_white
colon_ns = refl

pub feed_no_ns : is_ns_char 10 ≡ false
unfolding is_ns_char is_nb_char is_printable is_between is_break_char is_white
feed_no_ns = refl

pub hash_ns : is_ns_char 35 ≡ true
unfolding is_ns_char is_nb_char is_printable is_between is_break_char is_white
hash_ns = refl

pub mark_no_ns : is_ns_char 0xFEFF ≡ false
unfolding is_ns_char is_nb_char is_printable is_between is_break_char is_white
mark_no_ns = refl

pub space_no_ns : is_ns_char 32 ≡ false
unfolding is_ns_char is_nb_char is_printable is_between is_break_char is_white
space_no_ns = refl

pub angle_no_tag : is_tag_char 60 ≡ false
unfolding is_tag_char is_uri_char is_word_char is_digit is_between is_flow_indicator
angle_no_tag = refl

pub end_no_tag : is_tag_char no_char ≡ false
unfolding is_tag_char is_uri_char is_word_char is_digit is_between is_flow_indicator
end_no_tag = refl

pub exclamation_no_tag : is_tag_char 33 ≡ false
unfolding is_tag_char is_uri_char is_word_char is_digit is_between is_flow_indicator
exclamation_no_tag = refl

pub end_no_uri : is_uri_char no_char ≡ false
unfolding is_uri_char is_word_char is_digit is_between
end_no_uri = refl

pub colon_no_white : is_white 58 ≡ false
unfolding is_white
colon_no_white = refl

pub end_no_white : is_white no_char ≡ false
unfolding is_white
end_no_white = refl

pub feed_no_white : is_white 10 ≡ false
unfolding is_white
feed_no_white = refl

pub hash_no_white : is_white 35 ≡ false
unfolding is_white
hash_no_white = refl

pub mark_no_white : is_white 0xFEFF ≡ false
unfolding is_white
mark_no_white = refl

pub space_white : is_white 32 ≡ true
unfolding is_white
space_white = refl

pub angle_no_word : is_word_char 60 ≡ false
unfolding is_word_char is_digit is_between
angle_no_word = refl

pub exclamation_no_word : is_word_char 33 ≡ false
unfolding is_word_char is_digit is_between
exclamation_no_word = refl
