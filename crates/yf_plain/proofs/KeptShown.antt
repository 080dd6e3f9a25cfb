-- Example texts that are or aren't plain on one line, outside and within flow collections.
use Rattle.std.proofs.Common.{◌≡◌, true, false, codes, refl}
use Rattle.yf_chars.specs.declared.context.Ctx.TheVariants.{FlowOut, FlowIn, BlockKey, FlowKey}
use Rattle.yf_chars.specs.Class.{is_ns_char, is_nb_char, is_printable, is_between, is_break_char, is_white, is_plain_safe, is_indicator, is_flow_indicator}
use Rattle.yf_lines.specs.Steady.{is_steady, has_line_feed, ends_with_colon, is_only, is_marker_of}
use Rattle.yf_plain.specs.Plain.{is_sign}
use Rattle.yf_plain.specs.Kept.{starts_plain, goes_on_plain, is_plain_after, is_plain_line}

-- a comma is plain only outside
comma_outside : is_plain_line BlockKey (codes "a, b") ≡ true
unfolding is_plain_line is_plain_after starts_plain goes_on_plain is_sign is_plain_safe is_ns_char is_nb_char is_printable is_between is_break_char is_white is_indicator is_flow_indicator
comma_outside = refl

comma_inside : is_plain_line FlowIn (codes "a, b") ≡ false
unfolding is_plain_line is_plain_after starts_plain goes_on_plain is_sign is_plain_safe is_ns_char is_nb_char is_printable is_between is_break_char is_white is_indicator is_flow_indicator
comma_inside = refl

-- a colon before white space or at the end is not plain; it is plain before a character, as is a number sign after one
colon_space : is_plain_line FlowOut (codes "a: b") ≡ false
unfolding is_plain_line is_plain_after starts_plain goes_on_plain is_sign is_plain_safe is_ns_char is_nb_char is_printable is_between is_break_char is_white is_indicator is_flow_indicator
colon_space = refl

colon_last : is_plain_line FlowOut (codes "a:") ≡ false
unfolding is_plain_line is_plain_after starts_plain goes_on_plain is_sign is_plain_safe is_ns_char is_nb_char is_printable is_between is_break_char is_white is_indicator is_flow_indicator
colon_last = refl

signs_within : is_plain_line FlowKey (codes "-a:b#c") ≡ true
unfolding is_plain_line is_plain_after starts_plain goes_on_plain is_sign is_plain_safe is_ns_char is_nb_char is_printable is_between is_break_char is_white is_indicator is_flow_indicator
signs_within = refl

-- three dots are plain characters, but they do not stay plain
dots_characters : is_plain_line FlowOut (codes "...") ≡ true
unfolding is_plain_line is_plain_after starts_plain goes_on_plain is_sign is_plain_safe is_ns_char is_nb_char is_printable is_between is_break_char is_white is_indicator is_flow_indicator
dots_characters = refl

dots_marker : is_steady (codes "...") ≡ false
unfolding is_steady has_line_feed ends_with_colon is_only is_marker_of
dots_marker = refl
