-- The characters that represent themselves in a tag, by the kind of the tag's part.
use Rattle.std.specs.Prelude.{ℕ, Bool}
use Rattle.yf_chars.specs.Class.{is_tag_char, is_uri_char}
use Rattle.yf_props.specs.declared.tag.Chars.{Chars}
use Rattle.yf_props.specs.declared.tag.Chars.TheVariants.{Uri, Suffix}

abbrev pub class_of : Chars → ℕ → Bool
class_of Uri = is_uri_char
class_of Suffix = is_tag_char
