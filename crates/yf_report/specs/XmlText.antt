-- The text of the tags of a report.
use Rattle.std.specs.Prelude.{ℕ, ◌==◌, ◌&&◌, ◌||◌, List, [], ◌∷◌, ◌++◌, codes}
use Rattle.std.specs.Prelude.{decimal, flat_map, nat_lt, not, Bool, if◌then◌else◌}
use Rattle.yf_report.specs.Xml.{Attribute, Tag, open_tag, close_tag, empty_tag, declaration}
use Rattle.yf_report.specs.declared.xml.Value.{Value}
use Rattle.yf_report.specs.declared.xml.Value.TheVariants.{Text, Number}
use Rattle.yf_report.specs.declared.xml.Named.{Named}

-- a control character that XML 1.0 doesn't allow
abbrev pub is_refused : ℕ → Bool
is_refused x = nat_lt x 32 && not (x == 9 || (x == 10 || x == 13))

-- the last byte of U+FFFE or U+FFFF, after the other two
abbrev pub ends_refused : ℕ → ℕ → ℕ → Bool
ends_refused a b x = (a == 239 && b == 191) && (x == 190 || x == 191)

-- the bytes that are written for a byte after two others: U+FFFD for a control character, U+FFFE and U+FFFF
abbrev pub allowed_byte : ℕ → ℕ → ℕ → List ℕ
allowed_byte a b x =
    if is_refused x then 239 ∷ 191 ∷ 189 ∷ [] else
    (if ends_refused a b x then 189 ∷ [] else x ∷ [])

abbrev pub allowed_after : ℕ → ℕ → List ℕ → List ℕ
allowed_after a b [] = []
allowed_after a b (x ∷ xs) = allowed_byte a b x ++ allowed_after b x xs

-- the text, with U+FFFD for each character that XML 1.0 doesn't allow
unfoldable pub allowed : List ℕ → List ℕ
allowed = allowed_after 0 0

abbrev pub xml_byte : ℕ → List ℕ
xml_byte x =
    if x == 38 then codes "&amp;" else
    (if x == 60 then codes "&lt;" else
    (if x == 62 then codes "&gt;" else
    (if x == 34 then codes "&quot;" else
    (if x == 9 then codes "&#9;" else
    (if x == 10 then codes "&#10;" else
    (if x == 13 then codes "&#13;" else x ∷ []))))))

abbrev pub xml_text : List ℕ → List ℕ
xml_text = flat_map xml_byte

-- ` name="value"`
abbrev pub attribute_text : Attribute → List ℕ
attribute_text a = 32 ∷ (a.name ++ 61 ∷ 34 ∷ (xml_text a.value ++ 34 ∷ []))

-- a tag without its angle brackets
abbrev pub inner_text : Tag → List ℕ
inner_text (open_tag name attributes) = name ++ flat_map attribute_text attributes
inner_text (close_tag name) = 47 ∷ name
inner_text (empty_tag name attributes) = name ++ (flat_map attribute_text attributes ++ 47 ∷ [])

-- a tag on a line of its own
unfoldable pub tag_text : Tag → List ℕ
tag_text t = 10 ∷ 60 ∷ (inner_text t ++ 62 ∷ [])

unfoldable pub document_text : List Tag → List ℕ
document_text ts = declaration ++ 62 ∷ (flat_map tag_text ts ++ 10 ∷ [])

-- ---- the attributes that the code writes

abbrev pub value_of : Value → List ℕ
value_of (Text s) = allowed s.now
value_of (Number n) = decimal n

abbrev pub attribute_of : Named → Attribute
attribute_of a = record { name = a.name.now; value = value_of a.value }
