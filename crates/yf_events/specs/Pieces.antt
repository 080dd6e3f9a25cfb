-- The pieces of a line of the notation.
use Rattle.std.specs.Prelude.{ℕ, List, ◌∷◌, [], ◌++◌, Option, codes}
use Rattle.std.specs.List.{concat}
use Rattle.yf_props.specs.Props.{name_value}
use Rattle.yf_events.specs.Notation.{escaped, anchor_part, style_sign, tag_part}
use Rattle.yf_events.specs.declared.event.ScalarStyle.{ScalarStyle}
use Rattle.yf_events.specs.declared.event.ScalarStyle.TheVariants.{Plain as PlainStyle, Single, Double, Literal, Folded}
use Rattle.yf_events.specs.declared.notation.Piece.{Piece}
use Rattle.yf_events.specs.declared.notation.Piece.TheVariants.{Plain, Escaped, Anchor, Tag}

abbrev pub piece_bytes : Piece → List ℕ
piece_bytes (Plain text) = text.now
piece_bytes (Escaped text) = escaped text.now
piece_bytes (Anchor anchor) = anchor_part (name_value anchor)
piece_bytes (Tag tag) = tag_part (name_value tag)

-- the start of the line of a scalar without properties
abbrev pub bare_head : ScalarStyle → List ℕ
bare_head PlainStyle = codes "=VAL :"
bare_head Single = codes "=VAL '"
bare_head Double = codes "=VAL \""
bare_head Literal = codes "=VAL |"
bare_head Folded = codes "=VAL >"

-- and the line
abbrev pub bare_line : ScalarStyle → List ℕ → List ℕ
bare_line style text = bare_head style ++ (escaped text ++ codes "\n")

-- the line of the start of a collection
abbrev pub start_line : List ℕ → Option (List ℕ) → Option (List ℕ) → List ℕ
start_line name anchor tag = concat (name ∷ anchor_part anchor ∷ tag_part tag ∷ codes "\n" ∷ [])

-- the line of a scalar
abbrev pub scalar_line : Option (List ℕ) → Option (List ℕ) → ScalarStyle → List ℕ → List ℕ
scalar_line anchor tag style text =
    concat (codes "=VAL" ∷ anchor_part anchor ∷ tag_part tag ∷ codes " " ∷ style_sign style ∷ escaped text ∷ codes "\n" ∷ [])
