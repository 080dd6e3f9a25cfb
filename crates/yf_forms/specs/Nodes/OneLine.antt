-- The text of a node on one line.
use Rattle.std.specs.Prelude.{ℕ, List, [], ◌∷◌, ◌++◌, chars, codes, length, Option, Some, None}
use Rattle.yf_props.specs.Props.{PropsValue, TagValue}
use Rattle.yf_props.specs.Props.TagValue.{IsVerbatim, IsShort, IsNonSpecific}
use Rattle.yf_quoted.specs.Written.{single_bytes, double_bytes_in}
use Rattle.yf_events.specs.declared.event.ScalarStyle.{ScalarStyle}
use Rattle.yf_events.specs.declared.event.ScalarStyle.TheVariants.{Plain, Single, Double, Literal, Folded}
use Rattle.yf_forms.specs.declared.style.Style.{Style}
use Rattle.yf_events.specs.Tree.{Node, scalar, alias, sequence, mapping, Items, no_items, item, Pairs, no_pairs, pair, props_of}

-- the number of characters of a text
abbrev pub width : List ℕ → ℕ
width text = length (chars text)

-- two parts with one space between them, if both have characters
abbrev pub spaced : List ℕ → List ℕ → List ℕ
spaced [] y = y
spaced (b ∷ x) [] = b ∷ x
spaced (b ∷ x) (c ∷ y) = (b ∷ x) ++ (32 ∷ c ∷ y)

-- a part with the space between it and the part before it, or the part after it
abbrev pub space_before : List ℕ → List ℕ
space_before [] = []
space_before (c ∷ y) = 32 ∷ c ∷ y

abbrev pub space_after : List ℕ → List ℕ
space_after [] = []
space_after (b ∷ x) = (b ∷ x) ++ 32 ∷ []

-- properties are written as they were read, the anchor before the tag
abbrev pub anchor_text : Option (List ℕ) → List ℕ
anchor_text None = []
anchor_text (Some name) = 38 ∷ name

abbrev pub tag_text : Option TagValue → List ℕ
tag_text None = []
tag_text (Some (IsVerbatim text)) = codes "!<" ++ (text ++ codes ">")
tag_text (Some (IsShort handle suffix)) = handle ++ suffix
tag_text (Some IsNonSpecific) = codes "!"

abbrev pub props_text : PropsValue → List ℕ
props_text props = spaced (anchor_text props.anchor) (tag_text props.tag)

-- a scalar's text in its style; a block scalar is not written on one line
abbrev pub scalar_text : Style → ScalarStyle → List ℕ → List ℕ
scalar_text s Plain text = text
scalar_text s Single text = single_bytes (chars text)
scalar_text s Double text = double_bytes_in s.invisible (chars text)
scalar_text s Literal text = []
scalar_text s Folded text = []

-- the `:` after a key, with a space before it if it would be read as a part of the key: after an alias, and after
-- properties without a text
abbrev pub colon_after_props : List ℕ → List ℕ
colon_after_props [] = codes ":"
colon_after_props (b ∷ x) = codes " :"

abbrev pub colon_after : Node → List ℕ
colon_after (scalar at props Plain [] lines) = colon_after_props (props_text props)
colon_after (alias at name) = codes " :"
colon_after x = codes ":"

-- the text of a node without its properties; a flow collection from bracket to bracket, with one space after each
-- comma and each `:`, and a single pair as a mapping
abbrev mutual
  pub bare : Style → Node → List ℕ
  bare s (scalar at props style text lines) = scalar_text s style text
  bare s (alias at name) = 42 ∷ name
  bare s (sequence at flow props no_items) = codes "[]"
  bare s (sequence at flow props (item x xs)) = codes "[" ++ (spaced (props_text (props_of x)) (bare s x) ++ (more_items s xs ++ codes "]"))
  bare s (mapping at flow props no_pairs) = codes "{}"
  bare s (mapping at flow props (pair k v ps)) =
      codes "{" ++ (spaced (props_text (props_of k)) (bare s k) ++ (colon_after k ++ (codes " " ++ (spaced (props_text (props_of v)) (bare s v)
      ++ (more_pairs s ps ++ codes "}")))))

  pub more_items : Style → Items → List ℕ
  more_items s no_items = []
  more_items s (item x xs) = codes ", " ++ (spaced (props_text (props_of x)) (bare s x) ++ more_items s xs)

  pub more_pairs : Style → Pairs → List ℕ
  more_pairs s no_pairs = []
  more_pairs s (pair k v ps) =
      codes ", " ++ (spaced (props_text (props_of k)) (bare s k) ++ (colon_after k ++ (codes " " ++ (spaced (props_text (props_of v)) (bare s v)
      ++ more_pairs s ps))))

-- the text of a node with its properties
abbrev pub written : Style → Node → List ℕ
written s x = spaced (props_text (props_of x)) (bare s x)
