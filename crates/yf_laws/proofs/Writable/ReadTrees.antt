-- Trees as they are read: facts about the text of each node from its derivation. The flag says whether a node is within
-- a flow collection.
use Rattle.std.specs.Prelude.{◌≡◌, ◌≢◌, ℕ, Bool, true, false, is_some, ◌||◌, List, []}
use Rattle.std.specs.Str.{IsUtf8}
use Rattle.yf_chars.specs.declared.context.Ctx.{Ctx}
use Rattle.yf_lines.specs.Basic.{is_block}
use Rattle.yf_lines.specs.Steady.{is_steady}
use Rattle.yf_plain.specs.Kept.{IsPlain, is_inside}
use Rattle.yf_props.specs.Props.{PropsValue, no_props}
use Rattle.yf_props.specs.Written.{IsName, IsProps}
use Rattle.yf_events.specs.declared.event.ScalarStyle.{ScalarStyle}
use Rattle.yf_events.specs.declared.event.ScalarStyle.TheVariants.{Plain, Single, Double, Literal, Folded}
use Rattle.yf_events.specs.Tree.{NodeOffsets, Node, scalar, alias, sequence, mapping, Items, no_items, item, Pairs, no_pairs, pair}
use Rattle.yf_laws.specs.Layouts.ReadableTrees.{FitProps, FitScalar}
use Rattle.yf_forms.specs.Nodes.ScalarStyles.{has_block_content}

-- the text of a plain scalar: if it is steady, it is a plain text on one line outside of flow collections, and inside
-- them if it comes from one
pub record ReadPlain (inside : Bool) (text : List ℕ) : Type 0 where
  pub stays : (c : Ctx) → is_block c ≡ false → (is_inside c ≡ true → inside ≡ true) → is_steady text ≡ true → IsPlain c text

-- the text of a scalar with characters, by its style
abbrev pub ReadText : Bool → ScalarStyle → List ℕ → List (List ℕ) → Type 0
ReadText inside Plain text lines = ReadPlain inside text
ReadText inside Single text lines = Unit {0}
ReadText inside Double text lines = Unit {0}
ReadText inside Literal text lines = has_block_content text ≡ true → FitScalar Literal text []
ReadText inside Folded text lines = has_block_content text ≡ true → FitScalar Folded text lines

mutual
  pub data ReadNode : Bool → Node → Type 0 where
    read_nothing : {b : Bool} {at : NodeOffsets} → is_some at.span ≡ false → ReadNode b (scalar at no_props Plain [] [])
    read_props : {b : Bool} {at : NodeOffsets} {p : PropsValue} → is_some at.span ≡ true → IsProps p → p ≢ no_props → ReadNode b (scalar at p Plain [] [])
    read_scalar : {b : Bool} {at : NodeOffsets} {p : PropsValue} {style : ScalarStyle} {text : List ℕ} {lines : List (List ℕ)} → is_some at.span ≡ true → FitProps p
        → IsUtf8 text → ReadText b style text lines → ReadNode b (scalar at p style text lines)
    read_alias : {b : Bool} {at : NodeOffsets} {name : List ℕ} → is_some at.span ≡ true → IsName name → ReadNode b (alias at name)
    read_sequence : {b : Bool} {at : NodeOffsets} {flow : Bool} {p : PropsValue} {xs : Items} → is_some at.span ≡ true → FitProps p → ReadItems (b || flow) xs
        → ReadNode b (sequence at flow p xs)
    read_mapping : {b : Bool} {at : NodeOffsets} {flow : Bool} {p : PropsValue} {ps : Pairs} → is_some at.span ≡ true → FitProps p → ReadPairs (b || flow) ps
        → ReadNode b (mapping at flow p ps)

  pub data ReadItems : Bool → Items → Type 0 where
    read_no_items : {b : Bool} → ReadItems b no_items
    read_item : {b : Bool} {x : Node} {xs : Items} → ReadNode b x → ReadItems b xs → ReadItems b (item x xs)

  pub data ReadPairs : Bool → Pairs → Type 0 where
    read_no_pairs : {b : Bool} → ReadPairs b no_pairs
    read_pair : {b : Bool} {k v : Node} {ps : Pairs} → ReadNode b k → ReadNode b v → ReadPairs b ps → ReadPairs b (pair k v ps)
