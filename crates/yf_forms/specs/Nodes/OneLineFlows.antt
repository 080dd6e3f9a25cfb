-- The flow collections that may be written on one line at any column: those without a comment between their brackets
-- that hold no empty scalar, and only aliases, empty collections, quoted scalars and plain scalars that stay plain.
use Rattle.std.specs.Prelude.{ℕ, Bool, true, false, not, ◌&&◌, nat_lt, nat_le, List, [], ◌∷◌, Option, Some, None}
use Rattle.std.specs.List.{list_any}
use Rattle.yf_lines.specs.Steady.{is_steady}
use Rattle.yf_comments.specs.Comment.{CommentValue}
use Rattle.yf_props.specs.Props.{PropsValue}
use Rattle.yf_events.specs.declared.event.ScalarStyle.{ScalarStyle}
use Rattle.yf_events.specs.declared.event.ScalarStyle.TheVariants.{Plain, Single, Double, Literal, Folded}
use Rattle.yf_events.specs.declared.event.Span.{Span}
use Rattle.yf_forms.specs.Nodes.ContentStart.{content_start}
use Rattle.yf_events.specs.Tree.{Node, scalar, alias, sequence, mapping, Items, no_items, item, Pairs, no_pairs, pair}

-- a comment is at or after one offset, and before another
abbrev pub is_within : ℕ → ℕ → CommentValue → Bool
is_within from to c = nat_le from c.offset && nat_lt c.offset to

-- a comment is between the brackets of a collection with these properties, or between the start and the end of a
-- single pair
abbrev pub has_comment : List ℕ → List CommentValue → Option Span → PropsValue → Bool
has_comment t cs None props = false
has_comment t cs (Some span) props = list_any (is_within (content_start t span props) span.end) cs

-- whether a scalar may be in a flow collection on one line
abbrev pub scalar_may_be_kept : ScalarStyle → List ℕ → Bool
scalar_may_be_kept Plain [] = false
scalar_may_be_kept Plain (b ∷ text) = is_steady (b ∷ text)
scalar_may_be_kept Single text = true
scalar_may_be_kept Double text = true
scalar_may_be_kept Literal text = false
scalar_may_be_kept Folded text = false

-- whether a node may be a flow collection on one line, or within one; t is the text, cs are its comments
abbrev mutual
  pub may_be_kept : List ℕ → List CommentValue → Node → Bool
  may_be_kept t cs (scalar at props style text lines) = scalar_may_be_kept style text
  may_be_kept t cs (alias at name) = true
  may_be_kept t cs (sequence at flow props no_items) = true
  may_be_kept t cs (sequence at flow props (item x xs)) =
      flow && not (has_comment t cs at.span props) && may_be_kept t cs x && items_may_be_kept t cs xs
  may_be_kept t cs (mapping at flow props no_pairs) = true
  may_be_kept t cs (mapping at flow props (pair k v ps)) =
      flow && not (has_comment t cs at.span props) && may_be_kept t cs k && may_be_kept t cs v && pairs_may_be_kept t cs ps

  pub items_may_be_kept : List ℕ → List CommentValue → Items → Bool
  items_may_be_kept t cs no_items = true
  items_may_be_kept t cs (item x xs) = may_be_kept t cs x && items_may_be_kept t cs xs

  pub pairs_may_be_kept : List ℕ → List CommentValue → Pairs → Bool
  pairs_may_be_kept t cs no_pairs = true
  pairs_may_be_kept t cs (pair k v ps) = may_be_kept t cs k && may_be_kept t cs v && pairs_may_be_kept t cs ps
