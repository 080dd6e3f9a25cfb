-- What the formatting of a text depends on in its reading: the nodes in the house style, the words of directives, and
-- the order of comments and of the offsets of nodes. It does not depend on how far apart these are, or on where lines
-- end.
use Rattle.std.specs.Prelude.{◌≡◌, ℕ, Bool, true, false, nat_le, nat_lt, is_some, List, [], ◌∷◌, Option, Some, None, zip}
use Rattle.yf_comments.specs.Comment.{CommentValue}
use Rattle.yf_props.specs.Props.{PropsValue}
use Rattle.yf_events.specs.Tree.{DocumentTree, NodeOffsets, Node, scalar, alias, sequence, mapping, Items, no_items, item, Pairs, no_pairs, pair, standing}
use Rattle.yf_events.specs.declared.document.Doc.{Doc}
use Rattle.yf_events.specs.declared.event.Entry.{Entry}
use Rattle.yf_events.specs.declared.event.ScalarStyle.{ScalarStyle}
use Rattle.yf_events.specs.declared.event.ScalarStyle.TheVariants.{Plain, Single, Double, Literal, Folded}
use Rattle.yf_events.specs.declared.event.Span.{Span}
use Rattle.yf_events.specs.declared.lists.Lists.{Lists}
use Rattle.yf_forms.specs.declared.style.Style.{Style}
use Rattle.yf_forms.specs.NormalForms.BareStart.{is_bare}
use Rattle.yf_laws.specs.Format.{IsFormatting}
use Rattle.yf_laws.specs.Preservation.FoundTrees.{words_of}
use Rattle.yf_print.specs.Layouts.KeptColumns.{Columns, keeps_blocks}
use Rattle.yf_laws.specs.Layouts.Layout.{Remark}
use Rattle.yf_forms.specs.Nodes.Lines.{trimmed}
use Rattle.yf_print.specs.Layouts.Rows.{colon_offset}
use Rattle.yf_forms.specs.Nodes.OneLine.{width, written}
use Rattle.yf_laws.specs.Preservation.CommentsPlaced.{columns_in}
use Rattle.yf_forms.specs.NormalForms.Normal.{setting_of, styled}

-- lists of equal length, related element by element
pub data Each {A : Type 0} (R : A → A → Type 0) : List A → List A → Type 0 where
  none_each : Each R [] []
  one_each : {x y : A} {xs ys : List A} → R x y → Each R xs ys → Each R (x ∷ xs) (y ∷ ys)

pub data Either {A : Type 0} (R : A → A → Type 0) : Option A → Option A → Type 0 where
  in_neither : Either R None None
  in_both : {x y : A} → R x y → Either R (Some x) (Some y)

-- Offsets of the two texts, in pairs: those of comments, and the starts of leaves.
pub record PairedOffsets : Type 0 where
  pub comments : List (ℕ × ℕ)
  pub leaves : List (ℕ × ℕ)

pub data HasPair (m n : ℕ) : List (ℕ × ℕ) → Type 0 where
  first_pair : {p : ℕ × ℕ} {ps : List (ℕ × ℕ)} → p.0 ≡ m → p.1 ≡ n → HasPair m n (p ∷ ps)
  later_pair : {p : ℕ × ℕ} {ps : List (ℕ × ℕ)} → HasPair m n ps → HasPair m n (p ∷ ps)

-- a is before, at or after the first offset of each pair if and only if b is so for the second
pub record SameSide (ps : List (ℕ × ℕ)) (a b : ℕ) : Type 0 where
  pub before : (m n : ℕ) → HasPair m n ps → nat_lt a m ≡ nat_lt b n
  pub after : (m n : ℕ) → HasPair m n ps → nat_lt m a ≡ nat_lt n b

-- a leaf is on the same sides of the comments and of the starts of leaves
pub record SameSpan (ps : PairedOffsets) (a b : Span) : Type 0 where
  pub paired : HasPair a.start b.start ps.leaves
  pub among : SameSide ps.leaves a.start b.start
  pub start : SameSide ps.comments a.start b.start
  pub end : SameSide ps.comments a.end b.end

-- all other offsets are on the same sides of the comments
pub record SameEntry (ps : PairedOffsets) (a b : Entry) : Type 0 where
  pub start : SameSide ps.comments a.start b.start
  pub blank : a.blank_before ≡ b.blank_before

-- a scalar, an alias or an empty collection that is a key without `?` at each column
abbrev pub is_leaf_key : Style → Node → Bool
is_leaf_key s (scalar at props Plain text lines) = nat_le (width (written s (scalar at props Plain text lines))) 1023
is_leaf_key s (scalar at props Single text lines) = nat_le (width (written s (scalar at props Single text lines))) 1023
is_leaf_key s (scalar at props Double text lines) = nat_le (width (written s (scalar at props Double text lines))) 1023
is_leaf_key s (scalar at props Literal text lines) = false
is_leaf_key s (scalar at props Folded text lines) = false
is_leaf_key s (alias at name) = nat_le (width (written s (alias at name))) 1023
is_leaf_key s (sequence at flow props no_items) = nat_le (width (written s (sequence at flow props no_items))) 1023
is_leaf_key s (sequence at flow props (item x xs)) = false
is_leaf_key s (mapping at flow props no_pairs) = nat_le (width (written s (mapping at flow props no_pairs))) 1023
is_leaf_key s (mapping at flow props (pair k v qs)) = false

-- the `:` after a key is on the same sides, or doesn't count
pub data SameColons (ps : PairedOffsets) (s : Style) (k l : Node) : Type 0 where
  colons_match : Each (SameSide ps.comments) (colon_offset (standing k).entry) (colon_offset (standing l).entry) → SameColons ps s k l
  no_colon_counts : is_leaf_key s k ≡ true → SameColons ps s k l

pub record SameKeys (ps : PairedOffsets) (s : Style) (k l : Node) : Type 0 where
  pub begins : is_some (standing k).entry ≡ true
  pub colon : SameColons ps s k l

-- Nodes in the house style that differ only in offsets, and have leaves and entries on the same sides.
mutual
  pub data NodesMatch (ps : PairedOffsets) (s : Style) : Node → Node → Type 0 where
    matched_scalars : {at bt : NodeOffsets} {props : PropsValue} {style : ScalarStyle} {text : List ℕ} {lines : List (List ℕ)} → Either (SameSpan ps) at.span bt.span → Either (SameEntry ps) at.entry bt.entry
        → NodesMatch ps s (scalar at props style text lines) (scalar bt props style text lines)
    matched_aliases : {at bt : NodeOffsets} {name : List ℕ} → Either (SameSpan ps) at.span bt.span → Either (SameEntry ps) at.entry bt.entry → NodesMatch ps s (alias at name) (alias bt name)
    matched_empty_sequences : {at bt : NodeOffsets} {flow : _} {props : PropsValue} → Either (SameSpan ps) at.span bt.span → Either (SameEntry ps) at.entry bt.entry
        → NodesMatch ps s (sequence at flow props no_items) (sequence bt flow props no_items)
    matched_empty_mappings : {at bt : NodeOffsets} {flow : _} {props : PropsValue} → Either (SameSpan ps) at.span bt.span → Either (SameEntry ps) at.entry bt.entry
        → NodesMatch ps s (mapping at flow props no_pairs) (mapping bt flow props no_pairs)
    matched_sequences : {at bt : NodeOffsets} {flow : _} {props : PropsValue} {x y : Node} {xs ys : Items} → is_some at.span ≡ is_some bt.span → Either (SameEntry ps) at.entry bt.entry
        → NodesMatch ps s x y → ItemsMatch ps s xs ys → NodesMatch ps s (sequence at flow props (item x xs)) (sequence bt flow props (item y ys))
    matched_mappings : {at bt : NodeOffsets} {flow : _} {props : PropsValue} {k v l w : Node} {qs rs : Pairs} → is_some at.span ≡ is_some bt.span → Either (SameEntry ps) at.entry bt.entry
        → SameKeys ps s k l → NodesMatch ps s k l → NodesMatch ps s v w → PairsMatch ps s qs rs → NodesMatch ps s (mapping at flow props (pair k v qs)) (mapping bt flow props (pair l w rs))

  pub data ItemsMatch (ps : PairedOffsets) (s : Style) : Items → Items → Type 0 where
    no_matched_items : ItemsMatch ps s no_items no_items
    matched_item : {x y : Node} {xs ys : Items} → NodesMatch ps s x y → ItemsMatch ps s xs ys → ItemsMatch ps s (item x xs) (item y ys)

  pub data PairsMatch (ps : PairedOffsets) (s : Style) : Pairs → Pairs → Type 0 where
    no_matched_pairs : PairsMatch ps s no_pairs no_pairs
    matched_pair : {k v l w : Node} {qs rs : Pairs} → SameKeys ps s k l → NodesMatch ps s k l → NodesMatch ps s v w → PairsMatch ps s qs rs → PairsMatch ps s (pair k v qs) (pair l w rs)

-- a comment with the same text, except for the white space at its end, and the same note on a blank line before it
pub record SameComment (ps : PairedOffsets) (c d : CommentValue) : Type 0 where
  pub paired : HasPair c.offset d.offset ps.comments
  pub side : SameSide ps.comments c.offset d.offset
  pub text : trimmed c.text ≡ trimmed d.text
  pub blank : c.blank_before ≡ d.blank_before

-- and both are on the line of the last leaf before them, or neither is
pub record SameRemark (ps : PairedOffsets) (c d : Remark) : Type 0 where
  pub comment : SameComment ps c.0 d.0
  pub on_line : c.1 ≡ d.1

-- documents of the reading r of t, and of the reading q of v
pub data DocumentsMatch (ps : PairedOffsets) (s : Style) (t : List ℕ) (r : Lists) (v : List ℕ) (q : Lists) : List Doc → List DocumentTree → List Doc → List DocumentTree → Type 0 where
  no_matched_documents : DocumentsMatch ps s t r v q [] [] [] []
  matched_document : {d e : Doc} {ds es : List Doc} {x y : DocumentTree} {xs ys : List DocumentTree} → words_of d.directives ≡ words_of e.directives → SameSide ps.comments d.start e.start
      → NodesMatch ps s (styled t (setting_of r s) x.root) (styled v (setting_of q s) y.root) → DocumentsMatch ps s t r v q ds xs es ys
      → DocumentsMatch ps s t r v q (d ∷ ds) (x ∷ xs) (e ∷ es) (y ∷ ys)

-- two comments at the same column, whatever the next lines are
pub record SameColumn (p q : Columns) (c d : CommentValue) : Type 0 where
  pub is : (next : ℕ) → p c next ≡ q d next

-- The readings of two texts match: all comments are pairs, and each offset of a node is on the same side of them all.
-- The starts of leaves are pairs too, and each is on the same side of the others.
pub record SameReadings {t u v w : List ℕ} {s : Style} (f : IsFormatting t s u) (g : IsFormatting v s w) : Type 0 where
  pub pairs : PairedOffsets
  -- the `---` of the first document is left out in both or in neither: the style keeps a missing `---`, and it is
  -- missing
  pub bare : is_bare f.normal s ≡ is_bare g.normal s
  pub documents : DocumentsMatch pairs s t f.reading v g.reading f.reading.documents f.is_normal.trees g.reading.documents g.is_normal.trees
  pub remarks : Each (SameRemark pairs) (zip f.reading.comments f.reading.on_leaf_line) (zip g.reading.comments g.reading.on_leaf_line)
  -- if comments keep the blocks that they were written in, they are laid out at the same columns
  pub columns : keeps_blocks s ≡ true → Each (SameColumn (columns_in f) (columns_in g)) f.normal.comments g.normal.comments

-- u is the formatting of each text with a reading that matches that of t
abbrev pub DependsOnReading : List ℕ → Style → List ℕ → Type 0
DependsOnReading t s u = (v w : List ℕ) (f : IsFormatting t s u) (g : IsFormatting v s w) → SameReadings f g → w ≡ u
