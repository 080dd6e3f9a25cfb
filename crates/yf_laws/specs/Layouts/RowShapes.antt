-- The part of a row that does not depend on the offsets of nodes in the text.
use Rattle.std.specs.Prelude.{◌≡◌, ℕ, ◌+◌, Bool, true, false, is_some, List, [], ◌∷◌, ◌++◌, length, map, replicate}
use Rattle.yf_comments.specs.Comment.{CommentValue}
use Rattle.yf_events.specs.Tree.{Node}
use Rattle.yf_forms.specs.declared.style.Style.{Style}
use Rattle.yf_forms.specs.NormalForms.Normal.{is_implicit, key_comment}
use Rattle.yf_print.specs.Layouts.Rows.{Row, Ending, Start, before_node}

-- a row, with the number of leaves with characters on it, and whether a comment trails its key
pub record RowShape : Type 0 where
  pub column : ℕ
  pub text : List ℕ
  -- the columns of the entries that begin on it, and whether these are entries of sequences
  pub starts : List (ℕ × Bool)
  pub leaves : ℕ
  pub is_commented : Bool
  pub ending : Ending
  pub body : List (List ℕ)
  pub lines : ℕ

abbrev pub shape_of : Row → RowShape
shape_of r = record {
  column = r.column;
  text = r.text;
  starts = map (λ (s : Start). (s.column, s.is_item)) r.starts;
  leaves = length r.leaves;
  is_commented = is_some r.key_comment;
  ending = r.ending;
  body = r.body;
  lines = r.lines;
}

-- the shapes of `joined` rows
abbrev pub joined_shapes : RowShape → ℕ → List RowShape → List RowShape
joined_shapes head spaces [] = head ∷ []
joined_shapes head spaces (r ∷ rs) = record {
  column = head.column;
  text = head.text ++ (replicate spaces 32 ++ r.text);
  starts = head.starts ++ r.starts;
  leaves = head.leaves + r.leaves;
  is_commented = r.is_commented;
  ending = r.ending;
  body = r.body;
  lines = r.lines;
} ∷ rs

-- the rows of a value after an implicit key; the flags say whether a comment trails the key, and whether the value
-- begins on a line of its own
abbrev pub shapes_after_key : RowShape → Bool → Bool → List RowShape → List RowShape
shapes_after_key head true below rows = record head { is_commented = true; ending = before_node } ∷ rows
shapes_after_key head false true rows = record head { ending = before_node } ∷ rows
shapes_after_key head false false rows = joined_shapes head 1 rows

-- What rows depend on in the comments: if the key is implicit, a comment trails it in both or in neither.
pub record KeysAgree (s : Style) (cs ds : List CommentValue) (k v l w : Node) : Type 0 where
  pub comment : (column : ℕ) → is_implicit s column k ≡ true → is_some (key_comment cs k v) ≡ is_some (key_comment ds l w)
