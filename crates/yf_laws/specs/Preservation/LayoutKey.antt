-- What a layout depends on; it depends on nothing else.
use Rattle.std.specs.Prelude.{◌≡◌, ℕ, List, [], ◌∷◌, map}
use Rattle.yf_comments.specs.Comment.{CommentValue}
use Rattle.yf_events.specs.Tree.{DocumentTree}
use Rattle.yf_events.specs.declared.document.Doc.{Doc}
use Rattle.yf_forms.specs.declared.style.Style.{Style}
use Rattle.yf_laws.specs.Preservation.AlikeBlocks.{AlikeBlocks}
use Rattle.yf_forms.specs.NormalForms.BareStart.{is_bare}
use Rattle.yf_laws.specs.Preservation.CommentsPlaced.{columns_in, ends_line, rows_in, source_in}
use Rattle.yf_laws.specs.Format.{IsFormatting}
use Rattle.yf_laws.specs.Preservation.FoundTrees.{words_of}
use Rattle.yf_laws.specs.Layouts.Layout.{Columns, Source, precedes_item, trailing}
use Rattle.yf_forms.specs.Nodes.Lines.{trimmed}
use Rattle.yf_print.specs.Layouts.Rows.{Row}

-- documents with the same words of directives, and trees that differ only in offsets; cs and es are the comments of
-- each
pub data SameDocuments (s : Style) (cs es : List CommentValue) : List Doc → List DocumentTree → List Doc → List DocumentTree → Type 0 where
  no_documents : SameDocuments s cs es [] [] [] []
  same_document : {d e : Doc} {ds fs : List Doc} {x y : DocumentTree} {xs ys : List DocumentTree} → words_of d.directives ≡ words_of e.directives
      → AlikeBlocks s cs es x.root y.root → SameDocuments s cs es ds xs fs ys → SameDocuments s cs es (d ∷ ds) (x ∷ xs) (e ∷ fs) (y ∷ ys)

-- Rows of two layouts, with comments that are compared.

-- c is before an item of a row if and only if d is before an item of the corresponding row
pub data SamePlace (c d : CommentValue) : List Row → List Row → Type 0 where
  no_place : SamePlace c d [] []
  same_place : {x y : Row} {xs ys : List Row} → precedes_item x c ≡ precedes_item y d → SamePlace c d xs ys → SamePlace c d (x ∷ xs) (y ∷ ys)

-- as many comments, each with the same text except for the white space at its end, the same note on a blank line before
-- it, before the same rows, at the same columns
pub data SamePlaces (p q : Columns) (xs ys : List Row) : List CommentValue → List CommentValue → Type 0 where
  no_comments : SamePlaces p q xs ys [] []
  same_comment : {c d : CommentValue} {cs ds : List CommentValue} → trimmed c.text ≡ trimmed d.text → c.blank_before ≡ d.blank_before → SamePlace c d xs ys → ((next : ℕ) → p c next ≡ q d next) → SamePlaces p q xs ys cs ds
      → SamePlaces p q xs ys (c ∷ cs) (d ∷ ds)

-- corresponding comments both end a line, or neither does
pub data SameEnds (b c : Source) : List CommentValue → List CommentValue → Type 0 where
  no_ends : SameEnds b c [] []
  same_end : {d e : CommentValue} {ds es : List CommentValue} → ends_line b d ≡ ends_line c e → SameEnds b c ds es → SameEnds b c (d ∷ ds) (e ∷ es)

-- row by row, the same note on a blank line before it, and the same texts of comments that end it
pub data SameRows (b c : Source) : List Row → List Row → Type 0 where
  no_more_rows : SameRows b c [] []
  same_row : {x y : Row} {xs ys : List Row} → x.blank_before ≡ y.blank_before → map (λ (d : CommentValue). trimmed d.text) (trailing b x) ≡ map (λ (d : CommentValue). trimmed d.text) (trailing c y)
      → SameRows b c xs ys → SameRows b c (x ∷ xs) (y ∷ ys)

-- two texts have the same key: their normal forms differ only in offsets, and comments and blank lines are at the same
-- lines
pub record SameKey {t u v w : List ℕ} {s : Style} (f : IsFormatting t s u) (g : IsFormatting v s w) : Type 0 where
  -- the `---` of the first document is left out in both or in neither: the style keeps a missing `---`, and it is
  -- missing
  pub bare : is_bare f.normal s ≡ is_bare g.normal s
  pub documents : SameDocuments s f.normal.comments g.normal.comments f.normal.documents f.writes.trees g.normal.documents g.writes.trees
  pub places : SamePlaces (columns_in f) (columns_in g) (rows_in f) (rows_in g) f.normal.comments g.normal.comments
  pub ends : SameEnds (source_in f) (source_in g) f.normal.comments g.normal.comments
  pub rows : SameRows (source_in f) (source_in g) (rows_in f) (rows_in g)

-- u is the formatting of each text that has the key of t
abbrev pub DependsOnKey : List ℕ → Style → List ℕ → Type 0
DependsOnKey t s u = (v w : List ℕ) (f : IsFormatting t s u) (g : IsFormatting v s w) → SameKey f g → w ≡ u
