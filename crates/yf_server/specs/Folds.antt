-- Folds as JSON (`FoldingRange` of the Language Server Protocol 3.17), which `textDocument/foldingRange` returns.
use Rattle.std.specs.Prelude.{◌≡◌, ℕ, zero, suc, ◌==◌, nat_lt, false, List, [], ◌∷◌, ◌++◌, map, codes, Option, None, Some, if◌then◌else◌}
use Rattle.serde_json.specs.Data.{Data, null, number, string, array, object, no_members, member, unsigned}
use Rattle.serde_json.specs.View.{items_of}
use Rattle.yf_positions.specs.Lines.{line_count, line_of}
use Rattle.yf_server.specs.declared.analysis.Foldable.{Foldable}
use Rattle.yf_server.specs.declared.folds.LineFold.{LineFold}
use Rattle.yf_server.specs.Analysis.{TextClaim}

-- the lines of a part of a text
abbrev pub lines_of : List ℕ → Foldable → LineFold
lines_of text p =
    record { first = line_of text p.start; last = line_of text p.last; is_comment = p.is_comment }

-- one line, which is no fold
abbrev pub one_line : ℕ → LineFold
one_line n = record { first = n; last = n; is_comment = false }

-- a table of one line for each of the first n lines
abbrev pub one_lines : ℕ → List LineFold
one_lines zero = []
one_lines (suc n) = one_lines n ++ one_line n ∷ []

-- the longer of two folds; the first one if both are equally long
abbrev pub longer : LineFold → LineFold → LineFold
longer a b = if nat_lt a.last b.last then b else a

-- the longest of a fold that begins on line n, and of those of a list that do
abbrev pub longest_on : ℕ → LineFold → List LineFold → LineFold
longest_on n best [] = best
longest_on n best (p ∷ ps) = longest_on n (if p.first == n then longer best p else best) ps

-- a fold has at least two lines
abbrev pub fold_if : LineFold → List LineFold
fold_if f = if nat_lt f.first f.last then f ∷ [] else []

-- the folds that begin on the first n lines: for each line the longest one
abbrev pub folds_below : List LineFold → ℕ → List LineFold
folds_below parts zero = []
folds_below parts (suc n) = folds_below parts n ++ fold_if (longest_on n (one_line n) parts)

-- the folds of a text, by the parts that may be folded
abbrev pub folds_of : List ℕ → List Foldable → List LineFold
folds_of text parts = folds_below (map (lines_of text) parts) (line_count text)

-- `FoldingRange`
abbrev pub comment_fold : LineFold → Data
comment_fold f = object (member (codes "endLine") (number (unsigned f.last))
    (member (codes "kind") (string (codes "comment"))
    (member (codes "startLine") (number (unsigned f.first)) no_members)))

abbrev pub node_fold : LineFold → Data
node_fold f = object (member (codes "endLine") (number (unsigned f.last))
    (member (codes "startLine") (number (unsigned f.first)) no_members))

abbrev pub fold_data : LineFold → Data
fold_data f = if f.is_comment then comment_fold f else node_fold f

abbrev pub folds_data : List LineFold → Data
folds_data folds = array (items_of (map fold_data folds))

-- null if the text is not read: then a client keeps the folds that it has
abbrev pub folds_if : List ℕ → Option (List Foldable) → Data
folds_if text None = null
folds_if text (Some parts) = folds_data (folds_of text parts)

-- the result of `textDocument/foldingRange` for a text
pub record AreFoldsOf (claim : TextClaim) (text : List ℕ) (value : Data) : Type 0 where
  pub parts : Option (List Foldable)
  pub folds : claim.Folds text parts
  pub is : value ≡ folds_if text parts
