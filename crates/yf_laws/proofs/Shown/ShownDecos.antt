-- What the rows of a small reading carry after them, and what formatting keeps of its comments.
use Rattle.std.proofs.Common.{◌≡◌, true, false, List, [], ◌∷◌, None, codes, map, refl}
use Rattle.std.specs.Str.{chars}
use Rattle.yf_chars.specs.Class.{is_between, is_white}
use Rattle.yf_chars.specs.Text.{begins, code}
use Rattle.yf_comments.specs.GapLines.{IsRemark}
use Rattle.yf_props.specs.Props.{no_props}
use Rattle.yf_events.specs.Tree.{DocumentTree, scalar, flat_stream}
use Rattle.yf_events.specs.declared.event.ScalarStyle.TheVariants.{Literal}
use Rattle.yf_events.specs.declared.lists.Lists.{Lists}
use Rattle.yf_laws.specs.Layouts.RowComments.{TrailsFit}
use Rattle.yf_laws.specs.Layouts.Decorated.{blank, remark as own_line, first_gap, row_decos, rows_of, decorated}
use Rattle.yf_laws.specs.Layouts.Layout.{source_of}
use Rattle.yf_print.specs.Layouts.Rows.{Row}
use Rattle.yf_laws.specs.Preservation.SameComments.{kept}
use Rattle.yf_laws.proofs.Shown.Examples.{house, at, key, word, block_pairs, one_document, root, remark, lists_of}
use Rattle.yf_laws.proofs.Trails.RowLeaves.{leaves_on}
use Rattle.yf_laws.proofs.Trails.TrailChoice.{rising}
use Rattle.yf_print.specs.Layouts.KeptColumns.{next_columns}

-- the normal reading of "# top\na: x  # c \n\n# d\nb: |\n  y\n"

abbrev small_trees : List DocumentTree
small_trees = root (block_pairs (at 6 32 None) no_props (
    ((word (at 6 7 (key 6 7)) (codes "a")), (word (at 9 10 None) (codes "x"))) ∷
    ((word (at 22 23 (key 22 23)) (codes "b")), (scalar (at 25 32 None) no_props Literal (codes "y\n") [])) ∷ []))

abbrev small_lists : Lists
small_lists = record
    (lists_of (remark 0 (codes "# top") false false ∷ remark 12 (codes "# c ") false true ∷ remark 18 (codes "# d") true false ∷ []) (one_document 6))
    { events = flat_stream small_trees }

abbrev small_rows : List Row
small_rows = rows_of small_lists house small_trees

shown_rows : map (λ (r : Row). r.text) small_rows ≡ codes "---" ∷ codes "a: x" ∷ codes "b: |" ∷ []
unfolding is_white is_between chars begins code lib.Utf8.encode
shown_rows = refl

-- the column of a block scalar's lines is that of the row
shown_columns : map (λ (r : Row). r.lines) small_rows ≡ 0 ∷ 0 ∷ 2 ∷ []
unfolding is_white is_between chars begins code lib.Utf8.encode
shown_columns = refl

shown_first_gap : first_gap next_columns small_lists small_rows ≡ own_line 0 (codes "# top") ∷ []
unfolding is_white is_between chars begins code lib.Utf8.encode
shown_first_gap = refl

shown_decos : row_decos next_columns small_lists small_rows
    ≡ record { trails = []; gap = [] }
    ∷ record { trails = codes "# c" ∷ []; gap = blank ∷ own_line 0 (codes "# d") ∷ [] }
    ∷ record { trails = []; gap = [] } ∷ []
unfolding is_white is_between chars begins code lib.Utf8.encode
shown_decos = refl

shown_bytes : decorated next_columns small_lists small_rows ≡ codes "# top\n---\na: x  # c\n\n# d\nb: |\n  y\n"
unfolding is_white is_between chars begins code lib.Utf8.encode
shown_bytes = refl

-- each comment with the numbers of documents and leaves that begin before it
shown_kept : kept small_lists ≡ (codes "# top", (0, 0)) ∷ (codes "# c", (1, 2)) ∷ (codes "# d", (1, 2)) ∷ []
unfolding is_white is_between chars begins code lib.Utf8.encode
shown_kept = refl

-- at most one comment trails each row
shown_trails : IsRemark (codes "# c") → TrailsFit (source_of small_lists small_rows) small_rows
unfolding is_white is_between chars begins code lib.Utf8.encode
shown_trails a = (tt, (a, (tt, tt)))

shown_rising : rising (leaves_on small_rows) ≡ true
unfolding is_white is_between chars begins code lib.Utf8.encode
shown_rising = refl
