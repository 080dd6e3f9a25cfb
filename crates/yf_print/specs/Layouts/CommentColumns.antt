-- The printed column of a comment on a line of its own that keeps its source block. Columns count from 0.
use Rattle.std.specs.Prelude.{ℕ, zero, suc, ◌+◌, Bool, true, false, not, ◌==◌, ◌&&◌, ◌||◌, nat_lt, if◌then◌else◌, List, [], ◌∷◌, Option, Some, None}
pub use Rattle.yf_print.specs.declared.open_blocks.OpenBlock.{OpenBlock}

-- what begins the line after a comment
pub data Beginning : Type 0 where
  -- the text of a node
  begins_node : Beginning
  -- a document, or the end: no collection goes on
  begins_document : Beginning
  -- an entry of this collection, or the `:` after a `?` key of it
  begins_entry : OpenBlock → Beginning

-- The columns of entries decide which collections are open: an entry ends those with entries further right, and a
-- sequence with entries at the column of the mapping that holds it. All lists of open collections have the innermost
-- first.

-- whether an entry of y ends b
abbrev pub is_ended_by : OpenBlock → OpenBlock → Bool
is_ended_by y b = nat_lt y.printed b.printed || ((y.printed == b.printed) && (b.is_sequence && not y.is_sequence))

abbrev pub is_same_block : OpenBlock → OpenBlock → Bool
is_same_block y b = (y.printed == b.printed) && (not (b.is_sequence && not y.is_sequence) && not (y.is_sequence && not b.is_sequence))

-- the collections that an entry of y doesn't end
abbrev pub not_ended : OpenBlock → List OpenBlock → List OpenBlock
not_ended y [] = []
not_ended y (b ∷ bs) = if is_ended_by y b then not_ended y bs else b ∷ bs

-- whether y is the innermost collection
abbrev pub goes_on : OpenBlock → List OpenBlock → Bool
goes_on y [] = false
goes_on y (b ∷ bs) = is_same_block y b

abbrev pub or_source : Option ℕ → Option ℕ → Option ℕ
or_source None other = other
or_source (Some n) other = Some n

-- the source column of the innermost collection that has one
abbrev pub innermost_source : List OpenBlock → Option ℕ
innermost_source [] = None
innermost_source (b ∷ bs) = or_source b.source (innermost_source bs)

abbrev pub not_left : ℕ → Option ℕ → Option ℕ
not_left m None = None
not_left m (Some n) = if nat_lt n m then None else Some n

abbrev pub unless_left : Option ℕ → Option ℕ → Option ℕ
unless_left None source = source
unless_left (Some m) source = not_left m source

-- y within these collections, without its source column if that is left of one around it. Only a flow collection can be
-- left of one around it. So source columns never fall inwards
abbrev pub placed_in : OpenBlock → List OpenBlock → OpenBlock
placed_in y bs = record y { source = unless_left (innermost_source bs) y.source }

-- the open collections after an entry of y
abbrev pub open_after : OpenBlock → List OpenBlock → List OpenBlock
open_after y bs = if goes_on y (not_ended y bs) then not_ended y bs else placed_in y (not_ended y bs) ∷ not_ended y bs

-- the collections that the entry ends, and the next one
abbrev pub inward_from : OpenBlock → List OpenBlock → List OpenBlock
inward_from y [] = []
inward_from y (b ∷ bs) = if is_ended_by y b then b ∷ inward_from y bs else b ∷ []

-- The column of a comment among open collections.

abbrev pub is_source : ℕ → Option ℕ → Bool
is_source k None = false
is_source k (Some n) = n == k

abbrev pub or_else : Option ℕ → ℕ → ℕ
or_else None other = other
or_else (Some n) other = n

-- the printed column of the innermost collection with the source column k
abbrev pub column_at : ℕ → List OpenBlock → Option ℕ
column_at k [] = None
column_at k (b ∷ bs) = if is_source k b.source then Some b.printed else column_at k bs

-- at the margin, a comment stays there if a collection is open
abbrev pub at_margin : ℕ → List OpenBlock → ℕ → ℕ
at_margin k [] other = other
at_margin zero (b ∷ bs) other = 0
at_margin (suc k) (b ∷ bs) other = other

abbrev pub further_in : ℕ → Bool → ℕ → ℕ
further_in indent true column = column + indent
further_in indent false column = column

abbrev pub left_or : ℕ → Bool → ℕ → Option ℕ → ℕ → Option ℕ → Option ℕ → Option ℕ
left_or indent may k None printed same later = same
left_or indent may k (Some n) printed same later = if nat_lt n k then Some (further_in indent may printed) else later

-- the printed column of the innermost collection with a source column left of k. If it is the innermost of all with a
-- source column, the comment was right of all of them, and `may` allows one indentation further in
abbrev pub column_left : ℕ → Bool → ℕ → List OpenBlock → Option ℕ
column_left indent may k [] = None
column_left indent may k (b ∷ bs) = left_or indent may k b.source b.printed (column_left indent may k bs) (column_left indent false k bs)

-- if the line goes on with one of the open collections, or with none: `inner` are those from that one inward
abbrev pub column_among : ℕ → Bool → ℕ → ℕ → List OpenBlock → List OpenBlock → ℕ
column_among indent may next k inner all = or_else (column_at k all) (at_margin k all (or_else (column_left indent may k inner) next))

-- if the line begins a collection
abbrev pub column_before_new : ℕ → ℕ → Option ℕ → List OpenBlock → ℕ
column_before_new next k new all = if is_source k new then next else or_else (column_at k all) (at_margin k all next)

-- the column of a comment with the source column k, alone on its line, before a line at the column `next` that begins
-- so. `all` are the open collections on the line before. `may` says whether the comment may be further in than all
-- these, because that line ends with no block scalar
abbrev pub column_in : ℕ → Bool → ℕ → ℕ → Beginning → List OpenBlock → ℕ
column_in indent may next k begins_node all = next
column_in indent may next k begins_document all = column_among indent may next k all all
column_in indent may next k (begins_entry y) all =
    if goes_on y (not_ended y all) then column_among indent may next k (inward_from y all) all else column_before_new next k y.source all

-- a comment that wasn't alone on its line gets the column of the next line
abbrev pub comment_column : ℕ → Bool → ℕ → Option ℕ → Beginning → List OpenBlock → ℕ
comment_column indent may next None begin all = next
comment_column indent may next (Some k) begin all = column_in indent may next k begin all
