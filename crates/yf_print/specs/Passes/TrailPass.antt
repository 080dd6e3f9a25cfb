-- The pass over the events that finds the comments that trail, one event at a time. Comments are given by their index.
use Rattle.std.specs.Prelude.{ℕ, ◌+◌, Bool, true, false, not, ◌&&◌, ◌||◌, nat_lt, List, [], ◌∷◌, drop, get_or, length, replicate, set, slice_get, Option, Some, None}
use Rattle.yf_comments.specs.Comment.{CommentValue}
use Rattle.yf_events.specs.Event.{EventInText}
use Rattle.yf_events.specs.declared.event.Span.{Span}
use Rattle.yf_events.specs.declared.lists.Lists.{Lists}
use Rattle.yf_forms.specs.declared.form.decide.Form.{Form}
use Rattle.yf_forms.specs.declared.form.measure.Measure.{Measure}
use Rattle.yf_print.specs.declared.trails.Leaf.{Leaf}
use Rattle.yf_print.specs.declared.trails.Trails.{Trails}
use Rattle.yf_forms.specs.Passes.DecidePass.{is_leaf_at}
use Rattle.yf_forms.specs.Passes.Searches.{count_to}
use Rattle.yf_forms.specs.NormalForms.Measures.{no_measure}

-- for each event that begins a leaf the comment that trails it, and for each comment whether it trails a leaf or a key
pub record TrailsSoFar : Type 0 where
  pub of_leaf : List (Option ℕ)
  pub trailing : List Bool

abbrev pub found : Trails → TrailsSoFar
found t = record { of_leaf = t.of_leaf; trailing = t.is_trailing.items }

-- the comments that trail a key

abbrev pub taken : List Bool → Option ℕ → List Bool
taken trailing None = trailing
taken trailing (Some k) = set trailing k true

abbrev pub keys_taken : List Form → List Bool → List Bool
keys_taken [] trailing = trailing
keys_taken (f ∷ fs) trailing = keys_taken fs (taken trailing f.key_comment)

-- The comments that trail a leaf.

-- the comment is before the leaf's end, or on the line on which the last leaf before it ends
abbrev pub is_at_end : ℕ → Bool → Option CommentValue → Bool
is_at_end end on_line None = false
is_at_end end on_line (Some c) = nat_lt c.offset end || on_line

abbrev pub is_at : Lists → ℕ → ℕ → Bool
is_at r end k = is_at_end end (get_or r.on_leaf_line k false) (slice_get r.comments k)

-- the first comment after a leaf, and before the one at index `until`, trails the leaf
abbrev pub trails_leaf : Lists → List Bool → Leaf → ℕ → Bool
trails_leaf r trailing leaf until =
    nat_lt leaf.first until && (not (get_or trailing leaf.first false) && is_at r leaf.end leaf.first)

abbrev pub given_if : Bool → Leaf → TrailsSoFar → TrailsSoFar
given_if true leaf f = record { of_leaf = set f.of_leaf leaf.event (Some leaf.first); trailing = set f.trailing leaf.first true }
given_if false leaf f = f

abbrev pub given : Lists → Option Leaf → ℕ → TrailsSoFar → TrailsSoFar
given r None until f = f
given r (Some leaf) until f = given_if (trails_leaf r f.trailing leaf until) leaf f

-- The leaf that the event at index i begins, and the comments before it, from the last leaf's first comment on.

abbrev pub first_of : Option Leaf → ℕ
first_of None = 0
first_of (Some leaf) = leaf.first

abbrev pub leaf_of : List CommentValue → ℕ → ℕ → Option Span → Option Leaf
leaf_of cs i from None = None
leaf_of cs i from (Some span) = Some (record { event = i; end = span.end; first = from + count_to span.start (drop from cs) })

abbrev pub leaf_if : Bool → List CommentValue → ℕ → ℕ → Option Span → Option Leaf
leaf_if true cs i from span = leaf_of cs i from span
leaf_if false cs i from span = None

abbrev pub is_leaf : List Measure → ℕ → Bool
is_leaf ms i = is_leaf_at i (get_or ms i no_measure).first_leaf

-- the comments found, and the last leaf
pub record TrailState : Type 0 where
  pub found : TrailsSoFar
  pub last : Option Leaf

abbrev pub state : TrailsSoFar → Option Leaf → TrailState
state f last = record { found = f; last = last }

abbrev pub with_leaf : Lists → Option Leaf → TrailState → TrailState
with_leaf r None w = w
with_leaf r (Some leaf) w = state (given r w.last leaf.first w.found) (Some leaf)

abbrev pub next : Lists → List Measure → ℕ → Option Span → TrailState → TrailState
next r ms i span w = with_leaf r (leaf_if (is_leaf ms i) r.comments i (first_of w.last) span) w

unfoldable pub pass : Lists → List Measure → ℕ → List EventInText → TrailState → TrailState
pass r ms i [] w = w
pass r ms i (e ∷ es) w = pass r ms (i + 1) es (next r ms i e.span w)

abbrev pub ended : Lists → TrailState → TrailsSoFar
ended r w = given r w.last (length r.comments) w.found

abbrev pub start : Lists → List Form → TrailState
start r fs =
    state (record { of_leaf = replicate (length r.events) None; trailing = keys_taken fs (replicate (length r.comments) false) }) None

-- the comments found for all events
abbrev pub all_found : Lists → List Measure → List Form → TrailsSoFar
all_found r ms fs = ended r (pass r ms 0 r.events (start r fs))
