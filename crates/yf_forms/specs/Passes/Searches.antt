-- The results of the searches for comments, in any order of the comments.
use Rattle.std.specs.Prelude.{◌≡◌, ℕ, suc, ◌+◌, Bool, ◌||◌, if◌then◌else◌, is_some, nat_lt, List, [], ◌∷◌, Option, Some, None}
use Rattle.yf_comments.specs.Comment.{CommentValue}
use Rattle.yf_events.specs.Event.{EventInText}
use Rattle.yf_forms.specs.declared.form.measure.Measure.{Measure}
use Rattle.yf_forms.specs.Passes.DecidePass.{is_leaf_at, leaf_start}
use Rattle.yf_forms.specs.Passes.Halving.{HalvesBetween}
use Rattle.yf_forms.specs.NormalForms.Measures.{up_to_greatest}

-- the index of an offset after one and before another, by halving; none without a second offset
abbrev pub HalvesAfter : List ℕ → ℕ → Option ℕ → Option ℕ → Type 0
HalvesAfter offsets from None o = o ≡ None
HalvesAfter offsets from (Some to) o = HalvesBetween offsets (up_to_greatest (from + 1)) to o

-- the offset before which a comment must begin to trail an implicit key, if the value is a leaf or can be kept
abbrev pub trail_limit : List EventInText → ℕ → Measure → Option ℕ
trail_limit es i m = if is_leaf_at i m.first_leaf || m.can_be_kept then leaf_start es m.first_leaf else None

-- whether halving finds an offset at or after one and before another
abbrev pub TellsHalving : List ℕ → ℕ → ℕ → Bool → Type 0
TellsHalving offsets from to b = (o : Option ℕ) → HalvesBetween offsets from to o → b ≡ is_some o

-- the number of comments before an offset, up to the first that is not
abbrev pub count_to : ℕ → List CommentValue → ℕ
count_to offset [] = 0
count_to offset (c ∷ cs) = if nat_lt c.offset offset then suc (count_to offset cs) else 0
