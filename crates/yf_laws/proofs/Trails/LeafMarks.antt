-- The pass that finds which comments trail inspects only the leaves, in order.
use Rattle.std.proofs.Common.{◌≡◌, ℕ, ◌+◌, ◌<◌, Bool, true, false, ◌&&◌, List, [], ◌∷◌, ◌++◌, length, drop, Option, Some, None, refl, sym, ap, ◌∙◌, arith, append_assoc}
use Rattle.std.specs.Prelude.{nat_lt}
use Rattle.std.specs.List.{list_all}
use Rattle.std.proofs.lemmas.Bool.{and_from}
use Rattle.yf_events.specs.Event.{EventInText}
use Rattle.yf_events.specs.declared.event.Span.{Span}
use Rattle.yf_events.specs.declared.lists.Lists.{Lists}
use Rattle.yf_forms.specs.declared.form.measure.Measure.{Measure}
use Rattle.yf_print.specs.declared.trails.Leaf.{Leaf}
use Rattle.yf_forms.specs.Passes.Searches.{count_to}
use Rattle.yf_print.specs.Passes.TrailPass.{TrailState, first_of, is_leaf, leaf_if, pass, with_leaf}
use Rattle.yf_chars.proofs.Tests.{below}

-- a leaf with characters: the index of the event that begins it, and its span
pub record Mark : Type 0 where
  pub event : ℕ
  pub span : Span

abbrev pub mark : ℕ → Span → Mark
mark event span = record { event = event; span = span }

-- the mark of the event at an index, if it begins a leaf
abbrev pub mark_if : Bool → ℕ → Option Span → List Mark
mark_if true i None = []
mark_if true i (Some span) = mark i span ∷ []
mark_if false i o = []

-- the marks of events from an index on
abbrev pub event_marks : List Measure → ℕ → List EventInText → List Mark
event_marks ms i [] = []
event_marks ms i (e ∷ es) = mark_if (is_leaf ms i) i e.span ++ event_marks ms (i + 1) es

pub marks_append : (ms : List Measure) (i : ℕ) (xs ys : List EventInText) → event_marks ms i (xs ++ ys) ≡ event_marks ms i xs ++ event_marks ms (i + length xs) ys
marks_append ms i [] ys = let n : i ≡ i + 0 = omega arith in ap (λ k. event_marks ms k ys) n
marks_append ms i (x ∷ xs) ys =
    let n : (i + 1) + length xs ≡ i + length (x ∷ xs) = omega arith in
    let mine : List Mark = mark_if (is_leaf ms i) i x.span in
    ap (λ w. mine ++ w) (marks_append ms (i + 1) xs ys ∙ ap (λ k. event_marks ms (i + 1) xs ++ event_marks ms k ys) n)
    ∙ sym (append_assoc mine (event_marks ms (i + 1) xs) (event_marks ms (i + length (x ∷ xs)) ys))

-- past a leaf, and past leaves
abbrev pub leaf_at : Lists → Mark → TrailState → Leaf
leaf_at r l w = record {
  event = l.event;
  end = l.span.end;
  first = first_of w.last + count_to l.span.start (drop (first_of w.last) r.comments);
}

abbrev pub past_mark : Lists → Mark → TrailState → TrailState
past_mark r l w = with_leaf r (Some (leaf_at r l w)) w

abbrev pub past_marks : Lists → List Mark → TrailState → TrailState
past_marks r [] w = w
past_marks r (l ∷ ls) w = past_marks r ls (past_mark r l w)

pub past_more : (r : Lists) (xs ys : List Mark) (w : TrailState) → past_marks r (xs ++ ys) w ≡ past_marks r ys (past_marks r xs w)
past_more r [] ys w = refl
past_more r (x ∷ xs) ys w = past_more r xs ys (past_mark r x w)

one_marked : (r : Lists) (b : Bool) (i : ℕ) (o : Option Span) (w : TrailState) → with_leaf r (leaf_if b r.comments i (first_of w.last) o) w ≡ past_marks r (mark_if b i o) w
one_marked r true i None w = refl
one_marked r true i (Some span) w = refl
one_marked r false i o w = refl

-- the pass over events passes their leaves
pub pass_marks : (r : Lists) (ms : List Measure) (i : ℕ) (es : List EventInText) (w : TrailState) → pass r ms i es w ≡ past_marks r (event_marks ms i es) w
unfolding pass
pass_marks r ms i [] w = refl
pass_marks r ms i (e ∷ es) w =
    ap (λ v. pass r ms (i + 1) es v) (one_marked r (is_leaf ms i) i e.span w)
    ∙ (pass_marks r ms (i + 1) es (past_marks r (mark_if (is_leaf ms i) i e.span) w)
    ∙ sym (past_more r (mark_if (is_leaf ms i) i e.span) (event_marks ms (i + 1) es) w))

-- The events of the marks rise.

abbrev pub not_at : ℕ → List Mark → Bool
not_at j ls = list_all (λ l. nat_lt j l.event) ls

abbrev pub in_order : List Mark → Bool
in_order [] = true
in_order (l ∷ ls) = not_at l.event ls && in_order ls

pub marks_after : (ms : List Measure) (j i : ℕ) (es : List EventInText) → j < i → not_at j (event_marks ms i es) ≡ true
marks_after ms j i [] l = refl
marks_after ms j i (e ∷ es) l = by (is_leaf ms i) e.span (marks_after ms j (i + 1) es (omega (arith, l))) where
  by : (b : Bool) (o : Option Span) → not_at j (event_marks ms (i + 1) es) ≡ true → not_at j (mark_if b i o ++ event_marks ms (i + 1) es) ≡ true
  by true None h = h
  by true (Some span) h = and_from _ _ (below j i l) h
  by false o h = h

pub marks_in_order : (ms : List Measure) (i : ℕ) (es : List EventInText) → in_order (event_marks ms i es) ≡ true
marks_in_order ms i [] = refl
marks_in_order ms i (e ∷ es) = by (is_leaf ms i) e.span (marks_in_order ms (i + 1) es) where
  by : (b : Bool) (o : Option Span) → in_order (event_marks ms (i + 1) es) ≡ true → in_order (mark_if b i o ++ event_marks ms (i + 1) es) ≡ true
  by true None h = h
  by true (Some span) h = and_from _ _ (marks_after ms i (i + 1) es (omega arith)) h
  by false o h = h
