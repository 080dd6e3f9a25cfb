-- The steps, in the code, of the pass that finds the comments that trail.
use Rattle.std.proofs.Common.{◌≡◌, ℕ, zero, suc, ◌+◌, ◌≤◌, Bool, true, false, List, [], ◌∷◌, length, map, get_or, drop, Option, None, Some, refl, sym, ap, ◌∙◌, add-one, arith}
use Rattle.std.specs.Prelude.{◌&&◌, nat_lt, not, slice_get}
use Rattle.std.proofs.lemmas.Bool.Decides.{nat_tests}
use Rattle.std.proofs.lemmas.List.{drop_all}
use Rattle.yf_comments.specs.Comment.{CommentValue}
use Rattle.yf_events.specs.Event.{EventInText}
use Rattle.yf_events.specs.declared.event.Span.{Span}
use Rattle.yf_events.specs.declared.lists.Lists.{Lists}
use Rattle.yf_forms.specs.declared.form.decide.Form.{Form}
use Rattle.yf_forms.specs.declared.form.measure.Measure.{Measure}
use Rattle.yf_forms.specs.Passes.Searches.{count_to}
use Rattle.yf_print.specs.Passes.TrailPass.{TrailsSoFar, TrailState, all_found, ended, first_of, given, given_if, is_at, is_leaf, leaf_if, next, pass, start, state, with_leaf}
use Rattle.yf_print.specs.declared.trails.Leaf.{Leaf}

step_at : (r : Lists) (ms : List Measure) (n i : ℕ) (es : List EventInText) (s : Option Span) (w : TrailState) → slice_get (map (λ e. e.span) es) i ≡ Some s
    → pass r ms n (drop i es) w ≡ pass r ms (n + 1) (drop (suc i) es) (next r ms n s w)
unfolding pass
step_at r ms n i [] s w h = absurd cc
step_at r ms n zero (e ∷ es) s w h = let same : e.span ≡ s = cc in ap (λ v. pass r ms (n + 1) es (next r ms n v w)) same
step_at r ms n (suc i) (e ∷ es) s w h = step_at r ms n i es s w h

pub passed_on : (r : Lists) (ms : List Measure) (i : ℕ) (es : List EventInText) (s : Option Span) (w new all : TrailState)
    → slice_get (map (λ e. e.span) es) i ≡ Some s → new ≡ next r ms i s w → pass r ms i (drop i es) w ≡ all
    → pass r ms (i + 1) (drop (i + 1) es) new ≡ all
passed_on r ms i es s w new all h n g =
    ap (pass r ms (i + 1) (drop (i + 1) es)) n
    ∙ (ap (λ m. pass r ms (i + 1) (drop m es) (next r ms i s w)) (add-one i) ∙ (sym (step_at r ms i i es s w h) ∙ g))

pub passed_end : (r : Lists) (ms : List Measure) (i : ℕ) (es : List EventInText) (w all : TrailState) → length es ≤ i → pass r ms i (drop i es) w ≡ all → w ≡ all
unfolding pass
passed_end r ms i es w all l h = ap (λ v. pass r ms i v w) (sym (drop_all i es l)) ∙ h

-- If no comment follows the last leaf, nothing more is found.

none_left : (cs : List CommentValue) (from offset : ℕ) → length cs ≤ from → from + count_to offset (drop from cs) ≡ from
none_left cs from offset l =
    let none : count_to offset (drop from cs) ≡ 0 = ap (count_to offset) (drop_all from cs l) in
    omega arith

gives_none : (r : Lists) (last : Option Leaf) (until : ℕ) (f : TrailsSoFar) → until ≤ first_of last → given r last until f ≡ f
gives_none r None until f l = refl
gives_none r (Some leaf) until f l =
    let follows : nat_lt leaf.first until ≡ false = grind (arith, nat_tests) in
    ap (λ b. given_if (b && (not (get_or f.trailing leaf.first false) && is_at r leaf.end leaf.first)) leaf f) follows

finds_none : (r : Lists) (b : Bool) (i : ℕ) (s : Option Span) (w : TrailState) → length r.comments ≤ first_of w.last
    → (with_leaf r (leaf_if b r.comments i (first_of w.last) s) w).found ≡ w.found
finds_none r false i s w l = refl
finds_none r true i None w l = refl
finds_none r true i (Some span) w l =
    let same = none_left r.comments (first_of w.last) span.start l in
    gives_none r w.last (first_of w.last + count_to span.start (drop (first_of w.last) r.comments)) w.found (omega arith)

stays_after : (r : Lists) (b : Bool) (i : ℕ) (s : Option Span) (w : TrailState) → length r.comments ≤ first_of w.last
    → length r.comments ≤ first_of (with_leaf r (leaf_if b r.comments i (first_of w.last) s) w).last
stays_after r false i s w l = l
stays_after r true i None w l = l
stays_after r true i (Some span) w l =
    let same = none_left r.comments (first_of w.last) span.start l in
    omega arith

settled : (r : Lists) (ms : List Measure) (i : ℕ) (es : List EventInText) (w : TrailState) → length r.comments ≤ first_of w.last
    → ended r (pass r ms i es w) ≡ w.found
unfolding pass
settled r ms i [] w l = gives_none r w.last (length r.comments) w.found l
settled r ms i (e ∷ es) w l =
    settled r ms (i + 1) es (next r ms i e.span w) (stays_after r (is_leaf ms i) i e.span w l) ∙ finds_none r (is_leaf ms i) i e.span w l

pub settled_at : (r : Lists) (ms : List Measure) (fs : List Form) (i : ℕ) (f : TrailsSoFar) (last : Option Leaf) → length r.comments ≤ first_of last
    → pass r ms i (drop i r.events) (state f last) ≡ pass r ms 0 r.events (start r fs) → f ≡ all_found r ms fs
settled_at r ms fs i f last l h = sym (settled r ms i (drop i r.events) (state f last) l) ∙ ap (ended r) h
