-- The relation of a meaning to the rows that it is derived from: each of its comments is well set, and the lines of
-- each row with a block scalar are those of a scalar among its events.
use Rattle.std.proofs.Common.{◌≡◌, ℕ, ◌<◌, ◌≤◌, ◌⊎◌, Bool, false, List, [], ◌∷◌, ◌++◌, length, Option, Some, refl, sym, subst}
use Rattle.std.specs.Str.{IsUtf8}
use Rattle.yf_chars.specs.Text.{code}
use Rattle.yf_lines.specs.Basic.{LineStart}
use Rattle.yf_lines.specs.Rest.{Rest}
use Rattle.yf_comments.specs.Comment.{CommentValue}
use Rattle.yf_comments.specs.Comments.{LineEnd}
use Rattle.yf_comments.specs.GapLines.{gap_then}
use Rattle.yf_props.specs.Props.{PropsValue}
use Rattle.yf_events.specs.Event.{EventValue, EventInText, scalar_node}
use Rattle.yf_events.specs.declared.event.Entry.{Entry}
use Rattle.yf_events.specs.declared.event.ScalarStyle.{ScalarStyle}
use Rattle.yf_events.specs.declared.event.Span.{Span}
pub use Rattle.yf_grammar.specs.Productions.BlockScalar.{LinesBetween}
pub use Rattle.yf_grammar.specs.Productions.BlockScalar.LinesBetween.{counted}
use Rattle.yf_grammar.proofs.Ends.BlankRuns.{ContentBefore}
use Rattle.yf_grammar.specs.Productions.Meaning.{Meaning, ◌⊕◌, meaning_after, noting, empty_node, collection, first_entering, with_props, entering}
use Rattle.yf_forms.specs.Nodes.BlockLines.{block_lines}
use Rattle.yf_forms.specs.Nodes.ContentStart.{content_start}
use Rattle.yf_laws.specs.Layouts.RowComments.{IsDeco}
use Rattle.yf_laws.specs.Layouts.Decorated.{Deco, first, after, past, body_then, end_then, lines_then}
use Rattle.yf_laws.specs.Layouts.ReadableTrees.{FitScalar}
use Rattle.yf_print.specs.Layouts.Rows.{Row, joined}
use Rattle.yf_laws.proofs.Derived.DecoratedLemmas.{lines_append}
use Rattle.yf_laws.proofs.OutputLines.WellSet.{AllSet, row_set, set_append}

-- Scalars.

-- a block scalar in a text, with the lines of a row's body at a column; z are the bytes from its first line on
pub record ScalarAt (t : List ℕ) (event : EventValue) (part : Option Span) (column : ℕ) (body : List (List ℕ)) (z : List ℕ) : Type 0 where
  pub props : PropsValue
  pub style : ScalarStyle
  pub text : List ℕ
  pub lines : List (List ℕ)
  pub is : event ≡ scalar_node props style text
  pub fit : FitScalar style text lines
  pub are : body ≡ block_lines style column text lines
  pub span : Span
  pub part_is : part ≡ Some span
  pub head : ℕ
  pub content : content_start t span props ≡ head
  pub sign : (code t head ≡ 124) ⊎ (code t head ≡ 62)
  pub place : ℕ
  pub rest : Rest t place z
  pub start : LineStart t place
  pub before : head < place
  pub quiet : (h : ℕ) → head < h → h < place → LineStart t h → ⊥
  pub count : ℕ
  pub all : length body ≤ count
  pub reach : LinesBetween t count place span.end

-- an event with its span, among events
pub data Holds (event : EventValue) (part : Option Span) : List EventInText → Type 0 where
  here : {e : EventInText} {es : List EventInText} → e.event ≡ event → e.span ≡ part → Holds event part (e ∷ es)
  there : {e : EventInText} {es : List EventInText} → Holds event part es → Holds event part (e ∷ es)

pub holds_left : {event : EventValue} {part : Option Span} {es : List EventInText} (fs : List EventInText) → Holds event part es → Holds event part (es ++ fs)
holds_left fs (here a b) = here a b
holds_left fs (there a) = there (holds_left fs a)

pub holds_right : {event : EventValue} {part : Option Span} (es : List EventInText) {fs : List EventInText} → Holds event part fs → Holds event part (es ++ fs)
holds_right [] a = a
holds_right (e ∷ es) a = there (holds_right es a)

pub record ScalarHeld (t : List ℕ) (es : List EventInText) (column : ℕ) (body : List (List ℕ)) (z : List ℕ) : Type 0 where
  pub event : EventValue
  pub part : Option Span
  pub among : Holds event part es
  pub scalar : ScalarAt t event part column body z

-- of a row: it has the lines of a block scalar of the events, if it has any
abbrev pub BodyHeld : List ℕ → List EventInText → List (List ℕ) → ℕ → List ℕ → Type 0
BodyHeld t es [] column z = Unit {0}
BodyHeld t es (l ∷ ls) column z = ScalarHeld t es column (l ∷ ls) z

-- the end of a row's text, after a visible character
pub record SeenEnd (t : List ℕ) (z : List ℕ) : Type 0 where
  pub at : ℕ
  pub follows : ContentBefore t at
  pub rest : Rest t at z

pub record RowHeld (t : List ℕ) (es : List EventInText) (x : Row) (d : Deco) (r : List ℕ) : Type 0 where
  pub seen : SeenEnd t (end_then d x.body r)
  pub body : BodyHeld t es x.body x.lines (body_then x.body (gap_then d.gap r))

abbrev pub BodiesHeld : List ℕ → List EventInText → List Row → List Deco → List ℕ → Type 0
BodiesHeld t es [] ds r = Unit {0}
BodiesHeld t es (x ∷ xs) ds r = RowHeld t es x (first ds) (lines_then xs (after ds) r) × BodiesHeld t es xs (after ds) r

-- among more events
body_more : (t : List ℕ) (es fs : List EventInText) (body : List (List ℕ)) (column : ℕ) (z : List ℕ) → ((event : EventValue) (part : Option Span) → Holds event part es → Holds event part fs)
    → BodyHeld t es body column z → BodyHeld t fs body column z
body_more t es fs [] column z f a = tt
body_more t es fs (l ∷ ls) column z f a = record { event = a.event; part = a.part; among = f a.event a.part a.among; scalar = a.scalar }

pub bodies_more : (t : List ℕ) (es fs : List EventInText) (rs : List Row) (ds : List Deco) (r : List ℕ) → ((event : EventValue) (part : Option Span) → Holds event part es → Holds event part fs)
    → BodiesHeld t es rs ds r → BodiesHeld t fs rs ds r
bodies_more t es fs [] ds r f a = tt
bodies_more t es fs (x ∷ xs) ds r f a =
    (record { seen = a.0.seen; body = body_more t es fs x.body x.lines (body_then x.body (gap_then (first ds).gap (lines_then xs (after ds) r))) f a.0.body }, bodies_more t es fs xs (after ds) r f a.1)

-- rows in sequence
pub bodies_append : (t : List ℕ) (es : List EventInText) (xs ys : List Row) (ds : List Deco) (r : List ℕ) → BodiesHeld t es xs ds (lines_then ys (past xs ds) r) → BodiesHeld t es ys (past xs ds) r
    → BodiesHeld t es (xs ++ ys) ds r
bodies_append t es [] ys ds r a b = b
bodies_append t es (x ∷ xs) ys ds r a b =
    (subst (λ z. RowHeld t es x (first ds) z) (sym (lines_append xs ys (after ds) r)) a.0, bodies_append t es xs ys (after ds) r a.1 b)

-- what a row without such lines carries after its text
pub record RowEnded (t : List ℕ) (d : Deco) (r : List ℕ) (cs : List CommentValue) : Type 0 where
  pub seen : SeenEnd t (end_then d [] r)
  pub comments : AllSet t cs

pub row_ended : {t : List ℕ} {q j : ℕ} {cs : List CommentValue} (d : Deco) (r : List ℕ) → IsUtf8 t → ContentBefore t q → IsDeco d → Rest t q (end_then d [] r) → LineEnd t q j cs → RowEnded t d r cs
row_ended {q = q} d r u b a w e = record { seen = record { at = q; follows = b; rest = w }; comments = row_set d [] r u b a w e }

pub bare_row : (t : List ℕ) (es : List EventInText) (x : Row) (d : Deco) (r : List ℕ) → x.body ≡ [] → SeenEnd t (end_then d [] r) → RowHeld t es x d r
bare_row t es x d r e a = record {
  seen = subst (λ b. SeenEnd t (end_then d b r)) (sym e) a;
  body = subst (λ b. BodyHeld t es b x.lines (body_then b (gap_then d.gap r))) (sym e) tt;
}

-- Meanings.

pub record Held (t : List ℕ) (m : Meaning) (rs : List Row) (ds : List Deco) (r : List ℕ) : Type 0 where
  pub comments : AllSet t m.comments
  pub bodies : BodiesHeld t m.events rs ds r

-- this holds for events, with comments beside them
pub record EventsHeld (t : List ℕ) (es : List EventInText) (cs : List CommentValue) (rs : List Row) (ds : List Deco) (r : List ℕ) : Type 0 where
  pub comments : AllSet t cs
  pub bodies : BodiesHeld t es rs ds r

pub empty_silent : (k : ℕ) → (empty_node k).comments ≡ []
unfolding empty_node
empty_silent k = refl

pub entering_silent : (s : ℕ) (c : Option ℕ) (m : Meaning) → m.comments ≡ [] → (entering s c m).comments ≡ []
unfolding entering
entering_silent s c m e = e

-- a node on one line, and what its row carries
pub held_line : {t : List ℕ} (m : Meaning) (cs : List CommentValue) (row : Row) (ds : List Deco) (r : List ℕ) → row.body ≡ [] → m.comments ≡ [] → RowEnded t (first ds) r cs
    → Held t (noting m cs) (row ∷ []) ds r
unfolding noting
held_line {t} m cs row ds r e silent a = record {
  comments = subst (λ w. AllSet t (w ++ cs)) (sym silent) a.comments;
  bodies = (bare_row t m.events row (first ds) r e a.seen, tt);
}

pub held_joined : {t : List ℕ} {m : Meaning} (head : Row) (n : ℕ) (y : Row) (ys : List Row) (ds : List Deco) (r : List ℕ) → Held t m (y ∷ ys) ds r → Held t m (joined head n (y ∷ ys)) ds r
held_joined head n y ys ds r a = record { comments = a.comments; bodies = (record { seen = a.bodies.0.seen; body = a.bodies.0.body }, a.bodies.1) }

entering_holds : {event : EventValue} {part : Option Span} {es : List EventInText} (e : Entry) → Holds event part es → Holds event part (first_entering e es)
entering_holds e (here a b) = here a b
entering_holds e (there a) = there a

pub held_entering : {t : List ℕ} (s : ℕ) (c : Option ℕ) (m : Meaning) (rs : List Row) (ds : List Deco) (r : List ℕ) → Held t m rs ds r → Held t (entering s c m) rs ds r
unfolding entering
held_entering {t} s c m rs ds r a =
    record { comments = a.comments; bodies = bodies_more t _ _ rs ds r (λ event part h. entering_holds (record { start = s; colon = c; blank_before = false }) h) a.bodies }

pub held_both : {t : List ℕ} (m n : Meaning) (xs ys : List Row) (ds : List Deco) (r : List ℕ) → Held t m xs ds (lines_then ys (past xs ds) r) → Held t n ys (past xs ds) r
    → Held t (m ⊕ n) (xs ++ ys) ds r
unfolding ◌⊕◌
held_both {t} m n xs ys ds r a b = record {
  comments = set_append t m.comments n.comments a.comments b.comments;
  bodies = bodies_append t _ xs ys ds r (bodies_more t _ _ xs ds (lines_then ys (past xs ds) r) (λ event part h. holds_left n.events h) a.bodies)
      (bodies_more t _ _ ys (past xs ds) r (λ event part h. holds_right m.events h) b.bodies);
}

-- a key on one line, and its value
pub held_after : {t : List ℕ} (m n : Meaning) (rs : List Row) (ds : List Deco) (r : List ℕ) → m.comments ≡ [] → Held t n rs ds r → Held t (m ⊕ n) rs ds r
unfolding ◌⊕◌
held_after {t} m n rs ds r silent a = record {
  comments = subst (λ w. AllSet t (w ++ n.comments)) (sym silent) a.comments;
  bodies = bodies_more t _ _ rs ds r (λ event part h. holds_right m.events h) a.bodies;
}

pub held_next : {t : List ℕ} (cs : List CommentValue) (m : Meaning) (row : Row) (rs : List Row) (ds : List Deco) (r : List ℕ) → row.body ≡ [] → RowEnded t (first ds) (lines_then rs (after ds) r) cs → Held t m rs (after ds) r
    → Held t (meaning_after cs m) (row ∷ rs) ds r
unfolding meaning_after
held_next {t} cs m row rs ds r e c a =
    record { comments = set_append t cs m.comments c.comments a.comments; bodies = (bare_row t m.events row (first ds) (lines_then rs (after ds) r) e c.seen, a.bodies) }

pub held_collection : {t : List ℕ} (sequence flow : Bool) (p q : ℕ) (m : Meaning) (rs : List Row) (ds : List Deco) (r : List ℕ) → Held t m rs ds r
    → Held t (collection sequence flow p q m) rs ds r
unfolding collection
held_collection {t} sequence flow p q m rs ds r a =
    record { comments = a.comments; bodies = bodies_more t _ _ rs ds r (λ event part h. there (holds_left _ h)) a.bodies }

pub held_collection_with : {t : List ℕ} (props : PropsValue) (o : Option ℕ) (f g : ℕ) (sequence flow : Bool) (p q : ℕ) (m : Meaning) (rs : List Row) (ds : List Deco) (r : List ℕ) → Held t m rs ds r
    → Held t (with_props props o f g (collection sequence flow p q m)) rs ds r
unfolding collection with_props
held_collection_with {t} props o f g sequence flow p q m rs ds r a =
    record { comments = a.comments; bodies = bodies_more t _ _ rs ds r (λ event part h. there (holds_left _ h)) a.bodies }

-- a block scalar
held_body : (t : List ℕ) (es : List EventInText) (body : List (List ℕ)) (column : ℕ) (z : List ℕ) → ScalarHeld t es column body z → BodyHeld t es body column z
held_body t es [] column z a = tt
held_body t es (l ∷ ls) column z a = a

pub held_scalar : {t : List ℕ} (m : Meaning) (row : Row) (ds : List Deco) (r : List ℕ) (column : ℕ) (body : List (List ℕ)) → row.body ≡ body → row.lines ≡ column → AllSet t m.comments
    → SeenEnd t (end_then (first ds) body r) → ScalarHeld t m.events column body (body_then body (gap_then (first ds).gap r)) → Held t m (row ∷ []) ds r
held_scalar {t} m row ds r column body e f set seen a = record {
  comments = set;
  bodies = (
    record {
      seen = subst (λ b. SeenEnd t (end_then (first ds) b r)) (sym e) seen;
      body = subst (λ b. BodyHeld t m.events b row.lines (body_then b (gap_then (first ds).gap r))) (sym e)
          (subst (λ k. BodyHeld t m.events body k (body_then body (gap_then (first ds).gap r))) (sym f) (held_body t m.events body column (body_then body (gap_then (first ds).gap r)) a));
    },
    tt,
  );
}
