-- Each comment of a formatted text is found, in each reading of it, after as many leaves as when it was printed.
use Rattle.std.proofs.Common.{◌≡◌, ◌≢◌, ℕ, suc, ◌+◌, ◌≤◌, Bool, true, false, List, [], ◌∷◌, ◌++◌, length, map, Option, Some, None, refl, sym, ap, ◌∙◌, subst, arith, zero-add, add-zero, append-nil}
use Rattle.std.specs.List.{All}
use Rattle.std.specs.Str.{IsUtf8}
use Rattle.yf_chars.specs.Text.{code}
use Rattle.yf_comments.specs.Comment.{CommentValue}
use Rattle.yf_events.specs.Event.{EventValue, EventInText, stream_starts, stream_ends, document_starts, document_ends, sequence_starts, sequence_ends, mapping_starts, mapping_ends, scalar_node, alias_node}
use Rattle.yf_events.specs.Reading.{begins_leaf, ends_next, leaf_starts, leaves_before, start_in}
use Rattle.yf_events.specs.Tree.{unplaced}
use Rattle.yf_events.specs.declared.event.Span.{Span}
use Rattle.yf_events.specs.declared.lists.Lists.{Lists}
use Rattle.yf_grammar.specs.Productions.ReadParts.{Noting, no_event, without_entry, with_entry}
use Rattle.yf_grammar.proofs.Documents.CommentOrder.{Ascend, no_more, one_more}
use Rattle.yf_stream.proofs.NodeLaws.{IsVisibleAt}
use Rattle.yf_stream.specs.ReadingOf.{NotedComments, no_comment, one_comment, ReadingOf}
use Rattle.yf_stream.proofs.NodeLawsHold.{nodes_of_readings_begin_visibly}
use Rattle.yf_stream.proofs.Offsets.ReadingOrder.{stream_ascends}
use Rattle.yf_forms.specs.declared.style.Style.{Style}
use Rattle.yf_laws.specs.Layouts.Decorated.{rows_of}
use Rattle.yf_laws.specs.Format.{IsFormatting}
use Rattle.yf_laws.proofs.Derived.LayoutSteps.{Step, steps_of, comments_of}
use Rattle.yf_laws.proofs.Derived.FormatsRead.{formats_laid}
use Rattle.yf_laws.proofs.SameReading.StartsBefore.{AllFrom, none_later, one_later, starts_before, none_before, one_before}
use Rattle.yf_laws.proofs.Derived.StepsInText.{Stand, nothing_is_at, leaf_is_at, comment_is_at}
use Rattle.yf_laws.proofs.Derived.StreamParts.{DocumentsLaid}
use Rattle.yf_print.specs.Layouts.KeptColumns.{columns_of}

-- Leaves and comments from an offset on.

data LaterComments : ℕ → List CommentValue → Type 0 where
  none_from : {o : ℕ} → LaterComments o []
  one_from : {o : ℕ} {c : CommentValue} {cs : List CommentValue} → o ≤ c.offset → LaterComments o cs → LaterComments o (c ∷ cs)

stand_later : {i j : ℕ} {ss : List ℕ} {cs : List CommentValue} {steps : List Step} (o : ℕ) → o ≤ i → Stand i ss cs steps j → AllFrom o ss
stand_later o l (nothing_is_at m) = none_later
stand_later o l (leaf_is_at m a) = one_later (omega (arith, l, m)) (stand_later o (omega (arith, l, m)) a)
stand_later o l (comment_is_at m a) = stand_later o (omega (arith, l, m)) a

stand_from : {i j : ℕ} {ss : List ℕ} {cs : List CommentValue} {steps : List Step} (o : ℕ) → o ≤ i → Stand i ss cs steps j → LaterComments o cs
stand_from o l (nothing_is_at m) = none_from
stand_from o l (leaf_is_at m a) = stand_from o (omega (arith, l, m)) a
stand_from o l (comment_is_at m a) = one_from (omega (arith, l, m)) (stand_from o (omega (arith, l, m)) a)

-- each comment's text, and a number for its offset
abbrev pub told_by : (ℕ → ℕ) → List CommentValue → List (List ℕ × ℕ)
told_by n cs = map (λ c. (c.text, n c.offset)) cs

-- no leaf begins with the sign of a comment
pub data Unsigned (t : List ℕ) : List ℕ → Type 0 where
  no_start : Unsigned t []
  a_start : {s : ℕ} {ss : List ℕ} → code t s ≢ 35 → Unsigned t ss → Unsigned t (s ∷ ss)

-- one more leaf before all of these comments
before_each : {t : List ℕ} {cs : List CommentValue} (n s : ℕ) (ss : List ℕ) → code t s ≢ 35 → LaterComments s cs → (h k : ℕ) → Ascend t h cs k
    → told_by (λ o. n + starts_before (s ∷ ss) o) cs ≡ told_by (λ o. (n + 1) + starts_before ss o) cs
before_each n s ss v none_from h k (no_more m) = refl
before_each {t} n s ss v (one_from {c = c} {cs = cs} l a) h k (one_more m e b) =
    let apart : s ≢ c.offset = λ z. v (ap (code t) z ∙ e.sign) in
    let one : starts_before (s ∷ ss) c.offset ≡ 1 + starts_before ss c.offset = one_before s c.offset ss (omega (arith, l, apart)) in
    let same : n + starts_before (s ∷ ss) c.offset ≡ (n + 1) + starts_before ss c.offset = omega (arith, one) in
    ap (λ z. (c.text, z) ∷ told_by (λ o. n + starts_before (s ∷ ss) o) cs) same
    ∙ ap (λ z. (c.text, (n + 1) + starts_before ss c.offset) ∷ z) (before_each n s ss v a (c.offset + 1) k b)

-- the number from the steps is the number of leaves that begin before each comment
pub stand_told : {t : List ℕ} {i j : ℕ} {ss : List ℕ} {cs : List CommentValue} {steps : List Step} → Stand i ss cs steps j → Unsigned t ss → (h k : ℕ) → Ascend t h cs k → (n : ℕ)
    → told_by (λ o. n + starts_before ss o) cs ≡ comments_of n steps
stand_told (nothing_is_at l) u h k a n = refl
stand_told (leaf_is_at {s = s} {ss = ss} l b) (a_start v u) h k a n = before_each n s ss v (stand_from s (omega arith) b) h k a ∙ stand_told b u h k a (n + 1)
stand_told {ss = ss} (comment_is_at {c = c} {cs = cs} l b) u h k (one_more m e a) n =
    let none : starts_before ss c.offset ≡ 0 = none_before (stand_later c.offset (omega arith) b) in
    ap (λ z. (c.text, n + z) ∷ told_by (λ o. n + starts_before ss o) cs) none
    ∙ (ap (λ z. (c.text, z) ∷ told_by (λ o. n + starts_before ss o) cs) (add-zero n) ∙ ap (λ z. (c.text, n) ∷ z) (stand_told b u (c.offset + 1) k a n))

-- Readings.

noting_ends : {t : List ℕ} {floor : ℕ} {xs ys : List EventInText} → Noting t floor xs ys → ends_next xs ≡ ends_next ys
noting_ends no_event = refl
noting_ends (without_entry e a) = refl
noting_ends (with_entry entry e n a) = refl

same_leaf : (v : EventValue) (xs ys : List EventInText) → ends_next xs ≡ ends_next ys → begins_leaf v xs ≡ begins_leaf v ys
same_leaf stream_starts xs ys e = refl
same_leaf stream_ends xs ys e = refl
same_leaf (document_starts marked) xs ys e = refl
same_leaf (document_ends marked) xs ys e = refl
same_leaf (sequence_starts flow props) xs ys e = e
same_leaf sequence_ends xs ys e = refl
same_leaf (mapping_starts flow props) xs ys e = e
same_leaf mapping_ends xs ys e = refl
same_leaf (scalar_node props style text) xs ys e = refl
same_leaf (alias_node name) xs ys e = refl

noting_starts : {t : List ℕ} {floor : ℕ} {xs ys : List EventInText} → Noting t floor xs ys → leaf_starts xs ≡ leaf_starts ys
noting_starts no_event = refl
noting_starts (without_entry {e = e} {x = x} {y = y} q a) =
    ap (λ b. start_in b e.span ++ leaf_starts x) (same_leaf e.event x y (noting_ends a)) ∙ ap (λ z. start_in (begins_leaf e.event y) e.span ++ z) (noting_starts a)
noting_starts (with_entry {e = e} {x = x} {y = y} entry q n a) =
    ap (λ b. start_in b e.span ++ leaf_starts x) (same_leaf e.event x y (noting_ends a)) ∙ ap (λ z. start_in (begins_leaf e.event y) e.span ++ z) (noting_starts a)

pub noted_told : {t : List ℕ} {es : List EventInText} {x y : List CommentValue} (n : ℕ → ℕ) → NotedComments t es x y
    → told_by n x ≡ told_by n y
noted_told n no_comment = refl
noted_told n (one_comment {c = c} m a) = ap (λ z. (c.text, n c.offset) ∷ z) (noted_told n a)

-- no leaf of a reading begins with the sign of a comment
starts_unsigned : {t : List ℕ} (es : List EventInText) → All (λ (e : EventInText). (s : Span) → e.span ≡ Some s → IsVisibleAt t s.start) es → Unsigned t (leaf_starts es)
starts_unsigned [] a = no_start
starts_unsigned {t} (e ∷ es) a = go (begins_leaf e.event es) e.span refl (starts_unsigned es (λ k d l. a (suc k) d (omega (arith, l)))) where
  go : (b : Bool) (o : Option Span) → e.span ≡ o → Unsigned t (leaf_starts es) → Unsigned t (start_in b o ++ leaf_starts es)
  go true (Some s) q u = a_start (a 0 e (omega arith) s q).no_hash u
  go true None q u = u
  go false (Some s) q u = u
  go false None q u = u

-- for a text with the leaves and comments of its documents in the order of steps
pub reading_told : {t : List ℕ} {j : ℕ} {q : Lists} {steps : List Step} → IsUtf8 t → (a : ReadingOf t q) → DocumentsLaid 0 j a.derived steps
    → told_by (leaves_before q) q.comments ≡ comments_of 0 steps
reading_told {t} {j} {q} {steps} u a laid =
    let between : leaf_starts q.events ≡ leaf_starts (a.derived_events ++ (unplaced stream_ends ∷ [])) = sym (noting_starts a.noted) in
    let same : leaf_starts q.events ≡ laid.starts = between ∙ (laid.are (unplaced stream_ends ∷ []) a.events ∙ append-nil laid.starts) in
    let unsigned : Unsigned t laid.starts = subst (λ ss. Unsigned t ss) same (starts_unsigned q.events (nodes_of_readings_begin_visibly t q u a)) in
    let counted : told_by (λ o. 0 + starts_before laid.starts o) a.derived.comments ≡ comments_of 0 steps =
    stand_told laid.stand unsigned 0 (length t) (stream_ascends a.reads.shapes.derived) 0 in
    let bare : told_by (λ o. 0 + starts_before (leaf_starts q.events) o) q.comments ≡ comments_of 0 steps =
    sym (noted_told (λ o. 0 + starts_before (leaf_starts q.events) o) a.comments)
    ∙ (ap (λ ss. told_by (λ o. 0 + starts_before ss o) a.derived.comments) same ∙ counted) in
    sym (without_zero q.comments) ∙ bare where
      without_zero : (cs : List CommentValue) → told_by (λ o. 0 + starts_before (leaf_starts q.events) o) cs
          ≡ told_by (leaves_before q) cs
      without_zero [] = refl
      without_zero (c ∷ cs) =
          ap (λ z. (c.text, z) ∷ told_by (λ o. 0 + starts_before (leaf_starts q.events) o) cs) (zero-add (leaves_before q c.offset))
          ∙ ap (λ z. (c.text, leaves_before q c.offset) ∷ z) (without_zero cs)

-- for a formatted text
pub found_again : (t u : List ℕ) (s : Style) (q : Lists) → IsUtf8 t → (f : IsFormatting t s u) → ReadingOf u q
    → told_by (leaves_before q) q.comments ≡ comments_of 0 (steps_of (columns_of t s (rows_of f.normal s f.writes.trees)) f.normal (rows_of f.normal s f.writes.trees))
found_again t u s q utf8 f a =
    let all = formats_laid t u s utf8 f in
    let shapes = a.reads.shapes in
    let derived : a.derived ≡ all.well.documents = all.well.reads.shapes.only shapes.height a.derived shapes.derived shapes.within in
    reading_told all.well.utf8 a (subst (λ x. DocumentsLaid 0 (length u) x (steps_of (columns_of t s (rows_of f.normal s f.writes.trees)) f.normal (rows_of f.normal s f.writes.trees))) (sym derived) all.laid)
