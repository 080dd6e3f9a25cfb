-- The hunks between two texts make the changes between them.
use Rattle.std.proofs.Common.{◌≡◌, ◌⊎◌, ℕ, ◌+◌, ◌<◌, ◌==◌, true, false, List, [], ◌∷◌, ◌++◌, length, map}
use Rattle.std.proofs.Common.{take, drop, slice_range, get_or}
use Rattle.std.proofs.Common.{refl, sym, ap, subst, ◌∙◌, append_assoc, length-append, arith, ⊎_elim, inl, inr, add-one}
use Rattle.std.proofs.lemmas.Bool.{cases_Bool, eqb-true}
use Rattle.std.proofs.lemmas.List.{drop_more, take_more}
use Rattle.std.proofs.lemmas.List.Folds.{concat-append}
use Rattle.std.proofs.lemmas.Str.{IsCharBoundary-start, IsCharBoundary-end, IsCharBoundary-after_ascii}
use Rattle.std.specs.List.{concat}
use Rattle.std.specs.Prelude.{slice_index}
use Rattle.std.specs.Str.{IsCharBoundary, IsUtf8}
use Rattle.yf_diff.specs.Texts.{before_lines, lines_of}
use Rattle.yf_findings.specs.Changes.{AreChanges, AreCut, ChangeOf, ChangesOf, Changed, IsLineEdge}
use Rattle.yf_findings.specs.Changes.Changed.{no_change, one_change}
use Rattle.yf_findings.specs.Changes.ChangesOf.{no_hunk, one_hunk}
use Rattle.yf_findings.specs.Changes.IsLineEdge.{at_start, after_feed, at_end}
use Rattle.yf_findings.specs.declared.changes.Change.{Change}
use Rattle.yf_parts.proofs.SpliceLemmas.{all_applied, hunks_fit, lines_joined}
use Rattle.yf_parts.specs.Hunks.{Differ, alike, differ, Fits, origin, spliced}
use Rattle.yf_parts.specs.declared.hunks.Edge.{Edge}
use Rattle.yf_parts.specs.declared.hunks.Hunk.{Hunk}

-- ---- where lines begin and end

pub edge_boundary : {t : List ℕ} {i : ℕ} → IsUtf8 t → IsLineEdge t i → IsCharBoundary t i
edge_boundary {t} u (at_start e) = subst (IsCharBoundary t) (sym e) (IsCharBoundary-start t u)
edge_boundary {t} u (after_feed k e within feed) =
    subst (IsCharBoundary t) (sym e) (IsCharBoundary-after_ascii t k u within (omega (arith, feed)))
edge_boundary {t} u (at_end e) = subst (IsCharBoundary t) (sym e) (IsCharBoundary-end t)

-- the offset is after a line of the text
abbrev AfterLine : List ℕ → ℕ → Type 0
AfterLine t i = (i ≡ length t) ⊎ ((k : ℕ) × (i ≡ k + 1) × (k < length t) × (slice_index t k ≡ 10))

later : (c : ℕ) (t : List ℕ) (i j : ℕ) → j ≡ i + 1 → AfterLine t i → AfterLine (c ∷ t) j
later c t i j e (inl end) = inl (omega arith)
later c t i j e (inr d) =
    inr (d.0 + 1, omega (arith, d.1), omega (arith, d.2), rw add-one d.3)

rest_of : List (List ℕ) → List (List ℕ)
rest_of [] = []
rest_of (line ∷ lines) = lines

heads : {x y : List ℕ} {xs ys : List (List ℕ)} → x ∷ xs ≡ y ∷ ys → x ≡ y
heads e = ap (λ z. get_or z 0 []) e

tails : {x y : List ℕ} {xs ys : List (List ℕ)} → x ∷ xs ≡ y ∷ ys → xs ≡ ys
unfolding rest_of
tails e = ap rest_of e

sizes : (line : List ℕ) (lines : List (List ℕ)) → length (concat (line ∷ lines)) ≡ length line + length (concat lines)
sizes line lines = length-append line (concat lines)

no_more : {x : List ℕ} {xs : List (List ℕ)} → [] ≡ x ∷ xs → ⊥
no_more e = absurd cc

abbrev AfterEach : List ℕ → Type 0
AfterEach t = (line : List ℕ) (front rest : List (List ℕ)) → lines_of t ≡ line ∷ (front ++ rest)
    → AfterLine t (length (concat (line ∷ front)))

after_feeds : (c : ℕ) (t line : List ℕ) (front rest : List (List ℕ)) → AfterEach t → (c == 10) ≡ true
    → (c ∷ []) ∷ lines_of t ≡ line ∷ (front ++ rest) → AfterLine (c ∷ t) (length (concat (line ∷ front)))
after_feeds c t line [] rest each f e =
    let size : length line ≡ 1 = ap length (sym (heads e)) in
    inr (0, omega (arith, size, sizes line []), omega arith, eqb-true c 10 f)
after_feeds c t line (next ∷ front) rest each f e =
    let size : length line ≡ 1 = ap length (sym (heads e)) in
    later c t (length (concat (next ∷ front))) _ (omega (arith, size, sizes line (next ∷ front)))
    (each next front rest (tails e))

after_other : (c : ℕ) (t line : List ℕ) (front rest lines : List (List ℕ)) → AfterEach t → lines_of t ≡ lines
    → before_lines c lines ≡ line ∷ (front ++ rest) → AfterLine (c ∷ t) (length (concat (line ∷ front)))
after_other c t line [] rest [] each same e =
    let size : length line ≡ 1 = ap length (sym (heads e)) in
    let empty : length t ≡ 0 = ap length (sym (lines_joined t) ∙ ap concat same) in
    inl (omega (arith, size, empty, sizes line []))
after_other c t line (next ∷ front) rest [] each same e = absurd (no_more (tails e))
after_other c t line front rest (first ∷ lines) each same e =
    let size : length line ≡ length first + 1 = ap length (sym (heads e)) ∙ omega arith in
    later c t (length (concat (first ∷ front))) _ (omega (arith, size, sizes line front, sizes first front))
    (each first front rest (same ∙ ap (λ z. first ∷ z) (tails e)))

-- the offset after the first lines of a text
after_lines : (t : List ℕ) → AfterEach t
after_lines [] line front rest e = absurd cc
after_lines (c ∷ t) line front rest e =
    ⊎_elim (λ (f : (c == 10) ≡ true). after_feeds c t line front rest (after_lines t) f (rw f at e))
    (λ (f : (c == 10) ≡ false). after_other c t line front rest (lines_of t) (after_lines t) refl (rw f at e))
    (cases_Bool (c == 10))

line_edge : (t : List ℕ) (front rest : List (List ℕ)) (i : ℕ) → lines_of t ≡ front ++ rest → i ≡ length (concat front)
    → IsLineEdge t i
line_edge t [] rest i e same = at_start same
line_edge t (line ∷ front) rest i e same =
    ⊎_elim (λ (end : length (concat (line ∷ front)) ≡ length t). at_end (same ∙ end))
    (λ (d : (k : ℕ) × (length (concat (line ∷ front)) ≡ k + 1) × (k < length t) × (slice_index t k ≡ 10)).
    after_feed d.0 (same ∙ d.1) d.2 d.3)
    (after_lines t line front rest e)

-- ---- the hunks between two texts

joined_more : (a b c all : List (List ℕ)) → all ≡ a ++ (b ++ c) → all ≡ (a ++ b) ++ c
joined_more a b c all e = e ∙ sym (append_assoc a b c)

sizes_more : (a b : List (List ℕ)) (i j : ℕ) → i ≡ length (concat a) → j ≡ i + length (concat b)
    → j ≡ length (concat (a ++ b))
sizes_more a b i j e f = omega (arith, e, f, ap length (concat-append a b), length-append (concat a) (concat b))

-- (before, new_before: the lines of both texts before the edge)
cut_from : {hunks : List Hunk} {at : Edge} {old new : List (List ℕ)} (t u : List ℕ) (before new_before : List (List ℕ))
    → IsUtf8 t → IsUtf8 u → Differ hunks at old new → lines_of t ≡ before ++ old → lines_of u ≡ new_before ++ new
    → at.offset ≡ length (concat before) → at.formatted ≡ length (concat new_before) → AreCut t u hunks
cut_from t u before new_before old_utf8 utf8 alike e f a b = tt
cut_from t u before new_before old_utf8 utf8 (differ {h} {hunks} {at} same gone came {old} {new} s d rest) e f a b =
    let start : h.start.offset ≡ at.offset + length (concat same) = ap (λ (x : Edge). x.offset) s in
    let start_new : h.start.formatted ≡ at.formatted + length (concat same) = ap (λ (x : Edge). x.formatted) s in
    let end : h.end.offset ≡ h.start.offset + length (concat gone) = ap (λ (x : Edge). x.offset) d in
    let end_new : h.end.formatted ≡ h.start.formatted + length (concat came) = ap (λ (x : Edge). x.formatted) d in
    let e1 = joined_more before same (gone ++ old) (lines_of t) e in
    let f1 = joined_more new_before same (came ++ new) (lines_of u) f in
    let e2 = joined_more (before ++ same) gone old (lines_of t) e1 in
    let f2 = joined_more (new_before ++ same) came new (lines_of u) f1 in
    let a1 = sizes_more before same at.offset h.start.offset a start in
    let b1 = sizes_more new_before same at.formatted h.start.formatted b start_new in
    let a2 = sizes_more (before ++ same) gone h.start.offset h.end.offset a1 end in
    let b2 = sizes_more (new_before ++ same) came h.start.formatted h.end.formatted b1 end_new in
    let first = line_edge t (before ++ same) (gone ++ old) h.start.offset e1 a1 in
    let last = line_edge t ((before ++ same) ++ gone) old h.end.offset e2 a2 in (
      record {
        first = first;
        last = last;
        old_first = edge_boundary old_utf8 first;
        old_last = edge_boundary old_utf8 last;
        order = omega arith;
        new_first = edge_boundary utf8 (line_edge u (new_before ++ same) (came ++ new) h.start.formatted f1 b1);
        new_last = edge_boundary utf8 (line_edge u ((new_before ++ same) ++ came) new h.end.formatted f2 b2);
        new_order = omega arith;
      },
      cut_from t u ((before ++ same) ++ gone) ((new_before ++ same) ++ came) old_utf8 utf8 rest e2 f2 a2 b2,
    )

pub hunks_cut : {hunks : List Hunk} (t u : List ℕ) → IsUtf8 t → IsUtf8 u → Differ hunks origin (lines_of t) (lines_of u)
    → AreCut t u hunks
hunks_cut t u old_utf8 utf8 d = cut_from t u [] [] old_utf8 utf8 d refl refl refl refl

-- the hunks after an index
pub later_cut : (t u : List ℕ) (hunks : List Hunk) (k : ℕ) → k < length hunks → AreCut t u (drop k hunks)
    → AreCut t u (drop (k + 1) hunks)
later_cut t u hunks k within cut =
    let nothing : Hunk = record { start = origin; end = origin } in
    let both : AreCut t u (get_or hunks k nothing ∷ drop (k + 1) hunks) = subst (AreCut t u)
    (drop_more hunks k nothing within) cut in
    both.1

-- ---- their changes

one_more_change : {t u : List ℕ} {hunks : List Hunk} {cs : List Change} {h : Hunk} {c : Change} → ChangesOf t u hunks cs
    → ChangeOf t u h c → ChangesOf t u (hunks ++ h ∷ []) (cs ++ c ∷ [])
one_more_change no_hunk last = one_hunk last no_hunk
one_more_change (one_hunk first rest) last = one_hunk first (one_more_change rest last)

pub one_more_of : {t u : List ℕ} {cs ds : List Change} {c : Change} (hunks : List Hunk) (k : ℕ) (d : Hunk)
    → k < length hunks
    → ChangesOf t u (take k hunks) cs → ChangeOf t u (get_or hunks k d) c → ds ≡ cs ++ c ∷ []
    → ChangesOf t u (take (k + 1) hunks) ds
one_more_of {t} {u} {cs} {ds} {c} hunks k d within before last e =
    subst (λ z. ChangesOf t u z ds) (sym (take_more hunks k d within))
    (subst (ChangesOf t u (take k hunks ++ get_or hunks k d ∷ [])) (sym e) (one_more_change before last))

pub no_more_hunks : (t u : List ℕ) (cs : List Change) → cs ≡ [] → ChangesOf t u [] cs
no_more_hunks t u cs e = subst (ChangesOf t u []) (sym e) no_hunk

changed_from : {t u : List ℕ} {hunks : List Hunk} {cs : List Change} (n m i : ℕ) → Fits n m i hunks
    → ChangesOf t u hunks cs
    → Changed t i cs (spliced t u hunks (map (λ _. true) hunks) i)
changed_from n m i fits no_hunk = no_change refl
changed_from {t} {u} n m i fits (one_hunk {h} {hunks} {c} {cs} first rest) =
    let v = spliced t u hunks (map (λ _. true) hunks) h.end.offset in
    one_change h.start.offset h.end.offset fits.0.start first.range (changed_from n m h.end.offset fits.1 rest)
    (append_assoc (slice_range t i h.start.offset) (slice_range u h.start.formatted h.end.formatted) v
    ∙ ap (λ z. slice_range t i h.start.offset ++ (z ++ v)) (sym first.text))

nothing_changed : {t u : List ℕ} {cs : List Change} → cs ≡ [] → Changed t 0 cs u → t ≡ u
nothing_changed none (no_change e) = sym e
nothing_changed none (one_change start end from lines rest e) = absurd cc

pub no_changes : (t u : List ℕ) (cs : List Change) → t ≡ u → cs ≡ [] → AreChanges t u cs
no_changes t u cs same none = record {
  made = subst (λ z. Changed t 0 z u) (sym none) (no_change (sym same));
  none = ((λ e. none), λ e. same);
}

pub all_changes : {hunks : List Hunk} (t u : List ℕ) (cs : List Change) → (t ≡ u → ⊥)
    → Differ hunks origin (lines_of t) (lines_of u) → ChangesOf t u hunks cs → AreChanges t u cs
all_changes {hunks} t u cs other d of =
    let made = subst (λ z. Changed t 0 cs z) (sym (all_applied t u d))
    (changed_from (length t) (length u) 0 (hunks_fit t u d) of) in
    record { made = made; none = ((λ e. absurd (other e)), λ e. nothing_changed e made) }
