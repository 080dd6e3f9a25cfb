-- A text with none, some or all of its hunks applied.
use Rattle.std.proofs.Common.{◌≡◌, ℕ, ◌+◌, ◌-◌, ◌==◌, true, false, Bool, List, [], ◌∷◌, ◌++◌, length, take, drop}
use Rattle.std.proofs.Common.{slice_range, refl, sym, ap, ◌∙◌, append_assoc, length-append, arith, ⊎_elim}
use Rattle.std.proofs.lemmas.Bool.{cases_Bool}
use Rattle.std.proofs.Math.Seq.{drop-append_seam, take-append_seam}
use Rattle.std.proofs.lemmas.List.{drop-drop}
use Rattle.std.proofs.lemmas.List.Folds.{concat-append}
use Rattle.std.specs.List.{concat}
use Rattle.std.specs.Prelude.{map}
use Rattle.yf_diff.specs.Texts.{before_lines, lines_of}
use Rattle.yf_parts.specs.Asked.{has_true}
use Rattle.yf_parts.specs.Hunks.{Differ, alike, differ, Fits, origin, spliced}
use Rattle.yf_parts.specs.declared.hunks.Edge.{Edge}
use Rattle.yf_parts.specs.declared.hunks.Hunk.{Hunk}

joined : (a b c : List (List ℕ)) → concat (a ++ (b ++ c)) ≡ concat a ++ (concat b ++ concat c)
joined a b c = concat-append a (b ++ c) ∙ ap (λ z. concat a ++ z) (concat-append b c)

joined_size : (a b c : List (List ℕ)) → length (concat (a ++ (b ++ c)))
    ≡ length (concat a) + (length (concat b) + length (concat c))
joined_size a b c = ap length (joined a b c) ∙ length-append (concat a) (concat b ++ concat c)
    ∙ ap (λ z. length (concat a) + z) (length-append (concat b) (concat c))

-- the hunks are within the texts
fits_from : {hunks : List Hunk} {at : Edge} {old new : List (List ℕ)} (n m : ℕ) → Differ hunks at old new
    → n ≡ at.offset + length (concat old) → m ≡ at.formatted + length (concat new) → Fits n m at.offset hunks
fits_from n m alike e f = omega arith
fits_from n m (differ {h} {hunks} {at} same gone came {old} {new} s d rest) e f =
    let start : h.start.offset ≡ at.offset + length (concat same) = ap (λ (x : Edge). x.offset) s in
    let start_new : h.start.formatted ≡ at.formatted + length (concat same) = ap (λ (x : Edge). x.formatted) s in
    let end : h.end.offset ≡ h.start.offset + length (concat gone) = ap (λ (x : Edge). x.offset) d in
    let end_new : h.end.formatted ≡ h.start.formatted + length (concat came) = ap (λ (x : Edge). x.formatted) d in
    let all : length (concat (same ++ (gone ++ old)))
    ≡ length (concat same) + (length (concat gone) + length (concat old)) = joined_size same gone old in
    let all_new : length (concat (same ++ (came ++ new)))
    ≡ length (concat same) + (length (concat came) + length (concat new)) = joined_size same came new in (
      record {
        start = omega arith;
        end = omega arith;
        bound = omega arith;
        formatted = omega arith;
        within =
            omega arith;
      },
      fits_from n m rest (omega arith) (omega arith),
    )

-- a part of a text and the bytes after it
record Cut (t : List ℕ) (i j : ℕ) (a rest : List ℕ) : Type 0 where
  part : slice_range t i j ≡ a
  later : drop j t ≡ rest

cut_at : (t a rest : List ℕ) (i j : ℕ) → drop i t ≡ a ++ rest → j ≡ i + length a → Cut t i j a rest
cut_at t a rest i j e f =
    let size : j - i ≡ length a = omega arith in
    record {
      part = ap (λ z. take (j - i) z) e ∙ (ap (λ k. take k (a ++ rest)) size ∙ take-append_seam a rest);
      later = ap (λ k. drop k t) f ∙ (sym (drop-drop (length a) i t)
          ∙ (ap (λ z. drop (length a) z) e ∙ drop-append_seam a rest));
    }

-- all hunks make the formatting
all_from : {hunks : List Hunk} {at : Edge} {old new : List (List ℕ)} (t u : List ℕ) → Differ hunks at old new
    → drop at.offset t ≡ concat old → drop at.formatted u ≡ concat new
    → spliced t u hunks (map (λ _. true) hunks) at.offset ≡ concat new
all_from t u alike e f = e
all_from t u (differ {h} {hunks} {at} same gone came {old} {new} s d rest) e f =
    let before = cut_at t (concat same) (concat gone ++ concat old) at.offset h.start.offset (e
    ∙ joined same gone old) (ap (λ (x : Edge). x.offset) s) in
    let before_new = cut_at u (concat same) (concat came ++ concat new) at.formatted h.start.formatted (f
    ∙ joined same came new) (ap (λ (x : Edge). x.formatted) s) in
    let inside = cut_at t (concat gone) (concat old) h.start.offset h.end.offset before.later
    (ap (λ (x : Edge). x.offset) d) in
    let inside_new = cut_at u (concat came) (concat new) h.start.formatted h.end.formatted before_new.later
    (ap (λ (x : Edge). x.formatted) d) in
    rw (before.part, inside_new.part, all_from t u rest inside.later inside_new.later)
    (append_assoc (concat same) (concat came) (concat new) ∙ sym (joined same came new))

-- no hunk leaves the text as it is
none_from : {hunks : List Hunk} {at : Edge} {old new : List (List ℕ)} (t u : List ℕ) (flags : List Bool)
    → Differ hunks at old new
    → drop at.offset t ≡ concat old → has_true flags ≡ false → spliced t u hunks flags at.offset ≡ concat old
none_from t u flags alike e f = e
none_from t u [] (differ same gone came s d rest) e f = e
none_from t u (true ∷ flags) (differ same gone came s d rest) e f = absurd cc
none_from t u (false ∷ flags) (differ {h} {hunks} {at} same gone came {old} {new} s d rest) e f =
    let before = cut_at t (concat same) (concat gone ++ concat old) at.offset h.start.offset (e
    ∙ joined same gone old) (ap (λ (x : Edge). x.offset) s) in
    let inside = cut_at t (concat gone) (concat old) h.start.offset h.end.offset before.later
    (ap (λ (x : Edge). x.offset) d) in
    rw (before.part, inside.part, none_from t u flags rest inside.later f)
    (append_assoc (concat same) (concat gone) (concat old) ∙ sym (joined same gone old))

before_joined : (c : ℕ) (lines : List (List ℕ)) → concat (before_lines c lines) ≡ c ∷ concat lines
before_joined c [] = refl
before_joined c (line ∷ rest) = refl

-- the lines of a text make it again
pub lines_joined : (t : List ℕ) → concat (lines_of t) ≡ t
lines_joined [] = refl
lines_joined (c ∷ t) =
    ⊎_elim (λ (e : (c == 10) ≡ true). rw e (ap (λ z. c ∷ z) (lines_joined t)))
    (λ (e : (c == 10) ≡ false). rw e (before_joined c (lines_of t) ∙ ap (λ z. c ∷ z) (lines_joined t)))
    (cases_Bool (c == 10))

module _ {hunks : List Hunk} (t u : List ℕ) (differ : Differ hunks origin (lines_of t) (lines_of u)) where
  pub hunks_fit : Fits (length t) (length u) 0 hunks
  hunks_fit =
      let old : length (concat (lines_of t)) ≡ length t = ap length (lines_joined t) in
      let new : length (concat (lines_of u)) ≡ length u = ap length (lines_joined u) in
      let n : length t ≡ 0 + length (concat (lines_of t)) = omega arith in
      let m : length u ≡ 0 + length (concat (lines_of u)) = omega arith in
      fits_from (length t) (length u) differ n m

  pub all_applied : u ≡ spliced t u hunks (map (λ _. true) hunks) 0
  all_applied = sym (all_from t u differ (sym (lines_joined t)) (sym (lines_joined u)) ∙ lines_joined u)

  pub none_applied : (flags : List Bool) → has_true flags ≡ false → t ≡ spliced t u hunks flags 0
  none_applied flags f = sym (none_from t u flags differ (sym (lines_joined t)) f ∙ lines_joined t)
