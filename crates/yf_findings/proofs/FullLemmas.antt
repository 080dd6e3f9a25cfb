-- The rows of a change, one after another, and the walk over the problems of an input.
use Rattle.std.proofs.Common.{◌≡◌, ◌++◌, ◌∷◌, ◌∙◌, ◌+◌, ◌-◌, ◌<◌, ◌≤◌, ◌==◌, ℕ, zero, suc, List, [], Bool, true, false}
use Rattle.std.proofs.Common.{length, drop, get_or, refl, ap, arith, append_assoc, append-nil, subst, sym}
use Rattle.std.proofs.lemmas.Bool.{eqb-true, true≢false}
use Rattle.std.proofs.lemmas.List.{drop_more}
use Rattle.std.specs.Prelude.{Result, OnOk}
use Rattle.yf_findings.specs.Full.{problem_pieces, walk}
use Rattle.yf_findings.specs.FullChanges.{after_line, due_after, due_before, due_pieces, first_line, left_at, more_row}
use Rattle.yf_findings.specs.FullChanges.{row, row_text, rows}
use Rattle.yf_findings.specs.declared.changes.Change.{Change}
use Rattle.yf_findings.specs.declared.owned.OwnedProblem.{OwnedProblem}
use Rattle.yf_findings.specs.declared.pieces.Piece.{Piece}

-- no rows, the last row, and the first one of more rows
rows_none : (n : ℕ) (cs : List ℕ) → length cs ≡ 0 → rows n cs ≡ []
unfolding rows
rows_none zero [] h = refl
rows_none (suc n) [] h = refl
rows_none zero (c ∷ cs) h = absurd (omega (arith, h))
rows_none (suc n) (c ∷ cs) h = absurd (omega (arith, h))

rows_last : (cs : List ℕ) → rows 0 cs ≡ more_row cs
unfolding rows
rows_last cs = refl

rows_more : (n : ℕ) (cs : List ℕ) → (length cs == 0) ≡ false
    → rows (suc n) cs ≡ row (row_text (first_line cs)) ++ rows n (after_line cs)
unfolding rows
rows_more n [] h = absurd (true≢false h)
rows_more n (c ∷ cs) h = refl

-- a loop over the lines, at its end and after one more line
pub no_rows : (n : ℕ) (cs : List ℕ) (old whole : List Piece) → (length cs == 0) ≡ true → old ++ rows n cs ≡ whole
    → old ≡ whole
no_rows n cs old whole h before =
    sym (append-nil old) ∙ ap (λ x. old ++ x) (sym (rows_none n cs (eqb-true (length cs) 0 h))) ∙ before

pub last_row : {A E : Type 0} (r : Result A E) (n : ℕ) (cs : List ℕ) (old new whole : List Piece) → n ≤ 0
    → old ++ rows n cs ≡ whole → OnOk r (new ≡ old ++ more_row cs) → OnOk r (new ≡ whole)
last_row r n cs old new whole h before added =
    let none : n ≡ 0 = omega (arith, h) in
    let last = sym (ap (λ k. rows k cs) none ∙ rows_last cs) in
    subst (λ x. OnOk r (new ≡ x)) (ap (λ x. old ++ x) last ∙ before) added

pub next_row : (n : ℕ) (cs line rest : List ℕ) (old new whole : List Piece) → 0 < n → (length cs == 0) ≡ false
    → old ++ rows n cs ≡ whole → new ≡ old ++ row (row_text line) → line ≡ first_line cs → rest ≡ after_line cs
    → new ++ rows (n - 1) rest ≡ whole
next_row n cs line rest old new whole h some before added first after =
    let more : n ≡ suc (n - 1) = omega (arith, h) in
    let shown = row (row_text (first_line cs)) in
    let later = rows (n - 1) (after_line cs) in
    ap (λ x. new ++ rows (n - 1) x) after
    ∙ ap (λ x. x ++ later) (added ∙ ap (λ x. old ++ row (row_text x)) first)
    ∙ append_assoc old shown later
    ∙ ap (λ x. old ++ x) (sym (ap (λ k. rows k cs) more ∙ rows_more (n - 1) cs some))
    ∙ before

-- a walk after one more problem
pub walk_step : (name : List ℕ) (due before_it now : Bool) (k : ℕ) (ps : List OwnedProblem) (p : OwnedProblem)
    (left rest : List Change) (old shown new whole : List Piece)
    → k < length ps → p ≡ get_or ps k p → old ++ walk name due (drop k ps) left ≡ whole
    → before_it ≡ due_before due p left → shown ≡ old ++ due_pieces before_it left
    → new ≡ shown ++ problem_pieces name p → now ≡ due_after due p left → rest ≡ left_at p.range.line left
    → new ++ walk name now (drop (k + 1) ps) rest ≡ whole
walk_step name due before_it now k ps p left rest old shown new whole h is before b e f d l =
    let over = due_pieces (due_before due p left) left in
    let later = walk name (due_after due p left) (drop (k + 1) ps) (left_at p.range.line left) in
    let one = ap (λ q. q ∷ drop (k + 1) ps) is ∙ sym (drop_more ps k p h) in
    ap (λ x. new ++ walk name x (drop (k + 1) ps) rest) d
    ∙ ap (λ x. new ++ walk name (due_after due p left) (drop (k + 1) ps) x) l
    ∙ ap (λ x. x ++ later) (f ∙ ap (λ x. x ++ problem_pieces name p) (e ∙ ap (λ x. old ++ due_pieces x left) b))
    ∙ append_assoc (old ++ over) (problem_pieces name p) later
    ∙ append_assoc old over (problem_pieces name p ++ later)
    ∙ ap (λ x. old ++ walk name due x left) one
    ∙ before
