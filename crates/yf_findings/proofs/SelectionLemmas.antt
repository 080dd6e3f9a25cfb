-- The first problems of several inputs.
use Rattle.std.proofs.Common.{◌≡◌, ℕ, zero, suc, ◌-◌, ◌<◌, ◌≤◌, List, [], ◌∷◌, ◌++◌, ap, length, map, take, sym, subst, ◌∙◌, refl, arith}
use Rattle.std.proofs.Common.{⊎_elim}
use Rattle.std.proofs.lemmas.Bool.{cases_lt}
use Rattle.std.proofs.Math.Seq.{take-nil}
use Rattle.std.specs.Prelude.{◌==◌, Bool, true, false, if◌then◌else◌}
use Rattle.std.specs.List.{filter, flat_map, list_all}
use Rattle.std.proofs.lemmas.List.{length-map, take-map}
use Rattle.std.proofs.lemmas.List.Concat.{flat_map-cons}
use Rattle.std.proofs.lemmas.List.Elements.{All-take}
use Rattle.std.proofs.lemmas.List.Sums.{AllPass-from_list_all, list_all-from_AllPass}
use Rattle.yf_findings.specs.Files.{entry_with}
use Rattle.yf_findings.specs.LineForm.{is_finding}
use Rattle.yf_findings.specs.Selection.{Listed, SomeLine, at_most, counted, counted_entries, first_problems, is_on}
use Rattle.yf_findings.specs.Selection.{last_line, on_lines}
use Rattle.yf_findings.specs.declared.owned.OwnedProblem.{OwnedProblem}
use Rattle.yf_line_ranges.specs.declared.range.LineRange.{LineRange}
use Rattle.yf_report.specs.declared.problem.Range.{Range}

minus_zero : (n : ℕ) → n - 0 ≡ n
minus_zero n = omega arith

take_both : {A : Type 0} (n : ℕ) (xs ys : List A) → take n (xs ++ ys) ≡ take n xs ++ take (n - length xs) ys
take_both n [] ys = rw (take-nil n) (ap (λ k. take k ys) (sym (minus_zero n)))
take_both zero (x ∷ xs) ys = let e : 0 - length (x ∷ xs) ≡ 0 = omega arith in rw e refl
take_both (suc n) (x ∷ xs) ys =
    let e : n - length xs ≡ suc n - length (x ∷ xs) = omega arith in
    ap (λ zs. x ∷ zs) (take_both n xs ys) ∙ ap (λ k. x ∷ (take n xs ++ take k ys)) e

all_taken : (n : ℕ) (ps : List OwnedProblem) → list_all is_finding ps ≡ true → list_all is_finding (take n ps) ≡ true
all_taken n ps e =
    list_all-from_AllPass is_finding (take n ps)
    (All-take (λ p. is_finding p ≡ true) n ps (AllPass-from_list_all is_finding ps e))

counted_by : (n : ℕ) (ps : List OwnedProblem) (b : Bool) → list_all is_finding ps ≡ b
    → counted (if b then take n ps else ps) ≡ take n (if b then ps else [])
counted_by n ps true e = rw (all_taken n ps e) refl
counted_by n ps false e = rw e (sym (take-nil n))

-- the findings that a limit keeps are the first ones
counted_first : (n : ℕ) (ps : List OwnedProblem) → counted (at_most n ps) ≡ take n (counted ps)
counted_first n ps = counted_by n ps (list_all is_finding ps) refl

-- those of all inputs together
pub first_counted : (n : ℕ) (files : List Listed)
    → flat_map counted_entries (first_problems n files) ≡ take n (flat_map counted_entries files)
first_counted n [] = sym (take-nil n)
first_counted n (f ∷ files) =
    let rest = n - length (counted f.1) in
    let later = flat_map counted_entries (first_problems rest files) in
    flat_map-cons counted_entries (f.0, at_most n f.1, f.2) (first_problems rest files)
    ∙ ap (λ ps. map (entry_with f.0) ps ++ later) (counted_first n f.1)
    ∙ ap (λ x. x ++ later) (sym (take-map (entry_with f.0) n (counted f.1)))
    ∙ ap (λ x. take n (counted_entries f) ++ x) (first_counted rest files)
    ∙ ap (λ k. take n (counted_entries f) ++ take (n - k) (flat_map counted_entries files))
    (sym (length-map (counted f.1) (entry_with f.0)))
    ∙ sym (take_both n (counted_entries f) (flat_map counted_entries files))
    ∙ ap (take n) (sym (flat_map-cons counted_entries f files))

-- two ranges of lines that meet have a line in common
pub meeting : (r : Range) (asked : LineRange) → asked.first ≤ asked.last → asked.first ≤ last_line r → r.line ≤ asked.last
    → r.line ≤ last_line r → SomeLine r asked
meeting r asked a b c d =
    ⊎_elim
    (λ (h : asked.first < r.line). record { line = r.line; from = omega (arith, h); to = c; after = omega arith; before = d })
    (λ (h : r.line ≤ asked.first). record { line = asked.first; from = omega arith; to = a; after = h; before = b })
    (cases_lt asked.first r.line)

-- some lines are asked
pub some_asked : (asked : List LineRange) (ps out : List OwnedProblem) → false ≡ (length asked == 0) → out ≡ filter (is_on asked) ps
    → out ≡ on_lines asked ps
some_asked asked ps out e f = subst (λ (b : Bool). out ≡ (if b then ps else filter (is_on asked) ps)) e f
