-- The pass handles two lists in sequence, and skips events within a node that is printed. At the start of a document it
-- adds the rows of that start.
use Rattle.std.proofs.Common.{◌≡◌, ℕ, suc, ◌+◌, ◌≤◌, Bool, true, false, ◌&&◌, List, [], ◌∷◌, ◌++◌, length, map, refl, sym, ap, ◌∙◌, arith, append-nil}
use Rattle.std.proofs.Math.Bool.{and-false}
use Rattle.std.specs.Prelude.{codes, if◌then◌else◌, nat_lt}
use Rattle.std.proofs.lemmas.Bool.Decides.{nat_tests}
use Rattle.yf_events.specs.Event.{EventInText}
use Rattle.yf_events.specs.declared.directive.Directive.{Directive}
use Rattle.yf_events.specs.declared.document.Doc.{Doc}
use Rattle.yf_events.specs.declared.event.Span.{Span}
use Rattle.yf_print.specs.Passes.Drafts.{Draft, opened, past, with_text}
use Rattle.yf_print.specs.Passes.PrintPass.{PrintState, directive_lines, document_begun, looked, marked, next, next_line, pass}
use Rattle.yf_print.specs.Passes.PrintWork.{Work, remarks_of}
use Rattle.yf_print.specs.Layouts.Rows.{beginning_at, directive_row, end_rows, joined_words, start_row}
use Rattle.yf_laws.proofs.Printer.FedLemmas.{all_past, fed, with_row}
use Rattle.yf_laws.proofs.Printer.JoinLemmas.{edited, past_edited}
use Rattle.yf_laws.proofs.Printer.SignLemmas.{sign_added}

pub pass_append : (g : Work) (i : ℕ) (xs ys : List EventInText) (w : PrintState) → pass g i (xs ++ ys) w ≡ pass g (i + length xs) ys (pass g i xs w)
unfolding pass
pass_append g i [] ys w = let n : i ≡ i + 0 = omega arith in ap (λ m. pass g m ys w) n
pass_append g i (x ∷ xs) ys w =
    let n : (i + 1) + length xs ≡ i + suc (length xs) = omega arith in
    pass_append g (i + 1) xs ys (next g i x w) ∙ ap (λ m. pass g m ys (pass g (i + 1) xs (next g i x w))) n

-- events that are skipped
pub pass_skips : (g : Work) (i : ℕ) (xs : List EventInText) (w : PrintState) → i + length xs ≤ w.done + 1 → pass g i xs w ≡ w
unfolding pass
pass_skips g i [] w l = refl
pass_skips g i (x ∷ xs) w l =
    let low : i ≤ w.done = omega (arith, l) in
    let rest : (i + 1) + length xs ≤ w.done + 1 = omega (arith, l) in
    let e : nat_lt w.done i ≡ false = grind (arith, nat_tests) in
    ap (λ b. pass g (i + 1) xs (if b then looked g i x w else w)) e ∙ pass_skips g (i + 1) xs w rest

-- the `---` of a document
start_added : (g : Work) (t : Span → List ℕ) (items : List ℕ) (d : Draft)
    → with_row (remarks_of g) t (record start_row { items = items }) d ≡ marked (all_past g.reading.comments items d)
start_added g t items d =
    let after : Draft = all_past g.reading.comments items d in
    let line : List ℕ = d.line ++ codes "---" in
    past_edited g.reading.comments items (d.line ++ (codes "---" ++ [])) (d.trails ++ []) (d.body ++ []) (d.may_follow && false) d.marks d
    ∙ (ap (λ w. edited (d.line ++ w) (d.trails ++ []) (d.body ++ []) (d.may_follow && false) d.marks after) (append-nil (codes "---"))
    ∙ (ap (λ w. edited line w (d.body ++ []) (d.may_follow && false) d.marks after) (append-nil d.trails)
    ∙ (ap (λ w. edited line d.trails w (d.may_follow && false) d.marks after) (append-nil d.body)
    ∙ (ap (λ w. edited line d.trails d.body w d.marks after) (and-false d.may_follow)
    ∙ sym (ap marked (past_edited g.reading.comments items d.line d.trails d.body d.may_follow d.marks d))))))

-- directives, and the `---` after them
lines_fed : (g : Work) (t : Span → List ℕ) (xs : List Directive) (d : Draft)
    → marked (directive_lines g xs (next_line g 0 d)) ≡ fed (remarks_of g) t (map directive_row xs ++ (start_row ∷ [])) d
lines_fed g t [] d = sym (start_added g t [] (opened (remarks_of g) 0 d))
lines_fed g t (x ∷ xs) d =
    lines_fed g t xs (with_text (37 ∷ joined_words x.words) (next_line g 0 d))
    ∙ ap (fed (remarks_of g) t (map directive_row xs ++ (start_row ∷ [])))
    (sym (sign_added g t 0 (37 ∷ joined_words x.words) [] false (opened (remarks_of g) 0 d)))

-- if the document begins on the first of these lines
first_fed : (g : Work) (t : Span → List ℕ) (start : ℕ) (xs : List Directive) (d : Draft)
    → marked (directive_lines g xs (past g.reading.comments start (next_line g 0 d)))
    ≡ fed (remarks_of g) t (beginning_at start (map directive_row xs ++ (start_row ∷ []))) d
first_fed g t start [] d = sym (start_added g t (start ∷ []) (opened (remarks_of g) 0 d))
first_fed g t start (x ∷ xs) d =
    lines_fed g t xs (with_text (37 ∷ joined_words x.words) (past g.reading.comments start (next_line g 0 d)))
    ∙ ap (fed (remarks_of g) t (map directive_row xs ++ (start_row ∷ [])))
    (sym (sign_added g t 0 (37 ∷ joined_words x.words) (start ∷ []) false (opened (remarks_of g) 0 d)))

pub document_fed : (g : Work) (t : Span → List ℕ) (is_first : Bool) (x : Doc) (d : Draft)
    → marked (document_begun g is_first x (next_line g 0 d))
    ≡ fed (remarks_of g) t (beginning_at x.start (end_rows is_first x.directives ++ (map directive_row x.directives ++ (start_row ∷ [])))) d
document_fed g t is_first x d = by is_first x.directives where
  by : (b : Bool) (xs : List Directive) → marked (document_begun g b (record x { directives = xs }) (next_line g 0 d))
      ≡ fed (remarks_of g) t (beginning_at x.start (end_rows b xs ++ (map directive_row xs ++ (start_row ∷ [])))) d
  by true [] = first_fed g t x.start [] d
  by false [] = first_fed g t x.start [] d
  by true (y ∷ ys) = first_fed g t x.start (y ∷ ys) d
  by false (y ∷ ys) =
      lines_fed g t (y ∷ ys) (with_text (codes "...") (past g.reading.comments x.start (next_line g 0 d)))
      ∙ ap (fed (remarks_of g) t (map directive_row (y ∷ ys) ++ (start_row ∷ [])))
      (sym (sign_added g t 0 (codes "...") (x.start ∷ []) false (opened (remarks_of g) 0 d)))
