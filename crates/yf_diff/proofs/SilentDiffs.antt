-- If nothing is written, the texts are equal.
use Rattle.std.proofs.Common.{◌≡◌, ℕ, ◌==◌, true, false, ⊎_elim, List, [], ◌∷◌, refl, sym, ap, ◌∙◌}
use Rattle.std.specs.List.{concat}
use Rattle.std.proofs.lemmas.Bool.{cases_Bool}
use Rattle.std.proofs.lemmas.List.{append-nil, append_cancel_left}
use Rattle.yf_diff.specs.Script.{Edit, kept, dropped, added, olds, news, has_change}
use Rattle.yf_diff.specs.Texts.{before_lines, lines_of}
use Rattle.yf_diff.specs.Unified.{unified}
use Rattle.yf_diff.specs.Diff.{AddsDiff}

before_joined : (c : ℕ) (lines : List (List ℕ)) → concat (before_lines c lines) ≡ c ∷ concat lines
before_joined c [] = refl
before_joined c (line ∷ lines) = refl

-- the lines of a text joined are the text
pub lines_joined : (t : List ℕ) → concat (lines_of t) ≡ t
lines_joined [] = refl
lines_joined (c ∷ t) =
    ⊎_elim (λ (e : (c == 10) ≡ true). rw e (ap (λ z. c ∷ z) (lines_joined t)))
    (λ (e : (c == 10) ≡ false). rw e (before_joined c (lines_of t) ∙ ap (λ z. c ∷ z) (lines_joined t)))
    (cases_Bool (c == 10))

-- without a change both texts have equal lines
same_lines : (script : List Edit) → has_change script ≡ false → olds script ≡ news script
same_lines [] e = refl
same_lines (kept line ∷ script) e = ap (λ z. line ∷ z) (same_lines script e)
same_lines (dropped line ∷ script) e = absurd (let no : true ≡ false = e in cc)
same_lines (added line ∷ script) e = absurd (let no : true ≡ false = e in cc)

no_change : (old_name new_name : List ℕ) (script : List Edit) → unified old_name new_name script ≡ [] → has_change script ≡ false
no_change old_name new_name script none =
    ⊎_elim (λ (e : has_change script ≡ true). absurd (let no = rw e at none in cc))
    (λ (e : has_change script ≡ false). e)
    (cases_Bool (has_change script))

pub told : (old_name new_name old new before after : List ℕ) → AddsDiff old_name new_name old new before after → after ≡ before → old ≡ new
told old_name new_name old new before after d same =
    let none : unified old_name new_name d.script ≡ [] = append_cancel_left before (unified old_name new_name d.script) [] (sym d.written ∙ same ∙ sym (append-nil before)) in
    let lines : lines_of old ≡ lines_of new = sym d.olds ∙ same_lines d.script (no_change old_name new_name d.script none) ∙ d.news in
    sym (lines_joined old) ∙ ap concat lines ∙ lines_joined new
