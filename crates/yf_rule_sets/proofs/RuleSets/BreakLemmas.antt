-- Laws of the first break that begins with a carriage return.
use Rattle.std.proofs.Common.{◌≡◌, ℕ, ◌+◌, true, false, List, [], ◌∷◌, drop, ap, ◌∙◌, Some, eqb, if◌then◌else◌}
use Rattle.std.specs.Prelude.{slice_get}
use Rattle.yf_chars.specs.Text.{code}
use Rattle.yf_lines.specs.declared.line.Line.{Line}
use Rattle.yf_forms.proofs.ListLemmas.{drop_here}
use Rattle.yf_rule_sets.specs.Sets.{first_return}

pub return_later : (t : List ℕ) (ls : List Line) (i : ℕ) (l : Line) → slice_get ls i ≡ Some l → eqb (code t l.end) 13 ≡ false
    → first_return t (drop i ls) ≡ first_return t (drop (i + 1) ls)
return_later t ls i l e n =
    ap (first_return t) (drop_here ls i l e) ∙ ap (λ b. if b then l.end ∷ [] else first_return t (drop (i + 1) ls)) n

pub return_here : (t : List ℕ) (ls : List Line) (i : ℕ) (l : Line) → slice_get ls i ≡ Some l → eqb (code t l.end) 13 ≡ true
    → first_return t (drop i ls) ≡ l.end ∷ []
return_here t ls i l e y =
    ap (first_return t) (drop_here ls i l e) ∙ ap (λ b. if b then l.end ∷ [] else first_return t (drop (i + 1) ls)) y
