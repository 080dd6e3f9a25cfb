use Rattle.std.proofs.Common.{◌≡◌, ◌==◌, ◌++◌, ◌∙◌, false, not, refl, sym, true, true≢false, length, List, ℕ, [], ◌∷◌}
use Rattle.yf_forms.specs.Nodes.Lines.{is_empty_text}
use Rattle.yf_forms.proofs.text.written.is_one_filled.Goals as goal

filled_front : (x y : List ℕ) → (length x == 0) ≡ false → true ≡ not (is_empty_text (x ++ y))
filled_front [] y n = absurd (true≢false n)
filled_front (b ∷ x) y n = refl

pub returns : goal.returns
returns c = filled_front c.args.one.now c.args.other.now (sym c.is_empty.ensures ∙ c.if-is_empty.false)
