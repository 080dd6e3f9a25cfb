-- A `?` that begins a plain scalar is not a mark of a key.
use Rattle.std.proofs.Common.{◌≡◌, ℕ, ◌+◌, List, codes, refl, sym, ◌∙◌}
use Rattle.std.proofs.lemmas.Bool.{true≢false}
use Rattle.std.specs.Str.{chars}
use Rattle.yf_chars.specs.Class.{is_break_char, is_white, is_white_or_end}
use Rattle.yf_chars.specs.Text.{begins, code}
use Rattle.yf_forms.specs.declared.style.Style.{Style}
use Rattle.yf_events.specs.Tree.{DocumentTree}
use Rattle.yf_events.specs.declared.lists.Lists.{Lists}
use Rattle.yf_lines.specs.Lines.{Table}
use Rattle.yf_rule_sets.specs.RuleSets.Layouts.{NeedlessMark}
use Rattle.yf_rule_sets.specs.RuleSets.QuestionMarks.{IsMarked, marked}

-- in `---` and `?a: b` the `?` is at offset 4, and is not at fault in any reading
no_needless_mark : (src : Table) (r : Lists) (house : Style) (trees : List DocumentTree) (i offset : ℕ) → src.text ≡ codes "---\n?a: b\n" → offset ≡ 4
    → NeedlessMark src r house trees i offset → ⊥
unfolding is_white_or_end is_white is_break_char begins code chars
no_needless_mark src r house trees i offset t e n = unmarked n.marked e where
  unmarked : {offset : ℕ} → IsMarked src.text r i offset → offset ≡ 4 → ⊥
  unmarked (marked {entry = entry} at mark) e =
      let there : is_white_or_end (code src.text (entry.start + 1)) ≡ is_white_or_end (code (codes "---\n?a: b\n") 5) = rw (t, e) refl in
      true≢false (sym mark.white ∙ there)
