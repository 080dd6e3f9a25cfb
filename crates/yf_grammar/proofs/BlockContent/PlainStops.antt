-- A plain scalar at the end of a line, before a line that is not deep enough, is the longest one.
use Rattle.std.proofs.Common.{◌≡◌, ℕ, ℤ, pos, ◌<◌, ◌≤◌, ◌≤ℤ◌, ⊎_elim, List, [], refl, sym, subst, arith}
use Rattle.std.proofs.lemmas.Bool.{cases_lt}
use Rattle.std.specs.Str.{IsUtf8}
use Rattle.yf_chars.specs.declared.context.Ctx.TheVariants.{FlowOut}
use Rattle.yf_chars.specs.Chain.{Chosen, Stuck}
use Rattle.yf_lines.proofs.BasicLemmas.{break_forward}
use Rattle.yf_comments.specs.Comment.{CommentValue}
use Rattle.yf_comments.specs.Comments.{LineEnd, Row}
use Rattle.yf_comments.proofs.LineEndLemmas.{line_end_chosen}
use Rattle.yf_plain.specs.Plain.{Plain}
use Rattle.yf_grammar.specs.BlockReader.BlockParser.{LineText}
use Rattle.yf_grammar.proofs.BlockOutcomes.BlockGaps.{line_in, prefix_at_least}
use Rattle.yf_grammar.proofs.Ends.Forward.{whites_forward}
use Rattle.yf_grammar.proofs.FlowReader.PlainEnds.{plain_later}
use Rattle.yf_grammar.proofs.BlockContent.PlainTails.{tail_of, next_visible}

module _ {t : List ℕ} (u : IsUtf8 t) where
  no_tail : {n : ℤ} {i l k j : ℕ} {x y : List ℕ} {ds : List CommentValue} → Plain t n FlowOut i l x → LineEnd t l j ds → Stuck (Row t j)
      → ((m p : ℕ) → LineText t j m p → n ≤ℤ pos m → ⊥) → Plain t n FlowOut i k y → l < k → ⊥
  no_tail {n} {l = l} {j = j} {ds = ds} p d s f q a =
      let e = tail_of u refl p q a d in
      let best = line_end_chosen d s in
      let far = best.longest e.end.line [] e.end.end in
      let near = e.best.longest j ds d in
      let same : e.end.line ≡ j = omega arith in
      let w = whites_forward e.end.whites in
      let g = e.inside in
      let o = plain_later p.text in
      let h = e.end.first in
      let v = break_forward e.end.ends in
      let line = line_in e.end.whites (next_visible u FlowOut e.fold e.char) (λ z. q.clear.none e.end.line (omega arith) (omega arith) z) in
      f line.0 e.place (subst (λ v. LineText t v line.0 e.place) same line.1) (prefix_at_least e.end.prefix line.1)

  pub plain_stops : {n : ℤ} {i l k j : ℕ} {x y : List ℕ} {ds : List CommentValue} → Plain t n FlowOut i l x → LineEnd t l j ds → Stuck (Row t j)
      → ((m p : ℕ) → LineText t j m p → n ≤ℤ pos m → ⊥) → Chosen (Plain t n FlowOut i) k y → (k ≡ l) × (y ≡ x)
  plain_stops {n} {i} {l} {k} {x = x} p d s f best =
      let a = best.longest l x p in
      let same : k ≡ l = ⊎_elim (λ (b : l < k). absurd (no_tail p d s f best.derived b)) (λ (b : k ≤ l). omega arith) (cases_lt l k) in
      (same, sym (best.only x (subst (λ w. Plain t n FlowOut i w x) (sym same) p)))
