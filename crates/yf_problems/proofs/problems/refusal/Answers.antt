use Rattle.std.proofs.Common.{◌∙◌, List, refl, subst, sym, ℕ}
use Rattle.yf_ranges.specs.Spans.{CharacterSpan}
use Rattle.yf_problems.proofs.problems.refusal.Goals as goal

pub returns : goal.returns
returns c = record {
  place = c.in-Some.place;
  at = sym c.refused_at.ensures ∙ c.in-Some.is;
  start = c.in-Some-offset_at.ensures.place;
  end = subst (λ (t : List ℕ). CharacterSpan t c.in-Some-offset_at.start c.character_end.result) c.text.ensures c.character_end.ensures.span;
  severity = refl;
  code = c.refusal_name.ensures;
  message = c.in_ok-message.ensures.ok ∙ c.refusal_words.ensures;
}
