use Rattle.std.proofs.Common.{ℕ, reverse, inl, inr, sym, subst}
use Rattle.yf_block.specs.NextKeys.{TopMapping}
use Rattle.yf_block.proofs.resume.key_below.Goals as goal

pub returns-in-None : goal.returns-in-None
returns-in-None c = tt

pub returns-else-is_entry_sign_at : goal.returns-else-is_entry_sign_at
returns-else-is_entry_sign_at c = record {
  starts = c.in-Some.is;
  top = subst (λ (z : ℕ). TopMapping (reverse c.args.frames.now.items) z) (sym c.if-start-at.false) c.in-Some-top_mapping.ensures;
  no_question = λ s. c.if-is_entry_sign_at.ensures (inl s);
  no_colon = λ s. c.if-is_entry_sign_at.ensures (inr s);
}
