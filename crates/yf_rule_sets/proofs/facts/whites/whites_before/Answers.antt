use Rattle.std.proofs.Common.{◌≡◌, ◌-◌, ◌∷◌, [], true, inr, sym, ◌∙◌, arith}
use Rattle.yf_chars.specs.Chain.Chain.{done}
use Rattle.yf_chars.specs.Class.{is_white}
use Rattle.yf_chars.specs.Text.{code}
use Rattle.yf_rule_sets.proofs.Texts.WhitesLemmas.{no_white_past, one_before}
use Rattle.yf_rule_sets.proofs.facts.whites.whites_before.Goals as goal

pub returns-then-end-text-clause-whites : goal.returns-then-end-text-clause-whites
returns-then-end-text-clause-whites c = record {
  whites = [];
  run = done;
  first = inr (no_white_past c.args.text.now (c.args.end - 1) (omega (arith, c.if-end-text.true)));
  from = c.requires;
}

pub loop-at-init : goal.loop-at-init
loop-at-init c = record { whites = ([], done); from = c.requires; to = omega arith }

pub loop-at-preserved : goal.loop-at-preserved
loop-at-preserved c =
    let t = c.args.text.now in
    let x = c.loop-at.invariant.whites in
    let r = c.if-not-is_white_at.ensures.read in
    let e : is_white (code t (c.loop-at.at - 1)) ≡ true = sym c.is_white_at.ensures.value ∙ c.if-not-is_white_at.false in
    record {
      whites = (code t (c.loop-at.at - 1) ∷ x.0, one_before t c.loop-at.at c.args.end x.0 (omega arith) x.1 r e);
      from = omega (arith, c.loop-at-test.true);
      to = omega (arith, c.loop-at.invariant.to);
    }
