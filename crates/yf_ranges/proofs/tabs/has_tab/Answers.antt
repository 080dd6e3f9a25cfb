use Rattle.std.proofs.Common.{◌≡◌, ◌<◌, ◌≤◌, subst, ⊎_elim, arith}
use Rattle.std.proofs.lemmas.Bool.{cases_lt}
use Rattle.yf_chars.specs.Text.{code}
use Rattle.yf_ranges.proofs.tabs.has_tab.Goals as goal

pub loop-at-init : goal.loop-at-init
loop-at-init c = λ h. omega (arith, h.from, h.to)

pub loop-at-preserved : goal.loop-at-preserved
loop-at-preserved c = λ h.
    ⊎_elim
    (λ (l : h.at < c.loop-at.at). c.loop-at.invariant (record { at = h.at; from = h.from; to = l; tab = h.tab }))
    (λ (l : c.loop-at.at ≤ h.at).
    c.if-is_char_at.ensures.cases (subst (λ k. code c.args.text.now k ≡ 9) (omega (arith, l, h.to)) h.tab))
    (cases_lt h.at c.loop-at.at)

pub returns : goal.returns
returns c = λ h.
    let to = h.to in
    let end = c.loop-at-test.false in
    c.loop-at.invariant (record { at = h.at; from = h.from; to = omega (arith, to, end); tab = h.tab })

pub returns-then-is_char_at : goal.returns-then-is_char_at
returns-then-is_char_at c = record {
  at = c.loop-at.at;
  from = c.loop-at.auto.at;
  to = c.loop-at-test.true;
  tab = c.if-is_char_at.ensures.cases.char;
}
