use Rattle.std.proofs.Common.{◌≡◌, ℕ, ◌∙◌, ap, subst, length, false, arith}
use Rattle.std.proofs.lemmas.List.{length-replicate}
use Rattle.yf_rule_sets.specs.Passes.LineFlags.{FlagsOf}
use Rattle.yf_rule_sets.specs.Passes.ScalarLines.{WantedLine}
use Rattle.yf_rule_sets.proofs.Texts.NotedLemmas.{none_noted_by, one_noted_by}
use Rattle.yf_rule_sets.proofs.facts.flagged_lines.wanted_lines.Goals as goal

pub loop-i-init : goal.loop-i-init
loop-i-init c =
    let e = c.in_ok-list.ensures.items_if_clones_equal (λ y q. q) in
    record {
      len = ap length e ∙ length-replicate c.len.result false ∙ c.len.ensures.count ∙ ap (λ w. length w.lines) c.lines.ensures;
      noted = none_noted_by c.len.result c.in_ok-list.list.items _ e;
    }

pub loop-i-preserved : goal.loop-i-preserved
loop-i-preserved c =
    let P = λ (i : ℕ) (k : ℕ). WantedLine c.args.wanted c.args.src.now c.args.reading.now k i in
    record {
      len = c.note_wanted-line.ensures.len ∙ c.loop-i.invariant.len;
      noted = one_noted_by c.loop-i.list.items _ c.loop-i.i P (P c.loop-i.i) (λ k. (λ h. h, λ h. h)) c.note_wanted-line.ensures c.loop-i.invariant.noted;
    }

pub returns : goal.returns
returns c = (
  c.loop-i.invariant.len,
  subst (λ n. FlagsOf c.loop-i.list.items n (λ (i : ℕ) (k : ℕ). WantedLine c.args.wanted c.args.src.now c.args.reading.now k i))
      (let b = c.loop-i.auto.i-end in let z : c.loop-i.i ≡ length c.args.reading.now.events = omega (arith, b, c.len-i-end.ensures, c.loop-i-test.false) in z) c.loop-i.invariant.noted,
)
