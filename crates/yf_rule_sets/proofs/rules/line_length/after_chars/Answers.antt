use Rattle.std.proofs.Common.{[], ◌∷◌, ◌++◌, arith}
use Rattle.std.proofs.lemmas.List.{length_push}
use Rattle.yf_chars.specs.Chain.Chain.{done}
use Rattle.yf_chars.specs.Text.{code, CharAt}
use Rattle.yf_lines.proofs.PlaceLemmas.{characters_more}
use Rattle.yf_rule_sets.proofs.RuleSets.RunLemmas.{too_few_bytes, too_short, after_all}
use Rattle.yf_rule_sets.proofs.rules.line_length.after_chars.Goals as goal

pub loop-passed-init : goal.loop-passed-init
loop-passed-init c = record { run = ([], done, omega arith); boundary = c.requires.start; within = omega arith }

pub returns-then-saturating_sub-count : goal.returns-then-saturating_sub-count
returns-then-saturating_sub-count c =
    too_few_bytes c.args.text.now c.args.start c.args.end c.args.count (omega (arith, c.saturating_sub.ensures, c.if-saturating_sub-count.true))

pub returns-then-at-end : goal.returns-then-at-end
returns-then-at-end c =
    let x = c.loop-passed.invariant.run in
    too_short c.args.text.now c.args.start c.args.end c.args.count c.loop-passed.at c.loop-passed.passed x.0 x.1 x.2 c.loop-passed.invariant.within c.if-at-end.true

pub loop-passed-preserved : goal.loop-passed-preserved
loop-passed-preserved c =
    let t = c.args.text.now in
    let x = c.loop-passed.invariant.run in
    let r : CharAt t c.loop-passed.at c.in-Some.field-0-0 c.in-Some.next = c.in-Some.ensures in
    record {
      run = (x.0 ++ code t c.loop-passed.at ∷ [], characters_more t c.args.start c.loop-passed.at c.in-Some.field-0-0 c.in-Some.next x.0 x.1 r, omega (arith, x.2, length_push x.0 (code t c.loop-passed.at)));
      boundary = r.boundary;
      within = omega arith;
    }

pub returns-then-at-end-2 : goal.returns-then-at-end-2
returns-then-at-end-2 c =
    let x = c.loop-passed.invariant.run in
    after_all c.args.text.now c.args.start c.args.end c.args.count c.loop-passed.at c.loop-passed.passed x.0 x.1 x.2 (omega (arith, c.loop-passed.invariant.within)) c.if-at-end-2.true

pub returns : goal.returns
returns c =
    let x = c.loop-passed.invariant.run in
    too_short c.args.text.now c.args.start c.args.end c.args.count c.loop-passed.at c.loop-passed.passed x.0 x.1 x.2 c.loop-passed.invariant.within (omega arith)
