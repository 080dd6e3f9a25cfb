use Rattle.std.proofs.Common.{◌≡◌, ◌<◌, ◌≤◌, ◌∙◌, false, length, get_or, arith}
use Rattle.std.proofs.lemmas.List.{get_or_default}
use Rattle.yf_rule_sets.proofs.RuleSets.BlankLemmas.{blank_step, blank_told, no_line_yet}
use Rattle.yf_rule_sets.proofs.facts.notes.blank_lines.Goals as goal

pub loop-k-init : goal.loop-k-init
loop-k-init c = no_line_yet c.args.src.now c.args.reading.now c.in_ok-list.list.items

pub loop-k-preserved : goal.loop-k-preserved
loop-k-preserved c =
    let list = c.loop-k.list.items in
    let k = c.loop-k.k in
    let b = c.index.result.now in
    let l : k < length list = omega (arith, c.loop-k.invariant.len, c.in_ok-list.list.ok, c.len-k-end.ensures, c.loop-k-test.true) in
    let e : b ≡ get_or list k false = c.index.ensures ∙ get_or_default list k b false l in
    blank_step c.args.src.now c.args.reading.now c.in_ok-list.list.items c.in_ok-list.ensures.1 list k b c.is_blank.result l e c.is_blank.ensures c.loop-k.invariant

pub returns : goal.returns
returns c =
    let v = c.args.src.now in
    let n = c.in_ok-list.ensures.0 in
    let h : length c.in_ok-list.list.items ≤ c.loop-k.k = omega (arith, c.in_ok-list.list.ok, c.len-k-end.ensures, c.loop-k-test.false) in
    record {
      count = c.loop-k.invariant.len ∙ n;
      blank = blank_told v c.args.reading.now c.in_ok-list.list.items c.in_ok-list.ensures.1 c.loop-k.list.items c.loop-k.k h n c.loop-k.invariant;
    }
