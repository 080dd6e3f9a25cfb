use Rattle.std.proofs.Common.{Some, ◌∙◌}
use Rattle.json.specs.Value.{value_view}
use Rattle.yf_baseline.proofs.ReadLemmas.{all_members, no_file, no_hash, no_ordinal, no_rule}
use Rattle.yf_baseline.proofs.read.entry_in.Goals as goal

pub returns-in-None : goal.returns-in-None
returns-in-None c = no_file (value_view c.args.value.now) c.in-None.ensures

pub returns-in-None-text_in : goal.returns-in-None-text_in
returns-in-None-text_in c =
    no_hash (value_view c.args.value.now) c.in-Some.file.now c.in-Some.ensures c.in-None-text_in.ensures

pub returns-in-None-number_in : goal.returns-in-None-number_in
returns-in-None-number_in c =
    no_ordinal (value_view c.args.value.now) c.in-Some.file.now c.in-Some-text_in.hash.now c.in-Some.ensures
    c.in-Some-text_in.ensures c.in-None-number_in.ensures

pub returns-in-None-text_in-2 : goal.returns-in-None-text_in-2
returns-in-None-text_in-2 c =
    no_rule (value_view c.args.value.now) c.in-Some.file.now c.in-Some-text_in.hash.now c.in-Some-number_in.ordinal
    c.in-Some.ensures c.in-Some-text_in.ensures c.in-Some-number_in.ensures c.in-None-text_in-2.ensures

pub returns : goal.returns
returns c =
    let ordinal = c.in-Some-number_in.ordinal in
    (λ i. Some (record {
      file = c.in_ok-owned.ensures i;
      rule = c.in_ok-owned-2.ensures i;
      hash = c.in_ok-owned-3.ensures i;
      ordinal = ordinal;
    }))
    ∙ all_members (value_view c.args.value.now) c.in-Some.file.now c.in-Some-text_in.hash.now ordinal
    c.in-Some-text_in-2.rule.now c.in-Some.ensures c.in-Some-text_in.ensures c.in-Some-number_in.ensures
    c.in-Some-text_in-2.ensures
