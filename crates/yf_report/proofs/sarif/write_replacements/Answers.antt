use Rattle.std.proofs.Common.{◌++◌, ◌∷◌, [], ap, ◌∙◌, append_assoc, arith}
use Rattle.json.specs.Token.{begin_array}
use Rattle.yf_report.proofs.JsonLemmas.{added}
use Rattle.yf_report.proofs.SarifLemmas.{left_replacements, replacements_more, replacements_end}
use Rattle.yf_report.proofs.sarif.write_replacements.Goals as goal

pub loop-replacement-init : goal.loop-replacement-init
loop-replacement-init c =
    let h = added c.in_ok-begin_array.ensures in
    record {
      before = h.before;
      tokens = ap (λ l. l ++ left_replacements c.args.fix.now) h.tokens
          ∙ append_assoc c.args.out.now.tokens (begin_array ∷ []) (left_replacements c.args.fix.now);
    }

pub loop-replacement-preserved : goal.loop-replacement-preserved
loop-replacement-preserved c =
    let l = c.loop-replacement in
    let h = c.in_ok-write_replacement.ensures in
    record {
      before = h.before ∙ l.invariant.before;
      tokens = replacements_more l.replacement-index c.args.fix.now _ (omega arith) h l.invariant.tokens;
    }

pub returns : goal.returns
returns c =
    let l = c.loop-replacement in
    replacements_end l.replacement-index c.args.fix.now c.args.out.now l.out c.end_array.new.self (omega arith)
    l.invariant.before l.invariant.tokens (added c.in_ok-end_array.ensures)
