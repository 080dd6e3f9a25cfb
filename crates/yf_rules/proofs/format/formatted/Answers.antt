use Rattle.std.proofs.lemmas.Result.{IfOk-weaker}
use Rattle.std.specs.String.{string_bytes}
use Rattle.yf_rules.proofs.format.formatted.Goals as goal

pub returns-clause-keeps : goal.returns-clause-keeps
returns-clause-keeps c = λ utf8 reads.
    IfOk-weaker c.layout_by.result _ _
    (λ text h. c.formattings_are_kept.ensures c.args.text.now c.args.reading c.in_ok-normal.normal c.args.style.now c.in_ok-measures.measures c.in_ok-forms.forms
    (string_bytes text) (record {
      utf8 = utf8;
      reads = reads;
      measured = c.in_ok-measures.ensures;
      decided = c.in_ok-forms.ensures;
      restyled = c.in_ok-normal.ensures.restyled;
      events = c.in_ok-normal.ensures.events;
      nested = c.in_ok-normal.ensures.nested;
    }) h)
    c.layout_by.ensures.printed
