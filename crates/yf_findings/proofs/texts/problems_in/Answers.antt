use Rattle.std.proofs.Common.{List, ℕ, subst, sym, length, ◌≤◌}
use Rattle.std.proofs.lemmas.Result.{IfErr-weaker, IfOk-weaker}
use Rattle.yf_findings.specs.Changes.{ListedChanges}
use Rattle.yf_findings.proofs.TextLemmas.{text_problems}
use Rattle.yf_rules.proofs.HeadlineHolds.{within_limit}
use Rattle.yf_rules.specs.declared.run.TheConstants.{INPUT_LIMIT}
use Rattle.yf_stream.specs.StreamReader.{StreamFault, TheReading}
use Rattle.yf_stream.specs.StreamReader.StreamFault.{for_memory}
use Rattle.yf_findings.proofs.texts.problems_in.Goals as goal

pub returns-in-Err-clause-refuses : goal.returns-in-Err-clause-refuses
returns-in-Err-clause-refuses c = for_memory

pub problems_from-requires-clause-fits : goal.problems_from-requires-clause-fits
problems_from-requires-clause-fits c =
    subst (λ (t : List ℕ). length t ≤ INPUT_LIMIT) (sym c.in-Ok.ensures.text)
    (within_limit c.args.text.now _ c.in_ok-reading.ensures.long)

pub problems_from-requires-clause-reads : goal.problems_from-requires-clause-reads
problems_from-requires-clause-reads c =
    subst (λ (t : List ℕ). TheReading t c.in_ok-reading.reading) (sym c.in-Ok.ensures.text)
    c.in_ok-reading.ensures.reads

pub returns-clause-found : goal.returns-clause-found
returns-clause-found c =
    IfOk-weaker c.problems_from.result _ _
    (λ checked d. text_problems c.args.without.now c.args.style.now c.in-Ok.src c.in_ok-reading.reading
    checked.problems.items
    c.in-Ok.ensures.text c.in-Ok.ensures.lines c.in_ok-reading.ensures.reads d) c.problems_from.ensures.found

pub returns-clause-changes : goal.returns-clause-changes
returns-clause-changes c =
    IfOk-weaker c.problems_from.result _ _
    (λ checked d. subst (λ (t : List ℕ). ListedChanges c.args.asked c.args.style.now t checked.problems.items
    checked.changes.items)
    c.in-Ok.ensures.text d) c.problems_from.ensures.changes

pub returns-clause-refuses : goal.returns-clause-refuses
returns-clause-refuses c =
    IfErr-weaker c.problems_from.result _ _ (λ fault is. subst (StreamFault c.args.text.now) (sym is) for_memory)
    c.problems_from.ensures.refused
