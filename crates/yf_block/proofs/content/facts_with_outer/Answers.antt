use Rattle.yf_block.proofs.Ends.BelongingLemmas.{line_tied, belonging_alias, belonging_of_outer, belonging_of_both, belonging_of_apart}
use Rattle.yf_block.proofs.content.facts_with_outer.Goals as goal

pub returns-then-is_char_at-clause-belonging : goal.returns-then-is_char_at-clause-belonging
returns-then-is_char_at-clause-belonging c = λ a w l. belonging_alias c.args.text.now c.args.after.now.node_start.at c.args.after.now.at w c.args.entry c.args.after.now.inner c.if-is_char_at.ensures.cases.char c.apart_facts.ensures.lead c.apart_facts.ensures.belonging

pub returns-in-None-clause-belonging : goal.returns-in-None-clause-belonging
returns-in-None-clause-belonging c = λ a w l. belonging_of_outer c.args.text.now c.args.after.now.node_start.at c.args.after.now.at w c.args.entry c.args.after.now.inner c.in-None.is c.if-is_char_at.ensures.cases c.joined_facts.ensures.lead c.joined_facts.ensures.belonging

pub returns-in-None-joined-clause-belonging : goal.returns-in-None-joined-clause-belonging
returns-in-None-joined-clause-belonging c = λ a w l.
    let line = l c.in-Some.inner c.in-Some.is in
    let clash = rw c.in-None-joined.is at (c.joined.ensures.reads w.value line.value w.tied (line_tied line)) in
    belonging_of_apart c.args.text.now c.args.after.now.node_start.at c.args.after.now.at w c.args.entry c.args.after.now.inner c.in-Some.is line clash c.apart_facts-in-None-joined.ensures.lead c.apart_facts-in-None-joined.ensures.belonging

pub returns-in-Some-joined-clause-belonging : goal.returns-in-Some-joined-clause-belonging
returns-in-Some-joined-clause-belonging c = λ a w l.
    let line = l c.in-Some.inner c.in-Some.is in
    let both = rw c.in-Some-joined.is at (c.joined.ensures.reads w.value line.value w.tied (line_tied line)) in
    belonging_of_both c.args.text.now c.args.after.now.node_start.at c.args.after.now.at w c.args.entry c.args.after.now.inner c.in-Some.is line both c.if-is_char_at.ensures.cases c.joined_facts-in-Some-joined.ensures.lead c.joined_facts-in-Some-joined.ensures.belonging

pub returns-then-is_char_at-clause-before : goal.returns-then-is_char_at-clause-before
returns-then-is_char_at-clause-before c = c.apart_facts.ensures.before

pub returns-in-None-clause-before : goal.returns-in-None-clause-before
returns-in-None-clause-before c = c.joined_facts.ensures.before
