use Rattle.yf_rule_sets.proofs.RuleSets.DocumentLemmas.{marked_alone, marked_crowded, bare_rightly, bare_start}
use Rattle.yf_rule_sets.proofs.rules.document_start.unmarked.Goals as goal

pub returns-then-is_alone : goal.returns-then-is_alone
returns-then-is_alone c = marked_alone c.args.text.now c.args.marked c.args.may_be_bare c.args.start c.if-marked.true c.if-is_alone.ensures

pub returns-then-marked : goal.returns-then-marked
returns-then-marked c = marked_crowded c.args.text.now c.args.marked c.args.may_be_bare c.args.start c.if-marked.true c.if-is_alone.ensures

pub returns-then-may_be_bare : goal.returns-then-may_be_bare
returns-then-may_be_bare c = bare_rightly c.args.text.now c.args.marked c.args.may_be_bare c.args.start c.if-marked.false c.if-may_be_bare.true

pub returns : goal.returns
returns c = bare_start c.args.text.now c.args.marked c.args.may_be_bare c.args.start c.if-marked.false c.if-may_be_bare.false
