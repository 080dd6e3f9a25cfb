use Rattle.yf_guarded.proofs.JudgeLemmas.{read_guard}
use Rattle.yf_guarded.proofs.judge.judge_reading.Goals as goal

pub returns-in-Ok-clause-found : goal.returns-in-Ok-clause-found
returns-in-Ok-clause-found c =
    read_guard c.args.text.now c.args.reading.now c.in-Ok.found c.texts_are_read_and_formatted.ensures.textual c.utf8.text c.requires.reads
    c.requires.not_vault c.in-Ok.ensures.first
