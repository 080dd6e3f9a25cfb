use Rattle.std.proofs.Common.{refl}
use Rattle.yf_program.proofs.report_texts.add.Goals as goal

pub returns : goal.returns
returns c = (
  record { file = c.in_ok-file.file; problems = c.args.problems; changes = c.args.changes },
  c.in_ok-file.ensures,
  (refl, refl),
  c.in_ok-push.ensures.items,
)
