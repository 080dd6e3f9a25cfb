use Rattle.yf_settings.proofs.TextsLemmas.{allows_by}
use Rattle.yf_settings.proofs.texts.allows.Goals as goal

pub returns-in-Ok : goal.returns-in-Ok
returns-in-Ok c =
    allows_by c.args.required.now c.in-Versions.requirement c.args.version.now c.in-Ok.version c.matches.result
    c.in-Versions.is c.in-Ok.ensures.ok c.matches.ensures
