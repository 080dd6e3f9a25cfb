use Rattle.yf_rules.proofs.HeadlineHolds.{headline_holds}
use Rattle.yf_rules.proofs.format.format_reading.Goals as goal

pub returns-in-Ok-clause-headline : goal.returns-in-Ok-clause-headline
returns-in-Ok-clause-headline c =
    headline_holds c.formattings_hold.ensures c.requires.fits c.utf8.text (c.in-Ok.ensures.keeps c.utf8.text c.requires.reads.reads)
    c.in-Ok.ensures.within

pub returns-in-Ok-clause-keeps : goal.returns-in-Ok-clause-keeps
returns-in-Ok-clause-keeps c = c.in-Ok.ensures.keeps c.utf8.text c.requires.reads.reads
