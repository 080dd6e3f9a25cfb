use Rattle.std.proofs.Common.{refl}
use Rattle.yf_excludes.specs.Classes.{byte_range}
use Rattle.yf_excludes.proofs.ClassLemmas.{no_last_byte}
use Rattle.yf_excludes.proofs.read_class.read_range.Goals as goal

pub returns-in-None-clause-read : goal.returns-in-None-clause-read
returns-in-None-clause-read c = λ r j m. no_last_byte c.requires.first_read c.requires.signed c.in-None.ensures.read m

pub returns-in-Some-clause-read : goal.returns-in-Some-clause-read
returns-in-Some-clause-read c = byte_range c.requires.first_read c.requires.signed c.in-Some.ensures.read
