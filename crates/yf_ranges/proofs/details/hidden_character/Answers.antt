use Rattle.std.proofs.Common.{refl, arith}
use Rattle.yf_chars.specs.Text.{CharAt}
use Rattle.yf_ranges.specs.Details.HiddenDetail.{one}
use Rattle.yf_ranges.proofs.details.hidden_character.Goals as goal

pub returns-in-Some : goal.returns-in-Some
returns-in-Some c =
    let r : CharAt c.args.text.now c.args.offset c.in-Some.character c.in-Some.next = c.in-Some.ensures in
    record { start = refl; order = omega (arith, r.later); within = r.within; exact = one r refl }
