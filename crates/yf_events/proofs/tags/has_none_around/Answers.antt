use Rattle.std.proofs.Common.{◌-◌, arith}
use Rattle.std.proofs.lemmas.Bool.Decides.{nat_tests}
use Rattle.yf_events.proofs.TagLists.{between, read_event}
use Rattle.yf_events.proofs.tags.has_none_around.Goals as goal
use Rattle.yf_events.proofs.tags.has_none_around.Goals.{then-place-gt0+else-tagged-place, else-place-gt0}

pub returns-then-place-tagged-2 : goal.returns-then-place-tagged-2
returns-then-place-tagged-2 c = λ t.
    let ts = c.args.tagged.now in
    let here = read_event ts c.args.place c.index-tagged-place-then-place-tagged-2.result c.if-place-tagged-2.true in
    between ts c.args.event c.args.place c.requires c.if-place-tagged.false
    (λ z. elim c.if-place-gt0.branch [
      | then-place-gt0+else-tagged-place w ↦
          let p = read_event ts (c.args.place - 1) w.index-tagged-place.result (omega (arith, z, c.if-place-tagged.false)) in
          omega (arith, p, w.if-tagged-place.false)
      | else-place-gt0 w ↦ absurd (omega (arith, z, w.if-place-gt0.false))
    ])
    (λ l. grind (arith, nat_tests, t, here))

pub returns : goal.returns
returns c = λ t.
    let ts = c.args.tagged.now in
    between ts c.args.event c.args.place c.requires c.if-place-tagged.false
    (λ z. elim c.if-place-gt0.branch [
      | then-place-gt0+else-tagged-place w ↦
          let p = read_event ts (c.args.place - 1) w.index-tagged-place.result (omega (arith, z, c.if-place-tagged.false)) in
          omega (arith, p, w.if-tagged-place.false)
      | else-place-gt0 w ↦ absurd (omega (arith, z, w.if-place-gt0.false))
    ])
    (λ l. absurd (omega (arith, l, c.if-place-tagged-2.false)))
