use Rattle.std.proofs.Common.{◌<◌, ◌∙◌, ◌++◌, [], ap, length, reverse, subst, sym, arith}
use Rattle.std.specs.Prelude.{slice_get}
use Rattle.yf_rule_sets.specs.Passes.KeyPass.{AreCollections, event_place, next, run}
use Rattle.yf_rule_sets.specs.Passes.KeyPass.AreCollections.{no_collections}
use Rattle.yf_rule_sets.proofs.RuleSets.KeyPassLemmas.{event_at, hit_found, no_hit_found, pass_done, pass_step}
use Rattle.yf_rule_sets.proofs.rules.repeated_keys.offsets.Goals as goal
use Rattle.yf_rule_sets.proofs.rules.repeated_keys.offsets.Goals.{then-branch+in_ok-push, else-branch}

pub loop-i-init : goal.loop-i-init
loop-i-init c =
    let r = c.args.reading.now in
    ([], subst (λ xs. AreCollections c.new-keys.result.items (reverse xs) []) (sym c.new-stack.ensures.items) no_collections, ap (λ os. os ++ run r.resolved 0 [] r.events) c.new-offsets.ensures.items)

pub loop-i-preserved : goal.loop-i-preserved
loop-i-preserved c =
    let r = c.args.reading.now in
    let i = c.loop-i.i in
    let v = c.loop-i.invariant in
    let st = v.0 in
    let l : i < length r.events = omega (arith, c.len-i-end.ensures, c.loop-i-test.true) in
    let x = event_at r i l in
    let p = c.in_ok-pass.ensures st x.0.event x.2 v.1 in
    let os = c.loop-i.offsets.items in
    let new = c.if-branch.offsets.items in
    let hit = c.in_ok-pass.field-0 in (
      next x.0.event (slice_get r.resolved i) st,
      p.0,
      elim c.if-branch.branch [
        | then-branch+in_ok-push w ↦
            pass_step r.resolved r.events i x.0 st os new _ hit x.1 v.2 p.1
            (hit_found hit (event_place x.0) w.key_offset.result os new w.if-branch.true (w.key_offset.ensures x.0 x.1) (ap (λ y. y.items) w.offsets-is ∙ w.in_ok-push.ensures.items))
        | else-branch w ↦
            pass_step r.resolved r.events i x.0 st os new _ hit x.1 v.2 p.1
            (no_hit_found hit (event_place x.0) os new w.if-branch.false (ap (λ y. y.items) w.offsets-is))
      ],
    )

pub returns : goal.returns
returns c =
    let v = c.loop-i.invariant in
    pass_done c.args.reading.now c.loop-i.i v.0 c.loop-i.offsets.items (omega (arith, c.len-i-end.ensures, c.loop-i-test.false)) v.2
