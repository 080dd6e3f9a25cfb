use Rattle.std.proofs.Common.{◌≡◌, ◌+◌, ◌<◌, ◌≤◌, None, arith, length, refl, rules, subst, sym}
use Rattle.std.proofs.lemmas.List.{length-set}
use Rattle.yf_server.proofs.LossLemmas.{all_lost, none_lost, one_more_lost}
use Rattle.yf_server.specs.declared.documents.OpenDocument.{OpenDocument}
use Rattle.yf_server.proofs.loss.lose_each.Goals as goal

pub loop-at-init : goal.loop-at-init
loop-at-init c = record { bound = omega arith; lost = none_lost c.args.documents.now.items }

pub loop-at-preserved : goal.loop-at-preserved
loop-at-preserved c =
    let items = c.loop-at.documents.items in
    let at = c.loop-at.at in
    let len : c.len.result ≡ length c.loop-at.documents.items = search rules in
    let within : c.loop-at.at < length c.loop-at.documents.items = subst (λ n. c.loop-at.at < n) len c.loop-at-test.true in
    let left : OpenDocument = record {
      uri = c.index_mut.result.now.uri;
      version = c.index_mut.result.now.version;
      document = None;
    } in
    record {
      bound = subst (λ n. at + 1 ≤ n) (sym (length-set items at left)) (omega arith);
      lost = one_more_lost c.args.documents.now.items items at c.index_mut.result.now left within
          c.loop-at.invariant.lost c.index_mut.ensures.value refl refl;
    }

pub returns : goal.returns
returns c =
    let len : c.len.result ≡ length c.loop-at.documents.items = search rules in
    let all : length c.loop-at.documents.items ≤ c.loop-at.at =
    subst (λ n. n ≤ c.loop-at.at) len c.loop-at-test.false in
    all_lost c.args.documents.now.items c.loop-at.documents.items c.loop-at.at all c.loop-at.invariant.lost
