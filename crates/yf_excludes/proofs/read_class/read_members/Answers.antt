use Rattle.std.proofs.Common.{◌≡◌, ◌≤◌, true, false, arith}
use Rattle.yf_excludes.proofs.ClassLemmas.{members_begin, members_more, members_done, members_none}
use Rattle.yf_excludes.proofs.read_class.read_members.Goals as goal

pub members-init : goal.members-init
members-init c = members_begin c.args.text.now c.args.start c.new-ranges.result.items c.new-ranges.ensures.items

pub members-preserved : goal.members-preserved
members-preserved c =
    members_more c.members.invariant (λ y. let e : c.closes.result ≡ true = c.closes.ensures.1 y in absurd (cc))
    c.in-Some.ensures.read c.in-Some.ensures.forward.0 c.in_ok-push-in-Some.ensures.items

pub returns-in-None : goal.returns-in-None
returns-in-None c =
    members_none c.members.invariant (λ y. let e : c.closes.result ≡ true = c.closes.ensures.1 y in absurd
    (cc)) c.in-None.ensures.read

pub returns : goal.returns
returns c =
    let closed : c.closes.result ≡ true = cc in
    let end = c.closes.ensures.0 closed in
    let moved : c.args.start ≤ c.members.at = c.members.invariant.moved in
    (members_done c.members.invariant end, omega arith, omega (arith, end.1))
