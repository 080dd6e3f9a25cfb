use Rattle.std.proofs.Common.{◌≡◌, ◌<◌, Bool, true, false, length, arith}
use Rattle.yf_excludes.proofs.SpansLemmas.{reaches_none, reaches_more, short_items, refused, whole, too_many}
use Rattle.yf_excludes.proofs.spans.take_front.Goals as goal

pub loop-n-init : goal.loop-n-init
loop-n-init g c = reaches_none c.args.pieces.now c.args.items.now

pub returns-then-n-items : goal.returns-then-n-items
returns-then-n-items g c =
    let below : c.loop-n.n < length c.args.pieces.now = omega arith in
    let fixed : g.P.Piece.is_run c.index-pieces-n.result ≡ false = cc in
    let end : c.loop-n.n ≡ length c.args.items.now = omega arith in
    short_items c.loop-n.invariant below c.index-pieces-n.is fixed end

pub returns-then-not-takes : goal.returns-then-not-takes
returns-then-not-takes g c =
    let below : c.loop-n.n < length c.args.pieces.now = omega arith in
    let fixed : g.P.Piece.is_run c.index-pieces-n.result ≡ false = cc in
    let under : c.loop-n.n < length c.args.items.now = omega arith in
    refused c.loop-n.invariant below c.index-pieces-n.is fixed under c.index-items-n.is
    (λ t. let e : c.takes.result ≡ true = c.takes.ensures.1 t in absurd (cc))

pub loop-n-preserved : goal.loop-n-preserved
loop-n-preserved g c =
    let below : c.loop-n.n < length c.args.pieces.now = omega arith in
    let fixed : g.P.Piece.is_run c.index-pieces-n.result ≡ false = cc in
    let under : c.loop-n.n < length c.args.items.now = omega arith in
    let took : c.takes.result ≡ true = cc in
    reaches_more c.loop-n.invariant below c.index-pieces-n.is fixed under c.index-items-n.is (c.takes.ensures.0 took)

pub returns-then-pieces-items : goal.returns-then-pieces-items
returns-then-pieces-items g c = whole c.loop-n.invariant (omega arith) (omega arith)

pub returns-else-pieces-items : goal.returns-else-pieces-items
returns-else-pieces-items g c = too_many c.loop-n.invariant (omega arith) (λ e. omega arith)
