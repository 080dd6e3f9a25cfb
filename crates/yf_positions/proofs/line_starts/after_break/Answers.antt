use Rattle.std.proofs.Common.{◌≡◌, ◌+◌, get_or, arith}
use Rattle.std.proofs.lemmas.List.{get_or_past}
use Rattle.yf_positions.proofs.LineLemmas.{after_feed, after_return, after_both, break_is}
use Rattle.yf_positions.proofs.line_starts.after_break.Goals as goal

pub returns-then-bytes-at-eq10 : goal.returns-then-bytes-at-eq10
returns-then-bytes-at-eq10 c = after_feed c.args.bytes.now c.args.at c.requires.within c.if-bytes-at-eq10.true

pub returns-then-at-bytes : goal.returns-then-at-bytes
returns-then-at-bytes c =
    let bytes = c.args.bytes.now in
    let return = break_is (get_or bytes c.args.at 0) c.requires.here c.if-bytes-at-eq10.false in
    let past : get_or c.args.bytes.now (c.args.at + 1) 0 ≡ 0 =
    get_or_past c.args.bytes.now (c.args.at + 1) 0 (omega arith) in
    after_return bytes c.args.at c.requires.within return (λ e. omega arith)

pub returns-then-bytes-at-eq10-2 : goal.returns-then-bytes-at-eq10-2
returns-then-bytes-at-eq10-2 c =
    let bytes = c.args.bytes.now in
    let return = break_is (get_or bytes c.args.at 0) c.requires.here c.if-bytes-at-eq10.false in
    after_both bytes c.args.at (omega arith) return c.if-bytes-at-eq10-2.true

pub returns : goal.returns
returns c =
    let bytes = c.args.bytes.now in
    let return = break_is (get_or bytes c.args.at 0) c.requires.here c.if-bytes-at-eq10.false in
    after_return bytes c.args.at c.requires.within return c.if-bytes-at-eq10-2.false
