use Rattle.std.proofs.Common.{refl, arith}
use Rattle.yf_flow.proofs.Stack.TiedItems.{ended_key, ended_no_key, item_read_done, item_is_no_pair}
use Rattle.yf_flow.proofs.Stack.TiedPairs.{done_entry}
use Rattle.yf_flow.proofs.Stack.CountLemmas.{counted_reaching}
use Rattle.yf_flow.proofs.Ends.MachineLemmas.{led, indexed_as}
use Rattle.yf_flow.proofs.Stack.TiedNodes.{value_read_done}
use Rattle.yf_flow.proofs.frame.FlowReader.finish_node.Goals as goal

pub returns-then-is_pair_key : goal.returns-then-is_pair_key
returns-then-is_pair_key c =
    let o = c.skip_whites-colon.ensures.order in
    led _ _ _ _ c.pair_of_key.result c.pair_of_key.ensures (λ base r a. record { ended = a; role = c.in-Item.is; key = ended_key a c.skip_whites-colon.ensures.whites.1 c.if-is_pair_key.ensures.cases })
    (λ total a. record { order = o; colon_there = c.if-is_pair_key.ensures.cases.colon.colon; room = a }) o refl

pub returns-else-is_pair_key : goal.returns-else-is_pair_key
returns-else-is_pair_key c =
    let v = c.reaching-self.ensures in
    led _ _ _ _ c.after_entry.result c.after_entry.ensures
    (λ base r a.
    done_entry (item_read_done a c.in-Item.is (ended_no_key a c.skip_whites-colon.ensures.whites.1 c.skip_whites-colon.ensures.all c.if-is_pair_key.ensures.cases) c.reaching-self.result v.kind v.event v.depth v.deepest)
    (item_is_no_pair a c.in-Item.is c.reaching-self.result v.kind))
    (λ total a. counted_reaching _ v.depth v.deepest a) (omega arith) refl

pub after_entry-requires : goal.after_entry-requires
after_entry-requires c =
    let v = c.reaching-self.ensures in
    record { boundary = c.requires.boundary; innermost = indexed_as _ _ v.event v.index v.entry c.requires.innermost; others = c.requires.others }

pub returns-in-Key : goal.returns-in-Key
returns-in-Key c =
    let v = c.reaching-self-in-Key.ensures in
    led _ _ _ _ c.after_key.result c.after_key.ensures
    (λ base r a. record {
      first = c.args.self.now.top;
      ended = a;
      role = c.in-Key.is;
      reached = record { kind = v.kind; event = v.event; index = v.index; entry = v.entry; depth = v.depth; deepest = v.deepest };
    })
    (λ total a. counted_reaching _ v.depth v.deepest a) (omega arith) refl

pub after_key-requires : goal.after_key-requires
after_key-requires c =
    let v = c.reaching-self-in-Key.ensures in
    record { boundary = c.requires.boundary; innermost = indexed_as _ _ v.event v.index v.entry c.requires.innermost; others = c.requires.others }

pub returns-in-Value : goal.returns-in-Value
returns-in-Value c =
    let v = c.reaching-self-in-Value.ensures in
    led _ _ _ _ c.end_entry.result c.end_entry.ensures (λ base r a. value_read_done a c.in-Value.is c.reaching-self-in-Value.result v.kind v.event v.depth v.deepest)
    (λ total a. counted_reaching _ v.depth v.deepest a) (omega arith) refl

pub end_entry-requires : goal.end_entry-requires
end_entry-requires c =
    let v = c.reaching-self-in-Value.ensures in
    record { boundary = c.requires.boundary; innermost = indexed_as _ _ v.event v.index v.entry c.requires.innermost; others = c.requires.others }
