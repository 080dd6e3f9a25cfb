use Rattle.std.proofs.Common.{refl, arith, ◌+◌}
use Rattle.yf_flow.proofs.Stack.TiedEnds.{gap_of, entry_next, entry_closing, entry_fails}
use Rattle.yf_flow.proofs.Stack.CountLemmas.{moved}
use Rattle.yf_flow.proofs.Ends.MachineLemmas.{led, failed_stepped, indexed_awaits}
use Rattle.yf_flow.proofs.frame.FlowReader.after_entry.Goals as goal

pub returns-then-is_char_at : goal.returns-then-is_char_at
returns-then-is_char_at c =
    let p = c.in_ok-place.ensures in
    let g = gap_of p.reads in
    record {
      tied = λ base r a. entry_next r.utf8 a g.1 refl g.2 refl c.if-is_char_at.ensures.cases.char;
      counted = λ total a. moved (c.in_ok-place.field-0.end + 1) (omega (arith, p.place.order)) a;
      stepped = record {
        ready = record { below = c.requires.others; step = (record { boundary = c.if-is_char_at.ensures.cases.boundary; order = omega (arith, p.place.order) }, indexed_awaits c.requires.innermost) };
        moves = omega (arith, p.place.order, c.if-is_char_at.ensures.cases.within);
        same_escapes = refl;
      };
    }

pub returns-then-closes : goal.returns-then-closes
returns-then-closes c =
    let p = c.in_ok-place.ensures in
    let g = gap_of p.reads in
    led _ _ _ _ c.close.result c.close.ensures (λ base r a. entry_closing r.utf8 a g.1 refl g.2 refl c.if-closes.ensures.cases) (λ total a. moved _ p.place.order a) p.place.order refl

pub returns : goal.returns
returns c =
    let g = gap_of c.in_ok-place.ensures.reads in
    record {
      tied = λ base r a. entry_fails r.utf8 a g.1 c.if-closes.ensures.cases c.if-is_char_at.ensures.cases;
      counted = λ total a. tt;
      stepped = failed_stepped c.requires.others refl;
    }
