use Rattle.std.proofs.Common.{refl, sym, ap, ◌∙◌, ◌++◌, ◌∷◌, [], arith}
use Rattle.yf_chars.specs.Text.{code}
use Rattle.yf_grammar.specs.FlowReader.FlowContinuations.{is_entry_end}
use Rattle.yf_flow.proofs.Stack.TiedEnds.{gap_of}
use Rattle.yf_flow.proofs.Stack.TiedValues.{separated_gap, unseparated_gap, value_done, value_after, value_beside, value_fails}
use Rattle.yf_flow.proofs.Stack.CountLemmas.{moved, counted_as}
use Rattle.yf_flow.proofs.Ends.MachineLemmas.{led, failed_stepped, frames_event, indexed_event, value_awaits}
use Rattle.yf_flow.proofs.frame.FlowReader.await_value.Goals as goal

pub returns-then-entry_ends : goal.returns-then-entry_ends
returns-then-entry_ends c =
    let r = c.in_ok-gap.ensures in
    let g = gap_of r.reads in
    led _ _ _ _ c.end_entry.result c.end_entry.ensures
    (λ base u a.
    value_done a g.1 (sym c.entry_ends.ensures ∙ c.if-entry_ends.true) (c.in_ok-push.ensures ∙ ap (λ w. c.args.self.now.part.events ++ w ∷ []) c.empty_node.ensures) g.2 refl)
    (λ total a. moved _ r.place.order a) (omega (arith, r.place.order)) refl

pub returns-then-gap : goal.returns-then-gap
returns-then-gap c =
    let r = c.in_ok-gap.ensures in
    let g = separated_gap r.reads c.if-gap.true in
    let v = c.with_value-self.ensures in
    record {
      tied = λ base u a. value_after a c.with_value-self.result v.kind v.event v.depth v.deepest v.entry v.role refl refl g.1 (sym c.entry_ends.ensures ∙ c.if-entry_ends.false) g.2;
      counted = λ total a. counted_as _ v.depth v.deepest (moved _ r.place.order a);
      stepped = record {
        ready = record {
          below = c.requires.others;
          step = (record { boundary = r.place.boundary; order = omega (arith, r.place.order) }, value_awaits c.args.self.now.top _ v.event v.index v.entry c.requires.innermost);
        };
        moves = omega (arith, r.place.order);
        same_escapes = refl;
      };
    }

pub returns-then-json : goal.returns-then-json
returns-then-json c =
    let r = c.in_ok-gap.ensures in
    let g = unseparated_gap r.reads c.if-gap.false in
    let v = c.with_value-self.ensures in
    record {
      tied = λ base u a.
          value_beside a c.with_value-self.result v.kind v.event v.depth v.deepest v.entry v.role refl refl c.if-json.true g.0 _ g.1 (sym c.entry_ends.ensures ∙ c.if-entry_ends.false) g.2;
      counted = λ total a. counted_as _ v.depth v.deepest (moved _ r.place.order a);
      stepped = record {
        ready = record {
          below = c.requires.others;
          step = (record { boundary = r.place.boundary; order = omega (arith, r.place.order) }, value_awaits c.args.self.now.top _ v.event v.index v.entry c.requires.innermost);
        };
        moves = omega (arith, r.place.order);
        same_escapes = refl;
      };
    }

pub returns : goal.returns
returns c =
    let r = c.in_ok-gap.ensures in
    let g = unseparated_gap r.reads c.if-gap.false in
    record {
      tied = λ base u a. value_fails a c.if-json.false g.0 (ap (λ p. is_entry_end (code c.args.scene.text.now p)) (sym g.1) ∙ sym c.entry_ends.ensures ∙ c.if-entry_ends.false);
      counted = λ total a. tt;
      stepped = failed_stepped c.requires.others refl;
    }

pub end_entry-requires : goal.end_entry-requires
end_entry-requires c =
    let q = c.requires in
    let e = c.in_ok-push.ensures in
    record { boundary = c.in_ok-gap.ensures.place.boundary; innermost = indexed_event _ _ _ _ e q.innermost; others = frames_event _ _ _ _ e q.others }
