use Rattle.std.proofs.Common.{sym, ◌∙◌, append-nil, arith, refl, [], ◌+◌, ◌≤◌}
use Rattle.yf_flow.proofs.Stack.TiedEnds.{gap_of, place_awaited, place_closing}
use Rattle.yf_flow.proofs.Stack.TiedFirst.{first_begun, first_node_at}
use Rattle.yf_flow.proofs.Stack.TiedSigns.{code_at, chosen_at, lone_sign, colon_no_feed, alone_at}
use Rattle.yf_flow.proofs.Stack.CountLemmas.{moved, counted_as, colon_passed}
use Rattle.yf_flow.proofs.Ends.MachineLemmas.{led, entry_awaits}
use Rattle.yf_flow.proofs.frame.FlowReader.start_entry.Goals as goal

pub returns-then-closes : goal.returns-then-closes
returns-then-closes c =
    let p = c.in_ok-place.ensures in
    let g = gap_of p.reads in
    led _ _ _ _ c.close.result c.close.ensures (λ base r a. place_closing (place_awaited a g.1 refl g.2 refl) c.if-closes.ensures.cases) (λ total a. moved _ p.place.order a) p.place.order refl

pub close-requires : goal.close-requires
close-requires c = record { boundary = c.if-closes.ensures.follows refl; innermost = c.requires.innermost.event; others = c.requires.others }

pub returns-in-Some : goal.returns-in-Some
returns-in-Some c =
    let p = c.in_ok-place.ensures in
    let g = gap_of p.reads in
    let v = c.with_entry-self.ensures in
    let q = c.in_ok-end.ensures in
    let s = rw c.in-Some.is at q.reads in
    let e = rw c.in-Some.is at q.place in
    led _ _ _ _ c.explicit_entry.result c.explicit_entry.ensures
    (λ base r a. record {
      comments = s.1.comments;
      question = code_at c.args.scene.text.now v.entry s.0;
      chosen = chosen_at v.entry s.1.chosen;
      first = first_begun (place_awaited a g.1 refl g.2 refl) c.if-closes.ensures.cases refl s.1.added refl c.with_entry-self.result v.kind v.event v.depth v.deepest v.entry v.role (v.index ∙ c.len.ensures);
    })
    (λ total a. record {
      question = code_at c.args.scene.text.now v.entry s.0;
      order = omega (arith, v.entry, e.order);
      room = counted_as _ v.depth v.deepest (moved c.with_entry-self.result.entry (omega (arith, v.entry, p.place.order)) a);
    })
    (omega (arith, e.order, p.place.order)) refl

pub explicit_entry-requires : goal.explicit_entry-requires
explicit_entry-requires c =
    let v = c.with_entry-self.ensures in
    record {
      boundary = (rw c.in-Some.is at c.in_ok-end.ensures.place).boundary;
      innermost = entry_awaits c.args.self.now.top _ v.event (v.index ∙ c.len.ensures) (rw v.entry c.in_ok-place.ensures.place.boundary) c.requires.innermost;
      others = c.requires.others;
    }

pub in_mapping-requires : goal.in_mapping-requires
in_mapping-requires c =
    let v = c.with_entry-self.ensures in
    let place = c.in_ok-place.ensures.place.boundary in
    record { boundary = rw v.entry place; innermost = entry_awaits c.args.self.now.top _ v.event (v.index ∙ c.len.ensures) (rw v.entry place) c.requires.innermost; others = c.requires.others }

pub returns-then-branch : goal.returns-then-branch
returns-then-branch c =
    let p = c.in_ok-place.ensures in
    let g = gap_of p.reads in
    let v = c.with_entry-self.ensures in
    let s = rw c.in-None.is at c.in_ok-end.ensures.reads in
    let col = c.if-is_colon_at.ensures.cases in
    let m = c.in_ok-in_mapping.ensures in
    let k = c.in_ok-place.field-0.end in
    let less : k ≤ k + 1 = omega arith in
    led _ _ _ _ c.keyless_value.result c.keyless_value.ensures
    (λ base r a.
    let f = first_begun (place_awaited a g.1 refl g.2 refl) c.if-closes.ensures.cases refl (s.same ∙ sym (append-nil _)) refl c.with_entry-self.result v.kind v.event v.depth v.deepest v.entry v.role (v.index ∙ c.len.ensures) in
    let sign = rw c.if-branch.true at (m.tied base r _ [] (lone_sign v.entry col) f) in
    record { comments = []; no_feed = colon_no_feed (m.entry ∙ v.entry) col; sign = sign; awaited = alone_at sign (m.entry ∙ v.entry) refl col })
    (λ total a.
    rw c.if-branch.true at (m.counted total k (k + 1) (colon_passed _ a.utf8 col.colon) less (counted_as _ v.depth v.deepest (moved _ p.place.order a))))
    p.place.order m.escapes

pub keyless_value-requires : goal.keyless_value-requires
keyless_value-requires c =
    let m = c.in_ok-in_mapping.ensures in
    record { boundary = c.if-is_colon_at.ensures.follows refl; innermost = m.innermost; others = m.others }

pub returns-then-is_colon_at : goal.returns-then-is_colon_at
returns-then-is_colon_at c =
    let p = c.in_ok-place.ensures in
    let g = gap_of p.reads in
    let v = c.with_entry-self.ensures in
    let s = rw c.in-None.is at c.in_ok-end.ensures.reads in
    let col = c.if-is_colon_at.ensures.cases in
    let m = c.in_ok-in_mapping.ensures in
    let k = c.in_ok-place.field-0.end in
    let less : k ≤ k + 1 = omega arith in
    record {
      tied = λ base r a.
          let f = first_begun (place_awaited a g.1 refl g.2 refl) c.if-closes.ensures.cases refl (s.same ∙ sym (append-nil _)) refl c.with_entry-self.result v.kind v.event v.depth v.deepest v.entry v.role (v.index ∙ c.len.ensures) in
          rw c.if-branch.false at (m.tied base r _ [] (lone_sign v.entry col) f);
      counted = λ total a.
          rw c.if-branch.false at (m.counted total k (k + 1) (colon_passed _ a.utf8 col.colon) less (counted_as _ v.depth v.deepest (moved _ p.place.order a)));
      stepped = record { ready = record { below = m.others; step = p.place.boundary }; moves = omega arith; same_escapes = m.escapes };
    }

pub returns : goal.returns
returns c =
    let p = c.in_ok-place.ensures in
    let g = gap_of p.reads in
    let v = c.with_entry-self.ensures in
    let s = rw c.in-None.is at c.in_ok-end.ensures.reads in
    record {
      tied = λ base r a.
          first_node_at
          (first_begun (place_awaited a g.1 refl g.2 refl) c.if-closes.ensures.cases refl (s.same ∙ sym (append-nil _)) refl c.with_entry-self.result v.kind v.event v.depth v.deepest v.entry v.role (v.index ∙ c.len.ensures))
          v.entry s.none c.if-is_colon_at.ensures.cases;
      counted = λ total a. counted_as _ v.depth v.deepest (moved _ p.place.order a);
      stepped = record {
        ready = record {
          below = c.requires.others;
          step = (p.place, entry_awaits c.args.self.now.top _ v.event (v.index ∙ c.len.ensures) (rw v.entry p.place.boundary) c.requires.innermost);
        };
        moves = omega (arith, p.place.order);
        same_escapes = refl;
      };
    }
