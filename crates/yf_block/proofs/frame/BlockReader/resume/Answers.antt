use Rattle.std.proofs.Common.{ℕ, ◌+◌, ◌-◌, true, false, Some, None, length, ap, sym, subst, ◌∙◌, arith, ◌≤◌}
use Rattle.std.specs.Str.{IsCharBoundary}
use Rattle.yf_block.specs.BlockTied.{wanted_after}
use Rattle.yf_block.proofs.Ends.LookLemmas.{may_place}
use Rattle.yf_block.proofs.Stack.TiedNext.{next_item, next_key}
use Rattle.yf_block.proofs.Stack.TiedNodes.{node_tied, entry_same, floor_blank, item_awaited}
use Rattle.yf_block.proofs.Stack.TiedResume.{place_tied}
use Rattle.yf_block.proofs.Runs.CountedSteps.{later}
use Rattle.yf_block.proofs.Runs.MovedLemmas.{awaited_moved, moved_later}
use Rattle.yf_block.proofs.frame.BlockReader.resume.Goals as goal

pub returns-in-Some : goal.returns-in-Some
returns-in-Some c =
    let b = c.in-Some.ensures in
    let p = rw b.starts at c.entry_place-place.ensures.place in
    let e = c.entry_at-entry.ensures in
    let l : c.args.at ≤ c.entry_at-entry.result.start = omega (arith, p.order, e.start) in
    record {
      tied = λ d root before j r a.
          c.take_key.ensures.tied d root before j r (next_key a b (place_tied _ a.outside c.entry_place-place.ensures.entry) p.order p.boundary.0 c.entry_at-entry.result e.start e.colon e.note);
      stepped = moved_later {at = c.args.at} {place = c.entry_at-entry.result.start} {more = 0} {less = 0} _ _ _ l (omega arith) c.take_key.ensures.stepped;
      counted = λ u total q. c.take_key.ensures.counted u total (later _ (length c.args.self.now.frames.items) total c.args.at c.entry_at-entry.result.start l q);
    }

pub returns-in-Some-item_below : goal.returns-in-Some-item_below
returns-in-Some-item_below c =
    let b = c.in-Some-item_below.ensures.item in
    let p = rw b.starts at c.entry_place-place.ensures.place in
    let e = c.entry_at-item.ensures in
    let v = c.await_node.ensures in
    let y = b.dash in
    let o = p.order in
    record {
      tied = λ d root before j r a.
          let i = next_item a b (place_tied _ a.outside c.entry_place-place.ensures.entry) in
          let n = e.note (λ q. omega (arith, q, y.dash)) (floor_blank i (omega (arith, y.dash))) in
          node_tied _ v.step (item_awaited i y b.top.sequence b.top.settled b.top.stack n
          (v.wanted (omega arith) ∙ ap (λ x. wanted_after (c.in-Some-item_below.start - c.args.at) true false (Some x)) (entry_same c.entry_at-item.result c.in-Some-item_below.start None e.start e.colon)
          ∙ ap (λ (k : ℕ). wanted_after k true false (Some (record { start = c.in-Some-item_below.start; colon = None; blank_before = c.entry_at-item.result.blank_before }))) b.top.column_is)
          v.last v.floor v.colons v.halt);
      stepped = awaited_moved v c.requires.progress c.requires.escapes o c.in-Some-item_below.ensures.boundary;
      counted = λ u total q. rw v.step (later _ (length c.args.self.now.frames.items) total c.args.at (c.in-Some-item_below.start + 1) (omega (arith, o)) q);
    }

pub resume_below-requires-clause-entry : goal.resume_below-requires-clause-entry
resume_below-requires-clause-entry c = λ b. place_tied _ b c.entry_place-place.ensures.entry

pub resume_below-requires-clause-standing : goal.resume_below-requires-clause-standing
resume_below-requires-clause-standing c = c.requires

pub resume_below-requires-clause-place : goal.resume_below-requires-clause-place
resume_below-requires-clause-place c = may_place c.args.scope.text.now c.args.at c.entry_place-place.result c.entry_place-place.ensures.place

pub key_below-requires : goal.key_below-requires
key_below-requires c = may_place c.args.scope.text.now c.args.at c.entry_place-place.result c.entry_place-place.ensures.place

pub item_below-requires : goal.item_below-requires
item_below-requires c = may_place c.args.scope.text.now c.args.at c.entry_place-place.result c.entry_place-place.ensures.place

pub take_key-requires : goal.take_key-requires
take_key-requires c = let b = c.in-Some.ensures in let p = rw b.starts at c.entry_place-place.ensures.place in record { boundary = subst (λ (z : ℕ). IsCharBoundary c.args.scope.text.now z) (sym c.entry_at-entry.ensures.start) p.boundary; progress = c.requires.progress; escapes = c.requires.escapes }

pub entry_place-place-requires : goal.entry_place-place-requires
entry_place-place-requires c = c.requires.boundary
