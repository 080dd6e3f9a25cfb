use Rattle.std.proofs.Common.{refl, sym, ap, ◌∙◌, ◌++◌, ◌∷◌, [], arith, ◌+◌}
use Rattle.yf_flow.specs.EntryStarts.{question_there}
use Rattle.yf_flow.proofs.Stack.TiedSigns.{code_at, chosen_at, question_no_feed, rest_nothing, rest_value, rest_key}
use Rattle.yf_flow.proofs.Stack.CountLemmas.{moved, question_passed}
use Rattle.yf_flow.proofs.Ends.MachineLemmas.{led, frames_event, indexed_event, awaited_event}
use Rattle.yf_flow.proofs.frame.FlowReader.explicit_entry.Goals as goal

pub in_mapping-requires : goal.in_mapping-requires
in_mapping-requires c = record { boundary = c.requires.innermost.place; innermost = c.requires.innermost; others = c.requires.others }

pub returns : goal.returns
returns c =
    let m = c.in_ok-in_mapping.ensures in
    record {
      tied = λ base r a. rw c.if-branch.false at (m.tied base r _ a.comments (question_there a.question a.chosen) a.first);
      counted = λ total a. rw c.if-branch.false at (m.counted total c.args.self.now.top.entry c.args.at (question_passed _ _ a.room.utf8 a.question a.order) (omega (arith, a.order)) a.room);
      stepped = record { ready = record { below = m.others; step = m.innermost.place }; moves = omega arith; same_escapes = m.escapes };
    }

pub returns-then-entry_ends : goal.returns-then-entry_ends
returns-then-entry_ends c =
    let m = c.in_ok-in_mapping.ensures in
    led _ _ _ _ c.end_entry.result c.end_entry.ensures
    (λ base r a.
    let s = rw c.if-branch.true at (m.tied base r _ a.comments (question_there a.question a.chosen) a.first) in
    let q = code_at c.args.scene.text.now m.entry a.question in
    rest_nothing s q (chosen_at m.entry a.chosen) (sym c.entry_ends.ensures ∙ c.if-entry_ends.true) c.entry_at-entry.result (c.entry_at-entry.ensures (question_no_feed c.args.scene.text.now _ q))
    _ (c.in_ok-push.ensures ∙ ap (λ z. c.in_mapping.new.self.part.events ++ z ∷ []) c.empty_node.ensures)
    (c.in_ok-push-2.ensures ∙ ap (λ z. c.push.new.self ++ z ∷ []) c.empty_node-then-entry_ends.ensures) refl refl)
    (λ total a. rw c.if-branch.true at (m.counted total c.args.self.now.top.entry c.args.at (question_passed _ _ a.room.utf8 a.question a.order) (omega (arith, a.order)) a.room))
    (omega arith) m.escapes

pub returns-then-is_colon_at : goal.returns-then-is_colon_at
returns-then-is_colon_at c =
    let m = c.in_ok-in_mapping.ensures in
    led _ _ _ _ c.keyless_value.result c.keyless_value.ensures
    (λ base r a.
    let s = rw c.if-branch.true at (m.tied base r _ a.comments (question_there a.question a.chosen) a.first) in
    let q = code_at c.args.scene.text.now m.entry a.question in
    record {
      comments = a.comments;
      no_feed = question_no_feed c.args.scene.text.now _ q;
      sign = s;
      awaited = rest_value s q (chosen_at m.entry a.chosen) (sym c.entry_ends.ensures ∙ c.if-entry_ends.false) c.if-is_colon_at.ensures.cases;
    })
    (λ total a.
    moved (c.args.at + 1) (omega arith)
    (rw c.if-branch.true at (m.counted total c.args.self.now.top.entry c.args.at (question_passed _ _ a.room.utf8 a.question a.order) (omega (arith, a.order)) a.room)))
    (omega arith) m.escapes

pub returns-then-branch : goal.returns-then-branch
returns-then-branch c =
    let m = c.in_ok-in_mapping.ensures in
    record {
      tied = λ base r a.
          let s = rw c.if-branch.true at (m.tied base r _ a.comments (question_there a.question a.chosen) a.first) in
          rest_key s (code_at c.args.scene.text.now m.entry a.question) (chosen_at m.entry a.chosen) (sym c.entry_ends.ensures ∙ c.if-entry_ends.false) c.if-is_colon_at.ensures.cases;
      counted = λ total a. rw c.if-branch.true at (m.counted total c.args.self.now.top.entry c.args.at (question_passed _ _ a.room.utf8 a.question a.order) (omega (arith, a.order)) a.room);
      stepped = record {
        ready = record { below = m.others; step = (record { boundary = c.requires.boundary; order = omega arith }, m.innermost) };
        moves = omega arith;
        same_escapes = m.escapes;
      };
    }

pub end_entry-requires : goal.end_entry-requires
end_entry-requires c =
    let m = c.in_ok-in_mapping.ensures in
    let e = c.in_ok-push.ensures in
    let f = c.in_ok-push-2.ensures in
    record {
      boundary = c.requires.boundary;
      innermost = indexed_event _ _ _ _ f (awaited_event _ _ _ _ e m.innermost);
      others = frames_event _ _ _ _ f (frames_event _ _ _ _ e m.others);
    }

pub keyless_value-requires : goal.keyless_value-requires
keyless_value-requires c =
    let m = c.in_ok-in_mapping.ensures in
    record { boundary = c.if-is_colon_at.ensures.follows refl; innermost = m.innermost; others = m.others }
