use Rattle.std.proofs.Common.{◌≡◌, ◌+◌, None, Some, drop, reverse, sym, ap, subst, unwrap_or, ◌∙◌}
use Rattle.yf_rule_sets.specs.Passes.Entries.{column_at, entries_from}
use Rattle.yf_rule_sets.specs.Passes.ContextPass.{IsPass}
use Rattle.yf_rule_sets.specs.Passes.NodeContexts.{opened}
use Rattle.yf_rule_sets.proofs.Indentation.PassLemmas.{begun_within, column_begun, no_column, none_begun, one_begun, stack_begun, stand_begun}
use Rattle.yf_rule_sets.proofs.facts.node_context.Pass.open.Goals as goal
use Rattle.yf_rule_sets.proofs.facts.node_context.Pass.open.Goals.{in-Some, in-None}

pub returns : goal.returns
returns c = λ p.
    let t = c.args.src.now.text in
    let es = c.args.reading.now.events in
    let i = c.args.i in
    let old = c.args.self.now in
    let cs = old.columns.items in
    let mid = c.match-first.self in
    let f : (c.match-first.column ≡ column_at t es cs i) × IsPass t es cs mid.begun (i + 1) × (mid.columns ≡ old.columns) × (mid.stack ≡ c.next_context-stand.new.stack) =
    elim c.match-first.branch [
      | in-Some w ↦
          let e : entries_from t (drop i es) ≡ Some _ = sym w.in-Some.ensures in (
            w.column-is ∙ ap Some w.next_column.ensures.column ∙ column_begun t es cs old.begun i c.requires p _ e,
            one_begun t es cs old.begun i c.requires p _ mid.begun e (ap (λ x. x.begun) w.self-is ∙ w.next_column.ensures.begun (begun_within t es cs old.begun i c.requires p _ e)),
            ap (λ x. x.columns) w.self-is ∙ w.next_column.ensures.columns,
            ap (λ x. x.stack) w.self-is ∙ w.next_column.ensures.stack,
          )
      | in-None w ↦
          let e : entries_from t (drop i es) ≡ None = sym w.in-None.ensures in (
            w.column-is ∙ no_column t es cs old.begun i c.requires p e,
            subst (λ b. IsPass t es cs b (i + 1)) (sym (ap (λ x. x.begun) w.self-is)) (none_begun t es cs old.begun i c.requires p e),
            ap (λ x. x.columns) w.self-is,
            ap (λ x. x.stack) w.self-is,
          )
    ] in
    let k : mid.columns.items ≡ cs = ap (λ x. x.items) f.2 in
    record {
      stack = stack_begun mid.stack.items _ _ (record { column = c.match-first.column; is_map = c.args.is_map; key = None }) c.args.is_map (column_at t es cs i) c.in_ok-push.ensures.items
          (ap (opened c.args.is_map) f.0) (ap (λ x. reverse x.items) f.3 ∙ c.next_context-stand.ensures.stack);
      tells = stand_begun c.next_context-stand.result (reverse old.stack.items) c.match-first.column (column_at t es cs i) c.unwrap_or.result (unwrap_or (entries_from t (drop i es)) 0)
          c.next_context-stand.ensures.stand f.0 (c.unwrap_or.ensures ∙ ap (λ o. unwrap_or o 0) c.first_entry-first.ensures);
      kept = k;
      later = subst (λ cs. IsPass t es cs mid.begun (i + 1)) (sym k) f.1;
    }
