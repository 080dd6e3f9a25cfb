use Rattle.std.proofs.Common.{[], ◌∷◌, ◌++◌, refl, sym, ap, ◌∙◌, arith}
use Rattle.std.proofs.lemmas.List.Elements.{All-same}
use Rattle.std.specs.Str.{IsCharBoundary}
use Rattle.yf_events.specs.Event.{EventInText}
use Rattle.yf_flow.specs.declared.node.Lead.{Lead}
use Rattle.yf_events.specs.declared.event.ScalarStyle.TheVariants.{Plain}
use Rattle.yf_flow.specs.NodeStarts.{leaf_event}
use Rattle.yf_block.proofs.Stack.TiedAlone.{empty_fails, empty_resumes, held_resumes, none_there, some_there}
use Rattle.yf_block.proofs.Runs.MovedLemmas.{failed_moved, resume_moved}
use Rattle.yf_block.proofs.frame.BlockReader.end_empty.Goals as goal

pub returns-then-len-eq0 : goal.returns-then-len-eq0
returns-then-len-eq0 c = record {
  tied = λ d root before j r e. empty_fails e c.in-None.is (none_there c.args.self.now.frames.items (sym c.len.ensures.value ∙ c.if-len-eq0.true));
  stepped = failed_moved c.requires.progress c.requires.escapes c.requires.boundary;
  counted = λ u total q. tt;
}

pub returns-in_ok-push_scalar-in-Some : goal.returns-in_ok-push_scalar-in-Some
returns-in_ok-push_scalar-in-Some c = record {
  tied = λ d root before j r e.
      let p = c.in_ok-push_scalar-in-Some.ensures in
      held_resumes e c.in-Some.is refl (p.pushed ∙ ap (λ (z : Lead). c.args.self.now.part.events ++ leaf_event z Plain [] c.in-Some.properties.end ∷ []) c.lead-lead.ensures) p.comments p.escapes;
  stepped = resume_moved (record { floor = c.requires.progress.floor; from = c.requires.progress.from; halt = c.requires.progress.halt }) (All-same (IsCharBoundary c.args.scope.text.now) _ _ c.in_ok-push_scalar-in-Some.ensures.escapes c.requires.escapes) (omega arith) (record { boundary = c.requires.boundary; order = omega arith });
  counted = λ u total q. q;
}

pub returns-in_ok-push-in-None : goal.returns-in_ok-push-in-None
returns-in_ok-push-in-None c = record {
  tied = λ d root before j r e.
      empty_resumes e c.in-None.is (λ q. c.if-len-eq0.false (c.len.ensures.value ∙ some_there c.args.self.now.frames.items q))
      (c.in_ok-push-in-None.ensures ∙ ap (λ (z : EventInText). c.args.self.now.part.events ++ z ∷ []) c.empty_node-empty.ensures) refl refl;
  stepped = resume_moved c.requires.progress c.requires.escapes (omega arith) (record { boundary = c.requires.boundary; order = omega arith });
  counted = λ u total q. q;
}
