use Rattle.std.proofs.Common.{◌∙◌, ◌++◌, [], ◌∷◌, None, Some, ap, refl}
use Rattle.yf_events.proofs.TagLists.{next_tagged, next_untagged}
use Rattle.yf_events.proofs.tags.Tags.push.Goals as goal
use Rattle.yf_events.proofs.tags.Tags.push.Goals.{in-Some-tag+in_ok-push, in_default-tag}

pub returns : goal.returns
returns c =
    elim c.match-tag-3.branch [
      | in-Some-tag+in_ok-push w ↦
          rw (w.self-inside-is, w.in-Some-tag.is) (next_tagged c.self.inside.count c.in-Some.count c.self.inside.tagged.items w.push.new.self.items _ c.self.invariant c.in-Some.ensures.1 refl w.in_ok-push.ensures.items
          ∙ ap (λ v. v ++ Some w.in-Some-tag.tag ∷ []) c.self.view_is)
      | in_default-tag w ↦
          rw (w.self-inside-is, w.in_default-tag.is) (next_untagged c.self.inside.count c.in-Some.count c.self.inside.tagged.items c.self.invariant c.in-Some.ensures.1
          ∙ ap (λ v. v ++ None ∷ []) c.self.view_is)
    ]
