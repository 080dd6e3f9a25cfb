use Rattle.yf_stream.proofs.TagPass.PassSteps.{if_pushed, tag_added}
use Rattle.yf_stream.proofs.resolve.add_tag.Goals as goal

pub returns : goal.returns
returns c =
    if_pushed _ _ _ c.push.ensures
    (λ l t. tag_added c.args.handles.now c.in_ok-tag.tag c.tag.ensures c.tag_offset.ensures c.in_ok-tag.ensures.found c.in_ok-tag.ensures.tag l)
