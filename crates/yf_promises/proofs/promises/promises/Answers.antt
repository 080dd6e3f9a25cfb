use Rattle.yf_promises.proofs.PromisesHold.{Laws, content_is_one, promises_hold, streams_say_one}
use Rattle.yf_promises.proofs.promises.promises.Goals as goal

pub returns : goal.returns
returns c =
    let laws : Laws = record {
      standard = c.headline.ensures.standard;
      meant = c.headline.ensures.meant;
      one = c.headline.ensures.one;
      streams = c.headline.ensures.streams;
      formatted = c.headline.ensures.formatted;
      textual = c.headline.ensures.textual;
    } in
    record {
      promises = promises_hold laws;
      meaning = streams_say_one laws;
      content = content_is_one;
    }
