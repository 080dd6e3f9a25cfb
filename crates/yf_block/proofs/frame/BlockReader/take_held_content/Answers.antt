use Rattle.std.proofs.Common.{refl, ◌∙◌}
use Rattle.yf_block.specs.ContentTied.{text_alone}
use Rattle.yf_block.proofs.LineSteps.ContentSteps.{signless_there}
use Rattle.yf_block.proofs.frame.BlockReader.take_held_content.Goals as goal

pub returns-in-Some : goal.returns-in-Some
returns-in-Some c = record {
  tied = λ d root before j r a. c.open_collection.ensures.tied d root before j r (record { cols = a.cols; column_is = a.column_is ∙ c.in-Some.ensures.0; start = a.start });
  stepped = c.open_collection.ensures.stepped;
  counted = c.open_collection.ensures.counted;
}

pub returns-in-Some-2 : goal.returns-in-Some-2
returns-in-Some-2 c = record {
  tied = λ d root before j r a.
      c.take_propertied.ensures.tied d root before j r (record {
        properties = rw c.in-Some-2.is at c.in_ok-inner-in-None.ensures.reads;
        content = record { cols = a.cols; start = a.start; column_is = a.column_is; signless = signless_there a.column_is a.undashed c.in-None.ensures };
      });
  stepped = c.take_propertied.ensures.stepped;
  counted = c.take_propertied.ensures.counted;
}

pub returns-in-None-2 : goal.returns-in-None-2
returns-in-None-2 c = record {
  tied = λ d root before j r a.
      c.take_after_properties.ensures.tied d root before j r (record {
        content = record { cols = a.cols; start = a.start; column_is = a.column_is; signless = signless_there a.column_is a.undashed c.in-None.ensures };
        text = text_alone (rw c.in-None-2.is at c.in_ok-inner-in-None.ensures.reads);
      });
  stepped = c.take_after_properties.ensures.stepped;
  counted = c.take_after_properties.ensures.counted;
}

pub open_collection-requires-clause-standing : goal.open_collection-requires-clause-standing
open_collection-requires-clause-standing c = c.requires

pub take_propertied-requires-clause-standing : goal.take_propertied-requires-clause-standing
take_propertied-requires-clause-standing c = c.requires

pub take_after_properties-requires : goal.take_after_properties-requires
take_after_properties-requires c = record { standing = c.requires; start = c.requires.boundary; properties = refl }

pub take_propertied-requires-clause-inner : goal.take_propertied-requires-clause-inner
take_propertied-requires-clause-inner c = rw c.in-Some-2.is at c.in_ok-inner-in-None.ensures.place
