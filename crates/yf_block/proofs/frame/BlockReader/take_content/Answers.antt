use Rattle.std.proofs.Common.{refl, sym, ◌∙◌}
use Rattle.yf_block.specs.ContentTied.{text_alone}
use Rattle.yf_block.proofs.LineSteps.ContentSteps.{signless_there}
use Rattle.yf_block.proofs.Ends.PropertiesLemmas.{no_properties}
use Rattle.yf_block.proofs.frame.BlockReader.take_content.Goals as goal

pub returns-in-Some : goal.returns-in-Some
returns-in-Some c = record {
  tied = λ d root before j r a. c.open_collection.ensures.tied d root before j r (record { cols = a.cols; column_is = a.column_is ∙ c.in-Some.ensures.0; start = a.start });
  stepped = c.open_collection.ensures.stepped;
  counted = c.open_collection.ensures.counted;
}

pub returns-in-None : goal.returns-in-None
returns-in-None c = record {
  tied = λ d root before j r a.
      c.take_after_properties.ensures.tied d root before j r (record {
        content = record { cols = a.cols; start = a.start; column_is = a.column_is; signless = signless_there a.column_is a.undashed c.in-None.ensures };
        text = text_alone (no_properties (sym c.if-is_property_at.false ∙ c.is_property_at.ensures));
      });
  stepped = c.take_after_properties.ensures.stepped;
  counted = c.take_after_properties.ensures.counted;
}

pub take_held_content-requires : goal.take_held_content-requires
take_held_content-requires c = c.requires

pub open_collection-requires-clause-standing : goal.open_collection-requires-clause-standing
open_collection-requires-clause-standing c = c.requires

pub take_after_properties-requires : goal.take_after_properties-requires
take_after_properties-requires c = record { standing = c.requires; start = c.requires.boundary; properties = refl }
